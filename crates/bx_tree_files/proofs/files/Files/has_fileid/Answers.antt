use Rattle.std.proofs.Common.{◌≡◌, ◌&&◌, Bool, true, false, eqb, List, refl, sym, ap, ◌∙◌}
use Rattle.std.specs.List.{list_any}
use Rattle.std.specs.Map.{values_of}
use Rattle.bx_tree_files.specs.declared.file.File.{File}
use Rattle.bx_tree_files.specs.Attributes.{fileid}
use Rattle.bx_tree_files.proofs.KeptKeys.{has_key}
use Rattle.bx_tree_files.proofs.KeptNumbers.{number_found, number_kept}
use Rattle.bx_tree_files.proofs.files.Files.has_fileid.Goals as goal

both : (a b : Bool) → (a && b) ≡ true → (a ≡ true) × (b ≡ true)
both true b is = (refl, is)
both false b is = absurd cc

and_true : (a b : Bool) → a ≡ true → b ≡ true → (a && b) ≡ true
and_true true b one other = other
and_true false b one other = absurd cc

same_bool : (a b : Bool) → (a ≡ true → b ≡ true) → (b ≡ true → a ≡ true) → a ≡ b
same_bool true true up down = refl
same_bool true false up down = sym (up refl)
same_bool false true up down = down refl
same_bool false false up down = refl

pub returns : goal.returns
returns c =
    let seen : list_any (λ file. eqb (fileid file.handle) (fileid c.args.handle)) (values_of c.self.inside.by_handle.entries) ≡ list_any (λ file. eqb (fileid file.handle) (fileid c.args.handle)) c.args.self.now =
    ap (λ (files : List File). list_any (λ file. eqb (fileid file.handle) (fileid c.args.handle)) files) c.self.view_is in
    same_bool c.has.result (list_any (λ file. eqb (fileid file.handle) (fileid c.args.handle)) (values_of c.self.inside.by_handle.entries))
    (λ yes.
    let there = c.has.ensures.0 yes in
    let parts = both (eqb (fileid there.0) c.fileid.result) (has_key c.self.inside.by_handle.entries there.0) (sym (c.self.invariant.numbers c.fileid.result there.0) ∙ there.1) in
    number_found c.self.inside.by_handle.entries (fileid c.args.handle) there.0 c.self.invariant.at (rw c.fileid.ensures at parts.0) parts.1)
    (λ any.
    let kept = number_kept c.self.inside.by_handle.entries (fileid c.args.handle) c.self.invariant.at any in
    c.has.ensures.1 (kept.0, c.self.invariant.numbers c.fileid.result kept.0 ∙ and_true (eqb (fileid kept.0) c.fileid.result) (has_key c.self.inside.by_handle.entries kept.0) (rw c.fileid.ensures kept.1) kept.2))
    ∙ seen
