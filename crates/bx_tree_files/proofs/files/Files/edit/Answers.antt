use Rattle.std.proofs.Common.{◌≡◌, ℕ, ◌&&◌, eqb, List, Some, None, ◌∙◌, sym, ap}
use Rattle.std.specs.Map.{lookup, set_value, values_of}
use Rattle.std.specs.BTreeMap.{BTreeMap, is_at}
use Rattle.std.specs.Ordering.{nat_cmp}
use Rattle.std.proofs.lemmas.Map.Steps.{set_value_same}
use Rattle.bx_tree_files.specs.declared.file.File.{File}
use Rattle.std.specs.List.{list_any}
use Rattle.bx_tree_files.specs.Attributes.{fileid}
use Rattle.bx_tree_files.specs.Files.{with_changed, IsFile, file_at}
use Rattle.bx_tree_files.specs.FileEdits.{edited}
use Rattle.bx_tree_files.proofs.Edited.{file_after, handle_after, on_ok_from, on_err_from}
use Rattle.bx_tree_files.proofs.Kept.{file_at-lookup, found_at, at_set, seen_changed, seen_missing}
use Rattle.bx_tree_files.proofs.files.Files.edit.Goals as goal

pub returns-in_default-clause-ok : goal.returns-in_default-clause-ok
returns-in_default-clause-ok c =
    let none : lookup (is_at (nat_cmp c.args.handle)) c.self.inside.by_handle.entries ≡ None = sym c.in_default.ensures.value in
    ap (λ (map : BTreeMap ℕ File). values_of map.entries) c.get_mut.follows.holds-at-none
    ∙ sym (seen_missing c.args.handle (edited c.args.now c.args.edit.now) c.self.inside.by_handle.entries c.self.invariant.at none)
    ∙ ap (λ (files : List File). with_changed files c.args.handle (edited c.args.now c.args.edit.now)) c.self.view_is

pub edit-requires-clause-is : goal.edit-requires-clause-is
edit-requires-clause-is c = (found_at c.args.handle c.self.inside.by_handle.entries c.in-Some.file.now c.self.invariant.at (sym c.in-Some.ensures.value)).1

pub edit-requires-clause-can : goal.edit-requires-clause-can
edit-requires-clause-can c =
    let found : file_at c.args.self.now c.args.handle ≡ Some c.in-Some.file.now =
    ap (λ (files : List File). file_at files c.args.handle) (sym c.self.view_is)
    ∙ sym (file_at-lookup c.args.handle c.self.inside.by_handle.entries c.self.invariant.at)
    ∙ sym c.in-Some.ensures.value in
    rw found at c.requires

pub invariant_of-self-2 : goal.invariant_of-self-2
invariant_of-self-2 c =
    let writes = c.get_mut.follows.holds c.edit.new.self in
    let was = found_at c.args.handle c.self.inside.by_handle.entries c.in-Some.file.now c.self.invariant.at (sym c.in-Some.ensures.value) in
    let is : IsFile c.edit.new.self = file_after c.edit.result c.in-Some.file.now c.edit.new.self c.edit.ensures.is c.edit.ensures.err was.1 in
    let at : c.edit.new.self.handle ≡ c.args.handle = handle_after c.edit.result c.args.now c.args.edit.now c.in-Some.file.now c.edit.new.self c.edit.ensures.ok c.edit.ensures.err ∙ was.0 in
    record { at = rw writes.0 (at_set c.args.handle c.edit.new.self c.self.inside.by_handle.entries at is c.self.invariant.at); rise = writes.4; numbers = λ number handle. c.self.invariant.numbers number handle ∙ ap (λ (keys : List ℕ). eqb (fileid handle) number && list_any (λ key. eqb key handle) keys) (sym writes.1) }

pub returns-clause-ok : goal.returns-clause-ok
returns-clause-ok c =
    let writes = c.get_mut.follows.holds c.edit.new.self in
    on_ok_from c.edit.result _ _
    (λ made.
    ap values_of writes.0
    ∙ ap (λ (file : File). values_of (set_value (is_at (nat_cmp c.args.handle)) c.self.inside.by_handle.entries file)) made
    ∙ seen_changed c.args.handle (edited c.args.now c.args.edit.now) c.in-Some.file.now c.self.inside.by_handle.entries c.self.invariant.at c.self.invariant.rise (sym c.in-Some.ensures.value)
    ∙ ap (λ (files : List File). with_changed files c.args.handle (edited c.args.now c.args.edit.now)) c.self.view_is)
    c.edit.ensures.ok

pub returns-clause-err : goal.returns-clause-err
returns-clause-err c =
    let writes = c.get_mut.follows.holds c.edit.new.self in
    on_err_from c.edit.result _ _
    (λ same.
    ap values_of writes.0
    ∙ ap (λ (file : File). values_of (set_value (is_at (nat_cmp c.args.handle)) c.self.inside.by_handle.entries file)) same
    ∙ ap values_of (set_value_same (is_at (nat_cmp c.args.handle)) c.self.inside.by_handle.entries c.in-Some.file.now (sym c.in-Some.ensures.value))
    ∙ c.self.view_is)
    c.edit.ensures.err
