use Rattle.std.proofs.Common.{◌≡◌, ◌-◌, ◌+◌, ◌++◌, ℕ, List, take, drop, arith, ap, sym, subst, ◌∙◌}
use Rattle.bx_tree_parts.proofs.Updated.{Long, piece_part, zeros_part}
use Rattle.bx_tree_parts.proofs.pieces.Pieces.copy_part.Goals as goal

pub returns-in_ok-extend_from_slice-in-Some : goal.returns-in_ok-extend_from_slice-in-Some
returns-in_ok-extend_from_slice-in-Some c =
    let there = sym c.in-Some.ensures.value in
    let part = piece_part c.args.self.now.by_index c.args.index c.args.inner c.args.len c.requires.fits c.in-Some.piece.now there (subst Long there (c.requires.whole c.args.index)) in
    let count : c.args.inner + c.args.len - c.args.inner ≡ c.args.len = omega arith in
    c.in_ok-extend_from_slice-in-Some.ensures.items
    ∙ ap (λ (n : ℕ). c.args.bytes.now.items ++ take n (drop c.args.inner c.deref.result.now)) count
    ∙ ap (λ (l : List ℕ). c.args.bytes.now.items ++ take c.args.len (drop c.args.inner l)) c.deref.ensures.value
    ∙ ap (λ (l : List ℕ). c.args.bytes.now.items ++ l) part

pub returns-in_ok-extend_from_slice-in-None : goal.returns-in_ok-extend_from_slice-in-None
returns-in_ok-extend_from_slice-in-None c =
    c.in_ok-extend_from_slice-in-None.ensures.items ∙ ap (λ (l : List ℕ). c.args.bytes.now.items ++ l) (zeros_part c.args.self.now.by_index c.args.index c.args.inner c.args.len c.requires.fits (sym c.in-None.ensures.value))
