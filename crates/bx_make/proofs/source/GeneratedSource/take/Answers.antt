use Rattle.std.proofs.Common.{◌≡◌, ◌≤◌, ℕ, ◌+◌, ◌-◌, min, List, ◌++◌, length, take, drop, arith}
use Rattle.std.proofs.lemmas.List.{take_at, take_rest, drop-drop, take-append-drop, length-take-le}
use Rattle.bx_make.proofs.source.GeneratedSource.take.Goals as goal

-- What was copied to the front of a slice, and then what lies behind it, is what was left.
drop-take_front : (bytes front rest : List ℕ) (at count room : ℕ) → front ≡ take count (take (length bytes - at) (drop at bytes)) → count ≡ min (length (take (length bytes - at) (drop at bytes))) room → drop at bytes ≡ take count (front ++ rest) ++ drop (at + count) bytes
drop-take_front bytes front rest at count room e m =
    let f : front ≡ take count (drop at bytes) = rw take_rest at e in
    let k : count ≡ min (length (drop at bytes)) room = rw take_rest at m in
    let le : count ≤ length (drop at bytes) = omega arith in
    let n : length front ≡ count = rw f (length-take-le count (drop at bytes) le) in
    rw (take_at front rest count n, f, ← drop-drop count at bytes, take-append-drop count (drop at bytes))

pub returns-clause-taken : goal.returns-clause-taken
returns-clause-taken c =
    let bytes = c.self.inside.text.items in
    let front = c.copy_from_slice.new.self in
    let e = rw c.deref.ensures.value at c.copy_from_slice.ensures.after in
    let m = rw c.deref.ensures.value at c.min-count.ensures in
    rw (← c.self.view_is) (drop-take_front bytes front _ _ _ _ e m)
