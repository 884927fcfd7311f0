use Rattle.std.proofs.Common.{◌≡◌, ℕ, List, ◌-◌, ◌*◌, ◌∙◌, length, take, drop, ap, arith}
use Rattle.std.proofs.lemmas.List.{take_all, length-drop}
use Rattle.bx_audit_bodies.proofs.PiecesRead.{clear_from, zeros_from}
use Rattle.bx_audit_bodies.proofs.contents.is_clear.Goals as goal

whole : (part : List ℕ) (n : ℕ) → take (length part - n) (drop n part) ≡ drop n part
whole part n = let e = length-drop n part in take_all (length part - n) (drop n part) (omega (arith, e))

pub returns : goal.returns
returns c =
    let payload = c.args.payload.now in
    let part = c.part_below-payload.result.now in
    let n = c.min-from.result in
    let rest = take (length part - n) (drop n part) in
    let from_is : c.saturating_sub-from.result ≡ c.args.tail - 4096 * c.args.index = c.saturating_sub-from.ensures ∙ ap (λ (k : ℕ). c.args.tail - 4096 * k) c.from.ensures in (
      λ zeros. clear_from payload part rest c.args.index c.args.tail c.saturating_sub-from.result n c.part_below-payload.ensures from_is c.if-from-ge-PIECE.false c.min-from.ensures (whole part n) (c.are_zeros.ensures.0 zeros),
      λ clear. c.are_zeros.ensures.1 (zeros_from payload part rest c.args.index c.args.tail c.saturating_sub-from.result n c.part_below-payload.ensures from_is c.if-from-ge-PIECE.false c.min-from.ensures (whole part n) clear),
    )
