use Rattle.std.proofs.Common.{◌≡◌, ℕ, List, take, replicate, length, ap, ◌∙◌, append_assoc, refl}
use Rattle.std.proofs.lemmas.List.{take-replicate}
use Rattle.bx_xdr.specs.Items.{padding_len}
use Rattle.bx_xdr.proofs.writer.Writer.put_fixed.Goals as goal

pub returns-clause-ok : goal.returns-clause-ok
returns-clause-ok c =
    let padding = c.padding_of-padding in
    let zeros : List ℕ = replicate 3 0 in
    let cut : take padding.result zeros ≡ replicate {A = ℕ} (padding_len (length c.args.content.now)) 0 =
    take-replicate padding.result 3 0 padding.ensures.small ∙ ap (λ (k : ℕ). replicate {A = ℕ} k 0) padding.ensures.value in
    rw (c.in_ok-extend_from_slice-2.ensures.items, c.in_ok-extend_from_slice.ensures.items, c.in_ok-reserve.ensures.items, cut, ← c.self.view_is, append_assoc) refl
