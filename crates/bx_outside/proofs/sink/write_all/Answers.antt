use Rattle.std.proofs.Common.{◌≡◌, ◌≤◌, ℕ, List, ◌++◌, length, take, drop, ◌+◌, ◌-◌, ap, ◌∙◌, arith}
use Rattle.std.proofs.lemmas.List.{take_rest, drop-drop, length-drop, append_assoc}
use Rattle.std.proofs.Math.Seq.{take-add}
use Rattle.bx_outside.proofs.sink.write_all.Goals as goal

-- What was written before a piece's next part, and then that part.
written_more : (written before first piece rest : List ℕ) (n count : ℕ) → written ≡ first ++ take count rest → first ≡ before ++ take n piece → rest ≡ drop n piece → written ≡ before ++ take (n + count) piece
written_more written before first piece rest n count w f r = rw (w, f, r, take-add n count piece) (append_assoc before (take n piece) (take count (drop n piece)))

pub loop-rest-preserved : goal.loop-rest-preserved
loop-rest-preserved g c =
    let piece = c.args.piece.now in
    let k = c.loop-rest.invariant.done in
    let n = k.0 in
    let count = c.in_ok-count.count in
    let fits : count ≤ length c.loop-rest.rest.now = c.in_ok-count.ensures.fits in
    let len : length c.loop-rest.rest.now ≡ length piece - n = rw k.2 (length-drop n piece) in
    let within : n ≤ length piece = k.1 in
    record {
      done = (n + count, omega arith, take_rest c.loop-rest.rest.now count ∙ (ap (drop count) k.2 ∙ drop-drop count n piece), λ t. written_more _ _ _ piece _ n count (c.in_ok-count.ensures.taken (c.loop-rest.invariant.tells t)) (k.3 t) k.2);
      same = c.in_ok-count.ensures.no_fault ∙ c.loop-rest.invariant.same;
      tells = λ t. c.write.ensures.keeps_telling (c.loop-rest.invariant.tells t);
    }
