-- A sector of bytes once another was put into them.
use Rattle.std.proofs.Common.{◌≡◌, ◌∙◌, ℕ, ◌+◌, ◌*◌, ◌<◌, ◌≤◌, false, List, length, take, drop, arith, sym, ap, ⊎_elim, ◌⊎◌, ◌++◌}
use Rattle.std.specs.Prelude.{◌==◌}
use Rattle.std.proofs.lemmas.Bool.Decides.{nat_tests}
use Rattle.std.proofs.lemmas.List.{drop-take, drop-append-le, length-take-le}
use Rattle.std.proofs.Math.Seq.{drop-length}
use Rattle.std.proofs.lemmas.Slice.{take-put_mid, take-put_mid_below, drop-put_mid}
use borrow.Rule.Slice.PartMut.{put_mid}
use Rattle.bx_disk.specs.Disks.{sector_of}

pub put_here : (at k : ℕ) (xs ys : List ℕ) → 512 * (at + 1) ≤ length xs → length ys ≡ 512 → sector_of (put_mid (512 * at) k xs ys) at ≡ ys
unfolding sector_of
put_here at k xs ys range long =
    sym (drop-take (512 * at) 512 (put_mid (512 * at) k xs ys))
    ∙ ap (drop (512 * at)) (take-put_mid (512 * at) k xs ys (512 * at + 512) (omega arith) (omega arith))
    ∙ cut (512 * at) (take (512 * at) xs) (length-take-le (512 * at) xs (omega arith))
  where
    cut : (n : ℕ) (front : List ℕ) → length front ≡ n → drop n (front ++ ys) ≡ ys
    cut n front is = rw (← is) (drop-append-le (length front) front ys (omega arith) ∙ ap (λ (l : List ℕ). l ++ ys) (drop-length front))

pub put_elsewhere : (at k : ℕ) (xs ys : List ℕ) (i : ℕ) → 512 * (at + 1) ≤ length xs → length ys ≡ 512 → k ≡ 512 → (i == at) ≡ false
    → sector_of (put_mid (512 * at) k xs ys) i ≡ sector_of xs i
unfolding sector_of
put_elsewhere at k xs ys i range long size apart = ⊎_elim below above side
  where
    side : (i < at) ⊎ (at < i)
    side = grind (arith, nat_tests, apart)

    below : i < at → take 512 (drop (512 * i) (put_mid (512 * at) k xs ys)) ≡ take 512 (drop (512 * i) xs)
    below less =
        sym (drop-take (512 * i) 512 (put_mid (512 * at) k xs ys))
        ∙ ap (drop (512 * i)) (take-put_mid_below (512 * at) k xs ys (512 * i + 512) (omega arith) (omega arith))
        ∙ drop-take (512 * i) 512 xs

    above : at < i → take 512 (drop (512 * i) (put_mid (512 * at) k xs ys)) ≡ take 512 (drop (512 * i) xs)
    above less = ap (take 512) (drop-put_mid (512 * at) k xs ys (512 * i) (omega arith) (omega arith) (omega arith))
