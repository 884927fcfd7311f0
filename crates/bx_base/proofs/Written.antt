-- What is written one behind the other.
use Rattle.std.proofs.Common.{◌≡◌, ℕ, ◌+◌, ◌-◌, List, ◌++◌, length, take, drop, sym, ap, ◌∙◌, append_assoc, arith}
use Rattle.std.proofs.lemmas.List.{length-append, length-drop, get_or-drop, take-append-drop, ext_get_or}
use Rattle.std.specs.Prelude.{replicate}
use Rattle.bx_base.specs.Writing.{Writes, padded}

pub writes_then : (a b c : List ℕ) (at m n : ℕ) (x y : List ℕ) → Writes a b at m x → Writes b c m n y → Writes a c at n (x ++ y)
writes_then a b c at m n x y p q = record {
  len = q.len ∙ p.len;
  place = omega (arith, p.place, q.place, length-append x y);
  front = q.front ∙ ap (λ (t : List ℕ). t ++ y) p.front ∙ append_assoc (take at a) x y;
  behind = λ i le. q.behind i le ∙ p.behind i (omega (arith, q.place));
}

-- what is written is what was before, the bytes, and what was behind
pub written_is : (old new bytes : List ℕ) (at end : ℕ) → Writes old new at end bytes → new ≡ take at old ++ (bytes ++ drop end old)
written_is old new bytes at end w =
    let len : length (drop end new) ≡ length (drop end old) = omega (arith, length-drop end new, length-drop end old, w.len) in
    let behind : drop end new ≡ drop end old = ext_get_or 0 (drop end new) (drop end old) len (λ i lt. get_or-drop end new i 0 ∙ w.behind (end + i) (omega arith) ∙ sym (get_or-drop end old i 0)) in
    sym (take-append-drop end new)
    ∙ ap (λ (t : List ℕ). t ++ drop end new) w.front
    ∙ ap (λ (t : List ℕ). (take at old ++ bytes) ++ t) behind
    ∙ append_assoc (take at old) bytes (drop end old)

-- All of the text was written from the front on, and then zeros.
pub padded_written : (old new last text : List ℕ) (end : ℕ) → Writes old new 0 end text → last ≡ take end new ++ replicate (length new - end) 0 → last ≡ padded (length old) text
padded_written old new last text end w is =
    let at : end ≡ length text = omega (arith, w.place) in
    is ∙ ap (λ (t : List ℕ). t ++ replicate (length new - end) 0) w.front ∙ ap (λ (n : ℕ). text ++ replicate n 0) (omega (arith, w.len))
