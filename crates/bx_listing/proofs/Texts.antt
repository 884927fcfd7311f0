-- How times are written in the listing.
use Rattle.std.proofs.Common.{◌≡◌, ℕ, ◌-◌, false, List, [], ◌++◌, ◌∷◌, length, replicate, sym, ap, ◌∙◌, append_assoc, arith}
use Rattle.std.specs.Fmt.{decimal, styled_decimal, padded_integral, format_spec, char_count, number_padding}
use Rattle.std.proofs.lemmas.List.{append-nil}
use Rattle.bx_model.specs.Listing.{six_digits, time_text}

-- what `{:06}` writes
six_digits-written : (n : ℕ) → styled_decimal (format_spec 32 0 4 6 18446744073709551615) n ≡ six_digits n
unfolding padded_integral char_count
six_digits-written n =
    let zeros : number_padding (format_spec 32 0 4 6 18446744073709551615) false [] (length (decimal n)) ≡ 6 - length (decimal n) = omega arith in
    simp append-nil (ap (λ (count : ℕ). replicate count 48 ++ decimal n) zeros)

-- what `{}.{:06}` writes
pub time_text-written : (time : ℕ × ℕ) → decimal time.0 ++ 46 ∷ styled_decimal (format_spec 32 0 4 6 18446744073709551615) time.1 ≡ time_text time
time_text-written time = ap (λ (micros : List ℕ). decimal time.0 ++ 46 ∷ micros) (six_digits-written time.1) ∙ sym (append_assoc (decimal time.0) (46 ∷ []) (six_digits time.1))
