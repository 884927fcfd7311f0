-- Words spell one command line.
use Rattle.std.proofs.Common.{◌≡◌, ℕ, List, [], ◌∷◌, length, refl, sym, ap, ◌∙◌, arith, codes}
use Rattle.std.specs.Prelude.{decimal}
use Rattle.std.proofs.lemmas.Fmt.{decimal_injective}
use Rattle.bx_command_line.specs.declared.command_line.CommandLine.{CommandLine}
use Rattle.bx_command_line.specs.declared.command_line.CommandLine.TheVariants.{Replay, Format, Check, Make}
use Rattle.bx_command_line.specs.CommandLines.{AreInRange, ArePlanned, Spell, words_of}

-- the first byte of the first word
abbrev first_byte : List (List ℕ) → ℕ
first_byte ((c ∷ cs) ∷ words) = c
first_byte words = 0

other_length : {A : Type 0} (a b : List (List ℕ)) → a ≡ b → length a ≡ 1 → length b ≡ 4 → A
other_length a b same one four = let e = ap (λ (l : List (List ℕ)). length l) same in absurd (omega (arith, e, one, four))

same_numbers : (v d a w e b : ℕ) → AreInRange v d a → AreInRange w e b
    → codes "format" ∷ decimal v ∷ decimal d ∷ decimal a ∷ [] ≡ codes "format" ∷ decimal w ∷ decimal e ∷ decimal b ∷ [] → Format v d a ≡ Format w e b
same_numbers v d a w e b one other same =
    let volumes : decimal v ≡ decimal w = cc in
    let devices : decimal d ≡ decimal e = cc in
    let areas : decimal a ≡ decimal b = cc in
    let same_volume = decimal_injective v w one.most_volume other.most_volume volumes in
    let same_devices = decimal_injective d e (let m = one.most_devices in omega (arith, m)) (let m = other.most_devices in omega (arith, m)) devices in
    let same_areas = decimal_injective a b (let m = one.most_areas in omega (arith, m)) (let m = other.most_areas in omega (arith, m)) areas in
    cc

same_plans : (s n c t o d : ℕ) → ArePlanned s n c → ArePlanned t o d
    → codes "make" ∷ decimal s ∷ decimal n ∷ decimal c ∷ [] ≡ codes "make" ∷ decimal t ∷ decimal o ∷ decimal d ∷ [] → Make s n c ≡ Make t o d
same_plans s n c t o d one other same =
    let seeds : decimal s ≡ decimal t = cc in
    let nodes : decimal n ≡ decimal o = cc in
    let calls : decimal c ≡ decimal d = cc in
    let same_seed = decimal_injective s t one.most_seed other.most_seed seeds in
    let same_nodes = decimal_injective n o (let m = one.most_nodes in omega (arith, m)) (let m = other.most_nodes in omega (arith, m)) nodes in
    let same_calls = decimal_injective c d (let m = one.most_calls in omega (arith, m)) (let m = other.most_calls in omega (arith, m)) calls in
    cc

pub one_line : (words : List (List ℕ)) (a b : CommandLine) → Spell words a → Spell words b → a ≡ b
one_line words Replay Replay one other = refl
one_line words Replay (Format v d a) one other = other_length (words_of Replay) (words_of (Format v d a)) (sym one.are ∙ other.are) refl refl
one_line words Replay Check one other = let e : 114 ≡ 99 = ap first_byte (sym one.are ∙ other.are) in absurd (omega (arith, e))
one_line words (Format v d a) Replay one other = other_length (words_of Replay) (words_of (Format v d a)) (sym other.are ∙ one.are) refl refl
one_line words (Format v d a) (Format w e b) one other = same_numbers v d a w e b one.in_range other.in_range (sym one.are ∙ other.are)
one_line words (Format v d a) Check one other = other_length (words_of Check) (words_of (Format v d a)) (sym other.are ∙ one.are) refl refl
one_line words Check Replay one other = let e : 99 ≡ 114 = ap first_byte (sym one.are ∙ other.are) in absurd (omega (arith, e))
one_line words Check (Format v d a) one other = other_length (words_of Check) (words_of (Format v d a)) (sym one.are ∙ other.are) refl refl
one_line words Check Check one other = refl
one_line words Replay (Make s n c) one other = let e : 114 ≡ 109 = ap first_byte (sym one.are ∙ other.are) in absurd (omega (arith, e))
one_line words (Format v d a) (Make s n c) one other = let e : 102 ≡ 109 = ap first_byte (sym one.are ∙ other.are) in absurd (omega (arith, e))
one_line words Check (Make s n c) one other = let e : 99 ≡ 109 = ap first_byte (sym one.are ∙ other.are) in absurd (omega (arith, e))
one_line words (Make s n c) Replay one other = let e : 109 ≡ 114 = ap first_byte (sym one.are ∙ other.are) in absurd (omega (arith, e))
one_line words (Make s n c) (Format v d a) one other = let e : 109 ≡ 102 = ap first_byte (sym one.are ∙ other.are) in absurd (omega (arith, e))
one_line words (Make s n c) Check one other = let e : 109 ≡ 99 = ap first_byte (sym one.are ∙ other.are) in absurd (omega (arith, e))
one_line words (Make s n c) (Make t o d) one other = same_plans s n c t o d one.in_range other.in_range (sym one.are ∙ other.are)
