-- Which numbers are those of packets.
use Rattle.std.proofs.Common.{◌≡◌, ℕ, suc, ◌+◌, ◌-◌, ◌^◌, ◌<◌, ◌≤◌, List, [], ◌∷◌, length, true, false, ◌==◌, nat_lt, inl, inr, refl, arith, ap, sym, ◌∙◌, Some, None}
use Rattle.std.proofs.lemmas.Bool.{cases_lt}
use Rattle.std.proofs.lemmas.Bool.Decides.{nat_tests}
use Rattle.std.specs.Prelude.{if◌then◌else◌, Bool, is_some, slice_get, Option}
use Rattle.std.specs.Borrow.{Bor}
use Rattle.std.specs.Option.{option_copied}
use Rattle.bx_post.specs.Posts.{Posted, numbered, packet_from}
use Rattle.bx_driver.specs.Nexts.{number_above}

pub packet_at : (first number : ℕ) (all : List Posted) (one : Posted) → first ≤ number → slice_get all (number - first) ≡ Some one → packet_from first number all ≡ Some (numbered number one.letter)
packet_at first number [] one above there = cc
packet_at first number (here ∷ rest) one above there = elim (cases_lt first number) [
  | inl more ↦
      let apart : (first == number) ≡ false = grind (arith, nat_tests) in
      let step : number - first ≡ suc (number - (first + 1)) = omega arith in
      ap (λ b. if b then Some (numbered number here.letter) else packet_from (first + 1) number rest) apart
      ∙ packet_at (first + 1) number rest one (omega arith) (sym (ap (slice_get (here ∷ rest)) step) ∙ there)
  | inr less ↦
      let same : (first == number) ≡ true = grind (arith, nat_tests) in
      let at : number - first ≡ 0 = omega arith in
      let it : Some here ≡ Some one = sym (ap (slice_get (here ∷ rest)) at) ∙ there in
      let its : here ≡ one = cc in
      ap (λ b. if b then Some (numbered number here.letter) else packet_from (first + 1) number rest) same ∙ ap (λ o. Some (numbered number o.letter)) its
]

-- one below the first is none
pub none_below : (first number : ℕ) (all : List Posted) → number < first → packet_from first number all ≡ None
none_below first number [] under = refl
none_below first number (one ∷ rest) under =
    let apart : (first == number) ≡ false = grind (arith, nat_tests) in
    ap (λ b. if b then Some (numbered number one.letter) else packet_from (first + 1) number rest) apart ∙ none_below (first + 1) number rest (omega arith)

pub none_above : (first number : ℕ) (all : List Posted) → first + length all ≤ number → packet_from first number all ≡ None
none_above first number [] over = refl
none_above first number (one ∷ rest) over =
    let apart : (first == number) ≡ false = grind (arith, nat_tests) in
    ap (λ b. if b then Some (numbered number one.letter) else packet_from (first + 1) number rest) apart ∙ none_above (first + 1) number rest (omega arith)

-- the packet with a number is there exactly where so many are
pub is_packet : (first number : ℕ) (all : List Posted) → first ≤ number → is_some (packet_from first number all) ≡ nat_lt number (first + length all)
is_packet first number [] above = grind (arith, nat_tests)
is_packet first number (one ∷ rest) above = elim (cases_lt first number) [
  | inl more ↦
      let apart : (first == number) ≡ false = grind (arith, nat_tests) in
      let along : first + 1 + length rest ≡ first + suc (length rest) = omega arith in
      ap (λ b. is_some (if b then Some (numbered number one.letter) else packet_from (first + 1) number rest)) apart ∙ is_packet (first + 1) number rest (omega arith) ∙ ap (nat_lt number) along
  | inr less ↦
      let same : (first == number) ≡ true = grind (arith, nat_tests) in
      let under : nat_lt number (first + suc (length rest)) ≡ true = grind (arith, nat_tests) in
      ap (λ b. is_some (if b then Some (numbered number one.letter) else packet_from (first + 1) number rest)) same ∙ sym under
]

-- no packet has the number above all
pub none_has : (post : List Posted) → packet_from 1 (number_above post) post ≡ None
none_has post = by_test (nat_lt (length post) (2 ^ 64 - 1)) refl
  where
    by_test : (b : Bool) → nat_lt (length post) (2 ^ 64 - 1) ≡ b → packet_from 1 (number_above post) post ≡ None
    by_test true is = ap (λ b. packet_from 1 (if b then length post + 1 else 0) post) is ∙ none_above 1 (length post + 1) post (omega arith)
    by_test false is = ap (λ b. packet_from 1 (if b then length post + 1 else 0) post) is ∙ none_below 1 0 post (omega arith)

pub some_copied : {A : Type 0} (o : Option (Bor A)) → is_some (option_copied o) ≡ is_some o
some_copied (Some x) = refl
some_copied None = refl
