-- Which blocks are asked back, where a request for one of them is changed.
use Rattle.std.proofs.Common.{◌≡◌, ◌≢◌, ℕ, Bool, true, false, List, [], ◌∷◌, Option, refl, sym, ap, ◌∙◌, arith, inl, inr}
use Rattle.std.specs.Prelude.{not, ◌==◌, if◌then◌else◌}
use Rattle.std.proofs.lemmas.Bool.{cases_eq}
use Rattle.std.proofs.lemmas.Bool.Decides.{nat_tests}
use Rattle.bx_facts.specs.Holds.{without_block}
use Rattle.bx_clerk.specs.declared.requests.Asking.{Asking}
use Rattle.bx_clerk.specs.Requests.{Requests, held_asks, is_held, request_in, without_request}
use Rattle.bx_clerk.proofs.Lookups.{out_beside}

is_block : (n m : ℕ) → n ≡ m → (n == m) ≡ true
is_block n m same = grind (arith, nat_tests, same)

is_apart : (n m : ℕ) → n ≢ m → (n == m) ≡ false
is_apart n m other = by_test (n == m) refl
  where
    by_test : (t : Bool) → (n == m) ≡ t → (n == m) ≡ false
    by_test true is = absurd (other (grind (arith, nat_tests, is)))
    by_test false is = is

-- one of the block, kept or not, goes
goes : (block : ℕ) (ask : ℕ × ℕ) (asks : List (ℕ × ℕ)) (t : Bool) → ask.0 ≡ block → without_block block (if t then ask ∷ asks else asks) ≡ without_block block asks
goes block ask asks true here = ap (λ (u : Bool). if not u then ask ∷ without_block block asks else without_block block asks) (is_block ask.0 block here)
goes block ask asks false here = refl

-- one of another block stays, where it was kept
stays : (block : ℕ) (ask : ℕ × ℕ) (asks : List (ℕ × ℕ)) (t : Bool) → ask.0 ≢ block → without_block block (if t then ask ∷ asks else asks) ≡ (if t then ask ∷ without_block block asks else without_block block asks)
stays block ask asks true apart = ap (λ (u : Bool). if not u then ask ∷ without_block block asks else without_block block asks) (is_apart ask.0 block apart)
stays block ask asks false apart = refl

-- What is asked back of other blocks is as it was.
pub asks_beside : (asks : List (ℕ × ℕ)) (requests new : Requests) (block : ℕ) → ((other : ℕ) → other ≢ block → request_in new other ≡ request_in requests other) → without_block block (held_asks new asks) ≡ without_block block (held_asks requests asks)
asks_beside [] requests new block same = refl
asks_beside (ask ∷ asks) requests new block same = by_block (asks_beside asks requests new block same)
  where
    kept : Requests → Bool
    kept requests = is_held (request_in requests ask.0)

    by_block : without_block block (held_asks new asks) ≡ without_block block (held_asks requests asks) → without_block block (if kept new then ask ∷ held_asks new asks else held_asks new asks) ≡ without_block block (if kept requests then ask ∷ held_asks requests asks else held_asks requests asks)
    by_block rest = elim (cases_eq ask.0 block) [
      | inl here ↦ goes block ask (held_asks new asks) (kept new) here ∙ rest ∙ sym (goes block ask (held_asks requests asks) (kept requests) here)
      | inr apart ↦ stays block ask (held_asks new asks) (kept new) apart
          ∙ ap (λ (more : List (ℕ × ℕ)). if kept new then ask ∷ more else more) rest
          ∙ ap (λ (o : Option Asking). if is_held o then ask ∷ without_block block (held_asks requests asks) else without_block block (held_asks requests asks)) (same ask.0 apart)
          ∙ sym (stays block ask (held_asks requests asks) (kept requests) apart)
    ]

-- Where a block is given up, what is asked back is all that was, of other blocks.
pub asks_without : (asks : List (ℕ × ℕ)) (requests : Requests) (block : ℕ) → held_asks (without_request requests block) (without_block block asks) ≡ without_block block (held_asks requests asks)
asks_without [] requests block = refl
asks_without (ask ∷ asks) requests block = by_block (asks_without asks requests block)
  where
    kept : Requests → Bool
    kept requests = is_held (request_in requests ask.0)

    by_block : held_asks (without_request requests block) (without_block block asks) ≡ without_block block (held_asks requests asks)
        → held_asks (without_request requests block) (if not (ask.0 == block) then ask ∷ without_block block asks else without_block block asks) ≡ without_block block (if kept requests then ask ∷ held_asks requests asks else held_asks requests asks)
    by_block rest = elim (cases_eq ask.0 block) [
      | inl here ↦ ap (λ (u : Bool). held_asks (without_request requests block) (if not u then ask ∷ without_block block asks else without_block block asks)) (is_block ask.0 block here)
          ∙ rest ∙ sym (goes block ask (held_asks requests asks) (kept requests) here)
      | inr apart ↦ ap (λ (u : Bool). held_asks (without_request requests block) (if not u then ask ∷ without_block block asks else without_block block asks)) (is_apart ask.0 block apart)
          ∙ ap (λ (o : Option Asking). if is_held o then ask ∷ held_asks (without_request requests block) (without_block block asks) else held_asks (without_request requests block) (without_block block asks)) (out_beside requests block ask.0 apart)
          ∙ ap (λ (more : List (ℕ × ℕ)). if kept requests then ask ∷ more else more) rest
          ∙ sym (stays block ask (held_asks requests asks) (kept requests) apart)
    ]
