-- What a want, and a block that is given up, make of a clerk.
use Rattle.std.proofs.Common.{◌≡◌, ◌≢◌, ◌⊎◌, inl, inr, ℕ, ◌+◌, ◌≤◌, Bool, true, false, List, [], ◌∷◌, ◌++◌, Some, None, refl, ap, ◌∙◌, arith, append-nil}
use Rattle.std.specs.Prelude.{IsSomeAnd, ltb, if◌then◌else◌}
use Rattle.std.proofs.lemmas.Bool.Decides.{nat_tests}
use Rattle.bx_base.specs.declared.names.Mode.{Mode}
use Rattle.bx_facts.specs.Holds.{without_block}
use Rattle.bx_global.specs.Table.{greatest}
use Rattle.bx_post.specs.declared.packets.Letter.{Letter}
use Rattle.bx_lock_words.specs.declared.words.Word.{Word}
use Rattle.bx_lock_words.specs.declared.words.Word.TheVariants.{Wants}
use Rattle.bx_clerk.specs.declared.requests.Asking.{Asking}
use Rattle.bx_clerk.specs.Clerks.{Clerking, asked_back, asking, asking_words, giving_up, letters_of}
use Rattle.bx_clerk.specs.Requests.{hold_of, request_in, wish_of, with_request, without_request}
use Rattle.bx_clerk.proofs.Lookups.{out_beside, out_here, put_beside}
use Rattle.bx_clerk.proofs.Lookups as lookups
use Rattle.bx_locks.proofs.Asked.{asks_beside, asks_without}

abbrev request_at : Mode → ℕ → Asking
request_at mode number = record { mode = mode; number = number; held = None }

-- the block is wanted so, or no number was left and nothing was said
abbrev pub IsWanted : ℕ → Mode → Clerking → Clerking → List Letter → List Letter → Type 0
IsWanted block mode c new before after =
    ((wish_of (request_in new.requests block) ≡ Some mode) ⊎ IsSomeAnd (hold_of (request_in new.requests block)) (λ held. held.0 ≡ mode))
    ⊎ ((greatest ≤ c.drawn) × (wish_of (request_in new.requests block) ≡ None) × (hold_of (request_in new.requests block) ≡ None) × (after ≡ before))

pub wanted_so : (session block : ℕ) (mode : Mode) (c : Clerking) (before after : List Letter) → after ≡ before ++ letters_of c (asking_words (Some session) block mode c) → IsWanted block mode c (asking block mode c) before after
wanted_so session block mode c before after sends = by_test (ltb c.drawn greatest) refl sends
  where
    word : Word
    word = Wants (record { session = session; block = block; mode = mode; number = c.drawn + 1 })

    by_test : (t : Bool) → ltb c.drawn greatest ≡ t → after ≡ before ++ letters_of c (if t then word ∷ [] else [])
        → IsWanted block mode c (if t then record c { drawn = c.drawn + 1; requests = with_request c.requests block (request_at mode (c.drawn + 1)) } else record c { requests = without_request c.requests block }) before after
    by_test true is sends = inl (inl (ap wish_of (lookups.put_here c.requests block (request_at mode (c.drawn + 1)))))
    by_test false is sends = inr (
      grind (arith, nat_tests, is),
      ap wish_of (out_here c.requests block),
      ap hold_of (out_here c.requests block),
      sends ∙ append-nil before,
    )

-- requests for other blocks stay
pub asking_beside : (block other : ℕ) (mode : Mode) (c : Clerking) → other ≢ block → request_in (asking block mode c).requests other ≡ request_in c.requests other
asking_beside block other mode c apart = by_test (ltb c.drawn greatest)
  where
    by_test : (t : Bool) → request_in (if t then record c { drawn = c.drawn + 1; requests = with_request c.requests block (request_at mode (c.drawn + 1)) } else record c { requests = without_request c.requests block }).requests other ≡ request_in c.requests other
    by_test true = put_beside c.requests block other (request_at mode (c.drawn + 1)) apart
    by_test false = out_beside c.requests block other apart

-- no number is left then either
pub asking_spent : (block : ℕ) (mode : Mode) (c : Clerking) → greatest ≤ c.drawn → greatest ≤ (asking block mode c).drawn
asking_spent block mode c none = by_test (ltb c.drawn greatest)
  where
    by_test : (t : Bool) → greatest ≤ (if t then record c { drawn = c.drawn + 1; requests = with_request c.requests block (request_at mode (c.drawn + 1)) } else record c { requests = without_request c.requests block }).drawn
    by_test true = omega (arith, none)
    by_test false = none

asking_asks : (block : ℕ) (mode : Mode) (c : Clerking) → (asking block mode c).asks ≡ c.asks
asking_asks block mode c = by_test (ltb c.drawn greatest)
  where
    by_test : (t : Bool) → (if t then record c { drawn = c.drawn + 1; requests = with_request c.requests block (request_at mode (c.drawn + 1)) } else record c { requests = without_request c.requests block }).asks ≡ c.asks
    by_test true = refl
    by_test false = refl

-- what is asked back, but of this block, stays
pub asking_asked : (block : ℕ) (mode : Mode) (c : Clerking) → without_block block (asked_back (asking block mode c)) ≡ without_block block (asked_back c)
asking_asked block mode c =
    asks_beside (asking block mode c).asks c.requests (asking block mode c).requests block (λ other apart. asking_beside block other mode c apart)
    ∙ ap (λ (asks : List (ℕ × ℕ)). without_block block (asked_back (record c { asks = asks }))) (asking_asks block mode c)

-- ---- given up

pub giving_here : (block index : ℕ) (c : Clerking) → request_in (giving_up block index c).requests block ≡ None
giving_here block index c = out_here c.requests block

pub giving_beside : (block index other : ℕ) (c : Clerking) → other ≢ block → request_in (giving_up block index c).requests other ≡ request_in c.requests other
giving_beside block index other c apart = out_beside c.requests block other apart

pub giving_asked : (block index : ℕ) (c : Clerking) → asked_back (giving_up block index c) ≡ without_block block (asked_back c)
giving_asked block index c = asks_without c.asks c.requests block
