-- How the promises of a store go on over several steps.
use Rattle.std.proofs.Common.{◌≡◌, ◌⊎◌, inl, inr, ⊎_elim, ℕ, ◌≤◌, List, Option, Some, None, sym, ◌∙◌, arith}
use Rattle.bx_facts.specs.declared.input.Input.{Input}
use Rattle.bx_facts.specs.declared.input.Input.TheVariants.{Packet, Tick, Synced}
use Rattle.bx_facts.specs.Inputs.{greatest_with}
use Rattle.bx_facts.specs.Writes.{Asked, GoesOn, IsOnly, Sent}

pub both : {writes : List Sent} {greatest : ℕ} {asked : ℕ → Option Asked} {settled settled_on settled_then reads reads_on reads_then : ℕ → ℕ → List ℕ → Type 0} {stands stands_on stands_then : ℕ → ℕ → List ℕ → ℕ → Type 0}
    → GoesOn writes greatest asked settled settled_on reads reads_on stands stands_on → GoesOn writes greatest asked settled_on settled_then reads_on reads_then stands_on stands_then
    → GoesOn writes greatest asked settled settled_then reads reads_then stands stands_then
both one other = record {
  settles = λ device sector content only is. other.settles device sector content only (one.settles device sector content only is);
  standing = λ device sector content index only is. other.standing device sector content index only (one.standing device sector content index only is);
  reading = λ reader sector content asks asked only is. other.reading reader sector content asks asked only (one.reading reader sector content asks asked only is);
}

-- a reading that comes lets no write be taken again
pub only_later : (writes : List Sent) (greatest later device sector : ℕ) (content : List ℕ) → greatest ≤ later → IsOnly writes greatest device sector content → IsOnly writes later device sector content
only_later writes greatest later device sector content more only = record {
  each = λ write other there writes_it. ⊎_elim (λ is. inl is) (λ over. inr (omega (arith, over, more))) (only.each write other there writes_it);
}

pub since : {writes : List Sent} {greatest later : ℕ} {asked : ℕ → Option Asked} {settled settled_then reads reads_then : ℕ → ℕ → List ℕ → Type 0} {stands stands_then : ℕ → ℕ → List ℕ → ℕ → Type 0}
    → greatest ≤ later → GoesOn writes later asked settled settled_then reads reads_then stands stands_then → GoesOn writes greatest asked settled settled_then reads reads_then stands stands_then
since more goes = record {
  settles = λ device sector content only is. goes.settles device sector content (only_later _ _ _ device sector content more only) is;
  standing = λ device sector content index only is. goes.standing device sector content index (only_later _ _ _ device sector content more only) is;
  reading = λ reader sector content asks asked only is. goes.reading reader sector content asks asked (only_later _ _ _ asks.device sector content more only) is;
}

-- of the reads that are out still
pub still_out : {writes : List Sent} {greatest : ℕ} {asked fewer : ℕ → Option Asked} {settled settled_then reads reads_then : ℕ → ℕ → List ℕ → Type 0} {stands stands_then : ℕ → ℕ → List ℕ → ℕ → Type 0}
    → ((reader : ℕ) → (fewer reader ≡ None) ⊎ (fewer reader ≡ asked reader))
    → GoesOn writes greatest asked settled settled_then reads reads_then stands stands_then → GoesOn writes greatest fewer settled settled_then reads reads_then stands stands_then
still_out few goes = record {
  settles = goes.settles;
  standing = goes.standing;
  reading = λ reader sector content asks out only is. goes.reading reader sector content asks (⊎_elim (λ none. absurd (some_none asks (sym none ∙ out))) (λ same. sym same ∙ out) (few reader)) only is;
}
  where
    some_none : (asks : Asked) → None ≡ Some asks → ⊥
    some_none asks e = absurd cc

pub later_reading : (greatest : ℕ) (input : Input) → greatest ≤ greatest_with greatest input
later_reading greatest (Packet packet reading) = omega arith
later_reading greatest (Tick reading) = omega arith
later_reading greatest Synced = omega arith
