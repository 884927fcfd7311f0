-- Answers that are taken.
use Rattle.std.proofs.Common.{◌≡◌, ◌⊎◌, inl, inr, ⊎_elim, ℕ, ◌+◌, ◌-◌, ◌<◌, ◌≤◌, List, Option, Some, None, IfSome, IsSome, set, length, refl, sym, ◌∙◌, ap, subst}
use Rattle.std.specs.Prelude.{IsNone}
use Rattle.bx_disk.specs.Disks.{Disks, sector_of}
use Rattle.bx_global.specs.declared.state.GlobalState.{GlobalState}
use Rattle.bx_facts.specs.Writes.{Asked, GoesOn, IsSettled, Sent}
use Rattle.bx_plain_store.specs.Out.{at}
use Rattle.bx_plain_store.proofs.Serving.{set_each}
use Rattle.bx_plain_store.specs.declared.inquiries.Inquiry.{Inquiry}
use Rattle.bx_plain_store.specs.Fits.{WillRead}
use Rattle.bx_plain_store.specs.Parts.{answer_at, answer_in, asked_at, asked_in}

-- what becomes of a read whose answer is taken, where there is one
pub record IsTaken (result : Option (List ℕ)) (old new : Option Inquiry) : Type 0 where
  pub answer : result ≡ answer_in old
  pub taken : IsSome result → new ≡ None
  pub not_yet : IsNone result → (asked_in new ≡ asked_in old) × (answer_in new ≡ None)

-- a read that is left is as it was
pub left_same : (result : Option (List ℕ)) (old new : Option Inquiry) → IsTaken result old new → (asked_in new ≡ None) ⊎ ((asked_in new ≡ asked_in old) × (answer_in new ≡ answer_in old))
left_same None old new is = let left = is.not_yet refl in inr (left.0, left.1 ∙ is.answer)
left_same (Some bytes) old new is = inl (ap asked_in (is.taken refl))

-- where each read is over or as it was
pub goes_left : (writes : List Sent) (greatest : ℕ) (inquiries inquiries_then : List (Option Inquiry)) (x : Disks) (s : GlobalState)
    → ((reader : ℕ) → (asked_at inquiries_then reader ≡ None) ⊎ ((asked_at inquiries_then reader ≡ asked_at inquiries reader) × (answer_at inquiries_then reader ≡ answer_at inquiries reader)))
    → GoesOn writes greatest (asked_at inquiries_then) (IsSettled x s) (IsSettled x s)
    (λ reader sector content. WillRead (asked_at inquiries reader) (answer_at inquiries reader) x s sector content) (λ reader sector content. WillRead (asked_at inquiries_then reader) (answer_at inquiries_then reader) x s sector content)
    (λ device sector content index. IsSettled x s device sector content) (λ device sector content index. IsSettled x s device sector content)
goes_left writes greatest inquiries inquiries_then x s each = record {
  settles = λ device sector content only is. is;
  standing = λ device sector content index only is. is;
  reading = λ reader sector content asks asked only reads. ⊎_elim
      (λ none. absurd (let h = sym none ∙ asked in cc))
      (λ same. subst (λ (o : Option Asked). WillRead o (answer_at inquiries_then reader) x s sector content) (sym same.0) (subst (λ (o : Option (List ℕ)). WillRead (asked_at inquiries reader) o x s sector content) (sym same.1) reads))
      (each reader);
}

pub each_left : (result : Option (List ℕ)) (inquiries : List (Option Inquiry)) (node : ℕ) (new : Option Inquiry) → node < length inquiries → IsTaken result (at inquiries node) new
    → (reader : ℕ) → (asked_at (set inquiries node new) reader ≡ None) ⊎ ((asked_at (set inquiries node new) reader ≡ asked_at inquiries reader) × (answer_at (set inquiries node new) reader ≡ answer_at inquiries reader))
each_left result inquiries node new less is =
    let P : ℕ → Option Inquiry → Type 0 = λ n slot. (asked_in slot ≡ None) ⊎ ((asked_in slot ≡ asked_at inquiries n) × (answer_in slot ≡ answer_at inquiries n)) in
    set_each P inquiries node new less (left_same result (at inquiries node) new is) (λ other apart. inr (refl, refl))

pub asked_left : (result : Option (List ℕ)) (inquiries : List (Option Inquiry)) (node : ℕ) (new : Option Inquiry) → node < length inquiries → IsTaken result (at inquiries node) new
    → (reader : ℕ) (asks : Asked) → asked_at (set inquiries node new) reader ≡ Some asks → asked_at inquiries reader ≡ Some asks
asked_left result inquiries node new less is reader asks asked = ⊎_elim (λ none. absurd (let h = sym none ∙ asked in cc)) (λ same. sym same.0 ∙ asked) (each_left result inquiries node new less is reader)

-- an answer is what was to be read
pub answer_is : (asks : Asked) (asked : Option Asked) (answer : Option (List ℕ)) (x : Disks) (s : GlobalState) (sector : ℕ) (content : List ℕ) → asked ≡ Some asks → WillRead asked answer x s sector content
    → asks.place ≤ sector → sector < asks.place + asks.count → IfSome answer (λ bytes. sector_of bytes (sector - asks.place) ≡ content)
answer_is asks asked None x s sector content is reads from below = tt
answer_is asks asked (Some bytes) x s sector content is reads from below = (subst (λ (o : Option Asked). WillRead o (Some bytes) x s sector content) is reads) from below

-- where each read that was out is as it was
pub goes_begun : (writes : List Sent) (greatest : ℕ) (inquiries inquiries_then : List (Option Inquiry)) (x : Disks) (s : GlobalState)
    → ((reader : ℕ) → (asked_at inquiries reader ≡ None) ⊎ ((asked_at inquiries_then reader ≡ asked_at inquiries reader) × (answer_at inquiries_then reader ≡ answer_at inquiries reader)))
    → GoesOn writes greatest (asked_at inquiries) (IsSettled x s) (IsSettled x s)
    (λ reader sector content. WillRead (asked_at inquiries reader) (answer_at inquiries reader) x s sector content) (λ reader sector content. WillRead (asked_at inquiries_then reader) (answer_at inquiries_then reader) x s sector content)
    (λ device sector content index. IsSettled x s device sector content) (λ device sector content index. IsSettled x s device sector content)
goes_begun writes greatest inquiries inquiries_then x s each = record {
  settles = λ device sector content only is. is;
  standing = λ device sector content index only is. is;
  reading = λ reader sector content asks asked only reads. ⊎_elim
      (λ none. absurd (let h = sym none ∙ asked in cc))
      (λ same. subst (λ (o : Option Asked). WillRead o (answer_at inquiries_then reader) x s sector content) (sym same.0) (subst (λ (o : Option (List ℕ)). WillRead (asked_at inquiries reader) o x s sector content) (sym same.1) reads))
      (each reader);
}

pub each_begun : (inquiries : List (Option Inquiry)) (node : ℕ) (new : Option Inquiry) → node < length inquiries → asked_at inquiries node ≡ None
    → (reader : ℕ) → (asked_at inquiries reader ≡ None) ⊎ ((asked_at (set inquiries node new) reader ≡ asked_at inquiries reader) × (answer_at (set inquiries node new) reader ≡ answer_at inquiries reader))
each_begun inquiries node new less none =
    let P : ℕ → Option Inquiry → Type 0 = λ n slot. (asked_at inquiries n ≡ None) ⊎ ((asked_in slot ≡ asked_at inquiries n) × (answer_in slot ≡ answer_at inquiries n)) in
    set_each P inquiries node new less (inl none) (λ other apart. inr (refl, refl))
