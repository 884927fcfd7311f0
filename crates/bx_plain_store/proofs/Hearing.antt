-- What a machine's event leaves.
use Rattle.std.proofs.Common.{◌≡◌, ◌≢◌, ◌⊎◌, inl, inr, ⊎_elim, ℕ, ◌≤◌, Bool, true, false, List, Option, Some, None, eqb, refl, sym, ◌∙◌, ap, subst, arith}
use Rattle.std.specs.Prelude.{◌==◌, ◌&&◌}
use Rattle.std.specs.Option.{option_eq}
use Rattle.std.proofs.lemmas.Bool.Decides.{nat_tests}
use Rattle.bx_base.specs.declared.names.Actor.{Actor}
use Rattle.bx_disk.specs.Disks.{Disks, Image, IsImage}
use Rattle.bx_calls.specs.Calls.{LeavesOnly}
use Rattle.bx_calls.specs.Laws.{leaves_implies}
use Rattle.bx_global.specs.declared.state.GlobalState.{GlobalState}
use Rattle.bx_members.specs.Members.{HasMembers, KeepsMembers}
use Rattle.bx_post.specs.declared.packets.Letter.{Letter}
use Rattle.bx_facts.specs.declared.input.Input.{Input}
use Rattle.bx_facts.specs.declared.input.Input.TheVariants.{Packet, Tick, Synced}
use Rattle.bx_facts.specs.Chains.{IsPlace, any_session_of, last}
use Rattle.bx_facts.specs.Inputs.{greatest_with}
use Rattle.bx_facts.specs.Writes.{Asked, GoesOn, HasLabels, HasSettled, IsDone, IsOnly, IsSettled, Made, Sent, StorePast, member_disk, store_heard, store_with}
use Rattle.bx_plain_store.specs.declared.writes.Write.{Write}
use Rattle.bx_plain_store.specs.Out.{at, out_at, out_in, outs}
use Rattle.bx_plain_store.specs.declared.inquiries.Inquiry.{Inquiry}
use Rattle.bx_plain_store.specs.Events.{Reads, Went, fits_went, goes_on, image_settled, labels_members, settles_members}
use Rattle.bx_plain_store.specs.Fits.{Fits, Keeps, WillRead}
use Rattle.bx_plain_store.specs.Parts.{IsAnswered, answer_at, asked_at, asked_in}
use Rattle.bx_plain_store.specs.Steps.{Meets}
use Rattle.bx_plain_store.proofs.Answering.{answered_same}
use Rattle.bx_plain_store.proofs.Places.{option_apart, option_same}

pub rises_with : (g : ℕ) (input : Input) → g ≤ greatest_with g input
rises_with g (Packet packet reading) = omega arith
rises_with g (Tick reading) = omega arith
rises_with g Synced = omega arith

-- moments in which nothing is done
pub leaves_still : (now : ℕ) (since : ℕ → Image → Type 0) (P : Image → Type 0) → ((image : Image) → since now image → P image) → LeavesOnly now now since since P
leaves_still now since P each = record {
  later = omega arith;
  each = each;
  nothing_else = λ t image less is. inl is;
  keeps = λ t image less is. is;
}

-- an image of the disks as they are has what is settled
pub image_of : (writes : List Sent) (greatest : ℕ) (s : GlobalState) (x : Disks) (image : Image) → IsImage x image → HasSettled writes greatest (IsSettled x s) x s image
image_of writes greatest s x image is = record {
  has = λ device sector content second only settled source. is.sure (member_disk device second) sector (settled.sure second source) ∙ settled.reads second source;
  labels = λ device second source sure. is.sure (member_disk device second) 0 sure;
  replicas = λ d sector less sure. is.sure d sector sure;
}

-- what an event leaves of a store that fitted
module _ (made : Made) (g : ℕ) (owns : List (Option ℕ)) (slots : List (Option Write)) (inquiries : List (Option Inquiry)) (x : Disks) (past : StorePast) (letters : List Letter) (known : GlobalState) (later : ℕ)
    (keeps : Keeps made g owns slots x (store_with past letters)) (place : IsPlace past.told.chain known) (rises : g ≤ later) where
  fits : Fits made g owns slots x past.told.chain past.writes
  fits = keeps.fits

  same_devices : known.devices ≡ (last past.told.chain).devices
  same_devices = fits.places known place

  pub keeps_heard : (owns_then : List (Option ℕ)) (slots_then : List (Option Write)) (y : Disks) (letters_then : List Letter) (at : Actor) (input : Input)
      → later ≡ greatest_with g input → Went known owns owns_then slots slots_then → HasLabels made y (last past.told.chain)
      → Keeps made later owns_then slots_then y (store_with (store_heard past at known.index input None) letters_then)
  keeps_heard owns_then slots_then y letters_then at input greatest went labels = record {
    handed = keeps.handed;
    greatest_is = ap (λ n. greatest_with n input) keeps.greatest_is ∙ sym greatest;
    fits = fits_went made g later owns owns_then slots slots_then x y past.told.chain past.writes known fits rises place went labels;
  }

  pub apart_later : (went : Went known owns owns slots slots) → Fits made later owns slots x past.told.chain past.writes
  apart_later went = fits_went made g later owns owns slots slots x x past.told.chain past.writes known fits rises place went fits.labels

  pub goes_heard : (inquiries_then : List (Option Inquiry)) → ((node : ℕ) → Reads x known (at inquiries node) (at inquiries_then node))
      → GoesOn past.writes past.told.greatest (asked_at inquiries) (IsSettled x (last past.told.chain)) (IsSettled x (last past.told.chain))
      (λ reader sector content. WillRead (asked_at inquiries reader) (answer_at inquiries reader) x (last past.told.chain) sector content) (λ reader sector content. WillRead (asked_at inquiries_then reader) (answer_at inquiries_then reader) x (last past.told.chain) sector content)
      (λ device sector content index. IsSettled x (last past.told.chain) device sector content) (λ device sector content index. IsSettled x (last past.told.chain) device sector content)
  goes_heard inquiries_then each = goes_on past.writes past.told.greatest inquiries inquiries_then x x known (last past.told.chain) same_devices (λ device sector content only is. is) each

  -- images of the disks as they are have what is settled
  pub leaves_none : (now : ℕ) (since : ℕ → Image → Type 0) → ((image : Image) → since now image → IsImage x image)
      → LeavesOnly now now since since (HasSettled past.writes past.told.greatest (IsSettled x (last past.told.chain)) x (last past.told.chain))
  leaves_none now since each = leaves_still now since _ (λ image left. image_of past.writes past.told.greatest (last past.told.chain) x image (each image left))

  -- and what a sync leaves, which keeps members
  module _ (y : Disks) (members : KeepsMembers (outs slots) later x y) where
    pub labels_synced : y.sizes ≡ x.sizes → HasLabels made y (last past.told.chain)
    labels_synced sizes = labels_members made g later owns slots x y past.told.chain past.writes fits sizes members

    pub goes_synced : (inquiries_then : List (Option Inquiry)) → ((node : ℕ) → IsAnswered x known (at inquiries node) (at inquiries_then node))
        → GoesOn past.writes past.told.greatest (asked_at inquiries) (IsSettled x (last past.told.chain)) (IsSettled y (last past.told.chain))
        (λ reader sector content. WillRead (asked_at inquiries reader) (answer_at inquiries reader) x (last past.told.chain) sector content) (λ reader sector content. WillRead (asked_at inquiries_then reader) (answer_at inquiries_then reader) y (last past.told.chain) sector content)
        (λ device sector content index. IsSettled x (last past.told.chain) device sector content) (λ device sector content index. IsSettled y (last past.told.chain) device sector content)
    goes_synced inquiries_then each = goes_on past.writes past.told.greatest inquiries inquiries_then x y known (last past.told.chain) same_devices
        (λ device sector content only is. settles_members made g later owns slots x y past.told.chain past.writes fits rises members device sector content (subst (λ (n : ℕ). IsOnly past.writes n device sector content) keeps.greatest_is only) is)
        (λ node. record { case = inr (each node) })

  pub leaves_synced : (before now : ℕ) (past_since since : ℕ → Image → Type 0) → LeavesOnly before now past_since since (HasMembers (outs slots) later x)
      → LeavesOnly before now past_since since (HasSettled past.writes past.told.greatest (IsSettled x (last past.told.chain)) x (last past.told.chain))
  leaves_synced before now past_since since leaves = leaves_implies before now past_since since (HasMembers (outs slots) later x) _ leaves
      (λ image has. subst (λ (n : ℕ). HasSettled past.writes n (IsSettled x (last past.told.chain)) x (last past.told.chain) image) (sym keeps.greatest_is) (image_settled made g later owns slots x past.told.chain past.writes image fits rises has))

pub done_at : (y : Disks) (s : GlobalState) (w : Sent) (index : ℕ) → IsDone (λ device sector content index. IsSettled y s device sector content) 0 w → IsDone (λ device sector content index. IsSettled y s device sector content) index w
done_at y s w index done = record { each = done.each }

-- ---- a node meets its session

module _ (s : GlobalState) (node : ℕ) (owns owns_then : List (Option ℕ)) (slots slots_then : List (Option Write)) (inquiries inquiries_then : List (Option Inquiry))
    (met : Meets s node owns owns_then slots slots_then inquiries inquiries_then) where
  -- its parts are as they were, or it has another session, and nothing is out
  pub record Part (n : ℕ) : Type 0 where
    pub case : ((at owns_then n ≡ at owns n) × (at slots_then n ≡ at slots n) × (at inquiries_then n ≡ at inquiries n))
        ⊎ ((at owns n ≢ any_session_of s n) × (at owns_then n ≡ any_session_of s n) × (at slots_then n ≡ None) × (at inquiries_then n ≡ None))

  pub part : (n : ℕ) → Part n
  part n = by_node (n == node) refl
    where
      here : (b : Bool) → option_eq eqb (at owns node) (any_session_of s node) ≡ b → Part node
      here true is = let same = option_same (at owns node) (any_session_of s node) is in record { case = inl (met.own ∙ sym same, (met.same same).0, (met.same same).1) }
      here false is =
          let apart = option_apart (at owns node) (any_session_of s node) is in
          record { case = inr (apart, met.own, (met.another apart).0, (met.another apart).1) }

      by_node : (b : Bool) → (n == node) ≡ b → Part n
      by_node true is = let e : n ≡ node = grind (arith, nat_tests, is) in subst Part (sym e) (here (option_eq eqb (at owns node) (any_session_of s node)) refl)
      by_node false not_is = let apart : n ≢ node = grind (arith, nat_tests, not_is) in record { case = inl (met.others n apart) }

  pub went_met : Went s owns owns_then slots slots_then
  went_met = record {
    out = λ n. ⊎_elim (λ same. inr (ap out_in same.1, same.0)) (λ new. inl (ap out_in new.2)) (part n).case;
    own = λ n session is. ⊎_elim (λ same. inl (sym same.0 ∙ is)) (λ new. inr (sym new.1 ∙ is)) (part n).case;
  }

  pub reads_met : (x : Disks) (n : ℕ) → Reads x s (at inquiries n) (at inquiries_then n)
  reads_met x n = ⊎_elim
      (λ same. record { case = inr (subst (λ (slot : Option Inquiry). IsAnswered x s (at inquiries n) slot) (sym same.2) (answered_same x s (at inquiries n))) })
      (λ new. record { case = inl (ap asked_in new.3) })
      (part n).case

  pub not_done : (n : ℕ) (w : Sent) → ((m : ℕ) (v : Sent) → out_at slots m ≡ Some v → at owns m ≡ Some v.session) → out_at slots n ≡ Some w → out_at slots_then n ≡ None → at owns_then n ≡ Some w.session → ⊥
  not_done n w mine out none own = ⊎_elim
      (λ same. let h = sym none ∙ ap out_in same.1 ∙ out in absurd cc)
      (λ new. new.0 (mine n w out ∙ sym own ∙ new.1))
      (part n).case

  pub out_met : (n : ℕ) → (out_at slots_then n ≡ None) ⊎ (out_at slots_then n ≡ out_at slots n)
  out_met n = ⊎_elim (λ same. inr (ap out_in same.1)) (λ new. inl (ap out_in new.2)) (part n).case

  pub asked_new : (n : ℕ) → at owns_then n ≢ at owns n → asked_at inquiries_then n ≡ None
  asked_new n changed = ⊎_elim (λ same. absurd (changed same.0)) (λ new. ap asked_in new.3) (part n).case

  pub asked_met : (n : ℕ) → (at owns_then n ≢ at owns n) ⊎ (asked_at inquiries_then n ≡ asked_at inquiries n)
  asked_met n = ⊎_elim (λ same. inr (ap asked_in same.2)) (λ new. inl (λ stays. new.0 (sym stays ∙ new.1))) (part n).case

  -- nothing that wasn't out is out
  pub still_out : (n : ℕ) (w : Sent) → out_at slots_then n ≡ Some w → out_at slots n ≡ Some w
  still_out n w out = ⊎_elim (λ none. absurd (let h = sym none ∙ out in cc)) (λ same. sym same ∙ out) (out_met n)

  pub still_asked : (n : ℕ) (asks : Asked) → asked_at inquiries_then n ≡ Some asks → asked_at inquiries n ≡ Some asks
  still_asked n asks asked = ⊎_elim (λ changed. absurd (let h = sym (asked_new n changed) ∙ asked in cc)) (λ same. sym same ∙ asked) (asked_met n)

pub and_right : (a b : Bool) → (a && b) ≡ true → b ≡ true
and_right true b is = is
and_right false b is = absurd cc
