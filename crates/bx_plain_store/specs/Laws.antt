-- Why what is settled stays so.
use Rattle.std.proofs.Common.{◌≡◌, ℕ, ◌<◌, Bool, true, false, List, [], Contains, length, Option, Some, None, refl, sym, ◌∙◌, ap, subst, arith, slice_get}
use Rattle.std.specs.Prelude.{◌==◌, ◌≤◌, slice_index}
use Rattle.std.proofs.lemmas.Bool.Decides.{nat_tests}
use Rattle.bx_disk.specs.Disks.{Disks, blanked}
use Rattle.bx_global.specs.declared.change.Change.{Change}
use Rattle.bx_global.specs.declared.change.Change.TheVariants.{Renew, Take, Open, Expire, Claim, Close, Shift}
use Rattle.bx_global.specs.declared.state.GlobalState.{GlobalState}
use Rattle.bx_global.specs.Table.{effect}
use Rattle.bx_rows.specs.Modes.{IsSource}
use Rattle.bx_rows.specs.declared.device.DeviceRow.{DeviceRow}
use Rattle.bx_facts.specs.Chains.{IsStoresOwn, last}
use Rattle.bx_facts.specs.Disks.{Crashes, SameMemberLengths, SameMembers}
use Rattle.bx_facts.specs.Writes.{Asked, GoesOn, HasLabels, IsOnly, IsOnlyOther, IsSettled, IsSourceIn, Made, Sent, StorePast, label_on, member_disk, only_other, store_room}
use Rattle.bx_layout.specs.Labels.{SpellsLabel}
use Rattle.bx_members.proofs.Kept.{past_replicas, same_member}
use Rattle.bx_plain_store.specs.Out.{at}
use Rattle.bx_plain_store.specs.declared.inquiries.Inquiry.{Inquiry}
use Rattle.bx_plain_store.specs.Fits.{WillRead}
use Rattle.bx_plain_store.specs.Parts.{answer_at, answer_in, asked_at, asked_in}

none_there : (change : Change) → Contains [] change → ⊥
none_there change (i, less, is) = absurd (omega (arith, less))

-- where no change of a mode was handed back, the devices stay
pub same_devices : (s : GlobalState) (change : Change) → IsStoresOwn [] change → (effect s change).devices ≡ s.devices
same_devices s (Renew by boot reading) own = refl
same_devices s (Take by boot reading) own = refl
same_devices s (Open node boot reading) own = refl
same_devices s (Expire session term reading) own = refl
same_devices s (Claim gone by) own = refl
same_devices s (Close gone by) own = refl
same_devices s (Shift device epoch mode second boot) own = absurd (none_there (Shift device epoch mode second boot) own)

pub source_of : (s t : GlobalState) (device : ℕ) (second : Bool) → t.devices ≡ s.devices → IsSourceIn t device second → IsSourceIn s device second
source_of s t device second same = (elim (slice_get s.devices device) as (λ o. slice_get s.devices device ≡ o → slice_get t.devices device ≡ o → IsSourceIn t device second → IsSourceIn s device second) [
  | None ↦ λ e f source. absurd (let h = rw f at source in h)
  | Some row ↦ λ e f source. rw e (rw f at source)
]) refl (ap (λ (rows : List DeviceRow). slice_get rows device) same)

pub settled_by : (x : Disks) (s t : GlobalState) (device sector : ℕ) (content : List ℕ) → t.devices ≡ s.devices → IsSettled x s device sector content → IsSettled x t device sector content
settled_by x s t device sector content same is = record {
  there = subst (λ (rows : List DeviceRow). device < length rows) (sym same) is.there;
  reads = λ second source. is.reads second (source_of s t device second same source);
  sure = λ second source. is.sure second (source_of s t device second same source);
}

pub labels_by : (made : Made) (x : Disks) (s t : GlobalState) → t.devices ≡ s.devices → HasLabels made x s → HasLabels made x t
labels_by made x s t same labels = record {
  reads = λ device second source. labels.reads device second (source_of s t device second same source);
  sure = λ device second source. labels.sure device second (source_of s t device second same source);
  long = λ device second source. labels.long device second (source_of s t device second same source);
}

-- Sources are kept where they were sure, and are as long.
pub record KeepsMembersSure (s : GlobalState) (x y : Disks) : Type 0 where
  pub each : (device sector : ℕ) (second : Bool) → IsSourceIn s device second → x.unsure (member_disk device second) sector ≡ false
      → (y.reads (member_disk device second) sector ≡ x.reads (member_disk device second) sector) × (y.unsure (member_disk device second) sector ≡ false)
  pub long : (device : ℕ) (second : Bool) → slice_index y.sizes (member_disk device second) ≡ slice_index x.sizes (member_disk device second)

pub settled_kept : (x y : Disks) (s : GlobalState) (device sector : ℕ) (content : List ℕ) → KeepsMembersSure s x y → IsSettled x s device sector content → IsSettled y s device sector content
settled_kept x y s device sector content keeps is = record {
  there = is.there;
  reads = λ second source. (keeps.each device sector second source (is.sure second source)).0 ∙ is.reads second source;
  sure = λ second source. (keeps.each device sector second source (is.sure second source)).1;
}

pub labels_kept : (made : Made) (x y : Disks) (s : GlobalState) → KeepsMembersSure s x y → HasLabels made x s → HasLabels made y s
labels_kept made x y s keeps labels = record {
  reads = λ device second source. subst (SpellsLabel (label_on made (member_disk device second))) (sym (keeps.each device 0 second source (labels.sure device second source)).0) (labels.reads device second source);
  sure = λ device second source. (keeps.each device 0 second source (labels.sure device second source)).1;
  long = λ device second source. subst (λ (n : ℕ). store_room made ≤ n) (sym (keeps.long device second)) (labels.long device second source);
}

-- so they are at a crash of one disk
pub sure_survives : (x y : Disks) (s : GlobalState) (disk : ℕ) → SameMemberLengths x y → Crashes disk x y → KeepsMembersSure s x y
sure_survives x y s disk lengths crash = record {
  each = λ device sector second source sure. by_test (member_disk device second) sector sure (member_disk device second == disk) refl;
  long = λ device second. lengths.each (member_disk device second) (past_replicas device second);
}
  where
    by_test : (d sector : ℕ) → x.unsure d sector ≡ false → (b : Bool) → (d == disk) ≡ b → (y.reads d sector ≡ x.reads d sector) × (y.unsure d sector ≡ false)
    by_test d sector sure true is =
        let same : d ≡ disk = grind (arith, nat_tests, is) in
        let was : x.unsure disk sector ≡ false = subst (λ (n : ℕ). x.unsure n sector ≡ false) same sure in
        subst (λ (n : ℕ). (y.reads n sector ≡ x.reads n sector) × (y.unsure n sector ≡ false)) (sym same) (crash.sure sector was, crash.synced sector)
    by_test d sector sure false not_is =
        let stays = crash.others d sector (grind (arith, nat_tests, not_is)) in
        (stays.reads, stays.unsure ∙ sure)

-- and where members stay
pub sure_elsewhere : (x y : Disks) (s : GlobalState) → SameMemberLengths x y → SameMembers x y → KeepsMembersSure s x y
sure_elsewhere x y s lengths same = record {
  each = λ device sector second source sure.
      let kept = same.each (member_disk device second) sector (past_replicas device second) in
      (kept.reads, kept.sure sure);
  long = λ device second. lengths.each (member_disk device second) (past_replicas device second);
}

-- the member that the mode leaves out is no source
not_source : (s : GlobalState) (device : ℕ) (second : Bool) → IsOnlyOther s device second → IsSourceIn s device second → ⊥
not_source s device second = (elim (slice_get s.devices device) as (λ o. slice_get s.devices device ≡ o → IsOnlyOther s device second → IsSourceIn s device second → ⊥) [
  | None ↦ λ e other source. absurd (let h = rw e at other in h)
  | Some row ↦ λ e other source. by_member second row (rw e at other) (rw e at source)
]) refl
  where
    by_member : (b : Bool) (row : DeviceRow) → row.mode ≡ only_other b → IsSource row.mode b → ⊥
    by_member false row mode source = grind (arith, mode, source)
    by_member true row mode source = grind (arith, mode, source)

-- a source's disk isn't the one that the mode leaves out
apart_from : (s : GlobalState) (device at : ℕ) (second third : Bool) → IsOnlyOther s device second → IsSourceIn s at third → (member_disk at third == member_disk device second) ≡ false
apart_from s device at second third only source = by_test (member_disk at third == member_disk device second) refl
  where
    by_test : (b : Bool) → (member_disk at third == member_disk device second) ≡ b → (member_disk at third == member_disk device second) ≡ false
    by_test false apart = apart
    by_test true is_same =
        let same : member_disk at third ≡ member_disk device second = grind (arith, nat_tests, is_same) in
        let both = same_member at device third second same in
        absurd (not_source s device second only (subst (λ (b : Bool). IsSourceIn s device b) both.1 (subst (λ (n : ℕ). IsSourceIn s n third) both.0 source)))

-- and where the disk that the mode leaves out is replaced
pub sure_replaced : (x : Disks) (s : GlobalState) (device : ℕ) (second : Bool) → IsOnlyOther s device second → KeepsMembersSure s x (blanked x (member_disk device second))
sure_replaced x s device second only = record {
  each = λ at sector third source sure.
      let apart = apart_from s device at second third only source in
      (rw apart refl, rw apart sure);
  long = λ at third. refl;
}

-- what will be read stays so
pub will_keep : (asks : Option Asked) (answer : Option (List ℕ)) (x y : Disks) (s t : GlobalState) (sector : ℕ) (content : List ℕ)
    → ((a : Asked) → asks ≡ Some a → IsSettled x s a.device sector content → IsSettled y t a.device sector content) → WillRead asks answer x s sector content → WillRead asks answer y t sector content
will_keep None answer x y s t sector content keeps is = tt
will_keep (Some asks) None x y s t sector content keeps is = keeps asks refl is
will_keep (Some asks) (Some bytes) x y s t sector content keeps is = is

-- all that is promised goes on, where what is settled stays so
pub goes_same : (writes : List Sent) (greatest : ℕ) (inquiries : List (Option Inquiry)) (x y : Disks) (s t : GlobalState)
    → ((device sector : ℕ) (content : List ℕ) → IsOnly writes greatest device sector content → IsSettled x s device sector content → IsSettled y t device sector content)
    → GoesOn writes greatest (asked_at inquiries) (IsSettled x s) (IsSettled y t)
    (λ reader sector content. WillRead (asked_at inquiries reader) (answer_at inquiries reader) x s sector content) (λ reader sector content. WillRead (asked_at inquiries reader) (answer_at inquiries reader) y t sector content)
    (λ device sector content index. IsSettled x s device sector content) (λ device sector content index. IsSettled y t device sector content)
goes_same writes greatest inquiries x y s t keeps = record {
  settles = keeps;
  standing = λ device sector content index only is. keeps device sector content only is;
  reading = λ reader sector content asks asked only is.
      will_keep (asked_at inquiries reader) (answer_at inquiries reader) x y s t sector content
      (λ a same settled. let e : asks ≡ a = (let h = sym asked ∙ same in cc) in keeps a.device sector content (subst (λ (b : Asked). IsOnly writes greatest b.device sector content) e only) settled)
      is;
}

pub goes_sure : (writes : List Sent) (greatest : ℕ) (inquiries : List (Option Inquiry)) (x y : Disks) (s : GlobalState) → KeepsMembersSure s x y
    → GoesOn writes greatest (asked_at inquiries) (IsSettled x s) (IsSettled y s)
    (λ reader sector content. WillRead (asked_at inquiries reader) (answer_at inquiries reader) x s sector content) (λ reader sector content. WillRead (asked_at inquiries reader) (answer_at inquiries reader) y s sector content)
    (λ device sector content index. IsSettled x s device sector content) (λ device sector content index. IsSettled y s device sector content)
goes_sure writes greatest inquiries x y s keeps = goes_same writes greatest inquiries x y s s (λ device sector content only is. settled_kept x y s device sector content keeps is)

-- where nothing was handed back, no change of a mode is a store's own
pub own_none : (handed : List Change) (change : Change) → handed ≡ [] → IsStoresOwn handed change → IsStoresOwn [] change
own_none handed change none own = subst (λ (all : List Change). IsStoresOwn all change) none own

pub goes_grown : (past : StorePast) (change : Change) (inquiries : List (Option Inquiry)) (x : Disks) → past.told.handed ≡ [] → IsStoresOwn past.told.handed change
    → GoesOn past.writes past.told.greatest (asked_at inquiries) (IsSettled x (last past.told.chain)) (IsSettled x (effect (last past.told.chain) change))
    (λ reader sector content. WillRead (asked_at inquiries reader) (answer_at inquiries reader) x (last past.told.chain) sector content) (λ reader sector content. WillRead (asked_at inquiries reader) (answer_at inquiries reader) x (effect (last past.told.chain) change) sector content)
    (λ device sector content index. IsSettled x (last past.told.chain) device sector content) (λ device sector content index. IsSettled x (effect (last past.told.chain) change) device sector content)
goes_grown past change inquiries x none own = goes_same past.writes past.told.greatest inquiries x x (last past.told.chain) (effect (last past.told.chain) change)
    (λ device sector content only is. settled_by x (last past.told.chain) (effect (last past.told.chain) change) device sector content (same_devices (last past.told.chain) change (own_none past.told.handed change none own)) is)

-- there is no answer without a read
pub only_asked : (inquiries : List (Option Inquiry)) (node : ℕ) → asked_at inquiries node ≡ None → answer_at inquiries node ≡ None
only_asked inquiries node none = of_slot (at inquiries node) none
  where
    of_slot : (slot : Option Inquiry) → asked_in slot ≡ None → answer_in slot ≡ None
    of_slot None is = refl
    of_slot (Some inquiry) is = absurd cc
