-- What images have of the cells of replicas goes on: beside a put and through it, once a disk was synced or has crashed, and at the beginning.
use Rattle.std.proofs.Common.{◌≡◌, ◌≢◌, ℕ, ◌<◌, ◌≤◌, ◌==◌, Bool, true, false, List, length, Option, Some, if◌then◌else◌, refl, sym, ap, subst, ◌∙◌, inl, inr, arith}
use Rattle.std.specs.Prelude.{nat_le, nat_lt, slice_index}
use Rattle.std.proofs.lemmas.Bool.Decides.{eqb_tells, nat_tests}
use Rattle.bx_acceptor.specs.Standing.{IsFound, TakesPart}
use Rattle.bx_acceptor.specs.declared.origin.Origin.{Origin}
use Rattle.bx_acceptor.specs.declared.origin.Origin.TheVariants.{Made, Found as FoundAs, Apart}
use Rattle.bx_acceptor.proofs.Taking.{one_found}
use Rattle.bx_calls.specs.Calls.{KeepsSure}
use Rattle.bx_calls.specs.Regions.{EachOutside}
use Rattle.bx_cell.specs.Cells.{HasEither, next}
use Rattle.bx_cell.specs.Halves.{Found, cell_in}
use Rattle.bx_cell.specs.Images.{EachSure, HasAllSure}
use Rattle.bx_cell.proofs.Words.{cell_sectors}
use Rattle.bx_disk.specs.Disks.{Disks, Image}
use Rattle.bx_facts.specs.Disks.{SameLabels, SameLengths, SameReplicas}
use Rattle.bx_facts.specs.Labelled.{IsFirstLabel, IsReplicaLabelled, IsOwnLabel, IsWhole, label_on}
use Rattle.bx_global.specs.Bytes.{IsHeld, SpellsHeld, held_text}
use Rattle.bx_global.specs.declared.held.Held.{Held}
use Rattle.bx_global.specs.declared.state.GlobalState.{GlobalState}
use Rattle.bx_layout.specs.Labels.{SpellsLabel}
use Rattle.bx_layout.specs.declared.label.Label.{Label}
use Rattle.bx_places.specs.Places.{replica_sectors}
use Rattle.bx_paxos.specs.Fits.{IsPutOn, KnowsCell, Voters}
use Rattle.bx_paxos.specs.Shown.{IsAsItWas, IsUnread, Shows, ShowsOne, StandsAsFound}

-- ---- one disk

pub found_alike : (devices : ℕ) (sectors other : ℕ → List ℕ) (found : Found) (held : Held) → ((s : ℕ) → other s ≡ sectors s) → IsFound devices sectors found held → IsFound devices other found held
found_alike devices sectors other found held same is = record { in_cell = cell_sectors sectors other 1 (λ s low high. same s) ∙ is.in_cell; spells = is.spells }

-- replicas' disks are as long
abbrev pub AreAsLong : List ℕ → List ℕ → Type 0
AreAsLong sizes more = (d : ℕ) → d < 3 → slice_index more d ≡ slice_index sizes d

back : (sizes more : List ℕ) → AreAsLong sizes more → AreAsLong more sizes
back sizes more lengths d low = sym (lengths d low)

pub as_long : (sizes more : List ℕ) → more ≡ sizes → AreAsLong sizes more
as_long sizes more same d low = ap (λ (l : List ℕ). slice_index l d) same

-- labels go by the first sectors of replicas' disks, and by how long these are
module _ (sizes more : List ℕ) (lengths : (d : ℕ) → d < 3 → slice_index more d ≡ slice_index sizes d) where
  whole_alike : (n : ℕ) → IsWhole sizes n → IsWhole more n
  whole_alike n is = record { low = is.low; long_enough = subst (λ (k : ℕ). replica_sectors ≤ k) (sym (lengths n is.low)) is.long_enough }

  own_alike : (image other : Image) (n : ℕ) (label : Label) → ((d : ℕ) → IsWhole sizes d → other d 0 ≡ image d 0) → IsOwnLabel sizes image n label → IsOwnLabel more other n label
  own_alike image other n label same own = record { whole = whole_alike n own.whole; spells = subst (SpellsLabel label) (sym (same n own.whole)) own.spells; names = own.names }

pub first_alike : (sizes more : List ℕ) (image other : Image) (first : Label) → AreAsLong sizes more → ((d : ℕ) → IsWhole sizes d → other d 0 ≡ image d 0) → IsFirstLabel sizes image first → IsFirstLabel more other first
first_alike sizes more image other first lengths same is = record {
  own = own_alike sizes more lengths image other first.disk first same is.own;
  least = λ n label before own. is.least n label before (own_alike more sizes (back sizes more lengths) other image n label (λ d whole. sym (same d (whole_alike more sizes (back sizes more lengths) d whole))) own);
}

pub label_alike : (devices : ℕ) (sizes more : List ℕ) (image other : Image) (n : ℕ) → AreAsLong sizes more → ((d : ℕ) → IsWhole sizes d → other d 0 ≡ image d 0) → IsReplicaLabelled devices sizes image n → IsReplicaLabelled devices more other n
label_alike devices sizes more image other n lengths same is = record {
  whole = whole_alike sizes more lengths n is.whole;
  first = is.first;
  is_first = first_alike sizes more image other is.first lengths same is.is_first;
  devices_are = is.devices_are;
  spells = subst (SpellsLabel (label_on is.first n)) (sym (same n is.whole)) is.spells;
}

pub unread_alike : (devices : ℕ) (sizes more : List ℕ) (image other : Image) (n : ℕ) → AreAsLong sizes more → ((d : ℕ) → IsWhole sizes d → other d 0 ≡ image d 0) → (IsWhole sizes n → (s : ℕ) → other n s ≡ image n s) → IsUnread devices sizes image n → IsUnread devices more other n
unread_alike devices sizes more image other n lengths labels same is = record {
  none = λ found held label there.
      let to_whole = whole_alike more sizes (back sizes more lengths) in
      is.none found held (label_alike devices more sizes other image n (back sizes more lengths) (λ d whole. sym (labels d (to_whole d whole))) label)
      (found_alike devices (other n) (image n) found held (λ s. sym (same (to_whole n label.whole) s)) there);
}

shows_alike : (devices : ℕ) (origin : Origin) (was : Option Held) (sizes more : List ℕ) (image other : Image) (n : ℕ) → AreAsLong sizes more → ((d : ℕ) → IsWhole sizes d → other d 0 ≡ image d 0) → ((s : ℕ) → other n s ≡ image n s) → ShowsOne devices origin was sizes image n → ShowsOne devices origin was more other n
shows_alike devices Made was sizes more image other n lengths labels same (found, held, is) = (found, held, found_alike devices (image n) (other n) found held same is)
shows_alike devices (FoundAs number) was sizes more image other n lengths labels same (held, e, is) = (
  held,
  e,
  record {
    label = label_alike devices sizes more image other n lengths labels is.label;
    found = is.found;
    held = is.held;
    is = found_alike devices (image n) (other n) is.found is.held same is.is;
    later = is.later;
    as_found = is.as_found;
  },
)
shows_alike devices Apart was sizes more image other n lengths labels same (none, is) = (none, unread_alike devices sizes more image other n lengths labels (λ whole. same) is)

-- the cell stands as it did, or was put, and labels are as they were
shows_put : (devices : ℕ) (origin : Origin) (was : Option Held) (sizes more : List ℕ) (image other : Image) (n : ℕ) (before after : Found) (raw : Held) → AreAsLong sizes more → ((d : ℕ) → IsWhole sizes d → other d 0 ≡ image d 0) → cell_in (image n) 1 ≡ Some before → TakesPart origin before.number
    → cell_in (other n) 1 ≡ Some after → SpellsHeld raw after.value devices → IsPutOn before after → ShowsOne devices origin was sizes image n → ShowsOne devices origin was more other n
shows_put devices Made was sizes more image other n before after raw lengths labels at part stands spells put is = (after, raw, record { in_cell = stands; spells = spells })
shows_put devices (FoundAs number) was sizes more image other n before after raw lengths labels at part stands spells put (held, e, is) = (
  held,
  e,
  record {
    label = label_alike devices sizes more image other n lengths labels is.label;
    found = after;
    held = raw;
    is = record { in_cell = stands; spells = spells };
    later = by put;
    as_found = λ number_is. same number_is put;
  },
)
  where
    by : IsPutOn before after → number ≤ after.number
    by (inl stays) = let k = ap (λ (f : Found). f.number) stays in omega (arith, part, k)
    by (inr more) = omega (arith, part, more)

    same : after.number ≡ number → IsPutOn before after → raw ≡ held
    same number_is (inl stays) =
        let there : IsFound devices (image n) after raw = record { in_cell = at ∙ ap (λ (f : Found). Some f) (sym stays); spells = spells } in
        let one = one_found devices (image n) after is.found raw is.held there is.is in
        one.1 ∙ is.as_found (ap (λ (f : Found). f.number) (sym one.0) ∙ number_is)
    same number_is (inr more) = absurd (omega (arith, part, more, number_is))
shows_put devices Apart was sizes more image other n before after raw lengths labels at part stands spells put is = absurd part

-- ---- an image with the cell of one disk put back

outer : Disks → ℕ → Image → Image
outer old n image d s = if d == n then (if nat_le 1 s then (if nat_lt s 21 then old.reads d s else image d s) else image d s) else image d s

outer_has : (old : Disks) (n : ℕ) (image : Image) → EachOutside n 1 20 (λ d s. old.unsure d s ≡ false → image d s ≡ old.reads d s) → HasAllSure old (outer old n image)
unfolding outer
outer_has old n image out = record {
  sure = λ d s sure. elim (eqb_tells d n) [
    | inl same ↦ rw same.0 (subst (λ (k : ℕ). old.unsure k s ≡ false → (if nat_le 1 s then (if nat_lt s 21 then old.reads k s else image k s) else image k s) ≡ old.reads k s) (sym same.1) (λ at. by s (nat_le 1 s) (nat_lt s 21) refl refl at) sure)
    | inr apart ↦ rw apart.0 (out.elsewhere d s apart.1 sure)
  ];
}
  where
    by : (s : ℕ) (t u : Bool) → nat_le 1 s ≡ t → nat_lt s 21 ≡ u → old.unsure n s ≡ false → (if t then (if u then old.reads n s else image n s) else image n s) ≡ old.reads n s
    by s true true e f sure = refl
    by s true false e f sure = out.behind s (grind (arith, nat_tests, f)) sure
    by s false u e f sure = out.before s (grind (arith, nat_tests, e)) sure

outer_other : (old : Disks) (n : ℕ) (image : Image) (d s : ℕ) → d ≢ n → image d s ≡ outer old n image d s
unfolding outer
outer_other old n image d s differ = elim (eqb_tells d n) [ inl same ↦ absurd (differ same.1) | inr apart ↦ rw apart.0 refl ]

outer_label : (old : Disks) (n : ℕ) (image : Image) → image n 0 ≡ outer old n image n 0
unfolding outer
outer_label old n image = by (n == n)
  where
    by : (t : Bool) → image n 0 ≡ (if t then image n 0 else image n 0)
    by true = refl
    by false = refl

outer_labels : (old : Disks) (n : ℕ) (image : Image) (d : ℕ) → d < 3 → image d 0 ≡ outer old n image d 0
outer_labels old n image d low = elim (eqb_tells d n) [
  | inl same ↦ subst (λ (k : ℕ). image k 0 ≡ outer old n image k 0) (sym same.1) (outer_label old n image)
  | inr apart ↦ outer_other old n image d 0 apart.1
]

outside_of : (old new : Disks) (n : ℕ) (image : Image) → KeepsSure old new n 1 20 → HasAllSure new image → EachOutside n 1 20 (λ d s. old.unsure d s ≡ false → image d s ≡ old.reads d s)
outside_of old new n image keeps is = record {
  elsewhere = λ d s apart sure. is.sure d s (keeps.sure.elsewhere d s apart sure) ∙ keeps.reads.elsewhere d s apart;
  before = λ s low sure. is.sure n s (keeps.sure.before s low sure) ∙ keeps.reads.before s low;
  behind = λ s high sure. is.sure n s (keeps.sure.behind s high sure) ∙ keeps.reads.behind s high;
}

-- ---- three

module _ (v : Voters) (was : ℕ → Option Held) where
  -- an image that has all that was sure outside the cell of one disk, which stands there as it did or was put
  shows_at : (old : Disks) (more : List ℕ) (n : ℕ) (image : Image) (before after : Found) (raw : Held) → AreAsLong old.sizes more → EachSure old (Shows v.first v.origins was old.sizes) → EachOutside n 1 20 (λ d s. old.unsure d s ≡ false → image d s ≡ old.reads d s)
      → EachSure old (λ i. cell_in (i n) 1 ≡ Some before) → TakesPart (v.origins n) before.number → cell_in (image n) 1 ≡ Some after → SpellsHeld raw after.value (length v.first.devices) → IsPutOn before after → Shows v.first v.origins was more image
  shows_at old more n image before after raw lengths shown out had part stands spells put = record {
    each = λ m low. elim (eqb_tells m n) [
      | inl same ↦ subst (λ (k : ℕ). ShowsOne (length v.first.devices) (v.origins k) (was k) more image k) (sym same.1)
          (shows_put (length v.first.devices) (v.origins n) (was n) old.sizes more (outer old n image) image n before after raw lengths (λ d whole. outer_labels old n image d whole.low) (had.each (outer old n image) sure) part stands spells put (here.each n (subst (λ (k : ℕ). k < 3) same.1 low)))
      | inr apart ↦ shows_alike (length v.first.devices) (v.origins m) (was m) old.sizes more (outer old n image) image m lengths (λ d whole. outer_labels old n image d whole.low) (λ s. outer_other old n image m s apart.1) (here.each m low)
    ];
  }
    where
      sure : HasAllSure old (outer old n image)
      sure = outer_has old n image out

      here : Shows v.first v.origins was old.sizes (outer old n image)
      here = shown.each (outer old n image) sure

  -- after a put, and what may be found at any moment of it
  pub shown_then : (old new : Disks) (n : ℕ) (held now : Held) (before after : Found) → EachSure old (Shows v.first v.origins was old.sizes) → KeepsSure old new n 1 20 → KnowsCell v old n held before → KnowsCell v new n now after → IsPutOn before after → EachSure new (Shows v.first v.origins was new.sizes)
  shown_then old new n held now before after shown keeps knows known put = record {
    each = λ image is. shows_at old new.sizes n image before after known.content.raw (as_long old.sizes new.sizes keeps.sizes) shown (outside_of old new n image keeps is) knows.each knows.content.part (known.each.each image is) known.content.spells put;
  }

  pub shown_either : (old : Disks) (more : List ℕ) (n : ℕ) (held now : Held) (found : Found) (image : Image) → AreAsLong old.sizes more → EachSure old (Shows v.first v.origins was old.sizes) → KnowsCell v old n held found → IsHeld (length v.first.devices) now → HasEither old n 1 found (next found (held_text now)) image → Shows v.first v.origins was more image
  shown_either old more n held now found image lengths shown knows is either =
      elim either.cell [
        | inl stays ↦ shows_at old more n image found found knows.content.raw lengths shown either.outside.outside knows.each knows.content.part stays knows.content.spells (inl refl)
        | inr new ↦ shows_at old more n image found (next found (held_text now)) now lengths shown either.outside.outside knows.each knows.content.part new (record { is = is; parts = refl }) (inr (omega arith))
      ]

  -- what has all that is sure then had all that was sure before
  pub shown_fewer : (old new : Disks) → AreAsLong old.sizes new.sizes → ((image : Image) → HasAllSure new image → HasAllSure old image) → EachSure old (Shows v.first v.origins was old.sizes) → EachSure new (Shows v.first v.origins was new.sizes)
  shown_fewer old new lengths implies each = record {
    each = λ image has.
        let here = each.each image (implies image has) in
        record { each = λ n low. shows_alike (length v.first.devices) (v.origins n) (was n) old.sizes new.sizes image image n lengths (λ d whole. refl) (λ s. refl) (here.each n low) };
  }

  -- other disks don't matter
  near : Disks → Image → Image
  near old image d s = if nat_lt d 3 then image d s else old.reads d s

  near_at : (old : Disks) (image : Image) (n s : ℕ) → n < 3 → image n s ≡ near old image n s
  unfolding near
  near_at old image n s low = let t : nat_lt n 3 ≡ true = grind (arith, nat_tests, low) in rw t refl

  near_has : (x y : Disks) (image : Image) → SameReplicas x y → SameLabels x y → HasAllSure y image → HasAllSure x (near x image)
  unfolding near
  near_has x y image same labels has = record { sure = λ d s sure. by d s (nat_lt d 3) refl (nat_le 1 s) refl sure }
    where
      by : (d s : ℕ) (t : Bool) → nat_lt d 3 ≡ t → (u : Bool) → nat_le 1 s ≡ u → x.unsure d s ≡ false → (if t then image d s else x.reads d s) ≡ x.reads d s
      by d s true e true f sure = let k = same.each d s (grind (arith, nat_tests, e)) (grind (arith, nat_tests, f)) in has.sure d s (k.sure sure) ∙ k.reads
      by d s true e false f sure =
          let zero_is : s ≡ 0 = grind (arith, nat_tests, f) in
          let k = labels.each d (grind (arith, nat_tests, e)) in
          subst (λ (i : ℕ). image d i ≡ x.reads d i) (sym zero_is) (has.sure d 0 (k.sure (subst (λ (i : ℕ). x.unsure d i ≡ false) zero_is sure)) ∙ k.reads)
      by d s false e u f sure = refl

  pub shown_elsewhere : (x y : Disks) → SameLengths x y → SameReplicas x y → SameLabels x y → EachSure x (Shows v.first v.origins was x.sizes) → EachSure y (Shows v.first v.origins was y.sizes)
  shown_elsewhere x y lengths same labels each = record {
    each = λ image has.
        let here = each.each (near x image) (near_has x y image same labels has) in
        record { each = λ n low. shows_alike (length v.first.devices) (v.origins n) (was n) x.sizes y.sizes (near x image) image n lengths.each (λ d whole. near_at x image d 0 whole.low) (λ s. near_at x image n s low) (here.each n low) };
  }

-- ---- the beginning

shows_so : (devices : ℕ) (origin : Origin) (was : Option Held) (sizes : List ℕ) (image : Image) (n : ℕ) → IsAsItWas devices origin was sizes image n → ShowsOne devices origin was sizes image n
shows_so devices Made was sizes image n is = absurd is
shows_so devices (FoundAs number) was sizes image n (held, e, label, (found, number_is, is)) =
    (held, e, record { label = label; found = found; held = held; is = is; later = omega (arith, number_is); as_found = λ k. refl })
shows_so devices Apart was sizes image n is = is

pub shows_found : (first : GlobalState) (origins : ℕ → Origin) (was : ℕ → Option Held) (sizes : List ℕ) (image : Image) → StandsAsFound first origins was sizes image → Shows first origins was sizes image
shows_found first origins was sizes image is = record { each = λ n low. shows_so (length first.devices) (origins n) (was n) sizes image n (is.each n low) }
