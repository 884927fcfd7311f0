-- The label of a sector; and which replica's label is the first, and which replicas are labelled, told one way or the other.
use Rattle.std.proofs.Common.{◌≡◌, ℕ, ◌+◌, ◌-◌, ◌^◌, ◌<◌, ◌≤◌, ◌⊎◌, inl, inr, ◌==◌, Bool, true, false, List, length, take, drop, Option, Some, None, refl, sym, ap, subst, ◌∙◌, arith}
use Rattle.std.specs.Int.{w32, w64, from_be_bytes}
use Rattle.std.specs.Prelude.{bytes_eq, IfNone, IfSome, slice_index}
use Rattle.std.proofs.lemmas.Bool.{cases_lt}
use Rattle.std.proofs.lemmas.Bool.Decides.{eqb_tells}
use Rattle.std.proofs.lemmas.Slice.Eq.{bytes_eq-Decides}
use Rattle.bx_disk.specs.Disks.{Disks, Image}
use Rattle.bx_facts.specs.Disks.{SameDisks}
use Rattle.bx_facts.specs.Labelled.{IsFirstLabel, IsReplicaLabelled, IsOwnLabel, IsWhole, label_on}
use Rattle.bx_base.specs.Writing.{padded}
use Rattle.bx_layout.proofs.LabelFields.{areas_in, devices_in, disk_in, same_label, volume_in}
use Rattle.bx_layout.specs.Labels.{IsLabel, SpellsLabel, label_text}
use Rattle.bx_layout.specs.declared.label.Label.{Label}
use Rattle.bx_places.specs.Places.{replica_sectors}
use Rattle.bx_paxos.specs.Shown.{IsUnread}

-- ---- one sector

-- the label that a sector has, if it has one
read_label : List ℕ → Label
read_label sector = record {
  volume = from_be_bytes w64 (take (length sector - 12) (drop 12 sector));
  disk = from_be_bytes w32 (take (length sector - 20) (drop 20 sector));
  devices = from_be_bytes w32 (take (length sector - 24) (drop 24 sector));
  areas = from_be_bytes w32 (take (length sector - 28) (drop 28 sector));
}

read_is : (label : Label) (sector : List ℕ) → SpellsLabel label sector → read_label sector ≡ label
unfolding read_label
read_is label sector s = same_label _ _ _ _ label (volume_in label sector s) (disk_in label sector s) (devices_in label sector s) (areas_in label sector s)

is_label : (l : Label) → IsLabel l ⊎ (IsLabel l → ⊥)
is_label l = by (cases_lt l.volume (2 ^ 64)) (cases_lt l.disk (2 ^ 32)) (cases_lt 0 l.devices) (cases_lt 4 l.devices) (cases_lt 0 l.areas) (cases_lt 64 l.areas)
  where
    by : (l.volume < 2 ^ 64) ⊎ (2 ^ 64 ≤ l.volume) → (l.disk < 2 ^ 32) ⊎ (2 ^ 32 ≤ l.disk) → (0 < l.devices) ⊎ (l.devices ≤ 0) → (4 < l.devices) ⊎ (l.devices ≤ 4) → (0 < l.areas) ⊎ (l.areas ≤ 0) → (64 < l.areas) ⊎ (l.areas ≤ 64) → IsLabel l ⊎ (IsLabel l → ⊥)
    by (inl a) (inl b) (inl c) (inr d) (inl e) (inr f) = inl (record { volume = a; disk = b; least_devices = omega (arith, c); most_devices = d; least_areas = omega (arith, e); most_areas = f })
    by (inr a) b c d e f = inr (λ is. let k = is.volume in omega (arith, a, k))
    by (inl a) (inr b) c d e f = inr (λ is. let k = is.disk in omega (arith, b, k))
    by (inl a) (inl b) (inr c) d e f = inr (λ is. let k = is.least_devices in omega (arith, c, k))
    by (inl a) (inl b) (inl c) (inl d) e f = inr (λ is. let k = is.most_devices in omega (arith, d, k))
    by (inl a) (inl b) (inl c) (inr d) (inr e) f = inr (λ is. let k = is.least_areas in omega (arith, e, k))
    by (inl a) (inl b) (inl c) (inr d) (inl e) (inl f) = inr (λ is. let k = is.most_areas in omega (arith, f, k))

spells_or : (label : Label) (sector : List ℕ) → SpellsLabel label sector ⊎ (SpellsLabel label sector → ⊥)
spells_or label sector = by (is_label label) (bytes_eq sector text) refl
  where
    text : List ℕ
    text = padded 512 (label_text label)

    by : IsLabel label ⊎ (IsLabel label → ⊥) → (t : Bool) → bytes_eq sector text ≡ t → SpellsLabel label sector ⊎ (SpellsLabel label sector → ⊥)
    by (inl is) true e = inl (record { is = is; parts = (bytes_eq-Decides sector text).0 e })
    by (inl is) false e = inr (λ spells. let bad : false ≡ true = sym e ∙ (bytes_eq-Decides sector text).1 spells.parts in absurd cc)
    by (inr never) t e = inr (λ spells. never spells.is)

pub one_label : (a b : Label) (sector : List ℕ) → SpellsLabel a sector → SpellsLabel b sector → a ≡ b
one_label a b sector one other = sym (read_is a sector one) ∙ read_is b sector other

-- a sector that was read
module _ (sizes : List ℕ) (image : Image) (n : ℕ) (bytes : List ℕ) (here : image n 0 ≡ bytes) where
  pub none_there : ((label : Label) → SpellsLabel label bytes → ⊥) → (label : Label) → IsOwnLabel sizes image n label → ⊥
  none_there none label own = none label (subst (SpellsLabel label) here own.spells)

  pub own_there : (label : Label) → IsWhole sizes n → SpellsLabel label bytes → label.disk ≡ n → IsOwnLabel sizes image n label
  own_there label whole spells names = record { whole = whole; spells = subst (SpellsLabel label) (sym here) spells; names = names }

  pub other_there : (label : Label) → SpellsLabel label bytes → (label.disk ≡ n → ⊥) → (other : Label) → IsOwnLabel sizes image n other → ⊥
  other_there label spells differ other own = differ (ap (λ (l : Label). l.disk) (one_label label other bytes spells (subst (SpellsLabel other) here own.spells)) ∙ own.names)

  pub on_so : (label first : Label) → SpellsLabel label bytes → (label.disk ≡ n) × (label.volume ≡ first.volume) × (label.devices ≡ first.devices) × (label.areas ≡ first.areas) → SpellsLabel (label_on first n) (image n 0)
  on_so label first spells (disk, volume, devices, areas) = subst (λ (l : Label). SpellsLabel l (image n 0)) (sym (same_label first.volume n first.devices first.areas label (sym volume) (sym disk) (sym devices) (sym areas))) (subst (SpellsLabel label) (sym here) spells)

  pub on_only : (label first : Label) → SpellsLabel label bytes → SpellsLabel (label_on first n) (image n 0) → (label.disk ≡ n) × (label.volume ≡ first.volume) × (label.devices ≡ first.devices) × (label.areas ≡ first.areas)
  on_only label first spells on =
      let same = one_label label (label_on first n) bytes spells (subst (SpellsLabel (label_on first n)) here on) in
      (ap (λ (l : Label). l.disk) same, ap (λ (l : Label). l.volume) same, ap (λ (l : Label). l.devices) same, ap (λ (l : Label). l.areas) same)

  pub on_none : ((label : Label) → SpellsLabel label bytes → ⊥) → (first : Label) → SpellsLabel (label_on first n) (image n 0) → ⊥
  on_none none first on = none (label_on first n) (subst (SpellsLabel (label_on first n)) here on)

-- ---- the first

-- no replica before this one has a label of its own
abbrev pub NoneBefore : List ℕ → Image → ℕ → Type 0
NoneBefore sizes image k = (n : ℕ) (label : Label) → n < k → IsOwnLabel sizes image n label → ⊥

pub none_yet : (sizes : List ℕ) (image : Image) → NoneBefore sizes image 0
none_yet sizes image n label less own = absurd (omega (arith, less))

pub one_more : (sizes : List ℕ) (image : Image) (k : ℕ) → NoneBefore sizes image k → ((label : Label) → IsOwnLabel sizes image k label → ⊥) → NoneBefore sizes image (k + 1)
one_more sizes image k before none n label less own = by (cases_lt n k)
  where
    by : (n < k) ⊎ (k ≤ n) → ⊥
    by (inl below) = before n label below own
    by (inr above) = none label (subst (λ (m : ℕ). IsOwnLabel sizes image m label) (omega (arith, less, above)) own)

pub first_at : (sizes : List ℕ) (image : Image) (k : ℕ) (label : Label) → NoneBefore sizes image k → IsOwnLabel sizes image k label → IsFirstLabel sizes image label
first_at sizes image k label before own = record {
  own = subst (λ (d : ℕ). IsOwnLabel sizes image d label) (sym own.names) own;
  least = λ n other less has. before n other (subst (λ (d : ℕ). n < d) own.names less) has;
}

pub none_own : (sizes : List ℕ) (image : Image) → NoneBefore sizes image 3 → (n : ℕ) (label : Label) → IsOwnLabel sizes image n label → ⊥
none_own sizes image before n label own = before n label own.whole.low own

whole_or : (sizes : List ℕ) (n : ℕ) → n < 3 → IsWhole sizes n ⊎ (IsWhole sizes n → ⊥)
whole_or sizes n low = by (cases_lt (slice_index sizes n) replica_sectors)
  where
    by : (slice_index sizes n < replica_sectors) ⊎ (replica_sectors ≤ slice_index sizes n) → IsWhole sizes n ⊎ (IsWhole sizes n → ⊥)
    by (inl short) = inr (λ whole. let long = whole.long_enough in omega (arith, short, long))
    by (inr long) = inl (record { low = low; long_enough = long })

own_or : (sizes : List ℕ) (image : Image) (n : ℕ) → n < 3 → ((label : Label) × IsOwnLabel sizes image n label) ⊎ ((label : Label) → IsOwnLabel sizes image n label → ⊥)
own_or sizes image n low = by (whole_or sizes n low) (spells_or (read_label (image n 0)) (image n 0)) (eqb_tells (read_label (image n 0)).disk n)
  where
    by : IsWhole sizes n ⊎ (IsWhole sizes n → ⊥) → SpellsLabel (read_label (image n 0)) (image n 0) ⊎ (SpellsLabel (read_label (image n 0)) (image n 0) → ⊥)
        → ((((read_label (image n 0)).disk == n) ≡ true) × ((read_label (image n 0)).disk ≡ n)) ⊎ ((((read_label (image n 0)).disk == n) ≡ false) × ((read_label (image n 0)).disk ≡ n → ⊥))
        → ((label : Label) × IsOwnLabel sizes image n label) ⊎ ((label : Label) → IsOwnLabel sizes image n label → ⊥)
    by (inr short) spells names = inr (λ label own. short own.whole)
    by (inl whole) (inl spells) (inl same) = inl (read_label (image n 0), record { whole = whole; spells = spells; names = same.1 })
    by (inl whole) (inl spells) (inr apart) = inr (λ label own. apart.1 (ap (λ (l : Label). l.disk) (read_is label (image n 0) own.spells) ∙ own.names))
    by (inl whole) (inr never) names = inr (λ label own. never (subst (λ (l : Label). SpellsLabel l (image n 0)) (sym (read_is label (image n 0) own.spells)) own.spells))

first_or : (sizes : List ℕ) (image : Image) → ((first : Label) × IsFirstLabel sizes image first) ⊎ ((n : ℕ) (label : Label) → IsOwnLabel sizes image n label → ⊥)
first_or sizes image = by (own_or sizes image 0 (omega arith)) (own_or sizes image 1 (omega arith)) (own_or sizes image 2 (omega arith))
  where
    Own : ℕ → Type 0
    Own n = ((label : Label) × IsOwnLabel sizes image n label) ⊎ ((label : Label) → IsOwnLabel sizes image n label → ⊥)

    by : Own 0 → Own 1 → Own 2 → ((first : Label) × IsFirstLabel sizes image first) ⊎ ((n : ℕ) (label : Label) → IsOwnLabel sizes image n label → ⊥)
    by (inl a) b c = inl (a.0, first_at sizes image 0 a.0 (none_yet sizes image) a.1)
    by (inr a) (inl b) c = inl (b.0, first_at sizes image 1 b.0 (one_more sizes image 0 (none_yet sizes image) a) b.1)
    by (inr a) (inr b) (inl c) = inl (c.0, first_at sizes image 2 c.0 (one_more sizes image 1 (one_more sizes image 0 (none_yet sizes image) a) b) c.1)
    by (inr a) (inr b) (inr c) = inr (none_own sizes image (one_more sizes image 2 (one_more sizes image 1 (one_more sizes image 0 (none_yet sizes image) a) b) c))

one_first : (sizes : List ℕ) (image : Image) (a b : Label) → IsFirstLabel sizes image a → IsFirstLabel sizes image b → a ≡ b
one_first sizes image a b one other = by (cases_lt a.disk b.disk) (cases_lt b.disk a.disk)
  where
    by : (a.disk < b.disk) ⊎ (b.disk ≤ a.disk) → (b.disk < a.disk) ⊎ (a.disk ≤ b.disk) → a ≡ b
    by (inl less) rest = absurd (other.least a.disk a less one.own)
    by (inr more) (inl less) = absurd (one.least b.disk b less other.own)
    by (inr more) (inr less) =
        let same : a.disk ≡ b.disk = omega (arith, more, less) in
        one_label a b (image b.disk 0) (subst (λ (d : ℕ). SpellsLabel a (image d 0)) same one.own.spells) other.own.spells

-- ---- answers

pub of_none : {A P : Type 0} (found : Option A) → found ≡ None → IfNone found P → P
of_none None same is = is
of_none (Some y) same is = absurd cc

pub of_some : {A : Type 0} (P : A → Type 0) (found : Option A) (x : A) → found ≡ Some x → IfSome found P → P x
of_some P (Some y) x same is = subst P (some_one y x same) is
  where
    some_one : {A : Type 0} (y x : A) → Some y ≡ Some x → y ≡ x
    some_one y x same = cc
of_some P None x same is = absurd cc

-- ---- replicas that are labelled

module _ (devices : ℕ) (sizes : List ℕ) (image : Image) where
  -- by the first label
  pub spells_so : (n : ℕ) (first : Label) → IsFirstLabel sizes image first → IsReplicaLabelled devices sizes image n → SpellsLabel (label_on first n) (image n 0)
  spells_so n first is label = subst (λ (l : Label). SpellsLabel (label_on l n) (image n 0)) (one_first sizes image label.first first label.is_first is) label.spells

  pub devices_so : (n : ℕ) (first : Label) → IsFirstLabel sizes image first → IsReplicaLabelled devices sizes image n → first.devices ≡ devices
  devices_so n first is label = ap (λ (l : Label). l.devices) (one_first sizes image first label.first is label.is_first) ∙ label.devices_are

  -- a volume of other devices, or none at all
  pub apart_devices : (first : Label) → IsFirstLabel sizes image first → (first.devices ≡ devices → ⊥) → (n : ℕ) → IsReplicaLabelled devices sizes image n → ⊥
  apart_devices first is differ n label = differ (devices_so n first is label)

  pub none_labelled : ((n : ℕ) (label : Label) → IsOwnLabel sizes image n label → ⊥) → (n : ℕ) → IsReplicaLabelled devices sizes image n → ⊥
  none_labelled none n label = none label.first.disk label.first label.is_first.own

  pub labelled_or : (n : ℕ) → n < 3 → IsReplicaLabelled devices sizes image n ⊎ (IsReplicaLabelled devices sizes image n → ⊥)
  labelled_or n low = by (whole_or sizes n low) (first_or sizes image)
    where
      at : IsWhole sizes n → (first : Label) → IsFirstLabel sizes image first → (((first.devices == devices) ≡ true) × (first.devices ≡ devices)) ⊎ (((first.devices == devices) ≡ false) × (first.devices ≡ devices → ⊥))
          → SpellsLabel (label_on first n) (image n 0) ⊎ (SpellsLabel (label_on first n) (image n 0) → ⊥) → IsReplicaLabelled devices sizes image n ⊎ (IsReplicaLabelled devices sizes image n → ⊥)
      at whole first is (inl same) (inl spells) = inl (record { whole = whole; first = first; is_first = is; devices_are = same.1; spells = spells })
      at whole first is (inl same) (inr never) = inr (λ label. never (spells_so n first is label))
      at whole first is (inr apart) spells = inr (λ label. apart.1 (devices_so n first is label))

      by : IsWhole sizes n ⊎ (IsWhole sizes n → ⊥) → ((first : Label) × IsFirstLabel sizes image first) ⊎ ((k : ℕ) (label : Label) → IsOwnLabel sizes image k label → ⊥) → IsReplicaLabelled devices sizes image n ⊎ (IsReplicaLabelled devices sizes image n → ⊥)
      by (inr short) rest = inr (λ label. short label.whole)
      by (inl whole) (inl (first, is)) = at whole first is (eqb_tells first.devices devices) (spells_or (label_on first n) (image n 0))
      by (inl whole) (inr none) = inr (λ label. none label.first.disk label.first label.is_first.own)

-- a replica whose disk has no label of the volume that the first label is of
pub unread_off : (devices : ℕ) (x y : Disks) (n : ℕ) (first : Label) → SameDisks x y → IsFirstLabel x.sizes x.reads first → (SpellsLabel (label_on first n) (y.reads n 0) → ⊥) → IsUnread devices x.sizes x.reads n
unread_off devices x y n first same is never = record { none = λ found held label there. never (subst (SpellsLabel (label_on first n)) (sym (same.each n 0).reads) (spells_so devices x.sizes x.reads n first is label)) }

-- a replica whose disk isn't whole
pub unread_short : (devices : ℕ) (sizes : List ℕ) (image : Image) (n : ℕ) → (IsWhole sizes n → ⊥) → IsUnread devices sizes image n
unread_short devices sizes image n short = record { none = λ found held label there. short label.whole }
