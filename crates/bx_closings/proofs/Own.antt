-- The state that the cells of replicas tell, by the labels alone, is the one that a register reads: it knows how many devices there are.
use Rattle.std.proofs.Common.{◌≡◌, inl, inr, ℕ, zero, suc, ◌<◌, Bool, true, List, [], ◌∷◌, length, refl, sym, ◌∙◌, ap, subst, arith}
use Rattle.std.specs.Prelude.{if◌then◌else◌, nat_lt}
use Rattle.std.proofs.lemmas.Bool.Decides.{nat_tests}
use Rattle.bx_closings.proofs.Labels.{same_devices}
use Rattle.bx_cluster.specs.Closing.{IsCrashed}
use Rattle.bx_disk.specs.Disks.{Disks}
use Rattle.bx_facts.specs.Chains.{IsNext, state_after}
use Rattle.bx_facts.specs.Labelled as labelled
use Rattle.bx_facts.specs.Writes.{Made, label_on}
use Rattle.bx_global.specs.Table.{effect}
use Rattle.bx_global.specs.declared.change.Change.{Change}
use Rattle.bx_global.specs.declared.change.Change.TheVariants.{Renew, Take, Open, Expire, Claim, Close, Shift}
use Rattle.bx_global.specs.declared.state.GlobalState.{GlobalState}
use Rattle.bx_layout.specs.declared.label.Label.{Label}
use Rattle.bx_paxos_found.specs.bx_paxos.specs.Reading.{AreSeen, ReadsState}
use Rattle.bx_places.specs.Places.{disk_sectors, member_sectors, replica_sectors}
use Rattle.bx_rack_audit.specs.Alone.{IsOwnState}
use Rattle.bx_rows.specs.Rows.{at_place}
use Rattle.bx_rows.specs.declared.device.DeviceRow.{DeviceRow}
use Rattle.bx_volume.specs.Images.{IsFirstLabel, IsOwnLabel}
use Rattle.bx_world_standing.specs.Labels.{HasNoLabel, IsLabelledSurely, LabelsStand}
use Rattle.bx_world_stays.proofs.Labels.{labels_keep}

-- ---- how many devices there are stays

place_count : (n : ℕ) (change : DeviceRow → DeviceRow) (rows : List DeviceRow) → length (at_place n change rows) ≡ length rows
place_count n change [] = refl
place_count zero change (row ∷ rows) = refl
place_count (suc n) change (row ∷ rows) = ap (λ (k : ℕ). suc k) (place_count n change rows)

effect_count : (s : GlobalState) (change : Change) → length (effect s change).devices ≡ length s.devices
effect_count s (Renew by boot reading) = refl
effect_count s (Take by boot reading) = refl
effect_count s (Open node boot reading) = refl
effect_count s (Expire session term reading) = refl
effect_count s (Claim gone by) = refl
effect_count s (Close gone by) = refl
effect_count s (Shift device epoch mode second boot) = place_count device _ s.devices

pub state_count : (first : GlobalState) (changes : List Change) → length (state_after first changes).devices ≡ length first.devices
state_count first [] = refl
state_count first (change ∷ older) = effect_count (state_after first older) change ∙ state_count first older

pub next_count : (changes : List Change) (s next : GlobalState) → IsNext changes s next → length next.devices ≡ length s.devices
next_count changes s next (inl same) = ap (λ (t : GlobalState). length t.devices) same
next_count changes s next (inr (change, there, legal, is)) = ap (λ (t : GlobalState). length t.devices) is ∙ effect_count s change

-- ---- what disks that crashed are labelled

module _ (made : Made) (x y : Disks) (crashed : IsCrashed x y) (labels : LabelsStand made x) where
  pub labels_then : LabelsStand made y
  labels_then = labels_keep made x y crashed.sizes (λ d low sure. (crashed.left.sure d 0 sure, crashed.sure d 0)) labels

  low_is : (d : ℕ) → d < 3 → nat_lt d 3 ≡ true
  low_is d low = grind (arith, nat_tests, low)

  sectors_of : (devices areas d : ℕ) → d < 3 → disk_sectors devices areas d ≡ replica_sectors
  sectors_of devices areas d low = ap (λ (t : Bool). if t then replica_sectors else member_sectors devices areas) (low_is d low)

  -- the first label
  pub first_is : IsFirstLabel y.sizes y.reads (label_on made labels_then.one)
  first_is = record {
    own = record {
      spells = labels_then.is_one.reads;
      names = refl;
      there = let low = labels_then.is_one.low in omega (arith, low);
      long_enough = let e = sectors_of made.devices made.areas labels_then.one labels_then.is_one.low in let long = labels_then.is_one.long in omega (arith, e, long);
    };
    least = λ d label less own. none d label less own (labels_then.none_before d less);
  }
    where
      none : (d : ℕ) (label : Label) → d < labels_then.one → IsOwnLabel y.sizes y.reads d label → HasNoLabel y d → ⊥
      none d label less own (inl short) =
          let low = labels_then.is_one.low in
          let e = sectors_of label.devices label.areas d (omega (arith, less, low)) in
          let long = own.long_enough in
          omega (arith, e, long, short)
      none d label less own (inr sure) = sure.1 label own.spells own.names

  -- as replicas see it
  first_of : labelled.IsFirstLabel y.sizes y.reads (label_on made labels_then.one)
  first_of = record {
    own = record { whole = record { low = labels_then.is_one.low; long_enough = labels_then.is_one.long }; spells = labels_then.is_one.reads; names = refl };
    least = λ d label less own. none d label own (labels_then.none_before d less);
  }
    where
      none : (d : ℕ) (label : Label) → labelled.IsOwnLabel y.sizes y.reads d label → HasNoLabel y d → ⊥
      none d label own (inl short) = let long = own.whole.long_enough in omega (arith, long, short)
      none d label own (inr sure) = sure.1 label own.spells own.names

  module _ (register_made : GlobalState) (same : length register_made.devices ≡ made.devices) where
    labelled_at : (n : ℕ) → IsLabelledSurely made y n → labelled.IsReplicaLabelled (length register_made.devices) x.sizes y.reads n
    labelled_at n is = subst (λ (sizes : List ℕ). labelled.IsReplicaLabelled (length register_made.devices) sizes y.reads n) crashed.sizes (record {
      whole = record { low = is.low; long_enough = is.long };
      first = label_on made labels_then.one;
      is_first = first_of;
      devices_are = sym same;
      spells = is.reads;
    })

    -- two replicas are labelled for as many devices
    pub labelled_one : labelled.IsReplicaLabelled (length register_made.devices) x.sizes y.reads labels_then.one
    labelled_one = labelled_at labels_then.one labels_then.is_one

    pub labelled_other : labelled.IsReplicaLabelled (length register_made.devices) x.sizes y.reads labels_then.other
    labelled_other = labelled_at labels_then.other labels_then.is_other

    pub apart : labels_then.one ≡ labels_then.other → ⊥
    apart is = let order = labels_then.order in omega (arith, is, order)

    -- what is read is told by as many devices
    reads_as : (s t other : GlobalState) (sizes : List ℕ) → length other.devices ≡ length s.devices → ReadsState s sizes y.reads t → ReadsState other sizes y.reads t
    reads_as s t other sizes as_many reads = record {
      seen = reads.seen;
      are = subst (λ (devices : ℕ). AreSeen devices sizes y.reads reads.seen) (sym as_many) reads.are;
      tells = reads.tells;
    }

    -- the disks' own state is one that the register reads
    pub own_reads : (s : GlobalState) → IsOwnState y.sizes y.reads s → ReadsState register_made x.sizes y.reads s
    own_reads s own = subst (λ (sizes : List ℕ). ReadsState register_made sizes y.reads s) crashed.sizes
        (reads_as s s register_made y.sizes (same ∙ same_devices y.sizes y.reads (label_on made labels_then.one) own.first first_is own.is_first ∙ sym own.devices) own.reads)

    -- and one that it reads is, where that has as many devices
    pub is_own : (s : GlobalState) → length s.devices ≡ made.devices → ReadsState register_made x.sizes y.reads s → IsOwnState y.sizes y.reads s
    is_own s as_many reads = record {
      first = label_on made labels_then.one;
      is_first = first_is;
      devices = as_many;
      reads = reads_as register_made s s y.sizes (as_many ∙ sym same) (subst (λ (sizes : List ℕ). ReadsState register_made sizes y.reads s) (sym crashed.sizes) reads);
    }
