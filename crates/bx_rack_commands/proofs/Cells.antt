-- The cells of a new volume, and the state that they tell.
use Rattle.std.proofs.Common.{◌≡◌, ℕ, ◌<◌, ◌≤◌, inr, Bool, true, false, List, length, Option, Some, None, refl, sym, ap, subst, ◌∙◌, arith}
use Rattle.std.specs.Prelude.{nat_lt, slice_index, if◌then◌else◌}
use Rattle.std.proofs.lemmas.Bool.Decides.{nat_tests}
use Rattle.std.proofs.lemmas.List.{length-replicate}
use Rattle.bx_acceptor.proofs.Taking.{first_is_held}
use Rattle.bx_acceptor.specs.Standing.{IsFound}
use Rattle.bx_answers.specs.Handling.{first_held}
use Rattle.bx_cell.proofs.Words.{cell_sectors}
use Rattle.bx_cell.specs.Formats.{first}
use Rattle.bx_disk.specs.Disks.{Disks}
use Rattle.bx_facts.specs.Labelled.{IsReplicaLabelled}
use Rattle.bx_format.specs.Formats.{HasSizes, IsMade, KeepsBehind}
use Rattle.bx_format.proofs.Rests as rests
use Rattle.bx_global.proofs.Begins.{formatted_allowed}
use Rattle.bx_global.specs.Allowed.{IsAllowed}
use Rattle.bx_global.specs.Bytes.{IsHeld, held_text}
use Rattle.bx_global.specs.declared.held.Held.{Held}
use Rattle.bx_global.specs.declared.state.GlobalState.{GlobalState}
use Rattle.bx_global.specs.Opening.{first_device, formatted_state}
use Rattle.bx_layout.specs.declared.label.Label.{Label}
use Rattle.bx_layout.specs.Labels.{IsLabel}
use Rattle.bx_rack_audit.specs.bx_paxos.specs.Reading.{AreSeen, ReadsFirst, Tells}
use Rattle.bx_places.specs.Places.{disk_sectors, replica_sectors}
use Rattle.bx_rack_audit.proofs.Labels.{labelled_agrees}
use Rattle.bx_rack_audit.specs.Alone.{IsOwnState}
use Rattle.bx_rack_commands.specs.NewVolumes.{HaveFirstState}
use Rattle.bx_rows.specs.declared.device.DeviceRow.{DeviceRow}

-- the disks of replicas have room for their cells
replica_disk : (devices areas n : ℕ) → n < 3 → disk_sectors devices areas n ≡ replica_sectors
replica_disk devices areas n low = grind (arith, nat_tests, low)

pub replica_room : (sizes : List ℕ) (devices areas n : ℕ) → HasSizes sizes devices areas → n < 3 → 21 ≤ slice_index sizes n
replica_room sizes devices areas n has low = let e = has.each n (omega (arith, low)) ∙ replica_disk devices areas n low in omega (arith, e)

-- labels leave the cells
pub cells_stay : (old new : Disks) (devices : ℕ) → KeepsBehind old new → HaveFirstState old devices → HaveFirstState new devices
cells_stay old new devices behind have = record {
  each = λ n low. cell_sectors (old.reads n) (new.reads n) 1 (λ s past less. behind.reads n s past) ∙ have.each n low;
}

-- ---- what the cells tell

-- how many devices there are
pub many : (devices : ℕ) → length (formatted_state devices).devices ≡ devices
many devices = length-replicate {A = DeviceRow} devices first_device

module _ (done : Disks) (label : Label) (is : IsLabel label) (zero : label.disk ≡ 0) (made : IsMade done label) (cells : HaveFirstState done label.devices) where
  abbrev s : GlobalState
  s = formatted_state label.devices

  abbrev held : Held
  held = first_held s

  allowed : IsAllowed s
  allowed = formatted_allowed label.devices is.least_devices is.most_devices

  is_held : IsHeld (length s.devices) held
  is_held = first_is_held s allowed (omega arith)

  -- each replica is labelled
  labelled : (n : ℕ) → n < 3 → IsReplicaLabelled (length s.devices) done.sizes done.reads n
  labelled n low =
      (labelled_agrees (length s.devices) done.sizes done.reads n).1
      (label, rests.is_first done label is made zero, omega (arith, zero), sym (many label.devices), low, rests.labelled done label is made n (omega (arith, low)))

  found_at : (n : ℕ) (h : Held) → n < 3 → h ≡ held → IsFound (length s.devices) (done.reads n) (first (held_text held)) h
  found_at n h low same = record {
    in_cell = cells.each n low;
    spells = record { is = subst (IsHeld (length s.devices)) (sym same) is_held; parts = ap held_text (sym same) };
  }

  -- the cells of three replicas have it
  abbrev seen : ℕ → Option Held
  seen n = if nat_lt n 3 then Some held else None

  lower : (n : ℕ) → n < 3 → nat_lt n 3 ≡ true
  lower n low = grind (arith, nat_tests, low)

  seen_low : (n : ℕ) → n < 3 → seen n ≡ Some held
  seen_low n low = rw (lower n low) refl

  seen_some : (n : ℕ) (h : Held) → seen n ≡ Some h → (n < 3) × (h ≡ held)
  seen_some n h e = by (nat_lt n 3) refl e
    where
      by : (t : Bool) → nat_lt n 3 ≡ t → (if t then Some held else None) ≡ Some h → (n < 3) × (h ≡ held)
      by true below same = (grind (arith, nat_tests, below), (let eq : h ≡ held = cc in eq))
      by false above same = absurd cc

  seen_none : (n : ℕ) → n < 3 → seen n ≡ None → ⊥
  seen_none n low e = let has = seen_low n low in cc

  are_seen : AreSeen (length s.devices) done.sizes done.reads seen
  are_seen = record {
    some = λ n h e. let k = seen_some n h e in (labelled n k.0, (first (held_text held), found_at n h k.0 k.1));
    none = λ n found h e is_labelled is_found. seen_none n is_labelled.whole.low e;
  }

  not_ahead : (h : Held) → h ≡ held → h.flag ≡ 1 → ⊥
  not_ahead h same flag = let none = ap (λ (x : Held). x.flag) same in omega (arith, none, flag)

  reads_first : ReadsFirst seen s
  reads_first = inr (
    0,
    held,
    record {
      level = record {
        is = seen_low 0 (omega arith);
        greatest = λ m h e. let k = seen_some m h e in let index = ap (λ (x : Held). x.decided.index) k.1 in omega (arith, index);
        none = λ m h e flag. absurd (not_ahead h (seen_some m h e).1 flag);
      };
      lowest = λ m h level. omega arith;
    },
    refl,
  )

  tells : Tells seen s
  tells = record {
    one = 0;
    other = 1;
    one_held = held;
    other_held = held;
    two = record {
      two = record { one = omega arith; other = omega arith; differ = λ same. omega (arith, same) };
      is_one = seen_low 0 (omega arith);
      is_other = seen_low 1 (omega arith);
    };
    reads = reads_first;
  }

  pub own_state : IsOwnState done.sizes done.reads s
  own_state = record {
    first = label;
    is_first = rests.is_first done label is made zero;
    devices = many label.devices;
    reads = record { seen = seen; are = are_seen; tells = tells };
  }
