-- The logs of a volume at rest are closed, whichever sessions have rows.
use Rattle.std.proofs.Common.{inl, inr, ℕ, ◌+◌, ◌/◌, ◌<◌, ◌≤◌, Bool, true, false, List, refl, arith}
use Rattle.std.proofs.lemmas.Bool.Decides.{nat_tests}
use Rattle.std.proofs.Math.Nat.{mod-lt}
use Rattle.bx_disk.specs.Disks.{Disks, Image}
use Rattle.bx_facts.specs.Writes.{Made}
use Rattle.bx_global.specs.declared.state.GlobalState.{GlobalState}
use Rattle.bx_node_openings.specs.Resting.{VolumeRests}
use Rattle.bx_places.specs.Places.{IsBlock, IsVolume, block_place, gate_place, member_sectors}
use Rattle.bx_rows.specs.Words.{is_taken}
use Rattle.bx_views.specs.Truths.{Truth}
use Rattle.bx_volume.specs.Records.{Logged, gate_of}
use Rattle.bx_volume.proofs.Matters.{homes_truth}
use Rattle.bx_world_stays.specs.bx_world_logs.specs.Logs.{IsInLog, LogsStand, SlotStands}
use Rattle.bx_world_stays.proofs.Begins.{IsSettledWithin, idle_slots, no_logs}

-- a home is on a device, behind the label, within its members
home_there : (devices areas at i : ℕ) → IsVolume devices areas → IsBlock areas at → i < 9 → (block_place at devices).1 + i < member_sectors devices areas
home_there devices areas at i volume is less = grind (arith, nat_tests)

home_behind : (devices at i : ℕ) → 1 ≤ (block_place at devices).1 + i
home_behind devices at i = grind (arith, nat_tests)

-- no log has a block
pub none_in : (more : Logged) (slot at : ℕ) → IsInLog no_logs (idle_slots more) slot at → ⊥
none_in more slot at (inl some) = let b = some in cc
none_in more slot at (inr begun) = let b = begun.0 in cc

module _ (made : Made) (x : Disks) (s : GlobalState) (held : Image) (truth : Truth) (rests : VolumeRests made x s held truth) where
  abbrev Within : ℕ → ℕ → List ℕ → Type 0
  Within = IsSettledWithin made x s

  gate_within : (slot gate : ℕ) → slot < 8 → gate < 8 → Within (gate_place slot gate made.devices).0 (gate_place slot gate made.devices).1 (gate_of held made.devices slot gate)
  gate_within slot gate low few = record {
    there = mod-lt slot rests.volume.least_devices;
    behind_label = omega arith;
    within = omega (arith, low, few);
    settled = rests.gates slot gate low few;
  }

  home_within : (at i : ℕ) → IsBlock made.areas at → i < 9 → Within (block_place at made.devices).0 ((block_place at made.devices).1 + i) (held (block_place at made.devices).0 ((block_place at made.devices).1 + i))
  home_within at i is few = record {
    there = mod-lt (at / 1024) rests.volume.least_devices;
    behind_label = home_behind made.devices at i;
    within = home_there made.devices made.areas at i rests.volume is few;
    settled = rests.sure at is i few;
  }

  slot_stands : (more : Logged) (slot : ℕ) → slot < 8 → (taken : Bool) → SlotStands Within made.devices made.areas held taken no_logs slot (idle_slots more slot)
  slot_stands more slot low true = record {
    gates = λ gate few apart. gate_within slot gate low few;
    bodies = λ body i few fills. absurd (omega (arith, few));
    finds = λ gate above few. rests.shut slot gate low few;
  }
  slot_stands more slot low false = record { gates = λ gate few. gate_within slot gate low few; closed = λ gate above few. rests.shut slot gate low few; still = refl }

  pub logs_closed : (more : Logged) → LogsStand Within made.devices made.areas s.sessions held no_logs (idle_slots more) truth
  logs_closed more = record {
    volume = rests.volume;
    is_truth = homes_truth held made.devices made.areas s.sessions truth rests.homes (λ slot low. rests.shut slot 0 low (omega arith));
    homes = λ at is none i few. home_within at i is few;
    each = λ slot low. slot_stands more slot low (is_taken s.sessions slot);
    once = λ slot other at low near in_one in_other. absurd (none_in more slot at in_one);
  }
