-- The records that are open on disks, each device read from the member that reads go to.
use Rattle.std.proofs.Common.{◌≡◌, ℕ, ◌+◌, ◌%◌, ◌<◌, ◌≤◌, Bool, true, false, List, ◌∷◌, [], length, refl, sym, ap, ◌∙◌, subst, arith}
use Rattle.std.specs.Prelude.{◌↔◌, reverse}
use Rattle.std.proofs.Math.Nat.{mod-lt}
use Rattle.bx_audit.specs.Audited.{AreOpen}
use Rattle.bx_base.specs.declared.names.Point.{Point}
use Rattle.bx_closings.proofs.Labels.{same_areas, same_devices}
use Rattle.bx_closings.proofs.Points.{points_are, points_to}
use Rattle.bx_disk.specs.Disks.{Disks, Image, sector_of}
use Rattle.bx_global.specs.declared.state.GlobalState.{GlobalState}
use Rattle.bx_layout.specs.Labels.{IsOpenGate}
use Rattle.bx_layout.specs.declared.label.Label.{Label}
use Rattle.bx_logs.specs.Logs.{log_in}
use Rattle.bx_logs.specs.Members.{held_by, member_in}
use Rattle.bx_places.specs.Places.{body_place, gate_place, log_device}
use Rattle.bx_redo.proofs.Settled.{there_is}
use Rattle.bx_rows.specs.Words.{is_taken}
use Rattle.bx_volume.proofs.OneLog.{one_has_log}
use Rattle.bx_volume.specs.Images.{AreReadFrom, IsFirstLabel, by_device, devices_of, member_disk}
use Rattle.bx_volume.specs.Overlay.{Logs}
use Rattle.bx_volume.specs.Records.{HasLog, IsInBody, LogWhere, Logged, StandOpen, logged_text}

-- ---- a log is that of its device

module _ (f g : Image) (devices areas slot : ℕ) (same : f (log_device slot devices) ≡ g (log_device slot devices)) where
  in_body : (body : ℕ) (logged : Logged) → IsInBody f devices areas slot body logged → IsInBody g devices areas slot body logged
  in_body body logged is = record {
    is = is.is;
    reads = record { each = λ i less. subst (λ (h : ℕ → List ℕ). h ((body_place slot body devices).1 + i) ≡ sector_of (logged_text logged) i) same (is.reads.each i less) };
  }

  stand_open : (records : List Logged) → StandOpen f devices areas slot records → StandOpen g devices areas slot records
  stand_open [] stand = tt
  stand_open (newest ∷ older) stand =
      (subst (λ (h : ℕ → List ℕ). IsOpenGate (h (gate_place slot (length older) devices).1)) same stand.0, in_body (length older) newest stand.1, stand_open older stand.2)

  log_where : (taken : Bool) (records : List Logged) → LogWhere taken f devices areas slot records → LogWhere taken g devices areas slot records
  log_where true records log = record {
    most = log.most;
    stand = stand_open records log.stand;
    end = λ less open_there. log.end less (subst (λ (h : ℕ → List ℕ). IsOpenGate (h (gate_place slot (length records) devices).1)) (sym same) open_there);
  }
  log_where false records none = none

-- ---- the records that are open

same_member : (P : Type 0) (a b : Bool) → (a ≡ false) ↔ P → (b ≡ false) ↔ P → a ≡ b
same_member P false false one other = refl
same_member P true true one other = refl
same_member P false true one other = absurd (let e = other.1 (one.0 refl) in cc)
same_member P true false one other = absurd (let e = one.1 (other.0 refl) in cc)

module _ (s : GlobalState) (second : ℕ → Bool) (reads : AreReadFrom s second) (first : Label) (devices : length s.devices ≡ first.devices) (y : Disks) (is_first : IsFirstLabel y.sizes y.reads first) (least : 1 ≤ first.devices) (shown : Logs)
    (has_logs : (slot : ℕ) → slot < 8 → HasLog s.sessions (devices_of y.reads (by_device second)) first.devices first.areas slot (shown slot)) (points : List Point) (opened : AreOpen y s points) where
  devices_are : opened.members.devices ≡ first.devices
  devices_are = opened.are_members.devices ∙ same_devices y.sizes y.reads opened.first first opened.is_first is_first

  areas_are : opened.members.areas ≡ first.areas
  areas_are = opened.are_members.areas ∙ same_areas y.sizes y.reads opened.first first opened.is_first is_first

  alike : (device : ℕ) → device < first.devices → held_by y.reads opened.members device ≡ devices_of y.reads (by_device second) device
  alike device less =
      let row = there_is s.devices device (let many = devices in omega (arith, less, many)) in
      ap (λ (b : Bool). λ (sector : ℕ). y.reads (member_disk device b) sector)
      (same_member _ (member_in opened.members.seconds device) (second device) (opened.are_members.sources device row.0 row.1) (reads device row.0 row.1))

  log_is : (slot : ℕ) → slot < 8 → reverse (log_in opened.logs slot) ≡ shown slot
  log_is slot less = one_has_log s.sessions (devices_of y.reads (by_device second)) first.devices first.areas slot (reverse (log_in opened.logs slot)) (shown slot)
      (log_where (held_by y.reads opened.members) (devices_of y.reads (by_device second)) first.devices first.areas slot (alike (slot % first.devices) (mod-lt slot least)) (is_taken s.sessions slot) (reverse (log_in opened.logs slot))
      (subst (λ (n : ℕ). HasLog s.sessions (held_by y.reads opened.members) first.devices n slot (reverse (log_in opened.logs slot))) areas_are
      (subst (λ (n : ℕ). HasLog s.sessions (held_by y.reads opened.members) n opened.members.areas slot (reverse (log_in opened.logs slot))) devices_are (opened.are_logs.each slot less))))
      (has_logs slot less)

  -- they are those of the logs that the disks show
  pub open_points : points ≡ points_to shown 8
  open_points = opened.points_are ∙ points_are opened.logs shown 8 opened.are_logs.count log_is
