-- Rows and ballots are read again from their bytes, and no other bytes are read as such.
use Rattle.std.proofs.Common.{◌≡◌, ℕ, ◌^◌, ◌<◌, ◌≤◌, true, ltb, List, length, refl, arith}
use Rattle.std.specs.List.{AllByRecursion}
use Rattle.std.proofs.lemmas.Bool.{and_from, and_parts, lt-ltb, ltb-true}
use Rattle.bx_base.proofs.Fields.{IsField, field32, field64, then_field, as_field, tested_field, sized_field, list_field}
use Rattle.bx_rows.specs.declared.device.DeviceRow.{DeviceRow}
use Rattle.bx_rows.specs.declared.session.SessionRow.{SessionRow}
use Rattle.bx_rows.specs.Conditions.{IsBallot}
use Rattle.bx_rows.specs.Spelling.{pair_text, session_text, device_text, sessions_text, devices_text, ballot_text}
use Rattle.bx_rows.specs.Reading
use Rattle.bx_base.proofs.Fields.{fits_field}

-- ---- rows

abbrev pub PairFits : ℕ × ℕ → Type 0
PairFits x = (x.0 < 2 ^ 32) × (x.1 < 2 ^ 64)

pub pair_field : IsField Reading.pair_at (λ x. pair_text x.0 x.1) PairFits
unfolding Reading.pair_at pair_text
pair_field = then_field field32 field64

-- the numbers of a row fit their fields
abbrev pub SessionFits : SessionRow → Type 0
SessionFits r = (r.number < 2 ^ 64) × (PairFits (r.node, r.boot) × (PairFits (r.slot, r.until) × PairFits (r.dead, r.by)))

session_field : IsField Reading.session_at session_text SessionFits
unfolding Reading.session_at session_text
session_field =
    as_field Reading.session_with Reading.session_fields (λ x. refl) (λ y. refl)
    (then_field field64 (then_field pair_field (then_field pair_field pair_field)))

abbrev pub DeviceFits : DeviceRow → Type 0
DeviceFits r = PairFits (r.mode, r.epoch) × ((r.boot_a < 2 ^ 64) × (r.boot_b < 2 ^ 64))

device_field : IsField Reading.device_at device_text DeviceFits
unfolding Reading.device_at device_text
device_field = as_field Reading.device_with Reading.device_fields (λ x. refl) (λ y. refl) (then_field pair_field (then_field field64 field64))

abbrev pub SessionsFit : List SessionRow → Type 0
SessionsFit rows = ((length rows < 2 ^ 32) × (length rows ≤ 8)) × AllByRecursion SessionFits rows

pub sessions_field : IsField Reading.sessions_at sessions_text SessionsFit
unfolding Reading.sessions_at sessions_text
sessions_field =
    sized_field length (tested_field Reading.few_sessions (λ n. n ≤ 8) (λ n t. omega (arith, ltb-true n 9 t)) (λ n le. lt-ltb n 9 (omega (arith, le))) field32) (λ n. list_field n session_field)

abbrev pub FewDevices : ℕ → Type 0
FewDevices n = (1 ≤ n) × (n ≤ 4)

few_devices_are : (n : ℕ) → Reading.few_devices n ≡ true → FewDevices n
few_devices_are n t = let p = and_parts (ltb 0 n) (ltb n 5) t in (omega (arith, ltb-true 0 n p.0), omega (arith, ltb-true n 5 p.1))

are_few_devices : (n : ℕ) → FewDevices n → Reading.few_devices n ≡ true
are_few_devices n few = and_from (ltb 0 n) (ltb n 5) (lt-ltb 0 n (omega (arith, few.0))) (lt-ltb n 5 (omega (arith, few.1)))

abbrev pub DevicesFit : List DeviceRow → Type 0
DevicesFit rows = ((length rows < 2 ^ 32) × FewDevices (length rows)) × AllByRecursion DeviceFits rows

pub devices_field : IsField Reading.devices_at devices_text DevicesFit
unfolding Reading.devices_at devices_text
devices_field = sized_field length (tested_field Reading.few_devices FewDevices few_devices_are are_few_devices field32) (λ n. list_field n device_field)

-- ---- ballots

pub ballot_field : IsField Reading.ballot_at ballot_text IsBallot
unfolding Reading.ballot_at ballot_text
ballot_field =
    fits_field IsBallot (λ b f. record { round = f.0; actor = f.1.0; boot = f.1.1 }) (λ b i. (i.round, (i.actor, i.boot)))
    (as_field Reading.ballot_with Reading.ballot_fields (λ x. refl) (λ y. refl) (then_field field64 pair_field))
