-- What is read is one state, of as many devices as the cells.
use Rattle.std.proofs.Common.{◌≡◌, ℕ, ◌⊎◌, inl, inr, List, length, Option, Some, sym, ap, subst, ◌∙◌}
use Rattle.bx_disk.specs.Disks.{Image}
use Rattle.bx_global.specs.Bytes.{IsHeld}
use Rattle.bx_global.specs.declared.held.Held.{Held}
use Rattle.bx_global.specs.declared.state.GlobalState.{GlobalState}
use Rattle.bx_paxos.proofs.OneReading.{one_reading}
use Rattle.bx_paxos.specs.Reading.{AreSeen, ReadsFirst, ReadsState}

pub one_read : (made other : GlobalState) (sizes : List ℕ) (image : Image) (a b : GlobalState) → length made.devices ≡ length other.devices → ReadsState made sizes image a → ReadsState other sizes image b → a ≡ b
one_read made other sizes image a b same is also =
    sym (one_reading other sizes image a b (record { seen = is.seen; are = subst (λ (n : ℕ). AreSeen n sizes image is.seen) same is.are; tells = is.tells }) also)

pub devices_read : (devices : ℕ) (sizes : List ℕ) (image : Image) (made s : GlobalState) → length made.devices ≡ devices → ReadsState made sizes image s → length s.devices ≡ devices
devices_read devices sizes image made s same is = by is.tells.reads
  where
    held_at : (n : ℕ) (held : Held) → is.seen n ≡ Some held → IsHeld (length made.devices) held
    held_at n held e = let k = is.are.some n held e in k.1.1.spells.is

    by : ReadsFirst is.seen s → length s.devices ≡ devices
    by (inl (n, held, first, e)) = ap (λ (t : GlobalState). length t.devices) e ∙ (held_at n held first.ahead.is).accepted_devices ∙ same
    by (inr (n, held, first, e)) = ap (λ (t : GlobalState). length t.devices) e ∙ (held_at n held first.level.is).decided_devices ∙ same
