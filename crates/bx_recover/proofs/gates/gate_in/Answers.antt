use Rattle.std.proofs.Common.{◌≡◌, ℕ, ◌+◌, ◌-◌, ◌*◌, arith, ap, drop, take}
use Rattle.bx_disk.specs.Disks.{sector_of}
use Rattle.bx_recover.proofs.gates.gate_in.Goals as goal

pub returns : goal.returns
unfolding sector_of
returns c =
    let one : 512 * c.args.gate + 512 - 512 * c.args.gate ≡ 512 = omega arith in
    ap (λ (n : ℕ). take n (drop (512 * c.args.gate) c.args.gates.now)) one
