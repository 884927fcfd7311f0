use Rattle.std.proofs.Common.{◌≡◌, ℕ, ◌+◌, ◌-◌, ◌*◌, arith, ap, take, drop}
use Rattle.bx_disk.specs.Disks.{sector_of}
use Rattle.bx_memory_rack.proofs.cells.sector_at.Goals as goal

pub returns-clause-value : goal.returns-clause-value
unfolding sector_of
returns-clause-value c =
    let size : 512 * c.args.at + 512 - 512 * c.args.at ≡ 512 = omega arith in
    ap (λ (n : ℕ). take n (drop (512 * c.args.at) c.args.bytes.now)) size
