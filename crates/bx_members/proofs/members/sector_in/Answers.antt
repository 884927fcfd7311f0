use Rattle.std.proofs.Common.{◌≡◌, ℕ, ◌+◌, ◌*◌, ◌-◌, take, drop, arith, ap}
use Rattle.bx_disk.specs.Disks.{sector_of}
use Rattle.bx_members.proofs.members.sector_in.Goals as goal

pub returns-clause-is : goal.returns-clause-is
unfolding sector_of
returns-clause-is c = let n : 512 * c.args.i + 512 - 512 * c.args.i ≡ 512 = omega arith in ap (λ (m : ℕ). take m (drop (512 * c.args.i) c.args.bytes.now)) n
