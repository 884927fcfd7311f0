use Rattle.std.proofs.Common.{◌≡◌, length, arith, rules}
use Rattle.bx_tests_bench.proofs.drafts.block_of.Goals as goal

pub returns : goal.returns
returns c =
    let long : length c.from.result ≡ 4096 = grind (arith, rules) in
    record { handle = omega arith; kind = omega arith; own = λ e. absurd (omega (arith, e)); payload = long }
