use Rattle.std.proofs.Common.{arith}
use Rattle.bx_page.specs.Contents.{with_value}
use Rattle.bx_page.proofs.Room.{size_with-le}
use Rattle.bx_page.proofs.laws.room_for_two.Goals as goal

pub returns-clause-one : goal.returns-clause-one
returns-clause-one c = λ page key value room both. omega (arith, size_with-le page key value)

pub returns-clause-two : goal.returns-clause-two
returns-clause-two c = λ page key value other another room both more. omega (arith, size_with-le page key value, size_with-le (with_value page key value) other another)
