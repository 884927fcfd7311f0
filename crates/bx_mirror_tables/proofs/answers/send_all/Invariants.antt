use Rattle.std.proofs.Common.{◌≡◌, ◌++◌, map, take}
use Rattle.bx_base.specs.declared.names.Actor.TheVariants.{Member}
use Rattle.bx_mirror_packets.specs.DeviceMessages.{letter_with}
use Rattle.bx_mirror_tables.specs.Owed.{message_of}
use Rattle.bx_mirror_tables.proofs.answers.send_all.Given as goal

abbrev pub invariant-loop-owing : goal.invariant-loop-owing
invariant-loop-owing l = l.out ≡ l.initial.out ++ map (λ o. letter_with (Member l.number) o.to (message_of o.answer)) (take l.owing-index l.owed)
