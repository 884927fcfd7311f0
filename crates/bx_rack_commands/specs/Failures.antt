-- What an error of an audit is to a command.
use Rattle.bx_overlay.specs.declared.error.AuditError.{AuditError}
use Rattle.bx_overlay.specs.declared.error.AuditError.TheVariants as audits
use Rattle.bx_rack_commands.specs.declared.failure.Failure.{Failure}
use Rattle.bx_rack_commands.specs.declared.failure.Failure.TheVariants.{DiskFault, Refused, OutOfMemory}
use Rattle.bx_rack_commands.specs.declared.failure.Refusal.TheVariants.{Disk, Majority, Device, Block}

abbrev pub failure_of : AuditError → Failure
failure_of audits.DiskFault = DiskFault
failure_of (audits.NoLabel disk) = Refused (Disk disk)
failure_of audits.NoMajority = Refused Majority
failure_of (audits.NoSource device) = Refused (Device device)
failure_of (audits.Torn block found wanted) = Refused (Block block)
failure_of audits.OutOfMemory = OutOfMemory
