-- What an error of a reader of lines, one of a rack, and one of an audit is to a command.
use Rattle.bx_disk.specs.declared.fault.RackError.{RackError}
use Rattle.bx_disk.specs.declared.fault.RackError.TheVariants as racks
use Rattle.bx_outside.specs.declared.line_reader.LineError.{LineError}
use Rattle.bx_outside.specs.declared.line_reader.LineError.TheVariants.{Fault, OutOfMemory}
use Rattle.bx_overlay.specs.declared.error.AuditError.{AuditError}
use Rattle.bx_overlay.specs.declared.error.AuditError.TheVariants as audits
use Rattle.bx_stops.specs.declared.stop.Stop.{Stop}
use Rattle.bx_stops.specs.declared.stop.Stop.TheVariants as stops

abbrev pub stop_of : LineError → Stop
stop_of Fault = stops.ReadFault
stop_of OutOfMemory = stops.OutOfMemory

abbrev pub stop_of_rack : RackError → Stop
stop_of_rack racks.Fault = stops.DiskFault
stop_of_rack racks.OutOfMemory = stops.OutOfMemory

-- disks that are refused don't hold what was written to them
abbrev pub stop_of_audit : AuditError → Stop
stop_of_audit audits.DiskFault = stops.DiskFault
stop_of_audit (audits.NoLabel disk) = stops.DiskFault
stop_of_audit audits.NoMajority = stops.DiskFault
stop_of_audit (audits.NoSource device) = stops.DiskFault
stop_of_audit (audits.Torn block found wanted) = stops.DiskFault
stop_of_audit audits.OutOfMemory = stops.OutOfMemory
