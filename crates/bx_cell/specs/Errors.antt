-- What a rack's errors are as those of a cell.
use Rattle.bx_disk.specs.declared.fault.RackError.{RackError}
use Rattle.bx_disk.specs.declared.fault.RackError.TheVariants.{Fault, OutOfMemory as RackWantsMemory}
use Rattle.bx_cell.specs.declared.error.CellError.{CellError}
use Rattle.bx_cell.specs.declared.error.CellError.TheVariants.{DiskFault, OutOfMemory}

abbrev pub error_of : RackError → CellError
error_of Fault = DiskFault
error_of RackWantsMemory = OutOfMemory
