-- A fact for one outcome of a read of a line.
use Rattle.std.specs.Prelude.{Result, Ok, Err}
use Rattle.bx_outside.specs.declared.line_reader.Next.{Next}
use Rattle.bx_outside.specs.declared.line_reader.Next.TheVariants.{Line, End, TooLong}
use Rattle.bx_outside.specs.declared.line_reader.LineError.{LineError}
use Rattle.bx_outside.specs.declared.line_reader.LineError.TheVariants.{Fault, OutOfMemory}

abbrev pub IfLine : Result Next LineError → Type 0 → Type 0
IfLine (Ok Line) P = P
IfLine (Ok End) P = Unit {0}
IfLine (Ok TooLong) P = Unit {0}
IfLine (Err e) P = Unit {0}

abbrev pub IfEnd : Result Next LineError → Type 0 → Type 0
IfEnd (Ok Line) P = Unit {0}
IfEnd (Ok End) P = P
IfEnd (Ok TooLong) P = Unit {0}
IfEnd (Err e) P = Unit {0}

abbrev pub IfTooLong : Result Next LineError → Type 0 → Type 0
IfTooLong (Ok Line) P = Unit {0}
IfTooLong (Ok End) P = Unit {0}
IfTooLong (Ok TooLong) P = P
IfTooLong (Err e) P = Unit {0}

abbrev pub IfFault : Result Next LineError → Type 0 → Type 0
IfFault (Ok next) P = Unit {0}
IfFault (Err Fault) P = P
IfFault (Err OutOfMemory) P = Unit {0}

abbrev pub IfMemory : Result Next LineError → Type 0 → Type 0
IfMemory (Ok next) P = Unit {0}
IfMemory (Err Fault) P = Unit {0}
IfMemory (Err OutOfMemory) P = P
