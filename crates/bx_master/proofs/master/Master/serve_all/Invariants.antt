use Rattle.std.proofs.Common.{drop}
use Rattle.bx_master.proofs.Steps.{IsLeft}
use Rattle.bx_master.proofs.master.Master.serve_all.Given as goal

abbrev pub invariant-loop-want : goal.invariant-loop-want
invariant-loop-want l = IsLeft l.known l.reading l.wants (drop l.want-index l.wants) l.initial.self l.self l.initial.words.items l.words.items
