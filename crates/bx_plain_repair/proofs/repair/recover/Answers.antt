use Rattle.std.proofs.Common.{⊎_elim, inl, inr, ℕ, List, Option}
use Rattle.bx_model.specs.declared.tree.Tree.{Tree}
use Rattle.bx_volume.specs.Records.{Logged}
use Rattle.bx_plain_repair.specs.Left.{OpenDoubt, IsLeft}
use Rattle.bx_plain_repair.specs.Resting.{RestsOrActed}
use Rattle.bx_plain_repair.proofs.Results.{on_err, rose_since}
use Rattle.bx_plain_repair.proofs.Sparing.{spares_then}
use Rattle.bx_plain_repair.proofs.repair.recover.Goals as goal

pub returns-in_err-settle_gates-clause-left : goal.returns-in_err-settle_gates-clause-left
returns-in_err-settle_gates-clause-left g c = λ volume tree doubt tells left.
    on_err (IsLeft volume c.args.floor tree doubt (g.R.Rack.state c.settle_gates.new.rack)) c.from_residual.result (c.settle_gates.ensures.left volume c.args.floor tree doubt tells left)

pub returns-clause-recovers : goal.returns-clause-recovers
returns-clause-recovers g c = λ volume tree doubt tells left.
    let came = c.in_ok-settle_gates.ensures.comes volume c.args.floor tree doubt tells left in
    c.go_on.ensures.recovers volume tree doubt came.0 (c.settle_gates.ensures.rack.keeps_telling tells) came.1

pub returns-clause-left : goal.returns-clause-left
returns-clause-left g c = λ volume tree doubt tells left.
    let came = c.in_ok-settle_gates.ensures.comes volume c.args.floor tree doubt tells left in
    c.go_on.ensures.left volume tree doubt came.0 (c.settle_gates.ensures.rack.keeps_telling tells) came.1 (c.settle_gates.ensures.left volume c.args.floor tree doubt tells left)

pub returns-clause-cause : goal.returns-clause-cause
returns-clause-cause g c = λ fault. ⊎_elim
    (λ rose. inl (rose_since (g.R.Rack.faults c.args.rack.now) (g.R.Rack.faults c.settle_gates.new.rack) (g.R.Rack.faults c.go_on.new.rack) c.settle_gates.ensures.rack.later.all rose))
    (λ (none : (volume : ℕ) (tree : Tree) (doubt : Option OpenDoubt) (records : List Logged) → g.R.Rack.tells c.settle_gates.new.rack → RestsOrActed volume c.args.floor tree doubt records (g.R.Rack.state c.settle_gates.new.rack) → ⊥).
    inr (λ volume tree doubt tells left.
    let came = c.in_ok-settle_gates.ensures.comes volume c.args.floor tree doubt tells left in
    none volume tree doubt came.0 (c.settle_gates.ensures.rack.keeps_telling tells) came.1))
    (c.go_on.ensures.cause fault)

-- the other slots and the replicas are left alone
pub returns-in_err-settle_gates-clause-spares : goal.returns-in_err-settle_gates-clause-spares
returns-in_err-settle_gates-clause-spares g c = λ tells. c.settle_gates.ensures.spares tells

pub returns-clause-spares : goal.returns-clause-spares
returns-clause-spares g c = λ tells. spares_then (g.R.Rack.state c.args.rack.now) (g.R.Rack.state c.settle_gates.new.rack) (g.R.Rack.state c.go_on.new.rack) (c.settle_gates.ensures.spares tells) (c.go_on.ensures.spares (c.settle_gates.ensures.rack.keeps_telling tells))
