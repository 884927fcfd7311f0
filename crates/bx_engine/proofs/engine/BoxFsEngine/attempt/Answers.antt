use Rattle.bx_chunks.specs.Counting.{free_slots}
use Rattle.bx_engine.proofs.Along.{fair_along}
use Rattle.bx_engine.proofs.Spare.{attempt_tells}
use Rattle.bx_engine.specs.Datagrams.{asks_as, at_once_as, on_path, reading_as}
use Rattle.bx_engine.specs.Paths.{IsOnPath, PathOf}
use Rattle.bx_engine.proofs.First.{first_call, ready_call}
use Rattle.bx_engine.proofs.Fullness.{full_call}
use Rattle.bx_engine.proofs.engine.BoxFsEngine.attempt.Goals as goal

pub returns-clause-gives : goal.returns-clause-gives
returns-clause-gives g c = λ truth tree same s.
    let found = rw c.in-Some.is at c.in_ok-xid.ensures.found in
    c.in_ok-attempt.ensures.gives c.args.client c.args.call.now truth tree found same s

pub returns-clause-spare : goal.returns-clause-spare
returns-clause-spare g c = λ truth tree same s.
    let found = rw c.in-Some.is at c.in_ok-xid.ensures.found in
    let fs = c.args.self.now in
    attempt_tells fs.volume fs.areas (free_slots fs.areas truth) c.args.client c.args.call.now c.args.moment truth tree c.in_ok-attempt.attempt
    (c.in_ok-attempt.ensures.gives c.args.client c.args.call.now truth tree found same s)
    (λ at is. c.in_ok-attempt.ensures.free at truth tree (asks_as c.args.call.now c.in-Some.xid c.in-Some.read found at is) same s.stands)

pub returns-clause-fair : goal.returns-clause-fair
returns-clause-fair g c =
    let found = rw c.in-Some.is at c.in_ok-xid.ensures.found in
    let fs = c.args.self.now in
    fair_along (PathOf (g.V.View.held c.args.view.now) (g.V.View.hints c.args.view.now) fs.volume fs.areas c.in-Some.read.procedure c.in-Some.read.args) (IsOnPath (g.V.View.held c.args.view.now) (g.V.View.hints c.args.view.now) fs.volume fs.areas c.args.call.now) (on_path c.args.call.now c.in-Some.xid c.in-Some.read found (g.V.View.held c.args.view.now) (g.V.View.hints c.args.view.now) fs.volume fs.areas)
    fs.areas (g.V.View.held c.args.view.now) c.in_ok-attempt.attempt c.in_ok-attempt.ensures.fair

pub returns-clause-at_once : goal.returns-clause-at_once
returns-clause-at_once g c = λ once.
    let found = rw c.in-Some.is at c.in_ok-xid.ensures.found in
    c.in_ok-attempt.ensures.at_once (at_once_as c.args.call.now c.in-Some.xid c.in-Some.read found once)

pub returns-clause-keeps : goal.returns-clause-keeps
returns-clause-keeps g c = λ reading.
    let found = rw c.in-Some.is at c.in_ok-xid.ensures.found in
    c.in_ok-attempt.ensures.keeps (reading_as c.args.call.now c.in-Some.xid c.in-Some.read found reading)

pub returns-clause-lacks : goal.returns-clause-lacks
returns-clause-lacks g c = λ truth tree same s.
    let found = rw c.in-Some.is at c.in_ok-xid.ensures.found in
    first_call c.args.self.now.volume c.args.self.now.areas (g.V.View.held c.args.view.now) (g.V.View.hints c.args.view.now) truth tree c.args.call.now c.args.moment c.in-Some.xid c.in-Some.read found c.in_ok-attempt.attempt
    (c.in_ok-attempt.ensures.lacks truth tree same s)

pub returns-clause-ready : goal.returns-clause-ready
returns-clause-ready g c = λ truth tree same s.
    let found = rw c.in-Some.is at c.in_ok-xid.ensures.found in
    ready_call c.args.self.now.volume c.args.self.now.areas truth tree c.args.call.now c.in-Some.xid c.in-Some.read found c.in_ok-attempt.attempt (c.in_ok-attempt.ensures.ready truth tree same s)

pub returns-clause-full : goal.returns-clause-full
returns-clause-full g c = λ other.
    let found = rw c.in-Some.is at c.in_ok-xid.ensures.found in
    let fs = c.args.self.now in
    full_call (g.V.View.held c.args.view.now) (g.V.View.hints c.args.view.now) fs.volume fs.areas c.in-Some.read c.args.call.now c.in-Some.xid found c.in_ok-attempt.attempt
    (c.in_ok-attempt.ensures.full (λ at asks. other (at, record { xid = c.in-Some.xid; call = c.in-Some.read; reads = found; asks = asks })))
