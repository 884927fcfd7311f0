use Rattle.bx_rack_audit.proofs.Refused.{breaks_off, lists, listed_in_state, refused_none, refused_state}
use Rattle.bx_rack_audit.proofs.audits.audit.Goals as goal

pub returns-in-Err-clause-err : goal.returns-in-Err-clause-err
returns-in-Err-clause-err g c = λ tells.
    let x = g.R.Rack.state c.args.rack.now in
    refused_none x c.in-Err.error (c.one_first_label.ensures x.sizes x.reads) (λ made state. c.one_state_is_read.ensures.lack made x.sizes x.reads state) (c.in-Err.ensures.err tells)

pub returns-in-Err-clause-breaks : goal.returns-in-Err-clause-breaks
returns-in-Err-clause-breaks g c = λ tells tree stands.
    let x = g.R.Rack.state c.args.rack.now in
    breaks_off x c.in-Err.error tree stands (refused_none x c.in-Err.error (c.one_first_label.ensures x.sizes x.reads) (λ made state. c.one_state_is_read.ensures.lack made x.sizes x.reads state) (c.in-Err.ensures.err tells))

pub returns-clause-ok : goal.returns-clause-ok
returns-clause-ok g c = λ tells.
    let x = g.R.Rack.state c.args.rack.now in
    listed_in_state x (g.R.Rack.state c.own_state.new.rack) c.in-Ok.state c.in-Ok.ensures.stays (c.in-Ok.ensures.ok tells) c.audit.result (c.audit.ensures.ok (c.in-Ok.ensures.rack.keeps_telling tells))

pub returns-clause-err : goal.returns-clause-err
returns-clause-err g c = λ tells.
    let x = g.R.Rack.state c.args.rack.now in
    refused_state x (g.R.Rack.state c.own_state.new.rack) (c.one_own_state.ensures x.sizes x.reads) c.in-Ok.state c.in-Ok.ensures.stays (c.in-Ok.ensures.ok tells) c.audit.result (c.audit.ensures.err (c.in-Ok.ensures.rack.keeps_telling tells))

pub returns-clause-stands : goal.returns-clause-stands
returns-clause-stands g c = λ tells tree stands.
    let x = g.R.Rack.state c.args.rack.now in
    lists x (g.R.Rack.state c.own_state.new.rack) (c.one_own_state.ensures x.sizes x.reads) c.in-Ok.state c.in-Ok.ensures.stays (c.in-Ok.ensures.ok tells) tree stands (c.audit.ensures.stands (c.in-Ok.ensures.rack.keeps_telling tells) tree)

pub returns-clause-breaks : goal.returns-clause-breaks
returns-clause-breaks g c = λ tells tree stands.
    let x = g.R.Rack.state c.args.rack.now in
    lists x (g.R.Rack.state c.own_state.new.rack) (c.one_own_state.ensures x.sizes x.reads) c.in-Ok.state c.in-Ok.ensures.stays (c.in-Ok.ensures.ok tells) tree stands (c.audit.ensures.breaks (c.in-Ok.ensures.rack.keeps_telling tells) tree)
