use Rattle.bx_node_openings.proofs.Opens.{OpeningLaws, opens}
use Rattle.bx_node_openings.proofs.laws.what_nodes_begin_with.Goals as goal

pub returns-clause-stands : goal.returns-clause-stands
returns-clause-stands g c = λ x s held truth tree machines more new rests is nothing.
    let laws : OpeningLaws g.O.Owners g.S.Store = record {
      owners_begin = g.met.O.Owners.begins;
      owners_own = g.met.O.Owners.begins_own;
      stores_begin = g.met.S.Store.begins;
      stores_own = g.met.S.Store.begins_own;
      stores_idle = g.met.S.Store.begins_idle;
      stores_stand = g.met.S.Store.begins_standing;
    } in
    opens g.G.Register g.O.Owners g.S.Store (g.E.Engine.stands c.args.engine.now) (g.E.Engine.step c.args.engine.now) laws c.args.register.now c.args.owners.now c.args.store.now
    x machines s held more truth tree new rests is nothing

pub returns-clause-opening : goal.returns-clause-opening
returns-clause-opening g c = g.met.E.Engine.opens c.args.engine.now
