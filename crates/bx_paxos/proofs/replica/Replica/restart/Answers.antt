use Rattle.std.proofs.Common.{◌≡◌, ℕ, ◌<◌, List, ◌++◌, ◌∙◌, append-nil, sym, ap, subst}
use Rattle.bx_base.specs.declared.names.Actor.{Actor}
use Rattle.bx_base.specs.declared.names.Actor.TheVariants.{Replica}
use Rattle.bx_facts.specs.Pasts.{register_restarted, register_with}
use Rattle.bx_global.specs.declared.state.GlobalState.{GlobalState}
use Rattle.bx_paxos.specs.Fits.{Fits, going}
use Rattle.bx_post.specs.declared.packets.Letter.{Letter}
use Rattle.bx_proposer.specs.Letters.{asks_of}
use Rattle.bx_rounds.specs.Steps.{Learns}
use Rattle.bx_paxos.proofs.Events.{syncs}
use Rattle.bx_paxos.proofs.Replicas.{knows_first, replica_start_fails, replica_starts, start_moments, started_place}
use Rattle.bx_paxos.proofs.replica.Replica.restart.Goals as goal

pub returns-clause-keeps : goal.returns-clause-keeps
returns-clause-keeps g c = λ v past courses tells of few nodes above fits turned.
    let a = c.args.self.now.acceptor in
    let b = c.restart.new.self in
    let p = c.args.self.now.proposer in
    let did = c.in_ok-restart.ensures in
    let halves = c.requires.halves in
    let again = c.in_ok-restart-2.ensures in
    let learned = c.in_ok-learn.ensures.learns in
    let knows = subst (λ (s : GlobalState). Learns c.restart-2.new.self.course s c.learn.new.self.course) c.known.ensures learned.0 in
    let same : c.restart-2.new.out ≡ c.args.out.now = again.asks ∙ ap (λ (who : Actor). c.args.out.now ++ asks_of who) halves.at ∙ append-nil c.args.out.now in
    subst (λ (l : List Letter). Fits (going v courses) (g.R.Rack.state c.restart.new.rack) (register_with (register_restarted past (Replica a.replica) c.args.boot) l)) (sym same)
    (replica_starts v (g.R.Rack.state c.args.rack.now) (g.R.Rack.state c.restart.new.rack) past a b p c.restart-2.new.self c.learn.new.self c.args.boot courses c.args.out.now of halves did.standing did.stays.0 did.stays.1 did.stays.2
    (did.disks tells).keeps (did.holds tells) (λ none. knows_first a.replica a.first a.origin _ b.held b.cell (did.starts tells) none ∙ sym did.stays.1) few nodes above c.ranges.boot.fits again.restarts knows turned fits)

pub returns-in_err-restart-clause-keeps_faulted : goal.returns-in_err-restart-clause-keeps_faulted
returns-in_err-restart-clause-keeps_faulted g c = λ v past tells above fits fault.
    replica_start_fails v (g.R.Rack.state c.args.rack.now) (g.R.Rack.state c.restart.new.rack) past c.args.self.now.acceptor.replica c.args.boot c.args.out.now (c.in_err-restart.ensures.disks tells).keeps above fits

pub returns-clause-known : goal.returns-clause-known
returns-clause-known g c = λ v past tells of fits.
    let a = c.args.self.now.acceptor in
    let b = c.restart.new.self in
    let did = c.in_ok-restart.ensures in
    let halves = c.requires.halves in
    let x = g.R.Rack.state c.args.rack.now in
    let y = g.R.Rack.state c.restart.new.rack in
    started_place v y (register_with past c.args.out.now) b (syncs v x y (register_with past c.args.out.now) a.replica fits (did.disks tells).keeps) (of.first ∙ sym did.stays.1) (ap v.origins did.stays.0 ∙ of.origin ∙ sym did.stays.2)
    (subst (λ (n : ℕ). n < 3) (sym did.stays.0) halves.low) did.standing (did.holds tells) (λ none. knows_first a.replica a.first a.origin (x.reads a.replica) b.held b.cell (did.starts tells) none ∙ sym did.stays.1)

pub returns-in_err-restart-clause-any_moment : goal.returns-in_err-restart-clause-any_moment
returns-in_err-restart-clause-any_moment g c = λ v past tells fits.
    let rack = c.args.rack.now in
    start_moments v (g.R.Rack.state rack) past c.args.out.now (g.R.Rack.moment rack) (g.R.Rack.moment c.restart.new.rack) (g.R.Rack.left_since rack) (g.R.Rack.left_since c.restart.new.rack) fits (c.in_err-restart.ensures.disks tells).any_moment

pub returns-in_err-restart-2-clause-any_moment : goal.returns-in_err-restart-2-clause-any_moment
returns-in_err-restart-2-clause-any_moment g c = λ v past tells fits.
    let rack = c.args.rack.now in
    start_moments v (g.R.Rack.state rack) past c.args.out.now (g.R.Rack.moment rack) (g.R.Rack.moment c.restart.new.rack) (g.R.Rack.left_since rack) (g.R.Rack.left_since c.restart.new.rack) fits (c.in_ok-restart.ensures.disks tells).any_moment

pub returns-in_err-learn-clause-any_moment : goal.returns-in_err-learn-clause-any_moment
returns-in_err-learn-clause-any_moment g c = λ v past tells fits.
    let rack = c.args.rack.now in
    start_moments v (g.R.Rack.state rack) past c.args.out.now (g.R.Rack.moment rack) (g.R.Rack.moment c.restart.new.rack) (g.R.Rack.left_since rack) (g.R.Rack.left_since c.restart.new.rack) fits (c.in_ok-restart.ensures.disks tells).any_moment

pub returns-clause-any_moment : goal.returns-clause-any_moment
returns-clause-any_moment g c = λ v past tells fits.
    let rack = c.args.rack.now in
    start_moments v (g.R.Rack.state rack) past c.args.out.now (g.R.Rack.moment rack) (g.R.Rack.moment c.restart.new.rack) (g.R.Rack.left_since rack) (g.R.Rack.left_since c.restart.new.rack) fits (c.in_ok-restart.ensures.disks tells).any_moment
