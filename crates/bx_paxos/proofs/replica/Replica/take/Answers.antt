use Rattle.std.proofs.Common.{length, refl, sym, ap, subst}
use Rattle.bx_calls.specs.Calls.{LeavesOnly}
use Rattle.bx_disk.specs.Disks.{IsImage}
use Rattle.bx_global.specs.Bytes.{IsHeld}
use Rattle.bx_global.specs.declared.state.GlobalState.{GlobalState}
use Rattle.bx_rounds.specs.Steps.{Learns}
use Rattle.bx_paxos.proofs.Halves.{became_place}
use Rattle.bx_paxos.proofs.Replicas.{comes_more, leaves_none, no_cell_takes, replica_faults, replica_moments, replica_takes}
use Rattle.bx_paxos.proofs.Sending.{acceptor_sends, proposer_sends, sends_both}
use Rattle.bx_paxos.proofs.replica.Replica.take.Goals as goal

pub returns-clause-keeps : goal.returns-clause-keeps
returns-clause-keeps g c = λ v past courses tells of has place comes fits turned.
    let a = c.args.self.now.acceptor in
    let b = c.take.new.self in
    let p = c.args.self.now.proposer in
    let did = c.in_ok-take.ensures in
    let halves = c.requires.halves in
    let learned = c.in_ok-learn.ensures.learns in
    let knows = subst (λ (s : GlobalState). Learns p.course s c.learn.new.self.course) c.known.ensures learned.0 in
    replica_takes v (g.R.Rack.state c.args.rack.now) (g.R.Rack.state c.take.new.rack) past a b p c.learn.new.self c.take-2.new.self c.args.input.now courses c.args.out.now c.take.new.out c.take-2.new.out _ of halves
    halves.acceptor did.standing did.stays.0 did.stays.1 did.stays.2 (λ e. ap (λ r. g.R.Rack.state r) e) (did.disks tells).keeps has (did.holds tells has) did.stored comes place did.took
    halves.proposer.actor halves.proposer.actor_fits knows learned.1 (comes_more past a b c.args.input.now c.args.out.now c.take.new.out _ did.took comes) c.in_ok-take-2.ensures.takes turned fits

pub returns-in_err-take-clause-keeps_faulted : goal.returns-in_err-take-clause-keeps_faulted
returns-in_err-take-clause-keeps_faulted g c = λ v past tells of has comes fits fault.
    let a = c.args.self.now.acceptor in
    let b = c.take.new.self in
    let did = c.in_err-take.ensures in
    let halves = c.requires.halves in
    let is_now : IsHeld (length a.first.devices) b.held = subst (λ (s : GlobalState). IsHeld (length s.devices) b.held) did.stays.1 did.standing.held in (
      replica_faults v (g.R.Rack.state c.args.rack.now) (g.R.Rack.state c.take.new.rack) past a b c.args.input.now c.args.out.now fits of.first of.origin halves.low halves.acceptor has is_now comes did.became
          (g.R.Rack.tells c.args.rack.now) tells did.either (λ none. ap (λ r. g.R.Rack.state r) (did.ignores (λ m f brings takes. no_cell_takes a m none takes)).2) did.rack.sizes,
      refl,
    )

pub returns-in_err-take-clause-any_moment : goal.returns-in_err-take-clause-any_moment
returns-in_err-take-clause-any_moment g c = λ v past tells of has comes fits.
    let a = c.args.self.now.acceptor in
    let b = c.take.new.self in
    let did = c.in_err-take.ensures in
    let halves = c.requires.halves in
    let rack = c.args.rack.now in
    let is_now : IsHeld (length a.first.devices) b.held = subst (λ (s : GlobalState). IsHeld (length s.devices) b.held) did.stays.1 did.standing.held in
    replica_moments v (g.R.Rack.state rack) past a b c.args.input.now c.args.out.now (g.R.Rack.moment rack) (g.R.Rack.moment c.take.new.rack) (g.R.Rack.left_since rack) (g.R.Rack.left_since c.take.new.rack) fits of.first of.origin halves.low halves.acceptor has is_now comes did.became
    (g.R.Rack.tells rack) tells did.any_moment
    (λ none. subst (λ r. LeavesOnly (g.R.Rack.moment rack) (g.R.Rack.moment r) (g.R.Rack.left_since rack) (g.R.Rack.left_since r) (IsImage (g.R.Rack.state rack))) (sym (did.ignores (λ m f brings takes. no_cell_takes a m none takes)).2)
    (leaves_none (g.R.Rack.state rack) (g.R.Rack.moment rack) (g.R.Rack.left_since rack) (λ image left. g.met.R.Rack.only_now rack image tells left)))

pub returns-in_err-learn-clause-any_moment : goal.returns-in_err-learn-clause-any_moment
returns-in_err-learn-clause-any_moment g c = λ v past tells of has comes fits.
    let a = c.args.self.now.acceptor in
    let b = c.take.new.self in
    let did = c.in_ok-take.ensures in
    let halves = c.requires.halves in
    let rack = c.args.rack.now in
    let is_now : IsHeld (length a.first.devices) b.held = subst (λ (s : GlobalState). IsHeld (length s.devices) b.held) did.stays.1 did.standing.held in
    replica_moments v (g.R.Rack.state rack) past a b c.args.input.now c.args.out.now (g.R.Rack.moment rack) (g.R.Rack.moment c.take.new.rack) (g.R.Rack.left_since rack) (g.R.Rack.left_since c.take.new.rack) fits of.first of.origin halves.low halves.acceptor has is_now comes did.became
    (g.R.Rack.tells rack) tells did.any_moment
    (λ none. subst (λ r. LeavesOnly (g.R.Rack.moment rack) (g.R.Rack.moment r) (g.R.Rack.left_since rack) (g.R.Rack.left_since r) (IsImage (g.R.Rack.state rack))) (sym (did.ignores (λ m f brings takes. no_cell_takes a m none takes)).2)
    (leaves_none (g.R.Rack.state rack) (g.R.Rack.moment rack) (g.R.Rack.left_since rack) (λ image left. g.met.R.Rack.only_now rack image tells left)))

pub returns-in_err-take-2-clause-any_moment : goal.returns-in_err-take-2-clause-any_moment
returns-in_err-take-2-clause-any_moment g c = λ v past tells of has comes fits.
    let a = c.args.self.now.acceptor in
    let b = c.take.new.self in
    let did = c.in_ok-take.ensures in
    let halves = c.requires.halves in
    let rack = c.args.rack.now in
    let is_now : IsHeld (length a.first.devices) b.held = subst (λ (s : GlobalState). IsHeld (length s.devices) b.held) did.stays.1 did.standing.held in
    replica_moments v (g.R.Rack.state rack) past a b c.args.input.now c.args.out.now (g.R.Rack.moment rack) (g.R.Rack.moment c.take.new.rack) (g.R.Rack.left_since rack) (g.R.Rack.left_since c.take.new.rack) fits of.first of.origin halves.low halves.acceptor has is_now comes did.became
    (g.R.Rack.tells rack) tells did.any_moment
    (λ none. subst (λ r. LeavesOnly (g.R.Rack.moment rack) (g.R.Rack.moment r) (g.R.Rack.left_since rack) (g.R.Rack.left_since r) (IsImage (g.R.Rack.state rack))) (sym (did.ignores (λ m f brings takes. no_cell_takes a m none takes)).2)
    (leaves_none (g.R.Rack.state rack) (g.R.Rack.moment rack) (g.R.Rack.left_since rack) (λ image left. g.met.R.Rack.only_now rack image tells left)))

pub returns-clause-any_moment : goal.returns-clause-any_moment
returns-clause-any_moment g c = λ v past tells of has comes fits.
    let a = c.args.self.now.acceptor in
    let b = c.take.new.self in
    let did = c.in_ok-take.ensures in
    let halves = c.requires.halves in
    let rack = c.args.rack.now in
    let is_now : IsHeld (length a.first.devices) b.held = subst (λ (s : GlobalState). IsHeld (length s.devices) b.held) did.stays.1 did.standing.held in
    replica_moments v (g.R.Rack.state rack) past a b c.args.input.now c.args.out.now (g.R.Rack.moment rack) (g.R.Rack.moment c.take.new.rack) (g.R.Rack.left_since rack) (g.R.Rack.left_since c.take.new.rack) fits of.first of.origin halves.low halves.acceptor has is_now comes did.became
    (g.R.Rack.tells rack) tells did.any_moment
    (λ none. subst (λ r. LeavesOnly (g.R.Rack.moment rack) (g.R.Rack.moment r) (g.R.Rack.left_since rack) (g.R.Rack.left_since r) (IsImage (g.R.Rack.state rack))) (sym (did.ignores (λ m f brings takes. no_cell_takes a m none takes)).2)
    (leaves_none (g.R.Rack.state rack) (g.R.Rack.moment rack) (g.R.Rack.left_since rack) (λ image left. g.met.R.Rack.only_now rack image tells left)))

pub returns-in_err-take-clause-known : goal.returns-in_err-take-clause-known
returns-in_err-take-clause-known g c = λ v past tells of has place comes fits.
    became_place v (g.R.Rack.state c.args.rack.now) past c.args.self.now.acceptor c.take.new.self.held c.args.input.now c.args.out.now fits of.first comes c.take.ensures.became place

pub returns-in_err-learn-clause-known : goal.returns-in_err-learn-clause-known
returns-in_err-learn-clause-known g c = λ v past tells of has place comes fits.
    became_place v (g.R.Rack.state c.args.rack.now) past c.args.self.now.acceptor c.take.new.self.held c.args.input.now c.args.out.now fits of.first comes c.take.ensures.became place

pub returns-in_err-take-2-clause-known : goal.returns-in_err-take-2-clause-known
returns-in_err-take-2-clause-known g c = λ v past tells of has place comes fits.
    became_place v (g.R.Rack.state c.args.rack.now) past c.args.self.now.acceptor c.take.new.self.held c.args.input.now c.args.out.now fits of.first comes c.take.ensures.became place

pub returns-clause-known : goal.returns-clause-known
returns-clause-known g c = λ v past tells of has place comes fits.
    became_place v (g.R.Rack.state c.args.rack.now) past c.args.self.now.acceptor c.take.new.self.held c.args.input.now c.args.out.now fits of.first comes c.take.ensures.became place

pub returns-clause-sent : goal.returns-clause-sent
returns-clause-sent g c =
    sends_both c.args.out.now c.take.new.out c.take-2.new.out
    (acceptor_sends c.args.self.now.acceptor c.args.input.now c.take.new.self c.args.out.now c.take.new.out _ c.in_ok-take.ensures.took)
    (proposer_sends c.learn.new.self c.args.input.now c.take-2.new.self c.take.new.out c.take-2.new.out c.in_ok-take-2.ensures.takes)
