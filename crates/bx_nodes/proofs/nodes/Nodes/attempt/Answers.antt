use Rattle.std.proofs.Common.{◌≡◌, ◌∙◌, All, List, Option, Some, IfSome, refl, sym, ap, subst}
use Rattle.std.specs.Prelude.{slice_get, slice_set}
use Rattle.std.proofs.lemmas.Option.{slice_get-get_or}
use Rattle.bx_node_machines.proofs.Showing.{sees_truth}
use Rattle.bx_node_cache.specs.Kept.{held_in, hint_in}
use Rattle.bx_node_tries.specs.Tries.{AllGo, AreNeeded, IsToBegin, MayWait}
use Rattle.bx_node_tries.specs.declared.round.Waiting.{Waiting}
use Rattle.bx_nodes.specs.Going.{Settle}
use Rattle.bx_node_steps.specs.Seen.{seen, view_of}
use Rattle.bx_nodes.specs.declared.answers.Attempted.{Attempted}
use Rattle.bx_node_steps.specs.declared.machine.Machine.{Machine}
use Rattle.bx_nodes.proofs.Answered.{turned}
use Rattle.bx_nodes.proofs.Machines.{if_some, put_there, seen_same, seen_there, set_here, set_length, set_there, was_there}
use Rattle.bx_nodes.proofs.nodes.Nodes.attempt.Goals as goal

pub returns : goal.returns
returns g c =
    let items = c.args.self.now.machines.items in
    let node = c.args.node in
    let before = c.index_mut-machine.result.now in
    let was : slice_get items node ≡ Some before = slice_get-get_or items node before c.requires.there ∙ ap (λ (m : Machine). Some m) (sym c.index_mut-machine.ensures.value) in
    let round = c.in_ok-round.round in
    let after : Machine = record before { calls = round.waiting } in
    let attempted : Attempted = record { said = round.said; begun = round.begun; needs = round.needs } in
    let e = g.E.Engine in
    let engine = c.args.self.now.engine in
    record {
      stands = λ x letters clocks course tree session up stands own lives mine.
          let is_mine : before.session ≡ Some session = subst (λ (m : Option Machine). IfSome m (λ machine. machine.session ≡ Some session)) was mine in
          let sees = sees_truth g.G.Register g.O.Owners g.S.Store (e.stands engine) (e.step engine) c.args.self.now.register c.args.self.now.owners c.args.self.now.store x letters clocks (seen items) course tree node session (view_of before)
          stands up own lives (seen_there items node before was) is_mine in
          turned g.G.Register g.O.Owners g.S.Store (e.stands engine) (e.step engine) c.args.self.now.register c.args.self.now.owners c.args.self.now.store x letters clocks (seen items) (seen (slice_set items node after))
          course tree (e.free engine course.truth) round.said.items (seen_same items node before after was refl) stands (c.in_ok-round.ensures.led course.truth tree sees.0.is_truth sees.1);
      goes = let went = c.in_ok-round.ensures.goes in
          subst (λ (m : Option Machine). Settle c.args.newest c.args.moment m (slice_get (slice_set items node after) node) attempted) (sym was)
          (subst (λ (m : Option Machine). Settle c.args.newest c.args.moment (Some before) m attempted) (sym (set_here items node after before was))
          (record { first = went.0; none = went.1; go = subst (λ (l : List Waiting). AllGo c.args.newest c.args.moment l went.0 round) (ap (λ v. v.items) c.replace-calls.ensures.value) went.2 }));
      needs = put_there (λ (machine : Machine). All (AreNeeded e engine (held_in machine.cache.kept) (hint_in machine.cache.hinted) c.args.moment machine.calls.items) round.needs.items) items node after before was c.in_ok-round.ensures.needs;
      waits = λ none. put_there (λ (machine : Machine). All (MayWait e engine (held_in machine.cache.kept) (hint_in machine.cache.hinted) c.args.moment c.args.newest c.args.may_begin round.needs.items) machine.calls.items) items node after before was (c.in_ok-round.ensures.waits none);
      may = λ may. c.in_ok-round.ensures.may may;
      begun = if_some round.begun _ _
          (λ begun is. put_there (λ (machine : Machine). IsToBegin e engine (held_in machine.cache.kept) (hint_in machine.cache.hinted) c.args.moment begun) items node after before was is)
          c.in_ok-round.ensures.begun;
      only = was_there (λ (old : Machine). IfSome (slice_get (slice_set items node after) node) (λ new. new ≡ record old { calls = new.calls })) (slice_get items node) before was
          (put_there (λ (new : Machine). new ≡ record before { calls = new.calls }) items node after before was refl);
      parts = (refl, refl, refl, refl);
      others = record { others = λ other ne. set_there items node other after ne };
      count = set_length items node after;
    }
