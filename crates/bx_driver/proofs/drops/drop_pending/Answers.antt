use Rattle.std.proofs.Common.{List, ◌≡◌, arith, ap, sym, ◌∙◌}
use Rattle.bx_post.specs.Posts.{Posted, settled_from}
use Rattle.bx_world_events.specs.Refusals.{Seen}
use Rattle.bx_driver.specs.Drops.{dropped}
use Rattle.bx_driver.specs.Lanes.{is_on}
use Rattle.bx_driver.proofs.Dropping.{all_dropped, dropped_more, left_of}
use Rattle.bx_driver.proofs.drops.drop_pending.Goals as goal

pub loop-number-smaller : goal.loop-number-smaller
loop-number-smaller g c =
    let post = (g.C.Shows.seen c.loop-number.cluster).post in
    let less = (dropped_more (is_on c.args.lane.now) 1 c.in-Some.number post (sym c.next.ensures ∙ c.in-Some.is)).1 in
    let after = ap (λ s. left_of (is_on c.args.lane.now) s.post) c.settle.ensures.shows in
    omega (arith, less, after)

pub loop-number-preserved : goal.loop-number-preserved
loop-number-preserved g c =
    let before = g.C.Shows.seen c.args.cluster.now in
    let post = (g.C.Shows.seen c.loop-number.cluster).post in
    let same = (dropped_more (is_on c.args.lane.now) 1 c.in-Some.number post (sym c.next.ensures ∙ c.in-Some.is)).0 in
    let gone : (g.C.Shows.seen c.settle.new.self).post ≡ settled_from 1 c.in-Some.number post = ap (λ s. s.post) c.settle.ensures.shows in
    record {
      shows = c.settle.ensures.shows ∙ ap (λ (s : Seen). record s { post = settled_from 1 c.in-Some.number post }) c.loop-number.invariant.shows ∙ ap (λ (p : List Posted). record before { post = p }) (sym gone);
      post = ap (dropped c.args.lane.now) gone ∙ same ∙ c.loop-number.invariant.post;
      at = λ x tree parts led. c.settle.ensures.at x tree parts (c.loop-number.invariant.at x tree parts led);
      room = λ sizes room. c.settle.ensures.room sizes (c.loop-number.invariant.room sizes room);
      events = c.settle.ensures.events ∙ c.loop-number.invariant.events;
    }

pub returns-clause-shows : goal.returns-clause-shows
returns-clause-shows g c =
    let before = g.C.Shows.seen c.args.cluster.now in
    let post = (g.C.Shows.seen c.loop-number.cluster).post in
    let none = all_dropped (is_on c.args.lane.now) 1 post (sym c.next.ensures ∙ c.in_default.is) in
    c.loop-number.invariant.shows ∙ ap (λ (p : List Posted). record before { post = p }) (sym none ∙ c.loop-number.invariant.post)
