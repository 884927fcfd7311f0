use Rattle.std.proofs.Common.{List, [], Option, sym, subst, Err}
use Rattle.bx_blink.specs.Walks.{reads_with}
use Rattle.bx_chunks.specs.Taking.{NoSlots, TakesSlots}
use Rattle.bx_records.specs.Drafts.{Changed}
use Rattle.bx_posts.specs.bx_splits.specs.Cutting.{IsOwnPage, NeedsForSplit, SplitsAt}
use Rattle.bx_posts.specs.bx_splits.specs.Splits.{SplitsIn, SplitsPage}
use Rattle.bx_blink.specs.Hints.{Under}
use Rattle.bx_ready.specs.Rooms.{FindsFull, LandsFull, LandsRoomy}
use Rattle.bx_ready.proofs.Lacks.{no_room}
use Rattle.bx_ready.proofs.Split.{full_owned, place_of, split_ends, split_error, split_fair, walk_error, walk_fair, walk_full}
use Rattle.bx_ready.proofs.rooms.split_for.Goals as goal

pub returns-in-Err-clause-map : goal.returns-in-Err-clause-map
returns-in-Err-clause-map g c = λ truth tree u.
    walk_error c.args.at.now.areas (g.V.View.held c.args.view.now) (g.V.View.hints c.args.view.now) truth c.args.at.now.root tree c.args.at.now.key.now u c.in-Err.error
    (subst (λ (d : List Changed). FindsFull (reads_with (g.V.View.held c.args.view.now) (g.V.View.hints c.args.view.now) d) c.args.at.now.root c.args.at.now.key.now (Err c.in-Err.error)) c.new-draft.ensures c.in-Err.ensures)

pub returns-in-Err-clause-fair : goal.returns-in-Err-clause-fair
returns-in-Err-clause-fair g c =
    walk_fair c.args.at.now.near c.args.at.now.areas (g.V.View.held c.args.view.now) (g.V.View.hints c.args.view.now) c.args.at.now.root c.args.at.now.key.now (λ at block is. g.met.V.View.shares c.args.view.now at block is) (Option (List Changed)) c.in-Err.error
    (subst (λ (d : List Changed). FindsFull (reads_with (g.V.View.held c.args.view.now) (g.V.View.hints c.args.view.now) d) c.args.at.now.root c.args.at.now.key.now (Err c.in-Err.error)) c.new-draft.ensures c.in-Err.ensures)

pub returns-in-None-clause-map : goal.returns-in-None-clause-map
returns-in-None-clause-map g c = λ truth tree u.
    let f = subst (λ (d : List Changed). LandsRoomy (reads_with (g.V.View.held c.args.view.now) (g.V.View.hints c.args.view.now) d) c.args.at.now.root c.args.at.now.key.now) c.new-draft.ensures (rw c.in-None.is at c.in-Ok.ensures) in record {
      handle = f.handle;
      page = f.page;
      place = place_of c.args.at.now.areas (g.V.View.held c.args.view.now) (g.V.View.hints c.args.view.now) truth c.args.at.now.root tree c.args.at.now.key.now u f.handle f.page f.leaf;
      room = f.room;
    }

pub split-requires : goal.split-requires
split-requires g c =
    let f = subst (λ (d : List Changed). LandsFull (reads_with (g.V.View.held c.args.view.now) (g.V.View.hints c.args.view.now) d) c.args.at.now.root c.args.at.now.key.now c.in-Some.leaf) c.new-draft.ensures (rw c.in-Some.is at c.in-Ok.ensures) in
    λ contents owned. full_owned (g.V.View.held c.args.view.now) (g.V.View.hints c.args.view.now) c.args.at.now.root c.args.at.now.key.now c.in-Some.leaf (λ at block is. g.met.V.View.shares c.args.view.now at block is) f contents
    (subst (λ (d : List Changed). IsOwnPage (reads_with (g.V.View.held c.args.view.now) (g.V.View.hints c.args.view.now) d) c.in-Some.leaf contents) c.new-draft.ensures owned)

pub returns-in-Ok-split-clause-map : goal.returns-in-Ok-split-clause-map
returns-in-Ok-split-clause-map g c = λ truth tree u.
    let f = subst (λ (d : List Changed). LandsFull (reads_with (g.V.View.held c.args.view.now) (g.V.View.hints c.args.view.now) d) c.args.at.now.root c.args.at.now.key.now c.in-Some.leaf) c.new-draft.ensures (rw c.in-Some.is at c.in-Ok.ensures) in
    let place = place_of c.args.at.now.areas (g.V.View.held c.args.view.now) (g.V.View.hints c.args.view.now) truth c.args.at.now.root tree c.args.at.now.key.now u c.in-Some.leaf f.page f.leaf in
    record {
      handle = c.in-Some.leaf;
      page = f.page;
      place = place;
      full = f.full;
      splits = subst (λ (d : List Changed). SplitsPage c.args.at.now.areas (g.V.View.held c.args.view.now) (g.V.View.hints c.args.view.now) truth d c.split.new.draft c.args.at.now.root tree c.in-Some.leaf) c.new-draft.ensures
          (c.in-Ok-split.ensures.map truth tree place.node (subst (λ (d : List Changed). Under c.args.at.now.areas (g.V.View.held c.args.view.now) (g.V.View.hints c.args.view.now) truth d c.args.at.now.root tree) (sym c.new-draft.ensures) u)
          (record { level = 0; within = place.within; there = place.there }) place.handle_is);
    }

pub returns-in-Err-split-clause-map : goal.returns-in-Err-split-clause-map
returns-in-Err-split-clause-map g c = λ truth tree u.
    let f = subst (λ (d : List Changed). LandsFull (reads_with (g.V.View.held c.args.view.now) (g.V.View.hints c.args.view.now) d) c.args.at.now.root c.args.at.now.key.now c.in-Some.leaf) c.new-draft.ensures (rw c.in-Some.is at c.in-Ok.ensures) in
    let place = place_of c.args.at.now.areas (g.V.View.held c.args.view.now) (g.V.View.hints c.args.view.now) truth c.args.at.now.root tree c.args.at.now.key.now u c.in-Some.leaf f.page f.leaf in
    split_error c.args.at.now.areas (g.V.View.held c.args.view.now) (g.V.View.hints c.args.view.now) truth c.args.at.now.root tree c.args.at.now.key.now u c.args.at.now.near c.split.new.draft c.in-Some.leaf c.in-Err-split.error
    (no_room c.args.at.now.areas (g.V.View.held c.args.view.now) (g.V.View.hints c.args.view.now) truth c.args.at.now.root tree c.args.at.now.key.now u c.in-Some.leaf f.page place f.full)
    (subst (λ (d : List Changed). SplitsAt (g.V.View.held c.args.view.now) (g.V.View.hints c.args.view.now) d d c.args.at.now.root c.in-Some.leaf c.args.at.now.near c.args.at.now.areas (Err c.in-Err-split.error)) c.new-draft.ensures c.in-Err-split.ensures.at)
    (subst (λ (d : List Changed). SplitsIn c.args.at.now.areas (g.V.View.held c.args.view.now) (g.V.View.hints c.args.view.now) truth d c.split.new.draft c.args.at.now.root tree c.in-Some.leaf (Err c.in-Err-split.error)) c.new-draft.ensures
    (c.in-Err-split.ensures.map truth tree place.node (subst (λ (d : List Changed). Under c.args.at.now.areas (g.V.View.held c.args.view.now) (g.V.View.hints c.args.view.now) truth d c.args.at.now.root tree) (sym c.new-draft.ensures) u)
    (record { level = 0; within = place.within; there = place.there }) place.handle_is))

pub returns-in-Err-split-clause-fair : goal.returns-in-Err-split-clause-fair
returns-in-Err-split-clause-fair g c =
    let f = subst (λ (d : List Changed). LandsFull (reads_with (g.V.View.held c.args.view.now) (g.V.View.hints c.args.view.now) d) c.args.at.now.root c.args.at.now.key.now c.in-Some.leaf) c.new-draft.ensures (rw c.in-Some.is at c.in-Ok.ensures) in
    split_fair c.args.at.now.near c.args.at.now.areas (g.V.View.held c.args.view.now) (g.V.View.hints c.args.view.now) c.args.at.now.root c.args.at.now.key.now (λ at block is. g.met.V.View.shares c.args.view.now at block is) (Option (List Changed)) c.in-Some.leaf c.in-Err-split.error f
    (subst (λ (d : List Changed). NeedsForSplit (g.V.View.held c.args.view.now) c.args.at.now.near c.args.at.now.areas d c.in-Some.leaf (Err c.in-Err-split.error)) c.new-draft.ensures c.in-Err-split.ensures.fair)

pub returns-in-Err-split-clause-full : goal.returns-in-Err-split-clause-full
returns-in-Err-split-clause-full g c =
    split_ends c.args.at.now.near c.args.at.now.areas (g.V.View.held c.args.view.now) c.in-Some.leaf (Option (List Changed)) c.in-Err-split.error
    (subst (λ (d : List Changed). NeedsForSplit (g.V.View.held c.args.view.now) c.args.at.now.near c.args.at.now.areas d c.in-Some.leaf (Err c.in-Err-split.error)) c.new-draft.ensures c.in-Err-split.ensures.fair)

pub returns-in-Err-clause-full : goal.returns-in-Err-clause-full
returns-in-Err-clause-full g c =
    walk_full (NoSlots (g.V.View.held c.args.view.now) c.args.at.now.near c.args.at.now.areas []) (g.V.View.held c.args.view.now) (g.V.View.hints c.args.view.now) c.args.at.now.root c.args.at.now.key.now (Option (List Changed)) c.in-Err.error
    (subst (λ (d : List Changed). FindsFull (reads_with (g.V.View.held c.args.view.now) (g.V.View.hints c.args.view.now) d) c.args.at.now.root c.args.at.now.key.now (Err c.in-Err.error)) c.new-draft.ensures c.in-Err.ensures)

pub returns-in-Ok-split-clause-taken : goal.returns-in-Ok-split-clause-taken
returns-in-Ok-split-clause-taken g c = subst (λ (d : List Changed). TakesSlots (g.V.View.held c.args.view.now) c.args.at.now.near c.args.at.now.areas d c.split.new.draft) c.new-draft.ensures c.in-Ok-split.ensures.taken
