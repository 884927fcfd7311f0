use Rattle.std.proofs.Common.{◌∙◌, ap, rules}
use Rattle.std.specs.Cmp.{nat_cmp_total}
use Rattle.std.specs.Map.Iter.{deref_pair}
use Rattle.std.proofs.lemmas.Map.Iter.{btree_map_turn, rest_more}
use Rattle.bx_layout.specs.Blocks.{HasParts}
use Rattle.bx_logs.specs.bx_homes.proofs.Sectors.{of_some}
use Rattle.bx_logs.specs.Newest.{newest_at}
use Rattle.bx_places.specs.Places.{IsBlock}
use Rattle.bx_records.specs.Runs.{KindAndRuns}
use Rattle.bx_recover.proofs.Newest.{pushed}
use Rattle.bx_recover.proofs.homes.runs_of.Goals as goal

pub home_of-requires-clause-block : goal.home_of-requires-clause-block
home_of-requires-clause-block c =
    let k = btree_map_turn deref_pair c.loop-at.yielded c.into_iter-at-iterator.result c.loop-at.at-iterator c.next.new.self c.next.result (c.in-Some.at, c.in-Some.block) c.loop-at.yielded_by c.in-Some.is c.next.ensures.steps nat_cmp_total c.args.newest.now (search rules) (search rules) in
    (of_some (λ block. IsBlock c.args.areas c.in-Some.at.now × HasParts block) (newest_at c.args.newest.now c.in-Some.at.now) c.in-Some.block.now k.1 (c.requires.blocks c.in-Some.at.now)).0

pub home_of-requires-clause-parts : goal.home_of-requires-clause-parts
home_of-requires-clause-parts c =
    let k = btree_map_turn deref_pair c.loop-at.yielded c.into_iter-at-iterator.result c.loop-at.at-iterator c.next.new.self c.next.result (c.in-Some.at, c.in-Some.block) c.loop-at.yielded_by c.in-Some.is c.next.ensures.steps nat_cmp_total c.args.newest.now (search rules) (search rules) in
    (of_some (λ block. IsBlock c.args.areas c.in-Some.at.now × HasParts block) (newest_at c.args.newest.now c.in-Some.at.now) c.in-Some.block.now k.1 (c.requires.blocks c.in-Some.at.now)).1

pub loop-at-preserved : goal.loop-at-preserved
loop-at-preserved c =
    let now = c.in_ok-push.ensures.ok in (
      tt,
      tt,
      ap (λ (r : KindAndRuns). r.0) now ∙ c.loop-at.invariant.2,
      pushed c.args.devices c.loop-at.at-iterator c.next.new.self c.args.newest.now.entries (c.in-Some.at.now, c.in-Some.block.now) c.loop-at.runs c.push.new.self c.in_ok-run.run'
          (rest_more deref_pair c.loop-at.at-iterator c.next.new.self c.next.result (c.in-Some.at, c.in-Some.block) c.in-Some.is c.next.ensures.steps)
          c.in_ok-run.ensures now c.loop-at.invariant.3,
    )
