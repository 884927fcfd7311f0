use Rattle.std.proofs.Common.{◌<◌, Err, rules, subst}
use Rattle.bx_places.specs.declared.chunk_handle.ChunkHandle.{ChunkHandle}
use Rattle.bx_layout.specs.Areas.{MarksDead}
use Rattle.bx_records.specs.Drafts.{with_block}
use Rattle.bx_chunks.specs.bx_truth.specs.Chunks.{own_block}
use Rattle.bx_chunks.specs.Putting.{PutsAs, own_of}
use Rattle.bx_chunks.specs.declared.error.ChunkError.TheVariants.{Stale}
use Rattle.bx_chunks.proofs.HeldDrafts.{marks_held}
use Rattle.bx_chunks.proofs.Marks.{marks_at, marks_in}
use Rattle.bx_marks.proofs.marking.mark_dead.Goals as goal

pub returns-then-parts-ge-SLOTS-clause-at : goal.returns-then-parts-ge-SLOTS-clause-at
returns-then-parts-ge-SLOTS-clause-at g c = search rules

pub returns-then-parts-ge-SLOTS-clause-map : goal.returns-then-parts-ge-SLOTS-clause-map
returns-then-parts-ge-SLOTS-clause-map g c = λ areas truth within same is.
    marks_in areas (g.V.View.held c.args.view.now) truth c.args.draft.now c.args.handle within same is c.args.dead c.args.draft.now (Err Stale) (returns-then-parts-ge-SLOTS-clause-at g c)

pub returns-in_err-slots-clause-at : goal.returns-in_err-slots-clause-at
returns-in_err-slots-clause-at g c = search rules

pub returns-in_err-slots-clause-map : goal.returns-in_err-slots-clause-map
returns-in_err-slots-clause-map g c = λ areas truth within same is.
    marks_in areas (g.V.View.held c.args.view.now) truth c.args.draft.now c.args.handle within same is c.args.dead c.args.draft.now c.from_residual.result (returns-in_err-slots-clause-at g c)

pub returns-clause-at : goal.returns-clause-at
returns-clause-at g c =
    marks_at (g.V.View.held c.args.view.now) c.args.draft.now c.put_area.new.draft c.args.handle c.args.dead
    (record {
      slot = subst (λ (h : ChunkHandle). h.slot < 960) c.of-parts.ensures c.if-parts-ge-SLOTS.false;
      slots = c.in_ok-slots.slots;
      given = c.in_ok-slots.ensures;
      slots_now = c.mark_dead.new.self;
      marks = subst (λ (h : ChunkHandle). MarksDead c.in_ok-slots.slots c.mark_dead.new.self h.slot c.args.dead) c.of-parts.ensures c.mark_dead.ensures.marked;
    })
    c.put_area.result
    (subst (λ (h : ChunkHandle). PutsAs c.put_area.new.draft (with_block c.args.draft.now (own_block h.area) (own_of h.area c.mark_dead.new.self)) c.put_area.result) c.of-parts.ensures c.put_area.ensures.puts)

pub returns-clause-map : goal.returns-clause-map
returns-clause-map g c = λ areas truth within same is.
    marks_in areas (g.V.View.held c.args.view.now) truth c.args.draft.now c.args.handle within same is c.args.dead c.put_area.new.draft c.put_area.result (returns-clause-at g c)

pub returns-clause-writes : goal.returns-clause-writes
returns-clause-writes g c = λ is. marks_held (g.V.View.held c.args.view.now) c.args.draft.now c.put_area.new.draft is c.args.handle c.args.dead c.put_area.result (returns-clause-at g c) c.put_area.ensures.err
