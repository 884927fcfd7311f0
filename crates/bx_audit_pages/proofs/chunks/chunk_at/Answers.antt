use Rattle.std.proofs.Common.{◌≡◌, ℕ, arith, sym, ap, ◌∙◌, subst}
use Rattle.bx_audit_pages.proofs.Headers.{names_none, still_shows}
use Rattle.bx_places.specs.declared.chunk_handle.ChunkHandle.{ChunkHandle}
use Rattle.bx_places.specs.Handles.{block_of, parts_of}
use Rattle.bx_homes.proofs.Sectors.{of_some, of_none}
use Rattle.bx_layout.specs.declared.block.Block.{Block}
use Rattle.bx_truth.specs.Chunks.{block_at}
use Rattle.bx_audit_pages.proofs.chunks.chunk_at.Goals as goal
use Rattle.bx_audit_pages.proofs.chunks.chunk_at.Goals.{then-handle-eq0-via-then-handle-eq0, then-handle-eq0-via-else-handle-eq0+then-name-areas, then-handle-eq0-via-else-handle-eq0+else-name-areas+then-name-ge-SLOTS}

pub returns-in_err-block-clause-shows : goal.returns-in_err-block-clause-shows
returns-in_err-block-clause-shows g c = λ chunks shows. still_shows _ _ _ _ _ chunks c.block.ensures.keeps_telling c.block.ensures.stays shows

pub returns-in_default-clause-shows : goal.returns-in_default-clause-shows
returns-in_default-clause-shows g c = λ chunks shows. still_shows _ _ _ _ _ chunks c.block.ensures.keeps_telling c.block.ensures.stays shows

pub returns-then-block-handle-clause-shows : goal.returns-then-block-handle-clause-shows
returns-then-block-handle-clause-shows g c = λ chunks shows. still_shows _ _ _ _ _ chunks c.block.ensures.keeps_telling c.block.ensures.stays shows

pub returns-clause-shows : goal.returns-clause-shows
returns-clause-shows g c = λ chunks shows. still_shows _ _ _ _ _ chunks c.block.ensures.keeps_telling c.block.ensures.stays shows

pub returns-then-handle-eq0-clause-torn : goal.returns-then-handle-eq0-clause-torn
returns-then-handle-eq0-clause-torn g c = λ chunks shows. names_none chunks c.args.handle (λ block is.
    let x = shows.each c.args.handle block is in
    let parts : c.of-name.result ≡ parts_of c.args.handle = c.of-name.ensures in
    let area = ap (λ (h : ChunkHandle). h.area) parts in
    let slot = ap (λ (h : ChunkHandle). h.slot) parts in
    elim c.then-handle-eq0.branch [
      | then-handle-eq0-via-then-handle-eq0 w ↦ x.some (omega (arith, w.if-handle-eq0.true))
      | then-handle-eq0-via-else-handle-eq0+then-name-areas w ↦ absurd (omega (arith, w.if-name-areas.true, x.slot.0, area))
      | then-handle-eq0-via-else-handle-eq0+else-name-areas+then-name-ge-SLOTS w ↦ absurd (omega (arith, w.if-name-ge-SLOTS.true, x.slot.1, slot))
    ])

pub returns-in_default-clause-torn : goal.returns-in_default-clause-torn
returns-in_default-clause-torn g c = λ chunks shows. names_none chunks c.args.handle (λ block is.
    let place : c.block-at.result ≡ block_at c.args.handle = c.block-at.ensures ∙ ap block_of c.of-name.ensures in
    of_none c.in_ok-block.field-0 c.in_default.is (c.in_ok-block.ensures.none shows.told) block (subst (λ (n : ℕ). g.B.Blocks.stands c.args.blocks.now n block)
    (sym place) (shows.each c.args.handle block is).there))

pub returns-then-block-handle-clause-torn : goal.returns-then-block-handle-clause-torn
returns-then-block-handle-clause-torn g c = λ chunks shows. names_none chunks c.args.handle (λ block is.
    let x = shows.each c.args.handle block is in
    let place : c.block-at.result ≡ block_at c.args.handle = c.block-at.ensures ∙ ap block_of c.of-name.ensures in
    let here = of_some (g.B.Blocks.stands c.args.blocks.now c.block-at.result) c.in_ok-block.field-0 c.in-Some.block c.in-Some.is (c.in_ok-block.ensures.some shows.told) in
    let there = subst (λ (n : ℕ). g.B.Blocks.stands c.args.blocks.now n block) (sym place) x.there in
    let same = g.met.B.Blocks.one c.args.blocks.now c.block-at.result c.in-Some.block block shows.told here there in
    c.if-block-handle.true (ap (λ (b : Block). b.handle) same ∙ x.header))

pub returns-clause-ok : goal.returns-clause-ok
returns-clause-ok g c = λ chunks shows.
    let place : c.block-at.result ≡ block_at c.args.handle = c.block-at.ensures ∙ ap block_of c.of-name.ensures in
    let parts : c.of-name.result ≡ parts_of c.args.handle = c.of-name.ensures in
    let area = ap (λ (h : ChunkHandle). h.area) parts in
    let slot = ap (λ (h : ChunkHandle). h.slot) parts in
    shows.all c.args.handle c.in-Some.block record {
      slot = (omega (arith, c.if-name-areas.false, area), omega (arith, c.if-name-ge-SLOTS.false, slot));
      some = λ zero. c.if-handle-eq0.false zero;
      there = subst (λ (n : ℕ). g.B.Blocks.stands c.args.blocks.now n c.in-Some.block) place
          (of_some (g.B.Blocks.stands c.args.blocks.now c.block-at.result) c.in_ok-block.field-0 c.in-Some.block c.in-Some.is (c.in_ok-block.ensures.some shows.told));
      header = c.if-block-handle.false;
    }
