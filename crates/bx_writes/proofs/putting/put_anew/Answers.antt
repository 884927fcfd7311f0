use Rattle.std.proofs.Common.{ℕ, List, Ok, Err, None, length, arith, ap, subst, sym}
use Rattle.bx_blink.specs.Walks.{reads_with}
use Rattle.bx_leaves.proofs.Fair.{put_held}
use Rattle.bx_leaves.specs.Changes.{NeedsUnheld}
use Rattle.bx_leaves.specs.Leaves.{InsertsAt, OnLeafPath}
use Rattle.bx_entries.specs.bx_making.proofs.Steps.{taken_held}
use Rattle.bx_entries.specs.bx_ready.proofs.Lengths.{one_more, put_more, taken_more}
use Rattle.bx_records.specs.Drafts.{Changed}
use Rattle.bx_truth.specs.Chunks.{block_at}
use Rattle.bx_truth.specs.Keys.{content_key, content_value}
use Rattle.bx_views.specs.Attempts.{IsHeldDraft}
use Rattle.bx_writes.proofs.Anew.{made_anew}
use Rattle.bx_chunks.specs.Allocating.{AllocatesAt}
use Rattle.bx_writes.specs.Laid.{NoneLeft, anew}
use Rattle.bx_writes.proofs.Entries.{entry_full, entry_needs, slot_full, slot_needs}
use Rattle.bx_writes.proofs.PutStops.{chunks_stop, never_first, tree_stops}
use Rattle.bx_writes.specs.Bytes.{IsPayload}
use Rattle.bx_writes.proofs.putting.put_anew.Goals as goal

pub returns-in-Err-clause-step : goal.returns-in-Err-clause-step
returns-in-Err-clause-step g c = λ truth tree handle file pages inode base place part rest taken m root_is.
    chunks_stop c.args.near.1 c.args.near.0 (g.V.View.held c.args.view.now) (g.V.View.hints c.args.view.now) truth tree handle file pages inode base c.args.index place part rest taken c.args.draft c.args.payload m
    c.allocate.new.draft c.in-Err.error c.of_chunks.result c.requires.room c.in-Err.ensures.at c.of_chunks.ensures

pub with_piece-requires-clause-room : goal.with_piece-requires-clause-room
with_piece-requires-clause-room g c =
    let more = taken_more (g.V.View.held c.args.view.now) c.args.draft c.allocate.new.draft c.args.near.0 c.args.near.1 c.in-Ok.names c.in-Ok.ensures.at in
    let room = c.requires.room in
    omega (arith, more, room)

pub returns-in-Err-insert-clause-step : goal.returns-in-Err-insert-clause-step
returns-in-Err-insert-clause-step g c = λ truth tree handle file pages inode base place part rest taken m root_is.
    let held = g.V.View.held c.args.view.now in
    let hints = g.V.View.hints c.args.view.now in
    let p = c.in-Ok-with_piece.ensures in
    let more = taken_more held c.args.draft c.allocate.new.draft c.args.near.0 c.args.near.1 c.in-Ok.names c.in-Ok.ensures.at in
    let one = one_more c.allocate.new.draft (block_at c.in-Ok.names) p.block in
    let same = ap (λ (d : List Changed). length d) p.put in
    let room = c.requires.room in
    tree_stops c.args.near.1 c.args.near.0 held hints truth tree handle file pages inode base c.args.index place part rest taken c.args.draft c.args.payload m
    c.allocate.new.draft c.in-Ok-with_piece.new c.in-Ok.names c.in-Ok.ensures.at p c.insert.new.draft c.in-Err-insert.error c.of_tree.result c.requires.room (omega (arith, more, one, same, room))
    (subst (λ (r : ℕ). InsertsAt held hints c.in-Ok-with_piece.new c.insert.new.draft r (content_key c.args.index) (content_value c.in-Ok.names) (Err c.in-Err-insert.error)) (sym root_is)
    (subst (λ (v : List ℕ). InsertsAt held hints c.in-Ok-with_piece.new c.insert.new.draft c.args.root (content_key c.args.index) v (Err c.in-Err-insert.error)) c.to_be_bytes.ensures
    (subst (λ (k : List ℕ). InsertsAt held hints c.in-Ok-with_piece.new c.insert.new.draft c.args.root k c.to_be_bytes.result (Err c.in-Err-insert.error)) c.content_key.ensures c.in-Err-insert.ensures.ends)))
    (subst (λ (r : ℕ). NeedsUnheld {X = Unit {0}} held (OnLeafPath (reads_with held hints c.in-Ok-with_piece.new) r (content_key c.args.index)) (Err c.in-Err-insert.error)) (sym root_is)
    (subst (λ (k : List ℕ). NeedsUnheld {X = Unit {0}} held (OnLeafPath (reads_with held hints c.in-Ok-with_piece.new) c.args.root k) (Err c.in-Err-insert.error)) c.content_key.ensures c.in-Err-insert.ensures.fair))
    c.of_tree.ensures

pub returns-in-Err-clause-need : goal.returns-in-Err-clause-need
returns-in-Err-clause-need g c = λ handle laid.
    slot_needs (g.V.View.held c.args.view.now) (g.V.View.hints c.args.view.now) c.args.near.0 c.args.near.1 handle c.args.root c.args.index c.args.draft laid c.in-Err.error c.of_chunks.result c.in-Err.ensures.fair
    (subst (λ (d : List Changed). AllocatesAt (g.V.View.held c.args.view.now) c.args.draft d c.args.near.0 c.args.near.1 (Err c.in-Err.error)) c.in-Err.ensures.err c.in-Err.ensures.at) c.of_chunks.ensures

pub returns-in-Err-clause-full : goal.returns-in-Err-clause-full
returns-in-Err-clause-full g c = λ handle laid.
    slot_full (g.V.View.held c.args.view.now) (g.V.View.hints c.args.view.now) c.args.near.0 c.args.near.1 handle c.args.root c.args.index c.args.draft laid c.in-Err.error c.of_chunks.result
    (subst (λ (d : List Changed). AllocatesAt (g.V.View.held c.args.view.now) c.args.draft d c.args.near.0 c.args.near.1 (Err c.in-Err.error)) c.in-Err.ensures.err c.in-Err.ensures.at) c.of_chunks.ensures

pub returns-in-Err-insert-clause-need : goal.returns-in-Err-insert-clause-need
returns-in-Err-insert-clause-need g c = λ handle laid.
    entry_needs (g.V.View.held c.args.view.now) (g.V.View.hints c.args.view.now) c.args.near.0 c.args.near.1 handle c.args.root c.args.index c.args.draft laid c.in-Ok-with_piece.new c.in-Ok.names c.content_key.result c.content_key.ensures
    (record { one = c.allocate.new.draft; takes = c.in-Ok.ensures.at; payload = c.args.payload; puts = c.in-Ok-with_piece.ensures }) c.in-Err-insert.error c.of_tree.result c.in-Err-insert.ensures.fair c.of_tree.ensures

pub returns-in-Err-insert-clause-full : goal.returns-in-Err-insert-clause-full
returns-in-Err-insert-clause-full g c = λ handle laid.
    entry_full (g.V.View.held c.args.view.now) (g.V.View.hints c.args.view.now) c.args.near.1 c.in-Ok-with_piece.new c.insert.new.draft c.args.root c.content_key.result c.to_be_bytes.result (NoneLeft (g.V.View.held c.args.view.now) (g.V.View.hints c.args.view.now) c.args.near.0 c.args.near.1 handle c.args.root) c.in-Err-insert.error c.of_tree.result
    c.in-Err-insert.ensures.ends c.of_tree.ensures

pub returns-in-Ok-insert-clause-laid : goal.returns-in-Ok-insert-clause-laid
returns-in-Ok-insert-clause-laid g c = λ handle laid.
    anew c.args.draft c.in-Ok-with_piece.new c.insert.new.draft c.args.index c.in-Ok.names laid
    (record { one = c.allocate.new.draft; takes = c.in-Ok.ensures.at; payload = c.args.payload; puts = c.in-Ok-with_piece.ensures })
    (rw (c.content_key.ensures, c.to_be_bytes.ensures) at c.in-Ok-insert.ensures.ends)

pub returns-in-Err-insert-clause-inner : goal.returns-in-Err-insert-clause-inner
returns-in-Err-insert-clause-inner g c = never_first c.args.near.1 c.in-Err-insert.error c.of_tree.result c.of_tree.ensures

pub returns-in-Ok-insert-clause-step : goal.returns-in-Ok-insert-clause-step
returns-in-Ok-insert-clause-step g c = λ truth tree handle file pages inode base place part rest taken m root_is.
    let held = g.V.View.held c.args.view.now in
    let hints = g.V.View.hints c.args.view.now in
    let p = c.in-Ok-with_piece.ensures in
    let fits = m.fits in
    let small = m.small in
    made_anew c.args.near.1 c.args.near.0 held hints truth tree handle file pages inode base c.args.index place part rest taken c.args.draft c.allocate.new.draft c.in-Ok-with_piece.new
    m.handle_is m.few m.same m.fit m.next (omega (arith, fits, small)) m.written c.in-Ok.names p.block m.prepared.none p.header p.kind c.in-Ok.ensures.at p.put c.insert.new.draft
    (subst (λ (r : ℕ). InsertsAt held hints c.in-Ok-with_piece.new c.insert.new.draft r (content_key c.args.index) (content_value c.in-Ok.names) (Ok tt)) (sym root_is)
    (rw (c.content_key.ensures, c.to_be_bytes.ensures) at c.in-Ok-insert.ensures.ends))
    m.small m.low m.long m.short m.fits m.next_is m.some_left (subst (λ (b : List ℕ). IsPayload None place part b) (sym p.payload_is) m.prepared.payload_is)

pub returns-in-Ok-insert-clause-held : goal.returns-in-Ok-insert-clause-held
returns-in-Ok-insert-clause-held g c = λ before.
    let held = g.V.View.held c.args.view.now in
    let p = c.in-Ok-with_piece.ensures in
    c.in-Ok-insert.ensures.held
    (subst (IsHeldDraft held) (sym p.put)
    (put_held held c.allocate.new.draft (block_at c.in-Ok.names) p.block (c.in-Ok.ensures.writes before)
    (taken_held c.args.near.1 c.args.near.0 held c.args.draft c.allocate.new.draft c.in-Ok.names before c.in-Ok.ensures.at).1 p.parts))

pub returns-in-Ok-insert-clause-few : goal.returns-in-Ok-insert-clause-few
returns-in-Ok-insert-clause-few g c =
    let held = g.V.View.held c.args.view.now in
    let p = c.in-Ok-with_piece.ensures in
    let more = taken_more held c.args.draft c.allocate.new.draft c.args.near.0 c.args.near.1 c.in-Ok.names c.in-Ok.ensures.at in
    let one = one_more c.allocate.new.draft (block_at c.in-Ok.names) p.block in
    let same = ap (λ (d : List Changed). length d) p.put in
    let leaf = put_more c.in-Ok-with_piece.new c.insert.new.draft c.in-Ok-insert.ensures.ends.handle _ c.in-Ok-insert.ensures.ends.puts in
    omega (arith, more, one, same, leaf)
