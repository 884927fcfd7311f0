use Rattle.std.proofs.Common.{ℕ, List, Option, Some, length, arith, ap, subst, sym}
use Rattle.bx_leaves.proofs.Fair.{put_held}
use Rattle.bx_entries.specs.bx_ready.proofs.Lengths.{one_more}
use Rattle.bx_records.specs.Drafts.{Changed}
use Rattle.bx_truth.specs.Chunks.{block_at}
use Rattle.bx_views.specs.Attempts.{IsHeldDraft}
use Rattle.bx_entries.proofs.Lacks.{full_if}
use Rattle.bx_writes.specs.Laid.{FoundBy}
use Rattle.bx_writes.proofs.Entries.{over_laid}
use Rattle.bx_writes.proofs.InPlace.{in_place}
use Rattle.bx_writes.specs.Bytes.{IsPayload}
use Rattle.bx_writes.specs.Steps.{HoldsPrepared, IsPrepared, MayPut}
use Rattle.bx_writes.proofs.putting.put_piece.Goals as goal

pub returns-in-Ok-clause-step : goal.returns-in-Ok-clause-step
returns-in-Ok-clause-step g c = λ truth tree handle file pages inode base place part rest taken m root_is.
    let held = g.V.View.held c.args.view.now in
    let p = c.in-Ok.ensures in
    let fits = m.fits in
    let small = m.small in
    let f = subst (λ (o : Option ℕ). IsPrepared c.args.near.1 truth pages c.args.index place part o c.args.prepared.1) c.in-Some-default.is-0 m.prepared in
    in_place c.args.near.1 held truth tree handle file pages inode base c.args.index place part rest taken c.args.draft c.in-Ok.new
    m.handle_is m.few m.same m.small m.low m.long m.short m.fits m.next m.next_is (omega (arith, fits, small)) m.written c.in-Some-default.names f.value f.was p.block f.is f.names_is f.there p.header p.kind
    (subst (λ (b : List ℕ). IsPayload (Some f.was) place part b) (sym p.payload_is) f.payload_is) p.put

pub returns-in-Ok-clause-held : goal.returns-in-Ok-clause-held
returns-in-Ok-clause-held g c = λ before there.
    let held = g.V.View.held c.args.view.now in
    let p = c.in-Ok.ensures in
    subst (IsHeldDraft held) (sym p.put) (put_held held c.args.draft (block_at c.in-Some-default.names) p.block before (subst (HoldsPrepared held) c.in-Some-default.is-0 there) p.parts)

pub returns-in-Ok-clause-few : goal.returns-in-Ok-clause-few
returns-in-Ok-clause-few g c =
    let p = c.in-Ok.ensures in
    let one = one_more c.args.draft (block_at c.in-Some-default.names) p.block in
    let same = ap (λ (d : List Changed). length d) p.put in
    omega (arith, one, same)

pub returns-in-None-default-clause-step : goal.returns-in-None-default-clause-step
returns-in-None-default-clause-step g c = λ truth tree handle file pages inode base place part rest taken m root_is.
    c.put_anew.ensures.step truth tree handle file pages inode base place part rest taken
    (subst (λ (o : Option ℕ). MayPut c.args.near.1 (g.V.View.held c.args.view.now) (g.V.View.hints c.args.view.now) truth tree handle file pages inode base c.args.index place part rest taken c.args.draft o c.args.prepared.1) c.in-None-default.is-0 m)
    root_is

pub returns-in-Ok-clause-laid : goal.returns-in-Ok-clause-laid
returns-in-Ok-clause-laid g c = λ handle found laid.
    over_laid (g.V.View.held c.args.view.now) (g.V.View.hints c.args.view.now) c.args.near.0 c.args.near.1 handle c.args.root c.args.index c.args.draft laid c.in-Ok.new c.in-Some-default.names _ c.args.prepared.0 c.in-Some-default.is-0 found c.in-Ok.ensures

pub returns-in-None-default-clause-need : goal.returns-in-None-default-clause-need
returns-in-None-default-clause-need g c = λ handle laid. c.put_anew.ensures.need handle laid

pub returns-in-None-default-clause-full : goal.returns-in-None-default-clause-full
returns-in-None-default-clause-full g c = λ handle found laid.
    full_if (λ spare none. (subst (λ (o : Option ℕ). FoundBy (g.V.View.held c.args.view.now) (g.V.View.hints c.args.view.now) c.args.root c.args.index o) c.in-None-default.is-0 found, none)) c.put_anew.result (c.put_anew.ensures.full handle laid)

pub returns-in-None-default-clause-laid : goal.returns-in-None-default-clause-laid
returns-in-None-default-clause-laid g c = λ handle found laid. c.put_anew.ensures.laid handle laid
