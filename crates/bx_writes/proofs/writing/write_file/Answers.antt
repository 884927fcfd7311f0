use Rattle.std.specs.Prelude.{max}
use Rattle.bx_layout.specs.declared.inode.Inode.{Inode}
use Rattle.bx_tree_files.specs.Contents.{sized}
use Rattle.bx_inodes.specs.Inodes.{shown_size}
use Rattle.bx_model.specs.declared.reply.Reply.TheVariants.{Attributes}
use Rattle.bx_tree_files.specs.Attributes.{attributes_of}
use Rattle.bx_tree_files.specs.declared.file.File.{File}
use Rattle.bx_tree_files.specs.Files.{size_of}
use Rattle.bx_truth.specs.Stored.{HasFields}
use Rattle.bx_writes.specs.Steps.{IsRegularOf}
use Rattle.bx_writes.specs.Written.{IsWritten}
use Rattle.bx_writes.specs.Grown.{grown}
use Rattle.bx_writes.specs.Laying.{GrowsTo, pieces_of}
use Rattle.std.proofs.Common.{◌≡◌, ◌∙◌, ◌+◌, ◌*◌, ◌/◌, ◌%◌, ◌<◌, ◌^◌, ℕ, List, true, Err, length, arith, ap, subst, sym, inl, inr}
use Rattle.bx_changes.specs.Changes.{Changes}
use Rattle.bx_inodes.specs.Fitting.{HintsFitAll}
use Rattle.bx_model.specs.Writing.{write}
use Rattle.bx_records.specs.Drafts.{Changed}
use Rattle.bx_sizes.proofs.First.{behind_end, never_stops}
use Rattle.bx_sizes.proofs.Resized.{leaves_trees, regular_bytes}
use Rattle.bx_sizes.specs.Lengths.{grows_over}
use Rattle.bx_views.specs.Truths.{with_draft}
use Rattle.bx_entries.proofs.Lacks.{first_so, so_ok}
use Rattle.bx_writes.proofs.First.{first_by, ready_to_lay, told_first, value_first}
use Rattle.bx_writes.proofs.Laid.{none_of, some_of}
use Rattle.bx_writes.specs.Lacking.{FindEntries, MakesEntries, PreparesWritten, ReadyToLay}
use Rattle.bx_writes.proofs.Near.{lays_nothing, lays_some, told_none, told_so}
use Rattle.bx_writes.specs.Laid.{IsLaid}
use Rattle.bx_writes.specs.Near.{LaysNear, ReadiesNear}
use Rattle.bx_places.specs.Handles.{parts_of}
use Rattle.bx_writes.proofs.Wrote.{accepted, bytes as file_bytes, clear_stops, full, grows, kind_is, lay_stops, nothing, told_changes, told_hints, wrote}
use Rattle.bx_writes.proofs.writing.write_file.Goals as goal

pub returns-then-is_empty-clause-step : goal.returns-then-is_empty-clause-step
returns-then-is_empty-clause-step g c = λ truth tree bytes few same s fit f is.
    let call = c.args.call.now in
    let written = c.args.written.now in
    let fine = rw c.in-Ok-None.field-0-is at c.in-Ok-None.ensures.error in
    told_changes c.args.volume.0 c.args.volume.1 truth (write tree call bytes c.args.offset written c.args.now) c.args.file.0 c.args.file.1 c.new.result c.told.result c.told.ensures
    (λ reply tells. subst (λ (d : List Changed). Changes c.args.volume.0 c.args.volume.1 truth (write tree call bytes c.args.offset written c.args.now 8) d reply) (sym c.new.ensures)
    (nothing c.args.volume.0 c.args.volume.1 (g.V.View.held c.args.view.now) (g.V.View.hints c.args.view.now) truth tree bytes call c.args.offset written c.args.now c.args.file.0 c.args.file.1 s f is reply
    (none_of (length written) c.if-is_empty.ensures) fine tells))

pub returns-then-is_empty-clause-hints : goal.returns-then-is_empty-clause-hints
returns-then-is_empty-clause-hints g c = λ hints truth tree few same s fit f all.
    told_hints c.args.volume.0 c.args.volume.1 hints truth c.args.file.0 c.args.file.1 c.new.result c.told.result c.told.ensures (subst (λ (d : List Changed). HintsFitAll c.args.volume.1 hints (with_draft truth d)) (sym c.new.ensures) all)

pub returns-in-Err-clear-clause-step : goal.returns-in-Err-clear-clause-step
returns-in-Err-clear-clause-step g c = λ truth tree bytes few same s fit f is.
    let fine = rw c.in-Ok-None.field-0-is at c.in-Ok-None.ensures.error in
    let kind = kind_is c.args.call.now c.args.offset (length c.args.written.now) c.args.file.0 c.args.file.1 c.requires.inode.kind c.requires.live fine in
    let b = regular_bytes c.args.volume.1 truth tree c.args.file.0 f.file c.args.file.1 s.is f.holds f.there kind in
    clear_stops c.args.volume.0 c.args.volume.1 truth (write tree c.args.call.now bytes c.args.offset c.args.written.now c.args.now) tree c.in-Err-clear.stop
    (c.in-Err-clear.ensures.tree truth tree f.file b.0 few same s.is fit f.holds f.there b.1)

pub returns-in-Ok-clause-step : goal.returns-in-Ok-clause-step
returns-in-Ok-clause-step g c = λ truth tree bytes few same s fit f is.
    let fine = rw c.in-Ok-None.field-0-is at c.in-Ok-None.ensures.error in
    let kind = kind_is c.args.call.now c.args.offset (length c.args.written.now) c.args.file.0 c.args.file.1 c.requires.inode.kind c.requires.live fine in
    leaves_trees c.args.volume.1 truth tree c.args.file.0 f.file c.args.file.1 c.in-Ok.draft s.is f.holds f.there kind (λ was of bs st there body. c.in-Ok.ensures.tree truth was of bs few same st fit f.holds there body)

pub returns-in-Err-lay-clause-step : goal.returns-in-Err-lay-clause-step
returns-in-Err-lay-clause-step g c = λ truth tree bytes few same s fit f is.
    let held = g.V.View.held c.args.view.now in
    let hints = g.V.View.hints c.args.view.now in
    let written = c.args.written.now in
    let offset = c.args.offset in
    let handle = c.args.file.0 in
    let inode = c.args.file.1 in
    let fine = rw c.in-Ok-None.field-0-is at c.in-Ok-None.ensures.error in
    let kind = kind_is c.args.call.now offset (length written) handle inode c.requires.inode.kind c.requires.live fine in
    let some = some_of (length written) c.if-is_empty.ensures in
    let fits = (rw c.in-Ok-None.field-0-is at c.in-Ok-None.ensures.fits) some in
    let clear = ap (λ (n : ℕ). grows_over inode (n + length written)) (sym c.from.ensures) ∙ sym c.grows_over.ensures ∙ c.if-grows_over.false in
    let grown_is : c.grown-changed.result ≡ grown (offset + length written) c.args.now inode = c.grown-changed.ensures.is ∙ ap (λ (n : ℕ). grown (n + length written) c.args.now inode) c.from.ensures in
    let r : IsRegularOf c.args.volume.0 c.args.volume.1 held hints truth tree handle inode = record { few = few; same = same; stands = s; fit = fit; at = f; kind = kind } in
    let base = sized (max inode.size (offset + length written)) (file_bytes c.args.volume.0 c.args.volume.1 held hints truth tree offset written c.args.now handle inode s f few same fit kind some fits clear).0 in
    let file = record f.file { mtime = c.args.now; ctime = c.args.now } in
    let grows_so = subst (λ (i : Inode). GrowsTo f.file inode i file base) (sym grown_is) (grows c.args.volume.0 c.args.volume.1 held hints truth tree offset written c.args.now handle inode s f few same fit kind some fits clear) in
    let size = ap (λ (i : Inode). i.size) grown_is in
    lay_stops c.args.volume.0 c.args.volume.1 truth (write tree c.args.call.now bytes offset written c.args.now) held tree handle file (s.is.stored handle).tree c.grown-changed.result base
    (4096 * (offset / 4096) + offset % 4096) written (offset / 4096) (pieces_of (offset % 4096) written) c.in-Err-lay.error
    (λ spare less. full c.args.volume.0 c.args.volume.1 held hints truth tree bytes c.args.call.now offset written c.args.now handle inode s f is spare fine some less)
    (c.in-Err-lay.ensures.step c.args.volume.0 truth tree inode file base r grows_so (λ more. omega (arith, size)))

pub returns-clause-step : goal.returns-clause-step
returns-clause-step g c = λ truth tree bytes few same s fit f is.
    let held = g.V.View.held c.args.view.now in
    let hints = g.V.View.hints c.args.view.now in
    let written = c.args.written.now in
    let offset = c.args.offset in
    let handle = c.args.file.0 in
    let inode = c.args.file.1 in
    let fine = rw c.in-Ok-None.field-0-is at c.in-Ok-None.ensures.error in
    let kind = kind_is c.args.call.now offset (length written) handle inode c.requires.inode.kind c.requires.live fine in
    let some = some_of (length written) c.if-is_empty.ensures in
    let fits = (rw c.in-Ok-None.field-0-is at c.in-Ok-None.ensures.fits) some in
    let clear = ap (λ (n : ℕ). grows_over inode (n + length written)) (sym c.from.ensures) ∙ sym c.grows_over.ensures ∙ c.if-grows_over.false in
    let grown_is : c.grown-changed.result ≡ grown (offset + length written) c.args.now inode = c.grown-changed.ensures.is ∙ ap (λ (n : ℕ). grown (n + length written) c.args.now inode) c.from.ensures in
    let r : IsRegularOf c.args.volume.0 c.args.volume.1 held hints truth tree handle inode = record { few = few; same = same; stands = s; fit = fit; at = f; kind = kind } in
    let base = sized (max inode.size (offset + length written)) (file_bytes c.args.volume.0 c.args.volume.1 held hints truth tree offset written c.args.now handle inode s f few same fit kind some fits clear).0 in
    let file = record f.file { mtime = c.args.now; ctime = c.args.now } in
    let grows_so = subst (λ (i : Inode). GrowsTo f.file inode i file base) (sym grown_is) (grows c.args.volume.0 c.args.volume.1 held hints truth tree offset written c.args.now handle inode s f few same fit kind some fits clear) in
    let size = ap (λ (i : Inode). i.size) grown_is in
    let w = subst (λ (i : Inode). IsWritten c.args.volume.1 held truth tree handle file (s.is.stored handle).tree i base (4096 * (offset / 4096) + offset % 4096) written (offset / 4096) (pieces_of (offset % 4096) written) c.in-Ok-lay.draft) grown_is
    (c.in-Ok-lay.ensures.step c.args.volume.0 truth tree inode file base r grows_so (λ more. omega (arith, size))) in
    told_changes c.args.volume.0 c.args.volume.1 truth (write tree c.args.call.now bytes offset written c.args.now) handle c.grown-changed.result c.in-Ok-lay.draft c.told-in-Ok-lay.result c.told-in-Ok-lay.ensures
    (λ reply tells. wrote c.args.volume.0 c.args.volume.1 held hints truth tree bytes c.args.call.now offset written c.args.now handle inode s f is few same fit kind some fits clear (offset / 4096) (pieces_of (offset % 4096) written)
    c.in-Ok-lay.draft (4096 * (offset / 4096) + offset % 4096) (omega arith) w reply fine
    (subst (λ (i : Inode). (other : File) → other.handle ≡ handle → HasFields i other → size_of other.body ≡ shown_size i → size_of other.body < 2 ^ 31 → reply ≡ Attributes (attributes_of c.args.volume.0 other)) grown_is tells))

pub returns-clause-hints : goal.returns-clause-hints
returns-clause-hints g c = λ all_hints truth tree few same s fit f all.
    let held = g.V.View.held c.args.view.now in
    let hints = g.V.View.hints c.args.view.now in
    let written = c.args.written.now in
    let offset = c.args.offset in
    let handle = c.args.file.0 in
    let inode = c.args.file.1 in
    let fine = rw c.in-Ok-None.field-0-is at c.in-Ok-None.ensures.error in
    let kind = kind_is c.args.call.now offset (length written) handle inode c.requires.inode.kind c.requires.live fine in
    let some = some_of (length written) c.if-is_empty.ensures in
    let fits = (rw c.in-Ok-None.field-0-is at c.in-Ok-None.ensures.fits) some in
    let clear = ap (λ (n : ℕ). grows_over inode (n + length written)) (sym c.from.ensures) ∙ sym c.grows_over.ensures ∙ c.if-grows_over.false in
    let grown_is : c.grown-changed.result ≡ grown (offset + length written) c.args.now inode = c.grown-changed.ensures.is ∙ ap (λ (n : ℕ). grown (n + length written) c.args.now inode) c.from.ensures in
    let r : IsRegularOf c.args.volume.0 c.args.volume.1 held hints truth tree handle inode = record { few = few; same = same; stands = s; fit = fit; at = f; kind = kind } in
    let base = sized (max inode.size (offset + length written)) (file_bytes c.args.volume.0 c.args.volume.1 held hints truth tree offset written c.args.now handle inode s f few same fit kind some fits clear).0 in
    let file = record f.file { mtime = c.args.now; ctime = c.args.now } in
    let grows_so = subst (λ (i : Inode). GrowsTo f.file inode i file base) (sym grown_is) (grows c.args.volume.0 c.args.volume.1 held hints truth tree offset written c.args.now handle inode s f few same fit kind some fits clear) in
    let size = ap (λ (i : Inode). i.size) grown_is in
    told_hints c.args.volume.0 c.args.volume.1 all_hints truth handle c.grown-changed.result c.in-Ok-lay.draft c.told-in-Ok-lay.result c.told-in-Ok-lay.ensures
    ((c.in-Ok-lay.ensures.step c.args.volume.0 truth tree inode file base r grows_so (λ more. omega (arith, size))).leads all_hints all)

pub returns-then-is_empty-clause-lacks : goal.returns-then-is_empty-clause-lacks
returns-then-is_empty-clause-lacks g c = λ truth tree bytes few same s fit f is.
    told_first (λ status. write tree c.args.call.now bytes c.args.offset c.args.written.now c.args.now 8 ≡ Err status)
    (PreparesWritten c.args.volume.1 (g.V.View.held c.args.view.now) (g.V.View.hints c.args.view.now) truth c.args.file.0 c.args.offset c.args.written.now)
    c.args.volume.0 c.args.file.0 c.args.file.1 c.new.result c.told.result c.told.ensures

pub returns-in-Err-clear-clause-lacks : goal.returns-in-Err-clear-clause-lacks
returns-in-Err-clear-clause-lacks g c = λ truth tree bytes few same s fit f is.
    never_stops (List Changed) (λ status. write tree c.args.call.now bytes c.args.offset c.args.written.now c.args.now 8 ≡ Err status)
    (PreparesWritten c.args.volume.1 (g.V.View.held c.args.view.now) (g.V.View.hints c.args.view.now) truth c.args.file.0 c.args.offset c.args.written.now)
    c.in-Err-clear.stop c.in-Err-clear.ensures.inner

pub returns-in-Ok-clause-lacks : goal.returns-in-Ok-clause-lacks
returns-in-Ok-clause-lacks g c = λ truth tree bytes few same s fit f is.
    let written = c.args.written.now in
    let fine = rw c.in-Ok-None.field-0-is at c.in-Ok-None.ensures.error in
    let kind = kind_is c.args.call.now c.args.offset (length written) c.args.file.0 c.args.file.1 c.requires.inode.kind c.requires.live fine in
    let b = regular_bytes c.args.volume.1 truth tree c.args.file.0 f.file c.args.file.1 s.is f.holds f.there kind in
    let over : grows_over c.args.file.1 (c.args.offset + length written) ≡ true =
    ap (λ (n : ℕ). grows_over c.args.file.1 (n + length written)) (sym c.from.ensures) ∙ sym c.grows_over.ensures ∙ c.if-grows_over.true in (
      accepted c.args.volume.0 c.args.volume.1 (g.V.View.held c.args.view.now) (g.V.View.hints c.args.view.now) truth tree bytes c.args.call.now c.args.offset written c.args.now c.args.file.0 c.args.file.1 s f is fine,
      record {
        some = some_of (length written) c.if-is_empty.ensures;
        prepares = inl (record {
          inode = c.args.file.1;
          holds = f.holds;
          over = over;
          lowers = c.in-Ok.ensures.lowers truth tree f.file b.0 few same s.is fit f.holds f.there b.1 (behind_end c.args.file.1 (c.args.offset + length written) over);
        });
      },
    )

pub returns-in-Err-lay-clause-lacks : goal.returns-in-Err-lay-clause-lacks
returns-in-Err-lay-clause-lacks g c = λ truth tree bytes few same s fit f is.
    let held = g.V.View.held c.args.view.now in
    let hints = g.V.View.hints c.args.view.now in
    let written = c.args.written.now in
    let offset = c.args.offset in
    let handle = c.args.file.0 in
    let inode = c.args.file.1 in
    let fine = rw c.in-Ok-None.field-0-is at c.in-Ok-None.ensures.error in
    let kind = kind_is c.args.call.now offset (length written) handle inode c.requires.inode.kind c.requires.live fine in
    let some = some_of (length written) c.if-is_empty.ensures in
    let root_is : c.grown-changed.result.tree ≡ inode.tree = ap (λ (i : Inode). i.tree) c.grown-changed.ensures.is in
    first_by (λ status. write tree c.args.call.now bytes c.args.offset c.args.written.now c.args.now 8 ≡ Err status) (PreparesWritten c.args.volume.1 (g.V.View.held c.args.view.now) (g.V.View.hints c.args.view.now) truth c.args.file.0 c.args.offset c.args.written.now)
    (MakesEntries c.args.volume.1 held hints truth c.grown-changed.result.tree (offset / 4096) (offset / 4096 + pieces_of (offset % 4096) written))
    (accepted c.args.volume.0 c.args.volume.1 held hints truth tree bytes c.args.call.now offset written c.args.now handle inode s f is fine)
    (λ new entries. record {
      some = some;
      prepares = inr (record {
        inode = inode;
        holds = f.holds;
        cleared = ap (λ (n : ℕ). grows_over inode (n + length written)) (sym c.from.ensures) ∙ sym c.grows_over.ensures ∙ c.if-grows_over.false;
        makes = subst (λ (r : ℕ). MakesEntries c.args.volume.1 held hints truth r (offset / 4096) (offset / 4096 + pieces_of (offset % 4096) written) new) root_is entries;
      });
    }) c.in-Err-lay.error
    (c.in-Err-lay.ensures.lacks c.args.volume.0 truth tree inode (record { few = few; same = same; stands = s; fit = fit; at = f; kind = kind }) (sym root_is))

pub returns-clause-lacks : goal.returns-clause-lacks
returns-clause-lacks g c = λ truth tree bytes few same s fit f is.
    told_first (λ status. write tree c.args.call.now bytes c.args.offset c.args.written.now c.args.now 8 ≡ Err status)
    (PreparesWritten c.args.volume.1 (g.V.View.held c.args.view.now) (g.V.View.hints c.args.view.now) truth c.args.file.0 c.args.offset c.args.written.now)
    c.args.volume.0 c.args.file.0 c.grown-changed.result c.in-Ok-lay.draft c.told-in-Ok-lay.result c.told-in-Ok-lay.ensures

pub returns-then-is_empty-clause-ready : goal.returns-then-is_empty-clause-ready
returns-then-is_empty-clause-ready g c = λ truth tree bytes few same s fit f is.
    so_ok (0 < length c.args.written.now → ReadyToLay c.args.volume.1 truth c.args.file.0 c.args.offset c.args.written.now)
    (λ some. let none = none_of (length c.args.written.now) c.if-is_empty.ensures in absurd (omega (arith, some, none))) c.told.result

pub returns-clause-ready : goal.returns-clause-ready
returns-clause-ready g c = λ truth tree bytes few same s fit f is.
    let written = c.args.written.now in
    let offset = c.args.offset in
    let inode = c.args.file.1 in
    let fine = rw c.in-Ok-None.field-0-is at c.in-Ok-None.ensures.error in
    let kind = kind_is c.args.call.now offset (length written) c.args.file.0 inode c.requires.inode.kind c.requires.live fine in
    let root_is : c.grown-changed.result.tree ≡ inode.tree = ap (λ (i : Inode). i.tree) c.grown-changed.ensures.is in
    so_ok (0 < length written → ReadyToLay c.args.volume.1 truth c.args.file.0 offset written)
    (λ some. ready_to_lay c.args.volume.1 truth tree c.args.file.0 offset written inode s.is f.holds
    (ap (λ (n : ℕ). grows_over inode (n + length written)) (sym c.from.ensures) ∙ sym c.grows_over.ensures ∙ c.if-grows_over.false)
    (subst (λ (r : ℕ). FindEntries c.args.volume.1 truth r (offset / 4096) (offset / 4096 + pieces_of (offset % 4096) written)) root_is
    (c.in-Ok-lay.ensures.finds c.args.volume.0 truth tree inode (record { few = few; same = same; stands = s; fit = fit; at = f; kind = kind }) (sym root_is) some))) c.told-in-Ok-lay.result

pub returns-then-is_empty-clause-laid : goal.returns-then-is_empty-clause-laid
returns-then-is_empty-clause-laid g c =
    let near = LaysNear c.args.volume.1 (g.V.View.held c.args.view.now) (g.V.View.hints c.args.view.now) c.args.file.0 c.args.file.1 c.args.written.now in
    told_so near c.args.volume.0 c.args.file.0 c.args.file.1 c.new.result c.told.result c.told.ensures
    (lays_nothing c.args.volume.1 (g.V.View.held c.args.view.now) (g.V.View.hints c.args.view.now) c.args.file.0 c.args.file.1 c.args.written.now c.new.result (none_of (length c.args.written.now) c.if-is_empty.ensures) c.new.ensures)

pub returns-clause-laid : goal.returns-clause-laid
returns-clause-laid g c =
    let held = g.V.View.held c.args.view.now in
    let hints = g.V.View.hints c.args.view.now in
    let handle = c.args.file.0 in
    let inode = c.args.file.1 in
    let written = c.args.written.now in
    let root_is : c.grown-changed.result.tree ≡ inode.tree = ap (λ (i : Inode). i.tree) c.grown-changed.ensures.is in
    told_so (LaysNear c.args.volume.1 held hints handle inode written) c.args.volume.0 handle c.grown-changed.result c.in-Ok-lay.draft c.told-in-Ok-lay.result c.told-in-Ok-lay.ensures
    (lays_some c.args.volume.1 held hints handle inode written c.in-Ok-lay.draft (some_of (length written) c.if-is_empty.ensures)
    (subst (λ (root : ℕ). IsLaid held hints (parts_of handle).area c.args.volume.1 handle root c.in-Ok-lay.draft) root_is c.in-Ok-lay.ensures.laid))

pub returns-then-is_empty-clause-taken : goal.returns-then-is_empty-clause-taken
returns-then-is_empty-clause-taken g c =
    told_none (ReadiesNear c.args.volume.1 (g.V.View.held c.args.view.now) c.args.file.0 c.args.file.1 c.args.offset c.args.written.now) c.args.volume.0 c.args.file.0 c.args.file.1 c.new.result c.told.result c.told.ensures

pub returns-in-Err-clear-clause-taken : goal.returns-in-Err-clear-clause-taken
returns-in-Err-clear-clause-taken g c =
    value_first (List Changed) (ReadiesNear c.args.volume.1 (g.V.View.held c.args.view.now) c.args.file.0 c.args.file.1 c.args.offset c.args.written.now) c.in-Err-clear.stop c.in-Err-clear.ensures.inner

pub returns-in-Ok-clause-taken : goal.returns-in-Ok-clause-taken
returns-in-Ok-clause-taken g c = inl (ap (λ (n : ℕ). grows_over c.args.file.1 (n + length c.args.written.now)) (sym c.from.ensures) ∙ sym c.grows_over.ensures ∙ c.if-grows_over.true)

pub returns-in-Err-lay-clause-taken : goal.returns-in-Err-lay-clause-taken
returns-in-Err-lay-clause-taken g c = first_so (λ new taken. inr taken) c.in-Err-lay.error c.in-Err-lay.ensures.taken

pub returns-clause-taken : goal.returns-clause-taken
returns-clause-taken g c =
    told_none (ReadiesNear c.args.volume.1 (g.V.View.held c.args.view.now) c.args.file.0 c.args.file.1 c.args.offset c.args.written.now) c.args.volume.0 c.args.file.0 c.grown-changed.result c.in-Ok-lay.draft c.told-in-Ok-lay.result c.told-in-Ok-lay.ensures
