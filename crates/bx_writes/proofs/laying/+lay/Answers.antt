use Rattle.std.proofs.Common.{◌≡◌, ◌∙◌, ◌+◌, ◌-◌, ◌*◌, ◌<◌, ℕ, List, [], ◌++◌, length, arith, subst, sym, refl}
use Rattle.std.specs.Prelude.{min}
use Rattle.std.proofs.lemmas.List.{take-append-drop}
use Rattle.bx_entries.proofs.Lacks.{so_ok}
use Rattle.bx_writes.proofs.First.{alone_first, find_all, find_behind, one_makes, put_first, rest_makes}
use Rattle.bx_chunks.specs.Taking.{TakesSlots}
use Rattle.bx_places.specs.Handles.{parts_of}
use Rattle.bx_writes.specs.Laid.{LacksSlot}
use Rattle.bx_writes.proofs.Entries.{alone_full, alone_is, first_full, put_full, rest_full}
use Rattle.bx_writes.proofs.Laid.{alone_laid, first_needs, from_next, none_of, one_piece, prepare_stops, put_needs, reaches, rest_needs, rest_stops, some_of}
use Rattle.bx_writes.proofs.Missing.{own_tree}
use Rattle.bx_writes.specs.Lacking.{FindEntries, MakesEntries}
use Rattle.bx_writes.specs.Laying.{pieces_of}
use Rattle.bx_writes.specs.Steps.{PutsOn}
use Rattle.bx_writes.proofs.laying.+lay.Goals as goal

pub returns-then-is_empty-clause-step : goal.returns-then-is_empty-clause-step
returns-then-is_empty-clause-step g n c = λ volume truth tree old file base r grows fits.
    alone_laid volume c.args.areas (g.V.View.held c.args.view.now) (g.V.View.hints c.args.view.now) truth tree c.args.handle old c.args.inode.now file base r grows
    (4096 * c.args.place.0 + c.args.place.1) c.args.place.0 (pieces_of c.args.place.1 c.args.written.now) c.args.written.now (none_of (length c.args.written.now) c.if-is_empty.ensures) c.inode_alone.result c.inode_alone.ensures

pub returns-in-Err-clause-step : goal.returns-in-Err-clause-step
returns-in-Err-clause-step g n c = λ volume truth tree old file base r grows fits.
    prepare_stops c.args.areas (g.V.View.held c.args.view.now) truth tree c.args.handle file (r.stands.is.stored c.args.handle).tree c.args.inode.now base c.args.inode.now.tree c.args.place.0 c.args.place.1 c.split_at.result.0.now
    (4096 * c.args.place.0 + c.args.place.1) c.args.written.now c.args.place.0 (pieces_of c.args.place.1 c.args.written.now) c.in-Err.error (c.in-Err.ensures.step volume truth tree c.args.handle old r (sym grows.tree))

pub returns-in-Err-lay-clause-step : goal.returns-in-Err-lay-clause-step
returns-in-Err-lay-clause-step g n c = λ volume truth tree old file base r grows fits.
    let some = some_of (length c.args.written.now) c.if-is_empty.ensures in
    let all = fits some in
    let front = c.split_at.ensures.front_len in
    let back = c.split_at.ensures.back_len in
    let mid = c.min.ensures in
    let low = c.requires.place in
    rest_stops c.args.areas (g.V.View.held c.args.view.now) truth tree c.args.handle file (r.stands.is.stored c.args.handle).tree c.args.inode.now base (4096 * (c.args.place.0 + 1) + 0) (4096 * c.args.place.0 + c.args.place.1)
    c.split_at.result.1.now c.args.written.now (c.args.place.0 + 1) c.args.place.0 (pieces_of 0 c.split_at.result.1.now) (pieces_of c.args.place.1 c.args.written.now) c.in-Err-lay.error
    (c.in-Err-lay.ensures.step volume truth tree old file base r grows (λ more. omega (arith, more, all, front, back, mid, low)))

pub returns-in-Ok-lay-clause-step : goal.returns-in-Ok-lay-clause-step
returns-in-Ok-lay-clause-step g n c = λ volume truth tree old file base r grows fits.
    let held = g.V.View.held c.args.view.now in
    let hints = g.V.View.hints c.args.view.now in
    let inode = c.args.inode.now in
    let pages = (r.stands.is.stored c.args.handle).tree in
    let part = c.split_at.result.0.now in
    let rest = c.split_at.result.1.now in
    let written = c.args.written.now in
    let some = some_of (length written) c.if-is_empty.ensures in
    let all = fits some in
    let front = c.split_at.ensures.front_len in
    let back = c.split_at.ensures.back_len in
    let mid = c.min.ensures in
    let low = c.requires.place in
    let few = c.requires.few in
    let from = 4096 * c.args.place.0 + c.args.place.1 in
    let part_is : length part ≡ min (length written) (4096 - c.args.place.1) = front ∙ mid in
    let rest_is : length rest ≡ length written - length part = omega (arith, back, front) in
    let count : pieces_of 0 rest + 1 ≡ pieces_of c.args.place.1 written = one_piece c.args.place.1 (length written) (length part) (length rest) low some part_is rest_is in
    let both : part ++ rest ≡ written = (λ i. c.split_at.ensures.front i ++ c.split_at.ensures.back i) ∙ take-append-drop c.min.result written in
    let behind = c.in-Ok-lay.ensures.step volume truth tree old file base r grows (λ more. omega (arith, more, all, front, back, mid, low)) in
    let done = c.put_piece.ensures.step truth tree c.args.handle file pages inode base c.args.place.1 part rest (pieces_of 0 rest) (record {
      few = r.few;
      same = r.same;
      chunked = r.stands.is.chunked;
      fit = r.fit;
      handle_is = grows.handle_is ∙ r.at.handle_is;
      small = grows.small;
      low = grows.low;
      long = grows.long;
      short = omega (arith, part_is, low);
      fits = omega (arith, all, part_is);
      next = from + length part;
      next_is = refl;
      some_left = omega (arith, count, few);
      written = from_next c.args.areas held truth tree c.args.handle file pages inode base (4096 * (c.args.place.0 + 1) + 0) (from + length part) rest (c.args.place.0 + 1) (pieces_of 0 rest) c.in-Ok-lay.draft
          (reaches c.args.place.0 c.args.place.1 (length written) (length part) (length rest) low part_is rest_is) behind;
      prepared = c.in-Ok.ensures.step volume truth tree c.args.handle old r (sym grows.tree) pages (own_tree volume c.args.areas held hints truth tree c.args.handle old r inode.tree (sym grows.tree));
    }) refl in
    subst (λ (k : ℕ). PutsOn c.args.areas held truth tree c.args.handle file pages inode base from written c.args.place.0 k c.put_piece.result) count
    (subst (λ (l : List ℕ). PutsOn c.args.areas held truth tree c.args.handle file pages inode base from l c.args.place.0 (pieces_of 0 rest + 1) c.put_piece.result) both done)

pub returns-in-Err-clause-need : goal.returns-in-Err-clause-need
returns-in-Err-clause-need g n c =
    let some = some_of (length c.args.written.now) c.if-is_empty.ensures in
    first_needs c.args.areas (g.V.View.held c.args.view.now) (g.V.View.hints c.args.view.now) c.args.handle c.args.inode.now.tree c.args.place.0 (pieces_of c.args.place.1 c.args.written.now) (omega (arith, some)) c.in-Err.error (rw c.of.ensures at c.in-Err.ensures.need)

pub returns-in-Err-clause-full : goal.returns-in-Err-clause-full
returns-in-Err-clause-full g n c =
    let some = some_of (length c.args.written.now) c.if-is_empty.ensures in
    first_full (g.V.View.held c.args.view.now) (g.V.View.hints c.args.view.now) (parts_of c.args.handle).area c.args.areas c.args.handle c.args.inode.now.tree c.args.place.0 (pieces_of c.args.place.1 c.args.written.now) (omega (arith, some)) c.in-Err.error (rw c.of.ensures at c.in-Err.ensures.full)

pub returns-in-Err-lay-clause-need : goal.returns-in-Err-lay-clause-need
returns-in-Err-lay-clause-need g n c =
    let rest = c.split_at.result.1.now in
    let written = c.args.written.now in
    let some = some_of (length written) c.if-is_empty.ensures in
    let front = c.split_at.ensures.front_len in
    let back = c.split_at.ensures.back_len in
    let mid = c.min.ensures in
    let low = c.requires.place in
    let part_is : length c.split_at.result.0.now ≡ min (length written) (4096 - c.args.place.1) = front ∙ mid in
    let rest_is : length rest ≡ length written - length c.split_at.result.0.now = omega (arith, back, front) in
    let count : pieces_of 0 rest + 1 ≡ pieces_of c.args.place.1 written = one_piece c.args.place.1 (length written) (length c.split_at.result.0.now) (length rest) low some part_is rest_is in
    rest_needs c.args.areas (g.V.View.held c.args.view.now) (g.V.View.hints c.args.view.now) c.args.handle c.args.inode.now.tree c.args.place.0 (pieces_of c.args.place.1 c.args.written.now) (omega (arith, some)) (pieces_of 0 rest) count c.in-Err-lay.error c.in-Err-lay.ensures.need

pub returns-in-Err-lay-clause-full : goal.returns-in-Err-lay-clause-full
returns-in-Err-lay-clause-full g n c =
    let rest = c.split_at.result.1.now in
    let written = c.args.written.now in
    let some = some_of (length written) c.if-is_empty.ensures in
    let front = c.split_at.ensures.front_len in
    let back = c.split_at.ensures.back_len in
    let mid = c.min.ensures in
    let low = c.requires.place in
    let part_is : length c.split_at.result.0.now ≡ min (length written) (4096 - c.args.place.1) = front ∙ mid in
    let rest_is : length rest ≡ length written - length c.split_at.result.0.now = omega (arith, back, front) in
    let count : pieces_of 0 rest + 1 ≡ pieces_of c.args.place.1 written = one_piece c.args.place.1 (length written) (length c.split_at.result.0.now) (length rest) low some part_is rest_is in
    rest_full (g.V.View.held c.args.view.now) (g.V.View.hints c.args.view.now) (parts_of c.args.handle).area c.args.areas c.args.handle c.args.inode.now.tree c.args.place.0 (pieces_of c.args.place.1 c.args.written.now) (omega (arith, some)) (pieces_of 0 rest) count c.in-Err-lay.error c.in-Err-lay.ensures.full

pub returns-in-Ok-lay-clause-need : goal.returns-in-Ok-lay-clause-need
returns-in-Ok-lay-clause-need g n c =
    let some = some_of (length c.args.written.now) c.if-is_empty.ensures in
    put_needs c.args.areas (g.V.View.held c.args.view.now) (g.V.View.hints c.args.view.now) c.args.handle c.args.inode.now.tree c.args.place.0 (pieces_of c.args.place.1 c.args.written.now) (omega (arith, some)) c.put_piece.result ((rw c.of.ensures at c.put_piece.ensures.need) c.args.handle c.in-Ok-lay.ensures.laid)

pub returns-in-Ok-lay-clause-full : goal.returns-in-Ok-lay-clause-full
returns-in-Ok-lay-clause-full g n c =
    let some = some_of (length c.args.written.now) c.if-is_empty.ensures in
    put_full (g.V.View.held c.args.view.now) (g.V.View.hints c.args.view.now) (parts_of c.args.handle).area c.args.areas c.args.handle c.args.inode.now.tree c.args.place.0 (pieces_of c.args.place.1 c.args.written.now) (omega (arith, some)) c.put_piece.result ((rw c.of.ensures at c.put_piece.ensures.full) c.args.handle c.in-Ok.ensures.known c.in-Ok-lay.ensures.laid)

pub returns-in-Ok-lay-clause-laid : goal.returns-in-Ok-lay-clause-laid
returns-in-Ok-lay-clause-laid g n c = (rw c.of.ensures at c.put_piece.ensures.laid) c.args.handle c.in-Ok.ensures.known c.in-Ok-lay.ensures.laid

pub returns-then-is_empty-clause-full : goal.returns-then-is_empty-clause-full
returns-then-is_empty-clause-full g n c =
    alone_full (LacksSlot (g.V.View.held c.args.view.now) (g.V.View.hints c.args.view.now) (parts_of c.args.handle).area c.args.areas c.args.handle c.args.inode.now.tree c.args.place.0 (c.args.place.0 + (pieces_of c.args.place.1 c.args.written.now))) c.args.handle c.args.inode.now c.inode_alone.result c.inode_alone.ensures

pub returns-then-is_empty-clause-laid : goal.returns-then-is_empty-clause-laid
returns-then-is_empty-clause-laid g n c = alone_is (g.V.View.held c.args.view.now) (g.V.View.hints c.args.view.now) (parts_of c.args.handle).area c.args.areas c.args.handle c.args.inode.now c.inode_alone.result c.inode_alone.ensures

pub returns-then-is_empty-clause-lacks : goal.returns-then-is_empty-clause-lacks
returns-then-is_empty-clause-lacks g n c = λ volume truth tree old r root_is.
    alone_first (MakesEntries c.args.areas (g.V.View.held c.args.view.now) (g.V.View.hints c.args.view.now) truth c.args.inode.now.tree c.args.place.0 (c.args.place.0 + pieces_of c.args.place.1 c.args.written.now)) c.args.handle c.args.inode.now c.inode_alone.result c.inode_alone.ensures

pub returns-in-Err-clause-lacks : goal.returns-in-Err-clause-lacks
returns-in-Err-clause-lacks g n c = λ volume truth tree old r root_is.
    let some = some_of (length c.args.written.now) c.if-is_empty.ensures in
    one_makes c.args.areas (g.V.View.held c.args.view.now) (g.V.View.hints c.args.view.now) truth c.args.inode.now.tree c.args.place.0 (pieces_of c.args.place.1 c.args.written.now) (omega (arith, some)) c.in-Err.error (c.in-Err.ensures.lacks volume truth tree c.args.handle old r root_is)

pub returns-in-Err-lay-clause-lacks : goal.returns-in-Err-lay-clause-lacks
returns-in-Err-lay-clause-lacks g n c = λ volume truth tree old r root_is.
    let rest = c.split_at.result.1.now in
    let written = c.args.written.now in
    let some = some_of (length written) c.if-is_empty.ensures in
    let front = c.split_at.ensures.front_len in
    let back = c.split_at.ensures.back_len in
    let mid = c.min.ensures in
    let low = c.requires.place in
    let part_is : length c.split_at.result.0.now ≡ min (length written) (4096 - c.args.place.1) = front ∙ mid in
    let rest_is : length rest ≡ length written - length c.split_at.result.0.now = omega (arith, back, front) in
    let count : pieces_of 0 rest + 1 ≡ pieces_of c.args.place.1 written = one_piece c.args.place.1 (length written) (length c.split_at.result.0.now) (length rest) low some part_is rest_is in
    rest_makes c.args.areas (g.V.View.held c.args.view.now) (g.V.View.hints c.args.view.now) truth c.args.inode.now.tree c.args.place.0 (pieces_of 0 rest) (pieces_of c.args.place.1 written) count c.in-Err-lay.error (c.in-Err-lay.ensures.lacks volume truth tree old r root_is)

pub returns-in-Ok-lay-clause-lacks : goal.returns-in-Ok-lay-clause-lacks
returns-in-Ok-lay-clause-lacks g n c = λ volume truth tree old r root_is.
    put_first (MakesEntries c.args.areas (g.V.View.held c.args.view.now) (g.V.View.hints c.args.view.now) truth c.args.inode.now.tree c.args.place.0 (c.args.place.0 + pieces_of c.args.place.1 c.args.written.now)) c.put_piece.result c.put_piece.ensures.inner

pub returns-then-is_empty-clause-finds : goal.returns-then-is_empty-clause-finds
returns-then-is_empty-clause-finds g n c = λ volume truth tree old r root_is.
    so_ok (0 < length c.args.written.now → FindEntries c.args.areas truth c.args.inode.now.tree c.args.place.0 (c.args.place.0 + pieces_of c.args.place.1 c.args.written.now))
    (λ some. let none = none_of (length c.args.written.now) c.if-is_empty.ensures in absurd (omega (arith, some, none))) c.inode_alone.result

pub returns-in-Ok-lay-clause-finds : goal.returns-in-Ok-lay-clause-finds
returns-in-Ok-lay-clause-finds g n c = λ volume truth tree old r root_is.
    let rest = c.split_at.result.1.now in
    let written = c.args.written.now in
    let root = c.args.inode.now.tree in
    let some = some_of (length written) c.if-is_empty.ensures in
    let front = c.split_at.ensures.front_len in
    let back = c.split_at.ensures.back_len in
    let mid = c.min.ensures in
    let low = c.requires.place in
    let part_is : length c.split_at.result.0.now ≡ min (length written) (4096 - c.args.place.1) = front ∙ mid in
    let rest_is : length rest ≡ length written - length c.split_at.result.0.now = omega (arith, back, front) in
    let count : pieces_of 0 rest + 1 ≡ pieces_of c.args.place.1 written = one_piece c.args.place.1 (length written) (length c.split_at.result.0.now) (length rest) low some part_is rest_is in
    so_ok (0 < length written → FindEntries c.args.areas truth root c.args.place.0 (c.args.place.0 + pieces_of c.args.place.1 written))
    (λ more. find_all c.args.areas truth root c.args.place.0 (pieces_of 0 rest) (pieces_of c.args.place.1 written) count (c.in-Ok.ensures.finds volume truth tree c.args.handle old r root_is)
    (find_behind c.args.areas truth root (c.args.place.0 + 1) rest (c.in-Ok-lay.ensures.finds volume truth tree old r root_is))) c.put_piece.result

pub returns-then-is_empty-clause-taken : goal.returns-then-is_empty-clause-taken
returns-then-is_empty-clause-taken g n c = alone_first (TakesSlots (g.V.View.held c.args.view.now) (parts_of c.args.handle).area c.args.areas []) c.args.handle c.args.inode.now c.inode_alone.result c.inode_alone.ensures

pub returns-in-Err-clause-taken : goal.returns-in-Err-clause-taken
returns-in-Err-clause-taken g n c = rw c.of.ensures at c.in-Err.ensures.taken

pub returns-in-Ok-lay-clause-taken : goal.returns-in-Ok-lay-clause-taken
returns-in-Ok-lay-clause-taken g n c = put_first (TakesSlots (g.V.View.held c.args.view.now) (parts_of c.args.handle).area c.args.areas []) c.put_piece.result c.put_piece.ensures.inner
