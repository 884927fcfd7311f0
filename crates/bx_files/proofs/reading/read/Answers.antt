use Rattle.std.proofs.Common.{◌≡◌, ℕ, ◌+◌, ◌/◌, ◌%◌, [], ◌∙◌, List, take, drop, refl, ap, subst, arith}
use Rattle.std.specs.Prelude.{◌-◌, ◌≤◌, min}
use Rattle.bx_layout.specs.declared.inode.Inode.{Inode}
use Rattle.bx_chunks.specs.bx_truth.specs.Chunks.{chunks_of}
use Rattle.bx_chunks.specs.bx_truth.specs.Stored.{piece_of}
use Rattle.bx_files.specs.Paths.{OnPieces, OnRead}
use Rattle.bx_inodes.specs.bx_blink.specs.Hints.{Under}
use Rattle.bx_files.proofs.Told.{fill_stops}
use Rattle.bx_files.proofs.Needs.{needs_along, read_on}
use Rattle.bx_files.proofs.Windows.{window}
use Rattle.bx_files.proofs.reading.read.Goals as goal

pub returns-in-Err-clause-file : goal.returns-in-Err-clause-file
returns-in-Err-clause-file g c = λ truth owner handle stored bytes same u is.
    fill_stops (piece_of (chunks_of c.args.areas truth) stored.tree) (c.min-start.result / 4096) (c.min-start.result % 4096 + c.min-len.result) c.fill.new.into (take c.args.count (drop c.args.offset bytes)) c.in-Err.stop
    (c.in-Err.ensures.tree truth owner handle stored (subst (λ (i : Inode). Under c.args.areas (g.V.View.held c.args.view.now) (g.V.View.hints c.args.view.now) truth [] i.tree stored.tree) same u) is.contents)

pub returns-in-Err-clause-need : goal.returns-in-Err-clause-need
returns-in-Err-clause-need g c =
    let held = g.V.View.held c.args.view.now in
    let hints = g.V.View.hints c.args.view.now in
    let inode = c.args.inode.now in
    let start = c.min-start.result in
    let len = c.min-len.result in
    needs_along (Unit {0}) (List ℕ) c.args.areas held (OnPieces held hints inode.tree (start / 4096) (start % 4096 + len)) (OnRead held hints inode c.args.offset c.args.count)
    (read_on held hints inode c.args.offset c.args.count start len (omega (arith, c.min-start.ensures, c.from.ensures)) (omega (arith, c.min-len.ensures, c.from-2.ensures)) (omega (arith, c.if-len-eq0.false)))
    c.in-Err.stop c.in-Err.ensures.need

pub returns-in_ok-bytes-in-Ok-clause-file : goal.returns-in_ok-bytes-in-Ok-clause-file
returns-in_ok-bytes-in-Ok-clause-file g c = λ truth owner handle stored bytes same u is.
    let start = c.min-start.result in
    let len = c.min-len.result in
    let pieces = piece_of (chunks_of c.args.areas truth) stored.tree in
    let start_is : start ≡ min c.args.offset stored.inode.size = omega (arith, c.min-start.ensures, c.from.ensures, ap (λ (i : Inode). i.size) same) in
    let len_is : len ≡ min (stored.inode.size - start) c.args.count = omega (arith, c.min-len.ensures, c.from-2.ensures, ap (λ (i : Inode). i.size) same) in
    let most : start % 4096 + len ≤ 12288 = omega (arith, c.requires, len_is) in
    let under = subst (λ (i : Inode). Under c.args.areas (g.V.View.held c.args.view.now) (g.V.View.hints c.args.view.now) truth [] i.tree stored.tree) same u in
    c.in_ok-bytes-in-Ok.ensures
    ∙ window pieces stored.inode.size stored.inode.tail bytes c.fill.new.into c.args.offset c.args.count start len (start % 4096) (start / 4096) is.bytes_are start_is len_is refl refl c.fill.auto.into most
    (c.in-Ok.ensures.tree truth owner handle stored under is.contents)
