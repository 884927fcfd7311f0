use Rattle.std.proofs.Common.{ℕ, List, sym, ap, subst, ◌∙◌, arith}
use Rattle.std.specs.Prelude.{IfSome}
use Rattle.bx_page.specs.Keys.{IsBelow}
use Rattle.bx_page.specs.Contents.{Contents}
use Rattle.bx_page.proofs.Room.{size-le}
use Rattle.bx_splits.specs.Halves.{half_in}
use Rattle.bx_posts.specs.Parents.{PutsAt}
use Rattle.bx_posts.proofs.ParentSteps.{half_below, half_puts, room_puts}
use Rattle.bx_posts.proofs.parents.put_in_parent.Goals as goal

pub returns-then-room-ge-ROOM : goal.returns-then-room-ge-ROOM
returns-then-room-ge-ROOM g c =
    room_puts (g.V.View.held c.args.view.now) c.args.draft.now c.put_separator.new.draft c.args.root c.args.parent.0 c.args.parent.1 c.args.separator.now c.args.near.0 c.args.near.1 c.room.result c.room.ensures c.if-room-ge-ROOM.true c.requires.key
    c.put_separator.result c.put_separator.ensures

pub put_halves-requires : goal.put_halves-requires
put_halves-requires g c =
    let le = size-le c.args.parent.1 c.requires.page in
    let few = c.if-room-ge-ROOM.false in
    let sum = c.room.ensures in
    omega (arith, le, few, sum)

pub put_separator-requires-2-clause-below : goal.put_separator-requires-2-clause-below
put_separator-requires-2-clause-below g c =
    subst (λ (half : ℕ × Contents). IfSome half.1.high (IsBelow c.args.separator.now.key)) (sym (c.half_for-handle.ensures ∙ ap (λ (k : List ℕ). half_in c.in_ok-halves.halves k) c.bytes.ensures))
    (half_below (g.V.View.held c.args.view.now) c.args.draft.now c.args.draft.now c.args.root c.args.parent.0 c.args.parent.1 c.args.separator.now c.args.near.0 c.args.near.1 c.put_halves.new.draft c.in_ok-halves.halves c.args.separator.now.key
    c.in_ok-halves.ensures c.requires.below)

pub returns : goal.returns
returns g c =
    half_puts (g.V.View.held c.args.view.now) c.args.draft.now c.put_separator-2.new.draft c.args.root c.args.parent.0 c.args.parent.1 c.args.separator.now c.args.near.0 c.args.near.1 c.room.result c.room.ensures c.if-room-ge-ROOM.false
    c.put_halves.new.draft c.in_ok-halves.halves c.in_ok-halves.ensures c.put_separator-2.result
    (subst (λ (half : ℕ × Contents). PutsAt c.put_halves.new.draft c.put_separator-2.new.draft half.0 half.1 c.args.separator.now c.put_separator-2.result) (c.half_for-handle.ensures ∙ ap (λ (k : List ℕ). half_in c.in_ok-halves.halves k) c.bytes.ensures)
    c.put_separator-2.ensures)
