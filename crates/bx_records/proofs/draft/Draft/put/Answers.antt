use Rattle.std.proofs.Common.{◌<◌, length, refl, sym, subst, ◌∙◌, arith}
use Rattle.bx_records.specs.Drafts.{IsDraft}
use Rattle.bx_records.proofs.Changes.{put_there, put_behind, draft_there, draft_behind}
use Rattle.bx_records.proofs.draft.Draft.put.Goals as goal

pub set-requires : goal.set-requires
set-requires c = (put_there c.args.at c.args.block c.self.inside.blocks c.in-Some.place (rw (← c.self.view_is) at (sym c.in-Some.ensures))).there

pub invariant_of-self : goal.invariant_of-self
invariant_of-self c =
    let r = put_there c.args.at c.args.block c.self.inside.blocks c.in-Some.place (rw (← c.self.view_is) at (sym c.in-Some.ensures)) in
    subst IsDraft (sym c.set.ensures) (draft_there c.args.at c.args.block c.self.inside.blocks c.in-Some.place c.self.invariant r)

pub returns-then-len-eq-MOST_BLOCKS-clause-crowded : goal.returns-then-len-eq-MOST_BLOCKS-clause-crowded
returns-then-len-eq-MOST_BLOCKS-clause-crowded c =
    let r = put_behind c.args.at c.args.block c.self.inside.blocks (rw (← c.self.view_is) at (sym c.in-None.ensures)) in
    rw (← c.self.view_is) (λ e. (sym c.len.ensures ∙ c.if-len-eq-MOST_BLOCKS.true, r.missing), λ e. refl)

pub invariant_of-self-in-Continue-1 : goal.invariant_of-self-in-Continue-1
invariant_of-self-in-Continue-1 c =
    let r = put_behind c.args.at c.args.block c.self.inside.blocks (rw (← c.self.view_is) at (sym c.in-None.ensures)) in
    let room : length c.self.inside.blocks < 16 = omega (arith, c.self.invariant.most, c.len.ensures, c.if-len-eq-MOST_BLOCKS.false) in
    subst IsDraft (sym c.in_ok-push-in-None.ensures.ok) (draft_behind c.args.at c.args.block c.self.inside.blocks c.self.invariant room r)

pub returns-in-Some-clause-ok : goal.returns-in-Some-clause-ok
returns-in-Some-clause-ok c =
    let r = put_there c.args.at c.args.block c.self.inside.blocks c.in-Some.place (rw (← c.self.view_is) at (sym c.in-Some.ensures)) in
    rw (← c.self.view_is) (c.set.ensures ∙ sym r.put)

pub returns-in-Some-clause-crowded : goal.returns-in-Some-clause-crowded
returns-in-Some-clause-crowded c =
    let r = put_there c.args.at c.args.block c.self.inside.blocks c.in-Some.place (rw (← c.self.view_is) at (sym c.in-Some.ensures)) in
    rw (← c.self.view_is) (λ e. absurd cc, λ e. absurd (r.found e.1))

pub returns-in_ok-push-in-None-clause-ok : goal.returns-in_ok-push-in-None-clause-ok
returns-in_ok-push-in-None-clause-ok c =
    let r = put_behind c.args.at c.args.block c.self.inside.blocks (rw (← c.self.view_is) at (sym c.in-None.ensures)) in
    rw (← c.self.view_is) (c.in_ok-push-in-None.ensures.ok ∙ sym r.put)
