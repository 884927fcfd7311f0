use Rattle.std.proofs.Common.{List, Ok, inl, inr, rules, subst}
use Rattle.bx_blink.specs.Walks.{reads_with}
use Rattle.bx_records.specs.Drafts.{Changed}
use Rattle.bx_splits.specs.Halves.{HalvesAt}
use Rattle.bx_splits.proofs.Enough.{enough}
use Rattle.bx_splits.proofs.SplitFair.{split_fair, split_held}
use Rattle.bx_splits.proofs.SplitTree.{splits_in}
use Rattle.bx_splits.proofs.Taken.{split_taken}
use Rattle.bx_splits.proofs.splitting.split.Goals as goal

pub put_halves-requires : goal.put_halves-requires
put_halves-requires g c =
    enough (reads_with (g.V.View.held c.args.view.now) (g.V.View.hints c.args.view.now) c.args.draft.now) c.args.page c.in_ok-owned.owned c.in_ok-owned.ensures (c.requires c.in_ok-owned.owned c.in_ok-owned.ensures)

pub returns-in_err-owned-clause-at : goal.returns-in_err-owned-clause-at
returns-in_err-owned-clause-at g c = search rules

pub returns-in_err-owned-clause-map : goal.returns-in_err-owned-clause-map
returns-in_err-owned-clause-map g c = λ truth tree node u i there.
    splits_in c.args.areas c.args.near (g.V.View.held c.args.view.now) (g.V.View.hints c.args.view.now) truth c.args.draft.now c.args.draft.now c.args.root tree c.args.page u node i there c.requires c.from_residual.result (returns-in_err-owned-clause-at g c)

pub returns-in_err-owned-clause-fair : goal.returns-in_err-owned-clause-fair
returns-in_err-owned-clause-fair g c =
    split_fair c.args.areas c.args.near (g.V.View.held c.args.view.now) (g.V.View.hints c.args.view.now) c.args.draft.now c.args.draft.now c.args.root c.args.page (g.met.V.View.shares c.args.view.now) c.from_residual.result (returns-in_err-owned-clause-at g c)

pub returns-in_err-owned-clause-held : goal.returns-in_err-owned-clause-held
returns-in_err-owned-clause-held g c = λ before.
    split_held c.args.areas c.args.near (g.V.View.held c.args.view.now) (g.V.View.hints c.args.view.now) c.args.draft.now c.args.draft.now c.args.root c.args.page before c.from_residual.result (returns-in_err-owned-clause-at g c)

pub returns-in_err-owned-clause-taken : goal.returns-in_err-owned-clause-taken
returns-in_err-owned-clause-taken g c =
    split_taken c.args.areas c.args.near (g.V.View.held c.args.view.now) (g.V.View.hints c.args.view.now) c.args.draft.now c.args.draft.now c.args.root c.args.page (g.met.V.View.shares c.args.view.now) c.from_residual.result (returns-in_err-owned-clause-at g c)

pub returns-in_err-next-clause-at : goal.returns-in_err-next-clause-at
returns-in_err-next-clause-at g c = search rules

pub returns-in_err-next-clause-map : goal.returns-in_err-next-clause-map
returns-in_err-next-clause-map g c = λ truth tree node u i there.
    splits_in c.args.areas c.args.near (g.V.View.held c.args.view.now) (g.V.View.hints c.args.view.now) truth c.args.draft.now c.args.draft.now c.args.root tree c.args.page u node i there c.requires c.from_residual-in_err-next.result (returns-in_err-next-clause-at g c)

pub returns-in_err-next-clause-fair : goal.returns-in_err-next-clause-fair
returns-in_err-next-clause-fair g c =
    split_fair c.args.areas c.args.near (g.V.View.held c.args.view.now) (g.V.View.hints c.args.view.now) c.args.draft.now c.args.draft.now c.args.root c.args.page (g.met.V.View.shares c.args.view.now) c.from_residual-in_err-next.result (returns-in_err-next-clause-at g c)

pub returns-in_err-next-clause-held : goal.returns-in_err-next-clause-held
returns-in_err-next-clause-held g c = λ before.
    split_held c.args.areas c.args.near (g.V.View.held c.args.view.now) (g.V.View.hints c.args.view.now) c.args.draft.now c.args.draft.now c.args.root c.args.page before c.from_residual-in_err-next.result (returns-in_err-next-clause-at g c)

pub returns-in_err-next-clause-taken : goal.returns-in_err-next-clause-taken
returns-in_err-next-clause-taken g c =
    split_taken c.args.areas c.args.near (g.V.View.held c.args.view.now) (g.V.View.hints c.args.view.now) c.args.draft.now c.args.draft.now c.args.root c.args.page (g.met.V.View.shares c.args.view.now) c.from_residual-in_err-next.result (returns-in_err-next-clause-at g c)

pub returns-in_err-put_halves-clause-at : goal.returns-in_err-put_halves-clause-at
returns-in_err-put_halves-clause-at g c = search rules

pub returns-in_err-put_halves-clause-map : goal.returns-in_err-put_halves-clause-map
returns-in_err-put_halves-clause-map g c = λ truth tree node u i there.
    splits_in c.args.areas c.args.near (g.V.View.held c.args.view.now) (g.V.View.hints c.args.view.now) truth c.args.draft.now c.args.draft.now c.args.root tree c.args.page u node i there c.requires c.from_residual-in_err-put_halves.result (returns-in_err-put_halves-clause-at g c)

pub returns-in_err-put_halves-clause-fair : goal.returns-in_err-put_halves-clause-fair
returns-in_err-put_halves-clause-fair g c =
    split_fair c.args.areas c.args.near (g.V.View.held c.args.view.now) (g.V.View.hints c.args.view.now) c.args.draft.now c.args.draft.now c.args.root c.args.page (g.met.V.View.shares c.args.view.now) c.from_residual-in_err-put_halves.result (returns-in_err-put_halves-clause-at g c)

pub returns-in_err-put_halves-clause-held : goal.returns-in_err-put_halves-clause-held
returns-in_err-put_halves-clause-held g c = λ before.
    split_held c.args.areas c.args.near (g.V.View.held c.args.view.now) (g.V.View.hints c.args.view.now) c.args.draft.now c.args.draft.now c.args.root c.args.page before c.from_residual-in_err-put_halves.result (returns-in_err-put_halves-clause-at g c)

pub returns-in_err-put_halves-clause-taken : goal.returns-in_err-put_halves-clause-taken
returns-in_err-put_halves-clause-taken g c =
    split_taken c.args.areas c.args.near (g.V.View.held c.args.view.now) (g.V.View.hints c.args.view.now) c.args.draft.now c.args.draft.now c.args.root c.args.page (g.met.V.View.shares c.args.view.now) c.from_residual-in_err-put_halves.result (returns-in_err-put_halves-clause-at g c)

pub returns-clause-at : goal.returns-clause-at
returns-clause-at g c = record {
  page = c.in_ok-owned.owned;
  owned = c.in_ok-owned.ensures;
  cuts = elim (subst (λ (d : List Changed). HalvesAt (g.V.View.held c.args.view.now) d c.put_halves.new.draft c.args.root c.args.page c.in_ok-owned.owned c.args.near c.args.areas (Ok c.in_ok-put_halves.field-0))
      (c.in_ok-next.ensures c.blocks-blocks.ensures.draft) c.in_ok-put_halves.ensures) [ inl r ↦ inl (r.0, (r.1).cuts) | inr r ↦ inr (r.0, (r.1).cuts) ];
}

pub returns-clause-map : goal.returns-clause-map
returns-clause-map g c = λ truth tree node u i there.
    splits_in c.args.areas c.args.near (g.V.View.held c.args.view.now) (g.V.View.hints c.args.view.now) truth c.args.draft.now c.put_halves.new.draft c.args.root tree c.args.page u node i there c.requires (Ok tt) (returns-clause-at g c)

pub returns-clause-fair : goal.returns-clause-fair
returns-clause-fair g c =
    split_fair c.args.areas c.args.near (g.V.View.held c.args.view.now) (g.V.View.hints c.args.view.now) c.args.draft.now c.put_halves.new.draft c.args.root c.args.page (g.met.V.View.shares c.args.view.now) (Ok tt) (returns-clause-at g c)

pub returns-clause-held : goal.returns-clause-held
returns-clause-held g c = λ before.
    split_held c.args.areas c.args.near (g.V.View.held c.args.view.now) (g.V.View.hints c.args.view.now) c.args.draft.now c.put_halves.new.draft c.args.root c.args.page before (Ok tt) (returns-clause-at g c)

pub returns-clause-taken : goal.returns-clause-taken
returns-clause-taken g c =
    split_taken c.args.areas c.args.near (g.V.View.held c.args.view.now) (g.V.View.hints c.args.view.now) c.args.draft.now c.put_halves.new.draft c.args.root c.args.page (g.met.V.View.shares c.args.view.now) (Ok tt) (returns-clause-at g c)
