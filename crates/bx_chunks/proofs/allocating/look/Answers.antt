use Rattle.std.proofs.Common.{ℕ, ap, sym, ◌∙◌, Option}
use Rattle.std.specs.Prelude.{unwrap_or}
use Rattle.bx_base.specs.declared.names.Mode.TheVariants.{Shared}
use Rattle.bx_layout.specs.declared.block.Block.{Block}
use Rattle.bx_records.specs.Drafts.{block_in}
use Rattle.bx_chunks.proofs.Looks.{looks_at}
use Rattle.bx_chunks.proofs.allocating.look.Goals as goal

pub returns-in_ok-found-in-None-find : goal.returns-in_ok-found-in-None-find
returns-in_ok-found-in-None-find g c =
    looks_at (g.V.View.held c.args.view.now) c.args.draft.now c.args.area c.in-Some.held.now c.in-Some.held.now c.in_ok-found-in-None-find.found
    (ap (λ (n : ℕ). g.V.View.held c.args.view.now n Shared) (sym c.own_block-own.ensures) ∙ sym c.in-Some.ensures)
    (ap (λ (n : ℕ). unwrap_or (block_in c.args.draft.now n) c.in-Some.held.now) (sym c.own_block-own.ensures) ∙ ap (λ (o : Option Block). unwrap_or o c.in-Some.held.now) (sym c.in-None-find.ensures))
    c.in_ok-found-in-None-find.ensures

pub returns-in_ok-found-in-Some-find : goal.returns-in_ok-found-in-Some-find
returns-in_ok-found-in-Some-find g c =
    looks_at (g.V.View.held c.args.view.now) c.args.draft.now c.args.area c.in-Some.held.now c.in-Some-find.changed.now c.in_ok-found-in-Some-find.found
    (ap (λ (n : ℕ). g.V.View.held c.args.view.now n Shared) (sym c.own_block-own.ensures) ∙ sym c.in-Some.ensures)
    (ap (λ (n : ℕ). unwrap_or (block_in c.args.draft.now n) c.in-Some.held.now) (sym c.own_block-own.ensures) ∙ ap (λ (o : Option Block). unwrap_or o c.in-Some.held.now) (sym c.in-Some-find.ensures))
    c.in_ok-found-in-Some-find.ensures
