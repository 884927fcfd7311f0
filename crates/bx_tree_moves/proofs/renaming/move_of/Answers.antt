use Rattle.std.proofs.Common.{◌≡◌, ℕ, Ok, Err, ◌∙◌, sym, ap, subst}
use Rattle.std.specs.Prelude.{MatchResult, Result}
use Rattle.bx_tree_files.specs.declared.file.File.{File}
use Rattle.bx_model.specs.declared.reply.Reply.TheVariants as reply
use Rattle.bx_model.specs.Moves.{move_between}
use Rattle.bx_tree_moves.specs.Moving.{after_moves}
use Rattle.bx_model.specs.Renaming.{rename}
use Rattle.bx_model.specs.Steps.{Outcome, ◌>>=◌}
use Rattle.bx_model.proofs.Renamed.{rename_in_two}
use Rattle.bx_tree_moves.proofs.renaming.move_of.Goals as goal

pub returns-in-Err-clause-found : goal.returns-in-Err-clause-found
returns-in-Err-clause-found c =
    let next : File × File → Outcome = λ found. move_between c.args.tree.now found.0 c.args.name.now found.1 c.args.new_name.now c.args.now c.args.spare in
    rename_in_two c.args.tree.now c.args.call.now c.args.from.now c.args.name.now c.args.to.now c.args.new_name.now c.args.now c.args.spare
    ∙ ap (λ (places : Result (File × File) ℕ). places >>= next) c.in-Err.ensures.found

pub returns-clause-found : goal.returns-clause-found
returns-clause-found c =
    let next : File × File → Outcome = λ found. move_between c.args.tree.now found.0 c.args.name.now found.1 c.args.new_name.now c.args.now c.args.spare in
    let here : rename c.args.tree.now c.args.call.now c.args.from.now c.args.name.now c.args.to.now c.args.new_name.now c.args.now c.args.spare ≡ next (c.in-Ok.places.0.now, c.in-Ok.places.1.now) =
    rename_in_two c.args.tree.now c.args.call.now c.args.from.now c.args.name.now c.args.to.now c.args.new_name.now c.args.now c.args.spare
    ∙ ap (λ (places : Result (File × File) ℕ). places >>= next) c.in-Ok.ensures.found in
    subst
    (λ (outcome : Outcome). MatchResult c.move_between.result (λ found. outcome ≡ Ok (reply.Status 0, after_moves c.args.tree.now found)) (λ status. outcome ≡ Err status))
    (sym here) c.move_between.ensures.found
