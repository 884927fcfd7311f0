use Rattle.std.proofs.Common.{ℕ, List}
use Rattle.bx_xdr.proofs.Grammar.{lacks-made, reads_made}
use Rattle.bx_model.specs.declared.call.Args.TheVariants.{Path}
use Rattle.bx_nfs.specs.Items.{SpellsPath}
use Rattle.bx_nfs.proofs.arguments.to_path.Goals as goal

pub returns-in_default-clause-none : goal.returns-in_default-clause-none
returns-in_default-clause-none c = lacks-made (λ (path : List ℕ). Path path) SpellsPath _ c.in_default.ensures.none

pub returns-clause-found : goal.returns-clause-found
returns-clause-found c = rw (c.in_ok-path.ensures) (reads_made (λ (path : List ℕ). Path path) SpellsPath _ _ _ c.in-Some.ensures.some)
