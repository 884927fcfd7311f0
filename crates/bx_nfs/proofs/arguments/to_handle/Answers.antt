use Rattle.std.proofs.Common.{ℕ, List}
use Rattle.bx_xdr.proofs.Grammar.{lacks-made, reads_made}
use Rattle.bx_model.specs.declared.call.Args.TheVariants.{Handle}
use Rattle.bx_nfs.specs.Items.{SpellsHandle}
use Rattle.bx_nfs.proofs.arguments.to_handle.Goals as goal

pub returns-in_default-clause-none : goal.returns-in_default-clause-none
returns-in_default-clause-none c = lacks-made (λ (handle : List ℕ). Handle handle) SpellsHandle _ c.in_default.ensures.none

pub returns-clause-found : goal.returns-clause-found
returns-clause-found c = rw (c.in_ok-handle.ensures) (reads_made (λ (handle : List ℕ). Handle handle) SpellsHandle _ _ _ c.in-Some.ensures.some)
