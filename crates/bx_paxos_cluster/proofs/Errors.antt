-- An error that is handed on.
use Rattle.std.proofs.Common.{◌≡◌, Result, Err, ap, ◌∙◌}
use Rattle.std.specs.Prelude.{IsErrOf}
use Rattle.bx_facts.specs.declared.input.OpenError.{OpenError}

err_same : {A : Type 0} (r : Result A OpenError) (e f : OpenError) → r ≡ Err e → r ≡ Err f → e ≡ f
err_same r e f one other = cc

pub handed_on : {A B : Type 0} (r : Result A OpenError) (s : Result B OpenError) (e x : OpenError) → r ≡ Err e → s ≡ Err e → IsErrOf s x → IsErrOf r x
handed_on r s e x one other is = one ∙ ap Err (err_same s e x other is)
