-- What a datagram's call lacks, by what the call lacks; and what tells 8 free blocks lacks nothing.
use Rattle.std.proofs.Common.{ℕ, List}
use Rattle.std.specs.Prelude.{◌≢◌}
use Rattle.bx_attempts.specs.Calls.{IsChanging}
use Rattle.bx_attempts.specs.Full.{TellsFull}
use Rattle.bx_engine.specs.Full.{IsFullCall, LacksRoom}
use Rattle.bx_engine.specs.Outcomes.{TellsEnough}
use Rattle.bx_model.specs.declared.call.Call.{Call}
use Rattle.bx_nfs.specs.Wire.{ReadsAs}
use Rattle.bx_views.specs.declared.attempt.Attempt.{Attempt}
use Rattle.bx_views.specs.declared.attempt.Attempt.TheVariants.{Need, Change, Inner, Answer}
use Rattle.bx_views.specs.Attempts.{IfActed}
use Rattle.bx_views.specs.Truths.{Held, Hints}

pub enough_lacks : (Lacks : ℕ → Type 0) (attempt : Attempt) → TellsEnough attempt → IfActed (λ done. done.spare ≢ 8 → Lacks done.spare) attempt
enough_lacks Lacks (Need wants) enough = tt
enough_lacks Lacks (Change draft done) enough = λ other. absurd (other enough)
enough_lacks Lacks (Inner draft) enough = tt
enough_lacks Lacks (Answer done) enough = λ other. absurd (other enough)

module _ (held : Held) (hints : Hints) (volume areas : ℕ) (call : Call) where
  pub change_lacks : IsChanging call → (attempt : Attempt) → TellsFull held hints volume areas call.args attempt → IfActed (λ done. done.spare ≢ 8 → LacksRoom held hints volume areas call done.spare) attempt
  change_lacks changes (Need wants) full = tt
  change_lacks changes (Change draft done) full = λ other. record { changes = changes; full = full other }
  change_lacks changes (Inner draft) full = tt
  change_lacks changes (Answer done) full = λ other. record { changes = changes; full = full other }

  pub full_call : (bytes : List ℕ) (xid : ℕ) → ReadsAs bytes xid call → (attempt : Attempt) → IfActed (λ done. done.spare ≢ 8 → LacksRoom held hints volume areas call done.spare) attempt
      → IfActed (λ done. done.spare ≢ 8 → IsFullCall held hints volume areas bytes done.spare) attempt
  full_call bytes xid reads (Need wants) lacks = tt
  full_call bytes xid reads (Change draft done) lacks = λ other. record { xid = xid; call = call; reads = reads; lacks = lacks other }
  full_call bytes xid reads (Inner draft) lacks = tt
  full_call bytes xid reads (Answer done) lacks = λ other. record { xid = xid; call = call; reads = reads; lacks = lacks other }
