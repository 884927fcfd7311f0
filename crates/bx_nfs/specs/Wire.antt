-- Which bytes are which call, and which bytes are which reply.
use Rattle.std.specs.Prelude.{◌≡◌, ℕ, List, [], ◌⊎◌}
use Rattle.bx_xdr.specs.Items.{Reads, Lacks}
use Rattle.bx_rpc.specs.declared.caller.Caller.{Caller}
use Rattle.bx_rpc.specs.Checks.{Verdict, Checks}
use Rattle.bx_rpc.specs.Checks.Verdict.{refused, passed}
use Rattle.bx_rpc.specs.Message.{IsCall}
use Rattle.bx_model.specs.declared.call.Args.{Args}
use Rattle.bx_model.specs.declared.call.Args.TheVariants.{Refused}
use Rattle.bx_model.specs.declared.call.Call.{Call}
use Rattle.bx_nfs.specs.Forms.{Arguments, form_of}
pub use Rattle.bx_nfs.specs.Results.{reply_text}

-- a call that is refused as a message, with the number of the refusal and the program that its reply goes by
abbrev pub refused_call : ℕ → ℕ → Call
refused_call number program = record { program = program; procedure = 0; uid = 0; gid = 0; gids = []; args = Refused number }

-- a call that passes
abbrev pub passed_call : ℕ → ℕ → Caller → Args → Call
passed_call program procedure caller args = record { program = program; procedure = procedure; uid = caller.uid; gid = caller.gid; gids = caller.gids; args = args }

-- 7: the arguments of the procedure can be read. What stands behind them is passed over.
abbrev pub FromArguments : ℕ → ℕ → Caller → Call → List ℕ → Type 0
FromArguments program procedure caller call text =
    (Lacks (Arguments (form_of program procedure)) text × (call ≡ refused_call 7 0))
    ⊎ ((args : Args) × (rest : List ℕ) × Reads (Arguments (form_of program procedure) args) text rest × (call ≡ passed_call program procedure caller args))

-- the call, by what the checks before its arguments come to
abbrev pub IsOf : Verdict → Call → Type 0
IsOf (refused number program) call = call ≡ refused_call number program
IsOf (passed program procedure caller arguments) call = FromArguments program procedure caller call arguments

-- The bytes are a call with this number (RFC 5531, section 9).
pub record ReadsAs (bytes : List ℕ) (xid : ℕ) (call : Call) : Type 0 where
  pub text : List ℕ
  pub verdict : Verdict
  pub message : IsCall bytes xid text
  pub checked : Checks verdict text
  pub says : IsOf verdict call
