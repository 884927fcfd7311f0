-- A datagram is one call at most.
use Rattle.std.proofs.Common.{◌≡◌, ℕ, ◌<◌, ◌≤◌, List, length, drop, refl, sym, ap, ◌∙◌, inl, inr, arith}
use Rattle.bx_rpc.specs.declared.caller.Caller.{Caller}
use Rattle.bx_rpc.specs.declared.opened.Opened.{Opened}
use Rattle.bx_rpc.specs.Checks.{Verdict}
use Rattle.bx_rpc.specs.Checks.Verdict.{refused, passed}
use Rattle.bx_rpc.specs.Message.{Says, Opens}
use Rattle.bx_rpc.proofs.Verdicts.{verdict_once}
use Rattle.bx_rpc.proofs.Openings.{call_once}
use Rattle.bx_model.specs.declared.call.Call.{Call}
use Rattle.bx_nfs.specs.Forms.{form_of}
use Rattle.bx_nfs.specs.Wire.{refused_call, passed_call, FromArguments, IsOf, ReadsAs}
use Rattle.bx_nfs.proofs.OneForm.{arguments_once}

arguments_same : (p q : ℕ) (caller : Caller) (text : List ℕ) (a b : Call) → FromArguments p q caller a text → FromArguments p q caller b text → a ≡ b
arguments_same p q caller text a b (inl x) (inl y) = x.1 ∙ sym y.1
arguments_same p q caller text a b (inl x) (inr y) = absurd (x.0 y.0 y.1 y.2)
arguments_same p q caller text a b (inr x) (inl y) = absurd (y.0 x.0 x.1 x.2)
arguments_same p q caller text a b (inr x) (inr y) =
    let same = arguments_once (form_of p q) text x.1 y.1 x.0 y.0 x.2 y.2 in
    x.3 ∙ ap (passed_call p q caller) same.0 ∙ sym y.3

is_of-same : (verdict : Verdict) (a b : Call) → IsOf verdict a → IsOf verdict b → a ≡ b
is_of-same (refused n by) a b x y = x ∙ sym y
is_of-same (passed p q caller text) a b x y = arguments_same p q caller text a b x y

-- a datagram is one call at most
pub reads_once : (bytes : List ℕ) (x y : ℕ) (a b : Call) → ReadsAs bytes x a → ReadsAs bytes y b → (x ≡ y) × (a ≡ b)
reads_once bytes x y a b r s =
    let message = call_once bytes x y r.text s.text r.message s.message in
    let verdict = verdict_once s.text r.verdict s.verdict (rw message.1 at r.checked) s.checked in
    (message.0, is_of-same s.verdict a b (rw verdict at r.says) s.says)

-- a datagram that opens is a call
reads-refused : (bytes : List ℕ) (verdict : Verdict) (opened : Opened) → Says bytes verdict opened → 0 < opened.refusal → IsOf verdict (refused_call opened.refusal opened.program)
reads-refused bytes (refused n by) opened says positive = rw (says.number, says.program) refl
reads-refused bytes (passed p q caller text) opened says positive = absurd (omega (arith, says.number))

pub refused_reads : (bytes : List ℕ) (opened : Opened) → Opens bytes opened → (opened.refusal ≡ 0 → ⊥) → ReadsAs bytes opened.xid (refused_call opened.refusal opened.program)
refused_reads bytes opened opens other = record {
  text = opens.text;
  verdict = opens.verdict;
  message = opens.call;
  checked = opens.checked;
  says = reads-refused bytes opens.verdict opened opens.says (omega (arith, other));
}

abbrev pub caller_in : Opened → Caller
caller_in opened = record { uid = opened.uid; gid = opened.gid; gids = opened.gids }

reads-passed : (bytes : List ℕ) (verdict : Verdict) (opened : Opened) (call : Call) → Says bytes verdict opened → opened.refusal ≡ 0
    → FromArguments opened.program opened.procedure (caller_in opened) call (drop opened.rest bytes) → IsOf verdict call
reads-passed bytes (refused n by) opened call says none from = absurd (omega (arith, says.number, says.positive))
reads-passed bytes (passed p q caller text) opened call says none from = rw (says.program, says.procedure, says.uid, says.gid, says.gids, says.arguments) at from

pub passed_reads : (bytes : List ℕ) (opened : Opened) (call : Call) → Opens bytes opened → opened.refusal ≡ 0
    → FromArguments opened.program opened.procedure (caller_in opened) call (drop opened.rest bytes) → ReadsAs bytes opened.xid call
passed_reads bytes opened call opens none from = record {
  text = opens.text;
  verdict = opens.verdict;
  message = opens.call;
  checked = opens.checked;
  says = reads-passed bytes opens.verdict opened call opens.says none from;
}

-- the arguments begin in the datagram
pub rest_in : (bytes : List ℕ) (verdict : Verdict) (opened : Opened) → Says bytes verdict opened → opened.refusal ≡ 0 → opened.rest ≤ length bytes
rest_in bytes (refused n by) opened says none = absurd (omega (arith, says.number, says.positive))
rest_in bytes (passed p q caller text) opened says none = omega (arith, says.place)
