-- What is checked of a call before its arguments, in this order, from the version of RPC on (RFC 5531, section 9). Each check
-- has the number of the refusal that follows where it fails.
use Rattle.std.specs.Prelude.{◌≡◌, ℕ, ◌≤◌, ◌==◌, if◌then◌else◌, List, ◌⊎◌}
use Rattle.bx_xdr.specs.Items.{SpellsWord, SpellsOpaque, Reads, Lacks}
use Rattle.bx_rpc.specs.declared.caller.Caller.{Caller}
use Rattle.bx_rpc.specs.Callers.{Names, SpellsVerifier}

-- What the checks come to: the call is refused, with a number and the program that the reply goes by (0 where it goes by
-- none); or it passes, with its program, procedure and caller, and the bytes that its arguments begin.
pub data Verdict : Type 0 where
  refused : ℕ → ℕ → Verdict
  passed : ℕ → ℕ → Caller → List ℕ → Verdict

-- the program is NFS (RFC 1094) or MOUNT (RFC 1094, appendix A)
abbrev pub IsProgram : ℕ → Type 0
IsProgram program = (program ≡ 100003) ⊎ (program ≡ 100005)

-- the one version of a program that is served
abbrev pub version_of : ℕ → ℕ
version_of program = if program == 100003 then 2 else 1

-- the greatest number of a procedure of a program (RFC 1094, section 2.2 and appendix A)
abbrev pub last_procedure : ℕ → ℕ
last_procedure program = if program == 100003 then 17 else 5

-- The next item of the kind and what comes behind it decide. A datagram that ends before the item, or in it, is refused as 7.
abbrev pub Next : {V : Type 0} → (V → List ℕ → Type 0) → (V → List ℕ → Type 0) → Verdict → List ℕ → Type 0
Next {V} Spells Decides verdict text = (Lacks Spells text × (verdict ≡ refused 7 0)) ⊎ ((item : V) × (rest : List ℕ) × Reads (Spells item) text rest × Decides item rest)

-- What is checked holds, and what comes next decides. Where it doesn't hold, the call is refused so.
abbrev pub Check : Type 0 → Verdict → Verdict → Type 0 → Type 0
Check Holds refusal verdict Decides = (Holds × Decides) ⊎ ((Holds → ⊥) × (verdict ≡ refusal))

-- 7: the verifier can be read. All is checked then.
abbrev pub FromVerifier : ℕ → ℕ → Caller → Verdict → List ℕ → Type 0
FromVerifier program procedure caller verdict text = Next SpellsVerifier (λ verifier arguments. verdict ≡ passed program procedure caller arguments) verdict text

-- 6: the credential names a caller.
abbrev pub FromCaller : ℕ → ℕ → ℕ → List ℕ → Verdict → List ℕ → Type 0
FromCaller program procedure flavor body verdict text =
    ((caller : Caller) × Names flavor body caller × FromVerifier program procedure caller verdict text)
    ⊎ (((caller : Caller) → Names flavor body caller → ⊥) × (verdict ≡ refused 6 0))

-- 6: the credential's body has at most 400 bytes. That is checked before it is known whether they are all there, which is 7.
abbrev pub FromBody : ℕ → ℕ → ℕ → Verdict → List ℕ → Type 0
FromBody program procedure flavor verdict text =
    Next SpellsWord (λ len behind. Check (len ≤ 400) (refused 6 0) verdict (Next (SpellsOpaque 400) (λ body rest. FromCaller program procedure flavor body verdict rest) verdict text)) verdict text

-- 5: the credential's flavor is AUTH_NONE (0) or AUTH_SYS (1).
abbrev pub FromCredential : ℕ → ℕ → Verdict → List ℕ → Type 0
FromCredential program procedure verdict text =
    Next SpellsWord (λ flavor rest. Check ((flavor ≡ 0) ⊎ (flavor ≡ 1)) (refused 5 0) verdict (FromBody program procedure flavor verdict rest)) verdict text

-- 4: the program has the procedure.
abbrev pub FromProcedure : ℕ → Verdict → List ℕ → Type 0
FromProcedure program verdict text =
    Next SpellsWord (λ procedure rest. Check (procedure ≤ last_procedure program) (refused 4 0) verdict (FromCredential program procedure verdict rest)) verdict text

-- 3: the version of the program is served. The reply goes by the program.
abbrev pub FromVersion : ℕ → Verdict → List ℕ → Type 0
FromVersion program verdict text =
    Next SpellsWord (λ version rest. Check (version ≡ version_of program) (refused 3 program) verdict (FromProcedure program verdict rest)) verdict text

-- 2: the program is served.
abbrev pub FromProgram : Verdict → List ℕ → Type 0
FromProgram verdict text = Next SpellsWord (λ program rest. Check (IsProgram program) (refused 2 0) verdict (FromVersion program verdict rest)) verdict text

-- 1: the version of RPC is 2.
abbrev pub Checks : Verdict → List ℕ → Type 0
Checks verdict text = Next SpellsWord (λ version rest. Check (version ≡ 2) (refused 1 0) verdict (FromProgram verdict rest)) verdict text
