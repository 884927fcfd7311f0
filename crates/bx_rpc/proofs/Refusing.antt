-- The number of a refusal is 1 to 7, and the reply goes by a program where it is 3.
use Rattle.std.proofs.Common.{◌≡◌, ℕ, ◌<◌, ◌≤◌, List, ◌∙◌, inl, inr, arith}
use Rattle.bx_rpc.specs.declared.caller.Caller.{Caller}
use Rattle.bx_rpc.specs.Checks.{Verdict, IsProgram, Next, Check, Checks, FromProgram, FromVersion, FromProcedure, FromCredential, FromBody, FromCaller, FromVerifier}
use Rattle.bx_rpc.specs.Checks.Verdict.{refused, passed}
use Rattle.bx_rpc.specs.Message.{IsRefusal}

same_numbers : (n by m b : ℕ) → refused n by ≡ refused m b → (n ≡ m) × (by ≡ b)
same_numbers n by m b e = (cc, cc)

apart : (n by p q : ℕ) (caller : Caller) (tail : List ℕ) → refused n by ≡ passed p q caller tail → ⊥
apart n by p q caller tail e = absurd cc

-- a refusal that goes by no program
plain : (n by m : ℕ) → 0 < m → m ≤ 7 → refused n by ≡ refused m 0 → IsRefusal n by
plain n by m positive small e = let same = same_numbers n by m 0 e in record { positive = omega (arith, same.0); small = omega (arith, same.0); program = inl same.1 }

next_numbers : {V : Type 0} (Spells : V → List ℕ → Type 0) (P : V → List ℕ → Type 0) (n by : ℕ) (text : List ℕ)
    → ((item : V) (rest : List ℕ) → P item rest → IsRefusal n by) → Next Spells P (refused n by) text → IsRefusal n by
next_numbers Spells P n by text then (inl x) = plain n by 7 (omega arith) (omega arith) x.1
next_numbers Spells P n by text then (inr x) = then x.0 x.1 x.3

check_numbers : (Holds : Type 0) (refusal : Verdict) (n by : ℕ) (P : Type 0) → (P → IsRefusal n by) → (refused n by ≡ refusal → IsRefusal n by)
    → Check Holds refusal (refused n by) P → IsRefusal n by
check_numbers Holds refusal n by P then other (inl x) = then x.1
check_numbers Holds refusal n by P then other (inr x) = other x.1

verifier_numbers : (p q : ℕ) (caller : Caller) (n by : ℕ) (text : List ℕ) → FromVerifier p q caller (refused n by) text → IsRefusal n by
verifier_numbers p q caller n by text = next_numbers _ _ n by text (λ item rest e. absurd (apart n by p q caller rest e))

caller_numbers : (p q flavor : ℕ) (body : List ℕ) (n by : ℕ) (text : List ℕ) → FromCaller p q flavor body (refused n by) text → IsRefusal n by
caller_numbers p q flavor body n by text (inl x) = verifier_numbers p q x.0 n by text x.2
caller_numbers p q flavor body n by text (inr x) = plain n by 6 (omega arith) (omega arith) x.1

body_numbers : (p q flavor n by : ℕ) (text : List ℕ) → FromBody p q flavor (refused n by) text → IsRefusal n by
body_numbers p q flavor n by text =
    next_numbers _ _ n by text (λ len behind. check_numbers _ _ n by _ (next_numbers _ _ n by text (λ body rest. caller_numbers p q flavor body n by rest)) (plain n by 6 (omega arith) (omega arith)))

credential_numbers : (p q n by : ℕ) (text : List ℕ) → FromCredential p q (refused n by) text → IsRefusal n by
credential_numbers p q n by text =
    next_numbers _ _ n by text (λ flavor rest. check_numbers _ _ n by _ (body_numbers p q flavor n by rest) (plain n by 5 (omega arith) (omega arith)))

procedure_numbers : (p n by : ℕ) (text : List ℕ) → FromProcedure p (refused n by) text → IsRefusal n by
procedure_numbers p n by text =
    next_numbers _ _ n by text (λ procedure rest. check_numbers _ _ n by _ (credential_numbers p procedure n by rest) (plain n by 4 (omega arith) (omega arith)))

by_program : (p n by : ℕ) → IsProgram p → refused n by ≡ refused 3 p → IsRefusal n by
by_program p n by known e =
    let same = same_numbers n by 3 p e in
    record { positive = omega (arith, same.0); small = omega (arith, same.0); program = inr (same.0, elim known [ inl x ↦ inl (same.1 ∙ x) | inr x ↦ inr (same.1 ∙ x) ]) }

version_numbers : (p n by : ℕ) (text : List ℕ) → IsProgram p → FromVersion p (refused n by) text → IsRefusal n by
version_numbers p n by text known =
    next_numbers _ _ n by text (λ version rest. check_numbers _ _ n by _ (procedure_numbers p n by rest) (by_program p n by known))

program_numbers : (n by : ℕ) (text : List ℕ) → FromProgram (refused n by) text → IsRefusal n by
program_numbers n by text (inl x) = plain n by 7 (omega arith) (omega arith) x.1
program_numbers n by text (inr x) = elim x.3 [ inl y ↦ version_numbers x.0 n by x.1 y.0 y.1 | inr y ↦ plain n by 2 (omega arith) (omega arith) y.1 ]

pub refusal_numbers : (text : List ℕ) (n by : ℕ) → Checks (refused n by) text → IsRefusal n by
refusal_numbers text n by =
    next_numbers _ _ n by text (λ version rest. check_numbers _ _ n by _ (program_numbers n by rest) (plain n by 1 (omega arith) (omega arith)))
