-- The arguments of a call that passes stand at its end.
use Rattle.std.proofs.Common.{◌≡◌, ℕ, List, [], ◌++◌, sym, ap, ◌∙◌, append_assoc, inl, inr}
use Rattle.bx_xdr.specs.Items.{Reads}
use Rattle.bx_rpc.specs.declared.caller.Caller.{Caller}
use Rattle.bx_rpc.specs.Checks.{Next, Check, Checks, FromProgram, FromVersion, FromProcedure, FromCredential, FromBody, FromCaller, FromVerifier}
use Rattle.bx_rpc.specs.Checks.Verdict.{refused, passed}

pub record IsBehind (tail text : List ℕ) : Type 0 where
  pub front : List ℕ
  pub parts : text ≡ front ++ tail

pub behind_more : (Spells : List ℕ → Type 0) (tail text rest : List ℕ) → Reads Spells text rest → IsBehind tail rest → IsBehind tail text
behind_more Spells tail text rest p q = record {
  front = p.spelling ++ q.front;
  parts = p.parts ∙ ap (λ (s : List ℕ). p.spelling ++ s) q.parts ∙ sym (append_assoc p.spelling q.front tail);
}

apart : (n by p q : ℕ) (caller : Caller) (tail : List ℕ) → passed p q caller tail ≡ refused n by → ⊥
apart n by p q caller tail e = absurd cc

next_behind : {V : Type 0} (Spells : V → List ℕ → Type 0) (P : V → List ℕ → Type 0) (p q : ℕ) (caller : Caller) (tail text : List ℕ)
    → ((item : V) (rest : List ℕ) → P item rest → IsBehind tail rest) → Next Spells P (passed p q caller tail) text → IsBehind tail text
next_behind Spells P p q caller tail text then (inl x) = absurd (apart 7 0 p q caller tail x.1)
next_behind Spells P p q caller tail text then (inr x) = behind_more (Spells x.0) tail text x.1 x.2 (then x.0 x.1 x.3)

check_behind : (Holds : Type 0) (n by p q : ℕ) (caller : Caller) (tail text : List ℕ) (P : Type 0) → (P → IsBehind tail text) → Check Holds (refused n by) (passed p q caller tail) P → IsBehind tail text
check_behind Holds n by p q caller tail text P then (inl x) = then x.1
check_behind Holds n by p q caller tail text P then (inr x) = absurd (apart n by p q caller tail x.1)

same_tail : (p q m n : ℕ) (a b : Caller) (s t : List ℕ) → passed p q a s ≡ passed m n b t → s ≡ t
same_tail p q m n a b s t e = cc

verifier_behind : (m n : ℕ) (who : Caller) (p q : ℕ) (caller : Caller) (tail text : List ℕ) → FromVerifier m n who (passed p q caller tail) text → IsBehind tail text
verifier_behind m n who p q caller tail text =
    next_behind _ _ p q caller tail text (λ item rest e. record { front = []; parts = sym (same_tail p q m n caller who tail rest e) })

caller_behind : (m n flavor : ℕ) (body : List ℕ) (p q : ℕ) (caller : Caller) (tail text : List ℕ) → FromCaller m n flavor body (passed p q caller tail) text → IsBehind tail text
caller_behind m n flavor body p q caller tail text (inl x) = verifier_behind m n x.0 p q caller tail text x.2
caller_behind m n flavor body p q caller tail text (inr x) = absurd (apart 6 0 p q caller tail x.1)

body_behind : (m n flavor p q : ℕ) (caller : Caller) (tail text : List ℕ) → FromBody m n flavor (passed p q caller tail) text → IsBehind tail text
body_behind m n flavor p q caller tail text (inl x) = absurd (apart 7 0 p q caller tail x.1)
body_behind m n flavor p q caller tail text (inr x) =
    check_behind _ 6 0 p q caller tail text _ (next_behind _ _ p q caller tail text (λ body rest. caller_behind m n flavor body p q caller tail rest)) x.3

credential_behind : (m n p q : ℕ) (caller : Caller) (tail text : List ℕ) → FromCredential m n (passed p q caller tail) text → IsBehind tail text
credential_behind m n p q caller tail text =
    next_behind _ _ p q caller tail text (λ flavor rest. check_behind _ 5 0 p q caller tail rest _ (body_behind m n flavor p q caller tail rest))

procedure_behind : (m p q : ℕ) (caller : Caller) (tail text : List ℕ) → FromProcedure m (passed p q caller tail) text → IsBehind tail text
procedure_behind m p q caller tail text =
    next_behind _ _ p q caller tail text (λ n rest. check_behind _ 4 0 p q caller tail rest _ (credential_behind m n p q caller tail rest))

version_behind : (m p q : ℕ) (caller : Caller) (tail text : List ℕ) → FromVersion m (passed p q caller tail) text → IsBehind tail text
version_behind m p q caller tail text =
    next_behind _ _ p q caller tail text (λ version rest. check_behind _ 3 m p q caller tail rest _ (procedure_behind m p q caller tail rest))

program_behind : (p q : ℕ) (caller : Caller) (tail text : List ℕ) → FromProgram (passed p q caller tail) text → IsBehind tail text
program_behind p q caller tail text =
    next_behind _ _ p q caller tail text (λ m rest. check_behind _ 2 0 p q caller tail rest _ (version_behind m p q caller tail rest))

pub passed_behind : (p q : ℕ) (caller : Caller) (tail text : List ℕ) → Checks (passed p q caller tail) text → IsBehind tail text
passed_behind p q caller tail text =
    next_behind _ _ p q caller tail text (λ version rest. check_behind _ 1 0 p q caller tail rest _ (program_behind p q caller tail rest))
