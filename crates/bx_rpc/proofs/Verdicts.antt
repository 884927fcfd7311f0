-- The checks come to one verdict at most.
use Rattle.std.proofs.Common.{◌≡◌, ℕ, List, sym, ◌∙◌, inl, inr, arith}
use Rattle.bx_xdr.specs.Items.{SpellsWord, SpellsWords, SpellsOpaque, SpellsList, HasOneReading}
use Rattle.bx_xdr.proofs.Grammar.{one_reading-both, one_reading-made, whole_once}
use Rattle.bx_xdr.proofs.Spelling.{word_once, opaque_same, list_same}
use Rattle.bx_xdr.proofs.Words.{words_once}
use Rattle.bx_rpc.specs.declared.caller.Caller.{Caller}
use Rattle.bx_rpc.specs.Callers.{caller_of, SpellsParts, SpellsAuthSys, SpellsVerifier, Names}
use Rattle.bx_rpc.specs.Checks.{Verdict, Next, Check, Checks, FromProgram, FromVersion, FromProcedure, FromCredential, FromBody, FromCaller, FromVerifier}

next_once : {V : Type 0} (Spells : V → List ℕ → Type 0) (P Q : V → List ℕ → Type 0) (v w : Verdict) (text : List ℕ) → HasOneReading Spells
    → ((item : V) (rest : List ℕ) → P item rest → Q item rest → v ≡ w)
    → Next Spells P v text → Next Spells Q w text → v ≡ w
next_once Spells P Q v w text one then (inl x) (inl y) = x.1 ∙ sym y.1
next_once Spells P Q v w text one then (inl x) (inr y) = absurd (x.0 y.0 y.1 y.2)
next_once Spells P Q v w text one then (inr x) (inl y) = absurd (y.0 x.0 x.1 x.2)
next_once Spells P Q v w text one then (inr x) (inr y) =
    let same = one text x.1 y.1 x.0 y.0 x.2 y.2 in
    then y.0 y.1 (rw (same.0, same.1) at x.3) y.3

check_once : (Holds : Type 0) (refusal v w : Verdict) (P Q : Type 0) → (P → Q → v ≡ w) → Check Holds refusal v P → Check Holds refusal w Q → v ≡ w
check_once Holds refusal v w P Q then (inl x) (inl y) = then x.1 y.1
check_once Holds refusal v w P Q then (inl x) (inr y) = absurd (y.0 x.0)
check_once Holds refusal v w P Q then (inr x) (inl y) = absurd (x.0 y.0)
check_once Holds refusal v w P Q then (inr x) (inr y) = x.1 ∙ sym y.1

verifier_once : (p q : ℕ) (caller : Caller) (text : List ℕ) (v w : Verdict) → FromVerifier p q caller v text → FromVerifier p q caller w text → v ≡ w
verifier_once p q caller text v w = next_once SpellsVerifier _ _ v w text (one_reading-both SpellsWord (SpellsOpaque 400) word_once (opaque_same 400)) (λ item rest x y. x ∙ sym y)

pub parts_once : HasOneReading SpellsParts
parts_once = one_reading-both SpellsWord _ word_once (one_reading-both (SpellsOpaque 255) _ (opaque_same 255) (one_reading-both (SpellsWords 2) (SpellsList 16) (words_once 2) (list_same 16)))

auth_sys_once : (body : List ℕ) (a b : Caller) → SpellsAuthSys a body → SpellsAuthSys b body → a ≡ b
auth_sys_once body a b = whole_once SpellsAuthSys (one_reading-made caller_of SpellsParts parts_once) body a b

-- a credential names one caller at most
pub names_once : (flavor : ℕ) (body : List ℕ) (a b : Caller) → Names flavor body a → Names flavor body b → a ≡ b
names_once flavor body a b (inl x) (inl y) = x.1 ∙ sym y.1
names_once flavor body a b (inl x) (inr y) = absurd (omega (arith, x.0, y.0))
names_once flavor body a b (inr x) (inl y) = absurd (omega (arith, x.0, y.0))
names_once flavor body a b (inr x) (inr y) = auth_sys_once body a b x.1 y.1

caller_once : (p q flavor : ℕ) (body text : List ℕ) (v w : Verdict) → FromCaller p q flavor body v text → FromCaller p q flavor body w text → v ≡ w
caller_once p q flavor body text v w (inl x) (inl y) =
    verifier_once p q y.0 text v w (rw (names_once flavor body x.0 y.0 x.1 y.1) at x.2) y.2
caller_once p q flavor body text v w (inl x) (inr y) = absurd (y.0 x.0 x.1)
caller_once p q flavor body text v w (inr x) (inl y) = absurd (x.0 y.0 y.1)
caller_once p q flavor body text v w (inr x) (inr y) = x.1 ∙ sym y.1

body_once : (p q flavor : ℕ) (text : List ℕ) (v w : Verdict) → FromBody p q flavor v text → FromBody p q flavor w text → v ≡ w
body_once p q flavor text v w = next_once SpellsWord _ _ v w text word_once (λ len behind. check_once _ _ v w _ _ (next_once (SpellsOpaque 400) _ _ v w text (opaque_same 400) (λ body rest. caller_once p q flavor body rest v w)))

credential_once : (p q : ℕ) (text : List ℕ) (v w : Verdict) → FromCredential p q v text → FromCredential p q w text → v ≡ w
credential_once p q text v w = next_once SpellsWord _ _ v w text word_once (λ flavor rest. check_once _ _ v w _ _ (body_once p q flavor rest v w))

procedure_once : (p : ℕ) (text : List ℕ) (v w : Verdict) → FromProcedure p v text → FromProcedure p w text → v ≡ w
procedure_once p text v w = next_once SpellsWord _ _ v w text word_once (λ procedure rest. check_once _ _ v w _ _ (credential_once p procedure rest v w))

version_once : (p : ℕ) (text : List ℕ) (v w : Verdict) → FromVersion p v text → FromVersion p w text → v ≡ w
version_once p text v w = next_once SpellsWord _ _ v w text word_once (λ version rest. check_once _ _ v w _ _ (procedure_once p rest v w))

program_once : (text : List ℕ) (v w : Verdict) → FromProgram v text → FromProgram w text → v ≡ w
program_once text v w = next_once SpellsWord _ _ v w text word_once (λ program rest. check_once _ _ v w _ _ (version_once program rest v w))

-- of any bytes the checks come to one verdict at most
pub verdict_once : (text : List ℕ) (v w : Verdict) → Checks v text → Checks w text → v ≡ w
verdict_once text v w = next_once SpellsWord _ _ v w text word_once (λ version rest. check_once _ _ v w _ _ (program_once rest v w))
