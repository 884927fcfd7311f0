-- A call that passes is of a procedure of a program that is served.
use Rattle.std.proofs.Common.{◌≡◌, ℕ, ◌≤◌, List, sym, subst, inl, inr}
use Rattle.bx_rpc.specs.declared.caller.Caller.{Caller}
use Rattle.bx_rpc.specs.Checks.{Verdict, IsProgram, Next, Check, Checks, FromProgram, FromVersion, FromProcedure, FromCredential, FromBody, FromCaller, FromVerifier, last_procedure}
use Rattle.bx_rpc.specs.Checks.Verdict.{refused, passed}

apart : (n by p q : ℕ) (caller : Caller) (tail : List ℕ) → passed p q caller tail ≡ refused n by → ⊥
apart n by p q caller tail e = absurd cc

module _ (p q : ℕ) (caller : Caller) (tail : List ℕ) where
  abbrev it : Verdict
  it = passed p q caller tail

  next_says : {V : Type 0} (Spells : V → List ℕ → Type 0) (P : V → List ℕ → Type 0) (R : Type 0) (text : List ℕ) → ((item : V) (rest : List ℕ) → P item rest → R) → Next Spells P it text → R
  next_says Spells P R text then (inl x) = absurd (apart 7 0 p q caller tail x.1)
  next_says Spells P R text then (inr x) = then x.0 x.1 x.3

  check_says : (Holds : Type 0) (n by : ℕ) (P R : Type 0) → (Holds → P → R) → Check Holds (refused n by) it P → R
  check_says Holds n by P R then (inl x) = then x.0 x.1
  check_says Holds n by P R then (inr x) = absurd (apart n by p q caller tail x.1)

  -- the program and the procedure are these
  abbrev Is : ℕ → ℕ → Type 0
  Is m n = (p ≡ m) × (q ≡ n)

  same_numbers : (m n : ℕ) (who : Caller) (rest : List ℕ) → it ≡ passed m n who rest → Is m n
  same_numbers m n who rest e = (cc, cc)

  verifier_says : (m n : ℕ) (who : Caller) (text : List ℕ) → FromVerifier m n who it text → Is m n
  verifier_says m n who text = next_says _ _ (Is m n) text (λ item rest e. same_numbers m n who rest e)

  caller_says : (m n flavor : ℕ) (body text : List ℕ) → FromCaller m n flavor body it text → Is m n
  caller_says m n flavor body text (inl x) = verifier_says m n x.0 text x.2
  caller_says m n flavor body text (inr x) = absurd (apart 6 0 p q caller tail x.1)

  body_says : (m n flavor : ℕ) (text : List ℕ) → FromBody m n flavor it text → Is m n
  body_says m n flavor text =
      next_says _ _ (Is m n) text (λ len behind. check_says _ 6 0 _ (Is m n) (λ _. next_says _ _ (Is m n) text (λ body rest. caller_says m n flavor body rest)))

  credential_says : (m n : ℕ) (text : List ℕ) → FromCredential m n it text → Is m n
  credential_says m n text = next_says _ _ (Is m n) text (λ flavor rest. check_says _ 5 0 _ (Is m n) (λ _. body_says m n flavor rest))

  -- the program is this one, and has the procedure
  abbrev IsOf : ℕ → Type 0
  IsOf m = (p ≡ m) × (q ≤ last_procedure m)

  procedure_says : (m : ℕ) (text : List ℕ) → FromProcedure m it text → IsOf m
  procedure_says m text = next_says _ _ (IsOf m) text (λ n rest. check_says _ 4 0 _ (IsOf m) (λ least credential.
      let is = credential_says m n rest credential in
      (is.0, subst (λ (k : ℕ). k ≤ last_procedure m) (sym is.1) least)))

  version_says : (m : ℕ) (text : List ℕ) → FromVersion m it text → IsOf m
  version_says m text = next_says _ _ (IsOf m) text (λ version rest. check_says _ 3 m _ (IsOf m) (λ _. procedure_says m rest))

  -- a program that is served, which has the procedure
  abbrev IsServed : Type 0
  IsServed = IsProgram p × (q ≤ last_procedure p)

  program_says : (text : List ℕ) → FromProgram it text → IsServed
  program_says text = next_says _ _ IsServed text (λ m rest. check_says _ 2 0 _ IsServed (λ known version.
      let is = version_says m rest version in
      (subst IsProgram (sym is.0) known, subst (λ (k : ℕ). q ≤ last_procedure k) (sym is.0) is.1)))

  pub passes : (text : List ℕ) → Checks it text → IsServed
  passes text = next_says _ _ IsServed text (λ version rest. check_says _ 1 0 _ IsServed (λ _. program_says rest))
