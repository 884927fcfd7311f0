-- Functions of sessions, or of sessions and blocks, of which one place is changed.
use Rattle.std.proofs.Common.{◌≡◌, inl, inr, ⊎_elim, ℕ, Bool, true, false, None, refl, ◌∙◌, ap, arith}
use Rattle.std.specs.Prelude.{◌==◌, ◌&&◌, if◌then◌else◌}
use Rattle.std.proofs.lemmas.Bool.Decides.{eqb_tells, nat_tests}
use Rattle.bx_facts.specs.Holds.{Holds, KeepsOthers}
use Rattle.bx_locking.specs.Tables.{Puts}
use Rattle.bx_lock_steps.proofs.Accounts.{itself, not_equal}

-- ---- one place

abbrev pub one_of : {A : Type 0} → ℕ → A → (ℕ → A) → ℕ → A
one_of s value old t = if t == s then value else old t

pub one_at : {A : Type 0} (s : ℕ) (value : A) (old : ℕ → A) → one_of s value old s ≡ value
one_at {A} s value old = let e : (s == s) ≡ true = grind (arith, nat_tests) in ap (λ (t : Bool). if t then value else old s) e

pub one_not : {A : Type 0} (s : ℕ) (value : A) (old : ℕ → A) (t : ℕ) → (t ≡ s → ⊥) → one_of s value old t ≡ old t
one_not {A} s value old t differ = ⊎_elim (λ same. absurd (differ same.1)) (λ other. ap (λ (k : Bool). if k then value else old t) other.0) (eqb_tells t s)

-- ---- one place of a session and a block

abbrev pub one_spot : {A : Type 0} → ℕ → ℕ → A → (ℕ → ℕ → A) → ℕ → ℕ → A
one_spot s block value old t b = if (t == s) && (b == block) then value else old t b

pub spot_puts : {A : Type 0} (s block : ℕ) (value : A) (old : ℕ → ℕ → A) → Puts s block value old (one_spot s block value old)
spot_puts {A} s block value old = record {
  at = let e = itself s in let f = itself block in rw (e, f) refl;
  others = λ t b differ. ⊎_elim
      (λ other. let e = not_equal t s other in rw e refl)
      (λ other. by_first t b (not_equal b block other) (t == s) refl)
      differ;
}
  where
    by_first : (t c : ℕ) → (c == block) ≡ false → (b : Bool) → (t == s) ≡ b → one_spot s block value old t c ≡ old t c
    by_first t c e true so = rw (so, e) refl
    by_first t c e false not_so = rw not_so refl

-- the holds without that of a session on a block
abbrev pub unheld : Holds → ℕ → ℕ → Holds
unheld holding s block = one_spot s block None holding

pub keeps_others : (holding : Holds) (s block : ℕ) → KeepsOthers s block holding (unheld holding s block)
keeps_others holding s block = record {
  other_sessions = λ t at hold differ is. (spot_puts s block None holding).others t at (inl differ) ∙ is;
  other_blocks = λ at hold differ is. (spot_puts s block None holding).others s at (inr differ) ∙ is;
}
