-- A clerk, and all others, where something of its session is changed.
use Rattle.std.proofs.Common.{◌≡◌, ◌≢◌, inl, inr, ⊎_elim, ℕ, ◌≤◌, Bool, List, Option, Some, None, sym, ◌∙◌, ap, subst, arith}
use Rattle.std.proofs.lemmas.Bool.Decides.{eqb_tells}
use Rattle.bx_rows.specs.Conditions.{Fits}
use Rattle.bx_facts.specs.Chains.{Chain}
use Rattle.bx_locking.specs.Leases.{IsPromised}
use Rattle.bx_locking.specs.Tables.{Puts, Request, Side}
use Rattle.bx_clerk.specs.Clerks.{Clerking}
use Rattle.bx_clerk.specs.Requests.{request_in}
use Rattle.bx_clerk.specs.declared.requests.Asking.{Asking}
use Rattle.bx_lock_steps.specs.Machines.{AreUnique, FitsClerk, request_from}

-- what is known of each other session stays
pub record KeepsSides (s : ℕ) (old new : Side) : Type 0 where
  pub requests : (t b : ℕ) → t ≢ s → new.requests t b ≡ old.requests t b
  pub drawn : (t : ℕ) → t ≢ s → new.drawn t ≡ old.drawn t
  pub given : (t : ℕ) → t ≢ s → new.given t ≡ old.given t

-- so another clerk fits as before
pub others_fit : (chain : Chain) (knew boot : ℕ) (side more : Side) (had : ℕ → Bool) (promised : List (ℕ × ℕ)) (n s : ℕ) (c : Clerking) → KeepsSides s side more → c.session ≢ Some s
    → FitsClerk chain knew boot side had promised n c → FitsClerk chain knew boot more had promised n c
others_fit chain knew boot side more had promised n s c keeps differs is = record {
  unique = is.unique;
  none = is.none;
  session = is.session;
  this_life = is.this_life;
  had_is = is.had_is;
  requests = λ t own b. keeps.requests t b (another t own) ∙ is.requests t own b;
  drawn = λ t own. let e = keeps.drawn t (another t own) in let d = is.drawn t own in omega (arith, e, d);
  given = λ t own. let e = keeps.given t (another t own) in let d = is.given t own in omega (arith, e, d);
  lease = is.lease;
  blocks = is.blocks;
  drawn_fits = is.drawn_fits;
  given_fits = is.given_fits;
  knows_fits = is.knows_fits;
}
  where
    another : (t : ℕ) → c.session ≡ Some t → t ≡ s → ⊥
    another t own same = differs (own ∙ ap (λ (k : ℕ). Some k) same)

-- of its own session one block is changed: the clerk has what it had, but of that block
pub record Changes (s block : ℕ) (value : Option Request) (side more : Side) (c new : Clerking) : Type 0 where
  pub session : new.session ≡ c.session
  pub unique : AreUnique new.requests
  pub requests : Puts s block value side.requests more.requests
  pub at : request_from (request_in new.requests block) ≡ value
  pub others : (b : ℕ) → b ≢ block → request_in new.requests b ≡ request_in c.requests b
  pub drawn : more.drawn s ≤ new.drawn
  pub given : more.given s ≤ new.given
  pub lease : new.lease ≡ c.lease
  pub block_fits : (r : Asking) → request_in new.requests block ≡ Some r → Fits block
  pub drawn_fits : Fits new.drawn
  pub given_fits : Fits new.given
  pub knows_fits : Fits new.knows

pub changed_fits : (chain : Chain) (knew boot : ℕ) (side more : Side) (had : ℕ → Bool) (promised : List (ℕ × ℕ)) (n s block : ℕ) (value : Option Request) (c new : Clerking) → c.session ≡ Some s → Changes s block value side more c new
    → FitsClerk chain knew boot side had promised n c → FitsClerk chain knew boot more had promised n new
changed_fits chain knew boot side more had promised n s block value c new own changes is = record {
  unique = changes.unique;
  none = λ none. absurd (none_some (sym none ∙ changes.session ∙ own));
  session = λ t has. is.session t (sym changes.session ∙ has);
  this_life = λ t has. is.this_life t (sym changes.session ∙ has);
  had_is = λ t has. is.had_is t (sym changes.session ∙ has);
  requests = λ t has b. ap (λ (k : ℕ). more.requests k b) (one t has) ∙ ⊎_elim
      (λ same. ap (more.requests s) same.1 ∙ changes.requests.at ∙ sym changes.at ∙ ap (λ (k : ℕ). request_from (request_in new.requests k)) (sym same.1))
      (λ other. changes.requests.others s b (inr other.1) ∙ is.requests s own b ∙ ap request_from (sym (changes.others b other.1)))
      (eqb_tells b block);
  drawn = λ t has. let e = ap more.drawn (one t has) in let d = changes.drawn in omega (arith, e, d);
  given = λ t has. let e = ap more.given (one t has) in let d = changes.given in omega (arith, e, d);
  lease = λ t has. subst (λ (e : ℕ). IsPromised promised t e) (sym changes.lease) (is.lease t (sym changes.session ∙ has));
  blocks = λ b r there. ⊎_elim
      (λ same. subst Fits (sym same.1) (changes.block_fits r (ap (request_in new.requests) (sym same.1) ∙ there)))
      (λ other. is.blocks b r (sym (changes.others b other.1) ∙ there))
      (eqb_tells b block);
  drawn_fits = changes.drawn_fits;
  given_fits = changes.given_fits;
  knows_fits = changes.knows_fits;
}
  where
    none_some : None ≡ Some s → ⊥
    none_some wrong = cc

    one : (t : ℕ) → new.session ≡ Some t → t ≡ s
    one t has = let e : Some t ≡ Some s = sym has ∙ changes.session ∙ own in cc

-- what is changed in one place of a session keeps all others
pub keeps_sides : (s block : ℕ) (value : Option Request) (side more : Side) → Puts s block value side.requests more.requests → ((t : ℕ) → t ≢ s → more.drawn t ≡ side.drawn t) → ((t : ℕ) → t ≢ s → more.given t ≡ side.given t) → KeepsSides s side more
keeps_sides s block value side more puts drawn given = record { requests = λ t b differ. puts.others t b (inl differ); drawn = drawn; given = given }
