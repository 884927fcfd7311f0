-- Bodies whose first part, or first two parts, are fields.
use Rattle.std.proofs.Common.{◌≡◌, ℕ, List, [], ◌++◌, Option, Some, None, sym, ap, subst, ◌∙◌}
use Rattle.std.proofs.lemmas.Option.{some_pair_parts}
use Rattle.bx_base.specs.declared.error.ReadError.{ReadError}
use Rattle.bx_base.specs.declared.error.ReadError.TheVariants as errors
use Rattle.bx_base.specs.Reading.{Fails, Reader}
use Rattle.bx_base.proofs.Fields.{IsField}
use Rattle.bx_mirror_packets.specs.Reading.{IsText, NoText}

-- what was read at the front, where this stands there
pub front_same : {A : Type 0} {read : Reader A} {text : A → List ℕ} {Fit : A → Type 0} → IsField read text Fit → (bytes rest more : List ℕ) (x y : A)
    → read bytes ≡ Some (x, rest) → bytes ≡ text y ++ more → Fit y → (x ≡ y) × (rest ≡ more)
front_same {A} {read} {text} {Fit} p bytes rest more x y e is fits = some_pair_parts x y rest more (sym e ∙ (ap read is ∙ p.again y more fits))

-- nothing stands there
pub front_none : {A : Type 0} {read : Reader A} {text : A → List ℕ} {Fit : A → Type 0} → IsField read text Fit → (bytes more : List ℕ) (y : A)
    → read bytes ≡ None → bytes ≡ text y ++ more → Fit y → ⊥
front_none {A} {read} {text} {Fit} p bytes more y e is fits =
    let both : ◌≡◌ {A = Option (A × List ℕ)} None (Some (y, more)) = sym e ∙ (ap read is ∙ p.again y more fits) in
    absurd cc

-- ---- a body begins with a field

-- each text of a body is one of a field, with more behind it
pub record HasFront {X A : Type 0} (Body : X → Type 0) (body : X → List ℕ) (text : A → List ℕ) (Fit : A → Type 0) (front : X → A) (more : X → List ℕ) : Type 0 where
  pub parts : (x : X) → body x ≡ text (front x) ++ more x
  pub fits : (x : X) → Body x → Fit (front x)

pub no_front : {X A : Type 0} {Body : X → Type 0} {body : X → List ℕ} {read : Reader A} {text : A → List ℕ} {Fit : A → Type 0} {front : X → A} {more : X → List ℕ}
    → IsField read text Fit → HasFront Body body text Fit front more → (e : ReadError) (bytes : List ℕ) → Fails e (read bytes) → NoText Body body e bytes
no_front p has errors.OutOfMemory bytes fails = tt
no_front {X} {A} {Body} {body} {read} {text} {Fit} {front} {more} p has errors.Malformed bytes fails =
    λ x is. front_none p bytes (more x) (front x) fails (is.parts ∙ has.parts x) (has.fits x is.is)

-- what was read of it, and what is behind
pub has_front : {X A : Type 0} {Body : X → Type 0} {body : X → List ℕ} {read : Reader A} {text : A → List ℕ} {Fit : A → Type 0} {front : X → A} {more : X → List ℕ}
    → IsField read text Fit → HasFront Body body text Fit front more → (bytes rest : List ℕ) (a : A) (x : X) → read bytes ≡ Some (a, rest) → IsText Body body x bytes
    → (a ≡ front x) × (rest ≡ more x)
has_front {X} {A} {Body} {body} {read} {text} {Fit} {front} {more} p has bytes rest a x e is =
    front_same p bytes rest (more x) a (front x) e (is.parts ∙ has.parts x) (has.fits x is.is)

-- ---- and goes on with another

-- behind the first field each text goes on with one of a second field, which may depend on what the first is
pub record HasSecond {X A B : Type 0} (Body : X → Type 0) (text : B → List ℕ) (Fit : A → B → Type 0) (front : X → A) (second : X → B) (more : X → List ℕ) : Type 0 where
  pub parts : (x : X) → more x ≡ text (second x) ++ []
  pub fits : (x : X) → Body x → Fit (front x) (second x)

pub no_second : {X A B : Type 0} {Body : X → Type 0} {body : X → List ℕ} {read : Reader A} {text : A → List ℕ} {Fit : A → Type 0} {front : X → A} {more : X → List ℕ}
    {then_read : A → Reader B} {then_text : B → List ℕ} {Then : A → B → Type 0} {second : X → B}
    → IsField read text Fit → HasFront Body body text Fit front more → ((a : A) → IsField (then_read a) then_text (Then a)) → HasSecond Body then_text Then front second more
    → (e : ReadError) (bytes rest : List ℕ) (a : A) → read bytes ≡ Some (a, rest) → Fails e (then_read a rest) → NoText Body body e bytes
no_second p has q also errors.OutOfMemory bytes rest a e fails = tt
no_second {X} {A} {B} {Body} {body} {read} {text} {Fit} {front} {more} {then_read} {then_text} {Then} {second} p has q also errors.Malformed bytes rest a e fails =
    λ x is.
    let same = has_front p has bytes rest a x e is in
    front_none (q a) rest [] (second x) fails (same.1 ∙ also.parts x) (subst (λ (f : A). Then f (second x)) (sym same.0) (also.fits x is.is))

pub has_second : {X A B : Type 0} {Body : X → Type 0} {body : X → List ℕ} {read : Reader A} {text : A → List ℕ} {Fit : A → Type 0} {front : X → A} {more : X → List ℕ}
    {then_read : A → Reader B} {then_text : B → List ℕ} {Then : A → B → Type 0} {second : X → B}
    → IsField read text Fit → HasFront Body body text Fit front more → ((a : A) → IsField (then_read a) then_text (Then a)) → HasSecond Body then_text Then front second more
    → (bytes rest end : List ℕ) (a : A) (b : B) (x : X) → read bytes ≡ Some (a, rest) → then_read a rest ≡ Some (b, end) → IsText Body body x bytes
    → (b ≡ second x) × (end ≡ [])
has_second {X} {A} {B} {Body} {body} {read} {text} {Fit} {front} {more} {then_read} {then_text} {Then} {second} p has q also bytes rest end a b x e f is =
    let same = has_front p has bytes rest a x e is in
    front_same (q a) rest end [] b (second x) f (same.1 ∙ also.parts x) (subst (λ (h : A). Then h (second x)) (sym same.0) (also.fits x is.is))
