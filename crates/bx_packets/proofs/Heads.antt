-- A field at the front of bytes, and what is behind it: what is read is what stands there, and where nothing is read nothing stands.
use Rattle.std.proofs.Common.{◌≡◌, ℕ, List, ◌++◌, Option, Some, None, sym, ap, ◌∙◌}
use Rattle.std.proofs.lemmas.Option.{some_pair_parts}
use Rattle.bx_base.specs.Reading.{Reader}
use Rattle.bx_base.proofs.Fields.{IsField}

-- what was read, where this stands at the front
pub head_same : {X : Type 0} {read : Reader X} {text : X → List ℕ} {Fits : X → Type 0} → IsField read text Fits → (bytes rest more : List ℕ) (x y : X)
    → read bytes ≡ Some (x, rest) → bytes ≡ text y ++ more → Fits y → (x ≡ y) × (rest ≡ more)
head_same {X} {read} {text} {Fits} p bytes rest more x y e is fits = some_pair_parts x y rest more (sym e ∙ (ap read is ∙ p.again y more fits))

-- nothing stands there
pub head_none : {X : Type 0} {read : Reader X} {text : X → List ℕ} {Fits : X → Type 0} → IsField read text Fits → (bytes more : List ℕ) (y : X)
    → read bytes ≡ None → bytes ≡ text y ++ more → Fits y → ⊥
head_none {X} {read} {text} {Fits} p bytes more y e is fits =
    let both : ◌≡◌ {A = Option (X × List ℕ)} None (Some (y, more)) = sym e ∙ (ap read is ∙ p.again y more fits) in
    absurd cc
