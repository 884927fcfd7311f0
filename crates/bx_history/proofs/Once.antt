-- A trace fits one history alone, where a step's outcome is determined by what was asked; and it leads to one tree.
use Rattle.std.proofs.Common.{◌≡◌, ℕ, List, [], ◌∷◌, refl, sym, ◌∙◌}
use Rattle.std.specs.Prelude.{map}
use Rattle.bx_script.specs.declared.trace_line.TraceLine.{TraceLine}
use Rattle.bx_history.specs.Trace.{Entry, FitsNewest}
use Rattle.bx_history.specs.Legal.{LeadsNewest}
use Rattle.bx_history.specs.Laws.{asked}
use Rattle.bx_history.proofs.Spelled.{asked-from_fits}

heads : (a b : Entry) (xs ys : List Entry) → map asked (a ∷ xs) ≡ map asked (b ∷ ys) → (asked a ≡ asked b) × (map asked xs ≡ map asked ys)
heads a b xs ys e = (cc, cc)

module _ {Tree : Type 0} (Step : Tree → Entry → Tree → Type 0)
    (once : (tree : Tree) (a b : Entry) (x y : Tree) → asked a ≡ asked b → Step tree a x → Step tree b y → (a ≡ b) × (x ≡ y)) where
  leads_once : (first : Tree) (a b : List Entry) (x y : Tree) → map asked a ≡ map asked b → LeadsNewest Step first a x → LeadsNewest Step first b y → (a ≡ b) × (x ≡ y)
  leads_once first [] [] x y e p q = (refl, p ∙ sym q)
  leads_once first [] (b ∷ ys) x y e p q = absurd cc
  leads_once first (a ∷ xs) [] x y e p q = absurd cc
  leads_once first (a ∷ xs) (b ∷ ys) x y e p q =
      let parts = heads a b xs ys e in
      let earlier = leads_once first xs ys p.0 q.0 parts.1 p.1 q.1 in
      let now = once q.0 a b x y parts.0 (rw earlier.1 at p.2) q.2 in
      (rw (now.0, earlier.0) refl, now.1)

  pub one_history : (kept : ℕ) (first last other : Tree) (trace : List TraceLine) (a b : List Entry)
      → FitsNewest kept trace a → LeadsNewest Step first a last → FitsNewest kept trace b → LeadsNewest Step first b other → (a ≡ b) × (last ≡ other)
  one_history kept first last other trace a b fits leads fits' leads' =
      leads_once first a b last other (asked-from_fits kept trace a b fits fits') leads leads'
