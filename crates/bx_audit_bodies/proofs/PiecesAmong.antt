-- The block of the piece with an index, among pieces.
use Rattle.std.proofs.Common.{◌≡◌, ℕ, zero, suc, ◌<◌, arith, Bool, List, [], ◌∷◌, ◌++◌, length, get_or, refl, sym, ap, ◌∙◌, Option, None}
use Rattle.std.specs.Prelude.{All, ◌≢◌, ◌==◌, if◌then◌else◌}
use Rattle.bx_layout.specs.declared.block.Block.{Block}
use Rattle.bx_truth.specs.PageTrees.{Chunks}
use Rattle.bx_truth.proofs.Cases.{eq_true, eq_false}
use Rattle.bx_audit_bodies.specs.Pieces.{AreApart, piece_among}
use Rattle.bx_audit_bodies.specs.declared.pieces.Piece.{Piece}

module _ (chunks : Chunks) where
  here : (p : Piece) (ps : List Piece) (index : ℕ) → p.index ≡ index → piece_among chunks (p ∷ ps) index ≡ chunks p.handle
  here p ps index same = ap (λ (t : Bool). if t then chunks p.handle else piece_among chunks ps index) (eq_true p.index index same)

  later : (p : Piece) (ps : List Piece) (index : ℕ) → p.index ≢ index → piece_among chunks (p ∷ ps) index ≡ piece_among chunks ps index
  later p ps index apart = ap (λ (t : Bool). if t then chunks p.handle else piece_among chunks ps index) (eq_false p.index index apart)

  pub among_none : (ps : List Piece) (index : ℕ) → All (λ q. q.index ≢ index) ps → piece_among chunks ps index ≡ None
  among_none [] index all = refl
  among_none (p ∷ ps) index all = later p ps index (all 0 p (omega arith)) ∙ among_none ps index (λ k d less. all (suc k) d (omega (arith, less)))

  pub among_new : (ps : List Piece) (p : Piece) → All (λ q. q.index ≢ p.index) ps → piece_among chunks (ps ++ p ∷ []) p.index ≡ chunks p.handle
  among_new [] p all = here p [] p.index refl
  among_new (q ∷ ps) p all =
      later q (ps ++ p ∷ []) p.index (all 0 q (omega arith)) ∙ among_new ps p (λ k d less. all (suc k) d (omega (arith, less)))

  pub among_other : (ps : List Piece) (p : Piece) (index : ℕ) → index ≢ p.index → piece_among chunks (ps ++ p ∷ []) index ≡ piece_among chunks ps index
  among_other [] p index apart = later p [] index (λ e. apart (sym e))
  among_other (q ∷ ps) p index apart = let rest = among_other ps p index apart in ap (λ (o : Option Block). if q.index == index then chunks q.handle else o) rest

  pub among_at : (ps : List Piece) → AreApart ps → (k : ℕ) (d : Piece) → k < length ps → piece_among chunks ps (get_or ps k d).index ≡ chunks (get_or ps k d).handle
  among_at [] apart k d less = absurd (omega (arith, less))
  among_at (p ∷ ps) apart zero d less = here p ps p.index refl
  among_at (p ∷ ps) apart (suc k) d less =
      later p ps (get_or ps k d).index (apart 0 (suc k) d (omega arith) less)
      ∙ among_at ps (λ i j e below within. apart (suc i) (suc j) e (omega (arith, below)) (omega (arith, within))) k d (omega (arith, less))
