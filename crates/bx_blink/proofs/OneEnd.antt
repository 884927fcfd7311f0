-- A walk has one end.
use Rattle.std.proofs.Common.{◌≡◌, ℕ, zero, suc, List, Option, Some, None, refl, sym, ap, subst, ◌∙◌}
use Rattle.bx_base.specs.declared.names.Mode.{Mode}
use Rattle.bx_truth.specs.bx_layout.specs.declared.block.Block.{Block}
use Rattle.bx_page.specs.Contents.{Contents}
use Rattle.bx_page.proofs.Whole.{one_page}
use Rattle.bx_blink.specs.declared.steps.Spot.{Spot}
use Rattle.bx_blink.specs.declared.steps.Found.{Found}
use Rattle.bx_blink.specs.declared.steps.Found.TheVariants.{Missing, Strays, NoPage, Held, Hinted}
use Rattle.bx_blink.specs.declared.steps.End.{End}
use Rattle.bx_blink.specs.declared.steps.Out.{Out}
use Rattle.bx_blink.specs.declared.steps.Out.TheVariants.{Goes, Stops}
use Rattle.bx_truth.specs.PageTrees.{HasPage}
use Rattle.bx_blink.specs.Walks.{Reads, Finds, decide, Follows, Ends}

none_some : {X : Type 0} (o : Option X) (x : X) → o ≡ None → o ≡ Some x → ⊥
none_some o x n s = let both : None ≡ Some x = sym n ∙ s in absurd cc

some_same : (o : Option Block) (x y : Block) → o ≡ Some x → o ≡ Some y → x ≡ y
some_same o x y a b = let both : Some x ≡ Some y = sym a ∙ b in cc

pages_same : (x y : Block) (p q : Contents) → x ≡ y → HasPage p x → HasPage q y → p ≡ q
pages_same x y p q e hp hq = one_page p q y.payload (subst (λ (b : Block). HasPage p b) e hp).spells hq.spells

module _ (reads : Reads) (target : ℕ) (asked : Mode) (key : List ℕ) where
  pub one_found : (spot : Spot) (f g : Found) → Finds reads target spot f → Finds reads target spot g → f ≡ g
  one_found spot Missing Missing a b = refl
  one_found spot Missing Strays a b = absurd (none_some _ b.block a.0 b.there)
  one_found spot Missing NoPage a b = absurd (none_some _ b.block a.0 b.there)
  one_found spot Missing (Held q) a b = absurd (none_some _ b.block a.0 b.there)
  one_found spot Missing (Hinted q) a b = absurd (a.1 q b.1)
  one_found spot Strays Missing a b = absurd (none_some _ a.block b.0 a.there)
  one_found spot Strays Strays a b = refl
  one_found spot Strays NoPage a b = absurd (a.is (ap (λ (x : Block). x.handle) (some_same _ a.block b.block a.there b.there) ∙ (b.is).0))
  one_found spot Strays (Held q) a b = absurd (a.is (ap (λ (x : Block). x.handle) (some_same _ a.block b.block a.there b.there) ∙ (b.is).0))
  one_found spot Strays (Hinted q) a b = absurd (none_some _ a.block b.0 a.there)
  one_found spot NoPage Missing a b = absurd (none_some _ a.block b.0 a.there)
  one_found spot NoPage Strays a b = absurd (b.is (ap (λ (x : Block). x.handle) (some_same _ b.block a.block b.there a.there) ∙ (a.is).0))
  one_found spot NoPage NoPage a b = refl
  one_found spot NoPage (Held q) a b = absurd ((a.is).1 q (subst (λ (x : Block). HasPage q x) (some_same _ b.block a.block b.there a.there) (b.is).1))
  one_found spot NoPage (Hinted q) a b = absurd (none_some _ a.block b.0 a.there)
  one_found spot (Held p) Missing a b = absurd (none_some _ a.block b.0 a.there)
  one_found spot (Held p) Strays a b = absurd (b.is (ap (λ (x : Block). x.handle) (some_same _ b.block a.block b.there a.there) ∙ (a.is).0))
  one_found spot (Held p) NoPage a b = absurd ((b.is).1 p (subst (λ (x : Block). HasPage p x) (some_same _ a.block b.block a.there b.there) (a.is).1))
  one_found spot (Held p) (Held q) a b = ap Held (pages_same a.block b.block p q (some_same _ a.block b.block a.there b.there) (a.is).1 (b.is).1)
  one_found spot (Held p) (Hinted q) a b = absurd (none_some _ a.block b.0 a.there)
  one_found spot (Hinted p) Missing a b = absurd (b.1 p a.1)
  one_found spot (Hinted p) Strays a b = absurd (none_some _ b.block a.0 b.there)
  one_found spot (Hinted p) NoPage a b = absurd (none_some _ b.block a.0 b.there)
  one_found spot (Hinted p) (Held q) a b = absurd (none_some _ b.block a.0 b.there)
  one_found spot (Hinted p) (Hinted q) a b = ap Hinted (pages_same (a.1).block (b.1).block p q (some_same _ (a.1).block (b.1).block (a.1).there (b.1).there) (a.1).has (b.1).has)

  pub one_end : (n : ℕ) (spot : Spot) (a b : End) → Ends reads target asked key n spot a → Ends reads target asked key n spot b → a ≡ b
  unfolding Ends
  one_end zero spot a b x y = x ∙ sym y
  one_end (suc n) spot a b x y =
      let same : x.0 ≡ y.0 = one_found spot x.0 y.0 x.1 y.1 in
      by_out (decide target asked key spot x.0) x.2 (subst (λ (f : Found). Follows (λ next. Ends reads target asked key n next b) b (decide target asked key spot f)) (sym same) y.2) (λ next. one_end n next a b)
    where
      by_out : (out : Out) → Follows (λ next. Ends reads target asked key n next a) a out → Follows (λ next. Ends reads target asked key n next b) b out
          → ((next : Spot) → Ends reads target asked key n next a → Ends reads target asked key n next b → a ≡ b) → a ≡ b
      by_out (Goes next) f g rest = rest next f g
      by_out (Stops here) f g rest = f ∙ sym g
