-- The pages that a walk passed: they are in different slots of the volume.
use Rattle.std.proofs.Common.{◌≡◌, ℕ, suc, ◌+◌, ◌*◌, ◌<◌, ◌≤◌, true, false, List, [], ◌∷◌, length, Option, Some, None, refl, sym, ap, subst, ◌∙◌, arith, inl, inr}
use Rattle.std.specs.Prelude.{◌⊎◌}
use Rattle.std.specs.Option.{option_map}
use Rattle.std.specs.List.{AllByRecursion}
use Rattle.bx_base.specs.declared.names.Mode.{Mode}
use Rattle.bx_base.specs.declared.names.Mode.TheVariants.{Shared}
use Rattle.bx_truth.specs.bx_layout.specs.declared.block.Block.{Block}
use Rattle.bx_places.specs.Places.{block_area, block_slot}
use Rattle.bx_page.specs.Contents.{Contents}
use Rattle.bx_page.proofs.Order.{below_trans, not_below_itself}
use Rattle.bx_blink.specs.declared.steps.Spot.{Spot}
use Rattle.bx_blink.specs.declared.steps.Found.{Found}
use Rattle.bx_blink.specs.declared.steps.Found.TheVariants.{Missing, Strays, NoPage, Held, Hinted}
use Rattle.bx_blink.specs.declared.steps.Out.TheVariants.{Goes, Stops}
use Rattle.bx_truth.specs.Chunks.{block_at, IsSlot}
use Rattle.bx_truth.specs.PageTrees.{Chunks, PageTree, IsTree}
use Rattle.bx_blink.specs.Walks.{Reads, Finds, strayed, decide}
use Rattle.bx_blink.specs.Hints.{Sees, Place, HintsAgree}
use Rattle.bx_blink.proofs.OnWay.{Onto, known, old, Behind, lower, further, IsOnWay}

-- the slots of a volume, counted through
abbrev number : ℕ → ℕ
number block = 960 * block_area block + block_slot block

number_below : (areas block : ℕ) → areas ≤ 64 → IsSlot areas block → number block < 61440
number_below areas block few s = let a = s.area in let b = s.slot in omega (arith, a, b)

one_block : (areas a b : ℕ) → IsSlot areas a → IsSlot areas b → number a ≡ number b → a ≡ b
one_block areas a b s t e = let x = s.slot in let y = t.slot in omega (arith, x, y)

unfoldable pub headed_by : Option Block → Option Block → Option ℕ
headed_by (Some block) hint = Some block.handle
headed_by None hint = option_map (λ (b : Block). b.handle) hint

unfoldable pub headed : Reads → ℕ → Option ℕ
headed reads at = headed_by (reads.held at Shared) (reads.hint at)

module _ (reads : Reads) (target : ℕ) (asked : Mode) (key : List ℕ) where
  -- a page that a walk goes on from is there under its handle
  pub header_of : (spot next : Spot) (found : Found) → Finds reads target spot found → decide target asked key spot found ≡ Goes next → headed reads (block_at spot.handle) ≡ Some spot.handle
  unfolding headed headed_by
  header_of spot next Missing f e = absurd cc
  header_of spot next Strays f e = absurd (not_gone spot.via e)
    where
      not_gone : (via : Option ℕ) → Stops (strayed via) ≡ Goes next → ⊥
      not_gone None q = absurd cc
      not_gone (Some v) q = absurd cc
  header_of spot next NoPage f e = absurd cc
  header_of spot next (Held page) f e = rw f.there (ap Some (f.is).0)
  header_of spot next (Hinted page) f e = rw (f.0, (f.1).there) (ap Some (f.1).header)

-- so is one that is held
pub headed_held : (reads : Reads) (spot : Spot) (page : Contents) → Finds reads 0 spot (Held page) → headed reads (block_at spot.handle) ≡ Some spot.handle
unfolding headed headed_by
headed_held reads spot page f = rw f.there (ap Some (f.is).0)

behind_trans : (p : Place) (l : ℕ) (b : List ℕ) (m : ℕ) (c : List ℕ) → Behind p l b → Behind (record { level = l; begins = b }) m c → Behind p m c
behind_trans p l b m c (lower x) (lower y) = lower (omega arith)
behind_trans p l b m c (lower x) (further y z) = lower (omega arith)
behind_trans p l b m c (further x w) (lower y) = lower (omega arith)
behind_trans p l b m c (further x w) (further y z) = further (y ∙ x) (below_trans p.begins b c w z)

behind_itself : (p : Place) → Behind p p.level p.begins → ⊥
behind_itself p (lower x) = omega arith
behind_itself p (further x w) = let both : false ≡ true = sym (not_below_itself p.begins) ∙ w in absurd cc

-- a page that a walk passed
pub record Visit : Type 0 where
  pub handle : ℕ
  pub place : Place

pub record Was (areas : ℕ) (reads : Reads) (home : ℕ → Option Place) (root : ℕ) (level : ℕ) (begins : List ℕ) (v : Visit) : Type 0 where
  pub slot : IsSlot areas (block_at v.handle)
  pub header : headed reads (block_at v.handle) ≡ Some v.handle
  pub homed : (home v.handle ≡ Some v.place) ⊎ (v.handle ≡ root)
  pub behind : Behind v.place level begins

unfoldable pub numbers : List Visit → List ℕ
numbers [] = []
numbers (v ∷ vs) = number (block_at v.handle) ∷ numbers vs

pub length_numbers : (vs : List Visit) → length (numbers vs) ≡ length vs
unfolding numbers
length_numbers [] = refl
length_numbers (v ∷ vs) = ap suc (length_numbers vs)

module _ (areas : ℕ) (reads : Reads) (chunks : Chunks) (root : ℕ) (tree : PageTree) (target : ℕ) (asked : Mode) (key : List ℕ) (few : areas ≤ 64) (sees : Sees areas reads chunks) (is : IsTree chunks root tree) (hints : HintsAgree areas reads.hint chunks root tree) where
  pub slot_of_spot : (low : Option Place) (spot : Spot) → IsOnWay hints.home root hints.most tree target key low spot → IsSlot areas (block_at spot.handle)
  slot_of_spot low spot w = by_onto w.onto
    where
      by_onto : Onto hints.home tree spot w.level w.begins → IsSlot areas (block_at spot.handle)
      by_onto (known node there within handle_is begins_is) =
          let nd = (is.levels w.level within).nodes_are node there in
          sees.slot spot.handle nd.block (ap chunks (sym handle_is) ∙ nd.chunk)
      by_onto (old via via_is home_is) = (hints.names spot.handle (record { level = w.level; begins = w.begins }) home_is).slot

  pub apart : (level : ℕ) (begins : List ℕ) (handle : ℕ) → IsSlot areas (block_at handle) → headed reads (block_at handle) ≡ Some handle → hints.home handle ≡ Some (record { level = level; begins = begins })
      → (vs : List Visit) → AllByRecursion (Was areas reads hints.home root level begins) vs → AllByRecursion (λ n. number (block_at handle) ≡ n → ⊥) (numbers vs)
  unfolding numbers
  apart level begins handle s h home_is [] a = tt
  apart level begins handle s h home_is (v ∷ vs) a = (here, apart level begins handle s h home_is vs a.1)
    where
      here : number (block_at handle) ≡ number (block_at v.handle) → ⊥
      here e =
          let one : block_at handle ≡ block_at v.handle = one_block areas (block_at handle) (block_at v.handle) s (a.0).slot e in
          let both : Some handle ≡ Some v.handle = sym h ∙ ap (headed reads) one ∙ (a.0).header in
          let same : handle ≡ v.handle = cc in
          by_home same (a.0).homed
        where
          by_home : handle ≡ v.handle → (hints.home v.handle ≡ Some v.place) ⊎ (v.handle ≡ root) → ⊥
          by_home same (inl there) =
              let both : Some (record { level = level; begins = begins }) ≡ Some v.place = sym home_is ∙ ap hints.home same ∙ there in
              let place : ◌≡◌ {A = Place} (record { level = level; begins = begins }) v.place = cc in
              behind_itself v.place (subst (λ (p : Place). Behind v.place p.level p.begins) place (a.0).behind)
          by_home same (inr at_root) =
              let both : ◌≡◌ {A = Option Place} (Some (record { level = level; begins = begins })) None = sym home_is ∙ ap hints.home (same ∙ at_root) ∙ hints.root_apart in
              absurd cc

  pub later : (level : ℕ) (begins : List ℕ) (m : ℕ) (c : List ℕ) → Behind (record { level = level; begins = begins }) m c → (vs : List Visit) → AllByRecursion (Was areas reads hints.home root level begins) vs → AllByRecursion (Was areas reads hints.home root m c) vs
  later level begins m c b [] a = tt
  later level begins m c b (v ∷ vs) a = (record { slot = (a.0).slot; header = (a.0).header; homed = (a.0).homed; behind = behind_trans v.place level begins m c (a.0).behind b }, later level begins m c b vs a.1)

  pub below_all : (vs : List Visit) → (level : ℕ) (begins : List ℕ) → AllByRecursion (Was areas reads hints.home root level begins) vs → AllByRecursion (λ n. n < 61440) (numbers vs)
  unfolding numbers
  below_all [] level begins a = tt
  below_all (v ∷ vs) level begins a = (number_below areas (block_at v.handle) few (a.0).slot, below_all vs level begins a.1)
