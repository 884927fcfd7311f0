-- One page under a handle, and what it may be in a level.
use Rattle.std.proofs.Common.{◌≡◌, ℕ, zero, suc, ◌<◌, arith, refl, Bool, false, true, List, [], ◌∷◌, length, get_or, sym, ◌∙◌, subst, Some, None}
use Rattle.std.specs.Prelude.{All, not, slice_get}
use Rattle.bx_layout.specs.declared.block.Block.{Block}
use Rattle.bx_page.specs.declared.entry.Entry.{Entry}
use Rattle.bx_page.specs.Keys.{is_below}
use Rattle.bx_page.specs.Contents.{Contents, Rises}
use Rattle.bx_page.specs.Spelling.{Spells}
use Rattle.bx_page.proofs.Order.{below_trans}
use Rattle.bx_page.proofs.Whole.{one_page}
use Rattle.bx_truth.specs.PageTrees.{Chunks, HasPage}
use Rattle.bx_audit_pages.specs.Pages.{IsPageAt}

some_same : {X : Type 0} (x y : X) → Some x ≡ Some y → x ≡ y
some_same x y e = cc

pub no_page : (chunks : Chunks) (handle : ℕ) → chunks handle ≡ None → (page : Contents) → IsPageAt chunks handle page → ⊥
no_page chunks handle none page is = let e : None ≡ Some is.block = sym none ∙ is.chunk in absurd cc

pub no_page_in : (chunks : Chunks) (handle : ℕ) (block : Block) → chunks handle ≡ Some block → ((page : Contents) → HasPage page block → ⊥) → (page : Contents) → IsPageAt chunks handle page → ⊥
no_page_in chunks handle block some never page is = never page (subst (HasPage page) (some_same is.block block (sym is.chunk ∙ some)) is.has)

pub one_page_at : (chunks : Chunks) (handle : ℕ) (a b : Contents) → IsPageAt chunks handle a → IsPageAt chunks handle b → a ≡ b
one_page_at chunks handle a b is_a is_b =
    let same : is_b.block ≡ is_a.block = some_same is_b.block is_a.block (sym is_b.chunk ∙ is_a.chunk) in
    one_page a b is_a.block.payload is_a.has.spells (subst (λ (x : Block). Spells b x.payload) same is_b.has.spells)

no_true : true ≡ false → ⊥
no_true e = cc

-- where the first key isn't below a key, no key is
pub none_below : (entries : List Entry) (x : Entry) (key : List ℕ) → Rises entries → Some x ≡ slice_get entries 0 → is_below x.key key ≡ false
    → All (λ entry. is_below entry.key key ≡ false) entries
none_below [] x key rises first above k d less = absurd cc
none_below (e ∷ es) x key rises first above k d less = by k less
  where
    same : x ≡ e
    same = some_same x e first

    false_or : (b : Bool) → (b ≡ true → ⊥) → b ≡ false
    false_or true never = absurd (never refl)
    false_or false never = refl

    by : (k : ℕ) → k < length (e ∷ es) → is_below (get_or (e ∷ es) k d).key key ≡ false
    by zero less = subst (λ (y : Entry). is_below y.key key ≡ false) same above
    by (suc k) less = false_or (is_below (get_or es k d).key key) (λ below.
        no_true (sym (below_trans e.key (get_or es k d).key key (rises 0 (suc k) d (omega arith) less) below) ∙ subst (λ (y : Entry). is_below y.key key ≡ false) same above))

pub first_not_below : (entries : List Entry) (x : Entry) (key : List ℕ) → Some x ≡ slice_get entries 0 → All (λ entry. is_below entry.key key ≡ false) entries → is_below x.key key ≡ false
first_not_below [] x key first all = absurd cc
first_not_below (e ∷ es) x key first all = subst (λ (y : Entry). is_below y.key key ≡ false) (sym (some_same x e first)) (all 0 e (omega arith))

pub not_true : (b : Bool) → (not b ≡ true → b ≡ false) × (b ≡ false → not b ≡ true)
not_true true = (λ e. absurd (no_true (sym e)), λ e. absurd (no_true e))
not_true false = (λ e. refl, λ e. refl)
