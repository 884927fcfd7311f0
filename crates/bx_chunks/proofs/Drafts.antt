-- Drafts: what putting a block changes, and copies.
use Rattle.std.proofs.Common.{◌≡◌, ℕ, zero, suc, ◌+◌, ◌<◌, ◌≤◌, Bool, true, false, eqb, List, [], ◌∷◌, ◌++◌, length, get_or, take, Option, Some, None, refl, sym, ap, subst, ◌∙◌, arith, eqb-true, leb}
use Rattle.std.specs.Prelude.{◌≢◌, unwrap_or}
use Rattle.std.specs.List.{AllByRecursion, IsDistinct}
use Rattle.std.proofs.lemmas.Bool.{eq-eqb, ne_eqb}
use Rattle.std.proofs.lemmas.Bool.Decides.{nat_tests}
use Rattle.bx_layout.specs.declared.block.Block.{Block}
use Rattle.bx_records.specs.Drafts.{Changed, block_in, with_block, place_in, same_number, IsDraft}
use Rattle.bx_records.proofs.Changes.{put_behind}
use Rattle.bx_truth.specs.bx_views.specs.Truths.{Truth, with_draft}
use Rattle.bx_chunks.specs.Putting.{missing, missing_of}

-- ---- a block is put

pub put_here : (xs : List Changed) (at : ℕ) (block : Block) → block_in (with_block xs at block) at ≡ Some block
put_here [] at block = rw (eq-eqb at at refl) refl
put_here (x ∷ xs) at block = by_test (eqb x.0 at) refl (put_here xs at block)
  where
    by_test : (b : Bool) → eqb x.0 at ≡ b → block_in (with_block xs at block) at ≡ Some block → block_in (with_block (x ∷ xs) at block) at ≡ Some block
    by_test true e rest = rw (e, eq-eqb at at refl) refl
    by_test false e rest = rw (e, e) rest

pub put_elsewhere : (xs : List Changed) (at other : ℕ) (block : Block) → other ≢ at → block_in (with_block xs at block) other ≡ block_in xs other
put_elsewhere [] at other block ne = rw (ne_eqb at other (λ e. ne (sym e))) refl
put_elsewhere (x ∷ xs) at other block ne = by_test (eqb x.0 at) refl (eqb x.0 other) refl (put_elsewhere xs at other block ne)
  where
    by_test : (b : Bool) → eqb x.0 at ≡ b → (d : Bool) → eqb x.0 other ≡ d → block_in (with_block xs at block) other ≡ block_in xs other → block_in (with_block (x ∷ xs) at block) other ≡ block_in (x ∷ xs) other
    by_test true e true f rest = absurd (ne (sym (eqb-true x.0 other f) ∙ eqb-true x.0 at e))
    by_test true e false f rest = rw (e, ne_eqb at other (λ q. ne (sym q)), f) refl
    by_test false e true f rest = rw (e, f) refl
    by_test false e false f rest = rw (e, f) rest

pub draft_here : (truth : Truth) (xs : List Changed) (at : ℕ) (block : Block) → with_draft truth (with_block xs at block) at ≡ block
draft_here truth xs at block = ap (λ (o : Option Block). unwrap_or o (truth at)) (put_here xs at block)

pub draft_elsewhere : (truth : Truth) (xs : List Changed) (at other : ℕ) (block : Block) → other ≢ at → with_draft truth (with_block xs at block) other ≡ with_draft truth xs other
draft_elsewhere truth xs at other block ne = ap (λ (o : Option Block). unwrap_or o (truth other)) (put_elsewhere xs at other block ne)

-- ---- how many blocks there are

pub length_put : (xs : List Changed) (at : ℕ) (block : Block) → length (with_block xs at block) ≡ length xs + missing xs at
length_put [] at block = refl
length_put (x ∷ xs) at block = by_test (eqb x.0 at) refl (length_put xs at block)
  where
    by_test : (b : Bool) → eqb x.0 at ≡ b → length (with_block xs at block) ≡ length xs + missing xs at → length (with_block (x ∷ xs) at block) ≡ length (x ∷ xs) + missing (x ∷ xs) at
    by_test true e rest = rw e (omega arith)
    by_test false e rest = rw e (omega (arith, rest))

pub length_both : (xs : List Changed) (one other : ℕ) (a b : Block) → other ≢ one → length (with_block (with_block xs one a) other b) ≡ length xs + missing xs one + missing xs other
length_both xs one other a b ne =
    length_put (with_block xs one a) other b
    ∙ ap (λ (n : ℕ). n + missing (with_block xs one a) other) (length_put xs one a)
    ∙ ap (λ (o : Option Block). length xs + missing xs one + missing_of o) (put_elsewhere xs one other a ne)

-- ---- copies

-- a block of a draft, behind others with other numbers
pub record IsNextOf (xs : List Changed) (k : ℕ) (x : Changed) : Type 0 where
  pub missing : place_in (take k xs) x.0 ≡ None
  pub more : take (suc k) xs ≡ take k xs ++ x ∷ []

all_at : (n : ℕ) (xs : List Changed) (k : ℕ) (x : Changed) → AllByRecursion (λ y. eqb n y.0 ≡ false) xs → k < length xs → x ≡ get_or xs k x → eqb n x.0 ≡ false
all_at n [] k x all less is = absurd (omega (arith, less))
all_at n (y ∷ ys) zero x all less is = subst (λ (z : Changed). eqb n z.0 ≡ false) (sym is) all.0
all_at n (y ∷ ys) (suc k) x all less is = all_at n ys k x all.1 (omega (arith, less)) is

pub next_of : (xs : List Changed) (k : ℕ) (x : Changed) → IsDistinct same_number xs → k < length xs → x ≡ get_or xs k x → IsNextOf xs k x
unfolding IsDistinct
next_of [] k x apart less is = absurd (omega (arith, less))
next_of (y ∷ ys) zero x apart less is = record { missing = refl; more = ap (λ (z : Changed). z ∷ []) (sym is) }
next_of (y ∷ ys) (suc k) x apart less is =
    let r = next_of ys k x apart.1 (omega (arith, less)) is in
    record {
      missing = rw (all_at y.0 ys k x apart.0 (omega (arith, less)) is, r.missing) refl;
      more = ap (λ (zs : List Changed). y ∷ zs) r.more;
    }

pub copy_more : (xs copy next : List Changed) (k : ℕ) (x : Changed) (block : Block) → (IsDraft xs → copy ≡ take k xs) → k < length xs → x ≡ get_or xs k x → block ≡ x.1
    → next ≡ with_block copy x.0 block → IsDraft xs → next ≡ take (k + 1) xs
copy_more xs copy next k x block so_far less is same put draft =
    let r = next_of xs k x draft.apart less is in
    put
    ∙ ap (λ (ys : List Changed). with_block ys x.0 block) (so_far draft)
    ∙ (put_behind x.0 block (take k xs) r.missing).put
    ∙ ap (λ (b : Block). take k xs ++ (x.0, b) ∷ []) same
    ∙ sym r.more
    ∙ one_more (suc k) (k + 1) (omega arith)
  where
    one_more : (m n : ℕ) → m ≡ n → take m xs ≡ take n xs
    one_more m n e = ap (λ (i : ℕ). take i xs) e

-- ---- room

pub decides : (n m : ℕ) → m ≡ n → (leb n 16 ≡ true → m ≤ 16) × (m ≤ 16 → leb n 16 ≡ true)
decides n m e = (λ yes. grind (arith, nat_tests, e, yes), λ less. grind (arith, nat_tests, e, less))

pub crowds : (xs : List Changed) (at : ℕ) (block : Block) → (length xs ≡ 16) × (block_in xs at ≡ None) → 16 < length (with_block xs at block)
crowds xs at block full =
    subst (λ (n : ℕ). 16 < n) (sym (length_put xs at block ∙ ap (λ (o : Option Block). length xs + missing_of o) full.1)) (let l = full.0 in omega (arith, l))
