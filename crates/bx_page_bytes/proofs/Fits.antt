-- Entries of which each may stand behind the one before it are those of a page, and the other way round.
use Rattle.std.proofs.Common.{◌≡◌, ℕ, zero, suc, ◌<◌, Bool, true, false, ◌&&◌, List, [], ◌∷◌, length, Option, Some, None, refl, arith, eqb, inl, inr}
use Rattle.std.specs.Prelude.{All, IfSome}
use Rattle.std.proofs.lemmas.Bool.{eqb-true, ne_eqb, cases_Bool}
use Rattle.std.proofs.lemmas.List.Elements.{All-cons, All-head, All-tail, All-weaker}
use Rattle.std.proofs.lemmas.List.Kept.{AllPairs-cons}
use Rattle.bx_page.specs.declared.entry.Entry.{Entry}
use Rattle.bx_page.specs.Keys.{IsBelow}
use Rattle.bx_page.specs.Contents.{Rises}
use Rattle.bx_page.proofs.Order.{below_trans}
use Rattle.bx_page_bytes.specs.Checks.{follows, fits_level, ends_below}
use Rattle.bx_page_bytes.proofs.Behind.{fits_list}

-- what the entries of a page of a level are, behind a key
pub record Fits (level : ℕ) (high before : Option (List ℕ)) (entries : List Entry) : Type 0 where
  pub rises : Rises entries
  pub above : IfSome before (λ key. All (λ entry. IsBelow key entry.key) entries)
  pub below : IfSome high (λ key. All (λ entry. IsBelow entry.key key) entries)
  pub ends : ends_below before high ≡ true
  pub children : 0 < level → All (λ entry. length entry.value ≡ 8) entries

both_true : (a b : Bool) → (a && b) ≡ true → (a ≡ true) × (b ≡ true)
both_true true b h = (refl, h)
both_true false b h = absurd cc

none_below : (P : Entry → Type 0) → All P []
none_below P = λ k d lt. absurd (omega (arith, lt))

no_pairs : Rises []
no_pairs = λ i j d lt within. absurd (omega (arith, within))

if_some : (o : Option (List ℕ)) (P : List ℕ → Type 0) → ((key : List ℕ) → P key) → IfSome o P
if_some None P h = tt
if_some (Some key) P h = h key

-- the key before another, which is before all others
above_more : (before : Option (List ℕ)) (entry : Entry) (entries : List Entry) → follows before entry.key ≡ true → All (λ other. IsBelow entry.key other.key) entries
    → IfSome before (λ key. All (λ other. IsBelow key other.key) (entry ∷ entries))
above_more None entry entries h all = tt
above_more (Some key) entry entries h all =
    All-cons (λ other. IsBelow key other.key) entry entries h (All-weaker (λ other. IsBelow entry.key other.key) (λ other. IsBelow key other.key) (λ other lt. below_trans key entry.key other.key h lt) entries all)

below_more : (high : Option (List ℕ)) (entry : Entry) (entries : List Entry) → ends_below (Some entry.key) high ≡ true → IfSome high (λ key. All (λ other. IsBelow other.key key) entries)
    → IfSome high (λ key. All (λ other. IsBelow other.key key) (entry ∷ entries))
below_more None entry entries h all = tt
below_more (Some key) entry entries h all = All-cons (λ other. IsBelow other.key key) entry entries h all

ends_more : (before high : Option (List ℕ)) (entry : Entry) → follows before entry.key ≡ true → ends_below (Some entry.key) high ≡ true → ends_below before high ≡ true
ends_more None high entry h ends = refl
ends_more (Some key) None entry h ends = refl
ends_more (Some key) (Some end) entry h ends = below_trans key entry.key end h ends

is_child : (level : ℕ) (value : List ℕ) → fits_level level value ≡ true → 0 < level → length value ≡ 8
is_child level value h above =
    let other : eqb level 0 ≡ false = ne_eqb level 0 (omega arith) in
    eqb-true (length value) 8 (rw other at h)

-- entries that pass are those of a page
pub passes_fits : (level : ℕ) (high before : Option (List ℕ)) (entries : List Entry) → fits_list level high before entries ≡ true → Fits level high before entries
passes_fits level high before [] h = record {
  rises = no_pairs;
  above = if_some before (λ key. All (λ entry. IsBelow key entry.key) []) (λ key. none_below (λ entry. IsBelow key entry.key));
  below = if_some high (λ key. All (λ entry. IsBelow entry.key key) []) (λ key. none_below (λ entry. IsBelow entry.key key));
  ends = h;
  children = λ above. none_below (λ entry. length entry.value ≡ 8);
}
passes_fits level high before (entry ∷ entries) h =
    let parts = both_true (follows before entry.key && fits_level level entry.value) (fits_list level high (Some entry.key) entries) h in
    let tests = both_true (follows before entry.key) (fits_level level entry.value) parts.0 in
    let others = passes_fits level high (Some entry.key) entries parts.1 in
    record {
      rises = AllPairs-cons (λ a b. IsBelow a.key b.key) entry entries others.above others.rises;
      above = above_more before entry entries tests.0 others.above;
      below = below_more high entry entries others.ends others.below;
      ends = ends_more before high entry tests.0 others.ends;
      children = λ above. All-cons (λ other. length other.value ≡ 8) entry entries (is_child level entry.value tests.1 above) (others.children above);
    }

follows_above : (before : Option (List ℕ)) (entry : Entry) (entries : List Entry) → IfSome before (λ key. All (λ other. IsBelow key other.key) (entry ∷ entries)) → follows before entry.key ≡ true
follows_above None entry entries all = refl
follows_above (Some key) entry entries all = All-head (λ other. IsBelow key other.key) entry entries all

above_none : (level : ℕ) → eqb level 0 ≡ false → 0 < level
above_none zero h = absurd cc
above_none (suc level) h = omega arith

child_fits : (level : ℕ) (value : List ℕ) → (0 < level → length value ≡ 8) → fits_level level value ≡ true
child_fits level value h =
    elim (cases_Bool (eqb level 0)) [
      | inl is ↦ rw is refl
      | inr not ↦ rw (not, h (above_none level not)) refl
    ]

ends_high : (high : Option (List ℕ)) (entry : Entry) (entries : List Entry) → IfSome high (λ key. All (λ other. IsBelow other.key key) (entry ∷ entries)) → ends_below (Some entry.key) high ≡ true
ends_high None entry entries all = refl
ends_high (Some key) entry entries all = All-head (λ other. IsBelow other.key key) entry entries all

others_below : (high : Option (List ℕ)) (entry : Entry) (entries : List Entry) → IfSome high (λ key. All (λ other. IsBelow other.key key) (entry ∷ entries)) → IfSome high (λ key. All (λ other. IsBelow other.key key) entries)
others_below None entry entries all = tt
others_below (Some key) entry entries all = All-tail (λ other. IsBelow other.key key) entry entries all

both_hold : (a b : Bool) → a ≡ true → b ≡ true → (a && b) ≡ true
both_hold a b h k = rw h k

-- the entries of a page pass
pub fits_passes : (level : ℕ) (high before : Option (List ℕ)) (entries : List Entry) → Fits level high before entries → fits_list level high before entries ≡ true
fits_passes level high before [] fits = fits.ends
fits_passes level high before (entry ∷ entries) fits =
    let child : 0 < level → length entry.value ≡ 8 = λ above. All-head (λ other. length other.value ≡ 8) entry entries (fits.children above) in
    let first = both_hold (follows before entry.key) (fits_level level entry.value) (follows_above before entry entries fits.above) (child_fits level entry.value child) in
    both_hold (follows before entry.key && fits_level level entry.value) (fits_list level high (Some entry.key) entries) first (fits_passes level high (Some entry.key) entries record {
      rises = λ i j d lt within. fits.rises (suc i) (suc j) d (omega arith) (omega arith);
      above = λ k d lt. fits.rises 0 (suc k) d (omega arith) (omega arith);
      below = others_below high entry entries fits.below;
      ends = ends_high high entry entries fits.below;
      children = λ above. All-tail (λ other. length other.value ≡ 8) entry entries (fits.children above);
    })
