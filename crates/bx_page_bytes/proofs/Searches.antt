-- The last entry that isn't above a key, while the entries are gone through.
use Rattle.std.proofs.Common.{◌≡◌, ℕ, suc, Bool, true, false, List, [], ◌∷◌, ◌++◌, Option, Some, None, refl, sym, ap, ◌∙◌, arith}
use Rattle.std.specs.Prelude.{All, not, reverse, slice_get, drop}
use Rattle.std.specs.Option.{option_or}
use Rattle.std.proofs.lemmas.List.{reverse-append}
use Rattle.std.proofs.lemmas.List.Elements.{All-cons, All-weaker}
use Rattle.bx_page.specs.declared.entry.Entry.{Entry}
use Rattle.bx_page.specs.Keys.{is_below, IsBelow}
use Rattle.bx_page.specs.Contents.{Rises, up_to, from, first, last}
use Rattle.bx_page.proofs.Order.{below_trans}
use Rattle.bx_page.proofs.Cuts.{filter_all, filter_none}

-- the entries behind the first rise, and are above it
pub rises_behind : (entry : Entry) (entries : List Entry) → Rises (entry ∷ entries) → Rises entries
rises_behind entry entries rises = λ i j d lt within. rises (suc i) (suc j) d (omega arith) (omega arith)

pub above_first : (entry : Entry) (entries : List Entry) → Rises (entry ∷ entries) → All (λ other. IsBelow entry.key other.key) entries
above_first entry entries rises = λ k d lt. rises 0 (suc k) d (omega arith) (omega arith)

not_true : (b : Bool) → b ≡ true → not b ≡ false
not_true b h = rw h refl

-- where the first entry is above a key, all are
pub none_up_to : (entry : Entry) (entries : List Entry) (key : List ℕ) → Rises (entry ∷ entries) → is_below key entry.key ≡ true → up_to (entry ∷ entries) key ≡ []
none_up_to entry entries key rises lt =
    filter_none (λ other. not (is_below key other.key)) (entry ∷ entries)
    (All-cons (λ other. not (is_below key other.key) ≡ false) entry entries (not_true _ lt)
    (All-weaker (λ other. IsBelow entry.key other.key) (λ other. not (is_below key other.key) ≡ false) (λ other above. not_true _ (below_trans key entry.key other.key lt above)) entries (above_first entry entries rises)))

-- the last of entries, by the last of those behind the first
last_at : (ys : List Entry) (x : Entry) → slice_get (ys ++ x ∷ []) 0 ≡ option_or (slice_get ys 0) (Some x)
last_at [] x = refl
last_at (y ∷ ys) x = refl

last_cons : (x : Entry) (xs : List Entry) → last (x ∷ xs) ≡ option_or (last xs) (Some x)
last_cons x xs = ap (λ (ys : List Entry). slice_get ys 0) (reverse-append (x ∷ []) xs) ∙ last_at (reverse xs) x

or_some : (o : Option Entry) (x : Entry) (found : Option Entry) → option_or (option_or o (Some x)) found ≡ option_or o (Some x)
or_some None x found = refl
or_some (Some y) x found = refl

not_false : (b : Bool) → b ≡ false → not b ≡ true
not_false b h = rw h refl

pub first_is : (entry other : Entry) → ◌≡◌ {A = Option Entry} (Some entry) (Some other) → entry ≡ other
first_is entry other is = cc

pub no_first : (entry : Entry) → ◌≡◌ {A = Option Entry} (Some entry) None → ⊥
no_first entry is = absurd cc

-- where the next entry is above the key, the one found so far is the last
pub stops : (entries : List Entry) (entry : Entry) (key : List ℕ) (found all : Option Entry) → Rises entries → Some entry ≡ first entries → is_below key entry.key ≡ true
    → option_or (last (up_to entries key)) found ≡ all → found ≡ all
stops [] entry key found all rises is lt so_far = absurd (no_first entry is)
stops (other ∷ others) entry key found all rises is lt so_far =
    let above : is_below key other.key ≡ true = rw (first_is entry other is) at lt in
    let none : option_or (last (up_to (other ∷ others) key)) found ≡ found = ap (λ (entries : List Entry). option_or (last entries) found) (none_up_to other others key rises above) in
    sym none ∙ so_far

-- what is so when an entry that isn't above the key is the one found
pub record Goes (key : List ℕ) (behind : List Entry) (entry : Entry) (all : Option Entry) : Type 0 where
  pub rises : Rises behind
  pub found : option_or (last (up_to behind key)) (Some entry) ≡ all

pub goes : (entries : List Entry) (entry : Entry) (key : List ℕ) (found all : Option Entry) → Rises entries → Some entry ≡ first entries → is_below key entry.key ≡ false
    → option_or (last (up_to entries key)) found ≡ all → Goes key (drop 1 entries) entry all
goes [] entry key found all rises is le so_far = absurd (no_first entry is)
goes (other ∷ others) entry key found all rises is le so_far =
    let same = first_is entry other is in
    let up : not (is_below key other.key) ≡ true = not_false _ (rw same at le) in
    let kept : up_to (other ∷ others) key ≡ other ∷ up_to others key = rw up refl in
    let now : option_or (last (up_to (other ∷ others) key)) found ≡ option_or (last (up_to others key)) (Some other) =
    ap (λ (entries : List Entry). option_or (last entries) found) kept ∙ ap (λ (o : Option Entry). option_or o found) (last_cons other (up_to others key)) ∙ or_some (last (up_to others key)) other found in
    record {
      rises = rises_behind other others rises;
      found = ap (λ (e : Entry). option_or (last (up_to others key)) (Some e)) same ∙ sym now ∙ so_far;
    }

-- what is above a key that isn't below another isn't below that either
not_below_later : (a b key : List ℕ) → IsBelow a b → is_below a key ≡ false → is_below b key ≡ false
not_below_later a b key less not_below = by (is_below b key) refl
  where
    by : (t : Bool) → is_below b key ≡ t → is_below b key ≡ false
    by true is = let both : true ≡ false = sym (below_trans a b key less is) ∙ not_below in absurd cc
    by false is = is

-- where the first entry isn't below a key, none is
pub all_from : (entries : List Entry) (entry : Entry) (key : List ℕ) → Rises entries → Some entry ≡ first entries → is_below entry.key key ≡ false → from entries key ≡ entries
all_from [] entry key rises is not_below = absurd (no_first entry is)
all_from (other ∷ others) entry key rises is not_below =
    let here : is_below other.key key ≡ false = ap (λ (e : Entry). is_below e.key key) (sym (first_is entry other is)) ∙ not_below in
    filter_all (λ (x : Entry). not (is_below x.key key)) (other ∷ others)
    (All-cons (λ (x : Entry). not (is_below x.key key) ≡ true) other others (not_false _ here)
    (All-weaker (λ (x : Entry). IsBelow other.key x.key) (λ (x : Entry). not (is_below x.key key) ≡ true) (λ x later. not_false _ (not_below_later other.key x.key key later here)) others (above_first other others rises)))
