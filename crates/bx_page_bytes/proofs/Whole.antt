-- Bytes and the page that they are, both ways.
use Rattle.std.proofs.Common.{◌≡◌, ℕ, ◌-◌, ◌+◌, ◌≤◌, Bool, true, false, cond, List, length, Option, Some, None, refl, sym, ap, subst, ◌∙◌, arith}
use Rattle.std.specs.Prelude.{replicate}
use Rattle.std.proofs.lemmas.List.{length-append, length-replicate}
use Rattle.std.proofs.lemmas.Option.{some_pair_parts}
use Rattle.bx_base.specs.Bytes.{IsBytes}
use Rattle.bx_base.specs.declared.error.ReadError.{ReadError}
use Rattle.bx_base.specs.declared.error.ReadError.TheVariants.{Malformed}
use Rattle.bx_base.specs.Reading.{◌>>=◌, Fails, list_at}
use Rattle.bx_base.proofs.Fields.{bind_some}
use Rattle.bx_page.specs.declared.entry.Entry.{Entry}
use Rattle.bx_page.specs.Contents.{Contents, size, IsPage}
use Rattle.bx_page.specs.Spelling.{Spells}
use Rattle.bx_page.specs.Reading.{entry_at, high_at, numbers_at, contents_at}
use Rattle.bx_page.proofs.Written.{front}
use Rattle.bx_page.proofs.Fields.{contents_take}
use Rattle.bx_page.proofs.Whole.{page_again, page_read, page_same, not_none}
use Rattle.bx_page_bytes.specs.Entries.{entries_in}
use Rattle.bx_page_bytes.specs.Checks.{rest_behind}
use Rattle.bx_page_bytes.proofs.Behind.{fits_list, picked, behind_is, listed}
use Rattle.bx_page_bytes.proofs.Fits.{Fits, passes_fits, fits_passes}

-- the numbers and the high key that were read, and the bytes behind them
pub record HasHead (bytes : List ℕ) (level count right : ℕ) (high : Option (List ℕ)) (behind : List ℕ) : Type 0 where
  pub middle : List ℕ
  pub numbers : numbers_at bytes ≡ Some ((level, count, right), middle)
  pub high_key : high_at middle ≡ Some (high, behind)

pub of_malformed : {X : Type 0} (error : ReadError) (read : Option X) → Fails error read → error ≡ Malformed → read ≡ None
of_malformed error read fails is = rw is at fails

pub no_numbers : (bytes : List ℕ) (page : Contents) → numbers_at bytes ≡ None → Spells page bytes → ⊥
unfolding contents_at
no_numbers bytes page none spells =
    let not : contents_at bytes ≡ None = rw none refl in
    not_none bytes page not spells

pub no_high : (bytes middle : List ℕ) (numbers : ℕ × ℕ × ℕ) (page : Contents) → numbers_at bytes ≡ Some (numbers, middle) → high_at middle ≡ None → Spells page bytes → ⊥
unfolding contents_at
no_high bytes middle numbers page is none spells =
    let not : contents_at bytes ≡ None = rw (is, none) refl in
    not_none bytes page not spells

passed_some : {X : Type 0} (b : Bool) (x y : X) → ◌≡◌ {A = Option X} (cond b (Some x) None) (Some y) → (b ≡ true) × (x ≡ y)
passed_some true x y e = (refl, cc)
passed_some false x y e = absurd cc

failed_none : {X : Type 0} (b : Bool) (x : X) → ◌≡◌ {A = Option X} (cond b (Some x) None) None → b ≡ true → ⊥
failed_none true x e h = absurd cc
failed_none false x e h = absurd cc

module _ (bytes : List ℕ) (level count right : ℕ) (high : Option (List ℕ)) (behind : List ℕ) (head : HasHead bytes level count right high behind) where
  no_list : (page : Contents) → list_at count entry_at behind ≡ None → Spells page bytes → ⊥
  unfolding contents_at
  no_list page none spells =
      let not : contents_at bytes ≡ None = rw (head.numbers, head.high_key, none) refl in
      not_none bytes page not spells

  contents_are : (entries : List Entry) (rest : List ℕ) → list_at count entry_at behind ≡ Some (entries, rest) → contents_at bytes ≡ Some (record { level = level; right = right; high = high; entries = entries }, rest)
  unfolding contents_at
  contents_are entries rest is = rw (head.numbers, head.high_key, is) refl

  fits_page : (page : Contents) (entries : List Entry) (rest : List ℕ) → list_at count entry_at behind ≡ Some (entries, rest) → Spells page bytes
      → (record { level = level; right = right; high = high; entries = entries } ≡ page) × (rest ≡ replicate (length rest) 0)
  fits_page page entries rest is spells = page_same bytes rest (record { level = level; right = right; high = high; entries = entries }) page (contents_are entries rest is) spells

  -- where entries stand behind the head, and what is behind them
  pub record Found (rest : List ℕ) : Type 0 where
    pub listed_is : list_at count entry_at behind ≡ Some (entries_in count behind, rest)
    pub there : length (entries_in count behind) ≡ count
    pub fits : Fits level high None (entries_in count behind)

  found : (rest : List ℕ) → Some rest ≡ rest_behind level high count None behind → Found rest
  found rest is =
      let step = bind_some (list_at count entry_at behind) (picked level high None) rest (sym (behind_is level high count None behind) ∙ sym is) in
      let passed = passed_some (fits_list level high None step.0.0) step.0.1 rest step.2 in
      let same = listed count behind step.0.0 step.0.1 step.1 in
      record {
        listed_is = step.1 ∙ ap (λ (entries : List Entry). Some (entries, step.0.1)) (sym same.0) ∙ ap (λ (after : List ℕ). Some (entries_in count behind, after)) passed.1;
        there = ap length same.0 ∙ same.1;
        fits = subst (Fits level high None) (sym same.0) (passes_fits level high None step.0.0 passed.0);
      }

  -- the bytes are a page, where only zeros are behind the entries
  pub stands : (rest : List ℕ) → IsBytes bytes → length bytes ≡ 4096 → Some rest ≡ rest_behind level high count None behind → rest ≡ replicate (length rest) 0
      → Spells (record { level = level; right = right; high = high; entries = entries_in count behind }) bytes
  stands rest fits len is zeros =
      let f = found rest is in
      page_read bytes rest (record { level = level; right = right; high = high; entries = entries_in count behind }) fits (contents_are (entries_in count behind) rest f.listed_is) len zeros
      record { order = record { rises = f.fits.rises; below = f.fits.below }; children = f.fits.children }

  pub rest-le : (rest : List ℕ) → IsBytes bytes → length bytes ≡ 4096 → Some rest ≡ rest_behind level high count None behind → length rest ≤ 4096
  rest-le rest fits len is =
      let page : Contents = record { level = level; right = right; high = high; entries = entries_in count behind } in
      let taken = (contents_take bytes (page, rest) fits (contents_are (entries_in count behind) rest (found rest is).listed_is)).0 in
      omega (arith, ap length taken, length-append (front page) rest, len)

  pub are_there : (rest : List ℕ) → Some rest ≡ rest_behind level high count None behind → length (entries_in count behind) ≡ count
  are_there rest is = (found rest is).there

  -- what is behind the entries is what the page leaves
  pub leaves : (rest : List ℕ) → Some rest ≡ rest_behind level high count None behind
      → Spells (record { level = level; right = right; high = high; entries = entries_in count behind }) bytes
      → length rest + size (record { level = level; right = right; high = high; entries = entries_in count behind }) ≡ 4096
  leaves rest is spells =
      let page : Contents = record { level = level; right = right; high = high; entries = entries_in count behind } in
      let both = some_pair_parts page page rest (replicate (4096 - size page) 0) (sym (contents_are (entries_in count behind) rest (found rest is).listed_is) ∙ page_again page bytes spells) in
      let len : length rest ≡ 4096 - size page = ap length both.1 ∙ length-replicate {A = ℕ} (4096 - size page) 0 in
      let most : size page ≤ 4096 = spells.is.room in
      omega arith

  refused_at : (page : Contents) (list : Option (List Entry × List ℕ)) → list_at count entry_at behind ≡ list → ◌≡◌ {A = Option (List ℕ)} (list >>= picked level high None) None → Spells page bytes → ⊥
  refused_at page None is none spells = no_list page is spells
  refused_at page (Some x) is none spells =
      let same = (fits_page page x.0 x.1 is spells).0 in
      let p : IsPage (record { level = level; right = right; high = high; entries = x.0 }) = rw same spells.is in
      let fits : Fits level high None x.0 = record { rises = p.rises; above = tt; below = p.below; ends = refl; children = p.children } in
      failed_none (fits_list level high None x.0) x.1 none (fits_passes level high None x.0 fits)

  -- where no entries stand behind the head, the bytes are no page
  pub refused : (page : Contents) → None ≡ rest_behind level high count None behind → Spells page bytes → ⊥
  refused page none spells = refused_at page (list_at count entry_at behind) refl (sym (behind_is level high count None behind) ∙ sym none) spells

  pub not_zeros : (rest : List ℕ) (page : Contents) → Some rest ≡ rest_behind level high count None behind → (rest ≡ replicate (length rest) 0 → ⊥) → Spells page bytes → ⊥
  not_zeros rest page is not spells = not (fits_page page (entries_in count behind) rest (found rest is).listed_is spells).1
