-- Pages of a directory as they are filled.
use Rattle.std.proofs.Common.{◌≡◌, ℕ, ◌-◌, eqb, leb, Bool, true, false, cond, suc, List, [], ◌∷◌, ◌++◌, length, map, min, refl, sym, ap, ◌∙◌, append_assoc, arith}
use Rattle.std.specs.Prelude.{nat_lt}
use Rattle.std.proofs.lemmas.List.{append-nil}
use Rattle.std.proofs.lemmas.List.Elements.{filter-append}
use Rattle.std.proofs.lemmas.Bool.Decides.{nat_tests}
use Rattle.bx_call_parts.specs.declared.pages.Page.{Page}
use Rattle.bx_call_parts.specs.Pages.{filled, with_listed}
use Rattle.bx_model.specs.declared.reply.Listed.{Listed}
use Rattle.bx_model.specs.declared.reply.Reply.TheVariants as Reply
use Rattle.bx_model.specs.Directories.{behind, cost, end_of, listed, that_fit, page as page_of}
use Rattle.bx_model.specs.bx_tree_files.specs.declared.file.Name.{Name}
use Rattle.bx_model.specs.bx_tree_files.specs.Entries.{above}

pub same_answer : (a b : Bool) (x y : Page) → ◌≡◌ {A = Bool × Page} (a, x) (b, y) → a ≡ b
same_answer a b x y is = ap (λ (pair : Bool × Page). pair.0) is

pub same_page : (a b : Bool) (x y : Page) → ◌≡◌ {A = Bool × Page} (a, x) (b, y) → x ≡ y
same_page a b x y is = ap (λ (pair : Bool × Page). pair.1) is

-- ---- one entry, and others behind it

true_false : true ≡ false → ⊥
true_false e = absurd cc

fits_by : (fits : Bool) (page next : Page) (e : Name) (es : List Name) → ◌≡◌ {A = Bool × Page} (true, next) (cond fits (true, with_listed page e) (false, page))
    → ◌≡◌ {A = Bool × Page} (cond fits (filled (with_listed page e) es) (false, page)) (filled next es)
fits_by true page next e es is = ap (λ (p : Page). filled p es) (sym (same_page true true next (with_listed page e) is))
fits_by false page next e es is = absurd (true_false (same_answer true false next page is))

-- an entry that fits is put before the others
pub one_fits : (page next : Page) (e : Name) (es : List Name) → ◌≡◌ {A = Bool × Page} (true, next) (filled page (e ∷ [])) → filled page (e ∷ es) ≡ filled next es
one_fits page next e es is = fits_by (leb (cost e) page.room) page next e es is

stops_by : (fits : Bool) (page next : Page) (e : Name) (es : List Name) → ◌≡◌ {A = Bool × Page} (false, next) (cond fits (true, with_listed page e) (false, page))
    → ◌≡◌ {A = Bool × Page} (false, next) (cond fits (filled (with_listed page e) es) (false, page))
stops_by true page next e es is = absurd (true_false (sym (same_answer false true next (with_listed page e) is)))
stops_by false page next e es is = is

-- one that doesn't fit ends the page
pub one_stops : (page next : Page) (e : Name) (es : List Name) → ◌≡◌ {A = Bool × Page} (false, next) (filled page (e ∷ [])) → ◌≡◌ {A = Bool × Page} (false, next) (filled page (e ∷ es))
one_stops page next e es is = stops_by (leb (cost e) page.room) page next e es is

-- ---- a list, and another behind it

more_by : (fits : Bool) (page mid : Page) (e : Name) (es more : List Name) → ◌≡◌ {A = Bool × Page} (true, mid) (cond fits (filled (with_listed page e) es) (false, page))
    → (◌≡◌ {A = Bool × Page} (true, mid) (filled (with_listed page e) es) → filled (with_listed page e) (es ++ more) ≡ filled mid more)
    → ◌≡◌ {A = Bool × Page} (cond fits (filled (with_listed page e) (es ++ more)) (false, page)) (filled mid more)
more_by true page mid e es more is later = later is
more_by false page mid e es more is later = absurd (true_false (same_answer true false mid page is))

pub all_fit : (page mid : Page) (es more : List Name) → ◌≡◌ {A = Bool × Page} (true, mid) (filled page es) → filled page (es ++ more) ≡ filled mid more
all_fit page mid [] more is = ap (λ (p : Page). filled p more) (sym (same_page true true mid page is))
all_fit page mid (e ∷ es) more is = more_by (leb (cost e) page.room) page mid e es more is (all_fit (with_listed page e) mid es more)

some_by : (fits : Bool) (page mid : Page) (e : Name) (es more : List Name) → ◌≡◌ {A = Bool × Page} (false, mid) (cond fits (filled (with_listed page e) es) (false, page))
    → (◌≡◌ {A = Bool × Page} (false, mid) (filled (with_listed page e) es) → ◌≡◌ {A = Bool × Page} (false, mid) (filled (with_listed page e) (es ++ more)))
    → ◌≡◌ {A = Bool × Page} (false, mid) (cond fits (filled (with_listed page e) (es ++ more)) (false, page))
some_by true page mid e es more is later = later is
some_by false page mid e es more is later = is

pub some_fit : (page mid : Page) (es more : List Name) → ◌≡◌ {A = Bool × Page} (false, mid) (filled page es) → ◌≡◌ {A = Bool × Page} (false, mid) (filled page (es ++ more))
some_fit page mid [] more is = absurd (true_false (sym (same_answer false true mid page is)))
some_fit page mid (e ∷ es) more is = some_by (leb (cost e) page.room) page mid e es more is (some_fit (with_listed page e) mid es more)

-- ---- the page that is filled lists the longest run that fits, and all of it where it ends

record Lists (page next : Page) (all : Bool) (entries : List Name) (given : List Name) : Type 0 where
  lists : next.entries ≡ page.entries ++ map listed given
  ends : cond all 1 0 ≡ end_of entries given

some_left : (n : ℕ) → eqb 0 (suc n) ≡ false
some_left n = grind (arith, nat_tests)

one_longer : (a b : ℕ) → eqb (suc a) (suc b) ≡ eqb a b
one_longer a b = grind (arith, nat_tests)

lists_by : (fits : Bool) (page next : Page) (all : Bool) (e : Name) (es : List Name) → ◌≡◌ {A = Bool × Page} (all, next) (cond fits (filled (with_listed page e) es) (false, page))
    → (◌≡◌ {A = Bool × Page} (all, next) (filled (with_listed page e) es) → Lists (with_listed page e) next all es (that_fit (page.room - cost e) es))
    → Lists page next all (e ∷ es) (cond fits (e ∷ that_fit (page.room - cost e) es) [])
lists_by true page next all e es is later =
    let h = later is in
    record { lists = h.lists ∙ append_assoc page.entries (listed e ∷ []) (map listed (that_fit (page.room - cost e) es)); ends = h.ends ∙ ap (λ (same : Bool). cond same 1 0) (sym (one_longer (length (that_fit (page.room - cost e) es)) (length es))) }
lists_by false page next all e es is later =
    record { lists = rw (same_page all false next page is) (sym (append-nil page.entries)); ends = rw (same_answer all false next page is, some_left (length es)) refl }

lists : (page next : Page) (all : Bool) (es : List Name) → ◌≡◌ {A = Bool × Page} (all, next) (filled page es) → Lists page next all es (that_fit page.room es)
lists page next all [] is =
    record { lists = rw (same_page all true next page is) (sym (append-nil page.entries)); ends = rw (same_answer all true next page is) refl }
lists page next all (e ∷ es) is = lists_by (leb (cost e) page.room) page next all e es is (lists (with_listed page e) next all es)

-- what is answered of it
pub page_listed : (page next : Page) (all : Bool) (es : List Name) (count : ℕ) → page.entries ≡ [] → page.room ≡ min count 8192 - 8
    → ◌≡◌ {A = Bool × Page} (all, next) (filled page es) → Reply.List next.entries (cond all 1 0) ≡ Reply.List (map listed (page_of es count)) (end_of es (page_of es count))
page_listed page next all es count none room is =
    let done = lists page next all es is in
    let fit : that_fit page.room es ≡ page_of es count = ap (λ (left : ℕ). that_fit left es) room in
    ap (λ (given : List Listed). Reply.List given (cond all 1 0)) (done.lists ∙ ap (λ (before : List Listed). before ++ map listed (that_fit page.room es)) none ∙ ap (map listed) fit)
    ∙ ap (Reply.List (map listed (page_of es count))) (done.ends ∙ ap (end_of es) fit)

-- the same of an entry with its name
pub put_as : (page next : Page) (fits is_fit : Bool) (e : Name) (name : List ℕ) → name ≡ e.name → fits ≡ is_fit
    → ◌≡◌ {A = Bool × Page} (fits, next) (filled page (record { number = e.number; name = name; handle = e.handle } ∷ [])) → ◌≡◌ {A = Bool × Page} (is_fit, next) (filled page (e ∷ []))
put_as page next fits is_fit e name same test is =
    (λ i. (sym test i, next)) ∙ is ∙ (λ i. filled page (record { number = e.number; name = same i; handle = e.handle } ∷ []))

-- the page with the directory itself, its parent and the entries behind a cookie
pub both_listed : (page mid next : Page) (all : Bool) (dots names : List Name) (cookie count : ℕ) → page ≡ record { entries = []; room = min count 8192 - 8 }
    → ◌≡◌ {A = Bool × Page} (true, mid) (filled page (behind cookie dots)) → ◌≡◌ {A = Bool × Page} (all, next) (filled mid (above cookie names)) → Reply.List next.entries (cond all 1 0) ≡ Reply.List (map listed (page_of (behind cookie (dots ++ names)) count)) (end_of (behind cookie (dots ++ names)) (page_of (behind cookie (dots ++ names)) count))
both_listed page mid next all dots names cookie count new first rest =
    page_listed page next all (behind cookie (dots ++ names)) count (ap (λ (p : Page). p.entries) new) (ap (λ (p : Page). p.room) new)
    (rest ∙ sym (all_fit page mid (behind cookie dots) (above cookie names) first) ∙ ap (filled page) (sym (filter-append (λ (e : Name). nat_lt cookie e.number) dots names)))
