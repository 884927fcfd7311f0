-- The pages of a level: their ranges rise.
use Rattle.std.proofs.Common.{◌≡◌, ℕ, false, List, [], ◌∷◌, ◌++◌, Some, sym, ◌∙◌}
use Rattle.std.specs.Prelude.{All, IfSome}
use Rattle.std.specs.List.{AllByRecursion}
use Rattle.std.proofs.lemmas.List.Elements.{All-append, All-weaker}
use Rattle.std.proofs.lemmas.List.Concat.{flat_map-append}
use Rattle.bx_page.specs.declared.entry.Entry.{Entry}
use Rattle.bx_page.specs.Keys.{is_below, IsBelow}
use Rattle.bx_page.proofs.Order.{below_trans, not_below_itself}
use Rattle.bx_truth.specs.PageTrees.{Node, PagesLead, IsChain, entries_of}
use Rattle.bx_blink.proofs.Keys.{le_lt, lt_le, le_le, lt_not}
use Rattle.bx_blink.proofs.Entries.{Surrounds}

-- what a page's range is to its keys
pub record IsRange (node : Node) : Type 0 where
  pub lowest : All (λ entry. is_below entry.key node.begins ≡ false) node.page.entries
  pub highest : IfSome node.page.high (IsBelow node.begins)
  pub below : IfSome node.page.high (λ high. All (λ entry. IsBelow entry.key high) node.page.entries)

none_here : {X : Type 0} (P : X → Type 0) → All P []
none_here P = λ k d lt. elim lt [ ]

-- all that is behind a page is not below any key that its high key isn't below
pub behind_not_below : (low high : List ℕ) (node : Node) (rest : List Node) → PagesLead node rest → AllByRecursion IsRange rest → node.page.high ≡ Some high → is_below high low ≡ false
    → All (λ entry. is_below entry.key low ≡ false) (entries_of rest)
behind_not_below low high node [] leads ranges is le = none_here (λ (entry : Entry). is_below entry.key low ≡ false)
behind_not_below low high node (next ∷ []) leads ranges is le =
    let begins_is : next.begins ≡ high = (let both : Some next.begins ≡ Some high = sym leads.0.high ∙ is in cc) in
    let begins_le : is_below next.begins low ≡ false = rw begins_is le in
    All-append (λ (e : Entry). is_below e.key low ≡ false) next.page.entries []
    (All-weaker (λ (e : Entry). is_below e.key next.begins ≡ false) (λ (e : Entry). is_below e.key low ≡ false) (λ e h. le_le low next.begins e.key begins_le h) next.page.entries ranges.0.lowest)
    (none_here (λ (entry : Entry). is_below entry.key low ≡ false))
behind_not_below low high node (next ∷ another ∷ more) leads ranges is le =
    let begins_is : next.begins ≡ high = (let both : Some next.begins ≡ Some high = sym leads.0.high ∙ is in cc) in
    let begins_le : is_below next.begins low ≡ false = rw begins_is le in
    let above : IsBelow next.begins another.begins = rw leads.1.0.high at ranges.0.highest in
    All-append (λ (e : Entry). is_below e.key low ≡ false) next.page.entries (entries_of (another ∷ more))
    (All-weaker (λ (e : Entry). is_below e.key next.begins ≡ false) (λ (e : Entry). is_below e.key low ≡ false) (λ e h. le_le low next.begins e.key begins_le h) next.page.entries ranges.0.lowest)
    (behind_not_below low another.begins next (another ∷ more) leads.1 ranges.1 leads.1.0.high (lt_not low another.begins (le_lt low next.begins another.begins begins_le above)))

-- what is before a page
pub record Before (node : Node) (x : Node) (before : List Node) : Type 0 where
  pub begins : IsBelow x.begins node.begins
  pub entries : All (λ entry. IsBelow entry.key node.begins) (x.page.entries ++ entries_of before)

pub all_before : (x : Node) (before : List Node) (node : Node) (behind : List Node) → PagesLead x (before ++ node ∷ behind) → AllByRecursion IsRange (x ∷ (before ++ node ∷ behind)) → Before node x before
all_before x [] node behind leads ranges =
    record {
      begins = rw leads.0.high at ranges.0.highest;
      entries = All-append (λ (e : Entry). IsBelow e.key node.begins) x.page.entries [] (rw leads.0.high at ranges.0.below) (none_here (λ (e : Entry). IsBelow e.key node.begins));
    }
all_before x (y ∷ ys) node behind leads ranges =
    let later = all_before y ys node behind leads.1 ranges.1 in
    let lower : IsBelow x.begins y.begins = rw leads.0.high at ranges.0.highest in
    let here : All (λ (e : Entry). IsBelow e.key y.begins) x.page.entries = rw leads.0.high at ranges.0.below in
    record {
      begins = below_trans x.begins y.begins node.begins lower later.begins;
      entries = All-append (λ (e : Entry). IsBelow e.key node.begins) x.page.entries (y.page.entries ++ entries_of ys)
          (All-weaker (λ (e : Entry). IsBelow e.key y.begins) (λ (e : Entry). IsBelow e.key node.begins) (λ e h. below_trans e.key y.begins node.begins h later.begins) x.page.entries here)
          later.entries;
    }

-- a page leads to what is behind it
pub leads_at : (x : Node) (before : List Node) (node : Node) (behind : List Node) → PagesLead x (before ++ node ∷ behind) → PagesLead node behind
leads_at x [] node behind leads = leads.1
leads_at x (y ∷ ys) node behind leads = leads_at y ys node behind leads.1

pub leads_in : (before : List Node) (node : Node) (behind : List Node) → IsChain (before ++ node ∷ behind) → PagesLead node behind
leads_in [] node behind chain = chain.1
leads_in (x ∷ before) node behind chain = leads_at x before node behind chain.1

pub ranges_at : (before : List Node) (node : Node) (behind : List Node) → AllByRecursion IsRange (before ++ node ∷ behind) → AllByRecursion IsRange (node ∷ behind)
ranges_at [] node behind ranges = ranges
ranges_at (x ∷ before) node behind ranges = ranges_at before node behind ranges.1

-- the key is in a page's range
pub record Covers (node : Node) (key : List ℕ) : Type 0 where
  pub from : is_below key node.begins ≡ false
  pub to : IfSome node.page.high (IsBelow key)

-- the entries of pages before and behind a page in whose range a key is
pub surrounds : (key : List ℕ) (before : List Node) (node : Node) (behind : List Node) → IsChain (before ++ node ∷ behind) → AllByRecursion IsRange (before ++ node ∷ behind) → Covers node key
    → Surrounds key (entries_of before) (entries_of behind)
surrounds key before node behind chain ranges covers = record { before = front before chain ranges; behind = back behind (leads_in before node behind chain) (ranges_at before node behind ranges) }
  where
    front : (before : List Node) → IsChain (before ++ node ∷ behind) → AllByRecursion IsRange (before ++ node ∷ behind) → All (λ (e : Entry). IsBelow e.key key) (entries_of before)
    front [] chain ranges = none_here (λ (e : Entry). IsBelow e.key key)
    front (x ∷ xs) chain ranges =
        All-weaker (λ (e : Entry). IsBelow e.key node.begins) (λ (e : Entry). IsBelow e.key key) (λ e h. lt_le e.key node.begins key h covers.from) (entries_of (x ∷ xs)) (all_before x xs node behind chain.1 ranges).entries

    back : (behind : List Node) → PagesLead node behind → AllByRecursion IsRange (node ∷ behind) → All (λ (e : Entry). IsBelow key e.key) (entries_of behind)
    back [] leads ranges = none_here (λ (e : Entry). IsBelow key e.key)
    back (next ∷ more) leads ranges =
        let lt : IsBelow key next.begins = rw leads.0.high at covers.to in
        All-weaker (λ (e : Entry). is_below e.key next.begins ≡ false) (λ (e : Entry). IsBelow key e.key) (λ e h. lt_le key next.begins e.key lt h) (entries_of (next ∷ more))
        (behind_not_below next.begins next.begins node (next ∷ more) leads ranges.1 leads.0.high (not_below_itself next.begins))

-- the entries of a level, by one of its pages
pub entries_at : (before : List Node) (node : Node) (behind : List Node) → entries_of (before ++ node ∷ behind) ≡ entries_of before ++ (node.page.entries ++ entries_of behind)
entries_at before node behind = flat_map-append (λ (n : Node). n.page.entries) before (node ∷ behind)
