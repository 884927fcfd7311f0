-- Lists of pages: members by their places, and beginnings that rise.
use Rattle.std.proofs.Common.{◌≡◌, ℕ, zero, suc, ◌+◌, ◌<◌, ◌≤◌, ◌⊎◌, inl, inr, arith, true, false, List, [], ◌∷◌, ◌++◌, length, get_or, Ok, Err, refl, sym, ap, ◌∙◌, subst, Option}
use Rattle.std.specs.Prelude.{All, IfSome}
use Rattle.std.specs.List.Sorted.{IsBinarySearchResult, IsNonDecreasingBy, IsSearchInRange}
use Rattle.std.specs.Ordering.{nat_cmp, is_lt, ordering_index}
use Rattle.std.specs.Cmp.Lexicographic.{slice_cmp}
use Rattle.std.proofs.lemmas.Cmp.{nat_list_cmp_total}
use Rattle.std.proofs.lemmas.List.Elements.{All-cons}
use Rattle.std.proofs.lemmas.List.Kept.{AllPairs-cons}
use Rattle.std.proofs.lemmas.List.Sorted.{searchable_from_sorted}
use Rattle.bx_page.specs.Keys.{is_below, IsBelow}
use Rattle.bx_page.proofs.Order.{below_trans, not_below_back, not_below_itself, same_from_cmp, greater_cmp}
use Rattle.bx_truth.specs.PageTrees.{Chunks, Node, IsIn, IsNode, PagesLead, IsLevel}
use Rattle.bx_audit_pages.specs.Pages.{BeginningsRise}
use Rattle.bx_audit_pages.proofs.Walk.{here, later}

no_true : false ≡ true → ⊥
no_true e = cc

-- ---- members

pub at_place : {X : Type 0} (xs : List X) (n : ℕ) (d : X) → n < length xs → IsIn (get_or xs n d) xs
at_place [] n d less = absurd (omega (arith, less))
at_place (x ∷ xs) zero d less = record { before = []; behind = xs; parts = refl }
at_place (x ∷ xs) (suc n) d less =
    let there = at_place xs n d (omega (arith, less)) in
    record { before = x ∷ there.before; behind = there.behind; parts = λ i. x ∷ there.parts i }

place_of_parts : {X : Type 0} (before behind : List X) (x : X) → (length before < length (before ++ x ∷ behind)) × ((d : X) → get_or (before ++ x ∷ behind) (length before) d ≡ x)
place_of_parts [] behind x = (omega arith, λ d. refl)
place_of_parts (y ∷ before) behind x = let rest = place_of_parts before behind x in (omega (arith, rest.0), rest.1)

pub place_of : {X : Type 0} (x : X) (xs : List X) → IsIn x xs → (n : ℕ) × (n < length xs) × ((d : X) → get_or xs n d ≡ x)
place_of x xs there =
    let at = place_of_parts there.before there.behind x in
    (length there.before, subst (λ l. length there.before < length l) (sym there.parts) at.0, λ d. ap (λ l. get_or l (length there.before) d) there.parts ∙ at.1 d)

pub all_in : {X : Type 0} (P : X → Type 0) (xs : List X) → All P xs → (x : X) → IsIn x xs → P x
all_in P xs all x there = let at = place_of x xs there in subst P (at.2 x) (all at.0 x at.1)

pub in_all : {X : Type 0} (P : X → Type 0) (xs : List X) → ((x : X) → IsIn x xs → P x) → All P xs
in_all P xs each n d less = each (get_or xs n d) (at_place xs n d less)

-- ---- beginnings that rise

-- a page is the only one of its beginning
pub one_beginning : (nodes : List Node) (a b : Node) → BeginningsRise nodes → IsIn a nodes → IsIn b nodes → a.begins ≡ b.begins → a ≡ b
one_beginning nodes a b rise in_a in_b same = by (place_of a nodes in_a) (place_of b nodes in_b)
  where
    apart : (x y : Node) → x.begins ≡ y.begins → IsBelow x.begins y.begins → ⊥
    apart x y same below = no_true (sym (not_below_itself x.begins) ∙ subst (λ (k : List ℕ). is_below x.begins k ≡ true) (sym same) below)

    order : (n m : ℕ) → (n < m) ⊎ ((m < n) ⊎ (n ≡ m))
    order n m = grind arith

    by : ((n : ℕ) × (n < length nodes) × ((d : Node) → get_or nodes n d ≡ a)) → ((m : ℕ) × (m < length nodes) × ((d : Node) → get_or nodes m d ≡ b)) → a ≡ b
    by (n, n_in, is_a) (m, m_in, is_b) = cases (order n m)
      where
        cases : (n < m) ⊎ ((m < n) ⊎ (n ≡ m)) → a ≡ b
        cases (inl less) = absurd (apart a b same (subst (λ (x : Node). IsBelow x.begins b.begins) (is_a a) (subst (λ (y : Node). IsBelow (get_or nodes n a).begins y.begins) (is_b a) (rise n m a less m_in))))
        cases (inr (inl more)) = absurd (apart b a (sym same) (subst (λ (x : Node). IsBelow x.begins a.begins) (is_b a) (subst (λ (y : Node). IsBelow (get_or nodes m a).begins y.begins) (is_a a) (rise m n a more n_in))))
        cases (inr (inr equal)) = sym (is_a a) ∙ ap (λ (k : ℕ). get_or nodes k a) equal ∙ is_b a

module _ (chunks : Chunks) (level : ℕ) where
  rise_on : (x : Node) (others : List Node) → ((node : Node) → IsIn node (x ∷ others) → IsNode chunks level node) → PagesLead x others
      → All (λ (y : Node). IsBelow x.begins y.begins) others × BeginningsRise (x ∷ others)
  rise_on x [] all last = (λ k d less. absurd (omega (arith, less)), λ i j d less within. absurd (omega (arith, less, within)))
  rise_on x (y ∷ others) all next =
      let rest = rise_on y others (λ node there. all node (later node x (y ∷ others) there)) next.1 in
      let above : IfSome x.page.high (IsBelow x.begins) = (all x (here x (y ∷ others))).highest in
      let below : IsBelow x.begins y.begins = subst (λ (o : Option (List ℕ)). IfSome o (IsBelow x.begins)) next.0.high above in
      let each : All (λ (z : Node). IsBelow x.begins z.begins) (y ∷ others) =
      All-cons (λ (z : Node). IsBelow x.begins z.begins) y others below (λ k d less. below_trans x.begins y.begins (get_or others k d).begins below (rest.0 k d less)) in
      (each, AllPairs-cons (λ (a b : Node). IsBelow a.begins b.begins) x (y ∷ others) each rest.1)

  pub level_rises : (nodes : List Node) → IsLevel chunks level nodes → BeginningsRise nodes
  level_rises [] is = absurd is.chain
  level_rises (x ∷ others) is = (rise_on x others is.nodes_are is.chain.1).1

-- ---- a search

pub searchable : (nodes : List Node) (key : List ℕ) → BeginningsRise nodes → IsNonDecreasingBy (λ n. ordering_index (slice_cmp nat_cmp n.begins key)) nodes
searchable nodes key rise = searchable_from_sorted nat_list_cmp_total (λ (n : Node). n.begins) nodes key (λ k d _ less. not_below_back (get_or nodes k d).begins (get_or nodes (k + 1) d).begins (rise k (k + 1) d (omega arith) less))

pub found_at : (nodes : List Node) (key : List ℕ) (n : ℕ) → IsSearchInRange (Ok n) (length nodes) → IsBinarySearchResult (λ n. slice_cmp nat_cmp n.begins key) nodes (Ok n) → (d : Node) → (get_or nodes n d).begins ≡ key
found_at nodes key n within found d = same_from_cmp (get_or nodes n d).begins key (found d)

pub found_none : (nodes : List Node) (key : List ℕ) (n : ℕ) → BeginningsRise nodes → IsSearchInRange (Err n) (length nodes) → IsBinarySearchResult (λ n. slice_cmp nat_cmp n.begins key) nodes (Err n)
    → (node : Node) → IsIn node nodes → node.begins ≡ key → ⊥
found_none nodes key n rise within found node there same = by (place_of node nodes there)
  where
    side : (k m : ℕ) → (k < m) ⊎ (m ≤ k)
    side k m = grind arith

    by : ((k : ℕ) × (k < length nodes) × ((d : Node) → get_or nodes k d ≡ node)) → ⊥
    by (k, k_in, is) = cases (side k n)
      where
        begins : (get_or nodes k node).begins ≡ key
        begins = ap (λ (x : Node). x.begins) (is node) ∙ same

        cases : (k < n) ⊎ (n ≤ k) → ⊥
        cases (inl less) =
            let below : IsBelow (get_or nodes k node).begins key = ap is_lt ((found (searchable nodes key rise)).0 k node (omega (arith, less)) less) in
            no_true (sym (not_below_itself key) ∙ subst (λ (b : List ℕ). is_below b key ≡ true) begins below)
        cases (inr from) =
            let above : IsBelow key (get_or nodes k node).begins = greater_cmp (get_or nodes k node).begins key ((found (searchable nodes key rise)).1 k node from k_in) in
            no_true (sym (not_below_itself key) ∙ subst (λ (b : List ℕ). is_below key b ≡ true) begins above)
