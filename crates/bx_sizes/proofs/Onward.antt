-- What the leaf of a piece's key shows of the pieces from there on.
use Rattle.std.proofs.Common.{◌≡◌, ℕ, suc, ◌+◌, ◌^◌, ◌<◌, ◌≤◌, max, arith, Bool, true, false, cond, not, List, [], ◌∷◌, ◌++◌, Option, Some, None, inl, inr, refl, sym, ap, subst, ◌∙◌}
use Rattle.std.specs.Prelude.{All, Err, IfSome, bytes_eq}
use Rattle.std.specs.List.{find}
use Rattle.std.specs.Option.{option_map}
use Rattle.std.proofs.lemmas.List.Elements.{All-append, All-cons, All-filter, All-head, All-nil, All-tail, All-weaker, filter_passes}
use Rattle.std.proofs.lemmas.List.Kept.{AllPairs-filter}
use Rattle.std.proofs.lemmas.Slice.Eq.{bytes_eq-Decides}
use Rattle.bx_page.specs.declared.entry.Entry.{Entry}
use Rattle.bx_page.specs.Contents.{Contents, Rises, first, from, value_of}
use Rattle.bx_page.specs.Keys.{is_below, IsBelow}
use Rattle.bx_page.proofs.Order.{not_below_back, not_below_itself, not_same_above}
use Rattle.bx_blink.specs.Leaves.{IsLeafFor, behind_leaf}
use Rattle.bx_blink.proofs.Keys.{Order, lower, same, higher, lt_le, order}
use Rattle.bx_changes.specs.bx_files.specs.Paths.{IsNeed}
use Rattle.bx_inodes.specs.declared.stop.Stop.{Stop}
use Rattle.bx_places.specs.Places.{is_block}
use Rattle.bx_truth.specs.Keys.{content_key}
use Rattle.bx_truth.specs.PageTrees.{PageTree, map_of}
use Rattle.bx_sizes.specs.Clearing.{HasNone}
use Rattle.bx_sizes.specs.FirstPieces.{ClearingGoesOn, GoesOnTo, HasPiece, IsLeastIndex}
use Rattle.bx_sizes.proofs.Digits.{not_before}

no_true : false ≡ true → ⊥
no_true e = cc

not_of : (b : Bool) → not b ≡ true → b ≡ false
not_of true e = absurd cc
not_of false e = refl

-- ---- keys of maps

-- no entry with a key that isn't below another, where none of those from that other on has it
none_found : (map : List Entry) (low key : List ℕ) → is_below key low ≡ false → All (λ (e : Entry). bytes_eq e.key key ≡ false) (from map low) → find (λ (e : Entry). bytes_eq e.key key) map ≡ None
none_found [] low key apart all = refl
none_found (x ∷ xs) low key apart all = by (λ rest. none_found xs low key apart rest) (is_below x.key low) (bytes_eq x.key key) refl refl
  where
    P : Entry → Type 0
    P e = bytes_eq e.key key ≡ false

    kept : (b : Bool) → is_below x.key low ≡ b → All P (cond (not b) (x ∷ from xs low) (from xs low))
    kept b is = subst (λ (t : Bool). All P (cond (not t) (x ∷ from xs low) (from xs low))) is all

    by : (All P (from xs low) → find (λ (e : Entry). bytes_eq e.key key) xs ≡ None) → (b t : Bool) → is_below x.key low ≡ b → bytes_eq x.key key ≡ t → find (λ (e : Entry). bytes_eq e.key key) (x ∷ xs) ≡ None
    by rest true true is one = absurd (no_true (sym apart ∙ subst (λ (k : List ℕ). is_below k low ≡ true) ((bytes_eq-Decides x.key key).0 one) is))
    by rest false true is one = absurd (no_true (sym (All-head P x (from xs low) (kept false is)) ∙ one))
    by rest true false is other = rw other (rest (kept true is))
    by rest false false is other = rw other (rest (All-tail P x (from xs low) (kept false is)))

-- and none below a key that all those aren't below
value_none : (map : List Entry) (low high key : List ℕ) → is_below key low ≡ false → IsBelow key high → All (λ (e : Entry). is_below e.key high ≡ false) (from map low) → value_of map key ≡ None
value_none map low high key apart less all =
    ap (option_map (λ (e : Entry). e.value))
    (none_found map low key apart
    (All-weaker (λ (e : Entry). is_below e.key high ≡ false) (λ (e : Entry). bytes_eq e.key key ≡ false) (λ e above. not_same_above e.key key (lt_le key high e.key less above)) (from map low) all))

value_first : (map : List Entry) (low : List ℕ) (e : Entry) → first (from map low) ≡ Some e → (value : List ℕ) × (value_of map e.key ≡ Some value)
value_first [] low e is = absurd cc
value_first (x ∷ xs) low e is = by (λ more. value_first xs low e more) (bytes_eq x.key e.key) (is_below x.key low) refl refl
  where
    kept : (b : Bool) → is_below x.key low ≡ b → first (cond (not b) (x ∷ from xs low) (from xs low)) ≡ Some e
    kept b below = subst (λ (t : Bool). first (cond (not t) (x ∷ from xs low) (from xs low)) ≡ Some e) below is

    by : (first (from xs low) ≡ Some e → (value : List ℕ) × (value_of xs e.key ≡ Some value)) → (t b : Bool) → bytes_eq x.key e.key ≡ t → is_below x.key low ≡ b
        → (value : List ℕ) × (value_of (x ∷ xs) e.key ≡ Some value)
    by more true b one below = (x.value, rw one refl)
    by more false false other below =
        let both : Some x ≡ Some e = kept false below in
        let one : x ≡ e = cc in absurd (no_true (sym other ∙ (bytes_eq-Decides x.key e.key).1 (ap (λ (y : Entry). y.key) one)))
    by more false true other below = let rest = more (kept true below) in (rest.0, rw other rest.1)

-- ---- the first of entries

first_has : (P : Entry → Type 0) (es : List Entry) (e : Entry) → All P es → first es ≡ Some e → P e
first_has P [] e all is = absurd cc
first_has P (x ∷ xs) e all is = let one : x ≡ e = cc in subst P one (All-head P x xs all)

first_least : (es : List Entry) (e : Entry) → Rises es → first es ≡ Some e → All (λ (x : Entry). is_below x.key e.key ≡ false) es
first_least [] e rises is = absurd cc
first_least (x ∷ xs) e rises is =
    let one : x ≡ e = cc in
    subst (λ (y : Entry). All (λ (z : Entry). is_below z.key y.key ≡ false) (x ∷ xs)) one
    (All-cons (λ (z : Entry). is_below z.key x.key ≡ false) x xs (not_below_itself x.key)
    (All-weaker (λ (z : Entry). IsBelow x.key z.key) (λ (z : Entry). is_below z.key x.key ≡ false) (λ z less. not_below_back x.key z.key less) xs (λ k d less. rises 0 (suc k) d (omega arith) (omega (arith, less)))))

first_more : (xs ys : List Entry) (e : Entry) → first xs ≡ Some e → first (xs ++ ys) ≡ Some e
first_more [] ys e is = absurd cc
first_more (x ∷ xs) ys e is = is

first_none : (xs : List Entry) → first xs ≡ None → xs ≡ []
first_none [] is = refl
first_none (x ∷ xs) is = absurd cc

not_below : (es : List Entry) (key : List ℕ) → All (λ (e : Entry). is_below e.key key ≡ false) (from es key)
not_below es key =
    All-weaker (λ (e : Entry). not (is_below e.key key) ≡ true) (λ (e : Entry). is_below e.key key ≡ false) (λ e is. not_of (is_below e.key key) is) (from es key)
    (filter_passes (λ (e : Entry). not (is_below e.key key)) es)

-- the first entry from a key on has a key above it, unless it has that key
pub above_key : (es : List Entry) (key : List ℕ) (e : Entry) → first (from es key) ≡ Some e → bytes_eq e.key key ≡ false → IsBelow key e.key
above_key es key e is other = by (order e.key key)
  where
    from_there : is_below e.key key ≡ false
    from_there = first_has (λ (x : Entry). is_below x.key key ≡ false) (from es key) e (not_below es key) is

    by : Order e.key key → IsBelow key e.key
    by (lower less) = absurd (no_true (sym from_there ∙ less))
    by (same one) = absurd (no_true (sym other ∙ (bytes_eq-Decides e.key key).1 one))
    by (higher above) = above

-- ---- the leaf of a piece's key

module _ (map : List Entry) (at : ℕ) (fits : at < 2 ^ 32) where
  none_to : (high : List ℕ) (next : ℕ) → next ≤ 2 ^ 32 → IsLeastIndex high next → All (λ (e : Entry). is_below e.key high ≡ false) (from map (content_key at)) → HasNone map at next
  none_to high next most least all = λ index above below.
      let fits_index : index < 2 ^ 32 = omega (arith, below, most) in
      value_none map (content_key at) high (content_key index) (not_before index at fits_index fits above) ((least index fits_index).1 below) all

module _ (tree : PageTree) (at : ℕ) (fits : at < 2 ^ 32) (page : Contents) (leaf : IsLeafFor tree (content_key at) page) where
  -- the piece is there
  pub leads_here : (e : Entry) → first (from page.entries (content_key at)) ≡ Some e → e.key ≡ content_key at → GoesOnTo (map_of tree) at at
  leads_here e is one =
      let found = ap first leaf.entries ∙ first_more (from page.entries (content_key at)) (behind_leaf (map_of tree) page.high) e is in
      let there = value_first (map_of tree) (content_key at) e found in record {
        none = λ index above below. absurd (omega (arith, above, below));
        there = λ _. record { value = there.0; is = ap (value_of (map_of tree)) (sym one) ∙ there.1 };
      }

  -- there are entries from its key on
  pub leads_on : (e : Entry) (next : ℕ) → first (from page.entries (content_key at)) ≡ Some e → bytes_eq e.key (content_key at) ≡ false → next ≤ 2 ^ 32 → IsLeastIndex e.key next → GoesOnTo (map_of tree) at next
  leads_on e next is other most least = record {
    none = none_to (map_of tree) at fits e.key next most least (subst (All P) (sym leaf.entries) (All-append P (from page.entries (content_key at)) (behind_leaf (map_of tree) page.high) here (behind page.high leaf.in_order.below)));
    there = λ one. let less = (least at fits).0 (above_key page.entries (content_key at) e is other) in absurd (omega (arith, one, less));
  }
    where
      P : Entry → Type 0
      P x = is_below x.key e.key ≡ false

      here : All P (from page.entries (content_key at))
      here =
          first_least (from page.entries (content_key at)) e
          (AllPairs-filter (λ (a b : Entry). IsBelow a.key b.key) (λ (x : Entry). not (is_below x.key (content_key at))) page.entries leaf.in_order.rises) is

      behind : (high : Option (List ℕ)) → IfSome high (λ (h : List ℕ). All (λ (x : Entry). IsBelow x.key h) page.entries) → All P (behind_leaf (map_of tree) high)
      behind None below = All-nil P
      behind (Some high) below =
          let less : IsBelow e.key high = first_has (λ (x : Entry). IsBelow x.key high) (from page.entries (content_key at)) e (All-filter (λ (x : Entry). not (is_below x.key (content_key at))) (λ (x : Entry). IsBelow x.key high) page.entries below) is in
          All-weaker (λ (x : Entry). is_below x.key high ≡ false) P (λ x above. not_below_back e.key x.key (lt_le e.key high x.key less above)) (from (map_of tree) high) (not_below (map_of tree) high)

  none_here : first (from page.entries (content_key at)) ≡ None → from (map_of tree) (content_key at) ≡ behind_leaf (map_of tree) page.high
  none_here none = leaf.entries ∙ ap (λ (es : List Entry). es ++ behind_leaf (map_of tree) page.high) (first_none (from page.entries (content_key at)) none)

  -- there are none, but others behind the leaf
  pub leads_behind : (high : List ℕ) (least : ℕ) → first (from page.entries (content_key at)) ≡ None → page.high ≡ Some high → least ≤ 2 ^ 32 → IsLeastIndex high least → GoesOnTo (map_of tree) at (max least (at + 1))
  leads_behind high least none is most tells =
      let below : IsBelow (content_key at) high = subst (λ (o : Option (List ℕ)). IfSome o (IsBelow (content_key at))) is leaf.below in
      let less : at < least = (tells at fits).0 below in
      let next_is : max least (at + 1) ≡ least = omega (arith, less) in
      let rest : from (map_of tree) (content_key at) ≡ from (map_of tree) high = none_here none ∙ ap (behind_leaf (map_of tree)) is in record {
        none = subst (HasNone (map_of tree) at) (sym next_is) (none_to (map_of tree) at fits high least most tells (subst (All (λ (x : Entry). is_below x.key high ≡ false)) (sym rest) (not_below (map_of tree) high)));
        there = λ one. absurd (omega (arith, one));
      }

  -- there are none behind it either
  pub leads_nowhere : first (from page.entries (content_key at)) ≡ None → page.high ≡ None → GoesOnTo (map_of tree) at 4294967296
  leads_nowhere none is =
      let rest : from (map_of tree) (content_key at) ≡ [] = none_here none ∙ ap (behind_leaf (map_of tree)) is in record {
        none = λ index above below.
            ap (option_map (λ (e : Entry). e.value))
            (none_found (map_of tree) (content_key at) (content_key index) (not_before index at (omega (arith, below)) fits above)
            (subst (All (λ (e : Entry). bytes_eq e.key (content_key index) ≡ false)) (sym rest) (All-nil (λ (e : Entry). bytes_eq e.key (content_key index) ≡ false))));
        there = λ one. absurd (omega (arith, one, fits));
      }

-- a need of a block of the volume says nothing of the pieces
pub need_goes_on : (map : List Entry) (at areas block : ℕ) (stop : Stop) → IsNeed areas block stop → is_block areas block ≡ true → ClearingGoesOn map at (Err stop)
need_goes_on map at areas block stop (inl need) there = subst (λ (s : Stop). ClearingGoesOn map at (Err s)) (sym need.1) tt
need_goes_on map at areas block stop (inr none) there = let both : true ≡ false = sym there ∙ none.0 in absurd cc
