-- What is reached, step by step.
use Rattle.std.proofs.Common.{◌≡◌, ℕ, ◌⊎◌, inl, inr, Bool, true, false, cond, List, [], ◌∷◌, ◌++◌, arith, refl, sym, ap, ◌∙◌, append_assoc, append-nil, subst}
use Rattle.std.specs.Prelude.{Contains}
use Rattle.std.specs.BTreeMap.{is_at}
use Rattle.std.specs.BTreeSet.{BTreeSet}
use Rattle.std.specs.Ordering.{is_eq, nat_cmp}
use Rattle.std.proofs.lemmas.Bool.Decides.{nat_tests}
use Rattle.std.specs.Prelude.{◌==◌}
use Rattle.bx_audit_links.specs.Reached.{IsNamed, Reaches, has}
use Rattle.bx_audit_links.proofs.Rests.{contains_same}
use Rattle.bx_tree_files.specs.declared.file.Name.{Name}
use Rattle.bx_tree_laws.proofs.Counts.{contained_cases, contains_first, contains_later, none_contained}
use Rattle.bx_tree_laws.proofs.Lookups.{SameOr, same_or}

-- of two lists, one behind the other
pub contains_either : {X : Type 0} (xs ys : List X) (x : X) → Contains (xs ++ ys) x → Contains xs x ⊎ Contains ys x
contains_either [] ys x there = inr there
contains_either (z ∷ xs) ys x there = by (contained_cases z x (xs ++ ys) there) (contains_either xs ys x)
  where
    by : (z ≡ x) ⊎ Contains (xs ++ ys) x → (Contains (xs ++ ys) x → Contains xs x ⊎ Contains ys x) → Contains (z ∷ xs) x ⊎ Contains ys x
    by (inl same) later = inl (subst (Contains (z ∷ xs)) same (contains_first z xs))
    by (inr more) later = step (later more)
      where
        step : Contains xs x ⊎ Contains ys x → Contains (z ∷ xs) x ⊎ Contains ys x
        step (inl here) = inl (contains_later z x xs here)
        step (inr there) = inr there

pub contains_front : {X : Type 0} (xs ys : List X) (x : X) → Contains xs x → Contains (xs ++ ys) x
contains_front [] ys x there = absurd (none_contained x there)
contains_front (z ∷ xs) ys x there = by (contained_cases z x xs there) (contains_front xs ys x)
  where
    by : (z ≡ x) ⊎ Contains xs x → (Contains xs x → Contains (xs ++ ys) x) → Contains (z ∷ xs ++ ys) x
    by (inl same) later = subst (Contains (z ∷ xs ++ ys)) same (contains_first z (xs ++ ys))
    by (inr more) later = contains_later z x (xs ++ ys) (later more)

pub contains_behind : {X : Type 0} (xs ys : List X) (x : X) → Contains ys x → Contains (xs ++ ys) x
contains_behind [] ys x there = there
contains_behind (z ∷ xs) ys x there = contains_later z x (xs ++ ys) (contains_behind xs ys x there)

-- nothing is named, and nothing changes
pub reaches_none : (Named : ℕ → Type 0) (set : BTreeSet ℕ) (reached : List ℕ) → ((handle : ℕ) → Named handle → ⊥) → Reaches Named set reached set reached
reaches_none Named set reached none = record {
  more = [];
  behind = sym (append-nil reached);
  each = λ handle there. absurd (none_contained handle there);
  left = λ handle is. is;
  gone = λ handle is. inl is;
  all = λ handle named. absurd (none handle named);
}

-- others are named, which are the same
pub reaches_same : (Named Other : ℕ → Type 0) (before now : BTreeSet ℕ) (reached reached_now : List ℕ) → ((handle : ℕ) → Named handle → Other handle) → ((handle : ℕ) → Other handle → Named handle)
    → Reaches Named before reached now reached_now → Reaches Other before reached now reached_now
reaches_same Named Other before now reached reached_now to from is = record {
  more = is.more;
  behind = is.behind;
  each = λ handle there. let e = is.each handle there in (to handle e.0, e.1, e.2);
  left = is.left;
  gone = is.gone;
  all = λ handle named. is.all handle (from handle named);
}

pub clear : (b : Bool) → (b ≡ true → false ≡ true) → b ≡ false
clear true never = let e = never refl in absurd cc
clear false never = refl

-- some are reached, and then others
pub reaches_both : (Named Other : ℕ → Type 0) (before middle now : BTreeSet ℕ) (reached reached_middle reached_now : List ℕ)
    → Reaches Named before reached middle reached_middle → Reaches Other middle reached_middle now reached_now
    → Reaches (λ handle. Named handle ⊎ Other handle) before reached now reached_now
reaches_both Named Other before middle now reached reached_middle reached_now one two = record {
  more = one.more ++ two.more;
  behind = two.behind ∙ ap (λ (l : List ℕ). l ++ two.more) one.behind ∙ append_assoc reached one.more two.more;
  each = λ handle there. by handle (contains_either one.more two.more handle there);
  left = λ handle is. one.left handle (two.left handle is);
  gone = λ handle is. gone handle (one.gone handle is);
  all = λ handle named. all handle named;
}
  where
    still : (handle : ℕ) → has middle handle ≡ false → has now handle ≡ false
    still handle is = clear (has now handle) (λ yes. sym is ∙ two.left handle yes)

    by : (handle : ℕ) → Contains one.more handle ⊎ Contains two.more handle → (Named handle ⊎ Other handle) × (has before handle ≡ true) × (has now handle ≡ false)
    by handle (inl there) = let e = one.each handle there in (inl e.0, e.1, still handle e.2)
    by handle (inr there) = let e = two.each handle there in (inr e.0, one.left handle e.1, e.2)

    gone : (handle : ℕ) → (has middle handle ≡ true) ⊎ Contains one.more handle → (has now handle ≡ true) ⊎ Contains (one.more ++ two.more) handle
    gone handle (inr there) = inr (contains_front one.more two.more handle there)
    gone handle (inl is) = later (two.gone handle is)
      where
        later : (has now handle ≡ true) ⊎ Contains two.more handle → (has now handle ≡ true) ⊎ Contains (one.more ++ two.more) handle
        later (inl is) = inl is
        later (inr there) = inr (contains_behind one.more two.more handle there)

    all : (handle : ℕ) → Named handle ⊎ Other handle → has now handle ≡ false
    all handle (inl named) = still handle (one.all handle named)
    all handle (inr named) = two.all handle named

pub same_test : (x y : ℕ) → is_eq (nat_cmp x y) ≡ (y == x)
same_test x y = grind (arith, nat_tests)

-- one was there, and is taken out of a set
pub reaches_one : (at : ℕ) (before now : BTreeSet ℕ) (reached : List ℕ) → has before at ≡ true → ((handle : ℕ) → has now handle ≡ cond (is_at (nat_cmp at) handle) false (has before handle))
    → Reaches (λ named. at ≡ named) before reached now (reached ++ at ∷ [])
reaches_one at before now reached was now_is = record {
  more = at ∷ [];
  behind = refl;
  each = λ handle there. each handle (contained_cases at handle [] there);
  left = λ handle is. left handle (same_or handle at) is;
  gone = λ handle is. gone handle (same_or handle at) is;
  all = λ handle same. subst (λ (h : ℕ). has now h ≡ false) same here;
}
  where
    here : has now at ≡ false
    here = now_is at ∙ rw (same_test at at) (by (same_or at at))
      where
        by : SameOr at at → cond (at == at) false (has before at) ≡ false
        by (inl same) = rw same.0 refl
        by (inr other) = absurd (other.1 refl)

    each : (handle : ℕ) → (at ≡ handle) ⊎ Contains [] handle → (at ≡ handle) × (has before handle ≡ true) × (has now handle ≡ false)
    each handle (inl same) = (same, subst (λ (h : ℕ). has before h ≡ true) same was, subst (λ (h : ℕ). has now h ≡ false) same here)
    each handle (inr none) = absurd (none_contained handle none)

    other_stays : (handle : ℕ) → (handle == at) ≡ false → has now handle ≡ has before handle
    other_stays handle differs = now_is handle ∙ rw (same_test at handle, differs) refl

    left : (handle : ℕ) → SameOr handle at → has now handle ≡ true → has before handle ≡ true
    left handle (inl same) is = subst (λ (h : ℕ). has before h ≡ true) (sym same.1) was
    left handle (inr other) is = sym (other_stays handle other.0) ∙ is

    gone : (handle : ℕ) → SameOr handle at → has before handle ≡ true → (has now handle ≡ true) ⊎ Contains (at ∷ []) handle
    gone handle (inl same) is = inr (subst (Contains (at ∷ [])) (sym same.1) (contains_first at []))
    gone handle (inr other) is = inl (other_stays handle other.0 ∙ is)

-- it wasn't there
pub reaches_not : (at : ℕ) (before now : BTreeSet ℕ) (reached : List ℕ) → has before at ≡ false → ((handle : ℕ) → has now handle ≡ has before handle)
    → Reaches (λ named. at ≡ named) before reached now reached
reaches_not at before now reached was same = record {
  more = [];
  behind = sym (append-nil reached);
  each = λ handle there. absurd (none_contained handle there);
  left = λ handle is. sym (same handle) ∙ is;
  gone = λ handle is. inl (same handle ∙ is);
  all = λ handle at_is. subst (λ (h : ℕ). has now h ≡ false) at_is (same at ∙ was);
}

-- one entry more was gone over
pub named_more : (names : List Name) (entry : Name) (handle : ℕ) → IsNamed (names ++ entry ∷ []) handle → IsNamed names handle ⊎ (entry.handle ≡ handle)
named_more names entry handle (it, there, is) = by (contains_either names (entry ∷ []) it there)
  where
    by : Contains names it ⊎ Contains (entry ∷ []) it → IsNamed names handle ⊎ (entry.handle ≡ handle)
    by (inl here) = inl (it, here, is)
    by (inr last) = same (contained_cases entry it [] last)
      where
        same : (entry ≡ it) ⊎ Contains [] it → IsNamed names handle ⊎ (entry.handle ≡ handle)
        same (inl e) = inr (ap (λ (n : Name). n.handle) e ∙ is)
        same (inr none) = absurd (none_contained it none)

pub more_named : (names : List Name) (entry : Name) (handle : ℕ) → IsNamed names handle ⊎ (entry.handle ≡ handle) → IsNamed (names ++ entry ∷ []) handle
more_named names entry handle (inl (it, there, is)) = (it, contains_front names (entry ∷ []) it there, is)
more_named names entry handle (inr is) = (entry, contains_behind names (entry ∷ []) entry (contains_first entry []), is)

pub named_same : (names others : List Name) (handle : ℕ) → names ≡ others → IsNamed names handle → IsNamed others handle
named_same names others handle same (it, there, is) = (it, contains_same names others it same there, is)
