-- What two changes of a directory's tree make of its entries.
use Rattle.std.proofs.Common.{◌≡◌, ℕ, ◌+◌, ◌^◌, ◌<◌, ◌≤◌, ◌⊎◌, inl, inr, arith, Bool, true, false, List, [], ◌∷◌, length, drop, get_or, cond, refl, sym, ap, ◌∙◌, subst, Option, Some, None, Result, Ok, Err}
use Rattle.std.specs.Prelude.{◌≢◌, ◌==◌, Contains, IsSome, bytes_eq, not, if◌then◌else◌}
use Rattle.std.proofs.lemmas.List.Kept.{AllPairs-filter}
use Rattle.std.proofs.lemmas.Slice.Eq.{bytes_eq-Decides}
use Rattle.bx_layout.specs.declared.block.Block.{Block}
use Rattle.bx_page.specs.declared.entry.Entry.{Entry}
use Rattle.bx_page.specs.Contents.{value_of, with_entry}
use Rattle.bx_records.specs.Drafts.{Changed, with_block}
use Rattle.bx_tree_files.specs.declared.file.Name.{Name}
use Rattle.bx_tree_files.specs.Entries.{entry_named, with_name, without_name}
use Rattle.bx_truth.specs.Keys.{name_key, name_value, entry_key, entry_value}
use Rattle.bx_truth.specs.PageTrees.{PageTree, map_of, map_without}
use Rattle.bx_truth.specs.Stored.{AreNames, IsOfName}
use Rattle.bx_truth.proofs.Names.{names_added, names_taken, value_with, value_without}
use Rattle.bx_views.specs.Truths.{Truth, Held, Hints, with_draft}
use Rattle.bx_leaves.specs.bx_blink.specs.Hints.{Under}
use Rattle.bx_leaves.specs.bx_blink.specs.declared.error.BlinkError.{BlinkError}
use Rattle.bx_leaves.specs.bx_blink.specs.declared.error.BlinkError.TheVariants.{Need, Stale, Full, NoRoom, Absent, Present, OutOfMemory, Crowded}
use Rattle.bx_leaves.specs.Changes.{InsertsIn, RemovesIn}
use Rattle.bx_leaves.specs.Leaves.{RemovesAt}
use Rattle.bx_leaves.proofs.Done.{inserts_in, removes_in}
use Rattle.bx_dirs.specs.Changes.{AddsAt, AddsIn, PutsByName, PutsByNumber, TakesAt, TakesIn}
use Rattle.bx_dirs.proofs.Edited.{Edited, edited_and, edited_by}
use Rattle.bx_dirs.proofs.Names.{contained, head_in, in_or, is_unnamed, named_in, one_name, some_same, tail_in}
use Rattle.bx_dirs.proofs.Ordered.{same_number}
use Rattle.bx_truth.proofs.Adding.{name_found}

-- ---- drafts

one_block_more : (draft : List Changed) (at : ℕ) (block : Block) → length (with_block draft at block) ≤ length draft + 1
one_block_more [] at block = omega arith
one_block_more (x ∷ draft) at block = by (x.0 == at) (one_block_more draft at block)
  where
    by : (t : Bool) → length (with_block draft at block) ≤ length draft + 1 → length (if t then (at, block) ∷ draft else x ∷ with_block draft at block) ≤ length (x ∷ draft) + 1
    by true rest = omega arith
    by false rest = omega (arith, rest)

grows_by_one : (old mid : List Changed) (at : ℕ) (block : Block) → mid ≡ with_block old at block → length mid ≡ 16 → 15 ≤ length old
grows_by_one old mid at block same full = let more = one_block_more old at block in let e = ap length same in omega (arith, more, e, full)

-- ---- an entry is added

module _ (areas : ℕ) (held : Held) (hints : Hints) (truth : Truth) (old new : List Changed) (root : ℕ) (tree : PageTree) (names : List Name) (entry : Name) (u : Under areas held hints truth old root tree) (are : AreNames (map_of tree) names) where
  -- what the first put makes
  one : (mid : List Changed) → PutsByName held hints old mid root entry (Ok tt) → InsertsIn areas held hints truth old mid root tree (name_key entry.name) (name_value entry.number entry.handle) (Ok tt)
  one mid p = inserts_in areas held hints truth old mid root tree (name_key entry.name) u (name_value entry.number entry.handle) (Ok tt) p

  -- what both make
  pub record BothPut : Type 0 where
    pub absent : value_of (map_of tree) (name_key entry.name) ≡ None
    pub after : PageTree
    pub edited : Edited areas (with_draft truth old) (with_draft truth new) root tree after
    pub under : Under areas held hints truth new root after
    pub map_is : map_of after ≡ with_entry (with_entry (map_of tree) (name_key entry.name) (name_value entry.number entry.handle)) (entry_key entry.number) (entry_value entry.handle entry.name)

  pub both_put : AddsAt held hints old new root entry (Ok tt) → BothPut
  both_put a =
      let first = one a.mid a.named in
      let second = inserts_in areas held hints truth a.mid new root first.1.after (entry_key entry.number) first.1.under (entry_value entry.handle entry.name) (Ok tt) a.numbered in
      record {
        absent = first.0;
        after = second.1.after;
        edited = edited_and areas (with_draft truth old) (with_draft truth a.mid) (with_draft truth new) root tree first.1.after second.1.after
            (edited_by areas held hints truth old a.mid root tree _ u.is first.1) (edited_by areas held hints truth a.mid new root first.1.after _ first.1.under.is second.1);
        under = second.1.under;
        map_is = second.1.map_is ∙ ap (λ (m : List Entry). with_entry m (entry_key entry.number) (entry_value entry.handle entry.name)) first.1.map_is;
      }

  module _ (number_fits : entry.number < 2 ^ 32) (handle_fits : entry.handle < 2 ^ 64) (above : (other : Name) → Contains names other → other.number < entry.number) where
    pub are_with : (b : BothPut) → AreNames (map_of b.after) (with_name names entry.number entry.name entry.handle)
    are_with b = names_added (map_of tree) (map_of b.after) names entry are number_fits handle_fits above b.absent
        (λ key.
        ap (λ (m : List Entry). value_of m key) b.map_is
        ∙ value_with (with_entry (map_of tree) (name_key entry.name) (name_value entry.number entry.handle)) (entry_key entry.number) (entry_value entry.handle entry.name) key
        ∙ ap (λ (o : Option (List ℕ)). if bytes_eq key (entry_key entry.number) then Some (entry_value entry.handle entry.name) else o) (value_with (map_of tree) (name_key entry.name) (name_value entry.number entry.handle) key))

    unnamed : value_of (map_of tree) (name_key entry.name) ≡ None → entry_named names entry.name ≡ None
    unnamed none = is_unnamed (map_of tree) names entry.name are none

    -- a name's key that is there is an entry's
    named : IsSome (value_of (map_of tree) (name_key entry.name)) → IsSome (entry_named names entry.name)
    named some = by (value_of (map_of tree) (name_key entry.name)) refl some
      where
        by : (o : Option (List ℕ)) → value_of (map_of tree) (name_key entry.name) ≡ o → IsSome o → IsSome (entry_named names entry.name)
        by None is never = absurd cc
        by (Some value) is some =
            let f = name_found (map_of tree) names entry.name value are is in
            let e : entry_named names entry.name ≡ Some f.0 = ap (entry_named names) (sym f.2) ∙ named_in names f.0 f.1 (λ x there same. one_name (map_of tree) names are x f.0 there f.1 same) in
            subst (λ (o : Option Name). IsSome o) (sym e) refl

    -- the number's key isn't there
    no_number : (mid : List Changed) (p : PutsByName held hints old mid root entry (Ok tt)) → value_of (map_of (one mid p).1.after) (entry_key entry.number) ≡ None
    no_number mid p = by (value_of (map_of tree) (entry_key entry.number)) refl
      where
        moved : value_of (map_of (one mid p).1.after) (entry_key entry.number) ≡ value_of (map_of tree) (entry_key entry.number)
        moved = ap (λ (m : List Entry). value_of m (entry_key entry.number)) (one mid p).1.map_is
            ∙ value_with (map_of tree) (name_key entry.name) (name_value entry.number entry.handle) (entry_key entry.number)

        by : (o : Option (List ℕ)) → value_of (map_of tree) (entry_key entry.number) ≡ o → value_of (map_of (one mid p).1.after) (entry_key entry.number) ≡ None
        by None none = moved ∙ none
        by (Some value) is = found (are.only (entry_key entry.number) value is)
          where
            found : (name : Name) × Contains names name × IsOfName name (entry_key entry.number) value → value_of (map_of (one mid p).1.after) (entry_key entry.number) ≡ None
            found (name, there, inl (key, v)) =
                let less = above name there in let same = same_number entry.number name.number number_fits (are.number_fits name there) key in absurd (omega (arith, less, same))
            found (name, there, inr (key, v)) = let first : 2 ≡ 1 = ap (λ (l : List ℕ). get_or l 0 0) key in absurd (omega (arith, first))

    second_in : (mid : List Changed) (p : PutsByName held hints old mid root entry (Ok tt)) (error : BlinkError) → PutsByNumber held hints mid mid root entry (Err error) → AddsIn areas held hints truth old new root names entry (Err error)
    second_in mid p error q = by error (inserts_in areas held hints truth mid mid root (one mid p).1.after (entry_key entry.number) (one mid p).1.under (entry_value entry.handle entry.name) (Err error) q)
      where
        none : entry_named names entry.name ≡ None
        none = unnamed (one mid p).0

        by : (error : BlinkError) → InsertsIn areas held hints truth mid mid root (one mid p).1.after (entry_key entry.number) (entry_value entry.handle entry.name) (Err error) → AddsIn areas held hints truth old new root names entry (Err error)
        by Present some = absurd (none_some (value_of (map_of (one mid p).1.after) (entry_key entry.number)) (no_number mid p) some)
          where
            none_some : (o : Option (List ℕ)) → o ≡ None → IsSome o → ⊥
            none_some None is never = cc
            none_some (Some value) is some = cc
        by (NoRoom leaf) is = none
        by Crowded is = (none, grows_by_one old mid _ p.puts.block p.puts.put is.1)
        by (Need at mode) is = tt
        by OutOfMemory is = tt
        by Stale is = is
        by (Full spare) is = is
        by Absent is = is

    first_in : (error : BlinkError) → PutsByName held hints old old root entry (Err error) → AddsIn areas held hints truth old new root names entry (Err error)
    first_in error p = by error (inserts_in areas held hints truth old old root tree (name_key entry.name) u (name_value entry.number entry.handle) (Err error) p)
      where
        by : (error : BlinkError) → InsertsIn areas held hints truth old old root tree (name_key entry.name) (name_value entry.number entry.handle) (Err error) → AddsIn areas held hints truth old new root names entry (Err error)
        by Present some = named some
        by (NoRoom leaf) is = unnamed is.0
        by Crowded is = (unnamed is.0, omega (arith, is.1))
        by (Need at mode) is = tt
        by OutOfMemory is = tt
        by Stale is = is
        by (Full spare) is = is
        by Absent is = is

    pub adds_in : (result : Result (Unit {0}) BlinkError) → AddsAt held hints old new root entry result → AddsIn areas held hints truth old new root names entry result
    adds_in (Ok done) a = let b = both_put a in (unnamed b.absent, record { tree = b.after; under = b.under; entries = are_with b })
    adds_in (Err error) (inl first) = first_in error first
    adds_in (Err error) (inr second) = second_in second.mid second.named error second.numbered

-- ---- an entry is taken out

-- the others of a list
left_are : (names : List Name) (text : List ℕ) (x : Name) → Contains (without_name names text) x → Contains names x × (x.name ≢ text)
left_are [] text x within = absurd (omega (arith, within.1))
left_are (y ∷ ys) text x within = by (bytes_eq y.name text) refl (left_are ys text x) within
  where
    by : (t : Bool) → bytes_eq y.name text ≡ t → (Contains (without_name ys text) x → Contains ys x × (x.name ≢ text)) → Contains (without_name (y ∷ ys) text) x → Contains (y ∷ ys) x × (x.name ≢ text)
    by true same rest there =
        let r = rest (subst (λ (l : List Name). Contains l x) (ap (λ (t : Bool). cond (not t) (y ∷ without_name ys text) (without_name ys text)) same) there) in (tail_in x y ys r.0, r.1)
    by false other rest there = cases (in_or x y (without_name ys text) (subst (λ (l : List Name). Contains l x) (ap (λ (t : Bool). cond (not t) (y ∷ without_name ys text) (without_name ys text)) other) there))
      where
        cases : (y ≡ x) ⊎ Contains (without_name ys text) x → Contains (y ∷ ys) x × (x.name ≢ text)
        cases (inl same) = (
          subst (Contains (y ∷ ys)) same (head_in y ys),
          λ name.
              let yes = (bytes_eq-Decides y.name text).1 (ap (λ (n : Name). n.name) same ∙ name) in absurd cc,
        )
        cases (inr later) = let r = rest later in (tail_in x y ys r.0, r.1)

left_all : (names : List Name) (text : List ℕ) (x : Name) → Contains names x → x.name ≢ text → Contains (without_name names text) x
left_all [] text x within other = absurd (omega (arith, within.1))
left_all (y ∷ ys) text x within other = by (bytes_eq y.name text) refl (λ later. left_all ys text x later other) (in_or x y ys within)
  where
    by : (t : Bool) → bytes_eq y.name text ≡ t → (Contains ys x → Contains (without_name ys text) x) → (y ≡ x) ⊎ Contains ys x → Contains (without_name (y ∷ ys) text) x
    by true same rest (inl is) = absurd (other (ap (λ (n : Name). n.name) (sym is) ∙ (bytes_eq-Decides y.name text).0 same))
    by true same rest (inr later) = subst (λ (l : List Name). Contains l x) (sym (ap (λ (t : Bool). cond (not t) (y ∷ without_name ys text) (without_name ys text)) same)) (rest later)
    by false differs rest (inl is) =
        subst (λ (l : List Name). Contains l x) (sym (ap (λ (t : Bool). cond (not t) (y ∷ without_name ys text) (without_name ys text)) differs)) (subst (Contains (y ∷ without_name ys text)) is (head_in y (without_name ys text)))
    by false differs rest (inr later) =
        subst (λ (l : List Name). Contains l x) (sym (ap (λ (t : Bool). cond (not t) (y ∷ without_name ys text) (without_name ys text)) differs)) (tail_in x y (without_name ys text) (rest later))

module _ (areas : ℕ) (held : Held) (hints : Hints) (truth : Truth) (old new : List Changed) (root : ℕ) (tree : PageTree) (names : List Name) (text : List ℕ) (entry : Name) (u : Under areas held hints truth old root tree) (are : AreNames (map_of tree) names)
    (found : entry_named names text ≡ Some entry) where
  taken_one : (mid : List Changed) → RemovesAt held hints old mid root (name_key text) (Ok tt) → RemovesIn areas held hints truth old mid root tree (name_key text) (Ok tt)
  taken_one mid p = removes_in areas held hints truth old mid root tree (name_key text) u (Ok tt) p

  pub record BothTaken : Type 0 where
    pub after : PageTree
    pub edited : Edited areas (with_draft truth old) (with_draft truth new) root tree after
    pub under : Under areas held hints truth new root after
    pub map_is : map_of after ≡ map_without (map_without (map_of tree) (name_key text)) (entry_key entry.number)

  pub both_taken : TakesAt held hints old new root entry.number text (Ok tt) → BothTaken
  both_taken a =
      let first = taken_one a.mid a.named in
      let second = removes_in areas held hints truth a.mid new root first.1.after (entry_key entry.number) first.1.under (Ok tt) a.numbered in
      record {
        after = second.1.after;
        edited = edited_and areas (with_draft truth old) (with_draft truth a.mid) (with_draft truth new) root tree first.1.after second.1.after
            (edited_by areas held hints truth old a.mid root tree _ u.is first.1) (edited_by areas held hints truth a.mid new root first.1.after _ first.1.under.is second.1);
        under = second.1.under;
        map_is = second.1.map_is ∙ ap (λ (m : List Entry). map_without m (entry_key entry.number)) first.1.map_is;
      }

  within : Contains names entry
  within = (contained names text entry found).0

  name_is : entry.name ≡ text
  name_is = (contained names text entry found).1

  -- the one with the name is the one with the number
  number_name : (x : Name) → Contains names x → x.number ≡ entry.number → x.name ≡ entry.name
  number_name x there same =
      ap (drop 8) (some_same (entry_value x.handle x.name) (entry_value entry.handle entry.name)
      (sym (are.numbered x there) ∙ ap (λ (m : ℕ). value_of (map_of tree) (entry_key m)) same ∙ are.numbered entry within))

  pub are_without : (b : BothTaken) → AreNames (map_of b.after) (without_name names text)
  are_without b = names_taken (map_of tree) (map_of b.after) names (without_name names text) entry are within
      (λ x there. let l = left_are names text x there in (l.0, λ same. l.1 (number_name x l.0 same ∙ name_is)))
      (λ x there other. left_all names text x there (λ same. other (ap (λ (n : Name). n.number) (one_name (map_of tree) names are x entry there within (same ∙ sym name_is)))))
      (AllPairs-filter (λ (a b : Name). a.number < b.number) (λ (e : Name). not (bytes_eq e.name text)) names are.in_order)
      (λ key.
      ap (λ (m : List Entry). value_of m key) b.map_is
      ∙ value_without (map_without (map_of tree) (name_key text)) (entry_key entry.number) key
      ∙ ap (λ (o : Option (List ℕ)). if bytes_eq key (entry_key entry.number) then None else o) (value_without (map_of tree) (name_key text) key)
      ∙ ap (λ (t : List ℕ). if bytes_eq key (entry_key entry.number) then None else (if bytes_eq key (name_key t) then None else value_of (map_of tree) key)) (sym name_is))

  there_by_name : value_of (map_of tree) (name_key text) ≡ Some (name_value entry.number entry.handle)
  there_by_name = ap (λ (t : List ℕ). value_of (map_of tree) (name_key t)) (sym name_is) ∙ are.named entry within

  there_by_number : (mid : List Changed) (p : RemovesAt held hints old mid root (name_key text) (Ok tt)) → value_of (map_of (taken_one mid p).1.after) (entry_key entry.number) ≡ Some (entry_value entry.handle entry.name)
  there_by_number mid p =
      ap (λ (m : List Entry). value_of m (entry_key entry.number)) (taken_one mid p).1.map_is ∙ value_without (map_of tree) (name_key text) (entry_key entry.number) ∙ are.numbered entry within

  none_some : (value : List ℕ) → None ≡ Some value → ⊥
  none_some value e = cc

  taken_second : (mid : List Changed) (p : RemovesAt held hints old mid root (name_key text) (Ok tt)) (error : BlinkError) → RemovesAt held hints mid mid root (entry_key entry.number) (Err error) → TakesIn areas held hints truth old new root names text (Err error)
  taken_second mid p error q = by error (removes_in areas held hints truth mid mid root (taken_one mid p).1.after (entry_key entry.number) (taken_one mid p).1.under (Err error) q)
    where
      by : (error : BlinkError) → RemovesIn areas held hints truth mid mid root (taken_one mid p).1.after (entry_key entry.number) (Err error) → TakesIn areas held hints truth old new root names text (Err error)
      by Absent none = none_some (entry_value entry.handle entry.name) (sym none ∙ there_by_number mid p)
      by Crowded is = grows_by_one old mid _ p.puts.block p.puts.put is.1
      by (Need at mode) is = tt
      by OutOfMemory is = tt
      by Stale is = is
      by (Full spare) is = is
      by (NoRoom leaf) is = is
      by Present is = is

  taken_first : (error : BlinkError) → RemovesAt held hints old old root (name_key text) (Err error) → TakesIn areas held hints truth old new root names text (Err error)
  taken_first error p = by error (removes_in areas held hints truth old old root tree (name_key text) u (Err error) p)
    where
      by : (error : BlinkError) → RemovesIn areas held hints truth old old root tree (name_key text) (Err error) → TakesIn areas held hints truth old new root names text (Err error)
      by Absent none = none_some (name_value entry.number entry.handle) (sym none ∙ there_by_name)
      by Crowded is = omega (arith, is.1)
      by (Need at mode) is = tt
      by OutOfMemory is = tt
      by Stale is = is
      by (Full spare) is = is
      by (NoRoom leaf) is = is
      by Present is = is

  pub takes_in : (result : Result (Unit {0}) BlinkError) → TakesAt held hints old new root entry.number text result → TakesIn areas held hints truth old new root names text result
  takes_in (Ok done) a = let b = both_taken a in record { tree = b.after; under = b.under; entries = are_without b }
  takes_in (Err error) (inl first) = taken_first error first
  takes_in (Err error) (inr second) = taken_second second.mid second.named error second.numbered
