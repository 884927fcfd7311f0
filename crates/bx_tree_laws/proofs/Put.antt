-- A file put in: the handles given out, and what is counted.
use Rattle.std.proofs.Common.{◌≡◌, ℕ, Bool, true, false, List, [], ◌∷◌, Some, None, refl, sym, ap, ◌∙◌, subst, inl, inr}
use Rattle.std.specs.Prelude.{◌≢◌, ◌==◌, ◌⊎◌, if◌then◌else◌, nat_lt, Contains}
use Rattle.bx_model.specs.bx_tree_files.specs.declared.file.File.{File}
use Rattle.bx_model.specs.bx_tree_files.specs.declared.file.Name.{Name}
use Rattle.bx_model.specs.bx_tree_files.specs.Files.{file_at, with_file}
use Rattle.bx_model.specs.FileTrees.{is_directory_in}
use Rattle.bx_model.specs.bx_tree_files.specs.Names.{names_of}
use Rattle.bx_tree_laws.proofs.Counts.{contains_first, contains_later, contained_cases, none_contained}
use Rattle.bx_tree_laws.proofs.Inside.{inside, inside_same, names_at, names_in}
use Rattle.bx_tree_laws.proofs.Lookups.{SameOr, same_or, file_at-with, with_other}
use Rattle.bx_model.specs.bx_tree_files.specs.Given.{with_handle}

-- a handle that was given out stays so, and the new one is
pub handle_stays : (handles : List ℕ) (new handle : ℕ) → Contains handles handle → Contains (with_handle handles new) handle
handle_stays [] new handle there = absurd (none_contained handle there)
handle_stays (x ∷ handles) new handle there = by (x == new) (nat_lt new x) (handle_stays handles new handle) (contained_cases x handle handles there)
  where
    by : (b c : Bool) → (Contains handles handle → Contains (with_handle handles new) handle) → (x ≡ handle) ⊎ Contains handles handle
        → Contains (if b then x ∷ handles else if c then new ∷ x ∷ handles else x ∷ with_handle handles new) handle
    by true c later which = there
    by false true later which = contains_later new handle (x ∷ handles) there
    by false false later (inl is) = subst (Contains (x ∷ with_handle handles new)) is (contains_first x (with_handle handles new))
    by false false later (inr more) = contains_later x handle (with_handle handles new) (later more)

pub with_handle_cases : (handles : List ℕ) (new handle : ℕ) → Contains (with_handle handles new) handle → Contains handles handle ⊎ (new ≡ handle)
with_handle_cases [] new handle there = elim (contained_cases new handle [] there) [ inl is ↦ inr is | inr none ↦ absurd (none_contained handle none) ]
with_handle_cases (x ∷ handles) new handle there = by (x == new) (nat_lt new x) (with_handle_cases handles new handle) there
  where
    later : Contains handles handle ⊎ (new ≡ handle) → Contains (x ∷ handles) handle ⊎ (new ≡ handle)
    later (inl more) = inl (contains_later x handle handles more)
    later (inr is) = inr is

    by : (b c : Bool) → (Contains (with_handle handles new) handle → Contains handles handle ⊎ (new ≡ handle))
        → Contains (if b then x ∷ handles else if c then new ∷ x ∷ handles else x ∷ with_handle handles new) handle → Contains (x ∷ handles) handle ⊎ (new ≡ handle)
    by true c rest there = inl there
    by false true rest there = elim (contained_cases new handle (x ∷ handles) there) [ inl is ↦ inr is | inr more ↦ inl more ]
    by false false rest there = elim (contained_cases x handle (with_handle handles new) there) [
      | inl is ↦ inl (subst (Contains (x ∷ handles)) is (contains_first x handles))
      | inr more ↦ later (rest more)
    ]

pub handle_given : (handles : List ℕ) (new : ℕ) → Contains (with_handle handles new) new
handle_given [] new = contains_first new []
handle_given (x ∷ handles) new = by (same_or x new) (nat_lt new x) refl (handle_given handles new)
  where
    by : SameOr x new → (c : Bool) → nat_lt new x ≡ c → Contains (with_handle handles new) new → Contains (with_handle (x ∷ handles) new) new
    by (inl same) c u later = rw same.0 (subst (Contains (x ∷ handles)) same.1 (contains_first x handles))
    by (inr away) true u later = rw (away.0, u) (contains_first new (x ∷ handles))
    by (inr away) false u later = rw (away.0, u) (contains_later x new (with_handle handles new) later)

-- a new file without entries changes no count, where no entry names it
pub inside_with : (files : List File) (new : File) (handle : ℕ) → file_at files new.handle ≡ None → names_of new.body ≡ []
    → ((entry : Name) → Contains (names_at files handle) entry → new.handle ≢ entry.handle) → inside (with_file files new) handle ≡ inside files handle
inside_with files new handle gone none unnamed =
    inside_same files (with_file files new) handle (ap names_in (file_at-with files new handle) ∙ by (same_or new.handle handle))
    (λ entry there. ap is_directory_in (with_other files new entry.handle (unnamed entry there)))
  where
    by : SameOr new.handle handle → names_in (if new.handle == handle then Some new else file_at files handle) ≡ names_at files handle
    by (inl same) = rw same.0 (none ∙ sym (ap names_in (ap (file_at files) (sym same.1) ∙ gone)))
    by (inr away) = rw away.0 refl
