-- What every step leaves: the root, and the handles that were given out, of which none comes back.
use Rattle.std.proofs.Common.{[], ◌∷◌, subst, ◌≡◌, ℕ, Bool, true, false, List, Some, None, Option, refl, inl, inr}
use Rattle.std.specs.Prelude.{◌⊎◌, nat_le, if◌then◌else◌, Contains}
use Rattle.bx_model.specs.bx_tree_files.specs.declared.file.File.{File}
use Rattle.bx_model.specs.declared.tree.Tree.{Tree}
use Rattle.bx_model.specs.Edits.{changed, with_new, without}
use Rattle.bx_model.specs.bx_tree_files.specs.Files.{file_at, is_directory}
use Rattle.bx_model.specs.FileTrees.{IsFileTree}
use Rattle.bx_model.specs.bx_tree_files.specs.Changes.{entered, taken_out, unlinked, moved_to}
use Rattle.bx_model.specs.Removing.{without_link}
use Rattle.bx_model.specs.Renaming.{changes_parent, renamed, without_replaced}
use Rattle.bx_model.specs.bx_tree_files.specs.Times.{Time}
use Rattle.bx_tree_laws.specs.Every.{Every}
use Rattle.bx_tree_laws.proofs.Everys.{every_kept, every_with, every_without}
use Rattle.bx_tree_laws.proofs.Counts.{contains_first, none_contained}
use Rattle.bx_tree_laws.proofs.Put.{handle_stays, with_handle_cases}

-- a file was there, or its handle wasn't given out
abbrev pub WasOrNew : Tree → ℕ → Type 0
WasOrNew tree handle = ((file : File) × (file_at tree.files handle ≡ Some file)) ⊎ (Contains tree.given handle → ⊥)

-- The handles that are given out are those that were, and the new ones.
pub record Grows (new : List ℕ) (tree next : Tree) : Type 0 where
  pub volume : next.volume ≡ tree.volume
  pub root : next.root ≡ tree.root
  pub given : (handle : ℕ) → Contains tree.given handle → Contains next.given handle
  pub only : (handle : ℕ) → Contains next.given handle → Contains tree.given handle ⊎ Contains new handle
  pub back : Every (λ handle file. WasOrNew tree handle) next.files

pub record Follows (new : List ℕ) (tree next : Tree) : Type 0 where
  pub is : IsFileTree next
  pub grows : Grows new tree next

pub grows_same : (tree : Tree) → Grows [] tree tree
grows_same tree = record { volume = refl; root = refl; given = λ handle there. there; only = λ handle there. inl there; back = λ handle file is. inl (file, is) }

pub follows_same : (tree : Tree) → IsFileTree tree → Follows [] tree tree
follows_same tree was = record { is = was; grows = grows_same tree }

pub grows_changed : {new : List ℕ} (tree next : Tree) (at : ℕ) (change : File → File) → ((file : File) → (change file).handle ≡ file.handle) → Grows new tree next → Grows new tree (changed next at change)
grows_changed tree next at change keeps grows = record {
  volume = grows.volume;
  root = grows.root;
  given = grows.given;
  only = grows.only;
  back = every_kept (λ handle file. WasOrNew tree handle) next.files at change keeps (λ handle file was. was) grows.back;
}

pub grows_without : {new : List ℕ} (tree next : Tree) (at : ℕ) → Grows new tree next → Grows new tree (without next at)
grows_without tree next at grows = record {
  volume = grows.volume;
  root = grows.root;
  given = grows.given;
  only = grows.only;
  back = every_without (λ handle file. WasOrNew tree handle) next.files at (λ handle file away is. grows.back handle file is);
}

pub grows_new : (tree next : Tree) (new : File) → (Contains tree.given new.handle → ⊥) → Grows [] tree next → Grows (new.handle ∷ []) tree (with_new next new)
grows_new tree next new fresh grows = record {
  volume = grows.volume;
  root = grows.root;
  given = λ handle there. handle_stays next.given new.handle handle (grows.given handle there);
  only = λ handle there. by handle (with_handle_cases next.given new.handle handle there);
  back = every_with (λ handle file. WasOrNew tree handle) next.files new (inr fresh) (λ handle file away is. grows.back handle file is);
}
  where
    by : (handle : ℕ) → Contains next.given handle ⊎ (new.handle ≡ handle) → Contains tree.given handle ⊎ Contains (new.handle ∷ []) handle
    by handle (inl there) = elim (grows.only handle there) [ inl old ↦ inl old | inr none ↦ absurd (none_contained handle none) ]
    by handle (inr is) = inr (subst (Contains (new.handle ∷ [])) is (contains_first new.handle []))

-- where nothing is new, one thing is at most
pub follows_weaker : (made : ℕ) (tree next : Tree) → Follows [] tree next → Follows (made ∷ []) tree next
follows_weaker made tree next follows = record {
  is = follows.is;
  grows = record {
    volume = follows.grows.volume;
    root = follows.grows.root;
    given = follows.grows.given;
    only = λ handle there. elim (follows.grows.only handle there) [ inl old ↦ inl old | inr none ↦ absurd (none_contained handle none) ];
    back = follows.grows.back;
  };
}

pub grows_away : (tree : Tree) (now : Time) (name : List ℕ) (directory file : File) → Grows [] tree (without_replaced now tree directory name (Some file))
grows_away tree now name directory file = by (is_directory file) (nat_le file.nlink 1) refl
  where
    left : (counts : Bool) → Grows [] tree (changed tree directory.handle (taken_out now name counts))
    left counts = grows_changed tree tree directory.handle (taken_out now name counts) (λ f. refl) (grows_same tree)

    by : (b few : Bool) → nat_le file.nlink 1 ≡ few
        → Grows [] tree (if b then without (changed tree directory.handle (taken_out now name b)) file.handle else without_link now (changed tree directory.handle (taken_out now name b)) file.handle file.nlink)
    by true few t = grows_without tree _ file.handle (left true)
    by false true t = rw t (grows_without tree _ file.handle (left false))
    by false false t = rw t (grows_changed tree _ file.handle (unlinked now) (λ f. refl) (left false))

pub grows_renamed : (tree : Tree) (now : Time) (source : File) (name : List ℕ) (target : File) (new_name : List ℕ) (moved : File) (replaced : Option File) → Grows [] tree (renamed now tree source name target new_name moved replaced)
grows_renamed tree now source name target new_name moved replaced =
    grows_changed tree _ moved.handle (moved_to now target.handle) (λ f. refl)
    (grows_changed tree _ target.handle (entered now new_name moved.handle (changes_parent source target moved)) (λ f. refl)
    (grows_changed tree _ source.handle (taken_out now name (changes_parent source target moved)) (λ f. refl) (left replaced)))
  where
    left : (replaced : Option File) → Grows [] tree (without_replaced now tree target new_name replaced)
    left None = grows_same tree
    left (Some file) = grows_away tree now new_name target file
