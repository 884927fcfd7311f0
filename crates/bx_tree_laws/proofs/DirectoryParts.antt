-- What an edit of a directory leaves of its entries.
use Rattle.std.proofs.Common.{◌≡◌, ℕ, ◌+◌, ◌<◌, ◌≤◌, arith, false, List, [], ◌∷◌, ◌++◌, Some, None, subst, inl, inr}
use Rattle.std.specs.Prelude.{◌≢◌, ◌⊎◌, Contains}
use Rattle.std.proofs.lemmas.List.Elements.{Contains-push_cases, Contains-get_or}
use Rattle.std.proofs.lemmas.List.Kept.{AllPairs-filter}
use Rattle.std.proofs.lemmas.List.Quantifiers.{all_pairs_push}
use Rattle.bx_model.specs.bx_tree_files.specs.declared.file.Body.{Body}
use Rattle.bx_model.specs.bx_tree_files.specs.declared.file.Body.TheVariants.{Names}
use Rattle.bx_model.specs.bx_tree_files.specs.declared.file.File.{File}
use Rattle.bx_model.specs.bx_tree_files.specs.declared.file.Name.{Name}
use Rattle.bx_model.specs.bx_tree_files.specs.Files.{file_at}
use Rattle.bx_model.specs.FileTrees.{AreEntriesOf, IsEntryOf}
use Rattle.bx_model.specs.bx_tree_files.specs.Names.{names_of}
use Rattle.bx_tree_laws.proofs.Entries.{others, other_contained, none_found}
use Rattle.bx_model.specs.bx_tree_files.specs.Entries.{entry_named, is_bad}

-- a directory in the place of another has its parent
abbrev pub SameParent : Body → Body → Type 0
SameParent before body = (parent next : ℕ) (names : List Name) → body ≡ Names parent next names → (next : ℕ) × (names : List Name) × (before ≡ Names parent next names)

-- a file that is there stays, with its parent
abbrev pub Stays : List File → List File → ℕ → Type 0
Stays files now handle = (file : File) → file_at files handle ≡ Some file → (other : File) × (file_at now handle ≡ Some other) × SameParent file.body other.body

-- a directory gets an entry of a good name that it doesn't have, of a file that may be there
pub record MayEnter (ref : List File) (directory : ℕ) (name : List ℕ) (handle : ℕ) (body : Body) : Type 0 where
  pub good : is_bad name ≡ false
  pub absent : entry_named (names_of body) name ≡ None
  pub file : File
  pub there : file_at ref handle ≡ Some file
  pub parent : (parent others : ℕ) (names : List Name) → file.body ≡ Names parent others names → parent ≡ directory

pub entries_without : (ref : List File) (handle next : ℕ) (names : List Name) (name : List ℕ) → AreEntriesOf ref handle next names → AreEntriesOf ref handle next (others name names)
entries_without ref handle next names name are = record {
  each = λ entry there. are.each entry (other_contained names name entry there);
  rise = AllPairs-filter (λ (entry later : Name). entry.number < later.number) _ names are.rise;
  apart = AllPairs-filter (λ (entry later : Name). entry.name ≢ later.name) _ names are.apart;
}

pub entries_with : (ref : List File) (handle next : ℕ) (names : List Name) (name : List ℕ) (to parent : ℕ) → 3 ≤ next → MayEnter ref handle name to (Names parent next names)
    → AreEntriesOf ref handle next names → AreEntriesOf ref handle (next + 1) (names ++ record { number = next; name = name; handle = to } ∷ [])
entries_with ref handle next names name to parent least may are = record {
  each = λ entry there. by entry (Contains-push_cases names new entry there);
  rise = all_pairs_push (λ (entry later : Name). entry.number < later.number) names new are.rise
      (λ k d less. (are.each _ (Contains-get_or names k d less)).number);
  apart = all_pairs_push (λ (entry later : Name). entry.name ≢ later.name) names new are.apart
      (λ k d less. none_found names name _ may.absent (Contains-get_or names k d less));
}
  where
    new : Name
    new = record { number = next; name = name; handle = to }

    by : (entry : Name) → Contains names entry ⊎ (new ≡ entry) → IsEntryOf ref handle (next + 1) entry
    by entry (inl there) =
        let e = are.each entry there in
        record { least = e.least; number = omega (arith, e.number); name = e.name; file = e.file; there = e.there; parent = e.parent }
    by entry (inr is) = subst (IsEntryOf ref handle (next + 1)) is record {
      least = least;
      number = omega arith;
      name = may.good;
      file = may.file;
      there = may.there;
      parent = may.parent;
    }

pub entries_referred : (ref now : List File) (handle next : ℕ) (names : List Name) → ((entry : Name) → Contains names entry → Stays ref now entry.handle)
    → AreEntriesOf ref handle next names → AreEntriesOf now handle next names
entries_referred ref now handle next names stays are = record {
  each = λ entry there.
      let e = are.each entry there in let s = stays entry there e.file e.there in
      record {
        least = e.least;
        number = e.number;
        name = e.name;
        file = s.0;
        there = s.1;
        parent = λ parent others names body. let old = s.2 parent others names body in e.parent parent old.0 old.1 old.2;
      };
  rise = are.rise;
  apart = are.apart;
}
