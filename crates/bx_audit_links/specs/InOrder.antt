-- What is known of a tree before its links are looked at.
use Rattle.std.specs.Prelude.{◌≡◌, ◌≢◌, ℕ, ◌<◌, List, AllPairs, Contains, Some}
use Rattle.bx_model.specs.declared.tree.Tree.{Tree}
use Rattle.bx_tree_files.specs.declared.file.Body.TheVariants.{Names}
use Rattle.bx_tree_files.specs.declared.file.File.{File}
use Rattle.bx_tree_files.specs.declared.file.Name.{Name}
use Rattle.bx_tree_files.specs.Files.{file_at}

-- the numbers of a directory's entries rise, and no name stands twice
pub record AreApart (names : List Name) : Type 0 where
  pub rise : AllPairs (λ entry later. entry.number < later.number) names
  pub apart : AllPairs (λ entry later. entry.name ≢ later.name) names

-- handles rise, and all were given out; the entries of each directory are apart
pub record IsInOrder (tree : Tree) : Type 0 where
  pub rise : AllPairs (λ file later. file.handle < later.handle) tree.files
  pub apart : (file : File) (parent next : ℕ) (names : List Name) → Contains tree.files file → file.body ≡ Names parent next names → AreApart names
  pub given : (handle : ℕ) (file : File) → file_at tree.files handle ≡ Some file → Contains tree.given handle
