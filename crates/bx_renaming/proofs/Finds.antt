-- What RENAME finds in a directory, by the list of its entries.
use Rattle.std.proofs.Common.{◌≡◌, ℕ, List, [], Option, Some, None, sym, ap, ◌∙◌, subst}
use Rattle.std.specs.Prelude.{Ok, Err}
use Rattle.bx_linking.specs.bx_dirs.specs.Entries.{HasEntries}
use Rattle.bx_linking.specs.bx_entries.specs.declared.finding.Removable.TheVariants as of
use Rattle.bx_linking.specs.bx_entries.specs.Finding.{EntryFor, IsDirectoryOf}
use Rattle.bx_linking.specs.bx_entries.proofs.RemovedFrom.{IsListed, listed}
use Rattle.bx_inodes.specs.Inodes.{FileAt}
use Rattle.bx_inodes.specs.declared.stop.Stop.{Stop}
use Rattle.bx_inodes.specs.declared.stop.Stop.TheVariants.{Need, Inner, Status, OutOfMemory}
use Rattle.bx_layout.specs.declared.inode.Inode.{Inode}
use Rattle.bx_linking.specs.Linking.{TellsEntry}
use Rattle.bx_model.specs.declared.tree.Tree.{Tree}
use Rattle.bx_model.specs.Renaming.{file_of_entry}
use Rattle.bx_model.specs.Steps.{must, ◌>>=◌}
use Rattle.bx_tree_files.specs.declared.file.Body.{Body}
use Rattle.bx_tree_files.specs.declared.file.File.{File}
use Rattle.bx_tree_files.specs.declared.file.Name.{Name}
use Rattle.bx_tree_files.specs.Entries.{entry_named}
use Rattle.bx_tree_files.specs.Files.{file_at}
use Rattle.bx_tree_files.specs.Names.{names_of}
use Rattle.bx_views.specs.Truths.{Held, Hints, Truth}
use Rattle.bx_renaming.specs.Found.{MovedFor, OtherFor}

module _ (volume areas : ℕ) (held : Held) (hints : Hints) (truth : Truth) (tree : Tree) (handle : ℕ) (inode : Inode) (name : List ℕ) (d : IsDirectoryOf volume areas held hints truth tree handle inode) where
  list : IsListed areas held hints truth inode d.at.file
  list = listed of.Plain volume areas held hints truth tree handle inode [] (0, 0) d

  same : entry_named (names_of d.at.file.body) name ≡ entry_named list.names name
  same = ap (λ (b : Body). entry_named (names_of b) name) list.body_is

  -- ---- an entry that is to be there

  pub no_entry : (stop : Stop) → ((truth : Truth) (names : List Name) → HasEntries areas held hints truth [] inode.tree names → EntryFor names name (Err stop)) → MovedFor areas truth tree (names_of d.at.file.body) name (Err stop)
  no_entry stop told = by stop (told truth list.names list.entries)
    where
      by : (stop : Stop) → EntryFor list.names name (Err stop) → MovedFor areas truth tree (names_of d.at.file.body) name (Err stop)
      by (Status status) (two, none) = ap (λ (o : Option Name). must o 2 >>= (λ entry. must (file_at tree.files entry.handle) 70)) (same ∙ none) ∙ ap Err (sym two)
      by (Need at mode) e = tt
      by (Inner blocks) e = e
      by OutOfMemory e = tt

  module _ (number other : ℕ) (told : (truth : Truth) (names : List Name) → HasEntries areas held hints truth [] inode.tree names → EntryFor names name (Ok (number, other))) where
    pub found : entry_named (names_of d.at.file.body) name ≡ Some (record { number = number; name = name; handle = other })
    found = same ∙ told truth list.names list.entries

    pub no_moved : (stop : Stop) → FileAt areas truth tree other (Err stop) → MovedFor areas truth tree (names_of d.at.file.body) name (Err stop)
    no_moved (Status status) (code, none) =
        ap (λ (o : Option Name). must o 2 >>= (λ entry. must (file_at tree.files entry.handle) 70)) found
        ∙ ap (λ (o : Option File). must o 70) none ∙ ap Err (sym code)
    no_moved (Need at mode) f = tt
    no_moved (Inner blocks) f = f
    no_moved OutOfMemory f = tt

  -- ---- one that need not be

  pub not_told : (stop : Stop) → ((truth : Truth) (names : List Name) → HasEntries areas held hints truth [] inode.tree names → TellsEntry names name (Err stop)) → OtherFor areas truth tree (names_of d.at.file.body) name (Err stop)
  not_told stop told = by stop (told truth list.names list.entries)
    where
      by : (stop : Stop) → TellsEntry list.names name (Err stop) → OtherFor areas truth tree (names_of d.at.file.body) name (Err stop)
      by (Status status) t = absurd t
      by (Need at mode) t = tt
      by (Inner blocks) t = t
      by OutOfMemory t = tt

  pub nobody : (o : Option (ℕ × ℕ)) → o ≡ None → ((truth : Truth) (names : List Name) → HasEntries areas held hints truth [] inode.tree names → TellsEntry names name (Ok o)) → entry_named (names_of d.at.file.body) name ≡ None
  nobody o none told = same ∙ subst (λ (x : Option (ℕ × ℕ)). TellsEntry list.names name (Ok x)) none (told truth list.names list.entries)

  module _ (o : Option (ℕ × ℕ)) (number other : ℕ) (some : o ≡ Some (number, other)) (told : (truth : Truth) (names : List Name) → HasEntries areas held hints truth [] inode.tree names → TellsEntry names name (Ok o)) where
    pub somebody : entry_named (names_of d.at.file.body) name ≡ Some (record { number = number; name = name; handle = other })
    somebody = same ∙ subst (λ (x : Option (ℕ × ℕ)). TellsEntry list.names name (Ok x)) some (told truth list.names list.entries)

    pub no_other : (stop : Stop) → FileAt areas truth tree other (Err stop) → OtherFor areas truth tree (names_of d.at.file.body) name (Err stop)
    no_other (Status status) (code, none) =
        ap (file_of_entry tree) somebody ∙ ap (λ (o : Option File). must o 70 >>= (λ file. Ok (Some file))) none ∙ ap Err (sym code)
    no_other (Need at mode) f = tt
    no_other (Inner blocks) f = f
    no_other OutOfMemory f = tt
