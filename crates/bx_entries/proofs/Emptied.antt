-- Whether a directory has entries, by what a run finds behind the number 0.
use Rattle.std.proofs.Common.{◌≡◌, ℕ, ◌≤◌, Bool, true, false, List, [], ◌∷◌, Option, Some, None, refl, sym, ap, ◌∙◌, arith, subst}
use Rattle.std.specs.Prelude.{nat_lt, if◌then◌else◌, Contains, length, Ok, Err}
use Rattle.std.proofs.lemmas.Bool.Decides.{nat_tests}
use Rattle.bx_directory_reads.specs.Listings.{FollowsSo}
use Rattle.bx_directory_reads.specs.bx_dirs.specs.Entries.{HasEntries}
use Rattle.bx_changes.specs.bx_files.specs.Reads.{Tells}
use Rattle.bx_inodes.specs.declared.stop.Stop.{Stop}
use Rattle.bx_inodes.specs.declared.stop.Stop.TheVariants.{Need, Inner, Status, OutOfMemory}
use Rattle.bx_layout.specs.declared.inode.Inode.{Inode}
use Rattle.bx_model.specs.Removing.{has_entries}
use Rattle.bx_model.specs.declared.tree.Tree.{Tree}
use Rattle.bx_tree_files.specs.declared.file.Name.{Name}
use Rattle.bx_tree_files.specs.Entries.{above}
use Rattle.bx_tree_files.specs.Names.{names_of}
use Rattle.bx_tree_laws.proofs.Counts.{contains_first, contains_later}
use Rattle.bx_tree_laws.proofs.Members.{entry_of}
use Rattle.bx_truth.proofs.Cases.{eq_false, eq_true}
use Rattle.bx_views.specs.Truths.{Held, Hints, Truth}
use Rattle.bx_entries.specs.declared.finding.Removable.TheVariants as of
use Rattle.bx_entries.specs.Finding.{IsDirectoryOf, IsKnownFile, removal_error}
use Rattle.bx_entries.proofs.RemovedFrom.{IsListed, listed}

-- all entries have numbers above 0
all_above : (names : List Name) → ((entry : Name) → Contains names entry → 3 ≤ entry.number) → above 0 names ≡ names
all_above [] least = refl
all_above (x ∷ names) least =
    let three = least x (contains_first x names) in
    let more : nat_lt 0 x.number ≡ true = grind (arith, nat_tests, three) in
    rw more (ap (λ (l : List Name). x ∷ l) (all_above names (λ entry there. least entry (contains_later x entry names there))))

module _ (volume areas : ℕ) (held : Held) (hints : Hints) (truth : Truth) (tree : Tree) (handle : ℕ) (inode : Inode) (is : IsKnownFile volume areas held hints truth tree handle inode) where
  abbrev directory_error : Bool → Bool → Option ℕ
  directory_error d e = if d then (if e then Some 66 else None) else Some 20

  pub not_plain : inode.kind ≡ 2 → Some 21 ≡ removal_error of.Plain is.at.file
  not_plain two = sym (ap (λ (d : Bool). if d then Some 21 else None) (eq_true is.at.file.kind 2 (sym is.at.fields.kind ∙ two)))

  pub is_plain : (inode.kind ≡ 2 → ⊥) → None ≡ removal_error of.Plain is.at.file
  is_plain other = sym (ap (λ (d : Bool). if d then Some 21 else None) (eq_false is.at.file.kind 2 (λ two. other (is.at.fields.kind ∙ two))))

  pub no_directory : (inode.kind ≡ 2 → ⊥) → Some 20 ≡ removal_error of.Directory is.at.file
  no_directory other = sym (ap (λ (d : Bool). directory_error d (has_entries is.at.file)) (eq_false is.at.file.kind 2 (λ two. other (is.at.fields.kind ∙ two))))

  module _ (two : inode.kind ≡ 2) where
    pub directory : IsDirectoryOf volume areas held hints truth tree handle inode
    directory = record { few = is.few; same = is.same; stands = is.stands; fit = is.fit; at = is.at; kind = two }

    all : above 0 (names_of is.at.file.body) ≡ names_of is.at.file.body
    all = all_above (names_of is.at.file.body) (λ entry there. (entry_of tree is.stands.file_tree handle is.at.file is.at.there entry there).least)

    error_is : (e : Bool) → nat_lt 0 (length (names_of is.at.file.body)) ≡ e → directory_error true e ≡ removal_error of.Directory is.at.file
    error_is e same = sym (ap (λ (d : Bool). directory_error d (has_entries is.at.file)) (eq_true is.at.file.kind 2 (sym is.at.fields.kind ∙ two)) ∙ ap (directory_error true) same)

    list : IsListed areas held hints truth inode is.at.file
    unfolding directory
    list = listed of.Directory volume areas held hints truth tree handle inode [] (0, 0) directory

    same : names_of is.at.file.body ≡ list.names
    same = ap names_of list.body_is

    listed_all : above 0 list.names ≡ list.names
    listed_all = ap (above 0) (sym same) ∙ all ∙ same

    pub has_some : (found : Option Name) (entry : Name) → found ≡ Some entry → ((truth : Truth) (names : List Name) → HasEntries areas held hints truth [] inode.tree names → FollowsSo names 0 (Ok found)) → Some 66 ≡ removal_error of.Directory is.at.file
    has_some found entry some told = error_is true (ap (λ (l : List Name). nat_lt 0 (length l)) (same ∙ sym listed_all ∙ follows) ∙ longer (above entry.number list.names))
      where
        follows : above 0 list.names ≡ entry ∷ above entry.number list.names
        follows = subst (λ (o : Option Name). FollowsSo list.names 0 (Ok o)) some (told truth list.names list.entries)

        longer : (rest : List Name) → nat_lt 0 (length (entry ∷ rest)) ≡ true
        longer rest = grind (arith, nat_tests)

    pub has_none : (found : Option Name) → found ≡ None → ((truth : Truth) (names : List Name) → HasEntries areas held hints truth [] inode.tree names → FollowsSo names 0 (Ok found)) → None ≡ removal_error of.Directory is.at.file
    has_none found none told = error_is false (ap (λ (l : List Name). nat_lt 0 (length l)) (same ∙ sym listed_all ∙ follows))
      where
        follows : above 0 list.names ≡ []
        follows = subst (λ (o : Option Name). FollowsSo list.names 0 (Ok o)) none (told truth list.names list.entries)

    pub has_stopped : (stop : Stop) → ((truth : Truth) (names : List Name) → HasEntries areas held hints truth [] inode.tree names → FollowsSo names 0 (Err stop)) → (error : Option ℕ) → Tells error (Err stop)
    has_stopped stop told error = by stop (told truth list.names list.entries)
      where
        by : (stop : Stop) → FollowsSo list.names 0 (Err stop) → Tells error (Err stop)
        by (Need at mode) t = tt
        by (Inner blocks) t = t
        by (Status status) t = t
        by OutOfMemory t = tt
