-- Files stay, with their parents, through an edit.
use Rattle.std.proofs.Common.{◌≡◌, ℕ, List, Some, None, refl, sym, ap, ◌∙◌, subst, inl, inr}
use Rattle.std.specs.Prelude.{◌≢◌}
use Rattle.bx_model.specs.bx_tree_files.specs.declared.file.Body.{Body}
use Rattle.bx_model.specs.bx_tree_files.specs.declared.file.Body.TheVariants.{Bytes, Path, Names}
use Rattle.bx_model.specs.bx_tree_files.specs.declared.file.File.{File}
use Rattle.bx_model.specs.bx_tree_files.specs.declared.file.Name.{Name}
use Rattle.bx_model.specs.bx_tree_files.specs.Files.{with_changed, without_file, file_at, with_file}
use Rattle.bx_model.specs.bx_tree_files.specs.Names.{names_of, with_entry, without_entry, with_parent}
use Rattle.bx_model.specs.bx_tree_files.specs.Changes.{moved_to, overwritten, resized}
use Rattle.bx_model.specs.bx_tree_files.specs.Times.{Time}
use Rattle.bx_tree_laws.proofs.Lookups.{SameOr, same_or, some_same, changed_here, changed_other, without_other, with_other}
use Rattle.bx_tree_laws.proofs.DirectoryParts.{SameParent, Stays}

pub parent_same : (body : Body) → SameParent body body
parent_same body parent next names is = (next, names, is)

pub parent_without : (name : List ℕ) (body : Body) → SameParent body (without_entry name body)
parent_without name (Bytes bytes) parent next names is = absurd cc
parent_without name (Path path) parent next names is = absurd cc
parent_without name (Names p n ns) parent next names is = (n, ns, cc)

pub parent_with : (name : List ℕ) (to : ℕ) (body : Body) → SameParent body (with_entry name to body)
parent_with name to (Bytes bytes) parent next names is = absurd cc
parent_with name to (Path path) parent next names is = absurd cc
parent_with name to (Names p n ns) parent next names is = (n, ns, cc)

pub parent_resized : (size : ℕ) (body : Body) → SameParent body (resized size body)
parent_resized size (Bytes bytes) parent next names is = absurd cc
parent_resized size (Path path) parent next names is = absurd cc
parent_resized size (Names p n ns) parent next names is = (n, ns, cc)

pub parent_overwritten : (offset : ℕ) (written : List ℕ) (body : Body) → SameParent body (overwritten offset written body)
parent_overwritten offset written (Bytes bytes) parent next names is = absurd cc
parent_overwritten offset written (Path path) parent next names is = absurd cc
parent_overwritten offset written (Names p n ns) parent next names is = (n, ns, cc)

pub stays_same : (files : List File) (handle : ℕ) → Stays files files handle
stays_same files handle file is = (file, is, parent_same file.body)

pub stays_then : (files now then : List File) (handle : ℕ) → Stays files now handle → Stays now then handle → Stays files then handle
stays_then files now then handle one other file is =
    let a = one file is in let b = other a.0 a.1 in
    (b.0, b.1, λ parent next names body. let c = b.2 parent next names body in a.2 parent c.0 c.1 c.2)

pub stays_changed : (files : List File) (at : ℕ) (change : File → File) (handle : ℕ) → ((file : File) → (change file).handle ≡ file.handle)
    → (at ≡ handle → (file : File) → file_at files at ≡ Some file → SameParent file.body (change file).body) → Stays files (with_changed files at change) handle
stays_changed files at change handle keeps parents file is = by (same_or at handle)
  where
    by : SameOr at handle → (other : File) × (file_at (with_changed files at change) handle ≡ Some other) × SameParent file.body other.body
    by (inl same) =
        let there = ap (file_at files) same.1 ∙ is in
        (change file, ap (file_at (with_changed files at change)) (sym same.1) ∙ changed_here files at change file keeps there, parents same.1 file there)
    by (inr apart) = (file, changed_other files at change handle keeps apart.1 ∙ is, parent_same file.body)

pub stays_without : (files : List File) (at handle : ℕ) → at ≢ handle → Stays files (without_file files at) handle
stays_without files at handle apart file is = (file, without_other files at handle apart ∙ is, parent_same file.body)

pub stays_with : (files : List File) (new : File) (handle : ℕ) → file_at files new.handle ≡ None → Stays files (with_file files new) handle
stays_with files new handle gone file is = (file, with_other files new handle (λ e. conflict (sym gone ∙ ap (file_at files) e ∙ is)) ∙ is, parent_same file.body)
  where
    conflict : {f : File} → None ≡ Some f → ⊥
    conflict e = cc

pub parent_moved : (to : ℕ) (body : Body) → ((parent next : ℕ) (names : List Name) → body ≡ Names parent next names → ⊥) → SameParent body (with_parent to body)
parent_moved to (Bytes bytes) not_one parent next names is = absurd cc
parent_moved to (Path path) not_one parent next names is = absurd cc
parent_moved to (Names p n ns) not_one parent next names is = absurd (not_one p n ns refl)

pub moved_parent : (to : ℕ) (body : Body) (parent next : ℕ) (names : List Name) → with_parent to body ≡ Names parent next names → parent ≡ to
moved_parent to (Bytes bytes) parent next names is = absurd cc
moved_parent to (Path path) parent next names is = absurd cc
moved_parent to (Names p n ns) parent next names is = cc

pub names_moved : (to : ℕ) (body : Body) → names_of (with_parent to body) ≡ names_of body
names_moved to (Bytes bytes) = refl
names_moved to (Path path) = refl
names_moved to (Names p n ns) = refl

both_moved : (to : ℕ) (before body : Body) → SameParent before body → SameParent (with_parent to before) (with_parent to body)
both_moved to before (Bytes bytes) same parent next names is = absurd cc
both_moved to before (Path path) same parent next names is = absurd cc
both_moved to before (Names p n ns) same parent next names is =
    let old = same p n ns refl in
    let at : to ≡ parent = cc in
    (old.0, old.1, ap (with_parent to) old.2 ∙ ap (λ (h : ℕ). Names h old.0 old.1) at)

-- files that stay do so when one of them is moved in both
pub stays_moved : (files now : List File) (at : ℕ) (time : Time) (to handle : ℕ) (moved : File) → file_at files at ≡ Some moved → Stays files now handle
    → Stays (with_changed files at (moved_to time to)) (with_changed now at (moved_to time to)) handle
stays_moved files now at time to handle moved there stays file is = by (same_or at handle)
  where
    by : SameOr at handle → (other : File) × (file_at (with_changed now at (moved_to time to)) handle ≡ Some other) × SameParent file.body other.body
    by (inl same) =
        let old = stays moved (ap (file_at files) (sym same.1) ∙ there) in
        let here = changed_here files at (moved_to time to) moved (λ f. refl) there in
        let file_is : moved_to time to moved ≡ file = some_same (moved_to time to moved) file (sym here ∙ ap (file_at (with_changed files at (moved_to time to))) same.1 ∙ is) in (
          moved_to time to old.0,
          ap (file_at (with_changed now at (moved_to time to))) (sym same.1) ∙ changed_here now at (moved_to time to) old.0 (λ f. refl) (ap (file_at now) same.1 ∙ old.1),
          subst (λ (f : File). SameParent f.body (with_parent to old.0.body)) file_is (both_moved to moved.body old.0.body old.2),
        )
    by (inr apart) =
        let old = stays file (sym (changed_other files at (moved_to time to) handle (λ f. refl) apart.1) ∙ is) in
        (old.0, changed_other now at (moved_to time to) handle (λ f. refl) apart.1 ∙ old.1, old.2)
