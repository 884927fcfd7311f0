-- A file that is changed in its place is put in the place of the one with its handle.
use Rattle.std.proofs.Common.{◌≡◌, ℕ, ◌≤◌, arith, inl, inr, Bool, true, false, List, [], ◌∷◌, Some, None, refl, sym, ap, ◌∙◌}
use Rattle.std.specs.Prelude.{◌≢◌, ◌==◌, if◌then◌else◌, nat_lt}
use Rattle.std.proofs.lemmas.Bool.{ltb-true}
use Rattle.bx_tree_files.specs.declared.file.File.{File}
use Rattle.bx_tree_files.specs.Files.{file_at, with_changed, with_file}
use Rattle.bx_reads.specs.bx_tree_laws.proofs.Lookups.{SameOr, same_or, some_same}
use Rattle.bx_reads.specs.bx_tree_laws.proofs.Rises.{Above, Rise, none_below, rise_head, rise_tail}

-- a file that isn't there is not changed
unchanged : (files : List File) (at : ℕ) (change : File → File) → file_at files at ≡ None → with_changed files at change ≡ files
unchanged [] at change none = refl
unchanged (x ∷ files) at change none = by (same_or x.handle at) (unchanged files at change)
  where
    by : SameOr x.handle at → (file_at files at ≡ None → with_changed files at change ≡ files) → with_changed (x ∷ files) at change ≡ x ∷ files
    by (inl same) later = let some : Some x ≡ None = rw same.0 at none in absurd cc
    by (inr other) later = rw other.0 (ap (λ (l : List File). x ∷ l) (later (rw other.0 at none)))

lower : (low high : ℕ) (files : List File) → low ≤ high → Above high files → Above low files
lower low high files le above k d less = let more = above k d less in omega (arith, le, more)

pub changed_is_put : (files : List File) (at : ℕ) (change : File → File) (file : File) → Rise files → file_at files at ≡ Some file → (change file).handle ≡ at
    → with_changed files at change ≡ with_file files (change file)
changed_is_put [] at change file rise there handle_is = absurd cc
changed_is_put (x ∷ files) at change file rise there handle_is = by (same_or x.handle at) (changed_is_put files at change file (rise_tail x files rise))
  where
    above : Above x.handle files
    above = rise_head x files rise

    by_order : (b : Bool) → nat_lt (change file).handle x.handle ≡ b → x.handle ≢ at → file_at files at ≡ Some file
        → ◌≡◌ {A = List File} (x ∷ with_file files (change file)) (if b then change file ∷ x ∷ files else x ∷ with_file files (change file))
    by_order false order apart found = refl
    by_order true order apart found =
        let less = ltb-true (change file).handle x.handle order in
        let none : file_at files at ≡ None = none_below files at (lower at x.handle files (omega (arith, less, handle_is)) above) in
        let both : Some file ≡ None = sym found ∙ none in
        absurd cc

    by : SameOr x.handle at → (file_at files at ≡ Some file → (change file).handle ≡ at → with_changed files at change ≡ with_file files (change file))
        → with_changed (x ∷ files) at change ≡ with_file (x ∷ files) (change file)
    by (inl same) later =
        let here : x ≡ file = some_same x file (rw same.0 at there) in
        let rest : with_changed files at change ≡ files = unchanged files at change (none_below files at (lower at x.handle files (omega (arith, same.1)) above)) in
        let test : (x.handle == (change file).handle) ≡ true = ap (λ (n : ℕ). x.handle == n) handle_is ∙ same.0 in
        rw (same.0, test) ((λ i. change (here i) ∷ rest i))
    by (inr other) later =
        let found : file_at files at ≡ Some file = rw other.0 at there in
        let test : (x.handle == (change file).handle) ≡ false = ap (λ (n : ℕ). x.handle == n) handle_is ∙ other.0 in
        rw (other.0, test) (ap (λ (l : List File). x ∷ l) (later found handle_is) ∙ by_order (nat_lt (change file).handle x.handle) refl other.1 found)
