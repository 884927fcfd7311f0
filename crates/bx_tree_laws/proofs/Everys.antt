-- What holds of every file after an edit.
use Rattle.std.proofs.Common.{◌≡◌, ℕ, List, Some, None, Option, refl, sym, ap, ◌∙◌, subst, inl, inr}
use Rattle.std.specs.Prelude.{◌≢◌, ◌==◌, if◌then◌else◌, option_map}
use Rattle.bx_model.specs.bx_tree_files.specs.declared.file.File.{File}
use Rattle.bx_model.specs.bx_tree_files.specs.Files.{with_changed, without_file, file_at, with_file}
use Rattle.bx_tree_laws.specs.Every.{Every}
use Rattle.bx_tree_laws.proofs.Lookups.{SameOr, same_or, some_same, file_at-changed, file_at-without, file_at-with}

module _ (Q : ℕ → File → Type 0) (files : List File) where
  pub every_changed : (at : ℕ) (change : File → File) → ((file : File) → (change file).handle ≡ file.handle)
      → ((file : File) → file_at files at ≡ Some file → Q at (change file))
      → ((handle : ℕ) (file : File) → at ≢ handle → file_at files handle ≡ Some file → Q handle file)
      → Every Q (with_changed files at change)
  every_changed at change keeps here other handle file e = by (same_or at handle) (file_at files handle) refl (sym (file_at-changed files at change handle keeps) ∙ e)
    where
      by : SameOr at handle → (found : Option File) → file_at files handle ≡ found → (if at == handle then option_map change (file_at files handle) else file_at files handle) ≡ Some file → Q handle file
      by (inl same) None is e = let none : None ≡ Some file = rw (same.0, is) at e in absurd cc
      by (inl same) (Some old) is e =
          let some : Some (change old) ≡ Some file = rw (same.0, is) at e in
          subst (λ (h : ℕ). Q h file) same.1 (subst (Q at) (some_same (change old) file some) (here old (ap (file_at files) same.1 ∙ is)))
      by (inr apart) found is e = other handle file apart.1 (rw apart.0 at e)

  pub every_without : (at : ℕ) → ((handle : ℕ) (file : File) → at ≢ handle → file_at files handle ≡ Some file → Q handle file) → Every Q (without_file files at)
  every_without at other handle file e = by (same_or at handle) (sym (file_at-without files at handle) ∙ e)
    where
      by : SameOr at handle → (if at == handle then None else file_at files handle) ≡ Some file → Q handle file
      by (inl same) e = let none : None ≡ Some file = rw same.0 at e in absurd cc
      by (inr apart) e = other handle file apart.1 (rw apart.0 at e)

  pub every_with : (new : File) → Q new.handle new → ((handle : ℕ) (file : File) → new.handle ≢ handle → file_at files handle ≡ Some file → Q handle file) → Every Q (with_file files new)
  every_with new here other handle file e = by (same_or new.handle handle) (sym (file_at-with files new handle) ∙ e)
    where
      by : SameOr new.handle handle → (if new.handle == handle then Some new else file_at files handle) ≡ Some file → Q handle file
      by (inl same) e =
          let some : Some new ≡ Some file = rw same.0 at e in
          subst (λ (h : ℕ). Q h file) same.1 (subst (Q new.handle) (some_same new file some) here)
      by (inr apart) e = other handle file apart.1 (rw apart.0 at e)

  -- what a change keeps
  pub every_kept : (at : ℕ) (change : File → File) → ((file : File) → (change file).handle ≡ file.handle) → ((handle : ℕ) (file : File) → Q handle file → Q handle (change file))
      → Every Q files → Every Q (with_changed files at change)
  every_kept at change keeps same was = every_changed at change keeps (λ file is. same at file (was at file is)) (λ handle file apart is. was handle file is)
