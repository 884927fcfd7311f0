-- Files in order, and their handles.
use Rattle.std.proofs.Common.{◌≡◌, ℕ, ⊎_elim, arith, Bool, List, [], sym, ap, ◌∙◌, subst, refl, Option, Some, None}
use Rattle.std.specs.Prelude.{◌≢◌, if◌then◌else◌, Contains}
use Rattle.bx_audit_bodies.specs.Reading.{AreEntriesApart}
use Rattle.bx_audit_owners.specs.Found.{AreOrdered}
use Rattle.bx_tree_files.specs.declared.file.File.{File}
use Rattle.bx_tree_files.specs.Files.{file_at, with_file}
use Rattle.bx_tree_files.specs.Given.{with_handle}
use Rattle.bx_tree_laws.proofs.Put.{handle_stays, handle_given, with_handle_cases}
use Rattle.bx_truth.proofs.Cases.{same_or, eq_true, eq_false}
use Rattle.bx_truth.proofs.FilesInOrder.{file_with, rises_with}

some_same : {X : Type 0} (x y : X) → Some x ≡ Some y → x ≡ y
some_same x y e = cc

none_some : {X : Type 0} (o : Option X) (x : X) → o ≡ None → o ≡ Some x → ⊥
none_some o x none some = absurd cc

-- no files
pub none_ordered : AreOrdered [] []
none_ordered = record {
  rise = λ i j d less within. absurd (omega (arith, less, within));
  apart = λ handle file is. absurd (none_some None file refl is);
  given_is = λ handle there. absurd (omega (arith, there.1));
  all_given = λ handle file is. absurd (none_some None file refl is);
}

module _ (files : List File) (new : File) where
  pub with_here : file_at (with_file files new) new.handle ≡ Some new
  with_here = file_with files new new.handle ∙ ap (λ (b : Bool). if b then Some new else file_at files new.handle) (eq_true new.handle new.handle refl)

  pub with_other : (handle : ℕ) → handle ≢ new.handle → file_at (with_file files new) handle ≡ file_at files handle
  with_other handle apart = file_with files new handle ∙ ap (λ (b : Bool). if b then Some new else file_at files handle) (eq_false new.handle handle (λ same. apart (sym same)))

  at_handle : (handle : ℕ) (file : File) → handle ≡ new.handle → file_at (with_file files new) handle ≡ Some file → new ≡ file
  at_handle handle file same is = some_same new file (sym with_here ∙ ap (file_at (with_file files new)) (sym same) ∙ is)

  -- one file more
  pub one_ordered : (given : List ℕ) → AreEntriesApart new.body → AreOrdered files given → AreOrdered (with_file files new) (with_handle given new.handle)
  one_ordered given apart are = record {
    rise = rises_with files new are.rise;
    apart = λ handle file is. ⊎_elim
        (λ same. subst (λ (f : File). AreEntriesApart f.body) (at_handle handle file same is) apart)
        (λ other. are.apart handle file (sym (with_other handle other) ∙ is))
        (same_or handle new.handle);
    given_is = λ handle there none. ⊎_elim
        (λ same. none_some (file_at (with_file files new) handle) new none (ap (file_at (with_file files new)) same ∙ with_here))
        (λ other. ⊎_elim
        (λ before. are.given_is handle before (sym (with_other handle other) ∙ none))
        (λ same. other (sym same))
        (with_handle_cases given new.handle handle there))
        (same_or handle new.handle);
    all_given = λ handle file is. ⊎_elim
        (λ same. subst (Contains (with_handle given new.handle)) (sym same) (handle_given given new.handle))
        (λ other. handle_stays given new.handle handle (are.all_given handle file (sym (with_other handle other) ∙ is)))
        (same_or handle new.handle);
  }
