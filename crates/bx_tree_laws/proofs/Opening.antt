-- The opening tree is a file tree.
use Rattle.std.proofs.Common.{◌≡◌, ℕ, arith, [], ◌∷◌, sym, subst, refl, Some, None, inl, inr}
use Rattle.std.specs.Prelude.{◌^◌, Contains, zero, suc, ◌<◌, ◌≤◌, slice_index_or, ◌≢◌, ◌==◌, ◌⊎◌, true, false}
use Rattle.std.proofs.lemmas.Bool.Decides.{eqb_tells}
use Rattle.bx_model.specs.bx_tree_files.specs.declared.file.File.{File}
use Rattle.bx_model.specs.bx_tree_files.specs.Files.{file_at, IsFile}
use Rattle.bx_model.specs.FileTrees.{IsFileTree, HasEntries, HasLinks, links_to}
use Rattle.bx_model.specs.Opening.{opening, opening_root}

only_root : (handle : ℕ) (file : File) → file_at (opening_root ∷ []) handle ≡ Some file → (1 ≡ handle) × (opening_root ≡ file)
only_root handle file e = by (eqb_tells 1 handle) e
  where
    by : (((1 == handle) ≡ true) × (1 ≡ handle)) ⊎ (((1 == handle) ≡ false) × (1 ≢ handle)) → file_at (opening_root ∷ []) handle ≡ Some file → (1 ≡ handle) × (opening_root ≡ file)
    by (inl same) e = let is : Some opening_root ≡ Some file = rw same.0 at e in (same.1, cc)
    by (inr other) e = let is : None ≡ Some file = rw other.0 at e in absurd cc

root_is : IsFile opening_root
root_is = record { kind = refl; mode = omega arith; size = omega arith; numbers = (omega arith, tt) }

pub opening_is : (volume areas : ℕ) → IsFileTree (record (opening volume) { areas = areas })
opening_is volume areas = record {
  rise = λ i j d less within. absurd (omega (arith, less, within));
  is_file = λ file (k, within, is). subst IsFile (at_none k within is) root_is;
  root = (opening_root, 3, [], refl, refl);
  entries = λ handle file is. subst (λ (f : File). HasEntries (opening_root ∷ []) handle f.body) (only_root handle file is).1 record {
    each = λ entry within. absurd (omega (arith, within.1));
    rise = λ i j d less within. absurd (omega (arith, within));
    apart = λ i j d less within. absurd (omega (arith, within));
  };
  links = λ handle file is. subst (λ (f : File). HasLinks (opening_root ∷ []) f f.body) (only_root handle file is).1 refl;
  named = λ handle file is other. absurd (other (sym (only_root handle file is).0));
  once = λ handle file is directory. subst (λ (h : ℕ). links_to (opening_root ∷ []) h ≤ 1) (only_root handle file is).0 (omega arith);
  root_unnamed = refl;
  depth = λ handle. 0;
  nearer = λ handle file parent next names is body other. absurd (other (sym (only_root handle file is).0));
  was_given = λ handle file is. (0, omega arith, (only_root handle file is).0);
}
  where
    at_none : {file : File} (k : ℕ) → k < 1 → slice_index_or (opening_root ∷ []) k file ≡ file → opening_root ≡ file
    at_none zero within is = is
    at_none (suc k) within is = absurd (omega (arith, within))

pub opening_fits : (volume handle : ℕ) → Contains (opening volume).given handle → handle < 2 ^ 64
opening_fits volume handle (k, within, is) = by k within is
  where
    by : (k : ℕ) → k < 1 → slice_index_or (1 ∷ []) k handle ≡ handle → handle < 2 ^ 64
    by zero within is = omega (arith, is)
    by (suc k) within is = absurd (omega (arith, within))
