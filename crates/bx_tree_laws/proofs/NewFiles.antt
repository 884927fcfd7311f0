-- New files.
use Rattle.std.proofs.Common.{◌≡◌, ℕ, ◌<◌, ◌^◌, arith, Bool, true, false, List, [], refl}
use Rattle.std.specs.Prelude.{◌%◌, if◌then◌else◌, length}
use Rattle.bx_model.specs.declared.call.Call.{Call}
use Rattle.bx_model.specs.bx_tree_files.specs.declared.sattr.Sattr.{Sattr}
use Rattle.bx_model.specs.bx_tree_files.specs.declared.file.Body.TheVariants as body
use Rattle.bx_model.specs.bx_tree_files.specs.declared.file.Name.{Name}
use Rattle.bx_model.specs.Making.{new_file}
use Rattle.bx_model.specs.bx_tree_files.specs.Times.{Time, is_given}
use Rattle.bx_tree_laws.proofs.Made.{IsNew}

mode_fits : (given : Bool) (bits mode : ℕ) → mode < 2 ^ 12 → (if given then bits % 4096 else mode) < 2 ^ 12
mode_fits true bits mode less = omega arith
mode_fits false bits mode less = less

module _ (call : Call) (sattr : Sattr) (now : Time) (at made : ℕ) where
  pub new_bytes : (bytes : List ℕ) → length bytes < 2 ^ 31 → IsNew at (new_file call sattr now 0o644 made (body.Bytes bytes))
  new_bytes bytes fits = record {
    is_file = record { kind = refl; mode = mode_fits (is_given sattr.mode) sattr.mode 0o644 (omega arith); size = fits; numbers = tt };
    none = refl;
    count = refl;
    parent_is = λ above next names e. absurd (conflict above next names e);
  }
    where
      conflict : (above next : ℕ) (names : List Name) → body.Bytes bytes ≡ body.Names above next names → ⊥
      conflict above next names e = cc

  pub new_path : (path : List ℕ) → length path < 2 ^ 31 → IsNew at (new_file call sattr now 0o777 made (body.Path path))
  new_path path fits = record {
    is_file = record { kind = refl; mode = mode_fits (is_given sattr.mode) sattr.mode 0o777 (omega arith); size = fits; numbers = tt };
    none = refl;
    count = refl;
    parent_is = λ above next names e. absurd (conflict above next names e);
  }
    where
      conflict : (above next : ℕ) (names : List Name) → body.Path path ≡ body.Names above next names → ⊥
      conflict above next names e = cc

  pub new_directory : IsNew at (new_file call sattr now 0o755 made (body.Names at 3 []))
  new_directory = record {
    is_file = record { kind = refl; mode = mode_fits (is_given sattr.mode) sattr.mode 0o755 (omega arith); size = omega arith; numbers = (omega arith, tt) };
    none = refl;
    count = refl;
    parent_is = λ above next names e. same above next names e;
  }
    where
      same : (above next : ℕ) (names : List Name) → body.Names at 3 [] ≡ body.Names above next names → above ≡ at
      same above next names e = cc
