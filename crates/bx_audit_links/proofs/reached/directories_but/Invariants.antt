use Rattle.std.proofs.Common.{◌≡◌, ℕ, ◌⊎◌, true}
use Rattle.std.specs.Prelude.{◌≢◌, Contains}
use Rattle.bx_audit_links.specs.Reached.{has}
use Rattle.bx_model.specs.FileTrees.{is_directory_at}
use Rattle.bx_tree_files.specs.declared.file.File.{File}
use Rattle.bx_tree_files.specs.Files.{is_directory}
use Rattle.bx_audit_links.proofs.reached.directories_but.Given as goal

abbrev pub invariant-loop-file : goal.invariant-loop-file
invariant-loop-file l = record {
  each : (handle : ℕ) → has l.directories handle ≡ true → (is_directory_at l.files handle ≡ true) × (handle ≢ l.root);
  all : (file : File) → Contains l.files file → is_directory file ≡ true → file.handle ≢ l.root → Contains l.file-iterator file ⊎ (has l.directories file.handle ≡ true);
  rest : (file : File) → Contains l.file-iterator file → Contains l.files file;
}
