use Rattle.std.proofs.Common.{◌<◌, ◌⊎◌}
use Rattle.std.specs.Prelude.{AllPairs, Contains}
use Rattle.bx_audit_links.specs.Right.{IsRight}
use Rattle.bx_tree_files.specs.declared.file.File.{File}
use Rattle.bx_audit_links.proofs.right.wrong_in.Given as goal

-- each is right or left, and those that are left are of them, in order
abbrev pub invariant-loop-file : goal.invariant-loop-file
invariant-loop-file l = record {
  done : (file : File) → Contains l.files file → IsRight l.files l.root file ⊎ Contains l.file-iterator file;
  rest : (file : File) → Contains l.file-iterator file → Contains l.files file;
  rise : AllPairs (λ file later. file.handle < later.handle) l.file-iterator;
}
