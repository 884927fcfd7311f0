use Rattle.std.proofs.Common.{ℕ, List, ◌∙◌, sym, ap}
use Rattle.std.specs.Map.{values_of}
use Rattle.bx_tree_files.specs.declared.file.File.{File}
use Rattle.bx_tree_parts.specs.Fileids.{has_pair}
use Rattle.bx_tree_files.specs.Files.{with_file}
use Rattle.bx_tree_files.proofs.Kept.{with_file-insert, AreAtHandles-insert}
use Rattle.bx_tree_files.proofs.KeptNumbers.{is_kept, kept_back, kept_put}
use Rattle.bx_tree_files.proofs.files.Files.insert.Goals as goal

pub invariant_of-self-in-Ok : goal.invariant_of-self-in-Ok
invariant_of-self-in-Ok c = record {
  at = rw c.in-Ok.ensures.entries (AreAtHandles-insert c.args.file c.self.inside.by_handle.entries c.requires c.self.invariant.at);
  rise = c.in-Ok.ensures.ordered;
  numbers = λ number handle.
      kept_put c.self.inside.by_handle.entries c.args.file.handle c.args.file (has_pair c.self.inside.fileids) (has_pair c.put.new.self) c.self.invariant.numbers
      (rw c.fileid.ensures at c.in_ok-put.ensures.ok) number handle
      ∙ ap (λ (entries : List (ℕ × File)). is_kept entries number handle) (sym c.in-Ok.ensures.entries);
}

pub returns-in-Ok-clause-ok : goal.returns-in-Ok-clause-ok
returns-in-Ok-clause-ok c =
    ap values_of c.in-Ok.ensures.entries
    ∙ with_file-insert c.args.file c.self.inside.by_handle.entries c.self.invariant.at
    ∙ ap (λ (files : List File). with_file files c.args.file) c.self.view_is

pub invariant_of-self-in-Err : goal.invariant_of-self-in-Err
invariant_of-self-in-Err c = record {
  at = rw c.in-Err.ensures.err c.self.invariant.at;
  rise = c.in-Err.ensures.ordered;
  numbers = λ number handle.
      kept_back c.self.inside.by_handle.entries c.args.file.handle (has_pair c.self.inside.fileids) (has_pair c.put.new.self) (has_pair c.take.new.self) c.in-Err.ensures.absent
      c.self.invariant.numbers (rw c.fileid.ensures at c.in_ok-put.ensures.ok) (rw c.fileid-in-Err.ensures at c.take.ensures) number handle
      ∙ ap (λ (entries : List (ℕ × File)). is_kept entries number handle) (sym c.in-Err.ensures.err);
}
