use Rattle.std.proofs.Common.{ℕ, List, ◌∙◌, sym, ap}
use Rattle.std.specs.Map.{values_of}
use Rattle.bx_tree_files.specs.declared.file.File.{File}
use Rattle.bx_tree_files.specs.Files.{without_file}
use Rattle.bx_tree_parts.specs.Fileids.{has_pair}
use Rattle.bx_tree_files.proofs.Kept.{at_without, seen_without}
use Rattle.bx_tree_files.proofs.KeptNumbers.{is_kept, kept_taken}
use Rattle.bx_tree_files.proofs.files.Files.remove.Goals as goal

pub invariant_of-self : goal.invariant_of-self
invariant_of-self c =
    record { at = rw c.remove.ensures.entries (at_without _ c.self.inside.by_handle.entries c.self.invariant.at); rise = c.remove.ensures.ordered; numbers = λ number handle. kept_taken c.self.inside.by_handle.entries c.args.handle (has_pair c.self.inside.fileids) (has_pair c.take.new.self) c.self.invariant.rise c.self.invariant.numbers (rw c.fileid.ensures at c.take.ensures) number handle ∙ ap (λ (entries : List (ℕ × File)). is_kept entries number handle) (sym c.remove.ensures.entries) }

pub returns : goal.returns
returns c =
    ap values_of c.remove.ensures.entries
    ∙ seen_without c.args.handle c.self.inside.by_handle.entries c.self.invariant.at c.self.invariant.rise
    ∙ ap (λ (files : List File). without_file files c.args.handle) c.self.view_is
