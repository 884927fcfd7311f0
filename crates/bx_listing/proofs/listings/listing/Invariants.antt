use Rattle.std.proofs.Common.{◌≡◌, ◌++◌}
use Rattle.std.specs.List.{All}
use Rattle.bx_base.specs.Text.{text_of}
use Rattle.bx_tree_files.specs.Files.{IsFile}
use Rattle.bx_model.specs.Listing.{listing_lines}
use Rattle.bx_listing.proofs.listings.listing.Given as goal

abbrev pub invariant-loop-file : goal.invariant-loop-file
invariant-loop-file l = record {
  files : All IsFile l.file-iterator;
  text : text_of (listing_lines l.tree.files) ≡ l.text.items ++ text_of (listing_lines l.file-iterator);
}
