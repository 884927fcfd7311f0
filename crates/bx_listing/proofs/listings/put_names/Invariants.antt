use Rattle.std.proofs.Common.{◌≡◌, ◌++◌, map}
use Rattle.bx_base.specs.Text.{text_of}
use Rattle.bx_model.specs.Listing.{name_line}
use Rattle.bx_listing.proofs.listings.put_names.Given as goal

abbrev pub invariant-loop-name : goal.invariant-loop-name
invariant-loop-name l = l.initial.text.items ++ text_of (map name_line l.names) ≡ l.text.items ++ text_of (map name_line l.name-iterator)
