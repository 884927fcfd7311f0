-- What the walk found is in order.
use Rattle.std.proofs.Common.{◌≡◌, ℕ, List, subst}
use Rattle.bx_audit_owners.specs.bx_audit_bodies.specs.Reading.{AreEntriesApart}
use Rattle.bx_audit_links.specs.InOrder.{AreApart, IsInOrder}
use Rattle.bx_audit_owners.specs.Found.{AreOrdered}
use Rattle.bx_model.specs.declared.tree.Tree.{Tree}
use Rattle.bx_tree_files.specs.declared.file.Body.TheVariants.{Names}
use Rattle.bx_tree_files.specs.declared.file.File.{File}
use Rattle.bx_tree_files.specs.declared.file.Name.{Name}
use Rattle.bx_tree_laws.proofs.Rises.{at_contained}

apart_of : (file : File) (parent next : ℕ) (names : List Name) → file.body ≡ Names parent next names → AreEntriesApart file.body → AreApart names
apart_of file parent next names is apart = let pair : AreEntriesApart (Names parent next names) = subst AreEntriesApart is apart in record { rise = pair.0; apart = pair.1 }

pub in_order : (tree : Tree) → AreOrdered tree.files tree.given → IsInOrder tree
in_order tree ordered = record {
  rise = ordered.rise;
  apart = λ file parent next names there is. apart_of file parent next names is (ordered.apart file.handle file (at_contained tree.files file ordered.rise there));
  given = ordered.all_given;
}
