use Rattle.bx_tree_laws.proofs.Members.{entry_of}
use Rattle.bx_tree_laws.proofs.trees.entries_name_files.Goals as goal

pub returns : goal.returns
returns c = λ tree directory file entry was is within. let e = entry_of tree was directory file is entry within in (e.file, e.there)
