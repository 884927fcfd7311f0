use Rattle.bx_tree_laws.proofs.Laws.{numbers_rise}
use Rattle.bx_tree_laws.proofs.Members.{entry_of, names_apart}
use Rattle.bx_tree_laws.proofs.trees.entries_are_numbered.Goals as goal

pub returns-clause-names : goal.returns-clause-names
returns-clause-names c = λ tree directory file was is. names_apart tree was directory file is

pub returns-clause-rise : goal.returns-clause-rise
returns-clause-rise c = numbers_rise

pub returns-clause-least : goal.returns-clause-least
returns-clause-least c = λ tree directory file entry was is within. (entry_of tree was directory file is entry within).least

pub returns-clause-next : goal.returns-clause-next
returns-clause-next c = λ tree directory file entry was is within. (entry_of tree was directory file is entry within).number

pub returns-clause-good : goal.returns-clause-good
returns-clause-good c = λ tree directory file entry was is within. (entry_of tree was directory file is entry within).name
