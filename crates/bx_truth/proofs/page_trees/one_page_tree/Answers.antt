use Rattle.bx_truth.proofs.OneTree.{one_map, same_pages}
use Rattle.bx_truth.proofs.page_trees.one_page_tree.Goals as goal

pub returns-clause-map : goal.returns-clause-map
returns-clause-map c = one_map

pub returns-clause-pages : goal.returns-clause-pages
returns-clause-pages c = same_pages
