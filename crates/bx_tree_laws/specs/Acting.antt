-- What a step of a tree is, and which calls it takes.
use Rattle.std.specs.Prelude.{◌≡◌, ◌^◌, ◌<◌, List, [], ◌∷◌, length}
use Rattle.bx_model.specs.declared.call.Args.{Args}
use Rattle.bx_model.specs.declared.call.Args.TheVariants as args
use Rattle.bx_model.specs.declared.entry.Entry.{Entry}
use Rattle.bx_model.specs.declared.tree.Tree.{Tree}
use Rattle.bx_model.specs.History.{IsStep}

-- A link's path is below 2 GiB, as the content of every file is. On the wire a path has at most 1024 bytes.
abbrev pub PathFits : Args → Type 0
PathFits (args.Symlink at name path sattr) = length path < 2 ^ 31
PathFits _ = Unit {0}

-- steps that lead from one tree to another
abbrev pub AreSteps : Tree → List Entry → Tree → Type 0
AreSteps tree [] last = tree ≡ last
AreSteps tree (entry ∷ entries) last = (next : Tree) × IsStep tree entry next × PathFits entry.what.args × AreSteps next entries last
