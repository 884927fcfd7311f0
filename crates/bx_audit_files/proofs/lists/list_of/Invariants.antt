use Rattle.std.proofs.Common.{◌≡◌, suc, ◌-◌, ◌<◌, take, get_or}
use Rattle.bx_tree_files.specs.declared.file.Name.{Name}
use Rattle.bx_tree_files.specs.Entries.{AreBelow}
use Rattle.bx_audit_files.specs.Lists.{AreListed}
use Rattle.bx_audit_files.proofs.lists.list_of.Given as goal

abbrev pub invariant-loop-name : goal.invariant-loop-name
invariant-loop-name l = record {
  list : l.list ≡ take l.name-index l.names;
  least : AreBelow l.least l.list;
  below : AreBelow l.next l.list;
  listed : AreListed l.next l.list;
  last : (d : Name) → 0 < l.name-index → l.least ≡ suc (get_or l.names (l.name-index - 1) d).number;
  first : l.name-index ≡ 0 → l.least ≡ 0;
}
