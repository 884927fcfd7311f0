use Rattle.std.proofs.Common.{◌≡◌, ℕ, List, [], ◌∷◌, ◌++◌, None, ◌∙◌, refl, sym, ap}
use Rattle.std.specs.Map.{values_of}
use Rattle.bx_tree_files.specs.declared.file.Name.{Name}
use Rattle.bx_tree_files.specs.Entries.{entry_named, with_name}
use Rattle.bx_tree_parts.specs.NameIndex.{number_in}
use Rattle.bx_tree_files.proofs.Named.{apart_inserted, seen_last}
use Rattle.bx_tree_files.proofs.Numbered.{num, pushed}
use Rattle.bx_tree_files.proofs.names.NameList.push.Goals as goal

pub invariant_of-self-in-Ok : goal.invariant_of-self-in-Ok
invariant_of-self-in-Ok c =
    let entry : Name = record { number = c.args.number; name = c.in_ok-of.field-0; handle = c.args.handle } in
    let below = rw (← c.self.view_is) at c.requires.below in
    let missing = rw (← c.self.view_is) at c.requires.apart in
    let none : entry_named (values_of c.self.inside.by_number.entries) entry.name ≡ None = rw c.in_ok-of.ensures missing in
    record {
      apart = rw c.in-Ok.ensures.entries (apart_inserted c.self.inside.by_number.entries c.args.number entry refl below c.self.invariant.apart none);
      rise = c.in-Ok.ensures.ordered;
      indexed = λ name.
          pushed c.self.inside.by_number.entries entry c.args.name.now (number_in c.self.inside.numbers) (number_in c.put.new.self) c.in_ok-of.ensures below c.self.invariant.apart none
          c.self.invariant.indexed c.in_ok-put.ensures.ok name
          ∙ ap (λ (entries : List (ℕ × Name)). num (entry_named (values_of entries) name)) (sym c.in-Ok.ensures.entries);
    }

pub returns-in-Ok-clause-ok : goal.returns-in-Ok-clause-ok
returns-in-Ok-clause-ok c =
    let entry : Name = record { number = c.args.number; name = c.in_ok-of.field-0; handle = c.args.handle } in
    let below = rw (← c.self.view_is) at c.requires.below in
    ap values_of c.in-Ok.ensures.entries
    ∙ seen_last c.self.inside.by_number.entries c.args.number entry below c.self.invariant.apart
    ∙ ap (λ (names : List Name). names ++ entry ∷ []) c.self.view_is
    ∙ ap (λ (name : List ℕ). with_name c.args.self.now c.args.number name c.args.handle) c.in_ok-of.ensures
