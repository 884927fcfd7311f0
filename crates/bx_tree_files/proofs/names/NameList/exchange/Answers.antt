use Rattle.std.proofs.Common.{◌≡◌, ℕ, List, [], ◌∷◌, ◌++◌, ◌∙◌, refl, sym, ap}
use Rattle.std.specs.BTreeMap.{is_at}
use Rattle.std.specs.Map.{remove_entry, values_of}
use Rattle.std.specs.Ordering.{nat_cmp}
use Rattle.bx_tree_files.specs.declared.file.Name.{Name}
use Rattle.bx_tree_files.specs.Entries.{entry_named, with_name, without_name}
use Rattle.bx_tree_parts.specs.NameIndex.{number_in}
use Rattle.bx_tree_files.proofs.Numbered.{exchanged, num}
use Rattle.bx_tree_files.proofs.Replacing.{apart_replaced, seen_replaced}
use Rattle.bx_tree_files.proofs.names.NameList.exchange.Goals as goal

pub invariant_of-self-2 : goal.invariant_of-self-2
invariant_of-self-2 c =
    let entry : Name = record { number = c.args.number; name = c.in_ok-of.field-0; handle = c.args.handle } in
    let below = rw (← c.self.view_is) at c.requires.below in
    let found = rw (← c.self.view_is) at c.requires.there in
    record {
      apart = rw (c.remove.ensures.entries, c.in_ok-insert.ensures.entries) (apart_replaced c.self.inside.by_number.entries c.args.name.now c.args.before c.args.number entry refl c.in_ok-of.ensures below c.self.invariant.apart c.self.invariant.rise found);
      rise = c.remove.ensures.ordered;
      indexed = λ name.
          exchanged c.self.inside.by_number.entries entry c.args.name.now c.args.before (number_in c.self.inside.numbers) (number_in c.change.new.self) c.in_ok-of.ensures below
          c.self.invariant.apart c.self.invariant.rise found c.self.invariant.indexed c.change.ensures name
          ∙ ap (λ (entries : List (ℕ × Name)). num (entry_named (values_of (remove_entry (is_at (nat_cmp c.args.before)) entries)) name)) (sym c.in_ok-insert.ensures.entries)
          ∙ ap (λ (entries : List (ℕ × Name)). num (entry_named (values_of entries) name)) (sym c.remove.ensures.entries);
    }

pub returns-clause-ok : goal.returns-clause-ok
returns-clause-ok c =
    let entry : Name = record { number = c.args.number; name = c.in_ok-of.field-0; handle = c.args.handle } in
    let below = rw (← c.self.view_is) at c.requires.below in
    let found = rw (← c.self.view_is) at c.requires.there in
    let seen : values_of c.remove.new.self.entries ≡ without_name (values_of c.self.inside.by_number.entries) c.args.name.now ++ entry ∷ [] =
    rw (c.remove.ensures.entries, c.in_ok-insert.ensures.entries) (seen_replaced c.self.inside.by_number.entries c.args.name.now c.args.before c.args.number entry below c.self.invariant.apart c.self.invariant.rise found) in
    seen
    ∙ ap (λ (names : List Name). without_name names c.args.name.now ++ entry ∷ []) c.self.view_is
    ∙ ap (λ (name : List ℕ). with_name (without_name c.args.self.now c.args.name.now) c.args.number name c.args.handle) c.in_ok-of.ensures
