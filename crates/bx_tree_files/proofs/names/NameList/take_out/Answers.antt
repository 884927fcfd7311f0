use Rattle.std.proofs.Common.{◌≡◌, ℕ, List, Some, ◌∙◌, sym, ap}
use Rattle.std.specs.Map.{values_of}
use Rattle.bx_tree_files.specs.declared.file.Name.{Name}
use Rattle.bx_tree_files.specs.Entries.{entry_named, without_name}
use Rattle.bx_tree_parts.specs.NameIndex.{number_in}
use Rattle.bx_tree_files.proofs.Named.{apart_taken, not_found, seen_taken, without_none}
use Rattle.bx_tree_files.proofs.Numbered.{num, taken}
use Rattle.bx_tree_files.proofs.names.NameList.take_out.Goals as goal
use Rattle.bx_tree_files.proofs.names.NameList.take_out.Goals.{in-Some-1, in-None-1}

pub invariant_of-self : goal.invariant_of-self
invariant_of-self c =
    let found : num (entry_named (values_of c.self.inside.by_number.entries) c.args.name.now) ≡ Some c.in-Some.number =
    sym (c.self.invariant.indexed c.args.name.now) ∙ sym c.in-Some.ensures.was in
    record {
      apart = rw c.remove.ensures.entries (apart_taken _ c.self.inside.by_number.entries c.self.invariant.apart);
      rise = c.remove.ensures.ordered;
      indexed = λ name.
          taken c.self.inside.by_number.entries c.args.name.now c.in-Some.number (number_in c.self.inside.numbers) (number_in c.take.new.self) c.self.invariant.apart c.self.invariant.rise
          found c.self.invariant.indexed c.take.ensures.gone name
          ∙ ap (λ (entries : List (ℕ × Name)). num (entry_named (values_of entries) name)) (sym c.remove.ensures.entries);
    }

pub invariant_of-self-in-Some-2 : goal.invariant_of-self-in-Some-2
invariant_of-self-in-Some-2 c =
    let found : num (entry_named (values_of c.self.inside.by_number.entries) c.args.name.now) ≡ Some c.in-Some.number =
    sym (c.self.invariant.indexed c.args.name.now) ∙ sym c.in-Some.ensures.was in
    record {
      apart = rw c.remove.ensures.entries (apart_taken _ c.self.inside.by_number.entries c.self.invariant.apart);
      rise = c.remove.ensures.ordered;
      indexed = λ name.
          taken c.self.inside.by_number.entries c.args.name.now c.in-Some.number (number_in c.self.inside.numbers) (number_in c.take.new.self) c.self.invariant.apart c.self.invariant.rise
          found c.self.invariant.indexed c.take.ensures.gone name
          ∙ ap (λ (entries : List (ℕ × Name)). num (entry_named (values_of entries) name)) (sym c.remove.ensures.entries);
    }

pub returns-in-Some : goal.returns-in-Some
returns-in-Some c =
    let found : num (entry_named (values_of c.self.inside.by_number.entries) c.args.name.now) ≡ Some c.in-Some.number =
    sym (c.self.invariant.indexed c.args.name.now) ∙ sym c.in-Some.ensures.was in
    let as_seen : values_of c.remove.new.self.entries ≡ without_name c.args.self.now c.args.name.now =
    ap values_of c.remove.ensures.entries
    ∙ seen_taken c.self.inside.by_number.entries c.args.name.now c.in-Some.number c.self.invariant.apart c.self.invariant.rise found
    ∙ ap (λ (names : List Name). without_name names c.args.name.now) c.self.view_is in
    elim c.match-remove.branch [ in-Some-1 w ↦ w.self-is ∙ as_seen | in-None-1 w ↦ w.self-is ∙ as_seen ]

pub returns-in_default : goal.returns-in_default
returns-in_default c =
    c.self.view_is
    ∙ sym (without_none c.args.self.now c.args.name.now (not_found c.args.self.now c.args.name.now (ap (λ (names : List Name). num (entry_named names c.args.name.now)) (sym c.self.view_is)
    ∙ sym (c.self.invariant.indexed c.args.name.now) ∙ sym c.take.ensures.was ∙ c.in_default.is)))
