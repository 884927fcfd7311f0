use Rattle.std.proofs.Common.{ap, ◌∙◌, Option, List, ℕ, Some, None}
use Rattle.std.specs.Prelude.{bytes_eq, if◌then◌else◌}
use Rattle.bx_page.specs.Contents.{with_entry}
use Rattle.bx_truth.specs.Keys.{name_key, name_value, entry_key, entry_value}
use Rattle.bx_truth.specs.PageTrees.{map_without}
use Rattle.bx_truth.proofs.Names.{names_added, names_taken, value_with, value_without}
use Rattle.bx_truth.proofs.directories.an_entry_has_two_keys.Goals as goal

pub returns-clause-added : goal.returns-clause-added
returns-clause-added c = λ map names name are number_fits handle_fits above absent.
    names_added map (with_entry (with_entry map (name_key name.name) (name_value name.number name.handle)) (entry_key name.number) (entry_value name.handle name.name)) names name are number_fits handle_fits above absent
    (λ key. value_with (with_entry map (name_key name.name) (name_value name.number name.handle)) (entry_key name.number) (entry_value name.handle name.name) key
    ∙ ap (λ (o : Option (List ℕ)). if bytes_eq key (entry_key name.number) then Some (entry_value name.handle name.name) else o) (value_with map (name_key name.name) (name_value name.number name.handle) key))

pub returns-clause-taken : goal.returns-clause-taken
returns-clause-taken c = λ map names left name are within left_are left_all left_rise.
    names_taken map (map_without (map_without map (name_key name.name)) (entry_key name.number)) names left name are within left_are left_all left_rise
    (λ key. value_without (map_without map (name_key name.name)) (entry_key name.number) key
    ∙ ap (λ (o : Option (List ℕ)). if bytes_eq key (entry_key name.number) then None else o) (value_without map (name_key name.name) key))
