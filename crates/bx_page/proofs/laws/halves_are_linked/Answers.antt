use Rattle.std.proofs.Common.{refl, sym, ap, arith}
use Rattle.std.proofs.lemmas.List.{length-take, length-drop, take-append-drop}
use Rattle.std.specs.Option.{option_map}
use Rattle.bx_page.specs.declared.entry.Entry.{Entry}
use Rattle.bx_page.specs.Contents.{half}
use Rattle.bx_page.proofs.Edits.{slice_get-drop}
use Rattle.bx_page.proofs.laws.halves_are_linked.Goals as goal

pub returns-clause-entries : goal.returns-clause-entries
returns-clause-entries c = λ page right. take-append-drop (half page) page.entries

pub returns-clause-shared : goal.returns-clause-shared
returns-clause-shared c = λ page right.
    let n = half page in
    let kept = length-take n page.entries in
    let given = length-drop n page.entries in
    (omega arith, omega arith)

pub returns-clause-high : goal.returns-clause-high
returns-clause-high c = λ page right. (ap (option_map (λ (e : Entry). e.key)) (sym (slice_get-drop page.entries (half page))), refl)
