use Rattle.std.proofs.Common.{◌≡◌, ℕ, List, arith, map, sym, ap, subst, ◌∙◌, take}
use Rattle.std.proofs.lemmas.List.{length-take-le}
use Rattle.bx_records.specs.declared.record_head.RecordHead.{RecordHead}
use Rattle.bx_records.specs.Records.{SpellsHead}
use Rattle.bx_logs.specs.bx_homes.proofs.Sectors.{not_both, of_none, of_some}
use Rattle.bx_logs.specs.Bodies.{AreNumbers, StandOn}
use Rattle.bx_logs.proofs.Pieces.{blocks_there, head_there, numbers_there, record_there}
use Rattle.bx_redo.specs.bx_volume.specs.Records.{Logged}
use Rattle.bx_recover.specs.Bodies.{IsRecordIn, held_in}
use Rattle.bx_recover.proofs.Slices.{first_sector}
use Rattle.bx_recover.proofs.bodies.read_record.Goals as goal

-- the header of a record that the bytes begin with
headed : (areas : ℕ) (bytes : List ℕ) (logged : Logged) → IsRecordIn areas bytes logged → SpellsHead logged.head (take 512 bytes)
headed areas bytes logged at = subst (SpellsHead logged.head) (first_sector bytes) (head_there (held_in bytes) 0 0 areas logged at)

pub returns-in_default-clause-none : goal.returns-in_default-clause-none
returns-in_default-clause-none c = λ logged at. of_none c.in_ok-head.field-0 c.in_default.is c.in_ok-head.ensures.none logged.head (headed c.args.areas c.args.bytes.now logged at)

pub returns-then-not-are_numbers-clause-none : goal.returns-then-not-are_numbers-clause-none
returns-then-not-are_numbers-clause-none c = λ logged at.
    let bytes = c.args.bytes.now in
    let spells = of_some _ c.in_ok-head.field-0 c.in-Some.head c.in-Some.is c.in_ok-head.ensures.some in
    let same = c.one_reading.ensures logged.head c.in-Some.head (take 512 bytes) (headed c.args.areas bytes logged at) spells in
    let are = subst (AreNumbers c.args.areas) (ap (λ (head : RecordHead). head.blocks) same ∙ sym c.items.ensures) (numbers_there (held_in bytes) 0 0 c.args.areas logged at) in
    not_both c.are_numbers.result (c.are_numbers.ensures.1 are) c.if-not-are_numbers.true

pub returns-in-Some-2-clause-some : goal.returns-in-Some-2-clause-some
returns-in-Some-2-clause-some c =
    let bytes = c.args.bytes.now in
    let stand = of_some (StandOn (held_in bytes) 0 1) c.in_ok-changed.field-0 c.in-Some-2.changed c.in-Some-2.is c.in_ok-changed.ensures.some in
    subst (IsRecordIn c.args.areas bytes) (sym c.new.ensures)
    (record_there (held_in bytes) 0 0 c.args.areas (record { head = c.in-Some.head; changed = c.in-Some-2.changed })
    (subst (SpellsHead c.in-Some.head) (sym (first_sector bytes)) (of_some (λ head. SpellsHead head (take 512 bytes)) c.in_ok-head.field-0 c.in-Some.head c.in-Some.is c.in_ok-head.ensures.some))
    (subst (AreNumbers c.args.areas) c.items.ensures (c.are_numbers.ensures.0 c.if-not-are_numbers.false))
    (of_some (λ changed. map (λ change. change.0) changed ≡ c.items-2.result.now) c.in_ok-changed.field-0 c.in-Some-2.changed c.in-Some-2.is c.in_ok-changed.ensures.numbers ∙ c.items-2.ensures)
    stand)

pub returns-in-None-clause-none : goal.returns-in-None-clause-none
returns-in-None-clause-none c = λ logged at.
    let bytes = c.args.bytes.now in
    let spells = of_some _ c.in_ok-head.field-0 c.in-Some.head c.in-Some.is c.in_ok-head.ensures.some in
    let same = c.one_reading.ensures logged.head c.in-Some.head (take 512 bytes) (headed c.args.areas bytes logged at) spells in
    let gap = of_none c.in_ok-changed.field-0 c.in-None.is c.in_ok-changed.ensures.none in
    gap logged.changed (sym at.is.numbers ∙ ap (λ (head : RecordHead). head.blocks) same ∙ sym c.items-2.ensures) (blocks_there (held_in bytes) 0 0 c.args.areas logged at)

pub slice_bounds-read-end : goal.slice_bounds-read-end
slice_bounds-read-end c = sym (length-take-le 512 c.args.bytes.now (omega (arith, c.requires)))
