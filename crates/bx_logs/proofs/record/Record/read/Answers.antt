use Rattle.std.proofs.Common.{◌≡◌, ◌+◌, map, sym, ap, subst, ◌∙◌}
use Rattle.bx_disk.specs.Disks.{Disks}
use Rattle.bx_records.specs.declared.record_head.RecordHead.{RecordHead}
use Rattle.bx_records.specs.Records.{SpellsHead}
use Rattle.bx_homes.proofs.Sectors.{not_both, of_none, of_some}
use Rattle.bx_logs.specs.Bodies.{AreNumbers, IsGap, StandOn}
use Rattle.bx_logs.proofs.Pieces.{blocks_there, head_there, numbers_there, record_there}
use Rattle.bx_logs.proofs.record.Record.read.Goals as goal

pub returns-in_default-clause-none : goal.returns-in_default-clause-none
returns-in_default-clause-none g c = λ tells logged at.
    of_none c.in_ok-head.field-0 c.in_default.is (c.in_ok-head.ensures.none tells) logged.head (head_there (g.R.Rack.state c.args.rack.now).reads c.args.disk c.args.sector c.args.areas logged at)

pub returns-then-not-are_numbers-clause-none : goal.returns-then-not-are_numbers-clause-none
returns-then-not-are_numbers-clause-none g c = λ tells logged at.
    let image = (g.R.Rack.state c.args.rack.now).reads in
    let spells = of_some _ c.in_ok-head.field-0 c.in-Some.head c.in-Some.is (c.in_ok-head.ensures.some tells) in
    let same = c.one_reading.ensures logged.head c.in-Some.head (image c.args.disk c.args.sector) (head_there image c.args.disk c.args.sector c.args.areas logged at) spells in
    let are = subst (AreNumbers c.args.areas) (ap (λ (head : RecordHead). head.blocks) same ∙ sym c.items.ensures) (numbers_there image c.args.disk c.args.sector c.args.areas logged at) in
    not_both c.are_numbers.result (c.are_numbers.ensures.1 are) c.if-not-are_numbers.true

pub returns-in-Some-found-clause-some : goal.returns-in-Some-found-clause-some
returns-in-Some-found-clause-some g c = λ tells.
    let image = (g.R.Rack.state c.args.rack.now).reads in
    let told = c.in_ok-head.ensures.rack.keeps_telling tells in
    let stand = of_some (StandOn (g.R.Rack.state c.read_head.new.rack).reads c.args.disk (c.args.sector + 1)) c.in_ok-found.found c.in-Some-found.changed c.in-Some-found.is (c.in_ok-found.ensures.some told) in
    rw c.new.ensures (
    record_there image c.args.disk c.args.sector c.args.areas (record { head = c.in-Some.head; changed = c.in-Some-found.changed })
    (of_some (λ head. SpellsHead head (image c.args.disk c.args.sector)) c.in_ok-head.field-0 c.in-Some.head c.in-Some.is (c.in_ok-head.ensures.some tells))
    (subst (AreNumbers c.args.areas) c.items.ensures (c.are_numbers.ensures.0 c.if-not-are_numbers.false))
    (of_some (λ changed. map (λ change. change.0) changed ≡ c.items-2.result.now) c.in_ok-found.found c.in-Some-found.changed c.in-Some-found.is c.in_ok-found.ensures.numbers ∙ c.items-2.ensures)
    (subst (λ (s : Disks). StandOn s.reads c.args.disk (c.args.sector + 1) c.in-Some-found.changed) c.in_ok-head.ensures.stays stand))

pub returns-in-None-clause-none : goal.returns-in-None-clause-none
returns-in-None-clause-none g c = λ tells logged at.
    let image = (g.R.Rack.state c.args.rack.now).reads in
    let told = c.in_ok-head.ensures.rack.keeps_telling tells in
    let spells = of_some _ c.in_ok-head.field-0 c.in-Some.head c.in-Some.is (c.in_ok-head.ensures.some tells) in
    let same = c.one_reading.ensures logged.head c.in-Some.head (image c.args.disk c.args.sector) (head_there image c.args.disk c.args.sector c.args.areas logged at) spells in
    let gap = subst (λ (s : Disks). IsGap s.reads c.args.disk (c.args.sector + 1) c.items-2.result.now) c.in_ok-head.ensures.stays (of_none c.in_ok-found.found c.in-None.is (c.in_ok-found.ensures.none told)) in
    gap logged.changed (sym at.is.numbers ∙ ap (λ (head : RecordHead). head.blocks) same ∙ sym c.items-2.ensures) (blocks_there image c.args.disk c.args.sector c.args.areas logged at)
