use Rattle.std.proofs.Common.{ℕ, List, sym, subst, arith}
use Rattle.std.specs.Prelude.{IfSome, IfNone}
use Rattle.bx_records.specs.declared.record_head.RecordHead.{RecordHead}
use Rattle.bx_records.specs.Records.{SpellsHead}
use Rattle.bx_homes.proofs.Sectors.{sector_read}
use Rattle.bx_logs.proofs.record.read_head.Goals as goal

pub returns-clause-some : goal.returns-clause-some
returns-clause-some g c = λ tells.
    let here = sector_read (g.R.Rack.state c.args.rack.now).reads c.args.disk c.args.sector c.read_sectors.new.into (omega (arith, c.read_sectors.auto.into)) (c.in_ok-read_sectors.ensures.bytes tells) in
    subst (λ (bytes : List ℕ). IfSome c.in_ok-found.found (λ head. SpellsHead head bytes)) (sym here) c.in_ok-found.ensures.some

pub returns-clause-none : goal.returns-clause-none
returns-clause-none g c = λ tells.
    let here = sector_read (g.R.Rack.state c.args.rack.now).reads c.args.disk c.args.sector c.read_sectors.new.into (omega (arith, c.read_sectors.auto.into)) (c.in_ok-read_sectors.ensures.bytes tells) in
    subst (λ (bytes : List ℕ). IfNone c.in_ok-found.found ((head : RecordHead) → SpellsHead head bytes → ⊥)) (sym here) c.in_ok-found.ensures.none
