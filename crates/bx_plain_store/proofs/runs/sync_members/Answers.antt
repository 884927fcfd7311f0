use Rattle.std.proofs.Common.{arith}
use Rattle.bx_members.proofs.Kept.{leaves_next, same_then}
use Rattle.bx_plain_store.proofs.Standing.{keeps_disks, sure_more}
use Rattle.bx_plain_store.proofs.runs.sync_members.Goals as goal

pub returns-in_err-sync_both-clause-any_moment : goal.returns-in_err-sync_both-clause-any_moment
returns-in_err-sync_both-clause-any_moment g c = λ writes greatest tells.
    let inv = c.loop-device.invariant in
    leaves_next _ _ _ _ _ _ _ _ _ _ (inv.any_moment writes greatest tells) (keeps_disks writes greatest _ _ (inv.keeps tells)) (c.sync_both.ensures.any_moment writes greatest (inv.rack.keeps_telling tells))

pub loop-device-preserved : goal.loop-device-preserved
loop-device-preserved g c =
    let inv = c.loop-device.invariant in
    record {
      sure = λ device sector second tells less.
          sure_more (g.R.Rack.state c.loop-device.rack) (g.R.Rack.state c.sync_both.new.rack) c.loop-device.device (c.sync_both.ensures.keeps (inv.rack.keeps_telling tells))
          (λ at place which. inv.sure at place which tells)
          (λ at which. c.in_ok-sync_both.ensures.sure which at (inv.rack.keeps_telling tells))
          device sector second less;
      keeps = λ tells. same_then _ _ _ (inv.keeps tells) (c.sync_both.ensures.keeps (inv.rack.keeps_telling tells));
      any_moment = λ writes greatest tells.
          leaves_next _ _ _ _ _ _ _ _ _ _ (inv.any_moment writes greatest tells) (keeps_disks writes greatest _ _ (inv.keeps tells)) (c.sync_both.ensures.any_moment writes greatest (inv.rack.keeps_telling tells));
      rack = grind arith;
    }
