use Rattle.bx_mirror_server.specs.Working.{Nothing}
use Rattle.bx_mirror_server.proofs.Working.{works_synced}
use Rattle.bx_mirror_member.specs.Standing.{disk_in, room_in}
use Rattle.bx_calls.specs.Calls.{KeepsAll}
use Rattle.std.proofs.Common.{◌≡◌, ℕ, refl, ◌∙◌, ap, subst}
use Rattle.bx_mirror_server.proofs.server.MirrorServer.take_sync.Goals as goal

pub returns-in_err-sync_disk-clause-works : goal.returns-in_err-sync_disk-clause-works
returns-in_err-sync_disk-clause-works g c =
    let disk_is : c.disk.result ≡ disk_in c.args.self.now = c.disk.ensures ∙ ap disk_in c.self.view_is in
    works_synced g.R.Rack c.args.rack.now c.sync_disk.new.rack (disk_in c.args.self.now) (room_in c.args.self.now) Nothing refl
    (λ tells. subst (λ (d : ℕ). KeepsAll (g.R.Rack.state c.args.rack.now) (g.R.Rack.state c.sync_disk.new.rack) d) disk_is (c.sync_disk.ensures.keeps tells)) c.sync_disk.ensures.any_moment
