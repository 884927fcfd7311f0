use Rattle.std.proofs.Common.{◌≡◌, ◌∙◌, ap}
use Rattle.bx_calls.specs.Calls.{KeepsAll, LeavesOnly}
use Rattle.bx_disk.specs.Disks.{IsImage}
use Rattle.bx_facts.specs.Writes.{label_on}
use Rattle.bx_mirror_member.specs.Standing.{MemberView, disk_in}
use Rattle.bx_mirror_server.proofs.Places.{had_own}
use Rattle.bx_mirror_server.proofs.server.MirrorServer.restart.Goals as goal

pub returns-in_err-label_own-clause-had_label : goal.returns-in_err-label_own-clause-had_label
returns-in_err-label_own-clause-had_label g c = λ tells.
    let label_is : c.label-label.result ≡ label_on c.args.self.now.made (disk_in c.args.self.now) = c.label-label.ensures.is ∙ ap (λ (k : MemberView). label_on k.made (disk_in k)) c.start.ensures ∙ ap (λ (k : MemberView). label_on k.made (disk_in k)) c.self.view_is in
    let disk_is : c.disk.result ≡ disk_in c.args.self.now = c.disk.ensures ∙ ap disk_in c.start.ensures ∙ ap disk_in c.self.view_is in
    had_own (g.R.Rack.state c.args.rack.now) c.label-label.result (label_on c.args.self.now.made (disk_in c.args.self.now)) c.disk.result (disk_in c.args.self.now) label_is disk_is
    (λ d. KeepsAll (g.R.Rack.state c.args.rack.now) (g.R.Rack.state c.label_own.new.rack) d) (c.label_own.ensures.had_label tells)

pub returns-clause-had_label : goal.returns-clause-had_label
returns-clause-had_label g c = λ tells.
    let label_is : c.label-label.result ≡ label_on c.args.self.now.made (disk_in c.args.self.now) = c.label-label.ensures.is ∙ ap (λ (k : MemberView). label_on k.made (disk_in k)) c.start.ensures ∙ ap (λ (k : MemberView). label_on k.made (disk_in k)) c.self.view_is in
    let disk_is : c.disk.result ≡ disk_in c.args.self.now = c.disk.ensures ∙ ap disk_in c.start.ensures ∙ ap disk_in c.self.view_is in
    had_own (g.R.Rack.state c.args.rack.now) c.label-label.result (label_on c.args.self.now.made (disk_in c.args.self.now)) c.disk.result (disk_in c.args.self.now) label_is disk_is
    (λ d. KeepsAll (g.R.Rack.state c.args.rack.now) (g.R.Rack.state c.label_own.new.rack) d) (c.label_own.ensures.had_label tells)

pub returns-in_err-label_own-clause-had_moment : goal.returns-in_err-label_own-clause-had_moment
returns-in_err-label_own-clause-had_moment g c = λ tells.
    let label_is : c.label-label.result ≡ label_on c.args.self.now.made (disk_in c.args.self.now) = c.label-label.ensures.is ∙ ap (λ (k : MemberView). label_on k.made (disk_in k)) c.start.ensures ∙ ap (λ (k : MemberView). label_on k.made (disk_in k)) c.self.view_is in
    let disk_is : c.disk.result ≡ disk_in c.args.self.now = c.disk.ensures ∙ ap disk_in c.start.ensures ∙ ap disk_in c.self.view_is in
    had_own (g.R.Rack.state c.args.rack.now) c.label-label.result (label_on c.args.self.now.made (disk_in c.args.self.now)) c.disk.result (disk_in c.args.self.now) label_is disk_is
    (λ d. LeavesOnly (g.R.Rack.moment c.args.rack.now) (g.R.Rack.moment c.label_own.new.rack) (g.R.Rack.left_since c.args.rack.now) (g.R.Rack.left_since c.label_own.new.rack) (IsImage (g.R.Rack.state c.args.rack.now)))
    (c.label_own.ensures.had_moment tells)

pub returns-clause-had_moment : goal.returns-clause-had_moment
returns-clause-had_moment g c = λ tells.
    let label_is : c.label-label.result ≡ label_on c.args.self.now.made (disk_in c.args.self.now) = c.label-label.ensures.is ∙ ap (λ (k : MemberView). label_on k.made (disk_in k)) c.start.ensures ∙ ap (λ (k : MemberView). label_on k.made (disk_in k)) c.self.view_is in
    let disk_is : c.disk.result ≡ disk_in c.args.self.now = c.disk.ensures ∙ ap disk_in c.start.ensures ∙ ap disk_in c.self.view_is in
    had_own (g.R.Rack.state c.args.rack.now) c.label-label.result (label_on c.args.self.now.made (disk_in c.args.self.now)) c.disk.result (disk_in c.args.self.now) label_is disk_is
    (λ d. LeavesOnly (g.R.Rack.moment c.args.rack.now) (g.R.Rack.moment c.label_own.new.rack) (g.R.Rack.left_since c.args.rack.now) (g.R.Rack.left_since c.label_own.new.rack) (IsImage (g.R.Rack.state c.args.rack.now)))
    (c.label_own.ensures.had_moment tells)
