use Rattle.std.proofs.Common.{[]}
use Rattle.bx_rows.proofs.Pushed.{on_ok}
use Rattle.bx_mirror_client.specs.Streams.{learned}
use Rattle.bx_mirror_client.proofs.StoreKinds.{sends_since, sends_twice}
use Rattle.bx_mirror_client.proofs.client.MirrorClient.take.Goals as goal

pub returns-in-Packet-clause-sent : goal.returns-in-Packet-clause-sent
returns-in-Packet-clause-sent c =
    on_ok c.take_packet.result _ _ (λ e. sends_since c.args.self.now.rows (learned c.args.known.now c.args.self.now) c.args.out.now c.learn.new.out c.in_ok-learn.ensures.sends) c.take_packet.ensures

pub returns-in-Tick-clause-sent : goal.returns-in-Tick-clause-sent
returns-in-Tick-clause-sent c =
    on_ok c.send_since.result _ _
    (λ e. sends_twice c.args.self.now.rows [] (learned c.args.known.now c.args.self.now) c.learn.new.self c.args.out.now c.learn.new.out c.send_since.new.out c.in_ok-learn.ensures.sends e) c.send_since.ensures

pub returns-in-Synced-clause-sent : goal.returns-in-Synced-clause-sent
returns-in-Synced-clause-sent c = sends_since c.args.self.now.rows (learned c.args.known.now c.args.self.now) c.args.out.now c.learn.new.out c.in_ok-learn.ensures.sends
