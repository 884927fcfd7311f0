use Rattle.std.proofs.Common.{[], Some}
use Rattle.bx_rows.proofs.Pushed.{on_ok}
use Rattle.bx_mirror_client.proofs.StoreKinds.{sends_writes}
use Rattle.bx_mirror_client.proofs.client.MirrorClient.write.Goals as goal

pub returns-clause-sent : goal.returns-clause-sent
returns-clause-sent c =
    on_ok c.send_writes.result _ _
    (λ e. sends_writes [] c.sender.result.node (Some (record { session = c.in-Some.session; sequence = c.next_number-sequence.result; until = c.args.until; runs = c.in_ok-copied.field-0; acks = c.new.result })) c.items.result.now c.args.out.now c.send_writes.new.out e)
    c.send_writes.ensures
