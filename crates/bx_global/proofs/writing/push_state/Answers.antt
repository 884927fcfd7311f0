use Rattle.bx_rows.specs.Spelling.{sessions_text, devices_text}
use Rattle.bx_global.specs.Bytes.{heads_text, state_text}
use Rattle.bx_rows.proofs.Pushed.{on_ok, three}
use Rattle.bx_global.proofs.writing.push_state.Goals as goal

pub returns : goal.returns
unfolding state_text
returns c =
    let x = c.args.state.now in
    on_ok c.push_devices.result _ _ (three c.args.out.now.items (heads_text x) (sessions_text x.sessions) (devices_text x.devices) _ _ _ c.in_ok-push_heads.ensures (rw c.items.ensures at c.in_ok-push_sessions.ensures)) (rw c.items-2.ensures at c.push_devices.ensures)
