use Rattle.std.proofs.Common.{◌≡◌, ℕ, List, ◌++◌, ◌∙◌, subst}
use Rattle.std.specs.Int.{w64, to_be_bytes}
use Rattle.bx_rows.proofs.Pushed.{three}
use Rattle.bx_mirror_packets.specs.DeviceMessages.{head_text, runs_text, write_text}
use Rattle.bx_mirror_packets.specs.Parting.{runs_on, write_of}
use Rattle.bx_mirror_packets.proofs.parting.body_of.Goals as goal

pub returns : goal.returns
unfolding write_text
returns c =
    let head = c.args.head.now in
    c.from.ensures ∙ subst (λ (old : List ℕ). c.push_runs_on.new.out.items ≡ old ++ write_text (write_of head c.args.runs.now.1)) c.new-out.ensures.items
    (three c.new-out.result.items (head_text head.session head.device head.epoch head.sequence) (to_be_bytes w64 head.until) (runs_text (runs_on head.device c.args.runs.now.1)) _ _ _ c.in_ok-push_head.ensures c.in_ok-push_u64.ensures.ok c.in_ok-push_runs_on.ensures)
