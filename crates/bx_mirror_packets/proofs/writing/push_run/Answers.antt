use Rattle.std.proofs.Common.{ℕ, ◌≡◌, ◌/◌, List, ◌++◌, length, subst}
use Rattle.std.specs.Int.{w32, w64, to_be_bytes}
use Rattle.bx_rows.proofs.Pushed.{on_ok, three}
use Rattle.bx_mirror_packets.specs.DeviceMessages.{run_text}
use Rattle.bx_mirror_packets.proofs.writing.push_run.Goals as goal

pub returns : goal.returns
unfolding run_text
returns c =
    let bytes = c.bytes-bytes.result.now in
    on_ok c.push.result _ _
    (λ e. subst (λ (text : List ℕ). c.push.new.out.items ≡ c.args.out.now.items ++ (to_be_bytes w64 c.args.run.now.place ++ (to_be_bytes w32 (length text / 512) ++ text))) c.bytes-bytes.ensures
    (three c.args.out.now.items (to_be_bytes w64 c.args.run.now.place) (to_be_bytes w32 (length bytes / 512)) bytes _ _ _ c.in_ok-push_u64.ensures.ok c.in_ok-push_u32.ensures.ok e)) c.push.ensures.ok
