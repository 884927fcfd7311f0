use Rattle.std.proofs.Common.{◌≡◌, ℕ, ◌<◌, ◌≤◌, ◌⊎◌, false, true, length, Some, None, Ok}
use Rattle.bx_disk.specs.Kept.{Fails}
use Rattle.bx_calls.specs.Calls.{LeavesOnly}
use Rattle.bx_facts.specs.Writes.{IsDone, IsOver, IsSettled, Sent}
use Rattle.bx_global.specs.declared.state.GlobalState.{GlobalState}
use Rattle.bx_members.specs.Members.{KeepsMembers, HasMembers}
use Rattle.bx_plain_store.specs.Out.{AreApart, AreWritten, KeepsReplicas, at, out_at, outs, sent_of}
use Rattle.bx_plain_store.specs.declared.writes.Write.{Write}
use Rattle.bx_plain_store.proofs.writes.serve_all.Given as goal

abbrev pub invariant-loop-i : goal.invariant-loop-i
invariant-loop-i g l = record {
  rest : (j : ℕ) → l.i ≤ j → at l.slots.items j ≡ at l.fn.slots.items j;
  long : length l.slots.items ≡ length l.fn.slots.items;
  keeps : g.R.Rack.tells l.fn.rack → AreApart l.greatest l.fn.slots.items → KeepsMembers (outs l.fn.slots.items) l.greatest (g.R.Rack.state l.fn.rack) (g.R.Rack.state l.rack);
  any_moment : g.R.Rack.tells l.fn.rack → AreApart l.greatest l.fn.slots.items → LeavesOnly (g.R.Rack.moment l.fn.rack) (g.R.Rack.moment l.rack) (g.R.Rack.left_since l.fn.rack) (g.R.Rack.left_since l.rack) (HasMembers (outs l.fn.slots.items) l.greatest (g.R.Rack.state l.fn.rack));
  not_over : (node : ℕ) (sent : Sent) → out_at l.fn.slots.items node ≡ Some sent → out_at l.slots.items node ≡ None → IsOver l.greatest sent → ⊥;
  done : (node : ℕ) (sent : Sent) (s : GlobalState) → g.R.Rack.tells l.fn.rack → AreApart l.greatest l.fn.slots.items → out_at l.fn.slots.items node ≡ Some sent → out_at l.slots.items node ≡ None → length s.devices ≡ l.devices → IsDone (λ device sector content index. IsSettled (g.R.Rack.state l.rack) s device sector content) 0 sent;
  first : (node : ℕ) (write : Write) → node < l.i → at l.fn.slots.items node ≡ Some write → (IsOver l.greatest (sent_of write) → ⊥) → write.is_written ≡ false → at l.slots.items node ≡ Some (record write { is_written = true });
  second : (node : ℕ) (write : Write) → node < l.i → at l.fn.slots.items node ≡ Some write → (IsOver l.greatest (sent_of write) → ⊥) → write.is_written ≡ true → at l.slots.items node ≡ None;
  over : (node : ℕ) (write : Write) → node < l.i → at l.fn.slots.items node ≡ Some write → IsOver l.greatest (sent_of write) → at l.slots.items node ≡ Some write;
  written : (node : ℕ) (write : Write) → node < l.i → g.R.Rack.tells l.fn.rack → AreApart l.greatest l.fn.slots.items → at l.fn.slots.items node ≡ Some write → (IsOver l.greatest (sent_of write) → ⊥) → AreWritten (g.R.Rack.state l.rack) write.runs (length write.runs);
  out : (node : ℕ) → (out_at l.slots.items node ≡ None) ⊎ (out_at l.slots.items node ≡ out_at l.fn.slots.items node);
  replicas : g.R.Rack.tells l.fn.rack → KeepsReplicas (g.R.Rack.state l.fn.rack) (g.R.Rack.state l.rack);
  rack : Fails {A = Unit {0}} g.R.Rack l.fn.rack l.rack (Ok tt);
}
