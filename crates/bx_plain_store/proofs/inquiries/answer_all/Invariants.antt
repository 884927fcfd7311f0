use Rattle.std.proofs.Common.{◌≡◌, ℕ, ◌<◌, ◌≤◌, length, Some, IsSome, Ok}
use Rattle.bx_disk.specs.Kept.{Counted}
use Rattle.bx_facts.specs.declared.input.FactError.TheVariants.{Disk as DiskFails}
use Rattle.bx_disk.specs.Disks.{IsImage}
use Rattle.bx_calls.specs.Calls.{LeavesOnly}
use Rattle.bx_facts.specs.Writes.{Asked}
use Rattle.bx_plain_store.specs.Out.{at}
use Rattle.bx_plain_store.specs.Parts.{IsAnswered, answer_at, asked_at}
use Rattle.bx_plain_store.proofs.inquiries.answer_all.Given as goal

abbrev pub invariant-loop-i : goal.invariant-loop-i
invariant-loop-i g l = record {
  rest : (j : ℕ) → l.i ≤ j → at l.inquiries.items j ≡ at l.fn.inquiries.items j;
  long : length l.inquiries.items ≡ length l.fn.inquiries.items;
  each : (node : ℕ) → g.R.Rack.tells l.fn.rack → IsAnswered (g.R.Rack.state l.fn.rack) l.known (at l.fn.inquiries.items node) (at l.inquiries.items node);
  asks : (node : ℕ) → asked_at l.inquiries.items node ≡ asked_at l.fn.inquiries.items node;
  there : (node : ℕ) (asks : Asked) → node < l.i → asked_at l.fn.inquiries.items node ≡ Some asks → asks.device < length l.known.devices → IsSome (answer_at l.inquiries.items node);
  stays : g.R.Rack.tells l.fn.rack → g.R.Rack.state l.rack ≡ g.R.Rack.state l.fn.rack;
  any_moment : g.R.Rack.tells l.fn.rack → LeavesOnly (g.R.Rack.moment l.fn.rack) (g.R.Rack.moment l.rack) (g.R.Rack.left_since l.fn.rack) (g.R.Rack.left_since l.rack) (IsImage (g.R.Rack.state l.fn.rack));
  rack : Counted {A = Unit {0}} g.R.Rack l.fn.rack l.rack (Ok tt) DiskFails;
}
