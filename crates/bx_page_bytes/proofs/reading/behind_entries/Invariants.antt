use Rattle.std.proofs.Common.{◌≡◌, ◌-◌, None}
use Rattle.std.specs.Option.{option_copied}
use Rattle.bx_page_bytes.specs.Checks.{rest_behind}
use Rattle.bx_page_bytes.proofs.reading.behind_entries.Given as goal

abbrev pub invariant-loop : goal.invariant-loop
invariant-loop l = rest_behind l.level (option_copied l.high) (l.count - l.counter) (option_copied l.before) l.rest ≡ rest_behind l.level (option_copied l.high) l.count None l.bytes
