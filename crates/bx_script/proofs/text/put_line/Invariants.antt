use Rattle.std.proofs.Common.{◌≡◌, ◌+◌, ◌*◌, ◌-◌, ◌≤◌, ◌++◌, length, drop, vec_len}
use Rattle.std.specs.Prelude.{vec_capacity}
use Rattle.bx_script.proofs.Puts.{spaced_numbers}
use Rattle.bx_script.proofs.text.put_line.Given as goal

abbrev pub invariant-loop-number : goal.invariant-loop-number
invariant-loop-number l = record {
  items : l.text.items ++ spaced_numbers (drop l.number-index l.numbers) ≡ l.fn.text.items ++ (l.word ++ spaced_numbers l.numbers);
  room : vec_len l.text + (21 * (length l.numbers - l.number-index) + (2 * length l.bytes + 2)) ≤ vec_capacity l.text;
}
