use Rattle.std.proofs.Common.{rules}
use Rattle.bx_layout.proofs.slots.is_free_word.Goals as goal

pub returns-then-not-is_used_word : goal.returns-then-not-is_used_word
returns-then-not-is_used_word c = search rules
