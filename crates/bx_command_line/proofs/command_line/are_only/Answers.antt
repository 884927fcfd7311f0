use Rattle.std.specs.Prelude.{string_bytes}
use Rattle.bx_command_line.proofs.WordLists.{is_one_word}
use Rattle.bx_command_line.proofs.command_line.are_only.Goals as goal

pub returns-in-len1 : goal.returns-in-len1
returns-in-len1 c = is_one_word string_bytes c.args.words.now c.word-item.result c.as_str.result.now _ c.eq.result c.in-len1.len_at_least c.in-len1.len_below c.word-item.is c.as_str.ensures.value c.eq.ensures
