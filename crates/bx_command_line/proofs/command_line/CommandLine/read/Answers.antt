use Rattle.std.proofs.Common.{◌∙◌, ap, subst}
use Rattle.std.specs.Prelude.{map, string_bytes}
use Rattle.clap.specs.Words.{App, HasMatchesOf, takes}
use Rattle.bx_command_line.proofs.Parses.{takes_line}
use Rattle.bx_command_line.proofs.command_line.CommandLine.read.Goals as goal

pub returns-in-Ok : goal.returns-in-Ok
returns-in-Ok c = c.line_of.ensures (subst (λ (command : App). HasMatchesOf command (map string_bytes c.args.words.now) c.in-Ok.matches) c.in_ok-command.ensures c.in-Ok.ensures.matches)

-- what was refused is no command line, since the words of one are taken
pub returns : goal.returns
returns c = λ line is.
    let words = map string_bytes c.args.words.now in
    let memory = c.in-Err.ensures.passes (ap (λ command. takes command words) c.in_ok-command.ensures ∙ takes_line words line is) in
    c.in_default.not-OutOfMemory (c.kind.ensures ∙ memory)
