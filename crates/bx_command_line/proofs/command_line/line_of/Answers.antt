use Rattle.std.proofs.Common.{◌∙◌, ap, codes, sym}
use Rattle.std.specs.Prelude.{map, option_map, string_bytes}
use Rattle.std.proofs.lemmas.Slice.Eq.{bytes_eq-Decides}
use Rattle.bx_command_line.proofs.Parses.{no_name, of_format, of_make, others}
use Rattle.bx_command_line.proofs.command_line.line_of.Goals as goal
use Rattle.bx_command_line.proofs.command_line.line_of.Goals.{else-eq-3-via-then-eq-3+else-are_only, else-eq-3-via-else-eq-3, else-eq-4-via-then-eq-4+else-are_only-2, else-eq-4-via-else-eq-4}

pub returns-in_err-name : goal.returns-in_err-name
returns-in_err-name c = λ matches.
    rw c.from_residual.ensures (no_name (map string_bytes c.args.words.now) c.args.matches.now matches (sym c.subcommand_name.ensures ∙ ap (option_map (λ s. s.now)) c.in_err-name.was))

pub returns-then-eq : goal.returns-then-eq
returns-then-eq c = λ matches.
    of_format (map string_bytes c.args.words.now) c.args.matches.now matches c.in_ok-name.name.now c.format_line.result
    (sym c.subcommand_name.ensures ∙ ap (option_map (λ s. s.now)) c.in_ok-name.was)
    ((bytes_eq-Decides c.in_ok-name.name.now (codes "format")).0 (sym c.eq.ensures ∙ c.if-eq.true))
    c.format_line.ensures.some c.format_line.ensures.none

pub returns-then-eq-2 : goal.returns-then-eq-2
returns-then-eq-2 c = λ matches.
    of_make (map string_bytes c.args.words.now) c.args.matches.now matches c.in_ok-name.name.now c.make_line.result
    (sym c.subcommand_name.ensures ∙ ap (option_map (λ s. s.now)) c.in_ok-name.was)
    ((bytes_eq-Decides c.in_ok-name.name.now (codes "make")).0 (sym c.eq-else-eq.ensures ∙ c.if-eq-2.true))
    c.make_line.ensures.some c.make_line.ensures.none

pub returns-else-eq-4 : goal.returns-else-eq-4
returns-else-eq-4 c = λ matches.
    let name = c.in_ok-name.name.now in
    others (map string_bytes c.args.words.now) c.args.matches.now matches name
    (sym c.subcommand_name.ensures ∙ ap (option_map (λ s. s.now)) c.in_ok-name.was)
    (λ is. let yes = (bytes_eq-Decides name (codes "format")).1 is in let test = c.eq.ensures in let no = c.if-eq.false in cc)
    (λ is. let yes = (bytes_eq-Decides name (codes "make")).1 is in let test = c.eq-else-eq.ensures in let no = c.if-eq-2.false in cc)
    (λ is alone. elim c.else-eq-3.branch [
      | else-eq-3-via-then-eq-3+else-are_only w ↦ let yes = w.are_only.ensures.1 alone in let no = w.if-are_only.false in cc
      | else-eq-3-via-else-eq-3 w ↦ let yes = (bytes_eq-Decides name (codes "replay")).1 is in let test = c.eq-else-eq-2.ensures in let no = w.if-eq-3.false in cc
    ])
    (λ is alone. elim c.else-eq-4.branch [
      | else-eq-4-via-then-eq-4+else-are_only-2 w ↦ let yes = w.are_only-then-eq-4.ensures.1 alone in let no = w.if-are_only-2.false in cc
      | else-eq-4-via-else-eq-4 w ↦ let yes = (bytes_eq-Decides name (codes "check")).1 is in let test = c.eq-else-eq-3.ensures in let no = w.if-eq-4.false in cc
    ])
