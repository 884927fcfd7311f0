use Rattle.std.proofs.Common.{◌≡◌, ℕ, ◌-◌, ◌&&◌, Bool, true, List, length, take, drop, eqb, ap, sym, ◌∙◌, arith}
use Rattle.std.specs.List.{starts_with}
use Rattle.std.proofs.lemmas.List.{length-drop, take_all}
use Rattle.bx_make.specs.Counts.{begins_with}
use Rattle.bx_make.proofs.counts.begins.Goals as goal

pub returns-then-starts : goal.returns-then-starts
returns-then-starts c =
    let text : List ℕ = drop c.args.at c.args.text.now in
    let all : take (length c.args.text.now - c.args.at) text ≡ text = take_all (length c.args.text.now - c.args.at) text (omega (arith, length-drop c.args.at c.args.text.now)) in
    let found : c.starts_with.result ≡ begins_with c.args.word.now text = c.starts_with.ensures.value ∙ ap (λ (t : List ℕ). starts_with eqb t c.args.word.now) all in
    rw c.if-starts.true found
