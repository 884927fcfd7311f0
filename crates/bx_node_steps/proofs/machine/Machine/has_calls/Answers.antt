use Rattle.std.proofs.Common.{◌≡◌, ◌∙◌, inl, inr, true, false, List, [], ◌∷◌, length, Option, Some, None, refl, sym, ap, arith}
use Rattle.std.specs.Prelude.{◌==◌, is_some, option_map}
use Rattle.std.specs.Vec.{vec_len}
use Rattle.std.proofs.lemmas.Bool.Decides.{nat_tests}
use Rattle.bx_facts.proofs.Lists.{front}
use Rattle.bx_node_steps.specs.Calls.{CallOf, IsAmong, IsThat, call_of, call_written}
use Rattle.bx_node_tries.specs.declared.round.Waiting.{Waiting}
use Rattle.bx_node_steps.proofs.machine.Machine.has_calls.Goals as goal

some_call : (calls : List Waiting) → (length calls == 0) ≡ false → (call : CallOf) × IsAmong calls call
some_call [] none = absurd (let wrong : true ≡ false = none in cc)
some_call (one ∷ calls) none = (call_of one, record { one = one; there = front one calls; same = refl })

some_written : (written : Option Waiting) → is_some (option_map (λ (call : Waiting). call.number) written) ≡ true → (call : CallOf) × IsThat written call
some_written None is = absurd (let wrong : false ≡ true = is in cc)
some_written (Some one) is = (call_of one, refl)

pub returns-then-not-is_empty-clause-some : goal.returns-then-not-is_empty-clause-some
returns-then-not-is_empty-clause-some c = λ is.
    let test : (vec_len c.args.self.now.calls == 0) ≡ false = sym c.is_empty.ensures ∙ c.if-not-is_empty.true in
    let counts = c.args.self.now.calls.ok in
    let none : (length c.args.self.now.calls.items == 0) ≡ false = grind (arith, nat_tests, test, counts) in
    let some = some_call c.args.self.now.calls.items none in
    (some.0, inl some.1)

pub returns-else-not-is_empty-clause-some : goal.returns-else-not-is_empty-clause-some
returns-else-not-is_empty-clause-some c = λ is.
    let some = some_written (call_written c.args.self.now.stage) (ap is_some (sym c.written.ensures) ∙ sym c.is_some.ensures ∙ is) in
    (some.0, inr some.1)
