use Rattle.std.proofs.Common.{◌≡◌, ◌∙◌, ap, sym, subst}
use Rattle.std.specs.Prelude.{List}
use Rattle.bx_lock_words.specs.declared.words.Want.{Want}
use Rattle.bx_lock_tables.specs.Queue.{without}
use Rattle.bx_lock_tables.proofs.ByBlock.{dropped, dropped_values, nothing_dropped}
use Rattle.bx_lock_tables.proofs.queue.Queue.drop_request.Goals as goal

pub returns-in_default : goal.returns-in_default
returns-in_default c =
    let none = nothing_dropped c.self.inside.next c.self.inside.line c.self.inside.blocks c.self.invariant c.args.want.now (sym c.find_turn.ensures ∙ c.in_default.is) in
    subst (λ (l : List Want). l ≡ without c.args.want.now l) c.self.view_is none

pub invariant_of-self : goal.invariant_of-self
invariant_of-self c = dropped c.self.inside.next c.self.inside.line c.self.inside.blocks c.self.invariant c.args.want.now c.in-Some.turn (sym c.find_turn.ensures ∙ c.in-Some.is) c.remove.new.self c.remove.ensures.entries c.take_turn.new.blocks c.remove.ensures.ordered c.take_turn.ensures

pub returns : goal.returns
returns c = dropped_values c.self.inside.next c.self.inside.line c.self.inside.blocks c.self.invariant c.args.want.now c.in-Some.turn (sym c.find_turn.ensures ∙ c.in-Some.is) c.remove.new.self c.remove.ensures.entries ∙ ap (without c.args.want.now) c.self.view_is
