use Rattle.std.proofs.Common.{◌≡◌, ◌++◌, ◌∷◌, [], ◌∙◌, ap, sym, subst, rules}
use Rattle.std.specs.Prelude.{List}
use Rattle.bx_lock_words.specs.declared.words.Want.{Want}
use Rattle.bx_lock_tables.specs.Queue.{without}
use Rattle.bx_lock_tables.proofs.ByBlock.{pushed, pushed_values, undone}
use Rattle.bx_lock_tables.proofs.queue.Queue.push.Goals as goal

pub invariant_of-self-then-is_err : goal.invariant_of-self-then-is_err
invariant_of-self-then-is_err c =
    let others = subst (λ (l : List Want). without c.args.want.now l ≡ l) (sym c.self.view_is) c.requires in
    undone c.self.inside.next c.self.inside.line c.self.inside.blocks c.self.invariant c.args.want.now others c.put_turn.new.blocks c.in_ok-put_turn.ensures.ok c.insert.new.self (search rules) c.insert.ensures.ordered c.take_turn.new.blocks c.take_turn.ensures

pub invariant_of-self-2 : goal.invariant_of-self-2
invariant_of-self-2 c =
    let others = subst (λ (l : List Want). without c.args.want.now l ≡ l) (sym c.self.view_is) c.requires in
    pushed c.self.inside.next c.self.inside.line c.self.inside.blocks c.self.invariant c.args.want.now others c.put_turn.new.blocks c.in_ok-put_turn.ensures.ok c.insert.new.self (search rules) c.insert.ensures.ordered c.in-Some.next (search rules)

pub returns : goal.returns
returns c =
    let others = subst (λ (l : List Want). without c.args.want.now l ≡ l) (sym c.self.view_is) c.requires in
    pushed_values c.self.inside.next c.self.inside.line c.self.inside.blocks c.self.invariant c.args.want.now others c.put_turn.new.blocks c.in_ok-put_turn.ensures.ok c.insert.new.self (search rules) ∙ ap (λ (l : List Want). l ++ c.args.want.now ∷ []) c.self.view_is
