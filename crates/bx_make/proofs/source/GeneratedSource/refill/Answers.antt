use Rattle.std.proofs.Common.{◌≡◌, ℕ, ◌<◌, ◌≤◌, ◌-◌, ◌+◌, List, ◌++◌, [], Bool, true, false, leb, length, drop, refl, sym, ap, ◌∙◌, arith, inl, inr}
use Rattle.std.proofs.lemmas.Bool.{cases_lt, leb-true, le-leb}
use Rattle.std.proofs.lemmas.List.{length-drop, drop_all}
use Rattle.bx_generated.specs.Schedules.{lines_behind, text_of_lines}
use Rattle.bx_make.specs.Feeding.{Feeding, text_left}
use Rattle.bx_make.proofs.Feeds.{none_left, one_left, some_bytes}
use Rattle.bx_make.proofs.source.GeneratedSource.refill.Goals as goal

not_done : (a b : ℕ) → leb a b ≡ false → b < a
not_done a b h = elim (cases_lt b a) [ inl lt ↦ lt | inr le ↦ absurd (let yes = le-leb a b le in cc) ]

pub returns-then-self-len-clause-none : goal.returns-then-self-len-clause-none
returns-then-self-len-clause-none c = λ none.
    let same = ap (λ (v : Feeding). length v.ahead) c.self.view_is in
    absurd (omega (arith, none, same, length-drop c.self.inside.at c.self.inside.text.items, c.if-self-len.true, c.len.ensures))

pub returns-then-is_done-clause-none : goal.returns-then-is_done-clause-none
returns-then-is_done-clause-none c = λ none.
    sym (ap (λ (v : Feeding). v.behind) c.self.view_is) ∙ none_left c.self.inside.generated (leb-true _ _ (sym c.if-is_done.ensures))

text_is : (c : goal.After-self-1) → c.put_next.new.text.items ≡ text_of_lines (lines_behind c.self.inside.generated.seed c.self.inside.generated.nodes c.self.inside.generated.calls c.self.inside.generated.made)
text_is c = c.in_ok-put_next.ensures.text ∙ ap (λ (t : List ℕ). t ++ text_of_lines (lines_behind c.self.inside.generated.seed c.self.inside.generated.nodes c.self.inside.generated.calls c.self.inside.generated.made)) c.new-text.ensures.items

pub returns-clause-same : goal.returns-clause-same
returns-clause-same c =
    let more = not_done c.self.inside.generated.calls c.self.inside.generated.made (sym c.if-is_done.ensures) in
    let back = ap text_left c.in_ok-put_next.ensures.made in
    let ahead : c.args.self.now.ahead ≡ [] = sym (ap (λ (v : Feeding). v.ahead) c.self.view_is) ∙ drop_all c.self.inside.at c.self.inside.text.items (omega (arith, c.if-self-len.false, c.len.ensures)) in
    let behind : c.args.self.now.behind ≡ text_left c.self.inside.generated = sym (ap (λ (v : Feeding). v.behind) c.self.view_is) in
    rw (ahead, behind, text_is c, back) (sym (one_left c.self.inside.generated more))

pub returns-clause-none : goal.returns-clause-none
returns-clause-none c = λ none.
    let long = ap (λ (t : List ℕ). length t) (text_is c) in
    absurd (omega (arith, none, long, some_bytes c.self.inside.generated.seed c.self.inside.generated.nodes c.self.inside.generated.calls c.self.inside.generated.made))
