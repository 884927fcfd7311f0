use Rattle.std.proofs.Common.{◌≡◌, ℕ, Option, None, Some, List, ap, refl, rules, sym, ◌∙◌}
use Rattle.std.specs.Prelude.{◌==◌, not}
use Rattle.std.proofs.lemmas.Fn.{filter_same}
use Rattle.std.proofs.lemmas.Result.{on_ok_weaker}
use Rattle.bx_replies.specs.Answers.{Answer, with_answer}
use Rattle.bx_desk.specs.Desks.{AtDesk, answer_one, answered, asked_as, others}
use Rattle.bx_desk.specs.declared.desk.Asked.{Asked}
use Rattle.bx_desk.proofs.desk.Desk.answer.Goals as goal

-- a desk that lost the call, and keeps the answer
answered_is : (desk : AtDesk) (number : ℕ) (reply : List ℕ) (asked : Asked) (waits : List Asked) (kept : List Answer) → asked_as number desk.waits ≡ Some asked → waits ≡ others asked.call desk.waits
    → kept ≡ with_answer desk.kept (record { client = asked.client; call = asked.bytes; reply = reply }) → ◌≡◌ {A = AtDesk} (record { waits = waits; kept = kept }) (answered desk number reply)
answered_is desk number reply asked waits kept found left more = rw (found, left, more) refl

pub returns-in_default : goal.returns-in_default
returns-in_default c = ap (λ (o : Option Asked). answer_one o c.args.self.now c.args.reply) c.in_default.ensures

pub returns : goal.returns
returns c =
    let asked = c.in-Some.asked.now in
    let left = filter_same _ (λ (other : Asked). not (asked.call == other.call)) _ (λ x b f h. search rules) _ _ c.retain.ensures.filtered in
    let bytes : c.in_ok-bytes.bytes ≡ asked.bytes = c.in_ok-bytes.ensures ∙ c.bytes.ensures in
    on_ok_weaker c.keep.result
    (λ kept. answered_is c.args.self.now c.args.call c.args.reply asked c.retain.new.self.items c.keep.new.self (sym c.in-Some.ensures)
    (left ∙ ap (λ (d : AtDesk). others asked.call d.waits) c.self.view_is)
    (kept ∙ ap (λ (d : AtDesk). with_answer d.kept (record { client = asked.client; call = c.in_ok-bytes.bytes; reply = c.args.reply })) c.self.view_is
    ∙ ap (λ (b : List ℕ). with_answer c.args.self.now.kept (record { client = asked.client; call = b; reply = c.args.reply })) bytes))
    c.keep.ensures.ok
