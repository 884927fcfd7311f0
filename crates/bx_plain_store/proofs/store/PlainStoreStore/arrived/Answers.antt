use Rattle.std.proofs.Common.{◌<◌, length, refl, sym, ◌∙◌, ap, arith}
use Rattle.std.proofs.lemmas.List.{length-set}
use Rattle.bx_plain_store.specs.Out.{at}
use Rattle.bx_plain_store.proofs.Serving.{at_beside, at_got, at_here}
use Rattle.bx_facts.specs.Chains.{last}
use Rattle.bx_plain_store.specs.Parts.{answer_in, asked_in}
use Rattle.bx_plain_store.proofs.Places.{at_past}
use Rattle.bx_plain_store.proofs.Shapes.{shape_then}
use Rattle.bx_plain_store.proofs.Taking.{IsTaken, answer_is, asked_left, each_left, goes_left}
use Rattle.bx_plain_store.proofs.store.PlainStoreStore.arrived.Goals as goal

pub returns-then-place-len-clause-answer : goal.returns-then-place-len-clause-answer
returns-then-place-len-clause-answer c = sym (ap answer_in (at_past c.args.self.now.inquiries.items c.args.node (omega (arith, c.if-place-len.true, c.len.ensures))))

pub returns-then-place-len-clause-not_yet : goal.returns-then-place-len-clause-not_yet
returns-then-place-len-clause-not_yet c = λ none. (refl, ap answer_in (at_past c.args.self.now.inquiries.items c.args.node (omega (arith, c.if-place-len.true, c.len.ensures))))

pub invariant_of-self : goal.invariant_of-self
invariant_of-self c =
    let st = c.args.self.now in
    let less : c.args.node < length st.inquiries.items = omega (arith, c.if-place-len.false, c.len.ensures) in
    let got = at_got st.inquiries.items c.args.node c.index_mut.result.now less c.index_mut.ensures.value in
    let is : IsTaken c.take_answer.result (at st.inquiries.items c.args.node) c.take_answer.new.slot = record {
      answer = c.take_answer.ensures.answer ∙ ap answer_in got;
      taken = c.take_answer.ensures.taken;
      not_yet = λ none. let left = c.take_answer.ensures.not_yet none in (left.0 ∙ ap asked_in got, left.1);
    } in
    record {
      shape = shape_then _ st.owns.items _ st.slots.items _ st.inquiries.items _ st.down.items _ refl refl (length-set st.inquiries.items c.args.node c.take_answer.new.slot) refl
          (λ node sent out. out) (asked_left c.take_answer.result st.inquiries.items c.args.node c.take_answer.new.slot less is) st.shape;
    }

pub returns-clause-goes_on : goal.returns-clause-goes_on
returns-clause-goes_on c = λ x past keeps.
    let st = c.args.self.now in
    let less : c.args.node < length st.inquiries.items = omega (arith, c.if-place-len.false, c.len.ensures) in
    let got = at_got st.inquiries.items c.args.node c.index_mut.result.now less c.index_mut.ensures.value in
    let is : IsTaken c.take_answer.result (at st.inquiries.items c.args.node) c.take_answer.new.slot = record {
      answer = c.take_answer.ensures.answer ∙ ap answer_in got;
      taken = c.take_answer.ensures.taken;
      not_yet = λ none. let left = c.take_answer.ensures.not_yet none in (left.0 ∙ ap asked_in got, left.1);
    } in
    goes_left past.writes past.told.greatest st.inquiries.items _ x (last past.told.chain) (each_left c.take_answer.result st.inquiries.items c.args.node c.take_answer.new.slot less is)

pub returns-clause-answer : goal.returns-clause-answer
returns-clause-answer c =
    let st = c.args.self.now in
    let less : c.args.node < length st.inquiries.items = omega (arith, c.if-place-len.false, c.len.ensures) in
    c.take_answer.ensures.answer ∙ ap answer_in (at_got st.inquiries.items c.args.node c.index_mut.result.now less c.index_mut.ensures.value)

pub returns-clause-promise : goal.returns-clause-promise
returns-clause-promise c = λ x past sector content asks keeps reads asked from below.
    let st = c.args.self.now in
    let less : c.args.node < length st.inquiries.items = omega (arith, c.if-place-len.false, c.len.ensures) in
    let same = c.take_answer.ensures.answer ∙ ap answer_in (at_got st.inquiries.items c.args.node c.index_mut.result.now less c.index_mut.ensures.value) in
    rw same (answer_is asks _ _ x (last past.told.chain) sector content asked reads from below)

pub returns-clause-taken : goal.returns-clause-taken
returns-clause-taken c = λ some.
    let st = c.args.self.now in
    let less : c.args.node < length st.inquiries.items = omega (arith, c.if-place-len.false, c.len.ensures) in
    let here = at_here st.inquiries.items c.args.node c.take_answer.new.slot less ∙ c.take_answer.ensures.taken some in
    (ap asked_in here, ap answer_in here)

pub returns-clause-not_yet : goal.returns-clause-not_yet
returns-clause-not_yet c = λ none.
    let st = c.args.self.now in
    let less : c.args.node < length st.inquiries.items = omega (arith, c.if-place-len.false, c.len.ensures) in
    let got = at_got st.inquiries.items c.args.node c.index_mut.result.now less c.index_mut.ensures.value in
    let here = at_here st.inquiries.items c.args.node c.take_answer.new.slot less in
    let left = c.take_answer.ensures.not_yet none in
    (ap asked_in here ∙ left.0 ∙ ap asked_in got, ap answer_in here ∙ left.1)

pub returns-clause-others : goal.returns-clause-others
returns-clause-others c = λ reader apart.
    let beside = at_beside c.args.self.now.inquiries.items c.args.node reader c.take_answer.new.slot apart in
    (ap asked_in beside, ap answer_in beside)
