use Rattle.std.proofs.Common.{◌<◌, Option, length, sym, ap, subst, arith}
use Rattle.bx_facts.specs.Chains.{last}
use Rattle.bx_plain_store.proofs.Serving.{at_beside, at_here}
use Rattle.bx_plain_store.specs.declared.inquiries.Inquiry.{Inquiry}
use Rattle.bx_plain_store.specs.Parts.{answer_in, asked_in}
use Rattle.bx_plain_store.proofs.Places.{some_within}
use Rattle.bx_plain_store.proofs.Shapes.{shape_asked}
use Rattle.bx_plain_store.proofs.Taking.{each_begun, goes_begun}
use Rattle.bx_plain_store.specs.Fits.{WillRead}
use Rattle.bx_plain_store.proofs.store.PlainStoreStore.read.Goals as goal

pub index_mut-requires : goal.index_mut-requires
index_mut-requires c =
    let less = some_within c.args.self.now.owns.items c.args.node c.requires.session in
    let shape = c.args.self.now.shape in
    omega (arith, less, shape.owns_long, shape.inquiries_long)

pub invariant_of-self : goal.invariant_of-self
invariant_of-self c =
    let st = c.args.self.now in
    let low = some_within st.owns.items c.args.node c.requires.session in
    let less : c.args.node < length st.inquiries.items = omega (arith, low, st.shape.owns_long, st.shape.inquiries_long) in
    record { shape = shape_asked _ st.owns.items st.slots.items st.inquiries.items st.down.items c.args.node _ less (record { device = c.requires.device; within = c.requires.within }) st.shape }

pub returns-clause-goes_on : goal.returns-clause-goes_on
returns-clause-goes_on c = λ x past keeps up.
    let st = c.args.self.now in
    let low = some_within st.owns.items c.args.node c.requires.session in
    let less : c.args.node < length st.inquiries.items = omega (arith, low, st.shape.owns_long, st.shape.inquiries_long) in
    goes_begun past.writes past.told.greatest st.inquiries.items _ x (last past.told.chain) (each_begun st.inquiries.items c.args.node _ less c.requires.none_out)

pub returns-clause-promise : goal.returns-clause-promise
returns-clause-promise c = λ x past sector content index keeps up from below only stands knew.
    let st = c.args.self.now in
    let low = some_within st.owns.items c.args.node c.requires.session in
    let less : c.args.node < length st.inquiries.items = omega (arith, low, st.shape.owns_long, st.shape.inquiries_long) in
    subst (λ (slot : Option Inquiry). WillRead (asked_in slot) (answer_in slot) x (last past.told.chain) sector content) (sym (at_here st.inquiries.items c.args.node _ less)) stands

pub returns-clause-asks : goal.returns-clause-asks
returns-clause-asks c =
    let st = c.args.self.now in
    let low = some_within st.owns.items c.args.node c.requires.session in
    let less : c.args.node < length st.inquiries.items = omega (arith, low, st.shape.owns_long, st.shape.inquiries_long) in
    let here = at_here st.inquiries.items c.args.node _ less in
    (ap asked_in here, ap answer_in here)

pub returns-clause-others : goal.returns-clause-others
returns-clause-others c = λ reader apart.
    let beside = at_beside c.args.self.now.inquiries.items c.args.node reader _ apart in
    (ap asked_in beside, ap answer_in beside)
