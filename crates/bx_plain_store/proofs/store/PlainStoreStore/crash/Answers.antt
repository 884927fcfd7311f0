use Rattle.std.proofs.Common.{⊎_elim, refl, ◌∙◌, ap}
use Rattle.bx_facts.specs.Chains.{last}
use Rattle.bx_facts.specs.Writes.{Made}
use Rattle.bx_plain_store.specs.Events.{went_none}
use Rattle.bx_plain_store.specs.Parts.{made_of}
use Rattle.bx_plain_store.specs.Waiting.{owes_in}
use Rattle.bx_plain_store.proofs.Restarting.{Ended, asked_ended, is_still, keeps_crashed, needs_fewer, out_ended, went_ended}
use Rattle.bx_plain_store.proofs.Shapes.{shape_then}
use Rattle.bx_plain_store.proofs.store.PlainStoreStore.crash.Goals as goal

pub invariant_of-self : goal.invariant_of-self
invariant_of-self c =
    let st = c.args.self.now in
    let made : Made = made_of st.volume st.nodes st.devices st.areas in
    let ended : Ended c.in-Node.node st.owns.items c.put_session.new.owns.items st.slots.items c.put_session.new.slots.items st.inquiries.items c.put_session.new.inquiries.items = record {
      own = ⊎_elim (λ none. none) (λ none. none) c.put_session.ensures.own_or;
      out = c.put_session.ensures.out;
      asked = c.put_session.ensures.asked;
      others = c.put_session.ensures.others;
    } in
    let long = c.put_session.ensures.long in
    record { shape = shape_then made st.owns.items _ st.slots.items _ st.inquiries.items _ st.down.items _ long.0 long.1 long.2 refl (out_ended c.in-Node.node st.owns.items c.put_session.new.owns.items st.slots.items c.put_session.new.slots.items st.inquiries.items c.put_session.new.inquiries.items ended) (asked_ended c.in-Node.node st.owns.items c.put_session.new.owns.items st.slots.items c.put_session.new.slots.items st.inquiries.items c.put_session.new.inquiries.items ended) st.shape }

pub returns-in-Node-clause-keeps : goal.returns-in-Node-clause-keeps
returns-in-Node-clause-keeps c = λ x past keeps.
    let st = c.args.self.now in
    let made : Made = made_of st.volume st.nodes st.devices st.areas in
    let ended : Ended c.in-Node.node st.owns.items c.put_session.new.owns.items st.slots.items c.put_session.new.slots.items st.inquiries.items c.put_session.new.inquiries.items = record {
      own = ⊎_elim (λ none. none) (λ none. none) c.put_session.ensures.own_or;
      out = c.put_session.ensures.out;
      asked = c.put_session.ensures.asked;
      others = c.put_session.ensures.others;
    } in
    keeps_crashed made st.greatest st.owns.items _ st.slots.items _ x past c.args.who keeps (went_ended c.in-Node.node st.owns.items c.put_session.new.owns.items st.slots.items c.put_session.new.slots.items st.inquiries.items c.put_session.new.inquiries.items ended (last past.told.chain))

pub returns-in-Member-clause-keeps : goal.returns-in-Member-clause-keeps
returns-in-Member-clause-keeps c = λ x past keeps.
    let st = c.args.self.now in
    let made : Made = made_of st.volume st.nodes st.devices st.areas in
    keeps_crashed made st.greatest st.owns.items _ st.slots.items _ x past c.args.who keeps (went_none (last past.told.chain) st.owns.items st.slots.items)

pub returns-in-Member-clause-needs : goal.returns-in-Member-clause-needs
returns-in-Member-clause-needs c =
    let st = c.args.self.now in
    let made : Made = made_of st.volume st.nodes st.devices st.areas in
    needs_fewer made st.down.items c.put_down.new.down.items c.in-Member.member (record { here = c.put_down.ensures.here; others = c.put_down.ensures.others; long = c.put_down.ensures.long })

pub returns-in-Node-clause-still : goal.returns-in-Node-clause-still
returns-in-Node-clause-still c = ap (owes_in c.args.self.now.greatest c.put_session.new.slots.items c.put_session.new.inquiries.items c.args.self.now.down.items) c.in-Node.is

pub returns-in-Member-clause-still : goal.returns-in-Member-clause-still
returns-in-Member-clause-still c =
    let st = c.args.self.now in
    ap (owes_in st.greatest st.slots.items st.inquiries.items c.put_down.new.down.items) c.in-Member.is
    ∙ is_still st.greatest st.slots.items st.inquiries.items st.down.items c.put_down.new.down.items c.in-Member.member (record { here = c.put_down.ensures.here; others = c.put_down.ensures.others; long = c.put_down.ensures.long })
