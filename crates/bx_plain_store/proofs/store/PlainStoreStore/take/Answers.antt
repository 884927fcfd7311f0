use Rattle.std.specs.Prelude.{◌&&◌}
use Rattle.std.proofs.Common.{◌≡◌, ◌≤◌, inr, ⊎_elim, Bool, List, true, ℕ, refl, sym, ◌∙◌, ap, subst}
use Rattle.bx_base.specs.declared.names.Actor.TheVariants.{Node}
use Rattle.bx_disk.specs.Disks.{Disks}
use Rattle.bx_facts.specs.Chains.{any_session_of, last}
use Rattle.bx_facts.specs.Writes.{IsOver, Made}
use Rattle.bx_plain_store.specs.Out.{at, sent_of}
use Rattle.bx_plain_store.specs.Events.{went_none, went_out}
use Rattle.bx_plain_store.specs.Parts.{made_of}
use Rattle.bx_plain_store.specs.Steps.{Meets}
use Rattle.bx_plain_store.specs.Waiting.{all_up, is_sync}
use Rattle.bx_plain_store.proofs.Answering.{answered_same}
use Rattle.bx_plain_store.proofs.Hearing.{and_right, apart_later, asked_met, asked_new, done_at, goes_heard, goes_synced, keeps_heard, labels_synced, leaves_none, leaves_synced, not_done, out_met, reads_met, rises_with, still_asked, still_out, went_met}
use Rattle.bx_plain_store.proofs.Restarting.{replicas_both}
use Rattle.bx_plain_store.proofs.Rooms.{disks_there, reads_fit, writes_fit}
use Rattle.bx_plain_store.proofs.Shapes.{shape_then}
use Rattle.bx_plain_store.proofs.Stepping.{step_met, step_served, step_still}
use Rattle.bx_plain_store.proofs.store.PlainStoreStore.take.Goals as goal

pub invariant_of-self : goal.invariant_of-self
invariant_of-self g c =
    let st = c.args.self.now in
    let made : Made = made_of st.volume st.nodes st.devices st.areas in
    let met : Meets c.args.known.now c.in-Node.node st.owns.items c.meet_session.new.owns.items st.slots.items c.meet_session.new.slots.items st.inquiries.items c.meet_session.new.inquiries.items = record {
      own = c.meet_session.ensures.own ∙ c.any_session.ensures;
      another = λ apart. c.meet_session.ensures.another (λ is. apart (is ∙ c.any_session.ensures));
      same = λ is. c.meet_session.ensures.same (is ∙ sym c.any_session.ensures);
      others = c.meet_session.ensures.others;
    } in
    let long = c.meet_session.ensures.long in
    record { shape = shape_then made st.owns.items _ st.slots.items _ st.inquiries.items _ st.down.items _ long.0 long.1 long.2 refl (still_out c.args.known.now c.in-Node.node st.owns.items c.meet_session.new.owns.items st.slots.items c.meet_session.new.slots.items st.inquiries.items c.meet_session.new.inquiries.items met) (still_asked c.args.known.now c.in-Node.node st.owns.items c.meet_session.new.owns.items st.slots.items c.meet_session.new.slots.items st.inquiries.items c.meet_session.new.inquiries.items met) st.shape }

pub returns-in-Node-clause-keeps : goal.returns-in-Node-clause-keeps
returns-in-Node-clause-keeps g c = λ past tells keeps may.
    let st = c.args.self.now in
    let made : Made = made_of st.volume st.nodes st.devices st.areas in
    let x : Disks = g.R.Rack.state c.args.rack.now in
    let rises : st.greatest ≤ c.heard-self.result = subst (λ (n : ℕ). st.greatest ≤ n) (sym c.heard-self.ensures) (rises_with st.greatest c.args.input.now) in
    let met : Meets c.args.known.now c.in-Node.node st.owns.items c.meet_session.new.owns.items st.slots.items c.meet_session.new.slots.items st.inquiries.items c.meet_session.new.inquiries.items = record {
      own = c.meet_session.ensures.own ∙ c.any_session.ensures;
      another = λ apart. c.meet_session.ensures.another (λ is. apart (is ∙ c.any_session.ensures));
      same = λ is. c.meet_session.ensures.same (is ∙ sym c.any_session.ensures);
      others = c.meet_session.ensures.others;
    } in
    keeps_heard made st.greatest st.owns.items st.slots.items st.inquiries.items x past c.args._out.now c.args.known.now c.heard-self.result keeps may.place rises _ _ x c.args._out.now c.args.at c.args.input.now c.heard-self.ensures (went_met c.args.known.now c.in-Node.node st.owns.items c.meet_session.new.owns.items st.slots.items c.meet_session.new.slots.items st.inquiries.items c.meet_session.new.inquiries.items met) keeps.fits.labels

pub returns-in-Node-clause-goes_on : goal.returns-in-Node-clause-goes_on
returns-in-Node-clause-goes_on g c = λ past tells keeps may.
    let st = c.args.self.now in
    let made : Made = made_of st.volume st.nodes st.devices st.areas in
    let x : Disks = g.R.Rack.state c.args.rack.now in
    let rises : st.greatest ≤ c.heard-self.result = subst (λ (n : ℕ). st.greatest ≤ n) (sym c.heard-self.ensures) (rises_with st.greatest c.args.input.now) in
    let met : Meets c.args.known.now c.in-Node.node st.owns.items c.meet_session.new.owns.items st.slots.items c.meet_session.new.slots.items st.inquiries.items c.meet_session.new.inquiries.items = record {
      own = c.meet_session.ensures.own ∙ c.any_session.ensures;
      another = λ apart. c.meet_session.ensures.another (λ is. apart (is ∙ c.any_session.ensures));
      same = λ is. c.meet_session.ensures.same (is ∙ sym c.any_session.ensures);
      others = c.meet_session.ensures.others;
    } in
    goes_heard made st.greatest st.owns.items st.slots.items st.inquiries.items x past c.args._out.now c.args.known.now c.heard-self.result keeps may.place rises _ (reads_met c.args.known.now c.in-Node.node st.owns.items c.meet_session.new.owns.items st.slots.items c.meet_session.new.slots.items st.inquiries.items c.meet_session.new.inquiries.items met x)

pub returns-in-Node-clause-done : goal.returns-in-Node-clause-done
returns-in-Node-clause-done g c = λ past node write tells keeps may out none own lives.
    let st = c.args.self.now in
    let made : Made = made_of st.volume st.nodes st.devices st.areas in
    let met : Meets c.args.known.now c.in-Node.node st.owns.items c.meet_session.new.owns.items st.slots.items c.meet_session.new.slots.items st.inquiries.items c.meet_session.new.inquiries.items = record {
      own = c.meet_session.ensures.own ∙ c.any_session.ensures;
      another = λ apart. c.meet_session.ensures.another (λ is. apart (is ∙ c.any_session.ensures));
      same = λ is. c.meet_session.ensures.same (is ∙ sym c.any_session.ensures);
      others = c.meet_session.ensures.others;
    } in
    absurd (not_done c.args.known.now c.in-Node.node st.owns.items c.meet_session.new.owns.items st.slots.items c.meet_session.new.slots.items st.inquiries.items c.meet_session.new.inquiries.items met node write keeps.fits.mine out none own)

pub returns-in-Node-clause-any_moment : goal.returns-in-Node-clause-any_moment
returns-in-Node-clause-any_moment g c = λ past tells keeps may.
    let st = c.args.self.now in
    let made : Made = made_of st.volume st.nodes st.devices st.areas in
    let x : Disks = g.R.Rack.state c.args.rack.now in
    let rises : st.greatest ≤ c.heard-self.result = subst (λ (n : ℕ). st.greatest ≤ n) (sym c.heard-self.ensures) (rises_with st.greatest c.args.input.now) in
    leaves_none made st.greatest st.owns.items st.slots.items st.inquiries.items x past c.args._out.now c.args.known.now c.heard-self.result keeps may.place rises _ _ (λ image left. g.met.R.Rack.only_now c.args.rack.now image tells left)

pub returns-in-Node-clause-session : goal.returns-in-Node-clause-session
returns-in-Node-clause-session g c = λ past node tells keeps may is.
    let same : c.in-Node.node ≡ node = (let h = sym c.in-Node.is ∙ is in cc) in
    subst (λ (n : ℕ). at c.meet_session.new.owns.items n ≡ any_session_of c.args.known.now n) same (c.meet_session.ensures.own ∙ c.any_session.ensures)

pub returns-in-Node-clause-others : goal.returns-in-Node-clause-others
returns-in-Node-clause-others g c = λ node apart. (c.meet_session.ensures.others node (λ same. apart (c.in-Node.is ∙ ap Node (sym same)))).0

pub returns-in-Node-clause-out : goal.returns-in-Node-clause-out
returns-in-Node-clause-out g c = λ node.
    let st = c.args.self.now in
    let made : Made = made_of st.volume st.nodes st.devices st.areas in
    let met : Meets c.args.known.now c.in-Node.node st.owns.items c.meet_session.new.owns.items st.slots.items c.meet_session.new.slots.items st.inquiries.items c.meet_session.new.inquiries.items = record {
      own = c.meet_session.ensures.own ∙ c.any_session.ensures;
      another = λ apart. c.meet_session.ensures.another (λ is. apart (is ∙ c.any_session.ensures));
      same = λ is. c.meet_session.ensures.same (is ∙ sym c.any_session.ensures);
      others = c.meet_session.ensures.others;
    } in
    out_met c.args.known.now c.in-Node.node st.owns.items c.meet_session.new.owns.items st.slots.items c.meet_session.new.slots.items st.inquiries.items c.meet_session.new.inquiries.items met node

pub returns-in-Node-clause-asked : goal.returns-in-Node-clause-asked
returns-in-Node-clause-asked g c = λ reader.
    let st = c.args.self.now in
    let made : Made = made_of st.volume st.nodes st.devices st.areas in
    let met : Meets c.args.known.now c.in-Node.node st.owns.items c.meet_session.new.owns.items st.slots.items c.meet_session.new.slots.items st.inquiries.items c.meet_session.new.inquiries.items = record {
      own = c.meet_session.ensures.own ∙ c.any_session.ensures;
      another = λ apart. c.meet_session.ensures.another (λ is. apart (is ∙ c.any_session.ensures));
      same = λ is. c.meet_session.ensures.same (is ∙ sym c.any_session.ensures);
      others = c.meet_session.ensures.others;
    } in
    asked_met c.args.known.now c.in-Node.node st.owns.items c.meet_session.new.owns.items st.slots.items c.meet_session.new.slots.items st.inquiries.items c.meet_session.new.inquiries.items met reader

pub returns-then-not-is_time-clause-keeps : goal.returns-then-not-is_time-clause-keeps
returns-then-not-is_time-clause-keeps g c = λ past tells keeps may.
    let st = c.args.self.now in
    let made : Made = made_of st.volume st.nodes st.devices st.areas in
    let x : Disks = g.R.Rack.state c.args.rack.now in
    let rises : st.greatest ≤ c.heard-self.result = subst (λ (n : ℕ). st.greatest ≤ n) (sym c.heard-self.ensures) (rises_with st.greatest c.args.input.now) in
    keeps_heard made st.greatest st.owns.items st.slots.items st.inquiries.items x past c.args._out.now c.args.known.now c.heard-self.result keeps may.place rises _ _ x c.args._out.now c.args.at c.args.input.now c.heard-self.ensures (went_none c.args.known.now st.owns.items st.slots.items) keeps.fits.labels

pub returns-then-not-is_time-clause-goes_on : goal.returns-then-not-is_time-clause-goes_on
returns-then-not-is_time-clause-goes_on g c = λ past tells keeps may.
    let st = c.args.self.now in
    let made : Made = made_of st.volume st.nodes st.devices st.areas in
    let x : Disks = g.R.Rack.state c.args.rack.now in
    let rises : st.greatest ≤ c.heard-self.result = subst (λ (n : ℕ). st.greatest ≤ n) (sym c.heard-self.ensures) (rises_with st.greatest c.args.input.now) in
    goes_heard made st.greatest st.owns.items st.slots.items st.inquiries.items x past c.args._out.now c.args.known.now c.heard-self.result keeps may.place rises _ (λ node. record { case = inr (answered_same x c.args.known.now (at st.inquiries.items node)) })

pub returns-then-not-is_time-clause-done : goal.returns-then-not-is_time-clause-done
returns-then-not-is_time-clause-done g c = λ past node write tells keeps may out none. absurd (let h = sym none ∙ out in cc)

pub returns-then-not-is_time-clause-any_moment : goal.returns-then-not-is_time-clause-any_moment
returns-then-not-is_time-clause-any_moment g c = λ past tells keeps may.
    let st = c.args.self.now in
    let made : Made = made_of st.volume st.nodes st.devices st.areas in
    let x : Disks = g.R.Rack.state c.args.rack.now in
    let rises : st.greatest ≤ c.heard-self.result = subst (λ (n : ℕ). st.greatest ≤ n) (sym c.heard-self.ensures) (rises_with st.greatest c.args.input.now) in
    leaves_none made st.greatest st.owns.items st.slots.items st.inquiries.items x past c.args._out.now c.args.known.now c.heard-self.result keeps may.place rises _ _ (λ image left. g.met.R.Rack.only_now c.args.rack.now image tells left)

pub returns-then-not-is_time-clause-session : goal.returns-then-not-is_time-clause-session
returns-then-not-is_time-clause-session g c = λ past node tells keeps may is. absurd (c.in_default.not-Node node is)

pub sync_all-requires : goal.sync_all-requires
sync_all-requires g c =
    let st = c.args.self.now in
    let made : Made = made_of st.volume st.nodes st.devices st.areas in
    let up : all_up st.down.items ≡ true = ap all_up (sym c.deref.ensures.value) ∙ and_right (is_sync c.args.at c.args.input.now) (all_up c.deref.result.now) (sym c.is_time.ensures ∙ c.if-not-is_time.false) in
    record {
      writes = writes_fit made st.owns.items st.slots.items st.inquiries.items st.down.items _ st.shape up c.requires.room;
      disks = disks_there made st.owns.items st.slots.items st.inquiries.items st.down.items _ st.shape up c.requires.room;
      reads = reads_fit made st.owns.items st.slots.items st.inquiries.items st.down.items _ st.shape up c.requires.room;
    }

pub invariant_of-self-2 : goal.invariant_of-self-2
invariant_of-self-2 g c =
    let st = c.args.self.now in
    let made : Made = made_of st.volume st.nodes st.devices st.areas in
    let long = c.sync_all.ensures.long in
    record {
      shape = shape_then made st.owns.items _ st.slots.items _ st.inquiries.items _ st.down.items _ refl long.0 long.1 refl
          (λ node sent out. ⊎_elim (λ none. absurd (let h = sym none ∙ out in cc)) (λ same. sym same ∙ out) (c.sync_all.ensures.out node))
          (λ node asks asked. sym (c.sync_all.ensures.asks node) ∙ asked) st.shape;
    }

pub returns-in_err-sync_all-clause-keeps_faulted : goal.returns-in_err-sync_all-clause-keeps_faulted
returns-in_err-sync_all-clause-keeps_faulted g c = λ past tells keeps may fault.
    let st = c.args.self.now in
    let made : Made = made_of st.volume st.nodes st.devices st.areas in
    let x : Disks = g.R.Rack.state c.args.rack.now in
    let y : Disks = g.R.Rack.state c.sync_all.new.rack in
    let rises : st.greatest ≤ c.heard-self.result = subst (λ (n : ℕ). st.greatest ≤ n) (sym c.heard-self.ensures) (rises_with st.greatest c.args.input.now) in
    let apart = (apart_later made st.greatest st.owns.items st.slots.items st.inquiries.items x past c.args._out.now c.args.known.now c.heard-self.result keeps may.place rises (went_none c.args.known.now st.owns.items st.slots.items)).apart in
    let members = c.sync_all.ensures.keeps tells apart in
    keeps_heard made st.greatest st.owns.items st.slots.items st.inquiries.items x past c.args._out.now c.args.known.now c.heard-self.result keeps may.place rises _ _ y c.args._out.now c.args.at c.args.input.now c.heard-self.ensures (went_out c.args.known.now st.owns.items st.slots.items c.sync_all.new.slots.items c.sync_all.ensures.out) (labels_synced made st.greatest st.owns.items st.slots.items st.inquiries.items x past c.args._out.now c.args.known.now c.heard-self.result keeps may.place rises y members c.sync_all.ensures.rack.sizes)

pub returns-in_err-sync_all-clause-goes_on_faulted : goal.returns-in_err-sync_all-clause-goes_on_faulted
returns-in_err-sync_all-clause-goes_on_faulted g c = λ past tells keeps may fault.
    let st = c.args.self.now in
    let made : Made = made_of st.volume st.nodes st.devices st.areas in
    let x : Disks = g.R.Rack.state c.args.rack.now in
    let y : Disks = g.R.Rack.state c.sync_all.new.rack in
    let rises : st.greatest ≤ c.heard-self.result = subst (λ (n : ℕ). st.greatest ≤ n) (sym c.heard-self.ensures) (rises_with st.greatest c.args.input.now) in
    let apart = (apart_later made st.greatest st.owns.items st.slots.items st.inquiries.items x past c.args._out.now c.args.known.now c.heard-self.result keeps may.place rises (went_none c.args.known.now st.owns.items st.slots.items)).apart in
    let members = c.sync_all.ensures.keeps tells apart in
    goes_synced made st.greatest st.owns.items st.slots.items st.inquiries.items x past c.args._out.now c.args.known.now c.heard-self.result keeps may.place rises y members _ (λ node. c.sync_all.ensures.answered node tells)

pub returns-in_err-sync_all-clause-done_faulted : goal.returns-in_err-sync_all-clause-done_faulted
returns-in_err-sync_all-clause-done_faulted g c = λ past node write tells keeps may out none own lives fault.
    let st = c.args.self.now in
    let made : Made = made_of st.volume st.nodes st.devices st.areas in
    let x : Disks = g.R.Rack.state c.args.rack.now in
    let y : Disks = g.R.Rack.state c.sync_all.new.rack in
    let rises : st.greatest ≤ c.heard-self.result = subst (λ (n : ℕ). st.greatest ≤ n) (sym c.heard-self.ensures) (rises_with st.greatest c.args.input.now) in
    let apart = (apart_later made st.greatest st.owns.items st.slots.items st.inquiries.items x past c.args._out.now c.args.known.now c.heard-self.result keeps may.place rises (went_none c.args.known.now st.owns.items st.slots.items)).apart in
    let members = c.sync_all.ensures.keeps tells apart in
    done_at y (last past.told.chain) write _ (c.sync_all.ensures.done node write (last past.told.chain) tells apart out none keeps.fits.count)

pub returns-in_err-sync_all-clause-any_moment : goal.returns-in_err-sync_all-clause-any_moment
returns-in_err-sync_all-clause-any_moment g c = λ past tells keeps may.
    let st = c.args.self.now in
    let made : Made = made_of st.volume st.nodes st.devices st.areas in
    let x : Disks = g.R.Rack.state c.args.rack.now in
    let rises : st.greatest ≤ c.heard-self.result = subst (λ (n : ℕ). st.greatest ≤ n) (sym c.heard-self.ensures) (rises_with st.greatest c.args.input.now) in
    let apart = (apart_later made st.greatest st.owns.items st.slots.items st.inquiries.items x past c.args._out.now c.args.known.now c.heard-self.result keeps may.place rises (went_none c.args.known.now st.owns.items st.slots.items)).apart in
    leaves_synced made st.greatest st.owns.items st.slots.items st.inquiries.items x past c.args._out.now c.args.known.now c.heard-self.result keeps may.place rises _ _ _ _ (c.sync_all.ensures.any_moment tells apart)

pub returns-in_err-sync_all-clause-session_faulted : goal.returns-in_err-sync_all-clause-session_faulted
returns-in_err-sync_all-clause-session_faulted g c = λ past node tells keeps may is fault. absurd (c.in_default.not-Node node is)

pub returns-in_err-sync_all-clause-replicas : goal.returns-in_err-sync_all-clause-replicas
returns-in_err-sync_all-clause-replicas g c = λ tells. replicas_both _ _ (c.sync_all.ensures.replicas tells)

pub returns-in_err-sync_all-clause-asked_faulted : goal.returns-in_err-sync_all-clause-asked_faulted
returns-in_err-sync_all-clause-asked_faulted g c = λ reader fault. inr (c.sync_all.ensures.asks reader)

pub returns-clause-keeps : goal.returns-clause-keeps
returns-clause-keeps g c = λ past tells keeps may.
    let st = c.args.self.now in
    let made : Made = made_of st.volume st.nodes st.devices st.areas in
    let x : Disks = g.R.Rack.state c.args.rack.now in
    let y : Disks = g.R.Rack.state c.sync_all.new.rack in
    let rises : st.greatest ≤ c.heard-self.result = subst (λ (n : ℕ). st.greatest ≤ n) (sym c.heard-self.ensures) (rises_with st.greatest c.args.input.now) in
    let apart = (apart_later made st.greatest st.owns.items st.slots.items st.inquiries.items x past c.args._out.now c.args.known.now c.heard-self.result keeps may.place rises (went_none c.args.known.now st.owns.items st.slots.items)).apart in
    let members = c.sync_all.ensures.keeps tells apart in
    keeps_heard made st.greatest st.owns.items st.slots.items st.inquiries.items x past c.args._out.now c.args.known.now c.heard-self.result keeps may.place rises _ _ y c.args._out.now c.args.at c.args.input.now c.heard-self.ensures (went_out c.args.known.now st.owns.items st.slots.items c.sync_all.new.slots.items c.sync_all.ensures.out) (labels_synced made st.greatest st.owns.items st.slots.items st.inquiries.items x past c.args._out.now c.args.known.now c.heard-self.result keeps may.place rises y members c.sync_all.ensures.rack.sizes)

pub returns-clause-goes_on : goal.returns-clause-goes_on
returns-clause-goes_on g c = λ past tells keeps may.
    let st = c.args.self.now in
    let made : Made = made_of st.volume st.nodes st.devices st.areas in
    let x : Disks = g.R.Rack.state c.args.rack.now in
    let y : Disks = g.R.Rack.state c.sync_all.new.rack in
    let rises : st.greatest ≤ c.heard-self.result = subst (λ (n : ℕ). st.greatest ≤ n) (sym c.heard-self.ensures) (rises_with st.greatest c.args.input.now) in
    let apart = (apart_later made st.greatest st.owns.items st.slots.items st.inquiries.items x past c.args._out.now c.args.known.now c.heard-self.result keeps may.place rises (went_none c.args.known.now st.owns.items st.slots.items)).apart in
    let members = c.sync_all.ensures.keeps tells apart in
    goes_synced made st.greatest st.owns.items st.slots.items st.inquiries.items x past c.args._out.now c.args.known.now c.heard-self.result keeps may.place rises y members _ (λ node. c.sync_all.ensures.answered node tells)

pub returns-clause-done : goal.returns-clause-done
returns-clause-done g c = λ past node write tells keeps may out none own lives.
    let st = c.args.self.now in
    let made : Made = made_of st.volume st.nodes st.devices st.areas in
    let x : Disks = g.R.Rack.state c.args.rack.now in
    let y : Disks = g.R.Rack.state c.sync_all.new.rack in
    let rises : st.greatest ≤ c.heard-self.result = subst (λ (n : ℕ). st.greatest ≤ n) (sym c.heard-self.ensures) (rises_with st.greatest c.args.input.now) in
    let apart = (apart_later made st.greatest st.owns.items st.slots.items st.inquiries.items x past c.args._out.now c.args.known.now c.heard-self.result keeps may.place rises (went_none c.args.known.now st.owns.items st.slots.items)).apart in
    let members = c.sync_all.ensures.keeps tells apart in
    done_at y (last past.told.chain) write _ (c.sync_all.ensures.done node write (last past.told.chain) tells apart out none keeps.fits.count)

pub returns-clause-any_moment : goal.returns-clause-any_moment
returns-clause-any_moment g c = λ past tells keeps may.
    let st = c.args.self.now in
    let made : Made = made_of st.volume st.nodes st.devices st.areas in
    let x : Disks = g.R.Rack.state c.args.rack.now in
    let rises : st.greatest ≤ c.heard-self.result = subst (λ (n : ℕ). st.greatest ≤ n) (sym c.heard-self.ensures) (rises_with st.greatest c.args.input.now) in
    let apart = (apart_later made st.greatest st.owns.items st.slots.items st.inquiries.items x past c.args._out.now c.args.known.now c.heard-self.result keeps may.place rises (went_none c.args.known.now st.owns.items st.slots.items)).apart in
    leaves_synced made st.greatest st.owns.items st.slots.items st.inquiries.items x past c.args._out.now c.args.known.now c.heard-self.result keeps may.place rises _ _ _ _ (c.sync_all.ensures.any_moment tells apart)

pub returns-clause-session : goal.returns-clause-session
returns-clause-session g c = λ past node tells keeps may is. absurd (c.in_default.not-Node node is)

pub returns-clause-replicas : goal.returns-clause-replicas
returns-clause-replicas g c = λ tells. replicas_both _ _ (c.sync_all.ensures.replicas tells)

pub returns-clause-asked : goal.returns-clause-asked
returns-clause-asked g c = λ reader. inr (c.sync_all.ensures.asks reader)

pub returns-in-Node-clause-new_session : goal.returns-in-Node-clause-new_session
returns-in-Node-clause-new_session g c = λ node changed.
    let st = c.args.self.now in
    let met : Meets c.args.known.now c.in-Node.node st.owns.items c.meet_session.new.owns.items st.slots.items c.meet_session.new.slots.items st.inquiries.items c.meet_session.new.inquiries.items = record {
      own = c.meet_session.ensures.own ∙ c.any_session.ensures;
      another = λ apart. c.meet_session.ensures.another (λ is. apart (is ∙ c.any_session.ensures));
      same = λ is. c.meet_session.ensures.same (is ∙ sym c.any_session.ensures);
      others = c.meet_session.ensures.others;
    } in
    asked_new c.args.known.now c.in-Node.node st.owns.items c.meet_session.new.owns.items st.slots.items c.meet_session.new.slots.items st.inquiries.items c.meet_session.new.inquiries.items met node changed

pub returns-in-Node-clause-steps : goal.returns-in-Node-clause-steps
returns-in-Node-clause-steps g c =
    let st = c.args.self.now in
    let met : Meets c.args.known.now c.in-Node.node st.owns.items c.meet_session.new.owns.items st.slots.items c.meet_session.new.slots.items st.inquiries.items c.meet_session.new.inquiries.items = record {
      own = c.meet_session.ensures.own ∙ c.any_session.ensures;
      another = λ apart. c.meet_session.ensures.another (λ is. apart (is ∙ c.any_session.ensures));
      same = λ is. c.meet_session.ensures.same (is ∙ sym c.any_session.ensures);
      others = c.meet_session.ensures.others;
    } in
    step_met c.args.known.now c.args.at c.args.input.now _ st.down.items _ _ _ _ _ _ c.in-Node.node c.in-Node.is met

pub returns-then-not-is_time-clause-steps : goal.returns-then-not-is_time-clause-steps
returns-then-not-is_time-clause-steps g c =
    let left = ap (λ (downs : List Bool). is_sync c.args.at c.args.input.now && all_up downs) (sym c.deref.ensures.value) ∙ sym c.is_time.ensures ∙ c.if-not-is_time.true in
    step_still c.args.known.now c.args.at c.args.input.now _ c.args.self.now.down.items _ _ _ _ _ _ (λ node is. c.in_default.not-Node node is) left refl refl refl

pub returns-clause-steps : goal.returns-clause-steps
returns-clause-steps g c =
    let served_now = ap (λ (downs : List Bool). is_sync c.args.at c.args.input.now && all_up downs) (sym c.deref.ensures.value) ∙ sym c.is_time.ensures ∙ c.if-not-is_time.false in
    let e = c.heard-self.ensures in
    step_served c.args.known.now c.args.at c.args.input.now _ c.args.self.now.down.items _ _ _ _ _ _ (λ node is. c.in_default.not-Node node is) served_now refl (record {
      first = λ node write here not_over fresh. c.in_ok-sync_all.ensures.first node write here (λ over. not_over (subst (λ (n : ℕ). IsOver n (sent_of write)) e over)) fresh;
      second = λ node write here not_over old. c.in_ok-sync_all.ensures.second node write here (λ over. not_over (subst (λ (n : ℕ). IsOver n (sent_of write)) e over)) old;
      over = λ node write here over. c.in_ok-sync_all.ensures.over node write here (subst (λ (n : ℕ). IsOver n (sent_of write)) (sym e) over);
      asks = λ node. c.sync_all.ensures.asks node;
      answered = λ node asks asked there. c.in_ok-sync_all.ensures.there node asks asked there;
    })
