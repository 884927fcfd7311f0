-- What turns rely on goes on to hold: of a node that begins anew, whose calls change, or whose machine was handed an input.
use Rattle.std.proofs.Common.{◌≡◌, ◌≢◌, ◌⊎◌, ⊎_elim, inl, inr, ◌∙◌, ℕ, ◌%◌, ◌<◌, Option, Some, None, IfSome, refl, sym, ap, subst, arith}
use Rattle.std.specs.Prelude.{is_some, slice_get}
use Rattle.bx_facts.specs.declared.store.Store as store
use Rattle.bx_facts.specs.Writes.{Asked, Made}
use Rattle.bx_global.specs.declared.state.GlobalState.{GlobalState}
use Rattle.bx_node_steps.specs.Anew.{BeginsAnew, first_log, left_read}
use Rattle.bx_node_steps.specs.Logging.{FitsStage}
use Rattle.bx_node_steps.specs.Ready.{FitsFetch, IsReady, WasReady}
use Rattle.bx_node_steps.specs.declared.machine.Fetch.{Fetch}
use Rattle.bx_node_steps.specs.declared.machine.Machine.{Machine}
use Rattle.bx_node_steps.specs.declared.machine.Stage.{Stage}
use Rattle.bx_nodes.specs.Renewing.{Anew, Renews, Stays, own_row}
use Rattle.bx_nodes.specs.Standing.{BeReady}
use Rattle.bx_nodes.specs.Stopping.{HasNothing}
use Rattle.bx_nodes.specs.declared.nodes.Nodes.{Nodes}
use Rattle.bx_nodes.proofs.Machines.{if_some}
use Rattle.bx_places.specs.Places.{IsVolume, log_device}
use Rattle.bx_redo.specs.View.{HasRecordRoom, LogView}
use Rattle.bx_redo.specs.declared.work.Work.TheVariants as works
use Rattle.bx_rows.specs.declared.session.SessionRow.{SessionRow}
use Rattle.bx_views.specs.declared.engine.Engine as engine

-- ---- a node begins anew

module _ (made : Made) (areas : ℕ) (own : Option ℕ) (asked : Option Asked) (before after : Machine) (is : WasReady made areas asked before) where
  anew : (row : Option SessionRow) → IfSome row (λ r. r.slot < 8) → BeginsAnew row (is_some asked) before after → WasReady made areas asked after
  anew row low begins = record {
    before = asked;
    ready = record {
      volume = stood.volume;
      engine = stood.engine;
      devices = ap (λ (m : Machine). m.cache.devices) begins.only ∙ stood.devices;
      areas = ap (λ (m : Machine). m.cache.areas) begins.only ∙ stood.areas;
      is_slot = subst (λ (l : LogView). l.slot < 8) (sym log_is) (slot_low row low);
      device = subst (λ (l : LogView). l.device ≡ log_device l.slot made.devices) (sym log_is) (device_is row);
      room = subst (λ (l : LogView). HasRecordRoom l.work l.count) (sym log_is) (has_room row);
      fits = subst (λ (s : Stage). FitsStage after.cache.areas after.log s) (sym (ap (λ (m : Machine). m.stage) begins.only)) rests;
      fetch = subst (λ (f : Fetch). FitsFetch made.areas asked f) (sym (ap (λ (m : Machine). m.fetch) begins.only)) (left asked);
    };
    stays = inl refl;
  }
    where
      stood : IsReady made areas is.before before
      stood = is.ready

      log_is : after.log ≡ first_log made.devices row
      log_is = ap (λ (m : Machine). m.log) begins.only ∙ ap (λ (d : ℕ). first_log d row) stood.devices

      slot_low : (found : Option SessionRow) → IfSome found (λ r. r.slot < 8) → (first_log made.devices found).slot < 8
      slot_low None less = omega arith
      slot_low (Some r) less = less

      device_is : (found : Option SessionRow) → (first_log made.devices found).device ≡ log_device (first_log made.devices found).slot made.devices
      device_is None = refl
      device_is (Some r) = refl

      has_room : (found : Option SessionRow) → HasRecordRoom (first_log made.devices found).work (first_log made.devices found).count
      has_room None = tt
      has_room (Some r) = tt

      first_rests : (found : Option SessionRow) → ((first_log made.devices found).work ≡ works.Idle) × ((first_log made.devices found).count ≡ 0)
      first_rests None = (refl, refl)
      first_rests (Some r) = (refl, refl)

      rests : (after.log.work ≡ works.Idle) × (after.log.count ≡ 0)
      rests = let f = first_rests row in (ap (λ (l : LogView). l.work) log_is ∙ f.0, ap (λ (l : LogView). l.count) log_is ∙ f.1)

      left : (read : Option Asked) → FitsFetch made.areas read (left_read (is_some read))
      left None = refl
      left (Some asks) = refl

  pub renews_ready : (known : GlobalState) → IfSome (own_row own known) (λ r. r.slot < 8) → Renews own known (is_some asked) before after → WasReady made areas asked after
  renews_ready known low (Stays mine same) = subst (λ (m : Machine). WasReady made areas asked m) (sym same) is
  renews_ready known low (Anew other begins) = anew (own_row own known) low begins

-- ---- its calls change

pub ready_calls : (made : Made) (areas : ℕ) (asked : Option Asked) (before after : Machine) → after ≡ record before { calls = after.calls } → WasReady made areas asked before → WasReady made areas asked after
ready_calls made areas asked before after only is =
    let stood = is.ready in
    subst (λ (m : Machine). WasReady made areas asked m) (sym only) (record {
      before = is.before;
      ready = record {
        volume = stood.volume;
        engine = stood.engine;
        devices = stood.devices;
        areas = stood.areas;
        is_slot = stood.is_slot;
        device = stood.device;
        room = stood.room;
        fits = stood.fits;
        fetch = stood.fetch;
      };
      stays = is.stays;
    })

-- ---- its machine was handed an input

-- Its read is out as it was; or its session is another one, and no read is out.
pub ready_then : (made later : Made) (areas : ℕ) (own own_then : Option ℕ) (asked asked_then : Option Asked) (machine : Machine) → later ≡ made → (own_then ≢ own → asked_then ≡ None) → (own_then ≢ own) ⊎ (asked_then ≡ asked)
    → WasReady made areas asked machine → WasReady later areas asked_then machine
ready_then made later areas own own_then asked asked_then machine same_made new stays is =
    subst (λ (m : Made). WasReady m areas asked_then machine) (sym same_made)
    (record { before = is.before; ready = is.ready; stays = ⊎_elim (λ other. inr (new other)) (λ same. ⊎_elim (λ kept. inl (same ∙ kept)) (λ none. inr (same ∙ none)) is.stays) stays })

-- ---- it has nothing yet

zero_rem : (n : ℕ) → 0 % n ≡ 0
zero_rem n = search arith

pub first_ready : (made : Made) (areas : ℕ) (asked : Option Asked) (machine : Machine) → IsVolume made.devices made.areas → areas ≡ made.areas → asked ≡ None → HasNothing made.devices made.areas machine → WasReady made areas asked machine
first_ready made areas asked machine volume same none has = record {
  before = asked;
  ready = record {
    volume = volume;
    engine = same;
    devices = ap (λ c. c.devices) has.cache;
    areas = ap (λ c. c.areas) has.cache;
    is_slot = subst (λ (l : LogView). l.slot < 8) (sym has.log) (omega arith);
    device = subst (λ (l : LogView). l.device ≡ log_device l.slot made.devices) (sym has.log) (sym (zero_rem made.devices));
    room = subst (λ (l : LogView). HasRecordRoom l.work l.count) (sym has.log) tt;
    fits = subst (λ (s : Stage). FitsStage machine.cache.areas machine.log s) (sym has.idle) (ap (λ (l : LogView). l.work) has.log, ap (λ (l : LogView). l.count) has.log);
    fetch = subst (λ (f : Fetch). FitsFetch made.areas asked f) (sym has.reads) none;
  };
  stays = inl refl;
}

-- So of a node in its place.
pub ready_handed : {G O S E T : Type 0} (st : store.Ghosts S) (e : engine.Ghosts E T) (old new : Nodes G O S E T) (node : ℕ) → new.machines ≡ old.machines → new.engine ≡ old.engine → st.made new.store ≡ st.made old.store
    → (st.own new.store node ≢ st.own old.store node → st.asked new.store node ≡ None) → (st.own new.store node ≢ st.own old.store node) ⊎ (st.asked new.store node ≡ st.asked old.store node) → BeReady st e old node → BeReady st e new node
ready_handed st e old new node machines engine made another stays ready =
    subst (λ m. IfSome (slice_get m.items node) (WasReady (st.made new.store) (e.areas new.engine) (st.asked new.store node))) (sym machines)
    (subst (λ en. IfSome (slice_get old.machines.items node) (WasReady (st.made new.store) (e.areas en) (st.asked new.store node))) (sym engine)
    (if_some (slice_get old.machines.items node) (WasReady (st.made old.store) (e.areas old.engine) (st.asked old.store node)) (WasReady (st.made new.store) (e.areas old.engine) (st.asked new.store node))
    (λ machine is. ready_then (st.made old.store) (st.made new.store) (e.areas old.engine) (st.own old.store node) (st.own new.store node) (st.asked old.store node) (st.asked new.store node) machine made another stays is) ready))
