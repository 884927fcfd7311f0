-- What nodes recover, they recover on where an event spares the slots of the logs.
use Rattle.std.proofs.Common.{◌≡◌, ◌≢◌, ◌⊎◌, ⊎_elim, inl, inr, ◌∙◌, ℕ, ◌<◌, ◌≤◌, true, Bool, List, Contains, length, Option, Some, sym, ap, subst, arith}
use Rattle.bx_base.specs.declared.names.Actor.TheVariants.{Node}
use Rattle.bx_disk.specs.Disks.{Disks}
use Rattle.bx_facts.specs.declared.owners.Owners as owners
use Rattle.bx_facts.specs.declared.register.Register as register
use Rattle.bx_facts.specs.declared.store.Store as store
use Rattle.bx_facts.specs.Chains.{Chain, HasRow, IsPlace, LivesIn, grown, last}
use Rattle.bx_facts.specs.Holds.{Holds}
use Rattle.bx_global.specs.Allowed.{IsAllowed, IsSession}
use Rattle.bx_global.specs.declared.change.Change.{Change}
use Rattle.bx_global.specs.declared.change.Change.TheVariants.{Close}
use Rattle.bx_global.specs.declared.state.GlobalState.{GlobalState}
use Rattle.bx_global.specs.Table.{IsLegal, effect}
use Rattle.bx_node_machines.specs.Machines as words
use Rattle.bx_node_machines.specs.Machines.{MachineView, Scene}
use Rattle.bx_node_machines.specs.Nodes.{scene_of}
use Rattle.bx_node_machines.specs.Recoveries.{AreRecovering, IsActive, RecoversNone, around_in}
use Rattle.bx_node_machines.specs.Recovering.{HasEnded, IsRecovering}
use Rattle.bx_node_machines.specs.bx_recover.specs.Recovering.{RecoveryView}
use Rattle.bx_node_machines.specs.bx_recover.specs.declared.stage.Stage.{Stage}
use Rattle.bx_node_machines.proofs.Going.{IsNear, SparesClosed, SparesSlot, ended_on, goes_on}
use Rattle.bx_node_machines.proofs.Ongoing.{HasNone, WasActive, none_recovered, recover_on}
use Rattle.bx_rows.specs.Words.{is_taken, row_in}
use Rattle.bx_rows.specs.declared.session.SessionRow.{SessionRow}
use Rattle.bx_views.specs.Attempts.{Deed}
use Rattle.bx_views.specs.Truths.{Hints, Truth}
use Rattle.bx_volume.specs.Overlay.{Logs}
use Rattle.bx_volume.specs.Records.{LogWhere, Logged}
use Rattle.bx_world_chains.specs.Entitled.{IsEntitled}
use Rattle.bx_world_chains.proofs.Changed.{closed_or}
use Rattle.bx_world_chains.proofs.Rows.{all_row, entitled_after, has_of, one_entitled, one_slot, taken_of}
use Rattle.bx_world_logs.specs.Logs.{IsLogOf, Slot, SlotStands}
use Rattle.bx_world_standing.specs.Rights.{MayTouch}
use Rattle.bx_world_standing.specs.Rights.MayTouch.{OfLogged, OfSlot}
use Rattle.bx_world_standing.specs.Standing.{Course, Known, StandsAt, SureOf}

-- What is near to a slot that is a session's to write, it may write.
pub near_touches : (devices areas : ℕ) (s : GlobalState) (holding : Holds) (logs : Logs) (slots : ℕ → Slot) (gone slot session d sector : ℕ) → slot < 8 → IsEntitled s gone slot session → IsNear devices areas slot (logs slot) d sector
    → MayTouch devices areas s holding logs slots session d sector
near_touches devices areas s holding logs slots gone slot session d sector low claimed (inl inside) = OfSlot gone slot low claimed inside
near_touches devices areas s holding logs slots gone slot session d sector low claimed (inr (block, is, some, home)) = OfLogged block gone slot is home low claimed (inl some)

-- A slot that a session has claimed isn't that of a live session.
pub apart_slots : (s : GlobalState) (gone slot session live : ℕ) (row : SessionRow) → IsAllowed s → IsEntitled s gone slot session → gone ≢ session → row_in s.sessions live ≡ Some row → row.dead ≡ 0 → slot ≢ row.slot
apart_slots s gone slot session live row allowed claimed other is lives same =
    let one : gone ≡ live = one_slot s.sessions gone live claimed.row row allowed.own_slots claimed.is is (claimed.at ∙ same) in
    ⊎_elim other (λ dead. same_row claimed.row row (row_in s.sessions live) (ap (λ (n : ℕ). row_in s.sessions n) (sym one) ∙ claimed.is) is dead.0 lives) claimed.whose
  where
    same_row : (a b : SessionRow) (found : Option SessionRow) → found ≡ Some a → found ≡ Some b → a.dead ≡ 1 → b.dead ≡ 0 → ⊥
    same_row a b found first second dead alive = let e : a ≡ b = cc in let f = ap (λ (r : SessionRow). r.dead) e in omega (arith, dead, f, alive)

module _ {G O S T : Type 0} (g : register.Ghosts G) (o : owners.Ghosts O) (st : store.Ghosts S) (Stands : Truth → Hints → T → Type 0) (Step_is : T → Deed → T → Type 0)
    (register_is : G) (owners_are : O) (store_is : S) (x : Disks) (known : Known) (c : Course) (tree : T)
    (at : StandsAt g o st Stands Step_is register_is owners_are store_is x known c tree) (gone slot session : ℕ) (allowed : IsAllowed (last c.register.chain)) (entitled : IsEntitled (last c.register.chain) gone slot session) where
  -- a slot that a session is entitled to is one of eight, and has a row
  pub slot_low : slot < 8
  slot_low = subst (λ (n : ℕ). n < 8) entitled.at ((all_row (IsSession (last c.register.chain).term_end) (last c.register.chain).sessions gone entitled.row allowed.each_session entitled.is).slot)

  pub taken : is_taken (last c.register.chain).sessions slot ≡ true
  taken = subst (λ (n : ℕ). is_taken (last c.register.chain).sessions n ≡ true) entitled.at (taken_of (last c.register.chain) gone entitled.row entitled.is)

  -- its log stands
  pub log_of : IsLogOf (SureOf g o st Stands Step_is register_is owners_are store_is x known c) (st.made store_is).devices (st.made store_is).areas c.before c.logs slot (c.slots slot)
  log_of = subst (λ (t : Bool). SlotStands (SureOf g o st Stands Step_is register_is owners_are store_is x known c) (st.made store_is).devices (st.made store_is).areas c.before t c.logs slot (c.slots slot)) taken (at.logs.each slot slot_low)

  -- and has at most eight records
  pub few_records : length (c.logs slot) ≤ 8
  few_records = (subst (λ (t : Bool). LogWhere t c.before (st.made store_is).devices (st.made store_is).areas slot (c.logs slot)) taken (at.logs.is_truth.has_logs slot slot_low)).most

-- A node that recovers nothing has no recovery but such as are over.
pub only_ended : (stage : words.Stage) (gone : ℕ) (its : Stage) → RecoversNone stage → HasEnded its ⊎ ((recovery : RecoveryView) × (stage ≡ words.Recovers gone recovery)) → HasEnded its
only_ended stage gone its none of = ⊎_elim (λ ended. ended) (λ under. absurd (none_recovered stage gone under.0 none under.1)) of

-- What was claimed as what the node knew shows, and stays so, it has claimed as what it knows then shows.
pub still_claimed : (chain : Chain) (gone slot session knew knew_then : ℕ) → knew ≤ knew_then → IsEntitled (last chain) gone slot session → ((s : GlobalState) → IsPlace chain s → knew ≤ s.index → IsEntitled s gone slot session)
    → IsEntitled (last chain) gone slot session × ((s : GlobalState) → IsPlace chain s → knew_then ≤ s.index → IsEntitled s gone slot session)
still_claimed chain gone slot session knew knew_then more claimed known = (claimed, λ s place less. known s place (omega (arith, more, less)))

-- A change that doesn't close the session, and leaves its own live, leaves the slot its own to write.
pub claimed_after : (chain : Chain) (change : Change) (knew gone slot session : ℕ) → IsAllowed (last chain) → IsLegal (last chain) change → LivesIn (last (grown chain change)) session → HasRow (last (grown chain change)) gone
    → IsEntitled (last chain) gone slot session → ((s : GlobalState) → IsPlace chain s → knew ≤ s.index → IsEntitled s gone slot session)
    → IsEntitled (last (grown chain change)) gone slot session × ((s : GlobalState) → IsPlace (grown chain change) s → knew ≤ s.index → IsEntitled s gone slot session)
claimed_after chain change knew gone slot session allowed legal lives has claimed known = (after, λ s place less. by s place less)
  where
    after : IsEntitled (last (grown chain change)) gone slot session
    after = entitled_after (last chain) change gone slot session allowed legal claimed lives has

    by : (s : GlobalState) → IsPlace (grown chain change) s → knew ≤ s.index → IsEntitled s gone slot session
    by s (inl same) less = subst (λ (state : GlobalState). IsEntitled state gone slot session) (sym same) after
    by s (inr place) less = known s place less

module _ {G O S T : Type 0} (g : register.Ghosts G) (o : owners.Ghosts O) (st : store.Ghosts S) (Stands : Truth → Hints → T → Type 0) (Step_is : T → Deed → T → Type 0)
    (register_is : G) (owners_are : O) (store_is : S) (x : Disks) (known : Known) (c : Course) (tree : T) (machines : List MachineView)
    (at : StandsAt g o st Stands Step_is register_is owners_are store_is x known c tree) (allowed_last : IsAllowed (last c.register.chain)) where
  abbrev Sure : ℕ → ℕ → List ℕ → Type 0
  Sure = SureOf g o st Stands Step_is register_is owners_are store_is x known c

  abbrev Before : Scene
  Before = scene_of g o st Stands Step_is register_is owners_are store_is x known.clocks.down machines c

  abbrev knew : ℕ → ℕ
  knew node = c.store.told.knew (Node node)

  -- A change that was proposed leaves the row of a session that was claimed, where it isn't the closing that the claimant proposes.
  pub row_stays : (gone slot session : ℕ) (change : Change) → IsEntitled (last c.register.chain) gone slot session → IsLegal (last c.register.chain) change → Contains c.register.proposed change → change ≢ Close gone session
      → HasRow (effect (last c.register.chain) change) gone
  row_stays gone slot session change claimed legal there apart = ⊎_elim
      (λ closed.
      let law = subst (λ (one : Change). IsLegal (last c.register.chain) one) closed.is legal in
      let stands = at.closings gone closed.by (subst (λ (one : Change). Contains c.register.proposed one) closed.is there) in
      let by = stands.entitled claimed.row law.row.1 claimed.is in
      let same = one_entitled (last c.register.chain) gone gone slot session closed.by allowed_last claimed (subst (λ (n : ℕ). IsEntitled (last c.register.chain) gone n closed.by) claimed.at by) in
      absurd (apart (closed.is ∙ ap (λ (n : ℕ). Close gone n) (sym same.1))))
      (λ goes. has_of (effect (last c.register.chain) change) gone goes.0 goes.1)
      (closed_or (last c.register.chain) change gone claimed.row claimed.is)

  module _ (Sure_then : ℕ → ℕ → List ℕ → Type 0) (Reads_then : ℕ → ℕ → List ℕ → Type 0) (later : Chain) (knew_then : ℕ → ℕ) (proposed_then : List Change) (new : Scene)
      (was : AreRecovering (st.made store_is).devices (st.made store_is).areas Sure (st.will_read store_is x c.store) c.register.chain knew c.register.proposed Before)
      (before : (node session : ℕ) (machine : MachineView) (row : SessionRow) → IsActive new node session machine row → WasActive Before node session machine ⊎ HasNone machine)
      (rises : (last c.register.chain).next_session ≤ (last later).next_session)
      (has : (gone : ℕ) → gone < (last c.register.chain).next_session → HasRow (last later) gone → HasRow (last c.register.chain) gone)
      (spares : (node session : ℕ) (machine one : MachineView) (row row_one : SessionRow) (gone slot : ℕ) (stage : Stage) → IsActive new node session machine row → IsActive Before node session one row_one
      → HasEnded stage ⊎ ((recovery : RecoveryView) × (machine.stage ≡ words.Recovers gone recovery)) → slot < 8 → IsEntitled (last c.register.chain) gone slot session → gone ≢ session
      → SparesSlot (st.made store_is).devices (st.made store_is).areas Sure Sure_then (st.will_read store_is x c.store node) (Reads_then node) (around_in Before node) (around_in new node) session slot
      ⊎ (HasEnded stage × SparesClosed (st.made store_is).devices (around_in Before node) (around_in new node) session slot))
      (claims : (node session : ℕ) (machine one : MachineView) (row row_one : SessionRow) (gone slot : ℕ) (stage : Stage) → IsActive new node session machine row → IsActive Before node session one row_one → (HasEnded stage → HasRow (last later) gone)
      → ((HasEnded stage → ⊥) → Contains c.register.proposed (Close gone session) → ⊥) → IsEntitled (last c.register.chain) gone slot session → ((s : GlobalState) → IsPlace c.register.chain s → knew node ≤ s.index → IsEntitled s gone slot session)
      → IsEntitled (last later) gone slot session × ((s : GlobalState) → IsPlace later s → knew_then node ≤ s.index → IsEntitled s gone slot session))
      (back : (node session : ℕ) (machine : MachineView) (row : SessionRow) (gone : ℕ) (stage : Stage) → IsActive new node session machine row → HasEnded stage ⊎ ((recovery : RecoveryView) × (machine.stage ≡ words.Recovers gone recovery)) → (HasEnded stage → ⊥)
      → Contains proposed_then (Close gone session) → Contains c.register.proposed (Close gone session)) where
    goes : (node session : ℕ) (machine one : MachineView) (row row_one : SessionRow) (gone slot : ℕ) (stage : Stage) (records : List Logged) → IsActive new node session machine row → IsActive Before node session one row_one
        → HasEnded stage ⊎ ((recovery : RecoveryView) × (machine.stage ≡ words.Recovers gone recovery)) → (HasEnded stage → HasRow (last later) gone)
        → IsRecovering (st.made store_is).devices (st.made store_is).areas Sure (st.will_read store_is x c.store node) c.register.chain (knew node) c.register.proposed (around_in Before node) session gone slot stage records
        → IsRecovering (st.made store_is).devices (st.made store_is).areas Sure_then (Reads_then node) later (knew_then node) proposed_then (around_in new node) session gone slot stage records
    goes node session machine one row row_one gone slot stage records active active_was of more it =
        let claim = claims node session machine one row row_one gone slot stage active active_was more it.unproposed it.claimed it.known in
        let low = slot_low g o st Stands Step_is register_is owners_are store_is x known c tree at gone slot session allowed_last it.claimed in
        ⊎_elim
        (λ spared. goes_on (st.made store_is).devices (st.made store_is).areas Sure Sure_then (st.will_read store_is x c.store node) (Reads_then node) (around_in Before node) (around_in new node) session slot spared low
        (log_of g o st Stands Step_is register_is owners_are store_is x known c tree at gone slot session allowed_last it.claimed)
        (few_records g o st Stands Step_is register_is owners_are store_is x known c tree at gone slot session allowed_last it.claimed)
        c.register.chain later (knew node) (knew_then node) c.register.proposed proposed_then gone stage records it claim.0 claim.1 (λ under_way there. back node session machine row gone stage active of under_way there))
        (λ over. ended_on (st.made store_is).devices (st.made store_is).areas Sure Sure_then (st.will_read store_is x c.store node) (Reads_then node) (around_in Before node) (around_in new node) session slot over.1
        c.register.chain later (knew node) (knew_then node) c.register.proposed proposed_then gone stage records over.0 it claim.0 claim.1)
        (spares node session machine one row row_one gone slot stage active active_was of low it.claimed it.other)

    -- So they recover what they recovered.
    pub recover_then : AreRecovering (st.made store_is).devices (st.made store_is).areas Sure_then Reads_then later knew_then proposed_then new
    recover_then = recover_on (st.made store_is).devices (st.made store_is).areas Sure Sure_then (st.will_read store_is x c.store) Reads_then c.register.chain later knew knew_then c.register.proposed proposed_then Before new was before rises has goes

  -- Where no chain grows, what was claimed stays so.
  pub claims_stay : (Now : ℕ → ℕ → MachineView → SessionRow → Type 0) (knew_then : ℕ → ℕ) → ((node session : ℕ) (machine : MachineView) (row : SessionRow) → Now node session machine row → knew node ≤ knew_then node)
      → (node session : ℕ) (machine one : MachineView) (row row_one : SessionRow) (gone slot : ℕ) (stage : Stage) → Now node session machine row → IsActive Before node session one row_one → (HasEnded stage → HasRow (last c.register.chain) gone)
      → ((HasEnded stage → ⊥) → Contains c.register.proposed (Close gone session) → ⊥) → IsEntitled (last c.register.chain) gone slot session → ((s : GlobalState) → IsPlace c.register.chain s → knew node ≤ s.index → IsEntitled s gone slot session)
      → IsEntitled (last c.register.chain) gone slot session × ((s : GlobalState) → IsPlace c.register.chain s → knew_then node ≤ s.index → IsEntitled s gone slot session)
  claims_stay Now knew_then more node session machine one row row_one gone slot stage now active_was ended unproposed claimed known =
      still_claimed c.register.chain gone slot session (knew node) (knew_then node) (more node session machine row now) claimed known
