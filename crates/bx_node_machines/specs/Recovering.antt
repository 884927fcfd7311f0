-- Where a recovery stands between two events: what its node's write and read are, and how what it has goes with the log that it recovers.
use Rattle.std.specs.Prelude.{◌≡◌, ◌≢◌, ◌⊎◌, ℕ, ◌+◌, ◌<◌, ◌≤◌, true, false, List, [], ◌∷◌, Contains, length, reverse, Option, Some, None}
use Rattle.bx_base.specs.declared.names.Actor.TheVariants.{Node}
use Rattle.bx_disk.specs.Disks.{Disks, Image, sector_of}
use Rattle.bx_facts.specs.declared.owners.Owners as owners
use Rattle.bx_facts.specs.declared.register.Register as register
use Rattle.bx_facts.specs.declared.store.Store as store
use Rattle.bx_facts.specs.Chains.{Chain, IsPlace, last}
use Rattle.bx_facts.specs.Writes.{Asked, Sent}
use Rattle.bx_global.specs.declared.change.Change.{Change}
use Rattle.bx_global.specs.declared.change.Change.TheVariants.{Close}
use Rattle.bx_global.specs.declared.state.GlobalState.{GlobalState}
use Rattle.bx_node_machines.specs.Machines.{IsWriting}
use Rattle.bx_places.specs.Places.{body_place, gate_place}
use Rattle.bx_records.specs.declared.runs.Run.{Run}
use Rattle.bx_recover.specs.Done.{HasDone, RecoveryStep, WasRead}
use Rattle.bx_recover.specs.HomesOf.{home_runs}
use Rattle.bx_recover.specs.Recovering.{RecoveryView}
use Rattle.bx_recover.specs.declared.moves.Move.{Move}
use Rattle.bx_recover.specs.declared.moves.Move.TheVariants.{Read}
use Rattle.bx_recover.specs.declared.stage.Stage.{Stage}
use Rattle.bx_recover.specs.declared.stage.Stage.TheVariants.{Begins, Gates, Settles, Bodies, Told, Homes, Closes, Shuts, Closed}
use Rattle.bx_node_views.specs.bx_redo.specs.Homes.{AreItsHomes}
use Rattle.bx_node_views.specs.bx_redo.specs.Steps.{one_run, writes}
use Rattle.bx_node_views.specs.bx_redo.specs.declared.work.Work.{Work}
use Rattle.bx_node_views.specs.bx_redo.specs.declared.work.Work.TheVariants as works
use Rattle.bx_views.specs.Attempts.{Deed}
use Rattle.bx_views.specs.Truths.{Hints, Truth}
use Rattle.bx_node_views.specs.bx_volume.specs.Overlay.{Logs, filled_of}
use Rattle.bx_node_views.specs.bx_volume.specs.Records.{Logged, gate_of}
use Rattle.bx_node_views.specs.bx_world_chains.specs.Entitled.{IsEntitled}
use Rattle.bx_node_views.specs.bx_world_logs.specs.Logs.{Found, OfLog, Slot, opens, view_of, writes_in}
use Rattle.bx_node_views.specs.bx_world_standing.specs.Closings.{IsClosed}
use Rattle.bx_node_views.specs.bx_world_standing.specs.Standing.{Course, Known, SureOf}

-- What a recovery goes with: its node's write and read that are out, the writes that members may take, a content of the devices, and logs with what is under way in their slots.
pub record Around : Type 0 where
  pub out : Option Sent
  pub asked : Option Asked
  pub sent : List Sent
  pub before : Image
  pub logs : Logs
  pub slots : ℕ → Slot

-- a recovery of a slot that has read these records
abbrev pub recovery_of : ℕ → ℕ → ℕ → Stage → List Logged → RecoveryView
recovery_of slot devices areas stage records = record { slot = slot; devices = devices; areas = areas; stage = stage; records = records }

-- ---- what was read

module _ (devices : ℕ) (a : Around) (slot : ℕ) where
  -- nothing that is under way in the slot writes this gate
  abbrev pub IsStill : ℕ → Type 0
  IsStill gate = writes_in devices slot (length (a.logs slot)) (a.slots slot).activity (gate_place slot gate devices).0 (gate_place slot gate devices).1 ≡ false

  -- the gates are such as stand, but for those that are being written
  abbrev pub AreAsRead : List ℕ → Type 0
  AreAsRead gates = (gate : ℕ) → gate < 8 → IsStill gate → sector_of gates gate ≡ gate_of a.before devices slot gate

  -- a sector of a body is one that a record fills which is open, or whose gate is being opened
  abbrev pub IsFilled : ℕ → ℕ → Type 0
  IsFilled body i = ((body < length (a.logs slot)) ⊎ ((body ≡ length (a.logs slot)) × (opens (a.slots slot).activity ≡ true))) × (i < filled_of ((a.slots slot).more ∷ a.logs slot) body)

  -- bytes of a body are such as stand, as far as its record fills it
  abbrev pub IsBodyAsRead : ℕ → List ℕ → Type 0
  IsBodyAsRead body bytes = (i : ℕ) → i < 145 → IsFilled body i → sector_of bytes i ≡ a.before (body_place slot body devices).0 ((body_place slot body devices).1 + i)

-- the sectors of all gates; those of a body
abbrev pub gates_asked : ℕ → ℕ → Asked
gates_asked devices slot = record { device = (gate_place slot 0 devices).0; place = (gate_place slot 0 devices).1; count = 8 }

abbrev pub body_asked : ℕ → ℕ → ℕ → Asked
body_asked devices slot body = record { device = (body_place slot body devices).0; place = (body_place slot body devices).1; count = 145 }

-- what a recovery says where it asks for a body
abbrev pub body_read : ℕ → ℕ → ℕ → Move
body_read devices slot body = Read (body_place slot body devices).0 (body_place slot body devices).1 145

-- the runs that write gates back; those that close gate 0, or the others
abbrev pub gates_back : ℕ → ℕ → List ℕ → List Run
gates_back devices slot gates = (one_run 18 (gate_place slot 0 devices) gates).1

abbrev pub gates_shut : ℕ → ℕ → Work → List Run
gates_shut devices slot work = (writes (view_of devices slot 0 work) work).1

-- ---- where it stands

-- `Reads` says of a sector that each answer to the node's read that may come has this there.
module _ (devices : ℕ) (Reads : ℕ → List ℕ → Type 0) (a : Around) (slot : ℕ) where
  -- The gates are asked for, or not yet; each answer that may come has them as they stand, but for those that are being written.
  abbrev pub AreGatesAsked : Type 0
  AreGatesAsked = (a.asked ≡ None) ⊎ ((a.asked ≡ Some (gates_asked devices slot))
      × ((gate : ℕ) → gate < 8 → IsStill devices a slot gate → Reads (gate_place slot gate devices).1 (gate_of a.before devices slot gate)))

  -- So it is with a body, as far as its record fills it.
  abbrev pub IsBodyAsked : ℕ → Type 0
  IsBodyAsked body = (a.asked ≡ None) ⊎ ((a.asked ≡ Some (body_asked devices slot body))
      × ((i : ℕ) → i < 145 → IsFilled devices a slot body i → Reads ((body_place slot body devices).1 + i) (a.before (body_place slot body devices).0 ((body_place slot body devices).1 + i))))

-- these gates stand so, surely (`Sure` says that of a sector of a device)
abbrev pub AreSettled : ℕ → (ℕ → ℕ → List ℕ → Type 0) → ℕ → List ℕ → Type 0
AreSettled devices Sure slot gates = (gate : ℕ) → gate < 8 → Sure (gate_place slot gate devices).0 (gate_place slot gate devices).1 (sector_of gates gate)

-- no body was read; whatever was read of bodies is as it stands
abbrev pub HasReadNone : ℕ → ℕ → List RecoveryStep → Type 0
HasReadNone devices slot steps = (body : ℕ) (bytes : List ℕ) → WasRead steps (body_read devices slot body) bytes → ⊥

abbrev pub AreBodiesAsRead : ℕ → Around → ℕ → List RecoveryStep → Type 0
AreBodiesAsRead devices a slot steps = (body : ℕ) (bytes : List ℕ) → WasRead steps (body_read devices slot body) bytes → IsBodyAsRead devices a slot body bytes

-- the log is found, and has the records that were read
abbrev pub IsFound : Around → ℕ → List Logged → Type 0
IsFound a slot records = ((a.slots slot).activity ≡ Found) × (records ≡ reverse (a.logs slot))

module _ (devices areas : ℕ) (Sure : ℕ → ℕ → List ℕ → Type 0) (Reads : ℕ → List ℕ → Type 0) (a : Around) (session slot : ℕ) (records : List Logged) (steps : List RecoveryStep) where
  -- What goes with each stage, by what was done before it.
  abbrev pub IsAtStage : (stage : Stage) → HasDone (recovery_of slot devices areas stage records) steps stage → Type 0
  IsAtStage Begins done = (a.out ≡ None) × (a.asked ≡ None) × (steps ≡ [])
  IsAtStage Gates done = (a.out ≡ None) × AreGatesAsked devices Reads a slot × HasReadNone devices slot steps
  IsAtStage (Settles opened) done = (a.asked ≡ None) × AreAsRead devices a slot done.2.0 × HasReadNone devices slot steps × IsWriting Sure session (gates_back devices slot done.2.0) a.out a.sent
  IsAtStage (Bodies opened) done = (a.out ≡ None) × AreSettled devices Sure slot done.1.gates × AreBodiesAsRead devices a slot steps × IsBodyAsked devices Reads a slot (length records)
  IsAtStage Told done = (a.out ≡ None) × (a.asked ≡ None) × IsFound a slot records
  IsAtStage Homes done = (a.asked ≡ None) × IsFound a slot records × (0 < length (a.logs slot)) × AreItsHomes devices areas a.logs slot (home_runs devices done.2.0)
      × IsWriting Sure session (home_runs devices done.2.0) a.out a.sent
  IsAtStage Closes done = (a.asked ≡ None) × ((a.slots slot).activity ≡ OfLog works.Closes) × IsWriting Sure session (gates_shut devices slot works.Closes) a.out a.sent
  IsAtStage Shuts done = (a.asked ≡ None) × ((a.slots slot).activity ≡ OfLog works.Shuts) × IsWriting Sure session (gates_shut devices slot works.Shuts) a.out a.sent
  IsAtStage Closed done = IsClosed devices a.logs a.slots a.sent slot session

-- ---- of a live session that has claimed a dead one

-- it is over, and the node may propose that the session is closed
abbrev pub HasEnded : Stage → Type 0
HasEnded Begins = ⊥
HasEnded Gates = ⊥
HasEnded (Settles opened) = ⊥
HasEnded (Bodies opened) = ⊥
HasEnded Told = ⊥
HasEnded Homes = ⊥
HasEnded Closes = ⊥
HasEnded Shuts = ⊥
HasEnded Closed = Unit {0}

-- A node recovers the log of a session that is gone, which its own has claimed, as each state shows that is at least as late as what the node knows: the recovery is
-- at this stage, and has read these records.
pub record IsRecovering (devices areas : ℕ) (Sure : ℕ → ℕ → List ℕ → Type 0) (Reads : ℕ → List ℕ → Type 0) (chain : Chain) (knew : ℕ) (proposed : List Change) (a : Around) (session gone slot : ℕ) (stage : Stage) (records : List Logged) : Type 0 where
  pub claimed : IsEntitled (last chain) gone slot session
  pub known : (s : GlobalState) → IsPlace chain s → knew ≤ s.index → IsEntitled s gone slot session
  pub other : gone ≢ session
  pub unproposed : (HasEnded stage → ⊥) → Contains proposed (Close gone session) → ⊥
  pub steps : List RecoveryStep
  pub done : HasDone (recovery_of slot devices areas stage records) steps stage
  pub at : IsAtStage devices areas Sure Reads a session slot records steps stage done

module _ {G O S T : Type 0} (g : register.Ghosts G) (o : owners.Ghosts O) (st : store.Ghosts S) (Stands : Truth → Hints → T → Type 0) (Step_is : T → Deed → T → Type 0)
    (register_is : G) (owners_are : O) (store_is : S) (x : Disks) (known : Known) (c : Course) (node : ℕ) where
  -- what a node's recovery goes with
  abbrev pub around : Around
  around = record { out = st.out_of store_is node; asked = st.asked store_is node; sent = c.store.writes; before = c.before; logs = c.logs; slots = c.slots }

  -- the node recovers the log, where a cluster stands so
  abbrev pub Recovers : ℕ → ℕ → ℕ → Stage → List Logged → Type 0
  Recovers session gone slot stage records = IsRecovering (st.made store_is).devices (st.made store_is).areas (SureOf g o st Stands Step_is register_is owners_are store_is x known c) (st.will_read store_is x c.store node)
      c.register.chain (c.store.told.knew (Node node)) c.register.proposed around session gone slot stage records
