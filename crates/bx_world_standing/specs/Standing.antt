-- How all machines of a cluster and their disks stand between two events.
use Rattle.std.specs.Prelude.{ℕ, Bool, if◌then◌else◌, List, Contains, Option, Some, None}
use Rattle.bx_base.specs.declared.names.Actor.{Actor}
use Rattle.bx_base.specs.declared.names.Actor.TheVariants.{Node}
use Rattle.bx_disk.specs.Disks.{Disks, Image}
use Rattle.bx_facts.specs.declared.register.Register as register
use Rattle.bx_facts.specs.declared.store.Store as store
use Rattle.bx_facts.specs.declared.owners.Owners as owners
use Rattle.bx_facts.specs.Chains.{HasRow, LivesIn, last, oldest}
use Rattle.bx_facts.specs.Holds.{OwnersPast}
use Rattle.bx_facts.specs.Pasts.{RegisterPast}
use Rattle.bx_facts.specs.Writes.{Made, Sent, StorePast}
use Rattle.bx_global.specs.declared.change.Change.TheVariants.{Close}
use Rattle.bx_post.specs.declared.packets.Letter.{Letter}
use Rattle.bx_views.specs.Attempts.{Deed}
use Rattle.bx_views.specs.Truths.{Held, Hints, Truth}
use Rattle.bx_world_logs.specs.bx_volume.specs.Overlay.{Logs}
use Rattle.bx_world_logs.specs.Logs.{LogsStand, Slot}
use Rattle.bx_world_views.specs.Views.{Unacknowledged, VolumeStands}
use Rattle.bx_world_standing.specs.Closings.{ClosingStands}
use Rattle.bx_world_standing.specs.Doubts.{DoubtsStand}
use Rattle.bx_world_standing.specs.Labels.{LabelsStand}
use Rattle.bx_world_standing.specs.Parts.{ArePasts, Clocks, PartsStand}
use Rattle.bx_world_standing.specs.Rights.{IsWithin, RightsStand, Surely, WritesStand}
use Rattle.bx_world_standing.specs.Sessions.{IsOfNode, SessionsStand}

-- the session of each node that is up
abbrev pub own_up : (Actor → Bool) → (ℕ → Option ℕ) → ℕ → Option ℕ
own_up down own node = if down (Node node) then None else own node

-- What the world knows besides its parts: the letters under way, clocks and who is down, what each node's cache shows, and its hints.
pub record Known : Type 0 where
  pub letters : List Letter
  pub clocks : Clocks
  pub held : ℕ → Held
  pub hints : ℕ → Hints

-- What was done, and what came of it: the pasts of register, owners and store; a content of the devices in which no record under way is open,
-- the logs, what is under way in each slot, what each block holds, and the records in doubt by session. No machine stores any of this.
pub record Course : Type 0 where
  pub register : RegisterPast
  pub owners : OwnersPast
  pub store : StorePast
  pub before : Image
  pub logs : Logs
  pub slots : ℕ → Slot
  pub truth : Truth
  pub doubts : ℕ → Option Unacknowledged

module _ {G O S T : Type 0} (g : register.Ghosts G) (o : owners.Ghosts O) (st : store.Ghosts S) (Stands : Truth → Hints → T → Type 0) (Step : T → Deed → T → Type 0)
    (register_is : G) (owners_are : O) (store_is : S) (x : Disks) where
  abbrev pub made_is : Made
  made_is = st.made store_is

  -- a sector stands so between two events, for all that may read it
  abbrev pub SureOf : Known → Course → ℕ → ℕ → List ℕ → Type 0
  SureOf known c = Surely (st.stands store_is x c.store)
      (IsWithin made_is.devices made_is.areas c.register.chain c.owners.holding c.owners.floor (IsOfNode o.by_boot known.clocks) (λ node. c.store.told.knew (Node node)))
      c.store.writes c.store.told.greatest

  -- Register, owners, store and disks stand for the tree: their pasts are one; labels, sessions, logs, rights, writes under way and closings that
  -- were proposed stand by the last state; and what is on the devices, in caches and in doubt stands for the tree.
  pub record StandsAt (known : Known) (c : Course) (tree : T) : Type 0 where
    pub pasts : ArePasts known.letters known.clocks c.register c.owners c.store
    pub parts : PartsStand g o st register_is owners_are store_is x known.clocks c.register c.owners c.store
    pub labels : LabelsStand made_is x
    pub sessions : SessionsStand o.by_boot c.register.chain known.clocks (own_up known.clocks.down (o.own owners_are)) (λ node. c.store.told.knew (Node node))
    pub logs : LogsStand (SureOf known c) made_is.devices made_is.areas (last c.register.chain).sessions c.before c.logs c.slots c.truth
    pub rights : RightsStand (last c.register.chain).sessions c.owners.holding (oldest c.register.chain) made_is.areas c.logs c.slots
    pub writes : WritesStand made_is.devices made_is.areas (last c.register.chain) c.owners.holding c.owners.leases c.logs c.slots c.store.writes
    pub closings : (gone by : ℕ) → Contains c.register.proposed (Close gone by) → ClosingStands made_is.devices (last c.register.chain) c.logs c.slots c.store.writes gone by
    pub volume : VolumeStands Stands Step c.owners.holding (HasRow (last c.register.chain)) (LivesIn (last c.register.chain)) (own_up known.clocks.down (o.own owners_are)) known.held known.hints c.doubts c.truth tree
    pub doubted : DoubtsStand (last c.register.chain).sessions c.slots c.doubts
