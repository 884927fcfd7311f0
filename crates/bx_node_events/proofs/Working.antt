-- What has to hold where a node sends a write; and the write of its log's work.
use Rattle.std.proofs.Common.{◌≡◌, ◌≢◌, ◌∙◌, inl, ℕ, ◌+◌, ◌<◌, ◌≤◌, false, true, List, ◌∷◌, length, Contains, Some, refl, sym, subst, arith}
use Rattle.bx_base.specs.declared.names.Actor.TheVariants.{Node}
use Rattle.bx_disk.specs.Disks.{Disks}
use Rattle.bx_facts.specs.declared.register.Register as register
use Rattle.bx_facts.specs.declared.store.Store as store
use Rattle.bx_facts.specs.Chains.{HasRow, LivesIn, last, oldest}
use Rattle.bx_facts.specs.Holds.{Hold}
use Rattle.bx_facts.specs.Writes.{Asked, IsOnly, Made, MayWrite, Sent, StorePast, WritesIn, WritesTo}
use Rattle.bx_global.specs.Allowed.{IsAllowed}
use Rattle.bx_node_landings.specs.bx_node_closings.proofs.Sends.{sends}
use Rattle.bx_node_machines.proofs.Owning as owning
use Rattle.bx_node_sends.proofs.Sent.{surely_on, with_write}
use Rattle.bx_facts.specs.declared.owners.Owners as owners
use Rattle.bx_places.specs.Places.{IsBlock, block_place, log_device}
use Rattle.bx_post.specs.declared.packets.Letter.{Letter}
use Rattle.bx_records.specs.declared.runs.Run.{Run}
use Rattle.bx_redo.specs.Steps.{writes}
use Rattle.bx_redo.specs.View.{LogView}
use Rattle.bx_rows.specs.Words.{row_in}
use Rattle.bx_rows.specs.declared.session.SessionRow.{SessionRow}
use Rattle.bx_views.specs.Attempts.{Deed}
use Rattle.bx_views.specs.Truths.{Hints, Truth}
use Rattle.bx_volume.specs.Overlay.{IsUnlogged, Logs}
use Rattle.bx_world_chains.proofs.Rows.{lives_of, one_slot, taken_of}
use Rattle.bx_world_logs.specs.Logs.{LogsStand, OfLog, Slot}
use Rattle.bx_world_logs.proofs.Regions.{home_in_none}
use Rattle.bx_world_standing.specs.Rights.{IsOfSlot, IsWithin, MayTouch, Surely}
use Rattle.bx_world_standing.specs.Rights.MayTouch.{OfSlot}
use Rattle.bx_world_standing.specs.Parts.{Clocks}
use Rattle.bx_world_standing.specs.Sessions.{IsOfNode}
use Rattle.bx_world_standing.specs.Standing.{Course, Known, StandsAt, SureOf}

-- what was done with a store, with a write that is sent, and letters
abbrev pub store_sent : StorePast → List Letter → Sent → StorePast
store_sent past letters write = record past { told = record past.told { letters = letters }; writes = write ∷ past.writes }

-- What a store says of a write that it was handed: what is out then, and what stands on.
pub record IsHanded {S : Type 0} (st : store.Ghosts S) (old new : S) (x : Disks) (past : StorePast) (letters : List Letter) (node : ℕ) (write : Sent) : Type 0 where
  pub keeps : st.keeps new x (store_sent past letters write)
  pub made : st.made new ≡ st.made old
  pub own : (other : ℕ) → st.own new other ≡ st.own old other
  pub others : (other : ℕ) → other ≢ node → st.out_of new other ≡ st.out_of old other
  pub asked : (other : ℕ) → st.asked new other ≡ st.asked old other
  pub is_out : st.out_of new node ≡ Some write
  pub stands : (d s : ℕ) (content : List ℕ) (index : ℕ) → IsOnly (write ∷ past.writes) past.told.greatest d s content → st.stands old x past d s content index → st.stands new x (store_sent past letters write) d s content index
  pub reads : (reader s : ℕ) (content : List ℕ) (asks : Asked) → st.asked old reader ≡ Some asks → IsOnly (write ∷ past.writes) past.told.greatest asks.device s content
      → st.will_read old x past reader s content → st.will_read new x (store_sent past letters write) reader s content

-- A session's write is handed to a store, and ends with its lease; once it may be sent, the store says what comes of it. The other parts fit that too; and by
-- their laws a session whose lease isn't past by every clock is live, and no other session has what a live one holds.
pub record IsSending {G O S : Type 0} (g : register.Ghosts G) (o : owners.Ghosts O) (st : store.Ghosts S) (register_is : G) (owners_are : O) (old new : S) (x : Disks) (c : Course) (letters : List Letter) (node session : ℕ) (write : Sent) : Type 0 where
  pub whose : write.session ≡ session
  pub once : (d s : ℕ) (content other : List ℕ) → WritesTo write d s content → WritesTo write d s other → other ≡ content
  pub handed : MayWrite c.store.writes c.store.told.greatest (last c.register.chain) write → IsHanded st old new x c.store letters node write
  pub relied : (other end : ℕ) → Contains c.owners.leases (other, end) → c.store.told.greatest ≤ end + 500 → LivesIn (last c.register.chain) other
  pub register_keeps : g.keeps register_is x (with_write c letters write).register
  pub owners_keep : o.keeps owners_are (with_write c letters write).owners
  pub end : (end : ℕ) × Contains c.owners.leases (session, end) × (write.until ≤ end)
  pub opened : session < (last c.register.chain).next_session
  pub alone : (one other block : ℕ) (hold : Hold) → LivesIn (last c.register.chain) one → HasRow (last c.register.chain) other → c.owners.holding one block ≡ Some hold → oldest c.register.chain ≤ other

-- what stands so behind a write that was sent, for a volume that the store is made for
abbrev pub SureBehind : {O S : Type 0} → owners.Ghosts O → store.Ghosts S → O → Made → S → Disks → Clocks → Course → List Letter → Sent → ℕ → ℕ → List ℕ → Type 0
SureBehind o st owners_are made new x clocks c letters write = Surely (st.stands new x (with_write c letters write).store)
    (IsWithin made.devices made.areas c.register.chain c.owners.holding c.owners.floor (IsOfNode o.by_boot clocks) (λ n. c.store.told.knew (Node n)))
    (write ∷ c.store.writes) c.store.told.greatest

-- A session may send a write: it may write each of its sectors, none of which is of another session's slot, or of a home that no log has; and the
-- logs stand without them.
pub record MaySend (devices areas : ℕ) (Sure_then : ℕ → ℕ → List ℕ → Type 0) (c : Course) (session : ℕ) (write : Sent) : Type 0 where
  pub may : (d sector : ℕ) (content : List ℕ) → WritesTo write d sector content → MayTouch devices areas (last c.register.chain) c.owners.holding c.logs c.slots session d sector
  pub elsewhere : (other d s : ℕ) (row : SessionRow) (content : List ℕ) → other ≢ session → row_in (last c.register.chain).sessions other ≡ Some row → WritesTo write d s content → IsOfSlot devices row.slot d s → ⊥
  pub homes : (block i : ℕ) (content : List ℕ) → IsBlock areas block → IsUnlogged c.logs block → i < 9 → WritesTo write (block_place block devices).0 ((block_place block devices).1 + i) content → ⊥
  pub logs : LogsStand Sure_then devices areas (last c.register.chain).sessions c.before c.logs c.slots c.truth

module _ {G O S T : Type 0} (g : register.Ghosts G) (o : owners.Ghosts O) (st : store.Ghosts S) (Stands : Truth → Hints → T → Type 0) (Step : T → Deed → T → Type 0)
    (register_is : G) (owners_are : O) (old : S) (x : Disks) (known : Known) (c : Course) (tree : T) (session : ℕ) (row : SessionRow) (log : LogView) (write : Sent)
    (at : StandsAt g o st Stands Step register_is owners_are old x known c tree) (allowed : IsAllowed (last c.register.chain))
    (is_row : row_in (last c.register.chain).sessions session ≡ Some row) (lives : row.dead ≡ 0)
    (same : log.slot ≡ row.slot) (device : log.device ≡ log_device row.slot (st.made old).devices) (many : log.count ≡ length (c.logs row.slot)) (doing : (c.slots row.slot).activity ≡ OfLog log.work)
    (runs : write.runs ≡ (writes log log.work).1) where
  as_runs : (d sector : ℕ) (content : List ℕ) → WritesTo write d sector content → WritesIn (writes log log.work).1 d sector content
  as_runs d sector content w = subst (λ (l : List Run). WritesIn l d sector content) runs w

  in_slot : (d sector : ℕ) (content : List ℕ) → WritesTo write d sector content → IsOfSlot (st.made old).devices row.slot d sector
  in_slot d sector content w = owning.of_slot (st.made old).devices (st.made old).areas (SureOf g o st Stands Step register_is owners_are old x known c) c.before (last c.register.chain) allowed c.owners.holding c.logs c.slots c.truth
      at.logs session row is_row lives log same device many doing d sector content (as_runs d sector content w)

  low : row.slot < 8
  low = owning.low (st.made old).devices (st.made old).areas (SureOf g o st Stands Step register_is owners_are old x known c) c.before (last c.register.chain) allowed c.owners.holding c.logs c.slots c.truth at.logs session row is_row lives

  -- Whatever the logs are, its session may write the sectors of its log's work.
  pub touches : (logs : Logs) (slots : ℕ → Slot) (d sector : ℕ) (content : List ℕ) → WritesTo write d sector content → MayTouch (st.made old).devices (st.made old).areas (last c.register.chain) c.owners.holding logs slots session d sector
  touches logs slots d sector content w = OfSlot session row.slot low (record { row = row; is = is_row; at = refl; lives = lives_of (last c.register.chain) session row is_row lives; whose = inl refl }) (in_slot d sector content w)

  -- The session may send the write of its log's work.
  pub of_work : (new : S) (letters : List Letter) (node : ℕ) → IsHanded st old new x c.store letters node write
      → MaySend (st.made old).devices (st.made old).areas (SureBehind o st owners_are (st.made old) new x known.clocks c letters write) c session write
  of_work new letters node handed = record {
    may = λ d sector content w. touches c.logs c.slots d sector content w;
    elsewhere = λ other d s its content ne is_its w inside.
        let e : its.slot ≡ row.slot = one_place d s its.slot inside (in_slot d s content w) in
        ne (one_slot (last c.register.chain).sessions other session its row allowed.own_slots is_its is_row e);
    homes = λ block i content is unlogged few w.
        let inside = in_slot (block_place block (st.made old).devices).0 ((block_place block (st.made old).devices).1 + i) content w in
        home_in_none block (st.made old).devices row.slot i low (record { from = inside.from; to = inside.to });
    logs = sends (SureOf g o st Stands Step register_is owners_are old x known c) (SureBehind o st owners_are (st.made old) new x known.clocks c letters write)
        (st.made old).devices (st.made old).areas (last c.register.chain).sessions c.before c.logs c.slots c.truth row.slot low (taken_of (last c.register.chain) session row is_row) at.logs
        (λ d s content apart sure. surely_on g o st Stands Step register_is owners_are old new x known c tree letters node session write at handed.stands d s content
        (λ other w. let on = owning.under_way (st.made old).devices (st.made old).areas (SureOf g o st Stands Step register_is owners_are old x known c) c.before (last c.register.chain) allowed c.owners.holding c.logs c.slots c.truth
        at.logs session row is_row lives log same device many doing d s other (as_runs d s other w) in let wrong : true ≡ false = sym on ∙ apart in cc) sure);
  }
    where
      one_place : (d s slot : ℕ) → IsOfSlot (st.made old).devices slot d s → IsOfSlot (st.made old).devices row.slot d s → slot ≡ row.slot
      one_place d s slot a b = let x1 = a.from in let x2 = a.to in let y1 = b.from in let y2 = b.to in omega (arith, x1, x2, y1, y2)
