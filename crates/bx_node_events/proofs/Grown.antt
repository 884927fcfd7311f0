-- A change that was proposed is decided: each node is still about what its session has under way, and a session that is opened is fresh.
use Rattle.std.proofs.Common.{◌≡◌, ◌⊎◌, ⊎_elim, inl, inr, ℕ, ◌+◌, ◌<◌, ◌≤◌, Bool, false, List, [], Contains, Option, Some, None, refl, sym, subst, arith}
use Rattle.std.specs.Prelude.{IsSomeAnd, slice_get}
use Rattle.bx_base.specs.declared.names.Actor.TheVariants.{Node}
use Rattle.bx_disk.specs.Disks.{Disks}
use Rattle.bx_facts.specs.declared.register.Register as register
use Rattle.bx_facts.specs.declared.store.Store as store
use Rattle.bx_facts.specs.Chains.{HasRow, grown, last}
use Rattle.bx_facts.specs.Writes.{GoesOn, store_grown}
use Rattle.bx_global.specs.Allowed.{IsAllowed}
use Rattle.bx_global.specs.declared.change.Change.{Change}
use Rattle.bx_global.specs.declared.change.Change.TheVariants.{Close}
use Rattle.bx_global.specs.Table.{IsLegal}
use Rattle.bx_global.proofs.Rising.{next_rises}
use Rattle.bx_node_machines.specs.Machines.{AreAbout, IsFresh, IsWriting, MachineView, Scene, home_of}
use Rattle.bx_node_machines.specs.Nodes.{IsOfNode, known_of, scene_of}
use Rattle.bx_node_machines.proofs.Growing.{IsOld, grows_on}
use Rattle.bx_node_machines.proofs.Leaving.{Leaves}
use Rattle.bx_node_machines.proofs.Owning as owning
use Rattle.bx_facts.specs.declared.owners.Owners as owners
use Rattle.bx_node_events.proofs.Sparing.{claimed_after, recover_then, row_stays}
use Rattle.bx_node_machines.specs.Recoveries.{AreRecovering, IsActive, around_in}
use Rattle.bx_node_machines.specs.Recovering.{HasEnded}
use Rattle.bx_node_machines.specs.bx_recover.specs.declared.stage.Stage.{Stage}
use Rattle.bx_node_machines.proofs.Going.{SparesSlot}
use Rattle.bx_node_machines.proofs.Ongoing.{WasActive, ended_or}
use Rattle.bx_places.specs.Places.{block_place}
use Rattle.bx_post.specs.declared.packets.Letter.{Letter}
use Rattle.bx_records.specs.declared.runs.Run.{Run}
use Rattle.bx_rows.specs.Words.{is_taken, row_in}
use Rattle.bx_rows.specs.declared.session.SessionRow.{SessionRow}
use Rattle.bx_views.specs.Attempts.{Deed}
use Rattle.bx_views.specs.Truths.{Hints, Truth}
use Rattle.bx_volume.specs.Records.{LogWhere}
use Rattle.bx_world_chains.specs.Entitled.{AreAllowed, IsEntitled}
use Rattle.bx_world_chains.proofs.Chains.{has_less, last_place}
use Rattle.bx_world_chains.proofs.Changed.{was_or_new}
use Rattle.bx_world_chains.proofs.Rows.{below_next, has_before, has_of, lives_before, lives_of, row_before}
use Rattle.bx_world_chains.proofs.Sessions.{own_row}
use Rattle.bx_world_logs.specs.Logs.{SlotStands, idle}
use Rattle.bx_world_standing.specs.Parts.{Clocks}
use Rattle.bx_world_standing.specs.Rights.{MayTouch}
use Rattle.bx_world_standing.specs.Standing.{Course, StandsAt, SureOf, own_up}
use Rattle.bx_world_standing.proofs.Grown.{surely_goes}
use Rattle.bx_world_standing.proofs.Grows.{grown_course}
use Rattle.bx_world_standing.proofs.Owns.{of_before}
use Rattle.bx_world_views.specs.Views.{Unacknowledged}

either : (a b : ℕ) → (a < b) ⊎ (b ≤ a)
either a b = grind arith

module _ {G O S T : Type 0} (g : register.Ghosts G) (o : owners.Ghosts O) (st : store.Ghosts S) (Stands : Truth → Hints → T → Type 0) (Step : T → Deed → T → Type 0)
    (register_is register_then : G) (owners_are : O) (store_is : S) (x : Disks) (letters : List Letter) (clocks : Clocks) (machines : List MachineView) (c : Course) (tree : T) (change : Change)
    (at_first : StandsAt g o st Stands Step register_is owners_are store_is x (known_of g o st Stands Step register_is owners_are store_is x letters clocks machines) c tree)
    (about_first : AreAbout (st.made store_is).devices (st.made store_is).areas (SureOf g o st Stands Step register_is owners_are store_is x (known_of g o st Stands Step register_is owners_are store_is x letters clocks machines) c)
    (st.will_read store_is x c.store) (IsOfNode o.by_boot clocks) (scene_of g o st Stands Step register_is owners_are store_is x clocks.down machines c))
    (recovering_first : AreRecovering (st.made store_is).devices (st.made store_is).areas (SureOf g o st Stands Step register_is owners_are store_is x (known_of g o st Stands Step register_is owners_are store_is x letters clocks machines) c)
    (st.will_read store_is x c.store) c.register.chain (λ n. c.store.told.knew (Node n)) c.register.proposed (scene_of g o st Stands Step register_is owners_are store_is x clocks.down machines c))
    (given_first : (node session : ℕ) (machine : MachineView) → slice_get machines node ≡ Some machine → machine.session ≡ Some session → session < (last c.register.chain).next_session)
    (allowed : AreAllowed c.register.chain) (proposed : Contains c.register.proposed change) (legal : IsLegal (last c.register.chain) change)
    (goes : GoesOn c.store.writes c.store.told.greatest (st.asked store_is) (st.settled store_is x c.store) (st.settled store_is x (store_grown c.store change))
    (st.will_read store_is x c.store) (st.will_read store_is x (store_grown c.store change)) (st.stands store_is x c.store) (st.stands store_is x (store_grown c.store change))) where
  allowed_last : IsAllowed (last c.register.chain)
  allowed_last = allowed.each (last c.register.chain) (last_place c.register.chain)

  abbrev Before : Scene
  Before = scene_of g o st Stands Step register_is owners_are store_is x clocks.down machines c

  abbrev Then : Scene
  Then = scene_of g o st Stands Step register_then owners_are store_is x clocks.down machines (grown_course c change)

  abbrev Sure_before : ℕ → ℕ → List ℕ → Type 0
  Sure_before = SureOf g o st Stands Step register_is owners_are store_is x (known_of g o st Stands Step register_is owners_are store_is x letters clocks machines) c

  abbrev Sure_then : ℕ → ℕ → List ℕ → Type 0
  Sure_then = SureOf g o st Stands Step register_then owners_are store_is x (known_of g o st Stands Step register_then owners_are store_is x letters clocks machines) (grown_course c change)

  abbrev Touches : ℕ → ℕ → ℕ → Type 0
  Touches its d s = MayTouch (st.made store_is).devices (st.made store_is).areas (last c.register.chain) c.owners.holding c.logs c.slots its d s

  sure_on : (d s : ℕ) (content : List ℕ) → Sure_before d s content → Sure_then d s content
  sure_on = surely_goes c.register.chain change allowed_last legal (IsOfNode o.by_boot clocks) (of_before o.by_boot clocks) (st.made store_is).devices (st.made store_is).areas c.owners (λ n. c.store.told.knew (Node n))
      (st.stands store_is x c.store) (st.stands store_is x (store_grown c.store change)) c.store.writes c.store.told.greatest at_first.pasts.owners_chain allowed goes.standing

  -- a live row that was given out was live; and a row that wasn't is in a slot that was free
  rows : (its : ℕ) (row : SessionRow) → row_in (last (grown c.register.chain change)).sessions its ≡ Some row → row.dead ≡ 0 → IsOld (IsOfNode o.by_boot clocks) (last c.register.chain).sessions its row ⊎ ((last c.register.chain).next_session ≤ its)
  rows its row has lives = ⊎_elim
      (λ less.
      let was = row_before (last c.register.chain) change its row has less in
      let lived = lives_before (last c.register.chain) change its allowed_last (lives_of (last (grown c.register.chain change)) its row has lives) less in
      inl (record { before = was.old; is = was.is; lives = subst (λ (found : Option SessionRow). IsSomeAnd found (λ one. one.dead ≡ 0)) was.is lived; slot = sym was.goes.slot; of = λ node of. of_before o.by_boot clocks node was.old row was.goes of }))
      (λ more. inr more)
      (either its (last c.register.chain).next_session)

  given_out : (node its : ℕ) → own_up clocks.down (o.own owners_are) node ≡ Some its → its < (last c.register.chain).next_session
  given_out node its own =
      let t = at_first.sessions.told node its own in
      let row = own_row o.by_boot t.state node (clocks.boots (Node node)) its (allowed.each t.state t.place) t.by in
      has_less c.register.chain t.state its allowed t.place (has_of t.state its row.row row.is)

  opened : (node its : ℕ) (row : SessionRow) → row_in (last (grown c.register.chain change)).sessions its ≡ Some row → row.dead ≡ 0 → (last c.register.chain).next_session ≤ its → IsFresh Then node its row.slot
  opened node its row has lives more = ⊎_elim
      (λ was. absurd (let less = below_next (last c.register.chain).sessions (last c.register.chain).next_session its was.old allowed_last.rising was.is in omega (arith, less, more)))
      (λ free. record {
        none = shut_log free.0 free.1;
        still = shut_slot free.0 free.1;
        undoubted = undoubted (c.doubts its) refl;
        unwritten = λ own. absurd (let less = given_out node its own in omega (arith, less, more));
        unasked = λ own. absurd (let less = given_out node its own in omega (arith, less, more));
      })
      (was_or_new (last c.register.chain) change its row allowed_last legal has)
    where
      shut_log : row.slot < 8 → is_taken (last c.register.chain).sessions row.slot ≡ false → c.logs row.slot ≡ []
      shut_log low is_free = subst (λ (t : Bool). LogWhere t c.before (st.made store_is).devices (st.made store_is).areas row.slot (c.logs row.slot)) is_free (at_first.logs.is_truth.has_logs row.slot low)

      shut_slot : row.slot < 8 → is_taken (last c.register.chain).sessions row.slot ≡ false → (c.slots row.slot).activity ≡ idle
      shut_slot low is_free = (subst (λ (t : Bool). SlotStands Sure_before (st.made store_is).devices (st.made store_is).areas c.before t c.logs row.slot (c.slots row.slot)) is_free (at_first.logs.each row.slot low)).still

      undoubted : (found : Option Unacknowledged) → c.doubts its ≡ found → found ≡ None
      undoubted None is = refl
      undoubted (Some doubt) is = absurd (
          let had = at_first.doubted.only its doubt is in
          let less = below_next (last c.register.chain).sessions (last c.register.chain).next_session its had.0 allowed_last.rising had.1 in omega (arith, less, more))

  leaves : (node its : ℕ) (row : SessionRow) → Leaves (st.made store_is).devices (st.made store_is).areas (Touches its) Sure_before Sure_then (st.will_read store_is x c.store node) (st.will_read store_is x (store_grown c.store change) node) Before Then node its row.slot
  leaves node its row = record {
    of_slot = record { logs = refl; slots = refl; doubts = refl };
    none_out = λ none. none;
    none_asked = λ none. none;
    writing = λ runs touches writing. by_writing runs writing;
    reads = λ block mode was. record {
      is = was.is;
      allows = was.allows;
      unlogged = was.unlogged;
      unwritten = was.unwritten;
      asked = ⊎_elim
          (λ none. inl none)
          (λ some. inr (
            some.0,
            λ i few. goes.reading node ((block_place block (st.made store_is).devices).1 + i) (c.before (block_place block (st.made store_is).devices).0 ((block_place block (st.made store_is).devices).1 + i))
                (home_of (st.made store_is).devices block) some.0 (at_first.logs.homes block was.is was.unlogged i few).only (some.1 i few),
          ))
          was.asked;
    };
  }
    where
      by_writing : (runs : List Run) → IsWriting Sure_before its runs (st.out_of store_is node) c.store.writes → IsWriting Sure_then its runs (st.out_of store_is node) c.store.writes
      by_writing runs (inl flying) = inl flying
      by_writing runs (inr landed) = inr (record { none_out = landed.none_out; sure = λ d s content w. sure_on d s content (landed.sure d s content w) })

  -- Each node is about what it was about.
  pub about_grown : AreAbout (st.made store_is).devices (st.made store_is).areas Sure_then (st.will_read store_is x (store_grown c.store change)) (IsOfNode o.by_boot clocks) Then
  about_grown = grows_on (st.made store_is).devices (st.made store_is).areas Touches Sure_before Sure_then (st.will_read store_is x c.store) (st.will_read store_is x (store_grown c.store change)) (IsOfNode o.by_boot clocks) Before Then (last c.register.chain).next_session
      about_first (λ node. refl) (λ node. refl) rows (λ node its machine there marked. given_first node its machine there marked) opened
      (λ its slot. record { logs = refl; slots = refl; doubts = refl })
      (λ node its row is alive. leaves node its row)
      (λ node its machine row is alive about. owning.may_work (st.made store_is).devices (st.made store_is).areas Sure_before c.before (last c.register.chain) allowed_last c.owners.holding c.logs c.slots c.truth at_first.logs its row is alive
      (st.will_read store_is x c.store node) Before node machine refl refl about)

  -- whoever is active then was
  was_active : (node its : ℕ) (machine : MachineView) (row : SessionRow) → IsActive Then node its machine row → WasActive Before node its machine
  was_active node its machine row active = ⊎_elim
      (λ old. record {
        before = machine;
        row = old.before;
        active = record { there = active.there; marked = active.marked; own = active.own; is_row = old.is; lives = old.lives };
        stage = λ gone recovery is. is;
        finished = λ gone has. has;
        suits = λ is. is;
      })
      (λ more. absurd (let less = given_first node its machine active.there active.marked in omega (arith, less, more)))
      (rows its row active.is_row active.lives)

  spares : (node its slot : ℕ) → SparesSlot (st.made store_is).devices (st.made store_is).areas Sure_before Sure_then (st.will_read store_is x c.store node) (st.will_read store_is x (store_grown c.store change) node) (around_in Before node) (around_in Then node) its slot
  spares node its slot = record {
    logs = refl;
    slots = refl;
    before = λ d s inside. refl;
    asked = inl refl;
    out = inl refl;
    sent = λ write there whose. there;
    sure = λ d s content near is. sure_on d s content is;
    reads = λ asks s content was is near sure read. goes.reading node s content asks was sure.only read;
  }

  -- the session that is gone keeps its row while its recovery is under way
  keeps_row : (gone slot session : ℕ) (stage : Stage) → IsEntitled (last c.register.chain) gone slot session → ((HasEnded stage → ⊥) → Contains c.register.proposed (Close gone session) → ⊥) → (HasEnded stage → HasRow (last (grown c.register.chain change)) gone)
      → HasRow (last (grown c.register.chain change)) gone
  keeps_row gone slot session stage claimed unproposed ended = ⊎_elim
      (λ over. ended over)
      (λ under_way. row_stays g o st Stands Step register_is owners_are store_is x (known_of g o st Stands Step register_is owners_are store_is x letters clocks machines) c tree machines at_first allowed_last gone slot session change claimed legal proposed
      (λ same. unproposed under_way (subst (λ (one : Change). Contains c.register.proposed one) same proposed)))
      (ended_or stage)

  -- Each recovers what it recovered.
  pub recovering_grown : AreRecovering (st.made store_is).devices (st.made store_is).areas Sure_then (st.will_read store_is x (store_grown c.store change)) (grown c.register.chain change) (λ n. c.store.told.knew (Node n)) c.register.proposed Then
  recovering_grown = recover_then g o st Stands Step register_is owners_are store_is x (known_of g o st Stands Step register_is owners_are store_is x letters clocks machines) c tree machines at_first allowed_last
      Sure_then (st.will_read store_is x (store_grown c.store change)) (grown c.register.chain change) (λ n. c.store.told.knew (Node n)) c.register.proposed Then recovering_first
      (λ node its machine row active. inl (was_active node its machine row active))
      (next_rises (last c.register.chain) change)
      (λ gone low has. has_before (last c.register.chain) change gone has low)
      (λ node its machine one row row_one gone slot stage active active_was of low claimed other. inl (spares node its slot))
      (λ node its machine one row row_one gone slot stage active active_was ended unproposed claimed known.
      claimed_after c.register.chain change (c.store.told.knew (Node node)) gone slot its allowed_last legal (lives_of (last (grown c.register.chain change)) its row active.is_row active.lives)
      (keeps_row gone slot its stage claimed unproposed ended) claimed known)
      (λ node its machine row gone stage active of under_way there. there)

  pub given_grown : (node its : ℕ) (machine : MachineView) → slice_get machines node ≡ Some machine → machine.session ≡ Some its → its < (last (grown c.register.chain change)).next_session
  given_grown node its machine there marked = let less = given_first node its machine there marked in let more = next_rises (last c.register.chain) change in omega (arith, less, more)
