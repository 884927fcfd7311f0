-- A node whose log rests lets a block go, and its session gives it up or wants it otherwise: the nodes stand.
use Rattle.std.proofs.Common.{◌≡◌, ◌≢◌, ◌⊎◌, ⊎_elim, inl, inr, ◌∙◌, ℕ, ◌+◌, ◌<◌, false, List, Contains, Option, Some, None, refl, sym, ap, subst, arith}
use Rattle.std.specs.Prelude.{if◌then◌else◌, slice_get}
use Rattle.bx_base.specs.declared.names.Actor.TheVariants.{Node}
use Rattle.bx_base.specs.declared.names.Mode.{Mode}
use Rattle.bx_disk.specs.Disks.{Disks}
use Rattle.bx_facts.specs.declared.register.Register as register
use Rattle.bx_facts.specs.declared.store.Store as store
use Rattle.bx_facts.specs.Chains.{HasRow, LivesIn, last}
use Rattle.bx_facts.specs.Holds.{Hold, Holds, KeepsOthers, is_exclusive}
use Rattle.bx_facts.specs.Writes.{GoesOn, Sent}
use Rattle.bx_node_holds.proofs.Released.{let_go_at, with_holds}
use Rattle.bx_node_machines.specs.Machines as words
use Rattle.bx_node_machines.specs.Machines.{AreAbout, Fetch, IsAbout, IsAtWork, IsFetched, IsFetching, IsUnseen, MachineView, Scene, Stage, home_of}
use Rattle.bx_node_machines.proofs.Leaving.{given_on}
use Rattle.bx_node_machines.specs.Nodes.{NodesStand, hinted, known_of, scene_of, shown}
use Rattle.bx_node_views.specs.Changes.{Hides}
use Rattle.bx_node_events.proofs.Keeping.{keeping, shows_own}
use Rattle.bx_node_events.proofs.Unlogged.{none_in}
use Rattle.bx_facts.specs.declared.owners.Owners as owners
use Rattle.bx_global.specs.Allowed.{IsAllowed}
use Rattle.bx_node_events.proofs.Sparing.{claims_stay, recover_then}
use Rattle.bx_node_machines.specs.Recoveries.{IsActive, RecoversNone, SuitsStage, around_in}
use Rattle.bx_node_machines.proofs.Going.{SparesSlot}
use Rattle.bx_node_machines.proofs.Ongoing.{one_changes}
use Rattle.bx_places.specs.Places.{IsBlock, block_place}
use Rattle.bx_post.specs.declared.packets.Letter.{Letter}
use Rattle.bx_records.specs.Drafts.{Block as Content}
use Rattle.bx_rows.specs.Words.{row_in}
use Rattle.bx_rows.specs.declared.session.SessionRow.{SessionRow}
use Rattle.bx_views.specs.Attempts.{Deed}
use Rattle.bx_views.specs.Truths.{Held, Hints, Truth}
use Rattle.bx_volume.specs.Overlay.{IsUnlogged}
use Rattle.bx_volume.specs.Records.{Logged, newest_in}
use Rattle.bx_world_chains.proofs.Rows.{lives_of}
use Rattle.bx_world_standing.specs.Parts.{Clocks}
use Rattle.bx_world_standing.specs.Rights.{IsReached, IsWithin, Surely}
use Rattle.bx_world_standing.specs.Sessions.{IsOfNode}
use Rattle.bx_world_standing.specs.Standing.{Course, Known, SureOf, own_up}
use Rattle.bx_world_standing.proofs.Owns.{own_is}
use Rattle.bx_world_views.specs.Views.{Allows, AreApart}

-- What a node reads once it has let a block go: another block as before, or nothing that counts.
pub data LeavesFetch (block : ℕ) (before : Fetch) : Fetch → Type 0 where
  Drops : LeavesFetch block before words.Dropped
  Stays : ((mode : Mode) → before ≡ words.Block block mode → ⊥) → LeavesFetch block before before

-- what is held and stays held allows what it allowed
allows_still : (old new : Holds) (other block : ℕ) (mode : Mode) → ((hold : Hold) → old other block ≡ Some hold → new other block ≡ Some hold) → Allows (old other block) mode → Allows (new other block) mode
allows_still old new other block mode stays allowed = by (old other block) refl allowed
  where
    by : (found : Option Hold) → old other block ≡ found → Allows found mode → Allows (new other block) mode
    by None is none = absurd none
    by (Some hold) is some = subst (λ (h : Option Hold). Allows h mode) (sym (stays hold is)) some

module _ {G O S T : Type 0} (g : register.Ghosts G) (o : owners.Ghosts O) (st : store.Ghosts S) (Stands : Truth → Hints → T → Type 0) (Step : T → Deed → T → Type 0)
    (register_is : G) (owners_are owners_then : O) (store_is : S) (x : Disks) (letters then_letters : List Letter) (clocks : Clocks) (machines later : List MachineView) (c : Course) (tree : T)
    (node session block : ℕ) (row : SessionRow) (before : MachineView) (held : Held) (away : ℕ → Option Content) (hints : Hints) (fetch : Fetch) (holding : Holds) (floor : ℕ → ℕ)
    (stands : NodesStand g o st Stands Step register_is owners_are store_is x letters clocks machines c tree)
    (up : clocks.down (Node node) ≡ false) (own : o.own owners_are node ≡ Some session) (allowed : IsAllowed (last c.register.chain))
    (is_row : row_in (last c.register.chain).sessions session ≡ Some row) (lives : row.dead ≡ 0)
    (there : slice_get machines node ≡ Some before) (mark : before.session ≡ Some session) (rests : before.stage ≡ words.Idle)
    (then_there : slice_get later node ≡ Some (record before { held = held; away = away; hints = hints; fetch = fetch })) (others : (other : ℕ) → other ≢ node → slice_get later other ≡ slice_get machines other)
    (register_keeps : g.keeps register_is x (with_holds c then_letters holding floor).register) (owners_keep : o.keeps owners_then (with_holds c then_letters holding floor).owners)
    (store_keeps : st.keeps store_is x (with_holds c then_letters holding floor).store)
    (goes : GoesOn c.store.writes c.store.told.greatest (st.asked store_is) (st.settled store_is x c.store) (st.settled store_is x (with_holds c then_letters holding floor).store)
    (st.will_read store_is x c.store) (st.will_read store_is x (with_holds c then_letters holding floor).store) (st.stands store_is x c.store) (st.stands store_is x (with_holds c then_letters holding floor).store))
    (same_own : (other : ℕ) → o.own owners_then other ≡ o.own owners_are other)
    (keeps : KeepsOthers session block c.owners.holding holding) (apart : AreApart holding (HasRow (last c.register.chain)))
    (hides : Hides block before.held held) (home : (at : ℕ) → (away at ≡ before.away at) ⊎ (away at ≡ None)) (agree : Stands c.truth hints tree) (reads : LeavesFetch block before.fetch fetch)
    (free : (write : Sent) → Contains c.store.writes write → write.session ≡ session → is_exclusive (c.owners.holding session block) ≡ false) where
  abbrev known : Known
  known = known_of g o st Stands Step register_is owners_are store_is x letters clocks machines

  abbrev Before : Scene
  Before = scene_of g o st Stands Step register_is owners_are store_is x clocks.down machines c

  abbrev Then : Scene
  Then = scene_of g o st Stands Step register_is owners_then store_is x clocks.down later (with_holds c then_letters holding floor)

  abbrev Sure_before : ℕ → ℕ → List ℕ → Type 0
  Sure_before = SureOf g o st Stands Step register_is owners_are store_is x known c

  abbrev Sure_then : ℕ → ℕ → List ℕ → Type 0
  Sure_then = Surely (st.stands store_is x (with_holds c then_letters holding floor).store)
      (IsWithin (st.made store_is).devices (st.made store_is).areas c.register.chain holding floor (IsOfNode o.by_boot clocks) (λ n. c.store.told.knew (Node n))) c.store.writes c.store.told.greatest

  abbrev machine : MachineView
  machine = record before { held = held; away = away; hints = hints; fetch = fetch }

  mine : own_up clocks.down (o.own owners_are) node ≡ Some session
  mine = own_is clocks.down (o.own owners_are) node session up own

  live : LivesIn (last c.register.chain) session
  live = lives_of (last c.register.chain) session row is_row lives

  its : IsAbout (st.made store_is).devices (st.made store_is).areas Sure_before (st.will_read store_is x c.store node) Before node session row.slot before
  its = stands.about.each node session before row there mark mine is_row lives

  at_rest : IsAtWork (st.made store_is).devices (st.made store_is).areas Sure_before Before node session row.slot before words.Idle
  at_rest = subst (λ (stage : Stage). IsAtWork (st.made store_is).devices (st.made store_is).areas Sure_before Before node session row.slot before stage) rests its.work

  same_away : (at : ℕ) → away at ≡ before.away at
  same_away at = ⊎_elim (λ is. is) (λ none. none ∙ sym (at_rest.5 at ∙ ap (λ (l : List Logged). newest_in l at) at_rest.2)) (home at)

  same_up : (n : ℕ) → own_up clocks.down (o.own owners_then) n ≡ own_up clocks.down (o.own owners_are) n
  same_up n = ap (λ (its_own : Option ℕ). if clocks.down (Node n) then None else its_own) (same_own n)

  reads_on : (reader at : ℕ) → IsBlock (st.made store_is).areas at → IsUnlogged c.logs at → (i : ℕ) → i < 9 → st.asked store_is reader ≡ Some (home_of (st.made store_is).devices at)
      → st.will_read store_is x c.store reader ((block_place at (st.made store_is).devices).1 + i) (c.before (block_place at (st.made store_is).devices).0 ((block_place at (st.made store_is).devices).1 + i))
      → st.will_read store_is x (with_holds c then_letters holding floor).store reader ((block_place at (st.made store_is).devices).1 + i) (c.before (block_place at (st.made store_is).devices).0 ((block_place at (st.made store_is).devices).1 + i))
  reads_on reader at is unlogged i few asked was =
      let sure = stands.at.logs.homes at is unlogged i few in
      goes.reading reader ((block_place at (st.made store_is).devices).1 + i) (c.before (block_place at (st.made store_is).devices).0 ((block_place at (st.made store_is).devices).1 + i)) (home_of (st.made store_is).devices at) asked sure.only was

  -- what is read of another block is read on
  still_fetching : (was : Fetch) → ((mode : Mode) → was ≡ words.Block block mode → ⊥) → IsFetching (st.made store_is).devices (st.made store_is).areas (st.will_read store_is x c.store node) Before node session was → IsUnseen before.held was
      → IsFetching (st.made store_is).devices (st.made store_is).areas (st.will_read store_is x (with_holds c then_letters holding floor).store node) Then node session was × IsUnseen held was
  still_fetching words.Nothing other is unseen = (is, unseen)
  still_fetching (words.Block at mode) other is unseen = (
    record {
      is = is.is;
      allows = allows_still c.owners.holding holding session at mode (λ hold was. keeps.other_blocks at hold ne was) is.allows;
      unlogged = is.unlogged;
      unwritten = is.unwritten;
      asked = ⊎_elim (λ none. inl none) (λ asks. inr (asks.0, λ i few. reads_on node at is.is is.unlogged i few asks.0 (asks.1 i few))) is.asked;
    },
    λ way. hides.others at way ne ∙ unseen way,
  )
    where
      ne : at ≢ block
      ne e = other mode (ap (λ (n : ℕ). words.Block n mode) e)
  still_fetching words.Dropped other is unseen = (is, unseen)
  still_fetching words.OfLog other is unseen = (is, unseen)

  fetching : (then_fetch : Fetch) → LeavesFetch block before.fetch then_fetch
      → IsFetching (st.made store_is).devices (st.made store_is).areas (st.will_read store_is x (with_holds c then_letters holding floor).store node) Then node session then_fetch × IsUnseen held then_fetch
  fetching words.Dropped Drops = (tt, tt)
  fetching then_fetch (Stays other) = still_fetching before.fetch other its.fetch its.unseen

  -- Each index of a home that was reached is reached by what is held then.
  module _ (reaches : (place index : ℕ) → IsReached (st.made store_is).devices (st.made store_is).areas c.register.chain c.owners.holding c.owners.floor (IsOfNode o.by_boot clocks) (λ n. c.store.told.knew (Node n)) place index
      → IsReached (st.made store_is).devices (st.made store_is).areas c.register.chain holding floor (IsOfNode o.by_boot clocks) (λ n. c.store.told.knew (Node n)) place index) where
    sure_on : (d s : ℕ) (content : List ℕ) → SureOf g o st Stands Step register_is owners_are store_is x known c d s content → Sure_then d s content
    sure_on d s content sure = record {
      index = sure.index;
      is = goes.standing d s content sure.index sure.only sure.is;
      only = sure.only;
      within = record { most = sure.within.most; home = λ place is of. reaches place sure.index (sure.within.home place is of); slot = sure.within.slot };
    }

    shows_before : shown (slice_get machines node) (o.own owners_are node) ≡ before.held
    shows_before = shows_own (slice_get machines node) (o.own owners_are node) before session there own mark

    shows_then : shown (slice_get later node) (o.own owners_then node) ≡ held
    shows_then = shows_own (slice_get later node) (o.own owners_then node) machine session then_there (same_own node ∙ own) mark

    suits : (then_fetch : Fetch) → LeavesFetch block before.fetch then_fetch → SuitsStage before.stage before.fetch → SuitsStage before.stage then_fetch
    suits words.Dropped Drops was = subst (λ (stage : Stage). RecoversNone stage) (sym rests) tt
    suits then_fetch (Stays other) was = was

    spares : (other its_session slot : ℕ) → SparesSlot (st.made store_is).devices (st.made store_is).areas Sure_before Sure_then (st.will_read store_is x c.store other) (st.will_read store_is x (with_holds c then_letters holding floor).store other)
        (around_in Before other) (around_in Then other) its_session slot
    spares other its_session slot = record {
      logs = refl;
      slots = refl;
      before = λ d s inside. refl;
      asked = inl refl;
      out = inl refl;
      sent = λ write there_is whose. there_is;
      sure = λ d s content near is. sure_on d s content is;
      reads = λ asks s content was is near sure read. goes.reading other s content asks was sure.only read;
    }

    pub released : NodesStand g o st Stands Step register_is owners_then store_is x then_letters clocks later (with_holds c then_letters holding floor) tree
    released = record {
      at = let_go_at g o st Stands Step register_is owners_are owners_then store_is x known c tree node session block row then_letters holding floor (λ n. shown (slice_get later n) (o.own owners_then n)) (λ n. hinted (slice_get later n)) stands.at
          up own live is_row register_keeps owners_keep store_keeps (λ d s content index only is. goes.standing d s content index only is) same_own keeps apart reaches
          (λ inside. none_in c.logs c.slots row.slot block at_rest.2 at_rest.1 inside) free at_rest.4
          (record {
            here = λ mode. ap (λ (h : Held). h block mode) shows_then ∙ hides.here mode;
            others = λ other mode ne. ap (λ (h : Held). h other mode) shows_then ∙ hides.others other mode ne ∙ sym (ap (λ (h : Held). h other mode) shows_before);
          })
          (subst (λ (m : Option MachineView). Stands c.truth (hinted m) tree) (sym then_there) agree)
          (λ other ne. (
            ap (λ (m : Option MachineView). shown m (o.own owners_then other)) (others other ne) ∙ ap (λ (its_own : Option ℕ). shown (slice_get machines other) its_own) (same_own other),
            ap hinted (others other ne),
          ));
      about = keeping (st.made store_is).devices (st.made store_is).areas Sure_before Sure_then (st.will_read store_is x c.store) (st.will_read store_is x (with_holds c then_letters holding floor).store) (IsOfNode o.by_boot clocks) Before
          (slice_get later) (own_up clocks.down (o.own owners_then)) (st.out_of store_is) (st.asked store_is) holding node session before held away hints fetch
          stands.about same_up mine (λ other its_own. stands.single node other session mine its_own) there mark then_there others
          (λ other. refl) (λ other ne. refl) sure_on
          (λ other at mode ne allowed. allows_still c.owners.holding holding other at mode (λ hold was. keeps.other_sessions other at hold ne was) allowed)
          (λ reader at is unlogged i few still asked was. reads_on reader at is unlogged i few asked was) same_away (fetching fetch reads).0 (fetching fetch reads).1;
      recovering = recover_then g o st Stands Step register_is owners_are store_is x known c tree machines stands.at allowed Sure_then (st.will_read store_is x (with_holds c then_letters holding floor).store) c.register.chain (λ n. c.store.told.knew (Node n)) c.register.proposed Then
          stands.recovering (one_changes Before Then node before machine there then_there others same_up refl refl refl (λ gone recovery is. is) (suits fetch reads)) (omega arith) (λ gone low has. has)
          (λ other its_session one was row_then row_was gone slot its_stage active active_was of low claimed apart_is. inl (spares other its_session slot))
          (claims_stay g o st Stands Step register_is owners_are store_is x known c tree machines stands.at allowed (IsActive Then) (λ n. c.store.told.knew (Node n)) (λ other its_session one row_then active. omega arith))
          (λ other its_session one row_then gone its_stage active of under_way has. has);
      single = λ n other s is is_other. stands.single n other s (sym (same_up n) ∙ is) (sym (same_up other) ∙ is_other);
      told = λ n s is. stands.told n s (sym (same_up n) ∙ is);
      given = given_on machines later (last c.register.chain).next_session node before machine stands.given there then_there refl others;
    }
