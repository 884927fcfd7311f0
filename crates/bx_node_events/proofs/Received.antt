-- What a node has read is handed to it, or nothing has come yet: the nodes stand.
use Rattle.std.proofs.Common.{◌≡◌, ◌≢◌, ◌⊎◌, ⊎_elim, ◌∙◌, inl, inr, ℕ, ◌+◌, ◌-◌, ◌<◌, ◌≤◌, Bool, true, false, eqb, List, Option, Some, None, refl, sym, ap, subst, arith}
use Rattle.std.proofs.lemmas.Bool.Decides.{nat_tests}
use Rattle.std.specs.Prelude.{slice_get}
use Rattle.bx_base.specs.declared.names.Actor.TheVariants.{Node}
use Rattle.bx_base.specs.declared.names.Mode.{Mode}
use Rattle.bx_disk.specs.Disks.{Disks, sector_of}
use Rattle.bx_facts.specs.declared.register.Register as register
use Rattle.bx_facts.specs.declared.store.Store as store
use Rattle.bx_facts.specs.Chains.{last}
use Rattle.bx_facts.specs.Writes.{Asked, GoesOn, Made}
use Rattle.bx_layout.specs.Blocks.{SpellsBlock}
use Rattle.bx_node_machines.specs.Machines as words
use Rattle.bx_node_machines.specs.Machines.{AreAbout, Fetch, IsAbout, IsFetched, IsFetching, MachineView, Scene, home_of}
use Rattle.bx_node_machines.proofs.Leaving.{given_on}
use Rattle.bx_node_machines.specs.Nodes.{NodesStand, hinted, known_of, scene_of, shown}
use Rattle.bx_node_machines.proofs.Sending.{fetching}
use Rattle.bx_node_machines.proofs.Showing.{shown_at}
use Rattle.bx_node_events.proofs.Keeping.{keeping, shows_own}
use Rattle.bx_facts.specs.declared.owners.Owners as owners
use Rattle.bx_global.specs.Allowed.{IsAllowed}
use Rattle.bx_node_events.proofs.Sparing.{claims_stay, recover_then}
use Rattle.bx_node_machines.specs.Recoveries.{AreRecovering, IsActive}
use Rattle.bx_node_machines.proofs.Ongoing.{HasNone, WasActive, one_changes, same_active}
use Rattle.bx_places.specs.Places.{IsBlock, block_place}
use Rattle.bx_post.specs.declared.packets.Letter.{Letter}
use Rattle.bx_records.specs.Drafts.{Block}
use Rattle.bx_rows.specs.Words.{row_in}
use Rattle.bx_rows.specs.declared.session.SessionRow.{SessionRow}
use Rattle.bx_views.specs.Attempts.{Deed}
use Rattle.bx_views.specs.Truths.{Held, Hints, Truth}
use Rattle.bx_volume.specs.Overlay.{IsUnlogged}
use Rattle.bx_volume.proofs.OneTruth.{one_home}
use Rattle.bx_volume.proofs.Sizes.{length-block_text}
use Rattle.bx_world_standing.specs.Labels.{LabelsStand}
use Rattle.bx_world_standing.specs.Parts.{Clocks}
use Rattle.bx_world_standing.specs.Rights.{IsWithin, Surely}
use Rattle.bx_world_standing.specs.Sessions.{IsOfNode}
use Rattle.bx_world_standing.specs.Standing.{Course, Known, StandsAt, SureOf, own_up}
use Rattle.bx_world_standing.proofs.Owns.{own_is}
use Rattle.bx_world_stays.proofs.Stays.{stays}
use Rattle.bx_world_views.specs.Views.{Allows, ViewStands}

module _ {G O S T : Type 0} (g : register.Ghosts G) (o : owners.Ghosts O) (st : store.Ghosts S) (Stands : Truth → Hints → T → Type 0) (Step : T → Deed → T → Type 0)
    (register_is : G) (owners_are : O) (old new : S) (x : Disks) (letters : List Letter) (clocks : Clocks) (machines : List MachineView) (c : Course) (tree : T)
    (node session : ℕ) (row : SessionRow) (before : MachineView)
    (stands : NodesStand g o st Stands Step register_is owners_are old x letters clocks machines c tree)
    (up : clocks.down (Node node) ≡ false) (own : o.own owners_are node ≡ Some session) (allowed : IsAllowed (last c.register.chain))
    (is_row : row_in (last c.register.chain).sessions session ≡ Some row) (lives : row.dead ≡ 0)
    (there : slice_get machines node ≡ Some before) (mark : before.session ≡ Some session)
    (keeps : st.keeps new x c.store) (made : st.made new ≡ st.made old)
    (same : (other : ℕ) → (st.own new other ≡ st.own old other) × (st.out_of new other ≡ st.out_of old other))
    (elsewhere : (reader : ℕ) → reader ≢ node → st.asked new reader ≡ st.asked old reader)
    (goes : GoesOn c.store.writes c.store.told.greatest (st.asked new) (st.settled old x c.store) (st.settled new x c.store) (st.will_read old x c.store) (st.will_read new x c.store) (st.stands old x c.store) (st.stands new x c.store)) where
  devices : ℕ
  devices = (st.made old).devices

  areas : ℕ
  areas = (st.made old).areas

  abbrev known : Known
  known = known_of g o st Stands Step register_is owners_are old x letters clocks machines

  abbrev Before : Scene
  Before = scene_of g o st Stands Step register_is owners_are old x clocks.down machines c

  abbrev Sure_before : ℕ → ℕ → List ℕ → Type 0
  Sure_before = SureOf g o st Stands Step register_is owners_are old x known c

  abbrev SureBy : Made → ℕ → ℕ → List ℕ → Type 0
  SureBy m = Surely (st.stands new x c.store) (IsWithin m.devices m.areas c.register.chain c.owners.holding c.owners.floor (IsOfNode o.by_boot clocks) (λ n. c.store.told.knew (Node n))) c.store.writes c.store.told.greatest

  mine : own_up clocks.down (o.own owners_are) node ≡ Some session
  mine = own_is clocks.down (o.own owners_are) node session up own

  its : IsAbout (st.made old).devices (st.made old).areas Sure_before (st.will_read old x c.store node) Before node session row.slot before
  its = stands.about.each node session before row there mark mine is_row lives

  -- The cluster stands with the store that handed the answer out.
  stood : StandsAt g o st Stands Step register_is owners_are new x known c tree
  stood = stays g o st Stands Step register_is register_is owners_are owners_are old new x x known known c c.register c.owners c.store tree stands.at
      stands.at.pasts
      (record {
        register_keeps = stands.at.parts.register_keeps;
        owners_keep = stands.at.parts.owners_keep;
        store_keeps = keeps;
        owners_knew = stands.at.parts.owners_knew;
        store_knew = stands.at.parts.store_knew;
        same_boots = stands.at.parts.same_boots;
        own = λ n is_up. stands.at.parts.own n is_up ∙ sym (same n).0;
      })
      (subst (λ (m : Made). LabelsStand m x) (sym made) stands.at.labels) made
      (record { each = λ s block hold is. is }) (λ at. omega arith) (λ s end has. has) refl (omega arith)
      (λ d s content index only is. goes.standing d s content index only is)
      (λ n s its_row has its_lives is. (is, omega arith)) stands.at.sessions (λ n s is its_lives. inl is) (λ n other s is is_other its_lives. stands.single n other s is is_other) stands.at.volume.apart
      stands.at.closings (λ n s at mode block is its_lives has. has) (λ n. inl refl)

  sure_on : (d s : ℕ) (content : List ℕ) → SureOf g o st Stands Step register_is owners_are old x known c d s content → SureBy (st.made old) d s content
  sure_on d s content sure = record { index = sure.index; is = goes.standing d s content sure.index sure.only sure.is; only = sure.only; within = sure.within }

  reads_on : (reader block : ℕ) → IsBlock (st.made old).areas block → IsUnlogged c.logs block → (i : ℕ) → i < 9 → st.asked new reader ≡ st.asked old reader → st.asked old reader ≡ Some (home_of (st.made old).devices block)
      → st.will_read old x c.store reader ((block_place block (st.made old).devices).1 + i) (c.before (block_place block (st.made old).devices).0 ((block_place block (st.made old).devices).1 + i))
      → st.will_read new x c.store reader ((block_place block (st.made old).devices).1 + i) (c.before (block_place block (st.made old).devices).0 ((block_place block (st.made old).devices).1 + i))
  reads_on reader block is unlogged i few still asks was =
      let sure = stands.at.logs.homes block is unlogged i few in
      goes.reading reader ((block_place block (st.made old).devices).1 + i) (c.before (block_place block (st.made old).devices).0 ((block_place block (st.made old).devices).1 + i)) (home_of (st.made old).devices block) (still ∙ asks) sure.only was

  -- What is spelt by the bytes that are handed out is the truth's, and the session still holds it so.
  pub is_truth : (at : ℕ) (mode : Mode) (bytes : List ℕ) (block : Block) → before.fetch ≡ words.Block at mode → (st.asked old node ≡ None → ⊥)
      → ((sector : ℕ) (content : List ℕ) (asks : Asked) → st.will_read old x c.store node sector content → st.asked old node ≡ Some asks → asks.place ≤ sector → sector < asks.place + asks.count → sector_of bytes (sector - asks.place) ≡ content)
      → SpellsBlock block bytes → (c.truth at ≡ block) × Allows (c.owners.holding session at) mode × ((way : Mode) → before.held at way ≡ None)
  is_truth at mode bytes block is some promise spells = (
    one_home c.before (st.made old).devices at (c.truth at) block (stands.at.logs.is_truth.home at fetched.is fetched.unlogged)
        (record { is = spells.is; reads = record { each = λ i less. sym (sector i (let nine = length-block_text block spells.is in omega (arith, less, nine))) ∙ ap (λ (b : List ℕ). sector_of b i) spells.parts } }),
    fetched.allows,
    subst (λ (fetch : Fetch). words.IsUnseen before.held fetch) is its.unseen,
  )
    where
      fetched : IsFetched (st.made old).devices (st.made old).areas (st.will_read old x c.store node) Before node session at mode
      fetched = subst (λ (fetch : Fetch). IsFetching (st.made old).devices (st.made old).areas (st.will_read old x c.store node) Before node session fetch) is its.fetch

      sector : (i : ℕ) → i < 9 → sector_of bytes i ≡ c.before (block_place at (st.made old).devices).0 ((block_place at (st.made old).devices).1 + i)
      sector i few = ⊎_elim
          (λ none. absurd (some none))
          (λ asks.
          let place = (block_place at (st.made old).devices).1 in
          let e : place + i - place ≡ i = omega arith in
          ap (sector_of bytes) (sym e)
          ∙ promise (place + i) (c.before (block_place at (st.made old).devices).0 (place + i)) (home_of (st.made old).devices at) (asks.1 i few) asks.0 (omega arith) (omega (arith, few)))
          fetched.asked

  abbrev about_as : (m : Made) (later : List MachineView) → Type 0
  about_as m later = AreAbout m.devices m.areas (SureBy m) (st.will_read new x c.store) (IsOfNode o.by_boot clocks) (scene_of g o st Stands Step register_is owners_are new x clocks.down later c)

  abbrev recovering_as : (m : Made) (later : List MachineView) → Type 0
  recovering_as m later = AreRecovering m.devices m.areas (SureBy m) (st.will_read new x c.store) c.register.chain (λ n. c.store.told.knew (Node n)) c.register.proposed (scene_of g o st Stands Step register_is owners_are new x clocks.down later c)

  -- what nodes recover, where each one's read is as it was, or over
  recovers : (later : List MachineView) → ((other : ℕ) → (st.asked new other ≡ st.asked old other) ⊎ (st.asked new other ≡ None))
      → ((other its_session : ℕ) (one : MachineView) (its_row : SessionRow) → IsActive (scene_of g o st Stands Step register_is owners_are new x clocks.down later c) other its_session one its_row → WasActive Before other its_session one ⊎ HasNone one)
      → recovering_as (st.made new) later
  recovers later asked was = subst (λ (m : Made). recovering_as m later) (sym made)
      (recover_then g o st Stands Step register_is owners_are old x known c tree machines stands.at allowed (SureBy (st.made old)) (st.will_read new x c.store) c.register.chain (λ n. c.store.told.knew (Node n)) c.register.proposed
      (scene_of g o st Stands Step register_is owners_are new x clocks.down later c) stands.recovering was (omega arith) (λ gone low has. has)
      (λ other its_session one one_was its_row row_was gone slot stage active active_was of low claimed apart. inl (record {
        logs = refl;
        slots = refl;
        before = λ d s inside. refl;
        asked = asked other;
        out = inl (same other).1;
        sent = λ write has whose. has;
        sure = λ d s content near is. sure_on d s content is;
        reads = λ asks s content was_asked is near sure read. goes.reading other s content asks is sure.only read;
      }))
      (claims_stay g o st Stands Step register_is owners_are old x known c tree machines stands.at allowed (IsActive (scene_of g o st Stands Step register_is owners_are new x clocks.down later c)) (λ n. c.store.told.knew (Node n)) (λ other its_session one its_row active. omega arith))
      (λ other its_session one its_row gone stage active of under_way has. has))

  -- each other node's read is as it was
  asked_by : (st.asked new node ≡ st.asked old node) ⊎ (st.asked new node ≡ None) → (other : ℕ) → (st.asked new other ≡ st.asked old other) ⊎ (st.asked new other ≡ None)
  asked_by here other = by (eqb other node) refl
    where
      by : (b : Bool) → eqb other node ≡ b → (st.asked new other ≡ st.asked old other) ⊎ (st.asked new other ≡ None)
      by true is = let e : other ≡ node = grind (arith, nat_tests, is) in subst (λ (n : ℕ). (st.asked new n ≡ st.asked old n) ⊎ (st.asked new n ≡ None)) (sym e) here
      by false differ = inl (elsewhere other (λ e. grind (arith, nat_tests, differ, e)))

  -- Nothing has come yet.
  pub not_yet : st.asked new node ≡ st.asked old node → NodesStand g o st Stands Step register_is owners_are new x letters clocks machines c tree
  not_yet still = record {
    at = stood;
    about = subst (λ (m : Made). about_as m machines) (sym made)
        (keeping (st.made old).devices (st.made old).areas Sure_before (SureBy (st.made old)) (st.will_read old x c.store) (st.will_read new x c.store) (IsOfNode o.by_boot clocks) Before
        (slice_get machines) (own_up clocks.down (o.own owners_are)) (st.out_of new) (st.asked new) c.owners.holding node session before before.held before.away before.hints before.fetch
        stands.about (λ other. refl) mine (λ other is. stands.single node other session mine is) there mark there (λ other ne. refl)
        (λ other. (same other).1) elsewhere sure_on (λ other block mode ne allows. allows) reads_on (λ at. refl)
        (fetching (st.made old).devices (st.made old).areas (st.will_read old x c.store node) (st.will_read new x c.store node) Before (scene_of g o st Stands Step register_is owners_are new x clocks.down machines c) node session still before.fetch
        (λ block mode allows. allows) (λ block unlogged. unlogged) (λ block mode is allows unwritten. unwritten) (λ block is unlogged i few asks was. reads_on node block is unlogged i few still asks was) its.fetch)
        its.unseen);
    recovering = recovers machines (asked_by (inl still)) (λ other its_session one its_row active. inl (same_active Before other its_session one its_row (record { there = active.there; marked = active.marked; own = active.own; is_row = active.is_row; lives = active.lives })));
    single = stands.single;
    told = stands.told;
    given = stands.given;
  }

  -- It has come: the node reads nothing then, and shows what is the truth and held so.
  module _ (later : List MachineView) (held : Held) (away : ℕ → Option Block) (home : (at : ℕ) → away at ≡ before.away at)
      (then_there : slice_get later node ≡ Some (record before { held = held; away = away; fetch = words.Nothing })) (others : (other : ℕ) → other ≢ node → slice_get later other ≡ slice_get machines other) where
    abbrev machine : MachineView
    machine = record before { held = held; away = away; fetch = words.Nothing }

    pub received : st.asked new node ≡ None → ViewStands c.owners.holding c.truth session held → NodesStand g o st Stands Step register_is owners_are new x letters clocks later c tree
    received none view = record {
      at = shown_at g o st Stands Step register_is owners_are new x known c tree node (λ n. shown (slice_get later n) (o.own owners_are n)) (λ n. hinted (slice_get later n)) stood
          (λ other ne. (ap (λ (m : Option MachineView). shown m (o.own owners_are other)) (others other ne), ap hinted (others other ne)))
          (λ s is live. subst (λ (h : Held). ViewStands c.owners.holding c.truth s h) (sym (shows_own (slice_get later node) (o.own owners_are node) machine session then_there own mark))
          (subst (λ (n : ℕ). ViewStands c.owners.holding c.truth n held) (one_session session s (sym mine ∙ is)) view))
          (subst (λ (m : Option MachineView). Stands c.truth (hinted m) tree) (sym then_there) (subst (λ (m : Option MachineView). Stands c.truth (hinted m) tree) there (stands.at.volume.hinted node)));
      about = subst (λ (m : Made). about_as m later) (sym made)
          (keeping (st.made old).devices (st.made old).areas Sure_before (SureBy (st.made old)) (st.will_read old x c.store) (st.will_read new x c.store) (IsOfNode o.by_boot clocks) Before
          (slice_get later) (own_up clocks.down (o.own owners_are)) (st.out_of new) (st.asked new) c.owners.holding node session before held away before.hints words.Nothing
          stands.about (λ other. refl) mine (λ other is. stands.single node other session mine is) there mark then_there others
          (λ other. (same other).1) elsewhere sure_on (λ other block mode ne allows. allows) reads_on home none tt);
      recovering = recovers later (asked_by (inr none))
          (one_changes Before (scene_of g o st Stands Step register_is owners_are new x clocks.down later c) node before machine there then_there others (λ other. refl) refl refl refl (λ gone recovery is. is) (λ was. tt));
      single = stands.single;
      told = stands.told;
      given = given_on machines later (last c.register.chain).next_session node before machine stands.given there then_there refl others;
    }
      where
        one_session : (a b : ℕ) → Some a ≡ Some b → a ≡ b
        one_session a b e = cc
