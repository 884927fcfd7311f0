-- The nodes of a new volume stand, on disks at rest.
use Rattle.std.proofs.Common.{◌≡◌, ◌⊎◌, ⊎_elim, ℕ, ◌<◌, ◌≤◌, Bool, List, [], Option, Some, None, refl, sym, ◌∙◌, ap, subst, arith}
use Rattle.std.specs.Prelude.{slice_get}
use Rattle.bx_base.specs.declared.names.Actor.TheVariants.{Node}
use Rattle.bx_disk.specs.Disks.{Disks, Image}
use Rattle.bx_facts.specs.declared.register.Register as register
use Rattle.bx_facts.specs.declared.store.Store as store
use Rattle.bx_facts.specs.Chains.{LivesIn, session_by}
use Rattle.bx_facts.specs.Holds.{opening_owners}
use Rattle.bx_facts.specs.Writes.{IsOfStore, IsSettled, NamesUpTo, opening_store, store_room}
use Rattle.bx_global.specs.Allowed.{IsAllowed}
use Rattle.bx_global.specs.declared.state.GlobalState.{GlobalState}
use Rattle.bx_node_machines.specs.Machines.{MachineView}
use Rattle.bx_node_machines.specs.Nodes.{NodesStand, hinted, known_of, nothing_held, shown}
use Rattle.bx_node_openings.specs.Opening.{AreNew, HaveNothing, opening_clocks}
use Rattle.bx_node_openings.specs.Resting.{VolumeRests}
use Rattle.bx_node_openings.proofs.Closed.{logs_closed}
use Rattle.bx_facts.specs.declared.owners.Owners as owners
use Rattle.bx_views.specs.Attempts.{Deed}
use Rattle.bx_views.specs.Truths.{Hints, Truth, no_hints}
use Rattle.bx_volume.specs.Records.{Logged}
use Rattle.bx_world_chains.proofs.Rows.{lives_of}
use Rattle.bx_world_chains.proofs.Sessions.{own_row}
use Rattle.bx_world_stays.specs.bx_world_standing.specs.Standing.{Known, StandsAt}
use Rattle.bx_world_stays.proofs.Begins.{begins, opening_course, opening_known}

-- What owners and a store promise of new ones.
pub record OpeningLaws {O S : Type 0} (o : owners.Ghosts O) (st : store.Ghosts S) : Type 0 where
  pub owners_begin : (one : O) (nodes : ℕ) (s : GlobalState) → o.is_new one → o.is_for one nodes s → IsAllowed s → o.keeps one (opening_owners s)
  pub owners_own : (one : O) (nodes : ℕ) (s : GlobalState) (node : ℕ) → o.is_new one → o.is_for one nodes s → node < nodes → o.own one node ≡ session_by o.by_boot s node 0
  pub stores_begin : (one : S) (x : Disks) (s : GlobalState) → st.is_new one → st.is_for one s → IsAllowed s → IsOfStore (st.made one) x s → NamesUpTo 0 s → st.keeps one x (opening_store s)
  pub stores_own : (one : S) (s : GlobalState) (node : ℕ) → st.is_new one → st.is_for one s → node < (st.made one).nodes → st.own one node ≡ session_by st.by_boot s node 0
  pub stores_idle : (one : S) (node : ℕ) → st.is_new one → (st.out_of one node ≡ None) × (st.asked one node ≡ None)
  pub stores_stand : (one : S) (x : Disks) (s : GlobalState) (device sector : ℕ) (content : List ℕ) → st.is_new one → device < (st.made one).devices → 1 ≤ sector → sector < store_room (st.made one)
      → IsSettled x s device sector content → st.stands one x (opening_store s) device sector content s.index

-- what nodes show that have nothing, and their hints
pub shows_nothing : (machines : List MachineView) (own : ℕ → Option ℕ) → HaveNothing machines → (node : ℕ) → shown (slice_get machines node) (own node) ≡ nothing_held
shows_nothing machines own nothing node = by (slice_get machines node) refl
  where
    by : (found : Option MachineView) → slice_get machines node ≡ found → shown found (own node) ≡ nothing_held
    by None none = refl
    by (Some machine) there = ap (λ (mark : Option ℕ). shown (Some (record machine { session = mark })) (own node)) (nothing.unmarked node machine there)

pub hints_nothing : (machines : List MachineView) → HaveNothing machines → (node : ℕ) → hinted (slice_get machines node) ≡ no_hints
hints_nothing machines nothing node = by (slice_get machines node) refl
  where
    by : (found : Option MachineView) → slice_get machines node ≡ found → hinted found ≡ no_hints
    by None none = refl
    by (Some machine) there = nothing.unhinted node machine there

pub is_unmarked : (machines : List MachineView) → HaveNothing machines → (node session : ℕ) (machine : MachineView) → slice_get machines node ≡ Some machine → machine.session ≡ Some session → ⊥
is_unmarked machines nothing node session machine there marked = let wrong : None ≡ Some session = sym (nothing.unmarked node machine there) ∙ marked in cc

module _ {G O S T : Type 0} (g : register.Ghosts G) (o : owners.Ghosts O) (st : store.Ghosts S) (Stands : Truth → Hints → T → Type 0) (Step : T → Deed → T → Type 0) (laws : OpeningLaws o st)
    (register_is : G) (owners_are : O) (store_is : S) (x : Disks) (machines : List MachineView) (s : GlobalState) (held : Image) (more : Logged) (truth : Truth) (tree : T)
    (new : AreNew g o st register_is owners_are store_is x s)
    (rests : VolumeRests (st.made store_is) x s held truth) (is : Stands truth no_hints tree)
    (nothing : HaveNothing machines) where
  -- whose sessions are, of nodes that are there and of others
  own_by : (node session : ℕ) → o.own owners_are node ≡ Some session → session_by o.by_boot s node 0 ≡ Some session
  own_by node session own = ⊎_elim
      (λ there. sym (laws.owners_own owners_are (st.made store_is).nodes s node new.owners_new new.owners_for there) ∙ own)
      (λ beyond. absurd (let wrong : None ≡ Some session = sym (new.no_owner node beyond) ∙ own in cc))
      (below_or node (st.made store_is).nodes)
    where
      below_or : (n m : ℕ) → (n < m) ⊎ (m ≤ n)
      below_or n m = grind arith

  same_own : (node : ℕ) → o.own owners_are node ≡ st.own store_is node
  same_own node = ⊎_elim
      (λ there. laws.owners_own owners_are (st.made store_is).nodes s node new.owners_new new.owners_for there ∙ ap (λ (b : Bool). session_by b s node 0) new.same_boots ∙ sym (laws.stores_own store_is s node new.store_new new.store_for there))
      (λ beyond. new.no_owner node beyond ∙ sym (new.no_writer node beyond))
      (below_or node (st.made store_is).nodes)
    where
      below_or : (n m : ℕ) → (n < m) ⊎ (m ≤ n)
      below_or n m = grind arith

  lives : (node session : ℕ) → o.own owners_are node ≡ Some session → LivesIn s session
  lives node session own = let row = own_row o.by_boot s node 0 session new.allowed (own_by node session own) in lives_of s session row.row row.is row.lives

  -- the cluster stands, and nothing is shown
  opened : StandsAt g o st Stands Step register_is owners_are store_is x opening_known (opening_course s held more truth) tree
  opened = begins g o st Stands Step register_is owners_are store_is x s held more truth tree
      new.register_keeps
      (λ who. let e = ap (λ (state : GlobalState). state.index) (new.knows who) in omega (arith, e))
      (laws.owners_begin owners_are (st.made store_is).nodes s new.owners_new new.owners_for new.allowed)
      (laws.stores_begin store_is x s new.store_new new.store_for new.allowed rests.members new.names)
      new.same_boots same_own own_by new.allowed rests.labels
      (λ device sector content there behind within settled. laws.stores_stand store_is x s device sector content new.store_new there behind within settled)
      (logs_closed (st.made store_is) x s held truth rests more) is

  same_known : opening_known ≡ known_of g o st Stands Step register_is owners_are store_is x [] opening_clocks machines
  same_known = λ i. record {
    letters = [];
    clocks = opening_clocks;
    held = λ node. sym (shows_nothing machines (o.own owners_are) nothing node) i;
    hints = λ node. sym (hints_nothing machines nothing node) i;
  }

  pub opens : NodesStand g o st Stands Step register_is owners_are store_is x [] opening_clocks machines (opening_course s held more truth) tree
  opens = record {
    at = subst (λ (known : Known). StandsAt g o st Stands Step register_is owners_are store_is x known (opening_course s held more truth) tree) same_known opened;
    about = record {
      each = λ node session machine row there marked own has live. absurd (is_unmarked machines nothing node session machine there marked);
      fresh = λ node session row of alone has live none. record {
        none = refl;
        still = refl;
        undoubted = refl;
        unwritten = λ own. (laws.stores_idle store_is node new.store_new).0;
        unasked = λ own. (laws.stores_idle store_is node new.store_new).1;
      };
      marked = λ node session machine row of there marked has live. absurd (is_unmarked machines nothing node session machine there marked);
    };
    recovering = record {
      under = λ node session machine row active gone recovery under_way. absurd (is_unmarked machines nothing node session machine active.there active.marked);
      finished = λ node session machine row active gone has has_row. absurd (is_unmarked machines nothing node session machine active.there active.marked);
      given = λ node session machine row active gone has. absurd (is_unmarked machines nothing node session machine active.there active.marked);
      suits = λ node session machine row active. absurd (is_unmarked machines nothing node session machine active.there active.marked);
    };
    single = λ node other session own also. opened.volume.single node other session own also (lives node session own);
    told = λ node session own. let e = ap (λ (state : GlobalState). state.index) (new.knows (Node node)) in omega (arith, e);
    given = λ node session machine there marked. absurd (is_unmarked machines nothing node session machine there marked);
  }
