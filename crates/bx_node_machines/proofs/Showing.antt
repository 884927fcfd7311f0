-- A node's cache changes, and nothing else: the nodes stand.
use Rattle.std.proofs.Common.{◌≡◌, ◌≢◌, ◌∙◌, ℕ, Bool, true, false, List, Option, Some, None, ap, subst, arith}
use Rattle.std.specs.Prelude.{if◌then◌else◌, slice_get}
use Rattle.std.proofs.lemmas.Bool.Decides.{nat_tests}
use Rattle.bx_base.specs.declared.names.Actor.TheVariants.{Node}
use Rattle.bx_disk.specs.Disks.{Disks}
use Rattle.bx_facts.specs.declared.register.Register as register
use Rattle.bx_facts.specs.declared.store.Store as store
use Rattle.bx_facts.specs.Chains.{HasRow, LivesIn, last}
use Rattle.bx_node_machines.specs.Machines.{MachineView, is_one}
use Rattle.bx_node_machines.specs.Nodes.{NodesStand, hinted, known_of, nothing_held, shown}
use Rattle.bx_node_views.proofs.Views as views
use Rattle.bx_facts.specs.declared.owners.Owners as owners
use Rattle.bx_post.specs.declared.packets.Letter.{Letter}
use Rattle.bx_views.specs.Attempts.{Deed}
use Rattle.bx_views.specs.Truths.{Held, Hints, Truth, no_hints}
use Rattle.bx_node_views.specs.bx_world_standing.specs.Parts.{Clocks}
use Rattle.bx_node_views.specs.bx_world_standing.specs.Standing.{Course, Known, StandsAt, own_up}
use Rattle.bx_node_views.specs.bx_world_standing.proofs.Owns.{own_is}
use Rattle.bx_world_views.specs.Views.{Unacknowledged, DoubtIn, ViewStands}

module _ {G O S T : Type 0} (g : register.Ghosts G) (o : owners.Ghosts O) (st : store.Ghosts S) (Stands : Truth → Hints → T → Type 0) (Step : T → Deed → T → Type 0)
    (register_is : G) (owners_are : O) (store_is : S) (x : Disks) where
  -- The whole, where one node's view and hints change.
  pub shown_at : (known : Known) (c : Course) (tree : T) (node : ℕ) (held : ℕ → Held) (hints : ℕ → Hints)
      → StandsAt g o st Stands Step register_is owners_are store_is x known c tree
      → ((other : ℕ) → other ≢ node → (held other ≡ known.held other) × (hints other ≡ known.hints other))
      → ((session : ℕ) → own_up known.clocks.down (o.own owners_are) node ≡ Some session → LivesIn (last c.register.chain) session → ViewStands c.owners.holding c.truth session (held node))
      → Stands c.truth (hints node) tree
      → StandsAt g o st Stands Step register_is owners_are store_is x (record known { held = held; hints = hints }) c tree
  shown_at known c tree node held hints at others here agrees = record {
    pasts = at.pasts;
    parts = at.parts;
    labels = at.labels;
    sessions = at.sessions;
    logs = at.logs;
    rights = at.rights;
    writes = at.writes;
    closings = at.closings;
    volume = views.shown Stands Step c.owners.holding (HasRow (last c.register.chain)) (LivesIn (last c.register.chain)) (own_up known.clocks.down (o.own owners_are)) known.held held known.hints hints c.doubts c.truth tree node
        at.volume others here agrees;
    doubted = at.doubted;
  }

  -- The whole, where the tree is another for which the truth stands with all hints that agreed.
  pub answered_at : (known : Known) (c : Course) (tree next : T) → ((hints : Hints) → Stands c.truth hints tree → Stands c.truth hints next)
      → StandsAt g o st Stands Step register_is owners_are store_is x known c tree → StandsAt g o st Stands Step register_is owners_are store_is x known c next
  answered_at known c tree next all at = record {
    pasts = at.pasts;
    parts = at.parts;
    labels = at.labels;
    sessions = at.sessions;
    logs = at.logs;
    rights = at.rights;
    writes = at.writes;
    closings = at.closings;
    volume = record {
      is = all no_hints at.volume.is;
      apart = at.volume.apart;
      rows = at.volume.rows;
      single = at.volume.single;
      views = at.volume.views;
      hinted = λ node. all (known.hints node) (at.volume.hinted node);
      in_doubt = λ session. by_doubt session (c.doubts session) (at.volume.in_doubt session);
    };
    doubted = at.doubted;
  }
    where
      by_doubt : (session : ℕ) (found : Option Unacknowledged) → DoubtIn Stands Step (HasRow (last c.register.chain)) c.owners.holding c.truth tree session found
          → DoubtIn Stands Step (HasRow (last c.register.chain)) c.owners.holding c.truth next session found
      by_doubt session None is = is
      by_doubt session (Some doubt) is = (is.0, record { view = is.1.view; hinted = all doubt.hints is.1.hinted; own = is.1.own; works = is.1.works })

  -- What the cache of a node shows, that has it under its live session, is the truth, and its hints agree.
  pub sees_truth : (letters : List Letter) (clocks : Clocks) (machines : List MachineView) (c : Course) (tree : T) (node session : ℕ) (machine : MachineView)
      → NodesStand g o st Stands Step register_is owners_are store_is x letters clocks machines c tree → clocks.down (Node node) ≡ false → o.own owners_are node ≡ Some session → LivesIn (last c.register.chain) session
      → slice_get machines node ≡ Some machine → machine.session ≡ Some session
      → ViewStands c.owners.holding c.truth session machine.held × Stands c.truth machine.hints tree
  sees_truth letters clocks machines c tree node session machine stands up own lives there mine = (
    subst (λ (h : Held). ViewStands c.owners.holding c.truth session h) shows (stands.at.volume.views node session (own_is clocks.down (o.own owners_are) node session up own) lives),
    subst (λ (m : Option MachineView). Stands c.truth (hinted m) tree) there (stands.at.volume.hinted node),
  )
    where
      one : is_one (Some session) (Some session) ≡ true
      one = grind (arith, nat_tests)

      shows : shown (slice_get machines node) (o.own owners_are node) ≡ machine.held
      shows = ap (λ (m : Option MachineView). shown m (o.own owners_are node)) there
          ∙ ap (λ (s : Option ℕ). if is_one machine.session s then machine.held else nothing_held) own
          ∙ ap (λ (s : Option ℕ). if is_one s (Some session) then machine.held else nothing_held) mine
          ∙ ap (λ (b : Bool). if b then machine.held else nothing_held) one

  -- Calls are answered: the nodes stand for the next tree.
  pub answered : (letters : List Letter) (clocks : Clocks) (machines : List MachineView) (c : Course) (tree next : T) → ((hints : Hints) → Stands c.truth hints tree → Stands c.truth hints next)
      → NodesStand g o st Stands Step register_is owners_are store_is x letters clocks machines c tree → NodesStand g o st Stands Step register_is owners_are store_is x letters clocks machines c next
  answered letters clocks machines c tree next all stands = record {
    at = answered_at (known_of g o st Stands Step register_is owners_are store_is x letters clocks machines) c tree next all stands.at;
    about = stands.about;
    recovering = stands.recovering;
    single = stands.single;
    told = stands.told;
    given = stands.given;
  }
