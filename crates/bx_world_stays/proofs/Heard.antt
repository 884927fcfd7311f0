-- A machine was handed an input: letters come, a change may be handed back and proposed, the disk of the machine changes; a node may come to know of another session of its own.
use Rattle.std.proofs.Common.{◌≡◌, ◌≢◌, ◌⊎◌, ⊎_elim, inl, inr, ℕ, zero, suc, ◌≤◌, Bool, true, false, List, ◌∷◌, Contains, Option, Some, None, refl, sym, ◌∙◌, ap, subst, arith}
use Rattle.std.specs.Prelude.{if◌then◌else◌}
use Rattle.bx_base.specs.declared.names.Actor.{Actor}
use Rattle.bx_base.specs.declared.names.Actor.TheVariants.{Member, Node, Replica, Server}
use Rattle.bx_base.specs.declared.names.Mode.{Mode}
use Rattle.bx_disk.specs.Disks.{Disks}
use Rattle.bx_facts.specs.declared.register.Register as register
use Rattle.bx_facts.specs.declared.store.Store as store
use Rattle.bx_facts.specs.declared.owners.Owners as owners
use Rattle.bx_facts.specs.Chains.{HasRow, IsOwnersOwn, IsPlace, IsStoresOwn, LivesIn, last, session_by, with_change}
use Rattle.bx_facts.specs.Holds.{Holds, KeepsHolds, OwnersPast}
use Rattle.bx_facts.specs.Inputs.{greatest_with}
use Rattle.bx_facts.specs.declared.input.Input.{Input}
use Rattle.bx_facts.specs.declared.input.Input.TheVariants.{Packet, Tick, Synced}
use Rattle.bx_facts.specs.Machines.{is_same, put_at}
use Rattle.bx_facts.specs.Pasts.{Told, heard}
use Rattle.bx_facts.specs.Writes.{IsOnly}
use Rattle.bx_facts.proofs.Machines.{is_itself, is_one}
use Rattle.bx_global.specs.declared.change.Change.{Change}
use Rattle.bx_global.specs.declared.state.GlobalState.{GlobalState}
use Rattle.bx_global.specs.declared.change.Change.TheVariants.{Claim, Close, Expire, Open, Renew, Shift, Take}
use Rattle.bx_post.specs.declared.packets.Letter.{Letter}
use Rattle.bx_views.specs.Attempts.{Deed}
use Rattle.bx_records.specs.Drafts.{Block}
use Rattle.bx_views.specs.Truths.{Held, Hints, Truth}
use Rattle.bx_world_standing.specs.bx_world_chains.specs.Entitled.{AreAllowed}
use Rattle.bx_world_standing.specs.bx_world_chains.proofs.Rows.{lives_row}
use Rattle.bx_world_standing.specs.bx_world_views.specs.Views.{AreApart}
use Rattle.bx_world_standing.specs.Parts.{Clocks}
use Rattle.bx_world_standing.specs.Labels.{LabelsStand}
use Rattle.bx_world_standing.specs.Closings.{ClosingStands}
use Rattle.bx_world_standing.specs.Sessions.{IsTold, SessionsStand}
use Rattle.bx_world_standing.specs.Standing.{Course, Known, StandsAt, own_up}
use Rattle.bx_world_standing.proofs.Owns.{own_is, own_of}
use Rattle.bx_world_standing.proofs.Told.{own_of_node}
use Rattle.bx_world_stays.proofs.Stays.{stays}

abbrev pub IsNoNode : Actor → Type 0
IsNoNode (Node n) = ⊥
IsNoNode (Replica n) = Unit {0}
IsNoNode (Server n) = Unit {0}
IsNoNode (Member n) = Unit {0}

not_node : (who : Actor) → IsNoNode who → (node : ℕ) → is_same who (Node node) ≡ false
not_node (Node n) none node = absurd none
not_node (Replica n) none node = refl
not_node (Server n) none node = refl
not_node (Member n) none node = refl

-- what was told then, with these letters under way
abbrev pub told_then : Told → Actor → ℕ → Input → Option Change → List Letter → Told
told_then told who index input change letters = record (heard told who index input change) { letters = letters }

abbrev pub heard_clocks : Clocks → Input → Clocks
heard_clocks clocks input = record clocks { greatest = greatest_with clocks.greatest input }

abbrev pub heard_known : Known → Input → List Letter → Known
heard_known known input letters = record known { letters = letters; clocks = heard_clocks known.clocks input }

abbrev pub heard_course : Course → Actor → ℕ → Input → Option Change → Option Change → Option Change → List Letter → Holds → Course
heard_course c who index input owners_change store_change proposal letters holding = record c {
  register = record c.register { letters = letters; proposed = with_change proposal c.register.proposed };
  owners = record c.owners { told = told_then c.owners.told who index input owners_change letters; holding = holding };
  store = record c.store { told = told_then c.store.told who index input store_change letters };
}

rises_so : (a b : ℕ) (input : Input) → a ≤ b → greatest_with a input ≤ greatest_with b input
rises_so a b (Packet packet reading) less = omega (arith, less)
rises_so a b (Tick reading) less = omega (arith, less)
rises_so a b Synced less = less

rises_then : (a : ℕ) (input : Input) → a ≤ greatest_with a input
rises_then a (Packet packet reading) = omega arith
rises_then a (Tick reading) = omega arith
rises_then a Synced = omega arith

has_more : (change : Option Change) (handed : List Change) (one : Change) → Contains handed one → Contains (with_change change handed) one
has_more None handed one has = has
has_more (Some change) handed one (k, less, is) = (suc k, omega (arith, less), is)

owners_more : (change : Option Change) (handed : List Change) (one : Change) → IsOwnersOwn handed one → IsOwnersOwn (with_change change handed) one
owners_more change handed (Renew by boot reading) has = has_more change handed (Renew by boot reading) has
owners_more change handed (Take by boot reading) has = has_more change handed (Take by boot reading) has
owners_more change handed (Open node boot reading) has = has_more change handed (Open node boot reading) has
owners_more change handed (Expire session term reading) has = has_more change handed (Expire session term reading) has
owners_more change handed (Claim gone by) has = has
owners_more change handed (Close gone by) has = has
owners_more change handed (Shift device epoch mode second boot) has = has

store_more : (change : Option Change) (handed : List Change) (one : Change) → IsStoresOwn handed one → IsStoresOwn (with_change change handed) one
store_more change handed (Shift device epoch mode second boot) has = has_more change handed (Shift device epoch mode second boot) has
store_more change handed (Renew by boot reading) has = has
store_more change handed (Take by boot reading) has = has
store_more change handed (Open node boot reading) has = has
store_more change handed (Expire session term reading) has = has
store_more change handed (Claim gone by) has = has
store_more change handed (Close gone by) has = has

-- what is proposed by a machine that is no node: owners or store handed it back, and it closes no session
pub record IsProposal (owners_handed store_handed : List Change) (change : Change) : Type 0 where
  pub owners_own : IsOwnersOwn owners_handed change
  pub stores_own : IsStoresOwn store_handed change
  pub no_close : (gone by : ℕ) → change ≢ Close gone by

-- the newest is it, or it was there
was_there : (new : Change) (handed : List Change) (one : Change) → Contains (new ∷ handed) one → (new ≡ one) ⊎ Contains handed one
was_there new handed one (zero, less, is) = inl is
was_there new handed one (suc k, less, is) = inr (k, omega (arith, less), is)

module _ {G O S T : Type 0} (g : register.Ghosts G) (o : owners.Ghosts O) (st : store.Ghosts S) (Stands : Truth → Hints → T → Type 0) (Step : T → Deed → T → Type 0) where
  -- What a machine that was handed an input leaves, by what it leaves of the nodes' own sessions and of what caches show.
  heard_so : (register_is register_then : G) (owners_are owners_then : O) (store_is store_then : S) (x y : Disks) (known : Known) (c : Course) (tree : T)
      (who : Actor) (index : ℕ) (input : Input) (owners_change store_change proposal : Option Change) (letters : List Letter) (holding : Holds) (held : ℕ → Held)
      → StandsAt g o st Stands Step register_is owners_are store_is x known c tree
      → g.keeps register_then y (record c.register { letters = letters; proposed = with_change proposal c.register.proposed })
      → ((other : Actor) → (g.knows register_is other).index ≤ (g.knows register_then other).index)
      → index ≤ (g.knows register_then who).index
      → ((change : Change) → proposal ≡ Some change → IsProposal (with_change owners_change c.owners.told.handed) (with_change store_change c.store.told.handed) change)
      → o.keeps owners_then (record c.owners { told = told_then c.owners.told who index input owners_change letters; holding = holding })
      → KeepsHolds c.owners.holding holding
      → st.keeps store_then y (record c.store { told = told_then c.store.told who index input store_change letters })
      → ((d s : ℕ) (content : List ℕ) (at : ℕ) → IsOnly c.store.writes c.store.told.greatest d s content → st.stands store_is x c.store d s content at
      → st.stands store_then y (record c.store { told = told_then c.store.told who index input store_change letters }) d s content at)
      → st.made store_then ≡ st.made store_is
      → LabelsStand (st.made store_is) y
      → ((past : OwnersPast) → o.keeps owners_then past → AreApart past.holding (HasRow (last past.told.chain)))
      → ((node : ℕ) → known.clocks.down (Node node) ≡ false → o.own owners_then node ≡ st.own store_then node)
      → ((node : ℕ) → c.store.told.knew (Node node) ≤ put_at who index c.store.told.knew (Node node))
      → SessionsStand o.by_boot c.register.chain (heard_clocks known.clocks input) (own_up known.clocks.down (o.own owners_then)) (λ node. put_at who index c.store.told.knew (Node node))
      → ((node session : ℕ) → own_up known.clocks.down (o.own owners_then) node ≡ Some session → LivesIn (last c.register.chain) session
      → (own_up known.clocks.down (o.own owners_are) node ≡ Some session) ⊎ ((at : ℕ) (mode : Mode) → held node at mode ≡ None))
      → ((node other session : ℕ) → own_up known.clocks.down (o.own owners_then) node ≡ Some session → own_up known.clocks.down (o.own owners_then) other ≡ Some session → LivesIn (last c.register.chain) session → other ≡ node)
      → ((node session at : ℕ) (mode : Mode) (block : Block) → own_up known.clocks.down (o.own owners_then) node ≡ Some session → LivesIn (last c.register.chain) session → held node at mode ≡ Some block → known.held node at mode ≡ Some block)
      → StandsAt g o st Stands Step register_then owners_then store_then y (record (heard_known known input letters) { held = held }) (heard_course c who index input owners_change store_change proposal letters holding) tree
  heard_so register_is register_then owners_are owners_then store_is store_then x y known c tree who index input owners_change store_change proposal letters holding held at register_keeps rises knows proposes owners_keep keeps store_keeps stands made labels apart own more sessions owns single shows =
      stays g o st Stands Step register_is register_then owners_are owners_then store_is store_then x y known (record (heard_known known input letters) { held = held }) c
      (record c.register { letters = letters; proposed = with_change proposal c.register.proposed })
      (record c.owners { told = told_then c.owners.told who index input owners_change letters; holding = holding })
      (record c.store { told = told_then c.store.told who index input store_change letters }) tree at
      (record {
        owners_chain = at.pasts.owners_chain;
        store_chain = at.pasts.store_chain;
        letters = refl;
        owners_letters = refl;
        store_letters = refl;
        down = at.pasts.down;
        owners_down = at.pasts.owners_down;
        store_down = at.pasts.store_down;
        boots = at.pasts.boots;
        owners_most = at.pasts.owners_most;
        store_most = at.pasts.store_most;
        owners_boots = at.pasts.owners_boots;
        store_boots = at.pasts.store_boots;
        own_boots = at.pasts.own_boots;
        next_boots = at.pasts.next_boots;
        proposed = λ change there. owned proposal refl change there;
        owners_greatest = rises_so c.owners.told.greatest c.store.told.greatest input at.pasts.owners_greatest;
        greatest = rises_so c.store.told.greatest known.clocks.greatest input at.pasts.greatest;
      })
      (record {
        register_keeps = register_keeps;
        owners_keep = owners_keep;
        store_keeps = store_keeps;
        owners_knew = λ other. knew c.owners.told.knew at.parts.owners_knew other;
        store_knew = λ other. knew c.store.told.knew at.parts.store_knew other;
        same_boots = at.parts.same_boots;
        own = own;
      })
      (subst (λ m. LabelsStand m y) (sym made) labels) made keeps (λ block. omega arith) (λ session end is. is) refl
      (rises_then c.store.told.greatest input)
      stands
      (λ node session row is lives of. (record { up = of.up; of = of.of; boot = of.boot }, more node))
      sessions owns single
      (subst (λ chain. AreApart holding (HasRow (last chain))) at.pasts.owners_chain (apart (record c.owners { told = told_then c.owners.told who index input owners_change letters; holding = holding }) owners_keep))
      (λ gone by there. closing proposal refl gone by there)
      shows (λ node. inl refl)
    where
      owned : (found : Option Change) → proposal ≡ found → (change : Change) → Contains (with_change found c.register.proposed) change
          → IsOwnersOwn (with_change owners_change c.owners.told.handed) change × IsStoresOwn (with_change store_change c.store.told.handed) change
      owned None is change there = let old = at.pasts.proposed change there in (owners_more owners_change c.owners.told.handed change old.0, store_more store_change c.store.told.handed change old.1)
      owned (Some new) is change there = ⊎_elim (λ same. subst (λ (k : Change). IsOwnersOwn (with_change owners_change c.owners.told.handed) k × IsStoresOwn (with_change store_change c.store.told.handed) k) same (let p = proposes new is in (p.owners_own, p.stores_own)))
          (λ before. let old = at.pasts.proposed change before in (owners_more owners_change c.owners.told.handed change old.0, store_more store_change c.store.told.handed change old.1))
          (was_there new c.register.proposed change there)

      closing : (found : Option Change) → proposal ≡ found → (gone by : ℕ) → Contains (with_change found c.register.proposed) (Close gone by)
          → ClosingStands (st.made store_is).devices (last c.register.chain) c.logs c.slots c.store.writes gone by
      closing None is gone by there = at.closings gone by there
      closing (Some new) is gone by there = ⊎_elim (λ same. absurd ((proposes new is).no_close gone by same)) (λ before. at.closings gone by before) (was_there new c.register.proposed (Close gone by) there)

      knew : (old : Actor → ℕ) → ((other : Actor) → old other ≤ (g.knows register_is other).index) → (other : Actor) → put_at who index old other ≤ (g.knows register_then other).index
      knew old low other = by (is_same who other) refl
        where
          by : (t : Bool) → is_same who other ≡ t → put_at who index old other ≤ (g.knows register_then other).index
          by true same = subst (λ (t : Bool). (if t then index else old other) ≤ (g.knows register_then other).index) (sym same)
              (subst (λ (one : Actor). index ≤ (g.knows register_then one).index) (is_one who other same) knows)
          by false differ = subst (λ (t : Bool). (if t then index else old other) ≤ (g.knows register_then other).index) (sym differ) (let a = low other in let b = rises other in omega (arith, a, b))

  -- A machine that is no node.
  pub heard_by : (register_is register_then : G) (owners_are owners_then : O) (store_is store_then : S) (x y : Disks) (known : Known) (c : Course) (tree : T)
      (who : Actor) (index : ℕ) (input : Input) (owners_change store_change proposal : Option Change) (letters : List Letter) (holding : Holds)
      → StandsAt g o st Stands Step register_is owners_are store_is x known c tree
      → IsNoNode who
      → g.keeps register_then y (record c.register { letters = letters; proposed = with_change proposal c.register.proposed })
      → ((other : Actor) → (g.knows register_is other).index ≤ (g.knows register_then other).index)
      → index ≤ (g.knows register_then who).index
      → ((change : Change) → proposal ≡ Some change → IsProposal (with_change owners_change c.owners.told.handed) (with_change store_change c.store.told.handed) change)
      → o.keeps owners_then (record c.owners { told = told_then c.owners.told who index input owners_change letters; holding = holding })
      → KeepsHolds c.owners.holding holding
      → ((node : ℕ) → o.own owners_then node ≡ o.own owners_are node)
      → st.keeps store_then y (record c.store { told = told_then c.store.told who index input store_change letters })
      → ((d s : ℕ) (content : List ℕ) (at : ℕ) → IsOnly c.store.writes c.store.told.greatest d s content → st.stands store_is x c.store d s content at
      → st.stands store_then y (record c.store { told = told_then c.store.told who index input store_change letters }) d s content at)
      → ((node : ℕ) → st.own store_then node ≡ st.own store_is node)
      → st.made store_then ≡ st.made store_is
      → LabelsStand (st.made store_is) y
      → ((past : OwnersPast) → o.keeps owners_then past → AreApart past.holding (HasRow (last past.told.chain)))
      → StandsAt g o st Stands Step register_then owners_then store_then y (heard_known known input letters) (heard_course c who index input owners_change store_change proposal letters holding) tree
  heard_by register_is register_then owners_are owners_then store_is store_then x y known c tree who index input owners_change store_change proposal letters holding at none register_keeps rises knows proposes owners_keep keeps own store_keeps stands others made labels apart =
      heard_so register_is register_then owners_are owners_then store_is store_then x y known c tree who index input owners_change store_change proposal letters holding known.held at register_keeps rises knows proposes owners_keep keeps store_keeps stands made labels apart
      (λ node up. own node ∙ at.parts.own node up ∙ sym (others node))
      (λ node. let e = knew_same node in omega (arith, e))
      (record { told = λ node session is. let t = at.sessions.told node session (was node session is) in record { state = t.state; place = t.place; at = t.at ∙ sym (knew_same node); by = t.by } })
      (λ node session is lives. inl (was node session is))
      (λ node other session is is_other lives. at.volume.single node other session (was node session is) (was other session is_other) lives)
      (λ node session place mode block own_is lives is. is)
    where
      was : (node session : ℕ) → own_up known.clocks.down (o.own owners_then) node ≡ Some session → own_up known.clocks.down (o.own owners_are) node ≡ Some session
      was node session is = let had = own_of known.clocks.down (o.own owners_then) node session is in own_is known.clocks.down (o.own owners_are) node session had.0 (sym (own node) ∙ had.1)

      knew_same : (node : ℕ) → put_at who index c.store.told.knew (Node node) ≡ c.store.told.knew (Node node)
      knew_same node = ap (λ (t : Bool). if t then index else c.store.told.knew (Node node)) (not_node who none node)

  -- A node that is up, which knows a state: its own session is the one that this state tells. What it shows under a session that is new to it is nothing.
  pub heard_at : (register_is register_then : G) (owners_are owners_then : O) (store_is store_then : S) (x y : Disks) (known : Known) (c : Course) (tree : T)
      (node : ℕ) (s : GlobalState) (input : Input) (owners_change store_change proposal : Option Change) (letters : List Letter) (holding : Holds) (held : ℕ → Held)
      → StandsAt g o st Stands Step register_is owners_are store_is x known c tree
      → AreAllowed c.register.chain → known.clocks.down (Node node) ≡ false → IsPlace c.register.chain s → c.store.told.knew (Node node) ≤ s.index
      → g.keeps register_then y (record c.register { letters = letters; proposed = with_change proposal c.register.proposed })
      → ((other : Actor) → (g.knows register_is other).index ≤ (g.knows register_then other).index)
      → s.index ≤ (g.knows register_then (Node node)).index
      → ((change : Change) → proposal ≡ Some change → IsProposal (with_change owners_change c.owners.told.handed) (with_change store_change c.store.told.handed) change)
      → o.keeps owners_then (record c.owners { told = told_then c.owners.told (Node node) s.index input owners_change letters; holding = holding })
      → KeepsHolds c.owners.holding holding
      → ((other : ℕ) → Node node ≢ Node other → o.own owners_then other ≡ o.own owners_are other)
      → o.own owners_then node ≡ session_by o.by_boot s node (known.clocks.boots (Node node))
      → st.keeps store_then y (record c.store { told = told_then c.store.told (Node node) s.index input store_change letters })
      → ((d sector : ℕ) (content : List ℕ) (at : ℕ) → IsOnly c.store.writes c.store.told.greatest d sector content → st.stands store_is x c.store d sector content at
      → st.stands store_then y (record c.store { told = told_then c.store.told (Node node) s.index input store_change letters }) d sector content at)
      → ((other : ℕ) → Node node ≢ Node other → st.own store_then other ≡ st.own store_is other)
      → st.own store_then node ≡ session_by st.by_boot s node (known.clocks.boots (Node node))
      → st.made store_then ≡ st.made store_is
      → LabelsStand (st.made store_is) y
      → ((past : OwnersPast) → o.keeps owners_then past → AreApart past.holding (HasRow (last past.told.chain)))
      → ((other : ℕ) → Node node ≢ Node other → held other ≡ known.held other)
      → ((session : ℕ) → o.own owners_then node ≡ Some session → LivesIn (last c.register.chain) session
      → ((o.own owners_are node ≡ Some session) × (held node ≡ known.held node)) ⊎ ((at : ℕ) (mode : Mode) → held node at mode ≡ None))
      → StandsAt g o st Stands Step register_then owners_then store_then y (record (heard_known known input letters) { held = held }) (heard_course c (Node node) s.index input owners_change store_change proposal letters holding) tree
  heard_at register_is register_then owners_are owners_then store_is store_then x y known c tree node s input owners_change store_change proposal letters holding held at allowed up place later register_keeps rises knows proposes owners_keep keeps own mine store_keeps stands
      store_own store_mine made labels apart same_held shows =
      heard_so register_is register_then owners_are owners_then store_is store_then x y known c tree (Node node) s.index input owners_change store_change proposal letters holding held at register_keeps rises knows proposes owners_keep keeps store_keeps stands made labels apart
      (λ n is_up. same_own n is_up (cases n))
      (λ n. more n (cases n))
      sessions
      (λ n session is lives. owns n session is lives (cases n))
      (λ n other session is is_other lives. one_node n other session is is_other lives)
      (λ n session place_of mode block is lives has. shown_before n session place_of mode block is lives has (cases n))
    where
      cases : (n : ℕ) → (Node node ≡ Node n) ⊎ (Node node ≢ Node n)
      cases n = by (is_same (Node node) (Node n)) refl
        where
          by : (t : Bool) → is_same (Node node) (Node n) ≡ t → (Node node ≡ Node n) ⊎ (Node node ≢ Node n)
          by true same = inl (is_one (Node node) (Node n) same)
          by false differ = inr (λ e. let f : is_same (Node node) (Node n) ≡ true = ap (is_same (Node node)) (sym e) ∙ is_itself (Node node) in absurd cc)

      knew_then : Actor → ℕ
      knew_then who = put_at (Node node) s.index c.store.told.knew who

      knew_here : knew_then (Node node) ≡ s.index
      knew_here = ap (λ (t : Bool). if t then s.index else c.store.told.knew (Node node)) (is_itself (Node node))

      knew_there : (n : ℕ) → Node node ≢ Node n → knew_then (Node n) ≡ c.store.told.knew (Node n)
      knew_there n differ = by (is_same (Node node) (Node n)) refl
        where
          by : (t : Bool) → is_same (Node node) (Node n) ≡ t → knew_then (Node n) ≡ c.store.told.knew (Node n)
          by true same = absurd (differ (is_one (Node node) (Node n) same))
          by false apart_is = ap (λ (t : Bool). if t then s.index else c.store.told.knew (Node n)) apart_is

      number : (n : ℕ) → Node node ≡ Node n → node ≡ n
      number n e = cc

      same_own : (n : ℕ) → known.clocks.down (Node n) ≡ false → (Node node ≡ Node n) ⊎ (Node node ≢ Node n) → o.own owners_then n ≡ st.own store_then n
      same_own n is_up (inl e) = subst (λ (k : ℕ). o.own owners_then k ≡ st.own store_then k) (number n e) (mine ∙ ap (λ (b : Bool). session_by b s node (known.clocks.boots (Node node))) at.parts.same_boots ∙ sym store_mine)
      same_own n is_up (inr differ) = own n differ ∙ at.parts.own n is_up ∙ sym (store_own n differ)

      more : (n : ℕ) → (Node node ≡ Node n) ⊎ (Node node ≢ Node n) → c.store.told.knew (Node n) ≤ knew_then (Node n)
      more n (inl e) = subst (λ (k : ℕ). c.store.told.knew (Node k) ≤ knew_then (Node k)) (number n e) (let f = knew_here in omega (arith, later, f))
      more n (inr differ) = let f = knew_there n differ in omega (arith, f)

      was : (n session : ℕ) → Node node ≢ Node n → own_up known.clocks.down (o.own owners_then) n ≡ Some session → own_up known.clocks.down (o.own owners_are) n ≡ Some session
      was n session differ is = let had = own_of known.clocks.down (o.own owners_then) n session is in own_is known.clocks.down (o.own owners_are) n session had.0 (sym (own n differ) ∙ had.1)

      told : (n session : ℕ) → own_up known.clocks.down (o.own owners_then) n ≡ Some session → (Node node ≡ Node n) ⊎ (Node node ≢ Node n) → IsTold o.by_boot c.register.chain (known.clocks.boots (Node n)) n session (knew_then (Node n))
      told n session is (inl e) =
          let had = own_of known.clocks.down (o.own owners_then) n session is in
          subst (λ (k : ℕ). o.own owners_then k ≡ Some session → IsTold o.by_boot c.register.chain (known.clocks.boots (Node k)) k session (knew_then (Node k))) (number n e)
          (λ own_it. record { state = s; place = place; at = sym knew_here; by = sym mine ∙ own_it }) had.1
      told n session is (inr differ) = let t = at.sessions.told n session (was n session differ is) in record { state = t.state; place = t.place; at = t.at ∙ sym (knew_there n differ); by = t.by }

      sessions : SessionsStand o.by_boot c.register.chain (heard_clocks known.clocks input) (own_up known.clocks.down (o.own owners_then)) (λ n. knew_then (Node n))
      sessions = record { told = λ n session is. told n session is (cases n) }

      owns : (n session : ℕ) → own_up known.clocks.down (o.own owners_then) n ≡ Some session → LivesIn (last c.register.chain) session → (Node node ≡ Node n) ⊎ (Node node ≢ Node n)
          → (own_up known.clocks.down (o.own owners_are) n ≡ Some session) ⊎ ((place_of : ℕ) (mode : Mode) → held n place_of mode ≡ None)
      owns n session is lives (inl e) =
          let had = own_of known.clocks.down (o.own owners_then) n session is in
          subst (λ (k : ℕ). o.own owners_then k ≡ Some session → (own_up known.clocks.down (o.own owners_are) k ≡ Some session) ⊎ ((place_of : ℕ) (mode : Mode) → held k place_of mode ≡ None)) (number n e)
          (λ own_it. ⊎_elim (λ same. inl (own_is known.clocks.down (o.own owners_are) node session up same.0)) (λ none. inr none) (shows session own_it lives)) had.1
      owns n session is lives (inr differ) = inl (was n session differ is)

      -- the last state has one row of a session, which is one node's
      one_node : (n other session : ℕ) → own_up known.clocks.down (o.own owners_then) n ≡ Some session → own_up known.clocks.down (o.own owners_then) other ≡ Some session → LivesIn (last c.register.chain) session → other ≡ n
      one_node n other session is is_other lives =
          let row = lives_row (last c.register.chain) session lives in
          let one = own_of_node o.by_boot c.register.chain (heard_clocks known.clocks input) (o.own owners_then) (λ k. knew_then (Node k)) allowed sessions n session row.0 is row.1 row.2 in
          let two = own_of_node o.by_boot c.register.chain (heard_clocks known.clocks input) (o.own owners_then) (λ k. knew_then (Node k)) allowed sessions other session row.0 is_other row.1 row.2 in
          sym two.of ∙ one.of

      shown_before : (n session place_of : ℕ) (mode : Mode) (block : Block) → own_up known.clocks.down (o.own owners_then) n ≡ Some session → LivesIn (last c.register.chain) session → held n place_of mode ≡ Some block
          → (Node node ≡ Node n) ⊎ (Node node ≢ Node n) → known.held n place_of mode ≡ Some block
      shown_before n session place_of mode block is lives has (inr differ) = ap (λ (h : Held). h place_of mode) (sym (same_held n differ)) ∙ has
      shown_before n session place_of mode block is lives has (inl e) =
          let had = own_of known.clocks.down (o.own owners_then) n session is in
          subst (λ (k : ℕ). o.own owners_then k ≡ Some session → held k place_of mode ≡ Some block → known.held k place_of mode ≡ Some block) (number n e)
          (λ own_it has_it. ⊎_elim (λ same. ap (λ (h : Held). h place_of mode) (sym same.1) ∙ has_it) (λ none. absurd (let no = none place_of mode in cc)) (shows session own_it lives)) had.1 has
