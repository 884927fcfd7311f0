-- The whole goes on standing where the register's chain gets one change more, one that was proposed.
use Rattle.std.proofs.Common.{◌≡◌, ◌⊎◌, ⊎_elim, inl, ℕ, ◌<◌, ◌≤◌, Bool, true, false, List, Contains, Option, Some, refl, sym, ap, subst, arith}
use Rattle.bx_base.specs.declared.names.Actor.{Actor}
use Rattle.bx_base.specs.declared.names.Actor.TheVariants.{Node}
use Rattle.bx_disk.specs.Disks.{Disks}
use Rattle.bx_facts.specs.declared.register.Register as register
use Rattle.bx_facts.specs.declared.store.Store as store
use Rattle.bx_facts.specs.declared.owners.Owners as owners
use Rattle.bx_facts.specs.Chains.{Chain, HasRow, IsOwnersOwn, IsStoresOwn, LivesIn, grown, last}
use Rattle.bx_facts.specs.Holds.{OwnersPast, owners_grown}
use Rattle.bx_facts.specs.Writes.{IsOnly, StorePast, store_grown}
use Rattle.bx_global.specs.Allowed.{IsAllowed}
use Rattle.bx_global.specs.declared.change.Change.{Change}
use Rattle.bx_global.specs.declared.change.Change.TheVariants.{Close}
use Rattle.bx_global.specs.Table.{IsLegal, effect}
use Rattle.bx_rows.specs.declared.session.SessionRow.{SessionRow}
use Rattle.bx_rows.specs.Words.{is_taken, row_in}
use Rattle.bx_views.specs.Attempts.{Deed}
use Rattle.bx_views.specs.Truths.{Hints, Truth}
use Rattle.bx_world_chains.specs.Entitled.{AreAllowed}
use Rattle.bx_world_chains.proofs.Chains.{has_less, last_place}
use Rattle.bx_world_chains.proofs.Rows.{has_of, lives_before, lives_has}
use Rattle.bx_world_chains.proofs.Sessions.{own_row}
use Rattle.bx_world_logs.specs.Logs.{SlotStands, begins, idle}
use Rattle.bx_world_views.specs.Views.{AreApart, Unacknowledged}
use Rattle.bx_world_views.proofs.Steps.{goes_on}
use Rattle.bx_world_standing.specs.Closings.{ClosingStands}
use Rattle.bx_world_standing.specs.Sessions.{IsOfNode}
use Rattle.bx_world_standing.specs.Standing.{Course, Known, StandsAt, SureOf, own_up}
use Rattle.bx_world_standing.proofs.Grown.{closing_goes, doubts_go, logs_go, rights_go, sessions_go, surely_goes, writes_go}
use Rattle.bx_world_standing.proofs.Owns.{of_before}
use Rattle.bx_world_chains.proofs.Changed.{closed_or}

-- the pasts with one change more
abbrev pub grown_course : Course → Change → Course
grown_course c change = record c {
  register = record c.register { chain = grown c.register.chain change };
  owners = owners_grown c.owners change;
  store = store_grown c.store change;
}

module _ {G O S T : Type 0} (g : register.Ghosts G) (o : owners.Ghosts O) (st : store.Ghosts S) (Stands : Truth → Hints → T → Type 0) (Step : T → Deed → T → Type 0)
    (owners_are : O) (store_is : S) (x : Disks)
    (owners_grow : (past : OwnersPast) (change : Change) → o.keeps owners_are past → IsLegal (last past.told.chain) change → IsOwnersOwn past.told.handed change → o.keeps owners_are (owners_grown past change))
    (owners_apart : (past : OwnersPast) → o.keeps owners_are past → AreApart past.holding (HasRow (last past.told.chain)))
    (store_grows : (past : StorePast) (change : Change) → st.keeps store_is x past → IsLegal (last past.told.chain) change → IsStoresOwn past.told.handed change
    → st.keeps store_is x (store_grown past change) × ((d s : ℕ) (content : List ℕ) (index : ℕ) → IsOnly past.writes past.told.greatest d s content → st.stands store_is x past d s content index → st.stands store_is x (store_grown past change) d s content index)) where
  -- `register_then` is the register once it knows the state
  pub grows : (register_is register_then : G) (known : Known) (c : Course) (tree : T) (change : Change) → StandsAt g o st Stands Step register_is owners_are store_is x known c tree
      → AreAllowed c.register.chain → Contains c.register.proposed change → IsLegal (last c.register.chain) change
      → g.keeps register_then x (record c.register { chain = grown c.register.chain change })
      → ((who : Actor) → (g.knows register_is who).index ≤ (g.knows register_then who).index)
      → StandsAt g o st Stands Step register_then owners_are store_is x known (grown_course c change) tree
  grows register_is register_then known c tree change at allowed there legal keeps rises = record {
    pasts = record {
      owners_chain = ap (λ (chain : Chain). grown chain change) at.pasts.owners_chain;
      store_chain = ap (λ (chain : Chain). grown chain change) at.pasts.store_chain;
      letters = at.pasts.letters;
      owners_letters = at.pasts.owners_letters;
      store_letters = at.pasts.store_letters;
      down = at.pasts.down;
      owners_down = at.pasts.owners_down;
      store_down = at.pasts.store_down;
      boots = at.pasts.boots;
      owners_most = at.pasts.owners_most;
      store_most = at.pasts.store_most;
      owners_boots = at.pasts.owners_boots;
      store_boots = at.pasts.store_boots;
      own_boots = at.pasts.own_boots;
      next_boots = at.pasts.next_boots;
      proposed = at.pasts.proposed;
      owners_greatest = at.pasts.owners_greatest;
      greatest = at.pasts.greatest;
    };
    parts = record {
      register_keeps = keeps;
      owners_keep = owners_keep;
      store_keeps = store_goes.0;
      owners_knew = λ who. let a = at.parts.owners_knew who in let b = rises who in omega (arith, a, b);
      store_knew = λ who. let a = at.parts.store_knew who in let b = rises who in omega (arith, a, b);
      same_boots = at.parts.same_boots;
      own = at.parts.own;
    };
    labels = at.labels;
    sessions = sessions_go c.register.chain change allowed_last legal o.by_boot known.clocks own knew at.sessions;
    logs = logs_go c.register.chain change allowed_last legal (SureOf g o st Stands Step register_is owners_are store_is x known c) (SureOf g o st Stands Step register_then owners_are store_is x known (grown_course c change))
        devices areas c.before c.logs c.slots c.truth c.store.writes
        (surely_goes c.register.chain change allowed_last legal (IsOfNode o.by_boot known.clocks) (of_before o.by_boot known.clocks) devices areas c.owners knew (st.stands store_is x c.store) (st.stands store_is x (store_grown c.store change)) c.store.writes c.store.told.greatest at.pasts.owners_chain allowed store_goes.1)
        closing at.logs;
    rights = rights_go c.register.chain change allowed_last legal (SureOf g o st Stands Step register_is owners_are store_is x known c) devices areas c.before c.logs c.slots c.truth c.owners.holding at.logs at.rights;
    writes = writes_go c.register.chain change allowed_last legal devices areas c.owners.holding c.owners.leases c.logs c.slots c.store.writes closing at.writes;
    closings = λ gone by proposed. closing_goes c.register.chain change allowed_last legal devices c.logs c.slots c.store.writes gone by (at.closings gone by proposed);
    volume = goes_on Stands Step c.owners.holding c.owners.holding (HasRow (last c.register.chain)) (LivesIn (last c.register.chain)) (HasRow (last (grown c.register.chain change))) (LivesIn (last (grown c.register.chain change)))
        own own known.held known.held known.hints known.hints c.doubts c.truth tree
        (record { each = λ session block hold is. is })
        apart_then
        (λ session lives. lives_has (last (grown c.register.chain change)) session lives)
        (λ node other session is is_other lives. at.volume.single node other session is is_other (still node session is lives))
        (λ session doubt is has. row_then session doubt is has (at.doubted.only session doubt is))
        (λ node session is lives. inl (is, still node session is lives))
        (λ node session place mode block own_is lives is. is)
        (λ node. inl refl)
        at.volume;
    doubted = doubts_go c.register.chain change allowed_last legal devices c.logs c.slots c.doubts at.doubted free_idle
        (λ gone by row is had. let law = subst (λ (one : Change). IsLegal (last c.register.chain) one) is legal in ((closing gone by is).closed row law.row.1 had).still);
  }
    where
      devices : ℕ
      devices = (st.made store_is).devices

      areas : ℕ
      areas = (st.made store_is).areas

      own : ℕ → Option ℕ
      own = own_up known.clocks.down (o.own owners_are)

      knew : ℕ → ℕ
      knew node = c.store.told.knew (Node node)

      allowed_last : IsAllowed (last c.register.chain)
      allowed_last = allowed.each (last c.register.chain) (last_place c.register.chain)

      owners_keep : o.keeps owners_are (owners_grown c.owners change)
      owners_keep = owners_grow c.owners change at.parts.owners_keep (subst (λ (chain : Chain). IsLegal (last chain) change) (sym at.pasts.owners_chain) legal) (at.pasts.proposed change there).0

      store_goes : st.keeps store_is x (store_grown c.store change) × ((d s : ℕ) (content : List ℕ) (index : ℕ) → IsOnly c.store.writes c.store.told.greatest d s content → st.stands store_is x c.store d s content index → st.stands store_is x (store_grown c.store change) d s content index)
      store_goes = store_grows c.store change at.parts.store_keeps (subst (λ (chain : Chain). IsLegal (last chain) change) (sym at.pasts.store_chain) legal) (at.pasts.proposed change there).1

      closing : (gone by : ℕ) → change ≡ Close gone by → ClosingStands devices (last c.register.chain) c.logs c.slots c.store.writes gone by
      closing gone by is = at.closings gone by (subst (λ (one : Change). Contains c.register.proposed one) is there)

      apart_then : AreApart c.owners.holding (HasRow (last (grown c.register.chain change)))
      apart_then = subst (λ (chain : Chain). AreApart c.owners.holding (HasRow (last chain))) (ap (λ (chain : Chain). grown chain change) at.pasts.owners_chain) (owners_apart (owners_grown c.owners change) owners_keep)

      still : (node session : ℕ) → own node ≡ Some session → LivesIn (last (grown c.register.chain change)) session → LivesIn (last c.register.chain) session
      still node session is lives =
          let t = at.sessions.told node session is in
          let own_it = own_row o.by_boot t.state node (known.clocks.boots (Node node)) session (allowed.each t.state t.place) t.by in
          lives_before (last c.register.chain) change session allowed_last lives (has_less c.register.chain t.state session allowed t.place (has_of t.state session own_it.row own_it.is))

      row_then : (session : ℕ) (doubt : Unacknowledged) → c.doubts session ≡ Some doubt → HasRow (last c.register.chain) session → (row : SessionRow) × (row_in (last c.register.chain).sessions session ≡ Some row) × (begins (c.slots row.slot).activity ≡ true)
          → HasRow (last (grown c.register.chain change)) session
      row_then session doubt is has had = ⊎_elim
          (λ gone. absurd (
          let law = subst (λ (one : Change). IsLegal (last c.register.chain) one) gone.is legal in
          let e : begins (c.slots had.0.slot).activity ≡ false = ap begins ((closing session gone.by gone.is).closed had.0 law.row.1 had.1).still in let b = had.2 in cc))
          (λ goes. has_of (effect (last c.register.chain) change) session goes.0 goes.1)
          (closed_or (last c.register.chain) change session had.0 had.1)

      free_idle : (slot : ℕ) → slot < 8 → is_taken (last c.register.chain).sessions slot ≡ false → (c.slots slot).activity ≡ idle
      free_idle slot less free = (subst (λ (t : Bool). SlotStands (SureOf g o st Stands Step register_is owners_are store_is x known c) devices areas c.before t c.logs slot (c.slots slot)) free (at.logs.each slot less)).still
