-- A node proposes that a dead session is claimed, or that one is closed whose recovery it has finished: the nodes stand.
use Rattle.std.proofs.Common.{◌≡◌, ◌≢◌, ⊎_elim, inl, ◌∙◌, ℕ, ◌≤◌, List, ◌∷◌, Contains, Option, Some, refl, sym, ap, subst, arith}
use Rattle.std.specs.Prelude.{slice_get}
use Rattle.bx_base.specs.declared.names.Actor.{Actor}
use Rattle.bx_base.specs.declared.names.Actor.TheVariants.{Node}
use Rattle.bx_disk.specs.Disks.{Disks}
use Rattle.bx_facts.specs.declared.owners.Owners as owners
use Rattle.bx_facts.specs.declared.register.Register as register
use Rattle.bx_facts.specs.declared.store.Store as store
use Rattle.bx_facts.specs.Chains.{HasRow, IsOwnersOwn, IsStoresOwn, last}
use Rattle.bx_facts.proofs.Lists.{front_or_behind}
use Rattle.bx_global.specs.Allowed.{IsAllowed}
use Rattle.bx_global.specs.declared.change.Change.{Change}
use Rattle.bx_global.specs.declared.change.Change.TheVariants.{Close}
use Rattle.bx_global.specs.declared.state.GlobalState.{GlobalState}
use Rattle.bx_node_events.proofs.Sparing.{claims_stay, recover_then}
use Rattle.bx_node_events.proofs.Taken.{loose}
use Rattle.bx_node_machines.specs.Machines as words
use Rattle.bx_node_machines.specs.Machines.{MachineView, Scene}
use Rattle.bx_node_machines.specs.Nodes.{NodesStand, known_of, scene_of}
use Rattle.bx_node_machines.specs.Recoveries.{AreRecovering, IsActive, IsFinished}
use Rattle.bx_node_machines.proofs.Ongoing.{same_active}
use Rattle.bx_post.specs.declared.packets.Letter.{Letter}
use Rattle.bx_recover.specs.Recovering.{RecoveryView}
use Rattle.bx_rows.specs.Words.{row_in}
use Rattle.bx_rows.specs.declared.session.SessionRow.{SessionRow}
use Rattle.bx_views.specs.Attempts.{Deed}
use Rattle.bx_views.specs.Truths.{Hints, Truth}
use Rattle.bx_world_chains.specs.Entitled.{IsEntitled}
use Rattle.bx_world_chains.proofs.Rows.{below_next, lives_row}
use Rattle.bx_world_standing.specs.Closings.{ClosingStands, IsClosed}
use Rattle.bx_world_standing.specs.Parts.{Clocks}
use Rattle.bx_world_standing.specs.Standing.{Course, Known, StandsAt, SureOf}

module _ {G O S T : Type 0} (g : register.Ghosts G) (o : owners.Ghosts O) (st : store.Ghosts S) (Stands : Truth → Hints → T → Type 0) (Step_is : T → Deed → T → Type 0)
    (register_is register_then : G) (owners_are : O) (store_is : S) (x : Disks) (letters : List Letter) (clocks : Clocks) (machines : List MachineView) (c : Course) (tree : T) (change : Change)
    (stands : NodesStand (loose g) o st Stands Step_is register_is owners_are store_is x letters clocks machines c tree) (allowed : IsAllowed (last c.register.chain))
    (keeps : g.keeps register_then x (record c.register { proposed = change ∷ c.register.proposed })) (knows : (who : Actor) → g.knows register_then who ≡ g.knows register_is who)
    (owners_own : IsOwnersOwn c.owners.told.handed change) (stores_own : IsStoresOwn c.store.told.handed change) where
  -- what was done, with the change proposed
  abbrev pub proposed_then : Course
  proposed_then = record c { register = record c.register { proposed = change ∷ c.register.proposed } }

  abbrev known : Known
  known = known_of (loose g) o st Stands Step_is register_is owners_are store_is x letters clocks machines

  abbrev Before : Scene
  Before = scene_of (loose g) o st Stands Step_is register_is owners_are store_is x clocks.down machines c

  abbrev Sure : ℕ → ℕ → List ℕ → Type 0
  Sure = SureOf (loose g) o st Stands Step_is register_is owners_are store_is x known c

  -- What it closes is closed; and no recovery of it is under way.
  module _ (closes : (gone by : ℕ) → change ≡ Close gone by → ClosingStands (st.made store_is).devices (last c.register.chain) c.logs c.slots c.store.writes gone by)
      (over : (node session : ℕ) (machine : MachineView) (row : SessionRow) (gone : ℕ) (recovery : RecoveryView) → IsActive Before node session machine row → machine.stage ≡ words.Recovers gone recovery → change ≢ Close gone session) where
    at_then : StandsAt g o st Stands Step_is register_then owners_are store_is x (known_of g o st Stands Step_is register_then owners_are store_is x letters clocks machines) proposed_then tree
    at_then = record {
      pasts = record {
        owners_chain = stands.at.pasts.owners_chain;
        store_chain = stands.at.pasts.store_chain;
        letters = stands.at.pasts.letters;
        owners_letters = stands.at.pasts.owners_letters;
        store_letters = stands.at.pasts.store_letters;
        down = stands.at.pasts.down;
        owners_down = stands.at.pasts.owners_down;
        store_down = stands.at.pasts.store_down;
        boots = stands.at.pasts.boots;
        owners_most = stands.at.pasts.owners_most;
        store_most = stands.at.pasts.store_most;
        owners_boots = stands.at.pasts.owners_boots;
        store_boots = stands.at.pasts.store_boots;
        own_boots = stands.at.pasts.own_boots;
        next_boots = stands.at.pasts.next_boots;
        proposed = λ one there. ⊎_elim
            (λ same. subst (λ (its : Change). IsOwnersOwn c.owners.told.handed its × IsStoresOwn c.store.told.handed its) same (owners_own, stores_own))
            (λ was. stands.at.pasts.proposed one was)
            (front_or_behind change c.register.proposed one there);
        owners_greatest = stands.at.pasts.owners_greatest;
        greatest = stands.at.pasts.greatest;
      };
      parts = record {
        register_keeps = keeps;
        owners_keep = stands.at.parts.owners_keep;
        store_keeps = stands.at.parts.store_keeps;
        owners_knew = λ who. subst (λ (s : GlobalState). c.owners.told.knew who ≤ s.index) (sym (knows who)) (stands.at.parts.owners_knew who);
        store_knew = λ who. subst (λ (s : GlobalState). c.store.told.knew who ≤ s.index) (sym (knows who)) (stands.at.parts.store_knew who);
        same_boots = stands.at.parts.same_boots;
        own = stands.at.parts.own;
      };
      labels = stands.at.labels;
      sessions = stands.at.sessions;
      logs = stands.at.logs;
      rights = stands.at.rights;
      writes = stands.at.writes;
      closings = λ gone by there. ⊎_elim (λ same. closes gone by same) (λ was. stands.at.closings gone by was) (front_or_behind change c.register.proposed (Close gone by) there);
      volume = stands.at.volume;
      doubted = stands.at.doubted;
    }

    recovering_then : AreRecovering (st.made store_is).devices (st.made store_is).areas Sure (st.will_read store_is x c.store) c.register.chain (λ n. c.store.told.knew (Node n)) (change ∷ c.register.proposed) Before
    recovering_then = recover_then (loose g) o st Stands Step_is register_is owners_are store_is x known c tree machines stands.at allowed Sure (st.will_read store_is x c.store) c.register.chain (λ n. c.store.told.knew (Node n))
        (change ∷ c.register.proposed) Before stands.recovering (λ node session machine row active. inl (same_active Before node session machine row active)) (omega arith) (λ gone low has. has)
        (λ node session machine one row row_was gone slot stage active active_was of low claimed other. inl (record {
          logs = refl;
          slots = refl;
          before = λ d s inside. refl;
          asked = inl refl;
          out = inl refl;
          sent = λ write there whose. there;
          sure = λ d s content near is. is;
          reads = λ asks s content was is near sure read. read;
        }))
        (claims_stay (loose g) o st Stands Step_is register_is owners_are store_is x known c tree machines stands.at allowed (IsActive Before) (λ n. c.store.told.knew (Node n)) (λ node session machine row active. omega arith))
        (λ node session machine row gone stage active of under_way there. ⊎_elim
        (λ same. ⊎_elim (λ ended. absurd (under_way ended)) (λ under. absurd (over node session machine row gone under.0 active under.1 same)) of)
        (λ was. was)
        (front_or_behind change c.register.proposed (Close gone session) there))

    -- The nodes stand with it.
    pub proposes : NodesStand g o st Stands Step_is register_then owners_are store_is x letters clocks machines proposed_then tree
    proposes = record {
      at = at_then;
      about = stands.about;
      recovering = recovering_then;
      single = stands.single;
      told = λ node session own. subst (λ (s : GlobalState). s.index ≤ c.store.told.knew (Node node)) (sym (knows (Node node))) (stands.told node session own);
      given = stands.given;
    }

-- Once a recovery is finished, the closing of the session that is gone stands.
pub closing_of : (devices areas : ℕ) (Sure : ℕ → ℕ → List ℕ → Type 0) (Reads : ℕ → ℕ → List ℕ → Type 0) (c : Course) (knew : ℕ → ℕ) (s : Scene) (node session gone : ℕ) → IsAllowed (last c.register.chain)
    → s.logs ≡ c.logs → s.slots ≡ c.slots → s.sent ≡ c.store.writes
    → IsFinished devices areas Sure Reads c.register.chain knew c.register.proposed s node session gone → ClosingStands devices (last c.register.chain) c.logs c.slots c.store.writes gone session
closing_of devices areas Sure Reads c knew s node session gone allowed logs slots sent was = record {
  given = below_next (last c.register.chain).sessions (last c.register.chain).next_session gone was.goes.claimed.row allowed.rising was.goes.claimed.is;
  given_by = let row = lives_row (last c.register.chain) session was.goes.claimed.lives in below_next (last c.register.chain).sessions (last c.register.chain).next_session session row.0 allowed.rising row.1;
  dead = λ lives. ⊎_elim was.goes.other (λ dead. let row = lives_row (last c.register.chain) gone lives in not_both was.goes.claimed.row row.0 (row_in (last c.register.chain).sessions gone) was.goes.claimed.is row.1 dead.0 row.2) was.goes.claimed.whose;
  entitled = λ row lives is. subst (λ (n : ℕ). IsEntitled (last c.register.chain) gone n session) (same_slot row is) was.goes.claimed;
  closed = λ row lives is. subst (λ (n : ℕ). IsClosed devices c.logs c.slots c.store.writes n session) (same_slot row is)
      (subst (λ l. IsClosed devices c.logs c.slots l was.slot session) sent (subst (λ l. IsClosed devices c.logs l s.sent was.slot session) slots (subst (λ l. IsClosed devices l s.slots s.sent was.slot session) logs was.goes.at)));
}
  where
    not_both : (a b : SessionRow) (found : Option SessionRow) → found ≡ Some a → found ≡ Some b → a.dead ≡ 1 → b.dead ≡ 0 → ⊥
    not_both a b found first second dead alive = let e : a ≡ b = cc in let f = ap (λ (r : SessionRow). r.dead) e in omega (arith, dead, f, alive)

    one_row : (a b : SessionRow) (found : Option SessionRow) → found ≡ Some a → found ≡ Some b → a ≡ b
    one_row a b found first second = cc

    same_slot : (row : SessionRow) → row_in (last c.register.chain).sessions gone ≡ Some row → was.slot ≡ row.slot
    same_slot row is = sym was.goes.claimed.at ∙ ap (λ (r : SessionRow). r.slot) (one_row was.goes.claimed.row row (row_in (last c.register.chain).sessions gone) was.goes.claimed.is is)

-- A node may propose that a session is closed whose recovery it has finished.
module _ {G O S T : Type 0} (g : register.Ghosts G) (o : owners.Ghosts O) (st : store.Ghosts S) (Stands : Truth → Hints → T → Type 0) (Step_is : T → Deed → T → Type 0)
    (register_is : G) (owners_are : O) (store_is : S) (x : Disks) (letters : List Letter) (clocks : Clocks) (machines : List MachineView) (c : Course) (tree : T)
    (stands : NodesStand g o st Stands Step_is register_is owners_are store_is x letters clocks machines c tree) (allowed : IsAllowed (last c.register.chain))
    (node session gone : ℕ) (machine : MachineView) (row : SessionRow) (active : IsActive (scene_of g o st Stands Step_is register_is owners_are store_is x clocks.down machines c) node session machine row)
    (finished : Contains machine.finished gone) (has : HasRow (last c.register.chain) gone) where
  abbrev Now : Scene
  Now = scene_of g o st Stands Step_is register_is owners_are store_is x clocks.down machines c

  pub closes_it : (one by : ℕ) → Close gone session ≡ Close one by → ClosingStands (st.made store_is).devices (last c.register.chain) c.logs c.slots c.store.writes one by
  closes_it one by same =
      subst (λ (n : ℕ). ClosingStands (st.made store_is).devices (last c.register.chain) c.logs c.slots c.store.writes n by) (gones gone one session by same)
      (subst (λ (n : ℕ). ClosingStands (st.made store_is).devices (last c.register.chain) c.logs c.slots c.store.writes gone n) (sessions gone one session by same)
      (closing_of (st.made store_is).devices (st.made store_is).areas (SureOf g o st Stands Step_is register_is owners_are store_is x (known_of g o st Stands Step_is register_is owners_are store_is x letters clocks machines) c)
      (st.will_read store_is x c.store) c (λ n. c.store.told.knew (Node n)) Now node session gone allowed refl refl refl (stands.recovering.finished node session machine row active gone finished has)))
    where
      gones : (a b p q : ℕ) → Close a p ≡ Close b q → a ≡ b
      gones a b p q e = cc

      sessions : (a b p q : ℕ) → Close a p ≡ Close b q → p ≡ q
      sessions a b p q e = cc

  pub is_over : (other its : ℕ) (one : MachineView) (its_row : SessionRow) (its_gone : ℕ) (recovery : RecoveryView) → IsActive Now other its one its_row → one.stage ≡ words.Recovers its_gone recovery → Close gone session ≢ Close its_gone its
  is_over other its one its_row its_gone recovery its_active is same =
      let e : session ≡ its = sessions gone its_gone session its same in
      let n : other ≡ node = stands.single node other session active.own (its_active.own ∙ ap (λ (k : ℕ). Some k) (sym e)) in
      let m : machine ≡ one = one_machine machine one (sym active.there ∙ ap (λ (k : ℕ). slice_get machines k) (sym n) ∙ its_active.there) in
      (stands.recovering.under other its one its_row its_active its_gone recovery is).unfinished
      (subst (λ (k : ℕ). Contains one.finished k) (gones gone its_gone session its same) (subst (λ (k : MachineView). Contains k.finished gone) m finished))
    where
      one_machine : (a b : MachineView) → Some a ≡ Some b → a ≡ b
      one_machine a b e = cc

      gones : (a b p q : ℕ) → Close a p ≡ Close b q → a ≡ b
      gones a b p q e = cc

      sessions : (a b p q : ℕ) → Close a p ≡ Close b q → p ≡ q
      sessions a b p q e = cc
