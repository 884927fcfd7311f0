-- The whole goes on standing where an event of a machine changes no log, no cache and no chain: letters come and go, machines stop and start, holds grow, disks of
-- machines that are down crash, what waits on a disk is synced, changes are handed back and proposed.
use Rattle.std.proofs.Common.{◌≡◌, ◌≢◌, ◌⊎◌, ⊎_elim, inl, inr, ℕ, ◌≤◌, true, false, List, Contains, Option, Some, None, refl, sym, ◌∙◌, ap, subst, arith}
use Rattle.bx_base.specs.declared.names.Actor.TheVariants.{Node}
use Rattle.bx_base.specs.declared.names.Mode.{Mode}
use Rattle.bx_records.specs.Drafts.{Block}
use Rattle.bx_disk.specs.Disks.{Disks}
use Rattle.bx_facts.specs.declared.register.Register as register
use Rattle.bx_facts.specs.declared.store.Store as store
use Rattle.bx_facts.specs.declared.owners.Owners as owners
use Rattle.bx_facts.specs.Chains.{Chain, HasRow, LivesIn, last, oldest}
use Rattle.bx_facts.specs.Holds.{Hold, Holds, KeepsHolds, OwnersPast, is_exclusive}
use Rattle.bx_facts.specs.Pasts.{RegisterPast}
use Rattle.bx_facts.specs.Writes.{IsOnly, Made, Sent, StorePast}
use Rattle.bx_global.specs.declared.change.Change.TheVariants.{Close}
use Rattle.bx_global.specs.declared.state.GlobalState.{GlobalState}
use Rattle.bx_rows.specs.Words.{row_in}
use Rattle.bx_rows.specs.declared.session.SessionRow.{SessionRow}
use Rattle.bx_views.specs.Attempts.{Deed}
use Rattle.bx_views.specs.Truths.{Hints, Truth, no_hints}
use Rattle.bx_world_standing.specs.bx_volume.specs.Overlay.{Logs}
use Rattle.bx_world_standing.specs.bx_world_logs.specs.Logs.{LogsStand, Slot}
use Rattle.bx_world_standing.specs.bx_world_logs.proofs.Growing.{rows_go}
use Rattle.bx_world_standing.specs.bx_world_views.specs.Views.{AreApart}
use Rattle.bx_world_standing.specs.bx_world_views.proofs.Steps.{goes_on}
use Rattle.bx_world_standing.specs.Parts.{ArePasts, PartsStand}
use Rattle.bx_world_standing.specs.Rights.{HasBlock, OfHeld, IsReached, IsToldOf, IsWithin, OfLogged, MayTouch, OfSlot, RightsStand, Surely, WritesStand}
use Rattle.bx_world_standing.specs.Labels.{LabelsStand}
use Rattle.bx_world_standing.specs.Closings.{ClosingStands}
use Rattle.bx_world_standing.specs.Sessions.{IsOfNode, SessionsStand}
use Rattle.bx_world_standing.specs.Standing.{Course, Known, StandsAt, SureOf, own_up}

-- an exclusive hold stays one
exclusive_stays : (old new : Holds) (session at : ℕ) → KeepsHolds old new → is_exclusive (old session at) ≡ true → is_exclusive (new session at) ≡ true
exclusive_stays old new session at keeps is = by (old session at) refl is
  where
    by : (hold : Option Hold) → old session at ≡ hold → is_exclusive hold ≡ true → is_exclusive (new session at) ≡ true
    by None was own = absurd cc
    by (Some hold) was own = ap is_exclusive (keeps.each session at hold was) ∙ own

has_stays : (old new : Holds) (limit session at : ℕ) → KeepsHolds old new → HasBlock old limit session at → HasBlock new limit session at
has_stays old new limit session at keeps (inl own) = inl (exclusive_stays old new session at keeps own)
has_stays old new limit session at keeps (inr less) = inr less

pub only_stays : (writes : List Sent) (before after d s : ℕ) (content : List ℕ) → before ≤ after → IsOnly writes before d s content → IsOnly writes after d s content
only_stays writes before after d s content later only = record { each = λ write other there writes_it. ⊎_elim (λ same. inl same) (λ over. inr (omega (arith, later, over))) (only.each write other there writes_it) }

module _ (devices areas : ℕ) (chain : Chain) (old new : Holds) (floor floor_then : ℕ → ℕ) (IsOf IsOf_then : ℕ → SessionRow → Type 0) (knew knew_then : ℕ → ℕ)
    (keeps : KeepsHolds old new) (rises : (at : ℕ) → floor at ≤ floor_then at)
    (fewer : (node session : ℕ) (row : SessionRow) → row_in (last chain).sessions session ≡ Some row → row.dead ≡ 0 → IsOf_then node row → IsOf node row × (knew node ≤ knew_then node)) where
  pub within_stays : (d s index : ℕ) → IsWithin devices areas chain old floor IsOf knew d s index → IsWithin devices areas chain new floor_then IsOf_then knew_then d s index
  within_stays d s index within = record {
    most = within.most;
    home = λ at is of. reach at (within.home at is of);
    slot = λ slot less of. told slot (within.slot slot less of);
  }
    where
      told : (slot : ℕ) → IsToldOf devices areas chain old floor IsOf knew slot index → IsToldOf devices areas chain new floor_then IsOf_then knew_then slot index
      told slot was node session owner row state is lives of place at entitled has =
          let had = fewer node session row is lives of in
          was node session owner row state is lives had.0 place (let more = had.1 in omega (arith, at, more)) entitled has

      reach : (at : ℕ) → IsReached devices areas chain old floor IsOf knew at index → IsReached devices areas chain new floor_then IsOf_then knew_then at index
      reach at (inl low) = inl (let r = rises at in omega (arith, low, r))
      reach at (inr (session, row, has, knows)) = inr (
        session,
        row,
        has_stays old new (oldest chain) session at keeps has,
        λ node one is lives of. let had = fewer node session one is lives of in let low = knows node one is lives had.0 in let more = had.1 in omega (arith, low, more),
      )

  pub surely_stays : (stands stands_then : ℕ → ℕ → List ℕ → ℕ → Type 0) (writes : List Sent) (before after : ℕ) → before ≤ after
      → ((d s : ℕ) (content : List ℕ) (index : ℕ) → IsOnly writes before d s content → stands d s content index → stands_then d s content index)
      → (d s : ℕ) (content : List ℕ) → Surely stands (IsWithin devices areas chain old floor IsOf knew) writes before d s content
      → Surely stands_then (IsWithin devices areas chain new floor_then IsOf_then knew_then) writes after d s content
  surely_stays stands stands_then writes before after later goes d s content sure = record {
    index = sure.index;
    is = goes d s content sure.index sure.only sure.is;
    only = only_stays writes before after d s content later sure.only;
    within = within_stays d s sure.index sure.within;
  }

  touch_stays : (s : GlobalState) (logs : Logs) (slots : ℕ → Slot) (session d sector : ℕ) → MayTouch devices areas s old logs slots session d sector → MayTouch devices areas s new logs slots session d sector
  touch_stays s logs slots session d sector (OfSlot owner slot less is of) = OfSlot owner slot less is of
  touch_stays s logs slots session d sector (OfHeld at is of held) = OfHeld at is of (exclusive_stays old new session at keeps held)
  touch_stays s logs slots session d sector (OfLogged at owner slot is of less entitled in_it) = OfLogged at owner slot is of less entitled in_it

module _ {G O S T : Type 0} (g : register.Ghosts G) (o : owners.Ghosts O) (st : store.Ghosts S) (Stands : Truth → Hints → T → Type 0) (Step : T → Deed → T → Type 0) where
  -- `made` is what the store is made for, before and then
  pub stays : (register_is register_then : G) (owners_are owners_then : O) (store_is store_then : S) (x y : Disks) (known now : Known) (c : Course) (r : RegisterPast) (op : OwnersPast) (sp : StorePast) (tree : T)
      → StandsAt g o st Stands Step register_is owners_are store_is x known c tree
      → ArePasts now.letters now.clocks (record r { chain = c.register.chain }) op sp
      → PartsStand g o st register_then owners_then store_then y now.clocks (record r { chain = c.register.chain }) op sp
      → LabelsStand (st.made store_then) y
      → st.made store_then ≡ st.made store_is
      → KeepsHolds c.owners.holding op.holding
      → ((at : ℕ) → c.owners.floor at ≤ op.floor at)
      → ((session end : ℕ) → Contains c.owners.leases (session, end) → Contains op.leases (session, end))
      → sp.writes ≡ c.store.writes
      → c.store.told.greatest ≤ sp.told.greatest
      → ((d s : ℕ) (content : List ℕ) (index : ℕ) → IsOnly c.store.writes c.store.told.greatest d s content → st.stands store_is x c.store d s content index → st.stands store_then y sp d s content index)
      → ((node session : ℕ) (row : SessionRow) → row_in (last c.register.chain).sessions session ≡ Some row → row.dead ≡ 0 → IsOfNode o.by_boot now.clocks node row
      → IsOfNode o.by_boot known.clocks node row × (c.store.told.knew (Node node) ≤ sp.told.knew (Node node)))
      → SessionsStand o.by_boot c.register.chain now.clocks (own_up now.clocks.down (o.own owners_then)) (λ node. sp.told.knew (Node node))
      → ((node session : ℕ) → own_up now.clocks.down (o.own owners_then) node ≡ Some session → LivesIn (last c.register.chain) session
      → (own_up known.clocks.down (o.own owners_are) node ≡ Some session) ⊎ ((at : ℕ) (mode : Mode) → now.held node at mode ≡ None))
      → ((node other session : ℕ) → own_up now.clocks.down (o.own owners_then) node ≡ Some session → own_up now.clocks.down (o.own owners_then) other ≡ Some session → LivesIn (last c.register.chain) session → other ≡ node)
      → AreApart op.holding (HasRow (last c.register.chain))
      → ((gone by : ℕ) → Contains r.proposed (Close gone by) → ClosingStands (st.made store_is).devices (last c.register.chain) c.logs c.slots c.store.writes gone by)
      → ((node session at : ℕ) (mode : Mode) (block : Block) → own_up now.clocks.down (o.own owners_then) node ≡ Some session → LivesIn (last c.register.chain) session → now.held node at mode ≡ Some block → known.held node at mode ≡ Some block)
      → ((node : ℕ) → (now.hints node ≡ known.hints node) ⊎ (now.hints node ≡ no_hints))
      → StandsAt g o st Stands Step register_then owners_then store_then y now (record c { register = record r { chain = c.register.chain }; owners = op; store = sp }) tree
  stays register_is register_then owners_are owners_then store_is store_then x y known now c r op sp tree at pasts parts labels made keeps rises leases writes later goes fewer sessions owns single apart closings held hints = record {
    pasts = pasts;
    parts = parts;
    labels = labels;
    sessions = sessions;
    logs = subst (λ (m : Made). LogsStand (Surely (st.stands store_then y sp) (IsWithin m.devices m.areas c.register.chain op.holding op.floor (IsOfNode o.by_boot now.clocks) knew_then) sp.writes sp.told.greatest) m.devices m.areas (last c.register.chain).sessions c.before c.logs c.slots c.truth) (sym made)
        (subst (λ (ws : List Sent). LogsStand (Surely (st.stands store_then y sp) (IsWithin devices areas c.register.chain op.holding op.floor (IsOfNode o.by_boot now.clocks) knew_then) ws sp.told.greatest) devices areas (last c.register.chain).sessions c.before c.logs c.slots c.truth) (sym writes)
        (rows_go (SureOf g o st Stands Step register_is owners_are store_is x known c) (Surely (st.stands store_then y sp) (IsWithin devices areas c.register.chain op.holding op.floor (IsOfNode o.by_boot now.clocks) knew_then) c.store.writes sp.told.greatest) devices areas c.before
        (surely_stays devices areas c.register.chain c.owners.holding op.holding c.owners.floor op.floor (IsOfNode o.by_boot known.clocks) (IsOfNode o.by_boot now.clocks) knew knew_then keeps rises fewer (st.stands store_is x c.store) (st.stands store_then y sp) c.store.writes c.store.told.greatest sp.told.greatest later goes)
        (last c.register.chain).sessions (last c.register.chain).sessions c.logs c.slots c.truth (λ slot less. inl refl) at.logs));
    rights = subst (λ (m : Made). RightsStand (last c.register.chain).sessions op.holding (oldest c.register.chain) m.areas c.logs c.slots) (sym made)
        (record { each = λ session row place is in_it. let was = at.rights.each session row place is in_it in (was.0, has_stays c.owners.holding op.holding (oldest c.register.chain) session place keeps was.1) });
    writes = subst (λ (m : Made). WritesStand m.devices m.areas (last c.register.chain) op.holding op.leases c.logs c.slots sp.writes) (sym made)
        (subst (λ (ws : List Sent). WritesStand devices areas (last c.register.chain) op.holding op.leases c.logs c.slots ws) (sym writes) (record {
          ends = λ write there. let end = at.writes.ends write there in (end.0, leases write.session end.0 end.1, end.2);
          given = at.writes.given;
          may = λ write d sector content there lives writes_it.
              touch_stays devices areas c.register.chain c.owners.holding op.holding c.owners.floor op.floor (IsOfNode o.by_boot known.clocks) (IsOfNode o.by_boot now.clocks) knew knew_then keeps rises fewer (last c.register.chain) c.logs c.slots write.session d sector (at.writes.may write d sector content there lives writes_it);
        }));
    closings = λ gone by proposed. subst (λ (m : Made). ClosingStands m.devices (last c.register.chain) c.logs c.slots sp.writes gone by) (sym made)
        (subst (λ (ws : List Sent). ClosingStands devices (last c.register.chain) c.logs c.slots ws gone by) (sym writes) (closings gone by proposed));
    volume = goes_on Stands Step c.owners.holding op.holding (HasRow (last c.register.chain)) (LivesIn (last c.register.chain)) (HasRow (last c.register.chain)) (LivesIn (last c.register.chain))
        own own_then known.held now.held known.hints now.hints c.doubts c.truth tree keeps apart at.volume.rows
        single
        (λ session doubt is has. has)
        (λ node session is lives. ⊎_elim (λ had. inl (had, lives)) (λ none. inr none) (owns node session is lives))
        held hints at.volume;
    doubted = at.doubted;
  }
    where
      devices : ℕ
      devices = (st.made store_is).devices

      areas : ℕ
      areas = (st.made store_is).areas

      own : ℕ → Option ℕ
      own = own_up known.clocks.down (o.own owners_are)

      own_then : ℕ → Option ℕ
      own_then = own_up now.clocks.down (o.own owners_then)

      knew : ℕ → ℕ
      knew node = c.store.told.knew (Node node)

      knew_then : ℕ → ℕ
      knew_then node = sp.told.knew (Node node)
