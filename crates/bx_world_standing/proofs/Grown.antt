-- What stands goes on standing where the chain gets one change more.
use Rattle.std.proofs.Common.{◌≡◌, ◌⊎◌, ⊎_elim, inl, inr, ℕ, ◌<◌, ◌≤◌, max, Bool, true, false, ◌||◌, List, [], Contains, Option, Some, None, refl, sym, ◌∙◌, ap, subst, arith}
use Rattle.std.specs.Prelude.{IsSomeAnd, ltb, if◌then◌else◌}
use Rattle.std.proofs.lemmas.Bool.Decides.{nat_tests}
use Rattle.bx_disk.specs.Disks.{Image}
use Rattle.bx_facts.specs.Chains.{Chain, LivesIn, grown, last, oldest}
use Rattle.bx_facts.specs.Holds.{Holds, OwnersPast, closed_floor, floor_after, is_exclusive, owners_grown}
use Rattle.bx_facts.specs.Writes.{IsOnly, Sent, WritesTo}
use Rattle.bx_global.specs.Allowed.{IsAllowed}
use Rattle.bx_global.specs.declared.change.Change.{Change}
use Rattle.bx_global.specs.declared.change.Change.TheVariants.{Renew, Take, Open, Expire, Claim, Close, Shift}
use Rattle.bx_global.specs.declared.state.GlobalState.{GlobalState}
use Rattle.bx_global.specs.Table.{IsLegal, effect}
use Rattle.bx_global.proofs.Rising.{index_rises, next_rises}
use Rattle.bx_places.specs.Places.{IsBlock}
use Rattle.bx_rows.specs.Rows.{GoesOn}
use Rattle.bx_rows.specs.declared.session.SessionRow.{SessionRow}
use Rattle.bx_rows.specs.Words.{is_taken, row_in}
use Rattle.bx_views.specs.Truths.{Truth}
use Rattle.bx_world_logs.specs.bx_volume.specs.Overlay.{Logs}
use Rattle.bx_world_logs.specs.bx_volume.specs.Records.{LogWhere, newest_in}
use Rattle.bx_world_chains.specs.Entitled.{AreAllowed, ClosesSlot, IsEntitled}
use Rattle.bx_world_chains.proofs.Chains.{has_less}
use Rattle.bx_world_chains.proofs.Rows.{Was, below_next, entitled_after, has_before, has_of, lives_before, lives_has, lives_of, lives_row, row_before, row_of, slot_goes}
use Rattle.bx_world_logs.specs.Logs.{IsInLog, LogsStand, Slot, SlotStands, begins, idle}
use Rattle.bx_world_logs.proofs.Growing.{SlotMay, rows_go}
use Rattle.bx_world_standing.specs.Rights.{HasBlock, OfHeld, IsOfSlot, IsReached, IsToldOf, IsWithin, OfLogged, MayTouch, OfSlot, RightsStand, Surely, WritesStand}
use Rattle.bx_world_standing.specs.Parts.{Clocks}
use Rattle.bx_world_standing.specs.Sessions.{SessionsStand}
use Rattle.bx_world_standing.specs.Doubts.{DoubtsStand, IsRecordOf}
use Rattle.bx_world_standing.specs.Closings.{ClosingStands, IsClosed}
use Rattle.bx_world_views.specs.Views.{Unacknowledged}
use Rattle.bx_world_chains.proofs.Changed.{ClosedBy, closed_or, was_or_new}

-- sessions of an earlier term stay so, and more become so
pub oldest_rises : (chain : Chain) (change : Change) → ((session : ℕ) → session < oldest chain → session < oldest (grown chain change)) ⊎ ((session : ℕ) → session < (last chain).next_session → session < oldest (grown chain change))
oldest_rises chain (Renew by boot reading) = inl (λ session less. less)
oldest_rises chain (Take by boot reading) = inr (λ session less. less)
oldest_rises chain (Open node boot reading) = inl (λ session less. less)
oldest_rises chain (Expire session term reading) = inl (λ other less. less)
oldest_rises chain (Claim gone by) = inl (λ session less. less)
oldest_rises chain (Close gone by) = inl (λ session less. less)
oldest_rises chain (Shift device epoch mode second boot) = inl (λ session less. less)

-- a slot that has no row has nothing in its log
no_log : (Sure : ℕ → ℕ → List ℕ → Type 0) (devices areas : ℕ) (rows : List SessionRow) (before : Image) (logs : Logs) (slots : ℕ → Slot) (truth : Truth) → LogsStand Sure devices areas rows before logs slots truth
    → (slot at : ℕ) → slot < 8 → is_taken rows slot ≡ false → IsInLog logs slots slot at → ⊥
no_log Sure devices areas rows before logs slots truth st slot at less free in_it = by in_it
  where
    none_of : (t : Bool) → t ≡ false → LogWhere t before devices areas slot (logs slot) → logs slot ≡ []
    none_of true is log = absurd cc
    none_of false is log = log

    none : logs slot ≡ []
    none = none_of (is_taken rows slot) free (st.is_truth.has_logs slot less)

    still : (slots slot).activity ≡ idle
    still = (subst (λ (t : Bool). SlotStands Sure devices areas before t logs slot (slots slot)) free (st.each slot less)).still

    by : IsInLog logs slots slot at → ⊥
    by (inl some) = let e : newest_in (logs slot) at ≡ None = ap (λ r. newest_in r at) none in cc
    by (inr is) = let e : begins (slots slot).activity ≡ false = ap begins still in let b = is.0 in cc

closed_log : (devices : ℕ) (logs : Logs) (slots : ℕ → Slot) (writes : List Sent) (slot by at : ℕ) → IsClosed devices logs slots writes slot by → IsInLog logs slots slot at → ⊥
closed_log devices logs slots writes slot by at closed (inl some) = let e : newest_in (logs slot) at ≡ None = ap (λ r. newest_in r at) closed.none in cc
closed_log devices logs slots writes slot by at closed (inr is) = let e : begins (slots slot).activity ≡ false = ap begins closed.still in let b = is.0 in cc

module _ (chain : Chain) (change : Change) (allowed : IsAllowed (last chain)) (legal : IsLegal (last chain) change) where
  has_oldest : (holding : Holds) (session at : ℕ) → session < (last chain).next_session → HasBlock holding (oldest chain) session at → HasBlock holding (oldest (grown chain change)) session at
  has_oldest holding session at less (inl own) = inl own
  has_oldest holding session at less (inr old) = inr (⊎_elim (λ same. same session old) (λ all. all session less) (oldest_rises chain change))

  -- ---- sessions

  pub sessions_go : (by_boot : Bool) (clocks : Clocks) (own : ℕ → Option ℕ) (knew : ℕ → ℕ) → SessionsStand by_boot chain clocks own knew → SessionsStand by_boot (grown chain change) clocks own knew
  sessions_go by_boot clocks own knew stand = record { told = λ node session is. let t = stand.told node session is in record { state = t.state; place = inr t.place; at = t.at; by = t.by } }

  -- a live session that was given out had a live row, of which its row came
  live_before : (session : ℕ) (row : SessionRow) → row_in (last (grown chain change)).sessions session ≡ Some row → row.dead ≡ 0 → session < (last chain).next_session
      → (old : SessionRow) × (row_in (last chain).sessions session ≡ Some old) × (old.dead ≡ 0) × GoesOn old row
  live_before session row is lives less =
      let was = row_before (last chain) change session row is less in
      let lived = lives_before (last chain) change session allowed (lives_of (last (grown chain change)) session row is lives) less in
      (was.old, was.is, subst (λ (found : Option SessionRow). IsSomeAnd found (λ one. one.dead ≡ 0)) was.is lived, was.goes)

  -- ---- rights

  pub rights_go : (Sure : ℕ → ℕ → List ℕ → Type 0) (devices areas : ℕ) (before : Image) (logs : Logs) (slots : ℕ → Slot) (truth : Truth) (holding : Holds) → LogsStand Sure devices areas (last chain).sessions before logs slots truth
      → RightsStand (last chain).sessions holding (oldest chain) areas logs slots → RightsStand (last (grown chain change)).sessions holding (oldest (grown chain change)) areas logs slots
  rights_go Sure devices areas before logs slots truth holding st rights = record {
    each = λ session row at is in_it. by session row at in_it (was_or_new (last chain) change session row allowed legal is);
  }
    where
      by : (session : ℕ) (row : SessionRow) (at : ℕ) → IsInLog logs slots row.slot at → Was (last chain) session row ⊎ ((row.slot < 8) × (is_taken (last chain).sessions row.slot ≡ false)) → IsBlock areas at × HasBlock holding (oldest (grown chain change)) session at
      by session row at in_it (inl was) =
          let before_it = rights.each session was.old at was.is (subst (λ (k : ℕ). IsInLog logs slots k at) was.goes.slot in_it) in
          (before_it.0, has_oldest holding session at (below_next (last chain).sessions (last chain).next_session session was.old allowed.rising was.is) before_it.1)
      by session row at in_it (inr fresh) = absurd (no_log Sure devices areas (last chain).sessions before logs slots truth st row.slot at fresh.0 fresh.1 in_it)

  -- ---- closings

  pub closing_goes : (devices : ℕ) (logs : Logs) (slots : ℕ → Slot) (writes : List Sent) (gone by : ℕ) → ClosingStands devices (last chain) logs slots writes gone by → ClosingStands devices (last (grown chain change)) logs slots writes gone by
  closing_goes devices logs slots writes gone by stands = record {
    given = let n = next_rises (last chain) change in let g = stands.given in omega (arith, n, g);
    given_by = let n = next_rises (last chain) change in let g = stands.given_by in omega (arith, n, g);
    dead = λ lives. stands.dead (lives_before (last chain) change gone allowed lives stands.given);
    entitled = λ row lives is.
        let was = row_before_it row is in
        subst (λ (k : ℕ). IsEntitled (last (grown chain change)) gone k by) (sym was.goes.slot)
        (entitled_after (last chain) change gone was.old.slot by allowed legal (stands.entitled was.old (lives_before (last chain) change by allowed lives stands.given_by) was.is) lives (has_of (last (grown chain change)) gone row is));
    closed = λ row lives is.
        let was = row_before_it row is in
        subst (λ (k : ℕ). IsClosed devices logs slots writes k by) (sym was.goes.slot) (stands.closed was.old (lives_before (last chain) change by allowed lives stands.given_by) was.is);
  }
    where
      row_before_it : (row : SessionRow) → row_in (last (grown chain change)).sessions gone ≡ Some row → Was (last chain) gone row
      row_before_it row is = row_before (last chain) change gone row is stands.given

  -- ---- doubts

  pub doubts_go : (devices : ℕ) (logs : Logs) (slots : ℕ → Slot) (doubts : ℕ → Option Unacknowledged) → DoubtsStand (last chain).sessions slots doubts
      → ((slot : ℕ) → slot < 8 → is_taken (last chain).sessions slot ≡ false → (slots slot).activity ≡ idle)
      → ((gone by : ℕ) (row : SessionRow) → change ≡ Close gone by → row_in (last chain).sessions gone ≡ Some row → (slots row.slot).activity ≡ idle)
      → DoubtsStand (last (grown chain change)).sessions slots doubts
  doubts_go devices logs slots doubts stand free closed = record {
    each = λ session row is begun. by session row begun (was_or_new (last chain) change session row allowed legal is);
    only = λ session doubt is. let had = stand.only session doubt is in still session doubt had.0 had.1 had.2 (closed_or (last chain) change session had.0 had.1);
  }
    where
      by : (session : ℕ) (row : SessionRow) → begins (slots row.slot).activity ≡ true → Was (last chain) session row ⊎ ((row.slot < 8) × (is_taken (last chain).sessions row.slot ≡ false)) → IsSomeAnd (doubts session) (IsRecordOf (slots row.slot).more)
      by session row begun (inl was) =
          subst (λ (k : ℕ). IsSomeAnd (doubts session) (IsRecordOf (slots k).more)) (sym was.goes.slot)
          (stand.each session was.old was.is (subst (λ (k : ℕ). begins (slots k).activity ≡ true) was.goes.slot begun))
      by session row begun (inr fresh) = absurd (let e : begins (slots row.slot).activity ≡ false = ap begins (free row.slot fresh.0 fresh.1) in cc)

      still : (session : ℕ) (doubt : Unacknowledged) (row : SessionRow) → row_in (last chain).sessions session ≡ Some row → begins (slots row.slot).activity ≡ true
          → ClosedBy (last chain) change session ⊎ ((new : SessionRow) × (row_in (effect (last chain) change).sessions session ≡ Some new) × GoesOn row new)
          → (new : SessionRow) × (row_in (last (grown chain change)).sessions session ≡ Some new) × (begins (slots new.slot).activity ≡ true)
      still session doubt row had begun (inl gone) = absurd (let e : begins (slots row.slot).activity ≡ false = ap begins (closed session gone.by row gone.is had) in cc)
      still session doubt row had begun (inr goes) = (goes.0, goes.1, subst (λ (k : ℕ). begins (slots k).activity ≡ true) (sym goes.2.slot) begun)

  -- ---- writes

  pub writes_go : (devices areas : ℕ) (holding : Holds) (leases : List (ℕ × ℕ)) (logs : Logs) (slots : ℕ → Slot) (writes : List Sent)
      → ((gone by : ℕ) → change ≡ Close gone by → ClosingStands devices (last chain) logs slots writes gone by)
      → WritesStand devices areas (last chain) holding leases logs slots writes → WritesStand devices areas (last (grown chain change)) holding leases logs slots writes
  writes_go devices areas holding leases logs slots writes closing stand = record {
    ends = stand.ends;
    given = λ write there. let n = next_rises (last chain) change in let g = stand.given write there in omega (arith, n, g);
    may = λ write d sector content there lives writes_it.
        by write d sector content there lives writes_it (stand.may write d sector content there (before write there lives) writes_it);
  }
    where
      before : (write : Sent) → Contains writes write → LivesIn (last (grown chain change)) write.session → LivesIn (last chain) write.session
      before write there lives = lives_before (last chain) change write.session allowed lives (stand.given write there)

      -- whoever may write a slot may do so then, or the slot's session is closed by it
      Goes : ℕ → ℕ → ℕ → Type 0
      Goes owner slot session = IsEntitled (last (grown chain change)) owner slot session ⊎ ((row : SessionRow) × (row_in (last chain).sessions owner ≡ Some row) × (row.slot ≡ slot) × (change ≡ Close owner session))

      closer : (owner slot session who : ℕ) → IsEntitled (last chain) owner slot session → IsLegal (last chain) (Close owner who) → who ≡ session
      closer owner slot session who is law = by is.whose (some_found (row_in (last chain).sessions owner) law.row.0)
        where
          some_found : (found : Option SessionRow) → IsSomeAnd found (λ row. (row.dead ≡ 1) × (row.by ≡ who)) → (row : SessionRow) × (found ≡ Some row) × (row.dead ≡ 1) × (row.by ≡ who)
          some_found None some = absurd some
          some_found (Some row) some = (row, refl, some.0, some.1)

          same_row : (a b : SessionRow) (found : Option SessionRow) → found ≡ Some a → found ≡ Some b → a ≡ b
          same_row a b found x y = cc

          by : (owner ≡ session) ⊎ ((is.row.dead ≡ 1) × (is.row.by ≡ session)) → (row : SessionRow) × (row_in (last chain).sessions owner ≡ Some row) × (row.dead ≡ 1) × (row.by ≡ who) → who ≡ session
          by (inl own) found = absurd (
              let live = lives_row (last chain) session is.lives in
              let e = same_row live.0 found.0 (row_in (last chain).sessions owner) (ap (row_in (last chain).sessions) own ∙ live.1) found.1 in
              let f = ap (λ (r : SessionRow). r.dead) e in let z = live.2 in let o = found.2 in omega (arith, f, z, o))
          by (inr claims) found = let e = same_row is.row found.0 (row_in (last chain).sessions owner) is.is found.1 in sym found.3 ∙ ap (λ (r : SessionRow). r.by) (sym e) ∙ claims.1

      goes : (owner slot session : ℕ) → IsEntitled (last chain) owner slot session → LivesIn (last (grown chain change)) session → Goes owner slot session
      goes owner slot session is lives = ⊎_elim
          (λ gone. inr (is.row, is.is, is.at, gone.is ∙ ap (λ (k : ℕ). Close owner k) (closer owner slot session gone.by is (subst (λ (c : Change). IsLegal (last chain) c) gone.is legal))))
          (λ stays. inl (entitled_after (last chain) change owner slot session allowed legal is lives (has_of (effect (last chain) change) owner stays.0 stays.1)))
          (closed_or (last chain) change owner is.row is.is)

      by : (write : Sent) (d sector : ℕ) (content : List ℕ) → Contains writes write → LivesIn (last (grown chain change)) write.session → WritesTo write d sector content
          → MayTouch devices areas (last chain) holding logs slots write.session d sector → MayTouch devices areas (last (grown chain change)) holding logs slots write.session d sector
      by write d sector content there lives writes_it (OfHeld at is home own) = OfHeld at is home own
      by write d sector content there lives writes_it (OfSlot owner slot less entitled of) = ⊎_elim
          (λ stays. OfSlot owner slot less stays of)
          (λ gone. absurd (
          let closing_is = closing owner write.session gone.3 in
          let closed = closing_is.closed gone.0 (before write there lives) gone.1 in
          closed.unwritten write d sector content there refl writes_it (subst (λ (k : ℕ). IsOfSlot devices k d sector) (sym gone.2) of)))
          (goes owner slot write.session entitled lives)
      by write d sector content there lives writes_it (OfLogged at owner slot is home less entitled in_it) = ⊎_elim
          (λ stays. OfLogged at owner slot is home less stays in_it)
          (λ gone. absurd (
          let closing_is = closing owner write.session gone.3 in
          let closed = closing_is.closed gone.0 (before write there lives) gone.1 in
          closed_log devices logs slots writes gone.0.slot write.session at closed (subst (λ (k : ℕ). IsInLog logs slots k at) (sym gone.2) in_it)))
          (goes owner slot write.session entitled lives)

  -- ---- what stands

  floor_at : (past : OwnersPast) (at : ℕ) → past.floor at ≤ floor_after past change at
  floor_at past at = by change
    where
      by : (c : Change) → past.floor at ≤ floor_after past c at
      by (Renew who boot reading) = omega arith
      by (Take who boot reading) = omega arith
      by (Open node boot reading) = omega arith
      by (Expire session term reading) = omega arith
      by (Claim gone who) = omega arith
      by (Shift device epoch mode second boot) = omega arith
      by (Close gone who) = raised (ltb gone (oldest past.told.chain) || is_exclusive (past.holding gone at)) (effect (last past.told.chain) (Close gone who)).index (past.floor at)
        where
          raised : (b : Bool) (index low : ℕ) → low ≤ (if b then max low index else low)
          raised true index low = grind arith
          raised false index low = omega arith

  closed_reaches : (past : OwnersPast) (gone who at : ℕ) → past.told.chain ≡ chain → HasBlock past.holding (oldest chain) gone at → (effect (last chain) (Close gone who)).index ≤ closed_floor past.holding past.floor (oldest past.told.chain) gone (effect (last past.told.chain) (Close gone who)).index at
  closed_reaches past gone who at same has = subst (λ (c : Chain). (effect (last chain) (Close gone who)).index ≤ closed_floor past.holding past.floor (oldest c) gone (effect (last c) (Close gone who)).index at) (sym same)
      (by (ltb gone (oldest chain)) (is_exclusive (past.holding gone at)) refl refl has)
    where
      high : (low index : ℕ) → index ≤ max low index
      high low index = grind arith

      by : (a b : Bool) → ltb gone (oldest chain) ≡ a → is_exclusive (past.holding gone at) ≡ b → HasBlock past.holding (oldest chain) gone at
          → (effect (last chain) (Close gone who)).index ≤ (if ltb gone (oldest chain) || is_exclusive (past.holding gone at) then max (past.floor at) (effect (last chain) (Close gone who)).index else past.floor at)
      by true b old own is = rw old (high (past.floor at) (effect (last chain) (Close gone who)).index)
      by false true old own is = rw (old, own) (high (past.floor at) (effect (last chain) (Close gone who)).index)
      by false false old own (inl held) = absurd (let e : false ≡ true = sym own ∙ held in cc)
      by false false old own (inr less) = absurd (grind (arith, nat_tests, old, less))

  -- `IsOf` goes by what stays of a row.
  module _ (IsOf : ℕ → SessionRow → Type 0) (stays_of : (node : ℕ) (old new : SessionRow) → GoesOn old new → IsOf node new → IsOf node old) where
    pub within_goes : (devices areas : ℕ) (past : OwnersPast) (knew : ℕ → ℕ) → past.told.chain ≡ chain → AreAllowed chain
        → (d sector index : ℕ) → IsWithin devices areas chain past.holding past.floor IsOf knew d sector index
        → IsWithin devices areas (grown chain change) past.holding (owners_grown past change).floor IsOf knew d sector index
    within_goes devices areas past knew same all d sector index within = record {
      most = let i = index_rises (last chain) change in let m = within.most in omega (arith, i, m);
      home = λ at is of. reach at (within.home at is of);
      slot = λ slot less of. told slot (within.slot slot less of);
    }
      where
        told : (slot : ℕ) → IsToldOf devices areas chain past.holding past.floor IsOf knew slot index → IsToldOf devices areas (grown chain change) past.holding (owners_grown past change).floor IsOf knew slot index
        told slot was node session owner row state is lives of (inl last_is) known entitled has =
            let i = index_rises (last chain) change in let m = within.most in let e = ap (λ (s : GlobalState). s.index) last_is in omega (arith, i, m, e)
        told slot was node session owner row state is lives of (inr place) known entitled has =
            let old = live_before session row is lives (has_less chain state session all place (lives_has state session entitled.lives)) in
            was node session owner old.0 state old.1 old.2 (stays_of node old.0 row old.3 of) place known entitled
            (has_before (last chain) change owner has (has_less chain state owner all place (has_of state owner entitled.row entitled.is)))

        reach : (at : ℕ) → IsReached devices areas chain past.holding past.floor IsOf knew at index → IsReached devices areas (grown chain change) past.holding (owners_grown past change).floor IsOf knew at index
        reach at (inl low) = inl (let f = floor_at past at in omega (arith, low, f))
        reach at (inr (session, row, has, knows)) =
            let had = row_of (last chain) session row in
            let less = below_next (last chain).sessions (last chain).next_session session had.0 allowed.rising had.1 in
            ⊎_elim
            (λ gone. inl (subst (λ (c : Change). index ≤ floor_after past c at) (sym gone.is)
            (let high = closed_reaches past session gone.by at same has in let i = index_rises (last chain) (Close session gone.by) in let m = within.most in omega (arith, high, i, m))))
            (λ stays. inr (
              session,
              has_of (effect (last chain) change) session stays.0 stays.1,
              has_oldest past.holding session at less has,
              λ node now is lives of. let old = live_before session now is lives less in knows node old.0 old.1 old.2 (stays_of node old.0 now old.3 of),
            ))
            (closed_or (last chain) change session had.0 had.1)

    pub surely_goes : (devices areas : ℕ) (past : OwnersPast) (knew : ℕ → ℕ) (stands stands_then : ℕ → ℕ → List ℕ → ℕ → Type 0) (writes : List Sent) (greatest : ℕ)
        → past.told.chain ≡ chain → AreAllowed chain
        → ((d sector : ℕ) (content : List ℕ) (index : ℕ) → IsOnly writes greatest d sector content → stands d sector content index → stands_then d sector content index)
        → (d sector : ℕ) (content : List ℕ) → Surely stands (IsWithin devices areas chain past.holding past.floor IsOf knew) writes greatest d sector content
        → Surely stands_then (IsWithin devices areas (grown chain change) past.holding (owners_grown past change).floor IsOf knew) writes greatest d sector content
    surely_goes devices areas past knew stands stands_then writes greatest same all goes d sector content sure = record {
      index = sure.index;
      is = goes d sector content sure.index sure.only sure.is;
      only = sure.only;
      within = within_goes devices areas past knew same all d sector sure.index sure.within;
    }

  -- ---- logs

  pub logs_go : (Sure Sure_then : ℕ → ℕ → List ℕ → Type 0) (devices areas : ℕ) (before : Image) (logs : Logs) (slots : ℕ → Slot) (truth : Truth) (writes : List Sent)
      → ((d sector : ℕ) (content : List ℕ) → Sure d sector content → Sure_then d sector content)
      → ((gone by : ℕ) → change ≡ Close gone by → ClosingStands devices (last chain) logs slots writes gone by)
      → LogsStand Sure devices areas (last chain).sessions before logs slots truth → LogsStand Sure_then devices areas (last (grown chain change)).sessions before logs slots truth
  logs_go Sure Sure_then devices areas before logs slots truth writes keeps closing st =
      rows_go Sure Sure_then devices areas before keeps (last chain).sessions (last (grown chain change)).sessions logs slots truth (λ slot less. by slot (slot_goes (last chain) change slot allowed)) st
    where
      by : (slot : ℕ) → (is_taken (effect (last chain) change).sessions slot ≡ is_taken (last chain).sessions slot) ⊎ (((is_taken (last chain).sessions slot ≡ false) × (is_taken (effect (last chain) change).sessions slot ≡ true)) ⊎ ClosesSlot (last chain) change slot)
          → SlotMay (last chain).sessions (last (grown chain change)).sessions logs slots slot
      by slot (inl same) = inl same
      by slot (inr (inl fresh)) = inr (inl fresh)
      by slot (inr (inr gone)) =
          let law = subst (λ (c : Change). IsLegal (last chain) c) gone.is legal in
          let closed = (closing gone.gone gone.by gone.is).closed gone.row law.row.1 gone.had in
          inr (inr (gone.was, gone.now, ap logs (sym gone.at) ∙ closed.none, ap (λ (k : ℕ). (slots k).activity) (sym gone.at) ∙ closed.still))
