-- No two live sessions may write one sector.
use Rattle.std.proofs.Common.{◌≡◌, ◌≢◌, ◌⊎◌, ⊎_elim, inl, inr, ℕ, ◌+◌, ◌<◌, ◌≤◌, Bool, true, false, eqb, List, Contains, Option, Some, IsSomeAnd, refl, sym, ◌∙◌, subst, arith}
use Rattle.std.specs.Prelude.{nat_le}
use Rattle.std.proofs.lemmas.Bool.Decides.{nat_tests}
use Rattle.bx_base.specs.declared.names.Mode.TheVariants.{Shared, Exclusive}
use Rattle.bx_facts.specs.Chains.{HasRow, LivesIn}
use Rattle.bx_facts.specs.Holds.{Hold, Holds, is_exclusive}
use Rattle.bx_facts.specs.Writes.{IsOver, MayWrite, Sent, WritesTo}
use Rattle.bx_global.specs.Allowed.{IsAllowed}
use Rattle.bx_global.specs.declared.state.GlobalState.{GlobalState}
use Rattle.bx_places.specs.Places.{IsBlock, IsVolume}
use Rattle.bx_rows.specs.Words.{row_in}
use Rattle.bx_rows.specs.declared.session.SessionRow.{SessionRow}
use Rattle.bx_world_standing.specs.bx_volume.specs.Overlay.{Logs}
use Rattle.bx_world_standing.specs.bx_world_chains.specs.Entitled.{IsEntitled}
use Rattle.bx_world_standing.specs.bx_world_logs.specs.Logs.{IsInLog, Slot}
use Rattle.bx_world_standing.specs.bx_volume.proofs.Apart.{home_and_log, two_homes}
use Rattle.bx_world_standing.specs.bx_world_chains.proofs.Rows.{one_entitled}
use Rattle.bx_node_views.proofs.Knowing.{exclusive_is}
use Rattle.bx_world_standing.specs.Rights.{HasBlock, IsOfHome, IsOfSlot, MayTouch, RightsStand, WritesStand}
use Rattle.bx_world_standing.specs.Rights.MayTouch.{OfSlot, OfHeld, OfLogged}
use Rattle.bx_world_standing.specs.bx_world_views.specs.Views.{AreApart}

-- A sector is of one slot, or of one block's home.
module _ (devices areas : ℕ) (volume : IsVolume devices areas) where
  pub one_home : (at other d sector : ℕ) → IsBlock areas at → IsBlock areas other → IsOfHome devices at d sector → IsOfHome devices other d sector → at ≡ other
  one_home at other d sector is is_other one two = by_test (eqb at other) refl
    where
      by_test : (b : Bool) → eqb at other ≡ b → at ≡ other
      by_test true same = grind (arith, nat_tests, same)
      by_test false differ = absurd (
          let a = one.is in let b = two.is in let i = one.few in let j = two.few in
          ⊎_elim (λ before. omega (arith, before, a, b, i, j)) (λ behind. omega (arith, behind, a, b, i, j))
          (two_homes at other devices areas volume is is_other (λ e. grind (arith, nat_tests, differ, e)) (sym one.device ∙ two.device)))

  pub slot_and_home : (slot at d sector : ℕ) → slot < 8 → IsOfSlot devices slot d sector → IsOfHome devices at d sector → ⊥
  slot_and_home slot at d sector less one two = let behind = home_and_log at devices slot less in let to = one.to in let is = two.is in omega (arith, behind, to, is)

  pub one_slot : (slot other d sector : ℕ) → IsOfSlot devices slot d sector → IsOfSlot devices other d sector → slot ≡ other
  one_slot slot other d sector one two = let a = one.from in let b = one.to in let c = two.from in let e = two.to in omega (arith, a, b, c, e)

module _ (devices areas : ℕ) (volume : IsVolume devices areas) (s : GlobalState) (holding : Holds) (oldest : ℕ) (logs : Logs) (slots : ℕ → Slot)
    (rows : (session : ℕ) → LivesIn s session → HasRow s session)
    (apart : AreApart holding (HasRow s))
    (alone : (session other at : ℕ) (hold : Hold) → LivesIn s session → HasRow s other → holding session at ≡ Some hold → oldest ≤ other)
    (rights : RightsStand s.sessions holding oldest areas logs slots)
    (once : (slot other at : ℕ) → slot < 8 → other < 8 → IsInLog logs slots slot at → IsInLog logs slots other at → slot ≡ other)
    (allowed : IsAllowed s) where
  not_both : (session other at : ℕ) → LivesIn s session → HasRow s other → other ≢ session → is_exclusive (holding session at) ≡ true → HasBlock holding oldest other at → ⊥
  not_both session other at lives row ne mine (inl yours) =
      let a = exclusive_is (holding session at) mine in let b = exclusive_is (holding other at) yours in
      let both = apart.each session other at (Exclusive, a.0) (Exclusive, b.0) (rows session lives) row ne a.1 b.1 in
      let wrong : Exclusive ≡ Shared = both.0 in cc
  not_both session other at lives row ne mine (inr older) =
      let a = exclusive_is (holding session at) mine in
      let least = alone session other at (Exclusive, a.0) lives row a.1 in omega (arith, older, least)

  has_row : (owner : ℕ) (row : SessionRow) → row_in s.sessions owner ≡ Some row → HasRow s owner
  has_row owner row is = cc

  dead_and_live : (session : ℕ) (row : SessionRow) → row_in s.sessions session ≡ Some row → row.dead ≡ 1 → LivesIn s session → ⊥
  dead_and_live session row is dead lives =
      let zero_is : row.dead ≡ 0 = subst (λ (o : Option SessionRow). IsSomeAnd o (λ r. r.dead ≡ 0)) is lives in omega (arith, dead, zero_is)

  held_and_logged : (session other at block owner slot d sector : ℕ) → LivesIn s session → session ≢ other → IsBlock areas at → IsOfHome devices at d sector → is_exclusive (holding session at) ≡ true
      → IsBlock areas block → IsOfHome devices block d sector → IsEntitled s owner slot other → IsInLog logs slots slot block → ⊥
  held_and_logged session other at block owner slot d sector lives ne is home mine is_block home_too entitled inside = by_test (eqb owner session) refl
    where
      same : block ≡ at
      same = one_home devices areas volume block at d sector is_block is home_too home

      its : HasBlock holding oldest owner at
      its = subst (λ (n : ℕ). HasBlock holding oldest owner n) same (rights.each owner entitled.row block entitled.is (subst (λ (n : ℕ). IsInLog logs slots n block) (sym entitled.at) inside)).1

      by_test : (b : Bool) → eqb owner session ≡ b → ⊥
      by_test true is_one =
          let e : owner ≡ session = grind (arith, nat_tests, is_one) in
          ⊎_elim (λ self. ne (sym e ∙ self)) (λ claimed. dead_and_live session entitled.row (subst (λ (n : ℕ). row_in s.sessions n ≡ Some entitled.row) e entitled.is) claimed.0 lives) entitled.whose
      by_test false differ = not_both session owner at lives (has_row owner entitled.row entitled.is) (λ e. grind (arith, nat_tests, differ, e)) mine its

  pub touch_clash : (session other d sector : ℕ) → LivesIn s session → LivesIn s other → session ≢ other
      → MayTouch devices areas s holding logs slots session d sector → MayTouch devices areas s holding logs slots other d sector → ⊥
  touch_clash session other d sector lives lives_too ne (OfSlot owner slot less entitled in_slot) (OfSlot owner_too slot_too less_too entitled_too in_slot_too) =
      let e = one_slot devices areas volume slot slot_too d sector in_slot in_slot_too in
      ne (one_entitled s owner owner_too slot session other allowed entitled (subst (λ (n : ℕ). IsEntitled s owner_too n other) (sym e) entitled_too)).1
  touch_clash session other d sector lives lives_too ne (OfSlot owner slot less entitled in_slot) (OfHeld at is home mine) = slot_and_home devices areas volume slot at d sector less in_slot home
  touch_clash session other d sector lives lives_too ne (OfSlot owner slot less entitled in_slot) (OfLogged at owner_too slot_too is home less_too entitled_too inside) = slot_and_home devices areas volume slot at d sector less in_slot home
  touch_clash session other d sector lives lives_too ne (OfHeld at is home mine) (OfSlot owner slot less entitled in_slot) = slot_and_home devices areas volume slot at d sector less in_slot home
  touch_clash session other d sector lives lives_too ne (OfHeld at is home mine) (OfHeld block is_too home_too yours) =
      let e = one_home devices areas volume block at d sector is_too is home_too home in
      not_both session other at lives (rows other lives_too) (λ same. ne (sym same)) mine (inl (subst (λ (n : ℕ). is_exclusive (holding other n) ≡ true) e yours))
  touch_clash session other d sector lives lives_too ne (OfHeld at is home mine) (OfLogged block owner slot is_too home_too less entitled inside) =
      held_and_logged session other at block owner slot d sector lives ne is home mine is_too home_too entitled inside
  touch_clash session other d sector lives lives_too ne (OfLogged block owner slot is home less entitled inside) (OfSlot owner_too slot_too less_too entitled_too in_slot) = slot_and_home devices areas volume slot_too block d sector less_too in_slot home
  touch_clash session other d sector lives lives_too ne (OfLogged block owner slot is home less entitled inside) (OfHeld at is_too home_too yours) =
      held_and_logged other session at block owner slot d sector lives_too (λ same. ne (sym same)) is_too home_too yours is home entitled inside
  touch_clash session other d sector lives lives_too ne (OfLogged block owner slot is home less entitled inside) (OfLogged at owner_too slot_too is_too home_too less_too entitled_too inside_too) =
      let e = one_home devices areas volume at block d sector is_too is home_too home in
      let f = once slot slot_too block less less_too inside (subst (λ (n : ℕ). IsInLog logs slots slot_too n) e inside_too) in
      ne (one_entitled s owner owner_too slot session other allowed entitled (subst (λ (n : ℕ). IsEntitled s owner_too n other) (sym f) entitled_too)).1

  -- A live session may send a write of sectors that it may write.
  pub may_write : (leases : List (ℕ × ℕ)) (writes : List Sent) (greatest : ℕ) (new : Sent) → WritesStand devices areas s holding leases logs slots writes → LivesIn s new.session
      → ((session end : ℕ) → Contains leases (session, end) → greatest ≤ end + 500 → LivesIn s session)
      → ((d sector : ℕ) (content : List ℕ) → WritesTo new d sector content → MayTouch devices areas s holding logs slots new.session d sector)
      → MayWrite writes greatest s new
  may_write leases writes greatest new stand lives relied may = record {
    each = λ write d sector content other has to to_new. by_session write d sector content other has to to_new (eqb write.session new.session) refl;
  }
    where
      is_over : (write : Sent) → Contains writes write → (LivesIn s write.session → ⊥) → IsOver greatest write
      is_over write has dead = by_test (stand.ends write has) (nat_le greatest ((stand.ends write has).0 + 500)) refl
        where
          by_test : (end : (end : ℕ) × Contains leases (write.session, end) × (write.until ≤ end)) (b : Bool) → nat_le greatest (end.0 + 500) ≡ b → IsOver greatest write
          by_test end true less = absurd (dead (relied write.session end.0 end.1 (grind (arith, nat_tests, less))))
          by_test end false more =
              let above : end.0 + 500 < greatest = grind (arith, nat_tests, more) in
              let until_end = end.2 in omega (arith, above, until_end)

      by_session : (write : Sent) (d sector : ℕ) (content other : List ℕ) → Contains writes write → WritesTo write d sector other → WritesTo new d sector content
          → (b : Bool) → eqb write.session new.session ≡ b → (write.session ≡ new.session) ⊎ (IsOver greatest write × (LivesIn s write.session → ⊥))
      by_session write d sector content other has to to_new true same = inl (grind (arith, nat_tests, same))
      by_session write d sector content other has to to_new false differ =
          let dead : LivesIn s write.session → ⊥ = λ live. touch_clash new.session write.session d sector lives live (λ e. grind (arith, nat_tests, differ, e)) (may d sector content to_new) (stand.may write d sector other has live to) in
          inr (is_over write has dead, dead)
