-- What a live session may write, and wrote at what its node knows, is known first to whoever comes to hold its block or may write its slot.
use Rattle.std.proofs.Common.{◌≡◌, ◌⊎◌, ⊎_elim, inl, inr, ℕ, ◌<◌, ◌≤◌, Option, Some, true, refl, sym, ◌∙◌, ap, subst, arith}
use Rattle.bx_facts.specs.Chains.{AreLegal, Chain, HasRow, IsPlace, LivesIn, last, oldest}
use Rattle.bx_facts.specs.Holds.{Holds, is_exclusive}
use Rattle.bx_global.specs.declared.state.GlobalState.{GlobalState}
use Rattle.bx_places.specs.Places.{IsBlock, IsVolume}
use Rattle.bx_rows.specs.Words.{row_in}
use Rattle.bx_rows.specs.declared.session.SessionRow.{SessionRow}
use Rattle.bx_world_standing.specs.bx_volume.specs.Overlay.{Logs}
use Rattle.bx_world_standing.specs.bx_world_chains.specs.Entitled.{AreAllowed, IsEntitled}
use Rattle.bx_world_standing.specs.bx_world_chains.proofs.Chains.{entitled_last, last_place}
use Rattle.bx_world_standing.specs.bx_world_chains.proofs.Rows.{has_of, lives_of, one_entitled}
use Rattle.bx_world_standing.specs.bx_world_logs.specs.Logs.{IsInLog, Slot}
use Rattle.bx_world_standing.specs.Rights.{HasBlock, IsKnown, IsOfHome, IsOfSlot, IsReached, IsToldOf, IsWithin, MayTouch, RightsStand}
use Rattle.bx_world_standing.specs.Rights.MayTouch.{OfSlot, OfHeld, OfLogged}
use Rattle.bx_node_views.proofs.Touching.{one_home, one_slot, slot_and_home}

module _ (devices areas : ℕ) (volume : IsVolume devices areas) (chain : Chain) (allowed : AreAllowed chain) (legal : AreLegal chain.first chain.changes)
    (holding : Holds) (floor : ℕ → ℕ) (IsOf : ℕ → SessionRow → Type 0) (knew : ℕ → ℕ) (logs : Logs) (slots : ℕ → Slot)
    (rights : RightsStand (last chain).sessions holding (oldest chain) areas logs slots)
    (node its : ℕ) (row : SessionRow) (is_row : row_in (last chain).sessions its ≡ Some row) (alive : row.dead ≡ 0)
    (one_node : (other : ℕ) (one : SessionRow) → row_in (last chain).sessions its ≡ Some one → IsOf other one → other ≡ node)
    (most : knew node ≤ (last chain).index) where
  its_lives : LivesIn (last chain) its
  its_lives = lives_of (last chain) its row is_row alive

  same_row : (a b : SessionRow) (found : Option SessionRow) → found ≡ Some a → found ≡ Some b → a ≡ b
  same_row a b found one two = cc

  -- its node alone has to know it
  knows : (other : ℕ) (one : SessionRow) → row_in (last chain).sessions its ≡ Some one → IsOf other one → knew node ≤ knew other
  knows other one is of = let e = one_node other one is of in let f = ap (λ (n : ℕ). knew n) e in omega (arith, f)

  -- the session that a slot is of: it itself, or a dead one that it has claimed
  owner_known : (owner slot : ℕ) → IsEntitled (last chain) owner slot its → (other : ℕ) (one : SessionRow) → row_in (last chain).sessions owner ≡ Some one → one.dead ≡ 0 → IsOf other one → knew node ≤ knew other
  owner_known owner slot entitled other one is lives of = ⊎_elim
      (λ self. knows other one (ap (λ (n : ℕ). row_in (last chain).sessions n) (sym self) ∙ is) of)
      (λ claimed. absurd (let e = same_row entitled.row one (row_in (last chain).sessions owner) entitled.is is in let f = ap (λ (r : SessionRow). r.dead) e in let d = claimed.0 in omega (arith, d, f, lives)))
      entitled.whose

  home_reached : (at d sector : ℕ) → IsBlock areas at → IsOfHome devices at d sector → MayTouch devices areas (last chain) holding logs slots its d sector → IsReached devices areas chain holding floor IsOf knew at (knew node)
  home_reached at d sector is home (OfSlot owner slot less entitled in_slot) = absurd (slot_and_home devices areas volume slot at d sector less in_slot home)
  home_reached at d sector is home (OfHeld block is_block home_too mine) =
      let e = one_home devices areas volume block at d sector is_block is home_too home in
      inr (its, has_of (last chain) its row is_row, inl (subst (λ (n : ℕ). is_exclusive (holding its n) ≡ true) e mine), λ other one found lives of. knows other one found of)
  home_reached at d sector is home (OfLogged block owner slot is_block home_too less entitled inside) =
      let e = one_home devices areas volume block at d sector is_block is home_too home in
      let right = rights.each owner entitled.row block entitled.is (subst (λ (n : ℕ). IsInLog logs slots n block) (sym entitled.at) inside) in
      inr (owner, has_of (last chain) owner entitled.row entitled.is, subst (λ (n : ℕ). HasBlock holding (oldest chain) owner n) e right.1, owner_known owner slot entitled)

  slot_told : (slot d sector : ℕ) → slot < 8 → IsOfSlot devices slot d sector → MayTouch devices areas (last chain) holding logs slots its d sector → IsToldOf devices areas chain holding floor IsOf knew slot (knew node)
  slot_told slot d sector less in_slot (OfHeld block is_block home mine) other session owner one s is lives of place later entitled has = absurd (slot_and_home devices areas volume slot block d sector less in_slot home)
  slot_told slot d sector less in_slot (OfLogged block owned slot_too is_block home less_too entitled_too inside) other session owner one s is lives of place later entitled has = absurd (slot_and_home devices areas volume slot block d sector less in_slot home)
  slot_told slot d sector less in_slot (OfSlot owned slot_too less_too entitled_too in_slot_too) other session owner one s is lives of place later entitled has =
      let e = one_slot devices areas volume slot_too slot d sector in_slot_too in_slot in
      let mine = subst (λ (n : ℕ). IsEntitled (last chain) owned n its) e entitled_too in
      let still = entitled_last chain s owner slot session allowed legal place entitled (lives_of (last chain) session one is lives) has in
      let same = (one_entitled (last chain) owned owner slot its session (allowed.each (last chain) (last_place chain)) mine still).1 in
      let known = knows other one (ap (λ (n : ℕ). row_in (last chain).sessions n) same ∙ is) of in omega (arith, known, later)

  pub reaches : (d sector : ℕ) → MayTouch devices areas (last chain) holding logs slots its d sector → IsWithin devices areas chain holding floor IsOf knew d sector (knew node)
  reaches d sector touch = record {
    most = most;
    home = λ at is home. home_reached at d sector is home touch;
    slot = λ slot less in_slot. slot_told slot d sector less in_slot touch;
  }
