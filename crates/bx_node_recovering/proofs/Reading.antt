-- What a recovery reads comes as it stands.
use Rattle.std.proofs.Common.{◌≡◌, inl, inr, ◌∙◌, ℕ, ◌+◌, ◌-◌, ◌<◌, ◌≤◌, List, Some, None, sym, ap, subst, arith}
use Rattle.bx_disk.specs.Disks.{sector_of}
use Rattle.bx_facts.specs.Writes.{Asked}
use Rattle.bx_node_machines.specs.Recovering.{AreAsRead, AreGatesAsked, Around, IsBodyAsRead, IsBodyAsked, body_asked, gates_asked}
use Rattle.bx_places.specs.Places.{body_place, log_start}
use Rattle.bx_volume.specs.Records.{gate_of}

module _ (devices : ℕ) (Reads : ℕ → List ℕ → Type 0) (a : Around) (slot : ℕ) (asks : Asked) (asked : a.asked ≡ Some asks) (bytes : List ℕ)
    (brings : (sector : ℕ) (content : List ℕ) → asks.place ≤ sector → sector < asks.place + asks.count → Reads sector content → sector_of bytes (sector - asks.place) ≡ content) where
  none_asked : a.asked ≡ None → ⊥
  none_asked none = let wrong : Some asks ≡ None = sym asked ∙ none in cc

  asks_is : (its : Asked) → a.asked ≡ Some its → asks ≡ its
  asks_is its is = let same : Some asks ≡ Some its = sym asked ∙ is in cc

  -- a sector of what was asked for
  came : (its : Asked) → asks ≡ its → (i : ℕ) (content : List ℕ) → i < its.count → Reads (its.place + i) content → sector_of bytes i ≡ content
  came its is i content few reads =
      let place : asks.place ≡ its.place = ap (λ (one : Asked). one.place) is in
      let count : asks.count ≡ its.count = ap (λ (one : Asked). one.count) is in
      let there : its.place + i - asks.place ≡ i = omega (arith, place) in
      sym (ap (sector_of bytes) there) ∙ brings (its.place + i) content (omega (arith, place)) (omega (arith, place, count, few)) reads

  pub gates_come : AreGatesAsked devices Reads a slot → AreAsRead devices a slot bytes
  gates_come (inl none) = absurd (none_asked none)
  gates_come (inr is) = λ gate low still.
      came (gates_asked devices slot) (asks_is (gates_asked devices slot) is.0) gate (gate_of a.before devices slot gate) low
      (subst (λ (n : ℕ). Reads n (gate_of a.before devices slot gate)) (let e : log_start slot + gate ≡ log_start slot + 0 + gate = omega arith in e) (is.1 gate low still))

  pub body_comes : (body : ℕ) → IsBodyAsked devices Reads a slot body → IsBodyAsRead devices a slot body bytes
  body_comes body (inl none) = absurd (none_asked none)
  body_comes body (inr is) = λ i few filled.
      came (body_asked devices slot body) (asks_is (body_asked devices slot body) is.0) i (a.before (body_place slot body devices).0 ((body_place slot body devices).1 + i)) few (is.1 i few filled)
