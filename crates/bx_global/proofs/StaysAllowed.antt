-- A legal change keeps the conditions on a state.
use Rattle.std.proofs.Common.{◌≡◌, ℕ, zero, suc, ◌+◌, ◌-◌, ◌^◌, ◌<◌, ◌≤◌, Bool, true, false, not, eqb, List, [], ◌∷◌, ◌++◌, length, map, refl, inl, inr, arith, max}
use Rattle.std.specs.Prelude.{slice_get, IsSomeAnd}
use Rattle.std.specs.List.{AllByRecursion}
use Rattle.std.proofs.lemmas.List.{length-map}
use Rattle.bx_global.specs.declared.change.Change.{Change}
use Rattle.bx_global.specs.declared.change.Change.TheVariants.{Renew, Take, Open, Expire, Claim, Close, Shift}
use Rattle.bx_rows.specs.declared.device.DeviceRow.{DeviceRow}
use Rattle.bx_rows.specs.declared.session.SessionRow.{SessionRow}
use Rattle.bx_global.specs.declared.state.GlobalState.{GlobalState}
use Rattle.bx_global.specs.Allowed.{IsAllowed, IsChange}
use Rattle.bx_rows.specs.Conditions.{AreRising, HaveOwnSlots, IsSession, IsDevice, Fits}
use Rattle.bx_rows.specs.Modes.{IsReachable}
use Rattle.bx_rows.specs.Rows.{dead, expired, claimed, at_place, shifted, without}
use Rattle.bx_global.specs.Table.{IsLegal, effect, opened}
use Rattle.bx_rows.specs.Words.{least_free}
use Rattle.bx_global.proofs.Places.{length-at_place}
use Rattle.bx_global.proofs.Rising.{keeps_expired, keeps_claimed}
use Rattle.bx_global.proofs.Kept.{all-map, all-filter, all-push, all_is, length-filter, rising-map, rising-filter, rising-push, slots-map, slots-filter, slots-push, free_slot_is_free, few_rows}

later_end : (old new : ℕ) → old ≤ new → (row : SessionRow) → IsSession old row → IsSession new row
later_end old new le row h = record { number = h.number; node = h.node; boot = h.boot; slot = h.slot; until = omega (arith, h.until, le); dead = h.dead; by = h.by }

reachable : (old new : ℕ) → IsReachable old new → new < 5
reachable zero new r = elim r [ inl e ↦ omega (arith, e) | inr r ↦ elim r [ inl e ↦ omega (arith, e) | inr e ↦ omega (arith, e) ] ]
reachable (suc zero) new r = elim r [ inl e ↦ omega (arith, e) | inr e ↦ omega (arith, e) ]
reachable (suc (suc zero)) new r = elim r [ inl e ↦ omega (arith, e) | inr e ↦ omega (arith, e) ]
reachable (suc (suc (suc zero))) new r = elim r [ inl e ↦ omega (arith, e) | inr r ↦ elim r [ inl e ↦ omega (arith, e) | inr e ↦ omega (arith, e) ] ]
reachable (suc (suc (suc (suc zero)))) new r = elim r [ inl e ↦ omega (arith, e) | inr r ↦ elim r [ inl e ↦ omega (arith, e) | inr e ↦ omega (arith, e) ] ]
reachable (suc (suc (suc (suc (suc old))))) new r = absurd r

expired_is : (end session : ℕ) (row : SessionRow) → IsSession end row → IsSession end (expired session row)
expired_is end session row h =
    (elim (eqb row.number session) as (λ (b : Bool). eqb row.number session ≡ b → IsSession end (expired session row)) [
      | true ↦ λ t. rw t (record { number = h.number; node = h.node; boot = h.boot; slot = h.slot; until = h.until; dead = omega arith; by = h.by })
      | false ↦ λ t. rw t h
    ]) refl

claimed_is : (end session by : ℕ) (row : SessionRow) → Fits by → IsSession end row → IsSession end (claimed session by row)
claimed_is end session by row fits h =
    (elim (eqb row.number session) as (λ (b : Bool). eqb row.number session ≡ b → IsSession end (claimed session by row)) [
      | true ↦ λ t. rw t (record { number = h.number; node = h.node; boot = h.boot; slot = h.slot; until = h.until; dead = h.dead; by = fits })
      | false ↦ λ t. rw t h
    ]) refl

slot_expired : (session : ℕ) (row : SessionRow) → (expired session row).slot ≡ row.slot
slot_expired session row =
    (elim (eqb row.number session) as (λ (b : Bool). eqb row.number session ≡ b → (expired session row).slot ≡ row.slot) [
      | true ↦ λ t. rw t refl
      | false ↦ λ t. rw t refl
    ]) refl

slot_claimed : (session by : ℕ) (row : SessionRow) → (claimed session by row).slot ≡ row.slot
slot_claimed session by row =
    (elim (eqb row.number session) as (λ (b : Bool). eqb row.number session ≡ b → (claimed session by row).slot ≡ row.slot) [
      | true ↦ λ t. rw t refl
      | false ↦ λ t. rw t refl
    ]) refl

shifted_is : (mode : ℕ) (second : Bool) (boot : ℕ) (row : DeviceRow) → mode < 5 → Fits boot → row.epoch + 1 ≤ 2 ^ 64 - 1 → IsDevice row → IsDevice (shifted mode second boot row)
shifted_is mode true boot row lt fits epoch h = record { mode = lt; epoch = omega (arith, epoch); boot_a = h.boot_a; boot_b = fits }
shifted_is mode false boot row lt fits epoch h = record { mode = lt; epoch = omega (arith, epoch); boot_a = fits; boot_b = h.boot_b }

-- what a device's change asks of its row
module _ (epoch mode boot : ℕ) (second : Bool) (lt : Fits boot) where
  abbrev Asked : DeviceRow → Type 0
  Asked row = (epoch ≡ row.epoch) × IsReachable row.mode mode × (row.epoch + 1 ≤ 2 ^ 64 - 1)

  devices_at : (n : ℕ) (rows : List DeviceRow) → IsSomeAnd (slice_get rows n) Asked → AllByRecursion IsDevice rows → AllByRecursion IsDevice (at_place n (shifted mode second boot) rows)
  devices_at n [] asked a = tt
  devices_at zero (row ∷ rows) asked a = (shifted_is mode second boot row (reachable row.mode mode asked.1) lt asked.2 a.0, a.1)
  devices_at (suc n) (row ∷ rows) asked a = (a.0, devices_at n rows asked a.1)

-- other sessions
with_rows : (s : GlobalState) (rows : List SessionRow) → IsAllowed s → s.index + 1 ≤ 2 ^ 64 - 1 → length rows ≤ 8 → AllByRecursion (IsSession s.term_end) rows
    → AreRising rows s.next_session → HaveOwnSlots rows → IsAllowed (record s { index = s.index + 1; sessions = rows })
with_rows s rows a le count each rising own = record {
  index = omega (arith, le);
  master = a.master;
  master_boot = a.master_boot;
  term = a.term;
  term_end = a.term_end;
  next_session = a.next_session;
  session_count = count;
  each_session = each;
  rising = rising;
  own_slots = own;
  least_devices = a.least_devices;
  most_devices = a.most_devices;
  each_device = a.each_device;
}

pub stays_allowed : (s : GlobalState) (change : Change) → IsAllowed s → IsChange change → IsLegal s change → IsAllowed (effect s change)
stays_allowed s (Renew by boot reading) a c l = record {
  index = omega (arith, l.index);
  master = a.master;
  master_boot = a.master_boot;
  term = a.term;
  term_end = omega (arith, a.term_end, l.row.3);
  next_session = a.next_session;
  session_count = a.session_count;
  each_session = all_is (IsSession s.term_end) (IsSession (max s.term_end (reading + 8000))) (later_end s.term_end (max s.term_end (reading + 8000)) (omega arith)) s.sessions a.each_session;
  rising = a.rising;
  own_slots = a.own_slots;
  least_devices = a.least_devices;
  most_devices = a.most_devices;
  each_device = a.each_device;
}
stays_allowed s (Take by boot reading) a c l = record {
  index = omega (arith, l.index);
  master = l.row.0;
  master_boot = c.0;
  term = omega (arith, l.row.2);
  term_end = omega (arith, l.row.3);
  next_session = a.next_session;
  session_count = omega (arith, a.session_count, length-map s.sessions dead);
  each_session = all-map (IsSession s.term_end) (IsSession (reading + 8000)) dead (λ row h. record { number = h.number; node = h.node; boot = h.boot; slot = h.slot; until = omega (arith, h.until, l.row.1); dead = omega arith; by = h.by }) s.sessions a.each_session;
  rising = rising-map dead (λ row. refl) s.sessions s.next_session a.rising;
  own_slots = slots-map dead (λ row. refl) s.sessions a.own_slots;
  least_devices = a.least_devices;
  most_devices = a.most_devices;
  each_device = a.each_device;
}
stays_allowed s (Open node boot reading) a c l =
    let new = opened s node boot reading in
    let slot : least_free s.sessions < 8 = l.row.3 in
    let own : HaveOwnSlots (s.sessions ++ new ∷ []) = slots-push s.sessions new (free_slot_is_free s.sessions slot) a.own_slots in
    let is : IsSession s.term_end new = record { number = a.next_session; node = l.row.0; boot = c.0; slot = slot; until = omega arith; dead = omega arith; by = omega arith } in
    let each : AllByRecursion (IsSession s.term_end) (s.sessions ++ new ∷ []) = all-push (IsSession s.term_end) s.sessions new a.each_session is in
    record {
      index = omega (arith, l.index);
      master = a.master;
      master_boot = a.master_boot;
      term = a.term;
      term_end = a.term_end;
      next_session = omega (arith, l.row.4);
      session_count = few_rows 8 (s.sessions ++ new ∷ []) own (all_is (IsSession s.term_end) (λ row. row.slot < 8) (λ row h. h.slot) (s.sessions ++ new ∷ []) each);
      each_session = each;
      rising = rising-push s.sessions new s.next_session refl a.rising;
      own_slots = own;
      least_devices = a.least_devices;
      most_devices = a.most_devices;
      each_device = a.each_device;
    }
stays_allowed s (Expire session term reading) a c l =
    with_rows s (map (expired session) s.sessions) a l.index (omega (arith, a.session_count, length-map s.sessions (expired session)))
    (all-map (IsSession s.term_end) (IsSession s.term_end) (expired session) (expired_is s.term_end session) s.sessions a.each_session)
    (rising-map (expired session) (keeps_expired session) s.sessions s.next_session a.rising)
    (slots-map (expired session) (slot_expired session) s.sessions a.own_slots)
stays_allowed s (Claim gone by) a c l =
    with_rows s (map (claimed gone by) s.sessions) a l.index (omega (arith, a.session_count, length-map s.sessions (claimed gone by)))
    (all-map (IsSession s.term_end) (IsSession s.term_end) (claimed gone by) (λ row h. claimed_is s.term_end gone by row c.1 h) s.sessions a.each_session)
    (rising-map (claimed gone by) (keeps_claimed gone by) s.sessions s.next_session a.rising)
    (slots-map (claimed gone by) (slot_claimed gone by) s.sessions a.own_slots)
stays_allowed s (Close gone by) a c l =
    let others : SessionRow → Bool = λ row. not (eqb row.number gone) in
    with_rows s (without gone s.sessions) a l.index (omega (arith, a.session_count, length-filter others s.sessions))
    (all-filter (IsSession s.term_end) others s.sessions a.each_session)
    (rising-filter others s.sessions s.next_session a.rising)
    (slots-filter others s.sessions a.own_slots)
stays_allowed s (Shift device epoch mode second boot) a c l = record {
  index = omega (arith, l.index);
  master = a.master;
  master_boot = a.master_boot;
  term = a.term;
  term_end = a.term_end;
  next_session = a.next_session;
  session_count = a.session_count;
  each_session = a.each_session;
  rising = a.rising;
  own_slots = a.own_slots;
  least_devices = omega (arith, a.least_devices, length-at_place device (shifted mode second boot) s.devices);
  most_devices = omega (arith, a.most_devices, length-at_place device (shifted mode second boot) s.devices);
  each_device = devices_at epoch mode boot second c.1 device s.devices l.row a.each_device;
}
