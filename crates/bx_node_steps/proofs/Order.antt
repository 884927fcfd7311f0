-- The calls of a node stand in their order.
use Rattle.std.proofs.Common.{◌≡◌, ◌≢◌, ◌⊎◌, ⊎_elim, inl, inr, ◌∙◌, ℕ, ◌<◌, ◌≤◌, false, List, [], ◌∷◌, ◌++◌, Contains, Option, None, Some, IfSome, refl, sym, ap, subst, arith}
use Rattle.std.specs.Prelude.{slice_get}
use Rattle.std.specs.List.{AllByRecursion}
use Rattle.std.proofs.lemmas.List.Elements.{All-contains, All-from_recursion, Contains-append_cases, Contains-append_left, Contains-append_right}
use Rattle.bx_facts.proofs.Lists.{behind, front, front_or_behind, nothing}
use Rattle.bx_node_steps.specs.Calls.{AreInOrder, CallOf, IsAmong, MayAct, call_of}
use Rattle.bx_node_steps.specs.Logging.{IsPutBack, WaitsOn}
use Rattle.bx_node_tries.specs.declared.round.Waiting.{Waiting}

-- ---- a call is put behind those that are older

newer_behind : (call : Waiting) (younger : List Waiting) → AreInOrder younger → IfSome (slice_get younger 0) (λ one. call.number < one.number) → (one : Waiting) → Contains younger one → call.number < one.number
newer_behind call [] order first one there = absurd (nothing one there)
newer_behind call (head ∷ younger) order first one there =
    ⊎_elim (λ same. subst (λ (w : Waiting). call.number < w.number) same first) (λ later. let more = order.0 one later in omega (arith, first, more)) (front_or_behind head younger one there)

-- a call that is put among others is there, and so are they
put_there : (call : Waiting) (older younger : List Waiting) (one : Waiting) → Contains (older ++ call ∷ younger) one → (call ≡ one) ⊎ Contains (older ++ younger) one
put_there call older younger one there =
    ⊎_elim (λ before. inr (Contains-append_left older younger one before))
    (λ then_it. ⊎_elim (λ same. inl same) (λ later. inr (Contains-append_right older younger one later)) (front_or_behind call younger one then_it)) (Contains-append_cases older (call ∷ younger) one there)

there_put : (call : Waiting) (older younger : List Waiting) (one : Waiting) → Contains (older ++ younger) one → Contains (older ++ call ∷ younger) one
there_put call older younger one there =
    ⊎_elim (λ before. Contains-append_left older (call ∷ younger) one before) (λ later. Contains-append_right older (call ∷ younger) one (behind call younger one later)) (Contains-append_cases older younger one there)

put_in : (call : Waiting) (older younger : List Waiting) → ((one : Waiting) → Contains older one → one.number < call.number) → IfSome (slice_get younger 0) (λ one. call.number < one.number)
    → AreInOrder (older ++ younger) → AreInOrder (older ++ call ∷ younger)
put_in call [] younger before first order = (newer_behind call younger order first, order)
put_in call (head ∷ older) younger before first order = (
  λ one there. ⊎_elim (λ same. subst (λ (w : Waiting). head.number < w.number) same (before head (front head older))) (λ other. order.0 one other) (put_there call older younger one there),
  put_in call older younger (λ one there. before one (behind head older one there)) first order.1,
)

-- no older one has its number
older_than : (call : Waiting) (older : List Waiting) → AllByRecursion (λ (one : Waiting). one.number ≤ call.number) older → ((one : Waiting) → Contains older one → one.number ≢ call.number) → (one : Waiting) → Contains older one → one.number < call.number
older_than call older all other one there =
    let most = All-contains (λ (w : Waiting). w.number ≤ call.number) older one (All-from_recursion (λ (w : Waiting). w.number ≤ call.number) older all) there in
    let ne = other one there in
    omega (arith, most, ne)

pub put_in_order : (call : Waiting) (old new : List Waiting) → IsPutBack call old new → ((one : Waiting) → Contains old one → one.number ≢ call.number) → AreInOrder old → AreInOrder new
put_in_order call old new put other order =
    subst AreInOrder (sym put.now)
    (put_in call put.older put.younger
    (older_than call put.older put.before (λ one there. other one (subst (λ (l : List Waiting). Contains l one) (sym put.was) (Contains-append_left put.older put.younger one there))))
    put.behind (subst AreInOrder put.was order))

pub put_among : (call : Waiting) (old new : List Waiting) → IsPutBack call old new → (c : CallOf) → IsAmong new c → IsAmong old c ⊎ (call_of call ≡ c)
put_among call old new put c among =
    ⊎_elim (λ same. inr (ap call_of same ∙ among.same))
    (λ there. inl (record { one = among.one; there = subst (λ (l : List Waiting). Contains l among.one) (sym put.was) there; same = among.same }))
    (put_there call put.older put.younger among.one (subst (λ (l : List Waiting). Contains l among.one) put.now among.there))

pub among_put : (call : Waiting) (old new : List Waiting) → IsPutBack call old new → (c : CallOf) → IsAmong old c ⊎ (call_of call ≡ c) → IsAmong new c
among_put call old new put c is = subst (λ (l : List Waiting). IsAmong l c) (sym put.now)
    (⊎_elim (λ among. record { one = among.one; there = there_put call put.older put.younger among.one (subst (λ (l : List Waiting). Contains l among.one) put.was among.there); same = among.same })
    (λ same. record { one = call; there = Contains-append_right put.older (call ∷ put.younger) call (front call put.younger); same = same }) is)

-- A call that may act then is one that might, or the one that was put back.
pub may_put : (call : Waiting) (old new : List Waiting) → IsPutBack call old new → (number : ℕ) → MayAct new number → MayAct old number ⊎ ((call.number ≡ number) × (call.is_over ≡ false))
may_put call old new put number may =
    ⊎_elim (λ same. inr (ap (λ (w : Waiting). w.number) same ∙ may.same, ap (λ (w : Waiting). w.is_over) same ∙ may.still))
    (λ there. inl (record { one = may.one; there = subst (λ (l : List Waiting). Contains l may.one) (sym put.was) there; same = may.same; still = may.still }))
    (put_there call put.older put.younger may.one (subst (λ (l : List Waiting). Contains l may.one) put.now may.there))

-- Those that wait still do once one is put back, or none.
pub wait_still : (waits : Option Waiting) (old new : List Waiting) → WaitsOn waits old new → (one : Waiting) → Contains old one → Contains new one
wait_still None old new same one there = subst (λ (l : List Waiting). Contains l one) (sym same) there
wait_still (Some call) old new put one there =
    subst (λ (l : List Waiting). Contains l one) (sym put.now) (there_put call put.older put.younger one (subst (λ (l : List Waiting). Contains l one) put.was there))

-- ---- lists in order

none_behind : (calls : List Waiting) → calls ++ [] ≡ calls
none_behind [] = refl
none_behind (one ∷ calls) = ap (λ (l : List Waiting). one ∷ l) (none_behind calls)

-- A call that is newer than all is put behind them.
pub behind_all : (call : Waiting) (calls : List Waiting) → ((one : Waiting) → Contains calls one → one.number < call.number) → AreInOrder calls → AreInOrder (calls ++ call ∷ [])
behind_all call calls less order = put_in call calls [] less tt (subst AreInOrder (sym (none_behind calls)) order)

pub order_front : (calls : List Waiting) (call : Waiting) → AreInOrder (calls ++ call ∷ []) → AreInOrder calls
order_front [] call order = tt
order_front (head ∷ calls) call order = (λ one there. order.0 one (Contains-append_left calls (call ∷ []) one there), order_front calls call order.1)

pub order_last : (calls : List Waiting) (call : Waiting) → AreInOrder (calls ++ call ∷ []) → (one : Waiting) → Contains calls one → one.number < call.number
order_last [] call order one there = absurd (nothing one there)
order_last (head ∷ calls) call order one there =
    ⊎_elim (λ same. subst (λ (w : Waiting). w.number < call.number) same (order.0 call (Contains-append_right calls (call ∷ []) call (front call [])))) (λ later. order_last calls call order.1 one later) (front_or_behind head calls one there)
