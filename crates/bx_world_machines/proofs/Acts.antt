-- Which calls may act yet at the nodes, from one step of a node to the next.
use Rattle.std.proofs.Common.{◌≡◌, ◌≢◌, ◌⊎◌, ◌∙◌, ⊎_elim, inl, inr, ℕ, Bool, false, true, List, [], ◌∷◌, ◌++◌, Option, Some, None, IsSomeAnd, refl, sym, ap, subst}
use Rattle.std.specs.Prelude.{option_map, slice_get}
use Rattle.std.proofs.lemmas.List.Elements.{Contains-push_cases}
use Rattle.bx_global.specs.declared.state.GlobalState.{GlobalState}
use Rattle.bx_node_calls.specs.Turns.{session_at}
use Rattle.bx_node_calls.proofs.Found.{and_some, same_or, some_and}
use Rattle.bx_node_steps.specs.Calls.{ActsOn, IsOpening, IsToAct, IsWritten, MayAct, call_written, is_opening}
use Rattle.bx_node_steps.specs.declared.machine.Machine.{Machine}
use Rattle.bx_node_tries.specs.declared.round.Said.{Said}
use Rattle.bx_node_tries.specs.declared.round.Waiting.{Waiting}
use Rattle.bx_node_calls.specs.bx_nodes.specs.Calls.{WaitsBehind}
use Rattle.bx_node_calls.specs.bx_nodes.specs.Renewing.{Renews}
use Rattle.bx_node_calls.specs.bx_nodes.specs.Renewing.Renews.{Anew, Stays}
use Rattle.bx_node_calls.specs.bx_nodes.specs.Turns.{OnlyMachine}
use Rattle.bx_world_machines.specs.Acts.{ActThen, MayActAt, OpenStill, OpensAt}

pub acts_same : (old new : List Machine) → new ≡ old → ActThen old new
acts_same old new same = subst (λ (l : List Machine). ActThen old l) (sym same) (record {
  to_act = λ node number may. may;
  opening = λ node number opens. inr (record { opened = opens; session = refl });
})

-- one step behind the other
pub acts_on : (a b c : List Machine) → ActThen a b → ActThen b c → ActThen a c
acts_on a b c one two = record {
  to_act = λ node number may. one.to_act node number (two.to_act node number may);
  opening = λ node number opens. still_on node number (two.opening node number opens);
}
  where
    still_on : (node number : ℕ) → MayActAt b node number ⊎ OpenStill b c node number → MayActAt a node number ⊎ OpenStill a c node number
    still_on node number is = ⊎_elim
        (λ may. inl (one.to_act node number may))
        (λ still. ⊎_elim inl (λ before. inr (record { opened = before.opened; session = still.session ∙ before.session })) (one.opening node number still.opened))
        is

-- what is so before all, where it is so between
pub before_all : (a b c : List Machine) (node number : ℕ) → ActThen a b → MayActAt b node number ⊎ OpenStill b c node number → MayActAt a node number ⊎ OpenStill a c node number
before_all a b c node number one is = ⊎_elim
    (λ may. inl (one.to_act node number may))
    (λ still. ⊎_elim inl (λ before. inr (record { opened = before.opened; session = still.session ∙ before.session })) (one.opening node number still.opened))
    is

-- ---- one node changes

module _ (node : ℕ) (old new : List Machine) (before after : Machine) (was : slice_get old node ≡ Some before) (is : slice_get new node ≡ Some after) (others : OnlyMachine node old new) where
  then_here : (n number : ℕ) → n ≡ node → MayActAt new n number → IsToAct after number
  then_here n number same may = some_and (λ m. IsToAct m number) (slice_get new node) after is (subst (λ (k : ℕ). MayActAt new k number) same may)

  was_here : (n number : ℕ) → n ≡ node → IsToAct before number → MayActAt old n number
  was_here n number same may = subst (λ (k : ℕ). MayActAt old k number) (sym same) (and_some (λ m. IsToAct m number) (slice_get old node) before was may)

  opens_here : (n number : ℕ) → n ≡ node → OpensAt new n number → IsOpening after number
  opens_here n number same opens = some_and (λ m. IsOpening m number) (slice_get new node) after is (subst (λ (k : ℕ). OpensAt new k number) same opens)

  pub opened_here : (n number : ℕ) → n ≡ node → after.session ≡ before.session → IsOpening before number → OpenStill old new n number
  opened_here n number same session opens = record {
    opened = subst (λ (k : ℕ). OpensAt old k number) (sym same) (and_some (λ m. IsOpening m number) (slice_get old node) before was opens);
    session = subst (λ (k : ℕ). session_at new k ≡ session_at old k) (sym same)
        (ap (option_map (λ (m : Machine). m.session)) is ∙ ap (λ (s : Option ℕ). Some s) session ∙ sym (ap (option_map (λ (m : Machine). m.session)) was));
  }

  pub open_there : (n number : ℕ) → n ≢ node → OpensAt new n number → OpenStill old new n number
  open_there n number ne opens = record {
    opened = subst (λ (f : Option Machine). IsSomeAnd f (λ m. IsOpening m number)) (others.others n ne) opens;
    session = ap (option_map (λ (m : Machine). m.session)) (others.others n ne);
  }

  pub may_there : (n number : ℕ) → n ≢ node → MayActAt new n number → MayActAt old n number
  may_there n number ne may = subst (λ (f : Option Machine). IsSomeAnd f (λ m. IsToAct m number)) (others.others n ne) may

  pub acts_one : (said : List Said) → ActsOn before after said → ((number : ℕ) → IsOpening after number → after.session ≡ before.session) → ActThen old new
  acts_one said acts session = record {
    to_act = λ n number may. ⊎_elim
        (λ same. was_here n number same (acts.to_act number (then_here n number same may)))
        (λ ne. may_there n number ne may)
        (same_or n node);
    opening = λ n number opens. ⊎_elim
        (λ same. let here = opens_here n number same opens in
        ⊎_elim (λ may. inl (was_here n number same may)) (λ opened. inr (opened_here n number same (session number here) opened)) (acts.opening number here))
        (λ ne. inr (open_there n number ne opens))
        (same_or n node);
  }

  -- A call comes to it.
  module _ (call : Waiting) (behind : WaitsBehind call before after) where
    written : (opening : Bool) (number : ℕ) → IsWritten opening after number → IsWritten opening before number
    written opening number it = record {
      call = it.call;
      is = sym (ap (λ (m : Machine). call_written m.stage) behind.only) ∙ it.is;
      same = it.same;
      gate = sym (ap (λ (m : Machine). is_opening m.log.work) behind.only) ∙ it.gate;
    }

    pub may_with : (n number : ℕ) → MayActAt new n number → MayActAt old n number ⊎ (call.number ≡ number)
    may_with n number may = ⊎_elim
        (λ same. ⊎_elim
        (λ tries. ⊎_elim (λ older. inl (was_here n number same (inl older))) inr (pushed number (subst (λ (l : List Waiting). MayAct l number) behind.calls tries)))
        (λ writes. inl (was_here n number same (inr (written false number writes))))
        (then_here n number same may))
        (λ ne. inl (may_there n number ne may))
        (same_or n node)
      where
        pushed : (k : ℕ) → MayAct (before.calls.items ++ call ∷ []) k → MayAct before.calls.items k ⊎ (call.number ≡ k)
        pushed k is_one = ⊎_elim
            (λ there. inl (record { one = is_one.one; there = there; same = is_one.same; still = is_one.still }))
            (λ last. inr (ap (λ (w : Waiting). w.number) last ∙ is_one.same))
            (Contains-push_cases before.calls.items call is_one.one is_one.there)

    pub opens_with : (n number : ℕ) → OpensAt new n number → OpenStill old new n number
    opens_with n number opens = ⊎_elim
        (λ same. opened_here n number same (ap (λ (m : Machine). m.session) behind.only) (written true number (opens_here n number same opens)))
        (λ ne. open_there n number ne opens)
        (same_or n node)

-- A node that meets its session has the gate of a record sent only where it has what it had.
pub renewed_session : (own : Option ℕ) (known : GlobalState) (reads : Bool) (before after : Machine) → Renews own known reads before after → (number : ℕ) → IsOpening after number → after.session ≡ before.session
renewed_session own known reads before after (Stays mine same) number opens = ap (λ (m : Machine). m.session) same
renewed_session own known reads before after (Anew other begins) number opens = absurd (let wrong : None ≡ Some opens.call = sym (ap (λ (m : Machine). call_written m.stage) begins.only) ∙ opens.is in cc)
