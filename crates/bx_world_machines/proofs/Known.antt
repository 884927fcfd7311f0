-- The greatest state that a machine knew is the last one of the chain.
use Rattle.std.proofs.Common.{◌≡◌, ◌⊎◌, inl, inr, ◌∙◌, ◌+◌, ◌≤◌, Bool, true, false, sym, ap, subst, arith}
use Rattle.std.specs.Prelude.{nat_lt, if◌then◌else◌}
use Rattle.std.proofs.lemmas.Bool.Decides.{nat_tests}
use Rattle.bx_facts.specs.Chains.{Chain, GrowsBy, IsPlace, last}
use Rattle.bx_global.specs.declared.state.GlobalState.{GlobalState}
use Rattle.bx_global.proofs.Rising.{index_rises}
use Rattle.bx_node_calls.specs.bx_nodes.specs.Taking.{Hears}
use Rattle.bx_world_machines.specs.Machines.{greater}
use Rattle.bx_world_standing.specs.bx_world_chains.proofs.Chains.{index_most}
use Rattle.bx_world_standing.specs.Standing.{Course}

-- the state that is known stays where what a machine knows is no later one
no_later : (state known : GlobalState) → known.index ≤ state.index → greater state known ≡ state
no_later state known low = ap (λ (t : Bool). if t then known else state) (let e : nat_lt state.index known.index ≡ false = grind (arith, nat_tests, low) in e)

later_one : (state known : GlobalState) → state.index + 1 ≤ known.index → greater state known ≡ known
later_one state known high = ap (λ (t : Bool). if t then known else state) (let e : nat_lt state.index known.index ≡ true = grind (arith, nat_tests, high) in e)

-- It goes on to be the last one where a machine, which knows a state of the chain, heard something; and where nothing was decided.
pub known_heard : (state known : GlobalState) (Stands_then : Course → Type 0) (c : Course) (heard : Hears known Stands_then c) (chain : Chain) → chain ≡ heard.later.register.chain → state ≡ last c.register.chain → IsPlace chain known → greater state known ≡ last chain
known_heard state known Stands_then c heard chain same was place = by heard.grows heard.told
  where
    low : known.index ≤ (last chain).index
    low = index_most chain known place

    still : heard.later.register.chain ≡ c.register.chain → greater state known ≡ last chain
    still stays =
        let is : last chain ≡ state = ap (λ (one : Chain). last one) (same ∙ stays) ∙ sym was in
        no_later state known (subst (λ (s : GlobalState). known.index ≤ s.index) is low) ∙ sym is

    by : GrowsBy c.register.proposed c.register.chain heard.later.register.chain → (heard.later.register.chain ≡ c.register.chain) ⊎ (known ≡ last heard.later.register.chain) → greater state known ≡ last chain
    by (inl stays) told = still stays
    by (inr (change, there, legal, grew)) (inl stays) = still stays
    by (inr (change, there, legal, grew)) (inr is) =
        let rises = index_rises (last c.register.chain) change in
        let index : known.index ≡ (last heard.later.register.chain).index = ap (λ (s : GlobalState). s.index) is in
        let grown_index = ap (λ (one : Chain). (last one).index) grew in
        let was_index = ap (λ (s : GlobalState). s.index) was in
        later_one state known (omega (arith, rises, index, grown_index, was_index)) ∙ is ∙ ap (λ (one : Chain). last one) (sym same)

-- a machine that knows a state of the chain knows no later one than the last
pub known_still : (state known : GlobalState) (chain : Chain) → state ≡ last chain → IsPlace chain known → greater state known ≡ state
known_still state known chain was place = no_later state known (subst (λ (s : GlobalState). known.index ≤ s.index) (sym was) (index_most chain known place))
