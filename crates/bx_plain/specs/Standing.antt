-- A register whose chain has one state.
use Rattle.std.specs.Prelude.{◌≡◌, ℕ, ◌≤◌, List, []}
use Rattle.std.proofs.Common.{sym, subst, ap, ◌∙◌, inl, lit≤}
use Rattle.bx_base.specs.declared.names.Actor.{Actor}
use Rattle.bx_global.specs.Allowed.{IsAllowed}
use Rattle.bx_global.specs.declared.change.Change.{Change}
use Rattle.bx_global.specs.declared.state.GlobalState.{GlobalState}
use Rattle.bx_facts.specs.Chains.{AreLegal, IsAboveBoots, IsAmong, IsNext, IsPlace, last, state_after}
use Rattle.bx_facts.specs.Pasts.{RegisterPast}

-- How many nodes there are, the state, and the machines that have a proposal out.
pub record Plain : Type 0 where
  pub nodes : ℕ
  pub state : GlobalState
  pub busy : List Actor

-- Its state meets the conditions, and has no boot above 0.
pub record IsPlain (g : Plain) : Type 0 where
  pub allowed : IsAllowed g.state
  pub boots : IsAboveBoots g.state 1

-- it needs no disk
abbrev pub needs_of : Plain → ℕ → ℕ
needs_of g disk = 0

-- The chain begins with this state, and nothing was decided since.
pub record IsUnchanged (s : GlobalState) (past : RegisterPast) : Type 0 where
  pub changes : past.chain.changes ≡ []
  pub first : past.chain.first ≡ s
  pub allowed : IsAllowed past.chain.first

pub is_place : (s : GlobalState) (past : RegisterPast) → IsUnchanged s past → IsPlace past.chain s
is_place s past is =
    let P : List Change → Type 0 = λ changes. IsAmong past.chain.first changes s in
    subst P (sym is.changes) (sym is.first)

pub is_legal : (s : GlobalState) (past : RegisterPast) → IsUnchanged s past → AreLegal past.chain.first past.chain.changes
is_legal s past is =
    let P : List Change → Type 0 = λ changes. AreLegal past.chain.first changes in
    subst P (sym is.changes) tt

pub is_allowed : (s : GlobalState) (past : RegisterPast) (place : GlobalState) → IsUnchanged s past → IsPlace past.chain place → IsAllowed place
is_allowed s past place is stands =
    let P : List Change → Type 0 = λ changes. IsAmong past.chain.first changes place in
    subst IsAllowed (sym (subst P is.changes stands)) is.allowed

pub is_last : (s : GlobalState) (past : RegisterPast) → IsUnchanged s past → last past.chain ≡ s
is_last s past is = ap (state_after past.chain.first) is.changes ∙ is.first

pub is_next : (s : GlobalState) (past : RegisterPast) (read : GlobalState) → IsUnchanged s past → read ≡ s → IsNext past.proposed (last past.chain) read
is_next s past read is reads = inl (reads ∙ sym (is_last s past is))

pub needs_little : 0 ≤ 21
needs_little = lit≤ tt

pub one_value : {A : Type 0} (value one other : A) → one ≡ value → other ≡ value → other ≡ one
one_value value one other is also = also ∙ sym is
