-- A machine that stopped has no call that may act.
use Rattle.std.proofs.Common.{◌≡◌, ◌∙◌, inl, inr, ℕ, Bool, false, true, List, Contains, Option, Some, None, IfSome, IsSomeAnd, refl, sym, ap, subst}
use Rattle.std.specs.Prelude.{option_map, slice_get}
use Rattle.bx_base.specs.declared.names.Actor.{Actor}
use Rattle.bx_facts.proofs.Lists.{nothing}
use Rattle.bx_node_steps.specs.Calls.{IsOpening, IsToAct, IsWritten, call_written}
use Rattle.bx_node_steps.specs.declared.machine.Machine.{Machine}
use Rattle.bx_node_tries.specs.declared.round.Waiting.{Waiting}
use Rattle.bx_node_calls.specs.bx_nodes.specs.Stopping.{Empties, HasNothing}
use Rattle.bx_node_calls.specs.bx_nodes.proofs.Emptied.{emptied}
use Rattle.bx_world_machines.specs.Acts.{MayActAt, OpenStill, OpensAt}
use Rattle.bx_world_machines.specs.Doubts.{AreInDoubt}
use Rattle.bx_world_machines.proofs.Doubts.{WereOpen, in_doubt_kept}
use Rattle.bx_world_standing.specs.Standing.{Course}

it_is : {A : Type 0} (found : Option A) → IfSome found (λ one. found ≡ Some one)
it_is None = tt
it_is (Some one) = refl

both_and : {A : Type 0} (P Q : A → Type 0) (R : Type 0) (found : Option A) → IfSome found P → IsSomeAnd found Q → ((one : A) → P one → Q one → R) → R
both_and P Q R None is also by = absurd also
both_and P Q R (Some one) is also by = by one is also

none_written : {A : Type 0} (devices areas : ℕ) (machine : Machine) (number : ℕ) (opening : Bool) → HasNothing devices areas machine → IsWritten opening machine number → A
none_written devices areas machine number opening has is = absurd (let wrong : None ≡ Some is.call = sym (ap call_written has.idle) ∙ is.is in cc)

none_acts : {A : Type 0} (devices areas : ℕ) (machine : Machine) (number : ℕ) → HasNothing devices areas machine → IsToAct machine number → A
none_acts devices areas machine number has (inl may) = absurd (nothing may.one (subst (λ (l : List Waiting). Contains l may.one) has.calls may.there))
none_acts devices areas machine number has (inr writes) = none_written devices areas machine number false has writes

module _ (who : Actor) (old new : List Machine) (empties : Empties who old new) (node number : ℕ) where
  pub may_before : MayActAt new node number → MayActAt old node number
  may_before may =
      both_and (λ m. IsToAct m number → MayActAt old node number) (λ m. IsToAct m number) (MayActAt old node number) (slice_get new node)
      (emptied who old new empties node (λ m. slice_get old node ≡ Some m) (λ m. IsToAct m number → MayActAt old node number)
      (λ ne machine was w. subst (λ f. IsSomeAnd f (λ m. IsToAct m number)) (sym was) w)
      (λ same before after was has w. none_acts before.cache.devices before.cache.areas after number has w)
      (it_is (slice_get old node)))
      may
      (λ one leads w. leads w)

  pub opens_before : OpensAt new node number → OpenStill old new node number
  opens_before opens =
      both_and (λ m. IsOpening m number → OpenStill old new node number) (λ m. IsOpening m number) (OpenStill old new node number) (slice_get new node)
      (emptied who old new empties node (λ m. slice_get old node ≡ Some m) (λ m. IsOpening m number → OpenStill old new node number)
      (λ ne machine was w. record {
        opened = subst (λ f. IsSomeAnd f (λ m. IsOpening m number)) (sym was) w;
        session = ap (option_map (λ (m : Machine). m.session)) (empties.others node ne);
      })
      (λ same before after was has w. none_written before.cache.devices before.cache.areas after number true has w)
      (it_is (slice_get old node)))
      opens
      (λ one leads w. leads w)

-- Calls stay in doubt where a machine stops.
pub in_doubt_emptied : (latest : ℕ) (who : Actor) (old new : List Machine) → Empties who old new → (c later : Course) → WereOpen c later → AreInDoubt latest old c → AreInDoubt latest new later
in_doubt_emptied latest who old new empties c later before was = in_doubt_kept latest old new c later before (λ node number may. may_before who old new empties node number may) (λ node number opens. opens_before who old new empties node number opens) was
