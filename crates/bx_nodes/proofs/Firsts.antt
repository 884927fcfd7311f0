-- Nodes that have nothing yet, one behind the other.
use Rattle.std.proofs.Common.{◌≡◌, ◌∙◌, ℕ, zero, suc, List, [], ◌∷◌, ◌++◌, Option, Some, None, IfSome, sym, ap}
use Rattle.std.specs.Prelude.{option_map, slice_get}
use Rattle.bx_node_cache.specs.Kept.{CacheView, hint_in}
use Rattle.bx_node_machines.specs.Machines.{MachineView}
use Rattle.bx_node_openings.specs.Opening.{HaveNothing}
use Rattle.bx_node_steps.specs.Seen.{seen, view_of}
use Rattle.bx_node_steps.specs.declared.machine.Machine.{Machine}
use Rattle.bx_nodes.specs.Opening.{IsFirst}
use Rattle.bx_nodes.specs.Stopping.{HasNothing}
use Rattle.bx_nodes.proofs.Calling.{none_apart, none_wait}
use Rattle.bx_nodes.proofs.Machines.{seen_at}
use Rattle.bx_views.specs.Truths.{no_hints}

pub first_one : (devices areas : ℕ) (machine : Machine) → HasNothing devices areas machine → IsFirst devices areas machine
first_one devices areas machine has = record { has = has; none_wait = none_wait devices areas machine has; apart = none_apart devices areas machine has }

pub each_more : (P : Machine → Type 0) (items : List Machine) (one : Machine) → ((node : ℕ) → IfSome (slice_get items node) P) → P one → (node : ℕ) → IfSome (slice_get (items ++ one ∷ []) node) P
each_more P [] one all is zero = is
each_more P [] one all is (suc node) = tt
each_more P (first ∷ items) one all is zero = all zero
each_more P (first ∷ items) one all is (suc node) = each_more P items one (λ n. all (suc n)) is node

pub seen_nothing : (devices areas : ℕ) (items : List Machine) → ((node : ℕ) → IfSome (slice_get items node) (IsFirst devices areas)) → HaveNothing (seen items)
seen_nothing devices areas items all = record { unmarked = λ node view is. (by node view is).0; unhinted = λ node view is. (by node view is).1 }
  where
    of_view : (found : Option Machine) (view : MachineView) → IfSome found (IsFirst devices areas) → option_map view_of found ≡ Some view → (view.session ≡ None) × (view.hints ≡ no_hints)
    of_view None view first is = absurd cc
    of_view (Some machine) view first is =
        let same : view_of machine ≡ view = cc in
        (ap (λ (v : MachineView). v.session) (sym same) ∙ first.has.session, ap (λ (v : MachineView). v.hints) (sym same) ∙ ap (λ (c : CacheView). hint_in c.hinted) first.has.cache)

    by : (node : ℕ) (view : MachineView) → slice_get (seen items) node ≡ Some view → (view.session ≡ None) × (view.hints ≡ no_hints)
    by node view is = of_view (slice_get items node) view (all node) (sym (seen_at items node) ∙ is)
