-- What is said of each node stays said where a machine stops.
use Rattle.std.proofs.Common.{◌≡◌, ◌≢◌, ◌∙◌, ℕ, zero, suc, ◌<◌, Bool, true, false, length, List, [], ◌∷◌, Option, Some, None, IfSome, refl, sym, ap, subst, arith}
use Rattle.std.specs.Prelude.{◌==◌, IsSomeAnd, slice_get}
use Rattle.std.proofs.lemmas.Bool.Decides.{nat_tests}
use Rattle.bx_base.specs.declared.names.Actor.{Actor}
use Rattle.bx_base.specs.declared.names.Actor.TheVariants.{Member, Node, Replica, Server}
use Rattle.bx_facts.specs.Writes.{Asked, Made}
use Rattle.bx_node_steps.specs.Ready.{WasReady}
use Rattle.bx_node_steps.specs.declared.machine.Machine.{Machine}
use Rattle.bx_nodes.specs.Stopping.{Empties, HasNothing}
use Rattle.bx_nodes.proofs.Machines.{there_is}
use Rattle.bx_nodes.proofs.Readying.{first_ready}

number_of_node : (a b : ℕ) → Node a ≡ Node b → a ≡ b
number_of_node a b e = cc

some_less : (items : List Machine) (i : ℕ) (machine : Machine) → slice_get items i ≡ Some machine → i < length items
some_less [] i machine is = absurd cc
some_less (one ∷ items) zero machine is = omega arith
some_less (one ∷ items) (suc i) machine is = let less = some_less items i machine is in omega (arith, less)

-- What holds of a node goes on to hold where another machine stops, and holds of one that has nothing.
pub emptied : (who : Actor) (old new : List Machine) → Empties who old new → (node : ℕ) (Was Is : Machine → Type 0) → (who ≢ Node node → (machine : Machine) → Was machine → Is machine)
    → (who ≡ Node node → (before after : Machine) → Was before → HasNothing before.cache.devices before.cache.areas after → Is after) → IfSome (slice_get old node) Was → IfSome (slice_get new node) Is
emptied who old new empties node Was Is goes_on begins was = by who refl
  where
    each : who ≢ Node node → (found : Option Machine) → IfSome found Was → IfSome found Is
    each ne None is = tt
    each ne (Some machine) is = goes_on ne machine is

    stays : who ≢ Node node → IfSome (slice_get new node) Is
    stays ne = subst (λ (m : Option Machine). IfSome m Is) (sym (empties.others node ne)) (each ne (slice_get old node) was)

    empty : who ≡ Node node → (before : Option Machine) → slice_get old node ≡ before → (after : Option Machine) → slice_get new node ≡ after → IfSome (slice_get new node) Is
    empty same before it None now = subst (λ (m : Option Machine). IfSome m Is) (sym now) tt
    empty same None it (Some b) now = let less = some_less new node b now in let count = empties.count in let there = there_is old node (omega (arith, less, count)) in absurd (let wrong : Some there.0 ≡ None = sym there.1 ∙ it in cc)
    empty same (Some a) it (Some b) now = subst (λ (m : Option Machine). IfSome m Is) (sym now)
        (begins same a b (subst (λ (m : Option Machine). IfSome m Was) it was)
        (subst (λ (m : Option Machine). IsSomeAnd m (HasNothing a.cache.devices a.cache.areas)) now (subst (λ (m : Option Machine). IfSome m (λ one. IsSomeAnd (slice_get new node) (HasNothing one.cache.devices one.cache.areas))) it (empties.empty node same))))

    by : (it : Actor) → who ≡ it → IfSome (slice_get new node) Is
    by (Replica n) is = stays (λ e. let wrong = sym is ∙ e in cc)
    by (Server n) is = stays (λ e. let wrong = sym is ∙ e in cc)
    by (Member n) is = stays (λ e. let wrong = sym is ∙ e in cc)
    by (Node n) is = tested (n == node) refl
      where
        tested : (b : Bool) → (n == node) ≡ b → IfSome (slice_get new node) Is
        tested true same = let e : n ≡ node = grind (arith, nat_tests, same) in empty (is ∙ ap Node e) (slice_get old node) refl (slice_get new node) refl
        tested false differ = stays (λ e. let both : Node n ≡ Node node = sym is ∙ e in let f : n ≡ node = number_of_node n node both in grind (arith, nat_tests, differ, f))

-- Each node may go on to use its parts.
pub empties_ready : (made : Made) (areas : ℕ) (who : Actor) (old new : List Machine) → Empties who old new → (node : ℕ) (asked asked_then : Option Asked) → (who ≢ Node node → asked_then ≡ asked) → (who ≡ Node node → asked_then ≡ None)
    → IfSome (slice_get old node) (WasReady made areas asked) → IfSome (slice_get new node) (WasReady made areas asked_then)
empties_ready made areas who old new empties node asked asked_then stays ends = emptied who old new empties node (WasReady made areas asked) (WasReady made areas asked_then)
    (λ ne machine is. subst (λ (a : Option Asked). WasReady made areas a machine) (sym (stays ne)) is)
    (λ same before after is has.
    first_ready made areas asked_then after is.ready.volume is.ready.engine (ends same)
    (subst (λ (d : ℕ). HasNothing d made.areas after) is.ready.devices (subst (λ (a : ℕ). HasNothing before.cache.devices a after) is.ready.areas has)))
