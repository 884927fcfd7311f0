-- Answers behind answers.
use Rattle.std.proofs.Common.{List, [], ◌∷◌, ◌++◌, sym, subst}
use Rattle.std.specs.Prelude.{◌≡◌, reverse}
use Rattle.std.proofs.lemmas.List.{reverse-append}
use Rattle.bx_node_calls.specs.Turns.{Rounded}
use Rattle.bx_node_tries.specs.Tries.{LeadsBack}
use Rattle.bx_node_tries.specs.declared.round.Said.{Said}
use Rattle.bx_views.specs.Attempts.{Deed}
use Rattle.bx_views.specs.declared.engine.Engine as engine

leads_on : {T : Type 0} (Step : T → Deed → T → Type 0) (first middle last : T) (later earlier : List Said) → LeadsBack Step first earlier middle → LeadsBack Step middle later last → LeadsBack Step first (later ++ earlier) last
leads_on Step first middle last [] earlier one two = subst (λ t. LeadsBack Step first earlier t) (sym two) one
leads_on Step first middle last (said ∷ later) earlier one two = (two.0, leads_on Step first middle two.0 later earlier one two.1, two.2)

-- What leads to a next tree, and on from there, by the same engine.
pub rounded_on : {E T : Type 0} (e : engine.Ghosts E T) (engine_is engine_now : E) (Stands_then Stands_last : T → Type 0) (tree : T) (said more : List Said)
    → engine_now ≡ engine_is → (one : Rounded e engine_is Stands_then tree said) → (Stands_then one.next → Rounded e engine_now Stands_last one.next more) → Rounded e engine_is Stands_last tree (said ++ more)
rounded_on e engine_is engine_now Stands_then Stands_last tree said more same one goes = record {
  next = two.next;
  leads = subst (λ (l : List Said). LeadsBack (e.step engine_is) tree l two.next) (sym (reverse-append said more)) (leads_on (e.step engine_is) tree one.next two.next (reverse more) (reverse said) one.leads
      (subst (λ engine. LeadsBack (e.step engine) one.next (reverse more) two.next) same two.leads));
  stands = two.stands;
}
  where
    two : Rounded e engine_now Stands_last one.next more
    two = goes one.stands
