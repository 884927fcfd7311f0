use Rattle.std.proofs.Common.{Err, ◌≡◌, ℕ, ◌+◌, ◌<◌, ◌⊎◌, ⊎_elim, false, Some, arith, length, sym, ap, subst, ◌∙◌}
use Rattle.std.specs.Prelude.{slice_index_or}
use Rattle.std.proofs.lemmas.Result.{err_from_is_err_and}
use Rattle.bx_audit_slots.specs.declared.slots.UsedSlot.{UsedSlot}
use Rattle.bx_audit_owners.specs.declared.holders.Holder.TheVariants.{Dead as OfDead}
use Rattle.bx_audit_owners.specs.Holding.{holdings_of}
use Rattle.bx_audit_owners.proofs.Holding.{one_there}
use Rattle.bx_audit_pages.proofs.Ends.{if_torn}
use Rattle.bx_audit_owners.proofs.dead.read_dead.Goals as goal

no_slot : UsedSlot
no_slot = record { handle = 0; dead = false }

below_or : (n m : ℕ) → n < m + 1 → (n < m) ⊎ (n ≡ m)
below_or n m less = grind (arith, less)

pub loop-slot-init : goal.loop-slot-init
loop-slot-init g c = record {
  blocks = grind arith;
  shows = λ chunks shows. shows;
  found = λ chunks files shows started. started;
  marked = λ k slot less. absurd (omega (arith, less));
  still = λ at held some. some;
}

pub returns-in_err-read_slot-clause-torn : goal.returns-in_err-read_slot-clause-torn
unfolding no_slot
returns-in_err-read_slot-clause-torn g c = λ chunks files shows started.
    let p = err_from_is_err_and c.from_residual.result c.from_residual.ensures.1 in
    let within : c.loop-slot.slot-index < length c.args.slots.now = omega arith in
    let slot = slice_index_or c.args.slots.now c.loop-slot.slot-index no_slot in
    if_torn _ _ c.in_err-read_slot.field-0.0 c.from_residual.result (p.1 ∙ ap Err p.2)
    (λ at found wanted wrong. record {
      place = c.loop-slot.slot-index;
      slot = slot;
      there = within;
      is = one_there c.args.slots.now c.loop-slot.slot-index slot no_slot within;
      marked = wrong.0;
      holdings = holdings_of c.loop-slot.holders;
      found = c.loop-slot.invariant.found chunks files shows started;
      before = c.loop-slot.invariant.marked;
      wrong = wrong.1;
    })
    (c.in_err-read_slot.ensures.torn chunks files (c.loop-slot.invariant.shows chunks shows) (c.loop-slot.invariant.found chunks files shows started))

pub returns-in_err-read_slot-clause-shows : goal.returns-in_err-read_slot-clause-shows
returns-in_err-read_slot-clause-shows g c = λ chunks shows. c.in_err-read_slot.ensures.shows chunks (c.loop-slot.invariant.shows chunks shows)

pub loop-slot-preserved : goal.loop-slot-preserved
unfolding no_slot
loop-slot-preserved g c =
    let within : c.loop-slot.slot-index < length c.args.slots.now = omega arith in
    record {
      blocks = grind arith;
      shows = λ chunks shows. c.in_ok-read_slot.ensures.shows chunks (c.loop-slot.invariant.shows chunks shows);
      found = λ chunks files shows started. c.in_ok-read_slot.ensures.ok chunks files (c.loop-slot.invariant.shows chunks shows) (c.loop-slot.invariant.found chunks files shows started);
      marked = λ k slot less is dead. ⊎_elim
          (λ before. c.in_ok-read_slot.ensures.still slot.handle OfDead (c.loop-slot.invariant.marked k slot before is dead))
          (λ same.
          let one : slot ≡ slice_index_or c.args.slots.now c.loop-slot.slot-index no_slot =
          sym is ∙ ap (λ (n : ℕ). slice_index_or c.args.slots.now n slot) same ∙ one_there c.args.slots.now c.loop-slot.slot-index slot no_slot within in
          subst (λ (s : UsedSlot). holdings_of c.read_slot.new.holders s.handle ≡ Some OfDead) (sym one) (c.in_ok-read_slot.ensures.marked (ap (λ (s : UsedSlot). s.dead) (sym one) ∙ dead)))
          (below_or k c.loop-slot.slot-index less);
      still = λ at held some. c.in_ok-read_slot.ensures.still at held (c.loop-slot.invariant.still at held some);
    }

pub returns-clause-marked : goal.returns-clause-marked
returns-clause-marked g c = λ slot there dead. c.loop-slot.invariant.marked there.0 slot (omega (arith, there.1, c.loop-slot-test.false)) there.2 dead
