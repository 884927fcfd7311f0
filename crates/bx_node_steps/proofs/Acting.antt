-- Which calls may act yet, from one step of a node to the next.
use Rattle.std.proofs.Common.{◌≡◌, ◌⊎◌, ◌∙◌, ⊎_elim, inl, inr, ℕ, Bool, false, true, List, [], ◌++◌, Some, None, sym, ap, subst}
use Rattle.std.proofs.lemmas.List.Elements.{Contains-append_cases}
use Rattle.bx_facts.proofs.Lists.{nothing}
use Rattle.bx_node_steps.specs.Calls.{ActsOn, IsAnswered, IsOpening, IsToAct, IsWritten, MayAct, call_written, is_opening}
use Rattle.bx_node_steps.specs.declared.machine.Machine.{Machine}
use Rattle.bx_node_tries.specs.declared.round.Said.{Said}
use Rattle.bx_node_tries.specs.declared.round.Waiting.{Waiting}

-- nothing is answered
none_answered : {A : Type 0} (number : ℕ) → IsAnswered [] number → A
none_answered number is = absurd (nothing is.one is.there)

-- One step behind the other.
pub acts_on : (a b c : Machine) (said more : List Said) → ActsOn a b said → ActsOn b c more → ActsOn a c (said ++ more)
acts_on a b c said more one two = record {
  to_act = λ number is. one.to_act number (two.to_act number is);
  opening = λ number is. before number (two.opening number is);
  answered = λ number is. ⊎_elim
      (λ here. one.answered number (record { one = is.one; there = here; same = is.same }))
      (λ later. before number (two.answered number (record { one = is.one; there = later; same = is.same })))
      (Contains-append_cases said more is.one is.there);
}
  where
    before : (number : ℕ) → IsToAct b number ⊎ IsOpening b number → IsToAct a number ⊎ IsOpening a number
    before number is = ⊎_elim (λ may. inl (one.to_act number may)) (λ opens. one.opening number opens) is

module _ (old new : Machine) (calls : new.calls.items ≡ old.calls.items) where
  -- calls that may act are those
  may_still : (number : ℕ) → MayAct new.calls.items number → MayAct old.calls.items number
  may_still number is = subst (λ (l : List Waiting). MayAct l number) calls is

  -- The calls stay, and so does the record that is written.
  pub acts_same : call_written new.stage ≡ call_written old.stage → is_opening new.log.work ≡ is_opening old.log.work → ActsOn old new []
  acts_same written gate = record {
    to_act = λ number is. ⊎_elim (λ may. inl (may_still number may)) (λ writes. inr (still false number writes)) is;
    opening = λ number is. inr (still true number is);
    answered = λ number is. none_answered number is;
  }
    where
      still : (opening : Bool) (number : ℕ) → IsWritten opening new number → IsWritten opening old number
      still opening number is = record { call = is.call; is = sym written ∙ is.is; same = is.same; gate = sym gate ∙ is.gate }

  -- The calls stay, and the gate of the record is sent.
  pub acts_sent : call_written new.stage ≡ call_written old.stage → is_opening old.log.work ≡ false → is_opening new.log.work ≡ true → ActsOn old new []
  acts_sent written was is_sent = record {
    to_act = λ number is. ⊎_elim (λ may. inl (may_still number may)) (λ writes. absurd (let wrong : true ≡ false = sym is_sent ∙ writes.gate in cc)) is;
    opening = λ number is. inl (inr (record { call = is.call; is = sym written ∙ is.is; same = is.same; gate = was }));
    answered = λ number is. none_answered number is;
  }

  -- The calls stay, and no call's record is written then; what is answered is the one whose gate was sent.
  pub acts_over : (said : List Said) → call_written new.stage ≡ None → ((number : ℕ) → IsAnswered said number → IsOpening old number) → ActsOn old new said
  acts_over said none answers = record {
    to_act = λ number is. ⊎_elim (λ may. inl (may_still number may)) (λ writes. absurd (let wrong : None ≡ Some writes.call = sym none ∙ writes.is in cc)) is;
    opening = λ number is. absurd (let wrong : None ≡ Some is.call = sym none ∙ is.is in cc);
    answered = λ number is. inr (answers number is);
  }

-- .. and nothing is answered
pub acts_unwritten : (old new : Machine) → new.calls.items ≡ old.calls.items → call_written new.stage ≡ None → ActsOn old new []
acts_unwritten old new calls none = acts_over old new calls [] none (λ number is. none_answered number is)

-- Calls are attempted, and none begins a record: those that wait on waited, and what is answered might act.
pub acts_tried : (old new : Machine) (said : List Said) → new ≡ record old { calls = new.calls } → ((number : ℕ) → MayAct new.calls.items number → MayAct old.calls.items number)
    → ((number : ℕ) → IsAnswered said number → MayAct old.calls.items number) → ActsOn old new said
acts_tried old new said only waits answers = record {
  to_act = λ number is. ⊎_elim (λ may. inl (waits number may)) (λ writes. inr (still false number writes)) is;
  opening = λ number is. inr (still true number is);
  answered = λ number is. inl (inl (answers number is));
}
  where
    still : (opening : Bool) (number : ℕ) → IsWritten opening new number → IsWritten opening old number
    still opening number is = record {
      call = is.call;
      is = sym (ap (λ (m : Machine). call_written m.stage) only) ∙ is.is;
      same = is.same;
      gate = sym (ap (λ (m : Machine). is_opening m.log.work) only) ∙ is.gate;
    }

-- Calls are attempted, and one begins a record, whose gate isn't sent yet.
pub acts_begun : (old new : Machine) (said : List Said) → ((number : ℕ) → MayAct new.calls.items number → MayAct old.calls.items number)
    → ((call : Waiting) → call_written new.stage ≡ Some call → MayAct old.calls.items call.number) → is_opening new.log.work ≡ false
    → ((number : ℕ) → IsAnswered said number → MayAct old.calls.items number) → ActsOn old new said
acts_begun old new said waits written gate answers = record {
  to_act = λ number is. ⊎_elim (λ may. inl (waits number may)) (λ writes. inl (subst (MayAct old.calls.items) writes.same (written writes.call writes.is))) is;
  opening = λ number is. absurd (let wrong : false ≡ true = sym gate ∙ is.gate in cc);
  answered = λ number is. inl (inl (answers number is));
}

-- A node begins anew: it writes no record then, and the call of the one that it wrote waits on, over where the gate may have been sent.
pub acts_anew : (old new : Machine) → call_written new.stage ≡ None
    → ((number : ℕ) → MayAct new.calls.items number → MayAct old.calls.items number ⊎ ((call : Waiting) × (call_written old.stage ≡ Some call) × (call.number ≡ number) × (is_opening old.log.work ≡ false))) → ActsOn old new []
acts_anew old new none waits = record {
  to_act = λ number is. ⊎_elim
      (λ may. ⊎_elim inl (λ was. inr (record { call = was.0; is = was.1; same = was.2; gate = was.3 })) (waits number may))
      (λ writes. absurd (let wrong : None ≡ Some writes.call = sym none ∙ writes.is in cc)) is;
  opening = λ number is. absurd (let wrong : None ≡ Some is.call = sym none ∙ is.is in cc);
  answered = λ number is. none_answered number is;
}
