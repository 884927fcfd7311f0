-- What becomes of tidies: most of what a node does leaves them as they are.
use Rattle.std.proofs.Common.{◌≡◌, ◌∙◌, ℕ, List, Option, None, Some, IfSome, IsSome, refl, ap}
use Rattle.bx_facts.specs.Writes.{Asked, Sent}
use Rattle.bx_node_steps.specs.Changing.{TakesAnswer}
use Rattle.bx_node_steps.specs.Logging.{Closed, LogGoes, Rests, SendsClosing, SendsGate, SendsHomes, SendsShut}
use Rattle.bx_node_steps.specs.Tidying.{GoesOn, NoTidy, TidyGoes}
use Rattle.bx_node_steps.specs.declared.machine.Machine.{Machine}
use Rattle.bx_node_steps.specs.declared.machine.Mark.{Mark}
use Rattle.bx_node_steps.specs.declared.machine.Tidy.{Tidy}
use Rattle.bx_node_tries.specs.declared.round.Begun.{Begun}
use Rattle.bx_node_tries.specs.declared.round.Said.{Said}
use Rattle.bx_nodes.proofs.Machines.{if_between, if_both, was_there}
use Rattle.bx_nodes.specs.Asks.{OnlyHolds}
use Rattle.bx_nodes.specs.Sending.{BeginsBy, StepsLog}
use Rattle.bx_records.specs.Runs.{KindAndRuns}

-- ---- a tidy stays as it is

abbrev pub SameTidy : Machine → Machine → Type 0
SameTidy a b = b.tidy ≡ a.tidy

-- .. and so does what was noted of the blocks that the node is asked for
abbrev pub LeavesTidy : Machine → Machine → Type 0
LeavesTidy a b = (b.tidy ≡ a.tidy) × (b.mark ≡ a.mark)

pub tidy_left : (old new : Option Machine) → IfSome old (λ a. IfSome new (LeavesTidy a)) → IfSome old (λ a. IfSome new (SameTidy a))
tidy_left old new left = if_both old new LeavesTidy SameTidy (λ a b both. both.0) left

pub tidy_then : (old middle new : Option Machine) → (middle ≡ None → ⊥) → IfSome old (λ a. IfSome middle (LeavesTidy a)) → IfSome middle (λ a. IfSome new (LeavesTidy a)) → IfSome old (λ a. IfSome new (LeavesTidy a))
tidy_then old middle new some one two = if_between old middle new LeavesTidy LeavesTidy LeavesTidy some (λ a b c first second. (second.0 ∙ first.0, second.1 ∙ first.1)) one two

pub tidy_noted : (old new : Option Machine) (a : Machine) (mark : Option Mark) → old ≡ Some a → new ≡ Some (record a { mark = mark }) → IfSome old (λ x. IfSome new (SameTidy x))
tidy_noted old new a mark was is = was_there (λ (m : Machine). IfSome new (SameTidy m)) old a was (was_there (SameTidy a) new (record a { mark = mark }) is refl)

pub tidy_held : (old new : Option Machine) → IfSome old (λ a. IfSome new (OnlyHolds a)) → IfSome old (λ a. IfSome new (LeavesTidy a))
tidy_held old new only = if_both old new OnlyHolds LeavesTidy (λ a b holds. (ap (λ (m : Machine). m.tidy) holds, ap (λ (m : Machine). m.mark) holds)) only

pub tidy_tried : (old new : Option Machine) → IfSome old (λ a. IfSome new (λ b. b ≡ record a { calls = b.calls })) → IfSome old (λ a. IfSome new (LeavesTidy a))
tidy_tried old new only = if_both old new (λ a b. b ≡ record a { calls = b.calls }) LeavesTidy (λ a b is. (ap (λ (m : Machine). m.tidy) is, ap (λ (m : Machine). m.mark) is)) only

pub tidy_begun : (moment : ℕ) (begins : Begun) (own : Option ℕ) (until : ℕ) (out : Option Sent) (old new : Option Machine) → IfSome old (λ a. IfSome new (BeginsBy moment begins own until out a)) → IfSome old (λ a. IfSome new (LeavesTidy a))
tidy_begun moment begins own until out old new begun = if_both old new (BeginsBy moment begins own until out) LeavesTidy (λ a b by. (ap (λ (m : Machine). m.tidy) by.sends.begins.only, ap (λ (m : Machine). m.mark) by.sends.begins.only)) begun

takes_tidy : (answer : Option (List ℕ)) (asked : Option Asked) (old new : Machine) → TakesAnswer answer asked old new → LeavesTidy old new
takes_tidy None None old new takes = (ap (λ (m : Machine). m.tidy) takes, ap (λ (m : Machine). m.mark) takes)
takes_tidy None (Some asks) old new takes = (ap (λ (m : Machine). m.tidy) takes, ap (λ (m : Machine). m.mark) takes)
takes_tidy (Some bytes) asked old new takes = (ap (λ (m : Machine). m.tidy) takes.only, ap (λ (m : Machine). m.mark) takes.only)

pub tidy_received : (answer : Option (List ℕ)) (asked : Option Asked) (old new : Option Machine) → IfSome old (λ a. IfSome new (TakesAnswer answer asked a)) → IfSome old (λ a. IfSome new (LeavesTidy a))
tidy_received answer asked old new takes = if_both old new (TakesAnswer answer asked) LeavesTidy (λ a b taken. takes_tidy answer asked a b taken) takes

steps_tidy : (own : Option ℕ) (until : ℕ) (out out_then : Option Sent) (old new : Machine) (said : Option Said) → StepsLog own until out out_then old new said → LeavesTidy old new
steps_tidy own until (Some write) out_then old new said steps = (ap (λ (m : Machine). m.tidy) steps.0, ap (λ (m : Machine). m.mark) steps.0)
steps_tidy own until None out_then old new said (runs, goes, sent) = by runs said goes
  where
    by : (runs : Option KindAndRuns) (said : Option Said) → LogGoes old new runs said → LeavesTidy old new
    by runs said (Rests stage same) = (ap (λ (m : Machine). m.tidy) same, ap (λ (m : Machine). m.mark) same)
    by runs said (SendsGate pending text point stage work same) = (ap (λ (m : Machine). m.tidy) same, ap (λ (m : Machine). m.mark) same)
    by runs said (SendsHomes pending point stage work same volume commits homes) = (ap (λ (m : Machine). m.tidy) same, ap (λ (m : Machine). m.mark) same)
    by runs said (SendsClosing stage same volume settles) = (ap (λ (m : Machine). m.tidy) same, ap (λ (m : Machine). m.mark) same)
    by runs said (SendsShut stage work same) = (ap (λ (m : Machine). m.tidy) same, ap (λ (m : Machine). m.mark) same)
    by runs said (Closed stage work same) = (ap (λ (m : Machine). m.tidy) same, ap (λ (m : Machine). m.mark) same)

pub tidy_stepped : (own : Option ℕ) (until : ℕ) (out out_then : Option Sent) (said : Option Said) (old new : Option Machine) → IfSome old (λ a. IfSome new (λ b. StepsLog own until out out_then a b said)) → IfSome old (λ a. IfSome new (LeavesTidy a))
tidy_stepped own until out out_then said old new steps = if_both old new (λ a b. StepsLog own until out out_then a b said) LeavesTidy (λ a b stepped. steps_tidy own until out out_then a b said stepped) steps

-- ---- and so it goes on

-- what becomes of the tidy of a node that noted before what it is asked for
abbrev pub GoesBy : Machine → Machine → Type 0
GoesBy a b = TidyGoes (IsSome a.mark) a b

stays_on : (a b : Machine) → SameTidy a b → GoesBy a b
stays_on a b same = by a.tidy refl
  where
    by : (found : Option Tidy) → a.tidy ≡ found → GoesBy a b
    by None is = NoTidy is (same ∙ is)
    by (Some tidy) is = GoesOn tidy is (same ∙ is)

pub tidy_same : (found : Option Machine) → IfSome found (λ a. IfSome found (GoesBy a))
tidy_same None = tt
tidy_same (Some a) = stays_on a a refl

pub tidy_stays : (old new : Option Machine) → IfSome old (λ a. IfSome new (LeavesTidy a)) → IfSome old (λ a. IfSome new (GoesBy a))
tidy_stays old new same = if_both old new LeavesTidy GoesBy (λ a b both. stays_on a b both.0) same
