-- What was done before homes are written, and before gates are closed.
use Rattle.std.proofs.Common.{◌≡◌, ◌∙◌, ℕ, arith, Bool, true, false, List, Option, Some, None, refl, sym, ap, subst}
use Rattle.std.specs.Prelude.{◌==◌}
use Rattle.std.proofs.lemmas.Bool.Decides.{nat_tests}
use Rattle.bx_records.specs.Runs.{KindAndRuns}
use Rattle.bx_recover.specs.Done.{AreHome, BringsHome, HasDone, RecoveryStep}
use Rattle.bx_recover.specs.Recovering.{AsksBodyAgain, AsksFirst, AsksGatesAgain, AsksNext, EntersStage, FindsClosed, FindsNone, RecoveryGoesOn, RecoveryView, Settled, TakesBody, TakesGates, TellsAll, TellsThose, WritesBack}
use Rattle.bx_recover.specs.declared.moves.Move.{Move}
use Rattle.bx_recover.specs.declared.moves.Move.TheVariants.{Acked, Closed as Ended, Read, Wait, Write}
use Rattle.bx_recover.specs.declared.stage.Stage.{Stage}
use Rattle.bx_recover.specs.declared.stage.Stage.TheVariants.{Begins, Gates, Settles, Bodies, Told, Homes, Closes, Shuts, Closed}

-- the kind of what is written; 0 where nothing is
abbrev kind_of : Move → ℕ
kind_of (Write runs) = runs.0
kind_of (Read device place sectors) = 0
kind_of (Acked points) = 0
kind_of Ended = 0
kind_of Wait = 0

other_kind : (move said : Move) (kind : ℕ) → move ≡ said → kind_of move ≡ kind → (kind_of said == kind) ≡ false → ⊥
other_kind move said kind is kind_is other = apart (kind_of said) (sym (ap kind_of is) ∙ kind_is) other
  where
    apart : (n : ℕ) → n ≡ kind → (n == kind) ≡ false → ⊥
    apart n same differs = grind (arith, nat_tests, same, differs)

one_write : (a b : KindAndRuns) → Write a ≡ Write b → a ≡ b
one_write a b e = cc

module _ (old new : RecoveryView) (steps : List RecoveryStep) (runs : KindAndRuns) where
  -- ---- homes

  module _ (home : runs.0 ≡ 16) where
    not_so : (said : Move) → Write runs ≡ said → (kind_of said == 16) ≡ false → BringsHome old steps runs.1
    not_so said is other = absurd (other_kind (Write runs) said 16 is home other)

    gates_home : (bytes : List ℕ) → TakesGates old bytes new (Write runs) → BringsHome old steps runs.1
    gates_home bytes (AsksGatesAgain long is) = not_so _ is.says refl
    gates_home bytes (WritesBack opened long run is) = not_so _ is.says refl

    settled_home : (opened : ℕ) → Settled old opened new (Write runs) → BringsHome old steps runs.1
    settled_home opened (AsksFirst some is) = not_so _ is.says refl
    settled_home opened (FindsClosed closed is) = not_so _ is.says refl

    body_home : (opened : ℕ) (bytes : List ℕ) → TakesBody old opened bytes new (Write runs) → BringsHome old steps runs.1
    body_home opened bytes (AsksBodyAgain long is) = not_so _ is.says refl
    body_home opened bytes (AsksNext logged long is less adds) = not_so _ adds.says refl
    body_home opened bytes (TellsAll logged long is all adds) = not_so _ adds.says refl
    body_home opened bytes (TellsThose long none some is) = not_so _ is.says refl
    body_home opened bytes (FindsNone long none empty is) = not_so _ is.says refl

    pub homes_after : (stage : Stage) → HasDone old steps stage → (arrived : Option (List ℕ)) (done : Bool) → RecoveryGoesOn old arrived done new (Write runs) stage → BringsHome old steps runs.1
    homes_after Begins was arrived done is = not_so _ is.says refl
    homes_after Gates was None done is = not_so _ is.says refl
    homes_after Gates was (Some bytes) done is = gates_home bytes is
    homes_after (Settles opened) was arrived false is = not_so _ is.says refl
    homes_after (Settles opened) was arrived true is = settled_home opened is
    homes_after (Bodies opened) was None done is = not_so _ is.says refl
    homes_after (Bodies opened) was (Some bytes) done is = body_home opened bytes is
    homes_after Told was arrived done is = record {
      run = was.0;
      points = was.1;
      blocks = is.blocks;
      newest = is.newest;
      runs_are = ap (λ (r : KindAndRuns). r.1) (one_write runs _ is.comes.says);
    }
    homes_after Homes was arrived false is = not_so _ is.says refl
    homes_after Homes was arrived true is = not_so _ is.says refl
    homes_after Closes was arrived false is = not_so _ is.says refl
    homes_after Closes was arrived true is = not_so _ is.says refl
    homes_after Shuts was arrived false is = not_so _ is.says refl
    homes_after Shuts was arrived true is = not_so _ is.says refl
    homes_after Closed was arrived done is = not_so _ is.says refl

  -- ---- gates that are closed

  module _ (shut : runs.0 ≡ 17) (all : List RecoveryStep) (has : HasDone new all new.stage) where
    never : (said : Move) → Write runs ≡ said → (kind_of said == 17) ≡ false → AreHome new all
    never said is other = absurd (other_kind (Write runs) said 17 is shut other)

    closing : (said : Move) → EntersStage old new Closes (Write runs) said → AreHome new all
    closing said is = (subst (HasDone new all) (ap (λ (recovery : RecoveryView). recovery.stage) is.now) has).0

    shutting : (said : Move) → EntersStage old new Shuts (Write runs) said → AreHome new all
    shutting said is = (subst (HasDone new all) (ap (λ (recovery : RecoveryView). recovery.stage) is.now) has).0

    gates_shut : (bytes : List ℕ) → TakesGates old bytes new (Write runs) → AreHome new all
    gates_shut bytes (AsksGatesAgain long is) = never _ is.says refl
    gates_shut bytes (WritesBack opened long run is) = never _ is.says refl

    settled_shut : (opened : ℕ) → Settled old opened new (Write runs) → AreHome new all
    settled_shut opened (AsksFirst some is) = never _ is.says refl
    settled_shut opened (FindsClosed closed is) = shutting _ is

    body_shut : (opened : ℕ) (bytes : List ℕ) → TakesBody old opened bytes new (Write runs) → AreHome new all
    body_shut opened bytes (AsksBodyAgain long is) = never _ is.says refl
    body_shut opened bytes (AsksNext logged long is less adds) = never _ adds.says refl
    body_shut opened bytes (TellsAll logged long is all adds) = never _ adds.says refl
    body_shut opened bytes (TellsThose long none some is) = never _ is.says refl
    body_shut opened bytes (FindsNone long none empty is) = closing _ is

    pub shut_after : (stage : Stage) (arrived : Option (List ℕ)) (done : Bool) → RecoveryGoesOn old arrived done new (Write runs) stage → AreHome new all
    shut_after Begins arrived done is = never _ is.says refl
    shut_after Gates None done is = never _ is.says refl
    shut_after Gates (Some bytes) done is = gates_shut bytes is
    shut_after (Settles opened) arrived false is = never _ is.says refl
    shut_after (Settles opened) arrived true is = settled_shut opened is
    shut_after (Bodies opened) None done is = never _ is.says refl
    shut_after (Bodies opened) (Some bytes) done is = body_shut opened bytes is
    shut_after Told arrived done is = never _ is.comes.says refl
    shut_after Homes arrived false is = never _ is.says refl
    shut_after Homes arrived true is = closing _ is
    shut_after Closes arrived false is = never _ is.says refl
    shut_after Closes arrived true is = shutting _ is
    shut_after Shuts arrived false is = never _ is.says refl
    shut_after Shuts arrived true is = never _ is.says refl
    shut_after Closed arrived done is = never _ is.says refl
