-- A body that was taken.
use Rattle.std.proofs.Common.{◌≡◌, ℕ, ◌+◌, ◌<◌, ◌≤◌, ◌⊎◌, inl, inr, arith, List, [], ◌∷◌, ◌++◌, length, map, subst, Ok, Err}
use Rattle.std.specs.Prelude.{IfOk, Result}
use Rattle.bx_logs.specs.Bodies.{point_of}
use Rattle.bx_redo.specs.bx_volume.specs.Records.{Logged}
use Rattle.bx_recover.specs.Bodies.{IsRecordIn}
use Rattle.bx_recover.specs.Recovering.{EntersStageWith, AsksNext, FitsStage, RecoveryView, TakesBody, TellsAll, reads_body}
use Rattle.bx_recover.specs.declared.moves.Move.{Move}
use Rattle.bx_recover.specs.declared.moves.Move.TheVariants.{Acked}
use Rattle.bx_recover.specs.declared.stage.Stage.{Stage}
use Rattle.bx_recover.specs.declared.stage.Stage.TheVariants.{Bodies, Told}

pub fitting : (stage : Stage) (records : List Logged) (opened : ℕ) → stage ≡ Bodies opened → FitsStage stage records → (length records < opened) × (opened ≤ 8)
fitting stage records opened is fits = subst (λ (s : Stage). FitsStage s records) is fits

-- a record was put behind those of the run
pub added : {E : Type 0} (old new : RecoveryView) (opened : ℕ) (bytes : List ℕ) (logged : Logged) (result : Result Move E)
    → length bytes ≡ 74240 → IsRecordIn old.areas bytes logged → length old.records < opened
    → (length old.records + 1 < opened → IfOk result (λ move. EntersStageWith old new logged (Bodies opened) move (reads_body old (length old.records + 1))))
    → (opened ≤ length old.records + 1 → IfOk result (λ move. EntersStageWith old new logged Told move (Acked (map point_of (old.records ++ logged ∷ [])))))
    → IfOk result (TakesBody old opened bytes new)
added old new opened bytes logged (Err e) long is below next all = tt
added old new opened bytes logged (Ok move) long is below next all = by (sides (length old.records + 1))
  where
    sides : (n : ℕ) → (n < opened) ⊎ (opened ≤ n)
    sides n = grind arith

    by : (length old.records + 1 < opened) ⊎ (opened ≤ length old.records + 1) → TakesBody old opened bytes new move
    by (inl less) = AsksNext logged long is less (next less)
    by (inr past) = TellsAll logged long is (omega (arith, below, past)) (all past)
