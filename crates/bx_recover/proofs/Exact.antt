-- A step of a recovery is one: by what it is and by what comes it is told what it is then, and what it says.
use Rattle.std.proofs.Common.{◌≡◌, ◌∙◌, ◌⊎◌, inl, inr, ℕ, ◌+◌, ◌<◌, ◌≤◌, arith, Bool, true, false, List, [], ◌∷◌, ◌++◌, length, map, Option, Some, None, sym, ap}
use Rattle.bx_logs.specs.Bodies.{point_of}
use Rattle.bx_records.specs.Drafts.{Changed}
use Rattle.bx_redo.specs.bx_volume.specs.Records.{Logged}
use Rattle.bx_recover.specs.Gates.{IsOpenRun}
use Rattle.bx_recover.specs.HomesOf.{AreNewestOf}
use Rattle.bx_recover.specs.Recovering.{EntersStageWith, AsksBodyAgain, AsksFirst, AsksGatesAgain, AsksNext, EntersStage, FindsClosed, FindsNone, RecoveryGoesOn, RecoveryView, SendsHomes, Settled, Stays, TakesBody, TakesGates, TellsAll, TellsThose, WritesBack, brings_home, reads_body, settles}
use Rattle.bx_recover.specs.declared.moves.Move.{Move}
use Rattle.bx_recover.specs.declared.moves.Move.TheVariants.{Acked}
use Rattle.bx_recover.specs.declared.stage.Stage.{Stage}
use Rattle.bx_recover.specs.declared.stage.Stage.TheVariants.{Begins, Gates, Settles, Bodies, Told, Homes, Closes, Shuts, Closed}
use Rattle.bx_recover.proofs.Logs.{one_record}
use Rattle.bx_recover.proofs.Sorted.{same_blocks}

one_run : (gates : List ℕ) (a b : ℕ) → IsOpenRun gates a → IsOpenRun gates b → a ≡ b
one_run gates a b is_a is_b = by (sides a b) (sides b a)
  where
    sides : (n m : ℕ) → (n < m) ⊎ (m ≤ n)
    sides n m = grind arith

    by : (a < b) ⊎ (b ≤ a) → (b < a) ⊎ (a ≤ b) → a ≡ b
    by (inl less) other = absurd (is_a.end (omega (arith, less, is_b.most)) (is_b.opened a less))
    by (inr le) (inl less) = absurd (is_b.end (omega (arith, less, is_a.most)) (is_a.opened b less))
    by (inr le) (inr ge) = omega (arith, le, ge)

one_newest : (records : List Logged) (a b : List Changed) → AreNewestOf records a → AreNewestOf records b → a ≡ b
one_newest records a b is_a is_b = same_blocks a b is_a.order is_b.order (λ at. is_a.each at ∙ sym (is_b.each at))

module _ (old new other : RecoveryView) (move another : Move) where
  abbrev AreOne : Type 0
  AreOne = (new ≡ other) × (move ≡ another)

  both : (view : RecoveryView) (said : Move) → new ≡ view → move ≡ said → other ≡ view → another ≡ said → AreOne
  both view said is says is_too says_too = (is ∙ sym is_too, says ∙ sym says_too)

  stay : (said : Move) → Stays old new move said → Stays old other another said → AreOne
  stay said is is_too = both old said is.now is.says is_too.now is_too.says

  come : (stage : Stage) (said : Move) → EntersStage old new stage move said → EntersStage old other stage another said → AreOne
  come stage said is is_too = both (record old { stage = stage }) said is.now is.says is_too.now is_too.says

  add : (stage : Stage) (say : Logged → Move) (logged logged_too : Logged) → logged ≡ logged_too → EntersStageWith old new logged stage move (say logged) → EntersStageWith old other logged_too stage another (say logged_too) → AreOne
  add stage say logged logged_too same is is_too = both (record old { stage = stage; records = old.records ++ logged ∷ [] }) (say logged) is.now is.says
      (is_too.now ∙ sym (ap (λ (l : Logged). record old { stage = stage; records = old.records ++ l ∷ [] }) same)) (is_too.says ∙ sym (ap say same))

  gates : (bytes : List ℕ) → TakesGates old bytes new move → TakesGates old bytes other another → AreOne
  gates bytes (AsksGatesAgain long is) (AsksGatesAgain long_too is_too) = stay _ is is_too
  gates bytes (AsksGatesAgain long is) (WritesBack opened long_too run is_too) = absurd (long long_too)
  gates bytes (WritesBack opened long run is) (AsksGatesAgain long_too is_too) = absurd (long_too long)
  gates bytes (WritesBack opened long run is) (WritesBack opened_too long_too run_too is_too) =
      let same = one_run bytes opened opened_too run run_too in
      both (record old { stage = Settles opened }) (settles old bytes) is.now is.says (is_too.now ∙ sym (ap (λ (n : ℕ). record old { stage = Settles n }) same)) is_too.says

  settled : (opened : ℕ) → Settled old opened new move → Settled old opened other another → AreOne
  settled opened (AsksFirst some is) (AsksFirst some_too is_too) = come _ _ is is_too
  settled opened (AsksFirst some is) (FindsClosed closed is_too) = absurd (omega (arith, some, closed))
  settled opened (FindsClosed closed is) (AsksFirst some is_too) = absurd (omega (arith, some, closed))
  settled opened (FindsClosed closed is) (FindsClosed closed_too is_too) = come _ _ is is_too

  empty_none : old.records ≡ [] → 0 < length old.records → ⊥
  empty_none empty some = let none : length old.records ≡ 0 = ap (λ (l : List Logged). length l) empty in absurd (omega (arith, none, some))

  body : (opened : ℕ) (bytes : List ℕ) → TakesBody old opened bytes new move → TakesBody old opened bytes other another → AreOne
  body opened bytes (AsksBodyAgain long does) (AsksBodyAgain long_too does_too) = stay _ does does_too
  body opened bytes (AsksBodyAgain long does) (AsksNext logged_too long_too is_too count_too does_too) = absurd (long long_too)
  body opened bytes (AsksBodyAgain long does) (TellsAll logged_too long_too is_too count_too does_too) = absurd (long long_too)
  body opened bytes (AsksBodyAgain long does) (TellsThose long_too none_too count_too does_too) = absurd (long long_too)
  body opened bytes (AsksBodyAgain long does) (FindsNone long_too none_too empty_too does_too) = absurd (long long_too)
  body opened bytes (AsksNext logged long is count does) (AsksBodyAgain long_too does_too) = absurd (long_too long)
  body opened bytes (AsksNext logged long is count does) (AsksNext logged_too long_too is_too count_too does_too) = add (Bodies opened) (λ l. reads_body old (length old.records + 1)) logged logged_too (one_record old.areas bytes logged logged_too is is_too) does does_too
  body opened bytes (AsksNext logged long is count does) (TellsAll logged_too long_too is_too count_too does_too) = absurd (omega (arith, count, count_too))
  body opened bytes (AsksNext logged long is count does) (TellsThose long_too none_too count_too does_too) = absurd (none_too logged is)
  body opened bytes (AsksNext logged long is count does) (FindsNone long_too none_too empty_too does_too) = absurd (none_too logged is)
  body opened bytes (TellsAll logged long is count does) (AsksBodyAgain long_too does_too) = absurd (long_too long)
  body opened bytes (TellsAll logged long is count does) (AsksNext logged_too long_too is_too count_too does_too) = absurd (omega (arith, count, count_too))
  body opened bytes (TellsAll logged long is count does) (TellsAll logged_too long_too is_too count_too does_too) = add Told (λ l. Acked (map point_of (old.records ++ l ∷ []))) logged logged_too (one_record old.areas bytes logged logged_too is is_too) does does_too
  body opened bytes (TellsAll logged long is count does) (TellsThose long_too none_too count_too does_too) = absurd (none_too logged is)
  body opened bytes (TellsAll logged long is count does) (FindsNone long_too none_too empty_too does_too) = absurd (none_too logged is)
  body opened bytes (TellsThose long none count does) (AsksBodyAgain long_too does_too) = absurd (long_too long)
  body opened bytes (TellsThose long none count does) (AsksNext logged_too long_too is_too count_too does_too) = absurd (none logged_too is_too)
  body opened bytes (TellsThose long none count does) (TellsAll logged_too long_too is_too count_too does_too) = absurd (none logged_too is_too)
  body opened bytes (TellsThose long none count does) (TellsThose long_too none_too count_too does_too) = come _ _ does does_too
  body opened bytes (TellsThose long none count does) (FindsNone long_too none_too empty_too does_too) = absurd (empty_none empty_too count)
  body opened bytes (FindsNone long none empty does) (AsksBodyAgain long_too does_too) = absurd (long_too long)
  body opened bytes (FindsNone long none empty does) (AsksNext logged_too long_too is_too count_too does_too) = absurd (none logged_too is_too)
  body opened bytes (FindsNone long none empty does) (TellsAll logged_too long_too is_too count_too does_too) = absurd (none logged_too is_too)
  body opened bytes (FindsNone long none empty does) (TellsThose long_too none_too count_too does_too) = absurd (empty_none empty count_too)
  body opened bytes (FindsNone long none empty does) (FindsNone long_too none_too empty_too does_too) = come _ _ does does_too

  homes : SendsHomes old new move → SendsHomes old other another → AreOne
  homes is is_too =
      both (record old { stage = Homes }) (brings_home old is.blocks) is.comes.now is.comes.says is_too.comes.now
      (is_too.comes.says ∙ sym (ap (brings_home old) (one_newest old.records is.blocks is_too.blocks is.newest is_too.newest)))

  pub one_step : (stage : Stage) (arrived : Option (List ℕ)) (done : Bool) → RecoveryGoesOn old arrived done new move stage → RecoveryGoesOn old arrived done other another stage → (new ≡ other) × (move ≡ another)
  one_step Begins arrived done is is_too = come _ _ is is_too
  one_step Gates None done is is_too = stay _ is is_too
  one_step Gates (Some bytes) done is is_too = gates bytes is is_too
  one_step (Settles opened) arrived false is is_too = stay _ is is_too
  one_step (Settles opened) arrived true is is_too = settled opened is is_too
  one_step (Bodies opened) None done is is_too = stay _ is is_too
  one_step (Bodies opened) (Some bytes) done is is_too = body opened bytes is is_too
  one_step Told arrived done is is_too = homes is is_too
  one_step Homes arrived false is is_too = stay _ is is_too
  one_step Homes arrived true is is_too = come _ _ is is_too
  one_step Closes arrived false is is_too = stay _ is is_too
  one_step Closes arrived true is is_too = come _ _ is is_too
  one_step Shuts arrived false is is_too = stay _ is is_too
  one_step Shuts arrived true is is_too = come _ _ is is_too
  one_step Closed arrived done is is_too = stay _ is is_too
