-- What a recovery did is done at each stage.
use Rattle.std.proofs.Common.{◌≡◌, ◌⊎◌, ⊎_elim, inl, inr, ◌∙◌, ℕ, ◌+◌, arith, Bool, true, false, List, [], ◌∷◌, ◌++◌, length, map, Option, Some, None, refl, sym, ap, subst}
use Rattle.std.specs.Prelude.{slice_get}
use Rattle.std.proofs.lemmas.List.{append-nil, length-append}
use Rattle.bx_base.specs.declared.names.Point.{Point}
use Rattle.bx_logs.specs.Bodies.{point_of}
use Rattle.bx_redo.specs.declared.work.Work.TheVariants as works
use Rattle.bx_redo.specs.bx_volume.specs.Records.{Logged}
use Rattle.bx_recover.specs.Bodies.{HasNoRecord, IsRecordIn}
use Rattle.bx_recover.specs.Done.{AreHome, AreRead, HasDone, HasGates, HasRun, HasSettled, IsFirstClosed, IsLast, IsReadIn, StepsLead, RecoveryStep, points_in, told}
use Rattle.bx_recover.specs.Recovering.{EntersStageWith, AsksBodyAgain, AsksFirst, AsksGatesAgain, AsksNext, EntersStage, FindsClosed, FindsNone, RecoveryGoesOn, RecoveryView, SendsHomes, Settled, Stays, TakesBody, TakesGates, TellsAll, TellsThose, WritesBack, brings_home, closes, reads_body, reads_gates, settles}
use Rattle.bx_recover.specs.declared.moves.Move.{Move}
use Rattle.bx_recover.specs.declared.moves.Move.TheVariants.{Acked, Closed as Ended, Wait}
use Rattle.bx_recover.specs.declared.stage.Stage.{Stage}
use Rattle.bx_recover.proofs.Lists.{split_last}
use Rattle.bx_recover.specs.declared.stage.Stage.TheVariants.{Begins, Gates, Settles, Bodies, Told, Homes, Closes, Shuts, Closed}

module _ (old : RecoveryView) (steps : List RecoveryStep) (step : RecoveryStep) where
  -- ---- what was done before is done

  abbrev pub at : Stage → List Logged → RecoveryView
  at stage records = record old { stage = stage; records = records }

  pub later_gates : (stage : Stage) (records : List Logged) (gates : List ℕ) (opened : ℕ) → HasGates old steps gates opened → HasGates (at stage records) (step ∷ steps) gates opened
  later_gates stage records gates opened is = record { came = inr is.came; long = is.long; run = is.run }

  pub later_settled : (stage : Stage) (records : List Logged) (opened : ℕ) → HasSettled old steps opened → HasSettled (at stage records) (step ∷ steps) opened
  later_settled stage records opened is = record { gates = is.gates; has = later_gates stage records is.gates opened is.has; back = inr is.back }

  pub later_read : (stage : Stage) (records : List Logged) (body : ℕ) (logged : Logged) → IsReadIn old steps body logged → IsReadIn (at stage records) (step ∷ steps) body logged
  later_read stage records body logged is = record { bytes = is.bytes; came = inr is.came; is = is.is }

  pub later_run : (stage : Stage) → HasRun old steps → HasRun (at stage old.records) (step ∷ steps)
  later_run stage is = record {
    opened = is.opened;
    settled = later_settled stage old.records is.opened is.settled;
    each = λ body logged there. later_read stage old.records body logged (is.each body logged there);
    ends = ⊎_elim inl (λ short. inr (short.0, record { bytes = short.1.bytes; came = inr short.1.came; none = short.1.none })) is.ends;
  }

  pub later_home : (stage : Stage) → AreHome old steps → told (step ∷ steps) ≡ told steps → AreHome (at stage old.records) (step ∷ steps)
  later_home stage is same = record {
    run = later_run stage is.run;
    points = same ∙ is.points;
    home = ⊎_elim inl (λ sent. inr (sent.0, sent.1, inr sent.2)) is.home;
  }

  pub later_first : (stage : Stage) → IsFirstClosed old steps → IsFirstClosed (at stage old.records) (step ∷ steps)
  later_first stage is = ⊎_elim (λ none. inl (later_settled stage old.records 0 none)) (λ done. inr (inr done)) is

  pub quiet : (move : Move) → step.said ≡ move → points_in move ≡ [] → told (step ∷ steps) ≡ told steps
  quiet move said none = ap (λ (m : Move). told steps ++ points_in m) said ∙ ap (λ (l : List Point). told steps ++ l) none ∙ append-nil (told steps)

  pub tells : (points : List Point) → told steps ≡ [] → step.said ≡ Acked points → told (step ∷ steps) ≡ points
  tells points none said = ap (λ (m : Move). told steps ++ points_in m) said ∙ ap (λ (l : List Point). l ++ points) none

  pub none_read : (recovery : RecoveryView) (all : List RecoveryStep) → recovery.records ≡ [] → AreRead recovery all
  none_read recovery all none = λ body logged there. absurd (let e = sym (ap (λ (l : List Logged). slice_get l body) none) ∙ there in absurd cc)

  -- ---- it waits

  waits : (stage : Stage) → HasDone old steps stage → step.said ≡ Wait → HasDone old (step ∷ steps) stage
  waits Begins done said = (done.0, quiet Wait said refl ∙ done.1)
  waits Gates done said = (done.0, quiet Wait said refl ∙ done.1, inr (said, done.2))
  waits (Settles opened) done said = (done.0, quiet Wait said refl ∙ done.1, (done.2.0, later_gates old.stage old.records done.2.0 opened done.2.1, inr (said, done.2.2)))
  waits (Bodies opened) done said = (
    quiet Wait said refl ∙ done.0,
    later_settled old.stage old.records opened done.1,
    λ body logged there. later_read old.stage old.records body logged (done.2 body logged there),
    done.3,
    inr (said, done.4),
  )
  waits Told done said = (later_run old.stage done.0, quiet Wait said refl ∙ done.1, done.2)
  waits Homes done said = (later_run old.stage done.0, quiet Wait said refl ∙ done.1, (done.2.0, done.2.1, inr (said, done.2.2)))
  waits Closes done said = (later_home old.stage done.0 (quiet Wait said refl), inr (said, done.1))
  waits Shuts done said = (later_home old.stage done.0 (quiet Wait said refl), later_first old.stage done.1, inr (said, done.2))
  waits Closed done said = (later_home old.stage done.0 (quiet Wait said refl), later_first old.stage done.1, inr done.2)

  -- ---- it goes on

  module _ (new : RecoveryView) where
    -- it comes to a stage, where that is done
    comes : (stage : Stage) (said : Move) → EntersStage old new stage step.said said → HasDone (at stage old.records) (step ∷ steps) stage → HasDone new (step ∷ steps) new.stage
    comes stage said is done = subst (λ (recovery : RecoveryView). HasDone recovery (step ∷ steps) recovery.stage) (sym is.now) done

    stays : (stage : Stage) (said : Move) → old.stage ≡ stage → Stays old new step.said said → HasDone old (step ∷ steps) stage → HasDone new (step ∷ steps) new.stage
    stays stage said was is done =
        subst (λ (recovery : RecoveryView). HasDone recovery (step ∷ steps) recovery.stage) (sym is.now) (subst (HasDone old (step ∷ steps)) (sym was) done)

    waiting : (stage : Stage) → old.stage ≡ stage → HasDone old steps stage → Stays old new step.said Wait → HasDone new (step ∷ steps) new.stage
    waiting stage was done is = stays stage Wait was is (waits stage done is.says)

    takes_gates : (bytes : List ℕ) → old.stage ≡ Gates → HasDone old steps Gates → step.arrived ≡ Some bytes → TakesGates old bytes new step.said → HasDone new (step ∷ steps) new.stage
    takes_gates bytes was done came (AsksGatesAgain long is) = stays Gates (reads_gates old) was is (done.0, quiet (reads_gates old) is.says refl ∙ done.1, inl is.says)
    takes_gates bytes was done came (WritesBack opened long run is) =
        comes (Settles opened) (settles old bytes) is (done.0, quiet (settles old bytes) is.says refl ∙ done.1, (bytes, record { came = inl (came, done.2); long = long; run = run }, inl is.says))

    pub settled : (opened : ℕ) → HasDone old steps (Settles opened) → step.done ≡ true → (stage : Stage) → HasSettled (at stage old.records) (step ∷ steps) opened
    settled opened done is_done stage = record { gates = done.2.0; has = later_gates stage old.records done.2.0 opened done.2.1; back = inl (is_done, done.2.2) }

    goes_settled : (opened : ℕ) → HasDone old steps (Settles opened) → step.done ≡ true → Settled old opened new step.said → HasDone new (step ∷ steps) new.stage
    goes_settled opened done is_done (AsksFirst some is) =
        let none : length old.records ≡ 0 = ap (λ (l : List Logged). length l) done.0 in
        comes (Bodies opened) (reads_body old 0) is (
          quiet (reads_body old 0) is.says refl ∙ done.1,
          settled opened done is_done (Bodies opened),
          none_read (at (Bodies opened) old.records) (step ∷ steps) done.0,
          omega (arith, none, some),
          inl (is.says ∙ ap (reads_body old) (sym none)),
        )
    goes_settled opened done is_done (FindsClosed closed is) =
        let none : length old.records ≡ 0 = ap (λ (l : List Logged). length l) done.0 in
        let quietly = quiet (closes old works.Shuts) is.says refl ∙ done.1 in
        comes Shuts (closes old works.Shuts) is (
          record {
            run = record {
              opened = opened;
              settled = settled opened done is_done Shuts;
              each = none_read (at Shuts old.records) (step ∷ steps) done.0;
              ends = inl (none ∙ sym closed);
            };
            points = quietly ∙ sym (ap (map point_of) done.0);
            home = inl done.0;
          },
          inl (subst (HasSettled (at Shuts old.records) (step ∷ steps)) closed (settled opened done is_done Shuts)),
          inl is.says,
        )

    -- the run ends before a body without a record
    pub ends_there : (opened : ℕ) (bytes : List ℕ) (stage : Stage) → HasDone old steps (Bodies opened) → step.arrived ≡ Some bytes → HasNoRecord old.areas bytes → HasRun (at stage old.records) (step ∷ steps)
    ends_there opened bytes stage done came none = record {
      opened = opened;
      settled = later_settled stage old.records opened done.1;
      each = λ body logged there. later_read stage old.records body logged (done.2 body logged there);
      ends = inr (done.3, record { bytes = bytes; came = inl (came, done.4); none = none });
    }

    -- a record more was read
    pub more_read : (opened : ℕ) (bytes : List ℕ) (logged : Logged) (stage : Stage) → HasDone old steps (Bodies opened) → step.arrived ≡ Some bytes → IsRecordIn old.areas bytes logged
        → AreRead (at stage (old.records ++ logged ∷ [])) (step ∷ steps)
    more_read opened bytes logged stage done came is body other there = by (split_last old.records logged body other there)
      where
        by : (slice_get old.records body ≡ Some other) ⊎ ((body ≡ length old.records) × (logged ≡ other)) → IsReadIn (at stage (old.records ++ logged ∷ [])) (step ∷ steps) body other
        by (inl before) = later_read stage (old.records ++ logged ∷ []) body other (done.2 body other before)
        by (inr last) = subst (IsReadIn (at stage (old.records ++ logged ∷ [])) (step ∷ steps) body) last.1 (record { bytes = bytes; came = inl (came, here); is = is })
          where
            here : IsLast steps (reads_body old body)
            here = subst (λ (n : ℕ). IsLast steps (reads_body old n)) (sym last.0) done.4

    adds : (logged : Logged) (stage : Stage) (said : Move) → EntersStageWith old new logged stage step.said said → HasDone (at stage (old.records ++ logged ∷ [])) (step ∷ steps) stage → HasDone new (step ∷ steps) new.stage
    adds logged stage said is done = subst (λ (recovery : RecoveryView). HasDone recovery (step ∷ steps) recovery.stage) (sym is.now) done

    takes_body : (opened : ℕ) (bytes : List ℕ) → old.stage ≡ Bodies opened → HasDone old steps (Bodies opened) → step.arrived ≡ Some bytes → TakesBody old opened bytes new step.said → HasDone new (step ∷ steps) new.stage
    takes_body opened bytes was done came (AsksBodyAgain long is) =
        let said = reads_body old (length old.records) in
        stays (Bodies opened) said was is (
          quiet said is.says refl ∙ done.0,
          later_settled old.stage old.records opened done.1,
          (λ body logged there. later_read old.stage old.records body logged (done.2 body logged there)),
          done.3,
          inl is.says,
        )
    takes_body opened bytes was done came (AsksNext logged long is less adds_it) =
        let one : length (old.records ++ logged ∷ []) ≡ length old.records + 1 = length-append old.records (logged ∷ []) in
        adds logged (Bodies opened) (reads_body old (length old.records + 1)) adds_it (
          quiet (reads_body old (length old.records + 1)) adds_it.says refl ∙ done.0,
          later_settled (Bodies opened) (old.records ++ logged ∷ []) opened done.1,
          more_read opened bytes logged (Bodies opened) done came is,
          omega (arith, one, less),
          inl (adds_it.says ∙ ap (reads_body old) (sym one)),
        )
    takes_body opened bytes was done came (TellsAll logged long is all adds_it) =
        let one : length (old.records ++ logged ∷ []) ≡ length old.records + 1 = length-append old.records (logged ∷ []) in
        adds logged Told (Acked (map point_of (old.records ++ logged ∷ []))) adds_it (
          record {
            opened = opened;
            settled = later_settled Told (old.records ++ logged ∷ []) opened done.1;
            each = more_read opened bytes logged Told done came is;
            ends = inl (one ∙ all);
          },
          tells (map point_of (old.records ++ logged ∷ [])) done.0 adds_it.says,
          omega (arith, one),
        )
    takes_body opened bytes was done came (TellsThose long none some is) =
        comes Told (Acked (map point_of old.records)) is (
          ends_there opened bytes Told done came none,
          tells (map point_of old.records) done.0 is.says,
          some,
        )
    takes_body opened bytes was done came (FindsNone long none empty is) =
        comes Closes (closes old works.Closes) is (
          record {
            run = ends_there opened bytes Closes done came none;
            points = quiet (closes old works.Closes) is.says refl ∙ done.0 ∙ sym (ap (map point_of) empty);
            home = inl empty;
          },
          inl is.says,
        )

    sends_homes : HasDone old steps Told → SendsHomes old new step.said → HasDone new (step ∷ steps) new.stage
    sends_homes done is =
        comes Homes (brings_home old is.blocks) is.comes (later_run Homes done.0, quiet (brings_home old is.blocks) is.comes.says refl ∙ done.1, (is.blocks, is.newest, inl is.comes.says))

    goes : (stage : Stage) → old.stage ≡ stage → HasDone old steps stage → (arrived : Option (List ℕ)) → step.arrived ≡ arrived → (is_done : Bool) → step.done ≡ is_done
        → RecoveryGoesOn old arrived is_done new step.said stage → HasDone new (step ∷ steps) new.stage
    goes Begins was done arrived came is_done is goes_on = comes Gates (reads_gates old) goes_on (done.0, quiet (reads_gates old) goes_on.says refl ∙ done.1, inl goes_on.says)
    goes Gates was done None came is_done is goes_on = waiting Gates was done goes_on
    goes Gates was done (Some bytes) came is_done is goes_on = takes_gates bytes was done came goes_on
    goes (Settles opened) was done arrived came false is goes_on = waiting (Settles opened) was done goes_on
    goes (Settles opened) was done arrived came true is goes_on = goes_settled opened done is goes_on
    goes (Bodies opened) was done None came is_done is goes_on = waiting (Bodies opened) was done goes_on
    goes (Bodies opened) was done (Some bytes) came is_done is goes_on = takes_body opened bytes was done came goes_on
    goes Told was done arrived came is_done is goes_on = sends_homes done goes_on
    goes Homes was done arrived came false is goes_on = waiting Homes was done goes_on
    goes Homes was done arrived came true is goes_on =
        comes Closes (closes old works.Closes) goes_on (
          record {
            run = later_run Closes done.0;
            points = quiet (closes old works.Closes) goes_on.says refl ∙ done.1;
            home = inr (done.2.0, done.2.1, inl (is, done.2.2));
          },
          inl goes_on.says,
        )
    goes Closes was done arrived came false is goes_on = waiting Closes was done goes_on
    goes Closes was done arrived came true is goes_on =
        comes Shuts (closes old works.Shuts) goes_on (later_home Shuts done.0 (quiet (closes old works.Shuts) goes_on.says refl), inr (inl (is, done.1)), inl goes_on.says)
    goes Shuts was done arrived came false is goes_on = waiting Shuts was done goes_on
    goes Shuts was done arrived came true is goes_on =
        comes Closed Ended goes_on (later_home Closed done.0 (quiet Ended goes_on.says refl), later_first Closed done.1, inl (is, done.2))
    goes Closed was done arrived came is_done is goes_on =
        stays Closed Ended was goes_on (later_home old.stage done.0 (quiet Ended goes_on.says refl), later_first old.stage done.1, inr done.2)

pub what_was_done : (first : RecoveryView) → first.stage ≡ Begins → first.records ≡ [] → (steps : List RecoveryStep) (recovery : RecoveryView) → StepsLead first steps recovery → HasDone recovery steps recovery.stage
what_was_done first begins none [] recovery is =
    subst (λ (r : RecoveryView). HasDone r [] r.stage) (sym is) (subst (HasDone first []) (sym begins) (none, refl))
what_was_done first begins none (step ∷ steps) recovery (old, led, went) =
    goes old steps step recovery old.stage refl (what_was_done first begins none steps old led) step.arrived refl step.done refl went
