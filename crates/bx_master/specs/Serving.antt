-- How the wants that wait are served without a look at the others: each that is concerned is tried, and goes unless it must wait on.
use Rattle.std.specs.Prelude.{ℕ, filter, List, [], ◌∷◌, Option}
use Rattle.bx_global.specs.declared.state.GlobalState.{GlobalState}
use Rattle.bx_lock_words.specs.declared.words.Want.{Want}
use Rattle.bx_lock_words.specs.declared.words.Word.TheVariants.{Grants}
use Rattle.bx_lock_tables.specs.Queue.{without}
use Rattle.bx_lock_tables.specs.declared.verdict.Verdict.{Verdict}
use Rattle.bx_lock_tables.specs.declared.verdict.Verdict.TheVariants as verdicts
use Rattle.bx_master.specs.Events.{concerns, grant_of, verdict_on}
use Rattle.bx_master.specs.Masters.{Mastering, Served, both, listing}

-- those of all blocks, or of one
abbrev pub concerned : Option ℕ → List Want → List Want
concerned only waiting = filter (λ w. concerns only w.block) waiting

abbrev pub settled : Verdict → Want → Mastering → Served
settled verdicts.Refuses w m = (record m { waiting = without w m.waiting }, [])
settled verdicts.Waits w m = (m, [])
settled (verdicts.Grants row) w m = (record (listing w row m) { waiting = without w m.waiting }, Grants (grant_of w.block row) ∷ [])

abbrev pub settling_one : GlobalState → ℕ → Want → Mastering → Served
settling_one known reading w m = settled (verdict_on known reading w m) w m

abbrev pub settling : GlobalState → ℕ → List Want → Mastering → Served
settling known reading [] m = (m, [])
settling known reading (w ∷ ws) m = both (settling_one known reading w) (settling known reading ws) m
