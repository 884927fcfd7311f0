-- The wants that wait are served in their order: it is enough to try those that are concerned.
use Rattle.std.proofs.Common.{◌≡◌, ℕ, true, false, List, [], ◌∷◌, ◌++◌, Option, None, refl, sym, ap, subst, ◌∙◌, append_assoc, append-nil}
use Rattle.bx_global.specs.declared.state.GlobalState.{GlobalState}
use Rattle.bx_lock_words.specs.declared.words.Want.{Want}
use Rattle.bx_lock_words.specs.declared.words.Word.{Word}
use Rattle.bx_lock_words.specs.declared.words.Word.TheVariants.{Grants}
use Rattle.bx_lock_tables.specs.Queue.{AreOnce, is_other, without}
use Rattle.bx_lock_tables.specs.declared.verdict.Verdict.{Verdict}
use Rattle.bx_lock_tables.specs.declared.verdict.Verdict.TheVariants as verdicts
use Rattle.bx_lock_tables.proofs.Waiting.{once_filter, without_one}
use Rattle.bx_master.specs.Events.{concerns, grant_of, served, serving, serving_one, tried, verdict_on}
use Rattle.bx_master.specs.Masters.{Does, Mastering, Served, listing}
use Rattle.bx_master.specs.Serving.{concerned, settled, settling}

-- what a step left, and then another one
abbrev and_on : Served → (Mastering → Served) → Served
and_on first next = ((next first.0).0, first.1 ++ (next first.0).1)

-- what stands behind is served, whatever stands before it
abbrev Serves : GlobalState → ℕ → Option ℕ → List Want → List Want → Mastering → Type 0
Serves known reading only before behind m = serving known reading only behind (record m { waiting = before }) ≡ settling known reading (concerned only behind) (record m { waiting = before ++ behind })

module _ (known : GlobalState) (reading : ℕ) (only : Option ℕ) (before : List Want) (w : Want) (ws : List Want) (m : Mastering) (once : AreOnce (before ++ w ∷ ws)) (again : (front : List Want) (n : Mastering) → AreOnce (front ++ ws) → Serves known reading only front ws n) where
  moved : (before ++ w ∷ []) ++ ws ≡ before ++ w ∷ ws
  moved = append_assoc before (w ∷ []) ws

  goes_on : serving known reading only ws (record m { waiting = before ++ w ∷ [] }) ≡ settling known reading (concerned only ws) (record m { waiting = before ++ w ∷ ws })
  goes_on = again (before ++ w ∷ []) m (subst AreOnce (sym moved) once) ∙ ap (λ (l : List Want). settling known reading (concerned only ws) (record m { waiting = l })) moved

  goes : without w (before ++ w ∷ ws) ≡ before ++ ws
  goes = without_one before w ws once

  left : AreOnce (before ++ ws)
  left = subst AreOnce goes (once_filter (is_other w) (before ++ w ∷ ws) once)

  settled_so : (v : Verdict) → and_on (tried v w (record m { waiting = before })) (serving known reading only ws) ≡ and_on (settled v w (record m { waiting = before ++ w ∷ ws })) (settling known reading (concerned only ws))
  settled_so verdicts.Refuses = again before m left ∙ ap (λ (l : List Want). settling known reading (concerned only ws) (record m { waiting = l })) (sym goes)
  settled_so verdicts.Waits = goes_on
  settled_so (verdicts.Grants row) =
      ap (λ (x : Served). (x.0, Grants (grant_of w.block row) ∷ x.1))
      (again before (listing w row m) left ∙ ap (λ (l : List Want). settling known reading (concerned only ws) (record (listing w row m) { waiting = l })) (sym goes))

  one_more : Serves known reading only before (w ∷ ws) m
  one_more = (elim (concerns only w.block) as (λ b. concerns only w.block ≡ b → Serves known reading only before (w ∷ ws) m) [
    | true ↦ λ t.
        let cut : concerned only (w ∷ ws) ≡ w ∷ concerned only ws = rw t refl in
        let here : serving_one known reading only w (record m { waiting = before }) ≡ tried (verdict_on known reading w m) w (record m { waiting = before }) = rw t refl in
        ap (λ (x : Served). and_on x (serving known reading only ws)) here
        ∙ settled_so (verdict_on known reading w m)
        ∙ ap (λ (l : List Want). settling known reading l (record m { waiting = before ++ w ∷ ws })) (sym cut)
    | false ↦ λ t.
        let cut : concerned only (w ∷ ws) ≡ concerned only ws = rw t refl in
        let here : serving_one known reading only w (record m { waiting = before }) ≡ (record m { waiting = before ++ w ∷ [] }, []) = rw t refl in
        ap (λ (x : Served). and_on x (serving known reading only ws)) here
        ∙ goes_on
        ∙ ap (λ (l : List Want). settling known reading l (record m { waiting = before ++ w ∷ ws })) (sym cut)
  ]) refl

abbrev none : List Word
none = []

serve_is : (known : GlobalState) (reading : ℕ) (only : Option ℕ) (before behind : List Want) (m : Mastering) → AreOnce (before ++ behind) → Serves known reading only before behind m
serve_is known reading only before [] m once = ap (λ (l : List Want). (record m { waiting = l }, none)) (sym (append-nil before))
serve_is known reading only before (w ∷ ws) m once = one_more known reading only before w ws m once (λ front n. serve_is known reading only front ws n)

pub serves : (known : GlobalState) (reading : ℕ) (only : Option ℕ) (wants : List Want) (old new : Mastering) (before after : List Word) → AreOnce old.waiting → wants ≡ concerned only old.waiting → Does (settling known reading wants) old new before after → Does (served known reading only) old new before after
serves known reading only wants old new before after once are did =
    let same : settling known reading wants old ≡ served known reading only old = ap (λ (l : List Want). settling known reading l old) are ∙ sym (serve_is known reading only [] old.waiting old once) in
    record {
      is = did.is ∙ ap (λ (x : Served). x.0) same;
      says = did.says ∙ ap (λ (x : Served). before ++ x.1) same;
    }

pub all_concerned : (waiting : List Want) → concerned None waiting ≡ waiting
all_concerned [] = refl
all_concerned (w ∷ ws) = ap (λ (l : List Want). w ∷ l) (all_concerned ws)
