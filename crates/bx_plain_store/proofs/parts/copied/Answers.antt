use Rattle.std.proofs.Common.{◌∙◌, ◌∷◌, ◌++◌, ℕ, [], List, get_or, sym, ap}
use Rattle.std.proofs.lemmas.List.{take_more}
use Rattle.std.proofs.lemmas.Option.{get_or_from_slice_get, slice_get_within}
use Rattle.bx_records.specs.declared.runs.Run.{Run}
use Rattle.bx_plain_store.proofs.parts.copied.Goals as goal

pub loop-i-preserved : goal.loop-i-preserved
loop-i-preserved c =
    let runs = c.args.runs.now.1 in
    let i = c.loop-i.i in
    let run = c.in-Some.run'.now in
    let here = sym c.in-Some.ensures in
    let bytes = c.in_ok-of.ensures ∙ c.bytes.ensures in
    let same = ap (λ (b : List ℕ). let r : Run = record { device = run.device; place = run.place; bytes = b } in r) bytes in
    let got = get_or_from_slice_get runs i run run here in
    c.in_ok-push.ensures.ok ∙ ap (λ (r : Run). c.loop-i.copy ++ r ∷ []) (same ∙ sym got) ∙ ap (λ (rs : List Run). rs ++ get_or runs i run ∷ []) c.loop-i.invariant
    ∙ sym (take_more runs i run (slice_get_within runs i run here))
