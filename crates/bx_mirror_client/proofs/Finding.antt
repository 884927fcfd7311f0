-- Runs on a device, looked for one after the other.
use Rattle.std.proofs.Common.{◌≡◌, ◌≢◌, ℕ, ◌+◌, Bool, true, false, List, take, Some, ap, ◌∙◌, arith}
use Rattle.std.specs.Prelude.{◌==◌, ◌||◌, slice_get, slice_index_or}
use Rattle.std.proofs.lemmas.Bool.Decides.{nat_tests}
use Rattle.std.proofs.lemmas.List.Folds.{list_any_at, list_any_more}
use Rattle.std.proofs.lemmas.Option.{get_or_from_slice_get, slice_get_within}
use Rattle.bx_records.specs.declared.runs.Run.{Run}
use Rattle.bx_mirror_client.specs.Sends.{has_runs}

abbrev is_on : ℕ → Run → Bool
is_on device run = run.device == device

pub found_on : (device i : ℕ) (runs : List Run) (run : Run) → slice_get runs i ≡ Some run → run.device ≡ device → has_runs device runs ≡ true
found_on device i runs run here on =
    let is : is_on device run ≡ true = grind (arith, nat_tests, on) in
    list_any_at (is_on device) runs i run (slice_get_within runs i run here) (ap (is_on device) (get_or_from_slice_get runs i run run here) ∙ is)

pub none_more : (device i : ℕ) (runs : List Run) (run : Run) → slice_get runs i ≡ Some run → run.device ≢ device → has_runs device (take i runs) ≡ false → has_runs device (take (i + 1) runs) ≡ false
none_more device i runs run here off none =
    let is : is_on device run ≡ false = grind (arith, nat_tests, off) in
    list_any_more (is_on device) runs i run (slice_get_within runs i run here)
    ∙ ap (λ (b : Bool). b || is_on device (slice_index_or runs i run)) none
    ∙ (ap (is_on device) (get_or_from_slice_get runs i run run here) ∙ is)
