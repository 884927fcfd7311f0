-- What is left of the packets between two turns.
use Rattle.std.proofs.Common.{◌≡◌, List, [], ◌∷◌, Bool, true, false, ◌&&◌, not, filter, refl, ap, sym, ◌∙◌}
use Rattle.std.specs.Prelude.{if◌then◌else◌, cond}
use Rattle.bx_driver.specs.Drops.{dropped_by, to_down}
use Rattle.bx_post.specs.Posts.{Posted, is_waiting}
use Rattle.bx_world_events.specs.Refusals.{Seen}
use Rattle.bx_host.specs.Turns.{may_come}

-- dropping those to machines that are down, and forgetting what isn't pending, leaves those that may come
pub kept : (seen : Seen) (all : List Posted) → filter is_waiting (dropped_by (to_down seen.down) all) ≡ filter (may_come seen) all
kept seen [] = refl
kept seen (one ∷ rest) = by_test (kept seen rest) (seen.down one.letter.to) refl one.waits refl
  where
    by_test : filter is_waiting (dropped_by (to_down seen.down) rest) ≡ filter (may_come seen) rest → (d : Bool) → seen.down one.letter.to ≡ d → (w : Bool) → one.waits ≡ w → filter is_waiting (dropped_by (to_down seen.down) (one ∷ rest)) ≡ filter (may_come seen) (one ∷ rest)
    by_test more true down true waits =
        ap (λ b. filter is_waiting ((if b then record one { waits = false } else one) ∷ dropped_by (to_down seen.down) rest)) down ∙ more
        ∙ sym (ap (λ b. cond (one.waits && not b) (one ∷ filter (may_come seen) rest) (filter (may_come seen) rest)) down ∙ ap (λ b. cond (b && false) (one ∷ filter (may_come seen) rest) (filter (may_come seen) rest)) waits)
    by_test more true down false waits =
        ap (λ b. filter is_waiting ((if b then record one { waits = false } else one) ∷ dropped_by (to_down seen.down) rest)) down ∙ more
        ∙ sym (ap (λ b. cond (b && not (seen.down one.letter.to)) (one ∷ filter (may_come seen) rest) (filter (may_come seen) rest)) waits)
    by_test more false down true waits =
        ap (λ b. filter is_waiting ((if b then record one { waits = false } else one) ∷ dropped_by (to_down seen.down) rest)) down
        ∙ ap (λ b. cond b (one ∷ filter is_waiting (dropped_by (to_down seen.down) rest)) (filter is_waiting (dropped_by (to_down seen.down) rest))) waits
        ∙ ap (λ (l : List Posted). one ∷ l) more
        ∙ sym (ap (λ b. cond (b && not (seen.down one.letter.to)) (one ∷ filter (may_come seen) rest) (filter (may_come seen) rest)) waits ∙ ap (λ b. cond (not b) (one ∷ filter (may_come seen) rest) (filter (may_come seen) rest)) down)
    by_test more false down false waits =
        ap (λ b. filter is_waiting ((if b then record one { waits = false } else one) ∷ dropped_by (to_down seen.down) rest)) down
        ∙ ap (λ b. cond b (one ∷ filter is_waiting (dropped_by (to_down seen.down) rest)) (filter is_waiting (dropped_by (to_down seen.down) rest))) waits
        ∙ more
        ∙ sym (ap (λ b. cond (b && not (seen.down one.letter.to)) (one ∷ filter (may_come seen) rest) (filter (may_come seen) rest)) waits)
