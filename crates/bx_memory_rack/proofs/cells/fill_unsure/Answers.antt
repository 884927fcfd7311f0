use Rattle.std.proofs.Common.{◌≡◌, refl, rules, ap, ◌∙◌}
use Rattle.bx_disk.specs.Crash.{seeded, noise_at}
use Rattle.bx_memory_rack.specs.Cells.{cell_at, is_unsure, left_cell}
use Rattle.rand_pcg.specs.Lcg.{Lcg}
use Rattle.bx_memory_rack.specs.contracts.cells.fn.fill_unsure.retain as closure
use Rattle.bx_memory_rack.proofs.Passes.{cells_filled}
use Rattle.bx_memory_rack.proofs.cells.fill_unsure.Goals as goal

pub returns : goal.returns
unfolding seeded
returns c = λ s.
    cells_filled _ (λ f. (closure.captures f).synced ≡ c.args.synced) (λ f. (closure.captures f).generator) c.args.synced
    (λ f k v b w f' i t. search rules) _ refl c.args.cells.now c.retain.new.self c.retain.ensures.was_ordered c.retain.ensures.filtered s
    ∙ ap (λ (g : Lcg). left_cell c.args.synced (cell_at c.args.cells.now s) (noise_at (λ t. is_unsure c.args.synced (cell_at c.args.cells.now t)) g s)) c.seed_from_u64-generator.ensures
