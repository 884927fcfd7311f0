use Rattle.std.proofs.Common.{rules}
use Rattle.bx_memory_rack.specs.Cells.{blank_cell, left_cell}
use Rattle.bx_memory_rack.specs.declared.cell.Cell.{Cell}
use Rattle.bx_memory_rack.proofs.Passes.{cells_mapped, blank_left}
use Rattle.bx_memory_rack.proofs.cells.drop_unsure.Goals as goal

pub returns : goal.returns
returns c =
    cells_mapped _ (λ (cell : Cell). left_cell c.args.synced cell cell.held) _ (λ k v b w f' t. search rules) (blank_left c.args.synced blank_cell.held)
    c.args.cells.now c.retain.new.self c.retain.ensures.filtered
