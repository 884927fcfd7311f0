use Rattle.std.proofs.Common.{ℕ, ◌+◌, ◌*◌, ◌∙◌, ap, arith, sym, subst}
use Rattle.bx_layout.specs.declared.block.Block.{Block}
use Rattle.bx_layout.specs.Blocks.{HasParts}
use Rattle.bx_format.specs.Formats.{areas_truth, with_chunk}
use Rattle.bx_format.proofs.Made.{one_area, own_parts, same_blocks}
use Rattle.bx_format.proofs.Spared.{spares_then}
use Rattle.bx_format.specs.Moments.{IsLabelSector}
use Rattle.bx_format.proofs.homes.write_areas.Goals as goal

pub put_home-requires-clause-parts : goal.put_home-requires-clause-parts
put_home-requires-clause-parts g c = subst HasParts (sym c.in_ok-block.ensures) (own_parts c.args.areas c.loop-area.area c.requires.volume.most_areas (omega arith))

pub loop-area-preserved : goal.loop-area-preserved
loop-area-preserved g c =
    record {
      blocks = λ tells holds.
          let told = c.loop-area.invariant.rack.keeps_telling tells in
          same_blocks _ c.args.devices c.args.areas _ (areas_truth (c.loop-area.area + 1)) (c.in_ok-put_home.ensures.puts (areas_truth c.loop-area.area) told (c.loop-area.invariant.blocks tells holds))
          (λ at is.
          ap (λ (n : ℕ). with_chunk (areas_truth c.loop-area.area) (1024 * n + 960) c.in_ok-block.block at) c.from.ensures
          ∙ ap (λ (block : Block). with_chunk (areas_truth c.loop-area.area) (1024 * c.loop-area.area + 960) block at) c.in_ok-block.ensures ∙ one_area c.loop-area.area at);
      front = λ tells.
          let first = c.loop-area.invariant.front tells in
          let next = c.put_home.ensures.front (c.loop-area.invariant.rack.keeps_telling tells) in
          record { reads = λ d s less. next.reads d s less ∙ first.reads d s less };
      spares = λ tells. spares_then IsLabelSector _ _ _ _ _ _ _ _ _ (c.loop-area.invariant.spares tells) (c.put_home.ensures.spares (c.loop-area.invariant.rack.keeps_telling tells));
      rack = grind arith;
    }

pub returns-in_err-put_home-clause-spares : goal.returns-in_err-put_home-clause-spares
returns-in_err-put_home-clause-spares g c = λ tells. spares_then IsLabelSector _ _ _ _ _ _ _ _ _ (c.loop-area.invariant.spares tells) (c.put_home.ensures.spares (c.loop-area.invariant.rack.keeps_telling tells))

pub returns-in_err-block-clause-spares : goal.returns-in_err-block-clause-spares
returns-in_err-block-clause-spares g c = c.loop-area.invariant.spares

pub returns-clause-spares : goal.returns-clause-spares
returns-clause-spares g c = c.loop-area.invariant.spares
