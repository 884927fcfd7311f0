use Rattle.std.proofs.Common.{◌≡◌, Ok, Err, sym, subst}
use Rattle.std.specs.Prelude.{OnOk, OnErr}
use Rattle.bx_records.specs.Drafts.{with_block}
use Rattle.bx_redo.specs.Steps.{AreBlocksOf}
use Rattle.bx_redo.proofs.Drafted.{blocks_with}
use Rattle.bx_tests_bench.proofs.drafts.puts.Goals as goal

pub returns : goal.returns
returns c = (elim c.put.result as (λ r. OnOk r (c.put.new.self ≡ with_block c.args.draft.now c.args.at c.args.block) → OnErr r (c.put.new.self ≡ c.args.draft.now) → AreBlocksOf 64 c.put.new.self) [
  | Ok x ↦ λ ok err. subst (AreBlocksOf 64) (sym ok) (blocks_with c.args.at c.args.block 64 c.args.draft.now c.requires.number c.requires.block c.requires.are)
  | Err e ↦ λ ok err. subst (AreBlocksOf 64) (sym err) c.requires.are
]) c.put.ensures.ok c.put.ensures.err
