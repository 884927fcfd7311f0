-- What is read with a draft of nothing is held.
use Rattle.std.proofs.Common.{◌≡◌, ℕ, List, [], Option, Some, ap, subst}
use Rattle.std.specs.Prelude.{IsSome, is_some}
use Rattle.std.specs.Option.{option_or}
use Rattle.bx_base.specs.declared.names.Mode.TheVariants.{Exclusive}
use Rattle.bx_reads.specs.bx_blink.specs.Walks.{reads_with}
use Rattle.bx_reads.specs.bx_inodes.specs.Inodes.{LiveAt}
use Rattle.bx_layout.specs.declared.block.Block.{Block}
use Rattle.bx_layout.specs.declared.inode.Inode.{Inode}
use Rattle.bx_records.specs.Drafts.{Changed, block_in}
use Rattle.bx_reads.specs.bx_truth.specs.Chunks.{block_at}
use Rattle.bx_views.specs.Truths.{Held, Hints}

pub live_held : (held : Held) (hints : Hints) (draft : List Changed) (areas handle : ℕ) (inode : Inode) → draft ≡ [] → LiveAt (reads_with held hints draft) areas handle Exclusive inode → IsSome (held (block_at handle) Exclusive)
live_held held hints draft areas handle inode none live =
    let there : held (block_at handle) Exclusive ≡ Some live.block =
    subst (λ (d : List Changed). option_or (block_in d (block_at handle)) (held (block_at handle) Exclusive) ≡ Some live.block) none live.there in
    ap (λ (o : Option Block). is_some o) there
