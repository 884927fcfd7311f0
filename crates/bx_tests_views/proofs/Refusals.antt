-- A leaf that refused an entry over an empty draft may be split.
use Rattle.std.proofs.Common.{◌≡◌, ℕ, ◌+◌, ◌<◌, ◌≤◌, List, [], length, Some, subst, ◌∙◌}
use Rattle.std.specs.Prelude.{Result, Err, OnErr}
use Rattle.bx_base.specs.declared.names.Mode.TheVariants.{Shared, Exclusive}
use Rattle.bx_layout.specs.declared.block.Block.{Block}
use Rattle.bx_records.specs.Drafts.{Changed}
use Rattle.bx_page.specs.Contents.{Contents, size}
use Rattle.bx_views.specs.Truths.{Held, Hints}
use Rattle.bx_blink.specs.declared.error.BlinkError.{BlinkError}
use Rattle.bx_blink.specs.declared.error.BlinkError.TheVariants.{NoRoom}
use Rattle.bx_blink.specs.Walks.{reads_with}
use Rattle.bx_leaves.specs.Leaves.{RefusesEntry, InsertsAt}
use Rattle.bx_splits.specs.Cutting.{IsOwnPage}
use Rattle.bx_splits.proofs.Refused.{refused_full}

pub may_split : (held : Held) (hints : Hints) (old new : List Changed) (root : ℕ) (key value : List ℕ) (leaf : ℕ) (result : Result Unit BlinkError) → ((at : ℕ) (block : Block) → held at Exclusive ≡ Some block → held at Shared ≡ Some block) → old ≡ []
    → length key + length value ≤ 268 → OnErr result (new ≡ old) → InsertsAt held hints old new root key value result → result ≡ Err (NoRoom leaf)
    → (contents : Contents) → IsOwnPage (reads_with held hints new) leaf contents → 4096 < size contents + 544
may_split held hints old new root key value leaf result shares none both unchanged ends is contents owned_page =
    let stays : new ≡ old = subst (λ (r : Result Unit BlinkError). OnErr r (new ≡ old)) is unchanged in
    let refused : RefusesEntry held (reads_with held hints old) root key value leaf = subst (λ (r : Result Unit BlinkError). InsertsAt held hints old new root key value r) is ends in
    refused_full held hints root key value leaf shares both (subst (λ (d : List Changed). RefusesEntry held (reads_with held hints d) root key value leaf) none refused) contents
    (subst (λ (d : List Changed). IsOwnPage (reads_with held hints d) leaf contents) (stays ∙ none) owned_page)
