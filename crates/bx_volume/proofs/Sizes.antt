-- How long blocks and records are.
use Rattle.std.proofs.Common.{◌≡◌, ℕ, ◌+◌, ◌*◌, ◌/◌, ◌<◌, ◌≤◌, arith, List, [], ◌∷◌, ◌++◌, length, ◌∙◌, refl}
use Rattle.std.specs.List.{flat_map, AllByRecursion}
use Rattle.std.specs.Int.{w32, w64, to_be_bytes}
use Rattle.std.proofs.lemmas.List.{length-append}
use Rattle.bx_base.specs.Writing.{padded}
use Rattle.bx_base.proofs.Whole.{length-padded}
use Rattle.bx_layout.specs.declared.block.Block.{Block}
use Rattle.bx_layout.specs.Blocks.{HasParts, block_text}
use Rattle.bx_truth.specs.bx_records.specs.Drafts.{Changed}
use Rattle.bx_places.specs.Places.{IsBlock}
use Rattle.bx_truth.specs.bx_records.specs.Records.{head_text}
use Rattle.bx_truth.specs.bx_records.proofs.HeadFields.{length-head_text}
use Rattle.bx_truth.proofs.Cases.{eq_true, eq_false}
use Rattle.bx_volume.specs.Overlay.{filled_of}
use Rattle.bx_volume.specs.Records.{Logged, IsLogged, logged_text}

pub joined : (front back : List ℕ) (n m : ℕ) → length front ≡ n → length back ≡ m → length (front ++ back) ≡ n + m
joined front back n m one other = length-append front back ∙ omega (arith, one, other)

-- the bytes of a block
pub block_bytes : (block : Block) → HasParts block → length (block_text block) ≡ 4608
block_bytes block is =
    joined (padded 512 (to_be_bytes w64 block.handle ++ to_be_bytes w32 block.kind)) block.payload 512 4096
    (length-padded 512 (to_be_bytes w64 block.handle ++ to_be_bytes w32 block.kind) (omega arith)) is.payload

pub length-block_text : (block : Block) → HasParts block → length (block_text block) / 512 ≡ 9
length-block_text block is = omega (arith, block_bytes block is)

pub changed_bytes : (areas : ℕ) (changed : List Changed) → AllByRecursion (λ change. IsBlock areas change.0 × HasParts change.1) changed
    → length (flat_map (λ (change : Changed). block_text change.1) changed) ≡ 4608 * length changed
changed_bytes areas [] all = refl
changed_bytes areas (change ∷ changed) all =
    length-append (block_text change.1) (flat_map (λ (change : Changed). block_text change.1) changed) ∙ omega (arith, block_bytes change.1 all.0.1, changed_bytes areas changed all.1)

pub head_long : (areas : ℕ) (logged : Logged) → IsLogged areas logged → length (padded 512 (head_text logged.head)) ≡ 512
head_long areas logged is = length-padded 512 (head_text logged.head) (omega (arith, length-head_text logged.head, is.is_head.count))

-- the bytes of a record
pub logged_bytes : (areas : ℕ) (logged : Logged) → IsLogged areas logged → length (logged_text logged) ≡ 512 + 4608 * length logged.changed
logged_bytes areas logged is =
    joined (padded 512 (head_text logged.head)) (flat_map (λ (change : Changed). block_text change.1) logged.changed) 512 (4608 * length logged.changed)
    (head_long areas logged is) (changed_bytes areas logged.changed is.blocks)

pub logged_sectors : (areas : ℕ) (logged : Logged) → IsLogged areas logged → length (logged_text logged) / 512 ≤ 145
logged_sectors areas logged is = few (length (logged_text logged)) (length logged.changed) (logged_bytes areas logged is) is.draft.most
  where
    few : (n k : ℕ) → n ≡ 512 + 4608 * k → k ≤ 16 → n / 512 ≤ 145
    few n k is le = omega arith

-- it has a first sector
pub first_fits : (areas : ℕ) (logged : Logged) → IsLogged areas logged → 0 < length (logged_text logged) / 512
first_fits areas logged is = more (length (logged_text logged)) (length logged.changed) (logged_bytes areas logged is)
  where
    more : (n k : ℕ) → n ≡ 512 + 4608 * k → 0 < n / 512
    more n k is = omega arith

-- how many sectors it has
pub whole_sectors : (areas : ℕ) (logged : Logged) → IsLogged areas logged → length (logged_text logged) ≡ 512 * (1 + 9 * length logged.changed)
whole_sectors areas logged is = times (length (logged_text logged)) (length logged.changed) (logged_bytes areas logged is)
  where
    times : (n k : ℕ) → n ≡ 512 + 4608 * k → n ≡ 512 * (1 + 9 * k)
    times n k is = omega arith

-- what the records fill of a body stays when one comes in front, and that one fills its own
pub filled_below : (older : List Logged) (newest : Logged) (body : ℕ) → body < length older → filled_of (newest ∷ older) body ≡ filled_of older body
filled_below older newest body less = rw (eq_false body (length older) (λ e. omega (arith, e, less))) refl

pub filled_there : (older : List Logged) (newest : Logged) (body : ℕ) → body ≡ length older → filled_of (newest ∷ older) body ≡ length (logged_text newest) / 512
filled_there older newest body same = rw (eq_true body (length older) same) refl
