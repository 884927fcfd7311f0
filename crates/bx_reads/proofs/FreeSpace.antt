-- How many blocks are free, and what STATFS is answered.
use Rattle.std.proofs.Common.{◌≡◌, ℕ, zero, suc, ◌*◌, ◌≤◌, arith, List, refl, sym, ap, ◌∙◌, inl, inr}
use Rattle.std.specs.Prelude.{Result, Ok, Err}
use Rattle.std.proofs.lemmas.List.Sums.{count_by-le-length}
use Rattle.bx_files.specs.bx_chunks.specs.Counting.{HasFreeCount, HoldsFree, LacksArea, Sums}
use Rattle.bx_files.specs.bx_inodes.specs.declared.stop.Stop.{Stop}
use Rattle.bx_files.specs.bx_inodes.specs.declared.stop.Stop.TheVariants.{Need, Inner, Status, OutOfMemory}
use Rattle.bx_files.specs.bx_inodes.specs.Stops.{NeedsOn, OnInode}
use Rattle.bx_base.specs.declared.names.Mode.TheVariants.{Shared}
use Rattle.bx_layout.specs.Areas.{is_free}
use Rattle.bx_layout.specs.declared.inode.Inode.{Inode}
use Rattle.bx_model.specs.declared.reply.Reply.{Reply}
use Rattle.bx_model.specs.declared.reply.Reply.TheVariants.{Space}
use Rattle.bx_model.specs.declared.tree.Tree.{Tree}
use Rattle.bx_model.specs.Steps.{Outcome}
use Rattle.bx_tree_files.specs.declared.file.File.{File}
use Rattle.bx_views.specs.Truths.{Held, Truth}
use Rattle.bx_reads.specs.Files.{IsNamed, NamesFile}
use Rattle.bx_reads.specs.Space.{IsOwnOf, IsSpace, IsSpaceOf, OnSpace, space_words}
use Rattle.bx_reads.proofs.Told.{told}

-- an area has at most 960 free slots
area_most : (held : Held) (area count : ℕ) → HoldsFree held area count → count ≤ 960
area_most held area count holds = by holds.counts
  where
    by : HasFreeCount area holds.block count → count ≤ 960
    by (inl counted) = let most = count_by-le-length is_free counted.0.words in omega (arith, most, counted.2, counted.1.spells.is.words)
    by (inr none) = omega (arith, none.1)

sums_most : (Is : ℕ → ℕ → Type 0) (n total : ℕ) → ((i last : ℕ) → Is i last → last ≤ 960) → Sums Is n total → total ≤ 960 * n
unfolding Sums
sums_most Is zero total each sums = omega (arith, sums)
sums_most Is (suc n) total each sums =
    let rest = sums_most Is n sums.0 each sums.2 in
    let last = each n sums.1 sums.3 in
    omega (arith, rest, last, sums.4)

-- at most 61440 slots of 64 areas are free
pub free_most : (held : Held) (areas count : ℕ) → areas ≤ 64 → Sums (HoldsFree held) areas count → count ≤ 61440
free_most held areas count few sums =
    let most = sums_most (HoldsFree held) areas count (area_most held) sums in
    omega (arith, most, few)

-- the own block that isn't held
pub lacks_own : (held : Held) (areas at : ℕ) → LacksArea held areas at → IsOwnOf areas at Shared
lacks_own held areas at lacks = record { area = lacks.area; there = lacks.there; at_is = lacks.at_is; mode_is = refl }

module _ (held : Held) (volume areas : ℕ) (bytes : List ℕ) where
  pub by_inode : (stop : Stop) → NeedsOn areas held (OnInode volume bytes Shared) {T = ℕ × Inode} (Err stop) → NeedsOn areas held (OnSpace volume areas bytes) {T = Reply × ℕ} (Err stop)
  by_inode (Need at mode) needs = (needs.0, needs.1, inl needs.2)
  by_inode (Inner blocks) needs = tt
  by_inode (Status status) needs = tt
  by_inode OutOfMemory needs = tt

  pub by_areas : (result : Result (Reply × ℕ) Stop) → NeedsOn areas held (IsOwnOf areas) result → NeedsOn areas held (OnSpace volume areas bytes) result
  by_areas (Ok found) needs = tt
  by_areas (Err (Need at mode)) needs = (needs.0, needs.1, inr needs.2)
  by_areas (Err (Inner blocks)) needs = tt
  by_areas (Err (Status status)) needs = tt
  by_areas (Err OutOfMemory) needs = tt

-- what STATFS does with a file
abbrev spaced : Tree → ℕ → File → Outcome
spaced tree spare file = Ok (Space (space_words tree.areas spare), tree)

module _ (tree : Tree) (bytes : List ℕ) (free : ℕ) where
  pub stopped_space : (areas : ℕ) (truth : Truth) (stop : Stop) → NamesFile areas truth tree bytes (Err stop) → IsSpace tree free bytes (Err stop)
  stopped_space areas truth (Status status) (code, none) = λ spare. ap (told tree bytes (spaced tree spare)) none ∙ ap Err (sym code)
  stopped_space areas truth (Need at mode) f = tt
  stopped_space areas truth (Inner blocks) never = never
  stopped_space areas truth OutOfMemory f = tt

  module _ (areas handle : ℕ) (truth : Truth) (inode : Inode) (same : tree.areas ≡ areas) (is : IsNamed areas truth tree bytes handle inode) where
    pub space_told : (result : Result (Reply × ℕ) Stop) → IsSpaceOf areas free result → IsSpace tree free bytes result
    space_told (Ok found) (reply_is, free_is) =
        (free_is, ap (told tree bytes (spaced tree free)) is.there ∙ (λ i. Ok (Space (space_words (same i) free), tree)) ∙ ap (λ (r : Reply). Ok (r, tree)) (sym reply_is))
    space_told (Err (Need at mode)) s = tt
    space_told (Err (Inner blocks)) never = never
    space_told (Err (Status status)) never = absurd never
    space_told (Err OutOfMemory) s = tt
