-- Headers of records, and drafts that may be logged.
use Rattle.std.proofs.Common.{◌≡◌, ℕ, ◌<◌, ◌^◌, List, [], ◌∷◌, Some, None, refl, sym, ◌∙◌, ap, arith, false}
use Rattle.std.specs.Prelude.{map, ◌==◌}
use Rattle.std.specs.List.{AllByRecursion, IsDistinct}
use Rattle.std.proofs.lemmas.List.{length-map}
use Rattle.bx_base.specs.declared.names.Point.{Point}
use Rattle.bx_layout.specs.declared.block.Block.{Block}
use Rattle.bx_layout.specs.Blocks.{HasParts}
use Rattle.bx_places.specs.Places.{IsBlock}
use Rattle.bx_records.specs.Drafts.{Changed, IsDraft, block_in, same_number}
use Rattle.bx_volume.specs.bx_truth.proofs.Cases.{eq_true, eq_false}
use Rattle.bx_volume.specs.Records.{IsLogged}
use Rattle.bx_redo.specs.Steps.{AreBlocksOf, record_of}

-- the numbers of the blocks of a volume are theirs
pub numbers_of : (areas : ℕ) (changed : List Changed) → AllByRecursion (λ change. IsBlock areas change.0 × HasParts change.1) changed
    → AllByRecursion (IsBlock areas) (map (λ (change : Changed). change.0) changed)
numbers_of areas [] all = tt
numbers_of areas (change ∷ changed) all = (all.0.0, numbers_of areas changed all.1)

pub parts_of : (areas : ℕ) (changed : List Changed) → AllByRecursion (λ change. IsBlock areas change.0 × HasParts change.1) changed
    → AllByRecursion (λ (change : Changed). HasParts change.1) changed
parts_of areas [] all = tt
parts_of areas (change ∷ changed) all = (all.0.1, parts_of areas changed all.1)

-- a number that none has
absent : (n : ℕ) (changed : List Changed) → AllByRecursion (λ (y : Changed). (n == y.0) ≡ false) changed → block_in changed n ≡ None
absent n [] all = refl
absent n (y ∷ changed) all = rw (eq_false y.0 n (λ e. let t = eq_true n y.0 (sym e) in let f = all.0 in absurd cc)) (absent n changed all.1)

-- what holds of each block by its number holds of each in the list
each_of : (P : ℕ → Block → Type 0) (changed : List Changed) → IsDistinct same_number changed
    → ((at : ℕ) (block : Block) → block_in changed at ≡ Some block → P at block) → AllByRecursion (λ (change : Changed). P change.0 change.1) changed
unfolding IsDistinct
each_of P [] apart each = tt
each_of P (x ∷ changed) apart each = (
  each x.0 x.1 (rw (eq_true x.0 x.0 refl) refl),
  each_of P changed apart.1 (λ at block is. each at block (rw (eq_false x.0 at (λ e. let none = absent x.0 changed apart.0 in let some = ap (block_in changed) e ∙ is in absurd cc)) is)),
)

pub all_of : (areas : ℕ) (changed : List Changed) → IsDraft changed → AreBlocksOf areas changed
    → AllByRecursion (λ (change : Changed). IsBlock areas change.0 × HasParts change.1) changed
all_of areas changed is each = each_of (λ at block. IsBlock areas at × HasParts block) changed is.apart each

-- its record is one of the volume
pub is_logged : (areas : ℕ) (point : Point) (changed : List Changed) → point.call < 2 ^ 64 → point.moment < 2 ^ 64 → point.spare < 2 ^ 64 → point.made < 2 ^ 64
    → IsDraft changed → AreBlocksOf 64 changed → AreBlocksOf areas changed → IsLogged areas (record_of point changed)
is_logged areas point changed call moment spare made is some each = record {
  is_head = record {
    call = call;
    moment = moment;
    spare = spare;
    made = made;
    count = omega (arith, length-map changed (λ (change : Changed). change.0), is.most);
    each = numbers_of 64 changed (all_of 64 changed is some);
  };
  numbers = refl;
  draft = is;
  blocks = all_of areas changed is each;
}
