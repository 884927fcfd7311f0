-- What is found in areas, one after the other.
use Rattle.std.proofs.Common.{◌≡◌, ℕ, ◌+◌, ◌*◌, ◌<◌, ◌≤◌, ◌⊎◌, inl, inr, arith, List, Option, Some, Ok, refl, sym, ap, subst, ◌∙◌}
use Rattle.std.specs.Prelude.{option_map, unwrap_or}
use Rattle.bx_base.specs.declared.names.Mode.TheVariants.{Shared}
use Rattle.bx_layout.specs.declared.block.Block.{Block}
use Rattle.bx_records.specs.Drafts.{Changed, block_in}
use Rattle.bx_truth.specs.Chunks.{own_block}
use Rattle.bx_truth.specs.bx_views.specs.Truths.{Held}
use Rattle.bx_chunks.specs.Allocating.{PassesFull}
use Rattle.bx_chunks.specs.Areas.{IsFull, area_in_turn, seen_in}
use Rattle.bx_chunks.specs.Choosing.{LooksAt, LooksIn}
use Rattle.bx_chunks.specs.Counting.{HoldsFree, Sums}
use Rattle.bx_chunks.specs.declared.allocating.Found.{Found}
use Rattle.bx_chunks.specs.declared.allocating.Found.TheVariants.{Free, NoneFree}
use Rattle.bx_chunks.proofs.Sums.{sums_more, sums_none}

pub seen_is : (held : Held) (draft : List Changed) (at : ℕ) (block seen : Block) → held at Shared ≡ Some block → unwrap_or (block_in draft at) block ≡ seen → seen_in held draft at Shared ≡ Some seen
seen_is held draft at block seen there is = ap (λ (o : Option Block). option_map (unwrap_or (block_in draft at)) o) there ∙ ap Some is

pub looks_at : (held : Held) (draft : List Changed) (area : ℕ) (block seen : Block) (found : Found) → held (own_block area) Shared ≡ Some block → unwrap_or (block_in draft (own_block area)) block ≡ seen
    → LooksIn area seen block found → LooksAt held draft area (Ok found)
looks_at held draft area block seen (Free slots slot) there is looks =
    record { block = seen; there = seen_is held draft (own_block area) block seen there is; has = looks.0; lowest = looks.1 }
looks_at held draft area block seen (NoneFree count) there is looks = (
  record { block = seen; there = seen_is held draft (own_block area) block seen there is; none = looks.0 },
  record { block = block; there = there; counts = looks.1 },
  looks.2,
)

-- the areas in turn so far are held and full, and so many slots of them are free in the view
pub record IsSoFar (held : Held) (draft : List Changed) (near areas turn spare : ℕ) : Type 0 where
  pub passes : PassesFull held draft near areas turn
  pub sums : Sums (λ turn. HoldsFree held (area_in_turn near areas turn)) turn spare
  pub most : spare ≤ 960 * turn

pub passes_more : (held : Held) (draft : List Changed) (near areas turn next spare count : ℕ) → next ≡ turn + 1 → IsSoFar held draft near areas turn spare
    → IsFull held draft (area_in_turn near areas turn) → HoldsFree held (area_in_turn near areas turn) count → count ≤ 960 → IsSoFar held draft near areas next (spare + count)
passes_more held draft near areas turn next spare count e so_far full free most = record {
  passes = λ i less. by i (before i less);
  sums = sums_more (λ t. HoldsFree held (area_in_turn near areas t)) turn next spare count e so_far.sums free;
  most = let m = so_far.most in omega (arith, e, m, most);
}
  where
    before : (i : ℕ) → i < next → (i < turn) ⊎ (i ≡ turn)
    before i less = grind (arith, e, less)

    by : (i : ℕ) → (i < turn) ⊎ (i ≡ turn) → IsFull held draft (area_in_turn near areas i)
    by i (inl less) = so_far.passes i less
    by i (inr same) = subst (λ (t : ℕ). IsFull held draft (area_in_turn near areas t)) (sym same) full

pub none_so_far : (held : Held) (draft : List Changed) (near areas : ℕ) → IsSoFar held draft near areas 0 0
none_so_far held draft near areas = record { passes = λ turn less. absurd (omega (arith, less)); sums = sums_none (λ turn. HoldsFree held (area_in_turn near areas turn)); most = omega arith }

pub so_far_more : (held : Held) (draft : List Changed) (near areas turn spare count area : ℕ) → area ≡ area_in_turn near areas turn → IsSoFar held draft near areas turn spare
    → LooksAt held draft area (Ok (NoneFree count)) → IsSoFar held draft near areas (turn + 1) (spare + count)
so_far_more held draft near areas turn spare count area e so_far looks =
    passes_more held draft near areas turn (turn + 1) spare count refl so_far (subst (IsFull held draft) e looks.0) (subst (λ (a : ℕ). HoldsFree held a count) e looks.1) looks.2
