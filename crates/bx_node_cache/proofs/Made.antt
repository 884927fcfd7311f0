-- Writes of blocks into their homes, one by one; and all blocks home.
use Rattle.std.proofs.Common.{◌≡◌, ◌∙◌, ℕ, Bool, true, List, [], ◌∷◌, ◌++◌, Option, Some, None, IfSome, refl, sym, ap, subst}
use Rattle.std.specs.BTreeMap.{is_at}
use Rattle.std.specs.Map.Calls.{RetainsPairs}
use Rattle.std.specs.Option.{option_map}
use Rattle.std.specs.Ordering.{nat_cmp}
use Rattle.std.proofs.lemmas.Map.Made.{map_same_pairs, lookup-map_values}
use Rattle.std.proofs.lemmas.List.{append_assoc}
use Rattle.bx_layout.specs.declared.block.Block.{Block}
use Rattle.bx_records.specs.declared.runs.Run.{Run}
use Rattle.bx_layout.specs.Blocks.{HasParts, block_text}
use Rattle.bx_places.specs.Places.{IsBlock, block_place}
use Rattle.bx_records.specs.Runs.{KindAndRuns}
use Rattle.bx_node_cache.specs.declared.cache.Kept.{Kept}
use Rattle.bx_node_cache.specs.Kept.{CacheView, IsCache, Settles, home_runs, kept_in, settled}
use Rattle.bx_redo.specs.Homes.{home_run}

-- What is kept is a block of the volume.
pub is_kept : (view : CacheView) (kept : List (ℕ × Kept)) (at : ℕ) (one : Kept) → IsCache view → kept ≡ view.kept → kept_in kept at ≡ Some one → IsBlock view.areas at × HasParts one.block
is_kept view kept at one is same has =
    subst (λ (o : Option Kept). IfSome o (λ x. IsBlock view.areas at × HasParts x.block)) (ap (λ (k : List (ℕ × Kept)). kept_in k at) (sym same) ∙ has) (is.each at)

-- One more write.
pub pushed : (devices : ℕ) (items rest all : List (ℕ × Kept)) (item : ℕ × Kept) (old new : KindAndRuns) (run : Run)
    → items ≡ item ∷ rest → item.1.committed ≡ true → run ≡ home_run devices item.0 item.1.block → new ≡ (old.0, old.1 ++ run ∷ [])
    → old.1 ++ home_runs devices items ≡ home_runs devices all → new.1 ++ home_runs devices rest ≡ home_runs devices all
pushed devices items rest all item old new run is committed made now before =
    ap (λ (r : KindAndRuns). r.1 ++ home_runs devices rest) now ∙ append_assoc old.1 (run ∷ []) (home_runs devices rest)
    ∙ ap (λ (r : Run). old.1 ++ (r ∷ home_runs devices rest)) made
    ∙ ap (λ (rs : List Run). old.1 ++ rs) (sym (ap (λ (l : List (ℕ × Kept)). home_runs devices l) is ∙ first))
    ∙ before
  where
    first : home_runs devices (item ∷ rest) ≡ home_run devices item.0 item.1.block ∷ home_runs devices rest
    first = rw committed refl

-- Each block is home, where a pass over all of them wrote that.
pub settled_all : {F : Type 0} (T : F → ℕ → Kept → Bool → Kept → F → Type 0) (f : F)
    → ((k : ℕ) (v : Kept) (b : Bool) (w : Kept) (f' : F) → T f k v b w f' → (b ≡ true) × (w ≡ settled v) × (f' ≡ f))
    → (old new : List (ℕ × Kept)) → RetainsPairs T f old new → Settles old new
settled_all T f told old new ran = record {
  each = λ at. ap (λ (es : List (ℕ × Kept)). kept_in es at) (map_same_pairs T settled f told old new ran) ∙ lookup-map_values settled (is_at (nat_cmp at)) old;
}

-- They are blocks of the volume as they were.
pub settled_is : (areas at : ℕ) (one : Option Kept) → IfSome one (λ k. IsBlock areas at × HasParts k.block) → IfSome (option_map settled one) (λ k. IsBlock areas at × HasParts k.block)
settled_is areas at None is = is
settled_is areas at (Some one) is = is
