-- What a node leaves alone of another's, where it sends a write, and where what it wrote is acknowledged.
use Rattle.std.proofs.Common.{◌≡◌, ◌≢◌, ⊎_elim, ◌∙◌, inl, inr, ℕ, ◌+◌, ◌<◌, List, ◌∷◌, Contains, Some, refl, ap, subst}
use Rattle.bx_base.specs.declared.names.Mode.{Mode}
use Rattle.bx_facts.specs.Writes.{Sent, WritesIn, WritesTo}
use Rattle.bx_facts.proofs.Lists.{front_or_behind}
use Rattle.bx_node_machines.specs.Machines as words
use Rattle.bx_node_machines.specs.Machines.{Fetch, IsFetching, IsFlying, IsUnwritten, IsWriting, Scene, home_of}
use Rattle.bx_node_machines.proofs.Leaving.{Leaves, LeavesSlot}
use Rattle.bx_places.specs.Places.{IsBlock, block_place}
use Rattle.bx_records.specs.declared.runs.Run.{Run}
use Rattle.bx_node_views.specs.bx_volume.specs.Overlay.{IsUnlogged}
use Rattle.bx_world_views.specs.Views.{Allows}

module _ (devices areas : ℕ) (Reads Reads_then : ℕ → List ℕ → Type 0) (old new : Scene) (node session : ℕ) (asked : new.asked node ≡ old.asked node) where
  -- What a node reads goes on, where a block that it reads is held as it was, gets into no log, and its home holds what it held.
  pub fetching : (fetch : Fetch) → ((block : ℕ) (mode : Mode) → Allows (old.holding session block) mode → Allows (new.holding session block) mode) → ((block : ℕ) → IsUnlogged old.logs block → IsUnlogged new.logs block)
      → ((block : ℕ) (mode : Mode) → fetch ≡ words.Block block mode → Allows (old.holding session block) mode → IsUnwritten old.slots block → IsUnwritten new.slots block)
      → ((block : ℕ) → IsBlock areas block → IsUnlogged old.logs block → (i : ℕ) → i < 9 → old.asked node ≡ Some (home_of devices block)
      → Reads ((block_place block devices).1 + i) (old.before (block_place block devices).0 ((block_place block devices).1 + i))
      → Reads_then ((block_place block devices).1 + i) (new.before (block_place block devices).0 ((block_place block devices).1 + i)))
      → IsFetching devices areas Reads old node session fetch → IsFetching devices areas Reads_then new node session fetch
  fetching words.Nothing holds unlogged unwritten on none = asked ∙ none
  fetching (words.Block block mode) holds unlogged unwritten on is = record {
    is = is.is;
    allows = holds block mode is.allows;
    unlogged = unlogged block is.unlogged;
    unwritten = unwritten block mode refl is.allows is.unwritten;
    asked = ⊎_elim (λ none. inl (asked ∙ none)) (λ some. inr (asked ∙ some.0, λ i few. on block is.is is.unlogged i few some.0 (some.1 i few))) is.asked;
  }
  fetching words.Dropped holds unlogged unwritten on is = is
  fetching words.OfLog holds unlogged unwritten on is = is

module _ (devices areas : ℕ) (Touches : ℕ → ℕ → Type 0) (Sure Sure_then : ℕ → ℕ → List ℕ → Type 0) (Reads Reads_then : ℕ → List ℕ → Type 0) (old new : Scene) (node session slot : ℕ)
    (of_slot : LeavesSlot old new session slot)
    (out : new.out node ≡ old.out node) (asked : new.asked node ≡ old.asked node) where
  -- Another sends a write, of none of the sectors that this session touches.
  pub sending_leaves : (write : Sent) → write.session ≢ session → new.sent ≡ write ∷ old.sent
      → ((d s : ℕ) (content : List ℕ) → Touches d s → WritesTo write d s content → ⊥)
      → ((d s : ℕ) (content : List ℕ) → ((other : List ℕ) → WritesTo write d s other → ⊥) → Sure d s content → Sure_then d s content)
      → ((block : ℕ) (mode : Mode) → Allows (old.holding session block) mode → Allows (new.holding session block) mode)
      → ((block : ℕ) → IsUnlogged old.logs block → IsUnlogged new.logs block)
      → ((block : ℕ) (mode : Mode) → Allows (old.holding session block) mode → IsUnwritten old.slots block → IsUnwritten new.slots block)
      → ((block : ℕ) → IsBlock areas block → IsUnlogged old.logs block → (i : ℕ) → i < 9 → old.asked node ≡ Some (home_of devices block)
      → Reads ((block_place block devices).1 + i) (old.before (block_place block devices).0 ((block_place block devices).1 + i))
      → Reads_then ((block_place block devices).1 + i) (new.before (block_place block devices).0 ((block_place block devices).1 + i)))
      → Leaves devices areas Touches Sure Sure_then Reads Reads_then old new node session slot
  sending_leaves write ne sent apart sure holds unlogged unwritten reads = record {
    of_slot = of_slot;
    none_out = λ none. out ∙ none;
    none_asked = λ none. asked ∙ none;
    writing = λ runs touches is. by_writing runs touches is;
    reads = λ block mode is. fetching devices areas Reads Reads_then old new node session asked (words.Block block mode) holds unlogged (λ one way same. unwritten one way) reads is;
  }
    where
      by_writing : (runs : List Run) → ((d sector : ℕ) (content : List ℕ) → WritesIn runs d sector content → Touches d sector)
          → IsWriting Sure session runs (old.out node) old.sent → IsWriting Sure_then session runs (new.out node) new.sent
      by_writing runs touches (inl flying) = inl (record {
        write = flying.write;
        whose = flying.whose;
        runs_are = flying.runs_are;
        once = flying.once;
        is_out = out ∙ flying.is_out;
        only = λ other has its. ⊎_elim
            (λ front. absurd (ne (ap (λ (w : Sent). w.session) front ∙ its)))
            (λ before. flying.only other before its)
            (front_or_behind write old.sent other (subst (λ (l : List Sent). Contains l other) sent has));
      })
      by_writing runs touches (inr landed) = inr (record {
        none_out = out ∙ landed.none_out;
        sure = λ d s content w. sure d s content (λ other to. apart d s other (touches d s content w) to) (landed.sure d s content w);
      })

  -- What another wrote is acknowledged, or a record of another begins: all that is sure stays so, no block that this session reads gets into a log, and
  -- what it reads stays where it is.
  pub landing_leaves : new.sent ≡ old.sent
      → ((d s : ℕ) (content : List ℕ) → Sure d s content → Sure_then d s content)
      → ((block : ℕ) (mode : Mode) → Allows (old.holding session block) mode → Allows (new.holding session block) mode)
      → ((block : ℕ) (mode : Mode) → Allows (old.holding session block) mode → IsUnwritten old.slots block → IsUnlogged old.logs block → IsUnlogged new.logs block)
      → ((block : ℕ) (mode : Mode) → Allows (old.holding session block) mode → IsUnwritten old.slots block → IsUnwritten new.slots block)
      → ((block : ℕ) → IsBlock areas block → IsUnlogged old.logs block → (i : ℕ) → i < 9 → old.asked node ≡ Some (home_of devices block)
      → Reads ((block_place block devices).1 + i) (old.before (block_place block devices).0 ((block_place block devices).1 + i))
      → Reads_then ((block_place block devices).1 + i) (new.before (block_place block devices).0 ((block_place block devices).1 + i)))
      → Leaves devices areas Touches Sure Sure_then Reads Reads_then old new node session slot
  landing_leaves sent sure holds unlogged unwritten reads = record {
    of_slot = of_slot;
    none_out = λ none. out ∙ none;
    none_asked = λ none. asked ∙ none;
    writing = λ runs touches is. by_writing runs is;
    reads = λ block mode is. record {
      is = is.is;
      allows = holds block mode is.allows;
      unlogged = unlogged block mode is.allows is.unwritten is.unlogged;
      unwritten = unwritten block mode is.allows is.unwritten;
      asked = ⊎_elim (λ none. inl (asked ∙ none)) (λ some. inr (asked ∙ some.0, λ i few. reads block is.is is.unlogged i few some.0 (some.1 i few))) is.asked;
    };
  }
    where
      by_writing : (runs : List Run) → IsWriting Sure session runs (old.out node) old.sent → IsWriting Sure_then session runs (new.out node) new.sent
      by_writing runs (inl flying) = inl (record {
        write = flying.write;
        whose = flying.whose;
        runs_are = flying.runs_are;
        once = flying.once;
        is_out = out ∙ flying.is_out;
        only = λ other has its. flying.only other (subst (λ (l : List Sent). Contains l other) sent has) its;
      })
      by_writing runs (inr landed) = inr (record { none_out = out ∙ landed.none_out; sure = λ d s content w. sure d s content (landed.sure d s content w) })
