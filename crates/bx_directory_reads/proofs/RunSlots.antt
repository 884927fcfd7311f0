-- What a run in a tree asks for are blocks of the volume.
use Rattle.std.proofs.Common.{◌≡◌, ℕ, zero, suc, ◌≤◌, true, List, [], Option, Some, None, subst, arith, inl, inr}
use Rattle.bx_base.specs.declared.names.Mode.{Mode}
use Rattle.bx_base.specs.declared.names.Mode.TheVariants.{Shared}
use Rattle.bx_dirs.specs.bx_blink.specs.Hints.{Agrees, HintsAgree, Place, Sees, Under}
use Rattle.bx_dirs.specs.bx_blink.specs.Leaves.{BeginsAt}
use Rattle.bx_dirs.specs.bx_blink.specs.Runs.{OnRun}
use Rattle.bx_dirs.specs.bx_blink.specs.Walks.{MayAsk, Reads, as_said, landed, most, reads_with, shared, start}
use Rattle.bx_dirs.specs.bx_blink.proofs.Begins.{Begun, at_leaf, at_root, begun}
use Rattle.bx_dirs.specs.bx_blink.proofs.OnWay.{IsOnWay}
use Rattle.bx_dirs.specs.bx_blink.proofs.Rights.{on_way}
use Rattle.bx_dirs.specs.bx_blink.proofs.RunRights.{Turned, run_step}
use Rattle.bx_dirs.specs.bx_blink.proofs.Under.{agrees}
use Rattle.bx_dirs.specs.bx_blink.proofs.Visits.{slot_of_spot}
use Rattle.bx_reads.specs.bx_files.proofs.Slots.{slot_is_block}
use Rattle.bx_places.specs.Places.{is_block}
use Rattle.bx_truth.specs.Chunks.{IsSlot, chunks_of}
use Rattle.bx_truth.specs.PageTrees.{Chunks, IsTree, PageTree}
use Rattle.bx_views.specs.Truths.{Held, Hints, Truth}

module _ (areas : ℕ) (reads : Reads) (chunks : Chunks) (root : ℕ) (tree : PageTree) (few : areas ≤ 64) (sees : Sees areas reads chunks) (is : IsTree chunks root tree) (hints : HintsAgree areas reads.hint chunks root tree) where
  asked_slot : (key : List ℕ) (low : Option Place) (spot : _) (at : ℕ) (mode : Mode) → IsOnWay hints.home root hints.most tree 0 key low spot → MayAsk reads 0 Shared spot at mode → IsSlot areas at
  asked_slot key low spot at mode w as_said = slot_of_spot areas reads chunks root tree 0 Shared key few sees is hints low spot w
  asked_slot key low spot at mode w shared = slot_of_spot areas reads chunks root tree 0 Shared key few sees is hints low spot w
  asked_slot key low spot at mode w (landed page finds level) = slot_of_spot areas reads chunks root tree 0 Shared key few sees is hints low spot w

  run_slot : (n : ℕ) (key : List ℕ) (low : Option Place) (spot : _) (at : ℕ) (mode : Mode) → OnRun reads n key spot at mode → IsOnWay hints.home root hints.most tree 0 key low spot → IsSlot areas at
  unfolding OnRun
  run_slot zero key low spot at mode on w = absurd on
  run_slot (suc n) key low spot at mode (inl may) w = asked_slot key low spot at mode w may
  run_slot (suc n) key low spot at mode (inr on) w =
      let turned = subst (Turned reads hints.home root hints.most tree (record { level = w.rank; begins = w.begins }) spot key) on.4 (run_step areas reads chunks root tree key sees is hints low spot on.0 on.1 w) in
      run_slot n on.2 (Some (record { level = w.rank; begins = w.begins })) on.3 at mode on.5 turned.way

pub run_block : (areas : ℕ) (held : Held) (hints : Hints) (truth : Truth) (root : ℕ) (tree : PageTree) (handle : ℕ) (key : List ℕ) (at : ℕ) (mode : Mode) → Under areas held hints truth [] root tree
    → BeginsAt root tree key handle → OnRun (reads_with held hints []) most key (start handle Shared) at mode → is_block areas at ≡ true
run_block areas held hints truth root tree handle key at mode u b on = slot_is_block areas at (by_begun (begun areas reads chunks root tree a.is a.hints key handle b))
  where
    reads : Reads
    reads = reads_with held hints []

    chunks : Chunks
    chunks = chunks_of areas truth

    a : Agrees areas reads chunks root tree
    a = agrees areas held hints truth [] root tree u

    by_begun : Begun a.hints.home root a.hints.most tree key handle → IsSlot areas at
    by_begun (at_root here) =
        run_slot areas reads chunks root tree a.few a.sees a.is a.hints most key None (start root Shared) at mode (subst (λ (h : ℕ). OnRun reads most key (start h Shared) at mode) here on)
        (on_way areas reads chunks root tree 0 Shared key a.sees a.is a.hints (omega arith))
    by_begun (at_leaf p w) = run_slot areas reads chunks root tree a.few a.sees a.is a.hints most key (Some p) (start handle Shared) at mode on w
