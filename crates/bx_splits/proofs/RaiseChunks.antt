-- Two slots are taken under a truth, and three pages are put: the chunks, and what calls rest on.
use Rattle.std.proofs.Common.{◌≡◌, ℕ, List, [], Option, Some, None, sym, ap, ◌∙◌, arith}
use Rattle.bx_layout.specs.declared.block.Block.{Block}
use Rattle.bx_records.specs.Drafts.{Changed, with_block}
use Rattle.bx_truth.specs.Chunks.{block_at, chunks_of}
use Rattle.bx_truth.specs.Edits.{ChunkAnew}
use Rattle.bx_truth.specs.PageTrees.{Chunks, IsNode, PageTree}
use Rattle.bx_truth.specs.Shown.{KeepsSlots}
use Rattle.bx_truth.specs.Stands.{WasGiven}
use Rattle.bx_views.specs.Truths.{Truth, Held, Hints, with_draft}
use Rattle.bx_blink.specs.Hints.{Under}
use Rattle.bx_blink.proofs.Sees.{Holds}
use Rattle.bx_leaves.proofs.Written.{puts_writes, holds_still}
use Rattle.bx_splits.proofs.Grown.{Grows, still_given}
use Rattle.bx_splits.proofs.Kept.{kept_and, written_keeps}
use Rattle.bx_splits.proofs.Raise.{Raises}

module _ (areas : ℕ) (held : Held) (hints : Hints) (truth : Truth) (old one two : List Changed) (root : ℕ) (tree : PageTree) (u : Under areas held hints truth old root tree)
    (left right : ℕ) (gl : Grows areas (with_draft truth old) (with_draft truth one) left) (gr : Grows areas (with_draft truth one) (with_draft truth two) right)
    (root_block left_block right_block : Block) (root_header : root_block.handle ≡ root) (left_header : left_block.handle ≡ left) (right_header : right_block.handle ≡ right) where
  abbrev three : List Changed
  three = with_block two (block_at left) left_block

  abbrev four : List Changed
  four = with_block (with_block two (block_at left) left_block) (block_at right) right_block

  abbrev pub five : List Changed
  five = with_block (with_block (with_block two (block_at left) left_block) (block_at right) right_block) (block_at root) root_block

  abbrev at : List Changed → Chunks
  at draft = chunks_of areas (with_draft truth draft)

  abbrev under : List Changed → Truth
  under draft = with_draft truth draft

  top : IsNode (at old) tree.height (u.is).top
  top = ((u.is).levels tree.height (omega arith)).nodes_are (u.is).top (record { before = []; behind = []; parts = (u.is).root_alone })

  root_was : at old root ≡ Some top.block
  root_was = ap (at old) (sym (u.is).root_is) ∙ top.chunk

  clash : (o : Option Block) (b : Block) → o ≡ Some b → o ≡ None → ⊥
  clash o b s n = let both : Some b ≡ None = sym s ∙ n in absurd cc

  pub left_not_root : root ≡ left → ⊥
  left_not_root e = clash (at old root) top.block root_was (ap (at old) e ∙ gl.fresh)

  root_one : at one root ≡ Some top.block
  root_one = gl.keeps root left_not_root ∙ root_was

  pub right_not_root : root ≡ right → ⊥
  right_not_root e = clash (at one root) top.block root_one (ap (at one) e ∙ gr.fresh)

  pub differ : left ≡ right → ⊥
  differ e = clash (at one left) gl.block gl.gets (ap (at one) e ∙ gr.fresh)

  pub right_fresh : at old right ≡ None
  right_fresh = sym (gl.keeps right (λ e. differ (sym e))) ∙ gr.fresh

  pub right_never : WasGiven areas (under old) right → ⊥
  right_never given = gr.never (still_given areas (under old) (under one) right gl.slots given)

  holds_two : Holds areas held truth two
  holds_two = record { same = u.same; chunked = (gr.slots).chunked }

  left_two : at two left ≡ Some gl.block
  left_two = gr.keeps left differ ∙ gl.gets

  w3 : ChunkAnew (at two) (at three) left left_block
  w3 = puts_writes areas held truth two left gl.block left_block holds_two left_two left_header

  holds_three : Holds areas held truth three
  holds_three = holds_still areas held truth two left gl.block left_block holds_two left_two left_header

  right_three : at three right ≡ Some gr.block
  right_three = w3.others right (λ e. differ (sym e)) ∙ gr.gets

  w4 : ChunkAnew (at three) (at four) right right_block
  w4 = puts_writes areas held truth three right gr.block right_block holds_three right_three right_header

  holds_four : Holds areas held truth four
  holds_four = holds_still areas held truth three right gr.block right_block holds_three right_three right_header

  root_four : at four root ≡ Some top.block
  root_four = w4.others root right_not_root ∙ w3.others root left_not_root ∙ gr.keeps root right_not_root ∙ root_one

  w5 : ChunkAnew (at four) (at five) root root_block
  w5 = puts_writes areas held truth four root top.block root_block holds_four root_four root_header

  pub raises : Raises (chunks_of areas (with_draft truth old)) (chunks_of areas (with_draft truth (with_block (with_block (with_block two (block_at left) left_block) (block_at right) right_block) (block_at root) root_block))) root left right root_block left_block right_block
  raises = record {
    here = w5.here;
    at_left = w5.others left (λ e. left_not_root (sym e)) ∙ w4.others left differ ∙ w3.here;
    at_right = w5.others right (λ e. right_not_root (sym e)) ∙ w4.here;
    left_fresh = gl.fresh;
    right_fresh = right_fresh;
    others = λ other a b c. w5.others other a ∙ w4.others other c ∙ w3.others other b ∙ gr.keeps other c ∙ gl.keeps other b;
  }

  pub slots : KeepsSlots areas (with_draft truth old) (with_draft truth (with_block (with_block (with_block two (block_at left) left_block) (block_at right) right_block) (block_at root) root_block))
  slots =
      kept_and areas (under old) (under one) (under five) gl.slots
      (kept_and areas (under one) (under two) (under five) gr.slots
      (kept_and areas (under two) (under three) (under five) (written_keeps areas held truth two left gl.block left_block holds_two left_two left_header)
      (kept_and areas (under three) (under four) (under five) (written_keeps areas held truth three right gr.block right_block holds_three right_three right_header)
      (written_keeps areas held truth four root top.block root_block holds_four root_four root_header))))
