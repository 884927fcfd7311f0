-- A page of a tree is rewritten under a truth: what calls rest on holds again, and nothing else changes.
use Rattle.std.proofs.Common.{◌≡◌, ℕ, ◌≤◌, eqb, List, ◌∷◌, ◌++◌, refl}
use Rattle.bx_layout.specs.declared.block.Block.{Block}
use Rattle.bx_records.specs.Drafts.{Changed, with_block}
use Rattle.bx_page.specs.declared.entry.Entry.{Entry}
use Rattle.bx_page.specs.Contents.{Contents}
use Rattle.bx_blink.specs.bx_truth.specs.Chunks.{block_at, own_block, chunks_of}
use Rattle.bx_blink.specs.bx_truth.specs.Edits.{ChunkAnew}
use Rattle.bx_blink.specs.bx_truth.specs.PageTrees.{Chunks, Node, IsNode, PageTree, map_of}
use Rattle.bx_blink.specs.bx_views.specs.Truths.{Truth, Held, Hints, with_draft}
use Rattle.bx_blink.specs.Hints.{HintsFit, Under}
use Rattle.bx_blink.proofs.Sees.{Holds, chunk_is}
use Rattle.bx_leaves.specs.Changes.{MakesMap}
use Rattle.bx_leaves.proofs.Exchanged.{with_page}
use Rattle.bx_leaves.proofs.Hinted.{back, forth, agree_still}
use Rattle.bx_leaves.proofs.Replaced.{with_level, Fits, replaced}
use Rattle.bx_leaves.proofs.Written.{own_not_slot, draft_elsewhere, puts_writes, holds_still, given_then}

module _ (areas : ℕ) (held : Held) (hints : Hints) (truth : Truth) (old : List Changed) (root : ℕ) (tree : PageTree) (u : Under areas held hints truth old root tree)
    (level : ℕ) (within : level ≤ tree.height) (before : List Node) (node : Node) (behind : List Node) (parts : tree.level level ≡ before ++ node ∷ behind)
    (page : Contents) (block : Block) (header : block.handle ≡ node.handle) (fits : Fits tree level node page block) where
  abbrev new : List Changed
  new = with_block old (block_at node.handle) block

  abbrev chunks : Chunks
  chunks = chunks_of areas (with_draft truth old)

  abbrev now : Chunks
  now = chunks_of areas (with_draft truth (with_block old (block_at node.handle) block))

  holds : Holds areas held truth old
  holds = record { same = u.same; chunked = u.chunked }

  is_node : IsNode chunks level node
  is_node = ((u.is).levels level within).nodes_are node (record { before = before; behind = behind; parts = parts })

  anew : ChunkAnew chunks now node.handle block
  anew = puts_writes areas held truth old node.handle is_node.block block holds is_node.chunk header

  abbrev pub tree_after : PageTree
  tree_after = with_level tree level (before ++ with_page node page ∷ behind)

  fit_still : (other : Hints) → HintsFit areas other (with_draft truth old) root tree → HintsFit areas other (with_draft truth (with_block old (block_at node.handle) block)) root (with_level tree level (before ++ with_page node page ∷ behind))
  unfolding agree_still
  fit_still other h = record {
    agree = agree_still areas other chunks now root tree level before node behind page is_node.block block parts is_node.chunk anew h.agree;
    given = record {
      homes = λ handle place home. given_then areas held truth old node.handle is_node.block block holds is_node.chunk header handle ((h.given).homes handle place home);
      hints = λ handle b hint there name. given_then areas held truth old node.handle is_node.block block holds is_node.chunk header handle ((h.given).hints handle b hint there name);
    };
  }

  pub rewritten : (map : List Entry) → map_of (with_level tree level (before ++ with_page node page ∷ behind)) ≡ map → MakesMap areas held hints truth old (with_block old (block_at node.handle) block) root tree map
  rewritten map map_is = record {
    after = with_level tree level (before ++ with_page node page ∷ behind);
    under = record {
      few = u.few;
      same = u.same;
      chunked = (holds_still areas held truth old node.handle is_node.block block holds is_node.chunk header).chunked;
      is = replaced chunks now root tree level before node behind page block u.is within parts anew fits;
      hints = fit_still hints u.hints;
    };
    map_is = map_is;
    page = node;
    there = record { level = level; within = within; there = record { before = before; behind = behind; parts = parts } };
    others = anew.others;
    back = λ m i. let b = back tree level before node behind page parts i.level m (eqb i.level level) refl i.there in (b.0, record { level = i.level; within = i.within; there = b.1 }, b.2);
    forth = λ m i. let f = forth tree level before node behind page parts i.level m i.there (eqb i.level level) refl in (f.0, record { level = i.level; within = i.within; there = f.1 }, f.2);
    leads = fit_still;
    own = λ area less. draft_elsewhere truth old (block_at node.handle) (own_block area) block (own_not_slot areas (block_at node.handle) area (chunk_is areas (with_draft truth old) node.handle is_node.block is_node.chunk).slot);
  }
