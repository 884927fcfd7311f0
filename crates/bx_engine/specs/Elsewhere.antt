-- What a truth stands for, and which hints agree with it, depend on the blocks of the volume alone.
use Rattle.std.proofs.Common.{◌≡◌, ◌∙◌, ℕ, ◌%◌, ◌^◌, ◌≤◌, true, sym, subst, arith}
use Rattle.std.proofs.lemmas.Bool.Decides.{nat_tests}
use Rattle.bx_blink.specs.Hints.{HintsFit}
use Rattle.bx_inodes.specs.Fitting.{HintsFitAll}
use Rattle.bx_layout.specs.Areas.{generation_in}
use Rattle.bx_model.specs.declared.tree.Tree.{Tree}
use Rattle.bx_places.specs.Places.{IsBlock, is_block}
use Rattle.bx_steps.specs.Steps.{StandsWith}
use Rattle.bx_truth.specs.Chunks.{block_at}
use Rattle.bx_truth.specs.PageTrees.{Chunks, IsTree, PageTree}
use Rattle.bx_truth.specs.Stands.{WasGiven}
use Rattle.bx_truth.specs.Truth.{AreSame}
use Rattle.bx_truth.proofs.Same.{chunk_same, chunks_same, stands_same, word_same}
use Rattle.bx_views.specs.Truths.{Hints, Truth}

tested : (areas at : ℕ) → IsBlock areas at → is_block areas at ≡ true
tested areas at is = let area = is.area in let slot = is.slot in grind (arith, nat_tests, area, slot)

module _ (areas : ℕ) (truth other : Truth) (same : AreSame areas truth other) where
  given_elsewhere : (handle : ℕ) → WasGiven areas truth handle → WasGiven areas other handle
  given_elsewhere handle was = record {
    slot = was.slot;
    generation = subst (λ (word : ℕ). handle % 2 ^ 32 ≤ generation_in word) (sym (word_same areas truth other same (block_at handle) was.slot)) was.generation;
  }

  fit_elsewhere : (hints : Hints) (root : ℕ) (tree : PageTree) → HintsFit areas hints truth root tree → HintsFit areas hints other root tree
  fit_elsewhere hints root tree fit = record {
    agree = record {
      home = fit.agree.home;
      names = fit.agree.names;
      root_apart = fit.agree.root_apart;
      most = fit.agree.most;
      highest = fit.agree.highest;
      placed = fit.agree.placed;
      stands = λ handle place block home_is chunk. fit.agree.stands handle place block home_is (sym (chunk_same areas truth other same handle) ∙ chunk);
      hints = fit.agree.hints;
      root_hints = fit.agree.root_hints;
    };
    given = record {
      homes = λ handle place home_is. given_elsewhere handle (fit.given.homes handle place home_is);
      hints = λ handle block hint header name. given_elsewhere handle (fit.given.hints handle block hint header name);
    };
  }

  fit_all : (hints : Hints) → HintsFitAll areas hints truth → HintsFitAll areas hints other
  fit_all hints fit = record {
    each = λ handle inode tree holds is. fit_elsewhere hints inode.tree tree
        (fit.each handle inode tree (record { block = holds.block; chunk = sym (chunk_same areas truth other same handle) ∙ holds.chunk; has = holds.has }) (subst (λ (c : Chunks). IsTree c inode.tree tree) (sym (chunks_same areas truth other same)) is));
  }

pub stands_elsewhere : (volume areas : ℕ) (truth other : Truth) (hints : Hints) (tree : Tree) → ((at : ℕ) → is_block areas at ≡ true → other at ≡ truth at) → StandsWith volume areas truth hints tree → StandsWith volume areas other hints tree
stands_elsewhere volume areas truth other hints tree equal s =
    let same : AreSame areas truth other = λ at is. sym (equal at (tested areas at is)) in
    record {
      stands = record { is = stands_same areas truth other same tree s.stands.is; volume_is = s.stands.volume_is; file_tree = s.stands.file_tree };
      fit = fit_all areas truth other same hints s.fit;
    }
