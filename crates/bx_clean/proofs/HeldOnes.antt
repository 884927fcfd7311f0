-- What a step writes is held exclusively.
use Rattle.std.proofs.Common.{◌≡◌, ℕ, false, List, [], Option, Result, Ok, Err, refl, sym, subst, length, ◌≤◌, arith, get_or, ap}
use Rattle.std.specs.Prelude.{IsSome}
use Rattle.bx_base.specs.declared.names.Mode.TheVariants.{Exclusive}
use Rattle.bx_chunks.specs.declared.error.ChunkError.{ChunkError}
use Rattle.bx_chunks.proofs.HeldDrafts.{frees_held, marks_held}
use Rattle.bx_chunks.specs.Freeing.{own_at}
use Rattle.bx_chunks.specs.Putting.{empty_of, own_of}
use Rattle.bx_places.specs.Handles.{parts_of}
use Rattle.bx_layout.specs.Areas.{freed_word, with_word}
use Rattle.bx_layout.specs.declared.block.Block.{Block}
use Rattle.bx_layout.specs.declared.inode.Inode.{Inode}
use Rattle.bx_leaves.proofs.Fair.{page_held, put_held}
use Rattle.bx_page.specs.Contents.{Contents}
use Rattle.bx_records.specs.Drafts.{Changed, with_block}
use Rattle.bx_truth.specs.Chunks.{block_at, own_block}
use Rattle.bx_views.specs.Attempts.{IsHeldDraft}
use Rattle.bx_views.specs.Truths.{Held}
use Rattle.bx_clean.specs.Held.{HoldsDead, HoldsPage}
use Rattle.bx_clean.specs.Pages.{AbsorbsNext, CutsFirst, cut_empty, cut_memory, cuts, fails, inner, leaf, stops, strip_empty, strip_memory, strips}
use Rattle.bx_clean.specs.Puts.{FreesSlotOf, FreesTo, PutsAndFrees, frees, memory, outside, puts}
use Rattle.bx_clean.proofs.Freed.{one_more, two_more}
use Rattle.bx_clean.specs.Trees.{CleansFile, CleansTree, FreesFile, FreesTree, ShrinksAbove, ShrinksBelow, absorbs, cuts_child, cuts_root, empty, ends, frees_file, frees_tree, lowers, many, no_inode, no_page, no_room, shrinks, single, unmarked, unread, with_tree, without_tree}

module _ (held : Held) where
  none_held : IsHeldDraft held []
  none_held = record { each = λ at some. absurd cc; parts = λ are at block found. absurd cc }

  one_block : (draft : List Changed) (at : ℕ) (block : Block) → draft ≡ with_block [] at block → length draft ≤ 1
  one_block draft at block e = let n = ap length e in let m = one_more [] at block in omega (arith, n, m)

  abbrev pub HeldOf : Result (List Changed) ChunkError → Type 0
  HeldOf (Ok new) = IsHeldDraft held new × (length new ≤ 3)
  HeldOf (Err error) = Unit {0}

  abbrev Drafted : Type 0
  Drafted = Result (List Changed) ChunkError

  freed_held : (areas handle : ℕ) (old : List Changed) → IsHeldDraft held old → length old ≤ 1 → (result : Drafted) → FreesSlotOf held areas old handle result → HeldOf result
  freed_held areas handle old before short result (outside other e) = subst HeldOf (sym e) tt
  freed_held areas handle old before short result (frees slot f) = by result f
    where
      by : (r : Drafted) → FreesTo held old handle r → HeldOf r
      by (Ok new) at = (
        frees_held held old new before handle (Ok tt) at tt,
        (let n = ap length at.now in
            let m = two_more old (own_block (parts_of handle).area) (block_at handle)
            (own_of (parts_of handle).area (with_word at.slots (parts_of handle).slot (freed_word (get_or at.slots.words (parts_of handle).slot 0)))) (empty_of 0 0) in
            omega (arith, n, m, short)),
      )
      by (Err error) at = tt

  module _ (areas : ℕ) where
    there : (handle : ℕ) (page : Contents) → HoldsPage held areas handle page → IsSome (held (block_at handle) Exclusive)
    there handle page h = subst (λ (o : Option Block). IsSome o) (sym h.is.there) refl

    put_page_held : (handle : ℕ) (own page : Contents) (gone : ℕ) → HoldsPage held areas handle own → (result : Drafted) → PutsAndFrees held areas handle page gone result → HeldOf result
    put_page_held handle own page gone h result (memory e) = subst HeldOf (sym e) tt
    put_page_held handle own page gone h result (puts mid p f) = freed_held areas gone mid (page_held held [] mid handle page none_held (there handle own h) p) (one_block mid (block_at handle) p.block p.put) result f

    cut_held : (handle : ℕ) (page : Contents) → HoldsPage held areas handle page → (result : Drafted) → CutsFirst held areas handle page result → HeldOf result
    cut_held handle page h result (cut_memory e) = subst HeldOf (sym e) tt
    cut_held handle page h result (cut_empty none e) = subst HeldOf (sym e) tt
    cut_held handle page h result (cuts first is p) = put_page_held handle page _ _ h result p

    absorb_held : (handle : ℕ) (page : Contents) → HoldsPage held areas handle page → (result : Drafted) → AbsorbsNext held areas handle page result → HeldOf result
    absorb_held handle page h result (stops error f e) = subst HeldOf (sym e) tt
    absorb_held handle page h result (leaf beside n l p) = put_page_held handle page beside page.right h result p
    absorb_held handle page h result (fails beside error n more f e) = subst HeldOf (sym e) tt
    absorb_held handle page h result (inner beside led n more f p) = put_page_held handle page led page.right h result p

    below_held : (top child : ℕ) (page below : Contents) → HoldsPage held areas top page → HoldsPage held areas child below → (result : Drafted) → ShrinksBelow held areas top child below result → HeldOf result
    below_held top child page below t h result (lowers right p) = put_page_held top page below child t result p
    below_held top child page below t h result (cuts_child right l entries p) = cut_held child below h result p
    below_held top child page below t h result (absorbs right entries p) = absorb_held child below h result p

    above_held : (top : ℕ) (page : Contents) → HoldsPage held areas top page → (result : Drafted) → ShrinksAbove held areas top page result → HeldOf result
    above_held top page t result (many some (strip_memory e)) = subst HeldOf (sym e) tt
    above_held top page t result (many some (strip_empty none e)) = subst HeldOf (sym e) tt
    above_held top page t result (many some (strips first new is p e)) = subst HeldOf (sym e) (page_held held [] new top _ none_held (there top page t) p, (let n = one_block new (block_at top) p.block p.put in omega (arith, n)))
    above_held top page t result (empty none e) = subst HeldOf (sym e) tt
    above_held top page t result (unread first error short is f e) = subst HeldOf (sym e) tt
    above_held top page t result (single first below short is h s) = below_held top _ page below t h result s

    module _ (handle : ℕ) (inode : Inode) (dead : HoldsDead held areas handle inode) where
      bare_held : (result : Drafted) → FreesTree held areas handle inode result → HeldOf result
      bare_held result (no_room e) = subst HeldOf (sym e) tt
      bare_held result (frees_tree mid p f) =
          freed_held areas inode.tree mid
          (subst (IsHeldDraft held) (sym p.put) (put_held held [] (block_at handle) p.block none_held (subst (λ (o : Option Block). IsSome o) (sym dead.is.there) refl) p.is.parts)) (one_block mid (block_at handle) p.block p.put) result f

      tree_held : (result : Drafted) → CleansTree held areas handle inode result → HeldOf result
      tree_held result (no_page error f e) = subst HeldOf (sym e) tt
      tree_held result (shrinks page h more s) = above_held inode.tree page h result s
      tree_held result (cuts_root page h l entries s) = cut_held inode.tree page h result s
      tree_held result (ends page h l none s) = bare_held result s

    file_held : (handle : ℕ) (result : Drafted) → FreesFile held areas handle result → HeldOf result
    file_held handle result (unmarked error m e) = subst HeldOf (sym e) tt
    file_held handle result (frees_file mid m f) = freed_held areas handle mid (marks_held held [] mid none_held handle false (Ok tt) m tt)
        (one_block mid (own_at handle) (own_of (parts_of handle).area m.marked.slots_now) m.now) result f

    pub held_of : (handle : ℕ) (result : Drafted) → CleansFile held areas handle result → HeldOf result
    held_of handle result (no_inode error f e) = subst HeldOf (sym e) tt
    held_of handle result (without_tree inode h zero s) = file_held handle result s
    held_of handle result (with_tree inode h some s) = tree_held handle inode h result s
