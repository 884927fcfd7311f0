-- What stops a piece that is put: a block that is needed, and want of blocks or of memory, never what the draft has.
use Rattle.std.proofs.Common.{◌≡◌, ℕ, ◌+◌, ◌-◌, ◌*◌, ◌^◌, ◌<◌, ◌≤◌, arith, true, false, List, ◌++◌, length, Option, Some, None, sym, ◌∙◌, subst, inl, inr, Ok, Err}
use Rattle.std.specs.Prelude.{IsSome}
use Rattle.bx_entries.proofs.Spaces.{finds_space}
use Rattle.bx_changes.specs.Stopping.{NeverFirst, StopsChange, StopsByChunks}
use Rattle.bx_blink.specs.Hints.{Under}
use Rattle.bx_blink.specs.declared.error.BlinkError.{BlinkError}
use Rattle.bx_blink.specs.declared.error.BlinkError.TheVariants as tree_error
use Rattle.bx_blink.specs.Walks.{reads_with}
use Rattle.bx_changes.specs.declared.error.ChangeError.{ChangeError}
use Rattle.bx_chunks.specs.Allocating.{AllocatesAt}
use Rattle.bx_chunks.specs.declared.error.ChunkError.{ChunkError}
use Rattle.bx_chunks.specs.declared.error.ChunkError.TheVariants.{Need, Stale, Full, OutOfMemory, Crowded}
use Rattle.bx_entries.proofs.Leaves.{leaf_block}
use Rattle.bx_layout.specs.declared.inode.Inode.{Inode}
use Rattle.bx_leaves.specs.Changes.{InsertsIn, NeedsUnheld}
use Rattle.bx_leaves.specs.Leaves.{InsertsAt, OnLeafPath}
use Rattle.bx_leaves.proofs.Done.{inserts_in}
use Rattle.bx_model.specs.declared.tree.Tree.{Tree}
use Rattle.bx_page.specs.Contents.{value_of}
use Rattle.bx_entries.specs.bx_ready.proofs.Lengths.{crowded_many}
use Rattle.bx_entries.specs.bx_ready.proofs.Spare.{full_none, told}
use Rattle.bx_records.specs.Drafts.{Changed}
use Rattle.bx_tree_files.specs.declared.file.File.{File}
use Rattle.bx_truth.specs.Chunks.{chunks_of}
use Rattle.bx_truth.specs.Keys.{content_key, content_value}
use Rattle.bx_truth.specs.PageTrees.{PageTree, map_of}
use Rattle.bx_views.specs.Truths.{Held, Hints, Truth, with_draft}
use Rattle.bx_writes.proofs.Anew.{none_then, under_two}
use Rattle.bx_writes.specs.Steps.{MayPut, PutsBlock, PutsOn}

some_none : (o : Option (List ℕ)) → o ≡ None → IsSome o → ⊥
some_none None none some = let both : false ≡ true = some in absurd cc
some_none (Some value) none some = absurd cc

module _ (areas near : ℕ) (held : Held) (hints : Hints) (truth : Truth) (tree : Tree) (handle : ℕ) (file : File) (pages : PageTree) (inode : Inode) (base : List ℕ) (index place : ℕ) (part rest : List ℕ) (taken : ℕ) (old : List Changed)
    (payload : List ℕ) (m : MayPut areas held hints truth tree handle file pages inode base index place part rest taken old None payload) where
  abbrev Puts : ChangeError → Type 0
  Puts stop = PutsOn areas held truth tree handle file pages inode base (4096 * index + place) (part ++ rest) index (taken + 1) (Err stop)

  pub chunks_stop : (one : List Changed) (error : ChunkError) (stop : ChangeError) → length old ≤ 12 → AllocatesAt held old one near areas (Err error) → StopsByChunks error stop → Puts stop
  chunks_stop one (Need at mode) stop room a s = subst Puts (sym s) tt
  chunks_stop one OutOfMemory stop room a s = subst Puts (sym s) tt
  chunks_stop one Stale stop room a s = absurd a
  chunks_stop one Crowded stop room a s = absurd (let many = crowded_many held old one near areas a in omega (arith, many, room))
  chunks_stop one (Full spare) stop room a s =
      let w = m.written in
      let none = full_none areas near held truth m.few m.same old w.stands.chunked one spare a in
      let free = w.free in
      let left = m.some_left in
      let is = told areas near held truth old one spare m.few m.same m.chunked w.stands.chunked a in
      subst Puts (sym s) (record { spare_is = is; few = omega (arith, none, free, left, is) })

  module _ (one two : List Changed) (names : ℕ) (takes : AllocatesAt held old one near areas (Ok names)) (puts : PutsBlock one names payload two) where
    pub tree_stops : (new : List Changed) (error : BlinkError) (stop : ChangeError) → length old ≤ 12 → length two ≤ 15 → InsertsAt held hints two new inode.tree (content_key index) (content_value names) (Err error)
        → NeedsUnheld {X = Unit {0}} held (OnLeafPath (reads_with held hints two) inode.tree (content_key index)) (Err error) → StopsChange areas error stop → Puts stop
    tree_stops new error stop room few i n s = by error i n s (inserts_in areas held hints truth two new inode.tree m.written.after (content_key index) under (content_value names) (Err error) i)
      where
        index_small : index < 2 ^ 32
        index_small = let fits = m.fits in let small = m.small in omega (arith, fits, small)

        under : Under areas held hints truth two inode.tree m.written.after
        under = under_two areas near held hints truth tree handle file pages inode base index place part rest taken old one two m.handle_is m.few m.same m.fit m.next index_small m.written names puts.block m.prepared.none puts.header puts.kind takes puts.put

        none : value_of (map_of m.written.after) (content_key index) ≡ None
        none = none_then areas near held hints truth tree handle file pages inode base index place part rest taken old one two m.handle_is m.few m.same m.fit m.next index_small m.written names puts.block m.prepared.none puts.header puts.kind takes puts.put

        by : (error : BlinkError) → InsertsAt held hints two new inode.tree (content_key index) (content_value names) (Err error)
            → NeedsUnheld {X = Unit {0}} held (OnLeafPath (reads_with held hints two) inode.tree (content_key index)) (Err error) → StopsChange areas error stop
            → InsertsIn areas held hints truth two new inode.tree m.written.after (content_key index) (content_value names) (Err error) → Puts stop
        by (tree_error.Need at mode) i n (inl s) t = subst Puts (sym s.1) tt
        by (tree_error.Need at mode) i n (inr s) t =
            let block = leaf_block areas held hints truth two inode.tree m.written.after (content_key index) at mode under n.1 in
            let both : true ≡ false = sym block ∙ s.0 in absurd cc
        by tree_error.OutOfMemory i n s t = subst Puts (sym s) tt
        by tree_error.Stale i n s t = absurd t
        by tree_error.Absent i n s t = absurd t
        by tree_error.Present i n s t = absurd (some_none (value_of (map_of m.written.after) (content_key index)) none t)
        by (tree_error.Full spare) i n s t = absurd t
        by tree_error.Crowded i n s t = absurd (let many = t.1 in omega (arith, few, many))
        by (tree_error.NoRoom leaf) i n s t =
            let space = m.written.leaves.spaces index (omega arith) m.prepared.ready.room in
            let left = m.some_left in
            absurd (finds_space (chunks_of areas (with_draft truth two)) inode.tree held m.written.after (content_key index) (content_value names) (544 - 17 * taken) leaf under.is space (omega arith) (omega (arith, left)) t.1)

-- ---- on any content

pub never_first : (areas : ℕ) (error : BlinkError) (stop : ChangeError) → StopsChange areas error stop → NeverFirst stop
never_first areas (tree_error.Need at mode) stop (inl s) = subst NeverFirst (sym s.1) tt
never_first areas (tree_error.Need at mode) stop (inr s) = subst NeverFirst (sym s.1) tt
never_first areas tree_error.OutOfMemory stop s = subst NeverFirst (sym s) tt
never_first areas (tree_error.Full spare) stop s = subst NeverFirst (sym s) tt
never_first areas tree_error.Stale stop s = subst NeverFirst (sym s) tt
never_first areas tree_error.Absent stop s = subst NeverFirst (sym s) tt
never_first areas tree_error.Present stop s = subst NeverFirst (sym s) tt
never_first areas (tree_error.NoRoom leaf) stop s = subst NeverFirst (sym s) tt
never_first areas tree_error.Crowded stop s = subst NeverFirst (sym s) tt
