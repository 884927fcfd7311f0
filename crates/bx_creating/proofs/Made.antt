-- Files that are made over a view with no draft: they are never crowded, and where no slot is left they tell fewer than 8.
use Rattle.std.proofs.Common.{◌≡◌, ℕ, ◌≤◌, arith, List, [], length, sym, subst, inl, inr, refl}
use Rattle.std.specs.Prelude.{Err, Ok}
use Rattle.bx_entries.proofs.Stopped.{inode_more}
use Rattle.bx_base.specs.declared.names.Mode.{Mode}
use Rattle.bx_changes.specs.Growing.{IfFull, NeedsBy}
use Rattle.bx_changes.specs.declared.error.ChangeError.{ChangeError}
use Rattle.bx_chunks.specs.Allocating.{AllocatesAt, NeedsFairly}
use Rattle.bx_chunks.specs.Taking.{NoSlots, OnSlots, more, none}
use Rattle.bx_chunks.specs.declared.error.ChunkError.{ChunkError}
use Rattle.bx_chunks.specs.declared.error.ChunkError.TheVariants as chunk
use Rattle.bx_layout.specs.declared.inode.Inode.{Inode}
use Rattle.bx_entries.specs.bx_making.specs.Links.{LinksAt}
use Rattle.bx_entries.specs.bx_making.specs.Made.{MakesIn}
use Rattle.bx_entries.specs.bx_making.specs.Making.{MakesAt}
use Rattle.bx_model.specs.declared.tree.Tree.{Tree}
use Rattle.bx_entries.specs.bx_ready.specs.Spare.{TellsFew}
use Rattle.bx_entries.specs.bx_ready.proofs.Bounds.{few_two}
use Rattle.bx_entries.specs.bx_ready.proofs.Lengths.{crowded_many, put_more, taken_more}
use Rattle.bx_records.specs.Drafts.{Changed}
use Rattle.bx_tree_files.specs.declared.file.Body.{Body}
use Rattle.bx_truth.specs.Chunks.{IsChunked}
use Rattle.bx_views.specs.Truths.{Held, IsTruth, Truth}
use Rattle.bx_changes.specs.Stopping.{StopsByChunks}
use Rattle.bx_creating.specs.Placing.{IsFirstNear, IsMade, MadeAt, MakesNew}

-- ---- room in the draft

not_crowded : (held : Held) (old : List Changed) (near areas : ℕ) → length old ≤ 14 → AllocatesAt held old old near areas (Err chunk.Crowded) → ⊥
not_crowded held old near areas few at = omega (arith, few, crowded_many held old old near areas at)

module _ (held : Held) (near areas : ℕ) where
  make_crowds : (inode : Inode) (new : List Changed) → MakesAt held [] new inode near areas (Err chunk.Crowded) → ⊥
  make_crowds inode new (inl at) = not_crowded held [] near areas (omega arith) at
  make_crowds inode new (inr (inl m)) = not_crowded held m.one near areas (omega (arith, taken_more held [] m.one near areas m.handle m.first)) m.second
  make_crowds inode new (inr (inr m)) =
      let many = m.fills in
      omega (arith, many, taken_more held [] m.one near areas m.handle m.first, taken_more held m.one m.two near areas m.page m.second)

  link_crowds : (inode : Inode) (new : List Changed) → LinksAt held [] new inode near areas (Err chunk.Crowded) → ⊥
  link_crowds inode new (inl at) = not_crowded held [] near areas (omega arith) at
  link_crowds inode new (inr (same, m)) = let many = m.many in omega (arith, many, taken_more held [] m.one near areas m.handle m.first)

  make_long : (inode : Inode) (new : List Changed) (handle : ℕ) → MakesAt held [] new inode near areas (Ok handle) → length new ≤ 13
  make_long inode new handle m =
      omega (arith, taken_more held [] m.one near areas handle m.first, taken_more held m.one m.two near areas m.page m.second, put_more m.two m.fills.mid m.page _ m.fills.page_put, inode_more m.fills.mid new handle _ m.fills.inode_put)

  link_long : (inode : Inode) (new : List Changed) (handle : ℕ) → LinksAt held [] new inode near areas (Ok handle) → length new ≤ 13
  link_long inode new handle m = omega (arith, taken_more held [] m.one near areas handle m.first, inode_more m.one new handle _ m.puts)

  -- ---- slots that are left

  module _ (truth : Truth) (few : areas ≤ 64) (same : IsTruth held truth) (is : IsChunked areas truth) where
    make_full : (inode : Inode) (new : List Changed) (spare : ℕ) → MakesAt held [] new inode near areas (Err (chunk.Full spare)) → TellsFew areas truth spare
    make_full inode new spare (inl at) = few_two areas near held truth few same is spare (inl at)
    make_full inode new spare (inr (inl m)) = few_two areas near held truth few same is spare (inr (m.handle, m.one, m.first, m.second))
    make_full inode new spare (inr (inr m)) = absurd m.fills

    link_full : (inode : Inode) (new : List Changed) (spare : ℕ) → LinksAt held [] new inode near areas (Err (chunk.Full spare)) → TellsFew areas truth spare
    link_full inode new spare (inl at) = few_two areas near held truth few same is spare (inl at)
    link_full inode new spare (inr (other, m)) = absurd cc

  -- ---- what is needed

  make_needs : (inode : Inode) (new : List Changed) (at : ℕ) (mode : Mode) → MakesAt held [] new inode near areas (Err (chunk.Need at mode)) → OnSlots held near areas [] at mode
  make_needs inode new at mode (inl needs) = record { draft = []; taken = none; needs = needs }
  make_needs inode new at mode (inr (inl m)) = record { draft = m.one; taken = more [] m.one m.handle none m.first; needs = m.second }
  make_needs inode new at mode (inr (inr m)) = absurd m.fills

  link_needs : (inode : Inode) (new : List Changed) (at : ℕ) (mode : Mode) → LinksAt held [] new inode near areas (Err (chunk.Need at mode)) → OnSlots held near areas [] at mode
  link_needs inode new at mode (inl needs) = record { draft = []; taken = none; needs = needs }
  link_needs inode new at mode (inr (other, m)) = absurd cc

-- ---- where no slot is left

module _ (held : Held) (near areas : ℕ) where
  make_none : (inode : Inode) (new : List Changed) (spare : ℕ) → MakesAt held [] new inode near areas (Err (chunk.Full spare)) → NoSlots held near areas [] spare
  make_none inode new spare (inl full) = record { draft = []; taken = none; full = full }
  make_none inode new spare (inr (inl m)) = record { draft = m.one; taken = more [] m.one m.handle none m.first; full = m.second }
  make_none inode new spare (inr (inr m)) = absurd m.fills

  link_none : (inode : Inode) (new : List Changed) (spare : ℕ) → LinksAt held [] new inode near areas (Err (chunk.Full spare)) → NoSlots held near areas [] spare
  link_none inode new spare (inl full) = record { draft = []; taken = none; full = full }
  link_none inode new spare (inr (other, m)) = absurd cc

  pub none_stops : (error : ChunkError) (stop : ChangeError) → ((spare : ℕ) → error ≡ chunk.Full spare → NoSlots held near areas [] spare) → StopsByChunks error stop → IfFull (NoSlots held near areas []) stop
  none_stops (chunk.Need at mode) stop full s = subst (IfFull (NoSlots held near areas [])) (sym s) tt
  none_stops (chunk.Full spare) stop full s = subst (IfFull (NoSlots held near areas [])) (sym s) (full spare refl)
  none_stops chunk.OutOfMemory stop full s = subst (IfFull (NoSlots held near areas [])) (sym s) tt
  none_stops chunk.Stale stop full s = subst (IfFull (NoSlots held near areas [])) (sym s) tt
  none_stops chunk.Crowded stop full s = subst (IfFull (NoSlots held near areas [])) (sym s) tt

  -- the file that is made has the first handle
  pub first_near : (draft : List Changed) (made : ℕ) → IsMade held near areas draft made → IsFirstNear held near areas made
  first_near draft made (inode, inl m) = (m.one, m.first)
  first_near draft made (inode, inr m) = (m.one, m.first)

-- ---- of a file with a tree or a link

module _ (held : Held) (near areas : ℕ) where
  pub made_crowds : (inode : Inode) (new : List Changed) → MadeAt held [] new inode near areas (Err chunk.Crowded) → ⊥
  made_crowds inode new (inl m) = make_crowds held near areas inode new m
  made_crowds inode new (inr m) = link_crowds held near areas inode new m

  pub made_long : (inode : Inode) (new : List Changed) (handle : ℕ) → MadeAt held [] new inode near areas (Ok handle) → length new ≤ 13
  made_long inode new handle (inl m) = make_long held near areas inode new handle m
  made_long inode new handle (inr m) = link_long held near areas inode new handle m

  pub made_full : (truth : Truth) → areas ≤ 64 → IsTruth held truth → IsChunked areas truth → (inode : Inode) (new : List Changed) (spare : ℕ) → MadeAt held [] new inode near areas (Err (chunk.Full spare))
      → TellsFew areas truth spare
  made_full truth few same is inode new spare (inl m) = make_full held near areas truth few same is inode new spare m
  made_full truth few same is inode new spare (inr m) = link_full held near areas truth few same is inode new spare m

  pub made_needs : (inode : Inode) (new : List Changed) (at : ℕ) (mode : Mode) → MadeAt held [] new inode near areas (Err (chunk.Need at mode)) → OnSlots held near areas [] at mode
  made_needs inode new at mode (inl m) = make_needs held near areas inode new at mode m
  made_needs inode new at mode (inr m) = link_needs held near areas inode new at mode m

  pub made_none : (inode : Inode) (new : List Changed) (spare : ℕ) → MadeAt held [] new inode near areas (Err (chunk.Full spare)) → NoSlots held near areas [] spare
  made_none inode new spare (inl m) = make_none held near areas inode new spare m
  made_none inode new spare (inr m) = link_none held near areas inode new spare m

-- ---- what stops it

pub stops : (areas : ℕ) (truth : Truth) (tree : Tree) (inode : Inode) (body : Body) (new : List Changed) (error : ChunkError) (stop : ChangeError) → (error ≡ chunk.Crowded → ⊥) → ((spare : ℕ) → error ≡ chunk.Full spare → TellsFew areas truth spare)
    → MakesIn areas truth [] new tree inode body (Err error) → StopsByChunks error stop → MakesNew areas truth tree inode body (Err stop)
stops areas truth tree inode body new (chunk.Need at mode) stop crowds full m s = subst (λ (x : ChangeError). MakesNew areas truth tree inode body (Err x)) (sym s) tt
stops areas truth tree inode body new (chunk.Full spare) stop crowds full m s =
    let few = full spare refl in subst (λ (x : ChangeError). MakesNew areas truth tree inode body (Err x)) (sym s) (record { spare_is = few.0; few = few.1 })
stops areas truth tree inode body new chunk.OutOfMemory stop crowds full m s = subst (λ (x : ChangeError). MakesNew areas truth tree inode body (Err x)) (sym s) tt
stops areas truth tree inode body new chunk.Stale stop crowds full m s = absurd m
stops areas truth tree inode body new chunk.Crowded stop crowds full m s = absurd (crowds refl)

pub needs : (areas : ℕ) (held : Held) (near : ℕ) (error : ChunkError) (stop : ChangeError) → ((at : ℕ) (mode : Mode) → error ≡ chunk.Need at mode → OnSlots held near areas [] at mode) → NeedsFairly {X = ℕ} areas held (Err error) → StopsByChunks error stop
    → NeedsBy areas held (OnSlots held near areas []) stop
needs areas held near (chunk.Need at mode) stop on n s = subst (NeedsBy areas held (OnSlots held near areas [])) (sym s) (n.0, n.1, on at mode refl)
needs areas held near (chunk.Full spare) stop on n s = subst (NeedsBy areas held (OnSlots held near areas [])) (sym s) tt
needs areas held near chunk.OutOfMemory stop on n s = subst (NeedsBy areas held (OnSlots held near areas [])) (sym s) tt
needs areas held near chunk.Stale stop on n s = subst (NeedsBy areas held (OnSlots held near areas [])) (sym s) tt
needs areas held near chunk.Crowded stop on n s = subst (NeedsBy areas held (OnSlots held near areas [])) (sym s) tt
