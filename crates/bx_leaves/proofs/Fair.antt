-- What a change of an entry needs isn't held and is on the path of the walk to the leaf; and what it puts is held exclusively.
use Rattle.std.proofs.Common.{◌≡◌, ℕ, List, Option, Some, None, refl, sym, ap, subst, ◌∙◌, inl, inr}
use Rattle.std.specs.Prelude.{Result, Ok, Err, IsSome, OnOk, ◌⊎◌}
use Rattle.std.specs.Option.{option_or}
use Rattle.std.proofs.lemmas.Bool.{cases_eq}
use Rattle.bx_base.specs.declared.names.Mode.{Mode}
use Rattle.bx_base.specs.declared.names.Mode.TheVariants.{Shared, Exclusive}
use Rattle.bx_layout.specs.declared.block.Block.{Block}
use Rattle.bx_layout.specs.Blocks.{HasParts}
use Rattle.bx_records.specs.Drafts.{Changed, block_in, with_block}
use Rattle.bx_page.specs.Contents.{Contents}
use Rattle.bx_blink.specs.bx_truth.specs.Chunks.{block_at}
use Rattle.bx_blink.specs.bx_views.specs.Attempts.{AreBlocks, IsHeldDraft}
use Rattle.bx_blink.specs.bx_views.specs.Truths.{Held, Hints}
use Rattle.bx_blink.specs.declared.error.BlinkError.{BlinkError}
use Rattle.bx_blink.specs.declared.error.BlinkError.TheVariants.{Need, Stale, Full, NoRoom, Absent, Present, OutOfMemory, Crowded}
use Rattle.bx_blink.specs.Walks.{Reads, reads_with, start, most}
use Rattle.bx_blink.proofs.Landings.{landing}
use Rattle.bx_blink.proofs.Paths.{needs, not_led}
use Rattle.bx_leaves.specs.Leaves.{OnLeafPath, NeedsLeaf, IsLeafAt, PutsPage, InsertsAt, RemovesAt}
use Rattle.bx_leaves.specs.Changes.{NeedsUnheld}
use Rattle.bx_leaves.proofs.Written.{put_here, put_elsewhere}

-- what is held exclusively is held shared
abbrev pub Shares : Held → Type 0
Shares held = (at : ℕ) (block : Block) → held at Exclusive ≡ Some block → held at Shared ≡ Some block

none_left : (o held : Option Block) → option_or o held ≡ None → held ≡ None
none_left None held e = e
none_left (Some block) held e = absurd cc

none_exclusive : (held : Held) (at : ℕ) → Shares held → held at Shared ≡ None → (mode : Mode) → held at mode ≡ None
none_exclusive held at shares none Shared = none
none_exclusive held at shares none Exclusive = by_held (held at Exclusive) refl
  where
    by_held : (o : Option Block) → held at Exclusive ≡ o → held at Exclusive ≡ None
    by_held None e = e
    by_held (Some block) e = let both : None ≡ Some block = sym none ∙ shares at block e in absurd cc

module _ (held : Held) (hints : Hints) (old : List Changed) (root : ℕ) (key : List ℕ) (shares : Shares held) where
  abbrev reads : Reads
  reads = reads_with held hints old

  leaf_fair : (at : ℕ) (mode : Mode) → NeedsLeaf (reads_with held hints old) root key at mode → (held at mode ≡ None) × OnLeafPath (reads_with held hints old) root key at mode
  leaf_fair at mode (inl e) =
      let n = needs reads 0 Exclusive key (OnLeafPath reads root key) most (start root Exclusive) at mode e (not_led reads (OnLeafPath reads root key) root Exclusive) (λ a m o. o) in
      (none_exclusive held at shares (none_left (block_in old at) (held at Shared) n.0) mode, n.1)
  leaf_fair at mode (inr s) =
      let l = landing reads 0 Exclusive key most (start root Exclusive) s.handle s.page s.end in
      subst (λ (m : Mode). (held at m ≡ None) × OnLeafPath reads root key at m) (sym s.mode_is)
      (subst (λ (a : ℕ). (held a Exclusive ≡ None) × OnLeafPath reads root key a Exclusive) (sym s.at_is)
      (none_left (block_in old (block_at s.handle)) (held (block_at s.handle) Exclusive) s.none, l.path))

  pub inserts_fair : (new : List Changed) (value : List ℕ) (result : Result Unit BlinkError) → InsertsAt held hints old new root key value result → NeedsUnheld held (OnLeafPath (reads_with held hints old) root key) result
  inserts_fair new value (Ok done) f = tt
  inserts_fair new value (Err (Need at mode)) f = leaf_fair at mode f
  inserts_fair new value (Err Stale) f = tt
  inserts_fair new value (Err (Full spare)) f = tt
  inserts_fair new value (Err (NoRoom leaf)) f = tt
  inserts_fair new value (Err Absent) f = tt
  inserts_fair new value (Err Present) f = tt
  inserts_fair new value (Err OutOfMemory) f = tt
  inserts_fair new value (Err Crowded) f = tt

  pub removes_fair : (new : List Changed) (result : Result Unit BlinkError) → RemovesAt held hints old new root key result → NeedsUnheld held (OnLeafPath (reads_with held hints old) root key) result
  removes_fair new (Ok done) f = tt
  removes_fair new (Err (Need at mode)) f = leaf_fair at mode f
  removes_fair new (Err Stale) f = tt
  removes_fair new (Err (Full spare)) f = tt
  removes_fair new (Err (NoRoom leaf)) f = tt
  removes_fair new (Err Absent) f = tt
  removes_fair new (Err Present) f = tt
  removes_fair new (Err OutOfMemory) f = tt
  removes_fair new (Err Crowded) f = tt

-- ---- what is put

-- a block that is put where one is held exclusively
pub put_held : (held : Held) (draft : List Changed) (at : ℕ) (block : Block) → IsHeldDraft held draft → IsSome (held at Exclusive) → HasParts block → IsHeldDraft held (with_block draft at block)
put_held held draft at block before there parts = record {
  each = λ other some. each_at other some (cases_eq other at);
  parts = λ are other changed found. parts_at are other changed found (cases_eq other at);
}
  where
    each_at : (other : ℕ) → IsSome (block_in (with_block draft at block) other) → (other ≡ at) ⊎ (other ≡ at → ⊥) → IsSome (held other Exclusive)
    each_at other some (inl same) = subst (λ (a : ℕ). IsSome (held a Exclusive)) (sym same) there
    each_at other some (inr apart) = before.each other (subst (λ (o : Option Block). IsSome o) (put_elsewhere draft at other block apart) some)

    parts_at : AreBlocks held → (other : ℕ) (changed : Block) → block_in (with_block draft at block) other ≡ Some changed → (other ≡ at) ⊎ (other ≡ at → ⊥) → HasParts changed
    parts_at are other changed found (inl same) =
        let both : Some block ≡ Some changed = sym (put_here draft at block) ∙ ap (λ (a : ℕ). block_in (with_block draft at block) a) (sym same) ∙ found in
        let one : block ≡ changed = cc in
        subst HasParts one parts
    parts_at are other changed found (inr apart) = before.parts are other changed (sym (put_elsewhere draft at other block apart) ∙ found)

pub page_held : (held : Held) (old new : List Changed) (handle : ℕ) (page : Contents) → IsHeldDraft held old → IsSome (held (block_at handle) Exclusive) → PutsPage old new handle page → IsHeldDraft held new
page_held held old new handle page before there p = subst (λ (d : List Changed). IsHeldDraft held d) (sym p.put) (put_held held old (block_at handle) p.block before there p.parts)

-- what is seen exclusively, over a draft of what is held so, is held so
pub seen_held : (held : Held) (draft : List Changed) (at : ℕ) (block : Block) → IsHeldDraft held draft → option_or (block_in draft at) (held at Exclusive) ≡ Some block → IsSome (held at Exclusive)
seen_held held draft at block before seen = by_draft (block_in draft at) refl seen
  where
    by_draft : (o : Option Block) → block_in draft at ≡ o → option_or o (held at Exclusive) ≡ Some block → IsSome (held at Exclusive)
    by_draft None e there = subst (λ (x : Option Block). IsSome x) (sym there) refl
    by_draft (Some changed) e there = before.each at (subst (λ (x : Option Block). IsSome x) (sym e) refl)

-- what is put where a leaf is held exclusively is held so
module _ (held : Held) (hints : Hints) (old new : List Changed) (root : ℕ) (key : List ℕ) (before : IsHeldDraft held old) where
  leaf_held : (handle : ℕ) (page put : Contents) → IsLeafAt (reads_with held hints old) root key handle page → PutsPage old new handle put → IsHeldDraft held new
  leaf_held handle page put l p = page_held held old new handle put before (seen_held held old (block_at handle) l.block before l.held) p

  pub inserts_held : (value : List ℕ) (result : Result Unit BlinkError) → InsertsAt held hints old new root key value result → OnOk result (IsHeldDraft held new)
  inserts_held value (Ok done) f = leaf_held f.handle f.page _ (((f.takes).lacks).leaf) f.puts
  inserts_held value (Err e) f = tt

  pub removes_held : (result : Result Unit BlinkError) → RemovesAt held hints old new root key result → OnOk result (IsHeldDraft held new)
  removes_held (Ok done) f = leaf_held f.handle f.page _ ((f.has).leaf) f.puts
  removes_held (Err e) f = tt
