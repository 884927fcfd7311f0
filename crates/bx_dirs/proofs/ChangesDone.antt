-- What adding an entry and taking one out need and hold, and what they make of a file tree.
use Rattle.std.proofs.Common.{◌≡◌, ℕ, ◌^◌, ◌<◌, List, inl, inr, Some, Result, Ok, Err}
use Rattle.std.specs.Prelude.{Contains, OnOk}
use Rattle.bx_base.specs.declared.names.Mode.{Mode}
use Rattle.bx_model.specs.declared.tree.Tree.{Tree}
use Rattle.bx_records.specs.Drafts.{Changed}
use Rattle.bx_tree_files.specs.declared.file.File.{File}
use Rattle.bx_tree_files.specs.declared.file.Name.{Name}
use Rattle.bx_tree_files.specs.Entries.{entry_named, with_name, without_name}
use Rattle.bx_truth.specs.Keys.{name_key, name_value, entry_key, entry_value}
use Rattle.bx_views.specs.Attempts.{IsHeldDraft}
use Rattle.bx_views.specs.Truths.{Truth, Held, Hints}
use Rattle.bx_leaves.specs.bx_blink.specs.declared.error.BlinkError.{BlinkError}
use Rattle.bx_leaves.specs.bx_blink.specs.declared.error.BlinkError.TheVariants.{Need, Stale, Full, NoRoom, Absent, Present, OutOfMemory, Crowded}
use Rattle.bx_leaves.specs.Changes.{NeedsUnheld}
use Rattle.bx_leaves.proofs.Fair.{Shares, inserts_fair, inserts_held, removes_fair, removes_held}
use Rattle.bx_dirs.specs.Changes.{AddsAt, OnAddPath, OnTakePath, TakesAt}
use Rattle.bx_dirs.specs.Edits.{EditsDirectory, IsDirectoryUnder}
use Rattle.bx_dirs.proofs.DirectoryEdits.{edits, entries, pages, under}
use Rattle.bx_dirs.proofs.EntriesChanged.{are_with, are_without, both_put, both_taken}

-- what is needed on one path is needed on a longer one
on_path : {X : Type 0} (held : Held) (P Q : ℕ → Mode → Type 0) → ((at : ℕ) (mode : Mode) → P at mode → Q at mode) → (result : Result X BlinkError) → NeedsUnheld held P result → NeedsUnheld held Q result
on_path held P Q more (Ok done) n = tt
on_path held P Q more (Err (Need at mode)) n = (n.0, more at mode n.1)
on_path held P Q more (Err Stale) n = tt
on_path held P Q more (Err (Full spare)) n = tt
on_path held P Q more (Err (NoRoom leaf)) n = tt
on_path held P Q more (Err Absent) n = tt
on_path held P Q more (Err Present) n = tt
on_path held P Q more (Err OutOfMemory) n = tt
on_path held P Q more (Err Crowded) n = tt

module _ (held : Held) (hints : Hints) (old new : List Changed) (root : ℕ) (entry : Name) where
  pub adds_fair : Shares held → (result : Result (Unit {0}) BlinkError) → AddsAt held hints old new root entry result → NeedsUnheld held (OnAddPath held hints old root entry) result
  adds_fair shares (Ok done) a = tt
  adds_fair shares (Err error) (inl first) =
      on_path {X = Unit {0}} held _ (OnAddPath held hints old root entry) (λ at mode on. inl on) (Err error) (inserts_fair held hints old root (name_key entry.name) shares old (name_value entry.number entry.handle) (Err error) first)
  adds_fair shares (Err error) (inr second) =
      on_path {X = Unit {0}} held _ (OnAddPath held hints old root entry) (λ at mode on. inr (record { mid = second.mid; named = second.named; numbered = on })) (Err error)
      (inserts_fair held hints second.mid root (entry_key entry.number) shares second.mid (entry_value entry.handle entry.name) (Err error) second.numbered)

  pub adds_held : IsHeldDraft held old → (result : Result (Unit {0}) BlinkError) → AddsAt held hints old new root entry result → OnOk result (IsHeldDraft held new)
  adds_held before (Ok done) a =
      inserts_held held hints a.mid new root (entry_key entry.number)
      (inserts_held held hints old a.mid root (name_key entry.name) before (name_value entry.number entry.handle) (Ok tt) a.named)
      (entry_value entry.handle entry.name) (Ok done) a.numbered
  adds_held before (Err error) a = tt

module _ (held : Held) (hints : Hints) (old new : List Changed) (root number : ℕ) (name : List ℕ) where
  pub takes_fair : Shares held → (result : Result (Unit {0}) BlinkError) → TakesAt held hints old new root number name result → NeedsUnheld held (OnTakePath held hints old root number name) result
  takes_fair shares (Ok done) a = tt
  takes_fair shares (Err error) (inl first) =
      on_path {X = Unit {0}} held _ (OnTakePath held hints old root number name) (λ at mode on. inl on) (Err error) (removes_fair held hints old root (name_key name) shares old (Err error) first)
  takes_fair shares (Err error) (inr second) =
      on_path {X = Unit {0}} held _ (OnTakePath held hints old root number name) (λ at mode on. inr (record { mid = second.mid; named = second.named; numbered = on })) (Err error)
      (removes_fair held hints second.mid root (entry_key number) shares second.mid (Err error) second.numbered)

  pub takes_held : IsHeldDraft held old → (result : Result (Unit {0}) BlinkError) → TakesAt held hints old new root number name result → OnOk result (IsHeldDraft held new)
  takes_held before (Ok done) a =
      removes_held held hints a.mid new root (entry_key number) (removes_held held hints old a.mid root (name_key name) before (Ok tt) a.named) (Ok done) a.numbered
  takes_held before (Err error) a = tt

-- ---- the file tree

module _ (areas : ℕ) (held : Held) (hints : Hints) (truth : Truth) (old new : List Changed) (root : ℕ) (tree : Tree) (handle : ℕ) (file : File) (parent next : ℕ) (names : List Name)
    (d : IsDirectoryUnder areas held hints truth old root tree handle file parent next names) where
  pub adds_tree : (entry : Name) → entry.number < 2 ^ 32 → entry.handle < 2 ^ 64 → ((other : Name) → Contains names other → other.number < entry.number)
      → (result : Result (Unit {0}) BlinkError) → AddsAt held hints old new root entry result
      → OnOk result (EditsDirectory areas held hints truth old new root tree handle file parent next (with_name names entry.number entry.name entry.handle))
  adds_tree entry number_fits handle_fits above (Ok done) a =
      let p = pages areas held hints truth old root tree handle file parent next names d in
      let u = under areas held hints truth old root tree handle file parent next names d in
      let e = entries areas held hints truth old root tree handle file parent next names d in
      let b = both_put areas held hints truth old new root p names entry u e a in
      edits areas held hints truth old root tree handle file parent next names d new b.after (with_name names entry.number entry.name entry.handle) b.edited
      (are_with areas held hints truth old new root p names entry u e number_fits handle_fits above b)
  adds_tree entry number_fits handle_fits above (Err error) a = tt

  pub takes_tree : (text : List ℕ) (entry : Name) → entry_named names text ≡ Some entry → (result : Result (Unit {0}) BlinkError) → TakesAt held hints old new root entry.number text result
      → OnOk result (EditsDirectory areas held hints truth old new root tree handle file parent next (without_name names text))
  takes_tree text entry found (Ok done) a =
      let p = pages areas held hints truth old root tree handle file parent next names d in
      let u = under areas held hints truth old root tree handle file parent next names d in
      let e = entries areas held hints truth old root tree handle file parent next names d in
      let b = both_taken areas held hints truth old new root p names text entry u e found a in
      edits areas held hints truth old root tree handle file parent next names d new b.after (without_name names text) b.edited
      (are_without areas held hints truth old new root p names text entry u e found b)
  takes_tree text entry found (Err error) a = tt
