-- A file that loses a name.
use Rattle.std.proofs.Common.{◌≡◌, ℕ, ◌-◌, ◌<◌, ◌≤◌, Bool, true, false, List, [], ◌∷◌, Some, refl, sym, ap, ◌∙◌, subst, arith, inl, inr}
use Rattle.std.specs.Prelude.{◌≢◌, ◌⊎◌, nat_le, nat_lt, if◌then◌else◌, length, Err}
use Rattle.std.proofs.lemmas.Bool.{le-leb}
use Rattle.std.proofs.lemmas.Bool.Decides.{nat_tests}
use Rattle.bx_chunks.specs.Allocating.{NeedsFairly}
use Rattle.bx_chunks.specs.Freeing.{own_at}
use Rattle.bx_chunks.specs.Putting.{own_of}
use Rattle.bx_changes.proofs.FileChanged.{changed_is_put}
use Rattle.bx_chunks.specs.declared.error.ChunkError.{ChunkError}
use Rattle.bx_chunks.specs.declared.error.ChunkError.TheVariants as chunk
use Rattle.bx_inodes.specs.Inodes.{HoldsInode}
use Rattle.bx_inodes.specs.Writing.{PutsInode}
use Rattle.bx_inodes.specs.Stops.{NeedsOn}
use Rattle.bx_inodes.specs.declared.stop.Stop.{Stop}
use Rattle.bx_places.specs.Handles.{parts_of}
use Rattle.bx_layout.specs.declared.block.Block.{Block}
use Rattle.bx_layout.specs.declared.inode.Inode.{Inode}
use Rattle.bx_making.specs.Burying.{BuriesAt, BuriesFile, BuriesIn, IsBare}
use Rattle.bx_making.proofs.Steps.{fifteen}
use Rattle.bx_model.specs.Edits.{changed, without}
use Rattle.bx_model.specs.declared.tree.Tree.{Tree}
use Rattle.bx_records.specs.Drafts.{Changed, with_block}
use Rattle.bx_tree_files.specs.declared.file.Body.{Body}
use Rattle.bx_tree_files.specs.declared.file.Body.TheVariants.{Bytes, Path, Names}
use Rattle.bx_tree_files.specs.declared.file.File.{File}
use Rattle.bx_tree_files.specs.Changes.{unlinked}
use Rattle.bx_tree_files.specs.declared.file.Name.{Name}
use Rattle.bx_tree_files.specs.Files.{file_at, is_directory, with_file}
use Rattle.bx_tree_files.specs.Names.{names_of}
use Rattle.bx_tree_files.specs.Times.{Time}
use Rattle.bx_truth.specs.Chunks.{chunks_of}
use Rattle.bx_truth.specs.Rewritten.{KeepsBody}
use Rattle.bx_truth.specs.Shown.{IsShown}
use Rattle.bx_truth.specs.Stands.{StandsFor}
use Rattle.bx_truth.specs.Stored.{HasBody, HasFields}
use Rattle.bx_truth.proofs.Cases.{eq_false, eq_true}
use Rattle.bx_truth.proofs.Put.{shown}
use Rattle.bx_views.specs.Truths.{Held, Truth, with_draft}
use Rattle.bx_entries.specs.Removing.{IsLastName, OnUnlinking}
use Rattle.bx_entries.specs.Stopping.{StopsByChunks}
use Rattle.bx_entries.specs.Unlinking.{IsFileOf, Unlinks, UnlinksIn}
use Rattle.bx_entries.proofs.InodePut.{fits}

few_more : (xs : List Changed) (at : ℕ) (block : Block) → length xs ≤ 12 → 16 ≤ length (with_block xs at block) → ⊥
few_more xs at block few many = let more : 15 ≤ length xs = fifteen xs (with_block xs at block) at block refl many in omega (arith, few, more)

above16 : (n : ℕ) → 16 < n → 16 ≤ n
above16 n lt = omega (arith, lt)

module _ (areas : ℕ) (held : Held) (truth : Truth) (old : List Changed) (tree : Tree) (handle : ℕ) (inode : Inode) (file : File) (now : Time) (f : IsFileOf areas held truth old tree handle inode file) where
  is_shown : IsShown (chunks_of areas (with_draft truth old)) f.is.owner handle (f.is.stored handle) file
  is_shown = shown areas (with_draft truth old) tree handle file f.is f.there

  none_in : (names : List Name) → nat_lt 0 (length names) ≡ false → names ≡ []
  none_in [] few = refl
  none_in (name ∷ names) few = absurd (grind (arith, nat_tests, few))

  pub bare : IsBare file.body
  bare = by file.body is_shown.body f.empty
    where
      by : (b : Body) → HasBody (chunks_of areas (with_draft truth old)) f.is.owner handle (f.is.stored handle) b → (is_directory file ≡ true → nat_lt 0 (length (names_of b)) ≡ false) → IsBare b
      by (Bytes bytes) has none = tt
      by (Path path) has none = tt
      by (Names parent next names) has none = none_in names (none (eq_true file.kind 2 (sym is_shown.fields.kind ∙ has.kind)))

  abbrev after : Bool → Bool → Tree
  after d few = if d then without tree handle else (if few then without tree handle else changed tree handle (unlinked now))

  -- it dies
  dies_by : (d : Bool) → is_directory file ≡ d → (inode.kind ≡ 2) ⊎ (inode.nlink ≤ 1) → after (is_directory file) (nat_le file.nlink 1) ≡ without tree handle
  dies_by true is last = rw is refl
  dies_by false is (inl two) = let both : false ≡ true = sym is ∙ eq_true file.kind 2 (sym f.fields.kind ∙ two) in absurd cc
  dies_by false is (inr last) =
      let few : file.nlink ≤ 1 = let same = f.fields.nlink in omega (arith, same, last) in
      rw (is, le-leb file.nlink 1 few) refl

  pub dies : (new : List Changed) → (inode.kind ≡ 2) ⊎ (inode.nlink ≤ 1) → BuriesFile areas truth old new tree handle inode → Unlinks areas truth old new tree handle file now
  dies new last b = record {
    stands = subst (λ (t : Tree). StandsFor areas (with_draft truth new) t) (sym (dies_by (is_directory file) refl last)) b.stands;
    leads = b.leads;
  }

  pub stopped : (new : List Changed) → length old ≤ 12 → (error : ChunkError) (stop : Stop) → BuriesAt held old new handle inode (Err error) → BuriesIn areas truth old new tree handle inode (Err error) → StopsByChunks error stop
      → UnlinksIn areas truth old new tree handle file now (Err stop)
  stopped new few (chunk.Need at mode) stop b i s = subst (λ (x : Stop). UnlinksIn areas truth old new tree handle file now (Err x)) (sym s) tt
  stopped new few chunk.OutOfMemory stop b i s = subst (λ (x : Stop). UnlinksIn areas truth old new tree handle file now (Err x)) (sym s) tt
  stopped new few chunk.Stale stop b i s = absurd i
  stopped new few (chunk.Full spare) stop b i s = absurd i
  stopped new few chunk.Crowded stop (inl none) i s = absurd (few_more old (own_at handle) (own_of (parts_of handle).area none.marked.slots_now) few (above16 _ none.no_room))
  stopped new few chunk.Crowded stop (inr only) i s =
      absurd (few_more old (own_at handle) (own_of (parts_of handle).area only.marks.marked.slots_now) few (subst (λ (d : List Changed). 16 ≤ length d) only.marks.now only.many))

  -- it has one name less
  abbrev less : Inode
  less = record inode { nlink = inode.nlink - 1; ctime = now }

  keeps : KeepsBody inode less
  keeps = record { kind = refl; size = refl; tail = refl; tree = refl; parent = refl; next = refl; path = refl }

  fields : HasFields less (unlinked now file)
  fields = record { kind = f.fields.kind; mode = f.fields.mode; nlink = ap (λ (n : ℕ). n - 1) f.fields.nlink; uid = f.fields.uid; gid = f.fields.gid; atime = f.fields.atime; mtime = f.fields.mtime; ctime = refl }

  pub lessens : (new : List Changed) → inode.kind ≢ 2 → 1 < inode.nlink → PutsInode old new handle (record inode { nlink = inode.nlink - 1; ctime = now })
      → ((areas : ℕ) (truth : Truth) (tree : Tree) (file file_now : File) (kept : Inode) → StandsFor areas (with_draft truth old) tree
      → file_at tree.files handle ≡ Some file → HoldsInode areas (with_draft truth old) handle kept → KeepsBody kept (record inode { nlink = inode.nlink - 1; ctime = now })
      → HasFields (record inode { nlink = inode.nlink - 1; ctime = now }) file_now → file_now.handle ≡ handle → file_now.body ≡ file.body
      → StandsFor areas (with_draft truth new) (record tree { files = with_file tree.files file_now })) → Unlinks areas truth old new tree handle file now
  lessens new other more puts put =
      let many : 1 < file.nlink = let same = f.fields.nlink in omega (arith, same, more) in
      let test : nat_le file.nlink 1 ≡ false = grind (arith, nat_tests, many) in
      let none : is_directory file ≡ false = eq_false file.kind 2 (λ two. other (f.fields.kind ∙ two)) in
      let is : after (is_directory file) (nat_le file.nlink 1) ≡ changed tree handle (unlinked now) = rw (none, test) refl in
      record {
        stands = subst (λ (t : Tree). StandsFor areas (with_draft truth new) t) (sym is)
            (subst (λ (files : List File). StandsFor areas (with_draft truth new) (record tree { files = files })) (sym (changed_is_put tree.files handle (unlinked now) file f.is.in_order f.there f.handle_is))
            (put areas truth tree file (unlinked now file) inode f.is f.there f.holds keeps fields f.handle_is refl));
        leads = λ hints fit. fits areas held truth old new handle inode less f.same f.is.chunked f.holds puts hints refl fit;
      }

-- what is needed where a file dies with its last name
pub dying_needs : (areas : ℕ) (held : Held) (old new : List Changed) (handle : ℕ) (inode : Inode) → IsLastName inode → (error : ChunkError) (stop : Stop) → NeedsFairly {X = Unit {0}} areas held (Err error) → BuriesAt held old new handle inode (Err error)
    → StopsByChunks error stop → NeedsOn areas held (OnUnlinking handle inode) {T = Unit {0}} (Err stop)
dying_needs areas held old new handle inode last (chunk.Need at mode) stop n b s = subst (λ (e : Stop). NeedsOn areas held (OnUnlinking handle inode) {T = Unit {0}} (Err e)) (sym s) (n.0, n.1, (last, b.0.at_is, b.1))
dying_needs areas held old new handle inode last (chunk.Full spare) stop n b s = absurd b
dying_needs areas held old new handle inode last chunk.OutOfMemory stop n b s = subst (λ (e : Stop). NeedsOn areas held (OnUnlinking handle inode) {T = Unit {0}} (Err e)) (sym s) tt
dying_needs areas held old new handle inode last chunk.Stale stop n b s = subst (λ (e : Stop). NeedsOn areas held (OnUnlinking handle inode) {T = Unit {0}} (Err e)) (sym s) tt
dying_needs areas held old new handle inode last chunk.Crowded stop n b s = subst (λ (e : Stop). NeedsOn areas held (OnUnlinking handle inode) {T = Unit {0}} (Err e)) (sym s) tt
