-- A piece of a regular file that isn't there yet: what is to be written first leaves each tree; and what else stops it.
use Rattle.std.proofs.Common.{◌≡◌, ℕ, true, false, List, [], Option, Some, None, sym, ap, ◌∙◌, subst, arith, inl, inr, Ok, Err}
use Rattle.std.specs.Prelude.{IfErr, IfNone, IfOk, IfSome, Result}
use Rattle.bx_blink.specs.declared.error.BlinkError.{BlinkError}
use Rattle.bx_blink.specs.declared.error.BlinkError.TheVariants as tree_error
use Rattle.bx_blink.specs.Hints.{HintsFit, Under}
use Rattle.bx_changes.specs.Growing.{LeavesTrees}
use Rattle.bx_changes.specs.declared.error.ChangeError.{ChangeError}
use Rattle.bx_changes.specs.declared.error.ChangeError.TheVariants.{Stopped, Full}
use Rattle.bx_entries.specs.bx_ready.specs.Keeping.{KeepsFiles}
use Rattle.bx_files.specs.Reads.{Tells}
use Rattle.bx_inodes.specs.Stands.{Stands}
use Rattle.bx_inodes.specs.declared.stop.Stop.{Stop}
use Rattle.bx_inodes.specs.declared.stop.Stop.TheVariants.{Need, Inner, Status, OutOfMemory}
use Rattle.bx_layout.specs.declared.block.Block.{Block}
use Rattle.bx_layout.specs.declared.inode.Inode.{Inode}
use Rattle.bx_leaves.specs.Changes.{NeedsUnheld}
use Rattle.bx_model.specs.declared.tree.Tree.{Tree}
use Rattle.bx_page.specs.Contents.{value_of}
use Rattle.bx_records.specs.Drafts.{Changed}
use Rattle.bx_entries.specs.bx_ready.specs.Lacking.{FindsRoom, MakesRoom}
use Rattle.bx_entries.specs.bx_ready.specs.Ready.{IsFileUnder, OnReadyPath, ReadiesIn}
use Rattle.bx_entries.specs.bx_ready.specs.Spare.{TellsFew}
use Rattle.bx_truth.specs.Chunks.{block_at, chunks_of}
use Rattle.bx_truth.specs.Keys.{content_key}
use Rattle.bx_truth.specs.PageTrees.{IsTree, PageTree, handle_in, map_of}
use Rattle.bx_truth.specs.Stored.{HasBody, IsRegular}
use Rattle.bx_truth.proofs.Frames.{handle_back}
use Rattle.bx_truth.proofs.OneFiles.{file_there}
use Rattle.bx_inodes.specs.Pages.{HasPages}
use Rattle.bx_inodes.proofs.Pages.{has_pages, inode_is}
use Rattle.bx_truth.proofs.Put.{shown}
use Rattle.bx_truth.proofs.Same.{chunk_is}
use Rattle.bx_tree_files.specs.declared.file.Body.TheVariants.{Bytes}
use Rattle.bx_sizes.proofs.Resized.{regular_bytes}
use Rattle.bx_sizes.proofs.Stops.{not_lost}
use Rattle.bx_views.specs.Truths.{Held, Hints, Truth}
use Rattle.bx_entries.specs.Lacking.{IfFirst}
use Rattle.bx_changes.specs.Stopping.{StopsChange}
use Rattle.bx_entries.proofs.Lacks.{first_if}
use Rattle.bx_entries.proofs.Asked.{ready_block}
use Rattle.bx_writes.specs.Lacking.{FindsEntry, MakesEntry}
use Rattle.bx_writes.specs.Steps.{FoundAt, IsPrepared, IsRegularOf, MissesIn, PreparesIn}

no_link : (kind : ℕ) → kind ≡ 1 → kind ≡ 5 → ⊥
no_link kind one five = omega (arith, one, five)

module _ (volume areas : ℕ) (held : Held) (hints : Hints) (truth : Truth) (tree : Tree) (handle : ℕ) (inode : Inode) (r : IsRegularOf volume areas held hints truth tree handle inode) (root : ℕ) (root_is : inode.tree ≡ root) where
  some_pages : HasPages areas held hints truth [] tree r.stands.is handle inode r.at.file
  some_pages = has_pages areas held hints truth [] tree handle inode r.at.file r.few r.same r.stands.is r.fit r.at.holds r.at.there (no_link inode.kind r.kind)

  pub under : (pages : PageTree) → IsTree (chunks_of areas truth) root pages → Under areas held hints truth [] root pages
  under pages is = record {
    few = r.few;
    same = r.same;
    chunked = r.stands.is.chunked;
    is = is;
    hints = subst (λ (n : ℕ). HintsFit areas hints truth n pages) root_is (r.fit.each handle inode pages r.at.holds (subst (λ (n : ℕ). IsTree (chunks_of areas truth) n pages) (sym root_is) is));
  }

  some_under : Under areas held hints truth [] root (some_pages.pages)
  some_under = subst (λ (n : ℕ). Under areas held hints truth [] n (some_pages.pages)) root_is some_pages.under

  file_under : (number : ℕ) (other : Tree) → Stands number areas truth other → IsFileUnder areas held hints truth root other
  file_under number other s = record {
    few = r.few;
    same = r.same;
    is = s.is;
    fit = r.fit;
    handle = handle;
    inode = inode;
    holds = r.at.holds;
    root_is = root_is;
    no_link = no_link inode.kind r.kind;
    file = r.at.file;
    there = file_there (chunks_of areas truth) r.stands.is.owner s.is.owner r.stands.is.stored s.is.stored tree.files other.files r.stands.is.are_files s.is.are_files handle r.at.file r.at.there;
  }

  pub leaves : (blocks : List Changed) → ((truth : Truth) (tree : Tree) → IsFileUnder areas held hints truth root tree → KeepsFiles areas truth [] blocks tree) → LeavesTrees areas truth blocks
  leaves blocks keeps = record {
    stands = λ number other s. record { is = (keeps truth other (file_under number other s)).stands; volume_is = s.volume_is; file_tree = s.file_tree };
    leads = (keeps truth tree (file_under volume tree r.stands)).leads;
  }

  -- what is to be written first makes room
  pub making : (index : ℕ) (key : List ℕ) (found : Option (List Changed)) (draft : List Changed) → key ≡ content_key index → found ≡ Some draft
      → ((truth : Truth) (pages : PageTree) → Under areas held hints truth [] root pages → IfSome found (MakesRoom areas held hints truth root key)) → MakesRoom areas held hints truth root (content_key index) draft
  making index key found draft key_is some all =
      subst (λ (k : List ℕ). MakesRoom areas held hints truth root k draft) key_is (subst (λ (o : Option (List Changed)). IfSome o (MakesRoom areas held hints truth root key)) some (all truth some_pages.pages some_under))

  -- so it is of a piece that isn't there
  pub entry_makes : {T : Type 0} (index : ℕ) → ((pages : PageTree) → Under areas held hints truth [] root pages → value_of (map_of pages) (content_key index) ≡ None)
      → (result : Result T ChangeError) → IfErr result (IfFirst (MakesRoom areas held hints truth root (content_key index))) → IfErr result (IfFirst (MakesEntry areas held hints truth root index))
  entry_makes index none result first = first_if (λ new room. record { room = room; none = none room.pages (under room.pages room.is) }) result first

  -- where nothing is, there is room
  pub finding : (index : ℕ) (key : List ℕ) (found : Option (List Changed)) → key ≡ content_key index → found ≡ None
      → ((truth : Truth) (pages : PageTree) → Under areas held hints truth [] root pages → IfNone found (FindsRoom areas truth root key)) → FindsRoom areas truth root (content_key index)
  finding index key found key_is none all =
      subst (FindsRoom areas truth root) key_is (subst (λ (o : Option (List Changed)). IfNone o (FindsRoom areas truth root key)) none (all truth some_pages.pages some_under))

  -- a piece that isn't there finds room, and of one that is nothing is asked
  pub entry_found : {T : Type 0} (index : ℕ) (result : Result T ChangeError) → IfOk result (λ made. FindsRoom areas truth root (content_key index)) → IfOk result (λ made. FindsEntry areas truth root index)
  entry_found index (Ok made) finds = λ pages is none. finds pages is
  entry_found index (Err error) finds = tt

  pub entry_there : {T : Type 0} (index : ℕ) (value : List ℕ) → ((pages : PageTree) → Under areas held hints truth [] root pages → value_of (map_of pages) (content_key index) ≡ Some value)
      → (result : Result T ChangeError) → IfOk result (λ made. FindsEntry areas truth root index)
  entry_there index value found (Ok made) = λ pages is none. let both : ◌≡◌ {A = Option (List ℕ)} None (Some value) = sym none ∙ found pages (under pages is) in absurd cc
  entry_there index value found (Err error) = tt

  pub stopped : (index place : ℕ) (part : List ℕ) (error : BlinkError) (stop : ChangeError) → ((pages : PageTree) → Under areas held hints truth [] root pages → ReadiesIn areas held hints truth root pages (content_key index) (Err error))
      → (near : ℕ) → NeedsUnheld {X = Option (List Changed)} held (OnReadyPath near areas held hints root (content_key index)) (Err error) → StopsChange areas error stop → MissesIn areas truth root index place part (Err stop)
  stopped index place part (tree_error.Need at mode) stop x near n (inl s) = subst (λ (e : ChangeError). MissesIn areas truth root index place part (Err e)) (sym s.1) tt
  stopped index place part (tree_error.Need at mode) stop x near n (inr s) =
      let block = ready_block areas held hints truth root some_pages.pages (content_key index) some_under near at mode n.1 in
      let both : true ≡ false = sym block ∙ s.0 in absurd cc
  stopped index place part tree_error.OutOfMemory stop x near n s = subst (λ (e : ChangeError). MissesIn areas truth root index place part (Err e)) (sym s) tt
  stopped index place part (tree_error.Full spare) stop x near n s =
      let few : TellsFew areas truth spare = (x some_pages.pages some_under).0 in
      subst (λ (e : ChangeError). MissesIn areas truth root index place part (Err e)) (sym s) (record { spare_is = few.0; few = few.1 })
  stopped index place part tree_error.Stale stop x near n s = absurd (x some_pages.pages some_under)
  stopped index place part tree_error.Absent stop x near n s = absurd (x some_pages.pages some_under)
  stopped index place part tree_error.Present stop x near n s = absurd (x some_pages.pages some_under)
  stopped index place part (tree_error.NoRoom leaf) stop x near n s = absurd (x some_pages.pages some_under)
  stopped index place part tree_error.Crowded stop x near n s = absurd (x some_pages.pages some_under)

  -- ---- preparing

  pub value_stops : (index place : ℕ) (part : List ℕ) (stop : Stop) → ((pages : PageTree) → Under areas held hints truth [] root pages → Tells (value_of (map_of pages) (content_key index)) (Err stop))
      → PreparesIn areas truth root index place part (Err (Stopped stop))
  value_stops index place part (Need at mode) t = tt
  value_stops index place part (Inner blocks) t = absurd (t some_pages.pages some_under)
  value_stops index place part (Status status) t = t some_pages.pages some_under
  value_stops index place part OutOfMemory t = tt

  -- the file's own pages
  bytes : (b : List ℕ) × (r.at.file.body ≡ Bytes b)
  bytes = regular_bytes areas truth tree handle r.at.file inode r.stands.is r.at.holds r.at.there r.kind

  regular : IsRegular (chunks_of areas truth) r.stands.is.owner handle (r.stands.is.stored handle) bytes.0
  regular = subst (HasBody (chunks_of areas truth) r.stands.is.owner handle (r.stands.is.stored handle)) bytes.1 (shown areas truth tree handle r.at.file r.stands.is r.at.there).body

  pub own_tree : IsTree (chunks_of areas truth) root (r.stands.is.stored handle).tree
  own_tree = subst (λ (n : ℕ). IsTree (chunks_of areas truth) n (r.stands.is.stored handle).tree) (ap (λ (i : Inode). i.tree) (inode_is areas truth tree r.stands.is handle inode r.at.holds) ∙ root_is) regular.tree.is

  -- what an entry names is a block
  named : (index : ℕ) (value : List ℕ) → ((pages : PageTree) → Under areas held hints truth [] root pages → value_of (map_of pages) (content_key index) ≡ Some value) → (block : Block) × (chunks_of areas truth (handle_in value) ≡ Some block)
  named index value found =
      let c = regular.contents (content_key index) value (found (r.stands.is.stored handle).tree (under (r.stands.is.stored handle).tree own_tree)) in
      (c.block, ap (chunks_of areas truth) (ap handle_in c.value_is ∙ handle_back c.names c.names_fits) ∙ c.chunk)

  pub found_in : (index place : ℕ) (part value : List ℕ) (names : ℕ) → names ≡ handle_in value → ((pages : PageTree) → Under areas held hints truth [] root pages → value_of (map_of pages) (content_key index) ≡ Some value)
      → (result : Result (Option ℕ × List ℕ) ChangeError) → FoundAt areas held names place part result → PreparesIn areas truth root index place part result
  found_in index place part value names names_is found (Ok made) f = λ pages is.
      let b = named index value found in
      let there : chunks_of areas truth names ≡ Some b.0 = ap (chunks_of areas truth) names_is ∙ b.1 in
      let same : b.0 ≡ f.block = sym (chunk_block names b.0 there) ∙ r.same.each (block_at names) _ f.block f.holds.there in
      subst (λ (o : Option ℕ). IsPrepared areas truth pages index place part o made.1) (sym f.found_is)
      (record { value = value; is = found pages (under pages is); names_is = names_is; was = f.block; there = there ∙ ap Some same; payload_is = f.payload_is })
    where
      chunk_block : (names : ℕ) (block : Block) → chunks_of areas truth names ≡ Some block → truth (block_at names) ≡ block
      chunk_block names block there = (chunk_is areas truth names block there).is_block
  found_in index place part value names names_is found (Err (Stopped (Need at mode))) f = tt
  found_in index place part value names names_is found (Err (Stopped (Inner blocks))) f = absurd f
  found_in index place part value names names_is found (Err (Stopped (Status status))) f =
      let b = named index value found in
      not_lost areas held truth names b.0 r.same r.stands.is.chunked (ap (chunks_of areas truth) names_is ∙ b.1) f.1
  found_in index place part value names names_is found (Err (Stopped OutOfMemory)) f = tt
  found_in index place part value names names_is found (Err (Full spare)) f = absurd f

  pub misses_in : (index place : ℕ) (part : List ℕ) → ((pages : PageTree) → Under areas held hints truth [] root pages → value_of (map_of pages) (content_key index) ≡ None)
      → (result : Result (Option ℕ × List ℕ) ChangeError) → IfOk result (λ made. made.0 ≡ None) → MissesIn areas truth root index place part result → PreparesIn areas truth root index place part result
  misses_in index place part none (Ok made) is_none m = λ pages is.
      subst (λ (o : Option ℕ). IsPrepared areas truth pages index place part o made.1) (sym is_none) (record { none = none pages (under pages is); ready = m.0 pages is; payload_is = m.1 })
  misses_in index place part none (Err (Stopped (Need at mode))) is_none m = tt
  misses_in index place part none (Err (Stopped (Inner blocks))) is_none m = m
  misses_in index place part none (Err (Stopped (Status status))) is_none m = m
  misses_in index place part none (Err (Stopped OutOfMemory)) is_none m = tt
  misses_in index place part none (Err (Full spare)) is_none m = m
