-- What is to be written first before an entry comes into a directory leaves each tree; and where the directory has room for the entry.
use Rattle.std.proofs.Common.{◌≡◌, ℕ, true, false, List, [], Option, Some, sym, ◌∙◌, subst, arith, inl, inr}
use Rattle.std.specs.Prelude.{Err, IfOk, IfSome, Ok, Result}
use Rattle.bx_blink.specs.declared.error.BlinkError.{BlinkError}
use Rattle.bx_blink.specs.declared.error.BlinkError.TheVariants as tree_error
use Rattle.bx_blink.specs.Hints.{HintsFit, Under}
use Rattle.bx_changes.specs.Growing.{LeavesTrees}
use Rattle.bx_changes.specs.declared.error.ChangeError.{ChangeError}
use Rattle.bx_changes.specs.declared.error.ChangeError.TheVariants.{Stopped, Full}
use Rattle.bx_entries.specs.Finding.{IsDirectoryOf}
use Rattle.bx_ready.specs.Keeping.{KeepsFiles}
use Rattle.bx_inodes.specs.Stands.{Stands}
use Rattle.bx_inodes.specs.declared.stop.Stop.TheVariants.{Need, Inner, Status, OutOfMemory}
use Rattle.bx_layout.specs.declared.inode.Inode.{Inode}
use Rattle.bx_leaves.specs.Changes.{NeedsUnheld}
use Rattle.bx_model.specs.declared.tree.Tree.{Tree}
use Rattle.bx_records.specs.Drafts.{Changed}
use Rattle.bx_ready.specs.Lacking.{FindsRoom, MakesRoom}
use Rattle.bx_ready.specs.Ready.{IsFileUnder, OnReadyPath, ReadiesIn}
use Rattle.bx_ready.specs.Spare.{TellsFew}
use Rattle.bx_truth.specs.Chunks.{chunks_of}
use Rattle.bx_truth.specs.Keys.{entry_key, name_key}
use Rattle.bx_truth.specs.PageTrees.{IsTree, PageTree}
use Rattle.bx_truth.proofs.OneFiles.{file_there}
use Rattle.bx_inodes.specs.Pages.{HasPages}
use Rattle.bx_inodes.proofs.Pages.{has_pages}
use Rattle.bx_views.specs.Truths.{Held, Hints, Truth}
use Rattle.bx_entries.specs.RoomFinding.{IsReadyFor, ReadyIn, RoomIn}
use Rattle.bx_entries.specs.Lacking.{FindsBoth}
use Rattle.bx_changes.specs.Stopping.{StopsChange}
use Rattle.bx_entries.proofs.Asked.{ready_block}
use Rattle.bx_entries.proofs.Spaces.{space_of}

no_link : (kind : ℕ) → kind ≡ 2 → kind ≡ 5 → ⊥
no_link kind two five = omega (arith, two, five)

module _ (volume areas : ℕ) (held : Held) (hints : Hints) (truth : Truth) (tree : Tree) (handle : ℕ) (inode : Inode) (d : IsDirectoryOf volume areas held hints truth tree handle inode) where
  -- its pages
  pages : HasPages areas held hints truth [] tree d.stands.is handle inode d.at.file
  pages = has_pages areas held hints truth [] tree handle inode d.at.file d.few d.same d.stands.is d.fit d.at.holds d.at.there (no_link inode.kind d.kind)

  module _ (root : ℕ) (root_is : inode.tree ≡ root) where
    pub under : (pages : PageTree) → IsTree (chunks_of areas truth) root pages → Under areas held hints truth [] root pages
    under pages is = record {
      few = d.few;
      same = d.same;
      chunked = d.stands.is.chunked;
      is = is;
      hints = subst (λ (r : ℕ). HintsFit areas hints truth r pages) root_is (d.fit.each handle inode pages d.at.holds (subst (λ (r : ℕ). IsTree (chunks_of areas truth) r pages) (sym root_is) is));
    }

    some_under : Under areas held hints truth [] root (pages.pages)
    some_under = subst (λ (r : ℕ). Under areas held hints truth [] r (pages.pages)) root_is pages.under

    -- in each tree that the truth stands for it is a file
    file_under : (number : ℕ) (other : Tree) → Stands number areas truth other → IsFileUnder areas held hints truth root other
    file_under number other s = record {
      few = d.few;
      same = d.same;
      is = s.is;
      fit = d.fit;
      handle = handle;
      inode = inode;
      holds = d.at.holds;
      root_is = root_is;
      no_link = no_link inode.kind d.kind;
      file = d.at.file;
      there = file_there (chunks_of areas truth) d.stands.is.owner s.is.owner d.stands.is.stored s.is.stored tree.files other.files d.stands.is.are_files s.is.are_files handle d.at.file d.at.there;
    }

    pub leaves : (blocks : List Changed) → ((truth : Truth) (tree : Tree) → IsFileUnder areas held hints truth root tree → KeepsFiles areas truth [] blocks tree) → LeavesTrees areas truth blocks
    leaves blocks keeps = record {
      stands = λ number other s. record { is = (keeps truth other (file_under number other s)).stands; volume_is = s.volume_is; file_tree = s.file_tree };
      leads = (keeps truth tree (file_under volume tree d.stands)).leads;
    }

    -- what is found to be written first makes room that is lacking
    pub lacking : (key : List ℕ) (found : Option (List Changed)) (draft : List Changed) → found ≡ Some draft
        → ((truth : Truth) (pages : PageTree) → Under areas held hints truth [] root pages → IfSome found (MakesRoom areas held hints truth root key)) → MakesRoom areas held hints truth root key draft
    lacking key found draft some all = subst (λ (o : Option (List Changed)). IfSome o (MakesRoom areas held hints truth root key)) some (all truth pages.pages some_under)

    -- what stops it is a block, or want of blocks or of memory
    pub stopped : (key : List ℕ) (error : BlinkError) (stop : ChangeError) → ((pages : PageTree) → Under areas held hints truth [] root pages → ReadiesIn areas held hints truth root pages key (Err error))
        → (near : ℕ) → NeedsUnheld {X = Option (List Changed)} held (OnReadyPath near areas held hints root key) (Err error) → StopsChange areas error stop → ReadyIn areas truth root key (Err stop)
    stopped key (tree_error.Need at mode) stop r near n (inl s) = subst (λ (x : ChangeError). ReadyIn areas truth root key (Err x)) (sym s.1) tt
    stopped key (tree_error.Need at mode) stop r near n (inr s) =
        let block = ready_block areas held hints truth root pages.pages key some_under near at mode n.1 in
        let both : true ≡ false = sym block ∙ s.0 in absurd cc
    stopped key tree_error.OutOfMemory stop r near n s = subst (λ (x : ChangeError). ReadyIn areas truth root key (Err x)) (sym s) tt
    stopped key (tree_error.Full spare) stop r near n s =
        let full = r pages.pages some_under in
        let few : TellsFew areas truth spare = full.0 in
        subst (λ (x : ChangeError). ReadyIn areas truth root key (Err x)) (sym s) (record { spare_is = few.0; few = few.1 }, λ finds. full.1 (finds pages.pages some_under.is))
    stopped key tree_error.Stale stop r near n s = absurd (r pages.pages some_under)
    stopped key tree_error.Absent stop r near n s = absurd (r pages.pages some_under)
    stopped key tree_error.Present stop r near n s = absurd (r pages.pages some_under)
    stopped key (tree_error.NoRoom leaf) stop r near n s = absurd (r pages.pages some_under)
    stopped key tree_error.Crowded stop r near n s = absurd (r pages.pages some_under)

  -- room is found for both keys
  pub found : (name : List ℕ) (number : ℕ) → FindsRoom areas truth inode.tree (name_key name) → FindsRoom areas truth inode.tree (entry_key number) → IsReadyFor areas held truth inode.tree name number
  found name number by_name by_number =
      let u = pages.under in
      let n = by_name pages.pages u.is in
      let m = by_number pages.pages u.is in
      record {
        rooms = record {
          pages = pages.pages;
          is = u.is;
          by_name = space_of areas held hints truth inode.tree pages.pages (name_key name) u n.room;
          by_number = space_of areas held hints truth inode.tree pages.pages (entry_key number) u m.room;
        };
        by_name = n;
        by_number = m;
      }

-- what stops one of two stops both
pub stops_both : (areas : ℕ) (held : Held) (truth : Truth) (root : ℕ) (name : List ℕ) (number : ℕ) (key : List ℕ) → (FindsBoth areas truth root name number → FindsRoom areas truth root key) → (stop : ChangeError) → ReadyIn areas truth root key (Err stop) → RoomIn areas held truth root name number (Err stop)
stops_both areas held truth root name number key one (Stopped (Need at mode)) r = tt
stops_both areas held truth root name number key one (Stopped (Inner blocks)) r = r
stops_both areas held truth root name number key one (Stopped (Status status)) r = r
stops_both areas held truth root name number key one (Stopped OutOfMemory) r = tt
stops_both areas held truth root name number key one (Full spare) r = (r.0, λ both. r.1 (one both))

-- what is answered of the second key, where there is room for the first
pub either : (volume areas : ℕ) (held : Held) (hints : Hints) (truth : Truth) (tree : Tree) (handle : ℕ) (inode : Inode) (d : IsDirectoryOf volume areas held hints truth tree handle inode) (name : List ℕ) (number : ℕ)
    → ReadyIn areas truth inode.tree (name_key name) (Ok tt) → (result : Result (Unit {0}) ChangeError) → ReadyIn areas truth inode.tree (entry_key number) result → RoomIn areas held truth inode.tree name number result
either volume areas held hints truth tree handle inode d name number first (Ok done) r = found volume areas held hints truth tree handle inode d name number first r
either volume areas held hints truth tree handle inode d name number first (Err stop) r = stops_both areas held truth inode.tree name number (entry_key number) (λ both. both.1) stop r

-- where it goes on, both find it
pub finds_both : (areas : ℕ) (truth : Truth) (root : ℕ) (name : List ℕ) (number : ℕ) → ReadyIn areas truth root (name_key name) (Ok tt) → (result : Result (Unit {0}) ChangeError) → ReadyIn areas truth root (entry_key number) result
    → IfOk result (λ made. FindsBoth areas truth root name number)
finds_both areas truth root name number first (Ok done) r = (first, r)
finds_both areas truth root name number first (Err stop) r = tt
