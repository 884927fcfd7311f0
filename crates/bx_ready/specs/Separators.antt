-- Where a separator is missing above the page of a key, and what looking for it answers.
use Rattle.std.specs.Prelude.{◌≡◌, ℕ, ◌+◌, ◌<◌, ◌⊎◌, false, List, [], Option, Some, None, Result, Ok, Err}
use Rattle.bx_base.specs.declared.names.Mode.{Mode}
use Rattle.bx_base.specs.declared.names.Mode.TheVariants.{Shared}
use Rattle.bx_blink.specs.Places.{IsPlaceOf}
use Rattle.bx_blink.specs.Walks.{child_of}
use Rattle.bx_blink.specs.declared.error.BlinkError.{BlinkError}
use Rattle.bx_blink.specs.declared.error.BlinkError.TheVariants.{Need, Stale, Full, NoRoom, Absent, Present, OutOfMemory, Crowded}
use Rattle.bx_page.specs.Contents.{Contents, value_of}
use Rattle.bx_page.specs.Keys.{is_below}
use Rattle.bx_posts.specs.Posts.{OnPostPath, PostsPage}
use Rattle.bx_posts.specs.declared.posting.Posted.{Posted}
use Rattle.bx_records.specs.Drafts.{Changed}
use Rattle.bx_truth.specs.Chunks.{block_at}
use Rattle.bx_truth.specs.PageTrees.{Node, IsIn, PageTree}
use Rattle.bx_views.specs.Truths.{Truth, Held, Hints}
use Rattle.bx_ready.specs.Descents.{LeadsTo, LeadsWhere}
use Rattle.bx_ready.specs.Spare.{TellsFew}
use Rattle.bx_ready.specs.declared.descents.Descent.TheVariants.{Short}

-- the page one level above a level in whose range a key is names this page for the key
pub record IsNamed (tree : PageTree) (level : ℕ) (key : List ℕ) (handle : ℕ) : Type 0 where
  pub parent : ℕ
  pub page : Contents
  pub above : IsPlaceOf tree (level + 1) key parent page
  pub names : child_of page key ≡ handle

-- that is the page in whose range the key is
pub record LeadsStraight (tree : PageTree) (level : ℕ) (key : List ℕ) : Type 0 where
  pub handle : ℕ
  pub page : Contents
  pub named : IsNamed tree level key handle
  pub place : IsPlaceOf tree level key handle page

-- No separator is missing above a key: on each level below the root's the page in whose range the key is is named one level above.
abbrev pub HasSeparators : PageTree → List ℕ → Type 0
HasSeparators tree key = (level : ℕ) → level < tree.height → LeadsStraight tree level key

-- A separator is missing above a key: the page that is named for the key ends at or below it, and the page one level above in whose range its
-- high key is, which names it, has no entry for that.
pub record LacksSeparator (tree : PageTree) (key : List ℕ) (node : Node) : Type 0 where
  pub level : ℕ
  pub below : level < tree.height
  pub there : IsIn node (tree.level level)
  pub named : IsNamed tree level key node.handle
  pub high : List ℕ
  pub high_is : node.page.high ≡ Some high
  pub passed : is_below key high ≡ false
  pub home : IsPlaceOf tree (level + 1) high named.parent named.page
  pub absent : value_of named.page.entries high ≡ None

-- a draft posts one that is missing
pub record PostsMissing (areas : ℕ) (held : Held) (hints : Hints) (truth : Truth) (new : List Changed) (root : ℕ) (tree : PageTree) (key : List ℕ) : Type 0 where
  pub node : Node
  pub lacks : LacksSeparator tree key node
  pub posted : Posted
  pub posts : PostsPage areas held hints truth [] new root tree node posted

-- What is answered, by the tree: the draft that posts a separator that is missing above a key, where one is. It is never Stale there, nor Crowded,
-- and where it is Full it tells fewer than 8, and a separator is missing.
abbrev pub PostsForIn : ℕ → Held → Hints → Truth → ℕ → PageTree → List ℕ → Result (Option (List Changed)) BlinkError → Type 0
PostsForIn areas held hints truth root tree key (Ok (Some new)) = PostsMissing areas held hints truth new root tree key
PostsForIn areas held hints truth root tree key (Ok None) = HasSeparators tree key
PostsForIn areas held hints truth root tree key (Err (Full spare)) = TellsFew areas truth spare × (HasSeparators tree key → ⊥)
PostsForIn areas held hints truth root tree key (Err (Need at mode)) = Unit {0}
PostsForIn areas held hints truth root tree key (Err Crowded) = ⊥
PostsForIn areas held hints truth root tree key (Err OutOfMemory) = Unit {0}
PostsForIn areas held hints truth root tree key (Err Stale) = ⊥
PostsForIn areas held hints truth root tree key (Err (NoRoom leaf)) = ⊥
PostsForIn areas held hints truth root tree key (Err Absent) = ⊥
PostsForIn areas held hints truth root tree key (Err Present) = ⊥

-- the block of a page to which the pages from the root on lead
pub record IsLedTo (held : Held) (root : ℕ) (key : List ℕ) (at : ℕ) (mode : Mode) : Type 0 where
  pub depth : ℕ
  pub handle : ℕ
  pub leads : LeadsTo held root key depth handle
  pub at_is : at ≡ block_at handle
  pub mode_is : mode ≡ Shared

-- what is on the path of posting behind a page where a descent stops short
pub record OnPosting (near areas : ℕ) (held : Held) (hints : Hints) (root : ℕ) (key : List ℕ) (at : ℕ) (mode : Mode) : Type 0 where
  pub page : ℕ
  pub short : LeadsWhere held root key (Short page)
  pub on : OnPostPath held hints [] root page near areas at mode

-- The path: the pages that lead from the root to the key's leaf, shared; and that of the post.
abbrev pub OnPostForPath : ℕ → ℕ → Held → Hints → ℕ → List ℕ → ℕ → Mode → Type 0
OnPostForPath near areas held hints root key at mode = IsLedTo held root key at mode ⊎ OnPosting near areas held hints root key at mode
