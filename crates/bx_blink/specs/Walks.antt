-- How a key is looked for: from a tree's root, by right links and down to the wanted level, over what is held or hinted.
-- These definitions speak of any content, also of such that is no tree.
use Rattle.std.specs.Prelude.{◌≡◌, ℕ, zero, suc, ◌-◌, ◌<◌, ◌⊎◌, Bool, false, not, ◌==◌, if◌then◌else◌, List, Option, Some, None}
use Rattle.std.specs.Option.{option_map, option_or, unwrap_or}
use Rattle.bx_base.specs.declared.names.Mode.{Mode}
use Rattle.bx_base.specs.declared.names.Mode.TheVariants.{Shared}
use Rattle.bx_truth.specs.bx_layout.specs.declared.block.Block.{Block}
use Rattle.bx_truth.specs.bx_records.specs.Drafts.{Changed, block_in}
use Rattle.bx_page.specs.Keys.{is_below}
use Rattle.bx_page.specs.Contents.{Contents, up_to, last}
use Rattle.bx_blink.specs.declared.steps.Spot.{Spot}
use Rattle.bx_blink.specs.declared.steps.Found.{Found}
use Rattle.bx_blink.specs.declared.steps.Found.TheVariants.{Missing, Strays, NoPage, Held, Hinted}
use Rattle.bx_blink.specs.declared.steps.End.{End}
use Rattle.bx_blink.specs.declared.steps.End.TheVariants.{Needs, Lost, Lands}
use Rattle.bx_blink.specs.declared.steps.Out.{Out}
use Rattle.bx_blink.specs.declared.steps.Out.TheVariants.{Goes, Stops}
use Rattle.bx_truth.specs.Chunks.{block_at}
use Rattle.bx_truth.specs.PageTrees.{HasPage, handle_in}
use Rattle.bx_truth.specs.bx_views.specs.Truths.{Hints}

-- what a call reads: blocks held in a mode, and hints
pub record Reads : Type 0 where
  pub held : ℕ → Mode → Option Block
  pub hint : Hints

-- a draft's blocks stand before what is held
abbrev pub reads_with : (ℕ → Mode → Option Block) → Hints → List Changed → Reads
reads_with held hints draft = record { held = λ at mode. option_or (block_in draft at) (held at mode); hint = hints }

-- the block is no page
abbrev pub IsNoPage : Block → Type 0
IsNoPage block = (page : Contents) → HasPage page block → ⊥

-- a hint that a walk to a level takes: under the handle that led to it, of a page above that level
pub record IsTaken (reads : Reads) (target : ℕ) (spot : Spot) (page : Contents) : Type 0 where
  pub block : Block
  pub there : reads.hint (block_at spot.handle) ≡ Some block
  pub header : block.handle ≡ spot.handle
  pub has : HasPage page block
  pub above : target < page.level

-- a block is held where the walk is
pub record IsHeld (reads : Reads) (spot : Spot) (P : Block → Type 0) : Type 0 where
  pub block : Block
  pub there : reads.held (block_at spot.handle) Shared ≡ Some block
  pub is : P block

-- what a walk finds at a spot
abbrev pub Finds : Reads → ℕ → Spot → Found → Type 0
Finds reads target spot Missing = (reads.held (block_at spot.handle) Shared ≡ None) × ((page : Contents) → IsTaken reads target spot page → ⊥)
Finds reads target spot Strays = IsHeld reads spot (λ block. block.handle ≡ spot.handle → ⊥)
Finds reads target spot NoPage = IsHeld reads spot (λ block. (block.handle ≡ spot.handle) × IsNoPage block)
Finds reads target spot (Held page) = IsHeld reads spot (λ block. (block.handle ≡ spot.handle) × HasPage page block)
Finds reads target spot (Hinted page) = (reads.held (block_at spot.handle) Shared ≡ None) × IsTaken reads target spot page

-- whether a page's keys are all below a key, so that the walk goes to the right
abbrev pub passes : Contents → List ℕ → Bool
passes page key = unwrap_or (option_map (λ high. not (is_below key high)) page.high) false

-- the handle at the greatest key that isn't above a key, 0 where there is none
abbrev pub child_of : Contents → List ℕ → ℕ
child_of page key = unwrap_or (option_map (λ entry. handle_in entry.value) (last (up_to page.entries key))) 0

-- pages of the wanted level are held as the call asks, others shared
abbrev pub mode_at : ℕ → Mode → ℕ → Mode
mode_at target asked level = if level == target then asked else Shared

-- where a walk goes from a page
abbrev pub onward : ℕ → Mode → List ℕ → Spot → Option ℕ → Contents → Out
onward target asked key spot via page =
    if passes page key then Goes (record { handle = page.right; via = via; mode = mode_at target asked page.level })
    else if page.level == target then Stops (Lands spot.handle page)
    else Goes (record { handle = child_of page key; via = via; mode = mode_at target asked (page.level - 1) })

-- where it strays: a hint that led there is old, and else something is wrong
abbrev pub strayed : Option ℕ → End
strayed None = Lost
strayed (Some via) = Needs via Shared

-- one step of a walk
abbrev pub decide : ℕ → Mode → List ℕ → Spot → Found → Out
decide target asked key spot Missing = Stops (Needs (block_at spot.handle) spot.mode)
decide target asked key spot Strays = Stops (strayed spot.via)
decide target asked key spot NoPage = Stops Lost
decide target asked key spot (Held page) = onward target asked key spot None page
decide target asked key spot (Hinted page) = onward target asked key spot (Some (block_at spot.handle)) page

-- what follows a step
abbrev pub Follows : (Spot → Type 0) → End → Out → Type 0
Follows Rest end (Goes next) = Rest next
Follows Rest end (Stops here) = end ≡ here

-- a walk ends so, or is lost where it passes more pages than it may
unfoldable pub Ends : Reads → ℕ → Mode → List ℕ → ℕ → Spot → End → Type 0
Ends reads target asked key zero spot end = end ≡ Lost
Ends reads target asked key (suc more) spot end =
    (found : Found) × Finds reads target spot found × Follows (λ next. Ends reads target asked key more next end) end (decide target asked key spot found)

-- a walk begins at the root
abbrev pub start : ℕ → Mode → Spot
start root asked = record { handle = root; via = None; mode = asked }

-- how many pages a walk may pass, and one
abbrev pub most : ℕ
most = 61441

-- what may be asked for at a spot: its block as the spot says, or shared, or, where the page there is of the wanted level, as the
-- call asks
pub data MayAsk (reads : Reads) (target : ℕ) (asked : Mode) (spot : Spot) : ℕ → Mode → Type 0 where
  as_said : MayAsk reads target asked spot (block_at spot.handle) spot.mode
  shared : MayAsk reads target asked spot (block_at spot.handle) Shared
  landed : (page : Contents) → Finds reads target spot (Held page) → page.level ≡ target → MayAsk reads target asked spot (block_at spot.handle) asked

-- The path of a walk: what may be asked for at each spot that it comes to.
unfoldable pub OnPath : Reads → ℕ → Mode → List ℕ → ℕ → Spot → ℕ → Mode → Type 0
OnPath reads target asked key zero spot at mode = ⊥
OnPath reads target asked key (suc more) spot at mode =
    MayAsk reads target asked spot at mode ⊎ ((found : Found) × Finds reads target spot found × (next : Spot) × (decide target asked key spot found ≡ Goes next) × OnPath reads target asked key more next at mode)
