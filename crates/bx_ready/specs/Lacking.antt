-- Where an entry finds room, and what makes room where it finds none.
use Rattle.std.specs.Prelude.{ℕ, ◌⊎◌, List}
use Rattle.bx_records.specs.Drafts.{Changed}
use Rattle.bx_truth.specs.Chunks.{chunks_of}
use Rattle.bx_truth.specs.PageTrees.{IsTree, PageTree}
use Rattle.bx_views.specs.Truths.{Truth, Held, Hints}
use Rattle.bx_ready.specs.Ready.{IsReady, SplitsReady}
use Rattle.bx_ready.specs.Separators.{PostsMissing}

-- An entry under a key finds room in the page tree of a root: no separator above its leaf is missing, and that leaf isn't full.
abbrev pub FindsRoom : ℕ → Truth → ℕ → List ℕ → Type 0
FindsRoom areas truth root key = (pages : PageTree) → IsTree (chunks_of areas truth) root pages → IsReady pages key

-- It finds none there, and a draft makes room: it posts a separator that is missing, or splits that leaf.
pub record MakesRoom (areas : ℕ) (held : Held) (hints : Hints) (truth : Truth) (root : ℕ) (key : List ℕ) (new : List Changed) : Type 0 where
  pub pages : PageTree
  pub is : IsTree (chunks_of areas truth) root pages
  pub lacks : IsReady pages key → ⊥
  pub makes : PostsMissing areas held hints truth new root pages key ⊎ SplitsReady areas held hints truth new root pages key
