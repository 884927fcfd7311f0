-- The newest blocks of records are blocks of the volume, and each record more that is written home.
use Rattle.std.proofs.Common.{◌≡◌, ◌∙◌, ℕ, Bool, true, false, List, [], ◌∷◌, ◌++◌, reverse, Option, Some, None, refl, sym, ap, subst, eqb-true}
use Rattle.std.specs.Prelude.{◌==◌, if◌then◌else◌, IfSome}
use Rattle.std.specs.List.{AllByRecursion}
use Rattle.std.proofs.lemmas.List.{append_assoc, reverse-append}
use Rattle.bx_layout.specs.declared.block.Block.{Block}
use Rattle.bx_layout.specs.Blocks.{HasParts}
use Rattle.bx_places.specs.Places.{IsBlock}
use Rattle.bx_records.specs.Drafts.{Changed, block_in}
use Rattle.bx_records.specs.Runs.{KindAndRuns}
use Rattle.bx_records.specs.declared.runs.Run.{Run}
use Rattle.bx_redo.specs.Homes.{home_run}
use Rattle.bx_redo.specs.bx_volume.specs.Records.{IsLogged, Logged, newest_in, or_older}
use Rattle.bx_recover.specs.HomesOf.{home_runs}

-- ---- blocks of the volume

module _ (areas : ℕ) where
  abbrev Fits : ℕ → Block → Type 0
  Fits at block = IsBlock areas at × HasParts block

  changed_fits : (changed : List Changed) (at : ℕ) (block : Block) → AllByRecursion (λ change. IsBlock areas change.0 × HasParts change.1) changed → block_in changed at ≡ Some block → Fits at block
  changed_fits [] at block all is = absurd cc
  changed_fits (first ∷ others) at block all is = by (changed_fits others at block all.1) (first.0 == at) refl is
    where
      by : (block_in others at ≡ Some block → Fits at block) → (b : Bool) → (first.0 == at) ≡ b → (if b then Some first.1 else block_in others at) ≡ Some block → Fits at block
      by behind true same found = (subst (IsBlock areas) (eqb-true _ _ same) all.0.0, subst HasParts (let e : first.1 ≡ block = cc in e) all.0.1)
      by behind false apart found = behind found

  logged_fits : (records : List Logged) (at : ℕ) (block : Block) → AllByRecursion (IsLogged areas) records → newest_in records at ≡ Some block → Fits at block
  logged_fits [] at block all is = absurd cc
  logged_fits (newest ∷ older) at block all is = by (logged_fits older at block all.1) (block_in newest.changed at) refl is
    where
      by : (newest_in older at ≡ Some block → Fits at block) → (own : Option Block) → block_in newest.changed at ≡ own → or_older own (newest_in older at) ≡ Some block → Fits at block
      by behind None none found = behind found
      by behind (Some first) own found = changed_fits newest.changed at block all.0.blocks (own ∙ found)

  one_more : (records : List Logged) (last : Logged) → AllByRecursion (IsLogged areas) records → IsLogged areas last → AllByRecursion (IsLogged areas) (records ++ last ∷ [])
  one_more [] last all is = (is, tt)
  one_more (first ∷ records) last all is = (all.0, one_more records last all.1 is)

  turned : (records : List Logged) → AllByRecursion (IsLogged areas) records → AllByRecursion (IsLogged areas) (reverse records)
  turned [] all = tt
  turned (first ∷ records) all = subst (AllByRecursion (IsLogged areas)) (sym (reverse-append (first ∷ []) records)) (one_more (reverse records) first (turned records all.1) all.0)

  -- the newest blocks of records fit the volume
  pub newest_fit : (records : List Logged) (found : Option Block) (at : ℕ) → AllByRecursion (IsLogged areas) records → found ≡ newest_in (reverse records) at → IfSome found (λ block. IsBlock areas at × HasParts block)
  newest_fit records None at all is = tt
  newest_fit records (Some block) at all is = logged_fits (reverse records) at block (turned records all) (sym is)

-- ---- writes

-- One more block is written home.
pub pushed : (devices : ℕ) (items rest all : List Changed) (item : Changed) (old new : KindAndRuns) (run : Run)
    → items ≡ item ∷ rest → run ≡ home_run devices item.0 item.1 → new ≡ (old.0, old.1 ++ run ∷ [])
    → old.1 ++ home_runs devices items ≡ home_runs devices all → new.1 ++ home_runs devices rest ≡ home_runs devices all
pushed devices items rest all item old new run is made now before =
    ap (λ (r : KindAndRuns). r.1 ++ home_runs devices rest) now ∙ append_assoc old.1 (run ∷ []) (home_runs devices rest)
    ∙ ap (λ (r : Run). old.1 ++ (r ∷ home_runs devices rest)) made
    ∙ ap (λ (rs : List Run). old.1 ++ rs) (sym (ap (λ (l : List Changed). home_runs devices l) is))
    ∙ before
