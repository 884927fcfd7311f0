-- What is read of the open records, off the first member.
use Rattle.std.proofs.Common.{◌≡◌, ◌⊎◌, inl, inr, refl, ℕ, zero, suc, ◌≤◌, arith, Bool, true, false, List, [], ◌∷◌, Option, Some, None, length, map, reverse, take, sym, ◌∙◌, ap, subst}
use Rattle.std.specs.Prelude.{◌==◌, if◌then◌else◌, slice_get}
use Rattle.std.specs.List.{AllByRecursion}
use Rattle.std.proofs.lemmas.List.{append-nil, get_or_past, reverse-reverse}
use Rattle.bx_disk.specs.Disks.{Disks, Image}
use Rattle.bx_facts.specs.Writes.{IsSettled}
use Rattle.bx_global.specs.Opening.{opening_state}
use Rattle.bx_layout.specs.declared.block.Block.{Block}
use Rattle.bx_layout.specs.Blocks.{HasParts}
use Rattle.bx_logs.specs.Bodies.{point_of}
use Rattle.bx_logs.specs.Logs.{AreLogs, HaveNoLogs, log_in, points_in}
use Rattle.bx_logs.specs.Members.{held_by}
use Rattle.bx_logs.specs.Newest.{AreNewest, Newest}
use Rattle.bx_logs.specs.declared.members.Members.{Members}
use Rattle.bx_places.specs.Places.{IsBlock}
use Rattle.bx_records.specs.Drafts.{Changed, block_in}
use Rattle.bx_redo.specs.Stands.{IsFound}
use Rattle.bx_rows.specs.Words.{is_taken}
use Rattle.bx_views.specs.Truths.{Truth}
use Rattle.bx_volume.specs.Overlay.{IsOverlaidTruth, Matters}
use Rattle.bx_volume.specs.Records.{LogWhere, Logged, StandOpen, newest_in, or_older}
use Rattle.bx_volume.proofs.Matters.{truth_same}
use Rattle.bx_volume.proofs.OneLog.{one_has_log}
use Rattle.bx_plain_repair.specs.Bench.{AreLong}
use Rattle.bx_plain_repair.specs.HomesOf.{HasNone}
use Rattle.bx_plain_repair.specs.Resting.{IsOpenLog, only}
use Rattle.bx_plain_repair.specs.declared.reading.OpenLog.{OpenLog}

-- the first member of one device
abbrev pub members : Members
members = record { devices = 1; areas = 1; seconds = false ∷ false ∷ false ∷ false ∷ [] }

-- ---- disks

pub many_disks : (sizes : List ℕ) → AreLong sizes → 5 ≤ length sizes
many_disks sizes is = by (sides (length sizes))
  where
    sides : (n : ℕ) → (n ≤ 4) ⊎ (5 ≤ n)
    sides n = grind arith

    by : (length sizes ≤ 4) ⊎ (5 ≤ length sizes) → 5 ≤ length sizes
    by (inl few) = let none = get_or_past sizes 4 0 few in let long = is.long 4 (omega arith) in absurd (omega (arith, none, long))
    by (inr many) = many

-- ---- what is read

-- a block that a record changes may stand on a disk
in_blocks : (areas : ℕ) (changed : List Changed) → AllByRecursion (λ change. IsBlock areas change.0 × HasParts change.1) changed → (at : ℕ) (block : Block) → block_in changed at ≡ Some block → HasParts block
in_blocks areas [] all at block has = absurd cc
in_blocks areas (first ∷ changed) all at block has = by (in_blocks areas changed all.1 at block) (first.0 == at) has
  where
    by : (block_in changed at ≡ Some block → HasParts block) → (b : Bool) → (if b then Some first.1 else block_in changed at) ≡ Some block → HasParts block
    by rest true is = subst HasParts (let e : first.1 ≡ block = cc in e) all.0.1
    by rest false is = rest is

newest_parts : (before : Image) (at : ℕ) (block : Block) (some : List Logged) → StandOpen before 1 1 0 some → newest_in some at ≡ Some block → HasParts block
newest_parts before at block [] stand is = absurd cc
newest_parts before at block (newest ∷ older) stand is = by (newest_parts before at block older stand.2) (block_in newest.changed at) refl
  where
    by : (newest_in older at ≡ Some block → HasParts block) → (own : Option Block) → block_in newest.changed at ≡ own → HasParts block
    by rest None none = rest (sym (ap (λ (o : Option Block). or_older o (newest_in older at)) none) ∙ is)
    by rest (Some first) own =
        let same : Some first ≡ Some block = sym (ap (λ (o : Option Block). or_older o (newest_in older at)) own) ∙ is in
        in_blocks 1 newest.changed stand.1.is.blocks at block (own ∙ same)

module _ (disks : Disks) (records : List Logged) (before : Image) (truth : Truth) (more : Logged)
    (found : IsFound (IsSettled disks (opening_state 1 1)) 1 1 (opening_state 1 1).sessions before (only records) truth more 0) where
  read_there : (d s : ℕ) → Matters 1 1 (only records) d s → held_by disks.reads members d s ≡ before d s
  read_there d s matters = at d (found.sure d s matters)
    where
      at : (d : ℕ) → IsSettled disks (opening_state 1 1) d s (before d s) → held_by disks.reads members d s ≡ before d s
      at zero was = was.reads false (inl refl)
      at (suc d) was = absurd (let less = was.there in omega (arith, less))

  truth_is : IsOverlaidTruth (held_by disks.reads members) 1 1 (opening_state 1 1).sessions (only records) truth
  truth_is = truth_same before (held_by disks.reads members) 1 1 (opening_state 1 1).sessions (only records) truth read_there found.is_truth

  pub records_read : (logs : List (List Logged)) → AreLogs disks.reads members (opening_state 1 1).sessions logs → reverse (log_in logs 0) ≡ records
  records_read logs are = one_has_log (opening_state 1 1).sessions (held_by disks.reads members) 1 1 0 (reverse (log_in logs 0)) records (are.each 0 (omega arith)) (truth_is.has_logs 0 (omega arith))

  pub never_none : HaveNoLogs disks.reads members (opening_state 1 1).sessions → ⊥
  never_none none = none (only records) truth_is.has_logs

  -- each block of the records may stand on a disk
  pub all_parts : HasNone (newest_in records) → ⊥
  all_parts has = has.none (parts (is_taken (opening_state 1 1).sessions 0) found.taken (found.is_truth.has_logs 0 (omega arith)))
    where
      parts : (taken : Bool) → taken ≡ true → LogWhere taken before 1 1 0 records → HasParts has.block
      parts true is log = newest_parts before has.at has.block records log.stand has.is
      parts false is log = absurd cc

-- ---- what is made of it

own_points : (logs : List (List Logged)) → 1 ≤ length logs → points_in (take 1 logs) ≡ map point_of (log_in logs 0)
own_points [] some = absurd (omega (arith, some))
own_points (own ∷ logs) some = append-nil (map point_of own)

pub open_log : (logs : List (List Logged)) (records : List Logged) (log : OpenLog) → 1 ≤ length logs → reverse (log_in logs 0) ≡ records → log.points ≡ points_in (take 1 logs) → AreNewest (take 1 logs) log.newest → IsOpenLog records log
open_log [] records log some is points are = absurd (omega (arith, some))
open_log (own ∷ logs) records log some is points are = by log.newest are refl
  where
    by : (newest : List Newest) → AreNewest (own ∷ []) newest → log.newest ≡ newest → IsOpenLog records log
    by [] all same = absurd (let c = all.count in omega (arith, c))
    by (blocks ∷ rest) all same = record {
      points = points ∙ own_points (own ∷ logs) some ∙ ap (map point_of) (sym (reverse-reverse own) ∙ ap reverse is);
      first = blocks;
      first_is = ap (λ (l : List Newest). slice_get l 0) same;
      newest = λ at. all.each 0 at blocks own refl refl ∙ ap (λ (l : List Logged). newest_in l at) is;
    }
