-- The truth that the devices hold, and the blocks over the homes.
use Rattle.std.proofs.Common.{◌≡◌, ℕ, zero, suc, ◌<◌, ◌⊎◌, ⊎_elim, inl, inr, Bool, true, false, arith, List, [], ◌∷◌, length, reverse, Option, Some, None, get_or, sym, ap, ◌∙◌, subst, refl}
use Rattle.std.specs.Prelude.{slice_get, unwrap_or, ◌==◌, if◌then◌else◌}
use Rattle.std.proofs.lemmas.Bool.Decides.{nat_tests}
use Rattle.std.specs.List.{AllByRecursion}
use Rattle.std.proofs.lemmas.Option.{slice_get_cases, slice_get_within, slice_get-get_or}
use Rattle.bx_disk.specs.Disks.{Image}
use Rattle.bx_rows.specs.declared.session.SessionRow.{SessionRow}
use Rattle.bx_rows.specs.Words.{is_taken}
use Rattle.bx_layout.specs.declared.block.Block.{Block}
use Rattle.bx_layout.specs.Blocks.{HasParts}
use Rattle.bx_places.specs.Places.{IsBlock}
use Rattle.bx_records.specs.Drafts.{Changed, block_in}
use Rattle.bx_views.specs.Truths.{Truth}
use Rattle.bx_volume.specs.bx_truth.proofs.Cases.{found}
use Rattle.bx_volume.specs.Records.{Logged, StandOpen, HasLog, LogWhere, newest_in, or_older}
use Rattle.bx_volume.specs.Overlay.{Logs, IsOverlaidTruth, IsUnlogged, IsHome}
use Rattle.bx_volume.proofs.OneLog.{one_has_log}
use Rattle.bx_logs.specs.bx_homes.specs.Slots.{AreBlocks}
use Rattle.bx_logs.specs.declared.members.Members.{Members}
use Rattle.bx_logs.specs.Logs.{AreLogs, log_in}
use Rattle.bx_logs.specs.Members.{held_by}
use Rattle.bx_logs.specs.Newest.{AreAgreed, AreNewest, Newest, first_in, newest_at}
use Rattle.bx_overlay.specs.Over.{OrHome, StandsOver}

some_one : {A : Type 0} (a b : A) → Some a ≡ Some b → a ≡ b
some_one a b same = cc

not_both : {A : Type 0} (o : Option A) (a : A) → o ≡ None → o ≡ Some a → ⊥
not_both o a none some = absurd (cc)

-- ---- the first log that has a block

-- a log with a block of this number
record HasOne (logs : List Newest) (at : ℕ) (block : Block) : Type 0 where
  slot : ℕ
  log : Newest
  there : slice_get logs slot ≡ Some log
  has : newest_at log at ≡ Some block

first_has : (logs : List Newest) (at : ℕ) (block : Block) → first_in logs at ≡ Some block → HasOne logs at block
first_has [] at block is = absurd (cc)
first_has (log ∷ others) at block is = by (newest_at log at) refl is (first_has others at block)
  where
    by : (own : Option Block) → newest_at log at ≡ own → or_older own (first_in others at) ≡ Some block → (first_in others at ≡ Some block → HasOne others at block) → HasOne (log ∷ others) at block
    by (Some x) own first rest = record { slot = zero; log = log; there = refl; has = own ∙ first }
    by None own first rest = let more = rest first in record { slot = suc more.slot; log = more.log; there = more.there; has = more.has }

none_has : (logs : List Newest) (at slot : ℕ) (log : Newest) → first_in logs at ≡ None → slice_get logs slot ≡ Some log → newest_at log at ≡ None
none_has [] at slot log is there = absurd (cc)
none_has (first ∷ others) at slot log is there = by (newest_at first at) refl is slot there (λ k. none_has others at k log)
  where
    by : (own : Option Block) → newest_at first at ≡ own → or_older own (first_in others at) ≡ None → (slot : ℕ) → slice_get (first ∷ others) slot ≡ Some log
        → ((k : ℕ) → first_in others at ≡ None → slice_get others k ≡ Some log → newest_at log at ≡ None) → newest_at log at ≡ None
    by (Some x) own none k at_k rest = absurd (cc)
    by None own none zero at_k rest = ap (λ (l : Newest). newest_at l at) (sym (some_one first log at_k)) ∙ own
    by None own none (suc k) at_k rest = rest k none at_k

-- ---- a record's blocks are the volume's

block_is : (areas : ℕ) (changed : List Changed) (at : ℕ) (block : Block) → AllByRecursion (λ change. IsBlock areas change.0 × HasParts change.1) changed → block_in changed at ≡ Some block → IsBlock areas at
block_is areas [] at block all is = absurd (cc)
block_is areas (change ∷ behind) at block all is = by (change.0 == at) refl is (block_is areas behind at block all.1)
  where
    by : (t : Bool) → (change.0 == at) ≡ t → (if t then Some change.1 else block_in behind at) ≡ Some block → (block_in behind at ≡ Some block → IsBlock areas at) → IsBlock areas at
    by true here first rest = subst (IsBlock areas) (grind (arith, nat_tests, here)) all.0.0
    by false here next rest = rest next

run_is : (held : Image) (devices areas slot : ℕ) (records : List Logged) (at : ℕ) (block : Block) → StandOpen held devices areas slot records → newest_in records at ≡ Some block → IsBlock areas at
run_is held devices areas slot [] at block stand is = absurd (cc)
run_is held devices areas slot (newest ∷ older) at block stand is = by (block_in newest.changed at) refl is (run_is held devices areas slot older at block stand.2)
  where
    by : (own : Option Block) → block_in newest.changed at ≡ own → or_older own (newest_in older at) ≡ Some block → (newest_in older at ≡ Some block → IsBlock areas at) → IsBlock areas at
    by (Some x) own first rest = block_is areas newest.changed at x stand.1.is.blocks own
    by None own next rest = rest next

log_is : (rows : List SessionRow) (held : Image) (devices areas slot : ℕ) (records : List Logged) (at : ℕ) (block : Block) → HasLog rows held devices areas slot records
    → newest_in records at ≡ Some block → IsBlock areas at
log_is rows held devices areas slot records at block has is = by (is_taken rows slot) has
  where
    by : (taken : Bool) → LogWhere taken held devices areas slot records → IsBlock areas at
    by true log = run_is held devices areas slot records at block log.stand is
    by false none = absurd (not_both (newest_in records at) block (ap (λ (l : List Logged). newest_in l at) none) is)

-- ---- both ways

module _ (image : Image) (members : Members) (rows : List SessionRow) (logs : List (List Logged)) (newest : List Newest) (are : AreLogs image members rows logs) (of : AreNewest logs newest) where
  abbrev held : Image
  held = held_by image members

  count : length newest ≡ 8
  count = of.count ∙ are.count

  -- what the log of a slot has is what the map has
  same_newest : (slot at : ℕ) (log : Newest) → slice_get newest slot ≡ Some log → newest_at log at ≡ newest_in (reverse (log_in logs slot)) at
  same_newest slot at log there =
      let within : slot < length logs = let less = slice_get_within newest slot log there in omega (arith, less, of.count) in
      let here = slice_get-get_or logs slot [] within in
      of.each slot at log (get_or logs slot []) there here ∙ ap (λ (o : Option (List Logged)). newest_in (reverse (unwrap_or o [])) at) (sym here)

  -- each slot has a map
  record HasMap (slot : ℕ) : Type 0 where
    log : Newest
    there : slice_get newest slot ≡ Some log

  has_map : (slot : ℕ) → slot < 8 → HasMap slot
  has_map slot less = ⊎_elim
      (λ here. record { log = here.0; there = here.2 })
      (λ past. absurd (omega (arith, less, count, past.0)))
      (slice_get_cases newest slot).1

  slot_less : (slot : ℕ) (log : Newest) → slice_get newest slot ≡ Some log → slot < 8
  slot_less slot log there = let less = slice_get_within newest slot log there in omega (arith, less, count)

  module _ (truth : Truth) where
    -- any two blocks of one number are the same
    two_same : AreAgreed newest 8 → (at slot other : ℕ) (one two : Newest) (a b : Block) → slice_get newest slot ≡ Some one → slice_get newest other ≡ Some two → newest_at one at ≡ Some a → newest_at two at ≡ Some b → a ≡ b
    two_same agreed at slot other one two a b there_one there_two has_one has_two = by (order slot other)
      where
        order : (n m : ℕ) → (n < m) ⊎ ((m < n) ⊎ (n ≡ m))
        order n m = grind arith

        by : (slot < other) ⊎ ((other < slot) ⊎ (slot ≡ other)) → a ≡ b
        by (inl less) = agreed slot other one two less (slot_less other two there_two) there_one there_two at a b has_one has_two
        by (inr (inl more)) = sym (agreed other slot two one more (slot_less slot one there_one) there_two there_one at b a has_two has_one)
        by (inr (inr same)) =
            let one_log : one ≡ two = some_one one two (sym there_one ∙ ap (slice_get newest) same ∙ there_two) in
            some_one a b (sym has_one ∙ ap (λ (l : Newest). newest_at l at) one_log ∙ has_two)

    pub is_truth : AreAgreed newest 8 → AreBlocks members.areas (StandsOver held members.devices newest) truth → IsOverlaidTruth held members.devices members.areas rows (λ slot. reverse (log_in logs slot)) truth
    is_truth agreed blocks = record {
      has_logs = are.each;
      logged = logged;
      home = λ at is unlogged. by_home at unlogged (found (first_in newest at)) (blocks at is);
    }
      where
        logged : (slot at : ℕ) (block : Block) → slot < 8 → newest_in (reverse (log_in logs slot)) at ≡ Some block → truth at ≡ block
        logged slot at block less is = by (found (first_in newest at)) (blocks at (log_is rows held members.devices members.areas slot (reverse (log_in logs slot)) at block (are.each slot less) is))
          where
            map_of : HasMap slot
            map_of = has_map slot less

            has : newest_at map_of.log at ≡ Some block
            has = same_newest slot at map_of.log map_of.there ∙ is

            by : (first_in newest at ≡ None) ⊎ ((first : Block) × (first_in newest at ≡ Some first)) → StandsOver held members.devices newest at (truth at) → truth at ≡ block
            by (inl none) stands = absurd (not_both (newest_at map_of.log at) block (none_has newest at slot map_of.log none map_of.there) has)
            by (inr (first, some)) stands =
                let one = first_has newest at first some in
                subst (λ (o : Option Block). OrHome o held members.devices at (truth at)) some stands ∙ two_same agreed at one.slot slot one.log map_of.log first block one.there map_of.there one.has has

        by_home : (at : ℕ) → IsUnlogged (λ slot. reverse (log_in logs slot)) at → (first_in newest at ≡ None) ⊎ ((first : Block) × (first_in newest at ≡ Some first))
            → StandsOver held members.devices newest at (truth at) → IsHome held members.devices at (truth at)
        by_home at unlogged (inl none) stands = subst (λ (o : Option Block). OrHome o held members.devices at (truth at)) none stands
        by_home at unlogged (inr (first, some)) stands =
            let one = first_has newest at first some in
            absurd (not_both (newest_at one.log at) first (same_newest one.slot at one.log one.there ∙ unlogged one.slot (slot_less one.slot one.log one.there)) one.has)

    module _ (others : Logs) (truth_is : IsOverlaidTruth held members.devices members.areas rows others truth) where
      -- the logs are these
      same_log : (slot : ℕ) → slot < 8 → reverse (log_in logs slot) ≡ others slot
      same_log slot less = one_has_log rows held members.devices members.areas slot (reverse (log_in logs slot)) (others slot) (are.each slot less) (truth_is.has_logs slot less)

      newest_same : (slot at : ℕ) (log : Newest) → slice_get newest slot ≡ Some log → newest_at log at ≡ newest_in (others slot) at
      newest_same slot at log there = same_newest slot at log there ∙ ap (λ (l : List Logged). newest_in l at) (same_log slot (slot_less slot log there))

      has_truth : (slot at : ℕ) (log : Newest) (block : Block) → slice_get newest slot ≡ Some log → newest_at log at ≡ Some block → truth at ≡ block
      has_truth slot at log block there has = truth_is.logged slot at block (slot_less slot log there) (sym (newest_same slot at log there) ∙ has)

      pub are_agreed : AreAgreed newest 8
      are_agreed slot later one other order less one_there other_there at a b one_has other_has = sym (has_truth slot at one a one_there one_has) ∙ has_truth later at other b other_there other_has

      pub are_blocks : AreBlocks members.areas (StandsOver held members.devices newest) truth
      are_blocks at is = by (found (first_in newest at))
        where
          by : (first_in newest at ≡ None) ⊎ ((first : Block) × (first_in newest at ≡ Some first)) → StandsOver held members.devices newest at (truth at)
          by (inl none) =
              let unlogged : IsUnlogged others at = λ slot less. let m = has_map slot less in sym (newest_same slot at m.log m.there) ∙ none_has newest at slot m.log none m.there in
              subst (λ (o : Option Block). OrHome o held members.devices at (truth at)) (sym none) (truth_is.home at is unlogged)
          by (inr (first, some)) =
              let one = first_has newest at first some in
              subst (λ (o : Option Block). OrHome o held members.devices at (truth at)) (sym some) (has_truth one.slot at one.log first one.there one.has)
