-- Blocks one behind the other, and the bytes of a record.
use Rattle.std.proofs.Common.{◌≡◌, ◌≢◌, ℕ, zero, suc, ◌+◌, ◌-◌, ◌*◌, ◌/◌, ◌<◌, ◌≤◌, ◌⊎◌, ⊎_elim, Bool, true, false, arith, List, [], ◌∷◌, ◌++◌, length, map, take, drop, get_or, sym, ap, ◌∙◌, refl, subst, length-drop}
use Rattle.std.specs.Prelude.{nat_eq}
use Rattle.std.specs.List.{flat_map, AllByRecursion, IsDistinct}
use Rattle.std.proofs.lemmas.Bool.Decides.{nat_tests}
use Rattle.std.proofs.lemmas.List.{take_all, take-append-le, drop-append-le, length-append, length-map, map-append, take_more}
use Rattle.std.proofs.Math.Seq.{drop-append-add}
use Rattle.bx_disk.specs.Disks.{Image, sector_of}
use Rattle.bx_base.specs.Writing.{padded}
use Rattle.bx_calls.specs.Regions.{ReadsAs}
use Rattle.bx_layout.specs.declared.block.Block.{Block}
use Rattle.bx_layout.specs.Blocks.{HasParts, block_text}
use Rattle.bx_places.specs.Places.{IsBlock}
use Rattle.bx_records.specs.Drafts.{Changed, same_number}
use Rattle.bx_records.specs.Records.{SpellsHead, head_text}
use Rattle.bx_homes.specs.bx_volume.specs.Records.{Logged, IsLogged, logged_text}
use Rattle.bx_homes.specs.bx_volume.proofs.Sizes.{block_bytes, head_long}
use Rattle.bx_homes.specs.Standing.{BlockStandsAt}
use Rattle.bx_logs.specs.Bodies.{AreNumbers, IsRecordAt, StandOn}

-- ---- two parts

module _ (front back : List ℕ) (count : ℕ) (long : length front ≡ 512 * count) where
  in_front : (i : ℕ) → i < count → sector_of (front ++ back) i ≡ sector_of front i
  unfolding sector_of
  in_front i less =
      ap (take 512) (drop-append-le (512 * i) front back (omega (arith, less, long)))
      ∙ take-append-le 512 (drop (512 * i) front) back (let e = length-drop (512 * i) front in omega (arith, e, less, long))

  in_back : (i : ℕ) → sector_of (front ++ back) (count + i) ≡ sector_of back i
  unfolding sector_of
  in_back i =
      let e : 512 * (count + i) ≡ length front + 512 * i = omega (arith, long) in
      ap (λ (n : ℕ). take 512 (drop n (front ++ back))) e ∙ ap (take 512) (drop-append-add front back (512 * i))

  module _ (image : Image) (disk sector : ℕ) where
    pub joined : ReadsAs image disk sector front → ReadsAs image disk (sector + count) back → ReadsAs image disk sector (front ++ back)
    joined first second = record { each = λ i less. by i less (side i) }
      where
        side : (i : ℕ) → (i < count) ⊎ (count ≤ i)
        side i = grind arith

        by : (i : ℕ) → i < length (front ++ back) / 512 → (i < count) ⊎ (count ≤ i) → image disk (sector + i) ≡ sector_of (front ++ back) i
        by i less which = ⊎_elim
            (λ under. first.each i (omega (arith, under, long)) ∙ sym (in_front i under))
            (λ past.
            let all = length-append front back in
            let there : sector + i ≡ sector + count + (i - count) = omega (arith, past) in
            let number : count + (i - count) ≡ i = omega (arith, past) in
            ap (image disk) there ∙ second.each (i - count) (omega (arith, less, all, long, past)) ∙ sym (in_back (i - count)) ∙ ap (sector_of (front ++ back)) number)
            which

    pub first_part : ReadsAs image disk sector (front ++ back) → ReadsAs image disk sector front
    first_part whole = record {
      each = λ i less.
          let all = length-append front back in
          whole.each i (omega (arith, less, all, long)) ∙ in_front i (omega (arith, less, long));
    }

    pub second_part : ReadsAs image disk sector (front ++ back) → ReadsAs image disk (sector + count) back
    second_part whole = record {
      each = λ i less.
          let all = length-append front back in
          let there : sector + count + i ≡ sector + (count + i) = omega arith in
          ap (image disk) there ∙ whole.each (count + i) (omega (arith, less, all, long)) ∙ in_back i;
    }

-- ---- blocks

module _ (image : Image) (disk : ℕ) where
  pub stand_read : (sector : ℕ) (changed : List Changed) → StandOn image disk sector changed → ReadsAs image disk sector (flat_map (λ (change : Changed). block_text change.1) changed)
  stand_read sector [] stand = record { each = λ i less. absurd (omega (arith, less)) }
  stand_read sector (change ∷ behind) stand =
      joined (block_text change.1) (flat_map (λ (change : Changed). block_text change.1) behind) 9 (block_bytes change.1 stand.0.is) image disk sector stand.0.reads (stand_read (sector + 9) behind stand.1)

  pub read_stand : (sector areas : ℕ) (changed : List Changed) → AllByRecursion (λ change. IsBlock areas change.0 × HasParts change.1) changed
      → ReadsAs image disk sector (flat_map (λ (change : Changed). block_text change.1) changed) → StandOn image disk sector changed
  read_stand sector areas [] all reads = tt
  read_stand sector areas (change ∷ behind) all reads =
      let long = block_bytes change.1 all.0.1 in (
        record { is = all.0.1; reads = first_part (block_text change.1) (flat_map (λ (change : Changed). block_text change.1) behind) 9 long image disk sector reads },
        read_stand (sector + 9) areas behind all.1 (second_part (block_text change.1) (flat_map (λ (change : Changed). block_text change.1) behind) 9 long image disk sector reads),
      )

  pub more_stand : (sector : ℕ) (changed : List Changed) (next : Changed) → StandOn image disk sector changed → BlockStandsAt image disk (sector + 9 * length changed) next.1
      → StandOn image disk sector (changed ++ next ∷ [])
  more_stand sector [] next stand more = (subst (λ (s : ℕ). BlockStandsAt image disk s next.1) (omega arith) more, tt)
  more_stand sector (change ∷ behind) next stand more =
      (stand.0, more_stand (sector + 9) behind next stand.1 (subst (λ (s : ℕ). BlockStandsAt image disk s next.1) (omega arith) more))

  -- where all stand, each does
  pub no_gap : (sector i : ℕ) (changed : List Changed) → i < length changed → StandOn image disk sector changed → ((block : Block) → BlockStandsAt image disk (sector + 9 * i) block → ⊥) → ⊥
  no_gap sector i [] less stand none = absurd (omega (arith, less))
  no_gap sector zero (change ∷ behind) less stand none = none change.1 (subst (λ (s : ℕ). BlockStandsAt image disk s change.1) (omega arith) stand.0)
  no_gap sector (suc i) (change ∷ behind) less stand none =
      no_gap (sector + 9) i behind (omega (arith, less)) stand.1 (λ block at. none block (subst (λ (s : ℕ). BlockStandsAt image disk s block) (omega arith) at))

-- ---- numbers

apart : (a b : ℕ) → (b ≡ a → ⊥) → nat_eq a b ≡ false
apart a b other = by (nat_eq a b) refl
  where
    by : (t : Bool) → nat_eq a b ≡ t → nat_eq a b ≡ false
    by true is = absurd (other (sym (grind (arith, nat_tests, is))))
    by false is = is

others_apart : (change : Changed) (behind : List Changed) → AllByRecursion (λ other. other ≢ change.0) (map (λ change. change.0) behind) → AllByRecursion (λ other. same_number change other ≡ false) behind
others_apart change [] all = tt
others_apart change (next ∷ behind) all = (apart change.0 next.0 all.0, others_apart change behind all.1)

pub are_apart : (areas : ℕ) (changed : List Changed) → AreNumbers areas (map (λ change. change.0) changed) → IsDistinct same_number changed
unfolding IsDistinct
are_apart areas [] are = tt
are_apart areas (change ∷ behind) are = (others_apart change behind are.1, are_apart areas behind are.2)

pub are_blocks : (image : Image) (disk sector areas : ℕ) (changed : List Changed) → AreNumbers areas (map (λ change. change.0) changed) → StandOn image disk sector changed
    → AllByRecursion (λ change. IsBlock areas change.0 × HasParts change.1) changed
are_blocks image disk sector areas [] are stand = tt
are_blocks image disk sector areas (change ∷ behind) are stand = ((are.0, stand.0.is), are_blocks image disk (sector + 9) areas behind are.2 stand.1)

differ : (a b : ℕ) → nat_eq a b ≡ false → b ≡ a → ⊥
differ a b test same = grind (arith, nat_tests, test, same)

others_differ : (change : Changed) (behind : List Changed) → AllByRecursion (λ other. same_number change other ≡ false) behind → AllByRecursion (λ other. other ≢ change.0) (map (λ change. change.0) behind)
others_differ change [] all = tt
others_differ change (next ∷ behind) all = (differ change.0 next.0 all.0, others_differ change behind all.1)

pub numbers_of : (areas : ℕ) (changed : List Changed) → IsDistinct same_number changed → AllByRecursion (λ change. IsBlock areas change.0 × HasParts change.1) changed → AreNumbers areas (map (λ change. change.0) changed)
unfolding IsDistinct
numbers_of areas [] distinct all = tt
numbers_of areas (change ∷ behind) distinct all = (all.0.0, others_differ change behind distinct.0, numbers_of areas behind distinct.1 all.1)

pub more_numbers : (changed : List Changed) (numbers : List ℕ) (at number : ℕ) (block : Block) → map (λ change. change.0) changed ≡ take at numbers → at < length numbers → number ≡ get_or numbers at 0
    → map (λ change. change.0) (changed ++ (number, block) ∷ []) ≡ take (at + 1) numbers
more_numbers changed numbers at number block so_far less same =
    map-append (λ (change : Changed). change.0) changed ((number, block) ∷ []) ∙ ap (λ (l : List ℕ). l ++ number ∷ []) so_far ∙ ap (λ (n : ℕ). take at numbers ++ n ∷ []) same ∙ sym (take_more numbers at 0 less)

-- ---- records

whole_sector : (bytes : List ℕ) → length bytes ≡ 512 → sector_of bytes 0 ≡ bytes
unfolding sector_of
whole_sector bytes long = take_all 512 bytes (omega (arith, long))

module _ (image : Image) (disk sector areas : ℕ) where
  pub record_there : (logged : Logged) → SpellsHead logged.head (image disk sector) → AreNumbers areas logged.head.blocks → map (λ change. change.0) logged.changed ≡ logged.head.blocks
      → StandOn image disk (sector + 1) logged.changed → IsRecordAt image disk sector areas logged
  record_there logged spells are numbers stand = record { is = is; reads = reads }
    where
      own : AreNumbers areas (map (λ change. change.0) logged.changed)
      own = subst (AreNumbers areas) (sym numbers) are

      is : IsLogged areas logged
      is = record {
        is_head = spells.is;
        numbers = sym numbers;
        draft = record { most = let e = length-map logged.changed (λ (change : Changed). change.0) in let n = ap length numbers in omega (arith, e, n, spells.is.count); apart = are_apart areas logged.changed own };
        blocks = are_blocks image disk (sector + 1) areas logged.changed own stand;
      }

      long : length (padded 512 (head_text logged.head)) ≡ 512 * 1
      long = head_long areas logged is

      first : ReadsAs image disk sector (padded 512 (head_text logged.head))
      first = record {
        each = λ i less.
            let one : i ≡ 0 = omega (arith, less, long) in
            let there : sector + i ≡ sector = omega (arith, one) in
            ap (image disk) there ∙ spells.parts ∙ sym (whole_sector (padded 512 (head_text logged.head)) long) ∙ ap (sector_of (padded 512 (head_text logged.head))) (sym one);
      }

      reads : ReadsAs image disk sector (logged_text logged)
      reads = joined (padded 512 (head_text logged.head)) (flat_map (λ (change : Changed). block_text change.1) logged.changed) 1 long image disk sector first (stand_read image disk (sector + 1) logged.changed stand)

  module _ (logged : Logged) (at : IsRecordAt image disk sector areas logged) where
    long : length (padded 512 (head_text logged.head)) ≡ 512 * 1
    long = head_long areas logged at.is

    pub head_there : SpellsHead logged.head (image disk sector)
    head_there = record { is = at.is.is_head; parts = here }
      where
        here : image disk sector ≡ padded 512 (head_text logged.head)
        here =
            let there : sector ≡ sector + 0 = omega arith in
            ap (image disk) there ∙ (first_part (padded 512 (head_text logged.head)) (flat_map (λ (change : Changed). block_text change.1) logged.changed) 1 long image disk sector at.reads).each 0 (omega (arith, long))
            ∙ whole_sector (padded 512 (head_text logged.head)) long

    pub numbers_there : AreNumbers areas logged.head.blocks
    numbers_there = subst (AreNumbers areas) (sym at.is.numbers) (numbers_of areas logged.changed at.is.draft.apart at.is.blocks)

    pub blocks_there : StandOn image disk (sector + 1) logged.changed
    blocks_there = read_stand image disk (sector + 1) areas logged.changed at.is.blocks (second_part (padded 512 (head_text logged.head)) (flat_map (λ (change : Changed). block_text change.1) logged.changed) 1 long image disk sector at.reads)
