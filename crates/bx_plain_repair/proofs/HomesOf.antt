-- The runs of homes of a log's newest blocks.
use Rattle.std.proofs.Common.{◌≡◌, ◌⊎◌, ⊎_elim, ℕ, ◌+◌, ◌-◌, ◌*◌, ◌/◌, ◌<◌, ◌≤◌, arith, List, [], ◌∷◌, ◌++◌, Contains, Some, None, length, sym, ◌∙◌, ap, subst}
use Rattle.std.specs.Prelude.{slice_index}
use Rattle.std.proofs.lemmas.Bool.Decides.{nat_tests}
use Rattle.std.proofs.lemmas.List.Elements.{Contains-append_left, Contains-push, Contains-push_cases}
use Rattle.bx_disk.specs.Disks.{sector_of}
use Rattle.bx_facts.specs.Writes.{Writes, WritesIn}
use Rattle.bx_facts.proofs.Lists.{nothing}
use Rattle.bx_layout.specs.declared.block.Block.{Block}
use Rattle.bx_layout.specs.Blocks.{HasParts, block_text}
use Rattle.bx_logs.specs.Newest.{Newest, newest_at}
use Rattle.bx_places.specs.Places.{IsBlock, IsVolume, block_place}
use Rattle.bx_plain_store.specs.Out.{IsFitting}
use Rattle.bx_records.specs.declared.runs.Run.{Run}
use Rattle.bx_redo.specs.Homes.{AreItsHomes, home_run}
use Rattle.bx_truth.proofs.Cases.{same_or}
use Rattle.bx_volume.specs.Records.{Logged, newest_in}
use Rattle.bx_volume.proofs.Apart.{two_homes}
use Rattle.bx_volume.proofs.Sizes.{block_bytes}
use Rattle.bx_plain_repair.specs.Bench.{AreLong}
use Rattle.bx_plain_repair.specs.HomesOf.{AreHomesBelow}
use Rattle.bx_plain_repair.specs.Resting.{only}
use Rattle.bx_plain_repair.proofs.OpenLogs.{many_disks}

pub is_block_below : (at : ℕ) → at < 961 → IsBlock 1 at
is_block_below at less = record { area = omega (arith, less); slot = omega (arith, less) }

below_of : (at : ℕ) → IsBlock 1 at → at < 961
below_of at is = let a = is.area in let s = is.slot in omega (arith, a, s)

one_area : IsVolume 1 1
one_area = record { least_devices = omega arith; most_devices = omega arith; least_areas = omega arith; most_areas = omega arith }

-- they are the log's homes
pub its_homes : (newest : Newest) (records : List Logged) (runs : List Run) → AreHomesBelow newest 961 runs → ((at : ℕ) → newest_at newest at ≡ newest_in records at) → AreItsHomes 1 1 (only records) 0 runs
its_homes newest records runs are same = record {
  each = λ run there. let h = are.each run there in
      record { at = h.at; is = is_block_below h.at h.below; block = h.block; parts = h.parts; newest = sym (same h.at) ∙ h.is; run_is = h.run_is };
  all = λ at block is has. are.all at block (below_of at is) (same at ∙ has);
}

-- they lie behind the label
pub behind_label : (newest : Newest) (runs : List Run) → AreHomesBelow newest 961 runs → (run : Run) → Contains runs run → 1 ≤ run.place
behind_label newest runs are run there = let h = are.each run there in subst (λ (r : Run). 1 ≤ r.place) (sym h.run_is) (omega arith)

-- and on both members
pub homes_fit : (newest : Newest) (runs : List Run) (sizes : List ℕ) → AreLong sizes → AreHomesBelow newest 961 runs → (run : Run) → Contains runs run → IsFitting 1 sizes run
homes_fit newest runs sizes long are run there = let h = are.each run there in subst (IsFitting 1 sizes) (sym h.run_is) (fits h.at h.block h.below h.parts)
  where
    within : (at : ℕ) → at < 961 → (block_place at 1).1 + 9 ≤ 17994
    within at less = grind (arith, nat_tests)

    fits : (at : ℕ) (block : Block) → at < 961 → HasParts block → IsFitting 1 sizes (home_run 1 at block)
    fits at block less parts =
        let bytes = block_bytes block parts in
        let first : (block_place at 1).0 ≡ 0 = omega arith in
        let many = many_disks sizes long in
        let room = within at less in
        record {
          device = omega arith;
          disk = omega (arith, many, first);
          whole = omega (arith, bytes);
          first = subst (λ (d : ℕ). (block_place at 1).1 + length (block_text block) / 512 ≤ slice_index sizes (3 + 2 * d)) (sym first) (let three = long.long 3 (omega arith) in omega (arith, room, bytes, three));
          second = subst (λ (d : ℕ). (block_place at 1).1 + length (block_text block) / 512 ≤ slice_index sizes (4 + 2 * d)) (sym first) (let four = long.long 4 (omega arith) in omega (arith, room, bytes, four));
        }

-- no sector is written with two contents
pub homes_once : (newest : Newest) (runs : List Run) → AreHomesBelow newest 961 runs
    → (device sector : ℕ) (content other : List ℕ) → WritesIn runs device sector content → WritesIn runs device sector other → other ≡ content
homes_once newest runs are d s content other (run, there, w) (run_too, there_too, v) =
    let one = are.each run there in
    let two = are.each run_too there_too in
    both one.at one.block one.below one.parts one.is two.at two.block two.below two.parts two.is (subst (λ (r : Run). Writes r d s content) one.run_is w) (subst (λ (r : Run). Writes r d s other) two.run_is v)
  where
    both : (at : ℕ) (block : Block) → at < 961 → HasParts block → newest_at newest at ≡ Some block → (too : ℕ) (block_too : Block) → too < 961 → HasParts block_too → newest_at newest too ≡ Some block_too
        → Writes (home_run 1 at block) d s content → Writes (home_run 1 too block_too) d s other → other ≡ content
    both at block less parts is too block_too less_too parts_too is_too w v = ⊎_elim
        (λ (same : at ≡ too).
        let n : Some block ≡ Some block_too = sym is ∙ ap (newest_at newest) same ∙ is_too in
        let b : block ≡ block_too = (let h = n in cc) in
        sym v.is ∙ sym (λ i. sector_of (block_text (b i)) (s - (block_place (same i) 1).1)) ∙ w.is)
        (λ apart.
        let long = block_bytes block parts in
        let long_too = block_bytes block_too parts_too in
        let from = w.from in
        let below = w.below in
        let from_too = v.from in
        let below_too = v.below in
        absurd (⊎_elim (λ le. omega (arith, le, from, below, from_too, below_too, long, long_too)) (λ le. omega (arith, le, from, below, from_too, below_too, long, long_too))
        (two_homes at too 1 1 one_area (is_block_below at less) (is_block_below too less_too) apart (w.on ∙ sym v.on))))
        (same_or at too)

-- ---- one number more

pub none_yet : (newest : Newest) → AreHomesBelow newest 0 []
none_yet newest = record { each = λ run there. absurd (nothing run there); all = λ at block less. absurd (omega (arith, less)) }

last_or : (at bound : ℕ) → at < bound + 1 → (at ≡ bound) ⊎ (at < bound)
last_or at bound less = grind arith

pub one_more : (newest : Newest) (bound : ℕ) (block : Block) (runs : List Run) → newest_at newest bound ≡ Some block → HasParts block → AreHomesBelow newest bound runs
    → AreHomesBelow newest (bound + 1) (runs ++ home_run 1 bound block ∷ [])
one_more newest bound block runs is parts are = record {
  each = λ run there. ⊎_elim
      (λ old. let h = are.each run old in record { at = h.at; below = (let b = h.below in omega (arith, b)); block = h.block; parts = h.parts; is = h.is; run_is = h.run_is })
      (λ same. record { at = bound; below = omega arith; block = block; parts = parts; is = is; run_is = sym same })
      (Contains-push_cases runs (home_run 1 bound block) run there);
  all = λ at other less has. ⊎_elim
      (λ (same : at ≡ bound).
      let n : Some block ≡ Some other = sym is ∙ sym (ap (newest_at newest) same) ∙ has in
      let b : block ≡ other = (let h = n in cc) in
      subst (λ (r : Run). Contains (runs ++ home_run 1 bound block ∷ []) r) (λ i. home_run 1 (sym same i) (b i)) (Contains-push runs (home_run 1 bound block)))
      (λ low. Contains-append_left runs (home_run 1 bound block ∷ []) (home_run 1 at other) (are.all at other low has))
      (last_or at bound less);
}

pub none_more : (newest : Newest) (bound : ℕ) (runs : List Run) → newest_at newest bound ≡ None → AreHomesBelow newest bound runs → AreHomesBelow newest (bound + 1) runs
none_more newest bound runs none are = record {
  each = λ run there. let h = are.each run there in record { at = h.at; below = (let b = h.below in omega (arith, b)); block = h.block; parts = h.parts; is = h.is; run_is = h.run_is };
  all = λ at other less has. ⊎_elim
      (λ (same : at ≡ bound). absurd (let n : None ≡ Some other = sym none ∙ sym (ap (newest_at newest) same) ∙ has in cc))
      (λ low. are.all at other low has)
      (last_or at bound less);
}
