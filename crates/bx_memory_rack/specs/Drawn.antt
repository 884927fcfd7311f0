-- Drawn noise has whole sectors.
use Rattle.std.specs.Prelude.{◌≡◌, ℕ, zero, suc, ◌*◌, ◌<◌, Bool, true, length, take, refl}
use Rattle.std.proofs.Common.{arith, ap, ◌∙◌, length-append}
use Rattle.std.specs.Int.{w32, to_le_bytes, bytes_low_first, byte_at}
use Rattle.std.specs.List.{list_all}
use Rattle.std.proofs.lemmas.Bool.{lt-ltb}
use Rattle.std.proofs.lemmas.List.{length-take}
use Rattle.std.proofs.lemmas.List.Folds.{list_all-append}
use Rattle.rand_core.specs.Steps.{word_bytes}
use Rattle.rand_pcg.specs.Lcg.{Lcg}
use Rattle.rand_pcg.specs.Pcg.{pcg32}
use Rattle.bx_disk.specs.Disks.{IsSector}
use Rattle.bx_memory_rack.specs.Bytes.{is_byte, all_take, at_index}
use Rattle.bx_disk.specs.Crash.{drawn, after_sectors, count_below, noise_at}

byte_small : (i n : ℕ) → byte_at i n < 256
byte_small zero n = omega arith
byte_small (suc i) n = omega arith

length_low : (i k n : ℕ) → length (bytes_low_first i k n) ≡ k
length_low i zero n = refl
length_low i (suc k) n = ap suc (length_low (suc i) k n)

all_low : (i k n : ℕ) → list_all is_byte (bytes_low_first i k n) ≡ true
all_low i zero n = refl
all_low i (suc k) n = rw (lt-ltb (byte_at i n) 256 (byte_small i n)) (all_low (suc i) k n)

length_words : (k : ℕ) (generator : Lcg) → length (word_bytes (to_le_bytes w32) pcg32 k generator).0 ≡ 4 * k
unfolding word_bytes
length_words zero generator = refl
length_words (suc k) generator =
    let before = word_bytes (to_le_bytes w32) pcg32 k generator in
    let front = length_words k generator in
    let last = length_low 0 4 (pcg32 before.1).0 in
    length-append before.0 (to_le_bytes w32 (pcg32 before.1).0) ∙ omega arith

all_words : (k : ℕ) (generator : Lcg) → list_all is_byte (word_bytes (to_le_bytes w32) pcg32 k generator).0 ≡ true
unfolding word_bytes
all_words zero generator = refl
all_words (suc k) generator =
    let before = word_bytes (to_le_bytes w32) pcg32 k generator in
    list_all-append is_byte before.0 (to_le_bytes w32 (pcg32 before.1).0) ∙ rw (all_words k generator, all_low 0 4 (pcg32 before.1).0) refl

pub drawn_whole : (generator : Lcg) → IsSector (drawn generator).0
unfolding drawn
drawn_whole generator = record {
  long = length-take 512 (word_bytes (to_le_bytes w32) pcg32 128 generator).0 ∙ (let words = length_words 128 generator in omega arith);
  bytes = at_index (take 512 (word_bytes (to_le_bytes w32) pcg32 128 generator).0) (all_take 512 (word_bytes (to_le_bytes w32) pcg32 128 generator).0 (all_words 128 generator));
}

pub noise_whole : (unsure : ℕ → Bool) (generator : Lcg) (s : ℕ) → IsSector (noise_at unsure generator s)
noise_whole unsure generator s = drawn_whole (after_sectors generator (count_below unsure s))
