-- Lists of bytes, and the sectors that are made of them.
use Rattle.std.specs.Prelude.{◌≡◌, ℕ, zero, suc, ◌+◌, ◌*◌, ◌<◌, ◌≤◌, Bool, true, false, ◌&&◌, nat_lt, List, [], ◌∷◌, length, take, drop, replicate, slice_index, refl}
use Rattle.std.proofs.Common.{arith, ◌∙◌}
use Rattle.std.specs.List.{list_all}
use Rattle.std.proofs.lemmas.List.{length-take, length-drop, length-replicate}
use Rattle.std.proofs.lemmas.Bool.{ltb-true, lt-ltb}
use Rattle.bx_disk.specs.Disks.{IsSector, zeros, sector_of}

abbrev pub is_byte : ℕ → Bool
is_byte b = nat_lt b 256

pub never : false ≡ true → ⊥
never e = cc

pub both : (a b : Bool) → (a && b) ≡ true → (a ≡ true) × (b ≡ true)
both true b is = (refl, is)
both false b is = absurd (never is)

pub all_take : (n : ℕ) (l : List ℕ) → list_all is_byte l ≡ true → list_all is_byte (take n l) ≡ true
all_take zero l all = refl
all_take (suc n) [] all = refl
all_take (suc n) (x ∷ l) all =
    let parts = both (is_byte x) (list_all is_byte l) all in
    rw (parts.0) (all_take n l parts.1)

all_drop : (n : ℕ) (l : List ℕ) → list_all is_byte l ≡ true → list_all is_byte (drop n l) ≡ true
all_drop zero l all = all
all_drop (suc n) [] all = refl
all_drop (suc n) (x ∷ l) all = all_drop n l (both (is_byte x) (list_all is_byte l) all).1

pub at_index : (l : List ℕ) → list_all is_byte l ≡ true → (i : ℕ) → slice_index l i < 256
at_index [] all i = omega arith
at_index (x ∷ l) all zero = ltb-true x 256 (both (is_byte x) (list_all is_byte l) all).0
at_index (x ∷ l) all (suc i) = at_index l (both (is_byte x) (list_all is_byte l) all).1 i

pub all_bytes : (l : List ℕ) → ((i : ℕ) → slice_index l i < 256) → list_all is_byte l ≡ true
all_bytes [] each = refl
all_bytes (x ∷ l) each = rw (lt-ltb x 256 (each 0)) (all_bytes l (λ i. each (suc i)))

zeros_bytes : (n i : ℕ) → slice_index (replicate n 0) i < 256
zeros_bytes zero i = omega arith
zeros_bytes (suc n) zero = omega arith
zeros_bytes (suc n) (suc i) = zeros_bytes n i

pub zeros_whole : IsSector zeros
unfolding zeros
zeros_whole = record { long = length-replicate {A = ℕ} 512 0; bytes = zeros_bytes 512 }

pub sector_whole : (bytes : List ℕ) (i : ℕ) → list_all is_byte bytes ≡ true → 512 * i + 512 ≤ length bytes → IsSector (sector_of bytes i)
unfolding sector_of
sector_whole bytes i all range = record {
  long = length-take 512 (drop (512 * i) bytes) ∙ (let rest = length-drop (512 * i) bytes in omega arith);
  bytes = at_index (take 512 (drop (512 * i) bytes)) (all_take 512 (drop (512 * i) bytes) (all_drop (512 * i) bytes all));
}
