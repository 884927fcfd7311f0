-- Counts that are kept in 64 bits.
use Rattle.std.proofs.Common.{◌≡◌, ℕ, ◌+◌, ◌≤◌, arith}
use Rattle.std.specs.Prelude.{◌-◌, ◌^◌, min, ◌<◌}
use Rattle.bx_audit_links.specs.Counted.{kept}

-- one more, or more, of what is kept
pub kept_more : (n more : ℕ) → min (kept n + more) (2 ^ 64 - 1) ≡ kept (n + more)
kept_more n more = grind arith

-- what has room is kept as it is
pub kept_is : (n m : ℕ) → m < 2 ^ 32 → kept n ≡ m → n ≡ m
kept_is n m room is = grind arith

pub is_kept : (n m : ℕ) → m < 2 ^ 32 → n ≡ m → kept n ≡ m
is_kept n m room is = grind arith

pub kept_some : (n : ℕ) → 1 ≤ kept n → 1 ≤ n
kept_some n some = grind arith

pub some_kept : (n : ℕ) → 1 ≤ n → 1 ≤ kept n
some_kept n some = grind arith

pub kept_one : (n : ℕ) → kept n ≤ 1 → n ≤ 1
kept_one n one = grind arith

pub one_kept : (n : ℕ) → n ≤ 1 → kept n ≤ 1
one_kept n one = grind arith
