-- The modes of a device: 0 Both, 1 OnlyA, 2 OnlyB, 3 CopyAB, 4 CopyBA.
use Rattle.std.specs.Prelude.{◌≡◌, ℕ, zero, suc, Bool, true, false, ◌⊎◌}

-- the modes by their names
abbrev pub both : ℕ
both = 0

abbrev pub only_a : ℕ
only_a = 1

abbrev pub only_b : ℕ
only_b = 2

abbrev pub copy_ab : ℕ
copy_ab = 3

abbrev pub copy_ba : ℕ
copy_ba = 4

-- a mode is one of two, or of three
abbrev pub IsEither : ℕ → ℕ → ℕ → Type 0
IsEither mode a b = (mode ≡ a) ⊎ (mode ≡ b)

abbrev pub IsOneOf : ℕ → ℕ → ℕ → ℕ → Type 0
IsOneOf mode a b c = (mode ≡ a) ⊎ IsEither mode b c

-- the modes that one step leads to, from Both, OnlyA, OnlyB, CopyAB and CopyBA
abbrev pub IsReachable : ℕ → ℕ → Type 0
IsReachable zero new = IsOneOf new both only_a only_b
IsReachable (suc zero) new = IsEither new only_a copy_ab
IsReachable (suc (suc zero)) new = IsEither new only_b copy_ba
IsReachable (suc (suc (suc zero))) new = IsOneOf new copy_ab only_a both
IsReachable (suc (suc (suc (suc zero)))) new = IsOneOf new copy_ba only_b both
IsReachable (suc (suc (suc (suc (suc other))))) new = ⊥

-- writes go to member A (false), or B (true): to both in Both, and to none in a copy mode
abbrev pub IsWritten : ℕ → Bool → Type 0
IsWritten mode false = IsEither mode both only_a
IsWritten mode true = IsEither mode both only_b

-- reads go to member A, else to B
abbrev pub IsReadAtA : ℕ → Type 0
IsReadAtA mode = IsOneOf mode both only_a copy_ab

-- member A (false), or B (true), is one that an audit compares: both in Both, else the one that reads go to
abbrev pub IsSource : ℕ → Bool → Type 0
IsSource mode false = IsReadAtA mode
IsSource mode true = (mode ≡ both) ⊎ (IsReadAtA mode → ⊥)
