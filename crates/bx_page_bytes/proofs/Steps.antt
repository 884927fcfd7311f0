-- The entries that stand in bytes, one by one.
use Rattle.std.proofs.Common.{◌≡◌, ℕ, suc, ◌-◌, List, [], ◌∷◌, length, Some, None, refl, sym, ap, ◌∙◌, arith}
use Rattle.bx_base.specs.declared.error.ReadError.{ReadError}
use Rattle.bx_base.specs.declared.error.ReadError.TheVariants.{Malformed}
use Rattle.bx_base.specs.Reading.{Fails}
use Rattle.bx_page.specs.declared.entry.Entry.{Entry}
use Rattle.bx_page.specs.Reading.{entry_at}
use Rattle.bx_page_bytes.specs.Entries.{entries_in}

-- the first entry, and the others
pub entries_step : (n : ℕ) (bytes rest : List ℕ) (e : Entry) → (n ≡ 0 → ⊥) → entry_at bytes ≡ Some (e, rest) → entries_in n bytes ≡ e ∷ entries_in (n - 1) rest
unfolding entries_in
entries_step n bytes rest e some is =
    let k : n ≡ suc (n - 1) = omega arith in
    let one : entries_in (suc (n - 1)) bytes ≡ e ∷ entries_in (n - 1) rest = rw is refl in
    ap (λ (m : ℕ). entries_in m bytes) k ∙ one

-- where all are there, there is a first one
pub first_is_there : (n : ℕ) (bytes : List ℕ) (error : ReadError) → (n ≡ 0 → ⊥) → length (entries_in n bytes) ≡ n → Fails error (entry_at bytes) → error ≡ Malformed → ⊥
unfolding entries_in
first_is_there n bytes error some there fails is =
    let none : entry_at bytes ≡ None = rw is at fails in
    let k : n ≡ suc (n - 1) = omega arith in
    let one : entries_in (suc (n - 1)) bytes ≡ [] = rw none refl in
    let all : entries_in n bytes ≡ [] = ap (λ (m : ℕ). entries_in m bytes) k ∙ one in
    some (sym there ∙ ap length all)

pub others_are_there : (n : ℕ) (bytes rest : List ℕ) (e : Entry) → (n ≡ 0 → ⊥) → length (entries_in n bytes) ≡ n → entry_at bytes ≡ Some (e, rest) → length (entries_in (n - 1) rest) ≡ n - 1
others_are_there n bytes rest e some there is =
    let step : length (entries_in n bytes) ≡ length (e ∷ entries_in (n - 1) rest) = ap length (entries_step n bytes rest e some is) in
    omega arith

pub none_in : (bytes : List ℕ) → entries_in 0 bytes ≡ []
unfolding entries_in
none_in bytes = refl
