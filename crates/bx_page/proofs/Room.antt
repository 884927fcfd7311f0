-- How much an entry adds at most, and how much all of them take.
use Rattle.std.proofs.Common.{◌≡◌, ℕ, ◌+◌, ◌*◌, ◌≤◌, Bool, true, false, cond, List, [], ◌∷◌, length, Option, Some, None, refl, arith}
use Rattle.std.specs.Prelude.{All, IfSome, sum_by}
use Rattle.std.proofs.lemmas.List.Sums.{sum_by-cons, sum_by-append, sum_by-le}
use Rattle.std.proofs.lemmas.List.Elements.{All-weaker}
use Rattle.bx_page.specs.declared.entry.Entry.{Entry}
use Rattle.bx_page.specs.Keys.{is_below}
use Rattle.bx_page.specs.Contents.{Contents, IsEntry, IsPage, entry_size, high_bytes, size, below, above, with_value}
use Rattle.bx_page.proofs.Order.{not_below_back}

both_absurd : ◌≡◌ {A = Bool} true false → ⊥
both_absurd e = absurd cc

-- an entry goes to one of two lists at most
parted : (b c : Bool) (x : Entry) (us vs : List Entry) (n : ℕ) → (b ≡ true → c ≡ false) → sum_by entry_size us + sum_by entry_size vs ≤ n
    → sum_by entry_size (cond b (x ∷ us) us) + sum_by entry_size (cond c (x ∷ vs) vs) ≤ entry_size x + n
parted true true x us vs n apart le = absurd (both_absurd (apart refl))
parted true false x us vs n apart le = omega (arith, sum_by-cons entry_size x us)
parted false true x us vs n apart le = omega (arith, sum_by-cons entry_size x vs)
parted false false x us vs n apart le = omega arith

others-le : (es : List Entry) (key : List ℕ) → sum_by entry_size (below es key) + sum_by entry_size (above es key) ≤ sum_by entry_size es
others-le [] key = omega arith
others-le (e ∷ es) key =
    let step = parted (is_below e.key key) (is_below key e.key) e (below es key) (above es key) (sum_by entry_size es) (λ h. not_below_back e.key key h) (others-le es key) in
    omega (arith, step, sum_by-cons entry_size e es)

pub size_with-le : (p : Contents) (key value : List ℕ) → size (with_value p key value) ≤ size p + (4 + (length key + length value))
size_with-le p key value =
    let e : Entry = record { key = key; value = value } in
    omega (arith, others-le p.entries key, sum_by-append entry_size (below p.entries key) (e ∷ above p.entries key), sum_by-cons entry_size e (above p.entries key))

length-high_bytes : (o : Option (List ℕ)) → IfSome o (λ h. length h ≤ 256) → length (high_bytes o) ≤ 256
length-high_bytes None short = omega arith
length-high_bytes (Some h) short = short

-- a page takes at most 272 bytes for each entry, and the high key and the numbers
pub size-le : (p : Contents) → IsPage p → size p ≤ 272 + length p.entries * 272
size-le p is =
    let each : All (λ e. entry_size e ≤ 272) p.entries = All-weaker IsEntry (λ e. entry_size e ≤ 272) (λ e fits. omega (arith, fits.both)) p.entries is.entries in
    omega (arith, sum_by-le entry_size 272 p.entries each, length-high_bytes p.high is.high)
