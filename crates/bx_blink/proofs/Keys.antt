-- Keys that aren't below one another.
use Rattle.std.proofs.Common.{◌≡◌, ℕ, true, false, List, Ordering, Less, Equal, Greater, refl, sym, ap, ◌∙◌}
use Rattle.std.specs.Ordering.{is_lt, nat_cmp}
use Rattle.std.specs.Cmp.Lexicographic.{slice_cmp}
use Rattle.bx_page.specs.Keys.{is_below, IsBelow}
use Rattle.bx_page.proofs.Order.{below_trans, not_below_back, same_from_cmp, greater_cmp}

pub data Order (a b : List ℕ) : Type 0 where
  lower : IsBelow a b → Order a b
  same : a ≡ b → Order a b
  higher : IsBelow b a → Order a b

pub order : (a b : List ℕ) → Order a b
order a b = by_cmp (slice_cmp nat_cmp a b) refl
  where
    by_cmp : (o : Ordering) → slice_cmp nat_cmp a b ≡ o → Order a b
    by_cmp Less is = lower (ap is_lt is)
    by_cmp Equal is = same (same_from_cmp a b is)
    by_cmp Greater is = higher (greater_cmp a b is)

no_true : false ≡ true → ⊥
no_true e = cc

pub le_lt : (a b c : List ℕ) → is_below b a ≡ false → IsBelow b c → IsBelow a c
le_lt a b c le lt = by_order (order a b)
  where
    by_order : Order a b → IsBelow a c
    by_order (lower h) = below_trans a b c h lt
    by_order (same h) = rw h lt
    by_order (higher h) = absurd (no_true (sym le ∙ h))

pub lt_le : (a b c : List ℕ) → IsBelow a b → is_below c b ≡ false → IsBelow a c
lt_le a b c lt le = by_order (order b c)
  where
    by_order : Order b c → IsBelow a c
    by_order (lower h) = below_trans a b c lt h
    by_order (same h) = rw (← h) lt
    by_order (higher h) = absurd (no_true (sym le ∙ h))

-- a is at most b, and b at most c
pub le_le : (a b c : List ℕ) → is_below b a ≡ false → is_below c b ≡ false → is_below c a ≡ false
le_le a b c ab bc = by_order (order a b)
  where
    by_order : Order a b → is_below c a ≡ false
    by_order (lower h) = not_below_back a c (lt_le a b c h bc)
    by_order (same h) = rw h bc
    by_order (higher h) = absurd (no_true (sym ab ∙ h))

pub lt_not : (a b : List ℕ) → IsBelow a b → is_below b a ≡ false
lt_not a b h = not_below_back a b h
