-- The handles of a map's holders, one behind the other.
use Rattle.std.proofs.Common.{◌≡◌, ℕ, zero, suc, ◌<◌, ◌⊎◌, ⊎_elim, inl, inr, arith, List, [], ◌∷◌, subst, refl, Option, Some, None, IsSome}
use Rattle.std.specs.Prelude.{◌≢◌, Contains}
use Rattle.std.specs.BTreeMap.{BTreeMap, IsOrdered, keys}
use Rattle.std.specs.Cmp.{nat_cmp_total}
use Rattle.std.specs.List.Sorted.{IsStrictlySortedBy}
use Rattle.std.specs.Ordering.{nat_cmp}
use Rattle.std.proofs.lemmas.Map.Keys.{below_from_sorted, sorted_tail}
use Rattle.std.proofs.lemmas.Map.Lookups.{exact_unsigned}
use Rattle.std.proofs.lemmas.Map.Views.{btree_map_contains_key_iff}
use Rattle.bx_audit_owners.specs.declared.holders.Holder.{Holder}
use Rattle.bx_audit_slots.specs.declared.own_blocks.OwnBlock.{OwnBlock}
use Rattle.bx_audit_owners.specs.Holding.{Holdings, holdings_of}
use Rattle.bx_audit_owners.specs.Words.{IsFirstTornIn, IsInOwn, IsTornIn}

-- these handles are left, in their order, and all others are done
pub record AreLeft (owns : List OwnBlock) (holdings : Holdings) (rest : List ℕ) : Type 0 where
  pub there : (handle : ℕ) → Contains rest handle → holdings handle ≢ None
  pub done : (handle : ℕ) → holdings handle ≢ None → Contains rest handle ⊎ IsInOwn owns handle
  pub rise : IsStrictlySortedBy nat_cmp rest

some_there : {X : Type 0} (o : Option X) → IsSome o → o ≢ None
some_there None is none = absurd cc
some_there (Some x) is none = absurd cc

is_some : {X : Type 0} (o : Option X) → o ≢ None → IsSome o
is_some None is = absurd (is refl)
is_some (Some x) is = refl

-- before the first
pub all_left : (owns : List OwnBlock) (holders : BTreeMap ℕ Holder) → IsOrdered nat_cmp holders → AreLeft owns (holdings_of holders) (keys holders)
all_left owns holders ordered = record {
  there = λ handle is. some_there (holdings_of holders handle) ((btree_map_contains_key_iff nat_cmp_total exact_unsigned holders handle).1 is);
  done = λ handle held. inl ((btree_map_contains_key_iff nat_cmp_total exact_unsigned holders handle).0 (is_some (holdings_of holders handle) held));
  rise = ordered;
}

module _ (owns : List OwnBlock) (holdings : Holdings) (handle : ℕ) (rest : List ℕ) (left : AreLeft owns holdings (handle ∷ rest)) where
  first_or : (other : ℕ) → Contains (handle ∷ rest) other → (handle ≡ other) ⊎ Contains rest other
  first_or other (zero, less, is) = inl is
  first_or other (suc k, less, is) = inr (k, omega (arith, less), is)

  -- one more is done
  pub one_done : IsInOwn owns handle → AreLeft owns holdings rest
  one_done is = record {
    there = λ other within. left.there other (suc within.0, let less = within.1 in omega (arith, less), within.2);
    done = λ other held. ⊎_elim
        (λ within. ⊎_elim (λ same. inr (subst (IsInOwn owns) same is)) (λ later. inl later) (first_or other within))
        (λ was. inr was)
        (left.done other held);
    rise = sorted_tail nat_cmp handle rest left.rise;
  }

  -- those below the first one that is left are done
  earlier : (other : ℕ) → other < handle → Contains (handle ∷ rest) other → ⊥
  earlier other below (zero, less, is) = let e : handle ≡ other = is in omega (arith, e, below)
  earlier other below (suc k, less, is) =
      let above = below_from_sorted (handle ∷ rest) 0 (suc k) other left.rise (omega arith) less in
      let more : handle < other = subst (λ (n : ℕ). handle < n) is above in
      omega (arith, more, below)

  pub first_torn : (at found wanted : ℕ) → IsTornIn owns handle at found wanted → IsFirstTornIn owns holdings at found wanted
  first_torn at found wanted torn = record {
    handle = handle;
    held = left.there handle (0, omega arith, refl);
    torn = torn;
    first = λ other held below. ⊎_elim (λ within. absurd (earlier other below within)) (λ was. was) (left.done other held);
  }

-- behind the last
pub none_left : (owns : List OwnBlock) (holdings : Holdings) → AreLeft owns holdings [] → (handle : ℕ) → holdings handle ≢ None → IsInOwn owns handle
none_left owns holdings left handle held = ⊎_elim (λ within. let less = within.1 in absurd (omega (arith, less))) (λ was. was) (left.done handle held)
