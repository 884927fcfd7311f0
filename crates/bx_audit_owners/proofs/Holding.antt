-- What has the chunks, claim by claim.
use Rattle.std.proofs.Common.{◌≡◌, ℕ, zero, suc, ◌+◌, ◌<◌, ◌≤◌, ◌⊎◌, ⊎_elim, inl, inr, arith, List, [], ◌∷◌, length, sym, ap, ◌∙◌, subst, refl, Some, None}
use Rattle.std.specs.Prelude.{slice_index_or}
use Rattle.std.specs.BTreeMap.{BTreeMap, is_at}
use Rattle.std.specs.Ordering.{nat_cmp}
use Rattle.std.specs.Map.{lookup}
use mathlib.Core.Path.{fun_ext}
use Rattle.bx_audit_bodies.specs.declared.claims.Claim.{Claim}
use Rattle.bx_audit_owners.specs.declared.holders.Holder.{Holder}
use Rattle.bx_audit_owners.specs.Holding.{Holdings, holdings_of, holder_by, Puts, HasOther, IsAmong, IsHeldAfter, AddsHolder, Clashes}
use Rattle.bx_truth.proofs.Cases.{same_or}

some_same : {X : Type 0} (x y : X) → Some x ≡ Some y → x ≡ y
some_same x y e = cc

-- an element that is there is the same, whatever else would be
pub one_there : {X : Type 0} (xs : List X) (k : ℕ) (a b : X) → k < length xs → slice_index_or xs k a ≡ slice_index_or xs k b
one_there [] k a b less = absurd (omega (arith, less))
one_there (x ∷ xs) zero a b less = refl
one_there (x ∷ xs) (suc k) a b less = one_there xs k a b (omega (arith, less))

module _ (before : Holdings) (inode : ℕ) (holder : Holder) (claims : List Claim) where
  -- the inode itself
  pub none_added : (now : Holdings) → Puts before inode holder now → AddsHolder before inode holder claims 0 now
  none_added now puts = record {
    itself = puts.itself;
    each = λ claim there. absurd (omega (arith, there.1));
    still = λ at held is. ⊎_elim
        (λ same. let e = puts.free held (ap before (sym same) ∙ is) in ap now same ∙ puts.itself ∙ ap Some (sym e))
        (λ apart. puts.others at apart ∙ is)
        (same_or at inode);
    only = λ at held is. ⊎_elim
        (λ same. inr (inl (same, some_same held holder (sym is ∙ ap now same ∙ puts.itself))))
        (λ apart. inl (sym (puts.others at apart) ∙ is))
        (same_or at inode);
  }

  wider : (count more : ℕ) (claim : Claim) → count ≤ more → IsAmong claims count claim → IsAmong claims more claim
  wider count more claim le there = (there.0, omega (arith, there.1, le), there.2)

  pub held_wider : (count more : ℕ) (at : ℕ) (held : Holder) → count ≤ more → IsHeldAfter before inode holder claims count at held → IsHeldAfter before inode holder claims more at held
  held_wider count more at held le is = ⊎_elim (λ was. inl was)
      (λ rest. inr (⊎_elim (λ itself. inl itself) (λ claimed. inr (claimed.0, wider count more claimed.0 le claimed.1, claimed.2, claimed.3)) rest)) is

  below_or : (n m : ℕ) → n < m + 1 → (n < m) ⊎ (n ≡ m)
  below_or n m less = grind (arith, less)

  among_next : (count : ℕ) (last claim : Claim) → slice_index_or claims count last ≡ last → count < length claims → IsAmong claims (count + 1) claim → IsAmong claims count claim ⊎ (claim ≡ last)
  among_next count last claim is within there = ⊎_elim
      (λ before. inl (there.0, before, there.2))
      (λ same. inr (sym there.2 ∙ ap (λ (k : ℕ). slice_index_or claims k claim) same ∙ one_there claims count claim last within ∙ is))
      (below_or there.0 count there.1)

  -- one claim more
  pub one_added : (count : ℕ) (last : Claim) (mid now : Holdings) → slice_index_or claims count last ≡ last → count < length claims → AddsHolder before inode holder claims count mid
      → Puts mid last.handle (holder_by inode last.piece) now → AddsHolder before inode holder claims (count + 1) now
  one_added count last mid now is within adds puts = record {
    itself = kept inode holder adds.itself;
    each = λ claim there. ⊎_elim
        (λ earlier. kept claim.handle (holder_by inode claim.piece) (adds.each claim earlier))
        (λ same. subst (λ (c : Claim). now c.handle ≡ Some (holder_by inode c.piece)) (sym same) puts.itself)
        (among_next count last claim is within there);
    still = λ at held was. kept at held (adds.still at held was);
    only = λ at held has. ⊎_elim
        (λ same. inr (inr (last, (count, omega arith, is), same, some_same held (holder_by inode last.piece) (sym has ∙ ap now same ∙ puts.itself))))
        (λ apart. held_wider count (count + 1) at held (omega arith) (adds.only at held (sym (puts.others at apart) ∙ has)))
        (same_or at last.handle);
  }
    where
      kept : (at : ℕ) (held : Holder) → mid at ≡ Some held → now at ≡ Some held
      kept at held was = ⊎_elim
          (λ same. let e = puts.free held (ap mid (sym same) ∙ was) in ap now same ∙ puts.itself ∙ ap Some (sym e))
          (λ apart. puts.others at apart ∙ was)
          (same_or at last.handle)

  -- a claim of a chunk that has another holder
  pub one_clash : (count : ℕ) (last : Claim) (mid : Holdings) → slice_index_or claims count last ≡ last → count < length claims → AddsHolder before inode holder claims count mid
      → HasOther mid last.handle (holder_by inode last.piece) → Clashes before inode holder claims
  one_clash count last mid is within adds has = record {
    claim = last;
    place = count;
    there = within;
    is = is;
    earlier = mid;
    put = adds;
    other = has.other;
    held = has.there;
    apart = has.apart;
  }

  -- which is the one that is wanted
  pub clash_wanted : (count : ℕ) (last : Claim) (mid : Holdings) (wanted : ℕ) → slice_index_or claims count last ≡ last → count < length claims → AddsHolder before inode holder claims count mid
      → HasOther mid last.handle (holder_by inode last.piece) × (wanted ≡ last.handle) → (clash : Clashes before inode holder claims) × (wanted ≡ clash.claim.handle)
  unfolding one_clash
  clash_wanted count last mid wanted is within adds has = (one_clash count last mid is within adds has.0, has.1)

-- an empty map has none
pub none_held : (holders : BTreeMap ℕ Holder) → holders.entries ≡ [] → holdings_of holders ≡ (λ at. None)
none_held holders empty = fun_ext (λ at. ap (λ (es : List (ℕ × Holder)). lookup (is_at (nat_cmp at)) es) empty)
