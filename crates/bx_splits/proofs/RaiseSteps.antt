-- What the steps of cutting the root come to.
use Rattle.std.proofs.Common.{◌≡◌, ℕ, List, Some, subst, inl, inr}
use Rattle.std.specs.Prelude.{Ok, Err}
use Rattle.bx_records.specs.Drafts.{Changed}
use Rattle.bx_page.specs.Contents.{Contents, first_half, other_half}
use Rattle.bx_views.specs.Truths.{Held}
use Rattle.bx_blink.specs.declared.error.BlinkError.{BlinkError}
use Rattle.bx_blink.specs.declared.error.BlinkError.TheVariants.{Need, Stale, Full, NoRoom, Absent, Present, OutOfMemory, Crowded}
use Rattle.bx_leaves.specs.Leaves.{PutsPage}
use Rattle.bx_splits.specs.Cutting.{AllotsTwo, RaiseFails}
use Rattle.bx_splits.specs.Halves.{PutsThree, RaisesInto}
use Rattle.bx_splits.specs.Splits.{root_page}
use Rattle.bx_splits.proofs.HalvesSteps.{halves_are, made}

module _ (held : Held) (old two new : List Changed) (root : ℕ) (page : Contents) (near areas left right : ℕ) (allots : AllotsTwo held old two near areas (Ok (left, right)))
    (first other top : Contents) (is_first : first ≡ first_half page right) (is_other : other ≡ other_half page) where
  pub root_put : (middle : List ℕ) → (first_half page right).high ≡ Some middle → top ≡ root_page page left right middle → PutsThree two new root top (made left first right other) (Ok tt)
      → RaisesInto held old new root page near areas (made left first right other)
  root_put middle high is_top puts =
      let p : PutsPage (puts.1).0 puts.0 right (other_half page) = subst (λ (c : Contents). PutsPage (puts.1).0 puts.0 right c) is_other (puts.1).2 in
      let q : PutsPage two (puts.1).0 left (first_half page right) = subst (λ (c : Contents). PutsPage two (puts.1).0 left c) is_first (puts.1).1 in
      record {
        cuts = record {
          left = left;
          right = right;
          two = two;
          allots = allots;
          three = (puts.1).0;
          puts_first = q;
          four = puts.0;
          puts_other = p;
          middle = middle;
          high = high;
          puts_root = subst (λ (c : Contents). PutsPage puts.0 new root c) is_top puts.2;
        };
        halves_are = halves_are page first other left right is_first is_other;
      }

  pub root_fail : (e : BlinkError) → PutsThree two new root top (made left first right other) (Err e) → RaiseFails held old root page near areas e
  root_fail Crowded p =
      let same = subst (λ (c : Contents). PutsThree two new root top (made left (first_half page right) right c) (Err Crowded)) is_other (subst (λ (c : Contents). PutsThree two new root top (made left c right other) (Err Crowded)) is_first p) in
      elim same [
        | inl q ↦ inr (record { left = left; right = right; two = two; allots = allots; crowds = inl q })
        | inr q ↦ inr (record { left = left; right = right; two = two; allots = allots; crowds = inr ((q.1).0, q.0, (q.1).1, (q.1).2, q.2) })
      ]
  root_fail OutOfMemory p = tt
  root_fail (Need at mode) p = absurd p
  root_fail Stale p = absurd p
  root_fail (Full spare) p = absurd p
  root_fail (NoRoom leaf) p = absurd p
  root_fail Absent p = absurd p
  root_fail Present p = absurd p
