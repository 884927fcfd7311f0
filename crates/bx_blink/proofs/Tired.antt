-- A walk in a tree never passes more pages than a volume has slots.
use Rattle.std.proofs.Common.{◌≡◌, ℕ, zero, suc, ◌+◌, ◌≤◌, List, [], ◌∷◌, length, Some, None, refl, sym, ap, subst, ◌∙◌, arith, inl, inr}
use Rattle.std.specs.List.{AllByRecursion}
use Rattle.bx_base.specs.declared.names.Mode.{Mode}
use Rattle.bx_blink.specs.declared.steps.Spot.{Spot}
use Rattle.bx_blink.specs.declared.steps.End.{End}
use Rattle.bx_blink.specs.declared.steps.End.TheVariants.{Lost}
use Rattle.bx_blink.specs.declared.steps.Out.{Out}
use Rattle.bx_blink.specs.declared.steps.Out.TheVariants.{Goes, Stops}
use Rattle.bx_truth.specs.PageTrees.{Chunks, PageTree, IsTree}
use Rattle.bx_blink.specs.Walks.{Reads, decide, Follows, Ends, start}
use Rattle.bx_blink.specs.Hints.{Sees, Place, HintsAgree}
use Rattle.bx_blink.proofs.Pigeons.{Distinct, pigeons}
use Rattle.bx_blink.proofs.OnWay.{Behind, IsOnWay, After, IsRightEnd}
use Rattle.bx_blink.proofs.Rights.{step, on_way}
use Rattle.bx_blink.proofs.Visits.{Visit, Was, numbers, length_numbers, header_of, slot_of_spot, apart, later, below_all}

module _ (areas : ℕ) (reads : Reads) (chunks : Chunks) (root : ℕ) (tree : PageTree) (target : ℕ) (asked : Mode) (key : List ℕ) (few : areas ≤ 64) (sees : Sees areas reads chunks) (is : IsTree chunks root tree) (hints : HintsAgree areas reads.hint chunks root tree) where
  tires_not : (n : ℕ) (p : Place) (spot : Spot) → Ends reads target asked key n spot Lost → (w : IsOnWay hints.home root hints.most tree target key (Some p) spot) → (vs : List Visit) → AllByRecursion (Was areas reads hints.home root w.level w.begins) vs
      → Distinct (numbers vs) → length vs + n ≡ 61441 → ⊥
  unfolding Ends numbers
  tires_not zero p spot e w vs a d count = absurd (let most = pigeons 61440 (numbers vs) d (below_all areas reads chunks root tree target asked key few sees is hints vs w.level w.begins a) in omega (arith, most, length_numbers vs, count))
  tires_not (suc n) p spot e w vs a d count = by_out (decide target asked key spot e.0) refl e.2 (step areas reads chunks root tree target asked key sees is hints (Some p) spot e.0 e.1 w)
      (λ next f wn us au du c. tires_not n (record { level = w.rank; begins = w.begins }) next f wn us au du c)
    where
      here : Place
      here = record { level = w.level; begins = w.begins }

      by_out : (out : Out) → decide target asked key spot e.0 ≡ out → Follows (λ next. Ends reads target asked key n next Lost) Lost out → After hints.home root hints.most tree target key (record { level = w.rank; begins = w.begins }) out
          → ((next : Spot) → Ends reads target asked key n next Lost → (wn : IsOnWay hints.home root hints.most tree target key (Some (record { level = w.rank; begins = w.begins })) next) → (us : List Visit) → AllByRecursion (Was areas reads hints.home root wn.level wn.begins) us → Distinct (numbers us) → length us + n ≡ 61441 → ⊥)
          → ⊥
      by_out (Stops end) o f after rest = subst (λ (x : End). IsRightEnd tree target key x) (sym f) after
      by_out (Goes next) o f after rest =
          let s = slot_of_spot areas reads chunks root tree target asked key few sees is hints (Some p) spot w in
          let h = header_of reads target asked key spot next e.0 e.1 o in
          let v : Visit = record { handle = spot.handle; place = record { level = w.rank; begins = w.begins } } in
          let behind : Behind (record { level = w.level; begins = w.begins }) after.level after.begins = subst (λ (k : ℕ). Behind (record { level = k; begins = w.begins }) after.level after.begins) (w.since).2 (after.since).0 in
          rest next f after (v ∷ vs) (
            record { slot = s; header = h; homed = inl ((w.since).1 ∙ ap (λ (k : ℕ). Some (record { level = k; begins = w.begins })) (sym (w.since).2)); behind = (after.since).0 },
            later areas reads chunks root tree target asked key few sees is hints w.level w.begins after.level after.begins behind vs a,
          )
          (apart areas reads chunks root tree target asked key few sees is hints w.level w.begins spot.handle s h (w.since).1 vs a, d)
          (omega (arith, count))

  pub never_lost : (n : ℕ) → n ≡ 61440 → target ≤ tree.height → Ends reads target asked key (suc n) (start root asked) Lost → ⊥
  unfolding Ends numbers
  never_lost n many enough e =
      let w = on_way areas reads chunks root tree target asked key sees is hints enough in
      by_out w (decide target asked key (start root asked) e.0) refl e.2 (step areas reads chunks root tree target asked key sees is hints None (start root asked) e.0 e.1 w)
    where
      by_out : (w : IsOnWay hints.home root hints.most tree target key None (start root asked)) → (out : Out) → decide target asked key (start root asked) e.0 ≡ out → Follows (λ next. Ends reads target asked key n next Lost) Lost out
          → After hints.home root hints.most tree target key (record { level = w.rank; begins = w.begins }) out → ⊥
      by_out w (Stops end) o f after = subst (λ (x : End). IsRightEnd tree target key x) (sym f) after
      by_out w (Goes next) o f after =
          let v : Visit = record { handle = root; place = record { level = w.rank; begins = w.begins } } in
          tires_not n (record { level = w.rank; begins = w.begins }) next f after (v ∷ [])
          (record { slot = slot_of_spot areas reads chunks root tree target asked key few sees is hints None (start root asked) w; header = header_of reads target asked key (start root asked) next e.0 e.1 o; homed = inr refl; behind = (after.since).0 }, tt)
          (tt, tt)
          (omega (arith, many))
