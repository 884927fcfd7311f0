-- Sets of lanes, as they are kept in order.
use Rattle.std.proofs.Common.{◌≡◌, List, true, false, ◌&&◌, ◌||◌, not, Bool, inl, inr, refl, arith, ap, sym, ◌∙◌}
use Rattle.std.specs.Prelude.{cond}
use Rattle.std.specs.Cmp.{IsTotalOrder, nat_cmp_total}
use Rattle.std.specs.FinSet.{IsAntisymmetric, contains-from_list, contains-insert, contains-remove, from_list, insert, nat_cmp-IsAntisymmetric, remove, same_set}
use Rattle.std.specs.List.{list_any}
use Rattle.std.specs.Ordering.{eq_by_cmp, nat_cmp, ordering_then}
use Rattle.std.specs.declared.cmp.Ordering.{Ordering}
use Rattle.std.specs.declared.cmp.Ordering.TheVariants.{Less, Equal, Greater}
use Rattle.std.proofs.lemmas.Cmp.{eq_by_cmp_equiv, on_total, then_total}
use Rattle.bx_base.specs.Actors.{actor_cmp, kind_of, number_of}
use Rattle.bx_base.proofs.Machines.{one_before}
use Rattle.bx_driver.specs.Lanes.{lane_cmp}
use Rattle.bx_driver.specs.declared.lane.Lane.{Lane}

-- ---- the order of lanes tells them apart

actor_total : IsTotalOrder actor_cmp
actor_total = then_total (on_total kind_of nat_cmp_total) (on_total number_of nat_cmp_total)

pub lane_total : IsTotalOrder lane_cmp
lane_total = then_total (on_total (λ (lane : Lane). lane.from) actor_total) (then_total (on_total (λ (lane : Lane). lane.to) actor_total) (on_total (λ (lane : Lane). lane.kind) nat_cmp_total))

both_equal : (a b : Ordering) → ordering_then a b ≡ Equal → (a ≡ Equal) × (b ≡ Equal)
both_equal Less b is = cc
both_equal Equal b is = (refl, is)
both_equal Greater b is = cc

actor_exact : IsAntisymmetric actor_cmp
actor_exact a b is =
    let both = both_equal (nat_cmp (kind_of a) (kind_of b)) (nat_cmp (number_of a) (number_of b)) is in
    let kind : kind_of a ≡ kind_of b = nat_cmp-IsAntisymmetric (kind_of a) (kind_of b) both.0 in
    let number : number_of a ≡ number_of b = nat_cmp-IsAntisymmetric (number_of a) (number_of b) both.1 in
    elim (one_before a b) [
      | inl before ↦ absurd (omega arith)
      | inr other ↦ elim other [ inl same ↦ same | inr behind ↦ absurd (omega arith) ]
    ]

lane_exact : IsAntisymmetric lane_cmp
lane_exact a b is =
    let first = both_equal (actor_cmp a.from b.from) (ordering_then (actor_cmp a.to b.to) (nat_cmp a.kind b.kind)) is in
    let second = both_equal (actor_cmp a.to b.to) (nat_cmp a.kind b.kind) first.1 in
    let from : a.from ≡ b.from = actor_exact a.from b.from first.0 in
    let to : a.to ≡ b.to = actor_exact a.to b.to second.0 in
    let kind : a.kind ≡ b.kind = nat_cmp-IsAntisymmetric a.kind b.kind second.1 in
    ap (λ x. record a { from = x }) from ∙ ap (λ x. record { from = b.from; to = x; kind = a.kind }) to ∙ ap (λ x. record { from = b.from; to = b.to; kind = x }) kind

-- ---- one more, and one less

one_or : (a b : Bool) → cond a true b ≡ (a || b)
one_or true b = refl
one_or false b = refl

none_and : (a b : Bool) → cond a false b ≡ (not a && b)
none_and true b = refl
none_and false b = refl

turned : (k q : Lane) → eq_by_cmp lane_cmp k q ≡ eq_by_cmp lane_cmp q k
turned k q = (eq_by_cmp_equiv lane_total).symm k q

pub with_lane : (k : Lane) (old new : List Lane) → ((q : Lane) → list_any (eq_by_cmp lane_cmp q) new ≡ cond (eq_by_cmp lane_cmp k q) true (list_any (eq_by_cmp lane_cmp q) old)) → from_list {R = lane_cmp} new ≡ insert (from_list old) k
with_lane k old new has =
    same_set lane_total lane_exact _ _ (λ q.
    contains-from_list lane_total new q ∙ has q ∙ one_or (eq_by_cmp lane_cmp k q) (list_any (eq_by_cmp lane_cmp q) old)
    ∙ ap (λ b. b || list_any (eq_by_cmp lane_cmp q) old) (turned k q)
    ∙ ap (λ b. eq_by_cmp lane_cmp q k || b) (sym (contains-from_list lane_total old q))
    ∙ sym (contains-insert lane_total (from_list old) k q))

pub without_lane : (k : Lane) (old new : List Lane) → ((q : Lane) → list_any (eq_by_cmp lane_cmp q) new ≡ cond (eq_by_cmp lane_cmp k q) false (list_any (eq_by_cmp lane_cmp q) old)) → from_list {R = lane_cmp} new ≡ remove (from_list old) k
without_lane k old new has =
    same_set lane_total lane_exact _ _ (λ q.
    contains-from_list lane_total new q ∙ has q ∙ none_and (eq_by_cmp lane_cmp k q) (list_any (eq_by_cmp lane_cmp q) old)
    ∙ ap (λ b. not b && list_any (eq_by_cmp lane_cmp q) old) (turned k q)
    ∙ ap (λ b. not (eq_by_cmp lane_cmp q k) && b) (sym (contains-from_list lane_total old q))
    ∙ sym (contains-remove lane_total (from_list old) k q))
