-- Which open records are of calls that weren't told.
use Rattle.std.proofs.Common.{◌≡◌, ⊎_elim, inl, inr, ℕ, ◌<◌, ◌≤◌, arith, List, [], ◌∷◌, ◌++◌, Contains, Option, map, reverse, sym, ◌∙◌, ap, subst}
use Rattle.std.proofs.lemmas.List.{reverse-append}
use Rattle.std.proofs.lemmas.List.Elements.{Contains-append_left, Contains-push, Contains-push_cases}
use Rattle.bx_base.specs.declared.names.Point.{Point}
use Rattle.bx_disk.specs.Disks.{Disks, Image}
use Rattle.bx_facts.specs.Writes.{IsSettled}
use Rattle.bx_facts.proofs.Lists.{behind, front, front_or_behind, nothing}
use Rattle.bx_global.specs.Opening.{opening_state}
use Rattle.bx_logs.specs.Bodies.{point_of}
use Rattle.bx_model.specs.declared.tree.Tree.{Tree}
use Rattle.bx_redo.specs.Stands.{IsFound}
use Rattle.bx_views.specs.Truths.{Truth}
use Rattle.bx_volume.specs.Records.{Logged}
use Rattle.bx_plain_repair.specs.Left.{OpenDoubt}
use Rattle.bx_plain_repair.specs.Recovering.{IsFoundOpen}
use Rattle.bx_plain_repair.specs.Resting.{RestsOrActed, IsOpenLog, Rests, only}
use Rattle.bx_plain_repair.specs.declared.reading.OpenLog.{OpenLog}
use Rattle.bx_plain_repair.proofs.Leaving.{acted_open}

reverse_more : (first : Logged) (rest : List Logged) → reverse (first ∷ rest) ≡ reverse rest ++ first ∷ []
reverse_more first rest = reverse-append (first ∷ []) rest

in_reverse : (records : List Logged) (logged : Logged) → Contains (reverse records) logged → Contains records logged
in_reverse [] logged there = there
in_reverse (first ∷ rest) logged there = ⊎_elim
    (λ old. behind first rest logged (in_reverse rest logged old))
    (λ (same : first ≡ logged). subst (Contains (first ∷ rest)) same (front first rest))
    (Contains-push_cases (reverse rest) first logged (subst (λ (l : List Logged). Contains l logged) (reverse_more first rest) there))

to_reverse : (records : List Logged) (logged : Logged) → Contains records logged → Contains (reverse records) logged
to_reverse [] logged there = there
to_reverse (first ∷ rest) logged there = subst (λ (l : List Logged). Contains l logged) (sym (reverse_more first rest)) (⊎_elim
    (λ (same : first ≡ logged). subst (Contains (reverse rest ++ first ∷ [])) same (Contains-push (reverse rest) first))
    (λ old. Contains-append_left (reverse rest) (first ∷ []) logged (to_reverse rest logged old))
    (front_or_behind first rest logged there))

from_points : (records : List Logged) (point : Point) → Contains (map point_of records) point → (logged : Logged) × Contains records logged × (point_of logged ≡ point)
from_points [] point there = absurd (nothing point there)
from_points (first ∷ rest) point there = ⊎_elim
    (λ (same : point_of first ≡ point). (first, front first rest, same))
    (λ old. let found = from_points rest point old in (found.0, behind first rest found.0 found.1, found.2))
    (front_or_behind (point_of first) (map point_of rest) point there)

to_points : (records : List Logged) (logged : Logged) → Contains records logged → Contains (map point_of records) (point_of logged)
to_points [] logged there = absurd (nothing logged there)
to_points (first ∷ rest) logged there = ⊎_elim
    (λ (same : first ≡ logged). subst (λ (l : Logged). Contains (map point_of (first ∷ rest)) (point_of l)) same (front (point_of first) (map point_of rest)))
    (λ old. behind (point_of first) (map point_of rest) (point_of logged) (to_points rest logged old))
    (front_or_behind first rest logged there)

-- a point is that of a record, and the other way round
of_record : (records : List Logged) (log : OpenLog) (point : Point) → IsOpenLog records log → Contains log.points point → (logged : Logged) × Contains records logged × (point_of logged ≡ point)
of_record records log point is there =
    let found = from_points (reverse records) point (subst (λ (l : List Point). Contains l point) is.points there) in
    (found.0, in_reverse records found.0 found.1, found.2)

its_point : (records : List Logged) (log : OpenLog) (logged : Logged) → IsOpenLog records log → Contains records logged → Contains log.points (point_of logged)
its_point records log logged is there = subst (λ (l : List Point). Contains l (point_of logged)) (sym is.points) (to_points (reverse records) logged (to_reverse records logged there))

module _ (volume floor : ℕ) (tree : Tree) (doubt : Option OpenDoubt) (records : List Logged) (disks : Disks) (log : OpenLog) (is : IsOpenLog records log) where
  -- a call above the floor is the one in doubt, which acted
  pub above_acted : (point : Point) → Contains log.points point → floor < point.call → RestsOrActed volume floor tree doubt records disks → IsFoundOpen volume floor tree doubt disks point
  above_acted point there above (inl rests) =
      let found = of_record records log point is there in
      let told = rests.told found.0 found.1 in
      let call : found.0.head.call ≡ point.call = ap (λ (p : Point). p.call) found.2 in
      absurd (omega (arith, told, call, above))
  above_acted point there above (inr has) =
      let found = of_record records log point is there in
      let call : found.0.head.call ≡ point.call = ap (λ (p : Point). p.call) found.2 in
      ⊎_elim
      (λ (same : has.newest ≡ found.0).
      let here : has.point ≡ point = sym has.of ∙ ap point_of same ∙ found.2 in
      subst (IsFoundOpen volume floor tree doubt disks) here (acted_open volume floor tree doubt records disks has))
      (λ old. let told = has.told found.0 old in absurd (omega (arith, told, call, above)))
      (front_or_behind has.newest has.older found.0 (subst (λ (l : List Logged). Contains l found.0) has.records_are found.1))

  -- where none is above it, all were told
  pub none_above : ((point : Point) → Contains log.points point → point.call ≤ floor) → RestsOrActed volume floor tree doubt records disks → Rests volume floor tree records disks
  none_above low (inl rests) = rests
  none_above low (inr has) =
      let there = its_point records log has.newest is (subst (λ (l : List Logged). Contains l has.newest) (sym has.records_are) (front has.newest has.older)) in
      let told = low (point_of has.newest) there in
      let call : has.newest.head.call ≡ has.point.call = ap (λ (p : Point). p.call) has.of in
      let above = has.acted.above in
      absurd (omega (arith, told, call, above))

-- what is found of the log
pub record IsFoundSo (records : List Logged) (disks : Disks) : Type 0 where
  pub before : Image
  pub truth : Truth
  pub more : Logged
  pub is : IsFound (IsSettled disks (opening_state 1 1)) 1 1 (opening_state 1 1).sessions before (only records) truth more 0

of_rests : (volume floor : ℕ) (tree : Tree) (records : List Logged) (disks : Disks) → Rests volume floor tree records disks → IsFoundSo records disks
of_rests volume floor tree records disks rests = record { before = rests.before; truth = rests.truth; more = rests.more; is = rests.found }

pub found_of : (volume floor : ℕ) (tree : Tree) (doubt : Option OpenDoubt) (records : List Logged) (disks : Disks) → RestsOrActed volume floor tree doubt records disks → IsFoundSo records disks
found_of volume floor tree doubt records disks (inl rests) = of_rests volume floor tree records disks rests
found_of volume floor tree doubt records disks (inr has) = of_rests volume has.point.call has.next records disks has.rests
