-- Each change that a member proposes is a step of the mode.
use Rattle.std.proofs.Common.{◌≡◌, ◌⊎◌, ℕ, ◌<◌, Bool, true, false, Some, None, refl, sym, subst, arith}
use Rattle.std.specs.Prelude.{◌==◌, ◌&&◌, ◌||◌, not, if◌then◌else◌}
use Rattle.std.proofs.lemmas.Bool.Decides.{nat_tests}
use Rattle.bx_facts.specs.Writes.{only_other}
use Rattle.bx_global.specs.declared.change.Change.{Change}
use Rattle.bx_rows.specs.Modes.{IsReachable, IsSource, both}
use Rattle.bx_rows.specs.declared.device.DeviceRow.{DeviceRow}
use Rattle.bx_mirror_laws.proofs.Modes.{alone_reached, alone_sources, both_reached, both_sources, copy_reached, copy_sources, left_reached, left_sources, same_reached}
use Rattle.bx_mirror_member.specs.Standing.{MemberView, copy_from, is_named, is_second}
use Rattle.bx_mirror_member.specs.Steps.{is_silent, may_alone, only, proposes, shift}
use Rattle.bx_mirror_server.specs.Sides.{IsStep, IsWhole}

-- the modes by the member, as the laws name them
onto_reached : (b : Bool) → IsReachable (only_other b) (copy_from (not b))
onto_reached false = copy_reached false
onto_reached true = copy_reached true

onto_sources : (b c : Bool) → IsSource (copy_from (not b)) c → IsSource (only_other b) c
onto_sources false c h = copy_sources false c h
onto_sources true c h = copy_sources true c h

only_reached : (b : Bool) → IsReachable both (only b)
only_reached false = alone_reached false
only_reached true = alone_reached true

only_sources : (b c : Bool) → IsSource (only b) c → IsSource both c
only_sources false c h = alone_sources false c h
only_sources true c h = alone_sources true c h

stopped_reached : (b : Bool) → IsReachable (copy_from b) (only b)
stopped_reached false = left_reached false
stopped_reached true = left_reached true

stopped_sources : (b c : Bool) → IsSource (only b) c → IsSource (copy_from b) c
stopped_sources false c h = left_sources false c h
stopped_sources true c h = left_sources true c h

whole_reached : (b : Bool) → IsReachable (copy_from b) both
whole_reached false = both_reached false
whole_reached true = both_reached true

whole_sources : (b c : Bool) → IsSource both c → IsSource (copy_from b) c ⊎ (b ≡ not c)
whole_sources false c h = both_sources false c h
whole_sources true c h = both_sources true c h

some_is : {X : Type 0} → (x y : X) → Some x ≡ Some y → y ≡ x
some_is x y same = cc

-- in a row of this mode, a step to another
step_to : (m : MemberView) (row : DeviceRow) (change : Change) (from mode : ℕ) → row.mode ≡ from → IsReachable from mode → ((b : Bool) → IsSource mode b → IsSource from b) → Some (shift m row mode) ≡ Some change → IsStep m row change
step_to m row change from mode at reaches sources is = record {
  mode = mode;
  is = some_is (shift m row mode) change is;
  reaches = subst (λ (n : ℕ). IsReachable n mode) (sym at) reaches;
  sources = λ b h. subst (λ (n : ℕ). IsSource n b) (sym at) (sources b h);
}

pub proposes_step : (m : MemberView) (row : DeviceRow) (reading : ℕ) (change : Change) → row.mode < 5 → proposes m row reading ≡ Some change → IsStep m row change
proposes_step m row reading change less is = left_out (row.mode == only_other (is_second m)) refl is
  where
    alone : (both_now copying silent : Bool) → (row.mode == both) ≡ both_now → (row.mode == copy_from (is_second m)) ≡ copying → is_silent m reading ≡ silent
        → (if (both_now || copying) && silent then Some (shift m row (only (is_second m))) else None) ≡ Some change → IsStep m row change
    alone true copying true at also late is = step_to m row change both (only (is_second m)) (grind (arith, nat_tests, at)) (only_reached (is_second m)) (only_sources (is_second m)) is
    alone false true true at also late is = step_to m row change (copy_from (is_second m)) (only (is_second m)) (grind (arith, nat_tests, also)) (stopped_reached (is_second m)) (stopped_sources (is_second m)) is
    alone false false true at also late is = absurd cc
    alone true true false at also late is = absurd cc
    alone true false false at also late is = absurd cc
    alone false true false at also late is = absurd cc
    alone false false false at also late is = absurd cc

    unnamed : (named : Bool) → is_named m row ≡ named
        → (if not named then Some (shift m row row.mode) else if may_alone m row && is_silent m reading then Some (shift m row (only (is_second m))) else None) ≡ Some change → IsStep m row change
    unnamed false at is = step_to m row change row.mode row.mode refl (same_reached row.mode less) (λ b h. h) is
    unnamed true at is = alone (row.mode == both) (row.mode == copy_from (is_second m)) (is_silent m reading) refl refl refl is

    left_out : (out : Bool) → (row.mode == only_other (is_second m)) ≡ out
        → (if out then Some (shift m row (copy_from (not (is_second m)))) else if not (is_named m row) then Some (shift m row row.mode) else if may_alone m row && is_silent m reading then Some (shift m row (only (is_second m))) else None) ≡ Some change
        → IsStep m row change
    left_out true at is = step_to m row change (only_other (is_second m)) (copy_from (not (is_second m))) (grind (arith, nat_tests, at)) (onto_reached (is_second m)) (onto_sources (is_second m)) is
    left_out false at is = unnamed (is_named m row) refl is

pub copies_whole : (m : MemberView) (row : DeviceRow) → row.mode ≡ copy_from (is_second m) → IsWhole m row both
copies_whole m row at = record {
  reaches = subst (λ (n : ℕ). IsReachable n both) (sym at) (whole_reached (is_second m));
  sources = λ b h. subst (λ (n : ℕ). IsSource n b ⊎ (is_second m ≡ not b)) (sym at) (whole_sources (is_second m) b h);
}
