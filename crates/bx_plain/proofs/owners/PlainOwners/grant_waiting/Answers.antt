use Rattle.std.proofs.Common.{◌≡◌, ℕ, ◌⊎◌, inl, inr, ⊎_elim, ◌∙◌, Option, None, refl, sym, ap, arith, List, length}
use Rattle.std.specs.Prelude.{map, slice_index}
use Rattle.bx_plain.specs.declared.rows.Row.{Row}
use Rattle.bx_base.specs.declared.names.Mode.{Mode}
use Rattle.bx_plain.specs.Rows.{hold_in, rows_at, sessions_at, want_in}
use Rattle.bx_plain.proofs.Granting.{all_places, how_many, none_yet, one_more, passes_none, passes_then, session_there}
use Rattle.bx_plain.proofs.Stands.{keeps_none, keeps_then}
use Rattle.bx_plain.proofs.owners.PlainOwners.grant_waiting.Goals as goal

pub loop-place-init : goal.loop-place-init
loop-place-init c = ((λ stand. stand), keeps_none (hold_in c.args.self.now.rows), (λ at. refl), (λ other at. inr refl), (λ other none. (none, refl)), refl, refl, passes_none c.args.block c.args.self.now.rows, none_yet c.args.block c.args.self.now.rows c.args.self.now.rows, refl)

then_wants : (a b c : Option Mode) → (b ≡ None) ⊎ (b ≡ a) → (c ≡ None) ⊎ (c ≡ b) → (c ≡ None) ⊎ (c ≡ a)
then_wants a b c one two = ⊎_elim (λ none. inl none) (λ same. ⊎_elim (λ none. inl (same ∙ none)) (λ as_before. inr (same ∙ as_before)) one) two

pub loop-place-preserved : goal.loop-place-preserved
loop-place-preserved c = (
  (λ stand. c.in_ok-grant.ensures.stand (c.loop-place.invariant.0 stand)),
  keeps_then (hold_in c.args.self.now.rows) (hold_in c.loop-place.self.rows) (hold_in c.grant.new.self.rows) c.loop-place.invariant.1 c.in_ok-grant.ensures.holds,
  (λ at. c.in_ok-grant.ensures.floor at ∙ c.loop-place.invariant.2 at),
  (λ other at. then_wants (want_in c.args.self.now.rows other at) (want_in c.loop-place.self.rows other at) (want_in c.grant.new.self.rows other at) (c.loop-place.invariant.3 other at) (c.in_ok-grant.ensures.wants other at)),
  (λ other none. let before = c.loop-place.invariant.4 other none in let after = c.in_ok-grant.ensures.quiet other before.0 in (after.0, after.1 ∙ before.1)),
  c.in_ok-grant.ensures.alike ∙ c.loop-place.invariant.5,
  c.grant.ensures.nodes ∙ c.loop-place.invariant.6,
  passes_then c.args.block c.args.self.now.rows c.loop-place.self.rows c.grant.new.self.rows c.loop-place.invariant.7 c.in_ok-grant.ensures.passes,
  one_more c.args.block c.args.self.now.rows c.loop-place.self.rows c.grant.new.self.rows c.loop-place.place _ c.loop-place.invariant.8
      (session_there c.at.result.now c.loop-place.place _ refl ∙ ap (λ (rows : List Row). slice_index (map (λ (row : Row). row.session) rows) c.loop-place.place) c.at.ensures.rows ∙ ap (λ (sessions : List ℕ). slice_index sessions c.loop-place.place) c.loop-place.invariant.9)
      c.in_ok-grant.ensures.passes c.in_ok-grant.ensures.none_left,
  c.in_ok-grant.ensures.sessions ∙ c.loop-place.invariant.9,
)

pub returns-clause-none_left : goal.returns-clause-none_left
returns-clause-none_left c = λ other left.
    let all : length (sessions_at c.args.block c.args.self.now.rows) ≡ length c.at-place-end.result.now = how_many (rows_at c.args.block c.args.self.now.rows) ∙ ap (λ (rows : List Row). length rows) (sym c.at-place-end.ensures.rows) in
    all_places c.args.block c.args.self.now.rows c.loop-place.self.rows c.loop-place.place other c.loop-place.invariant.8 (omega (arith, all, c.loop-place-test.false)) c.loop-place.invariant.7 left
