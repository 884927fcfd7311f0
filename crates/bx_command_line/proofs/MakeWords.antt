-- What `clap` makes of `make` and three words.
use Rattle.std.proofs.Common.{◌≡◌, ℕ, ◌&&◌, Bool, List, [], ◌∷◌, ◌∙◌, ap, refl, codes, true, false}
use Rattle.clap.specs.Words.{Rule, Shape, Text, built, takes}
use Rattle.clap.specs.Simple.{new_shape}
use Rattle.clap.specs.Takes.{default_passes, is_valid, level_passes, settle_passes, walk_passes}
use Rattle.clap.specs.Walk.{Walk, arg_by_index, finished, nothing_held, to_positional, walk, walk_from, walked}
use Rattle.std.specs.List.{list_all}
use Rattle.clap.proofs.OnLiterals.{clap_on_literals}
use Rattle.bx_command_line.specs.CommandLines.{grammar}
use Rattle.bx_command_line.proofs.Plain.{IsPlain, both, passes, steps}

-- ---- `make` and three words

abbrev fourth_of : List Shape → Shape
fourth_of (first ∷ second ∷ third ∷ fourth ∷ others) = fourth
fourth_of _ = new_shape []

-- what is built of it
abbrev make_shape : Shape
make_shape = fourth_of (built grammar).subs

abbrev rules : List Rule
rules = make_shape.rules

module _ (v d a : Text) (v_plain : IsPlain v) (d_plain : IsPlain d) (a_plain : IsPlain a) where
  abbrev at_0 : Walk
  at_0 = walk_from nothing_held

  abbrev at_1 : Walk
  at_1 = to_positional rules (arg_by_index rules 1) v at_0 nothing_held

  abbrev at_2 : Walk
  at_2 = to_positional rules (arg_by_index rules 2) d at_1 at_1.held

  abbrev at_3 : Walk
  at_3 = to_positional rules (arg_by_index rules 3) a at_2 at_2.held

  step_1 : walked rules [] at_0 v ≡ at_1
  step_1 = steps rules 1 v nothing_held v_plain

  step_2 : walked rules [] at_1 d ≡ at_2
  step_2 = steps rules 2 d at_1.held d_plain

  step_3 : walked rules [] at_2 a ≡ at_3
  step_3 = steps rules 3 a at_2.held a_plain

  all_steps : walk rules [] nothing_held (v ∷ d ∷ a ∷ []) ≡ at_3
  all_steps = ap (λ (w : Walk). walked rules [] (walked rules [] w d) a) step_1 ∙ ap (λ (w : Walk). walked rules [] w a) step_2 ∙ step_3

  all_pass : walk_passes make_shape [] at_0 (v ∷ d ∷ a ∷ []) ≡ true
  unfolding clap_on_literals
  all_pass =
      both _ _ (passes make_shape 1 v nothing_held v_plain refl)
      (ap (λ (w : Walk). walk_passes make_shape [] w (d ∷ a ∷ [])) step_1
      ∙ both _ _ (passes make_shape 2 d at_1.held d_plain refl)
      (ap (λ (w : Walk). walk_passes make_shape [] w (a ∷ [])) step_2
      ∙ both _ _ (passes make_shape 3 a at_2.held a_plain refl) refl))

  -- what is asked behind the last word
  abbrev ends : Walk → Bool
  ends w = settle_passes rules make_shape.args_override_self w.held && (list_all default_passes rules && is_valid make_shape (finished rules w.held) false)

  at_end : ends at_3 ≡ true
  unfolding clap_on_literals
  at_end = refl

  level_passes_all : level_passes make_shape [] nothing_held (v ∷ d ∷ a ∷ []) false ≡ true
  level_passes_all = both _ _ all_pass (ap ends all_steps ∙ at_end)

  takes_as : takes grammar (codes "make" ∷ v ∷ d ∷ a ∷ []) ≡ (level_passes make_shape [] nothing_held (v ∷ d ∷ a ∷ []) false && true)
  unfolding clap_on_literals
  takes_as = refl

  pub takes_make : takes grammar (codes "make" ∷ v ∷ d ∷ a ∷ []) ≡ true
  takes_make = takes_as ∙ both _ _ level_passes_all refl
