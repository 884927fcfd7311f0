-- What `clap` makes of the words of a command line.
use Rattle.std.proofs.Common.{◌≡◌, ℕ, ◌&&◌, Bool, List, [], ◌∷◌, ◌∙◌, ap, refl, sym, codes, true, false, arith}
use Rattle.std.specs.Prelude.{Option, Some, None, IfSome, decimal, option_map}
use Rattle.clap.specs.Words.{HasMatchesOf, Row, Rule, Shape, Text, built, is_simple, subcommand_name_of, subcommand_of, takes}
use Rattle.clap.specs.Simple.{new_shape}
use Rattle.clap.specs.Takes.{default_passes, is_valid, level_passes, settle_passes, walk_passes}
use Rattle.clap.specs.Walk.{Walk, arg_by_index, finished, nothing_held, to_positional, walk, walk_from, walked}
use Rattle.std.specs.List.{list_all}
use Rattle.clap.specs.declared.parser.matches.ArgMatches.{ArgMatches}
use Rattle.clap.specs.declared.parser.matches.ArgMatches.TheViews.{out-ArgMatches}
use Rattle.clap.proofs.OnLiterals.{clap_on_literals}
use Rattle.bx_command_line.specs.declared.command_line.CommandLine.{CommandLine}
use Rattle.bx_command_line.specs.declared.command_line.CommandLine.TheVariants.{Replay, Format, Check, Make}
use Rattle.bx_command_line.specs.CommandLines.{AreInRange, AreNone, ArePlanned, AreWordsOf, Spell, grammar, words_of}
use Rattle.bx_command_line.proofs.MakeWords.{takes_make}
use Rattle.bx_command_line.proofs.Plain.{IsPlain, both, passes, plain_decimal, steps}

-- ---- `format` and three words

abbrev second_of : List Shape → Shape
second_of (first ∷ second ∷ others) = second
second_of _ = new_shape []

-- what is built of it
abbrev format_shape : Shape
format_shape = second_of (built grammar).subs

abbrev rules : List Rule
rules = format_shape.rules

module _ (v d a : Text) (v_plain : IsPlain v) (d_plain : IsPlain d) (a_plain : IsPlain a) where
  abbrev at_0 : Walk
  at_0 = walk_from nothing_held

  abbrev at_1 : Walk
  at_1 = to_positional rules (arg_by_index rules 1) v at_0 nothing_held

  abbrev at_2 : Walk
  at_2 = to_positional rules (arg_by_index rules 2) d at_1 at_1.held

  abbrev at_3 : Walk
  at_3 = to_positional rules (arg_by_index rules 3) a at_2 at_2.held

  step_1 : walked rules [] at_0 v ≡ at_1
  step_1 = steps rules 1 v nothing_held v_plain

  step_2 : walked rules [] at_1 d ≡ at_2
  step_2 = steps rules 2 d at_1.held d_plain

  step_3 : walked rules [] at_2 a ≡ at_3
  step_3 = steps rules 3 a at_2.held a_plain

  all_steps : walk rules [] nothing_held (v ∷ d ∷ a ∷ []) ≡ at_3
  all_steps = ap (λ (w : Walk). walked rules [] (walked rules [] w d) a) step_1 ∙ ap (λ (w : Walk). walked rules [] w a) step_2 ∙ step_3

  all_pass : walk_passes format_shape [] at_0 (v ∷ d ∷ a ∷ []) ≡ true
  unfolding clap_on_literals
  all_pass =
      both _ _ (passes format_shape 1 v nothing_held v_plain refl)
      (ap (λ (w : Walk). walk_passes format_shape [] w (d ∷ a ∷ [])) step_1
      ∙ both _ _ (passes format_shape 2 d at_1.held d_plain refl)
      (ap (λ (w : Walk). walk_passes format_shape [] w (a ∷ [])) step_2
      ∙ both _ _ (passes format_shape 3 a at_2.held a_plain refl) refl))

  -- what is asked behind the last word
  abbrev ends : Walk → Bool
  ends w = settle_passes rules format_shape.args_override_self w.held && (list_all default_passes rules && is_valid format_shape (finished rules w.held) false)

  at_end : ends at_3 ≡ true
  unfolding clap_on_literals
  at_end = refl

  level_passes_all : level_passes format_shape [] nothing_held (v ∷ d ∷ a ∷ []) false ≡ true
  level_passes_all = both _ _ all_pass (ap ends all_steps ∙ at_end)

  takes_as : takes grammar (codes "format" ∷ v ∷ d ∷ a ∷ []) ≡ (level_passes format_shape [] nothing_held (v ∷ d ∷ a ∷ []) false && true)
  unfolding clap_on_literals
  takes_as = refl

  pub takes_format : takes grammar (codes "format" ∷ v ∷ d ∷ a ∷ []) ≡ true
  takes_format = takes_as ∙ both _ _ level_passes_all refl

-- ---- the words of a command line are taken

takes_replay : takes grammar (words_of Replay) ≡ true
unfolding clap_on_literals
takes_replay = refl

takes_check : takes grammar (words_of Check) ≡ true
unfolding clap_on_literals
takes_check = refl

takes_words : (line : CommandLine) (words : List Text) → Spell words line → takes grammar (words_of line) ≡ true
takes_words Replay words spelled = takes_replay
takes_words (Format volume devices areas) words spelled =
    let range : AreInRange volume devices areas = spelled.in_range in
    takes_format (decimal volume) (decimal devices) (decimal areas) (plain_decimal volume range.most_volume)
    (plain_decimal devices (let most = range.most_devices in omega (arith, most))) (plain_decimal areas (let most = range.most_areas in omega (arith, most)))
takes_words Check words spelled = takes_check
takes_words (Make seed nodes calls) words spelled =
    let range : ArePlanned seed nodes calls = spelled.in_range in
    takes_make (decimal seed) (decimal nodes) (decimal calls) (plain_decimal seed range.most_seed)
    (plain_decimal nodes (let most = range.most_nodes in omega (arith, most))) (plain_decimal calls (let most = range.most_calls in omega (arith, most)))

pub takes_line : (words : List Text) (line : CommandLine) → Spell words line → takes grammar words ≡ true
takes_line words line spelled = ap (takes grammar) spelled.are ∙ takes_words line words spelled

-- ---- and give the name of its subcommand

is_simple_grammar : is_simple grammar ≡ true
unfolding clap_on_literals
is_simple_grammar = refl

abbrev name_in : Option (Text × List Row) → Option Text
name_in = option_map (λ p. p.0)

abbrev pub name_of : CommandLine → Text
name_of Replay = codes "replay"
name_of (Format volume devices areas) = codes "format"
name_of Check = codes "check"
name_of (Make seed nodes calls) = codes "make"

enters : (line : CommandLine) → name_in (subcommand_of grammar (words_of line)) ≡ Some (name_of line)
unfolding clap_on_literals
enters Replay = refl
enters (Format volume devices areas) = refl
enters Check = refl
enters (Make seed nodes calls) = refl

first_of_pair : {A : Type 0} (name : A → Text) (rows : A → List Row) (met : Option A) → name_in (option_map (λ b. (name b, rows b)) met) ≡ option_map name met
first_of_pair name rows None = refl
first_of_pair name rows (Some b) = refl

pub names : (words : List Text) (m : ArgMatches) (line : CommandLine) → HasMatchesOf grammar words m → Spell words line → subcommand_name_of m ≡ Some (name_of line)
names words m line matches spelled =
    sym (first_of_pair _ _ (out-ArgMatches m).subcommand) ∙ ap name_in ((matches is_simple_grammar).1 ∙ ap (subcommand_of grammar) spelled.are) ∙ enters line

-- ---- what is left where the words aren't of one

abbrev head_of : Text → ℕ
head_of [] = 0
head_of (c ∷ cs) = c

module _ (words : List Text) (m : ArgMatches) (matches : HasMatchesOf grammar words m) where
  same_name : (name : Text) (line : CommandLine) → subcommand_name_of m ≡ Some name → Spell words line → name ≡ name_of line
  same_name name line named spelled = let found = names words m line matches spelled in let e : Some name ≡ Some (name_of line) = sym named ∙ found in cc

  -- no subcommand was met
  pub no_name : subcommand_name_of m ≡ None → AreNone words
  no_name none line spelled = absurd (let found = names words m line matches spelled in let e : None ≡ Some (name_of line) = sym none ∙ found in cc)

  -- it was none of these four, or isn't alone
  pub others : (name : Text) → subcommand_name_of m ≡ Some name → (name ≡ codes "format" → ⊥) → (name ≡ codes "make" → ⊥) → (name ≡ codes "replay" → words ≡ name ∷ [] → ⊥) → (name ≡ codes "check" → words ≡ name ∷ [] → ⊥) → AreNone words
  others name named no_format no_make no_replay no_check Replay spelled =
      let is = same_name name Replay named spelled in no_replay is (spelled.are ∙ ap (λ (w : Text). w ∷ []) (sym is))
  others name named no_format no_make no_replay no_check (Format volume devices areas) spelled = no_format (same_name name (Format volume devices areas) named spelled)
  others name named no_format no_make no_replay no_check Check spelled =
      let is = same_name name Check named spelled in no_check is (spelled.are ∙ ap (λ (w : Text). w ∷ []) (sym is))
  others name named no_format no_make no_replay no_check (Make seed nodes calls) spelled = no_make (same_name name (Make seed nodes calls) named spelled)

  -- it was `format`
  pub of_format : (name : Text) (found : Option CommandLine) → subcommand_name_of m ≡ Some name → name ≡ codes "format" → IfSome found (Spell words)
      → (found ≡ None → (volume devices areas : ℕ) → Spell words (Format volume devices areas) → ⊥) → AreWordsOf words found
  of_format name (Some line) named is some none = some
  of_format name None named is some none = λ line spelled. by line spelled
    where
      by : (line : CommandLine) → Spell words line → ⊥
      by Replay spelled = let e : 102 ≡ 114 = ap head_of (sym is ∙ same_name name Replay named spelled) in omega (arith, e)
      by (Format volume devices areas) spelled = none refl volume devices areas spelled
      by Check spelled = let e : 102 ≡ 99 = ap head_of (sym is ∙ same_name name Check named spelled) in omega (arith, e)
      by (Make seed nodes calls) spelled = let e : 102 ≡ 109 = ap head_of (sym is ∙ same_name name (Make seed nodes calls) named spelled) in omega (arith, e)

  -- it was `make`
  pub of_make : (name : Text) (found : Option CommandLine) → subcommand_name_of m ≡ Some name → name ≡ codes "make" → IfSome found (Spell words)
      → (found ≡ None → (seed nodes calls : ℕ) → Spell words (Make seed nodes calls) → ⊥) → AreWordsOf words found
  of_make name (Some line) named is some none = some
  of_make name None named is some none = λ line spelled. by line spelled
    where
      by : (line : CommandLine) → Spell words line → ⊥
      by Replay spelled = let e : 109 ≡ 114 = ap head_of (sym is ∙ same_name name Replay named spelled) in omega (arith, e)
      by (Format volume devices areas) spelled = let e : 109 ≡ 102 = ap head_of (sym is ∙ same_name name (Format volume devices areas) named spelled) in omega (arith, e)
      by Check spelled = let e : 109 ≡ 99 = ap head_of (sym is ∙ same_name name Check named spelled) in omega (arith, e)
      by (Make seed nodes calls) spelled = none refl seed nodes calls spelled
