-- Words that don't begin with a hyphen: `clap` takes each as the next value.
use Rattle.std.proofs.Common.{◌≡◌, ℕ, ◌<◌, ◌^◌, ◌==◌, ◌||◌, ◌&&◌, Bool, true, false, List, [], ◌∷◌, ap, refl, ◌∙◌, arith}
use Rattle.std.specs.Prelude.{Option, None, decimal, if◌then◌else◌}
use Rattle.std.specs.Option.{option_map_or}
use Rattle.std.specs.Str.{bytes_eq}
use Rattle.std.specs.Str.Parse.{IsNumeral}
use Rattle.std.proofs.lemmas.Fmt.{decimal_is_IsNumeral}
use Rattle.std.proofs.lemmas.Str.Parse.{digit_from_value}
use Rattle.std.proofs.lemmas.Bool.Decides.{nat_tests}
use Rattle.clap.specs.Lexer.{long_of, short_of}
use Rattle.clap.specs.Takes.{bundle_passes, flag_word_passes, step_passes, turn_passes, word_passes}
use Rattle.clap.specs.Walk.{Held, Rule, Step, Text, Walk, after_step, arg_by_index, idle, long_or_other, short_or_plain, to_positional, trailing, value, walked, word_met}
use Rattle.clap.specs.Simple.{Shape}
use Rattle.clap.proofs.OnLiterals.{clap_on_literals}

-- it is neither `--` nor a flag
pub record IsPlain (word : Text) : Type 0 where
  pub no_end : bytes_eq word (45 ∷ 45 ∷ []) ≡ false
  pub no_long : long_of word ≡ None
  pub no_short : short_of word ≡ None

plain_from : (word : Text) → IsNumeral 10 word → IsPlain word
plain_from [] numeral = absurd (let some = numeral.0 in omega (arith, some))
plain_from (c ∷ cs) numeral =
    let digit = digit_from_value c numeral.1.0 in
    let other : (c == 45) ≡ false = grind (arith, nat_tests, digit.0) in
    record { no_end = rw other refl; no_long = rw other refl; no_short = rw other refl }

-- numbers are such words
pub plain_decimal : (n : ℕ) → n < 2 ^ 64 → IsPlain (decimal n)
plain_decimal n fits = plain_from (decimal n) (decimal_is_IsNumeral n fits).0

-- ---- a step of the walk over the words, where the command has no subcommand

-- between two words, with so much held
abbrev pub between : Held → ℕ → Walk
between held position = record { held = held; waiting = idle; position = position; is_trailing = false; stopped = None }

met : (rules : List Rule) (position : ℕ) (word : Text) (held : Held) → IsPlain word → word_met rules [] false idle position word held ≡ (held, value)
met rules position word held plain =
    ap (λ (b : Bool). if b then (held, trailing position) else long_or_other rules idle word (long_of word) held) plain.no_end
    ∙ ap (λ (o : Option (Text × Option Text)). long_or_other rules idle word o held) plain.no_long
    ∙ ap (λ (o : Option Text). short_or_plain rules idle word o held) plain.no_short

pub steps : (rules : List Rule) (position : ℕ) (word : Text) (held : Held) → IsPlain word
    → walked rules [] (between held position) word ≡ to_positional rules (arg_by_index rules position) word (between held position) held
unfolding clap_on_literals
steps rules position word held plain = ap (λ (m : Held × Step). after_step rules word (between held position) m.0 m.1) (met rules position word held plain)

passes_word : (s : Shape) (word : Text) (held : Held) → IsPlain word → word_passes s [] false idle word held ≡ true
passes_word s word held plain =
    ap (λ (b : Bool). b || flag_word_passes s.rules s.args_override_self (long_of word) word held) plain.no_end
    ∙ ap (λ (o : Option (Text × Option Text)). flag_word_passes s.rules s.args_override_self o word held) plain.no_long
    ∙ ap (λ (o : Option Text). option_map_or (λ flags. bundle_passes s.rules s.args_override_self flags held) o true) plain.no_short

pub both : (a b : Bool) → a ≡ true → b ≡ true → (a && b) ≡ true
both a b p q = rw (p, q) refl

pub passes : (s : Shape) (position : ℕ) (word : Text) (held : Held) → IsPlain word → step_passes s position held value ≡ true → turn_passes s [] (between held position) word ≡ true
passes s position word held plain free =
    both (word_passes s [] false idle word held) _ (passes_word s word held plain)
    (ap (λ (m : Held × Step). step_passes s position m.0 m.1) (met s.rules position word held plain) ∙ free)
