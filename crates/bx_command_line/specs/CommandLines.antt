-- The command lines that there are, by their words, and what `clap` is told of them.
use Rattle.std.specs.Prelude.{◌≡◌, ℕ, ◌<◌, ◌≤◌, ◌^◌, true, List, [], ◌∷◌, codes, decimal, Option, Some, None}
use Rattle.clap.specs.Words.{App, Rule, Text, new_app, new_rule, with_rule, with_subcommand}
use Rattle.bx_command_line.specs.declared.command_line.CommandLine.{CommandLine}
use Rattle.bx_command_line.specs.declared.command_line.CommandLine.TheVariants.{Replay, Format, Check, Make}

-- the words of a command line: its numbers are decimal, without sign or leading zeros
abbrev pub words_of : CommandLine → List (List ℕ)
words_of Replay = codes "replay" ∷ []
words_of (Format volume devices areas) = codes "format" ∷ decimal volume ∷ decimal devices ∷ decimal areas ∷ []
words_of Check = codes "check" ∷ []
words_of (Make seed nodes calls) = codes "make" ∷ decimal seed ∷ decimal nodes ∷ decimal calls ∷ []

-- the numbers that a volume may have: of 64 bits, 1 to 4 devices, and 1 to 64 areas
pub record AreInRange (volume devices areas : ℕ) : Type 0 where
  pub most_volume : volume < 2 ^ 64
  pub least_devices : 1 ≤ devices
  pub most_devices : devices ≤ 4
  pub least_areas : 1 ≤ areas
  pub most_areas : areas ≤ 64

-- the numbers that a generated schedule may have: a seed of 64 bits, 1 to 4 nodes, and 1 to 20000 calls
pub record ArePlanned (seed nodes calls : ℕ) : Type 0 where
  pub most_seed : seed < 2 ^ 64
  pub least_nodes : 1 ≤ nodes
  pub most_nodes : nodes ≤ 4
  pub least_calls : 1 ≤ calls
  pub most_calls : calls ≤ 20000

-- its numbers are such
abbrev pub IsInRange : CommandLine → Type 0
IsInRange Replay = Unit {0}
IsInRange (Format volume devices areas) = AreInRange volume devices areas
IsInRange Check = Unit {0}
IsInRange (Make seed nodes calls) = ArePlanned seed nodes calls

-- these are the words of the command line
pub record Spell (words : List (List ℕ)) (line : CommandLine) : Type 0 where
  pub are : words ≡ words_of line
  pub in_range : IsInRange line

-- the words of no command line
abbrev pub AreNone : List (List ℕ) → Type 0
AreNone words = (line : CommandLine) → Spell words line → ⊥

-- the words of this command line, or of none
abbrev pub AreWordsOf : List (List ℕ) → Option CommandLine → Type 0
AreWordsOf words (Some line) = Spell words line
AreWordsOf words None = AreNone words

-- ---- what `clap` is told

-- the command without its subcommands: one has to come first, and nothing asks for help
abbrev pub top : App
top = record (new_app (codes "boxwood")) {
  top = record (new_app (codes "boxwood")).top {
    no_binary_name = true;
    subcommand_required = true;
    disable_help_flag = true;
    disable_help_subcommand = true;
  };
}

-- a word that has to be there, at its place
abbrev pub placed : Text → Rule
placed name = record (new_rule name) { required = true }

-- `format`, with its three numbers
abbrev pub format_app : App
format_app = with_rule (with_rule (with_rule (new_app (codes "format")) (placed (codes "V"))) (placed (codes "D"))) (placed (codes "A"))

-- `make`, with its three numbers
abbrev pub make_app : App
make_app = with_rule (with_rule (with_rule (new_app (codes "make")) (placed (codes "S"))) (placed (codes "N"))) (placed (codes "C"))

-- the command
abbrev pub grammar : App
grammar = with_subcommand (with_subcommand (with_subcommand (with_subcommand top (new_app (codes "replay")).top) format_app.top) (new_app (codes "check")).top) make_app.top
