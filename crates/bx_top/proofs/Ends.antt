-- Which command line words spell, and how each ends where there was no memory to read them: nothing was done.
use Rattle.std.proofs.Common.{◌≡◌, ◌≢◌, ◌⊎◌, ◌==◌, ◌||◌, ℕ, Bool, true, false, List, [], ◌∷◌, inl, inr, refl, subst, sym, arith, codes}
use Rattle.std.proofs.lemmas.Bool.{and_parts}
use Rattle.std.proofs.lemmas.Bool.Decides.{nat_tests}
use Rattle.std.specs.List.{list_all, list_any}
use Rattle.std.specs.Prelude.{Option, Some, None}
use Rattle.bx_base.specs.Faults.{Rose}
use Rattle.bx_command_line.proofs.Lines.{one_line}
use Rattle.bx_command_line.specs.declared.command_line.CommandLine.{CommandLine}
use Rattle.bx_command_line.specs.declared.command_line.CommandLine.TheVariants.{Replay, Format, Check, Make}
use Rattle.bx_command_line.specs.CommandLines.{AreInRange, AreNone, AreWordsOf, Spell}
use Rattle.bx_disk.specs.declared.rack.Rack as racks
use Rattle.bx_layout.specs.declared.label.Label.{Label}
use Rattle.bx_outside.specs.declared.sink.Sink as sinks
use Rattle.bx_outside.specs.declared.source.Source as sources
use Rattle.bx_places.specs.Places.{IsVolume}
use Rattle.bx_replay.proofs.Goings.{begins_broken}
use Rattle.bx_statuses.specs.Checks.{CheckEnds}
use Rattle.bx_statuses.specs.Formats.{FormatEnds}
use Rattle.bx_statuses.specs.Report.{IsAmong}
use Rattle.bx_top.specs.Makes.{MakeEnds}
use Rattle.bx_top.specs.Replays.{ReplayEnds}

-- ---- words

pub spell_replay : (words : List (List ℕ)) → words ≡ codes "replay" ∷ [] → Spell words Replay
spell_replay words are = record { are = are; in_range = tt }

pub spell_of : (words : List (List ℕ)) (found : Option CommandLine) (line : CommandLine) → found ≡ Some line → AreWordsOf words found → Spell words line
spell_of words None line is are = absurd cc
spell_of words (Some other) line is are = subst (Spell words) (let same : other ≡ line = cc in same) are

-- words that were read as no command line
pub none_of : (words : List (List ℕ)) (found : Option CommandLine) → found ≡ None → AreWordsOf words found → AreNone words
none_of words None is are = are
none_of words (Some line) is are = absurd cc

pub spell_check : (words : List (List ℕ)) → words ≡ codes "check" ∷ [] → Spell words Check
spell_check words are = record { are = are; in_range = tt }

module _ (words : List (List ℕ)) where
  pub replay_or_format : {A : Type 0} (volume devices areas : ℕ) → Spell words Replay → Spell words (Format volume devices areas) → A
  replay_or_format volume devices areas one other = absurd (let e = one_line words Replay (Format volume devices areas) one other in cc)

  pub replay_or_check : {A : Type 0} → Spell words Replay → Spell words Check → A
  replay_or_check one other = absurd (let e = one_line words Replay Check one other in cc)

  pub format_or_check : {A : Type 0} (volume devices areas : ℕ) → Spell words (Format volume devices areas) → Spell words Check → A
  format_or_check volume devices areas one other = absurd (let e = one_line words (Format volume devices areas) Check one other in cc)

  pub replay_or_make : {A : Type 0} (seed nodes calls : ℕ) → Spell words Replay → Spell words (Make seed nodes calls) → A
  replay_or_make seed nodes calls one other = absurd (let e = one_line words Replay (Make seed nodes calls) one other in cc)

  pub format_or_make : {A : Type 0} (volume devices areas seed nodes calls : ℕ) → Spell words (Format volume devices areas) → Spell words (Make seed nodes calls) → A
  format_or_make volume devices areas seed nodes calls one other = absurd (let e = one_line words (Format volume devices areas) (Make seed nodes calls) one other in cc)

  pub check_or_make : {A : Type 0} (seed nodes calls : ℕ) → Spell words Check → Spell words (Make seed nodes calls) → A
  check_or_make seed nodes calls one other = absurd (let e = one_line words Check (Make seed nodes calls) one other in cc)

  pub make_as : {K B : Type 0} (sink : sinks.Ghosts K) (rack : racks.Ghosts B) (out out_new : K) (bench bench_new : B) (status s n k seed nodes calls : ℕ) → Spell words (Make s n k) → Spell words (Make seed nodes calls)
      → MakeEnds sink rack s n k out out_new bench bench_new status → MakeEnds sink rack seed nodes calls out out_new bench bench_new status
  make_as sink rack out out_new bench bench_new status s n k seed nodes calls one other ends =
      let same = one_line words (Make s n k) (Make seed nodes calls) one other in
      let seeds : s ≡ seed = cc in
      let many : n ≡ nodes = cc in
      let all : k ≡ calls = cc in
      rw (seeds, many, all) at ends

  -- the label of a volume that words ask for
  abbrev pub label_of : (volume devices areas : ℕ) → Label
  label_of volume devices areas = record { volume = volume; disk = 0; devices = devices; areas = areas }

  pub format_as : {R : Type 0} (rack : racks.Ghosts R) (old new : R) (status v d a volume devices areas : ℕ) → Spell words (Format v d a) → Spell words (Format volume devices areas)
      → FormatEnds rack (label_of v d a) old new status → FormatEnds rack (label_of volume devices areas) old new status
  format_as rack old new status v d a volume devices areas one other ends =
      let same = one_line words (Format v d a) (Format volume devices areas) one other in
      let volumes : v ≡ volume = cc in
      let many : d ≡ devices = cc in
      let parts : a ≡ areas = cc in
      rw (volumes, many, parts) at ends

pub is_volume : (volume devices areas : ℕ) → AreInRange volume devices areas → IsVolume devices areas
is_volume volume devices areas range = record { least_devices = range.least_devices; most_devices = range.most_devices; least_areas = range.least_areas; most_areas = range.most_areas }

-- ---- statuses

-- one of these is one of more
among_by : (s : ℕ) (rest more : List ℕ) (status : ℕ) (b : Bool) → (s == status) ≡ b → IsAmong more s → (IsAmong rest status → IsAmong more status)
    → (b || list_any (λ t. t == status) rest) ≡ true → IsAmong more status
among_by s rest more status true same here later any = subst (IsAmong more) (let e : s ≡ status = grind (arith, nat_tests, same) in e) here
among_by s rest more status false other here later any = later any

pub among_more : (some more : List ℕ) (status : ℕ) → list_all (λ s. list_any (λ t. t == s) more) some ≡ true → IsAmong some status → IsAmong more status
among_more [] more status sub is = absurd cc
among_more (s ∷ some) more status sub is =
    let parts = and_parts (list_any (λ t. t == s) more) (list_all (λ s. list_any (λ t. t == s) more) some) sub in
    among_by s some more status (s == status) refl parts.0 (λ any. among_more some more status parts.1 any) is

pub is_nine : (status : ℕ) → (status ≡ 9) ⊎ (◌≡◌ {A = ℕ} 9 2 × (status ≡ 9)) → status ≡ 9
is_nine status (inl nine) = nine
is_nine status (inr both) = both.1

-- ---- no memory

pub replay_starved : {S K B : Type 0} (source : sources.Ghosts S) (sink : sinks.Ghosts K) (rack : racks.Ghosts B) (input : S) (out err err_new : K) (bench : B) (status : ℕ)
    → status ≡ 9 → ReplayEnds source sink rack input input out out err err_new bench bench status
replay_starved source sink rack input out err err_new bench status nine = record {
  among = rw nine refl;
  replayed = λ zero. absurd (omega (arith, nine, zero));
  dropped = λ zero. absurd (omega (arith, nine, zero));
  refused = λ two. absurd (omega (arith, nine, two));
  refuses = λ tells number reason told first no_read no_write. inr (inl nine);
  read_fault = λ three. absurd (omega (arith, nine, three));
  cut_off = λ three. absurd (omega (arith, nine, three));
  write_fault = λ four. absurd (omega (arith, nine, four));
  disk_fault = λ five. absurd (omega (arith, nine, five));
  disk_when = λ five. absurd (omega (arith, nine, five));
  broken = λ which tells sink_tells. begins_broken (Rose (rack.faults bench) (rack.faults bench)) (source.left input) (sink.written out);
  source_first = λ other. refl;
  sink_first = λ other. refl;
  complete = λ tells schedule is served no_read no_write. inr (inl nine);
}

pub format_starved : {R : Type 0} (rack : racks.Ghosts R) (label : Label) (disks : R) (status : ℕ) → status ≡ 9 → FormatEnds rack label disks disks status
format_starved rack label disks status nine = record {
  among = rw nine refl;
  made = λ zero. absurd (omega (arith, nine, zero));
  moments = λ zero. absurd (omega (arith, nine, zero));
  sizes = λ zero. absurd (omega (arith, nine, zero));
  disk_fault = λ five. absurd (omega (arith, nine, five));
  disk_first = λ other. record { all = refl; each = λ d. refl };
  complete = λ none. inr nine;
  later = record { all = omega arith; each = λ d. omega arith };
  keeps_telling = λ tells. tells;
}

pub check_starved : {R K : Type 0} (rack : racks.Ghosts R) (sink : sinks.Ghosts K) (disks : R) (out err err_new : K) (status : ℕ) → status ≡ 9 → CheckEnds rack sink disks disks out out err err_new status
check_starved rack sink disks out err err_new status nine = record {
  among = rw nine refl;
  listed = λ zero. absurd (omega (arith, nine, zero));
  stands = λ zero. absurd (omega (arith, nine, zero));
  refused = λ seven. absurd (omega (arith, nine, seven));
  complete = λ tells tree stands no_disk no_write. inr nine;
  refuses = λ tells none no_disk no_write. inr nine;
  disk_fault = λ five. absurd (omega (arith, nine, five));
  disk_first = λ other. refl;
  write_fault = λ four. absurd (omega (arith, nine, four));
  sink_first = λ other. refl;
  part = λ four. absurd (omega (arith, nine, four));
  nothing = λ which tells sink_tells. refl;
  stays = refl;
  keeps_telling = λ tells. tells;
}
