-- What is drawn for the calls of a generated schedule.
use Rattle.std.specs.Prelude.{ℕ, zero, suc, ◌+◌, ◌*◌, ◌%◌, ◌==◌, if◌then◌else◌}
use Rattle.rand_pcg.specs.Lcg.{Lcg}
use Rattle.rand_pcg.specs.Pcg.{pcg32}
use Rattle.bx_disk.specs.Crash.{seeded}
use Rattle.bx_generated.specs.declared.draws.Draw.{Draw}
use Rattle.bx_generated.specs.declared.draws.Procedure.{Procedure}
use Rattle.bx_generated.specs.declared.draws.Procedure.TheVariants.{Create, Lookup, Remove, Mkdir, Rmdir, Rename, Readdir, Write, Statfs, Symlink}

-- the procedure with a number below 10
abbrev pub procedure_of : ℕ → Procedure
procedure_of number =
    if number == 0 then Create
    else (if number == 1 then Lookup
    else (if number == 2 then Remove
    else (if number == 3 then Mkdir
    else (if number == 4 then Rmdir
    else (if number == 5 then Rename
    else (if number == 6 then Readdir
    else (if number == 7 then Write
    else (if number == 8 then Statfs
    else Symlink))))))))

-- the next word of a generator, and the generator behind it
unfoldable pub word_of : Lcg → ℕ
word_of generator = (pcg32 generator).0

unfoldable pub after_word : Lcg → Lcg
after_word generator = (pcg32 generator).1

-- behind so many words
unfoldable pub after_words : ℕ → Lcg → Lcg
after_words zero generator = generator
after_words (suc n) generator = after_word (after_words n generator)

-- A draw takes five words: for the node, the procedure, the two numbers of names, and the turn.
abbrev pub after_five : Lcg → Lcg
after_five generator = after_word (after_word (after_word (after_word (after_word generator))))

abbrev pub drawn : ℕ → Lcg → Draw
drawn nodes generator = record {
  node = word_of generator % nodes;
  procedure = procedure_of (word_of (after_word generator) % 10);
  first = word_of (after_word (after_word generator)) % 100;
  second = word_of (after_word (after_word (after_word generator))) % 100;
  turn = word_of (after_word (after_word (after_word (after_word generator)))) % 10;
}

-- the generator of a seed behind the draws of so many calls
abbrev pub generator_behind : ℕ → ℕ → Lcg
generator_behind seed calls = after_words (5 * calls) (seeded seed)

-- what is drawn for the call behind so many calls, of a schedule with this seed and so many nodes
abbrev pub draw_behind : ℕ → ℕ → ℕ → Draw
draw_behind seed nodes calls = drawn nodes (generator_behind seed calls)
