use Rattle.std.proofs.Common.{◌≡◌, length, take, drop, ◌++◌, arith}
use Rattle.std.proofs.lemmas.List.{take_at, length-take}
use Rattle.bx_xdr.specs.Items.{SpellsWords, Reads, Lacks}
use Rattle.bx_xdr.proofs.Spelling.{list_joined, list_without_length, list_without_words}
use Rattle.bx_xdr.proofs.reader.list_at.Goals as goal

pub returns-in_err-count-clause-none : goal.returns-in_err-count-clause-none
returns-in_err-count-clause-none c = rw c.from_residual.ensures (list_without_length _ c.args.bytes.now c.in_err-count.ensures.none)

pub returns-in_err-rest-clause-none : goal.returns-in_err-rest-clause-none
returns-in_err-rest-clause-none c =
    let size : length (take c.in_ok-count.count c.args.into.now) ≡ c.in_ok-count.count = omega (arith, length-take c.in_ok-count.count c.args.into.now) in
    let none : Lacks (SpellsWords c.in_ok-count.count) c.in_ok-count.behind.now = rw (← size) c.in_err-rest.ensures.none in
    rw c.from_residual-in_err-rest.ensures (list_without_words _ c.in_ok-count.count c.args.bytes.now c.in_ok-count.behind.now c.in_ok-count.ensures.some none)

pub returns-clause-some : goal.returns-clause-some
returns-clause-some c =
    let count = c.in_ok-count.count in
    let size : length (take count c.args.into.now) ≡ count = omega (arith, length-take count c.args.into.now) in
    let read : Reads (SpellsWords count c.words_at.new.into) c.in_ok-count.behind.now c.in_ok-rest.rest.now = rw (← size) c.in_ok-rest.ensures.some in
    let front : take count (c.words_at.new.into ++ drop count c.args.into.now) ≡ c.words_at.new.into = take_at c.words_at.new.into (drop count c.args.into.now) count read.spells.count in
    rw front (list_joined (length c.args.into.now) count c.words_at.new.into c.args.bytes.now c.in_ok-count.behind.now c.in_ok-rest.rest.now (omega arith) c.in_ok-count.ensures.some read)
