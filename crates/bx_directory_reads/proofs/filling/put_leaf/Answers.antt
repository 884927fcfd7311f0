use Rattle.std.proofs.Common.{List, true, false, refl, subst, sym, ◌∙◌}
use Rattle.bx_dirs.specs.Entries.{IsNoNumbered}
use Rattle.bx_call_parts.proofs.Filled.{put_as}
use Rattle.bx_directory_reads.proofs.Putting.{entry_of, goes_on, less_room, no_stray, stops}
use Rattle.bx_directory_reads.proofs.filling.put_leaf.Goals as goal

pub returns-in-None-clause-list : goal.returns-in-None-clause-list
returns-in-None-clause-list c = λ names fit are.
    no_stray c.args.page.now c.loop-entry.page names c.loop-entry.entries c.in-Some.entry (c.loop-entry.invariant.list names fit are) c.in-Some.ensures.next
    (subst (λ (k : List _). IsNoNumbered k c.in-Some.entry.value) c.key.ensures (subst (λ (v : List _). IsNoNumbered c.key.result.now v) c.value.ensures c.in-None.ensures.none))

pub returns-then-not-fits-clause-list : goal.returns-then-not-fits-clause-list
returns-then-not-fits-clause-list c = λ names fit are.
    let x = c.in-Some-numbered_in in
    stops c.args.page.now c.loop-entry.page names c.loop-entry.entries c.in-Some.entry (c.loop-entry.invariant.list names fit are) c.in-Some.ensures.next x.number x.handle x.name.now x.ensures.fits.0 x.ensures.fits.1
    (sym c.key.ensures ∙ x.ensures.key) (sym c.value.ensures ∙ x.ensures.value) c.put.new.self
    (put_as c.loop-entry.page c.put.new.self c.in_ok-fits-in-Some-numbered_in.fits false (entry_of x.number x.handle x.name.now) x.name.now refl c.if-not-fits.true c.in_ok-fits-in-Some-numbered_in.ensures)

pub loop-entry-preserved : goal.loop-entry-preserved
loop-entry-preserved c =
    let x = c.in-Some-numbered_in in
    let put =
    put_as c.loop-entry.page c.put.new.self c.in_ok-fits-in-Some-numbered_in.fits true (entry_of x.number x.handle x.name.now) x.name.now refl c.if-not-fits.false c.in_ok-fits-in-Some-numbered_in.ensures in
    record {
      list = λ names fit are.
          goes_on c.args.page.now c.loop-entry.page names c.loop-entry.entries c.in-Some.entry (c.loop-entry.invariant.list names fit are) c.in-Some.ensures.next x.number x.handle x.name.now x.ensures.fits.0 x.ensures.fits.1
          (sym c.key.ensures ∙ x.ensures.key) (sym c.value.ensures ∙ x.ensures.value) c.put.new.self c.next.new.self c.next.ensures.rest put;
      room = less_room c.args.page.now c.loop-entry.page c.put.new.self (entry_of x.number x.handle x.name.now) c.args.entries c.loop-entry.entries c.next.new.self c.in-Some.entry c.loop-entry.invariant.room c.in-Some.ensures.next c.next.ensures.rest put;
    }
