use Rattle.std.proofs.Common.{◌≡◌, ◌∙◌, ℕ, ◌+◌, ◌<◌, List, length, Option, Some, IsSome, sym, ap, subst, arith}
use Rattle.std.proofs.lemmas.List.{length-set}
use Rattle.bx_disk.specs.Disks.{Disks, IsImage}
use Rattle.bx_calls.specs.Calls.{LeavesOnly}
use Rattle.bx_calls.specs.Laws.{leaves_then}
use Rattle.bx_plain_store.specs.Out.{at}
use Rattle.bx_plain_store.proofs.Serving.{at_beside, at_got, set_each}
use Rattle.bx_plain_store.specs.declared.inquiries.Inquiry.{Inquiry}
use Rattle.bx_plain_store.specs.Parts.{IsAnswered, IsReadable, answer_in, asked_at, asked_in}
use Rattle.bx_plain_store.proofs.Answering.{answered_then, asked_within}
use Rattle.bx_plain_store.proofs.inquiries.answer_all.Goals as goal

pub answer_one-requires : goal.answer_one-requires
answer_one-requires g c = record {
  fit = λ inquiry here.
      let inv = c.loop-i.invariant in
      let less : c.loop-i.i < length c.loop-i.inquiries.items = omega (arith, c.loop-i-test.true, c.len-i-end.ensures, inv.long) in
      let got = at_got c.loop-i.inquiries.items c.loop-i.i c.index_mut.result.now less c.index_mut.ensures.value in
      let before = got ∙ inv.rest c.loop-i.i (omega arith) in
      subst (λ (sizes : List ℕ). IsReadable sizes inquiry.ask) (sym inv.rack.sizes) (c.requires.fit c.loop-i.i inquiry (sym before ∙ here));
}

pub returns-in_err-answer_one-clause-answered : goal.returns-in_err-answer_one-clause-answered
returns-in_err-answer_one-clause-answered g c = λ node tells.
    let inv = c.loop-i.invariant in
    let less : c.loop-i.i < length c.loop-i.inquiries.items = omega (arith, c.loop-i-test.true, c.len-i-end.ensures, inv.long) in
    let got = at_got c.loop-i.inquiries.items c.loop-i.i c.index_mut.result.now less c.index_mut.ensures.value in
    let before = got ∙ inv.rest c.loop-i.i (omega arith) in
    let x : Disks = g.R.Rack.state c.args.rack.now in
    let P : ℕ → Option Inquiry → Type 0 = λ n slot. IsAnswered x c.args.known.now (at c.args.inquiries.now.items n) slot in
    let here = answered_then x c.args.known.now _ c.index_mut.result.now c.answer_one.new.slot (sym before) (subst (λ (y : Disks). IsAnswered y c.args.known.now c.index_mut.result.now c.answer_one.new.slot) (inv.stays tells) (c.answer_one.ensures.answered (inv.rack.keeps_telling tells))) in
    set_each P c.loop-i.inquiries.items c.loop-i.i c.answer_one.new.slot less here (λ n other. inv.each n tells) node

pub returns-in_err-answer_one-clause-asks : goal.returns-in_err-answer_one-clause-asks
returns-in_err-answer_one-clause-asks g c = λ node.
    let inv = c.loop-i.invariant in
    let less : c.loop-i.i < length c.loop-i.inquiries.items = omega (arith, c.loop-i-test.true, c.len-i-end.ensures, inv.long) in
    let got = at_got c.loop-i.inquiries.items c.loop-i.i c.index_mut.result.now less c.index_mut.ensures.value in
    let before = got ∙ inv.rest c.loop-i.i (omega arith) in
    let P : ℕ → Option Inquiry → Type 0 = λ n slot. asked_in slot ≡ asked_at c.args.inquiries.now.items n in
    set_each P c.loop-i.inquiries.items c.loop-i.i c.answer_one.new.slot less (c.answer_one.ensures.asks ∙ ap asked_in before) (λ n other. inv.asks n) node

pub loop-i-preserved : goal.loop-i-preserved
loop-i-preserved g c =
    let inv = c.loop-i.invariant in
    let less : c.loop-i.i < length c.loop-i.inquiries.items = omega (arith, c.loop-i-test.true, c.len-i-end.ensures, inv.long) in
    let got = at_got c.loop-i.inquiries.items c.loop-i.i c.index_mut.result.now less c.index_mut.ensures.value in
    let before = got ∙ inv.rest c.loop-i.i (omega arith) in
    let x : Disks = g.R.Rack.state c.args.rack.now in
    record {
      rest = λ j more. at_beside c.loop-i.inquiries.items c.loop-i.i j _ (λ same. omega (arith, same, more)) ∙ inv.rest j (omega (arith, more));
      long = length-set c.loop-i.inquiries.items c.loop-i.i c.answer_one.new.slot ∙ inv.long;
      each = λ node tells.
          let P : ℕ → Option Inquiry → Type 0 = λ n slot. IsAnswered x c.args.known.now (at c.args.inquiries.now.items n) slot in
          let here = answered_then x c.args.known.now _ c.index_mut.result.now c.answer_one.new.slot (sym before) (subst (λ (y : Disks). IsAnswered y c.args.known.now c.index_mut.result.now c.answer_one.new.slot) (inv.stays tells) (c.answer_one.ensures.answered (inv.rack.keeps_telling tells))) in
          set_each P c.loop-i.inquiries.items c.loop-i.i c.answer_one.new.slot less here (λ n other. inv.each n tells) node;
      asks = λ node.
          let P : ℕ → Option Inquiry → Type 0 = λ n slot. asked_in slot ≡ asked_at c.args.inquiries.now.items n in
          set_each P c.loop-i.inquiries.items c.loop-i.i c.answer_one.new.slot less (c.answer_one.ensures.asks ∙ ap asked_in before) (λ n other. inv.asks n) node;
      there = λ node asks below asked within.
          let P : ℕ → Option Inquiry → Type 0 = λ n slot. n < c.loop-i.i + 1 → asked_at c.args.inquiries.now.items n ≡ Some asks → IsSome (answer_in slot) in
          set_each P c.loop-i.inquiries.items c.loop-i.i c.answer_one.new.slot less
          (λ low here. c.in_ok-answer_one.ensures.there asks (ap asked_in before ∙ here) within)
          (λ n other low here. inv.there n asks (omega (arith, low, other)) here within)
          node below asked;
      stays = λ tells. c.answer_one.ensures.stays (inv.rack.keeps_telling tells) ∙ inv.stays tells;
      any_moment = λ tells.
          leaves_then _ _ _ _ _ _ (IsImage x) (IsImage x) (inv.any_moment tells)
          (subst (λ (y : Disks). LeavesOnly (g.R.Rack.moment c.loop-i.rack) (g.R.Rack.moment c.answer_one.new.rack) (g.R.Rack.left_since c.loop-i.rack) (g.R.Rack.left_since c.answer_one.new.rack) (IsImage y)) (inv.stays tells) (c.answer_one.ensures.any_moment (inv.rack.keeps_telling tells)))
          (λ image is. is);
      rack = grind arith;
    }

pub returns-clause-there : goal.returns-clause-there
returns-clause-there g c = λ node asks asked within.
    let inv = c.loop-i.invariant in
    let less = asked_within c.args.inquiries.now.items node asks asked in
    inv.there node asks (omega (arith, less, c.loop-i-test.false, c.len-i-end.ensures)) asked within
