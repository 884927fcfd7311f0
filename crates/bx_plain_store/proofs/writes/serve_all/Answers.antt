use Rattle.std.proofs.Common.{◌≡◌, ◌∙◌, ℕ, ◌+◌, ◌<◌, List, length, Option, Some, None, true, sym, ap, subst, arith}
use Rattle.std.proofs.lemmas.List.{length-set}
use Rattle.bx_disk.specs.Disks.{Disks}
use Rattle.bx_facts.specs.Writes.{IsDone, IsOver, IsSettled}
use Rattle.bx_members.proofs.Kept.{keeps_then, leaves_next}
use Rattle.bx_plain_store.specs.declared.writes.Write.{Write}
use Rattle.bx_plain_store.specs.Out.{IsFitting, at, out_in, outs, sent_of}
use Rattle.bx_plain_store.proofs.Replicas.{replicas_then}
use Rattle.bx_plain_store.proofs.Standing.{written_kept}
use Rattle.bx_plain_store.proofs.Serving.{alone_of, at_got, by_place, done_kept, free_of, new_fact, new_out, new_rest, set_each}
use Rattle.bx_plain_store.specs.Outs.{at_within}
use Rattle.bx_plain_store.proofs.writes.serve_all.Goals as goal

pub serve-requires-clause-fit : goal.serve-requires-clause-fit
serve-requires-clause-fit g c = λ write run here has.
    let inv = c.loop-i.invariant in
    let less : c.loop-i.i < length c.loop-i.slots.items = omega (arith, c.loop-i-test.true, c.len-i-end.ensures, inv.long) in
    let got = at_got c.loop-i.slots.items c.loop-i.i c.index_mut.result.now less c.index_mut.ensures.value in
    let before = got ∙ inv.rest c.loop-i.i (omega arith) in
    subst (λ (sizes : List ℕ). IsFitting c.args.devices sizes run) (sym inv.rack.sizes) (c.requires.fit c.loop-i.i write run (sym before ∙ here) has)

pub returns-in_err-serve-clause-keeps : goal.returns-in_err-serve-clause-keeps
returns-in_err-serve-clause-keeps g c = λ tells apart.
    let inv = c.loop-i.invariant in
    let less : c.loop-i.i < length c.loop-i.slots.items = omega (arith, c.loop-i-test.true, c.len-i-end.ensures, inv.long) in
    let got = at_got c.loop-i.slots.items c.loop-i.i c.index_mut.result.now less c.index_mut.ensures.value in
    let free = free_of c.args.slots.now.items c.args.greatest c.loop-i.i c.index_mut.result.now apart (got ∙ inv.rest c.loop-i.i (omega arith)) in
    keeps_then _ _ _ _ _ (inv.keeps tells apart) (c.serve.ensures.keeps (outs c.args.slots.now.items) (inv.rack.keeps_telling tells) free)

pub returns-in_err-serve-clause-any_moment : goal.returns-in_err-serve-clause-any_moment
returns-in_err-serve-clause-any_moment g c = λ tells apart.
    let inv = c.loop-i.invariant in
    let less : c.loop-i.i < length c.loop-i.slots.items = omega (arith, c.loop-i-test.true, c.len-i-end.ensures, inv.long) in
    let got = at_got c.loop-i.slots.items c.loop-i.i c.index_mut.result.now less c.index_mut.ensures.value in
    let free = free_of c.args.slots.now.items c.args.greatest c.loop-i.i c.index_mut.result.now apart (got ∙ inv.rest c.loop-i.i (omega arith)) in
    leaves_next _ _ _ _ _ _ _ _ _ _ (inv.any_moment tells apart) (inv.keeps tells apart) (c.serve.ensures.any_moment (outs c.args.slots.now.items) (inv.rack.keeps_telling tells) free)

pub returns-in_err-serve-clause-done : goal.returns-in_err-serve-clause-done
returns-in_err-serve-clause-done g c = λ node sent s tells apart out none long.
    let inv = c.loop-i.invariant in
    let less : c.loop-i.i < length c.loop-i.slots.items = omega (arith, c.loop-i-test.true, c.len-i-end.ensures, inv.long) in
    let got = at_got c.loop-i.slots.items c.loop-i.i c.index_mut.result.now less c.index_mut.ensures.value in
    let free = free_of c.args.slots.now.items c.args.greatest c.loop-i.i c.index_mut.result.now apart (got ∙ inv.rest c.loop-i.i (omega arith)) in
    let x : Disks = g.R.Rack.state c.serve.new.rack in
    new_fact c.args.slots.now.items c.loop-i.slots.items c.loop-i.i c.index_mut.result.now c.serve.new.slot less got inv.rest
    (λ sent. IsDone (λ device sector content index. IsSettled x s device sector content) 0 sent)
    (λ sent here gone. absurd (let e = sym here ∙ sym c.in_err-serve.ensures.stays_out ∙ gone in cc))
    (λ at sent was_out gone.
    done_kept (outs c.args.slots.now.items) c.args.greatest s _ x sent (c.serve.ensures.keeps (outs c.args.slots.now.items) (inv.rack.keeps_telling tells) free)
    (alone_of c.args.slots.now.items c.args.greatest at sent apart was_out (inv.not_over at sent was_out gone))
    (inv.done at sent s tells apart was_out gone long))
    node sent out none

pub returns-in_err-serve-clause-out : goal.returns-in_err-serve-clause-out
returns-in_err-serve-clause-out g c = λ node.
    let inv = c.loop-i.invariant in
    let less : c.loop-i.i < length c.loop-i.slots.items = omega (arith, c.loop-i-test.true, c.len-i-end.ensures, inv.long) in
    let got = at_got c.loop-i.slots.items c.loop-i.i c.index_mut.result.now less c.index_mut.ensures.value in
    new_out c.args.slots.now.items c.loop-i.slots.items c.loop-i.i c.index_mut.result.now c.serve.new.slot less got inv.rest c.serve.ensures.out inv.out node

pub loop-i-preserved : goal.loop-i-preserved
loop-i-preserved g c =
    let inv = c.loop-i.invariant in
    let less : c.loop-i.i < length c.loop-i.slots.items = omega (arith, c.loop-i-test.true, c.len-i-end.ensures, inv.long) in
    let got = at_got c.loop-i.slots.items c.loop-i.i c.index_mut.result.now less c.index_mut.ensures.value in
    let before = got ∙ inv.rest c.loop-i.i (omega arith) in
    let ws = outs c.args.slots.now.items in
    let x : Disks = g.R.Rack.state c.serve.new.rack in
    record {
      rest = new_rest c.args.slots.now.items c.loop-i.slots.items c.loop-i.i c.index_mut.result.now c.serve.new.slot less got inv.rest;
      long = length-set c.loop-i.slots.items c.loop-i.i c.serve.new.slot ∙ inv.long;
      keeps = λ tells apart.
          let free = free_of c.args.slots.now.items c.args.greatest c.loop-i.i c.index_mut.result.now apart before in
          keeps_then _ _ _ _ _ (inv.keeps tells apart) (c.serve.ensures.keeps ws (inv.rack.keeps_telling tells) free);
      any_moment = λ tells apart.
          let free = free_of c.args.slots.now.items c.args.greatest c.loop-i.i c.index_mut.result.now apart before in
          leaves_next _ _ _ _ _ _ _ _ _ _ (inv.any_moment tells apart) (inv.keeps tells apart) (c.serve.ensures.any_moment ws (inv.rack.keeps_telling tells) free);
      not_over = new_fact c.args.slots.now.items c.loop-i.slots.items c.loop-i.i c.index_mut.result.now c.serve.new.slot less got inv.rest
          (λ sent. IsOver c.args.greatest sent → ⊥) (λ sent here gone. c.serve.ensures.not_over sent here gone) inv.not_over;
      done = λ node sent s tells apart out none long.
          let free = free_of c.args.slots.now.items c.args.greatest c.loop-i.i c.index_mut.result.now apart before in
          new_fact c.args.slots.now.items c.loop-i.slots.items c.loop-i.i c.index_mut.result.now c.serve.new.slot less got inv.rest
          (λ sent. IsDone (λ device sector content index. IsSettled x s device sector content) 0 sent)
          (λ sent here gone. c.in_ok-serve.ensures.done ws sent s (inv.rack.keeps_telling tells) free here gone long)
          (λ at sent was_out gone.
          done_kept ws c.args.greatest s _ x sent (c.serve.ensures.keeps ws (inv.rack.keeps_telling tells) free)
          (alone_of c.args.slots.now.items c.args.greatest at sent apart was_out (inv.not_over at sent was_out gone))
          (inv.done at sent s tells apart was_out gone long))
          node sent out none;
      out = new_out c.args.slots.now.items c.loop-i.slots.items c.loop-i.i c.index_mut.result.now c.serve.new.slot less got inv.rest c.serve.ensures.out inv.out;
      first = λ node write low here not_over fresh.
          let P : ℕ → Option Write → Type 0 = λ n slot. n < c.loop-i.i + 1 → at c.args.slots.now.items n ≡ Some write → slot ≡ Some (record write { is_written = true }) in
          set_each P c.loop-i.slots.items c.loop-i.i c.serve.new.slot less
          (λ below was. c.in_ok-serve.ensures.first write (before ∙ was) not_over fresh)
          (λ n other below was. inv.first n write (omega (arith, below, other)) was not_over fresh)
          node low here;
      second = λ node write low here not_over old.
          let P : ℕ → Option Write → Type 0 = λ n slot. n < c.loop-i.i + 1 → at c.args.slots.now.items n ≡ Some write → slot ≡ None in
          set_each P c.loop-i.slots.items c.loop-i.i c.serve.new.slot less
          (λ below was. c.in_ok-serve.ensures.second write (before ∙ was) not_over old)
          (λ n other below was. inv.second n write (omega (arith, below, other)) was not_over old)
          node low here;
      over = λ node write low here is_over.
          let P : ℕ → Option Write → Type 0 = λ n slot. n < c.loop-i.i + 1 → at c.args.slots.now.items n ≡ Some write → slot ≡ Some write in
          set_each P c.loop-i.slots.items c.loop-i.i c.serve.new.slot less
          (λ below was. c.serve.ensures.over write (before ∙ was) is_over)
          (λ n other below was. inv.over n write (omega (arith, below, other)) was is_over)
          node low here;
      written = λ node write low tells apart here not_over.
          let free = free_of c.args.slots.now.items c.args.greatest c.loop-i.i c.index_mut.result.now apart before in
          let kept = c.serve.ensures.keeps ws (inv.rack.keeps_telling tells) free in
          by_place node c.loop-i.i low
          (λ same. c.in_ok-serve.ensures.written ws write (inv.rack.keeps_telling tells) free (before ∙ ap (at c.args.slots.now.items) (sym same) ∙ here) not_over)
          (λ below. written_kept ws c.args.greatest (sent_of write) _ x (alone_of c.args.slots.now.items c.args.greatest node (sent_of write) apart (ap out_in here) not_over) kept (inv.written node write below tells apart here not_over));
      replicas = λ tells. replicas_then _ _ _ (inv.replicas tells) (c.serve.ensures.replicas (inv.rack.keeps_telling tells));
      rack = grind arith;
    }

pub returns-clause-first : goal.returns-clause-first
returns-clause-first g c = λ node write here.
    let less = at_within c.args.slots.now.items node write here in
    c.loop-i.invariant.first node write (omega (arith, less, c.loop-i-test.false, c.len-i-end.ensures)) here

pub returns-clause-second : goal.returns-clause-second
returns-clause-second g c = λ node write here.
    let less = at_within c.args.slots.now.items node write here in
    c.loop-i.invariant.second node write (omega (arith, less, c.loop-i-test.false, c.len-i-end.ensures)) here

pub returns-clause-over : goal.returns-clause-over
returns-clause-over g c = λ node write here.
    let less = at_within c.args.slots.now.items node write here in
    c.loop-i.invariant.over node write (omega (arith, less, c.loop-i-test.false, c.len-i-end.ensures)) here

pub returns-clause-written : goal.returns-clause-written
returns-clause-written g c = λ node write tells apart here.
    let less = at_within c.args.slots.now.items node write here in
    c.loop-i.invariant.written node write (omega (arith, less, c.loop-i-test.false, c.len-i-end.ensures)) tells apart here

pub returns-in_err-serve-clause-replicas : goal.returns-in_err-serve-clause-replicas
returns-in_err-serve-clause-replicas g c = λ tells. replicas_then _ _ _ (c.loop-i.invariant.replicas tells) (c.serve.ensures.replicas (c.loop-i.invariant.rack.keeps_telling tells))
