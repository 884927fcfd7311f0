use Rattle.std.proofs.Common.{◌≡◌, ◌+◌, length, subst, sym, ap, refl, ◌∙◌, arith}
use Rattle.std.proofs.lemmas.List.{length-append}
use Rattle.bx_base.specs.Writing.{Writes}
use Rattle.bx_page.specs.Contents.{Contents, size, high_bytes}
use Rattle.bx_page.specs.Spelling.{Spells}
use Rattle.bx_page.proofs.Edits.{with_page}
use Rattle.bx_page.proofs.Written.{count-le}
use Rattle.bx_page_bytes.specs.Pages.{head_bytes, contents_of}
use Rattle.bx_page_bytes.proofs.Writes.{size_more, size_with, written_more}
use Rattle.bx_page_bytes.proofs.page.PageBytes.write_with.Goals as goal

pub returns-then-self-key-clause-room : goal.returns-then-self-key-clause-room
returns-then-self-key-clause-room c =
    let page = c.args.self.now in
    let key = c.args.key.now in
    let spells = subst (λ (p : Contents). Spells p c.self.inside.payload.now) c.self.view_is c.self.invariant.spells in
    let rest = subst (λ (p : Contents). c.self.inside.room + size p ≡ 4096) c.self.view_is c.self.invariant.room in
    let more = size_more page key spells.is.rises c.args.value.now c.requires.absent in
    let short = c.if-self-key.true in
    (λ t. absurd cc, λ le. absurd (omega (arith, more, short, rest, le)))

pub overflow_add-self-inside : goal.overflow_add-self-inside
overflow_add-self-inside c =
    let there = c.self.invariant.there in
    omega (arith, c.self.invariant.spells.is.room, count-le (contents_of c.self.inside).entries, there)

pub put-at-requires : goal.put-at-requires
put-at-requires c =
    let page = c.args.self.now in
    let key = c.args.key.now in
    let spells = subst (λ (p : Contents). Spells p c.self.inside.payload.now) c.self.view_is c.self.invariant.spells in
    let rest = subst (λ (p : Contents). c.self.inside.room + size p ≡ 4096) c.self.view_is c.self.invariant.room in
    let head : Writes c.args.into.now c.put_head-at.new.into 0 c.put_head-at.result (head_bytes page.level (c.self.inside.count + 1) page.right page.high) = subst (λ (p : Contents). Writes c.args.into.now c.put_head-at.new.into 0 c.put_head-at.result (head_bytes p.level (c.self.inside.count + 1) p.right p.high)) c.self.view_is c.put_head-at.ensures in
    let fits = c.if-self-key.false in
    let place : c.put_head-at.result ≡ 16 + length (high_bytes page.high) = omega (arith, head.place) in
    let sizes = (size_with page key spells.is.rises c.args.value.now c.requires.absent).all in
    let front = ap length c.around.ensures.below in
    omega (arith, place, sizes, front, rest, fits, head.len, c.requires.size)

pub put_entry-at-requires-clause-fits : goal.put_entry-at-requires-clause-fits
put_entry-at-requires-clause-fits c =
    let page = c.args.self.now in
    let key = c.args.key.now in
    let spells = subst (λ (p : Contents). Spells p c.self.inside.payload.now) c.self.view_is c.self.invariant.spells in
    let rest = subst (λ (p : Contents). c.self.inside.room + size p ≡ 4096) c.self.view_is c.self.invariant.room in
    let head : Writes c.args.into.now c.put_head-at.new.into 0 c.put_head-at.result (head_bytes page.level (c.self.inside.count + 1) page.right page.high) = subst (λ (p : Contents). Writes c.args.into.now c.put_head-at.new.into 0 c.put_head-at.result (head_bytes p.level (c.self.inside.count + 1) p.right p.high)) c.self.view_is c.put_head-at.ensures in
    let fits = c.if-self-key.false in
    let place : c.put_head-at.result ≡ 16 + length (high_bytes page.high) = omega (arith, head.place) in
    let sizes = (size_with page key spells.is.rises c.args.value.now c.requires.absent).all in
    let front = ap length c.around.ensures.below in
    omega (arith, place, sizes, front, rest, fits, head.len, c.put-at.ensures.place, c.put-at.ensures.len, c.requires.size)

pub put-at-requires-2 : goal.put-at-requires-2
put-at-requires-2 c =
    let page = c.args.self.now in
    let key = c.args.key.now in
    let spells = subst (λ (p : Contents). Spells p c.self.inside.payload.now) c.self.view_is c.self.invariant.spells in
    let rest = subst (λ (p : Contents). c.self.inside.room + size p ≡ 4096) c.self.view_is c.self.invariant.room in
    let head : Writes c.args.into.now c.put_head-at.new.into 0 c.put_head-at.result (head_bytes page.level (c.self.inside.count + 1) page.right page.high) = subst (λ (p : Contents). Writes c.args.into.now c.put_head-at.new.into 0 c.put_head-at.result (head_bytes p.level (c.self.inside.count + 1) p.right p.high)) c.self.view_is c.put_head-at.ensures in
    let fits = c.if-self-key.false in
    let place : c.put_head-at.result ≡ 16 + length (high_bytes page.high) = omega (arith, head.place) in
    let sizes = (size_with page key spells.is.rises c.args.value.now c.requires.absent).all in
    let front = ap length c.around.ensures.below in
    let back = ap length c.around.ensures.above in
    let entry : c.put_entry-at.result ≡ c.put-at.result + (4 + (length key + length c.args.value.now)) = omega (arith, c.put_entry-at.ensures.place, length-append key c.args.value.now) in
    omega (arith, place, sizes, front, back, rest, fits, head.len, c.put-at.ensures.place, c.put-at.ensures.len, entry, c.put_entry-at.ensures.len, c.requires.size)

pub returns-clause-room : goal.returns-clause-room
returns-clause-room c =
    let page = c.args.self.now in
    let key = c.args.key.now in
    let spells = subst (λ (p : Contents). Spells p c.self.inside.payload.now) c.self.view_is c.self.invariant.spells in
    let rest = subst (λ (p : Contents). c.self.inside.room + size p ≡ 4096) c.self.view_is c.self.invariant.room in
    let more = size_more page key spells.is.rises c.args.value.now c.requires.absent in
    let fits = c.if-self-key.false in
    (λ t. omega (arith, more, fits, rest), λ le. refl)

pub returns-clause-written : goal.returns-clause-written
returns-clause-written c =
    let page = c.args.self.now in
    let key = c.args.key.now in
    let spells = subst (λ (p : Contents). Spells p c.self.inside.payload.now) c.self.view_is c.self.invariant.spells in
    let rest = subst (λ (p : Contents). c.self.inside.room + size p ≡ 4096) c.self.view_is c.self.invariant.room in
    let head : Writes c.args.into.now c.put_head-at.new.into 0 c.put_head-at.result (head_bytes page.level (c.self.inside.count + 1) page.right page.high) = subst (λ (p : Contents). Writes c.args.into.now c.put_head-at.new.into 0 c.put_head-at.result (head_bytes p.level (c.self.inside.count + 1) p.right p.high)) c.self.view_is c.put_head-at.ensures in
    let count : c.self.inside.count + 1 ≡ length page.entries + 1 = ap (λ n. n + 1) (sym c.self.invariant.there ∙ ap (λ (p : Contents). length p.entries) c.self.view_is) in
    let more = size_more page key spells.is.rises c.args.value.now c.requires.absent in
    let fits = c.if-self-key.false in
    λ t. record {
      is = with_page page key c.args.value.now spells.is c.requires.key c.requires.both c.requires.child c.requires.below (omega (arith, more, fits, rest));
      parts = written_more page key c.args.value.now (c.self.inside.count + 1) c.args.into.now _ _ _ _ c.clear_from.new.into _ _ _ _ _ _ spells.is.rises c.requires.absent count c.around.ensures.below c.around.ensures.above head c.put-at.ensures c.put_entry-at.ensures c.put-at-2.ensures c.requires.size c.clear_from.ensures;
    }
