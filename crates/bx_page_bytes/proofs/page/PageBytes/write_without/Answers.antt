use Rattle.std.proofs.Common.{◌≡◌, ◌+◌, ◌-◌, length, subst, sym, ap, ◌∙◌, arith}
use Rattle.bx_base.specs.Writing.{Writes}
use Rattle.bx_page.specs.Contents.{Contents, size, high_bytes}
use Rattle.bx_page.specs.Spelling.{Spells}
use Rattle.bx_page_bytes.specs.Pages.{head_bytes}
use Rattle.bx_page_bytes.proofs.Writes.{page_less, size_apart, written_less}
use Rattle.bx_page_bytes.proofs.page.PageBytes.write_without.Goals as goal

pub put-at-requires : goal.put-at-requires
put-at-requires c =
    let page = c.args.self.now in
    let key = c.args.key.now in
    let spells = subst (λ (p : Contents). Spells p c.self.inside.payload.now) c.self.view_is c.self.invariant.spells in
    let rest = subst (λ (p : Contents). c.self.inside.room + size p ≡ 4096) c.self.view_is c.self.invariant.room in
    let head : Writes c.args.into.now c.put_head-at.new.into 0 c.put_head-at.result (head_bytes page.level (c.self.inside.count - 1) page.right page.high) = subst (λ (p : Contents). Writes c.args.into.now c.put_head-at.new.into 0 c.put_head-at.result (head_bytes p.level (c.self.inside.count - 1) p.right p.high)) c.self.view_is c.put_head-at.ensures in
    let place : c.put_head-at.result ≡ 16 + length (high_bytes page.high) = omega (arith, head.place) in
    let sizes = size_apart page key spells.is.rises in
    let front = ap length c.around.ensures.below in
    let most = spells.is.room in
    omega (arith, place, sizes, front, most, head.len, c.requires.size)

pub put-at-requires-2 : goal.put-at-requires-2
put-at-requires-2 c =
    let page = c.args.self.now in
    let key = c.args.key.now in
    let spells = subst (λ (p : Contents). Spells p c.self.inside.payload.now) c.self.view_is c.self.invariant.spells in
    let rest = subst (λ (p : Contents). c.self.inside.room + size p ≡ 4096) c.self.view_is c.self.invariant.room in
    let head : Writes c.args.into.now c.put_head-at.new.into 0 c.put_head-at.result (head_bytes page.level (c.self.inside.count - 1) page.right page.high) = subst (λ (p : Contents). Writes c.args.into.now c.put_head-at.new.into 0 c.put_head-at.result (head_bytes p.level (c.self.inside.count - 1) p.right p.high)) c.self.view_is c.put_head-at.ensures in
    let place : c.put_head-at.result ≡ 16 + length (high_bytes page.high) = omega (arith, head.place) in
    let sizes = size_apart page key spells.is.rises in
    let front = ap length c.around.ensures.below in
    let most = spells.is.room in
    let back = ap length c.around.ensures.above in
    omega (arith, place, sizes, front, back, most, head.len, c.put-at.ensures.place, c.put-at.ensures.len, c.requires.size)

pub returns : goal.returns
returns c =
    let page = c.args.self.now in
    let key = c.args.key.now in
    let spells = subst (λ (p : Contents). Spells p c.self.inside.payload.now) c.self.view_is c.self.invariant.spells in
    let rest = subst (λ (p : Contents). c.self.inside.room + size p ≡ 4096) c.self.view_is c.self.invariant.room in
    let head : Writes c.args.into.now c.put_head-at.new.into 0 c.put_head-at.result (head_bytes page.level (c.self.inside.count - 1) page.right page.high) = subst (λ (p : Contents). Writes c.args.into.now c.put_head-at.new.into 0 c.put_head-at.result (head_bytes p.level (c.self.inside.count - 1) p.right p.high)) c.self.view_is c.put_head-at.ensures in
    let count : c.self.inside.count - 1 ≡ length page.entries - 1 = ap (λ n. n - 1) (sym c.self.invariant.there ∙ ap (λ (p : Contents). length p.entries) c.self.view_is) in
    record { is = page_less page key spells.is; parts = written_less page key (c.self.inside.count - 1) c.args.into.now _ _ _ c.clear_from.new.into _ _ _ _ _ spells.is.rises c.requires.there count c.around.ensures.below c.around.ensures.above head c.put-at.ensures c.put-at-2.ensures c.requires.size c.clear_from.ensures }
