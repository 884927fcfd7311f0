use Rattle.std.proofs.Common.{◌≡◌, List, ◌+◌, length, subst, ap, ◌∙◌, arith, take, drop}
use Rattle.bx_page.specs.declared.entry.Entry.{Entry}
use Rattle.bx_page.specs.Contents.{Contents, size, high_bytes}
use Rattle.bx_page.specs.Spelling.{Spells}
use Rattle.bx_page.proofs.Whole.{length-page_bytes}
use Rattle.bx_page_bytes.specs.Pages.{contents_of}
use Rattle.bx_page_bytes.proofs.Cuts.{Cut}
use Rattle.bx_page_bytes.proofs.Writes.{behind_head, before-le, front_is, back_is}
use Rattle.bx_page_bytes.proofs.page.PageBytes.around.Goals as goal

pub split_at-requires : goal.split_at-requires
split_at-requires c =
    let spells = c.self.invariant.spells in
    omega (arith, ap length spells.parts, length-page_bytes (contents_of c.self.inside) spells.is.room)

pub split_at-requires-3 : goal.split_at-requires-3
split_at-requires-3 c =
    let page = c.args.self.now in
    let key = c.args.key.now in
    let spells = subst (λ (p : Contents). Spells p c.self.inside.payload.now) c.self.view_is c.self.invariant.spells in
    let rest = subst (λ (p : Contents). c.self.inside.room + size p ≡ 4096) c.self.view_is c.self.invariant.room in
    let entries = behind_head page c.self.inside.payload.now c.split_at.result.0.now c.split_at-2.result.1.now c.self.inside.room c.head_len.result spells rest (c.head_len.ensures ∙ ap (λ (p : Contents). 16 + length (high_bytes p.high)) c.self.view_is) c.split_at.ensures.front c.split_at-2.ensures.back in
    let cut : Cut page.entries key c.cuts-before.result.0 c.cuts-before.result.1 = subst (λ (es : List Entry). Cut es key c.cuts-before.result.0 c.cuts-before.result.1) c.entries.ensures.all (record { before_is = c.cuts-before.ensures.before; behind_is = c.cuts-before.ensures.behind }) in
    rw entries (before-le page.entries key c.cuts-before.result.0 c.cuts-before.result.1 spells.is.rises cut)

pub returns-clause-below : goal.returns-clause-below
returns-clause-below c =
    let page = c.args.self.now in
    let key = c.args.key.now in
    let spells = subst (λ (p : Contents). Spells p c.self.inside.payload.now) c.self.view_is c.self.invariant.spells in
    let rest = subst (λ (p : Contents). c.self.inside.room + size p ≡ 4096) c.self.view_is c.self.invariant.room in
    let entries = behind_head page c.self.inside.payload.now c.split_at.result.0.now c.split_at-2.result.1.now c.self.inside.room c.head_len.result spells rest (c.head_len.ensures ∙ ap (λ (p : Contents). 16 + length (high_bytes p.high)) c.self.view_is) c.split_at.ensures.front c.split_at-2.ensures.back in
    let cut : Cut page.entries key c.cuts-before.result.0 c.cuts-before.result.1 = subst (λ (es : List Entry). Cut es key c.cuts-before.result.0 c.cuts-before.result.1) c.entries.ensures.all (record { before_is = c.cuts-before.ensures.before; behind_is = c.cuts-before.ensures.behind }) in
    c.split_at-3.ensures.front ∙ ap (take c.cuts-before.result.0) entries ∙ front_is page key spells.is.rises c.cuts-before.result.0 c.cuts-before.result.1 cut

pub returns-clause-above : goal.returns-clause-above
returns-clause-above c =
    let page = c.args.self.now in
    let key = c.args.key.now in
    let spells = subst (λ (p : Contents). Spells p c.self.inside.payload.now) c.self.view_is c.self.invariant.spells in
    let rest = subst (λ (p : Contents). c.self.inside.room + size p ≡ 4096) c.self.view_is c.self.invariant.room in
    let entries = behind_head page c.self.inside.payload.now c.split_at.result.0.now c.split_at-2.result.1.now c.self.inside.room c.head_len.result spells rest (c.head_len.ensures ∙ ap (λ (p : Contents). 16 + length (high_bytes p.high)) c.self.view_is) c.split_at.ensures.front c.split_at-2.ensures.back in
    let cut : Cut page.entries key c.cuts-before.result.0 c.cuts-before.result.1 = subst (λ (es : List Entry). Cut es key c.cuts-before.result.0 c.cuts-before.result.1) c.entries.ensures.all (record { before_is = c.cuts-before.ensures.before; behind_is = c.cuts-before.ensures.behind }) in
    c.split_at-4.ensures.back ∙ ap (drop c.cuts-before.result.1) entries ∙ back_is page key spells.is.rises c.cuts-before.result.0 c.cuts-before.result.1 cut
