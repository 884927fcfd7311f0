use Rattle.std.proofs.Common.{◌≡◌, ◌+◌, length, refl, sym, ap, ◌∙◌, arith}
use Rattle.std.specs.Ordering.{nat_cmp}
use Rattle.std.specs.Cmp.Lexicographic.{slice_cmp}
use Rattle.bx_page.specs.Contents.{entry_size}
use Rattle.bx_page_bytes.proofs.Cuts.{passes_by, cut_same, cut_behind}
use Rattle.bx_page_bytes.proofs.writing.cuts.Goals as goal

pub loop-entry-preserved : goal.loop-entry-preserved
loop-entry-preserved c =
    let order = ap (λ key. slice_cmp nat_cmp key c.args.key.now) (sym c.key-in-Some.ensures) ∙ sym c.cmp.ensures ∙ c.in-Less.is in
    let size : 4 + (length c.key.result.now + length c.value.result.now) ≡ entry_size c.in-Some.entry = omega (arith, ap length c.key.ensures, ap length c.value.ensures) in
    rw c.next.ensures.rest (passes_by c.args.entries c.loop-entry.entries c.args.key.now c.loop-entry.before c.in-Some.entry _ c.loop-entry.invariant c.in-Some.ensures.next size order)

pub returns-in-Equal-clause-before : goal.returns-in-Equal-clause-before
returns-in-Equal-clause-before c =
    let order = ap (λ key. slice_cmp nat_cmp key c.args.key.now) (sym c.key-in-Some.ensures) ∙ sym c.cmp.ensures ∙ c.in-Equal.is in
    (cut_same c.args.entries c.loop-entry.entries c.args.key.now c.loop-entry.before c.in-Some.entry (entry_size c.in-Some.entry) c.loop-entry.invariant c.in-Some.ensures.next refl order).before_is

pub returns-in-Equal-clause-behind : goal.returns-in-Equal-clause-behind
returns-in-Equal-clause-behind c =
    let order = ap (λ key. slice_cmp nat_cmp key c.args.key.now) (sym c.key-in-Some.ensures) ∙ sym c.cmp.ensures ∙ c.in-Equal.is in
    let size : 4 + (length c.key.result.now + length c.value.result.now) ≡ entry_size c.in-Some.entry = omega (arith, ap length c.key.ensures, ap length c.value.ensures) in
    (cut_same c.args.entries c.loop-entry.entries c.args.key.now c.loop-entry.before c.in-Some.entry _ c.loop-entry.invariant c.in-Some.ensures.next size order).behind_is

pub returns-in-Greater-clause-before : goal.returns-in-Greater-clause-before
returns-in-Greater-clause-before c =
    let order = ap (λ key. slice_cmp nat_cmp key c.args.key.now) (sym c.key-in-Some.ensures) ∙ sym c.cmp.ensures ∙ c.in-Greater.is in
    (cut_behind c.args.entries c.loop-entry.entries c.args.key.now c.loop-entry.before c.in-Some.entry c.loop-entry.invariant c.in-Some.ensures.next order).before_is

pub returns-in-Greater-clause-behind : goal.returns-in-Greater-clause-behind
returns-in-Greater-clause-behind c =
    let order = ap (λ key. slice_cmp nat_cmp key c.args.key.now) (sym c.key-in-Some.ensures) ∙ sym c.cmp.ensures ∙ c.in-Greater.is in
    (cut_behind c.args.entries c.loop-entry.entries c.args.key.now c.loop-entry.before c.in-Some.entry c.loop-entry.invariant c.in-Some.ensures.next order).behind_is
