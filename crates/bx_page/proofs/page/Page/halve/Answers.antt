use Rattle.std.proofs.Common.{ℕ, ◌/◌, List, Some, take, drop, refl, sym, ap, ◌∙◌, arith}
use Rattle.bx_page.specs.View.{contents_of}
use Rattle.bx_page.proofs.Edits.{first_half_page, other_half_page, middle_key}
use Rattle.bx_page.proofs.page.Page.halve.Goals as goal

pub invariant_of-result : goal.invariant_of-result
invariant_of-result c =
    let p = contents_of c.self.inside in
    let n = ap (λ n. n / 2) (c.len-half.ensures ∙ c.self.inside.entries.ok.0) in
    let items = c.in_ok-entries.ensures.tail ∙ ap (λ n. drop n c.self.inside.entries.items) n in
    rw (c.replace.ensures.value, c.replace-2.ensures.value, items) (other_half_page p c.self.invariant)

pub invariant_of-self-2 : goal.invariant_of-self-2
invariant_of-self-2 c =
    let p = contents_of c.self.inside in
    let n = ap (λ n. n / 2) (c.len-half.ensures ∙ c.self.inside.entries.ok.0) in
    let items = c.in_ok-entries.ensures.items ∙ ap (λ n. take n c.self.inside.entries.items) n in
    let two = rw (← c.self.view_is) at c.requires in
    let x = c.index-middle.result.now in
    let high = c.replace-2.ensures.after ∙ ap (λ (k : List ℕ). Some k) (c.in_ok-high.ensures ∙ c.bytes.ensures) ∙ sym (middle_key p _ x n (omega (arith, two, n)) c.index-middle.ensures) in
    rw (c.replace.ensures.after, high, items) (first_half_page p c.args.right c.self.invariant (omega arith) two)

pub returns-clause-kept : goal.returns-clause-kept
returns-clause-kept c =
    let p = contents_of c.self.inside in
    let n = ap (λ n. n / 2) (c.len-half.ensures ∙ c.self.inside.entries.ok.0) in
    let items = c.in_ok-entries.ensures.items ∙ ap (λ n. take n c.self.inside.entries.items) n in
    let two = rw (← c.self.view_is) at c.requires in
    let x = c.index-middle.result.now in
    let high = c.replace-2.ensures.after ∙ ap (λ (k : List ℕ). Some k) (c.in_ok-high.ensures ∙ c.bytes.ensures) ∙ sym (middle_key p _ x n (omega (arith, two, n)) c.index-middle.ensures) in
    rw (c.replace.ensures.after, high, items, ← c.self.view_is) refl
