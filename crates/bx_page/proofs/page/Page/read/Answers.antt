use Rattle.std.proofs.Common.{◌≡◌, ℕ, List, Option, Some, Result, Ok, length, ap, subst, ◌∙◌, arith}
use Rattle.std.specs.Prelude.{IfOk, IfNone, IfSome}
use Rattle.bx_base.specs.declared.memory.OutOfMemory.{OutOfMemory}
use Rattle.bx_base.specs.declared.error.ReadError.{ReadError}
use Rattle.bx_base.specs.Reading.{AreZeros, Gives, IsBeforeZeros}
use Rattle.bx_base.proofs.Whole.{zeros_none, zeros_some}
use Rattle.bx_page.specs.Contents.{Contents}
use Rattle.bx_page.specs.Parts.{seen}
use Rattle.bx_page.specs.Reading.{contents_at}
use Rattle.bx_page.specs.Spelling.{Spells}
use Rattle.bx_page.specs.declared.reading.Parts.{Parts}
use Rattle.bx_page.proofs.Whole.{length-page_bytes, page_read, page_same, page_fit, not_none}
use Rattle.bx_page.proofs.page.Page.read.Goals as goal

-- parts that are read of a payload with only zeros behind them
abbrev Fills : List ℕ → Parts → Type 0
Fills payload parts = (rest : List ℕ) × (contents_at payload ≡ Some (seen parts, rest)) × AreZeros rest

filled : {X : Type 0} (payload : List ℕ) (view : X → Parts × List ℕ) (read : Result X ReadError) (result : Result (Option Parts) OutOfMemory) (found : Option Parts) (parts : Parts)
    → Gives (λ x. (seen (view x).0, (view x).1)) read (contents_at payload) → IsBeforeZeros view read result → result ≡ Ok found → found ≡ Some parts → Fills payload parts
filled {X} payload view read result found parts gives is was some =
    let met = zeros_some view seen (Fills payload) (contents_at payload) read result (λ parts' rest e zeros. (rest, e, zeros)) gives is in
    subst (λ it. IfSome it (Fills payload)) some (subst (λ r. IfOk r (λ it. IfSome it (Fills payload))) was met)

pub returns-then-payload-ne-SIZE-clause-none : goal.returns-then-payload-ne-SIZE-clause-none
returns-then-payload-ne-SIZE-clause-none c = λ page s. c.if-payload-ne-SIZE.true (ap length s.parts ∙ length-page_bytes page s.is.room)

pub returns-in_default-clause-none : goal.returns-in_default-clause-none
returns-in_default-clause-none c =
    let found = zeros_none (λ x. (x.0, x.1.now)) seen ((page : Contents) → Spells page c.args.payload.now → ⊥) (contents_at c.args.payload.now) c.parts_of.result c.before_zeros.result
    (λ e page s. not_none c.args.payload.now page e s) (λ parts rest e other page s. other (page_same c.args.payload.now rest (seen parts) page e s).1) c.parts_of.ensures c.before_zeros.ensures in
    subst (λ it. IfNone it ((page : Contents) → Spells page c.args.payload.now → ⊥)) c.in_default.is
    (subst (λ r. IfOk r (λ it. IfNone it ((page : Contents) → Spells page c.args.payload.now → ⊥))) c.in_ok-parts.was found)

pub returns-then-not-are_fit-clause-none : goal.returns-then-not-are_fit-clause-none
returns-then-not-are_fit-clause-none c = λ page s.
    let f = filled c.args.payload.now (λ x. (x.0, x.1.now)) c.parts_of.result c.before_zeros.result c.in_ok-parts.field-0 c.in-Some.parts c.parts_of.ensures c.before_zeros.ensures c.in_ok-parts.was c.in-Some.is in
    let same = page_same c.args.payload.now f.0 (seen c.in-Some.parts) page f.1 s in
    let apt = c.are_fit.ensures.1 (page_fit (seen c.in-Some.parts) page same.0 s.is) in
    let other = c.if-not-are_fit.true in
    absurd cc

pub invariant_of-result : goal.invariant_of-result
invariant_of-result c =
    let f = filled c.args.payload.now (λ x. (x.0, x.1.now)) c.parts_of.result c.before_zeros.result c.in_ok-parts.field-0 c.in-Some.parts c.parts_of.ensures c.before_zeros.ensures c.in_ok-parts.was c.in-Some.is in
    let apt = c.are_fit.ensures.0 c.if-not-are_fit.false in
    (page_read c.args.payload.now f.0 (seen c.in-Some.parts) (λ i. omega (arith, c.type_inv.payload i)) f.1 c.if-payload-ne-SIZE.false f.2 apt).is

pub returns-clause-some : goal.returns-clause-some
returns-clause-some c =
    let f = filled c.args.payload.now (λ x. (x.0, x.1.now)) c.parts_of.result c.before_zeros.result c.in_ok-parts.field-0 c.in-Some.parts c.parts_of.ensures c.before_zeros.ensures c.in_ok-parts.was c.in-Some.is in
    let apt = c.are_fit.ensures.0 c.if-not-are_fit.false in
    page_read c.args.payload.now f.0 (seen c.in-Some.parts) (λ i. omega (arith, c.type_inv.payload i)) f.1 c.if-payload-ne-SIZE.false f.2 apt
