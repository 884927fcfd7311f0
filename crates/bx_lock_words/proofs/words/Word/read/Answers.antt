use Rattle.std.proofs.Common.{arith, sym, subst, ◌∙◌}
use Rattle.bx_base.specs.Reading.{Fails}
use Rattle.bx_base.specs.declared.error.ReadError.{ReadError}
use Rattle.bx_lock_words.specs.Reading.{word_at}
use Rattle.bx_lock_words.proofs.Spelled.{empty_is, not_empty, reads_end, reads_none, reads_whole}
use Rattle.bx_lock_words.proofs.words.Word.read.Goals as goal

pub returns-in_default : goal.returns-in_default
returns-in_default c = reads_none c.args.kind c.args.body.now (subst (λ (e : ReadError). Fails e (word_at c.args.kind c.args.body.now)) c.in_default.ensures.cause c.in_default.ensures.value)

pub returns-then-not-is_empty : goal.returns-then-not-is_empty
returns-then-not-is_empty c = λ other is.
    not_empty c.in-Ok.rest.now (sym c.is_empty.ensures ∙ c.if-not-is_empty.true) (reads_end c.args.kind c.args.body.now c.in-Ok.rest.now c.in-Ok.word other c.in-Ok.ensures.value is)

pub returns : goal.returns
returns c =
    reads_whole c.args.kind c.args.body.now c.in-Ok.rest.now c.in-Ok.word (λ i. omega (arith, c.type_inv.body i)) c.in-Ok.ensures.value
    (empty_is c.in-Ok.rest.now (sym c.is_empty.ensures ∙ c.if-not-is_empty.false))
