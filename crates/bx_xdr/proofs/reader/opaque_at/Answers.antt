use Rattle.std.proofs.Common.{Option, Some, None, arith, rules}
use Rattle.std.specs.Prelude.{IfNone}
use Rattle.std.proofs.lemmas.Option.{IfSome_then}
use Rattle.bx_xdr.proofs.Spelling.{joined, without_length, without_content}
use Rattle.bx_xdr.proofs.reader.opaque_at.Goals as goal

IfNone_then : {X : Type 0} (r : Option X) {P Q : Type 0} → IfNone r P → (P → Q) → IfNone r Q
IfNone_then None p f = f p
IfNone_then (Some x) p f = tt

pub returns-in_err-len-clause-none : goal.returns-in_err-len-clause-none
returns-in_err-len-clause-none c =
    rw c.from_residual.ensures (without_length c.args.max c.args.bytes.now c.in_err-len.ensures.none)

pub returns-clause-some : goal.returns-clause-some
returns-clause-some c =
    IfSome_then c.fixed_at.result c.fixed_at.ensures.some (λ found is. joined c.args.max c.in_ok-len.len found.0.now c.args.bytes.now c.in_ok-len.behind.now found.1.now (omega arith) c.in_ok-len.ensures.some is)

pub returns-clause-none : goal.returns-clause-none
returns-clause-none c =
    IfNone_then c.fixed_at.result c.fixed_at.ensures.none (without_content c.args.max c.in_ok-len.len c.args.bytes.now c.in_ok-len.behind.now c.in_ok-len.ensures.some)

pub returns-then-len-max-clause-none : goal.returns-then-len-max-clause-none
returns-then-len-max-clause-none c = search rules
