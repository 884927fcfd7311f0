use Rattle.std.proofs.Common.{◌≡◌, Bool, true, false, length, ap, ◌∙◌, arith}
use Rattle.std.specs.Prelude.{IsTrue}
use Rattle.std.specs.Option.{option_copied}
use Rattle.bx_page.proofs.Whole.{length-page_bytes}
use Rattle.bx_page_bytes.proofs.Whole.{HasHead, of_malformed, no_numbers, no_high, stands, are_there, leaves, refused, not_zeros, rest-le}
use Rattle.bx_page_bytes.proofs.page.PageBytes.read.Goals as goal

no_zeros : (b : Bool) → IsTrue b → b ≡ false → ⊥
no_zeros true h e = absurd cc
no_zeros false h e = absurd cc

pub returns-then-payload-ne-SIZE-clause-none : goal.returns-then-payload-ne-SIZE-clause-none
returns-then-payload-ne-SIZE-clause-none c = λ page spells. c.if-payload-ne-SIZE.true (ap length spells.parts ∙ length-page_bytes page spells.is.room)

pub returns-in_default-clause-none : goal.returns-in_default-clause-none
returns-in_default-clause-none c = λ page spells. no_numbers c.args.payload.now page (of_malformed c.in_default.field-0 _ c.in_default.ensures.value c.in_default.ensures.cause) spells

pub returns-in_default-high_part-clause-none : goal.returns-in_default-high_part-clause-none
returns-in_default-high_part-clause-none c = λ page spells.
    no_high c.args.payload.now c.in-Ok.rest.now (c.in-Ok.level, c.in-Ok.count, c.in-Ok.right) page c.in-Ok.ensures.value (of_malformed c.in_default-high_part.field-0 _ c.in_default-high_part.ensures.value c.in_default-high_part.ensures.cause) spells

pub returns-in_err-rest-clause-none : goal.returns-in_err-rest-clause-none
returns-in_err-rest-clause-none c =
    let head : HasHead c.args.payload.now c.in-Ok.level c.in-Ok.count c.in-Ok.right (option_copied c.in-Ok-high_part.high) c.in-Ok-high_part.entries.now = record { middle = c.in-Ok.rest.now; numbers = c.in-Ok.ensures.value; high_key = c.in-Ok-high_part.ensures.value } in
    rw c.from_residual.ensures (λ page spells. refused c.args.payload.now c.in-Ok.level c.in-Ok.count c.in-Ok.right (option_copied c.in-Ok-high_part.high) c.in-Ok-high_part.entries.now head page c.in_err-rest.ensures spells)

pub returns-then-not-are_zeros-clause-none : goal.returns-then-not-are_zeros-clause-none
returns-then-not-are_zeros-clause-none c = λ page spells.
    let head : HasHead c.args.payload.now c.in-Ok.level c.in-Ok.count c.in-Ok.right (option_copied c.in-Ok-high_part.high) c.in-Ok-high_part.entries.now = record { middle = c.in-Ok.rest.now; numbers = c.in-Ok.ensures.value; high_key = c.in-Ok-high_part.ensures.value } in
    not_zeros c.args.payload.now c.in-Ok.level c.in-Ok.count c.in-Ok.right (option_copied c.in-Ok-high_part.high) c.in-Ok-high_part.entries.now head c.in_ok-rest.rest.now page c.in_ok-rest.ensures (λ zeros. no_zeros _ (c.are_zeros.ensures.1 zeros) c.if-not-are_zeros.true) spells

pub are_zeros-requires : goal.are_zeros-requires
are_zeros-requires c =
    let head : HasHead c.args.payload.now c.in-Ok.level c.in-Ok.count c.in-Ok.right (option_copied c.in-Ok-high_part.high) c.in-Ok-high_part.entries.now = record { middle = c.in-Ok.rest.now; numbers = c.in-Ok.ensures.value; high_key = c.in-Ok-high_part.ensures.value } in
    rest-le c.args.payload.now c.in-Ok.level c.in-Ok.count c.in-Ok.right (option_copied c.in-Ok-high_part.high) c.in-Ok-high_part.entries.now head c.in_ok-rest.rest.now (λ i. omega (arith, c.type_inv.payload i)) c.if-payload-ne-SIZE.false c.in_ok-rest.ensures

pub invariant_of-result : goal.invariant_of-result
invariant_of-result c =
    let head : HasHead c.args.payload.now c.in-Ok.level c.in-Ok.count c.in-Ok.right (option_copied c.in-Ok-high_part.high) c.in-Ok-high_part.entries.now = record { middle = c.in-Ok.rest.now; numbers = c.in-Ok.ensures.value; high_key = c.in-Ok-high_part.ensures.value } in
    let spells = stands c.args.payload.now c.in-Ok.level c.in-Ok.count c.in-Ok.right (option_copied c.in-Ok-high_part.high) c.in-Ok-high_part.entries.now head c.in_ok-rest.rest.now (λ i. omega (arith, c.type_inv.payload i)) c.if-payload-ne-SIZE.false c.in_ok-rest.ensures (c.are_zeros.ensures.0 c.if-not-are_zeros.false) in
    record {
      spells = spells;
      there = are_there c.args.payload.now c.in-Ok.level c.in-Ok.count c.in-Ok.right (option_copied c.in-Ok-high_part.high) c.in-Ok-high_part.entries.now head c.in_ok-rest.rest.now c.in_ok-rest.ensures;
      room = leaves c.args.payload.now c.in-Ok.level c.in-Ok.count c.in-Ok.right (option_copied c.in-Ok-high_part.high) c.in-Ok-high_part.entries.now head c.in_ok-rest.rest.now c.in_ok-rest.ensures spells;
    }

pub returns-clause-some : goal.returns-clause-some
returns-clause-some c =
    let head : HasHead c.args.payload.now c.in-Ok.level c.in-Ok.count c.in-Ok.right (option_copied c.in-Ok-high_part.high) c.in-Ok-high_part.entries.now = record { middle = c.in-Ok.rest.now; numbers = c.in-Ok.ensures.value; high_key = c.in-Ok-high_part.ensures.value } in
    stands c.args.payload.now c.in-Ok.level c.in-Ok.count c.in-Ok.right (option_copied c.in-Ok-high_part.high) c.in-Ok-high_part.entries.now head c.in_ok-rest.rest.now (λ i. omega (arith, c.type_inv.payload i)) c.if-payload-ne-SIZE.false c.in_ok-rest.ensures (c.are_zeros.ensures.0 c.if-not-are_zeros.false)
