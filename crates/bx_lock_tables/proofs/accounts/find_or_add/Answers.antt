use Rattle.std.proofs.Common.{List, sym, ap, ◌∙◌, slice_get, arith}
use Rattle.bx_lock_tables.specs.Accounts.{is_of, place}
use Rattle.bx_lock_tables.specs.declared.accounts.Account.{Account}
use Rattle.bx_lock_tables.proofs.Opening.{opens_new, opens_there, place_within}
use Rattle.bx_lock_tables.proofs.accounts.find_or_add.Goals as goal

pub returns-then-is_at-clause-opens : goal.returns-then-is_at-clause-opens
returns-then-is_at-clause-opens c =
    opens_there c.args.accounts.now.items c.args.session c.place_of-at.result
    (c.place_of-at.ensures ∙ ap (λ (xs : List Account). place xs c.args.session) c.deref.ensures.value)
    (ap (λ (xs : List Account). is_of (slice_get xs c.place_of-at.result) c.args.session) (sym c.deref-2.ensures.value) ∙ sym c.is_at.ensures ∙ c.if-is_at.true)

pub insert-requires : goal.insert-requires
insert-requires c =
    let is = c.place_of-at.ensures ∙ ap (λ (xs : List Account). place xs c.args.session) c.deref.ensures.value in
    omega (arith, is, place_within c.args.accounts.now.items c.args.session, c.args.accounts.now.ok)

pub returns-clause-within : goal.returns-clause-within
returns-clause-within c =
    let is = c.place_of-at.ensures ∙ ap (λ (xs : List Account). place xs c.args.session) c.deref.ensures.value in
    grind (arith, is, place_within c.args.accounts.now.items c.args.session, c.in_ok-insert.ensures.len)

pub returns-clause-opens : goal.returns-clause-opens
returns-clause-opens c =
    opens_new c.args.accounts.now.items c.insert.new.self.items c.args.session c.place_of-at.result
    (c.place_of-at.ensures ∙ ap (λ (xs : List Account). place xs c.args.session) c.deref.ensures.value)
    (ap (λ (xs : List Account). is_of (slice_get xs c.place_of-at.result) c.args.session) (sym c.deref-2.ensures.value) ∙ sym c.is_at.ensures ∙ c.if-is_at.false)
    (grind (arith, c.in_ok-insert.ensures.items))
