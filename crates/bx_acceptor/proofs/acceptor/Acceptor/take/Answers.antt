use Rattle.std.proofs.Common.{◌≡◌, Some, length, refl, subst, sym, ◌∙◌, inl}
use Rattle.std.proofs.lemmas.Result.{IfOk-from_err}
use Rattle.bx_calls.specs.Calls.{LeavesOnly}
use Rattle.bx_cell.specs.Cells.{HasEither, next}
use Rattle.bx_cell.specs.Images.{EachSure}
use Rattle.bx_global.specs.Bytes.{held_text}
use Rattle.bx_acceptor.specs.Disks.{Writes}
use Rattle.bx_acceptor.specs.Standing.{IsAcceptorView, AcceptorView}
use Rattle.bx_acceptor.proofs.Kept.{held_by, stored_before, stored_so, unmoved_either, with_cell, writes_nothing}
use Rattle.bx_acceptor.proofs.Taking.{answered, became, brought_here, brought_is, cell_after, changes_not, became_so, no_cell, stands_with, takes_here, took_so, unmoved, untaken}
use Rattle.bx_acceptor.proofs.acceptor.Acceptor.take.Goals as goal

pub returns-in_err-from-clause-any_moment : goal.returns-in_err-from-clause-any_moment
returns-in_err-from-clause-any_moment g c =
    unmoved (g.R.Rack.tells c.args.rack.now) _ c.args.self.now (g.R.Rack.state c.args.rack.now) (g.R.Rack.moment c.args.rack.now) (g.R.Rack.left_since c.args.rack.now) (held_text c.args.self.now.held) c.self.view_is c.self.invariant
    (λ tells image left. g.met.R.Rack.only_now c.args.rack.now image tells left)

pub returns-in_default-clause-any_moment : goal.returns-in_default-clause-any_moment
returns-in_default-clause-any_moment g c =
    unmoved (g.R.Rack.tells c.args.rack.now) _ c.args.self.now (g.R.Rack.state c.args.rack.now) (g.R.Rack.moment c.args.rack.now) (g.R.Rack.left_since c.args.rack.now) (held_text c.args.self.now.held) c.self.view_is c.self.invariant
    (λ tells image left. g.met.R.Rack.only_now c.args.rack.now image tells left)

pub invariant_of-self-in_err-serve : goal.invariant_of-self-in_err-serve
invariant_of-self-in_err-serve g c =
    let found = rw c.in-Some.is at c.in_ok-from.ensures.some in
    let count = length c.self.inside.first.devices in
    let is = brought_is count c.len-devices.result c.args.input.now c.in-Some.message c.in-Some.from c.len-devices.ensures found.0 in
    stands_with _ c.serve.new.held c.take.new.self c.self.invariant (c.in_err-serve.ensures.held count c.self.invariant.held is) (no_cell _ _ _ _ _ c.take.ensures.after)

pub returns-in_err-serve-clause-standing : goal.returns-in_err-serve-clause-standing
returns-in_err-serve-clause-standing g c =
    let found = rw c.in-Some.is at c.in_ok-from.ensures.some in
    let count = length c.self.inside.first.devices in
    let is = brought_is count c.len-devices.result c.args.input.now c.in-Some.message c.in-Some.from c.len-devices.ensures found.0 in
    stands_with _ c.serve.new.held c.take.new.self c.self.invariant (c.in_err-serve.ensures.held count c.self.invariant.held is) (no_cell _ _ _ _ _ c.take.ensures.after)

pub invariant_of-self-2 : goal.invariant_of-self-2
invariant_of-self-2 g c =
    let found = rw c.in-Some.is at c.in_ok-from.ensures.some in
    let count = length c.self.inside.first.devices in
    let is = brought_is count c.len-devices.result c.args.input.now c.in-Some.message c.in-Some.from c.len-devices.ensures found.0 in
    stands_with _ c.serve.new.held (Some c.serve.new.cell) c.self.invariant (c.in_ok-serve.ensures.held count c.self.invariant.held is) (cell_after _ _ _ c.self.inside.held c.serve.new.held c.self.inside.cell c.in-Some-take.cell c.serve.new.cell _ (c.in_ok-serve.ensures.held count c.self.invariant.held is) c.self.invariant.cell (sym c.in-Some-take.ensures.value) c.in_ok-serve.ensures.stored)

pub returns-clause-standing : goal.returns-clause-standing
returns-clause-standing g c =
    let found = rw c.in-Some.is at c.in_ok-from.ensures.some in
    let count = length c.self.inside.first.devices in
    let is = brought_is count c.len-devices.result c.args.input.now c.in-Some.message c.in-Some.from c.len-devices.ensures found.0 in
    stands_with _ c.serve.new.held (Some c.serve.new.cell) c.self.invariant (c.in_ok-serve.ensures.held count c.self.invariant.held is) (cell_after _ _ _ c.self.inside.held c.serve.new.held c.self.inside.cell c.in-Some-take.cell c.serve.new.cell _ (c.in_ok-serve.ensures.held count c.self.invariant.held is) c.self.invariant.cell (sym c.in-Some-take.ensures.value) c.in_ok-serve.ensures.stored)

pub returns-in_err-serve-clause-becomes : goal.returns-in_err-serve-clause-becomes
returns-in_err-serve-clause-becomes g c = λ message from brings.
    let found = rw c.in-Some.is at c.in_ok-from.ensures.some in
    became _ c.args.self.now c.len-devices.result c.args.input.now c.serve.new.held _ message _ from c.self.view_is c.len-devices.ensures found.0 brings c.in_err-serve.ensures.becomes

pub returns-clause-answers : goal.returns-clause-answers
returns-clause-answers g c = λ message from brings takes.
    let found = rw c.in-Some.is at c.in_ok-from.ensures.some in
    answered _ c.args.self.now c.len-devices.result c.args.input.now c.serve.new.held _ message _ from c.args.out.now c.serve.new.out c.self.view_is c.len-devices.ensures found.0 brings c.in_ok-serve.ensures.answers

pub returns-clause-becomes : goal.returns-clause-becomes
returns-clause-becomes g c = λ message from brings.
    let found = rw c.in-Some.is at c.in_ok-from.ensures.some in
    became _ c.args.self.now c.len-devices.result c.args.input.now c.serve.new.held _ message _ from c.self.view_is c.len-devices.ensures found.0 brings c.in_ok-serve.ensures.becomes

pub returns-in_err-serve-clause-spare : goal.returns-in_err-serve-clause-spare
returns-in_err-serve-clause-spare g c = λ message from brings spare.
    let found = rw c.in-Some.is at c.in_ok-from.ensures.some in
    c.in_err-serve.ensures.spare (changes_not _ c.args.self.now c.len-devices.result c.args.input.now _ message _ from c.self.view_is c.len-devices.ensures found.0 brings spare)

pub returns-clause-spare : goal.returns-clause-spare
returns-clause-spare g c = λ message from brings spare.
    let found = rw c.in-Some.is at c.in_ok-from.ensures.some in
    c.in_ok-serve.ensures.spare (changes_not _ c.args.self.now c.len-devices.result c.args.input.now _ message _ from c.self.view_is c.len-devices.ensures found.0 brings spare)

pub returns-in_err-serve-clause-ignores : goal.returns-in_err-serve-clause-ignores
returns-in_err-serve-clause-ignores g c = λ none.
    let found = rw c.in-Some.is at c.in_ok-from.ensures.some in
    absurd (none c.in-Some.message c.in-Some.from (brought_here _ c.args.self.now c.len-devices.result c.args.input.now c.in-Some.message c.in-Some.from c.self.view_is c.len-devices.ensures found.0) (takes_here _ c.args.self.now c.in-Some.message c.self.view_is found.1))

pub returns-clause-ignores : goal.returns-clause-ignores
returns-clause-ignores g c = λ none.
    let found = rw c.in-Some.is at c.in_ok-from.ensures.some in
    absurd (none c.in-Some.message c.in-Some.from (brought_here _ c.args.self.now c.len-devices.result c.args.input.now c.in-Some.message c.in-Some.from c.self.view_is c.len-devices.ensures found.0) (takes_here _ c.args.self.now c.in-Some.message c.self.view_is found.1))

pub returns-clause-took : goal.returns-clause-took
returns-clause-took g c =
    let found = rw c.in-Some.is at c.in_ok-from.ensures.some in
    took_so _ c.args.self.now c.len-devices.result c.args.input.now c.serve.new.held c.in-Some.message c.in-Some.from c.args.out.now c.serve.new.out _ _ c.self.view_is c.len-devices.ensures found.0 found.1 c.in_ok-serve.ensures.answers

pub returns-clause-became : goal.returns-clause-became
returns-clause-became g c =
    let found = rw c.in-Some.is at c.in_ok-from.ensures.some in
    became_so _ c.args.self.now c.len-devices.result c.args.input.now c.serve.new.held c.in-Some.message c.in-Some.from c.self.view_is c.len-devices.ensures found.0 c.in_ok-serve.ensures.becomes

pub returns-in_err-serve-clause-became : goal.returns-in_err-serve-clause-became
returns-in_err-serve-clause-became g c =
    let found = rw c.in-Some.is at c.in_ok-from.ensures.some in
    became_so _ c.args.self.now c.len-devices.result c.args.input.now c.serve.new.held c.in-Some.message c.in-Some.from c.self.view_is c.len-devices.ensures found.0 c.in_err-serve.ensures.becomes

pub returns-in_err-from-clause-ignores : goal.returns-in_err-from-clause-ignores
returns-in_err-from-clause-ignores g c =
    λ none. (refl, refl, refl)

pub returns-in_err-from-clause-took : goal.returns-in_err-from-clause-took
returns-in_err-from-clause-took g c =
    IfOk-from_err c.from_residual.result _ c.from_residual.ensures.0

pub returns-in_err-from-clause-became : goal.returns-in_err-from-clause-became
returns-in_err-from-clause-became g c =
    inl refl

pub returns-in_err-from-clause-becomes : goal.returns-in_err-from-clause-becomes
returns-in_err-from-clause-becomes g c =
    λ message from brings. inl refl

pub returns-in_err-from-clause-stored : goal.returns-in_err-from-clause-stored
returns-in_err-from-clause-stored g c =
    IfOk-from_err c.from_residual.result _ c.from_residual.ensures.0

pub returns-in_err-from-clause-spare : goal.returns-in_err-from-clause-spare
returns-in_err-from-clause-spare g c =
    λ message from brings none. refl

pub returns-in_err-from-clause-answers : goal.returns-in_err-from-clause-answers
returns-in_err-from-clause-answers g c =
    λ message from brings takes. IfOk-from_err c.from_residual.result _ c.from_residual.ensures.0

pub returns-in_err-from-clause-standing : goal.returns-in_err-from-clause-standing
returns-in_err-from-clause-standing g c =
    subst IsAcceptorView c.self.view_is c.self.invariant

pub returns-in_err-from-clause-holds : goal.returns-in_err-from-clause-holds
returns-in_err-from-clause-holds g c =
    λ tells each. IfOk-from_err c.from_residual.result _ c.from_residual.ensures.0

pub returns-in_err-from-clause-either : goal.returns-in_err-from-clause-either
returns-in_err-from-clause-either g c =
    unmoved_either (g.R.Rack.tells c.args.rack.now) _ c.args.self.now (g.R.Rack.state c.args.rack.now) (held_text c.args.self.now.held) c.self.view_is c.self.invariant

pub returns-in_err-from-clause-disks : goal.returns-in_err-from-clause-disks
returns-in_err-from-clause-disks g c =
    λ tells. writes_nothing (g.R.Rack.state c.args.rack.now) (g.R.Rack.moment c.args.rack.now) (g.R.Rack.left_since c.args.rack.now) c.args.self.now.replica (λ image left. g.met.R.Rack.only_now c.args.rack.now image tells left)

pub returns-in_default-clause-ignores : goal.returns-in_default-clause-ignores
returns-in_default-clause-ignores g c =
    λ none. (refl, refl, refl)

pub returns-in_default-clause-took : goal.returns-in_default-clause-took
returns-in_default-clause-took g c =
    inl (refl, refl, refl)

pub returns-in_default-clause-became : goal.returns-in_default-clause-became
returns-in_default-clause-became g c =
    inl refl

pub returns-in_default-clause-becomes : goal.returns-in_default-clause-becomes
returns-in_default-clause-becomes g c =
    λ message from brings. inl refl

pub returns-in_default-clause-stored : goal.returns-in_default-clause-stored
returns-in_default-clause-stored g c =
    stored_before c.args.self.now (c.args.rack.now ≡ c.args.rack.now) refl

pub returns-in_default-clause-spare : goal.returns-in_default-clause-spare
returns-in_default-clause-spare g c =
    λ message from brings none. refl

pub returns-in_default-clause-standing : goal.returns-in_default-clause-standing
returns-in_default-clause-standing g c =
    subst IsAcceptorView c.self.view_is c.self.invariant

pub returns-in_default-clause-holds : goal.returns-in_default-clause-holds
returns-in_default-clause-holds g c =
    λ tells each. each

pub returns-in_default-clause-either : goal.returns-in_default-clause-either
returns-in_default-clause-either g c =
    unmoved_either (g.R.Rack.tells c.args.rack.now) _ c.args.self.now (g.R.Rack.state c.args.rack.now) (held_text c.args.self.now.held) c.self.view_is c.self.invariant

pub returns-in_default-clause-disks : goal.returns-in_default-clause-disks
returns-in_default-clause-disks g c =
    λ tells. writes_nothing (g.R.Rack.state c.args.rack.now) (g.R.Rack.moment c.args.rack.now) (g.R.Rack.left_since c.args.rack.now) c.args.self.now.replica (λ image left. g.met.R.Rack.only_now c.args.rack.now image tells left)

pub returns-in_err-serve-clause-took : goal.returns-in_err-serve-clause-took
returns-in_err-serve-clause-took g c =
    IfOk-from_err c.from_residual-in_err-serve.result _ c.from_residual-in_err-serve.ensures.0

pub returns-in_err-serve-clause-stored : goal.returns-in_err-serve-clause-stored
returns-in_err-serve-clause-stored g c =
    IfOk-from_err c.from_residual-in_err-serve.result _ c.from_residual-in_err-serve.ensures.0

pub returns-in_err-serve-clause-answers : goal.returns-in_err-serve-clause-answers
returns-in_err-serve-clause-answers g c =
    λ message from brings takes. IfOk-from_err c.from_residual-in_err-serve.result _ c.from_residual-in_err-serve.ensures.0

pub returns-in_err-serve-clause-holds : goal.returns-in_err-serve-clause-holds
returns-in_err-serve-clause-holds g c =
    λ tells each. IfOk-from_err c.from_residual-in_err-serve.result _ c.from_residual-in_err-serve.ensures.0

pub returns-in_err-serve-clause-any_moment : goal.returns-in_err-serve-clause-any_moment
returns-in_err-serve-clause-any_moment g c =
    with_cell (g.R.Rack.tells c.args.rack.now) _ c.args.self.now c.in-Some-take.cell (g.R.Rack.state c.args.rack.now) (λ replica cell. LeavesOnly (g.R.Rack.moment c.args.rack.now) (g.R.Rack.moment c.serve.new.rack) (g.R.Rack.left_since c.args.rack.now) (g.R.Rack.left_since c.serve.new.rack) (HasEither (g.R.Rack.state c.args.rack.now) replica 1 cell.found (next cell.found (held_text c.serve.new.held)))) c.self.view_is (sym c.in-Some-take.ensures.value) c.in_err-serve.ensures.any_moment

pub returns-in_err-serve-clause-either : goal.returns-in_err-serve-clause-either
returns-in_err-serve-clause-either g c =
    with_cell (g.R.Rack.tells c.args.rack.now) _ c.args.self.now c.in-Some-take.cell (g.R.Rack.state c.args.rack.now) (λ replica cell. EachSure (g.R.Rack.state c.serve.new.rack) (HasEither (g.R.Rack.state c.args.rack.now) replica 1 cell.found (next cell.found (held_text c.serve.new.held)))) c.self.view_is (sym c.in-Some-take.ensures.value) c.in_err-serve.ensures.either

pub returns-in_err-serve-clause-disks : goal.returns-in_err-serve-clause-disks
returns-in_err-serve-clause-disks g c =
    λ tells. subst (λ (a : AcceptorView). Writes (g.R.Rack.state c.args.rack.now) (g.R.Rack.state c.serve.new.rack) (g.R.Rack.moment c.args.rack.now) (g.R.Rack.moment c.serve.new.rack) (g.R.Rack.left_since c.args.rack.now) (g.R.Rack.left_since c.serve.new.rack) a.replica) c.self.view_is (c.in_err-serve.ensures.disks tells)

pub returns-clause-stored : goal.returns-clause-stored
returns-clause-stored g c =
    stored_so _ c.args.self.now c.in-Some-take.cell c.serve.new.cell c.serve.new.held (held_text c.serve.new.held) _ c.self.view_is (sym c.in-Some-take.ensures.value) c.in_ok-serve.ensures.stored

pub returns-clause-holds : goal.returns-clause-holds
returns-clause-holds g c =
    λ tells. held_by _ _ c.args.self.now c.in-Some-take.cell (g.R.Rack.state c.args.rack.now) c.self.view_is (sym c.in-Some-take.ensures.value) (c.in_ok-serve.ensures.holds tells)

pub returns-clause-any_moment : goal.returns-clause-any_moment
returns-clause-any_moment g c =
    with_cell (g.R.Rack.tells c.args.rack.now) _ c.args.self.now c.in-Some-take.cell (g.R.Rack.state c.args.rack.now) (λ replica cell. LeavesOnly (g.R.Rack.moment c.args.rack.now) (g.R.Rack.moment c.serve.new.rack) (g.R.Rack.left_since c.args.rack.now) (g.R.Rack.left_since c.serve.new.rack) (HasEither (g.R.Rack.state c.args.rack.now) replica 1 cell.found (next cell.found (held_text c.serve.new.held)))) c.self.view_is (sym c.in-Some-take.ensures.value) c.in_ok-serve.ensures.any_moment

pub returns-clause-either : goal.returns-clause-either
returns-clause-either g c =
    with_cell (g.R.Rack.tells c.args.rack.now) _ c.args.self.now c.in-Some-take.cell (g.R.Rack.state c.args.rack.now) (λ replica cell. EachSure (g.R.Rack.state c.serve.new.rack) (HasEither (g.R.Rack.state c.args.rack.now) replica 1 cell.found (next cell.found (held_text c.serve.new.held)))) c.self.view_is (sym c.in-Some-take.ensures.value) c.in_ok-serve.ensures.either

pub returns-clause-disks : goal.returns-clause-disks
returns-clause-disks g c =
    λ tells. subst (λ (a : AcceptorView). Writes (g.R.Rack.state c.args.rack.now) (g.R.Rack.state c.serve.new.rack) (g.R.Rack.moment c.args.rack.now) (g.R.Rack.moment c.serve.new.rack) (g.R.Rack.left_since c.args.rack.now) (g.R.Rack.left_since c.serve.new.rack) a.replica) c.self.view_is (c.in_ok-serve.ensures.disks tells)

pub invariant_of-self : goal.invariant_of-self
invariant_of-self g c =
    let found = rw c.in-Some.is at c.in_ok-from.ensures.some in
    absurd (untaken c.self.inside.cell c.in-Some.message (sym c.take.ensures.value ∙ c.in_default-take.is) found.1)

pub returns-in_default-take-clause-answers : goal.returns-in_default-take-clause-answers
returns-in_default-take-clause-answers g c =
    let found = rw c.in-Some.is at c.in_ok-from.ensures.some in
    absurd (untaken c.self.inside.cell c.in-Some.message (sym c.take.ensures.value ∙ c.in_default-take.is) found.1)

pub returns-in_default-take-clause-ignores : goal.returns-in_default-take-clause-ignores
returns-in_default-take-clause-ignores g c =
    let found = rw c.in-Some.is at c.in_ok-from.ensures.some in
    absurd (untaken c.self.inside.cell c.in-Some.message (sym c.take.ensures.value ∙ c.in_default-take.is) found.1)

pub returns-in_default-take-clause-took : goal.returns-in_default-take-clause-took
returns-in_default-take-clause-took g c =
    let found = rw c.in-Some.is at c.in_ok-from.ensures.some in
    absurd (untaken c.self.inside.cell c.in-Some.message (sym c.take.ensures.value ∙ c.in_default-take.is) found.1)

pub returns-in_default-take-clause-became : goal.returns-in_default-take-clause-became
returns-in_default-take-clause-became g c =
    let found = rw c.in-Some.is at c.in_ok-from.ensures.some in
    absurd (untaken c.self.inside.cell c.in-Some.message (sym c.take.ensures.value ∙ c.in_default-take.is) found.1)

pub returns-in_default-take-clause-becomes : goal.returns-in_default-take-clause-becomes
returns-in_default-take-clause-becomes g c =
    let found = rw c.in-Some.is at c.in_ok-from.ensures.some in
    absurd (untaken c.self.inside.cell c.in-Some.message (sym c.take.ensures.value ∙ c.in_default-take.is) found.1)

pub returns-in_default-take-clause-stored : goal.returns-in_default-take-clause-stored
returns-in_default-take-clause-stored g c =
    let found = rw c.in-Some.is at c.in_ok-from.ensures.some in
    absurd (untaken c.self.inside.cell c.in-Some.message (sym c.take.ensures.value ∙ c.in_default-take.is) found.1)

pub returns-in_default-take-clause-spare : goal.returns-in_default-take-clause-spare
returns-in_default-take-clause-spare g c =
    let found = rw c.in-Some.is at c.in_ok-from.ensures.some in
    absurd (untaken c.self.inside.cell c.in-Some.message (sym c.take.ensures.value ∙ c.in_default-take.is) found.1)

pub returns-in_default-take-clause-standing : goal.returns-in_default-take-clause-standing
returns-in_default-take-clause-standing g c =
    let found = rw c.in-Some.is at c.in_ok-from.ensures.some in
    absurd (untaken c.self.inside.cell c.in-Some.message (sym c.take.ensures.value ∙ c.in_default-take.is) found.1)

pub returns-in_default-take-clause-holds : goal.returns-in_default-take-clause-holds
returns-in_default-take-clause-holds g c =
    let found = rw c.in-Some.is at c.in_ok-from.ensures.some in
    absurd (untaken c.self.inside.cell c.in-Some.message (sym c.take.ensures.value ∙ c.in_default-take.is) found.1)

pub returns-in_default-take-clause-any_moment : goal.returns-in_default-take-clause-any_moment
returns-in_default-take-clause-any_moment g c =
    let found = rw c.in-Some.is at c.in_ok-from.ensures.some in
    absurd (untaken c.self.inside.cell c.in-Some.message (sym c.take.ensures.value ∙ c.in_default-take.is) found.1)

pub returns-in_default-take-clause-either : goal.returns-in_default-take-clause-either
returns-in_default-take-clause-either g c =
    let found = rw c.in-Some.is at c.in_ok-from.ensures.some in
    absurd (untaken c.self.inside.cell c.in-Some.message (sym c.take.ensures.value ∙ c.in_default-take.is) found.1)

pub returns-in_default-take-clause-disks : goal.returns-in_default-take-clause-disks
returns-in_default-take-clause-disks g c =
    let found = rw c.in-Some.is at c.in_ok-from.ensures.some in
    absurd (untaken c.self.inside.cell c.in-Some.message (sym c.take.ensures.value ∙ c.in_default-take.is) found.1)

pub returns-in_default-take-clause-stays : goal.returns-in_default-take-clause-stays
returns-in_default-take-clause-stays g c =
    let found = rw c.in-Some.is at c.in_ok-from.ensures.some in
    absurd (untaken c.self.inside.cell c.in-Some.message (sym c.take.ensures.value ∙ c.in_default-take.is) found.1)

pub returns-in_default-take-clause-rack : goal.returns-in_default-take-clause-rack
returns-in_default-take-clause-rack g c =
    let found = rw c.in-Some.is at c.in_ok-from.ensures.some in
    absurd (untaken c.self.inside.cell c.in-Some.message (sym c.take.ensures.value ∙ c.in_default-take.is) found.1)
