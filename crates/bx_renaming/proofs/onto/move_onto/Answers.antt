use Rattle.std.proofs.Common.{ℕ, Option, None, inl, inr, subst}
use Rattle.std.specs.Prelude.{Ok}
use Rattle.std.proofs.lemmas.Result.{IfErr-weaker, IfOk-weaker}
use Rattle.bx_linking.specs.bx_entries.specs.declared.taking.Known.{Known}
use Rattle.bx_tree_files.specs.Names.{names_of}
use Rattle.bx_moving.proofs.Steps.{wider_by}
use Rattle.bx_renaming.specs.Found.{OtherFor}
use Rattle.bx_renaming.specs.Path.{OnOnto, OnTested}
use Rattle.bx_renaming.proofs.Comes.{itself_has, nobody_has, not_had, other_has}
use Rattle.bx_renaming.proofs.Rooms.{into}
use Rattle.bx_linking.proofs.Lacks.{first_if, full_if}
use Rattle.bx_renaming.proofs.Lacks.{another, nobody, one_file}
use Rattle.bx_linking.proofs.Comes.{stop_first}
use Rattle.bx_renaming.specs.Lacking.{MakesRoomFor}
use Rattle.bx_renaming.proofs.onto.move_onto.Goals as goal

pub returns-in-Err-clause-step : goal.returns-in-Err-clause-step
returns-in-Err-clause-step g c = λ volume truth tree are is.
    not_had tree are.source.file c.args.between.now.name.now are.target.file c.args.between.now.new_name.now is.at.file c.args.between.now.time c.args.areas truth c.in-Err.stop (c.in-Err.ensures.step volume truth tree (into volume c.args.areas (g.V.View.held c.args.view.now) (g.V.View.hints c.args.view.now) truth tree c.args.between.now.places.now are))

pub returns-in-Ok-None-clause-step : goal.returns-in-Ok-None-clause-step
returns-in-Ok-None-clause-step g c = λ volume truth tree are is.
    let none = subst (λ (o : Option (ℕ × Known)). OtherFor c.args.areas truth tree (names_of are.target.file.body) c.args.between.now.new_name.now (Ok o)) c.in-Ok-None.field-0-is (c.in-Ok-None.ensures.step volume truth tree (into volume c.args.areas (g.V.View.held c.args.view.now) (g.V.View.hints c.args.view.now) truth tree c.args.between.now.places.now are)) in
    nobody_has tree are.source.file c.args.between.now.name.now are.target.file c.args.between.now.new_name.now is.at.file c.args.between.now.time c.args.areas truth none c.move_free.result (c.move_free.ensures.step volume truth tree are is none)

pub returns-then-other-moved-clause-step : goal.returns-then-other-moved-clause-step
returns-then-other-moved-clause-step g c = λ volume truth tree are is.
    let had = subst (λ (o : Option (ℕ × Known)). OtherFor c.args.areas truth tree (names_of are.target.file.body) c.args.between.now.new_name.now (Ok o)) c.in-Ok-Some.field-0-is (c.in-Ok-Some.ensures.step volume truth tree (into volume c.args.areas (g.V.View.held c.args.view.now) (g.V.View.hints c.args.view.now) truth tree c.args.between.now.places.now are)) in
    itself_has tree are.source.file c.args.between.now.name.now are.target.file c.args.between.now.new_name.now is.at.file c.args.between.now.time c.args.areas truth c.in-Ok-Some.second c.in-Ok-Some.other had c.args.between.now.moved.now.handle is.at.handle_is c.if-other-moved.true volume are.stands c.new.result c.new.ensures

pub returns-else-other-moved-clause-step : goal.returns-else-other-moved-clause-step
returns-else-other-moved-clause-step g c = λ volume truth tree are is.
    let had = subst (λ (o : Option (ℕ × Known)). OtherFor c.args.areas truth tree (names_of are.target.file.body) c.args.between.now.new_name.now (Ok o)) c.in-Ok-Some.field-0-is (c.in-Ok-Some.ensures.step volume truth tree (into volume c.args.areas (g.V.View.held c.args.view.now) (g.V.View.hints c.args.view.now) truth tree c.args.between.now.places.now are)) in
    other_has tree are.source.file c.args.between.now.name.now are.target.file c.args.between.now.new_name.now is.at.file c.args.between.now.time c.args.areas truth c.in-Ok-Some.second c.in-Ok-Some.other had c.args.between.now.moved.now.handle is.at.handle_is c.if-other-moved.false c.move_over.result
    (c.move_over.ensures.step volume truth tree are is had c.if-other-moved.false)

pub returns-in-Ok-None-clause-lacks : goal.returns-in-Ok-None-clause-lacks
returns-in-Ok-None-clause-lacks g c = λ volume truth tree are is.
    let none = subst (λ (o : Option (ℕ × Known)). OtherFor c.args.areas truth tree (names_of are.target.file.body) c.args.between.now.new_name.now (Ok o)) c.in-Ok-None.field-0-is (c.in-Ok-None.ensures.step volume truth tree (into volume c.args.areas (g.V.View.held c.args.view.now) (g.V.View.hints c.args.view.now) truth tree c.args.between.now.places.now are)) in
    first_if (λ blocks made. (nobody (names_of are.source.file.body) (names_of are.target.file.body) c.args.between.now.name.now c.args.between.now.new_name.now none, made)) c.move_free.result (c.move_free.ensures.lacks volume truth tree are)

pub returns-else-other-moved-clause-lacks : goal.returns-else-other-moved-clause-lacks
returns-else-other-moved-clause-lacks g c = λ volume truth tree are is.
    let had = subst (λ (o : Option (ℕ × Known)). OtherFor c.args.areas truth tree (names_of are.target.file.body) c.args.between.now.new_name.now (Ok o)) c.in-Ok-Some.field-0-is (c.in-Ok-Some.ensures.step volume truth tree (into volume c.args.areas (g.V.View.held c.args.view.now) (g.V.View.hints c.args.view.now) truth tree c.args.between.now.places.now are)) in
    first_if
    (λ blocks made. (another c.args.areas truth tree (names_of are.source.file.body) (names_of are.target.file.body) c.args.between.now.name.now c.args.between.now.new_name.now c.args.between.now.number c.in-Ok-Some.second c.args.between.now.moved.now c.in-Ok-Some.other is had c.if-other-moved.false, made))
    c.move_over.result (c.move_over.ensures.lacks volume truth tree are)

pub returns-in-Err-clause-lacks : goal.returns-in-Err-clause-lacks
returns-in-Err-clause-lacks g c = λ volume truth tree are is.
    stop_first (Option (ℕ × Known)) (MakesRoomFor c.args.areas (g.V.View.held c.args.view.now) (g.V.View.hints c.args.view.now) truth c.args.between.now.places.now.target.inode.tree c.args.between.now.places.now.target.inode.next (names_of are.source.file.body) c.args.between.now.name.now (names_of are.target.file.body) c.args.between.now.new_name.now)
    c.in-Err.stop c.in-Err.ensures.inner

pub returns-in-Ok-None-clause-ready : goal.returns-in-Ok-None-clause-ready
returns-in-Ok-None-clause-ready g c = λ volume truth tree are is. IfOk-weaker c.move_free.result _ _ (λ made found two. found) (c.move_free.ensures.finds volume truth tree are)

pub returns-then-other-moved-clause-ready : goal.returns-then-other-moved-clause-ready
returns-then-other-moved-clause-ready g c = λ volume truth tree are is two.
    let had = subst (λ (o : Option (ℕ × Known)). OtherFor c.args.areas truth tree (names_of are.target.file.body) c.args.between.now.new_name.now (Ok o)) c.in-Ok-Some.field-0-is (c.in-Ok-Some.ensures.step volume truth tree (into volume c.args.areas (g.V.View.held c.args.view.now) (g.V.View.hints c.args.view.now) truth tree c.args.between.now.places.now are)) in
    absurd (one_file c.args.areas truth tree (names_of are.source.file.body) (names_of are.target.file.body) c.args.between.now.name.now c.args.between.now.new_name.now c.args.between.now.number c.in-Ok-Some.second c.args.between.now.moved.now c.in-Ok-Some.other is had c.if-other-moved.true two)

pub returns-else-other-moved-clause-ready : goal.returns-else-other-moved-clause-ready
returns-else-other-moved-clause-ready g c = λ volume truth tree are is. IfOk-weaker c.move_over.result _ _ (λ made found two. found) (c.move_over.ensures.finds volume truth tree are)

pub returns-in-Ok-None-clause-wanted : goal.returns-in-Ok-None-clause-wanted
returns-in-Ok-None-clause-wanted g c = λ volume truth tree are is.
    let none = subst (λ (o : Option (ℕ × Known)). OtherFor c.args.areas truth tree (names_of are.target.file.body) c.args.between.now.new_name.now (Ok o)) c.in-Ok-None.field-0-is (c.in-Ok-None.ensures.step volume truth tree (into volume c.args.areas (g.V.View.held c.args.view.now) (g.V.View.hints c.args.view.now) truth tree c.args.between.now.places.now are)) in
    full_if (λ spare no ready. no (ready (nobody (names_of are.source.file.body) (names_of are.target.file.body) c.args.between.now.name.now c.args.between.now.new_name.now none))) c.move_free.result (c.move_free.ensures.wanted volume truth tree are)

pub returns-else-other-moved-clause-wanted : goal.returns-else-other-moved-clause-wanted
returns-else-other-moved-clause-wanted g c = λ volume truth tree are is.
    let had = subst (λ (o : Option (ℕ × Known)). OtherFor c.args.areas truth tree (names_of are.target.file.body) c.args.between.now.new_name.now (Ok o)) c.in-Ok-Some.field-0-is (c.in-Ok-Some.ensures.step volume truth tree (into volume c.args.areas (g.V.View.held c.args.view.now) (g.V.View.hints c.args.view.now) truth tree c.args.between.now.places.now are)) in
    full_if
    (λ spare no ready. no (ready (another c.args.areas truth tree (names_of are.source.file.body) (names_of are.target.file.body) c.args.between.now.name.now c.args.between.now.new_name.now c.args.between.now.number c.in-Ok-Some.second c.args.between.now.moved.now c.in-Ok-Some.other is had c.if-other-moved.false)))
    c.move_over.result (c.move_over.ensures.wanted volume truth tree are)

pub returns-in-Ok-None-clause-need : goal.returns-in-Ok-None-clause-need
returns-in-Ok-None-clause-need g c =
    IfErr-weaker c.move_free.result _ _ (λ error n. wider_by c.args.areas (g.V.View.held c.args.view.now) (OnTested (g.V.View.held c.args.view.now) (g.V.View.hints c.args.view.now) c.args.areas c.args.between.now.places.now c.args.between.now.number c.args.between.now.moved.now c.args.between.now.name.now c.args.between.now.new_name.now None) (OnOnto (g.V.View.held c.args.view.now) (g.V.View.hints c.args.view.now) c.args.areas c.args.between.now.places.now c.args.between.now.number c.args.between.now.moved.now c.args.between.now.name.now c.args.between.now.new_name.now) (λ at mode on. inr (inl on)) error n) c.move_free.ensures.need
