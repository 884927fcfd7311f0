use Rattle.std.proofs.Common.{◌≡◌, List, ℕ, arith, ap, ◌∙◌, Err, Ok, sym}
use Rattle.bx_tree_files.specs.declared.file.Body.TheVariants.{Path}
use Rattle.bx_tree_laws.proofs.Makings.{symlink_keeps}
use Rattle.bx_creating.specs.Inodes.{link_inode}
use Rattle.bx_creating.proofs.Created.{comes_so, last_link_is, last_symlink, makes, not_found, not_placed, placed_link, symlink_is}
use Rattle.bx_model.specs.Making.{symlink}
use Rattle.bx_entries.specs.Lacking.{MakesPlace}
use Rattle.bx_entries.proofs.Lacks.{enters, first_so, full_so}
use Rattle.bx_creating.proofs.First.{made_first, stop_comes}
use Rattle.bx_entries.specs.declared.taking.Known.{Known}
use Rattle.bx_creating.proofs.links.symlink.Goals as goal

pub returns-in-Err-clause-step : goal.returns-in-Err-clause-step
returns-in-Err-clause-step g c = λ truth tree same s fit.
    not_found c.args.volume c.args.areas (g.V.View.held c.args.view.now) (g.V.View.hints c.args.view.now) truth tree c.args.call.now c.args.at.now c.args.name.now s _
    (last_symlink tree c.args.call.now c.args.at.now c.args.name.now c.args.path.now c.args.sattr.now c.args.now)
    (symlink_is tree c.args.call.now c.args.at.now c.args.name.now c.args.path.now c.args.sattr.now c.args.now) c.in-Err.stop (c.in-Err.ensures.step truth tree same s fit)

pub returns-in-Err-place_new-clause-step : goal.returns-in-Err-place_new-clause-step
returns-in-Err-place_new-clause-step g c = λ truth tree same s fit.
    let f = c.in-Ok.ensures.step truth tree same s fit in
    not_placed c.args.volume c.args.areas (g.V.View.held c.args.view.now) (g.V.View.hints c.args.view.now) truth tree c.args.call.now c.args.at.now c.args.name.now s _
    (last_symlink tree c.args.call.now c.args.at.now c.args.name.now c.args.path.now c.args.sattr.now c.args.now)
    (symlink_is tree c.args.call.now c.args.at.now c.args.name.now c.args.path.now c.args.sattr.now c.args.now) c.in-Ok.directory f c.args.now (link_inode c.args.call.now c.args.sattr.now c.args.now c.args.path.now) (Path c.args.path.now)
    c.in-Err-place_new.error
    (placed_link tree c.args.call.now c.args.at.now c.args.name.now c.args.path.now c.args.sattr.now c.args.now c.args.areas truth c.in-Ok.directory.handle c.link_inode-inode.result (Err c.in-Err-place_new.error)
    (c.link_inode-inode.ensures.is ∙ ap (λ (p : List ℕ). link_inode c.args.call.now c.args.sattr.now c.args.now p) c.in-Ok-of.ensures) (λ body new. c.in-Err-place_new.ensures.step c.args.volume truth tree body f.place new))

pub returns-in-Ok-place_new-clause-step : goal.returns-in-Ok-place_new-clause-step
returns-in-Ok-place_new-clause-step g c = λ truth tree same s fit.
    let f = c.in-Ok.ensures.step truth tree same s fit in
    let parent = c.in-Ok.directory.handle in
    let p = placed_link tree c.args.call.now c.args.at.now c.args.name.now c.args.path.now c.args.sattr.now c.args.now c.args.areas truth parent c.link_inode-inode.result (Ok (c.in-Ok-place_new.draft, c.in-Ok-place_new.made))
    (c.link_inode-inode.ensures.is ∙ ap (λ (p : List ℕ). link_inode c.args.call.now c.args.sattr.now c.args.now p) c.in-Ok-of.ensures) (λ body new. c.in-Ok-place_new.ensures.step c.args.volume truth tree body f.place new) in
    makes c.args.volume c.args.areas (g.V.View.held c.args.view.now) (g.V.View.hints c.args.view.now) truth tree c.args.call.now c.args.at.now c.args.name.now s _
    (last_symlink tree c.args.call.now c.args.at.now c.args.name.now c.args.path.now c.args.sattr.now c.args.now)
    (symlink_is tree c.args.call.now c.args.at.now c.args.name.now c.args.path.now c.args.sattr.now c.args.now) c.in-Ok.directory f c.args.now (link_inode c.args.call.now c.args.sattr.now c.args.now c.args.path.now) (Path c.args.path.now)
    c.in-Ok-place_new.draft _ c.in-Ok-place_new.made p
    (last_link_is tree c.args.call.now c.args.at.now c.args.name.now c.args.path.now c.args.sattr.now c.args.now f.place.directory.at.file parent c.in-Ok-place_new.made f.place.directory.at.handle_is)
    (λ step e. symlink_keeps tree s.file_tree c.args.call.now c.args.name.now c.args.sattr.now c.args.now c.args.at.now c.args.path.now 8 step (let short = c.requires.path in omega (arith, short)) e)

pub returns-in-Ok-place_new-clause-hints : goal.returns-in-Ok-place_new-clause-hints
returns-in-Ok-place_new-clause-hints g c = λ other truth tree same s fit other_fit.
    let f = c.in-Ok.ensures.step truth tree same s fit in
    let p = placed_link tree c.args.call.now c.args.at.now c.args.name.now c.args.path.now c.args.sattr.now c.args.now c.args.areas truth c.in-Ok.directory.handle c.link_inode-inode.result (Ok (c.in-Ok-place_new.draft, c.in-Ok-place_new.made))
    (c.link_inode-inode.ensures.is ∙ ap (λ (p : List ℕ). link_inode c.args.call.now c.args.sattr.now c.args.now p) c.in-Ok-of.ensures) (λ body new. c.in-Ok-place_new.ensures.step c.args.volume truth tree body f.place new) in
    p.leads other other_fit

pub returns-in-Err-place_new-clause-lacks : goal.returns-in-Err-place_new-clause-lacks
returns-in-Err-place_new-clause-lacks g c = λ truth tree same s fit.
    let f = c.in-Ok.ensures.step truth tree same s fit in
    made_first (symlink tree c.args.call.now c.args.at.now c.args.name.now c.args.path.now c.args.sattr.now c.args.now 8) _
    (comes_so c.args.volume c.args.areas (g.V.View.held c.args.view.now) (g.V.View.hints c.args.view.now) truth tree c.args.call.now c.args.at.now c.args.name.now s _
    (last_symlink tree c.args.call.now c.args.at.now c.args.name.now c.args.path.now c.args.sattr.now c.args.now)
    (symlink_is tree c.args.call.now c.args.at.now c.args.name.now c.args.path.now c.args.sattr.now c.args.now) c.in-Ok.directory f)
    (MakesPlace c.args.volume c.args.areas (g.V.View.held c.args.view.now) (g.V.View.hints c.args.view.now) truth c.args.at.now c.args.name.now) c.in-Err-place_new.error
    (first_so (λ blocks made. record { handle = c.in-Ok.directory.handle; inode = c.in-Ok.directory.inode; is_named = c.in-Ok.ensures.live.is_named; holds = f.place.directory.at.holds; makes = made }) c.in-Err-place_new.error
    (c.in-Err-place_new.ensures.lacks c.args.volume truth tree f.place.directory))

pub returns-in-Err-clause-lacks : goal.returns-in-Err-clause-lacks
returns-in-Err-clause-lacks g c = λ truth tree same s fit.
    stop_comes Known (λ status. symlink tree c.args.call.now c.args.at.now c.args.name.now c.args.path.now c.args.sattr.now c.args.now 8 ≡ Err status) (MakesPlace c.args.volume c.args.areas (g.V.View.held c.args.view.now) (g.V.View.hints c.args.view.now) truth c.args.at.now c.args.name.now) c.in-Err.stop c.in-Err.ensures.inner

pub returns-in-Ok-place_new-clause-ready : goal.returns-in-Ok-place_new-clause-ready
returns-in-Ok-place_new-clause-ready g c = λ truth tree same s fit.
    let f = c.in-Ok.ensures.step truth tree same s fit in
    enters c.args.volume c.args.areas truth c.args.at.now c.args.name.now c.in-Ok.directory.handle c.in-Ok.directory.inode (sym c.in-Ok.ensures.live.is_named) f.place.directory.at.holds (c.in-Ok-place_new.ensures.finds c.args.volume truth tree f.place.directory)

pub returns-in-Err-place_new-clause-full : goal.returns-in-Err-place_new-clause-full
returns-in-Err-place_new-clause-full g c = full_so (λ spare none. record { handle = c.in-Ok.directory.handle; is_named = c.in-Ok.ensures.live.is_named; none = none }) c.in-Err-place_new.error c.in-Err-place_new.ensures.full

pub returns-in-Ok-place_new-clause-near : goal.returns-in-Ok-place_new-clause-near
returns-in-Ok-place_new-clause-near g c = record { handle = c.in-Ok.directory.handle; is_named = c.in-Ok.ensures.live.is_named; first = c.in-Ok-place_new.ensures.near }
