use Rattle.std.proofs.Common.{◌≡◌, ◌∙◌, ◌/◌, ℕ, List, ap, subst}
use Rattle.std.specs.Prelude.{min}
use Rattle.bx_inodes.specs.Writing.{PutsInode}
use Rattle.bx_records.specs.Drafts.{Changed}
use Rattle.bx_truth.specs.PageTrees.{map_of}
use Rattle.bx_sizes.specs.Clearing.{HasNone, IsLastPiece, end_cut}
use Rattle.bx_sizes.proofs.Cleared.{clears_lower, none_leaves, none_lowers, pages_under, piece_clears}
use Rattle.bx_sizes.proofs.Stops.{search_stops}
use Rattle.bx_sizes.proofs.clearing.clear.Goals as goal

pub returns-in-Err-clause-tree : goal.returns-in-Err-clause-tree
returns-in-Err-clause-tree g c = λ truth tree file bytes few same is fit holds there body.
    let held = g.V.View.held c.args.view.now in
    search_stops c.args.areas truth tree (map_of (is.stored c.args.handle).tree) (c.args.inode.size / 4096) c.min-end.result c.in-Err.stop
    (c.in-Err.ensures.map truth (is.stored c.args.handle).tree (pages_under c.args.areas held (g.V.View.hints c.args.view.now) truth tree c.args.handle file bytes c.args.inode few same is fit holds there body))

pub returns-in_ok-draft-in-Ok-None-clause-tree : goal.returns-in_ok-draft-in-Ok-None-clause-tree
returns-in_ok-draft-in-Ok-None-clause-tree g c = λ truth tree file bytes few same is fit holds there body.
    let held = g.V.View.held c.args.view.now in
    let inode = c.args.inode in
    let pages = (is.stored c.args.handle).tree in
    let end : c.min-end.result ≡ end_cut inode = c.min-end.ensures ∙ ap (λ (n : ℕ). min n 4294967296) c.div_ceil.ensures in
    none_leaves c.args.areas held truth tree c.args.handle file bytes inode few same is holds there body c.in_ok-draft-in-Ok-None.draft
    (subst (HasNone (map_of pages) (inode.size / 4096)) end
    (rw c.in-Ok-None.field-0-is at (c.in-Ok-None.ensures.map truth pages (pages_under c.args.areas held (g.V.View.hints c.args.view.now) truth tree c.args.handle file bytes inode few same is fit holds there body))))
    (subst (λ (d : List Changed). PutsInode d c.in_ok-draft-in-Ok-None.draft c.args.handle (record inode { tail = inode.size })) c.new.ensures c.in_ok-draft-in-Ok-None.ensures.puts)

pub returns-in-Ok-Some-clause-tree : goal.returns-in-Ok-Some-clause-tree
returns-in-Ok-Some-clause-tree g c = λ truth tree file bytes few same is fit holds there body.
    let held = g.V.View.held c.args.view.now in
    let inode = c.args.inode in
    let pages = (is.stored c.args.handle).tree in
    let end : c.min-end.result ≡ end_cut inode = c.min-end.ensures ∙ ap (λ (n : ℕ). min n 4294967296) c.div_ceil.ensures in
    piece_clears c.args.areas held truth tree c.args.handle file bytes inode few same is holds there body c.in-Ok-Some.piece.0 c.in-Ok-Some.piece.1 c.requires.small
    (subst (λ (n : ℕ). IsLastPiece (map_of pages) (inode.size / 4096) n c.in-Ok-Some.piece.0 c.in-Ok-Some.piece.1) end
    (rw c.in-Ok-Some.field-0-is at (c.in-Ok-Some.ensures.map truth pages (pages_under c.args.areas held (g.V.View.hints c.args.view.now) truth tree c.args.handle file bytes inode few same is fit holds there body))))
    c.clear_piece.result c.clear_piece.ensures.at

pub returns-in_ok-draft-in-Ok-None-clause-lowers : goal.returns-in_ok-draft-in-Ok-None-clause-lowers
returns-in_ok-draft-in-Ok-None-clause-lowers g c = λ truth tree file bytes few same is fit holds there body behind.
    let held = g.V.View.held c.args.view.now in
    let inode = c.args.inode in
    let pages = (is.stored c.args.handle).tree in
    let end : c.min-end.result ≡ end_cut inode = c.min-end.ensures ∙ ap (λ (n : ℕ). min n 4294967296) c.div_ceil.ensures in
    none_lowers c.args.areas held truth tree c.args.handle file bytes inode few same is holds there body c.in_ok-draft-in-Ok-None.draft
    (subst (HasNone (map_of pages) (inode.size / 4096)) end
    (rw c.in-Ok-None.field-0-is at (c.in-Ok-None.ensures.map truth pages (pages_under c.args.areas held (g.V.View.hints c.args.view.now) truth tree c.args.handle file bytes inode few same is fit holds there body))))
    (subst (λ (d : List Changed). PutsInode d c.in_ok-draft-in-Ok-None.draft c.args.handle (record inode { tail = inode.size })) c.new.ensures c.in_ok-draft-in-Ok-None.ensures.puts) behind

pub returns-in-Ok-Some-clause-lowers : goal.returns-in-Ok-Some-clause-lowers
returns-in-Ok-Some-clause-lowers g c = λ truth tree file bytes few same is fit holds there body behind.
    let held = g.V.View.held c.args.view.now in
    let inode = c.args.inode in
    let pages = (is.stored c.args.handle).tree in
    let end : c.min-end.result ≡ end_cut inode = c.min-end.ensures ∙ ap (λ (n : ℕ). min n 4294967296) c.div_ceil.ensures in
    clears_lower c.args.areas held truth tree c.args.handle file bytes inode few same is holds there body c.in-Ok-Some.piece.0 c.in-Ok-Some.piece.1 c.requires.small
    (subst (λ (n : ℕ). IsLastPiece (map_of pages) (inode.size / 4096) n c.in-Ok-Some.piece.0 c.in-Ok-Some.piece.1) end
    (rw c.in-Ok-Some.field-0-is at (c.in-Ok-Some.ensures.map truth pages (pages_under c.args.areas held (g.V.View.hints c.args.view.now) truth tree c.args.handle file bytes inode few same is fit holds there body))))
    c.clear_piece.result c.clear_piece.ensures.at behind
