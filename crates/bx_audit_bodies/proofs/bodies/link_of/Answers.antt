use Rattle.std.proofs.Common.{◌≡◌, List, ℕ, Some, refl, sym, ap, ◌∙◌, subst}
use Rattle.bx_tree_files.specs.declared.file.Body.TheVariants.{Path}
use Rattle.bx_tree_files.specs.declared.file.File.{File}
use Rattle.bx_audit_bodies.specs.Bodies.{HasBodyOf, file_with}
use Rattle.bx_audit_bodies.specs.Faults.{Itself, Link}
use Rattle.bx_audit_bodies.proofs.BodiesOfTrees.{link_read}
use Rattle.bx_audit_bodies.proofs.bodies.link_of.Goals as goal

pub returns-clause-ok : goal.returns-clause-ok
returns-clause-ok c = λ chunks.
    let path : c.in_ok-path.path ≡ c.args.inode.now.path = c.in_ok-path.ensures ∙ c.bytes.ensures in
    let file = c.file_with-file.ensures ∙ ap (λ (p : List ℕ). file_with c.args.handle c.args.inode.now (Path p)) path in
    subst (λ (f : File). HasBodyOf chunks c.args.handle c.args.inode.now (Some f) c.new.result.items) (sym file)
    (link_read chunks c.args.handle c.args.inode.now c.new.result.items c.new.ensures.items c.if-inode-ne0.false c.requires.inode c.requires.kind)

pub returns-then-inode-ne0-clause-fault : goal.returns-then-inode-ne0-clause-fault
returns-then-inode-ne0-clause-fault c = λ chunks. rw c.torn_at.ensures (Itself (Link c.requires.kind c.if-inode-ne0.true) refl)
