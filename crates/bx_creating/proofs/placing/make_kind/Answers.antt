use Rattle.std.proofs.Common.{sym, subst, inl, inr}
use Rattle.bx_entries.specs.bx_making.specs.Made.{MakesIn}
use Rattle.bx_tree_files.specs.declared.file.Body.{Body}
use Rattle.bx_creating.proofs.placing.make_kind.Goals as goal

pub returns-then-inode-eq-LINK-clause-at : goal.returns-then-inode-eq-LINK-clause-at
returns-then-inode-eq-LINK-clause-at g c = inr c.make_link.ensures.at

pub returns-then-inode-eq-LINK-clause-tree : goal.returns-then-inode-eq-LINK-clause-tree
returns-then-inode-eq-LINK-clause-tree g c = λ truth tree body few same is b.
    elim b [
      | inl l ↦ subst (λ (x : Body). MakesIn c.args.near.1 truth c.args.draft.now c.make_link.new.draft tree c.args.inode x c.make_link.result) (sym l.2) (c.make_link.ensures.tree truth tree few same is l.0 l.1)
      | inr f ↦ absurd (f.0 c.if-inode-eq-LINK.true)
    ]

pub returns-clause-at : goal.returns-clause-at
returns-clause-at g c = inl c.make.ensures.at

pub returns-clause-tree : goal.returns-clause-tree
returns-clause-tree g c = λ truth tree body few same is b.
    elim b [
      | inl l ↦ absurd (c.if-inode-eq-LINK.false l.0)
      | inr f ↦ c.make.ensures.tree truth tree body few same is f.1
    ]
