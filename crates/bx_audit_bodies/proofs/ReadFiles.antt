-- What was read of an inode, both ways.
use Rattle.std.proofs.Common.{◌≡◌, ℕ, ◌⊎◌, inl, inr, sym, ap, ◌∙◌, subst, refl, List, Option, Some, None}
use Rattle.std.specs.Prelude.{◌≢◌}
use Rattle.bx_layout.specs.declared.block.Block.{Block}
use Rattle.bx_layout.specs.declared.inode.Inode.{Inode}
use Rattle.bx_tree_files.specs.declared.file.Body.{Body}
use Rattle.bx_tree_files.specs.declared.file.Body.TheVariants.{Bytes, Path, Names}
use Rattle.bx_tree_files.specs.declared.file.File.{File}
use Rattle.bx_truth.specs.PageTrees.{Chunks, PageTree, IsTree}
use Rattle.bx_truth.specs.Stored.{Owner, Stored, HasInode, HasBody, HasTree, HasContents, IsFileOr}
use Rattle.bx_truth.proofs.OneFile.{one_file}
use Rattle.bx_truth.proofs.OneFiles.{one_inode}
use Rattle.bx_audit_files.specs.Inodes.{IsInodeAt}
use Rattle.bx_audit_bodies.specs.Bodies.{IsBodyOf, HasBodyOf}
use Rattle.bx_audit_bodies.specs.Reading.{IsStored, IsReadAs}
use Rattle.bx_audit_bodies.specs.declared.claims.Claim.{Claim}

some_same : {X : Type 0} (x y : X) → Some x ≡ Some y → x ≡ y
some_same x y e = cc

-- a file's inode has its tree
tree_there : (chunks : Chunks) (owner : ℕ → Owner) (handle : ℕ) (stored : Stored) (found : Option File) → stored.inode.tree ≢ 0 → IsFileOr chunks owner handle stored found
    → IsTree chunks stored.inode.tree stored.tree
tree_there chunks owner handle stored None some is = by is.tree
  where
    by : (stored.inode.tree ≡ 0) ⊎ (HasTree chunks owner handle stored × HasContents chunks owner handle stored) → IsTree chunks stored.inode.tree stored.tree
    by (inl no_tree) = absurd (some no_tree)
    by (inr has) = has.0.is
tree_there chunks owner handle stored (Some file) some is = by file.body is.2
  where
    by : (body : Body) → HasBody chunks owner handle stored body → IsTree chunks stored.inode.tree stored.tree
    by (Bytes bytes) has = has.tree.is
    by (Path path) has = absurd (some has.no_tree)
    by (Names parent next names) has = has.tree.is

module _ (chunks : Chunks) (handle : ℕ) (inode : Inode) (at : IsInodeAt chunks handle inode) where
  same : (owner : ℕ → Owner) (stored : Stored) (found : Option File) → IsStored chunks owner handle stored found → stored.inode ≡ inode
  same owner stored found is =
      one_inode stored.inode inode is.block.payload is.inode.spells (subst (λ (b : Block). HasInode inode b) (some_same at.block is.block (sym at.chunk ∙ is.chunk)) at.has).spells

  -- nor does it name another inode
  pub same_at : (other : Inode) → IsInodeAt chunks handle other → other ≡ inode
  same_at other is = one_inode other inode is.block.payload is.has.spells (subst (λ (b : Block). HasInode inode b) (some_same at.block is.block (sym at.chunk ∙ is.chunk)) at.has).spells

  body_of : (owner : ℕ → Owner) (stored : Stored) (found : Option File) → IsStored chunks owner handle stored found → IsBodyOf chunks owner handle inode stored.tree found
  body_of owner stored found is = record {
    file = subst (λ (i : Inode). IsFileOr chunks owner handle (record { inode = i; tree = stored.tree }) found) (same owner stored found is) is.file;
    is_file = is.is_file;
  }

  pub not_stored : ((owner : ℕ → Owner) (tree : PageTree) (found : Option File) → IsBodyOf chunks owner handle inode tree found → ⊥)
      → (owner : ℕ → Owner) (stored : Stored) (found : Option File) → IsStored chunks owner handle stored found → ⊥
  not_stored never owner stored found is = never owner stored.tree found (body_of owner stored found is)

  pub read_as : (file : Option File) (claims : List Claim) → HasBodyOf chunks handle inode file claims → IsReadAs chunks handle file claims
  read_as file claims body = record {
    stored = record { inode = inode; tree = body.tree };
    at = at;
    dead = body.dead;
    is = λ owner agrees. let b = body.is owner agrees in record { block = at.block; chunk = at.chunk; inode = at.has; file = b.file; is_file = b.is_file };
    are_claims = body.are_claims;
    only = λ owner other found is.
        let b = body_of owner other found is in
        let agrees = body.agrees owner other.tree found b in
        record {
          same_inode = same owner other found is;
          same_file = one_file chunks owner owner handle (record { inode = inode; tree = other.tree }) (record { inode = inode; tree = body.tree }) refl found file b.file (body.is owner agrees).file;
          agrees = agrees;
          complete = λ some named piece names.
              body.complete (λ none. some (ap (λ (i : Inode). i.tree) (same owner other found is) ∙ none)) other.tree named piece
              (subst (λ (i : Inode). IsTree chunks i.tree other.tree) (same owner other found is) (tree_there chunks owner handle other found some is.file)) names;
        };
  }
