-- Blocks of a kind under their handles.
use Rattle.std.proofs.Common.{◌≡◌, ℕ, sym, ap, subst, ◌∙◌, Some, None}
use Rattle.std.specs.Prelude.{◌≢◌}
use Rattle.bx_layout.specs.declared.block.Block.{Block}
use Rattle.bx_layout.specs.declared.inode.Inode.{Inode}
use Rattle.bx_truth.specs.PageTrees.{Chunks}
use Rattle.bx_truth.specs.Stored.{HasInode}
use Rattle.bx_audit_files.specs.Inodes.{IsBlockAt, IsInodeAt}

some_same : {X : Type 0} (x y : X) → Some x ≡ Some y → x ≡ y
some_same x y e = cc

pub no_block : (chunks : Chunks) (handle kind : ℕ) → chunks handle ≡ None → (block : Block) → IsBlockAt chunks handle kind block → ⊥
no_block chunks handle kind none block is = let e : None ≡ Some block = sym none ∙ is.chunk in absurd cc

pub not_of_kind : (chunks : Chunks) (handle kind : ℕ) (found : Block) → chunks handle ≡ Some found → found.kind ≢ kind → (block : Block) → IsBlockAt chunks handle kind block → ⊥
not_of_kind chunks handle kind found there other block is = other (ap (λ (b : Block). b.kind) (some_same found block (sym there ∙ is.chunk)) ∙ is.kind_is)

pub no_inode : (chunks : Chunks) (handle : ℕ) (found : Block) → chunks handle ≡ Some found → ((inode : Inode) → HasInode inode found → ⊥) → (inode : Inode) → IsInodeAt chunks handle inode → ⊥
no_inode chunks handle found there never inode is = never inode (subst (HasInode inode) (some_same is.block found (sym is.chunk ∙ there)) is.has)
