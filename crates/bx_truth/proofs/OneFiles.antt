-- Chunks have one list of files.
use Rattle.std.proofs.Common.{◌≡◌, ℕ, zero, suc, ◌<◌, ⊎_elim, arith, Bool, List, [], ◌∷◌, sym, ap, ◌∙◌, subst, refl, Option, Some, None}
use Rattle.std.specs.Prelude.{◌≢◌, if◌then◌else◌, AllPairs, Contains}
use Rattle.bx_views.specs.bx_layout.specs.declared.block.Block.{Block}
use Rattle.bx_views.specs.bx_layout.specs.declared.inode.Inode.{Inode}
use Rattle.bx_views.specs.bx_layout.specs.Inodes.{SpellsInode}
use Rattle.bx_views.specs.bx_layout.proofs.InodeFields.{inode_field, parts_of}
use Rattle.bx_views.specs.bx_layout.proofs.Payloads.{inode_same}
use Rattle.bx_page.specs.bx_base.proofs.Whole.{padded_again}
use Rattle.bx_model.specs.bx_tree_files.specs.declared.file.File.{File}
use Rattle.bx_model.specs.bx_tree_files.specs.Files.{file_at}
use Rattle.bx_truth.specs.Stored.{Owner, Inodes, PageOf, DataOf, Stored}
use Rattle.bx_truth.specs.Stands.{IsOwned, IsAnInode, AreFiles}
use Rattle.bx_truth.specs.PageTrees.{Chunks}
use Rattle.bx_truth.proofs.OneFile.{one_file, same_members}
use Rattle.bx_truth.proofs.Cases.{same_or, eq_true, eq_false}

pub one_inode : (a b : Inode) (payload : List ℕ) → SpellsInode a payload → SpellsInode b payload → a ≡ b
one_inode a b payload s t = (inode_same payload _ a b (padded_again inode_field 4096 payload a s.parts (parts_of a s.is)) t).0

-- a chunk of kind 1 is an inode, by each owner
pub itself : (chunks : Chunks) (owner : ℕ → Owner) (stored : ℕ → Stored) (files : List File) (handle : ℕ) (block : Block) (o : Owner) → block.kind ≡ 1
    → IsOwned chunks owner stored files handle block o → o ≡ Inodes
itself chunks owner stored files handle block Inodes kind is = refl
itself chunks owner stored files handle block (PageOf inode) kind is = absurd (omega (arith, kind, is.kind))
itself chunks owner stored files handle block (DataOf inode index) kind is = absurd (omega (arith, kind, is.kind))

module _ (chunks : Chunks) (owner other_owner : ℕ → Owner) (stored other_stored : ℕ → Stored) (files other_files : List File)
    (are : AreFiles chunks owner stored files) (others : AreFiles chunks other_owner other_stored other_files) where
  block_there : (handle : ℕ) → chunks handle ≢ None → (o : Option Block) → chunks handle ≡ o → (block : Block) × (chunks handle ≡ Some block)
  block_there handle some None is = absurd (some is)
  block_there handle some (Some block) is = (block, is)

  -- where the one has a file, both have an inode
  same_where : (handle : ℕ) (block : Block) → chunks handle ≡ Some block → owner handle ≡ Inodes → file_at files handle ≡ file_at other_files handle
  same_where handle block chunk own =
      let a : IsAnInode chunks owner stored files handle block = subst (IsOwned chunks owner stored files handle block) own (are.each handle block chunk) in
      let other_own = itself chunks other_owner other_stored other_files handle block (other_owner handle) a.inode.kind (others.each handle block chunk) in
      let b : IsAnInode chunks other_owner other_stored other_files handle block = subst (IsOwned chunks other_owner other_stored other_files handle block) other_own (others.each handle block chunk) in
      one_file chunks owner other_owner handle (stored handle) (other_stored handle) (one_inode (stored handle).inode (other_stored handle).inode block.payload a.inode.spells b.inode.spells)
      (file_at files handle) (file_at other_files handle) a.file b.file

  pub file_there : (handle : ℕ) (file : File) → file_at files handle ≡ Some file → file_at other_files handle ≡ Some file
  file_there handle file is =
      let w = are.all handle file is in
      let block = block_there handle w.1 (chunks handle) refl in
      sym (same_where handle block.0 block.1 w.0) ∙ is

-- ---- lists of files in the order of their handles

some_same : (a b : File) → Some a ≡ Some b → a ≡ b
some_same a b e = cc

at_contained : (files : List File) (handle : ℕ) (file : File) → file_at files handle ≡ Some file → Contains files file
at_contained [] handle file is = absurd cc
at_contained (x ∷ files) handle file is = ⊎_elim
    (λ same. (0, omega arith, some_same x file (sym (ap (λ (b : Bool). if b then Some x else file_at files handle) (eq_true x.handle handle same)) ∙ is)))
    (λ other. let c = at_contained files handle file (sym (ap (λ (b : Bool). if b then Some x else file_at files handle) (eq_false x.handle handle other)) ∙ is) in (suc c.0, omega (arith, c.1), c.2))
    (same_or x.handle handle)

contained_at : (files : List File) (file : File) → AllPairs (λ a b. a.handle < b.handle) files → Contains files file → file_at files file.handle ≡ Some file
contained_at [] file rises there = absurd (omega (arith, there.1))
contained_at (x ∷ files) file rises (zero, less, is) =
    ap (λ (b : Bool). if b then Some x else file_at files file.handle) (eq_true x.handle file.handle (ap (λ (f : File). f.handle) is)) ∙ ap Some is
contained_at (x ∷ files) file rises (suc k, less, is) =
    let above : x.handle < file.handle = subst (λ (f : File). x.handle < f.handle) is (rises 0 (suc k) file (omega arith) less) in
    ap (λ (b : Bool). if b then Some x else file_at files file.handle) (eq_false x.handle file.handle (λ e. omega (arith, e, above)))
    ∙ contained_at files file (λ i j d before within. rises (suc i) (suc j) d (omega (arith, before)) (omega (arith, within))) (k, omega (arith, less), is)

pub one_list : (chunks : Chunks) (owner other_owner : ℕ → Owner) (stored other_stored : ℕ → Stored) (files other_files : List File)
    → AllPairs (λ a b. a.handle < b.handle) files → AllPairs (λ a b. a.handle < b.handle) other_files
    → AreFiles chunks owner stored files → AreFiles chunks other_owner other_stored other_files → files ≡ other_files
one_list chunks owner other_owner stored other_stored files other_files rises other_rises are others =
    same_members (λ (f : File). f.handle) files other_files rises other_rises
    (λ file there. at_contained other_files file.handle file (file_there chunks owner other_owner stored other_stored files other_files are others file.handle file (contained_at files file rises there)))
    (λ file there. at_contained files file.handle file (file_there chunks other_owner owner other_stored stored other_files files others are file.handle file (contained_at other_files file other_rises there)))
