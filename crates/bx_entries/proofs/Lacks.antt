-- What is to be written first makes room that is lacking; and a directory in which room is found is ready.
use Rattle.std.proofs.Common.{◌≡◌, ℕ, List, Some, sym, ◌∙◌, subst, inl, inr}
use Rattle.std.specs.Prelude.{IfErr, IfOk, Result, Ok, Err}
use Rattle.bx_blink.specs.declared.error.BlinkError.{BlinkError}
use Rattle.bx_blink.specs.declared.error.BlinkError.TheVariants as tree_error
use Rattle.bx_changes.specs.Growing.{IfFull}
use Rattle.bx_changes.specs.declared.error.ChangeError.{ChangeError}
use Rattle.bx_changes.specs.declared.error.ChangeError.TheVariants.{Stopped, Full}
use Rattle.bx_places.specs.Handles.{named}
use Rattle.bx_inodes.specs.Inodes.{HoldsInode}
use Rattle.bx_inodes.specs.declared.stop.Stop.TheVariants.{Need, Inner, Status, OutOfMemory}
use Rattle.bx_layout.specs.Inodes.{SpellsInode}
use Rattle.bx_layout.specs.declared.block.Block.{Block}
use Rattle.bx_layout.specs.declared.inode.Inode.{Inode}
use Rattle.bx_records.specs.Drafts.{Changed}
use Rattle.bx_truth.proofs.OneFiles.{one_inode}
use Rattle.bx_views.specs.Truths.{Held, Truth}
use Rattle.bx_entries.specs.RoomFinding.{RoomIn}
use Rattle.bx_entries.specs.Lacking.{FindsBoth, IfFirst, ReadyToEnter}
use Rattle.bx_changes.specs.Stopping.{NeverFirst, StopsChange}

-- a call on a tree that isn't answered has nothing written first
pub not_first : (areas : ℕ) (Holds : List Changed → Type 0) (error : BlinkError) (stop : ChangeError) → StopsChange areas error stop → IfFirst Holds stop
not_first areas Holds (tree_error.Need at mode) stop (inl s) = subst (IfFirst Holds) (sym s.1) tt
not_first areas Holds (tree_error.Need at mode) stop (inr s) = subst (IfFirst Holds) (sym s.1) tt
not_first areas Holds (tree_error.Full spare) stop s = subst (IfFirst Holds) (sym s) tt
not_first areas Holds tree_error.OutOfMemory stop s = subst (IfFirst Holds) (sym s) tt
not_first areas Holds tree_error.Stale stop s = subst (IfFirst Holds) (sym s) tt
not_first areas Holds tree_error.Absent stop s = subst (IfFirst Holds) (sym s) tt
not_first areas Holds tree_error.Present stop s = subst (IfFirst Holds) (sym s) tt
not_first areas Holds (tree_error.NoRoom leaf) stop s = subst (IfFirst Holds) (sym s) tt
not_first areas Holds tree_error.Crowded stop s = subst (IfFirst Holds) (sym s) tt

pub never_first : (Holds : List Changed → Type 0) (stop : ChangeError) → NeverFirst stop → IfFirst Holds stop
never_first Holds (Stopped (Need at mode)) n = tt
never_first Holds (Stopped (Inner blocks)) n = absurd n
never_first Holds (Stopped (Status status)) n = tt
never_first Holds (Stopped OutOfMemory) n = tt
never_first Holds (Full spare) n = tt

-- where that holds, what follows from it
pub first_so : {P Q : List Changed → Type 0} → ((blocks : List Changed) → P blocks → Q blocks) → (stop : ChangeError) → IfFirst P stop → IfFirst Q stop
first_so follows (Stopped (Need at mode)) p = tt
first_so follows (Stopped (Inner blocks)) p = follows blocks p
first_so follows (Stopped (Status status)) p = tt
first_so follows (Stopped OutOfMemory) p = tt
first_so follows (Full spare) p = tt

pub first_if : {X : Type 0} {P Q : List Changed → Type 0} → ((blocks : List Changed) → P blocks → Q blocks) → (result : Result X ChangeError) → IfErr result (IfFirst P) → IfErr result (IfFirst Q)
first_if follows (Ok value) p = tt
first_if follows (Err stop) p = first_so follows stop p

-- ---- where it is full

pub full_so : {P Q : ℕ → Type 0} → ((spare : ℕ) → P spare → Q spare) → (stop : ChangeError) → IfFull P stop → IfFull Q stop
full_so follows (Stopped stop) p = tt
full_so follows (Full spare) p = follows spare p

pub full_if : {X : Type 0} {P Q : ℕ → Type 0} → ((spare : ℕ) → P spare → Q spare) → (result : Result X ChangeError) → IfErr result (IfFull P) → IfErr result (IfFull Q)
full_if follows (Ok value) p = tt
full_if follows (Err stop) p = full_so follows stop p

-- what is never full
pub full_never : {X : Type 0} → (Q : ℕ → Type 0) → (result : Result X ChangeError) → IfErr result (IfFull (λ spare. ⊥)) → IfErr result (IfFull Q)
full_never Q result never = full_if (λ spare none. absurd none) result never

-- room is lacking then
pub room_wanted : (areas : ℕ) (held : Held) (truth : Truth) (root : ℕ) (name : List ℕ) (number : ℕ) (stop : ChangeError) → RoomIn areas held truth root name number (Err stop) → IfFull (λ spare. FindsBoth areas truth root name number → ⊥) stop
room_wanted areas held truth root name number (Stopped stop) r = tt
room_wanted areas held truth root name number (Full spare) r = r.1

-- ---- where nothing is

-- what holds in any case holds where it goes on
pub so_ok : {X E : Type 0} (P : Type 0) → P → (result : Result X E) → IfOk result (λ made. P)
so_ok P p (Ok made) = p
so_ok P p (Err error) = tt

one_block : (a b : Block) → Some a ≡ Some b → a ≡ b
one_block a b e = cc

one_handle : (a b : ℕ) → Some a ≡ Some b → a ≡ b
one_handle a b e = cc

-- the inode under a handle is one
pub inode_there : (areas : ℕ) (truth : Truth) (handle : ℕ) (a b : Inode) → HoldsInode areas truth handle a → HoldsInode areas truth handle b → a ≡ b
inode_there areas truth handle a b p q =
    let same : p.block ≡ q.block = one_block p.block q.block (sym p.chunk ∙ q.chunk) in
    one_inode a b q.block.payload (subst (λ (x : Block). SpellsInode a x.payload) same p.has.spells) q.has.spells

-- room is found in the directory that is named
pub enters : (volume areas : ℕ) (truth : Truth) (bytes name : List ℕ) (handle : ℕ) (inode : Inode) → Some handle ≡ named volume bytes → HoldsInode areas truth handle inode → FindsBoth areas truth inode.tree name inode.next
    → ReadyToEnter volume areas truth bytes name
enters volume areas truth bytes name handle inode is holds finds = λ other there is_other holds_other.
    let same : handle ≡ other = one_handle handle other (is ∙ is_other) in
    subst (λ (i : Inode). FindsBoth areas truth i.tree name i.next) (inode_there areas truth other inode there (subst (λ (h : ℕ). HoldsInode areas truth h inode) same holds) holds_other) finds
