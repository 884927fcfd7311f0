-- Pieces that are laid one after the other, the last ones first.
use Rattle.std.proofs.Common.{◌≡◌, ℕ, ◌+◌, ◌-◌, ◌*◌, ◌<◌, ◌≤◌, arith, true, false, List, length, get_or, subst, inl, inr, Ok, Err}
use Rattle.std.specs.Prelude.{◌==◌, ◌⊎◌, IfErr, min, Result}
use Rattle.std.specs.Int.{div_ceil}
use Rattle.std.proofs.lemmas.Bool.{cases_lt}
use Rattle.std.proofs.lemmas.Bool.Decides.{nat_tests}
use Rattle.bx_changes.specs.Growing.{NeedsBy}
use Rattle.bx_changes.specs.declared.error.ChangeError.{ChangeError}
use Rattle.bx_changes.specs.declared.error.ChangeError.TheVariants.{Stopped, Full}
use Rattle.bx_inodes.specs.declared.stop.Stop.TheVariants.{Need, Inner, Status, OutOfMemory}
use Rattle.bx_base.specs.declared.names.Mode.{Mode}
use Rattle.bx_layout.specs.declared.inode.Inode.{Inode}
use Rattle.bx_model.specs.declared.tree.Tree.{Tree}
use Rattle.bx_tree_files.specs.declared.file.File.{File}
use Rattle.bx_truth.specs.PageTrees.{PageTree}
use Rattle.bx_views.specs.Truths.{Held, Hints, Truth}
use Rattle.bx_places.specs.Handles.{parts_of}
use Rattle.bx_records.specs.Drafts.{Changed}
use Rattle.bx_writes.proofs.Base.{base_written}
use Rattle.bx_writes.specs.Bytes.{IsOver}
use Rattle.bx_writes.specs.Laid.{OnAnew}
use Rattle.bx_writes.specs.Laying.{GrowsTo, InodeAlone}
use Rattle.bx_writes.specs.Paths.{OnPrepared, OnWrittenPieces}
use Rattle.bx_writes.specs.Steps.{IsRegularOf, PreparesIn, PutsOn}
use Rattle.bx_writes.specs.Written.{IsWritten}

module _ (areas : ℕ) (held : Held) (truth : Truth) (tree : Tree) (handle : ℕ) (file : File) (pages : PageTree) (inode : Inode) (base : List ℕ) where
  -- what stops the preparing of one piece stops all
  pub prepare_stops : (root index place : ℕ) (part : List ℕ) (from : ℕ) (written : List ℕ) (first taken : ℕ) (error : ChangeError) → PreparesIn areas truth root index place part (Err error)
      → PutsOn areas held truth tree handle file pages inode base from written first taken (Err error)
  prepare_stops root index place part from written first taken (Stopped (Need at mode)) p = tt
  prepare_stops root index place part from written first taken (Stopped (Inner blocks)) p = p
  prepare_stops root index place part from written first taken (Stopped (Status status)) p = p
  prepare_stops root index place part from written first taken (Stopped OutOfMemory) p = tt
  prepare_stops root index place part from written first taken (Full spare) p = p

  -- and so does what stops the pieces behind it
  pub rest_stops : (from other : ℕ) (written more : List ℕ) (first second taken few : ℕ) (error : ChangeError) → PutsOn areas held truth tree handle file pages inode base from written first taken (Err error)
      → PutsOn areas held truth tree handle file pages inode base other more second few (Err error)
  rest_stops from other written more first second taken few (Stopped (Need at mode)) p = tt
  rest_stops from other written more first second taken few (Stopped (Inner blocks)) p = p
  rest_stops from other written more first second taken few (Stopped (Status status)) p = p
  rest_stops from other written more first second taken few (Stopped OutOfMemory) p = tt
  rest_stops from other written more first second taken few (Full spare) p = p

pub needs_wider : (areas : ℕ) (held : Held) (Path Wider : ℕ → Mode → Type 0) → ((at : ℕ) (mode : Mode) → Path at mode → Wider at mode) → (error : ChangeError) → NeedsBy areas held Path error → NeedsBy areas held Wider error
needs_wider areas held Path Wider wider (Stopped (Need at mode)) n = (n.0, n.1, wider at mode n.2)
needs_wider areas held Path Wider wider (Stopped (Inner blocks)) n = tt
needs_wider areas held Path Wider wider (Stopped (Status status)) n = tt
needs_wider areas held Path Wider wider (Stopped OutOfMemory) n = tt
needs_wider areas held Path Wider wider (Full spare) n = tt

-- ---- nothing is written from any place on

moved : (base rest bytes : List ℕ) (from other : ℕ) → IsOver base from rest bytes → length rest ≡ 0 → IsOver base other rest bytes
moved base rest bytes from other o none = record {
  long = o.long;
  below = λ place less. all place;
  within = λ place low less. absurd (omega (arith, low, less, none));
  behind = λ place past. all place;
}
  where
    all : (place : ℕ) → get_or bytes place 0 ≡ get_or base place 0
    all place = by (cases_lt place from)
      where
        by : (place < from) ⊎ (from ≤ place) → get_or bytes place 0 ≡ get_or base place 0
        by (inl less) = o.below place less
        by (inr past) = o.behind place (omega (arith, past, none))

pub from_next : (areas : ℕ) (held : Held) (truth : Truth) (tree : Tree) (handle : ℕ) (file : File) (pages : PageTree) (inode : Inode) (base : List ℕ) (next wanted : ℕ) (rest : List ℕ) (first taken : ℕ) (draft : List Changed)
    → (next ≡ wanted) ⊎ (length rest ≡ 0) → IsWritten areas held truth tree handle file pages inode base next rest first taken draft → IsWritten areas held truth tree handle file pages inode base wanted rest first taken draft
from_next areas held truth tree handle file pages inode base next wanted rest first taken draft (inl same) w = subst (λ (n : ℕ). IsWritten areas held truth tree handle file pages inode base n rest first taken draft) same w
from_next areas held truth tree handle file pages inode base next wanted rest first taken draft (inr none) w = record {
  bytes = w.bytes;
  over = moved base rest w.bytes next wanted w.over none;
  stands = w.stands;
  holds = w.holds;
  leads = w.leads;
  after = w.after;
  is = w.is;
  leaves = w.leaves;
  free = w.free;
}

-- ---- the numbers of pieces

pub one_piece : (place all part rest : ℕ) → place < 4096 → 0 < all → part ≡ min all (4096 - place) → rest ≡ all - part → div_ceil (0 + rest) 4096 + 1 ≡ div_ceil (place + all) 4096
one_piece place all part rest low some part_is rest_is = omega (arith, low, some, part_is, rest_is)

pub reaches : (index place all part rest : ℕ) → place < 4096 → part ≡ min all (4096 - place) → rest ≡ all - part → (4096 * (index + 1) + 0 ≡ 4096 * index + place + part) ⊎ (rest ≡ 0)
reaches index place all part rest low part_is rest_is = by (cases_lt all (4096 - place))
  where
    by : (all < 4096 - place) ⊎ (4096 - place ≤ all) → (4096 * (index + 1) + 0 ≡ 4096 * index + place + part) ⊎ (rest ≡ 0)
    by (inl less) = inr (omega (arith, less, part_is, rest_is))
    by (inr more) = inl (omega (arith, more, part_is, low))

-- ---- the inode alone

pub alone_laid : (volume areas : ℕ) (held : Held) (hints : Hints) (truth : Truth) (tree : Tree) (handle : ℕ) (old inode : Inode) (file : File) (base : List ℕ) (r : IsRegularOf volume areas held hints truth tree handle old)
    (grows : GrowsTo r.at.file old inode file base) (from first taken : ℕ) (written : List ℕ) → length written ≡ 0 → (result : Result (List Changed) ChangeError) → InodeAlone handle inode result
    → PutsOn areas held truth tree handle file (r.stands.is.stored handle).tree inode base from written first taken result
alone_laid volume areas held hints truth tree handle old inode file base r grows from first taken written none (Ok draft) puts =
    base_written volume areas held hints truth tree handle old inode file base r grows draft puts from first taken written none
alone_laid volume areas held hints truth tree handle old inode file base r grows from first taken written none (Err (Stopped (Need at mode))) a = absurd a
alone_laid volume areas held hints truth tree handle old inode file base r grows from first taken written none (Err (Stopped (Inner blocks))) a = absurd a
alone_laid volume areas held hints truth tree handle old inode file base r grows from first taken written none (Err (Stopped (Status status))) a = absurd a
alone_laid volume areas held hints truth tree handle old inode file base r grows from first taken written none (Err (Stopped OutOfMemory)) a = tt
alone_laid volume areas held hints truth tree handle old inode file base r grows from first taken written none (Err (Full spare)) a = absurd a

module _ (areas : ℕ) (held : Held) (hints : Hints) (handle root index count : ℕ) (some : 0 < count) where
  -- what a piece needs that is prepared, one that is put, and those behind it
  pub first_needs : (error : ChangeError) → NeedsBy areas held (OnPrepared (parts_of handle).area areas held hints root index) error → NeedsBy areas held (OnWrittenPieces areas held hints handle root index (index + count)) error
  first_needs error n =
      needs_wider areas held (OnPrepared (parts_of handle).area areas held hints root index) (OnWrittenPieces areas held hints handle root index (index + count))
      (λ at mode on. record { index = index; above = omega arith; below = omega (arith, some); on = inl on }) error n

  pub put_needs : (result : Result (List Changed) ChangeError) → IfErr result (NeedsBy areas held (OnAnew held hints (parts_of handle).area areas handle root index))
      → IfErr result (NeedsBy areas held (OnWrittenPieces areas held hints handle root index (index + count)))
  put_needs (Ok draft) n = tt
  put_needs (Err error) n =
      needs_wider areas held (OnAnew held hints (parts_of handle).area areas handle root index) (OnWrittenPieces areas held hints handle root index (index + count))
      (λ at mode on. record { index = index; above = omega arith; below = omega (arith, some); on = inr on }) error n

  pub rest_needs : (few : ℕ) → few + 1 ≡ count → (error : ChangeError) → NeedsBy areas held (OnWrittenPieces areas held hints handle root (index + 1) (index + 1 + few)) error
      → NeedsBy areas held (OnWrittenPieces areas held hints handle root index (index + count)) error
  rest_needs few same error n =
      needs_wider areas held (OnWrittenPieces areas held hints handle root (index + 1) (index + 1 + few)) (OnWrittenPieces areas held hints handle root index (index + count))
      (λ at mode on. let above = on.above in let below = on.below in record { index = on.index; above = omega (arith, above); below = omega (arith, below, same); on = on.on }) error n

pub none_of : (n : ℕ) → true ≡ (n == 0) → n ≡ 0
none_of n test = grind (arith, nat_tests, test)

pub some_of : (n : ℕ) → false ≡ (n == 0) → 0 < n
some_of n test = grind (arith, nat_tests, test)
