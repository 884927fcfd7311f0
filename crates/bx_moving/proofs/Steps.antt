-- A move, step by step: what each leaves is what the next rests on.
use Rattle.std.proofs.Common.{◌≡◌, ℕ, List, Option, Some, None, sym, subst}
use Rattle.std.specs.Prelude.{IfErr, Result, Ok, Err}
use Rattle.bx_base.specs.declared.names.Mode.{Mode}
use Rattle.bx_changes.specs.Growing.{NeedsBy}
use Rattle.bx_changes.specs.declared.error.ChangeError.{ChangeError}
use Rattle.bx_changes.specs.declared.error.ChangeError.TheVariants.{Stopped, Full}
use Rattle.bx_inodes.specs.Stops.{NeedsOn}
use Rattle.bx_inodes.specs.declared.stop.Stop.{Stop}
use Rattle.bx_inodes.specs.declared.stop.Stop.TheVariants.{Need, Inner, Status, OutOfMemory}
use Rattle.bx_entries.specs.Unlinking.{without_name_of}
use Rattle.bx_model.specs.declared.tree.Tree.{Tree}
use Rattle.bx_records.specs.Drafts.{Changed}
use Rattle.bx_tree_files.specs.Times.{Time}
use Rattle.bx_views.specs.Truths.{Held, Hints, Truth}
use Rattle.bx_moving.specs.Edits.{EditedTo, EditsTo, GrowsTo, IsEdited, Rests}
use Rattle.bx_moving.specs.declared.moves.Replaced.{Replaced}
use Rattle.bx_moving.specs.Moves.{Dies, IsDying, OnEdited, ended}

-- what a step leaves is what the next one rests on
pub next_rests : (areas : ℕ) (held : Held) (hints : Hints) (truth : Truth) (old new : List Changed) (tree next : Tree) → Rests areas held hints truth old tree → EditedTo areas truth old new next → Rests areas held hints truth new next
next_rests areas held hints truth old new tree next r c = record { few = r.few; same = r.same; is = c.stands; fit = c.leads hints r.fit }

-- two steps are one
pub then_comes : (areas : ℕ) (truth : Truth) (old mid new : List Changed) (between next : Tree) → EditedTo areas truth old mid between → EditedTo areas truth mid new next → EditedTo areas truth old new next
then_comes areas truth old mid new between next c e = record { stands = e.stands; leads = λ hints fit. e.leads hints (c.leads hints fit) }

pub then_edits : (areas : ℕ) (truth : Truth) (old mid : List Changed) (between next : Tree) → EditedTo areas truth old mid between → (result : Result (List Changed) Stop) → EditsTo areas truth mid next result → EditsTo areas truth old next result
then_edits areas truth old mid between next c (Ok new) e = then_comes areas truth old mid new between next c e
then_edits areas truth old mid between next c (Err (Need at mode)) e = tt
then_edits areas truth old mid between next c (Err OutOfMemory) e = tt
then_edits areas truth old mid between next c (Err (Status status)) e = e
then_edits areas truth old mid between next c (Err (Inner blocks)) e = e

pub then_grows : (areas : ℕ) (truth : Truth) (old mid : List Changed) (between next : Tree) → EditedTo areas truth old mid between → (result : Result (List Changed) ChangeError) → GrowsTo areas truth mid next result → GrowsTo areas truth old next result
then_grows areas truth old mid between next c (Ok new) e = then_comes areas truth old mid new between next c e
then_grows areas truth old mid between next c (Err (Stopped (Need at mode))) e = tt
then_grows areas truth old mid between next c (Err (Stopped OutOfMemory)) e = tt
then_grows areas truth old mid between next c (Err (Stopped (Status status))) e = e
then_grows areas truth old mid between next c (Err (Stopped (Inner blocks))) e = e
then_grows areas truth old mid between next c (Err (Full spare)) e = e

-- a step that is stopped stops all
pub stops : (areas : ℕ) (truth : Truth) (old mid : List Changed) (one other : Tree) (stop : Stop) → EditsTo areas truth mid one (Err stop) → EditsTo areas truth old other (Err stop)
stops areas truth old mid one other (Need at mode) e = tt
stops areas truth old mid one other OutOfMemory e = tt
stops areas truth old mid one other (Status status) e = e
stops areas truth old mid one other (Inner blocks) e = e

pub stops_by : (areas : ℕ) (truth : Truth) (old mid : List Changed) (one other : Tree) (stop : Stop) → EditsTo areas truth mid one (Err stop) → GrowsTo areas truth old other (Err (Stopped stop))
stops_by areas truth old mid one other (Need at mode) e = tt
stops_by areas truth old mid one other OutOfMemory e = tt
stops_by areas truth old mid one other (Status status) e = e
stops_by areas truth old mid one other (Inner blocks) e = e

pub grown : (areas : ℕ) (truth : Truth) (old mid : List Changed) (one other : Tree) (error : ChangeError) → GrowsTo areas truth mid one (Err error) → GrowsTo areas truth old other (Err error)
grown areas truth old mid one other (Stopped (Need at mode)) e = tt
grown areas truth old mid one other (Stopped OutOfMemory) e = tt
grown areas truth old mid one other (Stopped (Status status)) e = e
grown areas truth old mid one other (Stopped (Inner blocks)) e = e
grown areas truth old mid one other (Full spare) e = e

-- a tree that is the same
pub edits_same : (areas : ℕ) (truth : Truth) (old : List Changed) (one other : Tree) → one ≡ other → (result : Result (List Changed) Stop) → EditsTo areas truth old one result → EditsTo areas truth old other result
edits_same areas truth old one other same result e = subst (λ (t : Tree). EditsTo areas truth old t result) same e

-- nothing is changed
pub nothing : (areas : ℕ) (held : Held) (hints : Hints) (truth : Truth) (draft : List Changed) (tree : Tree) → Rests areas held hints truth draft tree → EditedTo areas truth draft draft tree
nothing areas held hints truth draft tree r = record { stands = r.is; leads = λ hints fit. fit }

-- ---- what is needed

module _ (areas : ℕ) (held : Held) (hints : Hints) (draft : List Changed) (P : ℕ → Mode → Type 0) (Path : List Changed → ℕ → Mode → Type 0) (edited : IsEdited held hints areas draft) (wider : (at : ℕ) (mode : Mode) → P at mode → Path draft at mode) where
  pub over : (T U : Type 0) (stop : Stop) → NeedsOn areas held P {T = T} (Err stop) → NeedsOn areas held (OnEdited held hints areas Path) {T = U} (Err stop)
  over T U (Need at mode) n = (n.0, n.1, record { draft = draft; edited = edited; on = wider at mode n.2 })
  over T U (Inner blocks) n = tt
  over T U (Status status) n = tt
  over T U OutOfMemory n = tt

  pub over_result : {T : Type 0} (result : Result T Stop) → NeedsOn areas held P result → NeedsOn areas held (OnEdited held hints areas Path) result
  over_result (Ok done) n = tt
  over_result {T = T} (Err stop) n = over T T stop n

  pub over_stopped : (T : Type 0) (stop : Stop) → NeedsOn areas held P {T = T} (Err stop) → NeedsBy areas held (OnEdited held hints areas Path) (Stopped stop)
  over_stopped T (Need at mode) n = (n.0, n.1, record { draft = draft; edited = edited; on = wider at mode n.2 })
  over_stopped T (Inner blocks) n = tt
  over_stopped T (Status status) n = tt
  over_stopped T OutOfMemory n = tt

  pub over_grown : {T : Type 0} (result : Result T ChangeError) → IfErr result (NeedsBy areas held P) → IfErr result (NeedsBy areas held (OnEdited held hints areas Path))
  over_grown (Ok done) n = tt
  over_grown (Err (Stopped (Need at mode))) n = (n.0, n.1, record { draft = draft; edited = edited; on = wider at mode n.2 })
  over_grown (Err (Stopped (Inner blocks))) n = tt
  over_grown (Err (Stopped (Status status))) n = tt
  over_grown (Err (Stopped OutOfMemory)) n = tt
  over_grown (Err (Full spare)) n = tt

-- a wider path
pub wider_by : (areas : ℕ) (held : Held) (P Q : ℕ → Mode → Type 0) → ((at : ℕ) (mode : Mode) → P at mode → Q at mode) → (error : ChangeError) → NeedsBy areas held P error → NeedsBy areas held Q error
wider_by areas held P Q wider (Stopped (Need at mode)) n = (n.0, n.1, wider at mode n.2)
wider_by areas held P Q wider (Stopped (Inner blocks)) n = tt
wider_by areas held P Q wider (Stopped (Status status)) n = tt
wider_by areas held P Q wider (Stopped OutOfMemory) n = tt
wider_by areas held P Q wider (Full spare) n = tt

pub wider_stopped : (T : Type 0) (areas : ℕ) (held : Held) (P Q : ℕ → Mode → Type 0) → ((at : ℕ) (mode : Mode) → P at mode → Q at mode) → (stop : Stop) → NeedsOn areas held P {T = T} (Err stop) → NeedsBy areas held Q (Stopped stop)
wider_stopped T areas held P Q wider (Need at mode) n = (n.0, n.1, wider at mode n.2)
wider_stopped T areas held P Q wider (Inner blocks) n = tt
wider_stopped T areas held P Q wider (Status status) n = tt
wider_stopped T areas held P Q wider OutOfMemory n = tt

-- ---- the file that had the name

pub end_by : (areas : ℕ) (truth : Truth) (draft : List Changed) (tree : Tree) (now : Time) (result : Result (List Changed) Stop) (o : Option Replaced) (other : Replaced) → o ≡ Some other → (is : IsDying tree o)
    → ((d : Dies tree other) → EditsTo areas truth draft (without_name_of now tree other.handle d.file) result) → EditsTo areas truth draft (ended now tree o is) result
end_by areas truth draft tree now result None other e is f = absurd cc
end_by areas truth draft tree now result (Some r) other e is f =
    let same : r ≡ other = cc in
    subst (λ (x : Replaced). (d : Dies tree x) → EditsTo areas truth draft (without_name_of now tree x.handle d.file) result) (sym same) f is
