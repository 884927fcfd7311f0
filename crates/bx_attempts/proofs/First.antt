-- Blocks are to be written first only where the call comes to no error and they prepare it, and a change comes only where nothing is wanted.
use Rattle.std.proofs.Common.{◌≡◌, ℕ, arith, Bool, true, false, List, [], ◌∷◌, Some, None, refl, sym, ap, ◌∙◌, subst, inl, inr}
use Rattle.std.specs.Prelude.{◌==◌, if◌then◌else◌, Ok, Err}
use Rattle.bx_creating.specs.Lacking.{IfFirst, MakesPlace, ReadyToEnter, PreparesCreate, ReadyToCreate}
use Rattle.bx_changes.specs.First.{ComesFirst}
use Rattle.bx_changes.specs.declared.error.ChangeError.{ChangeError}
use Rattle.bx_changes.specs.declared.error.ChangeError.TheVariants.{Stopped, Full}
use Rattle.bx_inodes.specs.declared.stop.Stop.{Stop}
use Rattle.bx_inodes.specs.declared.stop.Stop.TheVariants as stops
use Rattle.bx_model.specs.declared.call.Args.{Args}
use Rattle.bx_model.specs.declared.call.Args.TheVariants.{Link, Make, Rename, Set, Symlink, Write}
use Rattle.bx_model.specs.declared.call.Call.{Call}
use Rattle.bx_model.specs.declared.reply.Reply.{Reply}
use Rattle.bx_model.specs.declared.reply.Reply.TheVariants.{Status}
use Rattle.bx_model.specs.declared.tree.Tree.{Tree}
use Rattle.bx_model.specs.Act.{act, given}
use Rattle.bx_model.specs.Edits.{is_unused}
use Rattle.bx_model.specs.Making.{create, link, mkdir, symlink}
use Rattle.bx_model.specs.Renaming.{rename}
use Rattle.bx_model.specs.Steps.{Making, Outcome, Step, done, plainly, taken}
use Rattle.bx_model.specs.Steps.Step.{Gives, Makes}
use Rattle.bx_model.specs.Writing.{setattr, write}
use Rattle.bx_records.specs.Drafts.{Changed}
use Rattle.bx_renaming.specs.Lacking.{PreparesMove}
use Rattle.bx_creating.specs.bx_sizes.specs.Cuts.{PreparesSetting}
use Rattle.bx_tree_files.specs.declared.sattr.Sattr.{Sattr}
use Rattle.bx_tree_files.specs.Times.{Time, time_of}
use Rattle.bx_views.specs.declared.attempt.Attempt.{Attempt}
use Rattle.bx_views.specs.Attempts.{IfChange, IfInner}
use Rattle.bx_views.specs.Truths.{Held, Hints, Truth}
use Rattle.bx_writes.specs.Lacking.{PreparesWriting}
use Rattle.bx_attempts.specs.First.{MeetsNoError, PreparesBy, PreparesFirst, ReadyBy}
use Rattle.bx_attempts.specs.Replies.{IsChanged, IsRefused, IsStopped}
use Rattle.bx_attempts.proofs.Acting.{create_acts, mkdir_acts, symlink_acts}
use Rattle.bx_attempts.proofs.Fine.{IsFine, IsFineStep, create_fine, link_fine, mkdir_fine, rename_fine, setattr_fine, symlink_fine, write_fine}

-- ---- what an attempt answers

module _ (Holds : List Changed → Type 0) (xid : ℕ) (attempt : Attempt) where
  pub changed_first : (draft : List Changed) (reply : Reply) (made : ℕ) → IsChanged xid draft reply made attempt → IfInner Holds attempt
  changed_first [] reply made is = subst (IfInner Holds) (sym is) tt
  changed_first (block ∷ blocks) reply made is = subst (IfInner Holds) (sym is) tt

  pub stopped_first : (stop : Stop) → IfFirst Holds (Stopped stop) → IsStopped xid stop attempt → IfInner Holds attempt
  stopped_first (stops.Need at mode) first is = subst (IfInner Holds) (sym is) tt
  stopped_first (stops.Inner blocks) first is = subst (IfInner Holds) (sym is) first
  stopped_first (stops.Status status) first is = subst (IfInner Holds) (sym is) tt
  stopped_first stops.OutOfMemory first is = absurd is

  pub refused_first : (error : ChangeError) → IfFirst Holds error → IsRefused xid error attempt → IfInner Holds attempt
  refused_first (Stopped stop) first is = stopped_first stop first is
  refused_first (Full spare) first is = subst (IfInner Holds) (sym is) tt

module _ (Holds : Type 0) (xid : ℕ) (attempt : Attempt) where
  pub changed_ready : (draft : List Changed) (reply : Reply) (made : ℕ) → Holds → IsChanged xid draft reply made attempt → IfChange Holds attempt
  changed_ready [] reply made holds is = subst (IfChange Holds) (sym is) tt
  changed_ready (block ∷ blocks) reply made holds is = subst (IfChange Holds) (sym is) holds

  pub stopped_ready : (stop : Stop) → IsStopped xid stop attempt → IfChange Holds attempt
  stopped_ready (stops.Need at mode) is = subst (IfChange Holds) (sym is) tt
  stopped_ready (stops.Inner blocks) is = subst (IfChange Holds) (sym is) tt
  stopped_ready (stops.Status status) is = subst (IfChange Holds) (sym is) tt
  stopped_ready stops.OutOfMemory is = absurd is

  pub refused_ready : (error : ChangeError) → IsRefused xid error attempt → IfChange Holds attempt
  refused_ready (Stopped stop) is = stopped_ready stop is
  refused_ready (Full spare) is = subst (IfChange Holds) (sym is) tt

-- what holds of the blocks that come first, by what they prepare
preparing : (Fails : ℕ → Type 0) (Prepares Holds : List Changed → Type 0) → (((status : ℕ) → Fails status → ⊥) → (new : List Changed) → Prepares new → Holds new) → (error : ChangeError) → ComesFirst Fails Prepares error → IfFirst Holds error
preparing Fails Prepares Holds so (Stopped (stops.Inner blocks)) first = so first.0 blocks first.1
preparing Fails Prepares Holds so (Stopped (stops.Need at mode)) first = tt
preparing Fails Prepares Holds so (Stopped (stops.Status status)) first = tt
preparing Fails Prepares Holds so (Stopped stops.OutOfMemory) first = tt
preparing Fails Prepares Holds so (Full spare) first = tt

-- MKDIR and CREATE, by the number of the procedure
pub mkdir_ready : (volume areas : ℕ) (truth : Truth) (tree : Tree) (procedure : ℕ) (at name : List ℕ) (sattr : Sattr) → procedure ≡ 14 → ReadyToEnter volume areas truth at name → ReadyBy volume areas truth tree procedure (Make at name sattr)
mkdir_ready volume areas truth tree procedure at name sattr number ready = ((λ same. ready), λ other. absurd (omega (arith, number, other)))

pub create_ready : (volume areas : ℕ) (truth : Truth) (tree : Tree) (procedure : ℕ) (at name : List ℕ) (sattr : Sattr) → procedure ≡ 9 → ReadyToCreate volume areas truth tree at name sattr.size
    → ReadyBy volume areas truth tree procedure (Make at name sattr)
create_ready volume areas truth tree procedure at name sattr number ready = ((λ other. absurd (omega (arith, number, other))), λ same. ready)

-- ---- what a call comes to that meets no error

some_same : (a b : Reply × Tree) → Some a ≡ Some b → a ≡ b
some_same a b is = cc

by_reply : (given : Reply × Tree) (status : ℕ) (next : Tree) → IsFine given.0 → Some given ≡ Some (Status status, next) → status ≡ 0
by_reply given status next fine is = fine status (ap (λ (p : Reply × Tree). p.0) (some_same given (Status status, next) is))

by_outcome : (tree : Tree) (test : Bool) (outcome : Outcome) (status : ℕ) (next : Tree) → ((given : Reply × Tree) → outcome ≡ Ok given → IsFine given.0) → ((status : ℕ) → outcome ≡ Err status → ⊥)
    → (if test then Some (done tree outcome) else None) ≡ Some (Status status, next) → status ≡ 0
by_outcome tree true (Ok given) status next fine none is = by_reply given status next (fine given refl) is
by_outcome tree true (Err error) status next fine none is = absurd (none error refl)
by_outcome tree false outcome status next fine none is = absurd cc

by_test : (test : Bool) (given : Reply × Tree) (status : ℕ) (next : Tree) → IsFine given.0 → (if test then Some given else None) ≡ Some (Status status, next) → status ≡ 0
by_test true given status next fine is = by_reply given status next fine is
by_test false given status next fine is = absurd cc

by_making : (tree : Tree) (made : ℕ) (making : Making) (status : ℕ) (next : Tree) → ((step : Step) → making ≡ Ok step → IsFineStep step) → ((status : ℕ) → making ≡ Err status → ⊥)
    → taken tree made making ≡ Some (Status status, next) → status ≡ 0
by_making tree made (Ok (Gives reply after)) status next fine none is = by_test (made == 0) (reply, after) status next (fine (Gives reply after) refl) is
by_making tree made (Ok (Makes file)) status next fine none is = by_test (is_unused tree made) (file made) status next (fine (Makes file) refl made) is
by_making tree made (Err error) status next fine none is = absurd (none error refl)

module _ (volume areas : ℕ) (held : Held) (hints : Hints) (truth : Truth) (tree : Tree) (call : Call) (moment : ℕ) where
  abbrev now : Time
  now = time_of moment

  plain_fine : (args : Args) (outcome : Outcome) → call.args ≡ args → ((made : ℕ) → given tree call now 8 made args ≡ plainly tree made outcome) → ((given : Reply × Tree) → outcome ≡ Ok given → IsFine given.0)
      → ((status : ℕ) → outcome ≡ Err status → ⊥) → MeetsNoError tree call moment
  plain_fine args outcome is acts fine none made status next e =
      by_outcome tree (made == 0) outcome status next fine none (sym (acts made) ∙ sym (ap (given tree call now 8 made) is) ∙ e)

  making_fine : (making : Making) → ((made : ℕ) → act tree call moment 8 made ≡ taken tree made making) → ((step : Step) → making ≡ Ok step → IsFineStep step) → ((status : ℕ) → making ≡ Err status → ⊥) → MeetsNoError tree call moment
  making_fine making acts fine none made status next e = by_making tree made making status next fine none (sym (acts made) ∙ e)

  found : (args : Args) → call.args ≡ args → MeetsNoError tree call moment → (new : List Changed) → PreparesBy volume areas held hints truth tree call.procedure args new
      → PreparesFirst volume areas held hints truth tree call moment new
  found args is fine new prepares = record { fine = fine; prepares = subst (λ (a : Args). PreparesBy volume areas held hints truth tree call.procedure a new) (sym is) prepares }

  pub setattr_first : (at : List ℕ) (sattr : Sattr) → call.args ≡ Set at sattr → (error : ChangeError)
      → ComesFirst (λ status. setattr tree call at sattr (time_of moment) ≡ Err status) (PreparesSetting volume areas truth at sattr.size) error → IfFirst (PreparesFirst volume areas held hints truth tree call moment) error
  setattr_first at sattr is error first =
      preparing _ _ _ (λ none. found (Set at sattr) is (plain_fine (Set at sattr) (setattr tree call at sattr now) is (λ made. refl) (λ given e. setattr_fine tree call now given at sattr e) none)) error first

  pub write_first : (at : List ℕ) (begin offset total : ℕ) (written : List ℕ) → call.args ≡ Write at begin offset total written → (error : ChangeError)
      → ComesFirst (λ status. write tree call at offset written (time_of moment) 8 ≡ Err status) (PreparesWriting volume areas held hints truth at offset written) error → IfFirst (PreparesFirst volume areas held hints truth tree call moment) error
  write_first at begin offset total written is error first =
      preparing _ _ _
      (λ none. found (Write at begin offset total written) is
      (plain_fine (Write at begin offset total written) (write tree call at offset written now 8) is (λ made. refl) (λ given e. write_fine tree call now given at offset written 8 e) none)) error first

  pub link_first : (from at name : List ℕ) → call.args ≡ Link from at name → (error : ChangeError)
      → ComesFirst (λ status. link tree call from at name (time_of moment) 8 ≡ Err status) (MakesPlace volume areas held hints truth at name) error → IfFirst (PreparesFirst volume areas held hints truth tree call moment) error
  link_first from at name is error first =
      preparing _ _ _ (λ none. found (Link from at name) is (plain_fine (Link from at name) (link tree call from at name now 8) is (λ made. refl) (λ given e. link_fine tree call now given from at name 8 e) none)) error first

  pub rename_first : (from name to new_name : List ℕ) → call.args ≡ Rename from name to new_name → (error : ChangeError)
      → ComesFirst (λ status. rename tree call from name to new_name (time_of moment) 8 ≡ Err status) (PreparesMove volume areas held hints truth tree from name to new_name) error → IfFirst (PreparesFirst volume areas held hints truth tree call moment) error
  rename_first from name to new_name is error first =
      preparing _ _ _
      (λ none. found (Rename from name to new_name) is
      (plain_fine (Rename from name to new_name) (rename tree call from name to new_name now 8) is (λ made. refl) (λ given e. rename_fine tree call now given from name to new_name 8 e) none)) error first

  pub symlink_first : (at name path : List ℕ) (sattr : Sattr) → call.args ≡ Symlink at name path sattr → (error : ChangeError)
      → ComesFirst (λ status. symlink tree call at name path sattr (time_of moment) 8 ≡ Err status) (MakesPlace volume areas held hints truth at name) error → IfFirst (PreparesFirst volume areas held hints truth tree call moment) error
  symlink_first at name path sattr is error first =
      preparing _ _ _
      (λ none. found (Symlink at name path sattr) is
      (making_fine (symlink tree call at name path sattr now 8) (λ made. symlink_acts tree call moment at name path sattr 8 made is) (λ step e. symlink_fine tree call now step at name path sattr 8 e) none)) error first

  pub mkdir_first : (at name : List ℕ) (sattr : Sattr) → call.args ≡ Make at name sattr → call.procedure ≡ 14 → (error : ChangeError)
      → ComesFirst (λ status. mkdir tree call at name sattr (time_of moment) 8 ≡ Err status) (MakesPlace volume areas held hints truth at name) error → IfFirst (PreparesFirst volume areas held hints truth tree call moment) error
  mkdir_first at name sattr is number error first =
      preparing _ _ _
      (λ none new prepares. found (Make at name sattr) is
      (making_fine (mkdir tree call at name sattr now 8) (λ made. mkdir_acts tree call moment at name sattr 8 made is number) (λ step e. mkdir_fine tree call now step at name sattr 8 e) none) new (inl (number, prepares))) error first

  pub create_first : (at name : List ℕ) (sattr : Sattr) → call.args ≡ Make at name sattr → call.procedure ≡ 9 → (error : ChangeError)
      → ComesFirst (λ status. create tree call at name sattr (time_of moment) 8 ≡ Err status) (PreparesCreate volume areas held hints truth tree at name sattr.size) error → IfFirst (PreparesFirst volume areas held hints truth tree call moment) error
  create_first at name sattr is number error first =
      preparing _ _ _
      (λ none new prepares. found (Make at name sattr) is
      (making_fine (create tree call at name sattr now 8) (λ made. create_acts tree call moment at name sattr 8 made is number) (λ step e. create_fine tree call now step at name sattr 8 e) none) new (inr (number, prepares))) error first
