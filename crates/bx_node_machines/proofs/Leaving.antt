-- What nodes are about stays where an event leaves alone what it rests on.
use Rattle.std.proofs.Common.{◌≡◌, ◌≢◌, ◌⊎◌, ⊎_elim, inl, inr, ◌∙◌, ℕ, ◌+◌, ◌<◌, Bool, true, false, List, eqb, length, Option, Some, None, refl, sym, ap, subst, arith}
use Rattle.std.specs.Prelude.{◌==◌, ◌&&◌, IsSomeAnd, slice_get}
use Rattle.std.proofs.lemmas.Bool.Decides.{nat_tests}
use Rattle.bx_base.specs.declared.names.Mode.{Mode}
use Rattle.bx_disk.specs.Disks.{Image}
use Rattle.bx_facts.specs.Holds.{Holds}
use Rattle.bx_facts.specs.Writes.{Asked, Sent, WritesIn}
use Rattle.bx_node_machines.specs.Machines as words
use Rattle.bx_node_machines.specs.Machines.{AreAbout, AreAway, Fetch, IsAbout, IsAtWork, IsDoubtIn, IsFetched, IsFetching, IsFresh, IsUnwritten, IsWriting, MachineView, Scene, Stage, home_of, is_one, is_under}
use Rattle.bx_places.specs.Places.{block_place}
use Rattle.bx_records.specs.declared.runs.Run.{Run}
use Rattle.bx_node_views.specs.bx_redo.specs.Homes.{AreItsHomes}
use Rattle.bx_node_views.specs.bx_redo.specs.Steps.{writes}
use Rattle.bx_rows.specs.Words.{row_in}
use Rattle.bx_rows.specs.declared.session.SessionRow.{SessionRow}
use Rattle.bx_node_views.specs.bx_volume.specs.Overlay.{Logs}
use Rattle.bx_node_views.specs.bx_volume.specs.Records.{Logged, newest_in}
use Rattle.bx_node_views.specs.bx_world_logs.specs.Logs.{OfLog, Slot}
use Rattle.bx_world_views.specs.Views.{Allows, Unacknowledged}

-- An event leaves the log of a slot, what is under way there, and the doubt of its session.
pub record LeavesSlot (old new : Scene) (session slot : ℕ) : Type 0 where
  pub logs : new.logs slot ≡ old.logs slot
  pub slots : (new.slots slot).activity ≡ (old.slots slot).activity
  pub doubts : new.doubts session ≡ old.doubts session

-- What a node's log writes, and its homes, its session touches.
pub record MayWork (devices areas : ℕ) (Touches : ℕ → ℕ → Type 0) (s : Scene) (slot : ℕ) (machine : MachineView) : Type 0 where
  pub of_log : (s.slots slot).activity ≡ OfLog machine.log.work → (d sector : ℕ) (content : List ℕ) → WritesIn (writes machine.log machine.log.work).1 d sector content → Touches d sector
  pub of_homes : (runs : List Run) → AreItsHomes devices areas s.logs slot runs → (d sector : ℕ) (content : List ℕ) → WritesIn runs d sector content → Touches d sector

-- And a node's write and read: they stay out, or go on. (`Touches` says which sectors its session may write.)
pub record Leaves (devices areas : ℕ) (Touches : ℕ → ℕ → Type 0) (Sure Sure_then : ℕ → ℕ → List ℕ → Type 0) (Reads Reads_then : ℕ → List ℕ → Type 0) (old new : Scene) (node session slot : ℕ) : Type 0 where
  pub of_slot : LeavesSlot old new session slot
  pub none_out : old.out node ≡ None → new.out node ≡ None
  pub none_asked : old.asked node ≡ None → new.asked node ≡ None
  pub writing : (runs : List Run) → ((d sector : ℕ) (content : List ℕ) → WritesIn runs d sector content → Touches d sector)
      → IsWriting Sure session runs (old.out node) old.sent → IsWriting Sure_then session runs (new.out node) new.sent
  pub reads : (block : ℕ) (mode : Mode) → IsFetched devices areas Reads old node session block mode → IsFetched devices areas Reads_then new node session block mode

-- the homes of a log are those of any with the same records in its slot
homes_same : (devices areas : ℕ) (logs later : Logs) (slot : ℕ) (runs : List Run) → later slot ≡ logs slot → AreItsHomes devices areas logs slot runs → AreItsHomes devices areas later slot runs
homes_same devices areas logs later slot runs same are = record {
  each = λ run has. let is = are.each run has in record { at = is.at; is = is.is; block = is.block; parts = is.parts; newest = ap (λ (l : List Logged). newest_in l is.at) same ∙ is.newest; run_is = is.run_is };
  all = λ at block is newest. are.all at block is (sym (ap (λ (l : List Logged). newest_in l at) same) ∙ newest);
}

module _ (devices areas : ℕ) (Touches : ℕ → ℕ → Type 0) (Sure Sure_then : ℕ → ℕ → List ℕ → Type 0) (Reads Reads_then : ℕ → List ℕ → Type 0) (old new : Scene) (node session slot : ℕ) (machine : MachineView)
    (leaves : Leaves devices areas Touches Sure Sure_then Reads Reads_then old new node session slot) (may : MayWork devices areas Touches old slot machine) where
  away : AreAway old.logs slot machine → AreAway new.logs slot machine
  away are = λ at. are at ∙ sym (ap (λ (l : List Logged). newest_in l at) leaves.of_slot.logs)

  work_stays : (stage : Stage) → IsAtWork devices areas Sure old node session slot machine stage → IsAtWork devices areas Sure_then new node session slot machine stage
  work_stays words.Idle is = (is.0, leaves.of_slot.slots ∙ is.1, leaves.of_slot.logs ∙ is.2, leaves.none_out is.3, leaves.of_slot.doubts ∙ is.4, away is.5)
  work_stays (words.Records call draft) is = (
    is.0,
    is.1,
    leaves.of_slot.slots ∙ is.2,
    leaves.writing (writes machine.log machine.log.work).1 (may.of_log is.2) is.3,
    subst (λ (found : Option Unacknowledged). IsSomeAnd found (IsDoubtIn machine.log.work call draft)) (sym leaves.of_slot.doubts) is.4,
    away is.5,
  )
  work_stays words.Homes is = (
    is.0,
    leaves.of_slot.slots ∙ is.1,
    subst (λ (l : List Logged). 0 < length l) (sym leaves.of_slot.logs) is.2,
    (is.3.0, homes_same devices areas old.logs new.logs slot is.3.0 leaves.of_slot.logs is.3.1, leaves.writing is.3.0 (may.of_homes is.3.0 is.3.1) is.3.2),
    leaves.of_slot.doubts ∙ is.4,
    away is.5,
  )
  work_stays words.Closes is = (is.0, is.1, leaves.of_slot.slots ∙ is.2, leaves.writing (writes machine.log machine.log.work).1 (may.of_log is.2) is.3, leaves.of_slot.doubts ∙ is.4, is.5)
  work_stays (words.Recovers gone recovery) is = (is.0, leaves.of_slot.slots ∙ is.1, leaves.of_slot.logs ∙ is.2, leaves.of_slot.doubts ∙ is.3, away is.4)

  fetch_stays : (fetch : Fetch) → IsFetching devices areas Reads old node session fetch → IsFetching devices areas Reads_then new node session fetch
  fetch_stays words.Nothing none = leaves.none_asked none
  fetch_stays (words.Block block mode) is = leaves.reads block mode is
  fetch_stays words.Dropped is = is
  fetch_stays words.OfLog is = is

  pub about_stays : IsAbout devices areas Sure Reads old node session slot machine → IsAbout devices areas Sure_then Reads_then new node session slot machine
  about_stays is = record {
    is_slot = is.is_slot;
    device = is.device;
    count = is.count ∙ sym (ap (λ (l : List Logged). length l) leaves.of_slot.logs);
    work = work_stays machine.stage is.work;
    fetch = fetch_stays machine.fetch is.fetch;
    unseen = is.unseen;
  }

-- Nothing of all this is touched.
pub all_same : (devices areas : ℕ) (Sure : ℕ → ℕ → List ℕ → Type 0) (Reads : ℕ → List ℕ → Type 0) (old new : Scene) (node session slot : ℕ)
    → new.logs ≡ old.logs → new.slots ≡ old.slots → new.doubts ≡ old.doubts → new.out ≡ old.out → new.asked ≡ old.asked → new.sent ≡ old.sent → new.holding ≡ old.holding → new.before ≡ old.before
    → (machine : MachineView) → IsAbout devices areas Sure Reads old node session slot machine → IsAbout devices areas Sure Reads new node session slot machine
all_same devices areas Sure Reads old new node session slot logs slots doubts out asked sent holding before machine is =
    about_stays devices areas (λ d s. Unit {0}) Sure Sure Reads Reads old new node session slot machine
    (record {
      of_slot = record { logs = ap (λ (f : ℕ → List Logged). f slot) logs; slots = ap (λ (f : ℕ → Slot). (f slot).activity) slots; doubts = ap (λ (f : ℕ → Option Unacknowledged). f session) doubts };
      none_out = λ none. ap (λ (f : ℕ → Option Sent). f node) out ∙ none;
      none_asked = λ none. ap (λ (f : ℕ → Option Asked). f node) asked ∙ none;
      writing = λ runs touches writes. subst (λ (f : ℕ → Option Sent). IsWriting Sure session runs (f node) new.sent) (sym out) (subst (λ (l : List Sent). IsWriting Sure session runs (old.out node) l) (sym sent) writes);
      reads = λ block mode was. record {
        is = was.is;
        allows = subst (λ (h : Holds). Allows (h session block) mode) (sym holding) was.allows;
        unlogged = λ s less. ap (λ (f : ℕ → List Logged). newest_in (f s) block) logs ∙ was.unlogged s less;
        unwritten = subst (λ (f : ℕ → Slot). IsUnwritten f block) (sym slots) was.unwritten;
        asked = subst (λ (f : ℕ → Option Asked). (f node ≡ None) ⊎ ((f node ≡ Some (home_of devices block)) × ((i : ℕ) → i < 9 → Reads ((block_place block devices).1 + i) (new.before (block_place block devices).0 ((block_place block devices).1 + i))))) (sym asked)
            (subst (λ (image : Image). (old.asked node ≡ None) ⊎ ((old.asked node ≡ Some (home_of devices block)) × ((i : ℕ) → i < 9 → Reads ((block_place block devices).1 + i) (image (block_place block devices).0 ((block_place block devices).1 + i))))) (sym before) was.asked);
      };
    })
    (record { of_log = λ is d s content w. tt; of_homes = λ runs are d s content w. tt }) is

-- One event behind the other.
pub leaves_then : (devices areas : ℕ) (Touches : ℕ → ℕ → Type 0) (Sure Sure_between Sure_then : ℕ → ℕ → List ℕ → Type 0) (Reads Reads_between Reads_then : ℕ → List ℕ → Type 0) (old between new : Scene) (node session slot : ℕ)
    → Leaves devices areas Touches Sure Sure_between Reads Reads_between old between node session slot → Leaves devices areas Touches Sure_between Sure_then Reads_between Reads_then between new node session slot
    → Leaves devices areas Touches Sure Sure_then Reads Reads_then old new node session slot
leaves_then devices areas Touches Sure Sure_between Sure_then Reads Reads_between Reads_then old between new node session slot one two = record {
  of_slot = record { logs = two.of_slot.logs ∙ one.of_slot.logs; slots = two.of_slot.slots ∙ one.of_slot.slots; doubts = two.of_slot.doubts ∙ one.of_slot.doubts };
  none_out = λ none. two.none_out (one.none_out none);
  none_asked = λ none. two.none_asked (one.none_asked none);
  writing = λ runs touches is. two.writing runs touches (one.writing runs touches is);
  reads = λ block mode is. two.reads block mode (one.reads block mode is);
}

-- A fresh session stays fresh.
pub fresh_stays : (old new : Scene) (node session slot : ℕ) → LeavesSlot old new session slot
    → (new.own node ≡ Some session → (new.out node ≡ None) × (new.asked node ≡ None))
    → IsFresh old node session slot → IsFresh new node session slot
fresh_stays old new node session slot leaves quiet is = record {
  none = leaves.logs ∙ is.none;
  still = leaves.slots ∙ is.still;
  undoubted = leaves.doubts ∙ is.undoubted;
  unwritten = λ own. (quiet own).0;
  unasked = λ own. (quiet own).1;
}

-- ---- which sessions a node is under

some_same : (a b : ℕ) → Some a ≡ Some b → a ≡ b
some_same a b e = cc

own_under : (machine : Option MachineView) (own session : ℕ) → is_under machine (Some own) session ≡ true → own ≡ session
own_under None own session is = absurd cc
own_under (Some machine) own session is = by (is_one machine.session (Some session)) (own == session) refl is
  where
    by : (a b : Bool) → (own == session) ≡ b → (a && b) ≡ true → own ≡ session
    by false b same both = absurd cc
    by true false same both = absurd cc
    by true true same both = grind (arith, nat_tests, same)

-- a node is under no session but its own
pub not_under : (machine : Option MachineView) (own session : ℕ) → own ≢ session → is_under machine (Some own) session ≡ false
not_under machine own session ne = by (is_under machine (Some own) session) refl
  where
    by : (b : Bool) → is_under machine (Some own) session ≡ b → b ≡ false
    by false is = refl
    by true is = absurd (ne (own_under machine own session is))

-- A node that has what it has under its own session does something: all others leave it alone, and it is about what comes of it.
module _ (devices areas : ℕ) (Touches : ℕ → ℕ → ℕ → Type 0) (Sure Sure_then : ℕ → ℕ → List ℕ → Type 0) (Reads Reads_then : ℕ → ℕ → List ℕ → Type 0) (IsOf : ℕ → SessionRow → Type 0) (old new : Scene) (node session : ℕ)
    (about : AreAbout devices areas Sure Reads IsOf old)
    (rows : new.rows ≡ old.rows)
    (own : (other : ℕ) → new.own other ≡ old.own other)
    (mine : old.own node ≡ Some session)
    (under : is_under (new.machines node) (Some session) session ≡ true)
    (machines : (other : ℕ) → other ≢ node → new.machines other ≡ old.machines other)
    (slots : (other : ℕ) (row : SessionRow) → row_in old.rows other ≡ Some row → row.dead ≡ 0 → other ≢ session → LeavesSlot old new other row.slot)
    (others : (other its : ℕ) (row : SessionRow) → other ≢ node → its ≢ session → old.own other ≡ Some its → row_in old.rows its ≡ Some row → row.dead ≡ 0
    → Leaves devices areas (Touches its) Sure Sure_then (Reads other) (Reads_then other) old new other its row.slot)
    (works : (other its : ℕ) (machine : MachineView) (row : SessionRow) → row_in old.rows its ≡ Some row → row.dead ≡ 0 → IsAbout devices areas Sure (Reads other) old other its row.slot machine
    → MayWork devices areas (Touches its) old row.slot machine)
    (single : (other : ℕ) → old.own other ≡ Some session → other ≡ node)
    (here : (machine : MachineView) (row : SessionRow) → new.machines node ≡ Some machine → row_in old.rows session ≡ Some row → row.dead ≡ 0 → IsAbout devices areas Sure_then (Reads_then node) new node session row.slot machine) where
  own_is : new.own node ≡ Some session
  own_is = own node ∙ mine

  apart : (other its : ℕ) → other ≢ node → old.own other ≡ Some its → its ≢ session
  apart other its ne is e = ne (single other (is ∙ ap (λ (n : ℕ). Some n) e))

  each_about : (other its : ℕ) (machine : MachineView) (row : SessionRow) → (b : Bool) → eqb other node ≡ b → new.machines other ≡ Some machine → machine.session ≡ Some its → new.own other ≡ Some its
      → row_in old.rows its ≡ Some row → row.dead ≡ 0 → IsAbout devices areas Sure_then (Reads_then other) new other its row.slot machine
  each_about other its machine row true same there marked is has lives =
      let e : other ≡ node = grind (arith, nat_tests, same) in
      let f : its ≡ session = some_same its session (sym is ∙ ap (λ (n : ℕ). new.own n) e ∙ own_is) in
      subst (λ (n : ℕ). IsAbout devices areas Sure_then (Reads_then n) new n its row.slot machine) (sym e)
      (subst (λ (n : ℕ). IsAbout devices areas Sure_then (Reads_then node) new node n row.slot machine) (sym f)
      (here machine row (ap (λ (n : ℕ). new.machines n) (sym e) ∙ there) (ap (λ (n : ℕ). row_in old.rows n) (sym f) ∙ has) lives))
  each_about other its machine row false differ there marked is has lives =
      let ne : other ≢ node = λ e. grind (arith, nat_tests, differ, e) in
      let was = sym (own other) ∙ is in
      let before = about.each other its machine row (sym (machines other ne) ∙ there) marked was has lives in
      about_stays devices areas (Touches its) Sure Sure_then (Reads other) (Reads_then other) old new other its row.slot machine (others other its row ne (apart other its ne was) was has lives)
      (works other its machine row has lives before) before

  its_fresh : (other its : ℕ) (row : SessionRow) → (b : Bool) → eqb other node ≡ b → IsOf other row ⊎ (new.own other ≡ Some its) → ((n : ℕ) → new.own n ≡ Some its → n ≡ other) → row_in old.rows its ≡ Some row → row.dead ≡ 0
      → is_under (new.machines other) (new.own other) its ≡ false → IsFresh new other its row.slot
  its_fresh other its row true same of alone has lives none =
      let e : other ≡ node = grind (arith, nat_tests, same) in
      let ne : its ≢ session = λ f. let wrong : true ≡ false = sym under ∙ ap (λ (n : ℕ). is_under (new.machines node) (Some session) n) (sym f)
      ∙ ap (λ (o : Option ℕ). is_under (new.machines node) o its) (sym own_is) ∙ ap (λ (n : ℕ). is_under (new.machines n) (new.own n) its) (sym e) ∙ none in cc in
      let was : is_under (old.machines other) (old.own other) its ≡ false = ap (λ (o : Option ℕ). is_under (old.machines other) o its) (ap (λ (n : ℕ). old.own n) e ∙ mine) ∙ not_under (old.machines other) session its (λ f. ne (sym f)) in
      fresh_stays old new other its row.slot (slots its row has lives ne)
      (λ is. absurd (ne (some_same its session (sym is ∙ ap (λ (n : ℕ). new.own n) e ∙ own_is))))
      (about.fresh other its row (⊎_elim (λ one. inl one) (λ one. inr (sym (own other) ∙ one)) of) (λ n is. alone n (own n ∙ is)) has lives was)
  its_fresh other its row false differ of alone has lives none =
      let ne : other ≢ node = λ e. grind (arith, nat_tests, differ, e) in
      let its_apart : its ≢ session = λ f. ne (sym (alone node (own_is ∙ ap (λ (n : ℕ). Some n) (sym f)))) in
      let was : is_under (old.machines other) (old.own other) its ≡ false = ap (λ (m : Option MachineView). is_under m (old.own other) its) (sym (machines other ne)) ∙ ap (λ (o : Option ℕ). is_under (new.machines other) o its) (sym (own other)) ∙ none in
      let fresh = about.fresh other its row (⊎_elim (λ one. inl one) (λ one. inr (sym (own other) ∙ one)) of) (λ n is. alone n (own n ∙ is)) has lives was in
      fresh_stays old new other its row.slot (slots its row has lives its_apart)
      (λ is. let own_was = sym (own other) ∙ is in let left = others other its row ne its_apart own_was has lives in (left.none_out (fresh.unwritten own_was), left.none_asked (fresh.unasked own_was))) fresh

  -- what the node has, it has under its own session
  its_mark : (mark : Option ℕ) (its : ℕ) → (is_one mark (Some session) && (session == session)) ≡ true → mark ≡ Some its → its ≡ session
  its_mark None its is marked = absurd cc
  its_mark (Some a) its is marked = by (a == session) (session == session) refl is
    where
      by : (p q : Bool) → (a == session) ≡ p → (p && q) ≡ true → its ≡ session
      by false q same both = absurd cc
      by true q same both = let e : a ≡ its = cc in let f : a ≡ session = grind (arith, nat_tests, same) in sym e ∙ f

  its_marked : (other its : ℕ) (machine : MachineView) (row : SessionRow) → (b : Bool) → eqb other node ≡ b → IsOf other row → new.machines other ≡ Some machine → machine.session ≡ Some its → row_in old.rows its ≡ Some row → row.dead ≡ 0
      → new.own other ≡ Some its
  its_marked other its machine row true same of there marked has lives =
      let e : other ≡ node = grind (arith, nat_tests, same) in
      let f : its ≡ session = its_mark machine.session its (ap (λ (m : Option MachineView). is_under m (Some session) session) (sym there ∙ ap (λ (n : ℕ). new.machines n) e) ∙ under) marked in
      ap (λ (n : ℕ). new.own n) e ∙ own_is ∙ ap (λ (n : ℕ). Some n) (sym f)
  its_marked other its machine row false differ of there marked has lives =
      let ne : other ≢ node = λ e. grind (arith, nat_tests, differ, e) in
      own other ∙ about.marked other its machine row of (sym (machines other ne) ∙ there) marked has lives

  pub acts : AreAbout devices areas Sure_then Reads_then IsOf new
  acts = record {
    marked = λ other its machine row of there is has lives. its_marked other its machine row (eqb other node) refl of there is (sym (ap (λ (l : List SessionRow). row_in l its) rows) ∙ has) lives;
    each = λ other its machine row there marked is has lives. each_about other its machine row (eqb other node) refl there marked is (sym (ap (λ (l : List SessionRow). row_in l its) rows) ∙ has) lives;
    fresh = λ other its row of alone has lives none. its_fresh other its row (eqb other node) refl of alone (sym (ap (λ (l : List SessionRow). row_in l its) rows) ∙ has) lives none;
  }

-- What a node has it has under a session that was given out, where it has it under the same one as before.
pub given_on : (machines later : List MachineView) (next node : ℕ) (before machine : MachineView)
    → ((other session : ℕ) (its : MachineView) → slice_get machines other ≡ Some its → its.session ≡ Some session → session < next)
    → slice_get machines node ≡ Some before → slice_get later node ≡ Some machine → machine.session ≡ before.session
    → ((other : ℕ) → other ≢ node → slice_get later other ≡ slice_get machines other)
    → (other session : ℕ) (its : MachineView) → slice_get later other ≡ Some its → its.session ≡ Some session → session < next
given_on machines later next node before machine given there then_there same others other session its has marked = by (eqb other node) refl
  where
    one_machine : (a b : MachineView) → Some a ≡ Some b → a ≡ b
    one_machine a b e = cc

    by : (b : Bool) → eqb other node ≡ b → session < next
    by true is =
        let e : other ≡ node = grind (arith, nat_tests, is) in
        let f : its ≡ machine = one_machine its machine (sym has ∙ ap (λ (n : ℕ). slice_get later n) e ∙ then_there) in
        given node session before there (sym same ∙ ap (λ (m : MachineView). m.session) (sym f) ∙ marked)
    by false differ = given other session its (sym (others other (λ e. grind (arith, nat_tests, differ, e))) ∙ has) marked
