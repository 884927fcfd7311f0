-- Machines that are put into a list one behind the other, and disks that are only synced.
use Rattle.std.proofs.Common.{◌≡◌, ℕ, ◌+◌, ◌-◌, ◌<◌, ◌≤◌, ◌⊎◌, inl, inr, Bool, true, false, List, [], ◌∷◌, ◌++◌, length, Option, Some, Result, Ok, Err, OnOk, refl, sym, ap, subst, ◌∙◌, arith}
use Rattle.std.specs.Prelude.{IsSome, nat_lt, if◌then◌else◌, slice_index, slice_index_or, slice_set}
use Rattle.std.proofs.Math.Seq.{get_or-append_seam, set-append_seam}
use Rattle.std.proofs.lemmas.List.{length-append}
use Rattle.std.proofs.lemmas.Bool.{false≢true}
use Rattle.std.proofs.lemmas.Bool.Decides.{nat_tests}
use Rattle.bx_answers.specs.Handling.{first_held}
use Rattle.bx_acceptor.specs.Standing.{HasCell}
use Rattle.bx_base.specs.declared.names.Actor.{Actor}
use Rattle.bx_base.specs.declared.names.Actor.TheVariants.{Node, Replica, Server, Member}
use Rattle.bx_cell.specs.Formats.{KeepsBeside, first}
use Rattle.bx_cell.specs.Halves.{cell_in}
use Rattle.bx_cell.specs.Images.{EachSure, HasAllSure}
use Rattle.bx_disk.specs.Disks.{Disks, Image}
use Rattle.bx_facts.proofs.Machines.{is_itself}
use Rattle.bx_facts.specs.Disks.{IsKept, SameLabels, SameMembers}
use Rattle.bx_facts.specs.Machines.{IsMachine, is_same}
use Rattle.bx_global.specs.Bytes.{held_text}
use Rattle.bx_global.specs.declared.state.GlobalState.{GlobalState}
use Rattle.bx_paxos_found.specs.declared.origins.Origins.{Origins}
use Rattle.bx_paxos_machines.proofs.Keeping.{stays_kept}
use Rattle.bx_rounds.specs.Courses.{started}
use Rattle.bx_paxos_machines.specs.declared.machine.Machine.{Machine}
use Rattle.bx_paxos_machines.specs.declared.machine.Machine.TheVariants.{Replica as IsReplica, Other}
use Rattle.bx_paxos_machines.specs.Beginning.{AreBegun, AreIdle, AreMachines, AreNew, HasFirst, IsBegun, IsCalm, IsNew, name_in}
use Rattle.bx_paxos_machines.specs.Cluster.{named}
use Rattle.bx_paxos_machines.specs.Parts.{AreParts, HasCells, HasDisk, IsPart, IsWhole, course_of, machine_at, name_of}

-- ---- disks

pub calm_none : (x : Disks) → IsCalm x x
calm_none x = record { reads = refl; sure = λ d s e. e }

pub calm_twice : (x y z : Disks) → IsCalm x y → IsCalm y z → IsCalm x z
calm_twice x y z one other = record { reads = other.reads ∙ one.reads; sure = λ d s e. other.sure d s (one.sure d s e) }

pub calm_image : (x y : Disks) (image : Image) → IsCalm x y → HasAllSure y image → HasAllSure x image
calm_image x y image calm is = record { sure = λ d s e. is.sure d s (calm.sure d s e) ∙ ap (λ (r : Image). r d s) calm.reads }

pub calm_each : (x y : Disks) (P : Image → Type 0) → IsCalm x y → EachSure x P → EachSure y P
calm_each x y P calm each = record { each = λ image is. each.each image (calm_image x y image calm is) }

pub calm_first : (made : GlobalState) (x y : Disks) → IsCalm x y → HasFirst made x.reads → HasFirst made y.reads
calm_first made x y calm has = record { each = λ n low. subst (λ (r : Image). cell_in (r n) 1 ≡ Some (first (held_text (first_held made)))) (sym calm.reads) (has.each n low) }

calm_cells : (x y : Disks) (m : Machine) → IsCalm x y → HasCells m x → HasCells m y
calm_cells x y (IsReplica r) calm has = calm_each x y (HasCell r.acceptor) calm has
calm_cells x y (Other p) calm has = tt

pub calm_begun : (made : GlobalState) (x y : Disks) (ms : List Machine) → IsCalm x y → AreBegun made x ms → AreBegun made y ms
calm_begun made x y [] calm are = tt
calm_begun made x y (m ∷ ms) calm are = (record { course = are.0.course; cells = calm_cells x y m calm are.0.cells; knows = are.0.knows }, calm_begun made x y ms calm are.1)

-- a rack with the disks of three replicas has that of the machine
pub has_disk : (sizes : List ℕ) (m : Machine) → IsWhole m → ((n : ℕ) → n < 3 → 21 ≤ slice_index sizes n) → HasDisk sizes m
has_disk sizes (IsReplica r) whole room = room r.acceptor.replica whole.low
has_disk sizes (Other p) whole room = tt

-- ---- disks of which cells were written anew, and that were only synced then

pub beside_members : (x y : Disks) → KeepsBeside x y 3 1 → SameMembers x y
beside_members x y keeps = record { each = λ d s far. stays_kept x y d s (keeps.others d s far) }

pub beside_labels : (x y : Disks) → KeepsBeside x y 3 1 → SameLabels x y
beside_labels x y keeps = record { each = λ d low. record { reads = keeps.reads d 0 (inr (inl (omega arith))); sure = keeps.sure d 0 (inr (inl (omega arith))) } }

calm_kept : (x y z : Disks) (d s : ℕ) → IsKept x y d s → IsCalm y z → IsKept x z d s
calm_kept x y z d s kept calm = record { reads = ap (λ (r : Image). r d s) calm.reads ∙ kept.reads; sure = λ e. calm.sure d s (kept.sure e) }

pub calm_members : (x y z : Disks) → SameMembers x y → IsCalm y z → SameMembers x z
calm_members x y z same calm = record { each = λ d s far. calm_kept x y z d s (same.each d s far) calm }

pub calm_labels : (x y z : Disks) → SameLabels x y → IsCalm y z → SameLabels x z
calm_labels x y z same calm = record { each = λ d low. calm_kept x y z d 0 (same.each d low) calm }

pub same_members : (x : Disks) → SameMembers x x
same_members x = record { each = λ d s far. record { reads = refl; sure = λ e. e } }

pub same_labels : (x : Disks) → SameLabels x x
same_labels x = record { each = λ d low. record { reads = refl; sure = λ e. e } }

-- ---- one more in the list

pub end_within : (ms xs : List Machine) (m : Machine) (end : ℕ) → xs ≡ ms ++ m ∷ [] → end ≡ length ms → end < length xs
end_within ms xs m end all at = subst (λ (l : List Machine). end < length l) (sym all) (let long = length-append ms (m ∷ []) in omega (arith, long, at))

pub read_end : (ms xs : List Machine) (m k : Machine) (end : ℕ) → xs ≡ ms ++ m ∷ [] → end ≡ length ms → k ≡ slice_index_or xs end k → k ≡ m
read_end ms xs m k end all at value = value ∙ subst (λ (l : List Machine). slice_index_or l end k ≡ m) (sym all) (subst (λ (n : ℕ). slice_index_or (ms ++ m ∷ []) n k ≡ m) (sym at) (get_or-append_seam ms m [] k))

pub put_end : (ms xs : List Machine) (m v : Machine) (end : ℕ) → xs ≡ ms ++ m ∷ [] → end ≡ length ms → slice_set xs end v ≡ ms ++ v ∷ []
put_end ms xs m v end all at = subst (λ (l : List Machine). slice_set l end v ≡ ms ++ v ∷ []) (sym all) (subst (λ (n : ℕ). slice_set (ms ++ m ∷ []) n v ≡ ms ++ v ∷ []) (sym at) (set-append_seam ms m [] v))

pub parts_push : (nodes : ℕ) (made : GlobalState) (origins : Origins) (ms : List Machine) (m : Machine) → AreParts nodes made origins ms → IsPart nodes made origins m → AreParts nodes made origins (ms ++ m ∷ [])
parts_push nodes made origins [] m are is = (is, tt)
parts_push nodes made origins (k ∷ ms) m are is = (are.0, parts_push nodes made origins ms m are.1 is)

pub new_push : (made : GlobalState) (ms : List Machine) (m : Machine) → AreNew made ms → IsNew made m → AreNew made (ms ++ m ∷ [])
new_push made [] m are is = (is, tt)
new_push made (k ∷ ms) m are is = (are.0, new_push made ms m are.1 is)

pub begun_push : (made : GlobalState) (x : Disks) (ms : List Machine) (m : Machine) → AreBegun made x ms → IsBegun made x m → AreBegun made x (ms ++ m ∷ [])
begun_push made x [] m are is = (is, tt)
begun_push made x (k ∷ ms) m are is = (are.0, begun_push made x ms m are.1 is)

pub idle_push : (made : GlobalState) (ms : List Machine) (m : Machine) → AreIdle made ms → course_of m ≡ started 0 0 made → AreIdle made (ms ++ m ∷ [])
idle_push made [] m are is = (is, tt)
idle_push made (k ∷ ms) m are is = (are.0, idle_push made ms m are.1 is)

some_on : (ms : List Machine) (m : Machine) (who : Actor) → IsSome (machine_at ms who) → IsSome (machine_at (ms ++ m ∷ []) who)
some_on [] m who is = absurd (false≢true is)
some_on (k ∷ ms) m who is = by (is_same (name_of k) who) (λ has. some_on ms m who has) is
  where
    by : (t : Bool) → (IsSome (machine_at ms who) → IsSome (machine_at (ms ++ m ∷ []) who)) → IsSome (if t then Some k else machine_at ms who) → IsSome (if t then Some k else machine_at (ms ++ m ∷ []) who)
    by true more has = refl
    by false more has = more has

some_last : (ms : List Machine) (m : Machine) (who : Actor) → name_of m ≡ who → IsSome (machine_at (ms ++ m ∷ []) who)
some_last [] m who named =
    let here : is_same (name_of m) who ≡ true = subst (λ (a : Actor). is_same a who ≡ true) (sym named) (is_itself who) in
    subst (λ (o : Option Machine). IsSome o) (sym (ap (λ (t : Bool). if t then Some m else machine_at [] who) here)) refl
some_last (k ∷ ms) m who named = by (is_same (name_of k) who) (some_last ms m who named)
  where
    by : (t : Bool) → IsSome (machine_at (ms ++ m ∷ []) who) → IsSome (if t then Some k else machine_at (ms ++ m ∷ []) who)
    by true has = refl
    by false has = has

-- ---- the order

pub place_for : Actor → ℕ
place_for (Replica n) = n
place_for (Server n) = 3 + n
place_for (Member n) = 5 + n
place_for (Node n) = 13 + n

lower : (n m : ℕ) → n < m → nat_lt n m ≡ true
lower n m less = grind (arith, nat_tests, less)

not_lower : (n m : ℕ) → m ≤ n → nat_lt n m ≡ false
not_lower n m least = grind (arith, nat_tests, least)

by_tests : (place : ℕ) (a b c : Bool) → nat_lt place 3 ≡ a → nat_lt place 5 ≡ b → nat_lt place 13 ≡ c → name_in place ≡ (if a then Replica place else (if b then Server (place - 3) else (if c then Member (place - 5) else Node (place - 13))))
by_tests place a b c e f k = rw (e, f, k) refl

named_place : (nodes : ℕ) (who : Actor) → IsMachine nodes who → name_in (place_for who) ≡ who
unfolding place_for
named_place nodes (Replica n) there = by_tests n true (nat_lt n 5) (nat_lt n 13) (lower n 3 there) refl refl
named_place nodes (Server n) there = by_tests (3 + n) false true (nat_lt (3 + n) 13) (not_lower (3 + n) 3 (omega arith)) (lower (3 + n) 5 (omega (arith, there))) refl ∙ ap Server (omega arith)
named_place nodes (Member n) there = by_tests (5 + n) false false true (not_lower (5 + n) 3 (omega arith)) (not_lower (5 + n) 5 (omega arith)) (lower (5 + n) 13 (omega (arith, there))) ∙ ap Member (omega arith)
named_place nodes (Node n) there = by_tests (13 + n) false false false (not_lower (13 + n) 3 (omega arith)) (not_lower (13 + n) 5 (omega arith)) (not_lower (13 + n) 13 (omega arith)) ∙ ap Node (omega arith)

pub place_less : (nodes : ℕ) (who : Actor) → IsMachine nodes who → place_for who < 13 + nodes
unfolding place_for
place_less nodes (Replica n) there = omega (arith, there)
place_less nodes (Server n) there = omega (arith, there)
place_less nodes (Member n) there = omega (arith, there)
place_less nodes (Node n) there = omega (arith, there)

pub machine_in : (nodes place : ℕ) → place < 13 + nodes → IsMachine nodes (name_in place)
machine_in nodes place less = by (nat_lt place 3) (nat_lt place 5) (nat_lt place 13) refl refl refl
  where
    by : (a b c : Bool) → nat_lt place 3 ≡ a → nat_lt place 5 ≡ b → nat_lt place 13 ≡ c → IsMachine nodes (if a then Replica place else (if b then Server (place - 3) else (if c then Member (place - 5) else Node (place - 13))))
    by true b c e f k = grind (arith, nat_tests, e)
    by false true c e f k = let high : 3 ≤ place = grind (arith, nat_tests, e) in let low : place < 5 = grind (arith, nat_tests, f) in omega (arith, high, low)
    by false false true e f k = let high : 5 ≤ place = grind (arith, nat_tests, f) in let low : place < 13 = grind (arith, nat_tests, k) in omega (arith, high, low)
    by false false false e f k = let high : 13 ≤ place = grind (arith, nat_tests, k) in omega (arith, high, less)

-- the machines before a place are there
pub record AreMadeTo (nodes : ℕ) (made : GlobalState) (origins : Origins) (place : ℕ) (ms : List Machine) : Type 0 where
  pub parts : AreParts nodes made origins ms
  pub all : (who : Actor) → IsMachine nodes who → place_for who < place → IsSome (machine_at ms who)

pub made_none : (nodes : ℕ) (made : GlobalState) (origins : Origins) → AreMadeTo nodes made origins 0 []
made_none nodes made origins = record { parts = tt; all = λ who there less. absurd (omega (arith, less)) }

pub made_more : (nodes : ℕ) (made : GlobalState) (origins : Origins) (place : ℕ) (ms : List Machine) (m : Machine) → AreMadeTo nodes made origins place ms → name_of m ≡ name_in place → IsPart nodes made origins m → AreMadeTo nodes made origins (place + 1) (ms ++ m ∷ [])
made_more nodes made origins place ms m are named is = record {
  parts = parts_push nodes made origins ms m are.parts is;
  all = λ who there less. by who there (at (place_for who) less);
}
  where
    at : (n : ℕ) → n < place + 1 → (n < place) ⊎ (n ≡ place)
    at n less = grind (arith, less)

    by : (who : Actor) → IsMachine nodes who → (place_for who < place) ⊎ (place_for who ≡ place) → IsSome (machine_at (ms ++ m ∷ []) who)
    by who there (inl before) = some_on ms m who (are.all who there before)
    by who there (inr here) = some_last ms m who (named ∙ ap name_in (sym here) ∙ named_place nodes who there)

pub made_all : (nodes : ℕ) (made : GlobalState) (origins : Origins) (place : ℕ) (ms : List Machine) → 13 + nodes ≤ place → AreMadeTo nodes made origins place ms → AreMachines nodes made origins ms
made_all nodes made origins place ms full are = record { parts = are.parts; all = λ who there. are.all who there (let less = place_less nodes who there in omega (arith, less, full)) }

pub any_ok : {T E : Type 0} (r : Result T E) (A : Type 0) → A → OnOk r A
any_ok (Ok v) A a = a
any_ok (Err e) A a = tt
