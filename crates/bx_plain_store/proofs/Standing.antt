-- Runs that were written go on standing, and are done once nothing is unsure.
use Rattle.std.proofs.Common.{◌≡◌, ℕ, ◌+◌, ◌-◌, ◌<◌, ⊎_elim, Bool, true, false, List, length, Contains, Some, None, refl, sym, ◌∙◌, ap, subst, arith, slice_get}
use Rattle.std.specs.Prelude.{◌==◌}
use Rattle.std.proofs.lemmas.Bool.Decides.{nat_tests}
use Rattle.std.proofs.lemmas.Option.{slice_get_within, slice_get_read, slice_get_cases, get_or_from_slice_get}
use Rattle.std.proofs.lemmas.List.Elements.{Contains-get_or}
use Rattle.bx_disk.specs.Disks.{Disks}
use Rattle.bx_global.specs.declared.state.GlobalState.{GlobalState}
use Rattle.bx_records.specs.declared.runs.Run.{Run}
use Rattle.bx_calls.specs.Regions.{ReadsAs}
use Rattle.bx_facts.specs.Disks.{SameDisks}
use Rattle.bx_facts.specs.Writes.{IsDone, IsSettled, Sent, Writes, member_disk}
use Rattle.bx_members.specs.Members.{IsTaken, KeepsMembers}
use Rattle.bx_plain_store.specs.Out.{AreWritten, IsAlone}

pub there_at : {X : Type 0} → (xs : List X) (i : ℕ) (x : X) → slice_get xs i ≡ Some x → Contains xs x
there_at xs i x is = subst (Contains xs) (get_or_from_slice_get xs i x x is) (Contains-get_or xs i x (slice_get_within xs i x is))

pub is_taken : (writes : List Sent) (greatest : ℕ) (write : Sent) (runs : List Run) (i : ℕ) (run : Run) → IsAlone writes greatest write → write.runs ≡ runs → slice_get runs i ≡ Some run → IsTaken writes greatest run
is_taken writes greatest write runs i run alone same is = record { write = write; there = alone.there; has = subst (λ (all : List Run). Contains all run) (sym same) (there_at runs i run is); not_over = alone.not_over }

-- where nothing is changed, members are kept
pub keeps_disks : (writes : List Sent) (greatest : ℕ) (old new : Disks) → SameDisks old new → KeepsMembers writes greatest old new
keeps_disks writes greatest old new same = record {
  reads = λ device sector second content only here. (same.each (member_disk device second) sector).reads ∙ here;
  sure = λ device sector second content only here was. (same.each (member_disk device second) sector).sure was;
  replicas = λ d sector less. same.each d sector;
}

-- a run that was written reads so
pub reads_run : (x : Disks) (run : Run) (device sector : ℕ) (content : List ℕ) (second : Bool) → ReadsAs x.reads (member_disk run.device second) run.place run.bytes → Writes run device sector content
    → x.reads (member_disk device second) sector ≡ content
reads_run x run device sector content second r at =
    let least = at.from in
    let there : sector ≡ run.place + (sector - run.place) = omega (arith, least) in
    subst (λ (d : ℕ). x.reads (member_disk d second) sector ≡ content) at.on
    (ap (x.reads (member_disk run.device second)) there ∙ r.each (sector - run.place) (let less = at.below in omega (arith, least, less)) ∙ at.is)

-- one run more
pub written_more : (writes : List Sent) (greatest : ℕ) (write : Sent) (runs : List Run) (i : ℕ) (run : Run) (old new : Disks)
    → IsAlone writes greatest write → write.runs ≡ runs → slice_get runs i ≡ Some run → KeepsMembers writes greatest old new
    → ((second : Bool) → ReadsAs new.reads (member_disk run.device second) run.place run.bytes) → AreWritten old runs i → AreWritten new runs (i + 1)
written_more writes greatest write runs i run old new alone same is keeps reads before = record {
  each = λ j other device sector content second less at brings. by_place j other device sector content second less at brings (j == i) refl;
}
  where
    by_place : (j : ℕ) (other : Run) (device sector : ℕ) (content : List ℕ) (second : Bool) → j < i + 1 → slice_get runs j ≡ Some other → Writes other device sector content → (b : Bool) → (j == i) ≡ b
        → new.reads (member_disk device second) sector ≡ content
    by_place j other device sector content second less at brings true here =
        let e : j ≡ i = grind (arith, nat_tests, here) in
        let one : run ≡ other = (let a = sym is ∙ ap (slice_get runs) (sym e) ∙ at in cc) in
        reads_run new other device sector content second (subst (λ (r : Run). ReadsAs new.reads (member_disk r.device second) r.place r.bytes) one (reads second)) brings
    by_place j other device sector content second less at brings false elsewhere =
        let sooner : j < i = grind (arith, nat_tests, elsewhere, less) in
        let has : Contains write.runs other = subst (λ (all : List Run). Contains all other) (sym same) (there_at runs j other at) in
        keeps.reads device sector second content (alone.only device sector content (other, has, brings)) (before.each j other device sector content second sooner at brings)

-- once all members are sure, what is written is done
pub now_done : (s : GlobalState) (devices index : ℕ) (write : Sent) (runs : List Run) (x y : Disks) → write.runs ≡ runs → length s.devices ≡ devices
    → ((run : Run) → Contains runs run → run.device < devices)
    → AreWritten x runs (length runs) → SameDisks x y → ((device sector : ℕ) (second : Bool) → device < devices → y.unsure (member_disk device second) sector ≡ false)
    → IsDone (λ device sector content index. IsSettled y s device sector content) index write
now_done s devices index write runs x y is long fit written same sure = record {
  each = λ device sector content brings.
      let run = brings.0 in
      let on = brings.2 in
      let has : Contains runs run = subst (λ (all : List Run). Contains all run) is brings.1 in
      let i = has.0 in
      let less : i < length runs = has.1 in
      let at : slice_get runs i ≡ Some run = slice_get_read runs (length runs) i run refl less (sym has.2) in
      let within : device < devices = subst (λ (d : ℕ). d < devices) on.on (fit run has) in
      record {
        there = subst (λ (n : ℕ). device < n) (sym long) within;
        reads = λ second source. (same.each (member_disk device second) sector).reads ∙ written.each i run device sector content second less at on;
        sure = λ second source. sure device sector second within;
      };
}

-- no place of a list is empty
pub none_past : {X : Type 0} → (xs : List X) (i : ℕ) → slice_get xs i ≡ None → i < length xs → ⊥
none_past xs i none less = ⊎_elim
    (λ found. let (x, below, is, got) = found in let wrong = sym is ∙ none in absurd cc)
    (λ past. let far = past.0 in absurd (omega (arith, far, less)))
    (slice_get_cases xs i).1

-- what both members read of a write that is alone, they go on reading
pub written_kept : (writes : List Sent) (greatest : ℕ) (write : Sent) (old new : Disks) → IsAlone writes greatest write → KeepsMembers writes greatest old new
    → AreWritten old write.runs (length write.runs) → AreWritten new write.runs (length write.runs)
written_kept writes greatest write old new alone keeps was = record {
  each = λ j run device sector content second less at brings.
      keeps.reads device sector second content (alone.only device sector content (run, there_at write.runs j run at, brings)) (was.each j run device sector content second less at brings);
}

pub written_same : (runs : List Run) (count : ℕ) (old new : Disks) → SameDisks old new → AreWritten old runs count → AreWritten new runs count
written_same runs count old new same was = record {
  each = λ j run device sector content second less at brings. (same.each (member_disk device second) sector).reads ∙ was.each j run device sector content second less at brings;
}

-- one device more is sure
pub sure_more : (old new : Disks) (count : ℕ) → SameDisks old new
    → ((device sector : ℕ) (second : Bool) → device < count → old.unsure (member_disk device second) sector ≡ false)
    → ((sector : ℕ) (second : Bool) → new.unsure (member_disk count second) sector ≡ false)
    → (device sector : ℕ) (second : Bool) → device < count + 1 → new.unsure (member_disk device second) sector ≡ false
sure_more old new count same before here device sector second less = by_place (device == count) refl
  where
    by_place : (b : Bool) → (device == count) ≡ b → new.unsure (member_disk device second) sector ≡ false
    by_place true is = let e : device ≡ count = grind (arith, nat_tests, is) in subst (λ (d : ℕ). new.unsure (member_disk d second) sector ≡ false) (sym e) (here sector second)
    by_place false other = (same.each (member_disk device second) sector).sure (before device sector second (grind (arith, nat_tests, other, less)))
