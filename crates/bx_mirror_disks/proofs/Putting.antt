-- Runs that are put one after the other.
use Rattle.std.proofs.Common.{◌≡◌, ℕ, zero, suc, ◌+◌, ◌-◌, ◌<◌, inl, ⊎_elim, Bool, true, false, List, [], ◌∷◌, length, Contains, Some, None, refl, sym, ◌∙◌, ap, subst, arith, slice_get}
use Rattle.std.specs.Prelude.{◌==◌}
use Rattle.std.proofs.lemmas.Bool.Decides.{nat_tests}
use Rattle.std.proofs.lemmas.Option.{slice_get_within, slice_get_read, slice_get_cases, get_or_from_slice_get}
use Rattle.std.proofs.lemmas.List.Elements.{Contains-get_or}
use Rattle.bx_calls.specs.Calls.{LeavesOnly}
use Rattle.bx_calls.specs.Laws.{leaves_implies}
use Rattle.bx_calls.specs.Regions.{ReadsAs}
use Rattle.bx_disk.specs.Disks.{Disks, Image}
use Rattle.bx_facts.specs.Writes.{IsOnly, Sent, Writes, WritesIn, WritesTo, member_disk}
use Rattle.bx_members.proofs.Kept.{brought_is}
use Rattle.bx_members.specs.Members.{HasMembers, IsTaken, KeepsMembers}
use Rattle.bx_mirror_disks.specs.Puts.{AllLieIn, AreBrought, PutsRuns}
use Rattle.bx_records.specs.declared.runs.Run.{Run}

pub there_at : {X : Type 0} → (xs : List X) (i : ℕ) (x : X) → slice_get xs i ≡ Some x → Contains xs x
there_at xs i x is = subst (Contains xs) (get_or_from_slice_get xs i x x is) (Contains-get_or xs i x (slice_get_within xs i x is))

-- no place of a list is empty
pub none_past : {X : Type 0} → (xs : List X) (i : ℕ) → slice_get xs i ≡ None → i < length xs → ⊥
none_past xs i none less = ⊎_elim
    (λ found. let (x, below, is, got) = found in let wrong = sym is ∙ none in absurd cc)
    (λ past. let far = past.0 in absurd (omega (arith, far, less)))
    (slice_get_cases xs i).1

only_one : {X : Type 0} → (x y : X) → Contains (x ∷ []) y → y ≡ x
only_one x y (zero, less, is) = sym is
only_one x y (suc k, less, is) = absurd (omega (arith, less))

-- ---- the write of some runs alone, which isn't over

abbrev pub lone : List Run → Sent
lone runs = record { session = 0; until = 0; runs = runs }

pub lone_taken : (runs : List Run) (run : Run) → Contains runs run → IsTaken (lone runs ∷ []) 0 run
lone_taken runs run has = record { write = lone runs; there = (0, omega arith, refl); has = has; not_over = λ over. absurd (omega (arith, over)) }

pub lone_brought : (device : ℕ) (runs : List Run) → AreBrought (lone runs ∷ []) 0 device runs
lone_brought device runs = record { each = λ x content brings. record { write = lone runs; there = (0, omega arith, refl); brings = brings; not_over = λ over. absurd (omega (arith, over)) } }

-- what it alone brings to a sector
pub lone_only : (runs : List Run) (at sector : ℕ) (content : List ℕ) → ((other : List ℕ) → WritesIn runs at sector other → other ≡ content) → IsOnly (lone runs ∷ []) 0 at sector content
lone_only runs at sector content unique = record {
  each = λ write other there brings. inl (unique other (subst (λ (w : Sent). WritesTo w at sector other) (only_one (lone runs) write there) brings));
}

module _ (writes : List Sent) (greatest device room : ℕ) (runs : List Run) (run : Run) (lie : AllLieIn device room runs) (brought : AreBrought writes greatest device runs) (has : Contains runs run) where
  only_run : (at sector : ℕ) (content : List ℕ) → IsOnly writes greatest at sector content → IsOnly (lone (run ∷ []) ∷ []) 0 at sector content
  only_run at sector content only = lone_only (run ∷ []) at sector content (λ other brings.
      let one : brings.0 ≡ run = only_one run brings.0 brings.1 in
      let writes_it : Writes run at sector other = subst (λ (r : Run). Writes r at sector other) one brings.2 in
      let here : device ≡ at = sym (lie.each run has).on ∙ writes_it.on in
      let brings_it = brought.each sector other (run, has, subst (λ (d : ℕ). Writes run d sector other) (sym here) writes_it) in
      brought_is writes greatest device sector other content brings_it (subst (λ (d : ℕ). IsOnly writes greatest d sector content) (sym here) only))

  pub keeps_run : (old new : Disks) → KeepsMembers (lone (run ∷ []) ∷ []) 0 old new → KeepsMembers writes greatest old new
  keeps_run old new keeps = record {
    reads = λ at sector second content only here. keeps.reads at sector second content (only_run at sector content only) here;
    sure = λ at sector second content only here was. keeps.sure at sector second content (only_run at sector content only) here was;
    replicas = keeps.replicas;
  }

  has_run : (old : Disks) (image : Image) → HasMembers (lone (run ∷ []) ∷ []) 0 old image → HasMembers writes greatest old image
  has_run old image is = record {
    members = λ at sector second content only here was. is.members at sector second content (only_run at sector content only) here was;
    replicas = is.replicas;
  }

  pub leaves_run : (before now : ℕ) (past since : ℕ → Image → Type 0) (old : Disks) → LeavesOnly before now past since (HasMembers (lone (run ∷ []) ∷ []) 0 old) → LeavesOnly before now past since (HasMembers writes greatest old)
  leaves_run before now past since old leaves = leaves_implies before now past since (HasMembers (lone (run ∷ []) ∷ []) 0 old) (HasMembers writes greatest old) leaves (λ image is. has_run old image is)

-- ---- the first so many runs stand

pub record StandTo (disk device : ℕ) (runs : List Run) (count : ℕ) (x : Disks) : Type 0 where
  pub each : (j : ℕ) (run : Run) (sector : ℕ) (content : List ℕ) → j < count → slice_get runs j ≡ Some run → Writes run device sector content
      → ((other : List ℕ) → WritesIn runs device sector other → other ≡ content) → x.reads disk sector ≡ content

pub stand_none : (disk device : ℕ) (runs : List Run) (x : Disks) → StandTo disk device runs 0 x
stand_none disk device runs x = record { each = λ j run sector content less at brings unique. absurd (omega (arith, less)) }

reads_run : (x : Disks) (disk device : ℕ) (run : Run) (sector : ℕ) (content : List ℕ) → ReadsAs x.reads disk run.place run.bytes → Writes run device sector content → x.reads disk sector ≡ content
reads_run x disk device run sector content reads at =
    let least = at.from in
    let less = at.below in
    let there : sector ≡ run.place + (sector - run.place) = omega (arith, least) in
    ap (x.reads disk) there ∙ reads.each (sector - run.place) (omega (arith, least, less)) ∙ at.is

pub stand_more : (disk device i : ℕ) (second : Bool) (runs : List Run) (run : Run) (old new : Disks) → disk ≡ member_disk device second → slice_get runs i ≡ Some run → KeepsMembers (lone runs ∷ []) 0 old new
    → ReadsAs new.reads disk run.place run.bytes → StandTo disk device runs i old → StandTo disk device runs (i + 1) new
stand_more disk device i second runs run old new is at_i keeps reads before = record {
  each = λ j other sector content less at brings unique. by_place j other sector content less at brings unique (j == i) refl;
}
  where
    by_place : (j : ℕ) (other : Run) (sector : ℕ) (content : List ℕ) → j < i + 1 → slice_get runs j ≡ Some other → Writes other device sector content
        → ((also : List ℕ) → WritesIn runs device sector also → also ≡ content) → (b : Bool) → (j == i) ≡ b → new.reads disk sector ≡ content
    by_place j other sector content less at brings unique true here =
        let e : j ≡ i = grind (arith, nat_tests, here) in
        let one : run ≡ other = (let a = sym at_i ∙ ap (slice_get runs) (sym e) ∙ at in cc) in
        reads_run new disk device other sector content (subst (λ (r : Run). ReadsAs new.reads disk r.place r.bytes) one reads) brings
    by_place j other sector content less at brings unique false elsewhere =
        let sooner : j < i = grind (arith, nat_tests, elsewhere, less) in
        let was = before.each j other sector content sooner at brings unique in
        subst (λ (d : ℕ). new.reads d sector ≡ content) (sym is)
        (keeps.reads device sector second content (lone_only runs device sector content unique) (subst (λ (d : ℕ). old.reads d sector ≡ content) is was))

-- all do
pub puts_all : (disk device : ℕ) (second : Bool) (runs : List Run) (old new : Disks) → disk ≡ member_disk device second → KeepsMembers (lone runs ∷ []) 0 old new → StandTo disk device runs (length runs) new
    → PutsRuns disk device runs old new
puts_all disk device second runs old new is keeps stand = record {
  written = λ x content brings unique.
      let has = brings.1 in
      let less : has.0 < length runs = has.1 in
      stand.each has.0 brings.0 x content less (slice_get_read runs (length runs) has.0 brings.0 refl less (sym has.2)) brings.2 unique;
  keeps = λ x content unique here.
      let only = lone_only runs device x content unique in
      let there = subst (λ (d : ℕ). old.reads d x ≡ content) is here in (
        subst (λ (d : ℕ). new.reads d x ≡ content) (sym is) (keeps.reads device x second content only there),
        λ was. subst (λ (d : ℕ). new.unsure d x ≡ false) (sym is) (keeps.sure device x second content only there (subst (λ (d : ℕ). old.unsure d x ≡ false) is was)),
      );
}
