-- What a write's end and its letters mean.
use Rattle.std.proofs.Common.{◌≡◌, ◌⊎◌, inl, inr, ℕ, zero, suc, ◌+◌, Bool, true, false, Contains, List, [], ◌∷◌, ◌++◌, Some, None, refl, sym, ◌∙◌, ap, subst, arith}
use Rattle.std.specs.Prelude.{◌↔◌, ◌==◌, ◌&&◌, ◌||◌, not, slice_get, if◌then◌else◌}
use Rattle.std.proofs.lemmas.Bool.Decides.{nat_tests}
use Rattle.std.proofs.lemmas.List.Elements.{Contains-append_cases, Contains-append_left, Contains-append_right}
use Rattle.bx_facts.proofs.Lists.{behind, front, front_or_behind, nothing}
use Rattle.bx_post.specs.declared.packets.Letter.{Letter}
use Rattle.bx_records.specs.declared.runs.Run.{Run}
use Rattle.bx_rows.specs.Modes.{IsWritten}
use Rattle.bx_rows.specs.declared.device.DeviceRow.{DeviceRow}
use Rattle.bx_mirror_client.specs.declared.sending.Ack.{Ack}
use Rattle.bx_mirror_client.specs.declared.sending.Sending.{Sending}
use Rattle.bx_mirror_client.specs.Letters.{is_new_epoch, letters_from, to_device, to_member, write_letter}
use Rattle.bx_mirror_client.specs.Sends.{has_runs, is_ack, is_acked, is_done, is_done_from, is_missing, is_row_done, member_at, writes_to}
use Rattle.bx_mirror_client.specs.Telling.{HasAcked, HasRuns, IsDone, IsRowDone, IsTold}

-- ---- tests

pub both : (a b : Bool) → (a && b) ≡ true → (a ≡ true) × (b ≡ true)
both true b h = (refl, h)
both false b h = absurd cc

joined : (a b : Bool) → a ≡ true → b ≡ true → (a && b) ≡ true
joined true b h k = k
joined false b h k = absurd cc

either : (a b : Bool) → (a || b) ≡ true → (a ≡ true) ⊎ (b ≡ true)
either true b h = inl refl
either false b h = inr h

first_of : (a b : Bool) → a ≡ true → (a || b) ≡ true
first_of true b h = refl
first_of false b h = absurd cc

second_of : (a b : Bool) → b ≡ true → (a || b) ≡ true
second_of true b h = refl
second_of false b h = h

isnt : (a : Bool) → not a ≡ true → a ≡ true → ⊥
isnt true h k = absurd cc
isnt false h k = absurd cc

is_not : (a : Bool) → (a ≡ true → ⊥) → not a ≡ true
is_not true h = absurd (h refl)
is_not false h = refl

pub same_number : (n m : ℕ) → (n == m) ≡ true → n ≡ m
same_number n m h = grind (arith, nat_tests, h)

pub is_same : (n m : ℕ) → n ≡ m → (n == m) ≡ true
is_same n m h = grind (arith, nat_tests, h)

-- ---- runs, acknowledgements and modes

pub runs_there : (device : ℕ) (runs : List Run) → has_runs device runs ≡ true → HasRuns device runs
runs_there device [] h = absurd cc
runs_there device (run ∷ runs) h = elim (either (run.device == device) (has_runs device runs) h) [
  | inl here ↦ (run, front run runs, same_number run.device device here)
  | inr there ↦ (let has = runs_there device runs there in (has.0, behind run runs has.0 has.1, has.2))
]

pub there_runs : (device : ℕ) (runs : List Run) → HasRuns device runs → has_runs device runs ≡ true
there_runs device [] has = absurd (nothing has.0 has.1)
there_runs device (run ∷ runs) has = elim (front_or_behind run runs has.0 has.1) [
  | inl here ↦ first_of (run.device == device) (has_runs device runs) (is_same run.device device (ap (λ (r : Run). r.device) here ∙ has.2))
  | inr there ↦ second_of (run.device == device) (has_runs device runs) (there_runs device runs (has.0, there, has.2))
]

abbrev ack_of : ℕ → ℕ → Ack
ack_of member epoch = record { member = member; epoch = epoch }

pub acked_there : (acks : List Ack) (member epoch : ℕ) → is_acked acks member epoch ≡ true → HasAcked acks member epoch
acked_there [] member epoch h = absurd cc
acked_there (ack ∷ acks) member epoch h = elim (either (is_ack member epoch ack) (is_acked acks member epoch) h) [
  | inl here ↦ (
      let parts = both (ack.member == member) (ack.epoch == epoch) here in
      let same : ack ≡ ack_of member epoch = ap (λ (m : ℕ). ack_of m ack.epoch) (same_number ack.member member parts.0) ∙ ap (λ (e : ℕ). ack_of member e) (same_number ack.epoch epoch parts.1) in
      subst (λ (a : Ack). Contains (ack ∷ acks) a) same (front ack acks))
  | inr there ↦ behind ack acks (ack_of member epoch) (acked_there acks member epoch there)
]

pub there_acked : (acks : List Ack) (member epoch : ℕ) → HasAcked acks member epoch → is_acked acks member epoch ≡ true
there_acked [] member epoch has = absurd (nothing (ack_of member epoch) has)
there_acked (ack ∷ acks) member epoch has = elim (front_or_behind ack acks (ack_of member epoch) has) [
  | inl here ↦ first_of (is_ack member epoch ack) (is_acked acks member epoch)
      (joined (ack.member == member) (ack.epoch == epoch) (is_same ack.member member (ap (λ (a : Ack). a.member) here)) (is_same ack.epoch epoch (ap (λ (a : Ack). a.epoch) here)))
  | inr there ↦ second_of (is_ack member epoch ack) (is_acked acks member epoch) (there_acked acks member epoch there)
]

pub written : (mode : ℕ) (second : Bool) → writes_to mode second ≡ true → IsWritten mode second
written mode false h = elim (either (mode == 0) (mode == 1) h) [ inl e ↦ inl (same_number mode 0 e) | inr e ↦ inr (same_number mode 1 e) ]
written mode true h = elim (either (mode == 0) (mode == 2) h) [ inl e ↦ inl (same_number mode 0 e) | inr e ↦ inr (same_number mode 2 e) ]

pub writes : (mode : ℕ) (second : Bool) → IsWritten mode second → writes_to mode second ≡ true
writes mode false h = elim h [ inl e ↦ first_of (mode == 0) (mode == 1) (is_same mode 0 e) | inr e ↦ second_of (mode == 0) (mode == 1) (is_same mode 1 e) ]
writes mode true h = elim h [ inl e ↦ first_of (mode == 0) (mode == 2) (is_same mode 0 e) | inr e ↦ second_of (mode == 0) (mode == 2) (is_same mode 2 e) ]

-- ---- when a device is done

-- who is written and not missing has acknowledged
not_missing : (acks : List Ack) (device : ℕ) (row : DeviceRow) (second : Bool) → not (is_missing acks device row second) ≡ true → writes_to row.mode second ≡ true → is_acked acks (member_at device second) row.epoch ≡ true
not_missing acks device row second h w = by (writes_to row.mode second) (is_acked acks (member_at device second) row.epoch) h w
  where
    by : (a b : Bool) → not (a && not b) ≡ true → a ≡ true → b ≡ true
    by true true h w = refl
    by true false h w = h
    by false b h w = absurd cc

acked_not_missing : (acks : List Ack) (device : ℕ) (row : DeviceRow) (second : Bool) → (writes_to row.mode second ≡ true → is_acked acks (member_at device second) row.epoch ≡ true) → is_missing acks device row second ≡ true → ⊥
acked_not_missing acks device row second acked h =
    let parts = both (writes_to row.mode second) (not (is_acked acks (member_at device second) row.epoch)) h in
    isnt (is_acked acks (member_at device second) row.epoch) parts.1 (acked parts.0)

not_either : (a b : Bool) → not (a || b) ≡ true → (not a ≡ true) × (not b ≡ true)
not_either true b h = absurd cc
not_either false b h = (refl, h)

pub row_done : (acks : List Ack) (device : ℕ) (row : DeviceRow) → is_row_done acks device row ≡ true → IsRowDone acks device row
row_done acks device row h =
    let parts = both (writes_to row.mode false || writes_to row.mode true) (not (is_missing acks device row false || is_missing acks device row true)) h in
    let each = not_either (is_missing acks device row false) (is_missing acks device row true) parts.1 in
    record {
      writes = elim (either (writes_to row.mode false) (writes_to row.mode true) parts.0) [ inl a ↦ inl (written row.mode false a) | inr b ↦ inr (written row.mode true b) ];
      acked = λ second w. by_member second w each.0 each.1;
    }
  where
    by_member : (second : Bool) → IsWritten row.mode second → not (is_missing acks device row false) ≡ true → not (is_missing acks device row true) ≡ true → HasAcked acks (member_at device second) row.epoch
    by_member false w a b = acked_there acks (member_at device false) row.epoch (not_missing acks device row false a (writes row.mode false w))
    by_member true w a b = acked_there acks (member_at device true) row.epoch (not_missing acks device row true b (writes row.mode true w))

pub done_row : (acks : List Ack) (device : ℕ) (row : DeviceRow) → IsRowDone acks device row → is_row_done acks device row ≡ true
done_row acks device row done =
    let some : (writes_to row.mode false || writes_to row.mode true) ≡ true = elim done.writes [
      | inl a ↦ first_of (writes_to row.mode false) (writes_to row.mode true) (writes row.mode false a)
      | inr b ↦ second_of (writes_to row.mode false) (writes_to row.mode true) (writes row.mode true b)
    ] in
    joined (writes_to row.mode false || writes_to row.mode true) (not (is_missing acks device row false || is_missing acks device row true)) some
    (is_not (is_missing acks device row false || is_missing acks device row true) (λ m. elim (either (is_missing acks device row false) (is_missing acks device row true) m) [
      | inl a ↦ none_missing false a
      | inr b ↦ none_missing true b
    ]))
  where
    none_missing : (second : Bool) → is_missing acks device row second ≡ true → ⊥
    none_missing second m = acked_not_missing acks device row second (λ w. there_acked acks (member_at device second) row.epoch (done.acked second (written row.mode second w))) m

-- ---- when a write is done

when : (a b : Bool) → (not a || b) ≡ true → a ≡ true → b ≡ true
when true b h e = h
when false b h e = absurd cc

unless : (a b : Bool) → (a ≡ true → b ≡ true) → (not a || b) ≡ true
unless true b h = h refl
unless false b h = refl

abbrev AllDone : List Ack → List Run → ℕ → List DeviceRow → Type 0
AllDone acks runs first rows = (k : ℕ) (row : DeviceRow) → slice_get rows k ≡ Some row → HasRuns (first + k) runs → IsRowDone acks (first + k) row

each_done : (acks : List Ack) (runs : List Run) (first : ℕ) (rows : List DeviceRow) → is_done_from acks runs first rows ≡ true → AllDone acks runs first rows
each_done acks runs first [] h k row there has = absurd (let no : None ≡ Some row = there in cc)
each_done acks runs first (r ∷ rows) h zero row there has =
    let parts = both (not (has_runs first runs) || is_row_done acks first r) (is_done_from acks runs (first + 1) rows) h in
    let same : r ≡ row = (let e : Some r ≡ Some row = there in cc) in
    let here : first + 0 ≡ first = omega arith in
    let done = row_done acks first r (when (has_runs first runs) (is_row_done acks first r) parts.0 (there_runs first runs (subst (λ (n : ℕ). HasRuns n runs) here has))) in
    subst (λ (n : ℕ). IsRowDone acks n row) (sym here) (subst (λ (q : DeviceRow). IsRowDone acks first q) same done)
each_done acks runs first (r ∷ rows) h (suc k) row there has =
    let parts = both (not (has_runs first runs) || is_row_done acks first r) (is_done_from acks runs (first + 1) rows) h in
    let here : first + suc k ≡ (first + 1) + k = omega arith in
    subst (λ (n : ℕ). IsRowDone acks n row) (sym here) (each_done acks runs (first + 1) rows parts.1 k row there (subst (λ (n : ℕ). HasRuns n runs) here has))

all_done : (acks : List Ack) (runs : List Run) (first : ℕ) (rows : List DeviceRow) → AllDone acks runs first rows → is_done_from acks runs first rows ≡ true
all_done acks runs first [] each = refl
all_done acks runs first (r ∷ rows) each =
    joined (not (has_runs first runs) || is_row_done acks first r) (is_done_from acks runs (first + 1) rows)
    (unless (has_runs first runs) (is_row_done acks first r) (λ h. done_row acks first r (subst (λ (n : ℕ). IsRowDone acks n r) here (each 0 r refl (subst (λ (n : ℕ). HasRuns n runs) (sym here) (runs_there first runs h))))))
    (all_done acks runs (first + 1) rows later)
  where
    here : first + 0 ≡ first
    here = omega arith

    later : AllDone acks runs (first + 1) rows
    later k row there has =
        let next : first + suc k ≡ (first + 1) + k = omega arith in
        subst (λ (n : ℕ). IsRowDone acks n row) next (each (suc k) row there (subst (λ (n : ℕ). HasRuns n runs) (sym next) has))

from_zero : (k : ℕ) → 0 + k ≡ k
from_zero k = omega arith

pub done_is : (s : Sending) (rows : List DeviceRow) → (is_done s rows ≡ true) ↔ IsDone s rows
done_is s rows = (λ h. record { each = λ k row there has. here h k row there has }, λ done. all_done s.acks s.runs.1 0 rows (λ k row there has. there_done done k row there has))
  where
    here : is_done s rows ≡ true → (k : ℕ) (row : DeviceRow) → slice_get rows k ≡ Some row → HasRuns k s.runs.1 → IsRowDone s.acks k row
    here h k row there has = subst (λ (n : ℕ). IsRowDone s.acks n row) (from_zero k) (each_done s.acks s.runs.1 0 rows h k row there (subst (λ (n : ℕ). HasRuns n s.runs.1) (sym (from_zero k)) has))

    there_done : IsDone s rows → (k : ℕ) (row : DeviceRow) → slice_get rows k ≡ Some row → HasRuns (0 + k) s.runs.1 → IsRowDone s.acks (0 + k) row
    there_done done k row there has = subst (λ (n : ℕ). IsRowDone s.acks n row) (sym (from_zero k)) (done.each k row there (subst (λ (n : ℕ). HasRuns n s.runs.1) (from_zero k) has))

-- ---- who is told

-- a device's letters are those of its members
in_device : (before : List DeviceRow) (node : ℕ) (s : Sending) (device : ℕ) (row : DeviceRow) (letter : Letter) → Contains (to_device before node s device row) letter
    → (second : Bool) × (is_new_epoch before device row ≡ true) × (has_runs device s.runs.1 ≡ true) × (is_missing s.acks device row second ≡ true) × (letter ≡ write_letter node s device row second)
in_device before node s device row letter has = by (is_new_epoch before device row && has_runs device s.runs.1) refl has
  where
    alone : (second : Bool) (m : Bool) → is_missing s.acks device row second ≡ m → Contains (if m then write_letter node s device row second ∷ [] else []) letter → (m ≡ true) × (letter ≡ write_letter node s device row second)
    alone second true e there = elim (front_or_behind (write_letter node s device row second) [] letter there) [ inl is ↦ (refl, sym is) | inr none ↦ absurd (nothing letter none) ]
    alone second false e there = absurd (nothing letter there)

    by : (b : Bool) → (is_new_epoch before device row && has_runs device s.runs.1) ≡ b → Contains (if b then to_member node s device row false ++ to_member node s device row true else []) letter
        → (second : Bool) × (is_new_epoch before device row ≡ true) × (has_runs device s.runs.1 ≡ true) × (is_missing s.acks device row second ≡ true) × (letter ≡ write_letter node s device row second)
    by false e there = absurd (nothing letter there)
    by true e there =
        let parts = both (is_new_epoch before device row) (has_runs device s.runs.1) e in
        elim (Contains-append_cases (to_member node s device row false) (to_member node s device row true) letter there) [
          | inl a ↦ (let is = alone false (is_missing s.acks device row false) refl a in (false, parts.0, parts.1, is.0, is.1))
          | inr b ↦ (let is = alone true (is_missing s.acks device row true) refl b in (true, parts.0, parts.1, is.0, is.1))
        ]

of_device : (before : List DeviceRow) (node : ℕ) (s : Sending) (device : ℕ) (row : DeviceRow) (second : Bool) → is_new_epoch before device row ≡ true → has_runs device s.runs.1 ≡ true → is_missing s.acks device row second ≡ true
    → Contains (to_device before node s device row) (write_letter node s device row second)
of_device before node s device row second new runs missing =
    subst (λ (b : Bool). Contains (if b then to_member node s device row false ++ to_member node s device row true else []) (write_letter node s device row second)) (sym (joined (is_new_epoch before device row) (has_runs device s.runs.1) new runs))
    (by second missing)
  where
    mine : (which : Bool) → is_missing s.acks device row which ≡ true → Contains (to_member node s device row which) (write_letter node s device row which)
    mine which m = subst (λ (b : Bool). Contains (if b then write_letter node s device row which ∷ [] else []) (write_letter node s device row which)) (sym m) (front (write_letter node s device row which) [])

    by : (which : Bool) → is_missing s.acks device row which ≡ true → Contains (to_member node s device row false ++ to_member node s device row true) (write_letter node s device row which)
    by false m = Contains-append_left (to_member node s device row false) (to_member node s device row true) (write_letter node s device row false) (mine false m)
    by true m = Contains-append_right (to_member node s device row false) (to_member node s device row true) (write_letter node s device row true) (mine true m)

-- the letters of all devices
in_all : (before : List DeviceRow) (node : ℕ) (s : Sending) (first : ℕ) (rows : List DeviceRow) (letter : Letter) → Contains (letters_from before node s first rows) letter
    → (k : ℕ) × (row : DeviceRow) × (slice_get rows k ≡ Some row) × Contains (to_device before node s (first + k) row) letter
in_all before node s first [] letter has = absurd (nothing letter has)
in_all before node s first (r ∷ rows) letter has = elim (Contains-append_cases (to_device before node s first r) (letters_from before node s (first + 1) rows) letter has) [
  | inl here ↦ (0, r, refl, (let e : first ≡ first + 0 = omega arith in subst (λ (n : ℕ). Contains (to_device before node s n r) letter) e here))
  | inr there ↦ (
      let more = in_all before node s (first + 1) rows letter there in
      let e : (first + 1) + more.0 ≡ first + suc more.0 = omega arith in
      (suc more.0, more.1, more.2, subst (λ (n : ℕ). Contains (to_device before node s n more.1) letter) e more.3))
]

of_all : (before : List DeviceRow) (node : ℕ) (s : Sending) (first : ℕ) (rows : List DeviceRow) (letter : Letter) (k : ℕ) (row : DeviceRow) → slice_get rows k ≡ Some row → Contains (to_device before node s (first + k) row) letter
    → Contains (letters_from before node s first rows) letter
of_all before node s first [] letter k row there has = absurd (let no : None ≡ Some row = there in cc)
of_all before node s first (r ∷ rows) letter zero row there has =
    let same : row ≡ r = (let e : Some r ≡ Some row = there in cc) in
    let here : first + 0 ≡ first = omega arith in
    Contains-append_left (to_device before node s first r) (letters_from before node s (first + 1) rows) letter
    (subst (λ (q : DeviceRow). Contains (to_device before node s first q) letter) same (subst (λ (n : ℕ). Contains (to_device before node s n row) letter) here has))
of_all before node s first (r ∷ rows) letter (suc k) row there has =
    let e : first + suc k ≡ (first + 1) + k = omega arith in
    Contains-append_right (to_device before node s first r) (letters_from before node s (first + 1) rows) letter
    (of_all before node s (first + 1) rows letter k row there (subst (λ (n : ℕ). Contains (to_device before node s n row) letter) e has))

pub letters_are : (before rows : List DeviceRow) (node : ℕ) (s : Sending) (letter : Letter) → Contains (letters_from before node s 0 rows) letter ↔ IsTold before node s rows letter
letters_are before rows node s letter = (λ has. found_told (in_all before node s 0 rows letter has), λ is. lies is)
  where
    told : (k : ℕ) × (row : DeviceRow) × (slice_get rows k ≡ Some row) × Contains (to_device before node s k row) letter → IsTold before node s rows letter
    told found =
        let is = in_device before node s found.0 found.1 letter found.3 in
        let parts = both (writes_to found.1.mode is.0) (not (is_acked s.acks (member_at found.0 is.0) found.1.epoch)) is.3 in
        record {
          device = found.0;
          second = is.0;
          row = found.1;
          there = found.2;
          runs = runs_there found.0 s.runs.1 is.2;
          epoch = is.1;
          written = written found.1.mode is.0 parts.0;
          not_acked = λ has. isnt (is_acked s.acks (member_at found.0 is.0) found.1.epoch) parts.1 (there_acked s.acks (member_at found.0 is.0) found.1.epoch has);
          is = is.4;
        }

    found_told : (k : ℕ) × (row : DeviceRow) × (slice_get rows k ≡ Some row) × Contains (to_device before node s (0 + k) row) letter → IsTold before node s rows letter
    found_told found = told (found.0, found.1, found.2, subst (λ (n : ℕ). Contains (to_device before node s n found.1) letter) (from_zero found.0) found.3)

    lies : IsTold before node s rows letter → Contains (letters_from before node s 0 rows) letter
    lies t =
        let missing = joined (writes_to t.row.mode t.second) (not (is_acked s.acks (member_at t.device t.second) t.row.epoch)) (writes t.row.mode t.second t.written)
        (is_not (is_acked s.acks (member_at t.device t.second) t.row.epoch) (λ a. t.not_acked (acked_there s.acks (member_at t.device t.second) t.row.epoch a))) in
        of_all before node s 0 rows letter t.device t.row t.there
        (subst (λ (n : ℕ). Contains (to_device before node s n t.row) letter) (sym (from_zero t.device))
        (subst (Contains (to_device before node s t.device t.row)) (sym t.is) (of_device before node s t.device t.row t.second t.epoch (there_runs t.device s.runs.1 t.runs) missing)))
