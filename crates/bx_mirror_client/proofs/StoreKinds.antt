-- All that is sent is of a store's kinds.
use Rattle.std.proofs.Common.{◌≡◌, ℕ, ◌≤◌, ◌+◌, Bool, true, false, List, [], ◌∷◌, ◌++◌, Contains, Option, Some, None, refl, sym, subst, inl, inr, lit≤, arith, append_assoc, ◌∙◌, ap}
use Rattle.std.specs.Prelude.{◌==◌, ◌&&◌, ◌||◌, ltb, slice_get, if◌then◌else◌}
use Rattle.std.proofs.lemmas.Bool.Decides.{nat_tests}
use Rattle.std.proofs.lemmas.List.Elements.{Contains-append_cases, Contains-append_left}
use Rattle.bx_facts.proofs.Lists.{front_or_behind, nothing}
use Rattle.bx_facts.specs.Inputs.{IsStores, SendsOnly}
use Rattle.bx_post.specs.declared.packets.Letter.{Letter}
use Rattle.bx_rows.specs.declared.device.DeviceRow.{DeviceRow}
use Rattle.bx_mirror_client.specs.declared.asking.Asking.{Asking}
use Rattle.bx_mirror_client.specs.declared.sending.Sending.{Sending}
use Rattle.bx_mirror_client.specs.Asks.{is_awaited}
use Rattle.bx_mirror_client.specs.Letters.{is_new_epoch, letters_from, read_in, read_letter, read_letters, to_device, to_member, write_letter, write_letters}
use Rattle.bx_mirror_client.specs.Sends.{has_runs, is_missing, write_kind}
use Rattle.bx_mirror_client.specs.Streams.{Streaming, letters_since}

-- ---- kinds

least_kind : (kind : ℕ) → 14 ≤ write_kind kind
least_kind kind = by (ltb kind 14 || ltb 18 kind) refl
  where
    by : (b : Bool) → (ltb kind 14 || ltb 18 kind) ≡ b → 14 ≤ (if b then 14 else kind)
    by true h = lit≤ tt
    by false h = grind (arith, nat_tests, h)

most_kind : (kind : ℕ) → write_kind kind ≤ 24
most_kind kind = by (ltb kind 14 || ltb 18 kind) refl
  where
    by : (b : Bool) → (ltb kind 14 || ltb 18 kind) ≡ b → (if b then 14 else kind) ≤ 24
    by true h = lit≤ tt
    by false h = grind (arith, nat_tests, h)

-- ---- letters

-- each letter is of a store's kinds
pub record AreStores (letters : List Letter) : Type 0 where
  pub each : (letter : Letter) → Contains letters letter → IsStores letter

none_sent : AreStores []
none_sent = record { each = λ letter has. absurd (nothing letter has) }

one_sent : (letter : Letter) → IsStores letter → AreStores (letter ∷ [])
one_sent letter is = record { each = λ other has. elim (front_or_behind letter [] other has) [ inl here ↦ subst IsStores here is | inr there ↦ absurd (nothing other there) ] }

both_sent : (letters more : List Letter) → AreStores letters → AreStores more → AreStores (letters ++ more)
both_sent letters more are too = record { each = λ letter has. elim (Contains-append_cases letters more letter has) [ inl a ↦ are.each letter a | inr b ↦ too.each letter b ] }

if_sent : (b : Bool) (letters : List Letter) → AreStores letters → AreStores (if b then letters else [])
if_sent true letters are = are
if_sent false letters are = none_sent

unless_sent : (b : Bool) (letters : List Letter) → AreStores letters → AreStores (if b then [] else letters)
unless_sent true letters are = none_sent
unless_sent false letters are = are

member_sent : (node : ℕ) (s : Sending) (device : ℕ) (row : DeviceRow) (second : Bool) → AreStores (to_member node s device row second)
member_sent node s device row second =
    if_sent (is_missing s.acks device row second) (write_letter node s device row second ∷ []) (one_sent (write_letter node s device row second) (record { least = least_kind s.runs.0; most = most_kind s.runs.0 }))

device_sent : (before : List DeviceRow) (node : ℕ) (s : Sending) (device : ℕ) (row : DeviceRow) → AreStores (to_device before node s device row)
device_sent before node s device row =
    if_sent (is_new_epoch before device row && has_runs device s.runs.1) (to_member node s device row false ++ to_member node s device row true)
    (both_sent (to_member node s device row false) (to_member node s device row true) (member_sent node s device row false) (member_sent node s device row true))

all_sent : (before : List DeviceRow) (node : ℕ) (s : Sending) (device : ℕ) (rows : List DeviceRow) → AreStores (letters_from before node s device rows)
all_sent before node s device [] = none_sent
all_sent before node s device (row ∷ rows) = both_sent (to_device before node s device row) (letters_from before node s (device + 1) rows) (device_sent before node s device row) (all_sent before node s (device + 1) rows)

writes_sent : (before : List DeviceRow) (node : ℕ) (out : Option Sending) (rows : List DeviceRow) → AreStores (write_letters before node out rows)
writes_sent before node None rows = none_sent
writes_sent before node (Some s) rows = unless_sent (s.sequence == 0) (letters_from before node s 0 rows) (all_sent before node s 0 rows)

row_asked : (before : List DeviceRow) (node : ℕ) (a : Asking) (row : Option DeviceRow) → AreStores (read_in before node a row)
row_asked before node a None = none_sent
row_asked before node a (Some row) = if_sent (is_new_epoch before a.device row && is_awaited a) (read_letter node a row ∷ []) (one_sent (read_letter node a row) (record { least = lit≤ tt; most = lit≤ tt }))

reads_sent : (before : List DeviceRow) (node : ℕ) (asks : Option Asking) (rows : List DeviceRow) → AreStores (read_letters before node asks rows)
reads_sent before node None rows = none_sent
reads_sent before node (Some a) rows = row_asked before node a (slice_get rows a.device)

since_sent : (before : List DeviceRow) (c : Streaming) → AreStores (letters_since before c)
since_sent before c = both_sent (write_letters before c.node c.out c.rows) (read_letters before c.node c.asks c.rows) (writes_sent before c.node c.out c.rows) (reads_sent before c.node c.asks c.rows)

-- ---- a box with letters more

more_sent : (old letters new : List Letter) → AreStores letters → new ≡ old ++ letters → SendsOnly IsStores old new
more_sent old letters new are is = subst (SendsOnly IsStores old) (sym is) (record {
  kept = λ letter has. Contains-append_left old letters letter has;
  each = λ letter has. elim (Contains-append_cases old letters letter has) [ inl a ↦ inl a | inr b ↦ inr (are.each letter b) ];
})

pub sends_writes : (before : List DeviceRow) (node : ℕ) (out : Option Sending) (rows : List DeviceRow) (old new : List Letter) → new ≡ old ++ write_letters before node out rows → SendsOnly IsStores old new
sends_writes before node out rows old new is = more_sent old (write_letters before node out rows) new (writes_sent before node out rows) is

pub sends_reads : (before : List DeviceRow) (node : ℕ) (asks : Option Asking) (rows : List DeviceRow) (old new : List Letter) → new ≡ old ++ read_letters before node asks rows → SendsOnly IsStores old new
sends_reads before node asks rows old new is = more_sent old (read_letters before node asks rows) new (reads_sent before node asks rows) is

pub sends_since : (before : List DeviceRow) (c : Streaming) (old new : List Letter) → new ≡ old ++ letters_since before c → SendsOnly IsStores old new
sends_since before c old new is = more_sent old (letters_since before c) new (since_sent before c) is

-- once, and then again
pub sends_twice : (before later : List DeviceRow) (c d : Streaming) (old mid new : List Letter) → mid ≡ old ++ letters_since before c → new ≡ mid ++ letters_since later d → SendsOnly IsStores old new
sends_twice before later c d old mid new first second =
    more_sent old (letters_since before c ++ letters_since later d) new (both_sent (letters_since before c) (letters_since later d) (since_sent before c) (since_sent later d))
    (second ∙ ap (λ (letters : List Letter). letters ++ letters_since later d) first ∙ append_assoc old (letters_since before c) (letters_since later d))
