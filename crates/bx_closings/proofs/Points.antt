-- The points of the records of logs, slot by slot, the oldest first in each.
use Rattle.std.proofs.Common.{◌≡◌, ℕ, zero, suc, ◌+◌, ◌<◌, Bool, false, List, [], ◌∷◌, ◌++◌, Contains, length, refl, sym, ap, ◌∙◌, append_assoc, arith}
use Rattle.std.specs.Prelude.{filter, map, reverse}
use Rattle.std.proofs.lemmas.List.{append-nil, map-append, reverse-append, reverse-reverse}
use Rattle.std.proofs.lemmas.List.Elements.{filter-append}
use Rattle.bx_base.specs.declared.names.Point.{Point}
use Rattle.bx_facts.proofs.Lists.{behind, front}
use Rattle.bx_logs.specs.Bodies.{point_of}
use Rattle.bx_logs.specs.Logs.{log_in, points_in}
use Rattle.bx_volume.specs.Overlay.{Logs}
use Rattle.bx_volume.specs.Records.{Logged}

-- those of one log, whose newest record comes first
abbrev pub points_at : List Logged → List Point
points_at records = map point_of (reverse records)

-- those of the first slots
abbrev pub points_to : Logs → ℕ → List Point
points_to logs zero = []
points_to logs (suc n) = points_to logs n ++ points_at (logs n)

-- those of so many slots from one on
points_from : Logs → ℕ → ℕ → List Point
points_from logs from zero = []
points_from logs from (suc n) = points_at (logs from) ++ points_from logs (suc from) n

from_one_more : (logs : Logs) (from n : ℕ) → points_from logs from (suc n) ≡ points_from logs from n ++ points_at (logs (from + n))
unfolding points_from
from_one_more logs from zero = append-nil (points_at (logs from)) ∙ ap (λ (k : ℕ). points_at (logs k)) (let e : from ≡ from + 0 = omega arith in e)
from_one_more logs from (suc n) =
    ap (λ (l : List Point). points_at (logs from) ++ l) (from_one_more logs (suc from) n)
    ∙ sym (append_assoc (points_at (logs from)) (points_from logs (suc from) n) (points_at (logs (suc from + n))))
    ∙ ap (λ (k : ℕ). (points_at (logs from) ++ points_from logs (suc from) n) ++ points_at (logs k)) (let e : suc from + n ≡ from + suc n = omega arith in e)

to_from : (logs : Logs) (n : ℕ) → points_to logs n ≡ points_from logs 0 n
unfolding points_from
to_from logs zero = refl
to_from logs (suc n) = ap (λ (l : List Point). l ++ points_at (logs n)) (to_from logs n) ∙ sym (from_one_more logs 0 n ∙ ap (λ (k : ℕ). points_from logs 0 n ++ points_at (logs k)) (let e : 0 + n ≡ n = omega arith in e))

all_from : (lists : List (List Logged)) (logs : Logs) (from : ℕ) → ((slot : ℕ) → slot < length lists → reverse (log_in lists slot) ≡ logs (from + slot)) → points_in lists ≡ points_from logs from (length lists)
unfolding points_from
all_from [] logs from same = refl
all_from (list ∷ lists) logs from same =
    ap (λ (l : List Point). l ++ points_in lists) (ap (map point_of) (sym (reverse-reverse list) ∙ ap reverse (same 0 (omega arith) ∙ ap logs (let e : from + 0 ≡ from = omega arith in e))))
    ∙ ap (λ (l : List Point). points_at (logs from) ++ l) (all_from lists logs (suc from) (λ slot less. same (suc slot) (omega (arith, less)) ∙ ap logs (let e : from + suc slot ≡ suc from + slot = omega arith in e)))

-- lists as they are read, the oldest record first in each, have the points of the logs
pub points_are : (lists : List (List Logged)) (logs : Logs) (count : ℕ) → length lists ≡ count → ((slot : ℕ) → slot < count → reverse (log_in lists slot) ≡ logs slot) → points_in lists ≡ points_to logs count
points_are lists logs count many same =
    all_from lists logs 0 (λ slot less. same slot (omega (arith, less, many)) ∙ ap logs (let e : slot ≡ 0 + slot = omega arith in e))
    ∙ ap (points_from logs 0) many ∙ sym (to_from logs count)

-- ---- some of them

pub one_more : (p : Point → Bool) (logged : Logged) (records : List Logged) → filter p (points_at (logged ∷ records)) ≡ filter p (points_at records) ++ filter p (point_of logged ∷ [])
one_more p logged records =
    ap (λ (l : List Logged). filter p (map point_of l)) (reverse-append (logged ∷ []) records)
    ∙ ap (filter p) (map-append point_of (reverse records) (logged ∷ []))
    ∙ filter-append p (map point_of (reverse records)) (point_of logged ∷ [])

pub none_of : (p : Point → Bool) (records : List Logged) → ((logged : Logged) → Contains records logged → p (point_of logged) ≡ false) → filter p (points_at records) ≡ []
none_of p [] none = refl
none_of p (logged ∷ records) none =
    let rest : filter p (points_at records) ≡ [] = none_of p records (λ other there. none other (behind logged records other there)) in
    let this : filter p (point_of logged ∷ []) ≡ [] = rw (none logged (front logged records)) refl in
    one_more p logged records ∙ ap (λ (l : List Point). l ++ filter p (point_of logged ∷ [])) rest ∙ this
