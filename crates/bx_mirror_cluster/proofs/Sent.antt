-- A new write is out, and its letters to the members of a device are sent.
use Rattle.std.proofs.Common.{◌≡◌, ◌≢◌, ◌⊎◌, inl, inr, ℕ, ◌<◌, ◌≤◌, Bool, true, false, List, ◌∷◌, Option, refl, sym, subst}
use Rattle.bx_facts.specs.Writes.{WritesIn}
use Rattle.bx_records.specs.declared.runs.Run.{Run}
use Rattle.bx_rows.specs.declared.device.DeviceRow.{DeviceRow}
use Rattle.bx_mirror_laws.specs.Sides.{Among, Handing, Out, Side, WriteLetter, Wrote}
use Rattle.bx_mirror_laws.specs.Acting.{IsRow}
use Rattle.bx_mirror_laws.specs.Sound.{AreHanded, AreOuts, AreRows, AreWrites, AreWrotes, IsLate, IsOut, Sends}
use Rattle.bx_mirror_laws.proofs.Nodes.{none_new, out_begins, outs_more, writes_more, wrotes_more}
use Rattle.bx_mirror_laws.proofs.Sending.{writes_send}

-- what a member is told of a write in a row
abbrev pub letter_in : Out → DeviceRow → List Run → Bool → WriteLetter
letter_in o k runs b = record { at = b; session = o.session; epoch = k.epoch; sequence = o.sequence; until = o.until; runs = runs }

-- both members are told
abbrev pub told_both : Out → DeviceRow → List Run → List WriteLetter → List WriteLetter
told_both o k runs writes = letter_in o k runs true ∷ letter_in o k runs false ∷ writes

module _ (device room greatest : ℕ) (last : DeviceRow) (older : List DeviceRow) (handed : List Handing) (sides : Bool → Side) (source : ℕ → ℕ → List ℕ)
    (rows : AreRows room last older sides source) (hands : AreHanded room last older handed sides source)
    (writes : List WriteLetter) (wrotes : List Wrote) (actual : List Out) (outs outs_next : ℕ → Option Out) (knows knows_next : ℕ → Option DeviceRow) (live : Out → Type 0)
    (answers : AreWrotes last older sides writes wrotes) (are : AreWrites device greatest last older sides writes wrotes actual outs knows live) (all : AreOuts device room greatest last older handed sides writes wrotes actual outs knows live)
    (o : Out) (k : DeviceRow) (row : IsRow last older k)
    (sends : (other : Out) (r : DeviceRow) → Sends outs_next knows_next live other r → Sends outs knows live other r ⊎ ((other ≡ o) × (r ≡ k)))
    (apart : (other : Out) (r : DeviceRow) → Sends outs knows live other r → other.session ≢ o.session)
    (begins : 1 ≤ o.sequence) (range : (x : ℕ) (content : List ℕ) → WritesIn o.runs device x content → (1 ≤ x) × (x < room))
    (once : (x : ℕ) (content other : List ℕ) → WritesIn o.runs device x content → WritesIn o.runs device x other → other ≡ content)
    (alone : (w : Out) (x : ℕ) (content other : List ℕ) → Among actual w → WritesIn w.runs device x other → WritesIn o.runs device x content → IsLate greatest w.until)
    (clear : (q : Out) (r : DeviceRow) (x : ℕ) (content other : List ℕ) → Sends outs knows live q r → WritesIn o.runs device x other → WritesIn q.runs device x content → ⊥)
    (numbers : (l : WriteLetter) → Among writes l → l.session ≡ o.session → l.sequence < o.sequence) (lasts : (b : Bool) → (sides b).lasts o.session < o.sequence) where
  abbrev next_actual : List Out
  next_actual = o ∷ actual

  pub base_writes : AreWrites device greatest last older sides writes wrotes next_actual outs_next knows_next live
  base_writes = writes_send device room greatest last older handed sides source rows hands writes wrotes actual next_actual outs outs_next knows knows_next live o
      (λ b q sent has. none_new last older sides writes wrotes o q answers numbers b has)
      (λ other q sent. elim (sends other q sent) [ inl old ↦ inl old | inr new ↦ inr new.0 ])
      (λ w there. record { is = inr there.is }) are

  -- of what was out it is as it was
  still_out : (q : Out) (r : DeviceRow) → Sends outs knows live q r → IsOut device room greatest last older handed sides writes wrotes next_actual q r
  still_out q r sent = let out = all.each q r sent in record {
    row = out.row;
    begins = out.begins;
    range = out.range;
    alone = λ w x content other there theirs its. elim there.is [
      | inl new ↦ absurd (clear q r x content other sent (subst (λ (v : Out). WritesIn v.runs device x other) new theirs) its)
      | inr old ↦ out.alone w x content other (record { is = old }) theirs its
    ];
    once = out.once;
    newest = out.newest;
    its = out.its;
    whole = out.whole;
    sent = out.sent;
    lasts = out.lasts;
    goes = out.goes;
  }

  now_out : IsOut device room greatest last older handed sides writes wrotes next_actual o k
  now_out = out_begins device room greatest last older handed sides source rows hands writes wrotes next_actual answers o k row begins range once
      (λ w x content other there theirs its. elim there.is [ inl new ↦ inl new | inr old ↦ inr (alone w x content other (record { is = old }) theirs its) ]) numbers lasts

  pub base_outs : AreOuts device room greatest last older handed sides writes wrotes next_actual outs_next knows_next live
  base_outs = record {
    each = λ q r sent. elim (sends q r sent) [
      | inl old ↦ still_out q r old
      | inr new ↦ subst (λ (v : Out). IsOut device room greatest last older handed sides writes wrotes next_actual v r) (sym new.0)
          (subst (λ (v : DeviceRow). IsOut device room greatest last older handed sides writes wrotes next_actual o v) (sym new.1) now_out)
    ];
  }

  only : (other : Out) (r : DeviceRow) → Sends outs_next knows_next live other r → other.session ≡ o.session → (other ≡ o) × (r ≡ k)
  only other r sent same = elim (sends other r sent) [ inl old ↦ absurd (apart other r old same) | inr new ↦ new ]

  module _ (runs : List Run) (its : (x : ℕ) (content : List ℕ) → WritesIn runs device x content → WritesIn o.runs device x content) (whole : (x : ℕ) (content : List ℕ) → WritesIn o.runs device x content → WritesIn runs device x content) where
    in_actual : Among next_actual o
    in_actual = record { is = inl refl }

    pub sent_writes : AreWrites device greatest last older sides (told_both o k runs writes) wrotes next_actual outs_next knows_next live
    sent_writes =
        writes_more device room greatest last older handed sides (letter_in o k runs false ∷ writes) wrotes next_actual outs_next knows_next live (letter_in o k runs true) o k row refl in_actual refl refl refl its whole
        (writes_more device room greatest last older handed sides writes wrotes next_actual outs_next knows_next live (letter_in o k runs false) o k row refl in_actual refl refl refl its whole base_writes)

    pub sent_outs : AreOuts device room greatest last older handed sides (told_both o k runs writes) wrotes next_actual outs_next knows_next live
    sent_outs =
        outs_more device room greatest last older handed sides (letter_in o k runs false ∷ writes) wrotes next_actual outs_next knows_next live (letter_in o k runs true) o k row refl in_actual refl refl refl its whole only
        (outs_more device room greatest last older handed sides writes wrotes next_actual outs_next knows_next live (letter_in o k runs false) o k row refl in_actual refl refl refl its whole only base_outs)

    pub sent_wrotes : AreWrotes last older sides (told_both o k runs writes) wrotes
    sent_wrotes =
        wrotes_more device room greatest last older handed sides (letter_in o k runs false ∷ writes) wrotes next_actual outs_next knows_next live (letter_in o k runs true) o k row refl in_actual refl refl refl its whole
        (wrotes_more device room greatest last older handed sides writes wrotes next_actual outs_next knows_next live (letter_in o k runs false) o k row refl in_actual refl refl refl its whole answers)
