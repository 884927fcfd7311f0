-- Items one behind the other, of any kinds.
use Rattle.std.proofs.Common.{◌≡◌, ℕ, List, [], ◌++◌, sym, ap, ◌∙◌, append_assoc, refl, subst}
use Rattle.std.proofs.lemmas.List.{append-nil}
use Rattle.bx_xdr.specs.Items.{Then, Both, Made, Reads, Lacks, HasOneReading}

-- the text between two items
pub record Split (First Second : List ℕ → Type 0) (text rest : List ℕ) : Type 0 where
  pub middle : List ℕ
  pub first : Reads First text middle
  pub second : Reads Second middle rest

pub split : {First Second : List ℕ → Type 0} {text rest : List ℕ} → Reads (Then First Second) text rest → Split First Second text rest
split {rest = rest} p = record {
  middle = p.spells.back ++ rest;
  first = record {
    spelling = p.spells.front;
    spells = p.spells.first;
    parts = p.parts ∙ ap (λ (s : List ℕ). s ++ rest) p.spells.parts ∙ append_assoc p.spells.front p.spells.back rest;
  };
  second = record { spelling = p.spells.back; spells = p.spells.second; parts = refl };
}

pub reads_then : {First Second : List ℕ → Type 0} {text middle rest : List ℕ} → Reads First text middle → Reads Second middle rest → Reads (Then First Second) text rest
reads_then {rest = rest} p q = record {
  spelling = p.spelling ++ q.spelling;
  spells = record { front = p.spelling; back = q.spelling; first = p.spells; second = q.spells; parts = refl };
  parts = p.parts ∙ ap (λ (s : List ℕ). p.spelling ++ s) q.parts ∙ sym (append_assoc p.spelling q.spelling rest);
}

pub reads_made : {V W : Type 0} (made : V → W) (Spells : V → List ℕ → Type 0) (part : V) (text rest : List ℕ) → Reads (Spells part) text rest → Reads (Made made Spells (made part)) text rest
reads_made made Spells part text rest p = record { spelling = p.spelling; spells = (part, refl, p.spells); parts = p.parts }

part_reads : {V W : Type 0} (made : V → W) (Spells : V → List ℕ → Type 0) (value : W) (text rest : List ℕ) → (p : Reads (Made made Spells value) text rest) → Reads (Spells p.spells.0) text rest
part_reads made Spells value text rest p = record { spelling = p.spelling; spells = p.spells.2; parts = p.parts }

pair_same : {V W : Type 0} (v w : V × W) → v.0 ≡ w.0 → v.1 ≡ w.1 → v ≡ w
pair_same {V} {W} v w e f =
    let left : V → V × W = λ x. (x, v.1) in
    let right : W → V × W = λ y. (w.0, y) in
    ap left e ∙ ap right f

pub one_reading-both : {V W : Type 0} (First : V → List ℕ → Type 0) (Second : W → List ℕ → Type 0) → HasOneReading First → HasOneReading Second → HasOneReading (Both First Second)
one_reading-both First Second one two text a b v w p q =
    let x = split p in
    let y = split q in
    let front = one text x.middle y.middle v.0 w.0 x.first y.first in
    let P : List ℕ → Type 0 = λ middle. Reads (Second v.1) middle a in
    let back = two y.middle a b v.1 w.1 (subst P front.1 x.second) y.second in
    (pair_same v w front.0 back.0, back.1)

pub one_reading-made : {V W : Type 0} (made : V → W) (Spells : V → List ℕ → Type 0) → HasOneReading Spells → HasOneReading (Made made Spells)
one_reading-made made Spells one text a b v w p q =
    let same = one text a b p.spells.0 q.spells.0 (part_reads made Spells v text a p) (part_reads made Spells w text b q) in
    (p.spells.1 ∙ ap made same.0 ∙ sym q.spells.1, same.1)

pub lacks-first : {V W : Type 0} (First : V → List ℕ → Type 0) (Second : W → List ℕ → Type 0) (text : List ℕ) → Lacks First text → Lacks (Both First Second) text
lacks-first First Second text none v rest p = let x = split p in none v.0 x.middle x.first

pub lacks-second : {V W : Type 0} (First : V → List ℕ → Type 0) (Second : W → List ℕ → Type 0) (text middle : List ℕ) (u : V) → HasOneReading First → Reads (First u) text middle → Lacks Second middle → Lacks (Both First Second) text
lacks-second First Second text middle u one is none v rest p =
    let x = split p in
    let P : List ℕ → Type 0 = λ s. Reads (Second v.1) s rest in
    none v.1 rest (subst P (one text x.middle middle v.0 u x.first is).1 x.second)

pub lacks-made : {V W : Type 0} (made : V → W) (Spells : V → List ℕ → Type 0) (text : List ℕ) → Lacks Spells text → Lacks (Made made Spells) text
lacks-made made Spells text none value rest p = none p.spells.0 rest (part_reads made Spells value text rest p)

-- a spelling alone
pub reads_whole : (Spells : List ℕ → Type 0) (text : List ℕ) → Spells text → Reads Spells text []
reads_whole Spells text is = record { spelling = text; spells = is; parts = sym (append-nil text) }

pub whole_reads : (Spells : List ℕ → Type 0) (text : List ℕ) → Reads Spells text [] → Spells text
whole_reads Spells text p = let is : text ≡ p.spelling = p.parts ∙ append-nil p.spelling in subst Spells (sym is) p.spells

-- bytes are one spelling of a kind at most
pub whole_once : {V : Type 0} (Spells : V → List ℕ → Type 0) → HasOneReading Spells → (text : List ℕ) (v w : V) → Spells v text → Spells w text → v ≡ w
whole_once Spells one text v w p q = (one text [] [] v w (reads_whole (Spells v) text p) (reads_whole (Spells w) text q)).0

-- what stands behind an item doesn't matter
pub reads_more : (Spells : List ℕ → Type 0) (text rest tail : List ℕ) → Reads Spells text rest → Reads Spells (text ++ tail) (rest ++ tail)
reads_more Spells text rest tail p = record {
  spelling = p.spelling;
  spells = p.spells;
  parts = ap (λ (s : List ℕ). s ++ tail) p.parts ∙ append_assoc p.spelling rest tail;
}
