-- A name that is read is spelled so, and what is spelled so is read: of machines, of kinds of packets, and of noise.
use Rattle.std.proofs.Common.{◌≡◌, ◌≢◌, ℕ, zero, suc, ◌+◌, ◌-◌, ◌*◌, ◌/◌, ◌%◌, ◌^◌, ◌<◌, ◌≤◌, inl, inr, Bool, true, false, leb, eqb, not, ◌&&◌, List, [], ◌∷◌, ◌++◌, length, get_or, take, drop, Option, Some, None, refl, sym, ap, subst, ◌∙◌, arith}
use Rattle.std.specs.Prelude.{codes, ◌==◌, if◌then◌else◌}
use Rattle.std.specs.Fmt.{decimal}
use Rattle.std.specs.List.{list_all}
use Rattle.std.specs.Str.{bytes_eq}
use Rattle.std.proofs.lemmas.Bool.{and_parts, eqb-true, leb-true}
use Rattle.std.proofs.lemmas.Bool.Decides.{nat_tests}
use Rattle.std.proofs.lemmas.Fmt.{length-decimal-le}
use Rattle.std.proofs.lemmas.List.{take-append-drop, length-append}
use Rattle.std.proofs.lemmas.Option.{cond_some, option_and_then_some}
use Rattle.std.proofs.lemmas.Slice.Eq.{bytes_eq-Decides}
use Rattle.bx_base.specs.declared.names.Actor.{Actor}
use Rattle.bx_base.specs.declared.names.Actor.TheVariants.{Node, Replica, Server, Member}
use Rattle.bx_disk.specs.declared.noise.Noise.{Noise}
use Rattle.bx_disk.specs.declared.noise.Noise.TheVariants.{Keep, Drop, Seed}
use Rattle.bx_script.specs.ScheduleLine.{IsKind, IsNamed, IsNoise, kind_text, kind_words, machine_text, noise_text}
use Rattle.bx_script.specs.Reading.{◌>>=◌, kind_named, lock_kind, machine_named, member_at, member_kind, noise_of, number_of, numbered_or, seed_of, write_kind}
use Rattle.bx_script.proofs.Fields.{Lacks, Lacks-append, lacks_from_test, some, some_is}
use Rattle.bx_script.proofs.Numbers.{number_takes, number_again, Lacks-decimal}
use Rattle.bx_script.proofs.Taking.{chosen, text_is}

-- ---- noise

-- a field that spells what a crash makes of unsure sectors
pub record IsNoiseText (field : List ℕ) (noise : Noise) : Type 0 where
  pub spelled : field ≡ noise_text noise
  pub fits : IsNoise noise

seed_takes : (field : List ℕ) (noise : Noise) → seed_of field ≡ Some noise → IsNoiseText field noise
unfolding seed_of
seed_takes field noise e =
    option_and_then_some _ (number_of (2 ^ 64 - 1) (drop 5 field)) noise e (λ seed e1 f1.
    let d = cond_some (bytes_eq (take 5 field) (codes "seed:")) (Seed seed) noise f1 in
    let number = number_takes (2 ^ 64 - 1) (drop 5 field) seed (omega arith) e1 in
    let spelled : field ≡ codes "seed:" ++ decimal seed =
    sym (take-append-drop 5 field) ∙ ap (λ (front : List ℕ). front ++ drop 5 field) (text_is (take 5 field) (codes "seed:") d.0) ∙ ap (λ (behind : List ℕ). codes "seed:" ++ behind) number.spelled in
    subst (IsNoiseText field) d.1 (record { spelled = spelled; fits = omega (arith, number.within) }))

seed_again : (seed : ℕ) → seed < 2 ^ 64 → seed_of (codes "seed:" ++ decimal seed) ≡ Some (Seed seed)
unfolding seed_of
seed_again seed fits =
    rw (number_again (2 ^ 64 - 1) seed (omega arith) (omega (arith, fits))) refl

pub noise_takes : (field : List ℕ) (noise : Noise) → noise_of field ≡ Some noise → IsNoiseText field noise
unfolding noise_of
noise_takes field noise e =
    elim (chosen (bytes_eq field (codes "keep")) (Some Keep) _ (Some noise) e) [
      | inl h ↦ subst (IsNoiseText field) (noise_is Keep noise h.1) (record { spelled = text_is field (codes "keep") h.0; fits = tt })
      | inr h ↦
          elim (chosen (bytes_eq field (codes "drop")) (Some Drop) _ (Some noise) h.1) [
            | inl d ↦ subst (IsNoiseText field) (noise_is Drop noise d.1) (record { spelled = text_is field (codes "drop") d.0; fits = tt })
            | inr d ↦ seed_takes field noise d.1
          ]
    ]
  where
    noise_is : (a b : Noise) → some a ≡ some b → a ≡ b
    noise_is a b same = some_is a b same

pub noise_again : (noise : Noise) → IsNoise noise → noise_of (noise_text noise) ≡ Some noise
unfolding noise_of
noise_again Keep fits = refl
noise_again Drop fits = refl
noise_again (Seed seed) fits = seed_again seed fits

-- ---- machines

-- a field that names a machine
pub record IsMachineText (field : List ℕ) (machine : Actor) : Type 0 where
  pub spelled : field ≡ machine_text machine
  pub fits : IsNamed machine

-- a letter and a number
lettered : (letter other n : ℕ) (digits : List ℕ) → eqb letter other ≡ true → digits ≡ decimal n → letter ∷ digits ≡ other ∷ decimal n
lettered letter other n digits same is = rw (eqb-true letter other same, is) refl

member_text : (n device : ℕ) → n / 2 ≡ device → n % 2 ≡ 0 → machine_text (Member n) ≡ 97 ∷ decimal device
member_text n device half even = rw (half, even) refl

other_text : (n device : ℕ) → n / 2 ≡ device → n % 2 ≡ 1 → machine_text (Member n) ≡ 98 ∷ decimal device
other_text n device half odd = rw (half, odd) refl

member_takes : (digits : List ℕ) (machine : Actor) → member_at 0 digits ≡ Some machine → IsMachineText (97 ∷ digits) machine
unfolding member_at
member_takes digits machine e =
    option_and_then_some _ (number_of 3 digits) machine e (λ device e1 f1.
    let read = number_takes 3 digits device (omega arith) e1 in
    let spelled : 97 ∷ digits ≡ machine_text (Member (2 * device + 0)) = ap (λ (d : List ℕ). 97 ∷ d) read.spelled ∙ sym (member_text (2 * device + 0) device (omega arith) (omega arith)) in
    subst (IsMachineText (97 ∷ digits)) (some_is (Member (2 * device + 0)) machine f1) (record { spelled = spelled; fits = omega (arith, read.within) }))

other_takes : (digits : List ℕ) (machine : Actor) → member_at 1 digits ≡ Some machine → IsMachineText (98 ∷ digits) machine
unfolding member_at
other_takes digits machine e =
    option_and_then_some _ (number_of 3 digits) machine e (λ device e1 f1.
    let read = number_takes 3 digits device (omega arith) e1 in
    let spelled : 98 ∷ digits ≡ machine_text (Member (2 * device + 1)) = ap (λ (d : List ℕ). 98 ∷ d) read.spelled ∙ sym (other_text (2 * device + 1) device (omega arith) (omega arith)) in
    subst (IsMachineText (98 ∷ digits)) (some_is (Member (2 * device + 1)) machine f1) (record { spelled = spelled; fits = omega (arith, read.within) }))

-- by the letter that was read
under_letter : (letter other : ℕ) (digits : List ℕ) (machine : Actor) → eqb letter other ≡ true → IsMachineText (other ∷ digits) machine → IsMachineText (letter ∷ digits) machine
under_letter letter other digits machine same is = subst (λ (l : ℕ). IsMachineText (l ∷ digits) machine) (sym (eqb-true letter other same)) is

node_takes : (digits : List ℕ) (machine : Actor) → (number_of 3 digits >>= λ n. Some (Node n)) ≡ Some machine → IsMachineText (110 ∷ digits) machine
node_takes digits machine e =
    option_and_then_some _ (number_of 3 digits) machine e (λ n e1 f1.
    let read = number_takes 3 digits n (omega arith) e1 in
    subst (IsMachineText (110 ∷ digits)) (some_is (Node n) machine f1) (record { spelled = ap (λ (d : List ℕ). 110 ∷ d) read.spelled; fits = read.within }))

replica_takes : (digits : List ℕ) (machine : Actor) → (number_of 2 digits >>= λ n. Some (Replica n)) ≡ Some machine → IsMachineText (112 ∷ digits) machine
replica_takes digits machine e =
    option_and_then_some _ (number_of 2 digits) machine e (λ n e1 f1.
    let read = number_takes 2 digits n (omega arith) e1 in
    subst (IsMachineText (112 ∷ digits)) (some_is (Replica n) machine f1) (record { spelled = ap (λ (d : List ℕ). 112 ∷ d) read.spelled; fits = read.within }))

server_takes : (digits : List ℕ) (machine : Actor) → (number_of 1 digits >>= λ n. Some (Server n)) ≡ Some machine → IsMachineText (108 ∷ digits) machine
server_takes digits machine e =
    option_and_then_some _ (number_of 1 digits) machine e (λ n e1 f1.
    let read = number_takes 1 digits n (omega arith) e1 in
    subst (IsMachineText (108 ∷ digits)) (some_is (Server n) machine f1) (record { spelled = ap (λ (d : List ℕ). 108 ∷ d) read.spelled; fits = read.within }))

pub machine_takes : (field : List ℕ) (machine : Actor) → machine_named field ≡ Some machine → IsMachineText field machine
unfolding machine_named
machine_takes [] machine e = absurd cc
machine_takes (letter ∷ digits) machine e =
    elim (chosen (eqb letter 110) (number_of 3 digits >>= λ n. Some (Node n)) _ (Some machine) e) [
      | inl n ↦ under_letter letter 110 digits machine n.0 (node_takes digits machine n.1)
      | inr n ↦
          elim (chosen (eqb letter 112) (number_of 2 digits >>= λ n. Some (Replica n)) _ (Some machine) n.1) [
            | inl p ↦ under_letter letter 112 digits machine p.0 (replica_takes digits machine p.1)
            | inr p ↦
                elim (chosen (eqb letter 108) (number_of 1 digits >>= λ n. Some (Server n)) _ (Some machine) p.1) [
                  | inl l ↦ under_letter letter 108 digits machine l.0 (server_takes digits machine l.1)
                  | inr l ↦
                      elim (chosen (eqb letter 97) (member_at 0 digits) _ (Some machine) l.1) [
                        | inl a ↦ under_letter letter 97 digits machine a.0 (member_takes digits machine a.1)
                        | inr a ↦
                            elim (chosen (eqb letter 98) (member_at 1 digits) None (Some machine) a.1) [
                              | inl b ↦ under_letter letter 98 digits machine b.0 (other_takes digits machine b.1)
                              | inr b ↦ absurd (cc b.1)
                            ]
                      ]
                ]
          ]
    ]

member_again : (n side : ℕ) → n ≤ 7 → n % 2 ≡ side → member_at side (decimal (n / 2)) ≡ Some (Member n)
unfolding member_at
member_again n side fits rest =
    let half : n / 2 ≤ 3 = omega (arith, fits) in
    let whole : 2 * (n / 2) + side ≡ n = omega (arith, rest) in
    rw (number_again 3 (n / 2) (omega arith) half, whole) refl

letter_a : (digits : List ℕ) → machine_named (97 ∷ digits) ≡ member_at 0 digits
unfolding machine_named
letter_a digits = refl

letter_b : (digits : List ℕ) → machine_named (98 ∷ digits) ≡ member_at 1 digits
unfolding machine_named
letter_b digits = refl

pub machine_again : (machine : Actor) → IsNamed machine → machine_named (machine_text machine) ≡ Some machine
unfolding machine_named
machine_again (Node n) fits = rw (number_again 3 n (omega arith) fits) refl
machine_again (Replica n) fits = rw (number_again 2 n (omega arith) fits) refl
machine_again (Server n) fits = rw (number_again 1 n (omega arith) fits) refl
machine_again (Member n) fits = by (n % 2 == 0) refl
  where
    by : (even : Bool) → (n % 2 == 0) ≡ even → machine_named (machine_text (Member n)) ≡ Some (Member n)
    by true is =
        let even : n % 2 ≡ 0 = eqb-true _ _ is in
        ap machine_named (member_text n (n / 2) refl even) ∙ letter_a (decimal (n / 2)) ∙ member_again n 0 fits even
    by false is =
        let odd : n % 2 ≡ 1 = grind (arith, nat_tests, is) in
        ap machine_named (other_text n (n / 2) refl odd) ∙ letter_b (decimal (n / 2)) ∙ member_again n 1 fits odd

-- one letter and one digit
pub machine_length : (machine : Actor) → IsNamed machine → length (machine_text machine) ≤ 2
machine_length (Node n) fits = let d = length-decimal-le 1 n (omega arith) (omega (arith, fits)) (omega (arith, fits)) in omega (arith, d)
machine_length (Replica n) fits = let d = length-decimal-le 1 n (omega arith) (omega (arith, fits)) (omega (arith, fits)) in omega (arith, d)
machine_length (Server n) fits = let d = length-decimal-le 1 n (omega arith) (omega (arith, fits)) (omega (arith, fits)) in omega (arith, d)
machine_length (Member n) fits = by (n % 2 == 0)
  where
    digit : length (decimal (n / 2)) ≤ 1
    digit = length-decimal-le 1 (n / 2) (omega arith) (omega (arith, fits)) (omega (arith, fits))

    by : (even : Bool) → length ((if even then codes "a" else codes "b") ++ decimal (n / 2)) ≤ 2
    by true = omega (arith, digit)
    by false = omega (arith, digit)

pub machine_lacks : (c : ℕ) (machine : Actor) → c < 48 → IsNamed machine → Lacks c (machine_text machine)
machine_lacks c (Node n) small fits = ((λ same. omega (arith, small, same)), Lacks-decimal c n small (omega (arith, fits)))
machine_lacks c (Replica n) small fits = ((λ same. omega (arith, small, same)), Lacks-decimal c n small (omega (arith, fits)))
machine_lacks c (Server n) small fits = ((λ same. omega (arith, small, same)), Lacks-decimal c n small (omega (arith, fits)))
machine_lacks c (Member n) small fits = by (n % 2 == 0)
  where
    by : (even : Bool) → Lacks c ((if even then codes "a" else codes "b") ++ decimal (n / 2))
    by true = ((λ same. omega (arith, small, same)), Lacks-decimal c (n / 2) small (omega (arith, fits)))
    by false = ((λ same. omega (arith, small, same)), Lacks-decimal c (n / 2) small (omega (arith, fits)))

-- no machine is called `all`
pub not_all : (machine : Actor) → IsNamed machine → bytes_eq (machine_text machine) (codes "all") ≡ false
not_all machine fits = by (bytes_eq (machine_text machine) (codes "all")) refl
  where
    by : (same : Bool) → bytes_eq (machine_text machine) (codes "all") ≡ same → same ≡ false
    by true is = absurd (let l : length (machine_text machine) ≡ 3 = ap (λ (t : List ℕ). length t) (text_is (machine_text machine) (codes "all") is) in omega (arith, l, machine_length machine fits))
    by false is = refl

-- ---- kinds

all_at : (p : List ℕ → Bool) (words : List (List ℕ)) (n : ℕ) → list_all p words ≡ true → n < length words → p (get_or words n []) ≡ true
all_at p [] n all lt = absurd (omega (arith, lt))
all_at p (word ∷ words) zero all lt = (and_parts (p word) (list_all p words) all).0
all_at p (word ∷ words) (suc n) all lt = all_at p words n (and_parts (p word) (list_all p words) all).1 (omega (arith, lt))

-- words each of which stands once
abbrev are_once : List (List ℕ) → Bool
are_once [] = true
are_once (word ∷ words) = list_all (λ other. not (bytes_eq other word)) words && are_once words

false_of : (b : Bool) → not b ≡ true → b ≡ false
false_of true is = absurd cc
false_of false is = refl

numbered_again : (n : ℕ) (words : List (List ℕ)) (i : ℕ) → i < length words → are_once words ≡ true → numbered_or n words (get_or words i []) None ≡ Some (n + i)
numbered_again n [] i lt once = absurd (omega (arith, lt))
numbered_again n (word ∷ words) zero lt once = rw ((bytes_eq-Decides word word).1 refl) (ap (λ (k : ℕ). some k) (omega arith))
numbered_again n (word ∷ words) (suc i) lt once =
    let parts = and_parts (list_all (λ other. not (bytes_eq other word)) words) (are_once words) once in
    let other : bytes_eq (get_or words i []) word ≡ false = false_of _ (all_at (λ other. not (bytes_eq other word)) words i parts.0 (omega (arith, lt))) in
    rw other (numbered_again (n + 1) words i (omega (arith, lt)) parts.1 ∙ ap (λ (k : ℕ). some k) (omega arith))

-- a field is a word among these, at the place of its number
record IsNumbered (n : ℕ) (words : List (List ℕ)) (field : List ℕ) (k : ℕ) : Type 0 where
  pub least : n ≤ k
  pub most : k < n + length words
  pub is : field ≡ get_or words (k - n) []

first_is : (word : List ℕ) (words : List (List ℕ)) (i : ℕ) → i ≡ 0 → word ≡ get_or (word ∷ words) i []
first_is word words i is = rw is refl

next_is : (word : List ℕ) (words : List (List ℕ)) (i j : ℕ) → i ≡ suc j → get_or words j [] ≡ get_or (word ∷ words) i []
next_is word words i j is = rw is refl

numbered_takes : (n : ℕ) (words : List (List ℕ)) (field : List ℕ) (k : ℕ) → numbered_or n words field None ≡ Some k → IsNumbered n words field k
numbered_takes n [] field k e = absurd cc
numbered_takes n (word ∷ words) field k e =
    elim (chosen (bytes_eq field word) (Some n) (numbered_or (n + 1) words field None) (Some k) e) [
      | inl h ↦
          let same : n ≡ k = some_is n k h.1 in
          record { least = omega (arith, same); most = omega (arith, same); is = text_is field word h.0 ∙ first_is word words (k - n) (omega (arith, same)) }
      | inr h ↦
          let behind = numbered_takes (n + 1) words field k h.1 in
          record { least = omega (arith, behind.least); most = omega (arith, behind.most); is = behind.is ∙ next_is word words (k - n) (k - (n + 1)) (omega (arith, behind.least)) }
    ]

-- a field that is the word of a kind
pub record IsKindText (field : List ℕ) (kind : ℕ) : Type 0 where
  pub spelled : field ≡ kind_text kind
  pub is : IsKind kind

-- the words of all kinds are numbered from 1 on
kind_numbered : (field : List ℕ) → kind_named field ≡ numbered_or 1 kind_words field None
unfolding kind_named lock_kind write_kind member_kind
kind_numbered field = refl

pub kind_takes : (field : List ℕ) (kind : ℕ) → kind_named field ≡ Some kind → IsKindText field kind
kind_takes field kind e =
    let read = numbered_takes 1 kind_words field kind (sym (kind_numbered field) ∙ e) in
    record { spelled = read.is; is = record { least = read.least; most = omega (arith, read.most) } }

pub kind_again : (kind : ℕ) → IsKind kind → kind_named (kind_text kind) ≡ Some kind
kind_again kind fits =
    kind_numbered (kind_text kind) ∙ numbered_again 1 kind_words (kind - 1) (omega (arith, fits.least, fits.most)) refl ∙ ap (λ (k : ℕ). some k) (omega (arith, fits.least))

pub kind_lacks : (c kind : ℕ) → list_all (λ word. list_all (λ b. not (eqb b c)) word) kind_words ≡ true → IsKind kind → Lacks c (kind_text kind)
kind_lacks c kind test fits = lacks_from_test c (kind_text kind) (all_at (λ word. list_all (λ b. not (eqb b c)) word) kind_words (kind - 1) test (omega (arith, fits.least, fits.most)))

pub kind_length : (kind : ℕ) → IsKind kind → length (kind_text kind) ≤ 8
kind_length kind fits = leb-true _ _ (all_at (λ word. leb (length word) 8) kind_words (kind - 1) refl (omega (arith, fits.least, fits.most)))
