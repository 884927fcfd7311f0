-- A field that is all of the bytes, or has only zeros behind it.
use Rattle.std.proofs.Common.{◌≡◌, ℕ, ◌-◌, ◌≤◌, List, [], ◌++◌, length, Option, Some, None, Result, Ok, Err, refl, sym, ap, subst, ◌∙◌, arith}
use Rattle.std.specs.Prelude.{replicate, IfOk, IfSome, IfNone, MatchResult}
use Rattle.std.proofs.lemmas.List.{length-append, length-replicate, append-nil}
use Rattle.std.proofs.lemmas.Option.{some_pair_parts}
use Rattle.bx_base.specs.Bytes.{IsBytes}
use Rattle.bx_base.specs.declared.memory.OutOfMemory.{OutOfMemory}
use Rattle.bx_base.specs.declared.error.ReadError.{ReadError}
use Rattle.bx_base.specs.declared.error.ReadError.TheVariants as errors
use Rattle.bx_base.specs.Reading.{AreZeros, Gives, IsAll, IsBeforeZeros, Reader}
use Rattle.bx_base.specs.Writing.{padded}
use Rattle.bx_base.proofs.Fields.{IsField}

-- ---- nothing behind it

pub all_read : {A : Type 0} {a : Reader A} {text : A → List ℕ} {Fits : A → Type 0} → IsField a text Fits → (bytes rest : List ℕ) (x : A)
    → IsBytes bytes → a bytes ≡ Some (x, rest) → rest ≡ [] → (bytes ≡ text x) × Fits x
all_read {A} {a} {text} {Fits} p bytes rest x fits e none =
    let t = p.takes bytes (x, rest) fits e in
    (t.0.parts ∙ ap (λ (r : List ℕ). text x ++ r) none ∙ append-nil (text x), t.1)

pub all_again : {A : Type 0} {a : Reader A} {text : A → List ℕ} {Fits : A → Type 0} → IsField a text Fits → (bytes : List ℕ) (x : A)
    → bytes ≡ text x → Fits x → a bytes ≡ Some (x, [])
all_again {A} {a} {text} {Fits} p bytes x is fits = ap a (is ∙ sym (append-nil (text x))) ∙ p.again x [] fits

-- what was read is the value, where there is one
pub all_same : {A : Type 0} {a : Reader A} {text : A → List ℕ} {Fits : A → Type 0} → IsField a text Fits → (bytes rest : List ℕ) (x y : A)
    → a bytes ≡ Some (x, rest) → bytes ≡ text y → Fits y → (x ≡ y) × (rest ≡ [])
all_same {A} {a} {text} {Fits} p bytes rest x y e is fits =
    some_pair_parts x y rest [] (sym e ∙ all_again p bytes y is fits)

pub all_none : {A : Type 0} {a : Reader A} {text : A → List ℕ} {Fits : A → Type 0} → IsField a text Fits → (bytes : List ℕ) (y : A)
    → a bytes ≡ None → bytes ≡ text y → Fits y → ⊥
all_none {A} {a} {text} {Fits} p bytes y e is fits =
    let both : ◌≡◌ {A = Option (A × List ℕ)} None (Some (y, [])) = sym e ∙ all_again p bytes y is fits in
    absurd cc

-- two values have different texts
pub one_value : {A : Type 0} {a : Reader A} {text : A → List ℕ} {Fits : A → Type 0} → IsField a text Fits → (x y : A) → Fits x → Fits y → text x ≡ text y → x ≡ y
one_value {A} {a} {text} {Fits} p x y one other same = (all_same p (text x) [] x y (all_again p (text x) x refl one) same other).0

-- what is all of the bytes or isn't, in two cases
pub all_met : {T : Type 0} (P : T → Type 0) (N : ReadError → Type 0) (value : T) (rest : List ℕ) (result : Result T ReadError)
    → (rest ≡ [] → P value) → ((rest ≡ [] → ⊥) → N errors.Malformed) → IsAll value rest result → MatchResult result P N
all_met {T} P N value rest (Ok x) met unmet is = subst P (sym is.0) (met is.1)
all_met {T} P N value rest (Err error) met unmet is = subst N (sym is.0) (unmet is.1)

-- ---- zeros behind it

-- what is found before zeros has a property, where each value that is read before zeros has it
pub zeros_some : {X T U : Type 0} (view : X → T × List ℕ) (seen : T → U) (P : T → Type 0) (part : Option (U × List ℕ)) (read : Result X ReadError) (found : Result (Option T) OutOfMemory)
    → ((x : T) (rest : List ℕ) → part ≡ Some (seen x, rest) → AreZeros rest → P x) → Gives (λ x. (seen (view x).0, (view x).1)) read part → IsBeforeZeros view read found
    → IfOk found (λ it. IfSome it P)
zeros_some {X} {T} {U} view seen P part (Ok x) (Ok (Some value)) met gives is = subst P is.0 (met (view x).0 (view x).1 gives is.1)
zeros_some {X} {T} {U} view seen P part read (Ok None) met gives is = tt
zeros_some {X} {T} {U} view seen P part read (Err error) met gives is = tt
zeros_some {X} {T} {U} view seen P part (Err errors.Malformed) (Ok (Some value)) met gives is = absurd cc
zeros_some {X} {T} {U} view seen P part (Err errors.OutOfMemory) (Ok (Some value)) met gives is = absurd is

-- where nothing is found, the bytes are malformed or something else is behind the value
pub zeros_none : {X T U : Type 0} (view : X → T × List ℕ) (seen : T → U) (P : Type 0) (part : Option (U × List ℕ)) (read : Result X ReadError) (found : Result (Option T) OutOfMemory)
    → (part ≡ None → P) → ((x : T) (rest : List ℕ) → part ≡ Some (seen x, rest) → (AreZeros rest → ⊥) → P) → Gives (λ x. (seen (view x).0, (view x).1)) read part
    → IsBeforeZeros view read found → IfOk found (λ it. IfNone it P)
zeros_none {X} {T} {U} view seen P part (Ok x) (Ok None) malformed other gives is = other (view x).0 (view x).1 gives is
zeros_none {X} {T} {U} view seen P part (Err errors.Malformed) (Ok None) malformed other gives is = malformed gives
zeros_none {X} {T} {U} view seen P part (Err errors.OutOfMemory) (Ok None) malformed other gives is = absurd is
zeros_none {X} {T} {U} view seen P part read (Ok (Some value)) malformed other gives is = tt
zeros_none {X} {T} {U} view seen P part read (Err error) malformed other gives is = tt

pub length-padded : (size : ℕ) (bytes : List ℕ) → length bytes ≤ size → length (padded size bytes) ≡ size
length-padded size bytes le = length-append bytes (replicate (size - length bytes) 0) ∙ omega (arith, length-replicate {A = ℕ} (size - length bytes) 0)

pub padded_read : {A : Type 0} {a : Reader A} {text : A → List ℕ} {Fits : A → Type 0} → IsField a text Fits → (bytes rest : List ℕ) (x : A)
    → IsBytes bytes → a bytes ≡ Some (x, rest) → rest ≡ replicate (length rest) 0 → (bytes ≡ padded (length bytes) (text x)) × Fits x
padded_read {A} {a} {text} {Fits} p bytes rest x fits e zeros =
    let t = p.takes bytes (x, rest) fits e in
    let behind : length rest ≡ length bytes - length (text x) = omega (arith, ap length t.0.parts, length-append (text x) rest) in
    (t.0.parts ∙ ap (λ (r : List ℕ). text x ++ r) (zeros ∙ ap (λ (n : ℕ). replicate n 0) behind), t.1)

pub padded_again : {A : Type 0} {a : Reader A} {text : A → List ℕ} {Fits : A → Type 0} → IsField a text Fits → (size : ℕ) (bytes : List ℕ) (x : A)
    → bytes ≡ padded size (text x) → Fits x → a bytes ≡ Some (x, replicate (size - length (text x)) 0)
padded_again {A} {a} {text} {Fits} p size bytes x is fits = ap a is ∙ p.again x (replicate (size - length (text x)) 0) fits

-- what was read is the value, where there is one
pub padded_same : {A : Type 0} {a : Reader A} {text : A → List ℕ} {Fits : A → Type 0} → IsField a text Fits → (size : ℕ) (bytes rest : List ℕ) (x y : A)
    → a bytes ≡ Some (x, rest) → bytes ≡ padded size (text y) → Fits y → (x ≡ y) × (rest ≡ replicate (length rest) 0)
padded_same {A} {a} {text} {Fits} p size bytes rest x y e is fits =
    let same = some_pair_parts x y rest (replicate (size - length (text y)) 0) (sym e ∙ padded_again p size bytes y is fits) in
    let len : length rest ≡ size - length (text y) = ap length same.1 ∙ length-replicate {A = ℕ} (size - length (text y)) 0 in
    (same.0, same.1 ∙ ap (λ (n : ℕ). replicate n 0) (sym len))

pub padded_none : {A : Type 0} {a : Reader A} {text : A → List ℕ} {Fits : A → Type 0} → IsField a text Fits → (size : ℕ) (bytes : List ℕ) (y : A)
    → a bytes ≡ None → bytes ≡ padded size (text y) → Fits y → ⊥
padded_none {A} {a} {text} {Fits} p size bytes y e is fits =
    let both : ◌≡◌ {A = Option (A × List ℕ)} None (Some (y, replicate (size - length (text y)) 0)) = sym e ∙ padded_again p size bytes y is fits in
    absurd cc
