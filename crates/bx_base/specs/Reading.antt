-- Reading parts from the front of bytes. A part is a value and the bytes behind it.
use Rattle.std.specs.Prelude.{◌≡◌, ℕ, zero, suc, Bool, List, [], ◌∷◌, length, take, drop, replicate, Option, Some, None, Result, Ok, Err, nat_lt, if◌then◌else◌}
use Rattle.std.specs.Int.{Width, byte_len, from_be_bytes}
use Rattle.bx_base.specs.declared.memory.OutOfMemory.{OutOfMemory}
use Rattle.bx_base.specs.declared.error.ReadError.{ReadError}
use Rattle.bx_base.specs.declared.error.ReadError.TheVariants as errors

infixl 10 ◌>>=◌
abbrev pub ◌>>=◌ : {A B : Type 0} → Option A → (A → Option B) → Option B
(Some x) >>= f = f x
None >>= f = None

-- What a function returned, seen by view, is what reading gives, unless memory ran out.
abbrev pub Fails : {Y : Type 0} → ReadError → Option Y → Type 0
Fails errors.OutOfMemory read = Unit {0}
Fails errors.Malformed read = read ≡ None

abbrev pub Gives : {X Y : Type 0} → (X → Y) → Result X ReadError → Option Y → Type 0
Gives view (Ok x) read = read ≡ Some (view x)
Gives view (Err e) read = Fails e read

-- A value with these bytes behind it is all of the bytes: none are behind it.
abbrev pub IsAll : {T : Type 0} → T → List ℕ → Result T ReadError → Type 0
IsAll value rest (Ok x) = (x ≡ value) × (rest ≡ [])
IsAll value rest (Err error) = (error ≡ errors.Malformed) × (rest ≡ [] → ⊥)

-- these bytes are zeros
abbrev pub AreZeros : List ℕ → Type 0
AreZeros bytes = bytes ≡ replicate (length bytes) 0

-- What a function returned, seen by view, is a value with only zeros behind it, unless memory ran out.
abbrev pub IsBeforeZeros : {X T : Type 0} → (X → T × List ℕ) → Result X ReadError → Result (Option T) OutOfMemory → Type 0
IsBeforeZeros view (Ok x) (Ok (Some value)) = ((view x).0 ≡ value) × AreZeros (view x).1
IsBeforeZeros view (Ok x) (Ok None) = AreZeros (view x).1 → ⊥
IsBeforeZeros view (Ok x) (Err error) = ⊥
IsBeforeZeros view (Err errors.Malformed) result = result ≡ Ok None
IsBeforeZeros view (Err errors.OutOfMemory) (Ok found) = ⊥
IsBeforeZeros view (Err errors.OutOfMemory) (Err error) = Unit {0}

-- what reads a part
abbrev pub Reader : Type 0 → Type 0
Reader X = List ℕ → Option (X × List ℕ)

-- a number
abbrev pub number_at : Width → Reader ℕ
number_at w bytes = if nat_lt (length bytes) (byte_len w) then None else Some (from_be_bytes w (take (byte_len w) bytes), drop (byte_len w) bytes)

-- as many bytes as are wanted
abbrev pub bytes_at : ℕ → Reader (List ℕ)
bytes_at n bytes = if nat_lt (length bytes) n then None else Some (take n bytes, drop n bytes)

-- one part, and then another
abbrev pub then_at : {A B : Type 0} → Reader A → Reader B → Reader (A × B)
then_at a b bytes = a bytes >>= λ x. b x.1 >>= λ y. Some ((x.0, y.0), y.1)

-- a part as another value
abbrev pub as_at : {A B : Type 0} → (A → B) → Reader A → Reader B
as_at f a bytes = a bytes >>= λ x. Some (f x.0, x.1)

-- a part that passes a test
abbrev pub tested_at : {A : Type 0} → (A → Bool) → Reader A → Reader A
tested_at test a bytes = a bytes >>= λ x. if test x.0 then Some x else None

-- as many parts as are wanted
unfoldable pub list_at : {A : Type 0} → ℕ → Reader A → Reader (List A)
list_at zero a bytes = Some ([], bytes)
list_at (suc n) a bytes = a bytes >>= λ first. list_at n a first.1 >>= λ others. Some (first.0 ∷ others.0, others.1)

-- a number that tells the size of a part, and the part
abbrev pub sized_at : {A : Type 0} → Reader ℕ → (ℕ → Reader A) → Reader A
sized_at size part bytes = size bytes >>= λ n. part n.0 n.1
