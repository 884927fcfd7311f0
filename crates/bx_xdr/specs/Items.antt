-- Items of XDR (RFC 4506) as bytes. A kind of item says which bytes spell which value.
use Rattle.std.specs.Prelude.{◌≡◌, ℕ, ◌-◌, ◌%◌, ◌^◌, ◌<◌, ◌≤◌, List, [], ◌∷◌, ◌++◌, length, replicate}
use Rattle.std.specs.Int.{w32, to_be_bytes}
use Rattle.bx_base.specs.Bytes.{words}

-- how many bytes are put behind n bytes, so that there are a multiple of four
abbrev pub padding_len : ℕ → ℕ
padding_len n = (4 - n % 4) % 4

-- each is a number of 32 bits
abbrev pub AreWords : List ℕ → Type 0
AreWords [] = Unit {0}
AreWords (number ∷ numbers) = (number < 2 ^ 32) × AreWords numbers

-- The bytes are a number of 32 bits, the highest byte first (RFC 4506, section 4.2).
pub record SpellsWord (word : ℕ) (bytes : List ℕ) : Type 0 where
  pub fits : word < 2 ^ 32
  pub parts : bytes ≡ to_be_bytes w32 word

-- The bytes are n numbers of 32 bits, one behind the other (RFC 4506, sections 4.12 and 4.14).
pub record SpellsWords (n : ℕ) (numbers bytes : List ℕ) : Type 0 where
  pub count : length numbers ≡ n
  pub fit : AreWords numbers
  pub parts : bytes ≡ words numbers

-- The bytes are n bytes of content and their padding, whatever bytes that is (RFC 4506, section 4.9).
pub record SpellsFixed (n : ℕ) (content bytes : List ℕ) : Type 0 where
  pub padding : List ℕ
  pub len : length content ≡ n
  pub padded : length padding ≡ padding_len n
  pub parts : bytes ≡ content ++ padding

-- The bytes are a spelling of the one kind, and one of the other behind it (RFC 4506, section 4.14).
pub record Then (First Second : List ℕ → Type 0) (bytes : List ℕ) : Type 0 where
  pub front : List ℕ
  pub back : List ℕ
  pub first : First front
  pub second : Second back
  pub parts : bytes ≡ front ++ back

-- The bytes are how many bytes of content there are, at most max, and the content (RFC 4506, sections 4.10 and 4.11).
pub record SpellsOpaque (max : ℕ) (content bytes : List ℕ) : Type 0 where
  pub short : length content ≤ max
  pub parts : Then (SpellsWord (length content)) (SpellsFixed (length content) content) bytes

-- The bytes are how many numbers of 32 bits there are, at most max, and the numbers (RFC 4506, section 4.13).
pub record SpellsList (max : ℕ) (numbers bytes : List ℕ) : Type 0 where
  pub short : length numbers ≤ max
  pub parts : Then (SpellsWord (length numbers)) (SpellsWords (length numbers) numbers) bytes

-- two items one behind the other, with both their values
abbrev pub Both : {V W : Type 0} → (V → List ℕ → Type 0) → (W → List ℕ → Type 0) → V × W → List ℕ → Type 0
Both First Second value bytes = Then (First value.0) (Second value.1) bytes

-- items whose value is made of what they spell
abbrev pub Made : {V W : Type 0} → (V → W) → (V → List ℕ → Type 0) → W → List ℕ → Type 0
Made {V} made Spells value bytes = (part : V) × (value ≡ made part) × Spells part bytes

-- The text begins with a spelling, and the rest is behind it.
pub record Reads (Spells : List ℕ → Type 0) (text rest : List ℕ) : Type 0 where
  pub spelling : List ℕ
  pub spells : Spells spelling
  pub parts : text ≡ spelling ++ rest

-- The text begins with no item of the kind.
abbrev pub Lacks : {V : Type 0} → (V → List ℕ → Type 0) → List ℕ → Type 0
Lacks {V} Spells text = (value : V) (rest : List ℕ) → Reads (Spells value) text rest → ⊥

-- Items of the kind have one reading: a text begins with one of them at most, and one rest is behind it.
abbrev pub HasOneReading : {V : Type 0} → (V → List ℕ → Type 0) → Type 0
HasOneReading {V} Spells = (text a b : List ℕ) (v w : V) → Reads (Spells v) text a → Reads (Spells w) text b → (v ≡ w) × (a ≡ b)

-- the one spelling of a word
abbrev pub word_text : ℕ → List ℕ
word_text word = to_be_bytes w32 word

-- the spelling of opaque data of fixed length of which the padding is zeros
abbrev pub fixed_text : List ℕ → List ℕ
fixed_text content = content ++ replicate (padding_len (length content)) 0

-- the spelling of opaque data of which the padding is zeros
abbrev pub opaque_text : List ℕ → List ℕ
opaque_text content = word_text (length content) ++ fixed_text content
