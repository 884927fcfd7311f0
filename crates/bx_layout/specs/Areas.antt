-- Areas: the words of the slots, and the bits of dead inodes.
use Rattle.std.specs.Prelude.{◌≡◌, ℕ, ◌+◌, ◌/◌, ◌%◌, ◌^◌, ◌<◌, Bool, true, false, not, ◌&&◌, ◌==◌, nat_lt, nat_le, if◌then◌else◌, List, ◌++◌, length, slice_index, slice_set}
use Rattle.bx_base.specs.Bytes.{words}
use Rattle.bx_base.specs.Writing.{padded}
use Rattle.bx_layout.specs.declared.area.AreaBlock.{AreaBlock}

-- what every area has: a word of 32 bits for each slot, and a bit for each
pub record IsArea (area : AreaBlock) : Type 0 where
  pub words : length area.words ≡ 960
  pub fits : (slot : ℕ) → slice_index area.words slot < 2 ^ 32
  pub dead : length area.dead ≡ 120

-- the words, and the bits
abbrev pub area_text : AreaBlock → List ℕ
area_text area = words area.words ++ area.dead

-- the payload is this area
pub record SpellsArea (area : AreaBlock) (payload : List ℕ) : Type 0 where
  pub is : IsArea area
  pub parts : payload ≡ padded 4096 (area_text area)

-- of a slot's word: whether the slot is in use, and the generation
abbrev pub in_use : ℕ → Bool
in_use word = nat_le (2 ^ 31) word

abbrev pub generation_in : ℕ → ℕ
generation_in word = word % 2 ^ 31

-- the greatest generation, after which a slot isn't given any more
abbrev pub last_generation : ℕ
last_generation = 2147483647

-- a slot is free: it isn't in use, and its generation isn't the last
abbrev pub is_free : ℕ → Bool
is_free word = not (in_use word) && nat_lt (generation_in word) last_generation

-- the word of a free slot once it is taken: in use, in the next generation
abbrev pub taken_word : ℕ → ℕ
taken_word word = 2 ^ 31 + (generation_in word + 1)

-- the word of a slot once it is freed: not in use, in the same generation
abbrev pub freed_word : ℕ → ℕ
freed_word word = generation_in word

-- the area with another word for a slot
abbrev pub with_word : AreaBlock → ℕ → ℕ → AreaBlock
with_word area slot word = record { words = slice_set area.words slot word; dead = area.dead }

-- the lowest free slot
pub record IsLowestFree (area : AreaBlock) (slot : ℕ) : Type 0 where
  pub there : slot < 960
  pub free : is_free (slice_index area.words slot) ≡ true
  pub lowest : (lower : ℕ) → lower < slot → is_free (slice_index area.words lower) ≡ false

-- the bit of a number, from the lowest
abbrev pub bit : ℕ → ℕ → Bool
bit byte n = (byte / 2 ^ n) % 2 == 1

-- whether a slot holds a dead inode
abbrev pub is_dead : AreaBlock → ℕ → Bool
is_dead area slot = bit (slice_index area.dead (slot / 8)) (slot % 8)

-- the area in which the slot's bit alone is another
pub record MarksDead (old new : AreaBlock) (slot : ℕ) (dead : Bool) : Type 0 where
  pub words : new.words ≡ old.words
  pub len : length new.dead ≡ length old.dead
  pub bits : (other : ℕ) → other < 960 → is_dead new other ≡ (if other == slot then dead else is_dead old other)
