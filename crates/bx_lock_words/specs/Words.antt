-- The kind and the body of each word. Of each number the highest byte comes first.
use Rattle.std.specs.Prelude.{◌≡◌, ℕ, List, ◌++◌}
use Rattle.std.specs.Int.{w32, w64, to_be_bytes}
use Rattle.bx_base.specs.declared.names.Actor.{Actor}
use Rattle.bx_base.specs.declared.names.Mode.{Mode}
use Rattle.bx_base.specs.declared.names.Mode.TheVariants.{Shared, Exclusive}
use Rattle.bx_post.specs.declared.packets.Letter.{Letter}
use Rattle.bx_rows.specs.Conditions.{Fits}
use Rattle.bx_lock_words.specs.declared.words.Grant.{Grant}
use Rattle.bx_lock_words.specs.declared.words.Release.{Release}
use Rattle.bx_lock_words.specs.declared.words.Revoke.{Revoke}
use Rattle.bx_lock_words.specs.declared.words.Want.{Want}
use Rattle.bx_lock_words.specs.declared.words.Word.{Word}
use Rattle.bx_lock_words.specs.declared.words.Word.TheVariants.{Wants, Grants, Revokes, Releases, Renews, Leases}

abbrev pub kind_of : Word → ℕ
kind_of (Wants w) = 8
kind_of (Grants g) = 9
kind_of (Revokes v) = 10
kind_of (Releases l) = 11
kind_of (Renews s) = 12
kind_of (Leases s u) = 13

abbrev pub mode_number : Mode → ℕ
mode_number Shared = 0
mode_number Exclusive = 1

abbrev pub mode_text : Mode → List ℕ
mode_text mode = to_be_bytes w32 (mode_number mode)

-- two numbers
unfoldable pub numbers_text : ℕ → ℕ → List ℕ
numbers_text a b = to_be_bytes w64 a ++ to_be_bytes w64 b

unfoldable pub want_text : Want → List ℕ
want_text w = numbers_text w.session w.block ++ (mode_text w.mode ++ to_be_bytes w64 w.number)

unfoldable pub grant_text : Grant → List ℕ
grant_text g = numbers_text g.session g.block ++ (mode_text g.mode ++ numbers_text g.number g.index)

unfoldable pub revoke_text : Revoke → List ℕ
revoke_text v = numbers_text v.session v.block ++ numbers_text v.number v.asking

unfoldable pub release_text : Release → List ℕ
release_text l = numbers_text l.session l.block ++ numbers_text l.number l.index

abbrev pub body_text : Word → List ℕ
body_text (Wants w) = want_text w
body_text (Grants g) = grant_text g
body_text (Revokes v) = revoke_text v
body_text (Releases l) = release_text l
body_text (Renews s) = to_be_bytes w64 s
body_text (Leases s u) = numbers_text s u

-- its numbers have eight bytes
abbrev pub IsWord : Word → Type 0
IsWord (Wants w) = Fits w.session × Fits w.block × Fits w.number
IsWord (Grants g) = Fits g.session × Fits g.block × Fits g.number × Fits g.index
IsWord (Revokes v) = Fits v.session × Fits v.block × Fits v.number × Fits v.asking
IsWord (Releases l) = Fits l.session × Fits l.block × Fits l.number × Fits l.index
IsWord (Renews s) = Fits s
IsWord (Leases s u) = Fits s × Fits u

-- The kind and the body are those of this word.
pub record Spells (word : Word) (kind : ℕ) (body : List ℕ) : Type 0 where
  pub is : IsWord word
  pub kind_is : kind ≡ kind_of word
  pub body_is : body ≡ body_text word

-- the letter that says it
abbrev pub letter_with : Actor → Actor → Word → Letter
letter_with from to word = record { from = from; to = to; kind = kind_of word; body = body_text word }
