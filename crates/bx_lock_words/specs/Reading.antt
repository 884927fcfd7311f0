-- Reading words from the front of bytes.
use Rattle.std.specs.Prelude.{◌==◌, ℕ, zero, suc, Bool, nat_lt, None, if◌then◌else◌}
use Rattle.std.specs.Int.{w32, w64}
use Rattle.bx_base.specs.declared.names.Mode.{Mode}
use Rattle.bx_base.specs.declared.names.Mode.TheVariants.{Shared, Exclusive}
use Rattle.bx_base.specs.Reading.{Reader, number_at, then_at, as_at, tested_at}
use Rattle.bx_lock_words.specs.declared.words.Grant.{Grant}
use Rattle.bx_lock_words.specs.declared.words.Release.{Release}
use Rattle.bx_lock_words.specs.declared.words.Revoke.{Revoke}
use Rattle.bx_lock_words.specs.declared.words.Want.{Want}
use Rattle.bx_lock_words.specs.declared.words.Word.{Word}
use Rattle.bx_lock_words.specs.declared.words.Word.TheVariants.{Wants, Grants, Revokes, Releases, Renews, Leases}

-- two numbers
unfoldable pub numbers_at : Reader (ℕ × ℕ)
numbers_at bytes = then_at (number_at w64) (number_at w64) bytes

-- a mode, which is 0 or 1
abbrev pub is_mode : ℕ → Bool
is_mode n = nat_lt n 2

abbrev pub mode_with : ℕ → Mode
mode_with zero = Shared
mode_with (suc n) = Exclusive

unfoldable pub mode_at : Reader Mode
mode_at bytes = as_at mode_with (tested_at is_mode (number_at w32)) bytes

-- the fields of words, in their order
abbrev pub WantFields : Type 0
WantFields = (ℕ × ℕ) × (Mode × ℕ)

abbrev pub want_with : WantFields → Want
want_with x = record { session = x.0.0; block = x.0.1; mode = x.1.0; number = x.1.1 }

abbrev pub want_fields : Want → WantFields
want_fields w = ((w.session, w.block), (w.mode, w.number))

unfoldable pub want_at : Reader Want
want_at bytes = as_at want_with (then_at numbers_at (then_at mode_at (number_at w64))) bytes

abbrev pub GrantFields : Type 0
GrantFields = (ℕ × ℕ) × (Mode × (ℕ × ℕ))

abbrev pub grant_with : GrantFields → Grant
grant_with x = record { session = x.0.0; block = x.0.1; mode = x.1.0; number = x.1.1.0; index = x.1.1.1 }

abbrev pub grant_fields : Grant → GrantFields
grant_fields g = ((g.session, g.block), (g.mode, (g.number, g.index)))

unfoldable pub grant_at : Reader Grant
grant_at bytes = as_at grant_with (then_at numbers_at (then_at mode_at numbers_at)) bytes

abbrev pub NumbersFields : Type 0
NumbersFields = (ℕ × ℕ) × (ℕ × ℕ)

abbrev pub revoke_with : NumbersFields → Revoke
revoke_with x = record { session = x.0.0; block = x.0.1; number = x.1.0; asking = x.1.1 }

abbrev pub revoke_fields : Revoke → NumbersFields
revoke_fields v = ((v.session, v.block), (v.number, v.asking))

unfoldable pub revoke_at : Reader Revoke
revoke_at bytes = as_at revoke_with (then_at numbers_at numbers_at) bytes

abbrev pub release_with : NumbersFields → Release
release_with x = record { session = x.0.0; block = x.0.1; number = x.1.0; index = x.1.1 }

abbrev pub release_fields : Release → NumbersFields
release_fields l = ((l.session, l.block), (l.number, l.index))

unfoldable pub release_at : Reader Release
release_at bytes = as_at release_with (then_at numbers_at numbers_at) bytes

abbrev pub leases_with : ℕ × ℕ → Word
leases_with x = Leases x.0 x.1

-- what stands at the front of a body of a kind
unfoldable pub word_at : ℕ → Reader Word
word_at kind bytes =
    if kind == 8 then as_at Wants want_at bytes
    else if kind == 9 then as_at Grants grant_at bytes
    else if kind == 10 then as_at Revokes revoke_at bytes
    else if kind == 11 then as_at Releases release_at bytes
    else if kind == 12 then as_at Renews (number_at w64) bytes
    else if kind == 13 then as_at leases_with numbers_at bytes
    else None
