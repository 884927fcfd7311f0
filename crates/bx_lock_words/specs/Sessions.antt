-- Of which session a word is.
use Rattle.std.specs.Prelude.{ℕ}
use Rattle.bx_lock_words.specs.declared.words.Word.{Word}
use Rattle.bx_lock_words.specs.declared.words.Word.TheVariants.{Wants, Grants, Revokes, Releases, Renews, Leases}

abbrev pub session_in : Word → ℕ
session_in (Wants w) = w.session
session_in (Grants g) = g.session
session_in (Revokes v) = v.session
session_in (Releases l) = l.session
session_in (Renews s) = s
session_in (Leases s u) = s
