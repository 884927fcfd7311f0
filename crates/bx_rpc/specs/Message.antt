-- Messages (RFC 5531, section 9), and what is said of a call before its arguments.
use Rattle.std.specs.Prelude.{◌≡◌, ℕ, ◌+◌, ◌<◌, ◌≤◌, ◌&&◌, nat_le, Bool, List, [], ◌∷◌, length, take, drop, ◌⊎◌}
use Rattle.std.specs.Str.{bytes_eq}
use Rattle.bx_xdr.specs.Items.{SpellsWords, Reads}
use Rattle.bx_rpc.specs.declared.caller.Caller.{Caller}
use Rattle.bx_rpc.specs.declared.opened.Opened.{Opened}
use Rattle.bx_rpc.specs.Checks.{IsProgram, Verdict, Checks}
use Rattle.bx_rpc.specs.Checks.Verdict.{refused, passed}

-- The datagram is a call's: it has at most 9216 bytes, and begins with the call's number and the word CALL (0).
pub record IsCall (datagram : List ℕ) (xid : ℕ) (text : List ℕ) : Type 0 where
  pub short : length datagram ≤ 9216
  pub reads : Reads (SpellsWords 2 (xid ∷ 0 ∷ [])) datagram text

-- whether bytes are such a datagram: there are 8 to 9216, of which the second word is CALL
abbrev pub is_message : List ℕ → Bool
is_message datagram = nat_le (length datagram) 9216 && bytes_eq (take 4 (drop 4 datagram)) (0 ∷ 0 ∷ 0 ∷ 0 ∷ [])

-- The number of a refusal is 1 to 7. The reply to one of number 3 goes by the program, and no other does.
pub record IsRefusal (number by : ℕ) : Type 0 where
  pub positive : 0 < number
  pub small : number ≤ 7
  pub program : (by ≡ 0) ⊎ ((number ≡ 3) × IsProgram by)

-- what was opened of a refused call: no more than the number and the program of its refusal
pub record SaysRefused (n by : ℕ) (opened : Opened) : Type 0 where
  pub number : opened.refusal ≡ n
  pub positive : 0 < n
  pub program : opened.program ≡ by
  pub procedure : opened.procedure ≡ 0
  pub uid : opened.uid ≡ 0
  pub gid : opened.gid ≡ 0
  pub gids : opened.gids ≡ []
  pub rest : opened.rest ≡ 0

-- what was opened of a call that passes
pub record SaysPassed (datagram : List ℕ) (p q : ℕ) (caller : Caller) (tail : List ℕ) (opened : Opened) : Type 0 where
  pub number : opened.refusal ≡ 0
  pub program : opened.program ≡ p
  pub procedure : opened.procedure ≡ q
  pub uid : opened.uid ≡ caller.uid
  pub gid : opened.gid ≡ caller.gid
  pub gids : opened.gids ≡ caller.gids
  pub place : opened.rest + length tail ≡ length datagram
  pub arguments : drop opened.rest datagram ≡ tail

-- what was opened of a datagram, by the verdict
abbrev pub Says : List ℕ → Verdict → Opened → Type 0
Says datagram (refused number program) opened = SaysRefused number program opened
Says datagram (passed program procedure caller arguments) opened = SaysPassed datagram program procedure caller arguments opened

-- the datagram is a call's, and this is what was opened of it
pub record Opens (datagram : List ℕ) (opened : Opened) : Type 0 where
  pub text : List ℕ
  pub verdict : Verdict
  pub call : IsCall datagram opened.xid text
  pub checked : Checks verdict text
  pub says : Says datagram verdict opened
