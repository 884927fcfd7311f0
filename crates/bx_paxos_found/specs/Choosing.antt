-- Which of three cells is read.
use Rattle.std.specs.Prelude.{ℕ, ◌==◌, nat_lt, Bool, ◌&&◌, ◌||◌, Option, Some, None, if◌then◌else◌}
use Rattle.bx_global.specs.declared.held.Held.{Held}
use Rattle.bx_global.specs.declared.state.GlobalState.{GlobalState}
use Rattle.bx_rows.specs.declared.ballot.Ballot.{Ballot}
use Rattle.bx_paxos_found.specs.declared.choosing.Accepted.{Accepted}

-- three cells, by the numbers of their replicas
abbrev pub three : {A : Type 0} → Option A → Option A → Option A → ℕ → Option A
three a b c n = if n == 0 then a else (if n == 1 then b else (if n == 2 then c else None))

-- what a cell has accepted, and what it knows to be decided
abbrev pub accepted_of : Option Held → Option Accepted
accepted_of None = None
accepted_of (Some held) = if held.flag == 1 then Some (record { ballot = held.ballot; state = held.accepted }) else None

abbrev pub decided_of : Option Held → Option GlobalState
decided_of None = None
decided_of (Some held) = Some held.decided

-- a ballot comes before another
abbrev pub before_in : Ballot → Ballot → Bool
before_in a b = nat_lt a.round b.round || (a.round == b.round && (nat_lt a.actor b.actor || (a.actor == b.actor && nat_lt a.boot b.boot)))

-- an accepted state counts less than another: its index is lower, or the same, and its ballot comes before
abbrev pub counts_less : Accepted → Accepted → Bool
counts_less x y = nat_lt x.state.index y.state.index || (x.state.index == y.state.index && before_in x.ballot y.ballot)

-- of two that which counts more, the first where both count the same
abbrev pub higher_of : Option Accepted → Option Accepted → Option Accepted
higher_of None other = other
higher_of (Some x) None = Some x
higher_of (Some x) (Some y) = if counts_less x y then Some y else Some x

-- of two states that of the greater index, the first where both are equal
abbrev pub later_of : Option GlobalState → Option GlobalState → Option GlobalState
later_of None other = other
later_of (Some s) None = Some s
later_of (Some s) (Some t) = if nat_lt s.index t.index then Some t else Some s

-- the accepted state, where it is above the decided one
abbrev pub told_of : Option Accepted → Option GlobalState → Option GlobalState
told_of accepted None = None
told_of None (Some s) = Some s
told_of (Some x) (Some s) = if nat_lt s.index x.state.index then Some x.state else Some s

-- what three cells are read as
abbrev pub chosen_of : Option Held → Option Held → Option Held → Option GlobalState
chosen_of a b c = told_of (higher_of (higher_of (accepted_of a) (accepted_of b)) (accepted_of c)) (later_of (later_of (decided_of a) (decided_of b)) (decided_of c))
