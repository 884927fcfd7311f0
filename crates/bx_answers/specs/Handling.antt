-- What an acceptor holds after a message, and what it answers.
use Rattle.std.specs.Prelude.{◌≡◌, ◌+◌, ◌^◌, ◌<◌, ◌≤◌, ◌⊎◌, Option, Some, None}
use Rattle.bx_global.specs.declared.held.Held.{Held}
use Rattle.bx_global.specs.declared.state.GlobalState.{GlobalState}
use Rattle.bx_rows.specs.declared.ballot.Ballot.{Ballot}
use Rattle.bx_rows.specs.Ballots.{ComesBefore}
use Rattle.bx_packets.specs.declared.message.Message.{Message}
use Rattle.bx_packets.specs.declared.message.Message.TheVariants.{Ask, Decided, Prepare, Promise as Promising, Accept, Accepted, Refused}
use Rattle.bx_packets.specs.declared.message.Promise.{Promise}

-- the same ballot, or one that comes after
abbrev pub AtMost : Ballot → Ballot → Type 0
AtMost a b = (a ≡ b) ⊎ ComesBefore a b

-- no ballot: that of nothing accepted, and the promise of an acceptor that never promised
abbrev pub no_ballot : Ballot
no_ballot = record { round = 0; actor = 0; boot = 0 }

-- what is held once a newer decided state is known: the promise stays, and nothing is accepted
abbrev pub caught_up : GlobalState → Held → Held
caught_up s held = record { index = s.index + 1; promise = held.promise; ballot = no_ballot; flag = 0; accepted = s; decided = s }

-- .. once a ballot is promised
abbrev pub raised : Ballot → Held → Held
raised b held = record held { promise = b }

-- .. once a state is accepted
abbrev pub accepting : Ballot → GlobalState → Held → Held
accepting b s held = record held { promise = b; ballot = b; flag = 1; accepted = s }

-- what is held to begin with
abbrev pub first_held : GlobalState → Held
first_held s = record { index = s.index + 1; promise = no_ballot; ballot = no_ballot; flag = 0; accepted = s; decided = s }

-- the promise that is sent of what is held then
abbrev pub promise_of : Held → Promise
promise_of held = record { ballot = held.promise; index = held.index; flag = held.flag; accepted = held.ballot; state = held.accepted }

-- A decided state is taken where it is newer.
abbrev pub Learns : Held → GlobalState → Held → Type 0
Learns held s new = ((held.decided.index < s.index) × (new ≡ caught_up s held)) ⊎ ((s.index ≤ held.decided.index) × (new ≡ held))

-- A ballot above the promise is promised; any other is refused.
abbrev pub Promises : Held → Ballot → Held → Option Message → Type 0
Promises held b new answer =
    (ComesBefore held.promise b × (new ≡ raised b held) × (answer ≡ Some (Promising (promise_of (raised b held)))))
    ⊎ ((ComesBefore held.promise b → ⊥) × (new ≡ held) × (answer ≡ Some (Refused held.index held.promise)))

-- One that comes with an older state than the last known is told that one. A newer one is taken first.
abbrev pub Prepares : Held → Ballot → GlobalState → Held → Option Message → Type 0
Prepares held b s new answer =
    ((s.index < held.decided.index) × (new ≡ held) × (answer ≡ Some (Decided held.decided)))
    ⊎ (((held.decided.index < s.index) × Promises (caught_up s held) b new answer)
    ⊎ ((s.index ≡ held.decided.index) × Promises held b new answer))

-- A state of the index that is voted on is accepted where the ballot isn't below the promise, and else refused. One of a
-- later index is passed over; one of an earlier index is answered with the last decided state.
abbrev pub Votes : Held → Ballot → GlobalState → Held → Option Message → Type 0
Votes held b s new answer =
    ((held.index < s.index) × (new ≡ held) × (answer ≡ None))
    ⊎ (((s.index < held.index) × (new ≡ held) × (answer ≡ Some (Decided held.decided)))
    ⊎ (((s.index ≡ held.index) × ComesBefore b held.promise × (new ≡ held) × (answer ≡ Some (Refused held.index held.promise)))
    ⊎ ((s.index ≡ held.index) × AtMost held.promise b × (new ≡ accepting b s held) × (answer ≡ Some (Accepted b held.index)))))

-- An acceptor that holds this takes a message, holds that then, and answers so.
abbrev pub Handles : Held → Message → Held → Option Message → Type 0
Handles held Ask new answer = (new ≡ held) × (answer ≡ Some (Decided held.decided))
Handles held (Decided s) new answer = Learns held s new × (answer ≡ None)
Handles held (Prepare b s) new answer = Prepares held b s new answer
Handles held (Promising promise) new answer = (new ≡ held) × (answer ≡ None)
Handles held (Accept b s) new answer = Votes held b s new answer
Handles held (Accepted b index) new answer = (new ≡ held) × (answer ≡ None)
Handles held (Refused index b) new answer = (new ≡ held) × (answer ≡ None)

-- a decided state that it brings has an index behind it
abbrev pub HasRoomAbove : Message → Type 0
HasRoomAbove Ask = Unit {0}
HasRoomAbove (Decided s) = s.index + 1 < 2 ^ 64
HasRoomAbove (Prepare b s) = s.index + 1 < 2 ^ 64
HasRoomAbove (Promising promise) = Unit {0}
HasRoomAbove (Accept b s) = Unit {0}
HasRoomAbove (Accepted b index) = Unit {0}
HasRoomAbove (Refused index b) = Unit {0}

-- what is held stays, or is what the message makes of it
abbrev pub MayBecome : Held → Message → Held → Type 0
MayBecome held message new = (new ≡ held) ⊎ ((answer : Option Message) × Handles held message new answer)

-- a decided state that is newer than the last known; such a state, or a ballot above the promise; a state of the index that
-- is voted on in a ballot that isn't below the promise
abbrev pub IsNews : Held → GlobalState → Type 0
IsNews held s = held.decided.index < s.index

abbrev pub IsNewsOrAbove : Held → Ballot → GlobalState → Type 0
IsNewsOrAbove held b s = IsNews held s ⊎ ((s.index ≡ held.decided.index) × ComesBefore held.promise b)

abbrev pub IsAcceptable : Held → Ballot → GlobalState → Type 0
IsAcceptable held b s = (s.index ≡ held.index) × AtMost held.promise b

-- The message changes what is held, or is an accept that was accepted before. The cell is put for such a message alone.
abbrev pub Changes : Held → Message → Type 0
Changes held Ask = ⊥
Changes held (Decided s) = IsNews held s
Changes held (Prepare b s) = IsNewsOrAbove held b s
Changes held (Promising promise) = ⊥
Changes held (Accept b s) = IsAcceptable held b s
Changes held (Accepted b index) = ⊥
Changes held (Refused index b) = ⊥
