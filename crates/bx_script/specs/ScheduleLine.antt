-- What the lines of a schedule are, and the one spelling of each.
use Rattle.std.specs.Prelude.{ℕ, ◌/◌, ◌%◌, ◌<◌, ◌≤◌, ◌^◌, ◌-◌, ◌==◌, if◌then◌else◌, List, [], ◌∷◌, ◌++◌, length, slice_index_or, codes}
use Rattle.std.specs.Fmt.{decimal}
use Rattle.hex.specs.Hex.{encode_lower}
use Rattle.bx_base.specs.Bytes.{IsBytes}
use Rattle.bx_base.specs.declared.names.Actor.{Actor}
use Rattle.bx_base.specs.declared.names.Actor.TheVariants.{Node, Replica, Server, Member}
use Rattle.bx_base.specs.Text.{spaced}
use Rattle.bx_disk.specs.declared.noise.Noise.{Noise}
use Rattle.bx_disk.specs.declared.noise.Noise.TheVariants.{Keep, Drop, Seed}
use Rattle.bx_script.specs.declared.line.Line.{Line}
use Rattle.bx_script.specs.declared.line.Line.TheVariants.{Heading, Call, Run, Tick, Deliver, Next, Sync, Hold, Free, Drop as DropPackets, Crash, CrashAll, Restart, RestartAll, Blank}

-- the word for what a crash makes of unsure sectors
abbrev pub noise_text : Noise → List ℕ
noise_text Keep = codes "keep"
noise_text Drop = codes "drop"
noise_text (Seed seed) = codes "seed:" ++ decimal seed

-- the name of a machine: a letter for its kind, and its number among those of its kind, of a member the number of its device
abbrev pub machine_text : Actor → List ℕ
machine_text (Node n) = codes "n" ++ decimal n
machine_text (Replica n) = codes "p" ++ decimal n
machine_text (Server n) = codes "l" ++ decimal n
machine_text (Member n) = (if n % 2 == 0 then codes "a" else codes "b") ++ decimal (n / 2)

-- the words of the kinds of packets, in the order of their numbers, from 1 on: those of the register, of the lock service, of writes to members, and what members say
abbrev pub register_words : List (List ℕ)
register_words = codes "ask" ∷ codes "decided" ∷ codes "prepare" ∷ codes "promise" ∷ codes "accept" ∷ codes "accepted" ∷ codes "refused" ∷ []

abbrev pub lock_words : List (List ℕ)
lock_words = codes "want" ∷ codes "grant" ∷ codes "revoke" ∷ codes "release" ∷ codes "renew" ∷ codes "lease" ∷ []

abbrev pub write_words : List (List ℕ)
write_words = codes "body" ∷ codes "gate" ∷ codes "home" ∷ codes "shut" ∷ codes "settle" ∷ []

abbrev pub member_words : List (List ℕ)
member_words = codes "wrote" ∷ codes "read" ∷ codes "data" ∷ codes "copy" ∷ codes "copied" ∷ codes "alive" ∷ []

abbrev pub kind_words : List (List ℕ)
kind_words = register_words ++ (lock_words ++ (write_words ++ member_words))

abbrev pub kind_text : ℕ → List ℕ
kind_text kind = slice_index_or kind_words (kind - 1) []

-- the fields of a line, its first word among them
abbrev pub fields : Line → List (List ℕ)
fields (Heading volume nodes devices areas) = codes "boxwood" ∷ codes "1" ∷ decimal volume ∷ decimal nodes ∷ decimal devices ∷ decimal areas ∷ []
fields (Call reading node client datagram) = codes "call" ∷ decimal reading ∷ decimal node ∷ decimal client ∷ encode_lower datagram ∷ []
fields (Run reading limit) = codes "run" ∷ decimal reading ∷ decimal limit ∷ []
fields (Tick reading machine) = codes "tick" ∷ decimal reading ∷ machine_text machine ∷ []
fields (Deliver reading number) = codes "deliver" ∷ decimal reading ∷ decimal number ∷ []
fields (Next reading from to) = codes "next" ∷ decimal reading ∷ machine_text from ∷ machine_text to ∷ []
fields (Sync machine) = codes "sync" ∷ machine_text machine ∷ []
fields (Hold from to kind) = codes "hold" ∷ machine_text from ∷ machine_text to ∷ kind_text kind ∷ []
fields (Free from to kind) = codes "free" ∷ machine_text from ∷ machine_text to ∷ kind_text kind ∷ []
fields (DropPackets from to kind) = codes "drop" ∷ machine_text from ∷ machine_text to ∷ kind_text kind ∷ []
fields (Crash machine noise) = codes "crash" ∷ machine_text machine ∷ noise_text noise ∷ []
fields (CrashAll noise) = codes "crash" ∷ codes "all" ∷ noise_text noise ∷ []
fields (Restart reading machine) = codes "restart" ∷ decimal reading ∷ machine_text machine ∷ []
fields (RestartAll reading) = codes "restart" ∷ decimal reading ∷ codes "all" ∷ []
fields (Blank machine) = codes "blank" ∷ machine_text machine ∷ []

-- the bytes of a line, without its line feed
abbrev pub spelling : Line → List ℕ
spelling line = spaced (fields line)

-- milliseconds up to the greatest reading
abbrev pub IsReading : ℕ → Type 0
IsReading reading = reading ≤ 4294967295999

pub record IsHeading (volume nodes devices areas : ℕ) : Type 0 where
  pub volume_fits : volume < 2 ^ 64
  pub some_nodes : 1 ≤ nodes
  pub most_nodes : nodes ≤ 4
  pub some_devices : 1 ≤ devices
  pub most_devices : devices ≤ 4
  pub some_areas : 1 ≤ areas
  pub most_areas : areas ≤ 64

pub record IsCall (reading node client : ℕ) (datagram : List ℕ) : Type 0 where
  pub reading_fits : IsReading reading
  pub node_fits : node < 2 ^ 32
  pub client_fits : client < 2 ^ 32
  pub short : length datagram ≤ 9216
  pub bytes : IsBytes datagram

pub record IsRun (reading limit : ℕ) : Type 0 where
  pub reading_fits : IsReading reading
  pub some : 1 ≤ limit
  pub most : limit ≤ 1000000

-- machines that a schedule may name: four nodes, three replicas, two lock servers, and two members of each of four devices
abbrev pub IsNamed : Actor → Type 0
IsNamed (Node n) = n ≤ 3
IsNamed (Replica n) = n ≤ 2
IsNamed (Server n) = n ≤ 1
IsNamed (Member n) = n ≤ 7

pub record IsKind (kind : ℕ) : Type 0 where
  pub least : 1 ≤ kind
  pub most : kind ≤ 24

pub record IsLane (from to : Actor) (kind : ℕ) : Type 0 where
  pub from_named : IsNamed from
  pub to_named : IsNamed to
  pub is_kind : IsKind kind

abbrev pub IsNoise : Noise → Type 0
IsNoise Keep = Unit {0}
IsNoise Drop = Unit {0}
IsNoise (Seed seed) = seed < 2 ^ 64

-- the values that the grammar has
abbrev pub InRange : Line → Type 0
InRange (Heading volume nodes devices areas) = IsHeading volume nodes devices areas
InRange (Call reading node client datagram) = IsCall reading node client datagram
InRange (Run reading limit) = IsRun reading limit
InRange (Tick reading machine) = IsReading reading × IsNamed machine
InRange (Deliver reading number) = IsReading reading × (number < 2 ^ 64)
InRange (Next reading from to) = IsReading reading × IsNamed from × IsNamed to
InRange (Sync machine) = IsNamed machine
InRange (Hold from to kind) = IsLane from to kind
InRange (Free from to kind) = IsLane from to kind
InRange (DropPackets from to kind) = IsLane from to kind
InRange (Crash machine noise) = IsNamed machine × IsNoise noise
InRange (CrashAll noise) = IsNoise noise
InRange (Restart reading machine) = IsReading reading × IsNamed machine
InRange (RestartAll reading) = IsReading reading
InRange (Blank machine) = IsNamed machine
