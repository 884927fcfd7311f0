-- Reading a line from left to right.
use Rattle.std.specs.Prelude.{◌≡◌, ℕ, ◌+◌, ◌-◌, ◌*◌, ◌^◌, Bool, ◌&&◌, not, ◌==◌, nat_lt, nat_le, if◌then◌else◌, List, [], ◌∷◌, length, take, drop, codes, position, slice_index, Option, Some, None, option_and_then}
use Rattle.std.specs.List.{list_all}
use Rattle.std.specs.Result.{result_ok}
use Rattle.std.specs.Char.{is_ascii_digit, is_ascii_uppercase}
use Rattle.std.specs.Str.{bytes_eq}
use Rattle.std.specs.Str.Parse.{digits_value}
use Rattle.hex.specs.Hex.{decode_of}
use Rattle.bx_base.specs.declared.names.Actor.{Actor}
use Rattle.bx_base.specs.declared.names.Actor.TheVariants.{Node, Replica, Server, Member}
use Rattle.bx_disk.specs.declared.noise.Noise.{Noise}
use Rattle.bx_disk.specs.declared.noise.Noise.TheVariants.{Keep, Drop, Seed}
use Rattle.bx_script.specs.ScheduleLine.{lock_words, member_words, register_words, write_words}
use Rattle.bx_script.specs.declared.line.Line.{Line}
use Rattle.bx_script.specs.declared.line.Line.TheVariants.{Heading, Call, Run, Tick, Deliver, Next, Sync, Hold, Free, Drop as DropPackets, Crash, CrashAll, Restart, RestartAll, Blank}

infixl 10 ◌>>=◌
abbrev pub ◌>>=◌ : {A B : Type 0} → Option A → (A → Option B) → Option B
o >>= f = option_and_then f o

-- What a function returned, seen by view, is what reading gives.
abbrev pub Gives : {X Y : Type 0} → (X → Y) → Option X → Option Y → Type 0
Gives view None read = read ≡ None
Gives view (Some x) read = read ≡ Some (view x)

-- the bytes before the first space, and those after it
unfoldable pub cut : List ℕ → Option (List ℕ × List ℕ)
cut text = do
  n ← position (λ c. c == 32) text
  Some (take n text, drop (n + 1) text)

-- a number without leading zeros
unfoldable pub is_numeral : List ℕ → Bool
is_numeral field =
    nat_lt 0 (length field) && not (nat_lt 1 (length field) && slice_index field 0 == 48) && list_all is_ascii_digit field

-- a number up to the most
unfoldable pub number_of : ℕ → List ℕ → Option ℕ
number_of most field =
    if is_numeral field && nat_le (digits_value 10 field) most then Some (digits_value 10 field) else None

-- the bytes that hex digits in lower case spell, at most 9216
unfoldable pub datagram_of : List ℕ → Option (List ℕ)
datagram_of hex =
    if nat_le (length hex) 18432 && list_all (λ c. not (is_ascii_uppercase c)) hex then result_ok (decode_of hex) else None

-- a number up to the most and a space, and the bytes after them
unfoldable pub number_at : ℕ → List ℕ → Option (ℕ × List ℕ)
number_at most text = do
  x ← cut text
  n ← number_of most x.0
  Some (n, x.1)

-- `1 VOLUME NODES DEVICES AREAS`
unfoldable pub heading_of : List ℕ → Option Line
heading_of text = do
  version ← number_at (2 ^ 32 - 1) text
  volume ← number_at (2 ^ 64 - 1) version.1
  nodes ← number_at 4 volume.1
  devices ← number_at 4 nodes.1
  areas ← number_of 64 devices.1
  if version.0 == 1 && nat_le 1 nodes.0 && nat_le 1 devices.0 && nat_le 1 areas then Some (Heading volume.0 nodes.0 devices.0 areas) else None

-- `READING NODE CLIENT HEX`, with the hex as it stands
unfoldable pub call_fields_of : List ℕ → Option (ℕ × ℕ × ℕ × List ℕ)
call_fields_of text = do
  reading ← number_at 4294967295999 text
  node ← number_at (2 ^ 32 - 1) reading.1
  client ← number_at (2 ^ 32 - 1) node.1
  Some (reading.0, node.0, client.0, client.1)

unfoldable pub call_of : List ℕ → Option Line
call_of text = do
  call ← call_fields_of text
  datagram ← datagram_of call.3
  Some (Call call.0 call.1 call.2 datagram)

-- `READING LIMIT`
unfoldable pub run_of : List ℕ → Option Line
run_of text = do
  reading ← number_at 4294967295999 text
  limit ← number_of 1000000 reading.1
  if nat_le 1 limit then Some (Run reading.0 limit) else None

-- `seed:N`, where the field begins so
unfoldable pub seed_of : List ℕ → Option Noise
seed_of field = do
  seed ← number_of (2 ^ 64 - 1) (drop 5 field)
  if bytes_eq (take 5 field) (codes "seed:") then Some (Seed seed) else None

-- `keep`, `drop` or `seed:N`
unfoldable pub noise_of : List ℕ → Option Noise
noise_of field =
    if bytes_eq field (codes "keep") then Some Keep
    else if bytes_eq field (codes "drop") then Some Drop
    else seed_of field

-- the member of the device that digits name
unfoldable pub member_at : ℕ → List ℕ → Option Actor
member_at side digits = do
  device ← number_of 3 digits
  Some (Member (2 * device + side))

-- the machine that a letter and digits name
unfoldable pub machine_named : List ℕ → Option Actor
machine_named [] = None
machine_named (letter ∷ digits) =
    if letter == 110 then (number_of 3 digits >>= λ n. Some (Node n))
    else if letter == 112 then (number_of 2 digits >>= λ n. Some (Replica n))
    else if letter == 108 then (number_of 1 digits >>= λ n. Some (Server n))
    else if letter == 97 then member_at 0 digits
    else if letter == 98 then member_at 1 digits
    else None

-- the number of the first of these words that a field is, where they are numbered from here on; or else another
abbrev pub numbered_or : ℕ → List (List ℕ) → List ℕ → Option ℕ → Option ℕ
numbered_or n [] field other = other
numbered_or n (word ∷ words) field other = if bytes_eq field word then Some n else numbered_or (n + 1) words field other

-- the number of the kind that a field names
unfoldable pub member_kind : List ℕ → Option ℕ
member_kind field = numbered_or 19 member_words field None

unfoldable pub write_kind : List ℕ → Option ℕ
write_kind field = numbered_or 14 write_words field (member_kind field)

unfoldable pub lock_kind : List ℕ → Option ℕ
lock_kind field = numbered_or 8 lock_words field (write_kind field)

unfoldable pub kind_named : List ℕ → Option ℕ
kind_named field = numbered_or 1 register_words field (lock_kind field)

-- `READING MACHINE`
unfoldable pub tick_of : List ℕ → Option Line
tick_of text = do
  reading ← number_at 4294967295999 text
  machine ← machine_named reading.1
  Some (Tick reading.0 machine)

-- `MACHINE`
unfoldable pub sync_of : List ℕ → Option Line
sync_of text = do
  machine ← machine_named text
  Some (Sync machine)

-- `MACHINE`
unfoldable pub blank_of : List ℕ → Option Line
blank_of text = do
  machine ← machine_named text
  Some (Blank machine)

-- `all NOISE` or `MACHINE NOISE`
unfoldable pub crash_of : List ℕ → Option Line
crash_of text = do
  who ← cut text
  noise ← noise_of who.1
  if bytes_eq who.0 (codes "all") then Some (CrashAll noise) else (machine_named who.0 >>= λ machine. Some (Crash machine noise))

-- `READING all` or `READING MACHINE`
unfoldable pub restart_of : List ℕ → Option Line
restart_of text = do
  reading ← number_at 4294967295999 text
  if bytes_eq reading.1 (codes "all") then Some (RestartAll reading.0) else (machine_named reading.1 >>= λ machine. Some (Restart reading.0 machine))

-- `READING NUMBER`
unfoldable pub deliver_of : List ℕ → Option Line
deliver_of text = do
  reading ← number_at 4294967295999 text
  number ← number_of (2 ^ 64 - 1) reading.1
  Some (Deliver reading.0 number)

-- `READING FROM TO`
unfoldable pub next_of : List ℕ → Option Line
next_of text = do
  reading ← number_at 4294967295999 text
  between ← cut reading.1
  from ← machine_named between.0
  to ← machine_named between.1
  Some (Next reading.0 from to)

-- `FROM TO KIND`
unfoldable pub lane_of : List ℕ → Option (Actor × Actor × ℕ)
lane_of text = do
  sender ← cut text
  receiver ← cut sender.1
  from ← machine_named sender.0
  to ← machine_named receiver.0
  kind ← kind_named receiver.1
  Some (from, to, kind)

unfoldable pub hold_of : List ℕ → Option Line
hold_of text = do
  lane ← lane_of text
  Some (Hold lane.0 lane.1 lane.2)

unfoldable pub free_of : List ℕ → Option Line
free_of text = do
  lane ← lane_of text
  Some (Free lane.0 lane.1 lane.2)

unfoldable pub drop_of : List ℕ → Option Line
drop_of text = do
  lane ← lane_of text
  Some (DropPackets lane.0 lane.1 lane.2)

-- a line of a word and a rest that says what happens to packets
unfoldable pub packets_line_of : List ℕ → List ℕ → Option Line
packets_line_of word rest =
    if bytes_eq word (codes "deliver") then deliver_of rest
    else if bytes_eq word (codes "next") then next_of rest
    else if bytes_eq word (codes "hold") then hold_of rest
    else if bytes_eq word (codes "free") then free_of rest
    else if bytes_eq word (codes "drop") then drop_of rest
    else None

-- or to machines
unfoldable pub machines_line_of : List ℕ → List ℕ → Option Line
machines_line_of word rest =
    if bytes_eq word (codes "tick") then tick_of rest
    else if bytes_eq word (codes "sync") then sync_of rest
    else if bytes_eq word (codes "crash") then crash_of rest
    else if bytes_eq word (codes "restart") then restart_of rest
    else if bytes_eq word (codes "blank") then blank_of rest
    else packets_line_of word rest

-- a line
unfoldable pub line_of : List ℕ → Option Line
line_of text = do
  word ← cut text
  if bytes_eq word.0 (codes "boxwood") then heading_of word.1
      else if bytes_eq word.0 (codes "call") then call_of word.1
      else if bytes_eq word.0 (codes "run") then run_of word.1
      else machines_line_of word.0 word.1
