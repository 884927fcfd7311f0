-- How mirrored devices fit what was done with them.
use Rattle.std.specs.Prelude.{◌*◌, ◌≡◌, ◌≢◌, ℕ, ◌+◌, ◌-◌, ◌/◌, ◌<◌, ◌≤◌, ◌==◌, ◌⊎◌, not, Bool, true, false, List, [], ◌∷◌, length, Contains, Option, Some, None, slice_get, slice_index, if◌then◌else◌}
use Rattle.std.specs.List.{AllByRecursion}
use Rattle.bx_base.specs.declared.names.Actor.{Actor}
use Rattle.bx_base.specs.declared.names.Actor.TheVariants.{Member, Node}
use Rattle.bx_disk.specs.Disks.{Disks, sector_of}
use Rattle.bx_facts.specs.Chains.{Chain, IsPlace, LivesIn, last, session_of, state_after}
use Rattle.bx_facts.specs.Pasts.{Told}
use Rattle.bx_facts.specs.Sessions.{AreRows as AreSessions}
use Rattle.bx_facts.specs.Writes.{IsSourceIn, Made, StorePast, label_on, member_disk, store_room}
use Rattle.bx_global.specs.declared.change.Change.{Change}
use Rattle.bx_global.specs.declared.change.Change.TheVariants.{Renew, Take, Open, Expire, Claim, Close, Shift}
use Rattle.bx_global.specs.declared.state.GlobalState.{GlobalState}
use Rattle.bx_global.specs.Allowed.{AreRising}
use Rattle.bx_locking.specs.Owned.{AreSingle}
use Rattle.bx_layout.specs.Labels.{SpellsLabel}
use Rattle.bx_post.specs.declared.packets.Letter.{Letter}
use Rattle.bx_rows.specs.Conditions.{Fits}
use Rattle.bx_rows.specs.declared.device.DeviceRow.{DeviceRow}
use Rattle.bx_mirror_packets.specs.DeviceMessages.{IsDeviceMessage, Spells}
use Rattle.bx_mirror_packets.specs.declared.message.WriteBody.{WriteBody}
use Rattle.bx_mirror_packets.specs.declared.message.WroteBody.{WroteBody}
use Rattle.bx_mirror_packets.specs.declared.message.ReadBody.{ReadBody}
use Rattle.bx_mirror_packets.specs.declared.message.DataBody.{DataBody}
use Rattle.bx_mirror_packets.specs.declared.message.CopyBody.{CopyBody}
use Rattle.bx_mirror_packets.specs.declared.message.CopiedBody.{CopiedBody}
use Rattle.bx_mirror_packets.specs.declared.message.DeviceMessage.{DeviceMessage}
use Rattle.bx_mirror_packets.specs.declared.message.DeviceMessage.TheVariants.{Write, Wrote as WroteOf, Read, Data, Copy, Copied as CopiedOf, Alive}
use Rattle.bx_mirror_laws.specs.Sides.{Among, Copied, CopyLetter, Handing, Out, Side, WriteLetter, Wrote}
use Rattle.bx_mirror_laws.specs.Acting.{FromEpoch, IsRow, MayLead}
use Rattle.bx_mirror_laws.specs.Sound.{AreCopies, AreHanded, AreOuts, AreRows, AreWrites, AreWrotes, IsLate, DeviceStands, sent_of}
use Rattle.bx_mirror_tables.specs.Lasts.{last_in}
use Rattle.bx_mirror_tables.specs.Owed.{message_of}
use Rattle.bx_mirror_tables.specs.declared.answers.Answer.{Answer}
use Rattle.bx_mirror_tables.specs.declared.answers.Answer.TheVariants as answers
use Rattle.bx_mirror_tables.specs.declared.answers.Owing.{Owing}
use Rattle.bx_mirror_member.specs.Standing.{MemberView as Serving}
use Rattle.bx_mirror_server.specs.Sides.{copied_in, wrote_in}
use Rattle.bx_mirror_client.specs.Asks.{FitsRead}
use Rattle.bx_mirror_client.specs.Sends.{member_at}
use Rattle.bx_mirror_client.specs.Streams.{Streaming}
use Rattle.bx_mirror_client.specs.Telling.{HasAcked}
use Rattle.bx_mirror_client.specs.declared.asking.Asking.{Asking}
use Rattle.bx_mirror_client.specs.declared.sending.Sending.{Sending}
use Rattle.bx_mirror_cluster.specs.Speaking.{BringsOnce, IsOfRead, IsSendable}

-- ---- the rows of a device along a chain, and what was handed back of it

abbrev pub row_or : Option DeviceRow → DeviceRow
row_or None = record { mode = 0; epoch = 0; boot_a = 0; boot_b = 0 }
row_or (Some row) = row

abbrev pub row_of : GlobalState → ℕ → DeviceRow
row_of s device = row_or (slice_get s.devices device)

abbrev pub older_rows : ℕ → GlobalState → List Change → List DeviceRow
older_rows d first [] = []
older_rows d first (Shift device epoch mode second boot ∷ older) = if device == d then row_of (state_after first older) d ∷ older_rows d first older else older_rows d first older
older_rows d first (Renew by boot reading ∷ older) = older_rows d first older
older_rows d first (Take by boot reading ∷ older) = older_rows d first older
older_rows d first (Open node boot reading ∷ older) = older_rows d first older
older_rows d first (Expire session term reading ∷ older) = older_rows d first older
older_rows d first (Claim gone by ∷ older) = older_rows d first older
older_rows d first (Close gone by ∷ older) = older_rows d first older

abbrev pub last_row : Chain → ℕ → DeviceRow
last_row chain d = row_of (last chain) d

abbrev pub rows_before : Chain → ℕ → List DeviceRow
rows_before chain d = older_rows d chain.first chain.changes

abbrev pub handings : ℕ → List Change → List Handing
handings d [] = []
handings d (Shift device epoch mode second boot ∷ older) = if device == d then record { epoch = epoch; mode = mode; second = second; boot = boot } ∷ handings d older else handings d older
handings d (Renew by boot reading ∷ older) = handings d older
handings d (Take by boot reading ∷ older) = handings d older
handings d (Open node boot reading ∷ older) = handings d older
handings d (Expire session term reading ∷ older) = handings d older
handings d (Claim gone by ∷ older) = handings d older
handings d (Close gone by ∷ older) = handings d older

-- ---- the parts: members and streams

pub record Parts : Type 0 where
  pub made : Made
  pub members : ℕ → Serving
  pub nodes : ℕ → Streaming

-- a member with its disk
abbrev pub side_of : Told → Disks → (ℕ → Serving) → ℕ → Bool → Side
side_of told x members d b = record {
  up = not (told.down (Member (member_at d b)));
  boot = told.boots (Member (member_at d b));
  row = (members (member_at d b)).row;
  lasts = last_in (members (member_at d b)).lasts;
  wrote = wrote_in b (members (member_at d b)).owed;
  copied = copied_in b (members (member_at d b)).owed;
  place = (members (member_at d b)).place;
  reads = x.reads (member_disk d b);
  unsure = x.unsure (member_disk d b);
}

-- A write that is out, where a number was left for it.
abbrev pub out_by : Option Sending → Option Out
out_by None = None
out_by (Some s) = if s.sequence == 0 then None else Some (record { session = s.session; sequence = s.sequence; until = s.until; runs = s.runs.1 })

abbrev pub outs_of : (ℕ → Streaming) → ℕ → Option Out
outs_of nodes n = out_by (nodes n).out

abbrev pub knows_of : (ℕ → Streaming) → ℕ → ℕ → Option DeviceRow
knows_of nodes d n = slice_get (nodes n).rows d

-- ---- letters under way, by device

-- a write that is under way to a member
pub record IsComing (letters : List Letter) (d : ℕ) (l : WriteLetter) : Type 0 where
  pub letter : Letter
  pub there : Contains letters letter
  pub write : WriteBody
  pub spells : Spells (Write write) letter.kind letter.body
  pub to : letter.to ≡ Member (member_at d l.at)
  pub device : write.device ≡ d
  pub session : l.session ≡ write.session
  pub epoch_is : l.epoch ≡ write.epoch
  pub sequence : l.sequence ≡ write.sequence
  pub until : l.until ≡ write.until
  pub runs : l.runs ≡ write.runs.1

-- an answer from a member
pub record IsAnswering (letters : List Letter) (d : ℕ) (w : Wrote) : Type 0 where
  pub letter : Letter
  pub there : Contains letters letter
  pub wrote : WroteBody
  pub spells : Spells (WroteOf wrote) letter.kind letter.body
  pub from : letter.from ≡ Member (member_at d w.by)
  pub device : wrote.device ≡ d
  pub session : w.session ≡ wrote.session
  pub epoch_is : w.epoch ≡ wrote.epoch
  pub sequence : w.sequence ≡ wrote.sequence

-- a piece of a copy, and its answer
pub record IsCopying (letters : List Letter) (d : ℕ) (l : CopyLetter) : Type 0 where
  pub letter : Letter
  pub there : Contains letters letter
  pub copy : CopyBody
  pub spells : Spells (Copy copy) letter.kind letter.body
  pub from : letter.from ≡ Member (member_at d l.by)
  pub device : copy.device ≡ d
  pub epoch_is : l.epoch ≡ copy.epoch
  pub place : l.place ≡ copy.place
  pub bytes : l.bytes ≡ copy.bytes

pub record IsCopiedTo (letters : List Letter) (d : ℕ) (c : Copied) : Type 0 where
  pub letter : Letter
  pub there : Contains letters letter
  pub copied : CopiedBody
  pub spells : Spells (CopiedOf copied) letter.kind letter.body
  pub from : letter.from ≡ Member (member_at d c.by)
  pub device : copied.device ≡ d
  pub epoch_is : c.epoch ≡ copied.epoch
  pub place : c.place ≡ copied.place

-- an answer to a read, under way to a node
pub record IsData (letters : List Letter) (node d session epoch tag : ℕ) (bytes : List ℕ) : Type 0 where
  pub letter : Letter
  pub there : Contains letters letter
  pub data_ : DataBody
  pub spells : Spells (Data data_) letter.kind letter.body
  pub to : letter.to ≡ Node node
  pub device : data_.device ≡ d
  pub session_is : data_.session ≡ session
  pub epoch_is : data_.epoch ≡ epoch
  pub tag_is : data_.tag ≡ tag
  pub bytes_are : data_.bytes ≡ bytes

-- a read, under way from a node
pub record IsReading (letters : List Letter) (node : ℕ) (r : ReadBody) : Type 0 where
  pub letter : Letter
  pub there : Contains letters letter
  pub spells : Spells (Read r) letter.kind letter.body
  pub from : letter.from ≡ Node node

-- ---- what is said of sectors

abbrev pub Nowhere : DeviceRow → Type 0
Nowhere r = ⊥

-- the rows that stand in a state from an index on
abbrev pub KnownFrom : Chain → ℕ → ℕ → DeviceRow → Type 0
KnownFrom chain d index r = (s : GlobalState) × IsPlace chain s × (index ≤ s.index) × (slice_get s.devices d ≡ Some r)

abbrev pub StandsFor : (DeviceRow → Type 0) → Parts → Disks → StorePast → ℕ → ℕ → List ℕ → Type 0
StandsFor From parts x past d sector content =
    DeviceStands d past.told.greatest From (last_row past.told.chain d) (rows_before past.told.chain d) (handings d past.told.handed) (side_of past.told x parts.members d) (IsComing past.told.letters d) past.writes sector content

-- It is a sector of the volume, behind the label; members that an audit reads have the content surely, in the last state and in each that a change
-- which was handed back may make of it.
pub record IsSettledOn (parts : Parts) (x : Disks) (past : StorePast) (d sector : ℕ) (content : List ℕ) : Type 0 where
  pub device : d < parts.made.devices
  pub behind_label : 1 ≤ sector
  pub within : sector < store_room parts.made
  pub is : StandsFor Nowhere parts x past d sector content

-- And each answer to a reader that knows a state from this index on has it.
pub record StandsOn (parts : Parts) (x : Disks) (past : StorePast) (d sector : ℕ) (content : List ℕ) (index : ℕ) : Type 0 where
  pub settled : IsSettledOn parts x past d sector content
  pub stands : StandsFor (KnownFrom past.told.chain d index) parts x past d sector content

-- Of a read that is out: each answer that may come from the epoch that the node knows on has it, under way or not, and so has the one that came.
pub record WillReadOn (parts : Parts) (x : Disks) (past : StorePast) (node : ℕ) (a : Asking) (sector : ℕ) (content : List ℕ) : Type 0 where
  pub device : a.device < parts.made.devices
  pub behind_label : 1 ≤ sector
  pub within : sector < store_room parts.made
  pub row : DeviceRow
  pub row_is : slice_get (parts.nodes node).rows a.device ≡ Some row
  pub stands : StandsFor (FromEpoch row.epoch) parts x past a.device sector content
  pub coming : (epoch : ℕ) (bytes : List ℕ) → IsData past.told.letters node a.device a.session epoch a.tag bytes → row.epoch ≤ epoch → a.place ≤ sector → sector < a.place + a.sectors
      → sector_of bytes (sector - a.place) ≡ content
  pub came : (bytes : List ℕ) → a.answer ≡ Some bytes → a.place ≤ sector → sector < a.place + a.sectors → sector_of bytes (sector - a.place) ≡ content

abbrev pub will_read_by : Option Asking → Parts → Disks → StorePast → ℕ → ℕ → List ℕ → Type 0
will_read_by None parts x past node sector content = Unit {0}
will_read_by (Some a) parts x past node sector content = WillReadOn parts x past node a sector content

-- ---- how they fit

-- What nobody stores: the writes that may still be taken, all letters that were ever sent, and what a source of a copy had in each epoch.
pub record History : Type 0 where
  pub actual : List Out
  pub writes : ℕ → List WriteLetter
  pub wrotes : ℕ → List Wrote
  pub copies : ℕ → List CopyLetter
  pub copieds : ℕ → List Copied
  pub source : ℕ → ℕ → ℕ → List ℕ

-- What is claimed of a write that is out holds as long as its session lives in this state, or a reading that is in time is left.
abbrev pub IsClaimed : GlobalState → ℕ → Out → Type 0
IsClaimed s greatest o = LivesIn s o.session ⊎ (IsLate greatest o.until → ⊥)

-- A member needs its label: it may be read by an audit, it is up, or it has taken a piece of a copy in the epoch of the last row.
pub record NeedsLabel (last : DeviceRow) (handed : List Handing) (copieds : List Copied) (down b : Bool) : Type 0 where
  pub is : MayLead last handed b ⊎ ((down ≡ false) ⊎ ((c : Copied) × Among copieds c × (c.by ≡ b) × (c.epoch ≡ last.epoch)))

-- A disk has its label, surely, and all sectors of a member.
pub record HasLabel (made : Made) (x : Disks) (disk : ℕ) : Type 0 where
  pub spells : SpellsLabel (label_on made disk) (x.reads disk 0)
  pub sure : x.unsure disk 0 ≡ false
  pub long : store_room made ≤ slice_index x.sizes disk

-- one device
pub record IsDeviceSound (parts : Parts) (x : Disks) (past : StorePast) (h : History) (d : ℕ) : Type 0 where
  pub rows : AreRows (store_room parts.made) (last_row past.told.chain d) (rows_before past.told.chain d) (side_of past.told x parts.members d) (h.source d)
  pub hands : AreHanded (store_room parts.made) (last_row past.told.chain d) (rows_before past.told.chain d) (handings d past.told.handed) (side_of past.told x parts.members d) (h.source d)
  pub copies : AreCopies (store_room parts.made) (last_row past.told.chain d) (rows_before past.told.chain d) (side_of past.told x parts.members d) (h.copies d) (h.copieds d) (h.source d)
  pub writes : AreWrites d past.told.greatest (last_row past.told.chain d) (rows_before past.told.chain d) (side_of past.told x parts.members d) (h.writes d) (h.wrotes d) h.actual (outs_of parts.nodes) (knows_of parts.nodes d) (IsClaimed (last past.told.chain) past.told.greatest)
  pub wrotes : AreWrotes (last_row past.told.chain d) (rows_before past.told.chain d) (side_of past.told x parts.members d) (h.writes d) (h.wrotes d)
  pub outs : AreOuts d (store_room parts.made) past.told.greatest (last_row past.told.chain d) (rows_before past.told.chain d) (handings d past.told.handed) (side_of past.told x parts.members d) (h.writes d) (h.wrotes d) h.actual (outs_of parts.nodes) (knows_of parts.nodes d) (IsClaimed (last past.told.chain) past.told.greatest)
  -- letters under way were sent
  pub coming : (l : WriteLetter) → IsComing past.told.letters d l → Among (h.writes d) l
  pub answering : (w : Wrote) → IsAnswering past.told.letters d w → Among (h.wrotes d) w
  pub copying : (l : CopyLetter) → IsCopying past.told.letters d l → Among (h.copies d) l
  pub copied_to : (c : Copied) → IsCopiedTo past.told.letters d c → Among (h.copieds d) c
  pub labels : (b : Bool) → NeedsLabel (last_row past.told.chain d) (handings d past.told.handed) (h.copieds d) (past.told.down (Member (member_at d b))) b → HasLabel parts.made x (member_disk d b)
  -- a member that is down knows nothing, and owes nothing
  pub down : (b : Bool) → past.told.down (Member (member_at d b)) ≡ true → ((parts.members (member_at d b)).row ≡ None) × ((parts.members (member_at d b)).owed ≡ [])
  -- what a member knows stands in the state that it was handed last
  pub known : (b : Bool) (r : DeviceRow) → (parts.members (member_at d b)).row ≡ Some r → (s : GlobalState) × IsPlace past.told.chain s × (s.index ≡ past.told.knew (Member (member_at d b))) × (slice_get s.devices d ≡ Some r)

-- A state that a node knew, or an older one, has another session in the place of this one, whose number was given out before.
pub record IsBehind (chain : Chain) (knew node boot session : ℕ) : Type 0 where
  pub state : GlobalState
  pub place : IsPlace chain state
  pub index : state.index ≤ knew
  pub given : session < state.next_session
  pub other : session_of state node boot ≢ Some session

-- A session is the one that its node has, or is never its again: it is of an earlier boot, or the node is down, or knew a state with another one.
pub record IsOwnOrLeft (nodes : ℕ → Streaming) (chain : Chain) (knew boots : Actor → ℕ) (down : Actor → Bool) (node boot session : ℕ) : Type 0 where
  pub boot_most : boot ≤ boots (Node node)
  pub case : (boot < boots (Node node)) ⊎ ((down (Node node) ≡ true) ⊎ (((nodes node).session ≡ Some session) ⊎ IsBehind chain (knew (Node node)) node boot session))

-- A number was drawn for what a session sent: the session was given out, of the boot that its node has or of an earlier one; no number is 0; and of the
-- node's boot it is one of those that were drawn.
pub record IsDrawn (next boot most session number drawn : ℕ) : Type 0 where
  pub given : session < next
  pub some : 1 ≤ number
  pub boot_most : boot ≤ most
  pub case : (boot < most) ⊎ (number ≤ drawn)

-- An answer that a member owes fits a packet, and one to a piece of a copy is of the member's device.
abbrev pub OfDevice : Answer → ℕ → Type 0
OfDevice (answers.Wrote w) device = Unit {0}
OfDevice (answers.Copied c) device = c.device ≡ device

pub record IsOwing (n : ℕ) (o : Owing) : Type 0 where
  pub fits : IsDeviceMessage (message_of o.answer)
  pub device : OfDevice o.answer (n / 2)

-- Pieces of copies and their answers come from members of their device.
abbrev pub IsFromMember : DeviceMessage → Actor → Type 0
IsFromMember (Copy c) from = (b : Bool) × (from ≡ Member (member_at c.device b))
IsFromMember (CopiedOf c) from = (b : Bool) × (from ≡ Member (member_at c.device b))
IsFromMember (Write w) from = Unit {0}
IsFromMember (WroteOf w) from = Unit {0}
IsFromMember (Read r) from = Unit {0}
IsFromMember (Data d) from = Unit {0}
IsFromMember Alive from = Unit {0}

pub record Keeps (parts : Parts) (x : Disks) (past : StorePast) : Type 0 where
  pub history : History
  pub devices : (d : ℕ) → d < parts.made.devices → IsDeviceSound parts x past history d
  pub count : (s : GlobalState) → IsPlace past.told.chain s → length s.devices ≡ parts.made.devices
  pub rising : (s t : GlobalState) → IsPlace past.told.chain s → IsPlace past.told.chain t → s.index ≤ t.index → (d : ℕ) → (row_of s d).epoch ≤ (row_of t d).epoch
  pub highest : (s : GlobalState) → IsPlace past.told.chain s → s.index ≤ (last past.told.chain).index
  pub placed : (s : GlobalState) → IsPlace past.told.chain s → (d : ℕ) → IsRow (last_row past.told.chain d) (rows_before past.told.chain d) (row_of s d)
  pub actual_sent : (w : Out) → Among history.actual w → Contains past.writes (sent_of w)
  pub out_actual : (n : ℕ) (w : Out) → outs_of parts.nodes n ≡ Some w → Among history.actual w × ((parts.nodes n).session ≡ Some w.session)
  pub out_number : (n : ℕ) (w : Out) → outs_of parts.nodes n ≡ Some w → w.sequence ≤ (parts.nodes n).sequence
  pub actual_given : (w : Out) → Among history.actual w → w.session < (last past.told.chain).next_session
  -- the numbers of what is out, of what is owed, and of all rows, fit a packet
  pub sendable : (n : ℕ) (s : Sending) → (parts.nodes n).out ≡ Some s → IsSendable parts.made s
  pub askable : (n : ℕ) (a : Asking) → (parts.nodes n).asks ≡ Some a → FitsRead a
  -- what is out is of the node's own session
  pub holding : (n : ℕ) (s : Sending) → (parts.nodes n).out ≡ Some s → (parts.nodes n).session ≡ Some s.session
  pub epochs : (s : GlobalState) → IsPlace past.told.chain s → (d : ℕ) (row : DeviceRow) → slice_get s.devices d ≡ Some row → Fits row.epoch
  pub owing : (n : ℕ) (o : Owing) → Contains (parts.members n).owed o → IsOwing n o
  pub own_out : (n : ℕ) (w : Out) → Among history.actual w → (parts.nodes n).session ≡ Some w.session → outs_of parts.nodes n ≡ Some w
  pub from_members : (letter : Letter) (message : DeviceMessage) → Contains past.told.letters letter → Spells message letter.kind letter.body → IsFromMember message letter.from
  -- the last sequence that a member knows of a session is that of a letter
  pub lasts : (d : ℕ) (b : Bool) (session : ℕ) → (last_in (parts.members (member_at d b)).lasts session ≡ 0)
      ⊎ ((l : WriteLetter) × Among (history.writes d) l × (l.session ≡ session) × (l.sequence ≡ last_in (parts.members (member_at d b)).lasts session))
  -- a letter of a device brings something there, and no sector two contents
  pub brings : (d : ℕ) (l : WriteLetter) → Among (history.writes d) l → BringsOnce d l.runs
  -- what a node has noted was answered
  pub noted : (n d epoch : ℕ) (b : Bool) (s : Sending) → d < parts.made.devices → (parts.nodes n).out ≡ Some s → HasAcked s.acks (member_at d b) epoch → Among (history.wrotes d) (record { by = b; session = s.session; epoch = epoch; sequence = s.sequence })
  pub asking : (n : ℕ) (a : Asking) → (parts.nodes n).asks ≡ Some a → ((parts.nodes n).session ≡ Some a.session) × (a.tag ≤ (parts.nodes n).tag)
  -- a read under way of the number of a node's read is that read
  pub asked : (n : ℕ) (r : ReadBody) (a : Asking) → IsReading past.told.letters n r → (parts.nodes n).asks ≡ Some a → r.session ≡ a.session → r.tag ≡ a.tag → IsOfRead a r
  -- what a node knows is the state that it was handed last, in which its session lives
  pub node_known : (n session : ℕ) → (parts.nodes n).session ≡ Some session → (s : GlobalState) × IsPlace past.told.chain s × (s.index ≡ past.told.knew (Node n)) × ((parts.nodes n).rows ≡ s.devices) × LivesIn s session
  -- whose a session is, and of which boot; its numbers
  pub node_of : ℕ → ℕ
  pub boot_of : ℕ → ℕ
  pub sessions : AreSessions node_of past.told.chain.first past.told.chain.changes
  pub booted : (s : GlobalState) → IsPlace past.told.chain s → AllByRecursion (λ row. row.boot ≡ boot_of row.number) s.sessions
  pub owned : (n session : ℕ) → (parts.nodes n).session ≡ Some session → (node_of session ≡ n) × (boot_of session ≡ past.told.boots (Node n)) × (session < (last past.told.chain).next_session)
  -- of this life at most one session of a node and boot lives
  pub single : (s : GlobalState) → IsPlace past.told.chain s → AreSingle past.told.chain.found s
  pub found_most : past.told.chain.found ≤ past.told.chain.first.next_session
  pub in_order : (s : GlobalState) → IsPlace past.told.chain s → AreRising s.sessions s.next_session
  pub left : (w : Out) → Among history.actual w → IsOwnOrLeft parts.nodes past.told.chain past.told.knew past.told.boots past.told.down (node_of w.session) (boot_of w.session) w.session
  -- the numbers of all that was sent
  pub numbered : (d : ℕ) (l : WriteLetter) → Among (history.writes d) l → IsDrawn (last past.told.chain).next_session (boot_of l.session) (past.told.boots (Node (node_of l.session))) l.session l.sequence (parts.nodes (node_of l.session)).sequence
  pub tagged : (n d session epoch tag : ℕ) (bytes : List ℕ) → IsData past.told.letters n d session epoch tag bytes → IsDrawn (last past.told.chain).next_session (boot_of session) (past.told.boots (Node n)) session tag (parts.nodes n).tag
  pub read_tagged : (n : ℕ) (r : ReadBody) → IsReading past.told.letters n r → IsDrawn (last past.told.chain).next_session (boot_of r.session) (past.told.boots (Node n)) r.session r.tag (parts.nodes n).tag
  -- boots of those that are up
  pub member_boots : (n : ℕ) → n < 2 * parts.made.devices → past.told.down (Member n) ≡ false → (parts.members n).boot ≡ past.told.boots (Member n)
  pub node_boots : (n : ℕ) → n < parts.made.nodes → past.told.down (Node n) ≡ false → (parts.nodes n).boot ≡ past.told.boots (Node n)

-- other letters are under way
abbrev pub letters_left : StorePast → List Letter → StorePast
letters_left past letters = record past { told = record past.told { letters = letters } }

-- The device needs the other member alone.
abbrev pub IsSideAlone : DeviceRow → Bool → Type 0
IsSideAlone row b = ((b ≡ false) × (row.mode ≡ 2)) ⊎ ((b ≡ true) × (row.mode ≡ 1))

-- Each member is one that an audit reads: its device is in no mode that leaves one out.
pub record AreAllRead (s : GlobalState) : Type 0 where
  pub each : (d : ℕ) (b : Bool) → d < length s.devices → IsSourceIn s d b

-- Nothing was done with the parts yet: the nodes that there are know the state that they are made for.
pub record IsNewParts (s : GlobalState) (parts : Parts) : Type 0 where
  pub rows : (n : ℕ) → (parts.members n).row ≡ None
  pub owed : (n : ℕ) → (parts.members n).owed ≡ []
  pub lasts : (n : ℕ) → (parts.members n).lasts ≡ []
  pub member_boot : (n : ℕ) → n < 2 * parts.made.devices → (parts.members n).boot ≡ 0
  pub node_boot : (n : ℕ) → n < parts.made.nodes → (parts.nodes n).boot ≡ 0
  pub session : (n : ℕ) → n < parts.made.nodes → (parts.nodes n).session ≡ session_of s n 0
  pub known : (n : ℕ) → n < parts.made.nodes → (parts.nodes n).rows ≡ s.devices
  pub no_more : (n : ℕ) → parts.made.nodes ≤ n → (parts.nodes n).session ≡ None
  pub out : (n : ℕ) → (parts.nodes n).out ≡ None
  pub asks : (n : ℕ) → (parts.nodes n).asks ≡ None

-- and so there is no history
abbrev pub opening_history : History
opening_history = record { actual = []; writes = λ d. []; wrotes = λ d. []; copies = λ d. []; copieds = λ d. []; source = λ d e x. [] }
