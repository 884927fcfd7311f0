-- A member speaks and stays as it is: it sends a piece of a copy, answers a read or a write again, gives a sign of life, or hands back a change.
use Rattle.std.proofs.Common.{◌≡◌, ◌≢◌, ◌⊎◌, inl, inr, ℕ, ◌+◌, ◌-◌, ◌*◌, ◌/◌, ◌%◌, ◌<◌, ◌≤◌, Bool, true, false, Contains, List, [], ◌∷◌, ◌++◌, length, Some, min, refl, sym, ◌∙◌, ap, subst, arith}
use Rattle.std.specs.Prelude.{◌==◌, not, if◌then◌else◌}
use Rattle.std.proofs.lemmas.Bool.Decides.{nat_tests}
use Rattle.std.proofs.lemmas.List.Elements.{Contains-append_cases}
use Rattle.bx_base.specs.declared.names.Actor.{Actor}
use Rattle.bx_base.specs.declared.names.Actor.TheVariants.{Member}
use Rattle.bx_disk.specs.Disks.{Disks, sector_of}
use Rattle.bx_facts.proofs.Lists.{front_or_behind, nothing}
use Rattle.bx_facts.specs.Writes.{StorePast, store_room}
use Rattle.bx_global.specs.declared.change.Change.{Change}
use Rattle.bx_post.specs.declared.packets.Letter.{Letter}
use Rattle.bx_rows.specs.Conditions.{Fits}
use Rattle.bx_rows.specs.declared.device.DeviceRow.{DeviceRow}
use Rattle.bx_rows.specs.Modes.{IsSource}
use Rattle.bx_mirror_laws.specs.Acting.{Acts, IsRow, boot_in}
use Rattle.bx_mirror_laws.specs.Sides.{Among, Copied, CopyLetter, Side, WriteLetter, Wrote}
use Rattle.bx_mirror_laws.proofs.Small.{copies_send}
use Rattle.bx_mirror_packets.specs.DeviceMessages.{Spells, body_text, kind_of}
use Rattle.bx_mirror_packets.specs.declared.message.CopyBody.{CopyBody}
use Rattle.bx_mirror_packets.specs.declared.message.DeviceMessage.{DeviceMessage}
use Rattle.bx_mirror_packets.specs.declared.message.DeviceMessage.TheVariants.{Write, Wrote as WroteOf, Read, Data, Copy, Copied as CopiedOf, Alive}
use Rattle.bx_mirror_packets.proofs.Spelled.{one_message}
use Rattle.bx_mirror_member.specs.Standing.{MemberView as Serving, copies, copy_from, device_in, disk_in, is_second, me, partner, room_in}
use Rattle.bx_mirror_client.specs.Sends.{member_at}
use Rattle.bx_mirror_server.specs.Serving.{SendsPiece}
use Rattle.bx_mirror_cluster.specs.Fitting.{History, IsAnswering, IsComing, IsCopiedTo, IsCopying, IsData, IsDeviceSound, IsFromMember, Keeps, Parts, handings, last_row, rows_before, side_of}
use Rattle.bx_mirror_cluster.specs.MemberSteps.{DeviceHistory, history_of, served, with_histories, with_member, with_serving}
use Rattle.bx_mirror_cluster.proofs.MemberLearns.{copies_so, no_change}
use Rattle.bx_mirror_cluster.proofs.MemberOwn.{inside_at, own_device, own_disk, own_second}
use Rattle.bx_mirror_cluster.proofs.MemberSteps.{IsMemberStep}
use Rattle.bx_mirror_cluster.proofs.MemberSyncs.{side_of_number}

same_or : (n m : ℕ) → (n ≡ m) ⊎ (n ≢ m)
same_or n m = grind arith

-- the parts with a member that they have are they
pub same_serving : (parts : Parts) (n : ℕ) → with_serving parts n (parts.members n) ≡ parts
same_serving parts n = λ i. record { made = parts.made; members = λ k. (each k) i; nodes = parts.nodes }
  where
    each : (k : ℕ) → with_member parts.members n (parts.members n) k ≡ parts.members k
    each k = elim (same_or k n) [
      | inl e ↦ (let it : (k == n) ≡ true = grind (arith, nat_tests, e) in ap (λ (t : Bool). if t then parts.members n else parts.members k) it ∙ ap parts.members (sym e))
      | inr e ↦ (let other : (k == n) ≡ false = grind (arith, nat_tests, e) in ap (λ (t : Bool). if t then parts.members n else parts.members k) other)
    ]

-- a step of a member that stays as it is
pub says_step : (parts : Parts) (x : Disks) (past : StorePast) (keeps : Keeps parts x past) (d : ℕ) (b : Bool) (letters : List Letter) (handed : List Change) (new : DeviceHistory)
    → (d < parts.made.devices → IsDeviceSound parts x (served past letters handed past.told.knew) (with_histories keeps.history (λ k. new)) d)
    → ((l : Letter) → Contains letters l → Contains past.told.letters l ⊎ ((l.from ≡ Member (member_at d b)) × (18 < l.kind)))
    → ((l : Letter) (message : DeviceMessage) → Contains letters l → Spells message l.kind l.body → Contains past.told.letters l ⊎ IsFromMember message l.from)
    → ((k : ℕ) → k ≢ d → handings k handed ≡ handings k past.told.handed) → ((w : Wrote) → Among (keeps.history.wrotes d) w → Among new.wrotes w)
    → IsMemberStep parts x x past keeps.history d b (parts.members (member_at d b)) letters handed past.told.knew new
says_step parts x past keeps d b letters handed new direct sent spoken handed_other wrotes = record {
  sound = λ within. subst (λ (p : Parts). IsDeviceSound p x (served past letters handed past.told.knew) (with_histories keeps.history (λ k. new)) d) (sym (same_serving parts (member_at d b))) (direct within);
  boot = refl;
  disks = λ k s apart. no_change x k s;
  lengths = record { each = λ k high. refl };
  sent = sent;
  handed_other = handed_other;
  knew_other = λ who apart. refl;
  owing = λ o there. keeps.owing (member_at d b) o there;
  lasts = λ session. keeps.lasts d b session;
  spoken = spoken;
  wrotes = wrotes;
}

-- ---- one letter more

module _ (all : List Letter) (one : Letter) (message : DeviceMessage) (spells : Spells message one.kind one.body) where
  pub one_more : (l : Letter) → Contains (all ++ one ∷ []) l → Contains all l ⊎ (one ≡ l)
  one_more l there = elim (Contains-append_cases all (one ∷ []) l there) [
    | inl old ↦ inl old
    | inr new ↦ elim (front_or_behind one [] l new) [ inl here ↦ inr here | inr none ↦ absurd (nothing l none) ]
  ]

  pub one_says : (l : Letter) (other : DeviceMessage) → one ≡ l → Spells other l.kind l.body → other ≡ message
  one_says l other is its = one_message other message l.kind l.body its (subst (λ (q : Letter). Spells message q.kind q.body) is spells)

  -- what says another kind was there
  pub old_kind : (l : Letter) (other : DeviceMessage) → Contains (all ++ one ∷ []) l → Spells other l.kind l.body → kind_of other ≢ kind_of message → Contains all l
  old_kind l other there its apart = elim (one_more l there) [
    | inl old ↦ old
    | inr here ↦ absurd (apart (ap kind_of (one_says l other here its)))
  ]

  -- of a kind that no write has, nor an answer to one, nor to a piece
  pub old_coming : 18 < kind_of message → (d : ℕ) (l : WriteLetter) → IsComing (all ++ one ∷ []) d l → IsComing all d l
  old_coming high d l c = record { letter = c.letter; there = old_kind c.letter (Write c.write) c.there c.spells (λ e. let most = c.spells.is.most in omega (arith, most, e, high)); write = c.write; spells = c.spells; to = c.to; device = c.device; session = c.session; epoch_is = c.epoch_is; sequence = c.sequence; until = c.until; runs = c.runs }

  pub old_answering : 19 ≢ kind_of message → (d : ℕ) (w : Wrote) → IsAnswering (all ++ one ∷ []) d w → IsAnswering all d w
  old_answering apart d w a = record { letter = a.letter; there = old_kind a.letter (WroteOf a.wrote) a.there a.spells apart; wrote = a.wrote; spells = a.spells; from = a.from; device = a.device; session = a.session; epoch_is = a.epoch_is; sequence = a.sequence }

  pub old_copying : 22 ≢ kind_of message → (d : ℕ) (l : CopyLetter) → IsCopying (all ++ one ∷ []) d l → IsCopying all d l
  old_copying apart d l a = record { letter = a.letter; there = old_kind a.letter (Copy a.copy) a.there a.spells apart; copy = a.copy; spells = a.spells; from = a.from; device = a.device; epoch_is = a.epoch_is; place = a.place; bytes = a.bytes }

  pub old_copied : 23 ≢ kind_of message → (d : ℕ) (c : Copied) → IsCopiedTo (all ++ one ∷ []) d c → IsCopiedTo all d c
  old_copied apart d c a = record { letter = a.letter; there = old_kind a.letter (CopiedOf a.copied) a.there a.spells apart; copied = a.copied; spells = a.spells; from = a.from; device = a.device; epoch_is = a.epoch_is; place = a.place }

  pub old_data : 21 ≢ kind_of message → (k d session epoch tag : ℕ) (bytes : List ℕ) → IsData (all ++ one ∷ []) k d session epoch tag bytes → IsData all k d session epoch tag bytes
  old_data apart k d session epoch tag bytes a = record { letter = a.letter; there = old_kind a.letter (Data a.data_) a.there a.spells apart; data_ = a.data_; spells = a.spells; to = a.to; device = a.device; session_is = a.session_is; epoch_is = a.epoch_is; tag_is = a.tag_is; bytes_are = a.bytes_are }

  -- and it is from whom such a one may be
  pub one_spoken : IsFromMember message one.from → (l : Letter) (other : DeviceMessage) → Contains (all ++ one ∷ []) l → Spells other l.kind l.body → Contains all l ⊎ IsFromMember other l.from
  one_spoken from l other there its = elim (one_more l there) [
    | inl old ↦ inl old
    | inr here ↦ inr (subst (λ (q : DeviceMessage). IsFromMember q l.from) (sym (one_says l other here its)) (subst (λ (q : Letter). IsFromMember message q.from) here from))
  ]

-- a sign of life and an answer to a read are no pieces
not_piece : (message : DeviceMessage) (from : Actor) → (kind_of message ≡ 21) ⊎ (kind_of message ≡ 24) → IsFromMember message from
not_piece (Copy c) from kind = absurd (elim kind [ inl one_is ↦ omega (arith, one_is) | inr other ↦ omega (arith, other) ])
not_piece (CopiedOf c) from kind = absurd (elim kind [ inl one_is ↦ omega (arith, one_is) | inr other ↦ omega (arith, other) ])
not_piece (Write w) from kind = tt
not_piece (WroteOf w) from kind = tt
not_piece (Read r) from kind = tt
not_piece (Data d) from kind = tt
not_piece Alive from kind = tt

-- a letter of a member is from it, and is no write
pub from_member : (all : List Letter) (one : Letter) (m : Serving) (d : ℕ) (b : Bool) → m.number ≡ member_at d b → one.from ≡ me m → 18 < one.kind → (l : Letter) → Contains (all ++ one ∷ []) l → Contains all l ⊎ ((l.from ≡ Member (member_at d b)) × (18 < l.kind))
from_member all one m d b number from high l there = elim (Contains-append_cases all (one ∷ []) l there) [
  | inl old ↦ inl old
  | inr new ↦ elim (front_or_behind one [] l new) [
    | inl here ↦ inr (sym (ap (λ (q : Letter). q.from) here) ∙ from ∙ ap Member number, subst (λ (q : Letter). 18 < q.kind) here high)
    | inr none ↦ absurd (nothing l none)
  ]
]

-- ---- a letter that the laws say nothing of: a sign of life, or an answer to a read

module _ (parts : Parts) (x : Disks) (past : StorePast) (keeps : Keeps parts x past) (d : ℕ) (b : Bool) (number : (parts.members (member_at d b)).number ≡ member_at d b)
    (one : Letter) (message : DeviceMessage) (spells : Spells message one.kind one.body) (from : one.from ≡ me (parts.members (member_at d b))) (kind : (kind_of message ≡ 21) ⊎ (kind_of message ≡ 24)) where
  differs : (k : ℕ) → k ≢ 21 → k ≢ 24 → k ≢ kind_of message
  differs k one_apart other_apart e = elim kind [ inl data_ ↦ one_apart (e ∙ data_) | inr alive ↦ other_apart (e ∙ alive) ]

  high : 18 < kind_of message
  high = elim kind [ inl data_ ↦ omega (arith, data_) | inr alive ↦ omega (arith, alive) ]

  pub plain_step : IsMemberStep parts x x past keeps.history d b (parts.members (member_at d b)) (past.told.letters ++ one ∷ []) past.told.handed past.told.knew (history_of keeps.history d)
  plain_step = says_step parts x past keeps d b (past.told.letters ++ one ∷ []) past.told.handed (history_of keeps.history d)
      (λ within. let was = keeps.devices d within in record {
        rows = was.rows;
        hands = was.hands;
        copies = was.copies;
        writes = was.writes;
        wrotes = was.wrotes;
        outs = was.outs;
        coming = λ l c. was.coming l (old_coming past.told.letters one message spells high d l c);
        answering = λ w a. was.answering w (old_answering past.told.letters one message spells (differs 19 (λ e. omega (arith, e)) (λ e. omega (arith, e))) d w a);
        copying = λ l a. was.copying l (old_copying past.told.letters one message spells (differs 22 (λ e. omega (arith, e)) (λ e. omega (arith, e))) d l a);
        copied_to = λ g a. was.copied_to g (old_copied past.told.letters one message spells (differs 23 (λ e. omega (arith, e)) (λ e. omega (arith, e))) d g a);
        labels = was.labels;
        down = was.down;
        known = was.known;
      })
      (from_member past.told.letters one (parts.members (member_at d b)) d b number from (let k = spells.kind_is in omega (arith, k, high)))
      (one_spoken past.told.letters one message spells (not_piece message one.from kind))
      (λ k apart. refl) (λ w there. there)

-- ---- a piece of a copy

module _ (parts : Parts) (x : Disks) (past : StorePast) (keeps : Keeps parts x past) (d : ℕ) (b : Bool) (within : d < parts.made.devices) (up : past.told.down (Member (member_at d b)) ≡ false)
    (number : (parts.members (member_at d b)).number ≡ member_at d b) (made : (parts.members (member_at d b)).made ≡ parts.made) (few : parts.made.devices ≤ 4) (fits_room : Fits (store_room parts.made))
    (row : DeviceRow) (knows : (parts.members (member_at d b)).row ≡ Some row) (copying : copies (parts.members (member_at d b)) row ≡ true) (place : ℕ) (low : 1 ≤ place) (below : place < store_room parts.made)
    (before after : List Letter) (sends : SendsPiece (Unit {0}) (parts.members (member_at d b)) (record { epoch = row.epoch; place = place; sectors = min 64 (room_in (parts.members (member_at d b)) - place) }) x before after) where
  abbrev n : ℕ
  n = member_at d b

  abbrev was : Serving
  was = parts.members n

  abbrev h : History
  h = keeps.history

  abbrev sound : IsDeviceSound parts x past h d
  sound = keeps.devices d within

  abbrev sides : Bool → Side
  sides = side_of past.told x parts.members d

  abbrev body : CopyBody
  body = record { device = device_in was; epoch = row.epoch; place = place; bytes = sends.bytes }

  abbrev one : Letter
  one = record { from = me was; to = partner was; kind = 22; body = body_text (Copy body) }

  room_same : room_in was ≡ store_room parts.made
  room_same = ap store_room made

  device_is : device_in was ≡ d
  device_is = own_device was d b number

  second_is : is_second was ≡ b
  second_is = own_second was d b number

  -- as many sectors as are left, 64 at most
  long : length sends.bytes / 512 ≡ min 64 (store_room parts.made - place)
  long = by (min 64 (room_in was - place)) sends.long ∙ ap (λ (k : ℕ). min 64 (k - place)) room_same
    where
      by : (k : ℕ) → length sends.bytes ≡ 512 * k → length sends.bytes / 512 ≡ k
      by k e = omega (arith, e)

  whole_sectors : length sends.bytes % 512 ≡ 0
  whole_sectors = by (min 64 (room_in was - place)) sends.long
    where
      by : (k : ℕ) → length sends.bytes ≡ 512 * k → length sends.bytes % 512 ≡ 0
      by k e = omega (arith, e)

  is_row : IsRow (last_row past.told.chain d) (rows_before past.told.chain d) row
  is_row = sound.rows.known b row knows

  epoch_fits : Fits row.epoch
  epoch_fits = let state = sound.known b row knows in keeps.epochs state.0 state.1 d row state.3

  spells : Spells (Copy body) one.kind one.body
  spells = record { is = (omega (arith, device_is, within, few), epoch_fits, omega (arith, below, fits_room), whole_sectors); kind_is = refl; body_is = refl }

  acts : Acts b (sides b) row
  acts = record {
    up = ap not up;
    named = ap (λ (t : Bool). boot_in t row) (sym second_is) ∙ (copies_so was row copying).0 ∙ keeps.member_boots n (inside_at d parts.made.devices b within) up;
    knows = knows;
  }

  mode_is : row.mode ≡ copy_from b
  mode_is = (copies_so was row copying).1 ∙ ap copy_from second_is

  copy_mode : (t : Bool) (mode : ℕ) → mode ≡ copy_from t → (3 ≤ mode) × IsSource mode t
  copy_mode false mode e = (omega (arith, e), inr (inr e))
  copy_mode true mode e = (omega (arith, e), inr (λ at_a. elim at_a [ inl zero_is ↦ omega (arith, e, zero_is) | inr rest ↦ elim rest [ inl one_is ↦ omega (arith, e, one_is) | inr three ↦ omega (arith, e, three) ] ]))

  abbrev l : CopyLetter
  l = record { by = b; epoch = row.epoch; place = place; bytes = sends.bytes }

  abbrev then_history : DeviceHistory
  then_history = record { wrotes = h.wrotes d; copies = l ∷ h.copies d; copieds = h.copieds d; source = h.source d }

  reads_it : (s : ℕ) → place ≤ s → s < place + length sends.bytes / 512 → sector_of sends.bytes (s - place) ≡ (sides b).reads s
  reads_it s from high =
      let k = (sends.reads tt).each (s - place) (omega (arith, from, high)) in
      let at : place + (s - place) ≡ s = omega (arith, from) in
      sym k ∙ ap (λ (q : ℕ). x.reads (disk_in was) q) at ∙ ap (λ (disk : ℕ). x.reads disk s) (own_disk was d b number)

  direct : IsDeviceSound parts x (served past (past.told.letters ++ one ∷ []) past.told.handed past.told.knew) (with_histories h (λ k. then_history)) d
  direct = record {
    rows = sound.rows;
    hands = sound.hands;
    copies = copies_send (store_room parts.made) (last_row past.told.chain d) (rows_before past.told.chain d) sides (h.source d) (h.copies d) (h.copieds d) sound.rows sound.copies l row is_row refl acts (copy_mode b row.mode mode_is).0 (copy_mode b row.mode mode_is).1
        low (omega (arith, long, below)) (λ s from near high. omega (arith, long, from, near, high)) reads_it;
    writes = sound.writes;
    wrotes = sound.wrotes;
    outs = sound.outs;
    coming = λ q c. sound.coming q (old_coming past.told.letters one (Copy body) spells (omega arith) d q c);
    answering = λ w a. sound.answering w (old_answering past.told.letters one (Copy body) spells (λ e. omega (arith, e)) d w a);
    copying = λ q a. elim (one_more past.told.letters one (Copy body) spells a.letter a.there) [
      | inl old ↦ record { is = inr (sound.copying q (record { letter = a.letter; there = old; copy = a.copy; spells = a.spells; from = a.from; device = a.device; epoch_is = a.epoch_is; place = a.place; bytes = a.bytes })).is }
      | inr here ↦ record { is = inl (new_copy q a here) }
    ];
    copied_to = λ g a. sound.copied_to g (old_copied past.told.letters one (Copy body) spells (λ e. omega (arith, e)) d g a);
    labels = sound.labels;
    down = sound.down;
    known = sound.known;
  }
    where
      new_copy : (q : CopyLetter) (a : IsCopying (past.told.letters ++ one ∷ []) d q) → one ≡ a.letter → q ≡ l
      new_copy q a here =
          let same : a.copy ≡ body = (let says = one_says past.told.letters one (Copy body) spells a.letter (Copy a.copy) here a.spells in cc) in
          let actors : Member was.number ≡ Member (member_at d q.by) = ap (λ (z : Letter). z.from) here ∙ a.from in
          let numbers : was.number ≡ member_at d q.by = cc in
          let by : q.by ≡ b = side_of_number d q.by b (sym numbers ∙ number) in
          let epoch_is = a.epoch_is ∙ ap (λ (c : CopyBody). c.epoch) same in
          let place_is = a.place ∙ ap (λ (c : CopyBody). c.place) same in
          let bytes_are = a.bytes ∙ ap (λ (c : CopyBody). c.bytes) same in
          λ i. record { by = by i; epoch = epoch_is i; place = place_is i; bytes = bytes_are i }

  pub piece_step : IsMemberStep parts x x past h d b was (past.told.letters ++ one ∷ []) past.told.handed past.told.knew then_history
  piece_step = says_step parts x past keeps d b (past.told.letters ++ one ∷ []) past.told.handed then_history (λ inside. direct)
      (from_member past.told.letters one was d b number refl (omega arith)) (one_spoken past.told.letters one (Copy body) spells (b, ap Member number ∙ ap (λ (k : ℕ). Member (member_at k b)) (sym device_is))) (λ k apart. refl) (λ w there. there)

  pub piece_data : (k e session epoch tag : ℕ) (bytes : List ℕ) → IsData (past.told.letters ++ one ∷ []) k e session epoch tag bytes → IsData past.told.letters k e session epoch tag bytes
  piece_data k e session epoch tag bytes a = old_data past.told.letters one (Copy body) spells (λ q. omega (arith, q)) k e session epoch tag bytes a

  pub piece_coming : (q : WriteLetter) → IsComing (past.told.letters ++ one ∷ []) d q → IsComing past.told.letters d q
  piece_coming q c = old_coming past.told.letters one (Copy body) spells (omega arith) d q c
