-- A member answers a read with what its sectors read as: the answer is one to a read that was sent, and has what stands.
use Rattle.std.proofs.Common.{◌≡◌, ◌⊎◌, inl, inr, ℕ, ◌+◌, ◌-◌, ◌<◌, ◌≤◌, Bool, true, false, Contains, List, [], ◌∷◌, ◌++◌, Some, refl, sym, ◌∙◌, ap, subst, arith}
use Rattle.std.specs.Prelude.{not}
use Rattle.bx_base.specs.declared.names.Actor.{Actor}
use Rattle.bx_base.specs.declared.names.Actor.TheVariants.{Member, Node}
use Rattle.bx_disk.specs.Disks.{Disks, sector_of}
use Rattle.bx_facts.specs.Chains.{last}
use Rattle.bx_facts.specs.Writes.{StorePast}
use Rattle.bx_post.specs.declared.packets.Letter.{Letter}
use Rattle.bx_rows.specs.Modes.{IsSource}
use Rattle.bx_mirror_laws.specs.Acting.{Acts, FromEpoch, boot_in}
use Rattle.bx_mirror_laws.specs.Sides.{WriteLetter}
use Rattle.bx_mirror_laws.proofs.Small.{answers_so}
use Rattle.bx_mirror_packets.specs.DeviceMessages.{Spells, body_text}
use Rattle.bx_mirror_packets.specs.declared.message.DataBody.{DataBody}
use Rattle.bx_mirror_packets.specs.declared.message.DeviceMessage.TheVariants.{Read, Data}
use Rattle.bx_mirror_packets.specs.declared.message.ReadBody.{ReadBody}
use Rattle.bx_mirror_member.specs.Acting.{IsReadAt, IsReadHere}
use Rattle.bx_mirror_member.specs.Standing.{MemberView as Serving, disk_in, me}
use Rattle.bx_mirror_client.specs.Sends.{member_at}
use Rattle.bx_mirror_client.specs.declared.asking.Asking.{Asking}
use Rattle.bx_mirror_server.specs.Serving.{AnswersRead}
use Rattle.bx_mirror_cluster.specs.Fitting.{History, IsComing, IsData, IsDeviceSound, IsDrawn, IsReading, Keeps, Parts, StandsFor, WillReadOn, handings, last_row, rows_before, side_of}
use Rattle.bx_mirror_cluster.specs.MemberSteps.{history_of}
use Rattle.bx_mirror_cluster.proofs.MemberOwn.{inside_at, own_device, own_disk, own_second}
use Rattle.bx_mirror_cluster.proofs.MemberSays.{old_coming, one_more, one_says, plain_step}
use Rattle.bx_mirror_cluster.proofs.MemberSteps.{IsMemberStep}

-- A read comes to a member.
pub record ReadComes (past : StorePast) (from : Actor) (r : ReadBody) : Type 0 where
  pub letter : Letter
  pub there : Contains past.told.letters letter
  pub from_is : letter.from ≡ from
  pub spells : Spells (Read r) letter.kind letter.body

-- who is read leads
read_leads : (mode : ℕ) (b : Bool) → IsReadAt mode b → IsSource mode b
read_leads mode false at = at
read_leads mode true at = inr at

module _ (parts : Parts) (x : Disks) (past : StorePast) (keeps : Keeps parts x past) (d : ℕ) (b : Bool) (within : d < parts.made.devices) (up : past.told.down (Member (member_at d b)) ≡ false)
    (number : (parts.members (member_at d b)).number ≡ member_at d b) (from : Actor) (r : ReadBody) (comes : ReadComes past from r) (here : IsReadHere (parts.members (member_at d b)) r)
    (before after : List Letter) (answers : AnswersRead (Unit {0}) from r (parts.members (member_at d b)) (parts.members (member_at d b)) before after x x) where
  abbrev n : ℕ
  n = member_at d b

  abbrev was : Serving
  was = parts.members n

  abbrev h : History
  h = keeps.history

  abbrev sound : IsDeviceSound parts x past h d
  sound = keeps.devices d within

  abbrev body : DataBody
  body = record { session = r.session; device = r.device; epoch = r.epoch; tag = r.tag; bytes = answers.bytes }

  abbrev one : Letter
  one = record { from = me was; to = from; kind = 21; body = body_text (Data body) }

  spells : Spells (Data body) one.kind one.body
  spells = let is = comes.spells.is in record { is = (is.0, is.1, is.2, is.3); kind_is = refl; body_is = refl }

  pub answer_step : IsMemberStep parts x x past h d b was (past.told.letters ++ one ∷ []) past.told.handed past.told.knew (history_of h d)
  answer_step = plain_step parts x past keeps d b number one (Data body) spells refl (inl refl)

  -- new data is this answer, to the node whose read came
  its_data : (k e session epoch tag : ℕ) (bytes : List ℕ) (a : IsData (past.told.letters ++ one ∷ []) k e session epoch tag bytes) → one ≡ a.letter → (a.data_ ≡ body) × IsReading past.told.letters k r
  its_data k e session epoch tag bytes a is =
      let same : a.data_ ≡ body = (let says = one_says past.told.letters one (Data body) spells a.letter (Data a.data_) is a.spells in cc) in
      (same, record { letter = comes.letter; there = comes.there; spells = comes.spells; from = comes.from_is ∙ ap (λ (q : Letter). q.to) is ∙ a.to })

  pub answer_drawn : (k e session epoch tag : ℕ) (bytes : List ℕ) → IsData (past.told.letters ++ one ∷ []) k e session epoch tag bytes
      → IsData past.told.letters k e session epoch tag bytes ⊎ IsDrawn (last past.told.chain).next_session (keeps.boot_of session) (past.told.boots (Node k)) session tag (parts.nodes k).tag
  answer_drawn k e session epoch tag bytes a = elim (one_more past.told.letters one (Data body) spells a.letter a.there) [
    | inl old ↦ inl (record { letter = a.letter; there = old; data_ = a.data_; spells = a.spells; to = a.to; device = a.device; session_is = a.session_is; epoch_is = a.epoch_is; tag_is = a.tag_is; bytes_are = a.bytes_are })
    | inr is ↦ inr (let k_data = its_data k e session epoch tag bytes a is in
        let drawn = keeps.read_tagged k r k_data.1 in
        let session_is : r.session ≡ session = sym (ap (λ (q : DataBody). q.session) k_data.0) ∙ a.session_is in
        let tag_is : r.tag ≡ tag = sym (ap (λ (q : DataBody). q.tag) k_data.0) ∙ a.tag_is in
        subst (λ (s : ℕ). IsDrawn (last past.told.chain).next_session (keeps.boot_of s) (past.told.boots (Node k)) s tag (parts.nodes k).tag) session_is
        (subst (λ (t : ℕ). IsDrawn (last past.told.chain).next_session (keeps.boot_of r.session) (past.told.boots (Node k)) r.session t (parts.nodes k).tag) tag_is drawn))
  ]

  -- ---- it has what stands

  acts : Acts b (side_of past.told x parts.members d b) here.row
  acts = record {
    up = ap not up;
    named = ap (λ (t : Bool). boot_in t here.row) (sym (own_second was d b number)) ∙ here.acts.named ∙ keeps.member_boots n (inside_at d parts.made.devices b within) up;
    knows = here.acts.row_is;
  }

  pub answer_reads : (k : ℕ) (a : Asking) (sector : ℕ) (content : List ℕ) → (parts.nodes k).asks ≡ Some a → (will : WillReadOn parts x past k a sector content) → (epoch : ℕ) (bytes : List ℕ) → IsData (past.told.letters ++ one ∷ []) k a.device a.session epoch a.tag bytes
      → will.row.epoch ≤ epoch → a.place ≤ sector → sector < a.place + a.sectors → IsData past.told.letters k a.device a.session epoch a.tag bytes ⊎ (sector_of bytes (sector - a.place) ≡ content)
  answer_reads k a sector content asks will epoch bytes q from_epoch low high = elim (one_more past.told.letters one (Data body) spells q.letter q.there) [
    | inl old ↦ inl (record { letter = q.letter; there = old; data_ = q.data_; spells = q.spells; to = q.to; device = q.device; session_is = q.session_is; epoch_is = q.epoch_is; tag_is = q.tag_is; bytes_are = q.bytes_are })
    | inr is ↦ inr (
        let its = its_data k a.device a.session epoch a.tag bytes q is in
        let session_is : r.session ≡ a.session = sym (ap (λ (z : DataBody). z.session) its.0) ∙ q.session_is in
        let tag_is : r.tag ≡ a.tag = sym (ap (λ (z : DataBody). z.tag) its.0) ∙ q.tag_is in
        let of = keeps.asked k r a its.1 asks session_is tag_is in
        let device : a.device ≡ d = sym of.device ∙ here.acts.device_is ∙ own_device was d b number in
        let bytes_are : bytes ≡ answers.bytes = sym q.bytes_are ∙ ap (λ (z : DataBody). z.bytes) its.0 in
        let epoch_are : here.row.epoch ≡ epoch = here.acts.epoch_is ∙ sym (ap (λ (z : DataBody). z.epoch) its.0) ∙ q.epoch_is in
        let place = of.place in let sectors = of.sectors in let long = answers.long in
        let read : x.reads (disk_in was) (r.place + (sector - r.place)) ≡ sector_of answers.bytes (sector - r.place) = (answers.reads tt).each (sector - r.place) (omega (arith, long, low, high, place, sectors)) in
        let at : r.place + (sector - r.place) ≡ sector = omega (arith, low, place) in
        let stands = subst (λ (z : ℕ). StandsFor (FromEpoch will.row.epoch) parts x past z sector content) device will.stands in
        let has : (side_of past.told x parts.members d b).reads sector ≡ content =
        answers_so d past.told.greatest (FromEpoch will.row.epoch) (last_row past.told.chain d) (rows_before past.told.chain d) (handings d past.told.handed) (side_of past.told x parts.members d) (IsComing past.told.letters d) past.writes sector content stands b here.row
        (sound.rows.known b here.row here.acts.row_is) (omega (arith, from_epoch, epoch_are)) acts (read_leads here.row.mode b (subst (λ (t : Bool). IsReadAt here.row.mode t) (own_second was d b number) here.reads_here)) in
        ap (λ (z : List ℕ). sector_of z (sector - a.place)) bytes_are ∙ ap (λ (z : ℕ). sector_of answers.bytes (sector - z)) (sym place) ∙ sym read ∙ ap (λ (z : ℕ). x.reads (disk_in was) z) at ∙ ap (λ (z : ℕ). x.reads z sector) (own_disk was d b number) ∙ has)
  ]

  pub answer_coming : (q : WriteLetter) → IsComing (past.told.letters ++ one ∷ []) d q → IsComing past.told.letters d q
  answer_coming q c = old_coming past.told.letters one (Data body) spells (omega arith) d q c
