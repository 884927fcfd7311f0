-- A disk fails while the target of a copy takes a piece: some of it may stand there, and the member is as it was; all goes on fitting, and what stands
-- goes on.
use Rattle.std.proofs.Common.{◌≡◌, ◌≢◌, inl, ℕ, ◌<◌, ◌≤◌, Bool, true, false, List, refl, sym, ◌∙◌, ap, subst, arith}
use Rattle.std.specs.Prelude.{not}
use Rattle.bx_base.specs.declared.names.Actor.TheVariants.{Member}
use Rattle.bx_disk.specs.Disks.{Disks, Stays}
use Rattle.bx_facts.specs.Chains.{last}
use Rattle.bx_facts.specs.Disks.{SameMemberLengths}
use Rattle.bx_facts.specs.Writes.{StorePast, member_disk, store_room}
use Rattle.bx_rows.specs.Modes.{IsSource}
use Rattle.bx_rows.specs.declared.device.DeviceRow.{DeviceRow}
use Rattle.bx_mirror_laws.specs.Acting.{Acts, IsRow, boot_in}
use Rattle.bx_mirror_laws.specs.Sides.{Among, CopyLetter, Handing, Side}
use Rattle.bx_mirror_laws.specs.Steps.{Ages, PieceChanged}
use Rattle.bx_mirror_laws.proofs.Ages.{hands_age, rows_age}
use Rattle.bx_mirror_laws.proofs.Copying.{piece_ages, piece_copies, piece_outs, piece_stands, piece_writes, piece_wrotes}
use Rattle.bx_mirror_packets.specs.declared.message.CopyBody.{CopyBody}
use Rattle.bx_mirror_packets.specs.declared.message.DeviceMessage.TheVariants.{Copy}
use Rattle.bx_mirror_member.specs.Standing.{MemberView as Serving, copy_from, is_second}
use Rattle.bx_mirror_client.specs.Sends.{member_at}
use Rattle.bx_mirror_server.specs.Sides.{piece_from, side_of as side_by}
use Rattle.bx_mirror_cluster.specs.Fitting.{History, IsClaimed, IsComing, IsDeviceSound, Keeps, Parts, StandsFor, handings, knows_of, last_row, outs_of, rows_before, side_of}
use Rattle.bx_mirror_cluster.specs.MemberSteps.{history_of, served, with_histories, with_member, with_serving}
use Rattle.bx_mirror_cluster.proofs.MemberLearns.{one_source}
use Rattle.bx_mirror_cluster.proofs.MemberOwn.{IsOwnStep, inside_at, own_device, own_down, own_known, own_labels, own_second, own_step}
use Rattle.bx_mirror_cluster.proofs.MemberSteps.{IsMemberStep}
use Rattle.bx_mirror_cluster.specs.GoesFurther.{GoesFurther}
use Rattle.bx_mirror_cluster.proofs.MemberMoves.{plain_goes}
use Rattle.bx_mirror_cluster.proofs.MemberPieces.{PieceComes, copy_mode, not_both}

module _ (parts : Parts) (x y : Disks) (past : StorePast) (keeps : Keeps parts x past) (d : ℕ) (b : Bool) (within : d < parts.made.devices) (up : past.told.down (Member (member_at d b)) ≡ false)
    (number : (parts.members (member_at d b)).number ≡ member_at d b) (disks : (k s : ℕ) → k ≢ member_disk d b → Stays x y k s) (lengths : SameMemberLengths x y)
    (c : CopyBody) (comes : PieceComes parts past d b c) (cut : (by : Bool) → PieceChanged (is_second (parts.members (member_at d b))) (piece_from by c) (side_by true (parts.members (member_at d b)) x) (side_by true (parts.members (member_at d b)) y)) where
  abbrev n : ℕ
  n = member_at d b

  abbrev was : Serving
  was = parts.members n

  abbrev m : Serving
  m = was

  abbrev h : History
  h = keeps.history

  abbrev sound : IsDeviceSound parts x past h d
  sound = keeps.devices d within

  abbrev past_then : StorePast
  past_then = served past past.told.letters past.told.handed past.told.knew

  own : IsOwnStep parts x y past d b m past.told.letters past.told.handed past.told.knew
  own = own_step parts x y past keeps d b within up m past.told.letters past.told.handed past.told.knew number number refl disks

  abbrev sides : Bool → Side
  sides = side_of past.told x parts.members d

  abbrev next : Bool → Side
  next = side_of past_then.told y (with_member parts.members n m) d

  second_is : is_second was ≡ b
  second_is = own_second was d b number

  device_is : c.device ≡ d
  device_is = comes.here.acts.device_is ∙ own_device was d b number

  -- ---- the letter comes from a member of the device

  its_from : (t : Bool) × (comes.letter.from ≡ Member (member_at c.device t))
  its_from = keeps.from_members comes.letter (Copy c) comes.there comes.spells

  abbrev l : CopyLetter
  l = piece_from its_from.0 c

  sent : Among (h.copies d) l
  sent = sound.copying l (record { letter = comes.letter; there = comes.there; copy = c; spells = comes.spells; from = its_from.1 ∙ ap (λ (k : ℕ). Member (member_at k its_from.0)) device_is; device = device_is; epoch_is = refl; place = refl; bytes = refl })

  abbrev row : DeviceRow
  row = comes.here.row

  is_row : IsRow (last_row past.told.chain d) (rows_before past.told.chain d) row
  is_row = sound.rows.known b row comes.here.acts.row_is

  acts : Acts b (sides b) row
  acts = record {
    up = ap not up;
    named = ap (λ (t : Bool). boot_in t row) (sym second_is) ∙ comes.here.acts.named ∙ keeps.member_boots n (inside_at d parts.made.devices b within) up;
    knows = comes.here.acts.row_is;
  }

  mode_is : row.mode ≡ copy_from (not b)
  mode_is = comes.here.target ∙ ap (λ (t : Bool). copy_from (not t)) second_is

  target : IsSource row.mode b → ⊥
  target leads = not_both b (one_source row.mode (not b) b mode_is leads)

  taken : PieceChanged b l (sides b) (next b)
  taken = subst (λ (t : Bool). PieceChanged t l (sides b) (next b)) second_is
      (subst (λ (s : Side). PieceChanged (is_second was) l s (next b)) (sym own.now)
      (subst (λ (s : Side). PieceChanged (is_second was) l (side_by true was x) s) (sym own.next) (cut its_from.0)))

  -- ---- it fits

  abbrev room : ℕ
  room = store_room parts.made

  abbrev g : ℕ
  g = past.told.greatest

  abbrev last_ : DeviceRow
  last_ = last_row past.told.chain d

  abbrev older_ : List DeviceRow
  older_ = rows_before past.told.chain d

  abbrev handed : List Handing
  handed = handings d past.told.handed

  ages : Ages room last_ older_ sides next (h.source d) (h.source d)
  ages = piece_ages d room g last_ older_ handed sides next (h.source d) sound.rows sound.hands (h.copies d) (h.copieds d) sound.copies b l sent row is_row comes.here.acts.epoch_is acts (copy_mode (not b) row.mode mode_is) target taken own.other

  label : (y.reads (member_disk d b) 0 ≡ x.reads (member_disk d b) 0) × (x.unsure (member_disk d b) 0 ≡ false → y.unsure (member_disk d b) 0 ≡ false)
  label =
      let kept = taken.keeps 0 (λ low high. absurd (let behind = comes.here.inside.behind_label in omega (arith, low, behind))) in
      (kept.0, kept.1)

  cut_sound : IsDeviceSound (with_serving parts n m) y past_then (with_histories h (λ k. history_of h d)) d
  cut_sound = record {
    rows = rows_age room last_ older_ sides next (h.source d) (h.source d) sound.rows ages;
    hands = hands_age room last_ older_ sides next (h.source d) (h.source d) sound.rows ages handed sound.hands;
    copies = piece_copies d room g last_ older_ handed sides next (h.source d) sound.rows sound.hands (h.copies d) (h.copieds d) sound.copies b l sent row is_row comes.here.acts.epoch_is acts (copy_mode (not b) row.mode mode_is) target taken own.other;
    writes = piece_writes d room g last_ older_ handed sides next (h.source d) sound.rows sound.hands (h.copies d) (h.copieds d) sound.copies b l sent row is_row comes.here.acts.epoch_is acts (copy_mode (not b) row.mode mode_is) target taken own.other
        (h.writes d) (h.wrotes d) h.actual (outs_of parts.nodes) (knows_of parts.nodes d) (IsClaimed (last past.told.chain) g) sound.writes;
    wrotes = piece_wrotes d room g last_ older_ handed sides next (h.source d) sound.rows sound.hands (h.copies d) (h.copieds d) sound.copies b l sent row is_row comes.here.acts.epoch_is acts (copy_mode (not b) row.mode mode_is) target taken own.other
        (h.writes d) (h.wrotes d) sound.wrotes;
    outs = piece_outs d room g last_ older_ handed sides next (h.source d) sound.rows sound.hands (h.copies d) (h.copieds d) sound.copies b l sent row is_row comes.here.acts.epoch_is acts (copy_mode (not b) row.mode mode_is) target taken own.other
        (h.writes d) (h.wrotes d) h.actual (outs_of parts.nodes) (knows_of parts.nodes d) (IsClaimed (last past.told.chain) g) sound.wrotes.owed_up sound.outs;
    coming = sound.coming;
    answering = sound.answering;
    copying = sound.copying;
    copied_to = sound.copied_to;
    labels = own_labels parts x y past keeps d b within up m past.told.letters past.told.handed past.told.knew number number refl disks (h.copieds d) lengths label.0 label.1 (λ t needs. needs);
    down = own_down parts x y past keeps d b within up m past.told.letters past.told.handed past.told.knew number number refl disks;
    known = own_known parts x y past keeps d b within up m past.told.letters past.told.handed past.told.knew number number refl disks (λ who apart. refl) (λ r is. sound.known b r is);
  }

  cut_step : IsMemberStep parts x y past h d b m past.told.letters past.told.handed past.told.knew (history_of h d)
  cut_step = record {
    sound = λ inside. cut_sound;
    boot = refl;
    disks = disks;
    lengths = lengths;
    sent = λ q there. inl there;
    handed_other = λ k apart. refl;
    knew_other = λ who apart. refl;
    owing = λ o there. keeps.owing n o there;
    spoken = λ q message its spells. inl its;
    lasts = λ session. keeps.lasts d b session;
    wrotes = λ w there. there;
  }

  cut_stands : (From : DeviceRow → Type 0) (sector : ℕ) (content : List ℕ) → 1 ≤ sector → sector < store_room parts.made → StandsFor From parts x past d sector content → StandsFor From (with_serving parts n m) y past_then d sector content
  cut_stands From sector content low high stands =
      piece_stands d room g last_ older_ handed sides next (h.source d) sound.rows sound.hands (h.copies d) (h.copieds d) sound.copies b l sent row is_row comes.here.acts.epoch_is acts (copy_mode (not b) row.mode mode_is) target taken own.other
      From (IsComing past.told.letters d) past.writes sector content low high stands

  pub piece_cut_goes : GoesFurther parts (with_serving parts n m) x y past past
  piece_cut_goes = plain_goes parts x y past keeps d b m past.told.letters past.told.handed past.told.knew (history_of h d) cut_step (λ k e session epoch tag bytes a. a) (λ From sector content low high only stands. cut_stands From sector content low high stands)
