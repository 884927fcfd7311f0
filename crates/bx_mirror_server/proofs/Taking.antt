-- The steps of a member are events of its device.
use Rattle.std.proofs.Common.{◌≡◌, ℕ, zero, suc, ◌+◌, ◌-◌, ◌/◌, ◌<◌, ◌≤◌, inl, inr, Bool, true, false, Contains, List, [], ◌∷◌, length, Option, Some, None, refl, sym, ◌∙◌, ap, subst, arith}
use Rattle.std.specs.Prelude.{◌==◌, not, slice_get, if◌then◌else◌}
use Rattle.std.proofs.lemmas.Bool.Decides.{nat_tests}
use Rattle.bx_base.specs.declared.names.Actor.{Actor}
use Rattle.bx_disk.specs.Disks.{Disks, Image, sector_of}
use Rattle.bx_calls.specs.Calls.{KeepsSure}
use Rattle.bx_calls.specs.Regions.{IsSynced}
use Rattle.bx_facts.specs.Writes.{IsOnly, Sent, Writes, WritesIn, member_disk}
use Rattle.bx_members.specs.Members.{KeepsMembers}
use Rattle.bx_global.specs.declared.state.GlobalState.{GlobalState}
use Rattle.bx_post.specs.declared.packets.Letter.{Letter}
use Rattle.bx_records.specs.declared.runs.Run.{Run}
use Rattle.bx_rows.specs.declared.device.DeviceRow.{DeviceRow}
use Rattle.bx_mirror_laws.specs.Acting.{IsRow, boot_in}
use Rattle.bx_mirror_laws.specs.Steps.{IsDown, KnowsBefore, Learns, PartlyTaken, PieceChanged, PieceTaken, Starts, Synced, Taken}
use Rattle.bx_mirror_packets.specs.declared.message.CopyBody.{CopyBody}
use Rattle.bx_mirror_packets.specs.declared.message.WriteBody.{WriteBody}
use Rattle.bx_mirror_tables.specs.Lasts.{last_in}
use Rattle.bx_mirror_tables.proofs.Noting.{noted_last}
use Rattle.bx_mirror_member.specs.Acting.{IsTaken}
use Rattle.bx_mirror_member.specs.Standing.{MemberView, device_in, disk_in, hearing, is_news, is_second, learned, learned_row, started, stopped, with_row}
use Rattle.bx_mirror_member.specs.Steps.{copied_of}
use Rattle.bx_mirror_server.specs.Serving.{OfSync, PutsCopy, PutsWrite, run_of}
use Rattle.bx_mirror_server.specs.Sides.{IsOnce, MayTakeWrite, letter_to, piece_from, side_of}
use Rattle.bx_mirror_server.specs.Working.{alone}
use Rattle.bx_mirror_server.proofs.Places.{own_disk}
use Rattle.bx_mirror_server.proofs.Owing.{copied_only, copied_same, wrote_it, wrote_only, wrote_same, wrote_still}

-- ---- writes

pub takes : (m : MemberView) (reading greatest : ℕ) (w : WriteBody) (x : Disks) → greatest ≤ reading + 500 → IsTaken m reading w → MayTakeWrite greatest m x w
takes m reading greatest w x steady is = record {
  row = is.opens.row;
  takes = record {
    acts = record { up = refl; named = is.opens.acts.named; knows = is.opens.acts.row_is };
    epoch = is.opens.acts.epoch_is;
    written = is.opens.written;
    newer = is.newer;
    in_time = λ late. let until = is.opens.in_time in absurd (omega (arith, until, late, steady));
  };
}

pub took : (m new : MemberView) (from : Actor) (w : WriteBody) (before after : List Letter) (x y : Disks) → IsOnce w.runs.1 (device_in m) → PutsWrite (Unit {0}) from w m new before after x y
    → Taken (device_in m) (letter_to m w) (side_of true m x) (side_of true new y)
took m new from w before after x y once is = subst (λ (n : MemberView). Taken (device_in m) (letter_to m w) (side_of true m x) (side_of true n y)) (sym is.member) (record {
  memory = record { up = refl; boot = refl; row = refl };
  puts = record { written = λ sector content brings. (is.puts tt).written sector content brings (λ other too. once sector content other brings too); keeps = (is.puts tt).keeps };
  last = let e : (w.session == w.session) ≡ true = grind (arith, nat_tests) in noted_last m.lasts w.session w.sequence w.session ∙ ap (λ (t : Bool). if t then w.sequence else last_in m.lasts w.session) e;
  others = λ session apart. let e : (w.session == session) ≡ false = grind (arith, nat_tests, apart) in noted_last m.lasts w.session w.sequence session ∙ ap (λ (t : Bool). if t then w.sequence else last_in m.lasts session) e;
  owes_it = wrote_it (is_second m) m.owed from (record { session = w.session; device = w.device; epoch = w.epoch; sequence = w.sequence });
  owes_still = λ v there. wrote_still (is_second m) m.owed from (record { session = w.session; device = w.device; epoch = w.epoch; sequence = w.sequence }) v there;
  owes_only = λ v there. wrote_only (is_second m) m.owed from (record { session = w.session; device = w.device; epoch = w.epoch; sequence = w.sequence }) v there;
  copied = copied_same (is_second m) m.owed from (record { session = w.session; device = w.device; epoch = w.epoch; sequence = w.sequence });
  place = refl;
})

-- ---- pieces of copies

only_piece : (c : CopyBody) (run : Run) → Contains (run_of c ∷ []) run → run_of c ≡ run
only_piece c run (zero, less, is) = is
only_piece c run (suc k, less, is) = absurd (omega (arith, less))

piece_writes : (c : CopyBody) (device x : ℕ) (other : List ℕ) → WritesIn (run_of c ∷ []) device x other → Writes (run_of c) device x other
piece_writes c device x other (run, has, at) = subst (λ (r : Run). Writes r device x other) (sym (only_piece c run has)) at

pub piece : (m new : MemberView) (from : Actor) (by : Bool) (c : CopyBody) (x y : Disks) → c.device ≡ device_in m → PutsCopy (Unit {0}) from c m new x y
    → PieceTaken (is_second m) (piece_from by c) (side_of true m x) (side_of true new y)
piece m new from by c x y here is = subst (λ (n : MemberView). PieceTaken (is_second m) (piece_from by c) (side_of true m x) (side_of true n y)) (sym is.member) (record {
  memory = record { up = refl; boot = refl; row = refl };
  lasts = refl;
  wrote = wrote_same (is_second m) m.owed from (copied_of c);
  copied_only = λ v there. copied_only (is_second m) m.owed from (copied_of c) v there;
  place = refl;
  inside = λ sector low high.
      (is.puts tt).written sector (sector_of c.bytes (sector - c.place)) (run_of c, (0, omega arith, refl), record { on = here; from = low; below = high; is = refl })
      (λ other brings. sym (piece_writes c (device_in m) sector other brings).is);
  keeps = λ sector same.
      (is.puts tt).keeps sector (x.reads (disk_in m) sector)
      (λ other brings. let w = piece_writes c (device_in m) sector other brings in sym w.is ∙ sym (same w.from w.below))
      refl;
})

-- ---- a row, and a sync

newer : (known : Option DeviceRow) (row : DeviceRow) → KnowsBefore known row.epoch → is_news known row ≡ true
newer None row before = refl
newer (Some k) row before = let e : (k.epoch == row.epoch) ≡ false = grind (arith, nat_tests, before) in ap not e

pub learns : (m : MemberView) (known : GlobalState) (row : DeviceRow) (x : Disks) → slice_get known.devices (device_in m) ≡ Some row → KnowsBefore m.row row.epoch
    → Learns row (side_of true m x) (side_of true (learned known m) x)
learns m known row x at before = subst (λ (n : MemberView). Learns row (side_of true m x) (side_of true n x)) (sym becomes) (record {
  before = before;
  up = refl;
  boot = refl;
  row_is = refl;
  lasts = λ session. refl;
  wrote = refl;
  copied = refl;
  reads = refl;
  unsure = refl;
})
  where
    becomes : learned known m ≡ with_row m row
    becomes = ap (learned_row m) at ∙ ap (λ (t : Bool). if t then with_row m row else m) (newer m.row row before)

pub syncs : (m new : MemberView) (before after : List Letter) (x y : Disks) → OfSync (Unit {0}) m new None before after x y → Synced (side_of true m x) (side_of true new y)
syncs m new before after x y is = subst (λ (n : MemberView). Synced (side_of true m x) (side_of true n y)) (sym is.member) (record {
  memory = record { up = refl; boot = refl; row = refl };
  lasts = refl;
  place = refl;
  reads = ap (λ (f : Image). f (disk_in m)) (is.reads tt);
  sure = λ sector. is.sure sector tt;
  wrote = refl;
  copied = refl;
})

pub stops : (m : MemberView) (x : Disks) → IsDown (side_of false (stopped m) x)
stops m x = record { down = refl; wrote = refl; copied = refl; row = refl }

-- ---- a fault cuts a write short, and a member starts again

pub partly : (m : MemberView) (w : WriteBody) (x y : Disks) → KeepsMembers (alone w.runs.1) 0 x y → PartlyTaken (device_in m) (letter_to m w) (side_of true m x) (side_of true m y)
partly m w x y keeps = record {
  memory = record { up = refl; boot = refl; row = refl };
  keeps = λ sector content unique here.
      let at = own_disk m in
      let there : x.reads (member_disk (device_in m) (is_second m)) sector ≡ content = subst (λ (d : ℕ). x.reads d sector ≡ content) at here in (
        subst (λ (d : ℕ). y.reads d sector ≡ content) (sym at) (keeps.reads (device_in m) sector (is_second m) content (only sector content unique) there),
        λ was. subst (λ (d : ℕ). y.unsure d sector ≡ false) (sym at) (keeps.sure (device_in m) sector (is_second m) content (only sector content unique) there (subst (λ (d : ℕ). x.unsure d sector ≡ false) at was)),
      );
  lasts = refl;
  wrote = refl;
  copied = refl;
  place = refl;
}
  where
    its : Sent
    its = record { session = 0; until = 0; runs = w.runs.1 }

    one : (write : Sent) → Contains (alone w.runs.1) write → its ≡ write
    one write (zero, less, is) = is
    one write (suc k, less, is) = absurd (omega (arith, less))

    only : (sector : ℕ) (content : List ℕ) → ((other : List ℕ) → WritesIn w.runs.1 (device_in m) sector other → other ≡ content) → IsOnly (alone w.runs.1) 0 (device_in m) sector content
    only sector content unique = record {
      each = λ write other there brings. inl (unique other (subst (λ (s : Sent). WritesIn s.runs (device_in m) sector other) (sym (one write there)) brings));
    }

pub piece_partly : (m : MemberView) (by : Bool) (c : CopyBody) (x y : Disks) → c.device ≡ device_in m → KeepsMembers (alone (run_of c ∷ [])) 0 x y → PieceChanged (is_second m) (piece_from by c) (side_of true m x) (side_of true m y)
piece_partly m by c x y here keeps = record {
  memory = record { up = refl; boot = refl; row = refl };
  lasts = refl;
  wrote = refl;
  copied_only = λ v there. inr there;
  place = refl;
  keeps = λ sector same. (
    subst (λ (d : ℕ). y.reads d sector ≡ x.reads d sector) (sym at) (keeps.reads (device_in m) sector (is_second m) (x.reads disk sector) (only sector same) refl),
    λ was. subst (λ (d : ℕ). y.unsure d sector ≡ false) (sym at) (keeps.sure (device_in m) sector (is_second m) (x.reads disk sector) (only sector same) refl (subst (λ (d : ℕ). x.unsure d sector ≡ false) at was)),
  );
}
  where
    disk : ℕ
    disk = member_disk (device_in m) (is_second m)

    at : disk_in m ≡ member_disk (device_in m) (is_second m)
    at = own_disk m

    one : (write : Sent) → Contains (alone (run_of c ∷ [])) write → record { session = 0; until = 0; runs = run_of c ∷ [] } ≡ write
    one write (zero, less, is) = is
    one write (suc k, less, is) = absurd (omega (arith, less))

    only : (sector : ℕ) → (c.place ≤ sector → sector < c.place + length c.bytes / 512 → x.reads (disk_in m) sector ≡ sector_of c.bytes (sector - c.place)) → IsOnly (alone (run_of c ∷ [])) 0 (device_in m) sector (x.reads disk sector)
    only sector same = record {
      each = λ write other there brings.
          let w = piece_writes c (device_in m) sector other (subst (λ (s : Sent). WritesIn s.runs (device_in m) sector other) (sym (one write there)) brings) in
          inl (sym w.is ∙ sym (same w.from w.below) ∙ ap (λ (d : ℕ). x.reads d sector) at);
    }

pub starts : (m : MemberView) (boot reading : ℕ) (last : DeviceRow) (older : List DeviceRow) (x y : Disks) → m.boot ≤ boot → ((r : DeviceRow) → IsRow last older r → boot_in (is_second m) r < boot)
    → KeepsSure x y (disk_in m) 0 1 → IsSynced y (disk_in m) → Starts (is_second m) last older (side_of false (stopped m) x) (side_of true (hearing reading (started boot m)) y)
starts m boot reading last older x y rises newer_than keeps synced = record {
  was = stops m x;
  boot = rises;
  newer = newer_than;
  row = refl;
  wrote = refl;
  copied = refl;
  reads = λ sector behind. keeps.reads.behind sector (omega (arith, behind));
  sure = λ sector was. synced.each sector;
}
