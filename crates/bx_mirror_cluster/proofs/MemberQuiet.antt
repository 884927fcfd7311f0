-- A member hears its partner, or is handed a state with the row that it knows: all goes on fitting, and what stands goes on.
use Rattle.std.proofs.Common.{◌≡◌, ◌≢◌, ◌⊎◌, inl, inr, ℕ, ◌<◌, Bool, true, false, Contains, List, Some, refl, sym, ◌∙◌, subst}
use Rattle.std.specs.Prelude.{slice_get}
use Rattle.bx_base.specs.declared.names.Actor.{Actor}
use Rattle.bx_base.specs.declared.names.Actor.TheVariants.{Member}
use Rattle.bx_disk.specs.Disks.{Disks}
use Rattle.bx_facts.specs.Chains.{IsPlace, last}
use Rattle.bx_facts.specs.Writes.{StorePast, store_room}
use Rattle.bx_global.specs.declared.state.GlobalState.{GlobalState}
use Rattle.bx_rows.specs.declared.device.DeviceRow.{DeviceRow}
use Rattle.bx_mirror_laws.specs.Sides.{Among, Side, WriteLetter}
use Rattle.bx_mirror_laws.specs.Sound.{AreCopies, AreHanded, AreOuts, AreRows, AreWrites, AreWrotes, DeviceStands}
use Rattle.bx_mirror_tables.specs.Lasts.{last_in}
use Rattle.bx_mirror_tables.specs.declared.lasts.Last.{Last}
use Rattle.bx_mirror_tables.specs.declared.answers.Owing.{Owing}
use Rattle.bx_mirror_member.specs.Standing.{MemberView as Serving}
use Rattle.bx_mirror_client.specs.Sends.{member_at}
use Rattle.bx_mirror_server.specs.Sides.{side_of as side_by}
use Rattle.bx_mirror_cluster.specs.Fitting.{History, IsClaimed, IsComing, IsDeviceSound, Keeps, Parts, StandsFor, handings, knows_of, last_row, outs_of, rows_before, side_of}
use Rattle.bx_mirror_cluster.specs.MemberSteps.{history_of, served, with_histories, with_member, with_serving}
use Rattle.bx_mirror_cluster.proofs.MemberLearns.{no_change}
use Rattle.bx_mirror_cluster.proofs.MemberOwn.{IsOwnStep, own_down, own_known, own_labels, own_step, two}
use Rattle.bx_mirror_cluster.proofs.MemberSteps.{IsMemberStep}

module _ (parts : Parts) (x : Disks) (past : StorePast) (keeps : Keeps parts x past) (d : ℕ) (b : Bool) (within : d < parts.made.devices) (up : past.told.down (Member (member_at d b)) ≡ false)
    (number : (parts.members (member_at d b)).number ≡ member_at d b) (m : Serving) (number_next : m.number ≡ member_at d b) (boot_next : m.boot ≡ (parts.members (member_at d b)).boot)
    (same : side_by true m x ≡ side_by true (parts.members (member_at d b)) x) (same_lasts : m.lasts ≡ (parts.members (member_at d b)).lasts) (same_owed : m.owed ≡ (parts.members (member_at d b)).owed)
    (knew : Actor → ℕ) (knew_other : (who : Actor) → who ≢ Member (member_at d b) → knew who ≡ past.told.knew who)
    (its : (r : DeviceRow) → m.row ≡ Some r → (s : GlobalState) × IsPlace past.told.chain s × (s.index ≡ knew (Member (member_at d b))) × (slice_get s.devices d ≡ Some r)) where
  abbrev n : ℕ
  n = member_at d b

  abbrev h : History
  h = keeps.history

  abbrev sound : IsDeviceSound parts x past h d
  sound = keeps.devices d within

  abbrev past_then : StorePast
  past_then = served past past.told.letters past.told.handed knew

  own : IsOwnStep parts x x past d b m past.told.letters past.told.handed knew
  own = own_step parts x x past keeps d b within up m past.told.letters past.told.handed knew number number_next boot_next (λ k s apart. no_change x k s)

  abbrev sides : Bool → Side
  sides = side_of past.told x parts.members d

  abbrev next : Bool → Side
  next = side_of past_then.told x (with_member parts.members n m) d

  each_is : (c : Bool) → next c ≡ sides c
  each_is c = elim (two b c) [
    | inl e ↦ subst (λ (t : Bool). next t ≡ sides t) (sym e) (own.next ∙ same ∙ sym own.now)
    | inr e ↦ subst (λ (t : Bool). next t ≡ sides t) (sym e) own.other
  ]

  all_is : next ≡ sides
  all_is = λ i. λ c. (each_is c) i

  quiet_sound : IsDeviceSound (with_serving parts n m) x past_then (with_histories h (λ k. history_of h d)) d
  quiet_sound = record {
    rows = by (λ s. AreRows (store_room parts.made) (last_row past.told.chain d) (rows_before past.told.chain d) s (h.source d)) sound.rows;
    hands = by (λ s. AreHanded (store_room parts.made) (last_row past.told.chain d) (rows_before past.told.chain d) (handings d past.told.handed) s (h.source d)) sound.hands;
    copies = by (λ s. AreCopies (store_room parts.made) (last_row past.told.chain d) (rows_before past.told.chain d) s (h.copies d) (h.copieds d) (h.source d)) sound.copies;
    writes = by (λ s. AreWrites d past.told.greatest (last_row past.told.chain d) (rows_before past.told.chain d) s (h.writes d) (h.wrotes d) h.actual (outs_of parts.nodes) (knows_of parts.nodes d) (IsClaimed (last past.told.chain) past.told.greatest)) sound.writes;
    wrotes = by (λ s. AreWrotes (last_row past.told.chain d) (rows_before past.told.chain d) s (h.writes d) (h.wrotes d)) sound.wrotes;
    outs = by (λ s. AreOuts d (store_room parts.made) past.told.greatest (last_row past.told.chain d) (rows_before past.told.chain d) (handings d past.told.handed) s (h.writes d) (h.wrotes d) h.actual (outs_of parts.nodes) (knows_of parts.nodes d) (IsClaimed (last past.told.chain) past.told.greatest)) sound.outs;
    coming = sound.coming;
    answering = sound.answering;
    copying = sound.copying;
    copied_to = sound.copied_to;
    labels = own_labels parts x x past keeps d b within up m past.told.letters past.told.handed knew number number_next boot_next (λ k s apart. no_change x k s) (h.copieds d) (record { each = λ k high. refl }) refl (λ sure. sure) (λ c needs. needs);
    down = own_down parts x x past keeps d b within up m past.told.letters past.told.handed knew number number_next boot_next (λ k s apart. no_change x k s);
    known = own_known parts x x past keeps d b within up m past.told.letters past.told.handed knew number number_next boot_next (λ k s apart. no_change x k s) knew_other its;
  }
    where
      by : (P : (Bool → Side) → Type 0) → P sides → P next
      by P is = subst P (sym all_is) is

  pub quiet_step : IsMemberStep parts x x past h d b m past.told.letters past.told.handed knew (history_of h d)
  quiet_step = record {
    sound = λ inside. quiet_sound;
    boot = boot_next;
    disks = λ k s apart. no_change x k s;
    lengths = record { each = λ k high. refl };
    sent = λ q there. inl there;
    handed_other = λ k apart. refl;
    knew_other = knew_other;
    owing = λ o there. keeps.owing n o (subst (λ (os : List Owing). Contains os o) same_owed there);
    lasts = λ session. subst (λ (ls : List Last). (last_in ls session ≡ 0) ⊎ ((l : WriteLetter) × Among (h.writes d) l × (l.session ≡ session) × (l.sequence ≡ last_in ls session))) (sym same_lasts) (keeps.lasts d b session);
    spoken = λ l message its spells. inl its;
    wrotes = λ w there. there;
  }

  pub quiet_goes : (From : DeviceRow → Type 0) (sector : ℕ) (content : List ℕ) → StandsFor From parts x past d sector content → StandsFor From (with_serving parts n m) x past_then d sector content
  quiet_goes From sector content stands =
      subst (λ (s : Bool → Side). DeviceStands d past.told.greatest From (last_row past.told.chain d) (rows_before past.told.chain d) (handings d past.told.handed) s (IsComing past.told.letters d) past.writes sector content) (sym all_is) stands
