-- A member learns a row of a later epoch: all goes on fitting, and what stands goes on.
use Rattle.std.proofs.Common.{◌≡◌, ◌≢◌, ◌⊎◌, inl, inr, ℕ, ◌<◌, ◌≤◌, Bool, true, false, List, Option, Some, None, refl, sym, ◌∙◌, ap, subst, arith}
use Rattle.std.specs.Prelude.{◌==◌, ◌&&◌, not, slice_get, if◌then◌else◌}
use Rattle.std.proofs.lemmas.Bool.Decides.{nat_tests}
use Rattle.bx_base.specs.declared.names.Actor.{Actor}
use Rattle.bx_base.specs.declared.names.Actor.TheVariants.{Member}
use Rattle.bx_disk.specs.Disks.{Disks, Stays}
use Rattle.bx_facts.proofs.Machines.{elsewhere, here}
use Rattle.bx_facts.specs.Chains.{IsPlace, last}
use Rattle.bx_facts.specs.Machines.{put_at}
use Rattle.bx_facts.specs.Writes.{StorePast, member_disk, store_room}
use Rattle.bx_global.specs.declared.state.GlobalState.{GlobalState}
use Rattle.bx_rows.specs.Modes.{IsSource}
use Rattle.bx_rows.specs.declared.device.DeviceRow.{DeviceRow}
use Rattle.bx_mirror_client.proofs.Telling.{both, same_number}
use Rattle.bx_mirror_laws.specs.Acting.{Acts, Been, IsRow, KnowsFrom, boot_in}
use Rattle.bx_mirror_laws.specs.Sides.{Handing, Side}
use Rattle.bx_mirror_laws.specs.Steps.{Ages, KnowsBefore, Learns}
use Rattle.bx_mirror_laws.proofs.Ages.{hands_age, rows_age}
use Rattle.bx_mirror_laws.proofs.Learning.{learn_ages, learn_copies, learn_outs, learn_stands, learn_writes, learn_wrotes}
use Rattle.bx_mirror_member.specs.Standing.{MemberView as Serving, copies, copy_from, is_named, is_news, is_second, with_row}
use Rattle.bx_mirror_client.specs.Sends.{member_at}
use Rattle.bx_mirror_server.specs.Sides.{side_of as side_by}
use Rattle.bx_mirror_cluster.specs.Fitting.{History, IsClaimed, IsComing, IsDeviceSound, Keeps, Parts, StandsFor, handings, knows_of, last_row, outs_of, row_of, row_or, rows_before, side_of}
use Rattle.bx_mirror_cluster.specs.MemberSteps.{DeviceHistory, served, source_with, with_histories, with_member, with_serving}
use Rattle.bx_mirror_cluster.proofs.MemberOwn.{IsOwnStep, own_down, own_known, own_labels, own_second, own_step}
use Rattle.bx_mirror_cluster.proofs.MemberSteps.{IsMemberStep}

same_or : (n m : ℕ) → (n ≡ m) ⊎ (n ≢ m)
same_or n m = grind arith

pub no_change : (x : Disks) (k s : ℕ) → Stays x x k s
no_change x k s = record { reads = refl; held = refl; unsure = refl }

source_here : (epoch : ℕ) (reads : ℕ → List ℕ) (source : ℕ → ℕ → List ℕ) (e s : ℕ) → e ≡ epoch → source_with epoch reads source e s ≡ reads s
source_here epoch reads source e s is = let t : (e == epoch) ≡ true = grind (arith, nat_tests, is) in ap (λ (b : Bool). if b then reads s else source e s) t

source_else : (epoch : ℕ) (reads : ℕ → List ℕ) (source : ℕ → ℕ → List ℕ) (e s : ℕ) → e ≢ epoch → source_with epoch reads source e s ≡ source e s
source_else epoch reads source e s apart = let t : (e == epoch) ≡ false = grind (arith, nat_tests, apart) in ap (λ (b : Bool). if b then reads s else source e s) t

-- a copy has one source
pub one_source : (mode : ℕ) (b c : Bool) → mode ≡ copy_from b → IsSource mode c → c ≡ b
one_source mode false false is leads = refl
one_source mode true true is leads = refl
one_source mode false true is leads = absurd (elim leads [ inl zero_is ↦ omega (arith, is, zero_is) | inr not_a ↦ not_a (inr (inr is)) ])
one_source mode true false is leads = absurd (elim leads [ inl zero_is ↦ omega (arith, is, zero_is) | inr more ↦ elim more [ inl one ↦ omega (arith, is, one) | inr three ↦ omega (arith, is, three) ] ])

pub source_mode : (mode : ℕ) (b : Bool) → mode < 5 → 3 ≤ mode → IsSource mode b → mode ≡ copy_from b
source_mode mode false less more leads = elim leads [ inl zero_is ↦ absurd (omega (arith, more, zero_is)) | inr rest ↦ elim rest [ inl one ↦ absurd (omega (arith, more, one)) | inr three ↦ three ] ]
source_mode mode true less more leads = elim leads [
  | inl zero_is ↦ absurd (omega (arith, more, zero_is))
  | inr not_a ↦ elim (same_or mode 3) [ inl three ↦ absurd (not_a (inr (inr three))) | inr other ↦ omega (arith, less, more, other) ]
]

-- it makes a copy: its boot is named, and the mode is its own
pub copies_so : (m : Serving) (row : DeviceRow) → copies m row ≡ true → (boot_in (is_second m) row ≡ m.boot) × (row.mode ≡ copy_from (is_second m))
copies_so m row is = let k = both (is_named m row) (row.mode == copy_from (is_second m)) is in (same_number (boot_in (is_second m) row) m.boot k.0, same_number row.mode (copy_from (is_second m)) k.1)

pub copies_then : (m : Serving) (row : DeviceRow) → boot_in (is_second m) row ≡ m.boot → row.mode ≡ copy_from (is_second m) → copies m row ≡ true
copies_then m row named mode =
    let one : is_named m row ≡ true = grind (arith, nat_tests, named) in let other : (row.mode == copy_from (is_second m)) ≡ true = grind (arith, nat_tests, mode) in
    ap (λ (t : Bool). t && (row.mode == copy_from (is_second m))) one ∙ other

place_most : (t : Bool) → (if t then 1 else 0) ≤ 1
place_most true = omega arith
place_most false = omega arith

module _ (parts : Parts) (x : Disks) (past : StorePast) (keeps : Keeps parts x past) (d : ℕ) (b : Bool) (within : d < parts.made.devices) (up : past.told.down (Member (member_at d b)) ≡ false)
    (number : (parts.members (member_at d b)).number ≡ member_at d b) (known : GlobalState) (place : IsPlace past.told.chain known) (rises : past.told.knew (Member (member_at d b)) ≤ known.index)
    (row : DeviceRow) (there : slice_get known.devices d ≡ Some row) where
  abbrev n : ℕ
  n = member_at d b

  abbrev was : Serving
  was = parts.members n

  abbrev h : History
  h = keeps.history

  abbrev sound : IsDeviceSound parts x past h d
  sound = keeps.devices d within

  abbrev knew_next : Actor → ℕ
  knew_next = put_at (Member n) known.index past.told.knew

  abbrev past_then : StorePast
  past_then = served past past.told.letters past.told.handed knew_next

  row_is : row_of known d ≡ row
  row_is = ap row_or there

  pub is_row : IsRow (last_row past.told.chain d) (rows_before past.told.chain d) row
  is_row = subst (λ (r : DeviceRow). IsRow (last_row past.told.chain d) (rows_before past.told.chain d) r) row_is (keeps.placed known place d)

  knew_here : known.index ≡ knew_next (Member n)
  knew_here = sym (here (Member n) known.index past.told.knew)

  pub knew_else : (who : Actor) → who ≢ Member n → knew_next who ≡ past.told.knew who
  knew_else who apart = elsewhere (Member n) who known.index past.told.knew apart

  -- what it knows is no later
  pub not_later : (k : DeviceRow) → was.row ≡ Some k → k.epoch ≤ row.epoch
  not_later k is =
      let old = sound.known b k is in
      let le = keeps.rising old.0 known old.1 place (let i = old.2 in omega (arith, i, rises)) d in
      let e = ap (λ (o : Option DeviceRow). (row_or o).epoch) old.3 in let f = ap (λ (r : DeviceRow). r.epoch) row_is in omega (arith, le, e, f)

  module _ (news : is_news was.row row ≡ true) where
    abbrev m : Serving
    m = with_row was row

    before : KnowsBefore was.row row.epoch
    before = by was.row refl news
      where
        by : (o : Option DeviceRow) → was.row ≡ o → is_news o row ≡ true → KnowsBefore o row.epoch
        by None e fresh = tt
        by (Some k) e fresh = let le = not_later k e in by_test (k.epoch == row.epoch) refl fresh le
          where
            by_test : (t : Bool) → (k.epoch == row.epoch) ≡ t → not t ≡ true → k.epoch ≤ row.epoch → k.epoch < row.epoch
            by_test true same wrong le_it = absurd cc
            by_test false other fine le_it = let apart : k.epoch ≢ row.epoch = grind (arith, nat_tests, other) in omega (arith, le_it, apart)

    own : IsOwnStep parts x x past d b m past.told.letters past.told.handed knew_next
    own = own_step parts x x past keeps d b within up m past.told.letters past.told.handed knew_next number number refl (λ k s apart. no_change x k s)

    abbrev sides : Bool → Side
    sides = side_of past.told x parts.members d

    abbrev next : Bool → Side
    next = side_of past_then.told x (with_member parts.members n m) d

    learns : Learns row (sides b) (next b)
    learns = subst (λ (s : Side). Learns row s (next b)) (sym own.now) (subst (λ (s : Side). Learns row (side_by true was x) s) (sym own.next) (record {
      before = before;
      up = refl;
      boot = refl;
      row_is = refl;
      lasts = λ session. refl;
      wrote = refl;
      copied = refl;
      reads = refl;
      unsure = refl;
    }))

    -- with what sources have then
    module _ (source_next : ℕ → ℕ → List ℕ) (fixed : (c : Bool) (r : DeviceRow) (s : ℕ) → IsRow (last_row past.told.chain d) (rows_before past.told.chain d) r → Been c (sides c) r → IsSource r.mode c → source_next r.epoch s ≡ h.source d r.epoch s)
        (begins : Acts b (next b) row → 3 ≤ row.mode → IsSource row.mode b → (s : ℕ) → 1 ≤ s → s < store_room parts.made → (sides b).reads s ≡ source_next row.epoch s) where
      abbrev then_history : DeviceHistory
      then_history = record { wrotes = h.wrotes d; copies = h.copies d; copieds = h.copieds d; source = source_next }

      abbrev room : ℕ
      room = store_room parts.made

      abbrev g : ℕ
      g = past.told.greatest

      abbrev last_ : DeviceRow
      last_ = last_row past.told.chain d

      abbrev older_ : List DeviceRow
      older_ = rows_before past.told.chain d

      abbrev handed : List Handing
      handed = handings d past.told.handed

      ages : Ages room last_ older_ sides next (h.source d) source_next
      ages = learn_ages d room g last_ older_ handed sides next (h.source d) source_next sound.rows b row is_row learns own.other fixed

      small : (next b).place ≤ 1
      small = subst (λ (s : Side). s.place ≤ 1) (sym own.next) (place_most (copies was row))

      learned_sound : IsDeviceSound (with_serving parts n m) x past_then (with_histories h (λ k. then_history)) d
      learned_sound = record {
        rows = rows_age room last_ older_ sides next (h.source d) source_next sound.rows ages;
        hands = hands_age room last_ older_ sides next (h.source d) source_next sound.rows ages handed sound.hands;
        copies = learn_copies d room g last_ older_ handed sides next (h.source d) source_next sound.rows b row is_row learns own.other fixed (h.copies d) (h.copieds d) sound.copies begins small;
        writes = learn_writes d room g last_ older_ handed sides next (h.source d) source_next sound.rows b row is_row learns own.other fixed (h.writes d) (h.wrotes d) h.actual (outs_of parts.nodes) (knows_of parts.nodes d) (IsClaimed (last past.told.chain) g) sound.writes;
        wrotes = learn_wrotes d room g last_ older_ handed sides next (h.source d) source_next sound.rows b row is_row learns own.other fixed (h.writes d) (h.wrotes d) sound.wrotes;
        outs = learn_outs d room g last_ older_ handed sides next (h.source d) source_next sound.rows b row is_row learns own.other fixed (h.writes d) (h.wrotes d) h.actual (outs_of parts.nodes) (knows_of parts.nodes d) (IsClaimed (last past.told.chain) g) sound.wrotes.owed_up sound.outs;
        coming = sound.coming;
        answering = sound.answering;
        copying = sound.copying;
        copied_to = sound.copied_to;
        labels = own_labels parts x x past keeps d b within up m past.told.letters past.told.handed knew_next number number refl (λ k s apart. no_change x k s) (h.copieds d) (record { each = λ k high. refl }) refl (λ sure. sure) (λ c needs. needs);
        down = own_down parts x x past keeps d b within up m past.told.letters past.told.handed knew_next number number refl (λ k s apart. no_change x k s);
        known = own_known parts x x past keeps d b within up m past.told.letters past.told.handed knew_next number number refl (λ k s apart. no_change x k s) knew_else
            (λ r is. (known, place, knew_here, there ∙ is));
      }

      pub learn_step : IsMemberStep parts x x past h d b m past.told.letters past.told.handed knew_next then_history
      learn_step = record {
        sound = λ inside. learned_sound;
        boot = refl;
        disks = λ k s apart. no_change x k s;
        lengths = record { each = λ k high. refl };
        sent = λ l has. inl has;
        handed_other = λ k apart. refl;
        knew_other = knew_else;
        owing = λ o has. keeps.owing n o has;
        lasts = λ session. inl refl;
        spoken = λ l message its spells. inl its;
        wrotes = λ w has. has;
      }

      pub learn_goes : (From : DeviceRow → Type 0) (sector : ℕ) (content : List ℕ) → 1 ≤ sector → sector < store_room parts.made → StandsFor From parts x past d sector content → StandsFor From (with_serving parts n m) x past_then d sector content
      learn_goes From sector content low high stands =
          learn_stands d room g last_ older_ handed sides next (h.source d) source_next sound.rows b row is_row learns own.other fixed From (IsComing past.told.letters d) past.writes sector content low high stands

    -- ---- where it begins a copy, and where it doesn't

    its_second : is_second was ≡ b
    its_second = own_second was d b number

    its_boot : (sides b).boot ≡ was.boot
    its_boot = ap (λ (s : Side). s.boot) own.now

    copy_fixed : copies was row ≡ true → (c : Bool) (r : DeviceRow) (s : ℕ) → IsRow (last_row past.told.chain d) (rows_before past.told.chain d) r → Been c (sides c) r → IsSource r.mode c
        → source_with row.epoch (x.reads (member_disk d b)) (h.source d) r.epoch s ≡ h.source d r.epoch s
    copy_fixed copying c r s is been leads = elim (same_or r.epoch row.epoch) [
      | inr apart ↦ source_else row.epoch (x.reads (member_disk d b)) (h.source d) r.epoch s apart
      | inl e ↦ absurd (
          let so = copies_so was row copying in
          let same : r ≡ row = sound.rows.same r row is is_row e in
          let it : c ≡ b = one_source row.mode b c (so.1 ∙ ap copy_from its_second) (subst (λ (k : DeviceRow). IsSource k.mode c) same leads) in
          let been_b = subst (λ (a : Bool). Been a (sides a) row) it (subst (λ (k : DeviceRow). Been c (sides c) k) same been) in
          let named : boot_in b row ≡ was.boot = ap (λ (t : Bool). boot_in t row) (sym its_second) ∙ so.0 in
          elim been_b.is [
            | inl gone ↦ (let no_one : true ≡ false = sym (ap (λ (q : Side). q.up) own.now) ∙ gone in cc)
            | inr rest ↦ elim rest [
              | inl from ↦ not_from was.row before from
              | inr less ↦ omega (arith, less, its_boot, named)
            ]
          ])
    ]
      where
        not_from : (o : Option DeviceRow) → KnowsBefore o row.epoch → KnowsFrom o row.epoch → ⊥
        not_from None earlier from = from
        not_from (Some k) earlier from = omega (arith, earlier, from)

    copy_begins : (s : ℕ) → (sides b).reads s ≡ source_with row.epoch (x.reads (member_disk d b)) (h.source d) row.epoch s
    copy_begins s = sym (source_here row.epoch (x.reads (member_disk d b)) (h.source d) row.epoch s refl)

    none_begins : copies was row ≡ false → row.mode < 5 → Acts b (next b) row → 3 ≤ row.mode → IsSource row.mode b → ⊥
    none_begins none less acts copying leads =
        let boot_then : (next b).boot ≡ was.boot = ap (λ (s : Side). s.boot) own.next in
        let named : boot_in (is_second was) row ≡ was.boot = ap (λ (t : Bool). boot_in t row) its_second ∙ acts.named ∙ boot_then in
        let mode : row.mode ≡ copy_from (is_second was) = source_mode row.mode b less copying leads ∙ ap copy_from (sym its_second) in
        let no_one : true ≡ false = sym (copies_then was row named mode) ∙ none in cc

    -- what sources have then
    abbrev pub source_then : Bool → ℕ → ℕ → List ℕ
    source_then t = if t then source_with row.epoch (x.reads (member_disk d b)) (h.source d) else h.source d

    pub fixed_then : row.mode < 5 → (t : Bool) → copies was row ≡ t → (c : Bool) (r : DeviceRow) (s : ℕ) → IsRow (last_row past.told.chain d) (rows_before past.told.chain d) r → Been c (sides c) r → IsSource r.mode c → source_then t r.epoch s ≡ h.source d r.epoch s
    fixed_then less true e = copy_fixed e
    fixed_then less false e = λ c r s is been leads. refl

    pub begins_then : row.mode < 5 → (t : Bool) → copies was row ≡ t → Acts b (next b) row → 3 ≤ row.mode → IsSource row.mode b → (s : ℕ) → 1 ≤ s → s < store_room parts.made → (sides b).reads s ≡ source_then t row.epoch s
    begins_then less true e acts copying leads s low high = copy_begins s
    begins_then less false e acts copying leads s low high = absurd (none_begins e less acts copying leads)
