-- What a content of the devices has that has all that stands so: the truth, with some of the records in doubt.
use Rattle.std.proofs.Common.{◌≡◌, ◌⊎◌, ⊎_elim, inl, inr, ℕ, zero, suc, ◌+◌, ◌/◌, ◌<◌, ◌≤◌, Bool, true, false, ◌||◌, List, [], ◌∷◌, length, Option, Some, None, IsSome, refl, sym, ◌∙◌, ap, subst, arith}
use Rattle.std.specs.Prelude.{if◌then◌else◌}
use Rattle.bx_disk.specs.Disks.{Image}
use Rattle.bx_layout.specs.Labels.{IsOpenGate}
use Rattle.bx_places.specs.Places.{IsBlock, block_place, body_place, gate_place}
use Rattle.bx_records.specs.Drafts.{Block, block_in}
use Rattle.bx_world_logs.specs.bx_redo.specs.Stands.{AreClosed, IsAlone, IsUnderWay, LogStands, Shows as ShowsOne}
use Rattle.bx_world_logs.specs.bx_redo.specs.Stands as log
use Rattle.bx_world_logs.specs.bx_redo.specs.declared.work.Work.{Work}
use Rattle.bx_world_logs.specs.bx_redo.specs.declared.work.Work.TheVariants as works
use Rattle.bx_world_logs.specs.bx_redo.proofs.Shown.{shown as shows_one}
use Rattle.bx_rows.specs.declared.session.SessionRow.{SessionRow}
use Rattle.bx_rows.specs.Words.{is_taken}
use Rattle.bx_views.specs.Truths.{Truth, with_draft}
use Rattle.bx_volume.specs.Overlay.{Logs, IsHome, IsOverlaidTruth, IsUnlogged, Matters, Gate, Body, Home, filled_of, with_log}
use Rattle.bx_volume.specs.Records.{Logged, LogWhere, IsInBody, gate_of, logged_text, newest_in, or_older}
use Rattle.bx_volume.proofs.Matters.{truth_same}
use Rattle.bx_volume.proofs.Overlay.{log_here, log_there}
use Rattle.bx_volume.proofs.Sizes.{filled_below, filled_there, logged_sectors}
use Rattle.bx_world_logs.specs.Logs.{Activity, OfLog, Found, Slot, SlotStands, LogsStand, Finds, IsLogOf, IsInLog, begins, closes, opens, idle, view_of, writes_in}
use Rattle.bx_world_logs.specs.Shown.{IsRun, ShowsSlot, ShowsTo, IsShown}
use Rattle.bx_world_logs.proofs.Activities.{opens_begins}
use Rattle.bx_world_logs.proofs.Regions.{IsIn, apart_from, body_is_in, gate_is_in, home_in_none, idle_writes, none_writes, one_slot, written, writes_within}

-- the run of each slot is one that it may show
pub run_of : (logs : Logs) (slots : ℕ → Slot) (n : ℕ) (shown : Logs) (truth last : Truth) → ShowsTo logs slots n shown truth last → (slot : ℕ) → slot < n → IsRun logs slots slot (shown slot)
run_of logs slots zero shown truth last shows slot less = absurd (omega (arith, less))
run_of logs slots (suc n) shown truth last (next, before, here) slot less = by (λ lower. run_of logs slots n shown truth next before slot lower) (order slot n less)
  where
    order : (a b : ℕ) → a < suc b → (a ≡ b) ⊎ (a < b)
    order a b lower = grind arith

    run : ShowsSlot logs slots n (shown n) next last → IsRun logs slots n (shown n)
    run (inl is) = inl is.0
    run (inr (inl is)) = inr (inl (is.0, is.1))
    run (inr (inr is)) = inr (inr (is.0, is.1))

    by : (slot < n → IsRun logs slots slot (shown slot)) → (slot ≡ n) ⊎ (slot < n) → IsRun logs slots slot (shown slot)
    by rest (inl same) = subst (λ (k : ℕ). IsRun logs slots k (shown k)) (sym same) (run here)
    by rest (inr lower) = rest lower

-- runs of later slots don't matter
shows_same : (logs : Logs) (slots : ℕ → Slot) (n : ℕ) (one other : Logs) (truth last : Truth) → ((slot : ℕ) → slot < n → other slot ≡ one slot) → ShowsTo logs slots n one truth last → ShowsTo logs slots n other truth last
shows_same logs slots zero one other truth last same shows = shows
shows_same logs slots (suc n) one other truth last same (next, before, here) = (
  next,
  shows_same logs slots n one other truth next (λ slot less. same slot (omega (arith, less))) before,
  subst (λ (run : List Logged). ShowsSlot logs slots n run next last) (sym (same n (omega arith))) here,
)

-- a block of a run that a slot may show is in its log, or in the record that is under way there
pub in_log : (logs : Logs) (slots : ℕ → Slot) (slot at : ℕ) (run : List Logged) → IsRun logs slots slot run → IsSome (newest_in run at) → IsInLog logs slots slot at
in_log logs slots slot at run (inl is) some = inl (subst (λ (r : List Logged). IsSome (newest_in r at)) is some)
in_log logs slots slot at run (inr (inr is)) some = absurd (let e : IsSome (newest_in [] at) = subst (λ (r : List Logged). IsSome (newest_in r at)) is.1 some in cc)
in_log logs slots slot at run (inr (inl is)) some = by (block_in (slots slot).more.changed at) refl (subst (λ (r : List Logged). IsSome (newest_in r at)) is.1 some)
  where
    by : (o : Option Block) → block_in (slots slot).more.changed at ≡ o → IsSome (or_older (block_in (slots slot).more.changed at) (newest_in (logs slot) at)) → IsInLog logs slots slot at
    by None none has = inl (subst (λ (x : Option Block). IsSome (or_older x (newest_in (logs slot) at))) none has)
    by (Some block) here has = inr (opens_begins (slots slot).activity is.0, let e : IsSome (block_in (slots slot).more.changed at) = subst (λ (x : Option Block). IsSome x) (sym here) refl in e)

module _ (Sure : ℕ → ℕ → List ℕ → Type 0) (devices areas : ℕ) (rows : List SessionRow) (before : Image) (logs : Logs) (slots : ℕ → Slot) (truth : Truth)
    (st : LogsStand Sure devices areas rows before logs slots truth) (now : Image) where
  -- what is before, but for what works in the first slots write: that is now
  abbrev half : ℕ → Image
  half n d s = if written devices logs slots n d s then now d s else before d s

  within : (n : ℕ) → n ≤ 8 → (m d s : ℕ) → m < n → writes_in devices m (length (logs m)) (slots m).activity d s ≡ true → IsIn m s
  within n most m d s less is = writes_within Sure devices areas before logs slots m d s (is_taken rows m) (st.each m (omega (arith, less, most))) is

  -- in a slot behind them, and in the homes, all is as before
  in_slot : (n d s : ℕ) → n < 8 → IsIn n s → half n d s ≡ before d s
  in_slot n d s less is = rw (apart_from devices logs slots n d s (within n (omega (arith, less))) (λ m lower other. let e = one_slot m n s other is in omega (arith, e, lower))) refl

  in_home : (n at i : ℕ) → n ≤ 8 → half n (block_place at devices).0 ((block_place at devices).1 + i) ≡ before (block_place at devices).0 ((block_place at devices).1 + i)
  in_home n at i most = rw (apart_from devices logs slots n (block_place at devices).0 ((block_place at devices).1 + i) (within n most) (λ m lower other. home_in_none at devices m i (omega (arith, lower, most)) other)) refl

  -- so far
  record Half (n : ℕ) : Type 0 where
    shown : Logs
    last : Truth
    shows : ShowsTo logs slots n shown truth last
    rest : (slot : ℕ) → n ≤ slot → shown slot ≡ logs slot
    is_truth : IsOverlaidTruth (half n) devices areas rows shown last

  same_half : (n d s : ℕ) → writes_in devices n (length (logs n)) (slots n).activity d s ≡ false → half (suc n) d s ≡ half n d s
  same_half n d s is = ap (λ (b : Bool). if b || written devices logs slots n d s then now d s else before d s) is

  -- one slot more that shows its own run
  goes_whole : (n : ℕ) (h : Half n) → IsOverlaidTruth (half (suc n)) devices areas rows h.shown h.last → Half (suc n)
  goes_whole n h is = record {
    shown = h.shown;
    last = h.last;
    shows = (h.last, h.shows, inl (h.rest n (omega arith), refl));
    rest = λ slot more. h.rest slot (omega (arith, more));
    is_truth = is;
  }

  quiet : (n : ℕ) (h : Half n) → ((d s : ℕ) → writes_in devices n (length (logs n)) (slots n).activity d s ≡ false) → Half (suc n)
  quiet n h none = goes_whole n h (truth_same (half n) (half (suc n)) devices areas rows h.shown h.last (λ d s matters. same_half n d s (none d s)) h.is_truth)

  -- what is in the homes and bodies of a slot that comes now
  home_half : (n at : ℕ) (block : Block) → n ≤ 8 → IsHome before devices at block → IsHome (half n) devices at block
  home_half n at block most home = record { is = home.is; reads = record { each = λ i less. in_home n at i most ∙ home.reads.each i less } }

  closed_half : (n from : ℕ) → n < 8 → AreClosed before devices n from → AreClosed (half n) devices n from
  closed_half n from less closed gate above few is_open = closed gate above few (subst IsOpenGate (in_slot n (gate_place n gate devices).0 (gate_place n gate devices).1 less (gate_is_in n gate few)) is_open)

  body_half : (n body : ℕ) (more : Logged) → n < 8 → body < 8 → IsInBody before devices areas n body more → IsInBody (half n) devices areas n body more
  body_half n body more less few is = record {
    is = is.is;
    reads = record { each = λ i lower. in_slot n (body_place n body devices).0 ((body_place n body devices).1 + i) less (body_is_in n body i few (let small = logged_sectors areas more is.is in omega (arith, small, lower))) ∙ is.reads.each i lower };
  }

  alone_half : (n : ℕ) (h : Half n) → n < 8 → begins (slots n).activity ≡ true → IsAlone h.shown n (slots n).more
  alone_half n h less begun s at block lower other has = by (newest_in (h.shown s) at) refl
    where
      is_run : IsRun logs slots s (h.shown s)
      is_run = order s n
        where
          order : (a b : ℕ) → IsRun logs slots a (h.shown a)
          order a b = ⊎_elim (λ (low : a < n). run_of logs slots n h.shown truth h.last h.shows a low) (λ (high : n ≤ a). inl (h.rest a high)) (split a n)
            where
              split : (x y : ℕ) → (x < y) ⊎ (y ≤ x)
              split x y = grind arith

      by : (o : Option Block) → newest_in (h.shown s) at ≡ o → newest_in (h.shown s) at ≡ None
      by None none = none
      by (Some one) is = absurd (other (st.once s n at lower less (in_log logs slots s at (h.shown s) is_run (subst (λ (x : Option Block). IsSome x) (sym is) refl))
          (inr (begun, subst (λ (x : Option Block). IsSome x) (sym has) refl))))

  under_way_half : (n : ℕ) (h : Half n) → n < 8 → begins (slots n).activity ≡ true → IsUnderWay before devices areas logs (slots n).more n (length (logs n)) → IsUnderWay (half n) devices areas h.shown (slots n).more n (length (logs n))
  under_way_half n h less begun is = record {
    room = is.room;
    is = is.is;
    alone = alone_half n h less begun;
    closed = closed_half n (length (logs n)) less is.closed;
  }

  -- the log of the slot that comes now, over what is there so far
  abbrev Trivial : ℕ → ℕ → ℕ → List ℕ → Type 0
  Trivial n d s content = content ≡ half n d s

  log_half : (n : ℕ) (h : Half n) (work : Work) → n < 8 → is_taken rows n ≡ true → (slots n).activity ≡ OfLog work → Finds Sure devices areas before logs (slots n).more n (OfLog work)
      → log.Finds (Trivial n) devices areas rows (half n) h.shown h.last (slots n).more (view_of devices n (length (logs n)) work) work
      → LogStands (Trivial n) devices areas rows (half n) h.shown h.last (slots n).more (view_of devices n (length (logs n)) work)
  log_half n h work less taken is found finds = record {
    volume = st.volume;
    is_slot = less;
    on_device = refl;
    taken = taken;
    is_truth = h.is_truth;
    run = ap (λ (run : List Logged). length run) (h.rest n (omega arith));
    sure = λ d s matters apart. refl;
    own = λ d s gate apart. refl;
    finds = finds;
  }

  begun_of : (n : ℕ) (activity : Activity) (b : Bool) → (slots n).activity ≡ activity → begins activity ≡ b → begins (slots n).activity ≡ b
  begun_of n activity b is begun = ap begins is ∙ begun

  finds_half : (n : ℕ) (h : Half n) (work : Work) → n < 8 → (slots n).activity ≡ OfLog work → Finds Sure devices areas before logs (slots n).more n (OfLog work)
      → log.Finds (Trivial n) devices areas rows (half n) h.shown h.last (slots n).more (view_of devices n (length (logs n)) work) work
  finds_half n h works.Idle less is finds = closed_half n (length (logs n)) less finds
  finds_half n h (works.Body text point) less is finds = (finds.0, under_way_half n h less (begun_of n (OfLog (works.Body text point)) true is refl) finds.1.under_way)
  finds_half n h (works.Opens point) less is finds =
      (body_half n (length (logs n)) (slots n).more less finds.1.under_way.room finds.0, under_way_half n h less (begun_of n (OfLog (works.Opens point)) true is refl) finds.1.under_way, λ sector lower. refl)
  finds_half n h works.Closes less is finds = record {
    some = finds.0;
    home = λ at block is_block newest. home_half n at block (omega (arith, less)) (finds.1.home at block is_block (ap (λ (run : List Logged). newest_in run at) (sym (h.rest n (omega arith))) ∙ newest));
    sure = λ d s matters apart. refl;
  }
  finds_half n h works.Shuts less is finds = finds

  -- one slot more at which something is under way
  works_on : (n : ℕ) (h : Half n) (work : Work) → n < 8 → is_taken rows n ≡ true → (slots n).activity ≡ OfLog work → Finds Sure devices areas before logs (slots n).more n (OfLog work) → Half (suc n)
  works_on n h work less taken is finds = by work is refl
      (shows_one (Trivial n) devices areas rows (half n) (half (suc n)) h.shown h.last (slots n).more (view_of devices n (length (logs n)) work) work
      (λ d s apart sure. same_half n d s (subst (λ (c : Activity). writes_in devices n (length (logs n)) c d s ≡ false) (sym is) apart))
      (log_half n h work less taken is finds (finds_half n h work less is finds)))
    where
      changed : (run : List Logged) (next : Truth) → IsOverlaidTruth (half (suc n)) devices areas rows (with_log h.shown n run) next → ShowsSlot logs slots n run h.last next → Half (suc n)
      changed run next truth_is slot_shows = record {
        shown = with_log h.shown n run;
        last = next;
        shows = (
          h.last,
          shows_same logs slots n h.shown (with_log h.shown n run) truth h.last (λ slot lower. log_there h.shown n slot run (λ e. omega (arith, e, lower))) h.shows,
          subst (λ (r : List Logged). ShowsSlot logs slots n r h.last next) (sym (log_here h.shown n run)) slot_shows,
        );
        rest = λ slot more. log_there h.shown n slot run (λ e. omega (arith, e, more)) ∙ h.rest slot (omega (arith, more));
        is_truth = truth_is;
      }

      by : (w : Work) → (slots n).activity ≡ OfLog w → w ≡ work → ShowsOne devices areas rows h.shown h.last (slots n).more (half (suc n)) n w → Half (suc n)
      by works.Idle at same shows = goes_whole n h shows
      by (works.Body text point) at same shows = goes_whole n h shows
      by (works.Opens point) at same (inl shows) = goes_whole n h shows
      by (works.Opens point) at same (inr shows) = changed ((slots n).more ∷ h.shown n) (with_draft h.last (slots n).more.changed) shows
          (inr (inl (ap opens at, ap (λ (run : List Logged). (slots n).more ∷ run) (h.rest n (omega arith)), refl)))
      by works.Closes at same (inl shows) = goes_whole n h shows
      by works.Closes at same (inr shows) = changed [] h.last shows (inr (inr (ap closes at, refl, refl)))
      by works.Shuts at same shows = goes_whole n h shows

  steps : (n : ℕ) → n < 8 → Half n → Half (suc n)
  steps n less h = by_taken (is_taken rows n) refl (st.each n less)
    where
      by_activity : (activity : Activity) → (slots n).activity ≡ activity → is_taken rows n ≡ true → Finds Sure devices areas before logs (slots n).more n activity → Half (suc n)
      by_activity (OfLog work) is taken finds = works_on n h work less taken is finds
      by_activity Found is taken finds = quiet n h (λ d s. ap (λ (c : Activity). writes_in devices n (length (logs n)) c d s) is)

      by_taken : (taken : Bool) → is_taken rows n ≡ taken → SlotStands Sure devices areas before taken logs n (slots n) → Half (suc n)
      by_taken true taken stands = by_activity (slots n).activity refl taken stands.finds
      by_taken false taken stands = quiet n h (λ d s. ap (λ (c : Activity). writes_in devices n (length (logs n)) c d s) stands.still ∙ idle_writes devices n (length (logs n)) d s)

  halves : (n : ℕ) → n ≤ 8 → Half n
  halves zero most = record { shown = logs; last = truth; shows = refl; rest = λ slot more. refl; is_truth = st.is_truth }
  halves (suc n) most = steps n (omega (arith, most)) (halves n (omega (arith, most)))

  -- ---- the whole

  -- of each slot below a bound no run has the block; or some has
  record Has (run : Logs) (at : ℕ) : Type 0 where
    slot : ℕ
    less : slot < 8
    some : IsSome (newest_in (run slot) at)

  some_has : (run : Logs) (at n : ℕ) → n ≤ 8 → ((slot : ℕ) → slot < n → newest_in (run slot) at ≡ None) ⊎ Has run at
  some_has run at zero most = inl (λ slot less. absurd (omega (arith, less)))
  some_has run at (suc n) most = ⊎_elim (λ none. by none (newest_in (run n) at) refl) (λ has. inr has) (some_has run at n (omega (arith, most)))
    where
      order : (a b : ℕ) → a < suc b → (a ≡ b) ⊎ (a < b)
      order a b lower = grind arith

      by : ((slot : ℕ) → slot < n → newest_in (run slot) at ≡ None) → (o : Option Block) → newest_in (run n) at ≡ o → ((slot : ℕ) → slot < suc n → newest_in (run slot) at ≡ None) ⊎ Has run at
      by none None is = inl (λ slot less. ⊎_elim (λ same. subst (λ (k : ℕ). newest_in (run k) at ≡ None) (sym same) is) (λ lower. none slot lower) (order slot n less))
      by none (Some block) is = inr (record { slot = n; less = omega (arith, most); some = subst (λ (x : Option Block). IsSome x) (sym is) refl })

  -- a block that no run that is shown has is home
  pub home_sure : (shown : Logs) → ((slot : ℕ) → slot < 8 → IsRun logs slots slot (shown slot)) → (at : ℕ) → IsBlock areas at → IsUnlogged shown at → (i : ℕ) → i < 9
      → Sure (block_place at devices).0 ((block_place at devices).1 + i) (before (block_place at devices).0 ((block_place at devices).1 + i))
  home_sure shown runs at is unlogged i few = ⊎_elim (λ none. st.homes at is none i few) (λ has. by_run has (runs has.slot has.less)) (some_has logs at 8 (omega arith))
    where
      none_some : (o : Option Block) → o ≡ None → IsSome o → ⊥
      none_some o none some = cc

      by_activity : (slot : ℕ) (less : slot < 8) (taken : Bool) → closes (slots slot).activity ≡ true → IsSome (newest_in (logs slot) at) → (activity : Activity) → (slots slot).activity ≡ activity
          → SlotStands Sure devices areas before taken logs slot (slots slot) → Sure (block_place at devices).0 ((block_place at devices).1 + i) (before (block_place at devices).0 ((block_place at devices).1 + i))
      by_activity slot less false shut some activity at_course stands = absurd (let e : closes (slots slot).activity ≡ closes idle = ap closes stands.still in cc)
      by_activity slot less true shut some (OfLog works.Idle) at_course stands = absurd (let e : closes (slots slot).activity ≡ false = ap closes at_course in cc)
      by_activity slot less true shut some (OfLog (works.Body text point)) at_course stands = absurd (let e : closes (slots slot).activity ≡ false = ap closes at_course in cc)
      by_activity slot less true shut some (OfLog (works.Opens point)) at_course stands = absurd (let e : closes (slots slot).activity ≡ false = ap closes at_course in cc)
      by_activity slot less true shut some (OfLog works.Closes) at_course stands = (subst (λ (c : Activity). Finds Sure devices areas before logs (slots slot).more slot c) at_course stands.finds).1.sure at is some i few
      by_activity slot less true shut some (OfLog works.Shuts) at_course stands = absurd (let e : closes (slots slot).activity ≡ false = ap closes at_course in cc)
      by_activity slot less true shut some Found at_course stands = absurd (let e : closes (slots slot).activity ≡ false = ap closes at_course in cc)

      by_run : (has : Has logs at) → IsRun logs slots has.slot (shown has.slot) → Sure (block_place at devices).0 ((block_place at devices).1 + i) (before (block_place at devices).0 ((block_place at devices).1 + i))
      by_run has (inl same) = absurd (none_some (newest_in (logs has.slot) at) (ap (λ (run : List Logged). newest_in run at) (sym same) ∙ unlogged has.slot has.less) has.some)
      by_run has (inr (inl with_it)) = absurd (in_none (block_in (slots has.slot).more.changed at) (newest_in (logs has.slot) at) (ap (λ (run : List Logged). newest_in run at) (sym with_it.1) ∙ unlogged has.slot has.less) has.some)
        where
          in_none : (o p : Option Block) → or_older o p ≡ None → IsSome p → ⊥
          in_none None p none some = cc
          in_none (Some x) p none some = cc
      by_run has (inr (inr without)) = by_activity has.slot has.less (is_taken rows has.slot) without.0 has.some (slots has.slot).activity refl (st.each has.slot has.less)

  -- what a body of a run that is shown has stands so
  pub body_sure : (slot : ℕ) (run : List Logged) → slot < 8 → IsRun logs slots slot run → is_taken rows slot ≡ true → (body i : ℕ) → body < length run → i < filled_of run body
      → Sure (body_place slot body devices).0 ((body_place slot body devices).1 + i) (before (body_place slot body devices).0 ((body_place slot body devices).1 + i))
  body_sure slot run less is taken body i few fills = by_run is
    where
      stands : IsLogOf Sure devices areas before logs slot (slots slot)
      stands = subst (λ (t : Bool). SlotStands Sure devices areas before t logs slot (slots slot)) taken (st.each slot less)

      by_activity : (activity : Activity) → (slots slot).activity ≡ activity → opens (slots slot).activity ≡ true → (body ≡ length (logs slot)) → i < length (logged_text (slots slot).more) / 512 → Sure (body_place slot body devices).0 ((body_place slot body devices).1 + i) (before (body_place slot body devices).0 ((body_place slot body devices).1 + i))
      by_activity (OfLog works.Idle) at starts last lower = absurd (let e : opens (slots slot).activity ≡ false = ap opens at in cc)
      by_activity (OfLog (works.Body text point)) at starts last lower = absurd (let e : opens (slots slot).activity ≡ false = ap opens at in cc)
      by_activity (OfLog (works.Opens point)) at starts last lower =
          subst (λ (k : ℕ). Sure (body_place slot k devices).0 ((body_place slot k devices).1 + i) (before (body_place slot k devices).0 ((body_place slot k devices).1 + i))) (sym last)
          ((subst (λ (c : Activity). Finds Sure devices areas before logs (slots slot).more slot c) at stands.finds).2 i lower)
      by_activity (OfLog works.Closes) at starts last lower = absurd (let e : opens (slots slot).activity ≡ false = ap opens at in cc)
      by_activity (OfLog works.Shuts) at starts last lower = absurd (let e : opens (slots slot).activity ≡ false = ap opens at in cc)
      by_activity Found at starts last lower = absurd (let e : opens (slots slot).activity ≡ false = ap opens at in cc)

      split : (a b : ℕ) → a < b + 1 → (a ≡ b) ⊎ (a < b)
      split a b lower = grind arith

      by_run : IsRun logs slots slot run → Sure (body_place slot body devices).0 ((body_place slot body devices).1 + i) (before (body_place slot body devices).0 ((body_place slot body devices).1 + i))
      by_run (inl same) = stands.bodies body i (subst (λ (r : List Logged). body < length r) same few) (subst (λ (r : List Logged). i < filled_of r body) same fills)
      by_run (inr (inl with_it)) =
          let more_few : body < length ((slots slot).more ∷ logs slot) = subst (λ (r : List Logged). body < length r) with_it.1 few in
          let more_fills : i < filled_of ((slots slot).more ∷ logs slot) body = subst (λ (r : List Logged). i < filled_of r body) with_it.1 fills in
          ⊎_elim
          (λ last. by_activity (slots slot).activity refl with_it.0 last (let e = filled_there (logs slot) (slots slot).more body last in omega (arith, more_fills, e)))
          (λ lower. stands.bodies body i lower (let e = filled_below (logs slot) (slots slot).more body lower in omega (arith, more_fills, e)))
          (split body (length (logs slot)) (omega (arith, more_few)))
      by_run (inr (inr without)) = absurd (let e : body < length {A = Logged} [] = subst (λ (r : List Logged). body < length r) without.1 few in omega (arith, e))

  module _ (has : (d s : ℕ) (content : List ℕ) → Sure d s content → now d s ≡ content) where
    -- what isn't being written, and matters to what is shown, is as before
    as_before : (shown : Logs) → ((slot : ℕ) → slot < 8 → IsRun logs slots slot (shown slot)) → ((slot : ℕ) → slot < 8 → is_taken rows slot ≡ false → shown slot ≡ [])
        → (d s : ℕ) → Matters devices areas shown d s → written devices logs slots 8 d s ≡ false → now d s ≡ before d s
    as_before shown runs none d s (Gate slot gate less place few) quiet_there = has _ _ _ (by (is_taken rows slot) (st.each slot less))
      where
        by : (taken : Bool) → SlotStands Sure devices areas before taken logs slot (slots slot) → Sure (gate_place slot gate devices).0 (gate_place slot gate devices).1 (gate_of before devices slot gate)
        by true stands = stands.gates gate place (none_writes devices logs slots 8 slot (gate_place slot gate devices).0 (gate_place slot gate devices).1 less quiet_there)
        by false stands = stands.gates gate place
    as_before shown runs none d s (Body slot body i less few small fills) quiet_there = by (is_taken rows slot) refl
      where
        by : (taken : Bool) → is_taken rows slot ≡ taken → now (body_place slot body devices).0 ((body_place slot body devices).1 + i) ≡ before (body_place slot body devices).0 ((body_place slot body devices).1 + i)
        by true taken = has _ _ _ (body_sure slot (shown slot) less (runs slot less) taken body i few fills)
        by false taken = absurd (let e = ap length (none slot less taken) in omega (arith, e, few))
    as_before shown runs none d s (Home at i is unlogged few) quiet_there = has _ _ _ (home_sure shown runs at is unlogged i few)

    -- A content that has all that stands so is the truth, with some of the records in doubt.
    pub images_show : IsShown logs slots devices areas rows truth now
    images_show = record { shown = h.shown; last = h.last; shows = h.shows; is_truth = truth_same (half 8) now devices areas rows h.shown h.last (λ d s matters. by d s matters (written devices logs slots 8 d s) refl) h.is_truth }
      where
        h : Half 8
        h = halves 8 (omega arith)

        none : (slot : ℕ) → slot < 8 → is_taken rows slot ≡ false → h.shown slot ≡ []
        none slot less taken = subst (λ (t : Bool). LogWhere t (half 8) devices areas slot (h.shown slot)) taken (h.is_truth.has_logs slot less)

        by : (d s : ℕ) → Matters devices areas h.shown d s → (b : Bool) → written devices logs slots 8 d s ≡ b → now d s ≡ half 8 d s
        by d s matters true is = sym (ap (λ (b : Bool). if b then now d s else before d s) is)
        by d s matters false is =
            as_before h.shown (run_of logs slots 8 h.shown truth h.last h.shows) none d s matters is ∙ sym (ap (λ (b : Bool). if b then now d s else before d s) is)
