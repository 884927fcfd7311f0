-- The chain grows by any change that is legal, and that was handed back where a store asks for such: all members and streams go on fitting.
use Rattle.std.proofs.Common.{◌≡◌, ◌≢◌, ◌⊎◌, inl, inr, ℕ, ◌+◌, ◌<◌, ◌≤◌, Bool, true, false, List, ◌∷◌, length, Option, Some, None, refl, sym, ◌∙◌, ap, subst, arith}
use Rattle.std.specs.Prelude.{IsSomeAnd, ◌==◌, slice_get, if◌then◌else◌}
use Rattle.std.specs.List.{AllByRecursion}
use Rattle.std.proofs.lemmas.Bool.Decides.{nat_tests}
use Rattle.bx_base.specs.declared.names.Actor.TheVariants.{Node}
use Rattle.bx_disk.specs.Disks.{Disks}
use Rattle.bx_facts.proofs.Sessions.{Grows, rows_grow}
use Rattle.bx_facts.specs.Chains.{Chain, IsPlace, IsStoresOwn, LivesIn, grown, last}
use Rattle.bx_facts.specs.Sessions.{IsRowOf}
use Rattle.bx_facts.specs.Writes.{StorePast, store_grown}
use Rattle.bx_global.proofs.Places.{at_place-other, length-at_place}
use Rattle.bx_global.proofs.Rising.{index_rises}
use Rattle.bx_global.specs.Allowed.{AreRising}
use Rattle.bx_global.specs.Table.{IsLegal, effect, greatest}
use Rattle.bx_global.specs.declared.change.Change.{Change}
use Rattle.bx_global.specs.declared.change.Change.TheVariants.{Claim, Close, Expire, Open, Renew, Shift, Take}
use Rattle.bx_global.specs.declared.state.GlobalState.{GlobalState}
use Rattle.bx_locking.proofs.Owned.{single_grows}
use Rattle.bx_locking.proofs.Places.{one_step}
use Rattle.bx_locking.specs.Owned.{AreSingle}
use Rattle.bx_rows.specs.Conditions.{Fits}
use Rattle.bx_rows.specs.Modes.{IsReachable}
use Rattle.bx_rows.specs.Rows.{shifted}
use Rattle.bx_rows.specs.declared.device.DeviceRow.{DeviceRow}
use Rattle.bx_rows.specs.declared.session.SessionRow.{SessionRow}
use Rattle.bx_mirror_laws.specs.Acting.{IsRow}
use Rattle.bx_mirror_laws.specs.Sides.{Out}
use Rattle.bx_mirror_client.specs.declared.asking.Asking.{Asking}
use Rattle.bx_mirror_cluster.specs.Fitting.{IsDrawn, IsOwnOrLeft, IsSettledOn, Keeps, Parts, StandsOn, WillReadOn, outs_of, row_of, row_or, rows_before}
use Rattle.bx_mirror_cluster.proofs.Booted.{all_rows, boots_grow, boots_same, boots_with, order_grows}
use Rattle.bx_mirror_cluster.proofs.Chained.{is_shifted, last_placed}
use Rattle.bx_mirror_cluster.proofs.Drawn.{drawn_given}
use Rattle.bx_mirror_cluster.proofs.Growth.{GrowsWith, grows}
use Rattle.bx_mirror_cluster.proofs.Sessions.{each_row}

same_or : (n m : ℕ) → (n ≡ m) ⊎ (n ≢ m)
same_or n m = grind arith

-- ---- a device's row

-- where a device's mode isn't shifted its row stays
row_stays : (s : GlobalState) (device epoch mode boot d : ℕ) (second : Bool) → device ≢ d → row_of (effect s (Shift device epoch mode second boot)) d ≡ row_of s d
row_stays s device epoch mode boot d second apart = ap row_or (at_place-other device (shifted mode second boot) s.devices d (λ e. apart (sym e)))

-- where it is, the epoch is the next one, which fits
row_goes : (s : GlobalState) (device epoch mode boot d : ℕ) (second : Bool) → IsLegal s (Shift device epoch mode second boot) → device ≡ d → (row_of (effect s (Shift device epoch mode second boot)) d).epoch ≡ (row_of s d).epoch + 1
row_goes s device epoch mode boot d second legal e =
    subst (λ (k : ℕ). (row_of (effect s (Shift device epoch mode second boot)) k).epoch ≡ (row_of s k).epoch + 1) e (is_shifted s device epoch mode boot second legal).epoch

epoch_left : (o : Option DeviceRow) (epoch mode : ℕ) → IsSomeAnd o (λ row. (epoch ≡ row.epoch) × IsReachable row.mode mode × (row.epoch + 1 ≤ greatest)) → (row_or o).epoch + 1 ≤ greatest
epoch_left None epoch mode none = absurd none
epoch_left (Some row) epoch mode some = some.2

pub epoch_rises : (s : GlobalState) (change : Change) (d : ℕ) → IsLegal s change → (row_of s d).epoch ≤ (row_of (effect s change) d).epoch
epoch_rises s (Renew by boot reading) d legal = omega arith
epoch_rises s (Take by boot reading) d legal = omega arith
epoch_rises s (Open node boot reading) d legal = omega arith
epoch_rises s (Expire session term reading) d legal = omega arith
epoch_rises s (Claim gone by) d legal = omega arith
epoch_rises s (Close gone by) d legal = omega arith
epoch_rises s (Shift device epoch mode second boot) d legal = elim (same_or device d) [
  | inl e ↦ (let next = row_goes s device epoch mode boot d second legal e in omega (arith, next))
  | inr apart ↦ (let same = ap (λ (r : DeviceRow). r.epoch) (row_stays s device epoch mode boot d second apart) in omega (arith, same))
]

epochs_fit : (s : GlobalState) (change : Change) → IsLegal s change → ((d : ℕ) (row : DeviceRow) → slice_get s.devices d ≡ Some row → Fits row.epoch) → (d : ℕ) (row : DeviceRow) → slice_get (effect s change).devices d ≡ Some row → Fits row.epoch
epochs_fit s (Renew by boot reading) legal fit d row is = fit d row is
epochs_fit s (Take by boot reading) legal fit d row is = fit d row is
epochs_fit s (Open node boot reading) legal fit d row is = fit d row is
epochs_fit s (Expire session term reading) legal fit d row is = fit d row is
epochs_fit s (Claim gone by) legal fit d row is = fit d row is
epochs_fit s (Close gone by) legal fit d row is = fit d row is
epochs_fit s (Shift device epoch mode second boot) legal fit d row is = elim (same_or device d) [
  | inl e ↦ (let next = row_goes s device epoch mode boot d second legal e in
      let left = subst (λ (k : ℕ). (row_of s k).epoch + 1 ≤ greatest) e (epoch_left (slice_get s.devices device) epoch mode legal.row) in
      let now = ap (λ (o : Option DeviceRow). (row_or o).epoch) is in omega (arith, next, left, now))
  | inr apart ↦ fit d row (sym (at_place-other device (shifted mode second boot) s.devices d (λ e. apart (sym e))) ∙ is)
]

devices_same : (s : GlobalState) (change : Change) → length (effect s change).devices ≡ length s.devices
devices_same s (Renew by boot reading) = refl
devices_same s (Take by boot reading) = refl
devices_same s (Open node boot reading) = refl
devices_same s (Expire session term reading) = refl
devices_same s (Claim gone by) = refl
devices_same s (Close gone by) = refl
devices_same s (Shift device epoch mode second boot) = length-at_place device (shifted mode second boot) s.devices

-- a row of a device is one of the longer chain
row_grows : (chain : Chain) (change : Change) (d : ℕ) (r : DeviceRow) → IsRow (row_of (last chain) d) (rows_before chain d) r → IsRow (row_of (effect (last chain) change) d) (rows_before (grown chain change) d) r
row_grows chain (Renew by boot reading) d r is = is
row_grows chain (Take by boot reading) d r is = is
row_grows chain (Open node boot reading) d r is = is
row_grows chain (Expire session term reading) d r is = is
row_grows chain (Claim gone by) d r is = is
row_grows chain (Close gone by) d r is = is
row_grows chain (Shift device epoch mode second boot) d r is = elim (same_or device d) [
  | inl e ↦ (let yes : (device == d) ≡ true = grind (arith, nat_tests, e) in
      let older = ap (λ (b : Bool). if b then row_of (last chain) d ∷ rows_before chain d else rows_before chain d) yes in
      subst (λ (o : List DeviceRow). IsRow (row_of (effect (last chain) (Shift device epoch mode second boot)) d) o r) (sym older)
      (elim is.is [ inl here ↦ record { is = inr (record { is = inl here }) } | inr old ↦ record { is = inr (record { is = inr old.is }) } ]))
  | inr apart ↦ (let no : (device == d) ≡ false = grind (arith, nat_tests, apart) in
      let older = ap (λ (b : Bool). if b then row_of (last chain) d ∷ rows_before chain d else rows_before chain d) no in
      subst (λ (o : List DeviceRow). IsRow (row_of (effect (last chain) (Shift device epoch mode second boot)) d) o r) (sym older)
      (subst (λ (l : DeviceRow). IsRow l (rows_before chain d) r) (sym (row_stays (last chain) device epoch mode boot d second apart)) is))
]

-- ---- all of it

module _ (parts : Parts) (x : Disks) (past : StorePast) (change : Change) (keeps : Keeps parts x past) (legal : IsLegal (last past.told.chain) change) (own : IsStoresOwn past.told.handed change) where
  abbrev s : GlobalState
  s = last past.told.chain

  abbrev t : GlobalState
  t = effect (last past.told.chain) change

  here : IsPlace past.told.chain s
  here = last_placed past.told.chain

  lived : (n : ℕ) (o : Out) → outs_of parts.nodes n ≡ Some o → LivesIn t o.session → LivesIn s o.session
  lived n o is lives = (one_step s change).lives o.session (keeps.actual_given o (keeps.out_actual n o is).0) lives

  device_grows : (d : ℕ) → d < parts.made.devices → GrowsWith parts x past keeps.history d change
  device_grows d within = grows parts x past keeps.history d (keeps.devices d within) keeps.actual_sent change legal own lived

  nodes_grow : (g : ℕ → ℕ) × Grows keeps.node_of g s past.told.chain.first (change ∷ past.told.chain.changes)
  nodes_grow = rows_grow keeps.node_of past.told.chain.first change past.told.chain.changes keeps.sessions

  abbrev node_then : ℕ → ℕ
  node_then = nodes_grow.0

  abbrev boot_then : ℕ → ℕ
  boot_then = boots_with keeps.boot_of s change

  node_same : (session : ℕ) → session < s.next_session → node_then session ≡ keeps.node_of session
  node_same session given = nodes_grow.1.same session given

  boot_same : (session : ℕ) → session < s.next_session → boot_then session ≡ keeps.boot_of session
  boot_same session given = boots_same keeps.boot_of s change session given

  more : s.next_session ≤ t.next_session
  more = (one_step s change).next

  in_order_then : (q : GlobalState) → IsPlace (grown past.told.chain change) q → AreRising q.sessions q.next_session
  in_order_then q (inl new) = subst (λ (p : GlobalState). AreRising p.sessions p.next_session) (sym new) (order_grows s change (keeps.in_order s here))
  in_order_then q (inr old) = keeps.in_order q old

  booted_then : (q : GlobalState) → IsPlace (grown past.told.chain change) q → AllByRecursion (λ row. row.boot ≡ boot_then row.number) q.sessions
  booted_then q (inl new) = subst (λ (p : GlobalState). AllByRecursion (λ (row : SessionRow). row.boot ≡ boot_then row.number) p.sessions) (sym new) (boots_grow keeps.boot_of s change (keeps.in_order s here) (keeps.booted s here))
  booted_then q (inr old) = all_rows (λ row. row.boot ≡ boot_then row.number) q.sessions (λ row has.
      let given = (each_row (IsRowOf keeps.node_of s.next_session) q.sessions row (keeps.sessions.each q old) has).given in
      each_row (λ r. r.boot ≡ keeps.boot_of r.number) q.sessions row (keeps.booted q old) has ∙ sym (boot_same row.number given))

  rising_then : (p q : GlobalState) → IsPlace (grown past.told.chain change) p → IsPlace (grown past.told.chain change) q → p.index ≤ q.index → (d : ℕ) → (row_of p d).epoch ≤ (row_of q d).epoch
  rising_then p q (inl one) (inl other) le d = let e = ap (λ (g : GlobalState). (row_of g d).epoch) (one ∙ sym other) in omega (arith, e)
  rising_then p q (inr one) (inr other) le d = keeps.rising p q one other le d
  rising_then p q (inr one) (inl other) le d =
      let first = keeps.rising p s one here (keeps.highest p one) d in let then_ = epoch_rises s change d legal in let e = ap (λ (g : GlobalState). (row_of g d).epoch) other in omega (arith, first, then_, e)
  rising_then p q (inl one) (inr other) le d = absurd (
      let most = keeps.highest q other in let up = index_rises s change in let e = ap (λ (g : GlobalState). g.index) one in omega (arith, most, up, e, le))

  left_then : (session : ℕ) → session < s.next_session → IsOwnOrLeft parts.nodes past.told.chain past.told.knew past.told.boots past.told.down (keeps.node_of session) (keeps.boot_of session) session
      → IsOwnOrLeft parts.nodes (grown past.told.chain change) past.told.knew past.told.boots past.told.down (node_then session) (boot_then session) session
  left_then session given was =
      subst (λ (k : ℕ). IsOwnOrLeft parts.nodes (grown past.told.chain change) past.told.knew past.told.boots past.told.down k (boot_then session) session) (sym (node_same session given))
      (subst (λ (b : ℕ). IsOwnOrLeft parts.nodes (grown past.told.chain change) past.told.knew past.told.boots past.told.down (keeps.node_of session) b session) (sym (boot_same session given)) (record {
        boot_most = was.boot_most;
        case = elim was.case [
          | inl older ↦ inl older
          | inr rest ↦ inr (elim rest [
            | inl gone ↦ inl gone
            | inr two ↦ inr (elim two [
              | inl its ↦ inl its
              | inr behind ↦ inr (record { state = behind.state; place = inr behind.place; index = behind.index; given = behind.given; other = behind.other })
            ])
          ])
        ];
      }))

  pub grown_keeps : Keeps parts x (store_grown past change)
  grown_keeps = record {
    history = keeps.history;
    devices = λ d within. (device_grows d within).sound;
    count = λ q place. elim place [
      | inl new ↦ ap (λ (p : GlobalState). length p.devices) new ∙ devices_same s change ∙ keeps.count s here
      | inr old ↦ keeps.count q old
    ];
    rising = rising_then;
    highest = λ q place. elim place [
      | inl new ↦ (let e = ap (λ (p : GlobalState). p.index) new in omega (arith, e))
      | inr old ↦ (let most = keeps.highest q old in let up = index_rises s change in omega (arith, most, up))
    ];
    placed = λ q place d. elim place [
      | inl new ↦ record { is = inl (ap (λ (p : GlobalState). row_of p d) new) }
      | inr old ↦ row_grows past.told.chain change d (row_of q d) (keeps.placed q old d)
    ];
    actual_sent = keeps.actual_sent;
    out_actual = keeps.out_actual;
    out_number = keeps.out_number;
    actual_given = λ w there. let given = keeps.actual_given w there in omega (arith, given, more);
    sendable = keeps.sendable;
    holding = keeps.holding;
    askable = keeps.askable;
    epochs = λ q place d row is. elim place [
      | inl new ↦ epochs_fit s change legal (keeps.epochs s here) d row (ap (λ (p : GlobalState). slice_get p.devices d) (sym new) ∙ is)
      | inr old ↦ keeps.epochs q old d row is
    ];
    owing = keeps.owing;
    from_members = keeps.from_members;
    own_out = keeps.own_out;
    lasts = keeps.lasts;
    brings = keeps.brings;
    noted = keeps.noted;
    asking = keeps.asking;
    asked = keeps.asked;
    node_known = λ n session is. let old = keeps.node_known n session is in (old.0, inr old.1, old.2, old.3, old.4);
    node_of = node_then;
    boot_of = boot_then;
    sessions = nodes_grow.1.rows;
    booted = booted_then;
    owned = λ n session is. let old = keeps.owned n session is in let given = old.2 in (node_same session given ∙ old.0, boot_same session given ∙ old.1, omega (arith, given, more));
    single = λ q place. elim place [
      | inl new ↦ subst (λ (p : GlobalState). AreSingle past.told.chain.found p) (sym new) (single_grows past.told.chain.found s change legal (keeps.single s here))
      | inr old ↦ keeps.single q old
    ];
    found_most = keeps.found_most;
    in_order = in_order_then;
    left = λ w there. left_then w.session (keeps.actual_given w there) (keeps.left w there);
    numbered = λ d l there. let was = keeps.numbered d l there in
        subst (λ (k : ℕ). IsDrawn t.next_session (boot_then l.session) (past.told.boots (Node k)) l.session l.sequence (parts.nodes k).sequence) (sym (node_same l.session was.given)) (drawn_given _ _ _ _ _ _ _ _ more (boot_same l.session was.given) was);
    tagged = λ n d session epoch tag bytes data_. let was = keeps.tagged n d session epoch tag bytes data_ in drawn_given _ _ _ _ _ _ _ _ more (boot_same session was.given) was;
    read_tagged = λ n r read. let was = keeps.read_tagged n r read in drawn_given _ _ _ _ _ _ _ _ more (boot_same r.session was.given) was;
    member_boots = keeps.member_boots;
    node_boots = keeps.node_boots;
  }

  -- ---- what stands goes on

  pub grown_settles : (d sector : ℕ) (content : List ℕ) → IsSettledOn parts x past d sector content → IsSettledOn parts x (store_grown past change) d sector content
  grown_settles d sector content settled = record {
    device = settled.device;
    behind_label = settled.behind_label;
    within = settled.within;
    is = (device_grows d settled.device).settles sector content settled.is;
  }

  pub grown_stands : (d sector : ℕ) (content : List ℕ) (index : ℕ) → StandsOn parts x past d sector content index → StandsOn parts x (store_grown past change) d sector content index
  grown_stands d sector content index stands = (device_grows d stands.settled.device).stands sector content index stands

  pub grown_reads : (n : ℕ) (a : Asking) (sector : ℕ) (content : List ℕ) → WillReadOn parts x past n a sector content → WillReadOn parts x (store_grown past change) n a sector content
  grown_reads n a sector content will = record {
    device = will.device;
    behind_label = will.behind_label;
    within = will.within;
    row = will.row;
    row_is = will.row_is;
    stands = (device_grows a.device will.device).reads will.row.epoch sector content will.stands;
    coming = will.coming;
    came = will.came;
  }
