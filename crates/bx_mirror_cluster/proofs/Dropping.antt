-- Of a node's session none of the writes may be taken any more, where the node has none out.
use Rattle.std.proofs.Common.{◌≡◌, ◌≢◌, ◌⊎◌, inl, inr, ⊎_elim, ℕ, Bool, true, false, Contains, List, [], ◌∷◌, filter, Some, None, refl, sym, ◌∙◌, ap, subst, arith}
use Rattle.std.specs.Prelude.{not, ◌==◌}
use Rattle.std.proofs.lemmas.Bool.Decides.{nat_tests}
use Rattle.bx_disk.specs.Disks.{Disks}
use Rattle.bx_facts.proofs.Lists.{behind, front, front_or_behind, nothing}
use Rattle.bx_facts.specs.Writes.{IsOnly, Sent, StorePast, WritesTo, without_session}
use Rattle.bx_rows.specs.declared.device.DeviceRow.{DeviceRow}
use Rattle.bx_mirror_laws.specs.Acting.{FromEpoch}
use Rattle.bx_mirror_laws.specs.Sides.{Among, Out}
use Rattle.bx_mirror_laws.specs.Sound.{IsLate, sent_of}
use Rattle.bx_mirror_laws.proofs.Nodes.{stands_drop}
use Rattle.bx_mirror_client.specs.declared.asking.Asking.{Asking}
use Rattle.bx_mirror_cluster.specs.Fitting.{IsComing, IsSettledOn, Keeps, KnownFrom, Nowhere, Parts, StandsFor, StandsOn, WillReadOn, handings, last_row, outs_of, rows_before, side_of}

-- what passes a test stays
pub in_filter : (test : Sent → Bool) (ws : List Sent) (w : Sent) → Contains ws w → test w ≡ true → Contains (filter test ws) w
in_filter test [] w there passes = absurd (nothing w there)
in_filter test (v ∷ ws) w there passes = (elim (test v) as (λ t. test v ≡ t → Contains (filter test (v ∷ ws)) w) [
  | true ↦ λ e. rw e (⊎_elim
      (λ (same : v ≡ w). subst (λ (u : Sent). Contains (u ∷ filter test ws) w) (sym same) (front w (filter test ws)))
      (λ (rest : Contains ws w). behind v (filter test ws) w (in_filter test ws w rest passes))
      (front_or_behind v ws w there))
  | false ↦ λ e. rw e (⊎_elim
      (λ (same : v ≡ w). absurd (let no : true ≡ false = sym passes ∙ sym (ap test same) ∙ e in cc))
      (λ (rest : Contains ws w). in_filter test ws w rest passes)
      (front_or_behind v ws w there))
]) refl

same_or : (n m : ℕ) → (n ≡ m) ⊎ (n ≢ m)
same_or n m = grind arith

differs : (n m : ℕ) → n ≢ m → not (n == m) ≡ true
differs n m apart = let e : (n == m) ≡ false = grind (arith, nat_tests, apart) in ap not e

module _ (parts : Parts) (x : Disks) (past : StorePast) (keeps : Keeps parts x past) (n session : ℕ) (own : (parts.nodes n).session ≡ Some session) (none : outs_of parts.nodes n ≡ None) where
  pub nothing_out : Keeps parts x (without_session past session)
  nothing_out = record {
    history = keeps.history;
    devices = λ d within. let was = keeps.devices d within in record {
      rows = was.rows;
      hands = was.hands;
      copies = was.copies;
      writes = was.writes;
      wrotes = was.wrotes;
      outs = was.outs;
      coming = was.coming;
      answering = was.answering;
      copying = was.copying;
      copied_to = was.copied_to;
      labels = was.labels;
      down = was.down;
      known = was.known;
    };
    count = keeps.count;
    rising = keeps.rising;
    highest = keeps.highest;
    placed = keeps.placed;
    actual_sent = λ w there. in_filter (λ v. not (v.session == session)) past.writes (sent_of w) (keeps.actual_sent w there) (differs w.session session (apart w there));
    out_actual = keeps.out_actual;
    out_number = keeps.out_number;
    actual_given = keeps.actual_given;
    sendable = keeps.sendable;
    holding = keeps.holding;
    askable = keeps.askable;
    epochs = keeps.epochs;
    owing = keeps.owing;
    from_members = keeps.from_members;
    own_out = keeps.own_out;
    lasts = keeps.lasts;
    brings = keeps.brings;
    noted = keeps.noted;
    asking = keeps.asking;
    asked = keeps.asked;
    node_known = keeps.node_known;
    node_of = keeps.node_of;
    boot_of = keeps.boot_of;
    sessions = keeps.sessions;
    booted = keeps.booted;
    owned = keeps.owned;
    single = keeps.single;
    found_most = keeps.found_most;
    in_order = keeps.in_order;
    left = keeps.left;
    numbered = keeps.numbered;
    tagged = keeps.tagged;
    read_tagged = keeps.read_tagged;
    member_boots = keeps.member_boots;
    node_boots = keeps.node_boots;
  }
    where
      apart : (w : Out) → Among keeps.history.actual w → w.session ≢ session
      apart w there same = let is = keeps.own_out n w there (own ∙ ap Some (sym same)) in let no : None ≡ Some w = sym none ∙ is in cc

  -- what stands goes on standing, where the writes bring nothing else
  pub dropped : (From : DeviceRow → Type 0) (d sector : ℕ) (content : List ℕ) → IsOnly past.writes past.told.greatest d sector content → StandsFor From parts x past d sector content → StandsFor From parts x (without_session past session) d sector content
  dropped From d sector content only stands = stands_drop d past.told.greatest From (last_row past.told.chain d) (rows_before past.told.chain d) (handings d past.told.handed) (side_of past.told x parts.members d) (IsComing past.told.letters d) past.writes
      (filter (λ v. not (v.session == session)) past.writes) sector content kept stands
    where
      kept : (w : Sent) → Contains past.writes w → Contains (filter (λ v. not (v.session == session)) past.writes) w ⊎ ((other : List ℕ) → WritesTo w d sector other → (other ≡ content) ⊎ IsLate past.told.greatest w.until)
      kept w there = ⊎_elim
          (λ (same : w.session ≡ session). inr (λ other brings. only.each w other there brings))
          (λ (not_it : w.session ≢ session). inl (in_filter (λ v. not (v.session == session)) past.writes w there (differs w.session session not_it)))
          (same_or w.session session)

  pub settled_dropped : (d sector : ℕ) (content : List ℕ) → IsOnly past.writes past.told.greatest d sector content → IsSettledOn parts x past d sector content → IsSettledOn parts x (without_session past session) d sector content
  settled_dropped d sector content only settled = record { device = settled.device; behind_label = settled.behind_label; within = settled.within; is = dropped Nowhere d sector content only settled.is }

  pub stands_dropped : (d sector : ℕ) (content : List ℕ) (index : ℕ) → IsOnly past.writes past.told.greatest d sector content → StandsOn parts x past d sector content index → StandsOn parts x (without_session past session) d sector content index
  stands_dropped d sector content index only stands = record {
    settled = settled_dropped d sector content only stands.settled;
    stands = dropped (KnownFrom past.told.chain d index) d sector content only stands.stands;
  }

  pub reads_dropped : (m : ℕ) (a : Asking) (sector : ℕ) (content : List ℕ) → IsOnly past.writes past.told.greatest a.device sector content → WillReadOn parts x past m a sector content → WillReadOn parts x (without_session past session) m a sector content
  reads_dropped m a sector content only will = record {
    device = will.device;
    behind_label = will.behind_label;
    within = will.within;
    row = will.row;
    row_is = will.row_is;
    stands = dropped (FromEpoch will.row.epoch) a.device sector content only will.stands;
    coming = will.coming;
    came = will.came;
  }
