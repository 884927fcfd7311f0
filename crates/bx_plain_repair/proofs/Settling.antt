-- What a recovery finds once the gates are settled.
use Rattle.std.proofs.Common.{◌≡◌, ◌⊎◌, ⊎_elim, inl, inr, refl, ℕ, ◌+◌, ◌*◌, ◌/◌, ◌<◌, ◌≤◌, arith, Bool, true, false, List, [], ◌∷◌, Contains, Option, Some, length, sym, ◌∙◌, ap, subst}
use Rattle.bx_base.specs.declared.names.Point.{Point}
use Rattle.bx_disk.specs.Disks.{Disks, Image, is_within}
use Rattle.bx_calls.specs.Regions.{ReadsAs}
use Rattle.bx_facts.specs.Writes.{IsDone, IsOnly, IsSettled, IsSourceIn, Sent, member_disk}
use Rattle.bx_facts.proofs.Lists.{front_or_behind, nothing}
use Rattle.bx_global.specs.Opening.{opening_state}
use Rattle.bx_layout.specs.Labels.{IsOpenGate}
use Rattle.bx_steps.specs.Steps.{StandsWith}
use Rattle.bx_model.specs.declared.tree.Tree.{Tree}
use Rattle.bx_places.specs.Places.{block_place, log_device, log_start}
use Rattle.bx_rows.specs.Words.{is_taken}
use Rattle.bx_records.specs.declared.runs.Run.{Run}
use Rattle.bx_redo.specs.Found.{AreGatesRead, AreSettled, Settles, gates_run, with_gates}
use Rattle.bx_redo.specs.Stands.{AreClosed, Finds, IsClosing, IsFound, begins_at, is_gate, is_written, sectors_of}
use Rattle.bx_redo.specs.declared.work.Work.{Work}
use Rattle.bx_redo.specs.declared.work.Work.TheVariants.{Body, Closes, Idle, Opens, Shuts}
use Rattle.bx_redo.proofs.Back.{all_stay, done_back}
use Rattle.bx_redo.proofs.Begins.{read_as_before}
use Rattle.bx_redo.proofs.Begun.{stays}
use Rattle.bx_redo.proofs.Settles.{as_before, settled, settled_sure}
use Rattle.bx_redo.proofs.Within.{before_it, behind_it, decided, within_is, within_it}
use Rattle.bx_views.specs.Truths.{no_hints, Truth, with_draft}
use Rattle.bx_volume.specs.Overlay.{Logs, Matters, with_log}
use Rattle.bx_volume.specs.Records.{LogWhere, Logged, gate_of, newest_in}
use Rattle.bx_volume.proofs.Apart.{home_and_log}
use Rattle.bx_plain_repair.specs.Bench.{IsLabelledBench}
use Rattle.bx_plain_repair.specs.Left.{OpenDoubt, IsAt, IsLeft, IsUnsettled, RecordLeads}
use Rattle.bx_plain_repair.specs.Resting.{AreHomed, RestsOrActed, Rests, only}
use Rattle.bx_plain_repair.specs.Through.{one_write}
use Rattle.bx_plain_repair.proofs.Homing.{none_homed}
use Rattle.bx_plain_repair.proofs.Only.{are_only, only_again, with_only}

-- what stays settled leaves the log as it was
pub left_stays : (x z : Disks) (volume floor : ℕ) (tree : Tree) (doubt : Option OpenDoubt) → IsLabelledBench z volume
    → ((d s : ℕ) (content : List ℕ) → IsSettled x (opening_state 1 1) d s content → IsSettled z (opening_state 1 1) d s content) → IsLeft volume floor tree doubt x → IsLeft volume floor tree doubt z
left_stays x z volume floor tree doubt labelled all left = record {
  before = left.before;
  logs = left.logs;
  truth = left.truth;
  more = left.more;
  log = left.log;
  slot = left.slot;
  stands = stays (IsSettled x (opening_state 1 1)) (IsSettled z (opening_state 1 1)) 1 1 (opening_state 1 1).sessions left.before left.logs left.truth left.more left.log left.log.out left.stands
      (λ d s content free was. all d s content was);
  others = left.others;
  told = left.told;
  tree_is = left.tree_is;
  leads = left.leads;
  labelled = labelled;
}

module _ (x z : Disks) (volume floor : ℕ) (tree : Tree) (doubt : Option OpenDoubt) (left : IsLeft volume floor tree doubt x) (labelled : IsLabelledBench z volume) (now : Image) (bytes : List ℕ)
    (read : AreGatesRead left.before left.log bytes) (set : AreSettled (IsSettled x (opening_state 1 1)) (IsSettled z (opening_state 1 1)) left.before now left.log bytes) where
  abbrev Sx : ℕ → ℕ → List ℕ → Type 0
  Sx = IsSettled x (opening_state 1 1)

  abbrev Sz : ℕ → ℕ → List ℕ → Type 0
  Sz = IsSettled z (opening_state 1 1)

  abbrev Finds_now : Logs → Truth → Type 0
  Finds_now logs truth = IsFound Sz 1 1 (opening_state 1 1).sessions now logs truth left.more 0

  -- a gate that isn't being written is as it was
  gate_same : (gate : ℕ) → is_written left.log (log_device 0 1) (log_start 0 + gate) ≡ false → gate_of now 1 0 gate ≡ gate_of left.before 1 0 gate
  gate_same gate free = as_before Sx Sz left.before now left.log bytes read set (log_device 0 1) (log_start 0 + gate) free

  -- gates that were closed are so still, where they aren't being written
  closed_still : (count : ℕ) → ((gate : ℕ) → count ≤ gate → gate < 8 → is_written left.log (log_device 0 1) (log_start 0 + gate) ≡ false) → AreClosed left.before 1 0 count → AreClosed now 1 0 count
  closed_still count free closed gate le less is_open = closed gate le less (subst IsOpenGate (gate_same gate (free gate le less)) is_open)

  -- what is found of a log whose calls were told
  told_rests : (logs : Logs) (truth : Truth) (records : List Logged) → logs ≡ only records → Finds_now logs truth → StandsWith volume 1 truth no_hints tree
      → AreClosed now 1 0 (length records) ⊎ AreHomed z now records → ((logged : Logged) → Contains records logged → logged.head.call ≤ floor) → Rests volume floor tree records z
  told_rests logs truth records same found tree_is behind told = record {
    before = now;
    truth = truth;
    more = left.more;
    found = subst (λ (l : Logs). Finds_now l truth) same found;
    behind = behind;
    told = told;
    tree_is = tree_is;
    labelled = labelled;
  }

  own_is : left.logs ≡ only (left.logs 0)
  own_is = are_only left.logs (left.logs 0) refl left.others

  -- as the log stood
  as_it_stood : Finds_now left.logs left.truth → AreClosed now 1 0 (length (left.logs 0)) ⊎ AreHomed z now (left.logs 0) → Rests volume floor tree (left.logs 0) z
  as_it_stood found behind = told_rests left.logs left.truth (left.logs 0) own_is found left.tree_is behind left.told

  count_is : length (left.logs 0) ≡ left.log.count
  count_is = ap (λ (n : ℕ). length (left.logs n)) (sym left.slot) ∙ left.stands.run

  -- nothing behind the bodies' beginning is a gate
  closed_of : (count : ℕ) → AreClosed left.before 1 left.log.slot count → AreClosed left.before 1 0 count
  closed_of count = subst (λ (n : ℕ). AreClosed left.before 1 n count) left.slot

  -- with the record that was under way
  opened : (point : Point) → left.log.work ≡ Opens point → Finds_now (with_log left.logs 0 (left.more ∷ left.logs 0)) (with_draft left.truth left.more.changed)
      → AreClosed now 1 0 (left.log.count + 1) → RestsOrActed volume floor tree doubt (left.more ∷ left.logs 0) z
  opened point work found closed =
      let unsettled = left.leads point (subst (λ (w : Work). IsAt w point) (sym work) refl) in
      let same = with_only left.logs (left.more ∷ left.logs 0) left.others in
      let found_there = subst (λ (l : Logs). Finds_now l (with_draft left.truth left.more.changed)) same found in
      let call : left.more.head.call ≡ point.call = ap (λ (p : Point). p.call) unsettled.of in
      let behind = subst (AreClosed now 1 0) (let c = count_is in omega (arith, c)) closed in
      by unsettled found_there call behind unsettled.leads
    where
      by : (unsettled : IsUnsettled volume floor tree doubt left.truth left.more point)
          → Finds_now (only (left.more ∷ left.logs 0)) (with_draft left.truth left.more.changed) → left.more.head.call ≡ point.call → AreClosed now 1 0 (length (left.more ∷ left.logs 0))
          → RecordLeads floor tree doubt point unsettled.next → RestsOrActed volume floor tree doubt (left.more ∷ left.logs 0) z
      by unsettled found_there call behind (inl (same, told)) =
          inl (told_rests (only (left.more ∷ left.logs 0)) (with_draft left.truth left.more.changed) (left.more ∷ left.logs 0) refl found_there
          (subst (StandsWith volume 1 (with_draft left.truth left.more.changed) no_hints) same unsettled.stands) (inl behind)
          (λ logged there. ⊎_elim (λ is. subst (λ (l : Logged). l.head.call ≤ floor) is (omega (arith, call, told))) (λ old. left.told logged old) (front_or_behind left.more (left.logs 0) logged there)))
      by unsettled found_there call behind (inr acted) = inr (record {
        point = point;
        next = unsettled.next;
        acted = acted;
        newest = left.more;
        older = left.logs 0;
        records_are = refl;
        of = unsettled.of;
        told = left.told;
        rests = record {
          before = now;
          truth = with_draft left.truth left.more.changed;
          more = left.more;
          found = found_there;
          behind = inl behind;
          told = λ logged there. ⊎_elim
              (λ is. subst (λ (l : Logged). l.head.call ≤ point.call) is (omega (arith, call)))
              (λ old. let low = left.told logged old in let above = acted.above in omega (arith, low, above))
              (front_or_behind left.more (left.logs 0) logged there);
          tree_is = unsettled.stands;
          labelled = labelled;
        };
      })

  -- what isn't written by what is under way
  free_of : (work : Work) (d s : ℕ) → left.log.work ≡ work → is_within left.log.device (begins_at left.log work) (sectors_of work) d s ≡ false → is_written left.log d s ≡ false
  free_of work d s is = subst (λ (w : Work). is_within left.log.device (begins_at left.log w) (sectors_of w) d s ≡ false) (sym is)

  -- closed behind the run as it was
  as_many : AreClosed now 1 0 left.log.count → AreClosed now 1 0 (length (left.logs 0)) ⊎ AreHomed z now (left.logs 0)
  as_many closed = inl (subst (AreClosed now 1 0) (sym count_is) closed)

  -- the gate behind the run is closed
  end_of : (records : List Logged) (taken : Bool) → taken ≡ true → LogWhere taken now 1 1 0 records → length records < 8 → IsOpenGate (gate_of now 1 0 (length records)) → ⊥
  end_of records true is has less = has.end less
  end_of records false is has less = absurd cc

  none_opened : Finds_now left.logs left.truth → left.log.count < 8 → AreClosed now 1 0 (left.log.count + 1) → AreClosed now 1 0 left.log.count
  none_opened found room closed gate le less is_open = ⊎_elim
      (λ (same : gate ≡ left.log.count).
      end_of (left.logs 0) (is_taken (opening_state 1 1).sessions 0) found.taken (found.is_truth.has_logs 0 (omega arith)) (let c = count_is in omega (arith, c, room))
      (subst (λ (n : ℕ). IsOpenGate (gate_of now 1 0 n)) (same ∙ sym count_is) is_open))
      (λ (more : left.log.count + 1 ≤ gate). closed gate more less is_open)
      (sides gate left.log.count le)
    where
      sides : (n m : ℕ) → m ≤ n → (n ≡ m) ⊎ (m + 1 ≤ n)
      sides n m le = grind arith

  -- no record is open
  none_open : (logs : Logs) → logs ≡ only [] → Finds_now logs left.truth → Rests volume floor tree [] z
  none_open logs same found =
      let found_there = subst (λ (l : Logs). Finds_now l left.truth) same found in
      told_rests logs left.truth [] same found left.tree_is (inr (none_homed z now found_there.sure)) (λ logged there. absurd (nothing logged there))

  -- homes that stood are no gates
  homed : IsClosing Sx 1 1 (opening_state 1 1).sessions left.before left.logs left.truth left.more left.log → left.log.work ≡ Closes → AreHomed z now (left.logs 0)
  homed closing work = record {
    home = λ at block is newest.
        let was = closing.home at block is (subst (λ (n : ℕ). newest_in (left.logs n) at ≡ Some block) (sym left.slot) newest) in
        record {
          is = was.is;
          reads = record { each = λ i less. far (block_place at 1).0 ((block_place at 1).1 + i) (let low = home_and_log at 1 7 (omega arith) in omega (arith, low)) ∙ was.reads.each i less };
        };
    sure = λ d s matters.
        let same : with_log (only (left.logs 0)) 0 [] ≡ with_log left.logs left.log.slot [] =
        only_again (left.logs 0) [] ∙ sym (with_only left.logs [] left.others) ∙ ap (λ (n : ℕ). with_log left.logs n []) (sym left.slot) in
        let there = subst (λ (l : Logs). Matters 1 1 l d s) same matters in
        settled_sure Sx Sz left.before now left.log bytes read set d s
        (λ free. let apart = free_of Closes d s work (first_apart d s free) in (apart, closing.sure d s there apart));
  }
    where
      far : (d s : ℕ) → 9345 ≤ s → now d s ≡ left.before d s
      far d s low = set.same d s (behind_it left.log.device (log_start left.log.slot) 8 d s (let slot = left.slot in omega (arith, slot, low)))

      first_apart : (d s : ℕ) → is_gate left.log d s ≡ false → is_within left.log.device (log_start left.log.slot) 1 d s ≡ false
      first_apart d s free = by (decided (is_within left.log.device (log_start left.log.slot) 1 d s))
        where
          by : (is_within left.log.device (log_start left.log.slot) 1 d s ≡ true) ⊎ (is_within left.log.device (log_start left.log.slot) 1 d s ≡ false) → is_within left.log.device (log_start left.log.slot) 1 d s ≡ false
          by (inr apart) = apart
          by (inl is) =
              let w = within_is left.log.device (log_start left.log.slot) 1 d s is in
              let t = within_it left.log.device (log_start left.log.slot) 8 d s w.on w.begins (let e = w.ends in omega (arith, e)) in
              absurd cc

  -- by what was under way
  comes_by : (work : Work) → left.log.work ≡ work → Settles Sz 1 1 (opening_state 1 1).sessions now left.logs left.truth left.more 0 work
      → Finds Sx 1 1 (opening_state 1 1).sessions left.before left.logs left.truth left.more left.log work → (records : List Logged) × RestsOrActed volume floor tree doubt records z
  comes_by Idle work found finds = (
    left.logs 0,
    inl (as_it_stood found (as_many (closed_still left.log.count
        (λ gate le less. free_of Idle (log_device 0 1) (log_start 0 + gate) work (behind_it left.log.device 0 0 (log_device 0 1) (log_start 0 + gate) (omega arith)))
        (closed_of left.log.count finds)))),
  )
  comes_by (Body text point) work found finds = (
    left.logs 0,
    inl (as_it_stood found (as_many (closed_still left.log.count
        (λ gate le less. free_of (Body text point) (log_device 0 1) (log_start 0 + gate) work
        (before_it left.log.device (log_start left.log.slot + 8 + 145 * left.log.count) (length text / 512) (log_device 0 1) (log_start 0 + gate) (omega (arith, less))))
        (closed_of left.log.count finds.1.closed)))),
  )
  comes_by (Opens point) work found finds =
      let closed = closed_still (left.log.count + 1)
      (λ gate le less. free_of (Opens point) (log_device 0 1) (log_start 0 + gate) work
      (behind_it left.log.device (log_start left.log.slot + left.log.count) 1 (log_device 0 1) (log_start 0 + gate) (let slot = left.slot in omega (arith, le, slot))))
      (λ gate le less. closed_of left.log.count finds.1.closed gate (omega (arith, le)) less) in
      ⊎_elim
      (λ plain. (left.logs 0, inl (as_it_stood plain (as_many (none_opened plain finds.1.room closed)))))
      (λ more. (left.more ∷ left.logs 0, opened point work more closed))
      found
  comes_by Closes work found finds = ⊎_elim
      (λ plain. (left.logs 0, inl (as_it_stood plain (inr (homed finds work)))))
      (λ none. ([], inl (none_open (with_log left.logs 0 []) (with_only left.logs [] left.others) none)))
      found
  comes_by Shuts work found finds =
      ([], inl (none_open left.logs (are_only left.logs [] (nil_of (left.logs 0) (count_is ∙ finds)) left.others) found))
    where
      nil_of : (records : List Logged) → length records ≡ 0 → records ≡ []
      nil_of [] is = refl
      nil_of (r ∷ records) is = absurd (omega (arith, is))

  pub comes : (records : List Logged) × RestsOrActed volume floor tree doubt records z
  comes = comes_by left.log.work refl
      (subst (λ (n : ℕ). Settles Sz 1 1 (opening_state 1 1).sessions now left.logs left.truth left.more n left.log.work) left.slot
      (settled Sx Sz 1 1 (opening_state 1 1).sessions left.before now left.logs left.truth left.more left.log bytes left.log.work left.stands read set))
      left.stands.finds

-- ---- the write of the gates

module _ (x z : Disks) (volume floor : ℕ) (tree : Tree) (doubt : Option OpenDoubt) (bytes : List ℕ) (runs : List Run) (long : length bytes ≡ 4096) (reads : ReadsAs x.reads 3 1 bytes)
    (runs_are : runs ≡ record { device = 0; place = 1; bytes = bytes } ∷ [])
    (goes : (d s : ℕ) (content : List ℕ) → IsOnly (one_write runs ∷ []) 0 d s content → IsSettled x (opening_state 1 1) d s content → IsSettled z (opening_state 1 1) d s content)
    (labelled : IsLabelledBench z volume) (left : IsLeft volume floor tree doubt x) where
  on_first : left.log.device ≡ 0
  on_first = left.stands.on_device ∙ ap (λ (n : ℕ). log_device n 1) left.slot

  source : IsSourceIn (opening_state 1 1) left.log.device false
  source = subst (λ (d : ℕ). IsSourceIn (opening_state 1 1) d false) (sym on_first) (inl refl)

  reads_it : ReadsAs x.reads (member_disk left.log.device false) (log_start left.log.slot) bytes
  reads_it = subst (λ (d : ℕ). ReadsAs x.reads (member_disk d false) (log_start left.log.slot) bytes) (sym on_first)
      (subst (λ (n : ℕ). ReadsAs x.reads (member_disk 0 false) (log_start n) bytes) (sym left.slot) reads)

  of_log : runs ≡ gates_run left.log bytes ∷ []
  of_log = runs_are ∙ ap (λ (r : Run). r ∷ []) mine
    where
      mine : record { device = 0; place = 1; bytes = bytes } ≡ gates_run left.log bytes
      mine = λ i. record { device = sym on_first i; place = log_start (sym left.slot i); bytes = bytes }

  all_still : (d s : ℕ) (content : List ℕ) → IsSettled x (opening_state 1 1) d s content → IsSettled z (opening_state 1 1) d s content
  all_still = all_stay left.log bytes long x (opening_state 1 1) (IsSettled z (opening_state 1 1)) false (one_write runs ∷ []) 0 source reads_it
      (λ write there. ⊎_elim (λ (same : one_write runs ≡ write). inl (ap (λ (w : Sent). w.runs) (sym same) ∙ of_log)) (λ none. absurd (nothing write none)) (front_or_behind (one_write runs) [] write there))
      goes

  pub still_left : IsLeft volume floor tree doubt z
  still_left = left_stays x z volume floor tree doubt labelled all_still left

  pub then_comes : IsDone (λ d s content index. IsSettled z (opening_state 1 1) d s content) 0 (one_write runs) → (records : List Logged) × RestsOrActed volume floor tree doubt records z
  then_comes done =
      let Sx : ℕ → ℕ → List ℕ → Type 0 = IsSettled x (opening_state 1 1) in
      let Sz : ℕ → ℕ → List ℕ → Type 0 = IsSettled z (opening_state 1 1) in
      comes x z volume floor tree doubt left labelled (with_gates left.before left.log bytes) bytes
      (read_as_before x (opening_state 1 1) 1 1 (opening_state 1 1).sessions left.before left.logs left.truth left.more left.log false bytes left.stands source long reads_it)
      (done_back left.log bytes long Sx Sz (one_write runs) left.before 0 of_log all_still done)
