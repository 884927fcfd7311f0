use Rattle.std.proofs.Common.{◌≡◌, ⊎_elim, inl, refl, ℕ, ◌≤◌, arith, false, List, [], ◌∷◌, Contains, length, sym, ◌∙◌, ap, subst}
use Rattle.bx_calls.specs.Regions.{ReadsAs}
use Rattle.bx_disk.specs.Disks.{Disks}
use Rattle.bx_facts.specs.Writes.{IsSettled, IsSourceIn, Sent, Writes, member_disk}
use Rattle.bx_facts.proofs.Lists.{front_or_behind, nothing}
use Rattle.bx_global.specs.Opening.{opening_state}
use Rattle.bx_plain_repair.specs.Bench.{IsLabelledBench}
use Rattle.bx_plain_repair.specs.Left.{IsLeft}
use Rattle.bx_plain_repair.specs.Through.{one_write}
use Rattle.bx_plain_repair.proofs.Labels.{labelled_kept}
use Rattle.bx_plain_repair.proofs.Settling.{still_left, then_comes}
use Rattle.bx_places.specs.Places.{log_start}
use Rattle.bx_plain_store.specs.Out.{IsFitting}
use Rattle.bx_records.specs.declared.runs.Run.{Run}
use Rattle.bx_redo.specs.Found.{Settles, gates_run, with_gates}
use Rattle.bx_plain_repair.proofs.Sparing.{one_beside, spares_same, spares_then, written_spares}
use Rattle.bx_plain_repair.proofs.gates.settle_gates.Goals as goal

-- in a list of one
only_one : (one run : Run) (runs : List Run) → runs ≡ one ∷ [] → Contains runs run → one ≡ run
only_one one run runs are there = ⊎_elim (λ same. same) (λ none. absurd (nothing run none)) (front_or_behind one [] run (subst (λ (all : List Run). Contains all run) are there))

behind_label : (bytes : List ℕ) (runs : List Run) → runs ≡ record { device = 0; place = 1; bytes = bytes } ∷ [] → (run : Run) → Contains runs run → 1 ≤ run.place
behind_label bytes runs are run there = subst (λ (r : Run). 1 ≤ r.place) (only_one (record { device = 0; place = 1; bytes = bytes }) run runs are there) (omega arith)

pub write_through-requires-clause-fit : goal.write_through-requires-clause-fit
write_through-requires-clause-fit g c = λ run there.
    let gates : Run = record { device = 0; place = 1; bytes = c.read_sectors.new.into } in
    let same = only_one gates run c.in_ok-runs.runs c.in_ok-runs.ensures there in
    let long : length c.read_sectors.new.into ≡ 4096 = omega arith in
    let old = (g.R.Rack.state c.args.rack.now).sizes in
    let fits : IsFitting 1 old gates = record {
      device = omega arith;
      disk = (let few = c.requires.disks in omega (arith, few));
      whole = omega (arith, long);
      first = (let room = c.requires.first in omega (arith, long, room));
      second = (let room = c.requires.second in omega (arith, long, room));
    } in
    subst (IsFitting 1 (g.R.Rack.state c.read_sectors.new.rack).sizes) same (subst (λ (sizes : List ℕ). IsFitting 1 sizes gates) (sym c.read_sectors.ensures.rack.sizes) fits)

pub write_through-requires-clause-once : goal.write_through-requires-clause-once
write_through-requires-clause-once g c = λ device sector content other one two.
    let gates : Run = record { device = 0; place = 1; bytes = c.read_sectors.new.into } in
    let a = only_one gates one.0 c.in_ok-runs.runs c.in_ok-runs.ensures one.1 in
    let b = only_one gates two.0 c.in_ok-runs.runs c.in_ok-runs.ensures two.1 in
    let w : Writes gates device sector content = subst (λ (r : Run). Writes r device sector content) (sym a) one.2 in
    let v : Writes gates device sector other = subst (λ (r : Run). Writes r device sector other) (sym b) two.2 in
    sym v.is ∙ w.is

-- nothing was written
pub returns-in_err-read_sectors-clause-left : goal.returns-in_err-read_sectors-clause-left
returns-in_err-read_sectors-clause-left g c = λ volume floor tree doubt tells left. subst (IsLeft volume floor tree doubt) (sym c.read_sectors.ensures.stays) left

pub returns-in_err-runs-clause-left : goal.returns-in_err-runs-clause-left
returns-in_err-runs-clause-left g c = λ volume floor tree doubt tells left. subst (IsLeft volume floor tree doubt) (sym c.read_sectors.ensures.stays) left

pub returns-in_err-write_through-clause-left : goal.returns-in_err-write_through-clause-left
returns-in_err-write_through-clause-left g c = λ volume floor tree doubt tells left.
    let x : Disks = g.R.Rack.state c.args.rack.now in
    let mid : Disks = g.R.Rack.state c.read_sectors.new.rack in
    let z : Disks = g.R.Rack.state c.write_through.new.rack in
    let runs = c.in_ok-runs.runs in
    let told = c.read_sectors.ensures.rack.keeps_telling tells in
    let there = subst (λ (y : Disks). IsLabelledBench y volume) (sym c.read_sectors.ensures.stays) left.labelled in
    let labelled = labelled_kept mid z volume runs there c.write_through.ensures.rack.sizes (c.write_through.ensures.members told) (behind_label c.read_sectors.new.into runs c.in_ok-runs.ensures) in
    still_left x z volume floor tree doubt c.read_sectors.new.into runs (omega arith) (c.in_ok-read_sectors.ensures.bytes tells) c.in_ok-runs.ensures
    (λ d s content only was. c.write_through.ensures.keeps (opening_state 1 1) d s content told only (subst (λ (y : Disks). IsSettled y (opening_state 1 1) d s content) (sym c.read_sectors.ensures.stays) was))
    labelled left

pub returns-clause-left : goal.returns-clause-left
returns-clause-left g c = λ volume floor tree doubt tells left.
    let x : Disks = g.R.Rack.state c.args.rack.now in
    let mid : Disks = g.R.Rack.state c.read_sectors.new.rack in
    let z : Disks = g.R.Rack.state c.write_through.new.rack in
    let runs = c.in_ok-runs.runs in
    let told = c.read_sectors.ensures.rack.keeps_telling tells in
    let there = subst (λ (y : Disks). IsLabelledBench y volume) (sym c.read_sectors.ensures.stays) left.labelled in
    let labelled = labelled_kept mid z volume runs there c.write_through.ensures.rack.sizes (c.write_through.ensures.members told) (behind_label c.read_sectors.new.into runs c.in_ok-runs.ensures) in
    still_left x z volume floor tree doubt c.read_sectors.new.into runs (omega arith) (c.in_ok-read_sectors.ensures.bytes tells) c.in_ok-runs.ensures
    (λ d s content only was. c.write_through.ensures.keeps (opening_state 1 1) d s content told only (subst (λ (y : Disks). IsSettled y (opening_state 1 1) d s content) (sym c.read_sectors.ensures.stays) was))
    labelled left

pub returns-clause-comes : goal.returns-clause-comes
returns-clause-comes g c = λ volume floor tree doubt tells left.
    let x : Disks = g.R.Rack.state c.args.rack.now in
    let mid : Disks = g.R.Rack.state c.read_sectors.new.rack in
    let z : Disks = g.R.Rack.state c.write_through.new.rack in
    let runs = c.in_ok-runs.runs in
    let told = c.read_sectors.ensures.rack.keeps_telling tells in
    let there = subst (λ (y : Disks). IsLabelledBench y volume) (sym c.read_sectors.ensures.stays) left.labelled in
    let labelled = labelled_kept mid z volume runs there c.write_through.ensures.rack.sizes (c.write_through.ensures.members told) (behind_label c.read_sectors.new.into runs c.in_ok-runs.ensures) in
    then_comes x z volume floor tree doubt c.read_sectors.new.into runs (omega arith) (c.in_ok-read_sectors.ensures.bytes tells) c.in_ok-runs.ensures
    (λ d s content only was. c.write_through.ensures.keeps (opening_state 1 1) d s content told only (subst (λ (y : Disks). IsSettled y (opening_state 1 1) d s content) (sym c.read_sectors.ensures.stays) was))
    labelled left (c.in_ok-write_through.ensures.done (opening_state 1 1) told refl)

pub returns-clause-settles : goal.returns-clause-settles
returns-clause-settles g c = λ state areas before logs truth more log tells many source slot device stands.
    let bytes = c.read_sectors.new.into in
    let x : Disks = g.R.Rack.state c.args.rack.now in
    let mid : Disks = g.R.Rack.state c.read_sectors.new.rack in
    let z : Disks = g.R.Rack.state c.write_through.new.rack in
    let told = c.read_sectors.ensures.rack.keeps_telling tells in
    let long : length bytes ≡ 4096 = omega arith in
    let run : Run = record { device = 0; place = 1; bytes = bytes } in
    let mine : run ≡ gates_run log bytes = λ i. record { device = sym device i; place = log_start (sym slot i); bytes = bytes } in
    let runs : c.in_ok-runs.runs ≡ gates_run log bytes ∷ [] = c.in_ok-runs.ensures ∙ ap (λ (r : Run). r ∷ []) mine in
    let write : Sent = one_write c.in_ok-runs.runs in
    let source_is : IsSourceIn state log.device false = subst (λ (d : ℕ). IsSourceIn state d false) (sym device) source in
    let reads : ReadsAs x.reads (member_disk log.device false) (log_start log.slot) bytes = subst (λ (d : ℕ). ReadsAs x.reads (member_disk d false) (log_start log.slot) bytes) (sym device)
    (subst (λ (n : ℕ). ReadsAs x.reads (member_disk 0 false) (log_start n) bytes) (sym slot) (c.in_ok-read_sectors.ensures.bytes tells)) in
    let all : (d s : ℕ) (content : List ℕ) → IsSettled x state d s content → IsSettled z state d s content =
    c.a_store_writes_gates_back.ensures.out x z state state log false bytes (write ∷ []) 0 source_is long reads
    (λ other there. ⊎_elim (λ (is : write ≡ other). inl (ap (λ (w : Sent). w.runs) (sym is) ∙ runs)) (λ none. absurd (nothing other none)) (front_or_behind write [] other there))
    (λ d s content only was. c.write_through.ensures.keeps state d s content told only (subst (λ (y : Disks). IsSettled y state d s content) (sym c.read_sectors.ensures.stays) was)) in
    let done = c.in_ok-write_through.ensures.done state told many in
    let now = with_gates before log bytes in
    let settled = c.a_store_writes_gates_back.ensures.done x z state state log bytes write before 0 long runs all done in
    let read = c.gates_are_read.ensures x state 1 areas state.sessions before logs truth more log false bytes stands source_is long reads in
    let found = c.gates_are_settled.ensures x z state state 1 areas state.sessions before now logs truth more log bytes stands read settled in
    (now, subst (λ (n : ℕ). Settles (IsSettled z state) 1 areas state.sessions now logs truth more n log.work) slot found)

-- the other slots and the replicas are left alone
pub returns-in_err-read_sectors-clause-spares : goal.returns-in_err-read_sectors-clause-spares
returns-in_err-read_sectors-clause-spares g c = λ tells. spares_same (g.R.Rack.state c.args.rack.now) (g.R.Rack.state c.read_sectors.new.rack) c.read_sectors.ensures.stays

pub returns-in_err-runs-clause-spares : goal.returns-in_err-runs-clause-spares
returns-in_err-runs-clause-spares g c = λ tells. spares_same (g.R.Rack.state c.args.rack.now) (g.R.Rack.state c.read_sectors.new.rack) c.read_sectors.ensures.stays

pub returns-in_err-write_through-clause-spares : goal.returns-in_err-write_through-clause-spares
returns-in_err-write_through-clause-spares g c = λ tells.
    let x : Disks = g.R.Rack.state c.args.rack.now in
    let mid : Disks = g.R.Rack.state c.read_sectors.new.rack in
    let z : Disks = g.R.Rack.state c.write_through.new.rack in
    let long : length c.read_sectors.new.into ≡ 4096 = omega arith in
    spares_then x mid z (spares_same x mid c.read_sectors.ensures.stays)
    (written_spares mid z c.in_ok-runs.runs (c.write_through.ensures.members (c.read_sectors.ensures.rack.keeps_telling tells)) (one_beside 1 c.read_sectors.new.into c.in_ok-runs.runs c.in_ok-runs.ensures (omega (arith, long))))

pub returns-clause-spares : goal.returns-clause-spares
returns-clause-spares g c = λ tells.
    let x : Disks = g.R.Rack.state c.args.rack.now in
    let mid : Disks = g.R.Rack.state c.read_sectors.new.rack in
    let z : Disks = g.R.Rack.state c.write_through.new.rack in
    let long : length c.read_sectors.new.into ≡ 4096 = omega arith in
    spares_then x mid z (spares_same x mid c.read_sectors.ensures.stays)
    (written_spares mid z c.in_ok-runs.runs (c.write_through.ensures.members (c.read_sectors.ensures.rack.keeps_telling tells)) (one_beside 1 c.read_sectors.new.into c.in_ok-runs.runs c.in_ok-runs.ensures (omega (arith, long))))
