-- A disk fails during an event of a member: it has learned the state, and all goes on fitting; what stands goes on.
use Rattle.std.proofs.Common.{◌≡◌, ◌≢◌, ℕ, ◌<◌, Bool, true, false, List, ◌++◌, Option, Some, None, refl, sym, ◌∙◌, ap, subst}
use Rattle.std.specs.Prelude.{slice_get, if◌then◌else◌}
use Rattle.bx_base.specs.declared.names.Actor.TheVariants.{Member}
use Rattle.bx_disk.specs.Disks.{Disks, Stays}
use Rattle.bx_facts.specs.Disks.{SameMemberLengths}
use Rattle.bx_facts.specs.Inputs.{IsComing as Arrives, IsSteady}
use Rattle.bx_facts.specs.Writes.{StorePast, member_disk, store_heard, store_with}
use Rattle.bx_facts.specs.declared.input.Input.{Input}
use Rattle.bx_facts.specs.declared.input.Input.TheVariants.{Packet, Tick, Synced}
use Rattle.bx_global.specs.declared.state.GlobalState.{GlobalState}
use Rattle.bx_post.specs.Posts.{letter_of}
use Rattle.bx_post.specs.declared.packets.Letter.{Letter}
use Rattle.bx_rows.specs.declared.device.DeviceRow.{DeviceRow}
use Rattle.bx_mirror_laws.specs.Steps.{PartlyTaken, PieceChanged}
use Rattle.bx_mirror_packets.specs.declared.message.CopyBody.{CopyBody}
use Rattle.bx_mirror_packets.specs.declared.message.WriteBody.{WriteBody}
use Rattle.bx_mirror_member.specs.Acting.{IsCopiedHere, IsTaken}
use Rattle.bx_mirror_member.specs.Standing.{MemberView as Serving, device_in, disk_in, is_news, is_second, learned, learned_row, with_row}
use Rattle.bx_mirror_client.specs.Sends.{member_at}
use Rattle.bx_mirror_server.specs.Sides.{letter_to, piece_from, side_of as side_by}
use Rattle.bx_mirror_cluster.specs.Fitting.{Keeps, Parts}
use Rattle.bx_mirror_cluster.specs.GoesFurther.{GoesFurther}
use Rattle.bx_mirror_cluster.specs.MemberSteps.{IsFor, IsPieceIn, IsWriteIn, MayServe, with_serving}
use Rattle.bx_mirror_cluster.proofs.MemberEvents.{only_learns, serving_again, serving_here, steady_with}
use Rattle.bx_mirror_cluster.proofs.MemberFaults.{cut_goes}
use Rattle.bx_mirror_cluster.proofs.MemberKeeps.{kept_goes}
use Rattle.bx_mirror_cluster.proofs.MemberMoves.{both_go}
use Rattle.bx_mirror_cluster.proofs.MemberOwn.{own_disk}
use Rattle.bx_mirror_cluster.proofs.MemberPieceCut.{piece_cut_goes}
use Rattle.bx_mirror_cluster.proofs.MemberPieces.{PieceComes}
use Rattle.bx_mirror_cluster.proofs.MemberTakes.{MayBeTaken}

-- it is the member that it was
number_kept : (m : Serving) (o : Option DeviceRow) → (learned_row m o).number ≡ m.number
number_kept m None = refl
number_kept m (Some row) = by (is_news m.row row)
  where
    by : (t : Bool) → (if t then with_row m row else m).number ≡ m.number
    by true = refl
    by false = refl

module _ (parts : Parts) (x y : Disks) (past : StorePast) (d : ℕ) (b : Bool) (within : d < parts.made.devices) (before : List Letter) (keeps : Keeps parts x (store_with past before)) (known : GlobalState)
    (serve : MayServe parts (store_with past before) (member_at d b) known) (input : Input) (arrives : Arrives (past.told.letters ++ before) input) (for_it : IsFor (Member (member_at d b)) input) (steady : IsSteady past.told.greatest input)
    (disks : (k s : ℕ) → k ≢ member_disk d b → Stays x y k s) (lengths : SameMemberLengths x y) where
  abbrev n : ℕ
  n = member_at d b

  abbrev m : Serving
  m = learned known (parts.members n)

  abbrev knowing_parts : Parts
  knowing_parts = with_serving parts n m

  abbrev past_then : StorePast
  past_then = store_with (store_heard past (Member n) known.index input None) before

  learns : GoesFurther parts knowing_parts x x (store_with past before) past_then
  learns = only_learns parts x y past d b within before before keeps known serve input arrives for_it steady disks lengths m None

  at : knowing_parts.members n ≡ m
  at = serving_here parts n m

  number : (knowing_parts.members n).number ≡ n
  number = ap (λ (q : Serving). q.number) at ∙ number_kept (parts.members n) (slice_get known.devices (device_in (parts.members n))) ∙ serve.itself

  disk : disk_in (knowing_parts.members n) ≡ member_disk d b
  disk = own_disk (knowing_parts.members n) d b number

  as_one : GoesFurther knowing_parts (with_serving knowing_parts n (knowing_parts.members n)) x y past_then past_then → GoesFurther parts knowing_parts x y (store_with past before) past_then
  as_one goes = both_go parts knowing_parts knowing_parts x x y (store_with past before) past_then past_then learns
      (subst (λ (p : Parts). GoesFurther knowing_parts p x y past_then past_then) (serving_again parts n m (knowing_parts.members n) ∙ ap (λ (q : Serving). with_serving parts n q) at) goes)

  pub faults_kept : ((s : ℕ) → y.reads (member_disk d b) s ≡ x.reads (member_disk d b) s) → ((s : ℕ) → x.unsure (member_disk d b) s ≡ false → y.unsure (member_disk d b) s ≡ false) → GoesFurther parts knowing_parts x y (store_with past before) past_then
  faults_kept reads sure = as_one (kept_goes knowing_parts x y past_then learns.keeps d b within serve.up number disks lengths
      (λ s. subst (λ (k : ℕ). y.reads k s ≡ x.reads k s) (sym disk) (reads s)) (λ s. subst (λ (k : ℕ). x.unsure k s ≡ false → y.unsure k s ≡ false) (sym disk) (sure s)))

  faults_on : (c : CopyBody) → PieceComes knowing_parts past_then d b c → ((by : Bool) → PieceChanged (is_second m) (piece_from by c) (side_by true m x) (side_by true m y)) → GoesFurther parts knowing_parts x y (store_with past before) past_then
  faults_on c comes cut = as_one (piece_cut_goes knowing_parts x y past_then learns.keeps d b within serve.up number disks lengths c comes
      (subst (λ (q : Serving). (by : Bool) → PieceChanged (is_second q) (piece_from by c) (side_by true q x) (side_by true q y)) (sym at) cut))

  faults_in : (from : _) (reading : ℕ) (w : WriteBody) → MayBeTaken knowing_parts past_then d b from reading w → PartlyTaken (device_in m) (letter_to m w) (side_by true m x) (side_by true m y) → GoesFurther parts knowing_parts x y (store_with past before) past_then
  faults_in from reading w comes cut = as_one (cut_goes knowing_parts x y past_then learns.keeps d b within serve.up number disks lengths from reading w comes
      (subst (λ (q : Serving). PartlyTaken (device_in q) (letter_to q w) (side_by true q x) (side_by true q y)) (sym at) cut))

pub faults_piece : (parts : Parts) (x y : Disks) (past : StorePast) (d : ℕ) (b : Bool) → d < parts.made.devices → (before : List Letter) → Keeps parts x (store_with past before) → (known : GlobalState) → MayServe parts (store_with past before) (member_at d b) known
    → (input : Input) → Arrives (past.told.letters ++ before) input → IsFor (Member (member_at d b)) input → IsSteady past.told.greatest input → ((k s : ℕ) → k ≢ member_disk d b → Stays x y k s) → SameMemberLengths x y
    → (c : CopyBody) → IsPieceIn input c → IsCopiedHere (learned known (parts.members (member_at d b))) c
    → ((by : Bool) → PieceChanged (is_second (learned known (parts.members (member_at d b)))) (piece_from by c) (side_by true (learned known (parts.members (member_at d b))) x) (side_by true (learned known (parts.members (member_at d b))) y))
    → GoesFurther parts (with_serving parts (member_at d b) (learned known (parts.members (member_at d b)))) x y (store_with past before) (store_with (store_heard past (Member (member_at d b)) known.index input None) before)
faults_piece parts x y past d b within before keeps known serve (Packet packet r) arrives for_it steady disks lengths c is_piece here cut =
    faults_on parts x y past d b within before keeps known serve (Packet packet r) arrives for_it steady disks lengths c
    (record { letter = letter_of packet.now; there = arrives; spells = is_piece; here = subst (λ (q : Serving). IsCopiedHere q c) (sym (serving_here parts (member_at d b) (learned known (parts.members (member_at d b))))) here })
    cut
faults_piece parts x y past d b within before keeps known serve (Tick r) arrives for_it steady disks lengths c is_piece here cut = absurd is_piece
faults_piece parts x y past d b within before keeps known serve Synced arrives for_it steady disks lengths c is_piece here cut = absurd is_piece

pub faults_cut : (parts : Parts) (x y : Disks) (past : StorePast) (d : ℕ) (b : Bool) → d < parts.made.devices → (before : List Letter) → Keeps parts x (store_with past before) → (known : GlobalState) → MayServe parts (store_with past before) (member_at d b) known
    → (input : Input) → Arrives (past.told.letters ++ before) input → IsFor (Member (member_at d b)) input → IsSteady past.told.greatest input → ((k s : ℕ) → k ≢ member_disk d b → Stays x y k s) → SameMemberLengths x y
    → (reading : ℕ) (w : WriteBody) → IsWriteIn input reading w → IsTaken (learned known (parts.members (member_at d b))) reading w
    → PartlyTaken (device_in (learned known (parts.members (member_at d b)))) (letter_to (learned known (parts.members (member_at d b))) w) (side_by true (learned known (parts.members (member_at d b))) x) (side_by true (learned known (parts.members (member_at d b))) y)
    → GoesFurther parts (with_serving parts (member_at d b) (learned known (parts.members (member_at d b)))) x y (store_with past before) (store_with (store_heard past (Member (member_at d b)) known.index input None) before)
faults_cut parts x y past d b within before keeps known serve (Packet packet r) arrives for_it steady disks lengths reading w is_write taken cut =
    faults_in parts x y past d b within before keeps known serve (Packet packet r) arrives for_it steady disks lengths packet.now.from r w
    (record {
      letter = letter_of packet.now;
      there = arrives;
      to = for_it;
      from_is = refl;
      spells = is_write.1;
      steady = steady_with past.told.greatest (Packet packet r) steady;
      taken = subst (λ (q : Serving). IsTaken q r w) (sym (serving_here parts (member_at d b) (learned known (parts.members (member_at d b))))) (subst (λ (k : ℕ). IsTaken (learned known (parts.members (member_at d b))) k w) (sym is_write.0) taken);
    })
    cut
faults_cut parts x y past d b within before keeps known serve (Tick r) arrives for_it steady disks lengths reading w is_write taken cut = absurd is_write
faults_cut parts x y past d b within before keeps known serve Synced arrives for_it steady disks lengths reading w is_write taken cut = absurd is_write
