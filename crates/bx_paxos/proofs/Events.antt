-- Each event keeps what fits.
use Rattle.std.proofs.Common.{◌≡◌, ℕ, ◌^◌, ◌<◌, ◌≤◌, ◌⊎◌, List, [], ◌∷◌, ◌++◌, Contains, Option, Some, None, IfSome, refl, sym, ap, subst, ◌∙◌, inl, inr, arith}
use Rattle.std.proofs.lemmas.Bool.Decides.{eqb_tells}
use Rattle.bx_answers.specs.Handling.{Handles, Promises, caught_up, promise_of, raised}
use Rattle.bx_answers.specs.Replies.{letters_of as answers_of}
use Rattle.bx_agreement.specs.Events.{HistoryStands, Turns}
use Rattle.bx_agreement.specs.History.{ComesNext, History}
use Rattle.bx_agreement.specs.Passing.{MayCome, MayPass, answered}
use Rattle.bx_agreement.specs.Round.{IsLater}
use Rattle.bx_agreement.proofs.Events.{later_answer}
use Rattle.bx_agreement.proofs.Places.{last_among}
use Rattle.bx_agreement.proofs.Rounds.{goes_on}
use Rattle.bx_base.specs.declared.names.Actor.{Actor}
use Rattle.bx_base.specs.declared.names.Actor.TheVariants.{Replica}
use Rattle.bx_calls.specs.Calls.{KeepsAll, KeepsSure}
use Rattle.bx_cell.specs.Cells.{HasEither, next}
use Rattle.bx_cell.specs.Halves.{Found}
use Rattle.bx_cell.specs.Images.{EachSure, HasAllSure}
use Rattle.bx_disk.specs.Disks.{Disks, Image}
use Rattle.bx_facts.specs.Chains.{AreLegal, Chain, GrowsBy, IsPlace, grown, last}
use Rattle.bx_facts.specs.Disks.{Crashes, SameLabels, SameLengths, SameReplicas}
use Rattle.bx_paxos.specs.Shown.{Shows}
use Rattle.bx_facts.specs.Inputs.{AreAmong, IsRegisters}
use Rattle.bx_facts.specs.Pasts.{RegisterPast}
use Rattle.bx_global.proofs.StaysAllowed.{stays_allowed}
use Rattle.bx_global.specs.Allowed.{IsAllowed, IsChange}
use Rattle.bx_global.specs.Bytes.{IsHeld, held_text}
use Rattle.bx_global.specs.Table.{effect}
use Rattle.bx_global.specs.declared.change.Change.{Change}
use Rattle.bx_global.specs.declared.held.Held.{Held}
use Rattle.bx_global.specs.declared.state.GlobalState.{GlobalState}
use Rattle.bx_packets.specs.Messages.{IsMessage, Spells, kind_of}
use Rattle.bx_packets.specs.declared.message.Message.{Message}
use Rattle.bx_packets.specs.declared.message.Message.TheVariants.{Ask, Decided, Prepare, Promise as Promising, Accept, Accepted, Refused}
use Rattle.bx_post.specs.declared.packets.Letter.{Letter}
use Rattle.bx_rows.specs.declared.ballot.Ballot.{Ballot}
use Rattle.bx_rounds.specs.Agreement.{Agrees, machine_of, round_of}
use Rattle.bx_proposer.specs.Letters.{letters_of}
use Rattle.bx_proposer.specs.Names.{number_of}
use Rattle.bx_rounds.specs.Courses.{IsCourse}
use Rattle.bx_rounds.specs.Steps.{Hears, Ticks}
use Rattle.bx_rounds.proofs.Agreeing.{heard, may_tell, ticks}
use Rattle.bx_rounds.proofs.Kept.{hears_kept, ticks_kept}
use Rattle.bx_rounds.proofs.Leading.{hears_on, ticks_on}
use Rattle.bx_rounds.specs.declared.course.Course.{Course}
use Rattle.bx_rounds.specs.declared.course.Move.{Move}
use Rattle.bx_rounds.specs.declared.course.Proposal.{Proposal}
use Rattle.bx_paxos.specs.Counted.{IsCounted, IsHeldSound}
use Rattle.bx_paxos.specs.Fits.{AllPass, Fits, RegisterGoes, IsPutOn, KnowsCell, Turned, Voters, devices_of, going, machines_of}
use Rattle.bx_paxos.proofs.Shown.{AreAsLong, as_long, shown_either, shown_elsewhere, shown_fewer, shown_then}
use Rattle.bx_paxos.proofs.Images.{at_moment, at_replica, counted_either, counted_of, crash_has, elsewhere, fewer, sound_with, synced_has, the_cell}
use Rattle.bx_paxos.proofs.Letters.{all_more, all_none, all_on, all_to, first_stays, longer_later, longer_on, places_on, sent_pass}

-- ---- what a past that fits tells

-- what the disks read as is one of the images
pub here : (v : Voters) (x : Disks) (past : RegisterPast) (f : Fits v x past) → IsHeldSound v.first v.origins f.history x.reads
here v x past f = f.images.each x.reads (record { sure = λ d s sure. refl })

stands : (v : Voters) (x : Disks) (past : RegisterPast) (f : Fits v x past) → HistoryStands f.history (here v x past f).cells (machines_of v.courses)
stands v x past f = record { sound = (here v x past f).sound; each = λ me. (f.proposing me).is }

pub is_place : (v : Voters) (x : Disks) (past : RegisterPast) (me : ℕ) → Fits v x past → IsPlace past.chain (v.courses me).known
is_place v x past me f = subst (λ (c : Chain). IsPlace c (v.courses me).known) f.chain (f.proposing me).is.place

pub is_legal : (v : Voters) (x : Disks) (past : RegisterPast) → Fits v x past → AreLegal past.chain.first past.chain.changes
is_legal v x past f = subst (λ (c : Chain). AreLegal c.first c.changes) f.chain (here v x past f).sound.legal

-- a letter that may be under way says what may pass
pub may_come : (v : Voters) (x : Disks) (past : RegisterPast) (f : Fits v x past) (letter : Letter) (message : Message) → Contains past.letters letter → Spells (devices_of v) message letter.kind letter.body → MayPass f.history letter.from message
may_come v x past f letter message has spells = (f.letters.each letter has).each message spells

-- what may pass may come to a replica
pub to_replica : (h : History) (from : Actor) (m : Message) → MayPass h from m → MayCome h m
to_replica h from Ask may = tt
to_replica h from (Decided s) may = may
to_replica h from (Prepare b s) may = may
to_replica h from (Promising p) may = tt
to_replica h from (Accept b s) may = may
to_replica h from (Accepted b i) may = tt
to_replica h from (Refused i b) may = tt

-- ---- letters, and disks

pub fewer_letters : (v : Voters) (x : Disks) (past : RegisterPast) (letters : List Letter) → Fits v x past → ((letter : Letter) → Contains letters letter → IsRegisters letter → Contains past.letters letter) → Fits v x (record past { letters = letters })
fewer_letters v x past letters f among = record {
  history = f.history;
  chain = f.chain;
  proposed = f.proposed;
  first = f.first;
  letters = record { each = λ letter has. record { each = λ m spells. may_come v x past f letter m (among letter has (registers (devices_of v) letter m spells)) spells } };
  images = f.images;
  was = f.was;
  begun = f.begun;
  shown = f.shown;
  proposing = f.proposing;
  courses = f.courses;
  boots = f.boots;
  numbers = f.numbers;
  allowed = f.allowed;
}
  where
    kinds : (m : Message) → (1 ≤ kind_of m) × (kind_of m ≤ 7)
    kinds Ask = (omega arith, omega arith)
    kinds (Decided s) = (omega arith, omega arith)
    kinds (Prepare b s) = (omega arith, omega arith)
    kinds (Promising p) = (omega arith, omega arith)
    kinds (Accept b s) = (omega arith, omega arith)
    kinds (Accepted b i) = (omega arith, omega arith)
    kinds (Refused i b) = (omega arith, omega arith)

    registers : (devices : ℕ) (letter : Letter) (m : Message) → Spells devices m letter.kind letter.body → IsRegisters letter
    registers devices letter m spells = let k = kinds m in record { least = subst (λ (n : ℕ). 1 ≤ n) (sym spells.kind_is) k.0; most = subst (λ (n : ℕ). n ≤ 7) (sym spells.kind_is) k.1 }

pub loses : (v : Voters) (x : Disks) (past : RegisterPast) (letters : List Letter) → Fits v x past → AreAmong IsRegisters letters past.letters → Fits v x (record past { letters = letters })
loses v x past letters f among = fewer_letters v x past letters f (λ letter has own. among.each letter own has)

-- other images, by all that is sure
pub with_images : (v : Voters) (x y : Disks) (past : RegisterPast) (f : Fits v x past) → EachSure y (IsHeldSound v.first v.origins f.history) → EachSure y (Shows v.first v.origins f.was y.sizes) → Fits v y past
with_images v x y past f images shown = record {
  history = f.history;
  chain = f.chain;
  proposed = f.proposed;
  first = f.first;
  letters = f.letters;
  images = images;
  was = f.was;
  begun = f.begun;
  shown = shown;
  proposing = f.proposing;
  courses = f.courses;
  boots = f.boots;
  numbers = f.numbers;
  allowed = f.allowed;
}

-- what has all that is sure has all that was sure before
fewer_images : (v : Voters) (x y : Disks) (past : RegisterPast) → Fits v x past → AreAsLong x.sizes y.sizes → ((image : Image) → HasAllSure y image → HasAllSure x image) → Fits v y past
fewer_images v x y past f lengths implies = with_images v x y past f (fewer v.first v.origins f.history x y implies f.images) (shown_fewer v f.was x y lengths implies f.shown)

pub other_disks : (v : Voters) (x y : Disks) (past : RegisterPast) → Fits v x past → SameLengths x y → SameReplicas x y → SameLabels x y → Fits v y past
other_disks v x y past f lengths same labels = with_images v x y past f (elsewhere v.first v.origins f.history x y same f.images) (shown_elsewhere v f.was x y lengths same labels f.shown)

pub survives : (v : Voters) (x y : Disks) (past : RegisterPast) (n : ℕ) → Fits v x past → SameLengths x y → Crashes n x y → Fits v y past
survives v x y past n f lengths crash = fewer_images v x y past f lengths.each (crash_has v.first v.origins x y n crash)

pub syncs : (v : Voters) (x y : Disks) (past : RegisterPast) (n : ℕ) → Fits v x past → KeepsAll x y n → Fits v y past
syncs v x y past n f keeps = fewer_images v x y past f (as_long x.sizes y.sizes keeps.sizes) (synced_has v.first v.origins x y n keeps)

-- ---- a packet at a replica

-- what its answer says may be under way once that is in the history
module _ (h : History) (n : ℕ) (held now : Held) (place : IsPlace h.chain held.decided) (answer : Option Message) where
  says : (a : Option Message) → answer ≡ a → IfSome a (λ m. MayPass (answered n a h) (Replica n) m) → IfSome answer (λ m. MayPass (answered n answer h) (Replica n) m)
  says a e may = subst (λ (x : Option Message). IfSome x (λ m. MayPass (answered n x h) (Replica n) m)) (sym e) may

  promise_passes : (mid : Held) (b : Ballot) → Promises mid b now answer → IfSome answer (λ m. MayPass (answered n answer h) (Replica n) m)
  promise_passes mid b (inl (above, e, is)) = says (Some (Promising (promise_of (raised b mid)))) is (record { is = inl refl })
  promise_passes mid b (inr (below, e, is)) = says (Some (Refused mid.index mid.promise)) is tt

  pub answer_passes : (m : Message) → Handles held m now answer → IfSome answer (λ says. MayPass (answered n answer h) (Replica n) says)
  answer_passes Ask does = says (Some (Decided held.decided)) does.1 place
  answer_passes (Decided s) does = says None does.1 tt
  answer_passes (Prepare b s) (inl (older, e, is)) = says (Some (Decided held.decided)) is place
  answer_passes (Prepare b s) (inr (inl (newer, does))) = promise_passes (caught_up s held) b does
  answer_passes (Prepare b s) (inr (inr (equal, does))) = promise_passes held b does
  answer_passes (Promising p) does = says None does.1 tt
  answer_passes (Accept b s) (inl (later, e, is)) = says None is tt
  answer_passes (Accept b s) (inr (inl (earlier, e, is))) = says (Some (Decided held.decided)) is place
  answer_passes (Accept b s) (inr (inr (inl (equal, below, e, is)))) = says (Some (Refused held.index held.promise)) is tt
  answer_passes (Accept b s) (inr (inr (inr (equal, least, e, is)))) = says (Some (Accepted b held.index)) is (record { is = inl (refl, refl) })
  answer_passes (Accepted b i) does = says None does.1 tt
  answer_passes (Refused i b) does = says None does.1 tt

-- its answer is a message that meets the conditions
module _ (devices : ℕ) (held now : Held) (is_held : IsHeld devices held) (is_now : IsHeld devices now) (answer : Option Message) where
  told : (a : Option Message) → answer ≡ a → IfSome a (IsMessage devices) → IfSome answer (IsMessage devices)
  told a e is = subst (λ (x : Option Message). IfSome x (IsMessage devices)) (sym e) is

  decided_is : IsMessage devices (Decided held.decided)
  decided_is = record { is = is_held.decided; devices_are = is_held.decided_devices }

  promise_is : (mid : Held) (b : Ballot) → Promises mid b now answer → IfSome answer (IsMessage devices)
  promise_is mid b (inl (above, e, is)) =
      let raised_is : IsHeld devices (raised b mid) = subst (IsHeld devices) e is_now in
      told (Some (Promising (promise_of (raised b mid)))) is (record { ballot = raised_is.promise; index = raised_is.index; flag = raised_is.flag; accepted = raised_is.ballot; state = record { is = raised_is.accepted; devices_are = raised_is.accepted_devices } })
  promise_is mid b (inr (below, e, is)) =
      let mid_is : IsHeld devices mid = subst (IsHeld devices) e is_now in
      told (Some (Refused mid.index mid.promise)) is (mid_is.index, mid_is.promise)

  pub answer_is : (m : Message) → IsMessage devices m → Handles held m now answer → IfSome answer (IsMessage devices)
  answer_is Ask is does = told (Some (Decided held.decided)) does.1 decided_is
  answer_is (Decided s) is does = told None does.1 tt
  answer_is (Prepare b s) is (inl (older, e, says_so)) = told (Some (Decided held.decided)) says_so decided_is
  answer_is (Prepare b s) is (inr (inl (newer, does))) = promise_is (caught_up s held) b does
  answer_is (Prepare b s) is (inr (inr (equal, does))) = promise_is held b does
  answer_is (Promising p) is does = told None does.1 tt
  answer_is (Accept b s) is (inl (later, e, says_so)) = told None says_so tt
  answer_is (Accept b s) is (inr (inl (earlier, e, says_so))) = told (Some (Decided held.decided)) says_so decided_is
  answer_is (Accept b s) is (inr (inr (inl (equal, below, e, says_so)))) = told (Some (Refused held.index held.promise)) says_so (is_held.index, is_held.promise)
  answer_is (Accept b s) is (inr (inr (inr (equal, least, e, says_so)))) = told (Some (Accepted b held.index)) says_so (is.0, is_held.index)
  answer_is (Accepted b i) is does = told None does.1 tt
  answer_is (Refused i b) is does = told None does.1 tt

-- an answer leaves the chain and the changes
answered_chain : (n : ℕ) (answer : Option Message) (h : History) → ((answered n answer h).chain ≡ h.chain) × ((answered n answer h).proposed ≡ h.proposed)
answered_chain n None h = (refl, refl)
answered_chain n (Some Ask) h = (refl, refl)
answered_chain n (Some (Decided s)) h = (refl, refl)
answered_chain n (Some (Prepare b s)) h = (refl, refl)
answered_chain n (Some (Promising p)) h = (refl, refl)
answered_chain n (Some (Accept b s)) h = (refl, refl)
answered_chain n (Some (Accepted b i)) h = (refl, refl)
answered_chain n (Some (Refused i b)) h = (refl, refl)

answer_letters : (devices : ℕ) (h : History) (n : ℕ) (to : Actor) (answer : Option Message) → IfSome answer (IsMessage devices) → IfSome answer (λ says. MayPass h (Replica n) says) → AllPass devices h (answers_of n to answer)
answer_letters devices h n to None is may = all_none devices h
answer_letters devices h n to (Some m) is may = all_to devices h (Replica n) m (to ∷ []) is may

pub counted : (v : Voters) (x : Disks) (n : ℕ) (held : Held) (found : Found) → KnowsCell v x n held found → (image : Image) → HasAllSure x image → IsCounted v.first (v.origins n) (image n) held
counted v x n held found knows image has = counted_of v.first (v.origins n) (image n) found held knows.content (knows.each.each image has)

-- what a replica holds that has a cell is a place
pub holds_place : (v : Voters) (x : Disks) (past : RegisterPast) (n : ℕ) (held : Held) (found : Found) (f : Fits v x past) → n < 3 → KnowsCell v x n held found → IsPlace f.history.chain held.decided
holds_place v x past n held found f three knows =
    let was = here v x past f in
    let at = the_cell v.first v.origins x.reads n held was.cells three was.are (counted v x n held found knows x.reads (record { sure = λ d s sure. refl })) in
    (was.sound.cell n held at).place

-- A replica took a packet that may be under way, and has answered it.
pub answers : (v : Voters) (x y : Disks) (past : RegisterPast) (n : ℕ) (held now : Held) (found after : Found) (letter : Letter) (message : Message) (answer : Option Message) → Fits v x past → n < 3
    → KnowsCell v x n held found → KnowsCell v y n now after → IsPutOn found after → KeepsSure x y n 1 20 → Contains past.letters letter → Spells (devices_of v) message letter.kind letter.body → Handles held message now answer
    → Fits v y (record past { letters = past.letters ++ answers_of n letter.from answer })
answers v x y past n held now found after letter message answer f three knows knows_now put keeps has spells does = record {
  history = new;
  chain = same.0 ∙ f.chain;
  proposed = same.1 ∙ f.proposed;
  first = ap (λ (c : Chain). c.first) same.0 ∙ f.first;
  letters = all_more (devices_of v) new past.letters (answers_of n letter.from answer) (all_on (devices_of v) f.history new past.letters (longer_later f.history new later) f.letters)
      (answer_letters (devices_of v) new n letter.from answer (answer_is (devices_of v) held now knows.is knows_now.is answer message spells.is does)
      (answer_passes f.history n held now (holds_place v x past n held found f three knows) answer message does));
  images = at_replica v.first v.origins f.history x y n held now message answer three keeps f.images (counted v x n held found knows) (counted v y n now after knows_now)
      (to_replica f.history letter.from message (may_come v x past f letter message has spells)) does;
  was = f.was;
  begun = f.begun;
  shown = shown_then v f.was x y n held now found after f.shown keeps knows knows_now put;
  proposing = λ me. let is = f.proposing me in record {
    is = goes_on f.history new me (v.courses me).boot (v.courses me).seen (v.courses me).known (round_of (v.courses me).out) is.is later;
    own = own_later (v.courses me).out is.own;
  };
  courses = f.courses;
  boots = f.boots;
  numbers = f.numbers;
  allowed = f.allowed;
}
  where
    new : History
    new = answered n answer f.history

    later : IsLater f.history new
    later = later_answer f.history n answer

    same : (new.chain ≡ f.history.chain) × (new.proposed ≡ f.history.proposed)
    same = answered_chain n answer f.history

    own_later : (out : Option Proposal) → IfSome out (λ p. ComesNext f.history.chain f.history.proposed p.own) → IfSome out (λ p. ComesNext new.chain new.proposed p.own)
    own_later None own = tt
    own_later (Some p) k = (k.0, k.1, record { stands = later.places k.0 k.2.stands; is_handed = later.proposed k.1 k.2.is_handed; legal = k.2.legal; is = k.2.is })

-- Between the calls of its put, and after a fault, what images hold is sound by what was sent before.
pub moment : (v : Voters) (x : Disks) (past : RegisterPast) (n : ℕ) (held now : Held) (found : Found) (letter : Letter) (message : Message) (image : Image) (f : Fits v x past) → n < 3 → KnowsCell v x n held found → IsHeld (devices_of v) now
    → Contains past.letters letter → Spells (devices_of v) message letter.kind letter.body → (now ≡ held) ⊎ ((answer : Option Message) × Handles held message now answer)
    → HasEither x n 1 found (next found (held_text now)) image → IsHeldSound v.first v.origins f.history image
moment v x past n held now found letter message image f three knows is_now has spells does either =
    at_moment v.first v.origins f.history x n held now message image three f.images either.outside (counted v x n held found knows) (counted_either v.first v.origins x n found held now image knows.content is_now either)
    (to_replica f.history letter.from message (may_come v x past f letter message has spells)) does

pub faults : (v : Voters) (x y : Disks) (past : RegisterPast) (n : ℕ) (held now : Held) (found : Found) (letter : Letter) (message : Message) → Fits v x past → n < 3 → KnowsCell v x n held found → IsHeld (devices_of v) now
    → Contains past.letters letter → Spells (devices_of v) message letter.kind letter.body → (now ≡ held) ⊎ ((answer : Option Message) × Handles held message now answer)
    → SameLengths x y → EachSure y (HasEither x n 1 found (next found (held_text now))) → Fits v y past
faults v x y past n held now found letter message f three knows is_now has spells does lengths either =
    with_images v x y past f (record { each = λ image sure. moment v x past n held now found letter message image f three knows is_now has spells does (either.each image sure) })
    (record { each = λ image sure. shown_either v f.was x y.sizes n held now found image lengths.each f.shown knows is_now (either.each image sure) })

-- ---- a step of a proposer

-- where each state of a chain meets the conditions, each of the one that it grows to does
allowed_on : (changes : List Change) (old new : Chain) → GrowsBy changes old new → ((change : Change) → Contains changes change → IsChange change) → ((s : GlobalState) → IsPlace old s → IsAllowed s)
    → (s : GlobalState) → IsPlace new s → IsAllowed s
allowed_on changes old new (inl same) numbers allowed s place = allowed s (subst (λ (c : Chain). IsPlace c s) same place)
allowed_on changes old new (inr (change, has, legal, is)) numbers allowed s place = by (subst (λ (c : Chain). IsPlace c s) is place)
  where
    by : IsPlace (grown old change) s → IsAllowed s
    by (inl made) = subst IsAllowed (sym made) (stays_allowed (last old) change (allowed (last old) (last_among old.first old.changes)) (numbers change has) legal)
    by (inr before) = allowed s before

-- an event of voting: all else stays
pub goes : (v : Voters) (x : Disks) (past : RegisterPast) (f : Fits v x past) (me : ℕ) (course : Course) (courses : ℕ → Course) (sent : List Letter) → Turned me course v.courses courses
    → (a : Agrees f.history (here v x past f).cells (machines_of courses) me course) → IsCourse (devices_of v) course → course.boot ≡ (v.courses me).boot → AllPass (devices_of v) a.history sent → RegisterGoes (going v courses) x past course.known sent
goes v x past f me course courses sent turned a is boot pass = record {
  chain = a.history.chain;
  grows = grew;
  told = subst (λ (c : Chain). (a.history.chain ≡ c) ⊎ (course.known ≡ last a.history.chain)) f.chain a.told;
  fits = record {
    history = a.history;
    chain = refl;
    proposed = a.goes_on.proposed ∙ f.proposed;
    first = first_stays f.history.proposed f.history.chain a.history.chain a.goes_on.grows ∙ f.first;
    letters = all_more (devices_of v) a.history past.letters sent (all_on (devices_of v) f.history a.history past.letters (longer_on f.history a.history a.goes_on) f.letters) pass;
    images = record {
      each = λ image has. let was = f.images.each image has in record {
        cells = was.cells;
        are = was.are;
        sound = sound_with f.history a.history was.cells (here v x past f).cells a.goes_on (places_on f.history.proposed f.history.chain a.history.chain a.goes_on.grows) was.sound a.stands.sound;
      };
    };
    was = f.was;
    begun = f.begun;
    shown = f.shown;
    proposing = λ m. record {
      is = a.stands.each m;
      own = elim (eqb_tells m me) [
        | inl same ↦ subst (λ (k : ℕ). IfSome (courses k).out (λ p. ComesNext a.history.chain a.history.proposed p.own)) (sym same.1) (subst (λ (c : Course). IfSome c.out (λ p. ComesNext a.history.chain a.history.proposed p.own)) (sym turned.at) a.proposing.own)
        | inr apart ↦ subst (λ (c : Course). IfSome c.out (λ p. ComesNext a.history.chain a.history.proposed p.own)) (sym (turned.others m apart.1)) (own_on (v.courses m).out (f.proposing m).own)
      ];
    };
    courses = λ m. elim (eqb_tells m me) [
      | inl same ↦ subst (λ (k : ℕ). IsCourse (devices_of v) (courses k)) (sym same.1) (subst (IsCourse (devices_of v)) (sym turned.at) is)
      | inr apart ↦ subst (IsCourse (devices_of v)) (sym (turned.others m apart.1)) (f.courses m)
    ];
    boots = λ who there. subst (λ (k : ℕ). k ≤ past.boots who) (sym (boot_of (number_of who))) (f.boots who there);
    numbers = f.numbers;
    allowed = allowed_on past.proposed past.chain a.history.chain grew f.numbers f.allowed;
  };
}
  where
    grew : GrowsBy past.proposed past.chain a.history.chain
    grew = subst (λ (c : Chain). GrowsBy past.proposed c a.history.chain) f.chain (subst (λ (cs : List Change). GrowsBy cs f.history.chain a.history.chain) f.proposed a.goes_on.grows)

    boot_of : (m : ℕ) → (courses m).boot ≡ (v.courses m).boot
    boot_of m = elim (eqb_tells m me) [
      | inl same ↦ subst (λ (k : ℕ). (courses k).boot ≡ (v.courses k).boot) (sym same.1) (ap (λ (c : Course). c.boot) turned.at ∙ boot)
      | inr apart ↦ ap (λ (c : Course). c.boot) (turned.others m apart.1)
    ]

    next_on : (s : GlobalState) → ComesNext f.history.chain f.history.proposed s → ComesNext a.history.chain a.history.proposed s
    next_on s k = (
      k.0,
      k.1,
      record {
        stands = places_on f.history.proposed f.history.chain a.history.chain a.goes_on.grows k.0 k.2.stands;
        is_handed = subst (λ (cs : List Change). Contains cs k.1) (sym a.goes_on.proposed) k.2.is_handed;
        legal = k.2.legal;
        is = k.2.is;
      },
    )

    own_on : (out : Option Proposal) → IfSome out (λ p. ComesNext f.history.chain f.history.proposed p.own) → IfSome out (λ p. ComesNext a.history.chain a.history.proposed p.own)
    own_on None own = tt
    own_on (Some p) own = next_on p.own own

turns_of : (me : ℕ) (course : Course) (old new : ℕ → Course) → Turned me course old new → Turns me (machine_of course) (machines_of old) (machines_of new)
turns_of me course old new turned = record { at = ap machine_of turned.at; others = λ m apart. ap machine_of (turned.others m apart) }

-- a packet comes to it
pub hears : (v : Voters) (x : Disks) (past : RegisterPast) (at : Actor) (others : List Actor) (letter : Letter) (message : Message) (course : Course) (courses : ℕ → Course) (move : Move) → Fits v x past → number_of at < 2 ^ 32
    → Contains past.letters letter → Spells (devices_of v) message letter.kind letter.body → Hears (number_of at) (v.courses (number_of at)) letter.from message course move → Turned (number_of at) course v.courses courses
    → RegisterGoes (going v courses) x past course.known (letters_of at others course move)
hears v x past at others letter message course courses move f fits has spells does turned =
    let me : ℕ = number_of at in
    let a = heard f.history (here v x past f).cells (machines_of v.courses) (machines_of courses) me (stands v x past f) course (turns_of me course v.courses courses turned) (v.courses me) letter.from message move
    (f.proposing me) (may_come v x past f letter message has spells) does in
    let is = hears_kept (devices_of v) me (v.courses me) course letter.from message move fits (f.courses me) spells.is does in
    let on = hears_on (devices_of v) me (v.courses me) course letter.from message move (f.courses me) does in
    goes v x past f me course courses (letters_of at others course move) turned a is on.boot (sent_pass (devices_of v) a.history at others course move (may_tell a.history me course a.proposing) is)

-- the clock ticks
pub ticks_at : (v : Voters) (x : Disks) (past : RegisterPast) (at : Actor) (others : List Actor) (course : Course) (courses : ℕ → Course) (move : Move) → Fits v x past → number_of at < 2 ^ 32
    → Ticks (number_of at) (v.courses (number_of at)) course move → Turned (number_of at) course v.courses courses → RegisterGoes (going v courses) x past course.known (letters_of at others course move)
ticks_at v x past at others course courses move f fits does turned =
    let me : ℕ = number_of at in
    let a = ticks f.history (here v x past f).cells (machines_of v.courses) (machines_of courses) me (stands v x past f) course (turns_of me course v.courses courses turned) (v.courses me) move (f.proposing me) does in
    let is = ticks_kept (devices_of v) me (v.courses me) course move fits (f.courses me) does in
    let on = ticks_on me (v.courses me) course move does in
    goes v x past f me course courses (letters_of at others course move) turned a is on.boot (sent_pass (devices_of v) a.history at others course move (may_tell a.history me course a.proposing) is)
