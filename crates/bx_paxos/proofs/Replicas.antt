-- What comes to the machine of a replica: its acceptor takes it, its proposer is told what that knows, and takes it too.
use Rattle.std.proofs.Common.{◌≡◌, ℕ, ◌^◌, ◌<◌, ◌≤◌, ◌⊎◌, ◌==◌, Bool, true, false, List, [], ◌++◌, length, Contains, Option, Some, None, IfSome, IsSomeAnd, if◌then◌else◌, refl, sym, ap, subst, ◌∙◌, append_assoc, append-nil, inl, inr, arith}
use Rattle.std.proofs.lemmas.Bool.Decides.{eqb_tells}
use Rattle.std.proofs.lemmas.List.Elements.{Contains-append_left}
use Rattle.bx_answers.specs.Handling.{Handles}
use Rattle.bx_acceptor.specs.Standing.{BecomesBy, HasCell, HasContent, IsCellOf, IsAcceptorView, IsTaken, AcceptorView as Acceptor, Takes as TakesMessage, TakesIn, cell_with}
use Rattle.bx_answers.specs.Replies.{letters_of as answers_of}
use Rattle.bx_acceptor.specs.Starting.{StartsWith}
use Rattle.bx_acceptor.specs.declared.origin.Origin.{Origin}
use Rattle.bx_agreement.specs.Passing.{MayCome}
use Rattle.bx_base.specs.declared.names.Actor.{Actor}
use Rattle.bx_base.specs.declared.names.Actor.TheVariants.{Replica}
use Rattle.bx_calls.specs.Calls.{KeepsAll, KeepsSure, LeavesOnly}
use Rattle.bx_calls.specs.Laws.{leaves_implies}
use Rattle.bx_cell.specs.Cells.{HasEither, Holds, Known, next, with_value}
use Rattle.bx_cell.specs.Halves.{cell_in}
use Rattle.bx_cell.specs.Images.{EachSure}
use Rattle.bx_disk.specs.Disks.{Disks, Image, IsImage}
use Rattle.bx_facts.specs.Chains.{Chain, IsPlace}
use Rattle.bx_facts.proofs.Machines.{is_one}
use Rattle.bx_facts.specs.Inputs.{IsComing}
use Rattle.bx_facts.specs.Machines.{is_same}
use Rattle.bx_facts.specs.Pasts.{Decides, RegisterPast, proposing, register_failed, register_restarted, register_with}
use Rattle.bx_facts.specs.declared.input.Input.{Input}
use Rattle.bx_facts.specs.declared.input.Input.TheVariants.{Packet, Tick, Synced}
use Rattle.bx_global.specs.Allowed.{IsChange}
use Rattle.bx_global.specs.Table.{IsLegal}
use Rattle.bx_global.specs.Bytes.{IsHeld, held_text}
use Rattle.bx_global.specs.declared.change.Change.{Change}
use Rattle.bx_global.specs.declared.held.Held.{Held}
use Rattle.bx_global.specs.declared.state.GlobalState.{GlobalState}
use Rattle.bx_packets.specs.Messages.{IsStateOf, Spells}
use Rattle.bx_packets.specs.declared.message.Message.{Message}
use Rattle.bx_packets.specs.declared.message.Message.TheVariants.{Ask}
use Rattle.bx_post.specs.Posts.{letter_of}
use Rattle.bx_post.specs.declared.packets.Letter.{Letter}
use Rattle.bx_rounds.specs.Agreement.{IsProposing}
use Rattle.bx_proposer.specs.Letters.{asks_at, asks_of, letters_of}
use Rattle.bx_proposer.specs.Names.{number_of}
use Rattle.bx_rounds.specs.Courses.{IsCourse, PacketStep, Steps, started}
use Rattle.bx_proposer.specs.Standing.{ProposesTo, ProposerView as Proposer, Takes, going_on}
use Rattle.bx_rounds.specs.Steps.{Hears, Learns, Proposes, Ticks, reading_now}
use Rattle.bx_rounds.specs.declared.course.Course.{Course}
use Rattle.bx_rounds.specs.declared.course.Move.{Move}
use Rattle.bx_rounds.specs.declared.course.Move.TheVariants.{Nothing}
use Rattle.bx_paxos.specs.Counted.{IsCounted, IsHeldSound}
use Rattle.bx_paxos.specs.Fits.{AllPass, Fits, RegisterGoes, IsPutOn, KnowsCell, Turned, Voters, devices_of, going}
use Rattle.bx_paxos.specs.Reading.{ReadsNext}
use Rattle.bx_paxos.specs.Shown.{Shows}
use Rattle.bx_paxos.specs.Machines.{AreHalves, AreOf}
use Rattle.bx_paxos.proofs.Events.{answers, counted, hears, holds_place, may_come, ticks_at, syncs, to_replica, with_images}
use Rattle.bx_paxos.proofs.Images.{at_moment, counted_either}
use Rattle.bx_paxos.proofs.Reading.{next_read, reads}
use Rattle.bx_paxos.proofs.Shown.{AreAsLong, as_long, shown_either}
use Rattle.bx_paxos.proofs.Letters.{all_more, asks_pass}
use Rattle.bx_paxos.proofs.Starts.{boots_stay, first_place, proposed, restarted, told, turned_each}

-- ---- small things

-- one machine's course among all
turn : (me : ℕ) → Course → (ℕ → Course) → ℕ → Course
turn me course courses m = if m == me then course else courses m

turned_so : (me : ℕ) (course : Course) (courses : ℕ → Course) → Turned me course courses (turn me course courses)
unfolding turn
turned_so me course courses = record {
  at = elim (eqb_tells me me) [ inl same ↦ rw same.0 refl | inr apart ↦ absurd (apart.1 refl) ];
  others = λ m differ. elim (eqb_tells m me) [ inl same ↦ absurd (differ same.1) | inr apart ↦ rw apart.0 refl ];
}

turned_twice : (me : ℕ) (one other : Course) (old new : ℕ → Course) → Turned me other old new → Turned me other (turn me one old) new
turned_twice me one other old new turned = record { at = turned.at; others = λ m differ. turned.others m differ ∙ sym ((turned_so me one old).others m differ) }

-- the same past with the same letters
letters_as : (v : Voters) (x : Disks) (past : RegisterPast) (one other : List Letter) → one ≡ other → Fits v x (record past { letters = one }) → Fits v x (record past { letters = other })
letters_as v x past one other same f = subst (λ (l : List Letter). Fits v x (record past { letters = l })) same f

-- more letters that may be under way
more_letters : (v : Voters) (x : Disks) (past : RegisterPast) (sent : List Letter) (f : Fits v x past) → AllPass (devices_of v) f.history sent → Fits v x (record past { letters = past.letters ++ sent })
more_letters v x past sent f pass = record {
  history = f.history;
  chain = f.chain;
  proposed = f.proposed;
  first = f.first;
  letters = all_more (devices_of v) f.history past.letters sent f.letters pass;
  images = f.images;
  was = f.was;
  begun = f.begun;
  shown = f.shown;
  proposing = f.proposing;
  courses = f.courses;
  boots = f.boots;
  numbers = f.numbers;
  allowed = f.allowed;
}

-- a proposer reads its clock
reads_clock : (v : Voters) (x : Disks) (past : RegisterPast) (me reading : ℕ) (courses : ℕ → Course) → Fits v x past → Turned me (reading_now reading (v.courses me)) v.courses courses → Fits (going v courses) x past
reads_clock v x past me reading courses f turned = record {
  history = f.history;
  chain = f.chain;
  proposed = f.proposed;
  first = f.first;
  letters = f.letters;
  images = f.images;
  was = f.was;
  begun = f.begun;
  shown = f.shown;
  proposing = turned_each (λ c m. IsProposing f.history m c) me (reading_now reading (v.courses me)) v.courses courses turned (record { is = (f.proposing me).is; own = (f.proposing me).own }) f.proposing;
  courses = turned_each (λ c m. IsCourse (devices_of v) c) me (reading_now reading (v.courses me)) v.courses courses turned (record { known = (f.courses me).known; boot = (f.courses me).boot; out = (f.courses me).out }) f.courses;
  boots = boots_stay v x past f me (reading_now reading (v.courses me)) courses turned refl;
  numbers = f.numbers;
  allowed = f.allowed;
}

-- ---- the acceptor's half

knows_of : (v : Voters) (x : Disks) (a : Acceptor) (c : Known) → v.first ≡ a.first → v.origins a.replica ≡ a.origin → IsAcceptorView a → a.cell ≡ Some c → EachSure x (HasCell a) → KnowsCell v x a.replica a.held c.found
knows_of v x a c first origin is at has = record {
  content = subst (λ (o : Origin). HasContent o v.first a.held c.found) (sym origin) (subst (λ (s : GlobalState). HasContent a.origin s a.held c.found) (sym first) cell.content);
  each = record { each = λ image sure. by image ((has.each image sure)) };
  is = subst (λ (s : GlobalState). IsHeld (length s.devices) a.held) (sym first) is.held;
}
  where
    cell : IsCellOf a.replica a.first a.origin a.held c
    cell = subst (λ (o : Option Known). IfSome o (IsCellOf a.replica a.first a.origin a.held)) at is.cell

    by : (image : Image) → HasCell a image → cell_in (image a.replica) 1 ≡ Some c.found
    by image holds =
        let here : Holds c image = subst (λ (o : Option Known). IfSome o (λ k. Holds k image)) at holds in
        subst (λ (d : ℕ). cell_in (image d) 1 ≡ Some c.found) cell.disk (subst (λ (b : ℕ). cell_in (image c.disk) b ≡ Some c.found) cell.base here)

-- its cell, where it takes a message
cell_of : (a : Acceptor) (m : Message) → TakesMessage a m → (c : Known) × (a.cell ≡ Some c)
cell_of a m takes = by a.cell refl takes
  where
    by : (o : Option Known) → a.cell ≡ o → IsSomeAnd o (λ c. IsTaken c.found.number m) → (c : Known) × (a.cell ≡ Some c)
    by None e t = absurd t
    by (Some c) e t = (c, e)

-- it has taken what came, and what it knows is a place
pub acceptor_takes : (v : Voters) (x y : Disks) (past : RegisterPast) (a b : Acceptor) (input : Input) (out after : List Letter) (Same : Type 0) → v.first ≡ a.first → v.origins a.replica ≡ a.origin → a.replica < 3 → IsAcceptorView a → IsAcceptorView b
    → b.replica ≡ a.replica → b.first ≡ a.first → b.origin ≡ a.origin → (Same → y ≡ x) → KeepsSure x y a.replica 1 20 → EachSure x (HasCell a) → EachSure y (HasCell b)
    → IfSome a.cell (λ cell. (b.cell ≡ Some (with_value cell (held_text b.held))) ⊎ ((b ≡ a) × Same)) → IsComing (past.letters ++ out) input → IsPlace past.chain a.held.decided
    → TakesIn a input b out after Same → Fits v x (register_with past out) → Fits v y (register_with past after) × IsPlace past.chain b.held.decided
acceptor_takes v x y past a b input out after Same first origin low is_a is_b replica firsts origins back keeps has has_b stored comes place (inl (same, sent, rest)) f = (
  subst (λ (d : Disks). Fits v d (register_with past after)) (sym (back rest)) (letters_as v x past (past.letters ++ out) (past.letters ++ after) (ap (λ (l : List Letter). past.letters ++ l) (sym sent)) f),
  subst (λ (s : Acceptor). IsPlace past.chain s.held.decided) (sym same) place,
)
acceptor_takes v x y past a b (Packet packet reading) out after Same first origin low is_a is_b replica firsts origins back keeps has has_b stored comes place (inr (message, from, brings, takes, did)) f =
    let at = cell_of a message takes in
    let knows = knows_of v x a at.0 first origin is_a at.1 has in
    let then_at = after_cell at.0 (subst (λ (o : Option Known). IfSome o (λ cell. (b.cell ≡ Some (with_value cell (held_text b.held))) ⊎ ((b ≡ a) × Same))) at.1 stored) at.1 in
    let knows_then = subst (λ (n : ℕ). KnowsCell v y n b.held then_at.0.found) replica (knows_of v y b then_at.0 (first ∙ sym firsts) (ap v.origins replica ∙ origin ∙ sym origins) is_b then_at.1 has_b) in
    let spells : Spells (devices_of v) message packet.now.kind packet.now.body = subst (λ (s : GlobalState). Spells (length s.devices) message packet.now.kind packet.now.body) (sym first) brings.0 in
    let done = answers v x y (register_with past out) a.replica a.held b.held at.0.found then_at.0.found (letter_of packet.now) message did.0 f low knows knows_then then_at.2 keeps comes spells did.1 in
    let to : answers_of a.replica from did.0 ≡ answers_of a.replica packet.now.from did.0 = ap (λ (w : Actor). answers_of a.replica w did.0) brings.1 in
    let now : (past.letters ++ out) ++ answers_of a.replica packet.now.from did.0 ≡ past.letters ++ after = append_assoc past.letters out (answers_of a.replica packet.now.from did.0) ∙ ap (λ (l : List Letter). past.letters ++ (out ++ l)) (sym to) ∙ ap (λ (l : List Letter). past.letters ++ l) (sym did.2) in
    let fits = letters_as v y past ((past.letters ++ out) ++ answers_of a.replica packet.now.from did.0) (past.letters ++ after) now done in
    (fits, subst (λ (c : Chain). IsPlace c b.held.decided) fits.chain (holds_place v y (register_with past after) a.replica b.held then_at.0.found fits low knows_then))
  where
    after_cell : (c : Known) → (b.cell ≡ Some (with_value c (held_text b.held))) ⊎ ((b ≡ a) × Same) → a.cell ≡ Some c → (k : Known) × (b.cell ≡ Some k) × IsPutOn c.found k.found
    after_cell c (inl put) e = (with_value c (held_text b.held), put, inr (omega arith))
    after_cell c (inr (same, rest)) e = (c, ap (λ (s : Acceptor). s.cell) same ∙ e, inl refl)
acceptor_takes v x y past a b (Tick reading) out after Same first origin low is_a is_b replica firsts origins back keeps has has_b stored comes place (inr (message, from, brings, takes, did)) f = absurd brings
acceptor_takes v x y past a b Synced out after Same first origin low is_a is_b replica firsts origins back keeps has has_b stored comes place (inr (message, from, brings, takes, did)) f = absurd brings

-- ---- the proposer's half

decides_as : (v : Voters) (y : Disks) (past : RegisterPast) (known : GlobalState) (out sent after : List Letter) → past.letters ++ after ≡ (past.letters ++ out) ++ sent → RegisterGoes v y (register_with past out) known sent
    → Decides (Fits v y) known (register_with past after)
decides_as v y past known out sent after same goes = record {
  chain = goes.chain;
  grows = goes.grows;
  told = goes.told;
  holds = subst (λ (l : List Letter). Fits v y (record past { chain = goes.chain; letters = l })) (sym same) goes.fits;
}

still : (v : Voters) (y : Disks) (past : RegisterPast) (known : GlobalState) (out : List Letter) → Fits v y (register_with past out) → RegisterGoes v y (register_with past out) known []
still v y past known out f = record { chain = past.chain; grows = inl refl; told = inl refl; fits = subst (λ (l : List Letter). Fits v y (record past { letters = l })) (sym (append-nil (past.letters ++ out))) f }

-- the laws of a proposer, by its number
hears_me : (v : Voters) (x : Disks) (past : RegisterPast) (at : Actor) (me : ℕ) (others : List Actor) (letter : Letter) (message : Message) (course : Course) (courses : ℕ → Course) (move : Move) → Fits v x past → me ≡ number_of at → me < 2 ^ 32
    → Contains past.letters letter → Spells (devices_of v) message letter.kind letter.body → Hears me (v.courses me) letter.from message course move → Turned me course v.courses courses → RegisterGoes (going v courses) x past course.known (letters_of at others course move)
hears_me v x past at me others letter message course courses move f number fits has spells =
    subst (λ (n : ℕ). Hears n (v.courses n) letter.from message course move → Turned n course v.courses courses → RegisterGoes (going v courses) x past course.known (letters_of at others course move)) (sym number)
    (λ does turned. hears v x past at others letter message course courses move f (subst (λ (n : ℕ). n < 2 ^ 32) number fits) has spells does turned)

ticks_me : (v : Voters) (x : Disks) (past : RegisterPast) (at : Actor) (me : ℕ) (others : List Actor) (course : Course) (courses : ℕ → Course) (move : Move) → Fits v x past → me ≡ number_of at → me < 2 ^ 32
    → Ticks me (v.courses me) course move → Turned me course v.courses courses → RegisterGoes (going v courses) x past course.known (letters_of at others course move)
ticks_me v x past at me others course courses move f number fits =
    subst (λ (n : ℕ). Ticks n (v.courses n) course move → Turned n course v.courses courses → RegisterGoes (going v courses) x past course.known (letters_of at others course move)) (sym number)
    (λ does turned. ticks_at v x past at others course courses move f (subst (λ (n : ℕ). n < 2 ^ 32) number fits) does turned)

-- it takes what comes, of voters among which it has this course
pub proposer_takes : (v : Voters) (y : Disks) (past : RegisterPast) (p q : Proposer) (input : Input) (courses : ℕ → Course) (out after : List Letter) → v.first ≡ p.first → p.actor ≡ number_of p.at → p.actor < 2 ^ 32 → v.courses p.actor ≡ p.course
    → IsComing (past.letters ++ out) input → Takes p input q out after → Turned p.actor q.course v.courses courses → Fits v y (register_with past out) → Decides (Fits (going v courses) y) q.course.known (register_with past after)
proposer_takes v y past p q input courses out after first actor fits course comes takes turned f = by input comes takes.steps takes.sends
  where
    me : ℕ
    me = p.actor

    sent : List Letter
    sent = letters_of p.at p.others q.course takes.move

    -- the clock was read first
    clock : ℕ → ℕ → Course
    clock reading = turn me (reading_now reading p.course) v.courses

    clock_turned : (reading : ℕ) → Turned me (reading_now reading (v.courses me)) v.courses (clock reading)
    clock_turned reading = subst (λ (c : Course). Turned me (reading_now reading c) v.courses (clock reading)) (sym course) (turned_so me (reading_now reading p.course) v.courses)

    clock_at : (reading : ℕ) → clock reading me ≡ reading_now reading p.course
    clock_at reading = (turned_so me (reading_now reading p.course) v.courses).at

    after_clock : (reading : ℕ) → Turned me q.course (clock reading) courses
    after_clock reading = turned_twice me (reading_now reading p.course) q.course v.courses courses turned

    -- nothing was done but that a clock was read
    only_clock : (reading : ℕ) → q.course ≡ reading_now reading p.course → Fits (going v courses) y (register_with past out)
    only_clock reading e = reads_clock v y (register_with past out) me reading courses f
        (subst (λ (c : Course). Turned me (reading_now reading c) v.courses courses) (sym course) (subst (λ (c : Course). Turned me c v.courses courses) e turned))

    silent_letters : takes.move ≡ Nothing → sent ≡ []
    silent_letters quiet = ap (λ (m : Move). letters_of p.at p.others q.course m) quiet

    without_asks : after ≡ (out ++ []) ++ sent → past.letters ++ after ≡ (past.letters ++ out) ++ sent
    without_asks e = ap (λ (l : List Letter). past.letters ++ l) (e ∙ ap (λ (l : List Letter). l ++ sent) (append-nil out)) ∙ sym (append_assoc past.letters out sent)

    -- nothing is sent
    quiet_as : takes.move ≡ Nothing → after ≡ (out ++ []) ++ sent → Fits (going v courses) y (register_with past out) → Decides (Fits (going v courses) y) q.course.known (register_with past after)
    quiet_as quiet e g = decides_as (going v courses) y past q.course.known out [] after (without_asks e ∙ ap (λ (l : List Letter). (past.letters ++ out) ++ l) (silent_letters quiet)) (still (going v courses) y past q.course.known out g)

    packet : (reading : ℕ) (letter : Letter) → Contains (past.letters ++ out) letter → PacketStep me (length p.first.devices) (reading_now reading p.course) letter.from letter.kind letter.body q.course takes.move → after ≡ (out ++ []) ++ sent
        → Decides (Fits (going v courses) y) q.course.known (register_with past after)
    packet reading letter has (inl (message, spells, does)) e =
        let fits_clock = reads_clock v y (register_with past out) me reading (clock reading) f (clock_turned reading) in
        let says : Spells (devices_of v) message letter.kind letter.body = subst (λ (s : GlobalState). Spells (length s.devices) message letter.kind letter.body) (sym first) spells in
        let hears_so : Hears me (clock reading me) letter.from message q.course takes.move = subst (λ (c : Course). Hears me c letter.from message q.course takes.move) (sym (clock_at reading)) does in
        decides_as (going v courses) y past q.course.known out sent after (without_asks e)
        (hears_me (going v (clock reading)) y (register_with past out) p.at me p.others letter message q.course courses takes.move fits_clock actor fits has says hears_so (after_clock reading))
    packet reading letter has (inr (none, e, quiet)) f_sent = quiet_as quiet f_sent (only_clock reading e)

    by : (i : Input) → IsComing (past.letters ++ out) i → Steps me (length p.first.devices) p.course i q.course takes.move → after ≡ (out ++ asks_at p.at i) ++ sent → Decides (Fits (going v courses) y) q.course.known (register_with past after)
    by (Packet letter reading) has steps e = packet reading (letter_of letter.now) has steps e
    by (Tick reading) has steps e =
        let asked = letters_as v y past ((past.letters ++ out) ++ asks_of p.at) (past.letters ++ (out ++ asks_of p.at)) (append_assoc past.letters out (asks_of p.at)) (more_letters v y (register_with past out) (asks_of p.at) f (asks_pass (devices_of v) f.history p.at)) in
        let fits_clock = reads_clock v y (register_with past (out ++ asks_of p.at)) me reading (clock reading) asked (clock_turned reading) in
        let ticks_so : Ticks me (clock reading me) q.course takes.move = subst (λ (c : Course). Ticks me c q.course takes.move) (sym (clock_at reading)) steps in
        decides_as (going v courses) y past q.course.known (out ++ asks_of p.at) sent after (ap (λ (l : List Letter). past.letters ++ l) e ∙ sym (append_assoc past.letters (out ++ asks_of p.at) sent))
        (ticks_me (going v (clock reading)) y (register_with past (out ++ asks_of p.at)) p.at me p.others q.course courses takes.move fits_clock actor fits ticks_so (after_clock reading))
    by Synced has (same, quiet) e = quiet_as quiet e (only_clock p.course.reading same)

-- ---- both

-- The acceptor has taken what comes, the proposer was told what that knows, and has taken it too.
pub replica_takes : (v : Voters) (x y : Disks) (past : RegisterPast) (a b : Acceptor) (p m q : Proposer) (input : Input) (courses : ℕ → Course) (out mid after : List Letter) (Same : Type 0) → AreOf v a p → AreHalves a p → IsAcceptorView a → IsAcceptorView b
    → b.replica ≡ a.replica → b.first ≡ a.first → b.origin ≡ a.origin → (Same → y ≡ x) → KeepsSure x y a.replica 1 20 → EachSure x (HasCell a) → EachSure y (HasCell b)
    → IfSome a.cell (λ cell. (b.cell ≡ Some (with_value cell (held_text b.held))) ⊎ ((b ≡ a) × Same)) → IsComing (past.letters ++ out) input → IsPlace past.chain a.held.decided → TakesIn a input b out mid Same
    → p.actor ≡ number_of p.at → p.actor < 2 ^ 32 → Learns p.course b.held.decided m.course → m ≡ going_on p m.course → IsComing (past.letters ++ mid) input → Takes m input q mid after → Turned p.actor q.course v.courses courses
    → Fits v x (register_with past out) → Decides (Fits (going v courses) y) q.course.known (register_with past after)
replica_takes v x y past a b p m q input courses out mid after Same of halves is_a is_b replica firsts origins back keeps has has_b stored comes place took actor fits learns kept comes_then takes turned f =
    let first = acceptor_takes v x y past a b input out mid Same of.first of.origin halves.low is_a is_b replica firsts origins back keeps has has_b stored comes place took f in
    let state : IsStateOf (devices_of v) b.held.decided = subst (λ (s : GlobalState). IsStateOf (length s.devices) b.held.decided) (firsts ∙ sym of.first) (record { is = is_b.held.decided; devices_are = is_b.held.decided_devices }) in
    let told_courses : ℕ → Course = turn p.actor m.course v.courses in
    let told_turned : Turned p.actor m.course v.courses told_courses = turned_so p.actor m.course v.courses in
    let knows = told v y (register_with past mid) p.actor b.held.decided m.course told_courses first.0 first.1 state (subst (λ (c : Course). Learns c b.held.decided m.course) (sym of.course) learns) told_turned in
    let same_actor : m.actor ≡ p.actor = ap (λ (s : Proposer). s.actor) kept in
    let same_first : v.first ≡ m.first = of.first ∙ sym halves.first ∙ sym (ap (λ (s : Proposer). s.first) kept) in
    let number : m.actor ≡ number_of m.at = same_actor ∙ actor ∙ ap number_of (sym (ap (λ (s : Proposer). s.at) kept)) in
    proposer_takes (going v told_courses) y past m q input courses mid after same_first number (subst (λ (n : ℕ). n < 2 ^ 32) (sym same_actor) fits) (subst (λ (n : ℕ). told_courses n ≡ m.course) (sym same_actor) told_turned.at)
    comes_then takes (subst (λ (n : ℕ). Turned n q.course told_courses courses) (sym same_actor) (turned_twice p.actor m.course q.course v.courses courses turned)) knows

-- what comes is among more letters too
pub comes_more : (past : RegisterPast) (a b : Acceptor) (input : Input) (out mid : List Letter) (Same : Type 0) → TakesIn a input b out mid Same → IsComing (past.letters ++ out) input → IsComing (past.letters ++ mid) input
comes_more past a b (Packet packet reading) out mid Same (inl (same, sent, rest)) comes = subst (λ (l : List Letter). Contains (past.letters ++ l) (letter_of packet.now)) (sym sent) comes
comes_more past a b (Packet packet reading) out mid Same (inr (message, from, brings, takes, did)) comes =
    let sent : List Letter = answers_of a.replica from did.0 in
    let more : Contains ((past.letters ++ out) ++ sent) (letter_of packet.now) = Contains-append_left (past.letters ++ out) sent (letter_of packet.now) comes in
    subst (λ (l : List Letter). Contains l (letter_of packet.now)) (append_assoc past.letters out sent ∙ ap (λ (l : List Letter). past.letters ++ l) (sym did.2)) more
comes_more past a b (Tick reading) out mid Same took comes = tt
comes_more past a b Synced out mid Same took comes = tt

-- ---- a fault, and each moment inside the acceptor's put

-- what an image has of its cell is sound by what was sent before
sound_at : (v : Voters) (x : Disks) (past : RegisterPast) (a : Acceptor) (c : Known) (now : Held) (input : Input) (out : List Letter) (image : Image) (f : Fits v x (register_with past out)) → v.first ≡ a.first → v.origins a.replica ≡ a.origin → a.replica < 3 → IsAcceptorView a
    → a.cell ≡ Some c → EachSure x (HasCell a) → IsHeld (length a.first.devices) now → IsComing (past.letters ++ out) input → BecomesBy a input now → HasEither x a.replica 1 c.found (next c.found (held_text now)) image → IsHeldSound v.first v.origins f.history image
sound_at v x past a c now input out image f first origin low is at has is_now comes became either = by input comes became
  where
    knows : KnowsCell v x a.replica a.held c.found
    knows = knows_of v x a c first origin is at has

    here_now : IsHeld (devices_of v) now
    here_now = subst (λ (s : GlobalState). IsHeld (length s.devices) now) (sym first) is_now

    one_of : IsCounted v.first (v.origins a.replica) (image a.replica) a.held ⊎ IsCounted v.first (v.origins a.replica) (image a.replica) now
    one_of = counted_either v.first v.origins x a.replica c.found a.held now image knows.content here_now either

    sound_by : (m : Message) → MayCome f.history m → (now ≡ a.held) ⊎ ((answer : Option Message) × Handles a.held m now answer) → IsHeldSound v.first v.origins f.history image
    sound_by m may does = at_moment v.first v.origins f.history x a.replica a.held now m image low f.images either.outside (counted v x a.replica a.held c.found knows) one_of may does

    by : (i : Input) → IsComing (past.letters ++ out) i → BecomesBy a i now → IsHeldSound v.first v.origins f.history image
    by i coming (inl same) = sound_by Ask tt (inl same)
    by (Packet packet reading) coming (inr (message, from, brings, becomes)) =
        let says : Spells (devices_of v) message packet.now.kind packet.now.body = subst (λ (s : GlobalState). Spells (length s.devices) message packet.now.kind packet.now.body) (sym first) brings.0 in
        sound_by message (to_replica f.history packet.now.from message (may_come v x (register_with past out) f (letter_of packet.now) message coming says)) becomes
    by (Tick reading) coming (inr (message, from, brings, becomes)) = absurd brings
    by Synced coming (inr (message, from, brings, becomes)) = absurd brings

-- and it has the cells with which replicas take part
shows_now : (v : Voters) (x : Disks) (sizes : List ℕ) (past : RegisterPast) (a : Acceptor) (c : Known) (now : Held) (out : List Letter) (image : Image) (f : Fits v x (register_with past out)) → AreAsLong x.sizes sizes → v.first ≡ a.first → v.origins a.replica ≡ a.origin → IsAcceptorView a
    → a.cell ≡ Some c → EachSure x (HasCell a) → IsHeld (length a.first.devices) now → HasEither x a.replica 1 c.found (next c.found (held_text now)) image → Shows v.first v.origins f.was sizes image
shows_now v x sizes past a c now out image f lengths first origin is at has is_now either =
    shown_either v f.was x sizes a.replica a.held now c.found image lengths f.shown (knows_of v x a c first origin is at has) (subst (λ (s : GlobalState). IsHeld (length s.devices) now) (sym first) is_now) either

-- after a fault
pub replica_faults : (v : Voters) (x y : Disks) (past : RegisterPast) (a b : Acceptor) (input : Input) (out : List Letter) (f : Fits v x (register_with past out)) → v.first ≡ a.first → v.origins a.replica ≡ a.origin → a.replica < 3 → IsAcceptorView a → EachSure x (HasCell a)
    → IsHeld (length a.first.devices) b.held → IsComing (past.letters ++ out) input → BecomesBy a input b.held → (T : Type 0) → T → IfSome a.cell (λ cell. T → EachSure x (HasCell a) → EachSure y (HasEither x a.replica 1 cell.found (next cell.found (held_text b.held)))) → (a.cell ≡ None → y ≡ x)
    → y.sizes ≡ x.sizes → Fits v y (register_with past out)
replica_faults v x y past a b input out f first origin low is has is_now comes became T t either unmoved sizes = by a.cell refl either
  where
    by : (o : Option Known) → a.cell ≡ o → IfSome o (λ cell. T → EachSure x (HasCell a) → EachSure y (HasEither x a.replica 1 cell.found (next cell.found (held_text b.held)))) → Fits v y (register_with past out)
    by None at each = subst (λ (d : Disks). Fits v d (register_with past out)) (sym (unmoved at)) f
    by (Some c) at each = with_images v x y (register_with past out) f (record { each = λ image sure. sound_at v x past a c b.held input out image f first origin low is at has is_now comes became ((each t has).each image sure) })
        (record { each = λ image sure. shows_now v x y.sizes past a c b.held out image f (as_long x.sizes y.sizes sizes) first origin is at has is_now ((each t has).each image sure) })

-- an image that has all that is sure is read as the last state, or as one change ahead
image_next : (v : Voters) (x : Disks) (past : RegisterPast) (out : List Letter) → Fits v x (register_with past out) → (image : Image) → IsImage x image → ReadsNext v.first past x.sizes image
image_next v x past out f image is s read = reads v x (register_with past out) image s f (record { sure = is.sure }) read

-- without a cell it takes no message
pub no_cell_takes : (a : Acceptor) (m : Message) → a.cell ≡ None → TakesMessage a m → ⊥
no_cell_takes a m none takes = subst (λ (o : Option Known). IsSomeAnd o (λ c. IsTaken c.found.number m)) none takes

-- a rack of which nothing was asked
pub leaves_none : (x : Disks) (moment : ℕ) (since : ℕ → Image → Type 0) → ((image : Image) → since moment image → IsImage x image) → LeavesOnly moment moment since since (IsImage x)
leaves_none x moment since only = record {
  later = omega arith;
  each = only;
  nothing_else = λ t image at_most left. inl left;
  keeps = λ t image at_most left. left;
}

-- each moment
pub replica_moments : (v : Voters) (x : Disks) (past : RegisterPast) (a b : Acceptor) (input : Input) (out : List Letter) (before now : ℕ) (left since : ℕ → Image → Type 0) (f : Fits v x (register_with past out)) → v.first ≡ a.first → v.origins a.replica ≡ a.origin → a.replica < 3 → IsAcceptorView a → EachSure x (HasCell a)
    → IsHeld (length a.first.devices) b.held → IsComing (past.letters ++ out) input → BecomesBy a input b.held → (T : Type 0) → T → IfSome a.cell (λ cell. T → EachSure x (HasCell a) → LeavesOnly before now left since (HasEither x a.replica 1 cell.found (next cell.found (held_text b.held))))
    → (a.cell ≡ None → LeavesOnly before now left since (IsImage x)) → LeavesOnly before now left since (ReadsNext v.first past x.sizes)
replica_moments v x past a b input out before now left since f first origin low is has is_now comes became T t leaves unmoved = by a.cell refl leaves
  where
    by : (o : Option Known) → a.cell ≡ o → IfSome o (λ cell. T → EachSure x (HasCell a) → LeavesOnly before now left since (HasEither x a.replica 1 cell.found (next cell.found (held_text b.held)))) → LeavesOnly before now left since (ReadsNext v.first past x.sizes)
    by None at each = leaves_implies before now left since (IsImage x) (ReadsNext v.first past x.sizes) (unmoved at) (image_next v x past out f)
    by (Some c) at each = leaves_implies before now left since (HasEither x a.replica 1 c.found (next c.found (held_text b.held))) (ReadsNext v.first past x.sizes) (each t has)
        (λ image either s read. next_read v x (register_with past out) image s f (sound_at v x past a c b.held input out image f first origin low is at has is_now comes became either) (shows_now v x x.sizes past a c b.held out image f (λ d short. refl) first origin is at has is_now either) read)

-- ---- a start

-- what an acceptor knows that started is a place: what its cell has, or the first state
pub started_place : (v : Voters) (y : Disks) (past : RegisterPast) (b : Acceptor) (f : Fits v y past) → v.first ≡ b.first → v.origins b.replica ≡ b.origin → b.replica < 3 → IsAcceptorView b → EachSure y (HasCell b) → (b.cell ≡ None → b.held.decided ≡ b.first) → IsPlace past.chain b.held.decided
started_place v y past b f first origin low is has none = by b.cell refl
  where
    by : (o : Option Known) → b.cell ≡ o → IsPlace past.chain b.held.decided
    by None at = subst (λ (s : GlobalState). IsPlace past.chain s) (sym (none at)) (subst (λ (s : GlobalState). IsPlace past.chain s) first (first_place v y past f))
    by (Some c) at = subst (λ (k : Chain). IsPlace k b.held.decided) f.chain (holds_place v y past b.replica b.held c.found f low (knows_of v y b c first origin is at has))

-- The acceptor has started, the proposer too, and was told what the acceptor knows.
pub replica_starts : (v : Voters) (x y : Disks) (past : RegisterPast) (a b : Acceptor) (p m q : Proposer) (boot : ℕ) (courses : ℕ → Course) (out : List Letter) → AreOf v a p → AreHalves a p → IsAcceptorView b
    → b.replica ≡ a.replica → b.first ≡ a.first → b.origin ≡ a.origin → KeepsAll x y a.replica → EachSure y (HasCell b) → (b.cell ≡ None → b.held.decided ≡ b.first)
    → v.nodes ≤ 16 → v.nodes ≡ p.nodes → past.boots (Replica a.replica) < boot → boot < 2 ^ 64 → m ≡ going_on p (started boot p.course.reading p.first) → Learns m.course b.held.decided q.course → Turned p.actor q.course v.courses courses
    → Fits v x (register_with past out) → Fits (going v courses) y (register_with (register_restarted past (Replica a.replica) boot) out)
replica_starts v x y past a b p m q boot courses out of halves is_b replica firsts origins keeps has none few nodes above fits kept learns turned f =
    let who : Actor = Replica a.replica in
    let number : p.actor ≡ number_of who = halves.proposer.actor ∙ ap number_of halves.at in
    let synced = syncs v x y (register_with past out) a.replica f keeps in
    let now : Course = started boot p.course.reading v.first in
    let first_is : p.first ≡ v.first = halves.first ∙ sym of.first in
    let mid : ℕ → Course = turn (number_of who) now v.courses in
    let mid_turned : Turned (number_of who) now v.courses mid = turned_so (number_of who) now v.courses in
    let again = restarted v y (register_with past out) who boot p.course.reading mid synced few halves.low above fits mid_turned in
    let same = letters_as (going v mid) y (register_restarted past who boot) ((past.letters ++ out) ++ []) (past.letters ++ out) (append-nil (past.letters ++ out)) again in
    let place = started_place (going v mid) y (register_with (register_restarted past who boot) out) b same (of.first ∙ sym firsts) (ap v.origins replica ∙ of.origin ∙ sym origins) (subst (λ (n : ℕ). n < 3) (sym replica) halves.low) is_b has none in
    let state : IsStateOf (devices_of v) b.held.decided = subst (λ (s : GlobalState). IsStateOf (length s.devices) b.held.decided) (firsts ∙ sym of.first) (record { is = is_b.held.decided; devices_are = is_b.held.decided_devices }) in
    let course_is : m.course ≡ now = ap (λ (s : Proposer). s.course) kept ∙ ap (λ (s : GlobalState). started boot p.course.reading s) first_is in
    let at_now : mid (number_of who) ≡ m.course = mid_turned.at ∙ sym course_is in
    told (going v mid) y (register_with (register_restarted past who boot) out) (number_of who) b.held.decided q.course courses same place state (subst (λ (c : Course). Learns c b.held.decided q.course) (sym at_now) learns)
    (turned_twice (number_of who) now q.course v.courses courses (subst (λ (n : ℕ). Turned n q.course v.courses courses) number turned))

-- a start that failed
pub replica_start_fails : (v : Voters) (x y : Disks) (past : RegisterPast) (n boot : ℕ) (out : List Letter) → KeepsAll x y n → past.boots (Replica n) < boot → Fits v x (register_with past out) → Fits v y (register_with (register_failed past (Replica n) boot) out)
replica_start_fails v x y past n boot out keeps above f = let synced = syncs v x y (register_with past out) n f keeps in record {
  history = synced.history;
  chain = synced.chain;
  proposed = synced.proposed;
  first = synced.first;
  letters = synced.letters;
  images = synced.images;
  was = synced.was;
  begun = synced.begun;
  shown = synced.shown;
  proposing = synced.proposing;
  courses = synced.courses;
  boots = λ who there. more who (is_same (Replica n) who) refl (synced.boots who there);
  numbers = synced.numbers;
  allowed = synced.allowed;
}
  where
    more : (who : Actor) (t : Bool) → is_same (Replica n) who ≡ t → (v.courses (number_of who)).boot ≤ past.boots who → (v.courses (number_of who)).boot ≤ (if t then boot else past.boots who)
    more who true e least = let one : Replica n ≡ who = is_one (Replica n) who e in let higher : past.boots who < boot = subst (λ (a : Actor). past.boots a < boot) one above in omega (arith, least, higher)
    more who false e least = least

-- each moment of a start
pub start_moments : (v : Voters) (x : Disks) (past : RegisterPast) (out : List Letter) (before now : ℕ) (left since : ℕ → Image → Type 0) (f : Fits v x (register_with past out)) → LeavesOnly before now left since (IsImage x) → LeavesOnly before now left since (ReadsNext v.first past x.sizes)
start_moments v x past out before now left since f leaves =
    leaves_implies before now left since (IsImage x) (ReadsNext v.first past x.sizes) leaves (image_next v x past out f)

-- without a cell it knows the first state
pub knows_first : (replica : ℕ) (first : GlobalState) (origin : Origin) (sectors : ℕ → List ℕ) (held : Held) (cell : Option Known) → StartsWith replica first origin sectors held cell → cell ≡ None → held.decided ≡ first
knows_first replica first origin sectors held cell starts none =
    let all = starts.none (λ found raw part is. absurd (not_some cell (cell_with replica found) none (starts.found found raw part is).1)) in
    ap (λ (h : Held). h.decided) all.0
  where
    not_some : (o : Option Known) (c : Known) → o ≡ None → o ≡ Some c → ⊥
    not_some o c e k = let bad : None ≡ Some c = sym e ∙ k in cc

-- ---- a change is proposed

proposes_me : (v : Voters) (x : Disks) (past : RegisterPast) (at : Actor) (me : ℕ) (others : List Actor) (change : Change) (course : Course) (courses : ℕ → Course) (move : Move) → Fits v x past → me ≡ number_of at → me < 2 ^ 32 → IsChange change
    → IsLegal (v.courses me).known change → Proposes me (v.courses me) change course move → Turned me course v.courses courses → Fits (going v courses) x (record (proposing past change) { letters = past.letters ++ letters_of at others course move })
proposes_me v x past at me others change course courses move f number fits numbers =
    subst (λ (n : ℕ). IsLegal (v.courses n).known change → Proposes n (v.courses n) change course move → Turned n course v.courses courses → Fits (going v courses) x (record (proposing past change) { letters = past.letters ++ letters_of at others course move })) (sym number)
    (λ legal does turned. proposed v x past at others change course courses move f (subst (λ (n : ℕ). n < 2 ^ 32) number fits) numbers legal does turned)

pub machine_proposes : (v : Voters) (x : Disks) (past : RegisterPast) (p q : Proposer) (change : Change) (courses : ℕ → Course) (out after : List Letter) → p.actor ≡ number_of p.at → p.actor < 2 ^ 32 → v.courses p.actor ≡ p.course → IsChange change → IsLegal p.course.known change
    → ProposesTo p change q out after → Turned p.actor q.course v.courses courses → Fits v x (register_with past out) → Fits (going v courses) x (register_with (proposing past change) after)
machine_proposes v x past p q change courses out after actor fits course numbers legal does turned f =
    letters_as (going v courses) x (proposing past change) ((past.letters ++ out) ++ letters_of p.at p.others q.course does.move) (past.letters ++ after)
    (append_assoc past.letters out (letters_of p.at p.others q.course does.move) ∙ ap (λ (l : List Letter). past.letters ++ l) (sym does.sends))
    (proposes_me v x (register_with past out) p.at p.actor p.others change q.course courses does.move f actor fits numbers (subst (λ (c : Course). IsLegal c.known change) (sym course) legal)
    (subst (λ (c : Course). Proposes p.actor c change q.course does.move) (sym course) does.proposes) turned)
