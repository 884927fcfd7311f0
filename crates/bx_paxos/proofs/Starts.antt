-- A change is proposed; a machine stops, or starts again, or is told what its other half knows; and how it begins.
use Rattle.std.proofs.Common.{◌≡◌, ℕ, ◌^◌, ◌<◌, ◌≤◌, Bool, true, false, ltb, List, [], ◌∷◌, ◌++◌, Option, Some, None, IfSome, refl, sym, ap, subst, ◌∙◌, inl, inr, arith}
use Rattle.std.proofs.lemmas.Bool.{false≢true, lt-ltb, ltb-true}
use Rattle.std.proofs.lemmas.Bool.Decides.{eqb_tells}
use Rattle.std.specs.Prelude.{if◌then◌else◌}
use Rattle.bx_answers.specs.Handling.{caught_up, first_held}
use Rattle.bx_acceptor.specs.Standing.{IsFound}
use Rattle.bx_acceptor.specs.declared.origin.Origin.{Origin}
use Rattle.bx_acceptor.specs.declared.origin.Origin.TheVariants.{Made, Found as FoundAs, Apart}
use Rattle.bx_agreement.specs.Cells.{KnowsFirst, opening}
use Rattle.bx_agreement.specs.Events.{HistoryStands, Turns}
use Rattle.bx_agreement.specs.History.{ComesNext, History}
use Rattle.bx_agreement.specs.Sound.{with_change}
use Rattle.bx_agreement.proofs.Begins.{begins, found_knows}
use Rattle.bx_agreement.proofs.Decide.{contains_more, handed}
use Rattle.bx_agreement.proofs.Events.{later_change}
use Rattle.bx_base.specs.declared.names.Actor.{Actor}
use Rattle.bx_base.specs.declared.names.Actor.TheVariants.{Node, Replica, Server, Member}
use Rattle.bx_cell.specs.Images.{EachSure}
use Rattle.bx_disk.specs.Disks.{Disks, Image}
use Rattle.bx_facts.proofs.Lists.{front_or_behind, nothing}
use Rattle.bx_facts.proofs.Machines.{is_itself, is_one}
use Rattle.bx_facts.specs.Chains.{Chain, IsAmong, IsPlace}
use Rattle.bx_facts.specs.Machines.{IsMachine, is_same, put_at}
use Rattle.bx_facts.specs.Pasts.{RegisterPast, found_register, opening_register, proposing, register_crashed, register_restarted}
use Rattle.bx_global.specs.Allowed.{IsAllowed, IsChange}
use Rattle.bx_global.specs.Table.{IsLegal}
use Rattle.bx_global.specs.declared.change.Change.{Change}
use Rattle.bx_global.specs.declared.held.Held.{Held}
use Rattle.bx_global.specs.declared.state.GlobalState.{GlobalState}
use Rattle.bx_packets.specs.Messages.{IsStateOf}
use Rattle.bx_post.specs.declared.packets.Letter.{Letter}
use Rattle.bx_rounds.specs.Agreement.{IsProposing, machine_of}
use Rattle.bx_proposer.specs.Letters.{asks_of, letters_of}
use Rattle.bx_proposer.specs.Names.{number_of}
use Rattle.bx_rounds.specs.Courses.{IsCourse, started, stopped}
use Rattle.bx_rounds.specs.Steps.{Learns, Proposes}
use Rattle.bx_rounds.proofs.Agreeing.{may_tell, proposes, starts, stops}
use Rattle.bx_rounds.proofs.Kept.{proposes_kept}
use Rattle.bx_rounds.specs.declared.course.Course.{Course}
use Rattle.bx_rounds.specs.declared.course.Move.{Move}
use Rattle.bx_rounds.specs.declared.course.Proposal.{Proposal}
use Rattle.bx_paxos.specs.Counted.{AreCounted, IsCounted}
use Rattle.bx_paxos.specs.Fits.{AllPass, Fits, Turned, Voters, devices_of, going, machines_of}
use Rattle.bx_paxos.specs.Reading.{AreMade}
use Rattle.bx_paxos.specs.Shown.{HasFound, IsAsItWas, ShowsOne, StandsAsFound}
use Rattle.bx_paxos.proofs.Events.{here}
use Rattle.bx_paxos.proofs.Shown.{shows_found}
use Rattle.bx_paxos.proofs.Letters.{all_more, all_none, all_on, asks_pass, longer_later, sent_pass}

-- ---- numbers of machines

-- two machines of a cluster have two numbers
pub one_number : (nodes : ℕ) (a b : Actor) → nodes ≤ 16 → IsMachine nodes a → IsMachine nodes b → number_of a ≡ number_of b → a ≡ b
one_number nodes (Node n) (Node m) few p q e = ap Node e
one_number nodes (Node n) (Replica m) few p q e = absurd (omega (arith, few, p, e))
one_number nodes (Node n) (Server m) few p q e = absurd (omega (arith, few, p, e))
one_number nodes (Node n) (Member m) few p q e = absurd (omega (arith, few, p, e))
one_number nodes (Replica n) (Node m) few p q e = absurd (omega (arith, few, q, e))
one_number nodes (Replica n) (Replica m) few p q e = ap Replica (omega (arith, e))
one_number nodes (Replica n) (Server m) few p q e = absurd (omega (arith, p, e))
one_number nodes (Replica n) (Member m) few p q e = absurd (omega (arith, p, e))
one_number nodes (Server n) (Node m) few p q e = absurd (omega (arith, few, q, e))
one_number nodes (Server n) (Replica m) few p q e = absurd (omega (arith, q, e))
one_number nodes (Server n) (Server m) few p q e = ap Server (omega (arith, e))
one_number nodes (Server n) (Member m) few p q e = absurd (omega (arith, p, e))
one_number nodes (Member n) (Node m) few p q e = absurd (omega (arith, few, q, e))
one_number nodes (Member n) (Replica m) few p q e = absurd (omega (arith, q, e))
one_number nodes (Member n) (Server m) few p q e = absurd (omega (arith, q, e))
one_number nodes (Member n) (Member m) few p q e = ap Member (omega (arith, e))

-- ---- what a step of one machine leaves of all

pub turned_each : (P : Course → ℕ → Type 0) (me : ℕ) (course : Course) (old new : ℕ → Course) → Turned me course old new → P course me → ((m : ℕ) → P (old m) m) → (m : ℕ) → P (new m) m
turned_each P me course old new turned is each m =
    elim (eqb_tells m me) [
      | inl same ↦ subst (λ (k : ℕ). P (new k) k) (sym same.1) (subst (λ (c : Course). P c me) (sym turned.at) is)
      | inr apart ↦ subst (λ (c : Course). P c m) (sym (turned.others m apart.1)) (each m)
    ]

turns_of : (me : ℕ) (course : Course) (old new : ℕ → Course) → Turned me course old new → Turns me (machine_of course) (machines_of old) (machines_of new)
turns_of me course old new turned = record { at = ap machine_of turned.at; others = λ m apart. ap machine_of (turned.others m apart) }

stands : (v : Voters) (x : Disks) (past : RegisterPast) (f : Fits v x past) → HistoryStands f.history (here v x past f).cells (machines_of v.courses)
stands v x past f = record { sound = (here v x past f).sound; each = λ me. (f.proposing me).is }

-- one machine has another course, and letters more; the history is the same
same_history : (v : Voters) (x : Disks) (past : RegisterPast) (boots : Actor → ℕ) (down : Actor → Bool) (f : Fits v x past) (me : ℕ) (course : Course) (courses : ℕ → Course) (sent : List Letter) → Turned me course v.courses courses
    → IsProposing f.history me course → IsCourse (devices_of v) course → ((who : Actor) → IsMachine v.nodes who → (courses (number_of who)).boot ≤ boots who) → AllPass (devices_of v) f.history sent
    → Fits (going v courses) x (record past { letters = past.letters ++ sent; boots = boots; down = down })
same_history v x past boots down f me course courses sent turned is as_course least pass = record {
  history = f.history;
  chain = f.chain;
  proposed = f.proposed;
  first = f.first;
  letters = all_more (devices_of v) f.history past.letters sent f.letters pass;
  images = f.images;
  was = f.was;
  begun = f.begun;
  shown = f.shown;
  proposing = turned_each (λ c m. IsProposing f.history m c) me course v.courses courses turned is f.proposing;
  courses = turned_each (λ c m. IsCourse (devices_of v) c) me course v.courses courses turned as_course f.courses;
  boots = least;
  numbers = f.numbers;
  allowed = f.allowed;
}

pub boots_stay : (v : Voters) (x : Disks) (past : RegisterPast) (f : Fits v x past) (me : ℕ) (course : Course) (courses : ℕ → Course) → Turned me course v.courses courses → course.boot ≡ (v.courses me).boot
    → (who : Actor) → IsMachine v.nodes who → (courses (number_of who)).boot ≤ past.boots who
boots_stay v x past f me course courses turned same who there =
    subst (λ (b : ℕ). b ≤ past.boots who) (sym (turned_each (λ c m. c.boot ≡ (v.courses m).boot) me course v.courses courses turned same (λ m. refl) (number_of who))) (f.boots who there)

-- ---- a change is proposed

pub proposed : (v : Voters) (x : Disks) (past : RegisterPast) (at : Actor) (others : List Actor) (change : Change) (course : Course) (courses : ℕ → Course) (move : Move) → Fits v x past → number_of at < 2 ^ 32
    → IsChange change → IsLegal (v.courses (number_of at)).known change → Proposes (number_of at) (v.courses (number_of at)) change course move → Turned (number_of at) course v.courses courses
    → Fits (going v courses) x (record (proposing past change) { letters = past.letters ++ letters_of at others course move })
proposed v x past at others change course courses move f fits numbers legal does turned = record {
  history = new;
  chain = f.chain;
  proposed = ap (λ (cs : List Change). change ∷ cs) f.proposed;
  first = f.first;
  letters = all_more (devices_of v) new past.letters (letters_of at others course move) (all_on (devices_of v) f.history new past.letters (longer_later f.history new (later_change f.history change)) f.letters)
      (sent_pass (devices_of v) new at others course move (may_tell new me course both.1) as_course);
  images = record { each = λ image sure. let was = f.images.each image sure in record { cells = was.cells; are = was.are; sound = handed f.history was.cells change was.sound } };
  was = f.was;
  begun = f.begun;
  shown = f.shown;
  proposing = λ m. record {
    is = both.0.each m;
    own = turned_each (λ c k. IfSome c.out (λ p. ComesNext new.chain new.proposed p.own)) me course v.courses courses turned both.1.own (λ k. own_on (v.courses k).out (f.proposing k).own) m;
  };
  courses = turned_each (λ c m. IsCourse (devices_of v) c) me course v.courses courses turned as_course f.courses;
  boots = boots_stay v x past f me course courses turned (boot_of does);
  numbers = λ other has. elim (front_or_behind change past.proposed other has) [ inl one ↦ subst IsChange one numbers | inr older ↦ f.numbers other older ];
  allowed = f.allowed;
}
  where
    me : ℕ
    me = number_of at

    new : History
    new = with_change change f.history

    both : HistoryStands new (here v x past f).cells (machines_of courses) × IsProposing new me course
    both = proposes f.history (here v x past f).cells (machines_of v.courses) (machines_of courses) me (v.courses me) course change move (stands v x past f) (f.proposing me) legal does (turns_of me course v.courses courses turned)

    as_course : IsCourse (devices_of v) course
    as_course = proposes_kept (devices_of v) me (v.courses me) course change move fits (f.courses me) legal numbers does

    boot_of : Proposes me (v.courses me) change course move → course.boot ≡ (v.courses me).boot
    boot_of (inl (room, e, says)) = ap (λ (c : Course). c.boot) e
    boot_of (inr (none, e, says)) = ap (λ (c : Course). c.boot) e

    own_on : (out : Option Proposal) → IfSome out (λ p. ComesNext f.history.chain f.history.proposed p.own) → IfSome out (λ p. ComesNext new.chain new.proposed p.own)
    own_on None own = tt
    own_on (Some p) k = (k.0, k.1, record { stands = k.2.stands; is_handed = contains_more f.history.proposed change k.1 k.2.is_handed; legal = k.2.legal; is = k.2.is })

-- ---- it stops, starts again, and learns

pub crashed : (v : Voters) (x : Disks) (past : RegisterPast) (who : Actor) (courses : ℕ → Course) → Fits v x past → Turned (number_of who) (stopped (v.courses (number_of who))) v.courses courses → Fits (going v courses) x (register_crashed past who)
crashed v x past who courses f turned =
    let me : ℕ = number_of who in
    let both = stops f.history (here v x past f).cells (machines_of v.courses) (machines_of courses) me (stands v x past f) (stopped (v.courses me)) (turns_of me (stopped (v.courses me)) v.courses courses turned) (v.courses me) (f.proposing me) refl in
    let is = f.courses me in
    record {
      history = f.history;
      chain = f.chain;
      proposed = f.proposed;
      first = f.first;
      letters = f.letters;
      images = f.images;
      was = f.was;
      begun = f.begun;
      shown = f.shown;
      proposing = turned_each (λ c m. IsProposing f.history m c) me (stopped (v.courses me)) v.courses courses turned both.1 f.proposing;
      courses = turned_each (λ c m. IsCourse (devices_of v) c) me (stopped (v.courses me)) v.courses courses turned (record { known = is.known; boot = is.boot; out = tt }) f.courses;
      boots = boots_stay v x past f me (stopped (v.courses me)) courses turned refl;
      numbers = f.numbers;
      allowed = f.allowed;
    }

-- the first state is a place
is_first : (first : GlobalState) (changes : List Change) → IsAmong first changes first
is_first first [] = refl
is_first first (change ∷ older) = inr (is_first first older)

pub first_place : (v : Voters) (x : Disks) (past : RegisterPast) (f : Fits v x past) → IsPlace past.chain v.first
first_place v x past f = subst (λ (c : Chain). IsPlace c v.first) f.chain (subst (λ (s : GlobalState). IsPlace f.history.chain s) f.first (is_first f.history.chain.first f.history.chain.changes))

pub restarted : (v : Voters) (x : Disks) (past : RegisterPast) (who : Actor) (boot reading : ℕ) (courses : ℕ → Course) → Fits v x past → v.nodes ≤ 16 → IsMachine v.nodes who → past.boots who < boot → boot < 2 ^ 64
    → Turned (number_of who) (started boot reading v.first) v.courses courses → Fits (going v courses) x (record (register_restarted past who boot) { letters = past.letters ++ asks_of who })
restarted v x past who boot reading courses f few there above fits turned =
    let me : ℕ = number_of who in
    let now = started boot reading v.first in
    let first_place : IsPlace f.history.chain v.first = subst (λ (s : GlobalState). IsPlace f.history.chain s) f.first (is_first f.history.chain.first f.history.chain.changes) in
    let both = starts f.history (here v x past f).cells (machines_of v.courses) (machines_of courses) me (stands v x past f) now (turns_of me now v.courses courses turned) (v.courses me) boot reading v.first (f.proposing me)
    (omega (arith, f.boots who there, above)) first_place refl in
    same_history v x past (put_at who boot past.boots) (put_at who false past.down) f me now courses (asks_of who) turned both.1
    (record { known = record { is = f.allowed v.first (subst (λ (c : Chain). IsPlace c v.first) f.chain first_place); devices_are = refl }; boot = fits; out = tt }) least (asks_pass (devices_of v) f.history who)
  where
    by_test : (other : Actor) (t : Bool) → IsMachine v.nodes other → is_same who other ≡ t → (courses (number_of other)).boot ≤ (if t then boot else past.boots other)
    by_test other true is e =
        let one : who ≡ other = is_one who other e in
        let at : courses (number_of other) ≡ started boot reading v.first = subst (λ (a : Actor). courses (number_of a) ≡ started boot reading v.first) one turned.at in
        let same : (courses (number_of other)).boot ≡ boot = ap (λ (c : Course). c.boot) at in
        omega (arith, same)
    by_test other false is e =
        let apart : number_of other ≡ number_of who → ⊥ = λ k. not_same (subst (λ (a : Actor). is_same who a ≡ false) (one_number v.nodes other who few is there k) e) in
        subst (λ (b : ℕ). b ≤ past.boots other) (sym (ap (λ (c : Course). c.boot) (turned.others (number_of other) apart))) (f.boots other is)
      where
        not_same : is_same who who ≡ false → ⊥
        not_same k = false≢true (sym k ∙ is_itself who)

    least : (other : Actor) → IsMachine v.nodes other → (courses (number_of other)).boot ≤ put_at who boot past.boots other
    least other is = by_test other (is_same who other) is refl

-- a machine is told a state of the chain
pub told : (v : Voters) (x : Disks) (past : RegisterPast) (me : ℕ) (s : GlobalState) (course : Course) (courses : ℕ → Course) (f : Fits v x past) → IsPlace past.chain s → IsStateOf (devices_of v) s → Learns (v.courses me) s course → Turned me course v.courses courses
    → Fits (going v courses) x past
told v x past me s course courses f place state learns turned = record {
  history = f.history;
  chain = f.chain;
  proposed = f.proposed;
  first = f.first;
  letters = f.letters;
  images = f.images;
  was = f.was;
  begun = f.begun;
  shown = f.shown;
  proposing = turned_each (λ c m. IsProposing f.history m c) me course v.courses courses turned (proposing_now learns) f.proposing;
  courses = turned_each (λ c m. IsCourse (devices_of v) c) me course v.courses courses turned (course_now learns) f.courses;
  boots = boots_stay v x past f me course courses turned (boot_now learns);
  numbers = f.numbers;
  allowed = f.allowed;
}
  where
    proposing_now : Learns (v.courses me) s course → IsProposing f.history me course
    proposing_now (inl (newer, e)) = let is = f.proposing me in subst (IsProposing f.history me) (sym e) (record { is = record { place = subst (λ (c : Chain). IsPlace c s) (sym f.chain) place; before = is.is.before; round = λ r k. absurd cc }; own = tt })
    proposing_now (inr (older, e)) = subst (IsProposing f.history me) (sym e) (f.proposing me)

    course_now : Learns (v.courses me) s course → IsCourse (devices_of v) course
    course_now (inl (newer, e)) = subst (IsCourse (devices_of v)) (sym e) (record { known = state; boot = (f.courses me).boot; out = tt })
    course_now (inr (older, e)) = subst (IsCourse (devices_of v)) (sym e) (f.courses me)

    boot_now : Learns (v.courses me) s course → course.boot ≡ (v.courses me).boot
    boot_now (inl (newer, e)) = ap (λ (c : Course). c.boot) e
    boot_now (inr (older, e)) = ap (λ (c : Course). c.boot) e

-- ---- the beginning

-- Each replica holds the first state, in each image, and nothing was done.
pub begun : (v : Voters) (x : Disks) → IsAllowed v.first → AreMade v.origins → EachSure x (λ image. (n : ℕ) → n < 3 → IsCounted v.first (v.origins n) (image n) (first_held v.first)) → ((me : ℕ) → v.courses me ≡ started 0 0 v.first) → Fits v x (opening_register v.first)
begun v x is made each courses = record {
  history = opening 0 v.first;
  chain = refl;
  proposed = refl;
  first = refl;
  letters = all_none (devices_of v) (opening 0 v.first);
  images = record { each = λ image sure. record { cells = cells; are = are_counted image (each.each image sure); sound = begins 0 v.first cells knows } };
  was = λ n. None;
  begun = inl made;
  shown = record {
    each = λ image sure. record {
      each = λ n low. let k = each.each image sure n low in subst (λ (o : Origin). ShowsOne (devices_of v) o None x.sizes image n) (sym (made n low)) (k.found, k.raw, k.is);
    };
  };
  proposing = λ me. subst (IsProposing (opening 0 v.first) me) (sym (courses me)) (record {
    is = record { place = refl; before = record { each = λ b s proposed. absurd proposed.is }; round = λ r e. absurd cc };
    own = tt;
  });
  courses = λ me. subst (IsCourse (devices_of v)) (sym (courses me)) (record { known = record { is = is; devices_are = refl }; boot = omega arith; out = tt });
  boots = λ who there. subst (λ (c : Course). c.boot ≤ 0) (sym (courses (number_of who))) (omega arith);
  numbers = λ change has. absurd (nothing change has);
  allowed = λ s place. subst IsAllowed (sym place) is;
}
  where
    cells : ℕ → Option Held
    cells n = if ltb n 3 then Some (first_held v.first) else None

    knows : (n : ℕ) (held : Held) → cells n ≡ Some held → KnowsFirst v.first held
    knows n held e = by (ltb n 3) e
      where
        by : (t : Bool) → (if t then Some (first_held v.first) else None) ≡ Some held → KnowsFirst v.first held
        by true k = let one : first_held v.first ≡ held = cc in subst (KnowsFirst v.first) one (record { index = refl; decided = refl; flag = refl })
        by false k = absurd cc

    are_counted : (image : Image) → ((n : ℕ) → n < 3 → IsCounted v.first (v.origins n) (image n) (first_held v.first)) → AreCounted v.first v.origins image cells
    are_counted image has = record {
      some = λ n held e. by n held (ltb n 3) refl e;
      none = λ n held low e counted. let t : ltb n 3 ≡ true = lt-ltb n 3 low in let k = rw t at e in absurd cc;
    }
      where
        by : (n : ℕ) (held : Held) (t : Bool) → ltb n 3 ≡ t → (if t then Some (first_held v.first) else None) ≡ Some held → (n < 3) × IsCounted v.first (v.origins n) (image n) held
        by n held true low k = let three = ltb-true n 3 low in let one : first_held v.first ≡ held = cc in (three, subst (IsCounted v.first (v.origins n) (image n)) one (has n three))
        by n held false high k = absurd cc

-- Each cell stands as it was found, and these told the first state; nothing was done.
pub found_begun : (v : Voters) (x : Disks) (was : ℕ → Option Held) (boot : ℕ) → IsAllowed v.first → HasFound v.first v.origins was → EachSure x (StandsAsFound v.first v.origins was x.sizes) → ((me : ℕ) → v.courses me ≡ started 0 0 v.first) → Fits v x (found_register v.first boot)
found_begun v x was boot is found each courses = record {
  history = new;
  chain = refl;
  proposed = refl;
  first = refl;
  letters = all_none (devices_of v) new;
  images = record { each = λ image sure. record { cells = cells; are = are_counted image (each.each image sure); sound = begins v.first.next_session v.first cells knows } };
  was = was;
  begun = inr found;
  shown = record { each = λ image sure. shows_found v.first v.origins was x.sizes image (each.each image sure) };
  proposing = λ me. subst (IsProposing new me) (sym (courses me)) (record {
    is = record { place = refl; before = record { each = λ b s proposed. absurd proposed.is }; round = λ r e. absurd cc };
    own = tt;
  });
  courses = λ me. subst (IsCourse (devices_of v)) (sym (courses me)) (record { known = record { is = is; devices_are = refl }; boot = omega arith; out = tt });
  boots = λ who there. subst (λ (c : Course). c.boot ≤ boot) (sym (courses (number_of who))) (omega arith);
  numbers = λ change has. absurd (nothing change has);
  allowed = λ s place. subst IsAllowed (sym place) is;
}
  where
    new : History
    new = opening v.first.next_session v.first

    caught : Option Held → Option Held
    caught None = None
    caught (Some raw) = Some (caught_up v.first raw)

    cells : ℕ → Option Held
    cells n = caught (was n)

    was_some : (n : ℕ) (held : Held) → cells n ≡ Some held → (raw : Held) × (was n ≡ Some raw) × (caught_up v.first raw ≡ held)
    was_some n held e = by (was n) refl e
      where
        by : (o : Option Held) → was n ≡ o → caught o ≡ Some held → (raw : Held) × (was n ≡ Some raw) × (caught_up v.first raw ≡ held)
        by None at k = absurd cc
        by (Some raw) at k = (raw, at, cc)

    knows : (n : ℕ) (held : Held) → cells n ≡ Some held → KnowsFirst v.first held
    knows n held e = let k = was_some n held e in subst (KnowsFirst v.first) k.2 (found_knows v.first k.0)

    are_counted : (image : Image) → StandsAsFound v.first v.origins was x.sizes image → AreCounted v.first v.origins image cells
    are_counted image has = record {
      some = λ n held e. let k = was_some n held e in let low = found.low n k.0 k.1 in (low, subst (IsCounted v.first (v.origins n) (image n)) k.2 (some n k.0 (v.origins n) k.1 (has.each n low)));
      none = λ n held low e counted. none n held (v.origins n) e (has.each n low) counted;
    }
      where
        some : (n : ℕ) (raw : Held) (o : Origin) → was n ≡ Some raw → IsAsItWas (devices_of v) o (was n) x.sizes image n → IsCounted v.first o (image n) (caught_up v.first raw)
        some n raw Made at is = absurd is
        some n raw (FoundAs number) at (old, same, label, (it, number_is, is)) = record {
          found = it;
          raw = raw;
          part = omega (arith, number_is);
          is = let one : old ≡ raw = (let e : Some old ≡ Some raw = sym same ∙ at in cc) in subst (IsFound (devices_of v) (image n) it) one is;
          catches = record { as_found = λ k. refl; as_put = λ put. absurd (put number_is) };
        }
        some n raw Apart at is = let bad : None ≡ Some raw = sym is.0 ∙ at in absurd cc

        none : (n : ℕ) (held : Held) (o : Origin) → cells n ≡ None → IsAsItWas (devices_of v) o (was n) x.sizes image n → IsCounted v.first o (image n) held → ⊥
        none n held Made e is counted = is
        none n held (FoundAs number) e (old, same, label, rest) counted = let bad : Some (caught_up v.first old) ≡ None = sym (ap caught same) ∙ e in absurd cc
        none n held Apart e is counted = counted.part
