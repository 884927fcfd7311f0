-- Each step of a proposer is one of the events of voting.
use Rattle.std.proofs.Common.{◌≡◌, ◌≢◌, ℕ, ◌+◌, ◌<◌, max, Option, Some, None, IfSome, IsSomeAnd, refl, sym, ap, subst, ◌∙◌, inl, inr, arith}
use Rattle.std.specs.Option.{option_map}
use Rattle.bx_agreement.specs.Events.{Machine, HistoryStands, Turns}
use Rattle.bx_agreement.specs.History.{ComesBy, ComesNext, HasPromised, HasVoted, History, IsChosen, IsProposed, Promised}
use Rattle.bx_agreement.specs.Passing.{HasSaid, MayPass, promised_by}
use Rattle.bx_agreement.specs.Round.{Counts as CountsIn, IsProposer, IsRound, Round, sending}
use Rattle.bx_agreement.specs.Sound.{Picks, with_change, with_proposal, with_state}
use Rattle.bx_agreement.proofs.Events.{at_change, at_choice, later_change, turned}
use Rattle.bx_agreement.proofs.Propose.{sends_proposal}
use Rattle.bx_agreement.proofs.Rounds.{chooses, goes_on, may_send, other_sends, prepares, restarts, sends}
use Rattle.bx_base.specs.declared.names.Actor.{Actor}
use Rattle.bx_base.specs.declared.names.Actor.TheVariants.{Node, Replica, Server, Member}
use Rattle.bx_facts.specs.Chains.{IsPlace}
use Rattle.bx_global.specs.Table.{IsLegal, effect}
use Rattle.bx_global.specs.declared.change.Change.{Change}
use Rattle.bx_global.specs.declared.held.Held.{Held}
use Rattle.bx_global.specs.declared.state.GlobalState.{GlobalState}
use Rattle.bx_packets.specs.declared.message.Message.{Message}
use Rattle.bx_packets.specs.declared.message.Message.TheVariants.{Ask, Decided, Prepare, Promise as Promising, Accept, Accepted, Refused}
use Rattle.bx_packets.specs.declared.message.Promise.{Promise}
use Rattle.bx_rows.specs.declared.ballot.Ballot.{Ballot}
use Rattle.bx_rounds.specs.Agreement.{Agrees, HistoryGoesOn, IsProposing, MayTell, machine_of, round_by, round_in, round_of}
use Rattle.bx_rounds.specs.Courses.{started, stopped}
use Rattle.bx_rounds.specs.Steps.{Counts, FromReplica, Gathers, Hears, HearsPromise, HearsRefusal, HearsVote, IsVote, Learns, PromiseAt, Proposes, RefusedAt, TickAt, Ticks, VoteAt, fresh, learned, noting, preparing, promised_in, with_out}
use Rattle.bx_rounds.specs.declared.course.Course.{Course}
use Rattle.bx_rounds.specs.declared.course.Move.{Move}
use Rattle.bx_rounds.specs.declared.course.Proposal.{Proposal}
use Rattle.bx_rounds.specs.declared.course.Vouched.{Vouched}

-- ---- what a step may change of a proposer without sending

-- a round was seen
noted : (h : History) (me boot seen round : ℕ) (known : GlobalState) (out : Option Round) → IsProposer h me boot seen known out → IsProposer h me boot (max seen round) known out
noted h me boot seen round known out is = record {
  place = is.place;
  before = record { each = λ b s proposed actor. elim (is.before.each b s proposed actor) [ inl less ↦ inl less | inr same ↦ inr (same.0, omega (arith, same.1)) ] };
  round = λ r e. let it = is.round r e in record {
    actor = it.actor;
    boot_is = it.boot_is;
    drawn = omega (arith, it.drawn);
    next = it.next;
    fresh = it.fresh;
    promise = it.promise;
    sent = it.sent;
    accepted = it.accepted;
  };
}

-- the first promise came
promised_first : (h : History) (me boot seen : ℕ) (known : GlobalState) (r : Round) (p : Promised) → IsProposer h me boot seen known (Some r) → CountsIn h r p → IsProposer h me boot seen known (Some (record r { promise = Some p }))
promised_first h me boot seen known r p is counts = record {
  place = is.place;
  before = is.before;
  round = λ x e. let one : record r { promise = Some p } ≡ x = cc in let it = is.round r refl in subst (λ (y : Round). IsRound h me boot seen y) one record {
    actor = it.actor;
    boot_is = it.boot_is;
    drawn = it.drawn;
    next = it.next;
    fresh = it.fresh;
    promise = λ q same. let k : p ≡ q = cc in subst (λ (y : Promised). CountsIn h (record r { promise = Some p }) y) k (record { is = counts.is; ballot = counts.ballot; index = counts.index });
    sent = it.sent;
    accepted = it.accepted;
  };
}

-- the first replica accepted
accepted_first : (h : History) (me boot seen : ℕ) (known : GlobalState) (r : Round) (n : ℕ) → IsProposer h me boot seen known (Some r) → n < 3 → HasVoted h.votes n r.ballot → IsProposer h me boot seen known (Some (record r { accepted = Some n }))
accepted_first h me boot seen known r n is three voted = record {
  place = is.place;
  before = is.before;
  round = λ x e. let one : record r { accepted = Some n } ≡ x = cc in let it = is.round r refl in subst (λ (y : Round). IsRound h me boot seen y) one record {
    actor = it.actor;
    boot_is = it.boot_is;
    drawn = it.drawn;
    next = it.next;
    fresh = it.fresh;
    promise = λ q same. let c = it.promise q same in record { is = c.is; ballot = c.ballot; index = c.index };
    sent = it.sent;
    accepted = λ m same. let k : n ≡ m = cc in subst (λ (j : ℕ). (j < 3) × HasVoted h.votes j r.ballot) k (three, voted);
  };
}

-- ---- a step of one of the proposers

-- a proposal that was tried less is in the same round
same_round : (b : Option Ballot) (p : Proposal) → round_by b p ≡ round_by b (record p { tries = 0 })
same_round None p = refl
same_round (Some b) p = refl

same : (h : History) → HistoryGoesOn h h
same h = record { grows = inl refl; proposed = refl; proposals = λ b s k. k; promises = refl; votes = refl }

module _ (h : History) (cells : ℕ → Option Held) (old new : ℕ → Machine) (me : ℕ) (stands : HistoryStands h cells old) (to : Course) (turns : Turns me (machine_of to) old new) where
  -- nothing was sent, and the proposer still is one
  stays : (x : Course) → to ≡ x → IsProposing h me x → HistoryStands h cells new × IsProposing h me to
  stays x e is = let here : IsProposing h me to = subst (IsProposing h me) (sym e) is in
      (record { sound = stands.sound; each = turned h old new me (machine_of to) turns here.is (λ m apart. stands.each m) }, here)

  quiet : (x : Course) → to ≡ x → IsProposing h me x → Agrees h cells new me to
  quiet x e is = let both = stays x e is in record { history = h; goes_on = same h; told = inl refl; stands = both.0; proposing = both.1 }

  -- a round is begun anew, for a proposal that makes the next state
  begins_anew : (c : Course) (p : Proposal) → IsProposing h me c → ComesNext h.chain h.proposed p.own → to ≡ preparing me p c → Agrees h cells new me to
  begins_anew c p is next e = quiet (preparing me p c) e (record { is = prepares h me c.boot c.seen c.known p.own (round_of c.out) is.is next; own = next })

  -- a state was chosen that the proposer knows then
  decided : (c : Course) (s : GlobalState) (b : Ballot) → IsProposing h me c → IsChosen h.proposals h.votes s → IsProposed h.proposals b s → to ≡ learned s c → Agrees h cells new me to
  decided c s b is chosen proposed e =
      let next = stands.sound.next b s proposed in
      elim (at_choice h cells old s next.1 stands chosen (next.0, next.2)) [
        | inl d ↦
            let here : IsProposing h me to = subst (IsProposing h me) (sym e) (record { is = record { place = d.place; before = is.is.before; round = λ r k. absurd cc }; own = tt }) in
            record {
              history = h;
              goes_on = same h;
              told = inl refl;
              stands = record { sound = d.stands.sound; each = turned h old new me (machine_of to) turns here.is (λ m apart. d.stands.each m) };
              proposing = here;
            }
        | inr d ↦
            let grown_h : History = with_state next.1 h in
            let here : IsProposing grown_h me to = subst (IsProposing grown_h me) (sym e) (record { is = record { place = d.place; before = is.is.before; round = λ r k. absurd cc }; own = tt }) in
            record {
              history = grown_h;
              goes_on = record { grows = d.grows; proposed = refl; proposals = λ a t k. k; promises = refl; votes = refl };
              told = elim d.told [ inl stays ↦ inl stays | inr is ↦ inr (ap (λ (x : Course). x.known) e ∙ is) ];
              stands = record { sound = d.stands.sound; each = turned grown_h old new me (machine_of to) turns here.is (λ m apart. d.stands.each m) };
              proposing = here;
            }
      ]

  -- ---- the proposal that is out

  as_round : (c : Course) (p : Proposal) (b : Ballot) → c.out ≡ Some p → p.ballot ≡ Some b → IsProposing h me c → IsProposer h me c.boot c.seen c.known (Some (round_in b p))
  as_round c p b at in_it is = subst (λ (o : Option Round). IsProposer h me c.boot c.seen c.known o) (ap round_of at ∙ ap (λ (o : Option Ballot). round_by o p) in_it) is.is

  own_of : (c : Course) (p : Proposal) → c.out ≡ Some p → IsProposing h me c → ComesNext h.chain h.proposed p.own
  own_of c p at is = subst (λ (o : Option Proposal). IfSome o (λ x. ComesNext h.chain h.proposed x.own)) at is.own

  put_back : (c : Course) (p : Proposal) → c.out ≡ Some p → IsProposing h me c → IsProposing h me (with_out p c)
  put_back c p at is = record { is = subst (λ (o : Option Proposal). IsProposer h me c.boot c.seen c.known (round_of o)) at is.is; own = own_of c p at is }

  -- another form of the proposal, whose round in its ballot is this
  put_so : (c : Course) (p x : Proposal) (b : Ballot) → c.out ≡ Some p → p.ballot ≡ Some b → x.own ≡ p.own → round_of (Some x) ≡ Some (round_in b x) → IsProposing h me c → IsProposer h me c.boot c.seen c.known (Some (round_in b x)) → IsProposing h me (with_out x c)
  put_so c p x b at in_it owns rounds is now = record {
    is = subst (λ (o : Option Round). IsProposer h me c.boot c.seen c.known o) (sym rounds) now;
    own = subst (λ (s : GlobalState). ComesNext h.chain h.proposed s) (sym owns) (own_of c p at is);
  }

  -- ---- promises

  picks_next : (p q : Promised) (own s : GlobalState) → HasPromised h.promises p → HasPromised h.promises q → ComesNext h.chain h.proposed own → Picks p q own s → ComesNext h.chain h.proposed s
  picks_next p q own s one other next (inl (none, e)) = subst (λ (x : GlobalState). ComesNext h.chain h.proposed x) (sym e) next
  picks_next p q own s one other next (inr (inl (flag, e, least))) = subst (λ (x : GlobalState). ComesNext h.chain h.proposed x) (sym e) (stands.sound.next p.accepted p.state ((stands.sound.promises p one).proposed flag))
  picks_next p q own s one other next (inr (inr (flag, e, least))) = subst (λ (x : GlobalState). ComesNext h.chain h.proposed x) (sym e) (stands.sound.next q.accepted q.state ((stands.sound.promises q other).proposed flag))

  -- two have promised: a state is sent that both allow
  second_promise : (c : Course) (p : Proposal) (v : Vouched) (n : ℕ) (q : Promise) (s : GlobalState) → c.out ≡ Some p → p.promise ≡ Some v → v.replica ≢ n → Counts p q → IsProposing h me c → HasPromised h.promises (promised_by n q)
      → Picks (promised_in v) (promised_by n q) p.own s → to ≡ with_out (record p { sent = Some s }) c → Agrees h cells new me to
  second_promise c p v n q s at first differ counts is has picks e =
      let now = as_round c p q.ballot at counts.ballot is in
      let it = now.round (round_in q.ballot p) refl in
      let first_is : option_map promised_in p.promise ≡ Some (promised_in v) = ap (option_map promised_in) first in
      let one = it.promise (promised_in v) first_is in
      let two : CountsIn h (round_in q.ballot p) (promised_by n q) = record { is = has; ballot = refl; index = sym counts.index } in
      let next = picks_next (promised_in v) (promised_by n q) p.own s one.is has (own_of c p at is) picks in
      let change : Change = next.1 in
      let by : ComesBy h.chain h.proposed change s = (next.0, next.2) in
      let sent_h : History = with_proposal q.ballot s change h in
      let in_ballot : round_of (Some (record p { sent = Some s })) ≡ Some (sending s (round_in q.ballot p)) = ap (λ (o : Option Ballot). round_by o (record p { sent = Some s })) counts.ballot in
      let there : IsProposing sent_h me (with_out (record p { sent = Some s }) c) = record {
        is = subst (λ (o : Option Round). IsProposer sent_h me c.boot c.seen c.known o) (sym in_ballot) (sends h me c.boot c.seen c.known (round_in q.ballot p) s change now);
        own = own_of c p at is;
      } in
      let here : IsProposing sent_h me to = subst (IsProposing sent_h me) (sym e) there in
      record {
        history = sent_h;
        goes_on = record { grows = inl refl; proposed = refl; proposals = λ a t k. record { is = inr k.is }; promises = refl; votes = refl };
        told = inl refl;
        stands = record {
          sound = sends_proposal h cells stands.sound q.ballot p.own s change (promised_in v) (promised_by n q)
              (may_send h me c.boot c.seen (round_in q.ballot p) (promised_in v) (promised_by n q) s change by it counts.unsent first_is two differ picks);
          each = turned sent_h old new me (machine_of to) turns here.is
              (λ m apart. other_sends h m (old m).boot (old m).seen (old m).known (old m).out q.ballot s change (stands.each m) (λ k. apart (sym k ∙ it.actor)));
        };
        proposing = here;
      }

  gathers : (c : Course) (p x : Proposal) (n : ℕ) (q : Promise) (move : Move) → c.out ≡ Some p → IsProposing h me c → HasPromised h.promises (promised_by n q) → Gathers p n q x move → to ≡ with_out x c → Agrees h cells new me to
  gathers c p x n q move at is has (inl (passed, e, silent)) to_is = quiet (with_out x c) to_is (subst (λ (y : Proposal). IsProposing h me (with_out y c)) (sym e) (put_back c p at is))
  gathers c p x n q move at is has (inr (inl (counts, none, e, silent))) to_is =
      quiet (with_out x c) to_is (subst (λ (y : Proposal). IsProposing h me (with_out y c)) (sym e)
      (put_so c p (record p { promise = Some (record { replica = n; promise = q }) }) q.ballot at counts.ballot refl (ap (λ (o : Option Ballot). round_by o (record p { promise = Some (record { replica = n; promise = q }) })) counts.ballot) is
      (promised_first h me c.boot c.seen c.known (round_in q.ballot p) (promised_by n q) (as_round c p q.ballot at counts.ballot is) (record { is = has; ballot = refl; index = sym counts.index }))))
  gathers c p x n q move at is has (inr (inr (counts, another, picks, says))) to_is = by p.promise x.sent refl another picks
    where
      by : (first : Option Vouched) (sent : Option GlobalState) → p.promise ≡ first → IsSomeAnd first (λ v. v.replica ≢ n) → IsSomeAnd sent (λ s. IsSomeAnd first (λ v. Picks (promised_in v) (promised_by n q) p.own s) × (x ≡ record p { sent = Some s })) → Agrees h cells new me to
      by None sent first other k = absurd other
      by (Some v) None first other k = absurd k
      by (Some v) (Some s) first other k = second_promise c p v n q s at first other counts is has k.0 (to_is ∙ ap (λ (y : Proposal). with_out y c) k.1)

  promise_at : (out : Option Proposal) (c : Course) (n : ℕ) (q : Promise) (move : Move) → c.out ≡ out → IsProposing h me c → HasPromised h.promises (promised_by n q) → PromiseAt out c n q to move → Agrees h cells new me to
  promise_at None c n q move at is has x = quiet c x.0 is
  promise_at (Some p) c n q move at is has x = by to.out x
    where
      by : (made : Option Proposal) → IsSomeAnd made (λ y. Gathers p n q y move × (to ≡ with_out y c)) → Agrees h cells new me to
      by None y = absurd y
      by (Some y) (does, e) = gathers c p y n q move at is has does e

  -- ---- acceptances

  second_vote : (c : Course) (p : Proposal) (n m : ℕ) (b : Ballot) (s : GlobalState) (index : ℕ) → c.out ≡ Some p → p.accepted ≡ Some m → m ≢ n → p.sent ≡ Some s → n < 3 → IsVote p b index → IsProposing h me c → HasVoted h.votes n b → to ≡ learned s c → Agrees h cells new me to
  second_vote c p n m b s index at first differ sent three vote is voted e =
      let now = as_round c p b at vote.ballot is in
      let it = now.round (round_in b p) refl in
      decided c s b is (chooses h me c.boot c.seen (round_in b p) s m n it sent first three differ voted) (it.sent s sent) e

  votes : (c : Course) (p : Proposal) (n : ℕ) (b : Ballot) (index : ℕ) (move : Move) → c.out ≡ Some p → n < 3 → IsProposing h me c → HasVoted h.votes n b → VoteAt (Some p) c n b index to move → Agrees h cells new me to
  votes c p n b index move at three is voted (inl (passed, e, silent)) = quiet (with_out p c) e (put_back c p at is)
  votes c p n b index move at three is voted (inr (inl (vote, none, e, silent))) =
      quiet (with_out (record p { accepted = Some n }) c) e
      (put_so c p (record p { accepted = Some n }) b at vote.ballot refl (ap (λ (o : Option Ballot). round_by o (record p { accepted = Some n })) vote.ballot) is
      (accepted_first h me c.boot c.seen c.known (round_in b p) n (as_round c p b at vote.ballot is) three voted))
  votes c p n b index move at three is voted (inr (inr (vote, another, knows, says))) = by p.accepted p.sent refl refl another knows
    where
      by : (first : Option ℕ) (sent : Option GlobalState) → p.accepted ≡ first → p.sent ≡ sent → IsSomeAnd first (λ m. m ≢ n) → IsSomeAnd sent (λ s. to ≡ learned s c) → Agrees h cells new me to
      by None sent one state other k = absurd other
      by (Some m) None one state other k = absurd k
      by (Some m) (Some s) one state other k = second_vote c p n m b s index at one other state three vote is voted k

  vote_at : (out : Option Proposal) (c : Course) (n : ℕ) (b : Ballot) (index : ℕ) (move : Move) → c.out ≡ out → n < 3 → IsProposing h me c → HasVoted h.votes n b → VoteAt out c n b index to move → Agrees h cells new me to
  vote_at None c n b index move at three is voted x = quiet c x.0 is
  vote_at (Some p) c n b index move at three is voted x = votes c p n b index move at three is voted x

  -- ---- refusals, and ticks

  refused : (out : Option Proposal) (c : Course) (index : ℕ) (b : Ballot) (move : Move) → c.out ≡ out → IsProposing h me c → RefusedAt me out c index b to move → Agrees h cells new me to
  refused None c index b move at is x = quiet c x.0 is
  refused (Some p) c index b move at is (inl (over, e, says)) = begins_anew c (record p { tries = p.tries + 1 }) is (own_of c p at is) e
  refused (Some p) c index b move at is (inr (not_over, e, silent)) = quiet (with_out p c) e (put_back c p at is)

  untried : (c : Course) (p : Proposal) → c.out ≡ Some p → IsProposing h me c → IsProposing h me (with_out (record p { tries = 0 }) c)
  untried c p at is = record { is = subst (λ (o : Option Round). IsProposer h me c.boot c.seen c.known o) (ap round_of at ∙ same_round p.ballot p) is.is; own = own_of c p at is }

  ticked : (out : Option Proposal) (c : Course) (move : Move) → c.out ≡ out → IsProposing h me c → TickAt me out c to move → Agrees h cells new me to
  ticked None c move at is x = quiet c x.0 is
  ticked (Some p) c move at is (inl (late, e, says)) = begins_anew c (record p { tries = 0 }) is (own_of c p at is) e
  ticked (Some p) c move at is (inr (early, e, silent)) = quiet (with_out (record p { tries = 0 }) c) e (untried c p at is)

  -- ---- each message

  noted_now : (c : Course) (round : ℕ) → IsProposing h me c → IsProposing h me (noting round c)
  noted_now c round is = record { is = noted h me c.boot c.seen round c.known (round_of c.out) is.is; own = is.own }

  by_replica : (from : Actor) (c : Course) (Has : ℕ → Type 0) (hears : ℕ → Course → Move → Type 0) (move : Move) → IsProposing h me c → HasSaid from Has → ((n : ℕ) → n < 3 → Has n → hears n to move → Agrees h cells new me to) → FromReplica from c hears to move → Agrees h cells new me to
  by_replica (Node m) c Has hears move is said does x = quiet c x.0 is
  by_replica (Replica m) c Has hears move is said does (inl (there, x)) = does m there said x
  by_replica (Replica m) c Has hears move is said does (inr (far, e, silent)) = quiet c e is
  by_replica (Server m) c Has hears move is said does x = quiet c x.0 is
  by_replica (Member m) c Has hears move is said does x = quiet c x.0 is

  by_any : (from : Actor) (c : Course) (hears : ℕ → Course → Move → Type 0) (move : Move) → IsProposing h me c → ((n : ℕ) → hears n to move → Agrees h cells new me to) → FromReplica from c hears to move → Agrees h cells new me to
  by_any (Node m) c hears move is does x = quiet c x.0 is
  by_any (Replica m) c hears move is does (inl (there, x)) = does m x
  by_any (Replica m) c hears move is does (inr (far, e, silent)) = quiet c e is
  by_any (Server m) c hears move is does x = quiet c x.0 is
  by_any (Member m) c hears move is does x = quiet c x.0 is

  learns : (c : Course) (s : GlobalState) → IsProposing h me c → IsPlace h.chain s → Learns c s to → Agrees h cells new me to
  learns c s is place (inl (newer, e)) = quiet (learned s c) e (record { is = record { place = place; before = is.is.before; round = λ r k. absurd cc }; own = tt })
  learns c s is place (inr (older, e)) = quiet c e is

  pub heard : (c : Course) (from : Actor) (m : Message) (move : Move) → IsProposing h me c → MayPass h from m → Hears me c from m to move → Agrees h cells new me to
  heard c from Ask move is may x = quiet c x.0 is
  heard c from (Decided s) move is may x = learns c s is may x.0
  heard c from (Prepare b s) move is may x = quiet c x.0 is
  heard c from (Promising q) move is may x =
      by_replica from c (λ n. HasPromised h.promises (promised_by n q)) (λ n. HearsPromise c n q) move is may
      (λ n there has k. promise_at c.out (noting q.accepted.round (noting q.ballot.round c)) n q move refl (noted_now (noting q.ballot.round c) q.accepted.round (noted_now c q.ballot.round is)) has k) x
  heard c from (Accept b s) move is may x = quiet c x.0 is
  heard c from (Accepted b index) move is may x =
      by_replica from c (λ n. HasVoted h.votes n b) (λ n. HearsVote c n b index) move is may
      (λ n there has k. vote_at c.out (noting b.round c) n b index move refl there (noted_now c b.round is) has k) x
  heard c from (Refused index b) move is may x =
      by_any from c (λ n. HearsRefusal me c index b) move is (λ n k. refused c.out (noting b.round c) index b move refl (noted_now c b.round is) k) x

  pub ticks : (c : Course) (move : Move) → IsProposing h me c → Ticks me c to move → Agrees h cells new me to
  ticks c move is x = ticked c.out c move refl is x

  pub stops : (c : Course) → IsProposing h me c → to ≡ stopped c → HistoryStands h cells new × IsProposing h me to
  stops c is e = stays (stopped c) e (record { is = record { place = is.is.place; before = is.is.before; round = λ r k. absurd cc }; own = tt })

  pub starts : (c : Course) (later reading : ℕ) (first : GlobalState) → IsProposing h me c → c.boot < later → IsPlace h.chain first → to ≡ started later reading first → HistoryStands h cells new × IsProposing h me to
  starts c later reading first is above place e = stays (started later reading first) e (record { is = restarts h me c.boot c.seen later c.known first (round_of c.out) is.is above place; own = tt })

-- ---- a change is handed in, and proposed

pub proposes : (h : History) (cells : ℕ → Option Held) (old new : ℕ → Machine) (me : ℕ) (c to : Course) (change : Change) (move : Move) → HistoryStands h cells old → IsProposing h me c → IsLegal c.known change → Proposes me c change to move
    → Turns me (machine_of to) old new → HistoryStands (with_change change h) cells new × IsProposing (with_change change h) me to
proposes h cells old new me c to change move stands is legal does turns = by does
  where
    with_it : History
    with_it = with_change change h

    now : HistoryStands with_it cells old
    now = at_change h cells old change stands

    still : IsProposer with_it me c.boot c.seen c.known (round_of c.out)
    still = goes_on h with_it me c.boot c.seen c.known (round_of c.out) is.is (later_change h change)

    next : ComesNext with_it.chain with_it.proposed (effect c.known change)
    next = (c.known, change, record { stands = is.is.place; is_handed = (0, omega arith, refl); legal = legal; is = refl })

    made : Proposal
    made = fresh (effect c.known change) c.reading

    by : Proposes me c change to move → HistoryStands with_it cells new × IsProposing with_it me to
    by (inl (room, e, says)) = stays with_it cells old new me now to turns (preparing me made c) e (record { is = prepares with_it me c.boot c.seen c.known made.own (round_of c.out) still next; own = next })
    by (inr (none, e, silent)) = stays with_it cells old new me now to turns (with_out made c) e (record { is = record { place = still.place; before = still.before; round = λ r k. absurd cc }; own = next })

-- ---- what it sends

pub may_tell : (h : History) (me : ℕ) (c : Course) → IsProposing h me c → MayTell h c
may_tell h me c is = record {
  known = is.is.place;
  sent = λ p b s at in_it sent. (is.is.round (round_in b p) (ap round_of at ∙ ap (λ (o : Option Ballot). round_by o p) in_it)).sent s sent;
}
