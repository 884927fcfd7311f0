-- The two halves of a replica's machine stay together, and what the acceptor knows stays a place of the chain.
use Rattle.std.proofs.Common.{◌≡◌, ℕ, ◌<◌, List, ◌++◌, length, Option, refl, sym, ap, subst, ◌∙◌, inl, inr, arith}
use Rattle.std.proofs.lemmas.Bool.{false≢true}
use Rattle.bx_answers.specs.Handling.{Handles, MayBecome, Promises, Votes, caught_up}
use Rattle.bx_acceptor.specs.Standing.{BecomesBy, IsAcceptorView as IsAcceptor, AcceptorView as Acceptor}
use Rattle.bx_agreement.specs.History.{History}
use Rattle.bx_agreement.specs.Passing.{MayCome}
use Rattle.bx_base.specs.declared.names.Actor.TheVariants.{Replica}
use Rattle.bx_disk.specs.Disks.{Disks}
use Rattle.bx_facts.specs.Chains.{Chain, IsPlace}
use Rattle.bx_facts.specs.Inputs.{IsComing}
use Rattle.bx_facts.specs.Pasts.{RegisterPast, register_with}
use Rattle.bx_facts.specs.declared.input.Input.{Input}
use Rattle.bx_facts.specs.declared.input.Input.TheVariants.{Packet, Tick, Synced}
use Rattle.bx_global.specs.declared.held.Held.{Held}
use Rattle.bx_global.specs.declared.state.GlobalState.{GlobalState}
use Rattle.bx_packets.specs.Messages.{Spells}
use Rattle.bx_packets.specs.declared.message.Message.{Message}
use Rattle.bx_packets.specs.declared.message.Message.TheVariants.{Ask, Decided, Prepare, Promise as Promising, Accept, Accepted, Refused}
use Rattle.bx_post.specs.Posts.{letter_of}
use Rattle.bx_post.specs.declared.packets.Letter.{Letter}
use Rattle.bx_rounds.specs.Courses.{LeadsOn}
use Rattle.bx_proposer.specs.Standing.{IsProposerView as IsProposer, ProposerView as Proposer, going_on}
use Rattle.bx_rounds.specs.Steps.{Learns}
use Rattle.bx_rounds.specs.declared.course.Course.{Course}
use Rattle.bx_rows.specs.declared.ballot.Ballot.{Ballot}
use Rattle.bx_paxos.specs.Fits.{Fits, Voters, devices_of}
use Rattle.bx_paxos.specs.Machines.{AreHalves, IsSame}
use Rattle.bx_paxos.proofs.Events.{may_come, to_replica}

-- ---- the halves

pub halves_stay : (a b : Acceptor) (p q : Proposer) → AreHalves a p → IsSame a b p q → IsAcceptor b → IsProposer q → AreHalves b q
halves_stay a b p q halves same is_b is_q = record {
  low = subst (λ (n : ℕ). n < 3) (sym same.replica) halves.low;
  at = ap (λ (s : Proposer). s.at) same.proposer ∙ halves.at ∙ ap Replica (sym same.replica);
  first = ap (λ (s : Proposer). s.first) same.proposer ∙ halves.first ∙ sym same.first;
  acceptor = is_b;
  proposer = is_q;
}

-- one step of the proposer after the other
pub going_twice : (p m q : Proposer) → m ≡ going_on p m.course → q ≡ going_on m q.course → q ≡ going_on p q.course
going_twice p m q one other = other ∙ ap (λ (s : Proposer). going_on s q.course) one

-- ---- what it knows

promised_place : (chain : Chain) (held new : Held) (b : Ballot) (answer : Option Message) → Promises held b new answer → IsPlace chain held.decided → IsPlace chain new.decided
promised_place chain held new b answer (inl (later, e, says)) place = subst (λ (x : Held). IsPlace chain x.decided) (sym e) place
promised_place chain held new b answer (inr (not_later, e, says)) place = subst (λ (x : Held). IsPlace chain x.decided) (sym e) place

voted_place : (chain : Chain) (held new : Held) (b : Ballot) (s : GlobalState) (answer : Option Message) → Votes held b s new answer → IsPlace chain held.decided → IsPlace chain new.decided
voted_place chain held new b s answer (inl (ahead, e, says)) place = subst (λ (x : Held). IsPlace chain x.decided) (sym e) place
voted_place chain held new b s answer (inr (inl (behind, e, says))) place = subst (λ (x : Held). IsPlace chain x.decided) (sym e) place
voted_place chain held new b s answer (inr (inr (inl (level, below, e, says)))) place = subst (λ (x : Held). IsPlace chain x.decided) (sym e) place
voted_place chain held new b s answer (inr (inr (inr (level, least, e, says)))) place = subst (λ (x : Held). IsPlace chain x.decided) (sym e) place

handled_place : (h : History) (held new : Held) (message : Message) (answer : Option Message) → MayCome h message → Handles held message new answer → IsPlace h.chain held.decided → IsPlace h.chain new.decided
handled_place h held new Ask answer may does place = subst (λ (x : Held). IsPlace h.chain x.decided) (sym does.0) place
handled_place h held new (Decided s) answer may (inl (newer, e), silent) place = subst (λ (x : Held). IsPlace h.chain x.decided) (sym e) may
handled_place h held new (Decided s) answer may (inr (older, e), silent) place = subst (λ (x : Held). IsPlace h.chain x.decided) (sym e) place
handled_place h held new (Prepare b s) answer may (inl (older, e, says)) place = subst (λ (x : Held). IsPlace h.chain x.decided) (sym e) place
handled_place h held new (Prepare b s) answer may (inr (inl (newer, does))) place = promised_place h.chain (caught_up s held) new b answer does may
handled_place h held new (Prepare b s) answer may (inr (inr (level, does))) place = promised_place h.chain held new b answer does place
handled_place h held new (Promising p) answer may does place = subst (λ (x : Held). IsPlace h.chain x.decided) (sym does.0) place
handled_place h held new (Accept b s) answer may does place = voted_place h.chain held new b s answer does place
handled_place h held new (Accepted b i) answer may does place = subst (λ (x : Held). IsPlace h.chain x.decided) (sym does.0) place
handled_place h held new (Refused i b) answer may does place = subst (λ (x : Held). IsPlace h.chain x.decided) (sym does.0) place

-- what comes makes it know a place, at every outcome
pub became_place : (v : Voters) (x : Disks) (past : RegisterPast) (a : Acceptor) (now : Held) (input : Input) (out : List Letter) → Fits v x (register_with past out) → v.first ≡ a.first → IsComing (past.letters ++ out) input → BecomesBy a input now → IsPlace past.chain a.held.decided → IsPlace past.chain now.decided
became_place v x past a now input out f first comes became place = by input comes became
  where
    by_message : (m : Message) → MayCome f.history m → MayBecome a.held m now → IsPlace past.chain now.decided
    by_message m may (inl same) = subst (λ (k : Held). IsPlace past.chain k.decided) (sym same) place
    by_message m may (inr (answer, does)) =
        subst (λ (c : Chain). IsPlace c now.decided) f.chain (handled_place f.history a.held now m answer may does (subst (λ (c : Chain). IsPlace c a.held.decided) (sym f.chain) place))

    by : (i : Input) → IsComing (past.letters ++ out) i → BecomesBy a i now → IsPlace past.chain now.decided
    by i coming (inl same) = subst (λ (k : Held). IsPlace past.chain k.decided) (sym same) place
    by (Packet packet reading) coming (inr (message, from, brings, becomes)) =
        let says : Spells (devices_of v) message packet.now.kind packet.now.body = subst (λ (s : GlobalState). Spells (length s.devices) message packet.now.kind packet.now.body) (sym first) brings.0 in
        by_message message (to_replica f.history packet.now.from message (may_come v x (register_with past out) f (letter_of packet.now) message coming says)) becomes
    by (Tick reading) coming (inr (message, from, brings, becomes)) = absurd brings
    by Synced coming (inr (message, from, brings, becomes)) = absurd brings

-- ---- what its proposer knows

pub learn_on : (c new : Course) (s : GlobalState) → Learns c s new → LeadsOn c new
learn_on c new s (inl (newer, e)) = subst (LeadsOn c) (sym e) (record { boot = refl; rises = omega (arith, newer); still = λ busy k. absurd (omega (arith, newer, k)); was = λ busy. absurd (false≢true busy) })
learn_on c new s (inr (older, e)) = subst (LeadsOn c) (sym e) (record { boot = refl; rises = omega arith; still = λ busy k. busy; was = λ busy. (busy, refl) })

pub leads_twice : (a b c : Course) → LeadsOn a b → LeadsOn b c → LeadsOn a c
leads_twice a b c one other =
    let up = one.rises in
    let on = other.rises in
    record {
      boot = other.boot ∙ one.boot;
      rises = omega (arith, up, on);
      still = λ busy level. let mid : b.known.index ≡ a.known.index = omega (arith, up, on, level) in other.still (one.still busy mid) (omega (arith, mid, level));
      was = λ busy. let before = other.was busy in let first = one.was before.0 in (first.0, before.1 ∙ first.1);
    }
