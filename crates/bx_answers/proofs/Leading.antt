-- No message makes an acceptor forget.
use Rattle.std.proofs.Common.{◌≡◌, ◌+◌, ◌<◌, ◌≤◌, Option, refl, sym, subst, arith, inl, inr}
use Rattle.bx_global.specs.declared.held.Held.{Held}
use Rattle.bx_global.specs.declared.state.GlobalState.{GlobalState}
use Rattle.bx_rows.specs.declared.ballot.Ballot.{Ballot}
use Rattle.bx_packets.specs.declared.message.Message.{Message}
use Rattle.bx_packets.specs.declared.message.Message.TheVariants.{Ask, Decided, Prepare, Promise as Promising, Accept, Accepted, Refused}
use Rattle.bx_answers.specs.Handling.{AtMost, Handles, Learns, Prepares, Promises, Votes, caught_up}

-- what is held leads on
pub record LeadsOn (held new : Held) : Type 0 where
  pub known : held.decided.index ≤ new.decided.index
  pub promise : AtMost held.promise new.promise
  pub index : held.index ≡ held.decided.index + 1 → new.index ≡ new.decided.index + 1

same : (held new : Held) → new ≡ held → LeadsOn held new
same held new e = subst (LeadsOn held) (sym e) (record { known = omega arith; promise = inl refl; index = λ i. i })

learns : (held new : Held) (s : GlobalState) → Learns held s new → LeadsOn held new
learns held new s (inl (newer, e)) = subst (LeadsOn held) (sym e) (record { known = omega arith; promise = inl refl; index = λ i. refl })
learns held new s (inr (older, e)) = same held new e

promises : (held new : Held) (b : Ballot) (answer : Option Message) → Promises held b new answer → LeadsOn held new
promises held new b answer (inl (above, e, says)) = subst (LeadsOn held) (sym e) (record { known = omega arith; promise = inr above; index = λ i. i })
promises held new b answer (inr (below, e, says)) = same held new e

onto : (held new : Held) (s : GlobalState) → held.decided.index < s.index → LeadsOn (caught_up s held) new → LeadsOn held new
onto held new s newer on = record { known = omega (arith, on.known); promise = on.promise; index = λ i. on.index refl }

prepares : (held new : Held) (b : Ballot) (s : GlobalState) (answer : Option Message) → Prepares held b s new answer → LeadsOn held new
prepares held new b s answer (inl (older, e, says)) = same held new e
prepares held new b s answer (inr (inl (newer, p))) = onto held new s newer (promises (caught_up s held) new b answer p)
prepares held new b s answer (inr (inr (equal, p))) = promises held new b answer p

votes : (held new : Held) (b : Ballot) (s : GlobalState) (answer : Option Message) → Votes held b s new answer → LeadsOn held new
votes held new b s answer (inl (later, e, says)) = same held new e
votes held new b s answer (inr (inl (earlier, e, says))) = same held new e
votes held new b s answer (inr (inr (inl (equal, below, e, says)))) = same held new e
votes held new b s answer (inr (inr (inr (equal, least, e, says)))) = subst (LeadsOn held) (sym e) (record { known = omega arith; promise = least; index = λ i. i })

pub leads_on : (held new : Held) (m : Message) (answer : Option Message) → Handles held m new answer → LeadsOn held new
leads_on held new Ask answer h = same held new h.0
leads_on held new (Decided s) answer h = learns held new s h.0
leads_on held new (Prepare b s) answer h = prepares held new b s answer h
leads_on held new (Promising promise) answer h = same held new h.0
leads_on held new (Accept b s) answer h = votes held new b s answer h
leads_on held new (Accepted b index) answer h = same held new h.0
leads_on held new (Refused index b) answer h = same held new h.0
