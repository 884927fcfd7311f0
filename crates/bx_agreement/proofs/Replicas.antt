-- A replica handles a message.
use Rattle.std.proofs.Common.{◌≡◌, ℕ, ◌<◌, refl, sym, ap, subst, ◌∙◌, inl, inr}
use Rattle.std.specs.Prelude.{Option, Some, None}
use Rattle.bx_answers.specs.Handling.{Handles, Learns, Prepares, Promises, Votes, accepting, caught_up, promise_of, raised}
use Rattle.bx_rows.specs.declared.ballot.Ballot.{Ballot}
use Rattle.bx_global.specs.declared.held.Held.{Held}
use Rattle.bx_global.specs.declared.state.GlobalState.{GlobalState}
use Rattle.bx_facts.specs.Chains.{IsPlace}
use Rattle.bx_agreement.specs.History.{History, IsProposed}
use Rattle.bx_agreement.specs.Sound.{IsSound, IsCell, Puts}
use Rattle.bx_packets.specs.declared.message.Message.{Message}
use Rattle.bx_packets.specs.declared.message.Message.TheVariants.{Ask, Decided, Prepare, Promise as Promising, Accept, Accepted, Refused}
use Rattle.bx_agreement.specs.Passing.{MayCome, answered}
use Rattle.bx_agreement.proofs.Cells.{put, raises, accepts, catches_up}
use Rattle.bx_agreement.proofs.Sent.{sends_promise, sends_vote}

takes : (h : History) (n : ℕ) (held new : Held) (s : GlobalState) → IsCell h n held → IsPlace h.chain s → Learns held s new → IsCell h n new
takes h n held new s is place (inl k) = subst (λ (x : Held). IsCell h n x) (sym k.1) (catches_up h n held s is place k.0)
takes h n held new s is place (inr k) = subst (λ (x : Held). IsCell h n x) (sym k.1) is

promises : (h : History) (n : ℕ) (held new : Held) (b : Ballot) (answer : Option Message) → IsCell h n held → Promises held b new answer → IsCell h n new
promises h n held new b answer is (inl k) = subst (λ (x : Held). IsCell h n x) (sym k.1) (raises h n held b is k.0)
promises h n held new b answer is (inr k) = subst (λ (x : Held). IsCell h n x) (sym k.1) is

prepares : (h : History) (n : ℕ) (held new : Held) (b : Ballot) (s : GlobalState) (answer : Option Message) → IsCell h n held → IsPlace h.chain s → Prepares held b s new answer → IsCell h n new
prepares h n held new b s answer is place (inl k) = subst (λ (x : Held). IsCell h n x) (sym k.1) is
prepares h n held new b s answer is place (inr (inl k)) = promises h n (caught_up s held) new b answer (catches_up h n held s is place k.0) k.1
prepares h n held new b s answer is place (inr (inr k)) = promises h n held new b answer is k.1

votes : (h : History) (n : ℕ) (held new : Held) (b : Ballot) (s : GlobalState) (answer : Option Message) → IsCell h n held → IsProposed h.proposals b s → Votes held b s new answer → IsCell h n new
votes h n held new b s answer is proposed (inl k) = subst (λ (x : Held). IsCell h n x) (sym k.1) is
votes h n held new b s answer is proposed (inr (inl k)) = subst (λ (x : Held). IsCell h n x) (sym k.1) is
votes h n held new b s answer is proposed (inr (inr (inl k))) = subst (λ (x : Held). IsCell h n x) (sym k.2) is
votes h n held new b s answer is proposed (inr (inr (inr k))) = subst (λ (x : Held). IsCell h n x) (sym k.2) (accepts h n held b s is proposed k.0 k.1)

-- what it holds afterwards may stand in an image before it has answered
pub handles_cell : (h : History) (n : ℕ) (held new : Held) (message : Message) (answer : Option Message) → IsCell h n held → MayCome h message → Handles held message new answer → IsCell h n new
handles_cell h n held new Ask answer is may k = subst (λ (x : Held). IsCell h n x) (sym k.0) is
handles_cell h n held new (Decided s) answer is may k = takes h n held new s is may k.0
handles_cell h n held new (Prepare b s) answer is may k = prepares h n held new b s answer is may k
handles_cell h n held new (Promising p) answer is may k = subst (λ (x : Held). IsCell h n x) (sym k.0) is
handles_cell h n held new (Accept b s) answer is may k = votes h n held new b s answer is may k
handles_cell h n held new (Accepted b i) answer is may k = subst (λ (x : Held). IsCell h n x) (sym k.0) is
handles_cell h n held new (Refused i b) answer is may k = subst (λ (x : Held). IsCell h n x) (sym k.0) is

-- .. and all is sound once it has answered.
pub answers : (h : History) (cells : ℕ → Option Held) (n : ℕ) (held new : Held) (message : Message) (answer : Option Message) → IsSound h cells → n < 3 → cells n ≡ Some new
    → Handles held message new answer → IsSound (answered n answer h) cells
answers h cells n held new message answer is three at does = by message does
  where
    as_it_was : (a : Option Message) → answer ≡ a → IsSound (answered n a h) cells → IsSound (answered n answer h) cells
    as_it_was a same sound = subst (λ (x : Option Message). IsSound (answered n x h) cells) (sym same) sound

    promising_it : (mid : Held) (b : Ballot) → Promises mid b new answer → IsSound (answered n answer h) cells
    promising_it mid b (inl k) = as_it_was (Some (Promising (promise_of (raised b mid)))) k.2 (sends_promise h cells n (raised b mid) is three (at ∙ ap (λ (x : Held). Some x) k.1))
    promising_it mid b (inr k) = as_it_was (Some (Refused mid.index mid.promise)) k.2 is

    preparing : (b : Ballot) (s : GlobalState) → Prepares held b s new answer → IsSound (answered n answer h) cells
    preparing b s (inl k) = as_it_was (Some (Decided held.decided)) k.2 is
    preparing b s (inr (inl k)) = promising_it (caught_up s held) b k.1
    preparing b s (inr (inr k)) = promising_it held b k.1

    accepting_it : (b : Ballot) (s : GlobalState) → Votes held b s new answer → IsSound (answered n answer h) cells
    accepting_it b s (inl k) = as_it_was None k.2 is
    accepting_it b s (inr (inl k)) = as_it_was (Some (Decided held.decided)) k.2 is
    accepting_it b s (inr (inr (inl k))) = as_it_was (Some (Refused held.index held.promise)) k.3 is
    accepting_it b s (inr (inr (inr k))) = as_it_was (Some (Accepted b held.index)) k.3 (sends_vote h cells n (accepting b s held) is (at ∙ ap (λ (x : Held). Some x) k.2) refl refl)

    by : (m : Message) → Handles held m new answer → IsSound (answered n answer h) cells
    by Ask k = as_it_was (Some (Decided held.decided)) k.1 is
    by (Decided s) k = as_it_was None k.1 is
    by (Prepare b s) k = preparing b s k
    by (Promising p) k = as_it_was None k.1 is
    by (Accept b s) k = accepting_it b s k
    by (Accepted b i) k = as_it_was None k.1 is
    by (Refused i b) k = as_it_was None k.1 is

pub handles : (h : History) (old cells : ℕ → Option Held) (n : ℕ) (held new : Held) (message : Message) (answer : Option Message) → IsSound h old → n < 3 → old n ≡ Some held → Puts n new old cells
    → MayCome h message → Handles held message new answer → IsSound (answered n answer h) cells
handles h old cells n held new message answer sound three at puts may does =
    answers h cells n held new message answer (put h old cells n new sound puts (handles_cell h n held new message answer (sound.cell n held at) may does)) three puts.at does
