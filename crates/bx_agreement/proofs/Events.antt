-- The events, for the cells and all proposers at once.
use Rattle.std.proofs.Common.{◌+◌, ◌≡◌, ◌≢◌, ℕ, ◌<◌, ◌⊎◌, refl, sym, subst, ◌∙◌, inl, inr}
use Rattle.std.specs.Prelude.{Option, Some, None}
use Rattle.std.proofs.lemmas.Bool.Decides.{eqb_tells}
use Rattle.bx_rows.specs.declared.ballot.Ballot.{Ballot}
use Rattle.bx_global.specs.declared.held.Held.{Held}
use Rattle.bx_global.specs.declared.change.Change.{Change}
use Rattle.bx_global.specs.declared.state.GlobalState.{GlobalState}
use Rattle.bx_facts.specs.Chains.{IsPlace}
use Rattle.bx_agreement.specs.History.{History, Promised, IsChosen, ComesNext, ComesBy}
use Rattle.bx_agreement.specs.Sound.{Puts, Picks, with_proposal, with_state, with_change, with_promise, with_vote}
use Rattle.bx_packets.specs.declared.message.Message.{Message}
use Rattle.bx_packets.specs.declared.message.Message.TheVariants.{Ask, Decided, Prepare, Promise as Promising, Accept, Accepted, Refused}
use Rattle.bx_answers.specs.Handling.{Handles}
use Rattle.bx_agreement.specs.Passing.{MayCome, answered, promised_by}
use Rattle.bx_agreement.specs.Events.{Decides, Is, Machine, HistoryStands, Turns}
use Rattle.bx_agreement.specs.Round.{Round, IsRound, IsProposer, IsLater, Counts, prepared, sending}
use Rattle.bx_agreement.proofs.Sent.{promised_more, voted_more}
use Rattle.bx_agreement.proofs.Decide.{decides, grows, handed, contains_more}
use Rattle.bx_agreement.proofs.Propose.{sends_proposal}
use Rattle.bx_agreement.proofs.Replicas.{handles}
use Rattle.bx_agreement.proofs.Rounds.{goes_on, other_sends, sends, may_send, prepares, restarts}

-- what of all machines but one
pub turned : (h : History) (old new : ℕ → Machine) (me : ℕ) (machine : Machine) → Turns me machine old new → Is h me machine → ((m : ℕ) → m ≢ me → Is h m (old m)) → (m : ℕ) → Is h m (new m)
turned h old new me machine turns is others m =
    elim (eqb_tells m me) [
      | inl same ↦ subst (λ (k : ℕ). Is h k (new k)) (sym same.1) (subst (λ (x : Machine). Is h me x) (sym turns.at) is)
      | inr apart ↦ subst (λ (x : Machine). Is h m x) (sym (turns.others m apart.1)) (others m apart.1)
    ]

-- ---- what makes the history longer, but by no accept

pub later_same : (h : History) → IsLater h h
later_same h = record { proposals = refl; places = λ s p. p; proposed = λ c k. k; promises = λ p k. k; votes = λ n b k. k }

pub later_promise : (h : History) (p : Promised) → IsLater h (with_promise p h)
later_promise h p = record { proposals = refl; places = λ s k. k; proposed = λ c k. k; promises = λ q k. promised_more h.promises q p k; votes = λ n b k. k }

pub later_vote : (h : History) (n : ℕ) (b : Ballot) → IsLater h (with_vote n b h)
later_vote h n b = record { proposals = refl; places = λ s k. k; proposed = λ c k. k; promises = λ q k. k; votes = λ m c k. voted_more h.votes (record { replica = n; ballot = b }) m c k }

pub later_state : (h : History) (change : Change) → IsLater h (with_state change h)
later_state h change = record { proposals = refl; places = λ s k. inr k; proposed = λ c k. k; promises = λ q k. k; votes = λ m c k. k }

pub later_change : (h : History) (change : Change) → IsLater h (with_change change h)
later_change h change = record { proposals = refl; places = λ s k. k; proposed = λ c k. contains_more h.proposed change c k; promises = λ q k. k; votes = λ m c k. k }

pub later_answer : (h : History) (n : ℕ) (answer : Option Message) → IsLater h (answered n answer h)
later_answer h n None = later_same h
later_answer h n (Some Ask) = later_same h
later_answer h n (Some (Decided s)) = later_same h
later_answer h n (Some (Prepare b s)) = later_same h
later_answer h n (Some (Promising p)) = later_promise h (promised_by n p)
later_answer h n (Some (Accept b s)) = later_same h
later_answer h n (Some (Accepted b i)) = later_vote h n b
later_answer h n (Some (Refused i b)) = later_same h

-- ---- a packet at a replica

pub at_replica : (h : History) (old cells : ℕ → Option Held) (machines : ℕ → Machine) (n : ℕ) (held new : Held) (message : Message) (answer : Option Message) → HistoryStands h old machines → n < 3 → old n ≡ Some held
    → Puts n new old cells → MayCome h message → Handles held message new answer → HistoryStands (answered n answer h) cells machines
at_replica h old cells machines n held new message answer stands three at puts may does = record {
  sound = handles h old cells n held new message answer stands.sound three at puts may does;
  each = λ me. goes_on h (answered n answer h) me (machines me).boot (machines me).seen (machines me).known (machines me).out (stands.each me) (later_answer h n answer);
}

-- ---- a second promise at a proposer: it sends its accept

pub at_second_promise : (h : History) (cells : ℕ → Option Held) (old new : ℕ → Machine) (me : ℕ) (round : Round) (p q : Promised) (s : GlobalState) (change : Change) → ComesBy h.chain h.proposed change s → HistoryStands h cells old → (old me).out ≡ Some round
    → round.sent ≡ None → round.promise ≡ Some p → Counts h round q → p.replica ≢ q.replica → Picks p q round.own s
    → Turns me (record { boot = (old me).boot; seen = (old me).seen; known = (old me).known; out = Some (sending s round) }) old new
    → HistoryStands (with_proposal round.ballot s change h) cells new
at_second_promise h cells old new me round p q s change by stands out none first counts differ picks turns = record {
  sound = sends_proposal h cells stands.sound round.ballot round.own s change p q (may_send h me (old me).boot (old me).seen round p q s change by it none first counts differ picks);
  each = turned (with_proposal round.ballot s change h) old new me (record { boot = (old me).boot; seen = (old me).seen; known = (old me).known; out = Some (sending s round) }) turns
      (sends h me (old me).boot (old me).seen (old me).known round s change (subst (λ (x : Option Round). IsProposer h me (old me).boot (old me).seen (old me).known x) out (stands.each me)))
      (λ m apart. other_sends h m (old m).boot (old m).seen (old m).known (old m).out round.ballot s change (stands.each m) (λ e. apart (sym e ∙ it.actor)));
}
  where
    it : IsRound h me (old me).boot (old me).seen round
    it = (stands.each me).round round out

-- ---- a state was chosen: the chain grows by it, or has it

pub at_choice : (h : History) (cells : ℕ → Option Held) (machines : ℕ → Machine) (s : GlobalState) (change : Change) → HistoryStands h cells machines → IsChosen h.proposals h.votes s → ComesBy h.chain h.proposed change s
    → Decides h h cells machines s ⊎ Decides h (with_state change h) cells machines s
at_choice h cells machines s change stands chosen by =
    elim (decides h cells s change stands.sound chosen by) [
      | inl place ↦ inl (record { stands = stands; place = place; grows = inl refl; told = inl refl })
      | inr k ↦ inr (record {
        stands = record {
          sound = grows h cells change stands.sound k.1 (subst (λ (x : GlobalState). IsChosen h.proposals h.votes x) k.2 chosen);
          each = λ me. goes_on h (with_state change h) me (machines me).boot (machines me).seen (machines me).known (machines me).out (stands.each me) (later_state h change);
        };
        place = inl k.2;
        grows = inr (change, k.0, k.1, refl);
        told = inr k.2;
      })
    ]

-- ---- a change is handed in

pub at_change : (h : History) (cells : ℕ → Option Held) (machines : ℕ → Machine) (change : Change) → HistoryStands h cells machines → HistoryStands (with_change change h) cells machines
at_change h cells machines change stands = record {
  sound = handed h cells change stands.sound;
  each = λ me. goes_on h (with_change change h) me (machines me).boot (machines me).seen (machines me).known (machines me).out (stands.each me) (later_change h change);
}

-- ---- a proposer alone: it prepares, learns a state, or starts again

pub at_prepare : (h : History) (cells : ℕ → Option Held) (old new : ℕ → Machine) (me : ℕ) (own : GlobalState) → HistoryStands h cells old → ComesNext h.chain h.proposed own
    → Turns me (record { boot = (old me).boot; seen = (old me).seen + 1; known = (old me).known; out = Some (prepared me (old me).boot (old me).seen own) }) old new → HistoryStands h cells new
at_prepare h cells old new me own stands next turns = record {
  sound = stands.sound;
  each = turned h old new me (record { boot = (old me).boot; seen = (old me).seen + 1; known = (old me).known; out = Some (prepared me (old me).boot (old me).seen own) }) turns
      (prepares h me (old me).boot (old me).seen (old me).known own (old me).out (stands.each me) next) (λ m apart. stands.each m);
}

pub at_learning : (h : History) (cells : ℕ → Option Held) (old new : ℕ → Machine) (me : ℕ) (s : GlobalState) → HistoryStands h cells old → IsPlace h.chain s
    → Turns me (record { boot = (old me).boot; seen = (old me).seen; known = s; out = None }) old new → HistoryStands h cells new
at_learning h cells old new me s stands place turns = record {
  sound = stands.sound;
  each = turned h old new me (record { boot = (old me).boot; seen = (old me).seen; known = s; out = None }) turns
      (record { place = place; before = (stands.each me).before; round = λ r e. absurd cc }) (λ m apart. stands.each m);
}

pub at_restart : (h : History) (cells : ℕ → Option Held) (old new : ℕ → Machine) (me later : ℕ) (first : GlobalState) → HistoryStands h cells old → (old me).boot < later → IsPlace h.chain first
    → Turns me (record { boot = later; seen = 0; known = first; out = None }) old new → HistoryStands h cells new
at_restart h cells old new me later first stands above place turns = record {
  sound = stands.sound;
  each = turned h old new me (record { boot = later; seen = 0; known = first; out = None }) turns
      (restarts h me (old me).boot (old me).seen later (old me).known first (old me).out (stands.each me) above place) (λ m apart. stands.each m);
}
