-- Which letters may be under way.
use Rattle.std.proofs.Common.{◌≡◌, ℕ, List, [], ◌∷◌, ◌++◌, Option, Some, None, refl, sym, subst, ap, inl, inr}
use Rattle.std.proofs.lemmas.List.Elements.{Contains-append_cases}
use Rattle.bx_agreement.specs.History.{HasPromised, HasVoted, History, IsProposed, Promised, Proposal}
use Rattle.bx_agreement.specs.Passing.{HasSaid, MayPass, promised_by}
use Rattle.bx_agreement.specs.Round.{IsLater}
use Rattle.bx_base.specs.declared.names.Actor.{Actor}
use Rattle.bx_base.specs.declared.names.Actor.TheVariants.{Node, Replica, Server, Member}
use Rattle.bx_facts.proofs.Lists.{front_or_behind, nothing}
use Rattle.bx_facts.specs.Chains.{Chain, GrowsBy, IsPlace}
use Rattle.bx_global.specs.declared.change.Change.{Change}
use Rattle.bx_global.specs.declared.state.GlobalState.{GlobalState}
use Rattle.bx_packets.proofs.Spelled.{one_message}
use Rattle.bx_packets.specs.Messages.{IsMessage, body_text, kind_of, letter_with}
use Rattle.bx_packets.specs.declared.message.Message.{Message}
use Rattle.bx_packets.specs.declared.message.Message.TheVariants.{Ask, Decided, Prepare, Promise as Promising, Accept, Accepted, Refused}
use Rattle.bx_post.specs.declared.packets.Letter.{Letter}
use Rattle.bx_rows.specs.declared.ballot.Ballot.{Ballot}
use Rattle.bx_rounds.specs.Agreement.{HistoryGoesOn, MayTell}
use Rattle.bx_proposer.specs.Letters.{accept_in, accept_letters, asks_of, letters_of, letters_to, prepare_in, prepare_letters}
use Rattle.bx_proposer.specs.Names.{replicas}
use Rattle.bx_rounds.specs.Courses.{IsCourse, IsProposal}
use Rattle.bx_rounds.specs.declared.course.Course.{Course}
use Rattle.bx_rounds.specs.declared.course.Move.{Move}
use Rattle.bx_rounds.specs.declared.course.Move.TheVariants.{Nothing, Prepare as Prepares, Accept as Accepts, Decided as Decides}
use Rattle.bx_rounds.specs.declared.course.Proposal.{Proposal as Proposed}
use Rattle.bx_paxos.specs.Fits.{AllPass, Passes}

-- ---- a longer history

pub record IsLonger (h new : History) : Type 0 where
  pub places : (s : GlobalState) → IsPlace h.chain s → IsPlace new.chain s
  pub proposals : (b : Ballot) (s : GlobalState) → IsProposed h.proposals b s → IsProposed new.proposals b s
  pub promises : (p : Promised) → HasPromised h.promises p → HasPromised new.promises p
  pub votes : (n : ℕ) (b : Ballot) → HasVoted h.votes n b → HasVoted new.votes n b

pub places_on : (changes : List Change) (old new : Chain) → GrowsBy changes old new → (s : GlobalState) → IsPlace old s → IsPlace new s
places_on changes old new (inl same) s place = subst (λ (c : Chain). IsPlace c s) (sym same) place
places_on changes old new (inr (change, handed, legal, e)) s place = subst (λ (c : Chain). IsPlace c s) (sym e) (inr place)

pub first_stays : (changes : List Change) (old new : Chain) → GrowsBy changes old new → new.first ≡ old.first
first_stays changes old new (inl same) = ap (λ (c : Chain). c.first) same
first_stays changes old new (inr (change, handed, legal, e)) = ap (λ (c : Chain). c.first) e

pub longer_on : (h new : History) → HistoryGoesOn h new → IsLonger h new
longer_on h new on = record {
  places = places_on h.proposed h.chain new.chain on.grows;
  proposals = on.proposals;
  promises = λ p has. subst (λ (ms : List Promised). HasPromised ms p) (sym on.promises) has;
  votes = λ n b voted. subst (λ vs. HasVoted vs n b) (sym on.votes) voted;
}

pub longer_later : (h new : History) → IsLater h new → IsLonger h new
longer_later h new later = record {
  places = later.places;
  proposals = λ b s proposed. subst (λ (ps : List Proposal). IsProposed ps b s) (sym later.proposals) proposed;
  promises = later.promises;
  votes = later.votes;
}

said_on : (from : Actor) (Has More : ℕ → Type 0) → ((n : ℕ) → Has n → More n) → HasSaid from Has → HasSaid from More
said_on (Node n) Has More on said = tt
said_on (Replica n) Has More on said = on n said
said_on (Server n) Has More on said = tt
said_on (Member n) Has More on said = tt

may_on : (h new : History) (from : Actor) (m : Message) → IsLonger h new → MayPass h from m → MayPass new from m
may_on h new from Ask on may = tt
may_on h new from (Decided s) on may = on.places s may
may_on h new from (Prepare b s) on may = on.places s may
may_on h new from (Promising p) on may = said_on from (λ n. HasPromised h.promises (promised_by n p)) (λ n. HasPromised new.promises (promised_by n p)) (λ n has. on.promises (promised_by n p) has) may
may_on h new from (Accept b s) on may = on.proposals b s may
may_on h new from (Accepted b i) on may = said_on from (λ n. HasVoted h.votes n b) (λ n. HasVoted new.votes n b) (λ n has. on.votes n b has) may
may_on h new from (Refused i b) on may = tt

pub all_on : (devices : ℕ) (h new : History) (letters : List Letter) → IsLonger h new → AllPass devices h letters → AllPass devices new letters
all_on devices h new letters on all = record { each = λ letter has. record { each = λ m spells. may_on h new letter.from m on ((all.each letter has).each m spells) } }

-- ---- lists of letters

pub all_none : (devices : ℕ) (h : History) → AllPass devices h []
all_none devices h = record { each = λ letter has. absurd (nothing letter has) }

pub all_more : (devices : ℕ) (h : History) (one other : List Letter) → AllPass devices h one → AllPass devices h other → AllPass devices h (one ++ other)
all_more devices h one other first second = record {
  each = λ letter has. elim (Contains-append_cases one other letter has) [ inl here ↦ first.each letter here | inr there ↦ second.each letter there ];
}

-- a letter says one thing
pub passes_with : (devices : ℕ) (h : History) (from to : Actor) (m : Message) → IsMessage devices m → MayPass h from m → Passes devices h (letter_with from to m)
passes_with devices h from to m is may = record {
  each = λ other spells. subst (MayPass h from) (one_message m other (kind_of m) (body_text m) devices devices (record { is = is; kind_is = refl; body_is = refl }) spells) may;
}

pub all_to : (devices : ℕ) (h : History) (from : Actor) (m : Message) (to : List Actor) → IsMessage devices m → MayPass h from m → AllPass devices h (letters_to from m to)
all_to devices h from m [] is may = all_none devices h
all_to devices h from m (who ∷ rest) is may = record {
  each = λ letter has. elim (front_or_behind (letter_with from who m) (letters_to from m rest) letter has) [
    | inl here ↦ subst (Passes devices h) here (passes_with devices h from who m is may)
    | inr there ↦ (all_to devices h from m rest is may).each letter there
  ];
}

-- ---- what a proposer sends

asks_pass_of : (devices : ℕ) (h : History) (me : Actor) → AllPass devices h (letters_to me Ask replicas)
asks_pass_of devices h me = all_to devices h me Ask replicas tt tt

pub asks_pass : (devices : ℕ) (h : History) (me : Actor) → AllPass devices h (asks_of me)
asks_pass devices h (Node n) = asks_pass_of devices h (Node n)
asks_pass devices h (Replica n) = all_none devices h
asks_pass devices h (Server n) = asks_pass_of devices h (Server n)
asks_pass devices h (Member n) = asks_pass_of devices h (Member n)

prepares_pass : (devices : ℕ) (h : History) (me : Actor) (c : Course) (out : Option Proposed) → c.out ≡ out → MayTell h c → IsCourse devices c → AllPass devices h (prepare_letters me c.known out)
prepares_pass devices h me c None at may is = all_none devices h
prepares_pass devices h me c (Some p) at may is = by p.ballot refl
  where
    this : IsProposal devices c.known p
    this = rw at at is.out

    by : (b : Option Ballot) → p.ballot ≡ b → AllPass devices h (prepare_in me c.known b)
    by None e = all_none devices h
    by (Some b) e = all_to devices h me (Prepare b c.known) replicas (rw e at this.ballot, is.known) may.known

accepts_pass : (devices : ℕ) (h : History) (me : Actor) (c : Course) (out : Option Proposed) → c.out ≡ out → MayTell h c → IsCourse devices c → AllPass devices h (accept_letters me out)
accepts_pass devices h me c None at may is = all_none devices h
accepts_pass devices h me c (Some p) at may is = by p.ballot p.sent refl refl
  where
    this : IsProposal devices c.known p
    this = rw at at is.out

    by : (b : Option Ballot) (s : Option GlobalState) → p.ballot ≡ b → p.sent ≡ s → AllPass devices h (accept_in me b s)
    by None s e f = all_none devices h
    by (Some b) None e f = all_none devices h
    by (Some b) (Some s) e f = let kept = rw f at this.sent in all_to devices h me (Accept b s) replicas (rw e at this.ballot, kept.is) (may.sent p b s at e f)

pub sent_pass : (devices : ℕ) (h : History) (me : Actor) (others : List Actor) (c : Course) (move : Move) → MayTell h c → IsCourse devices c → AllPass devices h (letters_of me others c move)
sent_pass devices h me others c Nothing may is = all_none devices h
sent_pass devices h me others c Prepares may is = prepares_pass devices h me c c.out refl may is
sent_pass devices h me others c Accepts may is = accepts_pass devices h me c c.out refl may is
sent_pass devices h me others c Decides may is = all_to devices h me (Decided c.known) others is.known may.known
