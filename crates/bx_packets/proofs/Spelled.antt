-- A packet is one message at most.
use Rattle.std.proofs.Common.{◌≡◌, ℕ, List, ◌++◌, refl, sym, ap, ◌∙◌, arith}
use Rattle.bx_global.specs.declared.state.GlobalState.{GlobalState}
use Rattle.bx_global.specs.Bytes.{HasCounts, state_text}
use Rattle.bx_global.proofs.StateText.{one_state}
use Rattle.bx_rows.specs.declared.ballot.Ballot.{Ballot}
use Rattle.bx_rows.specs.Conditions.{IsBallot}
use Rattle.bx_rows.specs.Spelling.{ballot_text}
use Rattle.bx_packets.specs.declared.message.Message.{Message}
use Rattle.bx_packets.specs.declared.message.Message.TheVariants.{Ask, Decided, Prepare, Promise as Promising, Accept, Accepted, Refused}
use Rattle.bx_packets.specs.declared.message.Promise.{Promise}
use Rattle.bx_packets.specs.declared.parts.Marks.{Marks}
use Rattle.bx_packets.specs.Messages.{HasCountsIn, IsMessage, IsPromise, IsStateOf, Spells, body_text, kind_of, promise_text}
use Rattle.bx_packets.proofs.Bodies.{marks_of, one_ballot, one_marks, one_refusal, one_vote, promise_with}

same_state : (devices others : ℕ) (s t : GlobalState) → IsStateOf devices s → IsStateOf others t → state_text s ≡ state_text t → s ≡ t
same_state devices others s t is also e = one_state (state_text s) s t (record { is = is.is; parts = refl }) (record { is = also.is; parts = e })

-- a ballot with a state, told apart by their texts
pub record AreSame (b c : Ballot) (s t : GlobalState) : Type 0 where
  pub ballots : b ≡ c
  pub states : s ≡ t

same_proposal : (devices others : ℕ) (b c : Ballot) (s t : GlobalState) → IsBallot b × IsStateOf devices s → IsBallot c × IsStateOf others t → ballot_text b ++ state_text s ≡ ballot_text c ++ state_text t → AreSame b c s t
same_proposal devices others b c s t is also e =
    let both = one_ballot b c (state_text s) (state_text t) is.0 also.0 e in
    record { ballots = both.0; states = same_state devices others s t is.1 also.1 both.1 }

same_with : (m n : Marks) (s t : GlobalState) → m ≡ n → s ≡ t → promise_with m s ≡ promise_with n t
same_with m n s t p q = rw (p, q) refl

same_promise : (devices others : ℕ) (p q : Promise) → IsPromise devices p → IsPromise others q → promise_text p ≡ promise_text q → p ≡ q
same_promise devices others p q is also e =
    let both = one_marks devices others p q is also e in
    same_with (marks_of p) (marks_of q) p.state q.state both.0 (same_state devices others p.state q.state is.state also.state both.1)

one : (devices others : ℕ) (a b : Message) → kind_of a ≡ kind_of b → IsMessage devices a → IsMessage others b → body_text a ≡ body_text b → a ≡ b
one devices others Ask Ask k is also e = refl
one devices others Ask b k is also e = absurd (omega (arith, k))
one devices others (Decided s) (Decided t) k is also e = ap Decided (same_state devices others s t is also e)
one devices others (Decided s) b k is also e = absurd (omega (arith, k))
one devices others (Prepare b s) (Prepare c t) k is also e = let same = same_proposal devices others b c s t is also e in rw (same.ballots, same.states) refl
one devices others (Prepare b s) c k is also e = absurd (omega (arith, k))
one devices others (Promising p) (Promising q) k is also e = ap Promising (same_promise devices others p q is also e)
one devices others (Promising p) b k is also e = absurd (omega (arith, k))
one devices others (Accept b s) (Accept c t) k is also e = let same = same_proposal devices others b c s t is also e in rw (same.ballots, same.states) refl
one devices others (Accept b s) c k is also e = absurd (omega (arith, k))
one devices others (Accepted b i) (Accepted c j) k is also e = ap (λ (x : Ballot × ℕ). Accepted x.0 x.1) (one_vote b c i j is.0 also.0 is.1 also.1 e)
one devices others (Accepted b i) c k is also e = absurd (omega (arith, k))
one devices others (Refused i b) (Refused j c) k is also e = ap (λ (x : ℕ × Ballot). Refused x.0 x.1) (one_refusal b c i j is.1 also.1 is.0 also.0 e)
one devices others (Refused i b) c k is also e = absurd (omega (arith, k))

pub one_message : (a b : Message) (kind : ℕ) (body : List ℕ) (devices others : ℕ) → Spells devices a kind body → Spells others b kind body → a ≡ b
one_message a b kind body devices others p q = one devices others a b (sym p.kind_is ∙ q.kind_is) p.is q.is (sym p.body_is ∙ q.body_is)

counts : (devices : ℕ) (s : GlobalState) → IsStateOf devices s → HasCounts s
counts devices s is = record { sessions = omega (arith, is.is.session_count); devices = omega (arith, is.is.most_devices) }

pub counts_in : (devices : ℕ) (m : Message) → IsMessage devices m → HasCountsIn m
counts_in devices Ask is = tt
counts_in devices (Decided s) is = counts devices s is
counts_in devices (Prepare b s) is = counts devices s is.1
counts_in devices (Promising p) is = counts devices p.state is.state
counts_in devices (Accept b s) is = counts devices s is.1
counts_in devices (Accepted b i) is = tt
counts_in devices (Refused i b) is = tt
