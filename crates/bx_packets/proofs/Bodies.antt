-- Parts of bodies are read again from their bytes, and no other bytes are read as such.
use Rattle.std.proofs.Common.{◌≡◌, ℕ, ◌^◌, ◌<◌, List, [], ◌++◌, length, Some, refl, sym, ap, ◌∙◌, arith}
use Rattle.std.specs.Int.{w32, w64, to_be_bytes}
use Rattle.std.proofs.lemmas.Bool.{lt-ltb, ltb-true}
use Rattle.std.proofs.lemmas.List.{append-nil}
use Rattle.bx_base.specs.Bytes.{IsBytes}
use Rattle.bx_base.specs.declared.error.ReadError.{ReadError}
use Rattle.bx_base.specs.declared.error.ReadError.TheVariants as errors
use Rattle.bx_base.specs.Reading.{Fails}
use Rattle.bx_base.proofs.Fields.{IsField, field32, field64, then_field, as_field, tested_field}
use Rattle.bx_global.specs.declared.state.GlobalState.{GlobalState}
use Rattle.bx_global.specs.Allowed.{Fits}
use Rattle.bx_global.specs.Bytes.{Spells, state_text}
use Rattle.bx_global.proofs.StateText.{one_state}
use Rattle.bx_rows.specs.declared.ballot.Ballot.{Ballot}
use Rattle.bx_rows.specs.Conditions.{IsBallot}
use Rattle.bx_rows.specs.Reading.{ballot_at}
use Rattle.bx_rows.specs.Spelling.{ballot_text}
use Rattle.bx_rows.proofs.Fields.{ballot_field}
use Rattle.bx_packets.specs.declared.message.Promise.{Promise}
use Rattle.bx_packets.specs.declared.parts.Marks.{Marks}
use Rattle.bx_packets.specs.Messages.{IsPromise, marks_text, promise_text, refusal_text, vote_text}
use Rattle.bx_packets.specs.Reading
use Rattle.bx_packets.proofs.Heads.{head_none, head_same}

-- ---- a state

-- the bytes are a state of another number of devices
pub other_devices : (devices : ℕ) (bytes : List ℕ) (s : GlobalState) → Spells s bytes → (length s.devices ≡ devices → ⊥) → (t : GlobalState) → Reading.SpellsState devices t bytes → ⊥
other_devices devices bytes s is differ t also =
    let same = one_state bytes s t is (record { is = also.is.is; parts = also.parts }) in
    differ (ap (λ (x : GlobalState). length x.devices) same ∙ also.is.devices_are)

-- ---- a ballot and a state

pub proposal_read : (devices : ℕ) (bytes rest : List ℕ) (b : Ballot) (s : GlobalState) → IsBytes bytes → ballot_at bytes ≡ Some (b, rest) → Reading.SpellsState devices s rest
    → Reading.SpellsProposal devices b s bytes
proposal_read devices bytes rest b s fits e is =
    let t = ballot_field.takes bytes (b, rest) fits e in
    record { ballot_is = t.1; state_is = is.is; parts = t.0.parts ∙ ap (λ (r : List ℕ). ballot_text b ++ r) is.parts }

pub no_ballot : (f : ReadError) (devices : ℕ) (bytes : List ℕ) → Fails f (ballot_at bytes) → Reading.NoProposal f devices bytes
no_ballot errors.OutOfMemory devices bytes fails = tt
no_ballot errors.Malformed devices bytes fails = λ b s is. head_none ballot_field bytes (state_text s) b fails is.parts is.ballot_is

pub no_state_behind : (f : ReadError) (devices : ℕ) (bytes rest : List ℕ) (b : Ballot) → ballot_at bytes ≡ Some (b, rest) → Reading.NoState f devices rest → Reading.NoProposal f devices bytes
no_state_behind errors.OutOfMemory devices bytes rest b e none = tt
no_state_behind errors.Malformed devices bytes rest b e none = λ c s is.
    none s (record { is = is.state_is; parts = (head_same ballot_field bytes rest (state_text s) b c e is.parts is.ballot_is).1 })

-- ---- a promise

text_of : Marks → List ℕ
text_of m = ballot_text m.ballot ++ (to_be_bytes w64 m.index ++ (to_be_bytes w32 m.flag ++ ballot_text m.accepted))

abbrev MarksFit : Marks → Type 0
MarksFit m = (IsBallot m.ballot × ((m.index < 2 ^ 64) × ((m.flag < 2 ^ 32) × IsBallot m.accepted))) × (m.flag < 2)

marks_field : IsField Reading.marks_at text_of MarksFit
unfolding Reading.marks_at text_of
marks_field =
    tested_field Reading.has_flag (λ m. m.flag < 2) (λ m t. ltb-true m.flag 2 t) (λ m lt. lt-ltb m.flag 2 lt)
    (as_field Reading.marks_with Reading.mark_fields (λ x. refl) (λ y. refl) (then_field ballot_field (then_field field64 (then_field field32 ballot_field))))

abbrev pub marks_of : Promise → Marks
marks_of p = record { ballot = p.ballot; index = p.index; flag = p.flag; accepted = p.accepted }

-- the text is in two parts
promise_parts : (p : Promise) → promise_text p ≡ text_of (marks_of p) ++ state_text p.state
unfolding promise_text marks_text text_of
promise_parts p = refl

marks_fit : (devices : ℕ) (p : Promise) → IsPromise devices p → MarksFit (marks_of p)
marks_fit devices p is = ((is.ballot, (is.index, (omega (arith, is.flag), is.accepted))), is.flag)

abbrev pub promise_with : Marks → GlobalState → Promise
promise_with m s = record { ballot = m.ballot; index = m.index; flag = m.flag; accepted = m.accepted; state = s }

pub promise_read : (devices : ℕ) (bytes rest : List ℕ) (m : Marks) (s : GlobalState) → IsBytes bytes → Reading.marks_at bytes ≡ Some (m, rest) → Reading.SpellsState devices s rest
    → Reading.SpellsPromise devices (promise_with m s) bytes
promise_read devices bytes rest m s fits e is =
    let t = marks_field.takes bytes (m, rest) fits e in
    record {
      is = record { ballot = t.1.0.0; index = t.1.0.1.0; flag = t.1.1; accepted = t.1.0.1.1.1; state = is.is };
      parts = t.0.parts ∙ (ap (λ (r : List ℕ). text_of m ++ r) is.parts ∙ sym (promise_parts (promise_with m s)));
    }

pub no_marks : (f : ReadError) (devices : ℕ) (bytes : List ℕ) → Fails f (Reading.marks_at bytes) → Reading.NoPromise f devices bytes
no_marks errors.OutOfMemory devices bytes fails = tt
no_marks errors.Malformed devices bytes fails = λ p is. head_none marks_field bytes (state_text p.state) (marks_of p) fails (is.parts ∙ promise_parts p) (marks_fit devices p is.is)

pub no_state_promised : (f : ReadError) (devices : ℕ) (bytes rest : List ℕ) (m : Marks) → Reading.marks_at bytes ≡ Some (m, rest) → Reading.NoState f devices rest → Reading.NoPromise f devices bytes
no_state_promised errors.OutOfMemory devices bytes rest m e none = tt
no_state_promised errors.Malformed devices bytes rest m e none = λ p is.
    none p.state (record { is = is.is.state; parts = (head_same marks_field bytes rest (state_text p.state) m (marks_of p) e (is.parts ∙ promise_parts p) (marks_fit devices p is.is)).1 })

-- ---- a ballot and an index

abbrev VoteFits : Ballot × ℕ → Type 0
VoteFits x = IsBallot x.0 × (x.1 < 2 ^ 64)

abbrev vote_text_of : Ballot × ℕ → List ℕ
vote_text_of x = ballot_text x.0 ++ to_be_bytes w64 x.1

vote_field : IsField Reading.vote_at vote_text_of VoteFits
unfolding Reading.vote_at
vote_field = then_field ballot_field field64

-- the text, with nothing behind it
vote_front : (b : Ballot) (i : ℕ) → vote_text b i ≡ vote_text_of (b, i) ++ []
unfolding vote_text
vote_front b i = sym (append-nil (vote_text_of (b, i)))

pub vote_read : (bytes rest : List ℕ) (x : Ballot × ℕ) → IsBytes bytes → Reading.vote_at bytes ≡ Some (x, rest) → rest ≡ [] → Reading.SpellsVote x.0 x.1 bytes
unfolding vote_text
vote_read bytes rest x fits e none =
    let t = vote_field.takes bytes (x, rest) fits e in
    record { ballot_is = t.1.0; index_is = t.1.1; parts = t.0.parts ∙ (ap (λ (r : List ℕ). vote_text_of x ++ r) none ∙ append-nil (vote_text_of x)) }

pub no_vote : (f : ReadError) (bytes : List ℕ) → Fails f (Reading.vote_at bytes) → Reading.NoVote f bytes
no_vote errors.OutOfMemory bytes fails = tt
no_vote errors.Malformed bytes fails = λ b i is. head_none vote_field bytes [] (b, i) fails (is.parts ∙ vote_front b i) (is.ballot_is, is.index_is)

pub vote_ends : (bytes rest : List ℕ) (x : Ballot × ℕ) (b : Ballot) (i : ℕ) → Reading.vote_at bytes ≡ Some (x, rest) → Reading.SpellsVote b i bytes → rest ≡ []
vote_ends bytes rest x b i e is = (head_same vote_field bytes rest [] x (b, i) e (is.parts ∙ vote_front b i) (is.ballot_is, is.index_is)).1

-- ---- an index and a ballot

abbrev RefusalFits : ℕ × Ballot → Type 0
RefusalFits x = (x.0 < 2 ^ 64) × IsBallot x.1

abbrev refusal_text_of : ℕ × Ballot → List ℕ
refusal_text_of x = to_be_bytes w64 x.0 ++ ballot_text x.1

refusal_field : IsField Reading.refusal_at refusal_text_of RefusalFits
unfolding Reading.refusal_at
refusal_field = then_field field64 ballot_field

refusal_front : (i : ℕ) (b : Ballot) → refusal_text i b ≡ refusal_text_of (i, b) ++ []
unfolding refusal_text
refusal_front i b = sym (append-nil (refusal_text_of (i, b)))

pub refusal_read : (bytes rest : List ℕ) (x : ℕ × Ballot) → IsBytes bytes → Reading.refusal_at bytes ≡ Some (x, rest) → rest ≡ [] → Reading.SpellsRefusal x.0 x.1 bytes
unfolding refusal_text
refusal_read bytes rest x fits e none =
    let t = refusal_field.takes bytes (x, rest) fits e in
    record { index_is = t.1.0; ballot_is = t.1.1; parts = t.0.parts ∙ (ap (λ (r : List ℕ). refusal_text_of x ++ r) none ∙ append-nil (refusal_text_of x)) }

pub no_refusal : (f : ReadError) (bytes : List ℕ) → Fails f (Reading.refusal_at bytes) → Reading.NoRefusal f bytes
no_refusal errors.OutOfMemory bytes fails = tt
no_refusal errors.Malformed bytes fails = λ i b is. head_none refusal_field bytes [] (i, b) fails (is.parts ∙ refusal_front i b) (is.index_is, is.ballot_is)

pub refusal_ends : (bytes rest : List ℕ) (x : ℕ × Ballot) (i : ℕ) (b : Ballot) → Reading.refusal_at bytes ≡ Some (x, rest) → Reading.SpellsRefusal i b bytes → rest ≡ []
refusal_ends bytes rest x i b e is = (head_same refusal_field bytes rest [] x (i, b) e (is.parts ∙ refusal_front i b) (is.index_is, is.ballot_is)).1

-- ---- one of each

pub one_ballot : (b c : Ballot) (more other : List ℕ) → IsBallot b → IsBallot c → ballot_text b ++ more ≡ ballot_text c ++ other → (b ≡ c) × (more ≡ other)
one_ballot b c more other is also e = head_same ballot_field (ballot_text b ++ more) more other b c (ballot_field.again b more is) e also

pub one_marks : (devices others : ℕ) (p q : Promise) → IsPromise devices p → IsPromise others q → promise_text p ≡ promise_text q → (marks_of p ≡ marks_of q) × (state_text p.state ≡ state_text q.state)
one_marks devices others p q is also e =
    head_same marks_field (promise_text p) (state_text p.state) (state_text q.state) (marks_of p) (marks_of q)
    (ap Reading.marks_at (promise_parts p) ∙ marks_field.again (marks_of p) (state_text p.state) (marks_fit devices p is)) (e ∙ promise_parts q) (marks_fit others q also)

pub one_vote : (b c : Ballot) (i j : ℕ) → IsBallot b → IsBallot c → Fits i → Fits j → vote_text b i ≡ vote_text c j → ◌≡◌ {A = Ballot × ℕ} (b, i) (c, j)
one_vote b c i j is also below other e =
    (head_same vote_field (vote_text b i) [] [] (b, i) (c, j) (ap Reading.vote_at (vote_front b i) ∙ vote_field.again (b, i) [] (is, below)) (e ∙ vote_front c j) (also, other)).0

pub one_refusal : (b c : Ballot) (i j : ℕ) → IsBallot b → IsBallot c → Fits i → Fits j → refusal_text i b ≡ refusal_text j c → ◌≡◌ {A = ℕ × Ballot} (i, b) (j, c)
one_refusal b c i j is also below other e =
    (head_same refusal_field (refusal_text i b) [] [] (i, b) (j, c) (ap Reading.refusal_at (refusal_front i b) ∙ refusal_field.again (i, b) [] (below, is)) (e ∙ refusal_front j c) (other, also)).0
