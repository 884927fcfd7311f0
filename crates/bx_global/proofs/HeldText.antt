-- What an acceptor's cell holds is read again from its bytes, and no other bytes are read as such.
use Rattle.std.proofs.Common.{◌≡◌, ℕ, ◌^◌, ◌<◌, List, [], ◌++◌, length, Option, Some, None, refl, sym, ap, ◌∙◌, arith}
use Rattle.std.specs.Int.{w32, w64, to_be_bytes}
use Rattle.std.proofs.lemmas.Bool.{lt-ltb, ltb-true}
use Rattle.std.proofs.lemmas.List.{append-nil}
use Rattle.std.proofs.lemmas.Option.{some_pair_parts}
use Rattle.bx_rows.specs.bx_base.specs.Bytes.{IsBytes}
use Rattle.bx_rows.specs.bx_base.specs.declared.error.ReadError.{ReadError}
use Rattle.bx_rows.specs.bx_base.specs.declared.error.ReadError.TheVariants as errors
use Rattle.bx_rows.specs.bx_base.specs.Reading.{Fails}
use Rattle.bx_rows.specs.bx_base.proofs.Fields.{IsField, field32, field64, then_field, as_field, tested_field}
use Rattle.bx_rows.specs.Conditions.{IsBallot}
use Rattle.bx_rows.specs.Spelling.{ballot_text}
use Rattle.bx_rows.proofs.Fields.{ballot_field}
use Rattle.bx_global.specs.declared.held.Held.{Held}
use Rattle.bx_global.specs.declared.held.Marks.{Marks}
use Rattle.bx_global.specs.declared.state.GlobalState.{GlobalState}
use Rattle.bx_global.specs.Bytes.{state_text, marks_text, held_text, IsHeld, SpellsHeld}
use Rattle.bx_global.specs.Reading
use Rattle.bx_global.proofs.StateText.{one_front}

-- ---- what stands before the states

text_of : Marks → List ℕ
text_of m = to_be_bytes w64 m.index ++ (ballot_text m.promise ++ (ballot_text m.ballot ++ to_be_bytes w32 m.flag))

abbrev MarksFit : Marks → Type 0
MarksFit m = (m.index < 2 ^ 64) × (IsBallot m.promise × (IsBallot m.ballot × ((m.flag < 2 ^ 32) × (m.flag < 2))))

marks_field : IsField Reading.marks_at text_of MarksFit
unfolding Reading.marks_at text_of
marks_field =
    as_field Reading.marks_with Reading.mark_fields (λ x. refl) (λ y. refl)
    (then_field field64 (then_field ballot_field (then_field ballot_field (tested_field Reading.is_flag (λ n. n < 2) (λ n t. ltb-true n 2 t) (λ n lt. lt-ltb n 2 lt) field32))))

abbrev marks_of : Held → Marks
marks_of h = record { index = h.index; promise = h.promise; ballot = h.ballot; flag = h.flag }

-- the text is in three parts
held_parts : (h : Held) → held_text h ≡ text_of (marks_of h) ++ (state_text h.accepted ++ state_text h.decided)
unfolding held_text marks_text text_of
held_parts h = refl

marks_fit : (devices : ℕ) (h : Held) → IsHeld devices h → MarksFit (marks_of h)
marks_fit devices h is = (is.index, (is.promise, (is.ballot, (omega (arith, is.flag), is.flag))))

-- ---- what is read

-- the bytes are the text of what was read
pub held_read : (devices : ℕ) (bytes rest after last : List ℕ) (m : Marks) (a d : GlobalState) → IsBytes bytes → Reading.marks_at bytes ≡ Some (m, rest)
    → Reading.Begins a rest after → Reading.Begins d after last → last ≡ [] → length a.devices ≡ devices → length d.devices ≡ devices
    → SpellsHeld (record { index = m.index; promise = m.promise; ballot = m.ballot; flag = m.flag; accepted = a; decided = d }) bytes devices
held_read devices bytes rest after last m a d fits e b c none many as_many =
    let t = marks_field.takes bytes (m, rest) fits e in
    let h : Held = record { index = m.index; promise = m.promise; ballot = m.ballot; flag = m.flag; accepted = a; decided = d } in
    let text : bytes ≡ text_of m ++ (state_text a ++ state_text d) = t.0.parts ∙ ap (λ (r : List ℕ). text_of m ++ r) (b.parts ∙ ap (λ (r : List ℕ). state_text a ++ r) (c.parts ∙ ap (λ (r : List ℕ). state_text d ++ r) none ∙ append-nil (state_text d))) in
    record {
      is = record {
        index = t.1.0;
        promise = t.1.1.0;
        ballot = t.1.1.1.0;
        flag = t.1.1.1.1.1;
        accepted = b.is;
        decided = c.is;
        accepted_devices = many;
        decided_devices = as_many;
      };
      parts = text ∙ sym (held_parts h);
    }

-- ---- what stands there

marks_read : (devices : ℕ) (bytes : List ℕ) (h : Held) → SpellsHeld h bytes devices → Reading.marks_at bytes ≡ Some (marks_of h, state_text h.accepted ++ state_text h.decided)
marks_read devices bytes h s = ap Reading.marks_at (s.parts ∙ held_parts h) ∙ marks_field.again (marks_of h) (state_text h.accepted ++ state_text h.decided) (marks_fit devices h s.is)

accepted_begins : (devices : ℕ) (bytes rest : List ℕ) (m : Marks) (h : Held) → SpellsHeld h bytes devices → Reading.marks_at bytes ≡ Some (m, rest) → Reading.Begins h.accepted rest (state_text h.decided)
accepted_begins devices bytes rest m h s e = record { is = s.is.accepted; parts = (some_pair_parts m (marks_of h) rest (state_text h.accepted ++ state_text h.decided) (sym e ∙ marks_read devices bytes h s)).1 }

-- what is read behind the marks and behind the accepted state is what stands there
pub accepted_same : (devices : ℕ) (bytes rest after : List ℕ) (m : Marks) (a : GlobalState) (h : Held) → SpellsHeld h bytes devices → Reading.marks_at bytes ≡ Some (m, rest) → Reading.Begins a rest after
    → (a ≡ h.accepted) × (after ≡ state_text h.decided)
accepted_same devices bytes rest after m a h s e b = one_front rest after (state_text h.decided) a h.accepted b (accepted_begins devices bytes rest m h s e)

decided_begins : (devices : ℕ) (bytes rest after : List ℕ) (m : Marks) (a : GlobalState) (h : Held) → SpellsHeld h bytes devices → Reading.marks_at bytes ≡ Some (m, rest) → Reading.Begins a rest after
    → Reading.Begins h.decided after []
decided_begins devices bytes rest after m a h s e b = record { is = s.is.decided; parts = (accepted_same devices bytes rest after m a h s e b).1 ∙ sym (append-nil (state_text h.decided)) }

pub decided_same : (devices : ℕ) (bytes rest after last : List ℕ) (m : Marks) (a d : GlobalState) (h : Held) → SpellsHeld h bytes devices → Reading.marks_at bytes ≡ Some (m, rest) → Reading.Begins a rest after → Reading.Begins d after last
    → (d ≡ h.decided) × (last ≡ [])
decided_same devices bytes rest after last m a d h s e b c = one_front after last [] d h.decided c (decided_begins devices bytes rest after m a h s e b)

-- ---- where nothing is read, nothing stands

pub no_marks : (f : ReadError) (devices : ℕ) (bytes : List ℕ) → Fails f (Reading.marks_at bytes) → Reading.NotHeld f bytes devices
no_marks errors.OutOfMemory devices bytes fails = tt
no_marks errors.Malformed devices bytes fails = λ h s.
    let both : ◌≡◌ {A = Option (Marks × List ℕ)} None (Some (marks_of h, state_text h.accepted ++ state_text h.decided)) = sym fails ∙ marks_read devices bytes h s in
    absurd cc

pub none_accepted : (f : ReadError) (devices : ℕ) (bytes rest : List ℕ) (m : Marks) → Reading.marks_at bytes ≡ Some (m, rest) → Reading.NoneBegins f rest → Reading.NotHeld f bytes devices
none_accepted errors.OutOfMemory devices bytes rest m e none = tt
none_accepted errors.Malformed devices bytes rest m e none = λ h s. none h.accepted (state_text h.decided) (accepted_begins devices bytes rest m h s e)

pub none_decided : (f : ReadError) (devices : ℕ) (bytes rest after : List ℕ) (m : Marks) (a : GlobalState) → Reading.marks_at bytes ≡ Some (m, rest) → Reading.Begins a rest after → Reading.NoneBegins f after → Reading.NotHeld f bytes devices
none_decided errors.OutOfMemory devices bytes rest after m a e b none = tt
none_decided errors.Malformed devices bytes rest after m a e b none = λ h s. none h.decided [] (decided_begins devices bytes rest after m a h s e b)

-- ---- one reading

abbrev held_with : Marks → GlobalState → GlobalState → Held
held_with m a d = record { index = m.index; promise = m.promise; ballot = m.ballot; flag = m.flag; accepted = a; decided = d }

same_held : (m n : Marks) (a b c d : GlobalState) → m ≡ n → a ≡ b → c ≡ d → held_with m a c ≡ held_with n b d
same_held m n a b c d p q r = rw (p, q, r) refl

pub one_held : (devices others : ℕ) (bytes : List ℕ) (a b : Held) → SpellsHeld a bytes devices → SpellsHeld b bytes others → a ≡ b
one_held devices others bytes a b p q =
    let rest = state_text a.accepted ++ state_text a.decided in
    let after = state_text a.decided in
    let e = marks_read devices bytes a p in
    let marks = some_pair_parts (marks_of a) (marks_of b) rest (state_text b.accepted ++ state_text b.decided) (sym e ∙ marks_read others bytes b q) in
    let front = accepted_begins devices bytes rest (marks_of a) a p e in
    let back = decided_begins devices bytes rest after (marks_of a) a.accepted a p e front in
    let first = accepted_same others bytes rest after (marks_of a) a.accepted b q e front in
    let second = decided_same others bytes rest after [] (marks_of a) a.accepted a.decided b q e front back in
    same_held (marks_of a) (marks_of b) a.accepted b.accepted a.decided b.decided marks.0 first.0 second.0
