-- A recovery asks for the gates, and for bodies, and reads them.
use Rattle.std.proofs.Common.{◌≡◌, ◌≢◌, ⊎_elim, inl, inr, ◌∙◌, ℕ, ◌+◌, ◌*◌, ◌<◌, true, List, [], ◌∷◌, ◌++◌, length, Option, Some, None, refl, sym, ap, subst, arith}
use Rattle.std.proofs.lemmas.List.{length-append}
use Rattle.bx_disk.specs.Disks.{sector_of}
use Rattle.bx_facts.specs.Chains.{Chain}
use Rattle.bx_facts.specs.Writes.{Sent, WritesIn}
use Rattle.bx_global.specs.declared.change.Change.{Change}
use Rattle.bx_node_machines.specs.Machines.{IsWriting}
use Rattle.bx_node_machines.specs.Recovering.{AreBodiesAsRead, AreSettled, Around, HasReadNone, IsBodyAsRead, IsRecovering, IsFilled, IsStill, body_asked, body_read, gates_asked, gates_back}
use Rattle.bx_node_machines.specs.Recovering.{recovery_of}
use Rattle.bx_places.specs.Places.{body_place, gate_place, log_device, log_start}
use Rattle.bx_records.specs.Runs.{KindAndRuns}
use Rattle.bx_recover.specs.Bodies.{IsRecordIn}
use Rattle.bx_recover.specs.Done.{IsLast, RecoveryStep, WasRead}
use Rattle.bx_recover.specs.Recovering.{RecoveryView, reads_body, reads_gates}
use Rattle.bx_recover.specs.declared.moves.Move.{Move}
use Rattle.bx_recover.specs.declared.moves.Move.TheVariants.{Read, Wait, Write}
use Rattle.bx_recover.specs.declared.stage.Stage.{Stage}
use Rattle.bx_recover.specs.declared.stage.Stage.TheVariants.{Begins, Gates, Settles, Bodies}
use Rattle.bx_recover.proofs.Done.{later_gates, later_read, more_read, none_read, quiet}
use Rattle.bx_volume.specs.Records.{Logged, gate_of}

-- ---- what was asked for last

-- it is one thing
pub last_one : (steps : List RecoveryStep) (a b : Move) → a ≢ Wait → b ≢ Wait → IsLast steps a → IsLast steps b → a ≡ b
last_one [] a b some other one two = absurd one
last_one (step ∷ steps) a b some other one two = ⊎_elim
    (λ first. ⊎_elim (λ second. sym first ∙ second) (λ waits. absurd (some (sym first ∙ waits.0))) two)
    (λ waits. ⊎_elim (λ second. absurd (other (sym second ∙ waits.0))) (λ both. last_one steps a b some other waits.1 both.1) two)
    one

-- gates aren't a body, and each body has its place
pub gates_or_body : (devices slot body : ℕ) (steps : List RecoveryStep) → IsLast steps (Read (log_device slot devices) (log_start slot + 0) 8) → IsLast steps (body_read devices slot body) → ⊥
gates_or_body devices slot body steps one two =
    let wrong = last_one steps (Read (log_device slot devices) (log_start slot + 0) 8) (body_read devices slot body) (λ e. cc) (λ e. cc) one two in
    apart 8 145 refl refl (same_count (log_device slot devices) (log_device slot devices) (log_start slot + 0) (log_start slot + 8 + 145 * body) 8 145 wrong)
  where
    same_count : (a b p q n m : ℕ) → Read a p n ≡ Read b q m → n ≡ m
    same_count a b p q n m e = cc

    apart : (n m : ℕ) → n ≡ 8 → m ≡ 145 → n ≡ m → ⊥
    apart n m one other e = omega (arith, one, other, e)

one_body : (devices slot body other : ℕ) → body_read devices slot body ≡ body_read devices slot other → body ≡ other
one_body devices slot body other same =
    let place : log_start slot + 8 + 145 * body ≡ log_start slot + 8 + 145 * other = cc in
    omega (arith, place)

-- ---- what was written back

-- each gate is
pub gates_written : (devices slot : ℕ) (gates : List ℕ) → length gates ≡ 4096 → (gate : ℕ) → gate < 8 → WritesIn (gates_back devices slot gates) (gate_place slot gate devices).0 (gate_place slot gate devices).1 (sector_of gates gate)
gates_written devices slot gates long gate low = (
  record { device = log_device slot devices; place = log_start slot + 0; bytes = gates },
  (0, omega arith, refl),
  record { on = refl; from = omega arith; below = omega (arith, low, long); is = ap (sector_of gates) (omega arith) },
)

-- and stands so, once that is done
pub settled_sure : (devices slot session : ℕ) (Sure : ℕ → ℕ → List ℕ → Type 0) (gates : List ℕ) (out : Option Sent) (sent : List Sent) → length gates ≡ 4096 → out ≡ None → IsWriting Sure session (gates_back devices slot gates) out sent
    → AreSettled devices Sure slot gates
settled_sure devices slot session Sure gates out sent long none (inl flying) = absurd (let wrong = sym none ∙ flying.is_out in cc)
settled_sure devices slot session Sure gates out sent long none (inr landed) = λ gate low. landed.sure (gate_place slot gate devices).0 (gate_place slot gate devices).1 (sector_of gates gate) (gates_written devices slot gates long gate low)

-- no body is read where a write was asked for last
pub none_read_then : (devices slot : ℕ) (steps : List RecoveryStep) (step : RecoveryStep) (runs : KindAndRuns) → IsLast steps (Write runs) → HasReadNone devices slot steps → HasReadNone devices slot (step ∷ steps)
none_read_then devices slot steps step runs last none body bytes (inl is) = let wrong = last_one steps (Write runs) (body_read devices slot body) (λ e. cc) (λ e. cc) last is.1 in cc
none_read_then devices slot steps step runs last none body bytes (inr before) = none body bytes before

-- ---- steps

module _ (devices areas : ℕ) (Sure : ℕ → ℕ → List ℕ → Type 0) (Reads : ℕ → List ℕ → Type 0) (chain : Chain) (knew : ℕ) (proposed : List Change) (a : Around) (session gone slot : ℕ) (records : List Logged) (step : RecoveryStep) where
  abbrev Is : Stage → List Logged → Type 0
  Is stage read = IsRecovering devices areas Sure Reads chain knew proposed a session gone slot stage read

  -- It asks for the gates.
  pub begins : step.said ≡ reads_gates (recovery_of slot devices areas Begins records) → Is Begins records → Is Gates records
  begins said was = record {
    claimed = was.claimed;
    known = was.known;
    other = was.other;
    unproposed = λ under_way. was.unproposed (λ over. over);
    steps = step ∷ was.steps;
    done = (was.done.0, quiet (recovery_of slot devices areas Begins records) was.steps step (reads_gates (recovery_of slot devices areas Begins records)) said refl ∙ was.done.1, inl said);
    at = (was.at.0, inl was.at.1, none);
  }
    where
      none : HasReadNone devices slot (step ∷ was.steps)
      none body bytes (inl last) = subst (λ (l : List RecoveryStep). IsLast l (body_read devices slot body)) was.at.2 last.1
      none body bytes (inr before) = subst (λ (l : List RecoveryStep). WasRead l (body_read devices slot body) bytes) was.at.2 before

  -- What came wasn't all gates: it asks again.
  pub gates_again : (bytes : List ℕ) → step.arrived ≡ Some bytes → step.said ≡ reads_gates (recovery_of slot devices areas Gates records) → a.asked ≡ None → Is Gates records → Is Gates records
  gates_again bytes came said asked was = record {
    claimed = was.claimed;
    known = was.known;
    other = was.other;
    unproposed = was.unproposed;
    steps = step ∷ was.steps;
    done = (was.done.0, quiet (recovery_of slot devices areas Gates records) was.steps step (reads_gates (recovery_of slot devices areas Gates records)) said refl ∙ was.done.1, inl said);
    at = (was.at.0, inl asked, λ body other read. ⊎_elim (λ last. gates_or_body devices slot body was.steps was.done.2 last.1) (λ before. was.at.2 body other before) read);
  }

  -- The gates are settled, and gate 0 is open: it asks for the first body.
  pub asks_first : (opened : ℕ) → step.done ≡ true → step.said ≡ reads_body (recovery_of slot devices areas (Settles opened) records) 0 → 0 < opened → a.out ≡ None → Is (Settles opened) records → Is (Bodies opened) records
  asks_first opened is_done said some out was = record {
    claimed = was.claimed;
    known = was.known;
    other = was.other;
    unproposed = λ under_way. was.unproposed (λ over. over);
    steps = step ∷ was.steps;
    done = (
      quiet old was.steps step (reads_body old 0) said refl ∙ was.done.1,
      record { gates = was.done.2.0; has = later_gates old was.steps step (Bodies opened) records was.done.2.0 opened was.done.2.1; back = inl (is_done, was.done.2.2) },
      none_read old was.steps step (recovery_of slot devices areas (Bodies opened) records) (step ∷ was.steps) was.done.0,
      omega (arith, none, some),
      inl (said ∙ ap (reads_body old) (sym none)),
    );
    at = (
      out,
      settled_sure devices slot session Sure was.done.2.0 a.out a.sent was.done.2.1.long out was.at.3,
      (λ body bytes read. absurd (none_read_then devices slot was.steps step _ was.done.2.2 was.at.2 body bytes read)),
      inl was.at.0,
    );
  }
    where
      old : RecoveryView
      old = recovery_of slot devices areas (Settles opened) records

      none : length records ≡ 0
      none = ap (λ (l : List Logged). length l) was.done.0

  module _ (opened : ℕ) (bytes : List ℕ) (came : step.arrived ≡ Some bytes) (asked : a.asked ≡ None) (was : Is (Bodies opened) records) (reads : IsBodyAsRead devices a slot (length records) bytes) where
    -- what was read of bodies then is as it stands
    pub bodies_then : AreBodiesAsRead devices a slot (step ∷ was.steps)
    bodies_then body other (inl last) =
        let one = one_body devices slot (length records) body (last_one was.steps (body_read devices slot (length records)) (body_read devices slot body) (λ e. cc) (λ e. cc) was.done.4 last.1) in
        let same : bytes ≡ other = let e = sym came ∙ last.0 in cc in
        λ i few filled. subst (λ (n : ℕ). IsBodyAsRead devices a slot n other) one (subst (λ (l : List ℕ). IsBodyAsRead devices a slot (length records) l) same reads) i few filled
    bodies_then body other (inr before) = was.at.2 body other before

    -- What came wasn't a body: it asks again.
    pub body_again : step.said ≡ body_read devices slot (length records) → Is (Bodies opened) records
    body_again said = record {
      claimed = was.claimed;
      known = was.known;
      other = was.other;
      unproposed = was.unproposed;
      steps = step ∷ was.steps;
      done = (
        quiet old was.steps step (reads_body old (length records)) said refl ∙ was.done.0,
        record { gates = was.done.1.gates; has = later_gates old was.steps step (Bodies opened) records was.done.1.gates opened was.done.1.has; back = inr was.done.1.back },
        (λ body logged there. later_read old was.steps step (Bodies opened) records body logged (was.done.2 body logged there)),
        was.done.3,
        inl said,
      );
      at = (was.at.0, was.at.1, bodies_then, inl asked);
    }
      where
        old : RecoveryView
        old = recovery_of slot devices areas (Bodies opened) records

    -- A record was read, and there is one more behind it.
    pub asks_next : (logged : Logged) → step.said ≡ body_read devices slot (length records + 1) → IsRecordIn areas bytes logged → length records + 1 < opened → Is (Bodies opened) (records ++ logged ∷ [])
    asks_next logged said is less = record {
      claimed = was.claimed;
      known = was.known;
      other = was.other;
      unproposed = was.unproposed;
      steps = step ∷ was.steps;
      done = (
        quiet old was.steps step (reads_body old (length records + 1)) said refl ∙ was.done.0,
        record { gates = was.done.1.gates; has = later_gates old was.steps step (Bodies opened) (records ++ logged ∷ []) was.done.1.gates opened was.done.1.has; back = inr was.done.1.back },
        more_read old was.steps step old opened bytes logged (Bodies opened) was.done came is,
        omega (arith, one, less),
        inl (said ∙ ap (reads_body old) (sym one)),
      );
      at = (was.at.0, was.at.1, bodies_then, inl asked);
    }
      where
        old : RecoveryView
        old = recovery_of slot devices areas (Bodies opened) records

        one : length (records ++ logged ∷ []) ≡ length records + 1
        one = length-append records (logged ∷ [])

-- ---- what it asks for is asked

module _ (devices areas : ℕ) (Sure : ℕ → ℕ → List ℕ → Type 0) (Reads : ℕ → List ℕ → Type 0) (chain : Chain) (knew : ℕ) (proposed : List Change) (a : Around) (session gone slot : ℕ) (records : List Logged) where
  -- The gates.
  pub gates_are_asked : IsRecovering devices areas Sure Reads chain knew proposed (record a { asked = None }) session gone slot Gates records → a.asked ≡ Some (gates_asked devices slot)
      → ((gate : ℕ) → gate < 8 → IsStill devices a slot gate → Reads (gate_place slot gate devices).1 (gate_of a.before devices slot gate))
      → IsRecovering devices areas Sure Reads chain knew proposed a session gone slot Gates records
  gates_are_asked was asked reads = record {
    claimed = was.claimed;
    known = was.known;
    other = was.other;
    unproposed = was.unproposed;
    steps = was.steps;
    done = was.done;
    at = (was.at.0, inr (asked, reads), was.at.2);
  }

  -- A body.
  pub body_is_asked : (opened : ℕ) → IsRecovering devices areas Sure Reads chain knew proposed (record a { asked = None }) session gone slot (Bodies opened) records → a.asked ≡ Some (body_asked devices slot (length records))
      → ((i : ℕ) → i < 145 → IsFilled devices a slot (length records) i → Reads ((body_place slot (length records) devices).1 + i) (a.before (body_place slot (length records) devices).0 ((body_place slot (length records) devices).1 + i)))
      → IsRecovering devices areas Sure Reads chain knew proposed a session gone slot (Bodies opened) records
  body_is_asked opened was asked reads = record {
    claimed = was.claimed;
    known = was.known;
    other = was.other;
    unproposed = was.unproposed;
    steps = was.steps;
    done = was.done;
    at = (was.at.0, was.at.1, was.at.2, inr (asked, reads));
  }
