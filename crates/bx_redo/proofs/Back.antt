-- What a store says of a recovery's write of the gates.
use Rattle.std.proofs.Common.{◌≡◌, ℕ, ◌+◌, ◌-◌, ◌<◌, ◌≤◌, ◌⊎◌, ⊎_elim, inl, inr, arith, Bool, true, List, [], ◌∷◌, Contains, length, sym, ap, ◌∙◌, subst, refl}
use Rattle.std.specs.Prelude.{if◌then◌else◌}
use Rattle.bx_calls.specs.Regions.{ReadsAs}
use Rattle.bx_disk.specs.Disks.{Image, Disks, sector_of}
use Rattle.bx_facts.specs.Writes.{Sent, IsDone, IsOnly, IsOver, IsSettled, IsSourceIn, Writes, WritesTo, member_disk}
use Rattle.bx_facts.proofs.Lists.{front}
use Rattle.bx_global.specs.declared.state.GlobalState.{GlobalState}
use Rattle.bx_places.specs.Places.{log_start}
use Rattle.bx_records.specs.declared.runs.Run.{Run}
use Rattle.bx_redo.specs.Found.{AreSettled, gates_run, with_gates}
use Rattle.bx_redo.specs.Stands.{is_gate}
use Rattle.bx_redo.specs.View.{LogView}
use Rattle.bx_redo.proofs.Stored.{only_one}
use Rattle.bx_redo.proofs.Within.{within_it, within_is}

module _ (log : LogView) (bytes : List ℕ) (long : length bytes ≡ 4096) where
  -- what the write brings to a sector is the gate that was read there
  brings : (write : Sent) → write.runs ≡ gates_run log bytes ∷ [] → (d s : ℕ) (content : List ℕ) → WritesTo write d s content
      → (is_gate log d s ≡ true) × (content ≡ sector_of bytes (s - log_start log.slot))
  brings write is d s content (run, there, w) =
      let same = only_one (gates_run log bytes) run (subst (λ (runs : List Run). Contains runs run) is there) in
      let mine : Writes (gates_run log bytes) d s content = subst (λ (r : Run). Writes r d s content) (sym same) w in
      (within_it log.device (log_start log.slot) 8 d s (sym mine.on) mine.from (let below = mine.below in omega (arith, below, long)), sym mine.is)

  gate_brought : (write : Sent) → write.runs ≡ gates_run log bytes ∷ [] → (d s : ℕ) → is_gate log d s ≡ true → WritesTo write d s (sector_of bytes (s - log_start log.slot))
  gate_brought write is d s gate =
      let w = within_is log.device (log_start log.slot) 8 d s gate in (
        gates_run log bytes,
        subst (λ (runs : List Run). Contains runs (gates_run log bytes)) (sym is) (front (gates_run log bytes) []),
        record { on = sym w.on; from = w.begins; below = let ends = w.ends in omega (arith, ends, long); is = refl },
      )

  -- all that is settled stays
  pub all_stay : (disks : Disks) (state : GlobalState) (Sure_then : ℕ → ℕ → List ℕ → Type 0) (second : Bool) (sent : List Sent) (greatest : ℕ)
      → IsSourceIn state log.device second → ReadsAs disks.reads (member_disk log.device second) (log_start log.slot) bytes
      → ((write : Sent) → Contains sent write → (write.runs ≡ gates_run log bytes ∷ []) ⊎ IsOver greatest write)
      → ((d s : ℕ) (content : List ℕ) → IsOnly sent greatest d s content → IsSettled disks state d s content → Sure_then d s content)
      → (d s : ℕ) (content : List ℕ) → IsSettled disks state d s content → Sure_then d s content
  all_stay disks state Sure_then second sent greatest source reads each goes d s content was =
      goes d s content (record { each = λ write other there w. ⊎_elim (λ is. inl (same write is other w)) (λ over. inr over) (each write there) }) was
    where
      -- what was read off the source is what is settled
      read : (device sector : ℕ) → device ≡ log.device → log_start log.slot ≤ sector → sector < log_start log.slot + 8 → IsSettled disks state device sector content
          → sector_of bytes (sector - log_start log.slot) ≡ content
      read device sector on from to settled =
          sym (reads.each (sector - log_start log.slot) (omega (arith, from, to, long)))
          ∙ (λ i. disks.reads (member_disk (sym on i) second) (place i))
          ∙ settled.reads second (subst (λ (n : ℕ). IsSourceIn state n second) (sym on) source)
        where
          place : log_start log.slot + (sector - log_start log.slot) ≡ sector
          place = omega (arith, from)

      same : (write : Sent) → write.runs ≡ gates_run log bytes ∷ [] → (other : List ℕ) → WritesTo write d s other → other ≡ content
      same write is other w =
          let b = brings write is d s other w in
          let at = within_is log.device (log_start log.slot) 8 d s b.0 in
          b.1 ∙ read d s at.on at.begins at.ends was

  -- and once it is done, the gates are settled as they were read
  pub done_back : (Sure Sure_then : ℕ → ℕ → List ℕ → Type 0) (write : Sent) (before : Image) (index : ℕ) → write.runs ≡ gates_run log bytes ∷ []
      → ((d s : ℕ) (content : List ℕ) → Sure d s content → Sure_then d s content)
      → IsDone (λ d s content known. Sure_then d s content) index write
      → AreSettled Sure Sure_then before (with_gates before log bytes) log bytes
  done_back Sure Sure_then write before index is stays done = record {
    same = λ d s other. ap (λ (b : Bool). if b then sector_of bytes (s - log_start log.slot) else before d s) other;
    out = λ d s content other clear. stays d s content;
    sure = λ d s gate. subst (Sure_then d s) (sym (here d s gate)) (done.each d s (sector_of bytes (s - log_start log.slot)) (gate_brought write is d s gate));
    reads = record {
      each = λ i less. here log.device (log_start log.slot + i)
          (within_it log.device (log_start log.slot) 8 log.device (log_start log.slot + i) refl (omega arith) (omega (arith, less, long)))
          ∙ ap (sector_of bytes) (omega arith);
    };
  }
    where
      here : (d s : ℕ) → is_gate log d s ≡ true → with_gates before log bytes d s ≡ sector_of bytes (s - log_start log.slot)
      here d s gate = ap (λ (b : Bool). if b then sector_of bytes (s - log_start log.slot) else before d s) gate
