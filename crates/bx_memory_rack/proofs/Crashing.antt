-- Disks in memory are those that the record tells: after a crash, and once a disk was made blank.
use Rattle.std.proofs.Common.{◌≡◌, ◌∙◌, ℕ, ◌+◌, ◌<◌, Bool, true, false, List, set, arith, sym, ap, refl, subst}
use Rattle.std.specs.Prelude.{◌==◌, if◌then◌else◌, slice_get, slice_index, Some}
use Rattle.std.proofs.Math.Path.{fun_ext}
use Rattle.std.proofs.lemmas.Bool.{lt-ltb}
use Rattle.bx_disk.specs.Disks.{Disks, synced, blanked}
use Rattle.bx_disk.specs.Crash.{left_with, crashed, noise_at, seeded}
use Rattle.bx_memory_rack.specs.Cells.{cell_at, blank_cell, is_unsure, left_cell, crashed_cell}
use Rattle.bx_memory_rack.specs.Memory.{IsKeptAs, AreKept}
use Rattle.bx_memory_rack.specs.declared.cell.Cell.{Cell}
use Rattle.bx_memory_rack.specs.declared.mem_disk.MemDisk.{MemDisk}
use Rattle.bx_disk.specs.declared.noise.Noise.{Noise}
use Rattle.bx_disk.specs.declared.noise.Noise.TheVariants.{Keep, Drop, Seed}
use Rattle.bx_memory_rack.proofs.Keeping.{Elsewhere, same_number, cleared_here, synced_elsewhere, left_elsewhere, blanked_elsewhere, kept_set}

since_stays : (b : Bool) (cell : Cell) (content : List ℕ) → (if b then record { now = content; held = cell.held; since = cell.since } else cell).since ≡ cell.since
since_stays true cell content = refl
since_stays false cell content = refl

-- Each unsure sector of the disk was given its content.
left_here : (disks : Disks) (d : ℕ) (old new : MemDisk) (n : ℕ) (content given : ℕ → List ℕ) → IsKeptAs disks d old n → new.size ≡ old.size
    → ((s : ℕ) → cell_at new.cells s ≡ left_cell old.synced (cell_at old.cells s) (given s))
    → ((s : ℕ) → s < old.size → disks.unsure d s ≡ true → content s ≡ given s)
    → new.synced ≡ n + 1 → new.dirty ≡ false → IsKeptAs (left_with disks d content) d new (n + 1)
left_here disks d old new n content given kept size cells same synced dirty =
    cleared_here (left_with disks d content) d new (n + 1) (kept.size ∙ sym size) (rw size kept.small)
    (λ s within. reads_at (disks.unsure d s) s refl (subst (λ (m : ℕ). s < m) size within))
    (λ s. rw (same_number d) refl) (λ s. rw (same_number d) refl)
    (λ s. let since = ap (λ (c : Cell). c.since) (cells s) ∙ since_stays (is_unsure old.synced (cell_at old.cells s)) (cell_at old.cells s) (given s) in let before = kept.before s in omega arith)
    synced dirty
  where
    now_at : (b : Bool) (s : ℕ) → disks.unsure d s ≡ b → (cell_at new.cells s).now ≡ (if b then record { now = given s; held = (cell_at old.cells s).held; since = (cell_at old.cells s).since } else cell_at old.cells s).now
    now_at b s is = ap (λ (c : Cell). c.now) (cells s) ∙ ap (λ (u : Bool). (if u then record { now = given s; held = (cell_at old.cells s).held; since = (cell_at old.cells s).since } else cell_at old.cells s).now) (sym (kept.unsure s) ∙ is)

    reads_at : (b : Bool) (s : ℕ) → disks.unsure d s ≡ b → s < old.size → (left_with disks d content).reads d s ≡ (cell_at new.cells s).now
    reads_at true s is within = rw (same_number d, is) (same s within is ∙ sym (now_at true s is))
    reads_at false s is within = rw (same_number d, is) (kept.reads s within ∙ sym (now_at false s is))

crashed_here : (disks : Disks) (d : ℕ) (how : Noise) (old new : MemDisk) (n : ℕ) → IsKeptAs disks d old n → new.size ≡ old.size
    → ((s : ℕ) → cell_at new.cells s ≡ crashed_cell how old.synced (cell_at old.cells) s)
    → new.synced ≡ n + 1 → new.dirty ≡ false → IsKeptAs (crashed disks d how) d new (n + 1)
crashed_here disks d Keep old new n kept size cells same_length dirty =
    cleared_here (synced disks d) d new (n + 1) (kept.size ∙ sym size) (rw size kept.small)
    (λ s within. kept.reads s (subst (λ (m : ℕ). s < m) size within) ∙ sym (ap (λ (c : Cell). c.now) (cells s)))
    (λ s. rw (same_number d) refl) (λ s. rw (same_number d) refl)
    (λ s. let since = ap (λ (c : Cell). c.since) (cells s) in let before = kept.before s in omega arith)
    same_length dirty
crashed_here disks d Drop old new n kept size cells same_length dirty =
    left_here disks d old new n (disks.held d) (λ s. (cell_at old.cells s).held) kept size cells kept.held same_length dirty
crashed_here disks d (Seed seed) old new n kept size cells same_length dirty =
    left_here disks d old new n (noise_at (disks.unsure d) (seeded seed)) (noise_at (λ t. is_unsure old.synced (cell_at old.cells t)) (seeded seed)) kept size cells
    (λ s within is. ap (λ (unsure : ℕ → Bool). noise_at unsure (seeded seed) s) (fun_ext kept.unsure)) same_length dirty

crashed_elsewhere : (disks : Disks) (d : ℕ) (how : Noise) (e : ℕ) → (e == d) ≡ false → Elsewhere disks (crashed disks d how) e
crashed_elsewhere disks d Keep e apart = synced_elsewhere disks d e apart
crashed_elsewhere disks d Drop e apart = left_elsewhere disks d (disks.held d) e apart
crashed_elsewhere disks d (Seed seed) e apart = left_elsewhere disks d (noise_at (disks.unsure d) (seeded seed)) e apart

pub crashed_sizes : (disks : Disks) (d : ℕ) (how : Noise) → (crashed disks d how).sizes ≡ disks.sizes
crashed_sizes disks d Keep = refl
crashed_sizes disks d Drop = refl
crashed_sizes disks d (Seed seed) = refl

pub kept_crashed : (before : Disks) (memory : List MemDisk) (d : ℕ) (how : Noise) (old new : MemDisk) (n m : ℕ) → slice_get memory d ≡ Some old
    → new.size ≡ old.size → ((s : ℕ) → cell_at new.cells s ≡ crashed_cell how old.synced (cell_at old.cells) s)
    → new.synced ≡ m → new.dirty ≡ false → m ≡ n + 1
    → AreKept before memory n → AreKept (crashed before d how) (set memory d new) (n + 1)
kept_crashed before memory d how old new n m got size cells same_length dirty long kept =
    kept_set before (crashed before d how) memory d new n (n + 1) (omega arith) kept (crashed_sizes before d how) (λ e apart. crashed_elsewhere before d how e apart)
    (crashed_here before d how old new n (kept.each d old got) size cells (same_length ∙ long) dirty)

pub kept_blanked : (before : Disks) (memory : List MemDisk) (d : ℕ) (old new : MemDisk) (n m : ℕ) → slice_get memory d ≡ Some old
    → new.size ≡ old.size → ((s : ℕ) → cell_at new.cells s ≡ blank_cell)
    → new.synced ≡ m → new.dirty ≡ false → m ≡ n + 1
    → AreKept before memory n → AreKept (blanked before d) (set memory d new) (n + 1)
kept_blanked before memory d old new n m got size cells same_length dirty long kept =
    kept_set before (blanked before d) memory d new n (n + 1) (omega arith) kept refl (λ e apart. blanked_elsewhere before d e apart)
    (cleared_here (blanked before d) d new (n + 1) (was.size ∙ sym size) (rw size was.small) reads_zero
    (λ s. rw (same_number d) refl) (λ s. rw (same_number d) refl)
    (λ s. let since = ap (λ (c : Cell). c.since) (cells s) in omega arith) (same_length ∙ long) dirty)
  where
    was : IsKeptAs before d old n
    was = kept.each d old got

    reads_zero : (s : ℕ) → s < new.size → (blanked before d).reads d s ≡ (cell_at new.cells s).now
    reads_zero s within = rw (same_number d, lt-ltb s (slice_index before.sizes d) (subst (λ (m : ℕ). s < m) (size ∙ sym was.size) within)) (sym (ap (λ (c : Cell). c.now) (cells s)))
