-- Gates, as they are read and written.
use Rattle.std.proofs.Common.{◌≡◌, ℕ, ◌+◌, Bool, true, false, List, length, take, refl, sym, ap, ◌∙◌, arith}
use Rattle.std.specs.Prelude.{bytes_eq, ◌↔◌}
use Rattle.std.proofs.lemmas.Slice.Eq.{bytes_eq-Decides}
use Rattle.std.proofs.Math.Seq.{take-length}
use Rattle.bx_layout.specs.declared.gate.Gate.{Gate}
use Rattle.bx_layout.specs.declared.gate.Gate.TheVariants.{Open, Closed}
use Rattle.bx_layout.specs.Labels.{IsOpenGate, gate_word, gate_text}
use Rattle.bx_disk.specs.Disks.{Image, sector_of}
use Rattle.bx_calls.specs.Regions.{ReadsAs}
use Rattle.bx_cell.specs.Halves.{is_open}

pub open_reads : (gate : List ℕ) → IsOpenGate gate → true ≡ is_open gate
unfolding is_open
open_reads gate is = sym ((bytes_eq-Decides (take 8 gate) gate_word).1 is)

pub closed_reads : (gate : List ℕ) (read : Gate) → (read ≡ Open) ↔ IsOpenGate gate → read ≡ Closed → false ≡ is_open gate
unfolding is_open
closed_reads gate read means is = by_test (bytes_eq (take 8 gate) gate_word) refl
  where
    by_test : (b : Bool) → bytes_eq (take 8 gate) gate_word ≡ b → false ≡ bytes_eq (take 8 gate) gate_word
    by_test false e = sym e
    by_test true e = let opened = means.1 ((bytes_eq-Decides (take 8 gate) gate_word).0 e) in absurd cc

-- ---- a gate as a sector

pub gate_read : (image : Image) (disk sector : ℕ) (gate : List ℕ) → length gate ≡ 512 → ReadsAs image disk sector gate → image disk sector ≡ gate
unfolding sector_of
gate_read image disk sector gate long reads =
    let here : sector ≡ sector + 0 = omega arith in
    ap (image disk) here ∙ reads.each 0 (omega arith) ∙ ap (λ (n : ℕ). take n gate) (sym long) ∙ take-length gate

pub open_text : is_open (gate_text Open) ≡ true
unfolding is_open
open_text = (bytes_eq-Decides gate_word gate_word).1 refl

pub closed_text : is_open (gate_text Closed) ≡ false
unfolding is_open
closed_text = refl
