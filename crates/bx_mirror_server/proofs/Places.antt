-- Where a member's sectors are, and which runs lie there.
use Rattle.std.proofs.Common.{◌≡◌, ℕ, zero, suc, ◌%◌, ◌<◌, ◌≤◌, Bool, true, false, List, [], ◌∷◌, Contains, length, refl, sym, ◌∙◌, subst, arith}
use Rattle.std.specs.Prelude.{◌==◌, slice_index}
use Rattle.std.specs.List.{AllByRecursion}
use Rattle.std.proofs.lemmas.Bool.Decides.{nat_tests}
use Rattle.bx_disk.specs.Disks.{Disks}
use Rattle.bx_facts.specs.Writes.{member_disk}
use Rattle.bx_layout.specs.Labels.{SpellsLabel}
use Rattle.bx_layout.specs.declared.label.Label.{Label}
use Rattle.bx_mirror_disks.specs.Puts.{AllLieIn, LiesIn}
use Rattle.bx_mirror_packets.specs.DeviceMessages.{IsCopyBody, IsRunOf, IsWriteBody}
use Rattle.bx_mirror_packets.specs.declared.message.CopyBody.{CopyBody}
use Rattle.bx_mirror_packets.specs.declared.message.WriteBody.{WriteBody}
use Rattle.bx_mirror_member.specs.Acting.{IsCopiedHere, IsOpen}
use Rattle.bx_mirror_member.specs.Standing.{MemberView, device_in, disk_in, is_second, room_in}
use Rattle.bx_mirror_server.specs.Serving.{run_of}
use Rattle.bx_records.specs.declared.runs.Run.{Run}

-- its disk is a member's of its device
pub own_disk : (m : MemberView) → disk_in m ≡ member_disk (device_in m) (is_second m)
own_disk m = by_test (m.number % 2 == 1) refl
  where
    by_test : (b : Bool) → (m.number % 2 == 1) ≡ b → disk_in m ≡ member_disk (device_in m) b
    by_test true is = let odd : m.number % 2 ≡ 1 = grind (arith, nat_tests, is) in omega (arith, odd)
    by_test false is = let even : m.number % 2 ≡ 0 = grind (arith, nat_tests, is) in omega (arith, even)

each_of : {X : Type 0} (P : X → Type 0) (xs : List X) (x : X) → AllByRecursion P xs → Contains xs x → P x
each_of P [] x all (at, less, is) = absurd (omega (arith, less))
each_of P (y ∷ ys) x all (zero, less, is) = subst P is all.0
each_of P (y ∷ ys) x all (suc k, less, is) = each_of P ys x all.1 (k, omega (arith, less), is)

-- the runs of a write that isn't refused lie in the device
pub writes_lie : (m : MemberView) (reading : ℕ) (w : WriteBody) → IsWriteBody w → IsOpen m reading w → AllLieIn (device_in m) (room_in m) w.runs.1
writes_lie m reading w body opens = record {
  each = λ run has.
      let of : IsRunOf w.device run = each_of (IsRunOf w.device) w.runs.1 run body.each has in
      let inside = opens.inside.each run has in
      record { on = of.on ∙ opens.acts.device_is; whole = of.whole; behind_label = inside.behind_label; within = inside.within };
}

-- and so does a piece of a copy that is taken
pub piece_lies : (m : MemberView) (c : CopyBody) → IsCopyBody c → IsCopiedHere m c → AllLieIn (device_in m) (room_in m) (run_of c ∷ [])
piece_lies m c body here = record { each = λ run has. subst (LiesIn (device_in m) (room_in m)) (only_run run has) (record { on = here.acts.device_is; whole = body.3; behind_label = here.inside.behind_label; within = here.inside.within }) }
  where
    only_run : (run : Run) → Contains (run_of c ∷ []) run → run_of c ≡ run
    only_run run (zero, less, is) = is
    only_run run (suc k, less, is) = absurd (omega (arith, less))

-- a disk that has a member's sectors is there
pub disk_there : (sizes : List ℕ) (disk room : ℕ) → 1 ≤ room → room ≤ slice_index sizes disk → disk < length sizes
disk_there [] disk room some long = absurd (omega (arith, some, long))
disk_there (size ∷ sizes) zero room some long = omega arith
disk_there (size ∷ sizes) (suc disk) room some long = let less = disk_there sizes disk room some long in omega (arith, less)

-- what is said of a disk that has its own label
pub had_own : (x : Disks) (label own : Label) (disk at : ℕ) → label ≡ own → disk ≡ at → (P : ℕ → Type 0) → (SpellsLabel label (x.reads disk 0) → P disk) → SpellsLabel own (x.reads at 0) → P at
had_own x label own disk at same here P had spelled =
    subst P here (had (subst (λ (l : Label). SpellsLabel l (x.reads disk 0)) (sym same) (subst (λ (d : ℕ). SpellsLabel own (x.reads d 0)) (sym here) spelled)))
