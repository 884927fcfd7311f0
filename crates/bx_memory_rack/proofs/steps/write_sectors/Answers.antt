use Rattle.std.proofs.Common.{◌≡◌, ℕ, ◌+◌, ◌≤◌, arith, refl, ap, length, List, length-append}
use Rattle.std.proofs.lemmas.Option.{slice_get_read}
use Rattle.std.specs.Prelude.{slice_get, Some}
use Rattle.std.proofs.Common.{◌∷◌, [], ◌/◌}
use Rattle.bx_disk.specs.declared.entry.Entry.{Entry}
use Rattle.bx_disk.specs.declared.entry.Entry.TheVariants.{Wrote}
use Rattle.bx_disk.specs.Disks.{written}
use Rattle.bx_memory_rack.proofs.Keeping.{kept_set, unchanged, roomy_here, written_elsewhere, written_here}
use Rattle.bx_memory_rack.proofs.Owed.{write_room, same_room}
use Rattle.bx_memory_rack.proofs.steps.write_sectors.Goals as goal

pub returns-in_err-make_room-clause-kept_err : goal.returns-in_err-make_room-clause-kept_err
returns-in_err-make_room-clause-kept_err c = λ before kept err.
    let got : slice_get c.args.disks.now.items c.args.disk ≡ Some c.index_mut-place.result.now = slice_get_read _ _ _ _ refl c.requires.there c.index_mut-place.ensures.value in
    let here = roomy_here before c.args.disk c.index_mut-place.result.now c.make_room.new.self (length c.args.entries.now.items) (kept.each _ _ got)
    c.make_room.ensures.size c.make_room.ensures.synced c.make_room.ensures.dirty c.make_room.ensures.same in
    kept_set before before c.args.disks.now.items c.args.disk c.make_room.new.self _ _ (omega arith) kept refl (λ e apart. unchanged before e) here

pub returns-in_err-make_room-clause-room : goal.returns-in_err-make_room-clause-room
returns-in_err-make_room-clause-room c = λ room.
    let got : slice_get c.args.disks.now.items c.args.disk ≡ Some c.index_mut-place.result.now = slice_get_read _ _ _ _ refl c.requires.there c.index_mut-place.ensures.value in
    same_room c.args.disks.now.items c.args.disk c.index_mut-place.result.now c.make_room.new.self (length c.args.entries.now.items) _ _ _ got c.make_room.ensures.dirty room
    (ap (λ (l : List Entry). length l) c.in_ok-reserve.ensures.items) c.in_ok-reserve.ensures.capacity

pub returns-clause-kept : goal.returns-clause-kept
returns-clause-kept c = λ before kept range.
    let got : slice_get c.args.disks.now.items c.args.disk ≡ Some c.index_mut-place.result.now = slice_get_read _ _ _ _ refl c.requires.there c.index_mut-place.ensures.value in
    let n : ℕ = length c.args.entries.now.items in
    let was = kept.each _ _ got in
    let here = roomy_here before c.args.disk c.index_mut-place.result.now c.make_room.new.self (length c.args.entries.now.items) was
    c.make_room.ensures.size c.make_room.ensures.synced c.make_room.ensures.dirty c.make_room.ensures.same in
    let long : c.len-2.result ≡ length c.args.entries.now.items + 1 =
    let items = ap (λ (l : List Entry). length l) (c.push_reserved.ensures.items) in
    let sum = length-append c.reserve.new.self.items (Wrote c.args.disk c.args.sector c.in_ok-copy.copy ∷ []) in
    let was = ap (λ (l : List Entry). length l) c.in_ok-reserve.ensures.items in
    omega arith in
    let size = here.size in
    let within : c.args.sector + length c.args.bytes.now / 512 ≤ c.make_room.new.self.size = omega arith in
    kept_set before (written before c.args.disk c.args.sector c.args.bytes.now) c.args.disks.now.items c.args.disk c.write.new.self _ _ (omega arith) kept refl
    (λ e apart. written_elsewhere before c.args.disk c.args.sector c.args.bytes.now e apart)
    (written_here before c.args.disk c.make_room.new.self c.write.new.self (length c.args.entries.now.items) c.args.sector c.args.bytes.now here within c.requires.whole
    c.write.ensures.size c.write.ensures.synced c.write.ensures.dirty (rw long at c.write.ensures.cells))

pub returns-clause-room : goal.returns-clause-room
returns-clause-room c = λ room.
    write_room c.args.disks.now.items c.args.disk c.write.new.self (length c.args.entries.now.items) _ _
    (let kept = c.push_reserved.ensures.capacity in let ok = c.in_ok-reserve.ensures.ok in omega arith)
    (let items = ap (λ (l : List Entry). length l) c.push_reserved.ensures.items in
    let sum = length-append c.reserve.new.self.items (Wrote c.args.disk c.args.sector c.in_ok-copy.copy ∷ []) in
    let was = ap (λ (l : List Entry). length l) c.in_ok-reserve.ensures.items in
    omega arith)
