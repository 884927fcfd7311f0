use Rattle.std.proofs.Common.{◌≡◌, ◌+◌, arith, refl, ap, length, List, [], ◌∷◌, length-append}
use Rattle.std.proofs.lemmas.Option.{slice_get_read}
use Rattle.std.specs.Prelude.{slice_get, Some}
use Rattle.bx_disk.specs.declared.entry.Entry.{Entry}
use Rattle.bx_disk.specs.declared.entry.Entry.TheVariants.{Blanked}
use Rattle.bx_memory_rack.proofs.Crashing.{kept_blanked}
use Rattle.bx_memory_rack.proofs.Owed.{write_room}
use Rattle.bx_memory_rack.proofs.steps.blank_disk.Goals as goal

pub returns-clause-kept : goal.returns-clause-kept
returns-clause-kept c = λ before kept.
    let got : slice_get c.args.disks.now.items c.args.disk ≡ Some c.index_mut.result.now = slice_get_read _ _ _ _ refl c.requires c.index_mut.ensures.value in
    let long : c.len-2.result ≡ length c.args.entries.now.items + 1 =
    let items = ap (λ (l : List Entry). length l) c.push_reserved.ensures.items in
    let sum = length-append c.reserve.new.self.items (Blanked c.args.disk ∷ []) in
    let was = ap (λ (l : List Entry). length l) c.in_ok-reserve.ensures.items in
    omega arith in
    kept_blanked before c.args.disks.now.items c.args.disk c.index_mut.result.now c.clear.new.self (length c.args.entries.now.items) c.len-2.result got
    c.clear.ensures.size c.clear.ensures.cells c.clear.ensures.synced c.clear.ensures.dirty long kept

pub returns-clause-room : goal.returns-clause-room
returns-clause-room c = λ room.
    write_room c.args.disks.now.items c.args.disk c.clear.new.self (length c.args.entries.now.items) _ _
    (let kept = c.push_reserved.ensures.capacity in let ok = c.in_ok-reserve.ensures.ok in omega arith)
    (let items = ap (λ (l : List Entry). length l) c.push_reserved.ensures.items in
    let sum = length-append c.reserve.new.self.items (Blanked c.args.disk ∷ []) in
    let was = ap (λ (l : List Entry). length l) c.in_ok-reserve.ensures.items in
    omega arith)
