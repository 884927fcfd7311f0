use Rattle.std.proofs.Common.{◌≡◌, ◌∙◌, rules, arith, refl, sym, ap, length, List, [], ◌∷◌, length-append, inl, inr}
use Rattle.std.proofs.lemmas.Option.{slice_get_read}
use Rattle.std.specs.Prelude.{slice_get, Some}
use Rattle.bx_disk.specs.declared.entry.Entry.{Entry}
use Rattle.bx_disk.specs.declared.entry.Entry.TheVariants.{Synced}
use Rattle.bx_memory_rack.specs.declared.mem_disk.MemDisk.{MemDisk}
use Rattle.bx_memory_rack.proofs.Keeping.{kept_synced, kept_synced_same, some_unsure, none_unsure, never}
use Rattle.bx_memory_rack.proofs.Owed.{owed-some, sync_room}
use Rattle.bx_memory_rack.proofs.steps.sync_sectors.Goals as goal

pub push_reserved-requires : goal.push_reserved-requires
push_reserved-requires c =
    let got : slice_get c.args.disks.now.items c.args.disk ≡ Some c.index_mut-place.result.now = slice_get_read _ _ _ _ refl c.requires.there c.index_mut-place.ensures.value in
    let some = owed-some c.args.disks.now.items c.args.disk c.index_mut-place.result.now got c.if-place.true in
    let room = c.requires.room in
    omega arith

pub returns-then-place-clause-room : goal.returns-then-place-clause-room
returns-then-place-clause-room c =
    let got : slice_get c.args.disks.now.items c.args.disk ≡ Some c.index_mut-place.result.now = slice_get_read _ _ _ _ refl c.requires.there c.index_mut-place.ensures.value in
    sync_room c.args.disks.now.items c.args.disk c.index_mut-place.result.now c.mark_synced.new.self (length c.args.entries.now.items) _ _ _ got c.if-place.true
    (ap (λ (d : MemDisk). d.dirty) c.mark_synced.ensures) c.requires.room
    (ap (λ (l : List Entry). length l) c.push_reserved.ensures.items ∙ length-append c.args.entries.now.items (Synced c.args.disk ∷ []))
    c.push_reserved.ensures.capacity

pub returns-then-place-clause-noted : goal.returns-then-place-clause-noted
returns-then-place-clause-noted c = λ before kept.
    let got : slice_get c.args.disks.now.items c.args.disk ≡ Some c.index_mut-place.result.now = slice_get_read _ _ _ _ refl c.requires.there c.index_mut-place.ensures.value in
    let some = some_unsure before c.args.disk c.index_mut-place.result.now _ (kept.each _ _ got) c.if-place.true in
    record {
      some = λ s is. c.push_reserved.ensures.items;
      none = λ none. absurd (never (sym (none some.0) ∙ some.1));
      either = inl c.push_reserved.ensures.items;
    }

pub returns-then-place-clause-kept : goal.returns-then-place-clause-kept
returns-then-place-clause-kept c = λ before kept.
    let got : slice_get c.args.disks.now.items c.args.disk ≡ Some c.index_mut-place.result.now = slice_get_read _ _ _ _ refl c.requires.there c.index_mut-place.ensures.value in
    kept_synced before c.args.disks.now.items c.args.disk c.index_mut-place.result.now c.mark_synced.new.self (length c.args.entries.now.items) _ got
    (search rules)
    (ap (λ (l : List Entry). length l) c.push_reserved.ensures.items ∙ length-append c.args.entries.now.items (Synced c.args.disk ∷ [])) kept

pub returns-else-place-clause-noted : goal.returns-else-place-clause-noted
returns-else-place-clause-noted c = λ before kept.
    let got : slice_get c.args.disks.now.items c.args.disk ≡ Some c.index_mut-place.result.now = slice_get_read _ _ _ _ refl c.requires.there c.index_mut-place.ensures.value in
    let none = none_unsure before c.args.disk c.index_mut-place.result.now _ (kept.each _ _ got) c.if-place.false in
    record {
      some = λ s is. absurd (never (sym (none s) ∙ is));
      none = λ none. refl;
      either = inr (refl, none);
    }

pub returns-else-place-clause-kept : goal.returns-else-place-clause-kept
returns-else-place-clause-kept c = λ before kept.
    let got : slice_get c.args.disks.now.items c.args.disk ≡ Some c.index_mut-place.result.now = slice_get_read _ _ _ _ refl c.requires.there c.index_mut-place.ensures.value in
    kept_synced_same before c.args.disks.now.items c.args.disk c.index_mut-place.result.now _ got c.if-place.false kept
