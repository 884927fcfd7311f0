use Rattle.std.proofs.Common.{◌∙◌, ℕ, ◌+◌, sym, ap, arith, length, length-append, List, ◌∷◌, [], subst}
use Rattle.std.specs.Prelude.{slice_index}
use Rattle.bx_memory_rack.specs.Memory.{IsBlank}
use Rattle.bx_memory_rack.specs.declared.mem_disk.MemDisk.{MemDisk}
use Rattle.bx_memory_rack.proofs.Blank.{blank_push, owed_push, kept_blank}
use Rattle.bx_memory_rack.proofs.steps.make_disks.Goals as goal

pub loop-size-preserved : goal.loop-size-preserved
loop-size-preserved c =
    let items = c.in_ok-push.ensures.items in
    record {
      long = ap (λ (l : List MemDisk). length l) items ∙ length-append c.loop-size.disks.items (c.blank.result ∷ []) ∙ ap (λ (n : ℕ). n + 1) c.loop-size.invariant.long;
      each = rw items (blank_push c.args.sizes.now c.loop-size.disks.items c.blank.result c.args.synced c.loop-size.invariant.each
          (subst (λ (n : ℕ). IsBlank c.blank.result n c.args.synced) (ap (λ (n : ℕ). slice_index c.args.sizes.now n) (sym c.loop-size.invariant.long)) c.blank.ensures));
      none = rw items (owed_push c.loop-size.disks.items c.blank.result c.blank.ensures.clean c.loop-size.invariant.none);
    }

pub returns-clause-kept : goal.returns-clause-kept
returns-clause-kept c = kept_blank c.args.sizes.now c.loop-size.disks.items c.args.synced (let long = c.loop-size.invariant.long in omega arith) c.loop-size.invariant.each
