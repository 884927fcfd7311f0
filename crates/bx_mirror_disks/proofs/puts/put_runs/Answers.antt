use Rattle.std.proofs.Common.{ℕ, ◌<◌, [], ◌∷◌, Contains, refl, sym, ap, ◌∙◌, subst, arith}
use Rattle.bx_calls.specs.Laws.{inside_by, keeps_part, leaves_part}
use Rattle.bx_facts.specs.Writes.{member_disk}
use Rattle.bx_members.proofs.Kept.{keeps_then, leaves_next}
use Rattle.bx_mirror_disks.proofs.Putting.{keeps_run, leaves_run, lone, lone_brought, lone_taken, none_past, puts_all, stand_more, there_at}
use Rattle.bx_mirror_disks.proofs.Rooms.{index_within}
use Rattle.bx_mirror_disks.proofs.puts.put_runs.Goals as goal

pub put_run-requires-clause-disk : goal.put_run-requires-clause-disk
put_run-requires-clause-disk g c =
    let run = c.in-Some.run'.now in
    let lies = c.requires.lie.1.each run (there_at c.args.runs.now.1 c.loop-i.i run (sym c.in-Some.ensures)) in
    let from = lies.behind_label in
    let to = lies.within in
    let room = c.requires.room in
    rw c.loop-i.invariant.rack.sizes (index_within _ _ (omega (arith, from, to, room)))

pub put_run-requires-clause-whole : goal.put_run-requires-clause-whole
put_run-requires-clause-whole g c = (c.requires.lie.1.each c.in-Some.run'.now (there_at c.args.runs.now.1 c.loop-i.i c.in-Some.run'.now (sym c.in-Some.ensures))).whole

pub put_run-requires-clause-range : goal.put_run-requires-clause-range
put_run-requires-clause-range g c =
    let to = (c.requires.lie.1.each c.in-Some.run'.now (there_at c.args.runs.now.1 c.loop-i.i c.in-Some.run'.now (sym c.in-Some.ensures))).within in
    let room = c.requires.room in
    rw c.loop-i.invariant.rack.sizes (omega (arith, to, room))

pub returns-in_err-put_run-clause-keeps : goal.returns-in_err-put_run-clause-keeps
returns-in_err-put_run-clause-keeps g c = λ writes greatest device second tells is lie brought.
    let run = c.in-Some.run'.now in
    let has = there_at c.args.runs.now.1 c.loop-i.i run (sym c.in-Some.ensures) in
    let told = c.loop-i.invariant.rack.keeps_telling tells in
    let here = is ∙ ap (λ (d : ℕ). member_disk d second) (sym (lie.each run has).on) in
    keeps_then _ _ _ _ _ (c.loop-i.invariant.keeps writes greatest device second tells is lie brought)
    (keeps_run writes greatest device c.args.room c.args.runs.now.1 run lie brought has _ _ (c.put_run.ensures.keeps (lone (run ∷ []) ∷ []) 0 second told here (lone_taken (run ∷ []) run (0, omega arith, refl))))

pub returns-in_err-put_run-clause-any_moment : goal.returns-in_err-put_run-clause-any_moment
returns-in_err-put_run-clause-any_moment g c = λ writes greatest device second tells is lie brought.
    let run = c.in-Some.run'.now in
    let has = there_at c.args.runs.now.1 c.loop-i.i run (sym c.in-Some.ensures) in
    let told = c.loop-i.invariant.rack.keeps_telling tells in
    let here = is ∙ ap (λ (d : ℕ). member_disk d second) (sym (lie.each run has).on) in
    leaves_next _ _ _ _ _ _ _ _ _ _ (c.loop-i.invariant.any_moment writes greatest device second tells is lie brought) (c.loop-i.invariant.keeps writes greatest device second tells is lie brought)
    (leaves_run writes greatest device c.args.room c.args.runs.now.1 run lie brought has _ _ _ _ _ (c.put_run.ensures.any_moment (lone (run ∷ []) ∷ []) 0 second told here (lone_taken (run ∷ []) run (0, omega arith, refl))))

pub returns-in_err-put_run-clause-elsewhere : goal.returns-in_err-put_run-clause-elsewhere
returns-in_err-put_run-clause-elsewhere g c = λ tells.
    let run = c.in-Some.run'.now in
    let lies = c.requires.lie.1.each run (there_at c.args.runs.now.1 c.loop-i.i run (sym c.in-Some.ensures)) in
    let from = lies.behind_label in
    let to = lies.within in
    let told = c.loop-i.invariant.rack.keeps_telling tells in
    keeps_part _ _ _ _ _ _ _ _ _ (c.loop-i.invariant.elsewhere tells) (c.put_run.ensures.elsewhere told) (inside_by _ _ _ _ _ _ refl from (omega (arith, from, to)))

pub returns-in_err-put_run-clause-sure_moment : goal.returns-in_err-put_run-clause-sure_moment
returns-in_err-put_run-clause-sure_moment g c = λ tells.
    let run = c.in-Some.run'.now in
    let lies = c.requires.lie.1.each run (there_at c.args.runs.now.1 c.loop-i.i run (sym c.in-Some.ensures)) in
    let from = lies.behind_label in
    let to = lies.within in
    let told = c.loop-i.invariant.rack.keeps_telling tells in
    leaves_part _ _ _ _ _ _ _ _ _ _ _ _ _ _ (c.loop-i.invariant.sure_moment tells) (c.loop-i.invariant.elsewhere tells) (c.put_run.ensures.sure_moment told) (inside_by _ _ _ _ _ _ refl from (omega (arith, from, to)))

pub loop-i-preserved : goal.loop-i-preserved
loop-i-preserved g c =
    let run = c.in-Some.run'.now in
    let at = sym c.in-Some.ensures in
    let has : Contains c.args.runs.now.1 run = there_at c.args.runs.now.1 c.loop-i.i run at in
    let inv = c.loop-i.invariant in
    record {
      stands = λ device second tells is lie.
          let told = inv.rack.keeps_telling tells in
          let here = is ∙ ap (λ (d : ℕ). member_disk d second) (sym (lie.each run has).on) in
          stand_more c.args.disk device c.loop-i.i second c.args.runs.now.1 run _ _ is at
          (c.put_run.ensures.keeps (lone c.args.runs.now.1 ∷ []) 0 second told here (lone_taken c.args.runs.now.1 run has))
          (c.in_ok-put_run.ensures.written told) (inv.stands device second tells is lie);
      keeps = λ writes greatest device second tells is lie brought.
          let told = inv.rack.keeps_telling tells in
          let here = is ∙ ap (λ (d : ℕ). member_disk d second) (sym (lie.each run has).on) in
          keeps_then _ _ _ _ _ (inv.keeps writes greatest device second tells is lie brought)
          (keeps_run writes greatest device c.args.room c.args.runs.now.1 run lie brought has _ _ (c.put_run.ensures.keeps (lone (run ∷ []) ∷ []) 0 second told here (lone_taken (run ∷ []) run (0, omega arith, refl))));
      any_moment = λ writes greatest device second tells is lie brought.
          let told = inv.rack.keeps_telling tells in
          let here = is ∙ ap (λ (d : ℕ). member_disk d second) (sym (lie.each run has).on) in
          leaves_next _ _ _ _ _ _ _ _ _ _ (inv.any_moment writes greatest device second tells is lie brought) (inv.keeps writes greatest device second tells is lie brought)
          (leaves_run writes greatest device c.args.room c.args.runs.now.1 run lie brought has _ _ _ _ _ (c.put_run.ensures.any_moment (lone (run ∷ []) ∷ []) 0 second told here (lone_taken (run ∷ []) run (0, omega arith, refl))));
      elsewhere = λ tells.
          let lies = c.requires.lie.1.each run has in
          let from = lies.behind_label in
          let to = lies.within in
          let told = inv.rack.keeps_telling tells in
          keeps_part _ _ _ _ _ _ _ _ _ (inv.elsewhere tells) (c.put_run.ensures.elsewhere told) (inside_by _ _ _ _ _ _ refl from (omega (arith, from, to)));
      sure_moment = λ tells.
          let lies = c.requires.lie.1.each run has in
          let from = lies.behind_label in
          let to = lies.within in
          let told = inv.rack.keeps_telling tells in
          leaves_part _ _ _ _ _ _ _ _ _ _ _ _ _ _ (inv.sure_moment tells) (inv.elsewhere tells) (c.put_run.ensures.sure_moment told) (inside_by _ _ _ _ _ _ refl from (omega (arith, from, to)));
      rack = grind arith;
    }

pub returns-clause-puts : goal.returns-clause-puts
returns-clause-puts g c = λ device second tells is lie.
    let inv = c.loop-i.invariant in
    let over = c.loop-i-test.false in
    let stands = inv.stands device second tells is lie in
    puts_all c.args.disk device second c.args.runs.now.1 _ _ is (inv.keeps (lone c.args.runs.now.1 ∷ []) 0 device second tells is lie (lone_brought device c.args.runs.now.1))
    (record { each = λ j run sector content less at brings unique. stands.each j run sector content (omega (arith, less, over)) at brings unique })

-- a list has an item at each place below its length
pub returns-in_default-clause-puts : goal.returns-in_default-clause-puts
returns-in_default-clause-puts g c = λ device second tells is lie.
    absurd (none_past c.args.runs.now.1 c.loop-i.i (sym c.in_default.ensures) (subst (λ (n : ℕ). c.loop-i.i < n) c.len-i-end.ensures c.loop-i-test.true))
