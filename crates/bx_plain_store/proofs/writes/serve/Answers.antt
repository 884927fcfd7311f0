use Rattle.std.proofs.Common.{◌≡◌, length, sym, refl, subst, ◌∙◌}
use Rattle.bx_plain_store.specs.declared.writes.Write.{Write}
use Rattle.bx_plain_store.specs.Out.{AreWritten}
use Rattle.bx_members.proofs.Kept.{keeps_then, leaves_next}
use Rattle.bx_plain_store.proofs.Replicas.{replicas_same, replicas_then}
use Rattle.bx_plain_store.proofs.Standing.{keeps_disks, now_done, written_same}
use Rattle.bx_plain_store.proofs.writes.serve.Goals as goal

pub put_runs-requires : goal.put_runs-requires
put_runs-requires g c = record { fit = λ run has. c.requires.fit c.in-Some.write run c.in-Some.is has }

pub returns-in_err-put_runs-clause-keeps : goal.returns-in_err-put_runs-clause-keeps
returns-in_err-put_runs-clause-keeps g c = λ writes tells free.
    let alone = free.alone c.in-Some.write c.in-Some.is (c.is_over.ensures.not_over c.if-is_over.false) in
    c.put_runs.ensures.keeps writes c.args.greatest _ tells alone refl

pub returns-in_err-put_runs-clause-any_moment : goal.returns-in_err-put_runs-clause-any_moment
returns-in_err-put_runs-clause-any_moment g c = λ writes tells free.
    let alone = free.alone c.in-Some.write c.in-Some.is (c.is_over.ensures.not_over c.if-is_over.false) in
    c.put_runs.ensures.any_moment writes c.args.greatest _ tells alone refl

pub returns-then-not-write-clause-keeps : goal.returns-then-not-write-clause-keeps
returns-then-not-write-clause-keeps g c = λ writes tells free.
    let alone = free.alone c.in-Some.write c.in-Some.is (c.is_over.ensures.not_over c.if-is_over.false) in
    c.put_runs.ensures.keeps writes c.args.greatest _ tells alone refl

pub returns-then-not-write-clause-any_moment : goal.returns-then-not-write-clause-any_moment
returns-then-not-write-clause-any_moment g c = λ writes tells free.
    let alone = free.alone c.in-Some.write c.in-Some.is (c.is_over.ensures.not_over c.if-is_over.false) in
    c.put_runs.ensures.any_moment writes c.args.greatest _ tells alone refl

pub returns-in_err-sync_members-clause-keeps : goal.returns-in_err-sync_members-clause-keeps
returns-in_err-sync_members-clause-keeps g c = λ writes tells free.
    let alone = free.alone c.in-Some.write c.in-Some.is (c.is_over.ensures.not_over c.if-is_over.false) in
    let told = c.put_runs.ensures.rack.keeps_telling tells in
    keeps_then _ _ _ _ _ (c.put_runs.ensures.keeps writes c.args.greatest _ tells alone refl) (keeps_disks writes c.args.greatest _ _ (c.sync_members.ensures.keeps told))

pub returns-in_err-sync_members-clause-any_moment : goal.returns-in_err-sync_members-clause-any_moment
returns-in_err-sync_members-clause-any_moment g c = λ writes tells free.
    let alone = free.alone c.in-Some.write c.in-Some.is (c.is_over.ensures.not_over c.if-is_over.false) in
    let told = c.put_runs.ensures.rack.keeps_telling tells in
    leaves_next _ _ _ _ _ _ _ _ _ _ (c.put_runs.ensures.any_moment writes c.args.greatest _ tells alone refl) (c.put_runs.ensures.keeps writes c.args.greatest _ tells alone refl) (c.sync_members.ensures.any_moment writes c.args.greatest told)

pub returns-clause-keeps : goal.returns-clause-keeps
returns-clause-keeps g c = λ writes tells free.
    let alone = free.alone c.in-Some.write c.in-Some.is (c.is_over.ensures.not_over c.if-is_over.false) in
    let told = c.put_runs.ensures.rack.keeps_telling tells in
    keeps_then _ _ _ _ _ (c.put_runs.ensures.keeps writes c.args.greatest _ tells alone refl) (keeps_disks writes c.args.greatest _ _ (c.sync_members.ensures.keeps told))

pub returns-clause-any_moment : goal.returns-clause-any_moment
returns-clause-any_moment g c = λ writes tells free.
    let alone = free.alone c.in-Some.write c.in-Some.is (c.is_over.ensures.not_over c.if-is_over.false) in
    let told = c.put_runs.ensures.rack.keeps_telling tells in
    leaves_next _ _ _ _ _ _ _ _ _ _ (c.put_runs.ensures.any_moment writes c.args.greatest _ tells alone refl) (c.put_runs.ensures.keeps writes c.args.greatest _ tells alone refl) (c.sync_members.ensures.any_moment writes c.args.greatest told)

pub returns-clause-done : goal.returns-clause-done
returns-clause-done g c = λ writes sent s tells free is none long.
    let alone = free.alone c.in-Some.write c.in-Some.is (c.is_over.ensures.not_over c.if-is_over.false) in
    let told = c.put_runs.ensures.rack.keeps_telling tells in
    now_done s c.args.devices 0 _ c.in-Some.write.runs _ _ (let w = rw c.in-Some.is at is in cc) long
    (λ run has. (c.requires.fit c.in-Some.write run c.in-Some.is has).device)
    (c.in_ok-put_runs.ensures.written writes c.args.greatest _ tells alone refl)
    (c.sync_members.ensures.keeps told)
    (λ device sector second less. c.in_ok-sync_members.ensures.sure device sector second told less)

pub returns-then-not-write-clause-written : goal.returns-then-not-write-clause-written
returns-then-not-write-clause-written g c = λ writes write tells free is not_over.
    let alone = free.alone c.in-Some.write c.in-Some.is (c.is_over.ensures.not_over c.if-is_over.false) in
    let same : c.in-Some.write ≡ write = (let h = sym c.in-Some.is ∙ is in cc) in
    subst (λ (w : Write). AreWritten (g.R.Rack.state c.put_runs.new.rack) w.runs (length w.runs)) same (c.in_ok-put_runs.ensures.written writes c.args.greatest _ tells alone refl)

pub returns-clause-written : goal.returns-clause-written
returns-clause-written g c = λ writes write tells free is not_over.
    let alone = free.alone c.in-Some.write c.in-Some.is (c.is_over.ensures.not_over c.if-is_over.false) in
    let told = c.put_runs.ensures.rack.keeps_telling tells in
    let same : c.in-Some.write ≡ write = (let h = sym c.in-Some.is ∙ is in cc) in
    subst (λ (w : Write). AreWritten (g.R.Rack.state c.sync_members.new.rack) w.runs (length w.runs)) same
    (written_same c.in-Some.write.runs (length c.in-Some.write.runs) _ _ (c.sync_members.ensures.keeps told) (c.in_ok-put_runs.ensures.written writes c.args.greatest _ tells alone refl))

pub returns-in_err-sync_members-clause-replicas : goal.returns-in_err-sync_members-clause-replicas
returns-in_err-sync_members-clause-replicas g c = λ tells. replicas_then _ _ _ (c.put_runs.ensures.replicas tells) (replicas_same _ _ (c.sync_members.ensures.keeps (c.put_runs.ensures.rack.keeps_telling tells)))

pub returns-clause-replicas : goal.returns-clause-replicas
returns-clause-replicas g c = λ tells. replicas_then _ _ _ (c.put_runs.ensures.replicas tells) (replicas_same _ _ (c.sync_members.ensures.keeps (c.put_runs.ensures.rack.keeps_telling tells)))
