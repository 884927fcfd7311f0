use Rattle.std.proofs.Common.{◌≡◌, ℕ, Err, ap, subst, ◌∙◌}
use Rattle.std.proofs.lemmas.Result.{err_from_is_err_and}
use Rattle.bx_disk.specs.Disks.{Disks}
use Rattle.bx_base.specs.Faults.{Rose}
use Rattle.bx_disk.specs.Disks.{Disks}
use Rattle.bx_replay.proofs.Causes.{rises, same_least}
use Rattle.bx_replay.proofs.Held.{audit_cause, audit_counts}
use Rattle.bx_replay.proofs.bench.read_back.Goals as goal

pub returns-in_err-crash_all : goal.returns-in_err-crash_all
returns-in_err-crash_all g c =
    let p = err_from_is_err_and c.from_residual.result c.from_residual.ensures.1 in
    let lost = c.crash_all.ensures in
    record {
      dropped = λ tells. rw p.1 tt;
      crashed = λ tells. rw p.1 tt;
      listed = λ tells. rw p.1 tt;
      one = λ tree tells. rw p.1 tt;
      cause = rw (p.1, p.2) tt;
      no_fault = rw (p.1, p.2) lost.no_fault;
      later = same_least _ _ lost.no_fault;
      sizes = lost.sizes;
      keeps_telling = lost.keeps_telling;
    }

pub returns-in_err-listed : goal.returns-in_err-listed
returns-in_err-listed g c =
    let p = err_from_is_err_and c.from_residual-in_err-listed.result c.from_residual-in_err-listed.ensures.1 in
    let lost = c.crash_all.ensures in
    let why = c.in_err-listed.ensures in
    record {
      dropped = λ tells. rw p.1 tt;
      crashed = λ tells. rw p.1 tt;
      listed = λ tells. rw p.1 tt;
      one = λ tree tells. rw p.1 tt;
      cause =
          rw (p.1, p.2) (audit_cause c.in_err-listed.field-0.0 _ _ _
          (λ is. subst (λ (n : ℕ). Rose n (g.B.Rack.faults c.audit.new.rack)) c.in_ok-crash_all.ensures.no_fault (c.in_err-listed.ensures.rack.cause (ap Err is)))
          (λ held. let stands = held.1 (g.B.Rack.state c.crash_all.new.bench) (c.in_ok-crash_all.ensures.crashed held.0) in
          c.in_err-listed.ensures.breaks (c.in_ok-crash_all.ensures.keeps_telling held.0) stands.0 stands.1));
      no_fault = rw (p.1, p.2) (audit_counts c.in_err-listed.field-0.0 (g.B.Rack.faults c.audit.new.rack ≡ g.B.Rack.faults c.args.bench.now) (rw lost.no_fault at why.rack.counts));
      later = rises _ _ _ (same_least _ _ lost.no_fault) why.rack.later;
      sizes = ap (λ (d : Disks). d.sizes) why.rack.stays ∙ lost.sizes;
      keeps_telling = λ tells. why.rack.keeps_telling (lost.keeps_telling tells);
    }
