use Rattle.std.proofs.Common.{◌+◌, refl, ap, subst}
use Rattle.std.proofs.lemmas.Result.{IfOk-from_err}
use Rattle.bx_disk.specs.Disks.{Image}
use Rattle.bx_devices.proofs.Calling.{other_node, starts_node, starts_session}
use Rattle.bx_devices.proofs.Leaving.{owes_only}
use Rattle.bx_devices.proofs.Restarted.{began, labels_member, needs_at, restart_failed, restart_leaves, restart_replicas, room_of_disk}
use Rattle.bx_devices.proofs.Results.{ended, started}
use Rattle.bx_devices.specs.Machines.{IsShape}
use Rattle.bx_devices.proofs.store.DevicesStore.restart.Goals as goal

pub returns-in_err-result-clause-keeps_faulted : goal.returns-in_err-result-clause-keeps_faulted
returns-in_err-result-clause-keeps_faulted g c = λ past tells keeps may fault. (restart_failed c.args.self.now c.restart-result.new.self (g.R.Rack.state c.args.rack.now) past c.args.boot c.args.reading keeps (subst IsShape c.self.view_is c.self.invariant) g.R.Rack c.args.rack.now c.restart-result.new.rack tells refl c.restart-result.result c.args.who may c.restart-result.ensures.only c.restart-result.ensures.labels (ended c.restart-result.result _ c.in_err-result.was c.restart-result.ensures.fails) (ended c.restart-result.result _ c.in_err-result.was c.restart-result.ensures.failed)).fits

pub returns-in_err-result-clause-any_moment : goal.returns-in_err-result-clause-any_moment
returns-in_err-result-clause-any_moment g c = λ past tells keeps may.
    restart_leaves c.args.self.now (g.R.Rack.state c.args.rack.now) past keeps g.R.Rack c.args.rack.now c.restart-result.new.rack tells refl (λ image left. g.met.R.Rack.only_now c.args.rack.now image tells left) c.restart-result.result c.args.who c.restart-result.ensures.labels

pub returns-clause-keeps : goal.returns-clause-keeps
returns-clause-keeps g c = λ past tells keeps may.
    (started c.restart-result.result _ c.in_ok-result.was (began c.args.self.now c.restart-result.new.self (g.R.Rack.state c.args.rack.now) past c.args.boot c.args.reading keeps (subst IsShape c.self.view_is c.self.invariant) g.R.Rack c.args.rack.now c.restart-result.new.rack tells refl c.restart-result.result c.args.who c.requires.there may c.restart-result.ensures.only (λ n is. room_of_disk c.args.self.now c.args.who n (g.R.Rack.state c.args.rack.now) is (c.requires.disk n is)) c.restart-result.ensures.labels c.restart-result.ensures.restarts)).fits

pub returns-clause-settled : goal.returns-clause-settled
returns-clause-settled g c = λ past device sector content tells keeps may only is.
    ((started c.restart-result.result _ c.in_ok-result.was (began c.args.self.now c.restart-result.new.self (g.R.Rack.state c.args.rack.now) past c.args.boot c.args.reading keeps (subst IsShape c.self.view_is c.self.invariant) g.R.Rack c.args.rack.now c.restart-result.new.rack tells refl c.restart-result.result c.args.who c.requires.there may c.restart-result.ensures.only (λ n is. room_of_disk c.args.self.now c.args.who n (g.R.Rack.state c.args.rack.now) is (c.requires.disk n is)) c.restart-result.ensures.labels c.restart-result.ensures.restarts)).settled device sector content only is, λ fault. absurd cc)

pub returns-clause-stands : goal.returns-clause-stands
returns-clause-stands g c = λ past device sector content index tells keeps may only is.
    ((started c.restart-result.result _ c.in_ok-result.was (began c.args.self.now c.restart-result.new.self (g.R.Rack.state c.args.rack.now) past c.args.boot c.args.reading keeps (subst IsShape c.self.view_is c.self.invariant) g.R.Rack c.args.rack.now c.restart-result.new.rack tells refl c.restart-result.result c.args.who c.requires.there may c.restart-result.ensures.only (λ n is. room_of_disk c.args.self.now c.args.who n (g.R.Rack.state c.args.rack.now) is (c.requires.disk n is)) c.restart-result.ensures.labels c.restart-result.ensures.restarts)).stands device sector content index only is, λ fault. absurd cc)

pub returns-clause-reads : goal.returns-clause-reads
returns-clause-reads g c = λ past reader sector content asks tells keeps may apart asked only will.
    ((started c.restart-result.result _ c.in_ok-result.was (began c.args.self.now c.restart-result.new.self (g.R.Rack.state c.args.rack.now) past c.args.boot c.args.reading keeps (subst IsShape c.self.view_is c.self.invariant) g.R.Rack c.args.rack.now c.restart-result.new.rack tells refl c.restart-result.result c.args.who c.requires.there may c.restart-result.ensures.only (λ n is. room_of_disk c.args.self.now c.args.who n (g.R.Rack.state c.args.rack.now) is (c.requires.disk n is)) c.restart-result.ensures.labels c.restart-result.ensures.restarts)).reads reader sector content asks apart asked only will, λ fault. absurd cc)

pub returns-clause-any_moment : goal.returns-clause-any_moment
returns-clause-any_moment g c = λ past tells keeps may.
    restart_leaves c.args.self.now (g.R.Rack.state c.args.rack.now) past keeps g.R.Rack c.args.rack.now c.restart-result.new.rack tells refl (λ image left. g.met.R.Rack.only_now c.args.rack.now image tells left) c.restart-result.result c.args.who c.restart-result.ensures.labels

pub returns-in_err-result-clause-needs : goal.returns-in_err-result-clause-needs
returns-in_err-result-clause-needs g c = needs_at c.args.who c.args.self.now c.restart-result.new.self c.restart-result.ensures.only

pub returns-clause-needs : goal.returns-clause-needs
returns-clause-needs g c = needs_at c.args.who c.args.self.now c.restart-result.new.self c.restart-result.ensures.only

pub returns-clause-synced : goal.returns-clause-synced
returns-clause-synced g c = λ n sector is tells. (started c.restart-result.result _ c.in_ok-result.was ((labels_member g.R.Rack c.args.rack.now c.restart-result.new.rack c.args.self.now.made c.args.who n c.restart-result.result is c.restart-result.ensures.labels).synced tells)).each sector

pub returns-clause-label : goal.returns-clause-label
returns-clause-label g c = λ n is tells. started c.restart-result.result _ c.in_ok-result.was ((labels_member g.R.Rack c.args.rack.now c.restart-result.new.rack c.args.self.now.made c.args.who n c.restart-result.result is c.restart-result.ensures.labels).label_is tells)

pub returns-in_err-result-clause-old_label : goal.returns-in_err-result-clause-old_label
returns-in_err-result-clause-old_label g c = λ n is tells spells. ap (λ (f : Image). f (3 + n) 0) ((labels_member g.R.Rack c.args.rack.now c.restart-result.new.rack c.args.self.now.made c.args.who n c.restart-result.result is c.restart-result.ensures.labels).had_label tells spells).reads

pub returns-clause-old_label : goal.returns-clause-old_label
returns-clause-old_label g c = λ n is tells spells. ap (λ (f : Image). f (3 + n) 0) ((labels_member g.R.Rack c.args.rack.now c.restart-result.new.rack c.args.self.now.made c.args.who n c.restart-result.result is c.restart-result.ensures.labels).had_label tells spells).reads

pub returns-in_err-result-clause-replicas : goal.returns-in_err-result-clause-replicas
returns-in_err-result-clause-replicas g c = λ tells. restart_replicas g.R.Rack c.args.rack.now c.restart-result.new.rack c.args.self.now.made c.restart-result.result c.args.who tells c.restart-result.ensures.labels

pub returns-clause-replicas : goal.returns-clause-replicas
returns-clause-replicas g c = λ tells. restart_replicas g.R.Rack c.args.rack.now c.restart-result.new.rack c.args.self.now.made c.restart-result.result c.args.who tells c.restart-result.ensures.labels

pub returns-in_err-result-clause-owes : goal.returns-in_err-result-clause-owes
returns-in_err-result-clause-owes g c = λ separate. owes_only c.args.who c.args.self.now c.restart-result.new.self c.restart-result.ensures.only

pub returns-clause-owes : goal.returns-clause-owes
returns-clause-owes g c = λ separate. owes_only c.args.who c.args.self.now c.restart-result.new.self c.restart-result.ensures.only

pub returns-clause-own : goal.returns-clause-own
returns-clause-own g c = λ separate node is. starts_node c.args.who c.args.self.now c.restart-result.new.self node c.args.boot c.args.reading is c.requires.there (started c.restart-result.result _ c.in_ok-result.was c.restart-result.ensures.restarts)

pub returns-clause-new_session : goal.returns-clause-new_session
returns-clause-new_session g c = λ node other. starts_session c.args.who c.args.self.now c.restart-result.new.self node c.args.boot c.args.reading c.requires.there c.restart-result.ensures.only (started c.restart-result.result _ c.in_ok-result.was c.restart-result.ensures.restarts) other

pub returns-in_err-result-clause-others : goal.returns-in_err-result-clause-others
returns-in_err-result-clause-others g c = λ node apart. other_node c.args.who c.args.self.now c.restart-result.new.self node c.restart-result.ensures.only apart

pub returns-clause-others : goal.returns-clause-others
returns-clause-others g c = λ node apart. other_node c.args.who c.args.self.now c.restart-result.new.self node c.restart-result.ensures.only apart

pub returns-in_err-result-clause-settled : goal.returns-in_err-result-clause-settled
returns-in_err-result-clause-settled g c = λ past device sector content tells keeps may only is. (IfOk-from_err c.from_residual.result _ c.from_residual.ensures.0, λ fault. (restart_failed c.args.self.now c.restart-result.new.self (g.R.Rack.state c.args.rack.now) past c.args.boot c.args.reading keeps (subst IsShape c.self.view_is c.self.invariant) g.R.Rack c.args.rack.now c.restart-result.new.rack tells refl c.restart-result.result c.args.who may c.restart-result.ensures.only c.restart-result.ensures.labels (ended c.restart-result.result _ c.in_err-result.was c.restart-result.ensures.fails) (ended c.restart-result.result _ c.in_err-result.was c.restart-result.ensures.failed)).settled device sector content only is)

pub returns-in_err-result-clause-stands : goal.returns-in_err-result-clause-stands
returns-in_err-result-clause-stands g c = λ past device sector content index tells keeps may only is. (IfOk-from_err c.from_residual.result _ c.from_residual.ensures.0, λ fault. (restart_failed c.args.self.now c.restart-result.new.self (g.R.Rack.state c.args.rack.now) past c.args.boot c.args.reading keeps (subst IsShape c.self.view_is c.self.invariant) g.R.Rack c.args.rack.now c.restart-result.new.rack tells refl c.restart-result.result c.args.who may c.restart-result.ensures.only c.restart-result.ensures.labels (ended c.restart-result.result _ c.in_err-result.was c.restart-result.ensures.fails) (ended c.restart-result.result _ c.in_err-result.was c.restart-result.ensures.failed)).stands device sector content index only is)

pub returns-in_err-result-clause-reads : goal.returns-in_err-result-clause-reads
returns-in_err-result-clause-reads g c = λ past reader sector content asks tells keeps may apart asked only will. (IfOk-from_err c.from_residual.result _ c.from_residual.ensures.0, λ fault. (restart_failed c.args.self.now c.restart-result.new.self (g.R.Rack.state c.args.rack.now) past c.args.boot c.args.reading keeps (subst IsShape c.self.view_is c.self.invariant) g.R.Rack c.args.rack.now c.restart-result.new.rack tells refl c.restart-result.result c.args.who may c.restart-result.ensures.only c.restart-result.ensures.labels (ended c.restart-result.result _ c.in_err-result.was c.restart-result.ensures.fails) (ended c.restart-result.result _ c.in_err-result.was c.restart-result.ensures.failed)).reads reader sector content asks apart asked only will)
