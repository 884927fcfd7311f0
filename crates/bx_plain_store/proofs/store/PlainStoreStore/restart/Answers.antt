use Rattle.std.proofs.Common.{◌≡◌, ℕ, List, ◌+◌, ap, refl, sym, ◌∙◌, subst, rules, arith, false}
use Rattle.std.proofs.lemmas.Result.{err_from_is_err_and}
use Rattle.bx_base.specs.declared.names.Actor.{Actor}
use Rattle.bx_disk.specs.Disks.{Disks}
use Rattle.bx_facts.specs.Chains.{last}
use Rattle.bx_facts.specs.Disks.{HasRoom, NeedsAt, wanted_by}
use Rattle.bx_facts.specs.Machines.{disk_of}
use Rattle.bx_facts.specs.Writes.{Made, label_on, store_room}
use Rattle.bx_layout.specs.Labels.{SpellsLabel}
use Rattle.bx_plain_store.specs.Laws.{labels_kept, settled_kept, will_keep}
use Rattle.bx_plain_store.specs.Parts.{made_of}
use Rattle.bx_plain_store.specs.Waiting.{needs_of}
use Rattle.bx_plain_store.proofs.Hearing.{image_of, leaves_still}
use Rattle.bx_plain_store.proofs.Labelling.{label_keeps, label_leaves}
use Rattle.bx_plain_store.proofs.Replicas.{replicas_sure}
use Rattle.bx_plain_store.proofs.Restarting.{keeps_failed, keeps_restarted, leaves_sources, needs_more, replicas_both, sure_sources, wanted_own}
use Rattle.bx_plain_store.proofs.Rooms.{index_within, some_room}
use Rattle.bx_plain_store.proofs.store.PlainStoreStore.restart.Goals as goal

pub returns-in_default-clause-keeps : goal.returns-in_default-clause-keeps
returns-in_default-clause-keeps g c = λ past tells keeps may.
    let st = c.args.self.now in
    let made : Made = made_of st.volume st.nodes st.devices st.areas in
    let x : Disks = g.R.Rack.state c.args.rack.now in
    keeps_restarted made st.greatest c.later-self.result st.owns.items st.slots.items x x past c.args.who c.args._boot c.args.reading keeps c.later-self.ensures keeps.fits.labels

pub returns-in_default-clause-any_moment : goal.returns-in_default-clause-any_moment
returns-in_default-clause-any_moment g c = λ past tells keeps may.
    let st = c.args.self.now in
    let made : Made = made_of st.volume st.nodes st.devices st.areas in
    let x : Disks = g.R.Rack.state c.args.rack.now in
    leaves_still _ _ _ (λ image left. image_of past.writes past.told.greatest (last past.told.chain) x image (g.met.R.Rack.only_now c.args.rack.now image tells left))

pub returns-in_default-clause-synced : goal.returns-in_default-clause-synced
returns-in_default-clause-synced g c = λ n sector is. absurd (c.in_default.not-Member n is)

pub returns-in_default-clause-label : goal.returns-in_default-clause-label
returns-in_default-clause-label g c = λ n is. absurd (c.in_default.not-Member n is)

pub returns-in_default-clause-old_label : goal.returns-in_default-clause-old_label
returns-in_default-clause-old_label g c = λ n is. absurd (c.in_default.not-Member n is)

pub label_own-requires-clause-disk : goal.label_own-requires-clause-disk
label_own-requires-clause-disk g c =
    let st = c.args.self.now in
    let made : Made = made_of st.volume st.nodes st.devices st.areas in
    let room = c.requires.disk c.in-Member.member c.in-Member.is in
    let all = subst (λ (who : Actor). HasRoom (wanted_by (disk_of who) (store_room made)) (g.R.Rack.state c.args.rack.now).sizes) c.in-Member.is room in
    let some = some_room made in
    let most = all.each (3 + c.in-Member.member) in
    let is = wanted_own (3 + c.in-Member.member) (store_room made) in
    index_within (g.R.Rack.state c.args.rack.now).sizes (3 + c.in-Member.member) (omega (arith, some, most, is))

pub returns-in_err-label_own-clause-keeps_faulted : goal.returns-in_err-label_own-clause-keeps_faulted
returns-in_err-label_own-clause-keeps_faulted g c = λ past tells keeps may fault.
    let st = c.args.self.now in
    let made : Made = made_of st.volume st.nodes st.devices st.areas in
    let x : Disks = g.R.Rack.state c.args.rack.now in
    let y : Disks = g.R.Rack.state c.label_own.new.rack in
    let sure = sure_sources (last past.told.chain) x y c.label_own.ensures.rack.sizes (label_keeps made (last past.told.chain) x y (3 + c.in-Member.member) (omega arith) (search rules) keeps.fits.labels (c.label_own.ensures.keeps tells) (c.label_own.ensures.had_label tells)) in
    keeps_failed made st.greatest c.later-self.result st.owns.items st.slots.items x y past c.args.who c.args._boot c.args.reading keeps c.later-self.ensures (labels_kept made x y (last past.told.chain) sure keeps.fits.labels)

pub returns-in_err-label_own-clause-any_moment : goal.returns-in_err-label_own-clause-any_moment
returns-in_err-label_own-clause-any_moment g c = λ past tells keeps may.
    let st = c.args.self.now in
    let made : Made = made_of st.volume st.nodes st.devices st.areas in
    let x : Disks = g.R.Rack.state c.args.rack.now in
    leaves_sources _ _ _ _ past.writes past.told.greatest (last past.told.chain) x
    (label_leaves _ _ _ _ made (last past.told.chain) x (3 + c.in-Member.member) (omega arith) (search rules) keeps.fits.labels (c.label_own.ensures.any_moment tells) (c.label_own.ensures.had_moment tells))

pub returns-in_err-label_own-clause-replicas : goal.returns-in_err-label_own-clause-replicas
returns-in_err-label_own-clause-replicas g c = λ tells. replicas_both _ _ (replicas_sure _ _ (3 + c.in-Member.member) 0 1 (omega arith) (c.label_own.ensures.keeps tells))

pub returns-clause-keeps : goal.returns-clause-keeps
returns-clause-keeps g c = λ past tells keeps may.
    let st = c.args.self.now in
    let made : Made = made_of st.volume st.nodes st.devices st.areas in
    let x : Disks = g.R.Rack.state c.args.rack.now in
    let y : Disks = g.R.Rack.state c.label_own.new.rack in
    let sure = sure_sources (last past.told.chain) x y c.label_own.ensures.rack.sizes (label_keeps made (last past.told.chain) x y (3 + c.in-Member.member) (omega arith) (search rules) keeps.fits.labels (c.label_own.ensures.keeps tells) (c.label_own.ensures.had_label tells)) in
    keeps_restarted made st.greatest c.later-self.result st.owns.items st.slots.items x y past c.args.who c.args._boot c.args.reading keeps c.later-self.ensures (labels_kept made x y (last past.told.chain) sure keeps.fits.labels)

pub returns-clause-any_moment : goal.returns-clause-any_moment
returns-clause-any_moment g c = λ past tells keeps may.
    let st = c.args.self.now in
    let made : Made = made_of st.volume st.nodes st.devices st.areas in
    let x : Disks = g.R.Rack.state c.args.rack.now in
    leaves_sources _ _ _ _ past.writes past.told.greatest (last past.told.chain) x
    (label_leaves _ _ _ _ made (last past.told.chain) x (3 + c.in-Member.member) (omega arith) (search rules) keeps.fits.labels (c.label_own.ensures.any_moment tells) (c.label_own.ensures.had_moment tells))

pub returns-clause-replicas : goal.returns-clause-replicas
returns-clause-replicas g c = λ tells. replicas_both _ _ (replicas_sure _ _ (3 + c.in-Member.member) 0 1 (omega arith) (c.label_own.ensures.keeps tells))

pub returns-clause-settled : goal.returns-clause-settled
returns-clause-settled g c = λ past device sector content tells keeps may only is.
    let st = c.args.self.now in
    let made : Made = made_of st.volume st.nodes st.devices st.areas in
    let x : Disks = g.R.Rack.state c.args.rack.now in
    let y : Disks = g.R.Rack.state c.label_own.new.rack in
    let sure = sure_sources (last past.told.chain) x y c.label_own.ensures.rack.sizes (label_keeps made (last past.told.chain) x y (3 + c.in-Member.member) (omega arith) (search rules) keeps.fits.labels (c.label_own.ensures.keeps tells) (c.label_own.ensures.had_label tells)) in
    (settled_kept x y (last past.told.chain) device sector content sure is, λ fault. absurd (let h = fault in cc))

pub returns-clause-stands : goal.returns-clause-stands
returns-clause-stands g c = λ past device sector content index tells keeps may only is.
    let st = c.args.self.now in
    let made : Made = made_of st.volume st.nodes st.devices st.areas in
    let x : Disks = g.R.Rack.state c.args.rack.now in
    let y : Disks = g.R.Rack.state c.label_own.new.rack in
    let sure = sure_sources (last past.told.chain) x y c.label_own.ensures.rack.sizes (label_keeps made (last past.told.chain) x y (3 + c.in-Member.member) (omega arith) (search rules) keeps.fits.labels (c.label_own.ensures.keeps tells) (c.label_own.ensures.had_label tells)) in
    (settled_kept x y (last past.told.chain) device sector content sure is, λ fault. absurd (let h = fault in cc))

pub returns-clause-reads : goal.returns-clause-reads
returns-clause-reads g c = λ past reader sector content asks tells keeps may apart asked only reads.
    let st = c.args.self.now in
    let made : Made = made_of st.volume st.nodes st.devices st.areas in
    let x : Disks = g.R.Rack.state c.args.rack.now in
    let y : Disks = g.R.Rack.state c.label_own.new.rack in
    let sure = sure_sources (last past.told.chain) x y c.label_own.ensures.rack.sizes (label_keeps made (last past.told.chain) x y (3 + c.in-Member.member) (omega arith) (search rules) keeps.fits.labels (c.label_own.ensures.keeps tells) (c.label_own.ensures.had_label tells)) in
    (will_keep _ _ x y (last past.told.chain) (last past.told.chain) sector content (λ a is settled. settled_kept x y (last past.told.chain) a.device sector content sure settled) reads, λ fault. absurd (let h = fault in cc))

pub returns-clause-label : goal.returns-clause-label
returns-clause-label g c = λ n is tells.
    let same : c.in-Member.member ≡ n = (let h = sym c.in-Member.is ∙ is in cc) in
    let y : Disks = g.R.Rack.state c.label_own.new.rack in
    let st = c.args.self.now in
    let made : Made = made_of st.volume st.nodes st.devices st.areas in
    subst (λ (m : ℕ). SpellsLabel (label_on made (3 + m)) (y.reads (3 + m) 0)) same (c.in_ok-label_own.ensures.label tells)

pub returns-in_err-label_own-clause-old_label : goal.returns-in_err-label_own-clause-old_label
returns-in_err-label_own-clause-old_label g c = λ n is tells spelled.
    let same : c.in-Member.member ≡ n = (let h = sym c.in-Member.is ∙ is in cc) in
    let x : Disks = g.R.Rack.state c.args.rack.now in
    let y : Disks = g.R.Rack.state c.label_own.new.rack in
    let st = c.args.self.now in
    let made : Made = made_of st.volume st.nodes st.devices st.areas in
    subst (λ (m : ℕ). y.reads (3 + m) 0 ≡ x.reads (3 + m) 0) same
    (ap (λ (reads : ℕ → ℕ → List ℕ). reads (3 + c.in-Member.member) 0) (c.label_own.ensures.had_label tells (subst (λ (m : ℕ). SpellsLabel (label_on made (3 + m)) (x.reads (3 + m) 0)) (sym same) spelled)).reads)

pub returns-clause-old_label : goal.returns-clause-old_label
returns-clause-old_label g c = λ n is tells spelled.
    let same : c.in-Member.member ≡ n = (let h = sym c.in-Member.is ∙ is in cc) in
    let x : Disks = g.R.Rack.state c.args.rack.now in
    let y : Disks = g.R.Rack.state c.label_own.new.rack in
    let st = c.args.self.now in
    let made : Made = made_of st.volume st.nodes st.devices st.areas in
    subst (λ (m : ℕ). y.reads (3 + m) 0 ≡ x.reads (3 + m) 0) same
    (ap (λ (reads : ℕ → ℕ → List ℕ). reads (3 + c.in-Member.member) 0) (c.label_own.ensures.had_label tells (subst (λ (m : ℕ). SpellsLabel (label_on made (3 + m)) (x.reads (3 + m) 0)) (sym same) spelled)).reads)

pub returns-clause-needs : goal.returns-clause-needs
returns-clause-needs g c =
    let st = c.args.self.now in
    let made : Made = made_of st.volume st.nodes st.devices st.areas in
    subst (λ (who : Actor). NeedsAt who (store_room made) (needs_of made st.down.items) (needs_of made c.put_down.new.down.items)) (sym c.in-Member.is)
    (needs_more made st.down.items c.put_down.new.down.items c.in-Member.member (record { here = c.put_down.ensures.here; others = c.put_down.ensures.others; long = c.put_down.ensures.long }))

pub returns-clause-synced : goal.returns-clause-synced
returns-clause-synced g c = λ n sector is tells.
    let same : c.in-Member.member ≡ n = (let h = sym c.in-Member.is ∙ is in cc) in
    subst (λ (m : ℕ). (g.R.Rack.state c.label_own.new.rack).unsure (3 + m) sector ≡ false) same ((c.in_ok-label_own.ensures.synced tells).each sector)

pub returns-in_err-label_own-clause-settled : goal.returns-in_err-label_own-clause-settled
returns-in_err-label_own-clause-settled g c = λ past device sector content tells keeps may only is.
    let st = c.args.self.now in
    let made : Made = made_of st.volume st.nodes st.devices st.areas in
    let x : Disks = g.R.Rack.state c.args.rack.now in
    let y : Disks = g.R.Rack.state c.label_own.new.rack in
    let sure = sure_sources (last past.told.chain) x y c.label_own.ensures.rack.sizes (label_keeps made (last past.told.chain) x y (3 + c.in-Member.member) (omega arith) (search rules) keeps.fits.labels (c.label_own.ensures.keeps tells) (c.label_own.ensures.had_label tells)) in
    let p = err_from_is_err_and c.from_residual.result c.from_residual.ensures.1 in
    rw p.1 (tt, λ fault. settled_kept x y (last past.told.chain) device sector content sure is)

pub returns-in_err-label_own-clause-stands : goal.returns-in_err-label_own-clause-stands
returns-in_err-label_own-clause-stands g c = λ past device sector content index tells keeps may only is.
    let st = c.args.self.now in
    let made : Made = made_of st.volume st.nodes st.devices st.areas in
    let x : Disks = g.R.Rack.state c.args.rack.now in
    let y : Disks = g.R.Rack.state c.label_own.new.rack in
    let sure = sure_sources (last past.told.chain) x y c.label_own.ensures.rack.sizes (label_keeps made (last past.told.chain) x y (3 + c.in-Member.member) (omega arith) (search rules) keeps.fits.labels (c.label_own.ensures.keeps tells) (c.label_own.ensures.had_label tells)) in
    let p = err_from_is_err_and c.from_residual.result c.from_residual.ensures.1 in
    rw p.1 (tt, λ fault. settled_kept x y (last past.told.chain) device sector content sure is)

pub returns-in_err-label_own-clause-reads : goal.returns-in_err-label_own-clause-reads
returns-in_err-label_own-clause-reads g c = λ past reader sector content asks tells keeps may apart asked only reads.
    let st = c.args.self.now in
    let made : Made = made_of st.volume st.nodes st.devices st.areas in
    let x : Disks = g.R.Rack.state c.args.rack.now in
    let y : Disks = g.R.Rack.state c.label_own.new.rack in
    let sure = sure_sources (last past.told.chain) x y c.label_own.ensures.rack.sizes (label_keeps made (last past.told.chain) x y (3 + c.in-Member.member) (omega arith) (search rules) keeps.fits.labels (c.label_own.ensures.keeps tells) (c.label_own.ensures.had_label tells)) in
    let p = err_from_is_err_and c.from_residual.result c.from_residual.ensures.1 in
    rw p.1 (tt, λ fault. will_keep _ _ x y (last past.told.chain) (last past.told.chain) sector content (λ a is settled. settled_kept x y (last past.told.chain) a.device sector content sure settled) reads)
