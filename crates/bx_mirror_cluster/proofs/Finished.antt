-- A write that a stream counts as done stands in each of its sectors, for readers of the state that its node knows.
use Rattle.std.proofs.Common.{◌≡◌, ◌⊎◌, inl, inr, ℕ, zero, suc, ◌<◌, ◌≤◌, Bool, true, false, List, length, Option, Some, None, refl, sym, ◌∙◌, ap, subst, arith}
use Rattle.std.specs.Prelude.{slice_get, ◌==◌, if◌then◌else◌}
use Rattle.std.proofs.lemmas.Option.{slice_get_cases}
use Rattle.bx_disk.specs.Disks.{Disks}
use Rattle.bx_facts.specs.Chains.{IsPlace, LivesIn, last}
use Rattle.bx_facts.specs.Writes.{StorePast, WritesIn, store_room}
use Rattle.bx_global.specs.declared.state.GlobalState.{GlobalState}
use Rattle.bx_rows.specs.Modes.{IsSource, IsWritten}
use Rattle.bx_rows.specs.declared.device.DeviceRow.{DeviceRow}
use Rattle.bx_mirror_laws.specs.Sides.{Out}
use Rattle.bx_mirror_laws.specs.Acting.{FromEpoch}
use Rattle.bx_mirror_laws.specs.Sound.{HasAcked, Sends}
use Rattle.bx_mirror_laws.proofs.Finishing.{done_stands}
use Rattle.bx_mirror_client.specs.Sends.{is_done}
use Rattle.bx_mirror_client.specs.declared.sending.Sending.{Sending}
use Rattle.bx_mirror_client.proofs.Telling.{done_is}
use Rattle.bx_mirror_cluster.proofs.Standing.{done_stands_on}
use Rattle.bx_mirror_cluster.specs.Fitting.{IsClaimed, IsComing, Keeps, Parts, StandsFor, StandsOn, handings, knows_of, last_row, out_by, outs_of, row_or, rows_before, side_of}

-- where writes go to a member it is in no copy mode, and they go to all that an audit reads
pub low_mode : (mode : ℕ) → IsWritten mode false ⊎ IsWritten mode true → mode ≤ 2
low_mode mode written = elim written [
  | inl a ↦ elim a [ inl e ↦ omega (arith, e) | inr e ↦ omega (arith, e) ]
  | inr b ↦ elim b [ inl e ↦ omega (arith, e) | inr e ↦ omega (arith, e) ]
]

pub written_source : (mode : ℕ) (b : Bool) → mode ≤ 2 → IsSource mode b → IsWritten mode b
written_source zero false low source = inl refl
written_source zero true low source = inl refl
written_source (suc zero) false low source = inr refl
written_source (suc zero) true low source = absurd (grind (arith, source))
written_source (suc (suc zero)) false low source = absurd (grind (arith, source))
written_source (suc (suc zero)) true low source = inr refl
written_source (suc (suc (suc n))) b low source = absurd (omega (arith, low))

module _ (parts : Parts) (x : Disks) (past : StorePast) (keeps : Keeps parts x past) (n : ℕ) (s : Sending) (is_out : (parts.nodes n).out ≡ Some s) (number : (s.sequence == 0) ≡ false)
    (state : GlobalState) (place : IsPlace past.told.chain state) (rows_are : (parts.nodes n).rows ≡ state.devices) (lives : LivesIn (last past.told.chain) s.session)
    (done : is_done s (parts.nodes n).rows ≡ true) where
  abbrev this : Out
  this = record { session = s.session; sequence = s.sequence; until = s.until; runs = s.runs.1 }

  out_is : outs_of parts.nodes n ≡ Some this
  out_is = ap out_by is_out ∙ ap (λ (t : Bool). if t then None else Some this) number

  pub finished : (d sector : ℕ) (content : List ℕ) → d < parts.made.devices → WritesIn s.runs.1 d sector content → StandsOn parts x past d sector content state.index
  finished d sector content device brings = elim (slice_get_cases state.devices d).1 [
    | inl k ↦ stands_at k.0 k.2
    | inr none ↦ absurd (let far = none.0 in omega (arith, far, count, device))
  ]
    where
      count : length state.devices ≡ parts.made.devices
      count = keeps.count state place

      stands_at : (k : DeviceRow) → slice_get state.devices d ≡ Some k → StandsOn parts x past d sector content state.index
      stands_at k is =
          let knows : slice_get (parts.nodes n).rows d ≡ Some k = ap (λ (rs : List DeviceRow). slice_get rs d) rows_are ∙ is in
          let sends : Sends (outs_of parts.nodes) (knows_of parts.nodes d) (IsClaimed (last past.told.chain) past.told.greatest) this k = record { node = n; out = out_is; knows_it = knows; lives = inl lives } in
          let sound = keeps.devices d device in
          let out = sound.outs.each this k sends in
          let row = ((done_is s (parts.nodes n).rows).0 done).each d k knows (brings.0, brings.1, brings.2.on) in
          let low = low_mode k.mode row.writes in
          let range = out.range sector content brings in
          let acked : (b : Bool) → IsSource k.mode b → HasAcked (keeps.history.wrotes d) b this k = λ b source. record { is = keeps.noted n d k.epoch b s device is_out (row.acked b (written_source k.mode b low source)) } in
          let stands = done_stands d (store_room parts.made) past.told.greatest (last_row past.told.chain d) (rows_before past.told.chain d) (handings d past.told.handed) (side_of past.told x parts.members d) (keeps.history.source d)
          sound.rows sound.hands (keeps.history.writes d) (keeps.history.wrotes d) keeps.history.actual (outs_of parts.nodes) (knows_of parts.nodes d) (IsClaimed (last past.told.chain) past.told.greatest) sound.writes this k sends out low
          acked (IsComing past.told.letters d) past.writes sector content sound.coming keeps.actual_sent brings in
          done_stands_on parts x past keeps state place d sector content device range.0 range.1
          (subst (λ (e : ℕ). StandsFor (FromEpoch e) parts x past d sector content) (sym (ap (λ (o : Option DeviceRow). (row_or o).epoch) is)) stands)
