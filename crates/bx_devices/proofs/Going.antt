-- What an event leaves of a store: all goes on fitting, and so does what is promised of sectors, where members write nothing else.
use Rattle.std.proofs.Common.{◌≡◌, ℕ, ◌≤◌, Bool, List, Option, Some, None, refl, sym, ◌∙◌, ap, subst}
use Rattle.bx_base.specs.declared.names.Actor.{Actor}
use Rattle.bx_disk.specs.Disks.{Disks}
use Rattle.bx_facts.specs.Writes.{Asked, GoesOn, IsOnly, StorePast}
use Rattle.bx_mirror_client.specs.Asks.{asked_in}
use Rattle.bx_mirror_client.specs.Streams.{Streaming}
use Rattle.bx_mirror_client.specs.declared.asking.Asking.{Asking}
use Rattle.bx_mirror_cluster.proofs.Beside.{beside_keeps, beside_reads, beside_settled, beside_standing}
use Rattle.bx_mirror_cluster.proofs.Clock.{clock_keeps, reads_clock, settles_clock, stands_clock}
use Rattle.bx_mirror_cluster.specs.Beside.{SameServing, SaysSame, saying}
use Rattle.bx_mirror_cluster.specs.Fitting.{IsSettledOn, Keeps, Parts, StandsOn, WillReadOn, will_read_by}
use Rattle.bx_mirror_cluster.specs.GoesFurther.{GoesFurther, StreamsGo}
use Rattle.bx_mirror_cluster.specs.GoingOn.{IsSameRead}
use Rattle.bx_mirror_cluster.specs.Learning.{with_clock}
use Rattle.bx_devices.specs.Fitting.{Settled, Stands, WillRead, asked_of, parts_of}
use Rattle.bx_devices.specs.Machines.{DeviceMachines, member_of, stream_of}

pub record PartsGo (parts next : Parts) (x y : Disks) (past then_ : StorePast) : Type 0 where
  pub keeps : Keeps next y then_
  pub settles : (d sector : ℕ) (content : List ℕ) → IsOnly past.writes past.told.greatest d sector content → IsSettledOn parts x past d sector content → IsSettledOn next y then_ d sector content
  pub stands : (d sector : ℕ) (content : List ℕ) (index : ℕ) → IsOnly past.writes past.told.greatest d sector content → StandsOn parts x past d sector content index → StandsOn next y then_ d sector content index
  -- each read that is out is one that was
  pub asks : (reader : ℕ) (read : Asking) → (next.nodes reader).asks ≡ Some read → (was : Asking) × ((parts.nodes reader).asks ≡ Some was) × IsSameRead was read
  pub reads : (reader : ℕ) (was read : Asking) (sector : ℕ) (content : List ℕ) → (parts.nodes reader).asks ≡ Some was → (next.nodes reader).asks ≡ Some read → IsOnly past.writes past.told.greatest was.device sector content
      → WillReadOn parts x past reader was sector content → WillReadOn next y then_ reader read sector content

one_read : (was read : Asking) → Some was ≡ Some read → was ≡ read
one_read was read e = cc

itself : (read : Asking) → IsSameRead read read
itself read = record { session = refl; tag = refl; device = refl; place = refl; sectors = refl }

-- where the streams stay
pub stays : (parts next : Parts) (x y : Disks) (past then_ : StorePast) → ((reader : ℕ) → (next.nodes reader).asks ≡ (parts.nodes reader).asks) → Keeps next y then_
    → ((d sector : ℕ) (content : List ℕ) → IsOnly past.writes past.told.greatest d sector content → IsSettledOn parts x past d sector content → IsSettledOn next y then_ d sector content)
    → ((d sector : ℕ) (content : List ℕ) (index : ℕ) → IsOnly past.writes past.told.greatest d sector content → StandsOn parts x past d sector content index → StandsOn next y then_ d sector content index)
    → ((reader : ℕ) (read : Asking) (sector : ℕ) (content : List ℕ) → (parts.nodes reader).asks ≡ Some read → IsOnly past.writes past.told.greatest read.device sector content → WillReadOn parts x past reader read sector content → WillReadOn next y then_ reader read sector content)
    → PartsGo parts next x y past then_
stays parts next x y past then_ same keeps settles stands reads = record {
  keeps = keeps;
  settles = settles;
  stands = stands;
  asks = λ reader read e. (read, sym (same reader) ∙ e, itself read);
  reads = λ reader was read sector content old new only will.
      let e : was ≡ read = one_read was read (sym old ∙ sym (same reader) ∙ new) in
      subst (λ (r : Asking). WillReadOn next y then_ reader r sector content) e (reads reader was sector content old only will);
}

pub further : (parts next : Parts) (x y : Disks) (past then_ : StorePast) → GoesFurther parts next x y past then_ → PartsGo parts next x y past then_
further parts next x y past then_ goes = stays parts next x y past then_ (λ reader. ap (λ (all : ℕ → Streaming). (all reader).asks) goes.nodes) goes.keeps goes.settles goes.stands goes.reads

pub streams_go : (parts next : Parts) (x : Disks) (past then_ : StorePast) → StreamsGo parts next x past then_ → PartsGo parts next x x past then_
streams_go parts next x past then_ goes = record {
  keeps = goes.keeps;
  settles = λ d sector content only is. goes.settles d sector content is;
  stands = λ d sector content index only is. goes.stands d sector content index is;
  asks = goes.asks;
  reads = λ reader was read sector content old new only will. goes.reads reader was read sector content old new will;
}

-- and the greatest reading rises
pub clocked : (parts next : Parts) (x y : Disks) (past then_ : StorePast) (greatest : ℕ) → then_.told.greatest ≤ greatest → PartsGo parts next x y past then_ → PartsGo parts next x y past (with_clock then_ greatest)
clocked parts next x y past then_ greatest rises goes = record {
  keeps = clock_keeps next y then_ greatest rises goes.keeps;
  settles = λ d sector content only is. settles_clock next y then_ greatest rises d sector content (goes.settles d sector content only is);
  stands = λ d sector content index only is. stands_clock next y then_ greatest rises d sector content index (goes.stands d sector content index only is);
  asks = goes.asks;
  reads = λ reader was read sector content old new only will. reads_clock next y then_ greatest rises reader read sector content (goes.reads reader was read sector content old new only will);
}

-- or something is said of other machines
pub beside : (o : DeviceMachines) (x : Disks) (past : StorePast) (knew boots : Actor → ℕ) (down : Actor → Bool) → SaysSame (parts_of o).made past.told knew boots down → SameServing (parts_of o) (member_of o) → Keeps (parts_of o) x past
    → PartsGo (parts_of o) (parts_of o) x x past (saying past knew boots down)
beside o x past knew boots down says are keeps = stays (parts_of o) (parts_of o) x x past (saying past knew boots down) (λ reader. refl) (beside_keeps (parts_of o) x past (member_of o) knew boots down says are keeps)
    (λ d sector content only is. beside_settled (parts_of o) x past (member_of o) knew boots down says are d sector content is)
    (λ d sector content index only is. beside_standing (parts_of o) x past (member_of o) knew boots down says are d sector content index is)
    (λ reader read sector content asks only will. beside_reads (parts_of o) x past (member_of o) knew boots down says are reader read sector content will)

-- one after the other, the first while nothing is done
pub composed : (parts mid next : Parts) (x y z : Disks) (past then_ : StorePast) → PartsGo parts mid x y past past → PartsGo mid next y z past then_ → PartsGo parts next x z past then_
composed parts mid next x y z past then_ first second = record {
  keeps = second.keeps;
  settles = λ d sector content only is. second.settles d sector content only (first.settles d sector content only is);
  stands = λ d sector content index only is. second.stands d sector content index only (first.stands d sector content index only is);
  asks = λ reader read e.
      let between = second.asks reader read e in
      let was = first.asks reader between.0 between.1 in
      let a = was.2 in
      let b = between.2 in
      (was.0, was.1, record { session = b.session ∙ a.session; tag = b.tag ∙ a.tag; device = b.device ∙ a.device; place = b.place ∙ a.place; sectors = b.sectors ∙ a.sectors });
  reads = λ reader was read sector content old new only will.
      let between = second.asks reader read new in
      let before = first.asks reader between.0 between.1 in
      let same : before.0 ≡ was = one_read before.0 was (sym before.1 ∙ old) in
      let device : between.0.device ≡ was.device = before.2.device ∙ ap (λ (r : Asking). r.device) same in
      second.reads reader between.0 read sector content between.1 new (subst (λ (d : ℕ). IsOnly past.writes past.told.greatest d sector content) (sym device) only)
      (first.reads reader was between.0 sector content old between.1 only will);
}

-- ---- as a store tells it

module _ (o new : DeviceMachines) (x y : Disks) (past then_ : StorePast) (goes : PartsGo (parts_of o) (parts_of new) x y past then_) where
  -- what a read that was is then
  then_reads : (reader sector : ℕ) (content : List ℕ) (asks : Asked) (b a : Option Asking) → (stream_of o reader).asks ≡ b → (stream_of new reader).asks ≡ a → IsOnly past.writes past.told.greatest asks.device sector content
      → asked_in b ≡ Some asks → will_read_by b (parts_of o) x past reader sector content → will_read_by a (parts_of new) y then_ reader sector content
  then_reads reader sector content asks b None old now only is will = tt
  then_reads reader sector content asks None (Some read) old now only is will = absurd cc
  then_reads reader sector content asks (Some was) (Some read) old now only is will =
      let same : record { device = was.device; place = was.place; count = was.sectors } ≡ asks = cc in
      goes.reads reader was read sector content old now (subst (λ (q : Asked). IsOnly past.writes past.told.greatest q.device sector content) (sym same) only) will

  pub goes_on : GoesOn past.writes past.told.greatest (asked_of o) (Settled o x past) (Settled new y then_) (WillRead o x past) (WillRead new y then_) (Stands o x past) (Stands new y then_)
  goes_on = record {
    settles = goes.settles;
    standing = goes.stands;
    reading = λ reader sector content asks is only will. then_reads reader sector content asks (stream_of o reader).asks (stream_of new reader).asks refl refl only is will;
  }

  pub then_read : (reader sector : ℕ) (content : List ℕ) (asks : Asked) → asked_of o reader ≡ Some asks → IsOnly past.writes past.told.greatest asks.device sector content → WillRead o x past reader sector content → WillRead new y then_ reader sector content
  then_read reader sector content asks is only will = then_reads reader sector content asks (stream_of o reader).asks (stream_of new reader).asks refl refl only is will
