-- A state is read again from its bytes, and no other bytes are read as a state.
use Rattle.std.proofs.Common.{◌≡◌, ℕ, ◌^◌, ◌<◌, List, [], ◌∷◌, ◌++◌, Option, Some, None, refl, sym, ap, subst, ◌∙◌, arith}
use Rattle.std.specs.Int.{w64, to_be_bytes}
use Rattle.std.specs.List.{AllByRecursion}
use Rattle.std.proofs.lemmas.List.{append-nil}
use Rattle.std.proofs.lemmas.Option.{some_pair_parts}
use Rattle.bx_rows.specs.bx_base.specs.Bytes.{IsBytes}
use Rattle.bx_rows.specs.bx_base.specs.declared.error.ReadError.{ReadError}
use Rattle.bx_rows.specs.bx_base.specs.declared.error.ReadError.TheVariants as errors
use Rattle.bx_rows.specs.bx_base.specs.Reading.{Fails}
use Rattle.bx_rows.specs.bx_base.proofs.Fields.{IsField, field64, then_field, as_field}
use Rattle.bx_rows.specs.declared.session.SessionRow.{SessionRow}
use Rattle.bx_rows.specs.Conditions.{Fits, IsSession, IsDevice, IsPlaced}
use Rattle.bx_rows.specs.Spelling.{pair_text}
use Rattle.bx_rows.proofs.Fields.{PairFits, SessionFits, SessionsFit, DeviceFits, DevicesFit, pair_field, sessions_field, devices_field}
use Rattle.bx_global.specs.declared.reading.Heads.{Heads}
use Rattle.bx_global.specs.declared.state.GlobalState.{GlobalState}
use Rattle.bx_global.specs.Allowed.{IsAllowed}
use Rattle.bx_global.specs.Bytes.{heads_text, state_text, Spells}
use Rattle.bx_global.specs.Reading
use Rattle.bx_global.proofs.Kept.{all_is}

-- ---- states

text_of : Heads → List ℕ
text_of h = to_be_bytes w64 h.index ++ (pair_text h.master h.master_boot ++ (to_be_bytes w64 h.term ++ (to_be_bytes w64 h.term_end ++ to_be_bytes w64 h.next_session)))

abbrev HeadsFit : Heads → Type 0
HeadsFit h = (h.index < 2 ^ 64) × (PairFits (h.master, h.master_boot) × ((h.term < 2 ^ 64) × ((h.term_end < 2 ^ 64) × (h.next_session < 2 ^ 64))))

heads_field : IsField Reading.heads_at text_of HeadsFit
unfolding Reading.heads_at text_of
heads_field =
    as_field Reading.heads_with Reading.head_fields (λ x. refl) (λ y. refl)
    (then_field field64 (then_field pair_field (then_field field64 (then_field field64 field64))))

abbrev StateFits : GlobalState → Type 0
StateFits s = HeadsFit (Reading.heads_of s) × (SessionsFit s.sessions × DevicesFit s.devices)

parts_field : IsField Reading.parts_at state_text StateFits
unfolding Reading.parts_at state_text heads_text text_of
parts_field =
    as_field Reading.state_with Reading.state_fields (λ x. refl) (λ y. refl) (then_field heads_field (then_field sessions_field devices_field))

-- what holds of each item for two reasons
all_both : {X : Type 0} (P Q R : X → Type 0) → ((x : X) → P x → Q x → R x) → (xs : List X) → AllByRecursion P xs → AllByRecursion Q xs → AllByRecursion R xs
all_both P Q R k [] a b = tt
all_both P Q R k (x ∷ xs) a b = (k x a.0 b.0, all_both P Q R k xs a.1 b.1)

session_is : (term_end : ℕ) (r : SessionRow) → SessionFits r → IsPlaced term_end r → IsSession term_end r
session_is term_end r fits placed = record {
  number = fits.0;
  node = placed.node;
  boot = fits.1.0.1;
  slot = placed.slot;
  until = placed.until;
  dead = placed.dead;
  by = fits.1.1.1.1;
}

session_fits : (term_end : ℕ) (r : SessionRow) → Fits term_end → IsSession term_end r → SessionFits r
session_fits term_end r below is = (is.number, ((omega (arith, is.node), is.boot), ((omega (arith, is.slot), omega (arith, is.until, below)), (omega (arith, is.dead), is.by))))

allowed : (s : GlobalState) → StateFits s → Reading.IsSound s → IsAllowed s
allowed s fits sound =
    let heads = fits.0 in
    let sessions = fits.1.0 in
    let devices = fits.1.1 in
    record {
      index = heads.0;
      master = sound.master;
      master_boot = heads.1.0.1;
      term = heads.1.1.0;
      term_end = heads.1.1.1.0;
      next_session = heads.1.1.1.1;
      session_count = sessions.0.1;
      each_session = all_both SessionFits (IsPlaced s.term_end) (IsSession s.term_end) (session_is s.term_end) s.sessions sessions.1 sound.sessions;
      rising = sound.rising;
      own_slots = sound.own_slots;
      least_devices = devices.0.1.0;
      most_devices = devices.0.1.1;
      each_device = all_both DeviceFits (λ r. r.mode < 5) IsDevice (λ r f m. record { mode = m; epoch = f.0.1; boot_a = f.1.0; boot_b = f.1.1 }) s.devices devices.1 sound.devices;
    }

fits_allowed : (s : GlobalState) → IsAllowed s → StateFits s
fits_allowed s is =
    let sessions : SessionsFit s.sessions = ((omega (arith, is.session_count), is.session_count), all_is (IsSession s.term_end) SessionFits (λ r. session_fits s.term_end r is.term_end) s.sessions is.each_session) in
    let devices : DevicesFit s.devices = ((omega (arith, is.most_devices), (is.least_devices, is.most_devices)), all_is IsDevice DeviceFits (λ r d. ((omega (arith, d.mode), d.epoch), (d.boot_a, d.boot_b))) s.devices is.each_device) in
    let heads : HeadsFit (Reading.heads_of s) = (is.index, ((omega (arith, is.master), is.master_boot), (is.term, (is.term_end, is.next_session)))) in
    (heads, (sessions, devices))

pub sound_allowed : (s : GlobalState) → IsAllowed s → Reading.IsSound s
sound_allowed s is = record {
  master = is.master;
  sessions = all_is (IsSession s.term_end) (IsPlaced s.term_end) (λ r p. record { node = p.node; slot = p.slot; until = p.until; dead = p.dead }) s.sessions is.each_session;
  rising = is.rising;
  own_slots = is.own_slots;
  devices = all_is IsDevice (λ r. r.mode < 5) (λ r d. d.mode) s.devices is.each_device;
}

-- ---- states at the front

-- what was read, and is sound, is a state
pub state_begins : (bytes rest : List ℕ) (s : GlobalState) → IsBytes bytes → Reading.parts_at bytes ≡ Some (s, rest) → Reading.IsSound s → Reading.Begins s bytes rest
state_begins bytes rest s fits e sound = let t = parts_field.takes bytes (s, rest) fits e in record { is = allowed s t.1 sound; parts = t.0.parts }

begins_read : (bytes rest : List ℕ) (s : GlobalState) → Reading.Begins s bytes rest → Reading.parts_at bytes ≡ Some (s, rest)
begins_read bytes rest s b = ap Reading.parts_at b.parts ∙ parts_field.again s rest (fits_allowed s b.is)

-- no two states stand at the front
pub one_front : (bytes rest other : List ℕ) (s t : GlobalState) → Reading.Begins s bytes rest → Reading.Begins t bytes other → (s ≡ t) × (rest ≡ other)
one_front bytes rest other s t b d = some_pair_parts s t rest other (sym (begins_read bytes rest s b) ∙ begins_read bytes other t d)

-- where nothing was read, nothing stands
pub none_begins : (f : ReadError) (bytes : List ℕ) → Fails f (Reading.parts_at bytes) → Reading.NoneBegins f bytes
none_begins errors.OutOfMemory bytes fails = tt
none_begins errors.Malformed bytes fails = λ s rest b.
    let both : ◌≡◌ {A = Option (GlobalState × List ℕ)} None (Some (s, rest)) = sym fails ∙ begins_read bytes rest s b in
    absurd cc

-- where what was read isn't sound, nothing stands
pub none_sound : (bytes rest : List ℕ) (s : GlobalState) → Reading.parts_at bytes ≡ Some (s, rest) → (Reading.IsSound s → ⊥) → (t : GlobalState) (other : List ℕ) → Reading.Begins t bytes other → ⊥
none_sound bytes rest s e unsound t other b =
    let same = some_pair_parts s t rest other (sym e ∙ begins_read bytes other t b) in
    unsound (subst Reading.IsSound (sym same.0) (sound_allowed t b.is))

-- ---- bytes that are a state

pub spells_begins : (bytes : List ℕ) (s : GlobalState) → Spells s bytes → Reading.Begins s bytes []
spells_begins bytes s p = record { is = p.is; parts = p.parts ∙ sym (append-nil (state_text s)) }

pub begins_spells : (bytes rest : List ℕ) (s : GlobalState) → Reading.Begins s bytes rest → rest ≡ [] → Spells s bytes
begins_spells bytes rest s b none = record { is = b.is; parts = b.parts ∙ ap (λ (r : List ℕ). state_text s ++ r) none ∙ append-nil (state_text s) }

pub one_state : (bytes : List ℕ) (s t : GlobalState) → Spells s bytes → Spells t bytes → s ≡ t
one_state bytes s t p q = (one_front bytes [] [] s t (spells_begins bytes s p) (spells_begins bytes t q)).0
