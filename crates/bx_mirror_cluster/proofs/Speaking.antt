-- What the letters of a stream say: the writes of a device that come once they are sent are those that came before, and those of the write that is out.
use Rattle.std.proofs.Common.{◌≡◌, ◌⊎◌, inl, inr, ℕ, zero, suc, ◌^◌, ◌<◌, ◌≤◌, Bool, true, false, Contains, List, [], ◌∷◌, ◌++◌, length, Some, None, refl, sym, ◌∙◌, ap, subst, arith, lit≤}
use Rattle.std.specs.Prelude.{◌==◌, ◌||◌, ltb, slice_get, if◌then◌else◌}
use Rattle.std.specs.List.{AllByRecursion}
use Rattle.std.proofs.lemmas.Bool.Decides.{nat_tests}
use Rattle.std.proofs.lemmas.List.Elements.{Contains-append_cases}
use Rattle.bx_base.specs.declared.names.Actor.{Actor}
use Rattle.bx_base.specs.declared.names.Actor.TheVariants.{Member, Node, Replica, Server}
use Rattle.bx_post.specs.declared.packets.Letter.{Letter}
use Rattle.bx_records.specs.declared.runs.Run.{Run}
use Rattle.bx_rows.specs.Conditions.{Fits}
use Rattle.bx_rows.specs.Modes.{IsWritten}
use Rattle.bx_rows.specs.declared.device.DeviceRow.{DeviceRow}
use Rattle.bx_mirror_laws.specs.Sides.{WriteLetter}
use Rattle.bx_mirror_packets.specs.DeviceMessages.{IsRunOf, IsWriteBody, Spells}
use Rattle.bx_mirror_packets.specs.Parting.{runs_on, write_of}
use Rattle.bx_mirror_packets.specs.declared.message.DeviceMessage.{DeviceMessage}
use Rattle.bx_mirror_packets.specs.declared.message.DeviceMessage.TheVariants.{Write, Wrote, Read, Data, Copy, Copied, Alive}
use Rattle.bx_mirror_packets.specs.declared.message.WriteBody.{WriteBody}
use Rattle.bx_mirror_packets.proofs.Spelled.{one_message}
use Rattle.bx_mirror_client.specs.Letters.{head_of, letters_from, write_letter}
use Rattle.bx_mirror_client.specs.Sends.{member_at, write_kind}
use Rattle.bx_mirror_client.specs.Telling.{HasRuns, IsTold}
use Rattle.bx_mirror_client.specs.declared.sending.Sending.{Sending}
use Rattle.bx_mirror_client.proofs.Telling.{letters_are}
use Rattle.bx_mirror_cluster.specs.Fitting.{IsComing}
use Rattle.bx_mirror_cluster.specs.Speaking.{FitsPacket, IsLetterOf, IsSpoken, letter_of}

-- ---- the body

least_kind : (kind : ℕ) → 14 ≤ write_kind kind
least_kind kind = by (ltb kind 14 || ltb 18 kind) refl
  where
    by : (b : Bool) → (ltb kind 14 || ltb 18 kind) ≡ b → 14 ≤ (if b then 14 else kind)
    by true h = lit≤ tt
    by false h = grind (arith, nat_tests, h)

most_kind : (kind : ℕ) → write_kind kind ≤ 18
most_kind kind = by (ltb kind 14 || ltb 18 kind) refl
  where
    by : (b : Bool) → (ltb kind 14 || ltb 18 kind) ≡ b → (if b then 14 else kind) ≤ 18
    by true h = lit≤ tt
    by false h = grind (arith, nat_tests, h)

-- those on a device fit it
runs_spoken : (device : ℕ) (runs : List Run) → AllByRecursion IsSpoken runs → AllByRecursion (IsRunOf device) (runs_on device runs)
runs_spoken device [] each = tt
runs_spoken device (run ∷ runs) each = by (run.device == device) refl (runs_spoken device runs each.1)
  where
    by : (b : Bool) → (run.device == device) ≡ b → AllByRecursion (IsRunOf device) (runs_on device runs) → AllByRecursion (IsRunOf device) (if b then run ∷ runs_on device runs else runs_on device runs)
    by true on rest = (record { on = grind (arith, nat_tests, on); place = each.0.place; whole = each.0.whole; some = each.0.some; count = each.0.count }, rest)
    by false off rest = rest

fewer_on : (device : ℕ) (runs : List Run) → length (runs_on device runs) ≤ length runs
fewer_on device [] = omega arith
fewer_on device (run ∷ runs) = by (run.device == device) (fewer_on device runs)
  where
    by : (b : Bool) → length (runs_on device runs) ≤ length runs → length (if b then run ∷ runs_on device runs else runs_on device runs) ≤ length (run ∷ runs)
    by true less = omega (arith, less)
    by false less = omega (arith, less)

module _ (s : Sending) (fits : FitsPacket s) where
  is_body : (device : ℕ) (row : DeviceRow) → device < 2 ^ 32 → Fits row.epoch → IsWriteBody (write_of (head_of s device row) s.runs.1)
  is_body device row low epoch = record {
    least = least_kind s.runs.0;
    most = most_kind s.runs.0;
    session = fits.numbers.session;
    device = low;
    epoch = epoch;
    sequence = fits.numbers.sequence;
    until = fits.numbers.until;
    count = let fewer = fewer_on device s.runs.1 in let count = fits.numbers.count in omega (arith, fewer, count);
    each = runs_spoken device s.runs.1 fits.runs;
  }

  -- a letter says the write
  pub says : (node device : ℕ) (row : DeviceRow) (second : Bool) → device < 2 ^ 32 → Fits row.epoch → Spells (Write (write_of (head_of s device row) s.runs.1)) (write_letter node s device row second).kind (write_letter node s device row second).body
  says node device row second low epoch = record { is = is_body device row low epoch; kind_is = refl; body_is = refl }

-- the letters of a write have the kinds of writes
pub low_kinds : (before rows : List DeviceRow) (node : ℕ) (s : Sending) (letter : Letter) → Contains (letters_from before node s 0 rows) letter → letter.kind ≤ 18
low_kinds before rows node s letter there =
    let told = (letters_are before rows node s letter).0 there in
    subst (λ (l : Letter). l.kind ≤ 18) (sym told.is) (most_kind s.runs.0)

-- ---- what comes

abbrev body_in : DeviceMessage → WriteBody → WriteBody
body_in (Write w) other = w
body_in (Wrote w) other = other
body_in (Read r) other = other
body_in (Data d) other = other
body_in (Copy c) other = other
body_in (Copied c) other = other
body_in Alive other = other

abbrev number_in : Actor → ℕ
number_in (Member n) = n
number_in (Node n) = 0
number_in (Replica n) = 0
number_in (Server n) = 0

-- members of one device with one number are one
same_member : (device : ℕ) (b c : Bool) → member_at device b ≡ member_at device c → b ≡ c
same_member device false false e = refl
same_member device false true e = absurd (omega (arith, e))
same_member device true false e = absurd (omega (arith, e))
same_member device true true e = refl

within_rows : (rows : List DeviceRow) (k : ℕ) (row : DeviceRow) → slice_get rows k ≡ Some row → k < length rows
within_rows [] k row e = absurd (let no : None ≡ Some row = e in cc)
within_rows (r ∷ rows) zero row e = omega arith
within_rows (r ∷ rows) (suc k) row e = let less = within_rows rows k row e in omega (arith, less)

module _ (before rows : List DeviceRow) (node : ℕ) (s : Sending) (fits : FitsPacket s) (few : length rows ≤ 4) (epochs : (k : ℕ) (row : DeviceRow) → slice_get rows k ≡ Some row → Fits row.epoch) where
  -- a letter that is sent, as one of a device
  told_it : (d : ℕ) (l : WriteLetter) (letter : Letter) (write : WriteBody) → IsTold before node s rows letter → Spells (Write write) letter.kind letter.body → letter.to ≡ Member (member_at d l.at) → write.device ≡ d
      → l.session ≡ write.session → l.epoch ≡ write.epoch → l.sequence ≡ write.sequence → l.until ≡ write.until → l.runs ≡ write.runs.1 → IsLetterOf s d rows l
  told_it d l letter write t spells to device session epoch sequence until runs =
      let low : t.device < 2 ^ 32 = (let less = within_rows rows t.device t.row t.there in omega (arith, less, few)) in
      let own : Spells (Write (write_of (head_of s t.device t.row) s.runs.1)) letter.kind letter.body =
      subst (λ (k : Letter). Spells (Write (write_of (head_of s t.device t.row) s.runs.1)) k.kind k.body) (sym t.is) (says s fits node t.device t.row t.second low (epochs t.device t.row t.there)) in
      let same : write ≡ write_of (head_of s t.device t.row) s.runs.1 = ap (λ (m : DeviceMessage). body_in m write) (one_message (Write write) (Write (write_of (head_of s t.device t.row) s.runs.1)) letter.kind letter.body spells own) in
      let here : t.device ≡ d = sym (ap (λ (w : WriteBody). w.device) same) ∙ device in
      let sent : letter.to ≡ Member (member_at t.device t.second) = ap (λ (k : Letter). k.to) t.is in
      let numbers : member_at d l.at ≡ member_at t.device t.second = ap number_in (sym to ∙ sent) in
      let at : l.at ≡ t.second = same_member d l.at t.second (numbers ∙ ap (λ (k : ℕ). member_at k t.second) here) in
      record {
        runs = subst (λ (k : ℕ). HasRuns k s.runs.1) here t.runs;
        row = t.row;
        there = subst (λ (k : ℕ). slice_get rows k ≡ Some t.row) here t.there;
        written = subst (λ (b : Bool). IsWritten t.row.mode b) (sym at) t.written;
        is = parts d l t.row (session ∙ ap (λ (w : WriteBody). w.session) same) (epoch ∙ ap (λ (w : WriteBody). w.epoch) same) (sequence ∙ ap (λ (w : WriteBody). w.sequence) same) (until ∙ ap (λ (w : WriteBody). w.until) same)
            (runs ∙ ap (λ (w : WriteBody). w.runs.1) same ∙ ap (λ (k : ℕ). runs_on k s.runs.1) here);
      }
    where
      parts : (e : ℕ) (m : WriteLetter) (row : DeviceRow) → m.session ≡ s.session → m.epoch ≡ row.epoch → m.sequence ≡ s.sequence → m.until ≡ s.until → m.runs ≡ runs_on e s.runs.1 → m ≡ letter_of s e row m.at
      parts e m row a b c f g = λ i. record { at = m.at; session = a i; epoch = b i; sequence = c i; until = f i; runs = g i }

  pub coming_more : (old : List Letter) (d : ℕ) (l : WriteLetter) → IsComing (old ++ letters_from before node s 0 rows) d l → IsComing old d l ⊎ IsLetterOf s d rows l
  coming_more old d l c = elim (Contains-append_cases old (letters_from before node s 0 rows) c.letter c.there) [
    | inl was ↦ inl (record { letter = c.letter; there = was; write = c.write; spells = c.spells; to = c.to; device = c.device; session = c.session; epoch_is = c.epoch_is; sequence = c.sequence; until = c.until; runs = c.runs })
    | inr new ↦ inr (told_it d l c.letter c.write ((letters_are before rows node s c.letter).0 new) c.spells c.to c.device c.session c.epoch_is c.sequence c.until c.runs)
  ]
