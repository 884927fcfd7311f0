-- Whole bodies and their parts.
use Rattle.std.proofs.Common.{◌≡◌, ◌≤◌, ℕ, ◌+◌, ◌%◌, List, [], ◌∷◌, ◌++◌, length, take, Some, refl, sym, ap, ◌∙◌, append_assoc, length-append}
use Rattle.std.specs.Prelude.{◌==◌, slice_get}
use Rattle.std.specs.List.{flat_map}
use Rattle.std.proofs.lemmas.List.{append-nil, take_more}
use Rattle.std.proofs.lemmas.List.Concat.{flat_map-append}
use Rattle.std.proofs.lemmas.List.Elements.{filter-append}
use Rattle.std.proofs.lemmas.Option.{get_or_from_slice_get, slice_get_within}
use Rattle.bx_base.specs.Bytes.{IsBytes}
use Rattle.bx_records.specs.declared.runs.Run.{Run}
use Rattle.bx_records.specs.Runs.{KindAndRuns}
use Rattle.bx_mirror_packets.specs.DeviceMessages.{IsCopiedBody, IsCopyBody, IsDataBody, IsReadBody, IsWroteBody, copied_text, copy_text, data_text, read_text, run_text, write_text, wrote_text}
use Rattle.bx_mirror_packets.specs.Parting.{runs_on}
use Rattle.bx_mirror_packets.specs.declared.message.WriteBody.{WriteBody}
use Rattle.bx_mirror_packets.specs.declared.message.WroteBody.{WroteBody}
use Rattle.bx_mirror_packets.specs.declared.message.ReadBody.{ReadBody}
use Rattle.bx_mirror_packets.specs.declared.message.DataBody.{DataBody}
use Rattle.bx_mirror_packets.specs.declared.message.CopyBody.{CopyBody}
use Rattle.bx_mirror_packets.specs.declared.message.CopiedBody.{CopiedBody}
use Rattle.bx_mirror_packets.specs.declared.parts.Head.{Head}
use Rattle.bx_mirror_packets.specs.declared.parts.Piece.{Piece}
use Rattle.bx_mirror_packets.specs.Reading.{IsText, IsWriteOf, extent_at, head_at, piece_at, writing_at}
use Rattle.bx_mirror_packets.proofs.Fields.{ExtentFits, HeadFits, PieceFits, WritingFits, extent_field, extent_is, head_field, head_is, piece_field, piece_is, writing_field, writing_is}
use Rattle.bx_mirror_packets.proofs.Whole.{HasFront, HasSecond}

abbrev none_behind : {X : Type 0} → X → List ℕ
none_behind x = []

-- ---- writes

abbrev pub write_head : WriteBody → Head
write_head w = record { session = w.session; device = w.device; epoch = w.epoch; number = w.sequence }

abbrev pub writing : WriteBody → ℕ × List Run
writing w = (w.until, w.runs.1)

abbrev pub writing_of : WriteBody → List ℕ
writing_of w = writing_is (writing w)

pub write_front : (kind : ℕ) → HasFront (IsWriteOf kind) write_text head_is HeadFits write_head writing_of
unfolding write_text
write_front kind = record { parts = λ w. refl; fits = λ w is. (is.0.session, ((is.0.device, is.0.epoch), is.0.sequence)) }

-- the fields of a write that depend on its head
abbrev pub WritingOf : Head → ℕ × List Run → Type 0
WritingOf head = WritingFits head.device

pub write_second : (kind : ℕ) → HasSecond (IsWriteOf kind) writing_is WritingOf write_head writing writing_of
write_second kind = record { parts = λ w. sym (append-nil (writing_of w)); fits = λ w is. (is.0.until, (is.0.count, is.0.each)) }

abbrev pub write_with : Head → ℕ → KindAndRuns → WriteBody
write_with head until runs = record { session = head.session; device = head.device; epoch = head.epoch; sequence = head.number; until = until; runs = runs }

pub write_read : (kind : ℕ) (bytes rest end : List ℕ) (head : Head) (until : ℕ) (runs : KindAndRuns) → 14 ≤ kind → kind ≤ 18 → IsBytes bytes → head_at bytes ≡ Some (head, rest)
    → writing_at head.device rest ≡ Some ((until, runs.1), end) → runs.0 ≡ kind → end ≡ [] → IsText (IsWriteOf kind) write_text (write_with head until runs) bytes
unfolding write_text
write_read kind bytes rest end head until runs least most fits e f kind_is none =
    let h = head_field.takes bytes (head, rest) fits e in
    let w = (writing_field head.device).takes rest ((until, runs.1), end) h.0.rest_fits f in
    record {
      is = (record { least = rw kind_is least; most = rw kind_is most; session = h.1.0; device = h.1.1.0.0; epoch = h.1.1.0.1; sequence = h.1.1.1; until = w.1.0; count = w.1.1.0; each = w.1.1.1 }, kind_is);
      parts = h.0.parts ∙ ap (λ (r : List ℕ). head_is head ++ r) (w.0.parts ∙ (ap (λ (r : List ℕ). writing_is (until, runs.1) ++ r) none ∙ append-nil (writing_is (until, runs.1))));
    }

-- ---- answers to writes

abbrev pub wrote_head : WroteBody → Head
wrote_head w = record { session = w.session; device = w.device; epoch = w.epoch; number = w.sequence }

pub wrote_front : HasFront IsWroteBody wrote_text head_is HeadFits wrote_head none_behind
wrote_front = record { parts = λ w. sym (append-nil (wrote_text w)); fits = λ w is. (is.0, ((is.1, is.2), is.3)) }

abbrev pub wrote_with : Head → WroteBody
wrote_with head = record { session = head.session; device = head.device; epoch = head.epoch; sequence = head.number }

pub wrote_read : (bytes rest : List ℕ) (head : Head) → IsBytes bytes → head_at bytes ≡ Some (head, rest) → rest ≡ [] → IsText IsWroteBody wrote_text (wrote_with head) bytes
wrote_read bytes rest head fits e none =
    let h = head_field.takes bytes (head, rest) fits e in
    record { is = (h.1.0, h.1.1.0.0, h.1.1.0.1, h.1.1.1); parts = h.0.parts ∙ (ap (λ (r : List ℕ). head_is head ++ r) none ∙ append-nil (head_is head)) }

-- ---- reads

abbrev pub read_head : ReadBody → Head
read_head r = record { session = r.session; device = r.device; epoch = r.epoch; number = r.tag }

abbrev pub extent : ReadBody → ℕ × ℕ
extent r = (r.place, r.sectors)

abbrev pub extent_of : ReadBody → List ℕ
extent_of r = extent_is (extent r)

pub read_front : HasFront IsReadBody read_text head_is HeadFits read_head extent_of
unfolding read_text
read_front = record { parts = λ r. refl; fits = λ r is. (is.0, ((is.1, is.2), is.3)) }

abbrev pub ExtentOf : Head → ℕ × ℕ → Type 0
ExtentOf head = ExtentFits

pub read_second : HasSecond IsReadBody extent_is ExtentOf read_head extent extent_of
read_second = record { parts = λ r. sym (append-nil (extent_of r)); fits = λ r is. (is.4, is.5) }

abbrev pub read_with : Head → ℕ × ℕ → ReadBody
read_with head x = record { session = head.session; device = head.device; epoch = head.epoch; tag = head.number; place = x.0; sectors = x.1 }

pub read_read : (bytes rest end : List ℕ) (head : Head) (x : ℕ × ℕ) → IsBytes bytes → head_at bytes ≡ Some (head, rest) → extent_at rest ≡ Some (x, end) → end ≡ [] → IsText IsReadBody read_text (read_with head x) bytes
unfolding read_text
read_read bytes rest end head x fits e f none =
    let h = head_field.takes bytes (head, rest) fits e in
    let w = extent_field.takes rest (x, end) h.0.rest_fits f in
    record {
      is = (h.1.0, h.1.1.0.0, h.1.1.0.1, h.1.1.1, w.1.0, w.1.1);
      parts = h.0.parts ∙ ap (λ (r : List ℕ). head_is head ++ r) (w.0.parts ∙ (ap (λ (r : List ℕ). extent_is x ++ r) none ∙ append-nil (extent_is x)));
    }

-- ---- answers to reads

abbrev pub data_head : DataBody → Head
data_head d = record { session = d.session; device = d.device; epoch = d.epoch; number = d.tag }

abbrev pub data_bytes : DataBody → List ℕ
data_bytes d = d.bytes

pub data_front : HasFront IsDataBody data_text head_is HeadFits data_head data_bytes
unfolding data_text
data_front = record { parts = λ d. refl; fits = λ d is. (is.0, ((is.1, is.2), is.3)) }

abbrev pub data_with : Head → List ℕ → DataBody
data_with head bytes = record { session = head.session; device = head.device; epoch = head.epoch; tag = head.number; bytes = bytes }

pub data_read : (bytes rest : List ℕ) (head : Head) → IsBytes bytes → head_at bytes ≡ Some (head, rest) → IsText IsDataBody data_text (data_with head rest) bytes
unfolding data_text
data_read bytes rest head fits e =
    let h = head_field.takes bytes (head, rest) fits e in
    record { is = (h.1.0, h.1.1.0.0, h.1.1.0.1, h.1.1.1); parts = h.0.parts }

-- ---- pieces of copies

abbrev pub copy_piece : CopyBody → Piece
copy_piece c = record { device = c.device; epoch = c.epoch; place = c.place }

abbrev pub copy_bytes : CopyBody → List ℕ
copy_bytes c = c.bytes

pub copy_front : HasFront IsCopyBody copy_text piece_is PieceFits copy_piece copy_bytes
unfolding copy_text
copy_front = record { parts = λ c. refl; fits = λ c is. ((is.0, is.1), is.2) }

abbrev pub copy_with : Piece → List ℕ → CopyBody
copy_with piece bytes = record { device = piece.device; epoch = piece.epoch; place = piece.place; bytes = bytes }

pub copy_read : (bytes rest : List ℕ) (piece : Piece) → IsBytes bytes → piece_at bytes ≡ Some (piece, rest) → length rest % 512 ≡ 0 → IsText IsCopyBody copy_text (copy_with piece rest) bytes
unfolding copy_text
copy_read bytes rest piece fits e whole =
    let p = piece_field.takes bytes (piece, rest) fits e in
    record { is = (p.1.0.0, p.1.0.1, p.1.1, whole); parts = p.0.parts }

-- ---- answers to pieces of copies

abbrev pub copied_piece : CopiedBody → Piece
copied_piece c = record { device = c.device; epoch = c.epoch; place = c.place }

pub copied_front : HasFront IsCopiedBody copied_text piece_is PieceFits copied_piece none_behind
copied_front = record { parts = λ c. sym (append-nil (copied_text c)); fits = λ c is. ((is.0, is.1), is.2) }

abbrev pub copied_with : Piece → CopiedBody
copied_with piece = record { device = piece.device; epoch = piece.epoch; place = piece.place }

pub copied_read : (bytes rest : List ℕ) (piece : Piece) → IsBytes bytes → piece_at bytes ≡ Some (piece, rest) → rest ≡ [] → IsText IsCopiedBody copied_text (copied_with piece) bytes
copied_read bytes rest piece fits e none =
    let p = piece_field.takes bytes (piece, rest) fits e in
    record { is = (p.1.0.0, p.1.0.1, p.1.1); parts = p.0.parts ∙ (ap (λ (r : List ℕ). piece_is piece ++ r) none ∙ append-nil (piece_is piece)) }

-- ---- runs, one after the other

pub runs_more : (runs : List Run) (i : ℕ) (run : Run) → slice_get runs i ≡ Some run → flat_map run_text (take (i + 1) runs) ≡ flat_map run_text (take i runs) ++ run_text run
runs_more runs i run at =
    let more : take (i + 1) runs ≡ take i runs ++ run ∷ [] =
    take_more runs i run (slice_get_within runs i run at) ∙ ap (λ (r : Run). take i runs ++ r ∷ []) (get_or_from_slice_get runs i run run at) in
    ap (flat_map run_text) more ∙ (flat_map-append run_text (take i runs) (run ∷ []) ∙ ap (λ (text : List ℕ). flat_map run_text (take i runs) ++ text) (append-nil (run_text run)))

-- the same of those on a device
on_more : (device : ℕ) (runs : List Run) (i : ℕ) (run : Run) → slice_get runs i ≡ Some run → runs_on device (take (i + 1) runs) ≡ runs_on device (take i runs) ++ runs_on device (run ∷ [])
on_more device runs i run at =
    let more : take (i + 1) runs ≡ take i runs ++ run ∷ [] =
    take_more runs i run (slice_get_within runs i run at) ∙ ap (λ (r : Run). take i runs ++ r ∷ []) (get_or_from_slice_get runs i run run at) in
    ap (runs_on device) more ∙ filter-append (λ (r : Run). r.device == device) (take i runs) (run ∷ [])

pub texts_more : (device : ℕ) (runs : List Run) (i : ℕ) (run : Run) → slice_get runs i ≡ Some run
    → flat_map run_text (runs_on device (take (i + 1) runs)) ≡ flat_map run_text (runs_on device (take i runs)) ++ flat_map run_text (runs_on device (run ∷ []))
texts_more device runs i run at = ap (flat_map run_text) (on_more device runs i run at) ∙ flat_map-append run_text (runs_on device (take i runs)) (runs_on device (run ∷ []))

pub count_more : (device : ℕ) (runs : List Run) (i count : ℕ) (run : Run) → slice_get runs i ≡ Some run → count ≡ length (runs_on device (take i runs))
    → count + length (runs_on device (run ∷ [])) ≡ length (runs_on device (take (i + 1) runs))
count_more device runs i count run at is =
    ap (λ (n : ℕ). n + length (runs_on device (run ∷ []))) is ∙ sym (ap length (on_more device runs i run at) ∙ length-append (runs_on device (take i runs)) (runs_on device (run ∷ [])))

pub run_pushed : (old count before text old_out new_out : List ℕ) (after : List ℕ) → old_out ≡ old ++ (count ++ before) → new_out ≡ old_out ++ text → after ≡ before ++ text → new_out ≡ old ++ (count ++ after)
run_pushed old count before text old_out new_out after e f g = rw (f, e, g) (simp append_assoc)
