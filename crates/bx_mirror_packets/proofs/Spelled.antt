-- A packet is one message at most.
use Rattle.std.proofs.Common.{◌≡◌, ℕ, List, [], ◌∷◌, ◌++◌, refl, sym, ap, subst, ◌∙◌, arith}
use Rattle.std.specs.List.{AllByRecursion}
use Rattle.bx_base.specs.Reading.{Reader}
use Rattle.bx_base.proofs.Fields.{IsField}
use Rattle.bx_records.specs.declared.runs.Run.{Run}
use Rattle.bx_mirror_packets.specs.DeviceMessages.{HasCounts, HasSectors, IsDeviceMessage, IsRunOf, Spells, body_text, copied_text, copy_text, data_text, kind_of, read_text, write_text, wrote_text}
use Rattle.bx_mirror_packets.specs.declared.message.DeviceMessage.{DeviceMessage}
use Rattle.bx_mirror_packets.specs.declared.message.DeviceMessage.TheVariants.{Write, Wrote, Read, Data, Copy, Copied, Alive}
use Rattle.bx_mirror_packets.specs.declared.message.WriteBody.{WriteBody}
use Rattle.bx_mirror_packets.specs.declared.message.WroteBody.{WroteBody}
use Rattle.bx_mirror_packets.specs.declared.message.ReadBody.{ReadBody}
use Rattle.bx_mirror_packets.specs.declared.message.DataBody.{DataBody}
use Rattle.bx_mirror_packets.specs.declared.message.CopyBody.{CopyBody}
use Rattle.bx_mirror_packets.specs.declared.message.CopiedBody.{CopiedBody}
use Rattle.bx_mirror_packets.specs.declared.parts.Head.{Head}
use Rattle.bx_mirror_packets.specs.declared.parts.Piece.{Piece}
use Rattle.bx_mirror_packets.proofs.Parted
use Rattle.bx_mirror_packets.proofs.Fields.{extent_field, head_field, piece_field, writing_field}
use Rattle.bx_mirror_packets.proofs.Whole.{HasFront, front_same}

-- the first fields of equal bodies, and what is behind them
one_front : {X A : Type 0} {Body : X → Type 0} {body : X → List ℕ} {read : Reader A} {text : A → List ℕ} {Fit : A → Type 0} {front : X → A} {more : X → List ℕ}
    → IsField read text Fit → HasFront Body body text Fit front more → (x y : X) → Body x → Body y → body x ≡ body y → (front x ≡ front y) × (more x ≡ more y)
one_front {X} {A} {Body} {body} {read} {text} {Fit} {front} {more} p has x y is also e =
    front_same p (body x) (more x) (more y) (front x) (front y) (ap read (has.parts x) ∙ p.again (front x) (more x) (has.fits x is)) (e ∙ has.parts y) (has.fits y also)

one_field : {A : Type 0} {read : Reader A} {text : A → List ℕ} {Fit : A → Type 0} → IsField read text Fit → (x y : A) → Fit x → Fit y → text x ++ [] ≡ text y ++ [] → x ≡ y
one_field {A} {read} {text} {Fit} p x y is also e = (front_same p (text x ++ []) [] [] x y (p.again x [] is) e also).0

-- ---- each body

same_wrote : (a b : WroteBody) → IsDeviceMessage (Wrote a) → IsDeviceMessage (Wrote b) → wrote_text a ≡ wrote_text b → a ≡ b
same_wrote a b is also e = ap Parted.wrote_with (one_front head_field Parted.wrote_front a b is also e).0

abbrev read_of : Head × (ℕ × ℕ) → ReadBody
read_of x = Parted.read_with x.0 x.1

same_read : (a b : ReadBody) → IsDeviceMessage (Read a) → IsDeviceMessage (Read b) → read_text a ≡ read_text b → a ≡ b
same_read a b is also e =
    let heads = one_front head_field Parted.read_front a b is also e in
    let extents : Parted.extent a ≡ Parted.extent b =
    one_field extent_field (Parted.extent a) (Parted.extent b) (Parted.read_second.fits a is) (Parted.read_second.fits b also) (sym (Parted.read_second.parts a) ∙ (heads.1 ∙ Parted.read_second.parts b)) in
    ap (λ (h : Head). Parted.read_with h (Parted.extent a)) heads.0 ∙ ap (λ (x : ℕ × ℕ). Parted.read_with (Parted.read_head b) x) extents

same_data : (a b : DataBody) → IsDeviceMessage (Data a) → IsDeviceMessage (Data b) → data_text a ≡ data_text b → a ≡ b
same_data a b is also e =
    let heads = one_front head_field Parted.data_front a b is also e in
    ap (λ (h : Head). Parted.data_with h a.bytes) heads.0 ∙ ap (λ (x : List ℕ). Parted.data_with (Parted.data_head b) x) heads.1

same_copy : (a b : CopyBody) → IsDeviceMessage (Copy a) → IsDeviceMessage (Copy b) → copy_text a ≡ copy_text b → a ≡ b
same_copy a b is also e =
    let heads = one_front piece_field Parted.copy_front a b is also e in
    ap (λ (p : Piece). Parted.copy_with p a.bytes) heads.0 ∙ ap (λ (x : List ℕ). Parted.copy_with (Parted.copy_piece b) x) heads.1

same_copied : (a b : CopiedBody) → IsDeviceMessage (Copied a) → IsDeviceMessage (Copied b) → copied_text a ≡ copied_text b → a ≡ b
same_copied a b is also e = ap Parted.copied_with (one_front piece_field Parted.copied_front a b is also e).0

abbrev made_of : Head → ℕ × List Run → ℕ → WriteBody
made_of head x kind = Parted.write_with head x.0 (kind, x.1)

same_write : (a b : WriteBody) → IsDeviceMessage (Write a) → IsDeviceMessage (Write b) → a.runs.0 ≡ b.runs.0 → write_text a ≡ write_text b → a ≡ b
same_write a b is also k e =
    let kind = a.runs.0 in
    let heads = one_front head_field (Parted.write_front kind) a b (is, refl) (also, sym k) e in
    let devices : a.device ≡ b.device = ap (λ (h : Head). h.device) heads.0 in
    let writings : Parted.writing a ≡ Parted.writing b =
    one_field (writing_field a.device) (Parted.writing a) (Parted.writing b) ((Parted.write_second kind).fits a (is, refl))
    (subst (λ (d : ℕ). Parted.WritingOf (record { session = b.session; device = d; epoch = b.epoch; number = b.sequence }) (Parted.writing b)) (sym devices) ((Parted.write_second kind).fits b (also, sym k)))
    (sym ((Parted.write_second kind).parts a) ∙ (heads.1 ∙ (Parted.write_second kind).parts b)) in
    ap (λ (h : Head). made_of h (Parted.writing a) kind) heads.0 ∙ (ap (λ (x : ℕ × List Run). made_of (Parted.write_head b) x kind) writings ∙ ap (λ (n : ℕ). made_of (Parted.write_head b) (Parted.writing b) n) k)

-- ---- all of them

one : (a b : DeviceMessage) → kind_of a ≡ kind_of b → IsDeviceMessage a → IsDeviceMessage b → body_text a ≡ body_text b → a ≡ b
one (Write w) (Write v) k is also e = ap Write (same_write w v is also k e)
one (Write w) b k is also e = absurd (omega (arith, k, is.most))
one (Wrote w) (Write v) k is also e = absurd (omega (arith, k, also.most))
one (Wrote w) (Wrote v) k is also e = ap Wrote (same_wrote w v is also e)
one (Wrote w) b k is also e = absurd (omega (arith, k))
one (Read r) (Write v) k is also e = absurd (omega (arith, k, also.most))
one (Read r) (Read s) k is also e = ap Read (same_read r s is also e)
one (Read r) b k is also e = absurd (omega (arith, k))
one (Data d) (Write v) k is also e = absurd (omega (arith, k, also.most))
one (Data d) (Data f) k is also e = ap Data (same_data d f is also e)
one (Data d) b k is also e = absurd (omega (arith, k))
one (Copy c) (Write v) k is also e = absurd (omega (arith, k, also.most))
one (Copy c) (Copy d) k is also e = ap Copy (same_copy c d is also e)
one (Copy c) b k is also e = absurd (omega (arith, k))
one (Copied c) (Write v) k is also e = absurd (omega (arith, k, also.most))
one (Copied c) (Copied d) k is also e = ap Copied (same_copied c d is also e)
one (Copied c) b k is also e = absurd (omega (arith, k))
one Alive (Write v) k is also e = absurd (omega (arith, k, also.most))
one Alive Alive k is also e = refl
one Alive b k is also e = absurd (omega (arith, k))

pub one_message : (a b : DeviceMessage) (kind : ℕ) (body : List ℕ) → Spells a kind body → Spells b kind body → a ≡ b
one_message a b kind body p q = one a b (sym p.kind_is ∙ q.kind_is) p.is q.is (sym p.body_is ∙ q.body_is)

-- ---- counts

few_sectors : (device : ℕ) (runs : List Run) → AllByRecursion (IsRunOf device) runs → AllByRecursion HasSectors runs
few_sectors device [] is = tt
few_sectors device (run ∷ runs) is = (is.0.count, few_sectors device runs is.1)

pub counts_in : (message : DeviceMessage) → IsDeviceMessage message → HasCounts message
counts_in (Write w) is = (is.count, few_sectors w.device w.runs.1 is.each)
counts_in (Wrote w) is = tt
counts_in (Read r) is = tt
counts_in (Data d) is = tt
counts_in (Copy c) is = tt
counts_in (Copied c) is = tt
counts_in Alive is = tt
