-- A trace in range is determined by its text.
use Rattle.std.proofs.Common.{◌≡◌, ℕ, zero, suc, ◌^◌, ◌<◌, false, List, [], ◌∷◌, length, refl, sym, ap, ◌∙◌, arith}
use Rattle.std.specs.Prelude.{codes, map}
use Rattle.std.specs.Fmt.{decimal}
use Rattle.std.specs.List.{AllByRecursion}
use Rattle.std.specs.Int.{w64, byte_at, bytes_high_first, to_be_bytes, from_be_bytes}
use Rattle.std.specs.Str.{bytes_eq}
use Rattle.std.proofs.lemmas.Fmt.{decimal_injective}
use Rattle.std.proofs.lemmas.Nat.{from_be_bytes-to_be_bytes_8}
use Rattle.std.proofs.lemmas.Slice.Eq.{bytes_eq-Decides}
use Rattle.hex.specs.Hex.{decode_of, encode_lower}
use Rattle.hex.proofs.HexLemmas.{decode_of-encode_lower, decode_of-same}
use Rattle.bx_base.specs.Bytes.{IsBytes}
use Rattle.bx_base.specs.Text.{sixteen_digits, LacksFeed}
use Rattle.bx_script.specs.declared.trace_line.TraceLine.{TraceLine}
use Rattle.bx_script.specs.declared.trace_line.TraceLine.TheVariants.{Took, Acted, Reply, Again}
use Rattle.bx_script.specs.TraceText.{trace_fields, trace_spelling, trace_text, InTraceRange}
use Rattle.bx_script.proofs.Fields.{Lacks, lacks_from_test}
use Rattle.bx_script.proofs.Numbers.{Lacks-decimal}
use Rattle.bx_script.proofs.HexText.{Lacks-hex}
use Rattle.bx_script.proofs.Spaced.{Lacks-spaced, LacksFeed-from_lacks, spaced_injective, text_of_injective, map_injective, all_map}

-- ---- hex text is determined by its bytes

pub encode_lower_injective : (a b : List ℕ) → IsBytes a → IsBytes b → encode_lower a ≡ encode_lower b → a ≡ b
encode_lower_injective a b p q e = decode_of-same (encode_lower a) a b (decode_of-encode_lower a p) (ap decode_of e ∙ decode_of-encode_lower b q)

IsBytes-nil : IsBytes []
IsBytes-nil i = omega arith

IsBytes-cons : (b : ℕ) (bytes : List ℕ) → b < 256 → IsBytes bytes → IsBytes (b ∷ bytes)
IsBytes-cons b bytes p q zero = p
IsBytes-cons b bytes p q (suc i) = q i

byte_at_small : (k n : ℕ) → byte_at k n < 256
byte_at_small zero n = omega arith
byte_at_small (suc k) n = omega arith

IsBytes-high_first : (k n : ℕ) → IsBytes (bytes_high_first k n)
IsBytes-high_first zero n = IsBytes-nil
IsBytes-high_first (suc k) n = IsBytes-cons (byte_at k n) (bytes_high_first k n) (byte_at_small k n) (IsBytes-high_first k n)

pub IsBytes-eight : (n : ℕ) → IsBytes (to_be_bytes w64 n)
IsBytes-eight n = IsBytes-high_first 8 n

pub sixteen_digits_injective : (m n : ℕ) → m < 2 ^ 64 → n < 2 ^ 64 → sixteen_digits m ≡ sixteen_digits n → m ≡ n
sixteen_digits_injective m n p q e =
    let same : to_be_bytes w64 m ≡ to_be_bytes w64 n = encode_lower_injective (to_be_bytes w64 m) (to_be_bytes w64 n) (IsBytes-eight m) (IsBytes-eight n) e in
    sym (from_be_bytes-to_be_bytes_8 m p) ∙ ap (from_be_bytes w64) same ∙ from_be_bytes-to_be_bytes_8 n q

-- ---- what the fields lack

fields_lack : (c : ℕ) (line : TraceLine) → c < 48 → Lacks c (codes "took") → Lacks c (codes "point") → Lacks c (codes "reply") → Lacks c (codes "again") → InTraceRange line → AllByRecursion (Lacks c) (trace_fields line)
fields_lack c (Took call node client datagram) lt w1 w2 w3 w4 fits =
    (w1, (Lacks-decimal c call lt fits.0, (Lacks-decimal c node lt (omega (arith, fits.1)), (Lacks-decimal c client lt (omega (arith, fits.2)), (Lacks-hex c datagram lt fits.3, tt)))))
fields_lack c (Acted p) lt w1 w2 w3 w4 fits =
    (w2, (Lacks-decimal c p.call lt fits.0, (Lacks-decimal c p.moment lt fits.1, (Lacks-decimal c p.spare lt fits.2, (Lacks-hex c (to_be_bytes w64 p.made) lt (IsBytes-eight p.made), tt)))))
fields_lack c (Reply call reply) lt w1 w2 w3 w4 fits =
    (w3, (Lacks-decimal c call lt fits.0, (Lacks-hex c reply lt fits.1, tt)))
fields_lack c (Again node client reply) lt w1 w2 w3 w4 fits =
    (w4, (Lacks-decimal c node lt (omega (arith, fits.0)), (Lacks-decimal c client lt (omega (arith, fits.1)), (Lacks-hex c reply lt fits.2, tt))))

fields_lack_space : (line : TraceLine) → InTraceRange line → AllByRecursion (Lacks 32) (trace_fields line)
fields_lack_space line fits = fields_lack 32 line (omega arith) (lacks_from_test 32 (codes "took") refl) (lacks_from_test 32 (codes "point") refl) (lacks_from_test 32 (codes "reply") refl) (lacks_from_test 32 (codes "again") refl) fits

trace_lacks : (line : TraceLine) → InTraceRange line → Lacks 10 (trace_spelling line)
trace_lacks line fits =
    Lacks-spaced 10 (trace_fields line) (λ e. omega arith)
    (fields_lack 10 line (omega arith) (lacks_from_test 10 (codes "took") refl) (lacks_from_test 10 (codes "point") refl) (lacks_from_test 10 (codes "reply") refl) (lacks_from_test 10 (codes "again") refl) fits)

-- no line has a line feed
pub trace_lacks_feed : (line : TraceLine) → InTraceRange line → LacksFeed (trace_spelling line)
trace_lacks_feed line fits = LacksFeed-from_lacks (trace_spelling line) (trace_lacks line fits)

-- ---- a line is determined by its fields

other_word : (a b : List ℕ) (x y : List (List ℕ)) → bytes_eq a b ≡ false → a ∷ x ≡ b ∷ y → ⊥
other_word a b x y differ e =
    let same : a ≡ b = cc in
    let yes = (bytes_eq-Decides a b).1 same in
    cc

made_point : ℕ → ℕ → ℕ → ℕ → TraceLine
made_point call moment spare made = Acted (record { call = call; moment = moment; spare = spare; made = made })

fields_injective : (a b : TraceLine) → InTraceRange a → InTraceRange b → trace_fields a ≡ trace_fields b → a ≡ b
unfolding made_point
fields_injective (Took call node client datagram) (Took call' node' client' datagram') p q e =
    let e1 : decimal call ≡ decimal call' = cc in
    let e2 : decimal node ≡ decimal node' = cc in
    let e3 : decimal client ≡ decimal client' = cc in
    let e4 : encode_lower datagram ≡ encode_lower datagram' = cc in
    let n1 = decimal_injective call call' p.0 q.0 e1 in
    let n2 = decimal_injective node node' (omega (arith, p.1)) (omega (arith, q.1)) e2 in
    let n3 = decimal_injective client client' (omega (arith, p.2)) (omega (arith, q.2)) e3 in
    let n4 = encode_lower_injective datagram datagram' p.3 q.3 e4 in
    cc (n1, n2, n3, n4)
fields_injective (Took call node client datagram) (Acted point) p q e = absurd (other_word (codes "took") (codes "point") _ _ refl e)
fields_injective (Took call node client datagram) (Reply call' reply) p q e = absurd (other_word (codes "took") (codes "reply") _ _ refl e)
fields_injective (Took call node client datagram) (Again node' client' reply) p q e = absurd (other_word (codes "took") (codes "again") _ _ refl e)
fields_injective (Acted point) (Took call node client datagram) p q e = absurd (other_word (codes "point") (codes "took") _ _ refl e)
fields_injective (Acted x) (Acted y) p q e =
    let e1 : decimal x.call ≡ decimal y.call = cc in
    let e2 : decimal x.moment ≡ decimal y.moment = cc in
    let e3 : decimal x.spare ≡ decimal y.spare = cc in
    let e4 : sixteen_digits x.made ≡ sixteen_digits y.made = cc in
    let n1 = decimal_injective x.call y.call p.0 q.0 e1 in
    let n2 = decimal_injective x.moment y.moment p.1 q.1 e2 in
    let n3 = decimal_injective x.spare y.spare p.2 q.2 e3 in
    let n4 = sixteen_digits_injective x.made y.made p.3 q.3 e4 in
    let same : made_point x.call x.moment x.spare x.made ≡ made_point y.call y.moment y.spare y.made = cc (n1, n2, n3, n4) in
    same
fields_injective (Acted point) (Reply call reply) p q e = absurd (other_word (codes "point") (codes "reply") _ _ refl e)
fields_injective (Acted point) (Again node client reply) p q e = absurd (other_word (codes "point") (codes "again") _ _ refl e)
fields_injective (Reply call reply) (Took call' node client datagram) p q e = absurd (other_word (codes "reply") (codes "took") _ _ refl e)
fields_injective (Reply call reply) (Acted point) p q e = absurd (other_word (codes "reply") (codes "point") _ _ refl e)
fields_injective (Reply call reply) (Reply call' reply') p q e =
    let e1 : decimal call ≡ decimal call' = cc in
    let e2 : encode_lower reply ≡ encode_lower reply' = cc in
    let n1 = decimal_injective call call' p.0 q.0 e1 in
    let n2 = encode_lower_injective reply reply' p.1 q.1 e2 in
    cc (n1, n2)
fields_injective (Reply call reply) (Again node client reply') p q e = absurd (other_word (codes "reply") (codes "again") _ _ refl e)
fields_injective (Again node client reply) (Took call' node' client' datagram) p q e = absurd (other_word (codes "again") (codes "took") _ _ refl e)
fields_injective (Again node client reply) (Acted point) p q e = absurd (other_word (codes "again") (codes "point") _ _ refl e)
fields_injective (Again node client reply) (Reply call' reply') p q e = absurd (other_word (codes "again") (codes "reply") _ _ refl e)
fields_injective (Again node client reply) (Again node' client' reply') p q e =
    let e1 : decimal node ≡ decimal node' = cc in
    let e2 : decimal client ≡ decimal client' = cc in
    let e3 : encode_lower reply ≡ encode_lower reply' = cc in
    let n1 = decimal_injective node node' (omega (arith, p.0)) (omega (arith, q.0)) e1 in
    let n2 = decimal_injective client client' (omega (arith, p.1)) (omega (arith, q.1)) e2 in
    let n3 = encode_lower_injective reply reply' p.2 q.2 e3 in
    cc (n1, n2, n3)

some_fields : (line : TraceLine) → 0 < length (trace_fields line)
some_fields (Took call node client datagram) = omega arith
some_fields (Acted point) = omega arith
some_fields (Reply call reply) = omega arith
some_fields (Again node client reply) = omega arith

-- a line is determined by its spelling
pub trace_spelling_injective : (a b : TraceLine) → InTraceRange a → InTraceRange b → trace_spelling a ≡ trace_spelling b → a ≡ b
trace_spelling_injective a b p q e =
    fields_injective a b p q (spaced_injective (trace_fields a) (trace_fields b) (fields_lack_space a p) (fields_lack_space b q) (some_fields a) (some_fields b) e)

-- ---- lists of lines

pub trace_text_injective : (a b : List TraceLine) → AllByRecursion InTraceRange a → AllByRecursion InTraceRange b → trace_text a ≡ trace_text b → a ≡ b
trace_text_injective a b p q e =
    map_injective trace_spelling InTraceRange trace_spelling_injective a b p q
    (text_of_injective (map trace_spelling a) (map trace_spelling b) (all_map trace_spelling InTraceRange (Lacks 10) trace_lacks a p) (all_map trace_spelling InTraceRange (Lacks 10) trace_lacks b q) e)
