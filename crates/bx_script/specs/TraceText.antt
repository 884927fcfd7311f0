-- What the lines of a trace are, and the one spelling of each.
use Rattle.std.specs.Prelude.{ℕ, ◌<◌, ◌^◌, List, [], ◌∷◌, ◌++◌, map, codes}
use Rattle.std.specs.Fmt.{decimal}
use Rattle.hex.specs.Hex.{encode_lower}
use Rattle.bx_base.specs.Bytes.{IsBytes}
use Rattle.bx_base.specs.Text.{spaced, sixteen_digits, text_of}
use Rattle.bx_script.specs.declared.trace_line.TraceLine.{TraceLine}
use Rattle.bx_script.specs.declared.trace_line.TraceLine.TheVariants.{Took, Acted, Reply, Again}

-- the fields of a line, its first word among them
abbrev pub trace_fields : TraceLine → List (List ℕ)
trace_fields (Took call node client datagram) = codes "took" ∷ decimal call ∷ decimal node ∷ decimal client ∷ encode_lower datagram ∷ []
trace_fields (Acted point) = codes "point" ∷ decimal point.call ∷ decimal point.moment ∷ decimal point.spare ∷ sixteen_digits point.made ∷ []
trace_fields (Reply call reply) = codes "reply" ∷ decimal call ∷ encode_lower reply ∷ []
trace_fields (Again node client reply) = codes "again" ∷ decimal node ∷ decimal client ∷ encode_lower reply ∷ []

-- the fields of a line of a word, numbers, and bytes in hex
abbrev pub fields_of : List ℕ → List ℕ → List ℕ → List (List ℕ)
fields_of word numbers bytes = word ∷ (map decimal numbers ++ encode_lower bytes ∷ [])

-- the bytes of a line, without its line feed
abbrev pub trace_spelling : TraceLine → List ℕ
trace_spelling line = spaced (trace_fields line)

-- the bytes of lines one after the other, each with its line feed
abbrev pub trace_text : List TraceLine → List ℕ
trace_text lines = text_of (map trace_spelling lines)

-- the values that a trace may have
abbrev pub InTraceRange : TraceLine → Type 0
InTraceRange (Took call node client datagram) = (call < 2 ^ 64) × (node < 2 ^ 32) × (client < 2 ^ 32) × IsBytes datagram
InTraceRange (Acted point) = (point.call < 2 ^ 64) × (point.moment < 2 ^ 64) × (point.spare < 2 ^ 64) × (point.made < 2 ^ 64)
InTraceRange (Reply call reply) = (call < 2 ^ 64) × IsBytes reply
InTraceRange (Again node client reply) = (node < 2 ^ 32) × (client < 2 ^ 32) × IsBytes reply
