-- The six lines that are counted from what a replay writes are those of its trace and its listing.
use Rattle.std.proofs.Common.{◌≡◌, ℕ, zero, suc, ◌+◌, ◌<◌, ◌≤◌, Bool, true, false, cond, eqb, ◌&&◌, List, [], ◌∷◌, ◌++◌, length, take, drop, refl, sym, ap, ◌∙◌, arith, append_assoc, inl, inr}
use Rattle.std.specs.Prelude.{codes, map}
use Rattle.std.specs.List.{AllByRecursion, count_by}
use Rattle.std.proofs.lemmas.List.{append-nil, length-append}
use Rattle.std.proofs.lemmas.List.Recursion.{is_count_by}
use Rattle.std.proofs.lemmas.Bool.Decides.{eqb_tells}
use Rattle.bx_base.specs.Text.{LacksFeed, ended, text_of}
use Rattle.bx_model.specs.Listing.{listing, listing_lines}
use Rattle.bx_model.specs.declared.tree.Tree.{Tree}
use Rattle.bx_tree_files.specs.declared.file.File.{File}
use Rattle.bx_script.proofs.TraceLines.{trace_lacks_feed}
use Rattle.bx_script.specs.TraceText.{InTraceRange, trace_spelling, trace_text}
use Rattle.bx_script.specs.declared.trace_line.TraceLine.{TraceLine}
use Rattle.bx_script.specs.declared.trace_line.TraceLine.TheVariants.{Took, Acted, Reply, Again}
use Rattle.bx_replay.specs.Outcome.{closing_text}
use Rattle.bx_make.specs.Counts.{begins_with, bytes_before, count_line, count_lines, count_text, files_in, is_again, is_point, is_reply, is_taken, seen_text}

-- ---- one line

head_lacks : (c : ℕ) (line : List ℕ) → LacksFeed (c ∷ line) → eqb c 10 ≡ false
head_lacks c line lacks = elim (eqb_tells c 10) [ inl h ↦ absurd (lacks 0 h.1) | inr h ↦ h.0 ]

-- the rest of a line, whose first byte begins none
count_inside : (word line rest : List ℕ) → LacksFeed line → count_lines word false (line ++ 10 ∷ rest) ≡ count_lines word true rest
unfolding count_lines
count_inside word [] rest lacks = omega arith
count_inside word (c ∷ line) rest lacks = rw (head_lacks c line lacks) (let h = count_inside word line rest (λ i. lacks (suc i)) in omega (arith, h))

count_one : (word line rest : List ℕ) → LacksFeed line → 1 ≤ length line → count_lines word true (line ++ 10 ∷ rest) ≡ cond (begins_with word (line ++ 10 ∷ rest)) 1 0 + count_lines word true rest
unfolding count_lines
count_one word [] rest lacks some = absurd (omega (arith, some))
count_one word (c ∷ line) rest lacks some =
    ap (λ (b : Bool). cond (begins_with word (c ∷ (line ++ 10 ∷ rest))) 1 0 + count_lines word b (line ++ 10 ∷ rest)) (head_lacks c line lacks)
    ∙ ap (λ (n : ℕ). cond (begins_with word (c ∷ (line ++ 10 ∷ rest))) 1 0 + n) (count_inside word line rest (λ i. lacks (suc i)))

before_inside : (word line rest : List ℕ) → LacksFeed line → bytes_before word false (line ++ 10 ∷ rest) ≡ length (line ++ 10 ∷ []) + bytes_before word true rest
unfolding bytes_before
before_inside word [] rest lacks = refl
before_inside word (c ∷ line) rest lacks =
    rw (head_lacks c line lacks) (let h = before_inside word line rest (λ i. lacks (suc i)) in omega (arith, h))

before_one : (word line rest : List ℕ) → LacksFeed line → 1 ≤ length line → begins_with word (line ++ 10 ∷ rest) ≡ false → bytes_before word true (line ++ 10 ∷ rest) ≡ length (ended line) + bytes_before word true rest
unfolding bytes_before
before_one word [] rest lacks some other = absurd (omega (arith, some))
before_one word (c ∷ line) rest lacks some other =
    rw (other, head_lacks c line lacks) (let h = before_inside word line rest (λ i. lacks (suc i)) in omega (arith, h))

-- ---- lines of a trace

some_bytes : (line : TraceLine) → 1 ≤ length (trace_spelling line)
some_bytes (Took call node client datagram) = omega arith
some_bytes (Acted point) = omega arith
some_bytes (Reply call reply) = omega arith
some_bytes (Again node client reply) = omega arith

-- a word tells the lines that pass a test
abbrev Tells : List ℕ → (TraceLine → Bool) → Type 0
Tells word test = (line : TraceLine) (rest : List ℕ) → begins_with word (trace_spelling line ++ 10 ∷ rest) ≡ test line

tells_taken : Tells (codes "took ") is_taken
tells_taken (Took call node client datagram) rest = refl
tells_taken (Acted point) rest = refl
tells_taken (Reply call reply) rest = refl
tells_taken (Again node client reply) rest = refl

tells_point : Tells (codes "point ") is_point
tells_point (Took call node client datagram) rest = refl
tells_point (Acted point) rest = refl
tells_point (Reply call reply) rest = refl
tells_point (Again node client reply) rest = refl

tells_reply : Tells (codes "reply ") is_reply
tells_reply (Took call node client datagram) rest = refl
tells_reply (Acted point) rest = refl
tells_reply (Reply call reply) rest = refl
tells_reply (Again node client reply) rest = refl

tells_again : Tells (codes "again ") is_again
tells_again (Took call node client datagram) rest = refl
tells_again (Acted point) rest = refl
tells_again (Reply call reply) rest = refl
tells_again (Again node client reply) rest = refl

no_file : (line : TraceLine) (rest : List ℕ) → begins_with (codes "file ") (trace_spelling line ++ 10 ∷ rest) ≡ false
no_file (Took call node client datagram) rest = refl
no_file (Acted point) rest = refl
no_file (Reply call reply) rest = refl
no_file (Again node client reply) rest = refl

abbrev AreInRange : List TraceLine → Type 0
AreInRange lines = AllByRecursion InTraceRange lines

in_front : (a b : List TraceLine) → AreInRange (a ++ b) → AreInRange a
in_front [] b all = tt
in_front (line ∷ a) b all = (all.0, in_front a b all.1)

in_back : (a b : List TraceLine) → AreInRange (a ++ b) → AreInRange b
in_back [] b all = all
in_back (line ∷ a) b all = in_back a b all.1

-- how many lines pass a test
abbrev number_of : (TraceLine → Bool) → List TraceLine → ℕ
number_of test [] = 0
number_of test (line ∷ lines) = cond (test line) (1 + number_of test lines) (number_of test lines)

number_is : (test : TraceLine → Bool) (lines : List TraceLine) → number_of test lines ≡ count_by test lines
number_is test lines = is_count_by (number_of test) test refl (λ x xs. refl) lines

count_more : (b : Bool) (k n : ℕ) → cond b 1 0 + (k + n) ≡ cond b (1 + k) k + n
count_more true k n = omega arith
count_more false k n = omega arith

one_and : (b : Bool) (k l : ℕ) → cond b (1 + (k + l)) (k + l) ≡ cond b (1 + k) k + l
one_and true k l = omega arith
one_and false k l = refl

number-append : (test : TraceLine → Bool) (a b : List TraceLine) → number_of test (a ++ b) ≡ number_of test a + number_of test b
number-append test [] b = omega arith
number-append test (line ∷ a) b = ap (λ (n : ℕ). cond (test line) (1 + n) n) (number-append test a b) ∙ one_and (test line) (number_of test a) (number_of test b)

empty : (word : List ℕ) → count_lines word true [] ≡ 0
unfolding count_lines
empty word = refl

take_front : (a b : List ℕ) → take (length a) (a ++ b) ≡ a
take_front [] b = refl
take_front (x ∷ a) b = ap (λ (l : List ℕ). x ∷ l) (take_front a b)

drop_front : (a b : List ℕ) → drop (length a) (a ++ b) ≡ b
drop_front [] b = refl
drop_front (x ∷ a) b = drop_front a b

count_trace : (word : List ℕ) (test : TraceLine → Bool) (lines : List TraceLine) (rest : List ℕ) → Tells word test → AreInRange lines
    → count_lines word true (trace_text lines ++ rest) ≡ number_of test lines + count_lines word true rest
count_trace word test [] rest tells fits = omega arith
count_trace word test (line ∷ lines) rest tells fits =
    let text : List ℕ = trace_text lines ++ rest in
    let one : count_lines word true (trace_spelling line ++ 10 ∷ text) ≡ cond (test line) 1 0 + count_lines word true text =
    count_one word (trace_spelling line) text (trace_lacks_feed line fits.0) (some_bytes line) ∙ ap (λ (b : Bool). cond b 1 0 + count_lines word true text) (tells line text) in
    let others = count_trace word test lines rest tells fits.1 in
    let split : trace_text (line ∷ lines) ++ rest ≡ trace_spelling line ++ 10 ∷ text =
    append_assoc (ended (trace_spelling line)) (trace_text lines) rest ∙ append_assoc (trace_spelling line) (10 ∷ []) text in
    ap (count_lines word true) split ∙ one ∙ ap (λ (n : ℕ). cond (test line) 1 0 + n) others ∙ count_more (test line) (number_of test lines) (count_lines word true rest)

before_trace : (lines : List TraceLine) (rest : List ℕ) → AreInRange lines → bytes_before (codes "file ") true (trace_text lines ++ rest) ≡ length (trace_text lines) + bytes_before (codes "file ") true rest
before_trace [] rest fits = omega arith
before_trace (line ∷ lines) rest fits =
    let text : List ℕ = trace_text lines ++ rest in
    let split : trace_text (line ∷ lines) ++ rest ≡ trace_spelling line ++ 10 ∷ text =
    append_assoc (ended (trace_spelling line)) (trace_text lines) rest ∙ append_assoc (trace_spelling line) (10 ∷ []) text in
    let one = before_one (codes "file ") (trace_spelling line) text (trace_lacks_feed line fits.0) (some_bytes line) (no_file line text) in
    let others = before_trace lines rest fits.1 in
    ap (bytes_before (codes "file ") true) split ∙ omega (arith, one, others, length-append (ended (trace_spelling line)) (trace_text lines))

-- ---- all that a replay writes

abbrev told_text : List TraceLine → List TraceLine → List ℕ
told_text trace closing = trace_text trace ++ (ended (codes "end") ++ trace_text closing)

told_then : (trace closing : List TraceLine) (rest : List ℕ) → trace_text trace ++ (ended (codes "end") ++ (trace_text closing ++ rest)) ≡ told_text trace closing ++ rest
told_then trace closing rest = sym (append_assoc (trace_text trace) (ended (codes "end") ++ trace_text closing) rest)

end_lacks : LacksFeed (codes "end")
end_lacks zero = λ e. omega (arith, e)
end_lacks (suc zero) = λ e. omega (arith, e)
end_lacks (suc (suc zero)) = λ e. omega (arith, e)
end_lacks (suc (suc (suc i))) = λ e. omega (arith, e)

in_files : (files : List File) → bytes_before (codes "file ") true (text_of (listing_lines files)) ≡ 0
unfolding bytes_before
in_files [] = refl
in_files (file ∷ files) = refl

no_files : (tree : Tree) → bytes_before (codes "file ") true (listing tree) ≡ 0
no_files tree = in_files tree.files

told_length : (trace closing : List TraceLine) (tree : Tree) → AreInRange (trace ++ closing)
    → bytes_before (codes "file ") true (trace_text trace ++ closing_text closing tree) ≡ length (told_text trace closing)
told_length trace closing tree fits =
    let rest : List ℕ = trace_text closing ++ listing tree in
    let one = before_trace trace (ended (codes "end") ++ rest) (in_front trace closing fits) in
    let two = before_one (codes "file ") (codes "end") rest end_lacks (omega arith) refl in
    let three = before_trace closing (listing tree) (in_back trace closing fits) in
    let four = no_files tree in
    omega (arith, one, two, three, four, length-append (trace_text trace) (ended (codes "end") ++ trace_text closing), length-append (ended (codes "end")) (trace_text closing))

count_told : (word : List ℕ) (test : TraceLine → Bool) (trace closing : List TraceLine) → Tells word test → ((rest : List ℕ) → begins_with word (codes "end" ++ 10 ∷ rest) ≡ false) → AreInRange (trace ++ closing)
    → count_lines word true (told_text trace closing) ≡ count_by test (trace ++ closing)
count_told word test trace closing tells other fits =
    let one = count_trace word test trace (ended (codes "end") ++ trace_text closing) tells (in_front trace closing fits) in
    let two = count_one word (codes "end") (trace_text closing) end_lacks (omega arith) in
    let none : cond {A = ℕ} (begins_with word (codes "end" ++ 10 ∷ trace_text closing)) 1 0 ≡ 0 = ap (λ (b : Bool). cond b 1 0) (other (trace_text closing)) in
    let three = count_trace word test closing [] tells (in_back trace closing fits) in
    let same : trace_text closing ++ [] ≡ trace_text closing = append-nil (trace_text closing) in
    let last : count_lines word true (trace_text closing) ≡ number_of test closing + 0 = ap (count_lines word true) (sym same) ∙ three ∙ ap (λ (n : ℕ). number_of test closing + n) (empty word) in
    let all : count_lines word true (told_text trace closing) ≡ number_of test (trace ++ closing) = omega (arith, one, two, none, last, number-append test trace closing) in
    all ∙ number_is test (trace ++ closing)

pub seen_is : (calls : ℕ) (output : List ℕ) (trace closing : List TraceLine) (tree : Tree) → AreInRange (trace ++ closing) → output ≡ trace_text trace ++ closing_text closing tree
    → seen_text calls output ≡ count_text calls (trace ++ closing) tree
seen_is calls output trace closing tree fits is =
    let told : List ℕ = told_text trace closing in
    let whole : output ≡ told ++ listing tree = is ∙ told_then trace closing (listing tree) in
    let at : bytes_before (codes "file ") true output ≡ length told = ap (bytes_before (codes "file ") true) is ∙ told_length trace closing tree fits in
    let front : take (bytes_before (codes "file ") true output) output ≡ told = rw (at, whole) (take_front told (listing tree)) in
    let back : drop (bytes_before (codes "file ") true output) output ≡ listing tree = rw (at, whole) (drop_front told (listing tree)) in
    let c1 = count_told (codes "took ") is_taken trace closing tells_taken (λ rest. refl) fits in
    let c2 = count_told (codes "point ") is_point trace closing tells_point (λ rest. refl) fits in
    let c3 = count_told (codes "reply ") is_reply trace closing tells_reply (λ rest. refl) fits in
    let c4 = count_told (codes "again ") is_again trace closing tells_again (λ rest. refl) fits in
    rw (front, back, c1, c2, c3, c4) refl
