-- A list of bytes, cut at its first line feed.
use Rattle.std.proofs.Common.{◌≡◌, ℕ, ◌+◌, ◌-◌, ◌<◌, ◌≤◌, Bool, true, false, cond, eqb, ltb, List, ◌∷◌, ◌++◌, length, take, drop, get_or, Some, None, sym, refl, ◌∙◌, arith, [], inl, inr}
use Rattle.std.specs.List.{position, position_or_len}
use Rattle.std.proofs.lemmas.Bool.{cases_lt, eqb-true}
use Rattle.std.proofs.lemmas.Bool.Decides.{nat_tests}
use Rattle.std.proofs.lemmas.List.{append_assoc, get_or_append_left, get_or-append_right, drop_more, get_or-take, get_or_past, length-take-le}
use Rattle.std.proofs.lemmas.List.Quantifiers.{position-Some}
use Rattle.std.proofs.lemmas.List.Sums.{fails_before_first}
use Rattle.bx_base.specs.Text.{LacksFeed, BeginsWith}
use Rattle.bx_outside.specs.LineReader.{LinesAhead, MeetsFeed, MeetsNoFeed, IsTooLong}

-- What lacks a line feed by test up to its end lacks it everywhere, since 0 stands past the end.
LacksFeed-from_tests : (bytes : List ℕ) → ((k : ℕ) → k < length bytes → eqb (get_or bytes k 0) 10 ≡ false) → LacksFeed bytes
LacksFeed-from_tests bytes h i = λ e. grind (arith, nat_tests, h i, get_or_past bytes i 0)

LacksFeed-take : (bytes : List ℕ) (at : ℕ) → at ≤ length bytes → ((k : ℕ) → k < at → eqb (get_or bytes k 0) 10 ≡ false) → LacksFeed (take at bytes)
LacksFeed-take bytes at le h = LacksFeed-from_tests (take at bytes) (λ k lt. let n : length (take at bytes) ≡ at = length-take-le at bytes le in let below : k < at = omega arith in rw (get_or-take at bytes k 0 below) (h k below))

pub drop-at_feed : (bytes : List ℕ) (at : ℕ) → position (λ b. eqb b 10) bytes ≡ Some at → drop at bytes ≡ 10 ∷ drop (at + 1) bytes
drop-at_feed bytes at e =
    let p = position-Some (λ b. eqb b 10) bytes at 0 e in
    rw (drop_more bytes at 0 p.0, eqb-true (get_or bytes at 0) 10 p.1)

pub LacksFeed-before : (bytes : List ℕ) (at : ℕ) → position (λ b. eqb b 10) bytes ≡ Some at → LacksFeed (take at bytes)
LacksFeed-before bytes at e =
    let p = position-Some (λ b. eqb b 10) bytes at 0 e in
    LacksFeed-take bytes at (omega (arith, p.0)) p.2

test_from_none : (far : Bool) (n : ℕ) → cond far (Some n) None ≡ None → far ≡ false
test_from_none true n e = cc
test_from_none false n e = refl

pub LacksFeed-from_none : (bytes : List ℕ) → position (λ b. eqb b 10) bytes ≡ None → LacksFeed bytes
LacksFeed-from_none bytes e =
    let far : ltb (position_or_len (λ b. eqb b 10) bytes) (length bytes) ≡ false = test_from_none _ _ e in
    let le : length bytes ≤ position_or_len (λ b. eqb b 10) bytes = grind (arith, nat_tests) in
    LacksFeed-from_tests bytes (λ k lt. fails_before_first (λ b. eqb b 10) bytes k 0 (omega arith))

pub LacksFeed-append : (front back : List ℕ) → LacksFeed front → LacksFeed back → LacksFeed (front ++ back)
LacksFeed-append front back f b i =
    elim (cases_lt i (length front)) [
      | inl lt ↦ rw (get_or_append_left front back 0 i lt) (f i)
      | inr le ↦ rw (get_or-append_right front back (length front) i 0 refl le) (b (i - length front))
    ]

-- A line that goes on with a whole piece that lacks a line feed.
pub parts_more : (text left : List ℕ) (before after : LinesAhead) → text ≡ before.line ++ (before.ahead ++ left) → MeetsNoFeed before after → text ≡ after.line ++ (after.ahead ++ left)
parts_more text left before after e m = rw (m.line, m.none) (e ∙ sym (append_assoc before.line before.ahead left))

pub LacksFeed-more : (before after : LinesAhead) → LacksFeed before.line → MeetsNoFeed before after → LacksFeed after.line
LacksFeed-more before after l m = rw m.line (LacksFeed-append before.line before.ahead l m.lacks)

-- A line that a line feed ends.
pub parts_met : (text left : List ℕ) (before after : LinesAhead) → text ≡ before.line ++ (before.ahead ++ left) → MeetsFeed before after → text ≡ after.line ++ 10 ∷ (after.ahead ++ left)
parts_met text left before after e m = rw m.line (e ∙ rw m.parts (simp append_assoc))

pub LacksFeed-met : (before after : LinesAhead) → LacksFeed before.line → MeetsFeed before after → LacksFeed after.line
LacksFeed-met before after l m = rw m.line (LacksFeed-append before.line m.front l m.lacks)

pub BeginsWith-met : (text left : List ℕ) (before after : LinesAhead) → text ≡ before.line ++ (before.ahead ++ left) → LacksFeed before.line → MeetsFeed before after → BeginsWith text after.line (after.ahead ++ left)
BeginsWith-met text left before after e l m = record {
  lacks = LacksFeed-met before after l m;
  parts = inl (parts_met text left before after e m ∙ sym (append_assoc after.line (10 ∷ []) (after.ahead ++ left)));
}

pub IsTooLong-met : (text left : List ℕ) (before after : LinesAhead) (most : ℕ) → text ≡ before.line ++ (before.ahead ++ left) → LacksFeed before.line → MeetsFeed before after → most < length after.line → IsTooLong text most
IsTooLong-met text left before after most e l m lt = record {
  front = after.line;
  rest = 10 ∷ (after.ahead ++ left);
  parts = parts_met text left before after e m;
  lacks = LacksFeed-met before after l m;
  longer = lt;
}

-- The text in parts, after a piece was read to where none was ahead.
pub parts_refilled : (text left left2 : List ℕ) (before after : LinesAhead) → text ≡ before.line ++ (before.ahead ++ left) → before.ahead ++ left ≡ after.ahead ++ left2 → after.line ≡ before.line → text ≡ after.line ++ (after.ahead ++ left2)
parts_refilled text left left2 before after e k l = rw (l, ← k) e
