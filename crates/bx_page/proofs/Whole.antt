-- Pages and their bytes, both ways.
use Rattle.std.proofs.Common.{◌≡◌, ℕ, ◌+◌, ◌-◌, ◌≤◌, List, ◌++◌, length, Option, Some, None, refl, sym, ap, ◌∙◌, arith}
use Rattle.std.specs.Prelude.{replicate}
use Rattle.std.proofs.lemmas.List.{length-append, length-replicate}
use Rattle.std.proofs.lemmas.Option.{some_pair_parts}
use Rattle.bx_page.specs.Contents.{Contents, size, IsPage}
use Rattle.bx_page.specs.Spelling.{page_bytes, Spells}
use Rattle.bx_page.specs.Parts.{AreFit}
use Rattle.bx_page.specs.Reading.{contents_at}
use Rattle.bx_page.proofs.Written.{front, length-front, page_bytes_is, count-le}
use Rattle.bx_base.specs.Bytes.{IsBytes}
use Rattle.bx_page.proofs.Fields.{AreParts, contents_take, contents_again}

pub length-page_bytes : (p : Contents) → size p ≤ 4096 → length (page_bytes p) ≡ 4096
length-page_bytes p room = ap length (page_bytes_is p) ∙ length-append (front p) (replicate (4096 - size p) 0) ∙ omega (arith, length-front p, length-replicate {A = ℕ} (4096 - size p) 0)

are_parts : (p : Contents) → IsPage p → AreParts p
are_parts p is = record {
  level = is.level;
  right = is.right;
  count = omega (arith, is.room, count-le p.entries);
  high = is.high;
  entries = is.entries;
}

-- the bytes of a page are read as it and zeros
pub page_again : (p : Contents) (bytes : List ℕ) → Spells p bytes → contents_at bytes ≡ Some (p, replicate (4096 - size p) 0)
page_again p bytes s = ap contents_at (s.parts ∙ page_bytes_is p) ∙ contents_again p (replicate (4096 - size p) 0) (are_parts p s.is)

-- parts that are fit, before zeros, are a page
pub page_read : (bytes rest : List ℕ) (p : Contents) → IsBytes bytes → contents_at bytes ≡ Some (p, rest) → length bytes ≡ 4096 → rest ≡ replicate (length rest) 0 → AreFit p → Spells p bytes
page_read bytes rest p fits e len zeros apt =
    let found = contents_take bytes (p, rest) fits e in
    let parts = found.1 in
    let sum : size p + length rest ≡ 4096 = omega (arith, ap length found.0, length-append (front p) rest, length-front p, len) in
    let behind : length rest ≡ 4096 - size p = omega (arith, sum) in
    record {
      is = record {
        level = parts.level;
        right = parts.right;
        high = parts.high;
        entries = parts.entries;
        rises = apt.order.rises;
        below = apt.order.below;
        children = apt.children;
        room = omega (arith, sum);
      };
      parts = found.0 ∙ ap (λ (t : List ℕ). front p ++ t) (zeros ∙ ap (λ (n : ℕ). replicate n 0) behind) ∙ sym (page_bytes_is p);
    }

-- what was read is the page, where there is one
pub page_same : (bytes rest : List ℕ) (p q : Contents) → contents_at bytes ≡ Some (p, rest) → Spells q bytes → (p ≡ q) × (rest ≡ replicate (length rest) 0)
page_same bytes rest p q e s =
    let both : ◌≡◌ {A = Option (Contents × List ℕ)} (Some (p, rest)) (Some (q, replicate (4096 - size q) 0)) = sym e ∙ page_again q bytes s in
    let same = some_pair_parts p q rest (replicate (4096 - size q) 0) both in
    let len : length rest ≡ 4096 - size q = ap length same.1 ∙ length-replicate {A = ℕ} (4096 - size q) 0 in
    (same.0, same.1 ∙ ap (λ (n : ℕ). replicate n 0) (sym len))

pub page_fit : (p q : Contents) → p ≡ q → IsPage q → AreFit p
page_fit p q e is = rw e (record { order = record { rises = is.rises; below = is.below }; children = is.children })

pub not_none : (bytes : List ℕ) (q : Contents) → contents_at bytes ≡ None → Spells q bytes → ⊥
not_none bytes q e s =
    let both : ◌≡◌ {A = Option (Contents × List ℕ)} None (Some (q, replicate (4096 - size q) 0)) = sym e ∙ page_again q bytes s in
    absurd cc

pub page_written : (p : Contents) → IsPage p → Spells p (page_bytes p)
page_written p is = record { is = is; parts = refl }

pub one_page : (p q : Contents) (bytes : List ℕ) → Spells p bytes → Spells q bytes → p ≡ q
one_page p q bytes s t = (page_same bytes (replicate (4096 - size p) 0) p q (page_again p bytes s) t).0
