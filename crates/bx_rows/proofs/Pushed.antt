-- What is put at the end, one after the other.
use Rattle.std.proofs.Common.{◌≡◌, ℕ, List, ◌++◌, append_assoc}
use Rattle.std.specs.Prelude.{Result, Ok, Err, OnOk}

-- what follows where a call didn't fail
pub on_ok : {T E : Type 0} (r : Result T E) (P Q : Type 0) → (P → Q) → OnOk r P → OnOk r Q
on_ok (Ok x) P Q f p = f p
on_ok (Err e) P Q f p = p

-- texts that are put at the end one after the other are one text
pub two : (old x1 x2 p1 new : List ℕ) → p1 ≡ old ++ x1 → new ≡ p1 ++ x2 → new ≡ old ++ (x1 ++ x2)
two old x1 x2 p1 new e1 e2 = rw (e2, e1) (append_assoc old x1 x2)

pub three : (old x1 x2 x3 p1 p2 new : List ℕ) → p1 ≡ old ++ x1 → p2 ≡ p1 ++ x2 → new ≡ p2 ++ x3 → new ≡ old ++ (x1 ++ (x2 ++ x3))
three old x1 x2 x3 p1 p2 new e1 e2 e3 = rw (e3, e2, e1) (simp append_assoc)

pub four : (old x1 x2 x3 x4 p1 p2 p3 new : List ℕ) → p1 ≡ old ++ x1 → p2 ≡ p1 ++ x2 → p3 ≡ p2 ++ x3 → new ≡ p3 ++ x4 → new ≡ old ++ (x1 ++ (x2 ++ (x3 ++ x4)))
four old x1 x2 x3 x4 p1 p2 p3 new e1 e2 e3 e4 = rw (e4, e3, e2, e1) (simp append_assoc)

pub five : (old x1 x2 x3 x4 x5 p1 p2 p3 p4 new : List ℕ) → p1 ≡ old ++ x1 → p2 ≡ p1 ++ x2 → p3 ≡ p2 ++ x3 → p4 ≡ p3 ++ x4 → new ≡ p4 ++ x5 → new ≡ old ++ (x1 ++ (x2 ++ (x3 ++ (x4 ++ x5))))
five old x1 x2 x3 x4 x5 p1 p2 p3 p4 new e1 e2 e3 e4 e5 = rw (e5, e4, e3, e2, e1) (simp append_assoc)
