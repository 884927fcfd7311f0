-- What is found, or not.
use Rattle.std.proofs.Common.{◌≡◌, ℕ, zero, suc, ◌<◌, Option, Some, None, true, false, arith, subst, refl}
use Rattle.std.specs.Prelude.{IfNone, IfSome, IsSome}

pub none_weaker : {T : Type 0} (P Q : Type 0) (found : Option T) → (P → Q) → IfNone found P → IfNone found Q
none_weaker P Q None to is = to is
none_weaker P Q (Some x) to is = is

pub some_weaker : {T : Type 0} (P Q : T → Type 0) (found : Option T) → ((x : T) → P x → Q x) → IfSome found P → IfSome found Q
some_weaker P Q None to is = is
some_weaker P Q (Some x) to is = to x is

-- none is found where there are none
pub none_found : {T : Type 0} (count : ℕ) (found : Option T) → found ≡ None → (0 < count → IsSome found) → count ≡ 0
none_found zero found is some = refl
none_found (suc count) found is some = let there : false ≡ true = subst IsSome is (some (omega arith)) in absurd cc
