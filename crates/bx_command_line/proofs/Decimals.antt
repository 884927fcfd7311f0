-- Words that are numbers.
use Rattle.std.proofs.Common.{◌≡◌, ℕ, ◌<◌, ◌^◌, List, Result, ap}
use Rattle.std.specs.Prelude.{Some, decimal}
use Rattle.std.specs.Result.{result_ok}
use Rattle.std.specs.Str.Parse.{ParsesUnsigned}
use Rattle.std.proofs.lemmas.Fmt.{parse-decimal}

-- a word that a number is written as is read as that number
pub reads_decimal : {E : Type 0} (word : List ℕ) (number : ℕ) (r : Result ℕ E) → number < 2 ^ 64 → word ≡ decimal number → ParsesUnsigned 64 10 word r → result_ok r ≡ Some number
reads_decimal word number r fits is parses = ap result_ok (parse-decimal 64 number word r fits fits is parses)
