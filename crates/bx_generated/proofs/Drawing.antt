-- The generator behind the draws of calls.
use Rattle.std.proofs.Common.{◌≡◌, ℕ, suc, ◌+◌, ◌*◌, refl, arith}
use Rattle.rand_pcg.specs.Lcg.{Lcg}
use Rattle.bx_generated.specs.Draws.{after_five, after_words}

pub none_drawn : (generator : Lcg) → after_words (5 * 0) generator ≡ generator
unfolding after_words
none_drawn generator = refl

pub one_drawn : (generator : Lcg) → after_words (5 * 1) generator ≡ after_five generator
unfolding after_words
one_drawn generator = refl

pub next_drawn : (calls : ℕ) (generator : Lcg) → after_words (5 * (calls + 1)) generator ≡ after_five (after_words (5 * calls) generator)
unfolding after_words
next_drawn calls generator =
    let five : 5 * (calls + 1) ≡ suc (suc (suc (suc (suc (5 * calls))))) = omega arith in
    rw five refl
