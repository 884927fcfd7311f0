-- A packet is taken.
use Rattle.std.proofs.Common.{◌≡◌, ℕ, List, [], ◌++◌, Option, ap, ◌∙◌}
use Rattle.bx_post.specs.declared.packets.Letter.{Letter}
use Rattle.bx_lock_words.specs.declared.words.Word.{Word}
use Rattle.bx_clerk.specs.Clerks.{Clerking, Does, letters_of}
use Rattle.bx_clerk.specs.Events.{Hears, SaysOr, hear}

pub heard : (kind reading : ℕ) (body : List ℕ) (said : Option Word) (c new : Clerking) (x z : List Word) (before after : List Letter) → SaysOr kind body said → x ≡ [] → Does (hear reading said) c new x z → after ≡ before ++ letters_of c z → Hears c kind reading body new before after
heard kind reading body said c new x z before after says none did sends = record {
  said = said;
  says = says;
  is = did.is;
  sends = sends ∙ ap (λ (words : List Word). before ++ letters_of c words) (did.says ∙ ap (λ (words : List Word). words ++ (hear reading said c).1) none);
}
