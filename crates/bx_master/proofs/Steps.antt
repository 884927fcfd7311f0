-- Steps that are done one after the other.
use Rattle.std.proofs.Common.{◌≡◌, ℕ, ◌+◌, ◌≤◌, List, [], ◌∷◌, ◌++◌, length, drop, Option, sym, ap, ◌∙◌, append_assoc, append-nil}
use Rattle.std.proofs.lemmas.List.{drop_all}
use Rattle.bx_global.specs.declared.change.Change.{Change}
use Rattle.bx_global.specs.declared.state.GlobalState.{GlobalState}
use Rattle.bx_post.specs.declared.packets.Letter.{Letter}
use Rattle.bx_lock_words.specs.declared.words.Want.{Want}
use Rattle.bx_lock_words.specs.declared.words.Word.{Word}
use Rattle.bx_master.specs.Events.{catch_up, change_of, hear_as, marking, tick}
use Rattle.bx_master.specs.Masters.{Does, Mastering, Served, both}
use Rattle.bx_master.specs.Serving.{settling, settling_one}
use Rattle.bx_master.specs.Steps.{Hears, SaysOr, Ticks, letters_of}

-- one step, and then another
pub did_both : (f g : Mastering → Served) (a b c : Mastering) (x y z : List Word) → Does f a b x y → Does g b c y z → Does (both f g) a c x z
did_both f g a b c x y z first next = record {
  is = next.is ∙ ap (λ (m : Mastering). (g m).0) first.is;
  says = next.says ∙ rw (first.says, first.is) (append_assoc x (f a).1 (g (f a).0).1);
}

-- ---- the wants that wait, one after the other

-- of these wants the rest is left
pub record IsLeft (known : GlobalState) (reading : ℕ) (all rest : List Want) (old new : Mastering) (before after : List Word) : Type 0 where
  pub is : (settling known reading all old).0 ≡ (settling known reading rest new).0
  pub says : before ++ (settling known reading all old).1 ≡ after ++ (settling known reading rest new).1

pub one_tried : (known : GlobalState) (reading : ℕ) (w : Want) (ws : List Want) (old new : Mastering) (before after : List Word) → Does (settling_one known reading w) old new before after → IsLeft known reading (w ∷ ws) ws old new before after
one_tried known reading w ws old new before after did = record {
  is = ap (λ (m : Mastering). (settling known reading ws m).0) (sym did.is);
  says = rw (did.says, did.is) (sym (append_assoc before (settling_one known reading w old).1 (settling known reading ws (settling_one known reading w old).0).1));
}

pub next_tried : (known : GlobalState) (reading : ℕ) (all : List Want) (i : ℕ) (w : Want) (first old new : Mastering) (start before after : List Word) → drop i all ≡ w ∷ drop (i + 1) all → Does (settling_one known reading w) old new before after → IsLeft known reading all (drop i all) first old start before → IsLeft known reading all (drop (i + 1) all) first new start after
next_tried known reading all i w first old new start before after cut did left =
    let step = one_tried known reading w (drop (i + 1) all) old new before after did in
    record {
      is = left.is ∙ ap (λ (ws : List Want). (settling known reading ws old).0) cut ∙ step.is;
      says = left.says ∙ ap (λ (ws : List Want). before ++ (settling known reading ws old).1) cut ∙ step.says;
    }

pub all_tried : (known : GlobalState) (reading : ℕ) (all : List Want) (i : ℕ) (old new : Mastering) (before after : List Word) → length all ≤ i → IsLeft known reading all (drop i all) old new before after → Does (settling known reading all) old new before after
all_tried known reading all i old new before after done left =
    let none = drop_all i all done in
    record {
      is = sym (left.is ∙ ap (λ (ws : List Want). (settling known reading ws new).0) none);
      says = sym (left.says ∙ ap (λ (ws : List Want). after ++ (settling known reading ws new).1) none ∙ append-nil after);
    }

-- ---- an event

pub heard : (known : GlobalState) (kind reading : ℕ) (body : List ℕ) (said : Option Word) (m mid new : Mastering) (x y z : List Word) (before after : List Letter) → SaysOr kind body said → x ≡ [] → Does (catch_up known reading) m mid x y → Does (hear_as known reading said) mid new y z → after ≡ before ++ letters_of m.server known z → Hears m known kind reading body new before after
heard known kind reading body said m mid new x y z before after says none first next sends =
    let did = did_both (catch_up known reading) (hear_as known reading said) m mid new x y z first next in
    record {
      said = said;
      says = says;
      is = did.is;
      sends = sends ∙ ap (λ (words : List Word). before ++ letters_of m.server known words) (did.says ∙ ap (λ (words : List Word). words ++ (both (catch_up known reading) (hear_as known reading said) m).1) none);
    }

pub ticked : (known : GlobalState) (reading : ℕ) (m mid last new : Mastering) (x y z : List Word) (change : Option Change) (before after : List Letter) → x ≡ [] → Does (catch_up known reading) m mid x y → Does (tick known) mid last y z → change ≡ change_of known reading last → new ≡ marking change last → after ≡ before ++ letters_of m.server known z → Ticks m known reading new change before after
ticked known reading m mid last new x y z change before after none first next asks marks sends =
    let did = did_both (catch_up known reading) (tick known) m mid last x y z first next in
    record {
      asks = asks ∙ ap (λ (n : Mastering). change_of known reading n) did.is;
      is = marks ∙ ap (λ (n : Mastering). marking change n) did.is;
      sends = sends ∙ ap (λ (words : List Word). before ++ letters_of m.server known words) (did.says ∙ ap (λ (words : List Word). words ++ (both (catch_up known reading) (tick known) m).1) none);
    }
