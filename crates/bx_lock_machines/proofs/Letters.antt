-- Letters under way say what was said.
use Rattle.std.proofs.Common.{◌≡◌, ⊎_elim, List, [], ◌∷◌, ◌++◌, map, Contains, sym, ◌∙◌, ap, subst, append_assoc}
use Rattle.std.specs.List.{AllByRecursion}
use Rattle.std.proofs.lemmas.List.Elements.{Contains-append_cases}
use Rattle.bx_post.specs.declared.packets.Letter.{Letter}
use Rattle.bx_facts.proofs.Lists.{front_or_behind, nothing}
use Rattle.bx_lock_words.specs.Words.{IsWord, Spells, body_text, kind_of}
use Rattle.bx_lock_words.specs.declared.words.Word.{Word}
use Rattle.bx_lock_words.proofs.Spelled.{one_word}
use Rattle.bx_locking.specs.Words.{IsSaid}

-- what letters say was said
abbrev pub AreSaid : List Word → List Letter → Type 0
AreSaid said letters = (letter : Letter) (word : Word) → Contains letters letter → Spells word letter.kind letter.body → IsSaid said word

-- letters that say words which were said
pub letters_said : (said : List Word) (f : Word → Letter) → ((w : Word) → (f w).kind ≡ kind_of w) → ((w : Word) → (f w).body ≡ body_text w) → ((w : Word) → IsSaid said w → IsWord w) → (words : List Word)
    → AllByRecursion (λ (w : Word). IsSaid said w) words → AreSaid said (map f words)
letters_said said f kinds bodies fit [] all letter word has spells = absurd (nothing letter has)
letters_said said f kinds bodies fit (w ∷ words) all letter word has spells = ⊎_elim
    (λ newest.
    let own : Spells w letter.kind letter.body = subst (λ (l : Letter). Spells w l.kind l.body) newest (record { is = fit w all.0; kind_is = kinds w; body_is = bodies w }) in
    subst (λ (x : Word). IsSaid said x) (one_word w word letter.kind letter.body own spells) all.0)
    (λ old. letters_said said f kinds bodies fit words all.1 letter word old spells)
    (front_or_behind (f w) (map f words) letter has)

-- more was put out
pub letters_after : (said : List Word) (letters before after out : List Letter) → AreSaid said (letters ++ before) → AreSaid said out → after ≡ before ++ out → AreSaid said (letters ++ after)
letters_after said letters before after out old new is letter word has spells =
    let regrouped : letters ++ after ≡ (letters ++ before) ++ out = ap (λ (ls : List Letter). letters ++ ls) is ∙ sym (append_assoc letters before out) in
    ⊎_elim
    (λ earlier. old letter word earlier spells)
    (λ newer. new letter word newer spells)
    (Contains-append_cases (letters ++ before) out letter (subst (λ (ls : List Letter). Contains ls letter) regrouped has))
