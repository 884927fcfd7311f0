-- One answer more.
use Rattle.std.proofs.Common.{◌≡◌, ◌⊎◌, ◌∙◌, ℕ, Bool, Option, List, [], ◌∷◌, ◌++◌, refl, sym, ap, subst}
use Rattle.std.specs.Prelude.{reverse}
use Rattle.std.specs.List.{AllByRecursion}
use Rattle.std.proofs.Common.{All, Contains}
use Rattle.std.proofs.lemmas.List.{reverse-append}
use Rattle.std.proofs.lemmas.List.Elements.{All-push, All-weaker, Contains-append_left, Contains-push}
use Rattle.bx_node_tries.specs.Tries.{AreNeeded, LeadsBack, LedTo, MayWait, deed_said}
use Rattle.bx_node_tries.specs.Tries.MayWait.{Changes, Newer, Over, Wants}
use Rattle.bx_node_tries.specs.declared.round.Said.{Said}
use Rattle.bx_node_tries.specs.declared.round.Waiting.{Waiting}
use Rattle.bx_base.specs.declared.names.Mode.{Mode}
use Rattle.bx_views.specs.declared.engine.Engine as engine
use Rattle.bx_views.specs.Attempts.{Acts, Deed}
use Rattle.bx_views.specs.Truths.{Held, Hints, Truth}
use Rattle.bx_views.specs.declared.attempt.Done.{Done}

pub led_more : {T : Type 0} (Stands : Truth → Hints → T → Type 0) (Step : T → Deed → T → Type 0) (free : ℕ) (truth : Truth) (first : T) (old new : List Said) (said : Said) (done : Done)
    → (led : LedTo Stands Step free truth first old) → Acts Stands Step free (deed_said said) done truth [] led.last → said.point.spare ≡ done.spare → new ≡ old ++ said ∷ []
    → LedTo Stands Step free truth first new
led_more {T = T} Stands Step free truth first old new said done led acts same is = record {
  last = acts.next;
  leads = subst (λ (l : List Said). LeadsBack Step first l acts.next) (sym front) (led.last, led.leads, acts.step);
  all = λ hints stood. acts.leads.each hints (led.all hints stood);
  spares = subst (λ (l : List Said). AllByRecursion (λ one. (one.point.spare ≡ 8) ⊎ (one.point.spare ≡ free)) l) (sym front)
      (subst (λ (n : ℕ). (n ≡ 8) ⊎ (n ≡ free)) (sym same) acts.spare, led.spares);
}
  where
    front : reverse new ≡ said ∷ reverse old
    front = ap (λ (l : List Said). reverse l) is ∙ reverse-append old (said ∷ [])

-- Nothing is answered yet.
pub none_led : {T : Type 0} (Stands : Truth → Hints → T → Type 0) (Step : T → Deed → T → Type 0) (free : ℕ) (truth : Truth) (tree : T) (said : List Said) → said ≡ [] → LedTo Stands Step free truth tree said
none_led Stands Step free truth tree said is = subst (λ (l : List Said). LedTo Stands Step free truth tree l) (sym is) (record { last = tree; leads = refl; all = λ hints stood. stood; spares = tt })

-- What holds of each item by what was told holds of each, and of one more, by what is told then.
pub all_told : {A B : Type 0} (P : List B → A → Type 0) (items later : List A) (item : A) (told then : List B) (one : B) → later ≡ items ++ item ∷ [] → then ≡ told ++ one ∷ []
    → ((a : A) → ((b : B) → Contains told b → Contains (told ++ one ∷ []) b) → P told a → P (told ++ one ∷ []) a) → (Contains (told ++ one ∷ []) one → P (told ++ one ∷ []) item) → All (P told) items → All (P then) later
all_told P items later item told then one more tells leads new all =
    subst (λ bs. All (P bs) later) (sym tells)
    (subst (λ xs. All (P (told ++ one ∷ [])) xs) (sym more)
    (All-push (P (told ++ one ∷ [])) items item (All-weaker (P told) (P (told ++ one ∷ [])) (λ a. leads a (λ b has. Contains-append_left told (one ∷ []) b has)) items all) (new (Contains-push told one))))

-- Why a call waits on it may wait on where more is told.
pub more_told : {E T : Type 0} (e : engine.Ghosts E T) (engine_is : E) (held : Held) (hints : Hints) (moment : ℕ) (newest : Option ℕ) (may_begin : Bool) (told then : List (List (ℕ × Mode))) (call : Waiting)
    → ((wants : List (ℕ × Mode)) → Contains told wants → Contains then wants) → MayWait e engine_is held hints moment newest may_begin told call → MayWait e engine_is held hints moment newest may_begin then call
more_told e engine_is held hints moment newest may_begin told then call more (Over is) = Over is
more_told e engine_is held hints moment newest may_begin told then call more (Newer is) = Newer is
more_told e engine_is held hints moment newest may_begin told then call more (Wants wants tried there) = Wants wants tried (more wants there)
more_told e engine_is held hints moment newest may_begin told then call more (Changes attempt may changes tried) = Changes attempt may changes tried

-- One more of which it holds.
pub one_more : {A : Type 0} (P : A → Type 0) (items later : List A) (item : A) → later ≡ items ++ item ∷ [] → P item → All P items → All P later
one_more P items later item more new all = subst (λ xs. All P xs) (sym more) (All-push P items item all new)

-- What is needed by one of the calls that wait is needed by one of them where one more waits.
pub still_needed : {E T : Type 0} (e : engine.Ghosts E T) (engine_is : E) (held : Held) (hints : Hints) (moment : ℕ) (waiting later : List Waiting) (call : Waiting) (needs : List (List (ℕ × Mode))) → later ≡ waiting ++ call ∷ []
    → All (AreNeeded e engine_is held hints moment waiting) needs → All (AreNeeded e engine_is held hints moment later) needs
still_needed e engine_is held hints moment waiting later call needs more all =
    subst (λ (l : List Waiting). All (AreNeeded e engine_is held hints moment l) needs) (sym more)
    (All-weaker (AreNeeded e engine_is held hints moment waiting) (AreNeeded e engine_is held hints moment (waiting ++ call ∷ []))
    (λ wants was. record { call = was.call; waits = Contains-append_left waiting (call ∷ []) was.call was.waits; tried = was.tried }) needs all)
