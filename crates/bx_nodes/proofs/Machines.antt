-- Machines in their list, and how they are seen.
use Rattle.std.proofs.Common.{◌≡◌, ◌≢◌, ◌∙◌, ℕ, zero, suc, ◌<◌, List, [], ◌∷◌, length, Option, Some, None, IfSome, refl, sym, ap, subst, arith}
use Rattle.std.specs.Prelude.{IfOk, OnOk, Result, Ok, Err, false, is_some, option_map, slice_get, slice_set}
use Rattle.bx_node_machines.specs.Machines.{MachineView}
use Rattle.bx_node_steps.specs.Seen.{seen, view_of}
use Rattle.bx_nodes.specs.Asks.{OnlyHolds}
use Rattle.bx_node_steps.specs.declared.machine.Machine.{Machine}
use Rattle.bx_node_steps.specs.declared.machine.Stage.TheVariants.{Idle}

-- A machine that is seen as before.
pub seen_same : (items : List Machine) (i : ℕ) (before after : Machine) → slice_get items i ≡ Some before → view_of after ≡ view_of before → seen (slice_set items i after) ≡ seen items
seen_same [] i before after is same = absurd cc
seen_same (one ∷ items) zero before after is same = ap (λ (v : MachineView). v ∷ seen items) (same ∙ ap (λ (m : Option Machine). view_in m) (sym is))
  where
    view_in : Option Machine → MachineView
    view_in None = view_of before
    view_in (Some m) = view_of m
seen_same (one ∷ items) (suc i) before after is same = ap (λ (l : List MachineView). view_of one ∷ l) (seen_same items i before after is same)

pub seen_there : (items : List Machine) (i : ℕ) (machine : Machine) → slice_get items i ≡ Some machine → slice_get (seen items) i ≡ Some (view_of machine)
seen_there [] i machine is = absurd cc
seen_there (one ∷ items) zero machine is = ap (λ (m : Option Machine). map_view m) is
  where
    map_view : Option Machine → Option MachineView
    map_view None = None
    map_view (Some m) = Some (view_of m)
seen_there (one ∷ items) (suc i) machine is = seen_there items i machine is

pub set_here : (items : List Machine) (i : ℕ) (after before : Machine) → slice_get items i ≡ Some before → slice_get (slice_set items i after) i ≡ Some after
set_here [] i after before is = absurd cc
set_here (one ∷ items) zero after before is = refl
set_here (one ∷ items) (suc i) after before is = set_here items i after before is

pub set_there : (items : List Machine) (i other : ℕ) (after : Machine) → other ≢ i → slice_get (slice_set items i after) other ≡ slice_get items other
set_there [] i other after ne = refl
set_there (one ∷ items) zero zero after ne = absurd (ne refl)
set_there (one ∷ items) zero (suc other) after ne = refl
set_there (one ∷ items) (suc i) zero after ne = refl
set_there (one ∷ items) (suc i) (suc other) after ne = set_there items i other after (λ e. ne (ap suc e))

pub set_length : (items : List Machine) (i : ℕ) (after : Machine) → length (slice_set items i after) ≡ length items
set_length [] i after = refl
set_length (one ∷ items) zero after = refl
set_length (one ∷ items) (suc i) after = ap suc (set_length items i after)

-- What is seen of a machine is seen of it in its place.
pub seen_at : (items : List Machine) (i : ℕ) → slice_get (seen items) i ≡ option_map view_of (slice_get items i)
seen_at [] i = refl
seen_at (one ∷ items) zero = refl
seen_at (one ∷ items) (suc i) = seen_at items i

pub seen_others : (items later : List Machine) (i : ℕ) → slice_get later i ≡ slice_get items i → slice_get (seen later) i ≡ slice_get (seen items) i
seen_others items later i same = seen_at later i ∙ ap (λ (m : Option Machine). option_map view_of m) same ∙ sym (seen_at items i)

-- There is a machine in each place.
pub there_is : (items : List Machine) (i : ℕ) → i < length items → (machine : Machine) × (slice_get items i ≡ Some machine)
there_is [] i less = absurd (omega (arith, less))
there_is (one ∷ items) zero less = (one, refl)
there_is (one ∷ items) (suc i) less = there_is items i (omega (arith, less))

pub is_some_there : (items : List Machine) (i : ℕ) → i < length items → slice_get items i ≡ None → ⊥
is_some_there items i less none = let there = there_is items i less in let wrong : Some there.0 ≡ None = sym there.1 ∙ none in cc

-- How many calls wait at a node.
abbrev pub count_waiting : Option Machine → ℕ
count_waiting None = 0
count_waiting (Some machine) = length machine.calls.items

-- Two facts of one outcome.
pub both_ok : {T E : Type 0} (P Q : Type 0) (r : Result T E) → OnOk r P → OnOk r Q → OnOk r (P × Q)
both_ok P Q (Ok x) p q = (p, q)
both_ok P Q (Err e) p q = tt

pub if_ok_so : {T E : Type 0} (P Q : T → Type 0) (r : Result T E) → ((x : T) → P x → Q x) → IfOk r P → IfOk r Q
if_ok_so P Q (Ok x) leads p = leads x p
if_ok_so P Q (Err e) leads p = tt

pub ok_so : {T E : Type 0} (P : Type 0) (r : Result T E) → P → OnOk r P
ok_so P (Ok x) p = p
ok_so P (Err e) p = tt

pub each_ok : {A T E : Type 0} (P : A → Type 0) (r : Result T E) → ((a : A) → OnOk r (P a)) → OnOk r ((a : A) → P a)
each_ok P (Ok x) p = p
each_ok P (Err e) p = tt

pub on_each : {T E : Type 0} (P Q : Type 0) (r : Result T E) → (P → OnOk r Q) → OnOk r (P → Q)
on_each P Q (Ok x) leads = leads
on_each P Q (Err e) leads = tt

-- A node of which only what it has of blocks changed rests as before, under the same session.
pub rests_then : (old new : Option Machine) → (old ≡ None → ⊥) → IfSome old (λ a. IfSome new (OnlyHolds a)) → IfSome old (λ machine. machine.stage ≡ Idle) → IfSome new (λ machine. machine.stage ≡ Idle)
rests_then None new some only rests = absurd (some refl)
rests_then (Some a) None some only rests = tt
rests_then (Some a) (Some b) some only rests = ap (λ (m : Machine). m.stage) only ∙ rests

pub under_then : (old new : Option Machine) (session : ℕ) → (old ≡ None → ⊥) → IfSome old (λ a. IfSome new (OnlyHolds a)) → IfSome old (λ machine. machine.session ≡ Some session) → IfSome new (λ machine. machine.session ≡ Some session)
under_then None new session some only mine = absurd (some refl)
under_then (Some a) None session some only mine = tt
under_then (Some a) (Some b) session some only mine = ap (λ (m : Machine). m.session) only ∙ mine

-- So one change behind the other.
pub only_then : (a b c : Machine) → OnlyHolds a b → OnlyHolds b c → OnlyHolds a c
only_then a b c one two = two ∙ ap (λ (m : Machine). record m { cache = c.cache; fetch = c.fetch }) one

pub only_both : (old middle new : Option Machine) → (middle ≡ None → ⊥) → IfSome old (λ a. IfSome middle (OnlyHolds a)) → IfSome middle (λ a. IfSome new (OnlyHolds a)) → IfSome old (λ a. IfSome new (OnlyHolds a))
only_both None middle new some one two = tt
only_both (Some a) None new some one two = absurd (some refl)
only_both (Some a) (Some b) None some one two = tt
only_both (Some a) (Some b) (Some c) some one two = only_then a b c one two

pub only_same : (found : Option Machine) → IfSome found (λ a. IfSome found (OnlyHolds a))
only_same None = tt
only_same (Some a) = refl

pub if_new : (old new : Option Machine) (Q : Machine → Machine → Type 0) (R : Machine → Type 0) → (old ≡ None → ⊥) → ((a b : Machine) → Q a b → R b) → IfSome old (λ a. IfSome new (Q a)) → IfSome new R
if_new None new Q R some leads q = absurd (some refl)
if_new (Some a) None Q R some leads q = tt
if_new (Some a) (Some b) Q R some leads q = leads a b q

pub if_all : (found : Option Machine) (P : Machine → Type 0) → ((a : Machine) → P a) → IfSome found P
if_all None P leads = tt
if_all (Some a) P leads = leads a

pub if_later : (old new : Option Machine) (P : Machine → Type 0) → IfSome new P → IfSome old (λ a. IfSome new P)
if_later None new P p = tt
if_later (Some a) new P p = p

pub if_self : (found : Option Machine) (Q : Machine → Machine → Type 0) → ((a : Machine) → Q a a) → IfSome found (λ a. IfSome found (Q a))
if_self None Q leads = tt
if_self (Some a) Q leads = leads a

-- What is said of a machine before and then follows from what is said of it before, and of both.
pub if_two : (old new : Option Machine) (R : Machine → Type 0) (P Q : Machine → Machine → Type 0) → ((a b : Machine) → R a → P a b → Q a b) → IfSome old R → IfSome old (λ a. IfSome new (P a)) → IfSome old (λ a. IfSome new (Q a))
if_two None new R P Q leads r p = tt
if_two (Some a) None R P Q leads r p = tt
if_two (Some a) (Some b) R P Q leads r p = leads a b r p

pub if_both : (old new : Option Machine) (P Q : Machine → Machine → Type 0) → ((a b : Machine) → P a b → Q a b) → IfSome old (λ a. IfSome new (P a)) → IfSome old (λ a. IfSome new (Q a))
if_both None new P Q leads p = tt
if_both (Some a) None P Q leads p = tt
if_both (Some a) (Some b) P Q leads p = leads a b p

pub if_and : (old new : Option Machine) (P Q : Machine → Machine → Type 0) → IfSome old (λ a. IfSome new (P a)) → IfSome old (λ a. IfSome new (Q a)) → IfSome old (λ a. IfSome new (λ b. P a b × Q a b))
if_and None new P Q p q = tt
if_and (Some a) None P Q p q = tt
if_and (Some a) (Some b) P Q p q = (p, q)

-- What is said of a machine before, between and then.
pub if_between : (old middle new : Option Machine) (P Q R : Machine → Machine → Type 0) → (middle ≡ None → ⊥) → ((a b c : Machine) → P a b → Q b c → R a c) → IfSome old (λ a. IfSome middle (P a)) → IfSome middle (λ a. IfSome new (Q a))
    → IfSome old (λ a. IfSome new (R a))
if_between None middle new P Q R some leads p q = tt
if_between (Some a) None new P Q R some leads p q = absurd (some refl)
if_between (Some a) (Some b) None P Q R some leads p q = tt
if_between (Some a) (Some b) (Some c) P Q R some leads p q = leads a b c p q

pub if_then : (old new : Option Machine) (P : Machine → Type 0) (Q : Machine → Machine → Type 0) (R : Machine → Type 0) → (old ≡ None → ⊥) → ((a b : Machine) → P a → Q a b → R b) → IfSome old P → IfSome old (λ a. IfSome new (Q a)) → IfSome new R
if_then None new P Q R some leads p q = absurd (some refl)
if_then (Some a) None P Q R some leads p q = tt
if_then (Some a) (Some b) P Q R some leads p q = leads a b p q

pub if_same : (found : Option Machine) (R : Machine → Type 0) (Q : Machine → Machine → Type 0) → ((a : Machine) → R a → Q a a) → IfSome found R → IfSome found (λ a. IfSome found (Q a))
if_same None R Q leads r = tt
if_same (Some a) R Q leads r = leads a r

pub none_of : {A : Type 0} (found : Option A) → is_some found ≡ false → found ≡ None
none_of None is = refl
none_of (Some a) is = absurd cc

-- What holds of the machine that is put there.
pub put_there : (Holds : Machine → Type 0) (items : List Machine) (i : ℕ) (after before : Machine) → slice_get items i ≡ Some before → Holds after → IfSome (slice_get (slice_set items i after) i) Holds
put_there Holds items i after before is holds = subst (λ (m : Option Machine). IfSome m Holds) (sym (set_here items i after before is)) holds

pub was_there : (Holds : Machine → Type 0) (found : Option Machine) (before : Machine) → found ≡ Some before → Holds before → IfSome found Holds
was_there Holds found before is holds = subst (λ (m : Option Machine). IfSome m Holds) (sym is) holds

pub of_there : (Holds : Machine → Type 0) (found : Option Machine) (before : Machine) → found ≡ Some before → IfSome found Holds → Holds before
of_there Holds found before is holds = subst (λ (m : Option Machine). IfSome m Holds) is holds

pub both_there : (Says : Machine → Machine → Type 0) (old new : Option Machine) (before after : Machine) → old ≡ Some before → new ≡ Some after → Says before after → IfSome old (λ a. IfSome new (Says a))
both_there Says old new before after was is says = was_there (λ (m : Machine). IfSome new (Says m)) old before was (was_there (Says before) new after is says)

pub two_there : (Says : Machine → Machine → Type 0) (old new : Option Machine) (before after : Machine) → old ≡ Some before → new ≡ Some after → IfSome old (λ a. IfSome new (Says a)) → Says before after
two_there Says old new before after was is says = of_there (Says before) new after is (of_there (λ (m : Machine). IfSome new (Says m)) old before was says)

-- What follows of what was found follows where it was.
pub if_some : {A : Type 0} (found : Option A) (P Q : A → Type 0) → ((a : A) → P a → Q a) → IfSome found P → IfSome found Q
if_some None P Q leads is = tt
if_some (Some a) P Q leads is = leads a is
