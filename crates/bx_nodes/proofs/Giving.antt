-- What a node gives back in the rounds of a turn, and what it wants behind them.
use Rattle.std.proofs.Common.{◌≡◌, ◌⊎◌, ⊎_elim, inl, inr, ◌∙◌, ℕ, ◌<◌, ◌≤◌, Bool, true, false, List, [], ◌∷◌, ◌++◌, Contains, Option, Some, None, IfSome, IsSome, refl, sym, ap, subst, arith}
use Rattle.std.specs.Prelude.{◌&&◌, ◌||◌, ◌==◌, if◌then◌else◌, max, nat_le}
use Rattle.std.proofs.lemmas.Bool.Decides.{nat_tests}
use Rattle.bx_base.specs.declared.names.Mode.{Mode}
use Rattle.bx_facts.proofs.Lists.{behind, front, front_or_behind, nothing}
use Rattle.bx_facts.specs.Holds.{Hold, first_of}
use Rattle.bx_node_steps.specs.Changing.{LetsGo}
use Rattle.bx_node_steps.specs.Gives.{MayKeep, newest, since, since_mark, waits_since}
use Rattle.bx_node_steps.specs.declared.machine.Machine.{Machine}
use Rattle.bx_node_steps.specs.declared.machine.Mark.{Mark}
use Rattle.bx_node_tries.specs.Tries.{is_attempted}
use Rattle.bx_node_tries.specs.declared.round.Waiting.{Waiting}
use Rattle.bx_nodes.specs.Giving.{AreWanted, GivesBack, GivesUp, IsInNeeds, MayGive}
use Rattle.bx_nodes.specs.Giving.AreWanted.{NoMore, OneMore}
use Rattle.bx_nodes.specs.Giving.GivesBack.{Gives, Stays}
use Rattle.bx_facts.specs.declared.owners.Owners as owners

-- ---- fewer calls wait: what might be given back still may

-- each of some calls is one of these
abbrev pub AreOf : List Waiting → List Waiting → Type 0
AreOf calls few = (call : Waiting) → Contains few call → Contains calls call

none_since : (last : ℕ) (calls : List Waiting) → waits_since last calls ≡ false → (call : Waiting) → Contains calls call → (nat_le call.number last && is_attempted call) ≡ false
none_since last [] none call has = absurd (nothing call has)
none_since last (first ∷ rest) none call has = ⊎_elim
    (λ is. subst (λ (w : Waiting). (nat_le w.number last && is_attempted w) ≡ false) is (by (nat_le first.number last && is_attempted first) (waits_since last rest) none).0)
    (λ more. none_since last rest (by (nat_le first.number last && is_attempted first) (waits_since last rest) none).1 call more)
    (front_or_behind first rest call has)
  where
    by : (a b : Bool) → (a || b) ≡ false → (a ≡ false) × (b ≡ false)
    by true b is = absurd cc
    by false b is = (refl, is)

since_none : (last : ℕ) (calls : List Waiting) → ((call : Waiting) → Contains calls call → (nat_le call.number last && is_attempted call) ≡ false) → waits_since last calls ≡ false
since_none last [] each = refl
since_none last (first ∷ rest) each =
    ap (λ (b : Bool). b || waits_since last rest) (each first (front first rest)) ∙ since_none last rest (λ call has. each call (behind first rest call has))

newest_most : (calls : List Waiting) (call : Waiting) → Contains calls call → call.number ≤ newest calls
newest_most [] call has = absurd (nothing call has)
newest_most (first ∷ rest) call has = ⊎_elim
    (λ is. subst (λ (w : Waiting). w.number ≤ max first.number (newest rest)) is (omega arith))
    (λ more. let low = newest_most rest call more in omega (arith, low))
    (front_or_behind first rest call has)

fewer_since : (last : ℕ) (calls few : List Waiting) → AreOf calls few → waits_since last calls ≡ false → waits_since last few ≡ false
fewer_since last calls few of none = since_none last few (λ call has. none_since last calls none call (of call has))

fewer_newest : (calls few : List Waiting) → AreOf calls few → waits_since (newest calls) calls ≡ false → waits_since (newest few) few ≡ false
fewer_newest calls few of none = since_none (newest few) few
    (λ call has. by (nat_le call.number (newest calls)) (is_attempted call) (nat_le call.number (newest few)) (most call (of call has)) (none_since (newest calls) calls none call (of call has)))
  where
    most : (call : Waiting) → Contains calls call → nat_le call.number (newest calls) ≡ true
    most call has = let low = newest_most calls call has in grind (arith, nat_tests, low)

    by : (a b d : Bool) → a ≡ true → (a && b) ≡ false → (d && b) ≡ false
    by true true d is none_is = absurd cc
    by true false true is none_is = refl
    by true false false is none_is = refl
    by false b d is none_is = absurd cc

still_free : (block asking : ℕ) (mark : Option Mark) (calls few : List Waiting) → AreOf calls few → waits_since (since_mark block asking calls mark) calls ≡ false → waits_since (since_mark block asking few mark) few ≡ false
still_free block asking None calls few of none = fewer_newest calls few of none
still_free block asking (Some mark) calls few of none = by ((mark.block == block) && (mark.asking == asking)) none
  where
    by : (b : Bool) → waits_since (if b then mark.last else newest calls) calls ≡ false → waits_since (if b then mark.last else newest few) few ≡ false
    by true is = fewer_since mark.last calls few of is
    by false is = fewer_newest calls few of is

-- a machine at which only these calls wait
abbrev pub with_calls : Machine → Machine → Machine
with_calls m machine = record machine { calls = m.calls }

still_may : (hold : Option Hold) (session : ℕ) (asked : ℕ × ℕ) (m a : Machine) → AreOf a.calls.items m.calls.items → MayGive hold session asked a → MayGive hold session asked (with_calls m a)
still_may hold session asked m a of may = record { held = may.held; free = ⊎_elim (λ earlier. inl earlier) (λ none. inr (still_free asked.0 asked.1 a.mark a.calls.items m.calls.items of none)) may.free }

goes_with : (at : ℕ) (m a b : Machine) → LetsGo at a b → LetsGo at (with_calls m a) (with_calls m b)
goes_with at m a b goes = record {
  only = ap (λ (x : Machine). with_calls m x) goes.only;
  same = goes.same;
  kept = goes.kept;
  hint = goes.hint;
  hints = goes.hints;
  is_block = goes.is_block;
}

-- ---- one round behind the other

module _ {O : Type 0} (o : owners.Ghosts O) (node session : ℕ) where
  pub gives_on : (m : Machine) (back more : List ℕ) (old between new : O) (a b c : Machine) → GivesBack o node session back old a between b → AreOf a.calls.items m.calls.items
      → GivesBack o node session more between (with_calls m b) new c → GivesBack o node session (back ++ more) old (with_calls m a) new c
  gives_on m back more old between new a b c (Stays is machine stays) of second = second
  gives_on m back more old between new a b c (Gives asked rest first middle last x y z is may up goes first_gives) of second =
      Gives asked (rest ++ more) old middle new (with_calls m a) (with_calls m y) c is (still_may (o.hold old node asked.0) session asked m a of may) up (goes_with asked.0 m a y goes)
      (gives_on m rest more middle between new y b c first_gives (subst (λ (l : List Waiting). AreOf l m.calls.items) (sym (ap (λ (x : Machine). x.calls.items) goes.only)) of) second)

  -- .. of a node where it is
  abbrev pub GivesThere : O → Option Machine → O → Option Machine → Type 0
  GivesThere old was new is = IfSome was (λ a. IfSome is (λ b. (back : List ℕ) × GivesBack o node session back old a new b))

  pub stays_there : (is : O) (found : Option Machine) → IfSome (first_of (o.asks is node)) (λ asked. MayKeep (o.hold is node asked.0) session asked found) → GivesThere is found is found
  stays_there is None may = tt
  stays_there is (Some machine) may = ([], Stays is machine may)

  pub gives_there : (asked : ℕ × ℕ) (old middle new : O) (was between last : Option Machine) → (between ≡ None → ⊥) → first_of (o.asks old node) ≡ Some asked → IsSome (o.hold old node asked.0)
      → IfSome was (λ machine. (asked.1 < session) ⊎ (waits_since (since asked.0 asked.1 machine) machine.calls.items ≡ false)) → GivesUp o node asked.0 old middle → IfSome was (λ a. IfSome between (LetsGo asked.0 a))
      → GivesThere middle between new last → GivesThere old was new last
  gives_there asked old middle new None between last some is held free up goes rest = tt
  gives_there asked old middle new (Some a) None last some is held free up goes rest = absurd (some refl)
  gives_there asked old middle new (Some a) (Some b) None some is held free up goes rest = tt
  gives_there asked old middle new (Some a) (Some b) (Some c) some is held free up goes rest = (asked.0 ∷ rest.0, Gives asked rest.0 old middle new a b c is (record { held = held; free = free }) up goes rest.1)

-- ---- what is wanted

module _ {O : Type 0} (o : owners.Ghosts O) (node : ℕ) where
  pub wanted_as : (IsOne IsOther : ℕ → Mode → Type 0) → ((at : ℕ) (mode : Mode) → IsOne at mode → IsOther at mode) → (old new : O) → AreWanted o node IsOne old new → AreWanted o node IsOther old new
  wanted_as IsOne IsOther leads old new (NoMore is) = NoMore is
  wanted_as IsOne IsOther leads old new (OneMore at mode first middle last one none weaker grants asks more) = OneMore at mode old middle new (leads at mode one) none weaker grants asks (wanted_as IsOne IsOther leads middle new more)

  pub wanted_then : (IsOne : ℕ → Mode → Type 0) (old middle new : O) → AreWanted o node IsOne old middle → AreWanted o node IsOne middle new → AreWanted o node IsOne old new
  wanted_then IsOne old middle new (NoMore is) second = second
  wanted_then IsOne old middle new (OneMore at mode first between last one none weaker grants asks more) second = OneMore at mode old between new one none weaker grants asks (wanted_then IsOne between middle new more second)

  pub wanted_none : (IsOne : ℕ → Mode → Type 0) (old new : O) → new ≡ old → AreWanted o node IsOne old new
  wanted_none IsOne old new same = subst (λ (w : O). AreWanted o node IsOne old w) (sym same) (NoMore old)

-- .. of those that one call needs, or all
pub among_needs : (wants : List (ℕ × Mode)) (needs : List (List (ℕ × Mode))) (at : ℕ) (mode : Mode) → Contains wants (at, mode) → IsInNeeds (wants ∷ needs) at mode
among_needs wants needs at mode has = (wants, front wants needs, has)

pub among_more : (wants : List (ℕ × Mode)) (needs : List (List (ℕ × Mode))) (at : ℕ) (mode : Mode) → IsInNeeds needs at mode → IsInNeeds (wants ∷ needs) at mode
among_more wants needs at mode (some, there, has) = (some, behind wants needs some there, has)
