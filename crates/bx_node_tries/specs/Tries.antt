-- What comes of the calls that wait, once each is attempted over one view.
use Rattle.std.specs.Prelude.{◌≡◌, ◌⊎◌, ℕ, Bool, true, false, not, ◌&&◌, nat_lt, List, [], ◌∷◌, ◌++◌, reverse, Contains, Option, None, Some, IsSomeAnd}
use Rattle.std.specs.List.{AllByRecursion}
use Rattle.bx_base.specs.declared.names.Mode.{Mode}
use Rattle.bx_node_tries.specs.declared.round.Begun.{Begun}
use Rattle.bx_node_tries.specs.declared.round.Round.{Round}
use Rattle.bx_node_tries.specs.declared.round.Said.{Said}
use Rattle.bx_node_tries.specs.declared.round.Waiting.{Waiting}
use Rattle.bx_views.specs.declared.engine.Engine as engine
use Rattle.bx_views.specs.Attempts.{Deed, Gives, IsFair}
use Rattle.bx_views.specs.Truths.{Held, Hints, IsTruth, Truth}
use Rattle.bx_views.specs.declared.attempt.Attempt.{Attempt}
use Rattle.bx_views.specs.declared.attempt.Attempt.TheVariants.{Need, Change, Inner, Answer}

-- the deed of an answer
abbrev pub deed_said : Said → Deed
deed_said said = record { client = said.client; call = said.call; moment = said.point.moment; spare = said.point.spare; made = said.point.made; reply = said.reply }

-- The answers, the newest first, lead from the one tree to the other.
abbrev pub LeadsBack : {T : Type 0} → (T → Deed → T → Type 0) → T → List Said → T → Type 0
LeadsBack Step first [] last = last ≡ first
LeadsBack {T = T} Step first (said ∷ earlier) last = (middle : T) × LeadsBack Step first earlier middle × Step middle (deed_said said) last

-- The answers, the oldest first, lead to a tree for which the truth stands, with all hints that agreed; each tells how many blocks are free, or 8.
pub record LedTo {T : Type 0} (Stands : Truth → Hints → T → Type 0) (Step : T → Deed → T → Type 0) (free : ℕ) (truth : Truth) (first : T) (said : List Said) : Type 0 where
  pub last : T
  pub leads : LeadsBack Step first (reverse said) last
  pub all : (hints : Hints) → Stands truth hints first → Stands truth hints last
  pub spares : AllByRecursion (λ one. (one.point.spare ≡ 8) ⊎ (one.point.spare ≡ free)) (reverse said)

-- blocks are changed
abbrev pub IsChange : Attempt → Type 0
IsChange (Need wants) = ⊥
IsChange (Change draft done) = Unit {0}
IsChange (Inner draft) = Unit {0}
IsChange (Answer done) = ⊥

-- a call is attempted still: nothing of it may have been written in a session that ended, and blocks weren't written first for it too often
abbrev pub is_attempted : Waiting → Bool
is_attempted call = not call.is_over && nat_lt call.inners 200000

-- a call is newer than this number, where there is one
abbrev pub is_newer : Option ℕ → ℕ → Bool
is_newer None number = false
is_newer (Some newest) number = nat_lt newest number

module _ {E T : Type 0} (e : engine.Ghosts E T) (engine_is : E) (held : Held) (hints : Hints) (moment : ℕ) where
  -- What an engine promises of an attempt of a call: what it gives over each truth that agrees with the view, and which blocks it may want or change.
  pub record Tried (call : Waiting) (attempt : Attempt) : Type 0 where
    pub gives : (truth : Truth) (tree : T) → IsTruth held truth → e.stands engine_is truth hints tree → Gives (e.stands engine_is) (e.step engine_is) (e.free engine_is truth) call.client call.message moment truth tree attempt
    pub fair : IsFair (e.areas engine_is) held (e.path engine_is call.client call.message held hints) attempt

  -- Why a call waits on: it is attempted no more; or it is newer than those that are attempted now; or its attempt over the view wants blocks, which are among
  -- these; or it changes some, where no record may be begun.
  pub data MayWait (newest : Option ℕ) (may_begin : Bool) (needs : List (List (ℕ × Mode))) (call : Waiting) : Type 0 where
    Over : is_attempted call ≡ false → MayWait newest may_begin needs call
    Newer : is_newer newest call.number ≡ true → MayWait newest may_begin needs call
    Wants : (wants : List (ℕ × Mode)) → Tried call (Need wants) → Contains needs wants → MayWait newest may_begin needs call
    Changes : (attempt : Attempt) → may_begin ≡ false → IsChange attempt → Tried call attempt → MayWait newest may_begin needs call

  -- Blocks are needed by the attempt of one of these calls over the view.
  pub record AreNeeded (waiting : List Waiting) (wants : List (ℕ × Mode)) : Type 0 where
    pub call : Waiting
    pub waits : Contains waiting call
    pub tried : Tried call (Need wants)

  -- A call begins a record: it is attempted still, and its attempt changes blocks.
  pub record IsToBegin (begun : Begun) : Type 0 where
    pub attempted : is_attempted begun.call ≡ true
    pub changes : IsChange begun.attempt
    pub tried : Tried begun.call begun.attempt

-- an answer is to a call, at a moment
pub record IsAnswerTo (moment : ℕ) (call : Waiting) (said : Said) : Type 0 where
  pub number : said.point.call ≡ call.number
  pub when : said.point.moment ≡ moment
  pub client : said.client ≡ call.client
  pub bytes : said.call ≡ call.message

-- A call still waits, as it isn't to act now, or as it needs blocks; or it is answered; or it begins a record. All else is as it was. Only a call that isn't newer than a number, where
-- one is told, is attempted, and none is answered or begins a record that is attempted no more.
pub data CallGoes (newest : Option ℕ) (moment : ℕ) (call : Waiting) (old new : Round) : Type 0 where
  Stays : new.waiting.items ≡ old.waiting.items ++ call ∷ [] → new.said.items ≡ old.said.items → new.begun ≡ old.begun → new.needs.items ≡ old.needs.items → CallGoes newest moment call old new
  Needs : (wants : List (ℕ × Mode)) → new.waiting.items ≡ old.waiting.items ++ call ∷ [] → new.said.items ≡ old.said.items → new.begun ≡ old.begun → new.needs.items ≡ old.needs.items ++ wants ∷ []
      → is_newer newest call.number ≡ false → CallGoes newest moment call old new
  Answered : (said : Said) → IsAnswerTo moment call said → new.said.items ≡ old.said.items ++ said ∷ [] → new.waiting.items ≡ old.waiting.items → new.begun ≡ old.begun → new.needs.items ≡ old.needs.items
      → is_newer newest call.number ≡ false → is_attempted call ≡ true → CallGoes newest moment call old new
  Begins : old.begun ≡ None → IsSomeAnd new.begun (λ begun. begun.call ≡ call) → new.said.items ≡ old.said.items → new.waiting.items ≡ old.waiting.items → new.needs.items ≡ old.needs.items
      → is_newer newest call.number ≡ false → is_attempted call ≡ true → CallGoes newest moment call old new

-- So each of these calls, in their order.
pub data AllGo (newest : Option ℕ) (moment : ℕ) : List Waiting → Round → Round → Type 0 where
  NoneGo : (round : Round) → AllGo newest moment [] round round
  MoreGo : (calls : List Waiting) (call : Waiting) (old middle new : Round) → AllGo newest moment calls old middle → CallGoes newest moment call middle new → AllGo newest moment (calls ++ call ∷ []) old new

-- nothing was put together yet
pub record AreNone (round : Round) : Type 0 where
  pub said : round.said.items ≡ []
  pub waiting : round.waiting.items ≡ []
  pub begun : round.begun ≡ None
  pub needs : round.needs.items ≡ []
