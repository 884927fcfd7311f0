-- A recovery waits exactly where something of it is out.
use Rattle.std.proofs.Common.{◌≡◌, ◌↔◌, ◌∙◌, ℕ, Bool, true, false, List, Option, Some, None, refl, sym}
use Rattle.bx_recover.specs.Recovering.{AsksBodyAgain, AsksFirst, AsksGatesAgain, AsksNext, FindsClosed, FindsNone, RecoveryGoesOn, IsOut, RecoveryView, Settled, TakesBody, TakesGates, TellsAll, TellsThose, WritesBack}
use Rattle.bx_recover.specs.declared.moves.Move.{Move}
use Rattle.bx_recover.specs.declared.moves.Move.TheVariants.{Acked, Closed as Ended, Read, Wait, Write}
use Rattle.bx_recover.specs.declared.stage.Stage.{Stage}
use Rattle.bx_recover.specs.declared.stage.Stage.TheVariants.{Begins, Gates, Settles, Bodies, Told, Homes, Closes, Shuts, Closed}

abbrev IsOther : Move → Type 0
IsOther (Write runs) = Unit {0}
IsOther (Read device place sectors) = Unit {0}
IsOther (Acked points) = Unit {0}
IsOther Ended = Unit {0}
IsOther Wait = ⊥

-- nothing is out, and it says another thing
says : (move said : Move) (Out : Type 0) → move ≡ said → IsOther said → (Out → ⊥) → (move ≡ Wait) ↔ Out
says move (Write runs) Out is other none = (λ waits. absurd (let e = sym is ∙ waits in cc), λ out. absurd (none out))
says move (Read device place sectors) Out is other none = (λ waits. absurd (let e = sym is ∙ waits in cc), λ out. absurd (none out))
says move (Acked points) Out is other none = (λ waits. absurd (let e = sym is ∙ waits in cc), λ out. absurd (none out))
says move Ended Out is other none = (λ waits. absurd (let e = sym is ∙ waits in cc), λ out. absurd (none out))
says move Wait Out is other none = absurd other

came : (bytes : List ℕ) → Some bytes ≡ None → ⊥
came bytes e = cc

done_is : true ≡ false → ⊥
done_is e = cc

module _ (old new : RecoveryView) (move : Move) where
  gates : (bytes : List ℕ) → TakesGates old bytes new move → (move ≡ Wait) ↔ (Some bytes ≡ None)
  gates bytes (AsksGatesAgain long is) = says move _ (Some bytes ≡ None) is.says tt (came bytes)
  gates bytes (WritesBack opened long run is) = says move _ (Some bytes ≡ None) is.says tt (came bytes)

  settled : (opened : ℕ) → Settled old opened new move → (move ≡ Wait) ↔ (true ≡ false)
  settled opened (AsksFirst some is) = says move _ (true ≡ false) is.says tt done_is
  settled opened (FindsClosed closed is) = says move _ (true ≡ false) is.says tt done_is

  body : (opened : ℕ) (bytes : List ℕ) → TakesBody old opened bytes new move → (move ≡ Wait) ↔ (Some bytes ≡ None)
  body opened bytes (AsksBodyAgain long is) = says move _ (Some bytes ≡ None) is.says tt (came bytes)
  body opened bytes (AsksNext logged long is less adds) = says move _ (Some bytes ≡ None) adds.says tt (came bytes)
  body opened bytes (TellsAll logged long is all adds) = says move _ (Some bytes ≡ None) adds.says tt (came bytes)
  body opened bytes (TellsThose long none some is) = says move _ (Some bytes ≡ None) is.says tt (came bytes)
  body opened bytes (FindsNone long none empty is) = says move _ (Some bytes ≡ None) is.says tt (came bytes)

  pub waits : (stage : Stage) (arrived : Option (List ℕ)) (done : Bool) → RecoveryGoesOn old arrived done new move stage → (move ≡ Wait) ↔ IsOut stage arrived done
  waits Begins arrived done is = says move _ ⊥ is.says tt (λ out. out)
  waits Gates None done is = (λ w. refl, λ out. is.says)
  waits Gates (Some bytes) done is = gates bytes is
  waits (Settles opened) arrived false is = (λ w. refl, λ out. is.says)
  waits (Settles opened) arrived true is = settled opened is
  waits (Bodies opened) None done is = (λ w. refl, λ out. is.says)
  waits (Bodies opened) (Some bytes) done is = body opened bytes is
  waits Told arrived done is = says move _ ⊥ is.comes.says tt (λ out. out)
  waits Homes arrived false is = (λ w. refl, λ out. is.says)
  waits Homes arrived true is = says move _ (true ≡ false) is.says tt done_is
  waits Closes arrived false is = (λ w. refl, λ out. is.says)
  waits Closes arrived true is = says move _ (true ≡ false) is.says tt done_is
  waits Shuts arrived false is = (λ w. refl, λ out. is.says)
  waits Shuts arrived true is = says move _ (true ≡ false) is.says tt done_is
  waits Closed arrived done is = says move _ ⊥ is.says tt (λ out. out)
