-- Calls that touch no block.
use Rattle.std.specs.Prelude.{◌≡◌, ℕ, List, [], ◌∷◌}
use Rattle.bx_node_tries.specs.Tries.{IsAnswerTo}
use Rattle.bx_node_tries.specs.declared.round.Said.{Said}
use Rattle.bx_node_tries.specs.declared.round.Waiting.{Waiting}
use Rattle.bx_world_machines.specs.declared.at_once.AtOnce.{AtOnce}
use Rattle.bx_world_machines.specs.declared.at_once.AtOnce.TheVariants.{Answered, Waits}

-- it is answered
abbrev pub IsAnswered : AtOnce → Type 0
IsAnswered (Answered said) = Unit {0}
IsAnswered (Waits call) = ⊥

-- A call was tried: what is answered is this call, at this moment; or it waits as it was.
abbrev pub IsTried : ℕ → Waiting → AtOnce → Type 0
IsTried moment call (Answered said) = IsAnswerTo moment call said
IsTried moment call (Waits same) = same ≡ call

-- the answers that this is
abbrev pub said_by : AtOnce → List Said
said_by (Answered said) = said ∷ []
said_by (Waits call) = []
