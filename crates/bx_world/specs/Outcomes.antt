-- What comes of an event in which calls are answered, or a machine stops.
use Rattle.std.specs.Prelude.{◌≡◌, ℕ, zero, suc, ◌<◌, List, [], ◌∷◌, ◌++◌, map, slice_get, slice_set, Option, None, Some}
use Rattle.bx_base.specs.declared.names.Actor.{Actor}
use Rattle.bx_base.specs.declared.names.Actor.TheVariants.{Node, Replica, Server, Member}
use Rattle.bx_base.specs.declared.names.Point.{Point}
use Rattle.bx_cluster.specs.declared.outcome.Outcome.{Outcome}
use Rattle.bx_cluster.specs.declared.outcome.ReplyOut.{ReplyOut}
use Rattle.bx_desk.specs.Desks.{AtDesk, answered, empty_desk}
use Rattle.bx_node_tries.specs.declared.round.Said.{Said}
use Rattle.bx_post.specs.declared.packets.Letter.{Letter}
use Rattle.bx_post.specs.Posts.{Posted, fresh}

abbrev pub nothing : Outcome
nothing = record { took = None; points = []; replies = []; again = None; stopped = None }

-- a disk failed, and the machine stopped
abbrev pub stopped_at : Actor → Outcome
stopped_at at = record { took = None; points = []; replies = []; again = None; stopped = Some at }

abbrev pub point_said : Said → Point
point_said said = said.point

abbrev pub reply_said : ℕ → Said → ReplyOut
reply_said node said = record { call = said.point.call; node = node; client = said.client; bytes = said.reply }

-- only a node answers, one that has a desk
abbrev pub IsBy : ℕ → Actor → List Said → Type 0
IsBy desks (Node n) said = n < desks
IsBy desks (Replica n) said = said ≡ []
IsBy desks (Server n) said = said ≡ []
IsBy desks (Member n) said = said ≡ []

-- what is told of the answers of a machine
abbrev pub outcome_said : Actor → List Said → Outcome
outcome_said (Node n) said = record { took = None; points = map point_said said; replies = map (reply_said n) said; again = None; stopped = None }
outcome_said (Replica n) said = nothing
outcome_said (Server n) said = nothing
outcome_said (Member n) said = nothing

-- a desk once these calls are answered, and the desks of all nodes
abbrev pub all_answered : AtDesk → List Said → AtDesk
all_answered desk [] = desk
all_answered desk (said ∷ rest) = all_answered (answered desk said.point.call said.reply) rest

abbrev pub with_desk : List AtDesk → ℕ → Option AtDesk → List AtDesk
with_desk desks node None = desks
with_desk desks node (Some desk) = slice_set desks node desk

abbrev pub answered_all : Option AtDesk → List Said → Option AtDesk
answered_all None said = None
answered_all (Some desk) said = Some (all_answered desk said)

abbrev pub desks_said : Actor → List Said → List AtDesk → List AtDesk
desks_said (Node n) said desks = with_desk desks n (answered_all (slice_get desks n) said)
desks_said (Replica n) said desks = desks
desks_said (Server n) said desks = desks
desks_said (Member n) said desks = desks

-- once a machine stopped
abbrev pub emptied : Option AtDesk → Option AtDesk
emptied None = None
emptied (Some desk) = Some empty_desk

abbrev pub desks_without : Actor → List AtDesk → List AtDesk
desks_without (Node n) desks = with_desk desks n (emptied (slice_get desks n))
desks_without (Replica n) desks = desks
desks_without (Server n) desks = desks
desks_without (Member n) desks = desks

-- An event ends at a machine that answered these calls and sends these letters; or at one that stopped, which sends none.
pub record EndsSaid (at : Actor) (said : List Said) (out : List Letter) (old_post new_post : List Posted) (old_desks new_desks : List AtDesk) (outcome : Outcome) : Type 0 where
  pub outcome_is : outcome ≡ outcome_said at said
  pub post : new_post ≡ old_post ++ map fresh out
  pub desks : new_desks ≡ desks_said at said old_desks

pub record EndsStopped (at : Actor) (old_post new_post : List Posted) (old_desks new_desks : List AtDesk) (outcome : Outcome) : Type 0 where
  pub outcome_is : outcome ≡ stopped_at at
  pub post : new_post ≡ old_post
  pub desks : new_desks ≡ desks_without at old_desks

-- the desks of so many nodes, with nothing on them
abbrev pub empty_desks : ℕ → List AtDesk
empty_desks zero = []
empty_desks (suc n) = empty_desks n ++ empty_desk ∷ []
