-- What is told of answers, one by one.
use Rattle.std.proofs.Common.{◌≡◌, ◌++◌, ℕ, List, map}
use Rattle.bx_base.specs.declared.names.Point.{Point}
use Rattle.bx_cluster.specs.declared.outcome.ReplyOut.{ReplyOut}
use Rattle.bx_desk.specs.Desks.{AtDesk}
use Rattle.bx_node_tries.specs.declared.round.Said.{Said}
use Rattle.bx_world.specs.Outcomes.{all_answered, point_said, reply_said}

-- Of these answers so many are told that these are left.
pub record IsToldSoFar (node : ℕ) (said : List Said) (first : AtDesk) (rest : List Said) (points : List Point) (replies : List ReplyOut) (desk : AtDesk) : Type 0 where
  pub points_are : points ++ map point_said rest ≡ map point_said said
  pub replies_are : replies ++ map (reply_said node) rest ≡ map (reply_said node) said
  pub desk_is : all_answered desk rest ≡ all_answered first said
