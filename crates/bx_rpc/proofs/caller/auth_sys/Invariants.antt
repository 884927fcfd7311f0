use Rattle.std.proofs.Common.{◌≡◌, take}
use Rattle.bx_rpc.proofs.caller.auth_sys.Given as goal

abbrev pub invariant-loop-group : goal.invariant-loop-group
invariant-loop-group l = l.gids ≡ take l.group-index l.group-items
