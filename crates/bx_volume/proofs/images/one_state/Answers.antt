use Rattle.bx_volume.proofs.OneState.{one_state}
use Rattle.bx_volume.proofs.images.one_state.Goals as goal

pub returns : goal.returns
returns c = one_state
