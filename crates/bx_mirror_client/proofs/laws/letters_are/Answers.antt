use Rattle.bx_mirror_client.proofs.Telling.{letters_are}
use Rattle.bx_mirror_client.proofs.laws.letters_are.Goals as goal

pub returns : goal.returns
returns c = letters_are
