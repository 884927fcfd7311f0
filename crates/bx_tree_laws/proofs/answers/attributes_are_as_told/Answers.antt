use Rattle.bx_tree_laws.proofs.Truths.{getattr_acts, told_attributes}
use Rattle.bx_tree_laws.proofs.answers.attributes_are_as_told.Goals as goal

pub returns : goal.returns
returns c = λ tree call moment spare made answer next at words asking later free was fit made_fits acts tells arguments procedure.
    getattr_acts next at words asking later free arguments procedure (told_attributes tree call moment spare made answer next at words was fit made_fits acts tells)
