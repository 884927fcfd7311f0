use Rattle.bx_places.proofs.FileTexts.{named_is, text_names, one_volume}
use Rattle.bx_places.proofs.handle_laws.file_handles_name_one.Goals as goal

pub returns-clause-named : goal.returns-clause-named
returns-clause-named c = λ volume handle bytes. (named_is volume handle bytes, λ e. text_names volume handle bytes e.0 e.1)

pub returns-clause-volume : goal.returns-clause-volume
returns-clause-volume c = λ volume another one other bytes lt below a b.
    one_volume volume another one other bytes lt below (named_is volume one bytes a).1 (named_is another other bytes b).1
