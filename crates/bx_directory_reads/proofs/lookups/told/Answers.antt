use Rattle.std.proofs.Common.{refl, sym, ap, Ok, ◌∙◌}
use Rattle.bx_places.specs.Handles.{file_text}
use Rattle.bx_model.specs.declared.reply.Reply.{Reply}
use Rattle.bx_tree_files.specs.Attributes.{attributes_of}
use Rattle.bx_reads.proofs.Told.{over_none, size_fits}
use Rattle.bx_directory_reads.proofs.LookedUp.{file_told, none_told}
use Rattle.bx_directory_reads.proofs.lookups.told.Goals as goal

pub returns-in-Ok-clause-step : goal.returns-in-Ok-clause-step
returns-in-Ok-clause-step g c = λ truth tree same s.
    let f = c.in-Ok.ensures.tree truth tree same (over_none c.args.areas truth tree c.new-none.result c.new-none.ensures s.is) in
    let volume = c.args.volume in
    file_told tree volume s.volume_is c.args.handle f.file (file_text volume c.args.handle) (attributes_of volume f.file) f.there f.handle_is refl refl
    ∙ ap (λ (reply : Reply). Ok (reply, tree)) (sym (c.in_ok-reply-in-Ok.ensures f.file f.handle_is f.fields f.size (size_fits tree c.args.handle f.file s.file_tree f.there)))

pub returns-in-Err-Status-clause-step : goal.returns-in-Err-Status-clause-step
returns-in-Err-Status-clause-step g c = λ truth tree same s.
    let f = rw c.in-Err-Status.field-0-is at (c.in-Err-Status.ensures.tree truth tree same (over_none c.args.areas truth tree c.new-none.result c.new-none.ensures s.is)) in
    none_told tree c.args.handle f.1
