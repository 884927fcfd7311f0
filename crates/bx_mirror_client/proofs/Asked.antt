-- Letters of a read, by the row of its device.
use Rattle.std.proofs.Common.{◌≡◌, ℕ, List, ◌++◌, Option, Some, None, sym, ap, ◌∙◌}
use Rattle.std.specs.Prelude.{slice_get}
use Rattle.std.proofs.lemmas.List.{append-nil}
use Rattle.bx_post.specs.declared.packets.Letter.{Letter}
use Rattle.bx_rows.specs.declared.device.DeviceRow.{DeviceRow}
use Rattle.bx_mirror_client.specs.declared.asking.Asking.{Asking}
use Rattle.bx_mirror_client.specs.Letters.{read_in, read_letters}

pub row_asked : (before : List DeviceRow) (node : ℕ) (asks : Option Asking) (a : Asking) (rows : List DeviceRow) (row : Option DeviceRow) → asks ≡ Some a → row ≡ slice_get rows a.device
    → read_in before node a row ≡ read_letters before node asks rows
row_asked before node asks a rows row is there = ap (λ (r : Option DeviceRow). read_in before node a r) there ∙ sym (ap (λ (o : Option Asking). read_letters before node o rows) is)

pub none_asked : (before : List DeviceRow) (node : ℕ) (asks : Option Asking) (a : Asking) (rows : List DeviceRow) (out : List Letter) → asks ≡ Some a → None ≡ slice_get rows a.device
    → out ≡ out ++ read_letters before node asks rows
none_asked before node asks a rows out is none = sym (append-nil out) ∙ ap (λ (letters : List Letter). out ++ letters) (row_asked before node asks a rows None is none)
