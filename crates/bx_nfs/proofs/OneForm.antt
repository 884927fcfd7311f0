-- The arguments of a form have one reading.
use Rattle.std.proofs.Common.{◌≡◌, ℕ, List, ◌++◌, sym, ap, ◌∙◌}
use Rattle.bx_xdr.specs.Items.{SpellsWords, Both, HasOneReading}
use Rattle.bx_xdr.proofs.Grammar.{one_reading-both, one_reading-made}
use Rattle.bx_xdr.proofs.Words.{words_once}
use Rattle.bx_model.specs.declared.call.Args.TheVariants.{Handle, Path}
use Rattle.bx_nfs.specs.declared.forms.Form.{Form}
use Rattle.bx_nfs.specs.declared.forms.Form.TheVariants as forms
use Rattle.bx_nfs.specs.Items.{SpellsHandle, SpellsPath, SpellsData, SpellsPlace, SpellsSattr}
use Rattle.bx_nfs.specs.Arguments.{NoArguments, set_of, name_of, read_of, write_of, make_of, rename_of, link_of, symlink_of, list_of}
use Rattle.bx_nfs.specs.Forms.{Arguments}
use Rattle.bx_nfs.proofs.OneItem.{handle_once, path_once, data_once, place_once, sattr_once}

nothing_once : HasOneReading NoArguments
nothing_once text a b v w p q =
    let left : text ≡ a = p.parts ∙ ap (λ (s : List ℕ). s ++ a) p.spells.1 in
    let right : text ≡ b = q.parts ∙ ap (λ (s : List ℕ). s ++ b) q.spells.1 in
    (p.spells.0 ∙ sym q.spells.0, sym left ∙ right)

-- of any form there are one arguments at most at the front of a text
pub arguments_once : (form : Form) → HasOneReading (Arguments form)
arguments_once forms.Nothing = nothing_once
arguments_once forms.Handle = one_reading-made (λ (handle : List ℕ). Handle handle) SpellsHandle handle_once
arguments_once forms.Set = one_reading-made set_of _ (one_reading-both SpellsHandle SpellsSattr handle_once sattr_once)
arguments_once forms.Name = one_reading-made name_of SpellsPlace place_once
arguments_once forms.Read = one_reading-made read_of _ (one_reading-both SpellsHandle (SpellsWords 3) handle_once (words_once 3))
arguments_once forms.Write = one_reading-made write_of _ (one_reading-both SpellsHandle (Both (SpellsWords 3) SpellsData) handle_once (one_reading-both (SpellsWords 3) SpellsData (words_once 3) data_once))
arguments_once forms.Make = one_reading-made make_of _ (one_reading-both SpellsPlace SpellsSattr place_once sattr_once)
arguments_once forms.Rename = one_reading-made rename_of _ (one_reading-both SpellsPlace SpellsPlace place_once place_once)
arguments_once forms.Link = one_reading-made link_of _ (one_reading-both SpellsHandle SpellsPlace handle_once place_once)
arguments_once forms.Symlink = one_reading-made symlink_of _ (one_reading-both SpellsPlace (Both SpellsPath SpellsSattr) place_once (one_reading-both SpellsPath SpellsSattr path_once sattr_once))
arguments_once forms.List = one_reading-made list_of _ (one_reading-both SpellsHandle (SpellsWords 2) handle_once (words_once 2))
arguments_once forms.Path = one_reading-made (λ (path : List ℕ). Path path) SpellsPath path_once
