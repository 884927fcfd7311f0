-- Items of NFS have one reading.
use Rattle.bx_xdr.specs.Items.{SpellsWords, HasOneReading}
use Rattle.bx_xdr.proofs.Grammar.{one_reading-both, one_reading-made}
use Rattle.bx_xdr.proofs.Spelling.{fixed_same, opaque_same}
use Rattle.bx_xdr.proofs.Words.{words_once}
use Rattle.bx_nfs.specs.Items.{SpellsHandle, SpellsName, SpellsPath, SpellsData, SpellsPlace, sattr_of, SpellsSattr}

pub handle_once : HasOneReading SpellsHandle
handle_once = fixed_same 32

pub name_once : HasOneReading SpellsName
name_once = opaque_same 255

pub path_once : HasOneReading SpellsPath
path_once = opaque_same 1024

pub data_once : HasOneReading SpellsData
data_once = opaque_same 8192

pub place_once : HasOneReading SpellsPlace
place_once = one_reading-both SpellsHandle SpellsName handle_once name_once

pub sattr_once : HasOneReading SpellsSattr
sattr_once = one_reading-made sattr_of (SpellsWords 8) (words_once 8)
