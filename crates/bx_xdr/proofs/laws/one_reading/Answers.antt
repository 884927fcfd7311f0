use Rattle.bx_xdr.proofs.Spelling.{fixed_same, opaque_same, list_same}
use Rattle.bx_xdr.proofs.Words.{words_once}
use Rattle.bx_xdr.proofs.laws.one_reading.Goals as goal

pub returns-clause-words : goal.returns-clause-words
returns-clause-words c = words_once

pub returns-clause-fixed : goal.returns-clause-fixed
returns-clause-fixed c = fixed_same

pub returns-clause-opaque : goal.returns-clause-opaque
returns-clause-opaque c = opaque_same

pub returns-clause-list : goal.returns-clause-list
returns-clause-list c = list_same
