-- The parts of the body of an AUTH_SYS credential, one after the other.
use Rattle.std.proofs.Common.{◌≡◌, ℕ, List, []}
use Rattle.bx_xdr.specs.Items.{SpellsWord, SpellsWords, SpellsOpaque, SpellsList, Both, Reads, Lacks}
use Rattle.bx_xdr.proofs.Grammar.{lacks-first, lacks-second, reads_then, reads_whole, whole_reads}
use Rattle.bx_xdr.proofs.Spelling.{word_once, opaque_same}
use Rattle.bx_xdr.proofs.Words.{words_once}
use Rattle.bx_rpc.specs.Callers.{SpellsParts}
use Rattle.bx_rpc.proofs.Verdicts.{parts_once}

abbrev pub Spelled : Type 0
Spelled = ℕ × (List ℕ × (List ℕ × List ℕ))

abbrev Groups : List ℕ × List ℕ → List ℕ → Type 0
Groups = Both (SpellsWords 2) (SpellsList 16)

abbrev Machine : List ℕ × (List ℕ × List ℕ) → List ℕ → Type 0
Machine = Both (SpellsOpaque 255) Groups

lacking : (body : List ℕ) → Lacks SpellsParts body → (spelled : Spelled) → SpellsParts spelled body → ⊥
lacking body none spelled is = none spelled [] (reads_whole (SpellsParts spelled) body is)

pub no_stamp : (body : List ℕ) → Lacks SpellsWord body → (spelled : Spelled) → SpellsParts spelled body → ⊥
no_stamp body none = lacking body (lacks-first SpellsWord Machine body none)

pub no_machine : (body a : List ℕ) (stamp : ℕ) → Reads (SpellsWord stamp) body a → Lacks (SpellsOpaque 255) a → (spelled : Spelled) → SpellsParts spelled body → ⊥
no_machine body a stamp p none = lacking body (lacks-second SpellsWord Machine body a stamp word_once p (lacks-first (SpellsOpaque 255) Groups a none))

pub no_ids : (body a b : List ℕ) (stamp : ℕ) (machine : List ℕ) → Reads (SpellsWord stamp) body a → Reads (SpellsOpaque 255 machine) a b → Lacks (SpellsWords 2) b
    → (spelled : Spelled) → SpellsParts spelled body → ⊥
no_ids body a b stamp machine p q none =
    lacking body (lacks-second SpellsWord Machine body a stamp word_once p (lacks-second (SpellsOpaque 255) Groups a b machine (opaque_same 255) q (lacks-first (SpellsWords 2) (SpellsList 16) b none)))

pub no_groups : (body a b d : List ℕ) (stamp : ℕ) (machine ids : List ℕ) → Reads (SpellsWord stamp) body a → Reads (SpellsOpaque 255 machine) a b → Reads (SpellsWords 2 ids) b d → Lacks (SpellsList 16) d
    → (spelled : Spelled) → SpellsParts spelled body → ⊥
no_groups body a b d stamp machine ids p q r none =
    lacking body (lacks-second SpellsWord Machine body a stamp word_once p (lacks-second (SpellsOpaque 255) Groups a b machine (opaque_same 255) q (lacks-second (SpellsWords 2) (SpellsList 16) b d ids (words_once 2) r none)))

parts_read : (body a b d e : List ℕ) (stamp : ℕ) (machine ids gids : List ℕ) → Reads (SpellsWord stamp) body a → Reads (SpellsOpaque 255 machine) a b → Reads (SpellsWords 2 ids) b d → Reads (SpellsList 16 gids) d e
    → Reads (SpellsParts (stamp, (machine, (ids, gids)))) body e
parts_read body a b d e stamp machine ids gids p q r s = reads_then p (reads_then q (reads_then r s))

pub parts_whole : (body a b d e : List ℕ) (stamp : ℕ) (machine ids gids : List ℕ) → e ≡ [] → Reads (SpellsWord stamp) body a → Reads (SpellsOpaque 255 machine) a b → Reads (SpellsWords 2 ids) b d → Reads (SpellsList 16 gids) d e
    → SpellsParts (stamp, (machine, (ids, gids))) body
parts_whole body a b d e stamp machine ids gids end p q r s =
    whole_reads (SpellsParts (stamp, (machine, (ids, gids)))) body (rw end at (parts_read body a b d e stamp machine ids gids p q r s))

pub no_end : (body a b d e : List ℕ) (stamp : ℕ) (machine ids gids : List ℕ) → (e ≡ [] → ⊥) → Reads (SpellsWord stamp) body a → Reads (SpellsOpaque 255 machine) a b → Reads (SpellsWords 2 ids) b d → Reads (SpellsList 16 gids) d e
    → (spelled : Spelled) → SpellsParts spelled body → ⊥
no_end body a b d e stamp machine ids gids more p q r s spelled is =
    more (parts_once body e [] (stamp, (machine, (ids, gids))) spelled (parts_read body a b d e stamp machine ids gids p q r s) (reads_whole (SpellsParts spelled) body is)).1
