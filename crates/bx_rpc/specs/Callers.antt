-- Who a call comes from (RFC 5531, sections 8.2 and 9, and appendix A).
use Rattle.std.specs.Prelude.{◌≡◌, ℕ, List, [], slice_index, ◌⊎◌}
use Rattle.bx_xdr.specs.Items.{SpellsWord, SpellsWords, SpellsOpaque, SpellsList, Both, Made}
use Rattle.bx_rpc.specs.declared.caller.Caller.{Caller}

-- who calls without a credential
abbrev pub nobody : Caller
nobody = record { uid = 65534; gid = 65534; gids = [] }

-- a caller, of a stamp, the name of his machine, two words that are his user and his group, and his further groups
abbrev pub caller_of : ℕ × (List ℕ × (List ℕ × List ℕ)) → Caller
caller_of parts = record { uid = slice_index parts.1.1.0 0; gid = slice_index parts.1.1.0 1; gids = parts.1.1.1 }

-- The parts of the body of a credential of flavor AUTH_SYS (RFC 5531, appendix A): the stamp, the name of the machine, of at
-- most 255 bytes, user and group, and at most 16 further groups.
abbrev pub SpellsParts : ℕ × (List ℕ × (List ℕ × List ℕ)) → List ℕ → Type 0
SpellsParts = Both SpellsWord (Both (SpellsOpaque 255) (Both (SpellsWords 2) (SpellsList 16)))

-- the body of such a credential
abbrev pub SpellsAuthSys : Caller → List ℕ → Type 0
SpellsAuthSys = Made caller_of SpellsParts

-- Whom a credential of this flavor and body names: nobody by AUTH_NONE (0), whatever its body is, and by AUTH_SYS (1) the
-- caller that the whole body spells. No other flavor names anybody.
abbrev pub Names : ℕ → List ℕ → Caller → Type 0
Names flavor body caller = ((flavor ≡ 0) × (caller ≡ nobody)) ⊎ ((flavor ≡ 1) × SpellsAuthSys caller body)

-- A verifier: its flavor, which may be any, and its body, of at most 400 bytes (RFC 5531, section 8.2).
abbrev pub SpellsVerifier : ℕ × List ℕ → List ℕ → Type 0
SpellsVerifier = Both SpellsWord (SpellsOpaque 400)
