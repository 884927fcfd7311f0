-- The part of a reply before its result (RFC 5531, section 9).
use Rattle.std.specs.Prelude.{ℕ, ◌==◌, if◌then◌else◌, List, [], ◌∷◌}
use Rattle.bx_xdr.specs.bx_base.specs.Bytes.{words}
use Rattle.bx_rpc.specs.Checks.{version_of}

-- An accepted call's reply: the call's number, REPLY (1), MSG_ACCEPTED (0), an empty AUTH_NONE verifier, and SUCCESS (0).
abbrev pub accepted_text : ℕ → List ℕ
accepted_text xid = words (xid ∷ 1 ∷ 0 ∷ 0 ∷ 0 ∷ 0 ∷ [])

-- What stands behind the call's number and REPLY (1), by the number of the refusal. Of a call that is denied:
-- MSG_DENIED (1), and RPC_MISMATCH (0) with the least and the greatest version of RPC, or AUTH_ERROR (1) with
-- AUTH_TOOWEAK (5) or AUTH_BADCRED (1). Of one that is accepted: MSG_ACCEPTED (0), an empty AUTH_NONE verifier, and
-- PROG_UNAVAIL (1), PROG_MISMATCH (2) with the least and the greatest version of the program, PROC_UNAVAIL (3) or
-- GARBAGE_ARGS (4).
abbrev pub refusal_words : ℕ → ℕ → List ℕ
refusal_words number program =
    if number == 1 then 1 ∷ 0 ∷ 2 ∷ 2 ∷ []
    else (if number == 2 then 0 ∷ 0 ∷ 0 ∷ 1 ∷ []
    else (if number == 3 then 0 ∷ 0 ∷ 0 ∷ 2 ∷ version_of program ∷ version_of program ∷ []
    else (if number == 4 then 0 ∷ 0 ∷ 0 ∷ 3 ∷ []
    else (if number == 5 then 1 ∷ 1 ∷ 5 ∷ []
    else (if number == 6 then 1 ∷ 1 ∷ 1 ∷ []
    else 0 ∷ 0 ∷ 0 ∷ 4 ∷ [])))))

-- a refused call's reply
abbrev pub refused_text : ℕ → ℕ → ℕ → List ℕ
refused_text xid number program = words (xid ∷ 1 ∷ refusal_words number program)
