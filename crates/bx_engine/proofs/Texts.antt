-- Which replies have the text of NOSPC, and which that of a STATFS.
use Rattle.std.proofs.Common.{◌≡◌, ◌∙◌, ℕ, ◌<◌, Bool, true, false, List, [], ◌∷◌, ◌++◌, length, refl, ap, sym, arith}
use Rattle.std.specs.Prelude.{◌≢◌, ◌==◌, ◌&&◌, nat_lt, not, take, if◌then◌else◌}
use Rattle.std.specs.Int.{w32, from_be_bytes}
use Rattle.std.proofs.lemmas.Bool.Decides.{nat_tests}
use Rattle.std.proofs.lemmas.List.{append_cancel_left}
use Rattle.std.proofs.lemmas.Nat.{from_be_bytes-to_be_bytes_4}
use Rattle.bx_model.specs.declared.reply.Reply.{Reply}
use Rattle.bx_model.specs.declared.reply.Reply.TheVariants.{Refused, Status, Empty, Attributes, Handle, Path, Bytes, List as Listing, Space, Mounted, Mounts, Exports}
use Rattle.bx_nfs.specs.Wire.{reply_text}
use Rattle.bx_nfs.specs.Results.{result_text}
use Rattle.bx_rpc.specs.Checks.{version_of}
use Rattle.bx_rpc.specs.Replies.{accepted_text, refusal_words}
use Rattle.bx_xdr.proofs.Words.{length-words}
use Rattle.bx_xdr.specs.Items.{word_text}
use Rattle.bx_engine.proofs.Telling.{is_quiet}

abbrev first_word : List ℕ → ℕ
first_word text = from_be_bytes w32 (take 4 text)

-- the texts behind the header begin with the same word
firsts : (xid : ℕ) (a b : List ℕ) → accepted_text xid ++ a ≡ accepted_text xid ++ b → first_word a ≡ first_word b
firsts xid a b same = ap first_word (append_cancel_left (accepted_text xid) a b same)

module _ (number program : ℕ) where
  not_five : length (refusal_words number program) ≢ 5
  not_five = by (number == 1) (number == 2) (number == 3) (number == 4) (number == 5) (number == 6)
    where
      by : (a b c d e f : Bool) → length (if a then 1 ∷ 0 ∷ 2 ∷ 2 ∷ [] else (if b then 0 ∷ 0 ∷ 0 ∷ 1 ∷ [] else (if c then 0 ∷ 0 ∷ 0 ∷ 2 ∷ version_of program ∷ version_of program ∷ [] else
          (if d then 0 ∷ 0 ∷ 0 ∷ 3 ∷ [] else (if e then 1 ∷ 1 ∷ 5 ∷ [] else (if f then 1 ∷ 1 ∷ 1 ∷ [] else 0 ∷ 0 ∷ 0 ∷ 4 ∷ [])))))) ≢ 5
      by true b c d e f is = absurd (omega (arith, is))
      by false true c d e f is = absurd (omega (arith, is))
      by false false true d e f is = absurd (omega (arith, is))
      by false false false true e f is = absurd (omega (arith, is))
      by false false false false true f is = absurd (omega (arith, is))
      by false false false false false true is = absurd (omega (arith, is))
      by false false false false false false is = absurd (omega (arith, is))

  refused_apart : (xid : ℕ) → reply_text xid (Refused number program) ≡ reply_text xid (Status 28) → ⊥
  refused_apart xid same =
      let lengths = sym (length-words (xid ∷ 1 ∷ refusal_words number program)) ∙ ap (λ (text : List ℕ). length text) same in
      not_five (omega (arith, lengths))

word_is : (status : ℕ) → status < 256 → first_word (word_text status) ≡ status
word_is status small = from_be_bytes-to_be_bytes_4 status (omega (arith, small))

pub space_apart : (xid status : ℕ) (numbers : List ℕ) → 0 < status → status < 256 → reply_text xid (Status status) ≡ reply_text xid (Space numbers) → ⊥
space_apart xid status numbers positive small same =
    let none : status ≡ 0 = sym (word_is status small) ∙ firsts xid (result_text (Status status)) (result_text (Space numbers)) same in
    absurd (omega (arith, none, positive))

zero_apart : (xid : ℕ) (text : List ℕ) → first_word text ≡ 0 → accepted_text xid ++ text ≡ accepted_text xid ++ result_text (Status 28) → ⊥
zero_apart xid text zero same = let first : first_word text ≡ 28 = firsts xid text (result_text (Status 28)) same in absurd (omega (arith, zero, first))

pub nospc_apart : (xid : ℕ) (reply : Reply) → is_quiet reply ≡ true → reply_text xid reply ≡ reply_text xid (Status 28) → ⊥
nospc_apart xid (Refused number program) quiet same = refused_apart number program xid same
nospc_apart xid (Status status) quiet same =
    let small : (nat_lt status 256 && not (status == 28)) ≡ true = quiet in
    let fits : status < 256 = grind (arith, nat_tests, small) in
    let is : status ≡ 28 = sym (word_is status fits) ∙ firsts xid (result_text (Status status)) (result_text (Status 28)) same in
    absurd (grind (arith, nat_tests, small, is))
nospc_apart xid Empty quiet same = zero_apart xid [] refl same
nospc_apart xid (Attributes attributes) quiet same = zero_apart xid (result_text (Attributes attributes)) refl same
nospc_apart xid (Handle handle attributes) quiet same = zero_apart xid (result_text (Handle handle attributes)) refl same
nospc_apart xid (Path path) quiet same = zero_apart xid (result_text (Path path)) refl same
nospc_apart xid (Bytes attributes content) quiet same = zero_apart xid (result_text (Bytes attributes content)) refl same
nospc_apart xid (Listing entries eof) quiet same = zero_apart xid (result_text (Listing entries eof)) refl same
nospc_apart xid (Space numbers) quiet same = absurd cc
nospc_apart xid (Mounted handle) quiet same = zero_apart xid (result_text (Mounted handle)) refl same
nospc_apart xid Mounts quiet same = zero_apart xid (result_text Mounts) refl same
nospc_apart xid Exports quiet same = let first : 1 ≡ 28 = firsts xid (result_text Exports) (result_text (Status 28)) same in absurd (omega (arith, first))
