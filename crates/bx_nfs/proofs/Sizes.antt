-- How long replies are.
use Rattle.std.proofs.Common.{◌≡◌, ℕ, ◌+◌, ◌*◌, ◌/◌, ◌%◌, ◌≤◌, List, [], ◌∷◌, ◌++◌, length, replicate, refl, ap, ◌∙◌, arith, sum_by, Bool, true, false}
use Rattle.std.specs.Prelude.{◌==◌, if◌then◌else◌}
use Rattle.std.specs.List.{flat_map}
use Rattle.std.proofs.lemmas.List.{length-append, length-replicate}
use Rattle.std.proofs.lemmas.List.Sums.{sum_by-cons}
use Rattle.bx_base.specs.Bytes.{words}
use Rattle.bx_xdr.specs.Items.{padding_len, word_text, fixed_text, opaque_text}
use Rattle.bx_xdr.proofs.Words.{length-words}
use Rattle.bx_rpc.specs.Replies.{accepted_text, refusal_words, refused_text}
use Rattle.bx_model.specs.declared.reply.Listed.{Listed}
use Rattle.bx_model.specs.declared.reply.Reply.{Reply}
use Rattle.bx_model.specs.declared.reply.Reply.TheVariants.{Refused, Status, Empty, Attributes, Handle, Path, Bytes, List as Listing, Space, Mounted, Mounts, Exports}
use Rattle.bx_nfs.specs.Limits.{entry_cost, IsLimited}
use Rattle.bx_nfs.specs.Results.{listed_text, result_text, reply_text}

-- the length of a text with its padding
padded : ℕ → ℕ
padded n = 4 * ((n + 3) / 4)

padding_fills : (n : ℕ) → n + padding_len n ≡ padded n
unfolding padded
padding_fills n = omega arith

length-fixed : (content : List ℕ) → length (fixed_text content) ≡ padded (length content)
length-fixed content =
    omega (arith, padding_fills (length content), length-append content (replicate (padding_len (length content)) 0), length-replicate {A = ℕ} (padding_len (length content)) 0)

padded_most : (n m : ℕ) → n ≤ 4 * m → padded n ≤ 4 * m
unfolding padded
padded_most n m h = omega arith

length-opaque : (content : List ℕ) → length (opaque_text content) ≡ 4 + padded (length content)
length-opaque content = omega (arith, length-fixed content)

pub record Fourfold (n : ℕ) : Type 0 where
  pub quarter : ℕ
  pub is : n ≡ 4 * quarter

fourfold-padded : (n : ℕ) → Fourfold (padded n)
unfolding padded
fourfold-padded n = record { quarter = (n + 3) / 4; is = refl }

length-listed : (entry : Listed) → length (listed_text entry) ≡ 16 + padded (length entry.name)
length-listed entry = omega (arith, length-append (fixed_text entry.name) (word_text entry.cookie), length-fixed entry.name)

length-entries : (entries : List Listed) → length (flat_map listed_text entries) ≡ sum_by entry_cost entries
length-entries [] = refl
length-entries (entry ∷ entries) =
    omega (arith, length-append (listed_text entry) (flat_map listed_text entries), length-entries entries, sum_by-cons entry_cost entry entries, length-listed entry, length-fixed entry.name)

fourfold-entries : (entries : List Listed) → Fourfold (sum_by entry_cost entries)
fourfold-entries [] = record { quarter = 0; is = refl }
fourfold-entries (entry ∷ entries) =
    let first = fourfold-padded (length entry.name) in
    let others = fourfold-entries entries in
    record { quarter = 4 + first.quarter + others.quarter; is = omega (arith, sum_by-cons entry_cost entry entries, length-fixed entry.name, first.is, others.is) }

-- how many bytes a result has
result_len : Reply → ℕ
result_len (Refused n by) = 0
result_len (Status status) = 4
result_len Empty = 0
result_len (Attributes attributes) = 4 + 4 * length attributes
result_len (Handle handle attributes) = 4 + padded (length handle) + 4 * length attributes
result_len (Path path) = 8 + padded (length path)
result_len (Bytes attributes content) = 8 + 4 * length attributes + padded (length content)
result_len (Listing entries eof) = 12 + sum_by entry_cost entries
result_len (Space numbers) = 4 + 4 * length numbers
result_len (Mounted handle) = 4 + padded (length handle)
result_len Mounts = 4
result_len Exports = 20

length-result : (reply : Reply) → length (result_text reply) ≡ result_len reply
unfolding result_len
length-result (Refused n by) = refl
length-result (Status status) = refl
length-result Empty = refl
length-result (Attributes attributes) = omega (arith, length-words (0 ∷ attributes))
length-result (Handle handle attributes) = omega (arith, length-append (word_text 0 ++ fixed_text handle) (words attributes), length-words attributes, length-fixed handle)
length-result (Path path) = omega (arith, length-fixed path)
length-result (Bytes attributes content) = omega (arith, length-append (words (0 ∷ attributes)) (opaque_text content), length-words (0 ∷ attributes), length-opaque content)
length-result (Listing entries eof) = omega (arith, length-append (word_text 0 ++ flat_map listed_text entries) (words (0 ∷ eof ∷ [])), length-entries entries)
length-result (Space numbers) = omega (arith, length-words (0 ∷ numbers))
length-result (Mounted handle) = omega (arith, length-fixed handle)
length-result Mounts = refl
length-result Exports = refl

fourfold-result : (reply : Reply) → Fourfold (result_len reply)
unfolding result_len
fourfold-result (Refused n by) = record { quarter = 0; is = refl }
fourfold-result (Status status) = record { quarter = 1; is = refl }
fourfold-result Empty = record { quarter = 0; is = refl }
fourfold-result (Attributes attributes) = record { quarter = 1 + length attributes; is = omega arith }
fourfold-result (Handle handle attributes) = let h = fourfold-padded (length handle) in record { quarter = 1 + h.quarter + length attributes; is = omega (arith, h.is) }
fourfold-result (Path path) = let h = fourfold-padded (length path) in record { quarter = 2 + h.quarter; is = omega (arith, h.is) }
fourfold-result (Bytes attributes content) = let h = fourfold-padded (length content) in record { quarter = 2 + length attributes + h.quarter; is = omega (arith, h.is) }
fourfold-result (Listing entries eof) = let h = fourfold-entries entries in record { quarter = 3 + h.quarter; is = omega (arith, h.is) }
fourfold-result (Space numbers) = record { quarter = 1 + length numbers; is = omega arith }
fourfold-result (Mounted handle) = let h = fourfold-padded (length handle) in record { quarter = 1 + h.quarter; is = omega (arith, h.is) }
fourfold-result Mounts = record { quarter = 1; is = refl }
fourfold-result Exports = record { quarter = 5; is = refl }

limited-result : (reply : Reply) → IsLimited reply → result_len reply ≤ 8268
unfolding result_len
limited-result (Refused n by) l = omega arith
limited-result (Status status) l = omega arith
limited-result Empty l = omega arith
limited-result (Attributes attributes) l = omega arith
limited-result (Handle handle attributes) l = omega (arith, l.0, l.1, padded_most (length handle) 8)
limited-result (Path path) l = omega (arith, padded_most (length path) 256)
limited-result (Bytes attributes content) l = omega (arith, l.0, padded_most (length content) 2048 l.1)
limited-result (Listing entries eof) l = omega arith
limited-result (Space numbers) l = omega arith
limited-result (Mounted handle) l = omega (arith, padded_most (length handle) 8)
limited-result Mounts l = omega arith
limited-result Exports l = omega arith

-- a refused call's reply has at most six words behind its number and REPLY
few : (b : Bool) (xs ys : List ℕ) (n : ℕ) → length xs ≤ n → length ys ≤ n → length (if b then xs else ys) ≤ n
few true xs ys n p q = p
few false xs ys n p q = q

refusal-few : (number program : ℕ) → length (refusal_words number program) ≤ 6
refusal-few number program =
    few (number == 1) _ _ 6 (omega arith) (few (number == 2) _ _ 6 (omega arith) (few (number == 3) _ _ 6 (omega arith) (few (number == 4) _ _ 6 (omega arith) (few (number == 5) _ _ 6 (omega arith) (few (number == 6) _ _ 6 (omega arith) (omega arith))))))

length-refused : (xid number program : ℕ) → length (refused_text xid number program) ≡ 8 + 4 * length (refusal_words number program)
length-refused xid number program = omega (arith, length-words (xid ∷ 1 ∷ refusal_words number program))

length-accepted : (xid : ℕ) (tail : List ℕ) → length (accepted_text xid ++ tail) ≡ 24 + length tail
length-accepted xid tail = omega (arith, length-append (accepted_text xid) tail)

fourfold-whole : (n : ℕ) → Fourfold n → n % 4 ≡ 0
fourfold-whole n f = omega (arith, f.is)

-- a reply that isn't a refused call's
length-reply : (xid : ℕ) (reply : Reply) → reply_text xid reply ≡ accepted_text xid ++ result_text reply → length (reply_text xid reply) ≡ 24 + result_len reply
length-reply xid reply is = ap length is ∙ length-accepted xid (result_text reply) ∙ ap (λ (n : ℕ). 24 + n) (length-result reply)

whole : (xid : ℕ) (reply : Reply) → reply_text xid reply ≡ accepted_text xid ++ result_text reply → length (reply_text xid reply) % 4 ≡ 0
whole xid reply is =
    let f = fourfold-result reply in
    fourfold-whole _ (record { quarter = 6 + f.quarter; is = omega (arith, length-reply xid reply is, f.is) })

limit : (xid : ℕ) (reply : Reply) → reply_text xid reply ≡ accepted_text xid ++ result_text reply → IsLimited reply → length (reply_text xid reply) ≤ 8292
limit xid reply is l = omega (arith, length-reply xid reply is, limited-result reply l)

pub reply-whole : (xid : ℕ) (reply : Reply) → length (reply_text xid reply) % 4 ≡ 0
reply-whole xid (Refused n by) = fourfold-whole _ (record { quarter = 2 + length (refusal_words n by); is = omega (arith, length-refused xid n by) })
reply-whole xid (Status status) = whole xid (Status status) refl
reply-whole xid Empty = whole xid Empty refl
reply-whole xid (Attributes attributes) = whole xid (Attributes attributes) refl
reply-whole xid (Handle handle attributes) = whole xid (Handle handle attributes) refl
reply-whole xid (Path path) = whole xid (Path path) refl
reply-whole xid (Bytes attributes content) = whole xid (Bytes attributes content) refl
reply-whole xid (Listing entries eof) = whole xid (Listing entries eof) refl
reply-whole xid (Space numbers) = whole xid (Space numbers) refl
reply-whole xid (Mounted handle) = whole xid (Mounted handle) refl
reply-whole xid Mounts = whole xid Mounts refl
reply-whole xid Exports = whole xid Exports refl

pub reply-limited : (xid : ℕ) (reply : Reply) → IsLimited reply → length (reply_text xid reply) ≤ 8292
reply-limited xid (Refused n by) l = omega (arith, length-refused xid n by, refusal-few n by)
reply-limited xid (Status status) l = limit xid (Status status) refl l
reply-limited xid Empty l = limit xid Empty refl l
reply-limited xid (Attributes attributes) l = limit xid (Attributes attributes) refl l
reply-limited xid (Handle handle attributes) l = limit xid (Handle handle attributes) refl l
reply-limited xid (Path path) l = limit xid (Path path) refl l
reply-limited xid (Bytes attributes content) l = limit xid (Bytes attributes content) refl l
reply-limited xid (Listing entries eof) l = limit xid (Listing entries eof) refl l
reply-limited xid (Space numbers) l = limit xid (Space numbers) refl l
reply-limited xid (Mounted handle) l = limit xid (Mounted handle) refl l
reply-limited xid Mounts l = limit xid Mounts refl l
reply-limited xid Exports l = limit xid Exports refl l
