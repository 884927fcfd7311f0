-- What members owe, as letters and as the laws of devices speak of it.
use Rattle.std.proofs.Common.{◌≡◌, ◌⊎◌, inl, inr, ◌<◌, Bool, Contains, List, [], ◌∷◌, ◌++◌, map, refl, sym, ◌∙◌, ap, subst, arith}
use Rattle.bx_facts.proofs.Lists.{behind, front, front_or_behind, nothing}
use Rattle.bx_post.specs.declared.packets.Letter.{Letter}
use Rattle.bx_mirror_laws.specs.Sides.{Among, Copied, Wrote}
use Rattle.bx_mirror_packets.specs.DeviceMessages.{IsDeviceMessage, Spells, kind_of}
use Rattle.bx_mirror_packets.specs.declared.message.CopiedBody.{CopiedBody}
use Rattle.bx_mirror_packets.specs.declared.message.DeviceMessage.{DeviceMessage}
use Rattle.bx_mirror_packets.specs.declared.message.DeviceMessage.TheVariants as messages
use Rattle.bx_mirror_packets.specs.declared.message.WroteBody.{WroteBody}
use Rattle.bx_mirror_packets.proofs.Spelled.{one_message}
use Rattle.bx_mirror_tables.specs.Owed.{message_of}
use Rattle.bx_mirror_tables.specs.declared.answers.Answer.{Answer}
use Rattle.bx_mirror_tables.specs.declared.answers.Answer.TheVariants as answers
use Rattle.bx_mirror_tables.specs.declared.answers.Owing.{Owing}
use Rattle.bx_mirror_member.specs.Standing.{MemberView as Serving}
use Rattle.bx_mirror_member.specs.Steps.{answer_letter}
use Rattle.bx_mirror_server.specs.Sides.{copied_in, with_copied, with_wrote, wrote_in}

-- ---- lists behind each other

pub among_front : {A : Type 0} (xs ys : List A) (a : A) → Among xs a → Among (xs ++ ys) a
among_front [] ys a there = absurd there.is
among_front (x ∷ xs) ys a there = elim there.is [ inl e ↦ record { is = inl e } | inr more ↦ record { is = inr (among_front xs ys a (record { is = more })).is } ]

pub among_behind : {A : Type 0} (xs ys : List A) (a : A) → Among ys a → Among (xs ++ ys) a
among_behind [] ys a there = there
among_behind (x ∷ xs) ys a there = record { is = inr (among_behind xs ys a there).is }

pub among_or : {A : Type 0} (xs ys : List A) (a : A) → Among (xs ++ ys) a → Among xs a ⊎ Among ys a
among_or [] ys a there = inr there
among_or (x ∷ xs) ys a there = elim there.is [
  | inl e ↦ inl (record { is = inl e })
  | inr more ↦ elim (among_or xs ys a (record { is = more })) [ inl one ↦ inl (record { is = inr one.is }) | inr other ↦ inr other ]
]

pub in_map : {A B : Type 0} (f : A → B) (xs : List A) (y : B) → Contains (map f xs) y → (x : A) × Contains xs x × (f x ≡ y)
in_map f [] y there = absurd (nothing y there)
in_map f (x ∷ xs) y there = elim (front_or_behind (f x) (map f xs) y there) [
  | inl here ↦ (x, front x xs, here)
  | inr more ↦ (let k = in_map f xs y more in (k.0, behind x xs k.0 k.1, k.2))
]

-- ---- an answer that is owed is among them

wrote_front : (b : Bool) (answer : Answer) (all : List Wrote) (w : Wrote) → Among all w → Among (with_wrote b answer all) w
wrote_front b (answers.Wrote v) all w there = record { is = inr there.is }
wrote_front b (answers.Copied v) all w there = there

copied_front : (b : Bool) (answer : Answer) (all : List Copied) (w : Copied) → Among all w → Among (with_copied b answer all) w
copied_front b (answers.Wrote v) all w there = there
copied_front b (answers.Copied v) all w there = record { is = inr there.is }

pub among_wrote : (b : Bool) (owed : List Owing) (o : Owing) (v : WroteBody) → Contains owed o → o.answer ≡ answers.Wrote v → Among (wrote_in b owed) (record { by = b; session = v.session; epoch = v.epoch; sequence = v.sequence })
among_wrote b [] o v there is = absurd (nothing o there)
among_wrote b (p ∷ owed) o v there is = elim (front_or_behind p owed o there) [
  | inl here ↦ subst (λ (a : Answer). Among (with_wrote b a (wrote_in b owed)) (record { by = b; session = v.session; epoch = v.epoch; sequence = v.sequence })) (sym (ap (λ (q : Owing). q.answer) here ∙ is)) (record { is = inl refl })
  | inr more ↦ wrote_front b p.answer (wrote_in b owed) (record { by = b; session = v.session; epoch = v.epoch; sequence = v.sequence }) (among_wrote b owed o v more is)
]

pub among_copied : (b : Bool) (owed : List Owing) (o : Owing) (v : CopiedBody) → Contains owed o → o.answer ≡ answers.Copied v → Among (copied_in b owed) (record { by = b; epoch = v.epoch; place = v.place })
among_copied b [] o v there is = absurd (nothing o there)
among_copied b (p ∷ owed) o v there is = elim (front_or_behind p owed o there) [
  | inl here ↦ subst (λ (a : Answer). Among (with_copied b a (copied_in b owed)) (record { by = b; epoch = v.epoch; place = v.place })) (sym (ap (λ (q : Owing). q.answer) here ∙ is)) (record { is = inl refl })
  | inr more ↦ copied_front b p.answer (copied_in b owed) (record { by = b; epoch = v.epoch; place = v.place }) (among_copied b owed o v more is)
]

-- ---- what a letter of an answer says

kind_high : (a : Answer) → 18 < kind_of (message_of a)
kind_high (answers.Wrote v) = omega arith
kind_high (answers.Copied v) = omega arith

pub answer_high : (m : Serving) (o : Owing) → 18 < (answer_letter m o).kind
answer_high m o = kind_high o.answer

-- it says this alone
pub answer_says : (m : Serving) (o : Owing) (letter : Letter) (message : DeviceMessage) → IsDeviceMessage (message_of o.answer) → answer_letter m o ≡ letter → Spells message letter.kind letter.body → message ≡ message_of o.answer
answer_says m o letter message fits is spells =
    one_message message (message_of o.answer) letter.kind letter.body spells
    (subst (λ (l : Letter). Spells (message_of o.answer) l.kind l.body) is (record { is = fits; kind_is = refl; body_is = refl }))

pub says_wrote : (a : Answer) (w : WroteBody) → messages.Wrote w ≡ message_of a → a ≡ answers.Wrote w
says_wrote (answers.Wrote v) w is = let same : w ≡ v = cc in ap answers.Wrote (sym same)
says_wrote (answers.Copied v) w is = absurd cc

pub says_copied : (a : Answer) (c : CopiedBody) → messages.Copied c ≡ message_of a → a ≡ answers.Copied c
says_copied (answers.Wrote v) c is = absurd cc
says_copied (answers.Copied v) c is = let same : c ≡ v = cc in ap answers.Copied (sym same)

-- and is no other kind
pub answer_kind : (a : Answer) (message : DeviceMessage) → message ≡ message_of a → (kind_of message ≡ 19) ⊎ (kind_of message ≡ 23)
answer_kind (answers.Wrote v) message is = inl (ap kind_of is)
answer_kind (answers.Copied v) message is = inr (ap kind_of is)
