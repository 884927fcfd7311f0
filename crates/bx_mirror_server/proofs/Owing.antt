-- Answers that are owed, as the laws of mirrored devices speak of them.
use Rattle.std.proofs.Common.{◌≡◌, ◌⊎◌, inl, inr, ⊎_elim, Bool, List, [], ◌∷◌, ◌++◌, refl, ap}
use Rattle.bx_base.specs.declared.names.Actor.{Actor}
use Rattle.bx_mirror_laws.specs.Sides.{Among, Copied, Wrote}
use Rattle.bx_mirror_packets.specs.declared.message.CopiedBody.{CopiedBody}
use Rattle.bx_mirror_packets.specs.declared.message.WroteBody.{WroteBody}
use Rattle.bx_mirror_tables.specs.declared.answers.Answer.{Answer}
use Rattle.bx_mirror_tables.specs.declared.answers.Answer.TheVariants as answers
use Rattle.bx_mirror_tables.specs.declared.answers.Owing.{Owing}
use Rattle.bx_mirror_member.specs.Steps.{owing}
use Rattle.bx_mirror_server.specs.Sides.{copied_in, with_copied, with_wrote, wrote_in}

-- the answer to a write of a member
abbrev pub wrote_by : Bool → WroteBody → Wrote
wrote_by b v = record { by = b; session = v.session; epoch = v.epoch; sequence = v.sequence }

abbrev pub copied_by : Bool → CopiedBody → Copied
copied_by b v = record { by = b; epoch = v.epoch; place = v.place }

-- ---- an answer to a write more

with_still : (b : Bool) (answer : Answer) (old new : List Wrote) (w : Wrote) → (Among old w → Among new w) → Among (with_wrote b answer old) w → Among (with_wrote b answer new) w
with_still b (answers.Wrote u) old new w more there = elim there.is [ inl e ↦ record { is = inl e } | inr t ↦ record { is = inr (more (record { is = t })).is } ]
with_still b (answers.Copied u) old new w more there = more there

with_it : (b : Bool) (answer : Answer) (new : List Wrote) (w : Wrote) → Among new w → Among (with_wrote b answer new) w
with_it b (answers.Wrote u) new w there = record { is = inr there.is }
with_it b (answers.Copied u) new w there = there

with_only : (b : Bool) (answer : Answer) (old new : List Wrote) (v w : Wrote) → (Among new w → (w ≡ v) ⊎ Among old w) → Among (with_wrote b answer new) w → (w ≡ v) ⊎ Among (with_wrote b answer old) w
with_only b (answers.Wrote u) old new v w more there = elim there.is [
  | inl e ↦ inr (record { is = inl e })
  | inr t ↦ ⊎_elim inl (λ (k : Among old w). inr (record { is = inr k.is })) (more (record { is = t }))
]
with_only b (answers.Copied u) old new v w more there = more there

pub wrote_still : (b : Bool) (owed : List Owing) (to : Actor) (v : WroteBody) (w : Wrote) → Among (wrote_in b owed) w → Among (wrote_in b (owed ++ owing to (answers.Wrote v) ∷ [])) w
wrote_still b [] to v w there = absurd there.is
wrote_still b (o ∷ owed) to v w there = with_still b o.answer (wrote_in b owed) (wrote_in b (owed ++ owing to (answers.Wrote v) ∷ [])) w (λ h. wrote_still b owed to v w h) there

pub wrote_it : (b : Bool) (owed : List Owing) (to : Actor) (v : WroteBody) → Among (wrote_in b (owed ++ owing to (answers.Wrote v) ∷ [])) (wrote_by b v)
wrote_it b [] to v = record { is = inl refl }
wrote_it b (o ∷ owed) to v = with_it b o.answer (wrote_in b (owed ++ owing to (answers.Wrote v) ∷ [])) (wrote_by b v) (wrote_it b owed to v)

pub wrote_only : (b : Bool) (owed : List Owing) (to : Actor) (v : WroteBody) (w : Wrote) → Among (wrote_in b (owed ++ owing to (answers.Wrote v) ∷ [])) w → (w ≡ wrote_by b v) ⊎ Among (wrote_in b owed) w
wrote_only b [] to v w there = elim there.is [ inl e ↦ inl e | inr t ↦ absurd t ]
wrote_only b (o ∷ owed) to v w there = with_only b o.answer (wrote_in b owed) (wrote_in b (owed ++ owing to (answers.Wrote v) ∷ [])) (wrote_by b v) w (λ h. wrote_only b owed to v w h) there

-- it is none to a copy
pub copied_same : (b : Bool) (owed : List Owing) (to : Actor) (v : WroteBody) → copied_in b (owed ++ owing to (answers.Wrote v) ∷ []) ≡ copied_in b owed
copied_same b [] to v = refl
copied_same b (o ∷ owed) to v = ap (λ (cs : List Copied). with_copied b o.answer cs) (copied_same b owed to v)

-- ---- an answer to a piece of a copy more

piece_only : (b : Bool) (answer : Answer) (old new : List Copied) (v w : Copied) → (Among new w → (w ≡ v) ⊎ Among old w) → Among (with_copied b answer new) w → (w ≡ v) ⊎ Among (with_copied b answer old) w
piece_only b (answers.Wrote u) old new v w more there = more there
piece_only b (answers.Copied u) old new v w more there = elim there.is [
  | inl e ↦ inr (record { is = inl e })
  | inr t ↦ ⊎_elim inl (λ (k : Among old w). inr (record { is = inr k.is })) (more (record { is = t }))
]

pub copied_only : (b : Bool) (owed : List Owing) (to : Actor) (v : CopiedBody) (w : Copied) → Among (copied_in b (owed ++ owing to (answers.Copied v) ∷ [])) w → (w ≡ copied_by b v) ⊎ Among (copied_in b owed) w
copied_only b [] to v w there = elim there.is [ inl e ↦ inl e | inr t ↦ absurd t ]
copied_only b (o ∷ owed) to v w there = piece_only b o.answer (copied_in b owed) (copied_in b (owed ++ owing to (answers.Copied v) ∷ [])) (copied_by b v) w (λ h. copied_only b owed to v w h) there

pub wrote_same : (b : Bool) (owed : List Owing) (to : Actor) (v : CopiedBody) → wrote_in b (owed ++ owing to (answers.Copied v) ∷ []) ≡ wrote_in b owed
wrote_same b [] to v = refl
wrote_same b (o ∷ owed) to v = ap (λ (ws : List Wrote). with_wrote b o.answer ws) (wrote_same b owed to v)
