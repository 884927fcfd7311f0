-- What a member tells apart: whether an answer is owed already, and whether a piece's answer is that of its current one.
use Rattle.std.proofs.Common.{◌≡◌, ◌≢◌, ◌⊎◌, inl, inr, ⊎_elim, ℕ, Bool, true, false, Contains, List, [], ◌∷◌, Option, Some, None, refl, sym, ◌∙◌, ap, subst, arith}
use Rattle.bx_base.specs.declared.names.Actor.{Actor}
use Rattle.bx_facts.proofs.Lists.{behind, front, front_or_behind, nothing}
use Rattle.bx_facts.proofs.Machines.{is_itself, is_one}
use Rattle.bx_facts.specs.Machines.{is_same}
use Rattle.bx_rows.specs.declared.device.DeviceRow.{DeviceRow}
use Rattle.bx_mirror_laws.specs.Acting.{boot_in}
use Rattle.bx_mirror_packets.specs.declared.message.CopiedBody.{CopiedBody}
use Rattle.bx_mirror_packets.specs.declared.message.WroteBody.{WroteBody}
use Rattle.bx_mirror_tables.specs.declared.answers.Answer.{Answer}
use Rattle.bx_mirror_tables.specs.declared.answers.Answer.TheVariants as answers
use Rattle.bx_mirror_tables.specs.declared.answers.Owing.{Owing}
use Rattle.bx_mirror_member.specs.Acting.{IsNoted}
use Rattle.bx_mirror_member.specs.Standing.{MemberView as Serving, copy_from, device_in, is_second}

same_or : (n m : ℕ) → (n ≡ m) ⊎ (n ≢ m)
same_or n m = grind arith

actor_or : (a b : Actor) → (a ≡ b) ⊎ (a ≢ b)
actor_or a b = by (is_same a b) refl
  where
    by : (t : Bool) → is_same a b ≡ t → (a ≡ b) ⊎ (a ≢ b)
    by true e = inl (is_one a b e)
    by false e = inr (λ same. let yes_it = subst (λ (c : Actor). is_same a c ≡ true) same (is_itself a) in let wrong : true ≡ false = sym yes_it ∙ e in cc)

-- two that differ in a part differ
part : {A B : Type 0} → (f : A → B) (a b : A) → f a ≢ f b → a ≢ b
part f a b apart e = apart (ap f e)

wrote_or : (a b : WroteBody) → (a ≡ b) ⊎ (a ≢ b)
wrote_or a b = ⊎_elim
    (λ (s : a.session ≡ b.session). ⊎_elim
    (λ (d : a.device ≡ b.device). ⊎_elim
    (λ (e : a.epoch ≡ b.epoch). ⊎_elim
    (λ (q : a.sequence ≡ b.sequence). inl (λ i. record { session = s i; device = d i; epoch = e i; sequence = q i }))
    (λ (n : a.sequence ≢ b.sequence). inr (part (λ (w : WroteBody). w.sequence) a b n))
    (same_or a.sequence b.sequence))
    (λ (n : a.epoch ≢ b.epoch). inr (part (λ (w : WroteBody). w.epoch) a b n))
    (same_or a.epoch b.epoch))
    (λ (n : a.device ≢ b.device). inr (part (λ (w : WroteBody). w.device) a b n))
    (same_or a.device b.device))
    (λ (n : a.session ≢ b.session). inr (part (λ (w : WroteBody). w.session) a b n))
    (same_or a.session b.session)

copied_or : (a b : CopiedBody) → (a ≡ b) ⊎ (a ≢ b)
copied_or a b = ⊎_elim
    (λ (d : a.device ≡ b.device). ⊎_elim
    (λ (e : a.epoch ≡ b.epoch). ⊎_elim
    (λ (p : a.place ≡ b.place). inl (λ i. record { device = d i; epoch = e i; place = p i }))
    (λ (n : a.place ≢ b.place). inr (part (λ (w : CopiedBody). w.place) a b n))
    (same_or a.place b.place))
    (λ (n : a.epoch ≢ b.epoch). inr (part (λ (w : CopiedBody). w.epoch) a b n))
    (same_or a.epoch b.epoch))
    (λ (n : a.device ≢ b.device). inr (part (λ (w : CopiedBody). w.device) a b n))
    (same_or a.device b.device)

answer_or : (a b : Answer) → (a ≡ b) ⊎ (a ≢ b)
answer_or (answers.Wrote v) (answers.Wrote w) = ⊎_elim (λ e. inl (ap answers.Wrote e)) (λ n. inr (λ e. n (let same : v ≡ w = cc in same))) (wrote_or v w)
answer_or (answers.Wrote v) (answers.Copied w) = inr (λ e. cc)
answer_or (answers.Copied v) (answers.Wrote w) = inr (λ e. cc)
answer_or (answers.Copied v) (answers.Copied w) = ⊎_elim (λ e. inl (ap answers.Copied e)) (λ n. inr (λ e. n (let same : v ≡ w = cc in same))) (copied_or v w)

owing_or : (a b : Owing) → (a ≡ b) ⊎ (a ≢ b)
owing_or a b = ⊎_elim
    (λ (t : a.to ≡ b.to). ⊎_elim
    (λ (e : a.answer ≡ b.answer). inl (λ i. record { to = t i; answer = e i }))
    (λ (n : a.answer ≢ b.answer). inr (part (λ (w : Owing). w.answer) a b n))
    (answer_or a.answer b.answer))
    (λ (n : a.to ≢ b.to). inr (part (λ (w : Owing). w.to) a b n))
    (actor_or a.to b.to)

pub owed_or : (owed : List Owing) (o : Owing) → Contains owed o ⊎ (Contains owed o → ⊥)
owed_or [] o = inr (λ there. nothing o there)
owed_or (p ∷ owed) o = ⊎_elim
    (λ (e : p ≡ o). inl (subst (Contains (p ∷ owed)) e (front p owed)))
    (λ (n : p ≢ o). ⊎_elim (λ there. inl (behind p owed o there)) (λ none. inr (λ there. ⊎_elim (λ e. n e) none (front_or_behind p owed o there))) (owed_or owed o))
    (owing_or p o)

-- ---- the answer to the current piece

pub noted_or : (m : Serving) (c : CopiedBody) → ((row : DeviceRow) × IsNoted m c row) ⊎ ((row : DeviceRow) → IsNoted m c row → ⊥)
noted_or m c = by m.row refl
  where
    by : (o : Option DeviceRow) → m.row ≡ o → ((row : DeviceRow) × IsNoted m c row) ⊎ ((row : DeviceRow) → IsNoted m c row → ⊥)
    by None e = inr (λ row noted. let wrong : None ≡ Some row = sym e ∙ noted.acts.row_is in cc)
    by (Some r) e = ⊎_elim
        (λ (d : c.device ≡ device_in m). ⊎_elim
        (λ (n : boot_in (is_second m) r ≡ m.boot). ⊎_elim
        (λ (p : r.epoch ≡ c.epoch). ⊎_elim
        (λ (s : r.mode ≡ copy_from (is_second m)). ⊎_elim
        (λ (q : c.place ≡ m.place). inl (r, record { acts = record { device_is = d; row_is = e; named = n; epoch_is = p }; source = s; current = q }))
        (λ (a : c.place ≢ m.place). inr (λ row noted. a noted.current))
        (same_or c.place m.place))
        (λ (a : r.mode ≢ copy_from (is_second m)). inr (λ row noted. a (ap (λ (z : DeviceRow). z.mode) (its row noted) ∙ noted.source)))
        (same_or r.mode (copy_from (is_second m))))
        (λ (a : r.epoch ≢ c.epoch). inr (λ row noted. a (ap (λ (z : DeviceRow). z.epoch) (its row noted) ∙ noted.acts.epoch_is)))
        (same_or r.epoch c.epoch))
        (λ (a : boot_in (is_second m) r ≢ m.boot). inr (λ row noted. a (ap (λ (z : DeviceRow). boot_in (is_second m) z) (its row noted) ∙ noted.acts.named)))
        (same_or (boot_in (is_second m) r) m.boot))
        (λ (a : c.device ≢ device_in m). inr (λ row noted. a noted.acts.device_is))
        (same_or c.device (device_in m))
      where
        its : (row : DeviceRow) → IsNoted m c row → r ≡ row
        its row noted = let both_rows : Some r ≡ Some row = sym e ∙ noted.acts.row_is in cc
