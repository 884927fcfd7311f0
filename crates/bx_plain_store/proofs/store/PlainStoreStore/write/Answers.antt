use Rattle.std.proofs.Common.{◌≡◌, ◌<◌, ℕ, false, List, Option, Some, length, set, sym, ◌∙◌, ap, subst, arith}
use Rattle.bx_facts.specs.Chains.{last}
use Rattle.bx_facts.specs.Writes.{AreRuns, Made, MayWrite, Sent, store_with, writing}
use Rattle.bx_records.specs.declared.runs.Run.{Run}
use Rattle.bx_plain_store.specs.declared.writes.Write.{Write}
use Rattle.bx_plain_store.specs.Out.{at, out_in, sent_of}
use Rattle.bx_plain_store.proofs.Serving.{at_beside, at_here}
use Rattle.bx_plain_store.specs.Fits.{Keeps}
use Rattle.bx_plain_store.specs.Parts.{made_of}
use Rattle.bx_plain_store.proofs.Places.{some_within}
use Rattle.bx_plain_store.proofs.Sending.{keeps_sent}
use Rattle.bx_plain_store.proofs.Shapes.{shape_sent}
use Rattle.bx_plain_store.proofs.store.PlainStoreStore.write.Goals as goal

pub session_at-session-requires-clause-place : goal.session_at-session-requires-clause-place
session_at-session-requires-clause-place c = rw c.deref.ensures.value (some_within c.args.self.now.owns.items c.args.node c.requires.session)

pub index_mut-requires : goal.index_mut-requires
index_mut-requires c =
    let less = some_within c.args.self.now.owns.items c.args.node c.requires.session in
    let shape = c.args.self.now.shape in
    omega (arith, less, shape.owns_long, shape.slots_long)

pub invariant_of-self : goal.invariant_of-self
invariant_of-self c =
    let st = c.args.self.now in
    let low = some_within st.owns.items c.args.node c.requires.session in
    let less : c.args.node < length st.slots.items = omega (arith, low, st.shape.owns_long, st.shape.slots_long) in
    record { shape = shape_sent _ st.owns.items st.slots.items st.inquiries.items st.down.items c.args.node _ less (subst (AreRuns _) (sym c.in_ok-runs.ensures) c.requires.runs) st.shape }

pub returns-clause-keeps : goal.returns-clause-keeps
returns-clause-keeps c = λ x past session keeps up own may.
    let st = c.args.self.now in
    let low = some_within st.owns.items c.args.node c.requires.session in
    let less : c.args.node < length st.slots.items = omega (arith, low, st.shape.owns_long, st.shape.slots_long) in
    let is = ap (λ (xs : List (Option ℕ)). at xs c.args.node) (sym c.deref.ensures.value) ∙ c.session_at-session.ensures in
    let same : session ≡ c.session_at-session.result = (let h = sym own ∙ is in cc) in
    let w : Write = record { session = c.session_at-session.result; until = c.args.until; runs = c.in_ok-runs.runs; is_written = false } in
    let sent : ℕ → List Run → Sent = λ n runs. record { session = n; until = c.args.until; runs = runs } in
    let one : sent_of w ≡ sent session c.args.runs.now.1 = ap (λ (n : ℕ). sent n c.in_ok-runs.runs) (sym same) ∙ ap (sent session) c.in_ok-runs.ensures in
    let made : Made = made_of st.volume st.nodes st.devices st.areas in
    subst (λ (v : Sent). Keeps made st.greatest st.owns.items (set st.slots.items c.args.node (Some w)) x (store_with (writing past v) c.args._out.now)) one
    (keeps_sent made st.greatest st.owns.items st.slots.items x past c.args._out.now c.args._out.now c.args.node w keeps is (subst (AreRuns made) (sym c.in_ok-runs.ensures) c.requires.runs)
    (subst (MayWrite past.writes past.told.greatest (last past.told.chain)) (sym one) may) less)

pub returns-clause-is_out : goal.returns-clause-is_out
returns-clause-is_out c = λ session own.
    let st = c.args.self.now in
    let low = some_within st.owns.items c.args.node c.requires.session in
    let less : c.args.node < length st.slots.items = omega (arith, low, st.shape.owns_long, st.shape.slots_long) in
    let is = ap (λ (xs : List (Option ℕ)). at xs c.args.node) (sym c.deref.ensures.value) ∙ c.session_at-session.ensures in
    let same : session ≡ c.session_at-session.result = (let h = sym own ∙ is in cc) in
    let sent : ℕ → List Run → Sent = λ n runs. record { session = n; until = c.args.until; runs = runs } in
    ap out_in (at_here st.slots.items c.args.node _ less) ∙ ap Some (ap (λ (n : ℕ). sent n c.in_ok-runs.runs) (sym same) ∙ ap (sent session) c.in_ok-runs.ensures)

pub returns-clause-others : goal.returns-clause-others
returns-clause-others c = λ other apart. ap out_in (at_beside c.args.self.now.slots.items c.args.node other _ apart)
