use Rattle.std.proofs.Common.{◌≡◌, ℕ, refl, sym, ap, ◌∙◌, subst, arith}
use Rattle.bx_facts.specs.Writes.{Made}
use Rattle.bx_global.specs.Allowed.{IsAllowed}
use Rattle.bx_global.specs.declared.state.GlobalState.{GlobalState}
use Rattle.bx_plain_store.specs.Fits.{HasSessionsOf}
use Rattle.bx_plain.specs.Begin.{plain_state}
use Rattle.bx_plain.specs.Fits.{IsPlainState}
use Rattle.bx_plain_openings.proofs.Plain.{no_owner, no_writer, plain_names}
use Rattle.bx_plain_parts.proofs.parts.PlainParts.new.Goals as goal

pub returns-clause-new : goal.returns-clause-new
returns-clause-new c = λ x.
    let shape = c.args.shape in
    let s : GlobalState = plain_state shape.nodes shape.devices in
    let store = c.in_ok-store.store in
    let same : c.in_ok-state.state ≡ s = c.in_ok-state.ensures.state in
    let allowed : IsAllowed s = subst IsAllowed same c.in_ok-state.ensures.allowed in
    let state_is : c.new-2.result.state ≡ s = c.new-2.ensures.made.0 ∙ same in
    let owners_nodes : c.new-3.result.nodes ≡ shape.nodes = c.new-3.ensures.0 in
    let store_nodes : store.nodes ≡ shape.nodes = ap (λ (made : Made). made.nodes) c.in_ok-store.ensures.made in
    record {
      register_keeps = record { changes = refl; first = sym state_is; allowed = allowed };
      knows = λ who. state_is;
      owners_new = c.new-3.ensures.1;
      owners_for = (store_nodes ∙ sym owners_nodes, subst (λ (n : ℕ). IsPlainState n s) (sym owners_nodes) (subst (IsPlainState shape.nodes) same c.in_ok-state.ensures.plain));
      store_new = c.in_ok-store.ensures.new;
      store_for = subst (λ (n : ℕ). HasSessionsOf s n store.owns.items) (sym store_nodes) (subst (λ (t : GlobalState). HasSessionsOf t shape.nodes store.owns.items) same c.in_ok-store.ensures.sessions);
      same_boots = refl;
      no_owner = λ node beyond. no_owner c.new-3.result.nodes node (omega (arith, beyond, owners_nodes, store_nodes));
      no_writer = λ node beyond. no_writer c.in_ok-state.state shape.nodes store.owns.items node c.in_ok-store.ensures.sessions (omega (arith, beyond, store_nodes));
      allowed = allowed;
      names = plain_names shape.nodes shape.devices;
    }
