use Rattle.std.proofs.Common.{None, Option, ℕ, sym, subst, IsSome, ◌∙◌}
use Rattle.bx_plain_store.proofs.Places.{at_read}
use Rattle.bx_plain_store.proofs.parts.session_at.Goals as goal

pub unwrap-requires : goal.unwrap-requires
unwrap-requires c = subst (λ (o : Option ℕ). IsSome o) (sym (at_read c.args.owns.now c.args.place None c.requires.place)) c.requires.some

pub returns : goal.returns
returns c = sym (at_read c.args.owns.now c.args.place None c.requires.place) ∙ c.unwrap.ensures
