use Rattle.std.proofs.Common.{◌∙◌, ◌==◌, ℕ, List, ap}
use Rattle.std.specs.List.{list_any}
use Rattle.bx_clerk.specs.Places.{Place}
use Rattle.bx_clerk.specs.Requests.{is_asked}
use Rattle.bx_clerk.proofs.Placing.{asked_found}
use Rattle.bx_clerk.proofs.asks.Asks.is_asked.Goals as goal

pub returns : goal.returns
returns c =
    c.is_asked_at.ensures
    ∙ ap (λ (places : List Place). list_any (λ place. place.0 == c.args.asking) places) (c.self.invariant.by_block c.args.block)
    ∙ asked_found c.args.block c.args.asking c.self.inside.line.entries
    ∙ ap (λ (asks : List (ℕ × ℕ)). is_asked (c.args.block, c.args.asking) asks) c.self.view_is
