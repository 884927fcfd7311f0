use Rattle.std.proofs.Common.{◌++◌, ◌∷◌, ◌∙◌, ap}
use Rattle.std.specs.Fmt.{decimal, styled_decimal}
use Rattle.bx_listing.proofs.Texts.{time_text-written}
use Rattle.bx_listing.proofs.listings.time_text.Goals as goal

pub returns : goal.returns
returns c = c.in_ok-text.ensures.ok ∙ ap (λ spec. decimal c.args.time.0 ++ 46 ∷ styled_decimal spec c.args.time.1) c.laid_out.ensures ∙ time_text-written c.args.time
