-- What comes first has the properties of the whole.
use Rattle.std.proofs.Common.{ℕ, List, [], ◌∷◌, ◌++◌, refl, ap}
use Rattle.bx_script.specs.declared.trace_line.TraceLine.{TraceLine}
use Rattle.bx_script.specs.declared.trace_line.TraceLine.TheVariants.{Took, Acted, Reply, Again}
use Rattle.bx_history.specs.Trace.{Entry, FitsNewest}
use Rattle.bx_history.specs.Legal.{LeadsNewest}
use Rattle.bx_history.specs.Parts.{Part}
use Rattle.bx_history.specs.Placed.{Rules, PlacedNewest}
use Rattle.bx_history.specs.Laws.{FrontFits}

pub front_fits : (kept : ℕ) (newer older : List TraceLine) (history : List Entry) → FitsNewest kept (newer ++ older) history → FrontFits kept older history
front_fits kept [] older history fits = record { later = []; earlier = history; whole = refl; fits = fits }
front_fits kept (Took call node client bytes ∷ newer) older history fits = front_fits kept newer older history fits.1
front_fits kept (Acted point ∷ newer) older [] fits = absurd fits
front_fits kept (Acted point ∷ newer) older (entry ∷ earlier) fits =
    let front = front_fits kept newer older earlier fits.1 in
    record { later = entry ∷ front.later; earlier = front.earlier; whole = ap (λ (h : List Entry). entry ∷ h) front.whole; fits = front.fits }
front_fits kept (Reply call reply ∷ newer) older history fits = front_fits kept newer older history fits.1
front_fits kept (Again node client reply ∷ newer) older history fits = front_fits kept newer older history fits.1

pub front_placed : (rules : Rules) (newer older : List Part) → PlacedNewest rules (newer ++ older) → PlacedNewest rules older
front_placed rules [] older placed = placed
front_placed rules (part ∷ newer) older placed = front_placed rules newer older placed.1

pub front_leads : {Tree : Type 0} (Step : Tree → Entry → Tree → Type 0) (first last : Tree) (later earlier : List Entry) → LeadsNewest Step first (later ++ earlier) last
    → (middle : Tree) × LeadsNewest Step first earlier middle
front_leads Step first last [] earlier leads = (last, leads)
front_leads Step first last (entry ∷ later) earlier leads = front_leads Step first leads.0 later earlier leads.1
