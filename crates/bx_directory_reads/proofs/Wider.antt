-- What is needed along a path is needed along a wider one.
use Rattle.std.proofs.Common.{ℕ}
use Rattle.std.specs.Prelude.{Result, Ok, Err}
use Rattle.bx_base.specs.declared.names.Mode.{Mode}
use Rattle.bx_reads.specs.bx_files.proofs.Needs.{needs_along}
use Rattle.bx_reads.specs.bx_inodes.specs.declared.stop.Stop.{Stop}
use Rattle.bx_reads.specs.bx_inodes.specs.Stops.{NeedsOn}
use Rattle.bx_views.specs.Truths.{Held}

pub needs_wider : (T : Type 0) (areas : ℕ) (held : Held) (Path Wider : ℕ → Mode → Type 0) → ((at : ℕ) (mode : Mode) → Path at mode → Wider at mode) → (result : Result T Stop) → NeedsOn areas held Path result
    → NeedsOn areas held Wider result
needs_wider T areas held Path Wider wider (Ok found) needs = tt
needs_wider T areas held Path Wider wider (Err stop) needs = needs_along T T areas held Path Wider wider stop needs
