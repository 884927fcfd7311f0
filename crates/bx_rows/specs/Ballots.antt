-- The order of ballots.
use Rattle.std.specs.Prelude.{◌≡◌, ◌<◌, ◌⊎◌}
use Rattle.std.specs.Ordering.{nat_cmp, on, then_cmp}
use Rattle.std.specs.declared.cmp.Ordering.{Ordering}
use Rattle.bx_rows.specs.declared.ballot.Ballot.{Ballot}

-- the actor and the boot come before others
abbrev pub ActsBefore : Ballot → Ballot → Type 0
ActsBefore a b = (a.actor < b.actor) ⊎ ((a.actor ≡ b.actor) × (a.boot < b.boot))

-- a ballot comes before another: by round, then actor, then boot
abbrev pub ComesBefore : Ballot → Ballot → Type 0
ComesBefore a b = (a.round < b.round) ⊎ ((a.round ≡ b.round) × ActsBefore a b)

-- what compares two ballots
abbrev pub ballot_cmp : Ballot → Ballot → Ordering
ballot_cmp = then_cmp (on (λ b. b.round) nat_cmp) (then_cmp (on (λ b. b.actor) nat_cmp) (on (λ b. b.boot) nat_cmp))
