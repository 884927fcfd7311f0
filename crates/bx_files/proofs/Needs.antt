-- What is needed along a path is needed along a wider one.
use Rattle.std.proofs.Common.{◌≡◌, ℕ, ◌+◌, ◌*◌, ◌/◌, ◌%◌, ◌<◌, ◌≤◌, arith, subst, inl, inr}
use Rattle.std.specs.Prelude.{◌⊎◌, min, ◌-◌, Err}
use Rattle.std.proofs.lemmas.Bool.{cases_lt}
use Rattle.bx_base.specs.declared.names.Mode.{Mode}
use Rattle.bx_inodes.specs.declared.stop.Stop.{Stop}
use Rattle.bx_inodes.specs.declared.stop.Stop.TheVariants.{Need, Inner, Status, OutOfMemory}
use Rattle.bx_inodes.specs.Stops.{NeedsOn}
use Rattle.bx_layout.specs.declared.inode.Inode.{Inode}
use Rattle.bx_views.specs.Truths.{Held, Hints}
use Rattle.bx_files.specs.Paths.{OnPiece, OnPieces, OnRead}

pub needs_along : (T U : Type 0) (areas : ℕ) (held : Held) (Path Wider : ℕ → Mode → Type 0) → ((at : ℕ) (mode : Mode) → Path at mode → Wider at mode) → (stop : Stop)
    → NeedsOn areas held Path {T = T} (Err stop) → NeedsOn areas held Wider {T = U} (Err stop)
needs_along T U areas held Path Wider wider (Need at mode) needs = (needs.0, needs.1, wider at mode needs.2)
needs_along T U areas held Path Wider wider (Inner blocks) needs = tt
needs_along T U areas held Path Wider wider (Status status) needs = tt
needs_along T U areas held Path Wider wider OutOfMemory needs = tt

module _ (held : Held) (hints : Hints) where
  pub piece_on : (root first len number index : ℕ) → index ≡ first + number → 4096 * number < len → (at : ℕ) (mode : Mode) → OnPiece held hints root index at mode → OnPieces held hints root first len at mode
  piece_on root first len number index is less at mode on =
      let same : index ≡ first + 4096 * number / 4096 = omega (arith, is) in
      record { place = 4096 * number; within = less; on = subst (λ (n : ℕ). OnPiece held hints root n at mode) same on }

  pub read_on : (inode : Inode) (offset count start len : ℕ) → start ≡ min offset inode.size → len ≡ min (inode.size - start) count → 0 < len → (at : ℕ) (mode : Mode)
      → OnPieces held hints inode.tree (start / 4096) (start % 4096 + len) at mode → OnRead held hints inode offset count at mode
  read_on inode offset count start len start_is len_is some at mode on = by (cases_lt on.place (start % 4096))
    where
      at_start : start ≡ offset
      at_start = omega (arith, start_is, len_is, some)

      by : (on.place < start % 4096) ⊎ (start % 4096 ≤ on.place) → OnRead held hints inode offset count at mode
      by (inl low) =
          let same : start / 4096 + on.place / 4096 ≡ start / 4096 = omega (arith, low) in
          record {
            place = start;
            from = omega (arith, at_start);
            to = omega (arith, at_start, len_is, some);
            within = omega (arith, len_is, some);
            on = subst (λ (n : ℕ). OnPiece held hints inode.tree n at mode) same on.on;
          }
      by (inr high) =
          let in_len = on.within in
          let place : ℕ = 4096 * (start / 4096) + on.place in
          let same : start / 4096 + on.place / 4096 ≡ place / 4096 = omega arith in
          record {
            place = place;
            from = omega (arith, at_start, high);
            to = omega (arith, at_start, len_is, in_len);
            within = omega (arith, len_is, in_len);
            on = subst (λ (n : ℕ). OnPiece held hints inode.tree n at mode) same on.on;
          }
