-- What an audit is asked of: once the disks of a rack have lost what was unsure, they stand for a tree, in the state that they tell.
use Rattle.std.proofs.Common.{◌≡◌, inl, inr, ℕ, Bool, true, false, ◌||◌, List, Option, Some, None, refl, sym, ◌∙◌, ap, subst, arith}
use Rattle.std.specs.Prelude.{◌↔◌, ◌==◌, not, slice_get}
use Rattle.std.proofs.lemmas.Bool.Decides.{nat_tests}
use Rattle.bx_disk.specs.Disks.{Disks, Image, IsImage}
use Rattle.bx_global.specs.declared.state.GlobalState.{GlobalState}
use Rattle.bx_model.specs.declared.tree.Tree.{Tree}
use Rattle.bx_rows.specs.declared.device.DeviceRow.{DeviceRow}
use Rattle.bx_rows.specs.Modes.{IsReadAtA, IsSource}
use Rattle.bx_volume.specs.Images.{AreReadFrom, AreSources, ImageStandsFor, ShowsTree, by_device}
use Rattle.bx_volume.specs.Volumes.{IsVolumeFor, Reading}

-- which member reads go to
abbrev pub is_at_a : ℕ → Bool
is_at_a mode = (mode == 0) || ((mode == 1) || (mode == 3))

abbrev pub second_in : Option DeviceRow → Bool
second_in None = false
second_in (Some row) = not (is_at_a row.mode)

abbrev pub read_second : GlobalState → ℕ → Bool
read_second state device = second_in (slice_get state.devices device)

at_a : (mode : ℕ) → (not (is_at_a mode) ≡ false) → IsReadAtA mode
at_a mode is = by (mode == 0) (mode == 1) (mode == 3) refl refl refl
  where
    by : (x y z : Bool) → (mode == 0) ≡ x → (mode == 1) ≡ y → (mode == 3) ≡ z → IsReadAtA mode
    by true y z a b c = inl (grind (arith, nat_tests, a))
    by false true z a b c = inr (inl (grind (arith, nat_tests, b)))
    by false false true a b c = inr (inr (grind (arith, nat_tests, c)))
    by false false false a b c = absurd (let e : not (is_at_a mode) ≡ true = rw (a, b, c) refl in cc)

not_b : (mode : ℕ) → IsReadAtA mode → not (is_at_a mode) ≡ false
not_b mode (inl is) = rw is refl
not_b mode (inr (inl is)) = rw is refl
not_b mode (inr (inr is)) = rw is refl

pub reads_from : (state : GlobalState) → AreReadFrom state (read_second state)
reads_from state device row is = (
  λ first. at_a row.mode (sym (ap second_in is) ∙ first),
  λ at. ap second_in is ∙ not_b row.mode at,
)

pub sources_of : (state : GlobalState) (second : ℕ → Bool) → AreReadFrom state second → AreSources state (by_device second)
sources_of state second reads device sector row is = by (second device) refl (reads device row is)
  where
    by : (b : Bool) → second device ≡ b → (second device ≡ false) ↔ IsReadAtA row.mode → IsSource row.mode b
    by false first both = both.0 first
    by true other both = inr (λ at. let e = both.1 at in cc)

-- The disks that a crash leaves of a volume stand for a tree, as an audit asks.
pub audit_stands : (x y : Disks) (IsState : Image → GlobalState → Type 0) (devices areas : ℕ) (After : Tree → Tree → Type 0) (tree : Tree) (s : GlobalState) → IsVolumeFor x IsState devices areas After tree
    → y.sizes ≡ x.sizes → IsImage x y.reads → IsState y.reads s
    → (after : Tree) × After tree after × ImageStandsFor y.sizes (λ image told. told ≡ s) y.reads after
audit_stands x y IsState devices areas After tree s volume sizes left is = (
  stood.0,
  stood.1,
  record {
    state = s;
    is_state = refl;
    second = read_second s;
    reads = reads_from s;
    shows = subst (λ (n : List ℕ). ShowsTree n y.reads s (by_device (read_second s)) stood.0) (sym sizes) stood.2;
  },
)
  where
    reading : Reading x IsState
    reading = record { image = y.reads; is_image = left; state = s; is_state = is; second = by_device (read_second s); sources = sources_of s (read_second s) (reads_from s) }

    stood : (after : Tree) × After tree after × ShowsTree x.sizes y.reads s (by_device (read_second s)) after
    stood = volume.stands reading
