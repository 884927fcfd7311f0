-- An image shows one tree.
use Rattle.std.proofs.Common.{◌≡◌, ℕ, ◌<◌, Bool, List, sym, ap, ◌∙◌, subst}
use Rattle.bx_disk.specs.Disks.{Image}
use Rattle.bx_rows.specs.declared.session.SessionRow.{SessionRow}
use Rattle.bx_global.specs.declared.state.GlobalState.{GlobalState}
use Rattle.bx_layout.specs.declared.label.Label.{Label}
use Rattle.bx_tree_laws.specs.bx_model.specs.declared.tree.Tree.{Tree}
use Rattle.bx_truth.specs.Chunks.{chunks_of}
use Rattle.bx_volume.specs.Images.{IsFirstLabel, ShowsTree, devices_of}
use Rattle.bx_volume.specs.Records.{Logged, HasLog, newest_in}
use Rattle.bx_truth.specs.Stands.{StandsFor}
use Rattle.bx_truth.specs.Truth.{AreSame}
use Rattle.bx_truth.specs.bx_views.specs.Truths.{Truth}
use Rattle.bx_volume.specs.Overlay.{Logs, IsOverlaidTruth}
use Rattle.bx_truth.proofs.OneFiles.{one_list}
use Rattle.bx_volume.proofs.OneLog.{one_has_log}
use Rattle.bx_volume.proofs.OneTruth.{one_truth}
use Rattle.bx_truth.proofs.Same.{stands_same}

-- the logs of slots from 8 on don't matter
by_other_logs : (held : Image) (devices areas : ℕ) (rows : List SessionRow) (logs other : Logs) (truth : Truth) → IsOverlaidTruth held devices areas rows logs truth
    → ((slot : ℕ) → slot < 8 → logs slot ≡ other slot) → IsOverlaidTruth held devices areas rows other truth
by_other_logs held devices areas rows logs other truth is same = record {
  has_logs = λ slot less. subst (HasLog rows held devices areas slot) (same slot less) (is.has_logs slot less);
  logged = λ slot at block less some. is.logged slot at block less (ap (λ (l : List Logged). newest_in l at) (same slot less) ∙ some);
  home = λ at is_block unlogged. is.home at is_block (λ slot less. ap (λ (l : List Logged). newest_in l at) (same slot less) ∙ unlogged slot less);
}

pub any_truth : (held : Image) (devices areas : ℕ) (rows : List SessionRow) (logs other : Logs) (a b : Truth)
    → IsOverlaidTruth held devices areas rows logs a → IsOverlaidTruth held devices areas rows other b → AreSame areas a b
any_truth held devices areas rows logs other a b is_a is_b =
    one_truth held devices areas rows logs a b is_a
    (by_other_logs held devices areas rows other logs b is_b (λ slot less. one_has_log rows held devices areas slot (other slot) (logs slot) (is_b.has_logs slot less) (is_a.has_logs slot less)))

pub one_shown : (sizes : List ℕ) (image : Image) (state : GlobalState) (second : ℕ → ℕ → Bool) (a b : Tree) → ((x y : Label) → IsFirstLabel sizes image x → IsFirstLabel sizes image y → x ≡ y)
    → ShowsTree sizes image state second a → ShowsTree sizes image state second b → (a.files ≡ b.files) × (a.volume ≡ b.volume) × (a.areas ≡ b.areas) × (a.root ≡ b.root)
one_shown sizes image state second a b one_label x y =
    let labels = one_label x.first y.first x.shows.is_first y.shows.is_first in
    let is_y : IsOverlaidTruth (devices_of image second) x.first.devices x.first.areas state.sessions y.logs y.truth =
    subst (λ (l : Label). IsOverlaidTruth (devices_of image second) l.devices l.areas state.sessions y.logs y.truth) (sym labels) y.shows.is_truth in
    let same = any_truth (devices_of image second) x.first.devices x.first.areas state.sessions y.logs x.logs y.truth x.truth is_y x.shows.is_truth in
    let other : StandsFor x.first.areas x.truth b = stands_same x.first.areas y.truth x.truth same b (subst (λ (l : Label). StandsFor l.areas y.truth b) (sym labels) y.stands) in
    let this = x.stands in (
      one_list (chunks_of x.first.areas x.truth) this.owner other.owner this.stored other.stored a.files b.files this.in_order other.in_order this.are_files other.are_files,
      x.volume ∙ ap (λ (l : Label). l.volume) labels ∙ sym y.volume,
      this.areas_are ∙ sym other.areas_are,
      this.root_is ∙ sym other.root_is,
    )
