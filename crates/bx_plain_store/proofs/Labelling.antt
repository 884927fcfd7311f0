-- Labels are written where no member is that an audit reads.
use Rattle.std.proofs.Common.{◌≡◌, ◌≢◌, ◌⊎◌, ⊎_elim, inl, inr, ℕ, ◌<◌, ◌≤◌, Bool, true, false, List, refl, sym, ◌∙◌, ap, subst, arith}
use Rattle.std.specs.Prelude.{bytes_eq}
use Rattle.std.specs.Cmp.Lexicographic.{bytes_decides}
use Rattle.bx_disk.specs.Disks.{Disks, Image, IsImage}
use Rattle.bx_base.specs.Writing.{padded}
use Rattle.bx_calls.specs.Calls.{HasSure, KeepsAll, KeepsSure, LeavesOnly}
use Rattle.bx_calls.specs.Laws.{leaves_implies}
use Rattle.bx_global.specs.declared.state.GlobalState.{GlobalState}
use Rattle.bx_layout.specs.Labels.{IsLabel, SpellsLabel, label_text}
use Rattle.bx_layout.specs.declared.label.Label.{Label}
use Rattle.bx_facts.specs.Disks.{SameDisks}
use Rattle.bx_facts.specs.Writes.{HasLabels, IsSourceIn, Made, label_on, member_disk}
use Rattle.bx_plain_store.specs.Sources.{HasSources, KeepsSources}

pub record LacksLabel (x : Disks) (disk : ℕ) (label : Label) : Type 0 where
  pub none : SpellsLabel label (x.reads disk 0) → ⊥

apart : (made : Made) (s : GlobalState) (x : Disks) (disk device : ℕ) (second : Bool) → HasLabels made x s → LacksLabel x disk (label_on made disk) → IsSourceIn s device second → member_disk device second ≢ disk
apart made s x disk device second labels without source same = without.none (subst (λ (d : ℕ). SpellsLabel (label_on made d) (x.reads d 0)) same (labels.reads device second source))

far : (d disk : ℕ) → d < 3 → 3 ≤ disk → d ≢ disk
far d disk less past same = omega (arith, less, past, same)

pub keeps_written : (made : Made) (s : GlobalState) (x y : Disks) (disk count : ℕ) → 3 ≤ disk → HasLabels made x s → LacksLabel x disk (label_on made disk) → KeepsSure x y disk 0 count → KeepsSources s x y
keeps_written made s x y disk count past labels without keeps = record {
  members = λ device second sector source.
      let other = apart made s x disk device second labels without source in
      record { reads = keeps.reads.elsewhere (member_disk device second) sector other; sure = keeps.sure.elsewhere (member_disk device second) sector other };
  replicas = λ d sector less.
      let other = far d disk less past in
      record { reads = keeps.reads.elsewhere d sector other; sure = keeps.sure.elsewhere d sector other };
}

pub has_written : (made : Made) (s : GlobalState) (x : Disks) (disk count : ℕ) (image : Image) → 3 ≤ disk → HasLabels made x s → LacksLabel x disk (label_on made disk) → HasSure x disk 0 count image → HasSources s x image
has_written made s x disk count image past labels without has = record {
  members = λ device second sector source sure. has.outside.elsewhere (member_disk device second) sector (apart made s x disk device second labels without source) sure;
  replicas = λ d sector less sure. has.outside.elsewhere d sector (far d disk less past) sure;
}

pub keeps_same : (s : GlobalState) (x y : Disks) → SameDisks x y → KeepsSources s x y
keeps_same s x y same = record { members = λ device second sector source. same.each (member_disk device second) sector; replicas = λ d sector less. same.each d sector }

pub has_image : (s : GlobalState) (x : Disks) (image : Image) → IsImage x image → HasSources s x image
has_image s x image is = record { members = λ device second sector source sure. is.sure (member_disk device second) sector sure; replicas = λ d sector less sure. is.sure d sector sure }

pub leaves_image : (before now : ℕ) (past since : ℕ → Image → Type 0) (s : GlobalState) (x : Disks) → LeavesOnly before now past since (IsImage x) → LeavesOnly before now past since (HasSources s x)
leaves_image before now past since s x leaves = leaves_implies before now past since (IsImage x) (HasSources s x) leaves (λ image is. has_image s x image is)

pub leaves_written : (before now : ℕ) (past since : ℕ → Image → Type 0) (made : Made) (s : GlobalState) (x : Disks) (disk count : ℕ) → 3 ≤ disk → HasLabels made x s → LacksLabel x disk (label_on made disk)
    → LeavesOnly before now past since (HasSure x disk 0 count) → LeavesOnly before now past since (HasSources s x)
leaves_written before now past since made s x disk count member labels without leaves =
    leaves_implies before now past since (HasSure x disk 0 count) (HasSources s x) leaves (λ image has. has_written made s x disk count image member labels without has)

-- a sector is this label, or isn't
has_label : (label : Label) (sector : List ℕ) → IsLabel label → SpellsLabel label sector ⊎ (SpellsLabel label sector → ⊥)
has_label label sector is = by (bytes_eq sector text) refl
  where
    text : List ℕ
    text = padded 512 (label_text label)

    by : (b : Bool) → bytes_eq sector text ≡ b → SpellsLabel label sector ⊎ (SpellsLabel label sector → ⊥)
    by true same = inl (record { is = is; parts = (bytes_decides sector text).0 same })
    by false other = inr (λ spelled. absurd (let h = sym other ∙ (bytes_decides sector text).1 spelled.parts in cc))

all_kept : (x y : Disks) (disk : ℕ) → KeepsAll x y disk → SameDisks x y
all_kept x y disk all = record { each = λ d s. record { reads = ap (λ (reads : ℕ → ℕ → List ℕ). reads d s) all.reads; sure = all.sure d s } }

-- A disk that gets its label where it has another or none: where an audit reads it, it has it.
pub label_keeps : (made : Made) (s : GlobalState) (x y : Disks) (disk : ℕ) → 3 ≤ disk → IsLabel (label_on made disk) → HasLabels made x s → KeepsSure x y disk 0 1 → (SpellsLabel (label_on made disk) (x.reads disk 0) → KeepsAll x y disk) → KeepsSources s x y
label_keeps made s x y disk past is labels keeps had = ⊎_elim
    (λ spelled. keeps_same s x y (all_kept x y disk (had spelled)))
    (λ (without : SpellsLabel (label_on made disk) (x.reads disk 0) → ⊥). keeps_written made s x y disk 1 past labels (record { none = without }) keeps)
    (has_label (label_on made disk) (x.reads disk 0) is)

pub label_leaves : (before now : ℕ) (past_since since : ℕ → Image → Type 0) (made : Made) (s : GlobalState) (x : Disks) (disk : ℕ) → 3 ≤ disk → IsLabel (label_on made disk) → HasLabels made x s
    → LeavesOnly before now past_since since (HasSure x disk 0 1) → (SpellsLabel (label_on made disk) (x.reads disk 0) → LeavesOnly before now past_since since (IsImage x)) → LeavesOnly before now past_since since (HasSources s x)
label_leaves before now past_since since made s x disk past is labels leaves had = ⊎_elim
    (λ spelled. leaves_image before now past_since since s x (had spelled))
    (λ (without : SpellsLabel (label_on made disk) (x.reads disk 0) → ⊥). leaves_written before now past_since since made s x disk 1 past labels (record { none = without }) leaves)
    (has_label (label_on made disk) (x.reads disk 0) is)
