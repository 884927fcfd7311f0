-- What the disks of a volume stand for, once their blocks are read.
use Rattle.std.proofs.Common.{◌≡◌, ℕ, Bool, inl, inr, sym, ap, ◌∙◌, subst, refl, Result, Ok, Err, IfOk}
use Rattle.std.specs.Prelude.{IfErr}
use Rattle.bx_audit.specs.Audited.{AreOpen, IsAuditRefusal, IsTorn, StandFor, StandForNone}
use Rattle.bx_audit.specs.Blocks.{StandForNoTree, blocks_of}
use Rattle.bx_disk.specs.Disks.{Disks}
use Rattle.bx_global.specs.declared.state.GlobalState.{GlobalState}
use Rattle.bx_homes.specs.Slots.{AreBlocks}
use Rattle.bx_layout.specs.declared.label.Label.{Label}
use Rattle.bx_model.specs.declared.tree.Tree.{Tree}
use Rattle.bx_model.specs.FileTrees.{IsFileTree}
use Rattle.bx_overlay.specs.declared.error.AuditError.{AuditError}
use Rattle.bx_overlay.specs.declared.volume_disks.VolumeDisks.{VolumeDisks}
use Rattle.bx_logs.specs.Members.{member_in}
use Rattle.bx_overlay.specs.Reading.{HoldsTruth, IsRead, IsRefused}
use Rattle.bx_truth.specs.Stands.{StandsFor}
use Rattle.bx_views.specs.Truths.{Truth}
use Rattle.bx_homes.specs.bx_volume.specs.Images.{AreReadFrom, IsFirstLabel, ShowsTree, by_device}

module _ (disks : Disks) (state : GlobalState) (read : VolumeDisks) (is : IsRead disks state read)
    (blocks : (second : ℕ → Bool) (tree : Tree) → IsRead disks state read → AreReadFrom state second → (shows : ShowsTree disks.sizes disks.reads state (by_device second) tree)
    → AreBlocks read.members.areas (blocks_of disks read) shows.truth)
    (truth_of : (truth : Truth) → IsRead disks state read → AreBlocks read.members.areas (blocks_of disks read) truth → HoldsTruth disks.reads state read truth)
    (one_first : (a b : Label) → IsFirstLabel disks.sizes disks.reads a → IsFirstLabel disks.sizes disks.reads b → a ≡ b) where
  -- the tree that a truth with these blocks stands for
  pub stand_for : (truth : Truth) (tree : Tree) → AreBlocks read.members.areas (blocks_of disks read) truth → StandsFor read.members.areas truth tree → IsFileTree tree → tree.volume ≡ read.first.volume
      → StandFor disks state tree
  stand_for truth tree are stands file_tree volume =
      let holds = truth_of truth is are in
      record {
        state = state;
        is_state = refl;
        second = member_in read.members.seconds;
        reads = λ device row there. is.members.sources device row there;
        shows = record {
          first = read.first;
          logs = holds.logs;
          truth = truth;
          shows = record {
            is_first = is.is_first;
            devices = is.accepted.count;
            labelled = λ device row member there source. is.accepted.labelled device row there member source;
            is_truth = holds.is_truth;
          };
          volume = volume;
          stands = subst (λ (n : ℕ). StandsFor n truth tree) is.members.areas stands;
          is = file_tree;
        };
      }

  -- a tree that the disks stand for is one that a truth with these blocks stands for
  stood_for : (tree : Tree) → StandFor disks state tree → (truth : Truth) × AreBlocks read.members.areas (blocks_of disks read) truth × StandsFor read.members.areas truth tree × IsFileTree tree
  stood_for tree stands =
      let shows : ShowsTree disks.sizes disks.reads state (by_device stands.second) tree = subst (λ (s : GlobalState). ShowsTree disks.sizes disks.reads s (by_device stands.second) tree) stands.is_state stands.shows in
      let from : AreReadFrom state stands.second = subst (λ (s : GlobalState). AreReadFrom s stands.second) stands.is_state stands.reads in
      let first = one_first shows.first read.first shows.shows.is_first is.is_first in (
        shows.truth,
        blocks stands.second tree is from shows,
        subst (λ (n : ℕ). StandsFor n shows.truth tree) (ap (λ (l : Label). l.areas) first ∙ sym is.members.areas) shows.stands,
        shows.is,
      )

  pub none_stands : StandForNoTree read.members.areas (blocks_of disks read) → StandForNone disks state
  none_stands none_here = λ tree stands. let s = stood_for tree stands in none_here s.0 s.1 tree s.2 s.3

  -- the records that are open
  pub are_open : AreOpen disks state read.doubt
  are_open = record {
    first = read.first;
    is_first = is.is_first;
    members = read.members;
    are_members = is.members;
    logs = is.overlay.logs;
    are_logs = is.overlay.are;
    points_are = is.overlay.points;
  }

  -- a block is wrong
  pub wrong_blocks : (error : AuditError) → IsTorn read.members.areas (blocks_of disks read) error → StandForNone disks state → IsAuditRefusal disks state error
  wrong_blocks error torn none = record { why = inr record { read = read; is = is; torn = torn }; none = none }

-- disks whose labels, members or logs are refused
pub refused : (disks : Disks) (state : GlobalState) (error : AuditError) → ((second : ℕ → Bool) (tree : Tree) → IsRefused disks state error → AreReadFrom state second → ShowsTree disks.sizes disks.reads state (by_device second) tree → ⊥)
    → IsRefused disks state error → IsAuditRefusal disks state error
refused disks state error never why = record {
  why = inl why;
  none = λ tree stands. never stands.second tree why (subst (λ (s : GlobalState). AreReadFrom s stands.second) stands.is_state stands.reads)
      (subst (λ (s : GlobalState). ShowsTree disks.sizes disks.reads s (by_device stands.second) tree) stands.is_state stands.shows);
}

pub if_err : {A : Type 0} (Q : AuditError → Type 0) (error : AuditError) (now : Result A AuditError) → now ≡ Err error → Q error → IfErr now Q
if_err Q error now is holds = subst (λ r. IfErr r Q) (sym is) holds

pub ok_too : {A : Type 0} (P Q : A → Type 0) (now : Result A AuditError) → ((value : A) → P value → Q value) → IfOk now P → IfOk now Q
ok_too P Q (Ok value) implies holds = implies value holds
ok_too P Q (Err error) implies holds = tt

pub err_too : {A : Type 0} (P Q : AuditError → Type 0) (now : Result A AuditError) → ((error : AuditError) → P error → Q error) → IfErr now P → IfErr now Q
err_too P Q (Ok value) implies holds = tt
err_too P Q (Err error) implies holds = implies error holds
