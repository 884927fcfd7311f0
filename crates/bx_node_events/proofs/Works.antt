-- What events behind one another leave of what is under way, and of records in doubt.
use Rattle.std.proofs.Common.{◌≡◌, ◌∙◌, ℕ, Option, Some, refl, sym, ap, subst}
use Rattle.bx_facts.specs.Chains.{Chain, last}
use Rattle.bx_node_events.specs.Works.{KeepsWorks, LeavesWorks}
use Rattle.bx_rows.specs.Words.{row_in}
use Rattle.bx_world_logs.specs.Logs.{Slot}
use Rattle.bx_world_standing.specs.Standing.{Course}
use Rattle.bx_world_views.specs.Views.{Unacknowledged}

pub keeps_all : (c : Course) → KeepsWorks c c
keeps_all c = record { slots = refl; doubts = refl }

pub keeps_on : (a b c : Course) → KeepsWorks a b → KeepsWorks b c → KeepsWorks a c
keeps_on a b c one two = record { slots = two.slots ∙ one.slots; doubts = two.doubts ∙ one.doubts }

-- where all stays, so does what is of other sessions
pub leaves_kept : (own : Option ℕ) (a b : Course) → KeepsWorks a b → LeavesWorks own a b
leaves_kept own a b keeps = record {
  slots = λ session row other has. ap (λ (slots : ℕ → Slot). (slots row.slot).activity) keeps.slots;
  doubts = λ session other. ap (λ (doubts : ℕ → Option Unacknowledged). doubts session) keeps.doubts;
}

pub leaves_on : (own : Option ℕ) (a b c : Course) → b.register.chain ≡ a.register.chain → LeavesWorks own a b → LeavesWorks own b c → LeavesWorks own a c
leaves_on own a b c chain one two = record {
  slots = λ session row other has. two.slots session row other (subst (λ (l : Chain). row_in (last l).sessions session ≡ Some row) (sym chain) has) ∙ one.slots session row other has;
  doubts = λ session other. two.doubts session other ∙ one.doubts session other;
}
