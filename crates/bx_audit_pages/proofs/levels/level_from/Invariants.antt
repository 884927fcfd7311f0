use Rattle.std.proofs.Common.{◌≤◌, List, [], ◌++◌, length, Ok}
use Rattle.std.specs.Prelude.{All}
use Rattle.bx_page.specs.Keys.{IsBelow}
use Rattle.bx_truth.specs.PageTrees.{Chunks, Node}
use Rattle.bx_audit_pages.specs.Pages.{BeginningsRise}
use Rattle.bx_audit_pages.specs.Leading.{AreLedTo, IsLedTo}
use Rattle.bx_audit_pages.specs.Room.{room_above}
use Rattle.bx_audit_pages.specs.Shown.{Shows}
use Rattle.bx_audit_pages.specs.Torn.{ComesTo}
use Rattle.bx_audit_pages.proofs.Walk.{Walks}
use Rattle.bx_audit_pages.specs.Reading.{ReadsChunks, StillShows}
use Rattle.bx_audit_pages.proofs.levels.level_from.Given as goal

abbrev pub invariant-loop-begins : goal.invariant-loop-begins
invariant-loop-begins g l = record {
  blocks : ReadsChunks {A = Unit {0}} g.B.Blocks l.fn.blocks l.blocks (Ok tt);
  shows : StillShows g.B.Blocks l.areas l.fn.blocks l.blocks;
  here : (chunks : Chunks) → Shows (g.B.Blocks.tells l.fn.blocks) l.areas (g.B.Blocks.stands l.fn.blocks) chunks → IsLedTo chunks l.first l.handle;
  met : (chunks : Chunks) → Shows (g.B.Blocks.tells l.fn.blocks) l.areas (g.B.Blocks.stands l.fn.blocks) chunks → ComesTo chunks l.level l.first l.begins l.handle;
  led : (chunks : Chunks) → Shows (g.B.Blocks.tells l.fn.blocks) l.areas (g.B.Blocks.stands l.fn.blocks) chunks → AreLedTo chunks l.first l.pages.items;
  short : length l.begins ≤ 256;
  rise : BeginningsRise l.pages.items;
  below : All (λ (node : Node). IsBelow node.begins l.begins) l.pages.items;
  read : (chunks : Chunks) → Shows (g.B.Blocks.tells l.fn.blocks) l.areas (g.B.Blocks.stands l.fn.blocks) chunks → (rest : List Node)
      → Walks chunks l.level l.handle l.begins rest → Walks chunks l.level l.first [] (l.pages.items ++ rest);
  any : (chunks : Chunks) → Shows (g.B.Blocks.tells l.fn.blocks) l.areas (g.B.Blocks.stands l.fn.blocks) chunks → (nodes : List Node)
      → Walks chunks l.level l.first [] nodes → (rest : List Node) × Walks chunks l.level l.handle l.begins rest;
}

abbrev pub decreases-loop-begins : goal.decreases-loop-begins
decreases-loop-begins g l = room_above l.begins
