use Rattle.std.proofs.Common.{ℕ, List, arith}
use Rattle.std.specs.Prelude.{Err}
use Rattle.bx_blink.specs.Walks.{Reads}
use Rattle.bx_blink.specs.declared.error.BlinkError.{BlinkError}
use Rattle.bx_blink.specs.declared.error.BlinkError.TheVariants.{Need, Stale, Full, NoRoom, Absent, Present, OutOfMemory, Crowded}
use Rattle.bx_leaves.specs.Leaves.{LeafOf}
use Rattle.bx_ready.specs.Rooms.{FindsFull}
use Rattle.bx_ready.proofs.rooms.full_leaf.Goals as goal

-- what isn't a leaf isn't a full one
stops : (reads : Reads) (root : ℕ) (key : List ℕ) (error : BlinkError) → LeafOf reads root key (Err error) → FindsFull reads root key (Err error)
stops reads root key (Need at mode) of = of
stops reads root key Stale of = of
stops reads root key OutOfMemory of = tt
stops reads root key (Full spare) of = of
stops reads root key (NoRoom leaf) of = of
stops reads root key Absent of = of
stops reads root key Present of = of
stops reads root key Crowded of = of

pub returns-in-Err : goal.returns-in-Err
returns-in-Err g c = stops _ c.args.root c.args.key.now c.in-Err.error c.in-Err.ensures

pub returns-then-room-lt-ROOM : goal.returns-then-room-lt-ROOM
returns-then-room-lt-ROOM g c = record {
  page = c.in-Ok.page;
  leaf = c.in-Ok.ensures;
  full = let r = c.room.ensures in let l = c.if-room-lt-ROOM.true in omega (arith, r, l);
}

pub returns-else-room-lt-ROOM : goal.returns-else-room-lt-ROOM
returns-else-room-lt-ROOM g c = record {
  handle = c.in-Ok.handle;
  page = c.in-Ok.page;
  leaf = c.in-Ok.ensures;
  room = let r = c.room.ensures in let l = c.if-room-lt-ROOM.false in omega (arith, r, l);
}
