-- What an event leaves of a store: all goes on fitting, and so does what was settled, stood or is read, where members write nothing else.
use Rattle.std.specs.Prelude.{◌≡◌, ℕ, ◌≤◌, List, Some}
use Rattle.bx_disk.specs.Disks.{Disks}
use Rattle.bx_facts.specs.Writes.{IsOnly, StorePast}
use Rattle.bx_mirror_client.specs.declared.asking.Asking.{Asking}
use Rattle.bx_mirror_cluster.specs.GoingOn.{IsSameRead}
use Rattle.bx_mirror_cluster.specs.Fitting.{IsSettledOn, Keeps, Parts, StandsOn, WillReadOn}

pub record GoesFurther (parts next : Parts) (x y : Disks) (past then_ : StorePast) : Type 0 where
  pub keeps : Keeps next y then_
  pub settles : (d sector : ℕ) (content : List ℕ) → IsOnly past.writes past.told.greatest d sector content → IsSettledOn parts x past d sector content → IsSettledOn next y then_ d sector content
  pub stands : (d sector : ℕ) (content : List ℕ) (index : ℕ) → IsOnly past.writes past.told.greatest d sector content → StandsOn parts x past d sector content index → StandsOn next y then_ d sector content index
  pub reads : (reader : ℕ) (read : Asking) (sector : ℕ) (content : List ℕ) → (parts.nodes reader).asks ≡ Some read → IsOnly past.writes past.told.greatest read.device sector content → WillReadOn parts x past reader read sector content → WillReadOn next y then_ reader read sector content
  -- the streams are as they were, and so are the store's writes; the greatest reading may have risen
  pub nodes : next.nodes ≡ parts.nodes
  pub writes : then_.writes ≡ past.writes
  pub rises : past.told.greatest ≤ then_.told.greatest

-- What a node's event leaves: the same, whatever members write, and each read that is out is one that was.
pub record StreamsGo (parts next : Parts) (x : Disks) (past then_ : StorePast) : Type 0 where
  pub keeps : Keeps next x then_
  pub settles : (d sector : ℕ) (content : List ℕ) → IsSettledOn parts x past d sector content → IsSettledOn next x then_ d sector content
  pub stands : (d sector : ℕ) (content : List ℕ) (index : ℕ) → StandsOn parts x past d sector content index → StandsOn next x then_ d sector content index
  pub asks : (reader : ℕ) (read : Asking) → (next.nodes reader).asks ≡ Some read → (was : Asking) × ((parts.nodes reader).asks ≡ Some was) × IsSameRead was read
  pub reads : (reader : ℕ) (was read : Asking) (sector : ℕ) (content : List ℕ) → (parts.nodes reader).asks ≡ Some was → (next.nodes reader).asks ≡ Some read → WillReadOn parts x past reader was sector content → WillReadOn next x then_ reader read sector content
