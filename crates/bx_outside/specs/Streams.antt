-- What a reader or a writer of std shows as a source or a sink.
use Rattle.std.specs.Prelude.{ℕ}

-- the reader or the writer, and how often it has failed
pub record Counted (Stream : Type 0) : Type 0 where
  pub stream : Stream
  pub faults : ℕ
