-- How the parts of a page are seen, and what they have to be.
use Rattle.bx_page.specs.declared.reading.Parts.{Parts}
use Rattle.bx_page.specs.Contents.{Contents, IsInOrder, HasChildren}

abbrev pub seen : Parts → Contents
seen parts = record { level = parts.level; right = parts.right; high = parts.high; entries = parts.entries.items }

-- Beside the limits of each part: the entries are in order, and above the leaves they name children.
pub record AreFit (page : Contents) : Type 0 where
  pub order : IsInOrder page
  pub children : HasChildren page
