-- How the fields of a page are seen.
use Rattle.bx_page.specs.declared.page.Page.TheInside.{Inside}
use Rattle.bx_page.specs.Contents.{Contents, IsPage}

abbrev pub contents_of : Inside → Contents
contents_of page = record { level = page.level; right = page.right; high = page.high; entries = page.entries.items }

abbrev pub HoldsPage : Inside → Type 0
HoldsPage page = IsPage (contents_of page)
