-- What contracts of audits speak of, in one place: blocks that can be read, what is shown of their chunks, the truth that they are of, and what tears an audit.
pub use Rattle.bx_audit_pages.specs.Errors.{IfTorn}
pub use Rattle.bx_audit_pages.specs.Reading.{ReadsChunks, StillShows}
pub use Rattle.bx_audit_pages.specs.Shown.{Shows}
pub use Rattle.bx_homes.specs.Reading.{CanRead}
pub use Rattle.bx_truth.specs.PageTrees.{Chunks}
pub use Rattle.bx_views.specs.Truths.{Truth}
