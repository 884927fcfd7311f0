-- What became of the writes of a disk since its last sync.
use Rattle.bx_folder_rack.specs.declared.disk_file.Writes.{Writes}
use Rattle.bx_folder_rack.specs.declared.disk_file.Writes.TheVariants.{Synced, Waiting, Lost}

-- what a write makes of that: where some may be lost, that stays so
abbrev pub after_write : Writes → Writes
after_write Synced = Waiting
after_write Waiting = Waiting
after_write Lost = Lost
