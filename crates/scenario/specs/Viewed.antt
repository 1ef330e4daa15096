-- What is read of a world for `show` and `sum`.
use Rattle.mem_fs.specs.MemDisk.{disk_of}
use Rattle.queue_law.specs.Books.{Books}
use Rattle.scenario.specs.declared.overview.Overview.{Overview}
use Rattle.scenario.specs.Shown.{View}

-- what the disk says, with these books
abbrev pub view_at : Overview → Books → View
view_at o books = record { disk = disk_of o.disk.now.held; books = books }
