-- The lines of the recipients of one message.
use Rattle.std.specs.Prelude.{◌≡◌, ℕ, List}
use Rattle.call_fs.specs.Disk.{Disk}
use Rattle.mem_fs.specs.MemDisk.{disk_of}
use Rattle.mail_world.specs.History.{Event, after}
use Rattle.world_events.specs.declared.books.Entry.{Entry}
use Rattle.scenario.specs.declared.overview.Overview.{Overview}
use Rattle.script_traces.specs.declared.fates.RecipientFate.{RecipientFate}
use Rattle.scenario.specs.declared.showing.Given.{Given}
use Rattle.script_fates.specs.Fates.{AreFates}
use Rattle.scenario.specs.Shown.{View, entry_lines, fates_of}

-- the lines of a mail by its entry in the books, and by what its injector was given
abbrev pub given_lines : View → Entry × Given → List ℕ
given_lines v mail = entry_lines v mail.0 mail.1.envelope.now

-- what became of its recipients, by the same
abbrev pub given_fates : View → Entry × Given → List RecipientFate
given_fates v mail = fates_of v mail.0 mail.1.envelope.now

-- it was read of a world in which this happened, since it began with this disk
pub record IsOf (o : Overview) (d : Disk) (h : List Event) : Type 0 where
  pub disk : disk_of o.disk.now.held ≡ (after d h).disk
  pub fates : AreFates o.fates.now (after d h).books
