-- What the fields of a sender keep.
use Rattle.std.specs.Prelude.{◌≡◌, length, IsTrue}
use Rattle.mail_bytes.specs.Moments.{IsMoment}
use Rattle.send_core.specs.declared.sender.Sender.TheInside.{Inside}
use Rattle.send_core.specs.Stands.{Machine, row_of}
use Rattle.send_core.specs.Table.{step_of}

abbrev pub machine_of : Inside → Machine
machine_of i = record { desk = i.desk; present = i.present; ready = i.ready; looked = i.looked; log = i.log.text }

-- the moment is one; and once it has looked, the row and the step are those of what it was told
pub record Holds (i : Inside) : Type 0 where
  pub moment : IsMoment i.present
  pub row : IsTrue i.looked → i.row ≡ row_of (machine_of i)
  pub step : IsTrue i.looked → i.step ≡ step_of (row_of (machine_of i)) (length i.desk.book.read)
