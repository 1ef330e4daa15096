-- A call that was refused before any disk was asked has left it as it was.
use Rattle.std.proofs.Common.{Option, Some, None}
use Rattle.call_fs.specs.Disk.{Disk}
use Rattle.mail_bytes.specs.Told.{Meets, OnTold}

pub stays : (told : Option Disk) (P : Disk → Type 0) (R : Disk → Disk → Type 0) → OnTold told P → ((d : Disk) → P d → R d d) → Meets told told R
stays (Some d) P R holds same = same d holds
stays None P R holds same = tt

pub of_each : (told : Option Disk) (P : Disk → Type 0) → ((d : Disk) → P d) → OnTold told P
of_each (Some d) P all = all d
of_each None P all = tt
