-- What a remote spawner does next, as a function of its own past (qmail-rspawn(8)): what both spawners do (spawner_parts
-- `specs/Table.antt`), in its own way.
use Rattle.std.specs.Prelude.{ℕ, List, [], ◌∷◌}
use Rattle.call_fs.specs.declared.past.ChildData.{ChildData}
use Rattle.call_fs.specs.declared.past.ChildData.TheVariants as child
use Rattle.call_fs.specs.declared.past.NeedData.{NeedData}
use Rattle.call_fs.specs.declared.past.NeedData.TheVariants as needs
use Rattle.call_fs.specs.declared.past.Own.{Own}
use Rattle.call_fs.specs.declared.program.Ready.{Ready}
use Rattle.spawn_protocol.specs.declared.request.Request.{Request}
use Rattle.spawner_parts.specs.declared.place.Place.{Place}
use Rattle.spawner_parts.specs.declared.row.Row.{Row}
use Rattle.spawner_parts.specs.declared.row.Row.TheVariants as at
use Rattle.spawner_parts.specs.Asked.{domain_of}
use Rattle.spawner_parts.specs.Table.{Kind, act, begun, due_at, row_now}
use Rattle.remote_spawn.specs.Reports.{crashed, report_of}

-- its program is given the message as it was read
abbrev pub readied : Place → Place
readied p = record p { row = at.Start }

abbrev pub as_read : List ℕ → List ℕ
as_read message = message

-- a program that couldn't be started counts as crashed
abbrev pub remote : Kind
remote = record { readied = readied; given = as_read; unstarted = crashed; ended = report_of }

-- the program of a request
abbrev pub program_of : Request → ChildData
program_of r = child.Remote r.slot (domain_of r.recipient) r.sender r.recipient

abbrev pub start_of : Request → NeedData
start_of r = needs.Start (program_of r)

-- what is due at a row
abbrev pub due_from : Row → Place → NeedData
due_from row p = due_at (program_of p.request) row p

-- The past

abbrev pub moved : Place → Own → Place
moved p event = act remote (row_now p event.ready) event.came p

-- where it stands after a past, newest event first
abbrev pub place_after : List Own → Place
place_after [] = begun
place_after (event ∷ before) = moved (place_after before) event

abbrev pub due_by : Place → Ready → NeedData
due_by p ready = due_from (row_now p ready) p

-- What a remote spawner does next: after this past, newest event first, with this ready. It has no arguments, and the moment
-- makes no difference.
abbrev pub Next : Unit {0} → List Own → ℕ → Ready → NeedData
Next args past now ready = due_by (place_after past) ready
