-- What a local spawner does next, as a function of its own past (qmail-lspawn(8)). In its start it reads users/assign; then it does
-- what both spawners do (spawner_parts `specs/Table.antt`), in its own way. Of each row: what is done there (`due_at`), and where
-- what came of it leads (`act`).
use Rattle.std.specs.Prelude.{ℕ, List, [], ◌∷◌, ◌++◌, length, Bool, true, false, Option, Some, None, if◌then◌else◌, nat_lt, unwrap_or, codes}
use Rattle.call_fs.specs.declared.file_system.TheConstants.{PIECE}
use Rattle.call_fs.specs.declared.calls.Answer.{Answer}
use Rattle.call_fs.specs.declared.calls.Answer.TheVariants as answer
use Rattle.call_fs.specs.declared.calls.CallData.TheVariants as call
use Rattle.call_fs.specs.declared.calls.Fd.{Fd}
use Rattle.call_fs.specs.declared.calls.FsError.TheVariants as why
use Rattle.call_fs.specs.declared.calls.How.TheVariants as how
use Rattle.call_fs.specs.declared.past.ChildData.{ChildData}
use Rattle.call_fs.specs.declared.past.ChildData.TheVariants as child
use Rattle.call_fs.specs.declared.past.GotData.{GotData}
use Rattle.call_fs.specs.declared.past.GotData.TheVariants as came
use Rattle.call_fs.specs.declared.past.NeedData.{NeedData}
use Rattle.call_fs.specs.declared.past.NeedData.TheVariants as needs
use Rattle.call_fs.specs.declared.past.Own.{Own}
use Rattle.call_fs.specs.declared.program.Ready.{Ready}
use Rattle.queue_limits.specs.declared.statuses.TheConstants.{MEMORY}
use Rattle.spawner_parts.specs.declared.place.Place.{Place as Work}
use Rattle.spawner_parts.specs.declared.row.Row.{Row as WorkRow}
use Rattle.spawner_parts.specs.declared.row.Row.TheVariants as work_at
use Rattle.spawner_parts.specs.Table as parts
use Rattle.local_spawn.specs.declared.assign.Assignment.{Assignment}
use Rattle.local_spawn.specs.declared.delivery.Delivery.{Delivery}
use Rattle.local_spawn.specs.declared.place.Place.{Place}
use Rattle.local_spawn.specs.declared.row.Row.{Row}
use Rattle.local_spawn.specs.declared.row.Row.TheVariants as at
use Rattle.local_spawn.specs.Deliveries.{crashed, delivery_for, local_report, refusal}
use Rattle.mail_bytes.specs.Netstring.{netstring}
use Rattle.local_spawn.specs.Users.{users_in}

abbrev pub no_delivery : Delivery
no_delivery = record {
  words = record { user = []; home = []; local = []; dash = []; ext = []; domain = []; sender = []; line = [] };
  uid = 0;
}

abbrev pub begun : Place
begun = record { row = at.OpenUsers; text = []; users = None; delivery = no_delivery; work = parts.begun }

-- Its start

abbrev pub users_name : List ℕ
users_name = codes "users/assign"

-- the users are known, or can't be
abbrev pub serves : Option (List Assignment) → Place → Place
serves users p = record p { row = at.Serves; text = []; users = users }

-- without the file there are no users
abbrev pub users_opened_by : Answer → Place → Place
users_opened_by (answer.Opened fd) p = record p { row = at.ReadUsers fd }
users_opened_by (answer.Refused why.NotThere) p = serves (Some []) p
users_opened_by (answer.Refused why.Memory) p = record p { row = at.OutOfMemory }
users_opened_by told p = serves None p

abbrev pub users_opened : GotData → Place → Place
users_opened (came.Answered told) p = users_opened_by told.answer p
users_opened other p = serves None p

-- a piece that isn't full is the last one
abbrev pub users_row : Fd → List ℕ → Row
users_row fd bytes = if nat_lt (length bytes) PIECE then at.CloseUsers fd true else at.ReadUsers fd

abbrev pub users_read_by : Fd → Answer → List ℕ → Place → Place
users_read_by fd (answer.Count count) bytes p = record p { row = users_row fd bytes; text = p.text ++ bytes }
users_read_by fd told bytes p = record p { row = at.CloseUsers fd false }

abbrev pub users_read : Fd → GotData → Place → Place
users_read fd (came.Answered told) p = users_read_by fd told.answer told.bytes p
users_read fd other p = record p { row = at.CloseUsers fd false }

abbrev pub users_closed : Bool → Place → Place
users_closed true p = serves (users_in p.text) p
users_closed false p = serves None p

-- Its own way of serving requests: once the message was read, the user is looked for.

abbrev pub readied_by : Option Delivery → List ℕ → Work → Work
readied_by None report p = parts.answers report p
readied_by (Some delivery) report p = record p { row = work_at.Start; message = netstring p.message }

abbrev pub readied : Option (List Assignment) → Work → Work
readied users p = readied_by (delivery_for users p.request) (refusal users) p

abbrev pub local_kind : Option (List Assignment) → parts.Kind
local_kind users = record { readied = readied users; given = netstring; unstarted = crashed; ended = local_report }

-- which delivery is to be started
abbrev pub delivery_after : WorkRow → Place → Delivery
delivery_after (work_at.CloseMess fd true) p = unwrap_or (delivery_for p.users p.work.request) p.delivery
delivery_after row p = p.delivery

abbrev pub served : WorkRow → GotData → Place → Place
served row got p = record p { work = parts.act (local_kind p.users) row got p.work; delivery = delivery_after row p }

-- Where what came leads. What isn't of the kind of its need counts as a failure.
abbrev pub act : Row → Ready → GotData → Place → Place
act at.OpenUsers ready got p = users_opened got p
act (at.ReadUsers fd) ready got p = users_read fd got p
act (at.CloseUsers fd whole) ready got p = users_closed whole p
act at.Serves ready got p = served (parts.row_now p.work ready) got p
act at.OutOfMemory ready got p = p

-- What is due

abbrev pub program_of : Place → ChildData
program_of p = child.Local p.work.request.slot p.delivery.words p.delivery.uid

abbrev pub start_of : Place → NeedData
start_of p = needs.Start (program_of p)

-- as it serves requests
abbrev pub due_from : WorkRow → Place → NeedData
due_from row p = parts.due_at (program_of p) row p.work

abbrev pub due_at : Row → Ready → Place → NeedData
due_at at.OpenUsers ready p = needs.File (call.Open users_name how.Read)
due_at (at.ReadUsers fd) ready p = needs.File (call.ReadAt fd (length p.text) PIECE)
due_at (at.CloseUsers fd whole) ready p = needs.File (call.Close fd)
due_at at.Serves ready p = due_from (parts.row_now p.work ready) p
due_at at.OutOfMemory ready p = needs.Ended MEMORY

-- The past

abbrev pub moved : Place → Own → Place
moved p event = act p.row event.ready event.came p

-- where it stands after a past, newest event first
abbrev pub place_after : List Own → Place
place_after [] = begun
place_after (event ∷ before) = moved (place_after before) event

abbrev pub due_by : Place → Ready → NeedData
due_by p ready = due_at p.row ready p

-- What a local spawner does next: after this past, newest event first, with this ready. It has no arguments, and the moment
-- makes no difference.
abbrev pub Next : Unit {0} → List Own → ℕ → Ready → NeedData
Next args past now ready = due_by (place_after past) ready
