-- Which messages a sender knows, by its past alone (qmail-send(8)): exactly those that it met and whose number it didn't forget since.
use Rattle.std.specs.Prelude.{◌≡◌, ℕ, List, [], ◌∷◌, Bool, true, false, ◌||◌, ◌&&◌, ◌==◌, Option, Some, if◌then◌else◌, bytes_eq}
use Rattle.call_fs.specs.Past.{IsRunBy}
use Rattle.call_fs.specs.declared.calls.Answer.{Answer}
use Rattle.call_fs.specs.declared.calls.Answer.TheVariants as answer
use Rattle.call_fs.specs.declared.calls.CallData.TheVariants as call
use Rattle.call_fs.specs.declared.calls.FsError.TheVariants as why
use Rattle.call_fs.specs.declared.past.GotData.{GotData}
use Rattle.call_fs.specs.declared.past.GotData.TheVariants as came
use Rattle.call_fs.specs.declared.past.NeedData.{NeedData}
use Rattle.call_fs.specs.declared.past.NeedData.TheVariants as needs
use Rattle.call_fs.specs.declared.past.Own.{Own}
use Rattle.call_fs.specs.declared.program.Port.TheVariants as port
use Rattle.queue_paths.specs.Names.{Name, parse}
use Rattle.queue_paths.specs.Names.Name.{Of}
use Rattle.queue_paths.specs.Names.Part.{Remote as RemoteFile}
use Rattle.send_core.specs.Births.{births}
use Rattle.send_core.specs.Table.{Next, place_after}
use Rattle.send_known.specs.Known.{is_known}
use Rattle.send_parts.specs.Steps.{remove_text}
use Rattle.todo_pass.specs.Table.{command_text}

-- whether message n is known after an event, if it was so before

-- of a message that it finds the scan of the start looks for the remote channel file last, and knows it whether that is there or missing
abbrev pub looked_for : Option Name → Answer → ℕ → Bool → Bool
looked_for (Some (Of RemoteFile m)) (answer.Stat stat) n was = (m == n) || was
looked_for (Some (Of RemoteFile m)) (answer.Refused why.NotThere) n was = (m == n) || was
looked_for name told n was = was

-- A todo pass ends when the cleaner answers its command by `+`. The answer to the command that removes a message ends its finish, and its number
-- is forgotten, whatever the answer is; a sweep has only messages removed that aren't known.
abbrev pub answered : List ℕ → Bool → ℕ → Bool → Bool
answered command good n was = if bytes_eq command (remove_text n) then false else (if bytes_eq command (command_text n) && good then true else was)

abbrev pub known_by : NeedData → GotData → List ℕ → ℕ → Bool → Bool
known_by (needs.File (call.Stat name)) (came.Answered told) command n was = looked_for (parse name) told.answer n was
known_by (needs.Take port.Clean) (came.Took bytes) command n was = answered command (bytes_eq bytes (43 ∷ [])) n was
known_by due got command n was = was

-- After a past, newest event first. When `remote/7/7` was looked for, 7 is known; and when `todo/8` was given to the cleaner and `+` came, 8 is
-- known too. After `foop/7` was given and answered, 7 isn't.
abbrev pub known_in : List Own → ℕ → Bool
known_in [] n = false
known_in (event ∷ before) n = known_by event.due event.came (births before).command n (known_in before n)

-- so it is after each run
abbrev pub KnownExactly : Type 0
KnownExactly = (turns : Option ℕ) (past : List Own) → IsRunBy (Next turns) past → (n : ℕ) → is_known n (place_after turns past).book.messages.known ≡ known_in past n
