-- What the sender does at a step: the call, taking or giving of each.
use Rattle.std.specs.Prelude.{ℕ, List, [], ◌∷◌, ◌++◌, codes}
use Rattle.address_rules.specs.declared.control_file.ControlFile.{ControlFile}
use Rattle.address_rules.specs.Files.{name as file_name}
use Rattle.call_fs.specs.declared.file_system.TheConstants.{PIECE}
use Rattle.call_fs.specs.declared.calls.CallData.TheVariants as call
use Rattle.call_fs.specs.declared.calls.How.TheVariants as how
use Rattle.call_fs.specs.declared.past.NeedData.{NeedData}
use Rattle.call_fs.specs.declared.past.NeedData.TheVariants as needs
use Rattle.call_fs.specs.declared.program.Port.TheVariants as port
use Rattle.mail_bytes.specs.Decimal.{digits}
use Rattle.queue_paths.specs.Names.{foop_command, name_of, path}
use Rattle.send_parts.specs.declared.dir.Dir.{Dir}
use Rattle.send_parts.specs.declared.dir.Dir.TheVariants as dir
use Rattle.send_parts.specs.declared.step.Step.{Step}
use Rattle.send_parts.specs.declared.step.Step.TheVariants as step

-- `control/NAME`
abbrev pub control_text : ControlFile → List ℕ
control_text file = codes "control/" ++ file_name file

abbrev pub dir_text : Dir → List ℕ
dir_text (dir.Info split) = codes "info/" ++ digits split
dir_text (dir.Mess split) = codes "mess/" ++ digits split
dir_text dir.Todo = codes "todo"

-- the command by which the cleaner removes a message: `foop/N`, NUL
abbrev pub remove_text : ℕ → List ℕ
remove_text n = foop_command n ++ 0 ∷ []

-- what is due at a step, with the bytes that are told beside it
abbrev pub due_by : Step → List ℕ → NeedData
due_by (step.OpenControl file) bytes = needs.File (call.Open (control_text file) how.Read)
due_by (step.Open name how) bytes = needs.File (call.Open (path (name_of name)) how)
due_by (step.Read fd at) bytes = needs.File (call.ReadAt fd at PIECE)
due_by (step.Mark fd place) bytes = needs.File (call.WriteAt fd place (codes "D"))
due_by (step.Close fd) bytes = needs.File (call.Close fd)
due_by (step.Unlink name) bytes = needs.File (call.Unlink (path (name_of name)))
due_by (step.Stat name) bytes = needs.File (call.Stat (path (name_of name)))
due_by (step.Search dir) bytes = needs.File (call.NextName (dir_text dir) bytes)
due_by (step.Take port) bytes = needs.Take port
due_by (step.Give port) bytes = needs.Give port bytes
due_by (step.Remove n) bytes = needs.Give port.Clean (remove_text n)
due_by step.Wait bytes = needs.Wait
due_by (step.Ended status) bytes = needs.Ended status

-- the text that it has of its own, empty if it has none
abbrev pub text_of : Step → List ℕ
text_of (step.OpenControl file) = control_text file
text_of (step.Open name how) = path (name_of name)
text_of (step.Unlink name) = path (name_of name)
text_of (step.Stat name) = path (name_of name)
text_of (step.Search dir) = dir_text dir
text_of (step.Remove n) = remove_text n
text_of other = []
