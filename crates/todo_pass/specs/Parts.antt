-- The files of a message that a todo pass touches, and their names (INTERNALS, "Queue structure").
use Rattle.std.specs.Prelude.{ℕ, List}
use Rattle.queue_paths.specs.Names.{Name, path}
use Rattle.queue_paths.specs.Names.Name.{Of}
use Rattle.queue_paths.specs.Names.Part.{Mess as MessFile, Todo as TodoFile, Info as InfoFile, Local as LocalFile, Remote as RemoteFile}
use Rattle.todo_pass.specs.declared.part.Part.{Part}
use Rattle.todo_pass.specs.declared.part.Part.TheVariants as part
use Rattle.todo_pass.specs.declared.part.Target.{Target}
use Rattle.todo_pass.specs.declared.part.Target.TheVariants as target

abbrev pub part_of : Target → Part
part_of target.Info = part.Info
part_of target.Local = part.Local
part_of target.Remote = part.Remote

abbrev pub name_in : Part → ℕ → Name
name_in part.Mess n = Of MessFile n
name_in part.Todo n = Of TodoFile n
name_in part.Info n = Of InfoFile n
name_in part.Local n = Of LocalFile n
name_in part.Remote n = Of RemoteFile n

-- the text of its name
abbrev pub path_in : Part → ℕ → List ℕ
path_in part n = path (name_in part n)
