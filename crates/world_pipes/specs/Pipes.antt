-- A pipe that is kept, and what can be taken from it.
use Rattle.std.specs.Prelude.{ℕ, ◌+◌, ◌≤◌, ◌==◌, length, take, Bool, if◌then◌else◌, Option, Some, None, vec_len, vec_capacity}
use Rattle.call_fs.specs.declared.past.GotData.{GotData}
use Rattle.call_fs.specs.declared.past.GotData.TheVariants.{Took, End}
use Rattle.world_pipes.specs.declared.pipe.Pipe.{Pipe as Kept}
use Rattle.world_pipes.specs.declared.pipe.Taken.{Taken}
use Rattle.world_pipes.specs.declared.pipe.Taken.TheVariants as what
use Rattle.world_pipes.specs.Pipework.{Pipe, taken}

-- the pipe of the model that it is
abbrev pub lies : Kept → Pipe
lies pipe = record { bytes = pipe.bytes.items; shut = pipe.shut }

-- room for so many bytes more
abbrev pub HasRoom : Kept → ℕ → Type 0
HasRoom pipe more = vec_len pipe.bytes + more ≤ vec_capacity pipe.bytes

-- the end, if nothing more will come
abbrev pub end_of : Bool → Option GotData
end_of shut = if shut then Some End else None

-- what a taking of at most so many bytes brings: the first of those that lie there, or else the end
abbrev pub offered : ℕ → Pipe → Option GotData
offered most pipe = if length pipe.bytes == 0 then end_of pipe.shut else Some (Took (take most pipe.bytes))

-- what was taken, as what came of it
abbrev pub told : Option Taken → Option GotData
told None = None
told (Some (what.Bytes bytes)) = Some (Took bytes)
told (Some what.End) = Some End

-- what is left of a pipe after that came
abbrev pub left_by : Option GotData → Pipe → Pipe
left_by (Some (Took bytes)) pipe = taken bytes pipe
left_by other pipe = pipe
