-- What the parts of an injector are, and what their fields keep.
use Rattle.std.specs.Prelude.{◌≡◌, ℕ, ◌+◌, ◌*◌, ◌≤◌, ◌<◌, length, true, IsTrue, IfSome}
use Rattle.queue_inject.specs.declared.machine.Injector.TheInside as injector
use Rattle.queue_inject.specs.declared.intake.Intake.TheInside as intake
use Rattle.queue_inject.specs.declared.named_row.NamedRow.TheInside as named
use Rattle.queue_inject.specs.declared.row.Row.{Row}
use Rattle.queue_inject.specs.declared.row.Row.TheVariants as at
use Rattle.queue_paths.specs.Names.{path}
use Rattle.queue_paths.specs.Names.Name.{Pid, Of}
use Rattle.queue_paths.specs.Names.Part.{Mess, Intd, Todo}
use Rattle.queue_inject.specs.Texts.{limit}
use Rattle.queue_inject.specs.Table.{piece_size, has_input}
use Rattle.queue_inject.specs.Machine.{Heard, Machine, room_of}
use Rattle.queue_inject.specs.Rows.{seq_in, number_in, is_open}

-- the names that the row's call has
pub record HasNames (i : named.Inside) : Type 0 where
  pub pid_is : IfSome (seq_in i.row) (λ seq. i.pid_name ≡ path (Pid i.pid i.start seq))
  pub mess_is : IfSome (number_in i.row) (λ n. i.mess_name ≡ path (Of Mess n))
  pub intd_is : IfSome (number_in i.row) (λ n. i.intd_name ≡ path (Of Intd n))
  pub todo_is : IfSome (number_in i.row) (λ n. i.todo_name ≡ path (Of Todo n))

abbrev pub heard_of : intake.Inside → Heard
heard_of i = record { piece = i.piece; fed = i.fed; verdict = i.verdict; reader = i.reader }

abbrev pub machine_of : injector.Inside → Machine
machine_of i = record {
  uid = i.uid;
  pid = i.place.pid;
  start = i.place.start;
  heard = i.intake;
  row = i.place.row;
  present = i.present;
  ready = i.ready;
}

-- So many written bytes can be counted on: a text that goes on has as many bytes as were fed of its part, and at most a
-- piece more.
pub record CanCount (h : Heard) (done : ℕ) : Type 0 where
  pub going : is_open h.verdict ≡ true → done + length h.piece ≤ h.fed + piece_size
  pub some : 0 < length h.piece → done ≤ h.fed + piece_size
  pub bound : done ≤ limit + 32768

abbrev pub Counts : Row → Heard → Type 0
Counts (at.AppendMess n fd done) h = CanCount h done
Counts (at.AppendTodo n fd done) h = CanCount h done
Counts row h = Unit {0}

-- How many bytes an injector keeps at most, all of them in place: its piece, four names of 255 bytes, an address of 1002,
-- and 512 for its numbers.
abbrev pub kept_bytes : Machine → ℕ
kept_bytes m = length m.heard.piece + (4 * 255 + 1002 + 512)

-- What is true of an injector at any time. If its input is ready, it was fed a whole piece, or the end or the fault of its
-- input, so it knows its next call.
pub record IsInStep (m : Machine) : Type 0 where
  pub given : IsTrue (has_input m.ready) → room_of m ≡ 0
  pub short : length m.heard.piece ≤ piece_size
  pub fed : m.heard.fed ≤ limit + 1
  pub within : is_open m.heard.verdict ≡ true → m.heard.fed ≤ limit
  pub counts : Counts m.row m.heard
  pub small : kept_bytes m ≤ 32768
