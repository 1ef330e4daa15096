-- What is done at a row of the table; and whether a search of `todo` has begun again.
use Rattle.std.specs.Prelude.{ℕ, Bool, true, false}
use Rattle.call_fs.specs.declared.calls.How.TheVariants as how
use Rattle.call_fs.specs.declared.program.Port.TheVariants as port
use Rattle.queue_paths.specs.declared.names.Name.TheVariants as name
use Rattle.send_parts.specs.declared.dir.Dir.TheVariants as dir
use Rattle.send_parts.specs.declared.row.MarkRow.{MarkRow}
use Rattle.send_parts.specs.declared.row.MarkRow.TheVariants as mark
use Rattle.send_parts.specs.declared.row.Marked.{Marked}
use Rattle.send_parts.specs.declared.row.Row.{Row}
use Rattle.send_parts.specs.declared.row.Row.TheVariants as at
use Rattle.send_parts.specs.declared.rows.FinishRow.{FinishRow}
use Rattle.send_parts.specs.declared.rows.FinishRow.TheVariants as finish
use Rattle.send_parts.specs.declared.rows.Search.{Search}
use Rattle.send_parts.specs.declared.rows.Search.TheVariants as searches
use Rattle.send_parts.specs.declared.rows.StartRow.{StartRow}
use Rattle.send_parts.specs.declared.rows.StartRow.TheVariants as start
use Rattle.send_parts.specs.declared.rows.SweepRow.{SweepRow}
use Rattle.send_parts.specs.declared.rows.SweepRow.TheVariants as sweep
use Rattle.send_parts.specs.declared.step.Step.{Step}
use Rattle.send_parts.specs.declared.step.Step.TheVariants as step
use Rattle.send_parts.specs.Channels.{file_of, port_of}
use Rattle.send_parts.specs.Readings.{reading_step}

-- of a row of the start, and how much the reading at work has read
abbrev pub start_step : StartRow → ℕ → Step
start_step (start.Control f reading) read = reading_step reading (step.OpenControl f) read
start_step start.GreetLocal read = step.Take port.Lspawn
start_step (start.GreetRemote limit) read = step.Take port.Rspawn
start_step (start.Scan split) read = step.Search (dir.Info split)
start_step (start.StatTodo split n) read = step.Stat (name.Todo n)
start_step (start.ReadInfo split n reading) read = reading_step reading (step.Open (name.Info n) how.Read) read
start_step (start.StatInfo split n) read = step.Stat (name.Info n)
start_step (start.StatLocal split n birth) read = step.Stat (name.Local n)
start_step (start.StatRemote split n birth local) read = step.Stat (name.Remote n)
start_step start.Over read = step.Wait
start_step (start.Ended status) read = step.Ended status

abbrev pub finish_step : FinishRow → ℕ → Step
finish_step finish.OpenBounce n = step.Open (name.Bounce n) how.Read
finish_step finish.UnlinkInfo n = step.Unlink (name.Info n)
finish_step finish.Give n = step.Remove n
finish_step finish.Take n = step.Take port.Clean
finish_step row n = step.Wait

abbrev pub sweep_step : SweepRow → Step
sweep_step sweep.First = step.Search (dir.Mess 0)
sweep_step (sweep.Next split) = step.Search (dir.Mess split)
sweep_step (sweep.StatMess split n) = step.Stat (name.Mess n)
sweep_step (sweep.StatTodo split n) = step.Stat (name.Todo n)
sweep_step (sweep.StatInfo split n todo) = step.Stat (name.Info n)
sweep_step (sweep.Give split n) = step.Remove n
sweep_step (sweep.Take split n) = step.Take port.Clean
sweep_step row = step.Wait

-- of a mark
abbrev pub mark_step : MarkRow → Marked → Step
mark_step mark.Note m = step.Open (name.Bounce m.n) how.Append
mark_step mark.Noting m = step.Wait
mark_step mark.Open m = step.Open (file_of m.channel m.n) how.Write
mark_step (mark.Write fd) m = step.Mark fd m.place
mark_step (mark.Close fd written) m = step.Close fd

-- of any row, and how much the reading at work has read; a todo pass, a note and a return say it themselves
abbrev pub step_of : Row → ℕ → Step
step_of (at.Start row) read = start_step row read
step_of (at.Turn p) read = step.Wait
step_of (at.TakeLink c) read = step.Take (port_of c)
step_of (at.Mark row m) read = mark_step row m
step_of (at.UnlinkFile c n p) read = step.Unlink (file_of c n)
step_of (at.ReadFile c n begun reading) read = reading_step reading (step.Open (file_of c n) how.Read) read
step_of (at.Request c) read = step.Give (port_of c)
step_of (at.FindTodo search) read = step.Search dir.Todo
step_of at.InTodo read = step.Wait
step_of (at.Finish row n) read = finish_step row n
step_of (at.Sweep row) read = sweep_step row
step_of (at.Ended status) read = step.Ended status

-- a search of `todo` has begun again from the start
abbrev pub is_again : Search → Bool
is_again searches.AfterLeft = false
is_again searches.FromStart = true
is_again (searches.AfterStray again) = again
