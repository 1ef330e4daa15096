-- The line of an event that a world kept, as a trace prints it.
use Rattle.std.specs.Prelude.{ℕ, List, [], ◌∷◌, ◌++◌, codes, flat_map}
use Rattle.mail_bytes.specs.Decimal.{digits}
use Rattle.call_fs.specs.declared.crash_file_system.Survival.{Survival}
use Rattle.call_fs.specs.declared.crash_file_system.Survival.TheVariants.{Keep, Lose, Junk}
use Rattle.actor_names.specs.MailNames.{members}
use Rattle.queue_states.specs.Lines.{line_of}
use Rattle.world_events.specs.declared.event.Event.{Event}
use Rattle.world_events.specs.declared.event.Event.TheVariants.{Start, Act, Child, Feed, Generation, Report, End, Stop, Moment, Halt}
use Rattle.script_traces.specs.Acts.{act_line}

-- the word for what survives a machine stop
abbrev pub survival_word : Survival → List ℕ
survival_word Keep = codes "keep"
survival_word Lose = codes "lose"
survival_word (Junk seed) = codes "junk"

-- `ACTOR start`
abbrev pub start_line : List ℕ → List ℕ
start_line a = line_of a (codes "start")

-- `rspawn report SLOT LETTER`
abbrev pub report_line : ℕ → ℕ → List ℕ
report_line slot letter = line_of (codes "rspawn") (codes "report " ++ (digits slot ++ (32 ∷ letter ∷ [])))

-- `ACTOR end STATUS`
abbrev pub end_line : List ℕ → ℕ → List ℕ
end_line a status = line_of a (codes "end " ++ digits status)

-- `ACTOR stop`
abbrev pub stop_line : List ℕ → List ℕ
stop_line a = line_of a (codes "stop")

-- `world moment N`
abbrev pub moment_line : ℕ → List ℕ
moment_line m = line_of (codes "world") (codes "moment " ++ digits m)

-- `world halt WORD`
abbrev pub halt_line : Survival → List ℕ
halt_line how = line_of (codes "world") (codes "halt " ++ survival_word how)

-- The line of an event. A child's start has that of a start, and a giving of a child's whole input that of what an actor did. A
-- generation has a line for each of its members.
abbrev pub kept_line : Event → List ℕ
kept_line (Start a program) = start_line a
kept_line (Act a own) = act_line a own.due own.came
kept_line (Child parent own a program) = start_line a
kept_line (Feed a own c message envelope) = act_line a own.due own.came
kept_line (Generation start) = flat_map start_line members
kept_line (Report slot letter text) = report_line slot letter
kept_line (End a read ready status) = end_line a status
kept_line (Stop a) = stop_line a
kept_line (Moment m) = moment_line m
kept_line (Halt how) = halt_line how
