-- What one turn, round or line of a play leaves.
use Rattle.std.specs.Prelude.{◌≡◌, ◌≢◌, ◌⊎◌, ℕ, ◌+◌, List, [], ◌++◌, Bool, true, false, ◌||◌, ◌&&◌, ◌==◌, Option, Some, None}
use Rattle.std.specs.List.{count_by, list_all}
use Rattle.call_fs.specs.declared.calls.Answer.{Answer}
use Rattle.call_fs.specs.declared.past.GotData.{GotData}
use Rattle.call_fs.specs.declared.past.GotData.TheVariants.{Answered}
use Rattle.call_fs.specs.declared.calls.Answer.TheVariants.{Refused}
use Rattle.call_fs.specs.declared.calls.FsError.TheVariants.{Memory}
use Rattle.call_fs.specs.Disk.{Disk}
use Rattle.crash_fs.specs.Crash.{Crash}
use Rattle.call_fs.specs.Plan.{Plan}
use Rattle.world_events.specs.declared.answers.WorldError.{WorldError}
use Rattle.world_events.specs.declared.answers.WorldError.TheVariants as error
use Rattle.world_events.specs.declared.event.Event.{Event as Kept}
use Rattle.world_events.specs.declared.event.Event.TheVariants as kept
use Rattle.mail_world.specs.World.{Seen}
use Rattle.script_lines.specs.declared.line.Line.{Line}
use Rattle.script_words.specs.declared.letter.Letter.{Letter}
use Rattle.scenario.specs.declared.stepping.AfterStep.{AfterStep}
use Rattle.scenario.specs.declared.stepping.AfterStep.TheVariants as how
use Rattle.scenario.specs.Deeds.{Deed}
use Rattle.scenario.specs.Steps.{plan_through, has_idled, IsRunOf}
use Rattle.scenario.specs.Traced.{traced_text}
use Rattle.scenario.specs.Turns.{NoneBetween, Part, IsTurnOf, events_of, text_of, AreReported, reports_of, Round, IsRound, round_events, has_bytes, is_idle}
-- searches, as events that are kept
pub use Rattle.world_events.specs.Searches.{is_search_kept, is_first_kept}
-- a world in which a script is played, and what a line or a step leaves
pub use Rattle.scenario.specs.Playing.{IsPlaying, HasPlayed, HasStepped, HasRun, IsRefusedAs}

-- an answer that there was no memory for the call
abbrev pub is_memory : Answer → Bool
is_memory (Refused Memory) = true
is_memory other = false

-- what came of an event is that there was no memory for its call
abbrev pub is_memory_of : GotData → Bool
is_memory_of (Answered told) = is_memory told.answer
is_memory_of other = false

-- an event is a call that found no memory
abbrev pub lacked_memory : Kept → Bool
lacked_memory (kept.Start a program) = false
lacked_memory (kept.Act a own) = is_memory_of own.came
lacked_memory (kept.Child a own c program) = is_memory_of own.came
lacked_memory (kept.Feed a own c message envelope) = is_memory_of own.came
lacked_memory (kept.End a read ready status) = false
lacked_memory (kept.Stop a) = false
lacked_memory (kept.Generation start) = false
lacked_memory (kept.Report slot letter text) = false
lacked_memory (kept.Moment m) = false
lacked_memory (kept.Halt how) = false

-- what a step of the world did, as what it left of its actor
abbrev pub stepped_by : Option ℕ → Bool → AfterStep
stepped_by (Some status) idle = how.Over
stepped_by None true = how.Idle
stepped_by None false = how.On

-- the world refused since the actor waits
abbrev pub is_waiting : WorldError → Bool
is_waiting (error.NotWaiting name) = true
is_waiting other = false

-- what the run of a part of a turn leaves; and whether the newest event of the turn ended an idle turn, if before it so was told
pub record HasParted (d : Disk) (new : Seen Crash) (a : List ℕ) (was now : Bool) (before after_text : List ℕ) (plan : Plan) (h : List Deed) : Type 0 where
  pub events : List Deed
  pub own : List ℕ
  pub run : IsRunOf d h plan a events own
  pub idled : ((events ≡ []) × (now ≡ was)) ⊎ ((events ≢ []) × (now ≡ has_idled d h events))
  pub playing : IsPlaying d new (plan_through plan events) (events ++ h)
  pub text : after_text ≡ before ++ own

-- where a turn doesn't look, no actor that lives started: before the place `first`, and from that of the fourth one after it on before `later`
abbrev pub NonePassed : Disk → List Deed → ℕ → ℕ → Type 0
NonePassed d h first later = NoneBetween d h 0 first × NoneBetween d h (first + 4) later

-- what a turn leaves; whether its newest event ended an idle turn of a sender; and where the next one need not look
pub record HasTurned (d : Disk) (new : Seen Crash) (first later : ℕ) (idle : Bool) (before after_text : List ℕ) (plan : Plan) (h : List Deed) : Type 0 where
  pub parts : List Part
  pub turn : IsTurnOf d h plan parts
  pub idled : idle ≡ has_idled d h (events_of parts)
  pub none : NonePassed d (events_of parts ++ h) first later
  pub playing : IsPlaying d new (plan_through plan (events_of parts)) (events_of parts ++ h)
  pub text : after_text ≡ before ++ text_of parts

-- what the reports of a round leave
pub record HasReported (d : Disk) (new : Seen Crash) (letter : Letter) (plan : Plan) (h : List Deed) : Type 0 where
  pub slots : List ℕ
  pub reported : AreReported d h letter slots
  pub playing : IsPlaying d new plan (reports_of letter slots ++ h)

-- what a round leaves; whether it is the last one; and where the next turn need not look
pub record HasRounded (d : Disk) (new : Seen Crash) (first later : ℕ) (letter : Letter) (last : Bool) (before after_text : List ℕ) (plan : Plan) (h : List Deed) : Type 0 where
  pub round : Round
  pub is : IsRound d h plan letter round
  pub is_last : last ≡ (has_bytes (text_of round.parts) || is_idle d h letter round)
  pub none : NonePassed d (round_events letter round ++ h) first later
  pub playing : IsPlaying d new (plan_through plan (round_events letter round)) (round_events letter round ++ h)
  pub text : after_text ≡ before ++ text_of round.parts

-- kept events are nothing but such searches, and just one of them is from the start
abbrev pub are_searches_kept : List Kept → Bool
are_searches_kept events = list_all is_search_kept events && (count_by is_first_kept events == 1)

-- what is printed of a line that was played: if events are traced, first those that it added
pub record HasPrinted (d : Disk) (new : Seen Crash) (traced : Bool) (line : Line) (text : List ℕ) (plan : Plan) (h : List Deed) : Type 0 where
  pub own : List ℕ
  pub played : HasPlayed d new line [] own plan h
  pub text_is : text ≡ traced_text traced played.events ++ own
