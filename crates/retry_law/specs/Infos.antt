-- When births are the moments of info files, by the sender's past (qmail-send(8)).
use Rattle.std.specs.Prelude.{◌≡◌, ◌==◌, ℕ, List, [], ◌∷◌, Bool, true, false, Option, Some, None, Contains}
use Rattle.call_fs.specs.Past.{IsRunBy}
use Rattle.call_fs.specs.declared.calls.Answer.TheVariants as answer
use Rattle.call_fs.specs.declared.calls.Answer.{Answer}
use Rattle.call_fs.specs.declared.past.GotData.TheVariants as came
use Rattle.call_fs.specs.declared.past.GotData.{GotData}
use Rattle.call_fs.specs.declared.past.Own.{Own}
use Rattle.send_core.specs.Agrees.{has_ended}
use Rattle.send_core.specs.Births.{Birth}
use Rattle.send_core.specs.Table.{Next, place_after, row_now}
use Rattle.send_core.specs.declared.desk.Desk.{Desk}
use Rattle.send_parts.specs.declared.row.Row.TheVariants as at
use Rattle.send_parts.specs.declared.row.Row.{Row}
use Rattle.send_known.specs.declared.known.Known.{Known}
use Rattle.send_parts.specs.declared.rows.FinishRow.TheVariants as finish
use Rattle.send_parts.specs.declared.rows.StartRow.TheVariants as start
use Rattle.send_runs.specs.Knowing.{known_in}
use Rattle.todo_pass.specs.Table.{Pass}
use Rattle.todo_pass.specs.declared.part.Target.TheVariants as target
use Rattle.todo_pass.specs.declared.row.Row.TheVariants as todo
use Rattle.todo_pass.specs.declared.row.Row.{Row as PassRow}

-- After each past of a sender, when the info file of each message was last written, if it is there: as its disk has it.
abbrev pub Infos : Type 0
Infos = List Own → ℕ → Option ℕ

-- What an event tells of an info file: by the look at it in the scan of the start, or by an append to it in a todo pass

abbrev pub looked_at : ℕ → Answer → Option Birth
looked_at n (answer.Stat stat) = Some (record { n = n; moment = stat.moment })
looked_at n told = None

abbrev pub written_at : ℕ → ℕ → Answer → Option Birth
written_at n now answer.Done = Some (record { n = n; moment = now })
written_at n now told = None

abbrev pub pass_tells : PassRow → ℕ → ℕ → GotData → Option Birth
pass_tells (todo.Append target.Info fd done) n now (came.Answered told) = written_at n now told.answer
pass_tells row n now got = None

abbrev pub tells : Row → Pass → ℕ → GotData → Option Birth
tells (at.Start (start.StatInfo split n)) p now (came.Answered told) = looked_at n told.answer
tells at.InTodo p now got = pass_tells p.row p.n now got
tells row p now got = None

-- Which message becomes known next: one whose info file the scan of the start looked at, or the one that is preprocessed, once its info file is
-- written

abbrev pub has_written : PassRow → Bool
has_written (todo.Create target.Local) = true
has_written (todo.Create target.Remote) = true
has_written (todo.Append target.Local fd done) = true
has_written (todo.Append target.Remote fd done) = true
has_written (todo.Sync part fd) = true
has_written (todo.Close part fd) = true
has_written todo.Give = true
has_written todo.Answer = true
has_written row = false

abbrev pub written : Bool → Pass → Option Birth
written true p = Some (record { n = p.n; moment = p.birth })
written false p = None

abbrev pub coming : Row → Pass → Option Birth
coming (at.Start (start.StatLocal split n birth)) p = Some (record { n = n; moment = birth })
coming (at.Start (start.StatRemote split n birth local)) p = Some (record { n = n; moment = birth })
coming at.InTodo p = written (has_written p.row) p
coming row p = None

-- which the event of a past tells
abbrev pub told_after : Option ℕ → List Own → Own → Option Birth
told_after turns past event = let d : Desk = place_after turns past in tells (row_now d event.read event.ready) d.pass event.read event.came

-- The sender lets go of a number: it told the cleaner to remove the message, and took no answer yet, so that the number may be another message's
-- already; or it has ended.
abbrev pub lets_go : Row → ℕ → Bool
lets_go (at.Finish finish.Take m) n = m == n
lets_go (at.Ended status) n = true
lets_go row n = false

-- What an event tells of an info file is so on the disk. The info file of a message that is known and not let go of, or becomes known next,
-- isn't written but by an event that tells so. By the moments of these files before and after it.
pub record TellsInfos (info later : ℕ → Option ℕ) (turns : Option ℕ) (past : List Own) (event : Own) : Type 0 where
  pub told : (it : Birth) → told_after turns past event ≡ Some it → (moment : ℕ) → later it.n ≡ Some moment → it.moment ≡ moment
  pub known : (n moment : ℕ) → lets_go (place_after turns past).row n ≡ false → known_in past n ≡ true → later n ≡ Some moment → info n ≡ Some moment
  pub next : (it : Birth) → coming (place_after turns past).row (place_after turns past).pass ≡ Some it → told_after turns past event ≡ None → (moment : ℕ) → later it.n ≡ Some moment → info it.n ≡ Some moment

abbrev pub AllTellInfos : Infos → Option ℕ → List Own → Type 0
AllTellInfos infos turns [] = Unit {0}
AllTellInfos infos turns (event ∷ past) = AllTellInfos infos turns past × TellsInfos (infos past) (infos (event ∷ past)) turns past event

-- Then the birth of a known message is the moment at which its info file was last written, until the sender has ended.
abbrev pub BirthsAreInfos : Type 0
BirthsAreInfos = (infos : Infos) (turns : Option ℕ) (past : List Own) → IsRunBy (Next turns) past → AllTellInfos infos turns past → has_ended (place_after turns past).row ≡ false
    → (k : Known) → Contains (place_after turns past).book.messages.known k → (moment : ℕ) → infos past k.n ≡ Some moment → k.birth ≡ moment
