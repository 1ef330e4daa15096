-- A taking and a giving of a cleaner.
use Rattle.std.proofs.Common.{◌≡◌, ◌≢◌, ℕ, List, [], ◌++◌, Bool, true, false, Option, Some, None, refl, ap, ◌∙◌, subst, arith}
use Rattle.std.specs.Prelude.{if◌then◌else◌, ◌==◌, ◌%◌, slice_get}
use Rattle.std.proofs.lemmas.List.{append-nil}
use Rattle.call_fs.specs.declared.past.GotData.{GotData}
use Rattle.call_fs.specs.declared.past.GotData.TheVariants as came
use Rattle.call_fs.specs.declared.calls.CallData.TheVariants as call
use Rattle.call_fs.specs.declared.past.NeedData.{NeedData}
use Rattle.call_fs.specs.declared.past.NeedData.TheVariants as needs
use Rattle.call_fs.specs.declared.past.Own.{Own}
use Rattle.queue_clean.specs.declared.command.Command.{Command}
use Rattle.queue_clean.specs.declared.intake.TheConstants.{ROUND}
use Rattle.queue_clean.specs.declared.row.Reply.{Reply}
use Rattle.queue_clean.specs.declared.row.Row.{Row}
use Rattle.queue_clean.specs.declared.row.Row.TheVariants as at
use Rattle.queue_clean.specs.Commands.{commands, command_of}
use Rattle.queue_clean.specs.Table.{pid_path, search_after, due_at, first_row, is_old, leads_to, goes_on, next_command}
use Rattle.program_law.specs.Errand.Errands.{Link, Errand, IsOffered, at_work}
use Rattle.program_law.specs.Errand.Errands.Awaits.{Nothing}
use Rattle.program_law.proofs.Errand.Links.{idle_is, next_waits, none_waits}
use Rattle.queue_law.specs.Numbers.{Queue}
use Rattle.queue_law.specs.Cleaners.{number_at, Rests, row_of, waiting, CleanerStands}
use Rattle.queue_law.proofs.Cleaners.{next_stands}
use Rattle.program_law.specs.Sender.Commands.{WaitsAtRest, IsNoCall, CleanersGoOn}

module _ (now : ℕ) (q : Queue) (waits : Option Command) (x : Link) (E : Errand waits x) (W : WaitsAtRest now q waits) where
  command_rests : (bytes rest text : List ℕ) (o : Option Command) → command_of text ≡ o → x.given ≡ bytes ++ rest
      → slice_get (commands (x.place.taken ++ bytes)) x.place.begun ≡ Some text → Rests now q (first_row o)
  command_rests bytes rest text None read offered got = tt
  command_rests bytes rest text (Some c) read offered got = W c (next_waits waits x bytes rest text c E offered got read).waiting_is

  text_rests : (bytes rest : List ℕ) (o : Option (List ℕ)) → x.given ≡ bytes ++ rest
      → slice_get (commands (x.place.taken ++ bytes)) x.place.begun ≡ o → Rests now q (row_of o)
  text_rests bytes rest None offered got = tt
  text_rests bytes rest (Some text) offered got = command_rests bytes rest text (command_of text) refl offered got

  -- the command that comes next rests
  next_rests : (bytes rest : List ℕ) → x.given ≡ bytes ++ rest → Rests now q (row_of (slice_get (commands (x.place.taken ++ bytes)) x.place.begun))
  next_rests bytes rest offered = text_rests bytes rest (slice_get (commands (x.place.taken ++ bytes)) x.place.begun) offered refl

  none_taken : Rests now q (waiting x.place)
  none_taken = subst (λ (t : List ℕ). Rests now q (row_of (slice_get (commands t) x.place.begun))) (append-nil x.place.taken) (next_rests [] x.given refl)

  abbrev Stands : Row → ℕ → GotData → Type 0
  Stands row read got = CleanerStands now q (goes_on (leads_to row read got) x.place)

  takes : (got : GotData) (read : ℕ) → IsOffered x.given (due_at at.TakeInput x.place.name read) got → Stands at.TakeInput read got
  takes (came.Took bytes) read offered = next_stands now q (record x.place { taken = x.place.taken ++ bytes }) (next_rests bytes offered.0 offered.1)
  takes came.End read offered = tt
  takes (came.Answered told) read offered = tt
  takes (came.Ended status) read offered = tt
  takes came.Crashed read offered = tt
  takes came.Gave read offered = tt
  takes (came.Started pid) read offered = tt
  takes came.Failed read offered = tt
  takes came.Memory read offered = tt

  scans : (scan : Bool) → CleanerStands now q (if scan then record x.place { row = at.FindPid; name = [] } else next_command x.place)
  scans true = none_taken
  scans false = next_stands now q x.place none_taken

  gives : (reply : Reply) (got : GotData) (read : ℕ) → Stands (at.Answer reply) read got
  gives reply came.Gave read = scans (x.place.begun % ROUND == 0)
  gives reply (came.Took bytes) read = tt
  gives reply came.End read = tt
  gives reply (came.Answered told) read = tt
  gives reply (came.Ended status) read = tt
  gives reply came.Crashed read = tt
  gives reply (came.Started pid) read = tt
  gives reply came.Failed read = tt
  gives reply came.Memory read = tt

  abbrev judging : ℕ → List ℕ → Bool → NeedData
  judging moment name old = if old then needs.File (call.Unlink (pid_path name)) else search_after name

  judge_calls : (old : Bool) (moment : ℕ) (name : List ℕ) → IsNoCall (judging moment name old) → ⊥
  judge_calls true moment name h = h
  judge_calls false moment name h = h

  step : (row : Row) (got : GotData) (read : ℕ) → IsNoCall (due_at row x.place.name read) → IsOffered x.given (due_at row x.place.name read) got → Stands row read got
  step at.FindPid got read uncalled offered = absurd uncalled
  step at.StatPid got read uncalled offered = absurd uncalled
  step (at.JudgePid moment) got read uncalled offered = absurd (judge_calls (is_old moment read) moment x.place.name uncalled)
  step at.TakeInput got read uncalled offered = takes got read offered
  step (at.UnlinkIntd c) got read uncalled offered = absurd uncalled
  step (at.UnlinkSecond c) got read uncalled offered = absurd uncalled
  step (at.Answer reply) got read uncalled offered = gives reply got read
  step (at.Ended status) got read uncalled offered = tt

goes_on_so : (now : ℕ) (q : Queue) (waits : Option Command) (x : Link) (event : Own) → Errand waits x → WaitsAtRest now q waits
    → event.due ≡ due_at x.place.row x.place.name event.read → IsNoCall event.due → IsOffered x.given event.due event.came
    → CleanerStands now q (goes_on (leads_to x.place.row event.read event.came) x.place)
goes_on_so now q waits x event E W due uncalled offered =
    step now q waits x E W x.place.row event.came event.read (subst IsNoCall due uncalled) (subst (λ (d : NeedData). IsOffered x.given d event.came) due offered)

-- While the sender waits for nothing

no_number : (row : Row) (n : ℕ) → at_work row ≡ 0 → number_at row ≢ Some n
no_number (at.UnlinkIntd c) n e is = absurd (omega (arith, e))
no_number (at.UnlinkSecond c) n e is = absurd (omega (arith, e))
no_number (at.Answer r) n e is = cc
no_number at.FindPid n e is = cc
no_number at.StatPid n e is = cc
no_number (at.JudgePid m) n e is = cc
no_number at.TakeInput n e is = cc
no_number (at.Ended s) n e is = cc

none_number : (waits : Option Command) (x : Link) (E : Errand waits x) → x.awaits ≡ Nothing → (n : ℕ) (o : Option (List ℕ)) → slice_get (commands x.place.taken) x.place.begun ≡ o
    → number_at (row_of o) ≢ Some n
none_number waits x E idle n None got is = cc
none_number waits x E idle n (Some text) got is = by (command_of text) refl is
  where
    by : (o : Option Command) → command_of text ≡ o → number_at (first_row o) ≢ Some n
    by None read is = cc
    by (Some c) read is =
        let w = next_waits waits x [] x.given text c E refl (ap (λ (t : List ℕ). slice_get (commands t) x.place.begun) (append-nil x.place.taken) ∙ got) read in
        let v = w.waiting_is in
        let u = none_waits waits (let k = (idle_is waits x E idle).0 in omega (arith, k)) in
        cc

pub cleaners_go_on : CleanersGoOn
cleaners_go_on = record {
  goes_on = goes_on_so;
  beside = λ waits x E idle m n is.
      (no_number x.place.row n (idle_is waits x E idle).1.0, none_number waits x E idle n (slice_get (commands x.place.taken) x.place.begun) refl);
}
