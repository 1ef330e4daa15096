-- A sender that ended with 85 has read its control files, and one of them is bad.
use Rattle.std.proofs.Common.{◌≡◌, ℕ, List, ◌∷◌, set, Bool, true, ◌&&◌, Option, Some, None, refl, sym, ap, ◌∙◌}
use Rattle.std.proofs.lemmas.Bool.Decides.{Decides-eqb}
use Rattle.address_rules.specs.declared.control_file.ControlFile.{ControlFile}
use Rattle.address_rules.specs.declared.control_file.ControlFile.TheVariants as files
use Rattle.address_rules.specs.Files.{Fault, first_fault, place}
use Rattle.call_fs.specs.declared.calls.Answer.TheVariants as answer
use Rattle.call_fs.specs.declared.calls.CallData.TheVariants as call
use Rattle.call_fs.specs.declared.calls.Fd.{Fd}
use Rattle.call_fs.specs.declared.calls.FsError.TheVariants as why
use Rattle.call_fs.specs.declared.calls.How.TheVariants as how
use Rattle.call_fs.specs.declared.calls.Told.{Told as Answered}
use Rattle.call_fs.specs.declared.past.GotData.{GotData}
use Rattle.call_fs.specs.declared.past.GotData.TheVariants as got
use Rattle.call_fs.specs.declared.past.NeedData.{NeedData}
use Rattle.call_fs.specs.declared.past.NeedData.TheVariants as needs
use Rattle.call_fs.specs.declared.past.Own.{Own}
use Rattle.call_fs.specs.Past.{IsRunBy}
use Rattle.send_parts.specs.declared.reading.Reading.{Reading}
use Rattle.send_parts.specs.declared.reading.Reading.TheVariants.{Opening, Going, Closing, Shutting}
use Rattle.send_parts.specs.declared.rows.StartRow.TheVariants as start
use Rattle.send_parts.specs.Start.{file_after}
use Rattle.send_parts.specs.Steps.{control_text}
use Rattle.send_core.specs.declared.desk.Desk.{Desk}
use Rattle.send_parts.specs.declared.row.Row.{Row}
use Rattle.send_parts.specs.declared.row.Row.TheVariants as at
use Rattle.send_core.specs.Papers.{Paper, Papers, control_named, filed, filed_if, judged, opened_paper, papers, papers_by}
use Rattle.send_core.specs.Papers.Papers.{Reads}
use Rattle.send_core.specs.Senders.{IsSaid}
use Rattle.send_core.specs.Table.{Next, due_at, place_after, row_now}
use Rattle.send_core.proofs.Asked.{ControlSays, KnowsAt}
use Rattle.send_core.proofs.Runs.{all_kept, facts}
use Rattle.send_core.proofs.Says.{arrive_says}
use Rattle.send_command.specs.Ends.{HasBadFile}
use Rattle.send_command.proofs.Steps.{BadAt, BadFiled}

-- the file that a call opens is the one that it names
named : (f : ControlFile) → control_named (control_text f) ≡ Some f
named files.Me = refl
named files.Locals = refl
named files.PercentHack = refl
named files.VirtualDomains = refl
named files.EnvNoAtHost = refl
named files.BounceFrom = refl
named files.BounceHost = refl
named files.DoubleBounceTo = refl
named files.DoubleBounceHost = refl
named files.ConcurrencyLocal = refl
named files.ConcurrencyRemote = refl
named files.QueueLifetime = refl

-- once the last one was filed, and one is bad
filed_bad : (f : ControlFile) (content : Option (List ℕ)) (all : List (Option (List ℕ))) (fault : Fault) → file_after f ≡ None → first_fault (set all (place f) content) ≡ Some fault
    → filed f content all ≡ Reads (set all (place f) content) None
filed_bad files.QueueLifetime content all fault last is = ap (λ (o : Option Fault). judged o (set all (place files.QueueLifetime) content)) is
filed_bad files.Me content all fault last is = absurd (cc)
filed_bad files.Locals content all fault last is = absurd (cc)
filed_bad files.PercentHack content all fault last is = absurd (cc)
filed_bad files.VirtualDomains content all fault last is = absurd (cc)
filed_bad files.EnvNoAtHost content all fault last is = absurd (cc)
filed_bad files.BounceFrom content all fault last is = absurd (cc)
filed_bad files.BounceHost content all fault last is = absurd (cc)
filed_bad files.DoubleBounceTo content all fault last is = absurd (cc)
filed_bad files.DoubleBounceHost content all fault last is = absurd (cc)
filed_bad files.ConcurrencyLocal content all fault last is = absurd (cc)
filed_bad files.ConcurrencyRemote content all fault last is = absurd (cc)

module _ (event : Own) (before : List Own) (d : Desk) where
  by_filed : (f : ControlFile) (content : Option (List ℕ)) → papers (event ∷ before) ≡ filed f content d.book.files → BadFiled content f d.book → HasBadFile (event ∷ before)
  by_filed f content is b = record {
    files = set d.book.files (place f) content;
    fault = b.fault;
    read = is ∙ filed_bad f content d.book.files b.fault b.last b.bad;
    bad = b.bad;
  }

  told_by : (p : Papers) (due : NeedData) (came : GotData) → papers before ≡ p → due ≡ event.due → event.came ≡ came → papers (event ∷ before) ≡ papers_by p due came
  told_by p due came now is c =
      ap (λ (x : Papers). papers_by x event.due event.came) now ∙ ap (λ (x : NeedData). papers_by p x event.came) (sym is) ∙ ap (λ (x : GotData). papers_by p due x) c

  missing : (f : ControlFile) (held : Option Paper) (bytes : List ℕ)
      → papers_by (Reads d.book.files held) (needs.File (call.Open (control_text f) how.Read)) (got.Answered (record { answer = answer.Refused why.NotThere; bytes = bytes })) ≡ filed f None d.book.files
  missing f held bytes = ap (λ (o : Option ControlFile). opened_paper o (answer.Refused why.NotThere) d.book.files) (named f)

  whole : (f : ControlFile) (fd : Fd) (told : Answered)
      → papers_by (Reads d.book.files (Some (record { file = f; fd = fd; bytes = d.book.read; over = true }))) (needs.File (call.Close fd)) (got.Answered told) ≡ filed f (Some d.book.read) d.book.files
  whole f fd told =
      ap (λ (b : Bool). filed_if (b && true) (record { file = f; fd = fd; bytes = d.book.read; over = true }) d.book.files) ((Decides-eqb fd.0 fd.0).1 refl)

  at_reading : (f : ControlFile) (reading : Reading) → ControlSays (IsSaid before) (facts before) f reading d.book → due_at (at.Start (start.Control f reading)) d ≡ event.due
      → BadAt (at.Start (start.Control f reading)) d event.came → HasBadFile (event ∷ before)
  at_reading f Opening says due b =
      by_filed f None
      (told_by (Reads d.book.files says.0) (needs.File (call.Open (control_text f) how.Read)) (got.Answered (record { answer = answer.Refused why.NotThere; bytes = b.0 })) says.1 due b.1 ∙ missing f says.0 b.0)
      b.2
  at_reading f (Closing fd) says due b =
      by_filed f (Some d.book.read)
      (told_by (Reads d.book.files (Some (record { file = f; fd = fd; bytes = d.book.read; over = true }))) (needs.File (call.Close fd)) (got.Answered b.0) says due b.1 ∙ whole f fd b.0)
      b.2
  at_reading f (Going fd) says due b = absurd b
  at_reading f (Shutting fd) says due b = absurd b

  at_row : (row : Row) → KnowsAt (IsSaid before) (facts before) row d → due_at row d ≡ event.due → BadAt row d event.came → HasBadFile (event ∷ before)
  at_row (at.Start (start.Control f reading)) k due b = at_reading f reading k.3 due b
  at_row row k due b = absurd b

-- the newest event read or missed the last of them
pub has_bad : (turns : ℕ) (event : Own) (before : List Own) → IsRunBy (Next (Some turns)) (event ∷ before)
    → (let d = place_after (Some turns) before in BadAt (row_now d event.read event.ready) d event.came) → HasBadFile (event ∷ before)
has_bad turns event before run b =
    let d : Desk = place_after (Some turns) before in
    at_row event before d (row_now d event.read event.ready) (arrive_says (IsSaid before) (facts before) d event.read event.ready d.row (all_kept (Some turns) before run.0).1) run.1.0 b
