-- A message without a job was tried before an event, if it was after that.
use Rattle.std.proofs.Common.{◌≡◌, ℕ, List, [], ◌∷◌, Bool, true, false, if◌then◌else◌, Option, Some, None, bytes_eq, refl, sym, ap, ◌∙◌}
use Rattle.std.specs.Prelude.{◌&&◌, ◌||◌, ◌==◌, is_some}
use Rattle.std.proofs.lemmas.Bool.{and_from, and_parts}
use Rattle.call_fs.specs.Past.{IsRunBy}
use Rattle.call_fs.specs.declared.calls.Answer.TheVariants as answer
use Rattle.call_fs.specs.declared.calls.Answer.{Answer}
use Rattle.call_fs.specs.declared.calls.CallData.TheVariants as call
use Rattle.call_fs.specs.declared.calls.FsError.TheVariants as why
use Rattle.call_fs.specs.declared.past.GotData.TheVariants as came
use Rattle.call_fs.specs.declared.past.GotData.{GotData}
use Rattle.call_fs.specs.declared.past.NeedData.TheVariants as needs
use Rattle.call_fs.specs.declared.past.NeedData.{NeedData}
use Rattle.call_fs.specs.declared.past.Own.{Own}
use Rattle.call_fs.specs.declared.program.Port.TheVariants as port
use Rattle.queue_paths.specs.Names.Name.{Of}
use Rattle.queue_paths.specs.Names.Part.{Remote as RemoteFile}
use Rattle.queue_paths.specs.Names.{Name, parse}
use Rattle.retry_law.proofs.Jobs.{jobs}
use Rattle.retry_law.proofs.KnownNow.{was_known}
use Rattle.retry_law.specs.Passes.{lane_after}
use Rattle.retry_law.specs.Tried.{tried_by, tried_in}
use Rattle.send_core.specs.Births.{births}
use Rattle.send_core.specs.Past.{Work, work}
use Rattle.send_core.specs.Table.{Next}
use Rattle.send_jobs.specs.Jobs.{job_of}
use Rattle.send_known.specs.declared.channel.Channel.{Channel}
use Rattle.send_runs.specs.DueMoments.Shift.{Begins, Fails, Learns, Same}
use Rattle.send_runs.specs.DueMoments.{Shift, Trial, found, has_unlinked, shift, shift_by, shift_if, trial}
use Rattle.send_runs.specs.Dues.{pass_in}
use Rattle.send_runs.specs.Files.{drops, has_by, has_in, there_in}
use Rattle.send_runs.specs.Knowing.{known_by, known_in, looked_for}
use Rattle.send_parts.specs.Steps.{remove_text}
use Rattle.todo_pass.specs.Table.{command_text}
use Rattle.settle_law.specs.inside.TriedStay.{TriedStay, tried_at}

abbrev IsLearning : Shift → Type 0
IsLearning (Learns moment) = Unit {0}
IsLearning s = ⊥

-- if no pass went on
kept : (s : Shift) (after tried : Option ℕ) → is_some (tried_by s None after tried) ≡ true → (is_some tried ≡ true) × (IsLearning s → ⊥)
kept (Learns moment) after tried e = absurd (cc)
kept Same after tried e = (e, λ x. x)
kept (Begins begun) after tried e = (e, λ x. x)
kept Fails after tried e = (e, λ x. x)

learns_if : (b : Bool) (moment : ℕ) → (b || false) ≡ true → IsLearning (shift_if b (Learns moment))
learns_if true moment e = tt
learns_if false moment e = absurd (cc)

answered_learns : (gone b : Bool) (moment : ℕ) → (if gone then false else (if b then true else false)) ≡ true → IsLearning (shift_if b (Learns moment))
answered_learns true b moment e = absurd (cc)
answered_learns false true moment e = tt
answered_learns false false moment e = absurd (cc)

found_learns : (o : Option Name) (told : Answer) (n : ℕ) → looked_for o told n false ≡ true → IsLearning (found o told n)
found_learns (Some (Of RemoteFile m)) (answer.Stat stat) n e = learns_if (m == n) 0 e
found_learns (Some (Of RemoteFile m)) (answer.Refused why.NotThere) n e = learns_if (m == n) 0 e
found_learns o told n e = absurd (cc)

module _ (c : Channel) (n now : ℕ) (command : List ℕ) (clears : Bool) (at_work : Option Work) (t : Option Trial) where
  learns : (due : NeedData) (got : GotData) → known_by due got command n false ≡ true → IsLearning (shift_by c n now command clears at_work t due got)
  learns (needs.File (call.Stat name)) (came.Answered told) e = found_learns (parse name) told.answer n e
  learns (needs.Take port.Clean) (came.Took bytes) e =
      answered_learns (bytes_eq command (remove_text n)) (bytes_eq command (command_text n) && bytes_eq bytes (43 ∷ [])) now e
  learns due got e = absurd (cc)

not_true : (k : Bool) → (k ≡ true → ⊥) → k ≡ false
not_true true far = absurd (far refl)
not_true false far = refl

had : (k d there was : Bool) → (k ≡ true → ⊥) → has_by k d there was ≡ true → was ≡ true
had true d there was far e = absurd (far refl)
had false true there was far e = absurd (cc)
had false false there was far e = e

module _ (turns : Option ℕ) (past : List Own) (event : Own) (run : IsRunBy (Next turns) (event ∷ past)) (c : Channel) (n : ℕ) (none : job_of n (lane_after turns past c).jobs ≡ None)
    (after : tried_at (event ∷ past) c n ≡ true) where
  parts : (is_some (tried_in c n (event ∷ past)) ≡ true) × (has_in c n (event ∷ past) ≡ true)
  parts = and_parts (is_some (tried_in c n (event ∷ past))) (has_in c n (event ∷ past)) after

  was : (is_some (tried_in c n past) ≡ true) × (IsLearning (shift c n past event) → ⊥)
  was =
      let still : pass_in c n past ≡ None = (jobs turns past event run c n).none none in
      kept (shift c n past event) (pass_in c n (event ∷ past)) (tried_in c n past)
      (sym (ap (λ (o : Option ℕ). is_some (tried_by (shift c n past event) o (pass_in c n (event ∷ past)) (tried_in c n past))) still) ∙ parts.0)

  unlearnt : known_by event.due event.came (births past).command n false ≡ true → ⊥
  unlearnt e = was.1 (learns c n event.read (births past).command (has_unlinked past) (work past) (trial past) event.due event.came e)

  -- it was known, if it is
  pub known_before : known_in (event ∷ past) n ≡ true → known_in past n ≡ true
  known_before known = was_known event past n known (not_true (known_by event.due event.came (births past).command n false) unlearnt)

  pub tried_before : tried_at past c n ≡ true
  tried_before = and_from (is_some (tried_in c n past)) (has_in c n past) was.0
      (had (known_by event.due event.came (births past).command n false) (drops c n (has_unlinked past) event.due event.came) (there_in c n (event ∷ past)) (has_in c n past) unlearnt parts.1)

pub tried_stay : TriedStay
tried_stay turns past event run c n none after = tried_before turns past event run c n none after
