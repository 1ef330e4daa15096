-- The names that a cleaner takes away in its scan of `pid` are old.
use Rattle.std.proofs.Common.{◌≡◌, ℕ, ◌+◌, ◌%◌, List, [], ◌∷◌, ◌++◌, Bool, true, false, if◌then◌else◌, ◌==◌, Option, Some, None, refl, sym, ap, ◌∙◌, arith}
use Rattle.std.specs.Prelude.{slice_get}
use Rattle.std.proofs.lemmas.Bool.{ltb-true}
use Rattle.call_fs.specs.Past.{IsRunBy}
use Rattle.call_fs.specs.declared.calls.CallData.TheVariants as call
use Rattle.call_fs.specs.declared.past.GotData.{GotData}
use Rattle.call_fs.specs.declared.past.GotData.TheVariants as got
use Rattle.call_fs.specs.declared.past.NeedData.{NeedData}
use Rattle.call_fs.specs.declared.past.NeedData.TheVariants as needs
use Rattle.call_fs.specs.declared.past.Own.{Own}
use Rattle.queue_clean.specs.declared.command.Command.{Command}
use Rattle.queue_clean.specs.declared.command.Command.TheVariants.{Foop, Todo}
use Rattle.queue_clean.specs.declared.intake.TheConstants.{ROUND}
use Rattle.queue_clean.specs.declared.row.Row.{Row}
use Rattle.queue_clean.specs.declared.row.Row.TheVariants as at
use Rattle.queue_clean.specs.Commands.{command_of, commands, first_name, second_name}
use Rattle.queue_clean.specs.Table.Step.{Goes}
use Rattle.queue_clean.specs.Table.{Place, after_intd, after_second, due_at, first_row, found, gave, goes_on, is_gone, is_old, leads_to, moment_in, moved, name_in, next_command, pid_path, place_after, search_after, stated, take_up, took}
use Rattle.queue_paths.specs.Names.{path}
use Rattle.program_law.specs.Errand.OldNames.{OldNamesGo, WasOld}

-- Which unlink it is

abbrev first : List ℕ → ℕ
first [] = 0
first (x ∷ rest) = x

abbrev unlinked : NeedData → List ℕ
unlinked (needs.File (call.Unlink name)) = name
unlinked other = []

first_apart : (command : Command) (part : List ℕ) → path (first_name command) ≡ pid_path part → ⊥
unfolding path
first_apart (Foop n) part e = let other : 105 ≡ 112 = ap first e in absurd (omega (arith, other))
first_apart (Todo n) part e = let other : 105 ≡ 112 = ap first e in absurd (omega (arith, other))

second_apart : (command : Command) (part : List ℕ) → path (second_name command) ≡ pid_path part → ⊥
unfolding path
second_apart (Foop n) part e = let other : 109 ≡ 112 = ap first e in absurd (omega (arith, other))
second_apart (Todo n) part e = let other : 116 ≡ 112 = ap first e in absurd (omega (arith, other))

module _ (now : ℕ) (part : List ℕ) where
  abbrev gone : NeedData
  gone = needs.File (call.Unlink (pid_path part))

  -- that of a name which was judged
  record IsJudging (row : Row) (name : List ℕ) : Type 0 where
    moment : ℕ
    row_is : row ≡ at.JudgePid moment
    old : is_old moment now ≡ true
    name_is : pid_path name ≡ pid_path part

  judging : (moment : ℕ) (name : List ℕ) (old : Bool) → is_old moment now ≡ old → (if old then needs.File (call.Unlink (pid_path name)) else search_after name) ≡ gone
      → IsJudging (at.JudgePid moment) name
  judging moment name true is due = record { moment = moment; row_is = refl; old = is; name_is = ap unlinked due }
  judging moment name false is due = absurd (cc)

  by_row : (row : Row) (name : List ℕ) → due_at row name now ≡ gone → IsJudging row name
  by_row at.FindPid name due = absurd (cc)
  by_row at.StatPid name due = absurd (cc)
  by_row (at.JudgePid moment) name due = judging moment name (is_old moment now) refl due
  by_row at.TakeInput name due = absurd (cc)
  by_row (at.UnlinkIntd command) name due = absurd (first_apart command part (ap unlinked due))
  by_row (at.UnlinkSecond command) name due = absurd (second_apart command part (ap unlinked due))
  by_row (at.Answer reply) name due = absurd (cc)
  by_row (at.Ended status) name due = absurd (cc)

-- How it came to be judged

module _ (moment : ℕ) where
  abbrev Judges : Place → Type 0
  Judges p = p.row ≡ at.JudgePid moment

  commanded_apart : (command : Option Command) → first_row command ≡ at.JudgePid moment → ⊥
  commanded_apart None is = absurd (cc)
  commanded_apart (Some command) is = absurd (cc)

  taken_apart : (text : Option (List ℕ)) (p : Place) → Judges (take_up text p) → ⊥
  taken_apart None p is = absurd (cc)
  taken_apart (Some text) p is = commanded_apart (command_of text) is

  next_apart : (p : Place) → Judges (next_command p) → ⊥
  next_apart p is = taken_apart (slice_get (commands p.taken) p.begun) p is

  found_apart : (name : Option (List ℕ)) (p : Place) → Judges (goes_on (found name) p) → ⊥
  found_apart None p is = next_apart p is
  found_apart (Some name) p is = absurd (cc)

  judged_apart : (old : Bool) (name : Option (List ℕ)) (p : Place) → Judges (goes_on (if old then Goes at.FindPid else found name) p) → ⊥
  judged_apart true name p is = absurd (cc)
  judged_apart false name p is = found_apart name p is

  took_apart : (came : GotData) (p : Place) → Judges (goes_on (took came) p) → ⊥
  took_apart (got.Took bytes) p is = next_apart (record p { taken = p.taken ++ bytes }) is
  took_apart got.End p is = absurd (cc)
  took_apart other p is = absurd (cc)

  intd_apart : (command : Command) (is_gone : Bool) → after_intd command is_gone ≡ at.JudgePid moment → ⊥
  intd_apart command true is = absurd (cc)
  intd_apart command false is = absurd (cc)

  second_row_apart : (is_gone : Bool) → after_second is_gone ≡ at.JudgePid moment → ⊥
  second_row_apart true is = absurd (cc)
  second_row_apart false is = absurd (cc)

  round_apart : (scan : Bool) (p : Place) → Judges (if scan then record p { row = at.FindPid; name = [] } else next_command p) → ⊥
  round_apart true p is = absurd (cc)
  round_apart false p is = next_apart p is

  gave_apart : (came : GotData) (p : Place) → Judges (goes_on (gave came) p) → ⊥
  gave_apart got.Gave p is = round_apart (p.begun % ROUND == 0) p is
  gave_apart other p is = absurd (cc)

  stated_so : (o : Option ℕ) → stated o ≡ at.JudgePid moment → o ≡ Some moment
  stated_so None is = absurd (cc)
  stated_so (Some told) is = cc

  -- directly before it the file was looked at
  from_stat : (row : Row) (p : Place) (read : ℕ) (came : GotData) → Judges (goes_on (leads_to row read came) p) → (row ≡ at.StatPid) × (moment_in came ≡ Some moment)
  from_stat at.FindPid p read came is = absurd (found_apart (name_in came) p is)
  from_stat at.StatPid p read came is = (refl, stated_so (moment_in came) is)
  from_stat (at.JudgePid other) p read came is = absurd (judged_apart (is_old other read) (name_in came) p is)
  from_stat at.TakeInput p read came is = absurd (took_apart came p is)
  from_stat (at.UnlinkIntd command) p read came is = absurd (intd_apart command (is_gone came) is)
  from_stat (at.UnlinkSecond command) p read came is = absurd (second_row_apart (is_gone came) is)
  from_stat (at.Answer reply) p read came is = absurd (gave_apart came p is)
  from_stat (at.Ended status) p read came is = absurd (cc)

-- a stat leaves the name
stat_name : (row : Row) (p : Place) (read : ℕ) (came : GotData) → row ≡ at.StatPid → (goes_on (leads_to row read came) p).name ≡ p.name
stat_name row p read came is = ap (λ (r : Row). (goes_on (leads_to r read came) p).name) is

was_old : (past : List Own) (now : ℕ) (part : List ℕ) → IsRunBy (λ before read ready. due_at (place_after before).row (place_after before).name read) past
    → IsJudging now part (place_after past).row (place_after past).name → WasOld past now part
was_old [] now part run h = let row = h.row_is in absurd (cc)
was_old (look ∷ before) now part run h =
    let p = place_after before in
    let stat = from_stat h.moment p.row p look.read look.came h.row_is in
    let name : p.name ≡ (moved p look).name = sym (stat_name p.row p look.read look.came stat.0) in
    record {
      look = look;
      before = before;
      last = refl;
      asked = sym run.1.0 ∙ ap (λ (r : Row). due_at r p.name look.read) stat.0 ∙ ap (λ (path : List ℕ). needs.File (call.Stat path)) (ap pid_path name ∙ h.name_is);
      moment = h.moment;
      told = stat.1;
      old = ltb-true (h.moment + 129600) now h.old;
    }

pub old_names_go : OldNamesGo
old_names_go past now ready part run due = was_old past now part run (by_row now part (place_after past).row (place_after past).name due)
