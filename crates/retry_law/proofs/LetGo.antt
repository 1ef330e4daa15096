-- What a sender knows after an event it didn't let go of before.
use Rattle.std.proofs.Common.{◌≡◌, ℕ, List, [], ◌∷◌, bytes_eq, eqb-true, Bool, true, false, if◌then◌else◌, Option, refl, sym, ap, ◌∙◌, subst}
use Rattle.std.proofs.lemmas.Bool.{false≢true}
use Rattle.std.proofs.lemmas.Slice.Eq.{bytes_eq-Decides}
use Rattle.std.specs.Prelude.{◌&&◌}
use Rattle.call_fs.specs.Past.{IsRunBy}
use Rattle.call_fs.specs.Program.{MayCome}
use Rattle.call_fs.specs.declared.past.GotData.TheVariants as came
use Rattle.call_fs.specs.declared.past.GotData.{GotData}
use Rattle.call_fs.specs.declared.past.NeedData.{NeedData}
use Rattle.call_fs.specs.declared.past.Own.{Own}
use Rattle.retry_law.specs.Infos.{lets_go}
use Rattle.send_core.proofs.Asked.{KnowsAt}
use Rattle.send_core.proofs.Runs.{all_kept, facts}
use Rattle.send_core.proofs.Says.{arrive_says}
use Rattle.send_core.specs.Agrees.{has_ended}
use Rattle.send_core.specs.Births.{births}
use Rattle.send_core.specs.Senders.{IsSaid}
use Rattle.send_core.specs.Table.{Next, arrive, due_at, moved_by, place_after, row_now}
use Rattle.send_core.specs.declared.desk.Desk.{Desk}
use Rattle.send_parts.specs.Steps.{remove_text}
use Rattle.send_parts.specs.declared.row.Row.TheVariants as at
use Rattle.send_parts.specs.declared.row.Row.{Row}
use Rattle.send_parts.specs.declared.rows.FinishRow.TheVariants as finish
use Rattle.send_runs.specs.Knowing.{known_by, known_in}
use Rattle.todo_pass.specs.Table.{command_text}

pub held_lives : (row : Row) (n : ℕ) → lets_go row n ≡ false → has_ended row ≡ false
held_lives (at.Ended status) n held = absurd (cc)
held_lives row n held = refl

module _ (turns : Option ℕ) (event : Own) (before : List Own) (run : IsRunBy (Next turns) (event ∷ before)) (n : ℕ) where
  abbrev d : Desk
  d = place_after turns before

  abbrev row : Row
  row = row_now d event.read event.ready

  abbrev Forgets : Row → GotData → Type 0
  Forgets r got = lets_go r n ≡ true → MayCome (due_at r d) got → KnowsAt (IsSaid before) (facts before) r d → has_ended (moved_by r event.read got d).row ≡ false
      → known_by (due_at r d) got (births before).command n (known_in before n) ≡ false

  -- the answer to the command that removes a message ends its finish, whatever it is, and its number is forgotten
  forgets : (r : Row) (got : GotData) → Forgets r got
  forgets (at.Finish finish.Take m) (came.Took bytes) gone may says alive =
      ap (λ (b : Bool). if b then false else (if bytes_eq (births before).command (command_text n) && bytes_eq bytes (43 ∷ []) then true else known_in before n))
      ((bytes_eq-Decides (births before).command (remove_text n)).1 (says.1 ∙ ap remove_text (eqb-true m n gone)))
  forgets (at.Finish finish.Take m) came.End gone may says alive = absurd (cc)
  forgets (at.Finish finish.Take m) came.Failed gone may says alive = absurd (cc)
  forgets (at.Finish finish.Take m) got gone may says alive = absurd may
  forgets (at.Ended status) got gone may says alive = absurd may
  forgets r got gone may says alive = absurd (cc)

  arrived : (r : Row) → lets_go r n ≡ true → lets_go (arrive r d event.read event.ready) n ≡ true
  arrived (at.Finish finish.Take m) gone = gone
  arrived (at.Ended status) gone = refl
  arrived r gone = absurd (cc)

  forgotten : lets_go d.row n ≡ true → has_ended (place_after turns (event ∷ before)).row ≡ false → known_in (event ∷ before) n ≡ false
  forgotten gone alive =
      ap (λ (x : NeedData). known_by x event.came (births before).command n (known_in before n)) (sym run.1.0)
      ∙ forgets row event.came (arrived d.row gone) (subst (λ (x : NeedData). MayCome x event.came) (sym run.1.0) run.1.1)
      (arrive_says (IsSaid before) (facts before) d event.read event.ready d.row (all_kept turns before run.0).1) alive

  pub held_before : has_ended (place_after turns (event ∷ before)).row ≡ false → known_in (event ∷ before) n ≡ true → lets_go d.row n ≡ false
  held_before alive known = by (lets_go d.row n) refl where
    by : (b : Bool) → lets_go d.row n ≡ b → lets_go d.row n ≡ false
    by true gone = absurd (false≢true (sym (forgotten gone alive) ∙ known))
    by false held = held
