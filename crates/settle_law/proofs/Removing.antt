-- A cleaner that is to remove a message answers nothing while the number is half-way, where nothing fails.
use Rattle.std.proofs.Common.{◌≡◌, ℕ, List, [], ◌++◌, Bool, true, false, if◌then◌else◌, Option, Some, None, refl, sym, ap, ◌∙◌, subst, append_assoc, codes}
use Rattle.std.specs.Prelude.{drop, slice_get, suc}
use Rattle.std.proofs.lemmas.Bool.{false≢true}
use Rattle.std.proofs.lemmas.List.{append-nil}
use Rattle.call_fs.specs.Apply.{Fits}
use Rattle.call_fs.specs.Disk.{Disk}
use Rattle.call_fs.specs.declared.calls.Answer.{Answer}
use Rattle.call_fs.specs.declared.calls.Answer.TheVariants as answer
use Rattle.call_fs.specs.declared.calls.CallData.TheVariants as call
use Rattle.call_fs.specs.declared.calls.FsError.TheVariants as why
use Rattle.call_fs.specs.declared.past.GotData.{GotData}
use Rattle.call_fs.specs.declared.past.GotData.TheVariants as came
use Rattle.call_fs.specs.declared.past.NeedData.TheVariants as needs
use Rattle.call_fs.specs.declared.past.Own.{Own}
use Rattle.call_fs.specs.declared.program.Port.TheVariants as port
use Rattle.program_law.proofs.Errand.Links.{first_waits}
use Rattle.program_law.proofs.Errand.Texts.{drop_get, get_grows}
use Rattle.program_law.specs.Errand.Errands.{Errand, work_at}
use Rattle.program_law.specs.Errand.Errands.Awaits.{Answer as Awaiting}
use Rattle.queue_clean.proofs.Texts.{exact}
use Rattle.queue_clean.specs.Commands.{command_of, commands, first_name, second_name, text_of}
use Rattle.queue_clean.specs.Table.{Place, after_intd, due_at, first_row, found, goes_on, gone_told, is_gone, is_old, leads_to, moment_in, name_in, next_command, stated, take_up, took}
use Rattle.queue_clean.specs.Table.Step.{Goes}
use Rattle.queue_clean.specs.declared.command.Command.{Command}
use Rattle.queue_clean.specs.declared.command.Command.TheVariants.{Foop}
use Rattle.queue_clean.specs.declared.row.Row.{Row}
use Rattle.queue_clean.specs.declared.row.Row.TheVariants as at
use Rattle.queue_paths.specs.Names.{path}
use Rattle.mail_world.specs.History.{ComesOf, State, disk_after}
use Rattle.world_law.specs.Crew.{link_in, place_in}
use Rattle.world_pipes.specs.Pipework.{Yields}
use Rattle.settle_law.specs.inside.HalfWay.{IsHalfWay, IsNumber, is_answer}
use Rattle.settle_law.specs.Well.{came_well, is_well_answered}
use Rattle.settle_law.proofs.Injecting.{unlink_none}
use Rattle.settle_law.proofs.ServedPasts.{by_answer}

-- A name is gone after an unlink that didn't fail

unlinks_well : (d : Disk) (name : List ℕ) (told : Answer) (wrote : ℕ) → Fits d (call.Unlink name) told wrote → is_well_answered told ≡ true → gone_told told ≡ true
unlinks_well d name answer.Done wrote fits well = refl
unlinks_well d name (answer.Refused why.NotThere) wrote fits well = refl
unlinks_well d name (answer.Refused why.Fault) wrote fits well = absurd (false≢true well)
unlinks_well d name told wrote fits well = absurd fits

-- A text that is taken up is a command

takes_up : (o : Option (List ℕ)) (p : Place) → ((text : List ℕ) → o ≡ Some text → (c : Command) × (command_of text ≡ Some c)) → is_answer (take_up o p).row ≡ false
takes_up None p known = refl
takes_up (Some text) p known = let w = known text refl in ap (λ (c : Option Command). is_answer (first_row c)) w.1

module _ (s : State) (n : ℕ) (number : IsNumber n) (waits : Option Command) (E : Errand waits (link_in s)) (awaits : (link_in s).awaits ≡ Awaiting (Foop n)) (own : Own) (wrote : ℕ)
    (well : came_well own.came ≡ true) where
  abbrev p : Place
  p = place_in (s.actors (codes "clean"))

  abbrev given : List ℕ
  given = (s.pipework.pipes (codes "clean") port.Input).bytes

  known : (bytes rest : List ℕ) → given ≡ bytes ++ rest → (text : List ℕ) → slice_get (commands (p.taken ++ bytes)) p.begun ≡ Some text → (c : Command) × (command_of text ≡ Some c)
  known bytes rest offered text got =
      let whole : (p.taken ++ bytes) ++ rest ≡ p.taken ++ given = append_assoc p.taken bytes rest ∙ ap (λ (t : List ℕ). p.taken ++ t) (sym offered) in
      let later : slice_get (commands (p.taken ++ given)) p.begun ≡ Some text =
      ap (λ (t : List ℕ). slice_get (commands t) p.begun) (sym whole) ∙ get_grows (p.taken ++ bytes) rest p.begun text got in
      let w = first_waits waits text (drop (suc p.begun) (commands (p.taken ++ given))) (sym (drop_get (commands (p.taken ++ given)) p.begun text later) ∙ E.texts) in
      let same : w.command ≡ Foop n = (E.errand (Foop n) awaits).waiting_is w.command w.is in
      (Foop n, (exact.one text (Foop n)).1 (record { positive = number.0; fits = number.1; text_is = w.text_is ∙ ap text_of same }))

  next_free : (bytes rest : List ℕ) → given ≡ bytes ++ rest → is_answer (next_command (record p { taken = p.taken ++ bytes })).row ≡ false
  next_free bytes rest offered = takes_up (slice_get (commands (p.taken ++ bytes)) p.begun) (record p { taken = p.taken ++ bytes }) (known bytes rest offered)

  scanned : is_answer (next_command p).row ≡ false
  scanned = takes_up (slice_get (commands p.taken) p.begun) p
      (λ text got. known [] given refl text (ap (λ (t : List ℕ). slice_get (commands t) p.begun) (append-nil p.taken) ∙ got))

  finds : (o : Option (List ℕ)) → is_answer (goes_on (found o) p).row ≡ false
  finds None = scanned
  finds (Some name) = refl

  judges : (b : Bool) (o : Option (List ℕ)) → is_answer (goes_on (if b then Goes at.FindPid else found o) p).row ≡ false
  judges true o = refl
  judges false o = finds o

  stats : (o : Option ℕ) → is_answer (stated o) ≡ false
  stats None = refl
  stats (Some moment) = refl

  takes : (got : GotData) → Yields (s.pipework.pipes (codes "clean") port.Input) got → is_answer (goes_on (took got) p).row ≡ false
  takes (came.Took bytes) yields = next_free bytes yields.1.0 yields.1.1
  takes got yields = refl

  -- at a row of the cleaner
  pub row_after : (r : Row) → p.row ≡ r → ComesOf s (codes "clean") (due_at r p.name own.read) own.came wrote → IsHalfWay (disk_after s.disk own.read (due_at r p.name own.read) own.came wrote) n
      → is_answer r ≡ false → is_answer (goes_on (leads_to r own.read own.came) p).row ≡ false
  row_after at.FindPid e comes half none = finds (name_in own.came)
  row_after at.StatPid e comes half none = stats (moment_in own.came)
  row_after (at.JudgePid moment) e comes half none = judges (is_old moment own.read) (name_in own.came)
  row_after at.TakeInput e comes half none = takes own.came comes
  row_after (at.UnlinkIntd c) e comes half none =
      ap (λ (b : Bool). is_answer (after_intd c b))
      (by_answer s (codes "clean") (λ g. came_well g ≡ true → is_gone g ≡ true) (call.Unlink (path (first_name c))) wrote own.came comes
      (λ answers bytes fits fine. unlinks_well s.disk (path (first_name c)) answers wrote fits fine) well)
  row_after (at.UnlinkSecond c) e comes half none =
      let same : c ≡ Foop n = (E.errand (Foop n) awaits).working_is c (ap work_at e) in
      absurd (by_answer s (codes "clean") (λ g. came_well g ≡ true → IsHalfWay (disk_after s.disk own.read (needs.File (call.Unlink (path (second_name (Foop n))))) g wrote) n → ⊥)
      (call.Unlink (path (second_name (Foop n)))) wrote own.came
      (subst (λ (x : Command). ComesOf s (codes "clean") (needs.File (call.Unlink (path (second_name x)))) own.came wrote) same comes)
      (λ answers bytes fits fine half. unlink_none s.disk own.read wrote n answers fine fits half) well
      (subst (λ (x : Command). IsHalfWay (disk_after s.disk own.read (needs.File (call.Unlink (path (second_name x)))) own.came wrote) n) same half))
  row_after (at.Answer reply) e comes half none = absurd (false≢true (sym none))
  row_after (at.Ended status) e comes half none = refl
