-- The events of the cleaner: it looks for old names in `pid`, takes commands, removes what they name, and answers.
use Rattle.std.proofs.Common.{◌≡◌, ◌≢◌, ◌⊎◌, inl, inr, ℕ, ◌≤◌, List, ◌∷◌, Bool, true, false, Option, Some, None, refl, sym, ap, ◌∙◌, subst, ⊎_elim, arith, length, codes, if◌then◌else◌}
use Rattle.call_fs.specs.declared.calls.Answer.{Answer as Told}
use Rattle.call_fs.specs.declared.calls.CallData.{CallData}
use Rattle.call_fs.specs.declared.calls.CallData.TheVariants as call
use Rattle.call_fs.specs.declared.calls.Told.{Told as TellsBack}
use Rattle.call_fs.specs.declared.past.GotData.{GotData}
use Rattle.call_fs.specs.declared.past.GotData.TheVariants as got
use Rattle.call_fs.specs.declared.past.NeedData.{NeedData}
use Rattle.call_fs.specs.declared.past.NeedData.TheVariants as needs
use Rattle.call_fs.specs.declared.past.Own.{Own}
use Rattle.call_fs.specs.declared.program.Port.TheVariants as port
use Rattle.call_fs.specs.Apply.{Fits}
use Rattle.call_fs.specs.Maps.{put_at}
use Rattle.queue_paths.specs.Names.{Name, path}
use Rattle.queue_paths.specs.Names.Name.{Of}
use Rattle.queue_paths.specs.Names.Part.{Mess, Intd, Todo as TodoPart}
use Rattle.queue_clean.specs.declared.command.Command.{Command}
use Rattle.queue_clean.specs.declared.command.Command.TheVariants.{Todo}
use Rattle.queue_clean.specs.declared.row.Reply.TheVariants.{Removed}
use Rattle.queue_clean.specs.declared.row.Row.{Row}
use Rattle.queue_clean.specs.declared.row.Row.TheVariants as at
use Rattle.queue_clean.specs.Commands.{first_name, message_of, second_name}
use Rattle.queue_clean.specs.Table.{Place, due_at, due_by, is_old, moved, pid_path, place_after, search_after}
use Rattle.program_law.specs.Errand.Errands.{Awaits, Errand, IsOffered, Link, SaysWell, at_work, cleans, most, work_at}
use Rattle.program_law.specs.Errand.Errands.Awaits.{Answer, Nothing, Over}
use Rattle.program_law.specs.Errand.Laws.{Cleans, IsAnsweredBy}
use Rattle.program_law.proofs.Errand.Cleans.{cleans_keep}
use Rattle.program_law.proofs.Errand.Links.{idle_is, none_waits}
use Rattle.program_law.proofs.Delivery.Stay.{drops_stay}
use Rattle.queue_law.specs.Cleaners.{CleanerLeads, CleanerStands, Needs, number_at}
use Rattle.queue_law.specs.Numbers.{About, IsPreprocessed, Queue, about}
use Rattle.queue_law.specs.Rests.{IsClosed, RestsAs, Spares}
use Rattle.queue_law.specs.Senders.{called_queue}
use Rattle.queue_law.proofs.Changes.{unlinks_one}
use Rattle.queue_law.proofs.Cleaners.{cleaners_keep as calls_keep}
use Rattle.send_parts.specs.declared.row.Row.{Row as SenderRow}
use Rattle.send_parts.specs.declared.row.Row.TheVariants as sends
use Rattle.send_core.specs.Table.{place_after as sender_after}
use Rattle.send_core.specs.Turn.{known_of}
use Rattle.send_parts.specs.declared.rows.FinishRow.TheVariants as finish
use Rattle.send_parts.specs.declared.rows.SweepRow.{SweepRow}
use Rattle.send_parts.specs.declared.rows.SweepRow.TheVariants as sweep
use Rattle.todo_pass.specs.declared.row.Row.{Row as PassRow}
use Rattle.todo_pass.specs.declared.row.Row.TheVariants as todo
use Rattle.todo_pass.specs.Table.{Pass}
use Rattle.program_law.specs.Sender.Commands.{IsNoCall}
use Rattle.program_law.specs.Sender.InTodo.{IsExpected}
use Rattle.program_law.specs.Sender.LeftAlone.{LeavesPass, LeavesRow}
use Rattle.program_law.specs.Sender.Points.{number_in}
use Rattle.program_law.specs.Sender.Waits.{awaits_at, awaits_in as awaits_in_pass}
use Rattle.program_law.proofs.Sender.Goes.{cleaners_go_on}
use Rattle.program_law.proofs.Sender.Gone.{file_call}
use Rattle.program_law.proofs.Sender.Known.{unlinks_leave_learned}
use Rattle.program_law.proofs.Sender.Spares.{others_spare}
use Rattle.world_pipes.specs.Pipework.{Pipe, Pipework, Yields, pipework_after}
use Rattle.world_events.specs.declared.event.Program.{Program}
use Rattle.world_events.specs.declared.event.Program.TheVariants.{Cleaner, Sender}
use Rattle.mail_world.specs.History.{Actor, ComesOf, IsCleaner, Life, State, acted, next_of}
use Rattle.mail_world.specs.History.Life.{Alive}
use Rattle.mail_world.specs.Untouched.{queue}
use Rattle.world_law.specs.Crew.{IsNamed, awaits_in, link_by, lives_in}
use Rattle.world_law.specs.Inv.{ErrandRests, Inv}
use Rattle.world_law.specs.Laws.{CleanersKeep}
use Rattle.world_law.proofs.Moved.{moved_by}
use Rattle.world_law.proofs.Stepped.{led_keeps}
use Rattle.world_law.proofs.Tenants.{GoesOn}

-- What it does: a file call, a taking of commands, or a giving of an answer

abbrev IsCleaning : NeedData → Type 0
IsCleaning (needs.File c) = Unit {0}
IsCleaning (needs.Take port.Input) = Unit {0}
IsCleaning (needs.Give port.Output bytes) = Unit {0}
IsCleaning (needs.Ended status) = Unit {0}
IsCleaning other = ⊥

cleaning_if : (b : Bool) (x y : NeedData) → IsCleaning x → IsCleaning y → IsCleaning (if b then x else y)
cleaning_if true x y h k = h
cleaning_if false x y h k = k

cleaner_due : (row : Row) (name : List ℕ) (now : ℕ) → IsCleaning (due_at row name now)
cleaner_due at.FindPid name now = tt
cleaner_due at.StatPid name now = tt
cleaner_due (at.JudgePid moment) name now = cleaning_if (is_old moment now) (needs.File (call.Unlink (pid_path name))) (search_after name) tt tt
cleaner_due at.TakeInput name now = tt
cleaner_due (at.UnlinkIntd command) name now = tt
cleaner_due (at.UnlinkSecond command) name now = tt
cleaner_due (at.Answer reply) name now = tt
cleaner_due (at.Ended status) name now = tt

-- The command at work at a row

record IsWork (row : Row) : Type 0 where
  command : Command
  work : work_at row ≡ Some command
  one : at_work row ≡ 1

work_or : (row : Row) → (number_at row ≡ None) ⊎ IsWork row
work_or (at.UnlinkIntd c) = inr (record { command = c; work = refl; one = refl })
work_or (at.UnlinkSecond c) = inr (record { command = c; work = refl; one = refl })
work_or row = inl refl

none_at : (row : Row) → at_work row ≡ 0 → number_at row ≡ None
none_at row idle = ⊎_elim (λ (none : number_at row ≡ None). none) (λ (w : IsWork row). let one = w.one in absurd (omega (arith, one, idle))) (work_or row)

none_apart : (row : Row) (n : ℕ) → number_at row ≡ None → number_at row ≢ Some n
none_apart row n none is = let v = sym none ∙ is in absurd (cc)

some_command : (x y : Command) → ◌≡◌ {A = Option Command} (Some x) (Some y) → x ≡ y
some_command x y e = cc

-- of `todo/n` it removes one of these two names
record RemovesTodo (n : ℕ) (c : CallData) : Type 0 where
  name : Name
  one : (name ≡ Of Intd n) ⊎ (name ≡ Of TodoPart n)
  is : c ≡ call.Unlink (path name)

todo_call : (row : Row) (n : ℕ) (name : List ℕ) (now : ℕ) (c : CallData) → work_at row ≡ Some (Todo n) → due_at row name now ≡ needs.File c → RemovesTodo n c
todo_call (at.UnlinkIntd command) n name now c is due = record {
  name = first_name command;
  one = inl (ap first_name (some_command command (Todo n) is));
  is = sym (file_call (call.Unlink (path (first_name command))) c due);
}
todo_call (at.UnlinkSecond command) n name now c is due = record {
  name = second_name command;
  one = inr (ap second_name (some_command command (Todo n) is));
  is = sym (file_call (call.Unlink (path (second_name command))) c due);
}
todo_call row n name now c is due = absurd (cc)

far_from_mess : (n m : ℕ) (x : Name) → (x ≡ Of Intd m) ⊎ (x ≡ Of TodoPart m) → Of Mess n ≢ x
far_from_mess n m x is same = ⊎_elim (λ w. cc) (λ w. cc) is

-- which leaves the number closed
stays_closed : (now : ℕ) (q : Queue) (a : List ℕ) (read n : ℕ) (x : Name) (told : Told) (wrote : ℕ) → (x ≡ Of Intd n) ⊎ (x ≡ Of TodoPart n)
    → Fits q.disk (call.Unlink (path x)) told wrote → IsClosed now q n → IsClosed now (called_queue q a read (call.Unlink (path x)) told wrote q.role) n
stays_closed now q a read n x told wrote is fits h = record {
  mess = h.mess;
  there = (unlinks_one q a read x told wrote fits).others (Of Mess n) (far_from_mess n n x is) ∙ h.there;
  shut = ⊎_elim (λ w. inl w) (λ w. inr (record { injection = w.injection; lives = w.lives; accepted = w.accepted })) h.shut;
}

-- What a call of it leaves the sender at its row: nothing is at work while that waits for nothing.

module _ (q r : Queue) (x : Link) (waits : Option Command) (E : Errand waits x) (abouts : (n : ℕ) → number_at x.place.row ≢ Some n → about r n ≡ about q n)
    (learned : (p : Pass) → x.awaits ≡ Answer (Todo p.n) → IsExpected (about q p.n) (known_of p) → IsExpected (about r p.n) (known_of p)) where
  abbrev k : Option ℕ
  k = number_at x.place.row

  apart : (n : ℕ) → x.awaits ≡ Nothing → k ≢ Some n
  apart n idle = none_apart x.place.row n (none_at x.place.row (idle_is waits x E idle).1.0)

  pass_left : (row : PassRow) (p : Pass) → awaits_in_pass row p.n ≡ x.awaits → LeavesPass row p k q r
  pass_left todo.Answer p e = learned p (sym e)
  pass_left todo.Done p e = tt
  pass_left (todo.Left why) p e = tt
  pass_left todo.Lost p e = tt
  pass_left row p e = (apart p.n (sym e), abouts p.n (apart p.n (sym e)))

  sweep_left : (row : SweepRow) (p : Pass) (n : ℕ) → awaits_at (sends.Sweep row) p ≡ x.awaits → number_in row ≡ Some n → k ≢ Some n
  sweep_left (sweep.Take split m) p n e is = absurd (cc)
  sweep_left row p n e is = apart n (sym e)

  row_left : (row : SenderRow) (p : Pass) → awaits_at row p ≡ x.awaits → LeavesRow row p k q r
  row_left sends.InTodo p e = pass_left p.row p e
  row_left (sends.Finish finish.Give n) p e = apart n (sym e)
  row_left (sends.Sweep row) p e = λ n. sweep_left row p n e
  row_left row p e = tt

-- What its event leaves of the errand, whose number rests

most_one : (w : Awaits) → most w ≤ 1
most_one Nothing = omega arith
most_one (Answer command) = omega arith
most_one Over = omega arith

module _ (now : ℕ) (q r : Queue) (x : Link) (E : ErrandRests now q true x) (event : Own) (wrote : ℕ) (C : Cleans E.waits event wrote x)
    (S : Spares now (number_at x.place.row) q r) (closed : (n : ℕ) → x.awaits ≡ Answer (Todo n) → IsWork x.place.row → IsClosed now q n → IsClosed now r n)
    (done : (n : ℕ) → x.place.row ≡ at.UnlinkSecond (Todo n) → (moved x.place event).row ≡ at.Answer Removed → RestsAs now r n (IsPreprocessed)) where
  none_while : IsWork x.place.row → E.waits ≡ None
  none_while w =
      let one = w.one in
      let low = E.errand.one in
      let high = most_one x.awaits in
      none_waits E.waits (omega (arith, one, low, high))

  waiting_apart : (command : Command) → E.waits ≡ Some command → number_at x.place.row ≢ Some (message_of command)
  waiting_apart command is = ⊎_elim
      (λ (none : number_at x.place.row ≡ None). none_apart x.place.row (message_of command) none)
      (λ (w : IsWork x.place.row) same. let v = sym (none_while w) ∙ is in absurd (cc))
      (work_or x.place.row)

  said_none : (n : ℕ) → x.awaits ≡ Answer (Todo n) → SaysWell x → number_at x.place.row ≡ None
  said_none n is well = ⊎_elim
      (λ (row : x.place.row ≡ at.Answer Removed). ap number_at row)
      (λ bytes.
      let long : length x.answers ≡ 1 = ap length bytes in
      let low = E.errand.one in
      let high = most_one x.awaits in
      none_at x.place.row (omega (arith, long, low, high)))
      well

  cleaned_errands : ErrandRests now r true (cleans event wrote x)
  cleaned_errands = record {
    waits = C.still;
    errand = C.keeps;
    rests = λ lives command is.
        let was = C.from command is in
        let w = E.rests lives command was in
        let n = message_of command in
        record {
          closed = S.closed n (waiting_apart command was) w.closed;
          rest = subst (Needs command) (sym (S.abouts n (waiting_apart command was) w.closed)) w.rest;
        };
    asked = λ n is. ⊎_elim
        (λ (none : number_at x.place.row ≡ None). S.closed n (none_apart x.place.row n none) (E.asked n is))
        (λ (w : IsWork x.place.row). closed n is w (E.asked n is))
        (work_or x.place.row);
    told = λ n is well. ⊎_elim
        (λ (before : SaysWell x).
        let w = E.told n is before in
        let far = none_apart x.place.row n (said_none n is before) in
        record { closed = S.closed n far w.closed; rest = subst (IsPreprocessed) (sym (S.abouts n far w.closed)) w.rest })
        (λ (by : IsAnsweredBy event x). done n (by.row ∙ ap at.UnlinkSecond (by.only (Todo n) is)) by.next)
        (C.well well);
  }

-- An event

abbrev cleaner : ℕ → List Own → Actor
cleaner began past = record { program = Cleaner began; past = past; life = Alive }

abbrev event_of : Own → NeedData → GotData → Own
event_of own due came = record { read = own.read; ready = own.ready; due = due; came = came }

-- what lies between the two afterwards
link_after : (w : Pipework) (sender : Option Actor) (began : ℕ) (past : List Own) (own : Own) (due : NeedData) (came : GotData) (wrote : ℕ) → IsCleaning due
    → link_by sender (Some (cleaner began (event_of own due came ∷ past))) (pipework_after w (codes "clean") due came wrote)
    ≡ cleans (event_of own due came) wrote (link_by sender (Some (cleaner began past)) w)
link_after w sender began past own (needs.File c) came wrote it = refl
link_after w sender began past own (needs.Take port.Input) (got.Took bytes) wrote it = refl
link_after w sender began past own (needs.Take port.Input) came wrote it = refl
link_after w sender began past own (needs.Give port.Output bytes) got.Gave wrote it = refl
link_after w sender began past own (needs.Give port.Output bytes) got.Failed wrote it = refl
link_after w sender began past own (needs.Give port.Output bytes) came wrote it = refl
link_after w sender began past own (needs.Ended status) came wrote it = refl
link_after w sender began past own other came wrote it = absurd it

offered : (pipe : Pipe) (came : GotData) → Yields pipe came → IsOffered pipe.bytes (needs.Take port.Input) came
offered pipe (got.Took bytes) h = h.1
offered pipe came h = tt

module _ (s : State) (I : Inv s) (wrote : ℕ) (began : ℕ) (past : List Own) (own : Own) (is : s.actors (codes "clean") ≡ Some (cleaner began past)) where
  abbrev name : List ℕ
  name = codes "clean"

  abbrev event : NeedData → GotData → Own
  event due came = event_of own due came

  abbrev then_state : NeedData → GotData → State
  then_state due came = acted s name (event due came) wrote (Some (cleaner began past))

  abbrev q : Queue
  q = queue s I.role

  abbrev place : Place
  place = place_after past

  abbrev x : Link
  x = link_by (s.actors (codes "sender")) (Some (cleaner began past)) s.pipework

  errands : ErrandRests s.now q true x
  errands = subst (λ (o : Option Actor). ErrandRests s.now q (lives_in o) (link_by (s.actors (codes "sender")) o s.pipework)) is I.errands

  stands : CleanerStands s.now q place
  stands = I.fares name (cleaner began past) is

  goes : GoesOn (s.actors name) (Cleaner began)
  goes = subst (λ (o : Option Actor). GoesOn o (Cleaner began)) (sym is) refl

  abbrev actors_after : NeedData → GotData → List ℕ → Option Actor
  actors_after due came = put_at s.actors name (Some (cleaner began (event due came ∷ past)))

  then_errands : (due : NeedData) (came : GotData) → IsCleaning due → (r : Queue) → ErrandRests s.now r true (cleans (event due came) wrote x)
      → ErrandRests s.now r (lives_in (actors_after due came (codes "clean")))
      (link_by (actors_after due came (codes "sender")) (actors_after due came (codes "clean")) (pipework_after s.pipework name due came wrote))
  unfolding put_at
  then_errands due came it r E =
      subst (ErrandRests s.now r true) (sym (link_after s.pipework (s.actors (codes "sender")) began past own due came wrote it)) E

  -- what is no file call

  no_unlink : (due : NeedData) → due_by place own.read ≡ due → IsNoCall due → (n : ℕ) → place.row ≡ at.UnlinkSecond (Todo n) → ⊥
  no_unlink due next uncalled n row = subst (λ (z : Row). IsNoCall (due_at z place.name own.read)) row (subst IsNoCall (sym next) uncalled)

  piped : (due : NeedData) (came : GotData) → IsCleaning due → IsNoCall due → due_by place own.read ≡ due → IsOffered x.given due came
      → ErrandRests s.now q true (cleans (event due came) wrote x) × CleanerStands s.now q (place_after (event due came ∷ past))
  piped due came it uncalled next from = (
    cleaned_errands s.now q q x errands (event due came) wrote (cleans_keep errands.waits (event due came) wrote x errands.errand (sym next) from)
        (record { closed = λ n far h. h; abouts = λ n far h. refl }) (λ n waits w h. h) (λ n row answered. absurd (no_unlink due next uncalled n row)),
    cleaners_go_on.goes_on s.now q errands.waits x (event due came) errands.errand (errands.rests refl) (sym next) uncalled from,
  )

  taken : (came : GotData) → due_by place own.read ≡ needs.Take port.Input → Yields (s.pipework.pipes name port.Input) came → Inv (then_state (needs.Take port.Input) came)
  taken came next comes =
      let it = piped (needs.Take port.Input) came tt tt next (offered (s.pipework.pipes name port.Input) came comes) in
      moved_by s I name (cleaner began (event (needs.Take port.Input) came ∷ past)) (pipework_after s.pipework name (needs.Take port.Input) came wrote) refl it.1 goes tt (λ b d t h. inl h) refl
      (then_errands (needs.Take port.Input) came tt q it.0)

  given : (bytes : List ℕ) (came : GotData) → due_by place own.read ≡ needs.Give port.Output bytes → Inv (then_state (needs.Give port.Output bytes) came)
  given bytes came next =
      let it = piped (needs.Give port.Output bytes) came tt tt next tt in
      moved_by s I name (cleaner began (event (needs.Give port.Output bytes) came ∷ past)) (pipework_after s.pipework name (needs.Give port.Output bytes) came wrote) refl it.1 goes tt (λ b d t h. inl h) refl
      (then_errands (needs.Give port.Output bytes) came tt q it.0)

  -- a file call

  module _ (c : CallData) (told : TellsBack) (next : due_by place own.read ≡ needs.File c) (fits : Fits s.disk c told.answer wrote) (no_later : own.read ≤ s.now) where
    abbrev r : Queue
    r = called_queue q name own.read c told.answer wrote I.role

    abbrev this : Own
    this = event (needs.File c) (got.Answered told)

    leads : CleanerLeads s.now name q r place.row (place_after (this ∷ past))
    leads = calls_keep s.now q name past own.read own.ready c told wrote I.sound stands no_later next fits

    -- while the sender waits for the answer to `todo/n`, what is at work is that
    removes : (n : ℕ) → x.awaits ≡ Answer (Todo n) → IsWork place.row → RemovesTodo n c
    removes n waits w = todo_call place.row n place.name own.read c (w.work ∙ ap (λ (z : Command). Some z) ((errands.errand.errand (Todo n) waits).working_is w.command w.work)) next

    learned : (p : Pass) → x.awaits ≡ Answer (Todo p.n) → IsExpected (about q p.n) (known_of p) → IsExpected (about r p.n) (known_of p)
    learned p waits h = ⊎_elim
        (λ (none : number_at place.row ≡ None). subst (λ (z : About). IsExpected z (known_of p)) (sym (leads.abouts p.n (none_apart place.row p.n none))) h)
        (λ (w : IsWork place.row).
        let it = removes p.n waits w in
        subst (λ (z : CallData). IsExpected (about (called_queue q name own.read z told.answer wrote I.role) p.n) (known_of p)) (sym it.is)
        (unlinks_leave_learned q name own.read p.n p.n told.answer wrote it.name (known_of p) it.one (subst (λ (z : CallData). Fits s.disk z told.answer wrote) it.is fits) h))
        (work_or place.row)

    still_closed : (n : ℕ) → x.awaits ≡ Answer (Todo n) → IsWork place.row → IsClosed s.now q n → IsClosed s.now r n
    still_closed n waits w h =
        let it = removes n waits w in
        subst (λ (z : CallData). IsClosed s.now (called_queue q name own.read z told.answer wrote I.role) n) (sym it.is)
        (stays_closed s.now q name own.read n it.name told.answer wrote it.one (subst (λ (z : CallData). Fits s.disk z told.answer wrote) it.is fits) h)

    -- what a living sender waits for is what the link says
    sender_left : (o : List ℕ) (since : ℕ) (events : List Own) → s.actors o ≡ Some (record { program = Sender since; past = events; life = Alive })
        → LeavesRow (sender_after None events).row (sender_after None events).pass (number_at place.row) q r
    sender_left o since events there =
        let named : o ≡ codes "sender" = I.crew o (record { program = Sender since; past = events; life = Alive }) there in
        row_left q r x errands.waits errands.errand leads.abouts learned (sender_after None events).row (sender_after None events).pass
        (sym (ap awaits_in (ap s.actors (sym named) ∙ there)))

    called : Inv (then_state (needs.File c) (got.Answered told))
    called =
        led_keeps s I name r leads.number (number_at place.row) leads.elsewhere leads.spares
        (others_spare.cleaners s.now q name past own.read own.ready c told wrote I.sound stands no_later next fits)
        (drops_stay.tmp name q r (drops_stay.but_pid name q r leads.outside leads.old)) leads.sound I.bounces
        (λ o other since events there h. absurd (other (I.crew o (cleaner since events) there)))
        (λ o other since events there h. sender_left o since events there)
        (cleaner began (this ∷ past)) refl goes tt leads.stands
        (then_errands (needs.File c) (got.Answered told) tt r
        (cleaned_errands s.now q r x errands this wrote (cleans_keep errands.waits this wrote x errands.errand (sym next) tt) leads.spares still_closed leads.done))

  came_of : (c : CallData) (came : GotData) → due_by place own.read ≡ needs.File c → own.read ≤ s.now → ComesOf s name (needs.File c) came wrote → Inv (then_state (needs.File c) came)
  came_of c (got.Answered told) next no_later comes = called c told next comes.0 no_later
  came_of c (got.Took bytes) next no_later comes = absurd comes
  came_of c got.End next no_later comes = absurd comes
  came_of c (got.Ended status) next no_later comes = absurd comes
  came_of c got.Crashed next no_later comes = absurd comes
  came_of c got.Gave next no_later comes = absurd comes
  came_of c (got.Started pid) next no_later comes = absurd comes
  came_of c got.Failed next no_later comes = absurd comes
  came_of c got.Memory next no_later comes = absurd comes

  by_due : (due : NeedData) → IsCleaning due → due_by place own.read ≡ due → own.read ≤ s.now → ComesOf s name due own.came wrote → Inv (then_state due own.came)
  by_due (needs.File c) it next no_later comes = came_of c own.came next no_later comes
  by_due (needs.Take port.Input) it next no_later comes = taken own.came next comes
  by_due (needs.Give port.Output bytes) it next no_later comes = given bytes own.came next
  by_due (needs.Ended status) it next no_later comes = absurd comes
  by_due other it next no_later comes = absurd it

  cleaner_event : due_by place own.read ≡ own.due → own.read ≤ s.now → ComesOf s name own.due own.came wrote → Inv (then_state own.due own.came)
  cleaner_event next no_later comes = by_due own.due (subst IsCleaning next (cleaner_due place.row place.name own.read)) next no_later comes

by_program : (s : State) (I : Inv s) (a : List ℕ) (wrote : ℕ) (program : Program) (past : List Own) (life : Life) (own : Own) → IsCleaner program
    → IsNamed a program → life ≡ Alive → s.actors a ≡ Some (record { program = program; past = past; life = life }) → next_of program past own.read own.ready ≡ own.due → own.read ≤ s.now
    → ComesOf s a own.due own.came wrote → Inv (acted s a own wrote (Some (record { program = program; past = past; life = life })))
by_program s I a wrote (Cleaner began) past Alive own it named alive is due no_later comes =
    subst (λ (b : List ℕ). Inv (acted s b own wrote (Some (cleaner began past)))) (sym named)
    (cleaner_event s I wrote began past own (subst (λ (b : List ℕ). s.actors b ≡ Some (cleaner began past)) named is) due no_later
    (subst (λ (b : List ℕ). ComesOf s b own.due own.came wrote) named comes))
by_program s I a wrote (Cleaner began) past life own it named alive is due no_later comes = absurd (cc)
by_program s I a wrote other past life own it named alive is due no_later comes = absurd it

pub cleaners_keep : CleanersKeep
cleaners_keep a own wrote s I may it =
    let x = may.actor in
    subst (λ (o : Option Actor). Inv (acted s a own wrote o)) (sym may.reads.is)
    (by_program s I a wrote x.program x.past x.life own it (I.crew a x may.reads.is) may.reads.alive may.reads.is may.due may.reads.no_later may.came)
