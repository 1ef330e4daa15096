-- Where nothing fails a sender that waits for the answer to `todo/N` is answered nothing but `+`.
use Rattle.std.proofs.Common.{◌≡◌, ◌≢◌, ◌⊎◌, inl, inr, ⊎_elim, ℕ, ◌≤◌, ◌<◌, ◌^◌, List, [], ◌∷◌, take, Bool, true, false, if◌then◌else◌, Option, Some, None, refl, sym, ap, ◌∙◌, subst, arith, bytes_eq, codes}
use Rattle.std.specs.List.{list_all}
use Rattle.std.proofs.lemmas.Bool.{and_parts, false≢true}
use Rattle.call_fs.specs.Apply.{Fits}
use Rattle.call_fs.specs.Disk.{Disk}
use Rattle.call_fs.specs.Maps.{put_at}
use Rattle.call_fs.proofs.Maps.{put_at_cases}
use Rattle.call_fs.specs.declared.calls.Answer.{Answer as Told}
use Rattle.call_fs.specs.declared.calls.Answer.TheVariants as answer
use Rattle.call_fs.specs.declared.calls.CallData.TheVariants as call
use Rattle.call_fs.specs.declared.calls.FsError.TheVariants as why
use Rattle.call_fs.specs.declared.past.ChildData.{ChildData}
use Rattle.call_fs.specs.declared.past.ChildData.TheVariants as child
use Rattle.call_fs.specs.declared.past.GotData.{GotData}
use Rattle.call_fs.specs.declared.past.GotData.TheVariants as came
use Rattle.call_fs.specs.declared.past.NeedData.{NeedData}
use Rattle.call_fs.specs.declared.past.NeedData.TheVariants as needs
use Rattle.call_fs.specs.declared.past.Own.{Own}
use Rattle.call_fs.specs.declared.program.Port.{Port}
use Rattle.call_fs.specs.declared.program.Port.TheVariants as port
use Rattle.queue_clean.specs.declared.command.Command.TheVariants.{Todo}
use Rattle.queue_clean.specs.declared.row.Row.{Row as CleanRow}
use Rattle.queue_clean.specs.declared.row.Row.TheVariants as clean_at
use Rattle.queue_clean.specs.Table.{Place, due_at as clean_due, is_gone, is_old, gone_told, pid_path, place_after as clean_after, search_after}
use Rattle.queue_law.proofs.Tests.{other_text}
use Rattle.queue_law.specs.Books.{Injection}
use Rattle.queue_law.specs.Numbers.{Queue, about}
use Rattle.program_law.proofs.Errand.Links.{idle_is}
use Rattle.program_law.proofs.Sender.Awaits.{arrives, gives}
use Rattle.program_law.proofs.Sender.Frees.{free}
use Rattle.program_law.specs.Errand.Errands.{Errand, IsOffered, Link, answers_by, at_work}
use Rattle.program_law.specs.Errand.Errands.Awaits.{Answer, Nothing, Over as Lost}
use Rattle.program_law.specs.Sender.InTodo.{IsExpected, TodoStands}
use Rattle.program_law.specs.Sender.Stands.{Stands}
use Rattle.program_law.specs.Sender.Rows.{works}
use Rattle.program_law.specs.Sender.Waits.{awaits, awaits_at, awaits_in as awaits_in_pass}
use Rattle.send_core.specs.declared.desk.Desk.{Desk}
use Rattle.send_parts.specs.declared.row.Row.{Row}
use Rattle.send_parts.specs.declared.row.Row.TheVariants as at
use Rattle.send_core.specs.Table.{due_at, place_after, row_now}
use Rattle.send_core.specs.Turn.{known_of}
use Rattle.send_parts.specs.declared.rows.FinishRow.TheVariants as finish
use Rattle.send_parts.specs.declared.rows.SweepRow.TheVariants as sweep
use Rattle.todo_pass.specs.declared.row.Row.{Row as PassRow}
use Rattle.todo_pass.specs.declared.row.Row.TheVariants as todo
use Rattle.todo_pass.specs.Table.{Pass}
use Rattle.world_pipes.specs.Pipework.{Pipe, Pipework, Tenant, Yields, child_output, closed, fresh, given, gives as gives_to, input_of, is_port, is_writer, mouth, output, pipes_after, taken, writer}
use Rattle.world_pipes.specs.Pipework.Tenant.{Remote as Far, Runs}
use Rattle.world_events.specs.declared.event.Program.{Program}
use Rattle.world_events.specs.declared.event.Program.TheVariants.{Cleaner, Sender}
use Rattle.mail_world.proofs.Members.{are_four, four_sender}
use Rattle.mail_world.specs.History.{Actor, Allowed, ComesOf, Event, IsSender, Life, MayBear, State, acted, after, bears, finished, happens, newborn, next_of, slot_by}
use Rattle.mail_world.specs.History.Event.{Start, Act, Child, Generation, Report, End, Stop, Moment, Halt}
use Rattle.mail_world.specs.History.Life.{Alive, Over}
use Rattle.mail_world.specs.Untouched.{queue}
use Rattle.world_law.specs.Crew.{awaits_by, awaits_in, link_in, place_by, place_in}
use Rattle.world_law.specs.Fares.{SenderFares}
use Rattle.world_law.specs.Inv.{Inv}
use Rattle.world_law.proofs.Histories.{always}
use Rattle.world_law.proofs.Pipes.{IsAway, away_same, child_away, else_by}
use Rattle.world_law.proofs.Starts.{is_cleaner}
use Rattle.world_law.proofs.Tenants.{some_actor}
use Rattle.settle_law.specs.inside.Cleaned.{TodoAnswersAreWell}
use Rattle.settle_law.specs.inside.Living.{IsServed}
use Rattle.settle_law.specs.inside.Living.Servant.{Cleans}
use Rattle.settle_law.specs.Well.{GoesWell, came_well, goes_well, is_well_answered}
use Rattle.settle_law.proofs.CleanAnswers.{Agrees, IsPlus, SaysNoElse, cleaned_agrees, no_bytes}
use Rattle.settle_law.proofs.Living.{servants_live}
use Rattle.settle_law.proofs.SmallNumbers.{numbers_are_small}

-- A living sender that waits for the answer to `todo/N`

record Asks (o : Option Actor) (n : ℕ) : Type 0 where
  start : ℕ
  past : List Own
  is : o ≡ Some (record { program = Sender start; past = past; life = Alive })
  awaits_it : awaits (place_after None past) ≡ Answer (Todo n)

asks_by : (o : Option Actor) (n : ℕ) → awaits_in o ≡ Answer (Todo n) → Asks o n
asks_by None n is = absurd (cc)
asks_by (Some x) n is = by x.life x.program x.past is
  where
    by : (life : Life) (program : Program) (past : List Own) → awaits_by life program past ≡ Answer (Todo n) → Asks (Some (record { program = program; past = past; life = life })) n
    by Alive (Sender start) past waits = record { start = start; past = past; is = refl; awaits_it = waits }
    by life program past waits = absurd (cc)

-- it is in a todo pass
record InPass (row : Row) (p : Pass) (n : ℕ) : Type 0 where
  row_is : row ≡ at.InTodo
  pass_is : p.row ≡ todo.Answer
  number : p.n ≡ n

pass_asks : (r : PassRow) (m n : ℕ) → awaits_in_pass r m ≡ Answer (Todo n) → (r ≡ todo.Answer) × (m ≡ n)
pass_asks todo.Answer m n is = (refl, (cc))
pass_asks r m n is = absurd (cc)

in_pass : (row : Row) (p : Pass) (n : ℕ) → awaits_at row p ≡ Answer (Todo n) → InPass row p n
in_pass at.InTodo p n is = let it = pass_asks p.row p.n n is in record { row_is = refl; pass_is = it.0; number = it.1 }
in_pass (at.Finish finish.Take m) p n is = absurd (cc)
in_pass (at.Finish row m) p n is = absurd (cc)
in_pass (at.Sweep (sweep.Take split m)) p n is = absurd (cc)
in_pass (at.Sweep row) p n is = absurd (cc)
in_pass row p n is = absurd (cc)

-- What is answered in a state

abbrev Fine : State → Type 0
Fine s = (n : ℕ) → (link_in s).awaits ≡ Answer (Todo n) → Agrees (link_in s)

newborn_waits : (program : Program) (n : ℕ) → awaits_by Alive program [] ≡ Answer (Todo n) → ⊥
newborn_waits (Sender start) n is = cc
newborn_waits program n is = cc

newborn_says : (program : Program) → SaysNoElse (place_by program []).row
newborn_says (Cleaner start) = tt
newborn_says program = tt

-- one starts
module _ (s t : State) (a : List ℕ) (program : Program) (actors : t.actors ≡ put_at s.actors a (Some (newborn program)))
    (answers : (t.pipework.pipes (codes "sender") port.Clean).bytes ≡ (s.pipework.pipes (codes "sender") port.Clean).bytes) where
  started_fine : Fine s → Fine t
  started_fine F n waits =
      let there : (b : List ℕ) → t.actors b ≡ put_at s.actors a (Some (newborn program)) b = λ (b : List ℕ). ap (λ (f : List ℕ → Option Actor). f b) actors in
      let A : Agrees (link_in s) = F n (⊎_elim
      (λ (e : (codes "sender" ≡ a) × (put_at s.actors a (Some (newborn program)) (codes "sender") ≡ Some (newborn program))).
      absurd (newborn_waits program n (sym (ap awaits_in (there (codes "sender") ∙ e.1)) ∙ waits)))
      (λ (e : (codes "sender" ≢ a) × (put_at s.actors a (Some (newborn program)) (codes "sender") ≡ s.actors (codes "sender"))).
      sym (ap awaits_in (there (codes "sender") ∙ e.1)) ∙ waits)
      (put_at_cases s.actors a (Some (newborn program)) (codes "sender"))) in (
        ⊎_elim
            (λ (e : (codes "clean" ≡ a) × (put_at s.actors a (Some (newborn program)) (codes "clean") ≡ Some (newborn program))).
            subst (λ (o : Option Actor). SaysNoElse (place_in o).row) (sym (there (codes "clean") ∙ e.1)) (newborn_says program))
            (λ (e : (codes "clean" ≢ a) × (put_at s.actors a (Some (newborn program)) (codes "clean") ≡ s.actors (codes "clean"))).
            subst (λ (o : Option Actor). SaysNoElse (place_in o).row) (sym (there (codes "clean") ∙ e.1)) A.0)
            (put_at_cases s.actors a (Some (newborn program)) (codes "clean")),
        subst IsPlus (sym answers) A.1,
      )

-- What an actor does to the pipe from the cleaner

input_away : (o : Option Tenant) → IsAway (input_of o) port.Clean
input_away None = tt
input_away (Some (Far told)) = tt
input_away (Some (Runs b)) = refl

output_away : (w : Pipework) (a : List ℕ) → a ≢ codes "clean" → IsAway (output w a) port.Clean
output_away w a apart = by (bytes_eq a (codes "clean")) (bytes_eq a (codes "lspawn")) (bytes_eq a (codes "rspawn")) (other_text a (codes "clean") apart)
  where
    by : (t u v : Bool) → t ≡ false
        → IsAway (if t then Some (mouth (codes "sender") port.Clean) else (if u then Some (mouth (codes "sender") port.Lspawn) else (if v then Some (mouth (codes "sender") port.Rspawn)
        else child_output w a (w.slots a)))) port.Clean
    by true u v e = absurd (cc)
    by false true v e = refl
    by false false true e = refl
    by false false false e = child_away w a (w.slots a) port.Clean (λ n. refl)

module _ (w : Pipework) (a : List ℕ) where
  abbrev Leaves : (List ℕ → Port → Pipe) → Type 0
  Leaves pipes = pipes (codes "sender") port.Clean ≡ w.pipes (codes "sender") port.Clean

  gives_leaves : a ≢ codes "clean" → (to : Port) (text : List ℕ) → Leaves (gives_to w a to text)
  gives_leaves apart (port.Program d) text = away_same w.pipes (input_of (w.programs a d)) (λ pipe. closed (given text pipe)) (codes "sender") port.Clean (input_away (w.programs a d))
  gives_leaves apart port.Output text = away_same w.pipes (output w a) (given text) (codes "sender") port.Clean (output_away w a apart)
  gives_leaves apart to text = refl

  others_leave : a ≢ codes "sender" → a ≢ codes "clean" → (due : NeedData) (got : GotData) (wrote : ℕ) → Leaves (pipes_after w a due got wrote)
  others_leave far apart (needs.Give to text) came.Gave wrote = gives_leaves apart to text
  others_leave far apart (needs.Give to text) came.Failed wrote = gives_leaves apart to (take wrote text)
  others_leave far apart (needs.Take from) (came.Took bytes) wrote =
      else_by (bytes_eq (codes "sender") a) (is_port port.Clean from) (taken bytes (w.pipes (codes "sender") port.Clean)) (w.pipes (codes "sender") port.Clean)
      (other_text (codes "sender") a (λ e. far (sym e)))
  others_leave far apart (needs.Start (child.Remote slot domain sender recipient)) (came.Started pid) wrote =
      away_same w.pipes (Some (mouth a (port.Program slot))) (λ pipe. fresh) (codes "sender") port.Clean refl
  others_leave far apart due got wrote = refl

  -- a command is given
  asks_leave : (text : List ℕ) (got : GotData) (wrote : ℕ) → Leaves (pipes_after w a (needs.Give port.Clean text) got wrote)
  asks_leave text came.Gave wrote = refl
  asks_leave text came.Failed wrote = refl
  asks_leave text got wrote = refl

-- The cleaner's own

module _ (name : List ℕ) (read : ℕ) where
  answers_are : (row : CleanRow) (w : Pipework) (got : GotData) (wrote : ℕ)
      → (pipes_after w (codes "clean") (clean_due row name read) got wrote (codes "sender") port.Clean).bytes ≡ answers_by (clean_due row name read) got wrote (w.pipes (codes "sender") port.Clean).bytes
  answers_are clean_at.FindPid w got wrote = refl
  answers_are clean_at.StatPid w got wrote = refl
  answers_are (clean_at.JudgePid moment) w got wrote = by (is_old moment read)
    where
      by : (b : Bool) → let due : NeedData = if b then needs.File (call.Unlink (pid_path name)) else search_after name in
          (pipes_after w (codes "clean") due got wrote (codes "sender") port.Clean).bytes ≡ answers_by due got wrote (w.pipes (codes "sender") port.Clean).bytes
      by true = refl
      by false = refl
  answers_are clean_at.TakeInput w (came.Took bytes) wrote = refl
  answers_are clean_at.TakeInput w got wrote = refl
  answers_are (clean_at.UnlinkIntd c) w got wrote = refl
  answers_are (clean_at.UnlinkSecond c) w got wrote = refl
  answers_are (clean_at.Answer reply) w came.Gave wrote = refl
  answers_are (clean_at.Answer reply) w came.Failed wrote = refl
  answers_are (clean_at.Answer reply) w got wrote = refl
  answers_are (clean_at.Ended status) w got wrote = refl

  offered_from : (pipe : Pipe) (got : GotData) → Yields pipe got → IsOffered pipe.bytes (needs.Take port.Input) got
  offered_from pipe (came.Took bytes) yields = yields.1
  offered_from pipe got yields = tt

  offered_by : (row : CleanRow) (s : State) (got : GotData) (wrote : ℕ) → ComesOf s (codes "clean") (clean_due row name read) got wrote
      → IsOffered (s.pipework.pipes (codes "clean") port.Input).bytes (clean_due row name read) got
  offered_by clean_at.TakeInput s got wrote comes = offered_from (s.pipework.pipes (codes "clean") port.Input) got comes
  offered_by (clean_at.JudgePid moment) s got wrote comes = by (is_old moment read)
    where
      by : (b : Bool) → IsOffered (s.pipework.pipes (codes "clean") port.Input).bytes (if b then needs.File (call.Unlink (pid_path name)) else search_after name) got
      by true = tt
      by false = tt
  offered_by row s got wrote comes = tt

  -- it starts nothing
  starts_none : (row : CleanRow) (asked : ChildData) → clean_due row name read ≡ needs.Start asked → ⊥
  starts_none (clean_at.JudgePid moment) asked is = by (is_old moment read) is
    where
      by : (b : Bool) → (if b then needs.File (call.Unlink (pid_path name)) else search_after name) ≡ needs.Start asked → ⊥
      by true e = cc
      by false e = cc
  starts_none row asked is = cc

told_gone : (d : Disk) (name : List ℕ) (said : Told) (wrote : ℕ) → Fits d (call.Unlink name) said wrote → is_well_answered said ≡ true → gone_told said ≡ true
told_gone d name answer.Done wrote fits well = refl
told_gone d name (answer.Refused why.NotThere) wrote fits well = refl
told_gone d name (answer.Refused why.Fault) wrote fits well = absurd (false≢true well)
told_gone d name said wrote fits well = absurd fits

is_gone_by : (s : State) (a name : List ℕ) (got : GotData) (wrote : ℕ) → ComesOf s a (needs.File (call.Unlink name)) got wrote → came_well got ≡ true → is_gone got ≡ true
is_gone_by s a name (came.Answered told) wrote comes well = told_gone s.disk name told.answer wrote comes.0 well
is_gone_by s a name got wrote comes well = absurd comes

idle_says : (row : CleanRow) → at_work row ≡ 0 → SaysNoElse row
idle_says (clean_at.Answer reply) idle = absurd (omega (arith, idle))
idle_says row idle = tt

is_asking : (due : NeedData) → ((text : List ℕ) → due ≡ needs.Give port.Clean text → ⊥) ⊎ ((text : List ℕ) × (due ≡ needs.Give port.Clean text))
is_asking (needs.Give port.Clean text) = inr (text, refl)
is_asking (needs.Give to text) = inl (λ other e. cc)
is_asking due = inl (λ other e. cc)

-- An event of an actor; the start of a child is one of its parent

module _ (s : State) (I : Inv s) (F : Fine s) (small : (n : ℕ) → (link_in s).awaits ≡ Answer (Todo n) → (1 ≤ n) × (n < 2 ^ 64))
    (served : (x : Actor) → s.actors (codes "sender") ≡ Some x → x.life ≡ Alive → IsSender x.program → IsServed Cleans s) (a : List ℕ) (own : Own) (wrote : ℕ) (z : Actor) (is : s.actors a ≡ Some z)
    (alive : z.life ≡ Alive) (due : next_of z.program z.past own.read own.ready ≡ own.due) (comes : ComesOf s a own.due own.came wrote ⊎ ((asked : ChildData) × (own.due ≡ needs.Start asked)))
    (well : came_well own.came ≡ true) where
  abbrev y : Actor
  y = record { program = z.program; past = own ∷ z.past; life = z.life }

  abbrev t : State
  t = acted s a own wrote (Some z)

  -- the sender: it has given the command just now

  module _ (n start : ℕ) (named : codes "sender" ≡ a) (runs : z.program ≡ Sender start) (waits : awaits (place_after None (own ∷ z.past)) ≡ Answer (Todo n)) where
    abbrev d : Desk
    d = place_after None z.past

    abbrev row : Row
    row = row_now d own.read own.ready

    due_here : due_at row d ≡ own.due
    due_here = subst (λ (p : Program). next_of p z.past own.read own.ready ≡ own.due) runs due

    waits_before : (link_in s).awaits ≡ awaits_at row d.pass
    waits_before =
        ap awaits_in (ap s.actors named ∙ is) ∙ ap (λ (life : Life). awaits_by life z.program z.past) alive ∙ ap (λ (p : Program). awaits_by Alive p z.past) runs
        ∙ sym (arrives d.row d own.read own.ready)

    given_now : (text : List ℕ) → own.due ≡ needs.Give port.Clean text → Agrees (link_in s)
    given_now text at_it =
        let g = gives d row text (due_here ∙ at_it) in
        let idle = idle_is I.errands.waits (link_in s) I.errands.errand (waits_before ∙ g.idle) in
        (idle_says (link_in s).place.row idle.1.0, inl (no_bytes (link_in s).answers idle.1.1))

    own_answers : (text : List ℕ) → own.due ≡ needs.Give port.Clean text → (t.pipework.pipes (codes "sender") port.Clean).bytes ≡ (s.pipework.pipes (codes "sender") port.Clean).bytes
    own_answers text at_it =
        ap (λ (need : NeedData). (pipes_after s.pipework a need own.came wrote (codes "sender") port.Clean).bytes) at_it
        ∙ ap (λ (pipe : Pipe). pipe.bytes) (asks_leave s.pipework a text own.came wrote)

    no_other : ((text : List ℕ) → own.due ≡ needs.Give port.Clean text → ⊥) → ⊥
    no_other none = ⊎_elim
        (λ (e : awaits (place_after None (own ∷ z.past)) ≡ Nothing). let both = sym e ∙ waits in cc)
        (λ (e : awaits (place_after None (own ∷ z.past)) ≡ Lost). let both = sym e ∙ waits in cc)
        (free d own.read own.ready own.came (λ text gives_it. none text (sym due_here ∙ gives_it)))

    own_agrees : place_in (t.actors (codes "clean")) ≡ place_in (s.actors (codes "clean")) → Agrees (link_in t)
    own_agrees place = ⊎_elim
        (λ none. absurd (no_other none))
        (λ (it : (text : List ℕ) × (own.due ≡ needs.Give port.Clean text)).
        let A = given_now it.0 it.1 in (
          subst (λ (p : Place). SaysNoElse p.row) (sym place) A.0,
          subst IsPlus (sym (own_answers it.0 it.1)) A.1,
        ))
        (is_asking own.due)

  -- the cleaner

  module _ (n : ℕ) (named : codes "clean" ≡ a) (waits : (link_in s).awaits ≡ Answer (Todo n)) where
    abbrev x : Link
    x = link_in s

    asks : Asks (s.actors (codes "sender")) n
    asks = asks_by (s.actors (codes "sender")) n waits

    serves : (began : ℕ) × (z.program ≡ Cleaner began)
    serves =
        let it = served (record { program = Sender asks.start; past = asks.past; life = Alive }) asks.is refl tt in
        let same : it.actor ≡ z = some_actor it.actor z (sym it.is ∙ ap s.actors named ∙ is) in
        let one = is_cleaner it.actor.program it.serves in
        (one.0, sym (ap (λ (o : Actor). o.program) same) ∙ one.1)

    abbrev mine : Place
    mine = clean_after z.past

    place_is : x.place ≡ mine
    place_is = ap place_in (ap s.actors named ∙ is) ∙ ap (λ (p : Program). place_by p z.past) serves.1

    due_mine : clean_due mine.row mine.name own.read ≡ own.due
    due_mine = subst (λ (p : Program). next_of p z.past own.read own.ready ≡ own.due) serves.1 due

    comes_mine : ComesOf s (codes "clean") own.due own.came wrote
    comes_mine = ⊎_elim
        (λ (h : ComesOf s a own.due own.came wrote). subst (λ (b : List ℕ). ComesOf s b own.due own.came wrote) (sym named) h)
        (λ (h : (asked : ChildData) × (own.due ≡ needs.Start asked)). absurd (starts_none mine.name own.read mine.row h.0 (due_mine ∙ h.1)))
        comes

    -- with the place that the past says
    abbrev link : Link
    link = record { awaits = x.awaits; place = mine; given = x.given; answers = x.answers }

    link_is : x ≡ link
    link_is = ap (λ (p : Place). record { awaits = x.awaits; place = p; given = x.given; answers = x.answers }) place_is

    cleaned : Agrees link
        → SaysNoElse (clean_after (own ∷ z.past)).row × IsPlus (answers_by own.due own.came wrote x.answers)
    cleaned A = cleaned_agrees I.errands.waits link (subst (λ (l : Link). Errand I.errands.waits l) link_is I.errands.errand) n waits (small n waits).0 (small n waits).1 own wrote (sym due_mine)
        (subst (λ (need : NeedData). IsOffered x.given need own.came) due_mine
        (offered_by mine.name own.read mine.row s own.came wrote (subst (λ (need : NeedData). ComesOf s (codes "clean") need own.came wrote) (sym due_mine) comes_mine)))
        well (λ name at_it. is_gone_by s (codes "clean") name own.came wrote (subst (λ (need : NeedData). ComesOf s (codes "clean") need own.came wrote) at_it comes_mine) well) A

    answers_then : (t.pipework.pipes (codes "sender") port.Clean).bytes ≡ answers_by own.due own.came wrote x.answers
    answers_then =
        ap (λ (b : List ℕ). (pipes_after s.pipework b own.due own.came wrote (codes "sender") port.Clean).bytes) (sym named)
        ∙ subst (λ (need : NeedData). (pipes_after s.pipework (codes "clean") need own.came wrote (codes "sender") port.Clean).bytes ≡ answers_by need own.came wrote x.answers) due_mine
        (answers_are mine.name own.read mine.row s.pipework own.came wrote)

    cleaner_agrees : t.actors (codes "clean") ≡ Some y → Agrees (link_in t)
    cleaner_agrees there =
        let A = cleaned (subst Agrees link_is (F n waits)) in
        let place : place_in (t.actors (codes "clean")) ≡ clean_after (own ∷ z.past) = ap place_in there ∙ ap (λ (p : Program). place_by p (own ∷ z.past)) serves.1 in (
          subst (λ (p : Place). SaysNoElse p.row) (sym place) A.0,
          subst IsPlus (sym answers_then) A.1,
        )

  acted_fine : Fine t
  acted_fine n waits = ⊎_elim
      (λ (e : (codes "sender" ≡ a) × (put_at s.actors a (Some y) (codes "sender") ≡ Some y)).
      let it = asks_by (Some y) n (sym (ap awaits_in e.1) ∙ waits) in
      let same : y ≡ record { program = Sender it.start; past = it.past; life = Alive } = some_actor y (record { program = Sender it.start; past = it.past; life = Alive }) it.is in
      let waits_now : awaits (place_after None (own ∷ z.past)) ≡ Answer (Todo n) = ap (λ (o : Actor). awaits (place_after None o.past)) same ∙ it.awaits_it in
      own_agrees n it.start e.0 (ap (λ (o : Actor). o.program) same) waits_now (⊎_elim
      (λ (f : (codes "clean" ≡ a) × (put_at s.actors a (Some y) (codes "clean") ≡ Some y)). absurd (apart (e.0 ∙ sym f.0)))
      (λ (f : (codes "clean" ≢ a) × (put_at s.actors a (Some y) (codes "clean") ≡ s.actors (codes "clean"))). ap place_in f.1)
      (put_at_cases s.actors a (Some y) (codes "clean"))))
      (λ (e : (codes "sender" ≢ a) × (put_at s.actors a (Some y) (codes "sender") ≡ s.actors (codes "sender"))).
      let before : (link_in s).awaits ≡ Answer (Todo n) = sym (ap awaits_in e.1) ∙ waits in
      ⊎_elim
      (λ (f : (codes "clean" ≡ a) × (put_at s.actors a (Some y) (codes "clean") ≡ Some y)). cleaner_agrees n f.0 before f.1)
      (λ (f : (codes "clean" ≢ a) × (put_at s.actors a (Some y) (codes "clean") ≡ s.actors (codes "clean"))).
      let A = F n before in (
        subst (λ (o : Option Actor). SaysNoElse (place_in o).row) (sym f.1) A.0,
        subst (λ (pipe : Pipe). IsPlus pipe.bytes) (sym (others_leave s.pipework a (λ same. e.0 (sym same)) (λ same. f.0 (sym same)) own.due own.came wrote)) A.1,
      ))
      (put_at_cases s.actors a (Some y) (codes "clean")))
      (put_at_cases s.actors a (Some y) (codes "sender"))
    where
      apart : codes "sender" ≡ codes "clean" → ⊥
      apart e = false≢true (sym (ap (bytes_eq (codes "sender")) e))

-- An end

module _ (s : State) (F : Fine s) (a : List ℕ) (z : Actor) (is : s.actors a ≡ Some z) (status : ℕ) where
  abbrev over_is : Actor
  over_is = record { program = z.program; past = z.past; life = Over status }

  ended_fine : Fine (finished s a (Over status) (Some z))
  ended_fine n waits =
      let A : Agrees (link_in s) = F n (⊎_elim
      (λ (e : (codes "sender" ≡ a) × (put_at s.actors a (Some over_is) (codes "sender") ≡ Some over_is)). absurd (over (sym (ap awaits_in e.1) ∙ waits)))
      (λ (e : (codes "sender" ≢ a) × (put_at s.actors a (Some over_is) (codes "sender") ≡ s.actors (codes "sender"))). sym (ap awaits_in e.1) ∙ waits)
      (put_at_cases s.actors a (Some over_is) (codes "sender"))) in
      let place : place_in (put_at s.actors a (Some over_is) (codes "clean")) ≡ place_in (s.actors (codes "clean")) = ⊎_elim
      (λ (e : (codes "clean" ≡ a) × (put_at s.actors a (Some over_is) (codes "clean") ≡ Some over_is)). ap place_in e.1 ∙ sym (ap place_in (ap s.actors e.0 ∙ is)))
      (λ (e : (codes "clean" ≢ a) × (put_at s.actors a (Some over_is) (codes "clean") ≡ s.actors (codes "clean"))). ap place_in e.1)
      (put_at_cases s.actors a (Some over_is) (codes "clean")) in
      (subst (λ (p : Place). SaysNoElse p.row) (sym place) A.0, by (is_writer a (writer s.pipework (codes "sender") port.Clean)) A.1)
    where
      over : awaits_in (Some over_is) ≡ Answer (Todo n) → ⊥
      over e = cc

      by : (b : Bool) → IsPlus (s.pipework.pipes (codes "sender") port.Clean).bytes
          → IsPlus (if b then closed (s.pipework.pipes (codes "sender") port.Clean) else s.pipework.pipes (codes "sender") port.Clean).bytes
      by true h = h
      by false h = h

-- The number of a message that is asked for

asked_small : (s : State) (I : Inv s) → ((n : ℕ) (i : Injection) → s.books.living n ≡ Some i → (1 ≤ n) × (n < 2 ^ 64)) → (n : ℕ) → (link_in s).awaits ≡ Answer (Todo n)
    → (1 ≤ n) × (n < 2 ^ 64)
asked_small s I small n waits =
    let asks = asks_by (s.actors (codes "sender")) n waits in
    let d : Desk = place_after None asks.past in
    let q : Queue = queue s I.role in
    let fares : SenderFares s.now q (codes "sender") d = I.fares (codes "sender") (record { program = Sender asks.start; past = asks.past; life = Alive }) asks.is in
    let it = in_pass d.row d.pass n asks.awaits_it in
    let stands : Stands s.now q (codes "sender") at.InTodo d.book d.slots (works d) = subst (λ (r : Row). Stands s.now q (codes "sender") r d.book d.slots (works d)) it.row_is fares.stands in
    let expected : IsExpected (about q d.pass.n) (known_of d.pass) = subst (λ (r : PassRow). TodoStands d.book.controls s.now q (codes "sender") r d.pass) it.pass_is stands.rests.1.1 in
    subst (λ (m : ℕ). (1 ≤ m) × (m < 2 ^ 64)) it.number (small d.pass.n expected.injection expected.lives)

-- Each event

module _ (s : State) (I : Inv s) (F : Fine s) (small : (n : ℕ) → (link_in s).awaits ≡ Answer (Todo n) → (1 ≤ n) × (n < 2 ^ 64))
    (served : (x : Actor) → s.actors (codes "sender") ≡ Some x → x.life ≡ Alive → IsSender x.program → IsServed Cleans s) where
  child_fine : (parent : List ℕ) (own : Own) (a : List ℕ) (program : Program) (may : MayBear s parent own a program) → Fine (bears (acted s parent own 0 (Some may.actor)) parent own a program)
  child_fine parent own a program may =
      let mid : State = acted s parent own 0 (Some may.actor) in
      started_fine mid (bears mid parent own a program) a program refl
      (ap (λ (pipe : Pipe). pipe.bytes) (away_same mid.pipework.pipes (Some (mouth parent (port.Program (slot_by own.due)))) (λ pipe. fresh) (codes "sender") port.Clean refl))
      (acted_fine s I F small served parent own 0 may.actor may.reads.is may.reads.alive may.due (inr (may.asked, may.starts)) (ap came_well may.came))

  event_fine : (e : Event) → Allowed s e → goes_well e ≡ true → Fine (happens s e)
  event_fine (Start a program) may well = started_fine s (happens s (Start a program)) a program refl refl F
  event_fine (Act a own wrote) may well =
      subst (λ (o : Option Actor). Fine (acted s a own wrote o)) (sym may.reads.is)
      (acted_fine s I F small served a own wrote may.actor may.reads.is may.reads.alive may.due (inl may.came) well)
  event_fine (Child parent own a program) may well =
      subst (λ (o : Option Actor). Fine (bears (acted s parent own 0 o) parent own a program)) (sym may.reads.is) (child_fine parent own a program may)
  event_fine (Generation (sender ∷ clean ∷ lspawn ∷ rspawn ∷ [])) may well = λ n waits. absurd (newborn_waits sender n (sym (ap awaits_in (four_sender s.actors sender clean lspawn rspawn)) ∙ waits))
  event_fine (Generation crew) may well = absurd (are_four crew may.kinds)
  event_fine (Report slot output) may well = λ n waits.
      let A = F n waits in
      (A.0, subst (λ (pipe : Pipe). IsPlus pipe.bytes) (sym (away_same s.pipework.pipes (Some (mouth (codes "rspawn") (port.Program slot))) (λ pipe. closed (given output pipe)) (codes "sender") port.Clean refl)) A.1)
  event_fine (End a read ready status) may well =
      subst (λ (o : Option Actor). Fine (finished s a (Over status) o)) (sym may.reads.is) (ended_fine s F a may.actor may.reads.is status)
  event_fine (Stop a) may well = absurd (cc)
  event_fine (Moment m) may well = F
  event_fine (Halt how contents) may well = absurd (cc)

pub todo_answers_are_well : TodoAnswersAreWell
todo_answers_are_well d h g n waits = (all h g n waits).1
  where
    all : (h : List Event) → GoesWell d h → Fine (after d h)
    all [] g = λ n waits. absurd (cc)
    all (e ∷ h) g =
        let parts = and_parts (goes_well e) (list_all goes_well h) g.well in
        let before : GoesWell d h = record { legal = g.legal.0; well = parts.1 } in
        let s : State = after d h in
        let I = always d h g.legal.0 in
        event_fine s I (all h before) (asked_small s I (numbers_are_small d h g.legal.0 parts.1)) (servants_live d h before Cleans) e g.legal.1 parts.0
