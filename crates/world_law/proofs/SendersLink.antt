-- What lies between the sender and its cleaner after each kind of event of the sender.
use Rattle.send_jobs.specs.Bookings.Booking.{Routed}
use Rattle.address_rules.specs.Nuls.{HaveNoNul}
use Rattle.send_core.specs.Booked.{booked_at, routed_at}
use Rattle.program_law.specs.Sender.Takings.{booked_queue}
use Rattle.std.proofs.Common.{◌≡◌, ◌≢◌, ℕ, List, [], ◌∷◌, ◌++◌, bytes_eq, Bool, true, false, Option, Some, None, refl, sym, ap, ◌∙◌, subst, ⊎_elim, arith, inr, length, length-append}
use Rattle.std.proofs.lemmas.List.{append-nil}
use Rattle.std.specs.Prelude.{◌+◌, ◌≤◌, if◌then◌else◌}
use Rattle.address_rules.specs.declared.controls.Controls.{Controls}
use Rattle.call_fs.specs.declared.past.GotData.{GotData}
use Rattle.call_fs.specs.declared.past.GotData.TheVariants as got
use Rattle.call_fs.specs.declared.past.NeedData.{NeedData}
use Rattle.call_fs.specs.declared.past.NeedData.TheVariants as needs
use Rattle.call_fs.specs.declared.program.Port.TheVariants as port
use Rattle.program_law.specs.Errand.Errands.{Awaits, Errand, Link, SaysWell, asks, asks_in_part, count, at_work, most, GivesWhole, heard, takes_up, texts_of}
use Rattle.program_law.specs.Errand.Errands.Awaits.{Nothing, Answer, Over}
use Rattle.program_law.specs.Errand.Laws.{AnswersAreOfErrands}
use Rattle.program_law.proofs.Errand.Links.{asks_keep, idle_is, losses_keep, none_waits}
use Rattle.queue_clean.specs.declared.command.Command.{Command}
use Rattle.queue_clean.specs.declared.command.Command.TheVariants.{Todo}
use Rattle.queue_clean.specs.Commands.{message_of}
use Rattle.queue_law.specs.Entered.{Child as Bouncer}
use Rattle.queue_law.specs.Numbers.{Queue, Sound}
use Rattle.queue_law.specs.Rests.{IsClosed}
use Rattle.queue_law.proofs.Tests.{text_cases}
use Rattle.send_core.specs.declared.desk.Desk.{Desk}
use Rattle.send_parts.specs.declared.row.Row.{Row}
use Rattle.send_parts.specs.declared.row.Row.TheVariants as at
use Rattle.send_core.specs.Table.{due_at}
use Rattle.send_parts.specs.declared.rows.FinishRow.TheVariants as finish
use Rattle.send_parts.specs.declared.rows.SweepRow.TheVariants as sweep
use Rattle.program_law.specs.Sender.Commands.{RestsFor, WaitsAtRest}
use Rattle.program_law.specs.Sender.InTodo.{TodoStands}
use Rattle.program_law.specs.Sender.Stands.{StandsAt}
use Rattle.program_law.specs.Sender.Waits.{IsFree, IsGive, IsPassGive, awaits_at, awaits_in}
use Rattle.program_law.specs.Sender.Whole.{IsTold}
use Rattle.program_law.proofs.Sender.Awaits.{waits}
use Rattle.program_law.proofs.Sender.NoteDue.{return_takes}
use Rattle.program_law.proofs.Sender.Passing.{passes_give}
use Rattle.program_law.proofs.Sender.Points.{chores_stand}
use Rattle.todo_pass.specs.declared.row.Why.TheVariants as left
use Rattle.todo_pass.specs.declared.row.Row.{Row as PassRow}
use Rattle.todo_pass.specs.declared.row.Row.TheVariants as todo
use Rattle.todo_pass.specs.Table.{Pass, answer_row}
use Rattle.world_pipes.specs.Pipework.{Pipe, Yields}
use Rattle.world_law.specs.Inv.{ErrandRests}

-- this is what it waits for then, and all else is the same
abbrev pub awaiting : Awaits → Link → Link
awaiting w x = record { awaits = w; place = x.place; given = x.given; answers = x.answers }

free_asks : (w : Awaits) → IsFree w → (command : Command) → w ≡ Answer command → ⊥
free_asks w free command is = ⊎_elim
    (λ (none : w ≡ Nothing). let v = sym none ∙ is in absurd (cc))
    (λ (over : w ≡ Over). let v = sym over ∙ is in absurd (cc))
    free

-- It waits for nothing, and does something that leaves both pipes

module _ (now : ℕ) (q r : Queue) (lives later : Bool) (x : Link) (E : ErrandRests now q lives x) (idle : x.awaits ≡ Nothing) where
  none_is_waiting : E.waits ≡ None
  none_is_waiting = none_waits E.waits (let k = (idle_is E.waits x E.errand idle).0 in omega (arith, k))

  idle_errand : (w : Awaits) → IsFree w → Errand E.waits (awaiting w x)
  idle_errand w free = ⊎_elim
      (λ (none : w ≡ Nothing). subst (λ (v : Awaits). Errand E.waits (awaiting v x)) (idle ∙ sym none) E.errand)
      (λ (over : w ≡ Over). subst (λ (v : Awaits). Errand E.waits (awaiting v x)) (sym over) (losses_keep.lost E.waits x E.errand))
      free

  pub idle_errands : (w : Awaits) → IsFree w → ErrandRests now r later (awaiting w x)
  idle_errands w free = record {
    waits = E.waits;
    errand = idle_errand w free;
    rests = λ alive command is. let v = sym none_is_waiting ∙ is in absurd (cc);
    asked = λ n is. absurd (free_asks w free (Todo n) is);
    told = λ n is. absurd (free_asks w free (Todo n) is);
  }

-- It waits for nothing, and gives a command whose number rests then

module _ (now : ℕ) (q r : Queue) (lives later : Bool) (x : Link) (E : ErrandRests now q lives x) (idle : x.awaits ≡ Nothing) (command : Command)
    (R : RestsFor now r command) where
  rests_if : (some : Option Command) → ((other : Command) → some ≡ Some other → other ≡ command) → WaitsAtRest now r some
  rests_if some from other is = subst (λ (c : Command). RestsFor now r c) (sym (from other is)) R

  closed_if : (n : ℕ) → Answer command ≡ Answer (Todo n) → IsClosed now r n
  closed_if n is = let same : command ≡ Todo n = (cc) in subst (λ (c : Command). IsClosed now r (message_of c)) same R.closed

  pub asked_errands : ErrandRests now r later (asks command x)
  asked_errands =
      let w = asks_keep.whole E.waits command x E.errand idle in
      record {
        waits = Some command;
        errand = w.keeps;
        rests = λ alive. rests_if (Some command) w.from;
        asked = closed_if;
        told = λ n is well. absurd (w.unanswered well);
      }

  -- so many bytes of it
  pub cut_errands : (wrote : ℕ) → ErrandRests now r later (asks_in_part command wrote x)
  cut_errands wrote =
      let w = asks_keep.part E.waits command wrote x E.errand idle in
      record {
        waits = w.0;
        errand = w.1.keeps;
        rests = λ alive. rests_if w.0 w.1.from;
        asked = λ n is. absurd (cc);
        told = λ n is. absurd (cc);
      }

-- It takes the answer to its command

whole_by : (v : Awaits) (bytes : List ℕ) (command : Command) → v ≡ Answer command → GivesWhole v bytes → GivesWhole Nothing bytes
whole_by v bytes command is h = subst (λ (z : Awaits). GivesWhole z bytes) is h

no_bytes : (bytes : List ℕ) → length bytes ≡ 0 → bytes ≡ []
no_bytes [] e = refl
no_bytes (b ∷ bytes) e = absurd (omega (arith, e))

some_bytes : (bytes : List ℕ) → bytes ≢ [] → 1 ≤ length bytes
some_bytes [] none = absurd (none refl)
some_bytes (b ∷ bytes) none = omega arith

pub answers_of : AnswersAreOfErrands
answers_of waits command bytes rest x E is came some =
    let low : count waits + (at_work x.place.row + length x.answers) ≤ 1 = subst (λ (v : Awaits). count waits + (at_work x.place.row + length x.answers) ≤ most v) is E.one in
    let long : length x.answers ≡ length bytes + length rest = ap length came ∙ length-append bytes rest in
    let one : 1 ≤ length bytes = some_bytes bytes some in
    let none : waits ≡ None = none_waits waits (omega (arith, low, long, one)) in
    let left : length rest ≡ 0 = omega (arith, low, long, one) in
    let idle : at_work x.place.row ≡ 0 = omega (arith, low, long, one) in
    let all : rest ≡ [] = no_bytes rest left in
    record {
      keeps = record {
        texts = E.texts ∙ ap texts_of none;
        taken_up = E.taken_up;
        one = omega (arith, left, idle);
        whole = whole_by x.awaits (heard x) command is E.whole;
        errand = λ other h. absurd (cc);
      };
      all = all;
      well = λ plus. inr (came ∙ ap (λ (t : List ℕ). bytes ++ t) all ∙ append-nil bytes ∙ plus);
    }

pass_awaits : (row : PassRow) (n : ℕ) (command : Command) → awaits_in row n ≡ Answer command → awaits_in row n ≡ Answer (Todo n)
pass_awaits todo.Answer n command is = refl
pass_awaits row n command is = absurd (cc)

answered_by : (w : Awaits) (rest : List ℕ) (x : Link) → IsFree w → Errand None (takes_up rest x) → Errand None (awaiting w (takes_up rest x))
answered_by w rest x free E = ⊎_elim
    (λ (none : w ≡ Nothing). subst (λ (v : Awaits). Errand None (awaiting v (takes_up rest x))) (sym none) E)
    (λ (over : w ≡ Over). subst (λ (v : Awaits). Errand None (awaiting v (takes_up rest x))) (sym over) (losses_keep.lost None (takes_up rest x) E))
    free

module _ (now : ℕ) (q r : Queue) (lives later : Bool) (x : Link) (E : ErrandRests now q lives x) (command : Command) (is : x.awaits ≡ Answer command) where
  pub answered_errands : (bytes rest : List ℕ) → x.answers ≡ bytes ++ rest → bytes ≢ [] → (w : Awaits) → IsFree w → ErrandRests now r later (awaiting w (takes_up rest x))
  answered_errands bytes rest came some w free = record {
    waits = None;
    errand = answered_by w rest x free (answers_of E.waits command bytes rest x E.errand is came some).keeps;
    rests = λ alive other h. absurd (cc);
    asked = λ n h. absurd (free_asks w free (Todo n) h);
    told = λ n h. absurd (free_asks w free (Todo n) h);
  }

-- `+` comes only of what was done well
module _ (now : ℕ) (q : Queue) (lives : Bool) (x : Link) (E : ErrandRests now q lives x) (command : Command) (is : x.awaits ≡ Answer command) where
  plus_came : (came : GotData) → answer_row came ≡ todo.Done → came ≡ got.Took (43 ∷ [])
  plus_came (got.Took bytes) done = ⊎_elim
      (λ (c : (bytes ≡ 43 ∷ []) × (bytes_eq bytes (43 ∷ []) ≡ true)). ap got.Took c.0)
      (λ (c : (bytes ≢ 43 ∷ []) × (bytes_eq bytes (43 ∷ []) ≡ false)).
      let v : todo.Left left.Unclean ≡ todo.Done = sym (ap (λ (b : Bool). if b then todo.Done else todo.Left left.Unclean) c.1) ∙ done in absurd (cc))
      (text_cases bytes (43 ∷ []))
  plus_came other done = absurd (cc)

  well_came : (pipe : Pipe) (came : GotData) → pipe.bytes ≡ x.answers → Yields pipe came → answer_row came ≡ todo.Done → SaysWell x
  well_came pipe came same yields done =
      let y = subst (λ (c : GotData). Yields pipe c) (plus_came came done) yields in
      (answers_of E.waits command (43 ∷ []) y.1.0 x E.errand is (sym same ∙ y.1.1) y.0).well refl

  pub told_by_link : (child : Option Bouncer) (row : Row) (d : Desk) (pipe : Pipe) (came : GotData) → x.awaits ≡ awaits_at row d.pass → pipe.bytes ≡ x.answers → Yields pipe came
      → due_at row d ≡ needs.Take port.Clean → IsTold now child q row came d
  told_by_link child at.InTodo d pipe came same bytes yields due = λ done.
      E.told d.pass.n (same ∙ pass_awaits d.pass.row d.pass.n command (sym same ∙ is)) (well_came pipe came bytes yields done)
  told_by_link child (at.Finish finish.Return n) d pipe came same bytes yields due = absurd (return_takes d.bounce.row d.bounce due)
  told_by_link child (at.Finish row n) d pipe came same bytes yields due = tt
  told_by_link child row d pipe came same bytes yields due = tt

-- At the rows of its table

-- what it does while it waits for nothing
abbrev pub IsBusy : NeedData → Type 0
IsBusy (needs.Take port.Clean) = ⊥
IsBusy (needs.Ended status) = ⊥
IsBusy due = Unit {0}

pass_never_over : (row : PassRow) (n : ℕ) → awaits_in row n ≢ Over
pass_never_over todo.Answer n is = absurd (cc)
pass_never_over row n is = absurd (cc)

over_ends : (row : Row) (p : Pass) → awaits_at row p ≡ Over → (status : ℕ) × (row ≡ at.Ended status)
over_ends at.InTodo p is = absurd (pass_never_over p.row p.n is)
over_ends (at.Finish finish.Take n) p is = absurd (cc)
over_ends (at.Sweep (sweep.Take split n)) p is = absurd (cc)
over_ends (at.Ended status) p is = (status, refl)
over_ends row p is = absurd (cc)

pub idle_at : (d : Desk) (row : Row) → IsBusy (due_at row d) → awaits_at row d.pass ≡ Nothing
idle_at d row busy = by (awaits_at row d.pass) refl where
  by : (w : Awaits) → awaits_at row d.pass ≡ w → w ≡ Nothing
  by Nothing e = refl
  by (Answer command) e = absurd (subst IsBusy (waits d row command e) busy)
  by Over e = let ended = over_ends row d.pass e in absurd (subst (λ (z : Row). IsBusy (due_at z d)) ended.1 busy)

-- the number of a command that is given rests, once what that enters is entered
module _ (now : ℕ) (q : Queue) (a : List ℕ) (child : Option Bouncer) (came : GotData) (d : Desk) (G : Sound q) where
  abbrev by : Controls
  by = d.book.controls

  pass_rests : HaveNoNul by → (row : PassRow) → d.pass.row ≡ row → TodoStands by now q a row d.pass → (command : Command) → IsPassGive row d.pass.n command
      → RestsFor now (booked_queue child by (routed_at row d.pass.n) q) command
  pass_rests no_nul todo.Give e h command is =
      subst (λ (c : Command). RestsFor now (booked_queue child by (Routed d.pass.n ∷ []) q) c) (sym is) (passes_give by now q a d.pass no_nul G h e).given.ready
  pass_rests no_nul row e h command is = absurd is

  pub given_rests : (row : Row) → StandsAt now q a row d → (command : Command) → IsGive row d.pass command → RestsFor now (booked_queue child by (booked_at row came d) q) command
  given_rests at.InTodo w command is = pass_rests (w.no_nul tt) d.pass.row refl w.rests.1.1 command is
  given_rests (at.Finish finish.Give n) w command is =
      subst (λ (c : Command). RestsFor now q c) (sym is) (chores_stand.finish_gives by now q a n d.book.messages.known d.bounce w.rests.1)
  given_rests (at.Sweep (sweep.Give split n)) w command is =
      subst (λ (c : Command). RestsFor now q c) (sym is) (chores_stand.sweep_gives now q a split n d.book.messages.known w.rests.1)
  given_rests row w command is = absurd is
