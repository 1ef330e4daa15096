-- How old a name in `pid` is that the cleaner takes away, and that no injector has it that may call still.
use Rattle.std.proofs.Common.{◌≡◌, ◌⊎◌, inl, inr, ⊎_elim, ℕ, ◌+◌, ◌<◌, ◌≤◌, List, Bool, true, false, Option, Some, refl, sym, ap, ◌∙◌, subst, arith, if◌then◌else◌}
use Rattle.std.specs.Prelude.{nat_lt}
use Rattle.std.proofs.lemmas.Bool.{ltb-true}
use Rattle.call_fs.specs.Apply.{Fits}
use Rattle.call_fs.specs.Disk.{Disk}
use Rattle.call_fs.specs.Past.{IsRunBy}
use Rattle.call_fs.specs.declared.calls.Answer.{Answer}
use Rattle.call_fs.specs.declared.calls.Answer.TheVariants as answer
use Rattle.call_fs.specs.declared.calls.CallData.TheVariants as call
use Rattle.call_fs.specs.declared.past.GotData.{GotData}
use Rattle.call_fs.specs.declared.past.GotData.TheVariants as got
use Rattle.call_fs.specs.declared.past.NeedData.{NeedData}
use Rattle.call_fs.specs.declared.past.NeedData.TheVariants as needs
use Rattle.call_fs.specs.declared.past.Own.{Own}
use Rattle.call_fs.specs.declared.program.Ready.{Ready}
use Rattle.program_law.specs.Errand.OldNames.{WasOld}
use Rattle.program_law.proofs.Errand.OldNames.{old_names_go}
use Rattle.queue_clean.specs.declared.command.Command.{Command}
use Rattle.queue_clean.specs.declared.command.Command.TheVariants.{Foop, Todo}
use Rattle.queue_clean.specs.declared.row.Row.{Row}
use Rattle.queue_clean.specs.declared.row.Row.TheVariants as at
use Rattle.queue_clean.specs.Commands.{first_name, message_of, second_name}
use Rattle.queue_clean.specs.Table.{Next as CleansNext, Place, due_at, is_old, moment_in, moment_told, pid_path, place_after, search_after}
use Rattle.queue_inject.specs.declared.injection.Arguments.{Arguments}
use Rattle.queue_inject.specs.declared.row.Row.{Row as InjectRow}
use Rattle.queue_inject.specs.declared.row.Row.TheVariants as inject
use Rattle.queue_inject.specs.Table.{place_after as inject_after}
use Rattle.queue_law.specs.Cleaners.{StandsAt}
use Rattle.queue_law.specs.Injectors.{Relies}
use Rattle.queue_law.specs.Numbers.{Entry, Queue, look}
use Rattle.queue_law.specs.Numbers.Role.{AsMessage}
use Rattle.queue_law.specs.Rests.{IsJudged, IsOldName}
use Rattle.queue_law.proofs.Looks.{found}
use Rattle.queue_paths.specs.Names.{Name, parse, path}
use Rattle.queue_paths.specs.Names.Name.{Of, Pid}
use Rattle.queue_paths.specs.Names.Part.{Intd}
use Rattle.queue_paths.proofs.Paths.{parse-path, path_injective}
use Rattle.program_law.proofs.Sender.Gone.{file_call}
use Rattle.world_events.specs.declared.event.Program.{Program}
use Rattle.world_events.specs.declared.event.Program.TheVariants.{Cleaner}
use Rattle.mail_world.specs.History.{Actor, ComesOf, Event, Legal, Life, State, after, next_of}
use Rattle.mail_world.specs.History.Life.{Alive}
use Rattle.mail_world.specs.Untouched.{queue}
use Rattle.world_law.specs.Fares.{FaresBy}
use Rattle.world_law.specs.Inv.{Inv}
use Rattle.world_law.specs.PidNames.{HasPid, IsLeftOver, IsOldFile, PidsAreOld, WasOldFile, sequence_at}
use Rattle.world_law.proofs.Histories.{always}
use Rattle.world_law.proofs.Newest.{was_made}
use Rattle.world_law.proofs.Ran.{have_run}
use Rattle.world_law.proofs.Standing.{relies_by}
use Rattle.world_law.proofs.Tenants.{some_actor}

unlinked_is : (x y : List ℕ) → call.Unlink x ≡ call.Unlink y → x ≡ y
unlinked_is x y e = cc

-- What the stat before told

-- what a stat tells is so of the file that the name leads to
record IsTold (d : Disk) (name : List ℕ) (moment : ℕ) : Type 0 where
  file : ℕ
  there : d.names name ≡ Some file
  written : (d.files file).moment ≡ moment

told_by : (d : Disk) (name : List ℕ) (moment : ℕ) (given : Answer) (wrote : ℕ) → moment_told given ≡ Some moment → Fits d (call.Stat name) given wrote → IsTold d name moment
told_by d name moment (answer.Stat stat) wrote is fits = record { file = stat.number; there = fits.number; written = sym fits.moment_is ∙ cc }
told_by d name moment given wrote is fits = absurd (cc)

told_so : (s : State) (a name : List ℕ) (moment : ℕ) (came : GotData) (wrote : ℕ) → moment_in came ≡ Some moment → ComesOf s a (needs.File (call.Stat name)) came wrote → IsTold s.disk name moment
told_so s a name moment (got.Answered told) wrote is comes = told_by s.disk name moment told.answer wrote is comes.0
told_so s a name moment came wrote is comes = absurd (cc)

was_old_file : (d : Disk) (before : List Event) → Legal d before → (a : List ℕ) (x : Actor) → (after d before).actors a ≡ Some x → x.life ≡ Alive
    → (part : List ℕ) (read now : ℕ) → read ≤ now → WasOld x.past read part → WasOldFile d before a part now
was_old_file d before legal a x is alive part read now soon w =
    let m = was_made d a w.look (call.Stat (pid_path part)) w.asked before legal (record { actor = x; is = is; alive = alive; before = w.before; past = w.last }) in
    let comes = subst (λ (n : NeedData). ComesOf (after d m.older) a n w.look.came m.wrote) w.asked m.may.came in
    let told = told_so (after d m.older) a (pid_path part) w.moment w.look.came m.wrote w.told comes in
    let written = told.written in
    let old = w.old in
    record {
      since = m.since;
      own = w.look;
      wrote = m.wrote;
      older = m.older;
      all = m.all;
      last = m.last;
      asked = w.asked;
      file = told.file;
      there = told.there;
      old = omega (arith, written, old, soon);
    }

-- What was judged

-- names of messages are others
second_apart : (command : Command) (p s k : ℕ) → second_name command ≡ Pid p s k → ⊥
second_apart (Foop n) p s k e = absurd (cc)
second_apart (Todo n) p s k e = absurd (cc)

of_apart : (n p s k : ℕ) → Of Intd n ≡ Pid p s k → ⊥
of_apart n p s k e = absurd (cc)

-- no injector that moves made the file of this name, and it was written last more than 36 hours ago
record IsStale (q : Queue) (x : Name) (now : ℕ) : Type 0 where
  moment : ℕ
  old : moment + 129600 < now
  name : IsOldName q x moment

module _ (now : ℕ) (q : Queue) (read : ℕ) (soon : read ≤ now) (p s k : ℕ) where
  abbrev Old : Type 0
  Old = (s + 129600 < now) ⊎ IsStale q (Pid p s k) now

  abbrev gone : NeedData
  gone = needs.File (call.Unlink (path (Pid p s k)))

  late : (moment : ℕ) → nat_lt (moment + 129600) read ≡ true → moment + 129600 < now
  late moment h = let w : moment + 129600 < read = ltb-true _ _ h in omega (arith, w, soon)

  judged : (name : List ℕ) (moment : ℕ) (old : Bool) → is_old moment read ≡ old → IsJudged q (parse (pid_path name)) moment
      → (if old then needs.File (call.Unlink (pid_path name)) else search_after name) ≡ gone → Old
  judged name moment true e h due =
      let names : pid_path name ≡ path (Pid p s k) = unlinked_is (pid_path name) (path (Pid p s k)) (file_call (call.Unlink (pid_path name)) (call.Unlink (path (Pid p s k))) due) in
      let parsed : parse (pid_path name) ≡ Some (Pid p s k) = ap parse names ∙ parse-path (Pid p s k) in
      let w = late moment e in
      ⊎_elim
      (λ (low : s ≤ moment). inl (omega (arith, w, low)))
      (λ (old : IsOldName q (Pid p s k) moment). inr (record { moment = moment; old = w; name = old }))
      (subst (λ (o : Option Name). IsJudged q o moment) parsed h)
  judged name moment false e h due = absurd (cc)

  by_row : (row : Row) (place : Place) → StandsAt now q row place → due_at row place.name read ≡ gone → Old
  by_row (at.JudgePid moment) place h due = judged place.name moment (is_old moment read) refl h.1 due
  by_row (at.UnlinkIntd command) place h due =
      let names = unlinked_is (path (first_name command)) (path (Pid p s k)) (file_call (call.Unlink (path (first_name command))) (call.Unlink (path (Pid p s k))) due) in
      absurd (of_apart (message_of command) p s k (path_injective (first_name command) (Pid p s k) names))
  by_row (at.UnlinkSecond command) place h due =
      let names = unlinked_is (path (second_name command)) (path (Pid p s k)) (file_call (call.Unlink (path (second_name command))) (call.Unlink (path (Pid p s k))) due) in
      absurd (second_apart command p s k (path_injective (second_name command) (Pid p s k) names))
  by_row row place h due = absurd (cc)

by_program : (s : State) (I : Inv s) (a : List ℕ) (program : Program) (past : List Own) (life : Life) (began read : ℕ) (ready : Ready) → program ≡ Cleaner began → life ≡ Alive
    → FaresBy s.now (queue s I.role) a program past life → (soon : read ≤ s.now) → (pid start seq : ℕ) → next_of program past read ready ≡ needs.File (call.Unlink (path (Pid pid start seq)))
    → Old s.now (queue s I.role) read soon pid start seq
by_program s I a (Cleaner other) past Alive began read ready is alive F soon pid start seq due = by_row s.now (queue s I.role) read soon pid start seq (place_after past).row (place_after past) F due
by_program s I a (Cleaner other) past life began read ready is alive F soon pid start seq due = absurd (cc)
by_program s I a program past life began read ready is alive F soon pid start seq due = absurd (cc)

-- Injectors

-- the file of a pid name that an injector has was made by it
record IsOfInjector (q : Queue) (x : Name) (a : List ℕ) (args : Arguments) : Type 0 where
  file : Entry
  there : look q x ≡ Some file
  mine : q.role file.number ≡ AsMessage a args

pid_mine : (q : Queue) (a : List ℕ) (args : Arguments) (row : InjectRow) (seq : ℕ) → sequence_at row ≡ Some seq → Relies q a args row → IsOfInjector q (Pid args.pid args.start seq) a args
pid_mine q a args (inject.LinkMess k n fd) seq is h =
    let same : k ≡ seq = cc in
    subst (λ (z : ℕ). IsOfInjector q (Pid args.pid args.start z) a args) same (record { file = record { number = n; file = h.file }; there = h.pid; mine = h.mine })
pid_mine q a args (inject.UnlinkPid k n fd) seq is h =
    let same : k ≡ seq = cc in
    subst (λ (z : ℕ). IsOfInjector q (Pid args.pid args.start z) a args) same (record { file = record { number = n; file = h.file }; there = h.pid; mine = h.mess.holds.mine })
pid_mine q a args row seq is h = absurd (cc)

module _ (s : State) (I : Inv s) (pid start seq : ℕ) where
  abbrev q : Queue
  q = queue s I.role

  abbrev x : Name
  x = Pid pid start seq

  -- no injector has a file that was there at the beginning
  stale_apart : IsStale q x s.now → (a : List ℕ) → HasPid s a pid start seq → ⊥
  stale_apart h a it =
      let y = it.actor in
      let his = pid_mine q a it.args (inject_after it.args y.past) seq it.seq_is (relies_by s.now q a y.program y.past y.life it.args it.program it.alive (I.fares a y it.is) it.soon) in
      let name : Pid it.args.pid it.args.start seq ≡ x = ap (λ (p : ℕ). Pid p it.args.start seq) it.pid_is ∙ ap (λ (t : ℕ). Pid pid t seq) it.start_is in
      let there : look q x ≡ Some his.file = subst (λ (z : Name). look q z ≡ Some his.file) name his.there in
      let old = h.name.there in
      let same : his.file ≡ h.name.file = cc in
      let role = ap (λ (e : Entry). q.role e.number) same in
      let mine = his.mine in
      let made = h.name.made in
      absurd (cc)

  late_apart : start + 129600 < s.now → (a : List ℕ) → HasPid s a pid start seq → ⊥
  late_apart h a it = let soon = it.soon in let is = it.start_is in omega (arith, h, soon, is)

  stale_file : IsStale q x s.now → IsOldFile s (path x)
  stale_file h =
      let w = found s.disk.names s.disk.files x h.name.file h.name.there in
      let same = ap (λ (e : Entry). e.file.moment) w.1 in
      let written = h.name.written in
      let old = h.old in
      record { file = h.name.file.number; there = w.0; old = omega (arith, same, written, old) }

  left_over : (start + 129600 < s.now) ⊎ IsStale q x s.now → IsLeftOver s pid start seq
  left_over h = ⊎_elim
      (λ (late : start + 129600 < s.now). record { out_of_time = inl late; left = late_apart late })
      (λ (stale : IsStale q x s.now). record { out_of_time = inr (stale_file stale); left = stale_apart stale })
      h

-- a cleaner ran by its table
cleaner_ran : (program : Program) (past : List Own) (began : ℕ) → program ≡ Cleaner began → IsRunBy (next_of program) past → IsRunBy (CleansNext tt) past
cleaner_ran program past began is ran = subst (λ (p : Program). IsRunBy (next_of p) past) is ran

pub pids_are_old : PidsAreOld
pids_are_old d a own wrote before legal x is began program part due =
    let s = after d before in
    let I = always d before legal.0 in
    let may = legal.1 in
    let same : may.actor ≡ x = some_actor may.actor x (sym may.reads.is ∙ is) in
    let alive : x.life ≡ Alive = ap (λ (y : Actor). y.life) (sym same) ∙ may.reads.alive in
    let soon = may.reads.no_later in
    let next : next_of x.program x.past own.read own.ready ≡ own.due = subst (λ (y : Actor). next_of y.program y.past own.read own.ready ≡ own.due) same may.due in
    let cleans : CleansNext tt x.past own.read own.ready ≡ needs.File (call.Unlink (pid_path part)) = subst (λ (p : Program). next_of p x.past own.read own.ready ≡ own.due) program next ∙ due in (
      was_old_file d before legal.0 a x is alive part own.read s.now soon
          (old_names_go x.past own.read own.ready part (cleaner_ran x.program x.past began program (have_run d before legal.0 a x is)) cleans),
      λ pid start seq name. left_over s I pid start seq
          (by_program s I a x.program x.past x.life began own.read own.ready program alive (I.fares a x is) soon pid start seq
          (next ∙ (due ∙ ap (λ (text : List ℕ). needs.File (call.Unlink text)) (sym name)))),
    )
