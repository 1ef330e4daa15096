-- Where nothing fails an injector ends with 0, or with the status of the first fault of its input.
use Rattle.std.proofs.Common.{◌≡◌, ◌≢◌, ⊎_elim, ℕ, ◌+◌, ◌<◌, ◌≤◌, ◌^◌, List, [], ◌∷◌, Bool, true, false, Option, Some, nat_lt, refl, sym, ◌∙◌, subst, arith, ltb-false}
use Rattle.std.specs.Prelude.{Contains}
use Rattle.std.specs.List.{list_all}
use Rattle.std.proofs.lemmas.Bool.{and_parts}
use Rattle.call_fs.proofs.Maps.{put_at_cases}
use Rattle.call_fs.specs.Disk.{Disk}
use Rattle.call_fs.specs.Maps.{put_at}
use Rattle.call_fs.specs.Program.{MayCome}
use Rattle.call_fs.specs.declared.calls.CallData.{CallData}
use Rattle.call_fs.specs.declared.past.GotData.{GotData}
use Rattle.call_fs.specs.declared.past.GotData.TheVariants.{Answered}
use Rattle.call_fs.specs.declared.past.NeedData.{NeedData}
use Rattle.call_fs.specs.declared.past.NeedData.TheVariants as needs
use Rattle.call_fs.specs.declared.past.Own.{Own}
use Rattle.call_fs.specs.declared.program.Ready.{Ready}
use Rattle.queue_inject.specs.declared.injection.Arguments.{Arguments}
use Rattle.queue_inject.specs.declared.row.Row.{Row}
use Rattle.queue_inject.specs.declared.row.Row.TheVariants as at
use Rattle.queue_inject.specs.Table.{after_came, due_by, has_input, in_time, is_late, place_after}
use Rattle.queue_law.proofs.Looks.{found, not_found}
use Rattle.queue_law.specs.Books.{Injection}
use Rattle.queue_law.specs.Injectors.{InjectorFares, Relies, Settles}
use Rattle.queue_law.specs.Numbers.{Queue, about}
use Rattle.queue_paths.specs.Dirs.{queue_dirs}
use Rattle.queue_paths.specs.Names.Name.{Of, Pid}
use Rattle.queue_paths.specs.Names.Part.{Intd, Mess, Todo}
use Rattle.queue_paths.proofs.Parts.{intd_missing, todo_missing}
use Rattle.world_events.specs.declared.event.Program.{Program}
use Rattle.world_events.specs.declared.event.Program.TheVariants.{Injector}
use Rattle.mail_world.proofs.Members.{are_four}
use Rattle.mail_world.proofs.Coming.{may_come}
use Rattle.mail_world.proofs.Histories.{legal_opens}
use Rattle.mail_world.specs.History.{Actor, Allowed, ComesOf, Event, Legal, Life, MayBear, MayDo, MayEnd, State, acted, after, finished, happens, newborn, next_of}
use Rattle.mail_world.specs.History.Event.{Start, Act, Child, Generation, Report, End, Stop, Moment, Halt}
use Rattle.mail_world.specs.History.Life.{Alive, Over, Stopped}
use Rattle.mail_world.specs.Untouched.{queue}
use Rattle.world_law.proofs.Histories.{always}
use Rattle.world_law.proofs.Tenants.{some_actor}
use Rattle.world_law.specs.Fares.{FaresBy}
use Rattle.world_law.specs.Inv.{Inv}
use Rattle.settle_law.proofs.Dirs.{same_dirs}
use Rattle.settle_law.proofs.InjectorRows.{EndsSo, Finds, FitsDue, IsFine, ends_so, row_fine}
use Rattle.settle_law.proofs.MessageDirs.{intd_dir, mess_dir, todo_dir}
use Rattle.settle_law.proofs.SmallNumbers.{IsSmallAt, PastsWell, not_taken, numbers_are_small, pasts_well, small_row}
use Rattle.settle_law.specs.inside.Finishes.{InjectorsEnd}
use Rattle.settle_law.specs.Well.{came_well, goes_well, is_well_ended}

-- How each injector stands

abbrev pub EndsFine : Arguments → Life → Type 0
EndsFine args Alive = Unit {0}
EndsFine args (Over status) = EndsSo args status × (is_well_ended status ≡ true)
EndsFine args Stopped = ⊥

abbrev pub FineBy : Program → List Own → Life → Type 0
FineBy (Injector args) past life = IsFine args (place_after args past) × EndsFine args life
FineBy program past life = Unit {0}

abbrev pub AllFine : (List ℕ → Option Actor) → Type 0
AllFine actors = (a : List ℕ) (x : Actor) → actors a ≡ Some x → FineBy x.program x.past x.life

-- The directories of the queue are there, and messages have numbers that a program can name.
record IsApt (s : State) : Type 0 where
  dirs : (dir : List ℕ) → Contains queue_dirs dir → Contains s.disk.dirs dir
  small : (n : ℕ) (i : Injection) → s.books.living n ≡ Some i → n < 2 ^ 64
  pasts : PastsWell s.actors

apt : (d : Disk) (h : List Event) → Legal d h → list_all goes_well h ≡ true → IsApt (after d h)
apt d h legal well = record {
  dirs = λ dir here. subst (λ (l : List (List ℕ)). Contains l dir) (sym (same_dirs d h)) ((legal_opens d h legal).dirs dir here);
  small = λ n i is. (numbers_are_small d h legal well n i is).1;
  pasts = pasts_well d h legal well;
}

-- What an injector does

call_due : (input late : Bool) (due : NeedData) (c : CallData) → in_time input late due ≡ needs.File c → (due ≡ needs.File c) × (late ≡ false)
call_due true true (needs.File own) c h = absurd (cc)
call_due true false (needs.File own) c h = (h, refl)
call_due false late (needs.File own) c h = absurd (cc)
call_due input late due c h = absurd (cc)

soon_enough : (now start read : ℕ) → nat_lt (start + 86400) read ≡ false → now ≤ read + 43200 → now ≤ start + 129600
soon_enough now start read h stall = let w : read ≤ start + 86400 = ltb-false _ _ h in omega arith

module _ (s : State) (I : Inv s) (A : IsApt s) (a : List ℕ) (args : Arguments) (past : List Own) (read : ℕ) (ready : Ready) where
  abbrev q : Queue
  q = queue s I.role

  abbrev row : Row
  row = place_after args past

  finds_by : (r : Row) → Relies q a args r → Settles q.books a args r → IsSmallAt r → Finds s.disk args r
  finds_by (at.LinkMess seq n fd) R S small = record {
    number = n;
    there = (found q.disk.names q.disk.files (Pid args.pid args.start seq) (record { number = n; file = R.file }) R.pid).0;
    free = not_found q.disk.names q.disk.files (Of Mess n) R.no_mess;
    dir = mess_dir s.disk n A.dirs small.1;
  }
  finds_by (at.CreateIntd n) R S small = (
    record {
      free = not_found q.disk.names q.disk.files (Of Intd n) (intd_missing (about q n).parts R.rest.bare.no_intd Intd refl);
      dir = intd_dir s.disk n A.dirs (A.small n _ R.rest.bare.begins.lives);
    },
    S,
  )
  finds_by (at.AppendTodo n fd done) R S small = S
  finds_by (at.LinkTodo n) R S small = record {
    number = R.number;
    there = (found q.disk.names q.disk.files (Of Intd n) (record { number = R.number; file = R.holds.rest.file }) R.holds.rest.intd).0;
    free = not_found q.disk.names q.disk.files (Of Todo n) (todo_missing (about q n).parts R.holds.rest.begins.no_todo Todo refl);
    dir = todo_dir s.disk n A.dirs (A.small n _ R.holds.rest.begins.lives);
  }
  finds_by r R S small = tt

  finds : InjectorFares s.now q a args past true false → IsSmallAt row → is_late args read ≡ false → s.now ≤ read + 43200 → Finds s.disk args row
  finds F small late stall = let S = F.stands refl in finds_by row (S.relies (soon_enough s.now args.start read late stall)) S.settles small

  came_fine : InjectorFares s.now q a args past true false → IsSmallAt row → s.now ≤ read + 43200 → IsFine args row → (due : NeedData) (got : GotData) (wrote : ℕ)
      → in_time (has_input ready) (is_late args read) (due_by args row) ≡ due → ComesOf s a due got wrote → MayCome due got → came_well got ≡ true → IsFine args (after_came args row got)
  came_fine F small stall h (needs.File c) (Answered told) wrote next comes may well =
      let due = call_due (has_input ready) (is_late args read) (due_by args row) c next in
      row_fine args s.disk wrote row told.answer (subst (λ (n : NeedData). FitsDue s.disk n told.answer wrote) (sym due.0) comes.0) well (finds F small due.1 stall) h
  came_fine F small stall h (needs.Take p) (Answered told) wrote next comes may well = absurd (not_taken p told may)
  came_fine F small stall h due (Answered told) wrote next comes may well = absurd may
  came_fine F small stall h due got wrote next comes may well = h

alive_fares : (now : ℕ) (q : Queue) (a : List ℕ) (program : Program) (past : List Own) (life : Life) (args : Arguments) → program ≡ Injector args → life ≡ Alive
    → FaresBy now q a program past life → InjectorFares now q a args past true false
alive_fares now q a program past life args is alive F =
    subst (λ (l : Life). FaresBy now q a (Injector args) past l) alive (subst (λ (p : Program). FaresBy now q a p past life) is F)

-- An event of an actor

module _ (s : State) (I : Inv s) (A : IsApt s) where
  acts_so : (a : List ℕ) (own : Own) (wrote : ℕ) (may : MayDo s a own wrote) → came_well own.came ≡ true → (program : Program) → may.actor.program ≡ program → FineBy program may.actor.past may.actor.life
      → FineBy program (own ∷ may.actor.past) may.actor.life
  acts_so a own wrote may well (Injector args) is h =
      let x : Actor = may.actor in
      let next : in_time (has_input own.ready) (is_late args own.read) (due_by args (place_after args x.past)) ≡ own.due =
      subst (λ (p : Program). next_of p x.past own.read own.ready ≡ own.due) is may.due in
      let F = alive_fares s.now (queue s I.role) a x.program x.past x.life args is may.reads.alive (I.fares a x may.reads.is) in (
        came_fine s I A a args x.past own.read own.ready F (small_row args x.past (A.pasts a x may.reads.is)) may.reads.no_stall h.0 own.due own.came wrote next may.came
            (may_come s a own.due own.came wrote may.came) well,
        h.1,
      )
  acts_so a own wrote may well program is h = tt

-- the start of a child leads an injector nowhere
bears_so : (s : State) (parent : List ℕ) (own : Own) (a : List ℕ) (born : Program) (may : MayBear s parent own a born) → (program : Program) → FineBy program may.actor.past may.actor.life
    → FineBy program (own ∷ may.actor.past) may.actor.life
bears_so s parent own a born may (Injector args) h = (subst (λ (g : GotData). IsFine args (after_came args (place_after args may.actor.past) g)) (sym may.came) h.0, h.1)
bears_so s parent own a born may program h = tt

ended_so : (s : State) (a : List ℕ) (read : ℕ) (ready : Ready) (status : ℕ) (may : MayEnd s a read ready status) → is_well_ended status ≡ true → (program : Program) → may.actor.program ≡ program
    → FineBy program may.actor.past may.actor.life → FineBy program may.actor.past (Over status)
ended_so s a read ready status may well (Injector args) is h =
    let x : Actor = may.actor in
    let next : in_time (has_input ready) (is_late args read) (due_by args (place_after args x.past)) ≡ needs.Ended status =
    subst (λ (p : Program). next_of p x.past read ready ≡ needs.Ended status) is may.due in
    (h.0, (ends_so args (has_input ready) (is_late args read) (place_after args x.past) status next well h.0, well))
ended_so s a read ready status may well program is h = tt

-- Each event

put_fine : (actors : List ℕ → Option Actor) (a : List ℕ) (y : Actor) → AllFine actors → FineBy y.program y.past y.life → AllFine (put_at actors a (Some y))
put_fine actors a y R new b x is = ⊎_elim
    (λ (c : (b ≡ a) × (put_at actors a (Some y) b ≡ Some y)). subst (λ (z : Actor). FineBy z.program z.past z.life) (some_actor y x (sym c.1 ∙ is)) new)
    (λ (c : (b ≢ a) × (put_at actors a (Some y) b ≡ actors b)). R b x (sym c.1 ∙ is))
    (put_at_cases actors a (Some y) b)

born_fine : (program : Program) → FineBy program [] Alive
born_fine (Injector args) = (tt, tt)
born_fine program = tt

event_fine : (e : Event) (s : State) → Inv s → IsApt s → AllFine s.actors → Allowed s e → goes_well e ≡ true → AllFine (happens s e).actors
event_fine (Start a program) s I A R may well = put_fine s.actors a (newborn program) R (born_fine program)
event_fine (Act a own wrote) s I A R may well =
    let x : Actor = may.actor in
    subst (λ (o : Option Actor). AllFine (acted s a own wrote o).actors) (sym may.reads.is)
    (put_fine s.actors a (record { program = x.program; past = own ∷ x.past; life = x.life }) R (acts_so s I A a own wrote may well x.program refl (R a x may.reads.is)))
event_fine (Child parent own a program) s I A R may well =
    let x : Actor = may.actor in
    put_fine (acted s parent own 0 (s.actors parent)).actors a (newborn program)
    (subst (λ (o : Option Actor). AllFine (acted s parent own 0 o).actors) (sym may.reads.is)
    (put_fine s.actors parent (record { program = x.program; past = own ∷ x.past; life = x.life }) R (bears_so s parent own a program may x.program (R parent x may.reads.is)))) (born_fine program)
event_fine (Generation (sender ∷ clean ∷ lspawn ∷ rspawn ∷ [])) s I A R may well =
    put_fine _ _ (newborn rspawn) (put_fine _ _ (newborn lspawn) (put_fine _ _ (newborn clean) (put_fine _ _ (newborn sender) R (born_fine sender)) (born_fine clean)) (born_fine lspawn)) (born_fine rspawn)
event_fine (Generation crew) s I A R may well = absurd (are_four crew may.kinds)
event_fine (Report slot output) s I A R may well = R
event_fine (End a read ready status) s I A R may well =
    let x : Actor = may.actor in
    subst (λ (o : Option Actor). AllFine (finished s a (Over status) o).actors) (sym may.reads.is)
    (put_fine s.actors a (record { program = x.program; past = x.past; life = Over status }) R (ended_so s a read ready status may well x.program refl (R a x may.reads.is)))
event_fine (Stop a) s I A R may well = absurd (cc)
event_fine (Moment m) s I A R may well = R
event_fine (Halt how contents) s I A R may well = absurd (cc)

pub all_fine : (d : Disk) → (h : List Event) → Legal d h → list_all goes_well h ≡ true → AllFine (after d h).actors
all_fine d [] legal well = λ a x is. absurd (cc)
all_fine d (e ∷ h) legal well =
    let parts = and_parts (goes_well e) (list_all goes_well h) well in
    event_fine e (after d h) (always d h legal.0) (apt d h legal.0 parts.1) (all_fine d h legal.0 parts.1) legal.1 parts.0

-- how one has ended
pub over_fine : (program : Program) (past : List Own) (life : Life) (args : Arguments) → program ≡ Injector args → FineBy program past life → EndsFine args life
over_fine program past life args is h = (subst (λ (p : Program). FineBy p past life) is h).1

pub injectors_end : InjectorsEnd
injectors_end d h g a x args status is program over =
    (subst (EndsFine args) over (over_fine x.program x.past x.life args program (all_fine d h g.legal g.well a x is))).0
