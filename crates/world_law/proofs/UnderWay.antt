-- A command is under way at a living cleaner only where its number rests.
use Rattle.std.proofs.Common.{◌≡◌, inl, inr, ℕ, List, true, Option, Some, None, refl, sym, ap, ◌∙◌, subst, ⊎_elim, arith, codes}
use Rattle.call_fs.specs.Disk.{Among}
use Rattle.call_fs.specs.declared.past.Own.{Own}
use Rattle.program_law.specs.Errand.Errands.{texts_of, waiting, work_at}
use Rattle.program_law.proofs.Errand.Texts.{same_text}
use Rattle.queue_clean.specs.declared.command.Command.{Command}
use Rattle.queue_clean.specs.declared.row.Row.{Row}
use Rattle.queue_clean.specs.declared.row.Row.TheVariants as at
use Rattle.queue_clean.specs.Commands.{message_of, text_of}
use Rattle.queue_clean.specs.Table.{Place, place_after}
use Rattle.queue_inject.specs.declared.injection.Arguments.{Arguments}
use Rattle.queue_inject.specs.declared.row.Row.{Row as InjectRow}
use Rattle.queue_inject.specs.declared.row.Row.TheVariants as inject
use Rattle.queue_inject.specs.Table.{place_after as inject_after}
use Rattle.queue_law.specs.Books.{Injection, begun}
use Rattle.queue_law.specs.Cleaners.{StandsAt}
use Rattle.queue_law.specs.Injectors.{InTime, IsBegun, Relies}
use Rattle.queue_law.specs.Numbers.{Queue, Role, about}
use Rattle.queue_law.specs.Numbers.Role.{AsDrop, AsMessage, AsOld, AsPart}
use Rattle.queue_law.specs.Rests.{IsAccepted, IsClosed, IsOverdue}
use Rattle.queue_law.proofs.Looks.{found}
use Rattle.queue_paths.specs.Names.Name.{Of}
use Rattle.queue_paths.specs.Names.Part.{Mess}
use Rattle.program_law.specs.Sender.Commands.{RestsFor}
use Rattle.world_events.specs.declared.event.Program.{Program}
use Rattle.world_events.specs.declared.event.Program.TheVariants.{Cleaner}
use Rattle.mail_world.specs.History.{Actor, Life, State, after}
use Rattle.mail_world.specs.History.Life.{Alive, Over, Stopped}
use Rattle.mail_world.specs.Untouched.{queue}
use Rattle.world_law.specs.Crew.{link_in, lives_by, lives_in, place_by, place_in}
use Rattle.world_law.specs.Inv.{Inv}
use Rattle.world_law.specs.Standing.{IsInjecting, number_at}
use Rattle.world_law.specs.UnderWay.{CommandsRest, EachRests, NumberRests}
use Rattle.world_law.proofs.Histories.{always}
use Rattle.world_law.proofs.Standing.{mine_at, relies_by}

-- the number at work at a row rests
module _ (now : ℕ) (q : Queue) (command : Command) where
  rests_as : (c : Command) → ◌≡◌ {A = Option Command} (Some c) (Some command) → RestsFor now q c → RestsFor now q command
  rests_as c e h = let same : c ≡ command = (cc) in subst (λ (z : Command). RestsFor now q z) same h

  row_rests : (row : Row) (p : Place) → StandsAt now q row p → work_at row ≡ Some command → RestsFor now q command
  row_rests (at.UnlinkIntd c) p h works = rests_as c works h
  row_rests (at.UnlinkSecond c) p h works = rests_as c works (record { closed = h.closed; rest = h.rest.0 })
  row_rests at.FindPid p h works = absurd (cc)
  row_rests at.StatPid p h works = absurd (cc)
  row_rests (at.JudgePid moment) p h works = absurd (cc)
  row_rests at.TakeInput p h works = absurd (cc)
  row_rests (at.Answer reply) p h works = absurd (cc)
  row_rests (at.Ended status) p h works = absurd (cc)

made_by : (b a : List ℕ) (words args : Arguments) → AsMessage b words ≡ AsMessage a args → words ≡ args
made_by b a words args e = cc

module _ (s : State) (I : Inv s) (lives : lives_in (s.actors (codes "clean")) ≡ true) (command : Command) where
  abbrev Rests : Type 0
  Rests = RestsFor s.now (queue s I.role) command

  -- that of the command that waits
  given_rests : (waits : Option Command) → I.errands.waits ≡ waits → Among (text_of command) (texts_of waits) → Rests
  given_rests None e among = absurd among
  given_rests (Some c) e (inl same) =
      let it : command ≡ c = same_text command c same in
      subst (λ (z : Command). RestsFor s.now (queue s I.role) z) (sym it) (I.errands.rests lives c e)
  given_rests (Some c) e (inr none) = absurd none

  by_program : (program : Program) (past : List Own) (life : Life) → s.actors (codes "clean") ≡ Some (record { program = program; past = past; life = life })
      → lives_by program life ≡ true → work_at (place_by program past).row ≡ Some command → Rests
  by_program (Cleaner began) past Alive is alive works =
      row_rests s.now (queue s I.role) command (place_after past).row (place_after past) (I.fares (codes "clean") (record { program = Cleaner began; past = past; life = Alive }) is) works
  by_program (Cleaner began) past (Over status) is alive works = absurd (cc)
  by_program (Cleaner began) past Stopped is alive works = absurd (cc)
  by_program other past life is alive works = absurd (cc)

  working_rests : (o : Option Actor) → s.actors (codes "clean") ≡ o → lives_in o ≡ true → work_at (place_in o).row ≡ Some command → Rests
  working_rests None is alive works = absurd (cc)
  working_rests (Some x) is alive works = by_program x.program x.past x.life is alive works

-- Injectors

-- an injection that has begun isn't accepted
module _ (q : Queue) (a : List ℕ) (args : Arguments) where
  begun_at : (row : InjectRow) (n : ℕ) → number_at row ≡ Some n → Relies q a args row → IsBegun (about q n) a args n
  begun_at (inject.UnlinkPid seq m fd) n e h = let same : m ≡ n = cc in subst (λ (k : ℕ). IsBegun (about q k) a args k) same h.mess.holds.rest.bare.begins
  begun_at (inject.AppendMess m fd done) n e h = let same : m ≡ n = cc in subst (λ (k : ℕ). IsBegun (about q k) a args k) same h.holds.rest.bare.begins
  begun_at (inject.SyncMess m fd) n e h = let same : m ≡ n = cc in subst (λ (k : ℕ). IsBegun (about q k) a args k) same h.holds.rest.bare.begins
  begun_at (inject.CreateIntd m) n e h = let same : m ≡ n = cc in subst (λ (k : ℕ). IsBegun (about q k) a args k) same h.rest.bare.begins
  begun_at (inject.AppendTodo m fd done) n e h = let same : m ≡ n = cc in subst (λ (k : ℕ). IsBegun (about q k) a args k) same h.holds.rest.begins
  begun_at (inject.SyncTodo m fd) n e h = let same : m ≡ n = cc in subst (λ (k : ℕ). IsBegun (about q k) a args k) same h.holds.rest.begins
  begun_at (inject.LinkTodo m) n e h = let same : m ≡ n = cc in subst (λ (k : ℕ). IsBegun (about q k) a args k) same h.holds.rest.begins
  begun_at (inject.CleanIntd m status) n e h = let same : m ≡ n = cc in subst (λ (k : ℕ). IsBegun (about q k) a args k) same h.rest
  begun_at (inject.CleanMess m status) n e h = let same : m ≡ n = cc in subst (λ (k : ℕ). IsBegun (about q k) a args k) same h.rest.begins
  begun_at row n e h = absurd (cc)

-- a number that is closed to injectors has none that may call still
module _ (s : State) (I : Inv s) (n : ℕ) where
  abbrev q : Queue
  q = queue s I.role

  overdue_apart : (role : Role) → q.role n ≡ role → IsOverdue s.now role → (a : List ℕ) (args : Arguments) → InTime s.now args → q.role n ≡ AsMessage a args → ⊥
  overdue_apart (AsMessage b words) is over a args soon mine =
      let same : words ≡ args = made_by b a words args (sym is ∙ mine) in
      let start = ap (λ (z : Arguments). z.start) same in
      omega (arith, over, soon, start)
  overdue_apart (AsPart part k) is over a args soon mine = absurd over
  overdue_apart (AsDrop b) is over a args soon mine = absurd over
  overdue_apart AsOld is over a args soon mine = absurd over

  closed_apart : IsClosed s.now q n → (a : List ℕ) → IsInjecting s a n → ⊥
  closed_apart h a it =
      let y = it.actor in
      let row = inject_after it.args y.past in
      let relies = relies_by s.now q a y.program y.past y.life it.args it.program it.alive (I.fares a y it.is) it.soon in
      ⊎_elim
      (λ (over : IsOverdue s.now (q.role n)). overdue_apart (q.role n) refl over a it.args it.soon (mine_at q a it.args row n it.number relies))
      (λ (accepted : IsAccepted (about q n)).
      let lives = (begun_at q a it.args row n it.number relies).lives in
      let other = accepted.lives in
      let said = accepted.accepted in
      let same : begun a it.args n ≡ accepted.injection = cc in
      let v = ap (λ (i : Injection). i.accepted) same in
      absurd (cc))
      h.shut

-- the number rests as the command needs
number_rests : (s : State) (I : Inv s) (command : Command) → RestsFor s.now (queue s I.role) command → NumberRests s command
number_rests s I command h =
    let n = message_of command in
    record {
      mess = h.closed.mess.number;
      there = (found s.disk.names s.disk.files (Of Mess n) h.closed.mess h.closed.there).0;
      left = closed_apart s I n h.closed;
      needs = h.rest;
    }

each_rests : (s : State) → Inv s → lives_in (s.actors (codes "clean")) ≡ true → EachRests s
each_rests s I lives command under_way = number_rests s I command (⊎_elim
    (λ (among : Among (text_of command) (waiting (link_in s))).
    given_rests s I lives command I.errands.waits refl (subst (λ (texts : List (List ℕ)). Among (text_of command) texts) I.errands.errand.texts among))
    (λ (works : work_at (link_in s).place.row ≡ Some command). working_rests s I lives command (s.actors (codes "clean")) refl lives works)
    under_way)

pub commands_rest : CommandsRest
commands_rest d before legal lives = each_rests (after d before) (always d before legal) lives
