-- The events of a spawner, the local or the remote one. Both take requests and give reports, start programs, and read messages (spawner_parts
-- `specs/Table.antt`), each in its own way, which is its `Kind`.
use Rattle.std.proofs.Common.{◌≡◌, ◌≢◌, inl, inr, ℕ, ◌==◌, List, ◌∷◌, length, Bool, true, false, ◌&&◌, Option, Some, None, refl, sym, subst, bytes_eq, codes, if◌then◌else◌}
use Rattle.std.specs.Prelude.{nat_lt, take}
use Rattle.call_fs.specs.declared.calls.Answer.{Answer}
use Rattle.call_fs.specs.declared.calls.Answer.TheVariants as answer
use Rattle.call_fs.specs.declared.calls.CallData.{CallData}
use Rattle.call_fs.specs.declared.calls.CallData.TheVariants as call
use Rattle.call_fs.specs.declared.calls.Fd.{Fd}
use Rattle.call_fs.specs.declared.calls.FsError.TheVariants as why
use Rattle.call_fs.specs.declared.calls.How.TheVariants as how
use Rattle.call_fs.specs.declared.calls.Told.{Told}
use Rattle.call_fs.specs.declared.file_system.TheConstants.{PIECE}
use Rattle.call_fs.specs.declared.past.ChildData.{ChildData}
use Rattle.call_fs.specs.declared.past.ChildData.TheVariants as child
use Rattle.call_fs.specs.declared.past.GotData.{GotData}
use Rattle.call_fs.specs.declared.past.GotData.TheVariants as got
use Rattle.call_fs.specs.declared.past.NeedData.{NeedData}
use Rattle.call_fs.specs.declared.past.NeedData.TheVariants as needs
use Rattle.call_fs.specs.declared.past.Own.{Own}
use Rattle.call_fs.specs.declared.program.Port.{Port}
use Rattle.call_fs.specs.declared.program.Port.TheVariants as port
use Rattle.call_fs.specs.declared.program.Ready.{Ready}
use Rattle.call_fs.specs.Apply.{Fits}
use Rattle.send_known.specs.declared.channel.Channel.{Channel}
use Rattle.send_known.specs.declared.channel.Channel.TheVariants as channel
use Rattle.spawn_protocol.specs.Inbox.{pull, with_more}
use Rattle.spawn_protocol.specs.declared.inbox.Intake.{Intake}
use Rattle.spawn_protocol.specs.declared.inbox.Intake.TheVariants as intake
use Rattle.spawn_protocol.specs.declared.request.Request.{Request}
use Rattle.spawner_parts.specs.declared.place.Place.{Place}
use Rattle.spawner_parts.specs.declared.row.Row.{Row}
use Rattle.spawner_parts.specs.declared.row.Row.TheVariants as at
use Rattle.spawner_parts.specs.Asked.{is_bad, runs_in}
use Rattle.spawner_parts.specs.Table.{IsKind, IsReadied, Kind, act, arrive, bad_request, closed, due_at, ended_by, gave, greeting, heeded, is_asked, launched, next_request, none_runs, opened_by, opens, printed, read_by, reports, resting, row_now, took, turning}
use Rattle.spawner_parts.specs.Table.IsReadied.{IsAnswered, IsGiven}
use Rattle.program_law.proofs.Delivery.Stay.{drops_stay}
use Rattle.queue_law.specs.Numbers.{Queue}
use Rattle.queue_law.specs.Senders.{OnlyReads, called_queue}
use Rattle.queue_law.proofs.Opens.{opened_held}
use Rattle.queue_law.proofs.RestIsKept.{rest_is_kept}
use Rattle.queue_law.proofs.Sends.{reads_keep}
use Rattle.program_law.proofs.Sender.Spares.{others_spare}
use Rattle.world_pipes.specs.Pipework.{Pipe, Pipework, Tenant, closed as closed_pipe, given as given_pipe, gives, mouth, pipework_after, programs_after, put_pipe, taken}
use Rattle.world_pipes.specs.Pipework.Tenant.{Runs, Remote}
use Rattle.world_events.specs.declared.event.Program.{Program}
use Rattle.world_events.specs.declared.event.Program.TheVariants.{LocalSpawner, RemoteSpawner}
use Rattle.mail_world.specs.History.{Actor, ComesOf, Life, State, acted}
use Rattle.mail_world.specs.History.Life.{Alive}
use Rattle.mail_world.specs.Untouched.{queue}
use Rattle.world_law.specs.Crew.{IsNamed}
use Rattle.world_law.specs.Fares.{FaresBy, SpawnerHolds}
use Rattle.world_law.specs.Inv.{ChildBy, Inv}
use Rattle.world_law.specs.Spawned.{spawner_name}
use Rattle.world_law.proofs.Moved.{IsSameLink, IsSeenAs, moved_keeps, with_one}
use Rattle.world_law.proofs.Pipes.{input_same}
use Rattle.world_law.proofs.Stepped.{stepped, stepped_keeps}
use Rattle.world_law.proofs.Tenants.{GoesOn, RunsNoMore, slot_named, slot_put, tenant_other}

-- What it holds open as it goes on

module _ (q : Queue) (a : List ℕ) where
  abbrev Holds : Row → Type 0
  Holds row = SpawnerHolds q a row

  holds_if : (b : Bool) (x y : Row) → Holds x → Holds y → Holds (if b then x else y)
  holds_if true x y h k = h
  holds_if false x y h k = k

  ended_holds : (i : Intake) → Holds (ended_by i)
  ended_holds intake.Open = tt
  ended_holds intake.Ended = tt
  ended_holds intake.TooLong = tt

  rest_holds : (p : Place) → Holds (resting p)
  rest_holds p = holds_if (none_runs p.running) (ended_by p.inbox.intake) at.Idle (ended_holds p.inbox.intake) tt

  turn_holds : (p : Place) (o : Option ℕ) → Holds (turning p o)
  turn_holds p None = rest_holds p
  turn_holds p (Some slot) = holds_if (runs_in p.running slot) (at.TakeOutput slot) (resting p) tt (rest_holds p)

  pub arrive_holds : (row : Row) (p : Place) (ready : Ready) → Holds row → Holds (arrive row p ready)
  arrive_holds at.Idle p ready h = holds_if (is_asked p ready) at.TakeInput (turning p ready.child) tt (turn_holds p ready.child)
  arrive_holds at.Greet p ready h = h
  arrive_holds at.TakeInput p ready h = h
  arrive_holds at.OpenMess p ready h = h
  arrive_holds (at.ReadMess fd) p ready h = h
  arrive_holds (at.CloseMess fd whole) p ready h = h
  arrive_holds at.Start p ready h = h
  arrive_holds at.Feed p ready h = h
  arrive_holds (at.TakeOutput slot) p ready h = h
  arrive_holds (at.TakeStatus slot) p ready h = h
  arrive_holds at.Report p ready h = h
  arrive_holds (at.Ended code) p ready h = h

  place_if : (b : Bool) (x y : Place) → Holds x.row → Holds y.row → Holds (if b then x else y).row
  place_if true x y h k = h
  place_if false x y h k = k

  heeded_holds : (o : Option Request) (p : Place) → Holds (heeded o p).row
  heeded_holds None p = tt
  heeded_holds (Some r) p = place_if (is_bad p.running r) (reports bad_request r.slot p) (opens r p) tt tt

  next_holds : (p : Place) → Holds (next_request p).row
  next_holds p = let it = pull p.inbox in heeded_holds it.request (record p { inbox = it.inbox })

  gave_holds : (came : GotData) (p : Place) → Holds (gave came p).row
  gave_holds got.Gave p = next_holds p
  gave_holds came p = tt

  took_holds : (came : GotData) (p : Place) → Holds (took came p).row
  took_holds (got.Took bytes) p = next_holds (record p { inbox = with_more bytes p.inbox })
  took_holds got.End p = tt
  took_holds came p = tt

  launched_holds : (report : List ℕ) (came : GotData) (p : Place) → Holds (launched report came p).row
  launched_holds report (got.Started pid) p = tt
  launched_holds report got.Memory p = tt
  launched_holds report came p = tt

  printed_holds : (slot : ℕ) (came : GotData) (p : Place) → Holds (printed slot came p).row
  printed_holds slot (got.Took bytes) p = tt
  printed_holds slot got.End p = tt
  printed_holds slot came p = tt

  readied_holds : (given : List ℕ → List ℕ) (p x : Place) → IsReadied given p x → Holds x.row
  readied_holds given p x (IsAnswered report e) = subst (λ (z : Place). Holds z.row) (sym e) tt
  readied_holds given p x (IsGiven e) = subst (λ (z : Place). Holds z.row) (sym e) tt

  closed_holds : (kind : Kind) → IsKind kind → (whole : Bool) (p : Place) → Holds (closed kind whole p).row
  closed_holds kind good true p = readied_holds kind.given p (kind.readied p) (good p)
  closed_holds kind good false p = tt

  -- its file calls only read
  abbrev pub OnlyReadsOf : NeedData → Type 0
  OnlyReadsOf (needs.File c) = OnlyReads q a c
  OnlyReadsOf due = Unit {0}

  pub only_reads : (asked : ChildData) (row : Row) (p : Place) (c : CallData) → Holds row → due_at asked row p ≡ needs.File c → OnlyReads q a c
  only_reads asked at.OpenMess p c h due = subst OnlyReadsOf due tt
  only_reads asked (at.ReadMess fd) p c h due = subst OnlyReadsOf due tt
  only_reads asked (at.CloseMess fd whole) p c h due = subst OnlyReadsOf due h.1.held
  only_reads asked row p c h due = absurd (cc)

-- it starts a program at one row alone
pub start_row : (asked : ChildData) (row : Row) (p : Place) (other : ChildData) → due_at asked row p ≡ needs.Start other → (row ≡ at.Start) × (asked ≡ other)
start_row asked at.Start p other due = (refl, cc)
start_row asked row p other due = absurd (cc)

-- after a call
module _ (q : Queue) (a : List ℕ) (read wrote : ℕ) (p : Place) where
  abbrev q_after : CallData → Answer → Queue
  q_after c told = called_queue q a read c told wrote q.role

  opened_holds : (text : List ℕ) (told : Answer) → Fits q.disk (call.Open text how.Read) told wrote → SpawnerHolds (q_after (call.Open text how.Read) told) a (opened_by told p).row
  opened_holds text (answer.Opened fd) fits = let w = opened_held q a read text how.Read fd wrote fits in (_, w.2)
  opened_holds text (answer.Refused why.Memory) fits = tt
  opened_holds text (answer.Refused why.NotThere) fits = tt
  opened_holds text (answer.Refused why.Fault) fits = tt
  opened_holds text (answer.Refused why.Exists) fits = absurd fits
  opened_holds text told fits = absurd fits

  piece_holds : (r : Queue) (fd : Fd) (b : Bool) → SpawnerHolds r a (at.ReadMess fd) → SpawnerHolds r a (if b then at.CloseMess fd true else at.ReadMess fd)
  piece_holds r fd true h = h
  piece_holds r fd false h = h

  read_holds : (fd : Fd) (len : ℕ) (told : Answer) (bytes : List ℕ) → Fits q.disk (call.ReadAt fd len PIECE) told wrote → SpawnerHolds q a (at.ReadMess fd)
      → SpawnerHolds (q_after (call.ReadAt fd len PIECE) told) a (read_by fd told bytes p).row
  read_holds fd len (answer.Count k) bytes fits h = piece_holds (q_after (call.ReadAt fd len PIECE) (answer.Count k)) fd (nat_lt (length bytes) PIECE) (h.0, h.1)
  read_holds fd len (answer.Refused why.Fault) bytes fits h = (h.0, h.1)
  read_holds fd len told bytes fits h = absurd fits

-- The two spawners

abbrev pub runs_as : Channel → ℕ → Program
runs_as channel.Local began = LocalSpawner began
runs_as channel.Remote began = RemoteSpawner began

named : (c : Channel) (began : ℕ) → IsNamed (spawner_name c) (runs_as c began)
named channel.Local began = refl
named channel.Remote began = refl

-- to the sender and its cleaner it is what it was
seen_on : (c : Channel) (began : ℕ) (past more : List Own)
    → IsSeenAs (Some (record { program = runs_as c began; past = past; life = Alive })) (record { program = runs_as c began; past = more; life = Alive })
seen_on channel.Local began past more = record { awaits = refl; place = refl; lives = λ h. h }
seen_on channel.Remote began past more = record { awaits = refl; place = refl; lives = λ h. h }

-- and what it gives to its programs is asked of nothing
gives_any : (c : Channel) (began : ℕ) (t : State) (a : List ℕ) (past : List Own) (life : Life) → ChildBy t a (runs_as c began) past life
gives_any channel.Local began t a past life = tt
gives_any channel.Remote began t a past life = tt

-- what it starts: an actor, by an event that is more than an act; or a remote program, which is none
abbrev pub Starts : Channel → ChildData → Type 0
Starts channel.Local (child.Local slot words uid) = Unit {0}
Starts channel.Remote (child.Remote slot domain sender recipient) = Unit {0}
Starts c asked = ⊥

-- Pipes and slots

-- what it does leaves what lies between the sender and its cleaner, and no actor more runs in a slot
pub record IsApart (v w : Pipework) : Type 0 where
  pub link : IsSameLink v w
  pub none : RunsNoMore v w

module _ (w : Pipework) (wrote : ℕ) where
  abbrev Then : Channel → NeedData → GotData → Type 0
  Then c due came = IsApart w (pipework_after w (spawner_name c) due came wrote)

  -- a report or the first byte goes to the sender
  output_same : (c : Channel) (bytes : List ℕ) → IsSameLink w (record { pipes = gives w (spawner_name c) port.Output bytes; programs = w.programs; slots = w.slots })
  output_same channel.Local bytes = record { given = refl; answers = refl }
  output_same channel.Remote bytes = record { given = refl; answers = refl }

  pub reported : (c : Channel) (bytes : List ℕ) (came : GotData) → Then c (needs.Give port.Output bytes) came
  reported c bytes got.Gave = record { link = output_same c bytes; none = λ b e t is. inl is }
  reported c bytes got.Failed = record { link = output_same c (take wrote bytes); none = λ b e t is. inl is }
  reported c bytes came = record { link = record { given = refl; answers = refl }; none = λ b e t is. inl is }

  -- it takes requests, and of a program what that printed, and its status, which frees a slot
  own_same : (c : Channel) (p : Port) (change : Pipe → Pipe) (programs : List ℕ → ℕ → Option Tenant)
      → IsSameLink w (record { pipes = put_pipe w.pipes (Some (mouth (spawner_name c) p)) change; programs = programs; slots = w.slots })
  own_same channel.Local p change programs = record { given = refl; answers = refl }
  own_same channel.Remote p change programs = record { given = refl; answers = refl }

  takes_same : (c : Channel) (p : Port) (came : GotData) → IsSameLink w (pipework_after w (spawner_name c) (needs.Take p) came wrote)
  takes_same c p (got.Took bytes) = own_same c p (taken bytes) (programs_after w.programs (spawner_name c) (needs.Take p) (got.Took bytes))
  takes_same c p came = record { given = refl; answers = refl }

  takes_slots : (c : Channel) (p : Port) (came : GotData) → RunsNoMore w (pipework_after w (spawner_name c) (needs.Take p) came wrote)
  takes_slots c (port.Status d) (got.Ended status) b e t is = slot_put (bytes_eq b (spawner_name c) && (e == d)) b (w.programs b e) None t (λ both. inl refl) is
  takes_slots c (port.Status d) got.Crashed b e t is = slot_put (bytes_eq b (spawner_name c) && (e == d)) b (w.programs b e) None t (λ both. inl refl) is
  takes_slots c p came b e t is = inl is

  pub took_from : (c : Channel) (p : Port) (came : GotData) → Then c (needs.Take p) came
  took_from c p came = record { link = takes_same c p came; none = takes_slots c p came }

  started : (c : Channel) (asked : ChildData) (came : GotData) → Starts c asked → Then c (needs.Start asked) came
  started channel.Local (child.Local slot words uid) came it = record { link = record { given = refl; answers = refl }; none = λ b e t is. inl is }
  started channel.Local asked came it = absurd it
  started channel.Remote (child.Remote slot domain sender recipient) (got.Started pid) it = record {
    link = record { given = refl; answers = refl };
    none = λ b e t is. slot_put (bytes_eq b (codes "rspawn") && (e == slot)) b (w.programs b e) (Some (Remote false)) t
        (λ both. inr (false, refl, slot_named b (codes "rspawn") (e == slot) both)) is;
  }
  started channel.Remote (child.Remote slot domain sender recipient) came it = record { link = record { given = refl; answers = refl }; none = λ b e t is. inl is }
  started channel.Remote asked came it = absurd it

  -- what it gives to a program no member takes
  fed : (c : Channel) → ((d : ℕ) (b : List ℕ) → w.programs (spawner_name c) d ≡ Some (Runs b) → b ≢ codes "clean") → (d : ℕ) (bytes : List ℕ) (came : GotData)
      → Then c (needs.Give (port.Program d) bytes) came
  fed c apart d bytes got.Gave = record { link = input_same w (spawner_name c) apart d (λ pipe. closed_pipe (given_pipe bytes pipe)); none = λ b e t is. inl is }
  fed c apart d bytes got.Failed = record { link = input_same w (spawner_name c) apart d (λ pipe. closed_pipe (given_pipe (take wrote bytes) pipe)); none = λ b e t is. inl is }
  fed c apart d bytes came = record { link = record { given = refl; answers = refl }; none = λ b e t is. inl is }

-- An event

abbrev pub IsNoFile : NeedData → Type 0
IsNoFile (needs.File c) = ⊥
IsNoFile due = Unit {0}

-- a file call is answered
pub answered : (s : State) (a : List ℕ) (wrote : ℕ) (P : GotData → Type 0) (c : CallData) (came : GotData) → ComesOf s a (needs.File c) came wrote
    → ((told : Told) → ComesOf s a (needs.File c) (got.Answered told) wrote → P (got.Answered told)) → P came
answered s a wrote P c (got.Answered told) comes go = go told comes
answered s a wrote P c (got.Took bytes) comes go = absurd comes
answered s a wrote P c got.End comes go = absurd comes
answered s a wrote P c (got.Ended status) comes go = absurd comes
answered s a wrote P c got.Crashed comes go = absurd comes
answered s a wrote P c got.Gave comes go = absurd comes
answered s a wrote P c (got.Started pid) comes go = absurd comes
answered s a wrote P c got.Failed comes go = absurd comes
answered s a wrote P c got.Memory comes go = absurd comes

-- the state after it
module _ (s : State) (wrote : ℕ) (began : ℕ) (past : List Own) (own : Own) where
  abbrev doing : NeedData → GotData → Own
  doing due came = record { read = own.read; ready = own.ready; due = due; came = came }

  abbrev spawner : Channel → List Own → Actor
  spawner c events = record { program = runs_as c began; past = events; life = Alive }

  abbrev pub then_state : Channel → NeedData → GotData → State
  then_state c due came = acted s (spawner_name c) (doing due came) wrote (Some (spawner c past))

  -- what is no file call changes pipes alone
  acted_moves : (c : Channel) (due : NeedData) (came : GotData) → IsNoFile due
      → then_state c due came ≡ with_one s (spawner_name c) (spawner c (doing due came ∷ past)) (pipework_after s.pipework (spawner_name c) due came wrote)
  acted_moves channel.Local (needs.File call) came calm = absurd calm
  acted_moves channel.Local due came calm = refl
  acted_moves channel.Remote (needs.File call) came calm = absurd calm
  acted_moves channel.Remote due came calm = refl

  module _ (I : Inv s) (c : Channel) (is : s.actors (spawner_name c) ≡ Some (spawner c past)) where
    abbrev name : List ℕ
    name = spawner_name c

    abbrev q : Queue
    q = queue s I.role

    -- it has what it rests on
    abbrev pub FaresSo : Queue → NeedData → GotData → Type 0
    FaresSo r due came = FaresBy s.now r name (runs_as c began) (doing due came ∷ past) Alive

    seen : (more : List Own) → IsSeenAs (s.actors name) (spawner c more)
    seen more = subst (λ (o : Option Actor). IsSeenAs o (spawner c more)) (sym is) (seen_on c began past more)

    goes : GoesOn (s.actors name) (runs_as c began)
    goes = subst (λ (o : Option Actor). GoesOn o (runs_as c began)) (sym is) refl

    pub moves : (due : NeedData) (came : GotData) → IsNoFile due → FaresSo q due came → IsApart s.pipework (pipework_after s.pipework name due came wrote) → Inv (then_state c due came)
    moves due came calm fares apart =
        subst (λ (t : State). Inv t) (sym (acted_moves c due came calm))
        (moved_keeps s I name (spawner c (doing due came ∷ past)) (pipework_after s.pipework name due came wrote) (named c began) fares (seen (doing due came ∷ past)) apart.link goes
        (gives_any c began (with_one s name (spawner c (doing due came ∷ past)) (pipework_after s.pipework name due came wrote)) name (doing due came ∷ past) Alive) apart.none refl)

    -- a file call, which only reads
    read_state : (d : Channel) (call : CallData) (told : Told)
        → then_state d (needs.File call) (got.Answered told)
        ≡ stepped s (spawner_name d) (called_queue q (spawner_name d) own.read call told.answer wrote I.role) (spawner d (doing (needs.File call) (got.Answered told) ∷ past))
    read_state channel.Local call told = refl
    read_state channel.Remote call told = refl

    answered_keeps : (call : CallData) (told : Told) → OnlyReads q name call → Fits s.disk call told.answer wrote
        → FaresSo (called_queue q name own.read call told.answer wrote I.role) (needs.File call) (got.Answered told) → Inv (then_state c (needs.File call) (got.Answered told))
    answered_keeps call told only fits fares =
        let r : Queue = called_queue q name own.read call told.answer wrote I.role in
        let l = reads_keep s.now q name I.sound own.read call told.answer wrote only fits in
        let spared = rest_is_kept.closed s.now name None q r l.elsewhere I.sound.suits (λ n h. absurd (cc)) in
        let event : Own = doing (needs.File call) (got.Answered told) in
        subst (λ (t : State). Inv t) (sym (read_state c call told))
        (stepped_keeps s I name r None l.elsewhere spared.0 spared.1 (others_spare.reads s.now name q r l.elsewhere)
        (drops_stay.tmp name q r (drops_stay.outside name q r l.outside l.old)) l.sound I.bounces (spawner c (event ∷ past)) (named c began) goes (seen (event ∷ past))
        (gives_any c began (stepped s name r (spawner c (event ∷ past))) name (event ∷ past) Alive) fares)

    pub reads : (call : CallData) → OnlyReads q name call
        → ((told : Told) → Fits s.disk call told.answer wrote → FaresSo (called_queue q name own.read call told.answer wrote I.role) (needs.File call) (got.Answered told))
        → (came : GotData) → ComesOf s name (needs.File call) came wrote → Inv (then_state c (needs.File call) came)
    reads call only fares came comes = answered s name wrote (λ (g : GotData). Inv (then_state c (needs.File call) g)) call came comes
        (λ told comes. answered_keeps call told only comes.0 (fares told comes.0))

    -- as it serves requests, by the row at which it is
    module _ (kind : Kind) (good : IsKind kind) (asked : ChildData) (starts : Starts c asked) (p : Place)
        (fares : (r : Queue) (due : NeedData) (came : GotData) → SpawnerHolds r name (act kind (row_now p own.ready) came p).row → FaresSo r due came) where
      abbrev here : Row
      here = row_now p own.ready

      went : (row : Row) (due : NeedData) (came : GotData) → here ≡ row → IsNoFile due → SpawnerHolds q name (act kind row came p).row
          → IsApart s.pipework (pipework_after s.pipework name due came wrote) → Inv (then_state c due came)
      went row due came e calm h apart = moves due came calm (fares q due came (subst (λ (x : Row). SpawnerHolds q name (act kind x came p).row) (sym e) h)) apart

      called : (row : Row) (call : CallData) → here ≡ row → OnlyReads q name call
          → ((told : Told) → Fits s.disk call told.answer wrote → SpawnerHolds (called_queue q name own.read call told.answer wrote I.role) name (act kind row (got.Answered told) p).row)
          → (came : GotData) → ComesOf s name (needs.File call) came wrote → Inv (then_state c (needs.File call) came)
      called row call e only holds came comes = reads call only
          (λ told fits. let r : Queue = called_queue q name own.read call told.answer wrote I.role in
          fares r (needs.File call) (got.Answered told) (subst (λ (x : Row). SpawnerHolds r name (act kind x (got.Answered told) p).row) (sym e) (holds told fits))) came comes

      -- a program is started, or can't be
      pub starting : (came : GotData) → here ≡ at.Start → Inv (then_state c (needs.Start asked) came)
      starting came e = went at.Start (needs.Start asked) came e tt (launched_holds q name kind.unstarted came p) (started s.pipework wrote c asked came starts)

      by_row : (row : Row) (came : GotData) → here ≡ row → SpawnerHolds q name row → ComesOf s name (due_at asked row p) came wrote → Inv (then_state c (due_at asked row p) came)
      by_row at.Greet came e h comes = went at.Greet (needs.Give port.Output greeting) came e tt (gave_holds q name came p) (reported s.pipework wrote c greeting came)
      by_row at.Idle came e h comes = absurd comes
      by_row at.TakeInput came e h comes = went at.TakeInput (needs.Take port.Input) came e tt (took_holds q name came p) (took_from s.pipework wrote c port.Input came)
      by_row at.OpenMess came e h comes = called at.OpenMess (call.Open p.name how.Read) e tt (λ told fits. opened_holds q name own.read wrote p p.name told.answer fits) came comes
      by_row (at.ReadMess fd) came e h comes =
          called (at.ReadMess fd) (call.ReadAt fd (length p.message) PIECE) e tt (λ told fits. read_holds q name own.read wrote p fd (length p.message) told.answer told.bytes fits h) came comes
      by_row (at.CloseMess fd whole) came e h comes =
          called (at.CloseMess fd whole) (call.Close fd) e h.1.held
          (λ told fits. closed_holds (called_queue q name own.read (call.Close fd) told.answer wrote I.role) name kind good whole p) came comes
      by_row at.Start came e h comes = starting came e
      by_row at.Feed came e h comes =
          went at.Feed (needs.Give (port.Program p.request.slot) p.message) came e tt (next_holds q name p) (fed s.pipework wrote c (tenant_other s I.tenants name) p.request.slot p.message came)
      by_row (at.TakeOutput slot) came e h comes =
          went (at.TakeOutput slot) (needs.Take (port.Program slot)) came e tt (printed_holds q name slot came p) (took_from s.pipework wrote c (port.Program slot) came)
      by_row (at.TakeStatus slot) came e h comes = went (at.TakeStatus slot) (needs.Take (port.Status slot)) came e tt tt (took_from s.pipework wrote c (port.Status slot) came)
      by_row at.Report came e h comes = went at.Report (needs.Give port.Output p.report) came e tt (gave_holds q name came p) (reported s.pipework wrote c p.report came)
      by_row (at.Ended code) came e h comes = absurd comes

      pub serves : SpawnerHolds q name p.row → due_at asked here p ≡ own.due → ComesOf s name own.due own.came wrote → Inv (then_state c own.due own.came)
      serves h due comes =
          subst (λ (z : NeedData). Inv (then_state c z own.came)) due
          (by_row here own.came refl (arrive_holds q name p.row p own.ready h) (subst (λ (z : NeedData). ComesOf s name z own.came wrote) (sym due) comes))
