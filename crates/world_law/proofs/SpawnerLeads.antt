-- Where an event of the local spawner leads that starts nothing, by the row at which it is: it holds nothing of a message, or that of the request at
-- work as far as it has come with it.
use Rattle.std.specs.Prelude.{nat_lt}
use Rattle.std.proofs.Common.{◌≡◌, ◌≢◌, ℕ, List, [], ◌++◌, length, set, Bool, true, false, if◌then◌else◌, Option, Some, None, refl, sym, ap, ◌∙◌, subst, codes}
use Rattle.std.proofs.lemmas.List.{get_or-set_other}
use Rattle.call_fs.specs.declared.calls.Answer.{Answer}
use Rattle.call_fs.specs.declared.calls.Answer.TheVariants as answer
use Rattle.call_fs.specs.declared.calls.Fd.{Fd}
use Rattle.call_fs.specs.declared.calls.FsError.TheVariants as why
use Rattle.call_fs.specs.declared.file_system.TheConstants.{PIECE}
use Rattle.call_fs.specs.declared.past.ChildData.{ChildData}
use Rattle.call_fs.specs.declared.past.GotData.{GotData}
use Rattle.call_fs.specs.declared.past.GotData.TheVariants as got
use Rattle.call_fs.specs.declared.past.NeedData.TheVariants as needs
use Rattle.call_fs.specs.declared.program.Port.TheVariants as port
use Rattle.call_fs.specs.declared.program.Ready.{Ready}
use Rattle.local_spawn.specs.declared.delivery.Delivery.{Delivery}
use Rattle.local_spawn.specs.declared.place.Place.{Place as LocalPlace}
use Rattle.local_spawn.specs.declared.row.Row.{Row as LocalRow}
use Rattle.local_spawn.specs.declared.row.Row.TheVariants as local
use Rattle.mail_bytes.specs.Netstring.{netstring}
use Rattle.local_spawn.specs.Table.{due_at as local_due_at, due_from, readied_by}
use Rattle.program_law.specs.Post.Posts.{Task}
use Rattle.program_law.proofs.Post.Sums.{not_running}
use Rattle.program_law.proofs.Post.Works.{arrives}
use Rattle.queue_law.specs.Injectors.{IsHeld}
use Rattle.queue_paths.specs.Names.{split_text}
use Rattle.queue_states.specs.declared.state.State.TheVariants.{S5}
use Rattle.queue_states.specs.States.{state_of}
use Rattle.spawn_protocol.specs.Inbox.{pull, with_more}
use Rattle.spawn_protocol.specs.declared.request.Request.{Request}
use Rattle.spawner_parts.specs.declared.place.Place.{Place}
use Rattle.spawner_parts.specs.declared.row.Row.{Row}
use Rattle.spawner_parts.specs.declared.row.Row.TheVariants as at
use Rattle.spawner_parts.specs.Asked.{is_bad, runs_in}
use Rattle.spawner_parts.specs.Table.{answers, arrive, bad_request, exited, fed, gave, heeded, launched, next_request, no_memory, opened_by}
use Rattle.spawner_parts.specs.Table.{opens, printed, read_by, read_row, reports, row_now, took, unable}
use Rattle.mail_world.specs.History.{State}
use Rattle.world_law.specs.Entered.{IsEntered}
use Rattle.world_law.proofs.EnteredStands.{HoldsMessage, HoldsText, has_message, reads}
use Rattle.world_law.proofs.MessageSteps.{HasFile, IsReadOn, opened_text, read_text}
use Rattle.world_law.proofs.PostServes.{StartsNone}

-- At which row it was

-- between two steps it holds nothing of a message
none_between : (p : Place) (ready : Ready) → has_message (arrive at.Idle p ready) ≡ false
none_between p ready = arrives (λ (row : Row). has_message row ≡ false) p refl refl (λ code. refl) (λ slot run. refl) ready

row_was : (row : Row) (p : Place) (ready : Ready) → has_message (arrive row p ready) ≡ true → arrive row p ready ≡ row
row_was at.Idle p ready has = let both : true ≡ false = sym has ∙ none_between p ready in absurd (cc)
row_was row p ready has = refl

pub at_row : (row : Row) (p : Place) (ready : Ready) → row_now p ready ≡ row → has_message row ≡ true → p.row ≡ row
at_row row p ready e has = sym (row_was p.row p ready (ap has_message e ∙ has)) ∙ e

-- nor does it take a status
status_was : (row : Row) (p : Place) (ready : Ready) (slot : ℕ) → arrive row p ready ≡ at.TakeStatus slot → row ≡ at.TakeStatus slot
status_was at.Idle p ready slot is = absurd (arrives (λ (row : Row). row ≡ at.TakeStatus slot → ⊥) p (λ e. cc) (λ e. cc) (λ code e. cc) (λ d run e. cc) ready is)
status_was row p ready slot is = is

status_due : (row : Row) (p : LocalPlace) (slot : ℕ) → due_from row p ≡ needs.Take (port.Status slot) → row ≡ at.TakeStatus slot
status_due (at.TakeStatus k) p slot e = let same : k ≡ slot = cc in ap at.TakeStatus same
status_due row p slot e = absurd (cc)

pub status_row : (row : LocalRow) (ready : Ready) (p : LocalPlace) (slot : ℕ) → local_due_at row ready p ≡ needs.Take (port.Status slot) → p.work.row ≡ at.TakeStatus slot
status_row local.Serves ready p slot e = status_was p.work.row p.work ready slot (status_due (row_now p.work ready) p slot e)
status_row row ready p slot e = absurd (cc)

-- Requests: a request that is taken up, whatever becomes of the message before

abbrev emptied : Place → Place
emptied p = record p { message = [] }

emptied_up : (b : Bool) (r : Request) (p : Place)
    → emptied (if b then reports bad_request r.slot p else opens r p) ≡ (if b then reports bad_request r.slot (emptied p) else opens r (emptied p))
emptied_up true r p = refl
emptied_up false r p = refl

emptied_heeds : (o : Option Request) (p : Place) → emptied (heeded o p) ≡ heeded o (emptied p)
emptied_heeds None p = refl
emptied_heeds (Some r) p = emptied_up (is_bad p.running r) r p

-- of those that run none is more
less_run : (running : List Bool) (slot k : ℕ) → runs_in (set running slot false) k ≡ true → runs_in running k ≡ true
less_run running slot k run = sym (get_or-set_other running slot k false false apart) ∙ run
  where
    apart : k ≢ slot
    apart e = let none : runs_in (set running slot false) k ≡ false = ap (runs_in (set running slot false)) e ∙ not_running running slot in absurd (cc)

piece_unfed : (b : Bool) (fd : Fd) → (if b then at.CloseMess fd true else at.ReadMess fd) ≢ at.Feed
piece_unfed true fd e = cc
piece_unfed false fd e = cc

-- Where an event leads that starts nothing, from what ran before: none runs more, and if the number of the request at work stays, the message is
-- held.

-- the message of this request is in S5
pub record IsAsked (s : State) (r : Request) : Type 0 where
  pub n : ℕ
  pub mess : r.mess ≡ split_text n
  pub stays : state_of s.disk n ≡ S5

pub record Leads (t : State) (tasks : ℕ → Option Task) (running : List Bool) (q : Place) : Type 0 where
  pub runs : (slot : ℕ) → runs_in q.running slot ≡ true → runs_in running slot ≡ true
  pub holds : (has_message q.row ≡ true → IsAsked t q.request) → has_message q.row ≡ true → HoldsMessage t tasks q
  pub unfed : q.row ≢ at.Feed

module _ (t : State) (tasks : ℕ → Option Task) where
  abbrev Then : List Bool → Place → Type 0
  Then running q = Leads t tasks running q

  -- to a row with no message
  pub at_none : (running : List Bool) (q : Place) → ((slot : ℕ) → runs_in q.running slot ≡ true → runs_in running slot ≡ true) → has_message q.row ≡ false → Then running q
  at_none running q runs none = record {
    runs = runs;
    holds = λ asked has. let both : true ≡ false = sym has ∙ none in absurd (cc);
    unfed = λ is. let both : true ≡ false = ap has_message (sym is) ∙ none in absurd (cc);
  }

  pub launched_leads : (asked : ChildData) (report : List ℕ) (came : GotData) (p : Place) → StartsNone (needs.Start asked) came → Then p.running (launched report came p)
  launched_leads asked report (got.Started pid) p none = absurd none
  launched_leads asked report got.Memory p none = at_none p.running (answers no_memory p) (λ slot run. run) refl
  launched_leads asked report came p none = at_none p.running (answers report p) (λ slot run. run) refl

  pub printed_leads : (slot : ℕ) (came : GotData) (p : Place) → Then p.running (printed slot came p)
  printed_leads slot (got.Took bytes) p = at_none p.running _ (λ k run. run) refl
  printed_leads slot got.End p = at_none p.running _ (λ k run. run) refl
  printed_leads slot came p = at_none p.running _ (λ k run. run) refl

  pub exited_leads : (slot : ℕ) (report : List ℕ) (p : Place) → Then p.running (exited slot report p)
  exited_leads slot report p = at_none p.running (exited slot report p) (λ k run. less_run p.running slot k run) refl

  -- the next request
  module _ (files : (n : ℕ) → state_of t.disk n ≡ S5 → HasFile t n) where
    takes_up : (b : Bool) (r : Request) (p : Place) → Then p.running (if b then reports bad_request r.slot p else opens r p)
    takes_up true r p = at_none p.running (reports bad_request r.slot p) (λ slot run. run) refl
    takes_up false r p = record {
      runs = λ slot run. run;
      holds = λ asked has.
          let a = asked has in
          let h = files a.n a.stays in
          record { n = a.n; mess = a.mess; message = h.message; is = h.is; holds = (refl, refl) };
      unfed = λ is. cc;
    }

    heeded_leads : (o : Option Request) (p : Place) → Then p.running (heeded o p)
    heeded_leads None p = at_none p.running (record p { row = at.Idle }) (λ slot run. run) refl
    heeded_leads (Some r) p = takes_up (is_bad p.running r) r p

    next_leads : (p : Place) → Then p.running (next_request p)
    next_leads p = let it = pull p.inbox in heeded_leads it.request (record p { inbox = it.inbox })

    pub gave_leads : (came : GotData) (p : Place) → Then p.running (gave came p)
    gave_leads got.Gave p = next_leads p
    gave_leads came p = at_none p.running _ (λ slot run. run) refl

    pub took_leads : (came : GotData) (p : Place) → Then p.running (took came p)
    took_leads (got.Took bytes) p = next_leads (record p { inbox = with_more bytes p.inbox })
    took_leads got.End p = at_none p.running _ (λ slot run. run) refl
    took_leads came p = at_none p.running _ (λ slot run. run) refl

    pub fed_leads : (p : Place) → Then p.running (fed p)
    fed_leads p =
        let it = pull p.inbox in
        let q : Place = record p { inbox = it.inbox } in
        subst (Then p.running) (sym (emptied_heeds it.request q)) (heeded_leads it.request (emptied q))

  -- the message of the request at work
  module _ (n : ℕ) (text : List ℕ) (is : IsEntered t n text) where
    with_text : (running : List Bool) (q : Place) → ((slot : ℕ) → runs_in q.running slot ≡ true → runs_in running slot ≡ true) → q.request.mess ≡ split_text n
        → HoldsText t tasks n text q.row q → q.row ≢ at.Feed → Then running q
    with_text running q runs mess holds unfed =
        record { runs = runs; holds = λ asked has. record { n = n; mess = mess; message = text; is = is; holds = holds }; unfed = unfed }

    pub opened_leads : (told : Answer) (p : Place) → p.request.mess ≡ split_text n → ((fd : Fd) → told ≡ answer.Opened fd → IsHeld t.disk.opens t.holder (codes "lspawn") fd.0 (reads n))
        → p.message ≡ [] → Then p.running (opened_by told p)
    opened_leads (answer.Opened fd) p mess held none =
        with_text p.running (record p { row = at.ReadMess fd }) (λ slot run. run) mess (opened_text t tasks n text (answer.Opened fd) p held none) (λ e. cc)
    opened_leads (answer.Refused why.Memory) p mess held none = at_none p.running (answers no_memory p) (λ slot run. run) refl
    opened_leads told p mess held none = at_none p.running (answers unable p) (λ slot run. run) refl

    pub read_leads : (fd : Fd) (told : Answer) (bytes : List ℕ) (p : Place) → p.request.mess ≡ split_text n → IsHeld t.disk.opens t.holder (codes "lspawn") fd.0 (reads n)
        → ((count : ℕ) → told ≡ answer.Count count → IsReadOn p.message bytes text PIECE) → Then p.running (read_by fd told bytes p)
    read_leads fd (answer.Count count) bytes p mess held pieces =
        with_text p.running (record p { row = read_row fd bytes; message = p.message ++ bytes }) (λ slot run. run) mess
        (read_text t tasks n text fd (answer.Count count) bytes p held pieces) (piece_unfed (nat_lt (length bytes) PIECE) fd)
    read_leads fd told bytes p mess held pieces = with_text p.running (record p { row = at.CloseMess fd false }) (λ slot run. run) mess tt (λ e. cc)

    pub readied_leads : (o : Option Delivery) (report : List ℕ) (p : Place) → p.request.mess ≡ split_text n → p.message ≡ text → Then p.running (readied_by o report p)
    readied_leads None report p mess whole = at_none p.running (answers report p) (λ slot run. run) refl
    readied_leads (Some delivery) report p mess whole =
        with_text p.running (record p { row = at.Start; message = netstring p.message }) (λ slot run. run) mess (ap netstring whole) (λ e. cc)

-- what it holds of the message at a row
pub text_at : (s : State) (tasks : ℕ → Option Task) (p : Place) (row : Row) → p.row ≡ row → (h : HoldsMessage s tasks p) → HoldsText s tasks h.n h.message row p
text_at s tasks p row e h = subst (λ (z : Row). HoldsText s tasks h.n h.message z p) e h.holds
