-- Each request that was pulled out has its report, a program, or is at work.
use Rattle.std.proofs.Common.{◌≡◌, ℕ, ◌+◌, ◌<◌, List, [], ◌∷◌, ◌++◌, length, Bool, true, false, ◌&&◌, if◌then◌else◌, nat_lt, set, replicate, Option, Some, None, refl, sym, ap, ◌∙◌, subst, arith}
use Rattle.std.specs.Prelude.{All, flat_map, slice_index_or}
use Rattle.std.proofs.lemmas.Bool.{false≢true}
use Rattle.std.proofs.lemmas.List.{append-nil, append_assoc, get_or-set_same, length-replicate, length-set}
use Rattle.std.proofs.lemmas.Grind.{flat_map-append}
use Rattle.std.proofs.lemmas.List.Elements.{All-nil, All-push}
use Rattle.call_fs.specs.declared.calls.Answer.{Answer}
use Rattle.call_fs.specs.declared.calls.Answer.TheVariants as answer
use Rattle.call_fs.specs.declared.calls.CallData.TheVariants as call
use Rattle.call_fs.specs.declared.calls.Fd.{Fd}
use Rattle.call_fs.specs.declared.calls.FsError.TheVariants as why
use Rattle.call_fs.specs.declared.calls.How.TheVariants as how
use Rattle.call_fs.specs.declared.past.ChildData.{ChildData}
use Rattle.call_fs.specs.declared.past.GotData.{GotData}
use Rattle.call_fs.specs.declared.past.GotData.TheVariants as came
use Rattle.call_fs.specs.declared.past.NeedData.{NeedData}
use Rattle.call_fs.specs.declared.past.NeedData.TheVariants as needs
use Rattle.call_fs.specs.declared.past.Own.{Own}
use Rattle.call_fs.specs.declared.program.Port.TheVariants as port
use Rattle.call_fs.specs.declared.program.Ready.{Ready}
use Rattle.call_fs.specs.Program.{MayCome}
use Rattle.spawn_protocol.proofs.Cuts.{cut_is}
use Rattle.spawn_protocol.specs.Cut.{Cut, cut}
use Rattle.spawn_protocol.specs.Cut.Cut.{More, Whole, TooLong}
use Rattle.spawn_protocol.specs.Inbox.{pulled, with_more}
use Rattle.spawn_protocol.specs.Report.{numbered}
use Rattle.spawn_protocol.specs.Request.{IsRequest, IsText, IsTooLong, Start, request_text}
use Rattle.spawn_protocol.specs.Request.Reader.{Reading, Refused}
use Rattle.spawn_protocol.specs.declared.inbox.Intake.{Intake}
use Rattle.spawn_protocol.specs.declared.inbox.Intake.TheVariants as intake
use Rattle.spawn_protocol.specs.declared.request.Request.{Request}
use Rattle.spawner_parts.specs.declared.place.Place.{Place}
use Rattle.spawner_parts.specs.declared.row.Row.{Row}
use Rattle.spawner_parts.specs.declared.row.Row.TheVariants as at
use Rattle.spawner_parts.specs.Asked.{is_bad, runs_in}
use Rattle.spawner_parts.specs.Known.{At, AtWork, Counts, IsReport, Reads, Rests, Sums}
use Rattle.spawner_parts.specs.Causes.{end_by, has_end, programs, programs_by, slot_of}
use Rattle.call_fs.specs.Past.{taken, taken_by}
use Rattle.spawner_parts.specs.Counts.{asked, one, reported, reported_by, runs, times, with_report}
use Rattle.spawner_parts.specs.Table.{IsKind, IsReadied, Kind, act, arrive, bad_request, begun, closed, due_at, gave, heeded, is_asked, is_open, next_request, none_runs, opened_by, opens, read_by, ended_by, no_memory, printed, reports, resting, row_now, status_of, took, turning, unable, with_pulled}
use Rattle.spawner_parts.specs.Table.IsReadied.{IsAnswered, IsGiven}
use Rattle.spawner_parts.proofs.Coming.{by_give, by_input, by_program, by_start}
use Rattle.call_fs.proofs.Coming.{by_fit}
use Rattle.spawner_parts.proofs.Tallies.{asked_push, finished, good_slot, none_at_first, read_both, started}

abbrev flat : List Request → List ℕ
flat rs = flat_map request_text rs

-- The next request

one_read : (dealt : List Request) (ahead bytes rest : List ℕ) (r : Request) → All IsRequest dealt → bytes ≡ flat dealt ++ ahead → IsRequest r × (ahead ≡ request_text r ++ rest)
    → All IsRequest (dealt ++ r ∷ []) × (bytes ≡ flat (dealt ++ r ∷ []) ++ rest)
one_read dealt ahead bytes rest r all e so = (
  All-push IsRequest dealt r all so.0,
  e ∙ ap (λ a. flat dealt ++ a) so.1
      ∙ ap (λ t. flat dealt ++ (t ++ rest)) (sym (append-nil (request_text r)))
      ∙ sym (append_assoc (flat dealt) (request_text r ++ []) rest)
      ∙ ap (λ t. t ++ rest) (sym (flat_map-append request_text dealt (r ∷ []))),
)

long_read : (dealt : List Request) (ahead bytes : List ℕ) → All IsRequest dealt → bytes ≡ flat dealt ++ ahead → IsTooLong ahead [] → IsTooLong bytes dealt
long_read dealt ahead bytes all e long =
    subst (λ rs. IsTooLong bytes rs) (append-nil dealt) (read_both dealt [] bytes ahead Refused all e long)

module _ (told : List ℕ) (running : List Bool) (bytes : List ℕ) (ended : Bool) (dealt : List Request) (long : length running ≡ 120) (sums : Sums told running [] dealt) where
  pushed : (r : Request) → Sums told running (r.slot ∷ []) (dealt ++ r ∷ [])
  pushed r slot =
      let more : asked slot (dealt ++ r ∷ []) ≡ one slot r.slot + asked slot dealt = asked_push slot dealt r in
      let old : asked slot dealt ≡ times slot told + runs slot running = sums slot in
      joined (asked slot (dealt ++ r ∷ [])) (one slot r.slot) (asked slot dealt) (times slot told) (runs slot running) more old
    where
      joined : (all first others given busy : ℕ) → all ≡ first + others → others ≡ given + busy → all ≡ (first + given) + busy
      joined all first others given busy e f = omega arith

  heeds : (r : Request) (q : Place) → Reads q.inbox.intake q.inbox.ahead bytes ended (dealt ++ r ∷ []) → q.running ≡ running → Counts told running bytes ended (heeded (Some r) q)
  heeds r q h same = by (is_bad q.running r) refl where
    by : (b : Bool) → is_bad q.running r ≡ b → Counts told running bytes ended (if b then reports bad_request r.slot q else opens r q)
    by true is = record {
      dealt = dealt ++ r ∷ [];
      owed = r.slot ∷ [];
      reads = h;
      same = same;
      long = long;
      sums = pushed r;
      at = record { slot = r.slot; text = bad_request; is = refl; owes = refl };
    }
    by false is = record {
      dealt = dealt ++ r ∷ [];
      owed = r.slot ∷ [];
      reads = h;
      same = same;
      long = long;
      sums = pushed r;
      at = record { owes = refl; before = dealt; last = refl; good = is };
    }

  by_cut : (c : Cut) (ahead : List ℕ) (q : Place) → cut ahead ≡ c → Reads intake.Open ahead bytes ended dealt → q.running ≡ running
      → Counts told running bytes ended (with_pulled (pulled c (record { ahead = ahead; intake = intake.Open })) q)
  by_cut More ahead q is h same = record { dealt = dealt; owed = []; reads = h; same = same; long = long; sums = sums; at = (refl, is) }
  by_cut (Whole r rest) ahead q is h same =
      let new = one_read dealt ahead bytes rest r h.0 h.1 ((cut_is ahead (Whole r rest)).0 is) in
      heeds r (record q { inbox = record { ahead = rest; intake = intake.Open } }) (new.0, new.1, h.2) same
  by_cut TooLong ahead q is h same = record {
    dealt = dealt;
    owed = [];
    reads = (refl, h.2, long_read dealt ahead bytes h.0 h.1 ((cut_is ahead TooLong).0 is));
    same = same;
    long = long;
    sums = sums;
    at = (refl, tt);
  }

  by_intake : (state : Intake) (ahead : List ℕ) (q : Place) → Reads state ahead bytes ended dealt → q.running ≡ running
      → Counts told running bytes ended (with_pulled (pulled (cut ahead) (record { ahead = ahead; intake = state })) q)
  by_intake intake.Open ahead q h same = by_cut (cut ahead) ahead q refl h same
  by_intake intake.Ended ahead q h same =
      subst (λ a. Counts told running bytes ended (with_pulled (pulled (cut a) (record { ahead = a; intake = intake.Ended })) q)) (sym h.0)
      (record { dealt = dealt; owed = []; reads = (refl, h.1, h.2); same = same; long = long; sums = sums; at = (refl, tt) })
  by_intake intake.TooLong ahead q h same =
      subst (λ a. Counts told running bytes ended (with_pulled (pulled (cut a) (record { ahead = a; intake = intake.TooLong })) q)) (sym h.0)
      (record { dealt = dealt; owed = []; reads = (refl, h.1, h.2); same = same; long = long; sums = sums; at = (refl, tt) })

  next_counts : (q : Place) → Reads q.inbox.intake q.inbox.ahead bytes ended dealt → q.running ≡ running → Counts told running bytes ended (next_request q)
  next_counts q h same = by_intake q.inbox.intake q.inbox.ahead q h same

-- a report is told by its slot
pub told_slot : (slot : ℕ) (text told : List ℕ) → with_report (numbered slot text) told ≡ slot ∷ told
told_slot slot [] told = refl
told_slot slot (letter ∷ text) told = refl

-- A step

moved_on : (p : Place) (owed : List ℕ) (dealt : List Request) (row : Row) (message : List ℕ) → AtWork p owed dealt → AtWork (record p { row = row; message = message }) owed dealt
moved_on p owed dealt row message w = record { owes = w.owes; before = w.before; last = w.last; good = w.good }

no_message : (row : Row) (q : Place) (owed : List ℕ) (dealt : List Request) → At row q owed dealt → At row (record q { message = [] }) owed dealt
no_message at.Greet q owed dealt a = a
no_message at.Idle q owed dealt a = a
no_message at.TakeInput q owed dealt a = a
no_message at.OpenMess q owed dealt a = moved_on q owed dealt q.row [] a
no_message (at.ReadMess fd) q owed dealt a = moved_on q owed dealt q.row [] a
no_message (at.CloseMess fd whole) q owed dealt a = moved_on q owed dealt q.row [] a
no_message at.Start q owed dealt a = moved_on q owed dealt q.row [] a
no_message at.Feed q owed dealt a = a
no_message (at.TakeOutput slot) q owed dealt a = a
no_message (at.TakeStatus slot) q owed dealt a = a
no_message at.Report q owed dealt a = record { slot = a.slot; text = a.text; is = a.is; owes = a.owes }
no_message (at.Ended code) q owed dealt a = tt

without_message : (told : List ℕ) (running : List Bool) (bytes : List ℕ) (ended : Bool) (q : Place) → Counts told running bytes ended q → Counts told running bytes ended (record q { message = [] })
without_message told running bytes ended q c = record {
  dealt = c.dealt;
  owed = c.owed;
  reads = c.reads;
  same = c.same;
  long = c.long;
  sums = c.sums;
  at = no_message q.row q c.owed c.dealt c.at;
}

-- a program is started: its request is no longer at work, and runs
launch_sum : (all first given busy now : ℕ) → all ≡ (first + given) + busy → now ≡ first + busy → all ≡ given + now
launch_sum all first given busy now e f = omega arith

-- a program has ended: its report is owed
exit_sum : (all first given busy now : ℕ) → all ≡ given + busy → first + now ≡ busy → all ≡ (first + given) + now
exit_sum all first given busy now e f = omega arith

module _ (kind : Kind) (good : IsKind kind) (program : ChildData) (told : List ℕ) (running : List Bool) (bytes : List ℕ) (ended : Bool) (p : Place) (here : slot_of program ≡ p.request.slot)
    (dealt : List Request) (owed : List ℕ)
    (reads : Reads p.inbox.intake p.inbox.ahead bytes ended dealt) (same : p.running ≡ running) (long : length running ≡ 120) (sums : Sums told running owed dealt) where
  abbrev After : NeedData → GotData → Place → Type 0
  After due got q = Counts (reported_by told due got) (programs_by running due got) (taken_by bytes due got) (end_by ended due got) q

  abbrev Step : Row → GotData → Type 0
  Step row got = After (due_at program row p) got (act kind row got p)

  abbrev Stays : Place → Type 0
  Stays q = Counts told running bytes ended q

  keep : (q : Place) → Reads q.inbox.intake q.inbox.ahead bytes ended dealt → q.running ≡ running → At q.row q owed dealt → Stays q
  keep q h s a = record { dealt = dealt; owed = owed; reads = h; same = s; long = long; sums = sums; at = a }

  no_sums : owed ≡ [] → Sums told running [] dealt
  no_sums none = subst (λ o. Sums told running o dealt) none sums

  -- the request at work is answered
  answered : (report : List ℕ) → AtWork p owed dealt → Stays (reports report p.request.slot p)
  answered report w = keep (reports report p.request.slot p) reads same (record { slot = p.request.slot; text = report; is = refl; owes = w.owes })

  opening : (it : Answer) → AtWork p owed dealt → Stays (opened_by it p)
  opening (answer.Opened fd) w = keep (record p { row = at.ReadMess fd }) reads same (moved_on p owed dealt (at.ReadMess fd) p.message w)
  opening (answer.Created fd number) w = answered unable w
  opening (answer.Count count) w = answered unable w
  opening answer.Done w = answered unable w
  opening (answer.Stat stat) w = answered unable w
  opening (answer.Name name) w = answered unable w
  opening answer.NoName w = answered unable w
  opening (answer.Refused why.NotThere) w = answered unable w
  opening (answer.Refused why.Exists) w = answered unable w
  opening (answer.Refused why.Fault) w = answered unable w
  opening (answer.Refused why.Memory) w = answered no_memory w

  unread : (fd : Fd) → AtWork p owed dealt → Stays (record p { row = at.CloseMess fd false })
  unread fd w = keep (record p { row = at.CloseMess fd false }) reads same (moved_on p owed dealt (at.CloseMess fd false) p.message w)

  reading : (fd : Fd) (it : Answer) (read : List ℕ) → AtWork p owed dealt → Stays (read_by fd it read p)
  reading fd (answer.Count count) read w = by (nat_lt (length read) 8192) where
    by : (b : Bool) → Stays (record p { row = if b then at.CloseMess fd true else at.ReadMess fd; message = p.message ++ read })
    by true = keep (record p { row = at.CloseMess fd true; message = p.message ++ read }) reads same (moved_on p owed dealt (at.CloseMess fd true) (p.message ++ read) w)
    by false = keep (record p { row = at.ReadMess fd; message = p.message ++ read }) reads same (moved_on p owed dealt (at.ReadMess fd) (p.message ++ read) w)
  reading fd (answer.Created to number) read w = unread fd w
  reading fd (answer.Opened to) read w = unread fd w
  reading fd answer.Done read w = unread fd w
  reading fd (answer.Stat stat) read w = unread fd w
  reading fd (answer.Name name) read w = unread fd w
  reading fd answer.NoName read w = unread fd w
  reading fd (answer.Refused why) read w = unread fd w

  readied : (q : Place) → IsReadied kind.given p q → AtWork p owed dealt → Stays q
  readied q (IsAnswered report e) w = subst Stays (sym e) (answered report w)
  readied q (IsGiven e) w = subst Stays (sym e) (keep (record p { row = at.Start; message = kind.given p.message }) reads same (moved_on p owed dealt at.Start (kind.given p.message) w))

  closing : (whole : Bool) → AtWork p owed dealt → Stays (closed kind whole p)
  closing true w = readied (kind.readied p) (good p) w
  closing false w = answered unable w

  greeting : owed ≡ [] → (got : GotData) → MayCome (needs.Give port.Output (120 ∷ [])) got → Step at.Greet got
  greeting none got may = by_give port.Output (120 ∷ []) (Step at.Greet)
      (next_counts told running bytes ended dealt long (no_sums none) p reads same)
      (keep (gave came.Failed p) reads same tt) got may

  reporting : IsReport p owed → (got : GotData) → MayCome (needs.Give port.Output p.report) got → Step at.Report got
  reporting r got may = by_give port.Output p.report (Step at.Report)
      (next_counts (with_report p.report told) running bytes ended dealt long given p reads same)
      (keep (gave came.Failed p) reads same tt) got may
    where
      is_told : owed ++ told ≡ with_report p.report told
      is_told = ap (λ o. o ++ told) r.owes ∙ sym (told_slot r.slot r.text told) ∙ ap (λ t. with_report t told) (sym r.is)

      given : Sums (with_report p.report told) running [] dealt
      given = subst (λ t. (slot : ℕ) → asked slot dealt ≡ times slot t + runs slot running) is_told sums

  taking : (owed ≡ []) × (p.inbox.intake ≡ intake.Open) × (cut p.inbox.ahead ≡ More) → (got : GotData) → MayCome (needs.Take port.Input) got → Step at.TakeInput got
  taking a got may = by_input (Step at.TakeInput) more ends (keep (took came.Failed p) reads same tt) got may where
    early : Reads intake.Open p.inbox.ahead bytes ended dealt
    early = subst (λ i. Reads i p.inbox.ahead bytes ended dealt) a.1 reads

    first : (start : Start) × IsText p.inbox.ahead [] start
    first = (cut_is p.inbox.ahead More).0 a.2

    more : (read : List ℕ) → Step at.TakeInput (came.Took read)
    more read = next_counts told running (bytes ++ read) ended dealt long (no_sums a.0) (record p { inbox = with_more read p.inbox })
        (subst (λ i. Reads i (p.inbox.ahead ++ read) (bytes ++ read) ended dealt) (sym a.1)
        (early.0, ap (λ t. t ++ read) early.1 ∙ append_assoc (flat dealt) p.inbox.ahead read, early.2)) same

    ends : Step at.TakeInput came.End
    ends = record {
      dealt = dealt;
      owed = [];
      reads = (refl, refl, (first.0, subst (λ rs. IsText bytes rs first.0) (append-nil dealt) (read_both dealt [] bytes p.inbox.ahead (Reading first.0) early.0 early.1 first.1)));
      same = same;
      long = long;
      sums = no_sums a.0;
      at = (refl, tt);
    }

  launching : AtWork p owed dealt → (got : GotData) → MayCome (needs.Start program) got → Step at.Start got
  launching w got may = by_start program (Step at.Start) goes (answered kind.unstarted w) (answered no_memory w) got may
    where
      free : (p.request.slot < 120) × (runs_in p.running p.request.slot ≡ false)
      free = good_slot p.running p.request w.good

      below : p.request.slot < length running
      below = subst (λ n. p.request.slot < n) (sym long) free.0

      now : Sums told (set running p.request.slot true) [] dealt
      now slot =
          let old : asked slot dealt ≡ (one slot p.request.slot + times slot told) + runs slot running = subst (λ o. Sums told running o dealt) w.owes sums slot in
          let new = started slot p.request.slot running below (ap (λ r. runs_in r p.request.slot) (sym same) ∙ free.1) in
          launch_sum (asked slot dealt) (one slot p.request.slot) (times slot told) (runs slot running) (runs slot (set running p.request.slot true)) old new

      runs_now : Counts told (set running p.request.slot true) bytes ended (record p { row = at.Feed; running = set p.running p.request.slot true })
      runs_now = record {
        dealt = dealt;
        owed = [];
        reads = reads;
        same = ap (λ r. set r p.request.slot true) same;
        long = length-set running p.request.slot true ∙ long;
        sums = now;
        at = (refl, get_or-set_same p.running p.request.slot true false (subst (λ r. p.request.slot < length r) (sym same) below));
      }

      goes : (pid : ℕ) → Step at.Start (came.Started pid)
      goes pid = subst (λ s. Counts told (set running s true) bytes ended (record p { row = at.Feed; running = set p.running p.request.slot true })) (sym here) runs_now

  feeding : owed ≡ [] → (got : GotData) → Step at.Feed got
  feeding none got = without_message told running bytes ended (next_request p) (next_counts told running bytes ended dealt long (no_sums none) p reads same)

  printing : (slot : ℕ) → (owed ≡ []) × (runs_in p.running slot ≡ true) → (got : GotData) → MayCome (needs.Take (port.Program slot)) got → Step (at.TakeOutput slot) got
  printing slot a got may = by_program slot (Step (at.TakeOutput slot))
      (λ more. keep (printed slot (came.Took more) p) reads same a)
      (keep (printed slot came.End p) reads same a)
      (keep (printed slot came.Failed p) reads same tt) got may

  exiting : (slot : ℕ) → (owed ≡ []) × (runs_in p.running slot ≡ true) → (got : GotData) → Step (at.TakeStatus slot) got
  exiting slot a got = record {
    dealt = dealt;
    owed = slot ∷ [];
    reads = reads;
    same = ap (λ r. set r slot false) same;
    long = length-set running slot false ∙ long;
    sums = λ s. exit_sum (asked s dealt) (one s slot) (times s told) (runs s running) (runs s (set running slot false)) (no_sums a.0 s)
        (finished s slot running (ap (λ r. runs_in r slot) (sym same) ∙ a.1));
    at = record { slot = slot; text = kind.ended (status_of got) p.output; is = refl; owes = refl };
  }

  step : (row : Row) (got : GotData) → At row p owed dealt → MayCome (due_at program row p) got → Step row got
  step at.Greet got a may = greeting a.0 got may
  step at.Idle got a may = absurd may
  step at.TakeInput got a may = taking a got may
  step at.OpenMess got a may = by_fit (call.Open p.name how.Read) (Step at.OpenMess) got may (λ it fit. opening it.answer a)
  step (at.ReadMess fd) got a may = by_fit (call.ReadAt fd (length p.message) 8192) (Step (at.ReadMess fd)) got may (λ it fit. reading fd it.answer it.bytes a)
  step (at.CloseMess fd whole) got a may = closing whole a
  step at.Start got a may = launching a got may
  step at.Feed got a may = feeding a.0 got
  step (at.TakeOutput slot) got a may = printing slot a got may
  step (at.TakeStatus slot) got a may = exiting slot a got
  step at.Report got a may = reporting a got may
  step (at.Ended code) got a may = absurd may

-- Where a step comes from

open_by : (state : Intake) (links : Bool) (ahead : List ℕ) → is_open state && links ≡ true → Rests state ahead → (state ≡ intake.Open) × (cut ahead ≡ More)
open_by intake.Open links ahead is rests = (refl, rests)
open_by intake.Ended links ahead is rests = absurd (false≢true is)
open_by intake.TooLong links ahead is rests = absurd (false≢true is)

module _ (p : Place) (owed : List ℕ) (dealt : List Request) where
  ends_at : (state : Intake) → At at.Idle p owed dealt → At (ended_by state) p owed dealt
  ends_at intake.Open a = a
  ends_at intake.Ended a = tt
  ends_at intake.TooLong a = tt

  rests_at : At at.Idle p owed dealt → At (resting p) p owed dealt
  rests_at a = by (none_runs p.running) where
    by : (b : Bool) → At (if b then ended_by p.inbox.intake else at.Idle) p owed dealt
    by true = ends_at p.inbox.intake a
    by false = a

  turns_at : (ended : Option ℕ) → At at.Idle p owed dealt → At (turning p ended) p owed dealt
  turns_at None a = rests_at a
  turns_at (Some slot) a = by (runs_in p.running slot) refl where
    by : (b : Bool) → runs_in p.running slot ≡ b → At (if b then at.TakeOutput slot else resting p) p owed dealt
    by true is = (a.0, is)
    by false is = rests_at a

  pub comes_at : (row : Row) (ready : Ready) → At row p owed dealt → At (arrive row p ready) p owed dealt
  comes_at at.Idle ready a = by (is_asked p ready) refl where
    by : (b : Bool) → is_asked p ready ≡ b → At (if b then at.TakeInput else turning p ready.child) p owed dealt
    by true is = let o = open_by p.inbox.intake (slice_index_or ready.links 0 false) p.inbox.ahead is a.1 in (a.0, o.0, o.1)
    by false is = turns_at ready.child a
  comes_at at.Greet ready a = a
  comes_at at.TakeInput ready a = a
  comes_at at.OpenMess ready a = a
  comes_at (at.ReadMess fd) ready a = a
  comes_at (at.CloseMess fd whole) ready a = a
  comes_at at.Start ready a = a
  comes_at at.Feed ready a = a
  comes_at (at.TakeOutput slot) ready a = a
  comes_at (at.TakeStatus slot) ready a = a
  comes_at at.Report ready a = a
  comes_at (at.Ended code) ready a = a

nothing : (a : ℕ) → a ≡ 0 → 0 ≡ 0 + a
nothing a e = omega arith

pub counts_begin : Counts [] (replicate 120 false) [] false begun
counts_begin = record {
  dealt = [];
  owed = [];
  reads = (All-nil IsRequest, refl, refl);
  same = refl;
  long = length-replicate 120 false;
  sums = λ slot. let none : runs slot (replicate 120 false) ≡ 0 = none_at_first slot in nothing (runs slot (replicate 120 false)) none;
  at = (refl, refl, refl);
}

pub counts_step : (kind : Kind) (good : IsKind kind) (program : ChildData) (event : Own) (before : List Own) (p : Place) → slot_of program ≡ p.request.slot
    → event.due ≡ due_at program (row_now p event.ready) p → MayCome event.due event.came → Counts (reported before) (programs before) (taken before) (has_end before) p
    → Counts (reported (event ∷ before)) (programs (event ∷ before)) (taken (event ∷ before)) (has_end (event ∷ before)) (act kind (row_now p event.ready) event.came p)
counts_step kind good program event before p here due came k =
    let row : Row = row_now p event.ready in
    let a : At row p k.owed k.dealt = comes_at p k.owed k.dealt p.row event.ready k.at in
    let may = subst (λ x. MayCome x event.came) due came in
    subst (λ x. Counts (reported_by (reported before) x event.came) (programs_by (programs before) x event.came) (taken_by (taken before) x event.came)
    (end_by (has_end before) x event.came) (act kind row event.came p)) (sym due)
    (step kind good program (reported before) (programs before) (taken before) (has_end before) p here k.dealt k.owed k.reads k.same k.long k.sums row event.came a may)
