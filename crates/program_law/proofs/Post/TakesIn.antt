-- A spawner takes requests.
use Rattle.std.proofs.Common.{◌≡◌, ◌≢◌, ℕ, ◌+◌, ◌≤◌, List, [], ◌∷◌, ◌++◌, length, drop, Bool, true, false, ◌&&◌, if◌then◌else◌, Option, Some, None, refl, sym, ap, ◌∙◌, subst, arith, append_assoc}
use Rattle.std.specs.Prelude.{slice_index_or}
use Rattle.std.proofs.lemmas.Bool.{true≢false}
use Rattle.call_fs.specs.declared.past.ChildData.{ChildData}
use Rattle.call_fs.specs.declared.past.GotData.{GotData}
use Rattle.call_fs.specs.declared.past.GotData.TheVariants as came
use Rattle.call_fs.specs.declared.past.NeedData.{NeedData}
use Rattle.call_fs.specs.declared.past.NeedData.TheVariants as needs
use Rattle.call_fs.specs.declared.past.Own.{Own}
use Rattle.call_fs.specs.declared.program.Port.TheVariants as port
use Rattle.call_fs.specs.declared.program.Ready.{Ready}
use Rattle.queue_limits.specs.declared.statuses.TheConstants.{INPUT}
use Rattle.send_known.specs.declared.channel.Channel.{Channel}
use Rattle.send_known.specs.declared.channel.Channel.TheVariants as channel
use Rattle.send_jobs.specs.Slots.{attempt_in}
use Rattle.spawn_protocol.specs.declared.inbox.Intake.{Intake}
use Rattle.spawn_protocol.specs.declared.inbox.Intake.TheVariants as intake
use Rattle.spawn_protocol.specs.declared.request.Request.{Request}
use Rattle.spawn_protocol.specs.Inbox.{with_more}
use Rattle.spawner_parts.specs.declared.place.Place.{Place}
use Rattle.spawner_parts.specs.declared.row.Row.{Row}
use Rattle.spawner_parts.specs.declared.row.Row.TheVariants as at
use Rattle.spawner_parts.specs.Asked.{runs_in}
use Rattle.spawner_parts.specs.Counts.{asked, runs, times}
use Rattle.spawner_parts.specs.Table.{Kind, act, arrive, due_at, ended_by, is_asked, is_open, next_request, none_runs, resting, row_now, took, turning}
use Rattle.local_spawn.specs.declared.place.Place.{Place as LocalPlace}
use Rattle.local_spawn.specs.declared.row.Row.{Row as LocalRow}
use Rattle.local_spawn.specs.declared.row.Row.TheVariants as local_at
use Rattle.local_spawn.specs.Table as local
use Rattle.remote_spawn.specs.Table as remote
use Rattle.program_law.specs.Post.Laws.{TakesInKeep}
use Rattle.program_law.specs.Post.Posts.{AreRequests, At, Fares, IsOffered, IsToldSo, Post, Posted, RunFor, Spawner, Waits, busy, due_of, goes_at, most, moved, owed_at, reports_by, told_of, works}
use Rattle.program_law.specs.Post.Posts.Spawner.{Local, Remote}
use Rattle.program_law.proofs.Post.Frames.{after, serving, told_on}
use Rattle.program_law.proofs.Post.TakesUp.{TakenUp, taken_up}

-- The row of a taking

is_taking : (program : ChildData) (row : Row) (p : Place) → due_at program row p ≡ needs.Take port.Input → row ≡ at.TakeInput
is_taking program at.TakeInput p e = refl
is_taking program row p e = absurd (cc)

-- it comes from one at which requests are taken
record Takes (row : Row) (p : Place) : Type 0 where
  open_is : p.inbox.intake ≡ intake.Open
  goes : goes_at true row ≡ true

open_by : (i : Intake) (b : Bool) → is_open i && b ≡ true → i ≡ intake.Open
open_by intake.Open b e = refl
open_by intake.Ended b e = absurd (cc)
open_by intake.TooLong b e = absurd (cc)

no_taking : (b : Bool) (row other : Row) → row ≢ at.TakeInput → other ≢ at.TakeInput → (if b then row else other) ≢ at.TakeInput
no_taking true row other h k = h
no_taking false row other h k = k

ended_no : (i : Intake) → ended_by i ≢ at.TakeInput
ended_no intake.Open e = cc
ended_no intake.Ended e = cc
ended_no intake.TooLong e = cc

resting_no : (p : Place) → resting p ≢ at.TakeInput
resting_no p = no_taking (none_runs p.running) (ended_by p.inbox.intake) at.Idle (ended_no p.inbox.intake) (λ e. cc)

turning_no : (p : Place) (o : Option ℕ) → turning p o ≢ at.TakeInput
turning_no p None = resting_no p
turning_no p (Some slot) = no_taking (runs_in p.running slot) (at.TakeOutput slot) (resting p) (λ e. cc) (resting_no p)

idle_takes : (p : Place) (ready : Ready) (b : Bool) → is_asked p ready ≡ b → (if b then at.TakeInput else turning p ready.child) ≡ at.TakeInput → Takes at.Idle p
idle_takes p ready true is e = record { open_is = open_by p.inbox.intake (slice_index_or ready.links 0 false) is; goes = refl }
idle_takes p ready false is e = absurd (turning_no p ready.child e)

comes_from : (row : Row) (p : Place) (ready : Ready) → arrive row p ready ≡ at.TakeInput → (row ≡ at.TakeInput → p.inbox.intake ≡ intake.Open) → Takes row p
comes_from at.Idle p ready e h = idle_takes p ready (is_asked p ready) refl e
comes_from at.TakeInput p ready e h = record { open_is = h refl; goes = refl }
comes_from row p ready e h = absurd (cc)

-- What comes of it

of_open : (i : Intake) (lives : Bool) (ahead given : List ℕ) (waits : List Request) → i ≡ intake.Open → Waits true i lives ahead given waits → AreRequests lives (ahead ++ given) waits
of_open i lives ahead given waits is h = subst (λ (j : Intake). Waits true j lives ahead given waits) is h

to_open : (i : Intake) (lives : Bool) (ahead given : List ℕ) (waits : List Request) → i ≡ intake.Open → AreRequests lives (ahead ++ given) waits → Waits true i lives ahead given waits
to_open i lives ahead given waits is h = subst (λ (j : Intake). Waits true j lives ahead given waits) (sym is) h

pub drop_past : (xs ys : List ℕ) → drop (length xs) (xs ++ ys) ≡ ys
drop_past [] ys = refl
drop_past (x ∷ xs) ys = drop_past xs ys

still_few : (s n w o r t m : ℕ) → s + n ≤ w + r → w + ((o + r) + t) ≤ m → s + (n + t) ≤ m
still_few s n w o r t m fewer low = omega (arith, fewer, low)

none_few : (w o r t m : ℕ) → w + ((o + r) + t) ≤ m → 0 + ((0 + r) + t) ≤ m
none_few w o r t m low = omega (arith, low)

gone_few : (w b t m : ℕ) → w + (b + t) ≤ m → 0 + (0 + t) ≤ m
gone_few w b t m low = omega (arith, low)

-- it starts nothing then
abbrev Onward : Channel → Place → Post → Type 0
Onward c p y = Fares c p y × (p.row ≢ at.Start)

module _ (c : Channel) (p : Place) (x : Post) (s : Spawner) (F : Fares c p (serving x)) (T : Takes p.row p) where
  -- while it goes
  busy_is : (slot : ℕ) → asked slot F.waits + (busy true p.row p slot + told_of slot (reports_by x.lives x.heard x.told)) ≤ most x.lives x.heard (attempt_in x.slots slot)
  busy_is slot = subst (λ (g : Bool). asked slot F.waits + (busy g p.row p slot + told_of slot (reports_by x.lives x.heard x.told)) ≤ most x.lives x.heard (attempt_in x.slots slot)) T.goes (F.once slot)

  asks_is : AreRequests x.lives (p.inbox.ahead ++ x.asked) F.waits
  asks_is =
      of_open p.inbox.intake x.lives p.inbox.ahead x.asked F.waits T.open_is
      (subst (λ (g : Bool). Waits g p.inbox.intake x.lives p.inbox.ahead x.asked F.waits) T.goes F.asks)

  told_so : (now : Bool) (row : Row) → row ≢ at.Greet → x.lives ≡ true → IsToldSo x.heard now row x.told
  told_so now row apart lives = told_on x.heard (goes_at true p.row) now p.row row x.told apart (λ is. T.goes) (F.tells lives)

  module _ (bytes rest : List ℕ) (offered : x.asked ≡ bytes ++ rest) where
    abbrev q : Place
    q = record p { inbox = with_more bytes p.inbox }

    left_is : drop (length bytes) x.asked ≡ rest
    left_is = ap (drop (length bytes)) offered ∙ drop_past bytes rest

    all_is : p.inbox.ahead ++ x.asked ≡ (p.inbox.ahead ++ bytes) ++ drop (length bytes) x.asked
    all_is =
        ap (λ (t : List ℕ). p.inbox.ahead ++ t) (offered ∙ ap (λ (t : List ℕ). bytes ++ t) (sym left_is))
        ∙ sym (append_assoc p.inbox.ahead bytes (drop (length bytes) x.asked))

    up : TakenUp c x.done x.last x.lives (drop (length bytes) x.asked) F.waits p.running (next_request q)
    up = taken_up c x.done x.last x.lives (drop (length bytes) x.asked) q F.waits F.lasts
        (to_open p.inbox.intake x.lives (p.inbox.ahead ++ bytes) (drop (length bytes) x.asked) F.waits T.open_is (subst (λ (t : List ℕ). AreRequests x.lives t F.waits) all_is asks_is))

    took_more : Fares c (next_request q) (record (serving x) { spawner = s; asked = drop (length bytes) x.asked })
    took_more = record {
      waits = up.still;
      asks = subst (λ (g : Bool). Waits g (next_request q).inbox.intake x.lives (next_request q).inbox.ahead (drop (length bytes) x.asked) up.still) (sym up.goes) up.asks;
      lasts = up.lasts;
      stands = λ on. up.stands;
      run = λ on. subst (λ (running : List Bool). RunFor c running x.tasks x.last) (sym up.same) (F.run T.goes);
      tells = told_so (goes_at true (next_request q).row) (next_request q).row up.greeted;
      well = F.well;
      once = λ slot. subst (λ (g : Bool). asked slot up.still + (busy g (next_request q).row (next_request q) slot + told_of slot (reports_by x.lives x.heard x.told)) ≤ most x.lives x.heard (attempt_in x.slots slot)) (sym up.goes)
          (still_few (asked slot up.still) (busy true (next_request q).row (next_request q) slot) (asked slot F.waits) (times slot (owed_at p.row p)) (runs slot p.running)
          (told_of slot (reports_by x.lives x.heard x.told)) (most x.lives x.heard (attempt_in x.slots slot)) (up.fewer slot) (busy_is slot));
      flies = F.flies;
    }

  -- the end
  took_end : Fares c (took came.End p) (record (serving x) { spawner = s })
  took_end = record {
    waits = [];
    asks = (refl, refl);
    lasts = tt;
    stands = λ on. tt;
    run = λ on. F.run T.goes;
    tells = told_so true at.Idle (λ e. cc);
    well = F.well;
    once = λ slot. none_few (asked slot F.waits) (times slot (owed_at p.row p)) (runs slot p.running) (told_of slot (reports_by x.lives x.heard x.told)) (most x.lives x.heard (attempt_in x.slots slot)) (busy_is slot);
    flies = F.flies;
  }

  -- a failure
  took_none : (code : ℕ) → Fares c (record p { row = at.Ended code }) (record (serving x) { spawner = s })
  took_none code = record {
    waits = [];
    asks = refl;
    lasts = tt;
    stands = λ on. absurd (cc);
    run = λ on. absurd (cc);
    tells = told_so false (at.Ended code) (λ e. cc);
    well = F.well;
    once = λ slot. gone_few (asked slot F.waits) (busy true p.row p slot) (told_of slot (reports_by x.lives x.heard x.told)) (most x.lives x.heard (attempt_in x.slots slot)) (busy_is slot);
    flies = F.flies;
  }

  fails : (code : ℕ) → Onward c (record p { row = at.Ended code }) (record (serving x) { spawner = s })
  fails code = (took_none code, λ e. cc)

  takes : (got : GotData) (wrote : ℕ) (name : List ℕ) → IsOffered x.asked got → Onward c (took got p) (after s (needs.Take port.Input) got wrote name (serving x))
  takes (came.Took bytes) wrote name offered = (took_more bytes offered.0 offered.1, (up bytes offered.0 offered.1).unstarted)
  takes came.End wrote name offered = (took_end, λ e. cc)
  takes (came.Answered told) wrote name offered = fails INPUT
  takes (came.Ended status) wrote name offered = fails INPUT
  takes came.Crashed wrote name offered = fails INPUT
  takes came.Gave wrote name offered = fails INPUT
  takes (came.Started pid) wrote name offered = fails INPUT
  takes came.Failed wrote name offered = fails INPUT
  takes came.Memory wrote name offered = fails INPUT

-- whatever starts programs in whatever way
takes_at : (kind : Kind) (c : Channel) (p : Place) (x : Post) (s : Spawner) (event : Own) (wrote : ℕ) (name : List ℕ) → Fares c p (serving x) → (program : ChildData)
    → event.due ≡ due_at program (row_now p event.ready) p → event.due ≡ needs.Take port.Input → IsOffered x.asked event.came
    → Onward c (act kind (row_now p event.ready) event.came p) (after s event.due event.came wrote name (serving x))
takes_at kind c p x s event wrote name F program due is offered =
    let row = is_taking program (row_now p event.ready) p (sym due ∙ is) in
    subst (λ (d : NeedData). Onward c (act kind (row_now p event.ready) event.came p) (after s d event.came wrote name (serving x))) (sym is)
    (subst (λ (r : Row). Onward c (act kind r event.came p) (after s (needs.Take port.Input) event.came wrote name (serving x))) (sym row)
    (takes c p x s F (comes_from p.row p event.ready row opens) event.came wrote name offered))
  where
    opens : p.row ≡ at.TakeInput → p.inbox.intake ≡ intake.Open
    opens e = subst (λ (r : Row). goes_at true r ≡ true → At c x.done x.last r p) e F.stands refl

-- Both spawners

abbrev is_take : NeedData → Bool
is_take (needs.Take from) = true
is_take due = false

module _ (event : Own) (wrote : ℕ) (name : List ℕ) (x : Post) (is : event.due ≡ needs.Take port.Input) (offered : IsOffered x.asked event.came) where
  abbrev On : Spawner → Post
  On s = record x { serves = true; spawner = s }

  abbrev Step : Spawner → Type 0
  Step s = Posted (On s) → event.due ≡ due_of s event.ready → Posted (works event wrote name (On s))

  untaken : (due : NeedData) → is_take due ≡ false → event.due ≡ due → ⊥
  untaken due never e = true≢false (sym (ap is_take is) ∙ ap is_take e ∙ never)

  of_remote : (p : Place) → Step (Remote p)
  of_remote p P due = record {
    fares = (takes_at remote.remote channel.Remote p (On (Remote p)) (moved (Remote p) event) event wrote name P.fares (remote.program_of p.request) due is offered).0;
    starts = λ serves. tt;
  }

  of_local : (row : LocalRow) (l : LocalPlace) → Step (Local (record l { row = row }))
  of_local local_at.OpenUsers l P due = absurd (untaken (local.due_by (record l { row = local_at.OpenUsers }) event.ready) refl due)
  of_local (local_at.ReadUsers fd) l P due = absurd (untaken (local.due_by (record l { row = local_at.ReadUsers fd }) event.ready) refl due)
  of_local (local_at.CloseUsers fd whole) l P due = absurd (untaken (local.due_by (record l { row = local_at.CloseUsers fd whole }) event.ready) refl due)
  of_local local_at.OutOfMemory l P due = absurd (untaken (local.due_by (record l { row = local_at.OutOfMemory }) event.ready) refl due)
  of_local local_at.Serves l P due =
      let here : LocalPlace = record l { row = local_at.Serves } in
      let w = takes_at (local.local_kind l.users) channel.Local l.work (On (Local here)) (moved (Local here) event) event wrote name P.fares (local.program_of here) due is offered in
      record { fares = w.0; starts = λ serves row. absurd (w.1 row) }

  by_spawner : (s : Spawner) → Step s
  by_spawner (Remote p) = of_remote p
  by_spawner (Local l) = of_local l.row l

pub takes_in_keep : TakesInKeep
takes_in_keep event wrote name x P serves due is offered =
    let same : x ≡ serving x = λ i. record x { serves = serves i } in
    subst (λ (y : Post). Posted (works event wrote name y)) (sym same) (by_spawner event wrote name x is offered x.spawner (subst Posted same P) due)
