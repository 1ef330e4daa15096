-- What a spawner gives to the sender: its first byte, and reports.
use Rattle.std.proofs.Common.{◌≡◌, ◌⊎◌, inl, inr, ℕ, zero, suc, ◌+◌, ◌≤◌, List, [], ◌∷◌, ◌++◌, take, Bool, true, false, Option, Some, None, refl, sym, ap, ◌∙◌, subst, ⊎_elim, arith}
use Rattle.call_fs.specs.declared.past.GotData.{GotData}
use Rattle.call_fs.specs.declared.past.GotData.TheVariants as came
use Rattle.call_fs.specs.declared.past.NeedData.{NeedData}
use Rattle.call_fs.specs.declared.past.NeedData.TheVariants as needs
use Rattle.call_fs.specs.declared.past.Own.{Own}
use Rattle.call_fs.specs.declared.program.Port.TheVariants as port
use Rattle.call_fs.specs.declared.program.Ready.{Ready}
use Rattle.local_spawn.specs.declared.assign.Assignment.{Assignment}
use Rattle.local_spawn.specs.declared.delivery.Delivery.{Delivery}
use Rattle.local_spawn.specs.declared.place.Place.{Place as LocalPlace}
use Rattle.local_spawn.specs.declared.row.Row.{Row as LocalRow}
use Rattle.local_spawn.specs.declared.row.Row.TheVariants as start
use Rattle.local_spawn.specs.Table.{due_from, served}
use Rattle.queue_limits.specs.declared.statuses.TheConstants.{OUTPUT}
use Rattle.remote_spawn.specs.Table.{due_from as remote_due, remote}
use Rattle.send_known.specs.declared.channel.Channel.{Channel}
use Rattle.send_known.specs.declared.channel.Channel.TheVariants as channel
use Rattle.send_jobs.specs.Slots.{attempt_in}
use Rattle.spawn_protocol.specs.declared.report.Report.{Report}
use Rattle.spawn_protocol.specs.declared.request.Request.{Request}
use Rattle.spawn_protocol.specs.Report.{Reader, kept, read_on}
use Rattle.spawn_protocol.specs.Report.Reader.{AtBegin}
use Rattle.spawner_parts.specs.declared.place.Place.{Place}
use Rattle.spawner_parts.specs.declared.row.Row.{Row}
use Rattle.spawner_parts.specs.declared.row.Row.TheVariants as at
use Rattle.spawner_parts.specs.Counts.{asked, one, runs, times}
use Rattle.spawner_parts.specs.Table.{act, arrive, gave, greeting, next_request}
use Rattle.program_law.specs.Post.Laws.{ReportsKeep}
use Rattle.program_law.specs.Post.Posts.{AllTell, Done, Fares, IsDue, IsToldSo, Post, Posted, Spawner, Tells, due_of, most, reports, told_of, works}
use Rattle.program_law.specs.Post.Posts.Spawner.{Local, Remote}
use Rattle.program_law.proofs.Post.Frames.{after, serving, told_then}
use Rattle.program_law.proofs.Post.Readings.{read_in_part, report_more, tell_append, tell_first, told_grow, told_push}
use Rattle.program_law.proofs.Post.Rows.{goes_up, over}
use Rattle.program_law.proofs.Post.Steps.{Went}
use Rattle.program_law.proofs.Post.Sums.{own_one}
use Rattle.program_law.proofs.Post.Works.{LocalBefore, RemoteBefore, arrives, due_as, local_at, local_done, local_fares, posted, remote_at, remote_fares, remote_posted}

-- Sums

drop_sum : (a first b t m : ℕ) → a + ((first + b) + t) ≤ m → a + (b + t) ≤ m
drop_sum a first b t m w = omega arith

given_sum : (a first b t now m : ℕ) → a + ((first + b) + t) ≤ m → now ≡ first + t → a + (b + now) ≤ m
given_sum a first b t now m w e = omega arith

part_sum : (a first b t all now m : ℕ) → a + ((first + b) + t) ≤ m → all ≡ first + t → now ≤ all → 0 + (0 + now) ≤ m
part_sum a first b t all now m w e u = omega arith

none_sum : (a b t m : ℕ) → a + (b + t) ≤ m → 0 + (0 + 0) ≤ m
none_sum a b t m w = omega arith

clash_sum : (a first b t : ℕ) → a + ((first + b) + t) ≤ 0 → first ≡ 1 → ⊥
clash_sum a first b t w e = omega (arith, w, e)

plus_none : (n : ℕ) → n + 0 ≡ n
plus_none n = omega arith

-- a part of the first byte is all of it, or nothing
part_greeting : (k : ℕ) → (take k greeting ≡ []) ⊎ (take k greeting ≡ greeting)
part_greeting zero = inl refl
part_greeting (suc zero) = inr refl
part_greeting (suc (suc k)) = inr refl

-- what is kept of a report tells the same
tells_kept : (c : Channel) (done : List Done) (last : ℕ → Option Request) (r : Report) → Tells c done last r → Tells c done last (kept r)
tells_kept channel.Local done last r h = λ e. h e
tells_kept channel.Remote done last r h = tt

module _ (c : Channel) (x : Post) (base : Place) (wrote : ℕ) (name : List ℕ) where
  abbrev here : Row → Place
  here r = record base { row = r }

  -- by whether the sender lives, and whether it took the first byte
  abbrev side : Bool → Option Reader → List ℕ → Post
  side lives heard told = record x { serves = true; lives = lives; heard = heard; told = told }

  -- A part of something was given, and no more: it has ended.
  ends : (lives : Bool) (heard : Option Reader) (told : List ℕ) (r : Row) → Fares c (here r) (side lives heard x.told) → (lives ≡ true → IsToldSo heard false (at.Ended OUTPUT) told)
      → AllTell c x.done x.last (reports (side lives heard told)) → ((k : ℕ) → 0 + (0 + told_of k (reports (side lives heard told))) ≤ most lives heard (attempt_in x.slots k))
      → Went c (record base { row = at.Ended OUTPUT }) (side lives heard told)
  ends lives heard told r F tells well once = record {
    fares = record {
      waits = [];
      asks = refl;
      lasts = tt;
      stands = λ e. tt;
      run = λ e. absurd (cc);
      tells = tells;
      well = well;
      once = once;
      flies = F.flies;
    };
    unstarted = λ e. cc;
  }

  -- The first byte

  greets_well : (lives : Bool) (heard : Option Reader) → Fares c (here at.Greet) (side lives heard x.told) → Went c (next_request (here at.Greet)) (side lives heard (x.told ++ greeting))
  greets_well false heard F =
      let w = goes_up c (side false heard (x.told ++ greeting)) (here at.Greet) F.waits F.lasts F.asks (F.run refl) (λ live row apart. absurd (cc)) tt
      (λ k. drop_sum (asked k F.waits) 0 (runs k base.running) 0 1 (F.once k)) F.flies in
      record { fares = w.0; unstarted = w.1 }
  greets_well true None F =
      let w = goes_up c (side true None (x.told ++ greeting)) (here at.Greet) F.waits F.lasts F.asks (F.run refl)
      (λ live row apart. told_then true row (x.told ++ greeting) apart (inr (ap (λ (t : List ℕ). t ++ greeting) (F.tells refl)))) tt
      (λ k. drop_sum (asked k F.waits) 0 (runs k base.running) 0 0 (F.once k)) F.flies in
      record { fares = w.0; unstarted = w.1 }
  greets_well true (Some reader) F = absurd ((F.tells refl refl).0 refl)

  greets_ill : (lives : Bool) (heard : Option Reader) → Fares c (here at.Greet) (side lives heard x.told) → Went c (record base { row = at.Ended OUTPUT }) (side lives heard (x.told ++ take wrote greeting))
  greets_ill false heard F =
      ends false heard (x.told ++ take wrote greeting) at.Greet F (λ live. absurd (cc)) tt (λ k. none_sum (asked k F.waits) (0 + runs k base.running) 0 1 (F.once k))
  greets_ill true None F =
      let all : x.told ++ take wrote greeting ≡ take wrote greeting = ap (λ (t : List ℕ). t ++ take wrote greeting) (F.tells refl) in
      ends true None (x.told ++ take wrote greeting) at.Greet F
      (λ live. ⊎_elim (λ none. inl (all ∙ none)) (λ whole. inr (all ∙ whole)) (part_greeting wrote)) tt
      (λ k. none_sum (asked k F.waits) (0 + runs k base.running) 0 0 (F.once k))
  greets_ill true (Some reader) F = absurd ((F.tells refl refl).0 refl)

  pub greets : (got : GotData) → Fares c (here at.Greet) (serving x) → Went c (gave got (here at.Greet)) (after x.spawner (needs.Give port.Output greeting) got wrote name (serving x))
  greets came.Gave F = greets_well x.lives x.heard F
  greets came.Failed F = greets_ill x.lives x.heard F
  greets got F = record { fares = over c x OUTPUT (here at.Greet) F; unstarted = λ e. cc }

  -- A report

  module _ (due : IsDue c x.done x.last base.report) where
    -- its slot is owed
    owed : (k : ℕ) → times k (take 1 base.report) ≡ one k due.it.slot
    owed k = ap (λ (t : List ℕ). times k (take 1 t)) due.text ∙ plus_none (one k due.it.slot)

    -- of a sender that took no byte nothing is in hand
    unheard : (waits : List Request) → ((k : ℕ) → asked k waits + ((times k (take 1 base.report) + runs k base.running) + 0) ≤ 0) → ⊥
    unheard waits once =
        clash_sum (asked due.it.slot waits) (times due.it.slot (take 1 base.report)) (runs due.it.slot base.running) 0 (once due.it.slot)
        (owed due.it.slot ∙ own_one due.it.slot due.it.slot refl)

    -- what a reader then tells that took what was told
    module _ (reader : Reader) (begins : (read_on reader x.told).1 ≡ AtBegin) where
      more : read_on reader (x.told ++ base.report) ≡ ((read_on reader x.told).0 ++ kept due.it ∷ [], AtBegin)
      more = ap (λ (t : List ℕ). read_on reader (x.told ++ t)) due.text ∙ report_more reader x.told due.it due.is begins

      gives : (read_on reader (x.told ++ base.report)).0 ≡ (read_on reader x.told).0 ++ kept due.it ∷ []
      gives = ap (λ (s : List Report × Reader). s.0) more

      all_tell : AllTell c x.done x.last (read_on reader x.told).0 → AllTell c x.done x.last (read_on reader (x.told ++ base.report)).0
      all_tell h = subst (AllTell c x.done x.last) (sym gives)
          (tell_append c x.done x.last (read_on reader x.told).0 (kept due.it ∷ []) h (tells_kept c x.done x.last due.it due.tells, tt))

      told_now : (k : ℕ) → told_of k (read_on reader (x.told ++ base.report)).0 ≡ times k (take 1 base.report) + told_of k (read_on reader x.told).0
      told_now k =
          ap (told_of k) gives
          ∙ told_push k (read_on reader x.told).0 (kept due.it)
          ∙ ap (λ n. n + told_of k (read_on reader x.told).0) (sym (owed k))

  reports_well : (lives : Bool) (heard : Option Reader) → Fares c (here at.Report) (side lives heard x.told) → Went c (next_request (here at.Report)) (side lives heard (x.told ++ base.report))
  reports_well false heard F =
      let w = goes_up c (side false heard (x.told ++ base.report)) (here at.Report) F.waits F.lasts F.asks (F.run refl) (λ live row apart. absurd (cc)) tt
      (λ k. drop_sum (asked k F.waits) (times k (take 1 base.report)) (runs k base.running) 0 1 (F.once k)) F.flies in
      record { fares = w.0; unstarted = w.1 }
  reports_well true None F = absurd (unheard (F.stands refl) F.waits F.once)
  reports_well true (Some reader) F =
      let due : IsDue c x.done x.last base.report = F.stands refl in
      let begins : (read_on reader x.told).1 ≡ AtBegin = (F.tells refl refl).1 in
      let w = goes_up c (side true (Some reader) (x.told ++ base.report)) (here at.Report) F.waits F.lasts F.asks (F.run refl)
      (λ live row apart e. (apart, ap (λ (s : List Report × Reader). s.1) (more due reader begins)))
      (all_tell due reader begins F.well)
      (λ k. given_sum (asked k F.waits) (times k (take 1 base.report)) (runs k base.running) (told_of k (read_on reader x.told).0) (told_of k (read_on reader (x.told ++ base.report)).0)
      (most true (Some reader) (attempt_in x.slots k)) (F.once k) (told_now due reader begins k)) F.flies in
      record { fares = w.0; unstarted = w.1 }

  reports_ill : (lives : Bool) (heard : Option Reader) → Fares c (here at.Report) (side lives heard x.told)
      → Went c (record base { row = at.Ended OUTPUT }) (side lives heard (x.told ++ take wrote base.report))
  reports_ill false heard F =
      ends false heard (x.told ++ take wrote base.report) at.Report F (λ live. absurd (cc)) tt
      (λ k. none_sum (asked k F.waits) (times k (take 1 base.report) + runs k base.running) 0 1 (F.once k))
  reports_ill true None F = absurd (unheard (F.stands refl) F.waits F.once)
  reports_ill true (Some reader) F =
      let due : IsDue c x.done x.last base.report = F.stands refl in
      let begins : (read_on reader x.told).1 ≡ AtBegin = (F.tells refl refl).1 in
      let part = read_in_part reader x.told base.report wrote in
      let now : List Report = (read_on reader (x.told ++ take wrote base.report)).0 in
      let all : List Report = (read_on reader (x.told ++ base.report)).0 in
      ends true (Some reader) (x.told ++ take wrote base.report) at.Report F (λ live e. absurd (cc))
      (tell_first c x.done x.last now part.0 (subst (AllTell c x.done x.last) part.1 (all_tell due reader begins F.well)))
      (λ k. part_sum (asked k F.waits) (times k (take 1 base.report)) (runs k base.running) (told_of k (read_on reader x.told).0) (told_of k all) (told_of k now)
      (most true (Some reader) (attempt_in x.slots k)) (F.once k) (told_now due reader begins k)
      (subst (λ (rs : List Report). told_of k now ≤ told_of k rs) (sym part.1) (told_grow k now part.0)))

  pub reporting : (got : GotData) → Fares c (here at.Report) (serving x) → Went c (gave got (here at.Report)) (after x.spawner (needs.Give port.Output base.report) got wrote name (serving x))
  reporting came.Gave F = reports_well x.lives x.heard F
  reporting came.Failed F = reports_ill x.lives x.heard F
  reporting got F = record { fares = over c x OUTPUT (here at.Report) F; unstarted = λ e. cc }

-- An event

abbrev IsGiving : NeedData → Type 0
IsGiving (needs.Give port.Output text) = Unit {0}
IsGiving due = ⊥

module _ (x : Post) (wrote : ℕ) (name : List ℕ) (text : List ℕ) (users : Option (List Assignment)) (delivery : Delivery) (base : Place) where
  abbrev standing : Row → LocalPlace
  standing r = local_at x wrote name text users delivery base r

  abbrev LocalGives : Row → Row → GotData → Type 0
  LocalGives r row got = IsGiving (due_from row (standing r)) → Posted (local_done x wrote name (served row got (standing r)) (due_from row (standing r)) got)

  local_gives : (r : Row) (ready : Ready) (got : GotData) → LocalBefore x wrote name text users delivery base r → LocalGives r (arrive r (record base { row = r }) ready) got
  local_gives at.Idle ready got h =
      arrives (λ (row : Row). LocalGives at.Idle row got) (record base { row = at.Idle }) (λ is. absurd is) (λ is. absurd is) (λ code is. absurd is) (λ slot run is. absurd is) ready
  local_gives at.Greet ready got h = λ is.
      let w = greets channel.Local x base wrote name got (local_fares x wrote name text users delivery base at.Greet h) in
      posted x wrote name (served at.Greet got (standing at.Greet)) (needs.Give port.Output greeting) got w.fares (λ e. absurd (w.unstarted e))
  local_gives at.Report ready got h = λ is.
      let w = reporting channel.Local x base wrote name got (local_fares x wrote name text users delivery base at.Report h) in
      posted x wrote name (served at.Report got (standing at.Report)) (needs.Give port.Output base.report) got w.fares (λ e. absurd (w.unstarted e))
  local_gives at.TakeInput ready got h = λ is. absurd is
  local_gives at.OpenMess ready got h = λ is. absurd is
  local_gives (at.ReadMess fd) ready got h = λ is. absurd is
  local_gives (at.CloseMess fd whole) ready got h = λ is. absurd is
  local_gives at.Start ready got h = λ is. absurd is
  local_gives at.Feed ready got h = λ is. absurd is
  local_gives (at.TakeOutput slot) ready got h = λ is. absurd is
  local_gives (at.TakeStatus slot) ready got h = λ is. absurd is
  local_gives (at.Ended code) ready got h = λ is. absurd is

module _ (x : Post) (wrote : ℕ) (name : List ℕ) (base : Place) where
  abbrev RemoteGives : Row → Row → GotData → Type 0
  RemoteGives r row got = IsGiving (remote_due row (remote_at x wrote name base r))
      → Posted (after (Remote (act remote row got (remote_at x wrote name base r))) (remote_due row (remote_at x wrote name base r)) got wrote name (serving x))

  remote_gives : (r : Row) (ready : Ready) (got : GotData) → RemoteBefore x wrote name base r → RemoteGives r (arrive r (remote_at x wrote name base r) ready) got
  remote_gives at.Idle ready got h =
      arrives (λ (row : Row). RemoteGives at.Idle row got) (record base { row = at.Idle }) (λ is. absurd is) (λ is. absurd is) (λ code is. absurd is) (λ slot run is. absurd is) ready
  remote_gives at.Greet ready got h = λ is.
      let w = greets channel.Remote x base wrote name got (remote_fares x wrote name base at.Greet h) in
      remote_posted x wrote name base (act remote at.Greet got (record base { row = at.Greet })) (needs.Give port.Output greeting) got w.fares
  remote_gives at.Report ready got h = λ is.
      let w = reporting channel.Remote x base wrote name got (remote_fares x wrote name base at.Report h) in
      remote_posted x wrote name base (act remote at.Report got (record base { row = at.Report })) (needs.Give port.Output base.report) got w.fares
  remote_gives at.TakeInput ready got h = λ is. absurd is
  remote_gives at.OpenMess ready got h = λ is. absurd is
  remote_gives (at.ReadMess fd) ready got h = λ is. absurd is
  remote_gives (at.CloseMess fd whole) ready got h = λ is. absurd is
  remote_gives at.Start ready got h = λ is. absurd is
  remote_gives at.Feed ready got h = λ is. absurd is
  remote_gives (at.TakeOutput slot) ready got h = λ is. absurd is
  remote_gives (at.TakeStatus slot) ready got h = λ is. absurd is
  remote_gives (at.Ended code) ready got h = λ is. absurd is

module _ (x : Post) (event : Own) (wrote : ℕ) (name : List ℕ) where
  abbrev Gives : Spawner → Type 0
  Gives s = Posted (record x { serves = true; spawner = s }) → IsGiving (due_of s event.ready)
      → Posted (works (due_as event (due_of s event.ready)) wrote name (record x { serves = true; spawner = s }))

  of_local : (row : LocalRow) (text : List ℕ) (users : Option (List Assignment)) (delivery : Delivery) (work : Place)
      → Gives (Local (record { row = row; text = text; users = users; delivery = delivery; work = work }))
  of_local start.Serves text users delivery work h is = local_gives x wrote name text users delivery work work.row event.ready event.came h is
  of_local start.OpenUsers text users delivery work h is = absurd is
  of_local (start.ReadUsers fd) text users delivery work h is = absurd is
  of_local (start.CloseUsers fd whole) text users delivery work h is = absurd is
  of_local start.OutOfMemory text users delivery work h is = absurd is

  of_any : (s : Spawner) → Gives s
  of_any (Local p) = of_local p.row p.text p.users p.delivery p.work
  of_any (Remote p) = remote_gives x wrote name p p.row event.ready event.came

pub reports_keep : ReportsKeep
reports_keep event wrote name text x h serves due gives =
    let is : IsGiving (due_of x.spawner event.ready) = subst IsGiving (sym gives ∙ due) tt in
    subst (λ (d : NeedData). Posted (works (due_as event d) wrote name x)) (sym due)
    (subst (λ (b : Bool). Posted (works (due_as event (due_of x.spawner event.ready)) wrote name (record x { serves = b }))) (sym serves)
    (of_any x event wrote name x.spawner (subst (λ (b : Bool). Posted (record x { serves = b })) serves h) is))
