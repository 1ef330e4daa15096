-- Runs of programs with channels that begin, go on, end and are cut short.
use Rattle.std.proofs.Common.{◌≡◌, ◌⊎◌, ℕ, ◌+◌, ◌<◌, ◌≤◌, List, [], ◌∷◌, ◌++◌, flat_map, Option, Some, None, Ok, Err, Result, IsErr, refl, sym, ap, ◌∙◌, subst, inl, inr, ⊎_elim, arith, append_assoc}
use Rattle.std.specs.declared.alloc.AllocError.{AllocError}
use Rattle.call_fs.specs.declared.past.ChildData.{ChildData}
use Rattle.call_fs.specs.declared.past.NeedData.{NeedData}
use Rattle.call_fs.specs.declared.past.NeedData.TheVariants.{Ended}
use Rattle.call_fs.specs.declared.past.GotData.{GotData}
use Rattle.call_fs.specs.declared.past.GotData.TheVariants as got
use Rattle.call_fs.specs.declared.past.Own.{Own}
use Rattle.call_fs.specs.declared.program.Ready.{Ready}
use Rattle.call_fs.specs.Past.{Table, IsRunBy, moments_of}
use Rattle.mail_bytes.specs.Told.{Meets, Rose}
use Rattle.outside.specs.Children.{Arrival, Posted, SpawnCall, arrivals}
use Rattle.outside.specs.Children.SpawnCall.{Start, Feed, Finish, AskStatus}
use Rattle.outside.specs.declared.posts.Waiting.{Waiting}
use Rattle.program_runner.specs.Outside.{Outside, AreKept, Looks}
use Rattle.program_runner.specs.Runs.{Change, Did}
use Rattle.program_runner.specs.Lines.{Fosters, HasOne, IsFailedAnswer, IsFailedCall, brought, piece_of}
use Rattle.program_runner.specs.Serving.{PostsTold, Answers, SpawnerTold, Spawns, BringsSome, HasBytes}
use Rattle.program_runner.specs.Members.{Beside, Look, Step, Acts, Idles, Waits, Asks, IsCarried, IsCut, IsRunOf, IsTurnOf, DidBeside, GoesOnStill, HasEndedSo, LooksOn, MayAct, Tends, WasCut, all_asked, all_calls, all_read, asked_in, calls_in, events_of, read_in}
use Rattle.program_runner.specs.Members.Step.{Acted, Looked}
use Rattle.program_runner.proofs.Deeds.{did_nothing, did_more, kept_more, kept_none, kept_one, meets_then, open_after}
use Rattle.program_runner.proofs.Serves.{asked_nothing}

-- Lists

pub flat_more : {X Y : Type 0} (f : X → List Y) (a b : List X) → flat_map f (a ++ b) ≡ flat_map f a ++ flat_map f b
flat_more f [] b = refl
flat_more f (x ∷ a) b = ap (λ t. f x ++ t) (flat_more f a b) ∙ sym (append_assoc (f x) (flat_map f a) (flat_map f b))

one_of : {X : Type 0} (P : X → Type 0) (a b : List X) → HasOne P (a ++ b) → HasOne P a ⊎ HasOne P b
one_of P [] b h = inr h
one_of P (x ∷ a) b (inl h) = inl (inl h)
one_of P (x ∷ a) b (inr h) = ⊎_elim (λ k. inl (inr k)) (λ k. inr k) (one_of P a b h)

rose_later : (a b c : ℕ) → Rose a b → b ≤ c → Rose a c
rose_later a b c r h = omega (arith, h, r)

rose_earlier : (a b c : ℕ) → a ≤ b → Rose b c → Rose a c
rose_earlier a b c h r = omega (arith, h, r)

le_later : (a b c : ℕ) → a ≤ b → b ≤ c → a ≤ c
le_later a b c h k = omega arith

-- Answers and calls, one after the other

waits_then : (a b : List Posted) (x y z : List Arrival) → x ≡ flat_map arrivals (brought a) ++ y → y ≡ flat_map arrivals (brought b) ++ z
    → x ≡ flat_map arrivals (brought (a ++ b)) ++ z
waits_then a b x y z first next =
    first ∙ ap (λ t. flat_map arrivals (brought a) ++ t) next ∙ sym (append_assoc (flat_map arrivals (brought a)) (flat_map arrivals (brought b)) z)
    ∙ ap (λ t. t ++ z) (sym (flat_more arrivals (brought a) (brought b)))
    ∙ ap (λ (t : List Waiting). flat_map arrivals t ++ z) (sym (flat_more (λ (p : Posted). piece_of p.answer p.bytes) a b))

pub answered_then : (a b : List Posted) (old mid new : PostsTold) → Answers a old mid → Answers b mid new → Answers (a ++ b) old new
answered_then a b old mid new d e = record {
  told = kept_more old.asked mid.asked new.asked a b d.told e.told;
  waiting = meets_then (λ before after. before ≡ flat_map arrivals (brought a) ++ after) (λ before after. before ≡ flat_map arrivals (brought b) ++ after)
      (λ before after. before ≡ flat_map arrivals (brought (a ++ b)) ++ after) (waits_then a b) old.waiting mid.waiting new.waiting d.waiting e.waiting;
  counts = le_later old.faults mid.faults new.faults d.counts e.counts;
  cause = λ h. ⊎_elim (λ k. rose_later old.faults mid.faults new.faults (d.cause k) e.counts) (λ k. rose_earlier old.faults mid.faults new.faults d.counts (e.cause k))
      (one_of IsFailedAnswer a b h);
}

meets_same : {X : Type 0} (P : X → X → Type 0) → ((x : X) → P x x) → (a : Option X) → Meets a a P
meets_same P by None = tt
meets_same P by (Some x) = by x

pub answered_nothing : (s : PostsTold) → Answers [] s s
answered_nothing s = record { told = kept_none s.asked; waiting = meets_same _ (λ x. refl) s.waiting; counts = omega arith; cause = λ h. absurd h }

fosters_then : (a b : List SpawnCall) (x y z : List ℕ) → Fosters x a y → Fosters y b z → Fosters x (a ++ b) z
fosters_then [] b x y z first next = subst (λ t. Fosters t b z) first next
fosters_then (Start words told ∷ a) b x y z (mid, starts, first) next = (mid, starts, fosters_then a b mid y z first next)
fosters_then (Feed chan bytes told ∷ a) b x y z first next = fosters_then a b x y z first next
fosters_then (Finish chan ∷ a) b x y z first next = fosters_then a b x y z first next
fosters_then (AskStatus chan told ∷ a) b x y z first next = fosters_then a b x y z first next

pub spawned_then : (a b : List SpawnCall) (old mid new : SpawnerTold) → Spawns a old mid → Spawns b mid new → Spawns (a ++ b) old new
spawned_then a b old mid new d e = record {
  told = kept_more old.calls mid.calls new.calls a b d.told e.told;
  children = fosters_then a b old.children mid.children new.children d.children e.children;
  counts = le_later old.faults mid.faults new.faults d.counts e.counts;
  cause = λ h. ⊎_elim (λ k. rose_later old.faults mid.faults new.faults (d.cause k) e.counts) (λ k. rose_earlier old.faults mid.faults new.faults d.counts (e.cause k))
      (one_of IsFailedCall a b h);
}

-- a turn that only asked, of a machine that stood for more
pub asks_so : {A : Type 0} (next : A → Table) (before others : A → List Own → Type 0) (old new : Outside) (b n : Beside) → ((args : A) (past : List Own) → others args past → before args past)
    → Asks next before old new b n → Asks next others old new b n
asks_so next before others old new b n so a = record {
  asked = a.asked;
  posts = a.posts;
  read = a.read;
  moments = a.moments;
  on = ⊎_elim (λ none. inl none) (λ (m : (moment : ℕ) × (a.read ≡ moment ∷ []) × LooksOn next before a.asked moment b.lines). inr (
    m.0,
    m.1,
    record {
      gathered = m.2.gathered;
      gathers = m.2.gathers;
      ready = m.2.ready;
      is_ready = m.2.is_ready;
      due = m.2.due;
      on = m.2.on;
      says = λ args past o. m.2.says args past (so args past o);
    },
  )) a.on;
  later = a.later;
  rest = a.rest;
  spawner = a.spawner;
}

-- One turn more

pub nothing_beside : (words : ChildData → List (List ℕ)) (b : Beside) → DidBeside words [] b b
nothing_beside words b = record { moments = kept_none b.moments; posts = answered_nothing b.posts; none = tt; spawner = asked_nothing b.spawner; lines = refl }

more_beside : (words : ChildData → List (List ℕ)) (turns : List Step) (step : Step) (old mid new : Beside) → DidBeside words turns old mid → Tends words step mid new
    → DidBeside words (step ∷ turns) old new
more_beside words turns step old mid new d t = record {
  moments = kept_more old.moments mid.moments new.moments (all_read turns) (read_in step ∷ []) d.moments (kept_one mid.moments new.moments (read_in step) t.moments);
  posts = answered_then (all_asked turns) (asked_in step) old.posts mid.posts new.posts d.posts t.posts;
  none = t.none;
  spawner = spawned_then (all_calls turns) (calls_in step) old.spawner mid.spawner new.spawner d.spawner t.spawner;
  lines = (mid.lines, d.lines, record { gathered = t.gathered; gathers = t.gathers; ready = t.ready; moves = t.moves });
}

kept_no_more : {X : Type 0} (a : Option (List X)) (l : List X) → AreKept a None l
kept_no_more None l = tt
kept_no_more (Some x) l = tt

later_by : (start : ℕ) (past : List Own) (old mid : Outside) (read : ℕ) → mid.last ≤ read → Did start past old mid → Did start past old (record mid { moments = None; last = read })
later_by start past old mid read later d = record {
  in_order = d.in_order;
  later = let first = d.later in omega arith;
  calls = d.calls;
  moments = kept_no_more old.moments (moments_of past);
  disk = d.disk;
  disk_counts = d.disk_counts;
  disk_cause = d.disk_cause;
  left = d.left;
  over = d.over;
  input_counts = d.input_counts;
  input_cause = d.input_cause;
  taken = d.taken;
  output_counts = d.output_counts;
  output_cause = d.output_cause;
}

did_looked : (start : ℕ) (past : List Own) (old mid new : Outside) (read : ℕ) → new.moments ≡ None → Did start past old mid → Looks read mid new → Did start past old new
did_looked start past old mid new read none d looks =
    subst (λ o. Did start past old o) (sym (looks.rest ∙ ap (λ (m : Option (List ℕ)). record mid { moments = m; last = read }) none)) (later_by start past old mid read looks.later d)

has_bytes : (most : ℕ) (came : GotData) → BringsSome most came → 0 < most → HasBytes came
has_bytes most (got.Answered told) some room = tt
has_bytes most (got.Took bytes) some room = some room
has_bytes most got.End some room = tt
has_bytes most (got.Ended status) some room = tt
has_bytes most got.Crashed some room = tt
has_bytes most got.Gave some room = tt
has_bytes most (got.Started pid) some room = tt
has_bytes most got.Failed some room = tt
has_bytes most got.Memory some room = tt

module _ {A : Type 0} (next : A → Table) (words : ChildData → List (List ℕ)) (roomy : Type 0) (possible : A → Type 0) (start : ℕ) where
  pub begins : (stands : A → List Own → Type 0) (o : Outside) (b : Beside) → ((args : A) → possible args → stands args []) → start ≤ o.last
      → GoesOnStill next words roomy stands possible start 0 o o b b
  begins stands o b new later = record {
    turns = [];
    long = refl;
    on = tt;
    holds = new;
    ran = record { run = λ args is. tt; due = λ args is. tt; some = λ h. tt; did = did_nothing start o later; did_beside = nothing_beside words b };
  }

  pub acted : (room : ℕ) → (roomy → 0 < room) → (before after : A → List Own → Type 0) (change : Change) (turns : List Step) (old mid new : Outside) (b m n : Beside)
      → ((args : A) → possible args → before args (events_of turns)) → IsRunOf next words roomy possible turns start old mid b m
      → (a : Acts next words room before after change mid new m n) → IsRunOf next words roomy possible (Acted a.asked a.on.event a.calls ∷ turns) start old new b n
  acted room has before after change turns old mid new b m n holds r a = record {
    run = λ args is. (r.run args is, (a.on.due args (events_of turns) (holds args is), a.on.came));
    due = λ args is. r.due args is;
    some = λ h. (has_bytes room a.on.event.came a.some (has h), r.some h);
    did = did_more start (events_of turns) a.on.event old mid new r.did a.on.does;
    did_beside = more_beside words turns (Acted a.asked a.on.event a.calls) b m n r.did_beside a.tends;
  }

  pub looked : (before : A → List Own → Type 0) (due : NeedData) (turns : List Step) (old mid new : Outside) (b m n : Beside) → new.moments ≡ None
      → ((args : A) → possible args → before args (events_of turns)) → IsRunOf next words roomy possible turns start old mid b m
      → (i : Idles next words before due mid new m n) → IsRunOf next words roomy possible (Looked i.asked i.read i.ready due ∷ turns) start old new b n
  looked before due turns old mid new b m n none holds r i = record {
    run = λ args is. r.run args is;
    due = λ args is. (r.due args is, i.says args (events_of turns) (holds args is));
    some = λ h. r.some h;
    did = did_looked start (events_of turns) old mid new i.read none r.did i.looks;
    did_beside = more_beside words turns (Looked i.asked i.read i.ready due) b m n r.did_beside i.tends;
  }

  pub as_long : (stands : A → List Own → Type 0) (count most : ℕ) (old now : Outside) (b n : Beside) → count ≡ most
      → GoesOnStill next words roomy stands possible start count old now b n → GoesOnStill next words roomy stands possible start most old now b n
  as_long stands count most old now b n is r = subst (λ k. GoesOnStill next words roomy stands possible start k old now b n) is r

  -- it may take a turn
  pub may_act : (stands : A → List Own → Type 0) (count : ℕ) (old now : Outside) (b n : Beside) (args : A) → possible args
      → ((args : A) (past : List Own) (read : ℕ) (ready : Ready) → IsRunBy (next args) past → IsCarried (next args past read ready))
      → GoesOnStill next words roomy stands possible start count old now b n → MayAct next stands now.disk
  may_act stands count old now b n args is carried r = record {
    args = args;
    past = events_of r.turns;
    is = r.holds args is;
    run = r.ran.run args is;
    carried = λ read ready. carried args (events_of r.turns) read ready (r.ran.run args is);
    backed = open_after (events_of r.turns) old.disk now.disk r.ran.did.disk;
  }

  module _ (before after : A → List Own → Type 0) (change : Change) (look : Look) (room : ℕ) (has : roomy → 0 < room) (count : ℕ) (old mid new : Outside) (b m n : Beside) (none : new.moments ≡ None)
      (r : GoesOnStill next words roomy before possible start count old mid b m) where
    on_acting : Acts next words room before after change mid new m n → GoesOnStill next words roomy after possible start (count + 1) old new b n
    on_acting a = record {
      turns = Acted a.asked a.on.event a.calls ∷ r.turns;
      long = let long = r.long in omega arith;
      on = r.on;
      holds = λ args is. a.on.stands args (events_of r.turns) (r.holds args is);
      ran = acted room has before after change r.turns old mid new b m n r.holds r.ran a;
    }

    on_waiting : Waits next words before after look mid new m n → GoesOnStill next words roomy after possible start (count + 1) old new b n
    on_waiting w = record {
      turns = Looked w.idles.asked w.idles.read w.idles.ready w.due ∷ r.turns;
      long = let long = r.long in omega arith;
      on = (w.on, r.on);
      holds = λ args is. w.stands args (events_of r.turns) (r.holds args is);
      ran = looked before w.due r.turns old mid new b m n none r.holds r.ran w.idles;
    }

    pub turned_on : (result : Result (Option ℕ) AllocError) → result ≡ Ok None → IsTurnOf next words room before after change look result mid new m n
        → GoesOnStill next words roomy after possible start (count + 1) old new b n
    turned_on result is t = ⊎_elim on_acting on_waiting (subst (λ o. IsTurnOf next words room before after change look o mid new m n) is t)

    on_ending : (status : ℕ) → Idles next words before (Ended status) mid new m n → HasEndedSo next words roomy possible start status old new b n
    on_ending status i = record {
      asked = i.asked;
      read = i.read;
      ready = i.ready;
      before = r.turns;
      on = r.on;
      ran = looked before (Ended status) r.turns old mid new b m n none r.holds r.ran i;
    }

    pub turned_to_end : (result : Result (Option ℕ) AllocError) (status : ℕ) → result ≡ Ok (Some status) → IsTurnOf next words room before after change look result mid new m n
        → HasEndedSo next words roomy possible start status old new b n
    turned_to_end result status is t = on_ending status (subst (λ o. IsTurnOf next words room before after change look o mid new m n) is t)

    cut_acting : Acts next words room before (λ args past. Unit {0}) (λ read ready came. Unit {0}) mid new m n → WasCut next words roomy possible start old new b n
    cut_acting a = record {
      turns = Acted a.asked a.on.event a.calls ∷ r.turns;
      mid = new;
      mid_beside = n;
      on = r.on;
      ran = acted room has before (λ args past. Unit {0}) (λ read ready came. Unit {0}) r.turns old mid new b m n r.holds r.ran a;
      rest = inl (refl, refl);
    }

    cut_asking : Asks next before mid new m n → WasCut next words roomy possible start old new b n
    cut_asking a = record {
      turns = r.turns;
      mid = mid;
      mid_beside = m;
      on = r.on;
      ran = r.ran;
      rest = inr (asks_so next before (λ args past. possible args × (past ≡ events_of r.turns)) mid new m n
          (λ args past is. subst (λ (p : List Own). before args p) (sym is.1) (r.holds args is.0)) a);
    }

    pub was_cut : (result : Result (Option ℕ) AllocError) (why : AllocError) → result ≡ Err why → IsTurnOf next words room before after change look result mid new m n
        → WasCut next words roomy possible start old new b n
    was_cut result why is t = ⊎_elim cut_acting cut_asking (subst (λ o. IsTurnOf next words room before after change look o mid new m n) is t)

-- a turn that answered out of memory
pub turn_cut : {A : Type 0} (next : A → Table) (words : ChildData → List (List ℕ)) (room : ℕ) (before after : A → List Own → Type 0) (change : Change) (look : Look) (result : Result (Option ℕ) AllocError)
    (old new : Outside) (b n : Beside) → IsErr result → IsCut next words room before old new b n → IsTurnOf next words room before after change look result old new b n
turn_cut next words room before after change look (Err why) old new b n e h = h
turn_cut next words room before after change look (Ok None) old new b n e h = absurd (cc)
turn_cut next words room before after change look (Ok (Some status)) old new b n e h = absurd (cc)
