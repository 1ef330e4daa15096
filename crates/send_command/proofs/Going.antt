-- A sender that goes on: its run so far, and what its log took.
use Rattle.std.proofs.Common.{◌≡◌, ℕ, ◌+◌, ◌<◌, ◌≤◌, List, [], ◌∷◌, ◌++◌, take, drop, Option, Some, None, Result, Ok, Err, refl, sym, ap, ◌∙◌, subst, inl, inr, ⊎_elim, arith, append_assoc}
use Rattle.std.proofs.lemmas.List.{append-nil, take-append-drop}
use Rattle.std.specs.declared.alloc.AllocError.{AllocError}
use Rattle.call_fs.specs.declared.past.ChildData.{ChildData}
use Rattle.call_fs.specs.declared.past.NeedData.TheVariants.{Ended as End}
use Rattle.call_fs.specs.declared.past.Own.{Own}
use Rattle.call_fs.specs.declared.program.Ready.{Ready}
use Rattle.mail_bytes.specs.Told.{Meets, Rose}
use Rattle.outside.specs.Streams.{Gives}
use Rattle.outside.specs.declared.sink.Gave.TheVariants as gave
use Rattle.program_runner.specs.Outside.{Outside}
use Rattle.program_runner.specs.Runs.{Change, most_turns}
use Rattle.program_runner.specs.Members.Step.{Acted, Looked}
use Rattle.program_runner.specs.Members.{Acts, Asks, Beside, GoesOnStill, HasEndedSo, Idles, IsTurnOf, Look, Waits, events_of}
use Rattle.program_runner.proofs.Deeds.{did_nothing, meets_then}
use Rattle.program_runner.proofs.Members.{acted, asks_so, looked, nothing_beside}
use Rattle.send_core.specs.declared.desk.Desk.{Desk}
use Rattle.send_core.specs.Log.{lines_at, lines_of}
use Rattle.send_core.specs.Stands.{Machine, Stands, gone_on, looked_at}
use Rattle.send_core.specs.Table.{Next, place_after, row_now}
use Rattle.queue_limits.specs.declared.statuses.TheConstants.{MEMORY, OUTPUT}
use Rattle.send_command.specs.Sent.{HasRun, Is, Logged, TakesAll, TakesPart, WasCutShort, log_of}

-- What a log took

pub took_nothing : (o : Option (List ℕ)) → Meets o o (λ first last. last ≡ first ++ [])
took_nothing None = tt
took_nothing (Some l) = sym (append-nil l)

-- all of the lines are a prefix of them
part_of : (given more : List ℕ) (old new : Logged) → TakesAll given old new → TakesPart (given ++ more) old new
part_of given more old new t = record { taken = by old.taken new.taken t.taken; counts = let same = t.faults in omega arith } where
  by : (a b : Option (List ℕ)) → Meets a b (λ first last. last ≡ first ++ given) → Meets a b (λ first last. (gone rest : List ℕ) × (given ++ more ≡ gone ++ rest) × (last ≡ first ++ gone))
  by (Some x) (Some y) h = (given, more, refl, h)
  by None None h = tt
  by (Some x) None h = absurd h
  by None (Some y) h = absurd h

pub all_part : (given : List ℕ) (old new : Logged) → TakesAll given old new → TakesPart given old new
all_part given old new t = subst (λ l. TakesPart l old new) (append-nil given) (part_of given [] old new t)

module _ (words : ChildData → List (List ℕ)) (turns : ℕ) (old : Outside) (b : Beside) (log : Logged) where
  abbrev Going : Machine → ℕ → Outside → Beside → Type 0
  Going m count now n = GoesOnStill Next words (Unit {0}) (Stands m) (Is turns) old.last count old now b n

  -- It ran so far, all lines of that were taken, and its log is empty.
  pub record Goes (m : Machine) (count : ℕ) (now : Outside) (n : Beside) (logged : Logged) : Type 0 where
    pub run : Going m count now n
    pub quiet : m.log ≡ []
    pub took : TakesAll (log_of turns (events_of run.turns)) log logged

  -- It ran so far, and the lines of that were taken, except those that are still in its log.
  pub record Told (m : Machine) (count : ℕ) (now : Outside) (n : Beside) (logged : Logged) : Type 0 where
    pub run : Going m count now n
    pub given : List ℕ
    pub lines : log_of turns (events_of run.turns) ≡ given ++ m.log
    pub took : TakesAll given log logged

  -- It ran to its end, and all lines of that were taken.
  pub record IsOver (status : ℕ) (now : Outside) (n : Beside) (logged : Logged) : Type 0 where
    pub ran : HasEndedSo Next words (Unit {0}) (Is turns) old.last status old now b n
    pub took : TakesAll (log_of turns (events_of ran.before)) log logged

  pub begun : (m : Machine) → Stands m (Some turns) [] → m.log ≡ [] → Goes m 0 old b log
  begun m stands quiet = record {
    run = record {
      turns = [];
      long = refl;
      on = tt;
      holds = λ args is. subst (λ (a : Option ℕ). Stands m a []) (sym is) stands;
      ran = record { run = λ args is. tt; due = λ args is. tt; some = λ h. tt; did = did_nothing old.last old (omega arith); did_beside = nothing_beside words b };
    };
    quiet = quiet;
    took = record { taken = took_nothing log.taken; faults = refl };
  }

  -- What a turn makes of it

  abbrev pub changes : Machine → Machine → Change
  changes m n read found came = (k : Machine) × (k ≡ looked_at m read found) × (n ≡ gone_on k came)

  abbrev pub looks : Machine → Machine → Look
  looks m n read found = n ≡ looked_at m read found

  spoken : (m k n : Machine) (event : Own) (ready : Ready) (past : List Own) → m.log ≡ [] → m.desk ≡ place_after (Some turns) past → event.ready ≡ ready
      → k ≡ looked_at m event.read ready → n ≡ gone_on k event.came → n.log ≡ lines_of (place_after (Some turns) (past ++ [])) event
  spoken m k n event ready past quiet desk found looked gone =
      ap (λ (x : Machine). x.log) gone ∙ ap (λ (x : Machine). (gone_on x event.came).log) looked
      ∙ ap (λ (t : List ℕ). t ++ lines_at (row_now m.desk event.read ready) event.read event.came m.desk) quiet
      ∙ ap (λ (r : Ready). lines_at (row_now m.desk event.read r) event.read event.came m.desk) (sym found)
      ∙ ap (λ (d : Desk). lines_of d event) (desk ∙ ap (λ (l : List Own). place_after (Some turns) l) (sym (append-nil past)))

  module _ (m n : Machine) (count room : ℕ) (has : 0 < room) (mid new : Outside) (x y : Beside) (none : new.moments ≡ None) (logged : Logged) (g : Goes m count mid x logged) where
    abbrev past : List Own
    past = events_of g.run.turns

    acts : Acts Next words room (Stands m) (Stands n) (changes m n) mid new x y → Told n (count + 1) new y logged
    acts a = record {
      run = record {
        turns = Acted a.asked a.on.event a.calls ∷ g.run.turns;
        long = let long = g.run.long in omega arith;
        on = g.run.on;
        holds = λ args is. a.on.stands args past (g.run.holds args is);
        ran = acted Next words (Unit {0}) (Is turns) old.last room (λ h. has) (Stands m) (Stands n) (changes m n) g.run.turns old mid new b x y g.run.holds g.run.ran a;
      };
      given = log_of turns past;
      lines = ap (λ (t : List ℕ). log_of turns past ++ t)
          (sym (spoken m a.on.changed.0 n a.on.event a.ready past g.quiet (g.run.holds (Some turns) refl) a.on.found a.on.changed.1 a.on.changed.2));
      took = g.took;
    }

    waits : Waits Next words (Stands m) (Stands n) (looks m n) mid new x y → Told n (count + 1) new y logged
    waits w = record {
      run = record {
        turns = Looked w.idles.asked w.idles.read w.idles.ready w.due ∷ g.run.turns;
        long = let long = g.run.long in omega arith;
        on = (w.on, g.run.on);
        holds = λ args is. w.stands args past (g.run.holds args is);
        ran = looked Next words (Unit {0}) (Is turns) old.last (Stands m) w.due g.run.turns old mid new b x y none g.run.holds g.run.ran w.idles;
      };
      given = log_of turns past;
      lines = sym (ap (λ (t : List ℕ). log_of turns past ++ t) (ap (λ (k : Machine). k.log) w.became ∙ g.quiet) ∙ append-nil (log_of turns past));
      took = g.took;
    }

    turned : (result : Result (Option ℕ) AllocError) → result ≡ Ok None → IsTurnOf Next words room (Stands m) (Stands n) (changes m n) (looks m n) result mid new x y
        → Told n (count + 1) new y logged
    turned result is t = ⊎_elim acts waits (subst (λ o. IsTurnOf Next words room (Stands m) (Stands n) (changes m n) (looks m n) o mid new x y) is t)

    -- it ended
    ends : (status : ℕ) → Idles Next words (Stands m) (End status) mid new x y → IsOver status new y logged
    ends status i = record {
      ran = record {
        asked = i.asked;
        read = i.read;
        ready = i.ready;
        before = g.run.turns;
        on = g.run.on;
        ran = looked Next words (Unit {0}) (Is turns) old.last (Stands m) (End status) g.run.turns old mid new b x y none g.run.holds g.run.ran i;
      };
      took = g.took;
    }

    pub over : (result : Result (Option ℕ) AllocError) (status : ℕ) → result ≡ Ok (Some status)
        → IsTurnOf Next words room (Stands m) (Stands n) (changes m n) (looks m n) result mid new x y → IsOver status new y logged
    over result status is t = ends status (subst (λ o. IsTurnOf Next words room (Stands m) (Stands n) (changes m n) (looks m n) o mid new x y) is t)

    -- it was cut short
    cut_at_event : Acts Next words room (Stands m) (λ args past. Unit {0}) (λ read ready came. Unit {0}) mid new x y → WasCutShort words turns old new b y log logged
    cut_at_event a = record {
      cut = record {
        turns = Acted a.asked a.on.event a.calls ∷ g.run.turns;
        mid = new;
        mid_beside = y;
        on = g.run.on;
        ran = acted Next words (Unit {0}) (Is turns) old.last room (λ h. has) (Stands m) (λ args past. Unit {0}) (λ read ready came. Unit {0}) g.run.turns old mid new b x y g.run.holds g.run.ran a;
        rest = inl (refl, refl);
      };
      took = part_of (log_of turns past) (lines_of (place_after (Some turns) (past ++ [])) a.on.event) log logged g.took;
    }

    cut_at_asking : Asks Next (Stands m) mid new x y → WasCutShort words turns old new b y log logged
    cut_at_asking a = record {
      cut = record {
        turns = g.run.turns;
        mid = mid;
        mid_beside = x;
        on = g.run.on;
        ran = g.run.ran;
        rest = inr (asks_so Next (Stands m) (λ args past. Is turns args × (past ≡ events_of g.run.turns)) mid new x y
            (λ args past is. subst (λ (p : List Own). Stands m args p) (sym is.1) (g.run.holds args is.0)) a);
      };
      took = all_part (log_of turns past) log logged g.took;
    }

    pub starved : (result : Result (Option ℕ) AllocError) (why : AllocError) → result ≡ Err why
        → IsTurnOf Next words room (Stands m) (Stands n) (changes m n) (looks m n) result mid new x y → HasRun words turns MEMORY old new b y log logged
    starved result why is t = inr (inr (
      refl,
      inl (⊎_elim cut_at_event cut_at_asking
          (subst (λ o. IsTurnOf Next words room (Stands m) (Stands n) (changes m n) (looks m n) o mid new x y) is t)),
    ))

  -- Its lines are given

  module _ (n : Machine) (count : ℕ) (now : Outside) (y : Beside) (logged given : Logged) (t : Told n count now y logged) where
    gave_all : (k : Machine) → k ≡ record n { log = [] } → Meets logged.taken given.taken (Gives gave.Done n.log) → given.faults ≡ logged.faults → Goes k count now y given
    gave_all k is taken same = record {
      run = record {
        turns = t.run.turns;
        long = t.run.long;
        on = t.run.on;
        holds = λ args asked. ap (λ (x : Machine). x.desk) is ∙ t.run.holds args asked;
        ran = t.run.ran;
      };
      quiet = ap (λ (x : Machine). x.log) is;
      took = record {
        taken = subst (λ (l : List ℕ). Meets log.taken given.taken (λ first last. last ≡ first ++ l)) (sym t.lines)
            (meets_then (λ first last. last ≡ first ++ t.given) (Gives gave.Done n.log) (λ first last. last ≡ first ++ (t.given ++ n.log))
            (λ a c e first next. next ∙ ap (λ (l : List ℕ). l ++ n.log) first ∙ append_assoc a t.given n.log) log.taken logged.taken given.taken t.took.taken taken);
        faults = same ∙ t.took.faults;
      };
    }

    gave_part : Meets logged.taken given.taken (Gives gave.Failed n.log) → logged.faults ≤ given.faults → Rose logged.faults given.faults → HasRun words turns OUTPUT old now b y log given
    gave_part taken counts rose = inr (inl (
      refl,
      subst (λ (k : ℕ). Rose k given.faults) t.took.faults rose,
      record {
        cut = record { turns = t.run.turns; mid = now; mid_beside = y; on = t.run.on; ran = t.run.ran; rest = inl (refl, refl) };
        took = record {
          taken = subst (λ (l : List ℕ). Meets log.taken given.taken (λ first last. (gone more : List ℕ) × (l ≡ gone ++ more) × (last ≡ first ++ gone))) (sym t.lines)
              (meets_then (λ first last. last ≡ first ++ t.given) (Gives gave.Failed n.log)
              (λ first last. (gone more : List ℕ) × (t.given ++ n.log ≡ gone ++ more) × (last ≡ first ++ gone))
              (λ a c e first next. (
                t.given ++ take next.0 n.log,
                drop next.0 n.log,
                ap (λ (l : List ℕ). t.given ++ l) (sym (take-append-drop next.0 n.log)) ∙ sym (append_assoc t.given (take next.0 n.log) (drop next.0 n.log)),
                next.2 ∙ ap (λ (l : List ℕ). l ++ take next.0 n.log) first ∙ append_assoc a t.given (take next.0 n.log),
              )) log.taken logged.taken given.taken t.took.taken taken);
          counts = let same = t.took.faults in omega (arith, same, counts);
        };
      },
    ))

  -- a turn was made, and its lines were given
  module _ (m n : Machine) (count room : ℕ) (has : 0 < room) (mid new : Outside) (x y : Beside) (none : new.moments ≡ None) (logged given : Logged) (g : Goes m count mid x logged) (result : Result (Option ℕ) AllocError)
      (is : result ≡ Ok None) (turn : IsTurnOf Next words room (Stands m) (Stands n) (changes m n) (looks m n) result mid new x y) where
    pub turned_all : (k : Machine) → k ≡ record n { log = [] } → Meets logged.taken given.taken (Gives gave.Done n.log) → given.faults ≡ logged.faults → Goes k (count + 1) new y given
    turned_all = gave_all n (count + 1) new y logged given (turned m n count room has mid new x y none logged g result is turn)

    pub turned_part : Meets logged.taken given.taken (Gives gave.Failed n.log) → logged.faults ≤ given.faults → Rose logged.faults given.faults → HasRun words turns OUTPUT old new b y log given
    turned_part = gave_part n (count + 1) new y logged given (turned m n count room has mid new x y none logged g result is turn)

  pub still : (m : Machine) (count : ℕ) (now : Outside) (y : Beside) (logged : Logged) → count ≡ most_turns → Goes m count now y logged → HasRun words turns MEMORY old now b y log logged
  still m count now y logged is g = inr (inr (refl, inr (record { steps = g.run.turns; long = g.run.long ∙ is; on = g.run.on; ran = g.run.ran; took = g.took })))
