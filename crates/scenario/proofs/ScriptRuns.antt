-- The steps of a run, one after the other.
use Rattle.std.proofs.Common.{◌≡◌, ◌≢◌, ◌⊎◌, inl, inr, ℕ, zero, suc, ◌+◌, ◌<◌, ◌≤◌, List, [], ◌∷◌, ◌++◌, length, Bool, true, false, refl, sym, ap, ◌∙◌, subst, ⊎_elim, arith}
use Rattle.std.proofs.lemmas.Bool.{false≢true}
use Rattle.std.proofs.lemmas.List.{append-nil}
use Rattle.call_fs.specs.Disk.{Disk}
use Rattle.call_fs.specs.Plan.{Plan}
use Rattle.crash_fs.specs.Crash.{Crash}
use Rattle.world_events.specs.declared.answers.WorldError.{WorldError}
use Rattle.world_events.specs.declared.answers.WorldError.TheVariants as error
use Rattle.mail_world.specs.History.{IsLiving}
use Rattle.mail_world.specs.World.{Seen}
use Rattle.script_lines.specs.declared.line.Line.TheVariants as line
use Rattle.script_lines.specs.declared.keyword.OfActor.TheVariants as of_actor
use Rattle.scenario.specs.declared.stepping.AfterStep.TheVariants as how
use Rattle.scenario.specs.Deeds.{Deed, after}
use Rattle.scenario.specs.Steps.{Refusal, IsRefusalOf, StepsTo, AreSteps, plan_through, has_idled, most_steps, stop_text, refusal_line}
use Rattle.scenario.specs.Steps.Stops.{Idles, Refused, Full}
use Rattle.scenario.specs.Steps.Outcome.{Is}
use Rattle.scenario.specs.Playing.{IsPlaying, HasStepped, HasRun, HasPlayed, IsRefusedAs}
use Rattle.scenario.specs.inside.Playing.{is_waiting}
use Rattle.scenario.proofs.Outcomes.{alive_waits}

-- an error has one refusal
same_refusal : (why : WorldError) (r s : Refusal) → IsRefusalOf why r → IsRefusalOf why s → r ≡ s
same_refusal (error.Gone name at) r s one other = one ∙ sym other
same_refusal (error.NotWaiting name) r s one other = one ∙ sym other
same_refusal error.Unknown r s one other = one ∙ sym other
same_refusal error.Taken r s one other = one ∙ sym other
same_refusal (error.Past now) r s one other = one ∙ sym other
same_refusal (error.Alive name) r s one other = one ∙ sym other
same_refusal error.Memory r s one other = absurd one

-- a refusal of the world as one of the script
pub refused_with : (why : WorldError) (r : Refusal) (d : Disk) (plan : Plan) (a : List ℕ) (h : List Deed) → IsRefusedAs why d plan a h → IsRefusalOf why r → StepsTo d h plan a (Is r)
refused_with (error.Gone name at) r d plan a h seen is = subst (λ r. StepsTo d h plan a (Is r)) (same_refusal (error.Gone name at) seen.0 r seen.1 is) seen.2
refused_with (error.NotWaiting name) r d plan a h seen is = subst (λ r. StepsTo d h plan a (Is r)) (same_refusal (error.NotWaiting name) seen.0 r seen.1 is) seen.2
refused_with error.Unknown r d plan a h seen is = subst (λ r. StepsTo d h plan a (Is r)) (same_refusal error.Unknown seen.0 r seen.1 is) seen.2
refused_with error.Taken r d plan a h seen is = subst (λ r. StepsTo d h plan a (Is r)) (same_refusal error.Taken seen.0 r seen.1 is) seen.2
refused_with (error.Past now) r d plan a h seen is = subst (λ r. StepsTo d h plan a (Is r)) (same_refusal (error.Past now) seen.0 r seen.1 is) seen.2
refused_with (error.Alive name) r d plan a h seen is = subst (λ r. StepsTo d h plan a (Is r)) (same_refusal (error.Alive name) seen.0 r seen.1 is) seen.2
refused_with error.Memory r d plan a h seen is = absurd is

pub no_memory_refused : (why : WorldError) (r : Refusal) → IsRefusalOf why r → why ≢ error.Memory
no_memory_refused (error.Gone name at) r is e = absurd (cc)
no_memory_refused (error.NotWaiting name) r is e = absurd (cc)
no_memory_refused error.Unknown r is e = absurd (cc)
no_memory_refused error.Taken r is e = absurd (cc)
no_memory_refused (error.Past now) r is e = absurd (cc)
no_memory_refused (error.Alive name) r is e = absurd (cc)
no_memory_refused error.Memory r is e = is

-- only such a refusal says that the actor waits
pub not_waiting : (why : WorldError) (r : Refusal) → IsRefusalOf why r → ((name : List ℕ) → why ≢ error.NotWaiting name) → r ≢ Refusal.NotWaiting
not_waiting (error.Gone name at) r is waits e = let both = sym is ∙ e in absurd (cc)
not_waiting (error.NotWaiting name) r is waits e = absurd (waits name refl)
not_waiting error.Unknown r is waits e = let both = sym is ∙ e in absurd (cc)
not_waiting error.Taken r is waits e = let both = sym is ∙ e in absurd (cc)
not_waiting (error.Past now) r is waits e = let both = sym is ∙ e in absurd (cc)
not_waiting (error.Alive name) r is waits e = let both = sym is ∙ e in absurd (cc)
not_waiting error.Memory r is waits e = absurd is

-- what the test of an error tells
pub waits_by : (why : WorldError) → is_waiting why ≡ true → (name : List ℕ) × (why ≡ error.NotWaiting name)
waits_by (error.Gone name at) is = absurd (cc)
waits_by (error.NotWaiting name) is = (name, refl)
waits_by error.Unknown is = absurd (cc)
waits_by error.Taken is = absurd (cc)
waits_by (error.Past now) is = absurd (cc)
waits_by (error.Alive name) is = absurd (cc)
waits_by error.Memory is = absurd (cc)

pub waits_not : (why : WorldError) (name : List ℕ) → is_waiting why ≡ false → why ≢ error.NotWaiting name
waits_not why name is e = false≢true (sym is ∙ ap is_waiting e)

-- So many steps were made, none of which ended an idle turn, and the actor lives.
pub record HasGone (d : Disk) (h : List Deed) (plan : Plan) (a : List ℕ) (w : Seen Crash) (steps : ℕ) : Type 0 where
  pub events : List Deed
  pub are_steps : AreSteps d h plan a events
  pub count : length events ≡ steps
  pub busy : has_idled d h events ≡ false
  pub playing : IsPlaying d w (plan_through plan events) (events ++ h)
  pub living : (steps ≡ 0) ⊎ IsLiving (after d (events ++ h)) a

abbrev pub run_begins : (d : Disk) (h : List Deed) (plan : Plan) (a : List ℕ) (w : Seen Crash) → IsPlaying d w plan h → HasGone d h plan a w 0
run_begins d h plan a w playing = record { events = []; are_steps = tt; count = refl; busy = refl; playing = playing; living = inl refl }

abbrev pub run_goes_on : (d : Disk) (h : List Deed) (plan : Plan) (a : List ℕ) (w v : Seen Crash) (n : ℕ) (run : HasGone d h plan a w n) → n < most_steps
    → HasStepped d v a how.On (plan_through plan run.events) (run.events ++ h) → HasGone d h plan a v (n + 1)
run_goes_on d h plan a w v n run low step = record {
  events = step.deed ∷ run.events;
  are_steps = (run.are_steps, (let same = run.count in omega arith, run.busy, step.steps));
  count = let same = run.count in omega arith;
  busy = step.over.1;
  playing = step.playing;
  living = inr step.over.0;
}

-- Where a run stops

pub over_text : (n : ℕ) (a : List ℕ) → 1 ≤ n → [] ≡ stop_text n Refusal.Gone a
over_text zero a some = absurd (omega arith)
over_text (suc n) a some = refl

abbrev pub run_ends : (d : Disk) (h : List Deed) (plan : Plan) (a : List ℕ) (w v : Seen Crash) (n : ℕ) (text : List ℕ) (run : HasGone d h plan a w n) → n < most_steps
    → HasStepped d v a how.Over (plan_through plan run.events) (run.events ++ h) → HasRun d v a false text text plan h
run_ends d h plan a w v n text run low step = record {
  events = step.deed ∷ run.events;
  own = [];
  run = record {
    are_steps = (run.are_steps, (let same = run.count in omega arith, run.busy, step.steps));
    stops = Refused step.over.1 Refusal.Gone step.over.0 (inr refl) (over_text (length (step.deed ∷ run.events)) a (omega arith));
  };
  idled = sym step.over.1;
  playing = step.playing;
  text = sym (append-nil text);
}

abbrev pub run_idles : (d : Disk) (h : List Deed) (plan : Plan) (a : List ℕ) (w v : Seen Crash) (n : ℕ) (text : List ℕ) (run : HasGone d h plan a w n) → n < most_steps
    → HasStepped d v a how.Idle (plan_through plan run.events) (run.events ++ h) → HasRun d v a true text text plan h
run_idles d h plan a w v n text run low step = record {
  events = step.deed ∷ run.events;
  own = [];
  run = record {
    are_steps = (run.are_steps, (let same = run.count in omega arith, run.busy, step.steps));
    stops = Idles step.over refl;
  };
  idled = sym step.over;
  playing = step.playing;
  text = sym (append-nil text);
}

abbrev pub run_waits : (d : Disk) (h : List Deed) (plan : Plan) (a : List ℕ) (w : Seen Crash) (n : ℕ) (text name : List ℕ) (run : HasGone d h plan a w n) → n < most_steps
    → IsRefusedAs (error.NotWaiting name) d (plan_through plan run.events) a (run.events ++ h) → HasRun d w a false text text plan h
run_waits d h plan a w n text name run low seen =
    let waits : StepsTo d (run.events ++ h) (plan_through plan run.events) a (Is Refusal.NotWaiting) =
    subst (λ (r : Refusal). StepsTo d (run.events ++ h) (plan_through plan run.events) a (Is r)) seen.1 seen.2 in
    record {
      events = run.events;
      own = [];
      run = record {
        are_steps = run.are_steps;
        stops = Refused run.busy Refusal.NotWaiting waits (inl (let same = run.count in omega arith)) refl;
      };
      idled = sym run.busy;
      playing = run.playing;
      text = sym (append-nil text);
    }

pub refusal_text : (n : ℕ) (r : Refusal) (a : List ℕ) → n ≡ 0 → r ≢ Refusal.NotWaiting → refusal_line r a ≡ stop_text n r a
refusal_text zero Refusal.NotWaiting a none other = absurd (other refl)
refusal_text zero r a none other = refl
refusal_text (suc n) r a none other = absurd (omega arith)

abbrev pub run_refused : (d : Disk) (h : List Deed) (plan : Plan) (a : List ℕ) (w : Seen Crash) (n : ℕ) (text : List ℕ) (why : WorldError) (r : Refusal) (run : HasGone d h plan a w n) → n < most_steps
    → IsRefusedAs why d (plan_through plan run.events) a (run.events ++ h) → IsRefusalOf why r → ((name : List ℕ) → why ≢ error.NotWaiting name) → HasRun d w a false text (text ++ refusal_line r a) plan h
run_refused d h plan a w n text why r run low seen is waits =
    let now = plan_through plan run.events in
    let refuses : StepsTo d (run.events ++ h) now a (Is r) = refused_with why r d now a (run.events ++ h) seen is in
    let other = not_waiting why r is waits in
    let none : n ≡ 0 = ⊎_elim (λ e. e) (λ living. absurd (other (alive_waits d (run.events ++ h) now a living.actor r living.is living.alive refuses))) run.living in
    record {
      events = run.events;
      own = refusal_line r a;
      run = record {
        are_steps = run.are_steps;
        stops = Refused run.busy r refuses (inl (let same = run.count in omega arith)) (refusal_text (length run.events) r a (run.count ∙ none) other);
      };
      idled = sym run.busy;
      playing = run.playing;
      text = refl;
    }

pub not_gone : Refusal.Gone ≢ Refusal.NotWaiting
not_gone e = absurd (cc)

abbrev pub run_full : (d : Disk) (h : List Deed) (plan : Plan) (a : List ℕ) (w : Seen Crash) (n : ℕ) (text : List ℕ) (run : HasGone d h plan a w n) → n ≡ most_steps
    → HasRun d w a false text (text ++ refusal_line Refusal.Steps a) plan h
run_full d h plan a w n text run full = record {
  events = run.events;
  own = refusal_line Refusal.Steps a;
  run = record {
    are_steps = run.are_steps;
    stops = Full run.busy (run.count ∙ full)
        (λ gone. ⊎_elim (λ none. absurd (omega arith)) (λ living. not_gone (alive_waits d (run.events ++ h) (plan_through plan run.events) a living.actor Refusal.Gone living.is living.alive gone)) run.living)
        refl;
  };
  idled = sym run.busy;
  playing = run.playing;
  text = refl;
}

-- a run as a line
abbrev pub run_played : (d : Disk) (w : Seen Crash) (plan : Plan) (a : List ℕ) (idle : Bool) (before after_text : List ℕ) (h : List Deed) → HasRun d w a idle before after_text plan h
    → HasPlayed d w (line.Actor of_actor.Run a) before after_text plan h
run_played d w plan a idle before after_text h run = record { events = run.events; own = run.own; plays = run.run; playing = run.playing; text = run.text }
