-- `stop` and `moment`.
use Rattle.std.proofs.Common.{◌≡◌, ◌≢◌, ◌⊎◌, inl, inr, ℕ, ◌<◌, List, [], ◌∷◌, ◌++◌, reverse, false, Option, Some, None, refl, sym, ap, ◌∙◌, subst}
use Rattle.std.specs.List.{AllByRecursion, AllZip}
use Rattle.std.proofs.lemmas.List.{append-nil}
use Rattle.mail_bytes.specs.Decimal.{digits}
use Rattle.call_fs.specs.declared.crash_file_system.Survival.{Survival}
use Rattle.call_fs.specs.Disk.{Disk, IsUnused}
use Rattle.call_fs.specs.Plan.{Plan, with_fault, with_pick}
use Rattle.mail_bytes.specs.Told.{Meets}
use Rattle.crash_fs.specs.Crash.{Crash, crash_disk, crash_plan}
use Rattle.world_events.specs.declared.answers.WorldError.{WorldError}
use Rattle.world_events.specs.declared.answers.WorldError.TheVariants as error
use Rattle.world_events.specs.declared.event.Event.{Event as Kept}
use Rattle.world_events.specs.declared.event.Event.TheVariants as kept
use Rattle.mail_world.specs.History.{Event, Actor, Life}
use Rattle.mail_world.specs.History.Event.{Stop, Moment, Halt}
use Rattle.mail_world.specs.History.Life.{Alive, Over, Stopped}
use Rattle.mail_world.specs.World.{Seen, IsHistory, GoesOn, GoesOnWith, IsStop, Tells, EndsAt, GoesByPlan, IsHalt, moment_world, was_started}
use Rattle.mail_world.specs.Wired.{AreWholeGivings, IsWholeGiving}
use Rattle.mail_world.proofs.Lives.{ended_is}
use Rattle.mail_world.proofs.Known.{IsPlain}
use Rattle.script_lines.specs.declared.line.Line.TheVariants as line
use Rattle.script_lines.specs.declared.keyword.OfActor.TheVariants as of_actor
use Rattle.script_lines.specs.declared.keyword.OfCount.TheVariants as of_count
use Rattle.script_lines.specs.declared.keyword.OfMoment.TheVariants as of_moment
use Rattle.script_lines.specs.declared.keyword.OfSurvival.TheVariants as of_survival
use Rattle.scenario.specs.Deeds.{Deed, TellsDeed, history_of, after}
use Rattle.scenario.specs.Deeds.Deed.{Came}
use Rattle.scenario.specs.Played.{Refusal, IsRefusalOf, StopsAlive, StopComesTo, refusal_line}
use Rattle.scenario.specs.Steps.Outcome.{Happens, Is}
use Rattle.scenario.specs.Fates.{IsFedSo, IsNamedStart}
use Rattle.scenario.specs.Playing.{IsPlaying, HasPlayed}
use Rattle.scenario.proofs.Deeds.{tells, plain_fed, plain_on, playing_push}
use Rattle.scenario.proofs.KeptEvents.{stop_told, moment_told}
use Rattle.scenario.proofs.ScriptSteps.{moved, never_started}

-- one event more in the world, told by the one that was kept
abbrev pub one_more : (d : Disk) (old new : Seen Crash) (plan : Plan) (k : Kept) (e : Event) (h : List Deed) → IsPlaying d old plan h → GoesOn tells old new
    → crash_plan new.disk ≡ crash_plan old.disk → new.events ≡ old.events ++ k ∷ [] → IsPlain k
    → ((f : Event) → Tells k f → f ≡ e) → IsWholeGiving k → IsNamedStart e → IsPlaying d new plan (Came e ∷ h)
one_more d old new plan k e h playing goes same_plan events plain told gives start =
    let next = plain_on d old new plan k h playing goes plain events in
    let same : next.0 ≡ e = told next.0 next.2 in
    playing_push d old new plan plan k (Came e) h playing events (subst (λ (e : Event). IsHistory d (crash_disk new.disk) new.events new.present (e ∷ history_of h)) same next.1)
    (subst (Tells k) same next.2) (same_plan ∙ playing.planned) gives start (plain_fed k plain)

-- no event, but another plan
replanned : (d : Disk) (old new : Seen Crash) (plan left : Plan) (h : List Deed) → IsPlaying d old plan h → tells new.disk ≡ tells old.disk
    → new.events ≡ old.events → new.present ≡ old.present → crash_plan new.disk ≡ Some left → IsPlaying d new left h
replanned d old new plan left h playing disk events present planned =
    let same : crash_disk old.disk ≡ crash_disk new.disk = cc in
    record {
      is = moved d (crash_disk new.disk) old.events new.events old.present new.present (history_of h) (sym events) (sym present)
          (subst (λ (now : Disk). IsHistory d now old.events old.present (history_of h)) same playing.is);
      told = subst (λ (l : List Kept). AllZip TellsDeed (reverse l) h) (sym events) playing.told;
      planned = planned;
      whole = subst (λ (l : List Kept). AreWholeGivings (reverse l)) (sym events) playing.whole;
      starts = playing.starts;
      fed = subst (λ (l : List Kept). AllByRecursion IsFedSo (reverse l)) (sym events) playing.fed;
    }

left_by : (o n : Option Plan) (plan : Plan) (change : Plan → Plan) → Meets o n (λ before after. after ≡ change before) → o ≡ Some plan → n ≡ Some (change plan)
left_by (Some b) (Some a) plan change met is = let same : b ≡ plan = cc in ap Some (met ∙ ap change same)
left_by (Some b) None plan change met is = absurd met
left_by None (Some a) plan change met is = absurd met
left_by None None plan change met is = absurd (cc)

-- Stops

-- a living actor is stopped, and one that lives no more is gone
stops : (a : List ℕ) (o : Option Actor) (x : Actor) → o ≡ Some x → x.life ≡ Alive → StopComesTo a o (Happens (Came (Stop a)))
stops a o x is alive =
    subst (λ (o : Option Actor). StopComesTo a o (Happens (Came (Stop a)))) (sym is)
    (subst (λ (life : Life). StopsAlive a life (Happens (Came (Stop a)))) (sym alive) refl)

is_gone : (a : List ℕ) (o : Option Actor) (x : Actor) → o ≡ Some x → x.life ≢ Alive → StopComesTo a o (Is Refusal.Gone)
is_gone a o x is over = subst (λ (o : Option Actor). StopComesTo a o (Is Refusal.Gone)) (sym is) (by_life x.life over) where
  by_life : (life : Life) → life ≢ Alive → StopsAlive a life (Is Refusal.Gone)
  by_life Alive over = absurd (over refl)
  by_life (Over status) over = refl
  by_life Stopped over = refl

pub stop_played : (d : Disk) (old new : Seen Crash) (plan : Plan) (a text : List ℕ) (h : List Deed) → IsPlaying d old plan h → IsStop a old new → GoesOn tells old new
    → GoesByPlan crash_plan tells old.disk new.disk old.events new.events → HasPlayed d new (line.Actor of_actor.Stop a) text text plan h
stop_played d old new plan a text h playing stop goes by =
    let now : IsPlaying d new plan (Came (Stop a) ∷ h) = one_more d old new plan (kept.Stop a) (Stop a) h playing goes (by (kept.Stop a) stop.0) stop.0 tt (stop_told a) tt tt in
    let living = now.is.legal.1 in
    record {
      events = Came (Stop a) ∷ [];
      own = [];
      plays = (Happens (Came (Stop a)), stops a ((after d h).actors a) living.actor living.is living.alive, refl, refl);
      playing = now;
      text = sym (append-nil text);
    }

-- what a refused stop comes to
stop_comes : (d : Disk) (w : Seen Crash) (plan : Plan) (a : List ℕ) (why : WorldError) (r : Refusal) (h : List Deed) → IsPlaying d w plan h → IsRefusalOf why r
    → (why ≡ error.Unknown → was_started w.events a ≡ false) → ((name : List ℕ) (at : ℕ) → why ≡ error.Gone name at → EndsAt w.events a at)
    → (why ≡ error.Unknown) ⊎ ((name : List ℕ) × (at : ℕ) × (why ≡ error.Gone name at)) → StopComesTo a ((after d h).actors a) (Is r)
stop_comes d w plan a why r h playing is unknown gone (inl e) =
    subst (λ r. StopComesTo a ((after d h).actors a) (Is r)) (sym (subst (λ why. IsRefusalOf why r) e is))
    (subst (λ (o : Option Actor). StopComesTo a o (Is Refusal.Unknown)) (sym (never_started d (crash_disk w.disk) w.events w.present h a playing.is (unknown e))) refl)
stop_comes d w plan a why r h playing is unknown gone (inr e) =
    let x = ended_is d (history_of h) w.events a e.1 playing.is.legal playing.is.told (gone e.0 e.1 e.2) in
    subst (λ r. StopComesTo a ((after d h).actors a) (Is r)) (sym (subst (λ why. IsRefusalOf why r) e.2 is))
    (is_gone a ((after d h).actors a) x.0 x.1 x.2)

pub stop_refused : (d : Disk) (w : Seen Crash) (plan : Plan) (a text : List ℕ) (why : WorldError) (r : Refusal) (h : List Deed) → IsPlaying d w plan h → IsRefusalOf why r
    → (why ≡ error.Unknown → was_started w.events a ≡ false) → ((name : List ℕ) (at : ℕ) → why ≡ error.Gone name at → EndsAt w.events a at)
    → (why ≡ error.Unknown) ⊎ ((name : List ℕ) × (at : ℕ) × (why ≡ error.Gone name at)) → HasPlayed d w (line.Actor of_actor.Stop a) text (text ++ refusal_line r a) plan h
stop_refused d w plan a text why r h playing is unknown gone only = record {
  events = [];
  own = refusal_line r a;
  plays = (Is r, stop_comes d w plan a why r h playing is unknown gone only, refl, refl);
  playing = playing;
  text = refl;
}

-- Machine stops

pub halt_played : (d : Disk) (old new : Seen Crash) (plan : Plan) (how : Survival) (text : List ℕ) (h : List Deed) → IsPlaying d old plan h → IsHalt how old new → GoesOnWith tells how old new
    → GoesByPlan crash_plan tells old.disk new.disk old.events new.events → HasPlayed d new (line.Survival of_survival.Halt how) text text plan h
halt_played d old new plan how text h playing halt goes by =
    let next = goes d (history_of h) playing.is in
    let named = next.1.named.1 in
    let e : Event = Halt how next.0 in
    record {
      events = Came e ∷ [];
      own = [];
      plays = (named.0, named.1, ap (λ (contents : ℕ → List ℕ). Came (Halt how contents) ∷ []) named.2, refl);
      playing = playing_push d old new plan plan (kept.Halt how) (Came e) h playing halt.0 next.1 refl (by (kept.Halt how) halt.0 ∙ playing.planned) tt tt tt;
      text = sym (append-nil text);
    }

-- Calls that fail, and numbers

pub fault_played : (d : Disk) (old new : Seen Crash) (plan : Plan) (k : ℕ) (text : List ℕ) (h : List Deed) → IsPlaying d old plan h
    → Meets (crash_plan old.disk) (crash_plan new.disk) (λ before after. after ≡ with_fault k before)
    → tells new.disk ≡ tells old.disk → new.events ≡ old.events → new.present ≡ old.present → HasPlayed d new (line.Count of_count.Fault k) text text plan h
fault_played d old new plan k text h playing met disk events present = record {
  events = [];
  own = [];
  plays = (refl, refl);
  playing = replanned d old new plan (with_fault k plan) h playing disk events present (left_by (crash_plan old.disk) (crash_plan new.disk) plan (with_fault k) met playing.planned);
  text = sym (append-nil text);
}

pub number_played : (d : Disk) (old new : Seen Crash) (plan : Plan) (n : ℕ) (text : List ℕ) (h : List Deed) → IsPlaying d old plan h
    → Meets (crash_plan old.disk) (crash_plan new.disk) (λ before after. after ≡ with_pick n before) → IsUnused (crash_disk old.disk) n
    → tells new.disk ≡ tells old.disk → new.events ≡ old.events → new.present ≡ old.present → HasPlayed d new (line.Count of_count.Number n) text text plan h
number_played d old new plan n text h playing met unused disk events present = record {
  events = [];
  own = [];
  plays = (refl, inl (subst (λ (now : Disk). IsUnused now n) (sym playing.is.disk) unused, refl));
  playing = replanned d old new plan (with_pick n plan) h playing disk events present (left_by (crash_plan old.disk) (crash_plan new.disk) plan (with_pick n) met playing.planned);
  text = sym (append-nil text);
}

pub number_refused : (d : Disk) (old new : Seen Crash) (plan : Plan) (n : ℕ) (text : List ℕ) (h : List Deed) → IsPlaying d old plan h
    → crash_plan new.disk ≡ crash_plan old.disk → (¬ (IsUnused (crash_disk old.disk) n))
    → tells new.disk ≡ tells old.disk → new.events ≡ old.events → new.present ≡ old.present
    → HasPlayed d new (line.Count of_count.Number n) text (text ++ refusal_line Refusal.Taken (digits n)) plan h
number_refused d old new plan n text h playing same_plan used disk events present = record {
  events = [];
  own = refusal_line Refusal.Taken (digits n);
  plays = (refl, inr (subst (λ (now : Disk). ¬ (IsUnused now n)) (sym playing.is.disk) used, refl));
  playing = replanned d old new plan plan h playing disk events present (same_plan ∙ playing.planned);
  text = refl;
}

-- Moments

pub moment_came : (d : Disk) (old new : Seen Crash) (plan : Plan) (m : ℕ) (text : List ℕ) (h : List Deed) → IsPlaying d old plan h → new ≡ moment_world old m → GoesOn tells old new
    → GoesByPlan crash_plan tells old.disk new.disk old.events new.events → HasPlayed d new (line.Moment of_moment.Moment m) text text plan h
moment_came d old new plan m text h playing came goes by =
    let events = ap (λ (w : Seen Crash). w.events) came in
    let now : IsPlaying d new plan (Came (Moment m) ∷ h) = one_more d old new plan (kept.Moment m) (Moment m) h playing goes (by (kept.Moment m) events) events tt (moment_told m) tt tt in
    record {
      events = Came (Moment m) ∷ [];
      own = [];
      plays = (Happens (Came (Moment m)), inl (now.is.legal.1.no_earlier, refl), refl, refl);
      playing = now;
      text = sym (append-nil text);
    }

pub moment_refused : (d : Disk) (w : Seen Crash) (plan : Plan) (m : ℕ) (text : List ℕ) (h : List Deed) → IsPlaying d w plan h → m < w.present
    → HasPlayed d w (line.Moment of_moment.Moment m) text (text ++ refusal_line Refusal.Past (digits w.present)) plan h
moment_refused d w plan m text h playing earlier =
    let present = playing.is.moment in
    record {
      events = [];
      own = refusal_line Refusal.Past (digits w.present);
      plays = (Is Refusal.Past, inr (subst (λ now. m < now) (sym present) earlier, refl), refl, ap (λ now. refusal_line Refusal.Past (digits now)) (sym present));
      playing = playing;
      text = refl;
    }
