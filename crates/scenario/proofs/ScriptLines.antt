-- The lines of a script as they are played, one after the other.
use Rattle.std.proofs.Common.{◌≡◌, ◌⊎◌, inl, inr, ℕ, ◌+◌, ◌<◌, List, [], ◌∷◌, ◌++◌, length, take, get_or, Bool, true, false, Option, Some, None, refl, sym, ap, ◌∙◌, subst, ⊎_elim, append_assoc}
use Rattle.std.specs.Prelude.{◌^◌}
use Rattle.std.proofs.lemmas.List.{append-nil, take_more}
use Rattle.call_fs.specs.Disk.{Disk}
use Rattle.mail_bytes.specs.Told.{Meets}
use Rattle.mem_fs.specs.MemDisk.{bytes_at}
use Rattle.crash_fs.specs.Crash.{Crash, crash_disk, crash_plan}
use Rattle.call_fs.specs.Plan.{Plan, no_plan}
use Rattle.world_events.specs.declared.answers.WorldError.{WorldError}
use Rattle.world_events.specs.declared.answers.WorldError.TheVariants as error
use Rattle.world_events.specs.declared.event.Event.{Event as Kept}
use Rattle.world_events.specs.declared.event.Event.TheVariants as kept
use Rattle.world_events.specs.declared.event.Program.TheVariants.{Injector}
use Rattle.mail_world.specs.History.{Event}
use Rattle.mail_world.specs.History.Event.{Start}
use Rattle.actor_names.specs.MailNames.{IsMailName}
use Rattle.mail_world.specs.World.{Seen, IsHistory, GoesOn, was_started, started_world, mail, next_pid as kept_pid}
use Rattle.mail_world.proofs.Lives.{started_is}
use Rattle.script_words.specs.declared.entry.Entry.{Entry}
use Rattle.script_lines.specs.declared.line.Line.{Line}
use Rattle.script_lines.specs.declared.line.Line.TheVariants as line
use Rattle.script_lines.specs.declared.keyword.Alone.TheVariants as alone
use Rattle.script_lines.specs.declared.keyword.OfActor.TheVariants as of_actor
use Rattle.script_lines.specs.declared.keyword.OfWord.{OfWord}
use Rattle.script_lines.specs.declared.keyword.OfWord.TheVariants as of_word
use Rattle.script_lines.specs.Contents.{HaveEntryPaths}
use Rattle.scenario.specs.Deeds.{Deed, history_of, after}
use Rattle.scenario.specs.Deeds.Deed.{Came}
use Rattle.script_disks.specs.FirstDisk.{IsFirstDisk}
use Rattle.scenario.specs.Played.{plan_after, Refusal, IsRefusalOf, Plays, PlaysAll, cat_line, refusal_line, next_pid}
use Rattle.scenario.specs.Summed.{sum_text}
use Rattle.scenario.specs.Steps.Outcome.{Happens, Is}
use Rattle.scenario.specs.declared.stepping.AfterStep.{AfterStep}
use Rattle.scenario.proofs.Carried.{not_member}
use Rattle.scenario.specs.Playing.{IsPlaying, HasStepped, HasPlayed, IsRefusedAs}
use Rattle.scenario.specs.inside.Playing.{HasPrinted}
use Rattle.scenario.specs.Shown.{IsShown}
use Rattle.scenario.specs.Text.{IsPlayed, IsBegun}
use Rattle.scenario.specs.Traced.{traced_after, traced_text}
use Rattle.scenario.proofs.FirstDisks.{first_disk}
use Rattle.scenario.proofs.Openings.{first_opens}
use Rattle.scenario.proofs.DeliveryNames.{mail_no_delivery}
use Rattle.scenario.proofs.Deeds.{tells, plain_on, playing_push, pid_told}
use Rattle.scenario.proofs.KeptEvents.{start_told}
use Rattle.scenario.proofs.ScriptRuns.{refused_with}

-- `step`

abbrev pub step_played : (d : Disk) (new : Seen Crash) (plan : Plan) (a : List ℕ) (left : AfterStep) (text : List ℕ) (h : List Deed) → HasStepped d new a left plan h
    → HasPlayed d new (line.Actor of_actor.Step a) text text plan h
step_played d new plan a left text h step = record {
  events = step.deed ∷ [];
  own = [];
  plays = (Happens step.deed, step.steps, refl, refl);
  playing = step.playing;
  text = sym (append-nil text);
}

abbrev pub step_refused : (d : Disk) (w : Seen Crash) (plan : Plan) (a : List ℕ) (text : List ℕ) (why : WorldError) (r : Refusal) (h : List Deed) → IsPlaying d w plan h
    → IsRefusedAs why d plan a h → IsRefusalOf why r → HasPlayed d w (line.Actor of_actor.Step a) text (text ++ refusal_line r a) plan h
step_refused d w plan a text why r h playing seen is = record {
  events = [];
  own = refusal_line r a;
  plays = (Is r, refused_with why r d plan a h seen is, refl, refl);
  playing = playing;
  text = refl;
}

-- `show`

abbrev pub show_played : (d : Disk) (w : Seen Crash) (plan : Plan) (text own after_text : List ℕ) (h : List Deed) → IsPlaying d w plan h → IsShown d (history_of h) own → after_text ≡ text ++ own
    → HasPlayed d w (line.Alone alone.Show) text after_text plan h
show_played d w plan text own after_text h playing shown is = record { events = []; own = own; plays = (refl, shown); playing = playing; text = is }

-- `sum`

abbrev pub sum_played : (d : Disk) (w : Seen Crash) (plan : Plan) (text own after_text : List ℕ) (h : List Deed) → IsPlaying d w plan h → own ≡ sum_text d (history_of h) → after_text ≡ text ++ own
    → HasPlayed d w (line.Alone alone.Sum) text after_text plan h
sum_played d w plan text own after_text h playing is put = record { events = []; own = own; plays = (refl, is); playing = playing; text = put }

-- `mail`

-- a start is refused for its name
pub only_taken : (why : WorldError) (r : Refusal) → (why ≡ error.Taken) ⊎ (why ≡ error.Memory) → IsRefusalOf why r → (why ≡ error.Taken) × (r ≡ Refusal.Taken)
only_taken (error.Gone name at) r one is = ⊎_elim (λ e. absurd (cc)) (λ e. absurd (cc)) one
only_taken (error.NotWaiting name) r one is = ⊎_elim (λ e. absurd (cc)) (λ e. absurd (cc)) one
only_taken error.Unknown r one is = ⊎_elim (λ e. absurd (cc)) (λ e. absurd (cc)) one
only_taken error.Taken r one is = (refl, is)
only_taken (error.Past now) r one is = ⊎_elim (λ e. absurd (cc)) (λ e. absurd (cc)) one
only_taken (error.Alive name) r one is = ⊎_elim (λ e. absurd (cc)) (λ e. absurd (cc)) one
only_taken error.Memory r one is = absurd is

abbrev pub mail_refused : (d : Disk) (w : Seen Crash) (plan : Plan) (name message envelope text : List ℕ) (h : List Deed) → IsPlaying d w plan h
    → (was_started w.events name ≡ true) ⊎ (¬ (IsMailName name)) → HasPlayed d w (line.Mail name message envelope) text (text ++ refusal_line Refusal.Taken name) plan h
mail_refused d w plan name message envelope text h playing why = record {
  events = [];
  own = refusal_line Refusal.Taken name;
  plays = (
    Is Refusal.Taken,
    inr (⊎_elim (λ used. inl (sym (started_is d (history_of h) w.events name playing.is.told) ∙ used)) (λ bad. inr bad) why, refl),
    refl,
    refl,
  );
  playing = playing;
  text = refl;
}

abbrev pub mail_started : (d : Disk) (old new : Seen Crash) (plan : Plan) (name message envelope text : List ℕ) (h : List Deed) → IsPlaying d old plan h → IsMailName name
    → new ≡ started_world old name message envelope → GoesOn tells old new → HasPlayed d new (line.Mail name message envelope) text text plan h
mail_started d old new plan name message envelope text h playing good started goes =
    let args = mail (kept_pid old.events) old.present message envelope in
    let k : Kept = kept.Start name (Injector args) in
    let events : new.events ≡ old.events ++ k ∷ [] = ap (λ (w : Seen Crash). w.events) started in
    let disk : new.disk ≡ old.disk = ap (λ (w : Seen Crash). w.disk) started in
    let e : Event = Start name (Injector args) in
    let next = plain_on d old new plan k h playing goes tt events in
    let now : IsHistory d (crash_disk new.disk) new.events new.present (e ∷ history_of h) =
    subst (λ (e : Event). IsHistory d (crash_disk new.disk) new.events new.present (e ∷ history_of h)) (start_told name (Injector args) next.0 next.2) next.1 in
    let same : args ≡ mail (next_pid h) (after d h).now message envelope =
    ap (λ n. mail n old.present message envelope) (pid_told old.events h playing.told)
    ∙ ap (λ p. mail (next_pid h) p message envelope) (sym playing.is.moment) in
    record {
      events = Came e ∷ [];
      own = [];
      plays = (Happens (Came e), inl (good, now.legal.1.new, ap (λ args. Happens (Came (Start name (Injector args)))) same), refl, refl);
      playing = playing_push d old new plan plan k (Came e) h playing events now refl (ap crash_plan disk ∙ playing.planned) tt (not_member name good, mail_no_delivery name good) tt;
      text = sym (append-nil text);
    }

-- `trace` and `cat`

abbrev pub trace_played : (d : Disk) (w : Seen Crash) (plan : Plan) (text : List ℕ) (h : List Deed) → IsPlaying d w plan h → HasPlayed d w (line.Alone alone.Trace) text text plan h
trace_played d w plan text h playing = record { events = []; own = []; plays = (refl, refl); playing = playing; text = sym (append-nil text) }

-- the only word of its kind
pub only_cat : (first : OfWord) → first ≡ of_word.Cat
only_cat of_word.Cat = refl

abbrev pub cat_played : (d : Disk) (w : Seen Crash) (plan : Plan) (path text after_text : List ℕ) (h : List Deed) → IsPlaying d w plan h
    → after_text ≡ text ++ cat_line path (bytes_at (crash_disk w.disk) path) → HasPlayed d w (line.Word of_word.Cat path) text after_text plan h
cat_played d w plan path text after_text h playing is = record {
  events = [];
  own = cat_line path (bytes_at (crash_disk w.disk) path);
  plays = (refl, ap (λ (now : Disk). cat_line path (bytes_at now path)) (sym playing.is.disk));
  playing = playing;
  text = is;
}

-- Lines one after the other

-- whether events are traced after these lines
abbrev pub traced_through : Bool → List Line → Bool
traced_through traced [] = traced
traced_through traced (first ∷ lines) = traced_through (traced_after traced first) lines

pub traced_push : (traced : Bool) (lines : List Line) (one : Line) → traced_through traced (lines ++ one ∷ []) ≡ traced_after (traced_through traced lines) one
traced_push traced [] one = refl
traced_push traced (first ∷ lines) one = traced_push (traced_after traced first) lines one

pub plays_push : (d : Disk) (h mid : List Deed) (plan left : Plan) (traced : Bool) (lines : List Line) (one : Line) (text own : List ℕ) (events : List Deed)
    → PlaysAll d h plan traced lines mid left text → Plays d mid left one events own
    → PlaysAll d h plan traced (lines ++ one ∷ []) (events ++ mid) (plan_after left one events own) (text ++ (traced_text (traced_through traced lines) events ++ own))
plays_push d h mid plan left traced [] one text own events all plays =
    let more = traced_text traced events ++ own in (
      events,
      own,
      [],
      subst (λ (plan : Plan). Plays d h plan one events own) all.1 (subst (λ (h : List Deed). Plays d h left one events own) all.0 plays),
      (ap (λ (h : List Deed). events ++ h) all.0, ap (λ (plan : Plan). plan_after plan one events own) all.1, refl),
      ap (λ t. t ++ more) all.2 ∙ sym (append-nil more),
    )
plays_push d h mid plan left traced (first ∷ lines) one text own events all plays =
    let more = traced_text (traced_through traced (first ∷ lines)) events ++ own in (
      all.0,
      all.1,
      all.2 ++ more,
      all.3,
      plays_push d (all.0 ++ h) mid (plan_after plan first all.0 all.1) left (traced_after traced first) lines one all.2 own events all.4 plays,
      ap (λ t. t ++ more) all.5 ∙ append_assoc (traced_text traced all.0 ++ all.1) all.2 more,
    )

-- These lines were played from the disk with these entries, and print this.
pub record HavePlayed (opening : List Entry) (lines : List Line) (w : Seen Crash) (traced : Bool) : Type 0 where
  pub disk : Disk
  pub is_first : IsFirstDisk opening disk
  pub deeds : List Deed
  pub left : Plan
  pub text : List ℕ
  pub plays : PlaysAll disk [] no_plan false lines deeds left text
  pub playing : IsPlaying disk w left deeds
  pub tracing : traced ≡ traced_through false lines

-- what is printed of a line, as `PlaysAll` says it
pub printed_text : (d : Disk) (v : Seen Crash) (traced through : Bool) (one : Line) (text : List ℕ) (plan : Plan) (h : List Deed) (printed : HasPrinted d v traced one text plan h)
    → traced ≡ through → traced_text through printed.played.events ++ printed.played.own ≡ text
printed_text d v traced through one text plan h printed same =
    ap (λ t. traced_text t printed.played.events ++ printed.played.own) (sym same)
    ∙ ap (λ own. traced_text traced printed.played.events ++ own) (sym printed.played.text)
    ∙ sym printed.text_is

abbrev pub play_goes_on : (opening : List Entry) (lines all : List Line) (one : Line) (w v : Seen Crash) (traced after : Bool) (text : List ℕ) (so : HavePlayed opening lines w traced)
    → HasPrinted so.disk v traced one text so.left so.deeds → all ≡ lines ++ one ∷ [] → after ≡ traced_after traced one → HavePlayed opening all v after
play_goes_on opening lines all one w v traced after text so printed is behind = record {
  disk = so.disk;
  is_first = so.is_first;
  deeds = printed.played.events ++ so.deeds;
  left = plan_after so.left one printed.played.events printed.played.own;
  text = so.text ++ text;
  plays =
      let left = plan_after so.left one printed.played.events printed.played.own in
      subst (λ (l : List Line). PlaysAll so.disk [] no_plan false l (printed.played.events ++ so.deeds) left (so.text ++ text)) (sym is)
      (subst (λ t. PlaysAll so.disk [] no_plan false (lines ++ one ∷ []) (printed.played.events ++ so.deeds) left (so.text ++ t))
      (printed_text so.disk v traced (traced_through false lines) one text so.left so.deeds printed so.tracing)
      (plays_push so.disk [] so.deeds no_plan so.left false lines one so.text printed.played.own printed.played.events so.plays printed.played.plays));
  playing = printed.played.playing;
  tracing = behind ∙ ap (λ t. traced_after t one) so.tracing ∙ sym (traced_push false lines one) ∙ ap (traced_through false) (sym is);
}

-- the history of a play is legal
abbrev pub is_played : (opening : List Entry) (lines : List Line) (w : Seen Crash) (traced : Bool) (so : HavePlayed opening lines w traced) → IsPlayed opening lines so.text
is_played opening lines w traced so = record {
  disk = so.disk;
  deeds = so.deeds;
  left = so.left;
  is_first = so.is_first;
  plays = so.plays;
  legal = so.playing.is.legal;
}

abbrev pub is_begun : (opening : List Entry) (lines first later : List Line) (text rest printed : List ℕ) → lines ≡ first ++ later → IsPlayed opening first printed → printed ≡ text ++ rest → IsBegun opening lines text
is_begun opening lines first later text rest printed is played cut = record { first = first; later = later; lines_are = is; printed = printed; rest = rest; played = played; text_is = cut }

-- nothing was played yet
abbrev pub nothing_begun : (opening : List Entry) (lines : List Line) → HaveEntryPaths opening → length opening < 2 ^ 64 → IsBegun opening lines []
nothing_begun opening lines paths few =
    let d = first_disk opening few in
    let opens = first_opens opening d.0 paths d.1 in
    record {
      first = [];
      later = lines;
      lines_are = refl;
      printed = [];
      rest = [];
      played = record {
        disk = d.0;
        deeds = [];
        left = no_plan;
        is_first = d.1;
        plays = (refl, refl, refl);
        legal = opens;
      };
      text_is = refl;
    }

abbrev pub nothing_played : (opening : List Entry) (d : Disk) (w : Seen Crash) → IsFirstDisk opening d → IsPlaying d w no_plan [] → HavePlayed opening [] w false
nothing_played opening d w first playing = record { disk = d; is_first = first; deeds = []; left = no_plan; text = []; plays = (refl, refl, refl); playing = playing; tracing = refl }

-- what an output took so far, and more
pub took_more : (a b c : Option (List ℕ)) (text : List ℕ) {Q : List ℕ → List ℕ → Type 0} (R : List ℕ → List ℕ → Type 0)
    → ((x y z : List ℕ) → y ≡ x ++ text → Q y z → R x z) → Meets a b (λ before after. after ≡ before ++ text) → Meets b c Q → Meets a c R
took_more (Some x) (Some y) (Some z) text R then one more = then x y z one more
took_more (Some x) (Some y) None text R then one more = absurd more
took_more (Some x) None c text R then one more = absurd one
took_more None (Some y) c text R then one more = absurd one
took_more None None (Some z) text R then one more = absurd more
took_more None None None text R then one more = tt

pub took_none : (a : Option (List ℕ)) (P : List ℕ → List ℕ → Type 0) → ((x : List ℕ) → P x x) → Meets a a P
took_none (Some x) P each = each x
took_none None P each = tt

-- the lines from one on
pub with_next : (lines : List Line) (i : ℕ) (one : Line) → i < length lines → one ≡ get_or lines i one → take (i + 1) lines ≡ take i lines ++ one ∷ []
with_next lines i one there is = take_more lines i one there ∙ ap (λ l. take i lines ++ l ∷ []) (sym is)
