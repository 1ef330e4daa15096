-- `sender` and `report`.
use Rattle.std.proofs.Common.{◌≡◌, ◌≢◌, ℕ, List, [], ◌∷◌, ◌++◌, reverse, All, Contains, Bool, true, false, ◌&&◌, if◌then◌else◌, Option, Some, None, refl, sym, ap, ◌∙◌, subst, arith}
use Rattle.std.proofs.lemmas.Bool.{and_parts}
use Rattle.std.specs.Prelude.{codes}
use Rattle.std.proofs.lemmas.List.{append-nil}
use Rattle.std.proofs.lemmas.List.Elements.{All-nil, All-cons, All-head, All-tail, Contains-append_right}
use Rattle.call_fs.specs.Disk.{Disk}
use Rattle.call_fs.specs.Plan.{Plan}
use Rattle.crash_fs.specs.Crash.{Crash, crash_disk, crash_plan}
use Rattle.actor_names.specs.MailNames.{members}
use Rattle.world_events.specs.declared.event.Event.{Event as Kept}
use Rattle.world_events.specs.declared.event.Event.TheVariants as kept
use Rattle.mail_world.specs.Generations.{generation_world, reported_world, IsFirstAlive, is_lasting, lives_in, is_unreported}
use Rattle.mail_world.specs.History.{Event, Actor, State, MayReport, report_text}
use Rattle.mail_world.specs.History.Event.{Report}
use Rattle.mail_world.specs.History.Life.{Alive}
use Rattle.mail_world.specs.Known.{known}
use Rattle.mail_world.specs.World.{Seen, Tells, IsHistory, GoesOn, Span, span_of}
use Rattle.mail_world.specs.World.Span.{Unborn, Lasting, OverAt}
use Rattle.script_lines.specs.declared.line.Line.TheVariants as line
use Rattle.script_lines.specs.declared.keyword.Alone.TheVariants as alone
use Rattle.script_words.specs.declared.letter.Letter.{Letter}
use Rattle.script_words.specs.Words.{letter_byte}
use Rattle.scenario.specs.Deeds.{Deed, history_of, after}
use Rattle.scenario.specs.Deeds.Deed.{Came}
use Rattle.scenario.specs.Steps.{Refusal, outcome_events, printed, refusal_line}
use Rattle.scenario.specs.Steps.Outcome.{Happens, Is}
use Rattle.scenario.specs.Turns.{first_alive, generation_at, generation_events, generation_text, awaits_report, report_comes}
use Rattle.scenario.specs.Playing.{IsPlaying, HasPlayed}
use Rattle.scenario.proofs.Carried.{lives_actor, dead_actor, living_in, unreported_is}
use Rattle.scenario.proofs.Deeds.{tells, plain_on, playing_push}
use Rattle.scenario.proofs.KeptEvents.{generation_told, report_told}
use Rattle.scenario.proofs.Knowing.{actors_told, pipework_told, may_report_same}
use Rattle.scenario.proofs.NextLiving.{lasts_told}

-- The first member that lives

pub none_first : (s : State) (names : List (List ℕ)) → All (λ a. lives_in (s.actors a) ≡ false) names → first_alive s names ≡ None
none_first s [] none = refl
none_first s (a ∷ names) none =
    ap (λ t. if t then Some a else first_alive s names) (All-head (λ b. lives_in (s.actors b) ≡ false) a names none)
    ∙ none_first s names (All-tail (λ b. lives_in (s.actors b) ≡ false) a names none)

first_after : (s : State) (before later : List (List ℕ)) (a : List ℕ) → All (λ b. lives_in (s.actors b) ≡ false) before → lives_in (s.actors a) ≡ true
    → first_alive s (before ++ a ∷ later) ≡ Some a
first_after s [] later a none lives = ap (λ t. if t then Some a else first_alive s later) lives
first_after s (b ∷ before) later a none lives =
    ap (λ t. if t then Some b else first_alive s (before ++ a ∷ later)) (All-head (λ b. lives_in (s.actors b) ≡ false) b before none)
    ∙ first_after s before later a (All-tail (λ b. lives_in (s.actors b) ≡ false) b before none) lives

not_lasting : (span : Span) → span ≢ Lasting → is_lasting span ≡ false
not_lasting Unborn other = refl
not_lasting Lasting other = absurd (other refl)
not_lasting (OverAt at) other = refl

all_dead : (s : State) (newest : List Kept) (names : List (List ℕ)) → ((a : List ℕ) → is_lasting (span_of a newest) ≡ lives_in (s.actors a))
    → All (λ b. span_of b newest ≢ Lasting) names → All (λ a. lives_in (s.actors a) ≡ false) names
all_dead s newest [] same none = All-nil (λ a. lives_in (s.actors a) ≡ false)
all_dead s newest (a ∷ names) same none =
    All-cons (λ b. lives_in (s.actors b) ≡ false) a names (sym (same a) ∙ not_lasting (span_of a newest) (All-head (λ b. span_of b newest ≢ Lasting) a names none))
    (all_dead s newest names same (All-tail (λ b. span_of b newest ≢ Lasting) a names none))

-- that of the kept events is that of the history that they tell
pub first_is : (d : Disk) (w : Seen Crash) (plan : Plan) (h : List Deed) (name : List ℕ) → IsPlaying d w plan h → IsFirstAlive w.events name → first_alive (after d h) members ≡ Some name
first_is d w plan h name playing first =
    let s = after d h in
    let same : (a : List ℕ) → is_lasting (span_of a (reverse w.events)) ≡ lives_in (s.actors a) =
    λ a. lasts_told d (reverse w.events) h playing.is.legal playing.told a in
    ap (first_alive s) first.among
    ∙ first_after s first.before first.later name (all_dead s (reverse w.events) first.before same first.none)
    (sym (same name) ∙ ap is_lasting first.lives)

pub none_lives : (s : State) (names : List (List ℕ)) → ((a : List ℕ) (x : Actor) → Contains names a → s.actors a ≡ Some x → x.life ≢ Alive) → All (λ a. lives_in (s.actors a) ≡ false) names
none_lives s [] over = All-nil (λ a. lives_in (s.actors a) ≡ false)
none_lives s (a ∷ names) over =
    All-cons (λ b. lives_in (s.actors b) ≡ false) a names (by (s.actors a) refl)
    (none_lives s names (λ b x here is. over b x (Contains-append_right (a ∷ []) names b here) is))
  where
    by : (o : Option Actor) → s.actors a ≡ o → lives_in (s.actors a) ≡ false
    by None is = ap lives_in is
    by (Some x) is = ap lives_in is ∙ dead_actor x (over a x (0, omega arith, refl) is)

-- `sender`

abbrev pub generation_played : (d : Disk) (old new : Seen Crash) (plan : Plan) (text : List ℕ) (h : List Deed) → IsPlaying d old plan h → new ≡ generation_world old → GoesOn tells old new
    → HasPlayed d new (line.Alone alone.Sender) text text plan h
generation_played d old new plan text h playing started goes =
    let s = after d h in
    let k : Kept = kept.Generation old.present in
    let events : new.events ≡ old.events ++ k ∷ [] = ap (λ (w : Seen Crash). w.events) started in
    let disk : new.disk ≡ old.disk = ap (λ (w : Seen Crash). w.disk) started in
    let next = plain_on d old new plan k h playing goes tt events in
    let told : next.0 ≡ generation_at s.now = generation_told old.present next.0 next.2 ∙ ap generation_at (sym playing.is.moment) in
    let now : IsHistory d (crash_disk new.disk) new.events new.present (generation_at s.now ∷ history_of h) =
    subst (λ (e : Event). IsHistory d (crash_disk new.disk) new.events new.present (e ∷ history_of h)) told next.1 in
    let none : first_alive s members ≡ None = none_first s members (none_lives s members now.legal.1.over) in
    record {
      events = Came (generation_at s.now) ∷ [];
      own = [];
      plays = (ap (generation_events s.now) (sym none), ap generation_text (sym none));
      playing = playing_push d old new plan plan k (Came (generation_at s.now)) h playing events now (subst (Tells k) told next.2) (ap crash_plan disk ∙ playing.planned) tt tt tt;
      text = sym (append-nil text);
    }

abbrev pub generation_refused : (d : Disk) (w : Seen Crash) (plan : Plan) (name text : List ℕ) (h : List Deed) → IsPlaying d w plan h → IsFirstAlive w.events name
    → HasPlayed d w (line.Alone alone.Sender) text (text ++ refusal_line Refusal.Alive name) plan h
generation_refused d w plan name text h playing first =
    let s = after d h in
    let is = first_is d w plan h name playing first in
    record {
      events = [];
      own = refusal_line Refusal.Alive name;
      plays = (ap (generation_events s.now) (sym is), ap generation_text (sym is));
      playing = playing;
      text = refl;
    }

-- `report`

awaits : (s : State) (slot : ℕ) → MayReport s slot → awaits_report s slot ≡ true
awaits s slot may =
    ap (λ t. t && is_unreported (s.pipework.programs (codes "rspawn") slot)) (ap lives_in may.lives.is ∙ lives_actor may.lives.actor may.lives.alive)
    ∙ ap is_unreported may.runs

pub may_report : (s : State) (slot : ℕ) → awaits_report s slot ≡ true → MayReport s slot
may_report s slot is =
    let tests = and_parts (lives_in (s.actors (codes "rspawn"))) (is_unreported (s.pipework.programs (codes "rspawn") slot)) is in
    record {
      lives = living_in s (codes "rspawn") (s.actors (codes "rspawn")) refl tests.0;
      runs = unreported_is (s.pipework.programs (codes "rspawn") slot) tests.1;
    }

-- one report more in a world
pub reported : (d : Disk) (old new : Seen Crash) (plan : Plan) (slot letter : ℕ) (text : List ℕ) (h : List Deed) → IsPlaying d old plan h → new ≡ reported_world old slot letter text → GoesOn tells old new
    → IsPlaying d new plan (Came (Report slot (report_text letter text)) ∷ h)
reported d old new plan slot letter text h playing did goes =
    let k : Kept = kept.Report slot letter text in
    let events : new.events ≡ old.events ++ k ∷ [] = ap (λ (w : Seen Crash). w.events) did in
    let disk : new.disk ≡ old.disk = ap (λ (w : Seen Crash). w.disk) did in
    let e : Event = Report slot (report_text letter text) in
    let next = plain_on d old new plan k h playing goes tt events in
    let now : IsHistory d (crash_disk new.disk) new.events new.present (e ∷ history_of h) =
    subst (λ (e : Event). IsHistory d (crash_disk new.disk) new.events new.present (e ∷ history_of h)) (report_told slot letter text next.0 next.2) next.1 in
    playing_push d old new plan plan k (Came e) h playing events now (letter, text, refl, refl) (ap crash_plan disk ∙ playing.planned) tt tt tt

pub report_comes_to : (s : State) (slot : ℕ) (letter : Letter) (text : List ℕ) → MayReport s slot → report_comes s slot letter text ≡ Happens (Came (Report slot (report_text (letter_byte letter) text)))
report_comes_to s slot letter text may = ap (λ t. if t then Happens (Came (Report slot (report_text (letter_byte letter) text))) else Is Refusal.NotWaiting) (awaits s slot may)

abbrev pub report_played : (d : Disk) (old new : Seen Crash) (plan : Plan) (slot : ℕ) (letter : Letter) (word text : List ℕ) (h : List Deed) → IsPlaying d old plan h
    → new ≡ reported_world old slot (letter_byte letter) word → GoesOn tells old new → HasPlayed d new (line.Report slot letter word) text text plan h
report_played d old new plan slot letter word text h playing did goes =
    let s = after d h in
    let now = reported d old new plan slot (letter_byte letter) word h playing did goes in
    let comes = report_comes_to s slot letter word now.is.legal.1 in
    record {
      events = Came (Report slot (report_text (letter_byte letter) word)) ∷ [];
      own = [];
      plays = (ap outcome_events (sym comes), ap (printed (codes "rspawn")) (sym comes));
      playing = now;
      text = sym (append-nil text);
    }

pub not_true : (t : Bool) → (t ≡ true → ⊥) → t ≡ false
not_true true none = absurd (none refl)
not_true false none = refl

abbrev pub report_refused : (d : Disk) (w : Seen Crash) (plan : Plan) (slot : ℕ) (letter : Letter) (word text : List ℕ) (h : List Deed) → IsPlaying d w plan h → ¬ (MayReport (known w.events) slot)
    → HasPlayed d w (line.Report slot letter word) text (text ++ refusal_line Refusal.NotWaiting (codes "rspawn")) plan h
report_refused d w plan slot letter word text h playing none =
    let s = after d h in
    let comes : report_comes s slot letter word ≡ Is Refusal.NotWaiting =
    ap (λ t. if t then Happens (Came (Report slot (report_text (letter_byte letter) word))) else Is Refusal.NotWaiting) (not_true (awaits_report s slot) (λ is. none (may_report_same (known w.events) s (sym (actors_told d w.events (history_of h) playing.is.told)) (sym (pipework_told d w.events (history_of h) playing.is.told playing.whole)) slot (may_report s slot is)))) in
    record {
      events = [];
      own = refusal_line Refusal.NotWaiting (codes "rspawn");
      plays = (ap outcome_events (sym comes), ap (printed (codes "rspawn")) (sym comes));
      playing = playing;
      text = refl;
    }
