-- What a world keeps tells the deeds of a play, and those the history.
use Rattle.std.proofs.Common.{◌≡◌, inl, inr, ℕ, List, [], ◌∷◌, ◌++◌, length, reverse, Bool, true, false, if◌then◌else◌, Option, Some, refl, sym, ap, ◌∙◌, subst, arith, bytes_eq}
use Rattle.std.specs.Prelude.{cond, count_by}
use Rattle.std.specs.List.{AllByRecursion, AllZip, sum_by}
use Rattle.std.proofs.lemmas.List.{reverse-append, length-reverse}
use Rattle.std.proofs.lemmas.List.Sums.{sum_by-append, sum_by-cons}
use Rattle.std.proofs.lemmas.Slice.Zip.{AllZip-long}
use Rattle.call_fs.specs.declared.past.Own.{Own}
use Rattle.call_fs.specs.Disk.{Disk}
use Rattle.call_fs.specs.Plan.{Plan}
use Rattle.crash_fs.specs.Crash.{Crash, crash_disk, crash_plan}
use Rattle.world_events.specs.Children.{counted, counts_in as kept_counts, is_bounce, is_bounce_start, is_delivery, is_delivery_start}
use Rattle.world_events.specs.Inputs.{with_texts, start_with, with_inputs}
use Rattle.world_events.specs.Starting.{starts_in}
use Rattle.world_events.specs.declared.event.Event.{Event as Kept}
use Rattle.world_events.specs.declared.event.Event.TheVariants as kept
use Rattle.world_events.specs.declared.event.Program.{Program}
use Rattle.world_events.specs.declared.event.Program.TheVariants.{Injector, Delivery}
use Rattle.mail_world.specs.ByKind.{IsMail}
use Rattle.mail_world.specs.Generations.{started_in as kept_started, starts_of as kept_starts}
use Rattle.mail_world.specs.History.{Event}
use Rattle.mail_world.specs.History.Event.{Start, Act, Child, Generation, Report, End, Stop, Moment, Halt}
use Rattle.mail_world.specs.Wired.{AreWholeGivings, IsWholeGiving}
use Rattle.mail_world.specs.World.{Seen, Tells, GoesOn, IsBefore, IsHistory, begun_with, next_pid as kept_pid, pid_after}
use Rattle.mail_world.proofs.Histories.{began_told}
use Rattle.mail_world.proofs.Known.{IsPlain, inputs_push, inputs_fed}
use Rattle.mail_world.proofs.Lives.{starts_alike}
use Rattle.mail_world.proofs.Piped.{whole_push}
use Rattle.scenario.specs.Deeds.{Deed, TellsDeed, event_in, history_of, started, next_pid, bears_such, is_bounce_birth, is_delivery_birth, counts_in}
use Rattle.scenario.specs.Deeds.Deed.{Came, Fed}
use Rattle.scenario.specs.Fates.{IsFedSo, IsNamedStart, IsNamedSo, AreNamedStarts}
use Rattle.scenario.specs.Playing.{IsPlaying}
use Rattle.scenario.specs.Turns.{started_in, starts_of}

-- The history of deeds that are told is told

-- one event more is told
abbrev TellsMore : List Kept → List Event → Event → Kept → Type 0
TellsMore ks h e k = AllZip Tells (with_inputs (k ∷ ks)) (e ∷ h)

came_told : (ks : List Kept) (h : List Event) (k : Kept) (e : Event) → Tells k e → AllZip Tells (with_inputs ks) h → TellsMore ks h e k
came_told ks h k (Start a program) is told = subst (TellsMore ks h (Start a program)) (sym is) (refl, told)
came_told ks h k (Act a own wrote) is told = subst (TellsMore ks h (Act a own wrote)) (sym is) (refl, told)
came_told ks h k (Child parent own a program) is told = subst (TellsMore ks h (Child parent own a program)) (sym is) (refl, told)
came_told ks h k (Generation crew) is told = subst (TellsMore ks h (Generation crew)) (sym is.1) ((is.0, refl, is.2), told)
came_told ks h k (Report slot output) is told = subst (TellsMore ks h (Report slot output)) (sym is.2) ((is.0, is.1, refl, is.3), told)
came_told ks h k (End a read ready status) is told = subst (TellsMore ks h (End a read ready status)) (sym is) (refl, told)
came_told ks h k (Stop a) is told = subst (TellsMore ks h (Stop a)) (sym is) (refl, told)
came_told ks h k (Moment m) is told = subst (TellsMore ks h (Moment m)) (sym is) (refl, told)
came_told ks h k (Halt how contents) is told = subst (TellsMore ks h (Halt how contents)) (sym is) (refl, told)

pub history_told : (ks : List Kept) (h : List Deed) → AllZip TellsDeed ks h → AllZip Tells (with_inputs ks) (history_of h)
history_told [] [] told = tt
history_told [] (x ∷ h) told = absurd told
history_told (k ∷ ks) [] told = absurd told
history_told (k ∷ ks) ((Came e) ∷ h) told = came_told ks (history_of h) k e told.0 (history_told ks h told.1)
history_told (k ∷ ks) ((Fed a own c message envelope) ∷ h) told =
    let whole = history_of ((Fed a own c message envelope) ∷ h) in
    subst (λ (k : Kept). AllZip Tells (with_inputs (k ∷ ks)) whole) (sym told.0) (refl, began_told c message envelope (with_inputs ks) (history_of h) (history_told ks h told.1))

-- one deed more
pub told_push : (events : List Kept) (k : Kept) (x : Deed) (h : List Deed) → TellsDeed k x → AllZip TellsDeed (reverse events) h → AllZip TellsDeed (reverse (events ++ k ∷ [])) (x ∷ h)
told_push events k x h is told = subst (λ (l : List Kept). AllZip TellsDeed l (x ∷ h)) (sym (reverse-append events (k ∷ []))) (is, told)

-- as many as were kept
pub told_long : (events : List Kept) (h : List Deed) → AllZip TellsDeed (reverse events) h → length events ≡ length h
told_long events h told = sym (length-reverse events) ∙ sym (AllZip-long TellsDeed (reverse events) h told)

-- Histories that are alike but for the programs of children, and are told by the same events, are one

-- the event itself, or the same start of a child with another program
abbrev pub IsLike : Event → Event → Type 0
IsLike (Child parent own a program) e = (other : Program) × (e ≡ Child parent own a other)
IsLike (Start a program) e = e ≡ Start a program
IsLike (Act a own wrote) e = e ≡ Act a own wrote
IsLike (Generation crew) e = e ≡ Generation crew
IsLike (Report slot output) e = e ≡ Report slot output
IsLike (End a read ready status) e = e ≡ End a read ready status
IsLike (Stop a) e = e ≡ Stop a
IsLike (Moment m) e = e ≡ Moment m
IsLike (Halt how contents) e = e ≡ Halt how contents

like_itself : (e : Event) → IsLike e e
like_itself (Child parent own a program) = (program, refl)
like_itself (Start a program) = refl
like_itself (Act a own wrote) = refl
like_itself (Generation crew) = refl
like_itself (Report slot output) = refl
like_itself (End a read ready status) = refl
like_itself (Stop a) = refl
like_itself (Moment m) = refl
like_itself (Halt how contents) = refl

all_like : (h : List Event) → AllZip IsLike h h
all_like [] = tt
all_like (e ∷ h) = (like_itself e, all_like h)

begun_like : (c message envelope : List ℕ) (h : List Event) → AllZip IsLike h (begun_with c message envelope h)
begun_like c message envelope [] = tt
begun_like c message envelope ((Child parent own a program) ∷ h) = by_test (bytes_eq a c) (begun_like c message envelope h) where
  by_test : (t : Bool) → AllZip IsLike h (begun_with c message envelope h)
      → AllZip IsLike (Child parent own a program ∷ h) (if t then (Child parent own a (with_texts message envelope program)) ∷ h else (Child parent own a program ∷ begun_with c message envelope h))
  by_test true rest = ((with_texts message envelope program, refl), all_like h)
  by_test false rest = ((program, refl), rest)
begun_like c message envelope ((Start a program) ∷ h) = (refl, begun_like c message envelope h)
begun_like c message envelope ((Act a own wrote) ∷ h) = (refl, begun_like c message envelope h)
begun_like c message envelope ((Generation crew) ∷ h) = (refl, begun_like c message envelope h)
begun_like c message envelope ((Report slot output) ∷ h) = (refl, begun_like c message envelope h)
begun_like c message envelope ((End a read ready status) ∷ h) = (refl, begun_like c message envelope h)
begun_like c message envelope ((Stop a) ∷ h) = (refl, begun_like c message envelope h)
begun_like c message envelope ((Moment m) ∷ h) = (refl, begun_like c message envelope h)
begun_like c message envelope ((Halt how contents) ∷ h) = (refl, begun_like c message envelope h)

one_event : (k : Kept) (b e f : Event) → Tells k e → Tells k f → IsLike b e → IsLike b f → e ≡ f
one_event k (Child parent own a program) e f first second one other =
    let here : k ≡ kept.Child parent own a one.0 = subst (Tells k) one.1 first in
    let there : k ≡ kept.Child parent own a other.0 = subst (Tells k) other.1 second in
    let same : kept.Child parent own a one.0 ≡ kept.Child parent own a other.0 = sym here ∙ there in
    let program : one.0 ≡ other.0 = cc in
    one.1 ∙ ap (λ (p : Program). Child parent own a p) program ∙ sym other.1
one_event k (Start a program) e f first second one other = one ∙ sym other
one_event k (Act a own wrote) e f first second one other = one ∙ sym other
one_event k (Generation crew) e f first second one other = one ∙ sym other
one_event k (Report slot output) e f first second one other = one ∙ sym other
one_event k (End a read ready status) e f first second one other = one ∙ sym other
one_event k (Stop a) e f first second one other = one ∙ sym other
one_event k (Moment m) e f first second one other = one ∙ sym other
one_event k (Halt how contents) e f first second one other = one ∙ sym other

one_history : (ks : List Kept) (h g f : List Event) → AllZip Tells ks g → AllZip Tells ks f → AllZip IsLike h g → AllZip IsLike h f → g ≡ f
one_history ks [] [] [] first second one other = refl
one_history ks [] [] (e ∷ f) first second one other = absurd other
one_history ks [] (e ∷ g) f first second one other = absurd one
one_history ks (b ∷ h) [] f first second one other = absurd one
one_history ks (b ∷ h) (e ∷ g) [] first second one other = absurd other
one_history [] (b ∷ h) (e ∷ g) (d ∷ f) first second one other = absurd first
one_history (k ∷ ks) (b ∷ h) (e ∷ g) (d ∷ f) first second one other =
    ap (λ (e : Event). e ∷ g) (one_event k b e d first.0 second.0 one.0 other.0) ∙ ap (λ (g : List Event). d ∷ g) (one_history ks h g f first.1 second.1 one.1 other.1)

before_like : (e : Event) (h later : List Event) → IsBefore e h later → AllZip IsLike h later
before_like e h later (inl same) = subst (AllZip IsLike h) (sym same) (all_like h)
before_like e h later (inr given) = subst (AllZip IsLike h) (sym given.later_is) (begun_like given.child given.message given.envelope h)

-- One event more in a world

-- that gives no child its input: what came before it is as it was
pub plain_before : (events : List Kept) (k : Kept) (h : List Deed) (e : Event) (later : List Event) → IsPlain k → AllZip TellsDeed (reverse events) h → IsBefore e (history_of h) later
    → AllZip Tells (with_inputs (reverse (events ++ k ∷ []))) (e ∷ later) → Tells k e × (later ≡ history_of h)
plain_before events k h e later plain was before told =
    let now = subst (λ (l : List Kept). AllZip Tells l (e ∷ later)) (inputs_push events k plain) told in
    (now.0, one_history (with_inputs (reverse events)) (history_of h) later (history_of h) now.1 (history_told (reverse events) h was) (before_like e (history_of h) later before) (all_like (history_of h)))

-- that gives it
pub fed_before : (events : List Kept) (a : List ℕ) (own : Own) (c message envelope : List ℕ) (h : List Deed) (e : Event) (later : List Event) → AllZip TellsDeed (reverse events) h
    → IsBefore e (history_of h) later → AllZip Tells (with_inputs (reverse (events ++ kept.Feed a own c message envelope ∷ []))) (e ∷ later)
    → Tells (kept.Act a own) e × (later ≡ begun_with c message envelope (history_of h))
fed_before events a own c message envelope h e later was before told =
    let ks = with_inputs (reverse events) in
    let now = subst (λ (l : List Kept). AllZip Tells l (e ∷ later)) (inputs_fed events a own c message envelope) told in (
      now.0,
      one_history (start_with c message envelope ks) (history_of h) later (begun_with c message envelope (history_of h)) now.1
          (began_told c message envelope ks (history_of h) (history_told (reverse events) h was)) (before_like e (history_of h) later before) (begun_like c message envelope (history_of h)),
    )

abbrev pub tells : Crash → Option Disk
tells m = Some (crash_disk m)

-- so it is in the history of a play
pub plain_on : (d : Disk) (old new : Seen Crash) (plan : Plan) (k : Kept) (h : List Deed) → IsPlaying d old plan h → GoesOn tells old new → IsPlain k → new.events ≡ old.events ++ k ∷ []
    → (e : Event) × IsHistory d (crash_disk new.disk) new.events new.present (e ∷ history_of h) × Tells k e
plain_on d old new plan k h playing goes plain events =
    let next = goes d (history_of h) playing.is in
    let is = plain_before old.events k h next.0 next.1 plain playing.told next.2 (subst (λ (l : List Kept). AllZip Tells (with_inputs (reverse l)) (next.0 ∷ next.1)) events next.3.told) in
    (next.0, subst (λ (l : List Event). IsHistory d (crash_disk new.disk) new.events new.present (next.0 ∷ l)) is.1 next.3, is.0)

pub fed_on : (d : Disk) (old new : Seen Crash) (plan : Plan) (a : List ℕ) (own : Own) (c message envelope : List ℕ) (h : List Deed) → IsPlaying d old plan h → GoesOn tells old new
    → new.events ≡ old.events ++ kept.Feed a own c message envelope ∷ []
    → (e : Event) × IsHistory d (crash_disk new.disk) new.events new.present (e ∷ begun_with c message envelope (history_of h)) × Tells (kept.Act a own) e
fed_on d old new plan a own c message envelope h playing goes events =
    let next = goes d (history_of h) playing.is in
    let is = fed_before old.events a own c message envelope h next.0 next.1 playing.told next.2 (subst (λ (l : List Kept). AllZip Tells (with_inputs (reverse l)) (next.0 ∷ next.1)) events next.3.told) in
    (next.0, subst (λ (l : List Event). IsHistory d (crash_disk new.disk) new.events new.present (next.0 ∷ l)) is.1 next.3, is.0)

-- an injector is one with any input
pub texts_mail : (message envelope : List ℕ) (program : Program) → IsMail program → IsMail (with_texts message envelope program)
texts_mail message envelope (Injector args) mail = tt
texts_mail message envelope other mail = absurd mail

-- its name suits it as before
pub texts_named : (a message envelope : List ℕ) (program : Program) → IsNamedSo a program → IsNamedSo a (with_texts message envelope program)
texts_named a message envelope (Injector args) named = named
texts_named a message envelope (Delivery start args) named = named
texts_named a message envelope other named = absurd named

-- the starts are as they should be, whatever input stands in them
pub starts_begun : (c message envelope : List ℕ) (h : List Event) → AreNamedStarts h → AreNamedStarts (begun_with c message envelope h)
starts_begun c message envelope [] starts = tt
starts_begun c message envelope ((Child parent own a program) ∷ h) starts = by_test (bytes_eq a c) (starts_begun c message envelope h starts.1) where
  by_test : (t : Bool) → AreNamedStarts (begun_with c message envelope h)
      → AreNamedStarts (if t then (Child parent own a (with_texts message envelope program)) ∷ h else (Child parent own a program ∷ begun_with c message envelope h))
  by_test true rest = ((starts.0.0, texts_named a message envelope program starts.0.1), starts.1)
  by_test false rest = (starts.0, rest)
starts_begun c message envelope ((Start a program) ∷ h) starts = (starts.0, starts_begun c message envelope h starts.1)
starts_begun c message envelope ((Act a own wrote) ∷ h) starts = (starts.0, starts_begun c message envelope h starts.1)
starts_begun c message envelope ((Generation crew) ∷ h) starts = (starts.0, starts_begun c message envelope h starts.1)
starts_begun c message envelope ((Report slot output) ∷ h) starts = (starts.0, starts_begun c message envelope h starts.1)
starts_begun c message envelope ((End a read ready status) ∷ h) starts = (starts.0, starts_begun c message envelope h starts.1)
starts_begun c message envelope ((Stop a) ∷ h) starts = (starts.0, starts_begun c message envelope h starts.1)
starts_begun c message envelope ((Moment m) ∷ h) starts = (starts.0, starts_begun c message envelope h starts.1)
starts_begun c message envelope ((Halt how contents) ∷ h) starts = (starts.0, starts_begun c message envelope h starts.1)

pub starts_more : (x : Deed) (h : List Deed) → IsNamedStart (event_in x) → AreNamedStarts (history_of h) → AreNamedStarts (history_of (x ∷ h))
starts_more (Came e) h one starts = (one, starts)
starts_more (Fed a own c message envelope) h one starts = (one, starts_begun c message envelope (history_of h) starts)

-- one deed more in a play
pub playing_push : (d : Disk) (old new : Seen Crash) (plan left : Plan) (k : Kept) (x : Deed) (h : List Deed) → IsPlaying d old plan h → new.events ≡ old.events ++ k ∷ []
    → IsHistory d (crash_disk new.disk) new.events new.present (history_of (x ∷ h)) → TellsDeed k x → crash_plan new.disk ≡ Some left → IsWholeGiving k → IsNamedStart (event_in x)
    → IsFedSo k → IsPlaying d new left (x ∷ h)
playing_push d old new plan left k x h playing events is told planned whole start fed = record {
  is = is;
  told = subst (λ (l : List Kept). AllZip TellsDeed (reverse l) (x ∷ h)) (sym events) (told_push old.events k x h told playing.told);
  planned = planned;
  whole = subst (λ (l : List Kept). AreWholeGivings (reverse l)) (sym events) (whole_push old.events k playing.whole whole);
  starts = starts_more x h start playing.starts;
  fed = subst (λ (l : List Kept). AllByRecursion IsFedSo l) (sym (ap reverse events ∙ reverse-append old.events (k ∷ []))) (fed, playing.fed);
}

-- an event that gives no child its input gives none to a delivery
pub plain_fed : (k : Kept) → IsPlain k → IsFedSo k
plain_fed (kept.Feed a own c message envelope) plain = absurd plain
plain_fed (kept.Start a program) plain = tt
plain_fed (kept.Act a own) plain = tt
plain_fed (kept.Child a own c program) plain = tt
plain_fed (kept.Generation start) plain = tt
plain_fed (kept.Report slot letter text) plain = tt
plain_fed (kept.End a read ready status) plain = tt
plain_fed (kept.Stop a) plain = tt
plain_fed (kept.Moment m) plain = tt
plain_fed (kept.Halt how) plain = tt

-- What deeds started

pub sum_turned : {X : Type 0} (f : X → ℕ) (xs : List X) → sum_by f (reverse xs) ≡ sum_by f xs
sum_turned f [] = refl
sum_turned f (x ∷ xs) =
    let one = sum_by-append f (reverse xs) (x ∷ []) in
    let last = sum_by-cons f x [] in
    let rest = sum_turned f xs in
    let all = sum_by-cons f x xs in
    let turned : reverse (x ∷ xs) ≡ reverse xs ++ x ∷ [] = reverse-append (x ∷ []) xs in
    ap (sum_by f) turned ∙ omega (arith, one, last, rest, all)

module _ (f : Kept → ℕ) (g : Deed → ℕ) (each : (k : Kept) (x : Deed) → TellsDeed k x → f k ≡ g x) where
  sums : (ks : List Kept) (h : List Deed) → AllZip TellsDeed ks h → sum_by f ks ≡ sum_by g h
  sums [] [] told = refl
  sums [] (x ∷ h) told = absurd told
  sums (k ∷ ks) [] told = absurd told
  sums (k ∷ ks) (x ∷ h) told =
      let one = each k x told.0 in
      let rest = sums ks h told.1 in
      let kept = sum_by-cons f k ks in
      let all = sum_by-cons g x h in
      omega (arith, one, rest, kept, all)

  pub sums_told : (events : List Kept) (h : List Deed) → AllZip TellsDeed (reverse events) h → sum_by f events ≡ sum_by g h
  sums_told events h told = sym (sum_turned f events) ∙ sums (reverse events) h told

same_count : (k : Kept) (x : Deed) → TellsDeed k x → starts_in k ≡ started x
same_count k (Came e) told = starts_alike k e told
same_count k (Fed a own c message envelope) told = ap starts_in told

pub starts_told : (events : List Kept) (h : List Deed) → AllZip TellsDeed (reverse events) h → sum_by starts_in events ≡ sum_by started h
starts_told events h told = sums_told starts_in started same_count events h told

pub pid_told : (events : List Kept) (h : List Deed) → AllZip TellsDeed (reverse events) h → kept_pid events ≡ next_pid h
pid_told events h told = ap pid_after (starts_told events h told)

event_bears : (kept_so : Kept → Bool) (is_such : Program → Bool) → ((k : Kept) (e : Event) → Tells k e → kept_so k ≡ bears_such is_such e)
    → ((a : List ℕ) (own : Own) (c message envelope : List ℕ) → kept_so (kept.Feed a own c message envelope) ≡ false) → (k : Kept) (x : Deed) → TellsDeed k x
    → kept_so k ≡ bears_such is_such (event_in x)
event_bears kept_so is_such each fed k (Came e) told = each k e told
event_bears kept_so is_such each fed k (Fed a own c message envelope) told = ap kept_so told ∙ fed a own c message envelope

bounce_told : (k : Kept) (e : Event) → Tells k e → is_bounce_start k ≡ bears_such is_bounce e
bounce_told k (Start a program) told = ap is_bounce_start told
bounce_told k (Act a own w) told = ap is_bounce_start told
bounce_told k (Child parent own a program) told = ap is_bounce_start told
bounce_told k (Generation crew) told = ap is_bounce_start told.1
bounce_told k (Report slot output) told = ap is_bounce_start told.2
bounce_told k (End a read ready status) told = ap is_bounce_start told
bounce_told k (Stop a) told = ap is_bounce_start told
bounce_told k (Moment m) told = ap is_bounce_start told
bounce_told k (Halt how contents) told = ap is_bounce_start told

delivery_told : (k : Kept) (e : Event) → Tells k e → is_delivery_start k ≡ bears_such is_delivery e
delivery_told k (Start a program) told = ap is_delivery_start told
delivery_told k (Act a own w) told = ap is_delivery_start told
delivery_told k (Child parent own a program) told = ap is_delivery_start told
delivery_told k (Generation crew) told = ap is_delivery_start told.1
delivery_told k (Report slot output) told = ap is_delivery_start told.2
delivery_told k (End a read ready status) told = ap is_delivery_start told
delivery_told k (Stop a) told = ap is_delivery_start told
delivery_told k (Moment m) told = ap is_delivery_start told
delivery_told k (Halt how contents) told = ap is_delivery_start told

births_told : (kept_so : Kept → Bool) (deed_so : Deed → Bool) → ((k : Kept) (x : Deed) → TellsDeed k x → kept_so k ≡ deed_so x) → (events : List Kept) (h : List Deed)
    → AllZip TellsDeed (reverse events) h → count_by kept_so events ≡ count_by deed_so h
births_told kept_so deed_so each events h told =
    sums_told (λ k. cond (kept_so k) 1 0) (λ x. cond (deed_so x) 1 0) (λ k x is. ap (λ (t : Bool). cond t 1 0) (each k x is)) events h told

pub counts_told : (events : List Kept) (h : List Deed) → AllZip TellsDeed (reverse events) h → kept_counts events ≡ counts_in h
counts_told events h told =
    ap (λ (n : ℕ). counted n (count_by is_delivery_start events)) (births_told is_bounce_start is_bounce_birth (event_bears is_bounce_start is_bounce bounce_told (λ a own c message envelope. refl)) events h told)
    ∙ ap (λ (n : ℕ). counted (count_by is_bounce_birth h) n) (births_told is_delivery_start is_delivery_birth (event_bears is_delivery_start is_delivery delivery_told (λ a own c message envelope. refl)) events h told)

-- the actors that they started, in order
event_started : (k : Kept) (e : Event) → Tells k e → kept_started k ≡ started_in e
event_started k (Start a program) told = ap kept_started told
event_started k (Act a own w) told = ap kept_started told
event_started k (Child parent own a program) told = ap kept_started told
event_started k (Generation crew) told = ap kept_started told.1
event_started k (Report slot output) told = ap kept_started told.2
event_started k (End a read ready status) told = ap kept_started told
event_started k (Stop a) told = ap kept_started told
event_started k (Moment m) told = ap kept_started told
event_started k (Halt how contents) told = ap kept_started told

pub same_started : (k : Kept) (x : Deed) → TellsDeed k x → kept_started k ≡ started_in (event_in x)
same_started k (Came e) told = event_started k e told
same_started k (Fed a own c message envelope) told = ap kept_started told

pub same_starts : (newest : List Kept) (h : List Deed) → AllZip TellsDeed newest h → kept_starts newest ≡ starts_of h
same_starts [] [] told = refl
same_starts [] (x ∷ h) told = absurd told
same_starts (k ∷ newest) [] told = absurd told
same_starts (k ∷ newest) (x ∷ h) told =
    ap (λ (l : List (List ℕ)). l ++ kept_started k) (same_starts newest h told.1) ∙ ap (λ (l : List (List ℕ)). starts_of h ++ l) (same_started k x told.0)
