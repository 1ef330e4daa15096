-- What kept events tell of who was started and who has ended, whatever history they tell.
use Rattle.std.proofs.Common.{◌≡◌, ◌≢◌, ◌⊎◌, inl, inr, ℕ, ◌+◌, List, [], ◌∷◌, length, Bool, true, false, ◌||◌, is_some, Option, Some, None, refl, sym, ap, ◌∙◌, subst, ⊎_elim, arith, bytes_eq, codes, reverse}
use Rattle.std.proofs.Math.Bool.{or-false, or-true}
use Rattle.std.proofs.lemmas.Grind.{reverse_onto}
use Rattle.std.proofs.lemmas.List.Folds.{list_any-append}
use Rattle.std.proofs.lemmas.List.Sums.{sum_by-append, sum_by-cons}
use Rattle.std.specs.Prelude.{if◌then◌else◌}
use Rattle.std.specs.List.{sum_by, list_any, AllZip}
use Rattle.std.specs.Option.{option_map}
use Rattle.call_fs.specs.declared.past.Own.{Own}
use Rattle.call_fs.specs.declared.crash_file_system.Survival.{Survival}
use Rattle.call_fs.specs.Disk.{Disk}
use Rattle.call_fs.specs.Maps.{put_at}
use Rattle.call_fs.proofs.Maps.{put_at_same, put_at_other}
use Rattle.world_events.specs.declared.event.Event.{Event as Kept}
use Rattle.world_events.specs.declared.event.Event.TheVariants as kept
use Rattle.world_events.specs.declared.event.Program.{Program}
use Rattle.world_events.specs.declared.event.Program.TheVariants.{Cleaner, Sender, LocalSpawner, RemoteSpawner}
use Rattle.world_events.specs.Inputs.{with_texts, start_with, with_inputs}
use Rattle.mail_world.specs.Pipework.{is_member}
use Rattle.mail_world.specs.History.{Event, Actor, Life, State, Allowed, Legal, newborn, stopped, acted, finished, started_by, happens, after}
use Rattle.mail_world.specs.History.Event.{Start, Act, Child, Generation, Report, End, Stop, Moment, Halt}
use Rattle.mail_world.specs.History.Life.{Alive, Over, Stopped}
use Rattle.mail_world.specs.World.{Tells, Span, span_after, span_of, EndsAt, starts, ends, was_started, starts_in}
use Rattle.mail_world.specs.World.Span.{Unborn, Lasting, OverAt}
use Rattle.queue_law.proofs.Tests.{text_cases, same_text, other_text}
use Rattle.mail_world.proofs.Owns.{may_read}
use Rattle.mail_world.proofs.Spans.{span_still, span_begins, span_ends, span_inputs}
use Rattle.mail_world.proofs.Halts.{never_alive}
use Rattle.mail_world.proofs.Members.{are_four, whether, member_contained, four_other, four_new}

-- who was started

-- another value in place of an old one: what had a value has one, and nothing else
still_there : (m : List ℕ → Option Actor) (b : List ℕ) (x y : Actor) (a : List ℕ) → m b ≡ Some x → is_some (put_at m b (Some y) a) ≡ is_some (m a)
still_there m b x y a is = ⊎_elim
    (λ f. ap is_some (ap (put_at m b (Some y)) f.0 ∙ put_at_same m b (Some y)) ∙ sym (ap is_some (ap m f.0 ∙ is)))
    (λ f. ap is_some (put_at_other m b (Some y) a f.0))
    (text_cases a b)

acted_there : (s : State) (b : List ℕ) (own : Own) (w : ℕ) (o : Option Actor) (a : List ℕ) → s.actors b ≡ o → is_some ((acted s b own w o).actors a) ≡ is_some (s.actors a)
acted_there s b own w None a is = refl
acted_there s b own w (Some x) a is = still_there s.actors b x _ a is

finished_there : (s : State) (b : List ℕ) (life : Life) (o : Option Actor) (a : List ℕ) → s.actors b ≡ o → is_some ((finished s b life o).actors a) ≡ is_some (s.actors a)
finished_there s b life None a is = refl
finished_there s b life (Some x) a is = still_there s.actors b x _ a is

started_there : (m : List ℕ → Option Actor) (b : List ℕ) (y : Actor) (a : List ℕ) → (is_some (m a) || bytes_eq b a) ≡ is_some (put_at m b (Some y) a)
started_there m b y a = ⊎_elim
    (λ f. ap (λ t. is_some (m a) || t) (ap (bytes_eq b) f.0 ∙ same_text b) ∙ or-true (is_some (m a)) ∙ sym (ap is_some (ap (put_at m b (Some y)) f.0 ∙ put_at_same m b (Some y))))
    (λ f. ap (λ t. is_some (m a) || t) (other_text b a (λ e. f.0 (sym e))) ∙ or-false (is_some (m a)) ∙ sym (ap is_some (put_at_other m b (Some y) a f.0)))
    (text_cases a b)

some_stopped : (o : Option Actor) → is_some (option_map stopped o) ≡ is_some o
some_stopped None = refl
some_stopped (Some x) = refl

-- a name before or after it, in a test
turned_text : (a b : List ℕ) → bytes_eq a b ≡ bytes_eq b a
turned_text a b = ⊎_elim
    (λ f. f.1 ∙ sym (ap (λ (c : List ℕ). bytes_eq c a) (sym f.0) ∙ same_text a))
    (λ f. f.1 ∙ sym (other_text b a (λ e. f.0 (sym e))))
    (text_cases a b)

or_each : (p a b c d : Bool) → (p || (a || (b || (c || (d || false))))) ≡ ((((p || a) || b) || c) || d)
or_each true a b c d = refl
or_each false true b c d = refl
or_each false false true c d = refl
or_each false false false true d = refl
or_each false false false false true = refl
or_each false false false false false = refl

-- after the start of a generation its four members are there
members_there : (m : List ℕ → Option Actor) (sender clean lspawn rspawn : Program) (a : List ℕ)
    → (is_some (m a) || is_member a)
    ≡ is_some (put_at (put_at (put_at (put_at m (codes "sender") (Some (newborn sender))) (codes "clean") (Some (newborn clean)))
    (codes "lspawn") (Some (newborn lspawn))) (codes "rspawn") (Some (newborn rspawn)) a)
members_there m sender clean lspawn rspawn a =
    let one = put_at m (codes "sender") (Some (newborn sender)) in
    let two = put_at one (codes "clean") (Some (newborn clean)) in
    let three = put_at two (codes "lspawn") (Some (newborn lspawn)) in
    let is : (b : List ℕ) (before : List ℕ → Option Actor) (y : Actor) (t : Bool) → t ≡ is_some (before a) → (t || bytes_eq a b) ≡ is_some (put_at before b (Some y) a) =
    λ b before y t same. ap (λ (t : Bool). t || bytes_eq a b) same ∙ ap (λ (c : Bool). is_some (before a) || c) (turned_text a b) ∙ started_there before b y a in
    or_each (is_some (m a)) (bytes_eq a (codes "sender")) (bytes_eq a (codes "clean")) (bytes_eq a (codes "lspawn")) (bytes_eq a (codes "rspawn"))
    ∙ is (codes "rspawn") three (newborn rspawn) _
    (is (codes "lspawn") two (newborn lspawn) _ (is (codes "clean") one (newborn clean) _ (is (codes "sender") m (newborn sender) (is_some (m a)) refl)))

happens_started : (s : State) (k : Kept) (e : Event) (a : List ℕ) → Tells k e → (is_some (s.actors a) || starts a k) ≡ is_some ((happens s e).actors a)
happens_started s k (Start b program) a told =
    subst (λ (k : Kept). (is_some (s.actors a) || starts a k) ≡ is_some ((happens s (Start b program)).actors a)) (sym told) (started_there s.actors b _ a)
happens_started s k (Act b own w) a told =
    subst (λ (k : Kept). (is_some (s.actors a) || starts a k) ≡ is_some ((happens s (Act b own w)).actors a)) (sym told)
    (or-false (is_some (s.actors a)) ∙ sym (acted_there s b own w (s.actors b) a refl))
happens_started s k (Child parent own b program) a told =
    let t = acted s parent own 0 (s.actors parent) in
    subst (λ (k : Kept). (is_some (s.actors a) || starts a k) ≡ is_some ((happens s (Child parent own b program)).actors a)) (sym told)
    (ap (λ (t : Bool). t || bytes_eq b a) (sym (acted_there s parent own 0 (s.actors parent) a refl)) ∙ started_there t.actors b _ a)
happens_started s k (Generation crew) a told =
    subst (λ (k : Kept). (is_some (s.actors a) || starts a k) ≡ is_some ((happens s (Generation crew)).actors a)) (sym told.1)
    (subst (λ (programs : List Program). (is_some (s.actors a) || is_member a) ≡ is_some ((happens s (Generation programs)).actors a)) (sym told.2)
    (members_there s.actors (Sender told.0) (Cleaner told.0) (LocalSpawner told.0) (RemoteSpawner told.0) a))
happens_started s k (Report slot output) a told =
    subst (λ (k : Kept). (is_some (s.actors a) || starts a k) ≡ is_some (s.actors a)) (sym told.2) (or-false (is_some (s.actors a)))
happens_started s k (End b read ready status) a told =
    subst (λ (k : Kept). (is_some (s.actors a) || starts a k) ≡ is_some ((happens s (End b read ready status)).actors a)) (sym told)
    (or-false (is_some (s.actors a)) ∙ sym (finished_there s b (Over status) (s.actors b) a refl))
happens_started s k (Stop b) a told =
    subst (λ (k : Kept). (is_some (s.actors a) || starts a k) ≡ is_some ((happens s (Stop b)).actors a)) (sym told)
    (or-false (is_some (s.actors a)) ∙ sym (finished_there s b Stopped (s.actors b) a refl))
happens_started s k (Moment m) a told =
    subst (λ (k : Kept). (is_some (s.actors a) || starts a k) ≡ is_some (s.actors a)) (sym told) (or-false (is_some (s.actors a)))
happens_started s k (Halt how contents) a told =
    subst (λ (k : Kept). (is_some (s.actors a) || starts a k) ≡ is_some (option_map stopped (s.actors a))) (sym told)
    (or-false (is_some (s.actors a)) ∙ sym (some_stopped (s.actors a)))

-- in which order they are named doesn't matter

or_turned : (a b : Bool) → (a || (b || false)) ≡ (b || a)
or_turned true true = refl
or_turned true false = refl
or_turned false true = refl
or_turned false false = refl

any_turned : (p : Kept → Bool) (ks : List Kept) → list_any p (reverse ks) ≡ list_any p ks
any_turned p [] = refl
any_turned p (k ∷ ks) =
    ap (list_any p) (reverse_onto ks k []) ∙ list_any-append p (reverse ks) (k ∷ []) ∙ ap (λ (t : Bool). t || (p k || false)) (any_turned p ks) ∙ or_turned (list_any p ks) (p k)

-- nor which input stands in the start of a child

started_with : (a c message envelope : List ℕ) (ks : List Kept) → list_any (starts a) (start_with c message envelope ks) ≡ list_any (starts a) ks
started_with a c message envelope [] = refl
started_with a c message envelope ((kept.Child d own b program) ∷ before) = by_test (bytes_eq b c) (started_with a c message envelope before) where
  by_test : (t : Bool) → list_any (starts a) (start_with c message envelope before) ≡ list_any (starts a) before
      → list_any (starts a) (if t then kept.Child d own b (with_texts message envelope program) ∷ before else (kept.Child d own b program ∷ start_with c message envelope before))
      ≡ (bytes_eq b a || list_any (starts a) before)
  by_test true rest = refl
  by_test false rest = ap (λ (t : Bool). bytes_eq b a || t) rest
started_with a c message envelope (k ∷ before) = ap (λ (t : Bool). starts a k || t) (started_with a c message envelope before)

started_inputs : (a : List ℕ) (ks : List Kept) → list_any (starts a) (with_inputs ks) ≡ list_any (starts a) ks
started_inputs a [] = refl
started_inputs a ((kept.Feed b own c message envelope) ∷ before) = started_with a c message envelope (with_inputs before) ∙ started_inputs a before
started_inputs a (k ∷ before) = ap (λ (t : Bool). starts a k || t) (started_inputs a before)

newest_started : (d : Disk) (h : List Event) (newest : List Kept) (a : List ℕ) → AllZip Tells newest h → list_any (starts a) newest ≡ is_some ((after d h).actors a)
newest_started d [] [] a told = refl
newest_started d (e ∷ h) [] a told = absurd told
newest_started d [] (k ∷ newest) a told = absurd told
newest_started d (e ∷ h) (k ∷ newest) a told =
    sym (or_turned (list_any (starts a) newest) (starts a k)) ∙ ap (λ (t : Bool). t || (starts a k || false)) (newest_started d h newest a told.1)
    ∙ ap (λ (t : Bool). is_some ((after d h).actors a) || t) (or-false (starts a k)) ∙ happens_started (after d h) k e a told.0

-- the actors that were started are those that there are
pub started_is : (d : Disk) (h : List Event) (events : List Kept) (a : List ℕ) → AllZip Tells (with_inputs (reverse events)) h → was_started events a ≡ is_some ((after d h).actors a)
started_is d h events a told =
    sym (any_turned (starts a) events) ∙ sym (started_inputs a (reverse events)) ∙ newest_started d h (with_inputs (reverse events)) a told

-- how many were started

pub starts_alike : (k : Kept) (e : Event) → Tells k e → starts_in k ≡ started_by e
starts_alike k (Start a program) told = ap starts_in told
starts_alike k (Act a own w) told = ap starts_in told
starts_alike k (Child parent own a program) told = ap starts_in told
starts_alike k (Generation crew) told = ap starts_in told.1 ∙ ap (λ (programs : List Program). length programs) (sym told.2)
starts_alike k (Report slot output) told = ap starts_in told.2
starts_alike k (End a read ready status) told = ap starts_in told
starts_alike k (Stop a) told = ap starts_in told
starts_alike k (Moment m) told = ap starts_in told
starts_alike k (Halt how contents) told = ap starts_in told

more_started : (k : Kept) (ks ls : List Kept) → sum_by starts_in ks ≡ sum_by starts_in ls → sum_by starts_in (k ∷ ks) ≡ sum_by starts_in (k ∷ ls)
more_started k ks ls same = sum_by-cons starts_in k ks ∙ ap (λ (n : ℕ). starts_in k + n) same ∙ sym (sum_by-cons starts_in k ls)

count_turned : (ks : List Kept) → sum_by starts_in (reverse ks) ≡ sum_by starts_in ks
count_turned [] = refl
count_turned (k ∷ ks) =
    let one = sum_by-append starts_in (reverse ks) (k ∷ []) in
    let last = sum_by-cons starts_in k [] in
    let rest = count_turned ks in
    let all = sum_by-cons starts_in k ks in
    ap (sum_by starts_in) (reverse_onto ks k []) ∙ omega (arith, one, last, rest, all)

count_with : (c message envelope : List ℕ) (ks : List Kept) → sum_by starts_in (start_with c message envelope ks) ≡ sum_by starts_in ks
count_with c message envelope [] = refl
count_with c message envelope ((kept.Child d own b program) ∷ before) = by_test (bytes_eq b c) (count_with c message envelope before) where
  by_test : (t : Bool) → sum_by starts_in (start_with c message envelope before) ≡ sum_by starts_in before
      → sum_by starts_in (if t then kept.Child d own b (with_texts message envelope program) ∷ before else (kept.Child d own b program ∷ start_with c message envelope before))
      ≡ sum_by starts_in (kept.Child d own b program ∷ before)
  by_test true rest = sum_by-cons starts_in (kept.Child d own b (with_texts message envelope program)) before ∙ sym (sum_by-cons starts_in (kept.Child d own b program) before)
  by_test false rest = more_started (kept.Child d own b program) (start_with c message envelope before) before rest
count_with c message envelope (k ∷ before) = more_started k (start_with c message envelope before) before (count_with c message envelope before)

count_inputs : (ks : List Kept) → sum_by starts_in (with_inputs ks) ≡ sum_by starts_in ks
count_inputs [] = refl
count_inputs ((kept.Feed b own c message envelope) ∷ before) =
    let fed = sum_by-cons starts_in (kept.Feed b own c message envelope) before in
    let given = sum_by-cons starts_in (kept.Act b own) (start_with c message envelope (with_inputs before)) in
    let with = count_with c message envelope (with_inputs before) in
    let rest = count_inputs before in
    omega (arith, fed, given, with, rest)
count_inputs (k ∷ before) = more_started k (with_inputs before) before (count_inputs before)

newest_starts : (h : List Event) (newest : List Kept) → AllZip Tells newest h → sum_by starts_in newest ≡ sum_by started_by h
newest_starts [] [] told = refl
newest_starts (e ∷ h) [] told = absurd told
newest_starts [] (k ∷ newest) told = absurd told
newest_starts (e ∷ h) (k ∷ newest) told =
    let one = starts_alike k e told.0 in
    let rest = newest_starts h newest told.1 in
    let fed = sum_by-cons starts_in k newest in
    let more = sum_by-cons started_by e h in
    omega (arith, one, rest, fed, more)

-- who has ended

-- the life of an actor by the kept events, and in the state
abbrev pub Suits : Span → Option Actor → Type 0
Suits Unborn None = Unit {0}
Suits Unborn (Some x) = ⊥
Suits Lasting None = ⊥
Suits Lasting (Some x) = x.life ≡ Alive
Suits (OverAt at) None = ⊥
Suits (OverAt at) (Some x) = x.life ≢ Alive

suits_still : (a : List ℕ) (k : Kept) (n : ℕ) (span : Span) (o : Option Actor) → starts a k ≡ false → ends a k ≡ false → Suits span o → Suits (span_after a k n span) o
suits_still a k n span o no_start no_end was = subst (λ (s : Span). Suits s o) (sym (span_still a k n span no_start no_end)) was

-- one actor's part of the map changed, by this event
suits_put : (m : List ℕ → Option Actor) (b : List ℕ) (o : Option Actor) (a : List ℕ) (k : Kept) (n : ℕ) (span : Span)
    → (a ≢ b → starts a k ≡ false) → (a ≢ b → ends a k ≡ false) → (a ≡ b → Suits (span_after a k n span) o)
    → Suits span (m a) → Suits (span_after a k n span) (put_at m b o a)
suits_put m b o a k n span no_start no_end mine was = ⊎_elim
    (λ f. subst (Suits (span_after a k n span)) (sym (ap (put_at m b o) f.0 ∙ put_at_same m b o)) (mine f.0))
    (λ f. subst (Suits (span_after a k n span)) (sym (put_at_other m b o a f.0)) (suits_still a k n span (m a) (no_start f.0) (no_end f.0) was))
    (text_cases a b)

start_suits : (a : List ℕ) (k : Kept) (n : ℕ) (span : Span) (x : Actor) → starts a k ≡ true → x.life ≡ Alive → Suits span None → Suits (span_after a k n span) (Some x)
start_suits a k n Unborn x starts_it alive was = subst (λ (s : Span). Suits s (Some x)) (sym (span_begins a k n Unborn refl starts_it)) alive
start_suits a k n Lasting x starts_it alive was = absurd was
start_suits a k n (OverAt at) x starts_it alive was = absurd was

same_suits : (span : Span) (x y : Actor) → y.life ≡ x.life → Suits span (Some x) → Suits span (Some y)
same_suits Unborn x y same was = was
same_suits Lasting x y same was = same ∙ was
same_suits (OverAt at) x y same was = λ e. was (sym same ∙ e)

end_suits : (a : List ℕ) (k : Kept) (n : ℕ) (span : Span) (x y : Actor) → starts a k ≡ false → ends a k ≡ true → y.life ≢ Alive → Suits span (Some x) → Suits (span_after a k n span) (Some y)
end_suits a k n Unborn x y no_start ends_it dead was = absurd was
end_suits a k n Lasting x y no_start ends_it dead was = subst (λ (s : Span). Suits s (Some y)) (sym (span_ends a k n Lasting refl ends_it)) dead
end_suits a k n (OverAt at) x y no_start ends_it dead was =
    subst (λ (s : Span). Suits s (Some y)) (sym (ap (λ (b : Bool). if b then Lasting else OverAt at) no_start)) dead

halt_suits : (a : List ℕ) (how : Survival) (n : ℕ) (span : Span) (o : Option Actor) → Suits span o → Suits (span_after a (kept.Halt how) n span) (option_map stopped o)
halt_suits a how n Unborn None was = tt
halt_suits a how n Unborn (Some x) was = was
halt_suits a how n Lasting None was = was
halt_suits a how n Lasting (Some x) was = λ e. never_alive x.life e
halt_suits a how n (OverAt at) None was = was
halt_suits a how n (OverAt at) (Some x) was = λ e. never_alive x.life e

-- who doesn't live starts, perhaps again
again_suits : (a : List ℕ) (k : Kept) (n : ℕ) (span : Span) (o : Option Actor) (program : Program) → starts a k ≡ true → ((x : Actor) → o ≡ Some x → x.life ≢ Alive) → Suits span o
    → Suits (span_after a k n span) (Some (newborn program))
again_suits a k n Unborn o program starts_it over was = subst (λ (s : Span). Suits s (Some (newborn program))) (sym (ap (λ (b : Bool). if b then Lasting else Unborn) starts_it)) refl
again_suits a k n Lasting None program starts_it over was = absurd was
again_suits a k n Lasting (Some x) program starts_it over was = absurd (over x refl was)
again_suits a k n (OverAt at) o program starts_it over was = subst (λ (s : Span). Suits s (Some (newborn program))) (sym (ap (λ (b : Bool). if b then Lasting else OverAt at) starts_it)) refl

-- an actor that did something lives on, or not, as before
acted_suits : (s : State) (b : List ℕ) (own : Own) (w : ℕ) (x : Actor) (a : List ℕ) (span : Span) → s.actors b ≡ Some x → Suits span (s.actors a)
    → Suits span ((acted s b own w (s.actors b)).actors a)
acted_suits s b own w x a span is was =
    let y : Option Actor = Some (record { program = x.program; past = own ∷ x.past; life = x.life }) in
    subst (λ (o : Option Actor). Suits span ((acted s b own w o).actors a)) (sym is)
    (⊎_elim
    (λ f. subst (Suits span) (sym (ap (put_at s.actors b y) f.0 ∙ put_at_same s.actors b y)) (same_suits span x _ refl (subst (Suits span) (ap s.actors f.0 ∙ is) was)))
    (λ f. subst (Suits span) (sym (put_at_other s.actors b y a f.0)) was)
    (text_cases a b))

-- one event more
happens_suits : (s : State) (n : ℕ) (k : Kept) (e : Event) (a : List ℕ) (span : Span) → Tells k e → Allowed s e → Suits span (s.actors a)
    → Suits (span_after a k n span) ((happens s e).actors a)
happens_suits s n k (Start b program) a span told allowed was =
    let one : Kept = kept.Start b program in
    subst (λ (k : Kept). Suits (span_after a k n span) ((happens s (Start b program)).actors a)) (sym told)
    (suits_put s.actors b _ a one n span (λ f. other_text b a (λ e. f (sym e))) (λ f. refl)
    (λ same. start_suits a one n span _ (ap (λ (c : List ℕ). bytes_eq c a) (sym same) ∙ same_text a) refl
    (subst (Suits span) (ap s.actors same ∙ allowed.new) was)) was)
happens_suits s n k (Act b own w) a span told allowed was =
    let one : Kept = kept.Act b own in
    let reads = may_read s b w own allowed in
    subst (λ (k : Kept). Suits (span_after a k n span) ((happens s (Act b own w)).actors a)) (sym told)
    (suits_still a one n span _ refl refl (acted_suits s b own w reads.0 a span reads.1.is was))
happens_suits s n k (Child parent own b program) a span told allowed was =
    let one : Kept = kept.Child parent own b program in
    let t = acted s parent own 0 (s.actors parent) in
    subst (λ (k : Kept). Suits (span_after a k n span) ((happens s (Child parent own b program)).actors a)) (sym told)
    (suits_put t.actors b _ a one n span (λ f. other_text b a (λ e. f (sym e))) (λ f. refl)
    (λ same. start_suits a one n span _ (ap (λ (c : List ℕ). bytes_eq c a) (sym same) ∙ same_text a) refl
    (subst (Suits span) (ap s.actors same ∙ allowed.new) was))
    (acted_suits s parent own 0 allowed.actor a span allowed.reads.is was))
happens_suits s n k (Generation (sender ∷ clean ∷ lspawn ∷ rspawn ∷ [])) a span told allowed was =
    subst (λ (k : Kept). Suits (span_after a k n span) ((happens s (Generation (sender ∷ clean ∷ lspawn ∷ rspawn ∷ []))).actors a)) (sym told.1)
    (⊎_elim
    (λ is. let new = four_new s.actors sender clean lspawn rspawn a is in
    subst (Suits (span_after a (kept.Generation told.0) n span)) (sym new.1)
    (again_suits a (kept.Generation told.0) n span (s.actors a) new.0 is (λ x there. allowed.over a x (member_contained a is) there) was))
    (λ other. subst (Suits (span_after a (kept.Generation told.0) n span)) (sym (four_other s.actors sender clean lspawn rspawn a other))
    (suits_still a (kept.Generation told.0) n span (s.actors a) other refl was))
    (whether (is_member a)))
happens_suits s n k (Generation crew) a span told allowed was = absurd (are_four crew allowed.kinds)
happens_suits s n k (Report slot output) a span told allowed was =
    subst (λ (k : Kept). Suits (span_after a k n span) (s.actors a)) (sym told.2) (suits_still a (kept.Report slot told.0 told.1) n span (s.actors a) refl refl was)
happens_suits s n k (End b read ready status) a span told allowed was =
    let one : Kept = kept.End b read ready status in
    let is = allowed.reads.is in
    subst (λ (k : Kept). Suits (span_after a k n span) ((happens s (End b read ready status)).actors a)) (sym told)
    (subst (λ (o : Option Actor). Suits (span_after a one n span) ((finished s b (Over status) o).actors a)) (sym is)
    (suits_put s.actors b _ a one n span (λ f. refl) (λ f. other_text b a (λ e. f (sym e)))
    (λ same. end_suits a one n span allowed.actor _ refl (ap (λ (c : List ℕ). bytes_eq c a) (sym same) ∙ same_text a) (λ e. cc)
    (subst (Suits span) (ap s.actors same ∙ is) was)) was))
happens_suits s n k (Stop b) a span told allowed was =
    let one : Kept = kept.Stop b in
    subst (λ (k : Kept). Suits (span_after a k n span) ((happens s (Stop b)).actors a)) (sym told)
    (subst (λ (o : Option Actor). Suits (span_after a one n span) ((finished s b Stopped o).actors a)) (sym allowed.is)
    (suits_put s.actors b _ a one n span (λ f. refl) (λ f. other_text b a (λ e. f (sym e)))
    (λ same. end_suits a one n span allowed.actor _ refl (ap (λ (c : List ℕ). bytes_eq c a) (sym same) ∙ same_text a) (λ e. cc)
    (subst (Suits span) (ap s.actors same ∙ allowed.is) was)) was))
happens_suits s n k (Moment m) a span told allowed was =
    subst (λ (k : Kept). Suits (span_after a k n span) (s.actors a)) (sym told) (suits_still a (kept.Moment m) n span (s.actors a) refl refl was)
happens_suits s n k (Halt how contents) a span told allowed was =
    subst (λ (k : Kept). Suits (span_after a k n span) (option_map stopped (s.actors a))) (sym told) (halt_suits a how n span (s.actors a) was)

newest_suits : (d : Disk) (newest : List Kept) (h : List Event) → Legal d h → AllZip Tells newest h → (a : List ℕ) → Suits (span_of a newest) ((after d h).actors a)
newest_suits d [] [] legal told a = tt
newest_suits d [] (e ∷ h) legal told a = absurd told
newest_suits d (k ∷ newest) [] legal told a = absurd told
newest_suits d (k ∷ newest) (e ∷ h) legal told a =
    happens_suits (after d h) (length newest) k e a (span_of a newest) told.0 legal.1 (newest_suits d newest h legal.0 told.1 a)

pub suits : (d : Disk) (newest : List Kept) (h : List Event) → Legal d h → AllZip Tells (with_inputs newest) h → (a : List ℕ) → Suits (span_of a newest) ((after d h).actors a)
suits d newest h legal told a = subst (λ (s : Span). Suits s ((after d h).actors a)) (span_inputs a newest) (newest_suits d (with_inputs newest) h legal told a)

-- an actor whose end or stop was kept lives no more
pub ended_is : (d : Disk) (h : List Event) (events : List Kept) (a : List ℕ) (at : ℕ) → Legal d h → AllZip Tells (with_inputs (reverse events)) h → EndsAt events a at
    → (x : Actor) × ((after d h).actors a ≡ Some x) × (x.life ≢ Alive)
ended_is d h events a at legal told ends =
    by_actor ((after d h).actors a) (subst (λ (s : Span). Suits s ((after d h).actors a)) ends (suits d (reverse events) h legal told a)) where
      by_actor : (o : Option Actor) → Suits (OverAt at) o → (x : Actor) × (o ≡ Some x) × (x.life ≢ Alive)
      by_actor None m = absurd m
      by_actor (Some x) m = (x, refl, m)

-- and no other one is: it lives, or its end or stop was kept
pub lives_or_ended : (d : Disk) (h : List Event) (events : List Kept) (a : List ℕ) (x : Actor) → Legal d h → AllZip Tells (with_inputs (reverse events)) h → (after d h).actors a ≡ Some x
    → (x.life ≡ Alive) ⊎ ((at : ℕ) × EndsAt events a at)
lives_or_ended d h events a x legal told is =
    by_span (span_of a (reverse events)) refl (subst (Suits (span_of a (reverse events))) is (suits d (reverse events) h legal told a)) where
      by_span : (span : Span) → span_of a (reverse events) ≡ span → Suits span (Some x) → (x.life ≡ Alive) ⊎ ((at : ℕ) × EndsAt events a at)
      by_span Unborn same m = absurd m
      by_span Lasting same m = inl m
      by_span (OverAt at) same m = inr (at, same)
