-- Whoever is there was started, and searches start nobody.
use Rattle.std.proofs.Common.{◌≡◌, ◌≢◌, ⊎_elim, ℕ, List, [], ◌∷◌, ◌++◌, Bool, true, false, ◌||◌, if◌then◌else◌, Option, Some, None, refl, sym, ap, ◌∙◌}
use Rattle.std.proofs.lemmas.Bool.{and_parts, false≢true}
use Rattle.std.proofs.lemmas.List.{append-nil}
use Rattle.std.proofs.lemmas.List.Folds.{list_any-append}
use Rattle.std.specs.Prelude.{bytes_eq, option_map}
use Rattle.std.specs.List.{list_all, list_any}
use Rattle.call_fs.specs.Disk.{Disk}
use Rattle.call_fs.specs.Maps.{put_at}
use Rattle.call_fs.specs.declared.past.Own.{Own}
use Rattle.call_fs.proofs.Maps.{put_at_cases, put_at_other}
use Rattle.world_events.specs.declared.event.Program.{Program}
use Rattle.world_pipes.proofs.Members.{same_text}
use Rattle.mail_world.specs.History.{Actor, Event, Life, State, acted, finished, happens, newborn, stopped}
use Rattle.mail_world.specs.History.Event.{Start, Act, Child, Generation, Report, End, Stop, Moment, Halt}
use Rattle.mail_world.specs.History.Life.{Over, Stopped}
use Rattle.mail_world.specs.History.{after as after_events}
use Rattle.mail_world.specs.World.{begun_with}
use Rattle.mail_world.proofs.Members.{crew_other}
use Rattle.world_events.specs.Inputs.{with_texts}
use Rattle.scenario.specs.Deeds.{Deed, after, event_in, history_of}
use Rattle.scenario.specs.Deeds.Deed.{Came, Fed}
use Rattle.scenario.specs.Turns.{is_search_deed, started_in, starts_of}

-- Who wasn't started isn't there.

abbrev IsStartedBy : Event → List ℕ → Bool
IsStartedBy e a = list_any (bytes_eq a) (started_in e)

or_parts : (p q : Bool) → (p || q) ≡ false → (p ≡ false) × (q ≡ false)
or_parts true q e = absurd (cc)
or_parts false q e = (refl, e)

other_by : (a b : List ℕ) → bytes_eq a b ≡ false → a ≢ b
other_by a b other same = false≢true (sym other ∙ ap (bytes_eq a) (sym same) ∙ same_text a)

some_none : (x : Actor) → ◌≡◌ {A = Option Actor} (Some x) None → ⊥
some_none x e = absurd (cc)

put_none : (m : List ℕ → Option Actor) (b : List ℕ) (x : Actor) (y : Option Actor) (a : List ℕ) → m b ≡ Some x → m a ≡ None → put_at m b y a ≡ None
put_none m b x y a is none = ⊎_elim
    (λ h. absurd (some_none x (sym is ∙ ap m (sym h.0) ∙ none)))
    (λ h. h.1 ∙ none)
    (put_at_cases m b y a)

acted_none : (s : State) (b : List ℕ) (own : Own) (wrote : ℕ) (o : Option Actor) (a : List ℕ) → s.actors b ≡ o → s.actors a ≡ None → (acted s b own wrote o).actors a ≡ None
acted_none s b own wrote None a is none = none
acted_none s b own wrote (Some x) a is none = put_none s.actors b x (Some (record { program = x.program; past = own ∷ x.past; life = x.life })) a is none

finished_none : (s : State) (b : List ℕ) (life : Life) (o : Option Actor) (a : List ℕ) → s.actors b ≡ o → s.actors a ≡ None → (finished s b life o).actors a ≡ None
finished_none s b life None a is none = none
finished_none s b life (Some x) a is none = put_none s.actors b x (Some (record { program = x.program; past = x.past; life = life })) a is none

begun_none : (m : List ℕ → Option Actor) (b : List ℕ) (program : Program) (a : List ℕ) → (bytes_eq a b || false) ≡ false → m a ≡ None → put_at m b (Some (newborn program)) a ≡ None
begun_none m b program a other none = put_at_other m b (Some (newborn program)) a (other_by a b (or_parts (bytes_eq a b) false other).0) ∙ none

still_none : (s : State) (e : Event) (a : List ℕ) → IsStartedBy e a ≡ false → s.actors a ≡ None → (happens s e).actors a ≡ None
still_none s (Start b program) a other none = begun_none s.actors b program a other none
still_none s (Act b own wrote) a other none = acted_none s b own wrote (s.actors b) a refl none
still_none s (Child parent own b program) a other none =
    begun_none (acted s parent own 0 (s.actors parent)).actors b program a other (acted_none s parent own 0 (s.actors parent) a refl none)
still_none s (Generation crew) a other none = crew_other s.actors crew a other ∙ none
still_none s (Report slot output) a other none = none
still_none s (End b read ready status) a other none = finished_none s b (Over status) (s.actors b) a refl none
still_none s (Stop b) a other none = finished_none s b Stopped (s.actors b) a refl none
still_none s (Moment m) a other none = none
still_none s (Halt how contents) a other none = ap (option_map stopped) none

-- the starts of a history
abbrev starts_in : List Event → List (List ℕ)
starts_in [] = []
starts_in (e ∷ before) = starts_in before ++ started_in e

unstarted : (d : Disk) (h : List Event) (a : List ℕ) → list_any (bytes_eq a) (starts_in h) ≡ false → (after_events d h).actors a ≡ None
unstarted d [] a none = refl
unstarted d (e ∷ h) a none =
    let parts = or_parts (list_any (bytes_eq a) (starts_in h)) (IsStartedBy e a) (sym (list_any-append (bytes_eq a) (starts_in h) (started_in e)) ∙ none) in
    still_none (after_events d h) e a parts.1 (unstarted d h a parts.0)

-- The deeds of a play start those that its history starts.

begun_starts : (c message envelope : List ℕ) (h : List Event) → starts_in (begun_with c message envelope h) ≡ starts_in h
begun_starts c message envelope [] = refl
begun_starts c message envelope ((Child parent own a program) ∷ h) = by (bytes_eq a c) (begun_starts c message envelope h)
  where
    by : (t : Bool) → starts_in (begun_with c message envelope h) ≡ starts_in h
        → starts_in (if t then (Child parent own a (with_texts message envelope program)) ∷ h else (Child parent own a program ∷ begun_with c message envelope h)) ≡ starts_in h ++ a ∷ []
    by true rest = refl
    by false rest = ap (λ (l : List (List ℕ)). l ++ a ∷ []) rest
begun_starts c message envelope ((Start a program) ∷ h) = ap (λ (l : List (List ℕ)). l ++ a ∷ []) (begun_starts c message envelope h)
begun_starts c message envelope ((Act a own wrote) ∷ h) = ap (λ (l : List (List ℕ)). l ++ []) (begun_starts c message envelope h)
begun_starts c message envelope ((Generation crew) ∷ h) =
    ap (λ (l : List (List ℕ)). l ++ started_in (Generation crew)) (begun_starts c message envelope h)
begun_starts c message envelope ((Report slot output) ∷ h) = ap (λ (l : List (List ℕ)). l ++ []) (begun_starts c message envelope h)
begun_starts c message envelope ((End a read ready status) ∷ h) = ap (λ (l : List (List ℕ)). l ++ []) (begun_starts c message envelope h)
begun_starts c message envelope ((Stop a) ∷ h) = ap (λ (l : List (List ℕ)). l ++ []) (begun_starts c message envelope h)
begun_starts c message envelope ((Moment m) ∷ h) = ap (λ (l : List (List ℕ)). l ++ []) (begun_starts c message envelope h)
begun_starts c message envelope ((Halt how contents) ∷ h) = ap (λ (l : List (List ℕ)). l ++ []) (begun_starts c message envelope h)

same_starts : (h : List Deed) → starts_in (history_of h) ≡ starts_of h
same_starts [] = refl
same_starts ((Came e) ∷ h) = ap (λ (l : List (List ℕ)). l ++ started_in e) (same_starts h)
same_starts ((Fed a own c message envelope) ∷ h) = ap (λ (l : List (List ℕ)). l ++ []) (begun_starts c message envelope (history_of h) ∙ same_starts h)

pub there_started : (d : Disk) (h : List Deed) (a : List ℕ) (x : Actor) → (after d h).actors a ≡ Some x → list_any (bytes_eq a) (starts_of h) ≡ true
there_started d h a x is = by (list_any (bytes_eq a) (starts_of h)) refl
  where
    by : (t : Bool) → list_any (bytes_eq a) (starts_of h) ≡ t → t ≡ true
    by true e = refl
    by false e = absurd (some_none x (sym is ∙ unstarted d (history_of h) a (ap (list_any (bytes_eq a)) (same_starts h) ∙ e)))

-- A search starts nobody.

search_starts : (deed : Deed) → is_search_deed deed ≡ true → started_in (event_in deed) ≡ []
search_starts (Came (Act a own wrote)) search = refl
search_starts (Came (Start a program)) search = absurd (cc)
search_starts (Came (Child parent own a program)) search = absurd (cc)
search_starts (Came (Generation crew)) search = absurd (cc)
search_starts (Came (Report slot output)) search = refl
search_starts (Came (End a read ready status)) search = refl
search_starts (Came (Stop a)) search = refl
search_starts (Came (Moment m)) search = refl
search_starts (Came (Halt how contents)) search = refl
search_starts (Fed a own c message envelope) search = refl

pub searches_start : (events h : List Deed) → list_all is_search_deed events ≡ true → starts_of (events ++ h) ≡ starts_of h
searches_start [] h all = refl
searches_start (x ∷ events) h all =
    let parts = and_parts (is_search_deed x) (list_all is_search_deed events) all in
    ap (λ (l : List (List ℕ)). starts_of (events ++ h) ++ l) (search_starts x parts.0) ∙ append-nil (starts_of (events ++ h)) ∙ searches_start events h parts.1
