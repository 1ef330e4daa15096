-- What kept events tell is the same of each history that they tell, except the disk and the books.
use Rattle.std.specs.Prelude.{All, if◌then◌else◌}
use Rattle.std.proofs.Common.{◌≡◌, ◌≢◌, ◌∙◌, ℕ, suc, List, [], ◌∷◌, ◌++◌, Bool, true, false, Option, Some, None, refl, sym, ap, subst, ⊎_elim, arith, map, reverse, bytes_eq, codes}
use Rattle.std.proofs.lemmas.List.{reverse-append}
use Rattle.std.specs.List.{AllZip}
use Rattle.std.specs.Option.{option_map}
use Rattle.call_fs.specs.declared.past.Own.{Own}
use Rattle.call_fs.specs.declared.past.NeedData.{NeedData}
use Rattle.call_fs.specs.declared.past.NeedData.TheVariants as needs
use Rattle.call_fs.specs.declared.program.Port.{Port}
use Rattle.call_fs.specs.declared.past.ChildData.{ChildData}
use Rattle.call_fs.specs.declared.past.ChildData.TheVariants as child
use Rattle.call_fs.specs.declared.past.GotData.{GotData}
use Rattle.call_fs.specs.declared.past.GotData.TheVariants as got
use Rattle.mail_world.specs.Pipework.{Pipework, is_member, pipework_after, with_child, without_writer, with_generation, with_report, no_pipework}
use Rattle.call_fs.specs.Disk.{Disk}
use Rattle.call_fs.specs.Maps.{put_at}
use Rattle.call_fs.proofs.Maps.{put_at_same, put_at_other}
use Rattle.world_events.specs.Inputs.{with_texts, start_with, with_inputs}
use Rattle.world_events.specs.declared.event.Event.{Event as Kept}
use Rattle.world_events.specs.declared.event.Event.TheVariants as kept
use Rattle.world_events.specs.declared.event.Program.{Program}
use Rattle.world_events.specs.declared.event.Program.TheVariants.{Cleaner, Sender, LocalSpawner, RemoteSpawner}
use Rattle.mail_world.specs.History.{Event, Actor, Life, State, stopped, cut_off, happens, acted, finished, begins, after, holder_after, unless_by, report_text, slot_by, with_crew}
use Rattle.mail_world.specs.History.Event.{Start, Act, Child, Generation, Report, End, Stop, Moment, Halt}
use Rattle.mail_world.specs.World.{Tells}
use Rattle.mail_world.specs.Wired.{GivesWhole, IsWholeGiving, AreWholeGivings}
use Rattle.mail_world.specs.Inside.{IsApart, HasJustStarted, event_of, nowhere, known}
use Rattle.mail_world.specs.Anew.{idle}
use Rattle.mail_world.proofs.Members.{four_other}
use Rattle.mail_world.proofs.Tests.{text_cases, same_text, other_text}
use Rattle.world_events.specs.Programs.{crew_at}
use Rattle.actor_names.specs.MailNames.{members}

-- What an event adds

-- no giving to a child
abbrev pub IsPlain : Kept → Type 0
IsPlain (kept.Feed a own c message envelope) = ⊥
IsPlain other = Unit {0}

inputs_plain : (k : Kept) (ks : List Kept) → IsPlain k → with_inputs (k ∷ ks) ≡ k ∷ with_inputs ks
inputs_plain (kept.Start a program) ks plain = refl
inputs_plain (kept.Act a own) ks plain = refl
inputs_plain (kept.Child a own c program) ks plain = refl
inputs_plain (kept.Feed a own c message envelope) ks plain = absurd plain
inputs_plain (kept.Generation start) ks plain = refl
inputs_plain (kept.Report slot letter text) ks plain = refl
inputs_plain (kept.End a read ready status) ks plain = refl
inputs_plain (kept.Stop a) ks plain = refl
inputs_plain (kept.Moment m) ks plain = refl
inputs_plain (kept.Halt how) ks plain = refl

-- one event more, the newest one
pub inputs_push : (events : List Kept) (k : Kept) → IsPlain k → with_inputs (reverse (events ++ k ∷ [])) ≡ k ∷ with_inputs (reverse events)
inputs_push events k plain = ap with_inputs (reverse-append events (k ∷ [])) ∙ inputs_plain k (reverse events) plain

-- a giving to a child
pub inputs_fed : (events : List Kept) (a : List ℕ) (own : Own) (c message envelope : List ℕ)
    → with_inputs (reverse (events ++ kept.Feed a own c message envelope ∷ [])) ≡ kept.Act a own ∷ start_with c message envelope (with_inputs (reverse events))
inputs_fed events a own c message envelope = ap with_inputs (reverse-append events (kept.Feed a own c message envelope ∷ []))

-- what is known after one event more
pub known_push : (events : List Kept) (k : Kept) → IsPlain k → known (events ++ k ∷ []) ≡ happens (known events) (event_of k)
known_push events k plain = ap (λ (l : List Kept). after nowhere (map event_of l)) (inputs_push events k plain)

-- Each history that they tell

-- the same actors, holders and moment
pub record AreAlike (s t : State) : Type 0 where
  pub holder : s.holder ≡ t.holder
  pub now : s.now ≡ t.now
  pub actors : s.actors ≡ t.actors

put_alike : (m n : List ℕ → Option Actor) (a : List ℕ) (v : Option Actor) → m ≡ n → put_at m a v ≡ put_at n a v
put_alike m n a v e = ap (λ (m : List ℕ → Option Actor). put_at m a v) e

freed_alike : (h g : ℕ → Option (List ℕ)) (a : List ℕ) → h ≡ g → ◌≡◌ {A = ℕ → Option (List ℕ)} (λ fd. unless_by a (h fd) (h fd)) (λ fd. unless_by a (g fd) (g fd))
freed_alike h g a e = let freed : (ℕ → Option (List ℕ)) → ℕ → Option (List ℕ) = λ h fd. unless_by a (h fd) (h fd) in ap freed e

acted_alike : (s t : State) (a : List ℕ) (own : Own) (w v : ℕ) (x : Option Actor) → AreAlike s t → AreAlike (acted s a own w x) (acted t a own v x)
acted_alike s t a own w v None c = c
acted_alike s t a own w v (Some x) c = record {
  holder = ap (λ (h : ℕ → Option (List ℕ)). holder_after h a own.due own.came) c.holder;
  now = c.now;
  actors = put_alike s.actors t.actors a _ c.actors;
}

finished_alike : (s t : State) (a : List ℕ) (life : Life) (x : Option Actor) → AreAlike s t → AreAlike (finished s a life x) (finished t a life x)
finished_alike s t a life None c = c
finished_alike s t a life (Some x) c = record {
  holder = freed_alike s.holder t.holder a c.holder;
  now = c.now;
  actors = put_alike s.actors t.actors a _ c.actors;
}

-- a generation started, whose members are told by the moment
members_alike : (s t : State) (start : ℕ) (crew : List Program) → crew ≡ crew_at start → AreAlike s t → AreAlike (happens s (Generation crew)) (happens t (event_of (kept.Generation start)))
members_alike s t start crew are c =
    let all : AreAlike (happens s (Generation crew)) (happens t (Generation crew)) = record {
      holder = c.holder;
      now = c.now;
      actors = ap (λ (m : List ℕ → Option Actor). with_crew members crew m) c.actors;
    } in
    subst (λ (programs : List Program). AreAlike (happens s (Generation crew)) (happens t (Generation programs))) are all

happens_alike : (s t : State) (k : Kept) (e : Event) → Tells k e → AreAlike s t → AreAlike (happens s e) (happens t (event_of k))
happens_alike s t k (Start a program) told c =
    subst (λ (k : Kept). AreAlike (happens s (Start a program)) (happens t (event_of k))) (sym told) (record {
      holder = c.holder;
      now = c.now;
      actors = put_alike s.actors t.actors a _ c.actors;
    })
happens_alike s t k (Act a own wrote) told c =
    subst (λ (k : Kept). AreAlike (happens s (Act a own wrote)) (happens t (event_of k))) (sym told)
    (subst (λ (x : Option Actor). AreAlike (acted s a own wrote (s.actors a)) (acted t a own 0 x))
    (ap (λ (m : List ℕ → Option Actor). m a) c.actors) (acted_alike s t a own wrote 0 (s.actors a) c))
happens_alike s t k (Child parent own a program) told c =
    subst (λ (k : Kept). AreAlike (happens s (Child parent own a program)) (happens t (event_of k))) (sym told)
    (let one = subst (λ (x : Option Actor). AreAlike (acted s parent own 0 (s.actors parent)) (acted t parent own 0 x))
    (ap (λ (m : List ℕ → Option Actor). m parent) c.actors) (acted_alike s t parent own 0 0 (s.actors parent) c) in
    record { holder = one.holder; now = one.now; actors = put_alike _ _ a _ one.actors })
happens_alike s t k (Generation crew) told c =
    subst (λ (k : Kept). AreAlike (happens s (Generation crew)) (happens t (event_of k))) (sym told.1)
    (members_alike s t told.0 crew told.2 c)
happens_alike s t k (Report slot output) told c =
    subst (λ (k : Kept). AreAlike (happens s (Report slot output)) (happens t (event_of k))) (sym told.2) (record { holder = c.holder; now = c.now; actors = c.actors })
happens_alike s t k (End a read ready status) told c =
    subst (λ (k : Kept). AreAlike (happens s (End a read ready status)) (happens t (event_of k))) (sym told)
    (subst (λ (x : Option Actor). AreAlike (finished s a (Life.Over status) (s.actors a)) (finished t a (Life.Over status) x))
    (ap (λ (m : List ℕ → Option Actor). m a) c.actors) (finished_alike s t a (Life.Over status) (s.actors a) c))
happens_alike s t k (Stop a) told c =
    subst (λ (k : Kept). AreAlike (happens s (Stop a)) (happens t (event_of k))) (sym told)
    (subst (λ (x : Option Actor). AreAlike (finished s a Life.Stopped (s.actors a)) (finished t a Life.Stopped x))
    (ap (λ (m : List ℕ → Option Actor). m a) c.actors) (finished_alike s t a Life.Stopped (s.actors a) c))
happens_alike s t k (Moment m) told c =
    subst (λ (k : Kept). AreAlike (happens s (Moment m)) (happens t (event_of k))) (sym told) (record { holder = c.holder; now = refl; actors = c.actors })
happens_alike s t k (Halt how contents) told c =
    subst (λ (k : Kept). AreAlike (happens s (Halt how contents)) (happens t (event_of k))) (sym told) (record {
      holder = refl;
      now = c.now;
      actors = let cut : (List ℕ → Option Actor) → List ℕ → Option Actor = λ m a. option_map stopped (m a) in ap cut c.actors;
    })

told_alike : (d : Disk) (events : List Kept) (h : List Event) → AllZip Tells events h → AreAlike (after d h) (after nowhere (map event_of events))
told_alike d [] [] told = record { holder = refl; now = refl; actors = refl }
told_alike d [] (e ∷ h) told = absurd told
told_alike d (k ∷ events) [] told = absurd told
told_alike d (k ∷ events) (e ∷ h) told = happens_alike (after d h) (after nowhere (map event_of events)) k e told.0 (told_alike d events h told.1)

-- what is known is so after each history that is told
pub after_known : (d : Disk) (events : List Kept) (h : List Event) → AllZip Tells (with_inputs (reverse events)) h → AreAlike (after d h) (known events)
after_known d events h told = told_alike d (with_inputs (reverse events)) h told

-- The pipes and slots, if no giving failed: then no event hides how much was given.

took_alike : (pipework : Pipework) (a : List ℕ) (port : Port) (came : GotData) (w v : ℕ) → pipework_after pipework a (needs.Take port) came w ≡ pipework_after pipework a (needs.Take port) came v
took_alike pipework a port (got.Answered told) w v = refl
took_alike pipework a port (got.Took bytes) w v = refl
took_alike pipework a port got.End w v = refl
took_alike pipework a port (got.Ended status) w v = refl
took_alike pipework a port got.Crashed w v = refl
took_alike pipework a port got.Gave w v = refl
took_alike pipework a port (got.Started pid) w v = refl
took_alike pipework a port got.Failed w v = refl
took_alike pipework a port got.Memory w v = refl

begun_alike : (pipework : Pipework) (a : List ℕ) (asked : ChildData) (came : GotData) (w v : ℕ) → pipework_after pipework a (needs.Start asked) came w ≡ pipework_after pipework a (needs.Start asked) came v
begun_alike pipework a (child.Bounce room) came w v = refl
begun_alike pipework a (child.Forward uid room) came w v = refl
begun_alike pipework a (child.Local slot words uid) came w v = refl
begun_alike pipework a (child.Remote slot domain sender recipient) (got.Answered told) w v = refl
begun_alike pipework a (child.Remote slot domain sender recipient) (got.Took bytes) w v = refl
begun_alike pipework a (child.Remote slot domain sender recipient) got.End w v = refl
begun_alike pipework a (child.Remote slot domain sender recipient) (got.Ended status) w v = refl
begun_alike pipework a (child.Remote slot domain sender recipient) got.Crashed w v = refl
begun_alike pipework a (child.Remote slot domain sender recipient) got.Gave w v = refl
begun_alike pipework a (child.Remote slot domain sender recipient) (got.Started pid) w v = refl
begun_alike pipework a (child.Remote slot domain sender recipient) got.Failed w v = refl
begun_alike pipework a (child.Remote slot domain sender recipient) got.Memory w v = refl

wrote_alike : (pipework : Pipework) (a : List ℕ) (due : NeedData) (came : GotData) (w v : ℕ) → GivesWhole due came → pipework_after pipework a due came w ≡ pipework_after pipework a due came v
wrote_alike pipework a (needs.Give port bytes) (got.Answered told) w v whole = refl
wrote_alike pipework a (needs.Give port bytes) (got.Took some) w v whole = refl
wrote_alike pipework a (needs.Give port bytes) got.End w v whole = refl
wrote_alike pipework a (needs.Give port bytes) (got.Ended status) w v whole = refl
wrote_alike pipework a (needs.Give port bytes) got.Crashed w v whole = refl
wrote_alike pipework a (needs.Give port bytes) got.Gave w v whole = refl
wrote_alike pipework a (needs.Give port bytes) (got.Started pid) w v whole = refl
wrote_alike pipework a (needs.Give port bytes) got.Failed w v whole = absurd whole
wrote_alike pipework a (needs.Give port bytes) got.Memory w v whole = refl
wrote_alike pipework a (needs.Take port) came w v whole = took_alike pipework a port came w v
wrote_alike pipework a (needs.Start asked) came w v whole = begun_alike pipework a asked came w v
wrote_alike pipework a (needs.File call) came w v whole = refl
wrote_alike pipework a (needs.Command bytes) came w v whole = refl
wrote_alike pipework a needs.Wait came w v whole = refl
wrote_alike pipework a (needs.Ended status) came w v whole = refl

acted_pipework : (s t : State) (a : List ℕ) (own : Own) (w v : ℕ) (x : Option Actor) → GivesWhole own.due own.came → s.pipework ≡ t.pipework → (acted s a own w x).pipework ≡ (acted t a own v x).pipework
acted_pipework s t a own w v None whole same = same
acted_pipework s t a own w v (Some x) whole same =
    ap (λ (p : Pipework). pipework_after p a own.due own.came w) same ∙ wrote_alike t.pipework a own.due own.came w v whole

finished_pipework : (s t : State) (a : List ℕ) (life : Life) (x : Option Actor) → s.pipework ≡ t.pipework → (finished s a life x).pipework ≡ (finished t a life x).pipework
finished_pipework s t a life None same = same
finished_pipework s t a life (Some x) same = ap (λ (p : Pipework). without_writer p a) same

happens_pipework : (s t : State) (k : Kept) (e : Event) → Tells k e → IsWholeGiving k → AreAlike s t → s.pipework ≡ t.pipework → (happens s e).pipework ≡ (happens t (event_of k)).pipework
happens_pipework s t k (Start a program) told whole c same = subst (λ (k : Kept). s.pipework ≡ (happens t (event_of k)).pipework) (sym told) same
happens_pipework s t k (Act a own wrote) told whole c same =
    let gives = subst IsWholeGiving told whole in
    subst (λ (k : Kept). (happens s (Act a own wrote)).pipework ≡ (happens t (event_of k)).pipework) (sym told)
    (subst (λ (x : Option Actor). (acted s a own wrote (s.actors a)).pipework ≡ (acted t a own 0 x).pipework)
    (ap (λ (m : List ℕ → Option Actor). m a) c.actors) (acted_pipework s t a own wrote 0 (s.actors a) gives same))
happens_pipework s t k (Child parent own a program) told whole c same =
    let gives = subst IsWholeGiving told whole in
    subst (λ (k : Kept). (happens s (Child parent own a program)).pipework ≡ (happens t (event_of k)).pipework) (sym told)
    (ap (λ (w : Pipework). with_child w parent (slot_by own.due) a)
    (subst (λ (x : Option Actor). (acted s parent own 0 (s.actors parent)).pipework ≡ (acted t parent own 0 x).pipework)
    (ap (λ (m : List ℕ → Option Actor). m parent) c.actors) (acted_pipework s t parent own 0 0 (s.actors parent) gives same)))
happens_pipework s t k (Generation crew) told whole c same =
    subst (λ (k : Kept). (happens s (Generation crew)).pipework ≡ (happens t (event_of k)).pipework) (sym told.1) (ap with_generation same)
happens_pipework s t k (Report slot output) told whole c same =
    subst (λ (k : Kept). (happens s (Report slot output)).pipework ≡ (happens t (event_of k)).pipework) (sym told.2)
    (ap (λ (p : Pipework). with_report p slot output) same ∙ ap (λ (bytes : List ℕ). with_report t.pipework slot bytes) told.3)
happens_pipework s t k (End a read ready status) told whole c same =
    subst (λ (k : Kept). (happens s (End a read ready status)).pipework ≡ (happens t (event_of k)).pipework) (sym told)
    (subst (λ (x : Option Actor). (finished s a (Life.Over status) (s.actors a)).pipework ≡ (finished t a (Life.Over status) x).pipework)
    (ap (λ (m : List ℕ → Option Actor). m a) c.actors) (finished_pipework s t a (Life.Over status) (s.actors a) same))
happens_pipework s t k (Stop a) told whole c same =
    subst (λ (k : Kept). (happens s (Stop a)).pipework ≡ (happens t (event_of k)).pipework) (sym told)
    (subst (λ (x : Option Actor). (finished s a Life.Stopped (s.actors a)).pipework ≡ (finished t a Life.Stopped x).pipework)
    (ap (λ (m : List ℕ → Option Actor). m a) c.actors) (finished_pipework s t a Life.Stopped (s.actors a) same))
happens_pipework s t k (Moment m) told whole c same = subst (λ (k : Kept). s.pipework ≡ (happens t (event_of k)).pipework) (sym told) same
happens_pipework s t k (Halt how contents) told whole c same = subst (λ (k : Kept). no_pipework ≡ (happens t (event_of k)).pipework) (sym told) refl

pipework_told : (d : Disk) (events : List Kept) (h : List Event) → AllZip Tells events h → AreWholeGivings events → (after d h).pipework ≡ (after nowhere (map event_of events)).pipework
pipework_told d [] [] told whole = refl
pipework_told d [] (e ∷ h) told whole = absurd told
pipework_told d (k ∷ events) [] told whole = absurd told
pipework_told d (k ∷ events) (e ∷ h) told whole =
    happens_pipework (after d h) (after nowhere (map event_of events)) k e told.0 whole.0 (told_alike d events h told.1) (pipework_told d events h told.1 whole.1)

-- the givings are those that were kept

whole_with : (c message envelope : List ℕ) (ks : List Kept) → AreWholeGivings ks → AreWholeGivings (start_with c message envelope ks)
whole_with c message envelope [] whole = tt
whole_with c message envelope ((kept.Child a own b program) ∷ ks) whole = by_name (bytes_eq b c) (whole_with c message envelope ks whole.1) where
  by_name : (t : Bool) → AreWholeGivings (start_with c message envelope ks)
      → AreWholeGivings (if t then (kept.Child a own b (with_texts message envelope program)) ∷ ks else (kept.Child a own b program ∷ start_with c message envelope ks))
  by_name true rest = whole
  by_name false rest = (whole.0, rest)
whole_with c message envelope ((kept.Start a program) ∷ ks) whole = (whole.0, whole_with c message envelope ks whole.1)
whole_with c message envelope ((kept.Act a own) ∷ ks) whole = (whole.0, whole_with c message envelope ks whole.1)
whole_with c message envelope ((kept.Feed a own b text more) ∷ ks) whole = (whole.0, whole_with c message envelope ks whole.1)
whole_with c message envelope ((kept.Generation start) ∷ ks) whole = (whole.0, whole_with c message envelope ks whole.1)
whole_with c message envelope ((kept.Report slot letter text) ∷ ks) whole = (whole.0, whole_with c message envelope ks whole.1)
whole_with c message envelope ((kept.End a read ready status) ∷ ks) whole = (whole.0, whole_with c message envelope ks whole.1)
whole_with c message envelope ((kept.Stop a) ∷ ks) whole = (whole.0, whole_with c message envelope ks whole.1)
whole_with c message envelope ((kept.Moment m) ∷ ks) whole = (whole.0, whole_with c message envelope ks whole.1)
whole_with c message envelope ((kept.Halt how) ∷ ks) whole = (whole.0, whole_with c message envelope ks whole.1)

whole_inputs : (ks : List Kept) → AreWholeGivings ks → AreWholeGivings (with_inputs ks)
whole_inputs [] whole = tt
whole_inputs ((kept.Feed a own c message envelope) ∷ ks) whole = (whole.0, whole_with c message envelope (with_inputs ks) (whole_inputs ks whole.1))
whole_inputs ((kept.Child a own b program) ∷ ks) whole = (whole.0, whole_inputs ks whole.1)
whole_inputs ((kept.Start a program) ∷ ks) whole = (whole.0, whole_inputs ks whole.1)
whole_inputs ((kept.Act a own) ∷ ks) whole = (whole.0, whole_inputs ks whole.1)
whole_inputs ((kept.Generation start) ∷ ks) whole = (whole.0, whole_inputs ks whole.1)
whole_inputs ((kept.Report slot letter text) ∷ ks) whole = (whole.0, whole_inputs ks whole.1)
whole_inputs ((kept.End a read ready status) ∷ ks) whole = (whole.0, whole_inputs ks whole.1)
whole_inputs ((kept.Stop a) ∷ ks) whole = (whole.0, whole_inputs ks whole.1)
whole_inputs ((kept.Moment m) ∷ ks) whole = (whole.0, whole_inputs ks whole.1)
whole_inputs ((kept.Halt how) ∷ ks) whole = (whole.0, whole_inputs ks whole.1)

-- what is known of the pipes and slots is so after each history that is told
pub known_pipework : (d : Disk) (events : List Kept) (h : List Event) → AllZip Tells (with_inputs (reverse events)) h → AreWholeGivings (reverse events) → (after d h).pipework ≡ (known events).pipework
known_pipework d events h told whole = pipework_told d (with_inputs (reverse events)) h told (whole_inputs (reverse events) whole)

-- A child is given its input

pub all_first : {X : Type 0} (P : X → Type 0) (x : X) (xs : List X) → All P (x ∷ xs) → P x
all_first P x xs all = all 0 x (omega arith)

pub all_rest : {X : Type 0} (P : X → Type 0) (x : X) (xs : List X) → All P (x ∷ xs) → All P xs
all_rest P x xs all = λ k d within. all (suc k) d (omega arith)

-- Two states are the same, but for the input of a child that has done nothing, and but for the disk and the books.
pub record IsRefilled (c message envelope : List ℕ) (s t : State) : Type 0 where
  pub holder : t.holder ≡ s.holder
  pub now : t.now ≡ s.now
  pub pipework : t.pipework ≡ s.pipework
  pub others : (a : List ℕ) → a ≢ c → t.actors a ≡ s.actors a
  pub program : Program
  pub life : Life
  pub was : s.actors c ≡ Some (idle program life)
  pub is : t.actors c ≡ Some (idle (with_texts message envelope program) life)

-- what two maps hold at a name, they hold there with the same new value at another name, or at this one
pub both_put : (m n : List ℕ → Option Actor) (a : List ℕ) (v : Option Actor) (o : List ℕ) → m o ≡ n o → put_at m a v o ≡ put_at n a v o
unfolding put_at
both_put m n a v o e = ap (λ (x : Option Actor). if bytes_eq o a then v else x) e

-- so it is with this program
record IsRefilledAs (c : List ℕ) (program other : Program) (s t : State) : Type 0 where
  holder : t.holder ≡ s.holder
  now : t.now ≡ s.now
  pipework : t.pipework ≡ s.pipework
  others : (a : List ℕ) → a ≢ c → t.actors a ≡ s.actors a
  life : Life
  was : s.actors c ≡ Some (idle program life)
  is : t.actors c ≡ Some (idle other life)

module _ (c : List ℕ) (program other : Program) where
  abbrev Refilled : State → State → Type 0
  Refilled s t = IsRefilledAs c program other s t

  acted_refilled : (s t : State) (a : List ℕ) (own : Own) (o : Option Actor) → a ≢ c → Refilled s t → Refilled (acted s a own 0 o) (acted t a own 0 o)
  acted_refilled s t a own None apart r = r
  acted_refilled s t a own (Some x) apart r = record {
    holder = ap (λ (h : ℕ → Option (List ℕ)). holder_after h a own.due own.came) r.holder;
    now = r.now;
    pipework = ap (λ (w : Pipework). pipework_after w a own.due own.came 0) r.pipework;
    others = λ o ne. both_put t.actors s.actors a _ o (r.others o ne);
    life = r.life;
    was = put_at_other s.actors a _ c (λ w. apart (sym w)) ∙ r.was;
    is = put_at_other t.actors a _ c (λ w. apart (sym w)) ∙ r.is;
  }

  finished_refilled : (s t : State) (a : List ℕ) (life : Life) (o : Option Actor) → a ≢ c → Refilled s t → Refilled (finished s a life o) (finished t a life o)
  finished_refilled s t a life None apart r = r
  finished_refilled s t a life (Some x) apart r = record {
    holder = freed_alike t.holder s.holder a r.holder;
    now = r.now;
    pipework = ap (λ (w : Pipework). without_writer w a) r.pipework;
    others = λ o ne. both_put t.actors s.actors a _ o (r.others o ne);
    life = r.life;
    was = put_at_other s.actors a _ c (λ w. apart (sym w)) ∙ r.was;
    is = put_at_other t.actors a _ c (λ w. apart (sym w)) ∙ r.is;
  }

  -- another actor's event
  act_refilled : (s t : State) (a : List ℕ) (own : Own) → a ≢ c → Refilled s t → Refilled (acted s a own 0 (s.actors a)) (acted t a own 0 (t.actors a))
  act_refilled s t a own apart r =
      subst (λ (o : Option Actor). Refilled (acted s a own 0 (s.actors a)) (acted t a own 0 o)) (sym (r.others a apart)) (acted_refilled s t a own (s.actors a) apart r)

  finish_refilled : (s t : State) (a : List ℕ) (life : Life) → a ≢ c → Refilled s t → Refilled (finished s a life (s.actors a)) (finished t a life (t.actors a))
  finish_refilled s t a life apart r =
      subst (λ (o : Option Actor). Refilled (finished s a life (s.actors a)) (finished t a life o)) (sym (r.others a apart)) (finished_refilled s t a life (s.actors a) apart r)

  -- the child itself is stopped
  stop_refilled : (s t : State) → Refilled s t → Refilled (finished s c Life.Stopped (s.actors c)) (finished t c Life.Stopped (t.actors c))
  stop_refilled s t r =
      subst (λ (o : Option Actor). Refilled (finished s c Life.Stopped o) (finished t c Life.Stopped (t.actors c))) (sym r.was)
      (subst (λ (o : Option Actor). Refilled (finished s c Life.Stopped (Some (idle program r.life))) (finished t c Life.Stopped o)) (sym r.is) (record {
        holder = freed_alike t.holder s.holder c r.holder;
        now = r.now;
        pipework = ap (λ (w : Pipework). without_writer w c) r.pipework;
        others = λ o ne. put_at_other t.actors c _ o ne ∙ r.others o ne ∙ sym (put_at_other s.actors c _ o ne);
        life = Life.Stopped;
        was = put_at_same s.actors c _;
        is = put_at_same t.actors c _;
      }))

  begins_refilled : (s t : State) (a : List ℕ) (began : Program) (v w : Pipework) → a ≢ c → w ≡ v → Refilled s t → Refilled (begins s a began v) (begins t a began w)
  begins_refilled s t a began v w apart same r = record {
    holder = r.holder;
    now = r.now;
    pipework = same;
    others = λ o ne. both_put t.actors s.actors a _ o (r.others o ne);
    life = r.life;
    was = put_at_other s.actors a _ c (λ w. apart (sym w)) ∙ r.was;
    is = put_at_other t.actors a _ c (λ w. apart (sym w)) ∙ r.is;
  }

  happens_refilled : (s t : State) (parent : List ℕ) (k : Kept) → IsApart parent c k → is_member c ≡ false → Refilled s t → Refilled (happens s (event_of k)) (happens t (event_of k))
  happens_refilled s t parent (kept.Start a began) apart mail r = begins_refilled s t a began s.pipework t.pipework apart r.pipework r
  happens_refilled s t parent (kept.Act a own) apart mail r = act_refilled s t a own apart.1 r
  happens_refilled s t parent (kept.Child a own b began) apart mail r =
      let one = act_refilled s t a own apart.1 r in
      begins_refilled _ _ b began _ _ apart.2 (ap (λ (w : Pipework). with_child w a (slot_by own.due) b) one.pipework) one
  happens_refilled s t parent (kept.Feed a own b text more) apart mail r = absurd apart
  happens_refilled s t parent (kept.Generation start) apart mail r = record {
    holder = r.holder;
    now = r.now;
    pipework = ap with_generation r.pipework;
    others = λ o ne. both_put _ _ (codes "rspawn") _ o (both_put _ _ (codes "lspawn") _ o (both_put _ _ (codes "clean") _ o (both_put t.actors s.actors (codes "sender") _ o (r.others o ne))));
    life = r.life;
    was = four_other s.actors (Sender start) (Cleaner start) (LocalSpawner start) (RemoteSpawner start) c mail ∙ r.was;
    is = four_other t.actors (Sender start) (Cleaner start) (LocalSpawner start) (RemoteSpawner start) c mail ∙ r.is;
  }
  happens_refilled s t parent (kept.Report slot letter text) apart mail r = record {
    holder = r.holder;
    now = r.now;
    pipework = ap (λ (w : Pipework). with_report w slot (report_text letter text)) r.pipework;
    others = r.others;
    life = r.life;
    was = r.was;
    is = r.is;
  }
  happens_refilled s t parent (kept.End a read ready status) apart mail r = finish_refilled s t a (Life.Over status) apart.1 r
  happens_refilled s t parent (kept.Stop a) apart mail r = ⊎_elim
      (λ w. subst (λ (o : List ℕ). Refilled (finished s o Life.Stopped (s.actors o)) (finished t o Life.Stopped (t.actors o))) (sym w.0) (stop_refilled s t r))
      (λ w. finish_refilled s t a Life.Stopped w.0 r)
      (text_cases a c)
  happens_refilled s t parent (kept.Moment m) apart mail r =
      record { holder = r.holder; now = refl; pipework = r.pipework; others = r.others; life = r.life; was = r.was; is = r.is }
  happens_refilled s t parent (kept.Halt how) apart mail r = record {
    holder = refl;
    now = r.now;
    pipework = refl;
    others = λ o ne. ap (option_map stopped) (r.others o ne);
    life = cut_off r.life;
    was = ap (option_map stopped) r.was;
    is = ap (option_map stopped) r.is;
  }

  refilled : (parent : List ℕ) (own : Own) (later before : List Kept) → All (IsApart parent c) later → is_member c ≡ false
      → Refilled (after nowhere (map event_of (later ++ kept.Child parent own c program ∷ before))) (after nowhere (map event_of (later ++ kept.Child parent own c other ∷ before)))
  refilled parent own [] before apart mail = record {
    holder = refl;
    now = refl;
    pipework = refl;
    others = λ o ne. put_at_other _ c _ o ne ∙ sym (put_at_other _ c _ o ne);
    life = Life.Alive;
    was = put_at_same _ c _;
    is = put_at_same _ c _;
  }
  refilled parent own (k ∷ later) before apart mail = happens_refilled _ _ parent k (all_first (IsApart parent c) k later apart) mail
      (refilled parent own later before (all_rest (IsApart parent c) k later apart) mail)

module _ (c message envelope : List ℕ) where
  -- in the start of that child stand these texts then
  past_by : (parent : List ℕ) (k : Kept) (ks : List Kept) → IsApart parent c k → start_with c message envelope (k ∷ ks) ≡ k ∷ start_with c message envelope ks
  past_by parent (kept.Start a program) ks apart = refl
  past_by parent (kept.Act a own) ks apart = refl
  past_by parent (kept.Child a own b program) ks apart =
      ap (λ (t : Bool). if t then (kept.Child a own b (with_texts message envelope program)) ∷ ks else (kept.Child a own b program ∷ start_with c message envelope ks)) (other_text b c apart.2)
  past_by parent (kept.Feed a own b text more) ks apart = absurd apart
  past_by parent (kept.Generation start) ks apart = refl
  past_by parent (kept.Report slot letter text) ks apart = refl
  past_by parent (kept.End a read ready status) ks apart = refl
  past_by parent (kept.Stop a) ks apart = refl
  past_by parent (kept.Moment m) ks apart = refl
  past_by parent (kept.Halt how) ks apart = refl

  pub start_in : (parent : List ℕ) (own : Own) (program : Program) (later before : List Kept) → All (IsApart parent c) later
      → start_with c message envelope (later ++ kept.Child parent own c program ∷ before) ≡ later ++ kept.Child parent own c (with_texts message envelope program) ∷ before
  start_in parent own program [] before apart =
      ap (λ (t : Bool). if t then (kept.Child parent own c (with_texts message envelope program)) ∷ before else (kept.Child parent own c program ∷ start_with c message envelope before)) (same_text c)
  start_in parent own program (k ∷ later) before apart =
      past_by parent k (later ++ kept.Child parent own c program ∷ before) (all_first (IsApart parent c) k later apart)
      ∙ ap (λ (l : List Kept). k ∷ l) (start_in parent own program later before (all_rest (IsApart parent c) k later apart))

-- what is known then: the same as before, but for the input of the child, and the giving
pub known_fed : (events : List Kept) (a c message envelope : List ℕ) (own : Own) → HasJustStarted events a c → is_member c ≡ false
    → (t : State) × IsRefilled c message envelope (known events) t × (known (events ++ kept.Feed a own c message envelope ∷ []) ≡ happens t (Act a own 0))
known_fed events a c message envelope own just mail =
    let told : List Kept → State = λ l. after nowhere (map event_of l) in
    let anew = with_texts message envelope just.program in
    let filled = just.later ++ kept.Child a just.own c anew ∷ just.before in
    let r = refilled c just.program anew a just.own just.later just.before just.apart mail in
    let one : IsRefilled c message envelope (told (just.later ++ kept.Child a just.own c just.program ∷ just.before)) (told filled) = record {
      holder = r.holder;
      now = r.now;
      pipework = r.pipework;
      others = r.others;
      program = just.program;
      life = r.life;
      was = r.was;
      is = r.is;
    } in (
      told filled,
      subst (λ (s : State). IsRefilled c message envelope s (told filled)) (sym (ap told just.are)) one,
      ap told (inputs_fed events a own c message envelope)
          ∙ ap (λ (l : List Kept). told (kept.Act a own ∷ l)) (ap (start_with c message envelope) just.are ∙ start_in c message envelope a just.own just.program just.later just.before just.apart),
    )

-- and until then the child runs the program of its start, and has done nothing
pub just_idle : (events : List Kept) (a c : List ℕ) (just : HasJustStarted events a c) → is_member c ≡ false → (life : Life) × ((known events).actors c ≡ Some (idle just.program life))
just_idle events a c just mail =
    let told : List Kept → State = λ l. after nowhere (map event_of l) in
    let r = refilled c just.program just.program a just.own just.later just.before just.apart mail in
    (r.life, ap (λ (l : List Kept). (told l).actors c) just.are ∙ r.was)
