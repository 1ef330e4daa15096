-- What a world keeps tells a history, which has the input of each child in its start.
use Rattle.std.proofs.Common.{ℕ, List, [], ◌∷◌, Bool, true, false, bytes_eq, refl}
use Rattle.std.specs.Prelude.{if◌then◌else◌}
use Rattle.std.specs.List.{AllZip}
use Rattle.call_fs.specs.declared.past.Own.{Own}
use Rattle.world_events.specs.Inputs.{start_with, with_inputs, with_texts}
use Rattle.world_events.specs.declared.event.Event.{Event as Kept}
use Rattle.world_events.specs.declared.event.Event.TheVariants as kept
use Rattle.mail_world.specs.History.{Event}
use Rattle.mail_world.specs.History.Event.{Start, Act, Child, Generation, Report, End, Stop, Moment, Halt}
use Rattle.mail_world.specs.World.{Tells}
use Rattle.scenario.specs.inside.Fates.{TellsRead}

-- a giving to a child is told as another event
pub no_feed : (a : List ℕ) (own : Own) (c message envelope : List ℕ) (e : Event) → Tells (kept.Feed a own c message envelope) e → ⊥
no_feed a own c message envelope (Start b program) told = absurd (cc)
no_feed a own c message envelope (Act b other wrote) told = absurd (cc)
no_feed a own c message envelope (Child parent other b program) told = absurd (cc)
no_feed a own c message envelope (Generation crew) told = (let kept_is = told.1 in absurd (cc))
no_feed a own c message envelope (Report slot output) told = (let kept_is = told.2 in absurd (cc))
no_feed a own c message envelope (End b read ready status) told = absurd (cc)
no_feed a own c message envelope (Stop b) told = absurd (cc)
no_feed a own c message envelope (Moment m) told = absurd (cc)
no_feed a own c message envelope (Halt how contents) told = absurd (cc)

one_read : (k : Kept) (e : Event) → Tells k e → TellsRead k e
one_read (kept.Start a program) e told = (kept.Start a program, refl, told)
one_read (kept.Act a own) e told = (kept.Act a own, refl, told)
one_read (kept.Child a own c program) e told = (kept.Child a own c program, (program, refl), told)
one_read (kept.Feed a own c message envelope) e told = absurd (no_feed a own c message envelope e told)
one_read (kept.Generation start) e told = (kept.Generation start, refl, told)
one_read (kept.Report slot letter text) e told = (kept.Report slot letter text, refl, told)
one_read (kept.End a read ready status) e told = (kept.End a read ready status, refl, told)
one_read (kept.Stop a) e told = (kept.Stop a, refl, told)
one_read (kept.Moment m) e told = (kept.Moment m, refl, told)
one_read (kept.Halt how) e told = (kept.Halt how, refl, told)

all_read : (ks : List Kept) (h : List Event) → AllZip Tells ks h → AllZip TellsRead ks h
all_read [] [] told = tt
all_read [] (e ∷ h) told = absurd told
all_read (k ∷ ks) [] told = absurd told
all_read (k ∷ ks) (e ∷ h) told = (one_read k e told.0, all_read ks h told.1)

next_read : (k read : Kept) (ks reads : List Kept) (h : List Event) → ((e : Event) → TellsRead read e → TellsRead k e) → ((h : List Event) → AllZip TellsRead reads h → AllZip TellsRead ks h)
    → AllZip TellsRead (read ∷ reads) h → AllZip TellsRead (k ∷ ks) h
next_read k read ks reads [] one rest told = absurd told
next_read k read ks reads (e ∷ h) one rest told = (one e told.0, rest h told.1)

-- as they were before a child was given its input
before_given : (c message envelope : List ℕ) (ks : List Kept) (h : List Event) → AllZip TellsRead (start_with c message envelope ks) h → AllZip TellsRead ks h
before_given c message envelope [] h told = told
before_given c message envelope ((kept.Child a own b program) ∷ ks) h told = by_name (bytes_eq b c) (before_given c message envelope ks) told where
  given : Kept
  given = kept.Child a own b (with_texts message envelope program)

  by_name : (t : Bool) → ((h : List Event) → AllZip TellsRead (start_with c message envelope ks) h → AllZip TellsRead ks h)
      → AllZip TellsRead (if t then given ∷ ks else (kept.Child a own b program ∷ start_with c message envelope ks)) h → AllZip TellsRead (kept.Child a own b program ∷ ks) h
  by_name true rest told = next_read (kept.Child a own b program) given ks ks h (λ e t. t) (λ h t. t) told
  by_name false rest told = next_read (kept.Child a own b program) (kept.Child a own b program) ks (start_with c message envelope ks) h (λ e t. t) rest told
before_given c message envelope ((kept.Start a program) ∷ ks) h told = next_read (kept.Start a program) (kept.Start a program) ks (start_with c message envelope ks) h (λ e t. t) (before_given c message envelope ks) told
before_given c message envelope ((kept.Act a own) ∷ ks) h told = next_read (kept.Act a own) (kept.Act a own) ks (start_with c message envelope ks) h (λ e t. t) (before_given c message envelope ks) told
before_given c message envelope ((kept.Generation start) ∷ ks) h told = next_read (kept.Generation start) (kept.Generation start) ks (start_with c message envelope ks) h (λ e t. t) (before_given c message envelope ks) told
before_given c message envelope ((kept.Report slot letter text) ∷ ks) h told = next_read (kept.Report slot letter text) (kept.Report slot letter text) ks (start_with c message envelope ks) h (λ e t. t) (before_given c message envelope ks) told
before_given c message envelope ((kept.End a read ready status) ∷ ks) h told = next_read (kept.End a read ready status) (kept.End a read ready status) ks (start_with c message envelope ks) h (λ e t. t) (before_given c message envelope ks) told
before_given c message envelope ((kept.Stop a) ∷ ks) h told = next_read (kept.Stop a) (kept.Stop a) ks (start_with c message envelope ks) h (λ e t. t) (before_given c message envelope ks) told
before_given c message envelope ((kept.Moment m) ∷ ks) h told = next_read (kept.Moment m) (kept.Moment m) ks (start_with c message envelope ks) h (λ e t. t) (before_given c message envelope ks) told
before_given c message envelope ((kept.Halt how) ∷ ks) h told = next_read (kept.Halt how) (kept.Halt how) ks (start_with c message envelope ks) h (λ e t. t) (before_given c message envelope ks) told
before_given c message envelope ((kept.Feed a own b text more) ∷ ks) h told = next_read (kept.Feed a own b text more) (kept.Feed a own b text more) ks (start_with c message envelope ks) h (λ e t. t) (before_given c message envelope ks) told

with_read : (ks : List Kept) (h : List Event) → AllZip TellsRead (with_inputs ks) h → AllZip TellsRead ks h
with_read [] h told = told
with_read ((kept.Feed a own c message envelope) ∷ ks) h told =
    next_read (kept.Feed a own c message envelope) (kept.Act a own) ks (start_with c message envelope (with_inputs ks)) h (λ e t. t) (λ h t. with_read ks h (before_given c message envelope (with_inputs ks) h t)) told
with_read ((kept.Start a program) ∷ ks) h told = next_read (kept.Start a program) (kept.Start a program) ks (with_inputs ks) h (λ e t. t) (with_read ks) told
with_read ((kept.Act a own) ∷ ks) h told = next_read (kept.Act a own) (kept.Act a own) ks (with_inputs ks) h (λ e t. t) (with_read ks) told
with_read ((kept.Generation start) ∷ ks) h told = next_read (kept.Generation start) (kept.Generation start) ks (with_inputs ks) h (λ e t. t) (with_read ks) told
with_read ((kept.Report slot letter text) ∷ ks) h told = next_read (kept.Report slot letter text) (kept.Report slot letter text) ks (with_inputs ks) h (λ e t. t) (with_read ks) told
with_read ((kept.End a read ready status) ∷ ks) h told = next_read (kept.End a read ready status) (kept.End a read ready status) ks (with_inputs ks) h (λ e t. t) (with_read ks) told
with_read ((kept.Stop a) ∷ ks) h told = next_read (kept.Stop a) (kept.Stop a) ks (with_inputs ks) h (λ e t. t) (with_read ks) told
with_read ((kept.Moment m) ∷ ks) h told = next_read (kept.Moment m) (kept.Moment m) ks (with_inputs ks) h (λ e t. t) (with_read ks) told
with_read ((kept.Halt how) ∷ ks) h told = next_read (kept.Halt how) (kept.Halt how) ks (with_inputs ks) h (λ e t. t) (with_read ks) told
with_read ((kept.Child a own c program) ∷ ks) h told = next_read (kept.Child a own c program) (kept.Child a own c program) ks (with_inputs ks) h (λ e t. t) (with_read ks) told

pub inputs_read : (ks : List Kept) (h : List Event) → AllZip Tells (with_inputs ks) h → AllZip TellsRead ks h
inputs_read ks h told = with_read ks h (all_read (with_inputs ks) h told)
