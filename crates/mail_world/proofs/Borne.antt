-- A child in the first slot of its parent, which awaits its input.
use Rattle.std.proofs.Common.{◌≡◌, ◌≢◌, ℕ, List, [], ◌∷◌, ◌++◌, Bool, true, false, Option, Some, None, IsSome, refl, sym, ap, ◌∙◌, subst, ⊎_elim, bytes_eq}
use Rattle.std.specs.Prelude.{All, if◌then◌else◌}
use Rattle.std.proofs.lemmas.List.{reverse-append}
use Rattle.std.proofs.lemmas.List.Elements.{All-cons, All-head, All-tail}
use Rattle.call_fs.specs.declared.past.Own.{Own}
use Rattle.world_events.specs.declared.event.Event.{Event as Kept}
use Rattle.world_events.specs.declared.event.Event.TheVariants as kept
use Rattle.world_events.specs.declared.event.Program.{Program}
use Rattle.world_events.specs.Inputs.{start_with, with_inputs, with_texts}
use Rattle.world_pipes.specs.declared.mouths.Mouths.{Mouths}
use Rattle.mail_world.specs.Pipework.{is_member}
use Rattle.mail_world.specs.Pipework.Tenant.{Runs}
use Rattle.mail_world.specs.declared.actor.Actor.{Actor as Held}
use Rattle.mail_world.specs.History.{Actor, State}
use Rattle.mail_world.specs.Readiness.{is_awaiting}
use Rattle.mail_world.specs.Inside.{IsApart, HasJustStarted, MayFeed, IsBorne, ArePiped}
use Rattle.mail_world.proofs.Awaiting.{no_slot}
use Rattle.mail_world.proofs.Known.{IsPlain, inputs_push}
use Rattle.mail_world.proofs.Members.{whether}
use Rattle.queue_law.proofs.Tests.{other_text}

-- It has just started, as one event comes that is neither its own nor its parent's

pub just_push : (events : List Kept) (k : Kept) (parent c : List ℕ) → IsPlain k → IsApart parent c k → HasJustStarted events parent c → HasJustStarted (events ++ k ∷ []) parent c
just_push events k parent c plain apart just = record {
  later = k ∷ just.later;
  own = just.own;
  program = just.program;
  before = just.before;
  are = inputs_push events k plain ∙ ap (λ (l : List Kept). k ∷ l) just.are;
  apart = All-cons (IsApart parent c) k just.later apart just.apart;
}

-- The event gives another child its input, and its parent is another one

-- it begins with another input in the events before
record BeginsElse (b message envelope : List ℕ) (parent c : List ℕ) (own : Own) (program : Program) (later before : List Kept) : Type 0 where
  now : List Kept
  rest : List Kept
  are : start_with b message envelope (later ++ kept.Child parent own c program ∷ before) ≡ now ++ kept.Child parent own c program ∷ rest
  apart : All (IsApart parent c) later → All (IsApart parent c) now

module _ (b message envelope : List ℕ) (parent c : List ℕ) (own : Own) (program : Program) (before : List Kept) (other : b ≢ c) where
  -- one event more, which starts no child
  passed_over : (event : Kept) (later : List Kept)
      → start_with b message envelope (event ∷ later ++ kept.Child parent own c program ∷ before) ≡ event ∷ start_with b message envelope (later ++ kept.Child parent own c program ∷ before)
      → BeginsElse b message envelope parent c own program later before → BeginsElse b message envelope parent c own program (event ∷ later) before
  passed_over event later over w = record {
    now = event ∷ w.now;
    rest = w.rest;
    are = over ∙ ap (λ (l : List Kept). event ∷ l) w.are;
    apart = λ all. All-cons (IsApart parent c) event w.now (All-head (IsApart parent c) event later all) (w.apart (All-tail (IsApart parent c) event later all));
  }

  -- one that starts a child
  passed_child : (a : List ℕ) (did : Own) (d : List ℕ) (runs : Program) (later : List Kept) (t : Bool) → bytes_eq d b ≡ t
      → BeginsElse b message envelope parent c own program later before → BeginsElse b message envelope parent c own program (kept.Child a did d runs ∷ later) before
  passed_child a did d runs later true is w = record {
    now = kept.Child a did d (with_texts message envelope runs) ∷ later;
    rest = before;
    are = ap (λ (t : Bool). if t then kept.Child a did d (with_texts message envelope runs) ∷ later ++ kept.Child parent own c program ∷ before
        else (kept.Child a did d runs ∷ start_with b message envelope (later ++ kept.Child parent own c program ∷ before))) is;
    apart = λ all. All-cons (IsApart parent c) (kept.Child a did d (with_texts message envelope runs)) later (All-head (IsApart parent c) (kept.Child a did d runs) later all)
        (All-tail (IsApart parent c) (kept.Child a did d runs) later all);
  }
  passed_child a did d runs later false is w = passed_over (kept.Child a did d runs) later
      (ap (λ (t : Bool). if t then kept.Child a did d (with_texts message envelope runs) ∷ later ++ kept.Child parent own c program ∷ before
      else (kept.Child a did d runs ∷ start_with b message envelope (later ++ kept.Child parent own c program ∷ before))) is) w

  begins_else : (later : List Kept) → BeginsElse b message envelope parent c own program later before
  begins_else [] = record {
    now = [];
    rest = start_with b message envelope before;
    are = ap (λ (t : Bool). if t then kept.Child parent own c (with_texts message envelope program) ∷ before else (kept.Child parent own c program ∷ start_with b message envelope before))
        (other_text c b (λ e. other (sym e)));
    apart = λ all. all;
  }
  begins_else ((kept.Child a did d runs) ∷ later) = passed_child a did d runs later (bytes_eq d b) refl (begins_else later)
  begins_else ((kept.Start a runs) ∷ later) = passed_over (kept.Start a runs) later refl (begins_else later)
  begins_else ((kept.Act a did) ∷ later) = passed_over (kept.Act a did) later refl (begins_else later)
  begins_else ((kept.Feed a did d m e) ∷ later) = passed_over (kept.Feed a did d m e) later refl (begins_else later)
  begins_else ((kept.Generation start) ∷ later) = passed_over (kept.Generation start) later refl (begins_else later)
  begins_else ((kept.Report slot letter text) ∷ later) = passed_over (kept.Report slot letter text) later refl (begins_else later)
  begins_else ((kept.End a read ready status) ∷ later) = passed_over (kept.End a read ready status) later refl (begins_else later)
  begins_else ((kept.Stop a) ∷ later) = passed_over (kept.Stop a) later refl (begins_else later)
  begins_else ((kept.Moment m) ∷ later) = passed_over (kept.Moment m) later refl (begins_else later)
  begins_else ((kept.Halt how) ∷ later) = passed_over (kept.Halt how) later refl (begins_else later)

pub just_fed : (events : List Kept) (a : List ℕ) (own : Own) (b message envelope : List ℕ) (parent c : List ℕ) → b ≢ c → a ≢ parent → a ≢ c → HasJustStarted events parent c
    → HasJustStarted (events ++ kept.Feed a own b message envelope ∷ []) parent c
just_fed events a own b message envelope parent c other far beside just =
    let w = begins_else b message envelope parent c just.own just.program just.before other just.later in
    record {
      later = kept.Act a own ∷ w.now;
      own = just.own;
      program = just.program;
      before = w.rest;
      are = ap with_inputs (reverse-append events (kept.Feed a own b message envelope ∷ [])) ∙ ap (λ (l : List Kept). kept.Act a own ∷ start_with b message envelope l) just.are
          ∙ ap (λ (l : List Kept). kept.Act a own ∷ l) w.are;
      apart = All-cons (IsApart parent c) (kept.Act a own) w.now (far, beside) (w.apart just.apart);
    }

-- what its parent gives it next it may give it then too
pub feed_push : (s t : State) (events : List Kept) (k : Kept) (parent : List ℕ) → IsPlain k → ((c : List ℕ) → s.pipework.programs parent 0 ≡ Some (Runs c) → is_awaiting s c ≡ true → IsApart parent c k)
    → t.pipework.programs parent 0 ≡ s.pipework.programs parent 0 → ((c : List ℕ) → s.pipework.programs parent 0 ≡ Some (Runs c) → is_awaiting s c ≡ true → is_awaiting t c ≡ true)
    → MayFeed s events parent → MayFeed t (events ++ k ∷ []) parent
feed_push s t events k parent plain apart same awaits may = record {
  child = may.child;
  runs = same ∙ may.runs;
  awaiting = awaits may.child may.runs may.awaiting;
  just = just_push events k parent may.child plain (apart may.child may.runs may.awaiting) may.just;
}

-- who runs in a slot is known
pub borne_known : (wires : List ℕ → Option ℕ) (s : State) (a : List ℕ) (d : ℕ) (c : List ℕ) → IsBorne wires s a d c → IsSome (s.actors c)
borne_known wires s a d c borne = subst (λ (o : Option Actor). IsSome o) (sym borne.is) refl

-- who is unknown awaits nothing
pub stranger_awaits : (crew : ℕ) (mouths : List Mouths) (actors : List Held) (s : State) (events : List Kept) (a : List ℕ) → ArePiped crew mouths actors s events → s.actors a ≡ None
    → is_awaiting s a ≡ false
stranger_awaits crew mouths actors s events a piped unknown = ⊎_elim
    (λ member. no_slot s a (piped.wired.members a member))
    (λ named. no_slot s a (piped.fresh a unknown named).slot)
    (whether (is_member a))
