-- What one step of an actor adds.
use Rattle.std.proofs.Common.{◌≡◌, ◌&&◌, ◌||◌, ℕ, List, [], ◌∷◌, ◌++◌, Bool, true, false, Option, Some, None, refl, ap, ◌∙◌, sym, bytes_eq, if◌then◌else◌, reverse, length, append-nil, append_assoc}
use Rattle.std.specs.List.{list_any, list_all}
use Rattle.std.proofs.lemmas.List.{reverse-append}
use Rattle.std.proofs.lemmas.Slice.Eq.{bytes_eq-Decides}
use Rattle.call_fs.specs.declared.past.Own.{Own}
use Rattle.world_events.specs.declared.event.Program.{Program}
use Rattle.world_events.specs.declared.event.Program.TheVariants as program
use Rattle.call_fs.specs.declared.past.NeedData.{NeedData}
use Rattle.call_fs.specs.declared.past.NeedData.TheVariants as needs
use Rattle.call_fs.specs.declared.past.GotData.{GotData}
use Rattle.call_fs.specs.declared.past.GotData.TheVariants as got
use Rattle.call_fs.specs.declared.program.Port.TheVariants as port
use Rattle.world_events.specs.declared.event.Event.{Event as Kept}
use Rattle.world_events.specs.declared.event.Event.TheVariants as kept
use Rattle.mail_world.specs.Pipework.{Tenant}
use Rattle.mail_world.specs.Pipework.Tenant.{Runs, Remote}
use Rattle.mail_world.specs.History.{State, program_of}
use Rattle.mail_world.specs.Known.{known}
use Rattle.mail_world.specs.World.{Seen, Counts, IsStep, IsKeptStart, IsKeptTo, IsKeptGiving, IsKeptBy, child_of, counts_in, ends, Span, span_after, span_of}
use Rattle.mail_world.specs.World.Span.{Lasting, OverAt}
use Rattle.actor_runner.specs.Runs.{is_step, is_end, actor_of}

-- an event of a step of that actor
abbrev pub IsOf : List ℕ → Kept → Type 0
IsOf a e = (is_step e ≡ true) × (actor_of e ≡ a)

kept_start : (born : Option (List ℕ × Program)) (a : List ℕ) (own : Own) (e : Kept) → IsKeptStart born a own e → IsOf a e
kept_start None a own e h = (ap is_step h, ap actor_of h)
kept_start (Some born) a own e h = (ap is_step h, ap actor_of h)

kept_to : (child : Option Program) (c a : List ℕ) (own : Own) (bytes : List ℕ) (e : Kept) → IsKeptTo child c a own bytes e → IsOf a e
kept_to None c a own bytes e h = (ap is_step h, ap actor_of h)
kept_to (Some (program.Injector args)) c a own bytes e h = (ap is_step h.3, ap actor_of h.3)
kept_to (Some other) c a own bytes e h = (ap is_step h, ap actor_of h)

kept_giving : (s : State) (in_slot : Option Tenant) (a : List ℕ) (own : Own) (bytes : List ℕ) (e : Kept) → IsKeptGiving s in_slot a own bytes e → IsOf a e
kept_giving s None a own bytes e h = (ap is_step h, ap actor_of h)
kept_giving s (Some (Remote reported)) a own bytes e h = (ap is_step h, ap actor_of h)
kept_giving s (Some (Runs c)) a own bytes e h = kept_to (program_of (s.actors c)) c a own bytes e h

-- what an actor did is kept as an event of a step
kept_by : (s : State) (before : Counts) (a : List ℕ) (own : Own) (due : NeedData) (came : GotData) (e : Kept) → IsKeptBy s before a own due came e → IsOf a e
kept_by s before a own (needs.File call) came e h = (ap is_step h, ap actor_of h)
kept_by s before a own (needs.Take from) came e h = (ap is_step h, ap actor_of h)
kept_by s before a own (needs.Give (port.Program d) bytes) got.Gave e h = kept_giving s (s.pipework.programs a d) a own bytes e h
kept_by s before a own (needs.Give (port.Program d) bytes) (got.Answered told) e h = (ap is_step h, ap actor_of h)
kept_by s before a own (needs.Give (port.Program d) bytes) (got.Took taken) e h = (ap is_step h, ap actor_of h)
kept_by s before a own (needs.Give (port.Program d) bytes) got.End e h = (ap is_step h, ap actor_of h)
kept_by s before a own (needs.Give (port.Program d) bytes) (got.Ended status) e h = (ap is_step h, ap actor_of h)
kept_by s before a own (needs.Give (port.Program d) bytes) got.Crashed e h = (ap is_step h, ap actor_of h)
kept_by s before a own (needs.Give (port.Program d) bytes) (got.Started pid) e h = (ap is_step h, ap actor_of h)
kept_by s before a own (needs.Give (port.Program d) bytes) got.Failed e h = (ap is_step h, ap actor_of h)
kept_by s before a own (needs.Give (port.Program d) bytes) got.Memory e h = (ap is_step h, ap actor_of h)
kept_by s before a own (needs.Give (port.Status d) bytes) came e h = (ap is_step h, ap actor_of h)
kept_by s before a own (needs.Give port.Input bytes) came e h = (ap is_step h, ap actor_of h)
kept_by s before a own (needs.Give port.Output bytes) came e h = (ap is_step h, ap actor_of h)
kept_by s before a own (needs.Give port.Clean bytes) came e h = (ap is_step h, ap actor_of h)
kept_by s before a own (needs.Give port.Lspawn bytes) came e h = (ap is_step h, ap actor_of h)
kept_by s before a own (needs.Give port.Rspawn bytes) came e h = (ap is_step h, ap actor_of h)
kept_by s before a own (needs.Give port.Todo bytes) came e h = (ap is_step h, ap actor_of h)
kept_by s before a own (needs.Start asked) (got.Started pid) e h = kept_start (child_of before a asked pid own.read) a own e h
kept_by s before a own (needs.Start asked) got.Gave e h = (ap is_step h, ap actor_of h)
kept_by s before a own (needs.Start asked) (got.Answered told) e h = (ap is_step h, ap actor_of h)
kept_by s before a own (needs.Start asked) (got.Took taken) e h = (ap is_step h, ap actor_of h)
kept_by s before a own (needs.Start asked) got.End e h = (ap is_step h, ap actor_of h)
kept_by s before a own (needs.Start asked) (got.Ended status) e h = (ap is_step h, ap actor_of h)
kept_by s before a own (needs.Start asked) got.Crashed e h = (ap is_step h, ap actor_of h)
kept_by s before a own (needs.Start asked) got.Failed e h = (ap is_step h, ap actor_of h)
kept_by s before a own (needs.Start asked) got.Memory e h = (ap is_step h, ap actor_of h)
kept_by s before a own (needs.Command bytes) came e h = (ap is_step h, ap actor_of h)
kept_by s before a own needs.Wait came e h = (ap is_step h, ap actor_of h)
kept_by s before a own (needs.Ended status) came e h = (ap is_step h, ap actor_of h)

-- A step adds one event, of a step of its actor; if it was the end, that actor's end.
pub record AddsOne {D : Type 0} (a : List ℕ) (ended : Option ℕ) (old new : Seen D) : Type 0 where
  pub event : Kept
  pub is : new.events ≡ old.events ++ event ∷ []
  pub of : IsOf a event
  pub end : (status : ℕ) → ended ≡ Some status → is_end a event ≡ true

bytes_same : (a : List ℕ) → bytes_eq a a ≡ true
bytes_same a = (bytes_eq-Decides a a).1 refl

pub adds_one : {D : Type 0} (a : List ℕ) (ended : Option ℕ) (old new : Seen D) → IsStep a ended old new → AddsOne a ended old new
adds_one a None old new s = record { event = s.1; is = s.4; of = kept_by (known old.events) (counts_in old.events) a s.0 s.0.due s.0.came s.1 s.3; end = λ status e. absurd (cc (e)) }
adds_one a (Some status) old new s = record { event = _; is = s.1; of = (refl, refl); end = λ other e. bytes_same a }

-- a step that isn't that actor's end ends no life of it
no_end : (a : List ℕ) (e : Kept) → is_step e ≡ true → is_end a e ≡ false → ends a e ≡ false
no_end a (kept.Start b program) s n = absurd (cc (s))
no_end a (kept.Act b own) s n = refl
no_end a (kept.Child b own c program) s n = refl
no_end a (kept.Feed b own c message envelope) s n = refl
no_end a (kept.Generation start) s n = refl
no_end a (kept.Report slot letter text) s n = refl
no_end a (kept.End b read ready status) s n = n
no_end a (kept.Stop b) s n = absurd (cc (s))
no_end a (kept.Moment m) s n = refl
no_end a (kept.Halt how) s n = absurd (cc (s))

span_same : (a : List ℕ) (e : Kept) (n : ℕ) (span : Span) → span ≡ Lasting → ends a e ≡ false → span_after a e n span ≡ Lasting
span_same a e n span here none = ap (span_after a e n) here ∙ ap (λ (b : Bool). if b then OverAt n else Lasting) none

pub both_true : (x y : Bool) → (x && y) ≡ true → (x ≡ true) × (y ≡ true)
both_true true y h = (refl, h)
both_true false y h = absurd (cc (h))

both_false : (x y : Bool) → (x || y) ≡ false → (x ≡ false) × (y ≡ false)
both_false false y h = (refl, h)
both_false true y h = absurd (cc (h))

-- a life lasts while no step is its end
pub lasts : (a : List ℕ) (es added : List Kept) → span_of a (reverse es) ≡ Lasting → list_all is_step added ≡ true → list_any (is_end a) added ≡ false → span_of a (reverse (es ++ added)) ≡ Lasting
lasts a es [] here steps none = ap (λ (l : List Kept). span_of a (reverse l)) (append-nil es) ∙ here
lasts a es (e ∷ rest) here steps none =
    let s = both_true (is_step e) (list_all is_step rest) steps in
    let n = both_false (is_end a e) (list_any (is_end a) rest) none in
    let turned : reverse (es ++ e ∷ []) ≡ e ∷ reverse es = reverse-append es (e ∷ []) in
    let next : span_of a (reverse (es ++ e ∷ [])) ≡ Lasting = ap (span_of a) turned ∙ span_same a e (length (reverse es)) (span_of a (reverse es)) here (no_end a e s.0 n.0) in
    let all = lasts a (es ++ e ∷ []) rest next s.1 n.1 in
    ap (λ (l : List Kept). span_of a (reverse l)) (sym (append_assoc es (e ∷ []) rest)) ∙ all
