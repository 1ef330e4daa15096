-- Generations in a world: their start, the reports of remote programs, who waits, and who is the next one in a turn.
use Rattle.std.specs.Prelude.{◌≡◌, ◌≢◌, ℕ, ◌+◌, List, [], ◌∷◌, ◌++◌, reverse, Bool, true, false, not, ◌&&◌, Option, Some, None, if◌then◌else◌, All, bytes_eq, codes, nat_lt, position}
use Rattle.std.specs.List.{list_any, range_with_len}
use Rattle.call_fs.specs.declared.program.Port.TheVariants as port
use Rattle.call_fs.specs.declared.past.NeedData.{NeedData}
use Rattle.call_fs.specs.declared.past.NeedData.TheVariants as needs
use Rattle.call_fs.specs.declared.past.Own.{Own}
use Rattle.actor_names.specs.MailNames.{members}
use Rattle.send_core.specs.Stands.{ends_idle}
use Rattle.send_core.specs.Table.{place_after as sender_after}
use Rattle.world_events.specs.declared.event.Event.{Event as Kept}
use Rattle.world_events.specs.declared.event.Event.TheVariants as kept
use Rattle.world_events.specs.declared.event.Program.{Program}
use Rattle.world_events.specs.declared.event.Program.TheVariants.{Sender}
use Rattle.mail_world.specs.Pipework.{Tenant, is_ready}
use Rattle.mail_world.specs.Pipework.Tenant.{Remote}
use Rattle.mail_world.specs.History.{Actor, Life, State, next_of}
use Rattle.mail_world.specs.History.Life.{Alive}
use Rattle.mail_world.specs.Readiness.{has_ended, found_in}
use Rattle.mail_world.specs.World.{Seen, Span, span_of}
use Rattle.mail_world.specs.World.Span.{Lasting}

-- What the calls append

-- the world after the start of a generation at the present moment
abbrev pub generation_world : {D : Type 0} → Seen D → Seen D
generation_world old = record { disk = old.disk; events = old.events ++ kept.Generation old.present ∷ []; present = old.present }

-- the world after the remote program in a slot ended with this letter and text
abbrev pub reported_world : {D : Type 0} → Seen D → ℕ → ℕ → List ℕ → Seen D
reported_world old slot letter text = record { disk = old.disk; events = old.events ++ kept.Report slot letter text ∷ []; present = old.present }

-- the first member that lives, in the order of members
pub record IsFirstAlive (events : List Kept) (a : List ℕ) : Type 0 where
  pub before : List (List ℕ)
  pub later : List (List ℕ)
  pub among : members ≡ before ++ a ∷ later
  pub lives : span_of a (reverse events) ≡ Lasting
  pub none : All (λ b. span_of b (reverse events) ≢ Lasting) before

-- no member lives
abbrev pub IsNoneAlive : List Kept → Type 0
IsNoneAlive events = All (λ a. span_of a (reverse events) ≢ Lasting) members

-- Who waits

-- what is due can't be done yet
abbrev pub CanNot : State → List ℕ → NeedData → Type 0
CanNot s a needs.Wait = Unit {0}
CanNot s a (needs.Take (port.Status d)) = has_ended s (s.pipework.programs a d) ≡ false
CanNot s a (needs.Take port) = is_ready (s.pipework.pipes a port) ≡ false
CanNot s a other = ⊥

-- a living actor waits at this moment
pub record Waits (s : State) (present : ℕ) (a : List ℕ) : Type 0 where
  pub actor : Actor
  pub is : s.actors a ≡ Some actor
  pub alive : actor.life ≡ Alive
  pub due : CanNot s a (next_of actor.program actor.past present (found_in s a))

-- Idle turns

abbrev pub idled_in : Program → List Own → Own → Bool
idled_in (Sender start) past own = ends_idle (sender_after None past) own
idled_in other past own = false

abbrev pub idled_by : Option Actor → Own → Bool
idled_by None own = false
idled_by (Some x) own = idled_in x.program x.past own

-- whether this event of an actor with this program and past ended one
abbrev pub idled_of : Program → List Own → Kept → Bool
idled_of program past (kept.Act a own) = idled_in program past own
idled_of program past (kept.Child a own c started) = idled_in program past own
idled_of program past (kept.Feed a own c message envelope) = idled_in program past own
idled_of program past other = false

-- whether this event ended an idle turn of a sender, after what was known before it
abbrev pub has_idled : State → Kept → Bool
has_idled s (kept.Act a own) = idled_by (s.actors a) own
has_idled s (kept.Child a own c program) = idled_by (s.actors a) own
has_idled s (kept.Feed a own c message envelope) = idled_by (s.actors a) own
has_idled s other = false

-- Turns

-- the actors that an event starts, in order: a generation each member, since it has a program for each
abbrev pub started_in : Kept → List (List ℕ)
started_in (kept.Start a program) = a ∷ []
started_in (kept.Child a own c program) = c ∷ []
started_in (kept.Generation start) = members
started_in other = []

-- the starts so far, the oldest first, by the kept events, the newest first
abbrev pub starts_of : List Kept → List (List ℕ)
starts_of [] = []
starts_of (event ∷ before) = starts_of before ++ started_in event

abbrev pub is_lasting : Span → Bool
is_lasting Lasting = true
is_lasting other = false

-- a start at a place from this one on, after which these came: that actor lives, and it is its newest start
abbrev pub is_next : ℕ → ℕ → List ℕ → List (List ℕ) → List Kept → Bool
is_next from at a later newest = not (nat_lt at from) && (not (list_any (bytes_eq a) later) && is_lasting (span_of a newest))

abbrev pub next_among : ℕ → ℕ → List (List ℕ) → List Kept → Option (List ℕ × ℕ)
next_among from at [] newest = None
next_among from at (a ∷ later) newest = if is_next from at a later newest then Some (a, at) else next_among from (at + 1) later newest

-- Of the living actors whose newest start is at this place in the order of starts, or later, the first, and its place there.
abbrev pub next_living : ℕ → List Kept → Option (List ℕ × ℕ)
next_living from events = next_among from 0 (starts_of (reverse events)) (reverse events)

-- Reports

abbrev pub lives_in : Option Actor → Bool
lives_in None = false
lives_in (Some x) = lives_so x.life where
  lives_so : Life → Bool
  lives_so Alive = true
  lives_so other = false

abbrev pub is_unreported : Option Tenant → Bool
is_unreported (Some (Remote false)) = true
is_unreported other = false

-- the lowest slot from this one on of the living remote spawner whose program has no report
abbrev pub lowest_unreported : ℕ → State → Option ℕ
lowest_unreported from s =
    position (λ d. not (nat_lt d from) && (lives_in (s.actors (codes "rspawn")) && is_unreported (s.pipework.programs (codes "rspawn") d))) (range_with_len 0 256)
