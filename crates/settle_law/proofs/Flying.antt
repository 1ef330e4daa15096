-- What is in flight is in hand.
use Rattle.std.proofs.Common.{◌≡◌, ℕ, ◌+◌, List, [], ◌∷◌, ◌++◌, take, Bool, true, Option, Some, None, refl, sym, ap, ◌∙◌, subst, arith, codes}
use Rattle.std.specs.Option.{option_map}
use Rattle.std.proofs.lemmas.List.Elements.{All-nil}
use Rattle.call_fs.specs.Disk.{Disk}
use Rattle.call_fs.specs.Past.{IsRunBy, taken}
use Rattle.call_fs.specs.declared.past.Own.{Own}
use Rattle.program_law.specs.Post.Posts.{asked_by, owed_at, told_by, told_of}
use Rattle.program_law.specs.Post.Senders.{asked_on, told_on}
use Rattle.send_core.specs.Agrees.{task_of}
use Rattle.send_core.specs.Past.{Account, account, news, reports_in}
use Rattle.send_core.specs.Table.{Next}
use Rattle.send_core.proofs.Agreed.{lanes_agree}
use Rattle.send_jobs.specs.declared.attempts.Attempt.{Attempt}
use Rattle.send_known.specs.declared.channel.Channel.{Channel}
use Rattle.send_known.specs.declared.channel.Channel.TheVariants.{Local, Remote}
use Rattle.send_jobs.specs.Sending.{lane}
use Rattle.send_jobs.specs.Slots.{attempt_in}
use Rattle.spawn_protocol.specs.declared.inbox.Intake.TheVariants.{Open}
use Rattle.spawn_protocol.specs.Request.{IsRequest}
use Rattle.spawn_protocol.specs.declared.request.Request.{Request}
use Rattle.spawner_parts.specs.declared.place.Place.{Place}
use Rattle.spawner_parts.specs.declared.row.Row.{Row}
use Rattle.spawner_parts.specs.declared.row.Row.TheVariants as at
use Rattle.spawner_parts.specs.Causes.{has_end, programs}
use Rattle.spawner_parts.specs.Counts.{asked, one, reported, runs, times}
use Rattle.spawner_parts.specs.Known.{At}
use Rattle.spawner_parts.proofs.Agree.{begins as tells_first}
use Rattle.spawner_parts.proofs.Tallies.{asked_append}
use Rattle.world_events.specs.declared.event.Program.{Program}
use Rattle.world_events.specs.declared.event.Program.TheVariants.{Sender}
use Rattle.mail_world.specs.History.{Actor, Event, after, next_of}
use Rattle.world_law.proofs.Ran.{have_run}
use Rattle.world_law.specs.Spawned.{IsSpawner, spawner_name, stands_after}
use Rattle.world_law.specs.Standing.{goes_on}
use Rattle.settle_law.specs.inside.InHand.{FlightsAreInHand, InHand, coming, count}
use Rattle.settle_law.specs.Suffices.{desk_of}
use Rattle.settle_law.specs.Well.{GoesWell}
use Rattle.settle_law.proofs.Carried.{IsHeard, Posts, fly, sent_posts, served_posts, told_all, told_news}
use Rattle.settle_law.proofs.PipeEvents.{IsKept, IsSent, IsServed, asked_of, kept_always, sends_by, sends_past, spawned_is, spawns_past, told_of as told_in}
use Rattle.settle_law.proofs.Spawns.{says_on, tells_on}
use Rattle.settle_law.proofs.Splits.{Left, plain_among, unread}

-- In each state

abbrev pub Post : Channel → Option (List Own) → Option (List Own) → (told asks : List ℕ) → Type 0
Post c (Some past) (Some mine) told asks = Posts c past mine told asks
Post c sends spawns told asks = Unit {0}

pub first : (c : Channel) → Posts c [] [] [] []
first Local = record { requests = []; plain = tt; whole = All-nil IsRequest; are = refl; given = []; tells = tells_first; says = (refl, refl); heard = (refl, refl, refl, λ slot. refl) }
first Remote = record { requests = []; plain = tt; whole = All-nil IsRequest; are = refl; given = []; tells = tells_first; says = (refl, refl); heard = (refl, refl, refl, λ slot. refl) }

pub first_given : (c : Channel) → (first c).given ≡ []
unfolding first
first_given Local = refl
first_given Remote = refl

sends : (c : Channel) (past : List Own) (spawns : Option (List Own)) (told asks : List ℕ) (own : Own) (wrote : ℕ) → IsSent c past told own → Post c (Some past) spawns told asks
    → Post c (Some (own ∷ past)) spawns (told_on c own.due own.came told) (asked_on c own.due own.came wrote asks)
sends c past None told asks own wrote it h = tt
sends c past (Some mine) told asks own wrote it h = sent_posts c past mine told asks h own wrote it.run it.well it.takes it.gives it.shorts

serves : (c : Channel) (sends : Option (List Own)) (mine : List Own) (told asks : List ℕ) (own : Own) (wrote : ℕ) → IsServed c mine asks own → Post c sends (Some mine) told asks
    → Post c sends (Some (own ∷ mine)) (told_by own.due own.came wrote told) (asked_by own.due own.came asks)
serves c None mine told asks own wrote it h = tt
serves c (Some past) mine told asks own wrote it h =
    served_posts c past mine told asks h own wrote (tells_on c (own ∷ mine) it.run) it.offered (says_on c mine own wrote h.given it.run it.gives h.says)

kept : IsKept Post
kept = record { none = λ c told asks. tt; begins = first; sends = sends; serves = serves }

-- Counting

times_append : (slot : ℕ) (xs ys : List ℕ) → times slot (xs ++ ys) ≡ times slot xs + times slot ys
times_append slot [] ys = none (times slot ys)
  where
    none : (a : ℕ) → a ≡ 0 + a
    none a = omega arith
times_append slot (x ∷ xs) ys = ap (λ (n : ℕ). one slot x + n) (times_append slot xs ys) ∙ joined (one slot x) (times slot xs) (times slot ys)
  where
    joined : (a b c : ℕ) → a + (b + c) ≡ (a + b) + c
    joined a b c = omega arith

-- for which slot a report is owed
owed_is : (row : Row) (p : Place) (owed : List ℕ) (dealt : List Request) → goes_on row ≡ true → At row p owed dealt → owed ≡ owed_at row p
owed_is at.Greet p owed dealt on h = h.0
owed_is at.Idle p owed dealt on h = h.0
owed_is at.TakeInput p owed dealt on h = h.0
owed_is at.OpenMess p owed dealt on h = h.owes
owed_is (at.ReadMess fd) p owed dealt on h = h.owes
owed_is (at.CloseMess fd whole) p owed dealt on h = h.owes
owed_is at.Start p owed dealt on h = h.owes
owed_is at.Feed p owed dealt on h = h.0
owed_is (at.TakeOutput slot) p owed dealt on h = h.0
owed_is (at.TakeStatus slot) p owed dealt on h = h.0
owed_is at.Report p owed dealt on h = h.owes ∙ sym (ap (λ (t : List ℕ). take 1 t) h.is)
owed_is (at.Ended code) p owed dealt on h = absurd (cc)

heard_sum : (all dealt waits owed told busy before news fly : ℕ) → all ≡ dealt + waits → dealt ≡ (owed + told) + busy → before + news ≡ told → fly + before ≡ all
    → waits + ((owed + busy) + news) ≡ fly
heard_sum all dealt waits owed told busy before news fly e f g h = omega (arith, e, f, g, h)

quiet_sum : (all dealt waits owed told busy fly : ℕ) → all ≡ dealt + waits → dealt ≡ (owed + told) + busy → all ≡ 0 → fly ≡ 0 → waits + ((owed + busy) + 0) ≡ fly
quiet_sum all dealt waits owed told busy fly e f g h = omega (arith, e, f, g, h)

flying : (o : Option Attempt) → fly (option_map task_of o) ≡ count o
flying None = refl
flying (Some t) = refl

module _ (c : Channel) (past mine : List Own) (told asks : List ℕ) (P : Posts c past mine told asks) (goes : goes_on (stands_after c mine).row ≡ true) (takes : (stands_after c mine).inbox.intake ≡ Open)
    (slot : ℕ) where
  abbrev p : Place
  p = stands_after c mine

  abbrev a : Account
  a = account c past

  L : Left P.requests P.tells.counts.dealt (p.inbox.ahead ++ asks)
  L = unread (reported mine) (programs mine) (taken mine) (has_end mine) p P.tells.counts P.requests P.plain asks P.are takes

  all_is : asked slot P.requests ≡ asked slot P.tells.counts.dealt + asked slot L.waits
  all_is = ap (asked slot) L.are ∙ asked_append slot P.tells.counts.dealt L.waits

  dealt_is : asked slot P.tells.counts.dealt ≡ (times slot (owed_at p.row p) + times slot (reported mine)) + runs slot p.running
  dealt_is =
      P.tells.counts.sums slot
      ∙ ap (λ (n : ℕ). n + runs slot (programs mine)) (times_append slot P.tells.counts.owed (reported mine))
      ∙ ap (λ (l : List ℕ). (times slot l + times slot (reported mine)) + runs slot (programs mine)) (owed_is p.row p P.tells.counts.owed P.tells.counts.dealt goes P.tells.counts.at)
      ∙ ap (λ (l : List Bool). (times slot (owed_at p.row p) + times slot (reported mine)) + runs slot l) (sym P.tells.counts.same)

  counted : (o : Option (List ℕ)) → IsHeard a P.requests P.given told o
      → asked slot L.waits + ((times slot (owed_at p.row p) + runs slot p.running) + told_of slot (coming o told)) ≡ fly (a.in_flight slot)
  counted None h =
      quiet_sum (asked slot P.requests) (asked slot P.tells.counts.dealt) (asked slot L.waits) (times slot (owed_at p.row p)) (times slot (reported mine)) (runs slot p.running) (fly (a.in_flight slot))
      all_is dealt_is (ap (asked slot) h.1) (ap fly (h.3 slot))
  counted (Some heard) h =
      heard_sum (asked slot P.requests) (asked slot P.tells.counts.dealt) (asked slot L.waits) (times slot (owed_at p.row p)) (times slot (reported mine)) (runs slot p.running)
      (told_of slot (reports_in heard)) (told_of slot (news heard told)) (fly (a.in_flight slot))
      all_is dealt_is (sym (told_news heard told slot) ∙ told_all c past mine told asks P heard told h.0 slot) (h.1 slot)

  in_hand : (many : ℕ) → fly (a.in_flight slot) ≡ many → InHand p asks (coming a.heard told) slot many
  in_hand many is = record { waits = L.waits; text = L.text; plain = plain_among L.waits L.plain; are = counted a.heard P.heard ∙ is }

-- of a sender and of a spawner that are there
pub posts_in : (d : Disk) (h : List Event) → GoesWell d h → (c : Channel) (x y : Actor) (start : ℕ) → (after d h).actors (codes "sender") ≡ Some x → x.program ≡ Sender start
    → (after d h).actors (spawner_name c) ≡ Some y → IsSpawner c y.program → Posts c x.past y.past (told_in c (after d h)) (asked_of c (after d h))
posts_in d h well c x y start sender sends spawner serves =
    let s = after d h in
    let all : Post c (sends_past (s.actors (codes "sender"))) (spawns_past c (s.actors (spawner_name c))) (told_in c s) (asked_of c s) = kept_always Post kept d h well.legal well.well c in
    let one : sends_past (s.actors (codes "sender")) ≡ Some x.past = ap sends_past sender ∙ ap (λ (p : Program). sends_by p x.past) sends in
    let two : spawns_past c (s.actors (spawner_name c)) ≡ Some y.past = ap (spawns_past c) spawner ∙ spawned_is c y.program serves y.past in
    subst (λ (o : Option (List Own)). Post c (Some x.past) o (told_in c s) (asked_of c s)) two
    (subst (λ (o : Option (List Own)). Post c o (spawns_past c (s.actors (spawner_name c))) (told_in c s) (asked_of c s)) one all)

pub flights_are_in_hand : FlightsAreInHand
flights_are_in_hand d h well c x y start sender sends alive spawner serves goes takes slot =
    let s = after d h in
    let P = posts_in d h well c x y start sender sends spawner serves in
    let run : IsRunBy (Next None) x.past = subst (λ (p : Program). IsRunBy (next_of p) x.past) sends (have_run d h well.legal (codes "sender") x sender) in
    let agree = (lanes_agree None x.past run c alive).in_flight slot in
    in_hand c x.past y.past (told_in c s) (asked_of c s) P goes takes slot (count (attempt_in (lane c (desk_of x.past).slots).slots slot))
    (ap fly (sym agree) ∙ flying (attempt_in (lane c (desk_of x.past).slots).slots slot))
