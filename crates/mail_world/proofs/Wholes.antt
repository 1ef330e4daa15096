-- What a world keeps, after an event of an actor that concerns a child of its.
use Rattle.std.proofs.Common.{◌≡◌, ℕ, ◌+◌, ◌-◌, List, [], ◌∷◌, ◌++◌, length, reverse, set, false, if◌then◌else◌, min, Option, Some, None, refl, sym, ap, ◌∙◌, subst, ◌^◌}
use Rattle.std.specs.Prelude.{◌==◌}
use Rattle.std.specs.List.{slice_get}
use Rattle.call_fs.specs.Disk.{Disk}
use Rattle.call_fs.specs.Maps.{put_at}
use Rattle.call_fs.specs.declared.past.GotData.{GotData}
use Rattle.call_fs.specs.declared.past.NeedData.{NeedData}
use Rattle.call_fs.specs.declared.past.NeedData.TheVariants as needs
use Rattle.call_fs.specs.declared.program.Port.{Port}
use Rattle.call_fs.specs.declared.program.Port.TheVariants as port
use Rattle.queue_inject.specs.declared.injection.Arguments.{Arguments as Given}
use Rattle.world_events.specs.Books.{entry_by, fed_entry}
use Rattle.world_events.specs.Children.{child_of, counts_with, entry_after}
use Rattle.world_events.specs.Programs.{injection_of}
use Rattle.world_events.specs.Starts.{IsSameOrder}
use Rattle.world_events.specs.declared.event.Program.{Program}
use Rattle.world_events.specs.declared.books.Books.{Books}
use Rattle.world_events.specs.declared.books.Entry.{Entry}
use Rattle.world_events.specs.declared.event.Event.TheVariants as kept
use Rattle.world_events.specs.declared.event.History.{History}
use Rattle.world_events.specs.declared.starts.Starts.{Starts}
use Rattle.world_pipes.specs.declared.mouths.Mouths.{Mouths}
use Rattle.world_pipes.specs.Mouths.{pipe_of, tenant_of, ended_of, change_at, IsSame}
use Rattle.world_pipes.specs.Pipework.{Pipe, given, closed, is_port, slot_of}
use Rattle.world_pipes.specs.Seating.{HasPipesFor, HasPlaceAfter}
use Rattle.mail_world.specs.declared.actor.Actor.{Actor as Held}
use Rattle.mail_world.specs.Acting.{status_of}
use Rattle.mail_world.specs.Books.{entries_of}
use Rattle.mail_world.specs.Children.{Begins, IsFed}
use Rattle.mail_world.specs.Generations.{starts_of}
use Rattle.mail_world.specs.History.{netstring}
use Rattle.mail_world.specs.Inside.{known, living}
use Rattle.mail_world.specs.Kept.{HasRoom}
use Rattle.mail_world.specs.Starts.{AreStarts}
use Rattle.mail_world.specs.Whole.{IsWhole}
use Rattle.mail_world.specs.World.{Counts}
use Rattle.mail_world.proofs.Bearing.{IsBearing, HasStartedIn, bear_own, bear_new, bear_keeps, bear_booked, bear_piped}
use Rattle.mail_world.proofs.Feeding.{CanFeed, been_fed, fed_by, feed_own, feed_keeps, feed_booked, feed_piped}
use Rattle.mail_world.proofs.Filling.{IsFilling, fill_own, fill_keeps, fill_booked, fill_piped}
use Rattle.mail_world.proofs.Lists.{set_again}
use Rattle.mail_world.proofs.Noted.{put_among}
use Rattle.mail_world.proofs.Placing.{so_many}
use Rattle.mail_world.proofs.Seats.{seat_none}
use Rattle.mail_world.proofs.Serving.{HasServed, slot_at}
use Rattle.world_events.proofs.Starting.{mail_starts, same_starts}
use Rattle.mail_world.proofs.Starting.{starts_push, still_starts}
use Rattle.mail_world.proofs.Statuses.{IsTaking, status_own, status_keeps, status_booked, status_piped}

-- The whole input of a delivery was given, and its pipe shut.
pub record WasGiven (m v : Mouths) (bytes : List ℕ) : Type 0 where
  pub pipes : (q : Port) → pipe_of v q ≡ change_at port.Input (λ pipe. closed (given bytes pipe)) (pipe_of m) q
  pub tenants : (d : ℕ) → tenant_of v d ≡ tenant_of m d
  pub ended : (d : ℕ) → ended_of v d ≡ ended_of m d
  pub slots : length v.slots.items ≡ length m.slots.items

-- after room was made for it
given_then : (m mid v : Mouths) (bytes : List ℕ) → IsSame m mid → WasGiven mid v bytes → WasGiven m v bytes
given_then m mid v bytes made gave = record {
  pipes = λ q. gave.pipes q ∙ ap (λ (pipe : Pipe). if is_port q port.Input then closed (given bytes pipe) else pipe) (made.pipes q);
  tenants = λ d. gave.tenants d ∙ made.tenants d;
  ended = λ d. gave.ended d ∙ made.ended d;
  slots = gave.slots ∙ made.slots;
}

-- A slot is free again.
pub record WasFreed (m v : Mouths) (slot : ℕ) : Type 0 where
  pub pipes : (q : Port) → pipe_of v q ≡ pipe_of m q
  pub tenants : (d : ℕ) → tenant_of v d ≡ (if d == slot then None else tenant_of m d)
  pub ended : (d : ℕ) → ended_of v d ≡ (if d == slot then false else ended_of m d)
  pub slots : length v.slots.items ≡ length m.slots.items

module _ {told : Option Disk} {crew : ℕ} {places : List ℕ → Option ℕ} {actors : List Held} {history : History} {p n : ℕ} {b : Counts} {mouths : List Mouths} {books : Books} {starts : Starts}
    (w : IsWhole told crew places actors history p n b mouths books starts) {a : List ℕ} {due : NeedData} where
  -- the local spawner gave a delivery its input
  pub filled_whole : (k : IsFilling crew places mouths actors history.events.items p a due w.piped.wires) {place to : ℕ} {y : Held} {m mid v : Mouths} (later : History) → place ≡ k.asks.at
      → HasServed k.asks.here.held y (fill_own history.events.items p a k.slot k.bytes) (length history.events.items) k.asks.parent
      → later.events.items ≡ history.events.items ++ kept.Act a (fill_own history.events.items p a k.slot k.bytes) ∷ [] → HasRoom later (living (set actors place y))
      → to ≡ k.to → slice_get mouths to ≡ Some m → IsSame m mid → WasGiven mid v k.bytes → IsWhole told crew places (set actors place y) later p n b (set (set mouths to mid) to v) books starts
  filled_whole k {place} {to} {y} {m} {mid} {v} later here served event room same there made gave =
      let l = history.events.items in
      let x = k.asks in
      let due_is = x.next ∙ k.due_is in
      let stood : set actors place y ≡ set actors x.at y = ap (λ (j : ℕ). set actors j y) here in
      let one = given_then m mid v k.bytes made gave in
      let at : slice_get mouths k.to ≡ Some m = subst (λ (j : ℕ). slice_get mouths j ≡ Some m) same there in
      record {
        world = rw (event, stood) (fill_keeps told crew places actors mouths (entries_of books) l p n b a x.at x.parent w.world w.piped x.is x.alive x.here k.slot k.bytes k.child k.runs k.here.member.actor k.there k.delivers k.spawner due_is y served);
        room = room;
        booked = rw (event, stood) (fill_booked told crew places actors mouths (entries_of books) l p n b a x.at x.parent w.world w.piped x.is x.alive x.here k.slot k.bytes k.child k.runs k.here.member.actor k.there k.delivers k.spawner due_is y served
            w.booked);
        piped = rw (event, stood, same, set_again mouths k.to mid v) (fill_piped told crew places actors mouths (entries_of books) l p n b a x.at x.parent w.world w.piped x.is x.alive x.here k.slot k.bytes k.child k.runs k.here.member.actor k.there
            k.delivers k.spawner due_is y served k.to k.of m v at one.pipes one.tenants one.ended one.slots);
        started = rw (event) (still_starts starts crew places l (kept.Act a (fill_own l p a k.slot k.bytes)) refl w.started);
      }

  -- an actor took the status of its child
  pub taken_whole : (k : IsTaking crew places mouths actors history.events.items p a due) {place wire slot : ℕ} {y : Held} {came : GotData} {m v : Mouths} (later : History) → place ≡ k.asks.at
      → status_of k.here.held.ended k.here.held.status ≡ Some came → HasServed k.asks.here.held y (status_own history.events.items p a k.slot came) (length history.events.items) k.asks.parent
      → later.events.items ≡ history.events.items ++ kept.Act a (status_own history.events.items p a k.slot came) ∷ [] → HasRoom later (living (set actors place y))
      → wire ≡ k.wire → slice_get mouths wire ≡ Some m → slot ≡ k.slot → WasFreed m v slot → IsWhole told crew places (set actors place y) later p n b (set mouths wire v) books starts
  taken_whole k {place} {wire} {slot} {y} {came} {m} {v} later here ended served event room same there slot_is free =
      let l = history.events.items in
      let x = k.asks in
      let due_is = x.next ∙ k.due_is in
      let stood : set actors place y ≡ set actors x.at y = ap (λ (j : ℕ). set actors j y) here in
      let at : slice_get mouths k.wire ≡ Some m = subst (λ (j : ℕ). slice_get mouths j ≡ Some m) same there in
      let freed : WasFreed m v k.slot = subst (WasFreed m v) slot_is free in
      record {
        world = rw (event, stood) (status_keeps told crew places actors mouths (entries_of books) l p n b a x.at x.parent w.world w.piped x.is x.alive x.here k.slot k.child k.runs k.here came ended due_is y served);
        room = room;
        booked = rw (event, stood) (status_booked told crew places actors mouths (entries_of books) l p n b a x.at x.parent w.world w.piped x.is x.alive x.here k.slot k.child k.runs k.here came ended due_is y served w.booked);
        piped = rw (event, stood, same) (status_piped told crew places actors mouths (entries_of books) l p n b a x.at x.parent w.world w.piped x.is x.alive x.here k.slot k.child k.runs k.here came ended due_is y served
            k.wire k.wire_is m v at freed.pipes freed.tenants freed.ended freed.slots);
        started = rw (event) (still_starts starts crew places l (kept.Act a (status_own l p a k.slot came)) refl w.started);
      }

  -- an actor gave its child its whole input
  pub fed_whole : (k : CanFeed crew places actors mouths history.events.items p a due) {place j q : ℕ} {y z : Held} {m e read : List ℕ} (later : History) (more : Books) → place ≡ k.asks.at → j ≡ crew + k.child.at
      → due ≡ needs.Give (port.Program 0) (netstring m ++ netstring e) → HasServed k.asks.here.held y (feed_own history.events.items p a m e) (length history.events.items) k.asks.parent → IsFed m e k.child.held z
      → later.events.items ≡ history.events.items ++ kept.Feed a (feed_own history.events.items p a m e) k.feeds.child m e ∷ [] → HasRoom later (living (set (set actors place y) j z))
      → k.child.held.entry ≡ Some q → read ≡ e
      → ((entry : Entry) (args : Given) → slice_get (entries_of books) q ≡ Some entry → args.envelope ≡ read → entries_of more ≡ set (entries_of books) q (fed_entry args entry))
      → IsWhole told crew places (set (set actors place y) j z) later p n b mouths more starts
  fed_whole k {place} {j} {q} {y} {z} {m} {e} {read} later more here child due_is served given event room entry same noted =
      let l = history.events.items in
      let x = k.asks in
      let f = k.feeds in
      let next = x.next ∙ due_is in
      let stood : set actors place y ≡ set actors x.at y = ap (λ (j : ℕ). set actors j y) here in
      let fed = been_fed crew places actors (known l) l p f.child k.child z m e k.mail f.awaiting given in
      record {
        world = rw (child, event, stood) (feed_keeps told crew places actors mouths l p n b a x.at x.parent w.world w.piped x.is x.alive x.here f.child f.runs k.child f.awaiting f.just m e next k.feeder y z served fed);
        room = room;
        booked = rw (child, event, stood) (feed_booked told crew places actors mouths l p n b a x.at x.parent w.world w.piped x.is x.alive x.here f.child f.runs k.child f.awaiting f.just m e next k.feeder y z served fed
            (entries_of books) (entries_of more) q w.booked entry (fed_by (entries_of books) (entries_of more) q read e same noted));
        piped = rw (child, event, stood) (feed_piped told crew places actors mouths l p n b a x.at x.parent w.world w.piped x.is x.alive x.here f.child f.runs k.child f.awaiting f.just m e next k.feeder y z served fed);
        started = rw (event) (still_starts starts crew places l (kept.Feed a (feed_own l p a m e) f.child m e) refl w.started);
      }

  -- an actor started a child
  pub borne_whole : (k : IsBearing crew places mouths actors history.events.items p b a due) {place wire slot pid q : ℕ} {c : List ℕ} {program : Program} {y : Held} {all : List Held} {m v : Mouths} {now : List Mouths}
      {e : Counts} (z : Held) (own_pipes : Option Mouths) (next : List ℕ → Option ℕ) (later : History) (more : Books) (order grown : Starts) → place ≡ k.asks.at → e ≡ counts_with b k.asked → child_of b a k.asked pid p ≡ Some (c, program)
      → HasServed k.asks.here.held y (bear_own history.events.items p a pid k.asked) (length history.events.items) k.asks.parent
      → later.events.items ≡ history.events.items ++ kept.Child a (bear_own history.events.items p a pid k.asked) c program ∷ []
      → all ≡ set actors place y ++ z ∷ [] → HasRoom later (living all) → q ≡ min (n + 1) (2 ^ 32 - 1) → ((d : List ℕ) → next d ≡ put_at places c (Some (length actors - crew)) d)
      → z.name ≡ c → z.ended ≡ None → z.owed ≡ None → z.status ≡ None → z.descriptors.items ≡ [] → Begins z.machine program
      → entries_of more ≡ entries_of books ++ entry_by c (injection_of program) → z.entry ≡ entry_after (length (entries_of books)) program
      → wire ≡ k.wire → slice_get mouths wire ≡ Some m → slot ≡ slot_of k.asked → HasStartedIn m v slot c → HasPipesFor k.asked own_pipes → HasPlaceAfter (set mouths wire v) now own_pipes z.wire → z.slot ≡ Some (wire, slot)
      → IsSameOrder starts order → grown.order.items ≡ order.order.items ++ (length actors - crew + 4) ∷ [] → grown.newest ≡ order.newest
      → IsWhole told crew next all later p q e now more grown
  borne_whole k {place} {wire} {slot} {pid} {q} {c} {program} {y} {all} {m} {v} {now} {e} z own_pipes next later more order grown here counts born served event all_is room pid_is put name ended owed status list begun
      entries entry wire_is there slot_is began has after slot_kept same ordered newest =
      let l = history.events.items in
      let x = k.asks in
      let due_is = x.next ∙ k.due_is in
      let stood : set actors place y ≡ set actors x.at y = ap (λ (j : ℕ). set actors j y) here in
      let it = kept.Child a (bear_own l p a pid k.asked) c program in
      let fresh = bear_new told crew places next actors mouths l p n b a x.at x.parent w.world w.piped x.is x.alive x.here k.asked k.actor k.starts c program pid born due_is in
      let within = k.within in
      let among = put_among crew (length actors) places next c (seat_none c fresh.named) within put in
      let at : slice_get mouths k.wire ≡ Some m = subst (λ (j : ℕ). slice_get mouths j ≡ Some m) wire_is there in
      let runs : HasStartedIn m v (slot_of k.asked) c = subst (λ (d : ℕ). HasStartedIn m v d c) slot_is began in
      let grew : HasPlaceAfter (set mouths k.wire v) now own_pipes z.wire = subst (λ (j : ℕ). HasPlaceAfter (set mouths j v) now own_pipes z.wire) wire_is after in
      let was = same_starts starts order crew places (starts_of (reverse l)) same w.started in
      record {
        world = rw (all_is, event, stood, counts) (bear_keeps told crew places next actors mouths l p n b a x.at x.parent w.world w.piped x.is x.alive x.here k.asked k.actor k.starts c program pid born due_is
            y z served name ended owed status list begun.follows begun.awaits q pid_is among);
        room = room;
        booked = rw (all_is, event, stood, entries) (bear_booked told crew places next actors mouths l p n b a x.at x.parent w.world w.piped x.is x.alive x.here k.asked k.actor k.starts c program pid born due_is
            y z served name ended owed status list begun.follows begun.awaits (entries_of books) w.booked entry);
        piped = rw (all_is, event, stood) (bear_piped told crew places next actors mouths l p n b a x.at x.parent w.world w.piped x.is x.alive x.here k.asked k.actor k.starts c program pid born due_is
            y z served name ended owed status list begun.follows begun.awaits k.wire m v k.wire_is at k.four k.runs_in runs own_pipes now has grew (slot_at wire k.wire slot (slot_of k.asked) z.slot slot_kept wire_is slot_is));
        started = rw (event) (subst (AreStarts grown crew next) (sym (starts_push l it)) (mail_starts order grown crew (length actors) places next (starts_of (reverse l)) c within ordered newest fresh.new among was
            fresh.named put (so_many starts crew places (starts_of (reverse l)) actors (known l) l p w.started w.world.kept within)));
      }
