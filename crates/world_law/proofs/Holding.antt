-- What the local spawner holds is of attempts in flight.
use Rattle.std.proofs.Common.{◌≡◌, ℕ, ◌≤◌, List, true, Option, Some, None, refl, sym, ap, ◌∙◌, subst, codes}
use Rattle.call_fs.specs.Disk.{Among}
use Rattle.call_fs.specs.declared.past.Own.{Own}
use Rattle.call_fs.specs.declared.program.Port.TheVariants as port
use Rattle.local_spawn.specs.Table.{place_after as local_after}
use Rattle.program_law.specs.Post.Posts.{Fares, IsTaskFor, Post, Posted, Task, goes_at, in_hand}
use Rattle.program_law.specs.Post.Senders.{is_on}
use Rattle.send_core.specs.declared.desk.Desk.{Desk}
use Rattle.send_core.specs.Table.{place_after as sender_after}
use Rattle.send_jobs.specs.declared.attempts.Attempt.{Attempt}
use Rattle.send_known.specs.declared.channel.Channel.TheVariants as channel
use Rattle.send_jobs.specs.Sending.{lane}
use Rattle.send_jobs.specs.Slots.{attempt_in}
use Rattle.spawn_protocol.specs.declared.request.Request.{Request}
use Rattle.spawner_parts.specs.declared.place.Place.{Place}
use Rattle.spawner_parts.specs.declared.row.Row.{Row}
use Rattle.spawner_parts.specs.declared.row.Row.TheVariants as at
use Rattle.spawner_parts.specs.Asked.{runs_in}
use Rattle.world_events.specs.declared.event.Program.TheVariants.{LocalSpawner, Sender}
use Rattle.mail_world.specs.History.{Actor, State, after}
use Rattle.mail_world.specs.History.Life.{Alive}
use Rattle.world_law.specs.inside.Posts.{IsTaskIn, PostsStand, View, desk_in, place_in, post_of, sends_in, serves_in, view_of}
use Rattle.world_law.specs.Standing.{HandsStand, HoldsFlights, IsOfFlight, RequestsAreOfFlights, RunsForFlight, goes_on}
use Rattle.world_law.proofs.AtWork.{IsOfAttempt, held, runs_held, waiting, waiting_plain, waiting_text, works_by}
use Rattle.world_law.proofs.Histories.{always}
use Rattle.world_law.proofs.PostKept.{posts_always}
use Rattle.world_law.proofs.PostServes.{spawner}
use Rattle.world_law.proofs.SendersPut.{sender}
use Rattle.world_law.proofs.Standing.{hands_by}

module _ (s : State) (d : Desk) (H : HandsStand s d) (p : Place) (x : Post) (lives : x.lives ≡ true) (slots : x.slots ≡ (lane channel.Local d.slots).slots) (goes : goes_at x.serves p.row ≡ true)
    (F : Fares channel.Local p x) (run : (slot : ℕ) (t : Task) → x.tasks slot ≡ Some t → IsTaskIn s slot t) where
  -- what is in hand is of the attempt in flight in its slot
  of_flight : (slot : ℕ) (r : Request) → IsOfAttempt x slot r → IsOfFlight s d slot r
  of_flight slot r w =
      let flying : attempt_in (lane channel.Local d.slots).slots slot ≡ Some w.attempt = ap (λ (z : List (Option Attempt)). attempt_in z slot) (sym slots) ∙ w.flies in
      record { attempt = w.attempt; flies = flying; recipient = w.asks.0; mess = w.asks.1; stays = (H.flies channel.Local slot w.attempt flying).stays }

  unread : (r : Request) → Among r F.waits → IsOfFlight s d r.slot r
  unread r among = of_flight r.slot r (waiting p x lives goes F r among)

  -- so is the delivery that runs there
  for_flight : (slot : ℕ) (t : Task) (r : Request) → IsTaskIn s slot t → t.recipient ≡ r.recipient → IsOfFlight s d slot r → RunsForFlight s d slot
  for_flight slot t r h same w = record {
    name = t.name;
    runs = h.runs;
    delivery = h.is_for.delivery;
    is = h.is_for.is;
    start = h.is_for.start;
    args = h.is_for.args;
    program = h.is_for.program;
    attempt = w.attempt;
    flies = w.flies;
    recipient = sym w.recipient ∙ (sym same ∙ h.is_for.recipient);
    stays = w.stays;
  }

  run_by : (slot : ℕ) (t : Option Task) (o : Option Request) → x.tasks slot ≡ t → x.last slot ≡ o → IsTaskFor t o → 1 ≤ in_hand F.waits p x slot → RunsForFlight s d slot
  run_by slot (Some t) (Some r) task last is some = for_flight slot t r (run slot t task) is.1 (of_flight slot r (held p x lives goes F slot r some last))
  run_by slot t o task last is some = absurd is

  runs_of : (slot : ℕ) → runs_in p.running slot ≡ true → RunsForFlight s d slot
  runs_of slot is = run_by slot (x.tasks slot) (x.last slot) refl refl (F.run goes slot is) (runs_held p x lives goes F slot is)

  holds : HoldsFlights s d p x.asked
  holds = record {
    waits = F.waits;
    text = λ is. waiting_text p x lives goes F is;
    plain = λ r among. waiting_plain p x lives goes F r among;
    unread = unread;
    work = λ is. of_flight p.request.slot p.request (works_by p x lives goes F p.row refl is (F.stands goes));
    runs = runs_of;
  }

-- Both as they are seen

module _ (s : State) (P : PostsStand s) (first third : ℕ) (past own : List Own) (is : s.actors (codes "sender") ≡ Some (sender first past))
    (there : s.actors (codes "lspawn") ≡ Some (spawner third own)) where
  abbrev d : Desk
  d = sender_after None past

  abbrev both : View
  both = record {
    desk = d;
    sends = true;
    place = local_after own;
    serves = true;
    told = (s.pipework.pipes (codes "sender") port.Lspawn).bytes;
    asked = (s.pipework.pipes (codes "lspawn") port.Input).bytes;
  }

  seen : view_of s.actors s.pipework ≡ both
  seen = λ i. record {
    desk = desk_in (is i);
    sends = sends_in (is i);
    place = place_in (there i);
    serves = serves_in (there i);
    told = (s.pipework.pipes (codes "sender") port.Lspawn).bytes;
    asked = (s.pipework.pipes (codes "lspawn") port.Input).bytes;
  }

  both_posted : Posted (post_of both P.tasks P.last P.done)
  both_posted = subst (λ (v : View). Posted (post_of v P.tasks P.last P.done)) seen P.posted

  goes_so : (row : Row) → goes_on row ≡ true → goes_at true row ≡ true
  goes_so (at.Ended status) e = e
  goes_so row e = refl

  both_hold : HandsStand s d → is_on d.row ≡ true → goes_on (local_after own).work.row ≡ true → HoldsFlights s d (local_after own).work (s.pipework.pipes (codes "lspawn") port.Input).bytes
  both_hold H on goes = holds s d H (local_after own).work (post_of both P.tasks P.last P.done) on refl (goes_so (local_after own).work.row goes) both_posted.fares P.run

sender_is : (x : Actor) (start : ℕ) → x.program ≡ Sender start → x.life ≡ Alive → x ≡ sender start x.past
sender_is x start program alive = λ i. record { program = program i; past = x.past; life = alive i }

spawner_is : (y : Actor) (begun : ℕ) → y.program ≡ LocalSpawner begun → y.life ≡ Alive → y ≡ spawner begun y.past
spawner_is y begun program alive = λ i. record { program = program i; past = y.past; life = alive i }

pub requests_are_of_flights : RequestsAreOfFlights
requests_are_of_flights d before legal x is alive start program on y there lives begun runs_it goes =
    let s = after d before in
    let I = always d before legal in
    both_hold s (posts_always d before legal) start begun x.past y.past (is ∙ ap Some (sender_is x start program alive)) (there ∙ ap Some (spawner_is y begun runs_it lives))
    (hands_by s I (codes "sender") x.program x.past x.life alive start program (I.fares (codes "sender") x is)) on goes
