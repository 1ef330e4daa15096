-- Events of the sender: what it gives to the local spawner are requests of attempts, whose text has no NUL but those that end its fields.
use Rattle.std.proofs.Common.{◌≡◌, ◌≢◌, ℕ, ◌≤◌, List, ◌∷◌, true, false, Option, Some, None, refl, sym, ◌∙◌, subst, arith, codes, take, slice_get}
use Rattle.std.proofs.lemmas.List.Elements.{All-contains}
use Rattle.call_fs.proofs.Maps.{put_at_other, put_at_same}
use Rattle.call_fs.specs.declared.past.GotData.{GotData}
use Rattle.call_fs.specs.declared.past.GotData.TheVariants as got
use Rattle.call_fs.specs.declared.past.NeedData.{NeedData}
use Rattle.call_fs.specs.declared.past.NeedData.TheVariants as needs
use Rattle.call_fs.specs.declared.past.Own.{Own}
use Rattle.call_fs.specs.declared.program.Port.TheVariants as port
use Rattle.call_fs.specs.Program.{MayCome}
use Rattle.program_law.specs.Channel.Files.{IsOpen}
use Rattle.envelope_records.specs.declared.channel.Record.{Record}
use Rattle.envelope_records.specs.Envelope.{Reading, read_envelope}
use Rattle.envelope_records.specs.Envelope.Reading.{Whole, Open, Broken}
use Rattle.mail_bytes.specs.Texts.{HasNoNul}
use Rattle.envelope_records.proofs.Envelopes.{Sound, read_sound}
use Rattle.mail_bytes.specs.Moments.{IsMoment}
use Rattle.program_law.specs.Post.Posts.{Post, Posted}
use Rattle.program_law.specs.Post.Senders.{AsksFor, IsFirst, IsLate, IsSome, Sends, asked_on, told_on, with_desk}
use Rattle.program_law.proofs.Post.Senders.{senders_keep}
use Rattle.queue_inject.specs.declared.injection.Arguments.{Arguments}
use Rattle.queue_inject.specs.declared.injection.InputEnd.{InputEnd}
use Rattle.queue_inject.specs.Texts.{envelope_of, envelope_text, intd_text, limit}
use Rattle.queue_law.specs.Books.{Injection, IsValid}
use Rattle.queue_law.specs.Numbers.{About, Entry, IsTaken, Phase, Queue, about, is_later}
use Rattle.queue_law.specs.Numbers.Phase.{Free, Queued, Sorted, Finished}
use Rattle.queue_law.specs.Routes.{lane_part, sender_of, sender_read}
use Rattle.send_core.specs.declared.desk.Desk.{Desk}
use Rattle.send_parts.specs.declared.row.Row.{Row}
use Rattle.send_parts.specs.declared.row.Row.TheVariants as at
use Rattle.send_core.specs.Table.{arrive, place_after as sender_after, due_at, from_point, moved, row_now}
use Rattle.send_jobs.specs.declared.attempts.Attempt.{Attempt}
use Rattle.send_known.specs.declared.channel.Channel.{Channel}
use Rattle.send_known.specs.declared.channel.Channel.TheVariants.{Local, Remote}
use Rattle.send_parts.specs.declared.rows.FinishRow.TheVariants as finish
use Rattle.send_parts.specs.declared.rows.SweepRow.TheVariants as sweep
use Rattle.send_links.specs.Records.{records_of}
use Rattle.program_law.specs.Sender.Asking.{IsRequestFor}
use Rattle.program_law.specs.Sender.Views.{files_of, records_at}
use Rattle.program_law.proofs.Sender.Asking.{requests_are_texts}
use Rattle.program_law.proofs.Sender.Awaits.{Begins, point_begins}
use Rattle.program_law.proofs.Sender.Texts.{they_are}
use Rattle.world_pipes.specs.Pipework.{Pipe, Yields}
use Rattle.world_events.specs.declared.event.Program.{Program}
use Rattle.world_events.specs.declared.event.Program.TheVariants.{Sender}
use Rattle.mail_world.specs.History.{Actor, ComesOf, IsSender, Life, State, acted, next_of}
use Rattle.mail_world.specs.History.Life.{Alive}
use Rattle.mail_world.specs.Untouched.{queue}
use Rattle.mail_world.proofs.Coming.{may_come}
use Rattle.world_law.specs.Crew.{IsNamed}
use Rattle.world_law.specs.Fares.{SenderFares}
use Rattle.world_law.specs.Inv.{Inv}
use Rattle.world_law.specs.inside.Posts.{PostsStand, View, desk_in, place_in, post_of, sends_in, serves_in, view_of}
use Rattle.world_law.proofs.PostEvents.{tenant_not}
use Rattle.world_law.proofs.PostPipes.{asked_sent, names_apart, programs_left, told_sent}
use Rattle.world_law.proofs.PostViews.{KeepsDone, put_keeps_done, task_kept, was_kept}
use Rattle.world_law.proofs.SendersPut.{sender}

-- A row at which it goes on is none of its start

begins_late : (row : Row) → Begins row → IsLate row
begins_late (at.TakeLink c) h = tt
begins_late (at.Mark row m) h = tt
begins_late (at.ReadFile c n begun r) h = tt
begins_late (at.Request c) h = tt
begins_late (at.FindTodo search) h = tt
begins_late (at.Finish finish.OpenBounce n) h = tt
begins_late (at.Sweep sweep.First) h = tt
begins_late row h = absurd h

pub stays_late : (row : Row) (d : Desk) (event : Own) → IsLate row → IsLate (arrive row d event.read event.ready)
stays_late (at.Turn p) d event late = begins_late (from_point p d event.read event.ready) (point_begins d event.read event.ready p)
stays_late row d event late = late

-- Addresses

-- the record of an attempt has no NUL, and its file is there
record IsRecord (o : Option Entry) (a : Attempt) : Type 0 where
  file : Entry
  there : o ≡ Some file
  plain : HasNoNul a.address

open_record : (o : Option Entry) (a : Attempt) (records : List Record) → records_at o ≡ Some records → ((y : Entry) → records_of y.file.bytes ≡ Some records → HasNoNul a.address) → IsRecord o a
open_record None a records is plain = absurd (cc)
open_record (Some y) a records is plain = record { file = y; there = refl; plain = plain y is }

is_record : (q : Queue) (ch : Channel) (a : Attempt) → IsOpen (files_of q ch) a → IsRecord ((about q a.n).parts (lane_part ch)) a
is_record q ch a h = open_record ((about q a.n).parts (lane_part ch)) a h.records h.there (λ y is.
    All-contains (λ (it : Record). HasNoNul it.address) h.records (record { done = false; place = a.place; address = a.address }) (they_are y.file.bytes h.records is).plain h.reads)

-- of a number that has a channel file the message is valid
later_lane : (ch : Channel) → is_later (lane_part ch) ≡ true
later_lane Local = refl
later_lane Remote = refl

module _ (w : About) (i : Injection) (lives : w.living ≡ Some i) where
  same_injection : (j : Injection) → w.living ≡ Some j → j ≡ i
  same_injection j is = let both : ◌≡◌ {A = Option Injection} (Some j) (Some i) = sym is ∙ lives in cc

  taken_is : IsTaken w → IsValid i.args
  taken_is h = subst (λ (j : Injection). IsValid j.args) (same_injection h.injection h.lives) h.valid

  filed_is : (ch : Channel) (y : Entry) → w.parts (lane_part ch) ≡ Some y → Phase w → IsValid i.args
  filed_is ch y there (Free h) = let both : ◌≡◌ {A = Option Entry} None (Some y) = sym (h.unsorted (lane_part ch) (later_lane ch)) ∙ there in absurd (cc)
  filed_is ch y there (Queued h) = taken_is h.taken
  filed_is ch y there (Sorted h) = taken_is h.taken
  filed_is ch y there (Finished h) = subst (λ (j : Injection). IsValid j.args) (same_injection h.injection h.lives) h.settled.valid

-- and the sender of a valid message has no NUL
whole_from : (bytes : List ℕ) (r : Reading) (end : InputEnd) (next : Option ℕ) → Sound bytes r → (envelope_text r end next).fault ≡ None → HasNoNul (sender_read r)
whole_from bytes (Whole sender recipients) end next h ok = h.whole.from.plain
whole_from bytes (Open stage) end next h ok = absurd (cc)
whole_from bytes (Broken before fault) end next h ok = absurd (cc)

from_plain : (args : Arguments) → IsValid args → HasNoNul (sender_of args)
unfolding intd_text envelope_of sender_of
from_plain args valid = whole_from (take limit args.envelope) (read_envelope (take limit args.envelope)) args.envelope_end (slice_get args.envelope limit)
    (read_sound (take limit args.envelope)) valid.envelope

-- a request is that of an attempt
pub asks_for : (q : Queue) (d : Desk) (ch : Channel) (text : List ℕ) → ((n : ℕ) → Phase (about q n)) → IsRequestFor q ch d text → AsksFor ch d text
asks_for q d ch text fine w =
    let it = is_record q ch w.attempt w.reads in
    record {
      attempt = w.attempt;
      next_is = w.next_is;
      slot = w.slot;
      free = w.free;
      sender = sender_of w.injection.args;
      sender_plain = from_plain w.injection.args (filed_is (about q w.attempt.n) w.injection w.lives ch it.file it.there (fine w.attempt.n));
      address_plain = it.plain;
      is = w.is;
    }

-- what comes of a taking
pub some_of : (pipe : Pipe) (came : GotData) → Yields pipe came → IsSome came pipe.bytes
some_of pipe (got.Took bytes) y = y
some_of pipe came y = tt

-- The sender as it is seen

module _ (s : State) (P : PostsStand s) (began : ℕ) (past : List Own) (is : s.actors (codes "sender") ≡ Some (sender began past)) where
  abbrev pub sender_view : View
  sender_view = record {
    desk = sender_after None past;
    sends = true;
    place = place_in (s.actors (codes "lspawn"));
    serves = serves_in (s.actors (codes "lspawn"));
    told = (s.pipework.pipes (codes "sender") port.Lspawn).bytes;
    asked = (s.pipework.pipes (codes "lspawn") port.Input).bytes;
  }

  pub seen_so : view_of s.actors s.pipework ≡ sender_view
  seen_so = λ i. record {
    desk = desk_in (is i);
    sends = sends_in (is i);
    place = place_in (s.actors (codes "lspawn"));
    serves = serves_in (s.actors (codes "lspawn"));
    told = (s.pipework.pipes (codes "sender") port.Lspawn).bytes;
    asked = (s.pipework.pipes (codes "lspawn") port.Input).bytes;
  }

  abbrev pub sender_post : Post
  sender_post = post_of sender_view P.tasks P.last P.done

  pub sender_posted : Posted sender_post
  sender_posted = subst (λ (v : View). Posted (post_of v P.tasks P.last P.done)) seen_so P.posted

  pub sender_first : IsFirst (sender_after None past).row (sender_after None past)
  sender_first = subst (λ (v : View). IsFirst v.desk.row v.desk) seen_so P.first

-- An event

module _ (s : State) (I : Inv s) (P : PostsStand s) (own : Own) (wrote began : ℕ) (past : List Own) (is : s.actors (codes "sender") ≡ Some (sender began past))
    (soon : own.read ≤ s.now) (due : due_at (row_now (sender_after None past) own.read own.ready) (sender_after None past) ≡ own.due)
    (may : MayCome own.due own.came) (takes : own.due ≡ needs.Take port.Lspawn → IsSome own.came (s.pipework.pipes (codes "sender") port.Lspawn).bytes) where
  abbrev name : List ℕ
  name = codes "sender"

  abbrev d : Desk
  d = sender_after None past

  abbrev q : Queue
  q = queue s I.role

  -- before it
  abbrev before : View
  before = sender_view s P began past is

  abbrev post : Post
  post = sender_post s P began past is

  posted : Posted (with_desk Local d post)
  posted = sender_posted s P began past is

  first : IsFirst d.row d
  first = sender_first s P began past is

  moment : IsMoment own.read
  moment = let m = I.moment in omega (arith, m, soon)

  fares : SenderFares s.now q name d
  fares = I.fares name (sender began past) is

  pub gives : (text : List ℕ) → own.due ≡ needs.Give port.Lspawn text → AsksFor Local d text
  gives text e = asks_for q d Local text I.sound.fine
      (requests_are_texts s.now q name d own.read own.ready Local text soon moment fares.stands fares.texts (due ∙ e))

  pub sent : Sends Local d own wrote post
  sent = senders_keep.goes_on Local d own wrote post posted first (record {
    due = sym due;
    may = may;
    late = stays_late d.row d own;
    takes = takes;
    gives = gives;
  })

  -- after it
  abbrev then_state : State
  then_state = acted s name own wrote (Some (sender began past))

  abbrev afterwards : View
  afterwards = record {
    desk = moved d own;
    sends = true;
    place = place_in (s.actors (codes "lspawn"));
    serves = serves_in (s.actors (codes "lspawn"));
    told = told_on Local own.due own.came before.told;
    asked = asked_on Local own.due own.came wrote before.asked;
  }

  here : then_state.actors name ≡ Some (sender began (own ∷ past))
  here = put_at_same s.actors name (Some (sender began (own ∷ past)))

  pub not_lspawn : codes "sender" ≢ codes "lspawn"
  not_lspawn = names_apart (codes "sender") (codes "lspawn") refl

  no_sender : codes "lspawn" ≢ codes "sender"
  no_sender = names_apart (codes "lspawn") (codes "sender") refl

  there : then_state.actors (codes "lspawn") ≡ s.actors (codes "lspawn")
  there = put_at_other s.actors name (Some (sender began (own ∷ past))) (codes "lspawn") no_sender

  told_then : (then_state.pipework.pipes name port.Lspawn).bytes ≡ told_on Local own.due own.came before.told
  told_then = told_sent s.pipework Local own.due own.came wrote

  asked_then : (then_state.pipework.pipes (codes "lspawn") port.Input).bytes ≡ asked_on Local own.due own.came wrote before.asked
  asked_then = asked_sent s.pipework Local (tenant_not s I Local name) own.due own.came wrote

  pub seen_then : view_of then_state.actors then_state.pipework ≡ afterwards
  seen_then = λ i. record {
    desk = desk_in (here i);
    sends = sends_in (here i);
    place = place_in (there i);
    serves = serves_in (there i);
    told = told_then i;
    asked = asked_then i;
  }

  pub keeps : KeepsDone s.actors then_state.actors
  keeps = put_keeps_done s.actors name (sender began past) (sender began (own ∷ past)) is refl (λ h. h)

  unfoldable pub sender_event : PostsStand then_state
  sender_event = record {
    tasks = P.tasks;
    last = sent.last;
    done = P.done;
    posted = subst (λ (v : View). Posted (post_of v P.tasks sent.last P.done)) (sym seen_then) sent.keeps;
    first = subst (λ (v : View). IsFirst v.desk.row v.desk) (sym seen_then) sent.first;
    run = λ slot k h. task_kept s then_state keeps slot k (programs_left s.pipework name (codes "lspawn") own.due own.came slot not_lspawn) (P.run slot k h);
    was = λ x among. was_kept s then_state keeps (λ b y there. refl) x (P.was x among);
  }

by_program : (s : State) (I : Inv s) → PostsStand s → (a : List ℕ) (wrote : ℕ) (program : Program) (past : List Own) (life : Life) (own : Own) → IsSender program
    → IsNamed a program → life ≡ Alive → s.actors a ≡ Some (record { program = program; past = past; life = life }) → own.read ≤ s.now → next_of program past own.read own.ready ≡ own.due
    → MayCome own.due own.came → (own.due ≡ needs.Take port.Lspawn → IsSome own.came (s.pipework.pipes a port.Lspawn).bytes)
    → PostsStand (acted s a own wrote (Some (record { program = program; past = past; life = life })))
by_program s I P a wrote (Sender began) past Alive own it named alive is soon due may takes =
    subst (λ (b : List ℕ). PostsStand (acted s b own wrote (Some (sender began past)))) (sym named)
    (sender_event s I P own wrote began past
    (subst (λ (b : List ℕ). s.actors b ≡ Some (sender began past)) named is) soon due may
    (subst (λ (b : List ℕ). own.due ≡ needs.Take port.Lspawn → IsSome own.came (s.pipework.pipes b port.Lspawn).bytes) named takes))
by_program s I P a wrote (Sender began) past life own it named alive is soon due may takes = absurd (cc)
by_program s I P a wrote other past life own it named alive is soon due may takes = absurd it

-- whatever comes of what is due, also the start of a child
pub sender_moves : (s : State) → Inv s → PostsStand s → (a : List ℕ) (own : Own) (wrote : ℕ) (x : Actor) → s.actors a ≡ Some x → x.life ≡ Alive → IsSender x.program
    → own.read ≤ s.now → next_of x.program x.past own.read own.ready ≡ own.due → MayCome own.due own.came
    → (own.due ≡ needs.Take port.Lspawn → IsSome own.came (s.pipework.pipes a port.Lspawn).bytes) → PostsStand (acted s a own wrote (Some x))
sender_moves s I P a own wrote x is alive it soon due may takes = by_program s I P a wrote x.program x.past x.life own it (I.crew a x is) alive is soon due may takes

pub sender_acts : (s : State) → Inv s → PostsStand s → (a : List ℕ) (own : Own) (wrote : ℕ) (x : Actor) → s.actors a ≡ Some x → x.life ≡ Alive → IsSender x.program
    → own.read ≤ s.now → next_of x.program x.past own.read own.ready ≡ own.due → ComesOf s a own.due own.came wrote → PostsStand (acted s a own wrote (Some x))
sender_acts s I P a own wrote x is alive it soon due comes = sender_moves s I P a own wrote x is alive it soon due (may_come s a own.due own.came wrote comes)
    (λ e. some_of (s.pipework.pipes a port.Lspawn) own.came (subst (λ (n : NeedData). ComesOf s a n own.came wrote) e comes))
