-- The events of a finish, over all that the sender relies on.
use Rattle.address_rules.specs.Nuls.{HaveNoNul}
use Rattle.std.proofs.Common.{◌≡◌, ◌≢◌, ℕ, List, get_or, true, false, Option, Some, None, refl, sym, subst}
use Rattle.std.specs.Prelude.{All, position}
use Rattle.std.proofs.lemmas.List.Elements.{All-contains, All-set, All-weaker}
use Rattle.std.proofs.lemmas.List.Quantifiers.{position-Some}
use Rattle.call_fs.specs.declared.calls.CallData.{CallData}
use Rattle.call_fs.specs.declared.calls.Told.{Told}
use Rattle.bounce_record.specs.declared.return_row.ReturnRow.{ReturnRow}
use Rattle.bounce_record.specs.declared.return_row.ReturnRow.TheVariants as back
use Rattle.bounce_record.specs.Returning.{Returning, return_begun, due_at as return_due_at}
use Rattle.call_fs.specs.declared.past.ChildData.{ChildData}
use Rattle.call_fs.specs.declared.past.GotData.{GotData}
use Rattle.call_fs.specs.declared.past.GotData.TheVariants.{Answered}
use Rattle.call_fs.specs.declared.past.NeedData.TheVariants as needs
use Rattle.call_fs.specs.declared.program.Port.{Port}
use Rattle.call_fs.specs.Apply.{Fits, IsReadBy}
use Rattle.send_core.specs.declared.desk.Desk.{Desk}
use Rattle.send_parts.specs.declared.row.Row.TheVariants as at
use Rattle.send_core.specs.Desk.{due_on, later}
use Rattle.send_core.specs.Booked.{booked_at}
use Rattle.send_core.specs.Finish.{bounce_on, finish_at, forgot, put_off_to, returned_to}
use Rattle.send_core.specs.Table.{act, due_at}
use Rattle.send_known.specs.declared.channel.Channel.{Channel}
use Rattle.send_known.specs.declared.channel.Channel.TheVariants.{Local, Remote}
use Rattle.send_jobs.specs.Sending.{lane}
use Rattle.send_known.specs.declared.known.Known.{Known}
use Rattle.send_known.specs.Known.{is_of, nobody, put_off_at}
use Rattle.send_known.specs.Known as known
use Rattle.send_known.specs.Messages.{forgotten}
use Rattle.send_parts.specs.declared.reply.Way.{Way}
use Rattle.send_parts.specs.declared.reply.Way.TheVariants as way
use Rattle.send_parts.specs.declared.rows.FinishRow.{FinishRow}
use Rattle.send_parts.specs.declared.rows.FinishRow.TheVariants as finish
use Rattle.send_parts.specs.Finish.{finish_to, remove_given, removed as gone_row}
use Rattle.send_parts.specs.Replies.{said}
use Rattle.queue_law.specs.Entered.{Child}
use Rattle.queue_law.specs.Numbers.{About, Queue, about, Sound}
use Rattle.queue_law.specs.Routes.{lane_part}
use Rattle.queue_law.specs.Senders.{called_queue}
use Rattle.program_law.specs.Sender.Knows.{IsKnown, IsLeaving, Knows, Serves, has_file}
use Rattle.program_law.specs.Sender.Knows.Knows.{Stays, Leaves}
use Rattle.program_law.specs.Sender.Rows.{FinishStands, HasNoMarks, IsIdle}
use Rattle.program_law.specs.Sender.Stands.{DueApart, SenderLeads, SenderStands, StandsAt}
use Rattle.program_law.proofs.Sender.Apart.{IsApart}
use Rattle.program_law.proofs.Sender.Desks.{OnDesk}
use Rattle.program_law.proofs.Sender.Lanes.{AllServe, OnBoth, removed_each}
use Rattle.program_law.specs.Sender.Points.{FinishLeads, HasChild, IsBeforeStatus, KnowsEach}
use Rattle.program_law.specs.Sender.Takings.{LeadsThrough, booked_queue}
use Rattle.program_law.specs.Sender.Takings.LeadsThrough.{Goes}
use Rattle.program_law.specs.Sender.Takings.LeadsThrough.{Stays as StaysSo}
use Rattle.queue_law.proofs.Frame.{about_same}
use Rattle.program_law.proofs.Sender.Heads.{some_same}
use Rattle.program_law.proofs.Sender.Far.{due_far, far_if, lane_far}
use Rattle.program_law.proofs.Sender.Points.{chores_stand, each_on}
use Rattle.program_law.proofs.Sender.Returns.{finishes_lead, returns_go_on}
use Rattle.program_law.proofs.Sender.Turning.{past_finish_on}

-- what a sender relies on at a row of a finish
record AtFinish (now : ℕ) (q : Queue) (a : List ℕ) (row : FinishRow) (n : ℕ) (d : Desk) : Type 0 where
  knows : KnowsEach q (at.Finish row n) d.book.messages.known
  due : AllServe q d.book.messages
  lanes : OnBoth q d.slots
  apart : DueApart d.book.messages d.slots
  no_nul : HaveNoNul d.book.controls
  bare : HasNoMarks d.slots
  rests : FinishStands d.book.controls now q a row n d.book.messages.known d.bounce

at_finish : (now : ℕ) (q : Queue) (a : List ℕ) (row : FinishRow) (n : ℕ) (d : Desk) → StandsAt now q a (at.Finish row n) d → AtFinish now q a row n d
at_finish now q a row n d h = record {
  knows = h.knows.known;
  due = h.knows.due;
  lanes = λ ch. let l = h.lanes ch in record { tied = l.tied; jobs = l.jobs; marks = l.marks };
  apart = h.apart;
  no_nul = h.no_nul tt;
  bare = h.rests.0;
  rests = h.rests.1;
}

stands_there : (now : ℕ) (q : Queue) (a : List ℕ) (row : FinishRow) (n : ℕ) (d : Desk) → AtFinish now q a row n d → StandsAt now q a (at.Finish row n) d
stands_there now q a row n d h = record {
  knows = record { known = h.knows; due = h.due };
  lanes = λ ch. let l = h.lanes ch in record { tied = l.tied; jobs = l.jobs; marks = l.marks };
  apart = h.apart;
  no_nul = λ _. h.no_nul;
  rests = (h.bare, h.rests);
}

-- Put off, and forgotten

gone_still : (w : About) (k : Known) (moment : ℕ) → IsKnown w k → (ch : Channel) → has_file ch (record k { finish_at = moment }) ≡ false → w.parts (lane_part ch) ≡ None
gone_still w k moment h Local e = h.gone Local e
gone_still w k moment h Remote e = h.gone Remote e

off_at : (q : Queue) (n moment : ℕ) (ks : List Known) (o : Option ℕ) → position (is_of n) ks ≡ o → All (λ (k : Known). IsKnown (about q k.n) k) ks
    → All (λ (k : Known). IsKnown (about q k.n) k) (put_off_at o moment ks)
off_at q n moment ks None e h = h
off_at q n moment ks (Some i) e h =
    let w = position-Some (is_of n) ks i nobody e in
    let k : Known = get_or ks i nobody in
    let it : IsKnown (about q k.n) k = h i nobody w.0 in
    All-set (λ (x : Known). IsKnown (about q x.n) x) ks i (record k { finish_at = moment }) (record { sorted = it.sorted; sender_is = it.sender_is; gone = gone_still (about q k.n) k moment it }) h

put_off_on : (q : Queue) (n moment : ℕ) (d : Desk) → OnDesk q d → OnDesk q (put_off_to n moment d)
put_off_on q n moment d h = record {
  known = off_at q n moment d.book.messages.known (position (is_of n) d.book.messages.known) refl h.known;
  due = λ ch. due_of ch;
  lanes = h.lanes;
  apart = λ ch. apart_of ch;
  no_nul = h.no_nul;
}
  where
    due_of : (ch : Channel) → All (λ (e : ℕ × ℕ). Serves (about q e.1) ch) (due_on ch (put_off_to n moment d).book.messages)
    due_of Local = h.due Local
    due_of Remote = h.due Remote

    apart_of : (ch : Channel) → All (IsApart (lane ch d.slots).jobs) (due_on ch (put_off_to n moment d).book.messages)
    apart_of Local = h.apart Local
    apart_of Remote = h.apart Remote

all_known : (q : Queue) (row : FinishRow) (n : ℕ) (ks : List Known) → ((m : ℕ) → IsLeaving (at.Finish row n) m → ⊥) → KnowsEach q (at.Finish row n) ks
    → All (λ (k : Known). IsKnown (about q k.n) k) ks
all_known q row n ks stays h = All-weaker (λ (k : Known). Knows (at.Finish row n) (about q k.n) k) (λ (k : Known). IsKnown (about q k.n) k) (λ k w. one k w) ks h
  where
    one : (k : Known) → Knows (at.Finish row n) (about q k.n) k → IsKnown (about q k.n) k
    one k (Stays it) = it
    one k (Leaves l) = absurd (stays k.n l)

forgot_known : (q : Queue) (n : ℕ) (ks : List Known) → KnowsEach q (at.Finish finish.Take n) ks → All (λ (k : Known). IsKnown (about q k.n) k) (known.forgotten n ks)
forgot_known q n ks h = all_known q finish.Later n (known.forgotten n ks) (λ m l. l.0) (chores_stand.forgets q (at.Finish finish.Take n) (at.Finish finish.Later n) n ks refl h)

forgot_on : (q : Queue) (n : ℕ) (d : Desk) → KnowsEach q (at.Finish finish.Take n) d.book.messages.known → AllServe q d.book.messages → OnBoth q d.slots
    → DueApart d.book.messages d.slots → HaveNoNul d.book.controls → OnDesk q (forgot n d)
forgot_on q n d knows due lanes apart same = record {
  known = forgot_known q n d.book.messages.known knows;
  due = λ ch. due_of ch;
  lanes = lanes;
  apart = λ ch. apart_of ch;
  no_nul = same;
}
  where
    due_of : (ch : Channel) → All (λ (e : ℕ × ℕ). Serves (about q e.1) ch) (due_on ch (forgotten n d.book.messages))
    due_of Local = removed_each (λ (e : ℕ × ℕ). Serves (about q e.1) Local) n d.book.messages.local (due Local)
    due_of Remote = removed_each (λ (e : ℕ × ℕ). Serves (about q e.1) Remote) n d.book.messages.remote (due Remote)

    apart_of : (ch : Channel) → All (IsApart (lane ch d.slots).jobs) (due_on ch (forgotten n d.book.messages))
    apart_of Local = removed_each (IsApart d.slots.local.jobs) n d.book.messages.local (apart Local)
    apart_of Remote = removed_each (IsApart d.slots.remote.jobs) n d.book.messages.remote (apart Remote)

-- Where a step leads

module _ (now : ℕ) (q : Queue) (a : List ℕ) (n read : ℕ) where
  later_on : (d : Desk) → AtFinish now q a finish.Later n d → SenderStands now q a (finish_at finish.Later n read d)
  later_on d h = past_finish_on now q a read (put_off_to n (later read) d)
      (put_off_on q n (later read) d (record {
        known = all_known q finish.Later n d.book.messages.known (λ m l. l.0) h.knows;
        due = h.due;
        lanes = h.lanes;
        apart = h.apart;
        no_nul = h.no_nul;
      })) h.bare

  lost_on : (row : FinishRow) (d : Desk) → AtFinish now q a row n d → SenderStands now q a (finish_at finish.Lost n read d)
  lost_on row d h = record {
    knows = record {
      known = All-weaker (λ (k : Known). Knows (at.Finish row n) (about q k.n) k) (λ (k : Known). Knows (at.Ended 81) (about q k.n) k) (λ k _. Leaves tt) d.book.messages.known h.knows;
      due = h.due;
    };
    lanes = λ ch. let l = h.lanes ch in record { tied = l.tied; jobs = l.jobs; marks = l.marks };
    apart = h.apart;
    no_nul = λ _. h.no_nul;
    rests = tt;
  }

  forgets_at : (d : Desk) → KnowsEach q (at.Finish finish.Take n) d.book.messages.known → AllServe q d.book.messages → OnBoth q d.slots → DueApart d.book.messages d.slots
      → HaveNoNul d.book.controls → HasNoMarks d.slots → SenderStands now q a (finish_at finish.Over n read d)
  forgets_at d knows due lanes apart same bare = past_finish_on now q a read (forgot n d) (forgot_on q n d knows due lanes apart same) bare

  over_on : (d : Desk) → AtFinish now q a finish.Over n d → SenderStands now q a (finish_at finish.Over n read d)
  over_on d h = forgets_at d
      (All-weaker (λ (k : Known). Knows (at.Finish finish.Over n) (about q k.n) k) (λ (k : Known). Knows (at.Finish finish.Take n) (about q k.n) k) (λ k w. still k w) d.book.messages.known h.knows)
      h.due h.lanes h.apart h.no_nul h.bare
    where
      still : (k : Known) → Knows (at.Finish finish.Over n) (about q k.n) k → Knows (at.Finish finish.Take n) (about q k.n) k
      still k (Stays it) = Stays it
      still k (Leaves l) = absurd l.0

  next_leads : (row : FinishRow) (d : Desk) → AtFinish now q a row n d → SenderStands now q a (finish_at row n read d)
  next_leads finish.OpenBounce d h = stands_there now q a finish.OpenBounce n d h
  next_leads finish.Return d h = stands_there now q a finish.Return n d h
  next_leads finish.UnlinkInfo d h = stands_there now q a finish.UnlinkInfo n d h
  next_leads finish.Give d h = stands_there now q a finish.Give n d h
  next_leads finish.Take d h = stands_there now q a finish.Take n d h
  next_leads finish.Later d h = later_on d h
  next_leads finish.Over d h = over_on d h
  next_leads finish.Lost d h = lost_on finish.Lost d h

  taken_leads : (w : Way) (d : Desk) → AtFinish now q a finish.Take n d → SenderStands now q a (finish_at (gone_row w) n read d)
  taken_leads way.Fine d h = forgets_at d h.knows h.due h.lanes h.apart h.no_nul h.bare
  taken_leads way.Over d h = lost_on finish.Take d h
  taken_leads way.Absent d h = lost_on finish.Take d h
  taken_leads way.NoMemory d h = lost_on finish.Take d h
  taken_leads way.Broken d h = lost_on finish.Take d h

  given : (k : Known) → Knows (at.Finish finish.Give n) (about q k.n) k → Knows (at.Finish finish.Take n) (about q k.n) k
  given k (Stays it) = Stays it
  given k (Leaves l) = Leaves (tt, l.1)

  given_leads : (w : Way) (d : Desk) → AtFinish now q a finish.Give n d → SenderStands now q a (finish_at (remove_given w) n read d)
  given_leads way.Fine d h = stands_there now q a finish.Take n d (record {
    knows = All-weaker (λ (k : Known). Knows (at.Finish finish.Give n) (about q k.n) k) (λ (k : Known). Knows (at.Finish finish.Take n) (about q k.n) k) (λ k w. given k w)
        d.book.messages.known h.knows;
    due = h.due;
    lanes = h.lanes;
    apart = h.apart;
    no_nul = h.no_nul;
    bare = h.bare;
    rests = h.rests.0;
  })
  given_leads way.Over d h = lost_on finish.Give d h
  given_leads way.Absent d h = lost_on finish.Give d h
  given_leads way.NoMemory d h = lost_on finish.Give d h
  given_leads way.Broken d h = lost_on finish.Give d h

-- Each event

unserved : (q : Queue) (n : ℕ) (ks : List Known) → All (λ (k : Known). IsKnown (about q k.n) k) ks → IsIdle n ks → (ch : Channel) → Serves (about q n) ch → ⊥
unserved q n ks h idle ch s =
    let it = All-contains (λ (k : Known). IsKnown (about q k.n) k) ks idle.it h idle.there in
    let none : (about q n).parts (lane_part ch) ≡ None = subst (λ (m : ℕ). (about q m).parts (lane_part ch) ≡ None) idle.number (it.gone ch (idle.none ch)) in
    let there = s.there in
    absurd (cc)

-- what a step of a finish leads to, with another return
module _ (now : ℕ) (q : Queue) (a : List ℕ) (row : FinishRow) (n : ℕ) (d : Desk) (h : StandsAt now q a (at.Finish row n) d)
    (stays : (m : ℕ) → IsLeaving (at.Finish row n) m → ⊥) (idle : IsIdle n d.book.messages.known) where
  abbrev ks : List Known
  ks = d.book.messages.known

  there : (r : Queue) (next : FinishRow) (back : Returning) → ((m : ℕ) → m ≢ n → about r m ≡ about q m) → FinishStands d.book.controls now r a next n ks back
      → KnowsEach r (at.Finish next n) ks → AtFinish now r a next n (record d { bounce = back })
  there r next back same stands knows =
      let was = at_finish now q a row n d h in
      let none = unserved q n ks (all_known q row n ks stays h.knows.known) idle in
      record {
        knows = knows;
        due = due_far q r n same d.book.messages none was.due;
        lanes = λ ch. lane_far q r n same ch (lane ch d.slots) (none ch) (was.lanes ch) (was.bare ch);
        apart = was.apart;
        no_nul = was.no_nul;
        bare = was.bare;
        rests = stands;
      }

  leads_then : (r : Queue) (next : FinishRow) (back : Returning) → FinishLeads d.book.controls now a q r n next ks back → AtFinish now r a next n (record d { bounce = back })
  leads_then r next back f = there r next back (far_if now a n f.number q r f.leads.elsewhere f.only) f.stands f.knows

-- the turn isn't an idle one
busied : (now : ℕ) (q : Queue) (a : List ℕ) (next : FinishRow) (n : ℕ) (d : Desk) → AtFinish now q a next n d
    → AtFinish now q a next n (record d { busy = true })
busied now q a next n d h = record { knows = h.knows; due = h.due; lanes = h.lanes; apart = h.apart; no_nul = h.no_nul; bare = h.bare; rests = h.rests }

module _ (now : ℕ) (q : Queue) (a : List ℕ) (child : Option Child) where
  abbrev Leads : FinishRow → ℕ → Desk → ℕ → CallData → Told → ℕ → Type 0
  Leads row n d read call told wrote = SenderLeads now a q
      (booked_queue child d.book.controls (booked_at (at.Finish row n) (Answered told) d) (called_queue q a read call told.answer wrote q.role)) (act (at.Finish row n) read (Answered told) d)

  pub finishes : Sound q → (row : FinishRow) (n : ℕ) (d : Desk) (read : ℕ) (call : CallData) (told : Told) (wrote : ℕ) → StandsAt now q a (at.Finish row n) d
      → due_at (at.Finish row n) d ≡ needs.File call → Fits q.disk call told.answer wrote → IsReadBy q.disk call told → Leads row n d read call told wrote
  finishes G finish.OpenBounce n d read call told wrote h due fits given =
      let it = bounce_on n read (Answered told) (return_begun n) d.book in
      let r : Queue = called_queue q a read call told.answer wrote q.role in
      let f = finishes_lead.opens now q a n d.book read call told wrote G h.knows.known h.rests.1 due fits in
      let w = leads_then now q a finish.OpenBounce n d h (λ m l. l.0) h.rests.1 r (returned_to it.row) it f in
      record {
        number = f.number;
        closed = f.closed;
        leads = f.leads;
        stands = next_leads now r a n read (returned_to it.row) (record d { bounce = it; busy = true }) (busied now r a (returned_to it.row) n (record d { bounce = it }) w);
      }
  finishes G finish.Return n d read call told wrote h due fits given =
      let it = bounce_on n read (Answered told) d.bounce d.book in
      let r : Queue = booked_queue child d.book.controls (booked_at (at.Finish finish.Return n) (Answered told) d) (called_queue q a read call told.answer wrote q.role) in
      let f = finishes_lead.returns now q a child n d.book d.bounce read call told wrote G h.knows.known h.rests.1 due fits given in
      let w = leads_then now q a finish.Return n d h (λ m l. l.0) h.rests.1.idle r (returned_to it.row) it f in
      record { number = f.number; closed = f.closed; leads = f.leads; stands = next_leads now r a n read (returned_to it.row) (record d { bounce = it }) w }
  finishes G finish.UnlinkInfo n d read call told wrote h due fits given =
      let next : FinishRow = finish_to finish.UnlinkInfo (said (Answered told)).way in
      let r : Queue = called_queue q a read call told.answer wrote q.role in
      let f = finishes_lead.ends d.book.controls now q a n d.book.messages.known d.bounce read call told wrote G h.knows.known h.rests.1 due fits in
      let w = leads_then now q a finish.UnlinkInfo n d h (λ m l. l.0) h.rests.1.0 r next d.bounce f in
      record { number = f.number; closed = f.closed; leads = f.leads; stands = next_leads now r a n read next d w }
  finishes G finish.Give n d read call told wrote h due fits given = absurd (cc)
  finishes G finish.Take n d read call told wrote h due fits given = absurd (cc)
  finishes G finish.Later n d read call told wrote h due fits given = absurd (cc)
  finishes G finish.Over n d read call told wrote h due fits given = absurd (cc)
  finishes G finish.Lost n d read call told wrote h due fits given = absurd (cc)

-- Of a return only its injector is started and given something

given_there : (row : ReturnRow) (it : Returning) (port : Port) (bytes : List ℕ) → return_due_at row it ≡ needs.Give port bytes → IsBeforeStatus row
given_there (back.Give pid) it port bytes due = tt
given_there back.Start it port bytes due = tt
given_there row it port bytes due = absurd (cc)

started_there : (row : ReturnRow) (it : Returning) (asked : ChildData) → return_due_at row it ≡ needs.Start asked → IsBeforeStatus row
started_there back.Start it asked due = tt
started_there (back.Give pid) it asked due = tt
started_there row it asked due = absurd (cc)

taken_there : (row : ReturnRow) (it : Returning) (port : Port) → return_due_at row it ≡ needs.Take port → (pid : ℕ) × (row ≡ back.Await pid)
taken_there (back.Await pid) it port due = (pid, refl)
taken_there row it port due = absurd (cc)

module _ (now : ℕ) (q : Queue) (a : List ℕ) where
  -- a step of a return that is no call, before its injector's status
  goes_on : (n : ℕ) (d : Desk) (read : ℕ) (came : GotData) → StandsAt now q a (at.Finish finish.Return n) d → IsBeforeStatus d.bounce.row
      → SenderStands now q a (act (at.Finish finish.Return n) read came d)
  goes_on n d read came h before =
      let it = bounce_on n read came d.bounce d.book in
      let stands = returns_go_on.steps now q a n d.book d.bounce read came h.knows.known h.rests.1 before in
      let knows = each_on q (at.Finish finish.Return n) (at.Finish (returned_to it.row) n) d.book.messages.known (λ m l. l.0) h.knows.known in
      next_leads now q a n read (returned_to it.row) (record d { bounce = it })
      (there now q a finish.Return n d h (λ m l. l.0) h.rests.1.idle q (returned_to it.row) it (λ m far. refl) stands knows)

  pub finish_gives : (row : FinishRow) (n : ℕ) (d : Desk) (read : ℕ) (port : Port) (bytes : List ℕ) (came : GotData) → StandsAt now q a (at.Finish row n) d
      → due_at (at.Finish row n) d ≡ needs.Give port bytes → SenderStands now q a (act (at.Finish row n) read came d)
  finish_gives finish.Give n d read port bytes came h due = given_leads now q a n read (said came).way d (at_finish now q a finish.Give n d h)
  finish_gives finish.Return n d read port bytes came h due = goes_on n d read came h (given_there d.bounce.row d.bounce port bytes due)
  finish_gives row n d read port bytes came h due = absurd (cc)

  pub finish_starts : (row : FinishRow) (n : ℕ) (d : Desk) (read : ℕ) (asked : ChildData) (came : GotData) → StandsAt now q a (at.Finish row n) d
      → due_at (at.Finish row n) d ≡ needs.Start asked → SenderStands now q a (act (at.Finish row n) read came d)
  finish_starts finish.Return n d read asked came h due = goes_on n d read came h (started_there d.bounce.row d.bounce asked due)
  finish_starts row n d read asked came h due = absurd (cc)

  -- what a taking leads to: of a return one step that enters the bounce, if its injector ended with 0
  pub record FinishTakes (child : Option Child) (row : FinishRow) (n : ℕ) (d : Desk) (read : ℕ) (came : GotData) : Type 0 where
    pub through : LeadsThrough now a q (booked_queue child d.book.controls (booked_at (at.Finish row n) came d) q)
    pub sound : Sound (booked_queue child d.book.controls (booked_at (at.Finish row n) came d) q)
    pub stands : SenderStands now (booked_queue child d.book.controls (booked_at (at.Finish row n) came d) q) a (act (at.Finish row n) read came d)

  pub finish_takes : Sound q → (child : Option Child) (row : FinishRow) (n : ℕ) (d : Desk) (read : ℕ) (port : Port) (came : GotData) → StandsAt now q a (at.Finish row n) d
      → due_at (at.Finish row n) d ≡ needs.Take port → HasChild (booked_at (at.Finish row n) came d) child → FinishTakes child row n d read came
  finish_takes G child finish.Take n d read port came h due has =
      record { through = StaysSo q; sound = G; stands = taken_leads now q a n read (said came).way d (at_finish now q a finish.Take n d h) }
  finish_takes G child finish.Return n d read port came h due has =
      let it = bounce_on n read came d.bounce d.book in
      let r : Queue = booked_queue child d.book.controls (booked_at (at.Finish finish.Return n) came d) q in
      let await = taken_there d.bounce.row d.bounce port due in
      let f = returns_go_on.takes now q a child n await.0 d.book d.bounce read came G h.knows.known h.rests.1 await.1 has in
      record {
        through = Goes q r r n f.closed f.leads (StaysSo r);
        sound = f.leads.sound;
        stands = next_leads now r a n read (returned_to it.row) (record d { bounce = it })
            (there now q a finish.Return n d h (λ m l. l.0) h.rests.1.idle r (returned_to it.row) it (λ m far. about_same now a (Some n) q r f.leads.elsewhere m (λ e. far (some_same m n (sym e)))) f.stands f.knows);
      }
  finish_takes G child finish.OpenBounce n d read port came h due has = absurd (cc)
  finish_takes G child finish.UnlinkInfo n d read port came h due has = absurd (cc)
  finish_takes G child finish.Give n d read port came h due has = absurd (cc)
  finish_takes G child finish.Later n d read port came h due has = absurd (cc)
  finish_takes G child finish.Over n d read port came h due has = absurd (cc)
  finish_takes G child finish.Lost n d read port came h due has = absurd (cc)
