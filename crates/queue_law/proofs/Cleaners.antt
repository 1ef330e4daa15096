-- One call of a cleaner, at each row of its table and with each answer.
use Rattle.std.proofs.Common.{◌≡◌, ◌≢◌, ◌⊎◌, inl, inr, ℕ, ◌+◌, ◌<◌, ◌≤◌, List, [], ◌∷◌, ◌++◌, length, Bool, true, false, Option, Some, None, IsSome, refl, sym, ap, ◌∙◌, subst, ⊎_elim, arith, ltb-true, slice_get, codes}
use Rattle.std.specs.Prelude.{if◌then◌else◌}
use Rattle.std.specs.List.{cons_option, filter_map}
use Rattle.address_rules.specs.declared.controls.Controls.{Controls}
use Rattle.call_fs.specs.Disk.{File, Among, IsSynced}
use Rattle.call_fs.specs.Apply.{Fits, with_name, IsStat}
use Rattle.call_fs.specs.declared.calls.Stat.{Stat as StatOf}
use Rattle.address_rules.specs.declared.rewriting.Route.{Route}
use Rattle.address_rules.specs.declared.rewriting.Route.TheVariants as route
use Rattle.address_rules.specs.Routes.{route_of}
use Rattle.queue_inject.specs.declared.injection.Arguments.{Arguments}
use Rattle.todo_pass.specs.Sorting.{channel_text, local_of, remote_of, locals_of, remotes_of}
use Rattle.call_fs.specs.declared.past.NeedData.{NeedData}
use Rattle.call_fs.specs.declared.past.NeedData.TheVariants as needs
use Rattle.call_fs.specs.declared.past.GotData.TheVariants.{Answered}
use Rattle.call_fs.specs.declared.calls.CallData.{CallData}
use Rattle.call_fs.specs.declared.calls.CallData.TheVariants.{NextName, Stat, Unlink}
use Rattle.call_fs.specs.declared.calls.Answer.{Answer}
use Rattle.call_fs.specs.declared.calls.Answer.TheVariants as answer
use Rattle.call_fs.specs.declared.calls.FsError.TheVariants.{NotThere, Fault}
use Rattle.call_fs.proofs.Maps.{put_at_same, put_at_other, put_at_cases}
use Rattle.queue_clean.specs.declared.command.Command.{Command}
use Rattle.queue_clean.specs.declared.command.Command.TheVariants as command
use Rattle.queue_clean.specs.declared.row.Reply.TheVariants.{Removed}
use Rattle.queue_clean.specs.declared.row.Row.{Row}
use Rattle.queue_clean.specs.declared.row.Row.TheVariants as at
use Rattle.queue_clean.specs.Commands.{commands, command_of, message_of}
use Rattle.queue_clean.specs.Table.{Place, place_after, found as found_step, first_row, take_up, next_command, name_told, leads_to, goes_on, is_old, pid_path, search_after, due_at}
use Rattle.queue_clean.specs.Table.Step.{Goes}
use Rattle.queue_paths.specs.Names.{Name, Part, path, parse}
use Rattle.queue_paths.specs.Names.Name.{Pid, Of}
use Rattle.queue_paths.specs.Names.Part.{Mess, Intd, Todo, Info, Local, Remote, Bounce, SplitIntd, SplitTodo}
use Rattle.queue_paths.proofs.Paths.{parse-path, path-parse}
use Rattle.queue_paths.specs.Parts.{in_intd}
use Rattle.queue_paths.proofs.Parts.{intd_far, todo_far, intd_alone, todo_alone, intd_out, todo_out, intd_same, todo_same}
use Rattle.queue_law.proofs.Waits.{no_split, intd_missed, todo_missed}
use Rattle.send_known.specs.declared.channel.Channel.{Channel}
use Rattle.send_known.specs.declared.channel.Channel.TheVariants as channel
use Rattle.queue_law.specs.Books.{Injection, lane_in}
use Rattle.queue_law.specs.Routes.{lane_part, lane_text, channel_of, Recipient, spot_of}
use Rattle.queue_law.specs.Numbers.{Entry, entry, Role, Queue, look, IsPidRole, IsRecent, About, about, file_in, Phase, LaneState, IsPreprocessed, Sound}
use Rattle.queue_law.specs.Numbers.Role.{AsMessage, AsPart, AsDrop, AsOld}
use Rattle.queue_law.specs.Numbers.Phase.{Free, Queued, Sorted, Finished}
use Rattle.queue_law.specs.Numbers.LaneState.{LaneThere, LaneGone}
use Rattle.queue_law.specs.Notes.NotesDone.{Nothing}
use Rattle.queue_law.specs.Notes.NotesState.{Gone}
use Rattle.queue_law.specs.Marks.{AllMarked}
use Rattle.queue_law.specs.Injectors.{InTime}
use Rattle.queue_law.specs.Ready.{IsSpent, HasSynced, IsMade, IsReady}
use Rattle.queue_law.specs.Ready.IsMade.{NotNeeded, IsThere}
use Rattle.queue_law.specs.Rests.{IsAccepted, IsClosed, RestsAs, IsOldName, IsJudged}
use Rattle.queue_law.specs.Steps.{Concerns, Elsewhere, LeavesOld}
use Rattle.queue_law.specs.Senders.{called_queue}
use Rattle.queue_law.specs.Cleaners.{number_at, Needs, Rests, row_of, waiting, IsOnePart, StandsAt, CleanerStands, CleanerLeads, CleanersKeep}
use Rattle.queue_law.proofs.Tests.{off, text_cases}
use Rattle.queue_law.proofs.Looks.{find_same, find_some, find_none, found}
use Rattle.queue_law.proofs.Frame.{about_same, still_there}
use Rattle.queue_law.proofs.Closed.{gone, part_other, part_gone, part_lost, part_there, part_suits, part_outside, closed_on, taken_same, queued_same, part_elsewhere, leads_on}
use Rattle.queue_law.proofs.Lines.{fresh_notes, fresh_unreturned}
use Rattle.queue_law.proofs.Deeds.{named_other}
use Rattle.queue_law.proofs.Step.{nothing_elsewhere}
use Rattle.queue_law.proofs.Rests.{closed_far}

-- What rests, in another state

pub rests_frame : (now m : ℕ) (q r : Queue) (row : Row)
    → ((n : ℕ) → number_at row ≡ Some n → IsClosed now q n → IsClosed m r n × (about r n ≡ about q n)) → Rests now q row → Rests m r row
rests_frame now m q r (at.UnlinkIntd it) keep h =
    let w = keep (message_of it) refl h.closed in
    record { closed = w.0; rest = subst (Needs it) (sym w.1) h.rest }
rests_frame now m q r (at.UnlinkSecond it) keep h =
    let w = keep (message_of it) refl h.closed in
    record { closed = w.0; rest = subst (λ v. Needs it v × (in_intd v.parts ≡ None)) (sym w.1) h.rest }
rests_frame now m q r row keep h = tt

pub stands_frame : (now m : ℕ) (q r : Queue) (row : Row) (p : Place)
    → ((n : ℕ) → (number_at row ≡ Some n) ⊎ (number_at (waiting p) ≡ Some n) → IsClosed now q n → IsClosed m r n × (about r n ≡ about q n))
    → ((x : Option Name) (moment : ℕ) → IsJudged q x moment → IsJudged r x moment) → StandsAt now q row p → StandsAt m r row p
stands_frame now m q r at.FindPid p keep judged h = rests_frame now m q r (waiting p) (λ n is. keep n (inr is)) h
stands_frame now m q r at.StatPid p keep judged h = (rests_frame now m q r (waiting p) (λ n is. keep n (inr is)) h.0, h.1)
stands_frame now m q r (at.JudgePid moment) p keep judged h =
    (rests_frame now m q r (waiting p) (λ n is. keep n (inr is)) h.0, judged (parse (pid_path p.name)) moment h.1, h.2)
stands_frame now m q r at.TakeInput p keep judged h = tt
stands_frame now m q r (at.UnlinkIntd it) p keep judged h =
    rests_frame now m q r (at.UnlinkIntd it) (λ n is. keep n (inl is)) h
stands_frame now m q r (at.UnlinkSecond it) p keep judged h =
    rests_frame now m q r (at.UnlinkSecond it) (λ n is. keep n (inl is)) h
stands_frame now m q r (at.Answer reply) p keep judged h = tt
stands_frame now m q r (at.Ended status) p keep judged h = tt

-- the next command, as it is taken up
module _ (now : ℕ) (q : Queue) where
  first_stands : (c : Option Command) (p : Place) → Rests now q (first_row c) → StandsAt now q (first_row c) p
  first_stands None p h = tt
  first_stands (Some it) p h = h

  taken_stands : (o : Option (List ℕ)) (p : Place) → Rests now q (row_of o) → CleanerStands now q (take_up o p)
  taken_stands None p h = tt
  taken_stands (Some text) p h = first_stands (command_of text) (take_up (Some text) p) h

  pub next_stands : (p : Place) → Rests now q (waiting p) → CleanerStands now q (next_command p)
  next_stands p h = taken_stands (slice_get (commands p.taken) p.begun) p h

-- What holds of a number when others of its names went

pub synced_same : (w v : About) (part : Part) (text : List ℕ) → v.parts part ≡ w.parts part → HasSynced w part text → HasSynced v part text
synced_same w v part text same h = record { file = h.file; there = same ∙ h.there; synced = h.synced }

pub made_same : (w v : About) (part : Part) (text : List ℕ) → v.parts part ≡ w.parts part → IsMade w part text → IsMade v part text
made_same w v part text same (NotNeeded none absent) = NotNeeded none (same ∙ absent)
made_same w v part text same (IsThere h) = IsThere (synced_same w v part text same h)

-- a number of which nothing is wanted stays in its phase
spent_phase : (w v : About) → v.living ≡ w.living → ((part : Part) → w.parts part ≡ None → v.parts part ≡ None)
    → ((part : Part) (y : Entry) → v.parts part ≡ Some y → w.parts part ≡ Some y) → (v.parts Mess ≡ None → in_intd v.parts ≡ None)
    → IsSpent w → Phase w → Phase v
spent_phase w v living lost there below h (Free f) = Free (record {
  unsorted = λ part later. lost part (f.unsorted part later);
  not_accepted = λ i lives t. f.not_accepted i (sym living ∙ lives) t;
  no_todo = todo_out w.parts v.parts (λ part is. lost part) f.no_todo;
  intd_below = below;
})
spent_phase w v living lost there below h (Queued f) = let s = f.todo_there in let t = h.no_todo in absurd (cc)
spent_phase w v living lost there below h (Sorted f) = let s = f.info_there in let t = h.unsorted Info refl in absurd (cc)
spent_phase w v living lost there below h (Finished f) = Finished (record {
  injection = f.injection;
  lives = living ∙ f.lives;
  accepted = f.accepted;
  message = λ y is. f.message y (there Mess y is);
  no_todo = todo_out w.parts v.parts (λ part is. lost part) f.no_todo;
  no_intd = intd_out w.parts v.parts (λ part is. lost part) f.no_intd;
  unsorted = λ part later. lost part (f.unsorted part later);
  settled = f.settled;
})

-- A channel file as it is made

unmarked : (i : Injection) (ch : Channel) (f : File) → IsSynced f (lane_in i ch) → AllMarked i ch f
unmarked i ch f h = record {
  present = record { long = ap length h.holds; each = λ k lt. inl (ap (λ (t : List ℕ). slice_get t k) h.holds) };
  synced = record { long = ap length h.all; each = λ k lt. inl (ap (λ (t : List ℕ). slice_get t k) h.all) };
  since = λ place value among. absurd (subst (λ (places : List (ℕ × ℕ)). Among (place, value) places) h.none_given among);
  no_shorter = h.no_shorter;
  no_longer = h.no_longer;
}

some_record : (o : Option (List ℕ)) (z : List ℕ) (rest : List (List ℕ)) → o ≡ Some z → channel_text (cons_option o rest) ≢ []
some_record None z rest is none = cc
some_record (Some address) z rest is none = cc

more_records : (o : Option (List ℕ)) (rest : List (List ℕ)) → channel_text rest ≢ [] → channel_text (cons_option o rest) ≢ []
more_records None rest some none = some none
more_records (Some address) rest some none = cc

has_record : (f : List ℕ → Option (List ℕ)) (earlier : List (List ℕ)) (address : List ℕ) (later : List (List ℕ)) (z : List ℕ) → f address ≡ Some z
    → channel_text (filter_map f (earlier ++ address ∷ later)) ≢ []
has_record f [] address later z is = some_record (f address) z (filter_map f later) is
has_record f (x ∷ earlier) address later z is = more_records (f x) (filter_map f (earlier ++ address ∷ later)) (has_record f earlier address later z is)

is_local : (r : Route) → channel_of r ≡ channel.Local → (z : List ℕ) × (local_of r ≡ Some z)
is_local (route.Local address) is = (address, refl)
is_local (route.Remote address) is = absurd (cc)

is_remote : (r : Route) → channel_of r ≡ channel.Remote → (z : List ℕ) × (remote_of r ≡ Some z)
is_remote (route.Local address) is = absurd (cc)
is_remote (route.Remote address) is = (address, refl)

-- a channel without records has no recipient
no_records : (controls : Controls) (args : Arguments) (ch : Channel) → lane_text controls args ch ≡ [] → (r : Recipient args) → (spot_of controls args r).channel ≡ ch → ⊥
no_records controls args channel.Local none r is =
    let w = is_local (route_of controls r.address) is in
    has_record (λ x. local_of (route_of controls x)) r.earlier r.address r.later w.0 w.1 (subst (λ rs. channel_text (locals_of controls rs) ≡ []) r.split none)
no_records controls args channel.Remote none r is =
    let w = is_remote (route_of controls r.address) is in
    has_record (λ x. remote_of (route_of controls x)) r.earlier r.address r.later w.0 w.1 (subst (λ rs. channel_text (remotes_of controls rs) ≡ []) r.split none)

lane_state : (w v : About) (i : Injection) (ch : Channel) → v.parts (lane_part ch) ≡ w.parts (lane_part ch)
    → IsMade w (lane_part ch) (lane_in i ch) → LaneState v i ch
lane_state w v i ch same (NotNeeded none absent) = LaneGone (same ∙ absent) (λ r is. absurd (no_records i.ledger.routes i.args ch none r is))
lane_state w v i ch same (IsThere h) = LaneThere h.file (same ∙ h.there) (unmarked i ch h.file.file h.synced)

some_none : {A : Type 0} (o : Option A) → IsSome o → o ≡ None → ⊥
some_none None some none = off some
some_none (Some x) some none = absurd (cc)

-- a name in `pid` is no part's, by its first byte
abbrev first : List ℕ → ℕ
first [] = 0
first (b ∷ bs) = b

pub not_part : (part : Part) (n : ℕ) (rest : List ℕ) → path (Of part n) ≢ codes "pid/" ++ rest
unfolding path
not_part Mess n rest same = let w : 109 ≡ 112 = ap first same in omega (arith, w)
not_part Intd n rest same = let w : 105 ≡ 112 = ap first same in omega (arith, w)
not_part Todo n rest same = let w : 116 ≡ 112 = ap first same in omega (arith, w)
not_part Info n rest same = let w : 105 ≡ 112 = ap first same in omega (arith, w)
not_part Local n rest same = let w : 108 ≡ 112 = ap first same in omega (arith, w)
not_part Remote n rest same = let w : 114 ≡ 112 = ap first same in omega (arith, w)
not_part Bounce n rest same = let w : 98 ≡ 112 = ap first same in omega (arith, w)
not_part SplitIntd n rest same = let w : 105 ≡ 112 = ap first same in omega (arith, w)
not_part SplitTodo n rest same = let w : 116 ≡ 112 = ap first same in omega (arith, w)

lane_far : (ch : Channel) → (lane_part ch ≢ Intd) × (lane_part ch ≢ Todo)
lane_far channel.Local = ((λ s. cc), (λ s. cc))
lane_far channel.Remote = ((λ s. cc), (λ s. cc))

module _ (now : ℕ) (a : List ℕ) (q : Queue) (G : Sound q) where
  -- nothing changed
  still : (row : Row) (next : Place) → CleanerStands now q next → ((n : ℕ) → row ≡ at.UnlinkSecond (command.Todo n) → next.row ≡ at.Answer Removed → ⊥)
      → CleanerLeads now a q q row next
  still row next h never = record {
    sound = G;
    stands = h;
    number = None;
    elsewhere = nothing_elsewhere now q a;
    outside = record { names = λ _ _. inl refl; files = λ _. refl; unqueued = λ i out x. out.unqueued x };
    old = record { files = λ _ _ _ _. refl; roles = λ _ _ _. refl };
    abouts = λ _ _. refl;
    spares = record { closed = λ _ _ c. c; abouts = λ _ _ _. refl };
    pids = λ pid start seq y there none. absurd (cc);
    done = λ n is plus. absurd (never n is plus);
  }

  -- a part of a closed number goes
  part_leads : (n : ℕ) (part : Part) (row : Row) (next : Place) → IsClosed now q n → number_at row ≡ Some n → CleanerStands now (gone q n part) next
      → Phase (about (gone q n part) n)
      → ((k : ℕ) → row ≡ at.UnlinkSecond (command.Todo k) → next.row ≡ at.Answer Removed → RestsAs now (gone q n part) k IsPreprocessed)
      → CleanerLeads now a q (gone q n part) row next
  part_leads n part row next c is h fine done =
      let r = gone q n part in
      let E = part_elsewhere now a q G.suits n c part in
      let out = part_outside q n part in
      let old : LeavesOld q r = record { files = λ _ _ _ _. refl; roles = λ _ _ _. refl } in
      let L = leads_on now a q r G n E (part_suits q G.suits n part) fine G.over out old in
      record {
        sound = L.sound;
        stands = h;
        number = Some n;
        elsewhere = E;
        outside = record { names = λ name far. inl (out.names name far); files = λ _. refl; unqueued = out.unqueued };
        old = old;
        abouts = λ k far. about_same now a (Some n) q r E k (λ same. far (is ∙ same));
        spares = record {
          closed = λ k far was. closed_far now a (Some n) q r E G.suits k (λ same. far (is ∙ same)) was;
          abouts = λ k far _. about_same now a (Some n) q r E k (λ same. far (is ∙ same));
        };
        pids = λ pid start seq y there none.
            let same = named_other q (Of part n) None q.books (Pid pid start seq) (λ s. cc) in
            absurd (cc);
        done = done;
      }

  -- the message stays, and so the number stays closed
  part_closed : (n : ℕ) (part : Part) → Mess ≢ part → IsClosed now q n → IsClosed now (gone q n part) n
  part_closed n part far c = closed_on now q (gone q n part) n (part_other q n part Mess far) refl refl c

  part_spent : (n : ℕ) (part : Part) → IsSpent (about q n) → IsSpent (about (gone q n part) n)
  part_spent n part h = record {
    unsorted = λ p later. part_lost q n part p (h.unsorted p later);
    no_todo = todo_out (about q n).parts (about (gone q n part) n).parts (λ p is. part_lost q n part p) h.no_todo;
  }

  intd_gone : (n : ℕ) → in_intd (about (gone q n Intd) n).parts ≡ None
  intd_gone n = intd_alone (about (gone q n Intd) n).parts (part_other q n Intd SplitIntd (λ s. cc) ∙ no_split q G.suits SplitIntd refl n) ∙ part_gone q n Intd

  part_ready : (n : ℕ) → IsReady (about q n) → IsReady (about (gone q n Intd) n)
  part_ready n h =
      let w = about q n in
      let v = about (gone q n Intd) n in
      let other = part_other q n Intd in
      record {
        queued = queued_same w v refl (other Mess (λ s. cc)) (todo_same w.parts v.parts (λ p is. other p (todo_far p Intd is refl))) (other Bounce (λ s. cc) ∙ h.queued.no_bounce) h.queued;
        no_nul = h.no_nul;
        made = record {
          info = synced_same w v Info _ (other Info (λ s. cc)) h.made.info;
          lanes = λ ch. made_same w v (lane_part ch) _ (other (lane_part ch) (lane_far ch).0) (h.made.lanes ch);
        };
      }

  -- todo went, and the number is preprocessed
  part_done : (n : ℕ) → IsReady (about q n) → in_intd (about q n).parts ≡ None → IsPreprocessed (about (gone q n Todo) n)
  part_done n h no_intd =
      let w = about q n in
      let v = about (gone q n Todo) n in
      let other = part_other q n Todo in
      record {
        taken = taken_same w v refl (other Mess (λ s. cc)) h.queued.taken;
        no_todo = todo_alone v.parts (other SplitTodo (λ s. cc) ∙ no_split q G.suits SplitTodo refl n) ∙ part_gone q n Todo;
        no_intd = intd_same w.parts v.parts (λ p is. other p (intd_far p Todo is refl)) ∙ no_intd;
        no_nul = h.no_nul;
        info = h.made.info.file;
        info_there = other Info (λ s. cc) ∙ h.made.info.there;
        text = h.made.info.synced;
        lanes = λ ch. lane_state w v h.queued.taken.injection ch (other (lane_part ch) (lane_far ch).1) (h.made.lanes ch);
        notes = Gone (ap file_in (other Bounce (λ s. cc) ∙ h.queued.no_bounce)) (Nothing (fresh_notes h.queued.taken.injection.ledger h.queued.fresh));
        unsettled = λ ch there. fresh_unreturned h.queued.taken.injection.ledger h.queued.fresh;
      }

  -- The rows of a command

  module _ (read wrote : ℕ) (bytes : List ℕ) (soon : read ≤ now) where
    abbrev Comes : Row → Place → CallData → Answer → Type 0
    Comes row p call given =
        CleanerLeads now a q (called_queue q a read call given wrote q.role) row
        (goes_on (leads_to row read (Answered (record { answer = given; bytes = bytes }))) p)

    abbrev Steps : Row → Place → CallData → Type 0
    Steps row p call = (given : Answer) → Fits q.disk call given wrote → Comes row p call given

    foop_intd : (n : ℕ) (p : Place) → Rests now q (at.UnlinkIntd (command.Foop n)) → Steps (at.UnlinkIntd (command.Foop n)) p (Unlink (path (Of Intd n)))
    foop_intd n p h answer.Done fits =
        part_leads n Intd (at.UnlinkIntd (command.Foop n)) _ h.closed refl
        (record { closed = part_closed n Intd (λ s. cc) h.closed; rest = (part_spent n Intd h.rest, intd_gone n) })
        (spent_phase (about q n) (about (gone q n Intd) n) refl (part_lost q n Intd) (part_there q n Intd) (λ _. intd_gone n) h.rest (G.fine n))
        (λ k is. absurd (cc))
    foop_intd n p h (answer.Refused NotThere) fits =
        still (at.UnlinkIntd (command.Foop n)) _ (record { closed = h.closed; rest = (h.rest, intd_missed q G.suits n fits) }) (λ k is. absurd (cc))
    foop_intd n p h (answer.Refused Fault) fits = still (at.UnlinkIntd (command.Foop n)) _ tt (λ k is. absurd (cc))
    foop_intd n p h given fits = absurd fits

    foop_mess : (n : ℕ) (p : Place) → Rests now q (at.UnlinkSecond (command.Foop n)) → Steps (at.UnlinkSecond (command.Foop n)) p (Unlink (path (Of Mess n)))
    foop_mess n p h answer.Done fits =
        part_leads n Mess (at.UnlinkSecond (command.Foop n)) _ h.closed refl tt
        (spent_phase (about q n) (about (gone q n Mess) n) refl (part_lost q n Mess) (part_there q n Mess) (λ _. intd_out (about q n).parts (about (gone q n Mess) n).parts (λ p is. part_lost q n Mess p) h.rest.1) h.rest.0 (G.fine n))
        (λ k is. absurd (cc))
    foop_mess n p h (answer.Refused NotThere) fits = still (at.UnlinkSecond (command.Foop n)) _ tt (λ k is. absurd (cc))
    foop_mess n p h (answer.Refused Fault) fits = still (at.UnlinkSecond (command.Foop n)) _ tt (λ k is. absurd (cc))
    foop_mess n p h given fits = absurd fits

    todo_intd : (n : ℕ) (p : Place) → Rests now q (at.UnlinkIntd (command.Todo n)) → Steps (at.UnlinkIntd (command.Todo n)) p (Unlink (path (Of Intd n)))
    todo_intd n p h answer.Done fits =
        let ready = part_ready n h.rest in
        part_leads n Intd (at.UnlinkIntd (command.Todo n)) _ h.closed refl
        (record { closed = part_closed n Intd (λ s. cc) h.closed; rest = (ready, intd_gone n) })
        (Queued ready.queued)
        (λ k is. absurd (cc))
    todo_intd n p h (answer.Refused NotThere) fits =
        still (at.UnlinkIntd (command.Todo n)) _ (record { closed = h.closed; rest = (h.rest, intd_missed q G.suits n fits) }) (λ k is. absurd (cc))
    todo_intd n p h (answer.Refused Fault) fits = still (at.UnlinkIntd (command.Todo n)) _ tt (λ k is. absurd (cc))
    todo_intd n p h given fits = absurd fits

    todo_todo : (n : ℕ) (p : Place) → Rests now q (at.UnlinkSecond (command.Todo n)) → Steps (at.UnlinkSecond (command.Todo n)) p (Unlink (path (Of Todo n)))
    todo_todo n p h answer.Done fits =
        let done = part_done n h.rest.0 h.rest.1 in
        part_leads n Todo (at.UnlinkSecond (command.Todo n)) _ h.closed refl tt
        (Sorted done)
        (λ k is plus. let w : n ≡ k = cc in
        subst (λ j. RestsAs now (gone q n Todo) j IsPreprocessed) w (record { closed = part_closed n Todo (λ s. cc) h.closed; rest = done }))
    todo_todo n p h (answer.Refused NotThere) fits =
        let there = h.rest.0.queued.todo_there in
        let none = todo_missed q G.suits n fits in
        absurd (cc)
    todo_todo n p h (answer.Refused Fault) fits = still (at.UnlinkSecond (command.Todo n)) _ tt (λ k is plus. absurd (cc))
    todo_todo n p h given fits = absurd fits

    -- The rows of a scan of `pid`

    find_pid : (row : Row) (p : Place) → Rests now q (waiting p) → (never : (n : ℕ) → row ≡ at.UnlinkSecond (command.Todo n) → ⊥) → (o : Option (List ℕ))
        → ((name : List ℕ) → o ≡ Some name → IsOnePart name) → CleanerLeads now a q q row (goes_on (found_step o) p)
    find_pid row p h never None one = still row _ (next_stands now q p h) (λ n is plus. never n is)
    find_pid row p h never (Some name) one = still row _ (h, one name refl) (λ n is plus. never n is)

    searched : (row : Row) (p : Place) → Rests now q (waiting p) → ((n : ℕ) → row ≡ at.UnlinkSecond (command.Todo n) → ⊥) → (given : Answer)
        → Fits q.disk (NextName (codes "pid") p.name) given wrote
        → CleanerLeads now a q (called_queue q a read (NextName (codes "pid") p.name) given wrote q.role) row (goes_on (found_step (name_told given)) p)
    searched row p h never (answer.Name name) fits = find_pid row p h never (Some name) (λ other e. let same : name ≡ other = cc in subst IsOnePart same fits.1.stands.1.whole)
    searched row p h never answer.NoName fits = find_pid row p h never None (λ _ e. absurd (cc))
    searched row p h never (answer.Refused why) fits = find_pid row p h never None (λ _ e. absurd (cc))
    searched row p h never given fits = absurd fits

    -- of a name in `pid` the moment is told
    judged : (text : List ℕ) (part : List ℕ) → text ≡ codes "pid/" ++ part → (stat : StatOf) → IsStat q.disk text stat → (x : Option Name) → parse text ≡ x
        → IsJudged q x stat.moment
    judged text part is stat told None e = tt
    judged text part is stat told (Some (Of k n)) e = absurd (not_part k n part (sym (path-parse text (Of k n) e) ∙ is))
    judged text part is stat told (Some (Pid pid start seq)) e =
        let x = Pid pid start seq in
        let there : q.disk.names (path x) ≡ Some stat.number = ap q.disk.names (sym (path-parse text x e)) ∙ told.number in
        let y = find_some q.disk.names q.disk.files x stat.number there in
        let right = G.suits x (entry q.disk.files stat.number) y in
        by_role (q.role stat.number) refl right.0 right.1
      where
        by_role : (role : Role) → q.role stat.number ≡ role → IsPidRole start role → IsRecent (q.disk.files stat.number) role
            → (start ≤ stat.moment) ⊎ IsOldName q (Pid pid start seq) stat.moment
        by_role (AsMessage actor args) is' suits recent = inl (let w = told.moment_is in omega (arith, suits, recent, w))
        by_role (AsPart k n) is' suits recent = absurd suits
        by_role (AsDrop o) is' suits recent = absurd suits
        by_role AsOld is' suits recent =
            let there : q.disk.names (path (Pid pid start seq)) ≡ Some stat.number = ap q.disk.names (sym (path-parse text (Pid pid start seq) e)) ∙ told.number in
            inr (record {
              file = entry q.disk.files stat.number;
              there = find_some q.disk.names q.disk.files (Pid pid start seq) stat.number there;
              made = is';
              written = sym told.moment_is;
            })

    stat_pid : (p : Place) → Rests now q (waiting p) → IsOnePart p.name → Steps at.StatPid p (Stat (pid_path p.name))
    stat_pid p h one (answer.Stat stat) fits =
        still at.StatPid _ (h, judged (pid_path p.name) p.name refl stat fits (parse (pid_path p.name)) refl, one) (λ n is. absurd (cc))
    stat_pid p h one (answer.Refused why) fits = still at.StatPid _ h (λ n is. absurd (cc))
    stat_pid p h one given fits = absurd fits

    -- a name in `pid` goes
    abbrev without : List ℕ → Queue
    without text = record { disk = with_name q.disk text None; holder = q.holder; books = q.books; role = q.role }

    module _ (text part : List ℕ) (is : text ≡ codes "pid/" ++ part) (one : IsOnePart part) where
      text_look : (y : Name) → path y ≢ text → look (without text) y ≡ look q y
      text_look y far = find_same q.disk.names (with_name q.disk text None).names q.disk.files q.disk.files y (put_at_other q.disk.names text None (path y) far) (λ _ _. refl)

      far_part : (k : Part) (n : ℕ) → path (Of k n) ≢ text
      far_part k n same = not_part k n part (same ∙ is)

      text_about : (n : ℕ) → about (without text) n ≡ about q n
      text_about n = λ i. record { parts = λ k. text_look (Of k n) (far_part k n) i; living = q.books.living n }

      text_gone : (y : Name) → path y ≡ text → look (without text) y ≡ None
      text_gone y same = find_none (with_name q.disk text None).names q.disk.files y (ap (with_name q.disk text None).names same ∙ put_at_same q.disk.names text None)

      text_closed : (n : ℕ) → IsClosed now q n → IsClosed now (without text) n
      text_closed n c = record {
        mess = c.mess;
        there = text_look (Of Mess n) (far_part Mess n) ∙ c.there;
        shut = ⊎_elim (λ over. inl over) (λ s. inr (subst IsAccepted (sym (text_about n)) s)) c.shut;
      }

      -- no injector that may still call made the file of a name that went
      abbrev HasNone : Type 0
      HasNone = (pid start seq : ℕ) (y : Entry) → look q (Pid pid start seq) ≡ Some y → look (without text) (Pid pid start seq) ≡ None
          → (o : List ℕ) (args : Arguments) → InTime now args → q.role y.number ≢ AsMessage o args

      text_leads : (moment : ℕ) (p : Place) → Rests now q (waiting p) → (number : Option ℕ) → Elsewhere now a number q (without text) → HasNone
          → CleanerLeads now a q (without text) (at.JudgePid moment) (record p { row = at.FindPid })
      text_leads moment p h number E pids = record {
        sound = record {
          suits = λ y z there. ⊎_elim
              (λ c. let w = text_gone y c.0 in absurd (cc))
              (λ c. G.suits y z (sym (text_look y c.0) ∙ there))
              (text_cases (path y) text);
          fine = λ n. subst Phase (sym (text_about n)) (G.fine n);
          over = G.over;
        };
        stands = rests_frame now now q (without text) (waiting p) (λ n _ c. (text_closed n c, text_about n)) h;
        number = number;
        elsewhere = E;
        outside = record {
          names = λ name far. ⊎_elim
              (λ c. inr (part, c.0 ∙ is, c.1, one))
              (λ c. inl c.1)
              (put_at_cases q.disk.names text None name);
          files = λ _. refl;
          unqueued = λ i out y there. ⊎_elim
              (λ c. let w = c.1 in absurd (cc))
              (λ c. out.unqueued y (sym c.1 ∙ there))
              (put_at_cases q.disk.names text None (path y));
        };
        old = record { files = λ _ _ _ _. refl; roles = λ _ _ _. refl };
        abouts = λ n _. text_about n;
        spares = record { closed = λ n _ c. text_closed n c; abouts = λ n _ _. text_about n };
        pids = pids;
        done = λ n e. absurd (cc);
      }

      -- one that is none of the queue's
      foreign_leads : parse text ≡ None → (moment : ℕ) (p : Place) → Rests now q (waiting p)
          → CleanerLeads now a q (without text) (at.JudgePid moment) (record p { row = at.FindPid })
      foreign_leads none moment p h = text_leads moment p h None E (λ pid start seq y there gone_then. let same = text_look (Pid pid start seq) (away (Pid pid start seq)) in absurd (cc))
        where
          away : (y : Name) → path y ≢ text
          away y same = let w : parse text ≡ Some y = ap parse (sym same) ∙ parse-path y in absurd (cc)

          E : Elsewhere now a None q (without text)
          E = record {
            looks = λ y _. text_look y (away y);
            living = λ _ _. refl;
            opens = λ _ _ _ _ w. w;
            roles = λ _ _ _. refl;
            apart = λ _ _ _ _ _ _ _ _ _ same. absurd (cc);
            accepted = λ i w _. still_there q.books i w;
          }

      -- one that is old
      old_leads : (pid start seq moment i : ℕ) → path (Pid pid start seq) ≡ text → q.disk.names text ≡ Some i → IsJudged q (Some (Pid pid start seq)) moment
          → moment + 129600 < now → (p : Place) → Rests now q (waiting p)
          → CleanerLeads now a q (without text) (at.JudgePid moment) (record p { row = at.FindPid })
      old_leads pid start seq moment i same there judge old p h = text_leads moment p h (Some i) E pids
        where
          looks : (y : Name) → (Concerns q y (Some i) → ⊥) → look (without text) y ≡ look q y
          looks (Of k n) far = text_look (Of k n) (far_part k n)
          looks (Pid p' s' k') far = text_look (Pid p' s' k') (λ e. far (λ z named.
              let w = (found q.disk.names q.disk.files (Pid p' s' k') z named).0 in
              let v = ap q.disk.names e ∙ there in
              sym v ∙ w))

          its : look q (Pid pid start seq) ≡ Some (entry q.disk.files i)
          its = find_some q.disk.names q.disk.files (Pid pid start seq) i (ap q.disk.names same ∙ there)

          not_his : (o : List ℕ) (args : Arguments) → InTime now args → q.role i ≡ AsMessage o args → ⊥
          not_his o args soon' his =
              let suits : args.start ≡ start = subst (IsPidRole start) his (G.suits (Pid pid start seq) (entry q.disk.files i) its).0 in
              ⊎_elim
              (λ (le : start ≤ moment). omega (arith, suits, le, old, soon'))
              (λ (was : IsOldName q (Pid pid start seq) moment).
              let w = was.there in
              let it = its in
              let v : entry q.disk.files i ≡ was.file = cc in
              let u = ap (λ (y : Entry). q.role y.number) v in
              let t = was.made in
              absurd (cc))
              judge

          pids : HasNone
          pids p' s' k' y named none o args soon' his = ⊎_elim
              (λ c.
              let w = (found q.disk.names q.disk.files (Pid p' s' k') y named).0 in
              let v = ap q.disk.names c.0 ∙ there in
              let u : i ≡ y.number = cc in
              not_his o args soon' (ap q.role u ∙ his))
              (λ c. let w = text_look (Pid p' s' k') c.0 in absurd (cc))
              (text_cases (path (Pid p' s' k')) text)

          E : Elsewhere now a (Some i) q (without text)
          E = record {
            looks = looks;
            living = λ _ _. refl;
            opens = λ _ _ _ _ w. w;
            roles = λ _ _ _. refl;
            apart = λ o args other soon' y z named his touches e. let w : i ≡ z.number = cc in not_his o args soon' (ap q.role w ∙ his);
            accepted = λ k w _. still_there q.books k w;
          }

    -- the unlink of a name that was judged old
    unlinked : (text part : List ℕ) → text ≡ codes "pid/" ++ part → IsOnePart part → (moment : ℕ) → moment + 129600 < now → (p : Place) → Rests now q (waiting p)
        → (there : Option ℕ) → q.disk.names text ≡ there → (x : Option Name) → parse text ≡ x → IsJudged q x moment
        → there ≢ None → CleanerLeads now a q (without text) (at.JudgePid moment) (record p { row = at.FindPid })
    unlinked text part is one moment old p h there named None e judge some = foreign_leads text part is one e moment p h
    unlinked text part is one moment old p h there named (Some (Of k n)) e judge some = absurd judge
    unlinked text part is one moment old p h None named (Some (Pid pid start seq)) e judge some = absurd (some refl)
    unlinked text part is one moment old p h (Some i) named (Some (Pid pid start seq)) e judge some =
        old_leads text part is one pid start seq moment i (sym (path-parse text (Pid pid start seq) e)) named judge old p h

    judge_pid : (moment : ℕ) (p : Place) → Rests now q (waiting p) → IsJudged q (parse (pid_path p.name)) moment → IsOnePart p.name → (t : Bool) → is_old moment read ≡ t
        → (call : CallData) → (if t then needs.File (Unlink (pid_path p.name)) else search_after p.name) ≡ needs.File call → (given : Answer) → Fits q.disk call given wrote
        → CleanerLeads now a q (called_queue q a read call given wrote q.role) (at.JudgePid moment)
        (goes_on (if t then Goes at.FindPid else found_step (name_told given)) p)
    judge_pid moment p h judge one false young call due given fits =
        let same : NextName (codes "pid") p.name ≡ call = cc in
        subst (λ c. Fits q.disk c given wrote → CleanerLeads now a q (called_queue q a read c given wrote q.role) (at.JudgePid moment) (goes_on (found_step (name_told given)) p)) same
        (searched (at.JudgePid moment) p h (λ n is. absurd (cc)) given) fits
    judge_pid moment p h judge one true old call due given fits =
        let same : Unlink (pid_path p.name) ≡ call = cc in
        subst (λ c. Fits q.disk c given wrote → CleanerLeads now a q (called_queue q a read c given wrote q.role) (at.JudgePid moment) (record p { row = at.FindPid })) same
        (at_old given) fits
      where
        at_old : (given : Answer) → Fits q.disk (Unlink (pid_path p.name)) given wrote
            → CleanerLeads now a q (called_queue q a read (Unlink (pid_path p.name)) given wrote q.role) (at.JudgePid moment) (record p { row = at.FindPid })
        at_old answer.Done fits =
            let past : moment + 129600 < read = ltb-true _ _ old in
            unlinked (pid_path p.name) p.name refl one moment (omega (arith, past, soon)) p h (q.disk.names (pid_path p.name)) refl (parse (pid_path p.name)) refl judge
            (λ none. some_none (q.disk.names (pid_path p.name)) fits none)
        at_old (answer.Refused why) fits = still (at.JudgePid moment) _ h (λ n is. absurd (cc))
        at_old given fits = absurd fits

    -- the call that is due is the row's
    due_call : (row : Row) (p : Place) (own call : CallData) → ◌≡◌ {A = NeedData} (needs.File own) (needs.File call) → Steps row p own → Steps row p call
    due_call row p own call due h = let same : own ≡ call = cc in subst (Steps row p) same h

    pub step : (row : Row) (p : Place) → StandsAt now q row p → (call : CallData) → due_at row p.name read ≡ needs.File call → Steps row p call
    step at.FindPid p h call due = due_call at.FindPid p _ call due (searched at.FindPid p h (λ n is. absurd (cc)))
    step at.StatPid p h call due = due_call at.StatPid p _ call due (stat_pid p h.0 h.1)
    step (at.JudgePid moment) p h call due = judge_pid moment p h.0 h.1 h.2 (is_old moment read) refl call due
    step at.TakeInput p h call due = absurd (cc)
    step (at.UnlinkIntd (command.Foop n)) p h call due = due_call (at.UnlinkIntd (command.Foop n)) p _ call due (foop_intd n p h)
    step (at.UnlinkIntd (command.Todo n)) p h call due = due_call (at.UnlinkIntd (command.Todo n)) p _ call due (todo_intd n p h)
    step (at.UnlinkSecond (command.Foop n)) p h call due = due_call (at.UnlinkSecond (command.Foop n)) p _ call due (foop_mess n p h)
    step (at.UnlinkSecond (command.Todo n)) p h call due = due_call (at.UnlinkSecond (command.Todo n)) p _ call due (todo_todo n p h)
    step (at.Answer reply) p h call due = absurd (cc)
    step (at.Ended status) p h call due = absurd (cc)

pub cleaners_keep : CleanersKeep
cleaners_keep now q a past read ready call told wrote G h soon due fits =
    step now a q G read wrote told.bytes soon (place_after past).row (place_after past) h call due told.answer fits
