-- What the invariant says of what a sender has in hand, of channel files, and of injectors at work.
use Rattle.std.proofs.Common.{◌≡◌, ◌⊎◌, inl, inr, ⊎_elim, ℕ, zero, suc, ◌+◌, ◌≤◌, List, [], ◌∷◌, Bool, true, false, Option, Some, None, is_some, refl, sym, ap, ◌∙◌, subst, arith, cond, count_by, IfSome}
use Rattle.std.specs.Prelude.{Contains, nat_lt}
use Rattle.std.proofs.lemmas.Bool.{ltb-false}
use Rattle.std.proofs.lemmas.List.Elements.{All-contains}
use Rattle.call_fs.specs.Disk.{IsSynced}
use Rattle.call_fs.specs.declared.calls.CallData.{CallData}
use Rattle.call_fs.specs.declared.calls.CallData.TheVariants as call
use Rattle.call_fs.specs.declared.past.NeedData.{NeedData}
use Rattle.call_fs.specs.declared.past.NeedData.TheVariants as needs
use Rattle.call_fs.specs.declared.past.Own.{Own}
use Rattle.call_fs.specs.declared.program.Ready.{Ready}
use Rattle.program_law.specs.Channel.Files.{IsOpen}
use Rattle.program_law.specs.Channel.Tied.{in_hand, is_at, is_slot_at}
use Rattle.program_law.proofs.Channel.Counts.{contained_counts, counted_cons}
use Rattle.program_law.proofs.Channel.Ties.{at_itself, at_same}
use Rattle.queue_inject.specs.declared.injection.Arguments.{Arguments}
use Rattle.queue_inject.specs.declared.row.Row.{Row}
use Rattle.queue_inject.specs.declared.row.Row.TheVariants as at
use Rattle.queue_inject.specs.Table.{Next, due_by as inject_due, has_input, in_time, is_late, place_after as inject_after}
use Rattle.queue_inject.specs.Texts.{intd_text, message_text}
use Rattle.queue_law.specs.Injectors.{AtLinkTodo, InTime, Relies}
use Rattle.queue_law.specs.Numbers.{About, Entry, IsPreprocessed, Phase, Queue, Role, about, look}
use Rattle.queue_law.specs.Numbers.Phase.{Free, Queued, Sorted, Finished}
use Rattle.queue_law.specs.Numbers.Role.{AsMessage}
use Rattle.queue_law.specs.Routes.{lane_part}
use Rattle.queue_law.proofs.Looks.{find_some, found, not_found}
use Rattle.queue_law.proofs.Readings.{records_are}
use Rattle.queue_law.proofs.Sends.{lane_there}
use Rattle.queue_paths.specs.Names.{Part, path}
use Rattle.queue_paths.specs.Names.Name.{Of}
use Rattle.queue_paths.specs.Names.Part.{Mess, Intd, Todo, Info, Local, Remote, Bounce}
use Rattle.queue_paths.proofs.Paths.{path_injective}
use Rattle.queue_paths.specs.Parts.{in_todo}
use Rattle.queue_law.proofs.Waits.{todo_unnamed, todo_absent, intd_unnamed}
use Rattle.queue_states.specs.declared.state.State.TheVariants.{S5}
use Rattle.queue_states.specs.States.{is_there, state_by, state_of}
use Rattle.send_core.specs.declared.desk.Desk.{Desk}
use Rattle.send_core.specs.Desk.{due_on}
use Rattle.send_core.specs.Table.{place_after as sender_after}
use Rattle.send_jobs.specs.declared.attempts.Attempt.{Attempt}
use Rattle.send_known.specs.declared.channel.Channel.{Channel}
use Rattle.send_known.specs.declared.channel.Channel.TheVariants as channel
use Rattle.send_jobs.specs.Jobs.{job_of}
use Rattle.send_jobs.specs.Sending.{lane}
use Rattle.send_jobs.specs.Slots.{attempt_in}
use Rattle.program_law.specs.Sender.Knows.{IsSettledIn, Serves}
use Rattle.program_law.specs.Sender.Views.{files_of, first_at}
use Rattle.program_law.proofs.Sender.Others.{the_job}
use Rattle.program_law.proofs.Sender.Texts.{they_are}
use Rattle.world_events.specs.declared.event.Program.{Program}
use Rattle.world_events.specs.declared.event.Program.TheVariants.{Injector, Sender}
use Rattle.mail_world.specs.History.{Actor, Life, State, after, next_of}
use Rattle.mail_world.specs.History.Life.{Alive}
use Rattle.mail_world.specs.Untouched.{queue}
use Rattle.world_law.specs.Fares.{FaresBy, SenderFares}
use Rattle.world_law.specs.Inv.{Inv}
use Rattle.world_law.specs.Standing.{AreWhole, HandsAlwaysStand, HandsStand, InjectionsAreApart, InjectionsAreInTime, IsAtRecord, LinksAreOfWholeFiles, RecordsAreRouted, number_at}
use Rattle.world_law.proofs.Delivered.{flies, in_slot, inside}
use Rattle.world_law.proofs.Histories.{always}
use Rattle.world_law.proofs.Tenants.{some_actor}

-- A preprocessed number is in S5

module _ (q : Queue) (n : ℕ) where
  there : (part : Part) (y : Entry) → look q (Of part n) ≡ Some y → is_there q.disk part n ≡ true
  there part y is = ap is_some (found q.disk.names q.disk.files (Of part n) y is).0

  gone : (part : Part) → look q (Of part n) ≡ None → is_there q.disk part n ≡ false
  gone part none = ap is_some (not_found q.disk.names q.disk.files (Of part n) none)

  sorted_state : IsPreprocessed (about q n) → state_of q.disk n ≡ S5
  sorted_state h = λ i. state_by (there Mess h.taken.mess h.taken.mess_there i) (ap is_some (intd_unnamed q.disk.names q.disk.files n h.no_intd) i) (ap is_some (todo_unnamed q.disk.names q.disk.files n h.no_todo) i) (there Info h.info h.info_there i)
      (is_there q.disk Local n) (is_there q.disk Remote n) (is_there q.disk Bounce n)

  settled_sorted : Phase (about q n) → IsSettledIn (about q n) → IsPreprocessed (about q n)
  settled_sorted (Free h) w = let none = h.unsorted Info refl in let here = w.info_there in absurd (cc)
  settled_sorted (Queued h) w = let none = w.no_todo in let here = h.todo_there in absurd (cc)
  settled_sorted (Sorted h) w = h
  settled_sorted (Finished h) w = let none = h.unsorted Info refl in let here = w.info_there in absurd (cc)

  pub settled_state : Phase (about q n) → IsSettledIn (about q n) → state_of q.disk n ≡ S5
  settled_state phase w = sorted_state (settled_sorted phase w)

-- Two slots at one record

one_in : (n place : ℕ) (slots : List (Option Attempt)) (j : ℕ) (u : Attempt) → attempt_in slots j ≡ Some u → is_at n place u ≡ true → 1 ≤ count_by (is_slot_at n place) slots
one_in n place slots j u is at_it = contained_counts (is_slot_at n place) slots (Some u) (in_slot slots j u is) at_it

two_in : (n place : ℕ) (slots : List (Option Attempt)) (i j : ℕ) (t u : Attempt) → (i ≡ j → ⊥) → attempt_in slots i ≡ Some t → attempt_in slots j ≡ Some u
    → is_at n place t ≡ true → is_at n place u ≡ true → 2 ≤ count_by (is_slot_at n place) slots
two_in n place [] i j t u apart one two f g = absurd (cc)
two_in n place (s ∷ slots) zero zero t u apart one two f g = absurd (apart refl)
two_in n place (s ∷ slots) zero (suc j) t u apart one two f g =
    let here : is_slot_at n place s ≡ true = ap (is_slot_at n place) one ∙ f in
    let head : ◌≡◌ {A = ℕ} (cond (is_slot_at n place s) 1 0) 1 = ap (λ (b : Bool). cond b 1 0) here in
    let sum = counted_cons (is_slot_at n place) s slots in
    let more = one_in n place slots j u two g in
    omega (arith, head, sum, more)
two_in n place (s ∷ slots) (suc i) zero t u apart one two f g =
    let here : is_slot_at n place s ≡ true = ap (is_slot_at n place) two ∙ g in
    let head : ◌≡◌ {A = ℕ} (cond (is_slot_at n place s) 1 0) 1 = ap (λ (b : Bool). cond b 1 0) here in
    let sum = counted_cons (is_slot_at n place) s slots in
    let more = one_in n place slots i t one f in
    omega (arith, head, sum, more)
two_in n place (s ∷ slots) (suc i) (suc j) t u apart one two f g =
    let sum = counted_cons (is_slot_at n place) s slots in
    let more = two_in n place slots i j t u (λ same. apart (ap suc same)) one two f g in
    omega (arith, sum, more)

number_apart : (i j : ℕ) → (i ≡ j) ⊎ (i ≡ j → ⊥)
number_apart zero zero = inl refl
number_apart zero (suc j) = inr (λ e. absurd (cc))
number_apart (suc i) zero = inr (λ e. absurd (cc))
number_apart (suc i) (suc j) = ⊎_elim (λ (same : i ≡ j). inl (ap suc same)) (λ (apart : i ≡ j → ⊥). inr (λ e. apart (cc))) (number_apart i j)

-- What a sender has in hand

module _ (s : State) (I : Inv s) (a : List ℕ) (d : Desk) (F : SenderFares s.now (queue s I.role) a d) where
  abbrev q : Queue
  q = queue s I.role

  serves_state : (n : ℕ) (ch : Channel) → Serves (about q n) ch → state_of s.disk n ≡ S5
  serves_state n ch h = settled_state q n (I.sound.fine n) h.sorted

  in_flight : (ch : Channel) (slot : ℕ) (t : Attempt) → attempt_in (lane ch d.slots).slots slot ≡ Some t → IsAtRecord s ch t
  in_flight ch slot t is =
      let l = F.stands.lanes ch in
      record {
        reads = subst (λ o. IfSome o (IsOpen (files_of q ch))) is (l.tied.in_flight slot None (inside (lane ch d.slots).slots slot t is));
        stays = serves_state t.n ch (flies q d.row ch d.slots I.sound l slot t is);
      }

  still_to_come : (ch : Channel) (t : Attempt) → Contains (lane ch d.slots).left t → IsAtRecord s ch t
  still_to_come ch t w =
      let l = F.stands.lanes ch in
      let one = contained_counts (is_at t.n t.place) (lane ch d.slots).left t w (at_itself t) in
      let held : 1 ≤ in_hand (first_at d.row ch) t.n t.place (lane ch d.slots) = omega (arith, one) in
      let job = the_job (job_of t.n (lane ch d.slots).jobs) (l.tied.owned t.n t.place held) in
      record {
        reads = All-contains (IsOpen (files_of q ch)) (lane ch d.slots).left t l.tied.to_come w;
        stays = serves_state t.n ch (l.jobs t.n job.0 job.1);
      }

  slots_apart : (ch : Channel) (i j : ℕ) (t u : Attempt) → attempt_in (lane ch d.slots).slots i ≡ Some t → attempt_in (lane ch d.slots).slots j ≡ Some u → t.n ≡ u.n → t.place ≡ u.place → i ≡ j
  slots_apart ch i j t u one two number place = ⊎_elim
      (λ (same : i ≡ j). same)
      (λ (apart : i ≡ j → ⊥).
      let both = two_in t.n t.place (lane ch d.slots).slots i j t u apart one two (at_itself t) (at_same t u (sym number) (sym place)) in
      let once = (F.stands.lanes ch).tied.once t.n t.place in
      absurd (omega (arith, both, once)))
      (number_apart i j)

  hands : HandsStand s d
  hands = record {
    flies = in_flight;
    to_come = still_to_come;
    apart = slots_apart;
    due = λ ch e w. serves_state e.1 ch (All-contains (λ (x : ℕ × ℕ). Serves (about q x.1) ch) (due_on ch d.book.messages) e (F.stands.knows.due ch) w);
  }

pub hands_by : (s : State) (I : Inv s) (a : List ℕ) (program : Program) (past : List Own) (life : Life) → life ≡ Alive → (start : ℕ) → program ≡ Sender start
    → FaresBy s.now (queue s I.role) a program past life → HandsStand s (sender_after None past)
hands_by s I a (Sender since) past Alive alive start is F = hands s I a (sender_after None past) F
hands_by s I a (Sender since) past life alive start is F = absurd (cc)
hands_by s I a program past life alive start is F = absurd (cc)

pub hands_always_stand : HandsAlwaysStand
hands_always_stand d before legal a x is alive start program =
    let I = always d before legal in
    hands_by (after d before) I a x.program x.past x.life alive start program (I.fares a x is)

-- Channel files

lane_sorted : (w : About) (ch : Channel) (y : Entry) → Phase w → in_todo w.parts ≡ None → w.parts (lane_part ch) ≡ Some y → IsPreprocessed w
lane_sorted w channel.Local y (Free h) todo is = let none = h.unsorted Local refl in absurd (cc)
lane_sorted w channel.Remote y (Free h) todo is = let none = h.unsorted Remote refl in absurd (cc)
lane_sorted w ch y (Queued h) todo is = let here = h.todo_there in absurd (cc)
lane_sorted w ch y (Sorted h) todo is = h
lane_sorted w channel.Local y (Finished h) todo is = let none = h.unsorted Local refl in absurd (cc)
lane_sorted w channel.Remote y (Finished h) todo is = let none = h.unsorted Remote refl in absurd (cc)

pub records_are_routed : RecordsAreRouted
records_are_routed d before legal n todo ch file is =
    let s = after d before in
    let I = always d before legal in
    let q = queue s I.role in
    let y : Entry = record { number = file; file = s.disk.files file } in
    let filed : (about q n).parts (lane_part ch) ≡ Some y = find_some s.disk.names s.disk.files (Of (lane_part ch) n) file is in
    let pre = lane_sorted (about q n) ch y (I.sound.fine n) (todo_absent s.disk.names s.disk.files n todo) filed in
    let marked = lane_there (about q n) pre.taken.injection ch y filed (pre.lanes ch) in (
      pre.taken.injection,
      pre.taken.lives,
      pre.taken.accepted,
      record {
        marked = marked.present;
        may = pre.taken.spots.marked;
        routed = λ records read.
            records_are pre.taken.injection ch (s.disk.files file).bytes records pre.no_nul pre.taken.valid pre.taken.spots marked.present
            (they_are (s.disk.files file).bytes records read);
      },
    )

-- Injectors

module _ (q : Queue) (a : List ℕ) (args : Arguments) where
  pub mine_at : (row : Row) (n : ℕ) → number_at row ≡ Some n → Relies q a args row → q.role n ≡ AsMessage a args
  mine_at (at.UnlinkPid seq m fd) n e h = let same : m ≡ n = cc in subst (λ (k : ℕ). q.role k ≡ AsMessage a args) same h.mess.holds.mine
  mine_at (at.AppendMess m fd done) n e h = let same : m ≡ n = cc in subst (λ (k : ℕ). q.role k ≡ AsMessage a args) same h.holds.mine
  mine_at (at.SyncMess m fd) n e h = let same : m ≡ n = cc in subst (λ (k : ℕ). q.role k ≡ AsMessage a args) same h.holds.mine
  mine_at (at.CreateIntd m) n e h = let same : m ≡ n = cc in subst (λ (k : ℕ). q.role k ≡ AsMessage a args) same h.mine
  mine_at (at.AppendTodo m fd done) n e h = let same : m ≡ n = cc in subst (λ (k : ℕ). q.role k ≡ AsMessage a args) same h.holds.mine
  mine_at (at.SyncTodo m fd) n e h = let same : m ≡ n = cc in subst (λ (k : ℕ). q.role k ≡ AsMessage a args) same h.holds.mine
  mine_at (at.LinkTodo m) n e h = let same : m ≡ n = cc in subst (λ (k : ℕ). q.role k ≡ AsMessage a args) same h.holds.mine
  mine_at (at.CleanIntd m status) n e h = let same : m ≡ n = cc in subst (λ (k : ℕ). q.role k ≡ AsMessage a args) same h.mine
  mine_at (at.CleanMess m status) n e h = let same : m ≡ n = cc in subst (λ (k : ℕ). q.role k ≡ AsMessage a args) same h.mine
  mine_at row n e h = absurd (cc)

-- what a living injector relies on
pub relies_by : (now : ℕ) (q : Queue) (a : List ℕ) (program : Program) (past : List Own) (life : Life) (args : Arguments) → program ≡ Injector args → life ≡ Alive
    → FaresBy now q a program past life → InTime now args → Relies q a args (inject_after args past)
relies_by now q a (Injector other) past Alive args is alive F soon =
    let same : other ≡ args = cc in
    subst (λ (z : Arguments). InTime now z → Relies q a z (inject_after z past)) same (F.stands refl).relies soon
relies_by now q a (Injector other) past life args is alive F soon = absurd (cc)
relies_by now q a program past life args is alive F soon = absurd (cc)

pub injections_are_apart : InjectionsAreApart
injections_are_apart d before legal n a b one two =
    let s = after d before in
    let I = always d before legal in
    let q = queue s I.role in
    let x = one.actor in
    let y = two.actor in
    let first = mine_at q a one.args (inject_after one.args x.past) n one.number (relies_by s.now q a x.program x.past x.life one.args one.program one.alive (I.fares a x one.is) one.soon) in
    let second = mine_at q b two.args (inject_after two.args y.past) n two.number (relies_by s.now q b y.program y.past y.life two.args two.program two.alive (I.fares b y two.is) two.soon) in
    by_role a b one.args two.args (sym first ∙ second)
  where
    by_role : (u v : List ℕ) (f g : Arguments) → AsMessage u f ≡ AsMessage v g → u ≡ v
    by_role u v f g e = cc

-- Calls

call_due : (input late : Bool) (due : NeedData) (c : CallData) → in_time input late due ≡ needs.File c → (due ≡ needs.File c) × (late ≡ false)
call_due true true (needs.File own) c h = absurd (cc)
call_due true false (needs.File own) c h = (h, refl)
call_due false late (needs.File own) c h = absurd (cc)
call_due input late due c h = absurd (cc)

in_time_call : (now start read : ℕ) → nat_lt (start + 86400) read ≡ false → now ≤ read + 43200 → now ≤ start + 129600
in_time_call now start read h stall = let w : read ≤ start + 86400 = ltb-false _ _ h in omega arith

injector_due : (program : Program) (past : List Own) (read : ℕ) (ready : Ready) (args : Arguments) (due : NeedData) → program ≡ Injector args → next_of program past read ready ≡ due
    → Next args past read ready ≡ due
injector_due program past read ready args due is next = subst (λ (p : Program). next_of p past read ready ≡ due) is next

pub injections_are_in_time : InjectionsAreInTime
injections_are_in_time d a own wrote before legal x is args program c due =
    let may = legal.1 in
    let same : may.actor ≡ x = some_actor may.actor x (sym may.reads.is ∙ is) in
    let next = injector_due x.program x.past own.read own.ready args own.due program (subst (λ (y : Actor). next_of y.program y.past own.read own.ready ≡ own.due) same may.due) in
    let w = call_due (has_input own.ready) (is_late args own.read) (inject_due args (inject_after args x.past)) c (next ∙ due) in
    in_time_call (after d before).now args.start own.read w.1 may.reads.no_stall

link_row : (args : Arguments) (row : Row) (n : ℕ) → inject_due args row ≡ needs.File (call.Link (path (Of Intd n)) (path (Of Todo n))) → row ≡ at.LinkTodo n
link_row args (at.LinkTodo m) n e =
    let names : path (Of Todo m) ≡ path (Of Todo n) = cc in
    let one : Of Todo m ≡ Of Todo n = path_injective (Of Todo m) (Of Todo n) names in
    let same : m ≡ n = cc in ap at.LinkTodo same
link_row args (at.LinkMess seq m fd) n e =
    let names : path (Of Mess m) ≡ path (Of Todo n) = cc in
    let one : Of Mess m ≡ Of Todo n = path_injective (Of Mess m) (Of Todo n) names in
    absurd (cc)
link_row args row n e = absurd (cc)

-- the two files of an injection before the link
whole_there : (s : State) (role : ℕ → Role) (a : List ℕ) (args : Arguments) (n : ℕ) → AtLinkTodo (queue s role) a args n → AreWhole s.disk args n
whole_there s role a args n h =
    let it = h.holds.rest in
    let one = found s.disk.names s.disk.files (Of Mess n) (record { number = n; file = it.begins.file }) it.begins.mess in
    let two = found s.disk.names s.disk.files (Of Intd n) (record { number = h.number; file = it.file }) it.intd in
    record {
      mess = n;
      mess_there = one.0;
      message = subst (λ (y : Entry). IsSynced y.file (message_text args).bytes) one.1 it.message;
      intd = h.number;
      intd_there = two.0;
      text = subst (λ (y : Entry). IsSynced y.file (intd_text args).bytes) two.1 it.fulfils;
    }

pub links_are_of_whole_files : LinksAreOfWholeFiles
links_are_of_whole_files d a own wrote before legal x is args program n due =
    let s = after d before in
    let I = always d before legal.0 in
    let may = legal.1 in
    let same : may.actor ≡ x = some_actor may.actor x (sym may.reads.is ∙ is) in
    let next = injector_due x.program x.past own.read own.ready args own.due program (subst (λ (y : Actor). next_of y.program y.past own.read own.ready ≡ own.due) same may.due) in
    let w = call_due (has_input own.ready) (is_late args own.read) (inject_due args (inject_after args x.past)) (call.Link (path (Of Intd n)) (path (Of Todo n))) (next ∙ due) in
    let soon = in_time_call s.now args.start own.read w.1 may.reads.no_stall in
    let row = link_row args (inject_after args x.past) n w.0 in
    let relies = relies_by s.now (queue s I.role) a x.program x.past x.life args program (ap (λ (y : Actor). y.life) (sym same) ∙ may.reads.alive) (I.fares a x is) soon in
    whole_there s I.role a args n (subst (λ (z : Row). Relies (queue s I.role) a args z) row relies)
