-- What was printed is what a history shows.
use Rattle.std.proofs.Common.{◌≡◌, ℕ, List, [], ◌∷◌, ◌++◌, All, map, reverse, bytes_eq, Bool, true, false, Option, Some, None, refl, sym, ap, ◌∙◌, subst, append_assoc}
use Rattle.std.proofs.lemmas.List.Elements.{All-append, All-cons, All-map, All-nil, All-weaker}
use Rattle.std.specs.Prelude.{flat_map, codes, if◌then◌else◌}
use Rattle.std.specs.List.{AllByRecursion, zip}
use Rattle.call_fs.specs.declared.calls.Answer.{Answer}
use Rattle.call_fs.specs.declared.calls.Answer.TheVariants.{Done}
use Rattle.call_fs.specs.declared.calls.CallData.{CallData}
use Rattle.call_fs.specs.declared.calls.CallData.TheVariants.{Link}
use Rattle.call_fs.specs.declared.past.GotData.{GotData}
use Rattle.call_fs.specs.declared.past.GotData.TheVariants.{Answered}
use Rattle.call_fs.specs.declared.past.NeedData.{NeedData}
use Rattle.call_fs.specs.declared.past.NeedData.TheVariants.{File}
use Rattle.call_fs.specs.declared.past.Own.{Own}
use Rattle.call_fs.specs.Disk.{Disk}
use Rattle.mem_fs.specs.MemDisk.{disk_of}
use Rattle.queue_inject.specs.declared.injection.Arguments.{Arguments}
use Rattle.queue_paths.specs.Names.{Name, is_number, is_used, parse, used}
use Rattle.queue_paths.specs.Names.Name.{Of}
use Rattle.queue_paths.specs.Names.Part.{Mess}
use Rattle.world_events.specs.declared.books.Entry.{Entry}
use Rattle.world_events.specs.declared.books.Life.{Life as ToldLife}
use Rattle.world_events.specs.declared.books.Life.TheVariants as told_life
use Rattle.world_events.specs.declared.event.Event.{Event as Kept}
use Rattle.world_events.specs.declared.event.Event.TheVariants as kept
use Rattle.world_events.specs.Books.{acted_on, books_of, entered_by, entry_by, left_as, linked_number, mess_number, new_entry, newer, noted, number_by}
use Rattle.world_events.specs.Programs.{injection_of}
use Rattle.mail_world.specs.History.{Event, after}
use Rattle.mail_world.specs.World.{IsHistory}
use Rattle.mail_world.specs.Books.{books_in, entry_in, mails_of}
use Rattle.scenario.specs.declared.overview.Overview.{Overview}
use Rattle.scenario.specs.declared.showing.Given.{Given}
use Rattle.script_fates.specs.Fates.{IsUsed}
use Rattle.scenario.specs.Fates.{AreNamedStarts, IsFedSo}
use Rattle.scenario.specs.inside.Fates.{receiver, receivers_in}
use Rattle.scenario.specs.Shown.{AreNamesIn, AreNumbersIn, pid_line, number_line, all_mail_lines, IsShown, View, entry_lines, fates_of, view_of}
use Rattle.scenario.specs.Summed.{all_fates}
use Rattle.scenario.specs.Viewed.{view_at}
use Rattle.scenario.specs.inside.Viewed.{given_fates, given_lines}
use Rattle.scenario.proofs.EachMail.{by_envelope}
use Rattle.scenario.proofs.Receivers.{envelope_at, envelope_in, envelopes_told}

-- three texts, one after the other
pub joined : (old first second third a b e : List ℕ) → first ≡ old ++ a → second ≡ first ++ b → third ≡ second ++ e → third ≡ old ++ (a ++ (b ++ e))
joined old first second third a b e f g h =
    h ∙ ap (λ t. t ++ e) (g ∙ ap (λ t. t ++ b) f) ∙ append_assoc (old ++ a) b e ∙ append_assoc old a (b ++ e)

zipped : {X Y Z W : Type 0} (f : X → Y) (g : X → Z) (text : Y × Z → List W) (xs : List X) → flat_map text (zip (map f xs) (map g xs)) ≡ flat_map (λ x. text (f x, g x)) xs
zipped f g text [] = refl
zipped f g text (x ∷ xs) = ap (λ t. text (f x, g x) ++ t) (zipped f g text xs)

pub is_shown : (d : Disk) (h : List Event) (now : Disk) (present : ℕ) (events : List Kept) (pids : List (List ℕ)) (numbers own : List ℕ)
    → IsHistory d now events present h → AreNamesIn now (codes "pid") pids → AreNumbersIn now numbers → own ≡ all_mail_lines d h
    → IsShown d h (pid_line pids ++ (flat_map (number_line now) numbers ++ own))
is_shown d h now present events pids numbers own history are_pids are_numbers mails = record {
  pids = pids;
  numbers = numbers;
  are_pids = subst (λ (now : Disk). AreNamesIn now (codes "pid") pids) (sym history.disk) are_pids;
  are_numbers = subst (λ (now : Disk). AreNumbersIn now numbers) (sym history.disk) are_numbers;
  text_is =
      ap (λ (t : List ℕ). pid_line pids ++ (flat_map (number_line now) numbers ++ t)) mails
      ∙ ap (λ (now : Disk). pid_line pids ++ (flat_map (number_line now) numbers ++ all_mail_lines d h)) (sym history.disk);
}

-- what is told of each mail
mails_told : {W : Type 0} (tells : View → Entry → List ℕ → List W) (d : Disk) (h : List Event) (now : Disk) (present : ℕ) (events : List Kept) (o : Overview) (entries : List Entry) (given : List Given)
    → IsHistory d now events present h → AreNamedStarts h → AllByRecursion IsFedSo (reverse events) → disk_of o.disk.now.held ≡ now → entries ≡ books_in d h
    → reverse (map receiver given) ≡ receivers_in (reverse events)
    → flat_map (λ (mail : Entry × Given). tells (view_at o (after d h).books) mail.0 mail.1.envelope.now) (zip entries given)
    ≡ flat_map (λ (mail : List ℕ × Arguments). tells (view_of d h) (entry_in (after d h) h mail) mail.1.envelope) (mails_of h)
mails_told tells d h now present events o entries given history mails fed disk are received =
    let view : ◌≡◌ {A = View} (view_at o (after d h).books) (view_of d h) =
    ap (λ (m : Disk). record { disk = m; books = (after d h).books }) (disk ∙ sym history.disk) in
    let told = λ (mail : Entry × List ℕ). tells (view_of d h) mail.0 mail.1 in
    ap (λ (v : View). flat_map (λ (mail : Entry × Given). tells v mail.0 mail.1.envelope.now) (zip entries given)) view
    ∙ by_envelope (tells (view_of d h)) entries given
    ∙ ap (λ (es : List Entry). flat_map told (zip es (map envelope_at given))) are
    ∙ ap (λ (texts : List (List ℕ)). flat_map told (zip (books_in d h) texts)) (envelopes_told (reverse events) h given fed mails history.told received)
    ∙ zipped (entry_in (after d h) h) envelope_in told (mails_of h)

-- the lines of each mail
pub mails_shown : (d : Disk) (h : List Event) (now : Disk) (present : ℕ) (events : List Kept) (o : Overview) (entries : List Entry) (given : List Given) → IsHistory d now events present h → AreNamedStarts h
    → AllByRecursion IsFedSo (reverse events) → disk_of o.disk.now.held ≡ now → entries ≡ books_in d h → reverse (map receiver given) ≡ receivers_in (reverse events)
    → flat_map (given_lines (view_at o (after d h).books)) (zip entries given) ≡ all_mail_lines d h
mails_shown = mails_told entry_lines

-- what became of the recipients of each mail
pub mails_summed : (d : Disk) (h : List Event) (now : Disk) (present : ℕ) (events : List Kept) (o : Overview) (entries : List Entry) (given : List Given) → IsHistory d now events present h → AreNamedStarts h
    → AllByRecursion IsFedSo (reverse events) → disk_of o.disk.now.held ≡ now → entries ≡ books_in d h → reverse (map receiver given) ≡ receivers_in (reverse events)
    → flat_map (given_fates (view_at o (after d h).books)) (zip entries given) ≡ all_fates d h
mails_summed = mails_told fates_of

-- The numbers of mails are numbers of messages

not_mess : (b : Bool) (name : Name) → mess_number (Some name) ≡ None → IsUsed (mess_number (if b then Some name else None))
not_mess true name none = subst IsUsed (sym none) tt
not_mess false name none = tt

used_mess : (name : Option Name) → IsUsed (mess_number (used name))
used_mess None = tt
used_mess (Some (Of Mess n)) = by (is_number n) refl
  where
    by : (b : Bool) → is_number n ≡ b → IsUsed (mess_number (if b then Some (Of Mess n) else None))
    by true is = is
    by false is = tt
used_mess (Some name) = not_mess (is_used name) name refl

used_call : (c : CallData) (reply : Answer) → IsUsed (linked_number c reply)
used_call (Link old new) Done = used_mess (parse new)
used_call c reply = tt

used_by : (due : NeedData) (came : GotData) → IsUsed (number_by due came)
used_by (File c) (Answered told) = used_call c told.answer
used_by due came = tt

used_newer : (o p : Option ℕ) → IsUsed o → IsUsed p → IsUsed (newer o p)
used_newer None p h k = k
used_newer (Some n) p h k = h

abbrev IsEntryUsed : Entry → Type 0
IsEntryUsed e = IsUsed e.number

used_acted : (b : Bool) (own : Own) (e : Entry) → IsEntryUsed e → IsEntryUsed (if b then acted_on own.due own.came e else e)
used_acted true own e h = used_newer (number_by own.due own.came) e.number (used_by own.due own.came) h
used_acted false own e h = h

used_left : (b : Bool) (life : ToldLife) (e : Entry) → IsEntryUsed e → IsEntryUsed (if b then left_as life e else e)
used_left true life e h = h
used_left false life e h = h

used_noted : (k : Kept) (e : Entry) → IsEntryUsed e → IsEntryUsed (noted k e)
used_noted (kept.Start a program) e h = h
used_noted (kept.Act a own) e h = used_acted (bytes_eq a e.actor) own e h
used_noted (kept.Child a own c program) e h = h
used_noted (kept.Feed a own c message envelope) e h = h
used_noted (kept.End a read ready status) e h = used_left (bytes_eq a e.actor) (told_life.Ended status) e h
used_noted (kept.Stop a) e h = used_left (bytes_eq a e.actor) told_life.Stopped e h
used_noted (kept.Generation start) e h = h
used_noted (kept.Report slot letter text) e h = h
used_noted (kept.Moment m) e h = h
used_noted (kept.Halt how) e h = h

used_entry : (a : List ℕ) (o : Option Arguments) → All IsEntryUsed (entry_by a o)
used_entry a None = All-nil IsEntryUsed
used_entry a (Some args) = All-cons IsEntryUsed (new_entry a args) [] tt (All-nil IsEntryUsed)

used_entered : (k : Kept) → All IsEntryUsed (entered_by k)
used_entered (kept.Start a program) = used_entry a (injection_of program)
used_entered (kept.Act a own) = All-nil IsEntryUsed
used_entered (kept.Child a own c program) = used_entry c (injection_of program)
used_entered (kept.Feed a own c message envelope) = All-nil IsEntryUsed
used_entered (kept.End a read ready status) = All-nil IsEntryUsed
used_entered (kept.Stop a) = All-nil IsEntryUsed
used_entered (kept.Generation start) = All-nil IsEntryUsed
used_entered (kept.Report slot letter text) = All-nil IsEntryUsed
used_entered (kept.Moment m) = All-nil IsEntryUsed
used_entered (kept.Halt how) = All-nil IsEntryUsed

pub all_used : (ks : List Kept) → All (λ e. IsUsed e.number) (books_of ks)
all_used [] = All-nil IsEntryUsed
all_used (k ∷ ks) = All-append IsEntryUsed (map (noted k) (books_of ks)) (entered_by k)
    (All-map IsEntryUsed (noted k) (books_of ks) (All-weaker IsEntryUsed (λ e. IsEntryUsed (noted k e)) (λ e h. used_noted k e h) (books_of ks) (all_used ks)))
    (used_entered k)
