-- What `work` starts, and that what turns of threads made of a script's world is what it prints.
use Rattle.std.proofs.Common.{◌≡◌, ◌≢◌, ℕ, List, [], ◌∷◌, ◌++◌, ◌||◌, length, drop, reverse, Bool, true, Option, Some, All, Result, Ok, Err, get_or, refl, sym, ap, ◌∙◌, subst, append-nil}
use Rattle.std.specs.Prelude.{IfErr, OnOk}
use Rattle.std.specs.List.{AllZip, list_any}
use Rattle.std.proofs.Math.Seq.{drop-append_seam}
use Rattle.call_fs.specs.Disk.{Disk}
use Rattle.crash_fs.specs.Crash.{Crash, crash_disk, crash_plan}
use Rattle.world_events.specs.declared.event.Event.{Event as Kept}
use Rattle.mail_world.specs.History.{Event}
use Rattle.mail_world.specs.History.Event.{Start, Act, Child, Generation, Report, End, Stop, Moment, Halt}
use Rattle.mail_world.specs.LivingMails.{AreLivingMails, mail_in, mails_in}
use Rattle.mail_world.specs.World.{Seen, Tells, started_world}
use Rattle.mail_world.proofs.LivingMails.{mail_starts}
use Rattle.actor_runner.specs.Runs.{HasRun, is_end}
use Rattle.script_words.specs.declared.entry.Entry.{Entry}
use Rattle.script_lines.specs.declared.line.Line.{Line}
use Rattle.script_lines.specs.declared.line.Line.TheVariants as line
use Rattle.scenario.specs.Deeds.{Deed, TellsDeed, event_in}
use Rattle.scenario.specs.Deeds.Deed.{Came, Fed}
use Rattle.scenario.specs.declared.error.PlayError.{PlayError}
use Rattle.scenario.specs.declared.error.PlayError.TheVariants.{Failed}
use Rattle.scenario.specs.Working.{first_lines, is_mail_line, mail_of, mails_of, is_end_of, is_end_by, HasBegun, HasWorked, HasSettled, IsWorked}
use Rattle.scenario.specs.Steps.{plan_through}
use Rattle.scenario.proofs.Tracings.{added_told}

-- The mails that start

-- a mail started, and its name was put behind those of the others
pub mail_put : (old new : Seen Crash) (before room after : List (List ℕ)) (a copied message envelope : List ℕ) → new ≡ started_world old a message envelope → room ≡ before → copied ≡ a → after ≡ room ++ copied ∷ [] → AreLivingMails old.events before
    → AreLivingMails new.events after
mail_put old new before room after a copied message envelope started same name put m =
    let events = ap (λ (w : Seen Crash). w.events) started in
    let mails : before ++ a ∷ [] ≡ after = sym (put ∙ (ap (λ (l : List (List ℕ)). l ++ copied ∷ []) same ∙ ap (λ (n : List ℕ). before ++ n ∷ []) name)) in
    subst (AreLivingMails new.events) mails (subst (λ (l : List Kept). AreLivingMails l (before ++ a ∷ [])) (sym events) (mail_starts old.events before a _ m))

-- none started, and there is room for a name
pub mails_stay : (old new : Seen Crash) (before room : List (List ℕ)) → new ≡ old → room ≡ before → AreLivingMails old.events before → AreLivingMails new.events room
mails_stay old new before room same alike m = subst (AreLivingMails new.events) (sym alike) (subst (λ (w : Seen Crash). AreLivingMails w.events before) (sym same) m)

-- a line of another word starts none
pub no_mail : (l : Line) → ((name message envelope : List ℕ) → l ≢ line.Mail name message envelope) → is_mail_line l ≡ true → ⊥
no_mail (line.Mail name message envelope) other is = other name message envelope refl
no_mail (line.Alone word) other is = absurd (cc)
no_mail (line.Actor word actor) other is = absurd (cc)
no_mail (line.Count word count) other is = absurd (cc)
no_mail (line.Moment word m) other is = absurd (cc)
no_mail (line.Survival word how) other is = absurd (cc)
no_mail (line.Word word text) other is = absurd (cc)
no_mail (line.Letter word letter) other is = absurd (cc)
no_mail (line.Report slot letter text) other is = absurd (cc)

-- an output that wasn't told to have failed counts as before
pub gave_well : (r : Result (Unit {0}) PlayError) (Same : Type 0) (Rises : PlayError → Type 0) → OnOk r Same → IfErr r (λ why. (why ≡ Failed) × Rises why) → r ≢ Err Failed → Same
gave_well (Ok done) Same Rises same cause other = same
gave_well (Err why) Same Rises same cause other = absurd (other (ap Err cause.0))

-- What the turns came to

-- a kept event starts the mail that its deed starts
mail_told : (k : Kept) (e : Event) → Tells k e → mail_in k ≡ mail_of e
mail_told k (Start a program) told = ap mail_in told
mail_told k (Act a own w) told = ap mail_in told
mail_told k (Child parent own a program) told = ap mail_in told
mail_told k (Generation crew) told = ap mail_in told.1
mail_told k (Report slot output) told = ap mail_in told.2
mail_told k (End a read ready status) told = ap mail_in told
mail_told k (Stop a) told = ap mail_in told
mail_told k (Moment m) told = ap mail_in told
mail_told k (Halt how contents) told = ap mail_in told

deed_mail : (k : Kept) (x : Deed) → TellsDeed k x → mail_in k ≡ mail_of (event_in x)
deed_mail k (Came e) told = mail_told k e told
deed_mail k (Fed a own c message envelope) told = ap mail_in told

mails_told : (events : List Kept) (deeds : List Deed) → AllZip TellsDeed events deeds → mails_in events ≡ mails_of deeds
mails_told [] [] told = refl
mails_told [] (x ∷ deeds) told = absurd told
mails_told (k ∷ events) [] told = absurd told
mails_told (k ∷ events) (x ∷ deeds) told = ap (λ (l : List (List ℕ)). l ++ mails_in events) (deed_mail k x told.0) ∙ ap (λ (l : List (List ℕ)). mail_of (event_in x) ++ l) (mails_told events deeds told.1)

-- a kept event is the end of whom its deed is the end
end_told : (a : List ℕ) (k : Kept) (e : Event) → Tells k e → is_end a k ≡ is_end_of a e
end_told a k (Start b program) told = ap (is_end a) told
end_told a k (Act b own w) told = ap (is_end a) told
end_told a k (Child parent own b program) told = ap (is_end a) told
end_told a k (Generation crew) told = ap (is_end a) told.1
end_told a k (Report slot output) told = ap (is_end a) told.2
end_told a k (End b read ready status) told = ap (is_end a) told
end_told a k (Stop b) told = ap (is_end a) told
end_told a k (Moment m) told = ap (is_end a) told
end_told a k (Halt how contents) told = ap (is_end a) told

deed_end : (a : List ℕ) (k : Kept) (x : Deed) → TellsDeed k x → is_end a k ≡ is_end_by a x
deed_end a k (Came e) told = end_told a k e told
deed_end a k (Fed b own c message envelope) told = ap (is_end a) told

ends_told : (a : List ℕ) (events : List Kept) (deeds : List Deed) → AllZip TellsDeed events deeds → list_any (is_end a) events ≡ list_any (is_end_by a) deeds
ends_told a [] [] told = refl
ends_told a [] (x ∷ deeds) told = absurd told
ends_told a (k ∷ events) [] told = absurd told
ends_told a (k ∷ events) (x ∷ deeds) told =
    ap (λ (b : Bool). b || list_any (is_end a) events) (deed_end a k x told.0) ∙ ap (λ (b : Bool). is_end_by a x || b) (ends_told a events deeds told.1)

abbrev tells : Crash → Option Disk
tells disk = Some (crash_disk disk)

-- the threads ran the world with which `work` began, and `settle` came last
pub worked : (opening : List Entry) (lines : List Line) (old new : Seen Crash) (mails : List (List ℕ)) (text : List ℕ) → AreLivingMails old.events mails → (b : HasBegun opening (first_lines lines) old)
    → (run : HasRun crash_plan tells mails old new) → (w : HasWorked b.disk new b.left b.deeds) → HasSettled b.disk (w.deeds ++ b.deeds) (plan_through b.left w.deeds) text → IsWorked opening lines text
worked opening lines old new mails text living b run w settled =
    let added : drop (length old.events) new.events ≡ run.added = ap (drop (length old.events)) run.events ∙ drop-append_seam old.events run.added in
    let told : AllZip TellsDeed run.added (reverse w.deeds) = subst (λ (l : List Kept). AllZip TellsDeed l (reverse w.deeds)) added (added_told old.events new.events b.deeds w.deeds b.playing.told w.playing.told) in
    let begun : AllZip TellsDeed old.events (reverse b.deeds) = first_told old.events b.deeds b.playing.told in
    let names : mails ≡ mails_of (reverse b.deeds) = sym living.are ∙ mails_told old.events (reverse b.deeds) begun in record {
      disk = b.disk;
      is_first = b.is_first;
      begun = b.deeds;
      left = b.left;
      dropped = b.text;
      begins = b.plays;
      worked = w.deeds;
      are_steps = w.are_steps;
      ended = subst (λ (l : List (List ℕ)). All (λ a. list_any (is_end_by a) (reverse w.deeds) ≡ true) l) names (λ i d within. sym (ends_told (get_or mails i d) run.added (reverse w.deeds) told) ∙ run.ended i d within);
      end = settled;
    }
  where
    first_told : (events : List Kept) (deeds : List Deed) → AllZip TellsDeed (reverse events) deeds → AllZip TellsDeed events (reverse deeds)
    first_told events deeds told = added_told [] events [] deeds tt (subst (λ (l : List Deed). AllZip TellsDeed (reverse events) l) (sym (append-nil deeds)) told)
