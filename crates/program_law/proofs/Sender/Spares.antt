-- What steps of others spare.
use Rattle.std.proofs.Common.{◌≡◌, ◌≢◌, inr, ℕ, List, true, Option, Some, None, refl, sym, ◌∙◌, subst, ⊎_elim}
use Rattle.std.proofs.lemmas.Bool.Decides.{eqb_tells}
use Rattle.call_fs.specs.declared.calls.CallData.{CallData}
use Rattle.call_fs.specs.declared.calls.CallData.TheVariants as call
use Rattle.call_fs.specs.declared.calls.Answer.{Answer}
use Rattle.call_fs.specs.declared.past.NeedData.TheVariants as needs
use Rattle.call_fs.specs.Apply.{Fits}
use Rattle.queue_clean.specs.declared.command.Command.{Command}
use Rattle.queue_clean.specs.declared.command.Command.TheVariants.{Foop, Todo as TodoCommand}
use Rattle.queue_clean.specs.declared.row.Row.{Row}
use Rattle.queue_clean.specs.declared.row.Row.TheVariants as at
use Rattle.queue_clean.specs.Commands.{first_name, message_of, second_name}
use Rattle.queue_clean.specs.Table.{Place, due_at, place_after}
use Rattle.queue_paths.specs.Names.{Name, Part, path}
use Rattle.queue_paths.specs.Names.Name.{Of}
use Rattle.queue_paths.specs.Names.Part.{Mess, Intd, Todo, Info, Local, Remote, Bounce}
use Rattle.queue_paths.specs.Parts.{in_todo}
use Rattle.queue_law.specs.Cleaners.{Needs, Rests, StandsAt, number_at}
use Rattle.queue_law.specs.Numbers.{About, Entry, IsSorted, Queue, about, is_later, look}
use Rattle.queue_law.specs.Rests.{IsClosed, Spares}
use Rattle.queue_law.specs.Senders.{called_queue}
use Rattle.queue_law.specs.Steps.{queue_after}
use Rattle.queue_law.proofs.Changes.{unlinks_one}
use Rattle.queue_law.proofs.Cleaners.{cleaners_keep}
use Rattle.queue_law.proofs.Foreigners.{foreigners_keep}
use Rattle.queue_law.proofs.Frame.{about_same}
use Rattle.program_law.specs.Sender.Rows.{IsTakenUp}
use Rattle.program_law.specs.Sender.Stands.{SparesSorted}
use Rattle.program_law.proofs.Sender.Gone.{file_call}
use Rattle.program_law.specs.Sender.Spares.{OthersSpare}

is_there : (o : Option Entry) (y : Entry) → o ≡ Some y → o ≢ None
is_there o y e f = absurd (cc)

-- A number that is taken up is closed to injectors.
closed_of : (now : ℕ) (q : Queue) (n : ℕ) → IsTakenUp (about q n) → IsClosed now q n
closed_of now q n t = record { mess = t.mess; there = t.mess_there; shut = inr t.accepted }

by_sorted : (now : ℕ) (q r : Queue) → ((n : ℕ) → IsSorted (about q n) → about r n ≡ about q n) → Spares now None q r → SparesSorted q r
by_sorted now q r same S = record {
  taken_up = λ n t. subst IsTakenUp (sym (S.abouts n (λ e. absurd (cc)) (closed_of now q n t))) t;
  sorted = λ n none info there. same n (Info, refl, is_there (look q (Of Info n)) info there);
}

by_about : (q r : Queue) → ((n : ℕ) → about r n ≡ about q n) → SparesSorted q r
by_about q r same = record { taken_up = λ n t. subst IsTakenUp (sym (same n)) t; sorted = λ n none info there. same n }

-- An unlink of the cleaner

pub later_far : (part : Part) (n m : ℕ) → is_later part ≡ true → (Of part n ≢ Of Intd m) × (Of part n ≢ Of Mess m) × (Of part n ≢ Of Todo m)
later_far Info n m e = (λ f. absurd (cc), λ f. absurd (cc), λ f. absurd (cc))
later_far Local n m e = (λ f. absurd (cc), λ f. absurd (cc), λ f. absurd (cc))
later_far Remote n m e = (λ f. absurd (cc), λ f. absurd (cc), λ f. absurd (cc))
later_far Bounce n m e = (λ f. absurd (cc), λ f. absurd (cc), λ f. absurd (cc))
later_far other n m e = absurd (cc)

pub second_far : (part : Part) (n : ℕ) (command : Command) → is_later part ≡ true → Of part n ≢ second_name command
second_far part n (Foop m) e = (later_far part n m e).1
second_far part n (TodoCommand m) e = (later_far part n m e).2

-- `todo/n` doesn't unlink the message
abbrev LeavesMess : Command → Name → Type 0
LeavesMess (Foop m) x = Unit {0}
LeavesMess (TodoCommand m) x = (n : ℕ) → Of Mess n ≢ x

first_leaves : (command : Command) → LeavesMess command (first_name command)
first_leaves (Foop m) = tt
first_leaves (TodoCommand m) = λ n f. absurd (cc)

second_leaves : (command : Command) → LeavesMess command (second_name command)
second_leaves (Foop m) = tt
second_leaves (TodoCommand m) = λ n f. absurd (cc)

-- a number that such a command needs isn't preprocessed
needed : (w : About) (command : Command) (info : Entry) → Needs command w → in_todo w.parts ≡ None → w.parts Info ≡ Some info → ⊥
needed w (Foop n) info h none there = let gone = h.unsorted Info refl in absurd (cc)
needed w (TodoCommand n) info h none there = let is = h.queued.todo_there in absurd (cc)

some_number : (n k : ℕ) → ◌≡◌ {A = Option ℕ} (Some n) (Some k) → n ≡ k
some_number n k e = cc

module _ (now : ℕ) (q : Queue) (a : List ℕ) (read wrote : ℕ) (told : Answer) where
  abbrev after : CallData → Queue
  after c = called_queue q a read c told wrote q.role

  -- `foop/n` is of no number that is taken up, and `todo/n` of one that has its info file
  kept_up : (x : Name) (command : Command) → ((part : Part) (n : ℕ) → is_later part ≡ true → Of part n ≢ x) → LeavesMess command x
      → Needs command (about q (message_of command)) → Fits q.disk (call.Unlink (path x)) told wrote → IsTakenUp (about q (message_of command))
      → IsTakenUp (about (after (call.Unlink (path x))) (message_of command))
  kept_up x (Foop m) far mess need fits t = absurd (t.filed need.no_todo (need.unsorted Info refl))
  kept_up x (TodoCommand m) far mess need fits t =
      let one = unlinks_one q a read x told wrote fits in
      let info = one.others (Of Info m) (far Info m refl) ∙ need.made.info.there in
      record {
        accepted = record { injection = t.accepted.injection; lives = t.accepted.lives; accepted = t.accepted.accepted };
        mess = t.mess;
        mess_there = one.others (Of Mess m) (mess m) ∙ t.mess_there;
        filed = λ todo none. let both = sym info ∙ none in absurd (cc);
      }

  unlink_spares : (x : Name) (command : Command) → ((part : Part) (n : ℕ) → is_later part ≡ true → Of part n ≢ x) → LeavesMess command x → Needs command (about q (message_of command))
      → ((n : ℕ) → ◌≢◌ {A = Option ℕ} (Some (message_of command)) (Some n) → about (after (call.Unlink (path x))) n ≡ about q n) → Fits q.disk (call.Unlink (path x)) told wrote
      → SparesSorted q (after (call.Unlink (path x)))
  unlink_spares x command far mess need same fits = record {
    taken_up = λ n t. ⊎_elim
        (λ own. subst (λ (k : ℕ). IsTakenUp (about (after (call.Unlink (path x))) k)) (sym own.1)
        (kept_up x command far mess need fits (subst (λ (k : ℕ). IsTakenUp (about q k)) own.1 t)))
        (λ other. subst IsTakenUp (sym (same n (λ e. other.1 (sym (some_number (message_of command) n e))))) t)
        (eqb_tells n (message_of command));
    sorted = λ n none info there. ⊎_elim
        (λ t. absurd (needed (about q n) command info (subst (λ (k : ℕ). Needs command (about q k)) (sym t.1) need) none there))
        (λ f. same n (λ e. f.1 (sym (some_number (message_of command) n e))))
        (eqb_tells n (message_of command));
  }

  by_row : (row : Row) (name : List ℕ) (c : CallData) → Rests now q row → due_at row name read ≡ needs.File c → Fits q.disk c told wrote
      → ((n : ℕ) → number_at row ≢ Some n → about (after c) n ≡ about q n) → SparesSorted q (after c)
  by_row (at.UnlinkIntd command) name c h due fits same =
      let is = sym (file_call (call.Unlink (path (first_name command))) c due) in
      subst (λ z. SparesSorted q (after z)) (sym is)
      (unlink_spares (first_name command) command (λ part n e. (later_far part n (message_of command) e).0) (first_leaves command) h.rest
      (subst (λ z. (n : ℕ) → ◌≢◌ {A = Option ℕ} (Some (message_of command)) (Some n) → about (after z) n ≡ about q n) is same) (subst (λ z. Fits q.disk z told wrote) is fits))
  by_row (at.UnlinkSecond command) name c h due fits same =
      let is = sym (file_call (call.Unlink (path (second_name command))) c due) in
      subst (λ z. SparesSorted q (after z)) (sym is)
      (unlink_spares (second_name command) command (λ part n e. second_far part n command e) (second_leaves command) h.rest.0
      (subst (λ z. (n : ℕ) → ◌≢◌ {A = Option ℕ} (Some (message_of command)) (Some n) → about (after z) n ≡ about q n) is same) (subst (λ z. Fits q.disk z told wrote) is fits))
  by_row at.TakeInput name c h due fits same = by_about q (after c) (λ n. same n (λ e. absurd (cc)))
  by_row at.FindPid name c h due fits same = by_about q (after c) (λ n. same n (λ e. absurd (cc)))
  by_row at.StatPid name c h due fits same = by_about q (after c) (λ n. same n (λ e. absurd (cc)))
  by_row (at.JudgePid moment) name c h due fits same = by_about q (after c) (λ n. same n (λ e. absurd (cc)))
  by_row (at.Answer reply) name c h due fits same = by_about q (after c) (λ n. same n (λ e. absurd (cc)))
  by_row (at.Ended status) name c h due fits same = by_about q (after c) (λ n. same n (λ e. absurd (cc)))

rests_of : (now : ℕ) (q : Queue) (row : Row) (p : Place) → StandsAt now q row p → Rests now q row
rests_of now q at.FindPid p h = tt
rests_of now q at.StatPid p h = tt
rests_of now q (at.JudgePid moment) p h = tt
rests_of now q at.TakeInput p h = h
rests_of now q (at.UnlinkIntd command) p h = h
rests_of now q (at.UnlinkSecond command) p h = h
rests_of now q (at.Answer reply) p h = h
rests_of now q (at.Ended status) p h = h

pub others_spare : OthersSpare
others_spare = record {
  injectors = λ now q a args past read ready call told wrote c. by_sorted now q (queue_after q a args read call told.answer wrote c.role) c.sorted c.spares;
  foreigners = λ a q r F. by_about q r (foreigners_keep.abouts a q r F);
  reads = λ now a q r E. record {
    taken_up = λ n t. subst IsTakenUp (sym (about_same now a None q r E n (λ e. absurd (cc)))) t;
    sorted = λ n _ _ _. about_same now a None q r E n (λ e. absurd (cc));
  };
  cleaners = λ now q a past read ready call told wrote G stands soon due fits.
      let p : Place = place_after past in
      let leads = cleaners_keep now q a past read ready call told wrote G stands soon due fits in
      by_row now q a read wrote told.answer p.row p.name call (rests_of now q p.row p stands) due fits leads.abouts;
}
