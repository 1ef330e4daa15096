-- What an injector, a cleaner and those that only read leave of the files that preprocessing makes.
use Rattle.std.proofs.Common.{◌≡◌, ◌≢◌, ◌⊎◌, inl, inr, ℕ, List, true, Option, Some, None, refl, sym, ap, ◌∙◌, subst, ⊎_elim}
use Rattle.call_fs.specs.declared.calls.CallData.{CallData}
use Rattle.call_fs.specs.declared.calls.CallData.TheVariants as call
use Rattle.call_fs.specs.declared.calls.Answer.{Answer}
use Rattle.call_fs.specs.declared.past.NeedData.TheVariants as needs
use Rattle.call_fs.specs.Apply.{Fits}
use Rattle.queue_clean.specs.declared.row.Row.{Row}
use Rattle.queue_clean.specs.declared.row.Row.TheVariants as at
use Rattle.queue_clean.specs.Commands.{first_name, message_of, second_name}
use Rattle.queue_clean.specs.Table.{due_at}
use Rattle.queue_paths.specs.Names.{Name, Part, path}
use Rattle.queue_paths.specs.Names.Name.{Of}
use Rattle.queue_paths.specs.Names.Part.{Info, Local, Remote, Bounce}
use Rattle.queue_law.specs.Cleaners.{number_at}
use Rattle.queue_law.specs.Numbers.{About, Entry, IsSorted, IsUnsorted, Queue, about, is_later}
use Rattle.queue_law.specs.Senders.{called_queue}
use Rattle.queue_law.specs.Steps.{LeavesLater}
use Rattle.queue_law.proofs.Changes.{unlinks_one}
use Rattle.program_law.proofs.Sender.Gone.{file_call}
use Rattle.program_law.proofs.Sender.Spares.{later_far, second_far}

-- A number is preprocessed, or it isn't

none_or : (o : Option Entry) → (o ≡ None) ⊎ (o ≢ None)
none_or None = inl refl
none_or (Some y) = inr (λ e. absurd (cc))

all_none : (w : About) → w.parts Info ≡ None → w.parts Local ≡ None → w.parts Remote ≡ None → w.parts Bounce ≡ None → IsUnsorted w
all_none w i l r b Info e = i
all_none w i l r b Local e = l
all_none w i l r b Remote e = r
all_none w i l r b Bounce e = b
all_none w i l r b part e = absurd (cc)

sorted_or : (w : About) → IsSorted w ⊎ IsUnsorted w
sorted_or w = ⊎_elim
    (λ i. ⊎_elim
    (λ l. ⊎_elim
    (λ r. ⊎_elim
    (λ b. inr (all_none w i l r b))
    (λ there. inl (Bounce, refl, there))
    (none_or (w.parts Bounce)))
    (λ there. inl (Remote, refl, there))
    (none_or (w.parts Remote)))
    (λ there. inl (Local, refl, there))
    (none_or (w.parts Local)))
    (λ there. inl (Info, refl, there))
    (none_or (w.parts Info))

pub by_sorted : (q r : Queue) → ((n : ℕ) → IsSorted (about q n) → about r n ≡ about q n) → ((n : ℕ) → IsUnsorted (about q n) → IsUnsorted (about r n)) → LeavesLater q r
by_sorted q r same unsorted part n e = ⊎_elim
    (λ s. ap (λ (w : About). w.parts part) (same n s))
    (λ u. unsorted n u part e ∙ sym (u part e))
    (sorted_or (about q n))

pub by_about : (q r : Queue) → ((n : ℕ) → about r n ≡ about q n) → LeavesLater q r
by_about q r same part n e = ap (λ (w : About). w.parts part) (same n)

-- An unlink of the cleaner

module _ (q : Queue) (a : List ℕ) (read wrote : ℕ) (told : Answer) where
  abbrev after : CallData → Queue
  after c = called_queue q a read c told wrote q.role

  unlink_later : (x : Name) → ((part : Part) (n : ℕ) → is_later part ≡ true → Of part n ≢ x) → Fits q.disk (call.Unlink (path x)) told wrote
      → LeavesLater q (after (call.Unlink (path x)))
  unlink_later x far fits part n e = let one = unlinks_one q a read x told wrote fits in one.others (Of part n) (far part n e)

  pub by_row : (row : Row) (name : List ℕ) (c : CallData) → due_at row name read ≡ needs.File c → Fits q.disk c told wrote
      → ((n : ℕ) → number_at row ≢ Some n → about (after c) n ≡ about q n) → LeavesLater q (after c)
  by_row (at.UnlinkIntd command) name c due fits same =
      let is = sym (file_call (call.Unlink (path (first_name command))) c due) in
      subst (λ z. LeavesLater q (after z)) (sym is)
      (unlink_later (first_name command) (λ part n e. (later_far part n (message_of command) e).0) (subst (λ z. Fits q.disk z told wrote) is fits))
  by_row (at.UnlinkSecond command) name c due fits same =
      let is = sym (file_call (call.Unlink (path (second_name command))) c due) in
      subst (λ z. LeavesLater q (after z)) (sym is)
      (unlink_later (second_name command) (λ part n e. second_far part n command e) (subst (λ z. Fits q.disk z told wrote) is fits))
  by_row at.TakeInput name c due fits same = by_about q (after c) (λ n. same n (λ e. absurd (cc)))
  by_row at.FindPid name c due fits same = by_about q (after c) (λ n. same n (λ e. absurd (cc)))
  by_row at.StatPid name c due fits same = by_about q (after c) (λ n. same n (λ e. absurd (cc)))
  by_row (at.JudgePid moment) name c due fits same = by_about q (after c) (λ n. same n (λ e. absurd (cc)))
  by_row (at.Answer reply) name c due fits same = by_about q (after c) (λ n. same n (λ e. absurd (cc)))
  by_row (at.Ended status) name c due fits same = by_about q (after c) (λ n. same n (λ e. absurd (cc)))
