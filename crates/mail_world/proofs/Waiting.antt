-- The invariant says that each accepted message waits in todo.
use Rattle.std.proofs.Common.{◌≡◌, List, [], ◌∷◌, ◌++◌, true, Some, refl, sym, subst, subst₂, ⊎_elim}
use Rattle.queue_law.proofs.Waits.{todo_named, todo_entry}
use Rattle.call_fs.specs.Disk.{Disk, Among, IsSynced}
use Rattle.queue_inject.specs.declared.injection.Arguments.{Arguments}
use Rattle.queue_inject.specs.Texts.{intd_text, todo_of}
use Rattle.mail_world.specs.History.{Event, Injection, State, after, Legal}
use Rattle.queue_law.specs.Accounts.{IsInTodo}
use Rattle.queue_law.specs.Books.{IsInjected}
use Rattle.mail_world.specs.Waiting.{AllWait, HasNoGeneration, MailsWait}
use Rattle.queue_law.specs.Numbers.{Entry, about, IsQueued, Phase}
use Rattle.mail_world.specs.Untouched.{queue}
use Rattle.queue_law.specs.Numbers.Phase.{Free, Queued, Sorted, Finished}
use Rattle.mail_world.proofs.Covered.{covered, covered_before}
use Rattle.mail_world.proofs.Kept.{Inv, always}

-- what todo holds
todo_is : (args : Arguments) → (intd_text args).bytes ≡ todo_of args
unfolding todo_of
todo_is args = refl

-- An accepted injection whose life lasts is queued.

module _ (s : State) (I : Inv s) where
  -- the envelope of a queued number
  in_todo : (i : Injection) → IsQueued (about (queue s I.role) i.number) → s.books.living i.number ≡ Some i → IsInTodo s.disk i
  in_todo i h lives =
      let d = s.disk in
      let same : h.taken.injection ≡ i = (let w = h.taken.lives in cc) in
      let todo = todo_entry d.names d.files i.number h.todo h.todo_there in
      record {
        file = h.todo.number;
        there = todo_named d.names d.files i.number h.todo h.todo_there;
        text =
            let text = subst₂ (λ (y : Entry) (z : Injection). IsSynced y.file (intd_text z.args).bytes) todo same h.text in
            subst (IsSynced (d.files h.todo.number)) (todo_is i.args) text;
      }

  is_kept : (i : Injection) → s.books.living i.number ≡ Some i → i.accepted ≡ true → IsInTodo s.disk i
  is_kept i lives accepted = by_phase (I.sound.fine i.number)
    where
      by_phase : Phase (about (queue s I.role) i.number) → IsInTodo s.disk i
      by_phase (Free h) = absurd (h.not_accepted i lives accepted)
      by_phase (Queued h) = in_todo i h lives
      by_phase (Sorted h) = absurd (I.early.waits i.number i lives accepted h.no_todo)
      by_phase (Finished h) = absurd (I.early.waits i.number i lives accepted h.no_todo)

  lives_on : (i : Injection) → IsInjected s.books i → i.accepted ≡ true → s.books.living i.number ≡ Some i
  lives_on i h accepted = ⊎_elim (λ (l : s.books.living i.number ≡ Some i). l) (λ (o : Among i s.books.over). absurd (I.early.none_over i o accepted)) h

  all_wait : AllWait s
  all_wait i h accepted = let lives = lives_on i h accepted in (lives, is_kept i lives accepted)

pub legal_before : (d : Disk) (later before : List Event) → Legal d (later ++ before) → Legal d before
legal_before d [] before l = l
legal_before d (e ∷ later) before l = legal_before d later before l.0

-- what holds after a history in which no generation was started
pub always_alone : (d : Disk) (h : List Event) → Legal d h → HasNoGeneration h → Inv (after d h)
always_alone d h legal none = always d h (covered d h legal none)

pub wait_alone : (d : Disk) (h : List Event) → Legal d h → HasNoGeneration h → AllWait (after d h)
wait_alone d h legal none = all_wait (after d h) (always_alone d h legal none)

pub mails_wait : MailsWait
mails_wait d h legal none = λ later before is.
    wait_alone d before (legal_before d later before (subst (Legal d) (sym is) legal)) (covered_before later before (subst HasNoGeneration (sym is) none))
