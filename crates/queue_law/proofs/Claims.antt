-- A sound queue is safe.
use Rattle.std.proofs.Common.{◌≡◌, true, Option, Some, None, refl, subst, subst₂, ⊎_elim}
use Rattle.call_fs.specs.Disk.{Among, IsSynced}
use Rattle.queue_inject.specs.declared.injection.Arguments.{Arguments}
use Rattle.queue_inject.specs.Texts.{message_text, entered}
use Rattle.queue_paths.specs.Names.Name.{Of}
use Rattle.queue_paths.specs.Names.Part.{Mess}
use Rattle.queue_paths.specs.Parts.{in_intd, in_todo}
use Rattle.queue_law.specs.Books.{Injection, IsValid}
use Rattle.queue_law.specs.Numbers.{Entry, Queue, look, About, about, IsTaken, IsUnsorted, Phase}
use Rattle.queue_law.specs.Numbers.Phase.{Free, Queued, Sorted, Finished}
use Rattle.queue_law.specs.Claims.{InState, SoundIsSafe}
use Rattle.queue_law.specs.Claims.InState.{First, Second, Third, Fourth, Fifth}

-- by whether message and intd are there
bare_state : (w : About) → in_todo w.parts ≡ None → IsUnsorted w → (w.parts Mess ≡ None → in_intd w.parts ≡ None)
    → (mess intd : Option Entry) → w.parts Mess ≡ mess → in_intd w.parts ≡ intd → InState w
bare_state w todo unsorted below None intd is has = First is (below is) todo unsorted
bare_state w todo unsorted below (Some mess) None is has = Second mess is has todo unsorted
bare_state w todo unsorted below (Some mess) (Some intd) is has = Third mess intd is has todo unsorted

state_of_phase : (w : About) → Phase w → InState w
state_of_phase w (Free h) = bare_state w h.no_todo h.unsorted h.intd_below (w.parts Mess) (in_intd w.parts) refl refl
state_of_phase w (Queued h) = Fourth h.taken.mess h.todo h.taken.mess_there h.todo_there h.no_bounce
state_of_phase w (Sorted h) = Fifth h.taken.mess h.info h.taken.mess_there h.no_intd h.no_todo h.info_there
state_of_phase w (Finished h) = bare_state w h.no_todo h.unsorted (λ _. h.no_intd) (w.parts Mess) (in_intd w.parts) refl refl

entered_is : (args : Arguments) → (message_text args).bytes ≡ entered args
unfolding entered
entered_is args = refl

module _ (q : Queue) (i : Injection) (lives : q.books.living i.number ≡ Some i) (accepted : i.accepted ≡ true) where
  taken_message : (y : Entry) → look q (Of Mess i.number) ≡ Some y → IsTaken (about q i.number) → IsSynced y.file (entered i.args)
  taken_message y there h =
      let same : h.injection ≡ i = (let w = h.lives in cc) in
      let mess : h.mess ≡ y = (let w = h.mess_there in cc) in
      subst (IsSynced y.file) (entered_is i.args) (subst₂ (λ (z : Entry) (j : Injection). IsSynced z.file (message_text j.args).bytes) mess same h.message)

  whole_message : (y : Entry) → look q (Of Mess i.number) ≡ Some y → Phase (about q i.number) → IsSynced y.file (entered i.args)
  whole_message y there (Free h) = absurd (h.not_accepted i lives accepted)
  whole_message y there (Queued h) = taken_message y there h.taken
  whole_message y there (Sorted h) = taken_message y there h.taken
  whole_message y there (Finished h) =
      let same : h.injection ≡ i = (let w = h.lives in cc) in
      subst (IsSynced y.file) (entered_is i.args) (subst (λ (j : Injection). IsSynced y.file (message_text j.args).bytes) same (h.message y there))

  taken_valid : IsTaken (about q i.number) → IsValid i.args
  taken_valid h = let same : h.injection ≡ i = (let w = h.lives in cc) in subst (λ (j : Injection). IsValid j.args) same h.valid

  is_valid : Phase (about q i.number) → IsValid i.args
  is_valid (Free h) = absurd (h.not_accepted i lives accepted)
  is_valid (Queued h) = taken_valid h.taken
  is_valid (Sorted h) = taken_valid h.taken
  is_valid (Finished h) = let same : h.injection ≡ i = (let w = h.lives in cc) in subst (λ (j : Injection). IsValid j.args) same h.settled.valid

pub sound_is_safe : SoundIsSafe
sound_is_safe q G = record {
  states = λ n. state_of_phase (about q n) (G.fine n);
  numbers = λ n y h. (G.suits (Of Mess n) y h).0.0;
  messages = λ i y lives accepted there. whole_message q i lives accepted y there (G.fine i.number);
  valid = λ i h accepted. ⊎_elim
      (λ (lives : q.books.living i.number ≡ Some i). is_valid q i lives accepted (G.fine i.number))
      (λ (over : Among i q.books.over). (G.over i over accepted).valid)
      h;
}
