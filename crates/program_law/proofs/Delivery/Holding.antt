-- What a delivery holds open: after a file call, and after any other event.
use Rattle.std.proofs.Common.{◌≡◌, ◌≢◌, ℕ, List, ◌∷◌, Option, Some, None, IsSome, refl, sym, ap, ◌∙◌, ⊎_elim}
use Rattle.call_fs.specs.declared.calls.Answer.{Answer}
use Rattle.call_fs.specs.declared.calls.Answer.TheVariants as answer
use Rattle.call_fs.specs.declared.calls.CallData.{CallData}
use Rattle.call_fs.specs.declared.calls.CallData.TheVariants as call
use Rattle.call_fs.specs.declared.calls.Fd.{Fd}
use Rattle.call_fs.specs.declared.calls.Told.{Told}
use Rattle.call_fs.specs.declared.modes.Mode.{Mode}
use Rattle.call_fs.specs.declared.past.GotData.{GotData}
use Rattle.call_fs.specs.declared.past.NeedData.{NeedData}
use Rattle.call_fs.specs.declared.past.NeedData.TheVariants as needs
use Rattle.call_fs.specs.declared.past.Own.{Own}
use Rattle.call_fs.specs.declared.program.Ready.{Ready}
use Rattle.call_fs.specs.Apply.{Apply, Fits}
use Rattle.call_fs.specs.Maps.{put}
use Rattle.call_fs.specs.Past.{Backs, held, held_after, held_by}
use Rattle.call_fs.proofs.Held.{backs_call}
use Rattle.call_fs.proofs.Maps.{put_cases, put_other}
use Rattle.queue_law.specs.Books.{own_call, held_by as holder_by}
use Rattle.queue_law.specs.Numbers.{Queue, Role}
use Rattle.queue_law.specs.Senders.{called_queue}
use Rattle.program_law.specs.Delivery.Laws.{IsNoCall}
use Rattle.program_law.specs.Delivery.Rests.{HoldsOpen}

-- each descriptor that is held is this actor's
abbrev AreOwn : (ℕ → Option Mode) → (ℕ → Option (List ℕ)) → List ℕ → Type 0
AreOwn has holder a = (fd : ℕ) (mode : Mode) → has fd ≡ Some mode → holder fd ≡ Some a

module _ (has : ℕ → Option Mode) (holder : ℕ → Option (List ℕ)) (a : List ℕ) (own : AreOwn has holder a) where
  -- one more
  more_own : (fd : ℕ) (v : Option Mode) → AreOwn (put has fd v) (put holder fd (Some a)) a
  more_own fd v k mode is = ⊎_elim
      (λ (here : (k ≡ fd) × (put holder fd (Some a) k ≡ Some a)). here.1)
      (λ (far : (k ≢ fd) × (put holder fd (Some a) k ≡ holder k)). far.1 ∙ own k mode (sym (put_other has fd v k far.0) ∙ is))
      (put_cases holder fd (Some a) k)

  same_own : (fd : ℕ) → AreOwn has (put holder fd (Some a)) a
  same_own fd k mode is = ⊎_elim
      (λ (here : (k ≡ fd) × (put holder fd (Some a) k ≡ Some a)). here.1)
      (λ (far : (k ≢ fd) × (put holder fd (Some a) k ≡ holder k)). far.1 ∙ own k mode is)
      (put_cases holder fd (Some a) k)

  -- one less
  less_own : (fd : ℕ) → AreOwn (put has fd None) (put holder fd None) a
  less_own fd k mode is = ⊎_elim
      (λ (here : (k ≡ fd) × (put has fd None k ≡ None)). let none : ◌≡◌ {A = Option Mode} None (Some mode) = sym here.1 ∙ is in absurd (cc))
      (λ (far : (k ≢ fd) × (put has fd None k ≡ has k)). put_other holder fd None k far.0 ∙ own k mode (sym far.1 ∙ is))
      (put_cases has fd None k)

  own_after : (c : CallData) (told : Answer) → AreOwn (held_after has c told) (holder_by holder a c told) a
  own_after c (answer.Created fd n) = more_own fd.0 (Some Mode.Created)
  own_after (call.Open name how) (answer.Opened fd) = more_own fd.0 (Some (Mode.Opened how))
  own_after c (answer.Opened fd) = same_own fd.0
  own_after (call.Close fd) answer.Done = less_own fd.0
  own_after c told = own

pub held_on : (q : Queue) (a : List ℕ) (past : List Own) (read : ℕ) (ready : Ready) (c : CallData) (told : Told) (wrote : ℕ) (role : ℕ → Role) → Fits q.disk c told.answer wrote
    → HoldsOpen q a past → HoldsOpen (called_queue q a read c told.answer wrote role) a (own_call read ready c told ∷ past)
held_on q a past read ready c told wrote role fits h fd mode is =
    let r : Queue = called_queue q a read c told.answer wrote role in
    let made : Apply q.disk read c told.answer r.disk = (wrote, fits, refl) in
    let backs : Backs q.disk (held past) = λ k m has. let w = h k m has in (w.0, w.1.opened) in
    let b = backs_call q.disk r.disk read c told.answer (held past) made backs fd mode is in
    (b.0, record { opened = b.1; held = own_after (held past) q.holder a (λ k m has. (h k m has).1.held) c told.answer fd mode is })

-- nothing is opened or closed but by file calls
same_held : (has : ℕ → Option Mode) (due : NeedData) (got : GotData) → IsNoCall due → held_by has due got ≡ has
same_held has (needs.File c) got none = absurd none
same_held has (needs.Take port) got none = refl
same_held has (needs.Give port bytes) got none = refl
same_held has (needs.Start child) got none = refl
same_held has (needs.Command bytes) got none = refl
same_held has needs.Wait got none = refl
same_held has (needs.Ended status) got none = refl

pub held_still : (q : Queue) (a : List ℕ) (past : List Own) (own : Own) → IsNoCall own.due → HoldsOpen q a past → HoldsOpen q a (own ∷ past)
held_still q a past own none h fd mode is =
    h fd mode (ap (λ (f : ℕ → Option Mode). f fd) (sym (same_held (held past) own.due own.came none)) ∙ is)

-- what a call uses that is due is its own
pub own_descriptor : (q : Queue) (a : List ℕ) (past : List Own) (fd : Fd) → HoldsOpen q a past → IsSome (held past fd.0) → q.holder fd.0 ≡ Some a
own_descriptor q a past fd h some = by (held past fd.0) refl some
  where
    by : (o : Option Mode) → held past fd.0 ≡ o → IsSome o → q.holder fd.0 ≡ Some a
    by None is none = let no = none in absurd (cc)
    by (Some mode) is there = (h fd.0 mode is).1.held
