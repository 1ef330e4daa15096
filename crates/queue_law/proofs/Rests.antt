-- Numbers and names that no injector touches any more stay so.
use Rattle.std.proofs.Common.{◌≡◌, ◌≢◌, inl, inr, ℕ, ◌+◌, ◌<◌, ◌≤◌, List, false, Option, Some, None, refl, sym, ap, ◌∙◌, subst, ⊎_elim, arith}
use Rattle.queue_inject.specs.declared.injection.Arguments.{Arguments}
use Rattle.queue_paths.specs.Names.{Name}
use Rattle.queue_paths.specs.Names.Name.{Pid, Of}
use Rattle.queue_paths.specs.Names.Part.{Mess}
use Rattle.queue_law.specs.Books.{begun}
use Rattle.queue_law.specs.Numbers.{Role, Queue, Entry, look, about, NamesSuit}
use Rattle.queue_law.specs.Numbers.Role.{AsMessage, AsPart, AsDrop, AsOld}
use Rattle.queue_law.specs.Injectors.{InTime}
use Rattle.queue_law.specs.Rests.{IsOverdue, IsAccepted, IsClosed, IsOldName, IsJudged, Spares, SparesNames}
use Rattle.queue_law.specs.Steps.{Touches, Elsewhere}
use Rattle.queue_law.proofs.Tests.{off}
use Rattle.queue_law.proofs.Frame.{about_same}
use Rattle.queue_law.proofs.Deeds.{IsNowhere, IsOwn}

-- who is over its day stays so
overdue_later : (now m : ℕ) → now ≤ m → (role : Role) → IsOverdue now role → IsOverdue m role
overdue_later now m later (AsMessage actor args) h = omega (arith, later, h)
overdue_later now m later (AsPart part n) h = absurd h
overdue_later now m later (AsDrop actor) h = absurd h
overdue_later now m later AsOld h = absurd h

pub closed_later : (now m : ℕ) → now ≤ m → (q : Queue) (n : ℕ) → IsClosed now q n → IsClosed m q n
closed_later now m later q n h = record {
  mess = h.mess;
  there = h.there;
  shut = ⊎_elim (λ over. inl (overdue_later now m later (q.role n) over)) (λ accepted. inr accepted) h.shut;
}

-- an injector that may still call touches no closed number
pub untouched : (now : ℕ) (q : Queue) (n : ℕ) → IsClosed now q n → (o : List ℕ) (args : Arguments) → InTime now args → q.role n ≡ AsMessage o args
    → Touches q o args n → ⊥
untouched now q n h o args soon mine touches = ⊎_elim
    (λ (none : look q (Of Mess n) ≡ None). let w = h.there in absurd (cc))
    (λ (lives : q.books.living n ≡ Some (begun o args n)). ⊎_elim
    (λ (over : IsOverdue now (q.role n)). let w : args.start + 129600 < now = subst (IsOverdue now) mine over in omega (arith, soon, w))
    (λ (accepted : IsAccepted (about q n)).
    let w = accepted.lives in
    let v : accepted.injection.accepted ≡ false = cc in
    off (sym v ∙ accepted.accepted))
    h.shut)
    touches

-- what a step elsewhere leaves
module _ (now : ℕ) (a : List ℕ) (m : Option ℕ) (q r : Queue) (E : Elsewhere now a m q r) (S : NamesSuit q) where
  pub closed_far : (n : ℕ) → m ≢ Some n → IsClosed now q n → IsClosed now r n
  closed_far n far h =
      let number : h.mess.number ≡ n = (S (Of Mess n) h.mess h.there).0.0 in
      let role : r.role n ≡ q.role n = subst (λ k. r.role k ≡ q.role k) number (E.roles (Of Mess n) h.mess h.there) in
      record {
        mess = h.mess;
        there = E.looks (Of Mess n) far ∙ h.there;
        shut = ⊎_elim
            (λ over. inl (subst (IsOverdue now) (sym role) over))
            (λ accepted. inr (subst IsAccepted (sym (about_same now a m q r E n far)) accepted))
            h.shut;
      }

  -- a file that was there at the beginning is none that the step concerns
  pub judged_far : ((n : ℕ) → m ≡ Some n → (x : Name) (y : Entry) → look q x ≡ Some y → q.role y.number ≡ AsOld → y.number ≢ n)
      → (x : Option Name) (moment : ℕ) → IsJudged q x moment → IsJudged r x moment
  judged_far far (Some (Pid p s k)) moment h = ⊎_elim
      (λ start. inl start)
      (λ (old : IsOldName q (Pid p s k) moment). inr (record {
        file = old.file;
        there = E.looks (Pid p s k) (λ c. far old.file.number (c old.file old.there) (Pid p s k) old.file old.there old.made refl) ∙ old.there;
        made = E.roles (Pid p s k) old.file old.there ∙ old.made;
        written = old.written;
      }))
      h
  judged_far far (Some (Of part n)) moment h = absurd h
  judged_far far None moment h = h

-- what an injector's call leaves
module _ (now : ℕ) (a : List ℕ) (args : Arguments) (soon : InTime now args) (q r : Queue) (m : Option ℕ) (E : Elsewhere now a m q r) (S : NamesSuit q)
    (own : (n : ℕ) → m ≡ Some n → IsOwn q a args n) where
  -- it concerns no closed number
  own_open : (n : ℕ) → IsClosed now q n → m ≢ Some n
  own_open n h is = ⊎_elim
      (λ (nowhere : IsNowhere q n). nowhere (Of Mess n) h.mess h.there (S (Of Mess n) h.mess h.there).0.0)
      (λ (mine : (q.role n ≡ AsMessage a args) × Touches q a args n). untouched now q n h a args soon mine.0 mine.1)
      (own n is)

  own_old : (n : ℕ) → m ≡ Some n → (x : Name) (y : Entry) → look q x ≡ Some y → q.role y.number ≡ AsOld → y.number ≢ n
  own_old n is x y there old same = ⊎_elim
      (λ (nowhere : IsNowhere q n). nowhere x y there same)
      (λ (mine : (q.role n ≡ AsMessage a args) × Touches q a args n). let w = mine.0 in let v = ap q.role same in absurd (cc))
      (own n is)

  pub spares_by : Spares now None q r
  spares_by = record {
    closed = λ n _ h. closed_far now a m q r E S n (own_open n h) h;
    abouts = λ n _ h. about_same now a m q r E n (own_open n h);
  }

  pub spares_names : SparesNames q r
  spares_names = judged_far now a m q r E S own_old
