-- A step of a program that is none of the queue's.
use Rattle.std.proofs.Common.{◌≡◌, ℕ, List, true, Some, None, sym, ap, ◌∙◌, subst}
use Rattle.call_fs.specs.Disk.{Among}
use Rattle.queue_paths.specs.Names.{Name, path}
use Rattle.queue_paths.specs.Names.Name.{Of}
use Rattle.queue_paths.proofs.Parts.{todo_same}
use Rattle.queue_law.specs.Books.{Injection, Books, IsInjected}
use Rattle.queue_law.specs.Numbers.{Entry, Queue, look, about, IsRight, Phase, NoneLost, Sound, IsEarly}
use Rattle.queue_law.proofs.Frame.{still_there}
use Rattle.queue_law.specs.Steps.{Elsewhere, Foreign, ForeignersKeep}
use Rattle.queue_law.proofs.Looks.{find_same, found}

module _ (a : List ℕ) (q r : Queue) (F : Foreign a q r) where
  same : (x : Name) → look r x ≡ look q x
  same x = find_same q.disk.names r.disk.names q.disk.files r.disk.files x (F.names x) (F.files x)

  kept : (x : Name) (y : Entry) → look q x ≡ Some y → r.role y.number ≡ q.role y.number
  kept x y h = F.role (path x) y.number (found q.disk.names q.disk.files x y h).0

  pub foreign_about : (n : ℕ) → about r n ≡ about q n
  foreign_about n = λ i. record { parts = λ part. same (Of part n) i; living = (F.books i).living n }

  pub foreign_sound : Sound q → Sound r
  foreign_sound G = record {
    suits = λ x y h. let was = sym (same x) ∙ h in subst (IsRight x y) (sym (kept x y was)) (G.suits x y was);
    fine = λ n. subst Phase (sym (foreign_about n)) (G.fine n);
    over = subst (NoneLost) (sym F.books) G.over;
  }

  pub foreign_elsewhere : (now : ℕ) → Elsewhere now a None q r
  foreign_elsewhere now = record {
    looks = λ x _. same x;
    living = λ n _. ap (λ (b : Books). b.living n) F.books;
    opens = F.opens;
    roles = kept;
    apart = λ _ _ _ _ _ _ _ _ _ h. absurd (cc);
    accepted = λ i h _. still_there r.books i (subst (λ (b : Books). IsInjected b i) (sym F.books) h);
  }

  pub foreign_early : IsEarly q → IsEarly r
  foreign_early e = record {
    unsorted = λ n part later. same (Of part n) ∙ e.unsorted n part later;
    waits = λ n i lives t none. e.waits n i (subst (λ (b : Books). b.living n ≡ Some i) F.books lives) t (sym (todo_same (about q n).parts (about r n).parts (λ part is. same (Of part n))) ∙ none);
    none_over = subst (λ (b : Books). (i : Injection) → Among i b.over → i.accepted ≡ true → ⊥) (sym F.books) e.none_over;
  }

pub foreigners_keep : ForeignersKeep
foreigners_keep = record {
  sound = λ a q r F. foreign_sound a q r F;
  elsewhere = λ now a q r F. foreign_elsewhere a q r F now;
  abouts = foreign_about;
  early = foreign_early;
}
