-- What turns tell stays told.
use Rattle.std.proofs.Common.{◌≡◌, ℕ, List, [], ◌∷◌, ◌++◌, Result, Ok, sym, ap, ◌∙◌, append_assoc}
use Rattle.yard_lock.specs.Turns.{turn, IsPrefix, Took}
use Rattle.world_events.specs.declared.answers.Did.{Did}
use Rattle.world_events.specs.declared.answers.WorldError.{WorldError}
use Rattle.actor_runner.specs.Turns.{Answer, Asking, IsLast, IsOver}

pub over_longer : (a : List ℕ) (xs ys : List Asking) → IsPrefix xs ys → IsOver a xs → IsOver a ys
over_longer a xs ys b o = record {
  by = o.by;
  told = o.told;
  last = o.last;
  before = o.before;
  later = o.later ++ b.0;
  among = sym b.1 ∙ (ap (λ l. l ++ b.0) o.among ∙ append_assoc o.before (turn o.by a (Ok o.told) ∷ o.later) b.0);
}

module _ {Y : Type 0} (moves : Y → List ℕ → Answer → Y → Type 0) (old : Y) (k : ℕ) (a : List ℕ) where
  pub took_prefix : (r : Answer) (xs ys : List Asking) → Took moves old k (turn k a r) xs ys → IsPrefix xs ys
  took_prefix r xs ys t = (t.between ++ turn k a r ∷ [], sym (append_assoc xs t.between (turn k a r ∷ [])) ∙ sym t.seen)

  pub took_over : (told : Result Did WorldError) (xs ys : List Asking) → IsLast told → Took moves old k (turn k a (Ok told)) xs ys → IsOver a ys
  took_over told xs ys last t = record { by = k; told = told; last = last; before = xs ++ t.between; later = []; among = t.seen }
