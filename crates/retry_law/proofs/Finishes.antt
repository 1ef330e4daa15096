-- Known messages may be finished at once as long as no finish fails.
use Rattle.std.proofs.Common.{◌≡◌, ℕ, List, [], ◌∷◌, Bool, true, false, refl, ap, ◌∙◌}
use Rattle.std.proofs.lemmas.List.Elements.{All-contains}
use Rattle.call_fs.specs.declared.past.Own.{Own}
use Rattle.retry_law.proofs.KnownNow.{known_now, was_known}
use Rattle.retry_law.specs.Finishes.{AreUnfailing, FinishesAtOnce}
use Rattle.send_core.specs.Births.{births}
use Rattle.send_core.specs.Table.{place_after}
use Rattle.send_known.specs.declared.known.Known.{Known}
use Rattle.send_runs.proofs.FinishMoments.{finishes_are_of_past}
use Rattle.send_runs.specs.FinishMoments.{fails_by, finish_by, finish_in, has_misread, has_searched, returning}
use Rattle.send_runs.specs.Knowing.{known_by, known_in}

finish_none : (n : ℕ) (past : List Own) → AreUnfailing n past → known_in past n ≡ true → finish_in n past ≡ 0
finish_none n [] well known = refl
finish_none n (event ∷ before) well known = by (known_by event.due event.came (births before).command n false) refl (finish_none n before well.0) where
  fails : Bool
  fails = fails_by n (returning before) (has_searched before) (has_misread before) event.due event.came

  by : (b : Bool) → known_by event.due event.came (births before).command n false ≡ b → (known_in before n ≡ true → finish_in n before ≡ 0) → finish_by b fails event.read (finish_in n before) ≡ 0
  by true e rest = refl
  by false e rest =
      let was : known_in before n ≡ true = was_known event before n known e in
      ap (λ (x : Bool). finish_by false x event.read (finish_in n before)) (well.1 was) ∙ rest was

pub finishes_at_once : FinishesAtOnce
finishes_at_once turns past run k there well =
    All-contains (λ (x : Known). x.finish_at ≡ finish_in x.n past) (place_after turns past).book.messages.known k (finishes_are_of_past turns past run) there
    ∙ finish_none k.n past well (known_now turns past run k there)
