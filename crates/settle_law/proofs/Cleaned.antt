-- What a cleaner answers where nothing fails.
use Rattle.std.proofs.Common.{◌≡◌, ◌⊎◌, inl, inr, ⊎_elim, List, [], ◌∷◌, true, sym, ap, ◌∙◌, subst, codes}
use Rattle.std.specs.List.{list_all}
use Rattle.std.proofs.lemmas.Bool.{and_parts, false≢true}
use Rattle.call_fs.specs.Past.{IsRunBy}
use Rattle.call_fs.specs.declared.past.Own.{Own}
use Rattle.queue_clean.specs.Causes.{EndsInFault}
use Rattle.queue_clean.proofs.Reasons.{answers}
use Rattle.world_events.specs.declared.event.Program.{Program}
use Rattle.mail_world.specs.History.{next_of}
use Rattle.world_law.proofs.Ran.{have_run}
use Rattle.settle_law.specs.inside.Cleaned.{CleanersAnswerWell}
use Rattle.settle_law.specs.Well.{came_well, is_well_answered}
use Rattle.settle_law.proofs.SmallNumbers.{is_well, pasts_well, went_well}

-- no unlink failed
no_fault : (past : List Own) → list_all is_well past ≡ true → EndsInFault past → ⊥
no_fault [] well ends = ends
no_fault (own ∷ past) well ends =
    let came : came_well own.came ≡ true = went_well own (and_parts (is_well own) (list_all is_well past) well).0 in
    let told : is_well_answered ends.told.answer ≡ true = sym (ap came_well ends.came) ∙ came in
    false≢true (sym (ap is_well_answered ends.holds.2) ∙ told)

pub cleaners_answer_well : CleanersAnswerWell
cleaners_answer_well d h legal well a x is began program now ready port bytes due =
    let g = answers tt x.past now ready port bytes (subst (λ (p : Program). IsRunBy (next_of p) x.past) program (have_run d h legal a x is)) due in
    ⊎_elim
    (λ (plus : bytes ≡ codes "+"). inl plus)
    (λ (other : (bytes ≡ codes "!") ⊎ (bytes ≡ codes "x")). ⊎_elim
    (λ (failed : bytes ≡ codes "!"). absurd (no_fault x.past (pasts_well d h legal well a x is) (g.failed.0 failed)))
    (λ (unknown : bytes ≡ codes "x"). inr (record { text = g.text; taken_up = g.command; no_command = g.unknown.0 unknown; answer = unknown }))
    other)
    g.known
