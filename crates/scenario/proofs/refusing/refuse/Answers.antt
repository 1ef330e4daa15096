use Rattle.std.proofs.Common.{◌++◌, refl, sym, ap, ◌∙◌, subst}
use Rattle.std.specs.Prelude.{codes}
use Rattle.std.proofs.lemmas.Result.{on_ok_weaker}
use Rattle.world_events.specs.declared.answers.WorldError.{WorldError}
use Rattle.scenario.specs.Shown.{line_of}
use Rattle.scenario.specs.Steps.{IsRefusalOf}
use Rattle.scenario.specs.Steps.Refusal.{Unknown, Gone, NotWaiting, Taken, Past, Alive}
use Rattle.scenario.proofs.refusing.refuse.Goals as goal

pub returns-in-Gone : goal.returns-in-Gone
returns-in-Gone c =
    on_ok_weaker c.put_refusal.result
    (λ told. (
      Gone,
      subst (λ (why : WorldError). IsRefusalOf why Gone) (sym c.in-Gone.is) refl,
      told ∙ ap (λ name. c.args.text.now.items ++ (codes "refused " ++ line_of (codes "gone") name)) c.as_slice.ensures,
    ))
    c.put_refusal.ensures

pub returns-in-NotWaiting : goal.returns-in-NotWaiting
returns-in-NotWaiting c =
    on_ok_weaker c.put_refusal-in-NotWaiting.result
    (λ told. (
      NotWaiting,
      subst (λ (why : WorldError). IsRefusalOf why NotWaiting) (sym c.in-NotWaiting.is) refl,
      told ∙ ap (λ name. c.args.text.now.items ++ (codes "refused " ++ line_of (codes "notwaiting") name)) c.as_slice-in-NotWaiting.ensures,
    ))
    c.put_refusal-in-NotWaiting.ensures

pub returns-in-Unknown : goal.returns-in-Unknown
returns-in-Unknown c =
    on_ok_weaker c.put_refusal-in-Unknown.result
    (λ told. (
      Unknown,
      subst (λ (why : WorldError). IsRefusalOf why Unknown) (sym c.in-Unknown.is) refl,
      told ∙ ap (λ name. c.args.text.now.items ++ (codes "refused " ++ line_of (codes "unknown") name)) c.as_slice-in-Unknown.ensures,
    ))
    c.put_refusal-in-Unknown.ensures

pub returns-in-Taken : goal.returns-in-Taken
returns-in-Taken c =
    on_ok_weaker c.put_refusal-in-Taken.result
    (λ told. (
      Taken,
      subst (λ (why : WorldError). IsRefusalOf why Taken) (sym c.in-Taken.is) refl,
      told ∙ ap (λ name. c.args.text.now.items ++ (codes "refused " ++ line_of (codes "taken") name)) c.as_slice-in-Taken.ensures,
    ))
    c.put_refusal-in-Taken.ensures

pub returns-in-Past : goal.returns-in-Past
returns-in-Past c =
    on_ok_weaker c.put_refusal-in-Past.result
    (λ told. (
      Past,
      subst (λ (why : WorldError). IsRefusalOf why Past) (sym c.in-Past.is) refl,
      told ∙ ap (λ name. c.args.text.now.items ++ (codes "refused " ++ line_of (codes "past") name)) c.as_slice-in-Past.ensures,
    ))
    c.put_refusal-in-Past.ensures

pub returns-in-Alive : goal.returns-in-Alive
returns-in-Alive c =
    on_ok_weaker c.put_refusal-in-Alive.result
    (λ told. (
      Alive,
      subst (λ (why : WorldError). IsRefusalOf why Alive) (sym c.in-Alive.is) refl,
      told ∙ ap (λ name. c.args.text.now.items ++ (codes "refused " ++ line_of (codes "alive") name)) c.as_slice-in-Alive.ensures,
    ))
    c.put_refusal-in-Alive.ensures
