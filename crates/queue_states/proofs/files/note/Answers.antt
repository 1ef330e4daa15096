use Rattle.std.proofs.Common.{sym, ◌∙◌}
use Rattle.std.proofs.lemmas.Result.{on_ok_weaker}
use Rattle.queue_states.proofs.Gathered.{noted_one}
use Rattle.queue_states.proofs.files.note.Goals as goal

pub returns : goal.returns
returns c =
    on_ok_weaker c.put.result
    (λ puts. noted_one _ c.in-Some.number c.files_of-files.result c.with.result c.args.found.now c.put.new.found (sym c.number_of.ensures ∙ c.in-Some.is) c.files_of-files.ensures c.with.ensures puts)
    c.put.ensures
