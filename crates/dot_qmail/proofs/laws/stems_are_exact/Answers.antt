use Rattle.std.proofs.lemmas.List.Elements.{All-from_recursion}
use Rattle.dot_qmail.specs.Choice.{IsStem, stems}
use Rattle.dot_qmail.proofs.Stems.{stems_sound, stems_by_length}
use Rattle.dot_qmail.proofs.laws.stems_are_exact.Goals as goal

pub returns : goal.returns
returns c = record { sound = λ ext. All-from_recursion (IsStem ext) (stems ext) (stems_sound ext); complete = stems_by_length }
