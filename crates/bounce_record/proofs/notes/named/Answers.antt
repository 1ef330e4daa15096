use Rattle.std.proofs.Common.{◌∷◌, [], Some}
use Rattle.std.proofs.lemmas.Bool.Decides.{Decides-eqb}
use Rattle.std.proofs.lemmas.Slice.Eq.{strip_prefix_is, strip_suffix_is}
use Rattle.bounce_record.proofs.Naming.{named_by}
use Rattle.bounce_record.proofs.notes.named.Goals as goal

pub returns : goal.returns
returns c =
    let line = c.args.line.now in
    let rest = c.in_ok-strip_prefix.field-0.now in
    named_by line rest c.strip_suffix.result
    (strip_prefix_is Decides-eqb line (60 ∷ []) (Some c.in_ok-strip_prefix.field-0) c.in_ok-strip_prefix.ensures.cases)
    (strip_suffix_is Decides-eqb rest (62 ∷ 58 ∷ []) c.strip_suffix.result c.strip_suffix.ensures.cases)
