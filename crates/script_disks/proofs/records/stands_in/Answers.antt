use Rattle.std.proofs.Common.{◌∙◌, ap, bytes_eq, drop, length, take}
use Rattle.std.proofs.Math.Nat.{min_comm}
use Rattle.std.proofs.lemmas.Cmp.{nat_list_eq_equiv}
use Rattle.std.proofs.lemmas.List.{drop_min, take_rest}
use Rattle.script_disks.proofs.records.stands_in.Goals as goal

pub returns : goal.returns
returns c =
    let bytes = c.args.bytes.now in
    let text = c.args.text.now in
    c.starts_with.ensures.value
    ∙ ap (λ t. bytes_eq text (take (length text) t))
    (take_rest bytes c.min-from.result ∙ ap (λ k. drop k bytes) (c.min-from.ensures ∙ min_comm (length bytes) c.args.place) ∙ drop_min c.args.place bytes)
    ∙ nat_list_eq_equiv.symm text (take (length text) (drop c.args.place bytes))
