use Rattle.std.proofs.lemmas.Bool.Decides.{Decides-and, Decides-eqb, Decides-like}
use Rattle.script_fates.proofs.Same.{parts_same, same_parts}
use Rattle.script_fates.proofs.copying.are_same.Goals as goal

pub returns : goal.returns
returns c =
    let a = c.args.one.now in
    let b = c.args.other.now in
    Decides-like _ (same_parts a b) (parts_same a b)
    (Decides-and _ _
    (Decides-and _ _
    (Decides-and _ _
    (Decides-and _ _
    (Decides-and _ _
    (Decides-and _ _
    (Decides-and _ _
    (Decides-and _ _
    (Decides-and _ _
    (Decides-and _ _
    (Decides-and _ _ c.is_same.ensures c.are_same_texts.ensures)
    c.are_same_texts-2.ensures)
    c.are_same_lines.ensures)
    c.is_same-2.ensures)
    c.is_same-3.ensures)
    c.is_same-4.ensures)
    c.is_same-5.ensures)
    c.is_same-6.ensures)
    (Decides-eqb a.concurrency_local b.concurrency_local))
    (Decides-eqb a.concurrency_remote b.concurrency_remote))
    (Decides-eqb a.queue_lifetime b.queue_lifetime))
