use Rattle.std.proofs.Common.{List, ℕ, ◌++◌, sym, ap, ◌∙◌, Vec, Global}
use Rattle.std.specs.List.{concat}
use Rattle.std.proofs.lemmas.List.{append-nil}
use Rattle.maildir_drop.proofs.Cutting.{concat_push}
use Rattle.maildir_drop.proofs.pieces.Cutter.finish.Goals as goal
use Rattle.maildir_drop.proofs.pieces.Cutter.finish.Goals.{then-not-is_empty+in_ok-push, else-not-is_empty}

pub returns : goal.returns
returns c =
    let i = c.self.inside in
    let items : Vec (List ℕ) Global → List (List ℕ) = λ v. v.items in
    elim c.if-not-is_empty.branch [
      | then-not-is_empty+in_ok-push w ↦
          ap (λ v. concat (items v)) w.pieces-is ∙ ap concat w.in_ok-push.ensures.items ∙ concat_push i.full.items i.last ∙ c.self.view_is
      | else-not-is_empty w ↦
          ap (λ v. concat (items v)) w.pieces-is ∙ sym (append-nil (concat i.full.items))
          ∙ ap (λ t. concat i.full.items ++ t) (sym (c.is_empty.ensures.0 w.if-not-is_empty.false)) ∙ c.self.view_is
    ]
