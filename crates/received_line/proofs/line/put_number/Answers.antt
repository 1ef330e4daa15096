use Rattle.std.proofs.Common.{◌≡◌, ◌++◌, List, ℕ, ◌∙◌, arith, subst}
use Rattle.std.specs.Prelude.{OnOk}
use Rattle.mail_bytes.proofs.Digits.{decimal-digits}
use Rattle.received_line.proofs.DateTexts.{on_ok_items}
use Rattle.received_line.proofs.line.put_number.Goals as goal

pub returns : goal.returns
returns c =
    let written = c.as_bytes.ensures.value ∙ c.format.ensures.text ∙ decimal-digits c.args.number (omega arith) in
    subst (λ (t : List ℕ). OnOk c.extend_from_slice.result (c.extend_from_slice.new.self.items ≡ c.args.text.now.items ++ t)) written
    (on_ok_items c.extend_from_slice.result c.extend_from_slice.new.self.items c.args.text.now.items c.as_bytes.result.now c.extend_from_slice.ensures.items)
