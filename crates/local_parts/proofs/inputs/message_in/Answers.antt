use Rattle.std.proofs.Common.{sym, ap, ◌∙◌}
use Rattle.local_parts.specs.inside.Heads.{head_of}
use Rattle.local_parts.proofs.Heads.{has_head, no_head}
use Rattle.local_parts.proofs.inputs.message_in.Goals as goal

pub message_after-requires : goal.message_after-requires
message_after-requires c =
    let input = c.args.input.now in
    (has_head input c.in-Some.head (ap head_of (sym c.in_ok-front.ensures ∙ sym c.as_slice.ensures) ∙ sym c.head_of.ensures ∙ c.in-Some.is)).within

pub returns-in-Some : goal.returns-in-Some
returns-in-Some c =
    let input = c.args.input.now in
    c.in_ok-message-in-Some.ensures ∙ sym (has_head input c.in-Some.head (ap head_of (sym c.in_ok-front.ensures ∙ sym c.as_slice.ensures) ∙ sym c.head_of.ensures ∙ c.in-Some.is)).is

pub returns : goal.returns
returns c =
    let input = c.args.input.now in
    sym (no_head input (ap head_of (sym c.in_ok-front.ensures ∙ sym c.as_slice.ensures) ∙ sym c.head_of.ensures ∙ c.in-None.is))
