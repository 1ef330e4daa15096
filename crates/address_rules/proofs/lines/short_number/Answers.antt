use Rattle.std.proofs.Common.{◌≡◌, ◌-◌, ◌<◌, ◌≤◌, ◌&&◌, get_or, length, take, sym, ap, subst, refl, ◌∙◌, true, Some, arith}
use Rattle.std.specs.List.{list_all}
use Rattle.std.specs.Char.{is_ascii_digit}
use Rattle.std.proofs.lemmas.List.{take_all}
use Rattle.std.proofs.lemmas.List.Folds.{list_all_more}
use Rattle.mail_bytes.specs.Decimal.{value}
use Rattle.mail_bytes.proofs.Digits.{value_none, value_more}
use Rattle.address_rules.proofs.LineLemmas.{number_fits, number_more, short_is}
use Rattle.address_rules.proofs.lines.short_number.Goals as goal

pub loop-byte-init : goal.loop-byte-init
loop-byte-init c = record { number = sym value_none; small = omega arith; only = refl }

pub overflow_mul-number : goal.overflow_mul-number
overflow_mul-number c = let fits = number_fits c.loop-byte.byte-index c.loop-byte.number (omega arith) c.loop-byte.invariant.small in omega arith

pub overflow_add-number : goal.overflow_add-number
overflow_add-number c =
    let digit : get_or c.args.text.now c.loop-byte.byte-index 0 - 48 ≤ 9 = grind arith in
    let fits = number_fits c.loop-byte.byte-index c.loop-byte.number (omega arith) c.loop-byte.invariant.small in
    omega (arith, c.from.ensures)

pub loop-byte-preserved : goal.loop-byte-preserved
loop-byte-preserved c =
    let more = value_more c.args.text.now c.loop-byte.byte-index c.loop-byte-test.true in
    let digit : get_or c.args.text.now c.loop-byte.byte-index 0 - 48 ≤ 9 = grind arith in
    record {
      number = grind arith;
      small = number_more c.loop-byte.byte-index c.loop-byte.number c.from.result (omega (arith, c.from.ensures)) c.loop-byte.invariant.small;
      only =
          list_all_more is_ascii_digit c.args.text.now c.loop-byte.byte-index 0 c.loop-byte-test.true
          ∙ ap (λ t. t && is_ascii_digit (get_or c.args.text.now c.loop-byte.byte-index 0)) c.loop-byte.invariant.only
          ∙ sym c.is_ascii_digit.ensures.value
          ∙ c.if-not-is_ascii_digit.false;
    }

pub returns : goal.returns
returns c =
    let whole : take c.loop-byte.byte-index c.args.text.now ≡ c.args.text.now = take_all c.loop-byte.byte-index c.args.text.now (omega arith) in
    let only = subst (λ t. list_all is_ascii_digit t ≡ true) whole c.loop-byte.invariant.only in
    let some : 0 < length c.args.text.now = grind arith in
    sym (short_is c.args.text.now some (omega arith) only ∙ ap (λ n. Some n) (sym (c.loop-byte.invariant.number ∙ ap value whole)))
