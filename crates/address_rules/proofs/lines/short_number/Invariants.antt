use Rattle.std.proofs.Common.{◌≡◌, ◌<◌, ◌^◌, take, true}
use Rattle.std.specs.List.{list_all}
use Rattle.std.specs.Char.{is_ascii_digit}
use Rattle.mail_bytes.specs.Decimal.{value}
use Rattle.address_rules.proofs.lines.short_number.Given as goal

abbrev pub invariant-loop-byte : goal.invariant-loop-byte
invariant-loop-byte l = record {
  number : l.number ≡ value (take l.byte-index l.text);
  small : l.number < 10 ^ l.byte-index;
  only : list_all is_ascii_digit (take l.byte-index l.text) ≡ true;
}
