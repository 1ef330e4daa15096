use Rattle.std.proofs.Common.{length}
use Rattle.mail_bytes.specs.Netstring.{head}
use Rattle.fed_injector.proofs.Cutting.{has_head, told_rest, too_short, has_comma, cut_text, cut_fits, rest_of}
use Rattle.fed_injector.proofs.texts.netstring_of.Goals as goal

pub returns-in_default : goal.returns-in_default
returns-in_default c = record {
  text = tt;
  fits = tt;
  none = λ e text rest fits is. c.in_default.not-Len (length text) (length (head (length text)))
      ((c.net_head.ensures.len (length text) (length (head (length text)))).1 (has_head c.args.bytes.now text rest fits is));
}

pub returns-then-value-rest-clause-none : goal.returns-then-value-rest-clause-none
returns-then-value-rest-clause-none c = λ e text rest fits is.
    let told = told_rest c.net_head.result c.args.bytes.now text rest c.in-Len.value c.in-Len.used c.in-Len.is c.net_head.ensures.len fits is in
    too_short (rest_of c.args.bytes.now c.in-Len.used) text rest c.in-Len.value told.0 told.1 c.if-value-rest.true

pub returns-then-rest-len-ne44-clause-none : goal.returns-then-rest-len-ne44-clause-none
returns-then-rest-len-ne44-clause-none c = λ e text rest fits is.
    let told = told_rest c.net_head.result c.args.bytes.now text rest c.in-Len.value c.in-Len.used c.in-Len.is c.net_head.ensures.len fits is in
    c.if-rest-len-ne44.true (has_comma (rest_of c.args.bytes.now c.in-Len.used) text rest c.in-Len.value told.0 told.1)

pub returns-clause-text : goal.returns-clause-text
returns-clause-text c =
    cut_text c.args.bytes.now c.in-Len.value c.in-Len.used ((c.net_head.ensures.len c.in-Len.value c.in-Len.used).0 c.in-Len.is) c.if-value-rest.false c.if-rest-len-ne44.false

pub returns-clause-fits : goal.returns-clause-fits
returns-clause-fits c = cut_fits c.args.bytes.now c.in-Len.value c.in-Len.used ((c.net_head.ensures.len c.in-Len.value c.in-Len.used).0 c.in-Len.is)
