use Rattle.clap.specs.Words.{found_of}
use Rattle.command_words.proofs.Parses.{both_told, count_lacked, seed_lacked}
use Rattle.command_words.proofs.maker.maker_told.Goals as goal

pub returns-in_default-clause-usage : goal.returns-in_default-clause-usage
returns-in_default-clause-usage c = λ usage. seed_lacked (found_of c.args.matches.now) _ _ c.get_str.ensures c.number_below.ensures c.in_default.is

pub returns-in_default-number_below-clause-usage : goal.returns-in_default-number_below-clause-usage
returns-in_default-number_below-clause-usage c = λ usage.
    count_lacked (found_of c.args.matches.now) _ _ c.get_str-2.ensures c.number_below-2.ensures c.in_default-number_below.is

pub returns-clause-ok : goal.returns-clause-ok
returns-clause-ok c =
    both_told (found_of c.args.matches.now) _ _ _ _ _ _ c.get_str.ensures c.number_below.ensures c.in-Some.is c.get_str-2.ensures c.number_below-2.ensures c.in-Some-number_below.is
