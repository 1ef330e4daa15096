use Rattle.clap.specs.Words.{found_of}
use Rattle.command_words.proofs.Parses.{all_told, turns_lacked, words_lacked}
use Rattle.command_words.proofs.sender.sender_told.Goals as goal

pub returns-in_default-clause-usage : goal.returns-in_default-clause-usage
returns-in_default-clause-usage c = λ usage. turns_lacked (found_of c.args.matches.now) _ _ c.get_str.ensures c.turns_of.ensures c.in_default.is

pub returns-in-Ok-clause-ok : goal.returns-in-Ok-clause-ok
returns-in-Ok-clause-ok c = all_told (found_of c.args.matches.now) _ _ _ _ c.get_str.ensures c.turns_of.ensures c.in-Some.is c.in-Ok.ensures.ok

pub returns-in-Err-clause-usage : goal.returns-in-Err-clause-usage
returns-in-Err-clause-usage c = λ usage. words_lacked (found_of c.args.matches.now) _ c.get_str.ensures (c.in-Err.ensures.usage (cc))
