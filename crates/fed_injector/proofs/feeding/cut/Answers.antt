use Rattle.fed_injector.proofs.Pieces.{text_cut}
use Rattle.fed_injector.proofs.feeding.cut.Goals as goal

pub returns-clause-stands : goal.returns-clause-stands
returns-clause-stands c = λ args past is s. c.fail_input.ensures.stands args past s (text_cut c.args.injector.now args past s is)
