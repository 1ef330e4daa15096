use Rattle.scenario.proofs.fates.fates_by.Goals as goal

pub returns : goal.returns
returns c = λ d now present h history mails. (c.in_ok-fates.ensures d now present h history mails).fates
