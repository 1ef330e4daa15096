use Rattle.command_words.proofs.threads.threads_in.Goals as goal

pub returns-in-Work : goal.returns-in-Work
returns-in-Work c = λ n. (λ is. let told = c.in-Work.is in cc, λ is. let told = c.in-Work.is in cc)

pub returns-in_default : goal.returns-in_default
returns-in_default c = λ n. (λ is. absurd (cc), λ is. absurd (c.in_default.not-Work n is))
