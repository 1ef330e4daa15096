use Rattle.mail_world.proofs.generation.machine_of.Goals as goal

pub returns-in-Cleaner : goal.returns-in-Cleaner
returns-in-Cleaner c = rw (c.in-Cleaner.is, c.in_ok-cleaner-in-Cleaner.ensures) (λ start. c.new-in-Cleaner.ensures tt)

pub returns-in-LocalSpawner : goal.returns-in-LocalSpawner
returns-in-LocalSpawner c = rw (c.in-LocalSpawner.is, c.in_ok-spawner-in-LocalSpawner.ensures) (λ start. c.in_ok-new-in-LocalSpawner.ensures tt)

pub returns-in-RemoteSpawner : goal.returns-in-RemoteSpawner
returns-in-RemoteSpawner c = rw (c.in-RemoteSpawner.is, c.in_ok-spawner-in-RemoteSpawner.ensures) (λ start. c.in_ok-new-in-RemoteSpawner.ensures tt)
