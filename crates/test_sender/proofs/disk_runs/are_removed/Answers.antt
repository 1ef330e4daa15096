use Rattle.test_sender.proofs.disk_runs.are_removed.Goals as goal

pub returns : goal.returns
returns g c = λ h backs. c.is_removed_if.ensures h (c.is_removed.ensures h backs)
