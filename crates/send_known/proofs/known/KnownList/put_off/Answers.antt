use Rattle.send_known.proofs.known.KnownList.put_off.Goals as goal

pub invariant_of-self : goal.invariant_of-self
invariant_of-self c = c.put_off.ensures.kept c.self.inside.done.items c.self.inside.listed c.self.invariant
