use Rattle.std.proofs.Common.{◌≡◌, true, false, sym, subst}
use Rattle.queue_inject.specs.Table.{has_input}
use Rattle.fed_injector.specs.declared.machine.FedInjector.{FedInjector}
use Rattle.fed_injector.specs.Inputs.{FedStands, awaits}
use Rattle.fed_injector.proofs.Standing.{looked, fed_given, fed_cut}
use Rattle.fed_injector.proofs.machine.FedInjectorMachine.look.Goals as goal
use Rattle.fed_injector.proofs.machine.FedInjectorMachine.look.Goals.{then-ready-offset0+in-Given, then-ready-offset0+in-Cut, else-ready-offset0}

pub returns-clause-stands : goal.returns-clause-stands
returns-clause-stands c = λ args past f.
    let so = λ (g : FedInjector). FedStands g args past × (awaits g ≡ true → has_input c.args.ready ≡ false) in
    let is : so c.if-ready-offset0.self =
    elim c.if-ready-offset0.branch [
      | then-ready-offset0+in-Given w ↦ subst so (sym w.self-is) (fed_given c.args.self.now w.feed.new.injector c.args.ready w.in-Given.message w.in-Given.envelope
          w.as_slice.result.now w.as_slice-in-Given.result.now w.in-Given.is w.as_slice.ensures w.as_slice-in-Given.ensures w.feed.ensures.stands args past f)
      | then-ready-offset0+in-Cut w ↦ subst so (sym w.self-is) (fed_cut c.args.self.now w.cut.new.injector c.args.ready w.in-Cut.is w.cut.ensures.stands args past f)
      | else-ready-offset0 w ↦ subst so (sym w.self-is) (f, c.requires.given)
    ] in
    looked c.if-ready-offset0.self c.look.new.self c.args.now c.args.ready c.look.ensures.stands c.look.ensures.rest is.1 args past is.0
