use Rattle.std.proofs.Common.{◌≡◌, ℕ, List, Some, Result, Ok, Err, sym, ap, ◌∙◌, subst, set}
use Rattle.std.specs.Prelude.{OnErr, IfOk}
use Rattle.call_fs.specs.declared.past.ChildData.{ChildData}
use Rattle.call_fs.specs.declared.past.GotData.TheVariants as got
use Rattle.call_fs.specs.declared.past.NeedData.{NeedData}
use Rattle.call_fs.specs.declared.past.NeedData.TheVariants as needs
use Rattle.world_pipes.specs.Commands.{command_exits}
use Rattle.world_pipes.specs.Exchanges.{Exchanges, HasSlotFor, HasStarted, HasExchanged, HasTakenBy, HasGivenTo, GivesNoActor, SuitsPlace, leads}
use Rattle.world_pipes.proofs.Feeds.{stands_at, same_at, as_before, taken_by, started_by, give_exchanges, command_exchanges, slot_for}
use Rattle.world_pipes.proofs.feeding.exchange.Goals as goal

err_is : {T E P : Type 0} (r : Result T E) → P → OnErr r P
err_is (Ok x) p = tt
err_is (Err e) p = p

pub returns-in_err-give-in-Give-clause-err : goal.returns-in_err-give-in-Give-clause-err
returns-in_err-give-in-Give-clause-err c =
    err_is c.from_residual.result (same_at c.args.mouths.now.items c.give.new.mouths.items (leads c.args.mouths.now.items c.args.at c.args.slot c.args.actor.now c.in-Give.port) c.in_err-give-in-Give.ensures.err)

pub start-requires : goal.start-requires
start-requires c =
    let mouths = c.args.mouths.now.items in
    let m = c.index_mut-in-Start.result.now in
    subst (HasSlotFor m) (sym c.get.ensures) (slot_for c.args.at m c.in-Start.asked (subst (SuitsPlace c.args.at) c.in-Start.is c.requires.suits)
    (c.requires.slots c.args.at m (stands_at mouths c.args.at m c.requires.at c.index_mut-in-Start.ensures.value)))

if_ok : {T E : Type 0} (P Q : T → Type 0) (r : Result T E) → ((x : T) → P x → Q x) → IfOk r P → IfOk r Q
if_ok P Q (Ok x) f h = f x h
if_ok P Q (Err e) f h = tt

on_err : {T E P Q : Type 0} (r : Result T E) → (P → Q) → OnErr r P → OnErr r Q
on_err (Ok x) f h = tt
on_err (Err e) f h = f h

pub returns-in-Take : goal.returns-in-Take
returns-in-Take c =
    let mouths = c.args.mouths.now.items in
    let a = c.args.actor.now in
    let m = c.index_mut.result.now in
    let n = c.take.new.mouths in
    let is = stands_at mouths c.args.at m c.requires.at c.index_mut.ensures.value in
    record {
      done = if_ok (λ came. HasTakenBy m n c.in-Take.port c.args.most came) (λ came. HasExchanged (Some c.args.at) c.args.slot mouths (set mouths c.args.at n) c.args.pid c.args.most a c.args.due.now came)
          c.take.result
          (λ came took. subst (λ (due : NeedData). HasExchanged (Some c.args.at) c.args.slot mouths (set mouths c.args.at n) c.args.pid c.args.most a due came) (sym c.in-Take.is)
          (taken_by mouths a c.args.slot c.args.at m n is c.in-Take.port c.args.pid c.args.most came (subst (SuitsPlace c.args.at) c.in-Take.is c.requires.suits) took))
          c.take.ensures.done;
      err = on_err c.take.result (as_before mouths c.args.at m n is) c.take.ensures.err;
    }

pub returns-in_ok-give-in-Give-clause-done : goal.returns-in_ok-give-in-Give-clause-done
returns-in_ok-give-in-Give-clause-done c =
    let mouths = c.args.mouths.now.items in
    let a = c.args.actor.now in
    let gave = subst (λ (bytes : List ℕ). HasGivenTo (leads mouths c.args.at c.args.slot a c.in-Give.port) bytes mouths c.give.new.mouths.items) c.as_slice.ensures c.in_ok-give-in-Give.ensures.done in
    subst (λ (due : NeedData). Exchanges (Some c.args.at) c.args.slot mouths c.give.new.mouths.items c.args.pid c.args.most a due got.Gave) (sym c.in-Give.is)
    (give_exchanges mouths c.give.new.mouths.items a c.args.slot c.args.at c.in-Give.port c.in-Give.bytes c.args.pid c.args.most
    (subst (λ (due : NeedData). GivesNoActor mouths c.args.at due) c.in-Give.is c.requires.alone) gave)

pub returns-in-Start-clause-done : goal.returns-in-Start-clause-done
returns-in-Start-clause-done c =
    let mouths = c.args.mouths.now.items in
    let a = c.args.actor.now in
    let m = c.index_mut-in-Start.result.now in
    let n = c.start.new.mouths in
    let is = stands_at mouths c.args.at m c.requires.at c.index_mut-in-Start.ensures.value in
    subst (λ (due : NeedData). Exchanges (Some c.args.at) c.args.slot mouths (set mouths c.args.at n) c.args.pid c.args.most a due c.start.result) (sym c.in-Start.is)
    (started_by mouths a c.args.slot c.args.at m n is c.in-Start.asked c.args.pid c.args.most c.start.result (subst (SuitsPlace c.args.at) c.in-Start.is c.requires.suits)
    (subst (λ (asked : ChildData). HasStarted m n c.args.pid asked c.start.result) c.get.ensures c.start.ensures))

pub returns-in-Command-clause-done : goal.returns-in-Command-clause-done
returns-in-Command-clause-done c =
    let mouths = c.args.mouths.now.items in
    let a = c.args.actor.now in
    let says : command_exits c.in-Command.command ≡ c.command_exits.result = sym (c.command_exits.ensures ∙ ap command_exits c.as_slice-in-Command.ensures) in
    subst (λ (due : NeedData). Exchanges (Some c.args.at) c.args.slot mouths mouths c.args.pid c.args.most a due (got.Ended c.command_exits.result)) (sym c.in-Command.is)
    (subst (λ (status : ℕ). Exchanges (Some c.args.at) c.args.slot mouths mouths c.args.pid c.args.most a (needs.Command c.in-Command.command) (got.Ended status)) says
    (command_exchanges mouths a c.args.slot c.args.at c.args.pid c.args.most c.in-Command.command))
