use Rattle.std.proofs.Common.{◌∙◌}
use Rattle.std.proofs.lemmas.Result.{on_ok_weaker}
use Rattle.scenario.specs.Shown.{life_word}
use Rattle.scenario.proofs.EachMail.{mail_put}
use Rattle.scenario.proofs.overview.Overview.put_mail.Goals as goal

pub returns : goal.returns
returns c = λ books heard used.
    on_ok_weaker c.put_fates.result
    (λ put. mail_put c.args.text.now.items c.put_life.new.text.items c.put_fates.new.text.items c.as_slice.result.now c.as_slice-2.result.now c.args.entry.now.actor
    (life_word c.args.entry.now.life) c.deref.result.now _ c.in_ok-put_life.ensures c.as_slice.ensures put c.as_slice-2.ensures
    (c.deref.ensures.value ∙ c.in_ok-fates.ensures books heard used))
    c.put_fates.ensures
