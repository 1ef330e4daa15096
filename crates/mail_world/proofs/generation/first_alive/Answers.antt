use Rattle.std.proofs.Common.{◌≡◌, ℕ, suc, false, Option, Some, None, length, refl, sym, ap, ◌∙◌, arith}
use Rattle.std.specs.Prelude.{take, drop, not, is_some}
use Rattle.std.specs.List.{slice_get}
use Rattle.std.proofs.lemmas.Option.{slice_get_read}
use Rattle.mail_world.proofs.Lists.{split_at}
use Rattle.mail_world.proofs.generation.first_alive.Goals as goal

lasting : (o : Option ℕ) → is_some o ≡ false → o ≡ None
lasting None is = refl
lasting (Some at) is = absurd cc

pub returns-then-is_none : goal.returns-then-is_none
returns-then-is_none c =
    let crew = c.args.crew.now in
    let at = c.loop-actor.actor-index in
    let x = c.actor-item.result in
    let here : slice_get crew at ≡ Some x = slice_get_read crew (length crew) at x (omega arith) c.loop-actor-test.true c.actor-item.is in (
      take at crew,
      x,
      drop (suc at) crew,
      split_at crew at x here,
      lasting x.ended (c.is_none.ensures ∙ ap not c.if-is_none.true),
      sym c.copy.ensures,
      c.loop-actor.invariant,
    )
