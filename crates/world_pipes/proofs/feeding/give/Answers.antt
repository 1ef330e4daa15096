use Rattle.std.proofs.Common.{ℕ, List, Option, Result, Ok, Err, refl, sym, ap, ◌∙◌, subst, arith}
use Rattle.std.specs.Prelude.{OnErr, set}
use Rattle.std.proofs.lemmas.Option.{slice_get_within}
use Rattle.call_fs.specs.declared.program.Port.{Port}
use Rattle.world_pipes.specs.declared.mouths.Mouths.{Mouths}
use Rattle.world_pipes.specs.Exchanges.{HasGivenTo, IsSameAt, leads}
use Rattle.world_pipes.proofs.Feeds.{leads_place, read_place, given_after}
use Rattle.world_pipes.proofs.feeding.give.Goals as goal

err_is : {T E P : Type 0} (r : Result T E) → P → OnErr r P
err_is (Ok x) p = tt
err_is (Err e) p = p

pub index_mut-mouths-requires : goal.index_mut-mouths-requires
index_mut-mouths-requires c =
    let mouths = c.args.mouths.now.items in
    let to : ℕ × Port = (c.in-Some.to, c.in-Some.port) in
    let leads_to = sym (ap (λ (l : List Mouths). leads l c.args.at c.args.slot c.args.actor.now c.args.port) c.deref.ensures.value) ∙ (sym c.leads.ensures ∙ c.in-Some.is) in
    let place = leads_place mouths c.args.at c.args.slot c.args.actor.now c.args.port to c.requires.many leads_to in
    let within = slice_get_within mouths c.in-Some.to place.0 place.1 in omega (arith, within, c.args.mouths.now.ok.0)

pub make_room-requires : goal.make_room-requires
make_room-requires c =
    let mouths = c.args.mouths.now.items in
    let to : ℕ × Port = (c.in-Some.to, c.in-Some.port) in
    let m = c.index_mut-mouths.result.now in
    let leads_to = sym (ap (λ (l : List Mouths). leads l c.args.at c.args.slot c.args.actor.now c.args.port) c.deref.ensures.value) ∙ (sym c.leads.ensures ∙ c.in-Some.is) in
    (read_place mouths to m (leads_place mouths c.args.at c.args.slot c.args.actor.now c.args.port to c.requires.many leads_to) c.index_mut-mouths.ensures.value).1

pub returns-in_err-make_room-clause-err : goal.returns-in_err-make_room-clause-err
returns-in_err-make_room-clause-err c =
    let mouths = c.args.mouths.now.items in
    let to = c.in-Some.to in
    let m = c.index_mut-mouths.result.now in
    let made = c.in_err-make_room.ensures in
    let leads_to = sym (ap (λ (l : List Mouths). leads l c.args.at c.args.slot c.args.actor.now c.args.port) c.deref.ensures.value) ∙ (sym c.leads.ensures ∙ c.in-Some.is) in
    let is = read_place mouths (to, c.in-Some.port) m (leads_place mouths c.args.at c.args.slot c.args.actor.now c.args.port (to, c.in-Some.port) c.requires.many leads_to) c.index_mut-mouths.ensures.value in
    err_is c.from_residual.result (subst (λ (o : Option (ℕ × Port)). IsSameAt o mouths (set mouths to c.make_room.new.self)) (sym leads_to)
    (m, c.make_room.new.self, is.0, refl, record { pipes = made.pipes; tenants = made.tenants; ended = made.ended; slots = made.slots }))

pub returns-clause-done : goal.returns-clause-done
returns-clause-done c =
    let mouths = c.args.mouths.now.items in
    let to = c.in-Some.to in
    let m = c.index_mut-mouths.result.now in
    let made = c.in_ok-make_room.ensures in
    let gave = c.give.ensures in
    let leads_to = sym (ap (λ (l : List Mouths). leads l c.args.at c.args.slot c.args.actor.now c.args.port) c.deref.ensures.value) ∙ (sym c.leads.ensures ∙ c.in-Some.is) in
    let is = read_place mouths (to, c.in-Some.port) m (leads_place mouths c.args.at c.args.slot c.args.actor.now c.args.port (to, c.in-Some.port) c.requires.many leads_to) c.index_mut-mouths.ensures.value in
    subst (λ (o : Option (ℕ × Port)). HasGivenTo o c.args.bytes.now mouths (set mouths to c.give.new.self)) (sym leads_to) (
      m,
      c.give.new.self,
      is.0,
      refl,
      given_after m c.make_room.new.self c.give.new.self c.in-Some.port c.args.bytes.now
          (record { pipes = made.pipes; tenants = made.tenants; ended = made.ended; slots = made.slots }) (record { pipes = gave.pipes; tenants = gave.tenants; ended = gave.ended; slots = gave.slots }),
    )
