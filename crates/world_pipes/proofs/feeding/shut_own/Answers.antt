use Rattle.std.proofs.Common.{◌≡◌, ℕ, List, Bool, true, Option, refl, sym, ap, ◌∙◌, subst, set, arith}
use Rattle.std.specs.Option.{IsSome}
use Rattle.world_pipes.specs.declared.mouths.Mouths.{Mouths}
use Rattle.world_pipes.specs.Mouths.{actor_of}
use Rattle.world_pipes.specs.Pipework.{Tenant}
use Rattle.world_pipes.specs.Exchanges.{is_in, OwnIsShut}
use Rattle.world_pipes.proofs.Shuts.{in_place, runs_there, slot_shut}
use Rattle.world_pipes.proofs.feeding.shut_own.Goals as goal

-- what the test tells of the pipes that were read
inside : (mouths read : List Mouths) (s : ℕ × ℕ) (a : List ℕ) (result : Bool) → read ≡ mouths → result ≡ is_in read s a → result ≡ true → is_in mouths s a ≡ true
inside mouths read s a result same is true_is = sym (ap (λ (l : List Mouths). is_in l s a) same) ∙ (sym is ∙ true_is)

pub index_mut-requires : goal.index_mut-requires
index_mut-requires c =
    let within = in_place c.args.mouths.now.items c.args.actor.now (c.in-Some.at, c.in-Some.number)
    (inside c.args.mouths.now.items c.deref.result.now (c.in-Some.at, c.in-Some.number) c.args.actor.now c.is_in.result c.deref.ensures.value c.is_in.ensures c.if-is_in.true) in
    omega (arith, within, c.args.mouths.now.ok.0)

pub end_actor-requires : goal.end_actor-requires
end_actor-requires c =
    let by = inside c.args.mouths.now.items c.deref.result.now (c.in-Some.at, c.in-Some.number) c.args.actor.now c.is_in.result c.deref.ensures.value c.is_in.ensures c.if-is_in.true in
    subst (λ (o : Option Tenant). IsSome (actor_of o))
    (sym (runs_there c.args.mouths.now.items c.args.actor.now (c.in-Some.at, c.in-Some.number) c.index_mut.result.now by c.index_mut.ensures.value).1) refl

pub returns-then-is_in : goal.returns-then-is_in
returns-then-is_in c =
    let by = inside c.args.mouths.now.items c.deref.result.now (c.in-Some.at, c.in-Some.number) c.args.actor.now c.is_in.result c.deref.ensures.value c.is_in.ensures c.if-is_in.true in
    subst (λ (slot : Option (ℕ × ℕ)). OwnIsShut slot c.args.actor.now c.args.mouths.now.items (set c.args.mouths.now.items c.in-Some.at c.end_actor.new.self)) (sym c.in-Some.is)
    (slot_shut c.args.mouths.now.items c.args.actor.now (c.in-Some.at, c.in-Some.number) c.index_mut.result.now c.end_actor.new.self by c.index_mut.ensures.value
    (record { pipes = c.end_actor.ensures.pipes; tenants = c.end_actor.ensures.tenants; ended = c.end_actor.ensures.ended; slots = c.end_actor.ensures.slots }))
