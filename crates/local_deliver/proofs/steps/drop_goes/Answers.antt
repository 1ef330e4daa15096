use Rattle.std.proofs.Common.{Some, sym, ap, ◌∙◌}
use Rattle.call_fs.specs.Program.{came_of}
use Rattle.local_deliver.specs.declared.place.Place.{Place}
use Rattle.local_deliver.specs.Drops.{end_drop}
use Rattle.local_deliver.specs.inside.DropAfter.{after_of, went}
use Rattle.local_deliver.proofs.DropSteps.{goes_is}
use Rattle.local_deliver.proofs.steps.drop_goes.Goals as goal

pub returns-in-Some : goal.returns-in-Some
returns-in-Some c = λ args now.
    let p : Place = c.args.place.now in
    c.went.ensures ∙ ap (λ a. went a (record p { dropping = Some c.done.new.self })) c.after_of-after.ensures
    ∙ ap (λ d. went (after_of (end_drop d)) (record p { dropping = Some d })) c.done.ensures
    ∙ sym (goes_is args now (came_of c.args.got) p.dropping c.in-Some.drop p c.in-Some.is c.requires.going c.requires.kind)
