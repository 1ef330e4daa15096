use Rattle.std.proofs.Common.{◌≡◌, Some, None, refl, ap, rules}
use Rattle.std.specs.Ordering.{nat_cmp}
use Rattle.std.specs.BTreeMap.{get}
use Rattle.script_fates.specs.declared.fates.Fates.{Fates}
use Rattle.script_fates.specs.declared.fates.Tenure.{Tenure}
use Rattle.script_fates.proofs.Lives.{TakesRoutes, changes_at, changes_nowhere, more_kept, routes_one}
use Rattle.script_fates.proofs.fates.Fates.route.Goals as goal

pub returns-in-Some : goal.returns-in-Some
returns-in-Some c = λ books h.
    let n = c.args.n in
    let place = c.in_ok-place.place in
    let old : Fates = record { living = c.args.self.now.living; over = c.args.self.now.over; routers = c.keep.new.self } in
    let was : Tenure = c.in-Some.tenure.now in
    let now : Tenure = record { number = was.number; mail = was.mail; delivered = was.delivered; routes = Some place } in
    let new : Fates = record { living = c.get_mut.follows.lender now; over = old.over; routers = old.routers } in
    let there : get nat_cmp old.living n ≡ Some was = search rules in
    routes_one old new books n place c.args.controls.now c.in_ok-place.ensures.place
    (changes_at (TakesRoutes place) old new n was now there ((c.get_mut.follows.holds now).3 (search rules)) (refl, refl, refl, refl) refl refl)
    (more_kept c.args.self.now books c.keep.new.self c.in_ok-place.ensures.more h)

pub returns-in_default : goal.returns-in_default
returns-in_default c = λ books h.
    let n = c.args.n in
    let place = c.in_ok-place.place in
    let old : Fates = record { living = c.args.self.now.living; over = c.args.self.now.over; routers = c.keep.new.self } in
    let new : Fates = record { living = c.get_mut.follows.lender-at-none; over = old.over; routers = old.routers } in
    let stays = c.get_mut.follows.holds-at-none in
    let there : get nat_cmp old.living n ≡ None = search rules in
    routes_one old new books n place c.args.controls.now c.in_ok-place.ensures.place
    (changes_nowhere (TakesRoutes place) old new n there (λ k. ap (λ m. get nat_cmp m k) stays) refl refl)
    (more_kept c.args.self.now books c.keep.new.self c.in_ok-place.ensures.more h)
