use Rattle.std.proofs.Common.{◌≡◌, Some, None, refl, ap, rules}
use Rattle.std.specs.Ordering.{nat_cmp}
use Rattle.std.specs.BTreeMap.{get}
use Rattle.script_fates.specs.declared.fates.Fates.{Fates}
use Rattle.script_fates.specs.declared.fates.Spot.{Spot as KeptSpot}
use Rattle.script_fates.specs.declared.fates.Tenure.{Tenure}
use Rattle.script_fates.proofs.Lives.{AddsSpot, changes_at, changes_nowhere}
use Rattle.script_fates.proofs.Takings.{delivery_enters, note_enters}
use Rattle.script_fates.proofs.fates.Fates.enter_mark.Goals as goal

pub returns-then-is_some : goal.returns-then-is_some
returns-then-is_some c = λ books h. note_enters c.args.self.now books c.args.channel c.args.mark.now (search rules) h

pub returns-in_ok-push : goal.returns-in_ok-push
returns-in_ok-push c = λ books h.
    let n = c.args.mark.now.attempt.n in
    let s : KeptSpot = record { channel = c.args.channel; place = c.args.mark.now.attempt.place } in
    let old : Fates = c.args.self.now in
    let was : Tenure = c.in-Some.tenure.now in
    let now : Tenure = record { number = was.number; mail = was.mail; delivered = c.push.new.self; routes = was.routes } in
    let new : Fates = record { living = c.get_mut.follows.lender now; over = old.over; routers = old.routers } in
    let there : get nat_cmp old.living n ≡ Some was = search rules in
    delivery_enters old new books c.args.channel c.args.mark.now (search rules)
    (changes_at (AddsSpot s) old new n was now there ((c.get_mut.follows.holds now).3 (search rules)) (refl, refl, c.in_ok-push.ensures.items, refl) refl refl)
    h

pub returns-in_default : goal.returns-in_default
returns-in_default c = λ books h.
    let n = c.args.mark.now.attempt.n in
    let s : KeptSpot = record { channel = c.args.channel; place = c.args.mark.now.attempt.place } in
    let old : Fates = c.args.self.now in
    let new : Fates = record { living = c.get_mut.follows.lender-at-none; over = old.over; routers = old.routers } in
    let stays = c.get_mut.follows.holds-at-none in
    let there : get nat_cmp old.living n ≡ None = search rules in
    delivery_enters old new books c.args.channel c.args.mark.now (search rules) (changes_nowhere (AddsSpot s) old new n there (λ k. ap (λ m. get nat_cmp m k) stays) refl refl) h
