use Rattle.std.proofs.Common.{◌≡◌, ◌∙◌, Bor, Option, ap, reverse, rules, sym, tests}
use Rattle.std.specs.Prelude.{option_map}
use Rattle.std.specs.List.{find}
use Rattle.std.proofs.lemmas.Iterator.Adapters.{YieldsList-from_rev_slice}
use Rattle.std.proofs.lemmas.Iterator.Search.{find_from_yields_List}
use Rattle.script_fates.specs.declared.fates.Tenure.{Tenure}
use Rattle.script_fates.proofs.Latest.{is_kept_so, over_found, routes_kept}
use Rattle.script_fates.proofs.fates.Fates.past_routes.Goals as goal

pub returns-in-Some : goal.returns-in-Some
returns-in-Some c = λ books h is.
    let xs = c.args.self.now.over.items in
    let found : option_map (λ (y : Bor Tenure). y.now) c.find-latest.result ≡ find (is_kept_so c.args.mail.now c.args.n) (reverse xs) =
    find_from_yields_List (is_kept_so c.args.mail.now c.args.n) _ _ c.find-latest.result c.find-latest.ensures.ran (YieldsList-from_rev_slice xs (search rules)) (λ x b q k. search (rules, tests)) in
    c.at.ensures ∙ ap (λ (o : Option (Bor Tenure)). routes_kept c.args.self.now.routers (option_map (λ (y : Bor Tenure). y.now) o)) (sym c.in-Some.is) ∙ ap (routes_kept c.args.self.now.routers) found ∙ over_found c.args.self.now books c.args.mail.now c.args.n h is

pub returns-in-None : goal.returns-in-None
returns-in-None c = λ books h is.
    let xs = c.args.self.now.over.items in
    let found : option_map (λ (y : Bor Tenure). y.now) c.find-latest.result ≡ find (is_kept_so c.args.mail.now c.args.n) (reverse xs) =
    find_from_yields_List (is_kept_so c.args.mail.now c.args.n) _ _ c.find-latest.result c.find-latest.ensures.ran (YieldsList-from_rev_slice xs (search rules)) (λ x b q k. search (rules, tests)) in
    ap (λ (o : Option (Bor Tenure)). routes_kept c.args.self.now.routers (option_map (λ (y : Bor Tenure). y.now) o)) (sym c.in-None.is) ∙ ap (routes_kept c.args.self.now.routers) found ∙ over_found c.args.self.now books c.args.mail.now c.args.n h is
