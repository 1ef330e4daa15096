use Rattle.std.proofs.Common.{sym, ap, ◌∙◌}
use Rattle.std.specs.Prelude.{unwrap_or}
use Rattle.std.specs.Option.{option_and_then}
use Rattle.address_rules.specs.Names.{stripped, rest_at, rest_after_prefix}
use Rattle.address_rules.specs.Keys.{first_prefix, domain_keys}
use Rattle.address_rules.proofs.names.strip_prefix.Goals as goal

pub returns-in_default : goal.returns-in_default
unfolding stripped
returns-in_default c =
    sym (ap (λ o. unwrap_or (option_and_then (rest_at c.args.controls.now.virtual_domains c.args.address.now) o) c.args.address.now) c.in_default.ensures)

pub returns-in-Some-prefix_for_domain : goal.returns-in-Some-prefix_for_domain
unfolding stripped
returns-in-Some-prefix_for_domain c =
    c.without_prefix.ensures
    ∙ sym (ap (λ o. unwrap_or (option_and_then (rest_at c.args.controls.now.virtual_domains c.args.address.now) o) c.args.address.now) c.in-Some.ensures
    ∙ ap (λ o. unwrap_or (option_and_then (rest_after_prefix c.args.address.now) o) c.args.address.now)
    (ap (λ lines. first_prefix lines (domain_keys c.in-Some.domain.now)) (sym c.as_slice.ensures) ∙ sym c.in-Some-prefix_for_domain.ensures))

pub returns-in-None : goal.returns-in-None
unfolding stripped
returns-in-None c =
    sym (ap (λ o. unwrap_or (option_and_then (rest_at c.args.controls.now.virtual_domains c.args.address.now) o) c.args.address.now) c.in-Some.ensures
    ∙ ap (λ o. unwrap_or (option_and_then (rest_after_prefix c.args.address.now) o) c.args.address.now)
    (ap (λ lines. first_prefix lines (domain_keys c.in-Some.domain.now)) (sym c.as_slice.ensures) ∙ sym c.in-None.ensures))
