use Rattle.std.proofs.Common.{ap, ◌∙◌, [], ◌∷◌}
use Rattle.address_rules.specs.Files.{content, text_in, list_in}
use Rattle.address_rules.specs.declared.control_file.ControlFile.TheVariants.{Locals, EnvNoAtHost, BounceHost, DoubleBounceHost}
use Rattle.address_rules.proofs.FileLemmas.{same_controls}
use Rattle.address_rules.proofs.controls.controls_of.Goals as goal

pub returns : goal.returns
returns c =
    same_controls c.args.files.now _
    c.in_ok-me.ensures
    (c.in_ok-locals.ensures ∙ ap (λ t. list_in (content c.args.files.now Locals) (t ∷ [])) c.as_slice.ensures)
    c.in_ok-percent_hack.ensures
    c.in_ok-virtual_domains.ensures
    (c.in_ok-env_no_at_host.ensures ∙ ap (text_in (content c.args.files.now EnvNoAtHost)) c.as_slice-2.ensures)
    c.in_ok-bounce_from.ensures
    (c.in_ok-bounce_host.ensures ∙ ap (text_in (content c.args.files.now BounceHost)) c.as_slice-3.ensures)
    c.in_ok-double_bounce_to.ensures
    (c.in_ok-double_bounce_host.ensures ∙ ap (text_in (content c.args.files.now DoubleBounceHost)) c.as_slice-4.ensures)
    c.number_in.ensures
    c.number_in-2.ensures
    c.number_in-3.ensures
