-- Texts without NUL. A line of a control file with one is refused, so what the files say has none; nor has the route of an
-- address without one.
use Rattle.std.specs.Prelude.{All}
use Rattle.address_rules.specs.declared.controls.Controls.{Controls}
use Rattle.address_rules.specs.declared.virtual_domains.VirtualDomain.{VirtualDomain}
use Rattle.mail_bytes.specs.Texts.{HasNoNul}

abbrev pub LineHasNoNul : VirtualDomain → Type 0
LineHasNoNul line = HasNoNul line.domain × HasNoNul line.prefix

-- nothing that controls say has one
pub record HaveNoNul (controls : Controls) : Type 0 where
  pub me : HasNoNul controls.me
  pub locals : All HasNoNul controls.locals
  pub percent_hack : All HasNoNul controls.percent_hack
  pub virtual_domains : All LineHasNoNul controls.virtual_domains
  pub env_no_at_host : HasNoNul controls.env_no_at_host
  pub bounce_from : HasNoNul controls.bounce_from
  pub bounce_host : HasNoNul controls.bounce_host
  pub double_bounce_to : HasNoNul controls.double_bounce_to
  pub double_bounce_host : HasNoNul controls.double_bounce_host
