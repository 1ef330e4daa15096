-- The twelve files.
use Rattle.std.proofs.Common.{◌≡◌, ℕ, ◌+◌, ◌<◌, List, [], ◌∷◌, length, drop, get_or, Option, Some, None, ap, ◌∙◌}
use Rattle.std.specs.Prelude.{slice_get, codes}
use Rattle.std.specs.List.{filter_map, cons_option}
use Rattle.std.specs.Option.{option_map}
use Rattle.std.proofs.lemmas.List.{drop_more}
use Rattle.address_rules.specs.declared.control_file.ControlFile.{ControlFile}
use Rattle.address_rules.specs.declared.control_file.ControlFile.TheVariants.{Me, Locals, PercentHack, VirtualDomains, EnvNoAtHost, BounceFrom, BounceHost, DoubleBounceTo, DoubleBounceHost, ConcurrencyLocal, ConcurrencyRemote, QueueLifetime}
use Rattle.address_rules.specs.declared.controls.Controls.{Controls}
use Rattle.address_rules.specs.Files.{content, fault_of, fault_in, Fault, text_in, list_in, virtual_domains_in, number_in, controls_of}

-- the first fault of the files from one on
abbrev pub first_from : List (Option (List ℕ)) → List ControlFile → Option Fault
first_from files some = slice_get (filter_map (fault_in files) some) 0

abbrev pub with_file : ControlFile → Option ℕ → Option Fault
with_file file o = option_map (λ line. (file, line)) o

abbrev pub before_rest : List (Option (List ℕ)) → List ControlFile → ControlFile → Option ℕ → Option Fault
before_rest files rest file o = slice_get (cons_option (with_file file o) (filter_map (fault_in files) rest)) 0

pub fault_found : (files : List (Option (List ℕ))) (some : List ControlFile) (i : ℕ) (d : ControlFile) (line : ℕ) → i < length some
    → fault_of files (get_or some i d) ≡ Some line → first_from files (drop i some) ≡ Some (get_or some i d, line)
fault_found files some i d line inside e = rw (drop_more some i d inside) (ap (before_rest files (drop (i + 1) some) (get_or some i d)) e)

pub fault_passed : (files : List (Option (List ℕ))) (some : List ControlFile) (i : ℕ) (d : ControlFile) → i < length some
    → fault_of files (get_or some i d) ≡ None → first_from files (drop i some) ≡ first_from files (drop (i + 1) some)
fault_passed files some i d inside e = rw (drop_more some i d inside) (ap (before_rest files (drop (i + 1) some) (get_or some i d)) e)

-- the controls, field by field
pub same_controls : (files : List (Option (List ℕ))) (c : Controls)
    → c.me ≡ text_in (content files Me) (codes "localhost")
    → c.locals ≡ list_in (content files Locals) (c.me ∷ [])
    → c.percent_hack ≡ list_in (content files PercentHack) []
    → c.virtual_domains ≡ virtual_domains_in (content files VirtualDomains)
    → c.env_no_at_host ≡ text_in (content files EnvNoAtHost) c.me
    → c.bounce_from ≡ text_in (content files BounceFrom) (codes "MAILER-DAEMON")
    → c.bounce_host ≡ text_in (content files BounceHost) c.me
    → c.double_bounce_to ≡ text_in (content files DoubleBounceTo) (codes "postmaster")
    → c.double_bounce_host ≡ text_in (content files DoubleBounceHost) c.me
    → c.concurrency_local ≡ number_in (content files ConcurrencyLocal) 10
    → c.concurrency_remote ≡ number_in (content files ConcurrencyRemote) 20
    → c.queue_lifetime ≡ number_in (content files QueueLifetime) 604800
    → c ≡ controls_of files
unfolding controls_of
same_controls files c me locals hack virtual env from host to double_host local remote life =
    let locals' = locals ∙ ap (λ t. list_in (content files Locals) (t ∷ [])) me in
    let env' = env ∙ ap (text_in (content files EnvNoAtHost)) me in
    let host' = host ∙ ap (text_in (content files BounceHost)) me in
    let double' = double_host ∙ ap (text_in (content files DoubleBounceHost)) me in
    λ i. record {
      me = me i;
      locals = locals' i;
      percent_hack = hack i;
      virtual_domains = virtual i;
      env_no_at_host = env' i;
      bounce_from = from i;
      bounce_host = host' i;
      double_bounce_to = to i;
      double_bounce_host = double' i;
      concurrency_local = local i;
      concurrency_remote = remote i;
      queue_lifetime = life i;
    }
