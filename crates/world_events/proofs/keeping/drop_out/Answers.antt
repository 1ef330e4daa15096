use Rattle.std.proofs.Common.{rules, eqb}
use Rattle.std.specs.Prelude.{not}
use Rattle.std.proofs.lemmas.Fn.{filter_same}
use Rattle.call_fs.specs.declared.calls.Fd.{Fd}
use Rattle.world_events.proofs.keeping.drop_out.Goals as goal

pub returns : goal.returns
returns c = filter_same _ (λ (one : Fd). not (eqb one.0 c.args.fd.0)) _ (λ x b f' k. search rules) c.args.descriptors.now.items _ c.retain.ensures.filtered
