use Rattle.std.proofs.Common.{List, ◌∷◌, Some, None, ℕ, ap, replicate}
use Rattle.local_parts.proofs.Hosts.{named, bad}
use Rattle.local_parts.proofs.host.host_in.Goals as goal

pub returns-in-Ok : goal.returns-in-Ok
returns-in-Ok c = named _ c.args.bytes.now c.in-Ok.controls (ap (λ (m : List ℕ). Some m ∷ replicate 11 None) c.in_ok-me.ensures) c.in-Ok.ensures.good c.in-Ok.ensures.says

pub returns-in-Err-BadControl : goal.returns-in-Err-BadControl
returns-in-Err-BadControl c =
    let fault = rw c.in-Err-BadControl.field-0-is at c.in-Err-BadControl.ensures.err in
    bad _ c.args.bytes.now _ (ap (λ (m : List ℕ). Some m ∷ replicate 11 None) c.in_ok-me.ensures) fault
