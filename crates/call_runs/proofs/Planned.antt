-- A disk in memory by its lists: what a planned fault leaves.
use Rattle.std.proofs.Common.{◌≡◌, ℕ, List, None, refl, subst}
use Rattle.std.specs.Prelude.{Contains}
use Rattle.mail_bytes.specs.Told.{raised}
use Rattle.call_fs.specs.declared.calls.Answer.TheVariants as answer
use Rattle.call_fs.specs.declared.calls.FsError.TheVariants.{Fault}
use Rattle.mem_fs.specs.MemDisk.{Counts, Held, Planned}

pub failed : (old : Planned) (held : Held) (picks plan next_plan : List ℕ) (made next_made faults next_faults : ℕ) → ◌≡◌ {A = Planned} (record { held = held; picks = picks; plan = plan; made = made; faults = faults }) old
    → next_plan ≡ plan → next_made ≡ raised made → Contains plan (raised made) → next_faults ≡ raised faults
    → Counts old (record { held = held; picks = picks; plan = next_plan; made = next_made; faults = next_faults }) None (answer.Refused Fault)
failed old held picks plan next_plan made next_made faults next_faults is plans mades planned faulted =
    subst (λ (o : Planned). Counts o (record { held = held; picks = picks; plan = next_plan; made = next_made; faults = next_faults }) None (answer.Refused Fault)) is
    (record { made = mades; plan = plans; planned = (λ t. planned, λ t. refl); faults = faulted; nothing_done = λ t. refl; takes = refl })
