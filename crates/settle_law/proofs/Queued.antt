-- A search of todo without a name.
use Rattle.std.proofs.Common.{◌≡◌, Bool, true, false, refl, sym, ap, ◌∙◌}
use Rattle.std.specs.Prelude.{is_some}
use Rattle.mail_bytes.specs.Decimal.{digits}
use Rattle.queue_paths.specs.Names.{path}
use Rattle.queue_paths.specs.Names.Part.{Bounce, Info, Local, Mess, Remote, Todo}
use Rattle.queue_paths.specs.Parts.{parts_of}
use Rattle.queue_paths.proofs.Parts.{todo_alone}
use Rattle.queue_states.specs.declared.state.State.TheVariants.{S4}
use Rattle.queue_states.specs.States.{state_by, is_there, is_in_intd, is_in_todo}
use Rattle.queue_states.proofs.MessageFiles.{is_part}
use Rattle.settle_law.specs.inside.Queued.{NoneIsQueued}

pub queued : (mess intd todo info local remote bounce : Bool) → state_by mess intd todo info local remote bounce ≡ S4 → todo ≡ true
queued false false false false false false false e = absurd (cc)
queued true false false false false false false e = absurd (cc)
queued true true false false false false false e = absurd (cc)
queued true intd true info local remote false e = refl
queued true false false true local remote bounce e = absurd (cc)
queued mess intd todo info local remote bounce e = absurd (cc)

pub none : NoneIsQueued
unfolding path
none d wrote fits n small alone e =
    let there : is_there d Todo n ≡ true =
    ap is_some (sym (todo_alone (parts_of d.names n) alone))
    ∙ queued (is_there d Mess n) (is_in_intd d n) (is_in_todo d n) (is_there d Info n) (is_there d Local n) (is_there d Remote n) (is_there d Bounce n) e in
    fits.1 (digits n) (there, is_part n small)
