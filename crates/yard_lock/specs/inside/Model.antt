-- A yard and a pass, by what they are made of.
use Rattle.std.specs.Prelude.{◌≡◌, ◌<◌, [], Option}
use Rattle.atomic_table.specs.Table.{Me}
use Rattle.atomic_table.specs.Seated.{TableId}
use Rattle.atomic_table.specs.declared.shared.Seat.{Seat}
use Rattle.yard_lock.specs.declared.view.Stage.TheVariants.{Idle}
use Rattle.yard_lock.specs.declared.view.View.{View}
use Rattle.yard_lock.specs.declared.view.Opening.{Opening}
use Rattle.yard_lock.specs.Model.{Held, Open, held}

abbrev pub held_of : {Y I O : Type 0} → Seat (Option Y) (View I O) → Held I O
held_of s = held s.table_id s.id s.me.0.parts s.me.0.seen

-- a pass between two calls
abbrev pub Resting : {Y I O : Type 0} → Me (Option Y) (View I O) → Type 0
Resting m = (m.1 ≡ []) × (m.0.stage ≡ Idle) × (0 < m.0.parts)

abbrev pub open_of : {Y : Type 0} → TableId → Opening Y → Open Y
open_of z key = record { id = z; start = key.state.value; parts = key.parts }
