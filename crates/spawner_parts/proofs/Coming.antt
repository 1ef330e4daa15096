-- What may come of the gives, takings and starts of a spawner.
use Rattle.std.proofs.Common.{ℕ, List}
use Rattle.call_fs.specs.declared.past.GotData.{GotData}
use Rattle.call_fs.specs.declared.past.GotData.TheVariants as came
use Rattle.call_fs.specs.declared.past.ChildData.{ChildData}
use Rattle.call_fs.specs.declared.past.NeedData.TheVariants as needs
use Rattle.call_fs.specs.declared.program.Port.{Port}
use Rattle.call_fs.specs.declared.program.Port.TheVariants as port
use Rattle.call_fs.specs.Program.{MayCome}

pub by_give : (to : Port) (bytes : List ℕ) (P : GotData → Type 0) → P came.Gave → P came.Failed → (got : GotData) → MayCome (needs.Give to bytes) got → P got
by_give to bytes P well ill came.Gave may = well
by_give to bytes P well ill came.Failed may = ill
by_give to bytes P well ill (came.Answered told) may = absurd may
by_give to bytes P well ill (came.Took more) may = absurd may
by_give to bytes P well ill came.End may = absurd may
by_give to bytes P well ill (came.Ended status) may = absurd may
by_give to bytes P well ill came.Crashed may = absurd may
by_give to bytes P well ill (came.Started pid) may = absurd may
by_give to bytes P well ill came.Memory may = absurd may

pub by_input : (P : GotData → Type 0) → ((bytes : List ℕ) → P (came.Took bytes)) → P came.End → P came.Failed → (got : GotData) → MayCome (needs.Take port.Input) got → P got
by_input P more end ill (came.Took bytes) may = more bytes
by_input P more end ill came.End may = end
by_input P more end ill came.Failed may = ill
by_input P more end ill came.Gave may = absurd may
by_input P more end ill (came.Answered told) may = absurd may
by_input P more end ill (came.Ended status) may = absurd may
by_input P more end ill came.Crashed may = absurd may
by_input P more end ill (came.Started pid) may = absurd may
by_input P more end ill came.Memory may = absurd may

pub by_program : (slot : ℕ) (P : GotData → Type 0) → ((bytes : List ℕ) → P (came.Took bytes)) → P came.End → P came.Failed → (got : GotData) → MayCome (needs.Take (port.Program slot)) got → P got
by_program slot P more end ill (came.Took bytes) may = more bytes
by_program slot P more end ill came.End may = end
by_program slot P more end ill came.Failed may = ill
by_program slot P more end ill came.Gave may = absurd may
by_program slot P more end ill (came.Answered told) may = absurd may
by_program slot P more end ill (came.Ended status) may = absurd may
by_program slot P more end ill came.Crashed may = absurd may
by_program slot P more end ill (came.Started pid) may = absurd may
by_program slot P more end ill came.Memory may = absurd may

pub by_start : (program : ChildData) (P : GotData → Type 0) → ((pid : ℕ) → P (came.Started pid)) → P came.Failed → P came.Memory → (got : GotData) → MayCome (needs.Start program) got → P got
by_start program P well ill memory (came.Started pid) may = well pid
by_start program P well ill memory came.Failed may = ill
by_start program P well ill memory came.Memory may = memory
by_start program P well ill memory came.Gave may = absurd may
by_start program P well ill memory (came.Answered told) may = absurd may
by_start program P well ill memory (came.Took bytes) may = absurd may
by_start program P well ill memory came.End may = absurd may
by_start program P well ill memory (came.Ended status) may = absurd may
by_start program P well ill memory came.Crashed may = absurd may
