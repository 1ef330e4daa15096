-- What others do, and time, leave a sender.
use Rattle.std.proofs.Common.{◌≡◌, ◌≢◌, ℕ, ◌≤◌, List, Option, Some, subst}
use Rattle.std.specs.Prelude.{All}
use Rattle.std.proofs.lemmas.List.Elements.{All-contains}
use Rattle.address_rules.specs.declared.controls.Controls.{Controls}
use Rattle.send_core.specs.declared.desk.Desk.{Desk}
use Rattle.send_parts.specs.declared.row.Row.{Row}
use Rattle.send_parts.specs.declared.row.Row.TheVariants as at
use Rattle.send_jobs.specs.declared.slots.Slots.{Slots}
use Rattle.send_known.specs.declared.channel.Channel.{Channel}
use Rattle.send_known.specs.declared.known.Known.{Known}
use Rattle.send_parts.specs.declared.book.Book.{Book}
use Rattle.send_parts.specs.declared.rows.FinishRow.{FinishRow}
use Rattle.send_parts.specs.declared.rows.FinishRow.TheVariants as finish
use Rattle.todo_pass.specs.declared.row.Row.{Row as PassRow}
use Rattle.todo_pass.specs.declared.row.Row.TheVariants as todo
use Rattle.todo_pass.specs.Table.{Pass}
use Rattle.queue_law.specs.Numbers.{Queue, about}
use Rattle.queue_law.specs.Rests.{Spares}
use Rattle.queue_law.specs.Steps.{Elsewhere}
use Rattle.program_law.specs.Sender.InTodo.{PassGoesOn, TodoStands}
use Rattle.program_law.specs.Sender.Knows.{IsRemoved, Knows}
use Rattle.program_law.specs.Sender.Knows.Knows.{Stays, Leaves}
use Rattle.program_law.specs.Sender.Rows.{FinishStands, IsIdle, RowStands, Works, works}
use Rattle.program_law.specs.Sender.Stands.{KnowsAll, LaneStands, SenderStands, SparesSorted}
use Rattle.program_law.proofs.Sender.Others.{knows_kept, lanes_kept, rests_kept, same_about}
use Rattle.program_law.specs.Sender.LeftAlone.{LeavesPass, LeavesRow, SendersAreLeftAlone}
use Rattle.program_law.proofs.Sender.Alone.{points_are_left_alone}
use Rattle.program_law.proofs.Sender.Passing.{passes_go_on}

module _ (now : ℕ) (a o : List ℕ) (m k : Option ℕ) (q r : Queue) (E : Elsewhere now o m q r) (far : a ≢ o) (spares : SparesSorted q r) (S : Spares now k q r) where
  on : (controls : Controls) (p : Pass) → (k ≢ Some p.n) × (about r p.n ≡ about q p.n) → PassGoesOn controls now q a p → PassGoesOn controls now r a p
  on controls p l h = passes_go_on.others controls now a o m k q r p E far S l.0 l.1 h

  todo_left : (controls : Controls) (row : PassRow) (p : Pass) → LeavesPass row p k q r → TodoStands controls now q a row p → TodoStands controls now r a row p
  todo_left controls todo.Answer p l h = l h
  todo_left controls (todo.Clear t) p l h = on controls p l h
  todo_left controls todo.StatMess p l h = on controls p l h
  todo_left controls todo.OpenTodo p l h = on controls p l h
  todo_left controls (todo.ReadTodo fd) p l h = on controls p l h
  todo_left controls (todo.CloseTodo fd) p l h = on controls p l h
  todo_left controls (todo.Create t) p l h = on controls p l h
  todo_left controls (todo.Append t fd done) p l h = on controls p l h
  todo_left controls (todo.Sync t fd) p l h = on controls p l h
  todo_left controls (todo.Close t fd) p l h = on controls p l h
  todo_left controls (todo.Shut fd why) p l h = on controls p l h
  todo_left controls todo.Give p l h = on controls p l h
  todo_left controls todo.Done p l h = tt
  todo_left controls (todo.Left why) p l h = tt
  todo_left controls todo.Lost p l h = tt

  -- the number of an idle message is as it was, until it is removed
  idle_same : (row : FinishRow) (n : ℕ) (known : List Known) → (IsRemoved row → ⊥) → All (λ (x : Known). Knows (at.Finish row n) (about q x.n) x) known → IsIdle n known
      → about r n ≡ about q n
  idle_same row n known stays knows idle =
      let it = All-contains (λ (x : Known). Knows (at.Finish row n) (about q x.n) x) known idle.it knows idle.there in
      subst (λ (j : ℕ). about r j ≡ about q j) idle.number (by it)
    where
      by : Knows (at.Finish row n) (about q idle.it.n) idle.it → about r idle.it.n ≡ about q idle.it.n
      by (Stays w) = same_about q r spares idle.it.n w.sorted
      by (Leaves l) = absurd (stays l.0)

  finish_left : (controls : Controls) (row : FinishRow) (n : ℕ) (p : Works) (known : List Known) → LeavesRow (at.Finish row n) p.pass k q r
      → All (λ (x : Known). Knows (at.Finish row n) (about q x.n) x) known → FinishStands controls now q a row n known p.bounce → FinishStands controls now r a row n known p.bounce
  finish_left controls finish.OpenBounce n p known l knows h = h
  finish_left controls finish.Return n p known l knows h =
      points_are_left_alone.finish controls now a o m k q r E far S finish.Return n known p.bounce (idle_same finish.Return n known (λ x. x) knows h.idle) h
  finish_left controls finish.UnlinkInfo n p known l knows h =
      points_are_left_alone.finish controls now a o m k q r E far S finish.UnlinkInfo n known p.bounce (idle_same finish.UnlinkInfo n known (λ x. x) knows h.0) h
  finish_left controls finish.Give n p known l knows h = points_are_left_alone.finish controls now a o m k q r E far S finish.Give n known p.bounce l h
  finish_left controls finish.Take n p known l knows h = h
  finish_left controls finish.Later n p known l knows h = tt
  finish_left controls finish.Over n p known l knows h = tt
  finish_left controls finish.Lost n p known l knows h = tt

  row_left : (row : Row) (b : Book) (s : Slots) (p : Works) → LeavesRow row p.pass k q r → KnowsAll q row b.messages → ((ch : Channel) → LaneStands q row ch s)
      → RowStands now q a row b s p → RowStands now r a row b s p
  row_left at.InTodo b s p l knows lanes h = (h.0, (h.1.0, todo_left b.controls p.pass.row p.pass l h.1.1))
  row_left (at.Finish row n) b s p l knows lanes h = (h.0, finish_left b.controls row n p b.messages.known l knows.known h.1)
  row_left (at.Sweep row) b s p l knows lanes h = (h.0, points_are_left_alone.sweeps now a k q r S row b.messages.known l h.1)
  row_left (at.Start row) b s p l knows lanes h = rests_kept now a o m q r E far spares (at.Start row) b s p tt lanes h
  row_left (at.Turn point) b s p l knows lanes h = rests_kept now a o m q r E far spares (at.Turn point) b s p tt lanes h
  row_left (at.TakeLink ch) b s p l knows lanes h = rests_kept now a o m q r E far spares (at.TakeLink ch) b s p tt lanes h
  row_left (at.Mark row mark) b s p l knows lanes h = rests_kept now a o m q r E far spares (at.Mark row mark) b s p tt lanes h
  row_left (at.UnlinkFile ch n point) b s p l knows lanes h = rests_kept now a o m q r E far spares (at.UnlinkFile ch n point) b s p tt lanes h
  row_left (at.ReadFile ch n begun g) b s p l knows lanes h = rests_kept now a o m q r E far spares (at.ReadFile ch n begun g) b s p tt lanes h
  row_left (at.Request ch) b s p l knows lanes h = rests_kept now a o m q r E far spares (at.Request ch) b s p tt lanes h
  row_left (at.FindTodo search) b s p l knows lanes h = rests_kept now a o m q r E far spares (at.FindTodo search) b s p tt lanes h
  row_left (at.Ended status) b s p l knows lanes h = tt

  left : (d : Desk) → LeavesRow d.row d.pass k q r → SenderStands now q a d → SenderStands now r a d
  left d l h = record {
    knows = knows_kept q r d.row d.book.messages spares h.knows;
    lanes = λ ch. lanes_kept q r d.row ch d.slots spares (h.lanes ch);
    apart = h.apart;
    no_nul = h.no_nul;
    rests = row_left d.row d.book d.slots (works d) l h.knows h.lanes h.rests;
  }

-- Time

module _ (now later : ℕ) (soon : now ≤ later) (q : Queue) (a : List ℕ) where
  then_on : (controls : Controls) (p : Pass) → PassGoesOn controls now q a p → PassGoesOn controls later q a p
  then_on controls p h = passes_go_on.later controls now later soon q a p h

  todo_later : (controls : Controls) (row : PassRow) (p : Pass) → TodoStands controls now q a row p → TodoStands controls later q a row p
  todo_later controls todo.Answer p h = h
  todo_later controls (todo.Clear t) p h = then_on controls p h
  todo_later controls todo.StatMess p h = then_on controls p h
  todo_later controls todo.OpenTodo p h = then_on controls p h
  todo_later controls (todo.ReadTodo fd) p h = then_on controls p h
  todo_later controls (todo.CloseTodo fd) p h = then_on controls p h
  todo_later controls (todo.Create t) p h = then_on controls p h
  todo_later controls (todo.Append t fd done) p h = then_on controls p h
  todo_later controls (todo.Sync t fd) p h = then_on controls p h
  todo_later controls (todo.Close t fd) p h = then_on controls p h
  todo_later controls (todo.Shut fd why) p h = then_on controls p h
  todo_later controls todo.Give p h = then_on controls p h
  todo_later controls todo.Done p h = tt
  todo_later controls (todo.Left why) p h = tt
  todo_later controls todo.Lost p h = tt

  row_later : (row : Row) (b : Book) (s : Slots) (p : Works) → RowStands now q a row b s p → RowStands later q a row b s p
  row_later at.InTodo b s p h = (h.0, (h.1.0, todo_later b.controls p.pass.row p.pass h.1.1))
  row_later (at.Finish row n) b s p h = (h.0, points_are_left_alone.finish_later b.controls now later soon q a row n b.messages.known p.bounce h.1)
  row_later (at.Sweep row) b s p h = (h.0, points_are_left_alone.sweeps_later now later soon q a row b.messages.known h.1)
  row_later (at.Start row) b s p h = h
  row_later (at.Turn point) b s p h = h
  row_later (at.TakeLink ch) b s p h = h
  row_later (at.Mark row mark) b s p h = h
  row_later (at.UnlinkFile ch n point) b s p h = h
  row_later (at.ReadFile ch n begun g) b s p h = h
  row_later (at.Request ch) b s p h = h
  row_later (at.FindTodo search) b s p h = h
  row_later (at.Ended status) b s p h = h

  then_stands : (d : Desk) → SenderStands now q a d → SenderStands later q a d
  then_stands d h = record {
    knows = h.knows;
    lanes = h.lanes;
    apart = h.apart;
    no_nul = h.no_nul;
    rests = row_later d.row d.book d.slots (works d) h.rests;
  }

pub senders_are_left_alone : SendersAreLeftAlone
senders_are_left_alone = record {
  others = λ now a o m k q r d E far spares S l h. left now a o m k q r E far spares S d l h;
  later = λ now m soon q a d h. then_stands now m soon q a d h;
}
