-- What each step of a pass makes of what stands on a disk.
use Rattle.std.proofs.Common.{◌≡◌, ◌≢◌, ℕ, ◌+◌, min, List, [], ◌∷◌, ◌++◌, length, take, drop, Bool, true, false, Option, Some, None, IsSome, refl, sym, ap, ◌∙◌, subst, take-add, take_all, ltb, ltb-true, ltb-false}
use Rattle.std.specs.Prelude.{if◌then◌else◌, bytes_eq, Result, Ok, Err}
use Rattle.std.specs.Option.{option_map}
use Rattle.address_rules.specs.declared.controls.Controls.{Controls}
use Rattle.call_fs.specs.declared.calls.Answer.{Answer}
use Rattle.call_fs.specs.declared.calls.Answer.TheVariants as answer
use Rattle.call_fs.specs.declared.calls.CallData.TheVariants as call
use Rattle.call_fs.specs.declared.calls.Fd.{Fd}
use Rattle.call_fs.specs.declared.calls.FsError.TheVariants as why
use Rattle.call_fs.specs.declared.calls.How.TheVariants as how
use Rattle.call_fs.specs.declared.calls.Told.{Told}
use Rattle.call_fs.specs.declared.past.GotData.{GotData}
use Rattle.call_fs.specs.declared.past.GotData.TheVariants as came
use Rattle.call_fs.specs.declared.past.NeedData.TheVariants as needs
use Rattle.call_fs.specs.declared.past.Own.{Own}
use Rattle.call_fs.specs.Apply.{Apply, IsReadBy, from_place, changed, grown, synced, with_new, with_name, with_open}
use Rattle.call_fs.specs.Disk.{File, Open as OpenFile, Disk}
use Rattle.call_fs.specs.declared.modes.Mode.{Mode}
use Rattle.call_fs.specs.Past.{Makes}
use Rattle.call_fs.specs.Program.{MayCome}
use Rattle.call_fs.proofs.Maps.{put_same, put_at_same}
use Rattle.todo_pass.specs.declared.part.Part.{Part}
use Rattle.todo_pass.specs.declared.part.Part.TheVariants as part
use Rattle.todo_pass.specs.declared.part.Target.{Target}
use Rattle.todo_pass.specs.declared.part.Target.TheVariants as target
use Rattle.todo_pass.specs.declared.row.Row.{Row}
use Rattle.todo_pass.specs.declared.row.Row.TheVariants as at
use Rattle.todo_pass.specs.declared.row.Why.TheVariants as left
use Rattle.todo_pass.specs.declared.sorted.Sorted.{Sorted}
use Rattle.todo_pass.specs.Parts.{part_of, path_in}
use Rattle.todo_pass.specs.Sorting.{sort_todo, text_of, has}
use Rattle.todo_pass.specs.Table.{Pass, goes, cleared, clear_row, stated, open_row, read, read_row, sorted_with, create_row, next_piece, appended, sync_row, made_row, local_row, remote_row, give_row, answer_row, moved_at, due_at, place_after, piece}
use Rattle.todo_pass.specs.Disks.{SameAt, LeaveAlone, LeadsTo, HoldsWhatWasRead}
use Rattle.todo_pass.specs.Run.{IsRun}
use Rattle.call_fs.proofs.Coming.{by_answer}
use Rattle.todo_pass.proofs.Files.{Writing, same_unnamed, same_new, same_changed, same_closed, writing_new, writing_grown, changed_at, open_of, there_synced, read_more}
use Rattle.todo_pass.proofs.Stages.{Status, Is, made_status, channel_status, with_status, clear_status, HasMess, Rests, Says, Needed, channel_settled, rests_left, rests_shut, rests_lost, is_kept, mess_kept, holds_kept, with_kept, its_own, stays}
use Rattle.todo_pass.proofs.Stages.Status.{Gone, Begun, Ready}

-- nothing was read yet
none_read : (had whole : List ℕ) → had ≡ [] → had ≡ take (length had) whole
none_read had whole e = let Read : List ℕ → Type 0 = λ h. h ≡ take (length h) whole in subst Read (sym e) refl

-- another target, as a part
pub apart_of : (t u : Target) → u ≢ t → part_of u ≢ part_of t
apart_of target.Info target.Info a e = a refl
apart_of target.Info target.Local a e = cc
apart_of target.Info target.Remote a e = cc
apart_of target.Local target.Info a e = cc
apart_of target.Local target.Local a e = a refl
apart_of target.Local target.Remote a e = cc
apart_of target.Remote target.Info a e = cc
apart_of target.Remote target.Local a e = cc
apart_of target.Remote target.Remote a e = a refl

not_mess : (t : Target) → part.Mess ≢ part_of t
not_mess target.Info e = cc
not_mess target.Local e = cc
not_mess target.Remote e = cc

not_todo : (t : Target) → part.Todo ≢ part_of t
not_todo target.Info e = cc
not_todo target.Local e = cc
not_todo target.Remote e = cc

module _ (controls : Controls) (p : Pass) (now : ℕ) (d : Disk) where
  -- Clearing away

  clears : (t : Target) (e : Disk) → Rests controls (at.Clear t) p d → e.names (path_in (part_of t) p.n) ≡ None
      → ((u : Target) → u ≢ t → SameAt p.n (part_of u) d e) → Rests controls (cleared t) (goes p (cleared t)) e
  clears target.Info e r gone same = record {
    files = λ u. elim u as (λ v. Is (clear_status target.Local v) p.n v (text_of p.sorted v) e) [ target.Info ↦ gone | target.Local ↦ tt | target.Remote ↦ tt ];
    mess = tt;
    todo = r.todo;
    says = tt;
  }
  clears target.Local e r gone same = record {
    files = λ u. elim u as (λ v. Is (clear_status target.Remote v) p.n v (text_of p.sorted v) e) [
      | target.Info ↦ (same target.Info (λ x. cc)).name ∙ r.files target.Info
      | target.Local ↦ gone
      | target.Remote ↦ tt
    ];
    mess = tt;
    todo = r.todo;
    says = tt;
  }
  clears target.Remote e r gone same = record {
    files = λ u. elim u as (λ v. Is Gone p.n v (text_of p.sorted v) e) [
      | target.Info ↦ (same target.Info (λ x. cc)).name ∙ r.files target.Info
      | target.Local ↦ (same target.Local (λ x. cc)).name ∙ r.files target.Local
      | target.Remote ↦ gone
    ];
    mess = tt;
    todo = r.todo;
    says = tt;
  }

  on_clear : (t : Target) (told : Answer) (e : Disk) → Rests controls (at.Clear t) p d → Apply d now (call.Unlink (path_in (part_of t) p.n)) told e
      → Rests controls (clear_row t told) (goes p (clear_row t told)) e
  on_clear t answer.Done e r applied = subst (Rests controls (cleared t) (goes p (cleared t))) (sym applied.2)
      (clears t (with_name d (path_in (part_of t) p.n) None) r (put_at_same d.names (path_in (part_of t) p.n) None)
      (λ u apart. same_unnamed p.n (part_of t) (part_of u) d None (apart_of t u apart)))
  on_clear t (answer.Refused why.NotThere) e r applied = subst (Rests controls (cleared t) (goes p (cleared t))) (sym applied.2)
      (clears t d r applied.1 (λ u apart. record { name = refl; file = λ k named. refl }))
  on_clear t told e r applied = rests_left controls _ _ e

  -- The message and the todo file

  on_stat : (told : Answer) (e : Disk) → Rests controls at.StatMess p d → Apply d now (call.Stat (path_in part.Mess p.n)) told e
      → Rests controls (stated p told).row (stated p told) e
  on_stat (answer.Stat stat) e r applied = subst (Rests controls at.OpenTodo (stated p (answer.Stat stat))) (sym applied.2)
      (record { files = r.files; mess = (stat.number, applied.1.number, sym applied.1.length_is); todo = r.todo; says = tt })
  on_stat (answer.Refused why.NotThere) e r applied = rests_left controls _ _ e
  on_stat told e r applied = rests_left controls _ _ e

  named_as : (o : Option ℕ) → IsSome o → (k : ℕ) × (o ≡ Some k)
  named_as None h = absurd (cc)
  named_as (Some k) h = (k, refl)

  on_open : (told : Answer) (e : Disk) → Rests controls at.OpenTodo p d → Apply d now (call.Open (path_in part.Todo p.n) how.Read) told e
      → Rests controls (open_row told) (goes p (open_row told)) e
  on_open (answer.Opened fd) e r applied =
      let name : List ℕ = path_in part.Todo p.n in
      let k = named_as (d.names name) applied.1.there in
      let next : Disk = with_open d name how.Read fd.0 in
      let here : Option ℕ → Option OpenFile = λ o. option_map (λ n. record { number = n; mode = Mode.Opened how.Read }) o in
      let opened : next.opens fd.0 ≡ Some (record { number = k.0; mode = Mode.Opened how.Read }) = put_same d.opens fd.0 (here (d.names name)) ∙ ap here k.1 in
      subst (Rests controls (at.ReadTodo fd) (goes p (at.ReadTodo fd))) (sym applied.2) (record {
        files = r.files;
        mess = r.mess;
        todo = (k.0, k.1, opened, none_read p.todo (d.files k.0).bytes r.todo);
        says = tt;
      })
  on_open told e r applied = rests_left controls _ _ e

  -- a call of this row is answered by its descriptor's file
  at_file : (fd : Fd) (o : OpenFile) (from : ℕ) → d.opens fd.0 ≡ Some o → from_place d (d.opens fd.0) from ≡ drop from (d.files o.number).bytes
  at_file fd o from e = ap (λ q. from_place d q from) e

  on_read : (fd : Fd) (told : Told) (e : Disk) → Rests controls (at.ReadTodo fd) p d → Apply d now (call.ReadAt fd (length p.todo) 8192) told.answer e
      → IsReadBy d (call.ReadAt fd (length p.todo) 8192) told → Rests controls (read p fd told.answer told.bytes).row (read p fd told.answer told.bytes) e
  on_read fd told e r applied got = read_answer told.answer told.bytes applied got where
    read_answer : (a : Answer) (bytes : List ℕ) → Apply d now (call.ReadAt fd (length p.todo) 8192) a e → IsReadBy d (call.ReadAt fd (length p.todo) 8192) (record { answer = a; bytes = bytes })
        → Rests controls (read p fd a bytes).row (read p fd a bytes) e
    read_answer (answer.Count count) bytes applied got =
        let k = r.todo in
        let o : OpenFile = record { number = k.0; mode = Mode.Opened how.Read } in
        let whole : List ℕ = (d.files k.0).bytes in
        let here = at_file fd o (length p.todo) k.2 in
        let more = read_more whole p.todo bytes count k.3 (applied.1.1 ∙ ap (λ b. min 8192 (length b)) here) (got ∙ ap (take count) here) in
        let next : Bool → Row = λ t. if t then at.CloseTodo fd else at.ReadTodo fd in
        let with_row : Row → Pass = λ row. record p { row = row; todo = p.todo ++ bytes } in
        subst (Rests controls (read_row fd bytes) (with_row (read_row fd bytes))) (sym applied.2)
        (elim (ltb (length bytes) 8192) as (λ t. ltb (length bytes) 8192 ≡ t → Rests controls (next t) (with_row (next t)) d) [
          | true ↦ λ short. record { files = r.files; mess = r.mess; todo = (k.0, k.1, sym (more.1 (ltb-true (length bytes) 8192 short))); says = tt }
          | false ↦ λ long. record { files = r.files; mess = r.mess; todo = (k.0, k.1, k.2, more.0); says = tt }
        ] refl)
    read_answer a bytes applied got = rests_shut controls fd _ _ e

  -- a close leaves each part as it is
  on_close : (fd : Fd) (told : Answer) (e : Disk) → Apply d now (call.Close fd) told e → (q : Part) → SameAt p.n q d e
  on_close fd answer.Done e applied q = subst (SameAt p.n q d) (sym applied.2) (same_closed p.n q d fd.0)
  on_close fd told e applied q = absurd applied.1

  on_close_todo : (fd : Fd) (told : Answer) (e : Disk) → Rests controls (at.CloseTodo fd) p d → Apply d now (call.Close fd) told e
      → Rests controls (sorted_with p (sort_todo controls p.todo)).row (sorted_with p (sort_todo controls p.todo)) e
  on_close_todo fd told e r applied =
      let same = on_close fd told e applied in
      elim (sort_todo controls p.todo) as (λ o. sort_todo controls p.todo ≡ o → Rests controls (sorted_with p o).row (sorted_with p o) e) [
        | Ok s ↦ λ sorted. record {
          files = λ u. elim u as (λ v. Is (with_status target.Info Gone s v) p.n v (text_of s v) e) [
            | target.Info ↦ (same part.Info).name ∙ r.files target.Info
            | target.Local ↦ (same part.Local).name ∙ r.files target.Local
            | target.Remote ↦ (same part.Remote).name ∙ r.files target.Remote
          ];
          mess = mess_kept p d e (same part.Mess) r.mess;
          todo = holds_kept p d e (same part.Todo) r.todo;
          says = (sorted, tt);
        }
        | Err place ↦ λ sorted. rests_left controls _ _ e
      ] refl

  -- Making a file

  on_create : (t : Target) (told : Answer) (e : Disk) → Rests controls (at.Create t) p d → Apply d now (call.CreateExcl (path_in (part_of t) p.n)) told e
      → Rests controls (create_row t told) (goes p (create_row t told)) e
  on_create t (answer.Created fd m) e r applied =
      let name : List ℕ = path_in (part_of t) p.n in
      let next : Disk = with_new d now name fd.0 m in
      let unnamed = applied.1.unused.unnamed in
      subst (Rests controls (at.Append t fd 0) (goes p (at.Append t fd 0))) (sym applied.2) (record {
        files = with_kept t Gone (Begun fd []) p.sorted p.n d next (λ u apart. same_new p.n (part_of t) (part_of u) d now fd.0 m (apart_of t u apart) unnamed)
            (writing_new p.n t fd d now m unnamed) r.files;
        mess = mess_kept p d next (same_new p.n (part_of t) part.Mess d now fd.0 m (not_mess t) unnamed) r.mess;
        todo = holds_kept p d next (same_new p.n (part_of t) part.Todo d now fd.0 m (not_todo t) unnamed) r.todo;
        says = r.says;
      })
  on_create t told e r applied = rests_left controls _ _ e

  -- the open file that is written
  module _ (t : Target) (fd : Fd) (written : List ℕ) (w : Writing p.n t fd written d) (f : File → File) where
    abbrev after_write : Disk
    after_write = changed d (Some (open_of w.number)) f

    write_is : changed d (d.opens fd.0) f ≡ after_write
    write_is = changed_at d fd w.number f w.opened

    same_write : (q : Part) → q ≢ part_of t → SameAt p.n q d after_write
    same_write q apart = same_changed p.n q d (open_of w.number) f (w.alone q apart)

  on_append : (t : Target) (fd : Fd) (done : ℕ) (told : Answer) (e : Disk) → Rests controls (at.Append t fd done) p d
      → Apply d now (call.Append fd (piece (text_of p.sorted t) done)) told e → Rests controls (appended p t fd done now told).row (appended p t fd done now told) e
  on_append t fd done answer.Done e r applied =
      let text : List ℕ = text_of p.sorted t in
      let more : List ℕ = piece text done in
      let w : Writing p.n t fd (take done text) d = its_own t (Begun fd (take done text)) p.sorted p.n d r.files in
      let next : Disk = after_write t fd (take done text) w (grown now more) in
      let is : e ≡ next = applied.2 ∙ write_is t fd (take done text) w (grown now more) in
      let same = same_write t fd (take done text) w (grown now more) in
      let on : Writing p.n t fd (take (done + 8192) text) next =
      subst (λ b. Writing p.n t fd b next) (sym (take-add done 8192 text)) (writing_grown p.n t fd (take done text) more d now w) in
      let row : Bool → Row = λ b. if b then at.Append t fd (done + 8192) else at.Sync t fd in
      let after : Row → Pass = λ it. record (appended p t fd done now answer.Done) { row = it } in
      let mess = mess_kept p d next (same part.Mess (not_mess t)) r.mess in
      let todo = holds_kept p d next (same part.Todo (not_todo t)) r.todo in
      let others = λ (u : Target) (apart : u ≢ t). same (part_of u) (apart_of t u apart) in
      subst (Rests controls (next_piece t fd (done + 8192) text) (appended p t fd done now answer.Done)) (sym is)
      (elim (ltb (done + 8192) (length text)) as (λ b. ltb (done + 8192) (length text) ≡ b → Rests controls (row b) (after (row b)) next) [
        | true ↦ λ below. record {
          files = with_kept t (Begun fd (take done text)) (Begun fd (take (done + 8192) text)) p.sorted p.n d next others on r.files;
          mess = mess;
          todo = todo;
          says = r.says;
        }
        | false ↦ λ above. record {
          files = with_kept t (Begun fd (take done text)) (Begun fd text) p.sorted p.n d next others
              (subst (λ b. Writing p.n t fd b next) (take_all (done + 8192) text (ltb-false (done + 8192) (length text) above)) on) r.files;
          mess = mess;
          todo = todo;
          says = r.says;
        }
      ] refl)
  on_append t fd done told e r applied = rests_shut controls fd _ _ e

  on_sync : (t : Target) (fd : Fd) (told : Answer) (e : Disk) → Rests controls (at.Sync t fd) p d → Apply d now (call.Sync fd) told e
      → Rests controls (sync_row t fd told) (goes p (sync_row t fd told)) e
  on_sync t fd answer.Done e r applied =
      let text : List ℕ = text_of p.sorted t in
      let w : Writing p.n t fd text d = its_own t (Begun fd text) p.sorted p.n d r.files in
      let next : Disk = after_write t fd text w synced in
      let same = same_write t fd text w synced in
      subst (Rests controls (at.Close t fd) (goes p (at.Close t fd))) (sym (applied.2 ∙ write_is t fd text w synced)) (record {
        files = with_kept t (Begun fd text) Ready p.sorted p.n d next (λ u apart. same (part_of u) (apart_of t u apart)) (there_synced p.n t fd text d w) r.files;
        mess = mess_kept p d next (same part.Mess (not_mess t)) r.mess;
        todo = holds_kept p d next (same part.Todo (not_todo t)) r.todo;
        says = r.says;
      })
  on_sync t fd told e r applied = rests_shut controls fd _ _ e

  -- After a file: the parts are as they were, and the next row is by which channels have recipients.
  module _ (e : Disk) (same : (u : Target) → SameAt p.n (part_of u) d e) (mess : HasMess p e) (todo : HoldsWhatWasRead p.n p e) (said : Says controls p) where
    abbrev Stands : Row → Type 0
    Stands row = Rests controls row (goes p row) e

    abbrev Now : Status → Target → Type 0
    Now s u = Is s p.n u (text_of p.sorted u) e

    info_ready : Is Ready p.n target.Info p.sorted.info d → Now Ready target.Info
    info_ready h = is_kept Ready p.n target.Info p.sorted.info d e tt (same target.Info) h

    local_by : (b : Bool) → has p.sorted.local ≡ b → Now (channel_status b) target.Local → Now (channel_status (has p.sorted.local)) target.Local
    local_by b eb h = subst (λ x. Now (channel_status x) target.Local) (sym eb) h

    remote_by : (b : Bool) → has p.sorted.remote ≡ b → Now (channel_status b) target.Remote → Now (channel_status (has p.sorted.remote)) target.Remote
    remote_by b eb h = subst (λ x. Now (channel_status x) target.Remote) (sym eb) h

    -- after those of info and of local, as the latter is, with no remote one
    to_remote : (c : Bool) → has p.sorted.remote ≡ c → Now Ready target.Info → Now (channel_status (has p.sorted.local)) target.Local → Now Gone target.Remote → Stands (remote_row c)
    to_remote true ec info local remote = record {
      files = λ u. elim u as (λ v. Now (with_status target.Remote Gone p.sorted v) v) [ target.Info ↦ info | target.Local ↦ local | target.Remote ↦ remote ];
      mess = mess;
      todo = todo;
      says = (said, ec);
    }
    to_remote false ec info local remote = record {
      files = λ u. elim u as (λ v. Now (made_status p.sorted v) v) [ target.Info ↦ info | target.Local ↦ local | target.Remote ↦ remote_by false ec remote ];
      mess = mess;
      todo = todo;
      says = said;
    }

    to_local : (b c : Bool) → has p.sorted.local ≡ b → has p.sorted.remote ≡ c → Now Ready target.Info → Now Gone target.Local → Now Gone target.Remote → Stands (local_row b c)
    to_local true c eb ec info local remote = record {
      files = λ u. elim u as (λ v. Now (with_status target.Local Gone p.sorted v) v) [ target.Info ↦ info | target.Local ↦ local | target.Remote ↦ remote ];
      mess = mess;
      todo = todo;
      says = (said, eb);
    }
    to_local false c eb ec info local remote = to_remote c ec info (local_by false eb local) remote

    after_file : (t : Target) → Needed t p.sorted → ((u : Target) → Is (with_status t Ready p.sorted u) p.n u (text_of p.sorted u) d) → Stands (made_row t p.sorted)
    after_file target.Info needed old = to_local (has p.sorted.local) (has p.sorted.remote) refl refl (info_ready (old target.Info))
        ((same target.Local).name ∙ old target.Local) ((same target.Remote).name ∙ old target.Remote)
    after_file target.Local needed old = to_remote (has p.sorted.remote) refl (info_ready (old target.Info))
        (local_by true needed (is_kept Ready p.n target.Local p.sorted.local d e tt (same target.Local) (old target.Local)))
        ((same target.Remote).name ∙ old target.Remote)
    after_file target.Remote needed old = record {
      files = λ u. elim u as (λ v. Now (made_status p.sorted v) v) [
        | target.Info ↦ info_ready (old target.Info)
        | target.Local ↦ is_kept (channel_status (has p.sorted.local)) p.n target.Local p.sorted.local d e (channel_settled (has p.sorted.local)) (same target.Local) (old target.Local)
        | target.Remote ↦ remote_by true needed (is_kept Ready p.n target.Remote p.sorted.remote d e tt (same target.Remote) (old target.Remote))
      ];
      mess = mess;
      todo = todo;
      says = said;
    }

  on_close_file : (t : Target) (fd : Fd) (told : Answer) (e : Disk) → Rests controls (at.Close t fd) p d → Apply d now (call.Close fd) told e
      → Rests controls (made_row t p.sorted) (goes p (made_row t p.sorted)) e
  on_close_file t fd told e r applied =
      let same = on_close fd told e applied in
      after_file e (λ u. same (part_of u)) (mess_kept p d e (same part.Mess) r.mess) (holds_kept p d e (same part.Todo) r.todo) r.says.0 t r.says.1 r.files

  -- The cleaner

  on_give : (got : GotData) (e : Disk) → Rests controls at.Give p d → e ≡ d → Rests controls (give_row got) (goes p (give_row got)) e
  on_give came.Gave e r is = subst (Rests controls at.Answer (goes p at.Answer)) (sym is) (record { files = r.files; mess = r.mess; todo = tt; says = r.says })
  on_give got e r is = rests_lost controls _ e

  on_answer : (got : GotData) (e : Disk) → Rests controls at.Answer p d → e ≡ d → Rests controls (answer_row got) (goes p (answer_row got)) e
  on_answer (came.Took bytes) e r is =
      let row : Bool → Row = λ b. if b then at.Done else at.Left left.Unclean in
      subst (Rests controls (answer_row (came.Took bytes)) (goes p (answer_row (came.Took bytes)))) (sym is)
      (elim (bytes_eq bytes (43 ∷ [])) as (λ b. Rests controls (row b) (goes p (row b)) d) [
        | true ↦ record { files = r.files; mess = r.mess; todo = tt; says = r.says }
        | false ↦ rests_left controls _ _ d
      ])
  on_answer got e r is = rests_lost controls _ e

  -- Any step

  abbrev StepOf : Row → GotData → Type 0
  StepOf row got = (e : Disk) → Rests controls row p d → Makes d now (due_at row p) got e → Rests controls (moved_at controls row p now got).row (moved_at controls row p now got) e

  -- nothing comes of an end
  none_comes : {A : Type 0} (status : ℕ) (got : GotData) → MayCome (needs.Ended status) got → A
  none_comes status got may = absurd may

  step : (row : Row) (got : GotData) → MayCome (due_at row p) got → StepOf row got
  step (at.Clear t) got may = by_answer (call.Unlink (path_in (part_of t) p.n)) (StepOf (at.Clear t)) got may (λ told e r made. on_clear t told.answer e r made.0)
  step at.StatMess got may = by_answer (call.Stat (path_in part.Mess p.n)) (StepOf at.StatMess) got may (λ told e r made. on_stat told.answer e r made.0)
  step at.OpenTodo got may = by_answer (call.Open (path_in part.Todo p.n) how.Read) (StepOf at.OpenTodo) got may (λ told e r made. on_open told.answer e r made.0)
  step (at.ReadTodo fd) got may = by_answer (call.ReadAt fd (length p.todo) 8192) (StepOf (at.ReadTodo fd)) got may (λ told e r made. on_read fd told e r made.0 made.1)
  step (at.CloseTodo fd) got may = by_answer (call.Close fd) (StepOf (at.CloseTodo fd)) got may (λ told e r made. on_close_todo fd told.answer e r made.0)
  step (at.Create t) got may = by_answer (call.CreateExcl (path_in (part_of t) p.n)) (StepOf (at.Create t)) got may (λ told e r made. on_create t told.answer e r made.0)
  step (at.Append t fd done) got may = by_answer (call.Append fd (piece (text_of p.sorted t) done)) (StepOf (at.Append t fd done)) got may (λ told e r made. on_append t fd done told.answer e r made.0)
  step (at.Sync t fd) got may = by_answer (call.Sync fd) (StepOf (at.Sync t fd)) got may (λ told e r made. on_sync t fd told.answer e r made.0)
  step (at.Close t fd) got may = by_answer (call.Close fd) (StepOf (at.Close t fd)) got may (λ told e r made. on_close_file t fd told.answer e r made.0)
  step (at.Shut fd why) got may = by_answer (call.Close fd) (StepOf (at.Shut fd why)) got may (λ told e r made. rests_left controls why _ e)
  step at.Give got may = λ e r made. on_give got e r made
  step at.Answer got may = λ e r made. on_answer got e r made
  step at.Done got may = none_comes 0 got may
  step (at.Left why) got may = none_comes 0 got may
  step at.Lost got may = none_comes 0 got may

-- A whole run

stated_n : (p : Pass) (told : Answer) → (stated p told).n ≡ p.n
stated_n p (answer.Stat stat) = refl
stated_n p (answer.Refused why.NotThere) = refl
stated_n p told = refl

read_n : (p : Pass) (fd : Fd) (told : Answer) (bytes : List ℕ) → (read p fd told bytes).n ≡ p.n
read_n p fd (answer.Count count) bytes = refl
read_n p fd told bytes = refl

sorted_n : (p : Pass) (o : Result Sorted ℕ) → (sorted_with p o).n ≡ p.n
sorted_n p (Ok s) = refl
sorted_n p (Err place) = refl

appended_n : (p : Pass) (t : Target) (fd : Fd) (done now : ℕ) (told : Answer) → (appended p t fd done now told).n ≡ p.n
appended_n p t fd done now answer.Done = refl
appended_n p t fd done now told = refl

-- a pass keeps its number
goes_n : (controls : Controls) (row : Row) (p : Pass) (now : ℕ) (got : GotData) → (moved_at controls row p now got).n ≡ p.n
goes_n controls at.Give p now got = refl
goes_n controls at.Answer p now got = refl
goes_n controls at.StatMess p now (came.Answered told) = stated_n p told.answer
goes_n controls at.StatMess p now got = refl
goes_n controls (at.ReadTodo fd) p now (came.Answered told) = read_n p fd told.answer told.bytes
goes_n controls (at.ReadTodo fd) p now got = refl
goes_n controls (at.CloseTodo fd) p now (came.Answered told) = sorted_n p (sort_todo controls p.todo)
goes_n controls (at.CloseTodo fd) p now got = refl
goes_n controls (at.Append t fd done) p now (came.Answered told) = appended_n p t fd done now told.answer
goes_n controls (at.Append t fd done) p now got = refl
goes_n controls (at.Clear t) p now (came.Answered told) = refl
goes_n controls (at.Clear t) p now got = refl
goes_n controls at.OpenTodo p now (came.Answered told) = refl
goes_n controls at.OpenTodo p now got = refl
goes_n controls (at.Create t) p now (came.Answered told) = refl
goes_n controls (at.Create t) p now got = refl
goes_n controls (at.Sync t fd) p now (came.Answered told) = refl
goes_n controls (at.Sync t fd) p now got = refl
goes_n controls (at.Close t fd) p now (came.Answered told) = refl
goes_n controls (at.Close t fd) p now got = refl
goes_n controls (at.Shut fd why) p now (came.Answered told) = refl
goes_n controls (at.Shut fd why) p now got = refl
goes_n controls at.Done p now (came.Answered told) = refl
goes_n controls at.Done p now got = refl
goes_n controls (at.Left why) p now (came.Answered told) = refl
goes_n controls (at.Left why) p now got = refl
goes_n controls at.Lost p now (came.Answered told) = refl
goes_n controls at.Lost p now got = refl

pub numbered : (controls : Controls) (n : ℕ) (past : List Own) → (place_after controls n past).n ≡ n
numbered controls n [] = refl
numbered controls n (event ∷ before) =
    let p : Pass = place_after controls n before in
    goes_n controls p.row p event.read event.came ∙ numbered controls n before

pub rests : (controls : Controls) (n : ℕ) (past : List Own) (first last : Disk) → IsRun controls n past → LeadsTo controls n first past last
    → Rests controls (place_after controls n past).row (place_after controls n past) last
rests controls n [] first last run leads = record { files = λ u. tt; mess = tt; todo = refl; says = tt }
rests controls n (event ∷ before) first last run leads =
    let p : Pass = place_after controls n before in
    let q : Pass = place_after controls n (event ∷ before) in
    let old = rests controls n before first leads.0 run.0 leads.2 in
    let due = run.1.0 in
    let may = subst (λ x. MayCome x event.came) (sym due) run.1.1 in
    let made = subst (λ x. Makes leads.0 event.read x event.came leads.1) (sym due) leads.3 in
    let stood = step controls p event.read leads.0 p.row event.came may leads.1 old made in
    stays controls q leads.1 last q.row stood (subst (λ k. LeaveAlone k q.row leads.1 last) (sym (numbered controls n (event ∷ before))) leads.4)
