-- A step of one actor leaves what the others rely on.
use Rattle.std.proofs.Common.{◌≡◌, ◌≢◌, inl, inr, ℕ, List, Bool, Option, Some, refl, sym, ◌∙◌, subst}
use Rattle.queue_inject.specs.declared.injection.Arguments.{Arguments}
use Rattle.queue_inject.specs.declared.row.Row.{Row}
use Rattle.queue_inject.specs.declared.row.Row.TheVariants as at
use Rattle.call_fs.specs.Disk.{Disk, Open}
use Rattle.queue_paths.specs.Names.Name.{Pid, Of}
use Rattle.queue_paths.specs.Names.Part.{Mess}
use Rattle.queue_inject.specs.Table.{place_after as inject_after}
use Rattle.call_fs.specs.declared.past.Own.{Own}
use Rattle.queue_law.specs.Books.{Injection, Books, IsInjected, IsLater, HasQueued}
use Rattle.queue_law.specs.Numbers.{Entry, Queue, look, About, about}
use Rattle.queue_law.specs.Injectors.{created, IsBegun, Holds, AtLink, AtMess, AtUnlink, AtTodo, Relies, Settles, InTime, InjectorFares}
use Rattle.queue_law.specs.Numbers.Role.{AsMessage}
use Rattle.queue_law.specs.Steps.{Touches, Elsewhere, Outside}
use Rattle.queue_law.proofs.Growth.{grown_same}

-- a disk with the same names and files
pub outside_same : (d : Disk) (opens : ℕ → Option Open) → Outside d (record { dirs = d.dirs; names = d.names; files = d.files; opens = opens })
outside_same d opens = record { names = λ _ _. refl; files = λ _ _. refl; unqueued = λ i out x is. out.unqueued x is }

-- the same injection, with the same ledger
pub same_later : (i : Injection) → IsLater i i
same_later i = record { number_is = refl; actor_is = refl; args_are = refl; accepted_is = refl; grown = grown_same i.ledger }

-- an injection that is still in the books
pub still_there : (b : Books) (i : Injection) → IsInjected b i → (j : Injection) × IsInjected b j × IsLater i j
still_there b i h = (i, h, same_later i)

module _ (now : ℕ) (a : List ℕ) (m : Option ℕ) (q r : Queue) (E : Elsewhere now a m q r) where
  pub about_same : (n : ℕ) → m ≢ Some n → about r n ≡ about q n
  about_same n far = λ i. record { parts = λ part. E.looks (Of part n) far i; living = E.living n far i }

  queued_frame : (o : List ℕ) (args : Arguments) → HasQueued q.books o args → HasQueued r.books o args
  queued_frame o args h =
      let w = E.accepted h.0 h.1 h.4 in
      (w.0, w.1, w.2.actor_is ∙ h.2, w.2.args_are ∙ h.3, w.2.accepted_is ∙ h.4)

  settles_frame : (o : List ℕ) (args : Arguments) (row : Row) → Settles q.books o args row → Settles r.books o args row
  settles_frame o args at.Queued h = queued_frame o args h
  settles_frame o args (at.CleanIntd n cause) h = h
  settles_frame o args (at.CleanMess n cause) h = h
  settles_frame o args (at.Failed cause) h = h
  settles_frame o args (at.SyncMess n fd) h = h
  settles_frame o args (at.CreateIntd n) h = h
  settles_frame o args (at.AppendTodo n fd done) h = h
  settles_frame o args (at.SyncTodo n fd) h = h
  settles_frame o args (at.LinkTodo n) h = h
  settles_frame o args row h = tt

  module _ (o : List ℕ) (other : o ≢ a) (args : Arguments) (soon : InTime now args) where
    holds_frame : (n : ℕ) (P : About → Type 0) → ((w : About) → P w → IsBegun w o args n) → Holds q o args n P → Holds r o args n P
    holds_frame n P begins h =
        let b = begins (about q n) h.rest in
        record {
          mine = E.roles (Of Mess n) (record { number = n; file = b.file }) b.mess ∙ h.mine;
          rest = subst P (sym (about_same n (E.apart o args other soon (Of Mess n) (record { number = n; file = b.file }) b.mess h.mine (inr b.lives)))) h.rest;
        }

    pid_frame : (p s k : ℕ) (y : Entry) → q.role y.number ≡ AsMessage o args → Touches q o args y.number → look q (Pid p s k) ≡ Some y → look r (Pid p s k) ≡ Some y
    pid_frame p s k y mine touches h = E.looks (Pid p s k) (λ c. E.apart o args other soon (Pid p s k) y h mine touches (c y h)) ∙ h

    mess_frame : (n fd : ℕ) (bytes : List ℕ) → AtMess q o args n fd bytes → AtMess r o args n fd bytes
    mess_frame n fd bytes h = record { holds = holds_frame n _ (λ w d. d.bare.begins) h.holds; opened = E.opens o fd (created n) other h.opened }

    todo_frame : (n fd : ℕ) (bytes : List ℕ) → AtTodo q o args n fd bytes → AtTodo r o args n fd bytes
    todo_frame n fd bytes h = record {
      number = h.number;
      holds = holds_frame n _ (λ w d. d.begins) h.holds;
      opened = E.opens o fd (created h.number) other h.opened;
    }

    link_frame : (seq n fd : ℕ) → AtLink q o args seq n fd → AtLink r o args seq n fd
    link_frame seq n fd h = record {
      mine = E.roles (Pid args.pid args.start seq) (record { number = n; file = h.file }) h.pid ∙ h.mine;
      file = h.file;
      no_mess = E.looks (Of Mess n) (E.apart o args other soon (Pid args.pid args.start seq) (record { number = n; file = h.file }) h.pid h.mine (inl h.no_mess)) ∙ h.no_mess;
      pid = pid_frame args.pid args.start seq (record { number = n; file = h.file }) h.mine (inl h.no_mess) h.pid;
      empty = h.empty;
      opened = E.opens o fd (created n) other h.opened;
    }

    unlink_frame : (seq n fd : ℕ) → AtUnlink q o args seq n fd → AtUnlink r o args seq n fd
    unlink_frame seq n fd h = record {
      mess = mess_frame n fd _ h.mess;
      file = h.file;
      pid = pid_frame args.pid args.start seq (record { number = n; file = h.file }) h.mess.holds.mine (inr h.mess.holds.rest.bare.begins.lives) h.pid;
    }

    relies_frame : (row : Row) → Relies q o args row → Relies r o args row
    relies_frame (at.Create seq) h = tt
    relies_frame (at.LinkMess seq n fd) h = link_frame seq n fd.0 h
    relies_frame (at.UnlinkPid seq n fd) h = unlink_frame seq n fd.0 h
    relies_frame (at.AppendMess n fd done) h = mess_frame n fd.0 _ h
    relies_frame (at.SyncMess n fd) h = mess_frame n fd.0 _ h
    relies_frame (at.CreateIntd n) h = holds_frame n _ (λ w d. d.bare.begins) h
    relies_frame (at.AppendTodo n fd done) h = todo_frame n fd.0 _ h
    relies_frame (at.SyncTodo n fd) h = todo_frame n fd.0 _ h
    relies_frame (at.LinkTodo n) h = record { number = h.number; holds = holds_frame n _ (λ w d. d.begins) h.holds }
    relies_frame (at.CleanIntd n cause) h = holds_frame n _ (λ w d. d) h
    relies_frame (at.CleanMess n cause) h = holds_frame n _ (λ w d. d.begins) h
    relies_frame at.Queued h = tt
    relies_frame (at.Failed cause) h = tt

  -- another injector fares as before
  pub injector_frame : (o : List ℕ) → o ≢ a → (args : Arguments) (past : List Own) (lives ended : Bool) → InjectorFares now q o args past lives ended → InjectorFares now r o args past lives ended
  injector_frame o other args past lives ended h = record {
    stands = λ alive. let s = h.stands alive in record {
      relies = λ soon. relies_frame o other args soon (inject_after args past) (s.relies soon);
      settles = settles_frame o args (inject_after args past) s.settles;
    };
    queued = λ row. queued_frame o args (h.queued row);
    ends = h.ends;
    reads = h.reads;
  }
