-- How the calls of a run end.
use Rattle.std.proofs.Common.{◌≡◌, ◌≢◌, ℕ, zero, suc, ◌+◌, ◌≤◌, ◌<◌, List, [], ◌∷◌, ◌++◌, length, Bool, refl, sym, ap, ◌∙◌, subst, inl, arith, append_assoc}
use Rattle.std.proofs.lemmas.Bool.{ltb-true}
use Rattle.std.proofs.lemmas.List.{append-nil}
use Rattle.call_fs.specs.declared.calls.CallData.{CallData}
use Rattle.call_fs.specs.declared.calls.CallData.TheVariants.{Unlink}
use Rattle.call_fs.specs.declared.calls.Answer.TheVariants.{Done}
use Rattle.call_fs.specs.declared.calls.Fd.{Fd}
use Rattle.call_fs.specs.declared.program.Ready.{Ready}
use Rattle.call_fs.specs.declared.past.NeedData.{NeedData}
use Rattle.call_fs.specs.declared.past.NeedData.TheVariants as needs
use Rattle.call_fs.specs.declared.past.Own.{Own}
use Rattle.queue_paths.specs.Names.{path}
use Rattle.queue_paths.specs.Names.Part.{Mess, Intd}
use Rattle.queue_paths.specs.Names.Name.{Of}
use Rattle.queue_inject.specs.declared.injection.Arguments.{Arguments}
use Rattle.queue_inject.specs.declared.row.Row.{Row}
use Rattle.queue_inject.specs.declared.row.Row.TheVariants as at
use Rattle.queue_inject.specs.Texts.{message_text, intd_text}
use Rattle.queue_inject.specs.Table.{place_after, due_by, has_input, is_late, in_time, Next}
use Rattle.queue_inject.specs.Run.{IsRun}
use Rattle.queue_inject.specs.Written.{Act, act, acts_of, Chosen, IsChosen, taken_names, in_s1, in_s2, in_s3, to_s4, written, AreRemoved, IsStopped, IsWritten}
use Rattle.queue_inject.specs.Written.AreRemoved.{All, Next as Removed}
use Rattle.queue_inject.specs.Written.Ends.{Queued, Stopped, Late, CutShort}
use Rattle.queue_inject.proofs.Causes.{out_of_time}
use Rattle.queue_inject.proofs.Cuts.{Cuts, cut}
use Rattle.queue_inject.proofs.Along.{inside, IsAlong, IsCleaning, of_run, last_left, StandsAt}
use Rattle.queue_inject.proofs.Written.{no_fd, fits_of, stands_at}

-- lists that aren't empty
cons_some : (x : Act) (l : List Act) → x ∷ l ≢ []
cons_some x l e = cc

more_some : (l : List Act) (x : Act) → l ++ x ∷ [] ≢ []
more_some [] x e = cons_some x [] e
more_some (y ∷ l) x e = cons_some y (l ++ x ∷ []) e

-- the clean up of the last name, and of two, if each is there
removes_one : (name : List ℕ) → AreRemoved (name ∷ []) (act (Unlink name) Done ∷ [])
removes_one name = Removed name [] Done [] (inl refl) All

removes_two : (name other : List ℕ) → AreRemoved (name ∷ (other ∷ [])) (act (Unlink name) Done ∷ (act (Unlink other) Done ∷ []))
removes_two name other = Removed name (other ∷ []) Done (act (Unlink other) Done ∷ []) (inl refl) (removes_one other)

module _ (args : Arguments) (past : List Own) (now : ℕ) where
  abbrev IsLateNow : Type 0
  IsLateNow = args.start + 86400 < now

  late_after : (c : Chosen) (made rest : List Act) → IsChosen args c → acts_of past ≡ taken_names args c.taken ++ made → written args c ≡ made ++ rest → rest ≢ [] → IsLateNow → IsWritten args past now 52
  late_after c made rest fits calls whole some late = record {
    chosen = c;
    fits = fits;
    made = made;
    rest = rest;
    after = [];
    calls = calls ∙ ap (λ t. taken_names args c.taken ++ t) (sym (append-nil made));
    whole = whole;
    end = Late made rest late some;
  }

  late_s1 : (c : Chosen) (x : Act) (rest : List Act) → IsChosen args c → IsAlong args (acts_of past) c [] (in_s1 args c) (x ∷ rest) → IsLateNow → IsWritten args past now 52
  late_s1 c x rest fits a late =
      let following : List Act = in_s2 args c ++ (in_s3 c ++ to_s4 c) in
      late_after c a.made (x ∷ rest ++ following) fits a.calls (inside [] (in_s1 args c) following a.made (x ∷ rest) a.part_is) (cons_some x (rest ++ following)) late

  late_s2 : (c : Chosen) (rest : List Act) → IsChosen args c → IsAlong args (acts_of past) c (in_s1 args c) (in_s2 args c) rest → IsLateNow → IsWritten args past now 52
  late_s2 c rest fits a late =
      let following : List Act = in_s3 c ++ to_s4 c in
      late_after c (in_s1 args c ++ a.made) (rest ++ following) fits a.calls (inside (in_s1 args c) (in_s2 args c) following a.made rest a.part_is)
      (λ e. more_some (rest ++ in_s3 c) _ (append_assoc rest (in_s3 c) (to_s4 c) ∙ e)) late

  late_s3 : (c : Chosen) (rest : List Act) → IsChosen args c → IsAlong args (acts_of past) c (in_s1 args c ++ in_s2 args c) (in_s3 c) rest → IsLateNow → IsWritten args past now 52
  late_s3 c rest fits a late =
      late_after c ((in_s1 args c ++ in_s2 args c) ++ a.made) (rest ++ to_s4 c) fits a.calls
      (sym (append_assoc (in_s1 args c) (in_s2 args c) (in_s3 c ++ to_s4 c)) ∙ inside (in_s1 args c ++ in_s2 args c) (in_s3 c) (to_s4 c) a.made rest a.part_is)
      (λ e. more_some rest _ e) late

  late_cleaning : (names : List (List ℕ)) (status : ℕ) (x : Act) (more : List Act) → IsCleaning args (acts_of past) names status → AreRemoved names (x ∷ more) → IsLateNow → IsWritten args past now 52
  late_cleaning names status x more k are late = record {
    chosen = k.chosen;
    fits = k.fits;
    made = k.made;
    rest = k.rest;
    after = k.so_far;
    calls = k.calls;
    whole = k.whole;
    end = CutShort k.made k.rest k.so_far (x ∷ more) status late (cons_some x more) (k.stops (x ∷ more) are);
  }

  stopped : (status : ℕ) → IsCleaning args (acts_of past) [] status → IsWritten args past now status
  stopped status k = record {
    chosen = k.chosen;
    fits = k.fits;
    made = k.made;
    rest = k.rest;
    after = k.so_far;
    calls = k.calls;
    whole = k.whole;
    end = Stopped k.made k.rest k.so_far status (subst (IsStopped args k.chosen status k.made) (append-nil k.so_far) (k.stops [] All));
  }

  queued : (c : Chosen) → IsChosen args c → acts_of past ≡ taken_names args c.taken ++ written args c → IsWritten args past now 0
  queued c fits calls = record {
    chosen = c;
    fits = fits;
    made = written args c;
    rest = [];
    after = [];
    calls = calls ∙ ap (λ t. taken_names args c.taken ++ t) (sym (append-nil (written args c)));
    whole = sym (append-nil (written args c));
    end = Queued (written args c);
  }

module _ (args : Arguments) (past : List Own) (now : ℕ) (input : Bool) (status : ℕ) where
  abbrev EndsAt : Row → Type 0
  EndsAt row = in_time input (is_late args now) (due_by args row) ≡ needs.Ended status

  at_call : (call : CallData) → (args.start + 86400 < now → IsWritten args past now 52) → in_time input (is_late args now) (needs.File call) ≡ needs.Ended status → IsWritten args past now status
  at_call call late end =
      let told = out_of_time input (is_late args now) call status end in
      subst (IsWritten args past now) told.1 (late (ltb-true (args.start + 86400) now told.0))

  at_end : (last : ℕ) → IsWritten args past now last → ◌≡◌ {A = NeedData} (needs.Ended last) (needs.Ended status) → IsWritten args past now status
  at_end last w end = let is : last ≡ status = cc in subst (IsWritten args past now) is w

  module _ (mess todo : List (List ℕ)) (mess_cuts : Cuts (message_text args).bytes mess) (todo_cuts : Cuts (intd_text args).bytes todo) where
    fits : (t n : ℕ) (fd intd : Fd) (i : ℕ) → t ≤ 8 → IsChosen args (of_run mess todo t n fd intd i)
    fits = fits_of args mess todo mess_cuts todo_cuts

    ends_at : (row : Row) → StandsAt args mess todo (acts_of past) row → EndsAt row → IsWritten args past now status
    ends_at (at.Create zero) here end = absurd here
    ends_at (at.Create (suc t)) (few, is) end =
        let c : Chosen = of_run mess todo t 0 no_fd no_fd 0 in
        at_call _ (late_after args past now c [] (written args c) (fits t 0 no_fd no_fd 0 few) (is ∙ sym (append-nil (taken_names args t))) refl (cons_some _ _)) end
    ends_at (at.LinkMess zero n fd) here end = absurd here
    ends_at (at.LinkMess (suc t) n fd) (few, along) end =
        at_call _ (late_s1 args past now (of_run mess todo t n fd no_fd 0) _ [] (fits t n fd no_fd 0 few) (along no_fd 0)) end
    ends_at (at.UnlinkPid zero n fd) here end = absurd here
    ends_at (at.UnlinkPid (suc t) n fd) (few, along) end =
        at_call _ (late_s2 args past now (of_run mess todo t n fd no_fd 0) _ (fits t n fd no_fd 0 few) (along no_fd 0)) end
    ends_at (at.AppendMess n fd done) (m, less) end =
        at_call _ (late_s2 args past now (of_run mess todo m.t n fd no_fd 0) _ (fits m.t n fd no_fd 0 m.few) (m.along no_fd 0)) end
    ends_at (at.SyncMess n fd) m end =
        at_call _ (late_s2 args past now (of_run mess todo m.t n fd no_fd 0) _ (fits m.t n fd no_fd 0 m.few) (m.along no_fd 0)) end
    ends_at (at.CreateIntd n) (fd, m) end =
        at_call _ (late_s2 args past now (of_run mess todo m.t n fd no_fd 0) _ (fits m.t n fd no_fd 0 m.few) (m.along no_fd 0)) end
    ends_at (at.AppendTodo n intd done) (m, less) end =
        at_call _ (late_s3 args past now (of_run mess todo m.t n m.fd intd m.i) _ (fits m.t n m.fd intd m.i m.few) m.along) end
    ends_at (at.SyncTodo n intd) m end =
        at_call _ (late_s3 args past now (of_run mess todo m.t n m.fd intd m.i) _ (fits m.t n m.fd intd m.i m.few) m.along) end
    ends_at (at.LinkTodo n) m end =
        let c : Chosen = of_run mess todo m.t n m.fd m.intd m.i in
        at_call _ (late_after args past now c ((in_s1 args c ++ in_s2 args c) ++ in_s3 c) (to_s4 c) (fits m.t n m.fd m.intd m.i m.few) m.calls (last_left args c) (cons_some _ _)) end
    ends_at (at.CleanIntd n last) k end =
        at_call _ (late_cleaning args past now (path (Of Intd n) ∷ (path (Of Mess n) ∷ [])) last _ _ k (removes_two (path (Of Intd n)) (path (Of Mess n)))) end
    ends_at (at.CleanMess n last) k end = at_call _ (late_cleaning args past now (path (Of Mess n) ∷ []) last _ _ k (removes_one (path (Of Mess n)))) end
    ends_at at.Queued q end = at_end 0 (queued args past now q.c q.fits q.calls) end
    ends_at (at.Failed last) k end = at_end last (stopped args past now last k) end

pub are_written : (args : Arguments) (past : List Own) (now : ℕ) (ready : Ready) (status : ℕ) → IsRun args past → Next args past now ready ≡ needs.Ended status → IsWritten args past now status
are_written args past now ready status run end =
    let mess : (pieces : List (List ℕ)) × Cuts (message_text args).bytes pieces = cut (length (message_text args).bytes) (message_text args).bytes (omega arith) in
    let todo : (pieces : List (List ℕ)) × Cuts (intd_text args).bytes pieces = cut (length (intd_text args).bytes) (intd_text args).bytes (omega arith) in
    ends_at args past now (has_input ready) status mess.0 todo.0 mess.1 todo.1 (place_after args past) (stands_at args mess.0 todo.0 mess.1 todo.1 past run) end
