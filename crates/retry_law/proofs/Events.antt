-- What an event leaves of a message that is none of its own: that is known no more than before, has its birth, and its file isn't dropped.
use Rattle.std.proofs.Common.{◌≡◌, ◌⊎◌, ℕ, List, [], ◌∷◌, bytes_eq, Bool, true, false, not, if◌then◌else◌, Option, Some, None, refl, sym, ap, ◌∙◌, inl, inr, eq-eqb}
use Rattle.std.specs.Prelude.{◌||◌, ◌&&◌, ◌==◌}
use Rattle.call_fs.proofs.Maps.{put_other}
use Rattle.call_fs.specs.Maps.{put}
use Rattle.call_fs.specs.Program.{MayCome}
use Rattle.call_fs.specs.declared.calls.Answer.TheVariants as answer
use Rattle.call_fs.specs.declared.calls.Answer.{Answer}
use Rattle.call_fs.specs.declared.calls.CallData.TheVariants as call
use Rattle.call_fs.specs.declared.calls.FsError.TheVariants as why
use Rattle.call_fs.specs.declared.calls.How.TheVariants as how
use Rattle.call_fs.specs.declared.past.GotData.TheVariants as came
use Rattle.call_fs.specs.declared.past.GotData.{GotData}
use Rattle.call_fs.specs.declared.past.NeedData.TheVariants as needs
use Rattle.call_fs.specs.declared.past.NeedData.{NeedData}
use Rattle.call_fs.specs.declared.program.Port.TheVariants as port
use Rattle.queue_paths.specs.Names.Name.{Of}
use Rattle.queue_paths.specs.Names.Part.{Info as InfoFile, Remote as RemoteFile}
use Rattle.queue_paths.specs.Names.{Name, parse}
use Rattle.send_core.specs.Births.{Birth, Births, births_by, cleaned, found as found_birth, passed, stated}
use Rattle.send_core.specs.Past.{Work}
use Rattle.send_known.specs.declared.channel.Channel.{Channel}
use Rattle.send_parts.specs.Steps.{remove_text}
use Rattle.send_runs.specs.DueMoments.Shift.{Begins, Learns, Same}
use Rattle.send_runs.specs.DueMoments.{Shift, Trial, closed, began, found, is_file, is_trial_of, is_whole, shift_by, shift_if, unless_done, unless_opened}
use Rattle.send_runs.specs.Dues.{unlinks}
use Rattle.send_runs.specs.Files.{drops, is_done}
use Rattle.send_runs.specs.Knowing.{known_by, looked_for}
use Rattle.todo_pass.specs.Table.{command_text}

-- Learnt and not

learnt_no : (b : Bool) (moment : ℕ) → shift_if b (Learns moment) ≡ Same → b ≡ false
learnt_no true moment e = absurd (cc)
learnt_no false moment e = refl

or_none : (b : Bool) → b ≡ false → (b || false) ≡ false
or_none b e = ap (λ (x : Bool). x || false) e

abbrev moment_in : Shift → ℕ
moment_in (Learns moment) = moment
moment_in (Begins begun) = begun
moment_in s = 0

learnt_if : (b : Bool) (x moment : ℕ) → shift_if b (Learns x) ≡ Learns moment → moment ≡ x
learnt_if true x moment e = sym (ap moment_in e)
learnt_if false x moment e = absurd (cc)

not_opened : (b : Bool) (told : Answer) (moment : ℕ) → shift_if b (unless_opened told) ≡ Learns moment → ⊥
not_opened true (answer.Opened fd) moment e = cc
not_opened true told moment e = cc
not_opened false told moment e = cc

not_done : (b : Bool) (told : Answer) (moment : ℕ) → shift_if b (unless_done told) ≡ Learns moment → ⊥
not_done true answer.Done moment e = cc
not_done true told moment e = cc
not_done false told moment e = cc

not_begun : (b whole : Bool) (begun moment : ℕ) → shift_if b (began whole begun) ≡ Learns moment → ⊥
not_begun true true begun moment e = cc
not_begun true false begun moment e = cc
not_begun false whole begun moment e = cc

not_closed : (t : Option Trial) (whole : Bool) (c : Channel) (n moment : ℕ) → closed t whole c n ≡ Learns moment → ⊥
not_closed None whole c n moment e = cc
not_closed (Some t) whole c n moment e = not_begun (is_trial_of c n t) whole t.begun moment e

opens_no : (b : Bool) (told : Answer) (begun : ℕ) → shift_if b (unless_opened told) ≡ Begins begun → ⊥
opens_no true (answer.Opened fd) begun e = cc
opens_no true told begun e = cc
opens_no false told begun e = cc

done_no : (b : Bool) (told : Answer) (begun : ℕ) → shift_if b (unless_done told) ≡ Begins begun → ⊥
done_no true answer.Done begun e = cc
done_no true told begun e = cc
done_no false told begun e = cc

learns_no : (b : Bool) (moment begun : ℕ) → shift_if b (Learns moment) ≡ Begins begun → ⊥
learns_no true moment begun e = cc
learns_no false moment begun e = cc

found_no : (x : Option Name) (told : Answer) (n begun : ℕ) → found x told n ≡ Begins begun → ⊥
found_no (Some (Of RemoteFile m)) (answer.Stat stat) n begun e = learns_no (m == n) 0 begun e
found_no (Some (Of RemoteFile m)) (answer.Refused why.NotThere) n begun e = learns_no (m == n) 0 begun e
found_no x told n begun e = cc

begun_if : (b whole : Bool) (x begun : ℕ) → shift_if b (began whole x) ≡ Begins begun → begun ≡ x
begun_if true true x begun e = sym (ap moment_in e)
begun_if true false x begun e = absurd (cc)
begun_if false whole x begun e = absurd (cc)

closed_begins : (t : Option Trial) (whole : Bool) (c : Channel) (n begun : ℕ) → closed t whole c n ≡ Begins begun → (x : Trial) × (t ≡ Some x) × (begun ≡ x.begun)
closed_begins None whole c n begun e = absurd (cc)
closed_begins (Some t) whole c n begun e = (t, refl, begun_if (is_trial_of c n t) whole t.begun begun e)

module _ (c : Channel) (n now : ℕ) (command : List ℕ) (clears : Bool) (w : Option Work) (t : Option Trial) where
  abbrev Is : NeedData → GotData → Shift
  Is due got = shift_by c n now command clears w t due got

  found_learns : (x : Option Name) (told : Answer) (moment : ℕ) → found x told n ≡ Learns moment → moment ≡ 0
  found_learns (Some (Of RemoteFile m)) (answer.Stat stat) moment e = learnt_if (m == n) 0 moment e
  found_learns (Some (Of RemoteFile m)) (answer.Refused why.NotThere) moment e = learnt_if (m == n) 0 moment e
  found_learns x told moment e = absurd (cc)

  -- at which moment a message is due that is learnt
  pub learns : (due : NeedData) (got : GotData) (moment : ℕ) → Is due got ≡ Learns moment → (moment ≡ 0) ⊎ (moment ≡ now)
  learns (needs.File (call.Stat name)) (came.Answered told) moment e = inl (found_learns (parse name) told.answer moment e)
  learns (needs.File (call.Open name how.Read)) (came.Answered told) moment e = absurd (not_opened (is_file c n (parse name)) told.answer moment e)
  learns (needs.File (call.Close fd)) (came.Answered told) moment e = absurd (not_closed t (is_whole w fd) c n moment e)
  learns (needs.File (call.Unlink name)) (came.Answered told) moment e = absurd (not_done (not clears && is_file c n (parse name)) told.answer moment e)
  learns (needs.Take port.Clean) (came.Took bytes) moment e = inr (learnt_if (bytes_eq command (command_text n) && bytes_eq bytes (43 ∷ [])) now moment e)
  learns due got moment e = absurd (cc)

  -- at which moment a pass began
  pub begins : (due : NeedData) (got : GotData) (begun : ℕ) → Is due got ≡ Begins begun → (x : Trial) × (t ≡ Some x) × (begun ≡ x.begun)
  begins (needs.File (call.Stat name)) (came.Answered told) begun e = absurd (found_no (parse name) told.answer n begun e)
  begins (needs.File (call.Open name how.Read)) (came.Answered told) begun e = absurd (opens_no (is_file c n (parse name)) told.answer begun e)
  begins (needs.File (call.Close fd)) (came.Answered told) begun e = closed_begins t (is_whole w fd) c n begun e
  begins (needs.File (call.Unlink name)) (came.Answered told) begun e = absurd (done_no (not clears && is_file c n (parse name)) told.answer begun e)
  begins (needs.Take port.Clean) (came.Took bytes) begun e = absurd (learns_no (bytes_eq command (command_text n) && bytes_eq bytes (43 ∷ [])) now begun e)
  begins due got begun e = absurd (cc)

  -- What changes nothing of a message

  looked_none : (x : Option Name) (told : Answer) → found x told n ≡ Same → looked_for x told n false ≡ false
  looked_none (Some (Of RemoteFile m)) (answer.Stat stat) e = or_none (m == n) (learnt_no (m == n) 0 e)
  looked_none (Some (Of RemoteFile m)) (answer.Refused why.NotThere) e = or_none (m == n) (learnt_no (m == n) 0 e)
  looked_none x told e = refl

  answered_none : (r k : Bool) → k ≡ false → (if r then false else (if k then true else false)) ≡ false
  answered_none true k e = refl
  answered_none false k e = ap (λ (x : Bool). if x then true else false) e

  -- it isn't known by it
  pub known_no : (due : NeedData) (got : GotData) → Is due got ≡ Same → known_by due got command n false ≡ false
  known_no (needs.File (call.Stat name)) (came.Answered told) e = looked_none (parse name) told.answer e
  known_no (needs.Take port.Clean) (came.Took bytes) e =
      answered_none (bytes_eq command (remove_text n)) (bytes_eq command (command_text n) && bytes_eq bytes (43 ∷ [])) (learnt_no (bytes_eq command (command_text n) && bytes_eq bytes (43 ∷ [])) now e)
  known_no due got e = refl

  dropped : (b : Bool) (told : Answer) → b ≡ true → shift_if b (unless_done told) ≡ Same → (b && is_done told) ≡ true
  dropped true answer.Done own e = refl
  dropped true told own e = absurd (cc)
  dropped false told own e = absurd (cc)

  -- an unlink of its file is done
  pub unlink_done : (due : NeedData) (got : GotData) → MayCome due got → unlinks c n clears due ≡ true → Is due got ≡ Same → drops c n clears due got ≡ true
  unlink_done (needs.File (call.Unlink name)) (came.Answered told) may own e = dropped (not clears && is_file c n (parse name)) told.answer own e
  unlink_done (needs.File (call.Unlink name)) got may own e = absurd may
  unlink_done due got may own e = absurd (cc)

-- Births

module _ (n : ℕ) where
  found_same : (it : Option Birth) (m : ℕ) (of : ℕ → ℕ) → (m == n) ≡ false → found_birth it m of n ≡ of n
  found_same None m of e = refl
  found_same (Some it) m of e = by (it.n == m) refl where
    by : (b : Bool) → (it.n == m) ≡ b → (if b then put of m it.moment else of) n ≡ of n
    by true is = put_other of m it.moment n (λ same. absurd (cc (sym e ∙ eq-eqb m n (sym same))))
    by false is = refl

  pub stated_same : (x : Option Name) (told : Answer) (b : Births) → found x told n ≡ Same → (stated x told b).of n ≡ b.of n
  stated_same (Some (Of RemoteFile m)) (answer.Stat stat) b e = found_same b.last m b.of (learnt_no (m == n) 0 e)
  stated_same (Some (Of RemoteFile m)) (answer.Refused why.NotThere) b e = found_same b.last m b.of (learnt_no (m == n) 0 e)
  stated_same (Some (Of InfoFile m)) (answer.Stat stat) b e = refl
  stated_same x told b e = refl

  passed_same : (it : Option Birth) (command : List ℕ) (of : ℕ → ℕ) → bytes_eq command (command_text n) ≡ false → passed it command of n ≡ of n
  passed_same None command of e = refl
  passed_same (Some it) command of e = by (bytes_eq command (command_text it.n)) refl where
    by : (b : Bool) → bytes_eq command (command_text it.n) ≡ b → (if b then put of it.n it.moment else of) n ≡ of n
    by true is = put_other of it.n it.moment n (λ same. absurd (cc (sym e ∙ ap (λ (k : ℕ). bytes_eq command (command_text k)) same ∙ is)))
    by false is = refl

  and_true : (b : Bool) → (b && true) ≡ false → b ≡ false
  and_true true e = absurd (cc)
  and_true false e = refl

  pub cleaned_same : (good : Bool) (b : Births) → (bytes_eq b.command (command_text n) && good) ≡ false → (cleaned good b).of n ≡ b.of n
  cleaned_same true b e = passed_same b.last b.command b.of (and_true (bytes_eq b.command (command_text n)) e)
  cleaned_same false b e = refl

  -- it keeps its birth
  pub birth_same : (c : Channel) (now : ℕ) (b : Births) (clears : Bool) (w : Option Work) (t : Option Trial) (due : NeedData) (got : GotData) → shift_by c n now b.command clears w t due got ≡ Same
      → (births_by b now due got).of n ≡ b.of n
  birth_same c now b clears w t (needs.File (call.Stat name)) (came.Answered told) e = stated_same (parse name) told.answer b e
  birth_same c now b clears w t (needs.File due) (came.Answered told) e = refl
  birth_same c now b clears w t (needs.Give port.Clean text) came.Gave e = refl
  birth_same c now b clears w t (needs.Take port.Clean) (came.Took bytes) e =
      cleaned_same (bytes_eq bytes (43 ∷ [])) b (learnt_no (bytes_eq b.command (command_text n) && bytes_eq bytes (43 ∷ [])) now e)
  birth_same c now b clears w t due got e = refl
