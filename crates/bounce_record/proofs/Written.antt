-- What stands on a disk at each row of a note's writing.
use Rattle.std.proofs.Common.{◌≡◌, ℕ, ◌+◌, ◌-◌, ◌<◌, ◌≤◌, min, List, [], ◌∷◌, ◌++◌, length, take, drop, Bool, true, false, Option, Some, None, refl, sym, ap, ◌∙◌, subst, append_assoc, arith, length-drop, take_all, drop-drop, drop_of_length-le}
use Rattle.std.specs.Prelude.{if◌then◌else◌, nat_eq, nat_lt}
use Rattle.std.specs.List.{ends_with}
use Rattle.std.specs.Option.{IsSome, option_map}
use Rattle.std.proofs.lemmas.Bool.{false≢true, ltb-true, ltb-false}
use Rattle.std.proofs.lemmas.List.{append-nil, take-append-drop}
use Rattle.std.proofs.Math.Nat.{le-min}
use Rattle.address_rules.specs.Names.{stripped}
use Rattle.call_fs.specs.declared.calls.Answer.{Answer}
use Rattle.call_fs.specs.declared.calls.Answer.TheVariants as answer
use Rattle.call_fs.specs.declared.calls.CallData.TheVariants as call
use Rattle.call_fs.specs.declared.calls.Fd.{Fd}
use Rattle.call_fs.specs.declared.calls.FsError.TheVariants as error
use Rattle.call_fs.specs.declared.calls.How.TheVariants as how
use Rattle.call_fs.specs.declared.modes.Mode.{Mode}
use Rattle.call_fs.specs.declared.past.GotData.{GotData}
use Rattle.call_fs.specs.declared.past.GotData.TheVariants as came
use Rattle.call_fs.specs.declared.past.Own.{Own}
use Rattle.call_fs.specs.Apply.{Apply, changed, grown, synced, with_new, with_open, without_open, empty_file, from_place, read_by}
use Rattle.call_fs.specs.Columns.{IsAnswerTo}
use Rattle.call_fs.specs.Disk.{File, Open as OpenFile, Disk, IsSynced, IsWhole}
use Rattle.call_fs.specs.Past.{LeadsTo, Makes}
use Rattle.call_fs.specs.Program.{MayCome}
use Rattle.call_fs.proofs.Maps.{put_same, put_at_same}
use Rattle.bounce_record.specs.declared.note_row.NoteRow.{NoteRow}
use Rattle.bounce_record.specs.declared.note_row.NoteRow.TheVariants as at
use Rattle.bounce_record.specs.Notes.{note_text, parting, with_note}
use Rattle.bounce_record.specs.Runs.{NoteOf, IsWriting, IsWrittenRow, begun, bytes_at, bytes_of, written_after}
use Rattle.bounce_record.specs.Writing.{Writing, appended_row, bounce_path, created_row, left_out, next_piece, opened_row, piece, stated_row, synced_row, tail_read_row, tail_row, due_at, moved}
use Rattle.call_fs.proofs.Coming.{by_fit}
use Rattle.bounce_record.proofs.Counting.{parting_tail}

some_same : (a b : ℕ) → ◌≡◌ {A = Option ℕ} (Some a) (Some b) → a ≡ b
some_same a b e = cc

-- What is left out of the two newlines and the note

-- after a tail that isn't empty
after_tail : (tail note : List ℕ) → 0 < length tail → drop (left_out tail) (10 ∷ 10 ∷ note) ≡ parting tail ++ note
after_tail [] note long = absurd (omega arith)
after_tail (b ∷ bytes) note long =
    elim (ends_with nat_eq (b ∷ bytes) (10 ∷ 10 ∷ [])) as (λ t. drop (if t then 2 else 0) (10 ∷ 10 ∷ note) ≡ (if t then [] else 10 ∷ 10 ∷ []) ++ note) [ true ↦ refl | false ↦ refl ]

-- after a file that ends so
after_file : (file note : List ℕ) → 0 < length file → drop (left_out (drop (length file - 2) file)) (10 ∷ 10 ∷ note) ≡ parting file ++ note
after_file file note long =
    let tail = drop (length file - 2) file in
    let len = length-drop (length file - 2) file in
    after_tail tail note (omega arith) ∙ ap (λ p. p ++ note) (sym (parting_tail file))

-- after an empty one
after_none : (file note : List ℕ) → file ≡ [] → note ≡ parting file ++ note
after_none file note e = ap (λ f. parting f ++ note) (sym e)

module _ (name file note : List ℕ) where
  abbrev text : List ℕ
  text = 10 ∷ 10 ∷ note

  abbrev target : List ℕ
  target = file ++ (parting file ++ note)

  -- the file has its name, is open to append to, and holds these bytes
  abbrev pub IsOpen : Fd → List ℕ → Disk → Type 0
  IsOpen fd bytes d = (k : ℕ) × (mode : Mode) × (d.names name ≡ Some k) × (d.opens fd.0 ≡ Some (record { number = k; mode = mode })) × ((d.files k).bytes ≡ bytes)

  -- so, and what is left from this place of the text on makes it whole
  abbrev pub Appends : Fd → ℕ → Disk → Type 0
  Appends fd done d = (bytes : List ℕ) × IsOpen fd bytes d × (bytes ++ drop done text ≡ target)

  abbrev pub Rests : NoteRow → Disk → Type 0
  Rests at.Open d = bytes_at d name ≡ file
  Rests at.Create d = file ≡ []
  Rests (at.Stat fd) d = IsOpen fd file d
  Rests (at.Read fd place len) d = IsOpen fd file d × (0 < length file) × (place ≡ length file - 2) × (len ≡ min (length file) 2)
  Rests (at.Append fd done) d = Appends fd done d
  Rests (at.Sync fd) d = IsOpen fd target d
  Rests (at.Close fd) d = IsWhole d name target
  Rests (at.Shut fd) d = Unit {0}
  Rests at.Written d = IsWhole d name target
  Rests at.Failed d = Unit {0}

  -- a name that is there has a number
  numbered : (o : Option ℕ) → IsSome o → (k : ℕ) × (o ≡ Some k)
  numbered (Some k) there = (k, refl)
  numbered None there = absurd (false≢true there)

  missing : (d : Disk) → bytes_at d name ≡ file → d.names name ≡ None → file ≡ []
  missing d e none = sym e ∙ ap (λ o. bytes_of o d.files) none

  goes_on : (fd : Fd) (done : ℕ) (d : Disk) → Appends fd done d → Rests (next_piece fd done text) d
  goes_on fd done d w = by_rest (nat_lt done (length text)) refl
    where
      by_rest : (t : Bool) → nat_lt done (length text) ≡ t → Rests (if t then at.Append fd done else at.Sync fd) d
      by_rest true e = w
      by_rest false e =
          let none : drop done text ≡ [] = drop_of_length-le text (ltb-false done (length text) e) in
          let all : w.0 ≡ target = sym (append-nil w.0) ∙ ap (λ r. w.0 ++ r) (sym none) ∙ w.2 in
          subst (λ b. IsOpen fd b d) all w.1

  module _ (d : Disk) (now : ℕ) where
    opens : (told : Answer) (e : Disk) → Rests at.Open d → IsAnswerTo (call.Open name how.Append) told
        → Apply d now (call.Open name how.Append) told e → Rests (opened_row told) e
    opens (answer.Opened fd) e r fit applied =
        let it = numbered (d.names name) applied.1.there in
        let k = it.0 in
        let next : Disk = with_open d name how.Append fd.0 in
        let w : IsOpen fd file next = (
          k,
          Mode.Opened how.Append,
          it.1,
          put_same d.opens fd.0 _ ∙ ap (λ o. option_map (λ n. record { number = n; mode = Mode.Opened how.Append }) o) it.1,
          sym (ap (λ o. bytes_of o d.files) it.1) ∙ r,
        ) in
        subst (IsOpen fd file) (sym applied.2) w
    opens (answer.Refused error.NotThere) e r fit applied = missing d r applied.1
    opens (answer.Refused error.Fault) e r fit applied = tt
    opens (answer.Refused error.Memory) e r fit applied = tt
    opens told e r fit applied = absurd fit

    creates : (told : Answer) (e : Disk) → Rests at.Create d → IsAnswerTo (call.CreateExcl name) told
        → Apply d now (call.CreateExcl name) told e → Rests (created_row told) e
    creates (answer.Created fd n) e r fit applied =
        let next : Disk = with_new d now name fd.0 n in
        let made : IsOpen fd [] next = (
          n,
          Mode.Created,
          put_at_same d.names name (Some n),
          put_same d.opens fd.0 (Some (record { number = n; mode = Mode.Created })),
          ap (λ (f : File). f.bytes) (put_same d.files n (empty_file now)),
        ) in
        let w : Appends fd 2 next = ([], made, after_none file note r ∙ ap (λ f. f ++ (parting file ++ note)) (sym r)) in
        subst (Appends fd 2) (sym applied.2) w
    creates (answer.Refused reason) e r fit applied = tt
    creates told e r fit applied = absurd fit

    tails : (fd : Fd) (len : ℕ) → IsOpen fd file d → len ≡ length file → Rests (tail_row fd len) d
    tails fd len w same = by_len (nat_lt 0 len) refl
      where
        zero_by : (a b : ℕ) → a ≤ 0 → a ≡ b → b ≡ 0
        zero_by a b le e = omega (arith, e)

        empty_by : (f : List ℕ) → length f ≡ 0 → f ≡ []
        empty_by [] e = refl
        empty_by (b ∷ bs) e = absurd (omega (arith, e))

        by_len : (t : Bool) → nat_lt 0 len ≡ t → Rests (if t then at.Read fd (len - 2) (min len 2) else at.Append fd 2) d
        by_len true e = (w, subst (λ l. 0 < l) same (ltb-true 0 len e), ap (λ l. l - 2) same, ap (λ l. min l 2) same)
        by_len false e =
            let none : file ≡ [] = empty_by file (zero_by len (length file) (ltb-false 0 len e) same) in
            (file, w, ap (λ b. file ++ b) (after_none file note none))

    states : (fd : Fd) (told : Answer) (e : Disk) → Rests (at.Stat fd) d → IsAnswerTo (call.Stat name) told
        → Apply d now (call.Stat name) told e → Rests (stated_row fd told) e
    states fd (answer.Stat stat) e r fit applied =
        let same : stat.number ≡ r.0 = some_same stat.number r.0 (sym applied.1.number ∙ r.2) in
        let len : stat.length ≡ length file = applied.1.length_is ∙ ap (λ k. length (d.files k).bytes) same ∙ ap length r.4 in
        subst (λ x. Rests (tail_row fd stat.length) x) (sym applied.2) (tails fd stat.length r len)
    states fd (answer.Refused error.NotThere) e r fit applied = tt
    states fd (answer.Refused error.Fault) e r fit applied = tt
    states fd told e r fit applied = absurd fit

    reads : (fd : Fd) (place len : ℕ) (told : Answer) (bytes : List ℕ) (e : Disk) → Rests (at.Read fd place len) d → IsAnswerTo (call.ReadAt fd place len) told
        → Apply d now (call.ReadAt fd place len) told e → bytes ≡ read_by d (d.opens fd.0) place told → Rests (tail_read_row fd told bytes) e
    reads fd place len (answer.Count count) bytes e r fit applied given =
        let held = r.0 in
        let tail : List ℕ = drop (length file - 2) file in
        let from : from_place d (d.opens fd.0) place ≡ tail =
        ap (λ o. from_place d o place) held.3 ∙ ap (λ b. drop place b) held.4 ∙ ap (λ p. drop p file) r.2 in
        let long = length-drop (length file - 2) file in
        let counted : count ≡ min (min (length file) 2) (length tail) = applied.1.1 ∙ ap (λ l. min l (length (from_place d (d.opens fd.0) place))) r.3 ∙ ap (λ t. min (min (length file) 2) (length t)) from in
        let within : length tail ≤ count = within_by (length file) (length tail) count counted long in
        let is : bytes ≡ tail = given ∙ ap (λ t. take count t) from ∙ take_all count tail within in
        let all : drop (left_out bytes) text ≡ parting file ++ note = ap (λ t. drop (left_out t) text) is ∙ after_file file note r.1 in
        subst (Appends fd (left_out bytes)) (sym applied.2) (file, held, ap (λ b. file ++ b) all)
      where
        within_by : (l t c : ℕ) → c ≡ min (min l 2) t → t ≡ l - (l - 2) → t ≤ c
        within_by l t c e f = subst (λ x. t ≤ x) (sym e) (le-min (le-min (omega (arith, f)) (omega (arith, f))) (omega arith))
    reads fd place len (answer.Refused error.Fault) bytes e r fit applied given = tt
    reads fd place len told bytes e r fit applied given = absurd fit

    -- the file of an open descriptor after it changed
    changed_is : (fd : Fd) (bytes : List ℕ) (f : File → File) (w : IsOpen fd bytes d) → changed d (d.opens fd.0) f ≡ changed d (Some (record { number = w.0; mode = w.1 })) f
    changed_is fd bytes f w = ap (λ o. changed d o f) w.3

    appends : (fd : Fd) (done : ℕ) (told : Answer) (e : Disk) → Rests (at.Append fd done) d → IsAnswerTo (call.Append fd (piece text done)) told
        → Apply d now (call.Append fd (piece text done)) told e → Rests (appended_row fd done text told) e
    appends fd done answer.Done e r fit applied =
        let w = r.1 in
        let more : List ℕ = piece text done in
        let f : File → File = grown now more in
        let o : OpenFile = record { number = w.0; mode = w.1 } in
        let next : Disk = changed d (Some o) f in
        let is : e ≡ next = applied.2 ∙ changed_is fd r.0 f w in
        let holds : (next.files w.0).bytes ≡ r.0 ++ more = ap (λ (g : File). g.bytes) (put_same d.files w.0 (f (d.files w.0))) ∙ ap (λ b. b ++ more) w.4 in
        let rest : more ++ drop (done + 8192) text ≡ drop done text = ap (λ t. more ++ t) (sym (drop-drop 8192 done text)) ∙ take-append-drop 8192 (drop done text) in
        let whole : (r.0 ++ more) ++ drop (done + 8192) text ≡ target = append_assoc r.0 more (drop (done + 8192) text) ∙ ap (λ t. r.0 ++ t) rest ∙ r.2 in
        let after : Appends fd (done + 8192) next = (r.0 ++ more, (w.0, w.1, w.2, w.3, holds), whole) in
        goes_on fd (done + 8192) e (subst (Appends fd (done + 8192)) (sym is) after)
    appends fd done (answer.Refused error.Fault) e r fit applied = tt
    appends fd done (answer.Refused error.Memory) e r fit applied = tt
    appends fd done told e r fit applied = absurd fit

    syncs : (fd : Fd) (told : Answer) (e : Disk) → Rests (at.Sync fd) d → IsAnswerTo (call.Sync fd) told → Apply d now (call.Sync fd) told e → Rests (synced_row fd told) e
    syncs fd answer.Done e w fit applied =
        let o : OpenFile = record { number = w.0; mode = w.1 } in
        let next : Disk = changed d (Some o) synced in
        let is : e ≡ next = applied.2 ∙ changed_is fd target synced w in
        let all : (d.files w.0).bytes ≡ target = w.4 in
        let whole : IsSynced (synced (d.files w.0)) target = record { holds = all; all = all; none_given = refl; no_shorter = ap length all; no_longer = ap length all } in
        let after : IsWhole next name target = (w.0, w.2, subst (λ g. IsSynced g target) (sym (put_same d.files w.0 (synced (d.files w.0)))) whole) in
        subst (λ x. IsWhole x name target) (sym is) after
    syncs fd (answer.Refused error.Fault) e w fit applied = tt
    syncs fd told e w fit applied = absurd fit

    closes : (fd : Fd) (told : Answer) (e : Disk) → IsWhole d name target → IsAnswerTo (call.Close fd) told → Apply d now (call.Close fd) told e → IsWhole e name target
    closes fd answer.Done e w fit applied =
        let next : Disk = without_open d fd.0 in
        let after : IsWhole next name target = (w.0, w.1, w.2) in
        subst (λ x. IsWhole x name target) (sym applied.2) after
    closes fd told e w fit applied = absurd fit

abbrev in_row : ℕ → List ℕ → NoteRow → Writing
in_row n note row = record { n = n; row = row; text = 10 ∷ 10 ∷ note }

module _ (n : ℕ) (file note : List ℕ) (d : Disk) (now : ℕ) where
  abbrev StepOf : NoteRow → GotData → Type 0
  StepOf row got = (e : Disk) → Rests (bounce_path n) file note row d → Makes d now (due_at row (in_row n note row)) got e → Rests (bounce_path n) file note (moved (in_row n note row) got).row e

  step : (row : NoteRow) (got : GotData) → MayCome (due_at row (in_row n note row)) got → StepOf row got
  step at.Open got may = by_fit (call.Open (bounce_path n) how.Append) (StepOf at.Open) got may (λ told fit e r made. opens (bounce_path n) file note d now told.answer e r fit made.0)
  step at.Create got may = by_fit (call.CreateExcl (bounce_path n)) (StepOf at.Create) got may (λ told fit e r made. creates (bounce_path n) file note d now told.answer e r fit made.0)
  step (at.Stat fd) got may = by_fit (call.Stat (bounce_path n)) (StepOf (at.Stat fd)) got may (λ told fit e r made. states (bounce_path n) file note d now fd told.answer e r fit made.0)
  step (at.Read fd place len) got may =
      by_fit (call.ReadAt fd place len) (StepOf (at.Read fd place len)) got may (λ told fit e r made. reads (bounce_path n) file note d now fd place len told.answer told.bytes e r fit made.0 made.1)
  step (at.Append fd done) got may =
      by_fit (call.Append fd (piece (10 ∷ 10 ∷ note) done)) (StepOf (at.Append fd done)) got may (λ told fit e r made. appends (bounce_path n) file note d now fd done told.answer e r fit made.0)
  step (at.Sync fd) got may = by_fit (call.Sync fd) (StepOf (at.Sync fd)) got may (λ told fit e r made. syncs (bounce_path n) file note d now fd told.answer e r fit made.0)
  step (at.Close fd) got may = by_fit (call.Close fd) (StepOf (at.Close fd)) got may (λ told fit e r made. closes (bounce_path n) file note d now fd told.answer e r fit made.0)
  step (at.Shut fd) got may = by_fit (call.Close fd) (StepOf (at.Shut fd)) got may (λ told fit e r made. tt)
  step at.Written got may = absurd may
  step at.Failed got may = absurd may

-- the number of the message and the text stay
module _ (it : NoteOf) where
  number_stays : (w : Writing) (got : GotData) → (moved w got).n ≡ w.n
  number_stays w (came.Answered told) = refl
  number_stays w (came.Took bytes) = refl
  number_stays w came.End = refl
  number_stays w (came.Ended status) = refl
  number_stays w came.Crashed = refl
  number_stays w came.Gave = refl
  number_stays w (came.Started pid) = refl
  number_stays w came.Failed = refl
  number_stays w came.Memory = refl

  text_stays : (w : Writing) (got : GotData) → (moved w got).text ≡ w.text
  text_stays w (came.Answered told) = refl
  text_stays w (came.Took bytes) = refl
  text_stays w came.End = refl
  text_stays w (came.Ended status) = refl
  text_stays w came.Crashed = refl
  text_stays w came.Gave = refl
  text_stays w (came.Started pid) = refl
  text_stays w came.Failed = refl
  text_stays w came.Memory = refl

  number_is : (past : List Own) → (written_after (begun it) past).n ≡ it.n
  number_is [] = refl
  number_is (event ∷ before) = number_stays (written_after (begun it) before) event.came ∙ number_is before

  abbrev note : List ℕ
  note = note_text (stripped it.controls.virtual_domains it.address) it.report

  text_is : (past : List Own) → (written_after (begun it) past).text ≡ 10 ∷ 10 ∷ note
  text_is [] = refl
  text_is (event ∷ before) = text_stays (written_after (begun it) before) event.came ∙ text_is before

  -- what is kept is its row, beside these
  kept_as : (w : Writing) → w.n ≡ it.n → w.text ≡ 10 ∷ 10 ∷ note → w ≡ in_row it.n note w.row
  kept_as w e f =
      let by_number : ℕ → Writing = λ n. record { n = n; row = w.row; text = w.text } in
      let by_text : List ℕ → Writing = λ t. record { n = it.n; row = w.row; text = t } in
      ap by_number e ∙ ap by_text f

  rests : (past : List Own) (first last : Disk) → IsWriting it past → LeadsTo first past last
      → Rests (bounce_path it.n) (bytes_at first (bounce_path it.n)) note (written_after (begun it) past).row last
  rests [] first last run leads = ap (λ d. bytes_at d (bounce_path it.n)) leads
  rests (event ∷ before) first last run leads =
      let w : Writing = written_after (begun it) before in
      let file = bytes_at first (bounce_path it.n) in
      let mid = leads.0 in
      let may = subst (λ x. MayCome x event.came) (sym run.1.0) run.1.1 in
      let made = subst (λ x. Makes mid event.read x event.came last) (sym run.1.0) leads.2 in
      moves w (number_is before) (text_is before) event mid last may (rests before first mid run.0 leads.1) made
    where
      moves : (w : Writing) → w.n ≡ it.n → w.text ≡ 10 ∷ 10 ∷ note → (event : Own) (d e : Disk) → MayCome (due_at w.row w) event.came
          → Rests (bounce_path it.n) (bytes_at first (bounce_path it.n)) note w.row d → Makes d event.read (due_at w.row w) event.came e
          → Rests (bounce_path it.n) (bytes_at first (bounce_path it.n)) note (moved w event.came).row e
      moves w number text event d e may r made =
          let is = kept_as w number text in
          subst (λ v. Rests (bounce_path it.n) (bytes_at first (bounce_path it.n)) note (moved v event.came).row e) (sym is)
          (step it.n (bytes_at first (bounce_path it.n)) note d event.read w.row event.came
          (subst (λ v. MayCome (due_at w.row v) event.came) is may) e r (subst (λ v. Makes d event.read (due_at w.row v) event.came e) is made))

pub written : (it : NoteOf) (past : List Own) (first last : Disk) → IsWriting it past → LeadsTo first past last → IsWrittenRow (written_after (begun it) past).row
    → IsWhole last (bounce_path it.n) (with_note (bytes_at first (bounce_path it.n)) (stripped it.controls.virtual_domains it.address) it.report)
written it past first last run leads is = by_row (written_after (begun it) past).row is (rests it past first last run leads)
  where
    by_row : (row : NoteRow) → IsWrittenRow row → Rests (bounce_path it.n) (bytes_at first (bounce_path it.n)) (note it) row last
        → IsWhole last (bounce_path it.n) (with_note (bytes_at first (bounce_path it.n)) (stripped it.controls.virtual_domains it.address) it.report)
    by_row (at.Close fd) is r = r
    by_row at.Written is r = r
    by_row row is r = absurd is
