-- Where the table goes, the cleaner goes.
use Rattle.std.proofs.Common.{◌≡◌, ℕ, ◌+◌, ◌%◌, List, [], ◌∷◌, ◌++◌, length, take, drop, Option, Some, None, Bool, true, false, refl, sym, ap, ◌∙◌, subst, ⊎_elim, arith, append_assoc, add-one}
use Rattle.std.specs.Prelude.{if◌then◌else◌, ◌==◌, flat_map, slice_get, position}
use Rattle.std.proofs.lemmas.Bool.{cases_lt, eqb-true}
use Rattle.std.proofs.lemmas.List.{append-nil, length_push, take_all, take-take, take-append-le, flat_map_more, length-take-le}
use Rattle.std.proofs.lemmas.List.Elements.{All-nil, All-append, All-push}
use Rattle.std.proofs.lemmas.List.Quantifiers.{position-Some}
use Rattle.call_fs.specs.declared.program.Ready.{Ready}
use Rattle.call_fs.specs.declared.past.GotData.{GotData}
use Rattle.call_fs.specs.declared.past.GotData.TheVariants.{Took, End, Gave}
use Rattle.call_fs.specs.declared.past.Own.{Own}
use Rattle.queue_paths.proofs.Paths.{joined_at}
use Rattle.queue_clean.specs.declared.command.Command.{Command}
use Rattle.queue_clean.specs.declared.row.Row.{Row}
use Rattle.queue_clean.specs.declared.row.Row.TheVariants as at
use Rattle.queue_clean.specs.Commands.{commands, command_of, ended}
use Rattle.mail_bytes.specs.Texts.{HasNoNul}
use Rattle.queue_clean.specs.Table.{Place, first_row, take_up, next_command, name_in, moment_in, is_gone, found, stated, took, gave, after_intd, after_second, is_old, leads_to, goes_on, place_after, due_at, Next}
use Rattle.queue_clean.specs.Table.Step.{Goes, Answers}
use Rattle.queue_clean.specs.Machine.{Intake, Machine, is_nul, kept, row_by, read_by, with_next, with_taken, due_now, step_on, gone_on}
use Rattle.queue_clean.specs.Stands.{Hears, StandsAt, Stands}
use Rattle.queue_clean.proofs.Cuts.{commands_plain, commands_ended, commands_before, get_past, plain_upto, plain_all}
use Rattle.queue_clean.proofs.Texts.{command-clipped}

-- The next command

-- the first bytes of what was read, and more, are the first bytes of both
kept_on : (read bytes : List ℕ) → kept (take 100 read) bytes ≡ take 100 (read ++ bytes)
kept_on read bytes = ⊎_elim
    (λ long. let full : length (take 100 read) ≡ 100 = length-take-le 100 read (omega arith) in
    take-append-le 100 (take 100 read) bytes (omega arith) ∙ take-take 100 100 read (omega arith) ∙ sym (take-append-le 100 read bytes (omega arith)))
    (λ short. ap (λ (r : List ℕ). take 100 (r ++ bytes)) (take_all 100 read short))
    (cases_lt 100 (length read))

-- the table's next command is the first of what wasn't taken up yet
upcoming : (i : Intake) (taken : List ℕ) (begun : ℕ) (h : Hears i taken begun) → slice_get (commands taken) begun ≡ slice_get (commands (h.read ++ i.pending)) 0
upcoming i taken begun h =
    ap (λ (t : List ℕ). slice_get (commands t) begun) h.taken_is
    ∙ ap (λ (cs : List (List ℕ)). slice_get cs begun) (commands_before h.before (h.read ++ i.pending) h.each)
    ∙ ap (slice_get (h.before ++ commands (h.read ++ i.pending))) (sym h.count)
    ∙ get_past h.before (commands (h.read ++ i.pending))

none_stands : (m : Machine) (p : Place) → m.name ≡ p.name → Hears m.intake p.taken p.begun → position is_nul m.intake.pending ≡ None
    → StandsAt (record m { row = row_by None m.intake; intake = read_by None m.intake }) (next_command p)
none_stands m p name h none =
    let i : Intake = m.intake in
    let read : List ℕ = h.read ++ i.pending in
    let plain : HasNoNul read = All-append (λ b. b ≡ 0 → ⊥) h.read i.pending h.plain (plain_all i.pending none) in
    let gives : slice_get (commands p.taken) p.begun ≡ None = upcoming i p.taken p.begun h ∙ ap (λ (cs : List (List ℕ)). slice_get cs 0) (commands_plain read plain) in
    let Goal : Option (List ℕ) → Type 0 = λ o. StandsAt (record m { row = at.TakeInput; intake = read_by None i }) (take_up o p) in
    subst Goal (sym gives) (record {
      row = refl;
      name = name;
      hears = record {
        before = h.before;
        read = read;
        taken_is = h.taken_is ∙ ap (λ (r : List ℕ). flat_map ended h.before ++ r) (sym (append-nil read));
        count = h.count;
        each = h.each;
        plain = plain;
        word_is = ap (λ (w : List ℕ). kept w i.pending) h.word_is ∙ kept_on h.read i.pending;
        turn_is = h.turn_is;
      };
      idle = λ _. refl;
    })

first_goes : (o : Option Command) → first_row o ≡ at.TakeInput → ⊥
first_goes None e = cc
first_goes (Some command) e = cc

next_turn : (turn begun : ℕ) → turn ≡ begun % 31 → (turn + 1) % 31 ≡ (begun + 1) % 31
next_turn turn begun e = omega arith

-- the pieces of a text in which a command comes next
pieces : (front read pending text rest : List ℕ) → pending ≡ text ++ (0 ∷ rest) → front ++ (read ++ pending) ≡ (front ++ ended (read ++ text)) ++ rest
pieces front read pending text rest e =
    ap (λ (p : List ℕ). front ++ (read ++ p)) e
    ∙ ap (λ (p : List ℕ). front ++ p) (sym (append_assoc read text (0 ∷ rest)) ∙ sym (append_assoc (read ++ text) (0 ∷ []) rest))
    ∙ sym (append_assoc front (ended (read ++ text)) rest)

some_stands : (m : Machine) (p : Place) (k : ℕ) → m.name ≡ p.name → Hears m.intake p.taken p.begun → position is_nul m.intake.pending ≡ Some k
    → StandsAt (record m { row = row_by (Some k) m.intake; intake = read_by (Some k) m.intake }) (next_command p)
some_stands m p k name h some =
    let i : Intake = m.intake in
    let w = position-Some is_nul i.pending k 0 some in
    let inside = w.0 in
    let rest : List ℕ = drop (k + 1) i.pending in
    let cut : i.pending ≡ take k i.pending ++ (0 ∷ rest) =
    joined_at 0 i.pending k inside (eqb-true _ 0 w.1) ∙ ap (λ j. take k i.pending ++ (0 ∷ drop j i.pending)) (sym (add-one k)) in
    let text : List ℕ = h.read ++ take k i.pending in
    let plain : HasNoNul text = All-append (λ b. b ≡ 0 → ⊥) h.read (take k i.pending) h.plain (plain_upto i.pending k (omega arith) w.2) in
    let all : h.read ++ i.pending ≡ text ++ (0 ∷ rest) = ap (λ (p : List ℕ). h.read ++ p) cut ∙ sym (append_assoc h.read (take k i.pending) (0 ∷ rest)) in
    let gives : slice_get (commands p.taken) p.begun ≡ Some text =
    upcoming i p.taken p.begun h ∙ ap (λ (t : List ℕ). slice_get (commands t) 0) all ∙ ap (λ (cs : List (List ℕ)). slice_get cs 0) (commands_ended text rest plain) in
    let Goal : Option (List ℕ) → Type 0 = λ o. StandsAt (record m { row = row_by (Some k) i; intake = read_by (Some k) i }) (take_up o p) in
    subst Goal (sym gives) (record {
      row = ap (λ (t : List ℕ). first_row (command_of t)) (ap (λ (w : List ℕ). kept w (take k i.pending)) h.word_is ∙ kept_on h.read (take k i.pending)) ∙ ap first_row (command-clipped text);
      name = name;
      hears = record {
        before = h.before ++ text ∷ [];
        read = [];
        taken_is = h.taken_is ∙ pieces (flat_map ended h.before) h.read i.pending (take k i.pending) rest cut
            ∙ ap (λ (f : List ℕ). f ++ rest) (flat_map_more ended [] h.before text);
        count = length_push h.before text ∙ ap (λ n. n + 1) h.count;
        each = All-push HasNoNul h.before text h.each plain;
        plain = All-nil (λ b. b ≡ 0 → ⊥);
        word_is = refl;
        turn_is = next_turn i.turn p.begun h.turn_is;
      };
      idle = λ e. absurd (first_goes (command_of (kept i.word (take k i.pending))) e);
    })

next_by : (o : Option ℕ) (m : Machine) (p : Place) → m.name ≡ p.name → Hears m.intake p.taken p.begun → position is_nul m.intake.pending ≡ o
    → StandsAt (record m { row = row_by o m.intake; intake = read_by o m.intake }) (next_command p)
next_by None m p name h e = none_stands m p name h e
next_by (Some k) m p name h e = some_stands m p k name h e

next_stands : (m : Machine) (p : Place) → m.name ≡ p.name → Hears m.intake p.taken p.begun → StandsAt (with_next m) (next_command p)
next_stands m p name h = next_by (position is_nul m.intake.pending) m p name h refl

-- Each step

goes_stands : (m : Machine) (p : Place) (row : Row) → (row ≡ at.TakeInput → ⊥) → StandsAt m p → StandsAt (record m { row = row }) (record p { row = row })
goes_stands m p row other s = record { row = refl; name = s.name; hears = s.hears; idle = λ e. absurd (other e) }

found_stands : (o : Option (List ℕ)) (m : Machine) (p : Place) → StandsAt m p → StandsAt (step_on (found o) m) (goes_on (found o) p)
found_stands None m p s = next_stands m p s.name s.hears
found_stands (Some name) m p s = record { row = refl; name = refl; hears = s.hears; idle = λ e. absurd (cc) }

taken_hears : (i : Intake) (taken bytes : List ℕ) (begun : ℕ) → i.pending ≡ [] → Hears i taken begun → Hears (record i { pending = bytes }) (taken ++ bytes) begun
taken_hears i taken bytes begun idle h = record {
  before = h.before;
  read = h.read;
  taken_is = ap (λ (t : List ℕ). t ++ bytes) (h.taken_is ∙ ap (λ (r : List ℕ). flat_map ended h.before ++ (h.read ++ r)) idle ∙ ap (λ (r : List ℕ). flat_map ended h.before ++ r) (append-nil h.read))
      ∙ append_assoc (flat_map ended h.before) h.read bytes;
  count = h.count;
  each = h.each;
  plain = h.plain;
  word_is = h.word_is;
  turn_is = h.turn_is;
}

took_stands : (came : GotData) (m : Machine) (p : Place) → m.intake.pending ≡ [] → StandsAt m p → StandsAt (step_on (took came) m) (goes_on (took came) p)
took_stands (Took bytes) m p idle s = next_stands (with_taken m bytes) (record p { taken = p.taken ++ bytes }) s.name (taken_hears m.intake p.taken bytes p.begun idle s.hears)
took_stands End m p idle s = goes_stands m p (at.Ended 0) (λ e. cc) s
took_stands _ m p idle s = goes_stands m p (at.Ended 54) (λ e. cc) s

scan_or_next : (t : Bool) (m : Machine) (p : Place) → StandsAt m p
    → StandsAt (if t then record m { row = at.FindPid; name = [] } else with_next m) (if t then record p { row = at.FindPid; name = [] } else next_command p)
scan_or_next true m p s = record { row = refl; name = refl; hears = s.hears; idle = λ e. absurd (cc) }
scan_or_next false m p s = next_stands m p s.name s.hears

answered_stands : (m : Machine) (p : Place) → StandsAt m p → StandsAt (step_on Answers m) (goes_on Answers p)
answered_stands m p s =
    let h = s.hears in
    subst (λ n. StandsAt (if n == 0 then record m { row = at.FindPid; name = [] } else with_next m) (if p.begun % 31 == 0 then record p { row = at.FindPid; name = [] } else next_command p))
    (sym h.turn_is) (scan_or_next (p.begun % 31 == 0) m p s)

gave_stands : (came : GotData) (m : Machine) (p : Place) → StandsAt m p → StandsAt (step_on (gave came) m) (goes_on (gave came) p)
gave_stands Gave m p s = answered_stands m p s
gave_stands _ m p s = goes_stands m p (at.Ended 53) (λ e. cc) s

stated_goes : (o : Option ℕ) → stated o ≡ at.TakeInput → ⊥
stated_goes None e = cc
stated_goes (Some moment) e = cc

after_intd_goes : (command : Command) (t : Bool) → after_intd command t ≡ at.TakeInput → ⊥
after_intd_goes command true e = cc
after_intd_goes command false e = cc

after_second_goes : (t : Bool) → after_second t ≡ at.TakeInput → ⊥
after_second_goes true e = cc
after_second_goes false e = cc

judged_stands : (t : Bool) (o : Option (List ℕ)) (m : Machine) (p : Place) → StandsAt m p
    → StandsAt (step_on (if t then Goes at.FindPid else found o) m) (goes_on (if t then Goes at.FindPid else found o) p)
judged_stands true o m p s = goes_stands m p at.FindPid (λ e. cc) s
judged_stands false o m p s = found_stands o m p s

row_stands : (row : Row) (m : Machine) (p : Place) (came : GotData) → m.row ≡ row → StandsAt m p
    → StandsAt (step_on (leads_to row m.present came) m) (goes_on (leads_to row m.present came) p)
row_stands at.FindPid m p came is s = found_stands (name_in came) m p s
row_stands at.StatPid m p came is s = goes_stands m p (stated (moment_in came)) (stated_goes (moment_in came)) s
row_stands (at.JudgePid moment) m p came is s = judged_stands (is_old moment m.present) (name_in came) m p s
row_stands at.TakeInput m p came is s = took_stands came m p (s.idle is) s
row_stands (at.UnlinkIntd command) m p came is s = goes_stands m p (after_intd command (is_gone came)) (after_intd_goes command (is_gone came)) s
row_stands (at.UnlinkSecond command) m p came is s = goes_stands m p (after_second (is_gone came)) (after_second_goes (is_gone came)) s
row_stands (at.Answer reply) m p came is s = gave_stands came m p s
row_stands (at.Ended status) m p came is s = goes_stands m p (at.Ended status) (λ e. cc) s

-- What a cleaner is and does stands for a past

pub stands_on : (m : Machine) (args : Unit {0}) (past : List Own) (event : Own) → Stands m args past → event.read ≡ m.present → Stands (gone_on m event.came) args (event ∷ past)
stands_on m args past event s read =
    let p : Place = place_after past in
    subst (λ now. StandsAt (gone_on m event.came) (goes_on (leads_to p.row now event.came) p)) (sym read)
    (subst (λ row. StandsAt (gone_on m event.came) (goes_on (leads_to row m.present event.came) p)) s.row (row_stands m.row m p event.came refl s))

pub due_stands : (m : Machine) (args : Unit {0}) (past : List Own) → Stands m args past → due_now m ≡ Next args past m.present m.ready
due_stands m args past s =
    let row = s.row in
    let name = s.name in
    λ i. due_at (row i) (name i) m.present

pub looked_stands : (m : Machine) (args : Unit {0}) (past : List Own) (now : ℕ) (ready : Ready) → Stands m args past → Stands (record m { present = now; ready = ready }) args past
looked_stands m args past now ready s = record { row = s.row; name = s.name; hears = s.hears; idle = s.idle }

begun_hears : Hears (record { word = []; pending = []; turn = 0 }) [] 0
begun_hears = record {
  before = [];
  read = [];
  taken_is = refl;
  count = refl;
  each = All-nil HasNoNul;
  plain = All-nil (λ b. b ≡ 0 → ⊥);
  word_is = refl;
  turn_is = refl;
}

pub new_stands : (m : Machine) (args : Unit {0}) → m.row ≡ at.FindPid → m.name ≡ [] → m.intake ≡ record { word = []; pending = []; turn = 0 } → Stands m args []
new_stands m args row name intake = record {
  row = row;
  name = name;
  hears = subst (λ (i : Intake). Hears i [] 0) (sym intake) begun_hears;
  idle = λ e. absurd (cc);
}
