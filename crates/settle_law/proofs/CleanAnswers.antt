-- A cleaner that was asked `todo/N` alone is about to answer nothing but `+`, as long as no unlink fails.
use Rattle.std.proofs.Common.{◌≡◌, ◌⊎◌, inl, inr, ℕ, suc, ◌+◌, ◌≤◌, ◌<◌, ◌^◌, List, [], ◌∷◌, ◌++◌, length, drop, Bool, true, false, if◌then◌else◌, Option, Some, None, refl, sym, ap, ◌∙◌, subst, arith, append_assoc, codes}
use Rattle.std.specs.Prelude.{◌==◌, ◌%◌, slice_get}
use Rattle.std.proofs.lemmas.Bool.{false≢true}
use Rattle.call_fs.specs.declared.calls.CallData.TheVariants as call
use Rattle.call_fs.specs.declared.past.GotData.{GotData}
use Rattle.call_fs.specs.declared.past.GotData.TheVariants as came
use Rattle.call_fs.specs.declared.past.NeedData.{NeedData}
use Rattle.call_fs.specs.declared.past.NeedData.TheVariants as needs
use Rattle.call_fs.specs.declared.past.Own.{Own}
use Rattle.call_fs.specs.declared.program.Port.TheVariants as port
use Rattle.queue_clean.proofs.Texts.{text_read}
use Rattle.queue_clean.specs.declared.command.Command.{Command}
use Rattle.queue_clean.specs.declared.command.Command.TheVariants.{Todo}
use Rattle.queue_clean.specs.declared.intake.TheConstants.{ROUND}
use Rattle.queue_clean.specs.declared.row.Reply.TheVariants.{Removed}
use Rattle.queue_clean.specs.declared.row.Row.{Row}
use Rattle.queue_clean.specs.declared.row.Row.TheVariants as at
use Rattle.queue_clean.specs.Commands.{command_of, commands, first_name, second_name, text_of}
use Rattle.queue_clean.specs.Table.{Place, after_intd, after_second, due_at, due_by, first_row, found, gave, goes_on, is_gone, is_old, leads_to, moment_in, name_in, next_command, pid_path, search_after, stated, take_up, took}
use Rattle.queue_clean.specs.Table.Step.{Answers, Goes}
use Rattle.queue_paths.specs.Names.{path}
use Rattle.program_law.specs.Errand.Errands.{Awaits, Errand, IsOffered, Link, answers_by, at_work, cleans, count, most, texts_of}
use Rattle.program_law.specs.Errand.Errands.Awaits.{Answer}
use Rattle.program_law.proofs.Errand.Links.{first_waits}
use Rattle.program_law.proofs.Errand.Texts.{drop_get, get_grows}
use Rattle.settle_law.specs.Well.{came_well}

-- it isn't about to answer anything else
abbrev pub SaysNoElse : Row → Type 0
SaysNoElse (at.Answer Removed) = Unit {0}
SaysNoElse (at.Answer reply) = ⊥
SaysNoElse row = Unit {0}

-- nothing, or `+`
abbrev pub IsPlus : List ℕ → Type 0
IsPlus answers = (answers ≡ []) ⊎ (answers ≡ codes "+")

abbrev pub Agrees : Link → Type 0
Agrees x = SaysNoElse x.place.row × IsPlus x.answers

-- What is taken up

module _ (waits : Option Command) (n : ℕ) (positive : 1 ≤ n) (small : n < 2 ^ 64) (from : (other : Command) → waits ≡ Some other → other ≡ Todo n) where
  first_says : (text : List ℕ) (rest : List (List ℕ)) → text ∷ rest ≡ texts_of waits → SaysNoElse (first_row (command_of text))
  first_says text rest is =
      let f = first_waits waits text rest is in
      let same : f.command ≡ Todo n = from f.command f.is in
      let read : command_of text ≡ Some (Todo n) = ap command_of (f.text_is ∙ ap text_of same) ∙ text_read (Todo n) positive small in
      subst (λ (o : Option Command). SaysNoElse (first_row o)) (sym read) tt

  module _ (p : Place) (given : List ℕ) (texts : drop p.begun (commands (p.taken ++ given)) ≡ texts_of waits) where
    up_says : (o : Option (List ℕ)) → slice_get (commands p.taken) p.begun ≡ o → SaysNoElse (take_up o p).row
    up_says None got = tt
    up_says (Some text) got =
        let here = get_grows p.taken given p.begun text got in
        first_says text (drop (suc p.begun) (commands (p.taken ++ given))) (sym (drop_get (commands (p.taken ++ given)) p.begun text here) ∙ texts)

    next_says : SaysNoElse (next_command p).row
    next_says = up_says (slice_get (commands p.taken) p.begun) refl

    found_says : (o : Option (List ℕ)) → SaysNoElse (goes_on (found o) p).row
    found_says None = next_says
    found_says (Some name) = tt

    stated_says : (o : Option ℕ) → SaysNoElse (stated o)
    stated_says None = tt
    stated_says (Some moment) = tt

    judged_says : (moment read : ℕ) (got : GotData) → SaysNoElse (goes_on (leads_to (at.JudgePid moment) read got) p).row
    judged_says moment read got = by (is_old moment read)
      where
        by : (b : Bool) → SaysNoElse (goes_on (if b then Goes at.FindPid else found (name_in got)) p).row
        by true = tt
        by false = found_says (name_in got)

    answers_says : SaysNoElse (goes_on Answers p).row
    answers_says = by (p.begun % ROUND == 0)
      where
        by : (b : Bool) → SaysNoElse (if b then record p { row = at.FindPid; name = [] } else next_command p).row
        by true = tt
        by false = next_says

    gave_says : (got : GotData) → SaysNoElse (goes_on (gave got) p).row
    gave_says came.Gave = answers_says
    gave_says got = tt

  took_says : (p : Place) (given : List ℕ) → drop p.begun (commands (p.taken ++ given)) ≡ texts_of waits → (got : GotData) → IsOffered given (needs.Take port.Input) got
      → SaysNoElse (goes_on (took got) p).row
  took_says p given texts (came.Took bytes) offered =
      let rest : List ℕ = offered.0 in
      let all : (p.taken ++ bytes) ++ rest ≡ p.taken ++ given = append_assoc p.taken bytes rest ∙ ap (λ (t : List ℕ). p.taken ++ t) (sym offered.1) in
      next_says (record p { taken = p.taken ++ bytes }) rest (ap (λ (t : List ℕ). drop p.begun (commands t)) all ∙ texts)
  took_says p given texts came.End offered = tt
  took_says p given texts got offered = tt

  -- An event, by its row

  row_says : (row : Row) (p : Place) (given : List ℕ) → drop p.begun (commands (p.taken ++ given)) ≡ texts_of waits → (read : ℕ) (got : GotData) → IsOffered given (due_at row p.name read) got
      → ((name : List ℕ) → due_at row p.name read ≡ needs.File (call.Unlink name) → is_gone got ≡ true) → SaysNoElse (goes_on (leads_to row read got) p).row
  row_says at.FindPid p given texts read got offered gone = found_says p given texts (name_in got)
  row_says at.StatPid p given texts read got offered gone = stated_says p given texts (moment_in got)
  row_says (at.JudgePid moment) p given texts read got offered gone = judged_says p given texts moment read got
  row_says at.TakeInput p given texts read got offered gone = took_says p given texts got offered
  row_says (at.UnlinkIntd c) p given texts read got offered gone =
      subst (λ (b : Bool). SaysNoElse (after_intd c b)) (sym (gone (path (first_name c)) refl)) tt
  row_says (at.UnlinkSecond c) p given texts read got offered gone =
      subst (λ (b : Bool). SaysNoElse (after_second b)) (sym (gone (path (second_name c)) refl)) tt
  row_says (at.Answer reply) p given texts read got offered gone = gave_says p given texts got
  row_says (at.Ended status) p given texts read got offered gone = tt

-- What was answered

given_plus : (got : GotData) (wrote : ℕ) (answers : List ℕ) → came_well got ≡ true → answers ≡ [] → IsPlus (answers_by (needs.Give port.Output (codes "+")) got wrote answers)
given_plus came.Gave wrote answers well none = inr (ap (λ (t : List ℕ). t ++ codes "+") none)
given_plus came.Failed wrote answers well none = absurd (false≢true well)
given_plus got wrote answers well none = inl none

row_plus : (row : Row) → SaysNoElse row → (name : List ℕ) (read : ℕ) (got : GotData) (wrote : ℕ) (answers : List ℕ) → came_well got ≡ true → IsPlus answers → (at_work row ≡ 1 → answers ≡ [])
    → IsPlus (answers_by (due_at row name read) got wrote answers)
row_plus at.FindPid says name read got wrote answers well plus none = plus
row_plus at.StatPid says name read got wrote answers well plus none = plus
row_plus (at.JudgePid moment) says name read got wrote answers well plus none = by (is_old moment read)
  where
    by : (b : Bool) → IsPlus (answers_by (if b then needs.File (call.Unlink (pid_path name)) else search_after name) got wrote answers)
    by true = plus
    by false = plus
row_plus at.TakeInput says name read got wrote answers well plus none = plus
row_plus (at.UnlinkIntd c) says name read got wrote answers well plus none = plus
row_plus (at.UnlinkSecond c) says name read got wrote answers well plus none = plus
row_plus (at.Answer Removed) says name read got wrote answers well plus none = given_plus got wrote answers well (none refl)
row_plus (at.Answer reply) says name read got wrote answers well plus none = absurd says
row_plus (at.Ended status) says name read got wrote answers well plus none = plus

pub no_bytes : (bytes : List ℕ) → length bytes ≡ 0 → bytes ≡ []
no_bytes [] e = refl
no_bytes (b ∷ bytes) e = absurd (omega (arith, e))

-- An event of the cleaner

module _ (waits : Option Command) (x : Link) (E : Errand waits x) (n : ℕ) (awaits : x.awaits ≡ Answer (Todo n)) (positive : 1 ≤ n) (small : n < 2 ^ 64) (own : Own) (wrote : ℕ)
    (due : own.due ≡ due_by x.place own.read) (offered : IsOffered x.given own.due own.came) (well : came_well own.came ≡ true)
    (gone : (name : List ℕ) → own.due ≡ needs.File (call.Unlink name) → is_gone own.came ≡ true) where
  none_answered : at_work x.place.row ≡ 1 → x.answers ≡ []
  none_answered busy =
      let low : count waits + (at_work x.place.row + length x.answers) ≤ 1 = subst (λ (w : Awaits). count waits + (at_work x.place.row + length x.answers) ≤ most w) awaits E.one in
      no_bytes x.answers (omega (arith, low, busy))

  pub cleaned_agrees : Agrees x → Agrees (cleans own wrote x)
  cleaned_agrees A = (
    row_says waits n positive small (E.errand (Todo n) awaits).waiting_is x.place.row x.place x.given E.texts own.read own.came (subst (λ (d : NeedData). IsOffered x.given d own.came) due offered)
        (λ name is. gone name (due ∙ is)),
    subst (λ (d : NeedData). IsPlus (answers_by d own.came wrote x.answers)) (sym due)
        (row_plus x.place.row A.0 x.place.name own.read own.came wrote x.answers well A.1 none_answered),
  )
