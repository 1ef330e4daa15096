-- Each event of a cleaner.
use Rattle.std.proofs.Common.{◌≡◌, ◌≢◌, inl, inr, ℕ, zero, suc, ◌+◌, ◌≤◌, List, [], ◌∷◌, ◌++◌, length, take, drop, Option, Some, None, Bool, true, false, refl, sym, ap, ◌∙◌, subst, ⊎_elim, arith, append_assoc}
use Rattle.std.specs.Prelude.{if◌then◌else◌, ◌==◌, ◌%◌, slice_get}
use Rattle.call_fs.specs.declared.past.GotData.{GotData}
use Rattle.call_fs.specs.declared.past.GotData.TheVariants as came
use Rattle.call_fs.specs.declared.calls.CallData.TheVariants as call
use Rattle.call_fs.specs.declared.past.NeedData.{NeedData}
use Rattle.call_fs.specs.declared.past.NeedData.TheVariants as needs
use Rattle.call_fs.specs.declared.past.Own.{Own}
use Rattle.call_fs.specs.declared.program.Ready.{Ready}
use Rattle.queue_clean.specs.declared.command.Command.{Command}
use Rattle.queue_clean.specs.declared.intake.TheConstants.{ROUND}
use Rattle.queue_clean.specs.declared.row.Reply.{Reply}
use Rattle.queue_clean.specs.declared.row.Reply.TheVariants.{Removed, Failed, Unknown}
use Rattle.queue_clean.specs.declared.row.Row.{Row}
use Rattle.queue_clean.specs.declared.row.Row.TheVariants as at
use Rattle.queue_clean.specs.Commands.{commands, command_of}
use Rattle.queue_clean.specs.Table.{Place, first_row, take_up, next_command, name_in, is_gone, after_intd, after_second, found, is_old, moment_in, stated, reply_text, pid_path, search_after, due_at, goes_on}
use Rattle.queue_clean.specs.Table.Step.{Goes}
use Rattle.program_law.specs.Errand.Errands.{Awaits, Link, work_at, at_work, most, texts_of, count, GivesWhole, Errand, left_by, answers_by, cleans, IsOffered}
use Rattle.program_law.specs.Errand.Errands.Awaits.{Nothing, Answer, Over}
use Rattle.program_law.specs.Errand.Laws.{IsAnsweredBy, Cleans, CleansKeep}
use Rattle.program_law.proofs.Errand.Texts.{get_grows, drop_get, get_within, heard_longer, read_text}
use Rattle.program_law.proofs.Errand.Links.{first_waits}

-- What holds before a command is taken up: none is at work.
record IsReady (w : Awaits) (p : Place) (given answers : List ℕ) (waits : Option Command) : Type 0 where
  texts : drop p.begun (commands (p.taken ++ given)) ≡ texts_of waits
  taken_up : p.begun ≤ length (commands p.taken)
  one : count waits + length answers ≤ most w
  whole : GivesWhole w (p.taken ++ given)
  errand : (c : Command) → w ≡ Answer c → (other : Command) → waits ≡ Some other → other ≡ c

-- and what holds then
record TakesUp (w : Awaits) (p : Place) (given answers : List ℕ) (waits : Option Command) : Type 0 where
  still : Option Command
  keeps : Errand still (record { awaits = w; place = p; given = given; answers = answers })
  from : (c : Command) → still ≡ Some c → waits ≡ Some c
  unwell : p.row ≢ at.Answer Removed

first_work : (o : Option Command) → at_work (first_row o) ≡ 1
first_work None = refl
first_work (Some c) = refl

first_is : (o : Option Command) (c : Command) → work_at (first_row o) ≡ Some c → o ≡ Some c
first_is None c e = absurd (cc)
first_is (Some d) c e = e

first_unwell : (o : Option Command) → first_row o ≢ at.Answer Removed
first_unwell None e = cc
first_unwell (Some c) e = cc

takes_up_by : (o : Option (List ℕ)) (w : Awaits) (p : Place) (given answers : List ℕ) (waits : Option Command) → slice_get (commands p.taken) p.begun ≡ o
    → IsReady w p given answers waits → TakesUp w (take_up o p) given answers waits
takes_up_by None w p given answers waits got h = record {
  still = waits;
  keeps = record {
    texts = h.texts;
    taken_up = h.taken_up;
    one = let v = h.one in omega (arith, v);
    whole = h.whole;
    errand = λ c is. record { waiting_is = h.errand c is; working_is = λ other same. absurd (cc) };
  };
  from = λ c is. is;
  unwell = λ e. cc;
}
takes_up_by (Some text) w p given answers waits got h =
    let here = get_grows p.taken given p.begun text got in
    let cs = commands (p.taken ++ given) in
    let f = first_waits waits text (drop (suc p.begun) cs) (sym (drop_get cs p.begun text here) ∙ h.texts) in
    let next : p.begun + 1 ≡ suc p.begun = omega arith in
    record {
      still = None;
      keeps = record {
        texts = ap (λ k. drop k cs) next ∙ f.last;
        taken_up = let v = get_within (commands p.taken) p.begun text got in omega (arith, v);
        one =
            let v : count waits ≡ 1 = ap count f.is in
            let u = h.one in
            let t = first_work (command_of text) in
            omega (arith, v, u, t);
        whole = h.whole;
        errand = λ c is. record {
          waiting_is = λ other same. absurd (cc);
          working_is = λ other same.
              read_text f.command other text f.text_is (first_is (command_of text) other same) ∙ h.errand c is f.command f.is;
        };
      };
      from = λ c is. absurd (cc);
      unwell = first_unwell (command_of text);
    }

takes_up : (w : Awaits) (p : Place) (given answers : List ℕ) (waits : Option Command) → IsReady w p given answers waits → TakesUp w (next_command p) given answers waits
takes_up w p given answers waits h = takes_up_by (slice_get (commands p.taken) p.begun) w p given answers waits refl h

module _ (waits : Option Command) (w : Awaits) (row : Row) (name taken : List ℕ) (begun : ℕ) (given answers : List ℕ) where
  abbrev p : Place
  p = record { row = row; name = name; taken = taken; begun = begun }

  abbrev x : Link
  x = record { awaits = w; place = p; given = given; answers = answers }

  -- with another row, at which no more is at work
  stays : (other : Row) (words : List ℕ) → Errand waits x → at_work other ≤ at_work row → ((c : Command) → work_at other ≡ Some c → work_at row ≡ Some c)
      → Errand waits (record { awaits = w; place = record { row = other; name = words; taken = taken; begun = begun }; given = given; answers = answers })
  stays other words E less works = record {
    texts = E.texts;
    taken_up = E.taken_up;
    one = let v = E.one in omega (arith, v, less);
    whole = E.whole;
    errand = λ c is. let v = E.errand c is in record { waiting_is = v.waiting_is; working_is = λ d same. v.working_is d (works d same) };
  }

  -- nothing at work
  ready : Errand waits x → at_work row ≡ 0 → IsReady w p given answers waits
  ready E idle = record {
    texts = E.texts;
    taken_up = E.taken_up;
    one = let v = E.one in omega (arith, v, idle);
    whole = E.whole;
    errand = λ c is. (E.errand c is).waiting_is;
  }

-- One answer

abbrev first : List ℕ → ℕ
first [] = 0
first (b ∷ bs) = b

said_length : (answers : List ℕ) (reply : Reply) → length answers ≡ 0 → length (answers ++ reply_text reply) ≡ 1
said_length [] Removed none = refl
said_length [] Failed none = refl
said_length [] Unknown none = refl
said_length (b ∷ bs) reply none = absurd (omega (arith, none))

said_well : (answers : List ℕ) (reply : Reply) → length answers ≡ 0 → answers ++ reply_text reply ≡ 43 ∷ [] → reply ≡ Removed
said_well [] Removed none is = refl
said_well [] Failed none is = let w : 33 ≡ 43 = ap first is in absurd (omega (arith, w))
said_well [] Unknown none is = let w : 120 ≡ 43 = ap first is in absurd (omega (arith, w))
said_well (b ∷ bs) reply none is = absurd (omega (arith, none))

part_length : (answers : List ℕ) (reply : Reply) (wrote : ℕ) → length answers ≡ 0 → length (answers ++ take wrote (reply_text reply)) ≤ 1
part_length [] reply zero none = omega arith
part_length [] Removed (suc zero) none = omega arith
part_length [] Removed (suc (suc k)) none = omega arith
part_length [] Failed (suc zero) none = omega arith
part_length [] Failed (suc (suc k)) none = omega arith
part_length [] Unknown (suc zero) none = omega arith
part_length [] Unknown (suc (suc k)) none = omega arith
part_length (b ∷ bs) reply wrote none = absurd (omega (arith, none))

part_well : (answers : List ℕ) (reply : Reply) (wrote : ℕ) → length answers ≡ 0 → answers ++ take wrote (reply_text reply) ≡ 43 ∷ [] → reply ≡ Removed
part_well [] Removed wrote none is = refl
part_well [] reply zero none is = absurd (cc)
part_well [] Failed (suc k) none is = let w : 33 ≡ 43 = ap first is in absurd (omega (arith, w))
part_well [] Unknown (suc k) none is = let w : 120 ≡ 43 = ap first is in absurd (omega (arith, w))
part_well (b ∷ bs) reply wrote none is = absurd (omega (arith, none))

drop_past : (xs ys : List ℕ) → drop (length xs) (xs ++ ys) ≡ ys
drop_past [] ys = refl
drop_past (x ∷ xs) ys = drop_past xs ys

few : (w : Awaits) → most w ≤ 1
few Nothing = omega arith
few (Answer c) = omega arith
few Over = omega arith

module _ (waits : Option Command) (w : Awaits) (name taken : List ℕ) (begun : ℕ) (given answers : List ℕ) (read : ℕ) (found_ready : Ready) (wrote : ℕ) where
  abbrev at_row : Row → Link
  at_row row = x waits w row name taken begun given answers

  abbrev event : Row → GotData → Own
  event row got = record { read = read; ready = found_ready; due = due_at row name read; came = got }

  -- no call: it goes to another row with no more at work
  abbrev moves : (row other : Row) (words : List ℕ) (e : Own) → Errand waits (at_row row) → at_work other ≤ at_work row → ((c : Command) → work_at other ≡ Some c → work_at row ≡ Some c)
      → cleans e wrote (at_row row) ≡ record { awaits = w; place = record { row = other; name = words; taken = taken; begun = begun }; given = given; answers = answers }
      → (other ≡ at.Answer Removed → IsAnsweredBy e (at_row row)) → Cleans waits e wrote (at_row row)
  moves row other words e E less works is well = record {
    still = waits;
    keeps = subst (Errand waits) (sym is) (stays waits w row name taken begun given answers other words E less works);
    from = λ c same. same;
    well = λ says. ⊎_elim
        (λ here. inr (well (sym (ap (λ (l : Link). l.place.row) is) ∙ here)))
        (λ bytes. inl (inr (sym (ap (λ (l : Link). l.answers) is) ∙ bytes)))
        says;
  }

  -- it takes a command up
  abbrev goes : (row : Row) (e : Own) (q : Place) (left : List ℕ) → IsReady w q left answers waits
      → cleans e wrote (at_row row) ≡ record { awaits = w; place = next_command q; given = left; answers = answers } → Cleans waits e wrote (at_row row)
  goes row e q left h is =
      let t = takes_up w q left answers waits h in
      record {
        still = t.still;
        keeps = subst (Errand t.still) (sym is) t.keeps;
        from = t.from;
        well = λ says. ⊎_elim
            (λ here. absurd (t.unwell (sym (ap (λ (l : Link). l.place.row) is) ∙ here)))
            (λ bytes. inl (inr (sym (ap (λ (l : Link). l.answers) is) ∙ bytes)))
            says;
      }

  abbrev Step : Row → GotData → Type 0
  Step row got = Errand waits (at_row row) → IsOffered given (due_at row name read) got → Cleans waits (event row got) wrote (at_row row)

  -- The scan of `pid`

  finds : (o : Option (List ℕ)) (got : GotData) → name_in got ≡ o → Step at.FindPid got
  finds None got is E offered =
      goes at.FindPid (event at.FindPid got) (p waits w at.FindPid name taken begun given answers) given (ready waits w at.FindPid name taken begun given answers E refl)
      (ap (λ o. record { awaits = w; place = goes_on (found o) (p waits w at.FindPid name taken begun given answers); given = given; answers = answers }) is)
  finds (Some text) got is E offered =
      moves at.FindPid at.StatPid text (event at.FindPid got) E (omega arith) (λ c same. absurd (cc))
      (ap (λ o. record { awaits = w; place = goes_on (found o) (p waits w at.FindPid name taken begun given answers); given = given; answers = answers }) is) (λ e. absurd (cc))

  stats : (o : Option ℕ) (got : GotData) → moment_in got ≡ o → Step at.StatPid got
  stats None got is E offered =
      moves at.StatPid at.FindPid name (event at.StatPid got) E (omega arith) (λ c same. absurd (cc))
      (ap (λ o. record { awaits = w; place = goes_on (Goes (stated o)) (p waits w at.StatPid name taken begun given answers); given = given; answers = answers }) is) (λ e. absurd (cc))
  stats (Some moment) got is E offered =
      moves at.StatPid (at.JudgePid moment) name (event at.StatPid got) E (omega arith) (λ c same. absurd (cc))
      (ap (λ o. record { awaits = w; place = goes_on (Goes (stated o)) (p waits w at.StatPid name taken begun given answers); given = given; answers = answers }) is) (λ e. absurd (cc))

  module _ (moment : ℕ) (got : GotData) where
    abbrev judging : Row
    judging = at.JudgePid moment

    abbrev pl : Place
    pl = p waits w judging name taken begun given answers

    abbrev asked : Bool → NeedData
    asked b = if b then needs.File (call.Unlink (pid_path name)) else search_after name

    abbrev to : Bool → Option (List ℕ) → Link
    to b o = record {
      awaits = w;
      place = goes_on (if b then Goes at.FindPid else found o) pl;
      given = left_by (asked b) got given;
      answers = answers_by (asked b) got wrote answers;
    }

    judges : (old : Bool) (o : Option (List ℕ)) → is_old moment read ≡ old → name_in got ≡ o → Step judging got
    judges true o is told E offered = moves judging at.FindPid name (event judging got) E (omega arith) (λ c same. absurd (cc)) (ap (λ b. to b (name_in got)) is) (λ e. absurd (cc))
    judges false None is told E offered =
        goes judging (event judging got) pl given (ready waits w judging name taken begun given answers E refl) (ap (λ b. to b (name_in got)) is ∙ ap (to false) told)
    judges false (Some text) is told E offered =
        moves judging at.StatPid text (event judging got) E (omega arith) (λ c same. absurd (cc)) (ap (λ b. to b (name_in got)) is ∙ ap (to false) told) (λ e. absurd (cc))

  -- The unlinks

  intd : (c : Command) (gone : Bool) (got : GotData) → is_gone got ≡ gone → Step (at.UnlinkIntd c) got
  intd c true got is E offered =
      moves (at.UnlinkIntd c) (at.UnlinkSecond c) name (event (at.UnlinkIntd c) got) E (omega arith) (λ d same. same)
      (ap (λ b. record { awaits = w; place = record { row = after_intd c b; name = name; taken = taken; begun = begun }; given = given; answers = answers }) is) (λ e. absurd (cc))
  intd c false got is E offered =
      moves (at.UnlinkIntd c) (at.Answer Failed) name (event (at.UnlinkIntd c) got) E (omega arith) (λ d same. absurd (cc))
      (ap (λ b. record { awaits = w; place = record { row = after_intd c b; name = name; taken = taken; begun = begun }; given = given; answers = answers }) is) (λ e. absurd (cc))

  second : (c : Command) (gone : Bool) (got : GotData) → is_gone got ≡ gone → Step (at.UnlinkSecond c) got
  second c true got is E offered =
      moves (at.UnlinkSecond c) (at.Answer Removed) name (event (at.UnlinkSecond c) got) E (omega arith) (λ d same. absurd (cc))
      (ap (λ b. record { awaits = w; place = record { row = after_second b; name = name; taken = taken; begun = begun }; given = given; answers = answers }) is)
      (λ e. record { command = c; row = refl; next = ap after_second is; only = λ asked same. (E.errand asked same).working_is c refl })
  second c false got is E offered =
      moves (at.UnlinkSecond c) (at.Answer Failed) name (event (at.UnlinkSecond c) got) E (omega arith) (λ d same. absurd (cc))
      (ap (λ b. record { awaits = w; place = record { row = after_second b; name = name; taken = taken; begun = begun }; given = given; answers = answers }) is) (λ e. absurd (cc))

  -- A taking

  ends_at : (row : Row) (got : GotData) (status : ℕ) → Errand waits (at_row row)
      → cleans (event row got) wrote (at_row row) ≡ record { awaits = w; place = record { row = at.Ended status; name = name; taken = taken; begun = begun }; given = given; answers = answers }
      → Cleans waits (event row got) wrote (at_row row)
  ends_at row got status E is = moves row (at.Ended status) name (event row got) E (omega arith) (λ c same. absurd (cc)) is (λ e. absurd (cc))

  takes : (got : GotData) → Step at.TakeInput got
  takes (came.Took bytes) E offered =
      let left : drop (length bytes) given ≡ offered.0 = ap (drop (length bytes)) offered.1 ∙ drop_past bytes offered.0 in
      let all : (taken ++ bytes) ++ offered.0 ≡ taken ++ given = append_assoc taken bytes offered.0 ∙ ap (λ (t : List ℕ). taken ++ t) (sym offered.1) in
      let r = ready waits w at.TakeInput name taken begun given answers E refl in
      goes at.TakeInput (event at.TakeInput (came.Took bytes)) (record { row = at.TakeInput; name = name; taken = taken ++ bytes; begun = begun }) offered.0
      (record {
        texts = ap (λ (t : List ℕ). drop begun (commands t)) all ∙ r.texts;
        taken_up = let v = heard_longer taken bytes in let u = r.taken_up in omega (arith, v, u);
        one = r.one;
        whole = subst (GivesWhole w) (sym all) r.whole;
        errand = r.errand;
      })
      (ap (λ (t : List ℕ). record { awaits = w; place = next_command (record { row = at.TakeInput; name = name; taken = taken ++ bytes; begun = begun }); given = t; answers = answers }) left)
  takes came.End E offered = ends_at at.TakeInput came.End _ E refl
  takes (came.Answered told) E offered = ends_at at.TakeInput (came.Answered told) _ E refl
  takes (came.Ended status) E offered = ends_at at.TakeInput (came.Ended status) _ E refl
  takes came.Crashed E offered = ends_at at.TakeInput came.Crashed _ E refl
  takes came.Gave E offered = ends_at at.TakeInput came.Gave _ E refl
  takes (came.Started pid) E offered = ends_at at.TakeInput (came.Started pid) _ E refl
  takes came.Failed E offered = ends_at at.TakeInput came.Failed _ E refl
  takes came.Memory E offered = ends_at at.TakeInput came.Memory _ E refl

  -- A giving

  module _ (reply : Reply) (E : Errand waits (at_row (at.Answer reply))) where
    none : (count waits ≡ 0) × (length answers ≡ 0)
    none = let v = E.one in let u = few w in (omega (arith, v, u), omega (arith, v, u))

    -- nothing is at work then, and this was given
    answered : (row : Row) (words said : List ℕ) → at_work row ≡ 0 → work_at row ≡ None → length said ≤ 1
        → Errand waits (record { awaits = w; place = record { row = row; name = words; taken = taken; begun = begun }; given = given; answers = said })
    answered row words said idle free short = record {
      texts = E.texts;
      taken_up = E.taken_up;
      one = let v = E.one in let n = none in let l = n.0 in omega (arith, v, l, idle, short);
      whole = E.whole;
      errand = λ c is. record { waiting_is = (E.errand c is).waiting_is; working_is = λ d same. absurd (cc) };
    }

    gave : (scan : Bool) → (begun % ROUND == 0) ≡ scan → Cleans waits (event (at.Answer reply) came.Gave) wrote (at_row (at.Answer reply))
    gave true is =
        let said = answers ++ reply_text reply in
        let to : cleans (event (at.Answer reply) came.Gave) wrote (at_row (at.Answer reply)) ≡
        record { awaits = w; place = record { row = at.FindPid; name = []; taken = taken; begun = begun }; given = given; answers = said } =
        ap (λ b. record { awaits = w; place = if b then record { row = at.FindPid; name = []; taken = taken; begun = begun } else next_command (p waits w (at.Answer reply) name taken begun given answers); given = given; answers = said }) is in
        record {
          still = waits;
          keeps = subst (Errand waits) (sym to) (answered at.FindPid [] said refl refl (let v = said_length answers reply none.1 in omega (arith, v)));
          from = λ c same. same;
          well = λ says. inl (⊎_elim
              (λ here. let v = sym (ap (λ (l : Link). l.place.row) to) ∙ here in absurd (cc))
              (λ bytes. inl (ap at.Answer (said_well answers reply none.1 (sym (ap (λ (l : Link). l.answers) to) ∙ bytes))))
              says);
        }
    gave false is =
        let said = answers ++ reply_text reply in
        let to : cleans (event (at.Answer reply) came.Gave) wrote (at_row (at.Answer reply)) ≡
        record { awaits = w; place = next_command (p waits w (at.Answer reply) name taken begun given answers); given = given; answers = said } =
        ap (λ b. record { awaits = w; place = if b then record { row = at.FindPid; name = []; taken = taken; begun = begun } else next_command (p waits w (at.Answer reply) name taken begun given answers); given = given; answers = said }) is in
        let t = takes_up w (p waits w (at.Answer reply) name taken begun given answers) given said waits (record {
          texts = E.texts;
          taken_up = E.taken_up;
          one = let v = E.one in let n = none in let l = n.0 in let k = said_length answers reply none.1 in omega (arith, v, l, k);
          whole = E.whole;
          errand = λ c same. (E.errand c same).waiting_is;
        }) in
        record {
          still = t.still;
          keeps = subst (Errand t.still) (sym to) t.keeps;
          from = t.from;
          well = λ says. inl (⊎_elim
              (λ here. absurd (t.unwell (sym (ap (λ (l : Link). l.place.row) to) ∙ here)))
              (λ bytes. inl (ap at.Answer (said_well answers reply none.1 (sym (ap (λ (l : Link). l.answers) to) ∙ bytes))))
              says);
        }

    failed : Cleans waits (event (at.Answer reply) came.Failed) wrote (at_row (at.Answer reply))
    failed =
        let said = answers ++ take wrote (reply_text reply) in
        record {
          still = waits;
          keeps = answered (at.Ended _) name said refl refl (part_length answers reply wrote none.1);
          from = λ c same. same;
          well = λ says. inl (⊎_elim
              (λ here. absurd (cc))
              (λ bytes. inl (ap at.Answer (part_well answers reply wrote none.1 bytes)))
              says);
        }

  gives : (reply : Reply) (got : GotData) → Step (at.Answer reply) got
  gives reply came.Gave E offered = gave reply E (begun % ROUND == 0) refl
  gives reply came.Failed E offered = failed reply E
  gives reply (came.Answered told) E offered = ends_at (at.Answer reply) (came.Answered told) _ E refl
  gives reply (came.Took bytes) E offered = ends_at (at.Answer reply) (came.Took bytes) _ E refl
  gives reply came.End E offered = ends_at (at.Answer reply) came.End _ E refl
  gives reply (came.Ended status) E offered = ends_at (at.Answer reply) (came.Ended status) _ E refl
  gives reply came.Crashed E offered = ends_at (at.Answer reply) came.Crashed _ E refl
  gives reply (came.Started pid) E offered = ends_at (at.Answer reply) (came.Started pid) _ E refl
  gives reply came.Memory E offered = ends_at (at.Answer reply) came.Memory _ E refl

  step : (row : Row) (got : GotData) → Step row got
  step at.FindPid got E offered = finds (name_in got) got refl E offered
  step at.StatPid got E offered = stats (moment_in got) got refl E offered
  step (at.JudgePid moment) got E offered = judges moment got (is_old moment read) (name_in got) refl refl E offered
  step at.TakeInput got E offered = takes got E offered
  step (at.UnlinkIntd c) got E offered = intd c (is_gone got) got refl E offered
  step (at.UnlinkSecond c) got E offered = second c (is_gone got) got refl E offered
  step (at.Answer reply) got E offered = gives reply got E offered
  step (at.Ended status) got E offered = ends_at (at.Ended status) got status E refl

abbrev due_as : Own → NeedData → Own
due_as own d = record { read = own.read; ready = own.ready; due = d; came = own.came }

pub cleans_keep : CleansKeep
cleans_keep waits own wrote l E due offered =
    let q = l.place in
    subst (λ (d : NeedData). Cleans waits (due_as own d) wrote l) (sym due)
    (step waits l.awaits q.name q.taken q.begun l.given l.answers own.read own.ready wrote q.row own.came E
    (subst (λ (d : NeedData). IsOffered l.given d own.came) due offered))
