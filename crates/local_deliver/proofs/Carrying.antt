-- What a delivery has done, at each row.
use Rattle.std.proofs.Common.{◌≡◌, ℕ, List, [], ◌∷◌, ◌++◌, length, take, Bool, true, false, Option, Some, None, refl, sym, ap, ◌∙◌, subst, append_assoc}
use Rattle.std.specs.Prelude.{if◌then◌else◌, nat_lt, ◌==◌, bytes_eq, codes}
use Rattle.std.specs.Option.{option_map}
use Rattle.std.proofs.lemmas.Bool.{false≢true}
use Rattle.std.proofs.lemmas.Bool.Decides.{Decides-eqb}
use Rattle.std.proofs.lemmas.List.{append-nil}
use Rattle.call_fs.specs.declared.calls.Answer.{Answer}
use Rattle.call_fs.specs.declared.calls.Answer.TheVariants as answer
use Rattle.call_fs.specs.declared.calls.CallData.{CallData}
use Rattle.call_fs.specs.declared.calls.CallData.TheVariants as call
use Rattle.call_fs.specs.declared.calls.Fd.{Fd}
use Rattle.call_fs.specs.declared.calls.Told.{Told}
use Rattle.call_fs.specs.declared.calls.FsError.TheVariants as why
use Rattle.call_fs.specs.declared.calls.How.TheVariants as how
use Rattle.call_fs.specs.declared.past.ChildData.{ChildData}
use Rattle.call_fs.specs.declared.past.ChildData.TheVariants.{Forward as ForwardChild}
use Rattle.call_fs.specs.declared.past.GotData.{GotData}
use Rattle.call_fs.specs.declared.past.GotData.TheVariants as came
use Rattle.call_fs.specs.declared.past.NeedData.TheVariants as needs
use Rattle.call_fs.specs.declared.past.Own.{Own}
use Rattle.call_fs.specs.declared.program.Port.TheVariants as port
use Rattle.call_fs.specs.declared.program.Ready.{Ready}
use Rattle.call_fs.specs.Columns.{IsAnswerTo}
use Rattle.call_fs.specs.Past.{IsRunBy}
use Rattle.call_fs.specs.Program.{MayCome}
use Rattle.dot_qmail.specs.declared.choice.Chosen.{Chosen}
use Rattle.dot_qmail.specs.declared.choice.Chosen.TheVariants as chosen
use Rattle.dot_qmail.specs.declared.line.Line.{Line}
use Rattle.dot_qmail.specs.Lines.{plan_of}
use Rattle.local_parts.specs.declared.arguments.LocalArgs.{LocalArgs}
use Rattle.local_parts.specs.declared.forwarding.Injection.{Injection}
use Rattle.local_parts.specs.Choosing.{chosen_by, file_name}
use Rattle.local_parts.specs.Course.{Work, begun as begun_course, course_of, cut, default_text, lines_of, passed, up_to_work, work_of}
use Rattle.local_parts.specs.Course.Work.{Nothing, ToCommand, ToMaildir, ToMailbox}
use Rattle.local_parts.specs.Endings.{command_status, forward_status, is_lasting_command, is_lasting_injection, status_by}
use Rattle.local_parts.specs.Forwarding.{injection_of}
use Rattle.local_parts.specs.Host.{host_in}
use Rattle.local_parts.specs.Inputs.{message_in}
use Rattle.local_parts.specs.Looping.{is_looping}
use Rattle.local_parts.specs.Names.{last_name}
use Rattle.local_parts.specs.Texts.{delivered_to}
use Rattle.maildir_drop.specs.declared.names.DropNames.{DropNames}
use Rattle.maildir_drop.specs.declared.row.Attempt.{Attempt}
use Rattle.maildir_drop.specs.declared.row.Attempt.TheVariants.{First, Second, Third}
use Rattle.maildir_drop.specs.declared.row.Outcome.TheVariants.{Dropped, Failed}
use Rattle.maildir_drop.specs.declared.row.Row.{Row as DropRow}
use Rattle.maildir_drop.specs.declared.row.Row.TheVariants as drop
use Rattle.maildir_drop.specs.declared.row.Why.TheVariants as drop_why
use Rattle.maildir_drop.specs.Ends.{EndData, end_at, is_linked as is_linked_row}
use Rattle.maildir_drop.specs.Ends.EndData.{IsDropped, IsDeferred, LacksMemory}
use Rattle.maildir_drop.specs.Names.{is_name, names_of, pair_at}
use Rattle.maildir_drop.specs.Table.{appended, begin_row, create_row, due_at as drop_due, failed, is_complete, link_row, moved as drop_moved, next_row, sync_row, taken_row}
use Rattle.local_deliver.specs.declared.place.Place.{Place}
use Rattle.local_deliver.specs.declared.row.Failure.{Failure}
use Rattle.local_deliver.specs.declared.row.Failure.TheVariants as failure
use Rattle.local_deliver.specs.declared.row.Reading.{Reading}
use Rattle.local_deliver.specs.declared.row.Reading.TheVariants as reading
use Rattle.local_deliver.specs.declared.row.Row.{Row}
use Rattle.local_deliver.specs.declared.row.Row.TheVariants as at
use Rattle.local_deliver.specs.declared.row.Wanted.{Wanted}
use Rattle.local_deliver.specs.declared.row.Wanted.TheVariants as wanted
use Rattle.local_deliver.specs.Carried.{AreDrops, IsCarried, IsDropLink, IsInjected, Reaches, of_choice, of_read, plan_by}
use Rattle.local_deliver.specs.Carried.AreDrops.{NoDrops}
use Rattle.local_deliver.specs.Deeds.{FileText, LinkMade, added, host_of, linked_by, links_by, me_name, piece_of, told_names}
use Rattle.local_deliver.specs.Deeds.FileText.{Missing, SoFar, Whole}
use Rattle.local_deliver.specs.Drops.{Drop, begun_drop, drop_arguments, end_drop, moved_drop}
use Rattle.local_deliver.specs.Failures.{status_of, text_of}
use Rattle.local_deliver.specs.Table.{Next, act, begins_lines, by_default, closed, command_failed, dropped, dropped_by, drops_by, due_at, due_by_drop, file_wanted, follows, forward_failed, forwarded, gave, goes_on, hosted, hosted_by, input_ended, instructed, last_step, line_done, lines_done, looks, named, opened, place_after, read_on, step_of, takes}
use Rattle.call_fs.proofs.Coming.{by_fit}
use Rattle.local_deliver.proofs.Deeds.{Deeds, deeds_by, deeds_of}
use Rattle.local_deliver.proofs.MeNames.{no_me, same_name}
use Rattle.local_deliver.proofs.DropSteps.{IsNoDrop, is_over, told_row}
use Rattle.local_deliver.proofs.Reaching.{ends, past_command, past_maildir, stops, more_drops, no_drops, none_by_command, one_by_maildir}
use Rattle.local_deliver.proofs.Underway.{Clean, Alone, facts, Known, AtHost, Before, Under, Over, injection, WasInjected, Carried, LinksAt, AtDrop, AtSome, AtRun, AtInjection, AtStart, AtFeed, AtStatus, AtFile, AtBytes, Inv, Holds}

-- another status is none of success
no_success : (args : LocalArgs) (d : Deeds) (status : ℕ) → (status == 0) ≡ false → status ≡ 0 → Carried args d
no_success args d status isnt e = absurd (false≢true (sym isnt ∙ (Decides-eqb status 0).1 e))

-- a drop that has just begun has made no link
begun_links : (names : DropNames) (all : List LinkMade) → LinksAt all names (begin_row names First) all
begun_links names all = elim (is_name (pair_at names First).tmp) as (λ t. LinksAt all names (if t then drop.Create First else failed First drop_why.Defer) all) [ true ↦ refl | false ↦ tt ]

-- Going on to the next line

module _ (args : LocalArgs) (now : ℕ) (d : Deeds) where
  carried : (p : Place) (lines : List Line) → Over args d (facts p) lines → (o : Option Injection) → injection args p ≡ o → WasInjected args o d → Carried args d
  carried p lines over o is was = record {
    message = p.message;
    host = p.host;
    lines = lines;
    reached = lines_of p.course;
    input = over.known.input;
    host_is = over.known.host;
    told = over.known.told;
    reaches = over.reaches;
    drops = over.drops;
    injected = subst (λ x. WasInjected args x d) (sym (ap (λ n. injection_of args n p.message (lines_of p.course)) over.known.names ∙ is)) was;
  }

  finished : (p : Place) (lines : List Line) → Over args d (facts p) lines → Alone d → (o : Option Injection) → injection args p ≡ o → Holds args d (takes (last_step o (lines_of p.course)) p)
  finished p lines over alone None is = λ e. carried p lines over None is alone.starts
  finished p lines over alone (Some it) is = record {
    injects = record { lines = lines; over = record { known = over.known; reaches = over.reaches; drops = over.drops }; it = it; is = is; text = refl; room = refl };
    alone = alone;
  }

  all_over : (p : Place) (lines : List Line) → work_of p.course.ahead ≡ Nothing → Under args d (facts p) lines d.links → Over args d (facts p) lines
  all_over p lines e u = record {
    known = u.known;
    reaches = subst (λ x. Reaches lines x (lines_of p.course)) (append-nil d.exits) (u.more [] p.course.ahead (ends p.course.ahead e));
    drops = subst (AreDrops args p.host p.message (lines_of p.course)) (append-nil d.links)
        (more_drops args p.host p.message p.course.done p.course.ahead d.links [] u.drops (no_drops args p.host p.message p.course.ahead e));
  }

  drops : (p : Place) (lines : List Line) (path : List ℕ) → work_of p.course.ahead ≡ ToMaildir path → Under args d (facts p) lines d.links → (it : Drop)
      → it ≡ begun_drop (drop_arguments args now path p.host p.message) → (o : Option EndData) → end_drop it ≡ o → Holds args d (drops_by o it p)
  drops p lines path e u it is None none = (
    record {
      lines = lines;
      made = d.links;
      path = path;
      moment = now;
      under = record { known = u.known; more = u.more; drops = u.drops; alone = u.alone };
      work = e;
      names = ap (λ (x : Drop). x.names) is;
      linked = subst (λ (x : Drop). LinksAt d.links x.names x.place.row d.links) (sym is) (begun_links (names_of (drop_arguments args now path p.host p.message)) d.links);
    },
    none,
  )
  drops p lines path e u it is (Some end) some = tt

  works : (w : Work) (p : Place) (lines : List Line) → work_of p.course.ahead ≡ w → Under args d (facts p) lines d.links → Holds args d (takes (step_of args now w (lines_of p.course) p) p)
  works Nothing p lines e u = finished p lines (all_over p lines e u) u.alone (injection args p) refl
  works (ToCommand text) p lines e u = record { lines = lines; under = record { known = u.known; more = u.more; drops = u.drops; alone = u.alone }; work = e }
  works (ToMaildir path) p lines e u =
      let it = begun_drop (drop_arguments args now path p.host p.message) in
      drops p lines path e u it refl (end_drop it) refl
  works (ToMailbox path) p lines e u = tt

  goes : (p : Place) (lines : List Line) → Under args d (facts p) lines d.links → Holds args d (goes_on args now p)
  goes p lines u = works (work_of p.course.ahead) p lines refl u

  begun_with : (p : Place) (lines : List Line) → Before args d (facts p) → plan_by args p.names d.read ≡ Some lines → Holds args d (goes_on args now (record p { course = begun_course lines }))
  begun_with p lines b told = goes (record p { course = begun_course lines }) lines (record {
    known = record { input = b.input; host = b.host; names = b.names; told = ap (λ n. plan_by args n d.read) b.names ∙ told };
    more = λ exited reached r. subst (λ x. Reaches lines (x ++ exited) reached) (sym b.clean.exits) r;
    drops = subst (AreDrops args p.host p.message []) (sym b.clean.links) NoDrops;
    alone = record { starts = b.clean.starts; feeds = b.clean.feeds; statuses = b.clean.statuses };
  })

  begins : (p : Place) (bytes : List ℕ) → Before args d (facts p) → plan_by args p.names d.read ≡ plan_of bytes → Holds args d (begins_lines args now (course_of bytes) p)
  unfolding course_of
  begins p bytes b told = by (plan_of bytes) refl
    where
      by : (o : Option (List Line)) → plan_of bytes ≡ o → Holds args d (begins_lines args now (option_map begun_course o) p)
      by None e = tt
      by (Some lines) e = begun_with p lines b (told ∙ e)

  defaults : (p : Place) → Before args d (facts p) → plan_by args p.names d.read ≡ plan_of (default_text args) → Holds args d (by_default args now p)
  defaults p b told = begins p (default_text args) b told

  followed : (p : Place) → Before args d (facts p) → (o : Option Chosen) → chosen_by args p.names ≡ o → Holds args d (follows args now o p)
  followed p b None e = tt
  followed p b (Some chosen.Default) e = defaults p b (ap (λ o. of_choice args p.names o d.read) e)
  followed p b (Some (chosen.File place)) e = record {
    file = record { before = record { input = b.input; names = b.names; clean = b.clean; host = b.host }; place = place; chosen = e };
    is = refl;
    none = refl;
  }

  told_lines : (p : Place) → AtBytes args d (facts p) (Whole p.read) → (bytes : List ℕ) → p.read ≡ bytes → Holds args d (instructed args now bytes p)
  told_lines p f [] e = defaults p f.file.before (ap (λ o. of_choice args p.names o d.read) f.file.chosen ∙ ap (of_read args) (f.bytes ∙ ap Whole e))
  told_lines p f (b ∷ bytes) e = begins p (b ∷ bytes) f.file.before (ap (λ o. of_choice args p.names o d.read) f.file.chosen ∙ ap (of_read args) (f.bytes ∙ ap Whole e))

  looked : (p : Place) → Before args d (facts p) → Holds args d (looks args p)
  looked p b = elim (is_name args.home) as (λ t. Holds args d (if t then record p { row = at.NextName } else record p { row = at.Fail failure.Home })) [
    | true ↦ record { input = b.input; names = b.names; clean = b.clean; host = b.host }
    | false ↦ tt
  ]

  names_host : (host : List ℕ) (p : Place) → Known args d (facts p) → host_of (d.read me_name) ≡ Some host → Holds args d (hosted args host p)
  names_host host p b e = elim (is_looping (delivered_to args) p.message) as
      (λ t. Holds args d (if t then record p { row = at.Fail failure.Looping } else looks args (record p { host = host }))) [
        | true ↦ tt
        | false ↦ looked (record p { host = host }) (record { input = b.input; names = b.names; clean = b.clean; host = e })
      ]

  names_by : (o : Option (List ℕ)) (p : Place) → Known args d (facts p) → host_of (d.read me_name) ≡ o → Holds args d (hosted_by args o p)
  names_by None p b e = tt
  names_by (Some host) p b e = names_host host p b e

  -- the next work was done
  made_line : (p : Place) (lines : List Line) (path : List ℕ) (made : List LinkMade) (it : LinkMade) → work_of p.course.ahead ≡ ToMaildir path → Under args d (facts p) lines made
      → d.links ≡ made ++ it ∷ [] → IsDropLink args p.host p.message path it → Holds args d (line_done args now p)
  made_line p lines path made it e u all is = goes (record p { course = passed p.course }) lines (record {
    known = record { input = u.known.input; host = u.known.host; names = u.known.names; told = u.known.told };
    more = λ exited reached r.
        subst (Reaches lines (d.exits ++ exited)) (sym (append_assoc p.course.done (up_to_work p.course.ahead) reached))
        (u.more exited (up_to_work p.course.ahead ++ reached) (past_maildir p.course.ahead path exited reached e r));
    drops = subst (AreDrops args p.host p.message (p.course.done ++ up_to_work p.course.ahead)) (sym all)
        (more_drops args p.host p.message p.course.done (up_to_work p.course.ahead) made (it ∷ []) u.drops (one_by_maildir args p.host p.message p.course.ahead path it e is));
    alone = u.alone;
  })

-- after a command, of which the exit is one more deed
module _ (args : LocalArgs) (now : ℕ) (d after : Deeds) (p : Place) (code : ℕ) (r : AtRun args d p) where
  ran_zero : after ≡ record d { exits = d.exits ++ (p.text, 0) ∷ [] } → Holds args after (line_done args now p)
  ran_zero is = subst (λ x. Holds args x (line_done args now p)) (sym is) (goes args now (record d { exits = d.exits ++ (p.text, 0) ∷ [] }) (record p { course = passed p.course }) r.lines (record {
    known = record { input = r.under.known.input; host = r.under.known.host; names = r.under.known.names; told = r.under.known.told };
    more = λ exited reached h.
        subst (λ x. Reaches r.lines x ((p.course.done ++ up_to_work p.course.ahead) ++ reached)) (sym (append_assoc d.exits ((p.text, 0) ∷ []) exited))
        (subst (Reaches r.lines (d.exits ++ (p.text, 0) ∷ exited)) (sym (append_assoc p.course.done (up_to_work p.course.ahead) reached))
        (r.under.more ((p.text, 0) ∷ exited) (up_to_work p.course.ahead ++ reached) (past_command p.course.ahead p.text exited reached r.work h)));
    drops = subst (AreDrops args p.host p.message (p.course.done ++ up_to_work p.course.ahead)) (append-nil d.links)
        (more_drops args p.host p.message p.course.done (up_to_work p.course.ahead) d.links [] r.under.drops (none_by_command args p.host p.message p.course.ahead p.text r.work));
    alone = record { starts = r.under.alone.starts; feeds = r.under.alone.feeds; statuses = r.under.alone.statuses };
  }))

  ran_last : after ≡ record d { exits = d.exits ++ (p.text, 99) ∷ [] } → Holds args after (lines_done args now p)
  ran_last is = subst (λ x. Holds args x (lines_done args now p)) (sym is)
      (finished args now (record d { exits = d.exits ++ (p.text, 99) ∷ [] }) (record p { course = cut p.course }) r.lines (record {
        known = record { input = r.under.known.input; host = r.under.known.host; names = r.under.known.names; told = r.under.known.told };
        reaches = subst (Reaches r.lines (d.exits ++ (p.text, 99) ∷ [])) (sym (append-nil (p.course.done ++ up_to_work p.course.ahead)))
            (r.under.more ((p.text, 99) ∷ []) (up_to_work p.course.ahead) (stops p.course.ahead p.text r.work));
        drops = subst (λ ls. AreDrops args p.host p.message ls d.links) (sym (append-nil (p.course.done ++ up_to_work p.course.ahead)))
            (subst (AreDrops args p.host p.message (p.course.done ++ up_to_work p.course.ahead)) (append-nil d.links)
            (more_drops args p.host p.message p.course.done (up_to_work p.course.ahead) d.links [] r.under.drops (none_by_command args p.host p.message p.course.ahead p.text r.work)));
      }) (record { starts = r.under.alone.starts; feeds = r.under.alone.feeds; statuses = r.under.alone.statuses }) (injection args (record p { course = cut p.course })) refl)

  -- what was printed of another exit is no success
  ran_failed : Holds args after (command_failed code p)
  ran_failed = no_success args after (command_status code) (lasting (is_lasting_command code))
    where
      lasting : (t : Bool) → (status_by t == 0) ≡ false
      lasting true = refl
      lasting false = refl

  exits : (s t : Bool) → (code == 0) ≡ s → (code == 99) ≡ t → after ≡ record d { exits = d.exits ++ (p.text, code) ∷ [] }
      → Holds args after (if s then line_done args now p else (if t then lines_done args now p else command_failed code p))
  exits true t e f is = ran_zero (is ∙ ap (λ k. record d { exits = d.exits ++ (p.text, k) ∷ [] }) ((Decides-eqb code 0).0 e))
  exits false true e f is = ran_last (is ∙ ap (λ k. record d { exits = d.exits ++ (p.text, k) ∷ [] }) ((Decides-eqb code 99).0 f))
  exits false false e f is = ran_failed

-- At a drop

module _ (args : LocalArgs) (now : ℕ) (d : Deeds) (p : Place) (names : DropNames) (left : List ℕ) (made : List LinkMade) where
  abbrev At : Deeds → DropRow → Type 0
  At e row = LinksAt made names row e.links

  plain : (row : DropRow) (all : List LinkMade) → is_linked_row row ≡ false → all ≡ made → LinksAt made names row all
  plain (drop.Unlink attempt Dropped) all isnt e = absurd (cc)
  plain (drop.Unlink attempt (Failed reason)) all isnt e = e
  plain (drop.Create attempt) all isnt e = e
  plain (drop.Append attempt fd) all isnt e = e
  plain (drop.Sync attempt fd) all isnt e = e
  plain (drop.Close attempt fd) all isnt e = e
  plain (drop.Link attempt) all isnt e = e
  plain (drop.Shut attempt fd reason) all isnt e = e
  plain (drop.Ended attempt outcome) all isnt e = tt

  -- where a drop is after what came of its row
  begins_at : (attempt : Attempt) (all : List LinkMade) → all ≡ made → LinksAt made names (begin_row names attempt) all
  begins_at attempt all e = elim (is_name (pair_at names attempt).tmp) as (λ t. LinksAt made names (if t then drop.Create attempt else failed attempt drop_why.Defer) all) [ true ↦ e | false ↦ tt ]

  takes_next : (attempt : Attempt) (all : List LinkMade) → all ≡ made → LinksAt made names (taken_row names attempt) all
  takes_next First all e = begins_at Second all e
  takes_next Second all e = begins_at Third all e
  takes_next Third all e = tt

  writes_on : (attempt : Attempt) (fd : Fd) (complete : Bool) (all : List LinkMade) → all ≡ made → LinksAt made names (next_row attempt fd complete) all
  writes_on attempt fd true all e = e
  writes_on attempt fd false all e = e

  creates : (attempt : Attempt) (complete : Bool) (name : List ℕ) (told : Answer) → IsAnswerTo (call.CreateExcl name) told → d.links ≡ made
      → LinksAt made names (create_row names attempt complete told) d.links
  creates attempt complete name (answer.Created fd number) fit e = writes_on attempt fd complete d.links e
  creates attempt complete name (answer.Refused why.Exists) fit e = takes_next attempt d.links e
  creates attempt complete name (answer.Refused why.NotThere) fit e = tt
  creates attempt complete name (answer.Refused why.Fault) fit e = tt
  creates attempt complete name (answer.Refused why.Memory) fit e = tt
  creates attempt complete name told fit e = absurd fit

  appends : (attempt : Attempt) (fd : Fd) (bytes : List ℕ) (told : Answer) → IsAnswerTo (call.Append fd bytes) told → d.links ≡ made
      → LinksAt made names (appended attempt fd left told).row d.links
  appends attempt fd bytes answer.Done fit e = writes_on attempt fd (is_complete (appended attempt fd left answer.Done).left) d.links e
  appends attempt fd bytes (answer.Refused reason) fit e = e
  appends attempt fd bytes told fit e = absurd fit

  syncs : (attempt : Attempt) (fd : Fd) (told : Answer) → IsAnswerTo (call.Sync fd) told → d.links ≡ made → LinksAt made names (sync_row attempt fd told) d.links
  syncs attempt fd answer.Done fit e = e
  syncs attempt fd (answer.Refused reason) fit e = e
  syncs attempt fd told fit e = absurd fit

  -- only here a link is made
  links : (attempt : Attempt) (told : Answer) → IsAnswerTo (call.Link (pair_at names attempt).tmp (pair_at names attempt).new) told → d.links ≡ made
      → LinksAt made names (link_row attempt told) (linked_by d.links (call.Link (pair_at names attempt).tmp (pair_at names attempt).new) told)
  links attempt answer.Done fit e = ap (λ l. l ++ ((pair_at names attempt).tmp, (pair_at names attempt).new) ∷ []) e
  links attempt (answer.Refused reason) fit e = e
  links attempt told fit e = absurd fit

  abbrev DropStep : DropRow → GotData → Type 0
  DropStep row got = LinksAt made names (drop_moved names (record { row = row; left = left }) got).row (links_by d.links (drop_due names row left) got)

  drop_step : (row : DropRow) (got : GotData) → LinksAt made names row d.links → MayCome (drop_due names row left) got → DropStep row got
  drop_step (drop.Create a) got at may =
      by_fit (call.CreateExcl (pair_at names a).tmp) (DropStep (drop.Create a)) got may (λ told fit. creates a (is_complete left) (pair_at names a).tmp told.answer fit at)
  drop_step (drop.Append a fd) got at may = by_fit (call.Append fd (take 8192 left)) (DropStep (drop.Append a fd)) got may (λ told fit. appends a fd (take 8192 left) told.answer fit at)
  drop_step (drop.Sync a fd) got at may = by_fit (call.Sync fd) (DropStep (drop.Sync a fd)) got may (λ told fit. syncs a fd told.answer fit at)
  drop_step (drop.Close a fd) got at may = by_fit (call.Close fd) (DropStep (drop.Close a fd)) got may (λ told fit. at)
  drop_step (drop.Link a) got at may = by_fit (call.Link (pair_at names a).tmp (pair_at names a).new) (DropStep (drop.Link a)) got may (λ told fit. links a told.answer fit at)
  drop_step (drop.Shut a fd reason) got at may = by_fit (call.Close fd) (DropStep (drop.Shut a fd reason)) got may (λ told fit. at)
  drop_step (drop.Unlink a Dropped) got at may = by_fit (call.Unlink (pair_at names a).tmp) (DropStep (drop.Unlink a Dropped)) got may (λ told fit. tt)
  drop_step (drop.Unlink a (Failed reason)) got at may = by_fit (call.Unlink (pair_at names a).tmp) (DropStep (drop.Unlink a (Failed reason))) got may (λ told fit. tt)
  drop_step (drop.Ended a outcome) got at may = absurd may

-- A step at a drop

-- the drop goes on, or has failed
went_on : (args : LocalArgs) (now : ℕ) (e : Deeds) (p : Place) (it : Drop) (o : Option EndData) → end_drop it ≡ o → p.row ≡ at.Drop → AtDrop args e p it → IsNoDrop o → Holds args e (dropped_by args now o it p)
went_on args now e p it None ended is h isnt = subst (λ row. Inv args e row (record p { dropping = Some it })) (sym is) (
  record {
    lines = h.lines;
    made = h.made;
    path = h.path;
    moment = h.moment;
    under = record { known = record { input = h.under.known.input; host = h.under.known.host; names = h.under.known.names; told = h.under.known.told }; more = h.under.more; drops = h.under.drops; alone = h.under.alone };
    work = h.work;
    names = h.names;
    linked = h.linked;
  },
  ended,
)
went_on args now e p it (Some (IsDropped name)) ended is h isnt = absurd isnt
went_on args now e p it (Some IsDeferred) ended is h isnt = tt
went_on args now e p it (Some LacksMemory) ended is h isnt = no_success args e 51 refl

-- after a call at which a link was made or none
module _ (args : LocalArgs) (now : ℕ) (d : Deeds) (p : Place) (it : Drop) (h : AtDrop args d p it) (is : p.row ≡ at.Drop) where
  abbrev Went : DropRow → GotData → Type 0
  Went row got = Holds args (deeds_by d (drop_due it.names row it.place.left) got)
      (dropped args now got (Some (record { names = it.names; place = record { row = row; left = it.place.left } })) p)

  -- what a call that is none of reading, searching or opening leaves of the deeds
  abbrev IsPlain : CallData → Type 0
  IsPlain c = (told : Told) → deeds_by d (needs.File c) (came.Answered told) ≡ record d { links = linked_by d.links c told.answer }

  kept : (links : List LinkMade) → Under args (record d { links = links }) (facts p) h.lines h.made
  kept links = record {
    known = record { input = h.under.known.input; host = h.under.known.host; names = h.under.known.names; told = h.under.known.told };
    more = h.under.more;
    drops = h.under.drops;
    alone = record { starts = h.under.alone.starts; feeds = h.under.alone.feeds; statuses = h.under.alone.statuses };
  }

  on : (c : CallData) (told : Told) (next : Drop) → IsPlain c → next.names ≡ it.names → LinksAt h.made next.names next.place.row (linked_by d.links c told.answer) → IsNoDrop (end_drop next)
      → Holds args (deeds_by d (needs.File c) (came.Answered told)) (dropped_by args now (end_drop next) next p)
  on c told next plain same at isnt =
      subst (λ e. Holds args e (dropped_by args now (end_drop next) next p)) (sym (plain told))
      (went_on args now (record d { links = linked_by d.links c told.answer }) p next (end_drop next) refl is (record {
        lines = h.lines;
        made = h.made;
        path = h.path;
        moment = h.moment;
        under = kept (linked_by d.links c told.answer);
        work = h.work;
        names = same ∙ h.names;
        linked = at;
      }) isnt)

  made_drop : (attempt : Attempt) (told : Told) → d.links ≡ h.made ++ ((pair_at it.names attempt).tmp, (pair_at it.names attempt).new) ∷ [] → Holds args d (line_done args now (record p { dropping = None }))
  made_drop attempt told all = made_line args now d (record p { dropping = None }) h.lines h.path h.made ((pair_at it.names attempt).tmp, (pair_at it.names attempt).new) h.work
      (record { known = record { input = h.under.known.input; host = h.under.known.host; names = h.under.known.names; told = h.under.known.told }; more = h.under.more; drops = h.under.drops; alone = h.under.alone })
      all (record { moment = h.moment; attempt = attempt; from = ap (λ n. (pair_at n attempt).tmp) h.names; to = ap (λ n. (pair_at n attempt).new) h.names })

-- at each row of the drop
module _ (args : LocalArgs) (now : ℕ) (d : Deeds) (p : Place) (is : p.row ≡ at.Drop) (names : DropNames) (left : List ℕ) where
  abbrev it_at : DropRow → Drop
  it_at row = record { names = names; place = record { row = row; left = left } }

  abbrev StepAt : DropRow → GotData → Type 0
  StepAt row got = Holds args (deeds_by d (drop_due names row left) got) (dropped args now got (Some (it_at row)) p)

  -- a call with which the drop isn't made
  goes_at : (row : DropRow) (c : CallData) (told : Told) → AtDrop args d p (it_at row) → drop_due names row left ≡ needs.File c
      → ((t : Told) → deeds_by d (needs.File c) (came.Answered t) ≡ record d { links = linked_by d.links c t.answer }) → IsAnswerTo c told.answer
      → is_linked_row row ≡ false → is_over row ≡ false → StepAt row (came.Answered told)
  goes_at row c told h due plain fit isnt over =
      subst (λ x. Holds args (deeds_by d x (came.Answered told)) (dropped args now (came.Answered told) (Some (it_at row)) p)) (sym due)
      (on args now d p (it_at row) h is c told (moved_drop (came.Answered told) (it_at row)) plain refl
      (subst (λ x. LinksAt h.made names (drop_moved names (it_at row).place (came.Answered told)).row (links_by d.links x (came.Answered told))) due
      (drop_step args now d p names left h.made row (came.Answered told) h.linked (subst (λ x. MayCome x (came.Answered told)) (sym due) fit)))
      (told_row names left row told isnt over))

  at_drop : (row : DropRow) (got : GotData) → AtDrop args d p (it_at row) → MayCome (drop_due names row left) got → StepAt row got
  at_drop (drop.Create a) got h may =
      let c = call.CreateExcl (pair_at names a).tmp in
      by_fit c (StepAt (drop.Create a)) got may (λ told fit. goes_at (drop.Create a) c told h refl (λ t. refl) fit refl refl)
  at_drop (drop.Append a fd) got h may =
      let c = call.Append fd (take 8192 left) in
      by_fit c (StepAt (drop.Append a fd)) got may (λ told fit. goes_at (drop.Append a fd) c told h refl (λ t. refl) fit refl refl)
  at_drop (drop.Sync a fd) got h may = by_fit (call.Sync fd) (StepAt (drop.Sync a fd)) got may (λ told fit. goes_at (drop.Sync a fd) (call.Sync fd) told h refl (λ t. refl) fit refl refl)
  at_drop (drop.Close a fd) got h may = by_fit (call.Close fd) (StepAt (drop.Close a fd)) got may (λ told fit. goes_at (drop.Close a fd) (call.Close fd) told h refl (λ t. refl) fit refl refl)
  at_drop (drop.Link a) got h may =
      let c = call.Link (pair_at names a).tmp (pair_at names a).new in
      by_fit c (StepAt (drop.Link a)) got may (λ told fit. goes_at (drop.Link a) c told h refl (λ t. refl) fit refl refl)
  at_drop (drop.Shut a fd reason) got h may =
      by_fit (call.Close fd) (StepAt (drop.Shut a fd reason)) got may (λ told fit. goes_at (drop.Shut a fd reason) (call.Close fd) told h refl (λ t. refl) fit refl refl)
  at_drop (drop.Unlink a Dropped) got h may =
      by_fit (call.Unlink (pair_at names a).tmp) (StepAt (drop.Unlink a Dropped)) got may (λ told fit. made_drop args now d p (it_at (drop.Unlink a Dropped)) h is a told h.linked)
  at_drop (drop.Unlink a (Failed reason)) got h may =
      let c = call.Unlink (pair_at names a).tmp in
      by_fit c (StepAt (drop.Unlink a (Failed reason))) got may (λ told fit. goes_at (drop.Unlink a (Failed reason)) c told h refl (λ t. refl) fit refl refl)
  at_drop (drop.Ended a outcome) got h may = absurd may

-- A step

module _ (args : LocalArgs) (now : ℕ) (d : Deeds) (p : Place) where
  abbrev Step : Row → GotData → Type 0
  Step row got = Holds args (deeds_by d (due_at args row p) got) (act args now row got p)

  at_end : (o : Option (List ℕ)) → message_in p.message ≡ o → Inv args d at.TakeInput p → Holds args d (input_ended o p)
  at_end None e h = tt
  at_end (Some message) e h = record { input = ap message_in h.0 ∙ e; names = h.1; clean = h.2; me = h.3; none = h.4 }

  at_input : (got : GotData) → Inv args d at.TakeInput p → Step at.TakeInput got
  at_input (came.Took bytes) h = (ap (λ t. t ++ bytes) h.0, h.1, record { links = h.2.links; exits = h.2.exits; starts = h.2.starts; feeds = h.2.feeds; statuses = h.2.statuses }, h.3, h.4)
  at_input came.End h = at_end (message_in p.message) refl h
  at_input (came.Answered told) h = tt
  at_input (came.Ended status) h = tt
  at_input came.Crashed h = tt
  at_input came.Gave h = tt
  at_input (came.Started pid) h = tt
  at_input came.Failed h = tt
  at_input came.Memory h = tt

  -- reading leaves all but what was read
  abbrev seen : (opened : List ℕ) → (List ℕ → FileText) → Deeds
  seen opened read = record d { opened = opened; read = read }

  clean_seen : (opened : List ℕ) (read : List ℕ → FileText) → Clean d → Clean (seen opened read)
  clean_seen opened read c = record { links = c.links; exits = c.exits; starts = c.starts; feeds = c.feeds; statuses = c.statuses }

  still : (opened : List ℕ) (read : List ℕ → FileText) → read me_name ≡ d.read me_name → Before args d (facts p) → Before args (seen opened read) (facts p)
  still opened read same b = record { input = b.input; names = b.names; clean = clean_seen opened read b.clean; host = ap host_of same ∙ b.host }

  reads_me : (opened : List ℕ) (text : FileText) (read : List ℕ → FileText) → read me_name ≡ text → opened ≡ me_name → Known args d (facts p) → AtHost args (seen opened read) (facts p) text
  reads_me opened text read is same b = record { input = b.input; names = b.names; clean = clean_seen opened read b.clean; me = is; opened = same }

  -- what was read of each file, once this one is opened
  abbrev opening : List ℕ → List ℕ → FileText
  opening name = λ of. if bytes_eq name of then SoFar [] else d.read of

  -- and once this piece was read, the last one or not
  abbrev reading_on : List ℕ → Bool → List ℕ → FileText
  reading_on bytes is_last = λ of. if bytes_eq d.opened of then added (d.read of) bytes is_last else d.read of

  -- no chosen file is control/me
  others : (name : List ℕ) (f : AtFile args d (facts p)) → name ≡ file_name args p.names f.place → bytes_eq name me_name ≡ false
  others name f is = ap (λ n. bytes_eq n me_name) is ∙ no_me args p.names f.place f.chosen

  itself : (name : List ℕ) (f : AtFile args d (facts p)) → name ≡ file_name args p.names f.place → bytes_eq name (file_name args p.names f.place) ≡ true
  itself name f is = ap (λ n. bytes_eq n (file_name args p.names f.place)) is ∙ same_name (file_name args p.names f.place)

  at_open : (what : Wanted) (name : List ℕ) → name ≡ file_wanted what p → (told : Answer) (bytes : List ℕ) → Inv args d (at.Open what) p → IsAnswerTo (call.Open name how.Read) told
      → Holds args (deeds_by d (needs.File (call.Open name how.Read)) (came.Answered (record { answer = told; bytes = bytes }))) (opened args what told p)
  at_open wanted.Host name is (answer.Opened fd) bytes h fit =
      let same : bytes_eq name me_name ≡ true = ap (λ n. bytes_eq n me_name) is in
      reads_me name (SoFar p.read) (opening name) (ap (λ t. if t then SoFar [] else d.read me_name) same ∙ ap SoFar (sym h.none)) is
      (record { input = h.input; names = h.names; clean = h.clean })
  at_open wanted.Instructions name is (answer.Opened fd) bytes h fit =
      let of : name ≡ file_name args p.names h.file.place = is ∙ h.is in
      record {
        file = record { before = still name (opening name) (ap (λ t. if t then SoFar [] else d.read me_name) (others name h.file of)) h.file.before; place = h.file.place; chosen = h.file.chosen };
        bytes = ap (λ t. if t then SoFar [] else d.read (file_name args p.names h.file.place)) (itself name h.file of) ∙ ap SoFar (sym h.none);
        opened = of;
      }
  at_open wanted.Host name is (answer.Refused why.NotThere) bytes h fit =
      let gone : List ℕ → FileText = λ of. if bytes_eq name of then Missing else d.read of in
      names_host args now (seen d.opened gone) (codes "localhost") p (record { input = h.input; names = h.names; clean = clean_seen d.opened gone h.clean })
      (ap (λ n. host_of (if bytes_eq n me_name then Missing else d.read me_name)) is)
  at_open wanted.Instructions name is (answer.Refused why.NotThere) bytes h fit = tt
  at_open what name is (answer.Refused why.Fault) bytes h fit = tt
  at_open what name is (answer.Refused why.Memory) bytes h fit = no_success args d 51 refl
  at_open what name is told bytes h fit = absurd fit

  -- a piece that isn't full is the last one
  abbrev row_of : Wanted → Fd → Bool → Row
  row_of what fd is_last = if is_last then at.Close what fd reading.Whole else at.Read what fd

  abbrev Pieces : Wanted → Fd → List ℕ → Bool → Type 0
  Pieces what fd bytes is_last = Inv args (seen d.opened (reading_on bytes is_last)) (row_of what fd is_last) (record p { row = row_of what fd is_last; read = p.read ++ bytes })

  host_pieces : (fd : Fd) (bytes : List ℕ) (is_last : Bool) → AtHost args d (facts p) (SoFar p.read) → Pieces wanted.Host fd bytes is_last
  host_pieces fd bytes is_last h = elim is_last as (λ t. Pieces wanted.Host fd bytes t) [ true ↦ next true | false ↦ next false ]
    where
      next : (t : Bool) → AtHost args (seen d.opened (reading_on bytes t)) (facts p) (piece_of p.read bytes t)
      next t =
          reads_me d.opened (piece_of p.read bytes t) (reading_on bytes t)
          (ap (λ u. if u then added (d.read me_name) bytes t else d.read me_name) (ap (λ n. bytes_eq n me_name) h.opened) ∙ ap (λ o. added o bytes t) h.me) h.opened
          (record { input = h.input; names = h.names; clean = h.clean })

  file_pieces : (fd : Fd) (bytes : List ℕ) (is_last : Bool) → AtBytes args d (facts p) (SoFar p.read) → Pieces wanted.Instructions fd bytes is_last
  file_pieces fd bytes is_last h = elim is_last as (λ t. Pieces wanted.Instructions fd bytes t) [ true ↦ next true | false ↦ next false ]
    where
      next : (t : Bool) → AtBytes args (seen d.opened (reading_on bytes t)) (facts p) (piece_of p.read bytes t)
      next t = record {
        file = record {
          before = still d.opened (reading_on bytes t) (ap (λ u. if u then added (d.read me_name) bytes t else d.read me_name) (others d.opened h.file h.opened)) h.file.before;
          place = h.file.place;
          chosen = h.file.chosen;
        };
        bytes =
            ap (λ u. if u then added (d.read (file_name args p.names h.file.place)) bytes t else d.read (file_name args p.names h.file.place)) (itself d.opened h.file h.opened)
            ∙ ap (λ o. added o bytes t) h.bytes;
        opened = h.opened;
      }

  at_read : (what : Wanted) (fd : Fd) (from : ℕ) (told : Answer) (bytes : List ℕ) → Inv args d (at.Read what fd) p → IsAnswerTo (call.ReadAt fd from 8192) told
      → Holds args (deeds_by d (needs.File (call.ReadAt fd from 8192)) (came.Answered (record { answer = told; bytes = bytes }))) (read_on what fd told bytes p)
  at_read wanted.Host fd from (answer.Count count) bytes h fit = host_pieces fd bytes (nat_lt (length bytes) 8192) h
  at_read wanted.Instructions fd from (answer.Count count) bytes h fit = file_pieces fd bytes (nat_lt (length bytes) 8192) h
  at_read wanted.Host fd from (answer.Refused why.Fault) bytes h fit = h
  at_read wanted.Instructions fd from (answer.Refused why.Fault) bytes h fit = h
  at_read what fd from told bytes h fit = absurd fit

  at_close : (what : Wanted) (fd : Fd) (went : Reading) → Inv args d (at.Close what fd went) p → Holds args d (closed args now what went p)
  at_close wanted.Host fd reading.Whole h = names_by args now d (host_in p.read) p (record { input = h.input; names = h.names; clean = h.clean }) (ap host_of h.me)
  at_close wanted.Instructions fd reading.Whole h = told_lines args now d p h p.read refl
  at_close what fd reading.Fault h = tt
  at_close what fd reading.Memory h = no_success args d 51 refl

  at_names : (after : List ℕ) (told : Answer) (bytes : List ℕ) → Before args d (facts p) → IsAnswerTo (call.NextName args.home after) told
      → Holds args (deeds_by d (needs.File (call.NextName args.home after)) (came.Answered (record { answer = told; bytes = bytes }))) (named args now told p)
  at_names after (answer.Name name) bytes b fit = record {
    input = b.input;
    names = ap (λ t. if t then d.names args.home ++ name ∷ [] else d.names args.home) (same_name args.home) ∙ ap (λ n. n ++ name ∷ []) b.names;
    clean = record { links = b.clean.links; exits = b.clean.exits; starts = b.clean.starts; feeds = b.clean.feeds; statuses = b.clean.statuses };
    host = b.host;
  }
  at_names after answer.NoName bytes b fit = followed args now d p b (chosen_by args p.names) refl
  at_names after (answer.Refused why.NotThere) bytes b fit = tt
  at_names after (answer.Refused why.Fault) bytes b fit = tt
  at_names after told bytes b fit = absurd fit

  at_run : (got : GotData) → AtRun args d p → Step at.Run got
  at_run (came.Ended code) r = exits args now d (deeds_by d (needs.Command p.text) (came.Ended code)) p code r (code == 0) (code == 99) refl refl refl
  at_run came.Memory r = no_success args d 51 refl
  at_run (came.Answered told) r = no_success args d 111 refl
  at_run (came.Took bytes) r = no_success args d 111 refl
  at_run came.End r = no_success args d 111 refl
  at_run came.Crashed r = no_success args d 111 refl
  at_run came.Gave r = no_success args d 111 refl
  at_run (came.Started pid) r = no_success args d 111 refl
  at_run came.Failed r = no_success args d 111 refl

  abbrev over_with : (starts : List ChildData) (feeds : List (List ℕ)) (statuses : List ℕ) → AtInjection args d p → AtInjection args (record d { starts = starts; feeds = feeds; statuses = statuses }) p
  over_with starts feeds statuses i = record {
    lines = i.lines;
    over = record { known = record { input = i.over.known.input; host = i.over.known.host; names = i.over.known.names; told = i.over.known.told }; reaches = i.over.reaches; drops = i.over.drops };
    it = i.it;
    is = i.is;
    text = i.text;
    room = i.room;
  }

  at_start : (got : GotData) → AtStart args d p → Step at.Start got
  at_start (came.Started pid) s =
      let i = over_with (d.starts ++ ForwardChild args.uid p.room ∷ []) d.feeds d.statuses s.injects in
      record {
        injects = record { lines = i.lines; over = i.over; it = i.it; is = i.is; text = i.text; room = i.room };
        starts = ap (λ l. l ++ ForwardChild args.uid p.room ∷ []) s.alone.starts ∙ ap (λ r. ForwardChild args.uid r ∷ []) s.injects.room;
        feeds = s.alone.feeds;
        statuses = s.alone.statuses;
      }
  at_start came.Memory s = no_success args d 51 refl
  at_start (came.Answered told) s = no_success args d 111 refl
  at_start (came.Took bytes) s = no_success args d 111 refl
  at_start came.End s = no_success args d 111 refl
  at_start (came.Ended status) s = no_success args d 111 refl
  at_start came.Crashed s = no_success args d 111 refl
  at_start came.Gave s = no_success args d 111 refl
  at_start came.Failed s = no_success args d 111 refl

  at_feed : (got : GotData) → AtFeed args d p → Step at.Feed got
  at_feed came.Gave f =
      let i = over_with d.starts (d.feeds ++ p.text ∷ []) d.statuses f.injects in
      record {
        injects = record { lines = i.lines; over = i.over; it = i.it; is = i.is; text = i.text; room = i.room };
        starts = f.starts;
        feeds = ap (λ l. l ++ p.text ∷ []) f.feeds ∙ ap (λ t. t ∷ []) f.injects.text;
        statuses = f.statuses;
      }
  at_feed (came.Answered told) f = no_success args d 111 refl
  at_feed (came.Took bytes) f = no_success args d 111 refl
  at_feed came.End f = no_success args d 111 refl
  at_feed (came.Ended status) f = no_success args d 111 refl
  at_feed came.Crashed f = no_success args d 111 refl
  at_feed (came.Started pid) f = no_success args d 111 refl
  at_feed came.Failed f = no_success args d 111 refl
  at_feed came.Memory f = no_success args d 111 refl

  lasting : (t : Bool) → (status_by t == 0) ≡ false
  lasting true = refl
  lasting false = refl

  at_code : (code : ℕ) (t : Bool) → (code == 0) ≡ t → AtStatus args d p
      → Holds args (record d { statuses = d.statuses ++ code ∷ [] }) (if t then forwarded p else forward_failed code p)
  at_code code true e s = λ success.
      let i = over_with d.starts d.feeds (d.statuses ++ code ∷ []) s.injects in
      carried args now (record d { statuses = d.statuses ++ code ∷ [] }) p i.lines i.over (Some s.injects.it) s.injects.is
      (s.starts, (s.feeds, ap (λ l. l ++ code ∷ []) s.statuses ∙ ap (λ k. k ∷ []) ((Decides-eqb code 0).0 e)))
  at_code code false e s = no_success args (record d { statuses = d.statuses ++ code ∷ [] }) (forward_status code) (lasting (is_lasting_injection code))

  at_status : (got : GotData) → AtStatus args d p → Step at.TakeStatus got
  at_status (came.Ended code) s = at_code code (code == 0) refl s
  at_status (came.Answered told) s = no_success args d 111 refl
  at_status (came.Took bytes) s = no_success args d 111 refl
  at_status came.End s = no_success args d 111 refl
  at_status came.Crashed s = no_success args d 111 refl
  at_status came.Gave s = no_success args d 111 refl
  at_status (came.Started pid) s = no_success args d 111 refl
  at_status came.Failed s = no_success args d 111 refl
  at_status came.Memory s = no_success args d 111 refl

  at_report : (status : ℕ) (text : List ℕ) (got : GotData) → (status ≡ 0 → Carried args d) → Holds args (deeds_by d (needs.Give port.Output text) got) (gave status got p)
  at_report status text came.Gave h = λ e. let c = h e in record {
    message = c.message;
    host = c.host;
    lines = c.lines;
    reached = c.reached;
    input = c.input;
    host_is = c.host_is;
    told = c.told;
    reaches = c.reaches;
    drops = c.drops;
    injected = c.injected;
  }
  at_report status text (came.Answered told) h = no_success args d 111 refl
  at_report status text (came.Took bytes) h = no_success args d 111 refl
  at_report status text came.End h = no_success args d 111 refl
  at_report status text (came.Ended code) h = no_success args d 111 refl
  at_report status text came.Crashed h = no_success args d 111 refl
  at_report status text (came.Started pid) h = no_success args d 111 refl
  at_report status text came.Failed h = no_success args d 111 refl
  at_report status text came.Memory h = no_success args d 111 refl

  failed_so : (reason : Failure) → status_of reason ≡ 0 → Carried args d
  failed_so failure.Unreadable = no_success args d 111 refl
  failed_so failure.Looping = no_success args d 100 refl
  failed_so failure.Home = no_success args d 111 refl
  failed_so failure.NoMailbox = no_success args d 100 refl
  failed_so failure.BlankFirst = no_success args d 111 refl
  failed_so failure.Mailbox = no_success args d 111 refl
  failed_so failure.Maildir = no_success args d 111 refl

  at_some : (o : Option Drop) (got : GotData) → p.row ≡ at.Drop → AtSome args d p o → MayCome (due_by_drop o) got → Holds args (deeds_by d (due_by_drop o) got) (dropped args now got o p)
  at_some None got is h may = absurd may
  at_some (Some it) got is h may = at_drop args now d p is it.names it.place.left it.place.row got h.0 may

  step : (row : Row) (got : GotData) → p.row ≡ row → Inv args d row p → MayCome (due_at args row p) got → Step row got
  step at.TakeInput got is h may = at_input got h
  step (at.Open what) got is h may = by_fit (call.Open (file_wanted what p) how.Read) (Step (at.Open what)) got may (λ told fit. at_open what (file_wanted what p) refl told.answer told.bytes h fit)
  step (at.Read what fd) got is h may = by_fit (call.ReadAt fd (length p.read) 8192) (Step (at.Read what fd)) got may (λ told fit. at_read what fd (length p.read) told.answer told.bytes h fit)
  step (at.Close what fd went) got is h may = by_fit (call.Close fd) (Step (at.Close what fd went)) got may (λ told fit. at_close what fd went h)
  step at.NextName got is h may =
      by_fit (call.NextName args.home (last_name p.names)) (Step at.NextName) got may (λ told fit. at_names (last_name p.names) told.answer told.bytes h fit)
  step at.Drop got is h may = at_some p.dropping got is h may
  step at.Run got is h may = at_run got h
  step at.Start got is h may = at_start got h
  step at.Feed got is h may = at_feed got h
  step at.TakeStatus got is h may = at_status got h
  step (at.Report status) got is h may = at_report status p.text got h
  step (at.Fail reason) got is h may = at_report (status_of reason) (text_of reason) got (failed_so reason)
  step (at.Ended status) got is h may = absurd may

-- after each run
pub holds : (args : LocalArgs) (past : List Own) → IsRunBy (Next args) past → Holds args (deeds_of past) (place_after args past)
holds args [] run = (refl, refl, record { links = refl; exits = refl; starts = refl; feeds = refl; statuses = refl }, refl, refl)
holds args (event ∷ before) run =
    let p : Place = place_after args before in
    let may = subst (λ x. MayCome x event.came) (sym run.1.0) run.1.1 in
    subst (λ x. Holds args (deeds_by (deeds_of before) x event.came) (act args event.read p.row event.came p)) run.1.0
    (step args event.read (deeds_of before) p p.row event.came refl (holds args before run.0) may)

-- a delivery that has ended with this is at its end

pub not_ended_drop : (names : DropNames) (left : List ℕ) (row : DropRow) (status : ℕ) → end_at names row ≡ None → drop_due names row left ≡ needs.Ended status → ⊥
not_ended_drop names left (drop.Ended attempt outcome) status e due = absurd (cc)
not_ended_drop names left (drop.Create attempt) status e due = absurd (cc)
not_ended_drop names left (drop.Append attempt fd) status e due = absurd (cc)
not_ended_drop names left (drop.Sync attempt fd) status e due = absurd (cc)
not_ended_drop names left (drop.Close attempt fd) status e due = absurd (cc)
not_ended_drop names left (drop.Link attempt) status e due = absurd (cc)
not_ended_drop names left (drop.Shut attempt fd reason) status e due = absurd (cc)
not_ended_drop names left (drop.Unlink attempt outcome) status e due = absurd (cc)

at_end_of : (args : LocalArgs) (d : Deeds) (p : Place) (row : Row) → Inv args d row p → due_at args row p ≡ needs.Ended 0 → Carried args d
at_end_of args d p (at.Ended status) h due = let e : status ≡ 0 = cc in h e
at_end_of args d p at.TakeInput h due = absurd (cc)
at_end_of args d p (at.Open what) h due = absurd (cc)
at_end_of args d p (at.Read what fd) h due = absurd (cc)
at_end_of args d p (at.Close what fd went) h due = absurd (cc)
at_end_of args d p at.NextName h due = absurd (cc)
at_end_of args d p at.Drop h due = by p.dropping h due
  where
    by : (o : Option Drop) → AtSome args d p o → due_by_drop o ≡ needs.Ended 0 → Carried args d
    by None h due = absurd (cc)
    by (Some it) h due = absurd (not_ended_drop it.names it.place.left it.place.row 0 h.1 due)
at_end_of args d p at.Run h due = absurd (cc)
at_end_of args d p at.Start h due = absurd (cc)
at_end_of args d p at.Feed h due = absurd (cc)
at_end_of args d p at.TakeStatus h due = absurd (cc)
at_end_of args d p (at.Report status) h due = absurd (cc)
at_end_of args d p (at.Fail reason) h due = absurd (cc)

injected_is : (args : LocalArgs) (past : List Own) (o : Option Injection) → WasInjected args o (deeds_of past) → IsInjected args o past
injected_is args past None h = h
injected_is args past (Some it) h = h

pub carried_out : (args : LocalArgs) (past : List Own) (now : ℕ) (ready : Ready) → IsRunBy (Next args) past → Next args past now ready ≡ needs.Ended 0 → IsCarried args past
carried_out args past now ready run due =
    let p : Place = place_after args past in
    let c = at_end_of args (deeds_of past) p p.row (holds args past run) due in
    record {
      message = c.message;
      host = c.host;
      lines = c.lines;
      reached = c.reached;
      input = c.input;
      host_is = c.host_is;
      told = c.told;
      reaches = c.reaches;
      drops = c.drops;
      injected = injected_is args past (injection_of args (told_names args.home past) c.message c.reached) c.injected;
    }
