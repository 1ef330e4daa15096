-- At a rest no message waits to be preprocessed: the first search of its turn found none.
use Rattle.std.proofs.Common.{◌≡◌, ◌≢◌, ◌⊎◌, inl, inr, ⊎_elim, ℕ, List, [], ◌∷◌, ◌++◌, true, not, ◌&&◌, Option, Some, None, refl, sym, ap, ◌∙◌, subst, codes}
use Rattle.std.specs.Prelude.{Contains}
use Rattle.std.specs.List.{list_all}
use Rattle.std.proofs.lemmas.Bool.{and_parts, false≢true}
use Rattle.call_fs.specs.Apply.{Fits}
use Rattle.call_fs.specs.Disk.{Disk}
use Rattle.call_fs.specs.declared.calls.Answer.{Answer}
use Rattle.call_fs.specs.declared.calls.Answer.TheVariants as answer
use Rattle.call_fs.specs.declared.calls.CallData.TheVariants.{NextName}
use Rattle.call_fs.specs.declared.calls.FsError.TheVariants.{Exists, Fault, Memory as OutOfMemory, NotThere}
use Rattle.call_fs.specs.declared.calls.Told.{Told}
use Rattle.call_fs.specs.declared.past.GotData.{GotData}
use Rattle.call_fs.specs.declared.past.GotData.TheVariants as came
use Rattle.call_fs.specs.declared.past.NeedData.{NeedData}
use Rattle.call_fs.specs.declared.past.NeedData.TheVariants as needs
use Rattle.call_fs.specs.declared.past.Own.{Own}
use Rattle.queue_paths.specs.Names.Part.{SplitTodo}
use Rattle.queue_states.specs.declared.state.State.TheVariants.{S4}
use Rattle.queue_states.specs.States.{state_of}
use Rattle.retry_law.specs.Left.{NoneLeft}
use Rattle.retry_law.proofs.Left.{no_number_left}
use Rattle.send_core.specs.declared.desk.Desk.{Desk}
use Rattle.send_parts.specs.declared.row.Row.{Row}
use Rattle.send_parts.specs.declared.row.Row.TheVariants as at
use Rattle.send_core.specs.Stands.{is_between, is_search}
use Rattle.send_core.specs.Table.{arrive, moved, moved_by, row_now}
use Rattle.send_core.specs.Turn.{todo_found, todo_named}
use Rattle.send_parts.specs.declared.rows.Search.TheVariants as search
use Rattle.send_parts.specs.Files.{message_number}
use Rattle.send_parts.specs.Replies.{answered, said}
use Rattle.world_events.specs.declared.event.Program.{Program}
use Rattle.world_events.specs.declared.event.Program.TheVariants.{Sender}
use Rattle.world_law.proofs.Tenants.{some_actor}
use Rattle.mail_world.specs.History.{Actor, ComesOf, MayDo, State, next_of}
use Rattle.mail_world.specs.History.Event.{Act}
use Rattle.scenario.specs.Chains.{EachFollows}
use Rattle.scenario.specs.Deeds.{Deed, after, history_of}
use Rattle.settle_law.specs.inside.Queued.{RestsUnqueued}
use Rattle.settle_law.specs.inside.Rests.{IsWholeTurn, SearchesOn, ends_turn}
use Rattle.settle_law.proofs.SenderRests.{SendersRest, newest_rest}
use Rattle.settle_law.specs.Suffices.{desk_of}
use Rattle.settle_law.specs.Well.{GoesWell, came_well, goes_well, is_well_answered}
use Rattle.settle_law.proofs.FromStart.{begins_search, from_start}
use Rattle.settle_law.proofs.Passed.{passes_go_on}
use Rattle.settle_law.proofs.Queued.{none}
use Rattle.settle_law.proofs.Strays.{none_given}
use Rattle.settle_law.proofs.TurnPasts as turned
use Rattle.settle_law.proofs.Unqueued.{has_todo, no_split, waits_small}

-- A search that went well found none, or gave a name.

gives : (d : Disk) (dir from : List ℕ) (told : Answer) (wrote : ℕ) → Fits d (NextName dir from) told wrote → Contains d.dirs dir → is_well_answered told ≡ true
    → (Fits d (NextName dir from) answer.NoName wrote) ⊎ ((name : List ℕ) × (told ≡ answer.Name name))
gives d dir from (answer.Created fd n) wrote f there well = absurd f
gives d dir from (answer.Opened fd) wrote f there well = absurd f
gives d dir from (answer.Count count) wrote f there well = absurd f
gives d dir from answer.Done wrote f there well = absurd f
gives d dir from (answer.Stat stat) wrote f there well = absurd f
gives d dir from (answer.Name name) wrote f there well = inr (name, refl)
gives d dir from answer.NoName wrote f there well = inl f
gives d dir from (answer.Refused NotThere) wrote f there well = absurd (f there)
gives d dir from (answer.Refused Exists) wrote f there well = absurd f
gives d dir from (answer.Refused Fault) wrote f there well = absurd (cc)
gives d dir from (answer.Refused OutOfMemory) wrote f there well = absurd f

record Gave (got : GotData) : Type 0 where
  told : Told
  is : got ≡ came.Answered told
  name : List ℕ
  gave : told.answer ≡ answer.Name name

came_so : (s : State) (a dir from : List ℕ) (got : GotData) (wrote : ℕ) → ComesOf s a (needs.File (NextName dir from)) got wrote → Contains s.disk.dirs dir → came_well got ≡ true
    → (Fits s.disk (NextName dir from) answer.NoName wrote) ⊎ Gave got
came_so s a dir from (came.Answered told) wrote c there well = ⊎_elim
    (λ (f : Fits s.disk (NextName dir from) answer.NoName wrote). inl f)
    (λ (g : (name : List ℕ) × (told.answer ≡ answer.Name name)). inr (record { told = told; is = refl; name = g.0; gave = g.1 }))
    (gives s.disk dir from told.answer wrote c.0 there well)
came_so s a dir from got wrote c there well = absurd c

-- A whole idle turn begins no todo pass

module _ (past : List Own) (first : Own) (turned_in : (desk_of (first ∷ past)).row ≡ at.InTodo) where
  abbrev desk_then : Desk
  desk_then = desk_of (first ∷ past)

  no_search : (event : Own) → is_search (row_now desk_then event.read event.ready) ≡ true → ⊥
  no_search event leads = false≢true (sym (ap (λ (r : Row). is_search (arrive r desk_then event.read event.ready)) turned_in) ∙ leads)

  oldest : (event : Own) (older : List Own) → EachFollows (SearchesOn (first ∷ past) first.read) (event ∷ older) → ⊥
  oldest event [] all = no_search event all.1.0
  oldest event (earlier ∷ older) all = oldest earlier older all.0

  no_pass : (later : List Own) → EachFollows (SearchesOn (first ∷ past) first.read) later → ends_turn past first later ≡ true → ⊥
  no_pass [] all e =
      let parts = and_parts (is_search (row_now (desk_of past) first.read first.ready)) (not (desk_of past).busy && is_between (moved (desk_of past) first).row) e in
      let between = (and_parts (not (desk_of past).busy) (is_between (moved (desk_of past) first).row) parts.1).1 in
      false≢true (sym (ap is_between turned_in) ∙ between)
  no_pass (event ∷ older) all e = oldest event older all

-- The first search

module _ (d : Disk) (later : List Deed) (first : Deed) (before : List Deed) (rest : SendersRest d later first before) where
  abbrev s : State
  s = after d before

  abbrev x : Actor
  x = rest.turn.actor

  abbrev own : Own
  own = rest.turn.searches.own

  abbrev wrote : ℕ
  wrote = rest.turn.searches.wrote

  abbrev desk : Desk
  desk = desk_of x.past

  well : GoesWell d (Act (codes "sender") own wrote ∷ history_of before)
  well = turned.well_first d later first before rest.turn rest.well

  whole : IsWholeTurn x.past own (turned.more d later first before rest.turn)
  whole = turned.whole d later first before rest.turn

  sends : (start : ℕ) × (x.program ≡ Sender start) × (is_search (row_now desk own.read own.ready) ≡ true)
  sends = turned.sends d later first before rest.turn

  may : MayDo s (codes "sender") own wrote
  may = well.legal.1

  stays : NoneLeft None x.past
  stays = passes_go_on d (history_of before) (turned.well_before d later first before rest.turn rest.well) (codes "sender") x sends.0 rest.turn.is sends.1

  next : next_of (Sender sends.0) x.past own.read own.ready ≡ own.due
  next = subst (λ (p : Program). next_of p x.past own.read own.ready ≡ own.due) sends.1
      (subst (λ (z : Actor). next_of z.program z.past own.read own.ready ≡ own.due) (some_actor may.actor x (sym may.reads.is ∙ rest.turn.is)) may.due)

  due : own.due ≡ needs.File (NextName (codes "todo") [])
  due = sym next ∙ from_start desk own whole.begins whole.searches (no_number_left None x.past stays)

  -- if it gave the name of a message a pass began
  begins_pass : (g : Gave own.came) (n : ℕ) → message_number g.name ≡ Some n → (desk_of (own ∷ x.past)).row ≡ at.InTodo
  begins_pass g n number =
      ap (λ (r : Row). (moved_by r own.read own.came desk).row) (begins_search desk own whole.begins whole.searches)
      ∙ ap (λ (c : GotData). (todo_named (said c).way (said c).bytes search.AfterLeft own.read desk).row) g.is
      ∙ ap (λ (a : Answer). (todo_named (answered a g.told.bytes).way (answered a g.told.bytes).bytes search.AfterLeft own.read desk).row) g.gave
      ∙ ap (λ (o : Option ℕ). (todo_found o g.name search.AfterLeft desk).row) number

  gave_none : Gave own.came → ⊥
  gave_none g = by (message_number g.name) refl
    where
      by : (o : Option ℕ) → message_number g.name ≡ o → ⊥
      by None stray = none_given d own wrote (history_of before) well rest.empty (record { after = []; due = due; told = g.told; came = g.is; name = g.name; gives = g.gave; stray = stray })
      by (Some n) number = no_pass x.past own (begins_pass g n number) (turned.more d later first before rest.turn) whole.goes_on whole.ends

  found_none : Fits s.disk (NextName (codes "todo") []) answer.NoName wrote
  found_none = ⊎_elim
      (λ (f : Fits s.disk (NextName (codes "todo") []) answer.NoName wrote). f)
      (λ (g : Gave own.came). absurd (gave_none g))
      (came_so s (codes "sender") (codes "todo") [] own.came wrote (subst (λ (n : NeedData). ComesOf s (codes "sender") n own.came wrote) due may.came) (has_todo d (history_of before) well.legal.0)
      (and_parts (goes_well (Act (codes "sender") own wrote)) (list_all goes_well (history_of before)) well.well).0)

pub unqueued_then : (d : Disk) (later : List Deed) (first : Deed) (before : List Deed) → SendersRest d later first before → (n : ℕ) → state_of (after d (later ++ first ∷ before)).disk n ≢ S4
unqueued_then d later first before rest n e =
    none (after d before).disk rest.turn.searches.wrote (found_none d later first before rest) n (waits_small d (history_of (later ++ first ∷ before)) n rest.well e)
    (no_split d (history_of before) (turned.well_before d later first before rest.turn rest.well).legal SplitTodo n refl)
    (ap (λ (disk : Disk). state_of disk n) (turned.alike d later first before rest.turn).disk ∙ e)

pub unqueued : RestsUnqueued
unqueued d turns before rest n =
    let w = newest_rest d turns before rest in
    subst (λ (l : List Deed). state_of (after d l).disk n ≢ S4) (sym w.are) (unqueued_then d w.later w.first w.before w.rest n)
