-- Where nothing fails somebody minds each number that is half-way.
use Rattle.std.proofs.Common.{◌≡◌, ◌≢◌, ⊎_elim, ℕ, List, [], ◌∷◌, Bool, true, false, if◌then◌else◌, Option, Some, None, refl, sym, ap, ◌∙◌, subst, codes}
use Rattle.std.specs.Prelude.{Contains}
use Rattle.std.specs.List.{list_all}
use Rattle.std.proofs.lemmas.Bool.{and_parts}
use Rattle.call_fs.specs.Disk.{Disk}
use Rattle.call_fs.specs.Maps.{put_at}
use Rattle.call_fs.proofs.Maps.{put_at_cases, put_at_other}
use Rattle.call_fs.specs.declared.past.ChildData.{ChildData}
use Rattle.call_fs.specs.declared.past.GotData.{GotData}
use Rattle.call_fs.specs.declared.past.NeedData.{NeedData}
use Rattle.call_fs.specs.declared.past.NeedData.TheVariants as needs
use Rattle.call_fs.specs.declared.past.Own.{Own}
use Rattle.call_fs.specs.declared.program.Port.TheVariants as port
use Rattle.call_fs.specs.declared.program.Ready.{Ready}
use Rattle.queue_clean.specs.Table.{due_at as clean_due_at, is_old, pid_path, place_after as clean_after, search_after}
use Rattle.queue_clean.specs.declared.row.Row.{Row as CleanRow}
use Rattle.queue_clean.specs.declared.row.Row.TheVariants as cleaning
use Rattle.call_fs.specs.declared.calls.CallData.TheVariants as call
use Rattle.queue_inject.specs.Table.{after_came, place_after as inject_after}
use Rattle.queue_paths.specs.Names.Part.{Mess}
use Rattle.send_core.specs.Table.{arrive, due_at}
use Rattle.send_parts.specs.declared.row.Row.{Row}
use Rattle.send_parts.specs.declared.row.Row.TheVariants as at
use Rattle.send_parts.specs.declared.rows.FinishRow.TheVariants as finish
use Rattle.send_parts.specs.Steps.{remove_text}
use Rattle.world_events.specs.declared.event.Program.{Program}
use Rattle.world_events.specs.declared.event.Program.TheVariants.{Injector, Sender}
use Rattle.world_pipes.specs.Pipework.{Pipe, closed, given, is_member, is_writer, mouth, pipes_after, writer}
use Rattle.mail_world.specs.History.{Actor, Allowed, Event, IsCleaner, IsSender, Legal, MayBear, MayRun, State, acted, after, bears, disk_after, finished, happens, newborn, next_of, slot_by}
use Rattle.mail_world.specs.History.Event.{Start, Act, Child, Generation, Report, End, Stop, Moment, Halt}
use Rattle.mail_world.specs.History.Life.{Alive, Over}
use Rattle.mail_world.proofs.Histories.{legal_opens}
use Rattle.mail_world.proofs.Members.{are_four, four_other, member_contained}
use Rattle.world_law.specs.Crew.{place_in}
use Rattle.world_law.specs.Standing.{number_at}
use Rattle.world_law.proofs.Histories.{always}
use Rattle.world_law.proofs.Pipes.{away_same}
use Rattle.world_law.proofs.Standing.{injections_are_in_time}
use Rattle.world_law.proofs.Starts.{is_cleaner}
use Rattle.world_law.proofs.Tenants.{some_actor}
use Rattle.settle_law.specs.inside.HalfWay.{HalfWaysAreMinded, IsHalfWay, IsMinded, is_answer}
use Rattle.settle_law.specs.inside.HalfWay.IsMinded.{Gives, Injects, Waits}
use Rattle.settle_law.specs.inside.Living.{IsServed}
use Rattle.settle_law.specs.inside.Living.Servant.{Cleans}
use Rattle.settle_law.specs.Suffices.{desk_of}
use Rattle.settle_law.specs.Well.{GoesWell, goes_well}
use Rattle.settle_law.proofs.CleanPipe.{open_always, output_left, reply_pipe, start_left}
use Rattle.settle_law.proofs.Dirs.{same_dirs}
use Rattle.settle_law.proofs.Injecting.{ends_not}
use Rattle.settle_law.proofs.Living.{servants_live}
use Rattle.settle_law.proofs.Minding.{Holds, Minds, acts_minded}
use Rattle.settle_law.proofs.SmallNumbers.{numbers_are_small}
use Rattle.settle_law.proofs.Tended.{no_member}

none_there : {A : Type 0} (z : Actor) → ◌≡◌ {A = Option Actor} None (Some z) → A
none_there z e = absurd (cc)

-- what a sender does next that finishes a message
gives_next : (program : Program) (past : List Own) (start n now : ℕ) (ready : Ready) → program ≡ Sender start → (desk_of past).row ≡ at.Finish finish.Give n → next_of program past now ready ≡ needs.Give port.Clean (remove_text n)
gives_next program past start n now ready is row =
    ap (λ (p : Program). next_of p past now ready) is ∙ ap (λ (r : Row). due_at (arrive r (desk_of past) now ready) (desk_of past)) row

takes_next : (program : Program) (past : List Own) (start n now : ℕ) (ready : Ready) → program ≡ Sender start → (desk_of past).row ≡ at.Finish finish.Take n → next_of program past now ready ≡ needs.Take port.Clean
takes_next program past start n now ready is row =
    ap (λ (p : Program). next_of p past now ready) is ∙ ap (λ (r : Row). due_at (arrive r (desk_of past) now ready) (desk_of past)) row

-- a cleaner starts nothing
clean_none : (row : CleanRow) (name : List ℕ) (now : ℕ) (asked : ChildData) → clean_due_at row name now ≡ needs.Start asked → ⊥
clean_none cleaning.FindPid name now asked e = cc
clean_none cleaning.StatPid name now asked e = cc
clean_none (cleaning.JudgePid moment) name now asked e = by (is_old moment now) e
  where
    by : (b : Bool) → (if b then needs.File (call.Unlink (pid_path name)) else search_after name) ≡ needs.Start asked → ⊥
    by true e = cc
    by false e = cc
clean_none cleaning.TakeInput name now asked e = cc
clean_none (cleaning.UnlinkIntd c) name now asked e = cc
clean_none (cleaning.UnlinkSecond c) name now asked e = cc
clean_none (cleaning.Answer reply) name now asked e = cc
clean_none (cleaning.Ended status) name now asked e = cc

-- The start of a child

module _ (s : State) (H : Holds s) (parent : List ℕ) (own : Own) (a : List ℕ) (program : Program) (may : MayBear s parent own a program) where
  abbrev x : Actor
  x = may.actor

  abbrev bearer : Actor
  bearer = record { program = x.program; past = own ∷ x.past; life = x.life }

  abbrev mid : State
  mid = acted s parent own 0 (Some may.actor)

  abbrev born : State
  born = bears (acted s parent own 0 (Some may.actor)) parent own a program

  starts : next_of x.program x.past own.read own.ready ≡ needs.Start may.asked
  starts = may.due ∙ may.starts

  new : (b : List ℕ) (z : Actor) → s.actors b ≡ Some z → b ≢ a
  new b z is e = none_there z (sym may.new ∙ ap s.actors (sym e) ∙ is)

  stays : (b : List ℕ) (z : Actor) → s.actors b ≡ Some z → b ≢ parent → born.actors b ≡ Some z
  stays b z is far = put_at_other mid.actors a (Some (newborn program)) b (new b z is) ∙ put_at_other s.actors parent (Some bearer) b far ∙ is

  its_own : (b : List ℕ) (z : Actor) → s.actors b ≡ Some z → b ≡ parent → z ≡ x
  its_own b z is e = some_actor z x (sym is ∙ ap s.actors e ∙ may.reads.is)

  no_gives : (z : Actor) (start n : ℕ) → s.actors (codes "sender") ≡ Some z → z.program ≡ Sender start → (desk_of z.past).row ≡ at.Finish finish.Give n → codes "sender" ≢ parent
  no_gives z start n is runs row e =
      let same = its_own (codes "sender") z is e in
      let both : needs.Start may.asked ≡ needs.Give port.Clean (remove_text n) =
      sym starts ∙ gives_next x.program x.past start n own.read own.ready (subst (λ (o : Actor). o.program ≡ Sender start) same runs) (subst (λ (o : Actor). (desk_of o.past).row ≡ at.Finish finish.Give n) same row) in
      absurd (cc)

  no_takes : (z : Actor) (start n : ℕ) → s.actors (codes "sender") ≡ Some z → z.program ≡ Sender start → (desk_of z.past).row ≡ at.Finish finish.Take n → codes "sender" ≢ parent
  no_takes z start n is runs row e =
      let same = its_own (codes "sender") z is e in
      let both : needs.Start may.asked ≡ needs.Take port.Clean =
      sym starts ∙ takes_next x.program x.past start n own.read own.ready (subst (λ (o : Actor). o.program ≡ Sender start) same runs) (subst (λ (o : Actor). (desk_of o.past).row ≡ at.Finish finish.Take n) same row) in
      absurd (cc)

  no_cleaner : IsCleaner x.program → ⊥
  no_cleaner cleans =
      let w = is_cleaner x.program cleans in
      let p = clean_after x.past in
      clean_none p.row p.name own.read may.asked (ap (λ (q : Program). next_of q x.past own.read own.ready) (sym w.1) ∙ starts)

  child_minded : (n : ℕ) → IsMinded s n → IsMinded born n
  child_minded n (Injects b z args is alive runs number) = ⊎_elim
      (λ (c : (b ≡ parent) × (put_at s.actors parent (Some bearer) b ≡ Some bearer)).
      let same = its_own b z is c.0 in
      Injects b bearer args (put_at_other mid.actors a (Some (newborn program)) b (new b z is) ∙ c.1) may.reads.alive (subst (λ (o : Actor). o.program ≡ Injector args) same runs)
      (ap (λ (g : GotData). number_at (after_came args (inject_after args x.past) g)) may.came ∙ subst (λ (o : Actor). number_at (inject_after args o.past) ≡ Some n) same number))
      (λ (c : (b ≢ parent) × (put_at s.actors parent (Some bearer) b ≡ s.actors b)). Injects b z args (stays b z is c.0) alive runs number)
      (put_at_cases s.actors parent (Some bearer) b)
  child_minded n (Gives z start is alive runs row small) = Gives z start (stays (codes "sender") z is (no_gives z start n is runs row)) alive runs row small
  child_minded n (Waits z start is alive runs row small empty free) =
      let w = H.served (record { actor = z; is = is; alive = alive; sends = subst IsSender (sym runs) tt }) in
      let far : codes "clean" ≢ parent = λ e. no_cleaner (subst (λ (o : Actor). IsCleaner o.program) (its_own (codes "clean") w.actor w.is e) w.serves) in
      let pipe : reply_pipe born.pipework ≡ reply_pipe s.pipework =
      output_left mid.pipework parent (slot_by own.due)
      ∙ (ap (λ (v : NeedData). pipes_after s.pipework parent v own.came 0 (codes "sender") port.Clean) may.starts ∙ start_left s.pipework parent may.asked own.came 0) in
      Waits z start (stays (codes "sender") z is (no_takes z start n is runs row)) alive runs row small (ap (λ (p : Pipe). p.bytes) pipe ∙ empty)
      (ap (λ (o : Option Actor). is_answer (place_in o).row) (stays (codes "clean") w.actor w.is far ∙ sym w.is) ∙ free)

  child_minds : Minds born
  child_minds n half = child_minded n (H.minds n (subst (λ (v : NeedData). IsHalfWay (disk_after s.disk own.read v own.came 0) n) may.starts half))

-- Other events

module _ (s : State) (H : Holds s) where
  clean_there : (z : Actor) (start : ℕ) → s.actors (codes "sender") ≡ Some z → z.life ≡ Alive → z.program ≡ Sender start → IsServed Cleans s
  clean_there z start is alive runs = H.served (record { actor = z; is = is; alive = alive; sends = subst IsSender (sym runs) tt })

  -- one starts alone
  start_minds : (a : List ℕ) (program : Program) → s.actors a ≡ None → Minds (happens s (Start a program))
  start_minds a program new n half = by (H.minds n (record { mess = half.mess; no_todo = half.no_todo; no_info = half.no_info }))
    where
      stays : (b : List ℕ) (z : Actor) → s.actors b ≡ Some z → put_at s.actors a (Some (newborn program)) b ≡ Some z
      stays b z is = put_at_other s.actors a (Some (newborn program)) b (λ e. none_there z (sym new ∙ ap s.actors (sym e) ∙ is)) ∙ is

      by : IsMinded s n → IsMinded (happens s (Start a program)) n
      by (Injects b z args is alive runs number) = Injects b z args (stays b z is) alive runs number
      by (Gives z start is alive runs row small) = Gives z start (stays (codes "sender") z is) alive runs row small
      by (Waits z start is alive runs row small empty free) =
          let w = clean_there z start is alive runs in
          Waits z start (stays (codes "sender") z is) alive runs row small empty (ap (λ (o : Option Actor). is_answer (place_in o).row) (stays (codes "clean") w.actor w.is ∙ sym w.is) ∙ free)

  generation_minds : (sender clean lspawn rspawn : Program) → Allowed s (Generation (sender ∷ clean ∷ lspawn ∷ rspawn ∷ [])) → Minds (happens s (Generation (sender ∷ clean ∷ lspawn ∷ rspawn ∷ [])))
  generation_minds sender clean lspawn rspawn may n half = by (H.minds n (record { mess = half.mess; no_todo = half.no_todo; no_info = half.no_info }))
    where
      over : (z : Actor) → s.actors (codes "sender") ≡ Some z → z.life ≡ Alive → ⊥
      over z is alive = may.over (codes "sender") z (member_contained (codes "sender") refl) is alive

      by : IsMinded s n → IsMinded (happens s (Generation (sender ∷ clean ∷ lspawn ∷ rspawn ∷ []))) n
      by (Injects b z args is alive runs number) =
          let off = no_member (is_member b) b refl (λ member. may.apart b z member is (subst MayRun (sym runs) tt)) in
          Injects b z args (four_other s.actors sender clean lspawn rspawn b off ∙ is) alive runs number
      by (Gives z start is alive runs row small) = absurd (over z is alive)
      by (Waits z start is alive runs row small empty free) = absurd (over z is alive)

  report_minds : (slot : ℕ) (output : List ℕ) → Minds (happens s (Report slot output))
  report_minds slot output n half = by (H.minds n (record { mess = half.mess; no_todo = half.no_todo; no_info = half.no_info }))
    where
      by : IsMinded s n → IsMinded (happens s (Report slot output)) n
      by (Injects b z args is alive runs number) = Injects b z args is alive runs number
      by (Gives z start is alive runs row small) = Gives z start is alive runs row small
      by (Waits z start is alive runs row small empty free) =
          Waits z start is alive runs row small
          (ap (λ (p : Pipe). p.bytes) (away_same s.pipework.pipes (Some (mouth (codes "rspawn") (port.Program slot))) (λ pipe. closed (given output pipe)) (codes "sender") port.Clean refl) ∙ empty) free

  moment_minds : (m : ℕ) → Minds (happens s (Moment m))
  moment_minds m n half = by (H.minds n (record { mess = half.mess; no_todo = half.no_todo; no_info = half.no_info }))
    where
      by : IsMinded s n → IsMinded (happens s (Moment m)) n
      by (Injects b z args is alive runs number) = Injects b z args is alive runs number
      by (Gives z start is alive runs row small) = Gives z start is alive runs row small
      by (Waits z start is alive runs row small empty free) = Waits z start is alive runs row small empty free

  -- an end

  module _ (a : List ℕ) (x : Actor) (there : s.actors a ≡ Some x) (status read : ℕ) (ready : Ready) (due : next_of x.program x.past read ready ≡ needs.Ended status) (well : goes_well (End a read ready status) ≡ true) where
    abbrev over_is : Actor
    over_is = record { program = x.program; past = x.past; life = Over status }

    abbrev ended : State
    ended = finished s a (Over status) (Some x)

    same_one : (b : List ℕ) (z : Actor) → s.actors b ≡ Some z → b ≡ a → z ≡ x
    same_one b z is e = some_actor z x (sym is ∙ ap s.actors e ∙ there)

    left : (b : List ℕ) → b ≢ a → ended.actors b ≡ s.actors b
    left b far = put_at_other s.actors a (Some over_is) b far

    shut_left : (b : Bool) (pipe : Pipe) → (if b then closed pipe else pipe).bytes ≡ pipe.bytes
    shut_left true pipe = refl
    shut_left false pipe = refl

    place_left : (place_in (ended.actors (codes "clean"))).row ≡ (place_in (s.actors (codes "clean"))).row
    place_left = ⊎_elim
        (λ (c : (codes "clean" ≡ a) × (put_at s.actors a (Some over_is) (codes "clean") ≡ Some over_is)).
        ap (λ (o : Option Actor). (place_in o).row) c.1 ∙ sym (ap (λ (o : Option Actor). (place_in o).row) (ap s.actors c.0 ∙ there)))
        (λ (c : (codes "clean" ≢ a) × (put_at s.actors a (Some over_is) (codes "clean") ≡ s.actors (codes "clean"))). ap (λ (o : Option Actor). (place_in o).row) c.1)
        (put_at_cases s.actors a (Some over_is) (codes "clean"))

    end_minded : (n : ℕ) → IsMinded s n → IsMinded ended n
    end_minded n (Injects b z args is alive runs number) =
        let far : b ≢ a = λ e.
        let same = same_one b z is e in
        ends_not args x.past read ready status n (ap (λ (p : Program). next_of p x.past read ready) (sym (subst (λ (o : Actor). o.program ≡ Injector args) same runs)) ∙ due) well
        (subst (λ (o : Actor). number_at (inject_after args o.past) ≡ Some n) same number) in
        Injects b z args (left b far ∙ is) alive runs number
    end_minded n (Gives z start is alive runs row small) =
        let far : codes "sender" ≢ a = λ e.
        let same = same_one (codes "sender") z is e in
        let both : needs.Ended status ≡ needs.Give port.Clean (remove_text n) =
        sym due ∙ gives_next x.program x.past start n read ready (subst (λ (o : Actor). o.program ≡ Sender start) same runs) (subst (λ (o : Actor). (desk_of o.past).row ≡ at.Finish finish.Give n) same row) in
        absurd (cc) in
        Gives z start (left (codes "sender") far ∙ is) alive runs row small
    end_minded n (Waits z start is alive runs row small empty free) =
        let far : codes "sender" ≢ a = λ e.
        let same = same_one (codes "sender") z is e in
        let both : needs.Ended status ≡ needs.Take port.Clean =
        sym due ∙ takes_next x.program x.past start n read ready (subst (λ (o : Actor). o.program ≡ Sender start) same runs) (subst (λ (o : Actor). (desk_of o.past).row ≡ at.Finish finish.Take n) same row) in
        absurd (cc) in
        Waits z start (left (codes "sender") far ∙ is) alive runs row small
        (shut_left (is_writer a (writer s.pipework (codes "sender") port.Clean)) (reply_pipe s.pipework) ∙ empty) (ap is_answer place_left ∙ free)

    end_minds : Minds ended
    end_minds n half = end_minded n (H.minds n (record { mess = half.mess; no_todo = half.no_todo; no_info = half.no_info }))

-- Each event

event_minds : (e : Event) (d : Disk) (h : List Event) → Legal d (e ∷ h) → goes_well e ≡ true → Holds (after d h) → Minds (after d (e ∷ h))
event_minds (Start a program) d h legal well H = start_minds (after d h) H a program legal.1.new
event_minds (Act a own wrote) d h legal well H =
    subst (λ (o : Option Actor). Minds (acted (after d h) a own wrote o)) (sym legal.1.reads.is)
    (acts_minded (after d h) H a own wrote legal.1 well (λ args is c due. injections_are_in_time d a own wrote h legal legal.1.actor legal.1.reads.is args is c due))
event_minds (Child parent own a program) d h legal well H =
    subst (λ (o : Option Actor). Minds (bears (acted (after d h) parent own 0 o) parent own a program)) (sym legal.1.reads.is) (child_minds (after d h) H parent own a program legal.1)
event_minds (Generation (sender ∷ clean ∷ lspawn ∷ rspawn ∷ [])) d h legal well H = generation_minds (after d h) H sender clean lspawn rspawn legal.1
event_minds (Generation crew) d h legal well H = absurd (are_four crew legal.1.kinds)
event_minds (Report slot output) d h legal well H = report_minds (after d h) H slot output
event_minds (End a read ready status) d h legal well H =
    subst (λ (o : Option Actor). Minds (finished (after d h) a (Over status) o)) (sym legal.1.reads.is)
    (end_minds (after d h) H a legal.1.actor legal.1.reads.is status read ready legal.1.due well)
event_minds (Stop a) d h legal well H = absurd (cc)
event_minds (Moment m) d h legal well H = moment_minds (after d h) H m
event_minds (Halt how contents) d h legal well H = absurd (cc)

minds_always : (d : Disk) (h : List Event) → GoesWell d h → Minds (after d h)
minds_always d [] g = λ n half. absurd (half.mess (g.legal.empty Mess n))
minds_always d (e ∷ h) g =
    let parts = and_parts (goes_well e) (list_all goes_well h) g.well in
    let before : GoesWell d h = record { legal = g.legal.0; well = parts.1 } in
    event_minds e d h g.legal parts.0 (record {
      inv = always d h g.legal.0;
      minds = minds_always d h before;
      served = λ it. servants_live d h before Cleans it.actor it.is it.alive it.sends;
      opened = open_always d h before;
      dirs = λ dir here. subst (λ (l : List (List ℕ)). Contains l dir) (sym (same_dirs d h)) ((legal_opens d h g.legal.0).dirs dir here);
      small = λ n i is. numbers_are_small d h g.legal.0 parts.1 n i is;
    })

pub half_ways_are_minded : HalfWaysAreMinded
half_ways_are_minded d h g = minds_always d h g
