-- The rows of a finish and of the sweep.
use Rattle.std.proofs.Common.{◌≡◌, inl, inr, ℕ, ◌+◌, ◌<◌, ◌≤◌, List, [], ◌∷◌, Bool, true, false, Option, Some, None, refl, sym, ◌∙◌, subst, ⊎_elim, arith, nat_lt}
use Rattle.std.specs.Prelude.{if◌then◌else◌, not, ◌==◌}
use Rattle.std.proofs.lemmas.Bool.Decides.{eqb_tells}
use Rattle.std.proofs.lemmas.Bool.{eqb-false, ltb-true}
use Rattle.std.proofs.lemmas.List.Elements.{All-nil, All-cons, All-head, All-tail, All-contains, All-weaker}
use Rattle.address_rules.specs.declared.controls.Controls.{Controls}
use Rattle.call_fs.specs.declared.calls.Answer.{Answer}
use Rattle.call_fs.specs.declared.calls.Answer.TheVariants as answer
use Rattle.call_fs.specs.declared.calls.CallData.{CallData}
use Rattle.call_fs.specs.declared.calls.CallData.TheVariants as call
use Rattle.call_fs.specs.declared.calls.FsError.TheVariants as why
use Rattle.call_fs.specs.declared.calls.Told.{Told}
use Rattle.bounce_record.specs.Returning.{Returning}
use Rattle.call_fs.specs.declared.past.NeedData.{NeedData}
use Rattle.call_fs.specs.declared.past.NeedData.TheVariants as needs
use Rattle.call_fs.specs.Apply.{Fits}
use Rattle.queue_paths.specs.Names.{path}
use Rattle.queue_paths.specs.Names.Name.{Of}
use Rattle.queue_paths.specs.Names.Part.{Mess, Todo, Info, Bounce}
use Rattle.queue_paths.proofs.Parts.{todo_apart, todo_same}
use Rattle.queue_law.proofs.Waits.{todo_missed}
use Rattle.send_known.specs.declared.known.Known.{Known}
use Rattle.send_known.specs.Known.{is_known, forgotten}
use Rattle.send_parts.specs.declared.book.Book.{Book}
use Rattle.send_parts.specs.declared.rows.FinishRow.TheVariants as finish
use Rattle.send_parts.specs.declared.rows.SweepRow.{SweepRow}
use Rattle.send_parts.specs.declared.rows.SweepRow.TheVariants as sweep
use Rattle.send_parts.specs.Finish.{finish_to}
use Rattle.send_parts.specs.Files.{message_number}
use Rattle.send_parts.specs.Replies.{answered}
use Rattle.send_parts.specs.Rows.{finish_step, sweep_step}
use Rattle.send_parts.specs.Steps.{due_by}
use Rattle.send_parts.specs.Sweep.{sweep_row, sweep_to, swept}
use Rattle.send_parts.specs.declared.row.Row.{Row}
use Rattle.send_parts.specs.declared.row.Row.TheVariants as at
use Rattle.queue_law.specs.Numbers.{Queue, entry, look, About, about, Phase, Sound}
use Rattle.queue_law.specs.Numbers.Phase.{Free, Queued, Sorted, Finished}
use Rattle.queue_law.specs.Rests.{IsAccepted, IsClosed}
use Rattle.queue_law.specs.Senders.{LeadsOn, MayEnd, OnlyReads, called_queue}
use Rattle.queue_law.proofs.Begins.{rests_begin}
use Rattle.queue_law.proofs.Changes.{unlinks_one}
use Rattle.queue_law.proofs.Frame.{about_same}
use Rattle.queue_law.proofs.Looks.{find_none, find_some}
use Rattle.queue_law.proofs.Sends.{reads_keep, ends_keep}
use Rattle.program_law.specs.Sender.Knows.{IsKnown, IsLeaving, Knows}
use Rattle.program_law.specs.Sender.Knows.Knows.{Stays, Leaves}
use Rattle.program_law.specs.Sender.Rows.{FinishStands, IsAged, IsIdle, SweepStands}
use Rattle.program_law.specs.Sender.Points.{KnowsEach, FinishLeads, SweepLeads, SweepsLead, ChoresStand}
use Rattle.program_law.proofs.Sender.Closes.{one_closed}

-- The sweep

module _ (now : ℕ) (q : Queue) (a : List ℕ) (read wrote : ℕ) (G : Sound q) where
  reads : (asked : CallData) (told : Answer) → OnlyReads q a asked → Fits q.disk asked told wrote → LeadsOn now a None q (called_queue q a read asked told wrote q.role)
  reads asked told may fits = reads_keep now q a G read asked told wrote may fits

  module _ (b : Book) (soon : read ≤ now) where
    abbrev known : List Known
    known = b.messages.known

    -- what was searched
    row_stands : (is : Bool) (split n : ℕ) → is_known n known ≡ is → SweepStands now q a (if is then sweep.Next split else sweep.StatMess split n) known
    row_stands true split n e = tt
    row_stands false split n e = e

    named_stands : (o : Option ℕ) (split : ℕ) → SweepStands now q a (sweep_row o split known) known
    named_stands None split = tt
    named_stands (Some n) split = row_stands (is_known n known) split n refl

    over_stands : (more : Bool) (split : ℕ) → SweepStands now q a (if more then sweep.Next (split + 1) else sweep.Over) known
    over_stands true split = tt
    over_stands false split = tt

    abbrev Leads : CallData → Answer → SweepRow → Type 0
    Leads asked told next = SweepLeads now a q (called_queue q a read asked told wrote q.role) next known

    abbrev Steps : SweepRow → CallData → Type 0
    Steps row asked = (told : Answer) (bytes : List ℕ) → Fits q.disk asked told wrote → Leads asked told (sweep_to row read (answered told bytes) b)

    abbrev Searches : ℕ → CallData → Type 0
    Searches split asked =
        (told : Answer) (bytes : List ℕ) → Fits q.disk asked told wrote → Leads asked told (swept (answered told bytes).way (answered told bytes).bytes split b)

    searches : (split : ℕ) (dir words : List ℕ) → Searches split (call.NextName dir words)
    searches split dir words (answer.Name name) bytes fits =
        record { leads = reads (call.NextName dir words) (answer.Name name) tt fits; stands = named_stands (message_number name) split }
    searches split dir words answer.NoName bytes fits =
        record { leads = reads (call.NextName dir words) answer.NoName tt fits; stands = over_stands (nat_lt split 22) split }
    searches split dir words (answer.Refused why.NotThere) bytes fits =
        record { leads = reads (call.NextName dir words) (answer.Refused why.NotThere) tt fits; stands = over_stands (nat_lt split 22) split }
    searches split dir words (answer.Refused why.Fault) bytes fits =
        record { leads = reads (call.NextName dir words) (answer.Refused why.Fault) tt fits; stands = over_stands (nat_lt split 22) split }
    searches split dir words told bytes fits = absurd fits

    -- what is old at the moment of its stat is old
    old_stands : (split n moment : ℕ) (old : Bool) → nat_lt (moment + 129600) read ≡ old → is_known n known ≡ false → (moment + 129600 < now → IsClosed now q n × IsAged now q n)
        → SweepStands now q a (if old then sweep.StatTodo split n else sweep.Next split) known
    old_stands split n moment true is h closed =
        let lt : moment + 129600 < read = ltb-true (moment + 129600) read is in
        (h, closed (omega (arith, lt, soon)))
    old_stands split n moment false is h closed = tt

    -- the stats of a message that isn't known
    stat_mess : (split n : ℕ) → is_known n known ≡ false → Steps (sweep.StatMess split n) (call.Stat (path (Of Mess n)))
    stat_mess split n h (answer.Stat stat) bytes fits = record {
      leads = reads (call.Stat (path (Of Mess n))) (answer.Stat stat) tt fits;
      stands = old_stands split n stat.moment (nat_lt (stat.moment + 129600) read) refl h
          (λ old.
          let mess = entry q.disk.files stat.number in
          let there = find_some q.disk.names q.disk.files (Of Mess n) stat.number fits.number in
          let aged = subst (λ m. m + 129600 < now) fits.moment_is old in (rests_begin.old now q n mess G there aged, record { mess = mess; there = there; old = aged }));
    }
    stat_mess split n h (answer.Refused why.NotThere) bytes fits =
        record { leads = reads (call.Stat (path (Of Mess n))) (answer.Refused why.NotThere) tt fits; stands = tt }
    stat_mess split n h (answer.Refused why.Fault) bytes fits =
        record { leads = reads (call.Stat (path (Of Mess n))) (answer.Refused why.Fault) tt fits; stands = tt }
    stat_mess split n h told bytes fits = absurd fits

    stat_todo : (split n : ℕ) → (is_known n known ≡ false) × (IsClosed now q n × IsAged now q n) → Steps (sweep.StatTodo split n) (call.Stat (path (Of Todo n)))
    stat_todo split n h (answer.Stat stat) bytes fits =
        record { leads = reads (call.Stat (path (Of Todo n))) (answer.Stat stat) tt fits; stands = (h.0, (h.1, λ e. absurd (cc))) }
    stat_todo split n h (answer.Refused why.NotThere) bytes fits = record {
      leads = reads (call.Stat (path (Of Todo n))) (answer.Refused why.NotThere) tt fits;
      stands = (h.0, (h.1, λ e. todo_missed q G.suits n fits));
    }
    stat_todo split n h (answer.Refused why.Fault) bytes fits =
        record { leads = reads (call.Stat (path (Of Todo n))) (answer.Refused why.Fault) tt fits; stands = tt }
    stat_todo split n h told bytes fits = absurd fits

    stat_info : (split n : ℕ) (todo : Bool) → SweepStands now q a (sweep.StatInfo split n todo) known → Steps (sweep.StatInfo split n todo) (call.Stat (path (Of Info n)))
    stat_info split n todo h (answer.Stat stat) bytes fits =
        record { leads = reads (call.Stat (path (Of Info n))) (answer.Stat stat) tt fits; stands = tt }
    stat_info split n true h (answer.Refused why.NotThere) bytes fits =
        record { leads = reads (call.Stat (path (Of Info n))) (answer.Refused why.NotThere) tt fits; stands = tt }
    stat_info split n false h (answer.Refused why.NotThere) bytes fits = record {
      leads = reads (call.Stat (path (Of Info n))) (answer.Refused why.NotThere) tt fits;
      stands = (h.0, (rests_begin.spent now q n G h.1.0.0 (h.1.1 refl) (find_none q.disk.names q.disk.files (Of Info n) fits), h.1.0.1));
    }
    stat_info split n todo h (answer.Refused why.Fault) bytes fits =
        record { leads = reads (call.Stat (path (Of Info n))) (answer.Refused why.Fault) tt fits; stands = tt }
    stat_info split n todo h told bytes fits = absurd fits

    due_call : (row : SweepRow) (own asked : CallData) → ◌≡◌ {A = NeedData} (needs.File own) (needs.File asked) → Steps row own → Steps row asked
    due_call row own asked due h = let same : own ≡ asked = cc in subst (Steps row) same h

    sweep_at : (row : SweepRow) (words : List ℕ) (asked : CallData) → SweepStands now q a row known → due_by (sweep_step row) words ≡ needs.File asked → Steps row asked
    sweep_at sweep.First words asked h due = due_call sweep.First _ asked due (searches 0 _ words)
    sweep_at (sweep.Next split) words asked h due = due_call (sweep.Next split) _ asked due (searches split _ words)
    sweep_at (sweep.StatMess split n) words asked h due = due_call (sweep.StatMess split n) _ asked due (stat_mess split n h)
    sweep_at (sweep.StatTodo split n) words asked h due = due_call (sweep.StatTodo split n) _ asked due (stat_todo split n h)
    sweep_at (sweep.StatInfo split n todo) words asked h due = due_call (sweep.StatInfo split n todo) _ asked due (stat_info split n todo h)
    sweep_at (sweep.Give split n) words asked h due = absurd (cc)
    sweep_at (sweep.Take split n) words asked h due = absurd (cc)
    sweep_at sweep.Over words asked h due = absurd (cc)
    sweep_at sweep.Lost words asked h due = absurd (cc)

pub sweeps_lead : SweepsLead
sweeps_lead now q a row b words read asked told wrote G h soon due fits =
    sweep_at now q a read wrote G b soon row words asked h due told.answer told.bytes fits

-- The finish

-- a row at which nothing was removed yet
knows_on : (row next : Row) (w : About) (k : Known) → (IsLeaving row k.n → ⊥) → Knows row w k → Knows next w k
knows_on row next w k stays (Stays known) = Stays known
knows_on row next w k stays (Leaves leaving) = absurd (stays leaving)

pub known_of : (row : Row) (w : About) (k : Known) → (IsLeaving row k.n → ⊥) → Knows row w k → IsKnown w k
known_of row w k stays (Stays known) = known
known_of row w k stays (Leaves leaving) = absurd (stays leaving)

pub each_on : (q : Queue) (row next : Row) (known : List Known) → ((n : ℕ) → IsLeaving row n → ⊥) → KnowsEach q row known → KnowsEach q next known
each_on q row next known stays h =
    All-weaker (λ (k : Known). Knows row (about q k.n) k) (λ (k : Known). Knows next (about q k.n) k) (λ k it. knows_on row next (about q k.n) k (stays k.n) it) known h

-- a number without todo whose info file is there has its message, which is accepted
has_message : (now : ℕ) (q : Queue) (n : ℕ) → Phase (about q n) → MayEnd (about q n) → IsClosed now q n
has_message now q n (Free h) may = let none = h.unsorted Info refl in let there = may.there in absurd (cc)
has_message now q n (Queued h) may = let none = may.no_todo in let there = h.todo_there in absurd (cc)
has_message now q n (Sorted h) may = record {
  mess = h.taken.mess;
  there = h.taken.mess_there;
  shut = inr (record { injection = h.taken.injection; lives = h.taken.lives; accepted = h.taken.accepted });
}
has_message now q n (Finished h) may = let none = h.unsorted Info refl in let there = may.there in absurd (cc)

module _ (controls : Controls) (now : ℕ) (q : Queue) (a : List ℕ) (read wrote : ℕ) (G : Sound q) (n : ℕ) (known : List Known) (back : Returning) where
  abbrev FinishSteps : CallData → Type 0
  FinishSteps asked = (told : Answer) (bytes : List ℕ) → Fits q.disk asked told wrote
      → FinishLeads controls now a q (called_queue q a read asked told wrote q.role) n (finish_to finish.UnlinkInfo (answered told bytes).way) known back

  may_end : IsIdle n known → look q (Of Bounce n) ≡ None → KnowsEach q (at.Finish finish.UnlinkInfo n) known → MayEnd (about q n)
  may_end idle bare each =
      let at_it = All-contains (λ (k : Known). Knows (at.Finish finish.UnlinkInfo n) (about q k.n) k) known idle.it each idle.there in
      let it = subst (λ m. IsKnown (about q m) idle.it) idle.number (known_of (at.Finish finish.UnlinkInfo n) (about q idle.it.n) idle.it (λ is. is.0) at_it) in
      record { no_todo = it.sorted.no_todo; info = it.sorted.info; there = it.sorted.info_there; gone = λ ch. it.gone ch (idle.none ch); no_bounce = bare }

  unlink_info : IsIdle n known → look q (Of Bounce n) ≡ None → KnowsEach q (at.Finish finish.UnlinkInfo n) known → FinishSteps (call.Unlink (path (Of Info n)))
  unlink_info idle bare each answer.Done bytes fits =
      let may = may_end idle bare each in
      let asked = call.Unlink (path (Of Info n)) in
      let r = called_queue q a read asked answer.Done wrote q.role in
      let leads = ends_keep now q a G read n answer.Done wrote may fits in
      let one = unlinks_one q a read (Of Info n) answer.Done wrote fits in
      let closed = has_message now q n (G.fine n) may in
      record {
        number = Some n;
        only = inr refl;
        closed = one_closed now q n closed;
        leads = leads;
        stands = (
          idle,
          rests_begin.spent now r n leads.sound
              (record { mess = closed.mess; there = one.others (Of Mess n) (λ s. cc) ∙ closed.there; shut = ⊎_elim (λ over. inl over) (λ (s : IsAccepted (about q n)). inr (record { injection = s.injection; lives = s.lives; accepted = s.accepted })) closed.shut })
              (todo_same (about q n).parts (about r n).parts (λ part is. one.others (Of part n) (todo_apart part n (Of Info n) is refl)) ∙ may.no_todo) (one.gone refl),
        );
        knows = All-weaker (λ (k : Known). Knows (at.Finish finish.UnlinkInfo n) (about q k.n) k) (λ (k : Known). Knows (at.Finish finish.Give n) (about r k.n) k)
            (λ k it. ⊎_elim
            (λ same. Leaves (tt, sym same.1))
            (λ far. subst (λ w. Knows (at.Finish finish.Give n) w k) (sym (about_same now a (Some n) q r leads.elsewhere k.n (λ s. far.1 (cc))))
            (knows_on (at.Finish finish.UnlinkInfo n) (at.Finish finish.Give n) (about q k.n) k (λ is. is.0) it))
            (eqb_tells k.n n))
            known each;
      }
  unlink_info idle bare each (answer.Refused why.NotThere) bytes fits = record {
    number = Some n;
    only = inr refl;
    closed = one_closed now q n (has_message now q n (G.fine n) (may_end idle bare each));
    leads = ends_keep now q a G read n (answer.Refused why.NotThere) wrote (may_end idle bare each) fits;
    stands = tt;
    knows = each_on q (at.Finish finish.UnlinkInfo n) (at.Finish finish.Later n) known (λ m is. is.0) each;
  }
  unlink_info idle bare each (answer.Refused why.Fault) bytes fits = record {
    number = Some n;
    only = inr refl;
    closed = one_closed now q n (has_message now q n (G.fine n) (may_end idle bare each));
    leads = ends_keep now q a G read n (answer.Refused why.Fault) wrote (may_end idle bare each) fits;
    stands = tt;
    knows = each_on q (at.Finish finish.UnlinkInfo n) (at.Finish finish.Later n) known (λ m is. is.0) each;
  }
  unlink_info idle bare each told bytes fits = absurd fits

pub ends_lead : (controls : Controls) (now : ℕ) (q : Queue) (a : List ℕ) (n : ℕ) (known : List Known) (back : Returning) (read : ℕ) (asked : CallData) (told : Told) (wrote : ℕ)
    → Sound q → KnowsEach q (at.Finish finish.UnlinkInfo n) known → FinishStands controls now q a finish.UnlinkInfo n known back
    → due_by (finish_step finish.UnlinkInfo n) [] ≡ needs.File asked → Fits q.disk asked told.answer wrote
    → FinishLeads controls now a q (called_queue q a read asked told.answer wrote q.role) n (finish_to finish.UnlinkInfo (answered told.answer told.bytes).way) known back
ends_lead controls now q a n known back read asked told wrote G each h due fits =
    let same : call.Unlink (path (Of Info n)) ≡ asked = file_same (call.Unlink (path (Of Info n))) asked due in
    subst (FinishSteps controls now q a read wrote G n known back) same (unlink_info controls now q a read wrote G n known back h.0 h.1 each) told.answer told.bytes fits
  where
    file_same : (own asked : CallData) → ◌≡◌ {A = NeedData} (needs.File own) (needs.File asked) → own ≡ asked
    file_same own asked due = cc

-- Afterwards

forget_one : (q : Queue) (rest : Row) (n : ℕ) (k : Known) (same : Bool) (more : List Known) → (k.n == n) ≡ same → Knows (at.Finish finish.Take n) (about q k.n) k
    → KnowsEach q rest more → KnowsEach q rest (if not same then k ∷ more else more)
forget_one q rest n k true more is h each = each
forget_one q rest n k false more is h each =
    All-cons (λ (z : Known). Knows rest (about q z.n) z) k more
    (knows_on (at.Finish finish.Take n) rest (about q k.n) k (λ leaving. eqb-false k.n n is (sym leaving.1)) h) each

forgets : (q : Queue) (rest : Row) (n : ℕ) (known : List Known) → KnowsEach q (at.Finish finish.Take n) known → KnowsEach q rest (forgotten n known)
forgets q rest n [] each = All-nil (λ (z : Known). Knows rest (about q z.n) z)
forgets q rest n (k ∷ known) each =
    forget_one q rest n k (k.n == n) (forgotten n known) refl (All-head (λ (z : Known). Knows (at.Finish finish.Take n) (about q z.n) z) k known each)
    (forgets q rest n known (All-tail (λ (z : Known). Knows (at.Finish finish.Take n) (about q z.n) z) k known each))

pub chores_stand : ChoresStand
chores_stand = record {
  finish_gives = λ controls now q a n known back h. h.1;
  sweep_gives = λ now q a split n known h. h.1.0;
  forgets = λ q row rest n known is each. forgets q rest n known (subst (λ z. KnowsEach q z known) is each);
}
