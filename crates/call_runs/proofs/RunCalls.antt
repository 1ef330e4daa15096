-- Calls that are made one after the other.
use Rattle.std.proofs.Common.{false, is_eq, ne_eqb, ⊎_elim, ◌≡◌, ℕ, ◌+◌, ◌≤◌, List, [], ◌∷◌, ◌++◌, length, Option, Some, None, Result, Ok, Err, refl, sym, ap, ◌∙◌, subst, arith, length-append, nat_cmp, BTreeMap}
use Rattle.std.specs.Prelude.{slice_get, OnErr}
use mathlib.Core.Path.{fun_ext}
use Rattle.std.specs.BTreeMap as tree
use Rattle.std.specs.BTreeMap.{get}
use Rattle.std.specs.Cmp.{unsigned_ties}
use Rattle.mail_bytes.specs.Told.{Meets, OnTold, Records}
use Rattle.call_fs.specs.declared.calls.CallData.{CallData}
use Rattle.call_fs.specs.declared.calls.CallData.TheVariants.{CreateExcl, Open, ReadAt, WriteAt, Append, Truncate, Sync, Close, Link, Unlink, Stat, NextName}
use Rattle.call_fs.specs.declared.calls.Answer.{Answer}
use Rattle.call_fs.specs.declared.calls.Answer.TheVariants.{Count, Done}
use Rattle.call_fs.specs.declared.calls.Fd.{Fd}
use Rattle.call_fs.specs.declared.calls.Told.{Told}
use Rattle.call_fs.specs.declared.modes.Mode.{Mode}
use Rattle.call_fs.specs.declared.calls.Recorded.{Recorded}
use Rattle.call_fs.specs.Apply.{Apply, IsReadBy, MayCall}
use Rattle.call_fs.specs.Calls.{bytes_read, entry_with, told_with}
use Rattle.call_fs.specs.Columns.{HasRoomFor, IsAnswerTo, IsMomentIn, IsNumberIn}
use Rattle.call_fs.specs.Disk.{Disk}
use Rattle.call_fs.specs.Maps.{put}
use Rattle.call_fs.specs.Past.{Backs, held_after}
use Rattle.call_fs.specs.Plan.{CallKeepsPlan, Plan}
use Rattle.call_fs.specs.Told.{AnswerHasCause}
use Rattle.call_runs.specs.Running.{AllMay, May, Performs, Runs, StopsAt, held_through, none_held}
use Rattle.call_fs.proofs.Maps.{put_cases}
use Rattle.call_fs.proofs.Held.{backs_call, may_call}

-- ---- one call more

pub runs_more : {D : Type 0} (step : D → ℕ → CallData → Told → D → Type 0) (old mid new : D) (calls : List (ℕ × CallData)) (all : List Told) (call : ℕ × CallData) (got : Told)
    → Runs step old calls all mid → slice_get calls (length all) ≡ Some call → step mid call.0 call.1 got new → Runs step old calls (all ++ got ∷ []) new
runs_more step old mid new [] [] call got ran at made = absurd (cc)
runs_more step old mid new [] (t ∷ ts) call got ran at made = absurd ran
runs_more step old mid new (c ∷ cs) [] call got ran at made =
    let same : c ≡ call = cc in
    let first : step old c.0 c.1 got new = subst (λ o. step o c.0 c.1 got new) ran (subst (λ (x : ℕ × CallData). step mid x.0 x.1 got new) (sym same) made) in
    (new, first, refl)
runs_more step old mid new (c ∷ cs) (t ∷ ts) call got (next, one, rest) at made = (next, one, runs_more step next mid new cs ts call got rest at made)

pub may_more : (held : ℕ → Option Mode) (calls : List (ℕ × CallData)) (all : List Told) (call : ℕ × CallData) (got : Told)
    → AllMay held calls all → slice_get calls (length all) ≡ Some call → May (held_through held calls all) call → AllMay held calls (all ++ got ∷ [])
may_more held [] [] call got may at one = absurd (cc)
may_more held [] (t ∷ ts) call got may at one = absurd may
may_more held (c ∷ cs) [] call got may at one = let same : c ≡ call = cc in (subst (λ (x : ℕ × CallData). May held x) (sym same) one, tt)
may_more held (c ∷ cs) (t ∷ ts) call got may at one = (may.0, may_more (held_after held c.1 t.answer) cs ts call got may.1 at one)

pub held_more : (held : ℕ → Option Mode) (calls : List (ℕ × CallData)) (all : List Told) (call : ℕ × CallData) (got : Told)
    → AllMay held calls all → slice_get calls (length all) ≡ Some call → held_through held calls (all ++ got ∷ []) ≡ held_after (held_through held calls all) call.1 got.answer
held_more held [] [] call got may at = absurd (cc)
held_more held [] (t ∷ ts) call got may at = absurd may
held_more held (c ∷ cs) [] call got may at = let same : c ≡ call = cc in ap (λ (x : ℕ × CallData). held_after held x.1 got.answer) same
held_more held (c ∷ cs) (t ∷ ts) call got may at = held_more (held_after held c.1 t.answer) cs ts call got may.1 at

-- ---- where it stops

pub stops_before : (held : ℕ → Option Mode) (calls : List (ℕ × CallData)) (all : List Told) (call : ℕ × CallData) → AllMay held calls all → slice_get calls (length all) ≡ Some call → ¬ (May (held_through held calls all) call)
    → StopsAt held calls all
stops_before held [] [] call may at never = absurd (cc)
stops_before held [] (t ∷ ts) call may at never = absurd may
stops_before held (c ∷ cs) [] call may at never = let same : c ≡ call = cc in λ one. never (subst (λ (x : ℕ × CallData). May held x) same one)
stops_before held (c ∷ cs) (t ∷ ts) call may at never = (may.0, stops_before (held_after held c.1 t.answer) cs ts call may.1 at never)

pub stops_after : (held : ℕ → Option Mode) (calls : List (ℕ × CallData)) (all : List Told) → AllMay held calls all → length calls ≤ length all → StopsAt held calls all
stops_after held [] [] may within = tt
stops_after held [] (t ∷ ts) may within = absurd may
stops_after held (c ∷ cs) [] may within = absurd (omega (arith, within))
stops_after held (c ∷ cs) (t ∷ ts) may within = (may.0, stops_after (held_after held c.1 t.answer) cs ts may.1 (omega (arith, within)))

-- ---- while calls are made

-- The calls so far were made, each might be, and what they hold is in the map, and open on the disk.
pub record Running {D : Type 0} (disk : D → Option Disk) (step : D → ℕ → CallData → Told → D → Type 0) (first now : D) (calls : List (ℕ × CallData)) (i : ℕ) (all : List Told) (held : BTreeMap ℕ Mode) : Type 0 where
  pub count : length all ≡ i
  pub ran : Runs step first calls all now
  pub might : AllMay none_held calls all
  pub holds : get nat_cmp held ≡ held_through none_held calls all
  pub backs : OnTold (disk now) (λ d. Backs d (get nat_cmp held))

pub running_none : {D : Type 0} (disk : D → Option Disk) (step : D → ℕ → CallData → Told → D → Type 0) (first : D) (calls : List (ℕ × CallData)) (all : List Told) (held : BTreeMap ℕ Mode)
    → all ≡ [] → held.entries ≡ [] → Running disk step first first calls 0 all held
running_none disk step first calls all held none empty =
    subst (λ (l : List Told). Running disk step first first calls 0 l held) (sym none)
    (record {
      count = refl;
      ran = refl;
      might = tt;
      holds = nothing;
      backs = backs_nothing (disk first);
    })
  where
    nothing : get nat_cmp held ≡ none_held
    nothing = fun_ext (λ fd. rw empty refl)

    backs_nothing : (o : Option Disk) → OnTold o (λ d. Backs d (get nat_cmp held))
    backs_nothing None = tt
    backs_nothing (Some d) = λ fd mode is. let no : get nat_cmp held fd ≡ None = ap (λ (h : ℕ → Option Mode). h fd) nothing in absurd (cc)

-- what a call that was made leaves held is open
backs_more : (before after : Option Disk) (now : ℕ) (call : CallData) (answer : Answer) (h k : ℕ → Option Mode) → Meets before after (λ b a. Apply b now call answer a) → OnTold before (λ d. Backs d h) → k ≡ held_after h call answer
    → OnTold after (λ d. Backs d k)
backs_more None None now call answer h k told backs is = tt
backs_more None (Some a) now call answer h k told backs is = absurd told
backs_more (Some b) None now call answer h k told backs is = absurd told
backs_more (Some b) (Some a) now call answer h k told backs is = subst (λ (f : ℕ → Option Mode). Backs a f) (sym is) (backs_call b a now call answer h told backs)

module _ {D : Type 0} (disk : D → Option Disk) (step : D → ℕ → CallData → Told → D → Type 0) (first mid : D) (calls : List (ℕ × CallData)) (i : ℕ) (all : List Told) (held : BTreeMap ℕ Mode) (call : ℕ × CallData)
    (r : Running disk step first mid calls i all held) (here : slice_get calls i ≡ Some call)
  where
    at_end : slice_get calls (length all) ≡ Some call
    at_end = ap (λ (n : ℕ). slice_get calls n) r.count ∙ here

    pub running_more : (new : D) (kept : BTreeMap ℕ Mode) (got : Told) → May (get nat_cmp held) call → step mid call.0 call.1 got new → Meets (disk mid) (disk new) (λ b a. Apply b call.0 call.1 got.answer a)
        → ((fd : ℕ) → get nat_cmp kept fd ≡ held_after (get nat_cmp held) call.1 got.answer fd) → Running disk step first new calls (i + 1) (all ++ got ∷ []) kept
    running_more new kept got may made told holds = record {
      count = omega (arith, r.count, length-append all (got ∷ []));
      ran = runs_more step first mid new calls all call got r.ran at_end made;
      might = may_more none_held calls all call got r.might at_end (subst (λ (h : ℕ → Option Mode). May h call) r.holds may);
      holds =
          fun_ext holds
          ∙ ap (λ (h : ℕ → Option Mode). held_after h call.1 got.answer) r.holds
          ∙ sym (held_more none_held calls all call got r.might at_end);
      backs = backs_more (disk mid) (disk new) call.0 call.1 got.answer (get nat_cmp held) (get nat_cmp kept) told r.backs (fun_ext holds);
    }

    -- the calls so far and this one
    pub ran_more : (new : D) (got : Told) → step mid call.0 call.1 got new → (told : List Told) × Runs step first calls told new
    ran_more new got made = (all ++ got ∷ [], runs_more step first mid new calls all call got r.ran at_end made)

    -- the next call may be made
    pub may_make : May (get nat_cmp held) call → OnTold (disk mid) (λ d. MayCall d call.1)
    may_make may = by (disk mid) r.backs
      where
        by : (o : Option Disk) → OnTold o (λ d. Backs d (get nat_cmp held)) → OnTold o (λ d. MayCall d call.1)
        by None backs = tt
        by (Some d) backs = may_call d (get nat_cmp held) backs call.1 may.1

    -- the next call may not be made
    pub stops_here : ¬ (May (get nat_cmp held) call) → StopsAt none_held calls all
    stops_here never = stops_before none_held calls all call r.might at_end (λ one. never (subst (λ (h : ℕ → Option Mode). May h call) (sym r.holds) one))

-- ---- a map as a function of the descriptor

other_number : (n m : ℕ) → (m ≡ n → ⊥) → is_eq (nat_cmp n m) ≡ false
other_number n m far = sym (unsigned_ties n m) ∙ ne_eqb n m (λ e. far (sym e))

pub put_from : (old new : BTreeMap ℕ Mode) (k : ℕ) (w : Option Mode) → tree.Updates nat_cmp old new k w → (q : ℕ) → get nat_cmp new q ≡ put (get nat_cmp old) k w q
put_from old new k w updates q = ⊎_elim
    (λ h. ap (λ (n : ℕ). get nat_cmp new n) h.0 ∙ updates.1 ∙ sym h.1)
    (λ h. updates.2 q (other_number k q h.0) ∙ sym h.1)
    (put_cases (get nat_cmp old) k w q)

-- a descriptor that was closed is held no more
pub held_closed : (h : ℕ → Option Mode) (call : CallData) (told : Answer) (fd : Fd) → call ≡ Close fd → told ≡ Done → (q : ℕ) → held_after h call told q ≡ put h fd.0 None q
held_closed h call told fd is_close is_done q = rw (is_close, is_done) refl

-- ---- what was read

-- no answer counts more bytes than were asked for
pub count_within : (call : CallData) (n : ℕ) → IsAnswerTo call (Count n) → HasRoomFor 8192 call → n ≤ 8192
count_within (CreateExcl name) n kind room = absurd kind
count_within (Open name how) n kind room = absurd kind
count_within (ReadAt fd at len) n kind room = omega (arith, kind, room)
count_within (WriteAt fd at bytes) n kind room = absurd kind
count_within (Append fd bytes) n kind room = absurd kind
count_within (Truncate fd len) n kind room = absurd kind
count_within (Sync fd) n kind room = absurd kind
count_within (Close fd) n kind room = absurd kind
count_within (Link old new) n kind room = absurd kind
count_within (Unlink name) n kind room = absurd kind
count_within (Stat name) n kind room = absurd kind
count_within (NextName dir after) n kind room = absurd kind

-- a fact holds where there is an error
pub on_err : {T E P : Type 0} (r : Result T E) → P → OnErr r P
on_err (Ok t) p = tt
on_err (Err e) p = p

-- ---- what `perform` says, as one record

module _ {D : Type 0} (disk : D → Option Disk) (calls : D → Option (List Recorded)) (chosen : D → Option Plan) (failed : D → ℕ) where
  -- its clauses, for the call that it was handed
  pub record Clauses (old new : D) (now : ℕ) (made : CallData) (answer : Answer) (into : List ℕ) : Type 0 where
    pub told : Meets (disk old) (disk new) (λ before after. Apply before now made answer after)
    pub recorded : Records (calls old) (calls new) (entry_with made answer into)
    pub read : OnTold (disk old) (λ before. IsReadBy before made (told_with answer into))
    pub kind : IsAnswerTo made answer
    pub moment : IsMomentIn answer
    pub number : IsNumberIn answer
    pub plan : CallKeepsPlan made (chosen old) (chosen new) (disk old) (disk new) answer
    pub cause : AnswerHasCause (failed old) (failed new) answer

  pub performs : (old new : D) (now : ℕ) (made call : CallData) (answer kept : Answer) (into bytes : List ℕ) → made ≡ call → kept ≡ answer → bytes ≡ bytes_read answer into
      → Clauses old new now made answer into → Performs disk calls chosen failed old now call (record { answer = kept; bytes = bytes }) new
  performs old new now made call answer kept into bytes same keeps is c =
      subst (λ (x : CallData). Performs disk calls chosen failed old now x (record { answer = kept; bytes = bytes }) new) same
      (subst (λ (a : Answer). Performs disk calls chosen failed old now made (record { answer = a; bytes = bytes }) new) (sym keeps)
      (subst (λ (l : List ℕ). Performs disk calls chosen failed old now made (record { answer = answer; bytes = l }) new) (sym is)
      (record { told = c.told; recorded = c.recorded; read = c.read; kind = c.kind; moment = c.moment; number = c.number; plan = c.plan; cause = c.cause })))
